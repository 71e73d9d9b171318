use Rattle.std.proofs.Common.{rules, ◌-◌, min, length, slice_index_or, arith}
use Rattle.plan.proofs.Arrays.{element_from_fn}
use Rattle.plan.proofs.widths.Widths.filled.Goals as goal

-- the eight widths are what the closure gave, and over 8 the list has none
pub returns : goal.returns
returns c i =
    let list = c.args.list.now in
    let made = c.from_fn.ensures.items in
    let at = element_from_fn _ _ (λ k. slice_index_or list (min k (length list - 1)) 0) (λ k y q call. search rules) c.from_fn.result 0 8 made (min i 7) (omega arith) in
    let long = made.long in
    search rules
