use Rattle.std.proofs.Common.{ℕ, ◌+◌, ◌^◌, ◌<◌, ◌≤◌, Some, sym, ◌∙◌, arith, pow_mono}
use Rattle.std.proofs.lemmas.List.{nil_from_length}
use Rattle.label.specs.Label.{word_bits}
use Rattle.label.specs.Spelling.{WritesFrom}
use Rattle.label.proofs.Spelt.{spelling_some, no_value, last_value, no_room, no_rest, whole_value}
use Rattle.label.proofs.writing.+spell.Given as given
use Rattle.label.proofs.writing.+spell.Goals as goal

pub returns-in_err-first : goal.returns-in_err-first
returns-in_err-first g t c =
    rw c.from_residual.ensures (λ d is f b. spelling_some d (is ∙ nil_from_length c.args.subvalues.now c.in_err-first.ensures.cases))

pub returns-in_err-value : goal.returns-in_err-value
returns-in_err-value g t c =
    rw c.from_residual-in_err-value.ensures
    (no_value _ _ _ _ c.width-width.ensures.is c.in_ok-first.ensures.cases.0 c.in_err-value.ensures)

pub returns-then-is_empty : goal.returns-then-is_empty
returns-then-is_empty g t c =
    rw c.then_some.ensures
    (last_value _ _ _ _ c.width-width.ensures.is c.in_ok-first.ensures.cases.0 _ c.in_ok-value.ensures (sym c.if-is_empty.ensures))

pub returns-then-spot-width : goal.returns-then-spot-width
returns-then-spot-width g t c =
    no_room _ _ _ _ c.width-width.ensures.is c.in_ok-first.ensures.cases.0 (sym c.if-is_empty.ensures) (λ some. omega (arith, c.if-spot-width.true))

pub returns-in_err-rest : goal.returns-in_err-rest
returns-in_err-rest g t c =
    let room = c.in_ok-value.ensures in
    rw c.from_residual-in_err-rest.ensures
    (no_rest _ _ _ _ c.width-width.ensures.is c.in_ok-first.ensures.cases.0 (grind (arith, room.0))
    c.behind-next.ensures.left c.behind-next.ensures.level c.behind-next.ensures.position (sym c.if-is_empty.ensures) c.in_err-rest.ensures)

-- what the subvalue and the rest are written as, and that it fits
whole : (g : given.Over) (t : ℕ) (c : goal.After-separator g t)
    → let total : ℕ = c.in_ok-value.value + c.separator.result + c.in_ok-rest.rest in
    WritesFrom (g.P.WidthPlan.width c.args.plan.now) c.args.spot.left c.args.spot.level c.args.spot.position c.args.subvalues.now (Some total)
    × (total < 2 ^ word_bits)
whole g t c =
    let room = c.in_ok-value.ensures in
    let all = whole_value _ _ _ _ c.width-width.ensures.is c.in_ok-first.ensures.cases.0 (grind (arith, room.0))
    c.behind-next.ensures.left c.behind-next.ensures.level c.behind-next.ensures.position _ _ room c.separator.ensures c.in_ok-rest.ensures in
    let most : 2 ^ c.args.spot.left ≤ 2 ^ word_bits = pow_mono c.args.spot.within in
    (all.0, omega (arith, all.1, most))

pub overflow_add-result : goal.overflow_add-result
overflow_add-result g t c = omega (arith, (whole g t c).1)

pub overflow_add-result-2 : goal.overflow_add-result-2
overflow_add-result-2 g t c = omega (arith, (whole g t c).1)

pub returns : goal.returns
returns g t c = (whole g t c).0
