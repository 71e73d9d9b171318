use Rattle.std.proofs.Common.{◌≡◌, ◌+◌, take, drop, ◌++◌, ap, ◌∙◌, arith}
use Rattle.std.specs.List.{insert}
use mathlib.Core.Path.{subst⁻¹}
use Rattle.std.proofs.lemmas.List.{length-take-le, take_at}
use Rattle.shelf.specs.Rows.{Rising}
use Rattle.shelf.specs.Changes.{with_row}
use Rattle.shelf.proofs.Ranks.{rank_le}
use Rattle.shelf.proofs.Edits.{length_with_row, rising_with_row}
use Rattle.shelf.proofs.table.OrderedTable.insert.Goals as goal

pub insert_row-requires-clause-within : goal.insert_row-requires-clause-within
insert_row-requires-clause-within c =
    let t = c.args.self.now in
    let le = rank_le (take t.len t.slots.now) c.args.row.label in
    omega (arith, c.requires.rank, length-take-le t.len t.slots.now t.fits)

pub invariant_of-self : goal.invariant_of-self
invariant_of-self c =
    let t = c.args.self.now in
    let rows = take t.len t.slots.now in
    let len = length-take-le t.len t.slots.now t.fits in
    let new : c.insert_row.new.slots ≡ with_row rows c.args.row ++ drop (t.len + 1) t.slots.now =
    c.insert_row.ensures ∙ ap (λ n. insert rows n c.args.row ++ drop (t.len + 1) t.slots.now) c.requires.rank in
    let put : take (t.len + 1) c.insert_row.new.slots ≡ with_row rows c.args.row =
    ap (take (t.len + 1)) new ∙ take_at _ _ _ (omega (arith, length_with_row rows c.args.row)) in
    let up = rising_with_row rows c.args.row t.rising c.requires.absent in
    record { few = omega (arith, c.requires.room); fits = omega (arith, c.requires.room, c.insert_row.auto.slots); rising = subst⁻¹ Rising put up }
