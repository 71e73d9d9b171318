use Rattle.std.proofs.Common.{◌<◌, take, set, sym, ap, ◌∙◌, arith}
use lib.Seq.{take-set-lt}
use mathlib.Core.Path.{subst⁻¹}
use Rattle.std.proofs.lemmas.List.{length-set, length-take-le, get_or-take}
use Rattle.shelf.specs.Rows.{blank, Rising, restated}
use Rattle.shelf.proofs.Edits.{rising_set}
use Rattle.shelf.proofs.table.OrderedTable.restate.Goals as goal

pub invariant_of-self : goal.invariant_of-self
invariant_of-self c =
    let t = c.args.self.now in
    let xs = t.slots.now in
    let i = c.args.index in
    let h : i < t.len = omega (arith, c.requires, length-take-le t.len xs t.fits) in
    let same = ap (λ r. r.label) (c.restated.ensures ∙ ap (λ r. restated r c.args.state c.args.card) (sym (get_or-take t.len xs i blank h))) in
    record {
      few = t.few;
      fits = simp length-set t.fits;
      rising = subst⁻¹ Rising (take-set-lt t.len xs i c.restated.result h) (rising_set (take t.len xs) i c.restated.result same t.rising);
    }

pub returns-clause-rows : goal.returns-clause-rows
returns-clause-rows c =
    let t = c.args.self.now in
    let xs = t.slots.now in
    let i = c.args.index in
    let h : i < t.len = omega (arith, c.requires, length-take-le t.len xs t.fits) in
    take-set-lt t.len xs i c.restated.result h
    ∙ ap (set (take t.len xs) i) (c.restated.ensures ∙ ap (λ r. restated r c.args.state c.args.card) (sym (get_or-take t.len xs i blank h)))
