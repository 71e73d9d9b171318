use Rattle.std.proofs.Common.{rules, ◌-◌, length, ap, refl, ◌∙◌}
use Rattle.std.proofs.lemmas.Iterator.{first_from_find, YieldsList-from_range, YieldsList-from_zip}
use Rattle.std.proofs.lemmas.Iterator.Consumers.{YieldsList-from_first}
use borrow.Author.Tests.{tests}
use Rattle.shelf.specs.Scan.{FilledAbove}
use Rattle.shelf.specs.Stretch.{stretch}
use Rattle.shelf.proofs.Scans.{first_is_next}
use Rattle.shelf.proofs.scan.next_filled.Goals as goal

pub returns : goal.returns
returns g c =
    let rs = g.S.Reading.rows c.args.shelf.now in
    let range = YieldsList-from_range c.rank-start.result (length rs) (length rs - c.rank-start.result)
    (c.zip.ensures.first ∙ ap (λ n. record { start = c.rank-start.result; end = n }) c.count-count.ensures) refl in
    let rows = YieldsList-from_first (λ r. r) (λ rest. rest) (stretch rs c.rank-start.result (length rs))
    (c.zip.ensures.second ∙ c.new.ensures ∙ ap (stretch rs c.rank-start.result) c.count-count.ensures) in
    first_is_next rs _ c.rank-start.result _ (g.met.S.Reading.lawful _).rising c.rank-start.ensures
    (first_from_find {v = λ p. (p.0, p.1)} _ _ c.find.result (λ p. FilledAbove c.args.mark p.1) (λ p. FilledAbove c.args.mark p.1 → ⊥) c.find.ensures.ran
    (YieldsList-from_zip range rows) (λ x q k. search (rules, tests)) (λ x q k. search (rules, tests)))
