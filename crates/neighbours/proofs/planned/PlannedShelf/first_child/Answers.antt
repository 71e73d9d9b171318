use Rattle.std.proofs.Common.{ℕ, List, length, ap, ◌∙◌, subst, rules, tests}
use Rattle.std.proofs.lemmas.Iterator.{first_from_find}
use Rattle.std.proofs.lemmas.Iterator.Consumers.{YieldsList-from_first}
use Rattle.std.proofs.lemmas.Iterator.Search.{YieldsList-from_take_while}
use Rattle.shelf.specs.declared.row.Row.{Row}
use Rattle.shelf.specs.Stretch.{stretch}
use Rattle.neighbours.specs.Planned.{labels, rows}
use Rattle.neighbours.specs.Children.{FirstChild}
use Rattle.neighbours.proofs.Walks.{IsChild, mapped, first_walk, low}
use Rattle.neighbours.proofs.planned.PlannedShelf.first_child.Goals as goal

pub returns : goal.returns
returns g c =
    let L = labels g.P.WidthPlan c.args.self.now in
    let rs = rows g.S.Reading c.args.self.now in
    let up = (g.met.S.Reading.lawful c.args.self.now.shelf.now).rising in
    let p : ℕ = c.args.parent in
    let found =
    first_from_find _ _ c.find.result (IsChild L rs up p) (λ (x : Row). ¬ (IsChild L rs up p x)) c.find.ensures.ran
    (YieldsList-from_take_while _ (low rs up c.args.start c.args.end)
    (YieldsList-from_first (λ (x : Row). x) (λ (xs : List Row). xs) (stretch rs c.args.start (length rs))
    (c.take_while.ensures.source ∙ c.new.ensures ∙ ap (stretch rs c.args.start) c.count.ensures))
    c.take_while.ensures.closure c.take_while.ensures.done (λ x b q k. search (rules, tests)))
    (λ x q k. search (rules, tests)) (λ x q k. search (rules, tests)) in
    subst (FirstChild L rs p c.args.start) (mapped _ (λ (x : Row). x.label) (λ x y k. search (rules, tests)) c.find.result c.map.result c.map.ensures.cases)
    (first_walk L rs up p c.args.end c.args.start c.requires c.find.result found)
