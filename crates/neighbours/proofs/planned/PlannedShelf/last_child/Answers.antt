use Rattle.std.proofs.Common.{ℕ, ◌∙◌, subst, rules, tests}
use Rattle.std.proofs.lemmas.Iterator.{first_from_find}
use Rattle.std.proofs.lemmas.Iterator.Consumers.{YieldsList-at}
use Rattle.std.proofs.lemmas.Iterator.Search.{YieldsList-from_take_while}
use Rattle.shelf.specs.declared.row.Row.{Row}
use Rattle.shelf.specs.Stretch.{stretch}
use Rattle.neighbours.specs.Planned.{labels, rows}
use Rattle.neighbours.specs.Children.{LastChild}
use Rattle.neighbours.proofs.Walks.{IsChild, mapped, rows_back, last_walk, high}
use Rattle.neighbours.proofs.WordReads.{plan_sound}
use Rattle.neighbours.proofs.planned.PlannedShelf.last_child.Goals as goal

pub returns : goal.returns
returns g c =
    let plan = c.args.self.now.plan.now in
    let L = labels g.P.WidthPlan c.args.self.now in
    let rs = rows g.S.Reading c.args.self.now in
    let up = (g.met.S.Reading.lawful c.args.self.now.shelf.now).rising in
    let S = plan_sound (g.P.WidthPlan.width plan) (g.met.P.WidthPlan.low plan) (g.met.P.WidthPlan.high plan) in
    let p : ℕ = c.args.parent in
    let found =
    first_from_find _ _ c.find.result (IsChild L rs up p) (λ (x : Row). ¬ (IsChild L rs up p x)) c.find.ensures.ran
    (YieldsList-from_take_while _ (high L rs up p c.args.count)
    (YieldsList-at c.take_while.ensures.source (rows_back c.rev.result (stretch rs 0 c.args.count) (c.rev.ensures.source ∙ c.new.ensures)))
    c.take_while.ensures.closure c.take_while.ensures.done (λ x b q k. search (rules, tests)))
    (λ x q k. search (rules, tests)) (λ x q k. search (rules, tests)) in
    subst (LastChild L rs p c.args.count) (mapped _ (λ (x : Row). x.label) (λ x y k. search (rules, tests)) c.find.result c.map.result c.map.ensures.cases)
    (last_walk L rs up p c.args.count S c.find.result found)
