use Rattle.std.proofs.Common.{List, length, ap, ◌∙◌, rules, tests}
use Rattle.std.proofs.lemmas.Iterator.{cases_from_any}
use Rattle.std.proofs.lemmas.Iterator.Consumers.{YieldsList-from_first}
use Rattle.std.proofs.lemmas.Iterator.Search.{YieldsList-from_take_while}
use Rattle.shelf.specs.declared.row.Row.{Row}
use Rattle.shelf.specs.Stretch.{stretch}
use Rattle.neighbours.specs.Planned.{labels, rows}
use Rattle.neighbours.proofs.Walks.{IsUsed, below_walk, low}
use Rattle.neighbours.proofs.planned.PlannedShelf.stands_below.Goals as goal

pub returns : goal.returns
returns g c =
    let L = labels g.P.WidthPlan c.args.self.now in
    let rs = rows g.S.Reading c.args.self.now in
    let up = (g.met.S.Reading.lawful c.args.self.now.shelf.now).rising in
    below_walk L rs up c.args.label c.in-Some.end c.rank_past.result c.in-Some.ensures.led c.rank_past.ensures c.any.result
    (cases_from_any _ _ c.any.result (IsUsed L) (λ (x : Row). ¬ (IsUsed L x)) c.any.ensures.ran
    (YieldsList-from_take_while _ (low rs up c.rank_past.result c.in-Some.end)
    (YieldsList-from_first (λ (x : Row). x) (λ (xs : List Row). xs) (stretch rs c.rank_past.result (length rs))
    (c.take_while.ensures.source ∙ c.new.ensures ∙ ap (stretch rs c.rank_past.result) c.count.ensures))
    c.take_while.ensures.closure c.take_while.ensures.done (λ x b q k. search (rules, tests)))
    (λ x q k. search (rules, tests)) (λ x q k. search (rules, tests)))
