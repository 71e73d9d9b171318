use Rattle.std.proofs.Common.{sym, subst, rules, tests}
use Rattle.neighbours.specs.Planned.{labels, rows}
use Rattle.places.proofs.RowsOf.{IsKnown, known, weaker}
use Rattle.places.proofs.rows.known_row.Goals as goal

pub returns : goal.returns
returns g c =
    let rs = rows g.S.Reading c.args.planned.now in
    let L = labels g.P.WidthPlan c.args.planned.now in
    subst (IsKnown rs c.args.label L) (sym c.ok_or.ensures.value) (known rs c.args.label L c.row_of.result c.row_of.ensures c.filter.result
    (weaker c.row_of.result _ _ _ (λ found k. search (rules, tests)) c.filter.ensures))
