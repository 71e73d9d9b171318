use Rattle.std.proofs.Common.{rules, tests}
use Rattle.shelf.specs.declared.row.State.TheVariants.{Filled}
use Rattle.places.proofs.RowsOf.{tested, weaker}
use Rattle.places.proofs.rows.is_filled.Goals as goal

pub returns : goal.returns
returns g c =
    tested (g.S.Reading.rows c.args.shelf.now) c.args.label (g.met.S.Reading.lawful c.args.shelf.now).rising Filled c.row_of.result c.row_of.ensures c.is_some_and.result
    (weaker c.row_of.result _ _ _ (λ found k. search (rules, tests)) c.is_some_and.ensures)
