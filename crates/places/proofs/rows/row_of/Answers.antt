use Rattle.std.proofs.Common.{sym, subst}
use Rattle.places.specs.Checked.{RowOf}
use Rattle.places.proofs.RowsOf.{not_found, not_past, found_row}
use Rattle.places.proofs.rows.row_of.Goals as goal

pub returns-in_err-index : goal.returns-in_err-index
returns-in_err-index g c =
    subst (RowOf (g.S.Reading.rows c.args.shelf.now) c.args.label) (sym c.from_residual.ensures)
    (not_found (g.S.Reading.rows c.args.shelf.now) c.args.label (sym c.in_err-index.ensures))

pub returns-in_err-row : goal.returns-in_err-row
returns-in_err-row g c =
    absurd (not_past (g.S.Reading.rows c.args.shelf.now) c.args.label c.in_ok-index.index (sym c.in_ok-index.ensures) c.in_err-row.ensures)

pub returns : goal.returns
returns g c = found_row (g.S.Reading.rows c.args.shelf.now) c.args.label c.in_ok-index.index (sym c.in_ok-index.ensures) c.in_ok-row.row c.in_ok-row.ensures
