use Rattle.std.proofs.Common.{set, ap, ◌∙◌}
use Rattle.shelf.proofs.Shifts.{inserted_by_copy}
use Rattle.shelf.proofs.table.write.insert_row.Goals as goal

pub returns : goal.returns
returns c =
    ap (λ xs. set xs c.args.at c.args.row) c.copy_within.ensures.after
    ∙ inserted_by_copy c.args.slots.now c.args.at c.args.len c.args.row c.requires.within c.requires.room
