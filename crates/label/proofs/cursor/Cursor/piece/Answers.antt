use Rattle.std.proofs.Common.{◌-◌, arith}
use mir.Facts.{Fits-of_lt}
use Rattle.label.proofs.Pieces.{value_small}
use Rattle.label.proofs.cursor.Cursor.piece.Goals as goal

pub overflow_cast-value-2 : goal.overflow_cast-value-2
overflow_cast-value-2 c =
    Fits-of_lt (value_small c.args.width c.args.self.spot.left (c.args.self.spot.left - c.args.width) c.args.self.rest (omega arith) c.requires.1 c.args.self.small)
