use Rattle.label.specs.Label.{word_bits}
use Rattle.label.proofs.Theorems.{reads, sized}
use Rattle.label.proofs.reading.read.Goals as goal

pub returns : goal.returns
returns g c =
    let said = c.read_pieces.ensures in
    let as_label = reads _ word_bits _ _ c.ranges.word.fits said in
    record { reads = as_label; sized = sized _ word_bits (g.met.P.WidthPlan.low c.args.plan.now) _ _ as_label }
