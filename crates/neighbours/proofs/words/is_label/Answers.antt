use Rattle.std.proofs.lemmas.Bool.Decides.{Decides-at}
use Rattle.label.specs.Label.{word_bits}
use Rattle.neighbours.proofs.WordReads.{label_read}
use Rattle.neighbours.proofs.words.is_label.Goals as goal

pub returns : goal.returns
returns g c =
    Decides-at _ _ c.is_ok.ensures.value (label_read (g.P.WidthPlan.width c.args.plan.now) word_bits c.args.word c.read.result c.read.ensures.reads)
