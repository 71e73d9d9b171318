use Rattle.std.proofs.Common.{None, Some, sym, ◌∙◌}
use Rattle.label.specs.Label.{word_bits}
use Rattle.neighbours.proofs.WordReads.{parent_read}
use Rattle.neighbours.proofs.words.parent_of.Goals as goal

pub returns-in_err-ok : goal.returns-in_err-ok
returns-in_err-ok g c =
    parent_read (g.P.WidthPlan.width c.args.plan.now) word_bits c.args.word c.read.result c.read.ensures.reads None c.in_err-ok.ensures.value ∙ sym c.from_residual.ensures

pub returns : goal.returns
returns g c = parent_read (g.P.WidthPlan.width c.args.plan.now) word_bits c.args.word c.read.result c.read.ensures.reads (Some c.in_ok-ok.field-0) c.in_ok-ok.ensures.value
