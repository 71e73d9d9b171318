use Rattle.std.proofs.Common.{sym, ap, ◌∙◌, subst}
use Rattle.std.specs.Option.{option_flatten}
use Rattle.label.specs.Label.{word_bits}
use Rattle.gap.specs.PlanLabels.{labels_of}
use Rattle.neighbours.specs.Below.{LedEnd}
use Rattle.neighbours.proofs.Belows.{led_read, children_led}
use Rattle.neighbours.proofs.WordReads.{plan_sound}
use Rattle.neighbours.proofs.words.led_up_to.Goals as goal

pub returns : goal.returns
returns g c =
    let w = g.P.WidthPlan.width c.args.plan.now in
    let led = subst (LedEnd (labels_of w word_bits) c.args.label) (sym (c.flatten.ensures ∙ ap option_flatten c.ok.ensures.value))
    (led_read w word_bits c.args.label c.led_end.result c.led_end.ensures) in
    record {
      led = led;
      children = children_led (labels_of w word_bits) (plan_sound w (g.met.P.WidthPlan.low c.args.plan.now) (g.met.P.WidthPlan.high c.args.plan.now)) c.args.label c.flatten.result led;
    }
