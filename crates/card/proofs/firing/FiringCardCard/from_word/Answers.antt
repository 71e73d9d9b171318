use Rattle.std.proofs.Common.{rules}
use Rattle.card.specs.declared.firing.step_kind.StepKind.TheVariants.{Section, Ramp, Hold, Cool}
use Rattle.card.proofs.firing.FiringCardCard.from_word.Goals as goal

-- a number that no kind has makes no card
pub returns-in_err-kind : goal.returns-in_err-kind
returns-in_err-kind c =
    let none = c.in_err-kind.ensures in
    let not_section = none Section in
    let not_ramp = none Ramp in
    let not_hold = none Hold in
    let not_cool = none Cool in
    search rules
