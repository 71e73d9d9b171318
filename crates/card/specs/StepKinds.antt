-- The kinds of step and their numbers.
use Rattle.std.specs.Prelude.{◌≡◌, ◌≢◌, ℕ, Result, MatchResult}
use Rattle.card.specs.declared.fault.CardFault.{CardFault}
use Rattle.card.specs.declared.firing.step_kind.StepKind.{StepKind}
use Rattle.card.specs.declared.firing.step_kind.StepKind.TheVariants.{Section, Ramp, Hold, Cool}

-- the number of a kind of step in a card's word
abbrev pub number : StepKind → ℕ
number Section = 1
number Ramp = 2
number Hold = 3
number Cool = 4

-- a number is read as the kind that has it, and is refused where none has
abbrev pub Numbers : ℕ → Result StepKind CardFault → Type 0
Numbers n r = MatchResult r (λ kind. number kind ≡ n) (λ _. (kind : StepKind) → number kind ≢ n)
