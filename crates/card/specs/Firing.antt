-- Firing cards and their words.
use Rattle.std.specs.Prelude.{◌≡◌, ℕ, ◌+◌, ◌*◌, ◌/◌, ◌%◌, ◌^◌, cond, ◌&&◌, ◌⊎◌, List, ◌++◌, Some, None, codes, decimal, Option, ◌==◌}
use Rattle.card.specs.Bounds.{Within, both, bounded}
use Rattle.card.specs.declared.firing.FiringCard.{FiringCard}
use Rattle.card.specs.declared.firing.FiringCard.TheVariants.{Section, Ramp, Hold, Cool}

-- the word of a kind and three numbers of 16 bits
abbrev pub packed : (kind target rate minutes : ℕ) → ℕ
packed kind target rate minutes = kind * 2 ^ 48 + target * 2 ^ 32 + rate * 2 ^ 16 + minutes

-- the word of a card
abbrev pub code : FiringCard → ℕ
code Section = packed 1 0 0 0
code (Ramp t r) = packed 2 t.value r.value 0
code (Hold t m) = packed 3 t.value 0 m.value
code (Cool t r) = packed 4 t.value r.value 0

-- the ramp, the hold and the cooling that two numbers make, if any
abbrev pub ramp_of : (target rate : ℕ) → Option FiringCard
ramp_of target rate = both Ramp (bounded 20 1200 target) (bounded 1 600 rate)

abbrev pub hold_of : (target minutes : ℕ) → Option FiringCard
hold_of target minutes = both Hold (bounded 20 1200 target) (bounded 1 1440 minutes)

abbrev pub cool_of : (target rate : ℕ) → Option FiringCard
cool_of target rate = both Cool (bounded 20 1200 target) (bounded 1 600 rate)

-- the card that a kind and three numbers make, if any
abbrev pub card_of : (kind target rate minutes : ℕ) → Option FiringCard
card_of kind target rate minutes =
    cond (kind == 1 && (target == 0 && (rate == 0 && minutes == 0))) (Some Section)
    (cond (kind == 2 && minutes == 0) (ramp_of target rate)
    (cond (kind == 3 && rate == 0) (hold_of target minutes)
    (cond (kind == 4 && minutes == 0) (cool_of target rate)
    None)))

-- the card that a word makes, if any
abbrev pub decode : ℕ → Option FiringCard
decode word = card_of (word / 2 ^ 48) (word / 2 ^ 32 % 2 ^ 16) (word / 2 ^ 16 % 2 ^ 16) (word % 2 ^ 16)

-- w is the word of a ramp (kind 2) or a cooling (kind 4) with lawful numbers
pub record SlopeWord (kind w : ℕ) : Type 0 where
  pub target : ℕ
  pub rate : ℕ
  pub target_lawful : Within 20 1200 target
  pub rate_lawful : Within 1 600 rate
  pub word : w ≡ kind * 2 ^ 48 + target * 2 ^ 32 + rate * 2 ^ 16

-- w is the word of a hold with lawful numbers
pub record HoldWord (w : ℕ) : Type 0 where
  pub target : ℕ
  pub minutes : ℕ
  pub target_lawful : Within 20 1200 target
  pub minutes_lawful : Within 1 1440 minutes
  pub word : w ≡ 3 * 2 ^ 48 + target * 2 ^ 32 + minutes

-- w is the word of a lawful card: of the section, a ramp, a hold or a cooling
abbrev pub LawfulWord : (w : ℕ) → Type 0
LawfulWord w = (w ≡ 2 ^ 48) ⊎ (SlopeWord 2 w ⊎ (HoldWord w ⊎ SlopeWord 4 w))

-- the text of a card, as its ASCII bytes
abbrev pub written : FiringCard → List ℕ
written Section = codes "section"
written (Ramp t r) = codes "ramp " ++ (decimal t.value ++ (codes " " ++ decimal r.value))
written (Hold t m) = codes "hold " ++ (decimal t.value ++ (codes " " ++ decimal m.value))
written (Cool t r) = codes "cool " ++ (decimal t.value ++ (codes " " ++ decimal r.value))
