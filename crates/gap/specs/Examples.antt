-- Worked examples of labels, on words of 64 bits. Assumes nothing.
use Rattle.std.specs.Prelude.{◌≡◌, ℕ, ◌-◌, List, [], ◌∷◌, Some, None, Ok, Option}
use Rattle.std.specs.List.{AllByRecursion}
use Rattle.plan.specs.Widths.{served}
use Rattle.label.specs.Label.{Label, levels, bits}
use Rattle.label.specs.Stops.{Stops}
use Rattle.label.specs.Theorems.{Of, Relates}
use Rattle.label.specs.declared.fault.LabelFault.{LabelFault}
use Rattle.label.specs.declared.fault.LabelFault.TheVariants.{Short, Zero}
use Rattle.label.specs.declared.relation.Relation.{Relation}
use Rattle.label.specs.declared.relation.Relation.TheVariants.{Before}
use Rattle.gap.specs.Between.{Betweens}

pub data Example : Type 0 where
  -- the label with these levels has this word and so many bits
  spelt : List (List ℕ) → (word bit_length : ℕ) → Example
  -- reading this word stops at the fault
  stopped : (word : ℕ) → LabelFault → Example
  -- the labels of two words stand so to each other
  related : (first second : ℕ) → Relation → Example
  -- under a parent and between two siblings, where there are such, comes this label, or there is no place
  comes : (parent : ℕ) (lower upper : Option ℕ) → Option ℕ → Example

-- what an example says, under some widths
abbrev pub Holds : (ℕ → ℕ → ℕ) × Example → Type 0
Holds (w, spelt ls x n) = (c : Label) × (levels c ≡ ls) × Of w 64 c x × (bits w 1 0 c ≡ n)
Holds (w, stopped x fault) = Stops w 64 x fault
Holds (w, related a b r) = Relates w 64 a b (Ok r)
Holds (w, comes p lower upper r) = Betweens w 64 p lower upper (Ok r)

-- a level plan: level 1 has two bits, further levels four
abbrev pub two_four : ℕ → ℕ → ℕ
two_four level position = served (2 ∷ 4 ∷ []) (level - 1)

-- all widths are k
abbrev pub all : ℕ → ℕ → ℕ → ℕ
all k level position = k

-- `1.1.1. ..` with so many levels
abbrev pub thirteen : List (List ℕ)
thirteen =
    (1 ∷ []) ∷ (1 ∷ []) ∷ (1 ∷ []) ∷ (1 ∷ []) ∷ (1 ∷ []) ∷ (1 ∷ []) ∷ (1 ∷ []) ∷ (1 ∷ []) ∷ (1 ∷ []) ∷ (1 ∷ []) ∷ (1 ∷ []) ∷ (1 ∷ [])
    ∷ (1 ∷ []) ∷ []

abbrev pub examples : List ((ℕ → ℕ → ℕ) × Example)
examples =
    -- 1.9 and 1.10; between them comes 1.9/1, which 1.9 is before and not above
    (two_four, spelt ((1 ∷ []) ∷ (9 ∷ []) ∷ []) 0x5200_0000_0000_0000 7)
    ∷ (two_four, spelt ((1 ∷ []) ∷ (10 ∷ []) ∷ []) 0x5400_0000_0000_0000 7)
    ∷ (two_four, spelt ((1 ∷ []) ∷ (9 ∷ 1 ∷ []) ∷ []) 0x5310_0000_0000_0000 12)
    ∷ (two_four, comes 0x4000_0000_0000_0000 (Some 0x5200_0000_0000_0000) (Some 0x5400_0000_0000_0000) (Some 0x5310_0000_0000_0000))
    ∷ (two_four, related 0x5200_0000_0000_0000 0x5310_0000_0000_0000 Before)
    -- 1.0/3/5.4/3 has three levels and 23 bits
    ∷ (all 3, spelt ((1 ∷ []) ∷ (0 ∷ 3 ∷ 5 ∷ []) ∷ (4 ∷ 3 ∷ []) ∷ []) 0x217A_9600_0000_0000 23)
    -- a word of zeros, and 1.8/0, end a level in 0
    ∷ (all 4, stopped 0 (Zero 0))
    ∷ (all 4, stopped 0x1440_0000_0000_0000 (Zero 10))
    -- before 1.1 alone comes 1.0/1
    ∷ (all 4, spelt ((1 ∷ []) ∷ (0 ∷ 1 ∷ []) ∷ []) 0x1044_0000_0000_0000 14)
    ∷ (all 4, comes 0x1000_0000_0000_0000 None (Some 0x1080_0000_0000_0000) (Some 0x1044_0000_0000_0000))
    -- between 1.1 and 1.1/1 comes 1.1/0/1
    ∷ (all 4, spelt ((1 ∷ []) ∷ (1 ∷ 0 ∷ 1 ∷ []) ∷ []) 0x10C2_2000_0000_0000 19)
    ∷ (all 4, comes 0x1000_0000_0000_0000 (Some 0x1080_0000_0000_0000) (Some 0x10C4_0000_0000_0000) (Some 0x10C2_2000_0000_0000))
    -- after a last 1.15 comes 1.15/1
    ∷ (all 4, spelt ((1 ∷ []) ∷ (15 ∷ 1 ∷ []) ∷ []) 0x17C4_0000_0000_0000 14)
    ∷ (all 4, comes 0x1000_0000_0000_0000 (Some 0x1780_0000_0000_0000) None (Some 0x17C4_0000_0000_0000))
    -- under twelve levels of 1 a thirteenth has 64 bits; under thirteen there is no place
    ∷ (all 4, spelt thirteen 0x1084_2108_4210_8421 64)
    ∷ (all 4, comes 0x1084_2108_4210_8420 None None (Some 0x1084_2108_4210_8421))
    ∷ (all 4, comes 0x1084_2108_4210_8421 None None None)
    -- all ones need a subvalue more than there are bits
    ∷ (all 1, stopped 0xFFFF_FFFF_FFFF_FFFF (Short 64))
    ∷ []

abbrev pub ExamplesHold : Type 0
ExamplesHold = AllByRecursion Holds examples
