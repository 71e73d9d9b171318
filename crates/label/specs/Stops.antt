-- Where the reading of a word stops, and why: what stands before that bit, and what is wrong behind it. Assumes nothing.
use Rattle.std.specs.Prelude.{◌≡◌, ℕ, ◌+◌, ◌-◌, ◌*◌, ◌^◌, ◌<◌, ◌≤◌, true, false}
use Rattle.label.specs.Label.{may_end}
use Rattle.label.specs.declared.fault.LabelFault.{LabelFault}
use Rattle.label.specs.declared.fault.LabelFault.TheVariants.{Short, Zero}

-- Whole subvalues with their separators: none, one before another subvalue of its level (`s/..`, with a 1 behind it), or one
-- that ends its level before a deeper one (`s. ..`, with a 0 behind it).
pub data Front : Type 0 where
  start : Front
  on : ℕ → Front → Front
  under : ℕ → Front → Front

-- the label has not ended before the bits of value `rest` that are behind: where the last separator is a 0, a bit behind it is not
abbrev pub FrontGoesOn : Front → (rest : ℕ) → Type 0
FrontGoesOn start rest = Unit {0}
FrontGoesOn (on s f) rest = FrontGoesOn f rest
FrontGoesOn (under s start) rest = 1 ≤ rest
FrontGoesOn (under s (on t f)) rest = FrontGoesOn (on t f) rest
FrontGoesOn (under s (under t f)) rest = FrontGoesOn (under t f) rest

module _ (w : ℕ → ℕ → ℕ) where
  -- how many bits a front takes from level l, position i on
  abbrev pub front_bits : (l i : ℕ) → Front → ℕ
  front_bits l i start = 0
  front_bits l i (on s f) = w l i + 1 + front_bits l (i + 1) f
  front_bits l i (under s f) = w l i + 1 + front_bits (l + 1) 0 f

  -- the number that n bits spell, with zeros behind the front
  abbrev pub front_spelled : (n l i : ℕ) → Front → ℕ
  front_spelled n l i start = 0
  front_spelled n l i (on s f) = s * 2 ^ (n - w l i) + 2 ^ (n - w l i - 1) + front_spelled (n - w l i - 1) l (i + 1) f
  front_spelled n l i (under s f) = s * 2 ^ (n - w l i) + front_spelled (n - w l i - 1) (l + 1) 0 f

  -- each subvalue is below 2 to its width, and one that ends its level may end it
  abbrev pub FrontFits : (l i : ℕ) → Front → Type 0
  FrontFits l i start = Unit {0}
  FrontFits l i (on s f) = (s < 2 ^ w l i) × FrontFits l (i + 1) f
  FrontFits l i (under s f) = (may_end i s ≡ true) × (s < 2 ^ w l i) × FrontFits (l + 1) 0 f

  -- the position of the subvalue behind a front, and its width
  abbrev pub next_position : (l i : ℕ) → Front → ℕ
  next_position l i start = i
  next_position l i (on s f) = next_position l (i + 1) f
  next_position l i (under s f) = next_position (l + 1) 0 f

  abbrev pub next_width : (l i : ℕ) → Front → ℕ
  next_width l i start = w l i
  next_width l i (on s f) = next_width l (i + 1) f
  next_width l i (under s f) = next_width (l + 1) 0 f

  -- n bits of value x begin with a front, go on behind it, and `rest` is the value of the bits there
  pub record Begins (n l i x : ℕ) (f : Front) (rest : ℕ) : Type 0 where
    pub fits : FrontFits l i f
    pub within : front_bits l i f ≤ n
    pub spells : x ≡ front_spelled n l i f + rest
    pub small : rest < 2 ^ (n - front_bits l i f)
    pub going : FrontGoesOn f rest

  -- the first k of n bits of value x are a subvalue s that ends its level: the bit behind them, if there is one, is 0
  pub record EndsLevel (k n x s : ℕ) : Type 0 where
    pub enough : k ≤ n
    pub behind : ℕ
    pub spells : x ≡ s * 2 ^ (n - k) + behind
    pub low : behind + behind < 2 ^ (n - k)

  -- What is wrong with the n bits of value x at a bit, where a subvalue of k bits at position i should stand: there are fewer
  -- bits, or it ends its level and may not, being 0.
  abbrev pub Wrong : (bit n k i x : ℕ) → LabelFault → Type 0
  Wrong bit n k i x (Short at) = (at ≡ bit) × (n < k)
  Wrong bit n k i x (Zero at) = (at ≡ bit) × ((s : ℕ) × EndsLevel k n x s × (may_end i s ≡ false))

  -- Reading a word x of N bits stops: before a bit stand whole subvalues with their separators, none of which ends its level as 0,
  -- and at that bit something is wrong.
  abbrev pub Stops : (N x : ℕ) → LabelFault → Type 0
  Stops N x fault =
      (f : Front) × (rest : ℕ) × Begins N 1 0 x f rest
      × Wrong (front_bits 1 0 f) (N - front_bits 1 0 f) (next_width 1 0 f) (next_position 1 0 f) rest fault
