-- Numbers and label words as they are written. Assumes nothing.
use Rattle.std.specs.Prelude.{◌≡◌, ℕ, ◌^◌, ◌<◌, List, length}
use Rattle.std.specs.Str.Parse.{AllDigits, IsNumeral, digits_value}

-- digits of a base, whose value 64 bits hold
abbrev pub Held : ℕ → List ℕ → Type 0
Held base ds = AllDigits base ds × (digits_value base ds < 2 ^ 64)

-- one or more decimal digits, whose value 64 bits hold
abbrev pub Number : List ℕ → Type 0
Number ds = IsNumeral 10 ds × (digits_value 10 ds < 2 ^ 64)

-- sixteen hexadecimal digits, of either case
abbrev pub LabelWord : List ℕ → Type 0
LabelWord ds = (length ds ≡ 16) × AllDigits 16 ds

abbrev pub decimal : List ℕ → ℕ
decimal ds = digits_value 10 ds

abbrev pub hexadecimal : List ℕ → ℕ
hexadecimal ds = digits_value 16 ds
