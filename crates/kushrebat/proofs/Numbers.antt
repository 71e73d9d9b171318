-- What is read of digits so far. Assumes nothing.
use Rattle.std.proofs.Common.{◌≡◌, ℕ, zero, suc, ◌+◌, ◌*◌, ◌^◌, ◌<◌, ◌≤◌, List, [], ◌∷◌, length, get_or, take, Some, None, Option, sym, ap, ◌∙◌, subst, arith}
use Rattle.std.proofs.Math.Nat.{mul-le-mul_left}
use Rattle.std.proofs.lemmas.Int.Digits.{digits_value_more, digits_more, digits_value-lt}
use Rattle.std.specs.Str.Parse.{AllDigits, digits_value, digits_value_after}
use Rattle.std.specs.Option.{SomeIff}
use Rattle.std.specs.Char.{digit_value}
use Rattle.kushrebat.specs.Numerals.{Held, LabelWord, hexadecimal}

-- each digit is one
pub digit_at : (radix : ℕ) (ds : List ℕ) (i : ℕ) → AllDigits radix ds → i < length ds → digit_value (get_or ds i 0) < radix
digit_at radix [] i h l = absurd (omega arith)
digit_at radix (d ∷ ds) zero h l = h.0
digit_at radix (d ∷ ds) (suc i) h l = digit_at radix ds i h.1 (omega arith)

module _ (radix : ℕ) (some : 0 < radix) where
  grows : (n : ℕ) (ds : List ℕ) → n ≤ digits_value_after radix n ds
  grows n [] = omega arith
  grows n (d ∷ ds) = omega (arith, mul-le-mul_left n some, grows (n * radix + digit_value d) ds)

  -- more digits are no less
  pub front_le : (n : ℕ) (ds : List ℕ) (i : ℕ) → digits_value_after radix n (take i ds) ≤ digits_value_after radix n ds
  front_le n ds zero = grows n ds
  front_le n [] (suc i) = omega arith
  front_le n (d ∷ ds) (suc i) = front_le (n * radix + digit_value d) ds i

-- one digit more
pub step : (radix : ℕ) (ds : List ℕ) (i v d c : ℕ) → i < length ds → v ≡ digits_value radix (take i ds) → AllDigits radix (take i ds) → c ≡ get_or ds i 0 → digit_value c < radix → d ≡ digit_value c → (v * radix + d ≡ digits_value radix (take (i + 1) ds)) × AllDigits radix (take (i + 1) ds)
step radix ds i v d c l is digits e small f =
    let more = digits_value_more radix ds i l in
    let g : d ≡ digit_value (get_or ds i 0) = f ∙ ap digit_value e in
    let h : v * radix ≡ digits_value radix (take i ds) * radix = ap (λ n. n * radix) is in
    (omega arith, digits_more radix ds i l digits (subst (λ b. digit_value b < radix) e small))

-- a byte that is no digit
pub no_digit : (radix : ℕ) (ds : List ℕ) (i c : ℕ) → i < length ds → c ≡ get_or ds i 0 → (digit_value c < radix → ⊥) → AllDigits radix ds → ⊥
no_digit radix ds i c l e other digits = other (subst (λ b. digit_value b < radix) (sym e) (digit_at radix ds i digits l))

-- a value that no 64 bits hold
pub too_large : (radix : ℕ) (ds : List ℕ) (i v : ℕ) → 0 < radix → i < length ds → v ≡ digits_value radix (take i ds) → (v * radix + digit_value (get_or ds i 0) < 2 ^ 64 → ⊥) → Held radix ds → ⊥
too_large radix ds i v some l is over h =
    let same : v * radix ≡ digits_value radix (take i ds) * radix = ap (λ n. n * radix) is in
    over (omega (arith, same, digits_value_more radix ds i l, front_le radix some 0 ds (i + 1), h.1))

-- sixteen hexadecimal digits have a value that 64 bits hold
pub label_word : (ds : List ℕ) (r : Option ℕ) → length ds ≡ 16 → SomeIff r (Held 16 ds) (digits_value 16 ds) → SomeIff r (LabelWord ds) (hexadecimal ds)
label_word ds None l h = λ w. h (w.1, subst (λ k. digits_value 16 ds < 16 ^ k) l (digits_value-lt 16 ds w.1))
label_word ds (Some x) l h = ((l, h.0.0), h.1)
