-- The test that the labels of a table rise, which antt computes, and that a table that passes it rises. Assumes nothing.
use Rattle.std.specs.Prelude.{◌≡◌, ℕ, zero, suc, ◌<◌, Bool, true, ◌&&◌, List, [], ◌∷◌, length, nat_lt, refl}
use Rattle.std.proofs.Common.{arith}
use Rattle.std.proofs.lemmas.Bool.{and_parts, ltb-true}
use Rattle.shelf.specs.declared.row.Row.{Row}
use Rattle.shelf.specs.Rows.{label_at, Rising}

-- the labels of a list rise, the first from above l
abbrev pub rises_above : ℕ → List Row → Bool
rises_above l [] = true
rises_above l (r ∷ rs) = nat_lt l r.label && rises_above r.label rs

abbrev pub rises : List Row → Bool
rises [] = true
rises (r ∷ rs) = rises_above r.label rs

above : (l : ℕ) (rs : List Row) → rises_above l rs ≡ true → (j : ℕ) → j < length rs → l < label_at rs j
above l [] t j h = omega arith
above l (r ∷ rs) t zero h = ltb-true l r.label (and_parts (nat_lt l r.label) (rises_above r.label rs) t).0
above l (r ∷ rs) t (suc j) h =
    let p = and_parts (nat_lt l r.label) (rises_above r.label rs) t in
    let low = ltb-true l r.label p.0 in
    let high = above r.label rs p.1 j (omega arith) in
    omega arith

tail_rises : (l : ℕ) (rs : List Row) → rises_above l rs ≡ true → rises rs ≡ true
tail_rises l [] t = refl
tail_rises l (r ∷ rs) t = (and_parts (nat_lt l r.label) (rises_above r.label rs) t).1

pub rising_from_test : (rs : List Row) → rises rs ≡ true → Rising rs
rising_from_test [] t i j h k = omega arith
rising_from_test (r ∷ rs) t i zero h k = omega arith
rising_from_test (r ∷ rs) t zero (suc j) h k = above r.label rs t j (omega arith)
rising_from_test (r ∷ rs) t (suc i) (suc j) h k = rising_from_test rs (tail_rises r.label rs t) i j (omega arith) (omega arith)
