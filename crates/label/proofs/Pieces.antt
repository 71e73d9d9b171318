-- The arithmetic of one step of reading. Assumes nothing.
use Rattle.std.proofs.Common.{◌≡◌, ℕ, ◌+◌, ◌-◌, ◌*◌, ◌/◌, ◌%◌, ◌^◌, ◌<◌, ◌≤◌, Bool, true, false, eqb, ltb, Some, None, Option, sym, ap, ◌∙◌, subst, ⊎_elim, arith, pow_pos, pow_mono, pow-add}
use lib.Arith.{digits_div, digits_lt, digits_mod}
use Rattle.std.proofs.lemmas.Bool.Decides.{nat_tests}
use Rattle.std.proofs.lemmas.Bool.{lt-ltb, le-ltb, eqb-true, ltb-true, ltb-false, cond_both, cases_lt}
use Rattle.std.proofs.lemmas.Nat.{div-add-mod', div_below, mod_below}
use Rattle.label.specs.Reading.{ending, going_on, going_down, piece_of, piece}
use Rattle.label.specs.declared.piece.Piece.{Piece}

-- 2 ^ n, with the first k bits apart
pub pow_apart : (k n : ℕ) → k ≤ n → 2 ^ n ≡ 2 ^ k * 2 ^ (n - k)
pow_apart k n h = let e : n ≡ k + (n - k) = omega arith in ap (λ m. 2 ^ m) e ∙ pow-add 2 k (n - k)

-- the separator's place is half of what stands behind the subvalue
pub pow_half : (k n : ℕ) → k < n → 2 ^ (n - k) ≡ 2 ^ (n - k - 1) + 2 ^ (n - k - 1)
pow_half k n h = let e : n - k ≡ 1 + (n - k - 1) = omega arith in ap (λ m. 2 ^ m) e ∙ pow-add 2 1 (n - k - 1) ∙ omega arith

-- a piece at its subvalue and what stands behind
pub piece_at : (k n s r : ℕ) → k ≤ n → r < 2 ^ (n - k) → piece k n (s * 2 ^ (n - k) + r) ≡ Some (piece_of (2 ^ (n - k - 1)) s r)
piece_at k n s r h below = rw (le-ltb n k h, digits_div s below, digits_mod s below)

pub of_down : (one s r : ℕ) → 1 ≤ r → r < one → piece_of one s r ≡ going_down s r
of_down one s r p q = grind (arith, nat_tests)

pub of_next : (one s r : ℕ) → 1 ≤ one → piece_of one s (one + r) ≡ going_on s r
of_next one s r h = grind (arith, nat_tests)

-- a subvalue and what stands behind it are a number of n bits
pub in_front : (k n s r : ℕ) → k ≤ n → s < 2 ^ k → r < 2 ^ (n - k) → s * 2 ^ (n - k) + r < 2 ^ n
in_front k n s r h small below = omega (arith, pow_apart k n h, digits_lt small below)

-- the pieces that a label is spelled by
pub piece_end : (k n s : ℕ) → k ≤ n → piece k n (s * 2 ^ (n - k)) ≡ Some (ending s)
piece_end k n s h =
    let e : s * 2 ^ (n - k) ≡ s * 2 ^ (n - k) + 0 = omega arith in
    ap (piece k n) e ∙ piece_at k n s 0 h (pow_pos (n - k))

pub piece_next : (k n s r : ℕ) → k < n → r < 2 ^ (n - k - 1) → piece k n (s * 2 ^ (n - k) + 2 ^ (n - k - 1) + r) ≡ Some (going_on s r)
piece_next k n s r h small =
    let e : s * 2 ^ (n - k) + 2 ^ (n - k - 1) + r ≡ s * 2 ^ (n - k) + (2 ^ (n - k - 1) + r) = omega arith in
    ap (piece k n) e ∙ piece_at k n s (2 ^ (n - k - 1) + r) (omega arith) (omega (arith, pow_half k n h)) ∙ ap Some (of_next (2 ^ (n - k - 1)) s r (pow_pos (n - k - 1)))

pub piece_down : (k n s r : ℕ) → k < n → 1 ≤ r → r < 2 ^ (n - k - 1) → piece k n (s * 2 ^ (n - k) + r) ≡ Some (going_down s r)
piece_down k n s r h some small =
    piece_at k n s r (omega arith) (omega (arith, pow_half k n h)) ∙ ap Some (of_down (2 ^ (n - k - 1)) s r some small)

-- what a subvalue tells of the bits that it was taken from, with whether it ends its level and the value behind its separator
abbrev pub TellsOf : (k n x s : ℕ) → Bool → Option ℕ → Type 0
TellsOf k n x s true None = (k ≤ n) × (s < 2 ^ k) × (s * 2 ^ (n - k) ≡ x)
TellsOf k n x s false None = ⊥
TellsOf k n x s false (Some y) = (k < n) × (s < 2 ^ k) × (y < 2 ^ (n - k - 1)) × (s * 2 ^ (n - k) + 2 ^ (n - k - 1) + y ≡ x)
TellsOf k n x s true (Some y) = (k < n) × (s < 2 ^ k) × (y < 2 ^ (n - k - 1)) × (s * 2 ^ (n - k) + y ≡ x) × (1 ≤ y)

-- and what a piece tells
abbrev pub Tells : (k n x : ℕ) → Option Piece → Type 0
Tells k n x None = n < k
Tells k n x (Some p) = TellsOf k n x p.subvalue.value p.subvalue.ends_level p.behind

-- a bit that is not 0 takes a place
pub room : (k n r : ℕ) → k ≤ n → 1 ≤ r → r < 2 ^ (n - k) → k < n
room k n r h one small =
    ⊎_elim (λ e. e) (λ e. absurd (let z : n - k ≡ 0 = omega arith in let u = rw z at small in omega (arith, u))) (cases_lt k n)

module _ (k n x s r : ℕ) (enough : k ≤ n) (fits : s < 2 ^ k) (behind : r < 2 ^ (n - k)) (is : s * 2 ^ (n - k) + r ≡ x) where
  of_tells : Tells k n x (Some (piece_of (2 ^ (n - k - 1)) s r))
  of_tells =
      cond_both (eqb r 0) _ _ (λ p. Tells k n x (Some p))
      (λ e. (enough, fits, omega (arith, is, eqb-true r 0 e)))
      (λ e.
      let some : 1 ≤ r = grind (arith, nat_tests) in
      let more : k < n = room k n r enough some behind in
      cond_both (ltb r (2 ^ (n - k - 1))) _ _ (λ p. Tells k n x (Some p))
      (λ u. (more, fits, ltb-true r (2 ^ (n - k - 1)) u, is, some))
      (λ u.
      let high : 2 ^ (n - k - 1) ≤ r = ltb-false r (2 ^ (n - k - 1)) u in
      (more, fits, omega (arith, pow_half k n more), omega arith)))

pub piece_tells : (k n x : ℕ) → x < 2 ^ n → Tells k n x (piece k n x)
piece_tells k n x h = ⊎_elim fewer enough (cases_lt n k)
  where
    fewer : n < k → Tells k n x (piece k n x)
    fewer g = rw (lt-ltb n k g) g

    enough : k ≤ n → Tells k n x (piece k n x)
    enough g =
        let whole = div-add-mod' x (2 ^ (n - k)) in
        let small : x / 2 ^ (n - k) < 2 ^ k = div_below x (2 ^ (n - k)) (2 ^ k) (pow_pos (n - k)) (omega (arith, pow_apart k n g)) in
        rw (le-ltb n k g) (of_tells k n x (x / 2 ^ (n - k)) (x % 2 ^ (n - k)) g small (mod_below x (2 ^ (n - k)) (pow_pos (n - k))) whole)

-- the bits behind a separator
pub behind_fits : {k n x y : ℕ} {p : Piece} → x < 2 ^ n → Some p ≡ piece k n x → p.behind ≡ Some y → (k < n) × (y < 2 ^ (n - k - 1))
behind_fits {k} {n} {x} {y} {p} h is at = by_parts p.subvalue.value p.subvalue.ends_level p.behind (subst (Tells k n x) (sym is) (piece_tells k n x h)) at
  where
    by_parts : (s : ℕ) (e : Bool) (b : Option ℕ) → TellsOf k n x s e b → b ≡ Some y → (k < n) × (y < 2 ^ (n - k - 1))
    by_parts s false None t at = absurd t
    by_parts s true None t at = absurd (cc)
    by_parts s false (Some z) t at = let same : z ≡ y = cc in (t.0, omega (arith, t.2))
    by_parts s true (Some z) t at = let same : z ≡ y = cc in (t.0, omega (arith, t.2))

-- a subvalue of at most 8 bits is below 256
pub value_small : (k n b x : ℕ) → b + k ≡ n → k ≤ 8 → x < 2 ^ n → x / 2 ^ b < 256
value_small k n b x e high h =
    let whole : 2 ^ n ≡ 2 ^ k * 2 ^ b = pow_apart k n (omega arith) ∙ ap (λ (j : ℕ). 2 ^ k * 2 ^ j) (omega arith) in
    let small : x / 2 ^ b < 2 ^ k = div_below x (2 ^ b) (2 ^ k) (pow_pos b) (omega (arith, whole)) in
    let most : 2 ^ k ≤ 2 ^ 8 = pow_mono high in
    omega (arith, small, most)
