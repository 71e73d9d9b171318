-- Arrays that a closure made, element by element.
use Rattle.std.specs.Prelude.{◌≡◌, ℕ, ◌+◌, ◌<◌, zero, suc, List}
use Rattle.std.specs.Array.{IsFromFnResult, IsFromFnResultFrom}
use Rattle.std.specs.Fn.{Called, Mut}
use Rattle.std.proofs.Common.{subst, ◌∙◌, arith, slice_index_or}

-- a closure f that each call leaves as it was, and that gives `at i` at i
module _ {F B : Type 0} (g : Mut F (ℕ × Unit {0}) B) (f : F) (at : ℕ → B) (gives : (i : ℕ) (y : B) (q : F) → Called g f (i, tt) y q → (q ≡ f) × (y ≡ at i)) where
  from_on : (ys : List B) (d : B) (i n : ℕ) → IsFromFnResultFrom g f ys i n → (j k : ℕ) → k < n → j ≡ i + k → slice_index_or ys j d ≡ at j
  from_on ys d i zero made j k h e = absurd (omega arith)
  from_on ys d i (suc n) (q, y, is, called, rest) j zero h e =
      let same : i ≡ j = omega arith in
      subst (λ p. slice_index_or ys p d ≡ at p) same (is.1 d ∙ (gives i y q called).1)
  from_on ys d i (suc n) (q, y, is, called, rest) j (suc k) h e =
      from_on ys d (i + 1) n (subst (λ p. IsFromFnResultFrom g p ys (i + 1) n) (gives i y q called).0 rest) j k (omega arith) (omega arith)

  -- the array that it makes has `at j` at each j
  pub element_from_fn : (ys : List B) (d : B) (n : ℕ) → IsFromFnResult g f ys n → (j : ℕ) → j < n → slice_index_or ys j d ≡ at j
  element_from_fn ys d n made j h = from_on ys d 0 n made.each j j h (omega arith)
