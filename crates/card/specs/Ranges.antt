-- Numbers within bounds, and the bounded numbers that they make.
use Rattle.std.specs.Prelude.{◌≡◌, ℕ, ◌≤◌, Bool, true, false, Some, None, Option, nat_le, refl}
use Rattle.std.proofs.Common.{ap, ◌∙◌}
use Rattle.std.proofs.Math.Bridge.{le_prop}
use Rattle.std.proofs.lemmas.Bool.{and_from, both_ways, le-leb}
use Rattle.card.specs.Bounds.{both, bounded, bounded_by, within}
use Rattle.card.specs.declared.bounded.Bounded.{Bounded}

abbrev with_proofs : (low high n : ℕ) → low ≤ n → n ≤ high → Bounded low high
with_proofs low high n p q = record { value = n; ok = (p, q) }

same_proofs : (low high n : ℕ) (p p' : low ≤ n) (q q' : n ≤ high) → with_proofs low high n p q ≡ with_proofs low high n p' q'
same_proofs low high n p p' q q' = ap (λ x. with_proofs low high n x q) (le_prop p p') ∙ ap (with_proofs low high n p') (le_prop q q')

-- a bounded number's value makes that number
pub some_bounded : (low high : ℕ) (b : Bounded low high) → bounded low high b.value ≡ Some b
some_bounded low high b = by_test (within low high b.value) refl
  where
    by_test : (t : Bool) (e : within low high b.value ≡ t) → bounded_by low high b.value t e ≡ Some b
    by_test true e = ap Some (same_proofs low high b.value _ b.ok.0 _ b.ok.1)
    by_test false e = absurd (both_ways (within low high b.value) e (and_from (nat_le low b.value) (nat_le b.value high) (le-leb low b.value b.ok.0) (le-leb b.value high b.ok.1)))

-- what is made of n, if anything, has the value n
pub value_of_bounded : (low high n : ℕ) (b : Bounded low high) → bounded low high n ≡ Some b → b.value ≡ n
value_of_bounded low high n b = by_test (within low high n) refl
  where
    by_test : (t : Bool) (e : within low high n ≡ t) → bounded_by low high n t e ≡ Some b → b.value ≡ n
    by_test true e s = cc
    by_test false e s = cc

-- what is true of nothing, and of what f makes of each two bounded numbers with the values n and m, is true of what f makes of n and m
pub from_both : {C : Type 0} (low high low' high' n m : ℕ) (f : Bounded low high → Bounded low' high' → C) (P : Option C → Type 0) → P None
    → ((a : Bounded low high) (b : Bounded low' high') → a.value ≡ n → b.value ≡ m → P (Some (f a b))) → P (both f (bounded low high n) (bounded low' high' m))
from_both low high low' high' n m f P none some = by_both (bounded low high n) (bounded low' high' m) (value_of_bounded low high n) (value_of_bounded low' high' m)
  where
    by_both : (x : Option (Bounded low high)) (y : Option (Bounded low' high')) → ((a : Bounded low high) → x ≡ Some a → a.value ≡ n) → ((b : Bounded low' high') → y ≡ Some b → b.value ≡ m) → P (both f x y)
    by_both (Some a) (Some b) p q = some a b (p a refl) (q b refl)
    by_both (Some a) None p q = none
    by_both None y p q = none
