-- Numbers within bounds.
use Rattle.std.specs.Prelude.{◌≡◌, ℕ, ◌≤◌, Bool, true, false, ◌&&◌, Some, None, Option, nat_le, refl}
use Rattle.card.specs.declared.bounded.Bounded.{Bounded}
use Rattle.std.proofs.lemmas.Bool.{and_parts, leb-true}

-- n is one of low, low + 1, .., high
abbrev pub Within : (low high n : ℕ) → Type 0
Within low high n = (low ≤ n) × (n ≤ high)

-- the same as a test
abbrev pub within : (low high n : ℕ) → Bool
within low high n = nat_le low n && nat_le n high

-- what the test's answer b makes of n: where it is true, n with the proof that it lies within
abbrev pub bounded_by : (low high n : ℕ) (b : Bool) → within low high n ≡ b → Option (Bounded low high)
bounded_by low high n true e = let both = and_parts (nat_le low n) (nat_le n high) e in Some (record { value = n; ok = (leb-true low n both.0, leb-true n high both.1) })
bounded_by low high n false e = None

-- n as a number within the bounds, if it is one
abbrev pub bounded : (low high n : ℕ) → Option (Bounded low high)
bounded low high n = bounded_by low high n (within low high n) refl

-- f of two things, where both are there
abbrev pub both : {A B C : Type 0} → (A → B → C) → Option A → Option B → Option C
both f (Some a) (Some b) = Some (f a b)
both f (Some a) None = None
both f None o = None
