-- What stands where after an insertion. Assumes nothing.
use Rattle.std.proofs.Common.{◌≡◌, ℕ, ◌+◌, ◌-◌, ◌<◌, ◌≤◌, List, length, get_or, ap, ◌∙◌, ⊎_elim, arith}
use Rattle.std.specs.List.{insert}
use Rattle.std.proofs.lemmas.Bool.{cases_order}
use Rattle.std.proofs.lemmas.List.Edits.{get_or-insert_below, get_or-insert_at, get_or-insert_above}

-- what stands at k after an insertion at n
pub data At {X : Type 0} (xs : List X) (n : ℕ) (y : X) (k : ℕ) (d : X) : Type 0 where
  low : k < n → get_or (insert xs n y) k d ≡ get_or xs k d → At xs n y k d
  here : k ≡ n → get_or (insert xs n y) k d ≡ y → At xs n y k d
  high : (j : ℕ) → n ≤ j → k ≡ j + 1 → get_or (insert xs n y) k d ≡ get_or xs j d → At xs n y k d

pub at : {X : Type 0} (xs : List X) (n : ℕ) (y : X) (k : ℕ) (d : X) → n ≤ length xs → At xs n y k d
at xs n y k d le =
    ⊎_elim (λ e. here e (rw e (get_or-insert_at xs n y d le)))
    (⊎_elim (λ l. low l (get_or-insert_below xs n y d k l le))
    (λ g. let e : k ≡ (k - 1) + 1 = omega arith in
    high (k - 1) (omega arith) e (ap (λ i. get_or (insert xs n y) i d) e ∙ get_or-insert_above xs n y d (k - 1) (omega arith) le)))
    (cases_order k n)
