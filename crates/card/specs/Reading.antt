-- What it means to read a card from a word or from numbers.
use Rattle.std.specs.Prelude.{◌≡◌, ℕ, is_ok, IfOk, Decides, Result}
use Rattle.card.specs.declared.fault.CardFault.{CardFault}

-- r answers a card exactly when P holds, and then the one with that word
pub record Reads {C : Type 0} (code : C → ℕ) (P : Type 0) (word : ℕ) (r : Result C CardFault) : Type 0 where
  pub exactly : Decides (is_ok r) P
  pub with_word : IfOk r (λ c. code c ≡ word)
