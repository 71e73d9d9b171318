-- When the reading of a word answers a card.
use Rattle.std.specs.Prelude.{◌≡◌, ℕ, is_some, is_ok, Some, None, Decides, Option, refl}
use Rattle.std.proofs.Common.{subst, arith}
use Rattle.card.specs.Reading.{Reads}
use Rattle.card.specs.declared.fault.CardFault.TheVariants.{NoCard}
use Rattle.std.specs.Option.{ok_or}

-- where o has a card exactly when P, and then the one with that word
reads_when : {C : Type 0} (code : C → ℕ) (P : Type 0) (word : ℕ) (o : Option C)
    → ((c : C) → o ≡ Some c → P) → ((c : C) → o ≡ Some c → code c ≡ word) → (P → (c : C) × (o ≡ Some c)) → Reads code P word (ok_or o NoCard)
reads_when code P word (Some c) to own from = record { exactly = (λ _. to c refl, λ _. refl); with_word = own c refl }
reads_when code P word None to own from = record { exactly = (λ e. let z : ◌≡◌ {A = ℕ} 0 1 = cc in absurd (omega arith), λ p. cc (from p).1); with_word = tt }

-- the laws of a kind of card say that a word makes a card exactly when it is a card's word, in whatever terms (Lawful) these words are known
pub reads_word : {C : Type 0} (code : C → ℕ) (decode : ℕ → Option C) (Lawful : ℕ → Type 0)
    → ((c : C) → decode (code c) ≡ Some c) → ((w : ℕ) (c : C) → decode w ≡ Some c → code c ≡ w)
    → ((c : C) → Lawful (code c)) → ((w : ℕ) → Lawful w → (c : C) × (code c ≡ w))
    → (w : ℕ) → Reads code (Lawful w) w (ok_or (decode w) NoCard)
reads_word code decode Lawful round own lawful_code card_with w = reads_when code (Lawful w) w (decode w)
    (λ c e. subst Lawful (own w c e) (lawful_code c))
    (own w)
    (λ l. let p = card_with w l in (p.0, subst (λ x. decode x ≡ Some p.0) p.1 (round p.0)))

-- a card is there exactly when it is answered
pub some_when : {C P : Type 0} (o : Option C) → Decides (is_ok (ok_or o NoCard)) P → Decides (is_some o) P
some_when (Some c) d = d
some_when None d = d
