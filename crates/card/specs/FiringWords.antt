-- The words of firing cards.
use Rattle.std.specs.Prelude.{◌≡◌, ℕ, ◌/◌, ◌%◌, ◌^◌, ◌<◌, ◌&&◌, Some, Option, ◌==◌, refl}
use Rattle.std.proofs.Common.{inl, inr, sym, ap, ◌∙◌, arith}
use Rattle.std.proofs.lemmas.Bool.{cond_both}
use Rattle.std.proofs.lemmas.Bool.Decides.{nat_tests}
use Rattle.card.specs.Ranges.{some_bounded, from_both}
use Rattle.card.specs.Readings.{reads_word}
use Rattle.card.specs.Bounds.{both, bounded}
use Rattle.card.specs.Reading.{Reads}
use Rattle.card.specs.declared.fault.CardFault.TheVariants.{NoCard}
use Rattle.std.specs.Option.{ok_or}
use Rattle.card.specs.Firing.{LawfulWord, card_of, code, decode, packed}
use Rattle.card.specs.declared.bounded.Bounded.{Bounded}
use Rattle.card.specs.declared.firing.FiringCard.{FiringCard}
use Rattle.card.specs.declared.firing.FiringCard.TheVariants.{Section, Ramp, Hold, Cool}

-- the parts of a word that was packed
packed_parts : (k t r m : ℕ) → t < 2 ^ 16 → r < 2 ^ 16 → m < 2 ^ 16
    → (packed k t r m / 2 ^ 48 ≡ k) × (packed k t r m / 2 ^ 32 % 2 ^ 16 ≡ t) × (packed k t r m / 2 ^ 16 % 2 ^ 16 ≡ r) × (packed k t r m % 2 ^ 16 ≡ m)
packed_parts k t r m lt lr lm = (omega arith, omega arith, omega arith, omega arith)

-- a word that was packed makes what its parts make
read : (k t r m : ℕ) → t < 2 ^ 16 → r < 2 ^ 16 → m < 2 ^ 16 → decode (packed k t r m) ≡ card_of k t r m
read k t r m lt lr lm = let p = packed_parts k t r m lt lr lm in cc (p.0, p.1, p.2, p.3)

-- reading a card's word gives the card back
pub round : (c : FiringCard) → decode (code c) ≡ Some c
round Section = refl
round (Ramp t r) = read 2 t.value r.value 0 (omega arith) (omega arith) (omega arith) ∙ rw (some_bounded 20 1200 t, some_bounded 1 600 r)
round (Hold t m) = read 3 t.value 0 m.value (omega arith) (omega arith) (omega arith) ∙ rw (some_bounded 20 1200 t, some_bounded 1 1440 m)
round (Cool t r) = read 4 t.value r.value 0 (omega arith) (omega arith) (omega arith) ∙ rw (some_bounded 20 1200 t, some_bounded 1 600 r)

-- a word is the word of its four parts
repacked : (w : ℕ) → packed (w / 2 ^ 48) (w / 2 ^ 32 % 2 ^ 16) (w / 2 ^ 16 % 2 ^ 16) (w % 2 ^ 16) ≡ w
repacked w = omega arith

-- what two numbers within bounds make, if anything, has the word of those numbers
word_of_two : (low high low' high' n m : ℕ) (f : Bounded low high → Bounded low' high' → FiringCard) (word : ℕ → ℕ → ℕ) → ((a : Bounded low high) (b : Bounded low' high') → code (f a b) ≡ word a.value b.value)
    → (c : FiringCard) → both f (bounded low high n) (bounded low' high' m) ≡ Some c → code c ≡ word n m
word_of_two low high low' high' n m f word is c = from_both low high low' high' n m f (λ o. o ≡ Some c → code c ≡ word n m) (λ e. cc) (λ a b p q e. let made : f a b ≡ c = cc in sym (ap code made) ∙ is a b ∙ rw (p, q))

-- what four numbers make, if anything, has the word of those numbers
word_of_parts : (k t r m : ℕ) (c : FiringCard) → card_of k t r m ≡ Some c → code c ≡ packed k t r m
word_of_parts k t r m c =
    let P : Option FiringCard → Type 0 = λ o. o ≡ Some c → code c ≡ packed k t r m in
    cond_both (k == 1 && (t == 0 && (r == 0 && m == 0))) _ _ P (λ b e. let s : Section ≡ c = cc in sym (ap code s) ∙ grind (arith, nat_tests))
    (λ _. cond_both (k == 2 && m == 0) _ _ P (λ b e. word_of_two 20 1200 1 600 t r Ramp (λ x y. packed 2 x y 0) (λ a b. refl) c e ∙ grind (arith, nat_tests))
    (λ _. cond_both (k == 3 && r == 0) _ _ P (λ b e. word_of_two 20 1200 1 1440 t m Hold (λ x y. packed 3 x 0 y) (λ a b. refl) c e ∙ grind (arith, nat_tests))
    (λ _. cond_both (k == 4 && m == 0) _ _ P (λ b e. word_of_two 20 1200 1 600 t r Cool (λ x y. packed 4 x y 0) (λ a b. refl) c e ∙ grind (arith, nat_tests))
    (λ _ e. cc))))

-- a word makes at most the card whose word it is
pub own : (w : ℕ) (c : FiringCard) → decode w ≡ Some c → code c ≡ w
own w c e = word_of_parts (w / 2 ^ 48) (w / 2 ^ 32 % 2 ^ 16) (w / 2 ^ 16 % 2 ^ 16) (w % 2 ^ 16) c e ∙ repacked w

-- each card's word is lawful
lawful_code : (c : FiringCard) → LawfulWord (code c)
lawful_code Section = inl refl
lawful_code (Ramp t r) = inr (inl (record { target = t.value; rate = r.value; target_lawful = t.ok; rate_lawful = r.ok; word = omega arith }))
lawful_code (Hold t m) = inr (inr (inl (record { target = t.value; minutes = m.value; target_lawful = t.ok; minutes_lawful = m.ok; word = omega arith })))
lawful_code (Cool t r) = inr (inr (inr (record { target = t.value; rate = r.value; target_lawful = t.ok; rate_lawful = r.ok; word = omega arith })))

-- each lawful word is a card's
card_with : (w : ℕ) → LawfulWord w → (c : FiringCard) × (code c ≡ w)
card_with w (inl e) = (Section, omega arith)
card_with w (inr (inl s)) = (Ramp (record { value = s.target; ok = s.target_lawful }) (record { value = s.rate; ok = s.rate_lawful }), omega arith)
card_with w (inr (inr (inl s))) = (Hold (record { value = s.target; ok = s.target_lawful }) (record { value = s.minutes; ok = s.minutes_lawful }), omega arith)
card_with w (inr (inr (inr s))) = (Cool (record { value = s.target; ok = s.target_lawful }) (record { value = s.rate; ok = s.rate_lawful }), omega arith)

-- reading a word answers a card exactly when the word is lawful, and then the card whose word it is
pub reads_lawful : (w : ℕ) → Reads code (LawfulWord w) w (ok_or (decode w) NoCard)
reads_lawful w = reads_word code decode LawfulWord round own lawful_code card_with w
