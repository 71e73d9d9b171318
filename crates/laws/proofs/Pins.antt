-- A step pins its answer and the sheet after it. Assumes nothing.
use Rattle.std.proofs.Common.{◌≡◌, ℕ, ◌≤◌, Bool, List, [], ◌∷◌, Some, None, Option, sym, refl, ap, ◌∙◌, subst, inl, inr, arith}
use mathlib.Core.Path.{transport}
use Rattle.std.proofs.lemmas.Bool.{cases_order}
use Rattle.shelf.specs.Rows.{row_at, Rising}
use Rattle.shelf.specs.Changes.{with_row}
use Rattle.shelf.specs.Scan.{NextFilled}
use Rattle.gap.specs.Labels.{Labels, Sound}
use Rattle.gap.specs.PlanLabels.{labels_of}
use Rattle.gap.proofs.Options.{some_injective}
use Rattle.gap.proofs.PlanLabels.{sound}
use Rattle.laws.specs.Standing.{Row, opened_row}
use Rattle.laws.specs.Sheet.{Where, Sheet, with_rows, Call, Lay, Open, Fill, GiveUp, Strike, Read, Start, Next, Pause, Resume, Stop, Answer, Refused, Given, Found}
use Rattle.laws.specs.Openings.{Lower, Upper, Utmost, ChildRow, NextLower, NextUpper, LabelFor}
use Rattle.laws.specs.Calls.{Check, Passes, TurnsDown, checks, card_of, Turn, Does, Step}
use Rattle.laws.specs.Laws.{StepPins}
use Rattle.laws.proofs.Rows.{one_row}

-- one check is the first that does not hold
one_number : (cs : List Check) (n k : ℕ) → TurnsDown cs n → TurnsDown cs k → n ≡ k
one_number [] n k t u = absurd t
one_number (c ∷ cs) n k (inl (f, e)) (inl (g, q)) = e ∙ sym q
one_number (c ∷ cs) n k (inl (f, e)) (inr (h, u)) = absurd (f h)
one_number (c ∷ cs) n k (inr (h, t)) (inl (g, q)) = absurd (g h)
one_number (c ∷ cs) n k (inr (h, t)) (inr (i, u)) = one_number cs n k t u

-- the checks do not both hold and turn down
passes_or_not : (cs : List Check) (n : ℕ) → Passes cs → TurnsDown cs n → ⊥
passes_or_not [] n p t = t
passes_or_not (c ∷ cs) n p (inl (f, e)) = f p.0
passes_or_not (c ∷ cs) n p (inr (h, t)) = passes_or_not cs n p.1 t

-- next takes one row
pub one_found : (rows : List Row) (mark : ℕ) (o q : Option (ℕ × Row)) → NextFilled rows mark o → NextFilled rows mark q → o ≡ q
one_found rows mark None None s t = refl
one_found rows mark None (Some (j, r)) s (l, at, found, before) = absurd (s j l (rw at found))
one_found rows mark (Some (i, r)) None (l, at, found, before) t = absurd (t i l (rw at found))
one_found rows mark (Some (i, r)) (Some (j, u)) (l, at, found, before) (n, at', found', before') =
    elim (cases_order i j) [
      | inl same ↦ let e : r ≡ u = sym at ∙ ap (row_at rows) same ∙ at' in ap (λ k. Some (k, r)) same ∙ ap (λ (z : Row). Some (j, z)) e
      | inr (inl less) ↦ absurd (before' i less (rw at found))
      | inr (inr more) ↦ absurd (before j more (rw at' found'))
    ]

-- only one is utmost, where no two go beyond each other
one_utmost : (Within : ℕ → ℕ → Type 0) → ((x y : ℕ) → Within x y → Within y x → x ≡ y)
    → (Q : ℕ → Type 0) (o q : Option ℕ) → Utmost Within Q o → Utmost Within Q q → o ≡ q
one_utmost Within anti Q None None s t = refl
one_utmost Within anti Q None (Some y) s t = absurd (s y t.0)
one_utmost Within anti Q (Some x) None s t = absurd (t x s.0)
one_utmost Within anti Q (Some x) (Some y) s t = ap Some (anti x y (t.1 x s.0) (s.1 y t.0))

both_by : {A B : Type 0} (a a' x : A) (b b' y : B) → (a ≡ x) × (b ≡ y) → (a' ≡ x) × (b' ≡ y) → (a ≡ a') × (b ≡ b')
both_by a a' x b b' y p q = (p.0 ∙ sym q.0, p.1 ∙ sym q.1)

one_turn : (found : Option (ℕ × Row)) (m : Sheet) (a b : Answer) (m₁ m₂ : Sheet) → Turn found m a m₁ → Turn found m b m₂
    → (a ≡ b) × (m₁ ≡ m₂)
one_turn None m a b m₁ m₂ s t = both_by a b _ m₁ m₂ _ s t
one_turn (Some (i, r)) m a b m₁ m₂ s t = both_by a b _ m₁ m₂ _ s t

module _ (L : Labels) (S : Sound L) where
  pub one_label : (rows : List Row) (w : Where) (a : ℕ) (r o : Option ℕ) → LabelFor L rows w a r → LabelFor L rows w a o → r ≡ o
  one_label rows w a r o s t = S.choose_one t.parent t.lower t.upper r o same t.chosen
    where
      under : s.parent ≡ t.parent
      under = some_injective s.parent t.parent (sym s.under ∙ t.under)

      lower : s.lower ≡ t.lower
      lower =
          one_utmost (λ c x. c ≤ x) (λ x y l k. omega arith) (λ c. ChildRow L rows t.parent c × Lower w a c) s.lower t.lower
          (subst (λ p. NextLower L rows w a p s.lower) under s.next_lower) t.next_lower

      upper : s.upper ≡ t.upper
      upper =
          one_utmost (λ c x. x ≤ c) (λ x y l k. omega arith) (λ c. ChildRow L rows t.parent c × Upper w a c) s.upper t.upper
          (subst (λ p. NextUpper L rows w a p s.upper) under s.next_upper) t.next_upper

      same : L.Chooses t.parent t.lower t.upper r
      same = transport (λ i. L.Chooses (under i) (lower i) (upper i) r) s.chosen

  -- a call that passes its checks does one thing
  one_way : (m : Sheet) (call : Call) (a b : Answer) (m₁ m₂ : Sheet) → Rising m.rows → Does L m call a m₁ → Does L m call b m₂
      → (a ≡ b) × (m₁ ≡ m₂)
  one_way m (Lay c) a b m₁ m₂ up s t = both_by a b _ m₁ m₂ _ s t
  one_way m (Open x w) a b m₁ m₂ up (y, c, p, q) (z, c', p', q') =
      let e : y ≡ z = some_injective y z (one_label m.rows w x (Some y) (Some z) c c') in (
        p ∙ ap Given e ∙ sym p',
        q ∙ ap (λ n. with_rows (with_row m.rows (opened_row n)) m) e ∙ sym q',
      )
  one_way m (Fill x c) a b m₁ m₂ up s t = both_by a b _ m₁ m₂ _ s t
  one_way m (GiveUp x) a b m₁ m₂ up s t = both_by a b _ m₁ m₂ _ s t
  one_way m (Strike x) a b m₁ m₂ up s t = both_by a b _ m₁ m₂ _ s t
  one_way m (Read x) a b m₁ m₂ up ((r, i, e, p), q) ((s, j, f, p'), q') = (
    p ∙ ap (λ (t : Row). Found t.state (card_of t)) (one_row m.rows up r s i j (e ∙ sym f)) ∙ sym p',
    q ∙ sym q',
  )
  one_way m (Start permit) a b m₁ m₂ up s t = both_by a b _ m₁ m₂ _ s t
  one_way m Next a b m₁ m₂ up (found, next, s) (found', next', t) =
      let e : found' ≡ found = one_found m.rows m.mark found' found next' next in
      one_turn found m a b m₁ m₂ s (subst (λ (o : Option (ℕ × Row)). Turn o m b m₂) e t)
  one_way m Pause a b m₁ m₂ up s t = both_by a b _ m₁ m₂ _ s t
  one_way m Resume a b m₁ m₂ up s t = both_by a b _ m₁ m₂ _ s t
  one_way m Stop a b m₁ m₂ up s t = both_by a b _ m₁ m₂ _ s t

steps_pin : (L : Labels) (S : Sound L) (is_card : ℕ → Bool) (m : Sheet) (call : Call) (a b : Answer) (m₁ m₂ : Sheet) → Rising m.rows
    → Step L is_card m call a m₁ → Step L is_card m call b m₂ → (a ≡ b) × (m₁ ≡ m₂)
steps_pin L S is_card m call a b m₁ m₂ up (inl (n, d, p, q)) (inl (k, e, p', q')) =
    (p ∙ ap Refused (one_number (checks L is_card m call) n k d e) ∙ sym p', q ∙ sym q')
steps_pin L S is_card m call a b m₁ m₂ up (inl (n, d, p, q)) (inr (ok, t)) =
    absurd (passes_or_not (checks L is_card m call) n ok d)
steps_pin L S is_card m call a b m₁ m₂ up (inr (ok, s)) (inl (k, e, p', q')) =
    absurd (passes_or_not (checks L is_card m call) k ok e)
steps_pin L S is_card m call a b m₁ m₂ up (inr (ok, s)) (inr (ok', t)) = one_way L S m call a b m₁ m₂ up s t

pub step_pins : StepPins
step_pins w N is_card m call a b m₁ m₂ proper few = steps_pin (labels_of w N) (sound w N proper few) is_card m call a b m₁ m₂
