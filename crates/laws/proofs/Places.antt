-- A drawing whose labels fit: each place's label is a child of its parent's, and siblings rise. In such a drawing reading order is the order
-- of the labels, and standing above is leading. Assumes nothing.
use Rattle.std.proofs.Common.{◌≡◌, ℕ, ◌<◌, ◌≤◌, T, ◌⊎◌, Some, Option, sym, ap, ◌∙◌, inl, inr, arith}
use Rattle.gap.specs.Labels.{Labels, Sound}
use Rattle.laws.specs.Drawing.{Place, Drawing, empty, place, In, StandsAbove, ReadBefore}

-- any two places of a drawing are one, or one of them is read first
pub one_first : (P Q : Place) (d : Drawing) → In P d → In Q d → (P ≡ Q) ⊎ (ReadBefore P Q d ⊎ ReadBefore Q P d)
one_first P Q empty i j = absurd i
one_first P Q (place R below later) (inl e) (inl f) = inl (sym e ∙ f)
one_first P Q (place R below later) (inl e) (inr j) = inr (inl (inl (e, j)))
one_first P Q (place R below later) (inr i) (inl f) = inr (inr (inl (f, i)))
one_first P Q (place R below later) (inr (inl i)) (inr (inl j)) =
    elim (one_first P Q below i j) [ inl e ↦ inl e | inr (inl b) ↦ inr (inl (inr (inr (inl b)))) | inr (inr b) ↦ inr (inr (inr (inr (inl b)))) ]
one_first P Q (place R below later) (inr (inl i)) (inr (inr j)) = inr (inl (inr (inl (i, j))))
one_first P Q (place R below later) (inr (inr i)) (inr (inl j)) = inr (inr (inr (inl (j, i))))
one_first P Q (place R below later) (inr (inr i)) (inr (inr j)) =
    elim (one_first P Q later i j) [ inl e ↦ inl e | inr (inl b) ↦ inr (inl (inr (inr (inr b)))) | inr (inr b) ↦ inr (inr (inr (inr (inr b)))) ]

module _ (L : Labels) where
  -- the labels of siblings are lawful children of p, all above low and rising, and below each the same holds of its own children
  pub data Fits : Option ℕ → ℕ → Drawing → Type 0 where
    fits_empty : {p : Option ℕ} {low : ℕ} → Fits p low empty
    fits_place : {p : Option ℕ} {low : ℕ} {below later : Drawing} (R : Place)
        → L.parent R.label ≡ p
        → low < R.label
        → T (L.lawful R.label)
        → Fits (Some R.label) R.label below
        → Fits p R.label later
        → Fits p low (place R below later)

module _ (L : Labels) (S : Sound L) where
  pub above_low : {p : Option ℕ} {low : ℕ} {d : Drawing} → Fits L p low d → (P : Place) → In P d → low < P.label
  above_low fits_empty P i = absurd i
  above_low (fits_place R child above law below later) P (inl e) = rw (← e) above
  above_low (fits_place R child above law below later) P (inr (inl i)) = omega (arith, above_low below P i)
  above_low (fits_place R child above law below later) P (inr (inr i)) = omega (arith, above_low later P i)

  -- a place leads all that stands below it
  pub led : {p low : ℕ} {d : Drawing} → Fits L (Some p) low d → (P : Place) → In P d → T (L.leads p P.label)
  led fits_empty P i = absurd i
  led {p} (fits_place R child above law below later) P (inl e) = rw (← e) (S.parent_leads p R.label child)
  led {p} (fits_place R child above law below later) P (inr (inl i)) =
      S.leads_trans p R.label P.label (S.parent_leads p R.label child) (led below P i)
  led (fits_place R child above law below later) P (inr (inr i)) = led later P i

  -- what a place leads is below the labels of its later siblings and of all that stands below these
  pub apart : {p : Option ℕ} {low : ℕ} {d : Drawing} (x z : ℕ) → L.parent x ≡ p → x ≤ low → T (L.leads x z) → Fits L p low d
      → (P : Place) → In P d → z < P.label
  apart x z e l t fits_empty P i = absurd i
  apart x z e l t (fits_place R child above law below later) P i =
      let less : z < R.label = S.siblings_apart x R.label z law (e ∙ sym child) (omega arith) t in
      elim i [
        | inl q ↦ rw (← q) less
        | inr (inl j) ↦ omega (arith, above_low below P j)
        | inr (inr j) ↦ omega (arith, above_low later P j)
      ]

  -- what is read first has the smaller label
  pub rises : {p : Option ℕ} {low : ℕ} {d : Drawing} → Fits L p low d → (P Q : Place) → ReadBefore P Q d → P.label < Q.label
  rises fits_empty P Q b = absurd b
  rises (fits_place R child above law below later) P Q (inl (e, inl j)) = rw (← e) (above_low below Q j)
  rises (fits_place R child above law below later) P Q (inl (e, inr j)) = rw (← e) (above_low later Q j)
  rises (fits_place R child above law below later) P Q (inr (inl (i, j))) =
      apart R.label P.label child (omega arith) (led below P i) later Q j
  rises (fits_place R child above law below later) P Q (inr (inr (inl b))) = rises below P Q b
  rises (fits_place R child above law below later) P Q (inr (inr (inr b))) = rises later P Q b

  -- a label has one place, and smaller labels are read first
  pub same_place : {p : Option ℕ} {low : ℕ} {d : Drawing} → Fits L p low d → (P Q : Place) → In P d → In Q d → P.label ≡ Q.label → P ≡ Q
  same_place {d = d} f P Q i j e =
      elim (one_first P Q d i j) [
        | inl q ↦ q
        | inr (inl b) ↦ absurd (omega (arith, rises f P Q b))
        | inr (inr b) ↦ absurd (omega (arith, rises f Q P b))
      ]

  pub smaller_first : {p : Option ℕ} {low : ℕ} {d : Drawing} → Fits L p low d → (P Q : Place) → In P d → In Q d → P.label < Q.label
      → ReadBefore P Q d
  smaller_first {d = d} f P Q i j l =
      elim (one_first P Q d i j) [
        | inl q ↦ absurd (omega (arith, ap (λ (R : Place). R.label) q))
        | inr (inl b) ↦ b
        | inr (inr b) ↦ absurd (omega (arith, rises f Q P b))
      ]

  pub above_leads : {p : Option ℕ} {low : ℕ} {d : Drawing} → Fits L p low d → (P Q : Place) → StandsAbove P Q d → T (L.leads P.label Q.label)
  above_leads fits_empty P Q a = absurd a
  above_leads (fits_place R child above law below later) P Q (inl (e, j)) = rw (← e) (led below Q j)
  above_leads (fits_place R child above law below later) P Q (inr (inl a)) = above_leads below P Q a
  above_leads (fits_place R child above law below later) P Q (inr (inr a)) = above_leads later P Q a

  never_leads : (x y : ℕ) → T (L.leads x y) → y ≤ x → ⊥
  never_leads x y t l = omega (arith, S.leads_less x y t)

  -- by where the two places stand: a place leads nothing that is read before it, and nothing that stands below a later sibling
  pub leads_above : {p : Option ℕ} {low : ℕ} {d : Drawing} → Fits L p low d → (P Q : Place) → In P d → In Q d → T (L.leads P.label Q.label)
      → StandsAbove P Q d
  leads_above fits_empty P Q i j t = absurd i
  leads_above (fits_place R child above law below later) P Q (inl e) (inl q) t =
      absurd (never_leads P.label Q.label t (omega (arith, ap (λ (X : Place). X.label) (sym e ∙ q))))
  leads_above (fits_place R child above law below later) P Q (inl e) (inr (inl j)) t = inl (e, j)
  leads_above (fits_place R child above law below later) P Q (inl e) (inr (inr j)) t =
      absurd (omega (arith, apart R.label Q.label child (omega arith) (rw e t) later Q j))
  leads_above (fits_place R child above law below later) P Q (inr (inl i)) (inl q) t =
      absurd (never_leads P.label Q.label t (rw (← q) (omega (arith, above_low below P i))))
  leads_above (fits_place R child above law below later) P Q (inr (inl i)) (inr (inl j)) t = inr (inl (leads_above below P Q i j t))
  leads_above (fits_place R child above law below later) P Q (inr (inl i)) (inr (inr j)) t =
      let led_too : T (L.leads R.label Q.label) = S.leads_trans R.label P.label Q.label (led below P i) t in
      absurd (omega (arith, apart R.label Q.label child (omega arith) led_too later Q j))
  leads_above (fits_place R child above law below later) P Q (inr (inr i)) (inl q) t =
      absurd (never_leads P.label Q.label t (rw (← q) (omega (arith, above_low later P i))))
  leads_above (fits_place R child above law below later) P Q (inr (inr i)) (inr (inl j)) t =
      absurd (never_leads P.label Q.label t (omega (arith, apart R.label Q.label child (omega arith) (led below Q j) later P i)))
  leads_above (fits_place R child above law below later) P Q (inr (inr i)) (inr (inr j)) t = inr (inr (leads_above later P Q i j t))
