-- What a new place, a fill and a strike change in a drawing, and that its labels still fit. Assumes nothing.
use Rattle.std.proofs.Common.{◌≡◌, ℕ, ◌<◌, ◌≤◌, Bool, true, false, not, ◌&&◌, ◌||◌, T, eqb, leb, ◌⊎◌, Some, Option, sym, refl, ap, ◌∙◌, subst, inl, inr, arith, eqb→eq}
use Rattle.gap.proofs.Options.{some_injective}
use lib.Dec.{eqb_refl}
use Rattle.std.proofs.lemmas.Bool.{le-leb, cond_both}
use Rattle.gap.specs.Labels.{Labels, Sound}
use Rattle.laws.specs.Sheet.{Where, FirstUnder, LastUnder, Before, After}
use Rattle.laws.specs.Openings.{Lower, Upper, above_new}
use Rattle.laws.specs.Drawing.{Place, Drawing, empty, place, In, append, draw_at, draw, refilled, refill, none_earlier, named}
use Rattle.laws.proofs.Tests.{both, and_first}
use Rattle.laws.proofs.Places.{Fits, fits_empty, fits_place, above_low, same_place}

-- ## A new place

append_in : (new P : Place) (d : Drawing) → In P (append d new) → (P ≡ new) ⊎ In P d
append_in new P empty (inl e) = inl (sym e)
append_in new P empty (inr (inl i)) = absurd i
append_in new P empty (inr (inr i)) = absurd i
append_in new P (place R below later) (inl e) = inr (inl e)
append_in new P (place R below later) (inr (inl i)) = inr (inr (inl i))
append_in new P (place R below later) (inr (inr i)) =
    elim (append_in new P later i) [ inl e ↦ inl e | inr j ↦ inr (inr (inr j)) ]

append_old : (new P : Place) (d : Drawing) → In P d → In P (append d new)
append_old new P empty i = absurd i
append_old new P (place R below later) (inl e) = inl e
append_old new P (place R below later) (inr (inl i)) = inr (inl i)
append_old new P (place R below later) (inr (inr i)) = inr (inr (append_old new P later i))

append_new : (new : Place) (d : Drawing) → In new (append d new)
append_new new empty = inl refl
append_new new (place R below later) = inr (inr (append_new new later))

at_in : (w : Where) (new P R : Place) (below later : Drawing) → In P (draw_at w new R below later) → (P ≡ new) ⊎ In P (place R below later)
at_in FirstUnder new P R below later (inl e) = inr (inl e)
at_in FirstUnder new P R below later (inr (inl (inl e))) = inl (sym e)
at_in FirstUnder new P R below later (inr (inl (inr (inl i)))) = absurd i
at_in FirstUnder new P R below later (inr (inl (inr (inr i)))) = inr (inr (inl i))
at_in FirstUnder new P R below later (inr (inr i)) = inr (inr (inr i))
at_in LastUnder new P R below later (inl e) = inr (inl e)
at_in LastUnder new P R below later (inr (inl i)) =
    elim (append_in new P below i) [ inl e ↦ inl e | inr j ↦ inr (inr (inl j)) ]
at_in LastUnder new P R below later (inr (inr i)) = inr (inr (inr i))
at_in Before new P R below later (inl e) = inl (sym e)
at_in Before new P R below later (inr (inl i)) = absurd i
at_in Before new P R below later (inr (inr i)) = inr i
at_in After new P R below later (inl e) = inr (inl e)
at_in After new P R below later (inr (inl i)) = inr (inr (inl i))
at_in After new P R below later (inr (inr (inl e))) = inl (sym e)
at_in After new P R below later (inr (inr (inr (inl i)))) = absurd i
at_in After new P R below later (inr (inr (inr (inr i)))) = inr (inr (inr i))

at_old : (w : Where) (new P R : Place) (below later : Drawing) → In P (place R below later) → In P (draw_at w new R below later)
at_old FirstUnder new P R below later (inl e) = inl e
at_old FirstUnder new P R below later (inr (inl i)) = inr (inl (inr (inr i)))
at_old FirstUnder new P R below later (inr (inr i)) = inr (inr i)
at_old LastUnder new P R below later (inl e) = inl e
at_old LastUnder new P R below later (inr (inl i)) = inr (inl (append_old new P below i))
at_old LastUnder new P R below later (inr (inr i)) = inr (inr i)
at_old Before new P R below later i = inr (inr i)
at_old After new P R below later (inl e) = inl e
at_old After new P R below later (inr (inl i)) = inr (inl i)
at_old After new P R below later (inr (inr i)) = inr (inr (inr (inr i)))

at_new : (w : Where) (new R : Place) (below later : Drawing) → In new (draw_at w new R below later)
at_new FirstUnder new R below later = inr (inl (inl refl))
at_new LastUnder new R below later = inr (inl (append_new new below))
at_new Before new R below later = inl refl
at_new After new R below later = inr (inr (inl refl))

module _ (w : Where) (test : Place → Bool) (new : Place) where
  -- a drawing with a new place, where it comes: at the root, or further on
  abbrev drawn_in : (R : Place) (below later : Drawing) → Drawing
  drawn_in R below later = place R (draw w test new below) (draw w test new later)

  pub draw_in : (P : Place) (d : Drawing) → In P (draw w test new d) → (P ≡ new) ⊎ In P d
  draw_in P empty = λ i. absurd i
  draw_in P (place R below later) =
      cond_both (test R) (draw_at w new R below later) (drawn_in R below later) (λ (d : Drawing). In P d → (P ≡ new) ⊎ In P (place R below later))
      (λ t. at_in w new P R below later)
      (λ f i. elim i [
        | inl e ↦ inr (inl e)
        | inr (inl j) ↦ elim (draw_in P below j) [ inl e ↦ inl e | inr k ↦ inr (inr (inl k)) ]
        | inr (inr j) ↦ elim (draw_in P later j) [ inl e ↦ inl e | inr k ↦ inr (inr (inr k)) ]
      ])

  pub draw_old : (P : Place) (d : Drawing) → In P d → In P (draw w test new d)
  draw_old P empty i = absurd i
  draw_old P (place R below later) i =
      cond_both (test R) (draw_at w new R below later) (drawn_in R below later) (In P)
      (λ t. at_old w new P R below later i)
      (λ f. elim i [ inl e ↦ inl e | inr (inl j) ↦ inr (inl (draw_old P below j)) | inr (inr j) ↦ inr (inr (draw_old P later j)) ])

  pub draw_new : (P : Place) (d : Drawing) → In P d → T (test P) → In new (draw w test new d)
  draw_new P empty i t = absurd i
  draw_new P (place R below later) i t =
      cond_both (test R) (draw_at w new R below later) (drawn_in R below later) (In new)
      (λ found. at_new w new R below later)
      (λ other. elim i [
        | inl e ↦ absurd (subst T other (rw e t))
        | inr (inl j) ↦ inr (inl (draw_new P below j t))
        | inr (inr j) ↦ inr (inr (draw_new P later j t))
      ])

module _ (L : Labels) (S : Sound L) where
  -- ## The labels still fit

  -- siblings that all lie above x
  raise : {p : Option ℕ} {low : ℕ} {d : Drawing} (x : ℕ) → ((P : Place) → In P d → L.parent P.label ≡ p → x < P.label) → Fits L p low d
      → Fits L p x d
  raise x higher fits_empty = fits_empty
  raise x higher (fits_place R child above law below later) = fits_place R child (higher R (inl refl) child) law below later

  append_fits : {p low : ℕ} {d : Drawing} (new : Place) → T (L.lawful new.label) → L.parent new.label ≡ Some p → low < new.label
      → ((P : Place) → In P d → L.parent P.label ≡ Some p → P.label < new.label)
      → Fits L (Some p) low d
      → Fits L (Some p) low (append d new)
  append_fits new law child above last fits_empty = fits_place new child above law fits_empty fits_empty
  append_fits new law child above last (fits_place R child' above' law' below later) =
      fits_place R child' above' law' below (append_fits new law child (last R (inl refl) child') (λ P i. last P (inr (inr i))) later)

  child_less : (p x : ℕ) → L.parent x ≡ Some p → p < x
  child_less p x e = S.leads_less p x (S.parent_leads p x e)

  -- the test finds only places with the label a, and new's label lies between the siblings of a place that is opened there below q
  pub record Opens (w : Where) (a q : ℕ) (new : Place) (test : Place → Bool) (d : Drawing) : Type 0 where
    pub finds : (P : Place) → In P d → T (test P) → P.label ≡ a
    pub lower : (P : Place) → In P d → L.parent P.label ≡ Some q → Lower w a P.label → P.label < new.label
    pub upper : (P : Place) → In P d → L.parent P.label ≡ Some q → Upper w a P.label → new.label < P.label

  module _ (a q : ℕ) (new : Place) (test : Place → Bool) (law : T (L.lawful new.label)) (child : L.parent new.label ≡ Some q) where
    -- what holds of a drawing holds of its parts
    part : {w : Where} {d d' : Drawing} → ((P : Place) → In P d' → In P d) → Opens w a q new test d → Opens w a q new test d'
    part s o = record { finds = λ P i. o.finds P (s P i); lower = λ P i. o.lower P (s P i); upper = λ P i. o.upper P (s P i) }

    -- a sibling below the place at which the new one is opened is below the new one
    below_new : (w : Where) (r : ℕ) → above_new L w a ≡ Some q → L.parent r ≡ Some q → r < a → (Lower w a r → r < new.label)
        → r < new.label
    below_new FirstUnder r e c l h = absurd (omega (arith, some_injective a q e, child_less q r c))
    below_new LastUnder r e c l h = h tt
    below_new Before r e c l h = h l
    below_new After r e c l h = h (omega arith)

    -- the new place at R, which has the label a
    at_fits : (w : Where) {p : Option ℕ} {low : ℕ} {R : Place} {b l : Drawing} → above_new L w a ≡ Some q → R.label ≡ a
        → Opens w a q new test (place R b l)
        → (p ≡ Some q → low < a → low < new.label)
        → Fits L p low (place R b l)
        → Fits L p low (draw_at w new R b l)
    at_fits FirstUnder e n o k (fits_place R child' above law' below later) =
        let same : q ≡ R.label = sym (some_injective a q e) ∙ sym n in
        let under : L.parent new.label ≡ Some R.label = child ∙ ap Some same in
        let siblings = raise new.label (λ P i g. o.upper P (inr (inl i)) (g ∙ ap Some (sym same)) tt) below in
        fits_place R child' above law' (fits_place new under (child_less R.label new.label under) law fits_empty siblings) later
    at_fits LastUnder e n o k (fits_place R child' above law' below later) =
        let same : q ≡ R.label = sym (some_injective a q e) ∙ sym n in
        let under : L.parent new.label ≡ Some R.label = child ∙ ap Some same in
        fits_place R child' above law'
        (append_fits new law under (child_less R.label new.label under) (λ P i g. o.lower P (inr (inl i)) (g ∙ ap Some (sym same)) tt) below) later
    at_fits Before e n o k (fits_place R child' above law' below later) =
        let under : L.parent R.label ≡ Some q = ap L.parent n ∙ e in
        let same = sym child' ∙ under in
        fits_place new (child ∙ sym same) (k same (rw (← n) above)) law fits_empty
        (fits_place R child' (o.upper R (inl refl) under (omega arith)) law' below later)
    at_fits After e n o k (fits_place R child' above law' below later) =
        let under : L.parent R.label ≡ Some q = ap L.parent n ∙ e in
        let same = sym child' ∙ under in
        let siblings = raise new.label (λ P i g. o.upper P (inr (inr i)) (g ∙ same) (omega (arith, above_low L S later P i))) later in
        fits_place R child' above law' below (fits_place new (child ∙ sym same) (o.lower R (inl refl) under (omega arith)) law fits_empty siblings)

    pub draw_fits : (w : Where) {p : Option ℕ} {low : ℕ} {d : Drawing} → above_new L w a ≡ Some q → Opens w a q new test d
        → (p ≡ Some q → low < a → low < new.label)
        → Fits L p low d
        → Fits L p low (draw w test new d)
    draw_fits w e o k fits_empty = fits_empty
    draw_fits w {p} {low} e o k (fits_place {below = b} {later = l} R child' above law' below later) =
        cond_both (test R) (draw_at w new R b l) (drawn_in w test new R b l) (Fits L p low)
        (λ found. at_fits w e (o.finds R (inl refl) (subst T (sym found) tt)) o k (fits_place R child' above law' below later))
        (λ other. fits_place R child' above law'
        (draw_fits w e (part (λ P i. inr (inl i)) o) (λ g l. child_less R.label new.label (child ∙ sym g)) below)
        (draw_fits w e (part (λ P i. inr (inr i)) o) (λ g l. below_new w R.label e (child' ∙ g) l (o.lower R (inl refl) (child' ∙ g))) later))

  -- ## A fill and a strike

  pub refill_fits : (test : Place → Bool) (b : Bool) {p : Option ℕ} {low : ℕ} {d : Drawing} → Fits L p low d → Fits L p low (refill test b d)
  refill_fits test b fits_empty = fits_empty
  refill_fits test b (fits_place R child above law below later) =
      fits_place (refilled test b R) child above law (refill_fits test b below) (refill_fits test b later)

  -- ## Names

  none_earlier_from : (a n : ℕ) (d : Drawing) → ((P : Place) → In P d → P.label ≡ a → n ≤ P.serial) → T (none_earlier a n d)
  none_earlier_from a n empty h = tt
  none_earlier_from a n (place R below later) h =
      both
      (not (eqb R.label a) || leb n R.serial)
      (none_earlier a n below && none_earlier a n later)
      (go (eqb R.label a) (λ t. h R (inl refl) (eqb→eq R.label a t)))
      (both
      (none_earlier a n below)
      (none_earlier a n later)
      (none_earlier_from a n below (λ P i. h P (inr (inl i))))
      (none_earlier_from a n later (λ P i. h P (inr (inr i)))))
    where
      go : (b : Bool) → (T b → n ≤ R.serial) → T (not b || leb n R.serial)
      go true g = subst T (sym (le-leb n R.serial (g tt))) tt
      go false g = tt

  -- where labels fit, a label names the place that has it
  pub label_named : {p : Option ℕ} {low : ℕ} {d : Drawing} (a : ℕ) → Fits L p low d → (P : Place) → In P d → P.label ≡ a → T (named a d P)
  label_named {d = d} a f P i e =
      both
      (eqb P.label a)
      (none_earlier a P.serial d)
      (subst (λ x. T (eqb x a)) (sym e) (eqb_refl a))
      (none_earlier_from a P.serial d (λ Q j g. omega (arith, ap (λ (X : Place). X.serial) (same_place L S f P Q i j (e ∙ sym g)))))

-- a label that names a place is that place's
pub named_label : (a : ℕ) (d : Drawing) (P : Place) → T (named a d P) → P.label ≡ a
named_label a d P t = eqb→eq P.label a (and_first (eqb P.label a) (none_earlier a P.serial d) t)

-- a refilled place comes from one of the drawing, and each has its refilled one
pub refill_from : (test : Place → Bool) (b : Bool) (P : Place) (d : Drawing) → In P (refill test b d) → (Q : Place) × In Q d × (refilled test b Q ≡ P)
refill_from test b P empty i = absurd i
refill_from test b P (place R below later) (inl e) = (R, inl refl, e)
refill_from test b P (place R below later) (inr (inl i)) =
    let r : ((Q : Place) × In Q below × (refilled test b Q ≡ P)) = refill_from test b P below i in (r.0, inr (inl r.1), r.2)
refill_from test b P (place R below later) (inr (inr i)) =
    let r : ((Q : Place) × In Q later × (refilled test b Q ≡ P)) = refill_from test b P later i in (r.0, inr (inr r.1), r.2)

pub refill_to : (test : Place → Bool) (b : Bool) (Q : Place) (d : Drawing) → In Q d → In (refilled test b Q) (refill test b d)
refill_to test b Q empty i = absurd i
refill_to test b Q (place R below later) (inl e) = inl (ap (refilled test b) e)
refill_to test b Q (place R below later) (inr (inl i)) = inr (inl (refill_to test b Q below i))
refill_to test b Q (place R below later) (inr (inr i)) = inr (inr (refill_to test b Q later i))

-- a test that finds no place changes nothing
pub refill_nothing : (b : Bool) (d : Drawing) → refill (λ P. false) b d ≡ d
refill_nothing b empty = refl
refill_nothing b (place R below later) =
    ap (λ (e : Drawing). place R e (refill (λ P. false) b later)) (refill_nothing b below) ∙ ap (place R below) (refill_nothing b later)
