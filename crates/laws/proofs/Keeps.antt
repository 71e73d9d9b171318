-- What every call keeps between the shelf's rows, the drawing and the labels given out. Assumes nothing.
use Rattle.std.proofs.Common.{◌≡◌, ℕ, ◌<◌, Bool, true, false, cond, T, eqb, ◌⊎◌, List, [], ◌∷◌, Some, None, Option, sym, refl, ap, ◌∙◌, subst, inl, inr, arith, eqb→eq}
use Rattle.std.proofs.lemmas.Bool.{cases_lt}
use Rattle.shelf.specs.Rows.{restated, Rising}
use Rattle.shelf.specs.Changes.{with_row}
use Rattle.gap.specs.Labels.{Labels, Sound}
use Rattle.gap.proofs.Options.{some_injective, none_ne_some}
use Rattle.laws.specs.Standing.{State, Opened, Row, Has, Stands, StandsAs, is_filled, filled_row, opened_row, revised, revise}
use Rattle.laws.specs.Sheet.{Where, FirstUnder, LastUnder, Before, After}
use Rattle.laws.specs.Openings.{Lower, Upper, ChildRow, NextLower, NextUpper, LabelFor}
use Rattle.laws.specs.Drawing.{Place, Drawing, empty, place, In, draw, refilled, refill, none_earlier, named}
use Rattle.laws.proofs.Tests.{and_first, same_test}
use Rattle.laws.proofs.Places.{Fits, fits_empty, fits_place, same_place}
use Rattle.laws.proofs.Draws.{draw_in, draw_old, draw_new, Opens, draw_fits, refill_fits, named_label, label_named, refill_from, refill_to, refill_nothing}
use Rattle.laws.proofs.Rows.{put_in, put_old, put_new, put_rising, revised_label, revise_from, revise_to, revise_rising}

-- a row and a place with one label, both filled or both not
abbrev pub Agree : Row → Place → Type 0
Agree r P = (r.label ≡ P.label) × (is_filled r.state ≡ P.filled)

-- the row has a place in the drawing, and the place a row
abbrev pub HasPlace : Drawing → Row → Type 0
HasPlace d r = (P : Place) × In P d × Agree r P

abbrev pub HasRow : List Row → Place → Type 0
HasRow rows P = (r : Row) × Has rows r × Agree r P

-- call number i drew a place with the label x
abbrev pub Drawn : Drawing → (i x : ℕ) → Type 0
Drawn d i x = (P : Place) × In P d × (P.serial ≡ i) × (P.label ≡ x)

-- given out so far, and label x by call number n
abbrev pub And : (ℕ → ℕ → Type 0) → (n x : ℕ) → ℕ → ℕ → Type 0
And G n x i y = ((n ≡ i) × (Some x ≡ Some y)) ⊎ G i y

-- each sibling is lower or upper at an opening
lower_or_upper : (w : Where) (a c : ℕ) → Lower w a c ⊎ Upper w a c
lower_or_upper FirstUnder a c = inr tt
lower_or_upper LastUnder a c = inl tt
lower_or_upper Before a c = cases_lt c a
lower_or_upper After a c = elim (cases_lt a c) [ inl l ↦ inr l | inr l ↦ inl l ]

module _ (L : Labels) (S : Sound L) where
  -- rows, a drawing and the labels given out (by call number) that go together
  pub record Together (rows : List Row) (laid : Bool) (d : Drawing) (G : ℕ → ℕ → Type 0) : Type 0 where
    pub rising : Rising rows
    pub fits : Fits L None 0 d
    pub unlaid : ¬ (T laid) → d ≡ empty
    pub placed : T laid → (r : Row) → Has rows r → HasPlace d r
    pub rowed : (P : Place) → In P d → HasRow rows P
    pub given : (P : Place) → In P d → G P.serial P.label
    pub drawn : (i x : ℕ) → G i x → Drawn d i x

  -- ## Lay

  module _ (G : ℕ → ℕ → Type 0) (n c : ℕ) (none_given : (i x : ℕ) → ¬ (G i x)) where
    abbrev head_row : Row
    head_row = filled_row L.head c

    abbrev top : Place
    top = record { serial = n; label = L.head; filled = true }

    abbrev only : Drawing
    only = place top empty empty

    pub laid_together : Together (head_row ∷ []) true only (And G n L.head)
    laid_together = record {
      rising = λ i j less l. absurd (omega arith);
      fits = fits_place top S.head_top S.head_positive S.head_lawful fits_empty fits_empty;
      unlaid = λ u. absurd (u tt);
      placed = λ u. placed';
      rowed = rowed';
      given = given';
      drawn = drawn';
    }
      where
        placed' : (r : Row) → Has (head_row ∷ []) r → HasPlace only r
        placed' r (inl e) = (top, inl refl, subst (λ (s : Row). Agree s top) e (refl, refl))
        placed' r (inr i) = absurd i

        rowed' : (P : Place) → In P only → HasRow (head_row ∷ []) P
        rowed' P (inl e) = (head_row, inl refl, subst (Agree head_row) e (refl, refl))
        rowed' P (inr (inl i)) = absurd i
        rowed' P (inr (inr i)) = absurd i

        given' : (P : Place) → In P only → And G n L.head P.serial P.label
        given' P (inl e) = subst (λ (Q : Place). And G n L.head Q.serial Q.label) e (inl (refl, refl))
        given' P (inr (inl i)) = absurd i
        given' P (inr (inr i)) = absurd i

        drawn' : (i x : ℕ) → And G n L.head i x → Drawn only i x
        drawn' i x (inl (e, q)) = (top, inl refl, e, some_injective L.head x q)
        drawn' i x (inr g) = absurd (none_given i x g)

  -- the label chosen lies between the siblings: above each lower one and below each upper one
  above_lower : (rows : List Row) (w : Where) (a p x : ℕ) (l u : Option ℕ) → NextLower L rows w a p l → L.Chooses p l u (Some x)
      → (c : ℕ) → ChildRow L rows p c → Lower w a c → c < x
  above_lower rows w a p x None u next e c k h = absurd (next c (k, h))
  above_lower rows w a p x (Some l) u next e c k h = omega (arith, next.1 c (k, h), S.choose_above p l u x e)

  below_upper : (rows : List Row) (w : Where) (a p x : ℕ) (l u : Option ℕ) → NextUpper L rows w a p u → L.Chooses p l u (Some x)
      → (c : ℕ) → ChildRow L rows p c → Upper w a c → x < c
  below_upper rows w a p x l None next e c k h = absurd (next c (k, h))
  below_upper rows w a p x l (Some u) next e c k h = omega (arith, next.1 c (k, h), S.choose_below p l u x e)

  module _ {rows : List Row} {laid : Bool} {d : Drawing} {G : ℕ → ℕ → Type 0} where
    -- ## Nothing new

    pub same_given : {G' : ℕ → ℕ → Type 0} → ((i x : ℕ) → G i x → G' i x) → ((i x : ℕ) → G' i x → G i x)
        → Together rows laid d G → Together rows laid d G'
    same_given to from t =
        record {
          rising = t.rising;
          fits = t.fits;
          unlaid = t.unlaid;
          placed = t.placed;
          rowed = t.rowed;
          given = λ P i. to P.serial P.label (t.given P i);
          drawn = λ i x g. t.drawn i x (from i x g);
        }

    -- ## Fill, strike and give up

    -- a change of state at the label a, and the places that a test finds made filled or unfilled, where rows and places still agree
    changed_together : (a : ℕ) (st : State) (c : ℕ) (test : Place → Bool) (b : Bool)
        → ((r : Row) (P : Place) → In P d → Agree r P → Agree (revised a st c r) (refilled test b P))
        → Together rows laid d G
        → Together (revise a st c rows) laid (refill test b d) G
    changed_together a st c test b agree t =
        record {
          rising = revise_rising a st c rows t.rising;
          fits = refill_fits L S test b t.fits;
          unlaid = λ u. subst (λ (e : Drawing). refill test b e ≡ empty) (sym (t.unlaid u)) refl;
          placed = placed';
          rowed = rowed';
          given = given';
          drawn = drawn';
        }
      where
        d' : Drawing
        d' = refill test b d

        placed' : T laid → (r : Row) → Has (revise a st c rows) r → HasPlace d' r
        placed' u r h =
            let (s, k, e) = revise_from a st c r rows h in
            let (P, i, g) = t.placed u s k in
            (refilled test b P, refill_to test b P d i, subst (λ (q : Row). Agree q (refilled test b P)) e (agree s P i g))

        rowed' : (P : Place) → In P d' → HasRow (revise a st c rows) P
        rowed' P i =
            let (Q, j, e) = refill_from test b P d i in
            let (r, h, g) = t.rowed Q j in
            (revised a st c r, revise_to a st c r rows h, subst (Agree (revised a st c r)) e (agree r Q j g))

        given' : (P : Place) → In P d' → G P.serial P.label
        given' P i =
            let (Q, j, e) = refill_from test b P d i in
            subst (λ (R : Place). G R.serial R.label) e (t.given Q j)

        drawn' : (i x : ℕ) → G i x → Drawn d' i x
        drawn' i x g = let (P, j, s, l) = t.drawn i x g in (refilled test b P, refill_to test b P d j, s, l)

    -- a fill, and a strike: the place that the label names changes as its row does
    pub refilled_together : (a : ℕ) (st : State) (c : ℕ)
        → Together rows laid d G
        → Together (revise a st c rows) laid (refill (named a d) (is_filled st) d) G
    refilled_together a st c t = changed_together a st c (named a d) (is_filled st) agree t
      where
        -- where labels fit, a label names just the place that has it
        same : (P : Place) → In P d → named a d P ≡ eqb P.label a
        same P i =
            same_test
            (named a d P)
            (eqb P.label a)
            (and_first (eqb P.label a) (none_earlier a P.serial d))
            (λ u. label_named L S a t.fits P i (eqb→eq P.label a u))

        agree : (r : Row) (P : Place) → In P d → Agree r P → Agree (revised a st c r) (refilled (named a d) (is_filled st) P)
        agree r P i g = (
          revised_label a st c r ∙ g.0,
          go (eqb r.label a) P.filled g.1
              ∙ ap (λ b. cond b (is_filled st) P.filled) (ap (λ x. eqb x a) g.0 ∙ sym (same P i)),
        )
          where
            go : (b f : Bool) → is_filled r.state ≡ f → is_filled (cond b (restated r st c) r).state ≡ cond b (is_filled st) f
            go true f h = refl
            go false f h = h

    -- an opened row that changes to a state that is not filled was not filled before, and neither is its place
    pub given_up_together : (a : ℕ) (st : State) → is_filled st ≡ false → T laid → StandsAs Opened rows a
        → Together rows laid d G
        → Together (revise a st 0 rows) laid d G
    given_up_together a st unfilled u (s, h, at, opened) t =
        subst
        (λ (e : Drawing). Together (revise a st 0 rows) laid e G)
        (refill_nothing false d)
        (changed_together a st 0 (λ P. false) false agree t)
      where
        was_open : HasPlace d s
        was_open = t.placed u s h

        agree : (r : Row) (P : Place) → In P d → Agree r P → Agree (revised a st 0 r) P
        agree r P i g = (revised_label a st 0 r ∙ g.0, go (eqb r.label a) (λ k. eqb→eq r.label a k))
          where
            go : (b : Bool) → (T b → r.label ≡ a) → is_filled (cond b (restated r st 0) r).state ≡ P.filled
            go true k =
                let (Q, j, q) = was_open in
                let same : Q ≡ P = same_place L S t.fits Q P j i (sym q.0 ∙ at ∙ sym (k tt) ∙ g.0) in
                unfilled ∙ ap is_filled (sym opened) ∙ q.1 ∙ ap (λ (R : Place). R.filled) same
            go false k = g.1

    -- ## Open

    pub opened_together : (n a : ℕ) (w : Where) (x : ℕ) → T laid → Stands rows a → LabelFor L rows w a (Some x)
        → Together rows laid d G
        → Together (with_row rows (opened_row x)) laid (draw w (named a d) (record { serial = n; label = x; filled = false }) d) (And G n x)
    opened_together n a w x v (s, h, at) label t =
        record {
          rising = put_rising new_row rows fresh t.rising;
          fits = draw_fits L S a p new (named a d) (S.choose_lawful p l u x chosen) child w label.under opens (λ e. absurd (none_ne_some p e)) t.fits;
          unlaid = λ z. absurd (z v);
          placed = λ z. placed';
          rowed = rowed';
          given = given';
          drawn = drawn';
        }
      where
        p : ℕ
        p = label.parent

        l : Option ℕ
        l = label.lower

        u : Option ℕ
        u = label.upper

        chosen : L.Chooses p l u (Some x)
        chosen = label.chosen

        new : Place
        new = record { serial = n; label = x; filled = false }

        new_row : Row
        new_row = opened_row x

        d' : Drawing
        d' = draw w (named a d) new d

        child : L.parent x ≡ Some p
        child = S.choose_child p l u x chosen

        above : (c : ℕ) → ChildRow L rows p c → Lower w a c → c < x
        above = above_lower rows w a p x l u label.next_lower chosen

        below : (c : ℕ) → ChildRow L rows p c → Upper w a c → x < c
        below = below_upper rows w a p x l u label.next_upper chosen

        is_child : (P : Place) → In P d → L.parent P.label ≡ Some p → ChildRow L rows p P.label
        is_child P i e = let (r, k, g) = t.rowed P i in ((r, k, g.0), e)

        opens : Opens L S w a p new (named a d) d
        opens =
            record {
              finds = λ P i. named_label a d P;
              lower = λ P i e. above P.label (is_child P i e);
              upper = λ P i e. below P.label (is_child P i e);
            }

        fresh : (r : Row) → Has rows r → ¬ (r.label ≡ x)
        fresh r k e =
            let c : ChildRow L rows p x = ((r, k, e), child) in
            elim (lower_or_upper w a x) [
              | inl o ↦ absurd (omega (arith, above x c o))
              | inr o ↦ absurd (omega (arith, below x c o))
            ]

        new_in : In new d'
        new_in =
            let (P, i, g) = t.placed v s h in
            draw_new w (named a d) new P d i (label_named L S a t.fits P i (sym g.0 ∙ at))

        placed' : (r : Row) → Has (with_row rows new_row) r → HasPlace d' r
        placed' r k =
            elim (put_in new_row r rows k) [
              | inl e ↦ (new, new_in, subst (λ (q : Row). Agree q new) e (refl, refl))
              | inr j ↦ let (P, i, g) = t.placed v r j in (P, draw_old w (named a d) new P d i, g)
            ]

        rowed' : (P : Place) → In P d' → HasRow (with_row rows new_row) P
        rowed' P i =
            elim (draw_in w (named a d) new P d i) [
              | inl e ↦ (new_row, put_new new_row rows, subst (Agree new_row) (sym e) (refl, refl))
              | inr j ↦ let (r, k, g) = t.rowed P j in (r, put_old new_row r rows k, g)
            ]

        given' : (P : Place) → In P d' → And G n x P.serial P.label
        given' P i =
            elim (draw_in w (named a d) new P d i)
            [ inl e ↦ subst (λ (Q : Place). And G n x Q.serial Q.label) (sym e) (inl (refl, refl)) | inr j ↦ inr (t.given P j) ]

        drawn' : (i y : ℕ) → And G n x i y → Drawn d' i y
        drawn' i y (inl (e, q)) = (new, new_in, e, some_injective x y q)
        drawn' i y (inr g) = let (P, j, s, e) = t.drawn i y g in (P, draw_old w (named a d) new P d j, s, e)
