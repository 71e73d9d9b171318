-- The three laws, from what every call keeps. Assumes nothing.
use Rattle.std.proofs.Common.{◌≡◌, ℕ, Bool, true, false, T, ◌⊎◌, ◌↔◌, [], ◌∷◌, ◌++◌, Some, None, Option, sym, refl, ap, ◌∙◌, subst, inl, inr, arith}
use Rattle.shelf.specs.Rows.{Rising}
use Rattle.shelf.specs.Scan.{NextFilled}
use Rattle.gap.specs.Labels.{Labels, Sound}
use Rattle.gap.specs.PlanLabels.{labels_of}
use Rattle.gap.proofs.Options.{some_injective, none_ne_some}
use Rattle.gap.proofs.PlanLabels.{sound}
use Rattle.laws.specs.Standing.{Row, Filled, Has, Stands, StandsAs, is_filled}
use Rattle.laws.specs.Sheet.{Phase, Firing, Sheet, Call, Lay, Open, Fill, GiveUp, Strike, Read, Start, Next, Pause, Resume, Stop, Answer, Refused, Given, Done, Found, Obey, End}
use Rattle.laws.specs.Calls.{card_of, Turn, Does, Step}
use Rattle.laws.specs.Drawing.{Place, Drawing, In, ReadBefore, Names}
use Rattle.laws.specs.History.{Event, History, Was, obeys, drawing, LayAnswered, GivenOut, firing, Obeyed, ObeyedPlace, FilledBehind}
use Rattle.laws.specs.Laws.{NewlyMade, Run, LabelsFollowDrawing, ShelfFollowsDrawing, LawB, LawC, Lawful, LawfulAfter, ThreeLaws}
use Rattle.laws.proofs.Places.{Fits, fits_empty, same_place, rises, smaller_first, above_leads, leads_above}
use Rattle.laws.proofs.Draws.{label_named}
use Rattle.laws.proofs.Rows.{filled_is, is_filled_from, Takes, takes, takes_none}
use Rattle.laws.proofs.Firings.{Caught, obeyed_before}
use Rattle.laws.proofs.Steps.{runs, Good, runs_laid, keep}
use Rattle.laws.proofs.Laying.{laid_by_lay}

-- ## Only next turns

-- next's own answers: a label to obey, or the end
abbrev is_turn : Answer → Bool
is_turn (Refused n) = false
is_turn (Given x) = false
is_turn Done = false
is_turn (Found st c) = false
is_turn (Obey x c) = true
is_turn End = true

obeys_turns : (answer : Answer) (x : ℕ) → obeys answer ≡ Some x → T (is_turn answer)
obeys_turns (Refused n) x e = absurd (none_ne_some x e)
obeys_turns (Given y) x e = absurd (none_ne_some x e)
obeys_turns Done x e = absurd (none_ne_some x e)
obeys_turns (Found st c) x e = absurd (none_ne_some x e)
obeys_turns (Obey y c) x e = tt
obeys_turns End x e = absurd (none_ne_some x e)

module _ (L : Labels) (is_card : ℕ → Bool) (m : Sheet) (answer : Answer) (m' : Sheet) (turn : T (is_turn answer)) where
  other : {A : Type 0} (a : Answer) → is_turn a ≡ false → answer ≡ a → A
  other a e q = absurd (subst T e (subst (λ (z : Answer). T (is_turn z)) q turn))

  only_next : (call : Call) → Step L is_card m call answer m' → (m.phase ≡ Firing) × Does L m Next answer m'
  only_next call (inl (n, down, a, b)) = other (Refused n) refl a
  only_next (Lay c) (inr (ok, d)) = other (Given L.head) refl d.0
  only_next (Open a w) (inr (ok, d)) = other (Given d.0) refl d.2
  only_next (Fill a c) (inr (ok, d)) = other Done refl d.0
  only_next (GiveUp a) (inr (ok, d)) = other Done refl d.0
  only_next (Strike a) (inr (ok, d)) = other Done refl d.0
  only_next (Read a) (inr (ok, ((r, i, e, q), b))) = other (Found r.state (card_of r)) refl q
  only_next (Start permit) (inr (ok, d)) = other Done refl d.0
  only_next Next (inr (ok, d)) = (ok.0, d)
  only_next Pause (inr (ok, d)) = other Done refl d.0
  only_next Resume (inr (ok, d)) = other Done refl d.0
  only_next Stop (inr (ok, d)) = other Done refl d.0

-- where next answers end it takes no row ..
end_takes : (found : Option (ℕ × Row)) (m m' : Sheet) (answer : Answer) → NextFilled m.rows m.mark found → answer ≡ End
    → Turn found m answer m'
    → NextFilled m.rows m.mark None
end_takes None m m' answer next e turn = next
end_takes (Some (i, r)) m m' answer next e (a, b) = absurd (none_ne_some r.label (ap obeys (sym e ∙ a)))

-- .. and where it answers a label it takes the row of that label
obeys_takes : (found : Option (ℕ × Row)) (m m' : Sheet) (answer : Answer) (x : ℕ) → Rising m.rows → NextFilled m.rows m.mark found
    → obeys answer ≡ Some x
    → Turn found m answer m'
    → (r : Row) × Takes m.mark m.rows r × (r.label ≡ x)
obeys_takes None m m' answer x up next o (a, b) = absurd (none_ne_some x (sym (ap obeys a) ∙ o))
obeys_takes (Some (i, r)) m m' answer x up next o (a, b) =
    (r, takes m.mark m.rows i r up next, some_injective r.label x (sym (ap obeys a) ∙ o))

module _ (L : Labels) (S : Sound L) where
  module _ (m : Sheet) (h : History) (g : Good L S m h) where
    fits : Fits L None 0 (drawing h)
    fits = g.together.fits

    -- ## The first law

    labels_follow : LabelsFollowDrawing L h
    labels_follow = record {
      placed = λ i x k. let (P, j, s, l) = g.together.drawn i x k in (P, (k, j, s, l));
      labelled = λ P j. (g.together.given P j, j, refl, refl);
      same = λ i j x y P Q p q. (
        λ e. same_place L S fits P Q p.1 q.1 (p.3 ∙ e ∙ sym q.3),
        λ e. sym p.3 ∙ ap (λ (R : Place). R.label) e ∙ q.3,
      );
      order = λ i j x y P Q p q. (
        λ l. smaller_first L S fits P Q p.1 q.1 (omega (arith, l, p.3, q.3)),
        λ b. omega (arith, rises L S fits P Q b, p.3, q.3),
      );
      leading = λ i j x y P Q p q. (
        λ t. leads_above L S fits P Q p.1 q.1 (rw (p.3, q.3) t),
        λ a. rw (← p.3, ← q.3) (above_leads L S fits P Q a),
      );
    }

    shelf_follows : (T m.laid ↔ LayAnswered h) → ShelfFollowsDrawing h m
    shelf_follows lay = record {
      laid = lay;
      labels = λ k x. (stands_given x (lay.1 k), given_stands x);
      filled = λ k x. (filled_place x (lay.1 k), place_filled x);
    }
      where
        stands_given : (x : ℕ) → T m.laid → Stands m.rows x → (i : ℕ) × GivenOut h i x
        stands_given x u (r, i, e) =
            let (P, j, a) = g.together.placed u r i in
            (P.serial, subst (GivenOut h P.serial) (sym a.0 ∙ e) (g.together.given P j))

        given_stands : (x : ℕ) → ((i : ℕ) × GivenOut h i x) → Stands m.rows x
        given_stands x (i, k) =
            let (P, j, s, l) = g.together.drawn i x k in
            let (r, n, a) = g.together.rowed P j in
            (r, n, a.0 ∙ l)

        filled_place : (x : ℕ) → T m.laid → StandsAs Filled m.rows x → (P : Place) × In P (drawing h) × (P.label ≡ x) × T P.filled
        filled_place x u (r, i, e, s) =
            let (P, j, a) = g.together.placed u r i in
            (P, j, sym a.0 ∙ e, subst T a.1 (is_filled_from r.state s))

        place_filled : (x : ℕ) → ((P : Place) × In P (drawing h) × (P.label ≡ x) × T P.filled) → StandsAs Filled m.rows x
        place_filled x (P, j, l, f) =
            let (r, i, a) = g.together.rowed P j in
            (r, i, a.0 ∙ l, filled_is r.state (subst T (sym a.1) f))

    -- ## The second law

    -- a label given out names its place
    names : (i x : ℕ) → GivenOut h i x → (P : Place) × Names x P (drawing h) × (P.label ≡ x)
    names i x k =
        let (P, j, s, l) = g.together.drawn i x k in (P, (j, label_named L S x fits P j l), l)

    -- the row that next takes is that of a filled place
    takes_place : (r : Row) → m.phase ≡ Firing → Takes m.mark m.rows r → (P : Place) × Names r.label P (drawing h) × T P.filled
    takes_place r p t =
        let (P, j, a) = g.together.placed (runs_laid L S m h g (subst (λ (q : Phase). T (runs q)) (sym p) tt)) r t.stands in
        (P, (j, label_named L S r.label fits P j (sym a.0)), subst T a.1 t.filled)

    -- ## The third law

    at_end : m.phase ≡ Firing → NextFilled m.rows m.mark None → (P : Place) → In P (drawing h) → T P.filled
        → ObeyedPlace (firing h) (drawing h) P ⊎ FilledBehind (firing h) (drawing h) P
    at_end p end P i f = let (r, k, a) = g.together.rowed P i in by r a.0 (caught r k (subst T (sym a.1) f))
      where
        caught : (r : Row) → Has m.rows r → T (is_filled r.state) → Caught (firing h) r.label
        caught r k t =
            (g.fired.running (subst (λ (q : Phase). T (runs q)) (sym p) tt)).caught r k t (takes_none m.mark m.rows end r k t)

        named_P : (x : ℕ) → x ≡ P.label → Names x P (drawing h)
        named_P x a = (i, label_named L S x fits P i (sym a))

        by : (r : Row) → r.label ≡ P.label → Caught (firing h) r.label
            → ObeyedPlace (firing h) (drawing h) P ⊎ FilledBehind (firing h) (drawing h) P
        by r a (inl o) = inl (r.label, o, named_P r.label a)
        by r a (inr (e, before, y, was, fill, o, l)) =
            let (j, k) = g.fired.obeyed y (obeyed_before e before (firing h) y was o) in
            let (Q, named_Q, b) = names j y k in
            let first : ReadBefore P Q (drawing h) = smaller_first L S fits P Q i named_Q.0 (omega arith) in
            inr (e, before, r.label, Q, was, fill, named_P r.label a, (y, o, named_Q), first)

  given_later : (later now : History) (i x : ℕ) → GivenOut now i x → GivenOut (later ++ now) i x
  given_later [] now i x k = k
  given_later (e ∷ later) now i x k = inr (given_later later now i x k)

  in_order : (m₁ m : Sheet) (later now before : History) (e : Event) (x y : ℕ) → Good L S m₁ now → Good L S m (later ++ now)
      → Was (firing now) e before
      → obeys e.answer ≡ Some y
      → Obeyed before x
      → (P : Place) × (Q : Place) × Names x P (drawing (later ++ now)) × Names y Q (drawing (later ++ now)) × ReadBefore P Q (drawing (later ++ now))
  in_order m₁ m later now before e x y g₁ g was o b =
      let (P, named_P, p) = named_now x (obeyed_before e before (firing now) x was b) in
      let (Q, named_Q, q) = named_now y (e, before, was, o) in (
        P,
        Q,
        named_P,
        named_Q,
        smaller_first L S g.together.fits P Q named_P.0 named_Q.0
            (omega (arith, p, q, g₁.fired.order e before x y was o b)),
      )
    where
      named_now : (z : ℕ) → Obeyed (firing now) z → (P : Place) × Names z P (drawing (later ++ now)) × (P.label ≡ z)
      named_now z k =
          let (i, given) = g₁.fired.obeyed z k in names m (later ++ now) g i z (given_later later now i z given)

  -- ## Runs

  module _ (is_card : ℕ → Bool) (made : Sheet) (new : NewlyMade made) where
    made_good : Good L S made []
    made_good = record {
      together = record {
        rising = new.rising;
        fits = fits_empty;
        unlaid = λ u. refl;
        placed = λ u. absurd (subst T new.unlaid u);
        rowed = λ P i. absurd i;
        given = λ P i. absurd i;
        drawn = λ i x k. absurd k;
      };
      fired = record {
        obeyed = λ x o. absurd o.2;
        order = λ e before x y w. absurd w;
        running = λ t. absurd (subst (λ (p : Phase). T (runs p)) new.rests t);
      };
      rests = λ u. new.rests;
    }

    run_good : (m : Sheet) (h : History) → Run L is_card made h m → Good L S m h
    run_good m [] r = subst (λ (s : Sheet). Good L S s []) r made_good
    run_good m (e ∷ h) (m₁, r, s) = keep L S m₁ h (run_good m₁ h r) is_card e.call e.answer m s

    -- the run up to an earlier moment
    run_before : (m : Sheet) (later now : History) → Run L is_card made (later ++ now) m → (m₁ : Sheet) × Run L is_card made now m₁
    run_before m [] now r = (m, r)
    run_before m (e ∷ later) now (m₁, r, s) = run_before m₁ later now r

    module _ (m : Sheet) (h : History) (run : Run L is_card made h m) where
      -- the sheet before an event of the history, and the step that it made
      pub record At (e : Event) (now : History) : Type 0 where
        pub sheet : Sheet
        pub good : Good L S sheet now
        pub after : Sheet
        pub step : Step L is_card sheet e.call e.answer after

      at : (later now : History) (e : Event) → h ≡ later ++ (e ∷ now) → At e now
      at later now e p =
          let (after, (sheet, r, step)) = run_before m later (e ∷ now) (subst (λ (k : History). Run L is_card made k m) p run) in
          record { sheet = sheet; good = run_good sheet now r; after = after; step = step }

      -- an event with one of next's own answers was a next of a sheet that fired
      turns : (e : Event) (now : History) → T (is_turn e.answer) → (a : At e now)
          → (a.sheet.phase ≡ Firing) × Does L a.sheet Next e.answer a.after
      turns e now t a = only_next L is_card a.sheet e.answer a.after t e.call a.step

      obeys_filled : (later now : History) (e : Event) (x : ℕ) → h ≡ later ++ (e ∷ now) → obeys e.answer ≡ Some x
          → (P : Place) × Names x P (drawing now) × T P.filled
      obeys_filled later now e x p o =
          let a = at later now e p in
          let (fires, (found, next, turn)) = turns e now (obeys_turns e.answer x o) a in
          let (r, taken, l) = obeys_takes found a.sheet a.after e.answer x a.good.together.rising next o turn in
          subst (λ z. (P : Place) × Names z P (drawing now) × T P.filled) l (takes_place a.sheet now a.good r fires taken)

      law_b : LawB h
      law_b = record {
        filled = obeys_filled;
        order = λ later now before e x y p was o b.
            let (m₁, r) = run_before m later now (subst (λ (k : History). Run L is_card made k m) p run) in
            subst
            (λ (d : Drawing). (P : Place) × (Q : Place) × Names x P d × Names y Q d × ReadBefore P Q d)
            (ap drawing (sym p))
            (in_order m₁ m later now before e x y (run_good m₁ now r) (subst (Good L S m) p (run_good m h run)) was o b);
      }

      law_c : LawC h
      law_c later now e p q =
          let a = at later now e p in
          let (fires, (found, next, turn)) = turns e now (rw q tt) a in
          at_end a.sheet now a.good fires (end_takes found a.sheet a.after e.answer next q turn)

      laws : Lawful L h m
      laws = record {
        law_a = record {
          labels = labels_follow m h (run_good m h run);
          shelf = shelf_follows m h (run_good m h run) (laid_by_lay L is_card made m h new run);
        };
        law_b = law_b;
        law_c = law_c;
      }

pub three_laws : ThreeLaws
three_laws w N is_card made m h proper few new run = laws (labels_of w N) (sound w N proper few) is_card made new m h run

-- a call that is answered or turned down as it should be leaves the laws in force
pub lawful_after : (L : Labels) → Sound L → (is_card : ℕ → Bool) (m : Sheet) (call : Call) (answer : Answer) (m' : Sheet)
    → Step L is_card m call answer m'
    → LawfulAfter L is_card m call answer m'
unfolding LawfulAfter
lawful_after L S is_card m call answer m' s made h new run =
    laws L S is_card made new m' (record { call = call; answer = answer } ∷ h) (m, run, s)
