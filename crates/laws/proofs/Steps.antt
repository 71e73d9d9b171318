-- Every call, answered or turned down, keeps what the laws need. Assumes nothing.
use Rattle.std.proofs.Common.{◌≡◌, ℕ, ◌<◌, Bool, true, false, cond, ◌&&◌, ◌||◌, T, eqb, ◌⊎◌, List, [], ◌∷◌, length, Some, None, Option, sym, refl, ap, ◌∙◌, subst, inl, inr, eqb→eq}
use Rattle.shelf.specs.Rows.{restated}
use Rattle.shelf.specs.Changes.{with_row}
use Rattle.shelf.specs.Scan.{NextFilled}
use Rattle.gap.specs.Labels.{Labels, Sound}
use Rattle.gap.proofs.Options.{none_ne_some}
use Rattle.laws.specs.Standing.{State, Opened, Filled, Struck, Row, Has, Stands, StandsAs, is_filled, filled_row, opened_row, revise}
use Rattle.laws.specs.Sheet.{Phase, Resting, Firing, Paused, Where, Sheet, with_rows, with_firing, Call, Lay, Open, Fill, GiveUp, Strike, Read, Start, Next, Pause, Resume, Stop, Answer, Refused, Given, Done, Found, Obey, End}
use Rattle.laws.specs.Openings.{LabelFor}
use Rattle.laws.specs.Calls.{Passes, checks, card_of, laid_with, Turn, Does, Step}
use Rattle.laws.specs.Drawing.{Place, Drawing, empty, place, In}
use Rattle.laws.specs.History.{Event, History, gives, obeys, is_start, is_stop, redraw, drawing, GivenOut, go_on, firing}
use Rattle.laws.proofs.Tests.{stable}
use Rattle.laws.proofs.Places.{above_low}
use Rattle.laws.proofs.Rows.{Takes, takes, put_in, revised_label, revise_from}
use Rattle.laws.proofs.Keeps.{Together, same_given, laid_together, refilled_together, given_up_together, opened_together}
use Rattle.laws.proofs.Firings.{Accounted, Fired, fired_on, fired_start, fired_end, fired_next}

abbrev pub runs : Phase → Bool
runs Resting = false
runs Firing = true
runs Paused = true

abbrev pub event : Call → Answer → Event
event call answer = record { call = call; answer = answer }

refused_draws_nothing : (k : ℕ) (call : Call) (n : ℕ) (d : Drawing) → redraw k call (Refused n) d ≡ d
refused_draws_nothing k (Lay c) n d = refl
refused_draws_nothing k (Open a w) n d = refl
refused_draws_nothing k (Fill a c) n d = refl
refused_draws_nothing k (GiveUp a) n d = refl
refused_draws_nothing k (Strike a) n d = refl
refused_draws_nothing k (Read a) n d = refl
refused_draws_nothing k (Start permit) n d = refl
refused_draws_nothing k Next n d = refl
refused_draws_nothing k Pause n d = refl
refused_draws_nothing k Resume n d = refl
refused_draws_nothing k Stop n d = refl

refused_goes_on : (call : Call) (n : ℕ) (h : History) → firing (event call (Refused n) ∷ h) ≡ go_on (event call (Refused n)) (firing h)
refused_goes_on call n h = go (is_start call) (is_stop call)
  where
    e : Event
    e = event call (Refused n)

    go : (a b : Bool) → cond (a && false) (e ∷ []) (cond (false || (b && false)) [] (go_on e (firing h))) ≡ go_on e (firing h)
    go true true = refl
    go true false = refl
    go false true = refl
    go false false = refl

-- an event that gives no label out
no_more_given : (e : Event) (h : History) → gives e.answer ≡ None → (i x : ℕ) → GivenOut (e ∷ h) i x → GivenOut h i x
no_more_given e h q i x (inl (p, r)) = absurd (none_ne_some x (sym q ∙ r))
no_more_given e h q i x (inr g) = g

-- a filled row after a change of state at label a: the changed one, or one filled before
revised_filled : (rows : List Row) (a : ℕ) (st : State) (c : ℕ) (r : Row) → Has (revise a st c rows) r → T (is_filled r.state)
    → ((s : Row) × Has rows s × T (is_filled s.state) × (s.label ≡ r.label)) ⊎ ((a ≡ r.label) × T (is_filled st))
revised_filled rows a st c r i f =
    let (s, h, e) = revise_from a st c r rows i in
    let same : s.label ≡ r.label = sym (revised_label a st c s) ∙ ap (λ (t : Row). t.label) e in
    go s h same (eqb s.label a) (λ t. eqb→eq s.label a t) (subst (λ (t : Row). T (is_filled t.state)) (sym e) f)
  where
    go : (s : Row) → Has rows s → s.label ≡ r.label → (b : Bool) → (T b → s.label ≡ a) → T (is_filled (cond b (restated s st c) s).state)
        → ((s : Row) × Has rows s × T (is_filled s.state) × (s.label ≡ r.label)) ⊎ ((a ≡ r.label) × T (is_filled st))
    go s h same true e t = inr (sym (e tt) ∙ same, t)
    go s h same false e t = inl (s, h, t, same)

module _ (L : Labels) (S : Sound L) where
  -- the sheet m goes with the history h
  pub record Good (m : Sheet) (h : History) : Type 0 where
    pub together : Together L S m.rows m.laid (drawing h) (GivenOut h)
    pub fired : Fired m.rows (runs m.phase) m.mark (firing h) (GivenOut h)
    pub rests : ¬ (T m.laid) → m.phase ≡ Resting

  -- the labels of a laid sheet are greater than 0
  positive : {rows : List Row} {laid : Bool} {d : Drawing} {G : ℕ → ℕ → Type 0} → Together L S rows laid d G → T laid
      → (r : Row) → Has rows r → 0 < r.label
  positive t u r i =
      let (P, k, g) = t.placed u r i in subst (λ x. 0 < x) (sym g.0) (above_low L S t.fits P k)

  -- an event that gives no label out, on a drawing of it
  none_more : {rows : List Row} {laid : Bool} {d : Drawing} (e : Event) (h : History) → gives e.answer ≡ None
      → Together L S rows laid d (GivenOut h)
      → Together L S rows laid d (GivenOut (e ∷ h))
  none_more e h q = same_given L S (λ i x g. inr g) (no_more_given e h q)

  module _ (m : Sheet) (h : History) (g : Good m h) where
    -- a firing that lasts is of a laid sheet
    pub runs_laid : T (runs m.phase) → T m.laid
    runs_laid t = stable m.laid (λ u. subst (λ (p : Phase). T (runs p)) (g.rests u) t)

    -- ## Calls that change no row

    -- the event gives no label out and draws nothing
    quiet_together : (e : Event) → gives e.answer ≡ None → drawing (e ∷ h) ≡ drawing h
        → Together L S m.rows m.laid (drawing (e ∷ h)) (GivenOut (e ∷ h))
    quiet_together e q same =
        subst
        (λ (d : Drawing). Together L S m.rows m.laid d (GivenOut (e ∷ h)))
        (sym same)
        (none_more e h q g.together)

    -- it obeys none either, and starts and ends no firing
    keep_quiet : (e : Event) (phase : Phase) → gives e.answer ≡ None → obeys e.answer ≡ None
        → (T (runs phase) → T (runs m.phase))
        → (¬ (T m.laid) → phase ≡ Resting)
        → drawing (e ∷ h) ≡ drawing h
        → firing (e ∷ h) ≡ go_on e (firing h)
        → Good (with_firing phase m.mark m) (e ∷ h)
    keep_quiet e phase q o still rests same goes =
        record {
          together = quiet_together e q same;
          fired = subst
              (λ (f : History). Fired m.rows (runs phase) m.mark f (GivenOut (e ∷ h)))
              (sym goes)
              (fired_on e o still (λ i x k. inr k)
              (λ t r i f. (positive g.together (runs_laid t) r i, inl (r, i, f, refl)))
              g.fired);
          rests = rests;
        }

    keep_refused : (call : Call) (n : ℕ) → Good m (event call (Refused n) ∷ h)
    keep_refused call n =
        keep_quiet (event call (Refused n)) m.phase refl refl (λ t. t) g.rests (refused_draws_nothing (length h) call n (drawing h))
        (refused_goes_on call n h)

    -- pause and resume
    keep_turned : (call : Call) (from to : Phase) → m.phase ≡ from → runs from ≡ true
        → drawing (event call Done ∷ h) ≡ drawing h
        → firing (event call Done ∷ h) ≡ go_on (event call Done) (firing h)
        → Good (with_firing to m.mark m) (event call Done ∷ h)
    keep_turned call from to p r same goes =
        keep_quiet (event call Done) to refl refl (λ t. run) (λ u. absurd (u (runs_laid run))) same goes
      where
        run : T (runs m.phase)
        run = subst (λ (q : Phase). T (runs q)) (sym p) (subst T (sym r) tt)

    keep_start : (permit : Bool) → T m.laid → Good (with_firing Firing 0 m) (event (Start permit) Done ∷ h)
    keep_start permit u =
        record {
          together = quiet_together e refl refl;
          fired = fired_start e refl (positive g.together u);
          rests = λ v. absurd (v u);
        }
      where
        e : Event
        e = event (Start permit) Done

    -- end, and an answered stop
    keep_end : (e : Event) → gives e.answer ≡ None → drawing (e ∷ h) ≡ drawing h → firing (e ∷ h) ≡ []
        → Good (with_firing Resting m.mark m) (e ∷ h)
    keep_end e q same ends =
        record {
          together = quiet_together e q same;
          fired = subst
              (λ (f : History). Fired m.rows false m.mark f (GivenOut (e ∷ h)))
              (sym ends)
              fired_end;
          rests = λ v. refl;
        }

    keep_next : (r : Row) → m.phase ≡ Firing → Takes m.mark m.rows r
        → Good (with_firing Firing r.label m) (event Next (Obey r.label r.card) ∷ h)
    keep_next r p taken =
        record {
          together = quiet_together e refl refl;
          fired = fired_next e r refl taken (λ i x k. inr k) label_given
              (subst (λ (q : Phase). Fired m.rows (runs q) m.mark (firing h) (GivenOut h)) p g.fired);
          rests = λ v. absurd (v laid);
        }
      where
        e : Event
        e = event Next (Obey r.label r.card)

        laid : T m.laid
        laid = runs_laid (subst (λ (q : Phase). T (runs q)) (sym p) tt)

        label_given : (i : ℕ) × GivenOut h i r.label
        label_given =
            let (P, i, a) = g.together.placed laid r taken.stands in
            (P.serial, subst (GivenOut h P.serial) (sym a.0) (g.together.given P i))

    -- ## Calls that change rows

    keep_rows : (e : Event) (rows : List Row) (laid : Bool) → obeys e.answer ≡ None
        → firing (e ∷ h) ≡ go_on e (firing h)
        → T laid
        → (T (runs m.phase) → (r : Row) → Has rows r → T (is_filled r.state) → Accounted m.rows e r)
        → Together L S rows laid (drawing (e ∷ h)) (GivenOut (e ∷ h))
        → Good (record { capacity = m.capacity; rows = rows; laid = laid; phase = m.phase; mark = m.mark }) (e ∷ h)
    keep_rows e rows laid o goes u known t =
        record {
          together = t;
          fired = subst
              (λ (f : History). Fired rows (runs m.phase) m.mark f (GivenOut (e ∷ h)))
              (sym goes)
              (fired_on e o (λ v. v) (λ i x k. inr k)
              (λ v r i f. (positive t u r i, known v r i f))
              g.fired);
          rests = λ v. absurd (v u);
        }

    keep_lay : (c : ℕ) → ¬ (T m.laid) → m.rows ≡ [] → Good (laid_with (filled_row L.head c) m) (event (Lay c) (Given L.head) ∷ h)
    keep_lay c u no_row = keep_rows e (with_row m.rows head_row) true refl refl tt (λ v. absurd (u (runs_laid v))) laid
      where
        e : Event
        e = event (Lay c) (Given L.head)

        head_row : Row
        head_row = filled_row L.head c

        top : Place
        top = record { serial = length h; label = L.head; filled = true }

        none_given : (i x : ℕ) → ¬ (GivenOut h i x)
        none_given i x k = let (P, j, s, l) = g.together.drawn i x k in subst (In P) (g.together.unlaid u) j

        -- the head alone, put on rows that were none and drawn on a drawing that was empty
        Head : List Row → Drawing → Type 0
        Head rows d = Together L S (with_row rows head_row) true (place top empty d) (GivenOut (e ∷ h))

        alone : Head [] empty
        alone = laid_together L S (GivenOut h) (length h) c none_given

        laid : Head m.rows (drawing h)
        laid = subst (Head m.rows) (sym (g.together.unlaid u)) (subst (λ (rows : List Row). Head rows empty) (sym no_row) alone)

    keep_open : (a : ℕ) (w : Where) (x : ℕ) → T m.laid → Stands m.rows a → LabelFor L m.rows w a (Some x)
        → Good (with_rows (with_row m.rows (opened_row x)) m) (event (Open a w) (Given x) ∷ h)
    keep_open a w x u s label =
        keep_rows e (with_row m.rows new_row) m.laid refl refl u (λ v. known)
        (opened_together L S (length h) a w x u s label g.together)
      where
        e : Event
        e = event (Open a w) (Given x)

        new_row : Row
        new_row = opened_row x

        known : (r : Row) → Has (with_row m.rows new_row) r → T (is_filled r.state) → Accounted m.rows e r
        known r i f =
            elim (put_in new_row r m.rows i)
            [ inl q ↦ absurd (subst (λ (s : Row). T (is_filled s.state)) (sym q) f) | inr j ↦ inl (r, j, f, refl) ]

    keep_fill : (a c : ℕ) → T m.laid → Good (with_rows (revise a Filled c m.rows) m) (event (Fill a c) Done ∷ h)
    keep_fill a c u =
        keep_rows e (revise a Filled c m.rows) m.laid refl refl u
        (λ v r i f. elim (revised_filled m.rows a Filled c r i f) [ inl k ↦ inl k | inr k ↦ inr (c, ap (λ x. Fill x c) k.0, tt) ])
        (none_more e h refl (refilled_together L S a Filled c g.together))
      where
        e : Event
        e = event (Fill a c) Done

    -- a change to a state that is not filled fills no row
    unfilled_known : (e : Event) (a : ℕ) (st : State) → is_filled st ≡ false
        → (r : Row) → Has (revise a st 0 m.rows) r → T (is_filled r.state) → Accounted m.rows e r
    unfilled_known e a st unfilled r i f =
        elim (revised_filled m.rows a st 0 r i f) [ inl k ↦ inl k | inr k ↦ absurd (subst T unfilled k.1) ]

    keep_strike : (a : ℕ) → T m.laid → Good (with_rows (revise a Struck 0 m.rows) m) (event (Strike a) Done ∷ h)
    keep_strike a u =
        keep_rows e (revise a Struck 0 m.rows) m.laid refl refl u (λ v. unfilled_known e a Struck refl)
        (none_more e h refl (refilled_together L S a Struck 0 g.together))
      where
        e : Event
        e = event (Strike a) Done

    keep_give_up : (a : ℕ) (st : State) → is_filled st ≡ false → T m.laid → StandsAs Opened m.rows a
        → Good (with_rows (revise a st 0 m.rows) m) (event (GiveUp a) Done ∷ h)
    keep_give_up a st unfilled u opened =
        keep_rows e (revise a st 0 m.rows) m.laid refl refl u (λ v. unfilled_known e a st unfilled)
        (none_more e h refl (given_up_together L S a st unfilled u opened g.together))
      where
        e : Event
        e = event (GiveUp a) Done

    -- ## Every call

    -- a call with the answer a' and the sheet n' that its step names
    moved : (call : Call) (a a' : Answer) (n n' : Sheet) → a ≡ a' → n ≡ n' → Good n' (event call a' ∷ h) → Good n (event call a ∷ h)
    moved call a a' n n' p q k =
        subst (λ (b : Answer). Good n (event call b ∷ h)) (sym p) (subst (λ (o : Sheet). Good o (event call a' ∷ h)) (sym q) k)

    keep_turn : (found : Option (ℕ × Row)) (answer : Answer) (m' : Sheet) → m.phase ≡ Firing → NextFilled m.rows m.mark found
        → Turn found m answer m'
        → Good m' (event Next answer ∷ h)
    keep_turn None answer m' p next (a, b) = moved Next answer End m' _ a b (keep_end (event Next End) refl refl refl)
    keep_turn (Some (i, r)) answer m' p next (a, b) =
        moved Next answer (Obey r.label r.card) m' _ a b (keep_next r p (takes m.mark m.rows i r g.together.rising next))

    keep_done : (is_card : ℕ → Bool) (call : Call) (answer : Answer) (m' : Sheet) → Passes (checks L is_card m call) → Does L m call answer m'
        → Good m' (event call answer ∷ h)
    keep_done is_card (Lay c) answer m' ok (a, b) = moved (Lay c) answer (Given L.head) m' _ a b (keep_lay c ok.0.0 ok.0.1)
    keep_done is_card (Open x w) answer m' ok (y, label, a, b) =
        moved (Open x w) answer (Given y) m' _ a b (keep_open x w y ok.0 ok.1.0.0 label)
    keep_done is_card (Fill x c) answer m' ok (a, b) = moved (Fill x c) answer Done m' _ a b (keep_fill x c ok.0)
    keep_done is_card (GiveUp x) answer m' ok (a, b) =
        moved (GiveUp x) answer Done m' _ a b (keep_give_up x _ refl ok.0 ok.1.0)
    keep_done is_card (Strike x) answer m' ok (a, b) = moved (Strike x) answer Done m' _ a b (keep_strike x ok.0)
    keep_done is_card (Read x) answer m' ok ((r, i, e, a), b) =
        let found : Answer = Found r.state (card_of r) in
        moved (Read x) answer found m' m a b (keep_quiet (event (Read x) found) m.phase refl refl (λ t. t) g.rests refl refl)
    keep_done is_card (Start permit) answer m' ok (a, b) = moved (Start permit) answer Done m' _ a b (keep_start permit ok.0)
    keep_done is_card Next answer m' ok (found, next, turn) = keep_turn found answer m' ok.0 next turn
    keep_done is_card Pause answer m' ok (a, b) = moved Pause answer Done m' _ a b (keep_turned Pause Firing Paused ok.0 refl refl refl)
    keep_done is_card Resume answer m' ok (a, b) = moved Resume answer Done m' _ a b (keep_turned Resume Paused Firing ok.0 refl refl refl)
    keep_done is_card Stop answer m' ok (a, b) = moved Stop answer Done m' _ a b (keep_end (event Stop Done) refl refl refl)

    pub keep : (is_card : ℕ → Bool) (call : Call) (answer : Answer) (m' : Sheet) → Step L is_card m call answer m'
        → Good m' (event call answer ∷ h)
    keep is_card call answer m' (inl (n, down, a, b)) = moved call answer (Refused n) m' m a b (keep_refused call n)
    keep is_card call answer m' (inr (ok, d)) = keep_done is_card call answer m' ok d
