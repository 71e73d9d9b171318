-- Every call has an answer: its checks are decided in turn, and where all hold it can do its work. Everything here computes. Assumes nothing.
use Rattle.std.proofs.Common.{◌≡◌, ℕ, ◌≤◌, Bool, T, ◌⊎◌, List, [], ◌∷◌, length, Some, None, Option, sym, refl, ap, ◌∙◌, subst, inl, inr, arith}
use Rattle.label.specs.Label.{Label}
use Rattle.shelf.specs.Scan.{NextFilled}
use Rattle.gap.specs.Between.{opening, gap_below}
use Rattle.gap.specs.Labels.{Labels, Sound}
use Rattle.gap.specs.PlanLabels.{Proper, label_at, labels_of}
use Rattle.gap.proofs.Choose.{choose, choice_answers}
use Rattle.gap.proofs.Options.{some_injective, none_ne_some}
use Rattle.gap.proofs.PlanLabels.{sound, at_from, lawful_from, lawful_parts, parent_parts}
use Rattle.laws.specs.Standing.{Row, Opened, Filled, Has, StandsAs}
use Rattle.laws.specs.Sheet.{Resting, Firing, Paused, Where, FirstUnder, LastUnder, Before, After, Sheet, Call, Lay, Open, Fill, GiveUp, Strike, Read, Start, Next, Pause, Resume, Stop, Answer, Refused, Given, Done, Found, Obey, End}
use Rattle.laws.specs.Openings.{beside, Lower, Upper, above_new, NextLower, NextUpper, LabelFor}
use Rattle.laws.specs.Calls.{Check, Passes, TurnsDown, HasRoom, Known, NotBare, checks, card_of, Turn, Does, Step}
use Rattle.laws.specs.Laws.{StepTotal}
use Rattle.laws.proofs.Pins.{one_found, one_label}
use Rattle.laws.proofs.Decides.{test, less, equal, is_some, negated, and, or, same, state_is, phase_is, some_row, stands, stands_as, next_filled, lower, upper, utmost_same, greatest, least}

-- ## Checks in turn

-- the checks of a list hold, or the first that does not is known
pub data Judged (cs : List Check) : Type 0 where
  passed : Passes cs → Judged cs
  refused : (n : ℕ) → TurnsDown cs n → Judged cs

abbrev onward : {c : Check} {cs : List Check} → c.holds → Judged cs → Judged (c ∷ cs)
onward h (passed p) = passed (h, p)
onward h (refused n t) = refused n (inr (h, t))

-- a check is decided and, where it holds, the others after it
abbrev judge : {c : Check} {cs : List Check} → Dec c.holds → (c.holds → Judged cs) → Judged (c ∷ cs)
judge (yes h) rest = onward h (rest h)
judge {c} (no f) rest = refused c.number (inl (f, refl))

abbrev all_hold : Judged []
all_hold = passed tt

-- ## What the checks ask

abbrev no_rows : (rows : List Row) → Dec (rows ≡ [])
no_rows [] = yes refl
no_rows (r ∷ rows) = no (λ e. omega (arith, ap (length {A = Row}) e))

abbrev has_room : (m : Sheet) → Dec (HasRoom m)
has_room m = less (length m.rows) m.capacity

module _ (is_card : ℕ → Bool) where
  -- the row of a label, where it is filled, has a card
  abbrev readable : (rows : List Row) (x : ℕ) → Dec ((r : Row) → Has rows r → r.label ≡ x → r.state ≡ Filled → T (is_card r.card))
  readable rows x =
      same
      (λ f r h l s. elim (test (is_card r.card)) [ yes t ↦ t | no c ↦ absurd (f (r, h, (l, (s, c)))) ])
      (λ all k. k.2.1.1 (all k.0 k.1 k.2.0 k.2.1.0))
      (negated
      (some_row
      (λ r. (r.label ≡ x) × ((r.state ≡ Filled) × (¬ (T (is_card r.card)))))
      (λ r. and (equal r.label x) (and (state_is r.state Filled) (negated (test (is_card r.card)))))
      rows))

  -- the row that next takes has a card
  abbrev obeyable : (rows : List Row) (mark : ℕ) → ((o : Option (ℕ × Row)) × NextFilled rows mark o)
      → Dec ((found : ℕ × Row) → NextFilled rows mark (Some found) → T (is_card found.1.card))
  obeyable rows mark (None, next) =
      yes (λ found k. absurd (none_ne_some found (one_found rows mark None (Some found) next k)))
  obeyable rows mark (Some (i, r), next) =
      same
      (λ t found k.
      subst (λ (f : ℕ × Row). T (is_card f.1.card))
      (some_injective (i, r) found (one_found rows mark (Some (i, r)) (Some found) next k)) t)
      (λ all. all (i, r) next)
      (test (is_card r.card))

-- what else must be true of labels: a parent is lawful, and below a lawful label there is always an answer, which a function gives
pub record Choosing (L : Labels) : Type 0 where
  pub parent_lawful : (x p : ℕ) → L.parent x ≡ Some p → T (L.lawful p)
  pub choice : ℕ → Option ℕ → Option ℕ → Option ℕ
  pub chooses : (p : ℕ) (lower upper : Option ℕ) → T (L.lawful p) → L.Chooses p lower upper (choice p lower upper)

module _ (L : Labels) (S : Sound L) (C : Choosing L) where
  abbrev known : (rows : List Row) (x : ℕ) → Dec (Known L rows x)
  known rows x = and (stands rows x) (test (L.lawful x))

  abbrev not_bare : (rows : List Row) (x : ℕ) → Dec (NotBare L rows x)
  not_bare rows x =
      same to from
      (some_row
      (λ r. T (L.leads x r.label) × ((r.state ≡ Filled) ⊎ (r.state ≡ Opened)))
      (λ r. and (test (L.leads x r.label)) (or (state_is r.state Filled) (state_is r.state Opened)))
      rows)
    where
      to : ((r : Row) × Has rows r × (T (L.leads x r.label) × ((r.state ≡ Filled) ⊎ (r.state ≡ Opened)))) → NotBare L rows x
      to (r, h, (t, inl e)) = (r.label, t, inl (r, h, refl, e))
      to (r, h, (t, inr e)) = (r.label, t, inr (r, h, refl, e))

      from : NotBare L rows x → (r : Row) × Has rows r × (T (L.leads x r.label) × ((r.state ≡ Filled) ⊎ (r.state ≡ Opened)))
      from (y, t, inl (r, h, l, e)) = (r, h, (subst (λ z. T (L.leads x z)) (sym l) t, inl e))
      from (y, t, inr (r, h, l, e)) = (r, h, (subst (λ z. T (L.leads x z)) (sym l) t, inr e))

  -- ## The checks of a new place

  module _ (rows : List Row) (w : Where) (a : ℕ) where
    abbrev filled_above : (o : Option ℕ) → above_new L w a ≡ o → Dec ((p : ℕ) × (above_new L w a ≡ Some p) × StandsAs Filled rows p)
    filled_above None e = no (λ k. none_ne_some k.0 (sym e ∙ k.1))
    filled_above (Some p) e =
        same
        (λ s. (p, e, s))
        (λ k. subst (StandsAs Filled rows) (some_injective k.0 p (sym k.1 ∙ e)) k.2)
        (stands_as Filled rows p)

    abbrev next_lower : (p : ℕ) → (o : Option ℕ) × NextLower L rows w a p o
    next_lower p =
        let (o, u) = greatest (λ c. (L.parent c ≡ Some p) × Lower w a c) (λ c. and (is_some (L.parent c) p) (lower w a c)) rows in
        (o, utmost_same (λ c x. c ≤ x) _ _ (λ c k. ((k.0, k.1.0), k.1.1)) (λ c k. (k.0.0, (k.0.1, k.1))) o u)

    abbrev next_upper : (p : ℕ) → (o : Option ℕ) × NextUpper L rows w a p o
    next_upper p =
        let (o, u) = least (λ c. (L.parent c ≡ Some p) × Upper w a c) (λ c. and (is_some (L.parent c) p) (upper w a c)) rows in
        (o, utmost_same (λ c x. x ≤ c) _ _ (λ c k. ((k.0, k.1.0), k.1.1)) (λ c k. (k.0.0, (k.0.1, k.1))) o u)

    pub lawful_above : (v : Where) (p : ℕ) → T (L.lawful a) → above_new L v a ≡ Some p → T (L.lawful p)
    lawful_above FirstUnder p t e = subst (λ z. T (L.lawful z)) (some_injective a p e) t
    lawful_above LastUnder p t e = subst (λ z. T (L.lawful z)) (some_injective a p e) t
    lawful_above Before p t e = C.parent_lawful a p e
    lawful_above After p t e = C.parent_lawful a p e

    abbrev label_for : (p : ℕ) → above_new L w a ≡ Some p → T (L.lawful a) → (o : Option ℕ) × LabelFor L rows w a o
    label_for p e t =
        let (l, below) = next_lower p in
        let (u, above) = next_upper p in (
          C.choice p l u,
          record {
            parent = p;
            lower = l;
            upper = u;
            under = e;
            next_lower = below;
            next_upper = above;
            chosen = C.chooses p l u (lawful_above w p t e);
          },
        )

    abbrev has_label : ((o : Option ℕ) × LabelFor L rows w a o) → Dec ((x : ℕ) × LabelFor L rows w a (Some x))
    has_label (None, label) = no (λ k. none_ne_some k.0 (one_label L S rows w a None (Some k.0) label k.1))
    has_label (Some x, label) = yes (x, label)

  -- ## Every call

  module _ (is_card : ℕ → Bool) where
    abbrev judged : (m : Sheet) (call : Call) → Judged (checks L is_card m call)
    judged m (Lay c) = judge (and (negated (test m.laid)) (no_rows m.rows)) (λ new. judge (has_room m) (λ room. all_hold))
    judged m (Open a w) =
        judge (test m.laid) (λ laid.
        judge (known m.rows a) (λ known.
        judge (negated (and (test (beside w)) (equal a L.head))) (λ under.
        judge (filled_above m.rows w a (above_new L w a) refl) (λ filled.
        judge (has_label m.rows w a (label_for m.rows w a filled.0 filled.1 known.1)) (λ label.
        judge (has_room m) (λ room. all_hold))))))
    judged m (Fill x c) = judge (test m.laid) (λ laid. judge (stands_as Opened m.rows x) (λ opened. all_hold))
    judged m (GiveUp x) = judge (test m.laid) (λ laid. judge (stands_as Opened m.rows x) (λ opened. all_hold))
    judged m (Strike x) =
        judge (test m.laid) (λ laid.
        judge (known m.rows x) (λ known.
        judge (negated (equal x L.head)) (λ under.
        judge (stands_as Filled m.rows x) (λ filled.
        judge (negated (not_bare m.rows x)) (λ bare. all_hold)))))
    judged m (Read x) =
        judge (test m.laid) (λ laid. judge (known m.rows x) (λ known. judge (readable is_card m.rows x) (λ card. all_hold)))
    judged m (Start permit) =
        judge (test m.laid) (λ laid. judge (phase_is m.phase Resting) (λ rests. judge (test permit) (λ on. all_hold)))
    judged m Next =
        judge (phase_is m.phase Firing) (λ fires.
        judge (obeyable is_card m.rows m.mark (next_filled m.mark m.rows)) (λ card. all_hold))
    judged m Pause = judge (phase_is m.phase Firing) (λ fires. all_hold)
    judged m Resume = judge (phase_is m.phase Paused) (λ paused. all_hold)
    judged m Stop = judge (negated (phase_is m.phase Resting)) (λ runs. all_hold)

    abbrev turned : (m : Sheet) (found : Option (ℕ × Row)) → (answer : Answer) × (m' : Sheet) × Turn found m answer m'
    turned m None = (End, _, (refl, refl))
    turned m (Some (i, r)) = (Obey r.label r.card, _, (refl, refl))

    abbrev done : (m : Sheet) (call : Call) → Passes (checks L is_card m call) → (answer : Answer) × (m' : Sheet) × Does L m call answer m'
    done m (Lay c) ok = (Given L.head, _, (refl, refl))
    done m (Open a w) ok = let (x, label) = ok.1.1.1.1.0 in (Given x, _, (x, label, refl, refl))
    done m (Fill x c) ok = (Done, _, (refl, refl))
    done m (GiveUp x) ok = (Done, _, (refl, refl))
    done m (Strike x) ok = (Done, _, (refl, refl))
    done m (Read x) ok = let (r, h, e) = ok.1.0.0 in (Found r.state (card_of r), m, ((r, h, e, refl), refl))
    done m (Start permit) ok = (Done, _, (refl, refl))
    done m Next ok =
        let (found, next) = next_filled m.mark m.rows in
        let (answer, m', turn) = turned m found in
        (answer, m', (found, next, turn))
    done m Pause ok = (Done, _, (refl, refl))
    done m Resume ok = (Done, _, (refl, refl))
    done m Stop ok = (Done, _, (refl, refl))

    abbrev answer_of : (m : Sheet) (call : Call) → Judged (checks L is_card m call)
        → (answer : Answer) × (m' : Sheet) × Step L is_card m call answer m'
    answer_of m call (refused n down) = (Refused n, m, inl (n, down, refl, refl))
    answer_of m call (passed ok) = let (answer, m', does) = done m call ok in (answer, m', inr (ok, does))

    abbrev pub stepped : (m : Sheet) (call : Call) → (answer : Answer) × (m' : Sheet) × Step L is_card m call answer m'
    stepped m call = answer_of m call (judged m call)

-- ## The labels of a width plan

module _ (w : ℕ → ℕ → ℕ) (N : ℕ) (proper : Proper w) where
  abbrev choice_at : Option Label → Option ℕ → Option ℕ → Option ℕ
  choice_at None lower upper = None
  choice_at (Some c) lower upper = choose (gap_below w N (opening c lower upper))

  abbrev pub plan_choosing : Choosing (labels_of w N)
  plan_choosing = record {
    parent_lawful = λ x p e. let (d, c, of, at, it) = parent_parts w N x p e in lawful_from w N c p it;
    choice = λ p lower upper. choice_at (label_at w N p) lower upper;
    chooses = λ p lower upper t.
        let (c, of) = lawful_parts w N p t in
        let o = opening c lower upper in
        (c, of, rw (at_from w N c p of) (choice_answers w N o (λ l i. (proper l i).0) of.0));
  }

pub step_total : StepTotal
step_total w N is_card m call proper few = stepped (labels_of w N) (sound w N proper few) (plan_choosing w N proper) is_card m call
