-- What every call keeps between the shelf's rows, the mark and the events of the firing. Assumes nothing.
use Rattle.std.proofs.Common.{◌≡◌, ℕ, ◌<◌, ◌≤◌, Bool, true, false, T, ◌⊎◌, List, [], ◌∷◌, Some, None, sym, refl, ap, ◌∙◌, subst, inl, inr, arith}
use Rattle.std.proofs.lemmas.Bool.{cases_lt, cases_order}
use Rattle.gap.proofs.Options.{some_injective, none_ne_some}
use Rattle.laws.specs.Standing.{Row, Has, is_filled}
use Rattle.laws.specs.History.{Event, History, Was, obeys, go_on, Obeyed, Fills}
use Rattle.laws.proofs.Rows.{Takes}

-- among these events the place of label x was obeyed, or was filled after one with a greater label had been obeyed
abbrev pub Caught : (events : History) → (x : ℕ) → Type 0
Caught events x =
    Obeyed events x
    ⊎ ((e : Event) × (before : History) × (y : ℕ) × Was events e before × Fills e x × Obeyed before y × (x < y))

-- among these events next obeyed labels that rise
abbrev pub Rises : (events : History) → Type 0
Rises events = (e : Event) (before : History) (x y : ℕ) → Was events e before → obeys e.answer ≡ Some y → Obeyed before x → x < y

abbrev pub begun : History → Bool
begun [] = false
begun (e ∷ f) = true

-- the firing f lasts: the mark is the label obeyed last, and every filled row up to it has been caught
pub record Running (rows : List Row) (mark : ℕ) (f : History) : Type 0 where
  pub has_begun : T (begun f)
  pub upto : (x : ℕ) → Obeyed f x → x ≤ mark
  pub marked : (mark ≡ 0) ⊎ Obeyed f mark
  pub caught : (r : Row) → Has rows r → T (is_filled r.state) → r.label ≤ mark → Caught f r.label

-- what the events f of a firing say, where G are the labels given out
pub record Fired (rows : List Row) (run : Bool) (mark : ℕ) (f : History) (G : ℕ → ℕ → Type 0) : Type 0 where
  pub obeyed : (x : ℕ) → Obeyed f x → (i : ℕ) × G i x
  pub order : Rises f
  pub running : T run → Running rows mark f

-- ## Events

obeyed_more : (e : Event) (f : History) (x : ℕ) → Obeyed f x → Obeyed (e ∷ f) x
obeyed_more e f x (g, before, was, o) = (g, before, inr was, o)

pub obeyed_before : (e : Event) (before f : History) (x : ℕ) → Was f e before → Obeyed before x → Obeyed f x
obeyed_before e before [] x was o = absurd was
obeyed_before e before (g ∷ f) x (inl (p, q)) o = obeyed_more g f x (subst (λ (h : History). Obeyed h x) (sym q) o)
obeyed_before e before (g ∷ f) x (inr was) o = obeyed_more g f x (obeyed_before e before f x was o)

caught_more : (e : Event) (f : History) (x : ℕ) → Caught f x → Caught (e ∷ f) x
caught_more e f x (inl o) = inl (obeyed_more e f x o)
caught_more e f x (inr (g, before, y, was, k, o, l)) = inr (g, before, y, inr was, k, o, l)

-- a filled row is an old one, or the event filled it
abbrev pub Accounted : List Row → Event → Row → Type 0
Accounted rows e r = ((s : Row) × Has rows s × T (is_filled s.state) × (s.label ≡ r.label)) ⊎ Fills e r.label

-- ## A call by which next obeys nothing

module _ (e : Event) (quiet : obeys e.answer ≡ None) where
  not_this : (f : Event) (x : ℕ) → e ≡ f → obeys f.answer ≡ Some x → ⊥
  not_this f x p o = none_ne_some x (sym quiet ∙ ap (λ (g : Event). obeys g.answer) p ∙ o)

  obeyed_quiet : (f : History) (x : ℕ) → Obeyed (e ∷ f) x → Obeyed f x
  obeyed_quiet f x (g, before, inl (p, q), o) = absurd (not_this g x p o)
  obeyed_quiet f x (g, before, inr was, o) = (g, before, was, o)

  rises_quiet : (f : History) → Rises f → Rises (e ∷ f)
  rises_quiet f up g before x y (inl (p, q)) o b = absurd (not_this g y p o)
  rises_quiet f up g before x y (inr was) o b = up g before x y was o b

  -- a label that the event fills at or before the mark is caught: the mark itself had been obeyed
  fills_behind : (mark : ℕ) (f : History) (x : ℕ) → 0 < x → x ≤ mark → Fills e x → (mark ≡ 0) ⊎ Obeyed f mark → Caught (e ∷ f) x
  fills_behind mark f x pos l fill (inl z) = absurd (omega arith)
  fills_behind mark f x pos l fill (inr o) =
      elim (cases_order x mark) [
        | inl q ↦ inl (obeyed_more e f x (subst (Obeyed f) (sym q) o))
        | inr (inl q) ↦ inr (e, f, mark, inl (refl, refl), fill, o, q)
        | inr (inr q) ↦ absurd (omega arith)
      ]

  running_on : {rows rows' : List Row} {mark : ℕ} {f : History}
      → ((r : Row) → Has rows' r → T (is_filled r.state) → (0 < r.label) × Accounted rows e r)
      → Running rows mark f
      → Running rows' mark (e ∷ f)
  running_on {rows} {rows'} {mark} {f} known k =
      record {
        has_begun = tt;
        upto = λ x o. k.upto x (obeyed_quiet f x o);
        marked = elim k.marked [ inl z ↦ inl z | inr o ↦ inr (obeyed_more e f mark o) ];
        caught = λ r i t l. let (pos, how) = known r i t in by r l pos how;
      }
    where
      by : (r : Row) → r.label ≤ mark → 0 < r.label → Accounted rows e r → Caught (e ∷ f) r.label
      by r l pos (inl (s, i, t, q)) =
          caught_more e f r.label (subst (Caught f) q (k.caught s i t (subst (λ x. x ≤ mark) (sym q) l)))
      by r l pos (inr fill) = fills_behind mark f r.label pos l fill k.marked

  -- the event starts and ends no firing
  pub fired_on : {rows rows' : List Row} {run run' : Bool} {mark : ℕ} {f : History} {G G' : ℕ → ℕ → Type 0} → (T run' → T run)
      → ((i x : ℕ) → G i x → G' i x)
      → (T run → (r : Row) → Has rows' r → T (is_filled r.state) → (0 < r.label) × Accounted rows e r)
      → Fired rows run mark f G
      → Fired rows' run' mark (go_on e f) G'
  fired_on {f = []} still more known k =
      record {
        obeyed = λ x o. absurd o.2;
        order = λ g before x y was. absurd was;
        running = λ t. absurd (k.running (still t)).has_begun;
      }
  fired_on {f = g ∷ f} still more known k =
      record {
        obeyed = λ x o. let (i, given) = k.obeyed x (obeyed_quiet (g ∷ f) x o) in (i, more i x given);
        order = rises_quiet (g ∷ f) k.order;
        running = λ t. running_on (known (still t)) (k.running (still t));
      }

  -- the event starts a firing
  pub fired_start : {rows : List Row} {G : ℕ → ℕ → Type 0} → ((r : Row) → Has rows r → 0 < r.label) → Fired rows true 0 (e ∷ []) G
  fired_start pos =
      record {
        obeyed = λ x o. absurd (nothing x o);
        order = rises_quiet [] (λ g before x y was. absurd was);
        running = λ t. record {
          has_begun = tt;
          upto = λ x o. absurd (nothing x o);
          marked = inl refl;
          caught = λ r i f l. absurd (omega (arith, pos r i));
        };
      }
    where
      nothing : (x : ℕ) → Obeyed (e ∷ []) x → ⊥
      nothing x o = (obeyed_quiet [] x o).2

-- ## The end of a firing

pub fired_end : {rows : List Row} {mark : ℕ} {G : ℕ → ℕ → Type 0} → Fired rows false mark [] G
fired_end = record { obeyed = λ x o. absurd o.2; order = λ e before x y was. absurd was; running = λ t. absurd t }

-- ## Next obeys a label

pub fired_next : {rows : List Row} {mark : ℕ} {f : History} {G G' : ℕ → ℕ → Type 0} (e : Event) (r : Row) → obeys e.answer ≡ Some r.label
    → Takes mark rows r
    → ((i x : ℕ) → G i x → G' i x)
    → ((i : ℕ) × G i r.label)
    → Fired rows true mark f G
    → Fired rows true r.label (go_on e f) G'
fired_next {f = []} e r o takes more given k = absurd (k.running tt).has_begun
fired_next {rows} {mark} {f = h ∷ f} {G} {G'} e r o takes more given k =
    record {
      obeyed = obeyed';
      order = order';
      running = λ t. record { has_begun = tt; upto = upto'; marked = inr now; caught = caught' };
    }
  where
    now : Obeyed (e ∷ h ∷ f) r.label
    now = (e, h ∷ f, inl (refl, refl), o)

    this : (g : Event) (x : ℕ) → e ≡ g → obeys g.answer ≡ Some x → r.label ≡ x
    this g x p q = some_injective r.label x (sym o ∙ ap (λ (z : Event). obeys z.answer) p ∙ q)

    obeyed' : (x : ℕ) → Obeyed (e ∷ h ∷ f) x → (i : ℕ) × G' i x
    obeyed' x (g, before, inl (p, q), s) = (given.0, subst (G' given.0) (this g x p s) (more given.0 r.label given.1))
    obeyed' x (g, before, inr was, s) = let (i, was_given) = k.obeyed x (g, before, was, s) in (i, more i x was_given)

    upto' : (x : ℕ) → Obeyed (e ∷ h ∷ f) x → x ≤ r.label
    upto' x (g, before, inl (p, q), s) = omega (arith, this g x p s)
    upto' x (g, before, inr was, s) = omega (arith, (k.running tt).upto x (g, before, was, s), takes.past)

    order' : Rises (e ∷ h ∷ f)
    order' g before x y (inl (p, q)) s b =
        omega (arith, this g y p s, takes.past, (k.running tt).upto x (subst (λ (z : History). Obeyed z x) (sym q) b))
    order' g before x y (inr was) s b = k.order g before x y was s b

    caught' : (s : Row) → Has rows s → T (is_filled s.state) → s.label ≤ r.label → Caught (e ∷ h ∷ f) s.label
    caught' s i t l =
        elim (cases_lt mark s.label) [
          | inl past ↦ let q : r.label ≡ s.label = omega (arith, takes.first s i t past) in inl (subst (Obeyed (e ∷ h ∷ f)) q now)
          | inr up ↦ caught_more e (h ∷ f) s.label ((k.running tt).caught s i t up)
        ]
