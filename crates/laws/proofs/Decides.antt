-- What can be decided about rows and labels. Everything here computes, so that examples can be computed by it. Assumes nothing.
use Rattle.std.proofs.Common.{◌≡◌, ℕ, zero, suc, ◌<◌, ◌≤◌, Bool, true, false, T, eqb, ltb, ◌⊎◌, List, [], ◌∷◌, length, Some, None, Option, sym, refl, ap, ◌∙◌, subst, inl, inr, arith}
use Rattle.std.proofs.lemmas.Bool.{ltb-true, ltb-false, eqb-true, eqb-false}
use Rattle.shelf.specs.Scan.{FilledAbove, NoneBefore, NextFilled}
use Rattle.gap.proofs.Options.{some_injective, none_ne_some}
use Rattle.laws.specs.Standing.{State, Opened, Filled, Struck, Row, Has, Stands, StandsAs}
use Rattle.laws.specs.Sheet.{Phase, Resting, Firing, Paused, Where, FirstUnder, LastUnder, Before, After}
use Rattle.laws.specs.Openings.{Lower, Upper, Utmost, Greatest, Least}

-- ## Tests and numbers

abbrev pub test : (b : Bool) → Dec (T b)
test true = yes tt
test false = no (λ t. t)

abbrev by_less : (a b : ℕ) (t : Bool) → ltb a b ≡ t → Dec (a < b)
by_less a b true e = yes (ltb-true a b e)
by_less a b false e = no (λ l. omega (arith, ltb-false a b e))

abbrev pub less : (a b : ℕ) → Dec (a < b)
less a b = by_less a b (ltb a b) refl

abbrev pub at_most : (a b : ℕ) → Dec (a ≤ b)
at_most a b = elim (less b a) [ yes l ↦ no (λ k. omega arith) | no f ↦ yes (omega (arith, f)) ]

abbrev by_equal : (a b : ℕ) (t : Bool) → eqb a b ≡ t → Dec (a ≡ b)
by_equal a b true e = yes (eqb-true a b e)
by_equal a b false e = no (eqb-false a b e)

abbrev pub equal : (a b : ℕ) → Dec (a ≡ b)
equal a b = by_equal a b (eqb a b) refl

abbrev pub is_some : (o : Option ℕ) (x : ℕ) → Dec (o ≡ Some x)
is_some None x = no (λ e. none_ne_some x e)
is_some (Some y) x = elim (equal y x) [ yes e ↦ yes (ap Some e) | no f ↦ no (λ e. f (some_injective y x e)) ]

-- ## Joining

abbrev pub negated : {A : Type 0} → Dec A → Dec (¬ A)
negated (yes a) = no (λ f. f a)
negated (no f) = yes f

abbrev pub and : {A B : Type 0} → Dec A → Dec B → Dec (A × B)
and (yes a) (yes b) = yes (a, b)
and (yes a) (no f) = no (λ p. f p.1)
and (no f) d = no (λ p. f p.0)

abbrev pub or : {A B : Type 0} → Dec A → Dec B → Dec (A ⊎ B)
or (yes a) d = yes (inl a)
or (no f) (yes b) = yes (inr b)
or (no f) (no g) = no (λ s. elim s [ inl a ↦ f a | inr b ↦ g b ])

-- the same in other words
abbrev pub same : {A B : Type 0} → (A → B) → (B → A) → Dec A → Dec B
same to from (yes a) = yes (to a)
same to from (no f) = no (λ b. f (from b))

-- ## States and phases

-- values that can be read back from a number
abbrev coded : {A : Type 0} (code : A → ℕ) (decode : ℕ → A) → ((a : A) → decode (code a) ≡ a) → (a b : A) → Dec (a ≡ b)
coded code decode back a b = same (λ e. sym (back a) ∙ ap decode e ∙ back b) (ap code) (equal (code a) (code b))

abbrev state_code : State → ℕ
state_code Opened = 0
state_code Filled = 1
state_code Struck = 2

abbrev state_of : ℕ → State
state_of zero = Opened
state_of (suc zero) = Filled
state_of (suc (suc n)) = Struck

pub state_back : (st : State) → state_of (state_code st) ≡ st
state_back Opened = refl
state_back Filled = refl
state_back Struck = refl

abbrev pub state_is : (st to : State) → Dec (st ≡ to)
state_is = coded state_code state_of state_back

abbrev phase_code : Phase → ℕ
phase_code Resting = 0
phase_code Firing = 1
phase_code Paused = 2

abbrev phase_of : ℕ → Phase
phase_of zero = Resting
phase_of (suc zero) = Firing
phase_of (suc (suc n)) = Paused

pub phase_back : (p : Phase) → phase_of (phase_code p) ≡ p
phase_back Resting = refl
phase_back Firing = refl
phase_back Paused = refl

abbrev pub phase_is : (p to : Phase) → Dec (p ≡ to)
phase_is = coded phase_code phase_of phase_back

-- ## Rows

abbrev here_or : (P : Row → Type 0) (r : Row) (rows : List Row) → Dec (P r) → Dec ((s : Row) × Has rows s × P s)
    → Dec ((s : Row) × Has (r ∷ rows) s × P s)
here_or P r rows (yes p) d = yes (r, inl refl, p)
here_or P r rows (no f) (yes (s, h, p)) = yes (s, inr h, p)
here_or P r rows (no f) (no g) = no neither
  where
    neither : ((s : Row) × Has (r ∷ rows) s × P s) → ⊥
    neither (s, inl e, p) = f (subst P (sym e) p)
    neither (s, inr h, p) = g (s, h, p)

-- some row has a property
abbrev pub some_row : (P : Row → Type 0) → ((r : Row) → Dec (P r)) → (rows : List Row) → Dec ((r : Row) × Has rows r × P r)
some_row P decide [] = no (λ k. k.1)
some_row P decide (r ∷ rows) = here_or P r rows (decide r) (some_row P decide rows)

abbrev pub stands : (rows : List Row) (x : ℕ) → Dec (Stands rows x)
stands rows x = some_row (λ r. r.label ≡ x) (λ r. equal r.label x) rows

abbrev pub stands_as : (st : State) (rows : List Row) (x : ℕ) → Dec (StandsAs st rows x)
stands_as st rows x =
    same
    (λ k. (k.0, k.1, k.2.0, k.2.1))
    (λ k. (k.0, k.1, (k.2, k.3)))
    (some_row (λ r. (r.label ≡ x) × (r.state ≡ st)) (λ r. and (equal r.label x) (state_is r.state st)) rows)

pub none_behind : (mark : ℕ) (r : Row) (rows : List Row) (n : ℕ) → ¬ (FilledAbove mark r) → NoneBefore rows mark n
    → NoneBefore (r ∷ rows) mark (suc n)
none_behind mark r rows n f before zero l k = f k
none_behind mark r rows n f before (suc j) l k = before j (omega arith) k

abbrev first_or : (mark : ℕ) (r : Row) (rows : List Row) → Dec (FilledAbove mark r) → ((o : Option (ℕ × Row)) × NextFilled rows mark o)
    → (o : Option (ℕ × Row)) × NextFilled (r ∷ rows) mark o
first_or mark r rows (yes k) rest = (Some (0, r), (omega arith, refl, k, λ j l. absurd (omega arith)))
first_or mark r rows (no f) (None, before) = (None, none_behind mark r rows (length rows) f before)
first_or mark r rows (no f) (Some (i, s), (l, at, k, before)) = (Some (suc i, s), (omega arith, at, k, none_behind mark r rows i f before))

-- the row that next takes, or that it takes none
abbrev pub next_filled : (mark : ℕ) (rows : List Row) → (o : Option (ℕ × Row)) × NextFilled rows mark o
next_filled mark [] = (None, λ j l. absurd (omega arith))
next_filled mark (r ∷ rows) =
    first_or mark r rows (and (state_is r.state Filled) (less mark r.label)) (next_filled mark rows)

-- ## Siblings

abbrev pub lower : (w : Where) (a c : ℕ) → Dec (Lower w a c)
lower FirstUnder a c = no (λ t. t)
lower LastUnder a c = yes tt
lower Before a c = less c a
lower After a c = at_most c a

abbrev pub upper : (w : Where) (a c : ℕ) → Dec (Upper w a c)
upper FirstUnder a c = yes tt
upper LastUnder a c = no (λ t. t)
upper Before a c = at_most a c
upper After a c = less a c

stands_where : (r : Row) (rows : List Row) (c : ℕ) → Stands (r ∷ rows) c → (r.label ≡ c) ⊎ Stands rows c
stands_where r rows c (s, inl e, l) = inl (ap (λ (t : Row). t.label) e ∙ l)
stands_where r rows c (s, inr h, l) = inr (s, h, l)

stands_more : (r : Row) (rows : List Row) (c : ℕ) → Stands rows c → Stands (r ∷ rows) c
stands_more r rows c (s, h, l) = (s, inr h, l)

-- among the labels of rows, in an order that is reflexive, transitive and total, one with a property that no other such one goes beyond
module _ (Within : ℕ → ℕ → Type 0) (self : (x : ℕ) → Within x x) (trans : (x y z : ℕ) → Within x y → Within y z → Within x z)
    (compare : (x y : ℕ) → Within x y ⊎ Within y x) (Q : ℕ → Type 0) where
  abbrev Found : List Row → Type 0
  Found rows = (o : Option ℕ) × Utmost Within (λ c. Stands rows c × Q c) o

  -- the first row's label, which has the property, and which all others with it are within
  pub new_utmost : (r : Row) (rows : List Row) → Q r.label → ((c : ℕ) → Stands rows c × Q c → Within c r.label)
      → Utmost Within (λ c. Stands (r ∷ rows) c × Q c) (Some r.label)
  new_utmost r rows q all = (((r, inl refl, refl), q), within)
    where
      within : (c : ℕ) → Stands (r ∷ rows) c × Q c → Within c r.label
      within c (s, k) = elim (stands_where r rows c s) [ inl e ↦ subst (λ z. Within z r.label) e (self r.label) | inr t ↦ all c (t, k) ]

  -- the utmost of the later rows, where the first row's label has not the property or is within it
  pub old_utmost : (r : Row) (rows : List Row) (o : Option ℕ) → Utmost Within (λ c. Stands rows c × Q c) o
      → (Q r.label → (x : ℕ) × (o ≡ Some x) × Within r.label x)
      → Utmost Within (λ c. Stands (r ∷ rows) c × Q c) o
  old_utmost r rows None u first = none
    where
      none : (c : ℕ) → Stands (r ∷ rows) c × Q c → ⊥
      none c (s, q) =
          elim (stands_where r rows c s) [
            | inl e ↦ let (x, p, w) = first (subst Q (sym e) q) in none_ne_some x p
            | inr t ↦ u c (t, q)
          ]
  old_utmost r rows (Some x) u first = ((stands_more r rows x u.0.0, u.0.1), within)
    where
      within : (c : ℕ) → Stands (r ∷ rows) c × Q c → Within c x
      within c (s, q) =
          elim (stands_where r rows c s) [
            | inl e ↦ let (y, p, w) = first (subst Q (sym e) q) in
                subst (λ z. Within z x) e (subst (Within r.label) (sym (some_injective x y p)) w)
            | inr t ↦ u.1 c (t, q)
          ]

  abbrev more : (r : Row) (rows : List Row) → Dec (Q r.label) → Found rows → Found (r ∷ rows)
  more r rows (no f) (o, u) = (o, old_utmost r rows o u (λ q. absurd (f q)))
  more r rows (yes q) (None, u) = (Some r.label, new_utmost r rows q (λ c k. absurd (u c k)))
  more r rows (yes q) (Some x, u) =
      elim (compare x r.label) [
        | inl w ↦ (Some r.label, new_utmost r rows q (λ c k. trans c x r.label (u.1 c k) w))
        | inr w ↦ (Some x, old_utmost r rows (Some x) u (λ k. (x, refl, w)))
      ]

  abbrev pub utmost : ((c : ℕ) → Dec (Q c)) → (rows : List Row) → Found rows
  utmost decide [] = (None, λ c k. k.0.1)
  utmost decide (r ∷ rows) = more r rows (decide r.label) (utmost decide rows)

-- the same property in other words
abbrev pub utmost_same : (Within : ℕ → ℕ → Type 0) (Q R : ℕ → Type 0) → ((c : ℕ) → Q c → R c) → ((c : ℕ) → R c → Q c)
    → (o : Option ℕ) → Utmost Within Q o → Utmost Within R o
utmost_same Within Q R to from None u = λ c k. u c (from c k)
utmost_same Within Q R to from (Some x) (k, all) = (to x k, λ c q. all c (from c q))

abbrev pub greatest : (Q : ℕ → Type 0) → ((c : ℕ) → Dec (Q c)) → (rows : List Row) → (o : Option ℕ) × Greatest (λ c. Stands rows c × Q c) o
greatest Q decide rows =
    utmost (λ c x. c ≤ x) (λ x. omega arith) (λ x y z l k. omega arith)
    (λ x y. elim (less y x) [ yes l ↦ inr (omega arith) | no f ↦ inl (omega (arith, f)) ]) Q decide rows

abbrev pub least : (Q : ℕ → Type 0) → ((c : ℕ) → Dec (Q c)) → (rows : List Row) → (o : Option ℕ) × Least (λ c. Stands rows c × Q c) o
least Q decide rows =
    utmost (λ c x. x ≤ c) (λ x. omega arith) (λ x y z l k. omega arith)
    (λ x y. elim (less x y) [ yes l ↦ inr (omega arith) | no f ↦ inl (omega (arith, f)) ]) Q decide rows
