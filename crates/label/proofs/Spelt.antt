-- Labels by their subvalues, and the steps of writing one. Assumes nothing.
use Rattle.std.proofs.Common.{◌≡◌, ℕ, ◌+◌, ◌-◌, ◌*◌, ◌^◌, ◌<◌, ◌≤◌, Bool, true, false, eqb, List, [], ◌∷◌, length, Some, None, sym, refl, ap, ◌∙◌, subst, arith}
use Rattle.std.proofs.lemmas.List.{nil_from_length}
use Rattle.std.proofs.lemmas.Bool.{eqb-true}
use Rattle.std.specs.Bool.{then_some}
use Rattle.label.specs.Label.{Label, end, next, down, stands_at, bits, spelled, Fits}
use Rattle.label.specs.Spelling.{subvalue, spelling, level_after, position_after, separator_after, Places, WritesFrom}
use Rattle.label.specs.declared.subvalue.Subvalue.{Subvalue}
use Rattle.label.proofs.Words.{below}

-- a list that is not empty, by its first element and the others
pub begun : (xs : List Subvalue) → eqb (length xs) 0 ≡ false → (r : Subvalue) × (rs : List Subvalue) × (xs ≡ r ∷ rs)
begun [] h = absurd (cc)
begun (x ∷ xs) h = (x, xs, refl)

pub emptied : (xs : List Subvalue) → eqb (length xs) 0 ≡ true → xs ≡ []
emptied xs h = nil_from_length xs (eqb-true (length xs) 0 h)

-- a subvalue in front of a label
abbrev pub onward : Bool → ℕ → Label → Label
onward false s c = next s c
onward true s c = down s c

pub onward_spelling : (e : Bool) (s : ℕ) (c : Label) → spelling (onward e s c) ≡ subvalue s e ∷ spelling c
onward_spelling false s c = refl
onward_spelling true s c = refl

pub spelling_some : (c : Label) → spelling c ≡ [] → ⊥
spelling_some (end s) e = cc
spelling_some (next s c) e = cc
spelling_some (down s c) e = cc

same_value : (s t : ℕ) (e f : Bool) → subvalue s e ≡ subvalue t f → s ≡ t
same_value s t e f h = ap (λ (q : Subvalue). q.value) h

same_end : (s t : ℕ) (e f : Bool) → subvalue s e ≡ subvalue t f → e ≡ f
same_end s t e f h = ap (λ (q : Subvalue). q.ends_level) h

-- a label of one subvalue, and one of more
pub one_only : (s : ℕ) (e : Bool) (c : Label) → spelling c ≡ subvalue s e ∷ [] → (c ≡ end s) × (e ≡ true)
one_only s e (end t) h =
    let first : subvalue t true ≡ subvalue s e = cc in
    (ap end (same_value t s true e first), sym (same_end t s true e first))
one_only s e (next t c) h = absurd (spelling_some c (cc))
one_only s e (down t c) h = absurd (spelling_some c (cc))

pub more_than : (s : ℕ) (e : Bool) (r : Subvalue) (rs : List Subvalue) (c : Label) → spelling c ≡ subvalue s e ∷ (r ∷ rs)
    → (d : Label) × (c ≡ onward e s d) × (spelling d ≡ r ∷ rs)
more_than s e r rs (end t) h = absurd (cc)
more_than s e r rs (next t d) h =
    let first : subvalue t false ≡ subvalue s e = cc in
    (d, subst (λ (b : Bool). next t d ≡ onward b s d) (same_end t s false e first) (ap (λ (j : ℕ). next j d) (same_value t s false e first)), cc)
more_than s e r rs (down t d) h =
    let first : subvalue t true ≡ subvalue s e = cc in
    (d, subst (λ (b : Bool). down t d ≡ onward b s d) (same_end t s true e first) (ap (λ (j : ℕ). down j d) (same_value t s true e first)), cc)

module _ (w : ℕ → ℕ → ℕ) where
  pub onward_bits : (l i : ℕ) (e : Bool) (s : ℕ) (d : Label) → bits w l i (onward e s d) ≡ w l i + 1 + bits w (level_after e l) (position_after e i) d
  onward_bits l i false s d = refl
  onward_bits l i true s d = refl

  pub onward_spelled : (n l i : ℕ) (e : Bool) (s : ℕ) (d : Label)
      → spelled w n l i (onward e s d)
      ≡ s * 2 ^ (n - w l i) + separator_after e (n - w l i - 1) + spelled w (n - w l i - 1) (level_after e l) (position_after e i) d
  onward_spelled n l i false s d = refl
  onward_spelled n l i true s d = omega arith

  pub onward_fits : (l i : ℕ) (e : Bool) (s : ℕ) (d : Label) → s < 2 ^ w l i → stands_at i s e ≡ true
      → Fits w (level_after e l) (position_after e i) d → Fits w l i (onward e s d)
  onward_fits l i false s d small stands f = (small, f)
  onward_fits l i true s d small stands f = (stands, small, f)

  pub fits_onward : (l i : ℕ) (e : Bool) (s : ℕ) (d : Label) → Fits w l i (onward e s d) → Fits w (level_after e l) (position_after e i) d
  fits_onward l i false s d f = f.1
  fits_onward l i true s d f = f.2

  -- the first subvalue of a label that fits
  first_fits : (n l i s : ℕ) (e : Bool) (rest : List Subvalue) (c : Label) → spelling c ≡ subvalue s e ∷ rest → Fits w l i c → bits w l i c ≤ n
      → (w l i ≤ n) × (s < 2 ^ w l i) × (stands_at i s e ≡ true)
  first_fits n l i s e rest (end t) h f b =
      let first : subvalue t true ≡ subvalue s e = cc in
      by_parts (same_value t s true e first) (same_end t s true e first) (b, f.1, f.0)
    where
      by_parts : t ≡ s → true ≡ e → (w l i ≤ n) × (t < 2 ^ w l i) × (stands_at i t true ≡ true) → (w l i ≤ n) × (s < 2 ^ w l i) × (stands_at i s e ≡ true)
      by_parts is ends (p, q, r) =
          (p, subst (λ (j : ℕ). j < 2 ^ w l i) is q, subst (λ (v : Bool). stands_at i s v ≡ true) ends (subst (λ (j : ℕ). stands_at i j true ≡ true) is r))
  first_fits n l i s e rest (next t c) h f b =
      let first : subvalue t false ≡ subvalue s e = cc in
      (omega arith, subst (λ (j : ℕ). j < 2 ^ w l i) (same_value t s false e first) f.0, subst (λ (v : Bool). stands_at i s v ≡ true) (same_end t s false e first) refl)
  first_fits n l i s e rest (down t c) h f b =
      let first : subvalue t true ≡ subvalue s e = cc in
      let is : t ≡ s = same_value t s true e first in (
        omega arith,
        subst (λ (j : ℕ). j < 2 ^ w l i) is f.1,
        subst (λ (v : Bool). stands_at i s v ≡ true) (same_end t s true e first) (subst (λ (j : ℕ). stands_at i j true ≡ true) is f.0),
      )

  -- ## The returns of writing: the list xs begins with `first`, of k bits, and goes on with `further`
  module _ (n l i : ℕ) {k : ℕ} (width : k ≡ w l i) {xs : List Subvalue} {first : Subvalue} {further : List Subvalue} (parts : xs ≡ first ∷ further) where
    pub no_value : Places k n i first.value first.ends_level None → WritesFrom w n l i xs None
    no_value none c is f b =
        let (room, small, stands) = first_fits n l i first.value first.ends_level further c (is ∙ parts) f b in
        none (omega (arith, width)) (subst (λ (j : ℕ). first.value < 2 ^ j) (sym width) small) stands

    -- the last subvalue, by whether it ends its level
    pub last_value : (x : ℕ) → Places k n i first.value first.ends_level (Some x) → eqb (length further) 0 ≡ true → WritesFrom w n l i xs (then_some first.ends_level x)
    last_value x (room, small, stands, value) none = by_end first.ends_level refl
      where
        alone : xs ≡ first ∷ []
        alone = parts ∙ ap (λ (r : List Subvalue). first ∷ r) (emptied further none)

        by_end : (b : Bool) → first.ends_level ≡ b → WritesFrom w n l i xs (then_some b x)
        by_end true ends = (
          end first.value,
          ap (λ (b : Bool). subvalue first.value b ∷ []) (sym ends) ∙ sym alone,
          (sym (ap (stands_at i first.value) ends) ∙ stands, subst (λ (j : ℕ). first.value < 2 ^ j) width small),
          omega (arith, width),
          ap (λ (j : ℕ). first.value * 2 ^ (n - j)) (sym width) ∙ sym value,
        )
        by_end false goes = λ c is f b.
            let (one, ends) = one_only first.value first.ends_level c (is ∙ alone) in
            let z : true ≡ false = sym ends ∙ goes in
            cc

    further_label : (r : Subvalue) (rs : List Subvalue) → further ≡ r ∷ rs → (c : Label) → spelling c ≡ xs → Fits w l i c → bits w l i c ≤ n
        → (d : Label) × (spelling d ≡ further) × Fits w (level_after first.ends_level l) (position_after first.ends_level i) d
        × (k + 1 + bits w (level_after first.ends_level l) (position_after first.ends_level i) d ≤ n)
    further_label r rs more c is f b =
        let (d, it, rest) = more_than first.value first.ends_level r rs c (is ∙ parts ∙ ap (λ (q : List Subvalue). first ∷ q) more) in (
          d,
          rest ∙ sym more,
          fits_onward l i first.ends_level first.value d (subst (Fits w l i) it f),
          omega (arith, width, ap (bits w l i) it, onward_bits l i first.ends_level first.value d),
        )

    pub no_room : eqb (length further) 0 ≡ false → (1 ≤ n - k → ⊥) → WritesFrom w n l i xs None
    no_room some none c is f b =
        let (r, rs, more) = begun further some in
        let (d, sp, fit, few) = further_label r rs more c is f b in
        none (omega arith)

    -- ## What is behind the separator: m bits, from level l' and position i' on
    module _ {m l' i' : ℕ} (more : k < n) (less : m ≡ n - k - 1) (deep : l' ≡ level_after first.ends_level l) (along : i' ≡ position_after first.ends_level i) where
      pub no_rest : eqb (length further) 0 ≡ false → WritesFrom w m l' i' further None → WritesFrom w n l i xs None
      no_rest some none c is f b =
          let (r, rs, more) = begun further some in
          let (d, sp, fit, few) = further_label r rs more c is f b in
          let here : WritesFrom w m (level_after first.ends_level l) (position_after first.ends_level i) further None = rw (deep, along) at none in
          here d sp fit (omega arith)

      -- the label of a subvalue and the rest
      pub whole_value : (x y : ℕ) {z : ℕ} → Places k n i first.value first.ends_level (Some x) → z ≡ separator_after first.ends_level m → WritesFrom w m l' i' further (Some y)
          → WritesFrom w n l i xs (Some (x + z + y)) × (x + z + y < 2 ^ n)
      whole_value x y {z} (room, small, stands, value) separated written =
          let (d, sp, fit, few, is) : WritesFrom w m (level_after first.ends_level l) (position_after first.ends_level i) further (Some y) = rw (deep, along) at written in
          let c : Label = onward first.ends_level first.value d in
          let m_is : n - w l i - 1 ≡ m = omega (arith, width) in
          let fits : Fits w l i c = onward_fits l i first.ends_level first.value d (subst (λ (j : ℕ). first.value < 2 ^ j) width small) stands fit in
          let within : bits w l i c ≤ n = omega (arith, onward_bits l i first.ends_level first.value d, width) in
          let front : first.value * 2 ^ (n - w l i) ≡ x = ap (λ (j : ℕ). first.value * 2 ^ (n - j)) (sym width) ∙ sym value in
          let total : spelled w n l i c ≡ x + z + y =
          onward_spelled n l i first.ends_level first.value d
          ∙ ap (λ (j : ℕ). first.value * 2 ^ (n - w l i) + separator_after first.ends_level j + spelled w j (level_after first.ends_level l) (position_after first.ends_level i) d) m_is
          ∙ omega (arith, front, is, separated) in (
            (c, onward_spelling first.ends_level first.value d ∙ ap (λ (r : List Subvalue). first ∷ r) sp ∙ sym parts, fits, within, total),
            subst (λ (v : ℕ). v < 2 ^ n) total (below w n l i c fits within),
          )
