-- A label with more levels below its own. Assumes nothing.
use Rattle.std.proofs.Common.{◌≡◌, ℕ, ◌+◌, ◌-◌, ◌≤◌, List, [], ◌∷◌, ◌++◌, Some, None, Option, sym, refl, ap, ◌∙◌, subst, arith}
use Rattle.label.specs.Label.{Label, end, next, down, levels, depth, parent, bits, spelled, Fits}
use Rattle.label.proofs.Standing.{Under}

-- a label of one level
abbrev pub single : ℕ → List ℕ → Label
single s [] = end s
single s (t ∷ v) = next s (single t v)

-- c's levels, and d's below them
abbrev pub extend : Label → Label → Label
extend (end s) d = down s d
extend (next s c) d = next s (extend c d)
extend (down s c) d = down s (extend c d)

pub single_levels : (s : ℕ) (v : List ℕ) → levels (single s v) ≡ (s ∷ v) ∷ []
single_levels s [] = refl
single_levels s (t ∷ v) = let e = single_levels t v in cc

pub single_depth : (s : ℕ) (v : List ℕ) → depth (single s v) ≡ 1
single_depth s [] = refl
single_depth s (t ∷ v) = single_depth t v

pub single_top : (s : ℕ) (v : List ℕ) → parent (single s v) ≡ None
single_top s [] = refl
single_top s (t ∷ v) = ap (λ (o : Option Label). elim o [ None ↦ None | Some p ↦ Some (next s p) ]) (single_top t v)

pub extend_levels : (c d : Label) → levels (extend c d) ≡ levels c ++ levels d
extend_levels (end s) d = refl
extend_levels (next s c) d = let e = extend_levels c d in cc
extend_levels (down s c) d = let e = extend_levels c d in cc

pub extend_depth : (c d : Label) → depth (extend c d) ≡ depth c + depth d
extend_depth (end s) d = refl
extend_depth (next s c) d = extend_depth c d
extend_depth (down s c) d = omega (arith, extend_depth c d)

pub extend_parent : (c d : Label) → parent d ≡ None → parent (extend c d) ≡ Some c
extend_parent (end s) d e = ap (λ (o : Option Label). elim o [ None ↦ Some (end s) | Some p ↦ Some (down s p) ]) e
extend_parent (next s c) d e = ap (λ (o : Option Label). elim o [ None ↦ None | Some p ↦ Some (next s p) ]) (extend_parent c d e)
extend_parent (down s c) d e = ap (λ (o : Option Label). elim o [ None ↦ Some (end s) | Some p ↦ Some (down s p) ]) (extend_parent c d e)

pub extend_under : (c d : Label) → Under c (extend c d)
extend_under (end s) d = refl
extend_under (next s c) d = (refl, extend_under c d)
extend_under (down s c) d = (refl, extend_under c d)

-- what has c's levels and more is an extension of c
pub under_extends : (c d : Label) → Under c d → (e : Label) × (d ≡ extend c e)
under_extends (end s) (end t) u = absurd u
under_extends (end s) (next t d) u = absurd u
under_extends (end s) (down t d) u = (d, ap (λ (x : ℕ). down x d) (sym u))
under_extends (next s c) (end t) u = absurd u
under_extends (next s c) (next t d) (e, u) = let (b, is) = under_extends c d u in (b, cc)
under_extends (next s c) (down t d) u = absurd u
under_extends (down s c) (end t) u = absurd u
under_extends (down s c) (next t d) u = absurd u
under_extends (down s c) (down t d) (e, u) = let (b, is) = under_extends c d u in (b, cc)

pub under_trans : (a b c : Label) → Under a b → Under b c → Under a c
under_trans a b c u v =
    let (d, is) = under_extends a b u in
    let (e, it) = under_extends b c v in
    subst (Under a) (sym (it ∙ ap (λ (x : Label). extend x e) is ∙ extend_again a d e)) (extend_under a (extend d e))
  where
    extend_again : (a d e : Label) → extend (extend a d) e ≡ extend a (extend d e)
    extend_again (end s) d e = refl
    extend_again (next s a) d e = ap (next s) (extend_again a d e)
    extend_again (down s a) d e = ap (down s) (extend_again a d e)

-- a label has a level
pub depth_some : (c : Label) → 1 ≤ depth c
depth_some (end s) = omega arith
depth_some (next s c) = depth_some c
depth_some (down s c) = omega arith

-- a label of one level, by its depth
pub depth_one : (c : Label) → depth c ≡ 1 → (s : ℕ) × (v : List ℕ) × (c ≡ single s v)
depth_one (end s) e = (s, [], refl)
depth_one (next s c) e = let (t, v, is) = depth_one c e in (s, t ∷ v, ap (next s) is)
depth_one (down s c) e = absurd (omega (arith, depth_some c))

next_none : (s : ℕ) (o : Option Label) → ◌≡◌ {A = Option Label} (elim o [ None ↦ None | Some p ↦ Some (next s p) ]) None → o ≡ None
next_none s None e = refl
next_none s (Some p) e = absurd (cc)

down_none : (s : ℕ) (o : Option Label) → ◌≡◌ {A = Option Label} (elim o [ None ↦ Some (end s) | Some p ↦ Some (down s p) ]) None → ⊥
down_none s None e = cc
down_none s (Some p) e = cc

-- a label with no parent has one level
pub top_depth : (c : Label) → parent c ≡ None → depth c ≡ 1
top_depth (end s) e = refl
top_depth (next s c) e = top_depth c (next_none s (parent c) e)
top_depth (down s c) e = absurd (down_none s (parent c) e)

next_some : (s : ℕ) (o : Option Label) (p : Label) → elim o [ None ↦ None | Some q ↦ Some (next s q) ] ≡ Some p
    → (q : Label) × (o ≡ Some q) × (p ≡ next s q)
next_some s None p e = absurd (cc)
next_some s (Some q) p e = (q, refl, cc)

-- a label is its parent's, with one level more
pub parent_extends : (c p : Label) → parent c ≡ Some p → (d : Label) × (parent d ≡ None) × (c ≡ extend p d)
parent_extends (end s) p e = absurd (cc)
parent_extends (next s c) p e =
    let (q, at, is) = next_some s (parent c) p e in
    let (d, top, it) = parent_extends c q at in
    (d, top, ap (next s) it ∙ sym (ap (λ (x : Label). extend x d) is))
parent_extends (down s c) p e = by_parent (parent c) refl e (parent_extends c)
  where
    by_parent : (o : Option Label) → parent c ≡ o → elim o [ None ↦ Some (end s) | Some q ↦ Some (down s q) ] ≡ Some p
        → ((q : Label) → parent c ≡ Some q → (d : Label) × (parent d ≡ None) × (c ≡ extend q d))
        → (d : Label) × (parent d ≡ None) × (down s c ≡ extend p d)
    by_parent None at e rest = let is : end s ≡ p = cc in (c, at, ap (λ (x : Label). extend x c) is)
    by_parent (Some q) at e rest =
        let (d, top, it) = rest q at in
        let is : down s q ≡ p = cc in
        (d, top, ap (down s) it ∙ ap (λ (x : Label). extend x d) is)

-- labels of one parent, or of none, are equally deep
pub siblings_deep : (c d : Label) → parent c ≡ parent d → depth c ≡ depth d
siblings_deep c d e = by_parent (parent c) refl
  where
    below : (x p : Label) → parent x ≡ Some p → depth x ≡ depth p + 1
    below x p at =
        let (y, top, is) = parent_extends x p at in
        ap depth is ∙ extend_depth p y ∙ ap (λ (k : ℕ). depth p + k) (top_depth y top)

    by_parent : (o : Option Label) → parent c ≡ o → depth c ≡ depth d
    by_parent None at = top_depth c at ∙ sym (top_depth d (sym e ∙ at))
    by_parent (Some p) at = below c p at ∙ sym (below d p (sym e ∙ at))

-- siblings are not below each other
pub under_siblings : (c d : Label) → parent c ≡ parent d → Under c d → ⊥
under_siblings c d e u =
    let (b, is) = under_extends c d u in
    omega (arith, siblings_deep c d e, ap depth is, extend_depth c b, depth_some b)

module _ (w : ℕ → ℕ → ℕ) where
  pub extend_bits : (l i : ℕ) (c d : Label) → bits w l i (extend c d) ≡ bits w l i c + 1 + bits w (l + depth c) 0 d
  extend_bits l i (end s) d = refl
  extend_bits l i (next s c) d = omega (arith, extend_bits l (i + 1) c d)
  extend_bits l i (down s c) d =
      let e : l + 1 + depth c ≡ l + (1 + depth c) = omega arith in
      omega (arith, extend_bits (l + 1) 0 c d, ap (λ (k : ℕ). bits w k 0 d) e)

  pub extend_spelled : (n l i : ℕ) (c d : Label)
      → spelled w n l i (extend c d) ≡ spelled w n l i c + spelled w (n - bits w l i c - 1) (l + depth c) 0 d
  extend_spelled n l i (end s) d = refl
  extend_spelled n l i (next s c) d =
      let e : n - w l i - 1 - bits w l (i + 1) c - 1 ≡ n - (w l i + 1 + bits w l (i + 1) c) - 1 = omega arith in
      omega (arith, extend_spelled (n - w l i - 1) l (i + 1) c d, ap (λ (k : ℕ). spelled w k (l + depth c) 0 d) e)
  extend_spelled n l i (down s c) d =
      let e : n - w l i - 1 - bits w (l + 1) 0 c - 1 ≡ n - (w l i + 1 + bits w (l + 1) 0 c) - 1 = omega arith in
      let deep : l + 1 + depth c ≡ l + (1 + depth c) = omega arith in
      omega (
        arith,
        extend_spelled (n - w l i - 1) (l + 1) 0 c d,
        ap (λ (k : ℕ). spelled w k (l + 1 + depth c) 0 d) e,
        ap (λ (k : ℕ). spelled w (n - (w l i + 1 + bits w (l + 1) 0 c) - 1) k 0 d) deep,
      )

  pub extend_fits : (l i : ℕ) (c d : Label) → Fits w l i c → Fits w (l + depth c) 0 d → Fits w l i (extend c d)
  extend_fits l i (end s) d f g = (f.0, f.1, g)
  extend_fits l i (next s c) d f g = (f.0, extend_fits l (i + 1) c d f.1 g)
  extend_fits l i (down s c) d f g =
      let e : l + (1 + depth c) ≡ l + 1 + depth c = omega arith in
      (f.0, f.1, extend_fits (l + 1) 0 c d f.2 (subst (λ (k : ℕ). Fits w k 0 d) e g))

  pub fits_extend : (l i : ℕ) (c d : Label) → Fits w l i (extend c d) → Fits w l i c × Fits w (l + depth c) 0 d
  fits_extend l i (end s) d f = ((f.0, f.1), f.2)
  fits_extend l i (next s c) d f = let (g, h) = fits_extend l (i + 1) c d f.1 in ((f.0, g), h)
  fits_extend l i (down s c) d f =
      let e : l + 1 + depth c ≡ l + (1 + depth c) = omega arith in
      let (g, h) = fits_extend (l + 1) 0 c d f.2 in
      ((f.0, f.1, g), subst (λ (k : ℕ). Fits w k 0 d) e h)
