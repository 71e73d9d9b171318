-- Words of lawful labels: they fit, are never 0, and read back. Assumes nothing.
use Rattle.std.proofs.Common.{◌≡◌, ℕ, zero, suc, ◌+◌, ◌-◌, ◌*◌, ◌^◌, ◌<◌, ◌≤◌, Bool, true, false, cond, Some, None, Ok, Err, Option, Result, refl, ap, ◌∙◌, subst, mul-le-mul, arith, pow_pos}
use Rattle.std.proofs.lemmas.Bool.{cond-true, ltb-true}
use Rattle.label.specs.Label.{Label, end, next, down, may_end, bits, spelled, Fits}
use Rattle.label.specs.Reading.{piece, onto, outcome, outcome_of, scan}
use Rattle.label.specs.declared.piece.Piece.{Piece}
use Rattle.label.specs.declared.fault.LabelFault.{LabelFault}
use Rattle.label.proofs.Pieces.{Tells, TellsOf, piece_tells, pow_half, in_front, piece_end, piece_next, piece_down}

module _ (w : ℕ → ℕ → ℕ) where
  pub below : (n l i : ℕ) (c : Label) → Fits w l i c → bits w l i c ≤ n → spelled w n l i c < 2 ^ n
  below n l i (end s) f b = omega (arith, in_front (w l i) n s 0 b f.1 (pow_pos (n - w l i)))
  below n l i (next s c) f b =
      let room : w l i < n = omega arith in
      let rest : bits w l (i + 1) c ≤ n - w l i - 1 = omega arith in
      let behind : 2 ^ (n - w l i - 1) + spelled w (n - w l i - 1) l (i + 1) c < 2 ^ (n - w l i) =
      omega (arith, pow_half (w l i) n room, below (n - w l i - 1) l (i + 1) c f.1 rest) in
      omega (arith, in_front (w l i) n s (2 ^ (n - w l i - 1) + spelled w (n - w l i - 1) l (i + 1) c) (omega arith) f.0 behind)
  below n l i (down s c) f b =
      let room : w l i < n = omega arith in
      let rest : bits w (l + 1) 0 c ≤ n - w l i - 1 = omega arith in
      let behind : spelled w (n - w l i - 1) (l + 1) 0 c < 2 ^ (n - w l i) =
      omega (arith, pow_half (w l i) n room, below (n - w l i - 1) (l + 1) 0 c f.2 rest) in
      omega (arith, in_front (w l i) n s (spelled w (n - w l i - 1) (l + 1) 0 c) (omega arith) f.1 behind)

  -- a level's bits are not all 0, so that the separator before it is seen
  pub positive : (n l : ℕ) (c : Label) → Fits w l 0 c → 1 ≤ spelled w n l 0 c
  positive n l (end s) f = omega (arith, ltb-true 0 s f.0, pow_pos (n - w l 0), mul-le-mul (ltb-true 0 s f.0) (pow_pos (n - w l 0)))
  positive n l (next s c) f = omega (arith, pow_pos (n - w l 0 - 1))
  positive n l (down s c) f = omega (arith, ltb-true 0 s f.0, pow_pos (n - w l 0), mul-le-mul (ltb-true 0 s f.0) (pow_pos (n - w l 0)))

  module _ (N : ℕ) where
    -- a lawful label is read back from its word
    pub scan_spelled : (f n l i : ℕ) (c : Label) → Fits w l i c → bits w l i c ≤ n → n < f → scan w N f n (spelled w n l i c) l i ≡ Ok c
    unfolding scan
    scan_spelled zero n l i c fits b h = absurd (omega arith)
    scan_spelled (suc f) n l i (end s) fits b h =
        ap (outcome _ i _ _) (piece_end (w l i) n s b) ∙ cond-true (may_end i s) _ _ fits.0
    scan_spelled (suc f) n l i (next s c) fits b h =
        let m : ℕ = n - w l i - 1 in
        let room : bits w l (i + 1) c ≤ m = omega arith in
        let small : spelled w m l (i + 1) c < 2 ^ m = below m l (i + 1) c fits.1 room in
        ap (outcome _ i _ _) (piece_next (w l i) n s (spelled w m l (i + 1) c) (omega arith) small)
        ∙ ap (onto (next s)) (scan_spelled f m l (i + 1) c fits.1 room (omega arith))
    scan_spelled (suc f) n l i (down s c) fits b h =
        let m : ℕ = n - w l i - 1 in
        let room : bits w (l + 1) 0 c ≤ m = omega arith in
        let small : spelled w m (l + 1) 0 c < 2 ^ m = below m (l + 1) 0 c fits.2 room in
        ap (outcome _ i _ _) (piece_down (w l i) n s (spelled w m (l + 1) 0 c) (omega arith) (positive m (l + 1) c fits.2) small)
        ∙ cond-true (may_end i s) _ _ fits.0
        ∙ ap (onto (down s)) (scan_spelled f m (l + 1) 0 c fits.2 room (omega arith))

    onto_ok : (g : Label → Label) (r : Result Label LabelFault) (c : Label) → onto g r ≡ Ok c → (d : Label) × (r ≡ Ok d) × (g d ≡ c)
    onto_ok g (Ok d) c e = (d, refl, cc)
    onto_ok g (Err f) c e = absurd (cc)

    closed_ok : (b : Bool) (r : Result Label LabelFault) (e : LabelFault) (c : Label) → cond b r (Err e) ≡ Ok c → (b ≡ true) × (r ≡ Ok c)
    closed_ok true r e c h = (refl, h)
    closed_ok false r e c h = absurd (cc)

    -- the n bits of value x spell c, which is lawful from level l and position i on
    abbrev Spells : (n x l i : ℕ) → Label → Type 0
    Spells n x l i c = Fits w l i c × (bits w l i c ≤ n) × (spelled w n l i c ≡ x)

    by_parts : (f n x l i : ℕ) (c : Label)
        → ((n x l i : ℕ) (c : Label) → x < 2 ^ n → scan w N f n x l i ≡ Ok c → Spells n x l i c)
        → (s : ℕ) (e : Bool) (b : Option ℕ) → TellsOf (w l i) n x s e b
        → outcome_of (N - n) i (λ y. scan w N f (n - w l i - 1) y l (i + 1)) (λ y. scan w N f (n - w l i - 1) y (l + 1) 0) s e b ≡ Ok c
        → Spells n x l i c
    by_parts f n x l i c ih s false None t e = absurd t
    by_parts f n x l i c ih s true None t e =
        let (ending, made) = closed_ok (may_end i s) (Ok (end s)) _ c e in
        let is : end s ≡ c = cc in
        subst (Spells n x l i) is ((ending, t.1), t.0, t.2)
    by_parts f n x l i c ih s false (Some y) t e =
        let m : ℕ = n - w l i - 1 in
        let (d, read, is) = onto_ok (next s) (scan w N f m y l (i + 1)) c e in
        let (fits, few, value) = ih m y l (i + 1) d t.2 read in
        subst (Spells n x l i) is ((t.1, fits), omega (arith, t.0), ap (λ z. s * 2 ^ (n - w l i) + 2 ^ m + z) value ∙ t.3)
    by_parts f n x l i c ih s true (Some y) t e =
        let m : ℕ = n - w l i - 1 in
        let (ending, made) = closed_ok (may_end i s) (onto (down s) (scan w N f m y (l + 1) 0)) _ c e in
        let (d, read, is) = onto_ok (down s) (scan w N f m y (l + 1) 0) c made in
        let (fits, few, value) = ih m y (l + 1) 0 d t.2 read in
        subst (Spells n x l i) is ((ending, t.1, fits), omega (arith, t.0), ap (λ z. s * 2 ^ (n - w l i) + z) value ∙ t.3)

    by_piece : (f n x l i : ℕ) (c : Label)
        → ((n x l i : ℕ) (c : Label) → x < 2 ^ n → scan w N f n x l i ≡ Ok c → Spells n x l i c)
        → (p : Option Piece) → Tells (w l i) n x p
        → outcome (N - n) i (λ y. scan w N f (n - w l i - 1) y l (i + 1)) (λ y. scan w N f (n - w l i - 1) y (l + 1) 0) p ≡ Ok c
        → Spells n x l i c
    by_piece f n x l i c ih None t e = absurd (cc)
    by_piece f n x l i c ih (Some p) t e = by_parts f n x l i c ih p.subvalue.value p.subvalue.ends_level p.behind t e

    -- a word that is read as a label is that label's word
    pub scan_tells : (f n x l i : ℕ) (c : Label) → x < 2 ^ n → scan w N f n x l i ≡ Ok c → Spells n x l i c
    unfolding scan
    scan_tells zero n x l i c h e = absurd (cc)
    scan_tells (suc f) n x l i c h e =
        by_piece f n x l i c (scan_tells f) (piece (w l i) n x) (piece_tells (w l i) n x h) e
