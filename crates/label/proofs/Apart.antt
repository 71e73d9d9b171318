-- The pieces of a lawful label's word are its subvalues. Assumes nothing.
use Rattle.std.proofs.Common.{◌≡◌, ℕ, ◌+◌, ◌-◌, ◌<◌, ◌≤◌, Bool, List, [], ◌∷◌, ◌++◌, Some, None, Option, sym, refl, ap, ◌∙◌, subst, append_assoc, arith}
use Rattle.label.specs.Label.{Label, end, next, down, bits, spelled, Fits}
use Rattle.label.specs.Reading.{piece, ending, going_on, going_down}
use Rattle.label.specs.Spelling.{spelling, level_after, position_after}
use Rattle.label.specs.Theorems.{Of}
use Rattle.label.specs.declared.piece.Piece.{Piece}
use Rattle.label.specs.declared.subvalue.Subvalue.{Subvalue}
use Rattle.label.proofs.Pieces.{piece_end, piece_next, piece_down}
use Rattle.label.proofs.Words.{below, positive}
use Rattle.label.proofs.Theorems.{same_label}

module _ (w : ℕ → ℕ → ℕ) where
  -- n bits of value x spell the label c from level l and position i on
  abbrev pub Rests : (n x l i : ℕ) → Label → Type 0
  Rests n x l i c = Fits w l i c × (bits w l i c ≤ n) × (spelled w n l i c ≡ x)

  -- the first piece of such bits
  abbrev pub first_of : (n l i : ℕ) → Label → Piece
  first_of n l i (end s) = ending s
  first_of n l i (next s d) = going_on s (spelled w (n - w l i - 1) l (i + 1) d)
  first_of n l i (down s d) = going_down s (spelled w (n - w l i - 1) (l + 1) 0 d)

  piece_is : (n x l i : ℕ) (c : Label) → Rests n x l i c → piece (w l i) n x ≡ Some (first_of n l i c)
  piece_is n x l i (end s) (f, b, is) = ap (piece (w l i) n) (sym is) ∙ piece_end (w l i) n s b
  piece_is n x l i (next s d) (f, b, is) =
      let m : ℕ = n - w l i - 1 in
      let small = below w m l (i + 1) d f.1 (omega arith) in
      ap (piece (w l i) n) (sym is) ∙ piece_next (w l i) n s (spelled w m l (i + 1) d) (omega arith) small
  piece_is n x l i (down s d) (f, b, is) =
      let m : ℕ = n - w l i - 1 in
      let small = below w m (l + 1) 0 d f.2 (omega arith) in
      ap (piece (w l i) n) (sym is) ∙ piece_down (w l i) n s (spelled w m (l + 1) 0 d) (omega arith) (positive w m (l + 1) d f.2) small

  -- what is left of a label behind its first piece
  abbrev pub Behind : (n l i : ℕ) → List Subvalue → Subvalue → Option ℕ → Type 0
  Behind n l i all first None = (first ∷ [] ≡ all) × (w l i ≤ n)
  Behind n l i all first (Some y) =
      (w l i < n) × ((d : Label) × (first ∷ spelling d ≡ all) × Rests (n - w l i - 1) y (level_after first.ends_level l) (position_after first.ends_level i) d)

  left_behind : (n x l i : ℕ) (c : Label) → Rests n x l i c → Behind n l i (spelling c) (first_of n l i c).subvalue (first_of n l i c).behind
  left_behind n x l i (end s) (f, b, is) = (refl, b)
  left_behind n x l i (next s d) (f, b, is) = (omega arith, (d, refl, (f.1, omega arith, refl)))
  left_behind n x l i (down s d) (f, b, is) = (omega arith, (d, refl, (f.2, omega arith, refl)))

  -- The loop's invariant: the subvalues taken so far, and those of what is left, are those of the word's label.
  pub record Taken (N word : ℕ) (n x l i : ℕ) (so_far : List Subvalue) : Type 0 where
    pub all : Label
    pub of : Of w N all word
    pub left : Label
    pub rests : Rests n x l i left
    pub joined : so_far ++ spelling left ≡ spelling all

  module _ (N word : ℕ) {n x l i k : ℕ} {so_far : List Subvalue} (width : k ≡ w l i) (t : Taken N word n x l i so_far) where
    first_is : piece k n x ≡ Some (first_of n l i t.left)
    first_is = ap (λ (j : ℕ). piece j n x) width ∙ piece_is n x l i t.left t.rests

    pub taken_none : None ≡ piece k n x → ⊥
    taken_none at = let e = at ∙ first_is in cc

    behind : (p : Piece) (b : Option ℕ) → Some p ≡ piece k n x → p.behind ≡ b → Behind n l i (spelling t.left) p.subvalue b
    behind p b at is =
        let whole : Some (first_of n l i t.left) ≡ Some p = sym (at ∙ first_is) in
        let same : first_of n l i t.left ≡ p = cc in
        subst (Behind n l i (spelling t.left) p.subvalue) is
        (subst (λ (q : Piece). Behind n l i (spelling t.left) q.subvalue q.behind) same (left_behind n x l i t.left t.rests))

    -- the last subvalue
    pub taken_ends : {p : Piece} (c : Label) → Some p ≡ piece k n x → p.behind ≡ None → Of w N c word → so_far ++ (p.subvalue ∷ []) ≡ spelling c
    taken_ends {p} c at last of =
        let same : t.all ≡ c = same_label w N t.all c t.of.0 of.0 (t.of.1 ∙ sym of.1) in
        ap (λ (q : List Subvalue). so_far ++ q) (behind p None at last).0 ∙ t.joined ∙ ap spelling same

    -- and one with more behind it
    pub taken_more : {p : Piece} {y m v deep along : ℕ} {more : List Subvalue} → Some p ≡ piece k n x → p.behind ≡ Some y
        → m ≡ n - k - 1 → v ≡ y → deep ≡ level_after p.subvalue.ends_level l → along ≡ position_after p.subvalue.ends_level i
        → more ≡ so_far ++ (p.subvalue ∷ [])
        → Taken N word m v deep along more
    taken_more {p} {y} {m} {v} {deep} {along} {more} at is less rest_is deep_is along_is grown =
        let (room, (d, joined, rests)) = behind p (Some y) at is in
        let e : Bool = p.subvalue.ends_level in
        rw (less, rest_is, deep_is, along_is, grown) (record {
          all = t.all;
          of = t.of;
          left = d;
          rests = subst (λ (j : ℕ). Rests (n - j - 1) y (level_after e l) (position_after e i) d) (sym width) rests;
          joined = append_assoc so_far (p.subvalue ∷ []) (spelling d) ∙ ap (λ (q : List Subvalue). so_far ++ q) joined ∙ t.joined;
        })
