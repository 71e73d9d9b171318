-- Reading the words of a line from left to right. Assumes nothing.
use Rattle.std.proofs.Common.{◌≡◌, ℕ, zero, suc, ◌+◌, ◌<◌, List, [], ◌∷◌, ◌++◌, length, Some, None, Ok, Err, Option, Result, MatchResult, IfOk, IfErr, IsSomeAnd, ◌⊎◌, slice_get, sym, refl, ap, ◌∙◌, subst, inl, inr, append_assoc, append-nil, arith}
use Rattle.std.specs.Iterator.{Yields, Drains}
use Rattle.std.specs.Iterator.Runs.{Run, SomeRun, EndsAtFirstErr, YieldsRun}
use Rattle.std.specs.List.{FoldsTo}
use Rattle.kushrebat.specs.Numerals.{Number}
use Rattle.kushrebat.specs.declared.script.fault.LineFault.TheVariants.{NotANumber, OutOfMemory}
use Rattle.kushrebat.specs.Grammar.{Part, a_bound, Readable, Misread, MisreadNumbers, SpellsBound, SpellsWidth, SpellsWidths, MisreadWidths, SpellsRest, SpellsBehind, text_of, name_of}
use Rattle.kushrebat.specs.declared.command.Command.{Command}
use Rattle.kushrebat.specs.declared.command.Name.{Name}
use Rattle.kushrebat.specs.declared.script.fault.LineFault.{LineFault}

-- a part that can be read leaves it to the parts behind it
pub later : (p : Part) (ps : List Part) (ws : List (List ℕ)) (ds : List ℕ) (rest : List (List ℕ)) (fault : LineFault) → ws ≡ ds ∷ rest → Readable p ds → Misread ps rest fault → Misread (p ∷ ps) ws fault
later p ps ws ds rest fault e h m = subst (λ l. Misread (p ∷ ps) l fault) (sym e) (inr (h, m))

pub readable : (ds : List ℕ) (b : Option ℕ) → SpellsBound ds b → Readable a_bound ds
readable ds None e = inl e
readable ds (Some x) h = inr h.0

-- words that spell widths, and one that spells one width more, spell them all
pub widths_more : (ds : List (List ℕ)) (ws all : List ℕ) (d : List ℕ) (w : ℕ) → all ≡ ws ++ (w ∷ []) → SpellsWidths ds ws → SpellsWidth d w → SpellsWidths (ds ++ (d ∷ [])) all
widths_more [] [] all d w e h s = subst (SpellsWidths (d ∷ [])) (sym e) (s, tt)
widths_more [] (v ∷ ws) all d w e h s = absurd h
widths_more (c ∷ ds) [] all d w e h s = absurd h
widths_more (c ∷ ds) (v ∷ ws) all d w e h s =
    subst (SpellsWidths (c ∷ (ds ++ (d ∷ [])))) (sym e) (h.0, widths_more ds ws (ws ++ (w ∷ [])) d w refl h.1 s)

-- what is misread behind words that spell widths is misread in all
pub misread_later : (all ds rest : List (List ℕ)) (ws : List ℕ) (fault : LineFault) → all ≡ ds ++ rest → SpellsWidths ds ws → MisreadNumbers rest fault → MisreadNumbers all fault
misread_later all [] rest ws fault e h m = subst (λ l. MisreadNumbers l fault) (sym e) m
misread_later all (d ∷ ds) rest [] fault e h m = absurd h
misread_later all (d ∷ ds) rest (w ∷ ws) fault e h m =
    subst (λ l. MisreadNumbers l fault) (sym e) (inr (h.0.0, misread_later (ds ++ rest) ds rest ws fault refl h.1 m))

-- what one word gives as a width
abbrev pub Gives : List ℕ → Result ℕ LineFault → Type 0
Gives d x = MatchResult x (SpellsWidth d) (λ fault. (Number d → ⊥) × (fault ≡ NotANumber))

-- an iterator over what words give as widths, where `rest` has the words that are left
module _ {M V : Type 0} (steps : M → Option (Result ℕ LineFault) → M → Type 0) (adds : V → Result ℕ LineFault → V → Type 0) (items : V → List ℕ) (rest : M → List (List ℕ))
    (turn : (s t : M) (x : Result ℕ LineFault) → steps s (Some x) t → (d : List ℕ) × (rest s ≡ d ∷ rest t) × Gives d x)
    (over : (s t : M) → steps s None t → rest s ≡ [])
    (added : (p q : V) (x : Result ℕ LineFault) → adds p x q → (y : ℕ) × (Ok y ≡ x) × (items q ≡ items p ++ (y ∷ []))) where
  widths_from : (s t u : M) (xs : List (Result ℕ LineFault)) (b v : V) → Yields steps s xs t → steps t None u → FoldsTo adds b xs v → (ws : List ℕ) × (items v ≡ items b ++ ws) × SpellsWidths (rest s) ws
  widths_from s t u [] b v same none e =
      ([], ap items (sym e) ∙ sym (append-nil (items b)), subst (λ l. SpellsWidths l []) (sym (ap rest same ∙ over t u none)) tt)
  widths_from s t u (x ∷ xs) b v (j, first, on) none (m, add, folds) =
      let (d, cut, gives) = turn s j x first in
      let (y, is, one) = added b m x add in
      let (ws, all, spelt) = widths_from j t u xs m v on none folds in
      let width : SpellsWidth d y = subst (Gives d) (sym is) gives in (
        y ∷ ws,
        all ∙ ap (λ l. l ++ ws) one ∙ append_assoc (items b) (y ∷ []) ws,
        subst (λ l. SpellsWidths l (y ∷ ws)) (sym cut) (width, spelt),
      )

  misread_from : (s t : M) (xs : List (Result ℕ LineFault)) (i : ℕ) (fault : LineFault) → Yields steps s xs t → length xs ≡ i + 1 → IsSomeAnd (slice_get xs i) (λ x. Err fault ≡ x) → ((k : ℕ) → k < i → IsSomeAnd (slice_get xs k) (λ x. (y : ℕ) × (Ok y ≡ x))) → MisreadNumbers (rest s) fault
  misread_from s t [] i fault h l last front = absurd (omega arith)
  misread_from s t (x ∷ xs) zero fault (j, first, on) l last front =
      let (d, cut, gives) = turn s j x first in
      subst (λ l. MisreadNumbers l fault) (sym cut) (inl (subst (Gives d) (sym last) gives))
  misread_from s t (x ∷ xs) (suc i) fault (j, first, on) l last front =
      let (d, cut, gives) = turn s j x first in
      let (y, is) = front 0 (omega arith) in
      let width : SpellsWidth d y = subst (Gives d) (sym is) gives in
      subst (λ l. MisreadNumbers l fault) (sym cut) (inr (width.0, misread_from j t xs i fault on (omega arith) last (λ k more. front (suc k) (omega arith))))

  misread_run : (s : M) (p : Run steps) (fault : LineFault) → p.from ≡ s → EndsAtFirstErr p (λ x r. r ≡ x) fault → MisreadNumbers (rest s) fault
  unfolding YieldsRun
  misread_run s p fault from (i, l, last, front) =
      let reads = p.gave.1 in
      subst (λ m. MisreadNumbers (rest m) fault) from (
      misread_from p.from p.gave.0.0 p.items i fault p.gave.0.1 (sym p.long ∙ l)
      (subst (λ o. IsSomeAnd o (λ x. Err fault ≡ x)) (reads i) last)
      (λ k more. subst (λ o. IsSomeAnd o (λ x. (y : ℕ) × (Ok y ≡ x))) (reads k) (front k more))
      )

-- what `try_collect` makes of an iterator over what words give as widths
pub collected : {M V : Type 0} (steps : M → Option (Result ℕ LineFault) → M → Type 0) (adds : V → Result ℕ LineFault → V → Type 0) (Empty : V → Type 0) (Full : LineFault → Type 0) (items : V → List ℕ) (rest : M → List (List ℕ)) (s : M) (r : Result V LineFault) → IfOk r (λ v. (xs : List (Result ℕ LineFault)) × (b : V) × Drains steps s xs × Empty b × FoldsTo adds b xs v) → IfErr r (λ fault. Full fault ⊎ SomeRun steps s (λ p. EndsAtFirstErr p (λ x o. o ≡ x) fault)) → ((s t : M) (x : Result ℕ LineFault) → steps s (Some x) t → (d : List ℕ) × (rest s ≡ d ∷ rest t) × Gives d x) → ((s t : M) → steps s None t → rest s ≡ []) → ((p q : V) (x : Result ℕ LineFault) → adds p x q → (y : ℕ) × (Ok y ≡ x) × (items q ≡ items p ++ (y ∷ []))) → ((b : V) → Empty b → items b ≡ []) → ((fault : LineFault) → Full fault → fault ≡ OutOfMemory) → MatchResult r (λ v. SpellsWidths (rest s) (items v)) (MisreadWidths (rest s))
collected steps adds Empty Full items rest s (Ok v) (xs, b, (u, (t, ys, none)), empty, folds) fails turn over added start full =
    let (ws, all, spelt) = widths_from steps adds items rest turn over added s t u xs b v ys none folds in
    subst (SpellsWidths (rest s)) (sym (all ∙ ap (λ l. l ++ ws) (start b empty))) spelt
collected steps adds Empty Full items rest s (Err fault) fails (inl h) turn over added start full = inl (full fault h)
collected steps adds Empty Full items rest s (Err fault) fails (inr (p, from, ends)) turn over added start full = inr (misread_run steps adds items rest turn over added s p fault from ends)

-- a name, and the words behind it
pub spelled : (command : Command) (words : List (List ℕ)) (w : List ℕ) (ws : List (List ℕ)) (n : Name) → words ≡ w ∷ ws → w ≡ text_of n → SpellsBehind n ws command → (rest : List (List ℕ)) × (words ≡ text_of (name_of command) ∷ rest) × SpellsRest rest command
spelled command words w ws n e f (g, h) = (ws, e ∙ ap (λ l. l ∷ ws) (f ∙ ap text_of (sym g)), h)
