-- Rows that are copied up by one slot, and a row in the slot that this frees. Assumes nothing.
use Rattle.std.proofs.Common.{◌≡◌, ℕ, suc, ◌+◌, ◌-◌, ◌<◌, ◌≤◌, ◌≢◌, List, ◌∷◌, ◌++◌, length, get_or, take, drop, set, sym, refl, ap, ◌∙◌, ⊎_elim, arith}
use Rattle.std.specs.List.{insert, copy_within}
use Rattle.std.proofs.lemmas.Bool.{cases_eq}
use Rattle.std.proofs.lemmas.List.{append_assoc, set_split, take-take, take-append-le, drop-take, drop_at, length-set, length-take-le, length-drop, length-append, get_or_default, get_or-set_same, get_or-set_other, get_or-take, get_or-drop, same_lists}
use Rattle.std.proofs.lemmas.List.Edits.{length-insert, length-paste}
use Rattle.shelf.proofs.Inserted.{At, low, here, high, at}

module _ {X : Type 0} where
  -- xs is old with the elements from gap to len one slot up
  pub record Moved (old xs : List X) (gap len : ℕ) : Type 0 where
    pub within : gap ≤ len
    pub before : (k : ℕ) (d : X) → k < gap → get_or xs k d ≡ get_or old k d
    pub behind : (k : ℕ) (d : X) → gap ≤ k → k < len → get_or xs (k + 1) d ≡ get_or old k d
    pub past : (k : ℕ) (d : X) → len < k → get_or xs k d ≡ get_or old k d

  -- in old itself no element has moved, and the gap is at len
  pub moved_none : (old : List X) (len : ℕ) → Moved old old len len
  moved_none old len = record {
    within = omega arith;
    before = λ k d h. refl;
    behind = λ k d h m. absurd (omega arith);
    past = λ k d h. refl;
  }

  -- the element below the gap moves up into it
  pub moved_more : (old xs : List X) (gap len : ℕ) (d : X) → 0 < gap → len < length xs → Moved old xs gap len
      → Moved old (set xs gap (get_or xs (gap - 1) d)) (gap - 1) len
  moved_more old xs gap len d pos room m = record {
    within = omega (arith, m.within);
    before = λ k e h. let ne : k ≢ gap = omega arith in get_or-set_other xs gap k (get_or xs (gap - 1) d) e ne ∙ m.before k e (omega arith);
    behind = λ k e p q. ⊎_elim (here_moved k e) (there_moved k e p q) (cases_eq (k + 1) gap);
    past = λ k e h. let ne : k ≢ gap = omega (arith, m.within) in get_or-set_other xs gap k (get_or xs (gap - 1) d) e ne ∙ m.past k e h;
  } where
    here_moved : (k : ℕ) (e : X) → k + 1 ≡ gap → get_or (set xs gap (get_or xs (gap - 1) d)) (k + 1) e ≡ get_or old k e
    here_moved k e s =
        let k-is : gap - 1 ≡ k = omega arith in
        ap (λ n. get_or (set xs gap (get_or xs (gap - 1) d)) n e) s ∙ get_or-set_same xs gap (get_or xs (gap - 1) d) e (omega (arith, m.within))
        ∙ get_or_default xs (gap - 1) d e (omega (arith, m.within)) ∙ m.before (gap - 1) e (omega arith) ∙ ap (λ n. get_or old n e) k-is

    there_moved : (k : ℕ) (e : X) → gap - 1 ≤ k → k < len → (k + 1 ≡ gap → ⊥) → get_or (set xs gap (get_or xs (gap - 1) d)) (k + 1) e ≡ get_or old k e
    there_moved k e p q ne = get_or-set_other xs gap (k + 1) (get_or xs (gap - 1) d) e ne ∙ m.behind k e (omega arith) q

  -- the slot that is free then takes y
  pub moved_all : (old xs : List X) (at' len : ℕ) (y : X) → len < length old → length xs ≡ length old → Moved old xs at' len
      → take (len + 1) (set xs at' y) ≡ insert (take len old) at' y
  moved_all old xs n len y room same m = same_lists _ _ lengths (λ k d h. placed k d (omega (arith, front)) (at (take len old) n y k d le)) where
    front : length (take (len + 1) (set xs n y)) ≡ len + 1
    front = length-take-le (len + 1) (set xs n y) (omega (arith, length-set xs n y))

    le : n ≤ length (take len old)
    le = omega (arith, m.within, length-take-le len old (omega arith))

    lengths : length (take (len + 1) (set xs n y)) ≡ length (insert (take len old) n y)
    lengths = omega (arith, front, length-insert (take len old) n y le, length-take-le len old (omega arith))

    placed : (k : ℕ) (d : X) → k < len + 1 → At (take len old) n y k d → get_or (take (len + 1) (set xs n y)) k d ≡ get_or (insert (take len old) n y) k d
    placed k d h (low p e) =
        get_or-take (len + 1) (set xs n y) k d h ∙ get_or-set_other xs n k y d (omega arith) ∙ m.before k d p
        ∙ sym (e ∙ get_or-take len old k d (omega (arith, m.within)))
    placed k d h (here p e) =
        get_or-take (len + 1) (set xs n y) k d h ∙ ap (λ i. get_or (set xs n y) i d) p ∙ get_or-set_same xs n y d (omega (arith, m.within)) ∙ sym e
    placed k d h (high j p s e) =
        get_or-take (len + 1) (set xs n y) k d h ∙ get_or-set_other xs n k y d (omega arith) ∙ ap (λ i. get_or xs i d) s
        ∙ m.behind j d p (omega arith) ∙ sym (e ∙ get_or-take len old j d (omega arith))

  -- the elements past len stay where they are
  pub moved_rest : (old xs : List X) (n len : ℕ) (y : X) → length xs ≡ length old → Moved old xs n len
      → drop (len + 1) (set xs n y) ≡ drop (len + 1) old
  moved_rest old xs n len y same m =
      same_lists _ _ (simp (length-drop, length-set) (omega arith))
      (λ k d h. get_or-drop (len + 1) (set xs n y) k d ∙ get_or-set_other xs n (len + 1 + k) y d (omega (arith, m.within))
      ∙ m.past (len + 1 + k) d (omega arith) ∙ sym (get_or-drop (len + 1) old k d))

module _ {X : Type 0} (old : List X) (n len : ℕ) (y : X) (le : n ≤ len) (room : len < length old) where
  abbrev front : List X
  front = take (n + 1) old

  -- the elements that move, and those behind them
  abbrev up : List X
  up = take (len - n) (drop n old)

  abbrev rest : List X
  rest = drop (n + 1 + (len - n)) old

  long : length front ≡ n + 1
  long = length-take-le (n + 1) old (omega arith)

  before : take n (front ++ up ++ rest) ≡ take n old
  before =
      take-append-le n (front ++ up) rest (omega (arith, long, length-append front up)) ∙ take-append-le n front up (omega (arith, long))
      ∙ take-take n (n + 1) old (omega arith)

  behind : drop (suc n) (front ++ up ++ rest) ≡ up ++ rest
  behind = ap (drop (suc n)) (append_assoc front up rest) ∙ drop_at front (up ++ rest) (suc n) (omega (arith, long))

  moved_long : n < length (front ++ up ++ rest)
  moved_long = omega (arith, room, length-paste old (n + 1) (drop n old) (len - n) (omega arith) (simp length-drop (omega arith)))

  whole : n + (len - n) ≡ len
  whole = omega arith

  inserted : insert (take len old) n y ≡ take n old ++ y ∷ up
  inserted = ap (λ xs. xs ++ y ∷ drop n (take len old)) (take-take n len old le)
      ∙ ap (λ xs. take n old ++ y ∷ xs) (ap (λ m. drop n (take m old)) (sym whole) ∙ drop-take n (len - n) old)

  -- what is left is an insertion among the first len
  pub inserted_by_copy : set (copy_within old n len (n + 1)) n y ≡ insert (take len old) n y ++ drop (len + 1) old
  inserted_by_copy =
      let end : n + 1 + (len - n) ≡ len + 1 = omega arith in
      set_split (front ++ up ++ rest) n y moved_long
      ∙ ap (λ xs. xs ++ y ∷ drop (suc n) (front ++ up ++ rest)) before
      ∙ ap (λ xs. take n old ++ y ∷ xs) behind
      ∙ sym (append_assoc (take n old) (y ∷ up) rest)
      ∙ ap (λ xs. xs ++ rest) (sym inserted)
      ∙ ap (λ m. insert (take len old) n y ++ drop m old) end
