-- What a walk along links visits. Assumes nothing.
use Rattle.std.proofs.Common.{◌≡◌, ℕ, zero, suc, ◌+◌, ◌-◌, ◌<◌, ◌≤◌, List, length, get_or, Some, None, Ok, Err, Option, sym, refl, ap, ◌∙◌, subst, ⊎_elim, add-one, arith}
use Rattle.std.proofs.lemmas.Bool.{cases_order}
use Rattle.shelf.specs.declared.row.Row.{Row}
use Rattle.shelf.specs.Rows.{blank, row_at, label_at, Rising, rank_of, Sought}
use Rattle.shelf.proofs.Ranks.{cases_eq_lt, absent_is, present_is}
use Rattle.chain.specs.declared.link.Link.{Link}
use Rattle.chain.specs.Links.{link_at, slot_at, walked}
use Rattle.chain.specs.Chains.{SlotBefore}

pub length_walked : (ls : List Link) (slot n : ℕ) → length (walked ls slot n) ≡ n
length_walked ls slot zero = refl
length_walked ls slot (suc n) = ap suc (length_walked ls (link_at ls slot).next n)

pub slot_suc : (ls : List Link) (h j : ℕ) → slot_at ls h (suc j) ≡ (link_at ls (slot_at ls h j)).next
slot_suc ls h zero = refl
slot_suc ls h (suc j) = slot_suc ls (link_at ls h).next j

pub slot_more : (ls : List Link) (h j s : ℕ) → s ≡ slot_at ls h j → (link_at ls s).next ≡ slot_at ls h (j + 1)
slot_more ls h j s e = ap (λ i. (link_at ls i).next) e ∙ sym (slot_suc ls h j) ∙ ap (slot_at ls h) (sym (add-one j))

-- the row at an index is that of its slot
pub get_or_walked : (ls : List Link) (h n j : ℕ) (d : Row) → j < n → get_or (walked ls h n) j d ≡ (link_at ls (slot_at ls h j)).row
get_or_walked ls h zero j d p = absurd (omega arith)
get_or_walked ls h (suc n) zero d p = refl
get_or_walked ls h (suc n) (suc j) d p = get_or_walked ls (link_at ls h).next n j d (omega arith)

pub row_walked : (ls : List Link) (h n j s : ℕ) → s ≡ slot_at ls h j → j < n → row_at (walked ls h n) j ≡ (link_at ls s).row
row_walked ls h n j s e p = get_or_walked ls h n j blank p ∙ ap (λ i. (link_at ls i).row) (sym e)

pub label_walked : (ls : List Link) (h n j : ℕ) → j < n → label_at (walked ls h n) j ≡ (link_at ls (slot_at ls h j)).row.label
label_walked ls h n j p = ap (λ r. r.label) (get_or_walked ls h n j blank p)

-- no slot is visited twice, since labels rise
pub slot_once : (ls : List Link) (h n i j : ℕ) → Rising (walked ls h n) → i < n → j < n → slot_at ls h i ≡ slot_at ls h j → i ≡ j
slot_once ls h n i j up p q e =
    let len = length_walked ls h n in
    let a = label_walked ls h n i p in
    let b = label_walked ls h n j q in
    let same = ap (λ s. (link_at ls s).row.label) e in
    ⊎_elim (λ s. s) (⊎_elim (λ l. let u = up i j l (omega arith) in absurd (omega arith)) (λ g. let u = up j i g (omega arith) in absurd (omega arith))) (cases_order i j)

-- a walk that has passed k rows, all with a label below l, and stands at a slot, with the one before in mind
pub record Passed (ls : List Link) (h n l k slot : ℕ) (before : Option ℕ) : Type 0 where
  pub within : k ≤ n
  pub here : slot ≡ slot_at ls h k
  pub behind : SlotBefore ls h k before
  pub below : (i : ℕ) → i < k → label_at (walked ls h n) i < l

-- a walk that stands at the head has passed no row and has none in mind
pub passed_none : (ls : List Link) (h n l : ℕ) → Passed ls h n l 0 h None
passed_none ls h n l = record {
  within = omega arith;
  here = refl;
  behind = refl;
  below = λ i q. omega arith;
}

module _ (ls : List Link) (h n l k slot : ℕ) (before : Option ℕ) (p : Passed ls h n l k slot before) where
  -- the walk stands at the k-th row
  label_here : k < n → label_at (walked ls h n) k ≡ (link_at ls slot).row.label
  label_here room = label_walked ls h n k room ∙ ap (λ s. (link_at ls s).row.label) (sym p.here)

  pub passed_more : k < n → (link_at ls slot).row.label < l → Passed ls h n l (k + 1) (link_at ls slot).next (Some slot)
  passed_more room lower = record {
    within = omega arith;
    here = slot_more ls h k slot p.here;
    behind = let e : (k + 1) - 1 ≡ k = omega arith in (omega arith, p.here ∙ ap (slot_at ls h) (sym e));
    below = λ i q. ⊎_elim (λ e. rw e (omega (arith, label_here room))) (λ m. p.below i (omega arith)) (cases_eq_lt i k (omega arith));
  }

  -- a row would come behind the one in mind where its rank is k
  seat_behind : k ≡ rank_of (walked ls h n) l → SlotBefore ls h (rank_of (walked ls h n) l) before
  seat_behind e = subst (λ (i : ℕ). SlotBefore ls h i before) e p.behind

  -- no row has the label where the walk has come to the end ..
  pub vacant_past : n ≤ k → Sought (walked ls h n) l (Err n) × SlotBefore ls h (rank_of (walked ls h n) l) before
  vacant_past end =
      let all : k ≡ n = omega (arith, p.within) in
      let len = length_walked ls h n in
      let absent = absent_is (walked ls h n) l k (omega (arith, p.within)) p.below (λ i q m. omega arith) in
      ((absent.0, sym all ∙ absent.1), seat_behind absent.1)

  module _ (up : Rising (walked ls h n)) (room : k < n) where
    -- .. or to a greater label ..
    pub vacant_here : l < (link_at ls slot).row.label → Sought (walked ls h n) l (Err k) × SlotBefore ls h (rank_of (walked ls h n) l) before
    vacant_here upper =
        let len = length_walked ls h n in
        let absent = absent_is (walked ls h n) l k (omega arith) p.below
        (λ i q m. ⊎_elim (λ e. subst (λ (m : ℕ). l < label_at (walked ls h n) m) e (omega (arith, label_here room))) (λ g. let u = up k i g m in omega (arith, label_here room))
        (cases_eq_lt k i q)) in
        (absent, seat_behind absent.1)

    -- .. and one has it where the walk has come to it
    pub held_here : (link_at ls slot).row.label ≡ l → Sought (walked ls h n) l (Ok k)
    held_here same = let len = length_walked ls h n in present_is (walked ls h n) l k up (omega arith) (label_here room ∙ same)
