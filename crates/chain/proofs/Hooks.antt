-- A link hooked into a chain is a row inserted into its list. Assumes nothing.
use Rattle.std.proofs.Common.{◌≡◌, ℕ, zero, suc, ◌+◌, ◌-◌, ◌<◌, ◌≤◌, ◌≢◌, ◌⊎◌, List, length, get_or, set, Some, None, Option, sym, refl, ap, ◌∙◌, subst, inl, inr, ⊎_elim, add-one, arith}
use mathlib.Core.Path.{subst⁻¹}
use Rattle.std.specs.List.{insert}
use Rattle.std.proofs.lemmas.Bool.{cases_lt, cases_eq}
use Rattle.std.proofs.lemmas.List.{length-set, get_or-set_same, get_or-set_other, same_lists}
use Rattle.std.proofs.lemmas.List.Edits.{length-insert}
use Rattle.shelf.specs.declared.row.Row.{Row}
use Rattle.shelf.specs.Rows.{Rising, rank_of, Absent}
use Rattle.shelf.proofs.Edits.{rising_with_row}
use Rattle.shelf.proofs.Inserted.{At, low, here, high, at}
use Rattle.shelf.proofs.Ranks.{cases_eq_lt, rank_le}
use Rattle.chain.specs.declared.link.Link.{Link}
use Rattle.chain.specs.Links.{link_of, blank_link, link_at, slot_at, walked}
use Rattle.chain.specs.declared.chain.Chain.{Chain}
use Rattle.chain.specs.Chains.{SlotBefore, ComesBehind}
use Rattle.chain.proofs.Walks.{length_walked, slot_suc, get_or_walked, slot_once}

-- all slots of a walk of n steps are below n
abbrev pub Inside : List Link → (h n : ℕ) → Type 0
Inside ls h n = (j : ℕ) → j < n → slot_at ls h j < n

-- the chain ls from h, of n links, becomes ls' from h' by the row r at the index k, in slot n
pub record Hooked (ls : List Link) (h : ℕ) (ls' : List Link) (h' n k : ℕ) (r : Row) : Type 0 where
  pub within : k ≤ n
  pub inside : Inside ls h n
  pub same_row : (s : ℕ) → s < n → (link_at ls' s).row ≡ (link_at ls s).row
  pub new_row : (link_at ls' n).row ≡ r
  pub before : (j : ℕ) → j < k → slot_at ls' h' j ≡ slot_at ls h j
  pub new : slot_at ls' h' k ≡ n
  pub behind : (j : ℕ) → k ≤ j → j < n → slot_at ls' h' (suc j) ≡ slot_at ls h j

module _ (ls : List Link) (h : ℕ) (ls' : List Link) (h' n k : ℕ) (r : Row) (hook : Hooked ls h ls' h' n k r) where
  row_of_slot : (s t : ℕ) → s ≡ t → t < n → (link_at ls' s).row ≡ (link_at ls t).row
  row_of_slot s t e p = ap (λ x. (link_at ls' x).row) e ∙ hook.same_row t p

  placed : (i : ℕ) (d : Row) → i < n + 1 → At (walked ls h n) k r i d → get_or (walked ls' h' (n + 1)) i d ≡ get_or (insert (walked ls h n) k r) i d
  placed i d p (low q e) =
      get_or_walked ls' h' (n + 1) i d p ∙ row_of_slot _ _ (hook.before i q) (hook.inside i (omega (arith, hook.within)))
      ∙ sym (e ∙ get_or_walked ls h n i d (omega (arith, hook.within)))
  placed i d p (here q e) =
      get_or_walked ls' h' (n + 1) i d p ∙ ap (λ j. (link_at ls' (slot_at ls' h' j)).row) q ∙ ap (λ s. (link_at ls' s).row) hook.new ∙ hook.new_row ∙ sym e
  placed i d p (high j q s e) =
      get_or_walked ls' h' (n + 1) i d p ∙ ap (λ m. (link_at ls' (slot_at ls' h' m)).row) (s ∙ add-one j)
      ∙ row_of_slot _ _ (hook.behind j q (omega arith)) (hook.inside j (omega arith)) ∙ sym (e ∙ get_or_walked ls h n j d (omega arith))

  pub hooked_rows : walked ls' h' (n + 1) ≡ insert (walked ls h n) k r
  hooked_rows =
      let old = length_walked ls h n in
      let new = length_walked ls' h' (n + 1) in
      let le : k ≤ length (walked ls h n) = omega (arith, hook.within) in
      let more = length-insert (walked ls h n) k r le in
      same_lists _ _ (omega arith) (λ i d p. placed i d (omega arith) (at (walked ls h n) k r i d le))

  inside_at : (j : ℕ) → j < n + 1 → (j < k) ⊎ (k ≤ j) → slot_at ls' h' j < n + 1
  inside_at j p (inl q) = let i = hook.inside j (omega (arith, hook.within)) in let e = hook.before j q in omega arith
  inside_at zero p (inr q) = let e = hook.new in let z : k ≡ 0 = omega arith in let f = ap (slot_at ls' h') z in omega arith
  inside_at (suc j) p (inr q) =
      ⊎_elim (λ e. let f = ap (slot_at ls' h') e in let g = hook.new in omega arith)
      (λ l. let i = hook.inside j (omega arith) in let e = hook.behind j (omega arith) (omega arith) in omega arith) (cases_eq_lt k (suc j) q)

  pub hooked_inside : Inside ls' h' (n + 1)
  hooked_inside j p = inside_at j p (cases_lt j k)

-- a row hooked in at its rank is a row put
pub hooked_rising : (ls : List Link) (h : ℕ) (ls' : List Link) (h' n : ℕ) (r : Row) → Hooked ls h ls' h' n (rank_of (walked ls h n) r.label) r
    → Rising (walked ls h n) → Absent (walked ls h n) r.label → Rising (walked ls' h' (n + 1))
hooked_rising ls h ls' h' n r hook up absent =
    subst⁻¹ Rising (hooked_rows ls h ls' h' n (rank_of (walked ls h n) r.label) r hook) (rising_with_row (walked ls h n) r up absent)

link_set_other : (ls : List Link) (i s : ℕ) (x : Link) → s ≢ i → link_at (set ls i x) s ≡ link_at ls s
link_set_other ls i s x ne = get_or-set_other ls i s x blank_link ne

link_set_same : (ls : List Link) (i : ℕ) (x : Link) → i < length ls → link_at (set ls i x) i ≡ x
link_set_same ls i x p = get_or-set_same ls i x blank_link p

-- a link in a slot that is not visited changes no walk ..
unvisited : (ls : List Link) (h n i : ℕ) (x : Link) → ((j : ℕ) → j < n → slot_at ls h j ≢ i) → (j : ℕ) → j ≤ n → slot_at (set ls i x) h j ≡ slot_at ls h j
unvisited ls h n i x away zero p = refl
unvisited ls h n i x away (suc j) p =
    slot_suc (set ls i x) h j
    ∙ ap (λ s. (link_at (set ls i x) s).next) (unvisited ls h n i x away j (omega arith))
    ∙ ap (λ l. l.next) (link_set_other ls i (slot_at ls h j) x (away j (omega arith)))
    ∙ sym (slot_suc ls h j)

-- .. as one in the first free slot
away : (ls : List Link) (h n : ℕ) → Inside ls h n → (j : ℕ) → j < n → slot_at ls h j ≢ n
away ls h n inside j p = let lt = inside j p in omega arith

module _ (ls : List Link) (h n : ℕ) (x : Link) (inside : Inside ls h n) where
  -- a link in the first free slot leaves the rows as they were
  pub walked_free : walked (set ls n x) h n ≡ walked ls h n
  walked_free =
      let old = length_walked ls h n in
      let new = length_walked (set ls n x) h n in
      same_lists _ _ (omega arith) (λ j d p.
      get_or_walked (set ls n x) h n j d (omega arith)
      ∙ ap (λ s. (link_at (set ls n x) s).row) (unvisited ls h n n x (away ls h n inside) j (omega arith))
      ∙ ap (λ l. l.row) (link_set_other ls n (slot_at ls h j) x (away ls h n inside j (omega arith)))
      ∙ sym (get_or_walked ls h n j d (omega arith)))

  -- with a link in the first free slot all slots of the walk stay below it
  pub inside_free : Inside (set ls n x) h n
  inside_free j p = let e = unvisited ls h n n x (away ls h n inside) j (omega arith) in let lt = inside j p in omega arith

hooked_first : (ls : List Link) (h n : ℕ) (r : Row) → n < length ls → Inside ls h n → Hooked ls h (set ls n (link_of r h)) n n 0 r
hooked_first ls h n r room inside = record {
  within = omega arith;
  inside = inside;
  same_row = λ s p. ap (λ l. l.row) (link_set_other ls n s (link_of r h) (omega arith));
  new_row = ap (λ l. l.row) new_link;
  before = λ j p. absurd (omega arith);
  new = refl;
  behind = λ j q p.
      ap (λ l. slot_at (set ls n (link_of r h)) l.next j) new_link
      ∙ unvisited ls h n n (link_of r h) (away ls h n inside) j (omega arith);
} where
  new_link : link_at (set ls n (link_of r h)) n ≡ link_of r h
  new_link = link_set_same ls n (link_of r h) room

-- the links after a row is hooked in, in slot n, behind the one in slot p
abbrev pub hooked_links : List Link → (n p : ℕ) → Row → List Link
hooked_links ls n p r = set (set ls p (link_of (link_at ls p).row n)) n (link_of r (link_at ls p).next)

module _ (ls : List Link) (h n k : ℕ) (r : Row) (room : n < length ls) (in_chain : k < n) (up : Rising (walked ls h n)) (inside : Inside ls h n) where
  abbrev p : ℕ
  p = slot_at ls h k

  abbrev hung : Link
  hung = link_of r (link_at ls p).next

  abbrev bent : Link
  bent = link_of (link_at ls p).row n

  abbrev ls' : List Link
  ls' = hooked_links ls n p r

  p_inside : p < n
  p_inside = inside k in_chain

  at_new : link_at ls' n ≡ hung
  at_new = link_set_same (set ls p bent) n hung (simp length-set room)

  at_bent : link_at ls' p ≡ bent
  at_bent = link_set_other (set ls p bent) n p hung (omega (arith, p_inside)) ∙ link_set_same ls p bent (omega (arith, p_inside))

  at_other : (s : ℕ) → s < n → s ≢ p → link_at ls' s ≡ link_at ls s
  at_other s lt ne = link_set_other (set ls p bent) n s hung (omega arith) ∙ link_set_other ls p s bent ne

  same_row : (s : ℕ) → s < n → (link_at ls' s).row ≡ (link_at ls s).row
  same_row s lt = ⊎_elim (λ e. ap (λ x. (link_at ls' x).row) e ∙ ap (λ l. l.row) at_bent
      ∙ ap (λ x. (link_at ls x).row) (sym e))
      (λ ne. ap (λ l. l.row) (at_other s lt ne)) (cases_eq s p)

  -- one step on from a visited slot that is not p
  step : (j : ℕ) → j < n → j ≢ k → (link_at ls' (slot_at ls h j)).next ≡ slot_at ls h (suc j)
  step j lt ne =
      ap (λ l. l.next) (at_other (slot_at ls h j) (inside j lt) (λ e. ne (slot_once ls h n j k up lt in_chain e))) ∙ sym (slot_suc ls h j)

  before : (j : ℕ) → j < suc k → slot_at ls' h j ≡ slot_at ls h j
  before zero lt = refl
  before (suc j) lt =
      slot_suc ls' h j ∙ ap (λ s. (link_at ls' s).next) (before j (omega arith)) ∙ step j (omega (arith, in_chain)) (omega arith)

  new : slot_at ls' h (suc k) ≡ n
  new = slot_suc ls' h k ∙ ap (λ s. (link_at ls' s).next) (before k (omega arith)) ∙ ap (λ l. l.next) at_bent

  behind : (j : ℕ) → suc k ≤ j → j < n → slot_at ls' h (suc j) ≡ slot_at ls h j
  behind zero le lt = absurd (omega arith)
  behind (suc j) le lt =
      slot_suc ls' h (suc j)
      ∙ ⊎_elim
      (λ e. ap (λ i. (link_at ls' (slot_at ls' h (suc i))).next) e ∙ ap (λ s. (link_at ls' s).next) new ∙ ap (λ l. l.next) at_new
      ∙ sym (slot_suc ls h k) ∙ ap (λ i. slot_at ls h (suc i)) (sym e))
      (λ ne. ap (λ s. (link_at ls' s).next) (behind j (omega arith) (omega arith)) ∙ step j (omega arith) ne)
      (cases_eq j k)

  hooked_behind : Hooked ls h ls' h n (suc k) r
  hooked_behind = record {
    within = in_chain;
    inside = inside;
    same_row = same_row;
    new_row = ap (λ l. l.row) at_new;
    before = before;
    new = new;
    behind = behind;
  }

-- the row behind which another comes is in use
pub behind_inside : (ls : List Link) (h n : ℕ) (r : Row) → Inside ls h n → (p : ℕ) → SlotBefore ls h (rank_of (walked ls h n) r.label) (Some p) → p < n
behind_inside ls h n r inside p e =
    let le = rank_le (walked ls h n) r.label in
    let len = length_walked ls h n in
    let lt = inside (rank_of (walked ls h n) r.label - 1) (omega (arith, e.0)) in
    omega (arith, e.1)

-- .. so is that of a chain
pub comes_inside : (c : Chain) (r : Row) (before : Option ℕ) (p : ℕ) → before ≡ Some p → ComesBehind c r.label before → p < c.len
comes_inside c r before p e behind =
    behind_inside c.links.now c.head c.len r c.inside p (subst (ComesBehind c r.label) e behind)

-- what a row hooked in at its rank makes of the chain
module _ (ls : List Link) (h n : ℕ) (r : Row) (room : n < length ls) (inside : Inside ls h n) where
  pub first_hooked : SlotBefore ls h (rank_of (walked ls h n) r.label) None
      → Hooked ls h (set ls n (link_of r h)) n n (rank_of (walked ls h n) r.label) r
  first_hooked e = subst⁻¹ (λ (k : ℕ). Hooked ls h (set ls n (link_of r h)) n n k r) e (hooked_first ls h n r room inside)

  pub behind_hooked : (p : ℕ) → Rising (walked ls h n) → SlotBefore ls h (rank_of (walked ls h n) r.label) (Some p)
      → Hooked ls h (hooked_links ls n p r) h n (rank_of (walked ls h n) r.label) r
  behind_hooked p up e =
      let k : ℕ = rank_of (walked ls h n) r.label in
      let le = rank_le (walked ls h n) r.label in
      let len = length_walked ls h n in
      let one_less : suc (k - 1) ≡ k = omega (arith, e.0) in
      subst (λ (m : ℕ). Hooked ls h (hooked_links ls n p r) h n m r) one_less
      (subst⁻¹ (λ (s : ℕ). Hooked ls h (hooked_links ls n s r) h n (suc (k - 1)) r) e.1
      (hooked_behind ls h n (k - 1) r room (omega (arith, e.0)) up inside))
