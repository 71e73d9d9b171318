-- A row of a chain that another row with its label stands in for. Assumes nothing.
use Rattle.std.proofs.Common.{◌≡◌, ℕ, zero, suc, ◌<◌, List, length, get_or, set, sym, refl, ap, ◌∙◌, ⊎_elim, arith}
use mathlib.Core.Path.{subst⁻¹}
use Rattle.std.proofs.lemmas.Bool.{cases_eq}
use Rattle.std.proofs.lemmas.List.{length-set, get_or-set_same, get_or-set_other, same_lists}
use Rattle.shelf.specs.declared.row.Row.{Row}
use Rattle.shelf.specs.Rows.{Rising}
use Rattle.shelf.proofs.Edits.{rising_set}
use Rattle.chain.specs.declared.link.Link.{Link}
use Rattle.chain.specs.Links.{link_of, blank_link, link_at, slot_at, walked}
use Rattle.chain.proofs.Walks.{length_walked, slot_suc, get_or_walked, label_walked, slot_once}
use Rattle.chain.proofs.Hooks.{Inside}

module _ (ls : List Link) (h n k p : ℕ) (r : Row) (in_chain : k < n) (here : p ≡ slot_at ls h k) (in_ls : p < length ls) (up : Rising (walked ls h n)) where
  abbrev x : Link
  x = link_of r (link_at ls p).next

  -- every link tells the next as before
  same_next : (s : ℕ) → (link_at (set ls p x) s).next ≡ (link_at ls s).next
  same_next s = ⊎_elim
      (λ e. ap (λ i. (link_at (set ls p x) i).next) e ∙ ap (λ l. l.next) (get_or-set_same ls p x blank_link in_ls) ∙ ap (λ i. (link_at ls i).next) (sym e))
      (λ ne. ap (λ l. l.next) (get_or-set_other ls p s x blank_link ne)) (cases_eq s p)

  same_slot : (j : ℕ) → slot_at (set ls p x) h j ≡ slot_at ls h j
  same_slot zero = refl
  same_slot (suc j) = slot_suc (set ls p x) h j ∙ same_next (slot_at (set ls p x) h j) ∙ ap (λ s. (link_at ls s).next) (same_slot j) ∙ sym (slot_suc ls h j)

  row_at_slot : (j : ℕ) (d : Row) → j < n → get_or (walked (set ls p x) h n) j d ≡ (link_at (set ls p x) (slot_at ls h j)).row
  row_at_slot j d lt = get_or_walked (set ls p x) h n j d lt ∙ ap (λ i. (link_at (set ls p x) i).row) (same_slot j)

  at_k : (j : ℕ) (d : Row) → j < n → j ≡ k → get_or (walked (set ls p x) h n) j d ≡ get_or (set (walked ls h n) k r) j d
  at_k j d lt same =
      let len = length_walked ls h n in
      row_at_slot j d lt ∙ ap (λ i. (link_at (set ls p x) (slot_at ls h i)).row) same ∙ ap (λ i. (link_at (set ls p x) i).row) (sym here)
      ∙ ap (λ l. l.row) (get_or-set_same ls p x blank_link in_ls)
      ∙ sym (ap (λ i. get_or (set (walked ls h n) k r) i d) same ∙ get_or-set_same (walked ls h n) k r d (omega (arith, in_chain)))

  elsewhere : (j : ℕ) (d : Row) → j < n → (j ≡ k → ⊥) → get_or (walked (set ls p x) h n) j d ≡ get_or (set (walked ls h n) k r) j d
  elsewhere j d lt ne =
      row_at_slot j d lt
      ∙ ap (λ l. l.row) (get_or-set_other ls p (slot_at ls h j) x blank_link (λ m. ne (slot_once ls h n j k up lt in_chain (m ∙ here))))
      ∙ sym (get_or-set_other (walked ls h n) k j r d ne ∙ get_or_walked ls h n j d lt)

  pub reset_rows : walked (set ls p x) h n ≡ set (walked ls h n) k r
  reset_rows =
      let a = length_walked ls h n in
      let b = length_walked (set ls p x) h n in
      let l = length-set (walked ls h n) k r in
      same_lists _ _ (omega arith) (λ j d lt. ⊎_elim (at_k j d (omega arith)) (elsewhere j d (omega arith)) (cases_eq j k))

  pub reset_inside : Inside ls h n → Inside (set ls p x) h n
  reset_inside inside j lt = let e = same_slot j in let i = inside j lt in omega arith

  pub reset_rising : r.label ≡ (link_at ls p).row.label → Rising (walked (set ls p x) h n)
  reset_rising same =
      subst⁻¹ Rising reset_rows
      (rising_set (walked ls h n) k r (same ∙ ap (λ s. (link_at ls s).row.label) here ∙ sym (label_walked ls h n k in_chain)) up)
