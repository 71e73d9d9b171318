-- What a chain means: the rows walked from its head; and what one walk finds out about a label. Assumes nothing.
use Rattle.std.specs.Prelude.{◌≡◌, ℕ, ◌-◌, ◌<◌, ◌≤◌, min, List, length, Some, None, Ok, Err, Option, Result}
use Rattle.std.proofs.Common.{arith}
use Rattle.shelf.specs.declared.row.Row.{Row}
use Rattle.shelf.specs.Rows.{most_rows, LawfulRows, rank_of, Sought}
use Rattle.chain.specs.declared.chain.Chain.{Chain}
use Rattle.chain.specs.declared.link.Link.{Link}
use Rattle.chain.specs.declared.vacancy.Vacancy.{Vacancy}
use Rattle.chain.specs.Links.{link_at, slot_at, walked}

abbrev pub chain_rows : Chain → List Row
chain_rows c = walked c.links.now c.head c.len

abbrev pub chain_capacity : Chain → ℕ
chain_capacity c = min (length c.links.now) most_rows

-- what every chain keeps
pub chain_lawful : (c : Chain) → LawfulRows (chain_rows c)
chain_lawful c = record {
  few = let n = c.long in let h = c.few in omega arith;
  rising = c.rising;
}

pub chain_bounded : (c : Chain) → chain_capacity c ≤ most_rows
chain_bounded c = omega arith

-- the slot of the row before the k-th; none is before the first
abbrev pub SlotBefore : List Link → (head k : ℕ) → Option ℕ → Type 0
SlotBefore ls head k None = k ≡ 0
SlotBefore ls head k (Some slot) = (0 < k) × (slot ≡ slot_at ls head (k - 1))

-- a row with the label l would come behind the one in a slot, or before all
abbrev pub ComesBehind : Chain → (l : ℕ) → Option ℕ → Type 0
ComesBehind c l before = SlotBefore c.links.now c.head (rank_of (chain_rows c) l) before

-- what a walk finds out about the label l
abbrev pub Seated : Chain → (l : ℕ) → Result ℕ Vacancy → Type 0
Seated c l (Ok i) = Sought (chain_rows c) l (Ok i)
Seated c l (Err v) = Sought (chain_rows c) l (Err v.index) × ComesBehind c l v.before

-- each row that the chain had is still in its slot; which row it is, its label tells
abbrev pub Stays : (old new : Chain) → Type 0
Stays old new = (slot : ℕ) → slot < old.len → (link_at new.links.now slot).row.label ≡ (link_at old.links.now slot).row.label
