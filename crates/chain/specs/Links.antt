-- Links in memory, and the list of rows that a walk along them visits. Assumes nothing.
use Rattle.std.specs.Prelude.{ℕ, zero, suc, List, [], ◌∷◌, slice_index_or}
use Rattle.shelf.specs.declared.row.Row.{Row}
use Rattle.shelf.specs.Rows.{blank}
use Rattle.chain.specs.declared.link.Link.{Link}

abbrev pub link_of : Row → (next : ℕ) → Link
link_of r n = record { row = r; next = n }

-- the link in a slot; past the end, where no fact asks for one, a blank link stands in
abbrev pub blank_link : Link
blank_link = link_of blank 0

abbrev pub link_at : List Link → (slot : ℕ) → Link
link_at ls slot = slice_index_or ls slot blank_link

-- the slot after j steps from the one given
abbrev pub slot_at : List Link → (slot j : ℕ) → ℕ
slot_at ls slot zero = slot
slot_at ls slot (suc j) = slot_at ls (link_at ls slot).next j

-- the rows of n links, from the slot given on
abbrev pub walked : List Link → (slot n : ℕ) → List Row
walked ls slot zero = []
walked ls slot (suc n) = (link_at ls slot).row ∷ walked ls (link_at ls slot).next n
