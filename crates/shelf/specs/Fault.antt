-- The refusals of a shelf: their numbers and their names. They carry no value. Assumes nothing.
use Rattle.std.specs.Prelude.{ℕ, List, codes}
use Rattle.shelf.specs.declared.fault.ShelfFault.{ShelfFault}
use Rattle.shelf.specs.declared.fault.ShelfFault.TheVariants.{Held, Full, Index}

abbrev pub number_of : ShelfFault → ℕ
number_of Held = 3
number_of Full = 4
number_of Index = 5

abbrev pub name_of : ShelfFault → List ℕ
name_of Held = codes "HELD"
name_of Full = codes "FULL"
name_of Index = codes "INDEX"
