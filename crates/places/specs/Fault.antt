-- The refusals of the calls on a sheet: their numbers and their names. A shelf's or a card's refusal comes up whole, with its own. Assumes nothing.
use Rattle.std.specs.Prelude.{ℕ, List, codes}
use Rattle.shelf.specs.Fault as shelf
use Rattle.card.specs.Fault as card
use Rattle.laws.specs.Numbers as numbers
use Rattle.places.specs.declared.fault.SheetFault.{SheetFault}
use Rattle.places.specs.declared.fault.SheetFault.TheVariants.{Unlaid, Laid, Unknown, Head, Unfilled, NotBare, NoPlace, NotOpen, Turn, Permit, Shelf, Card}

abbrev pub number_of : SheetFault → ℕ
number_of Unlaid = numbers.UNLAID
number_of Laid = numbers.LAID
number_of Unknown = numbers.UNKNOWN
number_of Head = numbers.HEAD
number_of Unfilled = numbers.UNFILLED
number_of NotBare = numbers.NOT_BARE
number_of NoPlace = numbers.NO_PLACE
number_of NotOpen = numbers.NOT_OPEN
number_of Turn = numbers.TURN
number_of Permit = numbers.PERMIT
number_of (Shelf fault) = shelf.number_of fault
number_of (Card fault) = card.fault_number fault

abbrev pub name_of : SheetFault → List ℕ
name_of Unlaid = codes "UNLAID"
name_of Laid = codes "LAID"
name_of Unknown = codes "UNKNOWN"
name_of Head = codes "HEAD"
name_of Unfilled = codes "UNFILLED"
name_of NotBare = codes "NOT BARE"
name_of NoPlace = codes "NO PLACE"
name_of NotOpen = codes "NOT OPEN"
name_of Turn = codes "TURN"
name_of Permit = codes "PERMIT"
name_of (Shelf fault) = shelf.name_of fault
name_of (Card fault) = card.fault_name fault
