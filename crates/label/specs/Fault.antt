-- The refusals of a word: their numbers, their names, and the bit that each carries. Assumes nothing.
use Rattle.std.specs.Prelude.{ℕ, List, ◌++◌, codes, decimal}
use Rattle.label.specs.declared.fault.LabelFault.{LabelFault}
use Rattle.label.specs.declared.fault.LabelFault.TheVariants.{Short, Zero}

abbrev pub number_of : LabelFault → ℕ
number_of (Short bit) = 1
number_of (Zero bit) = 2

abbrev pub name_of : LabelFault → List ℕ
name_of (Short bit) = codes "SHORT"
name_of (Zero bit) = codes "ZERO"

-- the first bit of the subvalue at which reading stops
abbrev pub bit_of : LabelFault → ℕ
bit_of (Short bit) = bit
bit_of (Zero bit) = bit

-- the text of a refusal, as its ASCII bytes: `1 SHORT bit 3`
abbrev pub text_of : LabelFault → List ℕ
text_of fault = decimal (number_of fault) ++ (codes " " ++ (name_of fault ++ (codes " bit " ++ decimal (bit_of fault))))
