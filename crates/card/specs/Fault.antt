-- The number and the name of each card fault.
use Rattle.std.specs.Prelude.{ℕ, List, codes}
use Rattle.card.specs.declared.fault.CardFault.{CardFault}
use Rattle.card.specs.declared.fault.CardFault.TheVariants.{NoCard}

-- 21: a word, or numbers, that make no card
abbrev pub fault_number : CardFault → ℕ
fault_number NoCard = 21

-- the name as its ASCII bytes
abbrev pub fault_name : CardFault → List ℕ
fault_name NoCard = codes "CARD"
