-- The words for how it stands with a place. Assumes nothing.
use Rattle.std.specs.Prelude.{ℕ, List, codes}
use Rattle.shelf.specs.declared.row.State.{State}
use Rattle.shelf.specs.declared.row.State.TheVariants.{Opened, Filled, Struck}

-- the word for a state, as its ASCII bytes
abbrev pub text_of : State → List ℕ
text_of Opened = codes "opened"
text_of Filled = codes "filled"
text_of Struck = codes "struck"
