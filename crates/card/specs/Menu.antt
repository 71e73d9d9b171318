-- Menu cards and their words.
use Rattle.std.specs.Prelude.{◌≡◌, ℕ, ◌+◌, ◌*◌, ◌/◌, ◌%◌, ◌^◌, ◌≤◌, Bool, true, false, List, ◌++◌, Some, None, codes, decimal, Option, nat_le, refl}
use Rattle.card.specs.Bounds.{both, bounded}
use Rattle.card.specs.declared.bounded.Bounded.{Bounded}
use Rattle.card.specs.declared.menu.MenuCard.{MenuCard}
use Rattle.std.proofs.lemmas.Bool.{leb-true}
use Rattle.std.specs.Option.{option_flatten}

-- the word of three numbers
abbrev pub packed : (start length action : ℕ) → ℕ
packed start length action = start * 2 ^ 32 + length * 2 ^ 16 + action

-- the word of a card
abbrev pub code : MenuCard → ℕ
code c = packed c.start c.length.value c.action.value

-- three numbers that make a card
pub record Lawful (start length action : ℕ) : Type 0 where
  pub some : 1 ≤ length
  pub short : length ≤ 24
  pub inside : start + length ≤ 65535
  pub known : action ≤ 999

-- w is the word of a lawful card
pub record LawfulWord (w : ℕ) : Type 0 where
  pub start : ℕ
  pub length : ℕ
  pub action : ℕ
  pub lawful : Lawful start length action
  pub word : w ≡ start * 2 ^ 32 + length * 2 ^ 16 + action

-- what the answer b to the test of start and length makes: where it is true, the card with the proof
abbrev pub placed_by : (start : ℕ) (l : Bounded 1 24) (a : Bounded 0 999) (b : Bool) → nat_le (start + l.value) 65535 ≡ b → Option MenuCard
placed_by start l a true e = Some (record { start = start; length = l; action = a; ok = leb-true (start + l.value) 65535 e })
placed_by start l a false e = None

-- the card with a caption of that length at that start, if the two are at most 65535 together
abbrev pub placed : (start : ℕ) → Bounded 1 24 → Bounded 0 999 → Option MenuCard
placed start l a = placed_by start l a (nat_le (start + l.value) 65535) refl

-- the card that three numbers make, if any
abbrev pub menu_of : (start length action : ℕ) → Option MenuCard
menu_of start length action = option_flatten (both (placed start) (bounded 1 24 length) (bounded 0 999 action))

-- the card that a word makes, if any
abbrev pub decode : ℕ → Option MenuCard
decode word = menu_of (word / 2 ^ 32) (word / 2 ^ 16 % 2 ^ 16) (word % 2 ^ 16)

-- the text of a card, as its ASCII bytes
abbrev pub written : MenuCard → List ℕ
written c = codes "menu " ++ (decimal c.start ++ (codes " " ++ (decimal c.length.value ++ (codes " " ++ decimal c.action.value))))
