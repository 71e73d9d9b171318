-- How two labels stand to each other, by their words. Assumes nothing.
use Rattle.std.specs.Prelude.{ℕ, ◌-◌, ◌/◌, ◌%◌, ◌^◌, Bool, cond, ◌&&◌, List, codes, ◌==◌, nat_lt}
use Rattle.label.specs.declared.relation.Relation.{Relation}
use Rattle.label.specs.declared.relation.Relation.TheVariants.{Same, Above, Below, Before, After}

-- a label of m bits with the word a leads one of n bits with the word b: b has more bits, begins with a's, and its next bit is 0
abbrev pub leads : (N m n a b : ℕ) → Bool
leads N m n a b = nat_lt m n && (b / 2 ^ (N - m) == a / 2 ^ (N - m) && b / 2 ^ (N - m - 1) % 2 == 0)

abbrev pub relation_of : (N m n a b : ℕ) → Relation
relation_of N m n a b =
    cond (a == b) Same (cond (leads N m n a b) Above (cond (leads N n m b a) Below (cond (nat_lt a b) Before After)))

-- the word for a relation, as its ASCII bytes
abbrev pub text_of : Relation → List ℕ
text_of Same = codes "same"
text_of Above = codes "above"
text_of Below = codes "below"
text_of Before = codes "before"
text_of After = codes "after"
