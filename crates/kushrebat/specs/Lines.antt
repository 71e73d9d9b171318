-- The lines of a script and the words of a line, both as bytes. Assumes nothing.
use Rattle.std.specs.Prelude.{◌≡◌, ℕ, Bool, false, cond, ◌||◌, List, [], ◌∷◌, Some, None, Option, ◌==◌}
use Rattle.std.specs.Borrow.{Bor}

-- what stands in front of the first b: all, where there is none
abbrev pub until : ℕ → List ℕ → List ℕ
until b [] = []
until b (c ∷ cs) = cond (c == b) [] (c ∷ until b cs)

-- what stands behind the first b: nothing, where there is none
abbrev pub behind : ℕ → List ℕ → List ℕ
behind b [] = []
behind b (c ∷ cs) = cond (c == b) cs (behind b cs)

-- whether there is a b
abbrev pub has : ℕ → List ℕ → Bool
has b [] = false
has b (c ∷ cs) = c == b || has b cs

-- ## Lines

abbrev pub line_feed : ℕ
line_feed = 10

abbrev pub carriage_return : ℕ
carriage_return = 13

-- a line without the carriage return at its end, if there is one
abbrev pub trimmed : List ℕ → List ℕ
trimmed [] = []
trimmed (c ∷ []) = cond (c == carriage_return) [] (c ∷ [])
trimmed (c ∷ d ∷ cs) = c ∷ trimmed (d ∷ cs)

-- the first line of a script: it ends at a line feed, with or without a carriage return before it; a last line may lack both
abbrev pub first_line : List ℕ → List ℕ
first_line bs = cond (has line_feed bs) (trimmed (until line_feed bs)) bs

-- the next line of a script, and what is left of the script behind it
abbrev pub NextLine : List ℕ → Option (Bor (List ℕ)) → List ℕ → Type 0
NextLine bs None rest = bs ≡ []
NextLine bs (Some line) rest = (line.now ≡ first_line bs) × (rest ≡ behind line_feed bs)

-- ## Words

abbrev pub space : ℕ
space = 32

-- a comment begins with this byte, wherever it stands
abbrev pub comment : ℕ
comment = 35

-- a byte in front of the first of some words
abbrev pub onto : ℕ → List (List ℕ) → List (List ℕ)
onto c [] = (c ∷ []) ∷ []
onto c (w ∷ ws) = (c ∷ w) ∷ ws

-- the words of a byte, which is no space, and the bytes behind it, whose own words are ws
abbrev pub words_with : ℕ → List ℕ → List (List ℕ) → List (List ℕ)
words_with c [] ws = (c ∷ []) ∷ ws
words_with c (d ∷ cs) ws = cond (d == space) ((c ∷ []) ∷ ws) (onto c ws)

-- the words of a line: what stands between spaces
abbrev pub words_of : List ℕ → List (List ℕ)
words_of [] = []
words_of (c ∷ cs) = cond (c == space) (words_of cs) (words_with c cs (words_of cs))
