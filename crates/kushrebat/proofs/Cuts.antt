-- Cutting bytes at the first place of a byte. Assumes nothing.
use Rattle.std.proofs.Common.{◌≡◌, ℕ, zero, suc, ◌+◌, ◌<◌, ◌≤◌, true, false, ◌||◌, eqb, inl, inr, List, [], ◌∷◌, ◌++◌, length, get_or, take, drop, sym, refl, ap, ◌∙◌, add-zero, arith, length-drop, get_or-drop, eq-eqb, ◌≢◌, Some, None, Option, Bor, unwrap_or, min, subst, append_assoc, length-append}
use Rattle.std.specs.Option.{MatchOption}
use Rattle.std.proofs.lemmas.Bool.{cond-true, cond-false, ne_eqb, cases_lt}
use Rattle.std.proofs.lemmas.List.{nil_from_length}
use Rattle.std.proofs.Math.Seq.{drop-append_seam, take-append_seam, get_or-append_seam}
use Rattle.kushrebat.specs.Lines.{until, behind, has, trimmed, line_feed, carriage_return, first_line, space, onto, words_of}
use Rattle.kushrebat.specs.Places.{First}

-- ## Places

-- bs begins with n bytes b, and no more
pub record Run (b : ℕ) (bs : List ℕ) (n : ℕ) : Type 0 where
  pub within : n ≤ length bs
  pub all : (k : ℕ) → k < n → get_or bs k 0 ≡ b
  pub stops : n < length bs → get_or bs n 0 ≢ b

-- ## One byte less

first_rest : (b c : ℕ) (cs : List ℕ) (n : ℕ) → First b (c ∷ cs) (suc n) → First b cs n
first_rest b c cs n h =
    record { within = omega (arith, h.within); before = λ k l. h.before (suc k) (omega arith); found = λ l. h.found (omega arith) }

run_rest : (b c : ℕ) (cs : List ℕ) (n : ℕ) → Run b (c ∷ cs) (suc n) → Run b cs n
run_rest b c cs n h =
    record { within = omega (arith, h.within); all = λ k l. h.all (suc k) (omega arith); stops = λ l. h.stops (omega arith) }

-- ## The cut at the first b

pub take_first : (b : ℕ) (bs : List ℕ) (n : ℕ) → First b bs n → take n bs ≡ until b bs
take_first b [] zero h = refl
take_first b [] (suc n) h = refl
take_first b (c ∷ cs) zero h = sym (cond-true (eqb c b) _ _ (eq-eqb c b (h.found (omega arith))))
take_first b (c ∷ cs) (suc n) h =
    ap (λ r. c ∷ r) (take_first b cs n (first_rest b c cs n h)) ∙ sym (cond-false (eqb c b) _ _ (ne_eqb c b (h.before 0 (omega arith))))

-- where the cut leaves bytes, there is a b, and all but the first of them are those behind it
pub drop_first : (b : ℕ) (bs : List ℕ) (n d : ℕ) (rest : List ℕ) → First b bs n → drop n bs ≡ d ∷ rest → (behind b bs ≡ rest) × (has b bs ≡ true)
drop_first b [] zero d rest h e = absurd (omega (arith, ap length e))
drop_first b [] (suc n) d rest h e = absurd (omega (arith, ap length e))
drop_first b (c ∷ cs) zero d rest h e =
    let is = eq-eqb c b (h.found (omega arith)) in
    let same : cs ≡ rest = cc in
    (cond-true (eqb c b) _ _ is ∙ same, ap (λ t. t || has b cs) is)
drop_first b (c ∷ cs) (suc n) d rest h e =
    let not = ne_eqb c b (h.before 0 (omega arith)) in
    let (cut, there) = drop_first b cs n d rest (first_rest b c cs n h) e in
    (cond-false (eqb c b) _ _ not ∙ cut, ap (λ t. t || has b cs) not ∙ there)

-- where the cut leaves none, there is no b: all bytes stand before the cut, and none behind it
pub drop_none : (b : ℕ) (bs : List ℕ) (n : ℕ) → First b bs n → drop n bs ≡ [] → (take n bs ≡ bs) × (behind b bs ≡ []) × (has b bs ≡ false)
drop_none b [] zero h e = (refl, refl, refl)
drop_none b [] (suc n) h e = (refl, refl, refl)
drop_none b (c ∷ cs) zero h e = absurd (omega (arith, ap length e))
drop_none b (c ∷ cs) (suc n) h e =
    let not = ne_eqb c b (h.before 0 (omega arith)) in
    let (all, none, away) = drop_none b cs n (first_rest b c cs n h) e in
    (ap (λ r. c ∷ r) all, cond-false (eqb c b) _ _ not ∙ none, ap (λ t. t || has b cs) not ∙ away)

-- ## The end of a line

trimmed_return : (bs : List ℕ) → trimmed (bs ++ (carriage_return ∷ [])) ≡ bs
trimmed_return [] = refl
trimmed_return (b ∷ []) = ap (λ r. b ∷ r) (trimmed_return [])
trimmed_return (b ∷ d ∷ bs) = ap (λ r. b ∷ r) (trimmed_return (d ∷ bs))

trimmed_other : (bs : List ℕ) → ((front : List ℕ) → bs ≢ front ++ (carriage_return ∷ [])) → bs ≡ trimmed bs
trimmed_other [] h = refl
trimmed_other (c ∷ []) h = sym (cond-false (eqb c carriage_return) _ _ (ne_eqb c carriage_return (λ e. h [] (ap (λ k. k ∷ []) e))))
trimmed_other (c ∷ d ∷ bs) h = ap (λ r. c ∷ r) (trimmed_other (d ∷ bs) (λ front e. h (c ∷ front) (ap (λ r. c ∷ r) e)))

-- a carriage return is stripped off, where there is one
pub stripped : (line out : Bor (List ℕ)) (r : Option (Bor (List ℕ))) → MatchOption r ((front : List ℕ) → line.now ≢ front ++ (carriage_return ∷ [])) (λ x. line.now ≡ x.now ++ (carriage_return ∷ [])) → out ≡ unwrap_or r line → out.now ≡ trimmed line.now
stripped line out None h e = ap (λ o. o.now) e ∙ trimmed_other line.now h
stripped line out (Some x) h e = ap (λ o. o.now) e ∙ sym (ap trimmed h ∙ trimmed_return x.now)

-- ## Words

-- spaces in front of words do not count
pub words_drop : (bs : List ℕ) (n : ℕ) → Run space bs n → words_of (drop n bs) ≡ words_of bs
words_drop [] zero h = refl
words_drop [] (suc n) h = refl
words_drop (c ∷ cs) zero h = refl
words_drop (c ∷ cs) (suc n) h =
    words_drop cs n (run_rest space c cs n h) ∙ sym (cond-true (eqb c space) _ _ (eq-eqb c space (h.all 0 (omega arith))))

-- a word goes to the next space
pub words_first : (bs : List ℕ) (n : ℕ) → First space bs n → 0 < n → words_of bs ≡ take n bs ∷ words_of (drop n bs)
words_first [] zero h l = absurd (omega arith)
words_first [] (suc n) h l = absurd (omega (arith, h.within))
words_first (c ∷ cs) zero h l = absurd (omega arith)
words_first (c ∷ []) (suc n) h l =
    let few : n ≡ 0 = omega (arith, h.within) in
    cond-false (eqb c space) _ _ (ne_eqb c space (h.before 0 (omega arith))) ∙ ap (λ k. take (suc k) (c ∷ []) ∷ words_of (drop (suc k) (c ∷ []))) (sym few)
words_first (c ∷ d ∷ cs) (suc zero) h l =
    cond-false (eqb c space) _ _ (ne_eqb c space (h.before 0 (omega arith)))
    ∙ cond-true (eqb d space) _ _ (eq-eqb d space (h.found (omega arith)))
words_first (c ∷ d ∷ cs) (suc (suc n)) h l =
    cond-false (eqb c space) _ _ (ne_eqb c space (h.before 0 (omega arith)))
    ∙ cond-false (eqb d space) _ _ (ne_eqb d space (h.before 1 (omega arith)))
    ∙ ap (onto c) (words_first (d ∷ cs) (suc n) (first_rest space c (d ∷ cs) (suc n) h) (omega arith))

-- ## What the iterators give

-- spaces behind which no word begins are all
spaces_all : (bs begun : List ℕ) (n : ℕ) → Run space bs n → begun ≡ drop n bs → First space begun 0 → length bs ≤ n
spaces_all bs begun n run e first = elim (cases_lt n (length bs)) [
  | inl l ↦
      let at : get_or begun 0 0 ≡ get_or bs n 0 = ap (λ l. get_or l 0 0) e ∙ get_or-drop n bs 0 0 ∙ ap (λ k. get_or bs k 0) (add-zero n) in
      absurd (run.stops l (sym at ∙ first.found (omega (arith, ap length e, length-drop n bs))))
  | inr l ↦ l
]

-- spaces, and nothing more
pub only_spaces : (bs : List ℕ) (n : ℕ) → Run space bs n → length bs ≤ n → words_of bs ≡ []
only_spaces bs n run l = sym (words_drop bs n run) ∙ ap words_of (nil_from_length (drop n bs) (omega (arith, length-drop n bs)))

-- spaces, and then nothing more
pub no_word : (bs begun rest : List ℕ) (n m : ℕ) → Run space bs n → begun ≡ drop n bs → First space begun m → m ≡ 0 → rest ≡ drop m begun → (words_of bs ≡ []) × (words_of rest ≡ [])
no_word bs begun rest n m run e first z f =
    let none = only_spaces bs n run (spaces_all bs begun n run e (subst (First space begun) z first)) in
    (none, ap words_of (f ∙ ap (λ k. drop k begun) z ∙ e) ∙ words_drop bs n run ∙ none)

-- spaces, and then a word up to the next space
pub a_word : (bs begins word rest : List ℕ) (n m : ℕ) → Run space bs n → n < length bs → begins ≡ drop n bs → First space begins m → word ≡ take m begins → rest ≡ drop m begins → words_of bs ≡ word ∷ words_of rest
a_word bs begins word rest n zero run more is first e f = absurd (omega (arith, spaces_all bs begins n run is first))
a_word bs begins word rest n (suc m) run more is first e f =
    sym (words_drop bs n run) ∙ ap words_of (sym is) ∙ words_first begins (suc m) first (omega arith)
    ∙ ap (λ w. w ∷ words_of (drop (suc m) begins)) (sym e) ∙ ap (λ r. word ∷ words_of r) (sym f)

-- a line feed after bytes that are none
ends_line : (x rest : List ℕ) (n : ℕ) → ((k : ℕ) → k < n → get_or (x ++ (line_feed ∷ rest)) k 0 ≢ line_feed) → length x ≤ n → (until line_feed (x ++ (line_feed ∷ rest)) ≡ x) × (behind line_feed (x ++ (line_feed ∷ rest)) ≡ rest) × (has line_feed (x ++ (line_feed ∷ rest)) ≡ true)
ends_line x rest n before l =
    let first : First line_feed (x ++ (line_feed ∷ rest)) (length x) = record {
      within = omega (arith, length-append x (line_feed ∷ rest));
      before = λ k m. before k (omega arith);
      found = λ m. get_or-append_seam x line_feed rest 0;
    } in
    let cut = sym (take_first line_feed _ (length x) first) ∙ take-append_seam x (line_feed ∷ rest) in
    let (behind_it, there) = drop_first line_feed _ (length x) line_feed rest first (drop-append_seam x (line_feed ∷ rest)) in
    (cut, behind_it, there)

-- no line feed: the line is all, and nothing is left behind it
pub last_line : (bs line tail : List ℕ) (n : ℕ) → First line_feed bs n → line ≡ take n bs → tail ≡ drop n bs → length tail ≡ 0 → (line ≡ first_line bs) × (tail ≡ behind line_feed bs)
last_line bs line tail n first e f z =
    let nothing = nil_from_length tail z in
    let (all, none, away) = drop_none line_feed bs n first (sym f ∙ nothing) in
    (e ∙ all ∙ sym (cond-false (has line_feed bs) _ _ away), nothing ∙ sym none)

-- bytes up to the first line feed that do not end in one are all
no_feed : (line rest : List ℕ) (n : ℕ) → (n < length (line ++ rest) → get_or (line ++ rest) n 0 ≡ line_feed) → length line ≡ min (n + 1) (length (line ++ rest)) → ((front : List ℕ) → line ≢ front ++ (line_feed ∷ [])) → length (line ++ rest) ≤ n
no_feed [] rest n found l bare = omega arith
no_feed (c ∷ line) rest zero found l bare =
    let alone = nil_from_length line (omega arith) in
    absurd (bare [] (ap (λ r. c ∷ r) alone ∙ ap (λ d. d ∷ []) (found (omega arith))))
no_feed (c ∷ line) rest (suc n) found l bare =
    omega (arith, no_feed line rest n (λ m. found (omega arith)) (omega arith) (λ front e. bare (c ∷ front) (ap (λ r. c ∷ r) e)))

-- a line is what stands up to the first line feed, without it, and trimmed where there is one
pub a_line : (bs rest : List ℕ) (line got : Bor (List ℕ)) (n : ℕ) (o : Option (Bor (List ℕ))) (Says : Bor (List ℕ) → Type 0) → bs ≡ line.now ++ rest → ((k : ℕ) → k < n → get_or bs k 0 ≢ line_feed) → (n < length bs → get_or bs n 0 ≡ line_feed) → length line.now ≡ min (n + 1) (length bs) → MatchOption o ((front : List ℕ) → line.now ≢ front ++ (line_feed ∷ [])) (λ x. line.now ≡ x.now ++ (line_feed ∷ [])) → MatchOption o (got ≡ line) Says → ((x : Bor (List ℕ)) → Says x → got.now ≡ trimmed x.now) → (got.now ≡ first_line bs) × (rest ≡ behind line_feed bs)
a_line bs rest line got n None Says e before found l bare is says =
    let all = no_feed line.now rest n (subst (λ b. n < length b → get_or b n 0 ≡ line_feed) e found) (l ∙ ap (λ b. min (n + 1) (length b)) e) bare in
    let few : length bs ≤ n = omega (arith, ap length e) in
    let first : First line_feed bs (length line.now) = record { within = omega arith; before = λ k m. before k (omega arith); found = λ m. absurd (omega arith) } in
    let front : line.now ≡ take (length line.now) bs = sym (ap (take (length line.now)) e ∙ take-append_seam line.now rest) in
    let back : rest ≡ drop (length line.now) bs = sym (ap (drop (length line.now)) e ∙ drop-append_seam line.now rest) in
    let (whole, left) = last_line bs line.now rest (length line.now) first front back (omega (arith, ap length e, length-append line.now rest)) in
    (ap (λ g. g.now) is ∙ whole, left)
a_line bs rest line got n (Some x) Says e before found l ends is says =
    let f : bs ≡ x.now ++ (line_feed ∷ rest) = e ∙ ap (λ k. k ++ rest) ends ∙ append_assoc x.now (line_feed ∷ []) rest in
    let few : length x.now ≤ n = omega (arith, ap length ends, length-append x.now (line_feed ∷ []), l) in
    let (cut, behind_it, there) = ends_line x.now rest n (subst (λ b. (k : ℕ) → k < n → get_or b k 0 ≢ line_feed) f before) few in (
      says x is ∙ ap trimmed (sym (ap (until line_feed) f ∙ cut)) ∙ sym (cond-true (has line_feed bs) _ _ (ap (has line_feed) f ∙ there)),
      sym (ap (behind line_feed) f ∙ behind_it),
    )
