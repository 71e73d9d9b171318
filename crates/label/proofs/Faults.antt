-- Reading stops at a fault exactly where the law of faults says so. Assumes nothing.
use Rattle.std.proofs.Common.{◌≡◌, ℕ, zero, suc, ◌+◌, ◌-◌, ◌*◌, ◌^◌, ◌<◌, ◌≤◌, Bool, true, false, cond, Some, None, Ok, Err, Option, Result, sym, refl, ap, ◌∙◌, subst, ⊎_elim, mul-le-mul, arith, pow_pos}
use Rattle.std.proofs.lemmas.Bool.{cond-true, cond-false, lt-ltb, ltb-true, cases_lt}
use Rattle.label.specs.Label.{Label, end, next, down, may_end}
use Rattle.label.specs.Reading.{piece, onto, outcome, outcome_of, scan}
use Rattle.label.specs.Stops.{Front, start, on, under, FrontGoesOn, front_bits, front_spelled, FrontFits, next_position, next_width, Begins, EndsLevel, Wrong}
use Rattle.label.specs.declared.piece.Piece.{Piece}
use Rattle.label.specs.declared.fault.LabelFault.{LabelFault}
use Rattle.label.specs.declared.fault.LabelFault.TheVariants.{Short, Zero}
use Rattle.label.proofs.Pieces.{Tells, TellsOf, piece_tells, pow_half, in_front, room, piece_end, piece_next, piece_down}

onto_err : (g : Label → Label) (r : Result Label LabelFault) (e : LabelFault) → onto g r ≡ Err e → r ≡ Err e
onto_err g (Ok c) e h = absurd (cc)
onto_err g (Err f) e h = cc

-- a result that is refused unless a test holds is refused by the test, or itself
data Refused (b : Bool) (r : Result Label LabelFault) (fault e : LabelFault) : Type 0 where
  by_test : b ≡ false → fault ≡ e → Refused b r fault e
  by_result : b ≡ true → r ≡ Err e → Refused b r fault e

refused : (b : Bool) (r : Result Label LabelFault) (fault e : LabelFault) → cond b r (Err fault) ≡ Err e → Refused b r fault e
refused true r fault e h = by_result refl h
refused false r fault e h = by_test refl (cc)

module _ (w : ℕ → ℕ → ℕ) where
  -- the same fault, by other terms for its bit and for how many bits are left
  pub wrong_moved : (b b' n n' k i x : ℕ) (e : LabelFault) → b ≡ b' → n ≡ n' → Wrong w b n k i x e → Wrong w b' n' k i x e
  wrong_moved b b' n n' k i x e at less wrong =
      subst (λ (j : ℕ). Wrong w j n' k i x e) at (subst (λ (j : ℕ). Wrong w b j k i x e) less wrong)

  -- a front and what is behind it fit n bits
  front_below : (n l i : ℕ) (f : Front) (rest : ℕ) → FrontFits w l i f → front_bits w l i f ≤ n → rest < 2 ^ (n - front_bits w l i f)
      → front_spelled w n l i f + rest < 2 ^ n
  front_below n l i start rest fits within small = let all : n - 0 ≡ n = omega arith in omega (arith, small, ap (λ (j : ℕ). 2 ^ j) all)
  front_below n l i (on s f) rest fits within small =
      let k : ℕ = w l i in
      let m : ℕ = n - k - 1 in
      let b : ℕ = front_bits w l (i + 1) f in
      let e : n - (k + 1 + b) ≡ m - b = omega arith in
      let behind = front_below m l (i + 1) f rest fits.1 (omega arith) (subst (λ (j : ℕ). rest < 2 ^ j) e small) in
      let y : ℕ = front_spelled w m l (i + 1) f + rest in
      omega (arith, in_front k n s (2 ^ m + y) (omega arith) fits.0 (omega (arith, pow_half k n (omega arith), behind)))
  front_below n l i (under s f) rest fits within small =
      let k : ℕ = w l i in
      let m : ℕ = n - k - 1 in
      let b : ℕ = front_bits w (l + 1) 0 f in
      let e : n - (k + 1 + b) ≡ m - b = omega arith in
      let behind = front_below m (l + 1) 0 f rest fits.2 (omega arith) (subst (λ (j : ℕ). rest < 2 ^ j) e small) in
      let y : ℕ = front_spelled w m (l + 1) 0 f + rest in
      omega (arith, in_front k n s y (omega arith) fits.1 (omega (arith, pow_half k n (omega arith), behind)))

  -- behind a separator 0 a bit is not 0
  front_some : (n l s : ℕ) (f : Front) (rest : ℕ) → FrontFits w l 0 f → FrontGoesOn (under s f) rest → 1 ≤ front_spelled w n l 0 f + rest
  front_some n l s start rest fits going = omega (arith, going)
  front_some n l s (on t f) rest fits going = omega (arith, pow_pos (n - w l 0 - 1))
  front_some n l s (under t f) rest fits going =
      omega (arith, mul-le-mul (ltb-true 0 t fits.0) (pow_pos (n - w l 0)))

  module _ (N : ℕ) where
    -- how reading stops from n bits of value x on, at level l and position i
    abbrev pub StopsFrom : (n x l i : ℕ) → LabelFault → Type 0
    StopsFrom n x l i e =
        (f : Front) × (rest : ℕ) × Begins w n l i x f rest
        × Wrong w (N - n + front_bits w l i f) (n - front_bits w l i f) (next_width w l i f) (next_position w l i f) rest e

    here : (n x l i : ℕ) (e : LabelFault) → x < 2 ^ n → Wrong w (N - n) n (w l i) i x e → StopsFrom n x l i e
    here n x l i e small wrong =
        let all : n ≡ n - 0 = omega arith in (
          start,
          x,
          record { fits = tt; within = omega arith; spells = omega arith; small = subst (λ (j : ℕ). x < 2 ^ j) all small; going = tt },
          wrong_moved _ _ _ _ (w l i) i x e (omega arith) all wrong,
        )

    -- a subvalue more in front
    further_on : (n s y l i : ℕ) (e : LabelFault) → n ≤ N → w l i < n → s < 2 ^ w l i → StopsFrom (n - w l i - 1) y l (i + 1) e
        → StopsFrom n (s * 2 ^ (n - w l i) + 2 ^ (n - w l i - 1) + y) l i e
    further_on n s y l i e most room small (f, rest, b, wrong) =
        let k : ℕ = w l i in
        let m : ℕ = n - k - 1 in
        let z : ℕ = front_bits w l (i + 1) f in
        let less : m - z ≡ n - (k + 1 + z) = omega arith in
        let at : N - m + z ≡ N - n + (k + 1 + z) = omega arith in (
          on s f,
          rest,
          record {
            fits = (small, b.fits);
            within = omega (arith, b.within);
            spells = omega (arith, b.spells);
            small = subst (λ (j : ℕ). rest < 2 ^ j) less b.small;
            going = b.going;
          },
          wrong_moved _ _ _ _ (next_width w l (i + 1) f) (next_position w l (i + 1) f) rest e at less wrong,
        )

    goes_deeper : (s : ℕ) (f : Front) (rest : ℕ) → FrontGoesOn (under s f) rest → FrontGoesOn f rest
    goes_deeper s start rest going = tt
    goes_deeper s (on t f) rest going = going
    goes_deeper s (under t f) rest going = going

    goes_under : (s y : ℕ) (n l : ℕ) (f : Front) (rest : ℕ) → y ≡ front_spelled w n l 0 f + rest → FrontGoesOn f rest → 1 ≤ y → FrontGoesOn (under s f) rest
    goes_under s y n l start rest is going some = omega (arith, is)
    goes_under s y n l (on t f) rest is going some = going
    goes_under s y n l (under t f) rest is going some = going

    further_under : (n s y l i : ℕ) (e : LabelFault) → n ≤ N → w l i < n → may_end i s ≡ true → s < 2 ^ w l i → 1 ≤ y
        → StopsFrom (n - w l i - 1) y (l + 1) 0 e → StopsFrom n (s * 2 ^ (n - w l i) + y) l i e
    further_under n s y l i e most room ends small some (f, rest, b, wrong) =
        let k : ℕ = w l i in
        let m : ℕ = n - k - 1 in
        let z : ℕ = front_bits w (l + 1) 0 f in
        let less : m - z ≡ n - (k + 1 + z) = omega arith in
        let at : N - m + z ≡ N - n + (k + 1 + z) = omega arith in (
          under s f,
          rest,
          record {
            fits = (ends, small, b.fits);
            within = omega (arith, b.within);
            spells = omega (arith, b.spells);
            small = subst (λ (j : ℕ). rest < 2 ^ j) less b.small;
            going = goes_under s y m (l + 1) f rest b.spells b.going some;
          },
          wrong_moved _ _ _ _ (next_width w (l + 1) 0 f) (next_position w (l + 1) 0 f) rest e at less wrong,
        )

    -- the bits of a subvalue that ends its level
    ends : (k n s y : ℕ) → k ≤ n → y + y < 2 ^ (n - k) → EndsLevel w k n (s * 2 ^ (n - k) + y) s
    ends k n s y h low = record { enough = h; behind = y; spells = refl; low = low }

    by_parts : (f n x l i : ℕ) (e : LabelFault) → n ≤ N → x < 2 ^ n
        → ((n x l i : ℕ) (e : LabelFault) → n ≤ N → n < f → x < 2 ^ n → scan w N f n x l i ≡ Err e → StopsFrom n x l i e)
        → n < suc f
        → (s : ℕ) (ends_level : Bool) (b : Option ℕ) → TellsOf (w l i) n x s ends_level b
        → outcome_of (N - n) i (λ y. scan w N f (n - w l i - 1) y l (i + 1)) (λ y. scan w N f (n - w l i - 1) y (l + 1) 0) s ends_level b ≡ Err e
        → StopsFrom n x l i e
    by_parts f n x l i e most small ih turns s false None t h = absurd t
    by_parts f n x l i e most small ih turns s true None t h = go (refused (may_end i s) (Ok (end s)) (Zero (N - n)) e h)
      where
        go : Refused (may_end i s) (Ok (end s)) (Zero (N - n)) e → StopsFrom n x l i e
        go (by_test z is) =
            let e₀ : s * 2 ^ (n - w l i) + 0 ≡ x = omega (arith, t.2) in
            subst (StopsFrom n x l i) is (here n x l i (Zero (N - n)) small (refl, (s, subst (λ (v : ℕ). EndsLevel w (w l i) n v s) e₀ (ends (w l i) n s 0 t.0 (omega (arith, pow_pos (n - w l i)))), z)))
        go (by_result z is) = absurd (cc)
    by_parts f n x l i e most small ih turns s false (Some y) t h =
        let m : ℕ = n - w l i - 1 in
        let stopped = ih m y l (i + 1) e (omega arith) (omega (arith, t.0)) t.2 (onto_err (next s) (scan w N f m y l (i + 1)) e h) in
        subst (λ (v : ℕ). StopsFrom n v l i e) t.3 (further_on n s y l i e most t.0 t.1 stopped)
    by_parts f n x l i e most small ih turns s true (Some y) t h =
        go (refused (may_end i s) (onto (down s) (scan w N f (n - w l i - 1) y (l + 1) 0)) (Zero (N - n)) e h)
      where
        go : Refused (may_end i s) (onto (down s) (scan w N f (n - w l i - 1) y (l + 1) 0)) (Zero (N - n)) e → StopsFrom n x l i e
        go (by_test z is) =
            subst (StopsFrom n x l i) is (here n x l i (Zero (N - n)) small (
              refl,
              (
                s,
                subst (λ (v : ℕ). EndsLevel w (w l i) n v s) t.3
                    (ends (w l i) n s y (omega (arith, t.0)) (omega (arith, t.2, pow_half (w l i) n t.0))),
                z,
              ),
            ))
        go (by_result z is) =
            let m : ℕ = n - w l i - 1 in
            let stopped = ih m y (l + 1) 0 e (omega arith) (omega (arith, t.0)) t.2 (onto_err (down s) (scan w N f m y (l + 1) 0) e is) in
            subst (λ (v : ℕ). StopsFrom n v l i e) t.3 (further_under n s y l i e most t.0 z t.1 t.4 stopped)

    by_piece : (f n x l i : ℕ) (e : LabelFault) → n ≤ N → x < 2 ^ n
        → ((n x l i : ℕ) (e : LabelFault) → n ≤ N → n < f → x < 2 ^ n → scan w N f n x l i ≡ Err e → StopsFrom n x l i e)
        → n < suc f
        → (p : Option Piece) → Tells (w l i) n x p
        → outcome (N - n) i (λ y. scan w N f (n - w l i - 1) y l (i + 1)) (λ y. scan w N f (n - w l i - 1) y (l + 1) 0) p ≡ Err e
        → StopsFrom n x l i e
    by_piece f n x l i e most small ih turns None t h =
        let is : Short (N - n) ≡ e = cc in
        subst (StopsFrom n x l i) is (here n x l i (Short (N - n)) small (refl, t))
    by_piece f n x l i e most small ih turns (Some p) t h =
        by_parts f n x l i e most small ih turns p.subvalue.value p.subvalue.ends_level p.behind t h

    -- where reading stops, the law says so
    pub scan_stops : (f n x l i : ℕ) (e : LabelFault) → n ≤ N → n < f → x < 2 ^ n → scan w N f n x l i ≡ Err e → StopsFrom n x l i e
    unfolding scan
    scan_stops zero n x l i e most turns small h = absurd (omega arith)
    scan_stops (suc f) n x l i e most turns small h =
        by_piece f n x l i e most small (scan_stops f) turns (piece (w l i) n x) (piece_tells (w l i) n x small) h

    -- what a piece that is wrong comes to
    wrong_piece : (f n x l i : ℕ) (e : LabelFault) → Wrong w (N - n) n (w l i) i x e
        → outcome (N - n) i (λ y. scan w N f (n - w l i - 1) y l (i + 1)) (λ y. scan w N f (n - w l i - 1) y (l + 1) 0) (piece (w l i) n x) ≡ Err e
    wrong_piece f n x l i (Short b) (is, few) = rw (lt-ltb n (w l i) few) (ap (λ (j : ℕ). Err (Short j)) (sym is))
    wrong_piece f n x l i (Zero b) (is, (s, end_at, z)) =
        ap (outcome (N - n) i _ _) (ap (piece (w l i) n) end_at.spells)
        ∙ ⊎_elim none some (cases_lt end_at.behind 1)
        ∙ ap (λ (j : ℕ). Err (Zero j)) (sym is)
      where
        after : Option Piece → Result Label LabelFault
        after = outcome (N - n) i (λ y. scan w N f (n - w l i - 1) y l (i + 1)) (λ y. scan w N f (n - w l i - 1) y (l + 1) 0)

        none : end_at.behind < 1 → after (piece (w l i) n (s * 2 ^ (n - w l i) + end_at.behind)) ≡ Err (Zero (N - n))
        none h =
            let e : s * 2 ^ (n - w l i) + end_at.behind ≡ s * 2 ^ (n - w l i) = omega arith in
            ap after (ap (piece (w l i) n) e ∙ piece_end (w l i) n s end_at.enough) ∙ cond-false (may_end i s) _ _ z

        some : 1 ≤ end_at.behind → after (piece (w l i) n (s * 2 ^ (n - w l i) + end_at.behind)) ≡ Err (Zero (N - n))
        some h =
            let k : ℕ = w l i in
            let more : k < n = room k n end_at.behind end_at.enough h (omega (arith, end_at.low)) in
            ap after (piece_down k n s end_at.behind more h (omega (arith, end_at.low, pow_half k n more))) ∙ cond-false (may_end i s) _ _ z

    -- where the law says that reading stops, it does
    pub stops_scan : (f : Front) (t n x l i rest : ℕ) (e : LabelFault) → n ≤ N → n < t → Begins w n l i x f rest
        → Wrong w (N - n + front_bits w l i f) (n - front_bits w l i f) (next_width w l i f) (next_position w l i f) rest e
        → scan w N t n x l i ≡ Err e
    unfolding scan
    stops_scan start zero n x l i rest e most turns b wrong = absurd (omega arith)
    stops_scan start (suc t) n x l i rest e most turns b wrong =
        let is : rest ≡ x = omega (arith, b.spells) in
        wrong_piece t n x l i e
        (subst (λ (v : ℕ). Wrong w (N - n) n (w l i) i v e) is (wrong_moved _ _ _ _ (w l i) i rest e (omega arith) (omega arith) wrong))
    stops_scan (on s f) zero n x l i rest e most turns b wrong = absurd (omega arith)
    stops_scan (on s f) (suc t) n x l i rest e most turns b wrong =
        let k : ℕ = w l i in
        let m : ℕ = n - k - 1 in
        let z : ℕ = front_bits w l (i + 1) f in
        let y : ℕ = front_spelled w m l (i + 1) f + rest in
        let less : n - (k + 1 + z) ≡ m - z = omega arith in
        let within : z ≤ m = omega (arith, b.within) in
        let small : rest < 2 ^ (m - z) = subst (λ (j : ℕ). rest < 2 ^ j) less b.small in
        let is : x ≡ s * 2 ^ (n - k) + 2 ^ m + y = omega (arith, b.spells) in
        let at : N - n + (k + 1 + z) ≡ N - m + z = omega (arith, b.within) in
        ap (outcome (N - n) i _ _) (ap (piece k n) is ∙ piece_next k n s y (omega (arith, b.within)) (front_below m l (i + 1) f rest b.fits.1 within small))
        ∙ ap (onto (next s))
        (stops_scan f t m y l (i + 1) rest e (omega arith) (omega (arith, b.within))
        (record { fits = b.fits.1; within = within; spells = refl; small = small; going = b.going })
        (wrong_moved _ _ _ _ (next_width w l (i + 1) f) (next_position w l (i + 1) f) rest e at less wrong))
    stops_scan (under s f) zero n x l i rest e most turns b wrong = absurd (omega arith)
    stops_scan (under s f) (suc t) n x l i rest e most turns b wrong =
        let k : ℕ = w l i in
        let m : ℕ = n - k - 1 in
        let z : ℕ = front_bits w (l + 1) 0 f in
        let y : ℕ = front_spelled w m (l + 1) 0 f + rest in
        let less : n - (k + 1 + z) ≡ m - z = omega arith in
        let within : z ≤ m = omega (arith, b.within) in
        let small : rest < 2 ^ (m - z) = subst (λ (j : ℕ). rest < 2 ^ j) less b.small in
        let is : x ≡ s * 2 ^ (n - k) + y = omega (arith, b.spells) in
        let at : N - n + (k + 1 + z) ≡ N - m + z = omega (arith, b.within) in
        ap (outcome (N - n) i _ _) (ap (piece k n) is ∙ piece_down k n s y (omega (arith, b.within)) (front_some m (l + 1) s f rest b.fits.2 b.going) (front_below m (l + 1) 0 f rest b.fits.2 within small))
        ∙ cond-true (may_end i s) _ _ b.fits.0
        ∙ ap (onto (down s))
        (stops_scan f t m y (l + 1) 0 rest e (omega arith) (omega (arith, b.within))
        (record { fits = b.fits.2; within = within; spells = refl; small = small; going = goes_deeper s f rest b.going })
        (wrong_moved _ _ _ _ (next_width w (l + 1) 0 f) (next_position w (l + 1) 0 f) rest e at less wrong))
