-- What the loop of reading has gathered, and that it is the label's reading. Assumes nothing.
use Rattle.std.proofs.Common.{◌≡◌, ℕ, zero, suc, ◌+◌, ◌-◌, ◌*◌, ◌/◌, ◌^◌, ◌<◌, ◌≤◌, Bool, true, false, cond, Some, None, Ok, Err, Option, Result, sym, refl, ap, ◌∙◌, subst, mul_assoc, add-mul, mul-add, arith}
use Rattle.std.proofs.lemmas.Bool.{cond-true, cond-false}
use lib.Arith.{digits_div}
use Rattle.label.specs.Label.{Label, end, next, down, stands_at, bits, spelled, Fits, depth, parent, word}
use Rattle.label.specs.Reading.{piece, onto, outcome, outcome_of, scan, label_of, answer}
use Rattle.label.specs.Spelling.{level_after, position_after}
use Rattle.label.specs.declared.fault.LabelFault.{LabelFault}
use Rattle.label.specs.declared.fault.LabelFault.TheVariants.{Short, Zero}
use Rattle.label.specs.declared.piece.Piece.{Piece}
use Rattle.label.specs.declared.reading.WordReading.{WordReading}
use Rattle.label.proofs.Pieces.{pow_apart, pow_half}
use Rattle.label.proofs.Words.{below, scan_tells}

-- q in front of n bits that begin with a subvalue s of k bits is one number in front of what is behind
pub lead : (q k n s : ℕ) → k ≤ n → q * 2 ^ n + s * 2 ^ (n - k) ≡ (q * 2 ^ k + s) * 2 ^ (n - k)
lead q k n s h = ap (λ (p : ℕ). q * p + s * 2 ^ (n - k)) (pow_apart k n h) ∙ omega (arith, mul_assoc q (2 ^ k) (2 ^ (n - k)), add-mul (q * 2 ^ k) s (2 ^ (n - k)))

-- and so with the separator's bit t
pub lead_more : (q k n s t : ℕ) → k < n → q * 2 ^ n + s * 2 ^ (n - k) + t * 2 ^ (n - k - 1) ≡ ((q * 2 ^ k + s) + (q * 2 ^ k + s) + t) * 2 ^ (n - k - 1)
lead_more q k n s t h =
    let a : ℕ = q * 2 ^ k + s in
    let p : ℕ = 2 ^ (n - k - 1) in
    let double : a * 2 ^ (n - k) ≡ a * p + a * p = ap (λ (m : ℕ). a * m) (pow_half k n h) ∙ mul-add a p p in
    omega (arith, lead q k n s (omega arith), double, add-mul (a + a) t p, add-mul a a p)

-- the number in front of m bits, with zeros behind
abbrev pub cut : ℕ → ℕ → ℕ
cut x m = x / 2 ^ m * 2 ^ m

pub cut_lead : (q k n s r : ℕ) → k ≤ n → r < 2 ^ (n - k) → cut (q * 2 ^ n + s * 2 ^ (n - k) + r) (n - k) ≡ q * 2 ^ n + s * 2 ^ (n - k)
cut_lead q k n s r h small = rw (lead q k n s h, digits_div (q * 2 ^ k + s) small) refl

abbrev pub above : Option ℕ → (Label → ℕ) → Option Label → Option ℕ
above p f None = p
above p f (Some d) = Some (f d)

above_next : (p : Option ℕ) (f g : Label → ℕ) (s : ℕ) → ((d : Label) → f d ≡ g (next s d)) → (o : Option Label)
    → above p f o ≡ above p g (elim o [ None ↦ None | Some d ↦ Some (next s d) ])
above_next p f g s h None = refl
above_next p f g s h (Some d) = ap Some (h d)

above_down : (p : Option ℕ) (f g : Label → ℕ) (s m : ℕ) → m ≡ g (end s) → ((d : Label) → f d ≡ g (down s d)) → (o : Option Label)
    → above (Some m) f o ≡ above p g (elim o [ None ↦ Some (end s) | Some d ↦ Some (down s d) ])
above_down p f g s m e h None = ap Some e
above_down p f g s m e h (Some d) = ap Some (h d)

abbrev made : ℕ → ℕ → Option ℕ → WordReading
made b l p = record { bits = b; level = l; parent = p }

same : (b b' l l' : ℕ) (p p' : Option ℕ) → b ≡ b' → l ≡ l' → p ≡ p' → made b l p ≡ made b' l' p'
same b b' l l' p p' e f g = cc

-- a subvalue that may not stand is a fault, whatever is behind it
zero_of : (bit i s : ℕ) (e : Bool) (b : Option ℕ) (on under : ℕ → Result Label LabelFault) → false ≡ stands_at i s e
    → outcome_of bit i on under s e b ≡ Err (Zero bit)
zero_of bit i s e None on under z = cond-false (stands_at i s e) _ _ (sym z)
zero_of bit i s false (Some y) on under z = cond-false (stands_at i s false) _ _ (sym z)
zero_of bit i s true (Some y) on under z = cond-false (stands_at i s true) _ _ (sym z)

module _ (w : ℕ → ℕ → ℕ) (N x : ℕ) where
  -- what the loop answers when it goes on from n bits left, with p for the parent so far, and the bits left are c's
  abbrev pub finish : (n l i : ℕ) → Option ℕ → Label → WordReading
  finish n l i p (end s) = record { bits = N - n + w l i; level = l; parent = p }
  finish n l i p (next s c) = finish (n - w l i - 1) l (i + 1) p c
  finish n l i p (down s c) = finish (n - w l i - 1) (l + 1) 0 (Some (cut x (n - w l i))) c

  abbrev pub finished : (n l i : ℕ) → Option ℕ → Result Label LabelFault → Result WordReading LabelFault
  finished n l i p (Ok c) = Ok (finish n l i p c)
  finished n l i p (Err e) = Err e

  finish_is : (q n l i : ℕ) (p : Option ℕ) (c : Label) → n ≤ N → bits w l i c ≤ n → Fits w l i c → x ≡ q * 2 ^ n + spelled w n l i c
      → finish n l i p c ≡ made (N - n + bits w l i c) (l + depth c - 1) (above p (λ d. q * 2 ^ n + spelled w n l i d) (parent c))
  finish_is q n l i p (end s) h b f e = same _ _ _ _ _ _ refl (omega arith) refl
  finish_is q n l i p (next s c) h b f e =
      let m : ℕ = n - w l i - 1 in
      let more = lead_more q (w l i) n s 1 (omega arith) in
      let q' : ℕ = (q * 2 ^ w l i + s) + (q * 2 ^ w l i + s) + 1 in
      finish_is q' m l (i + 1) p c (omega arith) (omega arith) f.1 (omega (arith, e, more))
      ∙ same _ _ _ _ _ _ (omega arith) refl (above_next p _ _ s (λ d. omega (arith, more)) (parent c))
  finish_is q n l i p (down s c) h b f e =
      let m : ℕ = n - w l i - 1 in
      let more = lead_more q (w l i) n s 0 (omega arith) in
      let q' : ℕ = (q * 2 ^ w l i + s) + (q * 2 ^ w l i + s) + 0 in
      let small : spelled w m (l + 1) 0 c < 2 ^ (n - w l i) = omega (arith, pow_half (w l i) n (omega arith), below w m (l + 1) 0 c f.2 (omega arith)) in
      let here : cut x (n - w l i) ≡ q * 2 ^ n + s * 2 ^ (n - w l i) =
      ap (λ (y : ℕ). cut y (n - w l i)) (omega (arith, e)) ∙ cut_lead q (w l i) n s (spelled w m (l + 1) 0 c) (omega arith) small in
      finish_is q' m (l + 1) 0 (Some (cut x (n - w l i))) c (omega arith) (omega arith) f.2 (omega (arith, e, more))
      ∙ same _ _ _ _ _ _ (omega arith) (omega arith) (above_down p _ _ s _ here (λ d. omega (arith, more)) (parent c))

  by_label : (r : Result Label LabelFault) → label_of w N x ≡ r → x < 2 ^ N → answer w N r ≡ finished N 1 0 None r
  unfolding label_of
  by_label (Err e) is h = refl
  by_label (Ok c) is h =
      let (fits, few, value) = scan_tells w N (suc N) N x 1 0 c h is in
      ap Ok (sym (finish_is 0 N 1 0 None c (omega arith) few fits (omega (arith, value))
      ∙ same _ _ _ _ _ _ (omega arith) (omega arith) (above_same (parent c))))
    where
      above_same : (o : Option Label) → above None (λ d. 0 * 2 ^ N + spelled w N 1 0 d) o ≡ elim o [ None ↦ None | Some d ↦ Some (word w N d) ]
      above_same None = refl
      above_same (Some d) = ap Some (omega arith)

  turn_next : (n l i s : ℕ) (p : Option ℕ) (r : Result Label LabelFault) → finished n l i p (onto (next s) r) ≡ finished (n - w l i - 1) l (i + 1) p r
  turn_next n l i s p (Ok c) = refl
  turn_next n l i s p (Err e) = refl

  turn_down : (n l i s : ℕ) (p : Option ℕ) (r : Result Label LabelFault) → finished n l i p (onto (down s) r) ≡ finished (n - w l i - 1) (l + 1) 0 (Some (cut x (n - w l i))) r
  turn_down n l i s p (Ok c) = refl
  turn_down n l i s p (Err e) = refl

  -- the rest of the reading, from a subvalue on
  abbrev by_rest : (f n l i s : ℕ) → Bool → Option ℕ → Result Label LabelFault
  by_rest f n l i = outcome_of (N - n) i (λ z. scan w N f (n - w l i - 1) z l (i + 1)) (λ z. scan w N f (n - w l i - 1) z (l + 1) 0)

  turn_more : (n l i s : ℕ) (e : Bool) (p : Option ℕ) (f z : ℕ) → true ≡ stands_at i s e
      → finished n l i p (by_rest f n l i s e (Some z))
      ≡ finished (n - w l i - 1) (level_after e l) (position_after e i) (cond e (Some (cut x (n - w l i))) p)
      (scan w N f (n - w l i - 1) z (level_after e l) (position_after e i))
  turn_more n l i s false p f z stands = turn_next n l i s p (scan w N f (n - w l i - 1) z l (i + 1))
  turn_more n l i s true p f z stands =
      ap (finished n l i p) (cond-true (stands_at i s true) _ _ (sym stands)) ∙ turn_down n l i s p (scan w N f (n - w l i - 1) z (l + 1) 0)

  -- The loop's invariant: what is left to read, n bits of value y from level l and position i on, finishes the answer.
  pub record Gathered (n y l i : ℕ) (p : Option ℕ) : Type 0 where
    pub turns : ℕ
    pub enough : n < turns
    pub finishes : answer w N (label_of w N x) ≡ finished n l i p (scan w N turns n y l i)

  pub gather_start : x < 2 ^ N → Gathered N x 1 0 None
  unfolding label_of
  gather_start h = record { turns = suc N; enough = omega arith; finishes = by_label (label_of w N x) refl h }

  -- the rest of the reading, from the piece at which it stands
  abbrev after : (f n l i : ℕ) → Option Piece → Result Label LabelFault
  after f n l i = outcome (N - n) i (λ z. scan w N f (n - w l i - 1) z l (i + 1)) (λ z. scan w N f (n - w l i - 1) z (l + 1) 0)

  module _ {n y l i k : ℕ} {p : Option ℕ} (width : k ≡ w l i) (g : Gathered n y l i p) where
    -- a turn, by its piece
    turn : (q : Option Piece) → q ≡ piece k n y → (f : ℕ) × (n < suc f) × (answer w N (label_of w N x) ≡ finished n l i p (after f n l i q))
    unfolding scan
    turn q is = go g.turns g.enough g.finishes
      where
        go : (f : ℕ) → n < f → answer w N (label_of w N x) ≡ finished n l i p (scan w N f n y l i)
            → (f : ℕ) × (n < suc f) × (answer w N (label_of w N x) ≡ finished n l i p (after f n l i q))
        go zero h e = absurd (omega arith)
        go (suc f) h e = (f, h, e ∙ ap (λ u. finished n l i p (after f n l i u)) (sym (is ∙ ap (λ (j : ℕ). piece j n y) width)))

    pub gather_missing : None ≡ piece k n y → Err (Short (N - n)) ≡ answer w N (label_of w N x)
    gather_missing is = sym (turn None is).2

    pub gather_zero : {q : Piece} → Some q ≡ piece k n y → false ≡ stands_at i q.subvalue.value q.subvalue.ends_level
        → Err (Zero (N - n)) ≡ answer w N (label_of w N x)
    gather_zero {q} is z =
        let (f, more, done) = turn (Some q) is in
        sym (done ∙ ap (finished n l i p) (zero_of (N - n) i q.subvalue.value q.subvalue.ends_level q.behind _ _ z))

    pub gather_ends : {q : Piece} → Some q ≡ piece k n y → true ≡ stands_at i q.subvalue.value q.subvalue.ends_level → q.behind ≡ None
        → Ok (made (N - n + k) l p) ≡ answer w N (label_of w N x)
    gather_ends {q} is z last =
        let (f, more, done) = turn (Some q) is in
        let s : ℕ = q.subvalue.value in
        let e : Bool = q.subvalue.ends_level in
        ap (λ (j : ℕ). Ok (made (N - n + j) l p)) width
        ∙ sym (done ∙ ap (λ (b : Option ℕ). finished n l i p (by_rest f n l i s e b)) last ∙ ap (finished n l i p) (cond-true (stands_at i s e) _ _ (sym z)))

    pub gather_more : {q : Piece} {z m v deep along : ℕ} {p' : Option ℕ} → Some q ≡ piece k n y → true ≡ stands_at i q.subvalue.value q.subvalue.ends_level
        → q.behind ≡ Some z → k < n
        → m ≡ n - k - 1 → v ≡ z → deep ≡ level_after q.subvalue.ends_level l → along ≡ position_after q.subvalue.ends_level i
        → p' ≡ cond q.subvalue.ends_level (Some (cut x (n - k))) p
        → Gathered m v deep along p'
    gather_more {q} {z} {m} {v} {deep} {along} {p'} is stands at h less rest_is deep_is along_is parent_now =
        let (f, more, done) = turn (Some q) is in
        let s : ℕ = q.subvalue.value in
        let e : Bool = q.subvalue.ends_level in
        let same : answer w N (label_of w N x) ≡ finished n l i p (by_rest f n l i s e (Some z)) =
        done ∙ ap (λ (b : Option ℕ). finished n l i p (by_rest f n l i s e b)) at in
        rw (less, rest_is, deep_is, along_is, parent_now)
        (subst (λ (j : ℕ). Gathered (n - j - 1) z (level_after e l) (position_after e i) (cond e (Some (cut x (n - j))) p)) (sym width)
        (record { turns = f; enough = omega (arith, width); finishes = same ∙ turn_more n l i s e p f z stands }))
