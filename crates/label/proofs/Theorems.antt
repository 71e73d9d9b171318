-- The theorems on labels and their words. Assumes nothing.
use Rattle.std.proofs.Common.{◌≡◌, ℕ, suc, ◌+◌, ◌-◌, ◌^◌, ◌<◌, ◌≤◌, true, eqb, ltb, ◌⊎◌, IfOk, Some, None, Option, Ok, Err, Result, sym, refl, ap, ◌∙◌, subst, inl, inr, arith, pow_pos}
use Rattle.std.specs.Prelude.{MatchOption, IsSomeAnd}
use Rattle.std.specs.Option.{SomeIff}
use Rattle.std.proofs.lemmas.Bool.{cond_both, both_ways, eqb-true, eqb-false, ltb-true, ltb-false}
use Rattle.label.specs.declared.relation.Relation.{Relation}
use Rattle.label.specs.Label.{Label, end, next, down, bits, parent, Lawful, word}
use Rattle.label.specs.Reading.{label_of, answer}
use Rattle.label.specs.Order.{Earlier, Over}
use Rattle.label.specs.Relation.{leads, relation_of}
use Rattle.label.specs.Stops.{Stops, front_bits, next_position, next_width}
use Rattle.label.specs.Theorems.{OneLabel, OneOutcome, ReadingIs, Of, Reads, LedTo, EndsLed, LeadsByLevels, WordsInOrder, LedBetween, Stands, Relates}
use Rattle.label.specs.declared.fault.LabelFault.{LabelFault}
use Rattle.label.specs.declared.reading.WordReading.{WordReading}
use Rattle.label.proofs.Intervals as Intervals
use Rattle.label.proofs.Intervals.{inside, outside}
use Rattle.label.proofs.Pieces.{pow_half}
use Rattle.label.proofs.Leads.{whole, inside_from_leads, leads_from_inside}
use Rattle.label.proofs.Levels.{over_from_under, under_from_over, earlier_from_under, earlier_from_past, earlier_one_way}
use Rattle.label.proofs.Standing.{Under, Past, Standing, same, above, below, before, after, standing}
use Rattle.label.proofs.Words.{scan_spelled, scan_tells}
use Rattle.label.proofs.Faults.{scan_stops, stops_scan, wrong_moved}
use Rattle.label.proofs.Extend.{under_siblings}

module _ (w : ℕ → ℕ → ℕ) (N : ℕ) where
  -- a lawful label is read back from its word
  pub read_back : (c : Label) (x : ℕ) → Of w N c x → label_of w N x ≡ Ok c
  unfolding label_of
  read_back c x ((fits, few), is) = ap (label_of w N) (sym is) ∙ scan_spelled w N (suc N) N 1 0 c fits few (omega arith)

  -- and what is read is a lawful label's word
  pub read_only : (c : Label) (x : ℕ) → x < 2 ^ N → label_of w N x ≡ Ok c → Of w N c x
  unfolding label_of
  read_only c x h e = let (fits, few, is) = scan_tells w N (suc N) N x 1 0 c h e in ((fits, few), is)

  -- a lawful label is known by its word
  pub same_label : (c d : Label) → Lawful w N c → Lawful w N d → word w N c ≡ word w N d → c ≡ d
  same_label c d p q e =
      let u = read_back c (word w N c) (p, refl) in
      let v = read_back d (word w N c) (q, sym e) in
      cc

  pub one_label : OneLabel w N
  one_label c d p q = (same_label c d p q, λ e. ap (word w N) e)

  -- reading stops where the law of faults says so, and only there
  pub stop_back : (x : ℕ) (e : LabelFault) → Stops w N x e → label_of w N x ≡ Err e
  unfolding label_of
  stop_back x e (f, rest, begun, wrong) =
      let at : front_bits w 1 0 f ≡ N - N + front_bits w 1 0 f = omega arith in
      stops_scan w N f (suc N) N x 1 0 rest e (omega arith) (omega arith) begun (wrong_moved w _ _ (N - front_bits w 1 0 f) _ (next_width w 1 0 f) (next_position w 1 0 f) rest e at refl wrong)

  pub stop_only : (x : ℕ) (e : LabelFault) → x < 2 ^ N → label_of w N x ≡ Err e → Stops w N x e
  unfolding label_of
  stop_only x e h is =
      let (f, rest, begun, wrong) = scan_stops w N (suc N) N x 1 0 e (omega arith) (omega arith) h is in
      let at : N - N + front_bits w 1 0 f ≡ front_bits w 1 0 f = omega arith in
      (f, rest, begun, wrong_moved w _ _ (N - front_bits w 1 0 f) _ (next_width w 1 0 f) (next_position w 1 0 f) rest e at refl wrong)

  pub reading_is : ReadingIs w N
  reading_is x h = (λ c. (read_only c x h, read_back c x), λ e. (stop_only x e h, stop_back x e))

  pub one_outcome : OneOutcome w N
  one_outcome x h = (by_reading (label_of w N x) refl, never, once)
    where
      by_reading : (r : Result Label LabelFault) → label_of w N x ≡ r → ((c : Label) × Of w N c x) ⊎ ((e : LabelFault) × Stops w N x e)
      by_reading (Ok c) is = inl (c, read_only c x h is)
      by_reading (Err e) is = inr (e, stop_only x e h is)

      never : (c : Label) (e : LabelFault) → Of w N c x → Stops w N x e → ⊥
      never c e of stopped =
          let u = read_back c x of in let v = stop_back x e stopped in cc

      once : (e f : LabelFault) → Stops w N x e → Stops w N x f → e ≡ f
      once e f p q = let u = stop_back x e p in let v = stop_back x f q in cc

  by_label : (x : ℕ) → x < 2 ^ N → (r : Result Label LabelFault) → label_of w N x ≡ r → Reads w N x (answer w N r)
  by_label x h (Ok c) e = (c, read_only c x h e, refl)
  by_label x h (Err f) e = stop_only x f h e

  pub reads : (x : ℕ) (r : Result WordReading LabelFault) → x < 2 ^ N → r ≡ answer w N (label_of w N x) → Reads w N x r
  reads x r h is = subst (Reads w N x) (sym is) (by_label x h (label_of w N x) refl)

  -- every label has a bit, where every width is at least 1
  module _ (low : (l i : ℕ) → 1 ≤ w l i) where
    pub bits_some : (l i : ℕ) (c : Label) → 1 ≤ bits w l i c
    bits_some l i (end s) = low l i
    bits_some l i (next s c) = omega (arith, low l i)
    bits_some l i (down s c) = omega (arith, low l i)

    pub sized : (x : ℕ) (r : Result WordReading LabelFault) → Reads w N x r → IfOk r (λ reading. (1 ≤ reading.bits) × (reading.bits ≤ N))
    sized x (Ok reading) (c, ((fits, few), of), is) = rw is (bits_some 1 0 c, few)
    sized x (Err e) h = tt

  -- what stands under or past a label has a greater word
  pub greater_from_under : (c d : Label) → Lawful w N d → Under c d → word w N c < word w N d
  greater_from_under c d (fits, few) u = (inside w N 1 0 c d fits few u).1

  pub greater_from_past : (c d : Label) → Lawful w N c → Lawful w N d → Past c d → word w N c < word w N d
  greater_from_past c d (f, b) (g, a) u = omega (arith, outside w N 1 0 c d f g b a u, pow_pos (N - bits w 1 0 c - 1))

  order : (c d : Label) → Lawful w N c → Lawful w N d → Standing c d
      → (word w N c < word w N d → Earlier c d) × (Earlier c d → word w N c < word w N d)
  order c d p q (same e) = (
    λ h. absurd (let z : word w N c ≡ word w N d = ap (word w N) e in omega arith),
    λ h. absurd (let r : Earlier c c = subst (Earlier c) (sym e) h in earlier_one_way c c r r),
  )
  order c d p q (above u) = (λ h. earlier_from_under c d u, λ h. greater_from_under c d q u)
  order c d p q (below u) =
      (λ h. absurd (omega (arith, greater_from_under d c p u)), λ h. absurd (earlier_one_way c d h (earlier_from_under d c u)))
  order c d p q (before u) = (λ h. earlier_from_past c d u, λ h. greater_from_past c d p q u)
  order c d p q (after u) =
      (λ h. absurd (omega (arith, greater_from_past d c q p u)), λ h. absurd (earlier_one_way c d h (earlier_from_past d c u)))

  pub words_in_order : WordsInOrder w N
  words_in_order c d p q = order c d p q (standing c d)

  abbrev Led : Label → Label → Type 0
  Led c d = leads N (bits w 1 0 c) (bits w 1 0 d) (word w N c) (word w N d) ≡ true

  pub led_from_under : (c d : Label) → Lawful w N c → Lawful w N d → Under c d → Led c d
  led_from_under c d (f, b) (g, a) u =
      let (q, is) = whole w N 1 0 c b in
      let (more, low, high) = inside w N 1 0 c d g a u in
      leads_from_inside N (bits w 1 0 c) (bits w 1 0 d) (word w N c) (word w N d) q a is more (omega arith, high)

  pub under_from_led : (c d : Label) → Lawful w N c → Lawful w N d → Led c d → Standing c d → Under c d
  under_from_led c d (f, b) (g, a) t st =
      let (q, is) = whole w N 1 0 c b in
      let (more, within) = inside_from_leads N (bits w 1 0 c) (bits w 1 0 d) (word w N c) (word w N d) q a is t in
      elim st [
        | same e ↦ absurd (omega (arith, more, ap (bits w 1 0) e))
        | above u ↦ u
        | below u ↦ absurd (omega (arith, more, (inside w N 1 0 d c f b u).0))
        | before u ↦ absurd (omega (arith, within.1, outside w N 1 0 c d f g b a u))
        | after u ↦ absurd (omega (arith, within.0, greater_from_past d c (g, a) (f, b) u))
      ]

  pub leads_by_levels : LeadsByLevels w N
  leads_by_levels c d p q =
      (λ t. over_from_under c d (under_from_led c d p q t (standing c d)), λ o. led_from_under c d p q (under_from_over c d o))

  pub stands : (c d : Label) → Lawful w N c → Lawful w N d → Stands (relation_of N (bits w 1 0 c) (bits w 1 0 d) (word w N c) (word w N d)) c d
  stands c d p q =
      let P : Relation → Type 0 = λ r. Stands r c d in
      cond_both (eqb (word w N c) (word w N d)) _ _ P (λ t. same_label c d p q (eqb-true _ _ t)) (λ differ.
      cond_both (leads N (bits w 1 0 c) (bits w 1 0 d) (word w N c) (word w N d)) _ _ P (λ t. (leads_by_levels c d p q).0 t) (λ no_c.
      cond_both (leads N (bits w 1 0 d) (bits w 1 0 c) (word w N d) (word w N c)) _ _ P (λ t. (leads_by_levels d c q p).0 t) (λ no_d.
      cond_both (ltb (word w N c) (word w N d)) _ _ P
      (λ t. ((words_in_order c d p q).0 (ltb-true _ _ t), λ o. both_ways _ no_c ((leads_by_levels c d p q).1 o)))
      (λ t.
      let ne = eqb-false (word w N c) (word w N d) differ in
      let ge = ltb-false (word w N c) (word w N d) t in
      ((words_in_order d c q p).0 (grind arith), λ o. both_ways _ no_d ((leads_by_levels d c q p).1 o))))))

  -- the relation of two words that were read
  pub related : (a b : ℕ) (c d : Label) → Of w N c a → Of w N d b → Relates w N a b (Ok (relation_of N (bits w 1 0 c) (bits w 1 0 d) a b))
  related a b c d (p, is) (q, it) = (
    c,
    d,
    (p, is),
    (q, it),
    refl,
    subst (λ (x : ℕ). Stands (relation_of N (bits w 1 0 c) (bits w 1 0 d) x b) c d) is
        (subst (λ (y : ℕ). Stands (relation_of N (bits w 1 0 c) (bits w 1 0 d) (word w N c) y) c d) it (stands c d p q)),
  )

  pub relates : (a b : ℕ) (first second : WordReading) (r : Relation) → Reads w N a (Ok first) → Reads w N b (Ok second)
      → r ≡ relation_of N first.bits second.bits a b → Relates w N a b (Ok r)
  relates a b first second r (c, of, is) (d, og, it) e =
      let same_bits : relation_of N (bits w 1 0 c) (bits w 1 0 d) a b ≡ relation_of N first.bits second.bits a b =
      ap (λ (k : ℕ). relation_of N k (bits w 1 0 d) a b) (sym (ap (λ (q : WordReading). q.bits) is))
      ∙ ap (λ (k : ℕ). relation_of N first.bits k a b) (sym (ap (λ (q : WordReading). q.bits) it)) in
      subst (λ (q : Relation). Relates w N a b (Ok q)) (same_bits ∙ sym e) (related a b c d of og)

  -- what c leads is in its interval, and its next sibling is past that
  pub led_between : LedBetween w N
  led_between c d e p q r over =
      let u = under_from_over c d over in
      (greater_from_under c d q u, λ siblings less. by_standing (standing c e) siblings less)
    where
      past : Past c e → word w N d < word w N e
      past v =
          omega (arith, (inside w N 1 0 c d q.0 q.1 (under_from_over c d over)).2, outside w N 1 0 c e p.0 r.0 p.1 r.1 v)

      by_standing : Standing c e → parent c ≡ parent e → word w N c < word w N e → word w N d < word w N e
      by_standing (same i) siblings less = absurd (omega (arith, ap (word w N) i))
      by_standing (above v) siblings less = absurd (under_siblings c e siblings v)
      by_standing (below v) siblings less = absurd (omega (arith, greater_from_under e c p v))
      by_standing (before v) siblings less = past v
      by_standing (after v) siblings less = absurd (omega (arith, greater_from_past e c r p v))

  -- the end of what a label of fewer than N bits leads
  pub led_to : (c : Label) (bound : ℕ) → Lawful w N c → bound ≡ word w N c + 2 ^ (N - bits w 1 0 c - 1) → LedTo w N c (Some bound)
  led_to c bound p is d q = (led, leads)
    where
      led : Over c d → (word w N c < word w N d) × (word w N d < bound)
      led over = let (more, low, high) = inside w N 1 0 c d q.0 q.1 (under_from_over c d over) in (low, omega (arith, is, high))

      leads : (word w N c < word w N d) × (word w N d < bound) → Over c d
      leads (low, high) =
          elim (standing c d) [
            | same i ↦ absurd (omega (arith, low, ap (word w N) i))
            | above u ↦ over_from_under c d u
            | below u ↦ absurd (omega (arith, low, greater_from_under d c p u))
            | before u ↦ absurd (omega (arith, high, is, outside w N 1 0 c d p.0 q.0 p.1 q.1 u))
            | after u ↦ absurd (omega (arith, low, greater_from_past d c q p u))
          ]

  -- a label of N bits leads nothing
  pub led_none : (c : Label) → N ≤ bits w 1 0 c → LedTo w N c None
  led_none c all d q over = omega (arith, all, q.1, (inside w N 1 0 c d q.0 q.1 (under_from_over c d over)).0)

  -- the same of a word that was read
  module _ (x : ℕ) (reading : WordReading) (read : Reads w N x (Ok reading)) where
    pub ends_led : (bound : ℕ) → bound ≡ x + 2 ^ (N - 1 - reading.bits) → EndsLed w N x (Ok (Some bound))
    ends_led bound is =
        let (c, of, it) = read in
        let e : N - 1 - reading.bits ≡ N - bits w 1 0 c - 1 = omega (arith, ap (λ (q : WordReading). q.bits) it) in
        (c, of, led_to c bound of.0 (is ∙ omega (arith, of.1, ap (λ (j : ℕ). 2 ^ j) e)))

    pub ends_none : N ≤ reading.bits → EndsLed w N x (Ok None)
    ends_none all = let (c, of, it) = read in (c, of, led_none c (omega (arith, all, ap (λ (q : WordReading). q.bits) it)))

    -- the end that Made says of the number of bits behind the separator, if there are any
    pub ends_made : (Made : ℕ → ℕ → Type 0) → ((k bound : ℕ) → Made k bound → bound ≡ x + 2 ^ k) → (behind r : Option ℕ) → SomeIff behind (reading.bits ≤ N - 1) (N - 1 - reading.bits)
        → MatchOption behind (r ≡ None) (λ k. IsSomeAnd r (Made k)) → EndsLed w N x (Ok r)
    ends_made Made by None r few e = subst (λ (q : Option ℕ). EndsLed w N x (Ok q)) (sym e) (ends_none (omega (arith, few)))
    ends_made Made by (Some k) None is h = absurd h
    ends_made Made by (Some k) (Some bound) (few, e) h = ends_led bound (by k bound h ∙ ap (λ (j : ℕ). x + 2 ^ j) e)

    -- the end fits a word
    pub end_fits : reading.bits < N → x + 2 ^ (N - 1 - reading.bits) < 2 ^ N
    end_fits fewer =
        let (c, (p, at), it) = read in
        let k : ℕ = bits w 1 0 c in
        let e : N - 1 - reading.bits ≡ N - k - 1 = omega (arith, ap (λ (q : WordReading). q.bits) it) in
        omega (arith, at, ap (λ (j : ℕ). 2 ^ j) e, Intervals.room w N 1 0 c p.0 p.1, pow_half k N (omega (arith, ap (λ (q : WordReading). q.bits) it)), pow_pos (N - k - 1))
