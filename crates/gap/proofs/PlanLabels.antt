-- The labels of a width plan are as the laws need them. Assumes nothing.
use Rattle.std.proofs.Common.{◌≡◌, ℕ, ◌-◌, ◌^◌, ◌<◌, ◌≤◌, Bool, true, false, T, ltb, Some, None, Ok, Err, Option, Result, sym, refl, ap, ◌∙◌, subst, arith, pow_pos}
use lib.Pow.{pow-lt}
use Rattle.std.proofs.lemmas.Bool.{cond-true, cond_both, lt-ltb, ltb-true}
use Rattle.label.specs.declared.fault.LabelFault.{LabelFault}
use Rattle.label.specs.Label.{Label, end, parent, bits, word, Lawful, Fits}
use Rattle.label.specs.Reading.{label_of}
use Rattle.label.specs.Relation.{leads}
use Rattle.label.specs.Theorems.{Of}
use Rattle.label.proofs.Words.{below}
use Rattle.label.proofs.Extend.{extend_under, under_trans, parent_extends, extend_bits, fits_extend}
use Rattle.label.proofs.Levels.{over_from_under}
use Rattle.label.proofs.Standing.{Under, standing}
use Rattle.label.proofs.Theorems.{read_back, read_only, same_label, led_between, greater_from_under, led_from_under, under_from_led}
use Rattle.gap.specs.Between.{Betweens, opening, Chosen, Answers}
use Rattle.gap.proofs.Labels.{from_label, one_answer}
use Rattle.gap.proofs.Options.{some_injective, none_ne_some}
use Rattle.gap.specs.Labels.{Sound}
use Rattle.gap.specs.PlanLabels.{Proper, read, label_at, is_label, word_of, parent_of, leads_of, labels_of, LabelsAreSound}

yes : (b : Bool) → b ≡ true → T b
yes b e = subst T (sym e) tt

is_true : (b : Bool) → T b → b ≡ true
is_true true t = refl
is_true false t = absurd t

module _ (w : ℕ → ℕ → ℕ) (N : ℕ) where
  -- a word's label is the lawful one that has the word
  pub at_from : (c : Label) (x : ℕ) → Of w N c x → label_at w N x ≡ Some c
  unfolding label_at
  at_from c x of =
      let small : x < 2 ^ N = omega (arith, of.1, below w N 1 0 c of.0.0 of.0.1) in
      cond-true (ltb x (2 ^ N)) _ _ (lt-ltb x (2 ^ N) small) ∙ ap read (read_back w N c x of)

  pub from_at : (c : Label) (x : ℕ) → label_at w N x ≡ Some c → Of w N c x
  unfolding label_at
  from_at c x =
      cond_both (ltb x (2 ^ N)) _ _ (λ (o : Option Label). o ≡ Some c → Of w N c x)
      (λ small e. read_only w N c x (ltb-true x (2 ^ N) small) (was_read (label_of w N x) e))
      (λ large e. absurd (none_ne_some c e))
    where
      was_read : (r : Result Label LabelFault) → read r ≡ Some c → r ≡ Ok c
      was_read (Ok d) e = ap Ok (some_injective d c e)
      was_read (Err f) e = absurd (none_ne_some c e)

  -- two labels of one word are one
  pub one_of : (c d : Label) (x : ℕ) → Of w N c x → Of w N d x → c ≡ d
  one_of c d x p q = same_label w N c d p.0 q.0 (p.1 ∙ sym q.1)

  pub lawful_parts : (x : ℕ) → T (is_label (label_at w N x)) → (c : Label) × Of w N c x
  lawful_parts x t = go (label_at w N x) refl t
    where
      go : (o : Option Label) → label_at w N x ≡ o → T (is_label o) → (c : Label) × Of w N c x
      go None e t = absurd t
      go (Some c) e t = (c, from_at c x e)

  pub lawful_from : (c : Label) (x : ℕ) → Of w N c x → T (is_label (label_at w N x))
  lawful_from c x of = subst (λ (o : Option Label). T (is_label o)) (sym (at_from c x of)) tt

  parent_lawful : (d c : Label) → Lawful w N d → parent d ≡ Some c → Lawful w N c × Under c d
  parent_lawful d c (fits, few) e =
      let (b, top, is) = parent_extends d c e in
      let few' : bits w 1 0 c ≤ N = omega (arith, few, ap (bits w 1 0) is, extend_bits w 1 0 c b) in
      (((fits_extend w 1 0 c b (subst (Fits w 1 0) is fits)).0, few'), subst (Under c) (sym is) (extend_under c b))

  pub parent_is : (d : Label) (x : ℕ) → Of w N d x → parent_of w N (label_at w N x) ≡ word_of w N (parent d)
  parent_is d x of = ap (parent_of w N) (at_from d x of)

  word_some : (o : Option Label) (p : ℕ) → word_of w N o ≡ Some p → (c : Label) × (o ≡ Some c) × (word w N c ≡ p)
  word_some None p e = absurd (none_ne_some p e)
  word_some (Some c) p e = (c, refl, some_injective (word w N c) p e)

  pub parent_parts : (x p : ℕ) → parent_of w N (label_at w N x) ≡ Some p → (d : Label) × (c : Label) × Of w N d x × (parent d ≡ Some c) × Of w N c p
  parent_parts x p e = go (label_at w N x) refl e
    where
      go : (o : Option Label) → label_at w N x ≡ o → parent_of w N o ≡ Some p → (d : Label) × (c : Label) × Of w N d x × (parent d ≡ Some c) × Of w N c p
      go None is e = absurd (none_ne_some p e)
      go (Some d) is e =
          let of = from_at d x is in
          let (c, at, it) = word_some (parent d) p e in
          (d, c, of, at, ((parent_lawful d c of.0 at).0, it))

  pub leads_from : (c d : Label) (a b : ℕ) → Of w N c a → Of w N d b → Under c d → T (leads_of w N a b (label_at w N a) (label_at w N b))
  leads_from c d a b p q u =
      let led = led_from_under w N c d p.0 q.0 u in
      yes _ (ap (λ (o : Option Label). leads_of w N a b o (label_at w N b)) (at_from c a p)
      ∙ ap (leads_of w N a b (Some c)) (at_from d b q)
      ∙ ap (λ (x : ℕ). leads N (bits w 1 0 c) (bits w 1 0 d) x b) (sym p.1)
      ∙ ap (leads N (bits w 1 0 c) (bits w 1 0 d) (word w N c)) (sym q.1)
      ∙ led)

  pub leads_parts : (a b : ℕ) → T (leads_of w N a b (label_at w N a) (label_at w N b)) → (c : Label) × (d : Label) × Of w N c a × Of w N d b × Under c d
  leads_parts a b t = go (label_at w N a) (label_at w N b) refl refl t
    where
      go : (o q : Option Label) → label_at w N a ≡ o → label_at w N b ≡ q → T (leads_of w N a b o q)
          → (c : Label) × (d : Label) × Of w N c a × Of w N d b × Under c d
      go None q e f t = absurd t
      go (Some c) None e f t = absurd t
      go (Some c) (Some d) e f t =
          let p = from_at c a e in
          let q = from_at d b f in
          let led = ap (λ (x : ℕ). leads N (bits w 1 0 c) (bits w 1 0 d) x (word w N d)) p.1
          ∙ ap (leads N (bits w 1 0 c) (bits w 1 0 d) a) q.1 ∙ is_true _ t in
          (c, d, p, q, under_from_led w N c d p.0 q.0 led (standing c d))

  -- two labels whose parents have one word, or which have none, have one parent
  same_parent : (c d : Label) → Lawful w N c → Lawful w N d → word_of w N (parent c) ≡ word_of w N (parent d) → parent c ≡ parent d
  same_parent c d p q e = go (parent c) (parent d) refl refl e
    where
      go : (o r : Option Label) → parent c ≡ o → parent d ≡ r → word_of w N o ≡ word_of w N r → o ≡ r
      go None None f g e = refl
      go None (Some b) f g e = absurd (none_ne_some (word w N b) e)
      go (Some a) None f g e = absurd (none_ne_some (word w N a) (sym e))
      go (Some a) (Some b) f g e =
          ap Some (same_label w N a b (parent_lawful c a p f).0 (parent_lawful d b q g).0 (some_injective (word w N a) (word w N b) e))

  module _ (proper : Proper w) (enough : 8 ≤ N) where
    abbrev head : Label
    head = end 1

    head_of : Of w N head (word w N head)
    head_of =
        let (low, high) = proper 1 0 in
        let two : 1 < 2 ^ w 1 0 = pow-lt {i = 0} low in
        (((refl, two), omega (arith, high)), refl)

    choice : (p : ℕ) (l u : Option ℕ) (x : ℕ) → Betweens w N p l u (Ok (Some x)) → (c : Label) × (d : Label) × Of w N c p × Chosen w N (opening c l u) d × Of w N d x
    choice p l u x (c, of, (d, chosen, is)) = (c, d, of, chosen, (chosen.candidate.lawful, sym is))

    sound_labels : Sound (labels_of w N)
    sound_labels = record {
      head_positive = omega (arith, pow_pos (N - w 1 0));
      head_lawful = lawful_from head _ head_of;
      head_top = parent_is head _ head_of;
      parent_leads = λ p x e.
          let (d, c, of, at, it) = parent_parts x p e in
          leads_from c d p x it of (parent_lawful d c of.0 at).1;
      leads_less = λ a b t.
          let (c, d, p, q, u) = leads_parts a b t in
          omega (arith, greater_from_under w N c d q.0 u, p.1, q.1);
      leads_trans = λ a b c t s.
          let (x, y, p, q, u) = leads_parts a b t in
          let (y', z, q', r, v) = leads_parts b c s in
          leads_from x z a c p r (under_trans x y z u (subst (λ (i : Label). Under i z) (one_of y' y b q' q) v));
      siblings_apart = λ x y z law e less t.
          let (d, q) = lawful_parts y law in
          let (c, b, p, r, u) = leads_parts x z t in
          let one : parent c ≡ parent d = same_parent c d p.0 q.0 (sym (parent_is c x p) ∙ e ∙ parent_is d y q) in
          omega (arith, (led_between w N c b d p.0 r.0 q.0 (over_from_under c b u)).1 one (omega (arith, less, p.1, q.1)), q.1, r.1);
      choose_lawful = λ p l u x b. let (c, d, of, chosen, at) = choice p l u x b in lawful_from d x at;
      choose_child = λ p l u x b.
          let (c, d, of, chosen, at) = choice p l u x b in
          let (s, child, k) = from_label w N (opening c l u) of.0 d chosen.candidate in
          parent_is d x at ∙ ap (word_of w N) child.parent_is ∙ ap Some of.1;
      choose_above = λ p l u x b. let (c, d, of, chosen, at) = choice p (Some l) u x b in omega (arith, chosen.candidate.over, at.1);
      choose_below = λ p l u x b. let (c, d, of, chosen, at) = choice p l (Some u) x b in omega (arith, chosen.candidate.under, at.1);
      choose_one = λ p l u r q b b'.
          let (c, of, a) = b in
          let (d, of', a') = b' in
          one_answer w N (opening c l u) r q a (subst (λ (i : Label). Answers w N (opening i l u) q) (one_of d c p of' of) a');
    }

pub sound : LabelsAreSound
sound w N proper enough = sound_labels w N proper enough
