-- What the reading of a word says of the labels of its plan. Assumes nothing.
use Rattle.std.proofs.Common.{◌≡◌, ℕ, ◌≤◌, T, Some, None, Ok, Err, Option, Result, Decides, is_ok, sym, refl, ap, ◌∙◌, subst, arith, lit≤}
use Rattle.label.specs.declared.reading.WordReading.{WordReading}
use Rattle.label.specs.declared.fault.LabelFault.{LabelFault}
use Rattle.label.specs.Label.{Label, parent, word, word_bits}
use Rattle.label.specs.Stops.{Stops}
use Rattle.label.specs.Theorems.{Reads}
use Rattle.label.proofs.Theorems.{read_back, stop_back}
use Rattle.gap.specs.Labels.{Sound}
use Rattle.std.specs.Result.{result_ok}
use Rattle.gap.specs.PlanLabels.{label_at, is_label, parent_of, word_of, labels_of}
use Rattle.gap.proofs.PlanLabels.{parent_is, leads_parts, lawful_from, from_at, sound}

module _ (w : ℕ → ℕ → ℕ) (N : ℕ) where
  word_same : (o : Option Label) → word_of w N o ≡ elim o [ None ↦ None | Some p ↦ Some (word w N p) ]
  word_same None = refl
  word_same (Some p) = refl

  module _ (x : ℕ) (reading : WordReading) (r : Reads w N x (Ok reading)) where
    pub read_parent : (labels_of w N).parent x ≡ reading.parent
    read_parent =
        let (c, of, is) = r in
        parent_is w N c x of ∙ word_same (parent c) ∙ sym (ap (λ (z : WordReading). z.parent) is)

    pub read_lawful : T ((labels_of w N).lawful x)
    read_lawful = let (c, of, is) = r in lawful_from w N c x of

  module _ (x : ℕ) (e : LabelFault) (stopped : Stops w N x e) where
    unread : label_at w N x ≡ None
    unread = go (label_at w N x) refl
      where
        go : (o : Option Label) → label_at w N x ≡ o → o ≡ None
        go None is = refl
        go (Some c) is =
            let u = read_back w N c x (from_at w N c x is) in
            let v = stop_back w N x e stopped in
            absurd (let z : ◌≡◌ {A = ℕ} 0 1 = cc in omega arith)

    pub unread_parent : (labels_of w N).parent x ≡ None
    unread_parent = ap (parent_of w N) unread

    pub unread_unlawful : ¬ (T ((labels_of w N).lawful x))
    unread_unlawful t = subst (λ (o : Option Label). T (is_label o)) unread t

  -- so the reading that is kept, or that none is, tells the parent and whether there is a label
  abbrev parent_in : Option WordReading → Option ℕ
  parent_in None = None
  parent_in (Some reading) = reading.parent

  pub parent_read : (x : ℕ) (r : Result WordReading LabelFault) → Reads w N x r → (o : Option WordReading) → o ≡ result_ok r
      → (labels_of w N).parent x ≡ parent_in o
  parent_read x (Ok reading) reads o e = read_parent x reading reads ∙ sym (ap parent_in e)
  parent_read x (Err fault) stops o e = unread_parent x fault stops ∙ sym (ap parent_in e)

  pub label_read : (x : ℕ) (r : Result WordReading LabelFault) → Reads w N x r → Decides (is_ok r) (T ((labels_of w N).lawful x))
  label_read x (Ok reading) reads = (λ _. read_lawful x reading reads, λ _. refl)
  label_read x (Err fault) stops = (λ e. absurd (cc), λ t. absurd (unread_unlawful x fault stops t))

  -- a word that is no label's leads nothing
  pub stopped_leads : (x : ℕ) (e : LabelFault) → Stops w N x e → (y : ℕ) → T ((labels_of w N).leads x y) → ⊥
  stopped_leads x e stopped y t =
      let (c, d, p, q, u) = leads_parts w N x y t in
      let read = read_back w N c x p in
      let stop = stop_back w N x e stopped in
      let z : ◌≡◌ {A = ℕ} 0 1 = cc in omega arith

-- a plan's labels are as the laws need them
pub plan_sound : (w : ℕ → ℕ → ℕ) → ((l i : ℕ) → 1 ≤ w l i) → ((l i : ℕ) → w l i ≤ 8) → Sound (labels_of w word_bits)
plan_sound w low high = sound w word_bits (λ l i. (low l i, high l i)) (lit≤ tt)
