-- A sheet is laid exactly when an answered lay stands in its history. Assumes nothing.
use Rattle.std.proofs.Common.{◌≡◌, ℕ, Bool, T, ◌⊎◌, ◌↔◌, [], ◌∷◌, Some, None, sym, refl, ap, ◌∙◌, subst, inl, inr}
use Rattle.gap.specs.Labels.{Labels}
use Rattle.laws.specs.Sheet.{Sheet, Call, Lay, Open, Fill, GiveUp, Strike, Read, Start, Next, Pause, Resume, Stop, Answer}
use Rattle.laws.specs.Calls.{Does, Step}
use Rattle.laws.specs.History.{Event, History, answered, is_lay, LayAnswered}
use Rattle.laws.specs.Laws.{NewlyMade, Run}

-- an answered lay
abbrev Lays : Call → Answer → Type 0
Lays call answer = T (is_lay call) × T (answered answer)

-- a call that is no lay leaves the sheet laid as it was
stays : (m : Sheet) (call : Call) (answer : Answer) (m' n : Sheet) → m' ≡ n → n.laid ≡ m.laid → ¬ (T (is_lay call))
    → T m'.laid ↔ (T m.laid ⊎ Lays call answer)
stays m call answer m' n b same other =
    let e : m'.laid ≡ m.laid = ap (λ (o : Sheet). o.laid) b ∙ same in
    (λ t. inl (subst T e t), λ t. elim t [ inl u ↦ subst T (sym e) u | inr l ↦ absurd (other l.0) ])

module _ (L : Labels) where
  -- after a call the sheet is laid where it was laid, or where this is an answered lay
  done_laid : (m : Sheet) (call : Call) (answer : Answer) (m' : Sheet) → Does L m call answer m'
      → T m'.laid ↔ (T m.laid ⊎ Lays call answer)
  done_laid m (Lay c) answer m' (a, b) =
      (λ t. inr (tt, subst (λ (z : Answer). T (answered z)) (sym a) tt), λ t. subst (λ (n : Sheet). T n.laid) (sym b) tt)
  done_laid m (Open x w) answer m' (y, label, a, b) = stays m (Open x w) answer m' _ b refl (λ t. t)
  done_laid m (Fill x c) answer m' (a, b) = stays m (Fill x c) answer m' _ b refl (λ t. t)
  done_laid m (GiveUp x) answer m' (a, b) = stays m (GiveUp x) answer m' _ b refl (λ t. t)
  done_laid m (Strike x) answer m' (a, b) = stays m (Strike x) answer m' _ b refl (λ t. t)
  done_laid m (Read x) answer m' (found, b) = stays m (Read x) answer m' _ b refl (λ t. t)
  done_laid m (Start permit) answer m' (a, b) = stays m (Start permit) answer m' _ b refl (λ t. t)
  done_laid m Next answer m' (None, next, (a, b)) = stays m Next answer m' _ b refl (λ t. t)
  done_laid m Next answer m' (Some (i, r), next, (a, b)) = stays m Next answer m' _ b refl (λ t. t)
  done_laid m Pause answer m' (a, b) = stays m Pause answer m' _ b refl (λ t. t)
  done_laid m Resume answer m' (a, b) = stays m Resume answer m' _ b refl (λ t. t)
  done_laid m Stop answer m' (a, b) = stays m Stop answer m' _ b refl (λ t. t)

  module _ (is_card : ℕ → Bool) where
    step_laid : (m : Sheet) (call : Call) (answer : Answer) (m' : Sheet) → Step L is_card m call answer m'
        → T m'.laid ↔ (T m.laid ⊎ Lays call answer)
    step_laid m call answer m' (inl (n, down, a, b)) =
        let e : m'.laid ≡ m.laid = ap (λ (o : Sheet). o.laid) b in (
          λ t. inl (subst T e t),
          λ t. elim t [ inl u ↦ subst T (sym e) u | inr l ↦ absurd (subst (λ (z : Answer). T (answered z)) a l.1) ],
        )
    step_laid m call answer m' (inr (ok, d)) = done_laid m call answer m' d

    pub laid_by_lay : (made m : Sheet) (h : History) → NewlyMade made → Run L is_card made h m → T m.laid ↔ LayAnswered h
    laid_by_lay made m [] new same =
        (λ t. absurd (subst T new.unlaid (subst (λ (o : Sheet). T o.laid) (sym same) t)), λ k. absurd k.2)
    laid_by_lay made m (e ∷ h) new (before, run, step) =
        let then = laid_by_lay made before h new run in (to then.0, from then.1)
      where
        now : T m.laid ↔ (T before.laid ⊎ Lays e.call e.answer)
        now = step_laid before e.call e.answer m step

        to : (T before.laid → LayAnswered h) → T m.laid → LayAnswered (e ∷ h)
        to then t =
            elim (now.0 t) [
              | inl u ↦ let (f, past, was, lay, done) = then u in (f, past, inr was, lay, done)
              | inr l ↦ (e, h, inl (refl, refl), l.0, l.1)
            ]

        from : (LayAnswered h → T before.laid) → LayAnswered (e ∷ h) → T m.laid
        from then (f, past, inl (p, q), lay, done) = now.1 (inr (subst (λ (g : Event). Lays g.call g.answer) (sym p) (lay, done)))
        from then (f, past, inr was, lay, done) = now.1 (inl (then (f, past, was, lay, done)))
