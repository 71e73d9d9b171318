-- The example run, computed. Assumes nothing.
use Rattle.std.proofs.Common.{◌≡◌, ℕ, Bool, false, ◌||◌, T, eqb, List, [], ◌∷◌, ◌++◌, Some, None, Option, sym, refl, ap, ◌∙◌, subst, inl, inr, arith, lit≤, eqb→eq}
use mathlib.Core.List.{reverse_aux}
use lib.Dec.{eqb_refl}
use Rattle.label.specs.Reading.{label_of, scan}
use Rattle.gap.specs.Labels.{Labels, Sound}
use Rattle.gap.specs.PlanLabels.{Proper, label_at}
use Rattle.gap.specs.Examples.{all}
use Rattle.gap.proofs.PlanLabels.{sound}
use Rattle.laws.specs.Sheet.{Sheet, Fill, Next, Done, Obey, End}
use Rattle.laws.specs.Drawing.{Place}
use Rattle.laws.specs.History.{Event, History, obeys, drawing, firing, Obeyed, ObeyedPlace, FilledBehind}
use Rattle.laws.specs.Laws.{Run}
use Rattle.laws.specs.Example.{labels, first, front, is_card, new_sheet, ◌gets◌, calls, before_end, history, last_sheet, behind, ExampleRuns}
use Rattle.laws.proofs.Tests.{and_first, or_first, or_second}
use Rattle.laws.proofs.Totals.{Choosing, stepped, plan_choosing}

-- ## A list of calls, answered

module _ (L : Labels) (S : Sound L) (C : Choosing L) (is_card : ℕ → Bool) where
  -- the calls of some events, with the answers that they get from the sheet m on
  abbrev replay : (m : Sheet) → List Event → List Event
  replay m [] = []
  replay m (e ∷ es) =
      let (answer, m', step) = stepped L S C is_card m e.call in (e.call gets answer) ∷ replay m' es

  -- the sheet then
  abbrev replayed : (m : Sheet) → List Event → Sheet
  replayed m [] = m
  replayed m (e ∷ es) = replayed (stepped L S C is_card m e.call).1 es

  replay_runs : (made m : Sheet) (h : History) → Run L is_card made h m → (es : List Event)
      → Run L is_card made (reverse_aux (replay m es) h) (replayed m es)
  replay_runs made m h r [] = r
  replay_runs made m h r (e ∷ es) =
      let (answer, m', step) = stepped L S C is_card m e.call in
      replay_runs made m' ((e.call gets answer) ∷ h) (m, r, step) es

-- ## What was obeyed, as a test

abbrev is_label : Option ℕ → ℕ → Bool
is_label None x = false
is_label (Some y) x = eqb y x

abbrev was_obeyed : History → ℕ → Bool
was_obeyed [] x = false
was_obeyed (e ∷ h) x = is_label (obeys e.answer) x || was_obeyed h x

obeyed_was : (h : History) (x : ℕ) → Obeyed h x → T (was_obeyed h x)
obeyed_was [] x (e, before, was, o) = absurd was
obeyed_was (f ∷ h) x (e, before, inl (p, q), o) =
    let same : obeys f.answer ≡ Some x = ap (λ (g : Event). obeys g.answer) p ∙ o in
    or_first (is_label (obeys f.answer) x) (was_obeyed h x) (subst (λ (l : Option ℕ). T (is_label l x)) (sym same) (eqb_refl x))
obeyed_was (f ∷ h) x (e, before, inr was, o) =
    or_second (is_label (obeys f.answer) x) (was_obeyed h x) (obeyed_was h x (e, before, was, o))

-- ## The example

fours : Proper (all 4)
fours level position = (lit≤ tt, lit≤ tt)

-- the calls get the answers that are written there, and the sheet then is the last one, since they compute to these
runs : Run labels is_card new_sheet history last_sheet
unfolding label_of scan label_at
runs =
    replay_runs labels (sound (all 4) 64 fours (lit≤ tt)) (plan_choosing (all 4) 64 fours) is_card new_sheet new_sheet [] refl
    (calls ++ ((Next gets End) ∷ []))

-- the first place: it had been obeyed before the fill, and is struck at the end
abbrev struck : Place
struck = record { serial = 3; label = first; filled = false }

filled_behind : FilledBehind (firing before_end) (drawing before_end) behind
filled_behind = (
  Fill front 104 gets Done,
  _,
  front,
  struck,
  inr (inr (inr (inr (inr (inr (inr (inr (inr (inl (refl, refl)))))))))),
  (104, refl, tt),
  (inr (inl (inl refl)), tt),
  (first, (Next gets Obey first 102, _, inr (inr (inl (refl, refl))), refl), (inr (inl (inr (inr (inl refl)))), tt)),
  inr (inr (inl (inl (refl, inr (inl refl))))),
)

not_obeyed : ¬ (ObeyedPlace (firing before_end) (drawing before_end) behind)
not_obeyed (x, o, names) =
    let same : front ≡ x = eqb→eq front x (and_first (eqb front x) _ names.1) in
    subst (λ z. T (was_obeyed (firing before_end) z)) (sym same) (obeyed_was (firing before_end) x o)

pub example_runs : ExampleRuns
example_runs = (record { rising = λ i j less l. absurd (omega arith); unlaid = refl; rests = refl }, runs, filled_behind, not_obeyed)
