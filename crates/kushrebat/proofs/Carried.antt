-- What the libraries answer, as the answers of a command. Assumes nothing.
use Rattle.std.proofs.Common.{◌≡◌, ℕ, ◌^◌, ◌<◌, List, Some, Ok, Err, Option, Result, MatchResult, IsOkAnd, sym, subst, arith}
use Rattle.plan.specs.Plans.{by_either, Makes}
use Rattle.plan.specs.declared.any.AnyPlan.{AnyPlan}
use Rattle.plan.specs.declared.fault.PlanFault.{PlanFault}
use Rattle.label.specs.Stops.{Stops}
use Rattle.label.specs.declared.fault.LabelFault.{LabelFault}
use Rattle.label.proofs.Theorems.{one_outcome}
use Rattle.label.proofs.Words.{below}
use Rattle.gap.specs.Between.{Betweens}

-- a plan is made, and is the choice of its kind
pub made : {P : Type 0} (width : P → ℕ → ℕ → ℕ) (chosen : P → AnyPlan) (place : ℕ → ℕ → ℕ) (widths : List ℕ) (r : Result P PlanFault) (o : Result AnyPlan PlanFault) → ((p : P) → Makes width place widths (Ok p) → Makes by_either place widths (Ok (chosen p))) → Makes width place widths r → MatchResult r (λ p. IsOkAnd o (λ a. a ≡ chosen p)) (λ fault. o ≡ Err fault) → Makes by_either place widths o
made width chosen place widths (Ok p) (Ok a) keeps h is = subst (λ q. Makes by_either place widths (Ok q)) (sym is) (keeps p h)
made width chosen place widths (Ok p) (Err fault) keeps h is = absurd is
made width chosen place widths (Err fault) o keeps h is = subst (Makes by_either place widths) (sym is) h

module _ (w : ℕ → ℕ → ℕ) (N parent : ℕ) (lower upper : Option ℕ) where
  -- the label between is a label: reading its word does not stop
  pub never_stops : (x : ℕ) (fault : LabelFault) → Betweens w N parent lower upper (Ok (Some x)) → Stops w N x fault → ⊥
  never_stops x fault (p, of, (c, chosen, is)) stops =
      let lawful = chosen.candidate.lawful in
      let small : x < 2 ^ N = omega (arith, is, below w N 1 0 c lawful.0 lawful.1) in
      (one_outcome w N x small).1 c fault (lawful, sym is) stops
