use Rattle.std.proofs.Common.{None}
use Rattle.label.specs.Label.{word_bits}
use Rattle.gap.specs.Gap.{gap_of}
use Rattle.gap.proofs.Turns.{Searching}
use Rattle.gap.proofs.gap.least_child.Given as goal

-- The search stands at the frontier. Its bounds are `low` and `high`, so the gap's own are left out.
abbrev pub invariant-loop-position : goal.invariant-loop-position
invariant-loop-position g l =
    Searching (gap_of word_bits l.parent l.fn.reading.bits (g.P.WidthPlan.width l.plan l.level) None None)
    l.low l.high l.position l.frontier.floor l.frontier.next l.frontier.room
