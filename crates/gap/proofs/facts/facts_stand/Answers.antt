use Rattle.gap.proofs.Choose.{some_answer}
use Rattle.gap.proofs.Labels.{candidates_are_children, candidates_are_labels, one_answer}
use Rattle.gap.proofs.PlanLabels.{sound}
use Rattle.gap.proofs.facts.facts_stand.Goals as goal

pub returns : goal.returns
returns c =
    record {
      children = candidates_are_children;
      labels = candidates_are_labels;
      one = one_answer;
      some = some_answer;
      sound = sound;
    }
