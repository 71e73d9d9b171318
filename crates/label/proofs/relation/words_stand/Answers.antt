use Rattle.label.proofs.Levels.{levels_same, levels_all}
use Rattle.label.proofs.Theorems.{one_label, one_outcome, reading_is, leads_by_levels, words_in_order, led_between}
use Rattle.label.proofs.relation.words_stand.Goals as goal

pub returns : goal.returns
returns c =
    record {
      labels = (levels_same, levels_all);
      words = one_label;
      outcomes = one_outcome;
      reading = reading_is;
      leads = leads_by_levels;
      order = words_in_order;
      between = led_between;
    }
