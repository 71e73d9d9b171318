use Rattle.kushrebat.proofs.Numbers.{label_word}
use Rattle.kushrebat.proofs.script.word.word.Goals as goal

pub returns-then-digits-eq-DIGITS : goal.returns-then-digits-eq-DIGITS
returns-then-digits-eq-DIGITS c = label_word _ _ c.if-digits-eq-DIGITS.true c.value.ensures
