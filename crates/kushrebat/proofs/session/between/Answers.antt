use Rattle.std.proofs.Common.{refl, inl}
use Rattle.label.specs.Label.{word_bits}
use Rattle.plan.specs.Plans.{by_either}
use Rattle.kushrebat.proofs.Carried.{never_stops}
use Rattle.kushrebat.proofs.session.between.Goals as goal

pub returns-in_err-text : goal.returns-in_err-text
returns-in_err-text c =
    let place = rw c.in_ok-word.ensures.ok_part at c.in_ok-between.ensures in
    absurd (never_stops (by_either c.args.plan.now) word_bits _ _ _ _ _ place c.in_err-text.ensures)

pub returns : goal.returns
returns c =
    let place = rw c.in_ok-word.ensures.ok_part at c.in_ok-between.ensures in
    inl (c.in_ok-word.word, c.in_ok-text.text, refl, place, c.in_ok-text.ensures)
