use Rattle.std.proofs.Common.{refl, inl}
use Rattle.kushrebat.proofs.session.ask.Goals as goal

pub returns : goal.returns
returns c =
    inl (c.in_ok-reading.reading, c.in_ok-text.text, refl, c.in_ok-reading.ensures.reads, c.in_ok-text.ensures)
