use Rattle.kushrebat.specs.Lines.{comment}
use Rattle.kushrebat.proofs.Cuts.{take_first}
use Rattle.kushrebat.proofs.script.line.without_comment.Goals as goal

pub returns : goal.returns
returns c = take_first comment _ _ c.find.ensures
