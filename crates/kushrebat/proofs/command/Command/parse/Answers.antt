use Rattle.std.proofs.Common.{sym, ap, ◌∙◌}
use Rattle.kushrebat.specs.Lines.{words_of}
use Rattle.kushrebat.proofs.Spelt.{spelled}
use Rattle.kushrebat.proofs.command.Command.parse.Goals as goal

pub returns : goal.returns
returns c =
    let first = ap words_of (sym (c.of-words.ensures ∙ c.without_comment.ensures)) ∙ c.in-Some.ensures.steps in
    spelled _ _ _ _ _ first c.in_ok-name.ensures c.in_ok-parse_behind.ensures
