use Rattle.std.proofs.Common.{rules, [], ◌∷◌}
use Rattle.kushrebat.specs.Grammar.{a_word}
use Rattle.kushrebat.proofs.Spelt.{later}
use Rattle.kushrebat.proofs.command.relate.Goals as goal

pub returns-in_err-first : goal.returns-in_err-first
returns-in_err-first c = let fault = c.in_err-first.ensures (a_word ∷ []) in search rules

pub returns-in_err-second : goal.returns-in_err-second
returns-in_err-second c =
    let (ds, is, first) = c.in_ok-first.ensures in
    let fault = later a_word (a_word ∷ []) _ ds _ _ is first.0 (c.in_err-second.ensures []) in search rules
