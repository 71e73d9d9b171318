use Rattle.std.proofs.Common.{rules, [], ◌∷◌}
use Rattle.kushrebat.specs.Grammar.{a_word, a_bound}
use Rattle.kushrebat.proofs.Spelt.{later, readable}
use Rattle.kushrebat.proofs.command.between.Goals as goal

pub returns-in_err-parent : goal.returns-in_err-parent
returns-in_err-parent c = let fault = c.in_err-parent.ensures (a_bound ∷ a_bound ∷ []) in search rules

pub returns-in_err-lower : goal.returns-in_err-lower
returns-in_err-lower c =
    let (ds, is, parent) = c.in_ok-parent.ensures in
    let fault = later a_word (a_bound ∷ a_bound ∷ []) _ ds _ _ is parent.0 (c.in_err-lower.ensures (a_bound ∷ [])) in search rules

pub returns-in_err-upper : goal.returns-in_err-upper
returns-in_err-upper c =
    let (ds, is, parent) = c.in_ok-parent.ensures in
    let (es, then, lower) = c.in_ok-lower.ensures in
    let behind = later a_bound (a_bound ∷ []) _ es _ _ then (readable es _ lower) (c.in_err-upper.ensures []) in
    let fault = later a_word (a_bound ∷ a_bound ∷ []) _ ds _ _ is parent.0 behind in search rules
