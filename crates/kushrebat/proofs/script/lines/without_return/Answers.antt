use Rattle.std.proofs.Common.{[], ◌∷◌}
use Rattle.std.proofs.lemmas.Bool.Decides.{Decides-eqb}
use Rattle.std.proofs.lemmas.Slice.Eq.{strip_suffix_is}
use Rattle.kushrebat.specs.Lines.{carriage_return}
use Rattle.kushrebat.proofs.Cuts.{stripped}
use Rattle.kushrebat.proofs.script.lines.without_return.Goals as goal

pub returns : goal.returns
returns c =
    stripped _ _ c.strip_suffix.result (strip_suffix_is Decides-eqb c.args.line.now (carriage_return ∷ []) c.strip_suffix.result c.strip_suffix.ensures.cases) c.unwrap_or.ensures
