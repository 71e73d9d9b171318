use Rattle.std.proofs.Common.{rules, []}
use Rattle.kushrebat.proofs.command.ask.Goals as goal

pub returns-in_err-asked : goal.returns-in_err-asked
returns-in_err-asked c = let fault = c.in_err-asked.ensures [] in search rules
