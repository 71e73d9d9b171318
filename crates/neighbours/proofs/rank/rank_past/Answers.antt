use Rattle.std.proofs.Common.{arith}
use mir.Facts.{Fits-of_lt}
use Rattle.neighbours.proofs.NextSiblings.{past_here, past_between}
use Rattle.shelf.proofs.Ranks.{index_some}
use Rattle.neighbours.proofs.rank.rank_past.Goals as goal

pub overflow_add-result : goal.overflow_add-result
overflow_add-result g c =
    let shelf = c.args.shelf.now in
    Fits-of_lt (omega (arith, (index_some (g.S.Reading.rows shelf) c.args.label c.in-Ok.index c.in-Ok.ensures.0).0, (g.met.S.Reading.lawful shelf).few))

pub returns-in-Ok : goal.returns-in-Ok
returns-in-Ok g c = past_here (g.S.Reading.rows c.args.shelf.now) (g.met.S.Reading.lawful c.args.shelf.now).rising c.args.label c.in-Ok.index c.in-Ok.ensures

pub returns-in-Err : goal.returns-in-Err
returns-in-Err g c = past_between (g.S.Reading.rows c.args.shelf.now) (g.met.S.Reading.lawful c.args.shelf.now).rising c.args.label c.in-Err.index c.in-Err.ensures
