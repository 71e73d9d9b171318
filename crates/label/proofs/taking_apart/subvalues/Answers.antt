use Rattle.std.proofs.Common.{◌∙◌, arith}
use Rattle.label.specs.Label.{word_bits}
use Rattle.label.proofs.Pieces.{behind_fits}
use Rattle.label.proofs.Apart.{taken_none, taken_ends, taken_more}
use Rattle.label.proofs.taking_apart.subvalues.Goals as goal

pub returns-in_default : goal.returns-in_default
returns-in_default g c = absurd (taken_none _ word_bits _ c.width-width.ensures.is c.pieces.invariant.1 c.in_default.ensures)

pub returns-in_default-behind : goal.returns-in_default-behind
returns-in_default-behind g c = λ d of.
    c.push.ensures.list ∙ taken_ends _ word_bits _ c.width-width.ensures.is c.pieces.invariant.1 d c.in-Some.ensures c.in_default-behind.is of

pub behind-cursor-requires : goal.behind-cursor-requires
behind-cursor-requires g c =
    behind_fits c.pieces.cursor.small
    c.in-Some.ensures c.in-Some-behind.is

pub pieces-preserved : goal.pieces-preserved
pieces-preserved g c =
    let fits = behind_fits c.pieces.cursor.small
    c.in-Some.ensures c.in-Some-behind.is in (
      omega (arith, fits.0, c.push.ensures.count, c.behind-cursor.ensures.left, c.width-width.ensures.low),
      taken_more _ word_bits _ c.width-width.ensures.is c.pieces.invariant.1 c.in-Some.ensures c.in-Some-behind.is
          c.behind-cursor.ensures.left c.behind-cursor.ensures.rest c.behind-cursor.ensures.level c.behind-cursor.ensures.position c.push.ensures.list,
    )
