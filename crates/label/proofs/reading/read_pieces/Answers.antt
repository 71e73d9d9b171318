use Rattle.std.proofs.Common.{◌≡◌, ℕ, ◌+◌, ◌-◌, true, None, Some, Option, cond, sym, ap, ◌∙◌, arith}
use Rattle.std.proofs.lemmas.Bool.{cond-true, cond-false}
use Rattle.std.proofs.lemmas.Result.{err_from_is_err_and}
use Rattle.std.specs.Option.{ok_or}
use Rattle.label.specs.declared.fault.LabelFault.TheVariants.{Short}
use Rattle.label.specs.declared.piece.Piece.{Piece}
use Rattle.label.specs.Label.{word_bits, stands_at}
use Rattle.label.proofs.Pieces.{behind_fits}
use Rattle.label.proofs.Readings.{cut, gather_start, gather_missing, gather_zero, gather_ends, gather_more}
use Rattle.label.proofs.reading.read_pieces.Given as given
use Rattle.label.proofs.reading.read_pieces.Goals as goal
use Rattle.label.proofs.reading.read_pieces.Goals.{After-bit-in-pieces, then-piece-2, else-piece-2, else-piece-via-then-piece+else-not-takes, else-piece-via-else-piece}

pub pieces-init : goal.pieces-init
pieces-init g c =
    rw (c.start-cursor.ensures.left, c.start-cursor.ensures.rest, c.start-cursor.ensures.place.0, c.start-cursor.ensures.place.1)
    (gather_start (g.P.WidthPlan.width c.args.plan.now) word_bits c.args.word c.ranges.word.fits)

pub returns-in_err-piece : goal.returns-in_err-piece
returns-in_err-piece g c =
    let none : None ≡ c.piece.result = sym c.in_err-piece.ensures.ok_part in
    let is = gather_missing _ word_bits _ c.width-width.ensures.is c.pieces.invariant (none ∙ c.piece.ensures) in
    let failed = err_from_is_err_and c.from_residual.result c.from_residual.ensures.1 in
    let short = c.in_err-piece.ensures.value ∙ ap (λ (o : Option Piece). ok_or o (Short c.bit.result)) (sym none) in
    let fault : c.in_err-piece.field-0.0 ≡ Short (word_bits - c.pieces.cursor.spot.left) = cc (short, c.bit.ensures) in
    rw (failed.1, failed.2, fault) is

pub returns-then-not-takes : goal.returns-then-not-takes
returns-then-not-takes g c =
    let is = gather_zero _ word_bits _ c.width-width.ensures.is c.pieces.invariant (sym c.in_ok-piece.ensures.ok_part ∙ c.piece.ensures) c.if-not-takes.ensures in
    cc (c.bit-then-not-takes.ensures)

-- a subvalue that is not turned down may stand at its spot: it does not end its level, or it was asked
stands : (g : given.Over) (c : After-bit-in-pieces g) → true ≡ stands_at c.pieces.cursor.spot.position c.in_ok-piece.piece.subvalue.value c.in_ok-piece.piece.subvalue.ends_level
stands g c = elim c.else-piece.branch [ else-piece-via-then-piece+else-not-takes w ↦ w.if-not-takes.ensures | else-piece-via-else-piece w ↦ sym (cond-false _ _ _ w.if-piece.false) ]

pub returns-in_default : goal.returns-in_default
returns-in_default g c =
    let is = gather_ends _ word_bits _ c.width-width.ensures.is c.pieces.invariant (sym c.in_ok-piece.ensures.ok_part ∙ c.piece.ensures) (stands g c.before) c.in_default.is in
    cc (c.bit-in-pieces.ensures)

pub behind-cursor-requires : goal.behind-cursor-requires
behind-cursor-requires g c =
    behind_fits c.pieces.cursor.small
    (sym c.in_ok-piece.ensures.ok_part ∙ c.piece.ensures) c.in-Some.is

pub pieces-preserved : goal.pieces-preserved
pieces-preserved g c =
    let k : ℕ = c.width-width.result in
    let n : ℕ = c.pieces.cursor.spot.left in
    let at = sym c.in_ok-piece.ensures.ok_part ∙ c.piece.ensures in
    let fits = behind_fits c.pieces.cursor.small at c.in-Some.is in
    let behind : word_bits - (c.bit-in-pieces.result + k) ≡ n - k = omega (arith, fits.0, c.bit-in-pieces.ensures, c.pieces.cursor.spot.within) in
    let above : c.if-piece-2.parent ≡ cond c.in_ok-piece.piece.subvalue.ends_level (Some (cut c.args.word (n - k))) c.pieces.parent =
    elim c.if-piece-2.branch [
      | then-piece-2 w ↦ w.parent-is ∙ ap Some (w.padded.ensures ∙ ap (cut c.args.word) behind) ∙ sym (cond-true _ _ _ w.if-piece-2.true)
      | else-piece-2 w ↦ w.parent-is ∙ sym (cond-false _ _ _ w.if-piece-2.false)
    ] in
    gather_more _ word_bits _ c.width-width.ensures.is c.pieces.invariant at (stands g c.before.before.before) c.in-Some.is fits.0
    c.behind-cursor.ensures.left c.behind-cursor.ensures.rest c.behind-cursor.ensures.level c.behind-cursor.ensures.position above
