use Rattle.std.proofs.Common.{◌≡◌, ◌*◌, ◌<◌, length, get_or, ap, ◌∙◌, arith}
use Rattle.std.specs.Char.{digit_value}
use Rattle.kushrebat.proofs.Numbers.{step, no_digit, too_large}
use Rattle.kushrebat.proofs.script.digits.value.Goals as goal

pub returns-in_err-digit : goal.returns-in_err-digit
returns-in_err-digit g c =
    let l : c.loop-c.c-index < length c.args.digits.now = omega arith in
    rw c.from_residual.ensures
    (λ h. no_digit g.row.BASE _ _ _ l c.from.ensures c.in_err-digit.ensures.value h.0)

pub returns-in_err-checked_mul : goal.returns-in_err-checked_mul
returns-in_err-checked_mul g c =
    let l : c.loop-c.c-index < length c.args.digits.now = omega arith in
    let base = ap (λ n. c.loop-c.value * n) c.from-in-loop-c.ensures in
    rw c.from_residual-in_err-checked_mul.ensures
    (too_large g.row.BASE _ _ _ (omega arith) l c.loop-c.invariant.0 (λ fits. c.in_err-checked_mul.ensures (omega (arith, base))))

pub returns-in_err-value : goal.returns-in_err-value
returns-in_err-value g c =
    let l : c.loop-c.c-index < length c.args.digits.now = omega arith in
    let base = ap (λ n. c.loop-c.value * n) c.from-in-loop-c.ensures in
    let d : c.from-in-loop-c-2.result ≡ digit_value (get_or c.args.digits.now c.loop-c.c-index 0) =
    c.from-in-loop-c-2.ensures ∙ c.in_ok-digit.ensures.value.1 ∙ ap digit_value c.from.ensures in
    rw c.from_residual-in_err-value.ensures
    (too_large g.row.BASE _ _ _ (omega arith) l c.loop-c.invariant.0 (λ fits. c.in_err-value.ensures (omega (arith, base, d, c.in_ok-checked_mul.ensures.1))))

pub loop-c-preserved : goal.loop-c-preserved
loop-c-preserved g c =
    let l : c.loop-c.c-index < length c.args.digits.now = omega arith in
    let base = ap (λ n. c.loop-c.value * n) c.from-in-loop-c.ensures in
    let digit = c.in_ok-digit.ensures.value in
    let s = step g.row.BASE _ _ _ c.from-in-loop-c-2.result c.from.result l c.loop-c.invariant.0 c.loop-c.invariant.1.0 c.from.ensures digit.0 (c.from-in-loop-c-2.ensures ∙ digit.1) in
    let sum = c.in_ok-value.ensures in
    (omega (arith, base, s.0, sum.1, c.in_ok-checked_mul.ensures.1), (s.1, omega (arith, base, s.0, sum.0, sum.1, c.in_ok-checked_mul.ensures.1)))
