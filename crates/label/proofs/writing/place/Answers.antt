use Rattle.std.proofs.Common.{◌≡◌, ℕ, ◌-◌, ◌*◌, ◌^◌, ◌<◌, ◌≤◌, ap, ◌∙◌, arith, pow_pos, pow_mono}
use Rattle.label.specs.Label.{word_bits}
use Rattle.label.proofs.Pieces.{in_front}
use Rattle.label.proofs.writing.place.Goals as goal

-- what is behind the subvalue
behind : (c : goal.After-power-2) → c.power-2.result ≡ 2 ^ (c.args.spot.left - c.args.width)
behind c = c.power-2.ensures ∙ ap (λ (m : ℕ). 2 ^ m) (omega (arith, c.in_ok-behind.ensures))

pub overflow_mul-result : goal.overflow_mul-result
overflow_mul-result c =
    let s : ℕ = c.from-value.result in
    let k : ℕ = c.args.width in
    let n : ℕ = c.args.spot.left in
    let small : s < 2 ^ k = omega (arith, c.power.ensures, c.if-value-power.false) in
    let fits : s * 2 ^ (n - k) < 2 ^ n = omega (arith, in_front k n s 0 (omega (arith, c.in_ok-behind.ensures)) small (pow_pos (n - k))) in
    let whole : 2 ^ n ≤ 2 ^ word_bits = pow_mono c.args.spot.within in
    omega (arith, ap (λ (m : ℕ). s * m) (behind c))
