use Rattle.std.proofs.Common.{rules}
use Rattle.label.specs.Label.{word_bits}
use Rattle.label.proofs.Theorems.{ends_made, end_fits}
use Rattle.label.proofs.leading.led_end.Goals as goal

pub map-requires : goal.map-requires
map-requires g c =
    let fits = end_fits _ word_bits _ _ c.in_ok-reading.ensures.reads in
    search rules

pub returns : goal.returns
returns g c =
    ends_made _ word_bits _ _ c.in_ok-reading.ensures.reads _ (λ k bound made. search rules) c.checked_sub.result c.map.result c.checked_sub.ensures c.map.ensures.cases
