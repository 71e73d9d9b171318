use Rattle.std.proofs.Common.{rules, tests, vec_items}
use Rattle.kushrebat.specs.Grammar.{left}
use Rattle.kushrebat.proofs.Spelt.{collected}
use Rattle.kushrebat.proofs.script.line.Words.widths.Goals as goal

pub returns : goal.returns
returns c =
    let read = collected _ _ _ _ vec_items (λ m. left m.iter) c.map.result c.try_collect.result c.try_collect.ensures.ran c.try_collect.ensures.err
    (λ s t x h. (h.0.now, h.1, search (rules, tests)))
    (λ s t h. h.0.0)
    (λ p q x h. (h.0, h.1, h.2.0))
    (λ b h. h.0)
    (λ fault h. h.1) in
    rw c.map.ensures.source at read
