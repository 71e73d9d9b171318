use Rattle.std.proofs.Common.{◌<◌, length, set, sym, ap, ◌∙◌, arith}
use Rattle.std.proofs.lemmas.List.{length-set}
use Rattle.shelf.specs.Rows.{restated}
use Rattle.chain.specs.Chains.{chain_rows}
use Rattle.chain.proofs.Walks.{length_walked}
use Rattle.chain.proofs.Reset.{reset_rows, reset_inside, reset_rising}
use Rattle.chain.proofs.chain.Chain.restate.Goals as goal

pub invariant_of-self : goal.invariant_of-self
invariant_of-self c =
    let chain = c.args.self.now in
    let ls = chain.links.now in
    let at = c.slot-at.result in
    let h : c.args.index < chain.len = omega (arith, c.requires, chain.long) in
    let in_ls : at < length ls = omega (arith, c.slot-at.ensures.inside, chain.fits) in
    let inside = reset_inside ls chain.head chain.len c.args.index at c.restated.result h c.slot-at.ensures.at in_ls chain.rising chain.inside in
    let up = reset_rising ls chain.head chain.len c.args.index at c.restated.result h c.slot-at.ensures.at in_ls chain.rising
    (ap (λ r. r.label) c.restated.ensures) in
    record { few = chain.few; fits = simp length-set chain.fits; inside = inside; long = length_walked _ chain.head chain.len; rising = up }

pub returns-clause-rows : goal.returns-clause-rows
returns-clause-rows c =
    let chain = c.args.self.now in
    let ls = chain.links.now in
    let at = c.slot-at.result in
    let i = c.args.index in
    let h : i < chain.len = omega (arith, c.requires, chain.long) in
    let in_ls : at < length ls = omega (arith, c.slot-at.ensures.inside, chain.fits) in
    reset_rows ls chain.head chain.len i at c.restated.result h c.slot-at.ensures.at in_ls chain.rising
    ∙ ap (set (chain_rows chain) i) (c.restated.ensures ∙ ap (λ r. restated r c.args.state c.args.card) (sym c.slot-at.ensures.row))
