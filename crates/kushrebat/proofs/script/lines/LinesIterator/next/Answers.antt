use Rattle.std.proofs.Common.{◌≡◌, ◌-◌, ◌++◌, rules, tests, eqb, [], ◌∷◌, length, drop, sym, ap, ◌∙◌, arith, length-drop}
use Rattle.std.proofs.lemmas.Bool.{eqb-true, eqb-false}
use Rattle.std.proofs.lemmas.Bool.Decides.{Decides-eqb}
use Rattle.std.proofs.lemmas.List.{take_all}
use Rattle.std.proofs.Math.Seq.{drop-append_seam}
use Rattle.std.proofs.lemmas.List.Sorted.{answers_always}
use Rattle.std.proofs.lemmas.Slice.Eq.{strip_suffix_is}
use Rattle.kushrebat.specs.Lines.{line_feed}
use Rattle.kushrebat.proofs.Cuts.{a_line}
use Rattle.kushrebat.proofs.script.lines.LinesIterator.next.Goals as goal

pub returns-clause-steps : goal.returns-clause-steps
returns-clause-steps c =
    let bs = c.args.self.now.rest.now in
    let line = c.in_ok-line.line in
    let rest = c.next.new.self.rest.now in
    let (whole, (n, long, places), some) = c.in_ok-line.ensures.steps in
    let first = places (λ x. eqb x line_feed) (answers_always _ _ _ (λ f a r f' called. search (rules, tests))) in
    let ends = strip_suffix_is Decides-eqb line.now (line_feed ∷ []) c.strip_suffix.result c.strip_suffix.ensures.cases in
    let cut = a_line _ rest line c.map_or.result n c.strip_suffix.result _ whole
    (λ k l. eqb-false _ _ (first.1.0 k 0 (omega arith) l))
    (λ l. eqb-true _ _ (first.1.1 l 0)) long ends c.map_or.ensures (λ x says. search (rules, tests)) in
    let e : bs ≡ line.now ++ rest = sym c.split_inclusive.ensures.rest ∙ whole in
    let tail = take_all (length bs - length line.now) (drop (length line.now) bs) (omega (arith, length-drop (length line.now) bs))
    ∙ ap (drop (length line.now)) e ∙ drop-append_seam line.now rest in
    let (got, left) = rw c.split_inclusive.ensures.rest at cut in (got, tail ∙ left)
