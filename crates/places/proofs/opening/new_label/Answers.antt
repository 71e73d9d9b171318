use Rattle.std.proofs.Common.{ℕ, Some, sym, subst}
use Rattle.label.specs.Label.{word_bits}
use Rattle.laws.specs.Calls.{place_checks}
use Rattle.laws.specs.Openings.{LabelFor}
use Rattle.neighbours.proofs.WordReads.{plan_sound}
use Rattle.neighbours.specs.Planned.{labels, rows}
use Rattle.places.specs.Checked.{Checked}
use Rattle.places.proofs.NewPlaces.{label_found, parent_reads}
use Rattle.places.proofs.opening.new_label.Goals as goal

pub unreachable-requires : goal.unreachable-requires
unreachable-requires g c =
    let parent = c.in_ok-parent.ensures in
    parent_reads (g.P.WidthPlan.width c.args.planned.now.plan.now) word_bits (rows g.S.Reading c.args.planned.now) c.args.site.label c.args.site.place parent.0
    c.in_ok-parent.parent parent.1 c.in_default.field-0 c.in_default.ensures

pub returns : goal.returns
returns g c =
    let plan = c.args.planned.now.plan.now in
    let L = labels g.P.WidthPlan c.args.planned.now in
    let rs = rows g.S.Reading c.args.planned.now in
    let S = plan_sound (g.P.WidthPlan.width plan) (g.met.P.WidthPlan.low plan) (g.met.P.WidthPlan.high plan) in
    let parent = c.in_ok-parent.ensures in
    subst (Checked (place_checks L rs c.args.site.label c.args.site.place) (λ (x : ℕ). LabelFor L rs c.args.site.place c.args.site.label (Some x))) (sym c.ok_or.ensures.value)
    (label_found L S rs c.args.site.label c.args.site.place parent.0 c.in_ok-parent.parent parent.1 c.neighbours-lower.result.0 c.neighbours-lower.result.1 c.neighbours-lower.ensures
    c.in-Ok.choice c.in-Ok.ensures)
