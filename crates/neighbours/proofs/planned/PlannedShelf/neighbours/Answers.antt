use Rattle.std.proofs.Common.{None, sym, subst}
use Rattle.laws.specs.declared.place.Where.{Where}
use Rattle.neighbours.specs.Next.{Neighbours}
use Rattle.neighbours.specs.Planned.{labels, rows}
use Rattle.neighbours.proofs.NextSiblings.{first_under, last_under, before, after}
use Rattle.neighbours.proofs.WordReads.{plan_sound}
use Rattle.neighbours.proofs.planned.PlannedShelf.neighbours.Goals as goal

pub returns-in-FirstUnder : goal.returns-in-FirstUnder
returns-in-FirstUnder g c =
    let plan = c.args.self.now.plan.now in
    let L = labels g.P.WidthPlan c.args.self.now in
    let rs = rows g.S.Reading c.args.self.now in
    let S = plan_sound (g.P.WidthPlan.width plan) (g.met.P.WidthPlan.low plan) (g.met.P.WidthPlan.high plan) in
    subst (λ (x : Where). Neighbours L rs x c.args.site.label c.args.parent (None, c.first_child.result)) (sym c.in-FirstUnder.is)
    (first_under L rs (g.met.S.Reading.lawful c.args.self.now.shelf.now).rising c.args.site.label c.args.parent S c.rank-start.result c.rank-start.ensures c.first_child.result c.first_child.ensures)

pub returns-in-LastUnder : goal.returns-in-LastUnder
returns-in-LastUnder g c =
    let L = labels g.P.WidthPlan c.args.self.now in
    let rs = rows g.S.Reading c.args.self.now in
    subst (λ (x : Where). Neighbours L rs x c.args.site.label c.args.parent (c.last_child.result, None)) (sym c.in-LastUnder.is)
    (last_under L rs (g.met.S.Reading.lawful c.args.self.now.shelf.now).rising c.args.site.label c.args.parent c.in-Some.end c.rank.result c.in-Some.ensures.children c.rank.ensures
    c.last_child.result c.last_child.ensures)

pub returns-in-Before : goal.returns-in-Before
returns-in-Before g c =
    let L = labels g.P.WidthPlan c.args.self.now in
    let rs = rows g.S.Reading c.args.self.now in
    let around = c.children_around.ensures in
    subst (λ (x : Where). Neighbours L rs x c.args.site.label c.args.parent c.children_around.result) (sym c.in-Before.is)
    (before L rs (g.met.S.Reading.lawful c.args.self.now.shelf.now).rising c.args.site.label c.args.parent c.rank-in-Before.result c.rank-in-Before.ensures _ _ around.lower around.upper)

pub returns-in-After : goal.returns-in-After
returns-in-After g c =
    let L = labels g.P.WidthPlan c.args.self.now in
    let rs = rows g.S.Reading c.args.self.now in
    let around = c.children_around-in-After.ensures in
    subst (λ (x : Where). Neighbours L rs x c.args.site.label c.args.parent c.children_around-in-After.result) (sym c.in-After.is)
    (after L rs (g.met.S.Reading.lawful c.args.self.now.shelf.now).rising c.args.site.label c.args.parent c.rank_past.result c.rank_past.ensures _ _ around.lower around.upper)
