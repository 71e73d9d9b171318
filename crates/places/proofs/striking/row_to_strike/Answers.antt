use Rattle.std.proofs.Common.{not, sym, refl, ap, ◌∙◌, inl, inr}
use Rattle.std.proofs.lemmas.Bool.Decides.{not_from_Decides}
use Rattle.shelf.specs.declared.row.State.TheVariants.{Filled}
use Rattle.laws.specs.Calls.{NotBare}
use Rattle.neighbours.specs.Planned.{labels, rows}
use Rattle.places.proofs.Bare.{not_bare, occupied}
use Rattle.places.proofs.RowsOf.{state_test, opposite}
use Rattle.places.proofs.striking.row_to_strike.Goals as goal

pub returns-then-ne : goal.returns-then-ne
returns-then-ne g c =
    let (known, is) = c.in_ok-index.ensures in
    let up = (g.met.S.Reading.lawful c.args.planned.now.shelf.now).rising in
    let test = state_test (rows g.S.Reading c.args.planned.now) c.args.label c.in_ok-index.index c.in_ok-index.row is up Filled _ (opposite _ _ c.ne.ensures) in
    inr (known.0, inr (λ e. c.if-label-head_label.false (e ∙ sym c.head_label.ensures), inl (not_from_Decides _ test (ap not c.if-ne.true), refl)))

pub returns-then-stands_below : goal.returns-then-stands_below
returns-then-stands_below g c =
    let rs = rows g.S.Reading c.args.planned.now in
    let (known, is) = c.in_ok-index.ensures in
    let up = (g.met.S.Reading.lawful c.args.planned.now.shelf.now).rising in
    let test = state_test rs c.args.label c.in_ok-index.index c.in_ok-index.row is up Filled _ (opposite _ _ c.ne.ensures) in
    let below = not_bare (labels g.P.WidthPlan c.args.planned.now) rs c.args.label (c.stands_below.ensures.0 c.if-stands_below.true) in
    inr (known.0, inr (λ e. c.if-label-head_label.false (e ∙ sym c.head_label.ensures), inr (test.0 (ap not c.if-ne.false), inl (λ bare. bare below, refl))))

pub returns : goal.returns
returns g c =
    let rs = rows g.S.Reading c.args.planned.now in
    let (known, is) = c.in_ok-index.ensures in
    let up = (g.met.S.Reading.lawful c.args.planned.now.shelf.now).rising in
    let test = state_test rs c.args.label c.in_ok-index.index c.in_ok-index.row is up Filled _ (opposite _ _ c.ne.ensures) in
    let L = labels g.P.WidthPlan c.args.planned.now in
    let bare : ¬ (NotBare L rs c.args.label) = λ k. not_from_Decides _ c.stands_below.ensures c.if-stands_below.false (occupied L rs c.args.label k) in
    ((known.0, (λ e. c.if-label-head_label.false (e ∙ sym c.head_label.ensures), (test.0 (ap not c.if-ne.false), (bare, tt)))), (c.in_ok-index.row, is))
