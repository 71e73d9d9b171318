use Rattle.std.proofs.Common.{refl, sym, inl, rules}
use denote.Enum.Bare.{same_true, same_false}
use Rattle.shelf.specs.contracts.row.State.{the_type}
use Rattle.shelf.specs.declared.row.State.TheVariants.{Opened}
use Rattle.places.proofs.RowsOf.{stands_as, state_is}
use Rattle.places.proofs.rows.opened_row.Goals as goal

pub returns-in-Some : goal.returns-in-Some
returns-in-Some g c =
    let is = c.in-Some.ensures in
    ((stands_as (g.S.Reading.rows c.args.shelf.now) c.args.label c.in-Some.index c.in-Some.row is Opened (same_true the_type (search rules) _ _ (sym c.if-eq.ensures)), tt), (c.in-Some.row, is))

pub returns-in_default : goal.returns-in_default
returns-in_default g c =
    inl (
      λ k. same_false the_type _ _ (sym c.if-eq.ensures)
          (state_is (g.S.Reading.rows c.args.shelf.now) c.args.label c.in-Some.index c.in-Some.row c.in-Some.ensures
          (g.met.S.Reading.lawful c.args.shelf.now).rising Opened k),
      refl,
    )
