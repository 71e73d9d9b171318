use Rattle.std.proofs.Common.{◌≡◌, rules, sym, ap}
use Rattle.card.specs.Ranges.{some_bounded}
use Rattle.card.specs.declared.fault.CardFault.TheVariants.{NoCard}
use Rattle.std.specs.Option.{ok_or}
use Rattle.card.proofs.bounded.Bounded.new.Goals as goal

-- the number that is made is the one that `bounded` makes
pub returns-in-Ok-clause-made : goal.returns-in-Ok-clause-made
returns-in-Ok-clause-made g c =
    let same : c.in-Ok.value ≡ c.args.number = search rules in
    rw (← same) (sym (ap (λ o. ok_or o NoCard) (some_bounded g.row.LOW g.row.HIGH _)))
