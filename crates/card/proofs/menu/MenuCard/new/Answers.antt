use Rattle.std.proofs.Common.{◌≡◌, sym, ap, rules}
use Rattle.card.specs.MenuWords.{some_menu}
use Rattle.card.specs.declared.fault.CardFault.TheVariants.{NoCard}
use Rattle.std.specs.Option.{ok_or}
use Rattle.card.proofs.menu.MenuCard.new.Goals as goal

-- the card that is made is the one that `menu_of` makes
pub returns-in-Ok-clause-made : goal.returns-in-Ok-clause-made
returns-in-Ok-clause-made c =
    let same : c.in-Ok.start ≡ c.args.start = search rules in
    rw (← same) (sym (ap (λ o. ok_or o NoCard) (some_menu _ c.args.length c.args.action c.in_ok-length.ensures.exact c.in_ok-action.ensures.exact)))
