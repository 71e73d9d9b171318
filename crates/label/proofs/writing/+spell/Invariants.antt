use Rattle.label.proofs.writing.+spell.Given as goal

abbrev pub decreases-spell : goal.decreases-spell
decreases-spell g l = l.spot.left
