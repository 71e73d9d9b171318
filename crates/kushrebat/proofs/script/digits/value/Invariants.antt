use Rattle.std.proofs.Common.{◌≡◌, take}
use Rattle.std.specs.Str.Parse.{digits_value}
use Rattle.kushrebat.specs.Numerals.{Held}
use Rattle.kushrebat.proofs.script.digits.value.Given as goal

abbrev pub invariant-loop-c : goal.invariant-loop-c
invariant-loop-c g l = (l.value ≡ digits_value g.row.BASE (take l.c-index l.digits)) × Held g.row.BASE (take l.c-index l.digits)
