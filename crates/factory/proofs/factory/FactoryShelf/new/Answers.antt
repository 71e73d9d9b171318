use Rattle.std.proofs.Common.{refl}
use Rattle.label.specs.Reading.{label_of, scan}
use Rattle.factory.proofs.Whole.{whole_from_test}
use Rattle.factory.proofs.factory.FactoryShelf.new.Goals as goal

-- the test over the whole table, computed
pub returns : goal.returns
unfolding label_of scan
returns c = whole_from_test _ refl
