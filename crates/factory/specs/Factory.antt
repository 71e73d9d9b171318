-- What the factory shelf means: its table. Assumes nothing.
use Rattle.std.specs.Prelude.{List}
use Rattle.shelf.specs.declared.row.Row.{Row}
use Rattle.shelf.specs.Rows.{LawfulRows}
use Rattle.factory.specs.declared.factory.FactoryShelf.{FactoryShelf}
use Rattle.factory.specs.Rises.{rising_from_test}

abbrev pub factory_rows : FactoryShelf → List Row
factory_rows f = f.rows.now

-- what every factory shelf keeps
pub factory_lawful : (f : FactoryShelf) → LawfulRows (factory_rows f)
factory_lawful f = record { few = f.few; rising = rising_from_test (factory_rows f) f.rising }
