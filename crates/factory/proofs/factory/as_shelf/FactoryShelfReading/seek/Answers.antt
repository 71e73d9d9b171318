use Rattle.std.proofs.Common.{rules}
use Rattle.factory.specs.Factory.{factory_lawful}
use Rattle.factory.proofs.factory.as_shelf.FactoryShelfReading.seek.Goals as goal

pub returns : goal.returns
returns c = let up = (factory_lawful c.args.self.now).rising in search rules
