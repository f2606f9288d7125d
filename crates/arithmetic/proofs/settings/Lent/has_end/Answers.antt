-- `arithmetic::settings::Lent::has_end` meets its contract: there is room for the length exactly where the sum fits. Assumes nothing.
use Rattle.arithmetic.specs.RoundingLaws.{room}
use borrow.Author.Rules.{rules}
use Rattle.arithmetic.proofs.settings.Lent.has_end.Goals as goal

pub returns : goal.returns
returns c = room c.args.self.address c.args.self.length (search rules)
