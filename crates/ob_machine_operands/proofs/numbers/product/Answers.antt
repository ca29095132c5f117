use Rattle.std.proofs.Common.{rules}
use Rattle.ob_machine_operands.proofs.Products.{product_between}
use Rattle.ob_machine_operands.proofs.numbers.product.Goals as goal

pub returns-clause-least : goal.returns-clause-least
returns-clause-least c = (product_between c.args.x c.args.y _ c.ranges.x c.ranges.y (search rules)).0

pub returns-clause-most : goal.returns-clause-most
returns-clause-most c = (product_between c.args.x c.args.y _ c.ranges.x c.ranges.y (search rules)).1
