use Rattle.std.proofs.Common.{rules}
use Rattle.occ_term.specs.ArraySizes.{AreFew}
use Rattle.occ_term.proofs.Few.{few_product}
use Rattle.occ_term.proofs.sizes.Sizes.few.Goals as goal

pub returns-clause-all : goal.returns-clause-all
returns-clause-all c = let few : AreFew c.args.self.now = search rules in few_product c.args.self.now few
