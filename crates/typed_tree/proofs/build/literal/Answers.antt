use Rattle.std.proofs.Common.{refl}
use Rattle.typed_tree.proofs.Views.{built_literal}
use Rattle.typed_tree.proofs.build.literal.Goals as goal

-- the node is seen over its list
pub returns : goal.returns
returns c = built_literal c.made.result c.args.ty _ c.args.n c.args.init refl c.made.ensures
