use Rattle.std.proofs.Common.{refl}
use Rattle.typed_tree.proofs.Views.{built_call}
use Rattle.typed_tree.proofs.build.call.Goals as goal

-- the node is seen over its list
pub returns : goal.returns
returns c = built_call c.made.result c.unqualified.result _ _ c.args.callee c.args.arguments c.unqualified.ensures refl c.made.ensures
