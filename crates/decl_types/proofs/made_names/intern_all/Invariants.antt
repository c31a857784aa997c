use Rattle.std.proofs.Common.{◌≡◌, drop, map}
use Rattle.cil_base.specs.NamePool.{Stays, interned_all}
use Rattle.decl_types.specs.MadeNames.{made_text}
use Rattle.decl_types.proofs.made_names.intern_all.Given as goal

abbrev pub invariant-loop-k : goal.invariant-loop-k
invariant-loop-k l = (interned_all l.names (map made_text (drop l.k-index l.fresh)) ≡ interned_all l.fn.names (map made_text l.fresh)) × Stays l.fn.names l.names
