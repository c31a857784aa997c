-- Definition: whether two integer types are one.
use Rattle.std.specs.Prelude.{Bool}
use Rattle.cil_base.specs.declared.kinds.IntKind.{IntKind}
use Rattle.cil_base.specs.contracts.kinds.IntKindPartialEq.TheImpl.{ghosts}

abbrev pub same_kind : IntKind → IntKind → Bool
same_kind k j = ghosts.eq k j
