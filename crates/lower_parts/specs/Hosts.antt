-- Device: the address of what a place begins with, and the variable that a place is.
use Rattle.std.specs.Prelude.{◌≡◌, Bool, true, false, List}
use Rattle.type_graph.specs.declared.nodes.Node.{Node}
use Rattle.cil_tree.specs.declared.expressions.Exp.{Exp}
use Rattle.cil_tree.specs.declared.expressions.Host.{Host, Global, Var, At'}
use Rattle.cil_tree.specs.declared.expressions.Lval.{Lval}
use Rattle.cil_tree.specs.Tree as plain
use Rattle.cil_tree.specs.View.{exp_of, host_of}
use Rattle.lower_parts.specs.declared.places.Kept.{Kept}
use Rattle.lower_parts.specs.declared.places.Kept.TheVariants.{Global as ToGlobal, Local as ToLocal, Behind}
use Rattle.lower_parts.specs.Code.{address, Names}

pub record IsHostAddress (host : Host) (x : Exp) : Type 0 where
  pub at : (nodes : List Node) → exp_of nodes x ≡ address (plain.Place (host_of nodes host) plain.Here)

abbrev pub is_behind : Host → Bool
is_behind (Global n) = false
is_behind (Var n) = false
is_behind (At' p pointer) = true

abbrev pub IsWhole : Kept → Lval → Type 0
IsWhole (ToGlobal n) place = Names (ToGlobal n) place
IsWhole (ToLocal n) place = Names (ToLocal n) place
IsWhole (Behind n) place = ⊥
