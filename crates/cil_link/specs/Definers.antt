-- Device: what the entity of a global is by that global alone, and by one after another.
use Rattle.std.specs.Prelude.{◌&&◌, not, if◌then◌else◌, Option, Some, None}
use Rattle.host_calls.specs.declared.names.HostName.{HostName}
use Rattle.cil_base.specs.declared.numbers.EntityId.{EntityId}
use Rattle.cil_base.specs.declared.numbers.UnitNo.{UnitNo}
use Rattle.execution.specs.Linking.{host_names, named_among}
use Rattle.cil_tree.specs.Tree.{GlobalDecl, Definition, Declared, Zeros, Image, Function}
use Rattle.cil_semantics.specs.Runs.{has_function_type}
use Rattle.cil_link.specs.declared.entities.Definer.{Definer}
use Rattle.cil_link.specs.declared.entities.Definer.TheVariants.{Nothing, Global, Host as OfHost}

-- the function of the host that a name stands for where nothing defines it
abbrev pub host_of : GlobalDecl → Option HostName
host_of x = if not x.internal && has_function_type x.type then named_among host_names x.name else None

abbrev pub undefined_is : Option HostName → Definer
undefined_is None = Nothing
undefined_is (Some name) = OfHost name

-- what the global with that number in that unit is
abbrev pub definer_by : UnitNo → EntityId → Definition → Option HostName → Definer
definer_by unit e Declared o = undefined_is o
definer_by unit e Zeros o = Global unit e
definer_by unit e (Image items) o = Global unit e
definer_by unit e (Function body) o = Global unit e

abbrev pub definer_of : UnitNo → EntityId → GlobalDecl → Definer
definer_of unit e x = definer_by unit e x.definition (host_of x)

-- the first definition counts, and else a declaration as a function, whatever else declares it before
abbrev pub first_definer : Definer → Definer → Definer
first_definer (Global unit e) new = Global unit e
first_definer Nothing new = new
first_definer (OfHost name) (Global unit e) = Global unit e
first_definer (OfHost name) Nothing = OfHost name
first_definer (OfHost name) (OfHost other) = OfHost name
