-- Device: the reading of a program's globals, and of a whole text, by the code's steps.
use Rattle.std.specs.Prelude.{ℕ, List, [], Option, Some, None, Result, Ok, Err}
use Rattle.std.specs.Option.{option_map, option_and_then}
use Rattle.cil_base.specs.declared.kinds.Abi.{Abi}
use Rattle.cil_tree.specs.declared.globals.CilUnit.{CilUnit}
use Rattle.cil_tree.specs.Tree.{Local, GlobalDecl}
use Rattle.cil_tree.specs.Programs.{SeenAggregate}
use Rattle.cil_text.specs.ReadExps.{Env, bases}
use Rattle.cil_text.specs.ReadAggregates.{Lines}
use Rattle.cil_text.specs.ReadGlobals.{Declaration, Seen, read_declarations, read_objects, read_bodies}
use Rattle.cil_declarators.specs.declared.stop.Stop.{Stop}
use Rattle.cil_declarators.specs.declared.stop.Stop.TheVariants.{NotCil, WantOfMemory}
use Rattle.cil_reader.specs.Settings.{with_globals, outside}
use Rattle.cil_reader.specs.Globals.{named_apart, globals_with}
use Rattle.cil_reader.specs.Bodies.{bodied}
use Rattle.cil_reader.specs.Stops.{IsNoText}

-- globals behind which no line stands
abbrev pub whole_globals : List GlobalDecl × Lines → Option (List GlobalDecl)
whole_globals (xs, []) = Some xs
whole_globals _ = None

-- behind objects: bodies, and no line more
abbrev pub bodies_read : Env → ℕ → List Declaration → List GlobalDecl × Lines → Option (List GlobalDecl)
bodies_read env n ds r = option_and_then whole_globals (option_map (bodied 0 r.0) (read_bodies (outside env) n ds r.1))

-- behind declarations
unfoldable pub defined_read : Env → ℕ → List Declaration → Lines → Option (List GlobalDecl)
defined_read env n ds lines = option_and_then (bodies_read env n ds) (option_map (globals_with ds) (read_objects env n ds lines))

abbrev pub declared_read : Env → ℕ → List Declaration × Lines → Option (List GlobalDecl)
declared_read env n r = option_and_then (λ (ls : List Local). defined_read (outside (with_globals env ls)) n r.0 r.1) (named_apart r.0)

-- behind aggregates
unfoldable pub globals_read : Env → ℕ → Lines → Option (List GlobalDecl)
globals_read env n lines = option_and_then (declared_read env n) (read_declarations (bases env) n lines)

abbrev pub with_aggregates : List SeenAggregate → List GlobalDecl → Seen
with_aggregates xs gs = (xs, gs)

-- bytes are refused where they are the text of no program of the data model; want of memory says nothing of them
abbrev pub Refuses : Abi → List ℕ → Result CilUnit Stop → Type 0
Refuses abi bytes (Ok u) = Unit {0}
Refuses abi bytes (Err NotCil) = IsNoText abi bytes
Refuses abi bytes (Err WantOfMemory) = Unit {0}
