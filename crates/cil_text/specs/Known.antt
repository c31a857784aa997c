-- Device: what a reader knows of a program: its aggregates and globals with names and types.
use Rattle.std.specs.Prelude.{if◌then◌else◌, List, [], Some, None, map}
use Rattle.type_graph.specs.declared.aggregates.Aggregate.{Aggregate}
use Rattle.type_graph.specs.declared.aggregates.Member.{Member}
use Rattle.type_graph.specs.Shapes.{shape}
use Rattle.cil_tree.specs.Tree.{Local, GlobalDecl, Program}
use Rattle.cil_tree.specs.Typing.{Scope, is_enum}
use Rattle.cil_tree.specs.Text.{member_name}
use Rattle.cil_tree.specs.Names.{tags}
use Rattle.cil_text.specs.ReadTypes.{Bases}
use Rattle.cil_text.specs.ReadExps.{Env}

abbrev pub known_member : Program → Member → Local
known_member p m = record { name = member_name p m; type = Some (shape p.graph.nodes m.ty.of.0) }

-- the members that an expression can name: those of structs and unions
abbrev pub known_members : Program → Aggregate → List Local
known_members p x = if is_enum x.kind then [] else elim x.members [ None ↦ [] | Some ms ↦ map (known_member p) ms ]

abbrev pub known_global : GlobalDecl → Local
known_global x = record { name = x.name; type = x.type }

abbrev pub bases_of : Program → Bases
bases_of p = record { abi = p.graph.abi; tags = tags p }

abbrev pub known_of : Program → List Local → Env
known_of p locals = record {
  abi = p.graph.abi;
  tags = tags p;
  members = map (known_members p) p.graph.aggs;
  globals = map known_global p.globals;
  locals = locals;
}

abbrev pub env_of : Scope → Env
env_of c = known_of c.program c.locals
