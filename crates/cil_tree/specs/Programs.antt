-- Definition: CIL programs: which are well-formed, which bytes are a text of one, and when two are equal (own).
use Rattle.std.specs.Prelude.{◌≡◌, ℕ, ◌≤◌, true, List, Option, length, map, ℤ}
use Rattle.std.specs.List.{list_all}
use Rattle.std.specs.Option.{option_map}
use Rattle.cil_base.specs.Limits.{text_bytes}
use Rattle.type_graph.specs.declared.aggregates.AggKind.{AggKind}
use Rattle.type_graph.specs.declared.aggregates.Aggregate.{Aggregate}
use Rattle.type_graph.specs.declared.aggregates.Member.{Member}
use Rattle.type_graph.specs.Shapes.{Shape, shape}
use Rattle.type_graph.specs.Arena.{IsArena}
use Rattle.cil_tree.specs.declared.globals.CilUnit.{CilUnit}
use Rattle.cil_tree.specs.Tree.{Program}
use Rattle.cil_tree.specs.View.{text_at, program_of}
use Rattle.cil_tree.specs.Text.{member_name, Text}
use Rattle.cil_tree.specs.WellFormedTypes.{AreTypes}
use Rattle.cil_tree.specs.Names.{AreNames}
use Rattle.cil_tree.specs.Globals.{global_fits}

-- a well-formed program; it is what a tree of the code stands for, over an arena of types, so that each type in it is one of the arena's
pub record IsProgram (p : Program) : Type 0 where
  pub arena : IsArena p.graph
  pub unit : CilUnit
  pub seen : program_of p.names unit ≡ p
  pub types : AreTypes p.graph
  pub names : AreNames p
  pub globals : list_all (global_fits p) p.globals ≡ true

-- the bytes are the CIL text of the program
pub record IsTextOf (bytes : List ℕ) (p : Program) : Type 0 where
  pub program : IsProgram p
  pub text : bytes ≡ Text p
  pub short : length bytes ≤ text_bytes

-- a member by its name, its type and its value; members of well-formed programs have no qualifiers, so these are left out
pub record SeenMember : Type 0 where
  pub name : List ℕ
  pub type : Shape
  pub value : ℤ

pub record SeenAggregate : Type 0 where
  pub kind : AggKind
  pub tag : Option (List ℕ)
  pub members : Option (List SeenMember)

abbrev pub seen_member : Program → Member → SeenMember
seen_member p m = record { name = member_name p m; type = shape p.graph.nodes m.ty.of.0; value = m.value }

abbrev pub seen_aggregate : Program → Aggregate → SeenAggregate
seen_aggregate p x = record { kind = x.kind; tag = option_map (text_at p.names) x.tag; members = option_map (map (seen_member p)) x.members }

-- programs are equal where they agree after numbers of types are followed to aggregates' numbers, and those of names to texts
pub record SameProgram (p q : Program) : Type 0 where
  pub abi : p.graph.abi ≡ q.graph.abi
  pub aggregates : map (seen_aggregate p) p.graph.aggs ≡ map (seen_aggregate q) q.graph.aggs
  pub globals : p.globals ≡ q.globals
