-- Definition: the plain tree that a typed function, entity or unit of the code stands for, and its greatest number of a type, and one more.
use Rattle.std.specs.Prelude.{ℕ, suc, max, List, [], ◌∷◌, map}
use Rattle.type_graph.specs.declared.nodes.Node.{Node}
use Rattle.type_graph.specs.Shapes.{shape}
use Rattle.typed_tree.specs.declared.units.Definition.{Definition}
use Rattle.typed_tree.specs.declared.units.Definition.TheVariants.{Declared, Zero, Initialised, Body}
use Rattle.typed_tree.specs.declared.units.Entity.{Entity}
use Rattle.typed_tree.specs.declared.units.TypedFunction.{TypedFunction}
use Rattle.typed_tree.specs.declared.units.TypedLiteral.{TypedLiteral}
use Rattle.typed_tree.specs.declared.units.TypedLocal.{TypedLocal}
use Rattle.typed_tree.specs.declared.units.TypedUnit.{TypedUnit}
use Rattle.typed_tree.specs.StatementView.{stmts_of, top_stmts}
use Rattle.typed_tree.specs.Top.{top_init}
use Rattle.typed_tree.specs.Units as plain
use Rattle.typed_tree.specs.View.{typed_init_of}

abbrev pub local_of : List Node → TypedLocal → plain.Local
local_of nodes l = record { name = l.name; quals = l.ty.quals; shape = shape nodes l.ty.of.0 }

abbrev pub literal_of : List Node → TypedLiteral → plain.Literal
literal_of nodes l = record { quals = l.ty.quals; shape = shape nodes l.ty.of.0 }

abbrev pub function_of : List Node → TypedFunction → plain.Function
function_of nodes f = record {
  params = f.params;
  locals = map (local_of nodes) f.locals.items;
  literals = map (literal_of nodes) f.literals.items;
  labels = f.labels.items;
  body = stmts_of nodes f.body.items;
}

abbrev pub definition_of : List Node → Definition → plain.Definition
definition_of nodes Declared = plain.Declared
definition_of nodes Zero = plain.Zero
definition_of nodes (Initialised init) = plain.Initialised (typed_init_of nodes init)
definition_of nodes (Body f) = plain.Body (function_of nodes f)

abbrev pub entity_of : List Node → Entity → plain.Entity
entity_of nodes e = record {
  name = e.name;
  shape = shape nodes e.ty.0;
  constant = e.constant;
  kind = e.kind;
  first = e.first;
  defined = e.defined;
  bare = e.bare;
  kept = e.kept;
  definition = definition_of nodes e.definition;
}

abbrev pub unit_of : TypedUnit → plain.Unit
unit_of u = record { types = u.types; entities = map (entity_of u.types.nodes) u.entities.items; ordinary = u.ordinary.items }

abbrev pub top_locals : List TypedLocal → ℕ
top_locals [] = 0
top_locals (l ∷ ls) = max (suc l.ty.of.0) (top_locals ls)

abbrev pub top_literals : List TypedLiteral → ℕ
top_literals [] = 0
top_literals (l ∷ ls) = max (suc l.ty.of.0) (top_literals ls)

abbrev pub top_function : TypedFunction → ℕ
top_function f = max (max (top_locals f.locals.items) (top_literals f.literals.items)) (top_stmts f.body.items)

abbrev pub top_definition : Definition → ℕ
top_definition Declared = 0
top_definition Zero = 0
top_definition (Initialised init) = top_init init
top_definition (Body f) = top_function f

abbrev pub top_entity : Entity → ℕ
top_entity e = max (suc e.ty.0) (top_definition e.definition)

abbrev pub top_entities : List Entity → ℕ
top_entities [] = 0
top_entities (e ∷ es) = max (top_entity e) (top_entities es)
