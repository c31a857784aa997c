-- Definition: functions, objects with static storage duration and translation units as plain trees (C11 6.9): types are shapes with qualifiers, in which an aggregate stands by its number.
use Rattle.std.specs.Prelude.{ℕ, Bool, List, Option}
use Rattle.cil_base.specs.declared.faults.Place.{Place}
use Rattle.cil_base.specs.declared.numbers.NameId.{NameId}
use Rattle.type_graph.specs.declared.nodes.Quals.{Quals}
use Rattle.type_graph.specs.Arena.{Graph}
use Rattle.type_graph.specs.Shapes.{Shape}
use Rattle.typed_tree.specs.declared.units.EntityKind.{EntityKind}
use Rattle.typed_tree.specs.declared.units.Ordinary.{Ordinary}
use Rattle.typed_tree.specs.Statements.{Stmts}
use Rattle.typed_tree.specs.Tree.{Inits}

-- a parameter, or a declared object with automatic storage duration
pub record Local : Type 0 where
  pub name : NameId
  pub quals : Quals
  pub shape : Shape

-- a compound literal in a function (C11 6.5.2.5)
pub record Literal : Type 0 where
  pub quals : Quals
  pub shape : Shape

-- the body of a function (C11 6.9.1): the parameters are the first locals; locals, compound literals and the labels' names stand by their numbers
pub record Function : Type 0 where
  pub params : ℕ
  pub locals : List Local
  pub literals : List Literal
  pub labels : List NameId
  pub body : Stmts

-- a definition in the unit: none, zero bytes (C11 6.7.9p10, 6.9.2p2), an initialiser, or a function's body
pub data Definition : Type 0 where
  Declared : Definition
  Zero : Definition
  Initialised : (init : Inits) → Definition
  Body : (function : Function) → Definition

-- an object with static storage duration, or a function: its linkage, the places of its first declaration and of its definition, whether it is const, bare or kept
pub record Entity : Type 0 where
  pub name : NameId
  pub shape : Shape
  pub constant : Bool
  pub kind : EntityKind
  pub first : Place
  pub defined : Option Place
  pub bare : Bool
  pub kept : Bool
  pub definition : Definition

-- a translation unit: its types, its entities by their numbers, and the names that no other unit sees in the order of their places
pub record Unit : Type 0 where
  pub types : Graph
  pub entities : List Entity
  pub ordinary : List Ordinary
