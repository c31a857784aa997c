-- Device: lines that are printed one behind the other, and tokens that open and close no brace.
use Rattle.std.specs.Prelude.{◌≡◌, ℕ, ◌<◌, ◌&&◌, not, Bool, true, List, [], ◌∷◌, Some, length, slice_get}
use Rattle.std.specs.List.{list_all}
use Rattle.type_graph.specs.declared.aggregates.Aggregate.{Aggregate}
use Rattle.type_graph.specs.declared.aggregates.Member.{Member}
use Rattle.type_graph.specs.Shapes.{Shape}
use Rattle.cil_tree.specs.Tree.{Body, Function, GlobalDecl, Program}
use Rattle.cil_tree.specs.Typing.{Scope, scope_of}
use Rattle.cil_tree.specs.Bodies.{each_stmt}
use Rattle.cil_tree.specs.Lines.{Token, Line, opens, closes, open_behind, lines_bytes}
use Rattle.cil_tree.specs.Declarators.{tagged, aggregate_words}
use Rattle.cil_tree.specs.Text.{member_name, global_name, local_name, label_name, name_in}
use Rattle.cil_printer.specs.Output.{Output, put}
use Rattle.cil_printer.specs.Typed.{stmt_is_typed}

-- lines more, where so many braces are open before the first
unfoldable pub prints : Output → ℕ → List Line → Output
prints o braces lines = put o (lines_bytes braces lines)

-- the braces that are open behind lines
abbrev pub open_past : ℕ → List Line → ℕ
open_past braces [] = braces
open_past braces (line ∷ lines) = open_past (open_behind braces line) lines

abbrev pub is_plain : Token → Bool
is_plain token = not (opens token) && not (closes token)

abbrev pub are_plain : List Token → Bool
are_plain tokens = list_all is_plain tokens

-- no tag and no name of a global or member is a brace
pub record IsPlainProgram (p : Program) : Type 0 where
  pub globals : (n : ℕ) → is_plain (global_name p n) ≡ true
  pub members : (s : Shape) (n : ℕ) → is_plain (name_in p s n) ≡ true
  pub tags : (a : ℕ) → are_plain (aggregate_words p a) ≡ true

-- and no name of a local or label
pub record IsPlain (c : Scope) : Type 0 where
  pub program : IsPlainProgram c.program
  pub locals : (n : ℕ) → is_plain (local_name c.locals n) ≡ true
  pub labels : (n : ℕ) → is_plain (label_name c n) ≡ true

-- an aggregate whose tag and members are no braces, and whose members' types are the program's
pub record IsPlainAggregate (p : Program) (x : Aggregate) : Type 0 where
  pub tag : are_plain (tagged p x) ≡ true
  pub named : (ms : List Member) → x.members ≡ Some ms → (n : ℕ) (m : Member) → slice_get ms n ≡ Some m → is_plain (member_name p m) ≡ true
  pub there : (ms : List Member) → x.members ≡ Some ms → (n : ℕ) (m : Member) → slice_get ms n ≡ Some m → m.ty.of.0 < length p.graph.nodes

-- a body in which no name is a brace, and each expression and place has a type
pub record IsPlainBody (p : Program) (b : Body) : Type 0 where
  pub names : IsPlain (scope_of p b)
  pub params : are_plain b.params ≡ true
  pub typed : each_stmt (stmt_is_typed (scope_of p b)) b.stmts ≡ true

pub record IsPlainGlobal (p : Program) (x : GlobalDecl) : Type 0 where
  pub named : is_plain x.name ≡ true
  pub body : (b : Body) → x.definition ≡ Function b → IsPlainBody p b
