-- Device: parts of instructions as the code has them, and their readings by the code's steps.
use Rattle.std.specs.Prelude.{◌≡◌, ℕ, Bool, true, false, List, [], ◌∷◌, ◌++◌, Option, Some, map}
use Rattle.std.specs.Option.{option_map, option_and_then}
use Rattle.type_graph.specs.declared.nodes.Node.{Node}
use Rattle.type_graph.specs.Arena.{Graph}
use Rattle.type_graph.specs.Growth.{Grows}
use Rattle.cil_tree.specs.declared.expressions.Exp.{Exp as SeenExp}
use Rattle.cil_tree.specs.declared.expressions.Lval.{Lval as SeenLval}
use Rattle.cil_tree.specs.declared.statements.Instr.{Instr as SeenInstr}
use Rattle.cil_tree.specs.Tree.{Exp, Lval, Callee, Direct, Through}
use Rattle.cil_tree.specs.View.{exp_of, lval_of, instr_of}
use Rattle.cil_text.specs.Words.{Word}
use Rattle.cil_text.specs.ReadTypes.{Reading}
use Rattle.cil_scan.specs.Said.{all_said}
use Rattle.cil_forms.specs.Forms.{behind_argument}
use Rattle.cil_reader.specs.declared.arguments.Arguments.{Arguments}
use Rattle.cil_reader.specs.declared.instructions.Called.{Called}
use Rattle.cil_reader.specs.declared.instructions.Called.TheVariants as called
use Rattle.cil_text.specs.ReadStmts.{callee_of, called_place, read_list}

abbrev pub args_of : List Node → List SeenExp → List Exp
args_of nodes xs = map (exp_of nodes) xs

abbrev pub result_of : List Node → Option SeenLval → Option Lval
result_of nodes o = option_map (lval_of nodes) o

abbrev pub called_seen : List Node → Called → Callee
called_seen nodes (called.Direct e) = Direct e.0
called_seen nodes (called.Through pointer) = Through (exp_of nodes pointer.value)

-- parts that are seen as one tree in each graph that this one grows to
pub record ArgsKnown (g : Graph) (xs : List SeenExp) : Type 0 where
  pub steady : (h : Graph) → Grows g h → args_of h.nodes xs ≡ args_of g.nodes xs

pub record ResultKnown (g : Graph) (o : Option SeenLval) : Type 0 where
  pub steady : (h : Graph) → Grows g h → result_of h.nodes o ≡ result_of g.nodes o

pub record CalleeKnown (g : Graph) (c : Called) : Type 0 where
  pub steady : (h : Graph) → Grows g h → called_seen h.nodes c ≡ called_seen g.nodes c

pub record InstrKnown (g : Graph) (i : SeenInstr) : Type 0 where
  pub steady : (h : Graph) → Grows g h → instr_of h.nodes i ≡ instr_of g.nodes i

-- what is called where a place, or an expression, stands before `(`
pub record IsCallee (l : SeenLval) (c : Option Called) : Type 0 where
  pub at : (nodes : List Node) → option_map (called_seen nodes) c ≡ callee_of (lval_of nodes l)

pub record IsCalled (e : SeenExp) (c : Option Called) : Type 0 where
  pub at : (nodes : List Node) → option_map (called_seen nodes) c ≡ called_place (exp_of nodes e)

abbrev pub list_behind : List Exp → List Exp × List Word → List Exp × List Word
list_behind xs r = (xs ++ r.0, r.1)

-- an argument behind others, whether it was the last, and the words behind it
abbrev pub Listed : Type 0
Listed = Bool × (List Exp × List Word)

abbrev pub listed_as : List Exp → Bool × List Word → Listed
listed_as xs r = (r.0, (xs, r.1))

abbrev pub argument_end : List Exp → Exp × List Word → Option Listed
argument_end xs r = option_map (listed_as (xs ++ r.0 ∷ [])) (behind_argument r.1)

abbrev pub argument_more : List Exp → Reading Exp → Option Listed
argument_more xs o = option_and_then (argument_end xs) o

abbrev pub arguments_of : List Node → Arguments → Listed
arguments_of nodes x = (x.closed, (args_of nodes x.all.items, all_said x.rest.now))

-- arguments behind others, of which so many may be left
abbrev pub list_left : (List Word → Reading Exp) → ℕ → List Exp → List Word → Reading (List Exp)
list_left exp k xs ws = option_map (list_behind xs) (read_list exp k ws)

-- the same, where the last one was read or not
abbrev pub list_from : (List Word → Reading Exp) → ℕ → Bool → List Exp → List Word → Reading (List Exp)
list_from exp k true xs ws = Some (xs, ws)
list_from exp k false xs ws = list_left exp k xs ws
