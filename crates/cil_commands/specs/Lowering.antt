-- Definition: the CIL program that is made of a translation unit, and what it keeps of the unit's meaning.
use Rattle.std.specs.Prelude.{◌≡◌, ℕ, true, false, List, [], ◌∷◌, codes, Some}
use Rattle.cil_base.specs.declared.kinds.Abi.TheVariants.{Lp64}
use Rattle.cil_base.specs.declared.kinds.IntKind.TheVariants.{Int as int}
use Rattle.cil_base.specs.declared.runs.Env.{Env}
use Rattle.cil_base.specs.Outcome.{Allows}
use Rattle.type_graph.specs.declared.nodes.Node.{Node}
use Rattle.type_graph.specs.declared.nodes.Node.TheVariants.{Int, Func}
use Rattle.type_graph.specs.Shapes.{IntType, FuncType, NoTypes}
use Rattle.type_graph.specs.Arena.{Graph}
use Rattle.c_meaning.specs.SourceFile.{SourceFile}
use Rattle.c_meaning.specs.Grammar.{Expression, Constant, Parentheses, Binary, IsUnit}
use Rattle.c_meaning.specs.Meaning.{RunC}
use Rattle.cil_tree.specs.Tree.{Exp, Const, Bin, Return, Done, Seq, Body, Function, GlobalDecl, Program}
use Rattle.cil_tree.specs.Text.{Text}
use Rattle.cil_tree.specs.Programs.{IsTextOf, SameProgram}
use Rattle.cil_semantics.specs.Runs.{RunCil}
use Rattle.cil_semantics.specs.Modes.{mode_of}
use Rattle.cil_commands.specs.Grammatical.{IsGrammatical}

-- the expression without its parentheses, each operator over its lowered operands
abbrev pub lowered : Expression → Exp
lowered (Constant value) = Const int value
lowered (Parentheses inner) = lowered inner
lowered (Binary op left right) = Bin op (lowered left) (lowered right)

-- the types int, and int ( void )
abbrev pub main_types : List Node
main_types = Int int ∷ Func true false (record { 0 = 0 }) [] ∷ []

abbrev pub main_graph : Graph
main_graph = record { abi = Lp64; nodes = main_types; aggs = []; completed = [] }

abbrev pub returning_body : Exp → Body
returning_body e = record { params = []; locals = []; labels = []; stmts = Seq (Return (Some e)) Done }

-- int main ( void ), which returns the expression
abbrev pub returning_main : Exp → GlobalDecl
returning_main e = record { name = codes "main"; type = Some (FuncType (IntType int) NoTypes true false); internal = false; definition = Function (returning_body e) }

-- the program of that function alone
abbrev pub returning : Exp → Program
returning e = record { graph = main_graph; names = codes "main" ∷ []; globals = returning_main e ∷ [] }

-- the program is made of the unit, which is grammatical and of the form
pub record Made (unit : SourceFile) (p : Program) : Type 0 where
  pub grammatical : IsGrammatical unit
  pub tree : Expression
  pub unit_of : IsUnit unit tree
  pub made_is : p ≡ returning (lowered tree)

-- a program that is made of the unit, the one of LP64 with its text, and that refines the unit: in every environment and at every bound on steps the unit's run allows the program's
pub record Merges (unit : SourceFile) (p : Program) : Type 0 where
  pub made : Made unit p
  pub text : IsTextOf (Text p) p
  pub one : (q : Program) → q.graph.abi ≡ Lp64 → IsTextOf (Text p) q → SameProgram p q
  pub allowed : (e : Expression) → IsUnit unit e → (env : Env) (steps : ℕ) → Allows (RunC e env steps) (RunCil (p ∷ []) (mode_of p) env.args.items env.input steps)
