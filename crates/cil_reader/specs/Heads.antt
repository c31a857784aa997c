-- Device: lines of functions as the code has them, and their readings by the code's steps.
use Rattle.std.specs.Prelude.{◌≡◌, ℕ, List, [], ◌∷◌, Option, Some, None, ◌++◌, map}
use Rattle.std.specs.Option.{option_map, option_and_then}
use Rattle.type_graph.specs.declared.nodes.Node.{Node}
use Rattle.type_graph.specs.Arena.{Graph}
use Rattle.type_graph.specs.Growth.{Grows}
use Rattle.cil_tree.specs.declared.statements.Stmt.{Stmt as SeenStmt}
use Rattle.cil_tree.specs.Tree.{Exp, Stmt, Default, Goto, Break}
use Rattle.cil_tree.specs.View.{exp_of, stmt_of}
use Rattle.cil_text.specs.Words.{Word, LeftParen, LeftBrace, ElseWord, IfWord, SwitchWord, WhileWord, RightBrace, CaseWord, DefaultWord, GotoWord, BreakWord, ReturnWord}
use Rattle.cil_text.specs.ReadTypes.{find}
use Rattle.cil_text.specs.ReadExps.{Env, enclosed, read_exp}
use Rattle.cil_text.specs.ReadStmts.{Head, Whole, Tested, Turned, Looped, Opened, Otherwise, Closed, case_of, read_number, label_text, read_return, read_tested}
use Rattle.cil_reader.specs.declared.heads.Head.{Head as SeenHead}
use Rattle.cil_reader.specs.declared.heads.Head.TheVariants as seen

abbrev pub head_of : List Node → SeenHead → Head
head_of nodes (seen.Whole s) = Whole (stmt_of nodes s.value)
head_of nodes (seen.Tested e) = Tested (exp_of nodes e.value)
head_of nodes (seen.Turned e) = Turned (exp_of nodes e.value)
head_of nodes seen.Looped = Looped
head_of nodes seen.Opened = Opened
head_of nodes seen.Otherwise = Otherwise
head_of nodes seen.Closed = Closed

-- a statement that is seen as one in each graph that this one grows to
pub record StmtKnown (g : Graph) (x : SeenStmt) : Type 0 where
  pub steady : (h : Graph) → Grows g h → stmt_of h.nodes x ≡ stmt_of g.nodes x

-- a line that is seen as one head in each graph that this one grows to
pub record HeadKnown (g : Graph) (x : SeenHead) : Type 0 where
  pub steady : (h : Graph) → Grows g h → head_of h.nodes x ≡ head_of g.nodes x

-- the expression of a line that opens a block
abbrev pub opens : Exp × List Word → Option Exp
opens (e, LeftBrace ∷ []) = Some e
opens _ = None

abbrev pub opening : Env → ℕ → List Word → Option Exp
opening env n (LeftParen ∷ ws) = option_and_then opens (enclosed (λ (e : Exp). e) (read_exp env n ws))
opening env n _ = None

-- a line that begins with `}`, by what stands behind it
abbrev pub brace_of : List Word → Head
brace_of (ElseWord ∷ ws) = Otherwise
brace_of _ = Closed

abbrev pub labelled : List (List ℕ) → (ℕ → Stmt) → List ℕ → Option Head
labelled labels f name = option_map (λ (l : ℕ). Whole (f l)) (find name labels)

abbrev pub block_line : Env → ℕ → List Word → Option Head
block_line env n (IfWord ∷ ws) = read_tested env n Tested ws
block_line env n (SwitchWord ∷ ws) = read_tested env n Turned ws
block_line env n (WhileWord ∷ ws) = Some Looped
block_line env n (LeftBrace ∷ ws) = Some Opened
block_line env n (RightBrace ∷ ws) = Some (brace_of ws)
block_line env n _ = None

abbrev pub jump_line : Env → List (List ℕ) → ℕ → List Word → Option Head
jump_line env labels n (CaseWord ∷ ws) = option_and_then (case_of env.abi) (read_number ws)
jump_line env labels n (DefaultWord ∷ ws) = Some (Whole Default)
jump_line env labels n (GotoWord ∷ ws) = labelled labels Goto (label_text ws)
jump_line env labels n (BreakWord ∷ ws) = Some (Whole Break)
jump_line env labels n (ReturnWord ∷ ws) = read_return env n ws
jump_line env labels n _ = None

abbrev pub heads_of : List Node → List SeenHead → List Head
heads_of nodes hs = map (head_of nodes) hs

pub record HeadsKnown (g : Graph) (hs : List SeenHead) : Type 0 where
  pub steady : (h : Graph) → Grows g h → heads_of h.nodes hs ≡ heads_of g.nodes hs

abbrev pub heads_behind : List Head → List Head → List Head
heads_behind hs more = hs ++ more
