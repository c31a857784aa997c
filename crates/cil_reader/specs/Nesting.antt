-- Device: how the lines of a function nest, by the code's steps: the line that stands next is the last one of the code's list.
use Rattle.std.specs.Prelude.{◌≡◌, List, [], ◌∷◌, Option, Some, None, map, reverse, Box}
use Rattle.std.specs.Global.{Global}
use Rattle.std.specs.Option.{option_map, option_and_then}
use Rattle.type_graph.specs.declared.nodes.Node.{Node}
use Rattle.type_graph.specs.Arena.{Graph}
use Rattle.type_graph.specs.Growth.{Grows}
use Rattle.cil_tree.specs.declared.statements.Stmt.{Stmt as SeenStmt}
use Rattle.cil_tree.specs.View.{stmt_of, stmts_of}
use Rattle.cil_tree.specs.Tree.{Exp, Stmt, If, Switch, Loop, Block, Stmts, Done, Seq}
use Rattle.cil_text.specs.ReadStmts.{Head, Whole, Tested, Turned, Looped, Opened, Otherwise, Closed, Nested}
use Rattle.cil_reader.specs.declared.heads.Head.{Head as SeenHead}
use Rattle.cil_reader.specs.Heads.{head_of, HeadsKnown}

abbrev pub waiting : List Node → List SeenHead → List Head
waiting nodes hs = map (head_of nodes) (reverse hs)

abbrev pub closed_next : List Head → Option (List Head)
closed_next (Closed ∷ hs) = Some hs
closed_next _ = None

abbrev pub otherwise_next : List Head → Option (List Head)
otherwise_next (Otherwise ∷ hs) = Some hs
otherwise_next _ = None

abbrev pub behind_end : Stmts → List Head → Stmts × List Head
behind_end ss hs = (ss, hs)

abbrev pub ended_by : (List Head → Option (List Head)) → Stmts × List Head → Nested
ended_by end r = option_map (behind_end r.0) (end r.1)

-- statements, and the line that ends them
abbrev pub part_read : (List Head → Nested) → (List Head → Option (List Head)) → List Head → Nested
part_read again end hs = option_and_then (ended_by end) (again hs)

-- a statement, if one stands next, and what stands behind it
abbrev pub OneRead : Type 0
OneRead = Option (Option Stmt × List Head)

abbrev pub one_from : (Stmts → Stmt) → Stmts × List Head → Option Stmt × List Head
one_from f r = (Some (f r.0), r.1)

abbrev pub one_block : (List Head → Nested) → (Stmts → Stmt) → List Head → OneRead
one_block again f hs = option_map (one_from f) (part_read again closed_next hs)

abbrev pub one_if : (List Head → Nested) → Exp → List Head → OneRead
one_if again test hs = option_and_then (λ (r : Stmts × List Head). one_block again (If test r.0) r.1) (part_read again otherwise_next hs)

-- both parts of an `if`
abbrev pub with_first : Stmts → Stmts × List Head → (Stmts × Stmts) × List Head
with_first ss r = ((ss, r.0), r.1)

abbrev pub second_part : (List Head → Nested) → Stmts × List Head → Option ((Stmts × Stmts) × List Head)
second_part again r = option_map (with_first r.0) (part_read again closed_next r.1)

abbrev pub two_parts : (List Head → Nested) → List Head → Option ((Stmts × Stmts) × List Head)
two_parts again hs = option_and_then (second_part again) (part_read again otherwise_next hs)

abbrev pub one_read : (List Head → Nested) → List Head → OneRead
one_read again [] = Some (None, [])
one_read again (Whole s ∷ hs) = Some (Some s, hs)
one_read again (Tested e ∷ hs) = one_if again e hs
one_read again (Turned e ∷ hs) = one_block again (Switch e) hs
one_read again (Looped ∷ hs) = one_block again Loop hs
one_read again (Opened ∷ hs) = one_block again Block hs
one_read again (Otherwise ∷ hs) = Some (None, Otherwise ∷ hs)
one_read again (Closed ∷ hs) = Some (None, Closed ∷ hs)

-- statements behind others
abbrev pub joined : Stmts → Stmts → Stmts
joined Done more = more
joined (Seq s ss) more = Seq s (joined ss more)

abbrev pub read_behind : Stmts → Stmts × List Head → Stmts × List Head
read_behind ss r = (joined ss r.0, r.1)

-- a statement in its box, if there is one
abbrev pub maybe_seen : List Node → Option (Box SeenStmt Global) → Option Stmt
maybe_seen nodes o = option_map (λ (b : Box SeenStmt Global). stmt_of nodes b.value) o

-- statements that are seen as the same in each graph that this one grows to
pub record StmtsKnown (g : Graph) (ss : List SeenStmt) : Type 0 where
  pub steady : (h : Graph) → Grows g h → stmts_of h.nodes ss ≡ stmts_of g.nodes ss

-- statements that were taken from lines are seen as the same where the lines are, and so are the lines that are left
pub record Carries (g : Graph) (old new : List SeenHead) (ss : List SeenStmt) : Type 0 where
  pub on : HeadsKnown g old → HeadsKnown g new × StmtsKnown g ss

abbrev pub CarriesOne : Graph → List SeenHead → List SeenHead → Option (Box SeenStmt Global) → Type 0
CarriesOne g old new None = Carries g old new []
CarriesOne g old new (Some s) = Carries g old new (s.value ∷ [])
