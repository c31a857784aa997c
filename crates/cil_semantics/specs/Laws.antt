-- Definition: what statements and calls of linked CIL programs are: no bound on depth is seen in them (own), and jumps within a statement are followed within.
use Rattle.std.specs.Prelude.{◌≡◌, Bool, false, List, map}
use Rattle.execution.specs.States.{State}
use Rattle.execution.specs.Jumps.{Entry, IsQuiet}
use Rattle.execution.specs.Calls.{Enter, calls}
use Rattle.execution.specs.Linking.{linked}
use Rattle.cil_tree.specs.Tree.{Stmt, Program}
use Rattle.cil_semantics.specs.Values.{Activation}
use Rattle.cil_semantics.specs.Statements.{has, stmt, statement}
use Rattle.cil_semantics.specs.Runs.{linkables}

-- what calls do in programs that are linked, as tentative definitions of several of them are common or not
abbrev pub linked_calls : Bool → List Program → Enter
linked_calls common programs = calls (linked common (map linkables programs))

-- the same where they are not common
abbrev pub calls_in : List Program → Enter
calls_in programs = linked_calls false programs

-- where calls do that, a statement does what it does where the statements that come behind a spent unit in it do so
abbrev pub StatementsAreTheirStep : Enter → Type 0
StatementsAreTheirStep enter = (a : Activation) (x : Stmt) (en : Entry) (s : State) → statement a enter x en s ≡ stmt a enter (statement a enter) x en s

-- what a statement gives is no jump to a label in it: such jumps are followed within (C11 6.8.6.1p2)
abbrev pub FollowsItsJumps : Enter → Type 0
FollowsItsJumps enter = (a : Activation) (x : Stmt) (en : Entry) (s : State) → IsQuiet (has x) (statement a enter x en s)
