-- Device: the rules of statements, gathered by statement, and what a walk over statements collects.
use Rattle.std.specs.Prelude.{ℕ, suc, ◌&&◌, not, Bool, true, nat_eq, nat_lt, List, [], ◌∷◌, ◌++◌, Option, Some, None, is_some, length, ℤ}
use Rattle.std.specs.List.{list_any}
use Rattle.std.specs.Ordering.{int_eq}
use Rattle.std.specs.Str.{bytes_eq}
use Rattle.cil_base.specs.declared.kinds.IntKind.{IntKind}
use Rattle.cil_base.specs.declared.numbers.NameId.{NameId}
use Rattle.type_graph.specs.declared.nodes.Node.{Node}
use Rattle.type_graph.specs.Shapes.{Shape}
use Rattle.cil_tree.specs.Tree.{Stmt, Do, If, Switch, Loop, Block, Label, Case, Default, Goto, Break, Return, Stmts, Done, Seq}
use Rattle.cil_tree.specs.declared.globals.Local.{Local}
use Rattle.cil_tree.specs.View.{text_at, type_at}
use Rattle.cil_tree.specs.Typing.{Scope, is_type}
use Rattle.cil_tree.specs.Bodies.{are_distinct, cases_of, defaults_of, instr_fits, test_fits, switch_kind, cases_are_once, case_fits, return_fits}

abbrev mutual
  -- a statement keeps its rules but for the numbers of labels, in a switch of that kind, and in a loop or switch or not
  pub keeps_rules : Scope → Shape → Option IntKind → Bool → Stmt → Bool
  keeps_rules c ret kind inside (Do instr) = instr_fits c instr
  keeps_rules c ret kind inside (If test holds fails) = test_fits c test && (keep_rules c ret kind inside holds && keep_rules c ret kind inside fails)
  keeps_rules c ret kind inside (Switch value body) = is_some (switch_kind c value) && (cases_are_once (Switch value body) && keep_rules c ret (switch_kind c value) true body)
  keeps_rules c ret kind inside (Loop body) = keep_rules c ret kind true body
  keeps_rules c ret kind inside (Block body) = keep_rules c ret kind inside body
  keeps_rules c ret kind inside (Label number) = true
  keeps_rules c ret kind inside (Case k value) = case_fits c.program.graph.abi kind k value
  keeps_rules c ret kind inside Default = is_some kind
  keeps_rules c ret kind inside (Goto number) = nat_lt number (length c.labels)
  keeps_rules c ret kind inside Break = inside
  keeps_rules c ret kind inside (Return value) = return_fits c ret value

  pub keep_rules : Scope → Shape → Option IntKind → Bool → Stmts → Bool
  keep_rules c ret kind inside Done = true
  keep_rules c ret kind inside (Seq first rest) = keeps_rules c ret kind inside first && keep_rules c ret kind inside rest

abbrev mutual
  -- the case labels of a switch with this body, by their values, and its default labels, by none
  pub marks_of : Stmts → List (Option ℤ)
  marks_of Done = []
  marks_of (Seq first rest) = marks_in first ++ marks_of rest

  pub marks_in : Stmt → List (Option ℤ)
  marks_in (If test holds fails) = marks_of holds ++ marks_of fails
  marks_in (Loop body) = marks_of body
  marks_in (Block body) = marks_of body
  marks_in (Case kind value) = Some value ∷ []
  marks_in Default = None ∷ []
  marks_in _ = []

-- the value was not seen, or no default label was
abbrev pub is_first : List ℤ → Bool → Option ℤ → Bool
is_first seen default (Some v) = not (list_any (int_eq v) seen)
is_first seen default None = not default

-- the values that were seen, and whether a default label was, with one more
abbrev pub seen_with : List ℤ → Option ℤ → List ℤ
seen_with seen (Some v) = seen ++ v ∷ []
seen_with seen None = seen

abbrev pub default_with : Bool → Option ℤ → Bool
default_with default (Some v) = default
default_with default None = true

-- no value stands twice or among those that were seen, and at most one default label, none if one was seen
abbrev pub once : List ℤ → Bool → List (Option ℤ) → Bool
once seen default [] = true
once seen default (m ∷ marks) = is_first seen default m && once (seen_with seen m) (default_with default m) marks

-- no two cases of a switch with this body have one value, and it has at most one default
abbrev pub switch_is_once : Stmts → Bool
switch_is_once body = are_distinct (cases_of body) && nat_lt (defaults_of body) 2

-- the numbers from the first on, up to one less than the other number
abbrev pub numbered : ℕ → ℕ → List ℕ → Bool
numbered first count [] = nat_eq first count
numbered first count (l ∷ ls) = nat_eq l first && numbered (suc first) count ls

-- a local is a parameter with that name and type
unfoldable pub parameter_is : List Node → List (List ℕ) → Local → NameId → Shape → Bool
parameter_is nodes texts x name s = bytes_eq (text_at texts x.name) (text_at texts name) && is_type (type_at nodes x.ty) s
