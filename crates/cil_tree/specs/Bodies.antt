-- Definition: which function bodies a program may have (own, over C11 6.5 and 6.8), one rule for each sentence. An expression fits where it has a type.
use Rattle.std.specs.Prelude.{ℕ, suc, ◌+◌, ◌&&◌, ◌||◌, not, Bool, true, false, nat_lt, if◌then◌else◌, List, [], ◌∷◌, ◌++◌, Option, Some, None, is_some, length, ℤ}
use Rattle.std.specs.List.{list_all, list_any}
use Rattle.std.specs.Option.{option_and_then}
use Rattle.std.specs.Ordering.{int_eq}
use Rattle.std.specs.Str.{bytes_eq}
use Rattle.cil_base.specs.declared.kinds.Abi.{Abi}
use Rattle.cil_base.specs.declared.kinds.IntKind.{IntKind}
use Rattle.cil_base.specs.Integer.{has_kind}
use Rattle.cil_base.specs.Arithmetic.{fits}
use Rattle.type_graph.specs.Shapes.{Shape, Shapes, IntType, PtrType, FuncType, AggType, NoTypes, MoreTypes}
use Rattle.type_graph.specs.Arena.{Graph, complete_shape}
use Rattle.cil_tree.specs.Tree.{Exp, Lval, Callee, Direct, Through, Instr, Set, Call, Zero, Stmt, Do, If, Switch, Loop, Block, Label, Case, Default, Goto, Break, Return, Stmts, Done, Seq, Local, Body, Program}
use Rattle.cil_base.specs.Kinds.{same_kind}
use Rattle.cil_tree.specs.Typing.{Scope, scope_of, is_type, is_void, is_wide, is_scalar, names_enum, global_type, pointed, type_of, place_type}

-- the type is complete
abbrev pub is_complete : Scope → Shape → Bool
is_complete c s = complete_shape c.program.graph.aggs s

-- the expression has exactly that type
abbrev pub has_type : Scope → Exp → Shape → Bool
has_type c e s = is_type (type_of c e) s

-- an assignment: the place is complete, and the value has exactly its type (C11 6.5.16.1)
abbrev pub set_fits : Scope → Lval → Exp → Bool
set_fits c place value = elim (place_type c place) [ None ↦ false | Some s ↦ is_complete c s && has_type c value s ]

-- a place that is zeroed is complete
abbrev pub zero_fits : Scope → Lval → Bool
zero_fits c place = elim (place_type c place) [ None ↦ false | Some s ↦ is_complete c s ]

-- a type that the default argument promotions leave as it is (C11 6.5.2.2p6): int and wider, pointers, structs and unions
abbrev pub is_promoted : Graph → Shape → Bool
is_promoted g (IntType kind) = is_wide kind
is_promoted g (PtrType q s) = true
is_promoted g (AggType a) = not (names_enum g a)
is_promoted g _ = false

abbrev pub argument_is_promoted : Scope → Exp → Bool
argument_is_promoted c e = elim (type_of c e) [ None ↦ false | Some s ↦ is_promoted c.program.graph s ]

-- arguments have exactly the parameters' types, in their number (C11 6.5.2.2p2); where more may follow they are promoted (p6, p7)
abbrev pub arguments_fit : Scope → Shapes → Bool → List Exp → Bool
arguments_fit c NoTypes more [] = true
arguments_fit c NoTypes more (e ∷ es) = more && (argument_is_promoted c e && arguments_fit c NoTypes more es)
arguments_fit c (MoreTypes s params) more [] = false
arguments_fit c (MoreTypes s params) more (e ∷ es) = has_type c e s && arguments_fit c params more es

-- a call's result is void or complete, and where it is stored the place has exactly its type
abbrev pub result_fits : Scope → Option Lval → Shape → Bool
result_fits c None ret = is_void ret || is_complete c ret
result_fits c (Some place) ret = is_complete c ret && is_type (place_type c place) ret

-- the type of what is called: a function, or what a pointer to one points to (C11 6.5.2.2p1)
abbrev pub callee_type : Scope → Callee → Option Shape
callee_type c (Direct number) = global_type c.program number
callee_type c (Through pointer) = option_and_then pointed (type_of c pointer)

abbrev pub called_fits : Scope → Option Lval → List Exp → Shape → Bool
called_fits c result arguments (FuncType ret params proto variadic) = result_fits c result ret && arguments_fit c params (not proto || variadic) arguments
called_fits c result arguments _ = false

abbrev pub call_fits : Scope → Option Lval → Callee → List Exp → Bool
call_fits c result callee arguments = elim (callee_type c callee) [ None ↦ false | Some f ↦ called_fits c result arguments f ]

abbrev pub instr_fits : Scope → Instr → Bool
instr_fits c (Set place value) = set_fits c place value
instr_fits c (Call result callee arguments) = call_fits c result callee arguments
instr_fits c (Zero place) = zero_fits c place

-- a test is scalar (C11 6.8.4.1p1)
abbrev pub test_fits : Scope → Exp → Bool
test_fits c e = elim (type_of c e) [ None ↦ false | Some s ↦ is_scalar c.program.graph s ]

abbrev pub kind_of : Shape → Option IntKind
kind_of (IntType kind) = if is_wide kind then Some kind else None
kind_of _ = None

-- the kind of a switch's value, int or wider (C11 6.8.4.2p1, p5)
abbrev pub switch_kind : Scope → Exp → Option IntKind
switch_kind c e = option_and_then kind_of (type_of c e)

-- the statement's own expressions and places fit
abbrev pub parts_fit : Scope → Stmt → Bool
parts_fit c (Do instr) = instr_fits c instr
parts_fit c (If test holds fails) = test_fits c test
parts_fit c (Switch value body) = is_some (switch_kind c value)
parts_fit c _ = true

abbrev mutual
  -- a rule for each statement, at whatever depth
  pub each_stmt : (Stmt → Bool) → Stmts → Bool
  each_stmt of Done = true
  each_stmt of (Seq first rest) = of first && (each_within of first && each_stmt of rest)

  -- the same for the statements within one
  pub each_within : (Stmt → Bool) → Stmt → Bool
  each_within of (If test holds fails) = each_stmt of holds && each_stmt of fails
  each_within of (Switch value body) = each_stmt of body
  each_within of (Loop body) = each_stmt of body
  each_within of (Block body) = each_stmt of body
  each_within of _ = true

abbrev mutual
  -- the labels that the statements set, in the order of the text
  pub labels_of : Stmts → List ℕ
  labels_of Done = []
  labels_of (Seq first rest) = labels_in first ++ labels_of rest

  pub labels_in : Stmt → List ℕ
  labels_in (If test holds fails) = labels_of holds ++ labels_of fails
  labels_in (Switch value body) = labels_of body
  labels_in (Loop body) = labels_of body
  labels_in (Block body) = labels_of body
  labels_in (Label number) = number ∷ []
  labels_in _ = []

-- so many numbers from the first on
abbrev pub numbers_from : ℕ → List (List ℕ) → List ℕ
numbers_from first [] = []
numbers_from first (name ∷ names) = first ∷ numbers_from (suc first) names

-- labels are numbered in the order in which the text sets them, each once, and there are as many names
abbrev pub labels_fit : Scope → Stmts → Bool
labels_fit c body = bytes_eq (labels_of body) (numbers_from 0 c.labels)

-- a goto's label is one of the function's (C11 6.8.6.1p1)
abbrev pub goto_fits : Scope → Stmt → Bool
goto_fits c (Goto number) = nat_lt number (length c.labels)
goto_fits c _ = true

abbrev mutual
  -- the case values of a switch with this body; those of switches within it are theirs (C11 6.8.1p2)
  pub cases_of : Stmts → List ℤ
  cases_of Done = []
  cases_of (Seq first rest) = cases_in first ++ cases_of rest

  pub cases_in : Stmt → List ℤ
  cases_in (If test holds fails) = cases_of holds ++ cases_of fails
  cases_in (Loop body) = cases_of body
  cases_in (Block body) = cases_of body
  cases_in (Case kind value) = value ∷ []
  cases_in _ = []

abbrev mutual
  -- the number of the default labels of a switch with this body
  pub defaults_of : Stmts → ℕ
  defaults_of Done = 0
  defaults_of (Seq first rest) = defaults_in first + defaults_of rest

  pub defaults_in : Stmt → ℕ
  defaults_in (If test holds fails) = defaults_of holds + defaults_of fails
  defaults_in (Loop body) = defaults_of body
  defaults_in (Block body) = defaults_of body
  defaults_in Default = 1
  defaults_in _ = 0

-- no number stands twice
abbrev pub are_distinct : List ℤ → Bool
are_distinct [] = true
are_distinct (v ∷ vs) = not (list_any (int_eq v) vs) && are_distinct vs

-- no two cases of a switch have one value, and it has at most one default (C11 6.8.4.2p3)
abbrev pub cases_are_once : Stmt → Bool
cases_are_once (Switch value body) = are_distinct (cases_of body) && nat_lt (defaults_of body) 2
cases_are_once _ = true

-- a case's constant has the kind of its switch, which is one of the data model, and is a value of it
abbrev pub case_fits : Abi → Option IntKind → IntKind → ℤ → Bool
case_fits abi None kind value = false
case_fits abi (Some k) kind value = same_kind kind k && (has_kind abi kind && fits kind value)

abbrev mutual
  -- cases and defaults stand in a switch, and a case's number is a value of the kind of its expression (C11 6.8.1p2, 6.8.4.2p5)
  pub cases_fit : Scope → Option IntKind → Stmts → Bool
  cases_fit c kind Done = true
  cases_fit c kind (Seq first rest) = cases_fit_in c kind first && cases_fit c kind rest

  pub cases_fit_in : Scope → Option IntKind → Stmt → Bool
  cases_fit_in c kind (If test holds fails) = cases_fit c kind holds && cases_fit c kind fails
  cases_fit_in c kind (Switch value body) = cases_fit c (switch_kind c value) body
  cases_fit_in c kind (Loop body) = cases_fit c kind body
  cases_fit_in c kind (Block body) = cases_fit c kind body
  cases_fit_in c kind (Case k value) = case_fits c.program.graph.abi kind k value
  cases_fit_in c kind Default = is_some kind
  cases_fit_in c kind _ = true

abbrev mutual
  -- break stands in a loop or switch (C11 6.8.6.3p1)
  pub breaks_fit : Bool → Stmts → Bool
  breaks_fit inside Done = true
  breaks_fit inside (Seq first rest) = breaks_fit_in inside first && breaks_fit inside rest

  pub breaks_fit_in : Bool → Stmt → Bool
  breaks_fit_in inside (If test holds fails) = breaks_fit inside holds && breaks_fit inside fails
  breaks_fit_in inside (Switch value body) = breaks_fit true body
  breaks_fit_in inside (Loop body) = breaks_fit true body
  breaks_fit_in inside (Block body) = breaks_fit inside body
  breaks_fit_in inside Break = inside
  breaks_fit_in inside _ = true

-- return has a value of exactly the function's type, and none where that is void (C11 6.8.6.4p1)
abbrev pub return_fits : Scope → Shape → Option Exp → Bool
return_fits c ret None = is_void ret
return_fits c ret (Some e) = not (is_void ret) && has_type c e ret

abbrev pub returns_fit : Scope → Shape → Stmt → Bool
returns_fit c ret (Return value) = return_fits c ret value
returns_fit c ret _ = true

-- the statements of a function with that result fit, sentence by sentence
abbrev pub stmts_fit : Scope → Shape → Stmts → Bool
stmts_fit c ret body =
    each_stmt (parts_fit c) body
    && (labels_fit c body
    && (each_stmt (goto_fits c) body
    && (cases_fit c None body
    && (each_stmt cases_are_once body
    && (breaks_fit false body
    && each_stmt (returns_fit c ret) body)))))

-- a local is complete
abbrev pub local_fits : Graph → Local → Bool
local_fits g x = elim x.type [ None ↦ false | Some s ↦ complete_shape g.aggs s ]

-- the first locals are the parameters, with their names and types (C11 6.9.1p9)
abbrev pub parameters_fit : Shapes → List (List ℕ) → List Local → Bool
parameters_fit NoTypes [] locals = true
parameters_fit NoTypes (name ∷ names) locals = false
parameters_fit (MoreTypes s params) [] locals = false
parameters_fit (MoreTypes s params) (name ∷ names) [] = false
parameters_fit (MoreTypes s params) (name ∷ names) (x ∷ locals) = bytes_eq x.name name && (is_type x.type s && parameters_fit params names locals)

-- a function with a body is not variadic, and its result is void or complete
abbrev pub body_fits : Program → Body → Shape → Bool
body_fits p b (FuncType ret params proto variadic) =
    not variadic
    && ((is_void ret || complete_shape p.graph.aggs ret)
    && (list_all (local_fits p.graph) b.locals
    && (parameters_fit params b.params b.locals
    && stmts_fit (scope_of p b) ret b.stmts)))
body_fits p b _ = false
