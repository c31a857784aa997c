-- Definition: the walk over declarations and statements (C11 6.7, 6.8) in the order of the text: the typed statements that they are, and their first fault.
use Rattle.std.specs.Prelude.{ℕ, ℤ, suc, Bool, true, false, not, ◌&&◌, nat_eq, List, [], ◌∷◌, ◌++◌, Option, Some, None, length, is_some, if◌then◌else◌}
use Rattle.std.specs.Ordering.{int_eq}
use Rattle.cil_base.specs.declared.kinds.IntKind.{IntKind}
use Rattle.cil_base.specs.declared.kinds.IntKind.TheVariants.{Int as int}
use Rattle.cil_base.specs.declared.numbers.NameId.{NameId}
use Rattle.cil_base.specs.declared.faults.Code.TheVariants as code
use Rattle.cil_base.specs.Integer.{wrapped}
use Rattle.type_graph.specs.Shapes.{Shape}
use Rattle.typed_tree.specs.Tree.{Typed, shape_in}
use Rattle.typed_tree.specs.Statements.{Stmt, Stmts, Done, Seq, Expr, Block, Label, Goto as Jump, Break as Leave, Continue as Next, Return as Give, Default as Otherwise, Case as When, If as Choose, Switch as Select, While as Repeat, Do as RepeatBehind, For as Iterate}
use Rattle.c_tree.specs.Syntax.{ExprTree, SpecifierTrees, DeclaratorTree, InitTree}
use Rattle.c_tree.specs.Units.{DeclarationTree, Declares, Asserts, ForStart, StartExpr, StartDeclaration, StmtTree, Labelled, Case, Default, Compound, Expression, If, IfElse, Switch, While, Do, For, Goto, Continue, Break, Return, BlockItem, Declaring, Doing, BlockItems, NoItems, MoreItems}
use Rattle.c_tree.specs.Places.{first_expr}
use Rattle.c_rules.specs.Types.{Types, any_of, is_void, kind_in, same_name}
use Rattle.c_rules.specs.Conversions.{Operand, value_of}
use Rattle.c_rules.specs.Evaluation.{integer_value}
use Rattle.c_typing.specs.Specifiers.{Position, InBlock, InFor, count_specifiers}
use Rattle.c_rules.specs.Nodes.{TestNode, SwitchNode, ValueNode, ConvertNode}
use Rattle.c_typing.specs.Scopes.{Env, Cases, Walk, ◌>>=◌, pure, asks, changes, refuses_if, required, types_of, scoped}
use Rattle.c_typing.specs.Declarators.{declared_in, place_in, built}
use Rattle.c_typing.specs.Steps.{at_node, by_node, base_with, asserted, refuses_reserved, Base}
use Rattle.c_typing.specs.Walk.{expr, named, derived}
use Rattle.c_typing.specs.Declare.{declares}

-- typed statements in order
abbrev pub in_sequence : List Stmt → Stmts
in_sequence [] = Done
in_sequence (s ∷ ss) = Seq s (in_sequence ss)

abbrev pub block_of : List Stmt → Stmt
block_of ss = Block (in_sequence ss)

-- declarations (6.7)

abbrev pub declarator : SpecifierTrees → Base → DeclaratorTree × Option InitTree → Walk (List Stmt)
declarator ss b x = do
  ds ← derived false x.0
  c ← built (place_in ss x.0) ds b.type
  declares ss (declared_in x.0) c x.1

abbrev pub declarators : SpecifierTrees → Base → List (DeclaratorTree × Option InitTree) → Walk (List Stmt)
declarators ss b [] = pure []
declarators ss b (x ∷ xs) = do
  s ← declarator ss b x
  rest ← declarators ss b xs
  pure (s ++ rest)

-- specifiers alone, and only one, with nothing behind
abbrev pub is_alone : SpecifierTrees → List (DeclaratorTree × Option InitTree) → Bool
is_alone ss xs = nat_eq (count_specifiers ss) 1 && nat_eq (length xs) 0

abbrev pub declaration : Position → DeclarationTree → Walk (List Stmt)
declaration p (Declares at ss xs) = do
  b ← base_with p ss (named (is_alone ss xs) ss)
  declarators ss b xs
declaration p (Asserts at c message_at message) = do
  x ← expr c
  _ ← asserted at (first_expr c) x message_at message
  pure []

-- where a statement stands: the type that its function returns, the labels of the function in the order of the text, whether a loop, or a loop or a switch, is around it
pub record Place : Type 0 where
  pub result : Shape
  pub labels : List NameId
  pub in_loop : Bool
  pub in_breakable : Bool

abbrev pub in_a_loop : Place → Place
in_a_loop p = record p { in_loop = true; in_breakable = true }

abbrev pub in_a_switch : Place → Place
in_a_switch p = record p { in_breakable = true }

-- labels (6.8.1, 6.2.1p3)

-- the number of a label is its place among the labels of the function, none where it has no such label
abbrev pub number_from : ℕ → NameId → List NameId → Option ℕ
number_from n x [] = None
number_from n x (y ∷ ys) = elim (same_name x y) [ true ↦ Some n | false ↦ number_from (suc n) x ys ]

-- a label that the function has not counts for nothing: it is found at the function's end
abbrev pub number_or_none : Place → NameId → ℕ
number_or_none p x = elim (number_from 0 x p.labels) [ None ↦ 0 | Some n ↦ n ]

abbrev pub has_name : NameId → List NameId → Bool
has_name x ys = any_of (same_name x) ys

-- a label stands once in its function (6.8.1p3)
abbrev pub labels : ℕ → NameId → Walk (Unit {0})
labels at x = do
  before ← asks (λ (env : Env). env.labels)
  _ ← refuses_if (has_name x before) code.Redeclared at
  _ ← refuses_reserved x at
  changes (λ (env : Env). record env { labels = x ∷ env.labels })

abbrev mutual
  -- the labels in a statement, in the order of the text
  pub labels_in : StmtTree → List NameId
  labels_in (Labelled at x s) = x ∷ labels_in s
  labels_in (Case at e s) = labels_in s
  labels_in (Default at s) = labels_in s
  labels_in (Compound at is) = labels_in_items is
  labels_in (Expression at e) = []
  labels_in (If at c y) = labels_in y
  labels_in (IfElse at c y n) = labels_in y ++ labels_in n
  labels_in (Switch at e s) = labels_in s
  labels_in (While at c s) = labels_in s
  labels_in (Do at s c) = labels_in s
  labels_in (For at start c step s) = labels_in s
  labels_in (Goto at x) = []
  labels_in (Continue at) = []
  labels_in (Break at) = []
  labels_in (Return at e) = []

  labels_in_item : BlockItem → List NameId
  labels_in_item (Declaring d) = []
  labels_in_item (Doing s) = labels_in s

  pub labels_in_items : BlockItems → List NameId
  labels_in_items NoItems = []
  labels_in_items (MoreItems i is) = labels_in_item i ++ labels_in_items is

abbrev mutual
  -- the gotos in a statement with their tokens, in the order of the text
  pub gotos_in : StmtTree → List (NameId × ℕ)
  gotos_in (Labelled at x s) = gotos_in s
  gotos_in (Case at e s) = gotos_in s
  gotos_in (Default at s) = gotos_in s
  gotos_in (Compound at is) = gotos_in_items is
  gotos_in (Expression at e) = []
  gotos_in (If at c y) = gotos_in y
  gotos_in (IfElse at c y n) = gotos_in y ++ gotos_in n
  gotos_in (Switch at e s) = gotos_in s
  gotos_in (While at c s) = gotos_in s
  gotos_in (Do at s c) = gotos_in s
  gotos_in (For at start c step s) = gotos_in s
  gotos_in (Goto at x) = (x, at) ∷ []
  gotos_in (Continue at) = []
  gotos_in (Break at) = []
  gotos_in (Return at e) = []

  gotos_in_item : BlockItem → List (NameId × ℕ)
  gotos_in_item (Declaring d) = []
  gotos_in_item (Doing s) = gotos_in s

  pub gotos_in_items : BlockItems → List (NameId × ℕ)
  gotos_in_items NoItems = []
  gotos_in_items (MoreItems i is) = gotos_in_item i ++ gotos_in_items is

-- a goto names a label of its function (6.8.6.1p1): found at the function's end (own)
abbrev pub refuses_lost : List NameId → List (NameId × ℕ) → Walk (Unit {0})
refuses_lost known [] = pure tt
refuses_lost known (g ∷ gs) = do
  _ ← refuses_if (not (has_name g.0 known)) code.Label g.1
  refuses_lost known gs

-- switch statements (6.8.4.2)

abbrev pub kind_or_int : Types → Typed → IntKind
kind_or_int t e = elim (kind_in t (shape_in e)) [ None ↦ int | Some k ↦ k ]

abbrev pub opens_switch : IntKind → Walk (Unit {0})
opens_switch k = changes (λ (env : Env). record env { switches = record { kind = k; values = []; has_default = false } ∷ env.switches })

abbrev pub without_first : List Cases → List Cases
without_first [] = []
without_first (c ∷ cs) = cs

abbrev pub closes_switch : Walk (Unit {0})
closes_switch = changes (λ (env : Env). record env { switches = without_first env.switches })

abbrev pub first_cases : List Cases → Option Cases
first_cases [] = None
first_cases (c ∷ cs) = Some c

-- `case` and `default` stand in a switch (6.8.1p2)
abbrev pub own_switch : ℕ → Walk Cases
own_switch at = do
  found ← asks (λ (env : Env). first_cases env.switches)
  required found code.Outside at

abbrev pub changes_switch : Cases → Walk (Unit {0})
changes_switch c = changes (λ (env : Env). record env { switches = c ∷ without_first env.switches })

-- the expression of a case is an integer constant expression (6.8.4.2p3, 6.6p6), also where no switch is around it
abbrev pub case_constant : Types → Operand → Option ℤ
case_constant t x = if is_some (kind_in t (shape_in x.typed)) then integer_value t (value_of x.typed) else None

-- no two case constants of a switch are equal (6.8.4.2p3)
abbrev pub new_case : ℕ → Cases → ℤ → Walk Stmt
new_case at c v = do
  _ ← refuses_if (any_of (int_eq v) c.values) code.Case at
  _ ← changes_switch (record c { values = v ∷ c.values })
  pure (When c.kind v)

-- a case constant is converted to the promoted type of the switch (6.8.4.2p5, 6.3.1.3)
abbrev pub case_value : ℕ → ℕ → Operand → Walk Stmt
case_value at e_at x = do
  t ← types_of
  n ← required (case_constant t x) code.NotConstant e_at
  c ← own_switch at
  new_case at c (wrapped c.kind n)

-- at most one default (6.8.4.2p3)
abbrev pub default_label : ℕ → Walk Stmt
default_label at = do
  c ← own_switch at
  _ ← refuses_if c.has_default code.Case at
  _ ← changes_switch (record c { has_default = true })
  pure Otherwise

-- return (6.8.6.4p1, p3)

abbrev pub returned : ℕ → Place → Option (ℕ × Operand) → Walk (List Stmt)
returned at p None = do
  _ ← refuses_if (not (is_void p.result)) code.Return at
  pure (Give None ∷ [])
returned at p (Some x) = do
  _ ← refuses_if (is_void p.result) code.Return at
  y ← at_node (by_node x.0) (ConvertNode p.result x.1)
  pure (Give (Some y.typed) ∷ [])

-- an expression where one may be left out
abbrev pub maybe : {A : Type 0} → (ExprTree → Walk A) → Option ExprTree → Walk (Option A)
maybe walk None = pure None
maybe walk (Some e) = do
  x ← walk e
  pure (Some x)

abbrev pub placed_expr : ExprTree → Walk (ℕ × Operand)
placed_expr e = do
  x ← expr e
  pure (first_expr e, x)

-- an expression of which the value is not used (6.8.3p2)
abbrev pub effect : ExprTree → Walk Typed
effect e = do
  x ← expr e
  y ← at_node (by_node (first_expr e)) (ValueNode x)
  pure y.typed

-- a controlling expression (6.8.4.1p1, 6.8.5p2)
abbrev pub test : ExprTree → Walk Typed
test e = do
  x ← expr e
  y ← at_node (by_node (first_expr e)) (TestNode x)
  pure y.typed

abbrev pub selector : ExprTree → Walk Typed
selector e = do
  x ← expr e
  y ← at_node (by_node (first_expr e)) (SwitchNode x)
  pure y.typed

abbrev pub effects : Option Typed → List Stmt
effects None = []
effects (Some e) = Expr e ∷ []

-- what stands before the first semicolon of a `for` (6.8.5.3p1)
abbrev pub start_of : ForStart → Walk (List Stmt)
start_of (StartExpr e) = do
  x ← maybe effect e
  pure (effects x)
start_of (StartDeclaration d) = declaration InFor d

-- selection and iteration statements and their substatements are blocks (6.8.4p3, 6.8.5p5)
abbrev mutual
  pub statement : Place → StmtTree → Walk (List Stmt)
  statement p (Labelled at x s) = do
    _ ← labels at x
    ss ← statement p s
    pure (Label (number_or_none p x) ∷ ss)
  statement p (Case at e s) = do
    x ← expr e
    c ← case_value at (first_expr e) x
    ss ← statement p s
    pure (c ∷ ss)
  statement p (Default at s) = do
    d ← default_label at
    ss ← statement p s
    pure (d ∷ ss)
  statement p (Compound at is) = do
    ss ← scoped (items p is)
    pure (block_of ss ∷ [])
  statement p (Expression at e) = do
    x ← maybe effect e
    pure (effects x)
  statement p (If at c y) = scoped (do
    e ← test c
    ss ← scoped (statement p y)
    pure (Choose e (in_sequence ss) Done ∷ []))
  statement p (IfElse at c y n) = scoped (do
    e ← test c
    ss ← scoped (statement p y)
    rs ← scoped (statement p n)
    pure (Choose e (in_sequence ss) (in_sequence rs) ∷ []))
  statement p (Switch at e s) = scoped (do
    x ← selector e
    t ← types_of
    _ ← opens_switch (kind_or_int t x)
    ss ← scoped (statement (in_a_switch p) s)
    _ ← closes_switch
    pure (Select x (in_sequence ss) ∷ []))
  statement p (While at c s) = scoped (do
    e ← test c
    ss ← scoped (statement (in_a_loop p) s)
    pure (Repeat e (in_sequence ss) ∷ []))
  statement p (Do at s c) = scoped (do
    ss ← scoped (statement (in_a_loop p) s)
    e ← test c
    pure (RepeatBehind (in_sequence ss) e ∷ []))
  statement p (For at start c step s) = scoped (do
    before ← start_of start
    e ← maybe test c
    behind ← maybe effect step
    ss ← scoped (statement (in_a_loop p) s)
    pure (Iterate (in_sequence before) e behind (in_sequence ss) ∷ []))
  statement p (Goto at x) = pure (Jump (number_or_none p x) ∷ [])
  statement p (Continue at) = do
    _ ← refuses_if (not p.in_loop) code.Outside at
    pure (Next ∷ [])
  statement p (Break at) = do
    _ ← refuses_if (not p.in_breakable) code.Outside at
    pure (Leave ∷ [])
  statement p (Return at e) = do
    x ← maybe placed_expr e
    returned at p x

  item : Place → BlockItem → Walk (List Stmt)
  item p (Declaring d) = declaration InBlock d
  item p (Doing s) = statement p s

  pub items : Place → BlockItems → Walk (List Stmt)
  items p NoItems = pure []
  items p (MoreItems i is) = do
    ss ← item p i
    rs ← items p is
    pure (ss ++ rs)
