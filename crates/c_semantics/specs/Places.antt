-- Definition: where an expression or a statement stands while it runs: what is declared there (C11 6.2.1), and the activation's objects (6.2.4p5 to p8).
use Rattle.std.specs.Prelude.{ℕ, zero, suc, ◌+◌, ◌-◌, Bool, true, false, ◌&&◌, not, List, [], ◌∷◌, ◌++◌, length, drop, Option, Some, None, slice_get}
use Rattle.std.specs.Option.{option_map, option_and_then}
use Rattle.type_graph.specs.Shapes.{Shape}
use Rattle.byte_mem.specs.declared.pointers.ObjName.{ObjName}
use Rattle.execution.specs.States.{State, Result, Undefined}
use Rattle.execution.specs.Data.{Automatic, local_name}
use Rattle.execution.specs.Calls.{leaves, scoped}
use Rattle.typed_tree.specs.Tree.{Typed, Form, Has, Integer, Local, Literal, Entity, Load, Decay, Address, Indirect, Subscript, Member, Convert, Unary, Binary, Logical, Conditional, Comma, Assign, Compute, Step, Call, Arguments, NoArguments, MoreArguments, Init, Zero, Scalar, Constant', Aggregate, Bytes, Inits, NoInits, MoreInits}
use Rattle.typed_tree.specs.Places.{is_place}
use Rattle.typed_tree.specs.Statements.{Stmt, Expr, Declare, Block, If, Switch, While, Do, For, Label, Case, Default, Goto, Break, Continue, Return, Stmts, Done, Seq}
use Rattle.typed_tree.specs.Units.{Local as LocalObject, Literal as LiteralObject}
use Rattle.c_rules.specs.Types.{Types, is_array, size_in, offset_in}
use Rattle.c_rules.specs.Conversions.{Operand}
use Rattle.c_typing.specs.Scopes.{Env, Found, Good, Bad, Walk, empty_scope}
use Rattle.c_typing.specs.Statements.{Place}

-- where a function runs: the types of its unit at the unit's end, the run's numbers of the unit's objects and functions, the number of the activation; how many parameters and declared objects, and how many compound literals, the function has
pub record Activation : Type 0 where
  pub types : Types
  pub entities : List ℕ
  pub number : ℕ
  pub locals : ℕ
  pub literals : ℕ

-- where in the function: what is declared before, how many arrays in values stand before, and the statements around
pub record Here : Type 0 where
  pub env : Env
  pub arrays : ℕ
  pub place : Place

-- where a value stands in the outermost value of which it is a part: how many bytes are before it, and how many there are in all
abbrev pub whole : Types → Shape → Option (ℕ × ℕ)
whole t s = option_map (λ n. (0, n)) (size_in t s)

abbrev pub part_of : Types → Option (ℕ × ℕ) → ℕ → ℕ → Option (ℕ × ℕ)
part_of t outer g i = option_and_then (λ (x : ℕ × ℕ). option_map (λ at. (x.0 + at, x.1)) (offset_in t g i)) outer

abbrev mutual
  pub outer_of : Types → Typed → Option (ℕ × ℕ)
  outer_of t (Has q s effect form) = outer_form t s form

  outer_form : Types → Shape → Form → Option (ℕ × ℕ)
  outer_form t s (Member e g i) = elim (is_place e) [ true ↦ whole t s | false ↦ part_of t (outer_of t e) g i ]
  outer_form t s (Integer n) = whole t s
  outer_form t s (Local n) = whole t s
  outer_form t s (Literal n init) = whole t s
  outer_form t s (Entity n) = whole t s
  outer_form t s (Load e) = whole t s
  outer_form t s (Decay e) = whole t s
  outer_form t s (Address e) = whole t s
  outer_form t s (Indirect e) = whole t s
  outer_form t s (Subscript l r) = whole t s
  outer_form t s (Convert e) = whole t s
  outer_form t s (Unary op e) = whole t s
  outer_form t s (Binary op l r) = whole t s
  outer_form t s (Logical op l r) = whole t s
  outer_form t s (Conditional c y n) = whole t s
  outer_form t s (Comma l r) = whole t s
  outer_form t s (Assign l r) = whole t s
  outer_form t s (Compute op at l r) = whole t s
  outer_form t s (Step form at e) = whole t s
  outer_form t s (Call f es) = whole t s

-- arrays in values: a member of array type of a value that is no lvalue (6.2.4p8), of which each stands in an object of its own (own)

abbrev pub one_if : Bool → ℕ
one_if true = 1
one_if false = 0

abbrev mutual
  pub arrays_in : Typed → ℕ
  arrays_in (Has q s effect form) = arrays_in_form s form

  arrays_in_form : Shape → Form → ℕ
  arrays_in_form s (Integer n) = 0
  arrays_in_form s (Local n) = 0
  arrays_in_form s (Literal n init) = arrays_in_inits init
  arrays_in_form s (Entity n) = 0
  arrays_in_form s (Load e) = arrays_in e
  arrays_in_form s (Decay e) = arrays_in e
  arrays_in_form s (Address e) = arrays_in e
  arrays_in_form s (Indirect e) = arrays_in e
  arrays_in_form s (Subscript l r) = arrays_in l + arrays_in r
  arrays_in_form s (Member e a i) = arrays_in e + one_if (is_array s && not (is_place e))
  arrays_in_form s (Convert e) = arrays_in e
  arrays_in_form s (Unary op e) = arrays_in e
  arrays_in_form s (Binary op l r) = arrays_in l + arrays_in r
  arrays_in_form s (Logical op l r) = arrays_in l + arrays_in r
  arrays_in_form s (Conditional c y n) = arrays_in c + (arrays_in y + arrays_in n)
  arrays_in_form s (Comma l r) = arrays_in l + arrays_in r
  arrays_in_form s (Assign l r) = arrays_in l + arrays_in r
  arrays_in_form s (Compute op at l r) = arrays_in l + arrays_in r
  arrays_in_form s (Step form at e) = arrays_in e
  arrays_in_form s (Call f es) = arrays_in f + arrays_in_arguments es

  arrays_in_arguments : Arguments → ℕ
  arrays_in_arguments NoArguments = 0
  arrays_in_arguments (MoreArguments e es) = arrays_in e + arrays_in_arguments es

  pub arrays_in_init : Init → ℕ
  arrays_in_init (Zero p) = 0
  arrays_in_init (Scalar p e) = arrays_in e
  arrays_in_init (Constant' p c) = 0
  arrays_in_init (Aggregate p e) = arrays_in e
  arrays_in_init (Bytes p bytes) = 0

  pub arrays_in_inits : Inits → ℕ
  arrays_in_inits NoInits = 0
  arrays_in_inits (MoreInits i is) = arrays_in_init i + arrays_in_inits is

abbrev pub arrays_in_maybe : Option Typed → ℕ
arrays_in_maybe None = 0
arrays_in_maybe (Some e) = arrays_in e

abbrev mutual
  pub arrays_in_stmt : Stmt → ℕ
  arrays_in_stmt (Expr e) = arrays_in e
  arrays_in_stmt (Declare n init) = elim init [ None ↦ 0 | Some is ↦ arrays_in_inits is ]
  arrays_in_stmt (Block ss) = arrays_in_stmts ss
  arrays_in_stmt (If e ss rs) = arrays_in e + (arrays_in_stmts ss + arrays_in_stmts rs)
  arrays_in_stmt (Switch e ss) = arrays_in e + arrays_in_stmts ss
  arrays_in_stmt (While e ss) = arrays_in e + arrays_in_stmts ss
  arrays_in_stmt (Do ss e) = arrays_in_stmts ss + arrays_in e
  arrays_in_stmt (For start test step ss) = arrays_in_stmts start + (arrays_in_maybe test + (arrays_in_maybe step + arrays_in_stmts ss))
  arrays_in_stmt (Label n) = 0
  arrays_in_stmt (Case kind v) = 0
  arrays_in_stmt Default = 0
  arrays_in_stmt (Goto n) = 0
  arrays_in_stmt Break = 0
  arrays_in_stmt Continue = 0
  arrays_in_stmt (Return e) = arrays_in_maybe e

  pub arrays_in_stmts : Stmts → ℕ
  arrays_in_stmts Done = 0
  arrays_in_stmts (Seq s ss) = arrays_in_stmt s + arrays_in_stmts ss

abbrev pub arrays_in_list : List Stmt → ℕ
arrays_in_list [] = 0
arrays_in_list (s ∷ ss) = arrays_in_stmt s + arrays_in_list ss

-- the compound literals in a typed expression, by their numbers in the function (6.5.2.5p5). Where C11 asks for a constant expression a typed tree has its value alone, and of an operand of `sizeof` the size: a literal in those is not here, and no object is made for it (6.6p2, p3, 6.5.3.4p2)
abbrev mutual
  pub literals_in : Typed → List ℕ
  literals_in (Has q s effect form) = literals_in_form form

  literals_in_form : Form → List ℕ
  literals_in_form (Integer n) = []
  literals_in_form (Local n) = []
  literals_in_form (Literal n init) = n ∷ literals_in_inits init
  literals_in_form (Entity n) = []
  literals_in_form (Load e) = literals_in e
  literals_in_form (Decay e) = literals_in e
  literals_in_form (Address e) = literals_in e
  literals_in_form (Indirect e) = literals_in e
  literals_in_form (Subscript l r) = literals_in l ++ literals_in r
  literals_in_form (Member e a i) = literals_in e
  literals_in_form (Convert e) = literals_in e
  literals_in_form (Unary op e) = literals_in e
  literals_in_form (Binary op l r) = literals_in l ++ literals_in r
  literals_in_form (Logical op l r) = literals_in l ++ literals_in r
  literals_in_form (Conditional c y n) = literals_in c ++ (literals_in y ++ literals_in n)
  literals_in_form (Comma l r) = literals_in l ++ literals_in r
  literals_in_form (Assign l r) = literals_in l ++ literals_in r
  literals_in_form (Compute op at l r) = literals_in l ++ literals_in r
  literals_in_form (Step form at e) = literals_in e
  literals_in_form (Call f es) = literals_in f ++ literals_in_arguments es

  literals_in_arguments : Arguments → List ℕ
  literals_in_arguments NoArguments = []
  literals_in_arguments (MoreArguments e es) = literals_in e ++ literals_in_arguments es

  literals_in_init : Init → List ℕ
  literals_in_init (Zero p) = []
  literals_in_init (Scalar p e) = literals_in e
  literals_in_init (Constant' p c) = []
  literals_in_init (Aggregate p e) = literals_in e
  literals_in_init (Bytes p bytes) = []

  pub literals_in_inits : Inits → List ℕ
  literals_in_inits NoInits = []
  literals_in_inits (MoreInits i is) = literals_in_init i ++ literals_in_inits is

abbrev pub literals_in_maybe : Option Typed → List ℕ
literals_in_maybe None = []
literals_in_maybe (Some e) = literals_in e

abbrev pub literals_declared : Option Inits → List ℕ
literals_declared None = []
literals_declared (Some is) = literals_in_inits is

-- those that are of the block in which a statement stands: a compound, selection or iteration statement is a block, and has its own (6.8.2p2, 6.8.4p3, 6.8.5p5)
abbrev pub own_literals : Stmt → List ℕ
own_literals (Expr e) = literals_in e
own_literals (Declare n init) = literals_declared init
own_literals (Block ss) = []
own_literals (If e ss rs) = []
own_literals (Switch e ss) = []
own_literals (While e ss) = []
own_literals (Do ss e) = []
own_literals (For start test step ss) = []
own_literals (Label n) = []
own_literals (Case kind v) = []
own_literals Default = []
own_literals (Goto n) = []
own_literals Break = []
own_literals Continue = []
own_literals (Return e) = literals_in_maybe e

abbrev pub own_literals_in : List Stmt → List ℕ
own_literals_in [] = []
own_literals_in (s ∷ ss) = own_literals s ++ own_literals_in ss

-- what the walk over a unit finds at a place, and the place behind it: it is what C's rules say of types and declarations (6.2, 6.5, 6.7); what has a fault has no meaning

abbrev pub here_behind : {A : Type 0} → (A → ℕ) → Here → A × Env → Here
here_behind count h x = record h { env = x.1; arrays = h.arrays + count x.0 }

abbrev pub found : {A B : Type 0} → (A → ℕ) → B → Here → (A → Here → B) → Found (A × Env) → B
found count fault h next (Good x) = next x.0 (here_behind count h x)
found count fault h next (Bad f at) = fault

abbrev pub undefined : {B : Type 0} → State → Result B
undefined s = Undefined s

abbrev pub none : {A : Type 0} → A → ℕ
none a = 0

-- what has no arrays in values
abbrev pub with_walk : {A B : Type 0} → B → Walk A → Here → (A → Here → B) → B
with_walk fault walk h next = found none fault h next (walk h.env)

abbrev pub with_parts : {A B : Type 0} → Walk A → Here → (A → Here → State → Result B) → State → Result B
with_parts walk h next = with_walk undefined walk h next

-- an operand's type, and what is declared behind it
abbrev pub with_operand : {B : Type 0} → Walk Operand → Here → (Operand → Here → State → Result B) → State → Result B
with_operand walk h next = found (λ (x : Operand). arrays_in x.typed) undefined h next (walk h.env)

abbrev pub arrays_in_operands : List Operand → ℕ
arrays_in_operands [] = 0
arrays_in_operands (x ∷ xs) = arrays_in x.typed + arrays_in_operands xs

abbrev pub with_operands : {B : Type 0} → Walk (List Operand) → Here → (List Operand → Here → State → Result B) → State → Result B
with_operands walk h next = found arrays_in_operands undefined h next (walk h.env)

abbrev pub with_typed : {B : Type 0} → Walk Typed → Here → (Typed → Here → State → Result B) → State → Result B
with_typed walk h next = found arrays_in undefined h next (walk h.env)

abbrev pub with_maybe : {B : Type 0} → Walk (Option Typed) → Here → (Option Typed → Here → State → Result B) → State → Result B
with_maybe walk h next = found arrays_in_maybe undefined h next (walk h.env)

abbrev pub with_stmts : {B : Type 0} → B → Walk (List Stmt) → Here → (List Stmt → Here → B) → B
with_stmts fault walk h next = found arrays_in_list fault h next (walk h.env)

-- a block is entered (6.2.1p4)
abbrev pub entered : Here → Here
entered h = record h { env = record h.env { scopes = empty_scope ∷ h.env.scopes } }

-- the objects of an activation: the parameters and declared objects by their numbers, behind them the compound literals, and behind those the arrays in values (own)

abbrev pub local_of : Activation → ℕ → ObjName
local_of a n = local_name a.number n

abbrev pub literal_number : Activation → ℕ → ℕ
literal_number a n = a.locals + n

abbrev pub array_number : Activation → ℕ → ℕ
array_number a n = a.locals + (a.literals + n)

abbrev pub sized : Option ℕ → ℕ → List Automatic → List Automatic
sized None n more = more
sized (Some size) n more = record { number = n; size = size } ∷ more

abbrev pub locals_from : Activation → ℕ → List LocalObject → List Automatic
locals_from a n [] = []
locals_from a n (l ∷ ls) = sized (size_in a.types l.shape) n (locals_from a (suc n) ls)

abbrev pub literal_in : Activation → ℕ → Option LiteralObject → List Automatic
literal_in a n None = []
literal_in a n (Some l) = sized (size_in a.types l.shape) (literal_number a n) []

-- the objects of the compound literals with these numbers, of those that a function has
abbrev pub literal_objects : Activation → List LiteralObject → List ℕ → List Automatic
literal_objects a ls [] = []
literal_objects a ls (n ∷ ns) = literal_in a n (slice_get ls n) ++ literal_objects a ls ns

-- the objects that are declared between two places, and those of the compound literals with these numbers, which stand before the second
abbrev pub objects_between : Activation → Here → Here → List ℕ → List Automatic
objects_between a h k literals = locals_from a (length h.env.locals) (drop (length h.env.locals) k.env.locals) ++ literal_objects a k.env.literals literals

abbrev pub numbers_from : ℕ → ℕ → List ℕ
numbers_from n zero = []
numbers_from n (suc more) = n ∷ numbers_from (suc n) more

-- the objects of the arrays in values between two places
abbrev pub arrays_between : Activation → Here → Here → List ℕ
arrays_between a h k = numbers_from (array_number a h.arrays) (k.arrays - h.arrays)

-- the objects of a block live while it runs, however it is left (6.2.4p5, p6), and so long do the arrays in values that stand in it (own)
abbrev pub in_block : {A : Type 0} → Activation → List Automatic → List ℕ → (State → Result A) → State → Result A
in_block a objects arrays go s = leaves a.number arrays (scoped a.number objects go s)
