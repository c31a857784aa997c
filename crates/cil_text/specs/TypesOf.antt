-- Device: which types occur in a program: those of its members, its globals, its locals and its casts (own), each with its parts; and when a graph has no others.
use Rattle.std.specs.Prelude.{◌≡◌, ◌⊎◌, ℕ, ◌<◌, ◌≤◌, List, [], ◌∷◌, ◌++◌, Option, Some, None, map, length}
use Rattle.type_graph.specs.Shapes.{Shape, Shapes, VoidType, IntType, PtrType, ArrayType, FuncType, AggType, NoTypes, MoreTypes, shape}
use Rattle.type_graph.specs.Arena.{Graph, empty_graph}
use Rattle.cil_tree.specs.Tree.{Exp, Const, Value, Un, Bin, Cast, AddrOf, StartOf, Host, Global, Var, At, Offsets, Here, Field, Index, Lval, Place, Callee, Direct, Through, Instr, Set, Call, Zero, Stmt, Do, If, Switch, Loop, Block, Label, Case, Default, Goto, Break, Return, Stmts, Done, Seq, Local, Body, Definition, Declared, Zeros, Image, Function, GlobalDecl, Program}
use Rattle.cil_tree.specs.Programs.{SeenMember, SeenAggregate, seen_aggregate}

abbrev mutual
  -- a type, and what it points to, its elements, its result and its parameters, with their parts
  pub parts : Shape → List Shape
  parts VoidType = VoidType ∷ []
  parts (IntType kind) = IntType kind ∷ []
  parts (PtrType q s) = PtrType q s ∷ parts s
  parts (ArrayType q s bound) = ArrayType q s bound ∷ parts s
  parts (FuncType ret params proto variadic) = FuncType ret params proto variadic ∷ (parts ret ++ all_parts params)
  parts (AggType a) = AggType a ∷ []

  pub all_parts : Shapes → List Shape
  all_parts NoTypes = []
  all_parts (MoreTypes s more) = parts s ++ all_parts more

-- the types that stand in a tree, in the order of its text

abbrev pub type_of_one : Option Shape → List Shape
type_of_one None = []
type_of_one (Some s) = s ∷ []

abbrev mutual
  pub types_in_exp : Exp → List Shape
  types_in_exp (Const kind value) = []
  types_in_exp (Value place) = types_in_place place
  types_in_exp (Un op operand) = types_in_exp operand
  types_in_exp (Bin op left right) = types_in_exp left ++ types_in_exp right
  types_in_exp (Cast to operand) = type_of_one to ++ types_in_exp operand
  types_in_exp (AddrOf place) = types_in_place place
  types_in_exp (StartOf place) = types_in_place place

  pub types_in_host : Host → List Shape
  types_in_host (Global number) = []
  types_in_host (Var number) = []
  types_in_host (At pointer) = types_in_exp pointer

  pub types_in_offsets : Offsets → List Shape
  types_in_offsets Here = []
  types_in_offsets (Field number more) = types_in_offsets more
  types_in_offsets (Index index more) = types_in_exp index ++ types_in_offsets more

  pub types_in_place : Lval → List Shape
  types_in_place (Place host offsets) = types_in_host host ++ types_in_offsets offsets

abbrev pub types_in_args : List Exp → List Shape
types_in_args [] = []
types_in_args (e ∷ es) = types_in_exp e ++ types_in_args es

abbrev pub types_in_result : Option Lval → List Shape
types_in_result None = []
types_in_result (Some place) = types_in_place place

abbrev pub types_in_callee : Callee → List Shape
types_in_callee (Direct number) = []
types_in_callee (Through pointer) = types_in_exp pointer

abbrev pub types_in_instr : Instr → List Shape
types_in_instr (Set place value) = types_in_place place ++ types_in_exp value
types_in_instr (Call result callee arguments) = types_in_result result ++ (types_in_callee callee ++ types_in_args arguments)
types_in_instr (Zero place) = types_in_place place

abbrev mutual
  pub types_in_stmt : Stmt → List Shape
  types_in_stmt (Do instr) = types_in_instr instr
  types_in_stmt (If test holds fails) = types_in_exp test ++ (types_in_stmts holds ++ types_in_stmts fails)
  types_in_stmt (Switch value body) = types_in_exp value ++ types_in_stmts body
  types_in_stmt (Loop body) = types_in_stmts body
  types_in_stmt (Block body) = types_in_stmts body
  types_in_stmt (Label number) = []
  types_in_stmt (Case kind value) = []
  types_in_stmt Default = []
  types_in_stmt (Goto number) = []
  types_in_stmt Break = []
  types_in_stmt (Return None) = []
  types_in_stmt (Return (Some e)) = types_in_exp e

  pub types_in_stmts : Stmts → List Shape
  types_in_stmts Done = []
  types_in_stmts (Seq first rest) = types_in_stmt first ++ types_in_stmts rest

abbrev pub types_in_locals : List Local → List Shape
types_in_locals [] = []
types_in_locals (x ∷ xs) = type_of_one x.type ++ types_in_locals xs

abbrev pub types_in_body : Body → List Shape
types_in_body b = types_in_locals b.locals ++ types_in_stmts b.stmts

abbrev pub types_in_definition : Definition → List Shape
types_in_definition Declared = []
types_in_definition Zeros = []
types_in_definition (Image items) = []
types_in_definition (Function body) = types_in_body body

-- the types of globals
abbrev pub declared_types : List GlobalDecl → List Shape
declared_types [] = []
declared_types (x ∷ xs) = type_of_one x.type ++ declared_types xs

-- the types in what defines globals
abbrev pub defined_types : List GlobalDecl → List Shape
defined_types [] = []
defined_types (x ∷ xs) = types_in_definition x.definition ++ defined_types xs

abbrev pub type_of_member : SeenMember → Shape
type_of_member m = m.type

abbrev pub types_in_aggregate : SeenAggregate → List Shape
types_in_aggregate x = elim x.members [ None ↦ [] | Some ms ↦ map type_of_member ms ]

abbrev pub member_types : List SeenAggregate → List Shape
member_types [] = []
member_types (x ∷ xs) = types_in_aggregate x ++ member_types xs

-- the types of a program's members, of its globals, and of what its functions have
abbrev pub types_of : List SeenAggregate → List GlobalDecl → List Shape
types_of xs globals = member_types xs ++ (declared_types globals ++ defined_types globals)

-- graphs

abbrev pub Among : Shape → List Shape → Type 0
Among s [] = ⊥
Among s (x ∷ xs) = (s ≡ x) ⊎ Among s xs

-- each type that was added is a part of one of these
pub record AddsParts (old new : Graph) (ss : List Shape) : Type 0 where
  pub part : (t : ℕ) → length old.nodes ≤ t → t < length new.nodes → (s : Shape) × Among s ss × Among (shape new.nodes t) (parts s)

-- each type of the program's graph is a part of one that occurs in the program
abbrev pub HasNeeded : Program → Type 0
HasNeeded p = AddsParts (empty_graph p.graph.abi) p.graph (types_of (map (seen_aggregate p) p.graph.aggs) p.globals)
