-- Definition: the text of a program (own): one list of lines, each of them tokens.
use Rattle.std.specs.Prelude.{ℕ, Bool, false, if◌then◌else◌, List, [], ◌∷◌, ◌++◌, Option, Some, None, codes, decimal, map, slice_get, slice_index_or, ℤ, pos}
use Rattle.std.specs.Option.{option_and_then}
use Rattle.cil_base.specs.declared.constants.Constant.{Constant}
use Rattle.cil_base.specs.declared.constants.Constant.TheVariants.{Int as Number, Address, Function as Code}
use Rattle.cil_base.specs.declared.kinds.IntKind.TheVariants.{Int as int}
use Rattle.cil_base.specs.declared.operators.UnOp.{UnOp}
use Rattle.cil_base.specs.declared.operators.UnOp.TheVariants.{Neg, Compl, Not}
use Rattle.cil_base.specs.Integer.{long_of, ulong_of}
use Rattle.cil_base.specs.Operators.{operator_spelling}
use Rattle.type_graph.specs.declared.aggregates.Aggregate.{Aggregate}
use Rattle.type_graph.specs.declared.aggregates.Member.{Member}
use Rattle.type_graph.specs.declared.layout.Layout.{Layout}
use Rattle.type_graph.specs.Shapes.{Shape, Shapes, PtrType, FuncType, NoTypes, MoreTypes, shape}
use Rattle.type_graph.specs.Arena.{Graph}
use Rattle.type_graph.specs.Layouts.{layout_in, whole_of, agg_layout}
use Rattle.cil_tree.specs.Tree.{Exp, Const, Value, Un, Bin, Cast, AddrOf, StartOf, Host, Global, Var, At, Offsets, Here, Field, Index, Lval, Place, Callee, Direct, Through, Instr, Set, Call, Zero, Stmt, Do, If, Switch, Loop, Block, Label, Case, Default, Goto, Break, Return, Stmts, Done, Seq, Step, ToField, ToIndex, Item, Local, Body, Definition, Declared, Zeros, Image, Function, GlobalDecl, Program}
use Rattle.cil_tree.specs.Typing.{Scope, scope_of, is_function, is_enum, is_scalar, global_at, member_at, member_type, element_of, host_type, place_type}
use Rattle.cil_tree.specs.View.{text_at}
use Rattle.cil_tree.specs.Lines.{Token, Line, lines_bytes}
use Rattle.cil_tree.specs.Declarators.{tagged, declared, type_tokens, in_parentheses, listed, separated, digits, number}

-- the layout of a type (C11 6.5.3.4, 6.2.8), none of an incomplete one
abbrev pub shape_layout : Graph → Shape → Option Layout
shape_layout g s = layout_in g.abi (λ b. whole_of (agg_layout g b)) s

abbrev pub global_name : Program → ℕ → Token
global_name p n = elim (global_at p n) [ None ↦ [] | Some x ↦ x.name ]

abbrev pub local_name : List Local → ℕ → Token
local_name locals n = elim (slice_get locals n) [ None ↦ [] | Some x ↦ x.name ]

abbrev pub label_name : Scope → ℕ → Token
label_name c n = slice_index_or c.labels n []

abbrev pub member_name : Program → Member → Token
member_name p m = text_at p.names m.name

-- the name of a member of a struct or union
abbrev pub name_in : Program → Shape → ℕ → Token
name_in p s n = elim (member_at p.graph s n) [ None ↦ [] | Some m ↦ member_name p m ]

abbrev pub unary_spelling : UnOp → Token
unary_spelling Neg = codes "-"
unary_spelling Compl = codes "~"
unary_spelling Not = codes "!"

abbrev pub in_brackets : List Token → List Token
in_brackets tokens = codes "[" ∷ (tokens ++ codes "]" ∷ [])

abbrev mutual
  pub exp_tokens : Scope → Exp → List Token
  exp_tokens c (Const kind value) = digits kind value ∷ []
  exp_tokens c (Value place) = place_tokens c place
  exp_tokens c (Un op operand) = in_parentheses (unary_spelling op ∷ exp_tokens c operand)
  exp_tokens c (Bin op left right) = in_parentheses (exp_tokens c left ++ operator_spelling op ∷ exp_tokens c right)
  exp_tokens c (Cast to operand) = in_parentheses (in_parentheses (type_tokens c.program to []) ++ exp_tokens c operand)
  exp_tokens c (AddrOf place) = in_parentheses (codes "&" ∷ place_tokens c place)
  exp_tokens c (StartOf place) = place_tokens c place

  pub host_tokens : Scope → Host → List Token
  host_tokens c (Global number) = global_name c.program number ∷ []
  host_tokens c (Var number) = local_name c.locals number ∷ []
  host_tokens c (At pointer) = in_parentheses (codes "*" ∷ exp_tokens c pointer)

  -- the offsets from a place of that type
  pub offset_tokens : Scope → Offsets → Option Shape → List Token
  offset_tokens c Here s = []
  offset_tokens c (Field number more) s = codes "." ∷ elim s [ None ↦ [] | Some t ↦ name_in c.program t number ] ∷ offset_tokens c more (option_and_then (λ t. member_type c.program.graph t number) s)
  offset_tokens c (Index index more) s = in_brackets (exp_tokens c index) ++ offset_tokens c more (option_and_then element_of s)

  pub place_tokens : Scope → Lval → List Token
  place_tokens c (Place host offsets) = host_tokens c host ++ offset_tokens c offsets (host_type c host)

-- arguments separated by `,`
abbrev pub argument_tokens : Scope → List Exp → List Token
argument_tokens c [] = []
argument_tokens c (e ∷ es) = separated (exp_tokens c e) (argument_tokens c es)

abbrev pub callee_tokens : Scope → Callee → List Token
callee_tokens c (Direct number) = global_name c.program number ∷ []
callee_tokens c (Through pointer) = in_parentheses (codes "*" ∷ exp_tokens c pointer)

abbrev pub result_tokens : Scope → Option Lval → List Token
result_tokens c None = []
result_tokens c (Some place) = place_tokens c place ++ codes "=" ∷ []

-- the size of a place in bytes, as a number of type unsigned long
abbrev pub size_tokens : Scope → Option Shape → List Token
size_tokens c s = elim (option_and_then (shape_layout c.program.graph) s) [ None ↦ [] | Some l ↦ number (ulong_of c.program.graph.abi) (pos l.size) ]

abbrev pub instr_tokens : Scope → Instr → List Token
instr_tokens c (Set place value) = place_tokens c place ++ codes "=" ∷ exp_tokens c value
instr_tokens c (Call result callee arguments) = result_tokens c result ++ (callee_tokens c callee ++ in_parentheses (argument_tokens c arguments))
instr_tokens c (Zero place) = codes "__builtin_memset" ∷ in_parentheses (in_parentheses (codes "&" ∷ place_tokens c place) ++ codes "," ∷ codes "0" ∷ codes "," ∷ size_tokens c (place_type c place))

-- a line that ends with `;`
abbrev pub closed : List Token → Line
closed tokens = tokens ++ codes ";" ∷ []

-- a line that opens a brace behind a word and what it tests
abbrev pub heading : Token → List Token → Line
heading word tested = word ∷ (in_parentheses tested ++ codes "{" ∷ [])

abbrev pub closing : Line
closing = codes "}" ∷ []

abbrev pub return_tokens : Scope → Option Exp → List Token
return_tokens c None = codes "return" ∷ []
return_tokens c (Some e) = codes "return" ∷ exp_tokens c e

abbrev mutual
  pub stmt_lines : Scope → Stmt → List Line
  stmt_lines c (Do instr) = closed (instr_tokens c instr) ∷ []
  stmt_lines c (If test holds fails) = heading (codes "if") (exp_tokens c test) ∷ (lines_of c holds ++ (codes "}" ∷ codes "else" ∷ codes "{" ∷ []) ∷ (lines_of c fails ++ closing ∷ []))
  stmt_lines c (Switch value body) = heading (codes "switch") (exp_tokens c value) ∷ (lines_of c body ++ closing ∷ [])
  stmt_lines c (Loop body) = heading (codes "while") (codes "1" ∷ []) ∷ (lines_of c body ++ closing ∷ [])
  stmt_lines c (Block body) = (codes "{" ∷ []) ∷ (lines_of c body ++ closing ∷ [])
  stmt_lines c (Label number) = (label_name c number ∷ codes ":" ∷ codes ";" ∷ []) ∷ []
  stmt_lines c (Case kind value) = (codes "case" ∷ (number kind value ++ codes ":" ∷ codes ";" ∷ [])) ∷ []
  stmt_lines c Default = (codes "default" ∷ codes ":" ∷ codes ";" ∷ []) ∷ []
  stmt_lines c (Goto number) = closed (codes "goto" ∷ label_name c number ∷ []) ∷ []
  stmt_lines c Break = closed (codes "break" ∷ []) ∷ []
  stmt_lines c (Return value) = closed (return_tokens c value) ∷ []

  pub lines_of : Scope → Stmts → List Line
  lines_of c Done = []
  lines_of c (Seq first rest) = stmt_lines c first ++ lines_of c rest

-- a path to a scalar from a place of that type
abbrev pub path_tokens : Program → List Step → Option Shape → List Token
path_tokens p [] s = []
path_tokens p (ToField number ∷ steps) s = codes "." ∷ elim s [ None ↦ [] | Some t ↦ name_in p t number ] ∷ path_tokens p steps (option_and_then (λ t. member_type p.graph t number) s)
path_tokens p (ToIndex index ∷ steps) s = in_brackets (decimal index ∷ []) ++ path_tokens p steps (option_and_then element_of s)

-- the type of the place that a path leads to
abbrev pub path_type : Program → List Step → Option Shape → Option Shape
path_type p [] s = s
path_type p (ToField number ∷ steps) s = path_type p steps (option_and_then (λ t. member_type p.graph t number) s)
path_type p (ToIndex index ∷ steps) s = path_type p steps (option_and_then element_of s)

-- the address of a byte of an object: the object's address as a pointer to char, and the byte's number as a long
abbrev pub address_tokens : Program → ℕ → ℤ → List Token
address_tokens p object offset = in_parentheses (in_parentheses (codes "char" ∷ codes "*" ∷ []) ++ codes "&" ∷ global_name p object ∷ codes "+" ∷ number (long_of p.graph.abi) offset)

abbrev pub cast_tokens : Program → Option Shape → List Token
cast_tokens p (Some (PtrType q s)) = in_parentheses (declared p (PtrType q s) [])
cast_tokens p _ = []

-- the initial value of a scalar of that type; that of a pointer is converted to its type
abbrev pub value_tokens : Program → Constant → List Token
value_tokens p (Number kind v) = number kind v
value_tokens p (Address object offset) = address_tokens p object.0 offset
value_tokens p (Code function) = codes "&" ∷ global_name p function.0 ∷ []

abbrev pub constant_tokens : Program → Option Shape → Constant → List Token
constant_tokens p s value = cast_tokens p s ++ value_tokens p value

abbrev pub item_tokens : Program → Option Shape → Item → List Token
item_tokens p s x = path_tokens p x.path s ++ codes "=" ∷ constant_tokens p (path_type p x.path s) x.value

abbrev pub items_tokens : Program → Option Shape → List Item → List Token
items_tokens p s [] = []
items_tokens p s (x ∷ xs) = separated (item_tokens p s x) (items_tokens p s xs)

abbrev pub is_scalar_type : Program → Option Shape → Bool
is_scalar_type p s = elim s [ None ↦ false | Some t ↦ is_scalar p.graph t ]

-- the initial value of a scalar object is its one constant
abbrev pub scalar_tokens : Program → Option Shape → List Item → List Token
scalar_tokens p s [] = []
scalar_tokens p s (x ∷ xs) = constant_tokens p s x.value

abbrev pub in_braces : List Token → List Token
in_braces tokens = codes "{" ∷ (tokens ++ codes "}" ∷ [])

abbrev pub image_tokens : Program → Option Shape → List Item → List Token
image_tokens p s items = if is_scalar_type p s then scalar_tokens p s items else in_braces (items_tokens p s items)

abbrev pub is_function_type : Option Shape → Bool
is_function_type s = elim s [ None ↦ false | Some t ↦ is_function t ]

abbrev pub declarator : Program → GlobalDecl → List Token
declarator p x = type_tokens p x.type (x.name ∷ [])

-- the storage class of a definition (C11 6.7.1)
abbrev pub linkage : GlobalDecl → List Token
linkage x = if x.internal then codes "static" ∷ [] else []

-- the storage class of a declaration alone
abbrev pub storage : GlobalDecl → List Token
storage x = if x.internal then codes "static" ∷ [] else (if is_function_type x.type then [] else codes "extern" ∷ [])

abbrev pub declaration_line : Program → GlobalDecl → Line
declaration_line p x = closed (storage x ++ declarator p x)

-- an object that is defined: one of internal linkage that is zero has its declaration alone
abbrev pub object_lines : Program → GlobalDecl → Definition → List Line
object_lines p x Declared = []
object_lines p x Zeros = if x.internal then [] else closed (declarator p x) ∷ []
object_lines p x (Image items) = closed (linkage x ++ (declarator p x ++ codes "=" ∷ image_tokens p x.type items)) ∷ []
object_lines p x (Function body) = []

-- the parameters of a definition, with their names
abbrev pub parameter_tokens : Program → Shapes → List Token → List Token
parameter_tokens p NoTypes names = []
parameter_tokens p (MoreTypes s more) [] = []
parameter_tokens p (MoreTypes s more) (name ∷ names) = separated (declared p s (name ∷ [])) (parameter_tokens p more names)

abbrev pub function_tokens : Program → GlobalDecl → Body → Option Shape → List Token
function_tokens p x body (Some (FuncType ret params proto variadic)) = declared p ret (x.name ∷ in_parentheses (listed proto variadic (parameter_tokens p params body.params)))
function_tokens p x body _ = []

abbrev pub local_line : Program → Local → Line
local_line p x = closed (type_tokens p x.type (x.name ∷ []))

-- what stands behind the first n
abbrev pub behind : {A : Type 0} → List Token → List A → List A
behind [] xs = xs
behind (name ∷ names) [] = []
behind (name ∷ names) (x ∷ xs) = behind names xs

abbrev pub body_lines : Program → Body → List Line
body_lines p body = map (local_line p) (behind body.params body.locals) ++ lines_of (scope_of p body) body.stmts

abbrev pub function_lines : Program → GlobalDecl → Definition → List Line
function_lines p x Declared = []
function_lines p x Zeros = []
function_lines p x (Image items) = []
function_lines p x (Function body) = (linkage x ++ (function_tokens p x body x.type ++ codes "{" ∷ [])) ∷ (body_lines p body ++ closing ∷ [])

abbrev pub enumerator_line : Program → Member → Line
enumerator_line p m = member_name p m ∷ codes "=" ∷ (number int m.value ++ codes "," ∷ [])

abbrev pub member_line : Program → Member → Line
member_line p m = closed (declared p (shape p.graph.nodes m.ty.of.0) (member_name p m ∷ []))

-- an aggregate with its members, each by its line
abbrev pub complete_lines : Program → (Member → Line) → Aggregate → List Line
complete_lines p of x = elim x.members [ None ↦ [] | Some ms ↦ (tagged p x ++ codes "{" ∷ []) ∷ (map of ms ++ (codes "}" ∷ codes ";" ∷ []) ∷ []) ]

abbrev pub enum_lines : Program → Aggregate → List Line
enum_lines p x = if is_enum x.kind then complete_lines p (enumerator_line p) x else []

abbrev pub tag_lines : Program → Aggregate → List Line
tag_lines p x = if is_enum x.kind then [] else closed (tagged p x) ∷ []

abbrev pub struct_lines : Program → Aggregate → List Line
struct_lines p x = if is_enum x.kind then [] else complete_lines p (member_line p) x

-- what is of each in order
abbrev pub concat_each : {A B : Type 0} → (A → List B) → List A → List B
concat_each of [] = []
concat_each of (x ∷ xs) = of x ++ concat_each of xs

-- enums, tags of structs and unions, their members, declarations, objects that are defined, and functions with bodies
abbrev pub program_lines : Program → List Line
program_lines p =
    concat_each (enum_lines p) p.graph.aggs
    ++ (concat_each (tag_lines p) p.graph.aggs
    ++ (concat_each (struct_lines p) p.graph.aggs
    ++ (map (declaration_line p) p.globals
    ++ (concat_each (λ (x : GlobalDecl). object_lines p x x.definition) p.globals
    ++ concat_each (λ (x : GlobalDecl). function_lines p x x.definition) p.globals))))

abbrev pub Text : Program → List ℕ
Text p = lines_bytes 0 (program_lines p)
