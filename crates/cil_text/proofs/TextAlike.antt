-- Device: equal programs have one text.
use Rattle.std.proofs.Common.{◌≡◌, ℕ, cond, List, [], ◌∷◌, ◌++◌, map, codes, Option, Some, None, refl, sym, ap, ◌∙◌}
use Rattle.std.specs.Prelude.{ℤ, pos}
use Rattle.std.specs.Option.{option_map, option_and_then}
use Rattle.cil_base.specs.declared.constants.Constant.{Constant}
use Rattle.cil_base.specs.declared.constants.Constant.TheVariants.{Int as Integer, Address, Function as Code}
use Rattle.cil_base.specs.declared.kinds.Abi.{Abi}
use Rattle.cil_base.specs.declared.kinds.IntKind.TheVariants as kind
use Rattle.cil_base.specs.Integer.{ulong_of, long_of}
use Rattle.cil_base.specs.Operators.{operator_spelling}
use Rattle.type_graph.specs.declared.aggregates.Aggregate.{Aggregate}
use Rattle.type_graph.specs.declared.aggregates.Member.{Member}
use Rattle.type_graph.specs.declared.layout.Layout.{Layout}
use Rattle.type_graph.specs.Shapes.{Shape, Shapes, PtrType, FuncType, NoTypes, MoreTypes, shape}
use Rattle.cil_tree.specs.Tree.{Exp, Const, Value, Un, Bin, Cast, AddrOf, StartOf, Host, Global, Var, At, Offsets, Here, Field, Index, Lval, Place, Callee, Direct, Through, Instr, Set, Call, Zero, Stmt, Do, If, Switch, Loop, Block, Label, Case, Default, Goto, Break, Return, Stmts, Done, Seq, Step, ToField, ToIndex, Item, Local, Body, Definition, Declared, Zeros, Image, Function, GlobalDecl, Program}
use Rattle.cil_tree.specs.Typing.{scope_of, is_enum, member_type, element_of, host_type, place_type}
use Rattle.cil_tree.specs.Lines.{Token, Line, lines_bytes}
use Rattle.cil_tree.specs.Declarators.{tagged, declared, type_tokens, in_parentheses, listed, separated, number}
use Rattle.cil_tree.specs.Text.{shape_layout, global_name, name_in, unary_spelling, in_brackets, exp_tokens, host_tokens, offset_tokens, place_tokens, argument_tokens, callee_tokens, result_tokens, size_tokens, instr_tokens, closed, heading, closing, return_tokens, stmt_lines, lines_of, path_tokens, path_type, address_tokens, cast_tokens, value_tokens, constant_tokens, item_tokens, items_tokens, is_scalar_type, scalar_tokens, in_braces, image_tokens, declarator, linkage, storage, declaration_line, object_lines, parameter_tokens, function_tokens, local_line, body_lines, function_lines, enumerator_line, member_line, complete_lines, enum_lines, tag_lines, struct_lines, concat_each, program_lines}
use Rattle.cil_tree.specs.Programs.{SeenMember, SeenAggregate, seen_member, seen_aggregate, SameProgram}
use Rattle.cil_text.proofs.Alike.{alike, seen_words, tagged_seen, declared_alike, name_alike, type_alike, scalar_alike, global_name_alike}
use Rattle.cil_text.proofs.TypedAlike.{Equal, in_scope, layout_alike, host_type_alike, place_type_alike}

type_tokens_alike : (p q : Program) → Equal p q → (o : Option Shape) (inner : List Token) → type_tokens p o inner ≡ type_tokens q o inner
type_tokens_alike p q same None inner = refl
type_tokens_alike p q same (Some s) inner = declared_alike p q same.aggregates s inner

name_at_alike : (p q : Program) → Equal p q → (n : ℕ) (o : Option Shape) → elim o as (λ _. List ℕ) [ None ↦ [] | Some t ↦ name_in p t n ] ≡ elim o as (λ _. List ℕ) [ None ↦ [] | Some t ↦ name_in q t n ]
name_at_alike p q same n None = refl
name_at_alike p q same n (Some t) = name_alike p q same.aggregates t n

next_alike : (p q : Program) → Equal p q → (n : ℕ) (o : Option Shape) → option_and_then (λ t. member_type p.graph t n) o ≡ option_and_then (λ t. member_type q.graph t n) o
next_alike p q same n None = refl
next_alike p q same n (Some t) = type_alike p q same.aggregates t n

mutual
  exp_alike : (p q : Program) → Equal p q → (ls : List Local) (bs : List (List ℕ)) (e : Exp) → exp_tokens (in_scope p ls bs) e ≡ exp_tokens (in_scope q ls bs) e
  exp_alike p q same ls bs (Const k v) = refl
  exp_alike p q same ls bs (Value place) = place_alike p q same ls bs place
  exp_alike p q same ls bs (Un op operand) = ap (λ ts. in_parentheses (unary_spelling op ∷ ts)) (exp_alike p q same ls bs operand)
  exp_alike p q same ls bs (Bin op left right) =
      ap (λ ts. in_parentheses (ts ++ operator_spelling op ∷ exp_tokens (in_scope p ls bs) right)) (exp_alike p q same ls bs left)
      ∙ ap (λ ts. in_parentheses (exp_tokens (in_scope q ls bs) left ++ operator_spelling op ∷ ts)) (exp_alike p q same ls bs right)
  exp_alike p q same ls bs (Cast to operand) =
      ap (λ ts. in_parentheses (in_parentheses ts ++ exp_tokens (in_scope p ls bs) operand)) (type_tokens_alike p q same to [])
      ∙ ap (λ ts. in_parentheses (in_parentheses (type_tokens q to []) ++ ts)) (exp_alike p q same ls bs operand)
  exp_alike p q same ls bs (AddrOf place) = ap (λ ts. in_parentheses (codes "&" ∷ ts)) (place_alike p q same ls bs place)
  exp_alike p q same ls bs (StartOf place) = place_alike p q same ls bs place

  host_alike : (p q : Program) → Equal p q → (ls : List Local) (bs : List (List ℕ)) (h : Host) → host_tokens (in_scope p ls bs) h ≡ host_tokens (in_scope q ls bs) h
  host_alike p q same ls bs (Global n) = ap (λ (t : Token). t ∷ []) (global_name_alike p q same.globals n)
  host_alike p q same ls bs (Var n) = refl
  host_alike p q same ls bs (At pointer) = ap (λ ts. in_parentheses (codes "*" ∷ ts)) (exp_alike p q same ls bs pointer)

  offsets_alike : (p q : Program) → Equal p q → (ls : List Local) (bs : List (List ℕ)) (o : Offsets) (s : Option Shape) → offset_tokens (in_scope p ls bs) o s ≡ offset_tokens (in_scope q ls bs) o s
  offsets_alike p q same ls bs Here s = refl
  offsets_alike p q same ls bs (Field n more) s =
      ap (λ (t : Token). codes "." ∷ t ∷ offset_tokens (in_scope p ls bs) more (option_and_then (λ u. member_type p.graph u n) s)) (name_at_alike p q same n s)
      ∙ ap (λ ts. codes "." ∷ elim s as (λ _. List ℕ) [ None ↦ [] | Some t ↦ name_in q t n ] ∷ ts)
      (ap (offset_tokens (in_scope p ls bs) more) (next_alike p q same n s) ∙ offsets_alike p q same ls bs more (option_and_then (λ u. member_type q.graph u n) s))
  offsets_alike p q same ls bs (Index index more) s =
      ap (λ ts. in_brackets ts ++ offset_tokens (in_scope p ls bs) more (option_and_then element_of s)) (exp_alike p q same ls bs index)
      ∙ ap (λ ts. in_brackets (exp_tokens (in_scope q ls bs) index) ++ ts) (offsets_alike p q same ls bs more (option_and_then element_of s))

  place_alike : (p q : Program) → Equal p q → (ls : List Local) (bs : List (List ℕ)) (place : Lval) → place_tokens (in_scope p ls bs) place ≡ place_tokens (in_scope q ls bs) place
  place_alike p q same ls bs (Place host offsets) =
      ap (λ ts. ts ++ offset_tokens (in_scope p ls bs) offsets (host_type (in_scope p ls bs) host)) (host_alike p q same ls bs host)
      ∙ ap (λ o. host_tokens (in_scope q ls bs) host ++ offset_tokens (in_scope p ls bs) offsets o) (host_type_alike p q same ls bs host)
      ∙ ap (λ ts. host_tokens (in_scope q ls bs) host ++ ts) (offsets_alike p q same ls bs offsets (host_type (in_scope q ls bs) host))

args_alike : (p q : Program) → Equal p q → (ls : List Local) (bs : List (List ℕ)) (es : List Exp) → argument_tokens (in_scope p ls bs) es ≡ argument_tokens (in_scope q ls bs) es
args_alike p q same ls bs [] = refl
args_alike p q same ls bs (e ∷ es) = ap (λ ts. separated ts (argument_tokens (in_scope p ls bs) es)) (exp_alike p q same ls bs e) ∙ ap (separated (exp_tokens (in_scope q ls bs) e)) (args_alike p q same ls bs es)

callee_alike : (p q : Program) → Equal p q → (ls : List Local) (bs : List (List ℕ)) (f : Callee) → callee_tokens (in_scope p ls bs) f ≡ callee_tokens (in_scope q ls bs) f
callee_alike p q same ls bs (Direct n) = ap (λ (t : Token). t ∷ []) (global_name_alike p q same.globals n)
callee_alike p q same ls bs (Through pointer) = ap (λ ts. in_parentheses (codes "*" ∷ ts)) (exp_alike p q same ls bs pointer)

result_alike : (p q : Program) → Equal p q → (ls : List Local) (bs : List (List ℕ)) (o : Option Lval) → result_tokens (in_scope p ls bs) o ≡ result_tokens (in_scope q ls bs) o
result_alike p q same ls bs None = refl
result_alike p q same ls bs (Some place) = ap (λ ts. ts ++ codes "=" ∷ []) (place_alike p q same ls bs place)

shape_size : Abi → Option Layout → List Token
shape_size abi o = elim o [ None ↦ [] | Some l ↦ number (ulong_of abi) (pos l.size) ]

layout_of_alike : (p q : Program) → Equal p q → (o : Option Shape) → option_and_then (shape_layout p.graph) o ≡ option_and_then (shape_layout q.graph) o
layout_of_alike p q same None = refl
layout_of_alike p q same (Some s) = layout_alike p q same s

size_alike : (p q : Program) → Equal p q → (ls : List Local) (bs : List (List ℕ)) (o : Option Shape) → size_tokens (in_scope p ls bs) o ≡ size_tokens (in_scope q ls bs) o
unfolding shape_size
size_alike p q same ls bs o = ap (shape_size p.graph.abi) (layout_of_alike p q same o) ∙ ap (λ (a : Abi). shape_size a (option_and_then (shape_layout q.graph) o)) same.abi

instr_alike : (p q : Program) → Equal p q → (ls : List Local) (bs : List (List ℕ)) (i : Instr) → instr_tokens (in_scope p ls bs) i ≡ instr_tokens (in_scope q ls bs) i
instr_alike p q same ls bs (Set place value) =
    ap (λ ts. ts ++ codes "=" ∷ exp_tokens (in_scope p ls bs) value) (place_alike p q same ls bs place) ∙ ap (λ ts. place_tokens (in_scope q ls bs) place ++ codes "=" ∷ ts) (exp_alike p q same ls bs value)
instr_alike p q same ls bs (Call result callee arguments) =
    ap (λ ts. ts ++ (callee_tokens (in_scope p ls bs) callee ++ in_parentheses (argument_tokens (in_scope p ls bs) arguments))) (result_alike p q same ls bs result)
    ∙ ap (λ ts. result_tokens (in_scope q ls bs) result ++ (ts ++ in_parentheses (argument_tokens (in_scope p ls bs) arguments))) (callee_alike p q same ls bs callee)
    ∙ ap (λ ts. result_tokens (in_scope q ls bs) result ++ (callee_tokens (in_scope q ls bs) callee ++ in_parentheses ts)) (args_alike p q same ls bs arguments)
instr_alike p q same ls bs (Zero place) =
    ap (λ ts. codes "__builtin_memset" ∷ in_parentheses (in_parentheses (codes "&" ∷ ts) ++ codes "," ∷ codes "0" ∷ codes "," ∷ size_tokens (in_scope p ls bs) (place_type (in_scope p ls bs) place))) (place_alike p q same ls bs place)
    ∙ ap (λ ts. codes "__builtin_memset" ∷ in_parentheses (in_parentheses (codes "&" ∷ place_tokens (in_scope q ls bs) place) ++ codes "," ∷ codes "0" ∷ codes "," ∷ ts))
    (ap (size_tokens (in_scope p ls bs)) (place_type_alike p q same ls bs place) ∙ size_alike p q same ls bs (place_type (in_scope q ls bs) place))

mutual
  stmt_alike : (p q : Program) → Equal p q → (ls : List Local) (bs : List (List ℕ)) (s : Stmt) → stmt_lines (in_scope p ls bs) s ≡ stmt_lines (in_scope q ls bs) s
  stmt_alike p q same ls bs (Do instr) = ap (λ ts. closed ts ∷ []) (instr_alike p q same ls bs instr)
  stmt_alike p q same ls bs (If test holds fails) =
      ap (λ ts. heading (codes "if") ts ∷ (lines_of (in_scope p ls bs) holds ++ (codes "}" ∷ codes "else" ∷ codes "{" ∷ []) ∷ (lines_of (in_scope p ls bs) fails ++ closing ∷ []))) (exp_alike p q same ls bs test)
      ∙ ap (λ a. heading (codes "if") (exp_tokens (in_scope q ls bs) test) ∷ (a ++ (codes "}" ∷ codes "else" ∷ codes "{" ∷ []) ∷ (lines_of (in_scope p ls bs) fails ++ closing ∷ []))) (stmts_alike p q same ls bs holds)
      ∙ ap (λ a. heading (codes "if") (exp_tokens (in_scope q ls bs) test) ∷ (lines_of (in_scope q ls bs) holds ++ (codes "}" ∷ codes "else" ∷ codes "{" ∷ []) ∷ (a ++ closing ∷ []))) (stmts_alike p q same ls bs fails)
  stmt_alike p q same ls bs (Switch value body) =
      ap (λ ts. heading (codes "switch") ts ∷ (lines_of (in_scope p ls bs) body ++ closing ∷ [])) (exp_alike p q same ls bs value)
      ∙ ap (λ a. heading (codes "switch") (exp_tokens (in_scope q ls bs) value) ∷ (a ++ closing ∷ [])) (stmts_alike p q same ls bs body)
  stmt_alike p q same ls bs (Loop body) = ap (λ a. heading (codes "while") (codes "1" ∷ []) ∷ (a ++ closing ∷ [])) (stmts_alike p q same ls bs body)
  stmt_alike p q same ls bs (Block body) = ap (λ a. (codes "{" ∷ []) ∷ (a ++ closing ∷ [])) (stmts_alike p q same ls bs body)
  stmt_alike p q same ls bs (Label l) = refl
  stmt_alike p q same ls bs (Case k v) = refl
  stmt_alike p q same ls bs Default = refl
  stmt_alike p q same ls bs (Goto l) = refl
  stmt_alike p q same ls bs Break = refl
  stmt_alike p q same ls bs (Return None) = refl
  stmt_alike p q same ls bs (Return (Some e)) = ap (λ ts. closed (codes "return" ∷ ts) ∷ []) (exp_alike p q same ls bs e)

  stmts_alike : (p q : Program) → Equal p q → (ls : List Local) (bs : List (List ℕ)) (ss : Stmts) → lines_of (in_scope p ls bs) ss ≡ lines_of (in_scope q ls bs) ss
  stmts_alike p q same ls bs Done = refl
  stmts_alike p q same ls bs (Seq first rest) = ap (λ a. a ++ lines_of (in_scope p ls bs) rest) (stmt_alike p q same ls bs first) ∙ ap (λ a. stmt_lines (in_scope q ls bs) first ++ a) (stmts_alike p q same ls bs rest)

-- images

path_alike : (p q : Program) → Equal p q → (path : List Step) (s : Option Shape) → path_tokens p path s ≡ path_tokens q path s
path_alike p q same [] s = refl
path_alike p q same (ToField n ∷ path) s =
    ap (λ (t : Token). codes "." ∷ t ∷ path_tokens p path (option_and_then (λ u. member_type p.graph u n) s)) (name_at_alike p q same n s)
    ∙ ap (λ ts. codes "." ∷ elim s as (λ _. List ℕ) [ None ↦ [] | Some t ↦ name_in q t n ] ∷ ts)
    (ap (path_tokens p path) (next_alike p q same n s) ∙ path_alike p q same path (option_and_then (λ u. member_type q.graph u n) s))
path_alike p q same (ToIndex i ∷ path) s = ap (λ ts. in_brackets (Rattle.std.specs.Prelude.decimal i ∷ []) ++ ts) (path_alike p q same path (option_and_then element_of s))

path_type_alike : (p q : Program) → Equal p q → (path : List Step) (s : Option Shape) → path_type p path s ≡ path_type q path s
path_type_alike p q same [] s = refl
path_type_alike p q same (ToField n ∷ path) s = ap (path_type p path) (next_alike p q same n s) ∙ path_type_alike p q same path (option_and_then (λ u. member_type q.graph u n) s)
path_type_alike p q same (ToIndex i ∷ path) s = path_type_alike p q same path (option_and_then element_of s)

cast_tokens_alike : (p q : Program) → Equal p q → (o : Option Shape) → cast_tokens p o ≡ cast_tokens q o
cast_tokens_alike p q same (Some (PtrType r s)) = ap in_parentheses (declared_alike p q same.aggregates (PtrType r s) [])
cast_tokens_alike p q same o = refl

value_alike : (p q : Program) → Equal p q → (x : Constant) → value_tokens p x ≡ value_tokens q x
value_alike p q same (Integer k v) = refl
value_alike p q same (Address object at) =
    ap (λ (t : Token). in_parentheses (in_parentheses (codes "char" ∷ codes "*" ∷ []) ++ codes "&" ∷ t ∷ codes "+" ∷ number (long_of p.graph.abi) at)) (global_name_alike p q same.globals object.0)
    ∙ ap (λ (a : Abi). in_parentheses (in_parentheses (codes "char" ∷ codes "*" ∷ []) ++ codes "&" ∷ global_name q object.0 ∷ codes "+" ∷ number (long_of a) at)) same.abi
value_alike p q same (Code function) = ap (λ (t : Token). codes "&" ∷ t ∷ []) (global_name_alike p q same.globals function.0)

constant_alike : (p q : Program) → Equal p q → (o : Option Shape) (x : Constant) → constant_tokens p o x ≡ constant_tokens q o x
constant_alike p q same o x = ap (λ ts. ts ++ value_tokens p x) (cast_tokens_alike p q same o) ∙ ap (λ ts. cast_tokens q o ++ ts) (value_alike p q same x)

item_alike : (p q : Program) → Equal p q → (s : Option Shape) (x : Item) → item_tokens p s x ≡ item_tokens q s x
item_alike p q same s x =
    ap (λ ts. ts ++ codes "=" ∷ constant_tokens p (path_type p x.path s) x.value) (path_alike p q same x.path s)
    ∙ ap (λ ts. path_tokens q x.path s ++ codes "=" ∷ ts) (ap (λ o. constant_tokens p o x.value) (path_type_alike p q same x.path s) ∙ constant_alike p q same (path_type q x.path s) x.value)

items_alike : (p q : Program) → Equal p q → (s : Option Shape) (xs : List Item) → items_tokens p s xs ≡ items_tokens q s xs
items_alike p q same s [] = refl
items_alike p q same s (x ∷ xs) = ap (λ ts. separated ts (items_tokens p s xs)) (item_alike p q same s x) ∙ ap (separated (item_tokens q s x)) (items_alike p q same s xs)

scalar_tokens_alike : (p q : Program) → Equal p q → (s : Option Shape) (xs : List Item) → scalar_tokens p s xs ≡ scalar_tokens q s xs
scalar_tokens_alike p q same s [] = refl
scalar_tokens_alike p q same s (x ∷ xs) = constant_alike p q same s x.value

is_scalar_alike : (p q : Program) → Equal p q → (s : Option Shape) → is_scalar_type p s ≡ is_scalar_type q s
is_scalar_alike p q same None = refl
is_scalar_alike p q same (Some s) = scalar_alike p q same.aggregates s

image_alike : (p q : Program) → Equal p q → (s : Option Shape) (xs : List Item) → image_tokens p s xs ≡ image_tokens q s xs
image_alike p q same s xs =
    ap (λ b. cond b (scalar_tokens p s xs) (in_braces (items_tokens p s xs))) (is_scalar_alike p q same s)
    ∙ ap (λ ts. cond (is_scalar_type q s) ts (in_braces (items_tokens p s xs))) (scalar_tokens_alike p q same s xs)
    ∙ ap (λ ts. cond (is_scalar_type q s) (scalar_tokens q s xs) (in_braces ts)) (items_alike p q same s xs)

-- globals

declarator_alike : (p q : Program) → Equal p q → (x : GlobalDecl) → declarator p x ≡ declarator q x
declarator_alike p q same x = type_tokens_alike p q same x.type (x.name ∷ [])

declarations_alike : (p q : Program) → Equal p q → (xs : List GlobalDecl) → map (declaration_line p) xs ≡ map (declaration_line q) xs
declarations_alike p q same [] = refl
declarations_alike p q same (x ∷ xs) =
    ap (λ ts. closed (storage x ++ ts) ∷ map (declaration_line p) xs) (declarator_alike p q same x) ∙ ap (λ ls. declaration_line q x ∷ ls) (declarations_alike p q same xs)

object_alike : (p q : Program) → Equal p q → (x : GlobalDecl) (d : Definition) → object_lines p x d ≡ object_lines q x d
object_alike p q same x Declared = refl
object_alike p q same x Zeros = ap (λ ts. cond x.internal [] (closed ts ∷ [])) (declarator_alike p q same x)
object_alike p q same x (Image items) =
    ap (λ ts. closed (linkage x ++ (ts ++ codes "=" ∷ image_tokens p x.type items)) ∷ []) (declarator_alike p q same x)
    ∙ ap (λ ts. closed (linkage x ++ (declarator q x ++ codes "=" ∷ ts)) ∷ []) (image_alike p q same x.type items)
object_alike p q same x (Function b) = refl

params_alike : (p q : Program) → Equal p q → (ps : Shapes) (names : List (List ℕ)) → parameter_tokens p ps names ≡ parameter_tokens q ps names
params_alike p q same NoTypes names = refl
params_alike p q same (MoreTypes s more) [] = refl
params_alike p q same (MoreTypes s more) (name ∷ names) =
    ap (λ ts. separated ts (parameter_tokens p more names)) (declared_alike p q same.aggregates s (name ∷ [])) ∙ ap (separated (declared q s (name ∷ []))) (params_alike p q same more names)

header_alike : (p q : Program) → Equal p q → (x : GlobalDecl) (b : Body) (o : Option Shape) → function_tokens p x b o ≡ function_tokens q x b o
header_alike p q same x b (Some (FuncType ret params proto variadic)) =
    declared_alike p q same.aggregates ret (x.name ∷ in_parentheses (listed proto variadic (parameter_tokens p params b.params)))
    ∙ ap (λ ts. declared q ret (x.name ∷ in_parentheses (listed proto variadic ts))) (params_alike p q same params b.params)
header_alike p q same x b o = refl

locals_alike : (p q : Program) → Equal p q → (xs : List Local) → map (local_line p) xs ≡ map (local_line q) xs
locals_alike p q same [] = refl
locals_alike p q same (x ∷ xs) = ap (λ ts. closed ts ∷ map (local_line p) xs) (type_tokens_alike p q same x.type (x.name ∷ [])) ∙ ap (λ ls. local_line q x ∷ ls) (locals_alike p q same xs)

body_alike : (p q : Program) → Equal p q → (b : Body) → body_lines p b ≡ body_lines q b
body_alike p q same b =
    ap (λ ls. ls ++ lines_of (scope_of p b) b.stmts) (locals_alike p q same (Rattle.cil_tree.specs.Text.behind b.params b.locals))
    ∙ ap (λ ls. map (local_line q) (Rattle.cil_tree.specs.Text.behind b.params b.locals) ++ ls) (stmts_alike p q same b.locals b.labels b.stmts)

function_alike : (p q : Program) → Equal p q → (x : GlobalDecl) (d : Definition) → function_lines p x d ≡ function_lines q x d
function_alike p q same x Declared = refl
function_alike p q same x Zeros = refl
function_alike p q same x (Image items) = refl
function_alike p q same x (Function b) =
    ap (λ ts. (linkage x ++ (ts ++ codes "{" ∷ [])) ∷ (body_lines p b ++ closing ∷ [])) (header_alike p q same x b x.type)
    ∙ ap (λ ls. (linkage x ++ (function_tokens q x b x.type ++ codes "{" ∷ [])) ∷ (ls ++ closing ∷ [])) (body_alike p q same b)

each_alike : {A B : Type 0} (f g : A → List B) → ((x : A) → f x ≡ g x) → (xs : List A) → concat_each f xs ≡ concat_each g xs
each_alike f g same [] = refl
each_alike f g same (x ∷ xs) = ap (λ ys. ys ++ concat_each f xs) (same x) ∙ ap (λ ys. g x ++ ys) (each_alike f g same xs)

-- aggregates

abbrev Row : Type 0
Row = SeenMember → Line

seen_enumerator : Row
seen_enumerator m = m.name ∷ codes "=" ∷ (number kind.Int m.value ++ codes "," ∷ [])

seen_field_line : Program → Row
seen_field_line q m = closed (declared q m.type (m.name ∷ []))

abbrev seen_block : Row → SeenAggregate → List Line
seen_block row x = elim x.members [ None ↦ [] | Some ms ↦ (seen_words x ++ codes "{" ∷ []) ∷ (map row ms ++ (codes "}" ∷ codes ";" ∷ []) ∷ []) ]

rows_seen : (p : Program) (of : Member → Line) (row : Row) → ((m : Member) → of m ≡ row (seen_member p m)) → (ms : List Member) → map of ms ≡ map row (map (seen_member p) ms)
rows_seen p of row same [] = refl
rows_seen p of row same (m ∷ ms) = ap (λ l. l ∷ map of ms) (same m) ∙ ap (λ ls. row (seen_member p m) ∷ ls) (rows_seen p of row same ms)

block_seen : (p : Program) (of : Member → Line) (row : Row) → ((m : Member) → of m ≡ row (seen_member p m)) → (x : Aggregate) → complete_lines p of x ≡ seen_block row (seen_aggregate p x)
block_seen p of row same x = by x.members
  where
    by : (o : Option (List Member)) → elim o as (λ _. List Line) [ None ↦ [] | Some ms ↦ (tagged p x ++ codes "{" ∷ []) ∷ (map of ms ++ (codes "}" ∷ codes ";" ∷ []) ∷ []) ]
        ≡ elim (option_map (map (seen_member p)) o) as (λ _. List Line) [ None ↦ [] | Some ms ↦ (seen_words (seen_aggregate p x) ++ codes "{" ∷ []) ∷ (map row ms ++ (codes "}" ∷ codes ";" ∷ []) ∷ []) ]
    by None = refl
    by (Some ms) =
        ap (λ ts. (ts ++ codes "{" ∷ []) ∷ (map of ms ++ (codes "}" ∷ codes ";" ∷ []) ∷ [])) (tagged_seen p x)
        ∙ ap (λ ls. (seen_words (seen_aggregate p x) ++ codes "{" ∷ []) ∷ (ls ++ (codes "}" ∷ codes ";" ∷ []) ∷ [])) (rows_seen p of row same ms)

abbrev seen_enum_lines : SeenAggregate → List Line
seen_enum_lines x = cond (is_enum x.kind) (seen_block seen_enumerator x) []

abbrev seen_tag_lines : SeenAggregate → List Line
seen_tag_lines x = cond (is_enum x.kind) [] (closed (seen_words x) ∷ [])

abbrev seen_struct_lines : Program → SeenAggregate → List Line
seen_struct_lines q x = cond (is_enum x.kind) [] (seen_block (seen_field_line q) x)

enums_seen : (p : Program) (x : Aggregate) → enum_lines p x ≡ seen_enum_lines (seen_aggregate p x)
unfolding seen_enumerator
enums_seen p x = ap (λ ls. cond (is_enum x.kind) ls []) (block_seen p (enumerator_line p) seen_enumerator (λ m. refl) x)

tags_are_seen : (p : Program) (x : Aggregate) → tag_lines p x ≡ seen_tag_lines (seen_aggregate p x)
tags_are_seen p x = ap (λ ts. cond (is_enum x.kind) [] (closed ts ∷ [])) (tagged_seen p x)

structs_seen : (p q : Program) → Equal p q → (x : Aggregate) → struct_lines p x ≡ seen_struct_lines q (seen_aggregate p x)
unfolding seen_field_line
structs_seen p q same x = ap (λ ls. cond (is_enum x.kind) [] ls) (block_seen p (member_line p) (seen_field_line q) (λ m. ap closed (declared_alike p q same.aggregates (shape p.graph.nodes m.ty.of.0) (Rattle.cil_tree.specs.Text.member_name p m ∷ []))) x)

each_seen : (p : Program) (of : Aggregate → List Line) (row : SeenAggregate → List Line) → ((x : Aggregate) → of x ≡ row (seen_aggregate p x)) → (xs : List Aggregate) → concat_each of xs ≡ concat_each row (map (seen_aggregate p) xs)
each_seen p of row same [] = refl
each_seen p of row same (x ∷ xs) = ap (λ ls. ls ++ concat_each of xs) (same x) ∙ ap (λ ls. row (seen_aggregate p x) ++ ls) (each_seen p of row same xs)

same_rows : (p q : Program) → SameProgram p q → (of of' : Aggregate → List Line) (row : SeenAggregate → List Line) → ((x : Aggregate) → of x ≡ row (seen_aggregate p x)) → ((x : Aggregate) → of' x ≡ row (seen_aggregate q x)) →
    concat_each of p.graph.aggs ≡ concat_each of' q.graph.aggs
same_rows p q same of of' row a b = each_seen p of row a p.graph.aggs ∙ ap (concat_each row) same.aggregates ∙ sym (each_seen q of' row b q.graph.aggs)

pub equal_text : (p q : Program) → SameProgram p q → Rattle.cil_tree.specs.Text.Text p ≡ Rattle.cil_tree.specs.Text.Text q
equal_text p q same =
    let e : Equal p q = record { abi = same.abi; aggregates = alike p q same; globals = same.globals } in
    let itself : Equal q q = record { abi = refl; aggregates = λ a. refl; globals = refl } in
    let enums = same_rows p q same (enum_lines p) (enum_lines q) seen_enum_lines (enums_seen p) (enums_seen q) in
    let tags = same_rows p q same (tag_lines p) (tag_lines q) seen_tag_lines (tags_are_seen p) (tags_are_seen q) in
    let structs = same_rows p q same (struct_lines p) (struct_lines q) (seen_struct_lines q) (structs_seen p q e) (structs_seen q q itself) in
    let declarations = declarations_alike p q e p.globals ∙ ap (map (declaration_line q)) same.globals in
    let objects = each_alike (λ (x : GlobalDecl). object_lines p x x.definition) (λ (x : GlobalDecl). object_lines q x x.definition) (λ x. object_alike p q e x x.definition) p.globals ∙ ap (concat_each (λ (x : GlobalDecl). object_lines q x x.definition)) same.globals in
    let functions = each_alike (λ (x : GlobalDecl). function_lines p x x.definition) (λ (x : GlobalDecl). function_lines q x x.definition) (λ x. function_alike p q e x x.definition) p.globals ∙ ap (concat_each (λ (x : GlobalDecl). function_lines q x x.definition)) same.globals in
    let t = concat_each (tag_lines p) p.graph.aggs in
    let s = concat_each (struct_lines p) p.graph.aggs in
    let d = map (declaration_line p) p.globals in
    let o = concat_each (λ (x : GlobalDecl). object_lines p x x.definition) p.globals in
    let f = concat_each (λ (x : GlobalDecl). function_lines p x x.definition) p.globals in
    ap (lines_bytes 0) (
    ap (λ ls. ls ++ (t ++ (s ++ (d ++ (o ++ f))))) enums
    ∙ ap (λ ls. concat_each (enum_lines q) q.graph.aggs ++ ls) (
    ap (λ ls. ls ++ (s ++ (d ++ (o ++ f)))) tags
    ∙ ap (λ ls. concat_each (tag_lines q) q.graph.aggs ++ ls) (
    ap (λ ls. ls ++ (d ++ (o ++ f))) structs
    ∙ ap (λ ls. concat_each (struct_lines q) q.graph.aggs ++ ls) (
    ap (λ ls. ls ++ (o ++ f)) declarations
    ∙ ap (λ ls. map (declaration_line q) q.globals ++ ls) (
    ap (λ ls. ls ++ f) objects ∙ ap (λ ls. concat_each (λ (x : GlobalDecl). object_lines q x x.definition) q.globals ++ ls) functions)))))
