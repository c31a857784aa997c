-- Device: the fuel that reading takes is at most twice the tokens that are read: of types, expressions, instructions and statements.
use Rattle.std.proofs.Common.{◌≡◌, ℕ, ◌+◌, ◌*◌, ◌≤◌, ◌||◌, Bool, true, false, cond, List, [], ◌∷◌, ◌++◌, length, codes, Option, Some, None, arith, length-append}
use Rattle.std.specs.Prelude.{ℤ, pos, negsuc}
use Rattle.std.specs.Option.{option_and_then}
use Rattle.std.specs.Ordering.{int_eq}
use Rattle.cil_base.specs.declared.kinds.IntKind.{IntKind}
use Rattle.cil_base.specs.Integer.{least}
use Rattle.cil_base.specs.Operators.{operator_spelling}
use Rattle.type_graph.specs.declared.aggregates.Aggregate.{Aggregate}
use Rattle.type_graph.specs.Shapes.{Shape, Shapes, VoidType, IntType, PtrType, ArrayType, FuncType, AggType, NoTypes, MoreTypes}
use Rattle.cil_tree.specs.Tree.{Exp, Const, Value, Un, Bin, Cast, AddrOf, StartOf, Host, Global, Var, At, Offsets, Here, Field, Index, Lval, Place, Callee, Direct, Through, Instr, Set, Call, Zero, Stmt, Do, If, Switch, Loop, Block, Label, Case, Default, Goto, Break, Return, Stmts, Done, Seq, Program}
use Rattle.cil_tree.specs.Typing.{Scope, is_array, is_function, member_type, element_of, host_type, place_type}
use Rattle.cil_tree.specs.Lines.{Token, Line}
use Rattle.cil_tree.specs.Declarators.{kind_words, tagged, starred, bound_tokens, separated, listed, in_parentheses, declared, all_declared, type_tokens, digits, number}
use Rattle.cil_tree.specs.Text.{in_brackets, exp_tokens, host_tokens, offset_tokens, place_tokens, unary_spelling, argument_tokens, callee_tokens, result_tokens, size_tokens, instr_tokens, closed, heading, closing, return_tokens, label_name, stmt_lines, lines_of}
use Rattle.cil_tree.specs.WellFormedTypes.{prototype_fits}
use Rattle.cil_text.proofs.TypesBack.{nonempty, kind_nonempty, IsShape, AreShapes}
use Rattle.cil_text.proofs.DeclsBack.{size, sizes}
use Rattle.cil_text.proofs.ExpsBack.{weight, host_weight, offsets_weight, place_weight, cast_size}
use Rattle.cil_text.proofs.Told.{CastFits, CanCast, HostCast, OffsetsCast, CanCastIn}
use Rattle.cil_text.proofs.InstrsBack.{args_weight, callee_weight, result_weight, instr_weight}
use Rattle.cil_text.proofs.StmtsBack.{stmt_weight, stmts_weight}
use Rattle.cil_text.proofs.StmtsThere.{ArgsCast, ResultCast, CalleeCast, InstrCast, StmtCast, StmtsCast}

-- types

positive : (ts : List Token) → nonempty ts ≡ true → 1 ≤ length ts
positive [] e = absurd (cc e)
positive (t ∷ ts) e = omega arith

kind_low : (k : IntKind) (inner : List Token) → 1 + length inner ≤ length (kind_words k ++ inner)
kind_low k inner = omega (arith, positive (kind_words k ++ []) (kind_nonempty k []), length-append (kind_words k) [], length-append (kind_words k) inner)

tag_low : (p : Program) (o : Option Aggregate) (x : Aggregate) (inner : List Token) → o ≡ Some x → 1 + length inner ≤ length (elim o [ None ↦ [] | Some y ↦ tagged p y ] ++ inner)
tag_low p None x inner e = absurd (cc e)
tag_low p (Some y) x inner e = omega arith

starred_low : (s : Shape) (inner : List Token) → 1 + length inner ≤ length (starred s inner)
starred_low s inner = by (is_array s || is_function s)
  where
    by : (b : Bool) → 1 + length inner ≤ length (cond b (codes "(" ∷ codes "*" ∷ (inner ++ codes ")" ∷ [])) (codes "*" ∷ inner))
    by true = omega (arith, length-append inner (codes ")" ∷ []))
    by false = omega arith

pub separated_low : (first rest : List Token) → length first + length rest ≤ length (separated first rest)
separated_low first [] = omega arith
separated_low first (t ∷ ts) = omega (arith, length-append first (codes "," ∷ t ∷ ts))

pub listed_low : (variadic : Bool) (ts : List Token) → length ts ≤ length (listed true variadic ts)
listed_low variadic [] = omega arith
listed_low true (t ∷ ts) = omega (arith, length-append (t ∷ ts) (codes "," ∷ codes "..." ∷ []))
listed_low false (t ∷ ts) = omega arith

pub parens_low : (ts : List Token) → length (in_parentheses ts) ≡ 2 + length ts
parens_low ts = omega (arith, length-append ts (codes ")" ∷ []))

called_low : (p : Program) (ret : Shape) (params : Shapes) (proto variadic : Bool) → sizes params ≤ 2 * length (all_declared p params) → prototype_fits (FuncType ret params proto variadic) ≡ true → sizes params ≤ 2 * length (listed proto variadic (all_declared p params))
called_low p ret NoTypes proto variadic low fits = omega arith
called_low p ret (MoreTypes s more) false variadic low fits = absurd (cc fits)
called_low p ret (MoreTypes s more) true variadic low fits = omega (arith, low, listed_low variadic (all_declared p (MoreTypes s more)))

mutual
  pub shape_low : (p : Program) (s : Shape) (inner : List Token) → IsShape p s → size s + 2 + 2 * length inner ≤ 2 * length (declared p s inner)
  shape_low p VoidType inner is = omega arith
  shape_low p (IntType k) inner is = omega (arith, kind_low k inner)
  shape_low p (PtrType q s) inner is = omega (arith, shape_low p s (starred s inner) is.1, starred_low s inner)
  shape_low p (ArrayType q s bound) inner is =
      let behind = bound_tokens bound ++ codes "]" ∷ [] in
      omega (arith, shape_low p s (inner ++ codes "[" ∷ behind) is.2, length-append inner (codes "[" ∷ behind))
  shape_low p (FuncType ret params proto variadic) inner is =
      let list = listed proto variadic (all_declared p params) in
      omega (arith, shape_low p ret (inner ++ in_parentheses list) is.0, length-append inner (in_parentheses list), parens_low list, called_low p ret params proto variadic (params_low p params is.1) is.3)
  shape_low p (AggType a) inner is = omega (arith, tag_low p _ is.0 inner is.1)

  params_low : (p : Program) (params : Shapes) → AreShapes p params → sizes params ≤ 2 * length (all_declared p params)
  params_low p NoTypes are = omega arith
  params_low p (MoreTypes s more) are = omega (arith, shape_low p s [] are.0, params_low p more are.1, separated_low (declared p s []) (all_declared p more))

type_low : (p : Program) (o : Option Shape) → CastFits p o → cast_size o ≤ 2 * length (type_tokens p o [])
type_low p None fits = omega arith
type_low p (Some s) fits = omega (arith, shape_low p s [] fits)

-- expressions

mutual
  pub exp_low : (c : Scope) (e : Exp) → CanCast c.program e → weight e + 1 ≤ 2 * length (exp_tokens c e)
  exp_low c (Const kind value) cast = omega arith
  exp_low c (Value place) cast = omega (arith, place_low c place cast)
  exp_low c (Un op operand) cast = omega (arith, exp_low c operand cast, parens_low (unary_spelling op ∷ exp_tokens c operand))
  exp_low c (Bin op left right) cast =
      let tokens = exp_tokens c left ++ operator_spelling op ∷ exp_tokens c right in
      omega (arith, exp_low c left cast.0, exp_low c right cast.1, parens_low tokens, length-append (exp_tokens c left) (operator_spelling op ∷ exp_tokens c right))
  exp_low c (Cast to operand) cast =
      let type = type_tokens c.program to [] in
      omega (arith, type_low c.program to cast.0, exp_low c operand cast.1, parens_low (in_parentheses type ++ exp_tokens c operand), length-append (in_parentheses type) (exp_tokens c operand), parens_low type)
  exp_low c (AddrOf place) cast = omega (arith, place_low c place cast, parens_low (codes "&" ∷ place_tokens c place))
  exp_low c (StartOf place) cast = omega (arith, place_low c place cast)

  host_low : (c : Scope) (h : Host) → HostCast c.program h → host_weight h + 2 ≤ 2 * length (host_tokens c h)
  host_low c (Global n) cast = omega arith
  host_low c (Var n) cast = omega arith
  host_low c (At pointer) cast = omega (arith, exp_low c pointer cast, parens_low (codes "*" ∷ exp_tokens c pointer))

  offsets_low : (c : Scope) (o : Offsets) (s : Option Shape) → OffsetsCast c.program o → offsets_weight o ≤ 2 * length (offset_tokens c o s)
  offsets_low c Here s cast = omega arith
  offsets_low c (Field n more) s cast = omega (arith, offsets_low c more (option_and_then (λ (t : Shape). member_type c.program.graph t n) s) cast)
  offsets_low c (Index index more) s cast =
      let rest = offset_tokens c more (option_and_then element_of s) in
      omega (arith, exp_low c index cast.0, offsets_low c more (option_and_then element_of s) cast.1, length-append (in_brackets (exp_tokens c index)) rest, length-append (exp_tokens c index) (codes "]" ∷ []))

  pub place_low : (c : Scope) (l : Lval) → CanCastIn c.program l → place_weight l + 2 ≤ 2 * length (place_tokens c l)
  place_low c (Place host offsets) cast =
      omega (arith, host_low c host cast.0, offsets_low c offsets (host_type c host) cast.1, length-append (host_tokens c host) (offset_tokens c offsets (host_type c host)))

-- instructions

args_low : (c : Scope) (es : List Exp) → ArgsCast c.program es → args_weight es ≤ 2 * length (argument_tokens c es)
args_low c [] cast = omega arith
args_low c (e ∷ es) cast = omega (arith, exp_low c e cast.0, args_low c es cast.1, separated_low (exp_tokens c e) (argument_tokens c es))

callee_low : (c : Scope) (f : Callee) → CalleeCast c.program f → callee_weight f ≤ 2 * length (callee_tokens c f)
callee_low c (Direct n) cast = omega arith
callee_low c (Through pointer) cast = omega (arith, exp_low c pointer cast, parens_low (codes "*" ∷ exp_tokens c pointer))

result_low : (c : Scope) (o : Option Lval) → ResultCast c.program o → result_weight o ≤ 2 * length (result_tokens c o)
result_low c None cast = omega arith
result_low c (Some place) cast = omega (arith, place_low c place cast, length-append (place_tokens c place) (codes "=" ∷ []))

instr_low : (c : Scope) (i : Instr) → InstrCast c.program i → instr_weight i ≤ 2 * length (instr_tokens c i)
instr_low c (Set place value) cast = omega (arith, place_low c place cast.0, exp_low c value cast.1, length-append (place_tokens c place) (codes "=" ∷ exp_tokens c value))
instr_low c (Call result callee arguments) cast =
    let f = callee_tokens c callee in
    let list = in_parentheses (argument_tokens c arguments) in
    omega (arith, result_low c result cast.0, callee_low c callee cast.1, args_low c arguments cast.2, length-append (result_tokens c result) (f ++ list), length-append f list, parens_low (argument_tokens c arguments))
instr_low c (Zero place) cast =
    let address = in_parentheses (codes "&" ∷ place_tokens c place) in
    let rest = codes "," ∷ codes "0" ∷ codes "," ∷ size_tokens c (place_type c place) in
    omega (arith, place_low c place cast, parens_low (address ++ rest), length-append address rest, parens_low (codes "&" ∷ place_tokens c place))

-- statements

abbrev pub words : List Line → ℕ
words [] = 0
words (l ∷ ls) = length l + words ls

pub words_append : (a b : List Line) → words (a ++ b) ≡ words a + words b
words_append [] b = omega arith
words_append (l ∷ a) b = omega (arith, words_append a b)

heading_low : (word : Token) (tested : List Token) → length (heading word tested) ≡ 4 + length tested
heading_low word tested = omega (arith, length-append (in_parentheses tested) (codes "{" ∷ []), parens_low tested)

pub closed_low : (ts : List Token) → length (closed ts) ≡ length ts + 1
closed_low ts = omega (arith, length-append ts (codes ";" ∷ []))

mutual
  stmt_low : (c : Scope) (s : Stmt) → StmtCast c.program s → stmt_weight s + 1 ≤ 2 * words (stmt_lines c s)
  stmt_low c (Do instr) cast = omega (arith, instr_low c instr cast, closed_low (instr_tokens c instr))
  stmt_low c (If test holds fails) cast =
      let others = lines_of c fails ++ closing ∷ [] in
      omega (arith, exp_low c test cast.0, stmts_low c holds cast.1, stmts_low c fails cast.2, heading_low (codes "if") (exp_tokens c test), words_append (lines_of c holds) ((codes "}" ∷ codes "else" ∷ codes "{" ∷ []) ∷ others), words_append (lines_of c fails) (closing ∷ []))
  stmt_low c (Switch value body) cast = omega (arith, exp_low c value cast.0, stmts_low c body cast.1, heading_low (codes "switch") (exp_tokens c value), words_append (lines_of c body) (closing ∷ []))
  stmt_low c (Loop body) cast = omega (arith, stmts_low c body cast, heading_low (codes "while") (codes "1" ∷ []), words_append (lines_of c body) (closing ∷ []))
  stmt_low c (Block body) cast = omega (arith, stmts_low c body cast, words_append (lines_of c body) (closing ∷ []))
  stmt_low c (Label number) cast = omega arith
  stmt_low c (Case kind value) cast = omega (arith, length-append (number kind value) (codes ":" ∷ codes ";" ∷ []))
  stmt_low c Default cast = omega arith
  stmt_low c (Goto number) cast = omega (arith, closed_low (codes "goto" ∷ label_name c number ∷ []))
  stmt_low c Break cast = omega (arith, closed_low (codes "break" ∷ []))
  stmt_low c (Return None) cast = omega (arith, closed_low (return_tokens c None))
  stmt_low c (Return (Some e)) cast = omega (arith, exp_low c e cast, closed_low (return_tokens c (Some e)))

  pub stmts_low : (c : Scope) (ss : Stmts) → StmtsCast c.program ss → stmts_weight ss ≤ 2 * words (lines_of c ss)
  stmts_low c Done cast = omega arith
  stmts_low c (Seq first rest) cast = omega (arith, stmt_low c first cast.0, stmts_low c rest cast.1, words_append (stmt_lines c first) (lines_of c rest))

-- numbers with their signs
pub number_low : (k : IntKind) (v : ℤ) → 1 ≤ length (number k v)
number_low k (pos n) = omega arith
number_low k (negsuc n) = by (int_eq (negsuc n) (least k))
  where
    by : (b : Bool) → 1 ≤ length (cond b (codes "-" ∷ digits k (Rattle.std.specs.Prelude.unsigned_abs (Rattle.cil_base.specs.Integer.greatest k)) ∷ codes "-" ∷ codes "1" ∷ []) (codes "-" ∷ digits k (Rattle.std.proofs.Common.suc n) ∷ []))
    by true = omega arith
    by false = omega arith
