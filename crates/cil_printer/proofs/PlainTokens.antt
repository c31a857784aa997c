-- Device: the tokens of types, numbers and expressions open and close no brace.
use Rattle.std.proofs.Common.{◌≡◌, ℕ, zero, suc, ◌<◌, ◌%◌, ◌/◌, ◌==◌, Bool, true, false, ◌&&◌, not, cond, List, [], ◌∷◌, ◌++◌, Option, Some, None, nat_lt, codes, decimal, refl, ap, ◌∙◌, mod-lt, arith}
use Rattle.std.specs.Prelude.{ℤ, pos, negsuc, unsigned_abs}
use Rattle.std.specs.Fmt.{digits_onto, digit_glyph}
use Rattle.std.specs.Fmt.{digits as figures}
use Rattle.std.specs.Option.{option_and_then}
use Rattle.std.specs.Str.{bytes_eq}
use Rattle.std.specs.Ordering.{int_eq}
use Rattle.cil_base.specs.declared.kinds.IntKind.{IntKind}
use Rattle.cil_base.specs.declared.kinds.IntKind.TheVariants.{Bool as Boolean, Char, SChar, UChar, Short, UShort, Int as int, UInt, Long, ULong, LLong, ULLong, Long4, ULong4}
use Rattle.cil_base.specs.Integer.{suffix_of, least, greatest, ulong_of}
use Rattle.cil_base.specs.declared.operators.BinOp.{BinOp}
use Rattle.cil_base.specs.declared.operators.BinOp.TheVariants.{Mul, Div, Rem, Add, Sub, Shl, Shr, Lt, Gt, Le, Ge, Eq, Ne, And, Xor, Or}
use Rattle.cil_base.specs.declared.operators.UnOp.{UnOp}
use Rattle.cil_base.specs.declared.operators.UnOp.TheVariants.{Neg, Compl, Not}
use Rattle.cil_base.specs.Operators.{operator_spelling}
use Rattle.type_graph.specs.declared.layout.Layout.{Layout}
use Rattle.type_graph.specs.Shapes.{Shape, Shapes, VoidType, IntType, PtrType, ArrayType, FuncType, AggType, NoTypes, MoreTypes}
use Rattle.cil_tree.specs.Tree.{Exp, Const, Value, Un, Bin, Cast, AddrOf, StartOf, Host, Global, Var, At, Offsets, Here, Field, Index, Lval, Place, Callee, Direct, Through, Instr, Set, Call, Zero, Program}
use Rattle.cil_tree.specs.Typing.{Scope, element_of, host_type, place_type, member_type}
use Rattle.cil_tree.specs.Lines.{Token, opens, closes}
use Rattle.cil_tree.specs.Declarators.{kind_words, bound_tokens, digits, number, separated, listed, in_parentheses, declared, all_declared, type_tokens}
use Rattle.cil_tree.specs.Text.{in_brackets, unary_spelling, name_in, global_name, local_name, shape_layout, exp_tokens, host_tokens, offset_tokens, place_tokens, argument_tokens, callee_tokens, result_tokens, size_tokens, instr_tokens, return_tokens}
use Rattle.cil_printer.specs.Plain.{is_plain, are_plain, IsPlainProgram, IsPlain}
use Rattle.cil_printer.specs.Sides.{is_grouped, star, star_end, before, after}
use Rattle.cil_printer.proofs.Declared.{declared_is}
use Rattle.cil_printer.proofs.Calls.{both_left, both_right}

-- a token that begins with a byte below those of the braces
abbrev pub begins_low : Token → Bool
begins_low [] = false
begins_low (b ∷ bytes) = nat_lt b 123

pub joined : (a b : Bool) → a ≡ true → b ≡ true → a && b ≡ true
joined a b e f = ap (λ x. x && b) e ∙ f

differs : (b k : ℕ) → nat_lt b 123 ≡ true → 122 < k → b == k ≡ false
differs b k h i = grind arith

not_it : (a b : Bool) → a ≡ false → not (a && b) ≡ true
not_it a b e = ap (λ x. not (x && b)) e

pub low_plain : (t : Token) → begins_low t ≡ true → is_plain t ≡ true
low_plain [] h = cc
low_plain (b ∷ bytes) h = joined (not (opens (b ∷ bytes))) (not (closes (b ∷ bytes))) (not_it (b == 123) (bytes_eq bytes []) (differs b 123 h (omega arith))) (not_it (b == 125) (bytes_eq bytes []) (differs b 125 h (omega arith)))

low_append : (t u : Token) → begins_low t ≡ true → begins_low (t ++ u) ≡ true
low_append [] u h = cc
low_append (b ∷ bytes) u h = h

glyph_low : (d : ℕ) → d < 10 → nat_lt (digit_glyph false d) 123 ≡ true
glyph_low d h = grind (arith, h)

digit_low : (n : ℕ) → nat_lt (digit_glyph false (n % 10)) 123 ≡ true
digit_low n = glyph_low (n % 10) (mod-lt n (omega arith))

onto_low : (k n : ℕ) (acc : List ℕ) → begins_low acc ≡ true → begins_low (digits_onto k 10 false n acc) ≡ true
onto_low zero n acc h = h
onto_low (suc k) n acc h = by (n / 10 == 0) (onto_low k (n / 10) (digit_glyph false (n % 10) ∷ acc) (digit_low n))
  where
    by : (b : Bool) → begins_low (digits_onto k 10 false (n / 10) (digit_glyph false (n % 10) ∷ acc)) ≡ true → begins_low (cond b (digit_glyph false (n % 10) ∷ acc) (digits_onto k 10 false (n / 10) (digit_glyph false (n % 10) ∷ acc))) ≡ true
    by true g = digit_low n
    by false g = g

first_low : (k n : ℕ) → begins_low (digits_onto (suc k) 10 false n []) ≡ true
first_low k n = by (n / 10 == 0) (onto_low k (n / 10) (digit_glyph false (n % 10) ∷ []) (digit_low n))
  where
    by : (b : Bool) → begins_low (digits_onto k 10 false (n / 10) (digit_glyph false (n % 10) ∷ [])) ≡ true → begins_low (cond b (digit_glyph false (n % 10) ∷ []) (digits_onto k 10 false (n / 10) (digit_glyph false (n % 10) ∷ []))) ≡ true
    by true g = digit_low n
    by false g = g

decimal_low : (n : ℕ) → begins_low (decimal n) ≡ true
unfolding figures
decimal_low n = first_low 63 n

pub decimal_plain : (n : ℕ) → is_plain (decimal n) ≡ true
decimal_plain n = low_plain (decimal n) (decimal_low n)

pub digits_plain : (kind : IntKind) (n : ℕ) → is_plain (digits kind n) ≡ true
digits_plain kind n = low_plain (digits kind n) (low_append (decimal n) (suffix_of kind) (decimal_low n))

-- lists
pub plain_append : (xs ys : List Token) → are_plain xs ≡ true → are_plain ys ≡ true → are_plain (xs ++ ys) ≡ true
plain_append [] ys e f = f
plain_append (x ∷ xs) ys e f = joined (is_plain x) (are_plain (xs ++ ys)) (both_left (is_plain x) (are_plain xs) e) (plain_append xs ys (both_right (is_plain x) (are_plain xs) e) f)

pub plain_cons : (x : Token) (xs : List Token) → is_plain x ≡ true → are_plain xs ≡ true → are_plain (x ∷ xs) ≡ true
plain_cons x xs e f = joined (is_plain x) (are_plain xs) e f

pub plain_one : (x : Token) → is_plain x ≡ true → are_plain (x ∷ []) ≡ true
plain_one x e = plain_cons x [] e refl

pub plain_in_parentheses : (xs : List Token) → are_plain xs ≡ true → are_plain (in_parentheses xs) ≡ true
plain_in_parentheses xs e = plain_append xs (codes ")" ∷ []) e refl

pub plain_in_brackets : (xs : List Token) → are_plain xs ≡ true → are_plain (in_brackets xs) ≡ true
plain_in_brackets xs e = plain_append xs (codes "]" ∷ []) e refl

pub plain_separated : (xs ys : List Token) → are_plain xs ≡ true → are_plain ys ≡ true → are_plain (separated xs ys) ≡ true
plain_separated xs [] e f = e
plain_separated xs (y ∷ ys) e f = plain_append xs (codes "," ∷ y ∷ ys) e f

pub plain_listed : (proto variadic : Bool) (xs : List Token) → are_plain xs ≡ true → are_plain (listed proto variadic xs) ≡ true
plain_listed false variadic xs e = refl
plain_listed true variadic [] e = refl
plain_listed true true (x ∷ xs) e = plain_append (x ∷ xs) (codes "," ∷ codes "..." ∷ []) e refl
plain_listed true false (x ∷ xs) e = e

-- types
kind_plain : (kind : IntKind) → are_plain (kind_words kind) ≡ true
kind_plain Boolean = refl
kind_plain Char = refl
kind_plain SChar = refl
kind_plain UChar = refl
kind_plain Short = refl
kind_plain UShort = refl
kind_plain int = refl
kind_plain UInt = refl
kind_plain Long = refl
kind_plain ULong = refl
kind_plain LLong = refl
kind_plain ULLong = refl
kind_plain Long4 = refl
kind_plain ULong4 = refl

bound_plain : (bound : Option ℕ) → are_plain (bound_tokens bound) ≡ true
bound_plain None = refl
bound_plain (Some n) = plain_one (decimal n) (decimal_plain n)

star_plain : (s : Shape) → are_plain (star s) ≡ true
star_plain s = by (is_grouped s)
  where
    by : (b : Bool) → are_plain (cond b (codes "(" ∷ codes "*" ∷ []) (codes "*" ∷ [])) ≡ true
    by true = refl
    by false = refl

star_end_plain : (s : Shape) → are_plain (star_end s) ≡ true
star_end_plain s = by (is_grouped s)
  where
    by : (b : Bool) → are_plain (cond b (codes ")" ∷ []) []) ≡ true
    by true = refl
    by false = refl

before_plain : (p : Program) → IsPlainProgram p → (s : Shape) → are_plain (before p s) ≡ true
before_plain p is VoidType = refl
before_plain p is (IntType kind) = kind_plain kind
before_plain p is (PtrType q s) = plain_append (before p s) (star s) (before_plain p is s) (star_plain s)
before_plain p is (ArrayType q s bound) = before_plain p is s
before_plain p is (FuncType ret params proto variadic) = before_plain p is ret
before_plain p is (AggType a) = is.tags a

plain_around : (p : Program) → IsPlainProgram p → (s : Shape) (inner : List Token) → are_plain inner ≡ true → are_plain (after p s) ≡ true → are_plain (declared p s inner) ≡ true
plain_around p is s inner e f = ap are_plain (declared_is p s inner) ∙ plain_append (before p s) (inner ++ after p s) (before_plain p is s) (plain_append inner (after p s) e f)

mutual
  after_plain : (p : Program) → IsPlainProgram p → (s : Shape) → are_plain (after p s) ≡ true
  after_plain p is VoidType = refl
  after_plain p is (IntType kind) = refl
  after_plain p is (PtrType q s) = plain_append (star_end s) (after p s) (star_end_plain s) (after_plain p is s)
  after_plain p is (ArrayType q s bound) = plain_append (in_brackets (bound_tokens bound)) (after p s) (plain_in_brackets (bound_tokens bound) (bound_plain bound)) (after_plain p is s)
  after_plain p is (FuncType ret params proto variadic) = plain_append (in_parentheses (listed proto variadic (all_declared p params))) (after p ret) (plain_in_parentheses (listed proto variadic (all_declared p params)) (plain_listed proto variadic (all_declared p params) (all_plain p is params))) (after_plain p is ret)
  after_plain p is (AggType a) = refl

  all_plain : (p : Program) → IsPlainProgram p → (ss : Shapes) → are_plain (all_declared p ss) ≡ true
  all_plain p is NoTypes = refl
  all_plain p is (MoreTypes s more) = plain_separated (declared p s []) (all_declared p more) (plain_around p is s [] refl (after_plain p is s)) (all_plain p is more)

pub declared_plain : (p : Program) → IsPlainProgram p → (s : Shape) (inner : List Token) → are_plain inner ≡ true → are_plain (declared p s inner) ≡ true
declared_plain p is s inner e = plain_around p is s inner e (after_plain p is s)

pub type_plain : (p : Program) → IsPlainProgram p → (s : Option Shape) (inner : List Token) → are_plain inner ≡ true → are_plain (type_tokens p s inner) ≡ true
type_plain p is None inner e = e
type_plain p is (Some s) inner e = declared_plain p is s inner e

-- numbers
pub number_plain : (kind : IntKind) (v : ℤ) → are_plain (number kind v) ≡ true
number_plain kind (pos n) = plain_one (digits kind n) (digits_plain kind n)
number_plain kind (negsuc n) = by (int_eq (negsuc n) (least kind))
  where
    by : (b : Bool) → are_plain (cond b (codes "-" ∷ digits kind (unsigned_abs (greatest kind)) ∷ codes "-" ∷ codes "1" ∷ []) (codes "-" ∷ digits kind (suc n) ∷ [])) ≡ true
    by true = plain_cons (digits kind (unsigned_abs (greatest kind))) (codes "-" ∷ codes "1" ∷ []) (digits_plain kind (unsigned_abs (greatest kind))) refl
    by false = plain_one (digits kind (suc n)) (digits_plain kind (suc n))

-- expressions
unary_plain : (op : UnOp) → is_plain (unary_spelling op) ≡ true
unary_plain Neg = refl
unary_plain Compl = refl
unary_plain Not = refl

binary_plain : (op : BinOp) → is_plain (operator_spelling op) ≡ true
binary_plain Mul = refl
binary_plain Div = refl
binary_plain Rem = refl
binary_plain Add = refl
binary_plain Sub = refl
binary_plain Shl = refl
binary_plain Shr = refl
binary_plain Lt = refl
binary_plain Gt = refl
binary_plain Le = refl
binary_plain Ge = refl
binary_plain Eq = refl
binary_plain Ne = refl
binary_plain And = refl
binary_plain Xor = refl
binary_plain Or = refl

pub nothing_plain : (c : Scope) → IsPlain c → (s : Option Shape) (n : ℕ) → is_plain (elim s [ None ↦ [] | Some t ↦ name_in c.program t n ]) ≡ true
nothing_plain c is None n = refl
nothing_plain c is (Some t) n = is.program.members t n

mutual
  pub exp_plain : (c : Scope) → IsPlain c → (e : Exp) → are_plain (exp_tokens c e) ≡ true
  exp_plain c is (Const kind value) = plain_one (digits kind value) (digits_plain kind value)
  exp_plain c is (Value place) = place_plain c is place
  exp_plain c is (Un op operand) = plain_in_parentheses (unary_spelling op ∷ exp_tokens c operand) (plain_cons (unary_spelling op) (exp_tokens c operand) (unary_plain op) (exp_plain c is operand))
  exp_plain c is (Bin op left right) = plain_in_parentheses (exp_tokens c left ++ operator_spelling op ∷ exp_tokens c right) (plain_append (exp_tokens c left) (operator_spelling op ∷ exp_tokens c right) (exp_plain c is left) (plain_cons (operator_spelling op) (exp_tokens c right) (binary_plain op) (exp_plain c is right)))
  exp_plain c is (Cast to operand) = plain_in_parentheses (in_parentheses (type_tokens c.program to []) ++ exp_tokens c operand) (plain_append (in_parentheses (type_tokens c.program to [])) (exp_tokens c operand) (plain_in_parentheses (type_tokens c.program to []) (type_plain c.program is.program to [] refl)) (exp_plain c is operand))
  exp_plain c is (AddrOf place) = plain_in_parentheses (codes "&" ∷ place_tokens c place) (place_plain c is place)
  exp_plain c is (StartOf place) = place_plain c is place

  host_plain : (c : Scope) → IsPlain c → (h : Host) → are_plain (host_tokens c h) ≡ true
  host_plain c is (Global number) = plain_one (global_name c.program number) (is.program.globals number)
  host_plain c is (Var number) = plain_one (local_name c.locals number) (is.locals number)
  host_plain c is (At pointer) = plain_in_parentheses (codes "*" ∷ exp_tokens c pointer) (exp_plain c is pointer)

  offsets_plain : (c : Scope) → IsPlain c → (o : Offsets) (s : Option Shape) → are_plain (offset_tokens c o s) ≡ true
  offsets_plain c is Here s = refl
  offsets_plain c is (Field number more) s = plain_cons (elim s [ None ↦ [] | Some t ↦ name_in c.program t number ]) (offset_tokens c more (option_and_then (λ t. member_type c.program.graph t number) s)) (nothing_plain c is s number) (offsets_plain c is more (option_and_then (λ t. member_type c.program.graph t number) s))
  offsets_plain c is (Index index more) s = plain_append (in_brackets (exp_tokens c index)) (offset_tokens c more (option_and_then element_of s)) (plain_in_brackets (exp_tokens c index) (exp_plain c is index)) (offsets_plain c is more (option_and_then element_of s))

  pub place_plain : (c : Scope) → IsPlain c → (l : Lval) → are_plain (place_tokens c l) ≡ true
  place_plain c is (Place host offsets) = plain_append (host_tokens c host) (offset_tokens c offsets (host_type c host)) (host_plain c is host) (offsets_plain c is offsets (host_type c host))

-- instructions
arguments_plain : (c : Scope) → IsPlain c → (es : List Exp) → are_plain (argument_tokens c es) ≡ true
arguments_plain c is [] = refl
arguments_plain c is (e ∷ es) = plain_separated (exp_tokens c e) (argument_tokens c es) (exp_plain c is e) (arguments_plain c is es)

callee_plain : (c : Scope) → IsPlain c → (f : Callee) → are_plain (callee_tokens c f) ≡ true
callee_plain c is (Direct number) = plain_one (global_name c.program number) (is.program.globals number)
callee_plain c is (Through pointer) = plain_in_parentheses (codes "*" ∷ exp_tokens c pointer) (exp_plain c is pointer)

result_plain : (c : Scope) → IsPlain c → (r : Option Lval) → are_plain (result_tokens c r) ≡ true
result_plain c is None = refl
result_plain c is (Some place) = plain_append (place_tokens c place) (codes "=" ∷ []) (place_plain c is place) refl

size_plain : (c : Scope) (s : Option Shape) → are_plain (size_tokens c s) ≡ true
size_plain c s = by (option_and_then (shape_layout c.program.graph) s)
  where
    by : (o : Option Layout) → are_plain (elim o [ None ↦ [] | Some l ↦ number (ulong_of c.program.graph.abi) (pos l.size) ]) ≡ true
    by None = refl
    by (Some l) = number_plain (ulong_of c.program.graph.abi) (pos l.size)

pub instr_plain : (c : Scope) → IsPlain c → (i : Instr) → are_plain (instr_tokens c i) ≡ true
instr_plain c is (Set place value) = plain_append (place_tokens c place) (codes "=" ∷ exp_tokens c value) (place_plain c is place) (exp_plain c is value)
instr_plain c is (Call result callee arguments) = plain_append (result_tokens c result) (callee_tokens c callee ++ in_parentheses (argument_tokens c arguments)) (result_plain c is result) (plain_append (callee_tokens c callee) (in_parentheses (argument_tokens c arguments)) (callee_plain c is callee) (plain_in_parentheses (argument_tokens c arguments) (arguments_plain c is arguments)))
instr_plain c is (Zero place) = plain_in_parentheses (in_parentheses (codes "&" ∷ place_tokens c place) ++ codes "," ∷ codes "0" ∷ codes "," ∷ size_tokens c (place_type c place)) (plain_append (in_parentheses (codes "&" ∷ place_tokens c place)) (codes "," ∷ codes "0" ∷ codes "," ∷ size_tokens c (place_type c place)) (plain_in_parentheses (codes "&" ∷ place_tokens c place) (place_plain c is place)) (size_plain c (place_type c place)))

pub return_plain : (c : Scope) → IsPlain c → (v : Option Exp) → are_plain (return_tokens c v) ≡ true
return_plain c is None = refl
return_plain c is (Some e) = exp_plain c is e
