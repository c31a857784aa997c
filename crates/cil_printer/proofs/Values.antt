-- Device: the types of expressions, as the printer follows them, and what is printed of each form.
use Rattle.std.proofs.Common.{◌≡◌, ℕ, zero, suc, ◌<◌, ◌≤◌, Bool, true, false, ◌&&◌, ◌||◌, cond, is_some, List, [], ◌∷◌, ◌++◌, Option, Some, None, length, get_or, drop, codes, refl, sym, ap, ◌∙◌, append_assoc, append-nil, arith}
use Rattle.std.specs.Prelude.{pos}
use Rattle.std.specs.Option.{option_map, option_and_then}
use Rattle.cil_base.specs.declared.kinds.IntKind.{IntKind}
use Rattle.cil_base.specs.declared.operators.BinOp.{BinOp}
use Rattle.cil_base.specs.declared.operators.BinOp.TheVariants.{Mul, Div, Rem, Add, Sub, Shl, Shr, Lt, Gt, Le, Ge, Eq, Ne, And, Xor, Or}
use Rattle.cil_base.specs.declared.operators.UnOp.{UnOp}
use Rattle.cil_base.specs.declared.operators.UnOp.TheVariants.{Neg, Compl, Not}
use Rattle.cil_base.specs.Operators.{operator_spelling}
use Rattle.cil_base.specs.Arithmetic.{fits, is_shift}
use Rattle.cil_base.specs.Integer.{has_kind}
use Rattle.type_graph.specs.declared.nodes.Node.{Node}
use Rattle.type_graph.specs.declared.aggregates.Member.{Member}
use Rattle.type_graph.specs.Shapes.{shape, Shape, VoidType, IntType, PtrType, ArrayType, FuncType, AggType}
use Rattle.type_graph.specs.Arena.{complete_shape}
use Rattle.cil_tree.specs.declared.expressions.Offset.{Offset}
use Rattle.cil_tree.specs.declared.expressions.Offset as code
use Rattle.cil_tree.specs.Tree.{Exp, Const, Value, Un, Bin, Cast, AddrOf, StartOf, Here, Field, Index, Lval}
use Rattle.cil_tree.specs.View.{exp_of, offsets_of}
use Rattle.cil_base.specs.Kinds.{same_kind}
use Rattle.cil_tree.specs.Typing.{Scope, same_shape, is_wide, is_void, is_function, is_scalar, is_readable, element_of, element_type, is_index, pointed, pointer_to, read_type, address_type, start_type, unary_type, integer_type, moved_type, pointers_type, forward_type, backward_type, binary_type, cast_type, type_of, part_type, place_type, member_type, member_at}
use Rattle.cil_tree.specs.Lines.{Token}
use Rattle.cil_tree.specs.Declarators.{in_parentheses}
use Rattle.cil_tree.specs.Text.{in_brackets, exp_tokens, offset_tokens, name_in}
use Rattle.cil_printer.specs.Output.{Output, puts}
use Rattle.cil_printer.specs.Seen.{moved, name_of_member}
use Rattle.cil_printer.proofs.Puts.{puts-puts, nothing_pushed, two_pushed, pair_pushed, enclosed}

-- what has a type has parts that have types
pub some_of : {A B : Type 0} (f : A → Option B) (o : Option A) → is_some (option_and_then f o) ≡ true → is_some o ≡ true
some_of f None e = e
some_of f (Some x) e = refl

pub constant_points : (c : Scope) (kind : IntKind) (n : ℕ) → option_and_then pointed (type_of c (Const kind n)) ≡ None
constant_points c kind n = by (is_wide kind && (has_kind c.program.graph.abi kind && fits kind (pos n)))
  where
    by : (b : Bool) → option_and_then pointed (cond b (Some (IntType kind)) None) ≡ None
    by true = refl
    by false = refl

chosen_points : (b : Bool) (kind : IntKind) → option_and_then pointed (cond b (Some (IntType kind)) None) ≡ None
chosen_points true kind = refl
chosen_points false kind = refl

unary_points : (c : Scope) (op : UnOp) (s : Shape) → option_and_then pointed (unary_type c op s) ≡ None
unary_points c Not s = chosen_points (is_scalar c.program.graph s) _
unary_points c Neg (IntType kind) = chosen_points (is_wide kind) kind
unary_points c Neg VoidType = refl
unary_points c Neg (PtrType q s) = refl
unary_points c Neg (ArrayType q s bound) = refl
unary_points c Neg (FuncType ret params proto variadic) = refl
unary_points c Neg (AggType a) = refl
unary_points c Compl (IntType kind) = chosen_points (is_wide kind) kind
unary_points c Compl VoidType = refl
unary_points c Compl (PtrType q s) = refl
unary_points c Compl (ArrayType q s bound) = refl
unary_points c Compl (FuncType ret params proto variadic) = refl
unary_points c Compl (AggType a) = refl

pub operand_points : (c : Scope) (op : UnOp) (e : Exp) → option_and_then pointed (type_of c (Un op e)) ≡ None
operand_points c op e = by (type_of c e)
  where
    by : (o : Option Shape) → option_and_then pointed (option_and_then (unary_type c op) o) ≡ None
    by None = refl
    by (Some s) = unary_points c op s

-- what stands before an operand in parentheses
pub prefixed : (o a b d f : Output) (x : Token) (xs : List Token) → a ≡ puts o (codes "(" ∷ []) → b ≡ puts a (x ∷ []) → d ≡ puts b xs → f ≡ puts d (codes ")" ∷ []) → f ≡ puts o (in_parentheses (x ∷ xs))
prefixed o a b d f x xs ea eb ed ef = simp (ef, ed, eb, ea, puts-puts)

pub cast_pushed : (o a b d f : Output) (ts xs : List Token) → a ≡ puts o (codes "(" ∷ []) → b ≡ puts a (in_parentheses ts) → d ≡ puts b xs → f ≡ puts d (codes ")" ∷ []) → f ≡ puts o (in_parentheses (in_parentheses ts ++ xs))
cast_pushed o a b d f ts xs ea eb ed ef = simp (ef, ed, eb, ea, puts-puts, append_assoc)

pub cast_points : (c : Scope) (to : Option Shape) (e : Exp) → is_some (type_of c (Cast to e)) ≡ true → option_and_then pointed (type_of c (Cast to e)) ≡ option_and_then pointed to
cast_points c None e h = refl
cast_points c (Some s) e h = by (type_of c e) h
  where
    chosen : (b : Bool) → is_some (cond b (Some s) None) ≡ true → option_and_then pointed (cond b (Some s) None) ≡ pointed s
    chosen true h = refl
    chosen false h = cc

    by : (o : Option Shape) → is_some (option_and_then (cast_type c s) o) ≡ true → option_and_then pointed (option_and_then (cast_type c s) o) ≡ pointed s
    by None h = cc
    by (Some t) h = chosen (is_void s || (is_scalar c.program.graph s && is_scalar c.program.graph t)) h

pub cast_typed : (c : Scope) (to : Option Shape) (e : Exp) → is_some (type_of c (Cast to e)) ≡ true → is_some (type_of c e) ≡ true
cast_typed c None e h = cc
cast_typed c (Some s) e h = some_of (cast_type c s) (type_of c e) h

pub address_points : (c : Scope) (l : Lval) → is_some (type_of c (AddrOf l)) ≡ true → option_and_then pointed (type_of c (AddrOf l)) ≡ place_type c l
address_points c l h = by (place_type c l) h
  where
    chosen : (b : Bool) (s : Shape) → is_some (cond b None (Some (pointer_to s))) ≡ true → option_and_then pointed (cond b None (Some (pointer_to s))) ≡ Some s
    chosen true s h = cc
    chosen false s h = refl

    by : (o : Option Shape) → is_some (option_and_then address_type o) ≡ true → option_and_then pointed (option_and_then address_type o) ≡ o
    by None h = refl
    by (Some s) h = chosen (is_void s) s h

pub start_points : (c : Scope) (l : Lval) → option_and_then pointed (type_of c (StartOf l)) ≡ option_and_then element_of (place_type c l)
start_points c l = by (place_type c l)
  where
    at : (s : Shape) → option_and_then pointed (start_type s) ≡ element_of s
    at VoidType = refl
    at (IntType kind) = refl
    at (PtrType q s) = refl
    at (ArrayType q s bound) = refl
    at (FuncType ret params proto variadic) = refl
    at (AggType a) = refl

    by : (o : Option Shape) → option_and_then pointed (option_and_then start_type o) ≡ option_and_then element_of o
    by None = refl
    by (Some s) = at s

pub value_points : (c : Scope) (l : Lval) → is_some (type_of c (Value l)) ≡ true → option_and_then pointed (type_of c (Value l)) ≡ option_and_then pointed (place_type c l)
value_points c l h = by (place_type c l) h
  where
    chosen : (b : Bool) (s : Shape) → is_some (cond b (Some s) None) ≡ true → option_and_then pointed (cond b (Some s) None) ≡ pointed s
    chosen true s h = refl
    chosen false s h = cc

    by : (o : Option Shape) → is_some (option_and_then (read_type c) o) ≡ true → option_and_then pointed (option_and_then (read_type c) o) ≡ option_and_then pointed o
    by None h = refl
    by (Some s) h = chosen (is_readable c.program.graph s) s h

pub right_typed : (c : Scope) (op : BinOp) (l r : Exp) → is_some (type_of c (Bin op l r)) ≡ true → is_some (type_of c r) ≡ true
right_typed c op l r h = by (type_of c l) h
  where
    by : (o : Option Shape) → is_some (option_and_then (λ s. option_and_then (binary_type c op s) (type_of c r)) o) ≡ true → is_some (type_of c r) ≡ true
    by None h = cc
    by (Some s) h = some_of (binary_type c op s) (type_of c r) h

integer_points : (op : BinOp) (k l : IntKind) → option_and_then pointed (integer_type op k l) ≡ None
integer_points op k l = chosen_points (is_wide k && (is_wide l && (is_shift op || same_kind k l))) _

moved_points : (c : Scope) (s : Shape) (kind : IntKind) → is_some (moved_type c s kind) ≡ true → option_and_then pointed (moved_type c s kind) ≡ Some s
moved_points c s kind h = by (is_wide kind && complete_shape c.program.graph.aggs s) h
  where
    by : (b : Bool) → is_some (cond b (Some (pointer_to s)) None) ≡ true → option_and_then pointed (cond b (Some (pointer_to s)) None) ≡ Some s
    by true h = refl
    by false h = cc

unless_points : (b : Bool) (kind : IntKind) → option_and_then pointed (cond b None (Some (IntType kind))) ≡ None
unless_points true kind = refl
unless_points false kind = refl

pointers_point : (c : Scope) (op : BinOp) (s : Shape) → option_and_then pointed (pointers_type c op s) ≡ None
pointers_point c Mul s = refl
pointers_point c Div s = refl
pointers_point c Rem s = refl
pointers_point c Add s = refl
pointers_point c Sub s = chosen_points (complete_shape c.program.graph.aggs s) _
pointers_point c Shl s = refl
pointers_point c Shr s = refl
pointers_point c Lt s = unless_points (is_function s) _
pointers_point c Gt s = unless_points (is_function s) _
pointers_point c Le s = unless_points (is_function s) _
pointers_point c Ge s = unless_points (is_function s) _
pointers_point c Eq s = refl
pointers_point c Ne s = refl
pointers_point c And s = refl
pointers_point c Xor s = refl
pointers_point c Or s = refl

forward_points : (c : Scope) (op : BinOp) (s : Shape) (kind : IntKind) → is_some (forward_type c op s kind) ≡ true → option_and_then pointed (forward_type c op s kind) ≡ moved op (Some s) None
forward_points c Mul s kind h = cc
forward_points c Div s kind h = cc
forward_points c Rem s kind h = cc
forward_points c Add s kind h = moved_points c s kind h
forward_points c Sub s kind h = moved_points c s kind h
forward_points c Shl s kind h = cc
forward_points c Shr s kind h = cc
forward_points c Lt s kind h = cc
forward_points c Gt s kind h = cc
forward_points c Le s kind h = cc
forward_points c Ge s kind h = cc
forward_points c Eq s kind h = cc
forward_points c Ne s kind h = cc
forward_points c And s kind h = cc
forward_points c Xor s kind h = cc
forward_points c Or s kind h = cc

backward_points : (c : Scope) (op : BinOp) (kind : IntKind) (s : Shape) → is_some (backward_type c op kind s) ≡ true → option_and_then pointed (backward_type c op kind s) ≡ moved op None (Some s)
backward_points c Mul kind s h = cc
backward_points c Div kind s h = cc
backward_points c Rem kind s h = cc
backward_points c Add kind s h = moved_points c s kind h
backward_points c Sub kind s h = cc
backward_points c Shl kind s h = cc
backward_points c Shr kind s h = cc
backward_points c Lt kind s h = cc
backward_points c Gt kind s h = cc
backward_points c Le kind s h = cc
backward_points c Ge kind s h = cc
backward_points c Eq kind s h = cc
backward_points c Ne kind s h = cc
backward_points c And kind s h = cc
backward_points c Xor kind s h = cc
backward_points c Or kind s h = cc

nothing_moved : (op : BinOp) → None ≡ moved op None None
nothing_moved Mul = refl
nothing_moved Div = refl
nothing_moved Rem = refl
nothing_moved Add = refl
nothing_moved Sub = refl
nothing_moved Shl = refl
nothing_moved Shr = refl
nothing_moved Lt = refl
nothing_moved Gt = refl
nothing_moved Le = refl
nothing_moved Ge = refl
nothing_moved Eq = refl
nothing_moved Ne = refl
nothing_moved And = refl
nothing_moved Xor = refl
nothing_moved Or = refl

-- two pointers are not added
not_moved : (c : Scope) (op : BinOp) (s t : Shape) → is_some (pointers_type c op s) ≡ true → None ≡ moved op (Some s) (Some t)
not_moved c Mul s t h = refl
not_moved c Div s t h = refl
not_moved c Rem s t h = refl
not_moved c Add s t h = cc
not_moved c Sub s t h = refl
not_moved c Shl s t h = refl
not_moved c Shr s t h = refl
not_moved c Lt s t h = refl
not_moved c Gt s t h = refl
not_moved c Le s t h = refl
not_moved c Ge s t h = refl
not_moved c Eq s t h = refl
not_moved c Ne s t h = refl
not_moved c And s t h = refl
not_moved c Xor s t h = refl
not_moved c Or s t h = refl

binary_points : (c : Scope) (op : BinOp) (s t : Shape) → is_some (binary_type c op s t) ≡ true → option_and_then pointed (binary_type c op s t) ≡ moved op (pointed s) (pointed t)
binary_points c op (IntType k) (IntType l) h = integer_points op k l ∙ nothing_moved op
binary_points c op (PtrType q s) (IntType l) h = forward_points c op s l h
binary_points c op (IntType k) (PtrType q s) h = backward_points c op k s h
binary_points c op (PtrType p s) (PtrType q t) h = by (same_shape (PtrType p s) (PtrType q t)) h
  where
    by : (b : Bool) → is_some (cond b (pointers_type c op s) None) ≡ true → option_and_then pointed (cond b (pointers_type c op s) None) ≡ moved op (Some s) (Some t)
    by true h = pointers_point c op s ∙ not_moved c op s t h
    by false h = cc
binary_points c op VoidType VoidType h = cc
binary_points c op VoidType (IntType l) h = cc
binary_points c op VoidType (PtrType q t) h = cc
binary_points c op VoidType (ArrayType q t n) h = cc
binary_points c op VoidType (FuncType u ts z w) h = cc
binary_points c op VoidType (AggType b) h = cc
binary_points c op (IntType k) VoidType h = cc
binary_points c op (IntType k) (ArrayType q t n) h = cc
binary_points c op (IntType k) (FuncType u ts z w) h = cc
binary_points c op (IntType k) (AggType b) h = cc
binary_points c op (PtrType p s) VoidType h = cc
binary_points c op (PtrType p s) (ArrayType q t n) h = cc
binary_points c op (PtrType p s) (FuncType u ts z w) h = cc
binary_points c op (PtrType p s) (AggType b) h = cc
binary_points c op (ArrayType p s m) VoidType h = cc
binary_points c op (ArrayType p s m) (IntType l) h = cc
binary_points c op (ArrayType p s m) (PtrType q t) h = cc
binary_points c op (ArrayType p s m) (ArrayType q t n) h = cc
binary_points c op (ArrayType p s m) (FuncType u ts z w) h = cc
binary_points c op (ArrayType p s m) (AggType b) h = cc
binary_points c op (FuncType r ss x y) VoidType h = cc
binary_points c op (FuncType r ss x y) (IntType l) h = cc
binary_points c op (FuncType r ss x y) (PtrType q t) h = cc
binary_points c op (FuncType r ss x y) (ArrayType q t n) h = cc
binary_points c op (FuncType r ss x y) (FuncType u ts z w) h = cc
binary_points c op (FuncType r ss x y) (AggType b) h = cc
binary_points c op (AggType a) VoidType h = cc
binary_points c op (AggType a) (IntType l) h = cc
binary_points c op (AggType a) (PtrType q t) h = cc
binary_points c op (AggType a) (ArrayType q t n) h = cc
binary_points c op (AggType a) (FuncType u ts z w) h = cc
binary_points c op (AggType a) (AggType b) h = cc

pub sum_points : (c : Scope) (op : BinOp) (l r : Exp) → is_some (type_of c (Bin op l r)) ≡ true → option_and_then pointed (type_of c (Bin op l r)) ≡ moved op (option_and_then pointed (type_of c l)) (option_and_then pointed (type_of c r))
sum_points c op l r h = by (type_of c l) (type_of c r) h
  where
    by : (o p : Option Shape) → is_some (option_and_then (λ s. option_and_then (binary_type c op s) p) o) ≡ true → option_and_then pointed (option_and_then (λ s. option_and_then (binary_type c op s) p) o) ≡ moved op (option_and_then pointed o) (option_and_then pointed p)
    by None p h = cc
    by (Some s) None h = cc
    by (Some s) (Some t) h = binary_points c op s t h

-- an offset and those behind it
option_itself : {A : Type 0} (o : Option A) → option_and_then (λ (x : A). Some x) o ≡ o
option_itself None = refl
option_itself (Some x) = refl

pub parts_typed : (c : Scope) (nodes : List Node) (x : Offset) (xs : List Offset) (s : Option Shape) → option_and_then (part_type c (offsets_of nodes (x ∷ xs))) s ≡ option_and_then (part_type c (offsets_of nodes xs)) (option_and_then (part_type c (offsets_of nodes (x ∷ []))) s)
parts_typed c nodes x xs None = refl
parts_typed c nodes (code.Field n) xs (Some s) = ap (option_and_then (part_type c (offsets_of nodes xs))) (sym (option_itself (member_type c.program.graph s n)))
parts_typed c nodes (code.Index' p e) xs (Some s) = by (type_of c (exp_of nodes e))
  where
    by : (o : Option Shape) → option_and_then (λ i. option_and_then (part_type c (offsets_of nodes xs)) (element_type s i)) o ≡ option_and_then (part_type c (offsets_of nodes xs)) (option_and_then (λ i. option_and_then (λ (t : Shape). Some t) (element_type s i)) o)
    by None = refl
    by (Some i) = ap (option_and_then (part_type c (offsets_of nodes xs))) (sym (option_itself (element_type s i)))

element_is : (s i : Shape) → is_some (element_type s i) ≡ true → element_type s i ≡ element_of s
element_is s i h = by (is_index i) h
  where
    by : (b : Bool) → is_some (cond b (element_of s) None) ≡ true → cond b (element_of s) None ≡ element_of s
    by true h = refl
    by false h = cc

pub parts_printed : (c : Scope) (nodes : List Node) (x : Offset) (xs : List Offset) (s : Option Shape) → is_some (option_and_then (part_type c (offsets_of nodes (x ∷ []))) s) ≡ true →
    offset_tokens c (offsets_of nodes (x ∷ xs)) s ≡ offset_tokens c (offsets_of nodes (x ∷ [])) s ++ offset_tokens c (offsets_of nodes xs) (option_and_then (part_type c (offsets_of nodes (x ∷ []))) s)
parts_printed c nodes x xs None h = cc
parts_printed c nodes (code.Field n) xs (Some s) h = ap (λ o. codes "." ∷ name_in c.program s n ∷ offset_tokens c (offsets_of nodes xs) o) (sym (option_itself (member_type c.program.graph s n)))
parts_printed c nodes (code.Index' p e) xs (Some s) h = ap (λ o. in_brackets (exp_tokens c (exp_of nodes e)) ++ offset_tokens c (offsets_of nodes xs) o) (by (type_of c (exp_of nodes e)) h) ∙ ap (λ t. t ++ offset_tokens c (offsets_of nodes xs) (option_and_then (part_type c (offsets_of nodes (code.Index' p e ∷ []))) (Some s))) (sym (append-nil (in_brackets (exp_tokens c (exp_of nodes e)))))
  where
    by : (o : Option Shape) → is_some (option_and_then (λ i. option_and_then (λ (t : Shape). Some t) (element_type s i)) o) ≡ true → element_of s ≡ option_and_then (λ i. option_and_then (λ (t : Shape). Some t) (element_type s i)) o
    by None h = cc
    by (Some i) h = sym (option_itself (element_type s i) ∙ element_is s i (ap is_some (sym (option_itself (element_type s i))) ∙ h))

pub index_typed : (c : Scope) (e : Exp) (s : Option Shape) → is_some (option_and_then (part_type c (Index e Here)) s) ≡ true → is_some (type_of c e) ≡ true
index_typed c e None h = cc
index_typed c e (Some s) h = some_of (λ i. option_and_then (part_type c Here) (element_type s i)) (type_of c e) h

pub index_type : (c : Scope) (e : Exp) (s : Option Shape) → is_some (option_and_then (part_type c (Index e Here)) s) ≡ true → option_and_then element_of s ≡ option_and_then (part_type c (Index e Here)) s
index_type c e None h = refl
index_type c e (Some s) h = by (type_of c e) h
  where
    by : (o : Option Shape) → is_some (option_and_then (λ i. option_and_then (λ (t : Shape). Some t) (element_type s i)) o) ≡ true → element_of s ≡ option_and_then (λ i. option_and_then (λ (t : Shape). Some t) (element_type s i)) o
    by None h = cc
    by (Some i) h = sym (option_itself (element_type s i) ∙ element_is s i (ap is_some (sym (option_itself (element_type s i))) ∙ h))

pub index_pushed : (o a b d : Output) (c : Scope) (e : Exp) (s : Option Shape) → a ≡ puts o (codes "[" ∷ []) → b ≡ puts a (exp_tokens c e) → d ≡ puts b (codes "]" ∷ []) → d ≡ puts o (offset_tokens c (Index e Here) s)
index_pushed o a b d c e s ea eb ed = enclosed o a b d (codes "[") (codes "]") (exp_tokens c e) ea eb ed ∙ ap (puts o) (sym (append-nil (in_brackets (exp_tokens c e))))

pub field_pushed : (o a b : Output) (c : Scope) (n : ℕ) (s : Option Shape) (m : Option Member) → m ≡ option_and_then (λ t. member_at c.program.graph t n) s → a ≡ puts o (codes "." ∷ []) → b ≡ puts a (name_of_member c.program m ∷ []) → b ≡ puts o (offset_tokens c (Field n Here) s)
field_pushed o a b c n s m e ea eb = pair_pushed o a b (codes ".") (name_of_member c.program m) ea eb ∙ ap (λ x. puts o (codes "." ∷ x ∷ [])) (ap (name_of_member c.program) e ∙ named s)
  where
    named : (s : Option Shape) → name_of_member c.program (option_and_then (λ t. member_at c.program.graph t n) s) ≡ elim s [ None ↦ [] | Some t ↦ name_in c.program t n ]
    named None = refl
    named (Some t) = refl

pub field_type : (c : Scope) (n : ℕ) (s : Option Shape) (m : Option Member) → m ≡ option_and_then (λ t. member_at c.program.graph t n) s → option_map (λ (x : Member). shape c.program.graph.nodes x.ty.of.0) m ≡ option_and_then (part_type c (Field n Here)) s
field_type c n None m e = ap (option_map (λ (x : Member). shape c.program.graph.nodes x.ty.of.0)) e
field_type c n (Some s) m e = ap (option_map (λ (x : Member). shape c.program.graph.nodes x.ty.of.0)) e ∙ sym (option_itself (member_type c.program.graph s n))

next_is : {A : Type 0} (xs : List A) (i : ℕ) (x : A) → i < length xs → x ≡ get_or xs i x → drop i xs ≡ x ∷ drop (suc i) xs
next_is [] i x h e = absurd (omega arith)
next_is (y ∷ xs) zero x h e = ap (λ z. z ∷ xs) (sym e)
next_is (y ∷ xs) (suc i) x h e = next_is xs i x (omega arith) e

-- the steps from one on, as they are printed
pub record StepsFrom (c : Scope) (nodes : List Node) (o start : Output) (rest all : List Offset) (s of : Option Shape) : Type 0 where
  pub text : puts o (offset_tokens c (offsets_of nodes rest) s) ≡ puts start (offset_tokens c (offsets_of nodes all) of)
  pub type : option_and_then (part_type c (offsets_of nodes rest)) s ≡ option_and_then (part_type c (offsets_of nodes all)) of

pub step_typed : (c : Scope) (nodes : List Node) (o start : Output) (xs : List Offset) (i : ℕ) (x : Offset) (s of : Option Shape) → i < length xs → x ≡ get_or xs i x → StepsFrom c nodes o start (drop i xs) xs s of →
    is_some (option_and_then (part_type c (offsets_of nodes xs)) of) ≡ true → is_some (option_and_then (part_type c (offsets_of nodes (x ∷ []))) s) ≡ true
step_typed c nodes o start xs i x s of h e steps typed =
    some_of (part_type c (offsets_of nodes (drop (suc i) xs))) (option_and_then (part_type c (offsets_of nodes (x ∷ []))) s)
    (ap is_some (sym (parts_typed c nodes x (drop (suc i) xs) s) ∙ ap (λ ys. option_and_then (part_type c (offsets_of nodes ys)) s) (sym (next_is xs i x h e)) ∙ steps.type) ∙ typed)

pub step_done : (c : Scope) (nodes : List Node) (o a start : Output) (xs : List Offset) (i j : ℕ) (x : Offset) (s t of : Option Shape) → j ≡ suc i → i < length xs → x ≡ get_or xs i x → StepsFrom c nodes o start (drop i xs) xs s of →
    is_some (option_and_then (part_type c (offsets_of nodes xs)) of) ≡ true → a ≡ puts o (offset_tokens c (offsets_of nodes (x ∷ [])) s) → t ≡ option_and_then (part_type c (offsets_of nodes (x ∷ []))) s →
    StepsFrom c nodes a start (drop j xs) xs t of
step_done c nodes o a start xs i j x s t of k h e steps typed ea et = record {
  text =
      ap (λ l. puts a (offset_tokens c (offsets_of nodes (drop l xs)) t)) k ∙ ap (λ u. puts a (offset_tokens c (offsets_of nodes (drop (suc i) xs)) u)) et
      ∙ two_pushed o a (puts a (offset_tokens c (offsets_of nodes (drop (suc i) xs)) (option_and_then (part_type c (offsets_of nodes (x ∷ []))) s))) (offset_tokens c (offsets_of nodes (x ∷ [])) s) (offset_tokens c (offsets_of nodes (drop (suc i) xs)) (option_and_then (part_type c (offsets_of nodes (x ∷ []))) s)) ea refl
      ∙ ap (puts o) (sym (parts_printed c nodes x (drop (suc i) xs) s (step_typed c nodes o start xs i x s of h e steps typed))) ∙ ap (λ ys. puts o (offset_tokens c (offsets_of nodes ys) s)) (sym (next_is xs i x h e)) ∙ steps.text;
  type =
      ap (λ l. option_and_then (part_type c (offsets_of nodes (drop l xs))) t) k ∙ ap (option_and_then (part_type c (offsets_of nodes (drop (suc i) xs)))) et
      ∙ sym (parts_typed c nodes x (drop (suc i) xs) s) ∙ ap (λ ys. option_and_then (part_type c (offsets_of nodes ys)) s) (sym (next_is xs i x h e)) ∙ steps.type;
}

past_end : {A : Type 0} (xs : List A) (i : ℕ) → length xs ≤ i → drop i xs ≡ []
past_end [] zero h = refl
past_end [] (suc i) h = refl
past_end (x ∷ xs) zero h = absurd (omega arith)
past_end (x ∷ xs) (suc i) h = past_end xs i (omega arith)

pub steps_text : (c : Scope) (nodes : List Node) (o start : Output) (xs : List Offset) (i : ℕ) (s of : Option Shape) → length xs ≤ i → StepsFrom c nodes o start (drop i xs) xs s of → o ≡ puts start (offset_tokens c (offsets_of nodes xs) of)
steps_text c nodes o start xs i s of h steps = nothing_pushed o ∙ ap (λ ys. puts o (offset_tokens c (offsets_of nodes ys) s)) (sym (past_end xs i h)) ∙ steps.text

pub steps_type : (c : Scope) (nodes : List Node) (o start : Output) (xs : List Offset) (i : ℕ) (s of : Option Shape) → length xs ≤ i → StepsFrom c nodes o start (drop i xs) xs s of → s ≡ option_and_then (part_type c (offsets_of nodes xs)) of
steps_type c nodes o start xs i s of h steps = sym (option_itself s) ∙ ap (λ ys. option_and_then (part_type c (offsets_of nodes ys)) s) (sym (past_end xs i h)) ∙ steps.type

pub right_pushed : (o a b d : Output) (op : Token) (xs : List Token) → a ≡ puts o (op ∷ []) → b ≡ puts a xs → d ≡ puts b (codes ")" ∷ []) → d ≡ puts o (op ∷ (xs ++ codes ")" ∷ []))
right_pushed o a b d op xs ea eb ed = simp (ed, eb, ea, puts-puts)

pub sum_pushed : (o a b : Output) (op : BinOp) (c : Scope) (e l r : Exp) → e ≡ Bin op l r → a ≡ puts o (codes "(" ∷ exp_tokens c l) → b ≡ puts a (operator_spelling op ∷ (exp_tokens c r ++ codes ")" ∷ [])) → b ≡ puts o (exp_tokens c e)
sum_pushed o a b op c e l r is ea eb = simp (eb, ea, puts-puts) (ap (puts o) (sym (ap (exp_tokens c) is ∙ ap (λ t. codes "(" ∷ t) (append_assoc (exp_tokens c l) (operator_spelling op ∷ exp_tokens c r) (codes ")" ∷ [])))))

pub sum_points_at : (c : Scope) (op : BinOp) (e l r : Exp) (m x y : Option Shape) → e ≡ Bin op l r → is_some (type_of c e) ≡ true → x ≡ option_and_then pointed (type_of c l) → y ≡ option_and_then pointed (type_of c r) → m ≡ moved op x y → m ≡ option_and_then pointed (type_of c e)
sum_points_at c op e l r m x y is h ex ey em =
    em ∙ ap (λ z. moved op z y) ex ∙ ap (moved op (option_and_then pointed (type_of c l))) ey ∙ sym (sum_points c op l r (ap (λ f. is_some (type_of c f)) (sym is) ∙ h)) ∙ ap (λ f. option_and_then pointed (type_of c f)) (sym is)
