-- Device: operands give what their expressions do.
use Rattle.std.proofs.Common.{◌≡◌, ℕ, Bool, true, false, ◌&&◌, ◌||◌, not, List, Option, Some, None, option_map, refl, sym, ap, ◌∙◌, subst}
use Rattle.std.specs.Prelude.{if◌then◌else◌}
use Rattle.std.specs.Option.{option_and_then}
use Rattle.cil_base.specs.declared.numbers.TypeId.{TypeId}
use Rattle.cil_base.specs.declared.operators.BinOp.{BinOp}
use Rattle.cil_base.specs.declared.operators.BinOp.TheVariants.{Mul, Div, Rem, Add, Sub, Shl, Shr, Lt, Gt, Le, Ge, Eq, Ne, And, Xor, Or}
use Rattle.cil_base.specs.declared.operators.UnOp.{UnOp}
use Rattle.cil_base.specs.declared.operators.UnOp.TheVariants.{Neg, Compl, Not as LogicalNot}
use Rattle.byte_mem.specs.declared.pointers.Pointer.{Pointer}
use Rattle.byte_mem.specs.declared.values.Scalar.{Scalar}
use Rattle.byte_mem.specs.declared.values.Value.{Value}
use Rattle.byte_mem.specs.Steps.{◌>>=◌}
use Rattle.byte_mem.specs.Memory.{Memory, load, load_bytes}
use Rattle.byte_mem.specs.Operator.{pointer_in}
use Rattle.type_graph.specs.Shapes.{Shape, VoidType, IntType, PtrType, ArrayType, FuncType, AggType, shape}
use Rattle.type_graph.specs.Arena.{Graph, complete_shape}
use Rattle.execution.specs.Data.{Kind, OfScalar, OfAggregate, Datum, Single, Bytes, load_datum, load_from}
use Rattle.cil_tree.specs.Tree.{Exp, Const, Value as ValueOf, Un, Bin, Cast, AddrOf, StartOf, Lval}
use Rattle.cil_tree.specs.Typing.{Scope, is_void, is_array, is_scalar, is_wide, same_shape, is_function, is_readable, read_type, unary_type, integer_type, moved_type, pointers_type, forward_type, backward_type, binary_type, cast_type, address_type, start_type, type_of, place_type, names_enum}
use Rattle.cil_check.specs.declared.seen.Seen.{Seen}
use Rattle.cil_check.specs.Seen.{seen_shape, told, at}
use Rattle.typed_values.specs.Values.{scalar_kind, aggregate_kind, single_in}
use Rattle.cil_semantics.specs.Values.{Activation, size_in, kind_in, scalar_in, unary_value, binary_value, cast_value, value, place}
use Rattle.cil_machine.specs.declared.terms.Term.{Term, Load}
use Rattle.cil_machine.specs.declared.terms.Spot.{Spot}
use Rattle.cil_machine.specs.declared.resolution.Typed.{Typed}
use Rattle.cil_machine.specs.declared.resolution.TypedSpot.{TypedSpot}
use Rattle.cil_machine.specs.Resolution.{activation, Means, MeansPlace}
use Rattle.cil_machine.specs.Typed.{IsTyped, IsPlaced}
use Rattle.cil_machine.proofs.Meanings.{none-some, of_some, kind_of_scalar, means_value}
use Rattle.cil_machine.proofs.Typings.{some-none, not_scalar}
use Rattle.cil_code.specs.declared.operands.Operand.{Operand}
use Rattle.cil_code.specs.declared.operands.Operand.TheVariants.{Single as OfTerm, Bytes as OfPlace, Wrong as NoOperand}
use Rattle.cil_code.specs.Passing.{is_read, IsOperand}

-- what is a scalar's value, if anything
IsSingle : Option Datum → Type 0
IsSingle o = o ≡ option_map Single (o >>= single_in)

single_map : (o : Option Value) → IsSingle (option_map Single o)
unfolding IsSingle
single_map None = refl
single_map (Some v) = refl

single_then : {A : Type 0} (o : Option A) (f : A → Option Datum) → ((a : A) → IsSingle (f a)) → IsSingle (o >>= f)
unfolding IsSingle
single_then None f h = refl
single_then (Some a) f h = h a

single_value : (a : Activation) (m : Memory) (e : Exp) → is_read e ≡ false → IsSingle (value a m e)
single_value a m (Const kind n) h = single_map (Some _)
single_value a m (ValueOf p) h = absurd (cc)
single_value a m (Un op e) h = single_then (type_of a.scope e) _ (λ s. single_then (value a m e >>= single_in) (λ v. option_map Single (unary_value a.scope.program.graph m op s v)) (λ v. single_map (unary_value a.scope.program.graph m op s v)))
single_value a m (Bin op left right) h =
    single_then (type_of a.scope left) _ (λ s.
    single_then (type_of a.scope right) _ (λ t.
    single_then (value a m left >>= single_in) _ (λ v.
    single_then (value a m right >>= single_in) (λ w. option_map Single (binary_value a.scope.program.graph m op s t v w)) (λ w. single_map (binary_value a.scope.program.graph m op s t v w)))))
single_value a m (Cast to e) h = single_then to _ (λ t. single_then (value a m e) (λ d. option_map Single (cast_value a.scope.program.graph t d)) (λ d. single_map (cast_value a.scope.program.graph t d)))
single_value a m (AddrOf p) h = single_map (place a m p)
single_value a m (StartOf p) h = single_map (place a m p)

-- the value of what stands at a place, whose kind is known
place_value : (a : Activation) (m : Memory) (p : Lval) (t : Shape) (k : Kind) → place_type a.scope p ≡ Some t → kind_in a.scope.program.graph t ≡ Some k → value a m (ValueOf p) ≡ (place a m p >>= load_datum a.scope.program.graph.abi m k)
place_value a m p t k is kind = ap (λ o. o >>= λ k. place a m p >>= load_datum a.scope.program.graph.abi m k) (ap (λ o. o >>= kind_in a.scope.program.graph) is ∙ kind)

single_read : (a : Activation) (m : Memory) (p : Lval) (t : Shape) (s : Scalar) → place_type a.scope p ≡ Some t → kind_in a.scope.program.graph t ≡ Some (OfScalar s) → IsSingle (value a m (ValueOf p))
single_read a m p t s is kind =
    subst IsSingle (sym (place_value a m p t (OfScalar s) is kind))
    (single_then (place a m p) (load_datum a.scope.program.graph.abi m (OfScalar s)) (λ v. single_then (pointer_in v) (λ q. option_map Single (load a.scope.program.graph.abi m q s)) (λ q. single_map (load a.scope.program.graph.abi m q s))))

-- an operand of scalar type
of_scalar : (c : Scope) (es : List ℕ) (e : Exp) (u : Term) (t : Shape) (s : Scalar) → type_of c e ≡ Some t → scalar_in c.program.graph t ≡ Some s → Means c es e u → ((m : Memory) (act : ℕ) → IsSingle (value (activation c es act) m e)) → IsOperand c es e (OfTerm s u)
unfolding IsSingle
of_scalar c es e u t s is scalar means single = record {
  kind = λ x also some. ap (kind_in c.program.graph) (of_some x t (sym also ∙ is)) ∙ kind_of_scalar (kind_in c.program.graph t) s scalar;
  datum = λ x also some m act. ap (option_map Single) (means.at s (ap (λ o. o >>= scalar_in c.program.graph) is ∙ scalar) m act) ∙ sym (single m act);
}

-- what has no type is no operand
untyped : (c : Scope) (es : List ℕ) (e : Exp) (o : Operand) → type_of c e ≡ None → IsOperand c es e o
untyped c es e o is = record { kind = λ x also some. none-some x (sym is ∙ also); datum = λ x also some m act. none-some x (sym is ∙ also) }

-- a type that is void or scalar
IsPlain : Graph → Shape → Type 0
IsPlain g t = (is_void t || is_scalar g t) ≡ true

plain_if : (g : Graph) (b : Bool) (x t : Shape) → (b ≡ true → IsPlain g x) → (if b then Some x else None) ≡ Some t → IsPlain g t
unfolding IsPlain
plain_if g true x t h e = subst (IsPlain g) (of_some x t e) (h refl)
plain_if g false x t h e = none-some t e

plain_unless : (g : Graph) (b : Bool) (x t : Shape) → IsPlain g x → (if b then None else Some x) ≡ Some t → IsPlain g t
unfolding IsPlain
plain_unless g true x t h e = none-some t e
plain_unless g false x t h e = subst (IsPlain g) (of_some x t e) h

plain_unary : (c : Scope) (op : UnOp) (s t : Shape) → unary_type c op s ≡ Some t → IsPlain c.program.graph t
unfolding IsPlain
plain_unary c LogicalNot s t e = plain_if c.program.graph (is_scalar c.program.graph s) _ t (λ h. refl) e
plain_unary c Neg (IntType kind) t e = plain_if c.program.graph (is_wide kind) _ t (λ h. refl) e
plain_unary c Neg VoidType t e = none-some t e
plain_unary c Neg (PtrType q s) t e = none-some t e
plain_unary c Neg (ArrayType q s bound) t e = none-some t e
plain_unary c Neg (FuncType ret params proto variadic) t e = none-some t e
plain_unary c Neg (AggType a) t e = none-some t e
plain_unary c Compl (IntType kind) t e = plain_if c.program.graph (is_wide kind) _ t (λ h. refl) e
plain_unary c Compl VoidType t e = none-some t e
plain_unary c Compl (PtrType q s) t e = none-some t e
plain_unary c Compl (ArrayType q s bound) t e = none-some t e
plain_unary c Compl (FuncType ret params proto variadic) t e = none-some t e
plain_unary c Compl (AggType a) t e = none-some t e

plain_moved : (c : Scope) (s t : Shape) (kind : _) → moved_type c s kind ≡ Some t → IsPlain c.program.graph t
unfolding IsPlain
plain_moved c s t kind e = plain_if c.program.graph (is_wide kind && complete_shape c.program.graph.aggs s) _ t (λ h. refl) e

plain_pointers : (c : Scope) (op : BinOp) (s t : Shape) → pointers_type c op s ≡ Some t → IsPlain c.program.graph t
unfolding IsPlain
plain_pointers c Sub s t e = plain_if c.program.graph (complete_shape c.program.graph.aggs s) _ t (λ h. refl) e
plain_pointers c Lt s t e = plain_unless c.program.graph (is_function s) _ t refl e
plain_pointers c Gt s t e = plain_unless c.program.graph (is_function s) _ t refl e
plain_pointers c Le s t e = plain_unless c.program.graph (is_function s) _ t refl e
plain_pointers c Ge s t e = plain_unless c.program.graph (is_function s) _ t refl e
plain_pointers c Eq s t e = plain_if c.program.graph true _ t (λ h. refl) e
plain_pointers c Ne s t e = plain_if c.program.graph true _ t (λ h. refl) e
plain_pointers c Mul s t e = none-some t e
plain_pointers c Div s t e = none-some t e
plain_pointers c Rem s t e = none-some t e
plain_pointers c Add s t e = none-some t e
plain_pointers c Shl s t e = none-some t e
plain_pointers c Shr s t e = none-some t e
plain_pointers c And s t e = none-some t e
plain_pointers c Xor s t e = none-some t e
plain_pointers c Or s t e = none-some t e

plain_forward : (c : Scope) (op : BinOp) (s t : Shape) (kind : _) → forward_type c op s kind ≡ Some t → IsPlain c.program.graph t
plain_forward c Mul s t kind e = none-some t e
plain_forward c Div s t kind e = none-some t e
plain_forward c Rem s t kind e = none-some t e
plain_forward c Add s t kind e = plain_moved c s t kind e
plain_forward c Sub s t kind e = plain_moved c s t kind e
plain_forward c Shl s t kind e = none-some t e
plain_forward c Shr s t kind e = none-some t e
plain_forward c Lt s t kind e = none-some t e
plain_forward c Gt s t kind e = none-some t e
plain_forward c Le s t kind e = none-some t e
plain_forward c Ge s t kind e = none-some t e
plain_forward c Eq s t kind e = none-some t e
plain_forward c Ne s t kind e = none-some t e
plain_forward c And s t kind e = none-some t e
plain_forward c Xor s t kind e = none-some t e
plain_forward c Or s t kind e = none-some t e

plain_backward : (c : Scope) (op : BinOp) (kind : _) (s t : Shape) → backward_type c op kind s ≡ Some t → IsPlain c.program.graph t
plain_backward c Mul kind s t e = none-some t e
plain_backward c Div kind s t e = none-some t e
plain_backward c Rem kind s t e = none-some t e
plain_backward c Add kind s t e = plain_moved c s t kind e
plain_backward c Sub kind s t e = none-some t e
plain_backward c Shl kind s t e = none-some t e
plain_backward c Shr kind s t e = none-some t e
plain_backward c Lt kind s t e = none-some t e
plain_backward c Gt kind s t e = none-some t e
plain_backward c Le kind s t e = none-some t e
plain_backward c Ge kind s t e = none-some t e
plain_backward c Eq kind s t e = none-some t e
plain_backward c Ne kind s t e = none-some t e
plain_backward c And kind s t e = none-some t e
plain_backward c Xor kind s t e = none-some t e
plain_backward c Or kind s t e = none-some t e

plain_same : (c : Scope) (b : Bool) (op : BinOp) (s t : Shape) → (if b then pointers_type c op s else None) ≡ Some t → IsPlain c.program.graph t
plain_same c true op s t e = plain_pointers c op s t e
plain_same c false op s t e = none-some t e

plain_integer : (c : Scope) (op : BinOp) (k l : _) (t : Shape) → integer_type op k l ≡ Some t → IsPlain c.program.graph t
unfolding IsPlain
plain_integer c op k l t e = plain_if c.program.graph _ _ t (λ h. refl) e

plain_binary : (c : Scope) (op : BinOp) (s t u : Shape) → binary_type c op s t ≡ Some u → IsPlain c.program.graph u
plain_binary c op VoidType t u e = none-some u e
plain_binary c op (ArrayType p w bound) t u e = none-some u e
plain_binary c op (FuncType ret params proto variadic) t u e = none-some u e
plain_binary c op (AggType a) t u e = none-some u e
plain_binary c op (IntType k) (IntType l) u e = plain_integer c op k l u e
plain_binary c op (IntType k) (PtrType q s) u e = plain_backward c op k s u e
plain_binary c op (IntType k) VoidType u e = none-some u e
plain_binary c op (IntType k) (ArrayType p w bound) u e = none-some u e
plain_binary c op (IntType k) (FuncType ret params proto variadic) u e = none-some u e
plain_binary c op (IntType k) (AggType a) u e = none-some u e
plain_binary c op (PtrType q s) (IntType l) u e = plain_forward c op s u l e
plain_binary c op (PtrType q s) (PtrType r z) u e = plain_same c (same_shape (PtrType q s) (PtrType r z)) op s u e
plain_binary c op (PtrType q s) VoidType u e = none-some u e
plain_binary c op (PtrType q s) (ArrayType p w bound) u e = none-some u e
plain_binary c op (PtrType q s) (FuncType ret params proto variadic) u e = none-some u e
plain_binary c op (PtrType q s) (AggType a) u e = none-some u e

or_left : (a b d : Bool) → (a || (b && d)) ≡ true → (a || b) ≡ true
or_left true b d e = refl
or_left false true d e = refl
or_left false false d e = e

plain_cast : (c : Scope) (to s t : Shape) → cast_type c to s ≡ Some t → IsPlain c.program.graph t
unfolding IsPlain
plain_cast c to s t e = plain_if c.program.graph (is_void to || (is_scalar c.program.graph to && is_scalar c.program.graph s)) to t (or_left (is_void to) (is_scalar c.program.graph to) (is_scalar c.program.graph s)) e

plain_start : (c : Scope) (s t : Shape) → start_type s ≡ Some t → IsPlain c.program.graph t
unfolding IsPlain
plain_start c (ArrayType q s bound) t e = subst (IsPlain c.program.graph) (of_some _ t e) refl
plain_start c VoidType t e = none-some t e
plain_start c (IntType kind) t e = none-some t e
plain_start c (PtrType q s) t e = none-some t e
plain_start c (FuncType ret params proto variadic) t e = none-some t e
plain_start c (AggType a) t e = none-some t e

-- what a step of a type leads to
plain_then : (g : Graph) (o : Option Shape) (f : Shape → Option Shape) (t : Shape) → ((s : Shape) → f s ≡ Some t → IsPlain g t) → option_and_then f o ≡ Some t → IsPlain g t
plain_then g None f t h e = none-some t e
plain_then g (Some s) f t h e = h s e

-- what reads no place has a void or scalar type
plain_type : (c : Scope) (e : Exp) (t : Shape) → is_read e ≡ false → type_of c e ≡ Some t → IsPlain c.program.graph t
unfolding IsPlain
plain_type c (Const kind n) t h e = plain_if c.program.graph _ _ t (λ h. refl) e
plain_type c (ValueOf p) t h e = absurd (cc)
plain_type c (Un op x) t h e = plain_then c.program.graph (type_of c x) (unary_type c op) t (λ s. plain_unary c op s t) e
plain_type c (Bin op left right) t h e =
    plain_then c.program.graph (type_of c left) (λ s. option_and_then (binary_type c op s) (type_of c right)) t (λ s. plain_then c.program.graph (type_of c right) (binary_type c op s) t (λ u. plain_binary c op s u t)) e
plain_type c (Cast to x) t h e = plain_then c.program.graph to (λ s. option_and_then (cast_type c s) (type_of c x)) t (λ s. plain_then c.program.graph (type_of c x) (cast_type c s) t (λ u. plain_cast c s u t)) e
plain_type c (AddrOf p) t h e = plain_then c.program.graph (place_type c p) address_type t (λ s. plain_unless c.program.graph (is_void s) _ t refl) e
plain_type c (StartOf p) t h e = plain_then c.program.graph (place_type c p) start_type t (λ s. plain_start c s t) e

neither : {X : Type 0} (a b : Bool) → (a || b) ≡ true → a ≡ false → b ≡ false → X
neither true b e f g = absurd (cc)
neither false true e f g = absurd (cc)
neither false false e f g = absurd (cc)

-- an expression that reads no place and is not scalar is void
pub no_scalar : (c : Scope) (es : List ℕ) (e : Exp) (o : Operand) (t : Shape) → is_read e ≡ false → type_of c e ≡ Some t → scalar_in c.program.graph t ≡ None → IsOperand c es e o
unfolding IsPlain
no_scalar c es e o t h is apart = record {
  kind = λ x also some. neither (is_void x) (is_scalar c.program.graph x) (plain_type c e x h also) some (not_scalar c.program.graph x (ap (scalar_in c.program.graph) (of_some x t (sym also ∙ is)) ∙ apart));
  datum = λ x also some m act. neither (is_void x) (is_scalar c.program.graph x) (plain_type c e x h also) some (not_scalar c.program.graph x (ap (scalar_in c.program.graph) (of_some x t (sym also ∙ is)) ∙ apart));
}

pub computed_scalar : (c : Scope) (es : List ℕ) (e : Exp) (r : Typed) (t : Seen) (s : Scalar) → IsTyped c es e r → is_read e ≡ false → r.ty ≡ Some t → Some s ≡ scalar_in c.program.graph (seen_shape c.program.graph t) → IsOperand c es e (OfTerm s r.term)
computed_scalar c es e r t s is h ty scalar =
    of_scalar c es e r.term (seen_shape c.program.graph t) s (sym is.told ∙ ap (told c.program.graph) ty) (sym scalar) is.means (λ m act. single_value (activation c es act) m e h)

pub computed_other : (c : Scope) (es : List ℕ) (e : Exp) (r : Typed) (t : Seen) → IsTyped c es e r → is_read e ≡ false → r.ty ≡ Some t → None ≡ scalar_in c.program.graph (seen_shape c.program.graph t) → IsOperand c es e NoOperand
computed_other c es e r t is h ty apart = no_scalar c es e NoOperand (seen_shape c.program.graph t) h (sym is.told ∙ ap (told c.program.graph) ty) (sym apart)

pub computed_nothing : (c : Scope) (es : List ℕ) (e : Exp) (r : Typed) → IsTyped c es e r → r.ty ≡ None → IsOperand c es e NoOperand
computed_nothing c es e r is ty = untyped c es e NoOperand (sym is.told ∙ ap (told c.program.graph) ty)

-- the type of a place that is read
read_is : (c : Scope) (t x : Shape) → read_type c t ≡ Some x → (t ≡ x) × (is_readable c.program.graph t ≡ true)
read_is c t x e = by (is_readable c.program.graph t) refl e
  where
    by : (b : Bool) → is_readable c.program.graph t ≡ b → (if b then Some t else None) ≡ Some x → (t ≡ x) × (is_readable c.program.graph t ≡ true)
    by true is e = (of_some t x e, is)
    by false is e = none-some x e

both_hold : (a b : Bool) → (a && not b) ≡ true → (a ≡ true) × (b ≡ false)
both_hold true false e = (refl, refl)
both_hold true true e = absurd (cc)
both_hold false b e = absurd (cc)

-- the kind of what is read and is not scalar
aggregate_is : (g : Graph) (t : Shape) (n : ℕ) → complete_shape g.aggs t ≡ true → is_array t ≡ false → scalar_in g t ≡ None → size_in g t ≡ Some n → kind_in g t ≡ Some (OfAggregate n)
aggregate_is g VoidType n full no_array apart size = absurd (cc)
aggregate_is g (IntType kind) n full no_array apart size = some-none _ apart
aggregate_is g (PtrType q s) n full no_array apart size = some-none _ apart
aggregate_is g (ArrayType q s bound) n full no_array apart size = absurd (cc)
aggregate_is g (FuncType ret params proto variadic) n full no_array apart size = absurd (cc)
aggregate_is g (AggType a) n full no_array apart size = by (names_enum g a) apart
  where
    by : (b : Bool) → (aggregate_kind b (size_in g (AggType a)) >>= scalar_kind) ≡ None → aggregate_kind b (size_in g (AggType a)) ≡ Some (OfAggregate n)
    by true apart = some-none _ apart
    by false apart = ap (option_map OfAggregate) size

bytes_read : (abi : _) (m : Memory) (n : ℕ) (o : Option Value) → option_map Bytes ((o >>= pointer_in) >>= λ p. load_bytes m p n) ≡ (o >>= load_datum abi m (OfAggregate n))
bytes_read abi m n None = refl
bytes_read abi m n (Some v) = by (pointer_in v)
  where
    by : (u : Option Pointer) → option_map Bytes (u >>= λ p. load_bytes m p n) ≡ (u >>= λ p. load_from abi m (OfAggregate n) p)
    by None = refl
    by (Some p) = refl

typed_place : (c : Scope) (es : List ℕ) (p : Lval) (r : TypedSpot) (t : TypeId) → IsPlaced c es p r → r.ty ≡ Some t → place_type c p ≡ Some (shape c.program.graph.nodes t.0)
typed_place c es p r t is ty = sym is.told ∙ ap (at c.program.graph) ty

type_read : (c : Scope) (p : Lval) (t : Shape) → place_type c p ≡ Some t → type_of c (ValueOf p) ≡ read_type c t
type_read c p t is = ap (option_and_then (read_type c)) is

pub place_nothing : (c : Scope) (es : List ℕ) (p : Lval) (r : TypedSpot) → IsPlaced c es p r → r.ty ≡ None → IsOperand c es (ValueOf p) NoOperand
place_nothing c es p r is ty = untyped c es (ValueOf p) NoOperand (ap (option_and_then (read_type c)) (sym is.told ∙ ap (at c.program.graph) ty))

pub place_unread : (c : Scope) (es : List ℕ) (p : Lval) (t : Shape) (o : Operand) → place_type c p ≡ Some t → read_type c t ≡ None → IsOperand c es (ValueOf p) o
place_unread c es p t o is apart = untyped c es (ValueOf p) o (type_read c p t is ∙ apart)

pub place_scalar : (c : Scope) (es : List ℕ) (p : Lval) (x : Spot) (t u : Shape) (s : Scalar) → place_type c p ≡ Some t → MeansPlace c es p x → read_type c t ≡ Some u → scalar_in c.program.graph u ≡ Some s → IsOperand c es (ValueOf p) (OfTerm s (Load x))
place_scalar c es p x t u s is means type scalar =
    let same : t ≡ u = (read_is c t u type).0 in
    let kind : kind_in c.program.graph t ≡ Some (OfScalar s) = ap (kind_in c.program.graph) same ∙ kind_of_scalar (kind_in c.program.graph u) s scalar in
    of_scalar c es (ValueOf p) (Load x) u s (type_read c p t is ∙ type) scalar (means_value c es p x t is means) (λ m act. single_read (activation c es act) m p t s is kind)

pub place_bytes : (c : Scope) (es : List ℕ) (p : Lval) (x : Spot) (t u : Shape) (n : ℕ) → place_type c p ≡ Some t → MeansPlace c es p x → read_type c t ≡ Some u → scalar_in c.program.graph u ≡ None → size_in c.program.graph t ≡ Some n → IsOperand c es (ValueOf p) (OfPlace n x)
place_bytes c es p x t u n is means type apart size = record {
  kind = λ y also some. ap (kind_in c.program.graph) (of_some y t (sym also ∙ (type_read c p t is ∙ (type ∙ ap Some (sym read.0))))) ∙ aggregate;
  datum = λ y also some m act.
      ap (λ o. option_map Bytes ((o >>= pointer_in) >>= λ q. load_bytes m q n)) (means.at t is m act)
      ∙ (bytes_read c.program.graph.abi m n (place (activation c es act) m p) ∙ sym (place_value (activation c es act) m p t (OfAggregate n) is aggregate));
}
  where
    read : (t ≡ u) × (is_readable c.program.graph t ≡ true)
    read = read_is c t u type

    aggregate : kind_in c.program.graph t ≡ Some (OfAggregate n)
    aggregate =
        let both = both_hold (complete_shape c.program.graph.aggs t) (is_array t) read.1 in
        aggregate_is c.program.graph t n both.0 both.1 (ap (scalar_in c.program.graph) read.0 ∙ apart) size

-- what can be read has a size, or is none
pub place_sizeless : (c : Scope) (es : List ℕ) (p : Lval) (t u : Shape) (o : Operand) → place_type c p ≡ Some t → read_type c t ≡ Some u → complete_shape c.program.graph.aggs t ≡ false → IsOperand c es (ValueOf p) o
place_sizeless c es p t u o is type open_ = untyped c es (ValueOf p) o (absurd_read (both_hold (complete_shape c.program.graph.aggs t) (is_array t) (read_is c t u type).1).0)
  where
    absurd_read : complete_shape c.program.graph.aggs t ≡ true → type_of c (ValueOf p) ≡ None
    absurd_read full = neither false false (ap (λ b. b) (sym open_ ∙ full)) refl refl
