-- Device: terms with their types, operator by operator.
use Rattle.std.proofs.Common.{◌≡◌, ℕ, Bool, true, false, ◌&&◌, ◌||◌, List, Option, Some, None, option_map, refl, sym, ap, ◌∙◌, subst}
use Rattle.std.specs.Prelude.{if◌then◌else◌, IfSome}
use Rattle.std.specs.Option.{option_and_then}
use Rattle.cil_base.specs.declared.kinds.IntKind.{IntKind}
use Rattle.cil_base.specs.declared.kinds.IntKind.TheVariants.{Int as int}
use Rattle.cil_base.specs.declared.numbers.TypeId.{TypeId}
use Rattle.cil_base.specs.declared.operators.BinOp.{BinOp}
use Rattle.cil_base.specs.declared.operators.BinOp.TheVariants.{Add, Sub, Lt, Gt, Le, Ge, Eq, Ne}
use Rattle.cil_base.specs.declared.operators.UnOp.{UnOp}
use Rattle.cil_base.specs.declared.operators.UnOp.TheVariants.{Neg, Compl, Not as LogicalNot}
use Rattle.cil_base.specs.Integer.{long_of}
use Rattle.cil_base.specs.Arithmetic.{is_shift}
use Rattle.type_graph.specs.declared.nodes.Quals.{Quals}
use Rattle.type_graph.specs.Shapes.{Shape, VoidType, IntType, PtrType, ArrayType, FuncType, AggType, shape}
use Rattle.type_graph.specs.Arena.{Graph, complete_shape}
use Rattle.byte_mem.specs.Steps.{◌>>=◌}
use Rattle.cil_tree.specs.Tree.{Exp, Value as ValueOf, Un, Bin, Cast, AddrOf, StartOf, Lval}
use Rattle.cil_tree.specs.Typing.{Scope, type_of, place_type, is_scalar, is_comparison, names_enum, binary_type, unary_type, cast_type, read_type, address_type, start_type, forward_type, backward_type, is_wide, pointer_to, same_shape, pointers_type, is_void}
use Rattle.typed_values.specs.Values.{scalar_kind, aggregate_kind}
use Rattle.cil_semantics.specs.Values.{size_in, scalar_in}
use Rattle.cil_check.specs.declared.seen.Seen.{Seen}
use Rattle.cil_check.specs.Seen.{seen_shape, IsThere, told, is_other}
use Rattle.cil_machine.specs.declared.terms.Term.{Term, Load, Unary', Arithmetic', Shift', Address}
use Rattle.cil_machine.specs.declared.resolution.Class.{Class}
use Rattle.cil_machine.specs.declared.resolution.Class.TheVariants.{Shift}
use Rattle.cil_machine.specs.declared.resolution.Typed.{Typed}
use Rattle.cil_machine.specs.declared.resolution.TypedSpot.{TypedSpot}
use Rattle.cil_machine.specs.Resolution.{Means}
use Rattle.cil_machine.specs.Typed.{IsTyped, IsPlaced, IsClass}
use Rattle.cil_machine.proofs.Meanings.{means_arithmetic, means_left_shift, means_right_shift, means_nothing, means_no_scalar, means_value, means_address, means_start, means_minus, means_complement, type_is}

-- a place without a type has no value and no address
pub placed_none : (c : Scope) (es : List ℕ) (p : Lval) (place : TypedSpot) → IsPlaced c es p place → place.ty ≡ None → place_type c p ≡ None
placed_none c es p place is e = sym is.told ∙ ap (option_map (λ (t : TypeId). shape c.program.graph.nodes t.0)) e

placed_some : (c : Scope) (es : List ℕ) (p : Lval) (place : TypedSpot) (t : TypeId) → IsPlaced c es p place → place.ty ≡ Some t → place_type c p ≡ Some (shape c.program.graph.nodes t.0)
placed_some c es p place t is e = sym is.told ∙ ap (option_map (λ (t : TypeId). shape c.program.graph.nodes t.0)) e

pub no_value : (c : Scope) (es : List ℕ) (p : Lval) (place : TypedSpot) → IsPlaced c es p place → place.ty ≡ None → type_of c (ValueOf p) ≡ None
no_value c es p place is e = ap (option_and_then (read_type c)) (placed_none c es p place is e)

pub no_address : (c : Scope) (es : List ℕ) (p : Lval) (place : TypedSpot) → IsPlaced c es p place → place.ty ≡ None → type_of c (AddrOf p) ≡ None
no_address c es p place is e = ap (option_and_then address_type) (placed_none c es p place is e)

pub no_start : (c : Scope) (es : List ℕ) (p : Lval) (place : TypedSpot) → IsPlaced c es p place → place.ty ≡ None → type_of c (StartOf p) ≡ None
no_start c es p place is e = ap (option_and_then start_type) (placed_none c es p place is e)

pub typed_value : (c : Scope) (es : List ℕ) (p : Lval) (place : TypedSpot) (t : TypeId) (o : Option Seen) → IsPlaced c es p place → place.ty ≡ Some t
    → told c.program.graph o ≡ read_type c (shape c.program.graph.nodes t.0) → IfSome o (IsThere c.program.graph) → IsTyped c es (ValueOf p) (record { term = Load place.spot; ty = o })
typed_value c es p place t o is e type there = record {
  told = type ∙ ap (option_and_then (read_type c)) (sym (placed_some c es p place t is e));
  there = there;
  means = means_value c es p place.spot (shape c.program.graph.nodes t.0) (placed_some c es p place t is e) is.means;
}

pub typed_address : (c : Scope) (es : List ℕ) (p : Lval) (place : TypedSpot) (t : TypeId) (o : Option Seen) → IsPlaced c es p place → place.ty ≡ Some t
    → told c.program.graph o ≡ address_type (shape c.program.graph.nodes t.0) → IfSome o (IsThere c.program.graph) → IsTyped c es (AddrOf p) (record { term = Address place.spot; ty = o })
typed_address c es p place t o is e type there = record {
  told = type ∙ ap (option_and_then address_type) (sym (placed_some c es p place t is e));
  there = there;
  means = means_address c es p place.spot (shape c.program.graph.nodes t.0) (placed_some c es p place t is e) is.means;
}

pub typed_start : (c : Scope) (es : List ℕ) (p : Lval) (place : TypedSpot) (t : TypeId) (o : Option Seen) → IsPlaced c es p place → place.ty ≡ Some t
    → told c.program.graph o ≡ start_type (shape c.program.graph.nodes t.0) → IfSome o (IsThere c.program.graph) → IsTyped c es (StartOf p) (record { term = Address place.spot; ty = o })
typed_start c es p place t o is e type there = record {
  told = type ∙ ap (option_and_then start_type) (sym (placed_some c es p place t is e));
  there = there;
  means = means_start c es p place.spot (shape c.program.graph.nodes t.0) (placed_some c es p place t is e) is.means;
}

-- unary operators
no_unary : (c : Scope) (es : List ℕ) (op : UnOp) (e : Exp) (s : Shape) (t : Term) → type_of c e ≡ Some s → unary_type c op s ≡ None → Means c es (Un op e) t
no_unary c es op e s t is apart = means_nothing c es (Un op e) t (ap (option_and_then (unary_type c op)) is ∙ apart)

pub means_neg : (c : Scope) (es : List ℕ) (e : Exp) (t : Term) (p : _) (s : Shape) → type_of c e ≡ Some s → Means c es e t → Means c es (Un Neg e) (Unary' Neg p t)
means_neg c es e t p (IntType kind) is means = means_minus c es e t p kind is means
means_neg c es e t p VoidType is means = no_unary c es Neg e VoidType (Unary' Neg p t) is refl
means_neg c es e t p (PtrType q to) is means = no_unary c es Neg e (PtrType q to) (Unary' Neg p t) is refl
means_neg c es e t p (ArrayType q to bound) is means = no_unary c es Neg e (ArrayType q to bound) (Unary' Neg p t) is refl
means_neg c es e t p (FuncType ret params proto variadic) is means = no_unary c es Neg e (FuncType ret params proto variadic) (Unary' Neg p t) is refl
means_neg c es e t p (AggType a) is means = no_unary c es Neg e (AggType a) (Unary' Neg p t) is refl

pub means_compl : (c : Scope) (es : List ℕ) (e : Exp) (t : Term) (p : _) (s : Shape) → type_of c e ≡ Some s → Means c es e t → Means c es (Un Compl e) (Unary' Compl p t)
means_compl c es e t p (IntType kind) is means = means_complement c es e t p kind is means
means_compl c es e t p VoidType is means = no_unary c es Compl e VoidType (Unary' Compl p t) is refl
means_compl c es e t p (PtrType q to) is means = no_unary c es Compl e (PtrType q to) (Unary' Compl p t) is refl
means_compl c es e t p (ArrayType q to bound) is means = no_unary c es Compl e (ArrayType q to bound) (Unary' Compl p t) is refl
means_compl c es e t p (FuncType ret params proto variadic) is means = no_unary c es Compl e (FuncType ret params proto variadic) (Unary' Compl p t) is refl
means_compl c es e t p (AggType a) is means = no_unary c es Compl e (AggType a) (Unary' Compl p t) is refl

pub some-none : {A X : Type 0} (a : A) → Some a ≡ None → X
some-none a e = absurd (cc)

-- what is no scalar is not tested
pub not_scalar : (g : Graph) (s : Shape) → scalar_in g s ≡ None → is_scalar g s ≡ false
not_scalar g VoidType e = refl
not_scalar g (IntType kind) e = some-none _ e
not_scalar g (PtrType q to) e = some-none _ e
not_scalar g (ArrayType q to bound) e = refl
not_scalar g (FuncType ret params proto variadic) e = refl
not_scalar g (AggType a) e = by (names_enum g a) refl e
  where
    by : (b : Bool) → names_enum g a ≡ b → (aggregate_kind b (size_in g (AggType a)) >>= scalar_kind) ≡ None → b ≡ false
    by true is e = some-none _ e
    by false is e = refl

pub means_not_nothing : (c : Scope) (es : List ℕ) (e : Exp) (t : Term) (s : Shape) → type_of c e ≡ Some s → scalar_in c.program.graph s ≡ None → Means c es (Un LogicalNot e) t
means_not_nothing c es e t s is apart = no_unary c es LogicalNot e s t is (ap (λ b. if b then Some (IntType int) else None) (not_scalar c.program.graph s apart))

-- an operand with a type
pub typed_some : (c : Scope) (es : List ℕ) (e : Exp) (r : Typed) (t : Seen) → IsTyped c es e r → r.ty ≡ Some t → type_of c e ≡ Some (seen_shape c.program.graph t)
typed_some c es e r t is h = sym is.told ∙ ap (told c.program.graph) h

pub typed_none : (c : Scope) (es : List ℕ) (e : Exp) (r : Typed) → IsTyped c es e r → r.ty ≡ None → type_of c e ≡ None
typed_none c es e r is h = sym is.told ∙ ap (told c.program.graph) h

pub no_operand : (c : Scope) (es : List ℕ) (op : UnOp) (e : Exp) (r : Typed) → IsTyped c es e r → r.ty ≡ None → type_of c (Un op e) ≡ None
no_operand c es op e r is h = ap (option_and_then (unary_type c op)) (typed_none c es e r is h)

pub typed_unary : (c : Scope) (es : List ℕ) (op : UnOp) (e : Exp) (r : Typed) (t : Seen) (u : Term) (o : Option Seen) → IsTyped c es e r → r.ty ≡ Some t
    → told c.program.graph o ≡ unary_type c op (seen_shape c.program.graph t) → IfSome o (IsThere c.program.graph)
    → (type_of c e ≡ Some (seen_shape c.program.graph t) → Means c es e r.term → Means c es (Un op e) u) → IsTyped c es (Un op e) (record { term = u; ty = o })
typed_unary c es op e r t u o is h type there means = record {
  told = type ∙ ap (option_and_then (unary_type c op)) (sym (typed_some c es e r t is h));
  there = there;
  means = means (typed_some c es e r t is h) is.means;
}

-- two operands
pub no_left : (c : Scope) (es : List ℕ) (op : BinOp) (e f : Exp) (r : Typed) → IsTyped c es e r → r.ty ≡ None → type_of c (Bin op e f) ≡ None
no_left c es op e f r is h = ap (option_and_then (λ s. option_and_then (binary_type c op s) (type_of c f))) (typed_none c es e r is h)

without_right : {A B C : Type 0} (o : Option A) (u : Option B) (g : A → B → Option C) → u ≡ None → option_and_then (λ a. option_and_then (g a) u) o ≡ None
without_right None u g h = refl
without_right (Some a) u g h = ap (option_and_then (g a)) h

pub no_right : (c : Scope) (es : List ℕ) (op : BinOp) (e f : Exp) (r : Typed) → IsTyped c es f r → r.ty ≡ None → type_of c (Bin op e f) ≡ None
no_right c es op e f r is h = without_right (type_of c e) (type_of c f) (binary_type c op) (typed_none c es f r is h)

pub typed_binary : (c : Scope) (es : List ℕ) (op : BinOp) (e f : Exp) (l r : Typed) (s t : Seen) (u : Term) (o : Option Seen) → IsTyped c es e l → l.ty ≡ Some s → IsTyped c es f r → r.ty ≡ Some t
    → told c.program.graph o ≡ binary_type c op (seen_shape c.program.graph s) (seen_shape c.program.graph t) → IfSome o (IsThere c.program.graph)
    → (type_of c e ≡ Some (seen_shape c.program.graph s) → type_of c f ≡ Some (seen_shape c.program.graph t) → Means c es e l.term → Means c es f r.term → Means c es (Bin op e f) u)
    → IsTyped c es (Bin op e f) (record { term = u; ty = o })
typed_binary c es op e f l r s t u o is h also k type there means = record {
  told = type ∙ sym (type_is c op e f (seen_shape c.program.graph s) (seen_shape c.program.graph t) (typed_some c es e l s is h) (typed_some c es f r t also k));
  there = there;
  means = means (typed_some c es e l s is h) (typed_some c es f r t also k) is.means also.means;
}

-- operators that such operands have not
no_binary : (c : Scope) (es : List ℕ) (op : BinOp) (e f : Exp) (s t : Shape) (u : Term) → type_of c e ≡ Some s → type_of c f ≡ Some t → binary_type c op s t ≡ None → Means c es (Bin op e f) u
no_binary c es op e f s t u is also apart = means_nothing c es (Bin op e f) u (type_is c op e f s t is also ∙ apart)

pub other_left : (c : Scope) (es : List ℕ) (op : BinOp) (e f : Exp) (s t : Shape) (u : Term) → is_other s ≡ true → type_of c e ≡ Some s → type_of c f ≡ Some t → Means c es (Bin op e f) u
other_left c es op e f VoidType t u other is also = no_binary c es op e f VoidType t u is also refl
other_left c es op e f (IntType k) t u other is also = absurd (cc)
other_left c es op e f (PtrType q to) t u other is also = absurd (cc)
other_left c es op e f (ArrayType q to bound) t u other is also = no_binary c es op e f (ArrayType q to bound) t u is also refl
other_left c es op e f (FuncType ret params proto variadic) t u other is also = no_binary c es op e f (FuncType ret params proto variadic) t u is also refl
other_left c es op e f (AggType a) t u other is also = no_binary c es op e f (AggType a) t u is also refl

right_none : (c : Scope) (op : BinOp) (s t : Shape) → is_other t ≡ true → binary_type c op s t ≡ None
right_none c op VoidType t other = refl
right_none c op (ArrayType q to bound) t other = refl
right_none c op (FuncType ret params proto variadic) t other = refl
right_none c op (AggType a) t other = refl
right_none c op (IntType k) VoidType other = refl
right_none c op (IntType k) (IntType l) other = absurd (cc)
right_none c op (IntType k) (PtrType q to) other = absurd (cc)
right_none c op (IntType k) (ArrayType q to bound) other = refl
right_none c op (IntType k) (FuncType ret params proto variadic) other = refl
right_none c op (IntType k) (AggType a) other = refl
right_none c op (PtrType p s) VoidType other = refl
right_none c op (PtrType p s) (IntType l) other = absurd (cc)
right_none c op (PtrType p s) (PtrType q to) other = absurd (cc)
right_none c op (PtrType p s) (ArrayType q to bound) other = refl
right_none c op (PtrType p s) (FuncType ret params proto variadic) other = refl
right_none c op (PtrType p s) (AggType a) other = refl

pub other_right : (c : Scope) (es : List ℕ) (op : BinOp) (e f : Exp) (s t : Shape) (u : Term) → is_other t ≡ true → type_of c e ≡ Some s → type_of c f ≡ Some t → Means c es (Bin op e f) u
other_right c es op e f s t u other is also = no_binary c es op e f s t u is also (right_none c op s t other)

-- operators over integers, one term for each class of operators
pub means_integers : (c : Scope) (es : List ℕ) (op : BinOp) (e f : Exp) (t u : Term) (p q : _) (k l : IntKind) → is_shift op ≡ false → is_comparison op ≡ false → type_of c e ≡ Some (IntType k) → type_of c f ≡ Some (IntType l)
    → Means c es e t → Means c es f u → Means c es (Bin op e f) (Arithmetic' op p t q u)
means_integers c es op e f t u p q k l no_shift no_test is also means means_too = means_arithmetic c es op e f t u p q k l is also no_shift no_test means means_too

-- a pointer and an integer, where the operator moves no pointer, or to what is incomplete
pub not_moving : (c : Scope) (es : List ℕ) (op : BinOp) (e f : Exp) (u : Term) (q : Quals) (to : Shape) (l : IntKind) → (op ≡ Add → ⊥) → (op ≡ Sub → ⊥) → type_of c e ≡ Some (PtrType q to) → type_of c f ≡ Some (IntType l) → Means c es (Bin op e f) u
not_moving c es op e f u q to l no_sum no_less is also = no_binary c es op e f (PtrType q to) (IntType l) u is also (by op no_sum no_less)
  where
    by : (op : BinOp) → (op ≡ Add → ⊥) → (op ≡ Sub → ⊥) → forward_type c op to l ≡ None
    by Add h k = absurd (h refl)
    by Sub h k = absurd (k refl)
    by op h k = refl

pub not_turned : (c : Scope) (es : List ℕ) (op : BinOp) (e f : Exp) (u : Term) (q : Quals) (to : Shape) (k : IntKind) → (op ≡ Add → ⊥) → type_of c e ≡ Some (IntType k) → type_of c f ≡ Some (PtrType q to) → Means c es (Bin op e f) u
not_turned c es op e f u q to k no_sum is also = no_binary c es op e f (IntType k) (PtrType q to) u is also (by op no_sum)
  where
    by : (op : BinOp) → (op ≡ Add → ⊥) → backward_type c op k to ≡ None
    by Add h = absurd (h refl)
    by op h = refl

not_wide : (b d : Bool) (s : Shape) → d ≡ false → (if b && d then Some s else None) ≡ None
not_wide true d s e = ap (λ d. if d then Some s else None) e
not_wide false d s e = refl

pub incomplete_sum : (c : Scope) (es : List ℕ) (e f : Exp) (u : Term) (q : Quals) (to : Shape) (l : IntKind) → complete_shape c.program.graph.aggs to ≡ false → type_of c e ≡ Some (PtrType q to) → type_of c f ≡ Some (IntType l) → Means c es (Bin Add e f) u
incomplete_sum c es e f u q to l no_size is also = no_binary c es Add e f (PtrType q to) (IntType l) u is also (not_wide (is_wide l) (complete_shape c.program.graph.aggs to) (pointer_to to) no_size)

pub incomplete_less : (c : Scope) (es : List ℕ) (e f : Exp) (u : Term) (q : Quals) (to : Shape) (l : IntKind) → complete_shape c.program.graph.aggs to ≡ false → type_of c e ≡ Some (PtrType q to) → type_of c f ≡ Some (IntType l) → Means c es (Bin Sub e f) u
incomplete_less c es e f u q to l no_size is also = no_binary c es Sub e f (PtrType q to) (IntType l) u is also (not_wide (is_wide l) (complete_shape c.program.graph.aggs to) (pointer_to to) no_size)

pub incomplete_turned : (c : Scope) (es : List ℕ) (e f : Exp) (u : Term) (q : Quals) (to : Shape) (k : IntKind) → complete_shape c.program.graph.aggs to ≡ false → type_of c e ≡ Some (IntType k) → type_of c f ≡ Some (PtrType q to) → Means c es (Bin Add e f) u
incomplete_turned c es e f u q to k no_size is also = no_binary c es Add e f (IntType k) (PtrType q to) u is also (not_wide (is_wide k) (complete_shape c.program.graph.aggs to) (pointer_to to) no_size)

-- two pointers, where the operator is none of theirs, or to what is incomplete
same_or_not : (b : Bool) (o : Option Shape) → o ≡ None → (if b then o else None) ≡ None
same_or_not true o e = e
same_or_not false o e = refl

pub not_related : (c : Scope) (es : List ℕ) (op : BinOp) (e f : Exp) (u : Term) (q r : Quals) (to from : Shape) → (op ≡ Sub → ⊥) → is_comparison op ≡ false → type_of c e ≡ Some (PtrType q to) → type_of c f ≡ Some (PtrType r from) → Means c es (Bin op e f) u
not_related c es op e f u q r to from no_less no_test is also = no_binary c es op e f (PtrType q to) (PtrType r from) u is also (same_or_not (same_shape (PtrType q to) (PtrType r from)) (pointers_type c op to) (by op no_less no_test))
  where
    by : (op : BinOp) → (op ≡ Sub → ⊥) → is_comparison op ≡ false → pointers_type c op to ≡ None
    by Sub h k = absurd (h refl)
    by Lt h k = absurd (cc)
    by Gt h k = absurd (cc)
    by Le h k = absurd (cc)
    by Ge h k = absurd (cc)
    by Eq h k = absurd (cc)
    by Ne h k = absurd (cc)
    by op h k = refl

pub incomplete_difference : (c : Scope) (es : List ℕ) (e f : Exp) (u : Term) (q r : Quals) (to from : Shape) → complete_shape c.program.graph.aggs to ≡ false → type_of c e ≡ Some (PtrType q to) → type_of c f ≡ Some (PtrType r from) → Means c es (Bin Sub e f) u
incomplete_difference c es e f u q r to from no_size is also = no_binary c es Sub e f (PtrType q to) (PtrType r from) u is also
    (same_or_not (same_shape (PtrType q to) (PtrType r from)) (pointers_type c Sub to) (ap (λ b. if b then Some (IntType (long_of c.program.graph.abi)) else None) no_size))

-- conversions
pub no_cast : (c : Scope) (es : List ℕ) (to : Option Shape) (e : Exp) (r : Typed) → IsTyped c es e r → r.ty ≡ None → type_of c (Cast to e) ≡ None
no_cast c es None e r is h = refl
no_cast c es (Some to) e r is h = ap (option_and_then (cast_type c to)) (typed_none c es e r is h)

pub typed_cast : (c : Scope) (es : List ℕ) (to : Seen) (e : Exp) (r : Typed) (t : Seen) (u : Term) (o : Option Seen) → IsTyped c es e r → r.ty ≡ Some t
    → told c.program.graph o ≡ cast_type c (seen_shape c.program.graph to) (seen_shape c.program.graph t) → IfSome o (IsThere c.program.graph)
    → (type_of c e ≡ Some (seen_shape c.program.graph t) → Means c es e r.term → Means c es (Cast (Some (seen_shape c.program.graph to)) e) u) → IsTyped c es (Cast (Some (seen_shape c.program.graph to)) e) (record { term = u; ty = o })
typed_cast c es to e r t u o is h type there means = record {
  told = type ∙ ap (option_and_then (cast_type c (seen_shape c.program.graph to))) (sym (typed_some c es e r t is h));
  there = there;
  means = means (typed_some c es e r t is h) is.means;
}

both_scalar : (g : Graph) (to s : Shape) → scalar_in g s ≡ None → (is_scalar g to && is_scalar g s) ≡ false
both_scalar g to s e = by (is_scalar g to) (is_scalar g s) (not_scalar g s e)
  where
    by : (a b : Bool) → b ≡ false → (a && b) ≡ false
    by true b e = e
    by false b e = refl

-- what is no scalar is converted to void alone, which is none either
pub means_cast_nothing : (c : Scope) (es : List ℕ) (to s : Shape) (e : Exp) (u : Term) → type_of c e ≡ Some s → scalar_in c.program.graph s ≡ None → Means c es (Cast (Some to) e) u
means_cast_nothing c es to s e u is apart = means_no_scalar c es (Cast (Some to) e) u (ap (λ o. option_and_then (cast_type c to) o >>= scalar_in c.program.graph) is ∙ by to (is_scalar c.program.graph to && is_scalar c.program.graph s) (both_scalar c.program.graph to s apart))
  where
    by : (to : Shape) (b : Bool) → b ≡ false → ((if is_void to || b then Some to else None) >>= scalar_in c.program.graph) ≡ None
    by VoidType b e = refl
    by (IntType k) b e = ap (λ b. (if b then Some (IntType k) else None) >>= scalar_in c.program.graph) e
    by (PtrType q t) b e = ap (λ b. (if b then Some (PtrType q t) else None) >>= scalar_in c.program.graph) e
    by (ArrayType q t bound) b e = ap (λ b. (if b then Some (ArrayType q t bound) else None) >>= scalar_in c.program.graph) e
    by (FuncType ret params proto variadic) b e = ap (λ b. (if b then Some (FuncType ret params proto variadic) else None) >>= scalar_in c.program.graph) e
    by (AggType a) b e = ap (λ b. (if b then Some (AggType a) else None) >>= scalar_in c.program.graph) e

-- a shift by its direction
pub means_shift : (c : Scope) (es : List ℕ) (op : BinOp) (left : Bool) (e f : Exp) (t u : Term) (p q : _) (k l : IntKind) → IsClass op (Shift left) → type_of c e ≡ Some (IntType k) → type_of c f ≡ Some (IntType l)
    → Means c es e t → Means c es f u → Means c es (Bin op e f) (Shift' left l p t q u)
means_shift c es op true e f t u p q k l class is also means means_too = subst (λ op. Means c es (Bin op e f) (Shift' true l p t q u)) (sym class) (means_left_shift c es e f t u p q k l is also means means_too)
means_shift c es op false e f t u p q k l class is also means means_too = subst (λ op. Means c es (Bin op e f) (Shift' false l p t q u)) (sym class) (means_right_shift c es e f t u p q k l is also means means_too)

-- a class that is told apart
pub class_told : (op : BinOp) (a b : Class) → a ≡ b → IsClass op a → IsClass op b
class_told op a b same is = subst (IsClass op) same is

pub no_cast_type : (c : Scope) (to : Option Shape) (e : Exp) → None ≡ to → type_of c (Cast to e) ≡ None
no_cast_type c to e is = ap (option_and_then (λ t. option_and_then (cast_type c t) (type_of c e))) (sym is)
