-- Device: terms are those of expressions, operator by operator.
use Rattle.std.proofs.Common.{◌≡◌, ℕ, ℤ, pos, Bool, true, false, ◌&&◌, ◌||◌, not, int_lt, int_le, List, Option, Some, None, option_map, refl, sym, ap, ◌∙◌, subst}
use Rattle.std.specs.Prelude.{if◌then◌else◌}
use Rattle.std.specs.Option.{option_and_then}
use Rattle.std.specs.Ordering.{int_eq}
use Rattle.cil_base.specs.declared.kinds.IntKind.{IntKind}
use Rattle.cil_base.specs.declared.kinds.IntKind.TheVariants.{Int as int}
use Rattle.cil_base.specs.declared.operators.BinOp.{BinOp}
use Rattle.cil_base.specs.declared.operators.BinOp.TheVariants.{Mul, Div, Rem, Add, Sub, Shl, Shr, Lt, Gt, Le, Ge, Eq, Ne, And, Xor, Or}
use Rattle.cil_base.specs.declared.operators.UnOp.{UnOp}
use Rattle.cil_base.specs.declared.operators.UnOp.TheVariants.{Neg, Compl, Not as LogicalNot}
use Rattle.cil_base.specs.Integer.{wrapped, long_of, has_kind}
use Rattle.cil_base.specs.Arithmetic.{fits, told, is_shift, arith_of}
use Rattle.type_graph.specs.declared.nodes.Quals.{Quals}
use Rattle.type_graph.specs.Shapes.{Shape, VoidType, IntType, PtrType, ArrayType, FuncType, AggType}
use Rattle.type_graph.specs.Arena.{Graph, complete_shape}
use Rattle.byte_mem.specs.declared.values.Scalar.{Scalar}
use Rattle.byte_mem.specs.declared.values.Scalar.TheVariants.{Int as OfKind, Ptr as OfPointer}
use Rattle.byte_mem.specs.declared.values.Value.{Value}
use Rattle.byte_mem.specs.declared.values.Value.TheVariants.{Int}
use Rattle.byte_mem.specs.Steps.{◌>>=◌, only_if}
use Rattle.byte_mem.specs.declared.pointers.Pointer.{Pointer}
use Rattle.byte_mem.specs.Memory.{Memory, load}
use Rattle.byte_mem.specs.Operator.{truth, converted, computed, pointer_sum, pointer_less, pointer_difference, compared, number_in, pointer_in, unary}
use Rattle.execution.specs.Data.{Kind, OfVoid, OfScalar, OfAggregate, Datum, Single, load_datum, load_from}
use Rattle.cil_tree.specs.Tree.{Exp, Const, Value as ValueOf, Un, Bin, Cast, AddrOf, StartOf, Lval}
use Rattle.cil_base.specs.Kinds.{same_kind}
use Rattle.cil_tree.specs.Typing.{Scope, type_of, place_type, is_wide, is_scalar, is_comparison, integer_type, binary_type, unary_type, cast_type, pointers_type, is_function, same_shape, is_void, read_type, is_readable, address_type, start_type, pointer_to}
use Rattle.cil_base.proofs.KindLaws.{kind_told, kind_itself}
use Rattle.cil_machine.proofs.FitLaws.{fits_is}
use Rattle.typed_values.specs.Values.{scalar_kind, single_in, moved_value, summed_value, pointers_value}
use Rattle.cil_semantics.specs.Values.{Activation, sizes_of, scalar_in, kind_in, size_in, value, scalar_value, place, unary_value, binary_value, cast_value}
use Rattle.cil_machine.specs.declared.terms.Term.{Term, Number, Load, Not', Unary', Arithmetic', Shift', Compare', Sum', Less', Difference', Relation', Convert', Address}
use Rattle.cil_machine.specs.declared.terms.Spot.{Spot}
use Rattle.cil_machine.specs.Terms.{number, loaded, number_from, told_from, term_value, compared_number, difference_at}
use Rattle.cil_machine.specs.Resolution.{activation, scalar_type, Means, MeansPlace}

pub none-some : {A X : Type 0} (a : A) → None ≡ Some a → X
none-some a e = absurd (cc)

pub of_some : {A : Type 0} (a b : A) → Some a ≡ Some b → a ≡ b
of_some a b e = cc

-- both operands
pub both : {A B C : Type 0} (f : A → B → Option C) (o p : Option A) (u v : Option B) → o ≡ p → u ≡ v → (o >>= λ a. u >>= f a) ≡ (p >>= λ a. v >>= f a)
both f o p u v e d = ap (λ u. o >>= λ a. u >>= f a) d ∙ ap (λ o. o >>= λ a. v >>= f a) e

turned : {A B C : Type 0} (f : A → B → Option C) (o : Option A) (u : Option B) → (o >>= λ a. u >>= f a) ≡ (u >>= λ b. o >>= λ a. f a b)
turned f None None = refl
turned f None (Some b) = refl
turned f (Some a) None = refl
turned f (Some a) (Some b) = refl

one_single : {A : Type 0} (f : A → Option Value) (o : Option A) → ((o >>= λ a. option_map Single (f a)) >>= single_in) ≡ (o >>= f)
one_single f None = refl
one_single f (Some a) = by (f a)
  where
    by : (o : Option Value) → (option_map Single o >>= single_in) ≡ o
    by None = refl
    by (Some v) = refl

two_single : {A B : Type 0} (f : A → B → Option Value) (o : Option A) (u : Option B) → ((o >>= λ a. u >>= λ b. option_map Single (f a b)) >>= single_in) ≡ (o >>= λ a. u >>= f a)
two_single f None u = refl
two_single f (Some a) u = one_single (f a) u

-- the value of a unary operator, where the type of its operand is known
unary_is : (a : Activation) (m : Memory) (op : UnOp) (e : Exp) (s : Shape) → type_of a.scope e ≡ Some s → scalar_value a m (Un op e) ≡ (scalar_value a m e >>= unary_value a.scope.program.graph m op s)
unary_is a m op e s is = ap (λ o. (o >>= λ s. value a m e >>= single_in >>= λ v. option_map Single (unary_value a.scope.program.graph m op s v)) >>= single_in) is ∙ one_single (unary_value a.scope.program.graph m op s) (value a m e >>= single_in)

-- that of a binary operator
binary_is : (a : Activation) (m : Memory) (op : BinOp) (l r : Exp) (s t : Shape) → type_of a.scope l ≡ Some s → type_of a.scope r ≡ Some t
    → scalar_value a m (Bin op l r) ≡ (scalar_value a m l >>= λ v. scalar_value a m r >>= binary_value a.scope.program.graph m op s t v)
binary_is a m op l r s t is also =
    ap (λ o. (o >>= λ s. type_of a.scope r >>= λ t. value a m l >>= single_in >>= λ v. value a m r >>= single_in >>= λ w. option_map Single (binary_value a.scope.program.graph m op s t v w)) >>= single_in) is
    ∙ (ap (λ o. (o >>= λ t. value a m l >>= single_in >>= λ v. value a m r >>= single_in >>= λ w. option_map Single (binary_value a.scope.program.graph m op s t v w)) >>= single_in) also
    ∙ two_single (binary_value a.scope.program.graph m op s t) (value a m l >>= single_in) (value a m r >>= single_in))

-- what has no type is nothing's
pub means_nothing : (c : Scope) (es : List ℕ) (e : Exp) (t : Term) → type_of c e ≡ None → Means c es e t
means_nothing c es e t is = record { at = λ s h m act. none-some s (ap (λ o. o >>= scalar_in c.program.graph) (sym is) ∙ h) }

-- a type that is not scalar
pub means_no_scalar : (c : Scope) (es : List ℕ) (e : Exp) (t : Term) → scalar_type c e ≡ None → Means c es e t
means_no_scalar c es e t is = record { at = λ s h m act. none-some s (sym is ∙ h) }

-- `!`
told_int : (c : Scope) (b : Bool) → number c.program.graph.abi (OfKind int) (told b) ≡ Some (Int (told b))
told_int c true = refl
told_int c false = refl

told_is : (c : Scope) (o : Option Bool) → told_from c.program.graph.abi (OfKind int) o ≡ (o >>= λ h. Some (Int (told h)))
told_is c None = refl
told_is c (Some b) = told_int c b

int_alone : (g : Graph) (b : Bool) (s : Scalar) → ((if b then Some (IntType int) else None) >>= scalar_in g) ≡ Some s → OfKind int ≡ s
int_alone g true s h = of_some (OfKind int) s h
int_alone g false s h = none-some s h

pub means_not : (c : Scope) (es : List ℕ) (e : Exp) (t : Term) (p : _) (of : Scalar) (s : Shape) → type_of c e ≡ Some s → scalar_in c.program.graph s ≡ Some of → Means c es e t → Means c es (Un LogicalNot e) (Not' of p t)
means_not c es e t p of s is scalar means = record { at = at }
  where
    at : (u : Scalar) → scalar_type c (Un LogicalNot e) ≡ Some u → (m : Memory) (act : ℕ) → term_value c.program.graph.abi m act u (Not' of p t) ≡ scalar_value (activation c es act) m (Un LogicalNot e)
    at u h m act =
        let asked : OfKind int ≡ u = int_alone c.program.graph (is_scalar c.program.graph s) u (ap (λ o. option_and_then (unary_type c LogicalNot) o >>= scalar_in c.program.graph) (sym is) ∙ h) in
        let same : term_value c.program.graph.abi m act of t ≡ scalar_value (activation c es act) m e = means.at of (ap (λ o. o >>= scalar_in c.program.graph) is ∙ scalar) m act in
        subst (λ u. term_value c.program.graph.abi m act u (Not' of p t) ≡ scalar_value (activation c es act) m (Un LogicalNot e)) asked
        (ap (λ o. o >>= λ v. told_from c.program.graph.abi (OfKind int) (option_map not (truth m of v))) same
        ∙ (alike (scalar_value (activation c es act) m e)
        ∙ sym (unary_is (activation c es act) m LogicalNot e s is)))
      where
        step : (v : Value) (o : Option Bool) → told_from c.program.graph.abi (OfKind int) (option_map not o) ≡ (o >>= λ holds. Some (Int (told (not holds))))
        step v None = refl
        step v (Some b) = told_int c (not b)

        alike : (o : Option Value) → (o >>= λ v. told_from c.program.graph.abi (OfKind int) (option_map not (truth m of v))) ≡ (o >>= unary_value c.program.graph m LogicalNot s)
        alike None = refl
        alike (Some v) = step v (truth m of v) ∙ ap (λ o. o >>= λ t. truth m t v >>= λ holds. Some (Int (told (not holds)))) (sym scalar)

-- `-` and `~`

wide_alone : (g : Graph) (b : Bool) (kind : IntKind) (s : Scalar) → ((if b then Some (IntType kind) else None) >>= scalar_in g) ≡ Some s → OfKind kind ≡ s
wide_alone g true kind s h = of_some (OfKind kind) s h
wide_alone g false kind s h = none-some s h

pub means_minus : (c : Scope) (es : List ℕ) (e : Exp) (t : Term) (p : _) (kind : IntKind) → type_of c e ≡ Some (IntType kind) → Means c es e t → Means c es (Un Neg e) (Unary' Neg p t)
means_minus c es e t p kind is means = record {
  at = λ u h m act.
      let asked : OfKind kind ≡ u = wide_alone c.program.graph (is_wide kind) kind u (ap (λ o. option_and_then (unary_type c Neg) o >>= scalar_in c.program.graph) (sym is) ∙ h) in
      subst (λ u. term_value c.program.graph.abi m act u (Unary' Neg p t) ≡ scalar_value (activation c es act) m (Un Neg e)) asked
      (ap (λ o. o >>= unary Neg kind) (means.at (OfKind kind) (ap (λ o. o >>= scalar_in c.program.graph) is) m act) ∙ sym (unary_is (activation c es act) m Neg e (IntType kind) is));
}

pub means_complement : (c : Scope) (es : List ℕ) (e : Exp) (t : Term) (p : _) (kind : IntKind) → type_of c e ≡ Some (IntType kind) → Means c es e t → Means c es (Un Compl e) (Unary' Compl p t)
means_complement c es e t p kind is means = record {
  at = λ u h m act.
      let asked : OfKind kind ≡ u = wide_alone c.program.graph (is_wide kind) kind u (ap (λ o. option_and_then (unary_type c Compl) o >>= scalar_in c.program.graph) (sym is) ∙ h) in
      subst (λ u. term_value c.program.graph.abi m act u (Unary' Compl p t) ≡ scalar_value (activation c es act) m (Un Compl e)) asked
      (ap (λ o. o >>= unary Compl kind) (means.at (OfKind kind) (ap (λ o. o >>= scalar_in c.program.graph) is) m act) ∙ sym (unary_is (activation c es act) m Compl e (IntType kind) is));
}

-- the type of an operator, where those of its operands are known
pub type_is : (c : Scope) (op : BinOp) (e f : Exp) (s t : Shape) → type_of c e ≡ Some s → type_of c f ≡ Some t → type_of c (Bin op e f) ≡ binary_type c op s t
type_is c op e f s t is also = ap (λ o. option_and_then (λ s. option_and_then (binary_type c op s) (type_of c f)) o) is ∙ ap (option_and_then (binary_type c op s)) also

-- operators over two integers
arith_told : (g : Graph) (op : BinOp) (k l : IntKind) (s : Scalar) → (integer_type op k l >>= scalar_in g) ≡ Some s → is_shift op ≡ false → (OfKind (if is_comparison op then int else k) ≡ s) × (k ≡ l)
arith_told g op k l s h apart = by (is_wide k) (is_wide l) (is_shift op) (same_kind k l) refl apart h
  where
    by : (a b shift d : Bool) → same_kind k l ≡ d → shift ≡ false → ((if a && (b && (shift || d)) then Some (IntType (if is_comparison op then int else k)) else None) >>= scalar_in g) ≡ Some s
        → (OfKind (if is_comparison op then int else k) ≡ s) × (k ≡ l)
    by true true false true e apart h = (of_some (OfKind (if is_comparison op then int else k)) s h, kind_told k l e)
    by true true false false e apart h = none-some s h
    by true true true d e apart h = absurd (cc)
    by true false shift d e apart h = none-some s h
    by false b shift d e apart h = none-some s h

-- those of which both operands and the result are of one kind
pub means_arithmetic : (c : Scope) (es : List ℕ) (op : BinOp) (e f : Exp) (t u : Term) (p q : _) (k l : IntKind) → type_of c e ≡ Some (IntType k) → type_of c f ≡ Some (IntType l) → is_shift op ≡ false → is_comparison op ≡ false
    → Means c es e t → Means c es f u → Means c es (Bin op e f) (Arithmetic' op p t q u)
means_arithmetic c es op e f t u p q k l is also no_shift apart_too means means_too = record { at = at }
  where
    at : (s : Scalar) → scalar_type c (Bin op e f) ≡ Some s → (m : Memory) (act : ℕ) → term_value c.program.graph.abi m act s (Arithmetic' op p t q u) ≡ scalar_value (activation c es act) m (Bin op e f)
    at s h m act =
        let kinds : (OfKind (if is_comparison op then int else k) ≡ s) × (k ≡ l) =
        arith_told c.program.graph op k l s (ap (λ o. o >>= scalar_in c.program.graph) (sym (type_is c op e f (IntType k) (IntType l) is also)) ∙ h) no_shift in
        let asked : OfKind k ≡ s = ap (λ (b : Bool). OfKind (if b then int else k)) (sym apart_too) ∙ kinds.0 in
        subst (λ s. term_value c.program.graph.abi m act s (Arithmetic' op p t q u) ≡ scalar_value (activation c es act) m (Bin op e f)) asked
        (both (computed op k) (term_value c.program.graph.abi m act (OfKind k) t) (scalar_value (activation c es act) m e) (term_value c.program.graph.abi m act (OfKind k) u) (scalar_value (activation c es act) m f)
        (means.at (OfKind k) (ap (λ o. o >>= scalar_in c.program.graph) is) m act)
        (subst (λ (j : IntKind). term_value c.program.graph.abi m act (OfKind j) u ≡ scalar_value (activation c es act) m f) (sym kinds.1) (means_too.at (OfKind l) (ap (λ o. o >>= scalar_in c.program.graph) also) m act))
        ∙ sym (binary_is (activation c es act) m op e f (IntType k) (IntType l) is also))

-- comparisons
compared_told : (c : Scope) (op : BinOp) (k : IntKind) (v w : Value) → is_comparison op ≡ true → number_from c.program.graph.abi (OfKind int) (compared_number op k v w) ≡ computed op k v w
compared_told c op k v w test = by (number_in v) (number_in w)
  where
    at : (op : BinOp) (a b : ℤ) → is_comparison op ≡ true → number_from c.program.graph.abi (OfKind int) (option_map Int (arith_of op k a b) >>= number_in) ≡ option_map Int (arith_of op k a b)
    at Lt a b test = told_int c (int_lt a b)
    at Gt a b test = told_int c (int_lt b a)
    at Le a b test = told_int c (int_le a b)
    at Ge a b test = told_int c (int_le b a)
    at Eq a b test = told_int c (int_eq a b)
    at Ne a b test = told_int c (not (int_eq a b))
    at Mul a b test = absurd (cc)
    at Div a b test = absurd (cc)
    at Rem a b test = absurd (cc)
    at Add a b test = absurd (cc)
    at Sub a b test = absurd (cc)
    at Shl a b test = absurd (cc)
    at Shr a b test = absurd (cc)
    at And a b test = absurd (cc)
    at Xor a b test = absurd (cc)
    at Or a b test = absurd (cc)

    by : (o u : Option ℤ) → number_from c.program.graph.abi (OfKind int) ((o >>= λ a. u >>= λ b. option_map Int (arith_of op k a b)) >>= number_in) ≡ (o >>= λ a. u >>= λ b. option_map Int (arith_of op k a b))
    by None u = refl
    by (Some a) None = refl
    by (Some a) (Some b) = at op a b test

no_shifts : (op : BinOp) → is_comparison op ≡ true → is_shift op ≡ false
no_shifts Shl test = absurd (cc)
no_shifts Shr test = absurd (cc)
no_shifts Mul test = refl
no_shifts Div test = refl
no_shifts Rem test = refl
no_shifts Add test = refl
no_shifts Sub test = refl
no_shifts Lt test = refl
no_shifts Gt test = refl
no_shifts Le test = refl
no_shifts Ge test = refl
no_shifts Eq test = refl
no_shifts Ne test = refl
no_shifts And test = refl
no_shifts Xor test = refl
no_shifts Or test = refl

pub means_comparison : (c : Scope) (es : List ℕ) (op : BinOp) (e f : Exp) (t u : Term) (p q : _) (k l : IntKind) → type_of c e ≡ Some (IntType k) → type_of c f ≡ Some (IntType l) → is_comparison op ≡ true
    → Means c es e t → Means c es f u → Means c es (Bin op e f) (Compare' op k p t q u)
means_comparison c es op e f t u p q k l is also test means means_too = record { at = at }
  where
    at : (s : Scalar) → scalar_type c (Bin op e f) ≡ Some s → (m : Memory) (act : ℕ) → term_value c.program.graph.abi m act s (Compare' op k p t q u) ≡ scalar_value (activation c es act) m (Bin op e f)
    at s h m act =
        let kinds : (OfKind (if is_comparison op then int else k) ≡ s) × (k ≡ l) =
        arith_told c.program.graph op k l s (ap (λ o. o >>= scalar_in c.program.graph) (sym (type_is c op e f (IntType k) (IntType l) is also)) ∙ h) (no_shifts op test) in
        let asked : OfKind int ≡ s = ap (λ (b : Bool). OfKind (if b then int else k)) (sym test) ∙ kinds.0 in
        subst (λ s. term_value c.program.graph.abi m act s (Compare' op k p t q u) ≡ scalar_value (activation c es act) m (Bin op e f)) asked
        (both (λ v w. number_from c.program.graph.abi (OfKind int) (compared_number op k v w)) (term_value c.program.graph.abi m act (OfKind k) t) (scalar_value (activation c es act) m e) (term_value c.program.graph.abi m act (OfKind k) u) (scalar_value (activation c es act) m f)
        (means.at (OfKind k) (ap (λ o. o >>= scalar_in c.program.graph) is) m act)
        (subst (λ (j : IntKind). term_value c.program.graph.abi m act (OfKind j) u ≡ scalar_value (activation c es act) m f) (sym kinds.1) (means_too.at (OfKind l) (ap (λ o. o >>= scalar_in c.program.graph) also) m act))
        ∙ (each (scalar_value (activation c es act) m e) (scalar_value (activation c es act) m f)
        ∙ sym (binary_is (activation c es act) m op e f (IntType k) (IntType l) is also)))
      where
        each : (o u : Option Value) → (o >>= λ v. u >>= λ w. number_from c.program.graph.abi (OfKind int) (compared_number op k v w)) ≡ (o >>= λ v. u >>= computed op k v)
        each None u = refl
        each (Some v) None = refl
        each (Some v) (Some w) = compared_told c op k v w test

-- shifts
shift_kind : (g : Graph) (k : IntKind) (b : Bool) (s : Scalar) → ((if b then Some (IntType k) else None) >>= scalar_in g) ≡ Some s → OfKind k ≡ s
shift_kind g k true s h = of_some (OfKind k) s h
shift_kind g k false s h = none-some s h

pub means_left_shift : (c : Scope) (es : List ℕ) (e f : Exp) (t u : Term) (p q : _) (k l : IntKind) → type_of c e ≡ Some (IntType k) → type_of c f ≡ Some (IntType l)
    → Means c es e t → Means c es f u → Means c es (Bin Shl e f) (Shift' true l p t q u)
means_left_shift c es e f t u p q k l is also means means_too = record {
  at = λ s h m act.
      let asked : OfKind k ≡ s = shift_kind c.program.graph k (is_wide k && (is_wide l && true)) s (ap (λ o. o >>= scalar_in c.program.graph) (sym (type_is c Shl e f (IntType k) (IntType l) is also)) ∙ h) in
      subst (λ s. term_value c.program.graph.abi m act s (Shift' true l p t q u) ≡ scalar_value (activation c es act) m (Bin Shl e f)) asked
      (both (computed Shl k) (term_value c.program.graph.abi m act (OfKind k) t) (scalar_value (activation c es act) m e) (term_value c.program.graph.abi m act (OfKind l) u) (scalar_value (activation c es act) m f)
      (means.at (OfKind k) (ap (λ o. o >>= scalar_in c.program.graph) is) m act) (means_too.at (OfKind l) (ap (λ o. o >>= scalar_in c.program.graph) also) m act)
      ∙ sym (binary_is (activation c es act) m Shl e f (IntType k) (IntType l) is also));
}

pub means_right_shift : (c : Scope) (es : List ℕ) (e f : Exp) (t u : Term) (p q : _) (k l : IntKind) → type_of c e ≡ Some (IntType k) → type_of c f ≡ Some (IntType l)
    → Means c es e t → Means c es f u → Means c es (Bin Shr e f) (Shift' false l p t q u)
means_right_shift c es e f t u p q k l is also means means_too = record {
  at = λ s h m act.
      let asked : OfKind k ≡ s = shift_kind c.program.graph k (is_wide k && (is_wide l && true)) s (ap (λ o. o >>= scalar_in c.program.graph) (sym (type_is c Shr e f (IntType k) (IntType l) is also)) ∙ h) in
      subst (λ s. term_value c.program.graph.abi m act s (Shift' false l p t q u) ≡ scalar_value (activation c es act) m (Bin Shr e f)) asked
      (both (computed Shr k) (term_value c.program.graph.abi m act (OfKind k) t) (scalar_value (activation c es act) m e) (term_value c.program.graph.abi m act (OfKind l) u) (scalar_value (activation c es act) m f)
      (means.at (OfKind k) (ap (λ o. o >>= scalar_in c.program.graph) is) m act) (means_too.at (OfKind l) (ap (λ o. o >>= scalar_in c.program.graph) also) m act)
      ∙ sym (binary_is (activation c es act) m Shr e f (IntType k) (IntType l) is also));
}

-- operators over a pointer and an integer
pointer_alone : (g : Graph) (b : Bool) (q : Quals) (to : Shape) (s : Scalar) → ((if b then Some (PtrType q to) else None) >>= scalar_in g) ≡ Some s → OfPointer ≡ s
pointer_alone g true q to s h = of_some OfPointer s h
pointer_alone g false q to s h = none-some s h

sized : {A : Type 0} (o : Option ℕ) (n : ℕ) (f : ℕ → Option A) → o ≡ Some n → (o >>= f) ≡ f n
sized o n f e = ap (λ o. o >>= f) e

pub means_sum : (c : Scope) (es : List ℕ) (e f : Exp) (t u : Term) (p q : _) (r : Quals) (to : Shape) (l : IntKind) (size : ℕ)
    → type_of c e ≡ Some (PtrType r to) → type_of c f ≡ Some (IntType l) → size_in c.program.graph to ≡ Some size → Means c es e t → Means c es f u → Means c es (Bin Add e f) (Sum' size l p t q u)
means_sum c es e f t u p q r to l size is also room means means_too = record {
  at = λ s h m act.
      let asked : OfPointer ≡ s = pointer_alone c.program.graph (is_wide l && complete_shape c.program.graph.aggs to) _ to s (ap (λ o. o >>= scalar_in c.program.graph) (sym (type_is c Add e f (PtrType r to) (IntType l) is also)) ∙ h) in
      subst (λ s. term_value c.program.graph.abi m act s (Sum' size l p t q u) ≡ scalar_value (activation c es act) m (Bin Add e f)) asked
      (both (λ v i. pointer_sum m v i size) (term_value c.program.graph.abi m act OfPointer t) (scalar_value (activation c es act) m e) (term_value c.program.graph.abi m act (OfKind l) u) (scalar_value (activation c es act) m f)
      (means.at OfPointer (ap (λ o. o >>= scalar_in c.program.graph) is) m act) (means_too.at (OfKind l) (ap (λ o. o >>= scalar_in c.program.graph) also) m act)
      ∙ (ap (λ o. scalar_value (activation c es act) m e >>= λ v. scalar_value (activation c es act) m f >>= λ w. o >>= moved_value m Add v w) (sym room)
      ∙ sym (binary_is (activation c es act) m Add e f (PtrType r to) (IntType l) is also)));
}

pub means_less : (c : Scope) (es : List ℕ) (e f : Exp) (t u : Term) (p q : _) (r : Quals) (to : Shape) (l : IntKind) (size : ℕ)
    → type_of c e ≡ Some (PtrType r to) → type_of c f ≡ Some (IntType l) → size_in c.program.graph to ≡ Some size → Means c es e t → Means c es f u → Means c es (Bin Sub e f) (Less' size l p t q u)
means_less c es e f t u p q r to l size is also room means means_too = record {
  at = λ s h m act.
      let asked : OfPointer ≡ s = pointer_alone c.program.graph (is_wide l && complete_shape c.program.graph.aggs to) _ to s (ap (λ o. o >>= scalar_in c.program.graph) (sym (type_is c Sub e f (PtrType r to) (IntType l) is also)) ∙ h) in
      subst (λ s. term_value c.program.graph.abi m act s (Less' size l p t q u) ≡ scalar_value (activation c es act) m (Bin Sub e f)) asked
      (both (λ v i. pointer_less m v i size) (term_value c.program.graph.abi m act OfPointer t) (scalar_value (activation c es act) m e) (term_value c.program.graph.abi m act (OfKind l) u) (scalar_value (activation c es act) m f)
      (means.at OfPointer (ap (λ o. o >>= scalar_in c.program.graph) is) m act) (means_too.at (OfKind l) (ap (λ o. o >>= scalar_in c.program.graph) also) m act)
      ∙ (ap (λ o. scalar_value (activation c es act) m e >>= λ v. scalar_value (activation c es act) m f >>= λ w. o >>= moved_value m Sub v w) (sym room)
      ∙ sym (binary_is (activation c es act) m Sub e f (PtrType r to) (IntType l) is also)));
}

-- an integer and a pointer: the pointer stands first in the term
pub means_turned_sum : (c : Scope) (es : List ℕ) (e f : Exp) (t u : Term) (p q : _) (r : Quals) (to : Shape) (k : IntKind) (size : ℕ)
    → type_of c e ≡ Some (IntType k) → type_of c f ≡ Some (PtrType r to) → size_in c.program.graph to ≡ Some size → Means c es e t → Means c es f u → Means c es (Bin Add e f) (Sum' size k q u p t)
means_turned_sum c es e f t u p q r to k size is also room means means_too = record {
  at = λ s h m act.
      let asked : OfPointer ≡ s = pointer_alone c.program.graph (is_wide k && complete_shape c.program.graph.aggs to) _ to s (ap (λ o. o >>= scalar_in c.program.graph) (sym (type_is c Add e f (IntType k) (PtrType r to) is also)) ∙ h) in
      subst (λ s. term_value c.program.graph.abi m act s (Sum' size k q u p t) ≡ scalar_value (activation c es act) m (Bin Add e f)) asked
      (both (λ v i. pointer_sum m v i size) (term_value c.program.graph.abi m act OfPointer u) (scalar_value (activation c es act) m f) (term_value c.program.graph.abi m act (OfKind k) t) (scalar_value (activation c es act) m e)
      (means_too.at OfPointer (ap (λ o. o >>= scalar_in c.program.graph) also) m act) (means.at (OfKind k) (ap (λ o. o >>= scalar_in c.program.graph) is) m act)
      ∙ (turned (λ v i. pointer_sum m v i size) (scalar_value (activation c es act) m f) (scalar_value (activation c es act) m e)
      ∙ (ap (λ o. scalar_value (activation c es act) m e >>= λ v. scalar_value (activation c es act) m f >>= λ w. o >>= summed_value m Add v w) (sym room)
      ∙ sym (binary_is (activation c es act) m Add e f (IntType k) (PtrType r to) is also))));
}

-- two pointers
nested_kind : (g : Graph) (a b : Bool) (kind : IntKind) (s : Scalar) → ((if a then (if b then Some (IntType kind) else None) else None) >>= scalar_in g) ≡ Some s → OfKind kind ≡ s
nested_kind g true b kind s h = wide_alone g b kind s h
nested_kind g false b kind s h = none-some s h

of_long : {A : Type 0} (kind : IntKind) (o : Option A) → (if same_kind kind kind then o else None) ≡ o
of_long kind o = ap (λ b. if b then o else None) (kind_itself kind)

pub means_difference : (c : Scope) (es : List ℕ) (e f : Exp) (t u : Term) (p q : _) (r d : Quals) (to also_to : Shape) (size : ℕ)
    → type_of c e ≡ Some (PtrType r to) → type_of c f ≡ Some (PtrType d also_to) → size_in c.program.graph to ≡ Some size → Means c es e t → Means c es f u → Means c es (Bin Sub e f) (Difference' size p t q u)
means_difference c es e f t u p q r d to also_to size is also room means means_too = record {
  at = λ s h m act.
      let asked : OfKind (long_of c.program.graph.abi) ≡ s = nested_kind c.program.graph (same_shape (PtrType r to) (PtrType d also_to)) (complete_shape c.program.graph.aggs to) (long_of c.program.graph.abi) s
      (ap (λ o. o >>= scalar_in c.program.graph) (sym (type_is c Sub e f (PtrType r to) (PtrType d also_to) is also)) ∙ h) in
      subst (λ s. term_value c.program.graph.abi m act s (Difference' size p t q u) ≡ scalar_value (activation c es act) m (Bin Sub e f)) asked
      (both (λ v w. difference_at c.program.graph.abi (OfKind (long_of c.program.graph.abi)) m v w size) (term_value c.program.graph.abi m act OfPointer t) (scalar_value (activation c es act) m e) (term_value c.program.graph.abi m act OfPointer u) (scalar_value (activation c es act) m f)
      (means.at OfPointer (ap (λ o. o >>= scalar_in c.program.graph) is) m act) (means_too.at OfPointer (ap (λ o. o >>= scalar_in c.program.graph) also) m act)
      ∙ (each m (scalar_value (activation c es act) m e) (scalar_value (activation c es act) m f)
      ∙ (ap (λ o. scalar_value (activation c es act) m e >>= λ v. scalar_value (activation c es act) m f >>= λ w. o >>= pointer_difference c.program.graph.abi m v w) (sym room)
      ∙ sym (binary_is (activation c es act) m Sub e f (PtrType r to) (PtrType d also_to) is also))));
}
  where
    each : (m : Memory) (o u : Option Value) → (o >>= λ v. u >>= λ w. difference_at c.program.graph.abi (OfKind (long_of c.program.graph.abi)) m v w size) ≡ (o >>= λ v. u >>= λ w. pointer_difference c.program.graph.abi m v w size)
    each m None u = refl
    each m (Some v) None = refl
    each m (Some v) (Some w) = of_long (long_of c.program.graph.abi) (pointer_difference c.program.graph.abi m v w size)

unless_int : (g : Graph) (b : Bool) (s : Scalar) → ((if b then None else Some (IntType int)) >>= scalar_in g) ≡ Some s → OfKind int ≡ s
unless_int g true s h = none-some s h
unless_int g false s h = of_some (OfKind int) s h

relation_int : (c : Scope) (op : BinOp) (to : Shape) (s : Scalar) → is_comparison op ≡ true → (pointers_type c op to >>= scalar_in c.program.graph) ≡ Some s → OfKind int ≡ s
relation_int c Lt to s test h = unless_int c.program.graph (is_function to) s h
relation_int c Gt to s test h = unless_int c.program.graph (is_function to) s h
relation_int c Le to s test h = unless_int c.program.graph (is_function to) s h
relation_int c Ge to s test h = unless_int c.program.graph (is_function to) s h
relation_int c Eq to s test h = of_some (OfKind int) s h
relation_int c Ne to s test h = of_some (OfKind int) s h
relation_int c op to s test h = absurd (cc)

relation_value : (g : Graph) (m : Memory) (op : BinOp) (to : Shape) (v w : Value) → is_comparison op ≡ true → (compared m op v w >>= λ holds. Some (Int (told holds))) ≡ pointers_value (sizes_of g) m op to v w
relation_value g m Sub to v w test = absurd (cc)
relation_value g m op to v w test = refl

pub means_relation : (c : Scope) (es : List ℕ) (op : BinOp) (e f : Exp) (t u : Term) (p q : _) (r d : Quals) (to also_to : Shape)
    → type_of c e ≡ Some (PtrType r to) → type_of c f ≡ Some (PtrType d also_to) → is_comparison op ≡ true → Means c es e t → Means c es f u → Means c es (Bin op e f) (Relation' op p t q u)
means_relation c es op e f t u p q r d to also_to is also test means means_too = record {
  at = λ s h m act.
      let asked : OfKind int ≡ s = same (same_shape (PtrType r to) (PtrType d also_to)) s
      (ap (λ o. o >>= scalar_in c.program.graph) (sym (type_is c op e f (PtrType r to) (PtrType d also_to) is also)) ∙ h) in
      subst (λ s. term_value c.program.graph.abi m act s (Relation' op p t q u) ≡ scalar_value (activation c es act) m (Bin op e f)) asked
      (both (λ v w. told_from c.program.graph.abi (OfKind int) (compared m op v w)) (term_value c.program.graph.abi m act OfPointer t) (scalar_value (activation c es act) m e) (term_value c.program.graph.abi m act OfPointer u) (scalar_value (activation c es act) m f)
      (means.at OfPointer (ap (λ o. o >>= scalar_in c.program.graph) is) m act) (means_too.at OfPointer (ap (λ o. o >>= scalar_in c.program.graph) also) m act)
      ∙ (each m act (scalar_value (activation c es act) m e) (scalar_value (activation c es act) m f)
      ∙ sym (binary_is (activation c es act) m op e f (PtrType r to) (PtrType d also_to) is also)));
}
  where
    same : (b : Bool) (s : Scalar) → ((if b then pointers_type c op to else None) >>= scalar_in c.program.graph) ≡ Some s → OfKind int ≡ s
    same true s h = relation_int c op to s test h
    same false s h = none-some s h

    each : (m : Memory) (act : ℕ) (o u : Option Value) → (o >>= λ v. u >>= λ w. told_from c.program.graph.abi (OfKind int) (compared m op v w)) ≡ (o >>= λ v. u >>= pointers_value (sizes_of c.program.graph) m op to v)
    each m act None u = refl
    each m act (Some v) None = refl
    each m act (Some v) (Some w) = told_is c (compared m op v w) ∙ relation_value c.program.graph m op to v w test

-- conversions
cast_scalar : (c : Scope) (to s : Shape) (u : Scalar) → (cast_type c to s >>= scalar_in c.program.graph) ≡ Some u → scalar_in c.program.graph to ≡ Some u
cast_scalar c to s u h = by (is_void to || (is_scalar c.program.graph to && is_scalar c.program.graph s)) h
  where
    by : (b : Bool) → ((if b then Some to else None) >>= scalar_in c.program.graph) ≡ Some u → scalar_in c.program.graph to ≡ Some u
    by true h = h
    by false h = none-some u h

pub means_cast : (c : Scope) (es : List ℕ) (to s : Shape) (e : Exp) (t : Term) (p : _) (from : Scalar) → type_of c e ≡ Some s → scalar_in c.program.graph s ≡ Some from → Means c es e t → Means c es (Cast (Some to) e) (Convert' from p t)
means_cast c es to s e t p from is scalar means = record { at = at }
  where
    single : (a : Activation) (u : Scalar) (to : Shape) (d : Datum) → scalar_in c.program.graph to ≡ Some u → scalar_in (a.scope.program.graph) to ≡ Some u → cast_value a.scope.program.graph to d ≡ (single_in d >>= λ v. Some (converted a.scope.program.graph.abi u v))
    single a u VoidType d h g = none-some u h
    single a u (IntType kind) d h g = ap (λ o. o >>= λ t. single_in d >>= λ v. Some (converted a.scope.program.graph.abi t v)) g
    single a u (PtrType q to) d h g = ap (λ o. o >>= λ t. single_in d >>= λ v. Some (converted a.scope.program.graph.abi t v)) g
    single a u (ArrayType q to bound) d h g = ap (λ o. o >>= λ t. single_in d >>= λ v. Some (converted a.scope.program.graph.abi t v)) g
    single a u (FuncType ret params proto variadic) d h g = ap (λ o. o >>= λ t. single_in d >>= λ v. Some (converted a.scope.program.graph.abi t v)) g
    single a u (AggType x) d h g = ap (λ o. o >>= λ t. single_in d >>= λ v. Some (converted a.scope.program.graph.abi t v)) g

    each : (a : Activation) (u : Scalar) (o : Option Datum) → ((d : Datum) → cast_value a.scope.program.graph to d ≡ (single_in d >>= λ v. Some (converted a.scope.program.graph.abi u v)))
        → ((o >>= single_in) >>= λ v. Some (converted a.scope.program.graph.abi u v)) ≡ ((o >>= λ d. option_map Single (cast_value a.scope.program.graph to d)) >>= single_in)
    each a u None k = refl
    each a u (Some d) k = step (single_in d >>= λ v. Some (converted a.scope.program.graph.abi u v)) ∙ ap (λ o. option_map Single o >>= single_in) (sym (k d))
      where
        step : (o : Option Value) → o ≡ (option_map Single o >>= single_in)
        step None = refl
        step (Some v) = refl

    at : (u : Scalar) → scalar_type c (Cast (Some to) e) ≡ Some u → (m : Memory) (act : ℕ) → term_value c.program.graph.abi m act u (Convert' from p t) ≡ scalar_value (activation c es act) m (Cast (Some to) e)
    at u h m act =
        let asked : scalar_in c.program.graph to ≡ Some u = cast_scalar c to s u (ap (λ o. option_and_then (cast_type c to) o >>= scalar_in c.program.graph) (sym is) ∙ h) in
        ap (λ o. o >>= λ v. Some (converted c.program.graph.abi u v)) (means.at from (ap (λ o. o >>= scalar_in c.program.graph) is ∙ scalar) m act)
        ∙ each (activation c es act) u (value (activation c es act) m e) (λ d. single (activation c es act) u to d asked asked)

-- constants
guarded_kind : (g : Graph) (a b d : Bool) (kind : IntKind) (s : Scalar) → ((if a && (b && d) then Some (IntType kind) else None) >>= scalar_in g) ≡ Some s → (OfKind kind ≡ s) × (d ≡ true)
guarded_kind g true true true kind s h = (of_some (OfKind kind) s h, refl)
guarded_kind g true true false kind s h = none-some s h
guarded_kind g true false d kind s h = none-some s h
guarded_kind g false b d kind s h = none-some s h

pub means_number : (c : Scope) (es : List ℕ) (kind : IntKind) (n : ℕ) → Means c es (Const kind n) (Number n)
means_number c es kind n = record {
  at = λ s h m act.
      let told : (OfKind kind ≡ s) × (fits kind (pos n) ≡ true) = guarded_kind c.program.graph (is_wide kind) (has_kind c.program.graph.abi kind) (fits kind (pos n)) kind s h in
      subst (λ s. term_value c.program.graph.abi m act s (Number n) ≡ Some (Int (pos n))) told.0
      (ap (λ b. only_if b (Int (pos n))) (fits_is kind (pos n) (wrapped kind (pos n)) refl ∙ told.1));
}

-- what a scalar kind is of
pub kind_of_scalar : (o : Option Kind) (s : Scalar) → (o >>= scalar_kind) ≡ Some s → o ≡ Some (OfScalar s)
kind_of_scalar None s h = none-some s h
kind_of_scalar (Some (OfScalar t)) s h = ap (λ t. Some (OfScalar t)) (of_some t s h)
kind_of_scalar (Some OfVoid) s h = none-some s h
kind_of_scalar (Some (OfAggregate size)) s h = none-some s h

read_scalar : (c : Scope) (t : Shape) (s : Scalar) → (read_type c t >>= scalar_in c.program.graph) ≡ Some s → scalar_in c.program.graph t ≡ Some s
read_scalar c t s h = by (is_readable c.program.graph t) h
  where
    by : (b : Bool) → ((if b then Some t else None) >>= scalar_in c.program.graph) ≡ Some s → scalar_in c.program.graph t ≡ Some s
    by true h = h
    by false h = none-some s h

-- the value of a place
pub means_value : (c : Scope) (es : List ℕ) (p : Lval) (x : Spot) (t : Shape) → place_type c p ≡ Some t → MeansPlace c es p x → Means c es (ValueOf p) (Load x)
means_value c es p x t is means = record {
  at = λ s h m act.
      let scalar : scalar_in c.program.graph t ≡ Some s = read_scalar c t s (ap (λ o. option_and_then (read_type c) o >>= scalar_in c.program.graph) (sym is) ∙ h) in
      let kind : kind_in c.program.graph t ≡ Some (OfScalar s) = kind_of_scalar (kind_in c.program.graph t) s scalar in
      ap (λ o. o >>= loaded c.program.graph.abi m s) (means.at t is m act)
      ∙ (same m s (place (activation c es act) m p)
      ∙ (ap (λ o. (o >>= λ k. place (activation c es act) m p >>= load_datum c.program.graph.abi m k) >>= single_in) (sym kind)
      ∙ ap (λ o. (o >>= kind_in c.program.graph >>= λ k. place (activation c es act) m p >>= load_datum c.program.graph.abi m k) >>= single_in) (sym is)));
}
  where
    single : (o : Option Value) → o ≡ (option_map Single o >>= single_in)
    single None = refl
    single (Some v) = refl

    pointer : (m : Memory) (s : Scalar) (o : Option Pointer) → (o >>= λ at. load c.program.graph.abi m at s) ≡ ((o >>= λ p. load_from c.program.graph.abi m (OfScalar s) p) >>= single_in)
    pointer m s None = refl
    pointer m s (Some at) = single (load c.program.graph.abi m at s)

    same : (m : Memory) (s : Scalar) (o : Option Value) → (o >>= loaded c.program.graph.abi m s) ≡ ((o >>= load_datum c.program.graph.abi m (OfScalar s)) >>= single_in)
    same m s None = refl
    same m s (Some v) = pointer m s (pointer_in v)

place_single : (o : Option Value) → o ≡ (option_map Single o >>= single_in)
place_single None = refl
place_single (Some v) = refl

address_scalar : (g : Graph) (b : Bool) (t : Shape) (s : Scalar) → ((if b then None else Some (pointer_to t)) >>= scalar_in g) ≡ Some s → OfPointer ≡ s
address_scalar g true t s h = none-some s h
address_scalar g false t s h = of_some OfPointer s h

pub means_address : (c : Scope) (es : List ℕ) (p : Lval) (x : Spot) (t : Shape) → place_type c p ≡ Some t → MeansPlace c es p x → Means c es (AddrOf p) (Address x)
means_address c es p x t is means = record {
  at = λ s h m act.
      let asked : OfPointer ≡ s = address_scalar c.program.graph (is_void t) t s (ap (λ o. option_and_then address_type o >>= scalar_in c.program.graph) (sym is) ∙ h) in
      subst (λ s. term_value c.program.graph.abi m act s (Address x) ≡ scalar_value (activation c es act) m (AddrOf p)) asked
      (means.at t is m act ∙ place_single (place (activation c es act) m p));
}

start_scalar : (g : Graph) (t : Shape) (s : Scalar) → (start_type t >>= scalar_in g) ≡ Some s → OfPointer ≡ s
start_scalar g (ArrayType q t bound) s h = of_some OfPointer s h
start_scalar g t s h = none-some s h

pub means_start : (c : Scope) (es : List ℕ) (p : Lval) (x : Spot) (t : Shape) → place_type c p ≡ Some t → MeansPlace c es p x → Means c es (StartOf p) (Address x)
means_start c es p x t is means = record {
  at = λ s h m act.
      let asked : OfPointer ≡ s = start_scalar c.program.graph t s (ap (λ o. option_and_then start_type o >>= scalar_in c.program.graph) (sym is) ∙ h) in
      subst (λ s. term_value c.program.graph.abi m act s (Address x) ≡ scalar_value (activation c es act) m (StartOf p)) asked
      (means.at t is m act ∙ place_single (place (activation c es act) m p));
}
