-- Device: calls of the code are those of a body.
use Rattle.std.proofs.Common.{◌≡◌, ℕ, zero, suc, ◌<◌, ◌≤◌, true, false, List, [], ◌∷◌, ◌++◌, length, map, take, get_or, slice_get, Option, Some, None, option_map, refl, sym, ap, ◌∙◌, subst, arith}
use Rattle.std.specs.Option.{option_and_then}
use Rattle.cil_base.specs.declared.kinds.IntKind.TheVariants.{Int as int}
use Rattle.cil_base.specs.declared.numbers.EntityId.{EntityId}
use Rattle.byte_mem.specs.declared.pointers.ObjName.TheVariants.{Entity}
use Rattle.byte_mem.specs.declared.values.Scalar.TheVariants.{Int as OfKind, Ptr as OfPointer}
use Rattle.byte_mem.specs.Steps.{◌>>=◌}
use Rattle.type_graph.specs.Shapes.{Shape, AggType}
use Rattle.type_graph.specs.Arena.{Graph}
use Rattle.execution.specs.Data.{OfAggregate}
use Rattle.cil_tree.specs.Tree.{Exp, Lval, Direct, Through}
use Rattle.cil_tree.specs.Typing.{Scope, names_enum, pointed, global_type, type_of}
use Rattle.cil_check.specs.Seen.{told, at}
use Rattle.typed_values.specs.Values.{aggregate_kind}
use Rattle.cil_semantics.specs.Values.{size_in, kind_in, pointer_at}
use Rattle.cil_semantics.specs.Statements.{result_type}
use Rattle.cil_machine.specs.declared.terms.Term.{Address, Wrong as NoTerm}
use Rattle.cil_machine.specs.declared.terms.Spot.{Entity as Global'}
use Rattle.cil_machine.specs.declared.resolution.Typed.{Typed}
use Rattle.cil_machine.specs.declared.resolution.TypedSpot.{TypedSpot}
use Rattle.cil_machine.specs.Typed.{IsTyped, IsPlaced}
use Rattle.cil_machine.proofs.Parts.{pointer_scalar}
use Rattle.cil_code.specs.declared.calls.Kind.{Kind}
use Rattle.cil_code.specs.declared.calls.Kind.TheVariants.{Single as OneScalar, Bytes as OneSize}
use Rattle.cil_code.specs.declared.operands.Operand.{Operand}
use Rattle.cil_code.specs.Passing.{IsOperand}
use Rattle.cil_code.specs.Calling.{kind_of, kind_from, IsReceived, IsCallee, AreOperands}

pub enum_kind : (g : Graph) (t : Shape) (a : ℕ) → t ≡ AggType a → names_enum g a ≡ true → option_map kind_of (Some (OneScalar (OfKind int))) ≡ kind_in g t
enum_kind g t a is h = sym (ap (kind_in g) is ∙ ap (λ b. aggregate_kind b (size_in g (AggType a))) h)

pub sized_kind : (g : Graph) (t : Shape) (a n : ℕ) → t ≡ AggType a → names_enum g a ≡ false → Some n ≡ size_in g t → option_map kind_of (Some (OneSize n)) ≡ kind_in g t
sized_kind g t a n is h size = ap (option_map OfAggregate) (size ∙ ap (size_in g) is) ∙ sym (ap (kind_in g) is ∙ ap (λ b. aggregate_kind b (size_in g (AggType a))) h)

pub sizeless_kind : (g : Graph) (t : Shape) (a : ℕ) → t ≡ AggType a → names_enum g a ≡ false → None ≡ size_in g t → None ≡ kind_in g t
sizeless_kind g t a is h size = ap (option_map OfAggregate) (size ∙ ap (size_in g) is) ∙ sym (ap (kind_in g) is ∙ ap (λ b. aggregate_kind b (size_in g (AggType a))) h)

then_is : {A B : Type 0} (f : A → Option B) (o : Option A) → option_and_then f o ≡ (o >>= f)
then_is f None = refl
then_is f (Some a) = refl

pub received : (c : Scope) (es : List ℕ) (p : Lval) (r : TypedSpot) (k : Option Kind) → IsPlaced c es p r → option_map kind_of k ≡ option_and_then (kind_in c.program.graph) (at c.program.graph r.ty) → IsReceived c es p (record { place = r.spot; kind = k })
received c es p r k is e = record {
  kind = e ∙ (then_is (kind_in c.program.graph) (at c.program.graph r.ty) ∙ ap (λ o. o >>= kind_in c.program.graph) is.told);
  place = is.means;
}

-- the kind of what a function of a type returns
result_is : (g : Graph) (k : Option Kind) (o u : Option Shape) → option_map kind_of k ≡ option_and_then (λ t. option_and_then (kind_in g) (result_type t)) o → o ≡ u → kind_from k ≡ (u >>= result_type >>= kind_in g)
result_is g k o u e same = e ∙ (ap (option_and_then (λ t. option_and_then (kind_in g) (result_type t))) same ∙ by u)
  where
    by : (u : Option Shape) → option_and_then (λ t. option_and_then (kind_in g) (result_type t)) u ≡ (u >>= result_type >>= kind_in g)
    by None = refl
    by (Some t) = then_is (kind_in g) (result_type t)

pub direct_known : (c : Scope) (es : List ℕ) (n e : ℕ) (i : EntityId) (k : Option Kind) (t : _) → i ≡ record { 0 = e } → Some e ≡ slice_get es n → at c.program.graph t ≡ global_type c.program n
    → option_map kind_of k ≡ option_and_then (λ t. option_and_then (kind_in c.program.graph) (result_type t)) (at c.program.graph t) → IsCallee c es (Direct n) (record { pointer = Address (Global' i); result = k })
direct_known c es n e i k t same there type kind = record {
  kind = result_is c.program.graph k (at c.program.graph t) (global_type c.program n) kind type;
  value = λ x is m act. ap (λ i. Some (pointer_at (Entity i))) same ∙ ap (λ o. o >>= λ e. Some (pointer_at (Entity (record { 0 = e })))) there;
}

pub direct_unknown : (c : Scope) (es : List ℕ) (n : ℕ) (k : Option Kind) (t : _) → None ≡ slice_get es n → at c.program.graph t ≡ global_type c.program n
    → option_map kind_of k ≡ option_and_then (λ t. option_and_then (kind_in c.program.graph) (result_type t)) (at c.program.graph t) → IsCallee c es (Direct n) (record { pointer = NoTerm; result = k })
direct_unknown c es n k t there type kind = record {
  kind = result_is c.program.graph k (at c.program.graph t) (global_type c.program n) kind type;
  value = λ x is m act. ap (λ o. o >>= λ e. Some (pointer_at (Entity (record { 0 = e })))) there;
}

pub through : (c : Scope) (es : List ℕ) (e : Exp) (r : Typed) (k : Option Kind) (t : _) → IsTyped c es e r → at c.program.graph t ≡ option_and_then pointed (told c.program.graph r.ty)
    → option_map kind_of k ≡ option_and_then (λ t. option_and_then (kind_in c.program.graph) (result_type t)) (at c.program.graph t) → IsCallee c es (Through e) (record { pointer = r.term; result = k })
through c es e r k t is type kind = record {
  kind = result_is c.program.graph k (at c.program.graph t) (option_and_then pointed (type_of c e)) kind (type ∙ ap (option_and_then pointed) is.told);
  value = λ x h m act. is.means.at OfPointer (pointer_scalar c e (type_of c e) x refl h) m act;
}

-- arguments one by one
operands_push : (c : Scope) (es : List ℕ) (xs : List Exp) (ys : List Operand) (x : Exp) (y : Operand) → AreOperands c es xs ys → IsOperand c es x y → AreOperands c es (xs ++ x ∷ []) (ys ++ y ∷ [])
operands_push c es [] [] x y h k = (k, tt)
operands_push c es [] (o ∷ ys) x y h k = absurd h
operands_push c es (e ∷ xs) [] x y h k = absurd h
operands_push c es (e ∷ xs) (o ∷ ys) x y h k = (h.0, operands_push c es xs ys x y h.1 k)

taken_next : {A B : Type 0} (f : A → B) (xs : List A) (i : ℕ) (d : A) → i < length xs → map f (take (suc i) xs) ≡ map f (take i xs) ++ f (get_or xs i d) ∷ []
taken_next f [] i d h = absurd (omega arith)
taken_next f (x ∷ xs) zero d h = refl
taken_next f (x ∷ xs) (suc i) d h = ap (λ z. f x ∷ z) (taken_next f xs i d (omega arith))

taken_all : {A B : Type 0} (f : A → B) (xs : List A) (i : ℕ) → length xs ≤ i → map f (take i xs) ≡ map f xs
taken_all f [] zero h = refl
taken_all f [] (suc i) h = refl
taken_all f (x ∷ xs) zero h = absurd (omega arith)
taken_all f (x ∷ xs) (suc i) h = ap (λ z. f x ∷ z) (taken_all f xs i (omega arith))

pub operands_next : {A : Type 0} (c : Scope) (es : List ℕ) (f : A → Exp) (xs : List A) (i j : ℕ) (x : A) (ys zs : List Operand) (y : Operand) → j ≡ suc i → i < length xs → x ≡ get_or xs i x → AreOperands c es (map f (take i xs)) ys → IsOperand c es (f x) y
    → zs ≡ ys ++ y ∷ [] → AreOperands c es (map f (take j xs)) zs
operands_next c es f xs i j x ys zs y next h is all one e =
    subst (λ j. AreOperands c es (map f (take j xs)) zs) (sym next)
    (subst (λ z. AreOperands c es z zs) (sym (taken_next f xs i x h))
    (subst (AreOperands c es (map f (take i xs) ++ f (get_or xs i x) ∷ [])) (sym e) (operands_push c es (map f (take i xs)) ys (f (get_or xs i x)) y all (subst (λ z. IsOperand c es (f z) y) is one))))

pub operands_all : {A : Type 0} (c : Scope) (es : List ℕ) (f : A → Exp) (xs : List A) (i : ℕ) (ys : List Operand) → length xs ≤ i → AreOperands c es (map f (take i xs)) ys → AreOperands c es (map f xs) ys
operands_all c es f xs i ys h all = subst (λ z. AreOperands c es z ys) (taken_all f xs i h) all
