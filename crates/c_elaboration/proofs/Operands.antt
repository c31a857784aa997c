-- Device: a typed operand gives what the operand gives, converted to the type to which it goes.
use Rattle.std.proofs.Common.{◌≡◌, ℕ, Bool, true, false, Option, Some, None, option_map, refl, sym, ap, ◌∙◌, inl}
use Rattle.std.specs.Prelude.{if◌then◌else◌}
use Rattle.byte_mem.specs.declared.values.Value.{Value}
use Rattle.type_graph.specs.Shapes.{Shape, VoidType, IntType, PtrType, ArrayType, FuncType, AggType}
use Rattle.execution.specs.Data.{Datum, Single}
use Rattle.execution.specs.Calls.{Enter}
use Rattle.typed_tree.specs.Tree.{Typed, Load, Decay, Convert, shape_in}
use Rattle.c_rules.specs.Conversions.{Operand, same_effect, shape_of, value_shape, is_lvalue, decays, alike, value_of as value_node, value_as}
use Rattle.c_semantics.specs.Values.{cast_value, as_type}
use Rattle.c_semantics.specs.Places.{Activation, arrays_in}
use Rattle.c_semantics.specs.Operations.{Action, ◌>>=◌, gives, known, Is, is_value, valued, used, taken}
use Rattle.typed_semantics.specs.Expressions.{value_of, t_exp}
use Rattle.c_elaboration.proofs.Actions.{then_then, then_gives, then_same}
use Rattle.c_elaboration.proofs.Shapes.{Near, near}

-- the value of an operand (6.3.2.1p2 to p4)

picked : Bool → Bool → Typed → Typed
picked b c e = if b then same_effect (value_shape (shape_in e)) e (Decay e) else (if c then same_effect (shape_in e) e (Load e) else e)

picked_is : (a : Activation) (enter : Enter) (b c : Bool) (e : Typed) (k : ℕ) → value_of a (picked b c e) (t_exp a enter (picked b c e) k) ≡ value_of a e (t_exp a enter e k)
unfolding picked
picked_is a enter true c e k = then_then (value_of a e (t_exp a enter e k)) (λ d. gives (Is d)) (valued a (value_shape (shape_in e))) ∙ then_gives (value_of a e (t_exp a enter e k))
picked_is a enter false true e k = then_then (value_of a e (t_exp a enter e k)) (λ d. gives (Is d)) (valued a (shape_in e)) ∙ then_gives (value_of a e (t_exp a enter e k))
picked_is a enter false false e k = refl

pub used_is : (a : Activation) (enter : Enter) (x : Operand) (k : ℕ) → value_of a (value_node x.typed) (t_exp a enter (value_node x.typed) k) ≡ used a x (t_exp a enter x.typed k)
unfolding picked
used_is a enter x k = picked_is a enter (decays (shape_in x.typed)) (is_lvalue x.typed) x.typed k

picked_arrays : (b c : Bool) (e : Typed) → arrays_in (picked b c e) ≡ arrays_in e
unfolding picked
picked_arrays true c e = refl
picked_arrays false true e = refl
picked_arrays false false e = refl

pub arrays_of_value : (e : Typed) → arrays_in (value_node e) ≡ arrays_in e
unfolding picked
arrays_of_value e = picked_arrays (decays (shape_in e)) (is_lvalue e) e

stays : (s : Shape) → decays s ≡ false → s ≡ value_shape s
stays VoidType e = refl
stays (IntType k) e = refl
stays (PtrType q s) e = refl
stays (ArrayType q s n) e = cc
stays (FuncType r ss p v) e = cc
stays (AggType a) e = refl

picked_shape : (b c : Bool) (e : Typed) → decays (shape_in e) ≡ b → shape_in (picked b c e) ≡ value_shape (shape_in e)
unfolding picked
picked_shape true c e i = refl
picked_shape false true e i = stays (shape_in e) i
picked_shape false false e i = stays (shape_in e) i

pub shape_of_value : (x : Operand) → shape_in (value_node x.typed) ≡ shape_of x
unfolding picked
shape_of_value x = picked_shape (decays (shape_in x.typed)) (is_lvalue x.typed) x.typed refl

-- a conversion (6.3)

turned : Bool → Shape → Typed → Typed
turned b to e = if b then e else same_effect to e (Convert e)

casts : (a : Activation) (to : Shape) (o : Option Value) → ((known o >>= (λ v. gives (is_value v))) >>= valued a to) ≡ known (option_map Single o)
casts a to None = refl
casts a to (Some v) = refl

kept_or_cast : Activation → Shape → Datum → Bool → Action Datum
kept_or_cast a to d b = known (elim b [ true ↦ Some d | false ↦ option_map Single (cast_value a.types to d) ])

turned_is : (a : Activation) (enter : Enter) (x : Operand) (to : Shape) (k : ℕ) (b : Bool) → alike (shape_of x) to ≡ b
    → value_of a (turned b to (value_node x.typed)) (t_exp a enter (turned b to (value_node x.typed)) k) ≡ taken a x to (t_exp a enter x.typed k)
unfolding turned kept_or_cast
turned_is a enter x to k true e =
    used_is a enter x k
    ∙ (sym (then_gives (used a x (t_exp a enter x.typed k)))
    ∙ then_same (used a x (t_exp a enter x.typed k)) gives (λ d. known (as_type a.types (shape_of x) to d)) (λ d. sym (ap (kept_or_cast a to d) e)))
turned_is a enter x to k false e =
    ap (λ (g : Action Datum). (g >>= (λ d. known (cast_value a.types to d) >>= (λ v. gives (is_value v)))) >>= valued a to) (used_is a enter x k)
    ∙ (then_then (used a x (t_exp a enter x.typed k)) (λ d. known (cast_value a.types to d) >>= (λ v. gives (is_value v))) (valued a to)
    ∙ then_same (used a x (t_exp a enter x.typed k)) (λ d. (known (cast_value a.types to d) >>= (λ v. gives (is_value v))) >>= valued a to) (λ d. known (as_type a.types (shape_of x) to d))
    (λ d. casts a to (cast_value a.types to d) ∙ sym (ap (kept_or_cast a to d) e)))

pub taken_is : (a : Activation) (enter : Enter) (x : Operand) (to : Shape) (k : ℕ) → value_of a (value_as to x) (t_exp a enter (value_as to x) k) ≡ taken a x to (t_exp a enter x.typed k)
unfolding turned
taken_is a enter x to k = turned_is a enter x to k (alike (shape_in (value_node x.typed)) to) (ap (λ (s : Shape). alike s to) (sym (shape_of_value x)))

turned_arrays : (b : Bool) (to : Shape) (e : Typed) → arrays_in (turned b to e) ≡ arrays_in e
unfolding turned
turned_arrays true to e = refl
turned_arrays false to e = refl

pub arrays_as : (to : Shape) (x : Operand) → arrays_in (value_as to x) ≡ arrays_in x.typed
unfolding turned
arrays_as to x = turned_arrays (alike (shape_in (value_node x.typed)) to) to (value_node x.typed) ∙ arrays_of_value x.typed

turned_near : (b : Bool) (to : Shape) (e : Typed) → alike (shape_in e) to ≡ b → Near (shape_in (turned b to e)) to
unfolding turned
turned_near true to e i = near (shape_in e) to i
turned_near false to e i = inl refl

pub near_as : (to : Shape) (x : Operand) → Near (shape_in (value_as to x)) to
unfolding turned
near_as to x = turned_near (alike (shape_in (value_node x.typed)) to) to (value_node x.typed) refl
