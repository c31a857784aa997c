-- Device: an lvalue gives a place, and what is no lvalue and no array gives a value.
use Rattle.std.proofs.Common.{◌≡◌, ℕ, ◌+◌, Bool, true, false, not, ◌&&◌, ◌||◌, List, Option, refl, sym, ap, ◌∙◌, subst, slice_get}
use Rattle.std.specs.Prelude.{pos, if◌then◌else◌}
use Rattle.cil_base.specs.declared.operators.BinOp.{BinOp}
use Rattle.cil_base.specs.declared.operators.BinOp.TheVariants.{Add}
use Rattle.cil_base.specs.declared.operators.UnOp.{UnOp}
use Rattle.cil_base.specs.Arithmetic.{told}
use Rattle.byte_mem.specs.declared.pointers.ObjName.TheVariants.{Entity as UnitObject}
use Rattle.byte_mem.specs.declared.values.Value.{Value}
use Rattle.byte_mem.specs.declared.values.Value.TheVariants.{Int}
use Rattle.byte_mem.specs.Operator.{place_of}
use Rattle.type_graph.specs.Shapes.{Shape, VoidType, IntType, PtrType, ArrayType, FuncType, AggType}
use Rattle.execution.specs.Data.{Datum, Single, Argument}
use Rattle.execution.specs.Calls.{Enter}
use Rattle.typed_tree.specs.declared.expressions.StepForm.{StepForm}
use Rattle.typed_tree.specs.declared.expressions.StepForm.TheVariants.{PreIncrement, PreDecrement, PostIncrement, PostDecrement}
use Rattle.type_graph.specs.declared.nodes.Quals.{Quals}
use Rattle.typed_tree.specs.Tree.{Typed, Form, Has, Integer, Local, Literal, Entity, Load, Decay, Address, Indirect, Subscript, Member, Convert, Unary, Binary, Logical, Conditional, Comma, Assign, Compute, Step, Call, shape_in}
use Rattle.typed_tree.specs.Places.{is_place}
use Rattle.c_rules.specs.Types.{Hop, is_void, is_array, is_function}
use Rattle.c_rules.specs.Conversions.{Operand, same_effect, value_shape, is_lvalue, decays, alike, value_of as value_node, value_as}
use Rattle.c_rules.specs.Evaluation.{decided_by}
use Rattle.c_rules.specs.Nodes.{int_shape}
use Rattle.c_rules.specs.Operators.{sides}
use Rattle.c_semantics.specs.Values.{kind_of, cast_value, as_type, unary_value, value_at, stored, member_at, member_value, around_member, object_pointer}
use Rattle.c_semantics.specs.Places.{Activation, outer_of, local_of, literal_number, array_number, arrays_in}
use Rattle.c_semantics.specs.Operations.{Action, ◌>>=◌, gives, known, seen, changes, Seen, At, Is, is_value, is_told, valued, placed, single, indirect, operated, computed, subscripted, decided, chosen, member, member_of_value, array_object, assigned, compound, operator_of, stepped, result_of, called, local_object, Object, literal_object, initialised}
use Rattle.typed_semantics.specs.Expressions.{value_of, single_of, holds, hop, t_exp, t_arguments, t_inits}
use Rattle.c_elaboration.proofs.Actions.{then_then, then_gives, then_same}

-- an action gives a value

pub record Valued (go : Action Seen) : Type 0 where
  pub same : (a : Activation) (s : Shape) → (go >>= (λ x. valued a s x >>= (λ d. gives (Is d)))) ≡ go

pub of_value : (d : Datum) → Valued (gives (Is d))
of_value d = record { same = λ a s. refl }

pub of_behind : {A : Type 0} (go : Action A) (next : A → Action Seen) → ((x : A) → Valued (next x)) → Valued (go >>= next)
of_behind go next h = record { same = λ a s. then_then go next (λ x. valued a s x >>= (λ d. gives (Is d))) ∙ then_same go (λ x. next x >>= (λ y. valued a s y >>= (λ d. gives (Is d)))) next (λ x. (h x).same a s) }

pub of_datum : (go : Action Datum) → Valued (go >>= (λ d. gives (Is d)))
of_datum go = of_behind go (λ d. gives (Is d)) of_value

pub of_same : (go to : Action Seen) → go ≡ to → Valued to → Valued go
of_same go to e v = subst Valued (sym e) v

-- what is read of a value is the value
pub read : (a : Activation) (s : Shape) (go : Action Seen) → Valued go → ((go >>= valued a s) >>= (λ d. gives (Is d))) ≡ go
read a s go v = then_then go (valued a s) (λ d. gives (Is d)) ∙ v.same a s

-- what comes behind a value sees a value
pub behind_value : {B : Type 0} (a : Activation) (s : Shape) (go : Action Seen) (f g : Seen → Action B) → Valued go → ((d : Datum) → f (Is d) ≡ g (Is d)) → (go >>= f) ≡ (go >>= g)
behind_value {B} a s go f g v h =
    ap (λ (x : Action Seen). x >>= f) (sym (read a s go v))
    ∙ (then_then (go >>= valued a s) (λ d. gives (Is d)) f
    ∙ (then_same (go >>= valued a s) (λ d. f (Is d)) (λ d. g (Is d)) h
    ∙ (sym (then_then (go >>= valued a s) (λ d. gives (Is d)) g)
    ∙ ap (λ (x : Action Seen). x >>= g) (read a s go v))))

-- an action gives a place

pub record Placed (go : Action Seen) : Type 0 where
  pub same : (go >>= (λ x. placed x >>= (λ v. gives (At v)))) ≡ go

of_place : (v : Value) → Placed (gives (At v))
of_place v = record { same = refl }

behind_places : {A : Type 0} (go : Action A) (next : A → Action Seen) → ((x : A) → Placed (next x)) → Placed (go >>= next)
behind_places go next h = record { same = then_then go next (λ x. placed x >>= (λ v. gives (At v))) ∙ then_same go (λ x. next x >>= (λ y. placed y >>= (λ v. gives (At v)))) next (λ x. (h x).same) }

-- what comes behind a place sees a place
pub behind_place : {B : Type 0} (go : Action Seen) (f g : Seen → Action B) → Placed go → ((v : Value) → f (At v) ≡ g (At v)) → (go >>= f) ≡ (go >>= g)
behind_place {B} go f g p h =
    ap (λ (x : Action Seen). x >>= f) (sym p.same)
    ∙ (then_then go (λ x. placed x >>= (λ v. gives (At v))) f
    ∙ (then_same go (λ x. (placed x >>= (λ v. gives (At v))) >>= f) (λ x. (placed x >>= (λ v. gives (At v))) >>= g) each
    ∙ (sym (then_then go (λ x. placed x >>= (λ v. gives (At v))) g)
    ∙ ap (λ (x : Action Seen). x >>= g) p.same)))
  where
    each : (x : Seen) → ((placed x >>= (λ v. gives (At v))) >>= f) ≡ ((placed x >>= (λ v. gives (At v))) >>= g)
    each (At v) = h v
    each (Is d) = refl

indirect_placed : (v : Value) → Placed (indirect v)
indirect_placed v = behind_places (known (place_of v)) (λ w. gives (At w)) of_place

member_placed : (a : Activation) (n : ℕ) (outer : Option (ℕ × ℕ)) (h : Hop) (v : Value) → Placed (member a n outer h (At v))
member_placed a n outer h v = behind_places (seen (λ m. member_at a.types m h.aggregate h.index v)) (λ w. gives (At w)) of_place

-- lvalues (6.3.2.1p1)
pub places : (a : Activation) (enter : Enter) (e : Typed) (k : ℕ) → is_place e ≡ true → Placed (t_exp a enter e k)
places a enter (Has q s f (Local n)) k h = of_place (object_pointer (local_of a n) 0)
places a enter (Has q s f (Literal n init)) k h =
    let o : Object = literal_object a n (record { quals = q; shape = s }) in
    behind_places {A = Unit {0}} (initialised o (t_inits a enter o init k)) (λ u. gives (local_object a (literal_number a n))) (λ u. of_place (object_pointer (local_of a (literal_number a n)) 0))
places a enter (Has q s f (Entity n)) k h = behind_places {A = ℕ} (known (slice_get a.entities n)) (λ e. gives (At (object_pointer (UnitObject (record { 0 = e })) 0))) (λ e. of_place (object_pointer (UnitObject (record { 0 = e })) 0))
places a enter (Has q s f (Indirect e)) k h = behind_places {A = Value} (single_of a e (t_exp a enter e k)) indirect indirect_placed
places a enter (Has q s f (Subscript l r)) k h =
    behind_places {A = Datum} (value_of a l (t_exp a enter l k)) (λ d. value_of a r (t_exp a enter r (k + arrays_in l)) >>= (λ e. subscripted a (sides (shape_in l) (shape_in r) s) d e))
    (λ d. behind_places {A = Datum} (value_of a r (t_exp a enter r (k + arrays_in l))) (λ e. subscripted a (sides (shape_in l) (shape_in r) s) d e)
    (λ e. behind_places {A = Datum} (computed a Add (shape_in l) (shape_in r) d e) (λ x. single x >>= indirect) (λ x. behind_places {A = Value} (single x) indirect indirect_placed)))
places a enter (Has q s f (Member e g i)) k h = record {
  same =
      then_then (t_exp a enter e k) (member a (array_number a (k + arrays_in e)) (outer_of a.types e) (hop (record { quals = q; shape = s }) g i)) (λ x. placed x >>= (λ v. gives (At v)))
      ∙ behind_place (t_exp a enter e k) (λ x. member a (array_number a (k + arrays_in e)) (outer_of a.types e) (hop (record { quals = q; shape = s }) g i) x >>= (λ y. placed y >>= (λ v. gives (At v))))
      (member a (array_number a (k + arrays_in e)) (outer_of a.types e) (hop (record { quals = q; shape = s }) g i)) (places a enter e k h)
      (λ v. (member_placed a (array_number a (k + arrays_in e)) (outer_of a.types e) (hop (record { quals = q; shape = s }) g i) v).same);
}
places a enter (Has q s f (Integer n)) k h = cc
places a enter (Has q s f (Load e)) k h = cc
places a enter (Has q s f (Decay e)) k h = cc
places a enter (Has q s f (Address e)) k h = cc
places a enter (Has q s f (Convert e)) k h = cc
places a enter (Has q s f (Unary op e)) k h = cc
places a enter (Has q s f (Binary op l r)) k h = cc
places a enter (Has q s f (Logical op l r)) k h = cc
places a enter (Has q s f (Conditional x y z)) k h = cc
places a enter (Has q s f (Comma l r)) k h = cc
places a enter (Has q s f (Assign l r)) k h = cc
places a enter (Has q s f (Compute op at l r)) k h = cc
places a enter (Has q s f (Step form at e)) k h = cc
places a enter (Has q s f (Call g es)) k h = cc

-- members of values are those of structures and unions
abbrev mutual
  pub OfRecords : Typed → Type 0
  OfRecords (Has q s f form) = of_records form

  of_records : Form → Type 0
  of_records (Member e g i) = is_place e ≡ false → (decays (shape_in e) ≡ false) × OfRecords e
  of_records _ = Unit {0}

assigned_valued : (a : Activation) (s : Shape) (at : Value) (d : Datum) → Valued (assigned a s at d)
assigned_valued a s at d =
    of_behind {A = Unit {0}} (changes (stored a.types s at d)) (λ u. seen (λ m. value_at a.types m s at) >>= (λ e. gives (Is e))) (λ u. of_datum (seen (λ m. value_at a.types m s at)))

result_valued : (form : StepForm) (old : Datum) (go : Action Seen) → Valued go → Valued (go >>= (λ z. gives (result_of form old z)))
result_valued PreIncrement old go v = of_same (go >>= (λ z. gives z)) go (then_gives go) v
result_valued PreDecrement old go v = of_same (go >>= (λ z. gives z)) go (then_gives go) v
result_valued PostIncrement old go v = of_behind {A = Seen} go (λ z. gives (Is old)) (λ z. of_value old)
result_valued PostDecrement old go v = of_behind {A = Seen} go (λ z. gives (Is old)) (λ z. of_value old)

abbrev added : Activation → StepForm → Shape → Datum → Action Datum
added a form by d = computed a (operator_of form) by int_shape d (Single (Int (pos 1)))

stepped_valued : (a : Activation) (form : StepForm) (by s : Shape) (at : Value) → Valued (stepped a form by s at)
stepped_valued a form by s at =
    of_behind {A = Datum} (seen (λ m. value_at a.types m s at)) (λ old. known (as_type a.types s by old) >>= (λ d. added a form by d >>= (λ x. known (as_type a.types by s x) >>= (λ y. assigned a s at y >>= (λ z. gives (result_of form old z))))))
    (λ old. of_behind {A = Datum} (known (as_type a.types s by old)) (λ d. added a form by d >>= (λ x. known (as_type a.types by s x) >>= (λ y. assigned a s at y >>= (λ z. gives (result_of form old z)))))
    (λ d. of_behind {A = Datum} (added a form by d) (λ x. known (as_type a.types by s x) >>= (λ y. assigned a s at y >>= (λ z. gives (result_of form old z))))
    (λ x. of_behind {A = Datum} (known (as_type a.types by s x)) (λ y. assigned a s at y >>= (λ z. gives (result_of form old z))) (λ y. result_valued form old (assigned a s at y) (assigned_valued a s at y)))))

compound_valued : (a : Activation) (op : BinOp) (by r s : Shape) (at : Value) (right : Action Datum) → Valued (compound a op by r s at right)
compound_valued a op by r s at right =
    of_behind {A = Datum} (seen (λ m. value_at a.types m s at)) (λ old. known (as_type a.types s by old) >>= (λ d. right >>= (λ e. computed a op by r d e >>= (λ x. known (as_type a.types by s x) >>= (λ y. assigned a s at y)))))
    (λ old. of_behind {A = Datum} (known (as_type a.types s by old)) (λ d. right >>= (λ e. computed a op by r d e >>= (λ x. known (as_type a.types by s x) >>= (λ y. assigned a s at y))))
    (λ d. of_behind {A = Datum} right (λ e. computed a op by r d e >>= (λ x. known (as_type a.types by s x) >>= (λ y. assigned a s at y)))
    (λ e. of_behind {A = Datum} (computed a op by r d e) (λ x. known (as_type a.types by s x) >>= (λ y. assigned a s at y))
    (λ x. of_behind {A = Datum} (known (as_type a.types by s x)) (λ y. assigned a s at y) (λ y. assigned_valued a s at y)))))

operated_valued : (a : Activation) (op : UnOp) (s : Shape) (d : Datum) → Valued (operated a op s d)
operated_valued a op s d =
    of_behind {A = Value} (single d) (λ v. seen (λ m. unary_value a.types m op s v) >>= (λ w. gives (is_value w)))
    (λ v. of_behind {A = Value} (seen (λ m. unary_value a.types m op s v)) (λ w. gives (is_value w)) (λ w. of_value (Single w)))

converted_valued : (a : Activation) (to : Shape) (go : Action Datum) → Valued (go >>= (λ d. known (cast_value a.types to d) >>= (λ v. gives (is_value v))))
converted_valued a to go =
    of_behind {A = Datum} go (λ d. known (cast_value a.types to d) >>= (λ v. gives (is_value v))) (λ d. of_behind {A = Value} (known (cast_value a.types to d)) (λ v. gives (is_value v)) (λ v. of_value (Single v)))

decays_array : (s : Shape) → decays s ≡ false → is_array s ≡ false
decays_array VoidType e = refl
decays_array (IntType k) e = refl
decays_array (PtrType q s) e = refl
decays_array (ArrayType q s n) e = cc
decays_array (FuncType r ss p v) e = refl
decays_array (AggType a) e = refl

member_valued : (a : Activation) (n : ℕ) (o : Option (ℕ × ℕ)) (g i : ℕ) (q : Quals) (s : Shape) (d : Datum) → is_array s ≡ false → Valued (member a n o (hop (record { quals = q; shape = s }) g i) (Is d))
member_valued a n o g i q s d e =
    of_same _ (member_of_value a n (hop (record { quals = q; shape = s }) g i) d) (ap (λ b. chosen b (array_object a n (around_member a.types o g i d)) (member_of_value a n (hop (record { quals = q; shape = s }) g i) d)) e) (of_datum (known (member_value a.types g i s d)))

-- what is no lvalue and does not decay gives a value
pub values : (a : Activation) (enter : Enter) (e : Typed) (k : ℕ) → OfRecords e → is_place e ≡ false → decays (shape_in e) ≡ false → Valued (t_exp a enter e k)
values a enter (Has q s f (Integer n)) k o h i = of_value (Single (Int n))
values a enter (Has q s f (Load e)) k o h i = of_datum (value_of a e (t_exp a enter e k))
values a enter (Has q s f (Decay e)) k o h i = of_datum (value_of a e (t_exp a enter e k))
values a enter (Has q s f (Address e)) k o h i = of_behind {A = Seen} (t_exp a enter e k) (λ x. placed x >>= (λ v. gives (is_value v))) (λ x. of_behind {A = Value} (placed x) (λ v. gives (is_value v)) (λ v. of_value (Single v)))
values a enter (Has q s f (Convert e)) k o h i = converted_valued a s (value_of a e (t_exp a enter e k))
values a enter (Has q s f (Unary op e)) k o h i = of_behind {A = Datum} (value_of a e (t_exp a enter e k)) (operated a op (shape_in e)) (operated_valued a op (shape_in e))
values a enter (Has q s f (Binary op l r)) k o h i =
    of_behind {A = Datum} (value_of a l (t_exp a enter l k)) (λ d. value_of a r (t_exp a enter r (k + arrays_in l)) >>= (λ e. computed a op (shape_in l) (shape_in r) d e >>= (λ v. gives (Is v))))
    (λ d. of_behind {A = Datum} (value_of a r (t_exp a enter r (k + arrays_in l))) (λ e. computed a op (shape_in l) (shape_in r) d e >>= (λ v. gives (Is v))) (λ e. of_datum (computed a op (shape_in l) (shape_in r) d e)))
values a enter (Has q s f (Logical op l r)) k o h i =
    of_behind {A = Bool} (holds a l (t_exp a enter l k)) (λ x. decided (decided_by op x) (holds a r (t_exp a enter r (k + arrays_in l))) >>= (λ y. gives (is_told y)))
    (λ x. of_behind {A = Bool} (decided (decided_by op x) (holds a r (t_exp a enter r (k + arrays_in l)))) (λ y. gives (is_told y)) (λ y. of_value (Single (Int (told y)))))
values a enter (Has q s f (Conditional x y z)) k o h i =
    of_behind {A = Bool} (holds a x (t_exp a enter x k)) (λ b. chosen b (value_of a y (t_exp a enter y (k + arrays_in x))) (value_of a z (t_exp a enter z (k + arrays_in x + arrays_in y))) >>= (λ d. gives (Is d)))
    (λ b. of_datum (chosen b (value_of a y (t_exp a enter y (k + arrays_in x))) (value_of a z (t_exp a enter z (k + arrays_in x + arrays_in y)))))
values a enter (Has q s f (Comma l r)) k o h i =
    of_behind {A = Datum} (value_of a l (t_exp a enter l k)) (λ d. value_of a r (t_exp a enter r (k + arrays_in l)) >>= (λ e. gives (Is e))) (λ d. of_datum (value_of a r (t_exp a enter r (k + arrays_in l))))
values a enter (Has q s f (Assign l r)) k o h i =
    of_behind {A = Seen} (t_exp a enter l k) (λ x. placed x >>= (λ at. value_of a r (t_exp a enter r (k + arrays_in l)) >>= (λ d. assigned a (shape_in l) at d)))
    (λ x. of_behind {A = Value} (placed x) (λ at. value_of a r (t_exp a enter r (k + arrays_in l)) >>= (λ d. assigned a (shape_in l) at d))
    (λ at. of_behind {A = Datum} (value_of a r (t_exp a enter r (k + arrays_in l))) (λ d. assigned a (shape_in l) at d) (λ d. assigned_valued a (shape_in l) at d)))
values a enter (Has q s f (Compute op by l r)) k o h i =
    of_behind {A = Seen} (t_exp a enter l k) (λ x. placed x >>= (λ at. compound a op by (shape_in r) (shape_in l) at (value_of a r (t_exp a enter r (k + arrays_in l)))))
    (λ x. of_behind {A = Value} (placed x) (λ at. compound a op by (shape_in r) (shape_in l) at (value_of a r (t_exp a enter r (k + arrays_in l)))) (λ at. compound_valued a op by (shape_in r) (shape_in l) at (value_of a r (t_exp a enter r (k + arrays_in l)))))
values a enter (Has q s f (Step form by e)) k o h i =
    of_behind {A = Seen} (t_exp a enter e k) (λ x. placed x >>= (λ at. stepped a form by (shape_in e) at)) (λ x. of_behind {A = Value} (placed x) (λ at. stepped a form by (shape_in e) at) (λ at. stepped_valued a form by (shape_in e) at))
values a enter (Has q s f (Call g es)) k o h i =
    of_behind {A = Value} (single_of a g (t_exp a enter g k)) (λ v. t_arguments a enter es (k + arrays_in g) >>= (λ xs. called a enter s v xs))
    (λ v. of_behind {A = List Argument} (t_arguments a enter es (k + arrays_in g)) (λ xs. called a enter s v xs) (λ xs. of_datum (enter (record { abi = a.types.abi; callee = v; result = kind_of a.types s; arguments = xs }))))
values a enter (Has q s f (Member e g n)) k o h i = record {
  same = λ b r.
      then_then (t_exp a enter e k) (member a (array_number a (k + arrays_in e)) (outer_of a.types e) (hop (record { quals = q; shape = s }) g n)) (λ x. valued b r x >>= (λ d. gives (Is d)))
      ∙ behind_value a s (t_exp a enter e k) (λ x. member a (array_number a (k + arrays_in e)) (outer_of a.types e) (hop (record { quals = q; shape = s }) g n) x >>= (λ y. valued b r y >>= (λ d. gives (Is d))))
      (member a (array_number a (k + arrays_in e)) (outer_of a.types e) (hop (record { quals = q; shape = s }) g n)) (values a enter e k (o h).1 h (o h).0)
      (λ d. (member_valued a (array_number a (k + arrays_in e)) (outer_of a.types e) g n q s d (decays_array s i)).same b r);
}
values a enter (Has q s f (Local n)) k o h i = cc
values a enter (Has q s f (Literal n init)) k o h i = cc
values a enter (Has q s f (Entity n)) k o h i = cc
values a enter (Has q s f (Indirect e)) k o h i = cc
values a enter (Has q s f (Subscript l r)) k o h i = cc

-- the value of an operand that is not void

no_place : (e : Typed) → is_lvalue e ≡ false → decays (shape_in e) ≡ false → is_void (shape_in e) ≡ false → is_place e ≡ false
no_place e h i j = by (is_place e) (is_void (shape_in e)) (is_array (shape_in e)) (is_function (shape_in e)) h i j
  where
    by : (p v r f : Bool) → p && not (v || f) ≡ false → r || f ≡ false → v ≡ false → p ≡ false
    by false v r f h i j = refl
    by true false false false h i j = cc
    by true false false true h i j = cc
    by true false true f h i j = cc
    by true true r f h i j = cc

picked : Bool → Bool → Typed → Typed
picked b c e = if b then same_effect (value_shape (shape_in e)) e (Decay e) else (if c then same_effect (shape_in e) e (Load e) else e)

picked_value : (a : Activation) (enter : Enter) (b c : Bool) (e : Typed) (k : ℕ) → OfRecords e → decays (shape_in e) ≡ b → is_lvalue e ≡ c → is_void (shape_in e) ≡ false → Valued (t_exp a enter (picked b c e) k)
unfolding picked
picked_value a enter true c e k o h i j = of_datum (value_of a e (t_exp a enter e k))
picked_value a enter false true e k o h i j = of_datum (value_of a e (t_exp a enter e k))
picked_value a enter false false e k o h i j = values a enter e k o (no_place e i h j) h

pub value_valued : (a : Activation) (enter : Enter) (x : Operand) (k : ℕ) → OfRecords x.typed → is_void (shape_in x.typed) ≡ false → Valued (t_exp a enter (value_node x.typed) k)
unfolding picked
value_valued a enter x k o h = picked_value a enter (decays (shape_in x.typed)) (is_lvalue x.typed) x.typed k o refl refl h

turned : Bool → Shape → Typed → Typed
turned b to e = if b then e else same_effect to e (Convert e)

turned_value : (a : Activation) (enter : Enter) (b : Bool) (to : Shape) (e : Typed) (k : ℕ) → Valued (t_exp a enter e k) → Valued (t_exp a enter (turned b to e) k)
unfolding turned
turned_value a enter true to e k v = v
turned_value a enter false to e k v = converted_valued a to (value_of a e (t_exp a enter e k))

pub as_valued : (a : Activation) (enter : Enter) (to : Shape) (x : Operand) (k : ℕ) → OfRecords x.typed → is_void (shape_in x.typed) ≡ false → Valued (t_exp a enter (value_as to x) k)
unfolding turned
as_valued a enter to x k o h = turned_value a enter (alike (shape_in (value_node x.typed)) to) to (value_node x.typed) k (value_valued a enter x k o h)

-- the parts of values are of records
picked_records : (b c : Bool) (e : Typed) → OfRecords e → OfRecords (picked b c e)
unfolding picked
picked_records true c e o = tt
picked_records false true e o = tt
picked_records false false e o = o

pub value_records : (e : Typed) → OfRecords e → OfRecords (value_node e)
unfolding picked
value_records e o = picked_records (decays (shape_in e)) (is_lvalue e) e o

turned_records : (b : Bool) (to : Shape) (e : Typed) → OfRecords e → OfRecords (turned b to e)
unfolding turned
turned_records true to e o = o
turned_records false to e o = tt

pub as_records : (to : Shape) (x : Operand) → OfRecords x.typed → OfRecords (value_as to x)
unfolding turned
as_records to x o = turned_records (alike (shape_in (value_node x.typed)) to) to (value_node x.typed) (value_records x.typed o)
