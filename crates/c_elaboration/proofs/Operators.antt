-- Device: each operator does with typed operands what it does with operands by their types (6.5).
use Rattle.std.proofs.Common.{◌≡◌, ℕ, ◌+◌, Bool, true, false, not, ◌&&◌, List, ◌∷◌, Option, Some, None, option_map, refl, sym, ap, ◌∙◌, inl}
use Rattle.std.proofs.Math.Path.{fun_ext}
use Rattle.std.specs.Prelude.{if◌then◌else◌}
use Rattle.cil_base.specs.declared.operators.BinOp.{BinOp}
use Rattle.cil_base.specs.declared.operators.BinOp.TheVariants.{Add}
use Rattle.cil_base.specs.declared.operators.UnOp.{UnOp}
use Rattle.cil_base.specs.declared.operators.UnOp.TheVariants.{Not}
use Rattle.byte_mem.specs.declared.values.Value.{Value}
use Rattle.type_graph.specs.Shapes.{Shape, VoidType, IntType, PtrType, ArrayType, FuncType, AggType}
use Rattle.execution.specs.Data.{Kind, Datum, Single, Argument}
use Rattle.execution.specs.Calls.{Enter}
use Rattle.typed_tree.specs.Tree.{Typed, Convert, shape_in}
use Rattle.c_rules.specs.Types.{Types, Hop, is_void}
use Rattle.c_rules.specs.Conversions.{Operand, shape_of, value_shape, promoted_shape, same_shape, same_effect, value_of as value_node, value_as}
use Rattle.c_rules.specs.Nodes.{cast_to as cast_node, along as along_node}
use Rattle.c_rules.specs.Operators.{Sides, sides, binary_sides, subscript_sides, compound_sides, branch_shape}
use Rattle.c_tree.specs.declared.words.UnaryOp.TheVariants.{Plus, Not as Negation}
use Rattle.c_semantics.specs.Values.{cast_value, as_type, value_at, holds_of, kind_of}
use Rattle.c_semantics.specs.Places.{Activation, outer_of, array_number, arrays_in}
use Rattle.c_semantics.specs.Operations.{Action, ◌>>=◌, gives, known, seen, Seen, Is, is_value, placed, used, taken, pointed, tested, indirect, operated, computed, subscripted, chosen, along, assigned, compound, single}
use Rattle.c_semantics.specs.Expressions as syntax
use Rattle.typed_semantics.specs.Expressions as typed
use Rattle.typed_semantics.specs.Expressions.{value_of, t_exp}
use Rattle.c_elaboration.proofs.Actions.{then_same}
use Rattle.c_elaboration.proofs.Shapes.{Near, shape_told}
use Rattle.c_elaboration.proofs.Operands.{used_is, taken_is, arrays_of_value, arrays_as, near_as, shape_of_value}
use Rattle.c_elaboration.proofs.Values.{kind_near, operated_near, computed_near}
use Rattle.c_elaboration.proofs.Forms.{OfRecords, read, value_valued, as_valued}
use Rattle.c_elaboration.proofs.Members.{Through, along_is}

-- a rule that gives something
pub ruled : {A B : Type 0} (o : Option A) (z : A) (f : A → Action B) → o ≡ Some z → (known o >>= f) ≡ f z
ruled {A} {B} o z f e = ap (λ (p : Option A). known p >>= f) e

both_same : {B : Type 0} (p p' q q' : Action Datum) (f g : Datum → Datum → Action B) → p ≡ p' → q ≡ q' → ((d e : Datum) → f d e ≡ g d e) → (p >>= (λ d. q >>= (λ e. f d e))) ≡ (p' >>= (λ d. q' >>= (λ e. g d e)))
both_same {B} p p' q q' f g i j h =
    ap (λ (x : Action Datum). x >>= (λ d. q >>= (λ e. f d e))) i
    ∙ (ap (λ (x : Action Datum). p' >>= (λ d. x >>= (λ e. f d e))) j
    ∙ ap (λ (k : Datum → Datum → Action B). p' >>= (λ d. q' >>= (λ e. k d e))) (fun_ext (λ d. fun_ext (λ e. h d e))))

module _ (a : Activation) (enter : Enter) where
  abbrev pub runs : Operand → ℕ → Action Seen
  runs x k = t_exp a enter x.typed k

  -- the second operand of two
  behind_as : (s to : Shape) (x y : Operand) (k : ℕ) → value_of a (value_as to y) (t_exp a enter (value_as to y) (k + arrays_in (value_as s x))) ≡ taken a y to (runs y (k + arrays_in x.typed))
  behind_as s to x y k = taken_is a enter y to (k + arrays_in (value_as s x)) ∙ ap (λ n. taken a y to (runs y (k + n))) (arrays_as s x)

  pub index_is : (t : Types) (x y : Operand) (z : Sides) → subscript_sides t x y ≡ Some z → (s : Shape) (k : ℕ)
      → syntax.of_index a t x y (runs x k) (runs y (k + arrays_in x.typed))
      ≡ typed.of_subscript a s (value_as z.left x) (value_as z.right y) (t_exp a enter (value_as z.left x) k) (t_exp a enter (value_as z.right y) (k + arrays_in (value_as z.left x)))
  index_is t x y z h s k =
      ruled (subscript_sides t x y) z (λ w. taken a x w.left (runs x k) >>= (λ d. taken a y w.right (runs y (k + arrays_in x.typed)) >>= (λ e. subscripted a w d e))) h
      ∙ both_same _ _ _ _ (λ d e. subscripted a z d e) (λ d e. subscripted a (sides (shape_in (value_as z.left x)) (shape_in (value_as z.right y)) s) d e)
      (sym (taken_is a enter x z.left k)) (sym (behind_as z.left z.right x y k))
      (λ d e. ap (λ (go : Action Datum). go >>= (λ v. single v >>= indirect)) (sym (computed_near a Add _ z.left _ z.right (near_as z.left x) (near_as z.right y) d e)))

  pub binary_is : (t : Types) (op : BinOp) (x y : Operand) (z : Sides) → binary_sides t op x y ≡ Some z → (k : ℕ)
      → syntax.of_binary a t op x y (runs x k) (runs y (k + arrays_in x.typed))
      ≡ typed.of_binary a op (value_as z.left x) (value_as z.right y) (t_exp a enter (value_as z.left x) k) (t_exp a enter (value_as z.right y) (k + arrays_in (value_as z.left x)))
  binary_is t op x y z h k =
      ruled (binary_sides t op x y) z (λ w. taken a x w.left (runs x k) >>= (λ d. taken a y w.right (runs y (k + arrays_in x.typed)) >>= (λ e. computed a op w.left w.right d e >>= (λ v. gives (Is v))))) h
      ∙ both_same _ _ _ _ (λ d e. computed a op z.left z.right d e >>= (λ v. gives (Is v))) (λ d e. computed a op (shape_in (value_as z.left x)) (shape_in (value_as z.right y)) d e >>= (λ v. gives (Is v)))
      (sym (taken_is a enter x z.left k)) (sym (behind_as z.left z.right x y k))
      (λ d e. ap (λ (go : Action Datum). go >>= (λ v. gives (Is v))) (sym (computed_near a op _ z.left _ z.right (near_as z.left x) (near_as z.right y) d e)))

  -- tests (6.5.13 to 6.5.15)
  pub tested_is : (x : Operand) (k : ℕ) → typed.holds a (value_node x.typed) (t_exp a enter (value_node x.typed) k) ≡ tested a x (runs x k)
  tested_is x k =
      ap (λ (go : Action Datum). go >>= (λ d. seen (λ m. holds_of a.types m (shape_in (value_node x.typed)) d))) (used_is a enter x k)
      ∙ ap (λ (s : Shape). used a x (runs x k) >>= (λ d. seen (λ m. holds_of a.types m s d))) (shape_of_value x)

  pub behind_tested : (x y : Operand) (k : ℕ) → typed.holds a (value_node y.typed) (t_exp a enter (value_node y.typed) (k + arrays_in (value_node x.typed))) ≡ tested a y (runs y (k + arrays_in x.typed))
  behind_tested x y k = tested_is y (k + arrays_in (value_node x.typed)) ∙ ap (λ n. tested a y (runs y (k + n))) (arrays_of_value x.typed)

  abbrev pub first_of : Operand → Operand → Shape → ℕ → Action Datum
  first_of x y s k = value_of a (value_as s y) (t_exp a enter (value_as s y) (k + arrays_in (value_node x.typed)))

  abbrev pub second_of : Operand → Operand → Operand → Shape → ℕ → Action Datum
  second_of x y w s k = value_of a (value_as s w) (t_exp a enter (value_as s w) (k + arrays_in (value_node x.typed) + arrays_in (value_as s y)))

  first_is : (x y : Operand) (s : Shape) (k : ℕ) → first_of x y s k ≡ taken a y s (runs y (k + arrays_in x.typed))
  first_is x y s k = taken_is a enter y s (k + arrays_in (value_node x.typed)) ∙ ap (λ n. taken a y s (runs y (k + n))) (arrays_of_value x.typed)

  second_is : (x y w : Operand) (s : Shape) (k : ℕ) → second_of x y w s k ≡ taken a w s (runs w (k + arrays_in x.typed + arrays_in y.typed))
  second_is x y w s k =
      taken_is a enter w s (k + arrays_in (value_node x.typed) + arrays_in (value_as s y))
      ∙ (ap (λ n. taken a w s (runs w (k + n + arrays_in (value_as s y)))) (arrays_of_value x.typed)
      ∙ ap (λ n. taken a w s (runs w (k + arrays_in x.typed + n))) (arrays_as s y))

  pub conditional_is : (t : Types) (x y w : Operand) (s : Shape) → branch_shape t y w ≡ Some s → (k : ℕ)
      → syntax.of_conditional a t x y w (runs x k) (runs y (k + arrays_in x.typed)) (runs w (k + arrays_in x.typed + arrays_in y.typed))
      ≡ typed.of_conditional a (value_node x.typed) (value_as s y) (value_as s w) (t_exp a enter (value_node x.typed) k) (t_exp a enter (value_as s y) (k + arrays_in (value_node x.typed))) (t_exp a enter (value_as s w) (k + arrays_in (value_node x.typed) + arrays_in (value_as s y)))
  conditional_is t x y w s h k =
      ruled (branch_shape t y w) s (λ to. tested a x (runs x k) >>= (λ b. chosen b (taken a y to (runs y (k + arrays_in x.typed))) (taken a w to (runs w (k + arrays_in x.typed + arrays_in y.typed))) >>= (λ d. gives (Is d)))) h
      ∙ sym (
      ap (λ (go : Action Bool). go >>= (λ b. chosen b (first_of x y s k) (second_of x y w s k) >>= (λ d. gives (Is d)))) (tested_is x k)
      ∙ (ap (λ (go : Action Datum). tested a x (runs x k) >>= (λ b. chosen b go (second_of x y w s k) >>= (λ d. gives (Is d)))) (first_is x y s k)
      ∙ ap (λ (go : Action Datum). tested a x (runs x k) >>= (λ b. chosen b (taken a y s (runs y (k + arrays_in x.typed))) go >>= (λ d. gives (Is d)))) (second_is x y w s k)))

  pub comma_is : (x y : Operand) (k : ℕ)
      → syntax.of_comma a x y (runs x k) (runs y (k + arrays_in x.typed))
      ≡ typed.of_comma a (value_node x.typed) (value_node y.typed) (t_exp a enter (value_node x.typed) k) (t_exp a enter (value_node y.typed) (k + arrays_in (value_node x.typed)))
  comma_is x y k =
      both_same _ _ _ _ (λ d e. gives (Is e)) (λ d e. gives (Is e)) (sym (used_is a enter x k))
      (sym (used_is a enter y (k + arrays_in (value_node x.typed)) ∙ ap (λ n. used a y (runs y (k + n))) (arrays_of_value x.typed))) (λ d e. refl)

  -- assignments (6.5.16)
  pub assign_is : (t : Types) (x y : Operand) (k : ℕ)
      → syntax.of_assign a t None x y (runs x k) (runs y (k + arrays_in x.typed))
      ≡ typed.of_assign a x.typed (value_as (shape_in x.typed) y) (runs x k) (t_exp a enter (value_as (shape_in x.typed) y) (k + arrays_in x.typed))
  assign_is t x y k = ap (λ (go : Action Datum). runs x k >>= (λ l. placed l >>= (λ at. go >>= (λ d. assigned a (shape_in x.typed) at d)))) (sym (taken_is a enter y (shape_in x.typed) (k + arrays_in x.typed)))

  abbrev pub computes : BinOp → Shape → Shape → Value → Action Datum → (Datum → Datum → Action Datum) → Action Seen
  computes op by s at right f =
      seen (λ m. value_at a.types m s at) >>= (λ old. known (as_type a.types s by old) >>= (λ d. right >>= (λ e. f d e >>= (λ x. known (as_type a.types by s x) >>= (λ y. assigned a s at y)))))

  pub compute_is : (t : Types) (op : BinOp) (x y : Operand) (z : Sides) → compound_sides t op x y ≡ Some z → (k : ℕ)
      → syntax.of_assign a t (Some op) x y (runs x k) (runs y (k + arrays_in x.typed))
      ≡ typed.of_compute a op z.left x.typed (value_as z.right y) (runs x k) (t_exp a enter (value_as z.right y) (k + arrays_in x.typed))
  compute_is t op x y z h k =
      ruled (compound_sides t op x y) z (λ w. runs x k >>= (λ l. placed l >>= (λ at. compound a op w.left w.right (shape_in x.typed) at (taken a y w.right (runs y (k + arrays_in x.typed)))))) h
      ∙ (ap (λ (go : Action Datum). runs x k >>= (λ l. placed l >>= (λ at. compound a op z.left z.right (shape_in x.typed) at go))) (sym (taken_is a enter y z.right (k + arrays_in x.typed)))
      ∙ ap (λ (f : Datum → Datum → Action Datum). runs x k >>= (λ l. placed l >>= (λ at. computes op z.left (shape_in x.typed) at (value_of a (value_as z.right y) (t_exp a enter (value_as z.right y) (k + arrays_in x.typed))) f)))
      (fun_ext (λ d. fun_ext (λ e. sym (computed_near a op z.left z.left (shape_in (value_as z.right y)) z.right (near_itself z.left) (near_as z.right y) d e)))))
    where
      near_itself : (s : Shape) → Near s s
      near_itself s = inl refl

  -- unary operators (6.5.3.3)
  pub operated_is : (op : UnOp) (x : Operand) (to : Shape) (k : ℕ)
      → (taken a x to (runs x k) >>= operated a op to) ≡ typed.of_unary a op (value_as to x) (t_exp a enter (value_as to x) k)
  operated_is op x to k =
      ap (λ (go : Action Datum). go >>= operated a op to) (sym (taken_is a enter x to k))
      ∙ then_same (value_of a (value_as to x) (t_exp a enter (value_as to x) k)) (operated a op to) (operated a op (shape_in (value_as to x))) (λ d. sym (operated_near a op d (shape_in (value_as to x)) to (near_as to x)))

  pub negated_is : (t : Types) (x : Operand) (k : ℕ) → syntax.of_unary a t Negation x (runs x k) ≡ typed.of_unary a Not (value_node x.typed) (t_exp a enter (value_node x.typed) k)
  negated_is t x k =
      ap (λ (go : Action Datum). go >>= operated a Not (shape_of x)) (sym (used_is a enter x k))
      ∙ ap (λ (s : Shape). value_of a (value_node x.typed) (t_exp a enter (value_node x.typed) k) >>= operated a Not s) (sym (shape_of_value x))

  pub plus_is : (t : Types) (x : Operand) (k : ℕ) → OfRecords x.typed → is_void (shape_in x.typed) ≡ false → syntax.of_unary a t Plus x (runs x k) ≡ t_exp a enter (value_as (promoted_shape t (shape_of x)) x) k
  plus_is t x k o h =
      let to : Shape = promoted_shape t (shape_of x) in
      ap (λ (go : Action Datum). go >>= (λ d. gives (Is d))) (sym (taken_is a enter x to k))
      ∙ read a (shape_in (value_as to x)) (t_exp a enter (value_as to x) k) (as_valued a enter to x k o h)

  pub indirect_is : (x : Operand) (k : ℕ) → (pointed a x (runs x k) >>= indirect) ≡ typed.of_indirect a (value_node x.typed) (t_exp a enter (value_node x.typed) k)
  indirect_is x k = ap (λ (go : Action Datum). (go >>= single) >>= indirect) (sym (used_is a enter x k))

  -- casts (6.5.4)
  void_shape : (x : Operand) (s : Shape) → shape_of x ≡ s → is_void s ≡ false → is_void (shape_in x.typed) ≡ false
  void_shape x s e i = by (shape_in x.typed) (ap is_void e ∙ i)
    where
      by : (r : Shape) → is_void (value_shape r) ≡ false → is_void r ≡ false
      by VoidType j = j
      by (IntType n) j = refl
      by (PtrType q r) j = refl
      by (ArrayType q r n) j = refl
      by (FuncType r ss p v) j = refl
      by (AggType n) j = refl

  abbrev pub cast_turned : Shape → Typed → Bool → Typed
  cast_turned to v b = if b then v else same_effect to v (Convert v)

  abbrev pub cast_kept : Operand → Shape → ℕ → Bool → Action Seen
  cast_kept x to k b = used a x (runs x k) >>= (λ d. known (option_map Is (elim b [ true ↦ Some d | false ↦ option_map Single (cast_value a.types to d) ])))

  is_cast : (o : Option Value) → known (option_map Is (option_map Single o)) ≡ (known o >>= (λ w. gives (is_value w)))
  is_cast None = refl
  is_cast (Some w) = refl

  cast_converts : (x : Operand) (to : Shape) (k : ℕ) → cast_kept x to k false ≡ t_exp a enter (cast_turned to (value_node x.typed) false) k
  cast_converts x to k =
      ap (λ (go : Action Datum). go >>= (λ d. known (option_map Is (option_map Single (cast_value a.types to d))))) (sym (used_is a enter x k))
      ∙ then_same (value_of a (value_node x.typed) (t_exp a enter (value_node x.typed) k)) (λ d. known (option_map Is (option_map Single (cast_value a.types to d)))) (λ d. known (cast_value a.types to d) >>= (λ w. gives (is_value w))) (λ d. is_cast (cast_value a.types to d))

  cast_stays : (x : Operand) (to : Shape) (k : ℕ) → OfRecords x.typed → same_shape (shape_of x) to ≡ true → is_void to ≡ false → cast_kept x to k true ≡ t_exp a enter (cast_turned to (value_node x.typed) true) k
  cast_stays x to k o e i =
      ap (λ (go : Action Datum). go >>= (λ d. gives (Is d))) (sym (used_is a enter x k))
      ∙ read a (shape_in (value_node x.typed)) (t_exp a enter (value_node x.typed) k) (value_valued a enter x k o (void_shape x to (shape_told (shape_of x) to e) i))

  cast_ends : (x : Operand) (to : Shape) (k : ℕ) (b : Bool) → same_shape (shape_of x) to && not (is_void to) ≡ b → cast_kept x to k b ≡ t_exp a enter (cast_turned to (value_node x.typed) b) k
      → syntax.of_cast a to x (runs x k) ≡ t_exp a enter (cast_node to (value_node x.typed)) k
  cast_ends x to k b e h =
      ap (cast_kept x to k) e
      ∙ (h
      ∙ (ap (λ c. t_exp a enter (cast_turned to (value_node x.typed) c) k) (sym e)
      ∙ ap (λ (s : Shape). t_exp a enter (cast_turned to (value_node x.typed) (same_shape s to && not (is_void to))) k) (sym (shape_of_value x))))

  pub cast_is : (x : Operand) (to : Shape) (k : ℕ) → OfRecords x.typed → syntax.of_cast a to x (runs x k) ≡ t_exp a enter (cast_node to (value_node x.typed)) k
  cast_is x to k o = by (same_shape (shape_of x) to) (is_void to) refl refl
    where
      by : (b c : Bool) → same_shape (shape_of x) to ≡ b → is_void to ≡ c → syntax.of_cast a to x (runs x k) ≡ t_exp a enter (cast_node to (value_node x.typed)) k
      by true false e i = cast_ends x to k true (ap (λ p. p && not (is_void to)) e ∙ ap not i) (cast_stays x to k o e i)
      by true true e i = cast_ends x to k false (ap (λ p. p && not (is_void to)) e ∙ ap not i) (cast_converts x to k)
      by false c e i = cast_ends x to k false (ap (λ p. p && not (is_void to)) e) (cast_converts x to k)

  -- members (6.5.2.3)
  pub member_is : (x : Operand) (path : Option (List Hop)) (hops : List Hop) (k : ℕ) → path ≡ Some hops → OfRecords x.typed → Through (shape_in x.typed) hops
      → syntax.of_member a (k + arrays_in x.typed) path x (runs x k) ≡ t_exp a enter (along_node x.typed hops) k
  member_is x path hops k e o g = ruled path hops (λ hs. runs x k >>= along a (array_number a (k + arrays_in x.typed)) (outer_of a.types x.typed) hs) e ∙ along_is a enter (k + arrays_in x.typed) x.typed hops k (outer_of a.types x.typed) o (λ i. g) refl (λ i. refl)

  -- arguments (6.5.2.2)
  pub argument_is : (to : Shape) (x : Operand) (k : ℕ) (go also : Action (List Argument)) → go ≡ also
      → syntax.of_arguments a to x (runs x k) go ≡ typed.of_arguments a (value_as to x) (t_exp a enter (value_as to x) k) also
  argument_is to x k go also e =
      ap (λ (g : Action Datum). g >>= (λ d. go >>= (λ xs. gives (record { kind = kind_of a.types to; datum = d } ∷ xs)))) (sym (taken_is a enter x to k))
      ∙ (ap (λ (g : Action (List Argument)). value_of a (value_as to x) (t_exp a enter (value_as to x) k) >>= (λ d. g >>= (λ xs. gives (record { kind = kind_of a.types to; datum = d } ∷ xs)))) e
      ∙ ap (λ (c : Option Kind). value_of a (value_as to x) (t_exp a enter (value_as to x) k) >>= (λ d. also >>= (λ xs. gives (record { kind = c; datum = d } ∷ xs)))) (sym (kind_near a.types (shape_in (value_as to x)) to (near_as to x))))
