-- Device: each step of the code does what the body's does, as the types of the code tell.
use Rattle.std.proofs.Common.{◌≡◌, ℕ, true, false, nat_lt, List, Option, Some, None, refl, sym, ap, ◌∙◌, subst, ℤ}
use Rattle.std.specs.Option.{option_and_then}
use Rattle.cil_base.specs.declared.kinds.IntKind.{IntKind}
use Rattle.cil_base.specs.declared.numbers.TypeId.{TypeId}
use Rattle.byte_mem.specs.declared.values.Scalar.{Scalar}
use Rattle.byte_mem.specs.Steps.{◌>>=◌}
use Rattle.type_graph.specs.declared.nodes.QualType.{QualType}
use Rattle.type_graph.specs.Shapes.{Shape, VoidType, IntType, PtrType, ArrayType, FuncType, AggType, shape}
use Rattle.cil_tree.specs.Tree as tree
use Rattle.cil_tree.specs.Tree.{Exp, Lval}
use Rattle.cil_tree.specs.Typing.{Scope, type_of, place_type}
use Rattle.cil_tree.specs.Bodies.{kind_of}
use Rattle.cil_check.specs.declared.seen.Seen.{Seen}
use Rattle.cil_check.specs.declared.seen.Seen.TheVariants.{Int, Ptr, Other}
use Rattle.cil_check.specs.Seen.{seen_shape, is_other, told, at}
use Rattle.cil_semantics.specs.Values.{scalar_in, size_in}
use Rattle.cil_control.specs.Flat as flat
use Rattle.cil_control.specs.Flat.{place_for}
use Rattle.cil_control.specs.Leading.{table_leads}
use Rattle.cil_machine.specs.declared.resolution.Typed.{Typed}
use Rattle.cil_machine.specs.declared.resolution.TypedSpot.{TypedSpot}
use Rattle.cil_machine.specs.Typed.{IsTyped, IsPlaced}
use Rattle.cil_code.specs.declared.steps.Step.TheVariants.{Zero, Test, Choose, Forward, Back, Stuck}
use Rattle.cil_code.specs.Doing.{IsStep}
use Rattle.cil_code.proofs.StepMeanings.{zero_is, no_zero, test_is, no_test, untested, choice_is, no_choice, forward_is, back_is, stuck_is}

typed : (c : Scope) (es : List ℕ) (e : Exp) (r : Typed) (o : Option Seen) → IsTyped c es e r → r.ty ≡ o → type_of c e ≡ told c.program.graph o
typed c es e r o is ty = sym is.told ∙ ap (told c.program.graph) ty

placed : (c : Scope) (es : List ℕ) (p : Lval) (r : TypedSpot) (o : Option TypeId) → IsPlaced c es p r → r.ty ≡ o → place_type c p ≡ at c.program.graph o
placed c es p r o is ty = sym is.told ∙ ap (at c.program.graph) ty

pub zero_nowhere : (c : Scope) (es : List ℕ) (p : Lval) (r : TypedSpot) → IsPlaced c es p r → r.ty ≡ None → IsStep c es (flat.Act (tree.Zero p)) Stuck
zero_nowhere c es p r is ty = no_zero c es p (ap (λ o. o >>= size_in c.program.graph) (placed c es p r None is ty))

pub zero_sized : (c : Scope) (es : List ℕ) (p : Lval) (r : TypedSpot) (t : TypeId) (n : ℕ) → IsPlaced c es p r → r.ty ≡ Some t → Some n ≡ size_in c.program.graph (shape c.program.graph.nodes t.0) → IsStep c es (flat.Act (tree.Zero p)) (Zero n r.spot)
zero_sized c es p r t n is ty size = zero_is c es p r.spot (shape c.program.graph.nodes t.0) n (placed c es p r (Some t) is ty) (sym size) is.means

pub zero_unsized : (c : Scope) (es : List ℕ) (p : Lval) (r : TypedSpot) (t : TypeId) → IsPlaced c es p r → r.ty ≡ Some t → None ≡ size_in c.program.graph (shape c.program.graph.nodes t.0) → IsStep c es (flat.Act (tree.Zero p)) Stuck
zero_unsized c es p r t is ty size = no_zero c es p (ap (λ o. o >>= size_in c.program.graph) (placed c es p r (Some t) is ty) ∙ sym size)

pub test_nothing : (c : Scope) (es : List ℕ) (e : Exp) (r : Typed) (q : ℕ) → IsTyped c es e r → r.ty ≡ None → IsStep c es (flat.Test e q) Stuck
test_nothing c es e r q is ty = no_test c es e q (typed c es e r None is ty)

pub test_scalar : (c : Scope) (es : List ℕ) (e : Exp) (r : Typed) (t : Seen) (of : Scalar) (q : ℕ) → IsTyped c es e r → r.ty ≡ Some t → Some of ≡ scalar_in c.program.graph (seen_shape c.program.graph t) → IsStep c es (flat.Test e q) (Test of r.term q)
test_scalar c es e r t of q is ty scalar = test_is c es e r.term (seen_shape c.program.graph t) of q (typed c es e r (Some t) is ty) (sym scalar) is.means

pub test_other : (c : Scope) (es : List ℕ) (e : Exp) (r : Typed) (t : Seen) (q : ℕ) → IsTyped c es e r → r.ty ≡ Some t → None ≡ scalar_in c.program.graph (seen_shape c.program.graph t) → IsStep c es (flat.Test e q) Stuck
test_other c es e r t q is ty apart = untested c es e q (seen_shape c.program.graph t) (typed c es e r (Some t) is ty) (sym apart)

pub choice_nothing : (c : Scope) (es : List ℕ) (e : Exp) (r : Typed) (xs : List (ℤ × ℕ)) (other : ℕ) → IsTyped c es e r → r.ty ≡ None → IsStep c es (flat.Choose e xs other) Stuck
choice_nothing c es e r xs other is ty = no_choice c es e xs other (ap (option_and_then kind_of) (typed c es e r None is ty))

pub choice_integer : (c : Scope) (es : List ℕ) (e : Exp) (r : Typed) (t : Seen) (kind : IntKind) (xs cases : List (ℤ × ℕ)) (other : ℕ) → IsTyped c es e r → r.ty ≡ Some t → t ≡ Int kind → ((v : ℤ) (other : ℕ) → place_for v cases other ≡ place_for v xs other)
    → ((n p : ℕ) → table_leads n p xs ≡ true → table_leads n p cases ≡ true) → IsStep c es (flat.Choose e xs other) (Choose kind r.term cases other)
choice_integer c es e r t kind xs cases other is ty int same lead = choice_is c es e r.term kind cases other xs (typed c es e r (Some t) is ty ∙ ap (λ t. Some (seen_shape c.program.graph t)) int) is.means same lead

pub choice_pointer : (c : Scope) (es : List ℕ) (e : Exp) (r : Typed) (t : Seen) (q : QualType) (xs : List (ℤ × ℕ)) (other : ℕ) → IsTyped c es e r → r.ty ≡ Some t → t ≡ Ptr q → IsStep c es (flat.Choose e xs other) Stuck
choice_pointer c es e r t q xs other is ty pointer = no_choice c es e xs other (ap (option_and_then kind_of) (typed c es e r (Some t) is ty ∙ ap (λ t. Some (seen_shape c.program.graph t)) pointer))

no_kind : (t : Shape) → is_other t ≡ true → kind_of t ≡ None
no_kind VoidType h = refl
no_kind (IntType kind) h = absurd (cc)
no_kind (PtrType q s) h = absurd (cc)
no_kind (ArrayType q s bound) h = refl
no_kind (FuncType ret params proto variadic) h = refl
no_kind (AggType a) h = refl

pub choice_other : (c : Scope) (es : List ℕ) (e : Exp) (r : Typed) (t : Seen) (u : TypeId) (xs : List (ℤ × ℕ)) (other : ℕ) → IsTyped c es e r → r.ty ≡ Some t → t ≡ Other u → is_other (shape c.program.graph.nodes u.0) ≡ true → IsStep c es (flat.Choose e xs other) Stuck
choice_other c es e r t u xs other is ty kind h = no_choice c es e xs other (ap (option_and_then kind_of) (typed c es e r (Some t) is ty ∙ ap (λ t. Some (seen_shape c.program.graph t)) kind) ∙ no_kind (shape c.program.graph.nodes u.0) h)

pub jump_nowhere : (c : Scope) (es : List ℕ) (p : ℕ) (o : Option ℕ) → o ≡ None → IsStep c es (flat.jump p o) Stuck
jump_nowhere c es p o is = subst (λ o. IsStep c es (flat.jump p o) Stuck) (sym is) (stuck_is c es)

pub jump_forward : (c : Scope) (es : List ℕ) (p q : ℕ) (o : Option ℕ) → o ≡ Some q → nat_lt p q ≡ true → IsStep c es (flat.jump p o) (Forward q)
jump_forward c es p q o is far = subst (λ x. IsStep c es x (Forward q)) (sym (ap (flat.jump p) is ∙ ap (λ b. flat.jump_by b q) far)) (forward_is c es q)

pub jump_back : (c : Scope) (es : List ℕ) (p q : ℕ) (o : Option ℕ) → o ≡ Some q → nat_lt p q ≡ false → IsStep c es (flat.jump p o) (Back q)
jump_back c es p q o is near = subst (λ x. IsStep c es x (Back q)) (sym (ap (flat.jump p) is ∙ ap (λ b. flat.jump_by b q) near)) (back_is c es q)
