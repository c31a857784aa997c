-- Device: each step of the code does what the body's does.
use Rattle.std.proofs.Common.{◌≡◌, ℕ, suc, Bool, true, false, ◌&&◌, not, List, [], ◌∷◌, Option, option_map, Some, None, is_some, refl, sym, ap, ◌∙◌, ℤ}
use Rattle.cil_base.specs.declared.kinds.IntKind.{IntKind}
use Rattle.byte_mem.specs.declared.values.Scalar.{Scalar}
use Rattle.byte_mem.specs.declared.values.Scalar.TheVariants.{Int as OfKind, Ptr as OfPointer}
use Rattle.byte_mem.specs.declared.values.Value.{Value}
use Rattle.byte_mem.specs.Steps.{◌>>=◌}
use Rattle.byte_mem.specs.Memory.{Memory}
use Rattle.byte_mem.specs.Operator.{truth, number_in}
use Rattle.type_graph.specs.Shapes.{Shape, VoidType, IntType, PtrType, ArrayType, FuncType, AggType}
use Rattle.execution.specs.States.{State, Result, Goes, bind, given, pure}
use Rattle.execution.specs.Data.{Kind, Datum, Argument, store_datum, zero_from}
use Rattle.execution.specs.Jumps.{Signal, Returned}
use Rattle.execution.specs.Calls.{Enter, returned}
use Rattle.cil_tree.specs.Tree as tree
use Rattle.cil_tree.specs.Tree.{Exp, Lval, Callee}
use Rattle.cil_tree.specs.Typing.{Scope, is_void, is_type, is_scalar, type_of, place_type}
use Rattle.cil_tree.specs.Bodies.{is_complete, has_type, set_fits, test_fits, switch_kind, callee_type, result_fits, called_fits, call_fits}
use Rattle.cil_tree.proofs.ShapeEquality.{same_is_equal}
use Rattle.typed_values.specs.Values.{single_in}
use Rattle.cil_semantics.specs.Values.{Activation, abi_of, kind_in, scalar_in, size_in, value, scalar_value, place, holds_of}
use Rattle.cil_semantics.specs.Statements.{kind_of_place, written, result_place, callee_value, result_kind, argument, arguments, kind_of_result}
use Rattle.cil_control.specs.Remains.{Remains}
use Rattle.cil_control.specs.Flat as flat
use Rattle.cil_control.specs.Flat.{place_by, place_for}
use Rattle.cil_control.specs.Leading.{further, table_leads}
use Rattle.cil_machine.specs.declared.terms.Term.{Term}
use Rattle.cil_machine.specs.declared.terms.Spot.{Spot}
use Rattle.cil_machine.specs.Terms.{term_value}
use Rattle.cil_machine.specs.Resolution.{activation, scalar_type, Means, MeansPlace}
use Rattle.cil_machine.specs.Instructions.{zeroed}
use Rattle.cil_machine.proofs.Typings.{not_scalar}
use Rattle.cil_machine.proofs.Assignments.{zeros_are_meant}
use Rattle.cil_code.specs.declared.operands.Operand.{Operand}
use Rattle.cil_code.specs.declared.steps.Step.TheVariants.{Set, Zero, Call, Test, Choose, Forward, Back, Leave, Stuck}
use Rattle.cil_code.specs.declared.calls.Call.{Call as CodeCall}
use Rattle.cil_code.specs.declared.calls.Receiver.{Receiver}
use Rattle.cil_code.specs.Passing.{operand_kind, operand_datum, IsOperand}
use Rattle.cil_code.specs.Calling.{kind_from, receiving, received_kind, passing, passing_all, kept, IsReceiver, AreOperands, IsCall}
use Rattle.cil_code.specs.Doing.{assigned, changed, AreValues, IsStep}

-- what comes behind a change of memory comes behind an instruction
changed_is : (s : State) (o u : Option Memory) (f : Remains) → o ≡ u → changed s o f ≡ bind (written s u) (λ g. f)
changed_is s o u f e = ap (λ o. changed s o f) e ∙ by u
  where
    by : (u : Option Memory) → changed s u f ≡ bind (written s u) (λ g. f)
    by None = refl
    by (Some m) = refl

given_pure : {A : Type 0} (s : State) (o u : Option A) (f : A → Remains) → o ≡ u → given s o (λ a. f a s) ≡ bind (pure s u) f
given_pure s o None f e = ap (λ o. given s o (λ a. f a s)) e
given_pure s o (Some a) f e = ap (λ o. given s o (λ a. f a s)) e

and_both : (a b : Bool) → (a && b) ≡ true → (a ≡ true) × (b ≡ true)
and_both true b e = (refl, e)
and_both false b e = absurd (cc)

-- a complete type is not void
full_type : (c : Scope) (t : Shape) → is_complete c t ≡ true → is_void t ≡ false
full_type c VoidType e = absurd (cc)
full_type c (IntType kind) e = refl
full_type c (PtrType q s) e = refl
full_type c (ArrayType q s bound) e = refl
full_type c (FuncType ret params proto variadic) e = refl
full_type c (AggType a) e = refl

-- the type that an expression is said to have
pub type_told : (o : Option Shape) (t : Shape) → is_type o t ≡ true → o ≡ Some t
type_told None t e = absurd (cc)
type_told (Some s) t e = ap Some ((same_is_equal s t).0 e)

-- what an assignment's types are
record Assigned (c : Scope) (p : Lval) (e : Exp) : Type 0 where
  type : Shape
  placed : place_type c p ≡ Some type
  valued : type_of c e ≡ Some type
  full : is_void type ≡ false

set_told : (c : Scope) (p : Lval) (e : Exp) → set_fits c p e ≡ true → Assigned c p e
set_told c p e h = by (place_type c p) refl h
  where
    by : (o : Option Shape) → place_type c p ≡ o → (elim o [ None ↦ false | Some s ↦ is_complete c s && has_type c e s ]) ≡ true → Assigned c p e
    by None is h = absurd (cc)
    by (Some t) is h =
        let two = and_both (is_complete c t) (has_type c e t) h in
        record { type = t; placed = is; valued = type_told (type_of c e) t two.1; full = full_type c t two.0 }

pub set_is : (c : Scope) (es : List ℕ) (p : Lval) (e : Exp) (x : Spot) (o : Operand) → MeansPlace c es p x → IsOperand c es e o → IsStep c es (flat.Act (tree.Set p e)) (Set x o)
set_is c es p e x o means operand = record {
  does = λ fit act enter end at i s.
      let types = set_told c p e fit in
      changed_is s (assigned c.program.graph.abi s.memory act x o)
      (kind_of_place (activation c es act) p >>= λ k. place (activation c es act) s.memory p >>= λ at. value (activation c es act) s.memory e >>= store_datum c.program.graph.abi s.memory k at) (at (suc i))
      (ap (λ u. operand_kind o >>= λ k. u >>= λ at. operand_datum c.program.graph.abi s.memory act o >>= store_datum c.program.graph.abi s.memory k at) (means.at types.type types.placed s.memory act)
      ∙ (ap (λ u. operand_kind o >>= λ k. place (activation c es act) s.memory p >>= λ at. u >>= store_datum c.program.graph.abi s.memory k at) (operand.datum types.type types.valued types.full s.memory act)
      ∙ ap (λ u. u >>= λ k. place (activation c es act) s.memory p >>= λ at. value (activation c es act) s.memory e >>= store_datum c.program.graph.abi s.memory k at)
      (sym (ap (λ u. u >>= kind_in c.program.graph) types.placed ∙ operand.kind types.type types.valued types.full))));
  leads_on = λ n i h. h;
}

pub zero_is : (c : Scope) (es : List ℕ) (p : Lval) (x : Spot) (t : Shape) (n : ℕ) → place_type c p ≡ Some t → size_in c.program.graph t ≡ Some n → MeansPlace c es p x → IsStep c es (flat.Act (tree.Zero p)) (Zero n x)
zero_is c es p x t n is size means = record {
  does = λ fit act enter end at i s.
      changed_is s (zeroed c.program.graph.abi s.memory act n x) (place_type c p >>= size_in c.program.graph >>= λ n. place (activation c es act) s.memory p >>= zero_from s.memory n) (at (suc i))
      (zeros_are_meant c es p x t n is size means s.memory act);
  leads_on = λ n i h. h;
}

-- what has no type or no size is not zeroed
pub no_zero : (c : Scope) (es : List ℕ) (p : Lval) → (place_type c p >>= size_in c.program.graph) ≡ None → IsStep c es (flat.Act (tree.Zero p)) Stuck
no_zero c es p is = record {
  does = λ fit act enter end at i s.
      ap (λ u. bind (written s (u >>= λ n. place (activation c es act) s.memory p >>= zero_from s.memory n)) (λ g. at (suc i))) (sym is);
  leads_on = λ n i h. refl;
}

pub test_is : (c : Scope) (es : List ℕ) (e : Exp) (u : Term) (t : Shape) (of : Scalar) (q : ℕ) → type_of c e ≡ Some t → scalar_in c.program.graph t ≡ Some of → Means c es e u → IsStep c es (flat.Test e q) (Test of u q)
test_is c es e u t of q is scalar means = record {
  does = λ fit act enter end at i s.
      let type : scalar_type c e ≡ Some of = ap (λ o. o >>= scalar_in c.program.graph) is ∙ scalar in
      given_pure s (term_value c.program.graph.abi s.memory act of u >>= truth s.memory of) (holds_of (activation c es act) s.memory e) (λ h. at (place_by h (suc i) q))
      (ap (λ o. o >>= truth s.memory of) (means.at of type s.memory act)
      ∙ (tested s.memory (value (activation c es act) s.memory e)
      ∙ (ap (λ o. value (activation c es act) s.memory e >>= λ d. o >>= λ k. single_in d >>= truth s.memory k) (sym scalar)
      ∙ ap (λ o. o >>= λ t. value (activation c es act) s.memory e >>= λ d. scalar_in c.program.graph t >>= λ k. single_in d >>= truth s.memory k) (sym is))));
  leads_on = λ n i h. h;
}
  where
    tested : (m : Memory) (o : Option Datum) → ((o >>= single_in) >>= truth m of) ≡ (o >>= λ d. single_in d >>= truth m of)
    tested m None = refl
    tested m (Some d) = refl

not_fit : {X : Type 0} (b : Bool) → b ≡ false → b ≡ true → X
not_fit true e f = absurd (cc)
not_fit false e f = absurd (cc)

-- what has no type, or no scalar one, is no test
pub no_test : (c : Scope) (es : List ℕ) (e : Exp) (q : ℕ) → type_of c e ≡ None → IsStep c es (flat.Test e q) Stuck
no_test c es e q is = record { does = λ fit act enter end at i s. not_fit (test_fits c e) (ap (λ o. elim o [ None ↦ false | Some s ↦ is_scalar c.program.graph s ]) is) fit; leads_on = λ n q h. refl }

pub untested : (c : Scope) (es : List ℕ) (e : Exp) (q : ℕ) (t : Shape) → type_of c e ≡ Some t → scalar_in c.program.graph t ≡ None → IsStep c es (flat.Test e q) Stuck
untested c es e q t is apart = record { does = λ fit act enter end at i s. not_fit (test_fits c e) (ap (λ o. elim o [ None ↦ false | Some s ↦ is_scalar c.program.graph s ]) is ∙ not_scalar c.program.graph t apart) fit; leads_on = λ n q h. refl }

given_alike : (s : State) (o : Option ℤ) (f g : ℤ → Result Datum) → ((v : ℤ) → f v ≡ g v) → given s o f ≡ given s o g
given_alike s None f g same = refl
given_alike s (Some v) f g same = same v

-- cases choose as a table does, where each value has its place there
pub choice_is : (c : Scope) (es : List ℕ) (e : Exp) (u : Term) (kind : IntKind) (cases : List (ℤ × ℕ)) (other : ℕ) (xs : List (ℤ × ℕ)) → type_of c e ≡ Some (IntType kind) → Means c es e u → ((v : ℤ) (other : ℕ) → place_for v cases other ≡ place_for v xs other)
    → ((n p : ℕ) → table_leads n p xs ≡ true → table_leads n p cases ≡ true) → IsStep c es (flat.Choose e xs other) (Choose kind u cases other)
choice_is c es e u kind cases other xs is means same lead = record {
  does = λ fit act enter end at i s.
      given_alike s (term_value c.program.graph.abi s.memory act (OfKind kind) u >>= number_in) (λ v. at (place_for v cases other) s) (λ v. at (place_for v xs other) s) (λ v. ap (λ p. at p s) (same v other))
      ∙ given_pure s (term_value c.program.graph.abi s.memory act (OfKind kind) u >>= number_in) (scalar_value (activation c es act) s.memory e >>= number_in) (λ v. at (place_for v xs other))
      (ap (λ o. o >>= number_in) (means.at (OfKind kind) (ap (λ o. o >>= scalar_in c.program.graph) is) s.memory act));
  leads_on = λ n i h.
      let two = and_both (table_leads n i xs) (further n i other) h in
      ap (λ b. b && further n i other) (lead n i two.0) ∙ two.1;
}

-- only an integer chooses
pub no_choice : (c : Scope) (es : List ℕ) (e : Exp) (xs : List (ℤ × ℕ)) (other : ℕ) → switch_kind c e ≡ None → IsStep c es (flat.Choose e xs other) Stuck
no_choice c es e xs other is = record { does = λ fit act enter end at i s. not_fit (is_some (switch_kind c e)) (ap (λ o. is_some o) is) fit; leads_on = λ n q h. refl }

left_is : (s : State) (o u : Option Datum) (end : Datum) → o ≡ u → given s o (λ d. Goes d s) ≡ bind (given s u (λ d. Goes (Returned (Some d)) s)) (returned end)
left_is s o None end e = ap (λ o. given s o (λ d. Goes d s)) e
left_is s o (Some d) end e = ap (λ o. given s o (λ d. Goes d s)) e

pub leave_is : (c : Scope) (es : List ℕ) → IsStep c es (flat.Leave None) (Leave None)
leave_is c es = record { does = λ fit act enter end at i s. refl; leads_on = λ n q h. h }

pub leave_with : (c : Scope) (es : List ℕ) (e : Exp) (o : Operand) → IsOperand c es e o → IsStep c es (flat.Leave (Some e)) (Leave (Some o))
leave_with c es e o operand = record {
  does = λ fit act enter end at i s.
      let two = and_both (not (is_void fit.0)) (has_type c e fit.0) fit.1 in
      left_is s (operand_datum c.program.graph.abi s.memory act o) (value (activation c es act) s.memory e) end
      (operand.datum fit.0 (type_told (type_of c e) fit.0 two.1) (not_void (is_void fit.0) two.0) s.memory act);
  leads_on = λ n i h. h;
}
  where
    not_void : (b : Bool) → not b ≡ true → b ≡ false
    not_void true e = absurd (cc)
    not_void false e = refl

pub forward_is : (c : Scope) (es : List ℕ) (q : ℕ) → IsStep c es (flat.Forward q) (Forward q)
forward_is c es q = record { does = λ fit act enter end at i s. refl; leads_on = λ n q h. h }

pub back_is : (c : Scope) (es : List ℕ) (q : ℕ) → IsStep c es (flat.Back q) (Back q)
back_is c es q = record { does = λ fit act enter end at i s. refl; leads_on = λ n q h. h }

pub stuck_is : (c : Scope) (es : List ℕ) → IsStep c es flat.Stuck Stuck
stuck_is c es = record { does = λ fit act enter end at i s. refl; leads_on = λ n q h. refl }

-- what the types of a call tell
PlacedResult : Scope → Option Lval → Type 0
PlacedResult c None = Unit {0}
PlacedResult c (Some p) = (t : Shape) × (place_type c p ≡ Some t)

record Callable (c : Scope) (to : Option Lval) (f : Callee) : Type 0 where
  type : Shape
  callee : callee_type c f ≡ Some type
  result : PlacedResult c to

result_told : (c : Scope) (to : Option Lval) (ret : Shape) → result_fits c to ret ≡ true → PlacedResult c to
unfolding PlacedResult
result_told c None ret h = tt
result_told c (Some p) ret h = (ret, type_told (place_type c p) ret (and_both (is_complete c ret) (is_type (place_type c p) ret) h).1)

called_told : (c : Scope) (to : Option Lval) (es : List Exp) (t : Shape) → called_fits c to es t ≡ true → PlacedResult c to
called_told c to es (FuncType ret params proto variadic) h = result_told c to ret (and_both (result_fits c to ret) _ h).0
called_told c to es VoidType h = absurd (cc)
called_told c to es (IntType kind) h = absurd (cc)
called_told c to es (PtrType q s) h = absurd (cc)
called_told c to es (ArrayType q s bound) h = absurd (cc)
called_told c to es (AggType a) h = absurd (cc)

call_told : (c : Scope) (to : Option Lval) (f : Callee) (es : List Exp) → call_fits c to f es ≡ true → Callable c to f
call_told c to f es h = by (callee_type c f) refl h
  where
    by : (o : Option Shape) → callee_type c f ≡ o → (elim o [ None ↦ false | Some t ↦ called_fits c to es t ]) ≡ true → Callable c to f
    by None is h = absurd (cc)
    by (Some t) is h = record { type = t; callee = is; result = called_told c to es t h }

receiving_is : (c : Scope) (es : List ℕ) (to : Option Lval) (r : Option Receiver) (m : Memory) (act : ℕ) → IsReceiver c es to r → PlacedResult c to → receiving c.program.graph.abi m act r ≡ result_place (activation c es act) m to
unfolding PlacedResult
receiving_is c es None None m act h p = refl
receiving_is c es None (Some r) m act h p = absurd h
receiving_is c es (Some l) None m act h p = absurd h
receiving_is c es (Some l) (Some r) m act h p = ap (option_map Some) (h.place.at p.0 p.1 m act)

received_is : (c : Scope) (es : List ℕ) (to : Option Lval) (r : Option Receiver) (act : ℕ) → IsReceiver c es to r → received_kind r ≡ kind_of_result (activation c es act) to
received_is c es None None act h = refl
received_is c es None (Some r) act h = absurd h
received_is c es (Some l) None act h = absurd h
received_is c es (Some l) (Some r) act h = h.kind

passing_is : (c : Scope) (es : List ℕ) (xs : List Exp) (os : List Operand) (m : Memory) (act : ℕ) → AreOperands c es xs os → AreValues c xs → passing_all c.program.graph.abi m act os ≡ arguments (activation c es act) m xs
passing_is c es [] [] m act h v = refl
passing_is c es [] (o ∷ os) m act h v = absurd h
passing_is c es (x ∷ xs) [] m act h v = absurd h
passing_is c es (x ∷ xs) (o ∷ os) m act h v =
    ap (λ z. passing c.program.graph.abi m act o >>= λ y. z >>= λ ys. Some (y ∷ ys)) (passing_is c es xs os m act h.1 v.1)
    ∙ ap (λ z. z >>= λ y. arguments (activation c es act) m xs >>= λ ys. Some (y ∷ ys)) one
  where
    one : passing c.program.graph.abi m act o ≡ argument (activation c es act) m x
    one =
        ap (λ u. u >>= λ d. Some (record { kind = operand_kind o; datum = d })) (h.0.datum v.0.0 v.0.1 v.0.2 m act)
        ∙ ap (λ k. value (activation c es act) m x >>= λ d. Some (record { kind = k; datum = d })) (sym (ap (λ u. u >>= kind_in c.program.graph) v.0.1 ∙ h.0.kind v.0.0 v.0.1 v.0.2))

abbrev called_with : Activation → Enter → State → Option (Option Value) → Option Value → Option (List Argument) → Option Kind → Option Kind → Result Signal
called_with a enter s o u w result kind =
    given s o (λ at. given s u (λ v. given s w (λ xs. bind (enter (record { abi = abi_of a; callee = v; result = result; arguments = xs }) s) (λ d t. kept (abi_of a) kind at d t))))

pub call_is : (c : Scope) (es : List ℕ) (to : Option Lval) (f : Callee) (xs : List Exp) (k : CodeCall) → IsCall c es to f xs k → IsStep c es (flat.Act (tree.Call to f xs)) (Call k)
call_is c es to f xs k is = record {
  does = λ fit act enter end at i s.
      let types = call_told c to f xs fit.0 in
      let a : Activation = activation c es act in
      ap (λ r. bind r (λ g. at (suc i)))
      (ap (λ o. called_with a enter s o (term_value c.program.graph.abi s.memory act OfPointer k.callee) (passing_all c.program.graph.abi s.memory act k.arguments.items) (kind_from k.result) (received_kind k.to)) (receiving_is c es to k.to s.memory act is.receiver types.result)
      ∙ (ap (λ u. called_with a enter s (result_place a s.memory to) u (passing_all c.program.graph.abi s.memory act k.arguments.items) (kind_from k.result) (received_kind k.to)) (is.callee.value types.type types.callee s.memory act)
      ∙ (ap (λ w. called_with a enter s (result_place a s.memory to) (callee_value a s.memory f) w (kind_from k.result) (received_kind k.to)) (passing_is c es xs k.arguments.items s.memory act is.arguments fit.1)
      ∙ (ap (λ r. called_with a enter s (result_place a s.memory to) (callee_value a s.memory f) (arguments a s.memory xs) r (received_kind k.to)) is.callee.kind
      ∙ ap (λ r. called_with a enter s (result_place a s.memory to) (callee_value a s.memory f) (arguments a s.memory xs) (result_kind a f) r) (received_is c es to k.to act is.receiver)))));
  leads_on = λ n i h. h;
}
