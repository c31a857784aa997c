-- Device: the bodies of a unit fit, step by step.
use Rattle.std.proofs.Common.{◌≡◌, ℕ, zero, suc, ◌+◌, Bool, true, false, ◌&&◌, not, nat_lt, List, [], ◌∷◌, ◌++◌, slice_get, Option, Some, None, refl, sym, ap, ◌∙◌, subst}
use Rattle.std.specs.List.{list_all}
use Rattle.std.proofs.lemmas.Bool.{and_parts}
use Rattle.std.proofs.lemmas.Slice.Eq.{bytes_eq-Decides}
use Rattle.type_graph.specs.Shapes.{Shape, Shapes, VoidType, FuncType, NoTypes, MoreTypes}
use Rattle.type_graph.specs.Arena.{Graph}
use Rattle.cil_tree.specs.Tree.{Exp, Lval, Callee, Instr, Set, Call, Zero, Stmt, Do, If, Switch, Loop, Block, Label, Case, Default, Goto, Break, Return, Stmts, Done, Seq, Body, Function, GlobalDecl, Program}
use Rattle.cil_tree.specs.Typing.{Scope, scope_of, is_void, global_at, type_of}
use Rattle.cil_tree.specs.Bodies.{has_type, is_promoted, argument_is_promoted, arguments_fit, result_fits, callee_type, called_fits, call_fits, instr_fits, parts_fit, each_stmt, each_within, labels_of, numbers_from, labels_fit, goto_fits, cases_fit, cases_are_once, breaks_fit, return_fits, returns_fit, stmts_fit, local_fits, parameters_fit, body_fits}
use Rattle.cil_tree.specs.Globals.{has_definition, internal_is_defined, object_is_complete, definition_fits, typed_fits, global_fits}
use Rattle.cil_semantics.specs.Units.{IsUnit}
use Rattle.cil_control.specs.Remains.{steps, steps_in}
use Rattle.cil_control.specs.Flat as flat
use Rattle.cil_control.specs.Flat.{jump, jump_by, break_to, steps_at, steps_from, body_steps, labels_from}
use Rattle.cil_code.specs.Doing.{AreValues, Fits}
use Rattle.cil_code.specs.Running.{AllFit, steps_of, FittingBodiesRun}
use Rattle.cil_code.proofs.StepMeanings.{type_told}
use Rattle.cil_code.proofs.Running.{loaded_bodies_run}
use Rattle.cil_code.proofs.ArgumentTypes.{TakesValues, AreValueTypes, MayTakeValues, ScopeTakes, callee_takes}
use Rattle.cil_code.proofs.ProgramTypes.{InstrTakes, StmtTakes, StmtsTake, functions_take}

-- a promoted type is not void
promoted_full : (g : Graph) (s : Shape) → is_promoted g s ≡ true → is_void s ≡ false
promoted_full g VoidType e = cc
promoted_full g s e = refl

-- an argument that may follow the parameters has a type that is not void
promoted_value : (c : Scope) (e : Exp) → argument_is_promoted c e ≡ true → (t : Shape) × (type_of c e ≡ Some t) × (is_void t ≡ false)
promoted_value c e h = by (type_of c e) h refl
  where
    by : (o : Option Shape) → (elim o [ None ↦ false | Some s ↦ is_promoted c.program.graph s ]) ≡ true → type_of c e ≡ o → (t : Shape) × (type_of c e ≡ Some t) × (is_void t ≡ false)
    by None h is = cc
    by (Some s) h is = (s, is, promoted_full c.program.graph s h)

values_fit : (c : Scope) (params : Shapes) (more : Bool) (es : List Exp) → AreValueTypes params → arguments_fit c params more es ≡ true → AreValues c es
values_fit c NoTypes more [] h e = tt
values_fit c NoTypes more (x ∷ xs) h e =
    let two = and_parts (argument_is_promoted c x) (arguments_fit c NoTypes more xs) (and_parts more (argument_is_promoted c x && arguments_fit c NoTypes more xs) e).1 in
    (promoted_value c x two.0, values_fit c NoTypes more xs h two.1)
values_fit c (MoreTypes s params) more [] h e = cc
values_fit c (MoreTypes s params) more (x ∷ xs) h e =
    let two = and_parts (has_type c x s) (arguments_fit c params more xs) e in
    ((s, type_told (type_of c x) s two.0, h.0), values_fit c params more xs h.2 two.1)

called_values : (c : Scope) (to : Option Lval) (es : List Exp) (t : Shape) → TakesValues t → called_fits c to es t ≡ true → AreValues c es
called_values c to es (FuncType ret params proto variadic) h e = values_fit c params _ es h.1 (and_parts (result_fits c to ret) _ e).1
called_values c to es t h e = cc

call_values : (c : Scope) (to : Option Lval) (f : Callee) (es : List Exp) → MayTakeValues (callee_type c f) → call_fits c to f es ≡ true → AreValues c es
call_values c to f es h e = by (callee_type c f) h e
  where
    by : (o : Option Shape) → MayTakeValues o → (elim o [ None ↦ false | Some t ↦ called_fits c to es t ]) ≡ true → AreValues c es
    by None h e = cc
    by (Some t) h e = called_values c to es t h e

instr_fit : (c : Scope) → ScopeTakes c → (i : Instr) → InstrTakes i → instr_fits c i ≡ true → Fits c (flat.Act i)
instr_fit c h (Set place value) k e = e
instr_fit c h (Call to f es) k e = (e, call_values c to f es (callee_takes c h f k) e)
instr_fit c h (Zero place) k e = e

leave_fits : (c : Scope) (ret : Shape) (v : Option Exp) → return_fits c ret v ≡ true → Fits c (flat.Leave v)
leave_fits c ret None e = tt
leave_fits c ret (Some v) e = (ret, e)

jump_fits : (c : Scope) (p : ℕ) (o : Option ℕ) → Fits c (jump p o)
jump_fits c p None = tt
jump_fits c p (Some q) = by (nat_lt p q)
  where
    by : (b : Bool) → Fits c (jump_by b q)
    by true = tt
    by false = tt

break_step_fits : (c : Scope) (b : Option ℕ) → Fits c (break_to b)
break_step_fits c None = tt
break_step_fits c (Some q) = tt

all_join : (c : Scope) (xs ys : List flat.Step) → AllFit c xs → AllFit c ys → AllFit c (xs ++ ys)
all_join c [] ys h k = k
all_join c (x ∷ xs) ys h k = (h.0, all_join c xs ys h.1 k)

-- what well-formedness says of a statement and of those within it, for their steps
record StmtFits (c : Scope) (ret : Shape) (x : Stmt) : Type 0 where
  own : parts_fit c x ≡ true
  within : each_within (parts_fit c) x ≡ true
  returns : returns_fit c ret x ≡ true
  returns_within : each_within (returns_fit c ret) x ≡ true
  calls : StmtTakes x

record StmtsFit (c : Scope) (ret : Shape) (xs : Stmts) : Type 0 where
  parts : each_stmt (parts_fit c) xs ≡ true
  returns : each_stmt (returns_fit c ret) xs ≡ true
  calls : StmtsTake xs

first_fits : (c : Scope) (ret : Shape) (x : Stmt) (xs : Stmts) → StmtsFit c ret (Seq x xs) → StmtFits c ret x
first_fits c ret x xs h =
    let parts = and_parts (parts_fit c x) (each_within (parts_fit c) x && each_stmt (parts_fit c) xs) h.parts in
    let returns = and_parts (returns_fit c ret x) (each_within (returns_fit c ret) x && each_stmt (returns_fit c ret) xs) h.returns in
    record {
      own = parts.0;
      within = (and_parts (each_within (parts_fit c) x) (each_stmt (parts_fit c) xs) parts.1).0;
      returns = returns.0;
      returns_within = (and_parts (each_within (returns_fit c ret) x) (each_stmt (returns_fit c ret) xs) returns.1).0;
      calls = h.calls.0;
    }

rest_fits : (c : Scope) (ret : Shape) (x : Stmt) (xs : Stmts) → StmtsFit c ret (Seq x xs) → StmtsFit c ret xs
rest_fits c ret x xs h =
    let parts = and_parts (parts_fit c x) (each_within (parts_fit c) x && each_stmt (parts_fit c) xs) h.parts in
    let returns = and_parts (returns_fit c ret x) (each_within (returns_fit c ret) x && each_stmt (returns_fit c ret) xs) h.returns in
    record {
      parts = (and_parts (each_within (parts_fit c) x) (each_stmt (parts_fit c) xs) parts.1).1;
      returns = (and_parts (each_within (returns_fit c ret) x) (each_stmt (returns_fit c ret) xs) returns.1).1;
      calls = h.calls.1;
    }

holds_fit : (c : Scope) (ret : Shape) (e : Exp) (xs ys : Stmts) → StmtFits c ret (If e xs ys) → StmtsFit c ret xs
holds_fit c ret e xs ys h = record {
  parts = (and_parts (each_stmt (parts_fit c) xs) (each_stmt (parts_fit c) ys) h.within).0;
  returns = (and_parts (each_stmt (returns_fit c ret) xs) (each_stmt (returns_fit c ret) ys) h.returns_within).0;
  calls = h.calls.0;
}

fails_fit : (c : Scope) (ret : Shape) (e : Exp) (xs ys : Stmts) → StmtFits c ret (If e xs ys) → StmtsFit c ret ys
fails_fit c ret e xs ys h = record {
  parts = (and_parts (each_stmt (parts_fit c) xs) (each_stmt (parts_fit c) ys) h.within).1;
  returns = (and_parts (each_stmt (returns_fit c ret) xs) (each_stmt (returns_fit c ret) ys) h.returns_within).1;
  calls = h.calls.1;
}

mutual
  steps_fit : (c : Scope) → ScopeTakes c → (ret : Shape) (label : ℕ → Option ℕ) (p : ℕ) (b : Option ℕ) (x : Stmt) → StmtFits c ret x → AllFit c (steps_at label p b x)
  steps_fit c h ret label p b (Do i) k = (instr_fit c h i k.calls k.own, tt)
  steps_fit c h ret label p b (If e holds fails) k = (k.own, all_join c (steps_from label (suc p) b holds) _ (all_steps_fit c h ret label (suc p) b holds (holds_fit c ret e holds fails k)) (tt, all_steps_fit c h ret label (suc (suc p + steps_in holds)) b fails (fails_fit c ret e holds fails k)))
  steps_fit c h ret label p b (Switch e body) k = (k.own, all_steps_fit c h ret label (suc p) (Some (suc p + steps_in body)) body (record { parts = k.within; returns = k.returns_within; calls = k.calls }))
  steps_fit c h ret label p b (Loop body) k =
      (tt, all_join c (steps_from label (suc p) (Some (suc (suc p + steps_in body))) body) _ (all_steps_fit c h ret label (suc p) (Some (suc (suc p + steps_in body))) body (record { parts = k.within; returns = k.returns_within; calls = k.calls })) (tt, tt))
  steps_fit c h ret label p b (Block body) k = all_steps_fit c h ret label p b body (record { parts = k.within; returns = k.returns_within; calls = k.calls })
  steps_fit c h ret label p b (Label n) k = tt
  steps_fit c h ret label p b (Case kind v) k = tt
  steps_fit c h ret label p b Default k = tt
  steps_fit c h ret label p b (Goto n) k = (jump_fits c p (label n), tt)
  steps_fit c h ret label p b Break k = (break_step_fits c b, tt)
  steps_fit c h ret label p b (Return e) k = (leave_fits c ret e k.returns, tt)

  all_steps_fit : (c : Scope) → ScopeTakes c → (ret : Shape) (label : ℕ → Option ℕ) (p : ℕ) (b : Option ℕ) (xs : Stmts) → StmtsFit c ret xs → AllFit c (steps_from label p b xs)
  all_steps_fit c h ret label p b Done k = tt
  all_steps_fit c h ret label p b (Seq first rest) k =
      all_join c (steps_at label p b first) (steps_from label (p + steps first) b rest) (steps_fit c h ret label p b first (first_fits c ret first rest k)) (all_steps_fit c h ret label (p + steps first) b rest (rest_fits c ret first rest k))

-- what loading asks of a body
pub record BodyFits (c : Scope) (body : Stmts) : Type 0 where
  pub numbered : labels_of body ≡ numbers_from 0 c.labels
  pub steps : AllFit c (steps_of body)

body_fit : (c : Scope) → ScopeTakes c → (ret : Shape) (body : Stmts) → StmtsTake body → stmts_fit c ret body ≡ true → BodyFits c body
body_fit c h ret body calls e =
    let parts = and_parts (each_stmt (parts_fit c) body) _ e in
    let labels = and_parts (labels_fit c body) _ parts.1 in
    let gotos = and_parts (each_stmt (goto_fits c) body) _ labels.1 in
    let cases = and_parts (cases_fit c None body) _ gotos.1 in
    let once = and_parts (each_stmt cases_are_once body) _ cases.1 in
    let breaks = and_parts (breaks_fit false body) (each_stmt (returns_fit c ret) body) once.1 in
    record {
      numbered = (bytes_eq-Decides (labels_of body) (numbers_from 0 c.labels)).0 labels.0;
      steps =
          all_join c (steps_from (slice_get (labels_from 0 body)) 0 None body) (flat.Leave None ∷ []) (all_steps_fit c h ret (slice_get (labels_from 0 body)) 0 None body (record { parts = parts.0; returns = breaks.1; calls = calls })) (tt, tt);
    }

-- a function's statements fit
record Judged (p : Program) (b : Body) : Type 0 where
  result : Shape
  fit : stmts_fit (scope_of p b) result b.stmts ≡ true

judged : (p : Program) (b : Body) (s : Shape) → body_fits p b s ≡ true → Judged p b
judged p b (FuncType ret params proto variadic) e =
    let one = and_parts (not variadic) _ e in
    let two = and_parts _ (list_all (local_fits p.graph) b.locals && (parameters_fit params b.params b.locals && stmts_fit (scope_of p b) ret b.stmts)) one.1 in
    let three = and_parts (list_all (local_fits p.graph) b.locals) _ two.1 in
    let four = and_parts (parameters_fit params b.params b.locals) (stmts_fit (scope_of p b) ret b.stmts) three.1 in
    record { result = ret; fit = four.1 }
judged p b s e = cc

typed_judged : (p : Program) (s : Shape) (x : GlobalDecl) (b : Body) → x.definition ≡ Function b → typed_fits p s x ≡ true → Judged p b
typed_judged p s x b is e =
    let one = and_parts (has_definition s x.definition) _ e in
    let two = and_parts (internal_is_defined x) _ one.1 in
    let three = and_parts (object_is_complete p.graph s x.definition) (definition_fits p s x.definition) two.1 in
    judged p b s (ap (definition_fits p s) (sym is) ∙ three.1)

global_judged : (p : Program) (x : GlobalDecl) (b : Body) → x.definition ≡ Function b → global_fits p x ≡ true → Judged p b
global_judged p x b is e = by x.type e
  where
    by : (o : Option Shape) → (elim o [ None ↦ false | Some s ↦ typed_fits p s x ]) ≡ true → Judged p b
    by None e = cc
    by (Some s) e = typed_judged p s x b is e

each_of_all : {A : Type 0} (of : A → Bool) (xs : List A) → list_all of xs ≡ true → (i : ℕ) (x : A) → slice_get xs i ≡ Some x → of x ≡ true
each_of_all of [] h i x e = cc
each_of_all of (y ∷ ys) h zero x e = let same : y ≡ x = cc in subst (λ z. of z ≡ true) same (and_parts (of y) (list_all of ys) h).0
each_of_all of (y ∷ ys) h (suc i) x e = each_of_all of ys (and_parts (of y) (list_all of ys) h).1 i x e

-- each function's body in a unit fits
pub bodies_fit : (p : Program) → IsUnit p → (n : ℕ) (x : GlobalDecl) (b : Body) → global_at p n ≡ Some x → x.definition ≡ Function b → BodyFits (scope_of p b) b.stmts
bodies_fit p is n x b there body =
    let takes = functions_take p is n x b there body in
    let j = global_judged p x b body (each_of_all (global_fits p) p.globals is.globals n x there) in
    body_fit (scope_of p b) takes.scope j.result b.stmts takes.calls j.fit

pub fitting_bodies_run : FittingBodiesRun
fitting_bodies_run p is n x b there body programs entities end code steps =
    let fit = bodies_fit p is n x b there body in
    loaded_bodies_run programs (scope_of p b) entities end b.stmts code fit.numbered fit.steps steps
