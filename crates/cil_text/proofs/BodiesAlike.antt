-- Device: whether functions' bodies fit depends on nothing but what the equality of programs speaks of.
use Rattle.std.proofs.Common.{◌≡◌, ℕ, ◌&&◌, ◌||◌, not, Bool, false, List, [], ◌∷◌, Option, Some, None, is_some, refl, ap, ◌∙◌}
use Rattle.std.specs.List.{list_all}
use Rattle.std.specs.Option.{option_and_then}
use Rattle.cil_base.specs.declared.kinds.IntKind.{IntKind}
use Rattle.cil_base.specs.declared.kinds.Abi.{Abi}
use Rattle.type_graph.specs.Shapes.{Shape, Shapes, VoidType, IntType, PtrType, ArrayType, FuncType, AggType, NoTypes, MoreTypes}
use Rattle.type_graph.specs.Arena.{complete_shape}
use Rattle.cil_tree.specs.Tree.{Exp, Lval, Callee, Direct, Through, Instr, Set, Call, Zero, Stmt, Do, If, Switch, Loop, Block, Label, Case, Default, Goto, Break, Return, Stmts, Done, Seq, Local, Body, Program}
use Rattle.cil_tree.specs.Typing.{is_type, is_void, is_scalar, pointed, type_of, place_type}
use Rattle.cil_tree.specs.Bodies.{is_complete, has_type, set_fits, zero_fits, is_promoted, argument_is_promoted, arguments_fit, result_fits, callee_type, called_fits, instr_fits, test_fits, kind_of, switch_kind, parts_fit, each_stmt, labels_fit, goto_fits, cases_are_once, cases_fit, cases_fit_in, breaks_fit, returns_fit, stmts_fit, local_fits, parameters_fit, body_fits, case_fits}
use Rattle.cil_text.proofs.Alike.{enum_alike, scalar_alike, complete_alike, global_type_alike}
use Rattle.cil_text.proofs.TypedAlike.{Equal, in_scope, exp_type_alike, place_type_alike}

elim_same : {A B : Type 0} (d : B) (f g : A → B) (o : Option A) → ((x : A) → f x ≡ g x) → elim o as (λ _. B) [ None ↦ d | Some x ↦ f x ] ≡ elim o as (λ _. B) [ None ↦ d | Some x ↦ g x ]
elim_same d f g None h = refl
elim_same d f g (Some x) h = h x

-- what is said of something that may be missing
pub elim_alike : {A B : Type 0} (d : B) (f g : A → B) (o u : Option A) → o ≡ u → ((x : A) → f x ≡ g x) → elim o as (λ _. B) [ None ↦ d | Some x ↦ f x ] ≡ elim u as (λ _. B) [ None ↦ d | Some x ↦ g x ]
elim_alike {A} {B} d f g o u e h = ap (λ (v : Option A). elim v as (λ _. B) [ None ↦ d | Some x ↦ f x ]) e ∙ elim_same d f g u h

pub and_alike : (a b c d : Bool) → a ≡ b → c ≡ d → a && c ≡ b && d
and_alike a b c d e f = ap (λ x. x && c) e ∙ ap (λ x. b && x) f

-- instructions

typed_alike : (p q : Program) → Equal p q → (ls : List Local) (bs : List (List ℕ)) (e : Exp) (s : Shape) → has_type (in_scope p ls bs) e s ≡ has_type (in_scope q ls bs) e s
typed_alike p q same ls bs e s = ap (λ o. is_type o s) (exp_type_alike p q same ls bs e)

set_alike : (p q : Program) → Equal p q → (ls : List Local) (bs : List (List ℕ)) (place : Lval) (value : Exp) → set_fits (in_scope p ls bs) place value ≡ set_fits (in_scope q ls bs) place value
set_alike p q same ls bs place value =
    let c = in_scope p ls bs in
    let d = in_scope q ls bs in
    elim_alike false (λ (s : Shape). is_complete c s && has_type c value s) (λ (s : Shape). is_complete d s && has_type d value s) (place_type c place) (place_type d place) (place_type_alike p q same ls bs place)
    (λ s. and_alike (is_complete c s) (is_complete d s) (has_type c value s) (has_type d value s) (complete_alike p q same.aggregates s) (typed_alike p q same ls bs value s))

zero_alike : (p q : Program) → Equal p q → (ls : List Local) (bs : List (List ℕ)) (place : Lval) → zero_fits (in_scope p ls bs) place ≡ zero_fits (in_scope q ls bs) place
zero_alike p q same ls bs place =
    let c = in_scope p ls bs in
    let d = in_scope q ls bs in
    elim_alike false (is_complete c) (is_complete d) (place_type c place) (place_type d place) (place_type_alike p q same ls bs place) (complete_alike p q same.aggregates)

promoted_alike : (p q : Program) → Equal p q → (s : Shape) → is_promoted p.graph s ≡ is_promoted q.graph s
promoted_alike p q same VoidType = refl
promoted_alike p q same (IntType k) = refl
promoted_alike p q same (PtrType r s) = refl
promoted_alike p q same (ArrayType r s bound) = refl
promoted_alike p q same (FuncType ret params proto variadic) = refl
promoted_alike p q same (AggType a) = ap not (enum_alike p q same.aggregates a)

argument_alike : (p q : Program) → Equal p q → (ls : List Local) (bs : List (List ℕ)) (e : Exp) → argument_is_promoted (in_scope p ls bs) e ≡ argument_is_promoted (in_scope q ls bs) e
argument_alike p q same ls bs e = elim_alike false (is_promoted p.graph) (is_promoted q.graph) (type_of (in_scope p ls bs) e) (type_of (in_scope q ls bs) e) (exp_type_alike p q same ls bs e) (promoted_alike p q same)

arguments_alike : (p q : Program) → Equal p q → (ls : List Local) (bs : List (List ℕ)) (params : Shapes) (more : Bool) (es : List Exp) → arguments_fit (in_scope p ls bs) params more es ≡ arguments_fit (in_scope q ls bs) params more es
arguments_alike p q same ls bs NoTypes more [] = refl
arguments_alike p q same ls bs NoTypes more (e ∷ es) =
    let c = in_scope p ls bs in
    let d = in_scope q ls bs in
    ap (λ b. more && b) (and_alike (argument_is_promoted c e) (argument_is_promoted d e) (arguments_fit c NoTypes more es) (arguments_fit d NoTypes more es) (argument_alike p q same ls bs e) (arguments_alike p q same ls bs NoTypes more es))
arguments_alike p q same ls bs (MoreTypes s params) more [] = refl
arguments_alike p q same ls bs (MoreTypes s params) more (e ∷ es) =
    let c = in_scope p ls bs in
    let d = in_scope q ls bs in
    and_alike (has_type c e s) (has_type d e s) (arguments_fit c params more es) (arguments_fit d params more es) (typed_alike p q same ls bs e s) (arguments_alike p q same ls bs params more es)

result_alike : (p q : Program) → Equal p q → (ls : List Local) (bs : List (List ℕ)) (o : Option Lval) (ret : Shape) → result_fits (in_scope p ls bs) o ret ≡ result_fits (in_scope q ls bs) o ret
result_alike p q same ls bs None ret = ap (λ b. is_void ret || b) (complete_alike p q same.aggregates ret)
result_alike p q same ls bs (Some place) ret =
    let c = in_scope p ls bs in
    let d = in_scope q ls bs in
    and_alike (is_complete c ret) (is_complete d ret) (is_type (place_type c place) ret) (is_type (place_type d place) ret) (complete_alike p q same.aggregates ret) (ap (λ o. is_type o ret) (place_type_alike p q same ls bs place))

callee_alike : (p q : Program) → Equal p q → (ls : List Local) (bs : List (List ℕ)) (f : Callee) → callee_type (in_scope p ls bs) f ≡ callee_type (in_scope q ls bs) f
callee_alike p q same ls bs (Direct n) = global_type_alike p q same.globals n
callee_alike p q same ls bs (Through pointer) = ap (option_and_then pointed) (exp_type_alike p q same ls bs pointer)

called_alike : (p q : Program) → Equal p q → (ls : List Local) (bs : List (List ℕ)) (result : Option Lval) (es : List Exp) (s : Shape) → called_fits (in_scope p ls bs) result es s ≡ called_fits (in_scope q ls bs) result es s
called_alike p q same ls bs result es (FuncType ret params proto variadic) =
    let c = in_scope p ls bs in
    let d = in_scope q ls bs in
    let more = not proto || variadic in
    and_alike (result_fits c result ret) (result_fits d result ret) (arguments_fit c params more es) (arguments_fit d params more es) (result_alike p q same ls bs result ret) (arguments_alike p q same ls bs params more es)
called_alike p q same ls bs result es VoidType = refl
called_alike p q same ls bs result es (IntType k) = refl
called_alike p q same ls bs result es (PtrType r s) = refl
called_alike p q same ls bs result es (ArrayType r s bound) = refl
called_alike p q same ls bs result es (AggType a) = refl

instr_alike : (p q : Program) → Equal p q → (ls : List Local) (bs : List (List ℕ)) (i : Instr) → instr_fits (in_scope p ls bs) i ≡ instr_fits (in_scope q ls bs) i
instr_alike p q same ls bs (Set place value) = set_alike p q same ls bs place value
instr_alike p q same ls bs (Call result f es) =
    let c = in_scope p ls bs in
    let d = in_scope q ls bs in
    elim_alike false (called_fits c result es) (called_fits d result es) (callee_type c f) (callee_type d f) (callee_alike p q same ls bs f) (called_alike p q same ls bs result es)
instr_alike p q same ls bs (Zero place) = zero_alike p q same ls bs place

-- statements

test_alike : (p q : Program) → Equal p q → (ls : List Local) (bs : List (List ℕ)) (e : Exp) → test_fits (in_scope p ls bs) e ≡ test_fits (in_scope q ls bs) e
test_alike p q same ls bs e = elim_alike false (is_scalar p.graph) (is_scalar q.graph) (type_of (in_scope p ls bs) e) (type_of (in_scope q ls bs) e) (exp_type_alike p q same ls bs e) (scalar_alike p q same.aggregates)

switch_alike : (p q : Program) → Equal p q → (ls : List Local) (bs : List (List ℕ)) (e : Exp) → switch_kind (in_scope p ls bs) e ≡ switch_kind (in_scope q ls bs) e
switch_alike p q same ls bs e = ap (option_and_then kind_of) (exp_type_alike p q same ls bs e)

parts_alike : (p q : Program) → Equal p q → (ls : List Local) (bs : List (List ℕ)) (s : Stmt) → parts_fit (in_scope p ls bs) s ≡ parts_fit (in_scope q ls bs) s
parts_alike p q same ls bs (Do i) = instr_alike p q same ls bs i
parts_alike p q same ls bs (If test holds fails) = test_alike p q same ls bs test
parts_alike p q same ls bs (Switch value body) = ap is_some (switch_alike p q same ls bs value)
parts_alike p q same ls bs (Loop body) = refl
parts_alike p q same ls bs (Block body) = refl
parts_alike p q same ls bs (Label n) = refl
parts_alike p q same ls bs (Case k v) = refl
parts_alike p q same ls bs Default = refl
parts_alike p q same ls bs (Goto n) = refl
parts_alike p q same ls bs Break = refl
parts_alike p q same ls bs (Return o) = refl

goto_alike : (p q : Program) (ls : List Local) (bs : List (List ℕ)) (s : Stmt) → goto_fits (in_scope p ls bs) s ≡ goto_fits (in_scope q ls bs) s
goto_alike p q ls bs (Do i) = refl
goto_alike p q ls bs (If test holds fails) = refl
goto_alike p q ls bs (Switch value body) = refl
goto_alike p q ls bs (Loop body) = refl
goto_alike p q ls bs (Block body) = refl
goto_alike p q ls bs (Label n) = refl
goto_alike p q ls bs (Case k v) = refl
goto_alike p q ls bs Default = refl
goto_alike p q ls bs (Goto n) = refl
goto_alike p q ls bs Break = refl
goto_alike p q ls bs (Return o) = refl

returns_alike : (p q : Program) → Equal p q → (ls : List Local) (bs : List (List ℕ)) (ret : Shape) (s : Stmt) → returns_fit (in_scope p ls bs) ret s ≡ returns_fit (in_scope q ls bs) ret s
returns_alike p q same ls bs ret (Do i) = refl
returns_alike p q same ls bs ret (If test holds fails) = refl
returns_alike p q same ls bs ret (Switch value body) = refl
returns_alike p q same ls bs ret (Loop body) = refl
returns_alike p q same ls bs ret (Block body) = refl
returns_alike p q same ls bs ret (Label n) = refl
returns_alike p q same ls bs ret (Case k v) = refl
returns_alike p q same ls bs ret Default = refl
returns_alike p q same ls bs ret (Goto n) = refl
returns_alike p q same ls bs ret Break = refl
returns_alike p q same ls bs ret (Return None) = refl
returns_alike p q same ls bs ret (Return (Some e)) = ap (λ b. not (is_void ret) && b) (typed_alike p q same ls bs e ret)

mutual
  cases_alike : (p q : Program) → Equal p q → (ls : List Local) (bs : List (List ℕ)) (kind : Option IntKind) (ss : Stmts) → cases_fit (in_scope p ls bs) kind ss ≡ cases_fit (in_scope q ls bs) kind ss
  cases_alike p q same ls bs kind Done = refl
  cases_alike p q same ls bs kind (Seq first rest) =
      let c = in_scope p ls bs in
      let d = in_scope q ls bs in
      and_alike (cases_fit_in c kind first) (cases_fit_in d kind first) (cases_fit c kind rest) (cases_fit d kind rest) (cases_in_alike p q same ls bs kind first) (cases_alike p q same ls bs kind rest)

  cases_in_alike : (p q : Program) → Equal p q → (ls : List Local) (bs : List (List ℕ)) (kind : Option IntKind) (s : Stmt) → cases_fit_in (in_scope p ls bs) kind s ≡ cases_fit_in (in_scope q ls bs) kind s
  cases_in_alike p q same ls bs kind (If test holds fails) =
      let c = in_scope p ls bs in
      let d = in_scope q ls bs in
      and_alike (cases_fit c kind holds) (cases_fit d kind holds) (cases_fit c kind fails) (cases_fit d kind fails) (cases_alike p q same ls bs kind holds) (cases_alike p q same ls bs kind fails)
  cases_in_alike p q same ls bs kind (Switch value body) =
      ap (λ (k : Option IntKind). cases_fit (in_scope p ls bs) k body) (switch_alike p q same ls bs value) ∙ cases_alike p q same ls bs (switch_kind (in_scope q ls bs) value) body
  cases_in_alike p q same ls bs kind (Loop body) = cases_alike p q same ls bs kind body
  cases_in_alike p q same ls bs kind (Block body) = cases_alike p q same ls bs kind body
  cases_in_alike p q same ls bs kind (Do i) = refl
  cases_in_alike p q same ls bs kind (Label n) = refl
  cases_in_alike p q same ls bs kind (Case k v) = ap (λ (a : Abi). case_fits a kind k v) same.abi
  cases_in_alike p q same ls bs kind Default = refl
  cases_in_alike p q same ls bs kind (Goto n) = refl
  cases_in_alike p q same ls bs kind Break = refl
  cases_in_alike p q same ls bs kind (Return o) = refl

stmts_alike : (p q : Program) → Equal p q → (ls : List Local) (bs : List (List ℕ)) (ret : Shape) (body : Stmts) → stmts_fit (in_scope p ls bs) ret body ≡ stmts_fit (in_scope q ls bs) ret body
stmts_alike p q same ls bs ret body =
    let c = in_scope p ls bs in
    let d = in_scope q ls bs in
    let labels = labels_fit c body in
    let once = each_stmt cases_are_once body in
    let breaks = breaks_fit false body in
    ap (λ (f : Stmt → Bool). each_stmt f body && (labels && (each_stmt (goto_fits c) body && (cases_fit c None body && (once && (breaks && each_stmt (returns_fit c ret) body)))))) (λ i s. parts_alike p q same ls bs s i)
    ∙ ap (λ (f : Stmt → Bool). each_stmt (parts_fit d) body && (labels && (each_stmt f body && (cases_fit c None body && (once && (breaks && each_stmt (returns_fit c ret) body)))))) (λ i s. goto_alike p q ls bs s i)
    ∙ ap (λ b. each_stmt (parts_fit d) body && (labels && (each_stmt (goto_fits d) body && (b && (once && (breaks && each_stmt (returns_fit c ret) body)))))) (cases_alike p q same ls bs None body)
    ∙ ap (λ (f : Stmt → Bool). each_stmt (parts_fit d) body && (labels && (each_stmt (goto_fits d) body && (cases_fit d None body && (once && (breaks && each_stmt f body)))))) (λ i s. returns_alike p q same ls bs ret s i)

local_alike : (p q : Program) → Equal p q → (x : Local) → local_fits p.graph x ≡ local_fits q.graph x
local_alike p q same x = elim_alike false (complete_shape p.graph.aggs) (complete_shape q.graph.aggs) x.type x.type refl (complete_alike p q same.aggregates)

pub body_alike : (p q : Program) → Equal p q → (b : Body) (s : Shape) → body_fits p b s ≡ body_fits q b s
body_alike p q same b VoidType = refl
body_alike p q same b (IntType k) = refl
body_alike p q same b (PtrType r s) = refl
body_alike p q same b (ArrayType r s bound) = refl
body_alike p q same b (AggType a) = refl
body_alike p q same b (FuncType ret params proto variadic) =
    let are = parameters_fit params b.params b.locals in
    let stmts = λ (r : Program). stmts_fit (in_scope r b.locals b.labels) ret b.stmts in
    ap (λ x. not variadic && ((is_void ret || x) && (list_all (local_fits p.graph) b.locals && (are && stmts p)))) (complete_alike p q same.aggregates ret)
    ∙ ap (λ (f : Local → Bool). not variadic && ((is_void ret || complete_shape q.graph.aggs ret) && (list_all f b.locals && (are && stmts p)))) (λ i x. local_alike p q same x i)
    ∙ ap (λ x. not variadic && ((is_void ret || complete_shape q.graph.aggs ret) && (list_all (local_fits q.graph) b.locals && (are && x)))) (stmts_alike p q same b.locals b.labels ret b.stmts)
