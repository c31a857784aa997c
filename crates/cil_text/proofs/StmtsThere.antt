-- Device: the statements of a well-formed body are read back.
use Rattle.std.proofs.Common.{◌≡◌, ℕ, suc, zero, ◌<◌, ◌&&◌, ◌||◌, not, nat_lt, Bool, true, false, cond, List, [], ◌∷◌, ◌++◌, length, Option, Some, None, is_some, slice_get, refl, sym, ap, ◌∙◌, subst, arith, ltb-true}
use Rattle.std.specs.Prelude.{ℤ, slice_index_or, codes}
use Rattle.std.specs.List.{list_all}
use Rattle.std.specs.Option.{option_and_then}
use Rattle.std.specs.Str.{bytes_eq}
use Rattle.cil_base.specs.declared.kinds.IntKind.{IntKind}
use Rattle.cil_base.specs.Arithmetic.{fits}
use Rattle.type_graph.specs.Shapes.{Shape, Shapes, VoidType, IntType, PtrType, ArrayType, FuncType, AggType, NoTypes, MoreTypes}
use Rattle.cil_tree.specs.Tree.{Exp, Const, Value, Un, Bin, Cast, AddrOf, StartOf, At, Here, Lval, Place, Callee, Direct, Through, Instr, Set, Call, Zero, Stmt, Do, If, Switch, Loop, Block, Label, Case, Default, Goto, Break, Return, Stmts, Done, Seq, Program}
use Rattle.cil_base.specs.Kinds.{same_kind}
use Rattle.cil_tree.specs.Typing.{Scope, is_type, is_void, is_wide, is_array, is_scalar, pointer_to, global_type, pointed, address_type, type_of, place_type}
use Rattle.cil_tree.specs.Bodies.{is_complete, has_type, is_promoted, argument_is_promoted, arguments_fit, result_fits, callee_type, called_fits, instr_fits, kind_of, switch_kind, parts_fit, each_stmt, each_within, labels_of, labels_in, goto_fits, case_fits, cases_fit, cases_fit_in, returns_fit}
use Rattle.cil_tree.specs.Names.{is_name, is_plain_name, is_builtin, are_different, memset_type}
use Rattle.cil_tree.specs.Text.{global_name, label_name, exp_tokens, callee_tokens}
use Rattle.cil_base.proofs.KindLaws.{kind_told}
use Rattle.cil_tree.proofs.ShapeEquality.{shape_told}
use Rattle.cil_base.specs.declared.operators.BinOp.TheVariants.{Mul}
use Rattle.cil_base.specs.Integer.{has_kind, kind_in}
use Rattle.cil_base.specs.declared.kinds.Abi.{Abi}
use Rattle.cil_text.specs.Words.{Word, LeftParen, RightParen, Operator, Name, word_of, onto}
use Rattle.cil_text.specs.ReadGlobals.{params_of}
use Rattle.cil_text.specs.ReadExps.{name_at, is_array_type}
use Rattle.cil_text.specs.Known.{env_of}
use Rattle.cil_text.specs.ReadStmts.{memset}
use Rattle.cil_text.proofs.WordsBack.{both, name_word, suffix_kind}
use Rattle.cil_text.proofs.Clean.{name_clean, parens_clean}
use Rattle.cil_text.proofs.Typed.{bound_some, global_type_known, global_name_known, pointee_is}
use Rattle.cil_text.proofs.Told.{IsScope, CanCast, CanCastIn, Told, exp_told, place_told, wide_suffix, enclosed_words}
use Rattle.cil_text.proofs.InstrsBack.{ArgsTold, CalleeTold, ResultTold, ZeroApart, InstrTold}
use Rattle.cil_text.proofs.ExpsBack.{place_spelled}
use Rattle.cil_text.proofs.NamesThere.{all_get, found}
use Rattle.cil_text.proofs.StmtsBack.{IsLabelOf, StmtTold, StmtsTold}

-- the types of casts in statements can be spelled

abbrev pub ArgsCast : Program → List Exp → Type 0
ArgsCast p [] = Unit {0}
ArgsCast p (e ∷ es) = CanCast p e × ArgsCast p es

abbrev pub ResultCast : Program → Option Lval → Type 0
ResultCast p None = Unit {0}
ResultCast p (Some place) = CanCastIn p place

abbrev pub CalleeCast : Program → Callee → Type 0
CalleeCast p (Direct n) = Unit {0}
CalleeCast p (Through pointer) = CanCast p pointer

abbrev pub InstrCast : Program → Instr → Type 0
InstrCast p (Set place value) = CanCastIn p place × CanCast p value
InstrCast p (Call result callee arguments) = ResultCast p result × CalleeCast p callee × ArgsCast p arguments
InstrCast p (Zero place) = CanCastIn p place

abbrev mutual
  pub StmtCast : Program → Stmt → Type 0
  StmtCast p (Do instr) = InstrCast p instr
  StmtCast p (If test holds fails) = CanCast p test × StmtsCast p holds × StmtsCast p fails
  StmtCast p (Switch value body) = CanCast p value × StmtsCast p body
  StmtCast p (Loop body) = StmtsCast p body
  StmtCast p (Block body) = StmtsCast p body
  StmtCast p (Return (Some e)) = CanCast p e
  StmtCast p _ = Unit {0}

  pub StmtsCast : Program → Stmts → Type 0
  StmtsCast p Done = Unit {0}
  StmtsCast p (Seq first rest) = StmtCast p first × StmtsCast p rest

-- the function that zero fills use has its one type
abbrev pub HasMemset : Program → Type 0
HasMemset p = (n : ℕ) (s : Shape) → global_type p n ≡ Some s → bytes_eq (global_name p n) memset ≡ true → s ≡ memset_type p.graph

pub type_is : (o : Option Shape) (s : Shape) → is_type o s ≡ true → o ≡ Some s
type_is None s e = absurd (cc e)
type_is (Some t) s e = ap Some (shape_told t s e)

-- what a rule on an option's content says
pub given : {A : Type 0} (o : Option A) (f : A → Bool) → elim o [ None ↦ false | Some x ↦ f x ] ≡ true → (x : A) × (o ≡ Some x) × (f x ≡ true)
given None f e = absurd (cc e)
given (Some x) f e = (x, refl, e)

args_there : (c : Scope) → IsScope c → (params : Shapes) (more : Bool) (es : List Exp) → ArgsCast c.program es → arguments_fit c params more es ≡ true → ArgsTold c es
args_there c scope params more [] cast e = tt
args_there c scope NoTypes more (x ∷ es) cast e =
    let h = both (argument_is_promoted c x) (arguments_fit c NoTypes more es) (both more (argument_is_promoted c x && arguments_fit c NoTypes more es) e).1 in
    let t = given (type_of c x) (is_promoted c.program.graph) h.0 in
    (exp_told c scope x t.0 cast.0 t.1, args_there c scope NoTypes more es cast.1 h.1)
args_there c scope (MoreTypes s params) more (x ∷ es) cast e =
    let h = both (has_type c x s) (arguments_fit c params more es) e in
    (exp_told c scope x s cast.0 (type_is (type_of c x) s h.0), args_there c scope params more es cast.1 h.1)

abbrev IsCalled : Shape → Type 0
IsCalled s = is_array s ≡ false

through : (c : Scope) (pointer : Exp) → Told c pointer → (rest : List Word) → onto (callee_tokens c (Through pointer)) rest ≡ place_spelled c.program (env_of c) (Place (At pointer) Here) rest
unfolding word_of
through c pointer told rest = ap (λ (ws : List Word). LeftParen ∷ Operator Mul ∷ ws) (enclosed_words (exp_tokens c pointer) rest ∙ told.0 (RightParen ∷ rest))

callee_there : (c : Scope) → IsScope c → (f : Callee) (s : Shape) → CalleeCast c.program f → callee_type c f ≡ Some s → IsCalled s → CalleeTold c f
callee_there c scope (Direct n) s cast e no_array = (
  (λ rest. ap (λ (w : Word). w ∷ rest) (name_word (global_name c.program n) (scope.global_name n s e) ∙ ap Name (sym (global_name_known c n)))),
  (scope.global_found n s e, tt),
  ap is_array_type (global_type_known c n ∙ e) ∙ no_array,
  (name_clean (global_name c.program n) (scope.global_name n s e), tt),
)
callee_there c scope (Through pointer) s cast e no_array =
    let h = bound_some pointed (type_of c pointer) s e in
    let told = exp_told c scope pointer h.0 cast h.1 in (
      (λ rest. through c pointer told rest),
      (told.1, tt),
      ap is_array_type (pointee_is c pointer h.0 h.1 ∙ h.2) ∙ no_array,
      parens_clean (codes "*" ∷ exp_tokens c pointer) (refl, told.2),
    )

-- no address is a pointer to void
void_pointer : (c : Scope) (place : Lval) → has_type c (AddrOf place) (pointer_to VoidType) ≡ true → ⊥
void_pointer c place e =
    let h = bound_some address_type (place_type c place) (pointer_to VoidType) (type_is (type_of c (AddrOf place)) (pointer_to VoidType) e) in
    by h.0 (is_void h.0) refl h.2
  where
    by : (s : Shape) (b : Bool) → is_void s ≡ b → cond b None (Some (pointer_to s)) ≡ Some (pointer_to VoidType) → ⊥
    by s true v f = absurd (cc f)
    by s false v f = let same : s ≡ VoidType = cc in absurd (cc (sym (ap is_void same) ∙ v))

zero_apart : (c : Scope) → HasMemset c.program → (result : Option Lval) (f : Callee) (ret : Shape) (params : Shapes) (proto variadic : Bool) (es : List Exp) → callee_type c f ≡ Some (FuncType ret params proto variadic) →
    arguments_fit c params (not proto || variadic) es ≡ true → ZeroApart c result f es
zero_apart c has None (Direct n) ret params proto variadic (AddrOf place ∷ es) e fit = by (bytes_eq (name_at (env_of c).globals n) memset) refl
  where
    typed : bytes_eq (name_at (env_of c).globals n) memset ≡ true → FuncType ret params proto variadic ≡ memset_type c.program.graph
    typed q = has n (FuncType ret params proto variadic) e (ap (λ name. bytes_eq name memset) (sym (global_name_known c n)) ∙ q)

    wrong : (ps : Shapes) (more : Bool) → arguments_fit c ps more (AddrOf place ∷ es) ≡ true → ps ≡ params_of (memset_type c.program.graph) → ⊥
    wrong ps more f same =
        let g = subst (λ (x : Shapes). arguments_fit c x more (AddrOf place ∷ es) ≡ true) same f in
        void_pointer c place (both (has_type c (AddrOf place) (pointer_to VoidType)) _ g).0

    by : (b : Bool) → bytes_eq (name_at (env_of c).globals n) memset ≡ b → bytes_eq (name_at (env_of c).globals n) memset ≡ false
    by false q = q
    by true q = absurd (wrong params (not proto || variadic) fit (ap params_of (typed q)))
zero_apart c has None (Direct n) ret params proto variadic [] e fit = tt
zero_apart c has None (Direct n) ret params proto variadic (Const k v ∷ es) e fit = tt
zero_apart c has None (Direct n) ret params proto variadic (Value place ∷ es) e fit = tt
zero_apart c has None (Direct n) ret params proto variadic (Un op x ∷ es) e fit = tt
zero_apart c has None (Direct n) ret params proto variadic (Bin op x y ∷ es) e fit = tt
zero_apart c has None (Direct n) ret params proto variadic (Cast to x ∷ es) e fit = tt
zero_apart c has None (Direct n) ret params proto variadic (StartOf place ∷ es) e fit = tt
zero_apart c has None (Through q) ret params proto variadic es e fit = tt
zero_apart c has (Some place) f ret params proto variadic es e fit = tt

result_there : (c : Scope) → IsScope c → (result : Option Lval) (ret : Shape) → ResultCast c.program result → result_fits c result ret ≡ true → ResultTold c result
result_there c scope None ret cast e = tt
result_there c scope (Some place) ret cast e = place_told c scope place ret cast (type_is (place_type c place) ret (both (is_complete c ret) (is_type (place_type c place) ret) e).1)

call_there : (c : Scope) → IsScope c → HasMemset c.program → (result : Option Lval) (f : Callee) (es : List Exp) (s : Shape) → InstrCast c.program (Call result f es) → callee_type c f ≡ Some s → called_fits c result es s ≡ true → InstrTold c (Call result f es)
call_there c scope has result f es (FuncType ret params proto variadic) cast e fit =
    let h = both (result_fits c result ret) (arguments_fit c params (not proto || variadic) es) fit in
    (result_there c scope result ret cast.0 h.0, callee_there c scope f (FuncType ret params proto variadic) cast.1 e refl, args_there c scope params (not proto || variadic) es cast.2 h.1, zero_apart c has result f ret params proto variadic es e h.1)
call_there c scope has result f es VoidType cast e fit = absurd (cc fit)
call_there c scope has result f es (IntType k) cast e fit = absurd (cc fit)
call_there c scope has result f es (PtrType q s) cast e fit = absurd (cc fit)
call_there c scope has result f es (ArrayType q s bound) cast e fit = absurd (cc fit)
call_there c scope has result f es (AggType a) cast e fit = absurd (cc fit)

instr_there : (c : Scope) → IsScope c → HasMemset c.program → (i : Instr) → InstrCast c.program i → instr_fits c i ≡ true → InstrTold c i
instr_there c scope has (Set place value) cast e =
    let h = given (place_type c place) (λ s. is_complete c s && has_type c value s) e in
    let k = both (is_complete c h.0) (has_type c value h.0) h.2 in
    (place_told c scope place h.0 cast.0 h.1, exp_told c scope value h.0 cast.1 (type_is (type_of c value) h.0 k.1))
instr_there c scope has (Call result f es) cast e =
    let h = given (callee_type c f) (called_fits c result es) e in
    call_there c scope has result f es h.0 cast h.1 h.2
instr_there c scope has (Zero place) cast e = let h = given (place_type c place) (is_complete c) e in place_told c scope place h.0 cast h.1

-- labels

pub index_get : (xs : List (List ℕ)) (n : ℕ) → n < length xs → slice_get xs n ≡ Some (slice_index_or xs n [])
index_get [] n small = absurd (omega arith)
index_get (x ∷ xs) zero small = refl
index_get (x ∷ xs) (suc n) small = index_get xs n (omega arith)

pub label_there : (c : Scope) → list_all is_plain_name c.labels ≡ true → are_different c.labels ≡ true → (l : ℕ) → nat_lt l (length c.labels) ≡ true → IsLabelOf c l
label_there c named differ l small =
    let at = index_get c.labels l (ltb-true l (length c.labels) small) in
    let plain = all_get is_plain_name c.labels l (label_name c l) named at in
    ((both (is_name (label_name c l)) (not (is_builtin (label_name c l))) plain).0, found c.labels l (label_name c l) differ at)

abbrev below : ℕ → ℕ → Bool
below n l = nat_lt l n

all_parts : (f : ℕ → Bool) (xs ys : List ℕ) → list_all f (xs ++ ys) ≡ true → (list_all f xs ≡ true) × (list_all f ys ≡ true)
all_parts f [] ys e = (refl, e)
all_parts f (x ∷ xs) ys e =
    let h = both (f x) (list_all f (xs ++ ys)) e in
    let k = all_parts f xs ys h.1 in
    (ap (λ b. b && list_all f xs) h.0 ∙ k.0, k.1)

-- kinds of switches

abbrev WideKind : Option IntKind → Type 0
WideKind None = Unit {0}
WideKind (Some k) = is_wide k ≡ true

kind_wide : (s : Shape) → WideKind (kind_of s)
kind_wide (IntType k) = by (is_wide k) refl
  where
    by : (b : Bool) → is_wide k ≡ b → WideKind (cond b (Some k) None)
    by true e = e
    by false e = tt
kind_wide VoidType = tt
kind_wide (PtrType q s) = tt
kind_wide (ArrayType q s bound) = tt
kind_wide (FuncType r ps p v) = tt
kind_wide (AggType a) = tt

switch_wide : (c : Scope) (e : Exp) → WideKind (switch_kind c e)
switch_wide c e = by (type_of c e)
  where
    by : (o : Option Shape) → WideKind (option_and_then kind_of o)
    by None = tt
    by (Some s) = kind_wide s

case_there : (abi : Abi) (o : Option IntKind) (k : IntKind) (v : ℤ) → WideKind o → case_fits abi o k v ≡ true → (kind_in abi (suffix_kind k) ≡ k) × (fits k v ≡ true)
case_there abi None k v wide e = absurd (cc e)
case_there abi (Some j) k v wide e =
    let h = both (same_kind k j) (has_kind abi k && fits k v) e in
    let f = both (has_kind abi k) (fits k v) h.1 in
    (wide_suffix abi k (ap is_wide (kind_told k j h.0) ∙ wide) f.0, f.1)

some_there : {A B : Type 0} (f : A → Option B) (o : Option A) → is_some (option_and_then f o) ≡ true → (x : A) × (o ≡ Some x)
some_there f None e = absurd (cc e)
some_there f (Some x) e = (x, refl)

each_parts : (f : Stmt → Bool) (first : Stmt) (rest : Stmts) → each_stmt f (Seq first rest) ≡ true → (f first ≡ true) × (each_within f first ≡ true) × (each_stmt f rest ≡ true)
each_parts f first rest e =
    let h = both (f first) (each_within f first && each_stmt f rest) e in
    let k = both (each_within f first) (each_stmt f rest) h.1 in
    (h.0, k.0, k.1)

mutual
  stmt_there : (c : Scope) → IsScope c → HasMemset c.program → ((l : ℕ) → nat_lt l (length c.labels) ≡ true → IsLabelOf c l) → (kind : Option IntKind) → WideKind kind → (ret : Shape) (s : Stmt) → StmtCast c.program s →
      parts_fit c s ≡ true → each_within (parts_fit c) s ≡ true → list_all (below (length c.labels)) (labels_in s) ≡ true → goto_fits c s ≡ true → each_within (goto_fits c) s ≡ true → cases_fit_in c kind s ≡ true →
      returns_fit c ret s ≡ true → each_within (returns_fit c ret) s ≡ true → StmtTold c s
  stmt_there c scope has labels kind wide ret (Do instr) cast part parts low goto_ gotos cases return returns = instr_there c scope has instr cast part
  stmt_there c scope has labels kind wide ret (If test holds fails) cast part parts low goto_ gotos cases return returns =
      let t = given (type_of c test) (is_scalar c.program.graph) part in
      let p = both (each_stmt (parts_fit c) holds) (each_stmt (parts_fit c) fails) parts in
      let l = all_parts (below (length c.labels)) (labels_of holds) (labels_of fails) low in
      let g = both (each_stmt (goto_fits c) holds) (each_stmt (goto_fits c) fails) gotos in
      let k = both (cases_fit c kind holds) (cases_fit c kind fails) cases in
      let r = both (each_stmt (returns_fit c ret) holds) (each_stmt (returns_fit c ret) fails) returns in
      (exp_told c scope test t.0 cast.0 t.1, stmts_there c scope has labels kind wide ret holds cast.1 p.0 l.0 g.0 k.0 r.0, stmts_there c scope has labels kind wide ret fails cast.2 p.1 l.1 g.1 k.1 r.1)
  stmt_there c scope has labels kind wide ret (Switch value body) cast part parts low goto_ gotos cases return returns =
      let t = some_there kind_of (type_of c value) part in
      (exp_told c scope value t.0 cast.0 t.1, stmts_there c scope has labels (switch_kind c value) (switch_wide c value) ret body cast.1 parts low gotos cases returns)
  stmt_there c scope has labels kind wide ret (Loop body) cast part parts low goto_ gotos cases return returns = stmts_there c scope has labels kind wide ret body cast parts low gotos cases returns
  stmt_there c scope has labels kind wide ret (Block body) cast part parts low goto_ gotos cases return returns = stmts_there c scope has labels kind wide ret body cast parts low gotos cases returns
  stmt_there c scope has labels kind wide ret (Label l) cast part parts low goto_ gotos cases return returns = labels l (both (nat_lt l (length c.labels)) true low).0
  stmt_there c scope has labels kind wide ret (Case k v) cast part parts low goto_ gotos cases return returns = case_there c.program.graph.abi kind k v wide cases
  stmt_there c scope has labels kind wide ret Default cast part parts low goto_ gotos cases return returns = tt
  stmt_there c scope has labels kind wide ret (Goto l) cast part parts low goto_ gotos cases return returns = labels l goto_
  stmt_there c scope has labels kind wide ret Break cast part parts low goto_ gotos cases return returns = tt
  stmt_there c scope has labels kind wide ret (Return None) cast part parts low goto_ gotos cases return returns = tt
  stmt_there c scope has labels kind wide ret (Return (Some e)) cast part parts low goto_ gotos cases return returns =
      exp_told c scope e ret cast (type_is (type_of c e) ret (both (not (is_void ret)) (has_type c e ret) return).1)

  pub stmts_there : (c : Scope) → IsScope c → HasMemset c.program → ((l : ℕ) → nat_lt l (length c.labels) ≡ true → IsLabelOf c l) → (kind : Option IntKind) → WideKind kind → (ret : Shape) (ss : Stmts) → StmtsCast c.program ss →
      each_stmt (parts_fit c) ss ≡ true → list_all (below (length c.labels)) (labels_of ss) ≡ true → each_stmt (goto_fits c) ss ≡ true → cases_fit c kind ss ≡ true → each_stmt (returns_fit c ret) ss ≡ true → StmtsTold c ss
  stmts_there c scope has labels kind wide ret Done cast parts low gotos cases returns = tt
  stmts_there c scope has labels kind wide ret (Seq first rest) cast parts low gotos cases returns =
      let p = each_parts (parts_fit c) first rest parts in
      let l = all_parts (below (length c.labels)) (labels_in first) (labels_of rest) low in
      let g = each_parts (goto_fits c) first rest gotos in
      let k = both (cases_fit_in c kind first) (cases_fit c kind rest) cases in
      let r = each_parts (returns_fit c ret) first rest returns in
      (stmt_there c scope has labels kind wide ret first cast.0 p.0 p.1 l.0 g.0 g.1 k.0 r.0 r.1, stmts_there c scope has labels kind wide ret rest cast.1 p.2 l.1 g.2 k.1 r.2)
