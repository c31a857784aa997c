-- Device: names of well-formed programs are no braces, and the expressions and places of their statements have types.
use Rattle.std.proofs.Common.{◌≡◌, ℕ, zero, suc, nat_lt, Bool, true, false, ◌&&◌, ◌||◌, not, cond, is_some, List, [], ◌∷◌, Option, Some, None, map, slice_get, slice_index_or, refl, sym, ap, ◌∙◌, subst, arith}
use Rattle.std.specs.List.{list_all}
use Rattle.std.specs.Option.{option_and_then}
use Rattle.std.specs.Str.{bytes_eq}
use Rattle.std.proofs.lemmas.Bool.Decides.{nat_tests}
use Rattle.std.proofs.lemmas.Slice.Eq.{bytes_eq-Decides}
use Rattle.type_graph.specs.declared.aggregates.AggKind.{AggKind}
use Rattle.type_graph.specs.declared.aggregates.AggKind.TheVariants.{Struct, Union, Enum}
use Rattle.type_graph.specs.declared.aggregates.Aggregate.{Aggregate}
use Rattle.type_graph.specs.declared.aggregates.Member.{Member}
use Rattle.type_graph.specs.Arena.{Graph, IsArena, EachBelow, members_of, rank}
use Rattle.type_graph.specs.Shapes.{Shape, Shapes, VoidType, IntType, PtrType, ArrayType, FuncType, AggType, NoTypes, MoreTypes}
use Rattle.cil_tree.specs.Tree.{Exp, Lval, Callee, Direct, Through, Instr, Set, Call, Zero, Stmt, Do, If, Switch, Loop, Block, Label, Case, Default, Goto, Break, Return, Stmts, Done, Seq, Local, Body, Function, GlobalDecl, Program}
use Rattle.cil_tree.specs.Typing.{Scope, scope_of, is_type, is_void, is_scalar, is_enum, member_of, type_of, place_type}
use Rattle.cil_tree.specs.Lines.{Token}
use Rattle.cil_tree.specs.Declarators.{keyword_of, tag_text, tagged, aggregate_words}
use Rattle.cil_tree.specs.Text.{member_name, name_in, global_name, local_name}
use Rattle.cil_tree.specs.Names.{begins_word, goes_on_word, is_identifier, is_among, keywords, other_words, is_builtin, is_name, is_plain_name, is_memset, global_is_named, member_names, members_are_named, are_different, are_apart, file_names, host_names, local_name_of, body_is_named, definition_is_named, AreNames}
use Rattle.cil_tree.specs.Bodies.{is_complete, has_type, set_fits, zero_fits, argument_is_promoted, arguments_fit, result_fits, callee_type, called_fits, call_fits, instr_fits, test_fits, switch_kind, kind_of, parts_fit, each_stmt, each_within, labels_fit, goto_fits, cases_fit, cases_are_once, breaks_fit, return_fits, returns_fit, stmts_fit, local_fits, parameters_fit, body_fits}
use Rattle.cil_tree.specs.Globals.{has_definition, internal_is_defined, object_is_complete, definition_fits, typed_fits, global_fits}
use Rattle.cil_tree.specs.Programs.{IsProgram}
use Rattle.cil_printer.specs.Plain.{is_plain, are_plain, IsPlainProgram, IsPlainAggregate, IsPlainBody, IsPlainGlobal}
use Rattle.cil_printer.specs.Typed.{are_typed, result_is_typed, callee_is_typed, instr_is_typed, value_is_typed, stmt_is_typed}
use Rattle.cil_printer.proofs.Calls.{both_left, both_right}
use Rattle.cil_printer.proofs.Found.{each_there}
use Rattle.cil_printer.proofs.PlainTokens.{low_plain, joined, plain_cons, plain_one}

-- names

word_low : (b : ℕ) → begins_word b ≡ true → nat_lt b 123 ≡ true
word_low b e = grind (arith, nat_tests)

identifier_plain : (t : Token) → is_identifier t ≡ true → is_plain t ≡ true
identifier_plain [] e = refl
identifier_plain (b ∷ bytes) e = low_plain (b ∷ bytes) (word_low b (both_left (begins_word b) (list_all goes_on_word bytes) e))

name_plain : (t : Token) → is_name t ≡ true → is_plain t ≡ true
name_plain t e = identifier_plain t (both_left (is_identifier t) (not (is_among keywords t) && not (is_among other_words t)) e)

plain_name_plain : (t : Token) → is_plain_name t ≡ true → is_plain t ≡ true
plain_name_plain t e = name_plain t (both_left (is_name t) (not (is_builtin t)) e)

all_get : {A : Type 0} (f : A → Bool) (xs : List A) (n : ℕ) (x : A) → list_all f xs ≡ true → slice_get xs n ≡ Some x → f x ≡ true
all_get f [] n x e h = absurd (cc h)
all_get f (y ∷ xs) zero x e h = let same : y ≡ x = cc in ap f (sym same) ∙ both_left (f y) (list_all f xs) e
all_get f (y ∷ xs) (suc n) x e h = all_get f xs n x (both_right (f y) (list_all f xs) e) h

at_plain : (ts : List Token) (n : ℕ) → list_all is_plain_name ts ≡ true → is_plain (slice_index_or ts n []) ≡ true
at_plain [] n e = refl
at_plain (t ∷ ts) zero e = plain_name_plain t (both_left (is_plain_name t) (list_all is_plain_name ts) e)
at_plain (t ∷ ts) (suc n) e = at_plain ts n (both_right (is_plain_name t) (list_all is_plain_name ts) e)

-- aggregates

keyword_plain : (k : AggKind) → is_plain (keyword_of k) ≡ true
keyword_plain k = elim k as (λ v. is_plain (keyword_of v) ≡ true) [ Struct ↦ refl | Union ↦ refl | Enum ↦ refl ]

members_named : (p : Program) (x : Aggregate) → members_are_named p x ≡ true → (ms : List Member) → x.members ≡ Some ms → list_all is_plain_name (map (member_name p) ms) ≡ true
members_named p x e ms f =
    subst (λ (o : Option (List Member)). list_all is_plain_name (elim o as (λ _. List Token) [ None ↦ [] | Some ys ↦ map (member_name p) ys ]) ≡ true) f
    (both_left (list_all is_plain_name (member_names p x)) (are_different (member_names p x)) (both_right (is_plain_name (tag_text p x)) (list_all is_plain_name (member_names p x) && are_different (member_names p x)) e))

tagged_plain : (p : Program) (x : Aggregate) → members_are_named p x ≡ true → are_plain (tagged p x) ≡ true
tagged_plain p x e =
    plain_cons (keyword_of x.kind) (tag_text p x ∷ []) (keyword_plain x.kind)
    (plain_one (tag_text p x) (plain_name_plain (tag_text p x) (both_left (is_plain_name (tag_text p x)) (list_all is_plain_name (member_names p x) && are_different (member_names p x)) e)))

member_plain : (p : Program) (ms : List Member) (n : ℕ) (m : Member) → list_all is_plain_name (map (member_name p) ms) ≡ true → slice_get ms n ≡ Some m → is_plain (member_name p m) ≡ true
member_plain p [] n m e h = absurd (cc h)
member_plain p (y ∷ ms) zero m e h = let same : y ≡ m = cc in ap (λ z. is_plain (member_name p z)) (sym same) ∙ plain_name_plain (member_name p y) (both_left (is_plain_name (member_name p y)) (list_all is_plain_name (map (member_name p) ms)) e)
member_plain p (y ∷ ms) (suc n) m e h = member_plain p ms n m (both_right (is_plain_name (member_name p y)) (list_all is_plain_name (map (member_name p) ms)) e) h

pub plain_aggregate : (p : Program) (a : ℕ) (x : Aggregate) → IsProgram p → slice_get p.graph.aggs a ≡ Some x → IsPlainAggregate p x
plain_aggregate p a x is e =
    let named : members_are_named p x ≡ true = all_get (members_are_named p) p.graph.aggs a x is.names.members e in
    record {
      tag = tagged_plain p x named;
      named = λ ms f n m h. member_plain p ms n m (members_named p x named ms f) h;
      there = λ ms f n m h. each_there p.graph.nodes p.graph.completed (rank p.graph.completed a) ms n m (is.arena.nested a ms (ap (option_and_then (λ (y : Aggregate). y.members)) e ∙ f)).1 h;
    }

-- the program

global_name_plain : (p : Program) → AreNames p → (n : ℕ) → is_plain (global_name p n) ≡ true
global_name_plain p is n = by (slice_get p.globals n) refl
  where
    by : (o : Option GlobalDecl) → slice_get p.globals n ≡ o → is_plain (elim o as (λ _. Token) [ None ↦ [] | Some x ↦ x.name ]) ≡ true
    by None e = refl
    by (Some x) e = name_plain x.name (both_left (is_name x.name) (not (is_builtin x.name) || is_memset p x) (all_get (global_is_named p) p.globals n x is.globals e))

words_plain : (p : Program) → AreNames p → (a : ℕ) → are_plain (aggregate_words p a) ≡ true
words_plain p is a = by (slice_get p.graph.aggs a) refl
  where
    by : (o : Option Aggregate) → slice_get p.graph.aggs a ≡ o → are_plain (elim o as (λ _. List Token) [ None ↦ [] | Some x ↦ tagged p x ]) ≡ true
    by None e = refl
    by (Some x) e = tagged_plain p x (all_get (members_are_named p) p.graph.aggs a x is.members e)

member_name_plain : (p : Program) → AreNames p → (s : Shape) (n : ℕ) → is_plain (name_in p s n) ≡ true
member_name_plain p is VoidType n = refl
member_name_plain p is (IntType kind) n = refl
member_name_plain p is (PtrType q s) n = refl
member_name_plain p is (ArrayType q s bound) n = refl
member_name_plain p is (FuncType ret params proto variadic) n = refl
member_name_plain p is (AggType a) n = by (slice_get p.graph.aggs a) refl
  where
    found : (ms : List Member) → list_all is_plain_name (map (member_name p) ms) ≡ true → (o : Option Member) → slice_get ms n ≡ o → is_plain (elim o as (λ _. Token) [ None ↦ [] | Some m ↦ member_name p m ]) ≡ true
    found ms e None h = refl
    found ms e (Some m) h = member_plain p ms n m e h

    listed : (x : Aggregate) → members_are_named p x ≡ true → (o : Option (List Member)) → x.members ≡ o → is_plain (elim (option_and_then (λ (ms : List Member). slice_get ms n) o) as (λ _. Token) [ None ↦ [] | Some m ↦ member_name p m ]) ≡ true
    listed x e None f = refl
    listed x e (Some ms) f = found ms (members_named p x e ms f) (slice_get ms n) refl

    of_kind : (x : Aggregate) → members_are_named p x ≡ true → (b : Bool) → is_plain (elim (cond b None (option_and_then (λ (ms : List Member). slice_get ms n) x.members)) as (λ _. Token) [ None ↦ [] | Some m ↦ member_name p m ]) ≡ true
    of_kind x e true = refl
    of_kind x e false = listed x e x.members refl

    by : (o : Option Aggregate) → slice_get p.graph.aggs a ≡ o → is_plain (elim (option_and_then (λ (x : Aggregate). member_of p.graph x n) o) as (λ _. Token) [ None ↦ [] | Some m ↦ member_name p m ]) ≡ true
    by None e = refl
    by (Some x) e = of_kind x (all_get (members_are_named p) p.graph.aggs a x is.members e) (is_enum x.kind)

pub plain_program : (p : Program) → IsProgram p → IsPlainProgram p
plain_program p is = record { globals = global_name_plain p is.names; members = member_name_plain p is.names; tags = words_plain p is.names }

-- statements

typed_some : (o : Option Shape) (s : Shape) → is_type o s ≡ true → is_some o ≡ true
typed_some None s e = cc
typed_some (Some t) s e = refl

there_some : (o : Option Shape) (of : Shape → Bool) → elim o as (λ _. Bool) [ None ↦ false | Some s ↦ of s ] ≡ true → (is_some o ≡ true) × ((s : Shape) × (o ≡ Some s) × (of s ≡ true))
there_some None of e = absurd (cc e)
there_some (Some s) of e = (refl, (s, refl, e))

set_typed : (c : Scope) (place : Lval) (value : Exp) → set_fits c place value ≡ true → is_some (place_type c place) && is_some (type_of c value) ≡ true
set_typed c place value e =
    let h = there_some (place_type c place) (λ s. is_complete c s && has_type c value s) e in
    joined (is_some (place_type c place)) (is_some (type_of c value)) h.0 (typed_some (type_of c value) h.1.0 (both_right (is_complete c h.1.0) (has_type c value h.1.0) h.1.2))

arguments_typed : (c : Scope) (ss : Shapes) (more : Bool) (es : List Exp) → arguments_fit c ss more es ≡ true → are_typed c es ≡ true
arguments_typed c NoTypes more [] e = refl
arguments_typed c NoTypes more (x ∷ es) e =
    let rest = both_right more (argument_is_promoted c x && arguments_fit c NoTypes more es) e in
    joined (is_some (type_of c x)) (are_typed c es) (there_some (type_of c x) (λ s. Rattle.cil_tree.specs.Bodies.is_promoted c.program.graph s) (both_left (argument_is_promoted c x) (arguments_fit c NoTypes more es) rest)).0
    (arguments_typed c NoTypes more es (both_right (argument_is_promoted c x) (arguments_fit c NoTypes more es) rest))
arguments_typed c (MoreTypes s ss) more [] e = refl
arguments_typed c (MoreTypes s ss) more (x ∷ es) e =
    joined (is_some (type_of c x)) (are_typed c es) (typed_some (type_of c x) s (both_left (has_type c x s) (arguments_fit c ss more es) e)) (arguments_typed c ss more es (both_right (has_type c x s) (arguments_fit c ss more es) e))

result_typed : (c : Scope) (r : Option Lval) (ret : Shape) → result_fits c r ret ≡ true → result_is_typed c r ≡ true
result_typed c None ret e = refl
result_typed c (Some place) ret e = typed_some (place_type c place) ret (both_right (is_complete c ret) (is_type (place_type c place) ret) e)

callee_typed : (c : Scope) (f : Callee) → is_some (callee_type c f) ≡ true → callee_is_typed c f ≡ true
callee_typed c (Direct number) e = refl
callee_typed c (Through pointer) e = e

called_typed : (c : Scope) (r : Option Lval) (es : List Exp) (s : Shape) → called_fits c r es s ≡ true → (result_is_typed c r ≡ true) × (are_typed c es ≡ true)
called_typed c r es VoidType e = absurd (cc e)
called_typed c r es (IntType kind) e = absurd (cc e)
called_typed c r es (PtrType q s) e = absurd (cc e)
called_typed c r es (ArrayType q s bound) e = absurd (cc e)
called_typed c r es (AggType a) e = absurd (cc e)
called_typed c r es (FuncType ret params proto variadic) e = (
  result_typed c r ret (both_left (result_fits c r ret) (arguments_fit c params (not proto || variadic) es) e),
  arguments_typed c params (not proto || variadic) es (both_right (result_fits c r ret) (arguments_fit c params (not proto || variadic) es) e),
)

instr_typed : (c : Scope) (i : Instr) → instr_fits c i ≡ true → instr_is_typed c i ≡ true
instr_typed c (Set place value) e = set_typed c place value e
instr_typed c (Zero place) e = (there_some (place_type c place) (is_complete c) e).0
instr_typed c (Call r f es) e =
    let h = there_some (callee_type c f) (called_fits c r es) e in
    let k = called_typed c r es h.1.0 h.1.2 in
    joined (result_is_typed c r) (callee_is_typed c f && are_typed c es) k.0 (joined (callee_is_typed c f) (are_typed c es) (callee_typed c f h.0) k.1)

bound_typed : {A B : Type 0} (f : A → Option B) (o : Option A) → is_some (option_and_then f o) ≡ true → is_some o ≡ true
bound_typed f None e = cc
bound_typed f (Some x) e = refl

return_typed : (c : Scope) (ret : Shape) (v : Option Exp) → return_fits c ret v ≡ true → value_is_typed c v ≡ true
return_typed c ret None e = refl
return_typed c ret (Some x) e = typed_some (type_of c x) ret (both_right (not (is_void ret)) (has_type c x ret) e)

stmt_typed : (c : Scope) (ret : Shape) (s : Stmt) → parts_fit c s ≡ true → returns_fit c ret s ≡ true → stmt_is_typed c s ≡ true
stmt_typed c ret (Do i) e f = instr_typed c i e
stmt_typed c ret (If test holds fails) e f = (there_some (type_of c test) (λ s. is_scalar c.program.graph s) e).0
stmt_typed c ret (Switch value body) e f = bound_typed kind_of (type_of c value) e
stmt_typed c ret (Return value) e f = return_typed c ret value f
stmt_typed c ret (Loop body) e f = refl
stmt_typed c ret (Block body) e f = refl
stmt_typed c ret (Label number) e f = refl
stmt_typed c ret (Case kind value) e f = refl
stmt_typed c ret Default e f = refl
stmt_typed c ret (Goto number) e f = refl
stmt_typed c ret Break e f = refl

mutual
  each_typed : (f g h : Stmt → Bool) → ((s : Stmt) → f s ≡ true → g s ≡ true → h s ≡ true) → (ss : Stmts) → each_stmt f ss ≡ true → each_stmt g ss ≡ true → each_stmt h ss ≡ true
  each_typed f g h one Done e k = refl
  each_typed f g h one (Seq s ss) e k =
      joined (h s) (each_within h s && each_stmt h ss) (one s (both_left (f s) (each_within f s && each_stmt f ss) e) (both_left (g s) (each_within g s && each_stmt g ss) k))
      (joined (each_within h s) (each_stmt h ss)
      (within_typed f g h one s (both_left (each_within f s) (each_stmt f ss) (both_right (f s) (each_within f s && each_stmt f ss) e)) (both_left (each_within g s) (each_stmt g ss) (both_right (g s) (each_within g s && each_stmt g ss) k)))
      (each_typed f g h one ss (both_right (each_within f s) (each_stmt f ss) (both_right (f s) (each_within f s && each_stmt f ss) e)) (both_right (each_within g s) (each_stmt g ss) (both_right (g s) (each_within g s && each_stmt g ss) k))))

  within_typed : (f g h : Stmt → Bool) → ((s : Stmt) → f s ≡ true → g s ≡ true → h s ≡ true) → (s : Stmt) → each_within f s ≡ true → each_within g s ≡ true → each_within h s ≡ true
  within_typed f g h one (If test holds fails) e k =
      joined (each_stmt h holds) (each_stmt h fails) (each_typed f g h one holds (both_left (each_stmt f holds) (each_stmt f fails) e) (both_left (each_stmt g holds) (each_stmt g fails) k)) (each_typed f g h one fails (both_right (each_stmt f holds) (each_stmt f fails) e) (both_right (each_stmt g holds) (each_stmt g fails) k))
  within_typed f g h one (Switch value body) e k = each_typed f g h one body e k
  within_typed f g h one (Loop body) e k = each_typed f g h one body e k
  within_typed f g h one (Block body) e k = each_typed f g h one body e k
  within_typed f g h one (Do i) e k = refl
  within_typed f g h one (Label number) e k = refl
  within_typed f g h one (Case kind value) e k = refl
  within_typed f g h one Default e k = refl
  within_typed f g h one (Goto number) e k = refl
  within_typed f g h one Break e k = refl
  within_typed f g h one (Return value) e k = refl

stmts_typed : (c : Scope) (ret : Shape) (ss : Stmts) → stmts_fit c ret ss ≡ true → each_stmt (stmt_is_typed c) ss ≡ true
stmts_typed c ret ss e =
    let parts = both_left (each_stmt (parts_fit c) ss) (labels_fit c ss && (each_stmt (goto_fits c) ss && (cases_fit c None ss && (each_stmt cases_are_once ss && (breaks_fit false ss && each_stmt (returns_fit c ret) ss))))) e in
    let e1 = both_right (each_stmt (parts_fit c) ss) (labels_fit c ss && (each_stmt (goto_fits c) ss && (cases_fit c None ss && (each_stmt cases_are_once ss && (breaks_fit false ss && each_stmt (returns_fit c ret) ss))))) e in
    let e2 = both_right (labels_fit c ss) (each_stmt (goto_fits c) ss && (cases_fit c None ss && (each_stmt cases_are_once ss && (breaks_fit false ss && each_stmt (returns_fit c ret) ss)))) e1 in
    let e3 = both_right (each_stmt (goto_fits c) ss) (cases_fit c None ss && (each_stmt cases_are_once ss && (breaks_fit false ss && each_stmt (returns_fit c ret) ss))) e2 in
    let e4 = both_right (cases_fit c None ss) (each_stmt cases_are_once ss && (breaks_fit false ss && each_stmt (returns_fit c ret) ss)) e3 in
    let e5 = both_right (each_stmt cases_are_once ss) (breaks_fit false ss && each_stmt (returns_fit c ret) ss) e4 in
    let returns = both_right (breaks_fit false ss) (each_stmt (returns_fit c ret) ss) e5 in
    each_typed (parts_fit c) (returns_fit c ret) (stmt_is_typed c) (stmt_typed c ret) ss parts returns

-- bodies

params_plain : (ss : Shapes) (names : List Token) (xs : List Local) → list_all is_plain_name (map local_name_of xs) ≡ true → parameters_fit ss names xs ≡ true → are_plain names ≡ true
params_plain NoTypes [] xs named e = refl
params_plain NoTypes (n ∷ names) xs named e = absurd (cc e)
params_plain (MoreTypes s ss) [] xs named e = refl
params_plain (MoreTypes s ss) (n ∷ names) [] named e = absurd (cc e)
params_plain (MoreTypes s ss) (n ∷ names) (x ∷ xs) named e =
    let same : x.name ≡ n = (bytes_eq-Decides x.name n).0 (both_left (bytes_eq x.name n) (is_type x.type s && parameters_fit ss names xs) e) in
    plain_cons n names (ap is_plain (sym same) ∙ plain_name_plain x.name (both_left (is_plain_name x.name) (list_all is_plain_name (map local_name_of xs)) named))
    (params_plain ss names xs (both_right (is_plain_name x.name) (list_all is_plain_name (map local_name_of xs)) named) (both_right (is_type x.type s) (parameters_fit ss names xs) (both_right (bytes_eq x.name n) (is_type x.type s && parameters_fit ss names xs) e)))

local_plain : (xs : List Local) (n : ℕ) → list_all is_plain_name (map local_name_of xs) ≡ true → is_plain (local_name xs n) ≡ true
local_plain [] zero e = refl
local_plain [] (suc n) e = refl
local_plain (x ∷ xs) zero e = plain_name_plain x.name (both_left (is_plain_name x.name) (list_all is_plain_name (map local_name_of xs)) e)
local_plain (x ∷ xs) (suc n) e = local_plain xs n (both_right (is_plain_name x.name) (list_all is_plain_name (map local_name_of xs)) e)

body_names : (p : Program) (b : Body) → body_is_named p b ≡ true → (list_all is_plain_name (map local_name_of b.locals) ≡ true) × (list_all is_plain_name b.labels ≡ true)
body_names p b e =
    let ns = map local_name_of b.locals in
    let e1 = both_right (list_all is_plain_name ns) (are_different ns && (are_apart ns (file_names p) && (are_apart ns host_names && (list_all is_plain_name b.labels && are_different b.labels)))) e in
    let e2 = both_right (are_different ns) (are_apart ns (file_names p) && (are_apart ns host_names && (list_all is_plain_name b.labels && are_different b.labels))) e1 in
    let e3 = both_right (are_apart ns (file_names p)) (are_apart ns host_names && (list_all is_plain_name b.labels && are_different b.labels)) e2 in
    let e4 = both_right (are_apart ns host_names) (list_all is_plain_name b.labels && are_different b.labels) e3 in
    (both_left (list_all is_plain_name ns) (are_different ns && (are_apart ns (file_names p) && (are_apart ns host_names && (list_all is_plain_name b.labels && are_different b.labels)))) e, both_left (list_all is_plain_name b.labels) (are_different b.labels) e4)

abbrev IsBodyTold : Program → Body → Type 0
IsBodyTold p b = (are_plain b.params ≡ true) × (each_stmt (stmt_is_typed (scope_of p b)) b.stmts ≡ true)

body_told : (p : Program) (b : Body) (s : Shape) → list_all is_plain_name (map local_name_of b.locals) ≡ true → body_fits p b s ≡ true → IsBodyTold p b
body_told p b VoidType named e = absurd (cc e)
body_told p b (IntType kind) named e = absurd (cc e)
body_told p b (PtrType q s) named e = absurd (cc e)
body_told p b (ArrayType q s bound) named e = absurd (cc e)
body_told p b (AggType a) named e = absurd (cc e)
body_told p b (FuncType ret params proto variadic) named e =
    let whole : Bool = list_all (local_fits p.graph) b.locals && (parameters_fit params b.params b.locals && stmts_fit (scope_of p b) ret b.stmts) in
    let e1 = both_right (not variadic) ((is_void ret || Rattle.type_graph.specs.Arena.complete_shape p.graph.aggs ret) && whole) e in
    let e2 = both_right (is_void ret || Rattle.type_graph.specs.Arena.complete_shape p.graph.aggs ret) whole e1 in
    let e3 = both_right (list_all (local_fits p.graph) b.locals) (parameters_fit params b.params b.locals && stmts_fit (scope_of p b) ret b.stmts) e2 in
    (params_plain params b.params b.locals named (both_left (parameters_fit params b.params b.locals) (stmts_fit (scope_of p b) ret b.stmts) e3), stmts_typed (scope_of p b) ret b.stmts (both_right (parameters_fit params b.params b.locals) (stmts_fit (scope_of p b) ret b.stmts) e3))

-- a global

definition_typed : (p : Program) (x : GlobalDecl) → global_fits p x ≡ true → (s : Shape) × (definition_fits p s x.definition ≡ true)
definition_typed p x e =
    let h = there_some x.type (λ s. typed_fits p s x) e in
    let s = h.1.0 in
    let e1 = both_right (has_definition s x.definition) (internal_is_defined x && (object_is_complete p.graph s x.definition && definition_fits p s x.definition)) h.1.2 in
    let e2 = both_right (internal_is_defined x) (object_is_complete p.graph s x.definition && definition_fits p s x.definition) e1 in
    (s, both_right (object_is_complete p.graph s x.definition) (definition_fits p s x.definition) e2)

pub plain_global : (p : Program) (n : ℕ) (x : GlobalDecl) → IsProgram p → slice_get p.globals n ≡ Some x → IsPlainGlobal p x
plain_global p n x is e = record {
  named = ap (λ (o : Option GlobalDecl). is_plain (elim o as (λ _. Token) [ None ↦ [] | Some y ↦ y.name ])) (sym e) ∙ global_name_plain p is.names n;
  body = told;
}
  where
    told : (b : Body) → x.definition ≡ Function b → IsPlainBody p b
    told b f =
        let named = body_names p b (ap (definition_is_named p) (sym f) ∙ all_get (λ (y : GlobalDecl). definition_is_named p y.definition) p.globals n x is.names.bodies e) in
        let fit = definition_typed p x (all_get (global_fits p) p.globals n x is.globals e) in
        let both = body_told p b fit.0 named.0 (ap (definition_fits p fit.0) (sym f) ∙ fit.1) in
        record {
          names = record { program = plain_program p is; locals = λ i. local_plain b.locals i named.0; labels = λ i. at_plain b.labels i named.1 };
          params = both.0;
          typed = both.1;
        }
