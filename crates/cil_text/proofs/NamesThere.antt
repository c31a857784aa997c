-- Device: the names of a well-formed program are found where they stand.
use Rattle.std.proofs.Common.{◌≡◌, ℕ, suc, zero, ◌&&◌, ◌||◌, not, Bool, true, false, cond, List, [], ◌∷◌, ◌++◌, map, Option, Some, None, slice_get, refl, sym, ap, ◌∙◌, subst}
use Rattle.std.specs.List.{list_all, list_any}
use Rattle.std.specs.Option.{option_map, option_and_then}
use Rattle.std.specs.Str.{bytes_eq}
use Rattle.std.proofs.lemmas.Slice.Eq.{bytes_eq-Decides}
use Rattle.std.proofs.lemmas.Option.{slice_get-map}
use Rattle.type_graph.specs.declared.aggregates.Aggregate.{Aggregate}
use Rattle.type_graph.specs.declared.aggregates.Member.{Member}
use Rattle.type_graph.specs.Shapes.{Shape, VoidType, IntType, PtrType, ArrayType, FuncType, AggType, shape}
use Rattle.cil_tree.specs.Tree.{Global, Local, Body, Function, GlobalDecl, Program}
use Rattle.cil_tree.specs.Typing.{Scope, is_enum, global_type, local_type, member_of, member_type}
use Rattle.cil_tree.specs.Text.{member_name, name_in, global_name, local_name}
use Rattle.cil_tree.specs.Names.{is_among, are_different, are_apart, is_name, is_plain_name, is_builtin, global_is_named, is_memset, enumerators, global_name_of, file_names, tags, members_are_named, member_names, local_name_of, body_is_named, host_names, AreNames}
use Rattle.cil_tree.specs.Declarators.{tag_text}
use Rattle.cil_text.specs.ReadTypes.{find}
use Rattle.cil_text.specs.ReadExps.{find_named, name_at, fields, members_at, host_or_global, host_named}
use Rattle.cil_text.specs.Known.{known_member, known_members, known_global, known_of, env_of}
use Rattle.cil_text.proofs.WordsBack.{both, denied}
use Rattle.cil_text.proofs.Typed.{bound_some, global_name_known, field_name_known}
use Rattle.cil_text.proofs.Told.{IsScope}
use Rattle.cil_text.proofs.AggregatesBack.{neither, last_different}
use Rattle.cil_text.proofs.ImagesBack.{file_scope}

-- lists

pub all_get : {A : Type 0} (f : A → Bool) (xs : List A) (n : ℕ) (x : A) → list_all f xs ≡ true → slice_get xs n ≡ Some x → f x ≡ true
all_get f [] n x all e = absurd (cc e)
all_get f (y ∷ ys) zero x all e = let same : y ≡ x = cc in ap f (sym same) ∙ (both (f y) (list_all f ys) all).0
all_get f (y ∷ ys) (suc n) x all e = all_get f ys n x (both (f y) (list_all f ys) all).1 e

pub among_get : (texts : List (List ℕ)) (n : ℕ) (text : List ℕ) → slice_get texts n ≡ Some text → is_among texts text ≡ true
among_get [] n text e = absurd (cc e)
among_get (t ∷ ts) zero text e = let same : t ≡ text = cc in ap (λ b. b || is_among ts text) ((bytes_eq-Decides text t).1 (sym same))
among_get (t ∷ ts) (suc n) text e = by (bytes_eq text t) (among_get ts n text e)
  where
    by : (b : Bool) → is_among ts text ≡ true → b || is_among ts text ≡ true
    by true h = refl
    by false h = h

pub found : (texts : List (List ℕ)) (n : ℕ) (text : List ℕ) → are_different texts ≡ true → slice_get texts n ≡ Some text → find text texts ≡ Some n
found [] n text apart e = absurd (cc e)
found (t ∷ ts) zero text apart e = let same : t ≡ text = cc in ap (λ b. cond b (Some 0) (option_map suc (find text ts))) ((bytes_eq-Decides text t).1 (sym same))
found (t ∷ ts) (suc n) text apart e =
    let h = both (not (is_among ts t)) (are_different ts) apart in
    ap (λ b. cond b (Some 0) (option_map suc (find text ts))) (by (bytes_eq text t) refl (denied (is_among ts t) h.0) (among_get ts n text e))
    ∙ ap (option_map suc) (found ts n text h.1 e)
  where
    by : (b : Bool) → bytes_eq text t ≡ b → is_among ts t ≡ false → is_among ts text ≡ true → bytes_eq text t ≡ false
    by false q f g = q
    by true q f g = let same : text ≡ t = (bytes_eq-Decides text t).0 q in absurd (let r : is_among ts t ≡ true = ap (is_among ts) (sym same) ∙ g in cc)

pub absent : (texts : List (List ℕ)) (text : List ℕ) → is_among texts text ≡ false → find text texts ≡ None
absent [] text e = refl
absent (t ∷ ts) text e =
    let h = neither (bytes_eq text t) (is_among ts text) e in
    ap (λ b. cond b (Some 0) (option_map suc (find text ts))) h.0 ∙ ap (option_map suc) (absent ts text h.1)

-- a text of the one list is not in the other
pub apart_get : (texts others : List (List ℕ)) (text : List ℕ) → are_apart texts others ≡ true → is_among others text ≡ true → is_among texts text ≡ false
apart_get [] others text apart e = refl
apart_get (t ∷ ts) others text apart e =
    let h = neither (is_among others t) (list_any (is_among others) ts) (denied (list_any (is_among others) (t ∷ ts)) apart) in
    by (bytes_eq text t) refl h.0 (apart_get ts others text (ap not h.1) e)
  where
    by : (b : Bool) → bytes_eq text t ≡ b → is_among others t ≡ false → is_among ts text ≡ false → b || is_among ts text ≡ false
    by false q f g = g
    by true q f g = let same : text ≡ t = (bytes_eq-Decides text t).0 q in absurd (let r : is_among others t ≡ true = ap (is_among others) (sym same) ∙ e in cc)

pub among_last : (xs ys : List (List ℕ)) (text : List ℕ) → is_among ys text ≡ true → is_among (xs ++ ys) text ≡ true
among_last [] ys text e = e
among_last (x ∷ xs) ys text e = by (bytes_eq text x) (among_last xs ys text e)
  where
    by : (b : Bool) → is_among (xs ++ ys) text ≡ true → b || is_among (xs ++ ys) text ≡ true
    by true h = refl
    by false h = h

map_twice : {A B C : Type 0} (f : B → C) (g : A → B) (h : A → C) → ((x : A) → f (g x) ≡ h x) → (xs : List A) → map f (map g xs) ≡ map h xs
map_twice f g h same [] = refl
map_twice f g h same (x ∷ xs) = ap (λ y. y ∷ map f (map g xs)) (same x) ∙ ap (λ ys. h x ∷ ys) (map_twice f g h same xs)

there : {A B : Type 0} (f : A → Option B) (xs : List A) (n : ℕ) (y : B) → option_and_then f (slice_get xs n) ≡ Some y → (x : A) × (slice_get xs n ≡ Some x) × (f x ≡ Some y)
there f xs n y e = bound_some f (slice_get xs n) y e

pub plain_is_name : (text : List ℕ) → is_plain_name text ≡ true → is_name text ≡ true
plain_is_name text e = (both (is_name text) (not (is_builtin text)) e).0

-- globals

pub global_there : (p : Program) (n : ℕ) (s : Shape) → global_type p n ≡ Some s → (x : GlobalDecl) × (slice_get p.globals n ≡ Some x) × (x.type ≡ Some s)
global_there p n s e = there (λ (x : GlobalDecl). x.type) p.globals n s e

pub global_is : (p : Program) (n : ℕ) (x : GlobalDecl) → slice_get p.globals n ≡ Some x → global_name p n ≡ x.name
global_is p n x e = ap (λ (o : Option GlobalDecl). elim o as (λ _. List ℕ) [ None ↦ [] | Some y ↦ y.name ]) e

pub named_global : (p : Program) → AreNames p → (n : ℕ) (x : GlobalDecl) → slice_get p.globals n ≡ Some x → is_name x.name ≡ true
named_global p names n x e = (both (is_name x.name) (not (is_builtin x.name) || is_memset p x) (all_get (global_is_named p) p.globals n x names.globals e)).0

global_names : (p : Program) → map local_name_of (map known_global p.globals) ≡ map global_name_of p.globals
global_names p = map_twice local_name_of known_global global_name_of (λ x. refl) p.globals

found_global : (p : Program) → AreNames p → (n : ℕ) (x : GlobalDecl) → slice_get p.globals n ≡ Some x → find_named x.name (map known_global p.globals) ≡ Some n
found_global p names n x e =
    ap (find x.name) (global_names p)
    ∙ found (map global_name_of p.globals) n x.name (last_different (enumerators p) (map global_name_of p.globals) names.file) (slice_get-map global_name_of p.globals n ∙ ap (option_map global_name_of) e)

-- a scope whose locals are named, differ, and are apart from the file's names
pub record AreLocals (p : Program) (locals : List Local) : Type 0 where
  pub named : list_all is_plain_name (map local_name_of locals) ≡ true
  pub differ : are_different (map local_name_of locals) ≡ true
  pub apart : are_apart (map local_name_of locals) (file_names p) ≡ true

host_global : (p : Program) → AreNames p → (locals : List Local) → AreLocals p locals → (n : ℕ) (x : GlobalDecl) → slice_get p.globals n ≡ Some x → host_named (known_of p locals) x.name ≡ Some (Global n)
host_global p names locals are n x e =
    let listed = among_last (enumerators p) (map global_name_of p.globals) x.name (among_get (map global_name_of p.globals) n x.name (slice_get-map global_name_of p.globals n ∙ ap (option_map global_name_of) e)) in
    ap (λ o. host_or_global o (find_named x.name (map known_global p.globals))) (absent (map local_name_of locals) x.name (apart_get (map local_name_of locals) (file_names p) x.name are.apart listed))
    ∙ ap (option_map Global) (found_global p names n x e)

local_there : (locals : List Local) (n : ℕ) (s : Shape) → local_type locals n ≡ Some s → (x : Local) × (slice_get locals n ≡ Some x)
local_there locals n s e = let h = there (λ (x : Local). x.type) locals n s e in (h.0, h.1)

local_is : (locals : List Local) (n : ℕ) (x : Local) → slice_get locals n ≡ Some x → local_name locals n ≡ x.name
local_is locals n x e = ap (λ (o : Option Local). elim o as (λ _. List ℕ) [ None ↦ [] | Some y ↦ y.name ]) e

-- members

members_there : (p : Program) (a n : ℕ) (t : Shape) → member_type p.graph (AggType a) n ≡ Some t → (x : Aggregate) × (ms : List Member) × (m : Member) × (slice_get p.graph.aggs a ≡ Some x) × (is_enum x.kind ≡ false) × (x.members ≡ Some ms) × (slice_get ms n ≡ Some m)
members_there p a n t e = by (slice_get p.graph.aggs a) refl e
  where
    inner : (x : Aggregate) → slice_get p.graph.aggs a ≡ Some x → (b : Bool) → is_enum x.kind ≡ b → (o : Option (List Member)) → x.members ≡ o →
        option_map (λ (m : Member). shape p.graph.nodes m.ty.of.0) (cond b None (option_and_then (λ (ms : List Member). slice_get ms n) o)) ≡ Some t →
        (x : Aggregate) × (ms : List Member) × (m : Member) × (slice_get p.graph.aggs a ≡ Some x) × (is_enum x.kind ≡ false) × (x.members ≡ Some ms) × (slice_get ms n ≡ Some m)
    inner x f true k o h q = absurd (cc q)
    inner x f false k None h q = absurd (cc q)
    inner x f false k (Some ms) h q =
        let m = mapped (slice_get ms n) q in
        (x, ms, m.0, f, k, h, m.1)
      where
        mapped : (o : Option Member) → option_map (λ (m : Member). shape p.graph.nodes m.ty.of.0) o ≡ Some t → (m : Member) × (o ≡ Some m)
        mapped None r = absurd (cc r)
        mapped (Some m) r = (m, refl)

    by : (o : Option Aggregate) → slice_get p.graph.aggs a ≡ o → option_map (λ (m : Member). shape p.graph.nodes m.ty.of.0) (option_and_then (λ (x : Aggregate). member_of p.graph x n) o) ≡ Some t →
        (x : Aggregate) × (ms : List Member) × (m : Member) × (slice_get p.graph.aggs a ≡ Some x) × (is_enum x.kind ≡ false) × (x.members ≡ Some ms) × (slice_get ms n ≡ Some m)
    by None f q = absurd (cc q)
    by (Some x) f q = inner x f (is_enum x.kind) refl x.members refl q

abbrev MemberThere : Program → ℕ → ℕ → Type 0
MemberThere p a n = (x : Aggregate) × (ms : List Member) × (m : Member) × (slice_get p.graph.aggs a ≡ Some x) × (is_enum x.kind ≡ false) × (x.members ≡ Some ms) × (slice_get ms n ≡ Some m)

fields_are : (p : Program) (locals : List Local) (a n : ℕ) → (h : MemberThere p a n) → fields (known_of p locals) (Some (AggType a)) ≡ map (known_member p) h.1
fields_are p locals a n h =
    ap members_at (slice_get-map (known_members p) p.graph.aggs a ∙ ap (option_map (known_members p)) h.3)
    ∙ ap (λ b. cond b [] (elim h.0.members [ None ↦ [] | Some ms ↦ map (known_member p) ms ])) h.4
    ∙ ap (λ (o : Option (List Member)). elim o as (λ _. List Local) [ None ↦ [] | Some ms ↦ map (known_member p) ms ]) h.5

name_is : (p : Program) (a n : ℕ) → (h : MemberThere p a n) → name_in p (AggType a) n ≡ member_name p h.2
name_is p a n h =
    ap (λ (o : Option Aggregate). elim (option_and_then (λ (x : Aggregate). member_of p.graph x n) o) as (λ _. List ℕ) [ None ↦ [] | Some m ↦ member_name p m ]) h.3
    ∙ ap (λ b. elim (cond b None (option_and_then (λ (ms : List Member). slice_get ms n) h.0.members)) as (λ _. List ℕ) [ None ↦ [] | Some m ↦ member_name p m ]) h.4
    ∙ ap (λ (o : Option (List Member)). elim (option_and_then (λ (ms : List Member). slice_get ms n) o) as (λ _. List ℕ) [ None ↦ [] | Some m ↦ member_name p m ]) h.5
    ∙ ap (λ (o : Option Member). elim o as (λ _. List ℕ) [ None ↦ [] | Some m ↦ member_name p m ]) h.6

-- the rules of an aggregate's names
named_members : (p : Program) → AreNames p → (a : ℕ) (x : Aggregate) (ms : List Member) → slice_get p.graph.aggs a ≡ Some x → x.members ≡ Some ms →
    (is_name (tag_text p x) ≡ true) × (list_all is_plain_name (map (member_name p) ms) ≡ true) × (are_different (map (member_name p) ms) ≡ true)
named_members p names a x ms e f =
    let h = all_get (members_are_named p) p.graph.aggs a x names.members e in
    let k = both (is_plain_name (tag_text p x)) (list_all is_plain_name (member_names p x) && are_different (member_names p x)) h in
    let m = both (list_all is_plain_name (member_names p x)) (are_different (member_names p x)) k.1 in
    let same : member_names p x ≡ map (member_name p) ms = ap (λ (o : Option (List Member)). elim o as (λ _. List (List ℕ)) [ None ↦ [] | Some ys ↦ map (member_name p) ys ]) f in
    (plain_is_name (tag_text p x) k.0, subst (λ ns. list_all is_plain_name ns ≡ true) same m.0, subst (λ ns. are_different ns ≡ true) same m.1)

member_name_there : (p : Program) → AreNames p → (s t : Shape) (n : ℕ) → member_type p.graph s n ≡ Some t → is_name (name_in p s n) ≡ true
member_name_there p names (AggType a) t n e =
    let h = members_there p a n t e in
    let k = named_members p names a h.0 h.1 h.3 h.5 in
    ap is_name (name_is p a n h) ∙ plain_is_name (member_name p h.2) (all_get is_plain_name (map (member_name p) h.1) n (member_name p h.2) k.1 (slice_get-map (member_name p) h.1 n ∙ ap (option_map (member_name p)) h.6))
member_name_there p names VoidType t n e = absurd (cc e)
member_name_there p names (IntType k) t n e = absurd (cc e)
member_name_there p names (PtrType q s) t n e = absurd (cc e)
member_name_there p names (ArrayType q s bound) t n e = absurd (cc e)
member_name_there p names (FuncType r ps pr v) t n e = absurd (cc e)

member_found_there : (p : Program) (locals : List Local) → AreNames p → (s t : Shape) (n : ℕ) → member_type p.graph s n ≡ Some t → find_named (name_at (fields (known_of p locals) (Some s)) n) (fields (known_of p locals) (Some s)) ≡ Some n
member_found_there p locals names (AggType a) t n e =
    let h = members_there p a n t e in
    let k = named_members p names a h.0 h.1 h.3 h.5 in
    let env = known_of p locals in
    let at : slice_get (map (member_name p) h.1) n ≡ Some (member_name p h.2) = slice_get-map (member_name p) h.1 n ∙ ap (option_map (member_name p)) h.6 in
    ap (λ name. find_named name (fields env (Some (AggType a)))) (field_name_known (record { program = p; locals = locals; labels = [] }) (AggType a) n ∙ name_is p a n h)
    ∙ ap (λ xs. find (member_name p h.2) (map local_name_of xs)) (fields_are p locals a n h)
    ∙ ap (find (member_name p h.2)) (map_twice local_name_of (known_member p) (member_name p) (λ m. refl) h.1)
    ∙ found (map (member_name p) h.1) n (member_name p h.2) k.2 at
member_found_there p locals names VoidType t n e = absurd (cc e)
member_found_there p locals names (IntType k) t n e = absurd (cc e)
member_found_there p locals names (PtrType q s) t n e = absurd (cc e)
member_found_there p locals names (ArrayType q s bound) t n e = absurd (cc e)
member_found_there p locals names (FuncType r ps pr v) t n e = absurd (cc e)

pub scope_told : (p : Program) → AreNames p → (locals : List Local) → AreLocals p locals → (labels : List (List ℕ)) → IsScope (record { program = p; locals = locals; labels = labels })
scope_told p names locals are labels =
    let c : Scope = record { program = p; locals = locals; labels = labels } in
    record {
      global_name = λ n s e. let h = global_there p n s e in ap is_name (global_is p n h.0 h.1) ∙ named_global p names n h.0 h.1;
      global_found = λ n s e.
          let h = global_there p n s e in
          ap (host_named (env_of c)) (global_name_known c n ∙ global_is p n h.0 h.1) ∙ host_global p names locals are n h.0 h.1;
      local_name = λ n s e.
          let h = local_there locals n s e in
          ap is_name (local_is locals n h.0 h.1) ∙ plain_is_name h.0.name (all_get is_plain_name (map local_name_of locals) n h.0.name are.named (slice_get-map local_name_of locals n ∙ ap (option_map local_name_of) h.1));
      local_found = λ n s e.
          let h = local_there locals n s e in
          ap (host_named (env_of c)) (local_is locals n h.0 h.1)
          ∙ ap (λ o. host_or_global o (find_named h.0.name (env_of c).globals)) (found (map local_name_of locals) n h.0.name are.differ (slice_get-map local_name_of locals n ∙ ap (option_map local_name_of) h.1));
      member_name = λ s t n e. member_name_there p names s t n e;
      member_found = λ s t n e. member_found_there p locals names s t n e;
    }

pub body_locals : (p : Program) → AreNames p → (n : ℕ) (x : GlobalDecl) (b : Body) → slice_get p.globals n ≡ Some x → x.definition ≡ Function b → AreLocals p b.locals × (list_all is_plain_name b.labels ≡ true) × (are_different b.labels ≡ true)
body_locals p names n x b e f =
    let h = all_get (λ (y : GlobalDecl). Rattle.cil_tree.specs.Names.definition_is_named p y.definition) p.globals n x names.bodies e in
    let k : body_is_named p b ≡ true = ap (Rattle.cil_tree.specs.Names.definition_is_named p) (sym f) ∙ h in
    let ns = map local_name_of b.locals in
    let a = both (list_all is_plain_name ns) (are_different ns && (are_apart ns (file_names p) && (are_apart ns host_names && (list_all is_plain_name b.labels && are_different b.labels)))) k in
    let d = both (are_different ns) (are_apart ns (file_names p) && (are_apart ns host_names && (list_all is_plain_name b.labels && are_different b.labels))) a.1 in
    let q = both (are_apart ns (file_names p)) (are_apart ns host_names && (list_all is_plain_name b.labels && are_different b.labels)) d.1 in
    let r = both (are_apart ns host_names) (list_all is_plain_name b.labels && are_different b.labels) q.1 in
    let l = both (list_all is_plain_name b.labels) (are_different b.labels) r.1 in
    (record { named = a.0; differ = d.0; apart = q.0 }, l.0, l.1)

no_locals : (p : Program) → AreLocals p []
no_locals p = record { named = refl; differ = refl; apart = refl }

pub file_scope_told : (p : Program) → AreNames p → IsScope (file_scope p)
file_scope_told p names = scope_told p names [] (no_locals p) []
