-- Device: a well-formed program's text is read back.
use Rattle.std.proofs.Common.{◌≡◌, ℕ, suc, zero, ◌+◌, ◌≤◌, ◌&&◌, ◌||◌, not, nat_lt, Bool, true, false, cond, List, [], ◌∷◌, ◌++◌, map, length, Option, Some, None, is_some, slice_get, refl, sym, ap, ◌∙◌, subst, arith, lt-ltb}
use Rattle.std.specs.Prelude.{pos, slice_index_or}
use Rattle.std.specs.List.{list_all}
use Rattle.std.specs.Option.{option_map}
use Rattle.std.specs.Str.{bytes_eq}
use Rattle.std.proofs.lemmas.Slice.Eq.{bytes_eq-Decides}
use Rattle.std.proofs.lemmas.Bool.Decides.{Decides-int_eq}
use Rattle.cil_base.specs.declared.kinds.IntKind.TheVariants as kind
use Rattle.cil_base.specs.declared.numbers.NameId.{NameId}
use Rattle.cil_base.specs.Arithmetic.{fits}
use Rattle.type_graph.specs.declared.aggregates.AggKind.{AggKind}
use Rattle.type_graph.specs.declared.aggregates.AggKind.TheVariants.{Struct, Union, Enum}
use Rattle.type_graph.specs.declared.aggregates.Aggregate.{Aggregate}
use Rattle.type_graph.specs.declared.aggregates.Member.{Member}
use Rattle.type_graph.specs.Shapes.{Shape, Shapes, VoidType, IntType, PtrType, ArrayType, FuncType, AggType, NoTypes, MoreTypes, shape}
use Rattle.type_graph.specs.Arena.{complete_shape}
use Rattle.cil_tree.specs.Tree.{Local, Body, Definition, Declared, Zeros, Image, Function, GlobalDecl, Program}
use Rattle.cil_tree.specs.Typing.{scope_of, is_enum, is_type, is_void, same_shape, member_at}
use Rattle.cil_tree.specs.View.{text_at}
use Rattle.cil_tree.specs.WellFormedTypes.{each_member, has_tag, enum_is_complete, member_fits, members_have_kind, enums_first, has_parameter}
use Rattle.cil_tree.specs.Names.{is_name, is_plain_name, is_builtin, are_different, member_names, members_are_named, global_is_named, is_memset, is_declared, memset_type, enumerators, global_name_of, local_name_of, AreNames}
use Rattle.cil_tree.specs.Declarators.{tag_text}
use Rattle.cil_tree.specs.Text.{member_name, label_name, global_name}
use Rattle.cil_tree.specs.Text as text
use Rattle.cil_tree.specs.Bodies.{numbers_from, labels_of, labels_fit, each_stmt, parts_fit, goto_fits, cases_fit, cases_are_once, breaks_fit, returns_fit, stmts_fit, local_fits, parameters_fit, body_fits}
use Rattle.cil_tree.specs.Globals.{has_definition, internal_is_defined, object_is_complete, definition_fits, typed_fits, global_fits}
use Rattle.cil_tree.specs.Programs.{IsProgram, seen_aggregate}
use Rattle.cil_tree.proofs.ShapeEquality.{shape_told}
use Rattle.cil_text.specs.ReadStmts.{memset}
use Rattle.cil_text.specs.ReadGlobals.{param_locals, read_lines}
use Rattle.cil_text.proofs.WordsBack.{both, denied}
use Rattle.cil_text.proofs.TypesBack.{IsShape, AreShapes}
use Rattle.cil_text.proofs.DeclsBack.{size}
use Rattle.cil_text.proofs.Told.{CastFits}
use Rattle.cil_text.proofs.StmtsBack.{lines_onto, stmts_weight}
use Rattle.cil_text.proofs.ImagesBack.{IsFile, items_weight}
use Rattle.cil_text.proofs.AggregatesBack.{EachMember, IsEnumerator, IsField, EachAggregate, IsTag, IsEnum, IsStruct, fields_told, aggregates_size, last_different}
use Rattle.cil_text.proofs.ObjectsBack.{shape_of, IsDeclared, EachGlobal, globals_size, HasImage, ObjectTold, object_told}
use Rattle.cil_text.proofs.BodiesBack.{AreParams, IsLocal, EachLocal, locals_size, BodyTold, FunctionTold}
use Rattle.cil_text.proofs.TextBack.{IsTold, lines_back}
use Rattle.cil_text.proofs.NamesThere.{all_get, plain_is_name, AreLocals, scope_told, file_scope_told, body_locals, global_there, global_is, named_global}
use Rattle.cil_text.proofs.StmtsThere.{HasMemset, StmtsCast, type_is, given, label_there, stmts_there}
use Rattle.cil_text.proofs.ShapesThere.{shape_there}
use Rattle.cil_text.proofs.StandsThere.{all_true, allowed_there, filled_there}
use Rattle.cil_text.proofs.CastsThere.{LocalsCast, DefinitionCast, GlobalCast, casts_there}

-- aggregates

abbrev AggregateTold : Program → Aggregate → Type 0
AggregateTold p x = (is_enum x.kind ≡ true → IsEnum p x) × (is_enum x.kind ≡ false → IsStruct p x)

abbrev LikeAt : {A : Type 0} → (A → Type 0) → List A → Type 0
LikeAt {A} P xs = (i : ℕ) (x : A) → slice_get xs i ≡ Some x → P x

each_aggregate : (P : Aggregate → Type 0) (xs : List Aggregate) → LikeAt P xs → EachAggregate P xs
each_aggregate P [] h = tt
each_aggregate P (x ∷ xs) h = (h 0 x refl, each_aggregate P xs (λ i y e. h (suc i) y e))

enum_is : (k : AggKind) → is_enum k ≡ true → k ≡ Enum
enum_is k = elim k as (λ v. is_enum v ≡ true → v ≡ Enum) [ Struct ↦ (λ e. absurd (cc e)) | Union ↦ (λ e. absurd (cc e)) | Enum ↦ (λ e. refl) ]

tag_told : (p : Program) (o : Option NameId) → is_some o ≡ true → option_map (text_at p.names) o ≡ Some (elim o [ None ↦ [] | Some n ↦ text_at p.names n ])
tag_told p None e = absurd (cc e)
tag_told p (Some n) e = refl

enumerators_told : (p : Program) (ms : List Member) → list_all is_plain_name (map (member_name p) ms) ≡ true → list_all (member_fits p.graph true) ms ≡ true → EachMember (IsEnumerator p) ms
enumerators_told p [] named fit = tt
enumerators_told p (m ∷ ms) named fit =
    let n = both (is_plain_name (member_name p m)) (list_all is_plain_name (map (member_name p) ms)) named in
    let f = both (member_fits p.graph true m) (list_all (member_fits p.graph true) ms) fit in
    let k = both (same_shape (shape p.graph.nodes m.ty.of.0) (IntType kind.Int)) (fits kind.Int m.value) f.0 in
    ((plain_is_name (member_name p m) n.0, k.1, shape_told (shape p.graph.nodes m.ty.of.0) (IntType kind.Int) k.0), enumerators_told p ms n.1 f.1)

fields_are_told : (p : Program) → ((t : ℕ) → IsShape p (shape p.graph.nodes t)) → (ms : List Member) → list_all is_plain_name (map (member_name p) ms) ≡ true → list_all (member_fits p.graph false) ms ≡ true → EachMember (IsField p) ms
fields_are_told p good [] named fit = tt
fields_are_told p good (m ∷ ms) named fit =
    let n = both (is_plain_name (member_name p m)) (list_all is_plain_name (map (member_name p) ms)) named in
    let f = both (member_fits p.graph false m) (list_all (member_fits p.graph false) ms) fit in
    ((plain_is_name (member_name p m) n.0, good m.ty.of.0, (Decides-int_eq m.value (pos 0)).0 f.0), fields_are_told p good ms n.1 f.1)

aggregate_told : (p : Program) → IsProgram p → LikeAt (AggregateTold p) p.graph.aggs
aggregate_told p is i x e = (enum, other)
  where
    named : (is_plain_name (tag_text p x) ≡ true) × (list_all is_plain_name (member_names p x) ≡ true)
    named =
        let h = both (is_plain_name (tag_text p x)) (list_all is_plain_name (member_names p x) && are_different (member_names p x)) (all_get (members_are_named p) p.graph.aggs i x is.names.members e) in
        (h.0, (both (list_all is_plain_name (member_names p x)) (are_different (member_names p x)) h.1).0)

    tag : IsTag p x
    tag = (plain_is_name (tag_text p x) named.0, tag_told p x.tag (all_get has_tag p.graph.aggs i x is.types.tagged e))

    kinds : (b : Bool) → is_enum x.kind ≡ b → each_member (member_fits p.graph b) x ≡ true
    kinds b f = ap (λ c. each_member (member_fits p.graph c) x) (sym f) ∙ all_get (members_have_kind p.graph) p.graph.aggs i x is.types.fit.members_kind e

    members : (b : Bool) (ms : List Member) → is_enum x.kind ≡ b → x.members ≡ Some ms → (list_all is_plain_name (map (member_name p) ms) ≡ true) × (list_all (member_fits p.graph b) ms ≡ true)
    members b ms f g = (
      subst (λ (o : Option (List Member)). list_all is_plain_name (elim o as (λ _. List (List ℕ)) [ None ↦ [] | Some ys ↦ map (member_name p) ys ]) ≡ true) g named.1,
      subst (λ (o : Option (List Member)). elim o as (λ _. Bool) [ None ↦ true | Some ys ↦ list_all (member_fits p.graph b) ys ] ≡ true) g (kinds b f),
    )

    complete : is_enum x.kind ≡ true → is_some x.members ≡ true
    complete f = ap (λ b. not b || is_some x.members) (sym f) ∙ all_get enum_is_complete p.graph.aggs i x is.types.fit.enums_complete e

    some : (o : Option (List Member)) → is_some o ≡ true → (ms : List Member) × (o ≡ Some ms)
    some None h = absurd (cc h)
    some (Some ms) h = (ms, refl)

    enum : is_enum x.kind ≡ true → IsEnum p x
    enum f =
        let ms = some x.members (complete f) in
        let h = members true ms.0 f ms.1 in
        (tag, enum_is x.kind f, (ms.0, ms.1, enumerators_told p ms.0 h.0 h.1))

    fields_at : is_enum x.kind ≡ false → (o : Option (List Member)) → x.members ≡ o → fields_told p o
    fields_at f None g = tt
    fields_at f (Some ms) g = let h = members false ms f g in fields_are_told p (shape_there p is.arena is.types is.names) ms h.0 h.1

    other : is_enum x.kind ≡ false → IsStruct p x
    other f = (tag, f, fields_at f x.members refl)

abbrev Split : Program → List Aggregate → Type 0
Split p xs = (es : List Aggregate) × (ss : List Aggregate) × (xs ≡ es ++ ss) × EachAggregate (IsEnum p) es × EachAggregate (IsStruct p) ss

all_structs : (p : Program) (xs : List Aggregate) → list_all (λ (y : Aggregate). not (is_enum y.kind)) xs ≡ true → EachAggregate (AggregateTold p) xs → EachAggregate (IsStruct p) xs
all_structs p [] e told = tt
all_structs p (x ∷ xs) e told =
    let h = both (not (is_enum x.kind)) (list_all (λ (y : Aggregate). not (is_enum y.kind)) xs) e in
    (told.0.1 (denied (is_enum x.kind) h.0), all_structs p xs h.1 told.1)

split : (p : Program) (xs : List Aggregate) → enums_first xs ≡ true → EachAggregate (AggregateTold p) xs → Split p xs
split p [] e told = ([], [], refl, tt, tt)
split p (x ∷ xs) e told = by (is_enum x.kind) refl e (λ h. split p xs h told.1)
  where
    by : (b : Bool) → is_enum x.kind ≡ b → cond b (enums_first xs) (list_all (λ (y : Aggregate). not (is_enum y.kind)) xs) ≡ true → (enums_first xs ≡ true → Split p xs) → Split p (x ∷ xs)
    by true f h more = let r = more h in (x ∷ r.0, r.1, ap (λ ys. x ∷ ys) r.2, (told.0.0 f, r.3), r.4)
    by false f h more = ([], x ∷ xs, refl, tt, (told.0.1 f, all_structs p xs h told.1))

sizes_joined : (p : Program) (es ss : List Aggregate) → aggregates_size p (es ++ ss) ≡ aggregates_size p es + aggregates_size p ss
sizes_joined p [] ss = omega arith
sizes_joined p (x ∷ xs) ss = omega (arith, sizes_joined p xs ss)

-- globals

each_global : (P : GlobalDecl → Type 0) (xs : List GlobalDecl) → LikeAt P xs → EachGlobal P xs
each_global P [] h = tt
each_global P (x ∷ xs) h = (h 0 x refl, each_global P xs (λ i y e. h (suc i) y e))

each_at : (P : GlobalDecl → Type 0) (xs : List GlobalDecl) → EachGlobal P xs → LikeAt P xs
each_at P [] each i x e = absurd (cc e)
each_at P (y ∷ ys) each zero x e = let same : y ≡ x = cc in subst P same each.0
each_at P (y ∷ ys) each (suc i) x e = each_at P ys each.1 i x e

pub record GlobalRules (p : Program) (x : GlobalDecl) : Type 0 where
  pub named : is_name x.name ≡ true
  pub cast : GlobalCast p x
  pub fit : global_fits p x ≡ true
  pub body : (b : Body) → x.definition ≡ Function b → AreLocals p b.locals × (list_all is_plain_name b.labels ≡ true) × (are_different b.labels ≡ true)

pub rules_there : (p : Program) → IsProgram p → EachGlobal (GlobalRules p) p.globals
rules_there p is = each_global (GlobalRules p) p.globals (λ i x e. record {
  named = named_global p is.names i x e;
  cast = each_at (GlobalCast p) p.globals (casts_there p is) i x e;
  fit = all_get (global_fits p) p.globals i x is.globals e;
  body = λ b f. body_locals p is.names i x b e f;
})

abbrev pub definition_weight : Program → Shape → Definition → ℕ
definition_weight p s (Image items) = items_weight p s items
definition_weight p s (Function b) = 1 + locals_size b.locals + stmts_weight b.stmts
definition_weight p s Declared = 0
definition_weight p s Zeros = 0

abbrev pub globals_weight : Program → List GlobalDecl → ℕ
globals_weight p [] = 0
globals_weight p (x ∷ xs) = 2 + size (shape_of x.type) + definition_weight p (shape_of x.type) x.definition + globals_weight p xs

-- what a global's rules say of its type
pub typed_there : (p : Program) (x : GlobalDecl) → GlobalRules p x → (x.type ≡ Some (shape_of x.type)) × (typed_fits p (shape_of x.type) x ≡ true)
typed_there p x rules =
    let h = given x.type (λ s. typed_fits p s x) rules.fit in
    let same : shape_of x.type ≡ h.0 = ap shape_of h.1 in
    (h.1 ∙ ap Some (sym same), subst (λ (s : Shape). typed_fits p s x ≡ true) (sym same) h.2)

pub declared_there : (p : Program) (x : GlobalDecl) → GlobalRules p x → IsDeclared p x
declared_there p x rules =
    let t = typed_there p x rules in
    (rules.named, t.0, subst (CastFits p) t.0 rules.cast.0)

image_there : (p : Program) (n : ℕ) (s : Shape) (d : Definition) → definition_fits p s d ≡ true → definition_weight p s d ≤ n → HasImage p n s d
image_there p n s (Image items) e low = (e, low)
image_there p n s Declared e low = tt
image_there p n s Zeros e low = tt
image_there p n s (Function b) e low = tt

object_there : (p : Program) → IsFile p → (n : ℕ) (x : GlobalDecl) → 2 + size (shape_of x.type) + definition_weight p (shape_of x.type) x.definition ≤ n → GlobalRules p x → ObjectTold p n x
object_there p file n x low rules =
    let s = shape_of x.type in
    let t = (typed_there p x rules).1 in
    let a = both (has_definition s x.definition) (internal_is_defined x && (object_is_complete p.graph s x.definition && definition_fits p s x.definition)) t in
    let b = both (internal_is_defined x) (object_is_complete p.graph s x.definition && definition_fits p s x.definition) a.1 in
    let d = both (object_is_complete p.graph s x.definition) (definition_fits p s x.definition) b.1 in
    object_told p file n x (omega arith) (declared_there p x rules) x.definition refl a.0 b.0 (image_there p n s x.definition d.1 (omega arith))

-- bodies

locals_there : (p : Program) (xs : List Local) → list_all is_plain_name (map local_name_of xs) ≡ true → list_all (local_fits p.graph) xs ≡ true → LocalsCast p xs → EachLocal (IsLocal p) xs
locals_there p [] named fit cast = tt
locals_there p (x ∷ xs) named fit cast =
    let n = both (is_plain_name x.name) (list_all is_plain_name (map local_name_of xs)) named in
    let f = both (local_fits p.graph x) (list_all (local_fits p.graph) xs) fit in
    let t = given x.type (λ s. complete_shape p.graph.aggs s) f.0 in
    let type : x.type ≡ Some (shape_of x.type) = t.1 ∙ ap Some (sym (ap shape_of t.1)) in
    ((plain_is_name x.name n.0, type, subst (CastFits p) type cast.0), locals_there p xs n.1 f.1 cast.1)

behind_each : (P : Local → Type 0) (names : List (List ℕ)) (xs : List Local) → EachLocal P xs → EachLocal P (text.behind names xs)
behind_each P [] xs each = each
behind_each P (name ∷ names) [] each = tt
behind_each P (name ∷ names) (x ∷ xs) each = behind_each P names xs each.1

behind_size : (names : List (List ℕ)) (xs : List Local) → locals_size (text.behind names xs) ≤ locals_size xs
behind_size [] xs = omega arith
behind_size (name ∷ names) [] = omega arith
behind_size (name ∷ names) (x ∷ xs) = omega (arith, behind_size names xs)

params_there : (p : Program) (params : Shapes) (names : List (List ℕ)) (xs : List Local) → AreShapes p params → EachLocal (IsLocal p) xs → parameters_fit params names xs ≡ true →
    AreParams p params names × (param_locals params names ++ text.behind names xs ≡ xs)
params_there p NoTypes [] xs are each e = (tt, refl)
params_there p NoTypes (name ∷ names) xs are each e = absurd (cc e)
params_there p (MoreTypes s params) [] xs are each e = absurd (cc e)
params_there p (MoreTypes s params) (name ∷ names) [] are each e = absurd (cc e)
params_there p (MoreTypes s params) (name ∷ names) (x ∷ xs) are each e =
    let h = both (bytes_eq x.name name) (is_type x.type s && parameters_fit params names xs) e in
    let k = both (is_type x.type s) (parameters_fit params names xs) h.1 in
    let same : x.name ≡ name = (bytes_eq-Decides x.name name).0 h.0 in
    let type : x.type ≡ Some s = type_is x.type s k.0 in
    let more = params_there p params names xs are.1 each.1 k.1 in (
      (are.0, subst (λ (n : List ℕ). is_name n ≡ true) same each.0.0, more.0),
      ap (λ (n : List ℕ). record { name = n; type = Some s } ∷ (param_locals params names ++ text.behind names xs)) (sym same)
          ∙ ap (λ (o : Option Shape). record x { type = o } ∷ (param_locals params names ++ text.behind names xs)) (sym type)
          ∙ ap (λ ys. x ∷ ys) more.1,
    )

-- labels by number are the labels

index_behind : (front : List (List ℕ)) (x : List ℕ) (xs : List (List ℕ)) → slice_index_or (front ++ x ∷ xs) (length front) [] ≡ x
index_behind [] x xs = refl
index_behind (y ∷ front) x xs = index_behind front x xs

length_pushed : (front : List (List ℕ)) (x : List ℕ) → length (front ++ x ∷ []) ≡ suc (length front)
length_pushed [] x = refl
length_pushed (y ∷ front) x = ap suc (length_pushed front x)

pushed_joined : (front : List (List ℕ)) (x : List ℕ) (xs : List (List ℕ)) → (front ++ x ∷ []) ++ xs ≡ front ++ x ∷ xs
pushed_joined [] x xs = refl
pushed_joined (y ∷ front) x xs = ap (λ zs. y ∷ zs) (pushed_joined front x xs)

labels_named : (front xs : List (List ℕ)) → map (λ n. slice_index_or (front ++ xs) n []) (numbers_from (length front) xs) ≡ xs
labels_named front [] = refl
labels_named front (x ∷ xs) =
    ap (λ y. y ∷ map (λ n. slice_index_or (front ++ x ∷ xs) n []) (numbers_from (suc (length front)) xs)) (index_behind front x xs)
    ∙ ap (λ ys. x ∷ ys) (
    ap (λ zs. map (λ n. slice_index_or zs n []) (numbers_from (suc (length front)) xs)) (sym (pushed_joined front x xs))
    ∙ ap (λ k. map (λ n. slice_index_or ((front ++ x ∷ []) ++ xs) n []) (numbers_from k xs)) (sym (length_pushed front x))
    ∙ labels_named (front ++ x ∷ []) xs)

numbers_small : (first limit : ℕ) (xs : List (List ℕ)) → first + length xs ≤ limit → list_all (λ l. nat_lt l limit) (numbers_from first xs) ≡ true
numbers_small first limit [] low = refl
numbers_small first limit (x ∷ xs) low = ap (λ b. b && list_all (λ l. nat_lt l limit) (numbers_from (suc first) xs)) (lt-ltb first limit (omega arith)) ∙ numbers_small (suc first) limit xs (omega arith)

has_memset : (p : Program) → AreNames p → HasMemset p
has_memset p names n s e q =
    let x = global_there p n s e in
    let name : x.0.name ≡ memset = sym (global_is p n x.0 x.1) ∙ (bytes_eq-Decides (global_name p n) memset).0 q in
    let h = (both (is_name x.0.name) (not (is_builtin x.0.name) || is_memset p x.0) (all_get (global_is_named p) p.globals n x.0 names.globals x.1)).1 in
    let builtin : is_builtin x.0.name ≡ true = ap is_builtin name in
    let is : is_memset p x.0 ≡ true = sym (ap (λ b. not b || is_memset p x.0) builtin) ∙ h in
    let a = both (bytes_eq x.0.name memset) (not x.0.internal && (is_declared x.0.definition && is_type x.0.type (memset_type p.graph))) is in
    let b = both (not x.0.internal) (is_declared x.0.definition && is_type x.0.type (memset_type p.graph)) a.1 in
    let t = type_is x.0.type (memset_type p.graph) (both (is_declared x.0.definition) (is_type x.0.type (memset_type p.graph)) b.1).1 in
    let two : Some s ≡ Some (memset_type p.graph) = sym x.2 ∙ t in
    cc

-- a body that fits its function's type
body_there : (p : Program) → IsProgram p → (n : ℕ) (x : GlobalDecl) (b : Body) (s : Shape) → x.type ≡ Some s → IsShape p s → body_fits p b s ≡ true → StmtsCast p b.stmts × LocalsCast p b.locals →
    AreLocals p b.locals × (list_all is_plain_name b.labels ≡ true) × (are_different b.labels ≡ true) → 1 + locals_size b.locals + stmts_weight b.stmts ≤ n → BodyTold p n x b
body_there p is n x b VoidType type shaped fit cast names low = absurd (cc fit)
body_there p is n x b (IntType k) type shaped fit cast names low = absurd (cc fit)
body_there p is n x b (PtrType q s) type shaped fit cast names low = absurd (cc fit)
body_there p is n x b (ArrayType q s bound) type shaped fit cast names low = absurd (cc fit)
body_there p is n x b (AggType a) type shaped fit cast names low = absurd (cc fit)
body_there p is n x b (FuncType ret params proto variadic) type shaped fit cast names low =
    let c = scope_of p b in
    let returns = is_void ret || complete_shape p.graph.aggs ret in
    let all = list_all (local_fits p.graph) b.locals in
    let are = parameters_fit params b.params b.locals in
    let v = both (not variadic) (returns && (all && (are && stmts_fit c ret b.stmts))) fit in
    let r = both returns (all && (are && stmts_fit c ret b.stmts)) v.1 in
    let l = both all (are && stmts_fit c ret b.stmts) r.1 in
    let a = both are (stmts_fit c ret b.stmts) l.1 in
    let each = locals_there p b.locals names.0.named l.0 cast.1 in
    let params_told = params_there p params b.params b.locals shaped.1 each a.0 in
    let parts = both (each_stmt (parts_fit c) b.stmts) (labels_fit c b.stmts && (each_stmt (goto_fits c) b.stmts && (cases_fit c None b.stmts && (each_stmt cases_are_once b.stmts && (breaks_fit false b.stmts && each_stmt (returns_fit c ret) b.stmts))))) a.1 in
    let labels = both (labels_fit c b.stmts) (each_stmt (goto_fits c) b.stmts && (cases_fit c None b.stmts && (each_stmt cases_are_once b.stmts && (breaks_fit false b.stmts && each_stmt (returns_fit c ret) b.stmts)))) parts.1 in
    let gotos = both (each_stmt (goto_fits c) b.stmts) (cases_fit c None b.stmts && (each_stmt cases_are_once b.stmts && (breaks_fit false b.stmts && each_stmt (returns_fit c ret) b.stmts))) labels.1 in
    let cases = both (cases_fit c None b.stmts) (each_stmt cases_are_once b.stmts && (breaks_fit false b.stmts && each_stmt (returns_fit c ret) b.stmts)) gotos.1 in
    let once = both (each_stmt cases_are_once b.stmts) (breaks_fit false b.stmts && each_stmt (returns_fit c ret) b.stmts) cases.1 in
    let breaks = both (breaks_fit false b.stmts) (each_stmt (returns_fit c ret) b.stmts) once.1 in
    let numbers : labels_of b.stmts ≡ numbers_from 0 b.labels = (bytes_eq-Decides (labels_of b.stmts) (numbers_from 0 b.labels)).0 labels.0 in
    let plain : variadic ≡ false = denied variadic v.0 in
    let prototype = both (proto || (not (has_parameter params) && not variadic)) (not variadic || has_parameter params) shaped.3 in
    record {
      ret = ret;
      params = params;
      proto = proto;
      type = type ∙ ap (λ (w : Bool). Some (FuncType ret params proto w)) plain;
      result = shaped.0;
      names = params_told.0;
      prototype = weaker proto (not (has_parameter params)) (not variadic) prototype.0;
      locals = behind_each (IsLocal p) b.params b.locals each;
      joined = params_told.1;
      stmts = stmts_there c (scope_told p is.names b.locals names.0 b.labels) (has_memset p is.names) (label_there c names.1 names.2) None tt ret b.stmts cast.0
          parts.0 (ap (list_all (λ l. nat_lt l (length b.labels))) numbers ∙ numbers_small 0 (length b.labels) b.labels (omega arith)) gotos.0 cases.0 breaks.1;
      labels = ap (map (label_name c)) numbers ∙ labels_named [] b.labels;
      apart = all_true (are_different (map local_name_of b.locals)) (are_different b.labels) names.0.differ names.2;
      few = omega (arith, behind_size b.params b.locals);
      low = omega arith;
    }
  where
    weaker : (a d e : Bool) → a || (d && e) ≡ true → a || d ≡ true
    weaker true d e h = refl
    weaker false true e h = refl
    weaker false false e h = absurd (cc h)

function_there : (p : Program) → IsProgram p → (n : ℕ) (x : GlobalDecl) → definition_weight p (shape_of x.type) x.definition ≤ n → GlobalRules p x → FunctionTold p n x
function_there p is n x low rules = by x.definition refl
  where
    t : (x.type ≡ Some (shape_of x.type)) × (typed_fits p (shape_of x.type) x ≡ true)
    t = typed_there p x rules

    fit : definition_fits p (shape_of x.type) x.definition ≡ true
    fit =
        let s = shape_of x.type in
        let a = both (has_definition s x.definition) (internal_is_defined x && (object_is_complete p.graph s x.definition && definition_fits p s x.definition)) t.1 in
        let b = both (internal_is_defined x) (object_is_complete p.graph s x.definition && definition_fits p s x.definition) a.1 in
        (both (object_is_complete p.graph s x.definition) (definition_fits p s x.definition) b.1).1

    other : (d : Definition) → x.definition ≡ d → ((b : Body) → d ≡ Function b → ⊥) → (b : Body) → x.definition ≡ Function b → ⊥
    other d e apart b f = apart b (sym e ∙ f)

    by : (d : Definition) → x.definition ≡ d → FunctionTold p n x
    by Declared e = Rattle.cil_text.proofs.BodiesBack.NoBody (ap (text.function_lines p x) e) (other Declared e (λ b f. absurd (cc f)))
    by Zeros e = Rattle.cil_text.proofs.BodiesBack.NoBody (ap (text.function_lines p x) e) (other Zeros e (λ b f. absurd (cc f)))
    by (Image items) e = Rattle.cil_text.proofs.BodiesBack.NoBody (ap (text.function_lines p x) e) (other (Image items) e (λ b f. absurd (cc f)))
    by (Function b) e =
        Rattle.cil_text.proofs.BodiesBack.OneBody b e rules.named
        (body_there p is n x b (shape_of x.type) t.0 (declared_there p x rules).2 (sym (ap (definition_fits p (shape_of x.type)) e) ∙ fit) (subst (DefinitionCast p) e rules.cast.1) (rules.body b e)
        (omega (arith, ap (definition_weight p (shape_of x.type)) e)))

-- each global, with enough fuel

declared_each : (p : Program) (xs : List GlobalDecl) → EachGlobal (GlobalRules p) xs → EachGlobal (IsDeclared p) xs
declared_each p [] rules = tt
declared_each p (x ∷ xs) rules = (declared_there p x rules.0, declared_each p xs rules.1)

objects_each : (p : Program) → IsFile p → (n : ℕ) (xs : List GlobalDecl) → globals_weight p xs ≤ n → EachGlobal (GlobalRules p) xs → EachGlobal (ObjectTold p n) xs
objects_each p file n [] low rules = tt
objects_each p file n (x ∷ xs) low rules = (object_there p file n x (omega arith) rules.0, objects_each p file n xs (omega arith) rules.1)

functions_each : (p : Program) → IsProgram p → (n : ℕ) (xs : List GlobalDecl) → globals_weight p xs ≤ n → EachGlobal (GlobalRules p) xs → EachGlobal (FunctionTold p n) xs
functions_each p is n [] low rules = tt
functions_each p is n (x ∷ xs) low rules = (function_there p is n x (omega arith) rules.0, functions_each p is n xs (omega arith) rules.1)

sizes_small : (p : Program) (xs : List GlobalDecl) → globals_size xs ≤ globals_weight p xs
sizes_small p [] = omega arith
sizes_small p (x ∷ xs) = omega (arith, sizes_small p xs)

pub file_there : (p : Program) → IsProgram p → IsFile p
file_there p is = record {
  scope = file_scope_told p is.names;
  member_shape = λ s t n e. by (member_at p.graph s n) t e;
}
  where
    by : (o : Option Member) (t : Shape) → option_map (λ (m : Member). shape p.graph.nodes m.ty.of.0) o ≡ Some t → IsShape p t
    by None t e = absurd (cc e)
    by (Some m) t e = let same : shape p.graph.nodes m.ty.of.0 ≡ t = cc in subst (IsShape p) same (shape_there p is.arena is.types is.names m.ty.of.0)

-- the fuel that a program's text takes
abbrev pub program_weight : Program → ℕ
program_weight p = aggregates_size p p.graph.aggs + globals_weight p p.globals

pub told_there : (p : Program) (n : ℕ) → IsProgram p → program_weight p ≤ n → IsTold p n
told_there p n is low =
    let told = each_aggregate (AggregateTold p) p.graph.aggs (aggregate_told p is) in
    let parts = split p p.graph.aggs is.types.enums_first told in
    let rules = rules_there p is in
    record {
      enums = parts.0;
      structs = parts.1;
      both_are = parts.2;
      are_enums = parts.3;
      are_structs = parts.4;
      aggregates_low = omega (arith, sizes_joined p parts.0 parts.1, ap (aggregates_size p) parts.2);
      tags_differ = is.names.tags;
      allowed = allowed_there p is;
      filled = filled_there p is;
      declared = declared_each p p.globals rules;
      globals_low = omega (arith, sizes_small p p.globals);
      objects = objects_each p (file_there p is) n p.globals (omega arith) rules;
      functions = functions_each p is n p.globals (omega arith) rules;
      names_differ = last_different (enumerators p) (map global_name_of p.globals) is.names.file;
    }

pub program_back : (p : Program) (n : ℕ) → IsProgram p → program_weight p ≤ n → read_lines p.graph.abi n (lines_onto (text.program_lines p) []) ≡ Some (map (seen_aggregate p) p.graph.aggs, p.globals)
program_back p n is low = lines_back p n (told_there p n is low)
