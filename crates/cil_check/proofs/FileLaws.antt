-- Device: the names of file scope and the tags by number.
use Rattle.std.proofs.Common.{◌≡◌, ℕ, zero, suc, ◌<◌, Bool, true, false, ◌&&◌, ◌||◌, not, Option, Some, None, List, [], ◌∷◌, ◌++◌, length, map, nat_eq, refl, sym, ap, ◌∙◌, if◌then◌else◌, get_or, arith}
use Rattle.std.proofs.lemmas.List.{map-append}
use Rattle.std.specs.List.{list_all, list_any}
use Rattle.cil_base.specs.declared.numbers.NameId.{NameId}
use Rattle.cil_base.specs.NamePool.{IsOnceEach}
use Rattle.type_graph.specs.declared.aggregates.Aggregate.{Aggregate}
use Rattle.cil_tree.specs.declared.globals.GlobalDecl.{GlobalDecl}
use Rattle.cil_tree.specs.declared.globals.CilUnit.{CilUnit}
use Rattle.cil_tree.specs.declared.globals.Body.{Body}
use Rattle.cil_tree.specs.declared.globals.Local.{Local}
use Rattle.type_graph.specs.declared.nodes.Node.{Node}
use Rattle.cil_tree.specs.Tree.{Program}
use Rattle.cil_tree.specs.View.{text_at, global_of, local_of, body_of, program_of}
use Rattle.cil_tree.specs.Declarators.{tag_text}
use Rattle.cil_tree.specs.Text.{concat_each}
use Rattle.cil_tree.specs.Typing.{is_enum}
use Rattle.cil_tree.specs.Names.{is_name, is_plain_name, is_builtin, is_memset, is_among, are_different, are_apart, global_is_named, members_are_named, member_names, enumerators_of, enumerators, file_names, global_name_of, tags, AreNames, host_names, internal_is_apart, local_name_of, body_is_named}
use Rattle.cil_check.specs.NameLists.{number, global_id, local_id, member_ids, enumerator_ids_of, enumerator_ids, tag_ids_of, tag_ids, AllIn}
use Rattle.cil_check.specs.FileNames.{KnowsFile, locals_named, within_is_named, names_rules}
use Rattle.cil_check.specs.Sets.{fresh}
use Rattle.cil_check.proofs.NameLaws.{named_in, plain_in, all_plain_in, any_alike, different_is}
use Rattle.cil_check.proofs.NameSteps.{member_names_are}

both : (p q : Bool) → p && q ≡ true → (p ≡ true) × (q ≡ true)
both true q e = (refl, e)
both false q e = cc

in_both : (n : ℕ) (xs ys : List NameId) → AllIn n xs → AllIn n ys → AllIn n (xs ++ ys)
in_both n [] ys a b = b
in_both n (x ∷ xs) ys a b = (a.0, in_both n xs ys a.1 b)

enumerators_of_is : (p : Program) (x : Aggregate) → map (text_at p.names) (enumerator_ids_of x) ≡ enumerators_of p x
enumerators_of_is p x = by (is_enum x.kind)
  where
    by : (b : Bool) → map (text_at p.names) (if b then member_ids x else []) ≡ (if b then member_names p x else [])
    by true = member_names_are p x
    by false = refl

enumerators_from : (p : Program) (xs : List Aggregate) → map (text_at p.names) (enumerator_ids xs) ≡ concat_each (enumerators_of p) xs
enumerators_from p [] = refl
enumerators_from p (x ∷ xs) = map-append (text_at p.names) (enumerator_ids_of x) (enumerator_ids xs) ∙ ap (λ z. z ++ map (text_at p.names) (enumerator_ids xs)) (enumerators_of_is p x) ∙ ap (λ z. enumerators_of p x ++ z) (enumerators_from p xs)

-- the texts of the enumerators' numbers are their names
pub enumerators_are : (p : Program) → map (text_at p.names) (enumerator_ids p.graph.aggs) ≡ enumerators p
enumerators_are p = enumerators_from p p.graph.aggs

globals_are : (nodes : List Node) (names : List (List ℕ)) (xs : List GlobalDecl) → map (text_at names) (map global_id xs) ≡ map global_name_of (map (global_of nodes names) xs)
globals_are nodes names [] = refl
globals_are nodes names (x ∷ xs) = ap (λ z. text_at names x.name ∷ z) (globals_are nodes names xs)

pub file_names_are : (names : List (List ℕ)) (u : CilUnit) → map (text_at names) (enumerator_ids u.graph.aggs ++ map global_id u.globals.items) ≡ file_names (program_of names u)
file_names_are names u =
    map-append (text_at names) (enumerator_ids u.graph.aggs) (map global_id u.globals.items)
    ∙ ap (λ z. z ++ map (text_at names) (map global_id u.globals.items)) (enumerators_are (program_of names u)) ∙ ap (λ z. enumerators (program_of names u) ++ z) (globals_are u.graph.nodes names u.globals.items)

members_in : (p : Program) (x : Aggregate) → members_are_named p x ≡ true → AllIn (length p.names) (member_ids x)
members_in p x e =
    let h = both (is_plain_name (tag_text p x)) (list_all is_plain_name (member_names p x) && are_different (member_names p x)) e in
    let k = both (list_all is_plain_name (member_names p x)) (are_different (member_names p x)) h.1 in
    all_plain_in p.names (member_ids x) (ap (list_all is_plain_name) (member_names_are p x) ∙ k.0)

enumerators_of_in : (p : Program) (x : Aggregate) → members_are_named p x ≡ true → AllIn (length p.names) (enumerator_ids_of x)
enumerators_of_in p x e = by (is_enum x.kind)
  where
    by : (b : Bool) → AllIn (length p.names) (if b then member_ids x else [])
    by true = members_in p x e
    by false = tt

enumerators_in : (p : Program) (xs : List Aggregate) → list_all (members_are_named p) xs ≡ true → AllIn (length p.names) (enumerator_ids xs)
enumerators_in p [] e = tt
enumerators_in p (x ∷ xs) e =
    let h = both (members_are_named p x) (list_all (members_are_named p) xs) e in
    in_both (length p.names) (enumerator_ids_of x) (enumerator_ids xs) (enumerators_of_in p x h.0) (enumerators_in p xs h.1)

globals_in : (p : Program) (nodes : List Node) (xs : List GlobalDecl) → list_all (global_is_named p) (map (global_of nodes p.names) xs) ≡ true → AllIn (length p.names) (map global_id xs)
globals_in p nodes [] e = tt
globals_in p nodes (x ∷ xs) e =
    let y = global_of nodes p.names x in
    let h = both (global_is_named p y) (list_all (global_is_named p) (map (global_of nodes p.names) xs)) e in
    let k = both (is_name y.name) (not (is_builtin y.name) || is_memset p y) h.0 in
    (named_in p.names x.name k.0, globals_in p nodes xs h.1)

-- the names of file scope are in the pool
pub file_names_in : (names : List (List ℕ)) (u : CilUnit) → list_all (global_is_named (program_of names u)) (program_of names u).globals ≡ true → list_all (members_are_named (program_of names u)) u.graph.aggs ≡ true
    → AllIn (length names) (enumerator_ids u.graph.aggs ++ map global_id u.globals.items)
file_names_in names u e f = in_both (length names) (enumerator_ids u.graph.aggs) (map global_id u.globals.items) (enumerators_in (program_of names u) u.graph.aggs f) (globals_in (program_of names u) u.graph.nodes u.globals.items e)

-- they differ where each number is fresh
pub file_differs : (names : List (List ℕ)) (u : CilUnit) → IsOnceEach names → list_all (global_is_named (program_of names u)) (program_of names u).globals ≡ true → list_all (members_are_named (program_of names u)) u.graph.aggs ≡ true
    → fresh nat_eq [] (map number (enumerator_ids u.graph.aggs ++ map global_id u.globals.items)) ≡ are_different (file_names (program_of names u))
file_differs names u once e f = different_is names (enumerator_ids u.graph.aggs ++ map global_id u.globals.items) once (file_names_in names u e f) ∙ ap are_different (file_names_are names u)

pub knows : (names : List (List ℕ)) (u : CilUnit) (keys : List ℕ) → list_all (global_is_named (program_of names u)) (program_of names u).globals ≡ true → list_all (members_are_named (program_of names u)) u.graph.aggs ≡ true
    → keys ≡ map number (enumerator_ids u.graph.aggs ++ map global_id u.globals.items) → KnowsFile keys (program_of names u)
knows names u keys e f is = record { names = enumerator_ids u.graph.aggs ++ map global_id u.globals.items; numbers = is; within = file_names_in names u e f; texts = file_names_are names u }

-- a name among those of file scope
pub in_file : (p : Program) (keys : List ℕ) (n : NameId) → KnowsFile keys p → IsOnceEach p.names → n.0 < length p.names → list_any (nat_eq n.0) keys ≡ is_among (file_names p) (text_at p.names n)
in_file p keys n k once h = ap (list_any (nat_eq n.0)) k.numbers ∙ any_alike p.names n k.names once h k.within ∙ ap (λ ts. is_among ts (text_at p.names n)) k.texts

tag_is : (p : Program) (x : Aggregate) → members_are_named p x ≡ true → (map (text_at p.names) (tag_ids_of x) ≡ tag_text p x ∷ []) × AllIn (length p.names) (tag_ids_of x)
tag_is p x e = by x.tag (both (is_plain_name (tag_text p x)) (list_all is_plain_name (member_names p x) && are_different (member_names p x)) e).0
  where
    by : (o : Option NameId) → is_plain_name (elim o [ None ↦ [] | Some n ↦ text_at p.names n ]) ≡ true → (map (text_at p.names) (elim o [ None ↦ [] | Some n ↦ n ∷ [] ]) ≡ elim o [ None ↦ [] | Some n ↦ text_at p.names n ] ∷ []) × AllIn (length p.names) (elim o [ None ↦ [] | Some n ↦ n ∷ [] ])
    by None h = absurd (no h)
      where
        no : false ≡ true → ⊥
        no f = cc
    by (Some n) h = (refl, (plain_in p.names n h, tt))

tags_from : (p : Program) (xs : List Aggregate) → list_all (members_are_named p) xs ≡ true → (map (text_at p.names) (tag_ids xs) ≡ map (tag_text p) xs) × AllIn (length p.names) (tag_ids xs)
tags_from p [] e = (refl, tt)
tags_from p (x ∷ xs) e =
    let h = both (members_are_named p x) (list_all (members_are_named p) xs) e in
    let a = tag_is p x h.0 in
    let b = tags_from p xs h.1 in
    (map-append (text_at p.names) (tag_ids_of x) (tag_ids xs) ∙ ap (λ z. z ++ map (text_at p.names) (tag_ids xs)) a.0 ∙ ap (λ z. tag_text p x ∷ z) b.0, in_both (length p.names) (tag_ids_of x) (tag_ids xs) a.1 b.1)

-- the tags are in the pool
pub tags_in : (p : Program) → list_all (members_are_named p) p.graph.aggs ≡ true → AllIn (length p.names) (tag_ids p.graph.aggs)
tags_in p e = (tags_from p p.graph.aggs e).1

-- the texts of their numbers are the tags
pub tags_are : (p : Program) → list_all (members_are_named p) p.graph.aggs ≡ true → map (text_at p.names) (tag_ids p.graph.aggs) ≡ tags p
tags_are p e = (tags_from p p.graph.aggs e).0

pub name_at : (n : ℕ) (xs : List NameId) (i : ℕ) (d : NameId) → AllIn n xs → i < length xs → (get_or xs i d).0 < n
name_at n [] i d a h = absurd (omega arith)
name_at n (x ∷ xs) zero d a h = a.0
name_at n (x ∷ xs) (suc i) d a h = name_at n xs i d a.1 (omega arith)

locals_are : (nodes : List Node) (names : List (List ℕ)) (xs : List Local) → map (text_at names) (map local_id xs) ≡ map local_name_of (map (local_of nodes names) xs)
locals_are nodes names [] = refl
locals_are nodes names (x ∷ xs) = ap (λ z. text_at names x.name ∷ z) (locals_are nodes names xs)

regrouped : (a b c d e : Bool) → (a && (b && (c && d))) && e ≡ a && (b && (c && (d && e)))
regrouped true true true d e = refl
regrouped true true false d e = refl
regrouped true false c d e = refl
regrouped false b c d e = refl

-- the names of a body are those of its locals and those of its labels
body_splits : (p : Program) (nodes : List Node) (names : List (List ℕ)) (b : Body) (ids : List NameId) → ids ≡ map local_id b.locals.items →
    locals_named p (map (text_at names) ids) && (list_all is_plain_name (map (text_at names) b.labels.items) && are_different (map (text_at names) b.labels.items)) ≡ body_is_named p (body_of nodes names b)
body_splits p nodes names b ids is =
    let texts : map (text_at names) ids ≡ map local_name_of (map (local_of nodes names) b.locals.items) = ap (map (text_at names)) is ∙ locals_are nodes names b.locals.items in
    ap (λ (zs : List (List ℕ)). locals_named p zs && (list_all is_plain_name (map (text_at names) b.labels.items) && are_different (map (text_at names) b.labels.items))) texts
    ∙ all (map local_name_of (map (local_of nodes names) b.locals.items)) (list_all is_plain_name (map (text_at names) b.labels.items) && are_different (map (text_at names) b.labels.items))
  where
    all : (zs : List (List ℕ)) (e : Bool) → locals_named p zs && e ≡ list_all is_plain_name zs && (are_different zs && (are_apart zs (file_names p) && (are_apart zs host_names && e)))
    all zs e = regrouped (list_all is_plain_name zs) (are_different zs) (are_apart zs (file_names p)) (are_apart zs host_names) e

pub body_fails : (p : Program) (nodes : List Node) (names : List (List ℕ)) (b : Body) (ids : List NameId) → ids ≡ map local_id b.locals.items → locals_named p (map (text_at names) ids) ≡ false → false ≡ body_is_named p (body_of nodes names b)
body_fails p nodes names b ids is e = sym (sym (body_splits p nodes names b ids is) ∙ ap (λ z. z && (list_all is_plain_name (map (text_at names) b.labels.items) && are_different (map (text_at names) b.labels.items))) e)

pub body_passes : (p : Program) (nodes : List Node) (names : List (List ℕ)) (b : Body) (ids : List NameId) → ids ≡ map local_id b.locals.items → locals_named p (map (text_at names) ids) ≡ true
    → list_all is_plain_name (map (text_at names) b.labels.items) && are_different (map (text_at names) b.labels.items) ≡ body_is_named p (body_of nodes names b)
body_passes p nodes names b ids is e = sym (ap (λ z. z && (list_all is_plain_name (map (text_at names) b.labels.items) && are_different (map (text_at names) b.labels.items))) e) ∙ body_splits p nodes names b ids is

-- the rules of names hold where they hold at once
pub names_are : (p : Program) → names_rules p ≡ true → AreNames p
names_are p e =
    let a = both (list_all (global_is_named p) p.globals) (list_all internal_is_apart p.globals && (list_all (members_are_named p) p.graph.aggs && (are_different (tags p) && ((are_apart (enumerators p) host_names && are_different (file_names p)) && list_all (within_is_named p) p.globals)))) e in
    let b = both (list_all internal_is_apart p.globals) (list_all (members_are_named p) p.graph.aggs && (are_different (tags p) && ((are_apart (enumerators p) host_names && are_different (file_names p)) && list_all (within_is_named p) p.globals))) a.1 in
    let d = both (list_all (members_are_named p) p.graph.aggs) (are_different (tags p) && ((are_apart (enumerators p) host_names && are_different (file_names p)) && list_all (within_is_named p) p.globals)) b.1 in
    let f = both (are_different (tags p)) ((are_apart (enumerators p) host_names && are_different (file_names p)) && list_all (within_is_named p) p.globals) d.1 in
    let g = both (are_apart (enumerators p) host_names && are_different (file_names p)) (list_all (within_is_named p) p.globals) f.1 in
    let h = both (are_apart (enumerators p) host_names) (are_different (file_names p)) g.0 in
    record { globals = a.0; enumerators = h.0; internals = b.0; file = h.1; tags = f.0; members = d.0; bodies = g.1 }

joined : (p q : Bool) → p ≡ true → q ≡ true → p && q ≡ true
joined p q e f = ap (λ b. b && q) e ∙ f

pub names_hold : (p : Program) → AreNames p → names_rules p ≡ true
names_hold p r =
    joined (list_all (global_is_named p) p.globals) (list_all internal_is_apart p.globals && (list_all (members_are_named p) p.graph.aggs && (are_different (tags p) && ((are_apart (enumerators p) host_names && are_different (file_names p)) && list_all (within_is_named p) p.globals)))) r.globals
    (joined (list_all internal_is_apart p.globals) (list_all (members_are_named p) p.graph.aggs && (are_different (tags p) && ((are_apart (enumerators p) host_names && are_different (file_names p)) && list_all (within_is_named p) p.globals))) r.internals
    (joined (list_all (members_are_named p) p.graph.aggs) (are_different (tags p) && ((are_apart (enumerators p) host_names && are_different (file_names p)) && list_all (within_is_named p) p.globals)) r.members
    (joined (are_different (tags p)) ((are_apart (enumerators p) host_names && are_different (file_names p)) && list_all (within_is_named p) p.globals) r.tags
    (joined (are_apart (enumerators p) host_names && are_different (file_names p)) (list_all (within_is_named p) p.globals) (joined (are_apart (enumerators p) host_names) (are_different (file_names p)) r.enumerators r.file) r.bodies))))
