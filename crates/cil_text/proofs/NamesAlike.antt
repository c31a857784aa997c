-- Device: the rules of names speak of nothing but what the equality of programs speaks of.
use Rattle.std.proofs.Common.{◌≡◌, ℕ, ◌&&◌, ◌||◌, not, Bool, true, cond, List, [], ◌∷◌, ◌++◌, map, codes, Option, Some, None, refl, sym, ap, ◌∙◌}
use Rattle.std.specs.List.{list_all}
use Rattle.std.specs.Option.{option_map}
use Rattle.std.specs.Str.{bytes_eq}
use Rattle.cil_base.specs.declared.kinds.Abi.{Abi}
use Rattle.cil_base.specs.declared.kinds.IntKind.TheVariants.{Int as int}
use Rattle.cil_base.specs.Integer.{ulong_of}
use Rattle.type_graph.specs.declared.aggregates.Aggregate.{Aggregate}
use Rattle.type_graph.specs.declared.aggregates.Member.{Member}
use Rattle.type_graph.specs.Shapes.{Shape, VoidType, IntType, FuncType, NoTypes, MoreTypes}
use Rattle.cil_tree.specs.Tree.{Definition, Declared, Zeros, Image, Function, GlobalDecl, Program}
use Rattle.cil_tree.specs.Typing.{is_type, is_enum, pointer_to}
use Rattle.cil_tree.specs.Declarators.{tag_text}
use Rattle.cil_tree.specs.Text.{member_name, concat_each}
use Rattle.cil_tree.specs.Names.{host_names, are_different, are_apart, is_name, is_builtin, is_plain_name, memset_type, is_declared, global_is_named, member_names, enumerators_of, enumerators, global_name_of, file_names, internal_is_apart, tags, members_are_named, local_name_of, definition_is_named, AreNames}
use Rattle.cil_tree.specs.Programs.{SeenMember, SeenAggregate, seen_member, seen_aggregate}
use Rattle.cil_text.proofs.Alike.{tag_seen}

-- what is told of each, from what is seen of it

pub map_seen : {A B C : Type 0} (s : A → B) (f : A → C) (g : B → C) → ((x : A) → f x ≡ g (s x)) → (xs : List A) → map f xs ≡ map g (map s xs)
map_seen s f g h [] = refl
map_seen s f g h (x ∷ xs) = ap (λ y. y ∷ map f xs) (h x) ∙ ap (λ ys. g (s x) ∷ ys) (map_seen s f g h xs)

concat_seen : {A B C : Type 0} (s : A → B) (f : A → List C) (g : B → List C) → ((x : A) → f x ≡ g (s x)) → (xs : List A) → concat_each f xs ≡ concat_each g (map s xs)
concat_seen s f g h [] = refl
concat_seen s f g h (x ∷ xs) = ap (λ ys. ys ++ concat_each f xs) (h x) ∙ ap (λ ys. g (s x) ++ ys) (concat_seen s f g h xs)

pub all_seen : {A B : Type 0} (s : A → B) (f : A → Bool) (g : B → Bool) → ((x : A) → f x ≡ g (s x)) → (xs : List A) → list_all f xs ≡ list_all g (map s xs)
all_seen s f g h [] = refl
all_seen s f g h (x ∷ xs) = ap (λ b. b && list_all f xs) (h x) ∙ ap (λ b. g (s x) && b) (all_seen s f g h xs)

abbrev seen_tag : SeenAggregate → List ℕ
seen_tag x = elim x.tag [ None ↦ [] | Some t ↦ t ]

tag_is : (p : Program) (x : Aggregate) → tag_text p x ≡ seen_tag (seen_aggregate p x)
tag_is p x = tag_seen p x.tag

abbrev name_of : SeenMember → List ℕ
name_of m = m.name

abbrev names_in : Option (List SeenMember) → List (List ℕ)
names_in o = elim o [ None ↦ [] | Some ms ↦ map name_of ms ]

names_are : (p : Program) (x : Aggregate) → member_names p x ≡ names_in (seen_aggregate p x).members
names_are p x = by x.members
  where
    by : (o : Option (List Member)) → elim o as (λ _. List (List ℕ)) [ None ↦ [] | Some ms ↦ map (member_name p) ms ] ≡ names_in (option_map (map (seen_member p)) o)
    by None = refl
    by (Some ms) = map_seen (seen_member p) (member_name p) name_of (λ m. refl) ms

abbrev seen_enumerators : SeenAggregate → List (List ℕ)
seen_enumerators x = cond (is_enum x.kind) (names_in x.members) []

enumerators_are : (p : Program) (x : Aggregate) → enumerators_of p x ≡ seen_enumerators (seen_aggregate p x)
enumerators_are p x = ap (λ ns. cond (is_enum x.kind) ns []) (names_are p x)

abbrev seen_named : SeenAggregate → Bool
seen_named x = is_plain_name (seen_tag x) && (list_all is_plain_name (names_in x.members) && are_different (names_in x.members))

named_is : (p : Program) (x : Aggregate) → members_are_named p x ≡ seen_named (seen_aggregate p x)
named_is p x =
    ap (λ t. is_plain_name t && (list_all is_plain_name (member_names p x) && are_different (member_names p x))) (tag_is p x)
    ∙ ap (λ ns. is_plain_name (seen_tag (seen_aggregate p x)) && (list_all is_plain_name ns && are_different ns)) (names_are p x)

-- aggregates in order are seen alike
abbrev pub SeenAlike : Program → Program → Type 0
SeenAlike p q = map (seen_aggregate p) p.graph.aggs ≡ map (seen_aggregate q) q.graph.aggs

tags_alike : (p q : Program) → SeenAlike p q → tags p ≡ tags q
tags_alike p q same = map_seen (seen_aggregate p) (tag_text p) seen_tag (tag_is p) p.graph.aggs ∙ ap (map seen_tag) same ∙ sym (map_seen (seen_aggregate q) (tag_text q) seen_tag (tag_is q) q.graph.aggs)

enumerators_alike : (p q : Program) → SeenAlike p q → enumerators p ≡ enumerators q
enumerators_alike p q same =
    concat_seen (seen_aggregate p) (enumerators_of p) seen_enumerators (enumerators_are p) p.graph.aggs ∙ ap (concat_each seen_enumerators) same ∙ sym (concat_seen (seen_aggregate q) (enumerators_of q) seen_enumerators (enumerators_are q) q.graph.aggs)

file_alike : (p q : Program) → SeenAlike p q → p.globals ≡ q.globals → file_names p ≡ file_names q
file_alike p q same globals = ap (λ ns. ns ++ map global_name_of p.globals) (enumerators_alike p q same) ∙ ap (λ (xs : List GlobalDecl). enumerators q ++ map global_name_of xs) globals

memset_alike : (p q : Program) → p.graph.abi ≡ q.graph.abi → memset_type p.graph ≡ memset_type q.graph
memset_alike p q same = ap (λ (a : Abi). FuncType (pointer_to VoidType) (MoreTypes (pointer_to VoidType) (MoreTypes (IntType int) (MoreTypes (IntType (ulong_of a)) NoTypes))) true Rattle.std.proofs.Common.false) same

global_named_alike : (p q : Program) → p.graph.abi ≡ q.graph.abi → (x : GlobalDecl) → global_is_named p x ≡ global_is_named q x
global_named_alike p q same x =
    ap (λ (s : Shape). is_name x.name && (not (is_builtin x.name) || (bytes_eq x.name (codes "__builtin_memset") && (not x.internal && (is_declared x.definition && is_type x.type s))))) (memset_alike p q same)

definition_named_alike : (p q : Program) → file_names p ≡ file_names q → (d : Definition) → definition_is_named p d ≡ definition_is_named q d
definition_named_alike p q same Declared = refl
definition_named_alike p q same Zeros = refl
definition_named_alike p q same (Image items) = refl
definition_named_alike p q same (Function b) =
    let ns = map local_name_of b.locals in
    ap (λ fs. list_all is_plain_name ns && (are_different ns && (are_apart ns fs && (are_apart ns host_names && (list_all is_plain_name b.labels && are_different b.labels))))) same

pub names_alike : (p q : Program) → p.graph.abi ≡ q.graph.abi → SeenAlike p q → p.globals ≡ q.globals → AreNames p → AreNames q
names_alike p q abi same globals names = record {
  globals = sym (ap (λ (f : GlobalDecl → Bool). list_all f p.globals) (λ i x. global_named_alike p q abi x i) ∙ ap (list_all (global_is_named q)) globals) ∙ names.globals;
  enumerators = sym (ap (λ ns. are_apart ns host_names) (enumerators_alike p q same)) ∙ names.enumerators;
  internals = sym (ap (list_all internal_is_apart) globals) ∙ names.internals;
  file = sym (ap are_different (file_alike p q same globals)) ∙ names.file;
  tags = sym (ap are_different (tags_alike p q same)) ∙ names.tags;
  members = sym (all_seen (seen_aggregate p) (members_are_named p) seen_named (named_is p) p.graph.aggs ∙ ap (list_all seen_named) same ∙ sym (all_seen (seen_aggregate q) (members_are_named q) seen_named (named_is q) q.graph.aggs)) ∙ names.members;
  bodies = sym (ap (λ (f : GlobalDecl → Bool). list_all f p.globals) (λ i x. definition_named_alike p q (file_alike p q same globals) x.definition i) ∙ ap (list_all (λ (x : GlobalDecl). definition_is_named q x.definition)) globals) ∙ names.bodies;
}
