-- Device: the text of a program depends on nothing but what the equality of programs speaks of: equal programs have one text.
use Rattle.std.proofs.Common.{◌≡◌, ℕ, Bool, true, false, cond, List, [], ◌∷◌, ◌++◌, map, codes, Option, Some, None, is_some, slice_get, refl, sym, ap, ◌∙◌}
use Rattle.std.specs.Option.{option_map, option_and_then}
use Rattle.std.proofs.lemmas.Option.{slice_get-map}
use Rattle.cil_base.specs.declared.numbers.NameId.{NameId}
use Rattle.type_graph.specs.declared.aggregates.Aggregate.{Aggregate}
use Rattle.type_graph.specs.declared.aggregates.Member.{Member}
use Rattle.type_graph.specs.Shapes.{Shape, Shapes, VoidType, IntType, PtrType, ArrayType, FuncType, AggType, NoTypes, MoreTypes, shape}
use Rattle.type_graph.specs.Arena.{members_of, complete_shape}
use Rattle.cil_tree.specs.Tree.{Program, GlobalDecl}
use Rattle.cil_tree.specs.Typing.{is_enum, names_enum, is_scalar, global_type, member_of, member_at, member_type}
use Rattle.cil_tree.specs.View.{text_at}
use Rattle.cil_tree.specs.Lines.{Token}
use Rattle.cil_tree.specs.Declarators.{keyword_of, tagged, aggregate_words, starred, bound_tokens, separated, listed, in_parentheses, declared, all_declared}
use Rattle.cil_tree.specs.Text.{name_in, global_name}
use Rattle.cil_tree.specs.Programs.{SeenMember, SeenAggregate, seen_member, seen_aggregate, SameProgram}

-- aggregates that stand at one number are seen alike

abbrev pub Alike : Program → Program → Type 0
Alike p q = (a : ℕ) → option_map (seen_aggregate p) (slice_get p.graph.aggs a) ≡ option_map (seen_aggregate q) (slice_get q.graph.aggs a)

pub alike : (p q : Program) → SameProgram p q → Alike p q
alike p q same a =
    sym (slice_get-map (seen_aggregate p) p.graph.aggs a) ∙ ap (λ xs. slice_get xs a) same.aggregates ∙ slice_get-map (seen_aggregate q) q.graph.aggs a

-- what is said of what stands at a number, from what is seen there
pub through : {A B C D : Type 0} (f : A → C) (g : B → C) (h : C → D) (d : D) (o : Option A) (u : Option B) → option_map f o ≡ option_map g u → elim o as (λ _. D) [ None ↦ d | Some x ↦ h (f x) ] ≡ elim u as (λ _. D) [ None ↦ d | Some y ↦ h (g y) ]
through f g h d None None e = refl
through f g h d None (Some y) e = absurd (cc e)
through f g h d (Some x) None e = absurd (cc e)
through f g h d (Some x) (Some y) e = let same : f x ≡ g y = cc in ap h same

-- tags

abbrev pub seen_words : SeenAggregate → List Token
seen_words x = keyword_of x.kind ∷ elim x.tag [ None ↦ [] | Some t ↦ t ] ∷ []

pub tag_seen : (p : Program) (o : Option NameId) → elim o as (λ _. List ℕ) [ None ↦ [] | Some n ↦ text_at p.names n ] ≡ elim (option_map (text_at p.names) o) as (λ _. List ℕ) [ None ↦ [] | Some t ↦ t ]
tag_seen p None = refl
tag_seen p (Some n) = refl

pub tagged_seen : (p : Program) (x : Aggregate) → tagged p x ≡ seen_words (seen_aggregate p x)
tagged_seen p x = ap (λ (t : List ℕ). keyword_of x.kind ∷ t ∷ []) (tag_seen p x.tag)

words_seen : (p : Program) (a : ℕ) → aggregate_words p a ≡ elim (slice_get p.graph.aggs a) as (λ _. List Token) [ None ↦ [] | Some x ↦ seen_words (seen_aggregate p x) ]
words_seen p a = by (slice_get p.graph.aggs a)
  where
    by : (o : Option Aggregate) → elim o as (λ _. List Token) [ None ↦ [] | Some x ↦ tagged p x ] ≡ elim o as (λ _. List Token) [ None ↦ [] | Some x ↦ seen_words (seen_aggregate p x) ]
    by None = refl
    by (Some x) = tagged_seen p x

words_alike : (p q : Program) → Alike p q → (a : ℕ) → aggregate_words p a ≡ aggregate_words q a
words_alike p q same a = words_seen p a ∙ through (seen_aggregate p) (seen_aggregate q) seen_words [] (slice_get p.graph.aggs a) (slice_get q.graph.aggs a) (same a) ∙ sym (words_seen q a)

-- types

mutual
  pub declared_alike : (p q : Program) → Alike p q → (s : Shape) (inner : List Token) → declared p s inner ≡ declared q s inner
  declared_alike p q same VoidType inner = refl
  declared_alike p q same (IntType k) inner = refl
  declared_alike p q same (PtrType r s) inner = declared_alike p q same s (starred s inner)
  declared_alike p q same (ArrayType r s bound) inner = declared_alike p q same s (inner ++ codes "[" ∷ (bound_tokens bound ++ codes "]" ∷ []))
  declared_alike p q same (FuncType ret params proto variadic) inner =
      declared_alike p q same ret (inner ++ in_parentheses (listed proto variadic (all_declared p params)))
      ∙ ap (λ ts. declared q ret (inner ++ in_parentheses (listed proto variadic ts))) (all_alike p q same params)
  declared_alike p q same (AggType a) inner = ap (λ ts. ts ++ inner) (words_alike p q same a)

  all_alike : (p q : Program) → Alike p q → (ss : Shapes) → all_declared p ss ≡ all_declared q ss
  all_alike p q same NoTypes = refl
  all_alike p q same (MoreTypes s more) = ap (λ ts. separated ts (all_declared p more)) (declared_alike p q same s []) ∙ ap (separated (declared q s [])) (all_alike p q same more)

-- members

abbrev pub seen_at : ℕ → SeenAggregate → Option SeenMember
seen_at n x = cond (is_enum x.kind) None (option_and_then (λ ms. slice_get ms n) x.members)

member_seen : (p : Program) (x : Aggregate) (n : ℕ) → option_map (seen_member p) (member_of p.graph x n) ≡ seen_at n (seen_aggregate p x)
member_seen p x n = by (is_enum x.kind) x.members
  where
    by : (b : Bool) (o : Option (List Member)) → option_map (seen_member p) (cond b None (option_and_then (λ (ms : List Member). slice_get ms n) o)) ≡ cond b None (option_and_then (λ (ms : List SeenMember). slice_get ms n) (option_map (map (seen_member p)) o))
    by true o = refl
    by false None = refl
    by false (Some ms) = sym (slice_get-map (seen_member p) ms n)

abbrev at_in : Program → ℕ → Option Aggregate → Option SeenMember
at_in p n o = elim o as (λ _. Option SeenMember) [ None ↦ None | Some x ↦ seen_at n (seen_aggregate p x) ]

member_in_seen : (p : Program) (a n : ℕ) → option_map (seen_member p) (member_at p.graph (AggType a) n) ≡ at_in p n (slice_get p.graph.aggs a)
member_in_seen p a n = by (slice_get p.graph.aggs a)
  where
    by : (o : Option Aggregate) → option_map (seen_member p) (option_and_then (λ (x : Aggregate). member_of p.graph x n) o) ≡ at_in p n o
    by None = refl
    by (Some x) = member_seen p x n

pub member_alike : (p q : Program) → Alike p q → (s : Shape) (n : ℕ) → option_map (seen_member p) (member_at p.graph s n) ≡ option_map (seen_member q) (member_at q.graph s n)
member_alike p q same (AggType a) n = member_in_seen p a n ∙ through (seen_aggregate p) (seen_aggregate q) (seen_at n) None (slice_get p.graph.aggs a) (slice_get q.graph.aggs a) (same a) ∙ sym (member_in_seen q a n)
member_alike p q same VoidType n = refl
member_alike p q same (IntType k) n = refl
member_alike p q same (PtrType r s) n = refl
member_alike p q same (ArrayType r s bound) n = refl
member_alike p q same (FuncType r ps pr v) n = refl

pub name_alike : (p q : Program) → Alike p q → (s : Shape) (n : ℕ) → name_in p s n ≡ name_in q s n
name_alike p q same s n = through (seen_member p) (seen_member q) (λ (m : SeenMember). m.name) [] (member_at p.graph s n) (member_at q.graph s n) (member_alike p q same s n)

type_seen : (p : Program) (o : Option Member) → option_map (λ (m : Member). shape p.graph.nodes m.ty.of.0) o ≡ option_map (λ (m : SeenMember). m.type) (option_map (seen_member p) o)
type_seen p None = refl
type_seen p (Some m) = refl

pub type_alike : (p q : Program) → Alike p q → (s : Shape) (n : ℕ) → member_type p.graph s n ≡ member_type q.graph s n
type_alike p q same s n = type_seen p (member_at p.graph s n) ∙ ap (option_map (λ (m : SeenMember). m.type)) (member_alike p q same s n) ∙ sym (type_seen q (member_at q.graph s n))

-- kinds and completeness

pub enum_alike : (p q : Program) → Alike p q → (a : ℕ) → names_enum p.graph a ≡ names_enum q.graph a
enum_alike p q same a = through (seen_aggregate p) (seen_aggregate q) (λ (x : SeenAggregate). is_enum x.kind) false (slice_get p.graph.aggs a) (slice_get q.graph.aggs a) (same a)

pub scalar_alike : (p q : Program) → Alike p q → (s : Shape) → is_scalar p.graph s ≡ is_scalar q.graph s
scalar_alike p q same (AggType a) = enum_alike p q same a
scalar_alike p q same VoidType = refl
scalar_alike p q same (IntType k) = refl
scalar_alike p q same (PtrType r s) = refl
scalar_alike p q same (ArrayType r s bound) = refl
scalar_alike p q same (FuncType r ps pr v) = refl

pub some_mapped : {A B : Type 0} (f : A → B) (o : Option A) → is_some o ≡ is_some (option_map f o)
some_mapped f None = refl
some_mapped f (Some x) = refl

abbrev complete_in : Program → Option Aggregate → Bool
complete_in p o = elim o as (λ _. Bool) [ None ↦ false | Some x ↦ is_some (seen_aggregate p x).members ]

members_seen : (p : Program) (a : ℕ) → is_some (members_of p.graph.aggs a) ≡ complete_in p (slice_get p.graph.aggs a)
members_seen p a = by (slice_get p.graph.aggs a)
  where
    by : (o : Option Aggregate) → is_some (option_and_then (λ (x : Aggregate). x.members) o) ≡ complete_in p o
    by None = refl
    by (Some x) = some_mapped (map (seen_member p)) x.members

pub complete_alike : (p q : Program) → Alike p q → (s : Shape) → complete_shape p.graph.aggs s ≡ complete_shape q.graph.aggs s
complete_alike p q same (AggType a) = members_seen p a ∙ through (seen_aggregate p) (seen_aggregate q) (λ (x : SeenAggregate). is_some x.members) false (slice_get p.graph.aggs a) (slice_get q.graph.aggs a) (same a) ∙ sym (members_seen q a)
complete_alike p q same VoidType = refl
complete_alike p q same (IntType k) = refl
complete_alike p q same (PtrType r s) = refl
complete_alike p q same (ArrayType r s None) = refl
complete_alike p q same (ArrayType r s (Some n)) = complete_alike p q same s
complete_alike p q same (FuncType r ps pr v) = refl

pub global_name_alike : (p q : Program) → p.globals ≡ q.globals → (n : ℕ) → global_name p n ≡ global_name q n
global_name_alike p q same n = ap (λ (xs : List GlobalDecl). elim (slice_get xs n) as (λ _. List ℕ) [ None ↦ [] | Some x ↦ x.name ]) same

pub global_type_alike : (p q : Program) → p.globals ≡ q.globals → (n : ℕ) → global_type p n ≡ global_type q n
global_type_alike p q same n = ap (λ (xs : List GlobalDecl). option_and_then (λ (x : GlobalDecl). x.type) (slice_get xs n)) same
