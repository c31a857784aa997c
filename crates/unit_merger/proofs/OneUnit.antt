-- Device: one unit alone has no links, so that it is refused for none.
use Rattle.std.proofs.Common.{◌≡◌, ℕ, zero, suc, ◌+◌, ◌≤◌, Bool, true, false, cond, List, [], ◌∷◌, ◌++◌, map, length, filter, Option, Some, None, slice_get, nat_eq, refl, sym, ap, subst, ◌∙◌, append-nil, arith}
use Rattle.std.specs.List.{IsDistinct, AllByRecursion, filter_map, cons_option}
use Rattle.std.proofs.lemmas.Option.{same_Some}
use Rattle.std.proofs.lemmas.Bool.{eqb-true}
use Rattle.cil_base.specs.declared.numbers.NameId.{NameId}
use Rattle.cil_base.specs.declared.numbers.UnitNo.{UnitNo}
use Rattle.cil_base.specs.declared.faults.Place.{Place}
use Rattle.cil_base.specs.declared.faults.Refusal.{Refusal}
use Rattle.cil_base.specs.declared.faults.Stop.{Stop}
use Rattle.cil_base.specs.declared.faults.Stop.TheVariants as stops
use Rattle.c_lexer.specs.Lexed.{Lexed, IfRefused}
use Rattle.cil_tree.specs.declared.globals.GlobalDecl.{GlobalDecl}
use Rattle.type_graph.specs.Arena.{Graph}
use Rattle.link_names.specs.declared.units.Site.{Site}
use Rattle.link_names.specs.declared.units.Fronted.{Fronted}
use Rattle.link_names.specs.declared.names.LinkedSite.{LinkedSite}
use Rattle.link_names.specs.Linking.{Declared, Linked, same_name, declared_at, declared_in, declared_from, once_each, said_of, strong, first_two, first_twice}
use Rattle.unit_lower.specs.Externals.{HasExternals, number, external_places, external_names}
use Rattle.cil_merge.specs.Merging.{IsSiteOf, IsClash, IsRefusal, IsMergeRefusal}
use Rattle.unit_merger.specs.Linking.{names_in}
use Rattle.unit_merger.specs.Units.{IsUnitCause}
use Rattle.unit_merger.proofs.InOrder.{stopped}

abbrev numbers : List Declared → List ℕ
numbers ds = map (λ d. d.0.0) ds

-- the names that a unit declares are those of its external globals

declared_there : (u : UnitNo) (globals : List GlobalDecl) (s : Site) (x : GlobalDecl) (ds : List Declared) → slice_get globals s.entity.0 ≡ Some x → numbers (declared_at u globals s ++ ds) ≡ x.name.0 ∷ numbers ds
declared_there u globals s x ds is =
    ap (λ (o : Option GlobalDecl). numbers ((elim o [ None ↦ [] | Some g ↦ (g.name, record { unit = u; ty = g.ty; site = s }) ∷ [] ]) ++ ds)) is

declared_names : (u : UnitNo) (globals xs : List GlobalDecl) (n : ℕ) (sites : List Site) → ((i : ℕ) (g : GlobalDecl) → slice_get xs i ≡ Some g → slice_get globals (n + i) ≡ Some g) → map number sites ≡ external_places n xs
    → numbers (declared_in u globals sites) ≡ external_names xs
declared_names u globals [] n [] stand are = refl
declared_names u globals [] n (s ∷ sites) stand are = cc
declared_names u globals (x ∷ xs) n sites stand are = by (λ ss same. declared_names u globals xs (suc n) ss (λ i g is. later i g is) same) x.internal sites are
  where
    later : (i : ℕ) (g : GlobalDecl) → slice_get xs i ≡ Some g → slice_get globals (suc n + i) ≡ Some g
    later i g is =
        let same : n + suc i ≡ suc n + i = omega arith in
        subst (λ k. slice_get globals k ≡ Some g) same (stand (suc i) g is)

    here : slice_get globals n ≡ Some x
    here =
        let same : n + 0 ≡ n = omega arith in
        subst (λ k. slice_get globals k ≡ Some x) same (stand 0 x refl)

    by : ((ss : List Site) → map number ss ≡ external_places (suc n) xs → numbers (declared_in u globals ss) ≡ external_names xs)
        → (b : Bool) (ss : List Site) → map number ss ≡ cond b (external_places (suc n) xs) (n ∷ external_places (suc n) xs) → numbers (declared_in u globals ss) ≡ cond b (external_names xs) (x.name.0 ∷ external_names xs)
    by more true ss same = more ss same
    by more false [] same = cc
    by more false (s ∷ ss) same =
        let first : number s ≡ n = cc in
        let rest : map number ss ≡ external_places (suc n) xs = cc in
        declared_there u globals s x (declared_in u globals ss) (ap (slice_get globals) first ∙ here) ∙ ap (λ ns. x.name.0 ∷ ns) (more ss rest)

-- of distinct names each is declared once at most

none_said : (n : NameId) (ds : List Declared) → AllByRecursion (λ m. nat_eq n.0 m ≡ false) (numbers ds) → filter (λ d. same_name n d.0) ds ≡ []
none_said n [] other = refl
none_said n (d ∷ ds) other = ap (λ b. cond b (d ∷ filter (λ e. same_name n e.0) ds) (filter (λ e. same_name n e.0) ds)) other.0 ∙ none_said n ds other.1

said_once : (n : NameId) (ds : List Declared) → IsDistinct nat_eq (numbers ds) → length (filter (λ d. same_name n d.0) ds) ≤ 1
unfolding IsDistinct
said_once n [] distinct = omega arith
said_once n (d ∷ ds) distinct = by (said_once n ds distinct.1) (same_name n d.0) refl
  where
    others : same_name n d.0 ≡ true → AllByRecursion (λ m. nat_eq n.0 m ≡ false) (numbers ds)
    others is = subst (λ k. AllByRecursion (λ m. nat_eq k m ≡ false) (numbers ds)) (sym (eqb-true n.0 d.0.0 is)) distinct.0

    by : length (filter (λ e. same_name n e.0) ds) ≤ 1 → (b : Bool) → same_name n d.0 ≡ b → length (cond b (d ∷ filter (λ e. same_name n e.0) ds) (filter (λ e. same_name n e.0) ds)) ≤ 1
    by rest true is = omega (arith, ap length (none_said n ds (others is)))
    by rest false is = rest

length_map : {X Y : Type 0} (f : X → Y) (xs : List X) → length (map f xs) ≡ length xs
length_map f [] = refl
length_map f (x ∷ xs) = ap suc (length_map f xs)

said_few : (ds : List Declared) (ns : List NameId) → IsDistinct nat_eq (numbers ds) → AllByRecursion (λ (l : Linked). length l.1 ≤ 1) (map (λ n. (n, said_of ds n)) ns)
said_few ds [] distinct = tt
said_few ds (n ∷ ns) distinct =
    (subst (λ k. k ≤ 1) (sym (length_map (λ (d : Declared). d.1) (filter (λ d. same_name n d.0) ds))) (said_once n ds distinct), said_few ds ns distinct)

abbrev AreFew : List Linked → Type 0
AreFew ls = AllByRecursion (λ (l : Linked). length l.1 ≤ 1) ls

few_in_one : (f : Fronted) → HasExternals f → AreFew (names_in (f ∷ []))
few_in_one f has =
    let names : numbers (declared_in (record { 0 = 0 }) f.cil.globals.items f.sites.items) ≡ external_names f.cil.globals.items = declared_names (record { 0 = 0 }) f.cil.globals.items f.cil.globals.items 0 f.sites.items (λ i g is. (let same : i ≡ 0 + i = omega arith in subst (λ k. slice_get f.cil.globals.items k ≡ Some g) same is)) has.listed in
    let all : numbers (declared_from 0 (f ∷ [])) ≡ external_names f.cil.globals.items = ap numbers (append-nil (declared_in (record { 0 = 0 }) f.cil.globals.items f.sites.items)) ∙ names in
    said_few (declared_from 0 (f ∷ [])) (once_each (map (λ d. d.0) (declared_from 0 (f ∷ [])))) (subst (IsDistinct nat_eq) (sym all) has.once)

-- so that none is defined twice

one_definition : (common : Bool) (ss : List LinkedSite) → length ss ≤ 1 → first_two (filter_map (λ (s : LinkedSite). strong common s.site) ss) ≡ None
one_definition common [] few = refl
one_definition common (s ∷ []) few = by (strong common s.site)
  where
    by : (o : Option Place) → first_two (cons_option o []) ≡ None
    by None = refl
    by (Some p) = refl
one_definition common (s ∷ t ∷ ss) few = absurd (omega (arith, few))

none_twice : (common : Bool) (ls : List Linked) → AreFew ls → first_twice common ls ≡ None
none_twice common [] few = refl
none_twice common (l ∷ ls) few = ap (λ (o : Option (Place × Place)). elim o [ None ↦ first_twice common ls | Some places ↦ Some places ]) (one_definition common l.1 few.0) ∙ none_twice common ls few.1

-- and none is declared in two units

few_at : (ls : List Linked) (i : ℕ) (l : Linked) → AreFew ls → slice_get ls i ≡ Some l → length l.1 ≤ 1
few_at [] zero l few is = cc
few_at [] (suc i) l few is = cc
few_at (k ∷ ls) zero l few is = subst (λ (m : Linked). length m.1 ≤ 1) (same_Some k l is) few.0
few_at (k ∷ ls) (suc i) l few is = few_at ls i l few.1 is

within_few : {X : Type 0} (xs : List X) (i : ℕ) (x : X) → length xs ≤ 1 → slice_get xs i ≡ Some x → i ≡ 0
within_few [] zero x few is = refl
within_few [] (suc i) x few is = cc
within_few (y ∷ xs) zero x few is = refl
within_few (y ∷ []) (suc zero) x few is = cc
within_few (y ∷ []) (suc (suc i)) x few is = cc
within_few (y ∷ z ∷ xs) (suc i) x few is = absurd (omega (arith, few))

first_of_few : (ls : List Linked) (name unit : ℕ) (place : Place) → AreFew ls → IsSiteOf ls name unit place → unit ≡ 0
first_of_few ls name unit place few at =
    within_few at.sites unit at.site (subst (λ (ss : List LinkedSite). length ss ≤ 1) at.among.sites_are (few_at ls name at.among.linked few at.among.linked_is)) at.site_is

no_clash : (names : List (List ℕ)) (gs : List Graph) (ls : List Linked) (refusal : Refusal) → AreFew ls → IsClash names gs ls refusal → ⊥
no_clash names gs ls refusal few clash =
    let first : clash.later ≡ 0 = first_of_few ls clash.name clash.later refusal.at few clash.refused.at_is in
    omega (arith, first, clash.fails.order)

none_refused : (o : Option (Place × Place)) (names : List (List ℕ)) (gs : List Graph) (ls : List Linked) (refusal : Refusal) → o ≡ None → AreFew ls → IsRefusal o names gs ls refusal → ⊥
none_refused o names gs ls refusal none few is = no_clash names gs ls refusal few (subst (λ p. IsRefusal p names gs ls refusal) none is)

one_unit_links : (common : Bool) (names : List (List ℕ)) (gs : List Graph) (fs : List Fronted) (f : Fronted) (refusal : Refusal) → fs ≡ f ∷ [] → HasExternals f → IsRefusal (first_twice common (names_in fs)) names gs (names_in fs) refusal → ⊥
one_unit_links common names gs fs f refusal one has is =
    let few : AreFew (names_in fs) = subst (λ (us : List Fronted). AreFew (names_in us)) (sym one) (few_in_one f has) in
    none_refused (first_twice common (names_in fs)) names gs (names_in fs) refusal (none_twice common (names_in fs) few) few is

pub never_refused : (A : Type 0) (stop : Stop) (t : Lexed) (before : List (List ℕ)) (common : Bool) (names : List (List ℕ)) (gs : List Graph) (fs : List Fronted) (f : Fronted) → fs ≡ f ∷ [] → HasExternals f → IsMergeRefusal common names gs (names_in fs) stop
    → IfRefused (stopped A stop) (IsUnitCause t before)
never_refused A (stops.Refused refusal) t before common names gs fs f one has is = absurd (one_unit_links common names gs fs f refusal one has is)
never_refused A stops.Memory t before common names gs fs f one has is = tt
