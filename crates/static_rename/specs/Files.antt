-- Definition: the names that units get at file scope which become one program (C11 6.2.1, 6.2.2; the order is own).
use Rattle.std.specs.Prelude.{◌≡◌, ℕ, zero, suc, Bool, false, ◌&&◌, not, nat_eq, if◌then◌else◌, List, [], ◌∷◌, ◌++◌, Some, None, map, filter, slice_get, slice_index_or}
use Rattle.std.specs.List.{list_any}
use Rattle.cil_base.specs.declared.names.Bases.{Bases}
use Rattle.cil_base.specs.declared.numbers.AggId.{AggId}
use Rattle.cil_base.specs.declared.numbers.EntityId.{EntityId}
use Rattle.cil_base.specs.declared.numbers.NameId.{NameId}
use Rattle.cil_base.specs.HostNames.{host_names}
use Rattle.type_graph.specs.declared.aggregates.Aggregate.{Aggregate}
use Rattle.type_graph.specs.declared.aggregates.Member.{Member}
use Rattle.cil_tree.specs.declared.globals.GlobalDecl.{GlobalDecl}
use Rattle.typed_tree.specs.declared.units.Ordinary.{Ordinary}
use Rattle.typed_tree.specs.declared.units.Ordinary.TheVariants.{Static, Enumerator}
use Rattle.link_names.specs.declared.units.Fronted.{Fronted}
use Rattle.fresh_names.specs.declared.fresh.Wish.{Wish}
use Rattle.fresh_names.specs.declared.fresh.Wish.TheVariants.{Asked}
use Rattle.fresh_names.specs.Naming.{with_names, wish_of}

-- the texts of names
abbrev pub HaveTexts : List (List ℕ) → List NameId → List (List ℕ) → Type 0
HaveTexts pool [] [] = Unit {0}
HaveTexts pool [] (t ∷ ts) = ⊥
HaveTexts pool (n ∷ ns) [] = ⊥
HaveTexts pool (n ∷ ns) (t ∷ ts) = (slice_get pool n.0 ≡ Some t) × HaveTexts pool ns ts

-- the names that stay: external ones, and those of the host's functions
pub record AreKept (externals : List NameId) (pool : List (List ℕ)) (taken : List NameId) : Type 0 where
  pub hosts : List NameId
  pub texts : HaveTexts pool hosts host_names
  pub taken_are : taken ≡ with_names (with_names [] externals) hosts

-- an object or function is internal
abbrev pub is_internal : List GlobalDecl → EntityId → Bool
is_internal gs e = elim (slice_get gs e.0) [ None ↦ false | Some g ↦ g.internal ]

-- an object or function with internal linkage is named; an enumerator where its enum is the one that stands for its class
abbrev pub is_named : List Bool → List GlobalDecl → Ordinary → Bool
is_named stands gs (Static e) = is_internal gs e
is_named stands gs (Enumerator a i) = slice_index_or stands a.0 false

abbrev pub is_object : EntityId → Ordinary → Bool
is_object e (Static d) = nat_eq e.0 d.0
is_object e (Enumerator a i) = false

-- an object or function has internal linkage
abbrev pub has_linkage : List Ordinary → EntityId → Bool
has_linkage ordinary e = list_any (is_object e) ordinary

-- an object without linkage: one declared in a block, or a literal
abbrev pub unlinked_at : EntityId → Bool → GlobalDecl → List Ordinary
unlinked_at e linked g = if g.internal && not linked then Static e ∷ [] else []

-- those among globals, the first of which has this number
abbrev pub unlinked_from : ℕ → List Ordinary → List GlobalDecl → List Ordinary
unlinked_from n ordinary [] = []
unlinked_from n ordinary (g ∷ gs) = unlinked_at (record { 0 = n }) (has_linkage ordinary (record { 0 = n })) g ++ unlinked_from (suc n) ordinary gs

-- what gets a name in a unit, in order
abbrev pub named_in : List Bool → Fronted → List Ordinary
named_in stands f = filter (is_named stands f.cil.globals.items) f.ordinary.items ++ unlinked_from 0 f.ordinary.items f.cil.globals.items

-- the same for units, by which of their aggregates stand for their classes
abbrev pub things_in : List (List Bool) → List Fronted → List (List Ordinary)
things_in [] fs = []
things_in (s ∷ stands) [] = []
things_in (s ∷ stands) (f ∷ fs) = named_in s f ∷ things_in stands fs

-- nothing is said of what a thing that is not there asks for
abbrev pub no_wish : Wish
no_wish = Asked (record { 0 = 0 })

-- what an object or function asks for
abbrev pub global_wish : Bases → List GlobalDecl → EntityId → Wish
global_wish bases gs e = elim (slice_get gs e.0) [ None ↦ no_wish | Some g ↦ wish_of bases.literal g.name ]

abbrev pub member_wish : List Member → ℕ → Wish
member_wish ms i = elim (slice_get ms i) [ None ↦ no_wish | Some m ↦ Asked m.name ]

-- what an enumerator asks for
abbrev pub enumerator_wish : List Aggregate → AggId → ℕ → Wish
enumerator_wish xs a i = elim (slice_get xs a.0) [ None ↦ no_wish | Some x ↦ (elim x.members [ None ↦ no_wish | Some ms ↦ member_wish ms i ]) ]

abbrev pub wish_at : Bases → Fronted → Ordinary → Wish
wish_at bases f (Static e) = global_wish bases f.cil.globals.items e
wish_at bases f (Enumerator a i) = enumerator_wish f.cil.graph.aggs a i

-- what is asked for in units, in order
abbrev pub wishes_of : Bases → List (List Bool) → List Fronted → List Wish
wishes_of bases [] fs = []
wishes_of bases (s ∷ stands) [] = []
wishes_of bases (s ∷ stands) (f ∷ fs) = map (wish_at bases f) (named_in s f) ++ wishes_of bases stands fs

-- a global of a place with another name
abbrev pub renamed_at : ℕ → NameId → List GlobalDecl → List GlobalDecl
renamed_at i n [] = []
renamed_at zero n (g ∷ gs) = record g { name = n } ∷ gs
renamed_at (suc i) n (g ∷ gs) = g ∷ renamed_at i n gs

-- the globals of a unit once its things have their names
abbrev pub with_given : List Ordinary → List NameId → List GlobalDecl → List GlobalDecl
with_given [] ns gs = gs
with_given (o ∷ os) [] gs = gs
with_given (Static e ∷ os) (n ∷ ns) gs = with_given os ns (renamed_at e.0 n gs)
with_given (Enumerator a i ∷ os) (n ∷ ns) gs = with_given os ns gs
