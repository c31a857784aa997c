-- Device: why units are refused, from what linking and classes answer.
use Rattle.std.proofs.Common.{◌≡◌, ℕ, ◌<◌, Bool, List, [], ◌∷◌, zero, suc, Option, Some, None, map, length, get_or, slice_get, refl, sym, ap, ◌∙◌, subst, arith}
use Rattle.std.specs.Option.{option_map}
use Rattle.std.proofs.lemmas.Option.{slice_get-map}
use Rattle.cil_base.specs.declared.numbers.NameId.{NameId}
use Rattle.cil_base.specs.declared.faults.Place.{Place}
use Rattle.cil_base.specs.declared.faults.Refusal.{Refusal}
use Rattle.cil_base.specs.declared.faults.Stop.{Stop}
use Rattle.cil_base.specs.declared.faults.Stop.TheVariants.{Refused, Memory}
use Rattle.link_names.specs.declared.names.LinkedName.{LinkedName}
use Rattle.link_names.specs.declared.names.LinkedSite.{LinkedSite}
use Rattle.link_names.specs.declared.names.Links.{Links}
use Rattle.link_names.specs.declared.units.Fronted.{Fronted}
use Rattle.link_names.specs.Linking.{Linked, declared_from, grouped, first_twice, duplicate_of, party_of}
use Rattle.link_names.specs.Linked.{AreLinks, IsDuplicate}
use Rattle.link_names.specs.Grouping.{linked_of, group_of}
use Rattle.type_graph.specs.Arena.{Graph}
use Rattle.type_iso.specs.declared.class_table.Classes.{Classes}
use Rattle.type_iso.specs.declared.merging.ClassStop.{ClassStop}
use Rattle.type_iso.specs.declared.merging.ClassStop.TheVariants as classes
use Rattle.type_links.specs.declared.parties.Group.{Group}
use Rattle.type_iso.specs.Classes.{AreClasses, IsRefused}
use Rattle.cil_tree.specs.declared.globals.CilUnit.{CilUnit}
use Rattle.cil_merge.specs.Merged.{IsNamedAndJoined, IsMerged}
use Rattle.cil_merge.specs.Merging.{AreSites, IsSiteOf, IsLinkRefusal, IsClash, Correspond, IsRefusal, IsMergeRefusal, graphs_of}
use Rattle.cil_merge.specs.Refusing.{IsLinkStop}

module _ (pool : List (List ℕ)) (gs : List Graph) where
  duplicate_only : (o : Option (Place × Place)) (ls : List Linked) (r : Refusal) → option_map duplicate_of o ≡ Some r → IsRefusal o pool gs ls r
  duplicate_only None ls r e = cc
  duplicate_only (Some places) ls r e = cc

  -- what linking refuses
  pub duplicate_refused : (common : Bool) (ls : List Linked) (stop : Stop) → IsDuplicate ls common stop → IsMergeRefusal common pool gs ls stop
  duplicate_refused common ls (Refused r) e = duplicate_only (first_twice common ls) ls r e
  duplicate_refused common ls Memory e = tt

  clash_only : (o : Option (Place × Place)) (ls : List Linked) (r : Refusal) → o ≡ None → IsClash pool gs ls r → IsRefusal o pool gs ls r
  clash_only None ls r e h = h
  clash_only (Some places) ls r e h = cc

-- what classes refuse, once no name is defined twice
pub clash_refused : (pool : List (List ℕ)) (gs : List Graph) (common : Bool) (ls : List Linked) (links : Links) (names : List LinkedName) (groups : List Group) (why : ClassStop) (stop : Stop) → AreLinks ls common links → names ≡ links.names.items → groups ≡ links.groups.items
    → IsRefused pool gs groups why → IsLinkStop (map linked_of names) why stop → IsMergeRefusal common pool gs ls stop
clash_refused pool gs common ls links names groups (classes.Clash group earlier later left right) Memory are n g fails refused = tt
clash_refused pool gs common ls links names groups classes.Memory stop are n g fails refused = subst (IsMergeRefusal common pool gs ls) (sym refused) tt
clash_refused pool gs common ls links names groups (classes.Clash group earlier later left right) (Refused r) are n g fails refused = clash_only pool gs (first_twice common ls) ls r are.once (record {
  name = group;
  earlier = earlier;
  later = later;
  pair = fails.0;
  groups = groups;
  groups_are = ap (map group_of) g ∙ are.groups;
  fails = fails.1;
  refused = subst (λ (ks : List Linked). IsLinkRefusal ks group earlier later r) (ap (map linked_of) n ∙ are.names) refused;
})

-- units that have classes correspond
pub links_correspond : (pool : List (List ℕ)) (common : Bool) (units fs gs : List Fronted) (links : Links) (c : Classes) → fs ≡ units → gs ≡ units → AreLinks (grouped (declared_from 0 fs)) common links → AreClasses pool (graphs_of gs) links.groups.items c
    → Correspond pool (graphs_of units) (grouped (declared_from 0 units))
links_correspond pool common units fs gs links c same also are classed = subst (λ (us : List Fronted). Correspond pool (graphs_of us) (grouped (declared_from 0 units))) also (record {
  groups = links.groups.items;
  groups_are = are.groups ∙ ap (λ (us : List Fronted). map (λ (l : Linked). map party_of l.1) (grouped (declared_from 0 us))) same;
  joint = classed.joint;
})

name_at : (names : List LinkedName) (g : ℕ) (d : LinkedName) → g < length names → slice_get names g ≡ Some (get_or names g d)
name_at [] g d h = absurd (omega arith)
name_at (n ∷ names) zero d h = refl
name_at (n ∷ names) (suc g) d h = name_at names g d (omega arith)

pub sites_of : (names : List LinkedName) (g : ℕ) (d : LinkedName) (ss : List LinkedSite) → g < length names → ss ≡ (get_or names g d).sites.items → AreSites (map linked_of names) g ss
sites_of names g d ss h f = record {
  linked = linked_of (get_or names g d);
  linked_is = slice_get-map linked_of names g ∙ ap (option_map linked_of) (name_at names g d h);
  sites_are = sym f;
}

pub site_found : (ls : List Linked) (g p : ℕ) (ss : List LinkedSite) (s : LinkedSite) → AreSites ls g ss → slice_get ss p ≡ Some s → IsSiteOf ls g p s.site.first
site_found ls g p ss s h e = record { sites = ss; site = s; among = h; site_is = e; place_is = refl }

names_are : (ns : List LinkedName) → map (λ n. n.name) ns ≡ map (λ (l : Linked). l.0) (map linked_of ns)
names_are [] = refl
names_are (n ∷ ns) = ap (λ (ms : List NameId). n.name ∷ ms) (names_are ns)

-- the external names are those that are linked
pub merged_is : (names pool : List (List ℕ)) (common : Bool) (units fs gs : List Fronted) (links : Links) (c : Classes) (p : CilUnit) → fs ≡ units → gs ≡ units → AreLinks (grouped (declared_from 0 fs)) common links → AreClasses names (graphs_of gs) links.groups.items c
    → IsNamedAndJoined (map (λ l. l.name) links.names.items) pool c units p → IsMerged common names pool units p
merged_is names pool common units fs gs links c p same also are classed named = record {
  links = links;
  classes = c;
  are_links = all;
  are_classes = subst (λ (us : List Fronted). AreClasses names (graphs_of us) links.groups.items c) also classed;
  program_is = subst (λ (ns : List NameId). IsNamedAndJoined ns pool c units p) (names_are links.names.items ∙ ap (map (λ (l : Linked). l.0)) all.names) named;
}
  where
    all : AreLinks (grouped (declared_from 0 units)) common links
    all = subst (λ (us : List Fronted). AreLinks (grouped (declared_from 0 us)) common links) same are
