-- Definition: the external names of a translation unit (C11 6.2.2p2, 6.9): which of its globals have them, and their sites.
use Rattle.std.specs.Prelude.{◌≡◌, ◌&&◌, ◌++◌, ℕ, suc, not, nat_eq, nat_lt, if◌then◌else◌, Bool, true, List, [], ◌∷◌, map, drop}
use Rattle.std.specs.List.{IsDistinct}
use Rattle.cil_tree.specs.declared.globals.GlobalDecl.{GlobalDecl}
use Rattle.link_names.specs.declared.units.Fronted.{Fronted}
use Rattle.link_names.specs.declared.units.Site.{Site}

-- the place of a site's global
abbrev pub number : Site → ℕ
number s = s.entity.0

-- the token at which a site's name is first declared
abbrev pub token : Site → ℕ
token s = s.first.token

-- the places of external globals, from a number on
abbrev pub external_places : ℕ → List GlobalDecl → List ℕ
external_places n [] = []
external_places n (x ∷ xs) = if x.internal then external_places (suc n) xs else n ∷ external_places (suc n) xs

-- their names
abbrev pub external_names : List GlobalDecl → List ℕ
external_names [] = []
external_names (x ∷ xs) = if x.internal then external_names xs else x.name.0 ∷ external_names xs

-- no number is below the one before it, the first not below another
abbrev pub rise_from : ℕ → List ℕ → Bool
rise_from m [] = true
rise_from m (n ∷ ns) = not (nat_lt n m) && rise_from n ns

-- sites are those of the external globals before a number, and the rest follows
abbrev pub ListsTo : List GlobalDecl → ℕ → List Site → Type 0
ListsTo xs i sites = map number sites ++ external_places i (drop i xs) ≡ external_places 0 xs

-- the same of their names
abbrev pub NamesTo : List GlobalDecl → ℕ → List ℕ → Type 0
NamesTo xs i names = names ++ external_names (drop i xs) ≡ external_names xs

-- each external name stands once among the globals, and the sites are those of the external globals, in the order of their first declarations
pub record HasExternals (u : Fronted) : Type 0 where
  pub once : IsDistinct nat_eq (external_names u.cil.globals.items)
  pub listed : map number u.sites.items ≡ external_places 0 u.cil.globals.items
  pub ordered : rise_from 0 (map token u.sites.items) ≡ true
