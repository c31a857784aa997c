-- Device: the declarations of each name together, as they are put there one by one.
use Rattle.std.specs.Prelude.{◌≡◌, ℕ, zero, suc, List, [], ◌∷◌, ◌++◌, map, if◌then◌else◌}
use Rattle.cil_base.specs.declared.numbers.NameId.{NameId}
use Rattle.link_names.specs.declared.names.LinkedSite.{LinkedSite}
use Rattle.link_names.specs.declared.names.LinkedName.{LinkedName}
use Rattle.type_links.specs.declared.parties.Party.{Party}
use Rattle.type_links.specs.declared.parties.Group.{Group}
use Rattle.link_names.specs.declared.grouping.Finding.{Finding}
use Rattle.link_names.specs.Linking.{Declared, Linked, same_name}

abbrev pub group_of : Group → List Party
group_of g = g.parties.items

abbrev pub linked_of : LinkedName → Linked
linked_of n = (n.name, n.sites.items)

abbrev pub found : Finding → List Linked
found f = map linked_of f.names.items

abbrev pub names_in : List Linked → List NameId
names_in ls = map (λ l. l.0) ls

-- the places by the names are those of the names that are found
abbrev pub InStep : Finding → Type 0
InStep f = f.numbers.keys ≡ names_in (found f)

abbrev pub with_site : Linked → LinkedSite → Linked
with_site l s = (l.0, l.1 ++ s ∷ [])

abbrev pub sites_at : ℕ → LinkedSite → List Linked → List Linked
sites_at i s [] = []
sites_at zero s (l ∷ ls) = with_site l s ∷ ls
sites_at (suc i) s (l ∷ ls) = l ∷ sites_at i s ls

abbrev pub added : List Linked → Declared → List Linked
added [] d = (d.0, d.1 ∷ []) ∷ []
added (l ∷ ls) d = if same_name d.0 l.0 then with_site l d.1 ∷ ls else l ∷ added ls d

abbrev pub added_all : List Linked → List Declared → List Linked
added_all ls [] = ls
added_all ls (d ∷ ds) = added_all (added ls d) ds
