-- Device: rows of the definitions of links and of duplicates, worked out by hand from C11 6.2.2p2, 6.9p5 and J.5.11.
use Rattle.std.proofs.Common.{◌≡◌, ℕ, Bool, true, false, List, [], ◌∷◌, Option, Some, None, refl}
use Rattle.cil_base.specs.declared.faults.Place.{Place}
use Rattle.cil_base.specs.declared.numbers.NameId.{NameId}
use Rattle.link_names.specs.declared.names.LinkedSite.{LinkedSite}
use Rattle.link_names.specs.Linking.{Declared, grouped, first_twice}

abbrev name : ℕ → NameId
name n = record { 0 = n }

-- token k of unit u
abbrev place : ℕ → ℕ → Place
place u k = record { unit = record { 0 = u }; token = k; file = record { 0 = 0 }; line = k }

-- what unit u declares at token k, and whether that is a definition, and a tentative one
abbrev site : ℕ → ℕ → Option Place → Bool → LinkedSite
site u k defined tentative = record { unit = record { 0 = u }; ty = record { 0 = 0 }; site = record { entity = record { 0 = k }; first = place u k; defined = defined; tentative = tentative; bare = false } }

abbrev declared : ℕ → ℕ → LinkedSite
declared u k = site u k None false

abbrev defined : ℕ → ℕ → LinkedSite
defined u k = site u k (Some (place u k)) false

abbrev tentative : ℕ → ℕ → LinkedSite
tentative u k = site u k (Some (place u k)) true

-- extern int a, b; int b;   int b, a;   int a;
abbrev three_units : List Declared
three_units = (name 4, declared 0 0) ∷ (name 7, defined 0 1) ∷ (name 7, defined 1 0) ∷ (name 4, defined 1 1) ∷ (name 4, defined 2 0) ∷ []

names_by_first_appearance : grouped three_units ≡ (name 4, declared 0 0 ∷ defined 1 1 ∷ defined 2 0 ∷ []) ∷ (name 7, defined 0 1 ∷ defined 1 0 ∷ []) ∷ []
names_by_first_appearance = refl

-- b is defined twice before a is, and a appears first
the_first_name_counts : first_twice false (grouped three_units) ≡ Some (place 1 1, place 2 0)
the_first_name_counts = refl

-- extern int n;   int n = 1;
one_definition : first_twice false (grouped ((name 0, declared 0 0) ∷ (name 0, defined 1 0) ∷ [])) ≡ None
one_definition = refl

-- int n;   int n = 7;   int n;
abbrev one_value : List Declared
one_value = (name 0, tentative 0 0) ∷ (name 0, defined 1 0) ∷ (name 0, tentative 2 0) ∷ []

tentative_definitions_count : first_twice false (grouped one_value) ≡ Some (place 0 0, place 1 0)
tentative_definitions_count = refl

tentative_definitions_give_way : first_twice true (grouped one_value) ≡ None
tentative_definitions_give_way = refl

-- int n = 1;   int n;   int n = 1;
two_values_under_common : first_twice true (grouped ((name 0, defined 0 0) ∷ (name 0, tentative 1 0) ∷ (name 0, defined 2 0) ∷ [])) ≡ Some (place 0 0, place 2 0)
two_values_under_common = refl
