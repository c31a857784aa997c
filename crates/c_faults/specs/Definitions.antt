-- Definition: external names that several units define (C11 6.9p5), under a mode.
use Rattle.std.specs.Prelude.{ℕ, Bool, true, false, List, [], ◌∷◌, ◌++◌, Option, Some, None}
use Rattle.std.specs.Option.{option_and_then}
use Rattle.cil_base.specs.declared.faults.Fault.TheVariants.{Duplicate}
use Rattle.cil_base.specs.declared.faults.Place.{Place}
use Rattle.cil_base.specs.declared.faults.Refusal.{Refusal}
use Rattle.cil_base.specs.declared.numbers.NameId.{NameId}
use Rattle.c_lexer.specs.Lexed.{Lexed, place_at}
use Rattle.c_rules.specs.Types.{same_name}
use Rattle.c_typing.specs.Scopes.{Linkage, External, Internal, NoLinkage, Entity}
use Rattle.c_faults.specs.Reading.{Read}

-- what a unit says of an external name: the place of its strong definition, if it has one
pub record Said : Type 0 where
  pub name : NameId
  pub strong : Option Place

-- a tentative definition that the unit made a definition (6.9.2p2) is weak where they are common (J.5.11)
abbrev pub tentative_token : Bool → Option ℕ → Option ℕ
tentative_token true at = None
tentative_token false at = at

abbrev pub definition_token : Bool → Entity → Option ℕ
definition_token common e = elim e.defined [ Some at ↦ Some at | None ↦ tentative_token common e.tentative ]

abbrev pub said_of : Bool → Lexed → Linkage → Option NameId → Entity → List Said
said_of common t External (Some x) e = record { name = x; strong = option_and_then (place_at t) (definition_token common e) } ∷ []
said_of common t External None e = []
said_of common t Internal name e = []
said_of common t NoLinkage name e = []

abbrev pub said_by : Bool → Lexed → List Entity → List Said
said_by common t [] = []
said_by common t (e ∷ es) = said_of common t e.linkage e.name e ++ said_by common t es

-- what units say, in order
abbrev pub said_in : Bool → List Read → List Said
said_in common [] = []
said_in common (r ∷ rs) = said_by common r.tokens r.env.entities ++ said_in common rs

-- the places of the strong definitions of a name
abbrev pub strong_one : Option Place → List Place → List Place
strong_one None more = more
strong_one (Some place) more = place ∷ more

abbrev pub strong_places : NameId → List Said → List Place
strong_places x [] = []
strong_places x (s ∷ ss) = elim (same_name x s.name) [ true ↦ strong_one s.strong (strong_places x ss) | false ↦ strong_places x ss ]

abbrev pub first_two : List Place → Option (Place × Place)
first_two [] = None
first_two (p ∷ []) = None
first_two (p ∷ q ∷ more) = Some (p, q)

-- the first two strong definitions of the name that appears first of those that have two
abbrev pub twice_among : List Said → List Said → Option (Place × Place)
twice_among all [] = None
twice_among all (s ∷ ss) = elim (first_two (strong_places s.name all)) [ Some places ↦ Some places | None ↦ twice_among all ss ]

abbrev pub first_twice : Bool → List Read → Option (Place × Place)
first_twice common reads = twice_among (said_in common reads) (said_in common reads)

-- two definitions are refused at the second, with the first beside it (own)
abbrev pub duplicate : Place × Place → Refusal
duplicate places = record { fault = Duplicate; at = places.1; other = Some places.0 }
