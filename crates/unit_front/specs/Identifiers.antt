-- Definition: where a translation unit declares and defines the external names of its program: at identifiers (C11 6.2.2, 6.4.2).
use Rattle.std.specs.Prelude.{◌≡◌, ℕ, List, length, Some, IfSome, slice_get}
use Rattle.cil_base.specs.declared.numbers.NameId.{NameId}
use Rattle.cil_base.specs.declared.tokens.Token.{Token}
use Rattle.cil_base.specs.declared.tokens.TokenKind.TheVariants.{Name}
use Rattle.cil_base.specs.declared.faults.Place.{Place}
use Rattle.cil_base.specs.NamePool.{Stays}
use Rattle.cil_tree.specs.declared.globals.GlobalDecl.{GlobalDecl}
use Rattle.c_lexer.specs.Lexed.{Lexed, PlacesWithin, token_at, place_at}
use Rattle.link_names.specs.declared.units.Site.{Site}
use Rattle.link_names.specs.declared.units.Fronted.{Fronted}
use Rattle.unit_front.specs.Refusals.{Source, HasTokens}

-- a token of the unit is the identifier, and stands at the place
pub record IsIdentifier (t : Lexed) (name : NameId) (place : Place) : Type 0 where
  pub token : Token
  pub token_is : token_at t place.token ≡ Some token
  pub kind : token.kind ≡ Name name
  pub at : place_at t place.token ≡ Some place

-- an external name is declared first, and defined where it is, at identifiers of its name
pub record IsDeclared (t : Lexed) (globals : List GlobalDecl) (s : Site) : Type 0 where
  pub global : GlobalDecl
  pub global_is : slice_get globals s.entity.0 ≡ Some global
  pub first : IsIdentifier t global.name s.first
  pub defined : IfSome s.defined (IsIdentifier t global.name)

-- so is each external name of a program
abbrev pub AreDeclared : Lexed → Fronted → Type 0
AreDeclared t f = (i : ℕ) (s : Site) → slice_get f.sites.items i ≡ Some s → IsDeclared t f.cil.globals.items s

-- the external names of a program are declared in the unit; the names of the unit's tokens, among which are the files of their places, stay in the pool
pub record DeclaresIn (s : Source) (pool : List (List ℕ)) (f : Fronted) : Type 0 where
  pub tokens : Lexed
  pub are : HasTokens s tokens
  pub within : PlacesWithin (length are.names) tokens
  pub stays : Stays are.names pool
  pub declared : AreDeclared tokens f
