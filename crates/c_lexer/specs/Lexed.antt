-- Definition: the tokens of a unit as callers see them: each one's text is the source from its start up to its end, and its place the one on which it begins.
use Rattle.std.specs.Prelude.{◌≡◌, ℕ, ◌+◌, ◌-◌, ◌<◌, ◌==◌, List, [], ◌∷◌, length, take, drop, Option, Some, None, slice_get, if◌then◌else◌, Result, Ok, Err}
use Rattle.std.specs.Option.{option_map}
use Rattle.cil_base.specs.declared.numbers.UnitNo.{UnitNo}
use Rattle.cil_base.specs.declared.numbers.NameId.{NameId}
use Rattle.cil_base.specs.declared.tokens.Token.{Token}
use Rattle.cil_base.specs.declared.faults.Fault.{Fault}
use Rattle.cil_base.specs.declared.faults.Fault.TheVariants.{Lexical, Excluded, Limit}
use Rattle.cil_base.specs.declared.faults.Place.{Place}
use Rattle.cil_base.specs.declared.faults.Refusal.{Refusal}
use Rattle.cil_base.specs.declared.faults.Stop.{Stop}
use Rattle.cil_base.specs.declared.faults.Stop.TheVariants.{Refused as IsRefused, Memory as IsMemory}
use Rattle.cil_base.specs.NamePool.{interned_all}
use Rattle.c_lexer.specs.Tokens.{Answer, Whole, Refused}
use Rattle.c_lexer.specs.declared.entries.Entry.{Entry}
use Rattle.c_lexer.specs.declared.entries.Spot.{Spot}

pub record Lexed : Type 0 where
  pub source : List ℕ
  pub unit : UnitNo
  pub entries : List Entry
  pub end : Spot

abbrev pub token_at : Lexed → ℕ → Option Token
token_at t i = option_map (λ (e : Entry). e.token) (slice_get t.entries i)

abbrev pub text_of : List ℕ → Entry → List ℕ
text_of source e = take (e.token.end - e.token.start) (drop e.token.start source)

abbrev pub text_at : Lexed → ℕ → Option (List ℕ)
text_at t i = option_map (text_of t.source) (slice_get t.entries i)

abbrev pub place_of : UnitNo → ℕ → NameId → ℕ → Place
place_of unit token file line = record { unit = unit; token = token; file = file; line = line }

-- the place of a token, or of the unit's end, which counts as one more
abbrev pub place_at : Lexed → ℕ → Option Place
place_at t i = if i == length t.entries then Some (place_of t.unit i t.end.file t.end.line) else option_map (λ (e : Entry). place_of t.unit i e.file e.line) (slice_get t.entries i)

-- the file of each place, also of the unit's end, is one of so many names
abbrev pub PlacesWithin : ℕ → Lexed → Type 0
PlacesWithin count t = (i : ℕ) (place : Place) → place_at t i ≡ Some place → place.file.0 < count

-- the tokens of the source, or the refusal, with the names that the pool has then; nothing where memory is wanting
abbrev pub Gives : Result Lexed Stop → List ℕ → UnitNo → List (List ℕ) → Answer → Type 0
Gives (Ok t) source unit names answer = (answer ≡ Whole t.entries t.end names) × (t.source ≡ source) × (t.unit ≡ unit)
Gives (Err (IsRefused refusal)) source unit names answer = answer ≡ Refused refusal names
Gives (Err IsMemory) source unit names answer = Unit {0}

-- some answer is of the kind, and fits
abbrev pub IfAnswered : (Answer → Type 0) → (Answer → Type 0) → Type 0
IfAnswered Fits IsOne = (answer : Answer) × IsOne answer × Fits answer

-- some texts were asked for in turn
pub record Grows (old new : List (List ℕ)) : Type 0 where
  pub asked : List (List ℕ)
  pub is : new ≡ interned_all old asked

-- the faults that tokens have: the lexical one, what is excluded, and limits
abbrev pub IsTokenFault : Fault → Type 0
IsTokenFault Lexical = Unit {0}
IsTokenFault (Excluded feature) = Unit {0}
IsTokenFault (Limit what) = Unit {0}
IsTokenFault _ = ⊥

-- a refusal that tokens have: with one place, in the unit, whose file is one of so many names
pub record IsTokenRefusal (u : UnitNo) (count : ℕ) (refusal : Refusal) : Type 0 where
  pub fault : IsTokenFault refusal.fault
  pub unit : refusal.at.unit ≡ u
  pub file : refusal.at.file.0 < count
  pub other : refusal.other ≡ None

abbrev pub IfRefused : {A : Type 0} → Result A Stop → (Refusal → Type 0) → Type 0
IfRefused (Ok a) Fits = Unit {0}
IfRefused (Err (IsRefused refusal)) Fits = Fits refusal
IfRefused (Err IsMemory) Fits = Unit {0}

-- how many bytes the tokens have together
abbrev pub bytes_in : List Entry → ℕ
bytes_in [] = 0
bytes_in (e ∷ es) = (e.token.end - e.token.start) + bytes_in es
