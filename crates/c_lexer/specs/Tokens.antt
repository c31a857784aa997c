-- Definition: the tokens of a text that is cut into pieces, their presumed places (C11 6.10.4), and the first of what is refused: a lexical fault, what is excluded, or a long name.
use Rattle.std.specs.Prelude.{◌≡◌, ℕ, suc, ◌+◌, Bool, true, false, not, ◌&&◌, ◌==◌, nat_le, List, [], ◌∷◌, ◌++◌, length, Option, Some, None, if◌then◌else◌}
use Rattle.std.specs.List.{list_any}
use Rattle.std.specs.Str.{bytes_eq}
use Rattle.cil_base.specs.NamePool.{interned}
use Rattle.cil_base.specs.declared.numbers.UnitNo.{UnitNo}
use Rattle.cil_base.specs.declared.numbers.NameId.{NameId}
use Rattle.cil_base.specs.declared.tokens.TokenKind.{TokenKind}
use Rattle.cil_base.specs.declared.tokens.TokenKind.TheVariants.{Name, Keyword, Integer, Character as CharacterToken, Literal, Punctuator}
use Rattle.cil_base.specs.declared.tokens.Punctuator.TheVariants.{LeftBracket, RightBracket, LeftBrace, RightBrace, LeftParen, RightParen, Comma as CommaSign}
use Rattle.cil_base.specs.declared.faults.Refusal.{Refusal}
use Rattle.cil_base.specs.declared.faults.Fault.{Fault}
use Rattle.cil_base.specs.declared.faults.Fault.TheVariants.{Lexical, Excluded, Limit}
use Rattle.cil_base.specs.declared.faults.Feature.TheVariants.{Floating, Prefixed, MultiChar, Universal, Pack as PragmaPack, Attribute as OtherAttribute}
use Rattle.cil_base.specs.declared.faults.What.TheVariants.{NameBytes}
use Rattle.c_lexer.specs.declared.pieces.Kind.{Kind}
use Rattle.c_lexer.specs.declared.pieces.Kind.TheVariants.{Blank, LineEnd, Comment, Directive, Word, Number, Character, Text, Sign as IsSign, Broken}
use Rattle.c_lexer.specs.declared.pieces.Sign.{Sign}
use Rattle.c_lexer.specs.declared.pieces.Sign.TheVariants.{Read, LessColon, ColonGreater, LessPercent, PercentGreater, Hash, TwoHashes, PercentColon, TwoPercentColons}
use Rattle.c_lexer.specs.declared.words.WordMeaning.{WordMeaning}
use Rattle.c_lexer.specs.declared.words.WordMeaning.TheVariants.{Keyword as IsKeyword, Excluded as IsExcluded, Skipped as IsSkipped, Attribute as IsAttribute, Name as IsName}
use Rattle.c_lexer.specs.declared.meaning.Meaning.{Meaning}
use Rattle.c_lexer.specs.declared.meaning.Meaning.TheVariants.{Token as Gives, Name as GivesName, Skipped as GivesNothing, Attribute as Begins, Fault as Faults}
use Rattle.c_lexer.specs.declared.attributes.Attribute.{Attribute}
use Rattle.c_lexer.specs.declared.attributes.Bracket.{Bracket}
use Rattle.c_lexer.specs.declared.attributes.Bracket.TheVariants.{Paren, Square, Brace}
use Rattle.c_lexer.specs.declared.attributes.Part.{Part}
use Rattle.c_lexer.specs.declared.attributes.Part.TheVariants.{Word as AWord, Comma, Opens, Closes, Other, Wrong as NoToken}
use Rattle.c_lexer.specs.declared.attributes.Shape.{Shape}
use Rattle.c_lexer.specs.declared.attributes.Shape.TheVariants.{First, Second, Name as AtName, Behind, Inside, Closed, Last}
use Rattle.c_lexer.specs.declared.attributes.Advance.{Advance}
use Rattle.c_lexer.specs.declared.attributes.Advance.TheVariants.{Wrong, Done, On}
use Rattle.c_lexer.specs.declared.entries.Entry.{Entry}
use Rattle.c_lexer.specs.declared.entries.Spot.{Spot}
use Rattle.c_lexer.specs.Longest.{Piece, Cut}
use Rattle.c_lexer.specs.Words.{first_byte, word_meaning, is_skipped_name}
use Rattle.c_lexer.specs.Constants.{is_integer, is_floating, characters, has_universal}
use Rattle.c_lexer.specs.Lines.{Line, Marker, Pragma, Pack, Bad, line_of, has_line_feed}

-- What a piece is outside attributes. Of two faults of one piece the lexical one comes first, then what is excluded by the features' numbers, then a long name.

unfoldable pub number_meaning : List ℕ → Meaning
number_meaning text = if is_integer text then Gives Integer else (if is_floating text then Faults (Excluded Floating) else Faults Lexical)

abbrev pub meaning_of_word : ℕ → WordMeaning → Meaning
meaning_of_word len (IsKeyword keyword) = Gives (Keyword keyword)
meaning_of_word len (IsExcluded feature) = Faults (Excluded feature)
meaning_of_word len IsSkipped = GivesNothing
meaning_of_word len IsAttribute = Begins
meaning_of_word len IsName = if nat_le len 1024 then GivesName else Faults (Limit NameBytes)

-- a word with a backslash has a universal character name
unfoldable pub meaning_of_text : List ℕ → Meaning
meaning_of_text text = if list_any (λ b. b == 92) text then Faults (Excluded Universal) else meaning_of_word (length text) (word_meaning text)

unfoldable pub character_meaning : List ℕ → Meaning
character_meaning text =
    if characters text == 0 then Faults Lexical
    else (if not (first_byte text == 39) then Faults (Excluded Prefixed)
    else (if not (characters text == 1) then Faults (Excluded MultiChar)
    else (if has_universal false text then Faults (Excluded Universal) else Gives CharacterToken)))

unfoldable pub literal_meaning : List ℕ → Meaning
literal_meaning text =
    if not (first_byte text == 34) then Faults (Excluded Prefixed)
    else (if has_universal false text then Faults (Excluded Universal) else Gives Literal)

-- a digraph is another spelling of its punctuator (6.4.6p3); what only preprocessing has is none
abbrev pub sign_meaning : Sign → Meaning
sign_meaning (Read punctuator) = Gives (Punctuator punctuator)
sign_meaning LessColon = Gives (Punctuator LeftBracket)
sign_meaning ColonGreater = Gives (Punctuator RightBracket)
sign_meaning LessPercent = Gives (Punctuator LeftBrace)
sign_meaning PercentGreater = Gives (Punctuator RightBrace)
sign_meaning Hash = Faults Lexical
sign_meaning TwoHashes = Faults Lexical
sign_meaning PercentColon = Faults Lexical
sign_meaning TwoPercentColons = Faults Lexical

abbrev pub meaning : Kind → List ℕ → Meaning
meaning Blank text = GivesNothing
meaning LineEnd text = GivesNothing
meaning Comment text = GivesNothing
meaning Directive text = GivesNothing
meaning Word text = meaning_of_text text
meaning Number text = number_meaning text
meaning Character text = character_meaning text
meaning Text text = literal_meaning text
meaning (IsSign sign) text = sign_meaning sign
meaning Broken text = Faults Lexical

-- What is known in front of a piece.
pub record Reading : Type 0 where
  pub unit : UnitNo
  pub names : List (List ℕ)
  pub entries : List Entry
  pub spot : Spot
  pub attribute : Option Attribute
  pub brackets : List Bracket

-- what comes of a piece
pub data Outcome : Type 0 where
  Goes : (reading : Reading) → Outcome
  Stops : (refusal : Refusal) (names : List (List ℕ)) → Outcome

abbrev pub line_feeds : List ℕ → ℕ
line_feeds [] = 0
line_feeds (b ∷ bs) = if b == 10 then suc (line_feeds bs) else line_feeds bs

-- behind a text
abbrev pub moved : List ℕ → Spot → Spot
moved text spot = record { start = spot.start + length text; file = spot.file; line = spot.line + line_feeds text }

abbrev pub passed : List ℕ → Reading → Reading
passed text r = record r { spot = moved text r.spot }

-- a fault at the number of the next token, on the file and line
abbrev pub refusal_at : UnitNo → ℕ → Fault → NameId → ℕ → Refusal
refusal_at unit token fault file line = record { fault = fault; at = record { unit = unit; token = token; file = file; line = line }; other = None }

abbrev pub refused_at : Fault → NameId → ℕ → Reading → Outcome
refused_at fault file line r = Stops (refusal_at r.unit (length r.entries) fault file line) r.names

abbrev pub refused : Fault → Reading → Outcome
refused fault r = refused_at fault r.spot.file r.spot.line r

-- the place of a text's first appearance
abbrev pub number_of : List (List ℕ) → List ℕ → ℕ
number_of [] text = 0
number_of (t ∷ ts) text = if bytes_eq text t then 0 else suc (number_of ts text)

abbrev pub id_of : List (List ℕ) → List ℕ → NameId
id_of names text = record { 0 = number_of names text }

-- a line marker gives the file and line of the next line, if there is one
abbrev pub marked : List ℕ → ℕ → List ℕ → Reading → Reading
marked text line file r = record r { names = interned r.names file; spot = record { start = r.spot.start + length text; file = id_of (interned r.names file) file; line = line } }

-- Attributes (own): the word, two opening parentheses, names with or without arguments in brackets, separated by commas, two closing ones.
-- Each token inside is a word, a comma, a bracket or another; what is excluded counts as another, and a lexical fault is none.

abbrev pub sign_part : Sign → Part
sign_part (Read CommaSign) = Comma
sign_part (Read LeftParen) = Opens Paren
sign_part (Read RightParen) = Closes Paren
sign_part (Read LeftBracket) = Opens Square
sign_part (Read RightBracket) = Closes Square
sign_part (Read LeftBrace) = Opens Brace
sign_part (Read RightBrace) = Closes Brace
sign_part LessColon = Opens Square
sign_part ColonGreater = Closes Square
sign_part LessPercent = Opens Brace
sign_part PercentGreater = Closes Brace
sign_part _ = Other

abbrev pub is_lexical : Meaning → Bool
is_lexical (Faults Lexical) = true
is_lexical _ = false

abbrev pub part_of : Kind → Part
part_of Word = AWord
part_of (IsSign sign) = sign_part sign
part_of _ = Other

abbrev pub part : Kind → List ℕ → Part
part kind text = if is_lexical (meaning kind text) then NoToken else part_of kind

abbrev pub same_bracket : Bracket → Bracket → Bool
same_bracket Paren Paren = true
same_bracket Square Square = true
same_bracket Brace Brace = true
same_bracket _ _ = false

-- an attribute that goes on, and the brackets that are open in its arguments, the innermost first
abbrev pub goes_on : Attribute → Shape → List Bracket → Advance × List Bracket
goes_on a shape brackets = (On (record a { shape = shape }), brackets)

abbrev pub wrong : List Bracket → Advance × List Bracket
wrong brackets = (Wrong, brackets)

abbrev pub bracket_closed : Attribute → List Bracket → Advance × List Bracket
bracket_closed a [] = goes_on a Closed []
bracket_closed a (c ∷ cs) = goes_on a Inside (c ∷ cs)

abbrev pub closed : Attribute → Bracket → List Bracket → Advance × List Bracket
closed a b [] = wrong []
closed a b (c ∷ cs) = if same_bracket b c then bracket_closed a cs else wrong cs

abbrev pub in_arguments : Attribute → Part → List Bracket → Advance × List Bracket
in_arguments a (Opens b) brackets = goes_on a Inside (b ∷ brackets)
in_arguments a (Closes b) brackets = closed a b brackets
in_arguments a NoToken brackets = wrong brackets
in_arguments a AWord brackets = goes_on a Inside brackets
in_arguments a Comma brackets = goes_on a Inside brackets
in_arguments a Other brackets = goes_on a Inside brackets

abbrev pub behind_name : Attribute → Part → List Bracket → Advance × List Bracket
behind_name a Comma brackets = goes_on a AtName brackets
behind_name a (Closes Paren) brackets = goes_on a Last brackets
behind_name a (Opens Paren) brackets = goes_on a Inside (Paren ∷ brackets)
behind_name a _ brackets = wrong brackets

abbrev pub behind_arguments : Attribute → Part → List Bracket → Advance × List Bracket
behind_arguments a Comma brackets = goes_on a AtName brackets
behind_arguments a (Closes Paren) brackets = goes_on a Last brackets
behind_arguments a _ brackets = wrong brackets

abbrev pub opening : Attribute → Shape → Part → List Bracket → Advance × List Bracket
opening a shape (Opens Paren) brackets = goes_on a shape brackets
opening a shape _ brackets = wrong brackets

abbrev pub named : Attribute → Part → List ℕ → List Bracket → Advance × List Bracket
named a AWord text brackets = (On (record a { shape = Behind; known = a.known && is_skipped_name text }), brackets)
named a _ text brackets = wrong brackets

abbrev pub last : Attribute → Part → List Bracket → Advance × List Bracket
last a (Closes Paren) brackets = (Done a.known, brackets)
last a _ brackets = wrong brackets

abbrev pub advanced : Shape → Attribute → Part → List ℕ → List Bracket → Advance × List Bracket
advanced First a p text brackets = opening a Second p brackets
advanced Second a p text brackets = opening a AtName p brackets
advanced AtName a p text brackets = named a p text brackets
advanced Behind a p text brackets = behind_name a p brackets
advanced Inside a p text brackets = in_arguments a p brackets
advanced Closed a p text brackets = behind_arguments a p brackets
advanced Last a p text brackets = last a p brackets

-- an attribute is refused at its word
abbrev pub refused_attribute : Fault → Attribute → Reading → Outcome
refused_attribute fault a r = refused_at fault a.file a.line r

abbrev pub attribute_read : List ℕ → Attribute → Advance × List Bracket → Reading → Outcome
attribute_read text a (Wrong, brackets) r = refused_attribute Lexical a r
attribute_read text a (Done known, brackets) r = if known then Goes (record (passed text r) { attribute = None; brackets = brackets }) else refused_attribute (Excluded OtherAttribute) a r
attribute_read text a (On next, brackets) r = Goes (record (passed text r) { attribute = Some next; brackets = brackets })

abbrev pub inside_read : Kind → List ℕ → Attribute → Reading → Outcome
inside_read kind text a r = attribute_read text a (advanced a.shape a (part kind text) text r.brackets) r

-- a line that is wrong, or excluded: inside an attribute the attribute is wrong
abbrev pub line_refused : Fault → Option Attribute → Reading → Outcome
line_refused fault None r = refused fault r
line_refused fault (Some a) r = refused_attribute Lexical a r

abbrev pub marker_read : List ℕ → ℕ → List ℕ → Reading → Outcome
marker_read text line file r = if has_line_feed text then Goes (marked text line file r) else Goes (passed text r)

abbrev pub line_read : List ℕ → Line → Reading → Outcome
line_read text (Marker line file) r = marker_read text line file r
line_read text Pragma r = Goes (passed text r)
line_read text Pack r = line_refused (Excluded PragmaPack) r.attribute r
line_read text Bad r = line_refused Lexical r.attribute r

-- Outside attributes.

abbrev pub with_token : TokenKind → List ℕ → Reading → Reading
with_token kind text r = record (passed text r) { entries = r.entries ++ record { token = record { kind = kind; start = r.spot.start; end = r.spot.start + length text }; file = r.spot.file; line = r.spot.line } ∷ [] }

-- an identifier is asked for in the pool of names
abbrev pub with_name : List ℕ → Reading → Reading
with_name text r = record (with_token (Name (id_of (interned r.names text) text)) text r) { names = interned r.names text }

-- an attribute begins
abbrev pub with_attribute : List ℕ → Reading → Reading
with_attribute text r = record (passed text r) { attribute = Some (record { file = r.spot.file; line = r.spot.line; shape = First; known = true }); brackets = [] }

abbrev pub outside_read : List ℕ → Meaning → Reading → Outcome
outside_read text (Gives kind) r = Goes (with_token kind text r)
outside_read text GivesName r = Goes (with_name text r)
outside_read text GivesNothing r = Goes (passed text r)
outside_read text Begins r = Goes (with_attribute text r)
outside_read text (Faults fault) r = refused fault r

abbrev pub token_read : Kind → List ℕ → Option Attribute → Reading → Outcome
token_read kind text None r = outside_read text (meaning kind text) r
token_read kind text (Some a) r = inside_read kind text a r

-- a piece is read
abbrev pub piece_read : Kind → List ℕ → Reading → Outcome
piece_read Blank text r = Goes (passed text r)
piece_read LineEnd text r = Goes (passed text r)
piece_read Comment text r = Goes (passed text r)
piece_read Directive text r = line_read text (line_of text) r
piece_read kind text r = token_read kind text r.attribute r

-- the tokens and the place of the unit's end, or the refusal; with the names that were asked for until then
pub data Answer : Type 0 where
  Whole : (entries : List Entry) (end : Spot) (names : List (List ℕ)) → Answer
  Refused : (refusal : Refusal) (names : List (List ℕ)) → Answer

-- at the unit's end no attribute may be open
abbrev pub ended : Option Attribute → Reading → Answer
ended None r = Whole r.entries r.spot r.names
ended (Some a) r = Refused (refusal_at r.unit (length r.entries) Lexical a.file a.line) r.names

abbrev pub on_outcome : Outcome → (Reading → Answer) → Answer
on_outcome (Goes r) go = go r
on_outcome (Stops refusal names) go = Refused refusal names

abbrev pub read : List Piece → Reading → Answer
read [] r = ended r.attribute r
read (p ∷ ps) r = on_outcome (piece_read p.kind p.text r) (λ s. read ps s)

-- before the first byte: the unit's file and its first line
abbrev pub begun : UnitNo → NameId → List (List ℕ) → Reading
begun unit file names = record { unit = unit; names = names; entries = []; spot = record { start = 0; file = file; line = 1 }; attribute = None; brackets = [] }

-- the answer for the bytes of a unit
abbrev pub IsAnswer : UnitNo → NameId → List (List ℕ) → List ℕ → Answer → Type 0
IsAnswer unit file names bytes answer = (pieces : List Piece) × Cut true bytes pieces × (answer ≡ read pieces (begun unit file names))
