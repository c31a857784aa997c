-- Device: what holds of the reading in front of each piece: the files of its place and of its tokens are in the pool, its tokens stand apart, and a refusal is one that tokens have.
use Rattle.std.proofs.Common.{◌≡◌, ℕ, zero, suc, ◌+◌, ◌-◌, ◌<◌, ◌≤◌, Bool, true, false, cond, List, [], ◌∷◌, ◌++◌, length, length-append, Option, Some, None, Result, Ok, Err, IfOk, refl, sym, ap, subst, ◌∙◌, arith}
use Rattle.std.specs.Prelude.{if◌then◌else◌, ◌||◌, ◌==◌, not, nat_le, slice_get}
use Rattle.std.specs.Option.{option_map}
use Rattle.cil_base.specs.declared.faults.Place.{Place}
use Rattle.std.proofs.lemmas.Bool.{cond_both}
use Rattle.std.specs.List.{list_any}
use Rattle.std.specs.Str.{bytes_eq}
use Rattle.std.proofs.lemmas.Slice.Eq.{bytes_eq-Decides}
use Rattle.cil_base.specs.NamePool.{interned}
use Rattle.cil_base.specs.declared.numbers.UnitNo.{UnitNo}
use Rattle.cil_base.specs.declared.numbers.NameId.{NameId}
use Rattle.cil_base.specs.declared.faults.Fault.{Fault}
use Rattle.cil_base.specs.declared.faults.Fault.TheVariants.{Lexical, Excluded, Limit}
use Rattle.cil_base.specs.declared.faults.Feature.TheVariants.{Floating, Prefixed, MultiChar, Universal, Pack as PragmaPack, Attribute as OtherAttribute}
use Rattle.cil_base.specs.declared.faults.What.TheVariants.{NameBytes}
use Rattle.cil_base.specs.declared.tokens.TokenKind.{TokenKind}
use Rattle.cil_base.specs.declared.tokens.TokenKind.TheVariants.{Name, Integer, Character as CharacterToken, Literal}
use Rattle.c_lexer.specs.declared.entries.Entry.{Entry}
use Rattle.c_lexer.specs.declared.entries.Spot.{Spot}
use Rattle.c_lexer.specs.declared.pieces.Kind.{Kind}
use Rattle.c_lexer.specs.declared.pieces.Kind.TheVariants.{Blank, LineEnd, Comment, Directive, Word, Number, Character, Text, Sign as IsSign, Broken}
use Rattle.c_lexer.specs.declared.pieces.Sign.{Sign}
use Rattle.c_lexer.specs.declared.pieces.Sign.TheVariants.{Read, LessColon, ColonGreater, LessPercent, PercentGreater, Hash, TwoHashes, PercentColon, TwoPercentColons}
use Rattle.c_lexer.specs.declared.words.WordMeaning.{WordMeaning}
use Rattle.c_lexer.specs.declared.words.WordMeaning.TheVariants.{Keyword as IsKeyword, Excluded as IsExcluded, Skipped as IsSkipped, Attribute as IsAttribute, Name as IsName}
use Rattle.c_lexer.specs.declared.meaning.Meaning.{Meaning}
use Rattle.c_lexer.specs.declared.meaning.Meaning.TheVariants.{Token as Gives, Name as GivesName, Skipped as GivesNothing, Attribute as Begins, Fault as Faults}
use Rattle.c_lexer.specs.declared.attributes.Attribute.{Attribute}
use Rattle.c_lexer.specs.declared.attributes.Bracket.{Bracket}
use Rattle.c_lexer.specs.declared.attributes.Bracket.TheVariants.{Paren}
use Rattle.c_lexer.specs.declared.attributes.Part.{Part}
use Rattle.c_lexer.specs.declared.attributes.Part.TheVariants.{Word as AWord, Comma, Opens, Closes, Other, Wrong as NoToken}
use Rattle.c_lexer.specs.declared.attributes.Shape.{Shape}
use Rattle.c_lexer.specs.declared.attributes.Shape.TheVariants.{First, Second, Name as AtName, Behind, Inside, Closed, Last}
use Rattle.c_lexer.specs.declared.attributes.Advance.{Advance}
use Rattle.c_lexer.specs.declared.attributes.Advance.TheVariants.{Wrong, Done, On}
use Rattle.c_lexer.specs.Words.{word_meaning, is_skipped_name, first_byte}
use Rattle.c_lexer.specs.Constants.{is_integer, is_floating, characters, has_universal}
use Rattle.c_lexer.specs.Lines.{Line, Marker, Pragma, Pack, Bad, line_of, has_line_feed}
use Rattle.c_lexer.specs.Longest.{Piece, Cut, End, Next}
use Rattle.c_lexer.specs.Tokens.{Reading, Outcome, Goes, Stops, Answer, Whole, Refused, meaning, meaning_of_text, meaning_of_word, number_meaning, character_meaning, literal_meaning, sign_meaning, moved, passed, line_feeds, refused_at, refused, refusal_at, number_of, id_of, marked, part, same_bracket, bracket_closed, closed, in_arguments, behind_name, behind_arguments, opening, named, last, advanced, refused_attribute, attribute_read, inside_read, line_refused, marker_read, line_read, with_token, with_name, with_attribute, outside_read, token_read, piece_read, ended, on_outcome, read, begun, IsAnswer}
use Rattle.c_lexer.specs.Lexed.{Lexed, Gives as IsGiven, IfRefused, IsTokenFault, IsTokenRefusal, PlacesWithin, place_of, bytes_in}
use Rattle.cil_base.specs.declared.faults.Stop.{Stop}
use Rattle.cil_base.specs.declared.faults.Stop.TheVariants.{Refused as IsRefused, Memory as IsMemory}

-- the pool

-- a text that is asked for stands in the pool
is_within : (names : List (List ℕ)) (text : List ℕ) → list_any (bytes_eq text) names ≡ true → number_of names text < length names
is_within [] text is = cc
is_within (t ∷ ts) text is = by (λ there. is_within ts text there) (bytes_eq text t) is
  where
    by : (list_any (bytes_eq text) ts ≡ true → number_of ts text < length ts) → (b : Bool) → (b || list_any (bytes_eq text) ts) ≡ true → cond b 0 (suc (number_of ts text)) < suc (length ts)
    by below true is = omega arith
    by below false is = omega (arith, below is)

last_is : (names : List (List ℕ)) (text : List ℕ) → list_any (bytes_eq text) (names ++ text ∷ []) ≡ true
last_is [] text = ap (λ b. b || false) ((bytes_eq-Decides text text).1 refl)
last_is (t ∷ ts) text = by (last_is ts text) (bytes_eq text t)
  where
    by : list_any (bytes_eq text) (ts ++ text ∷ []) ≡ true → (b : Bool) → (b || list_any (bytes_eq text) (ts ++ text ∷ [])) ≡ true
    by there true = refl
    by there false = there

id_within : (names : List (List ℕ)) (text : List ℕ) → number_of (interned names text) text < length (interned names text)
id_within names text =
    cond_both (list_any (bytes_eq text) names) names (names ++ text ∷ []) (λ ns. number_of ns text < length ns)
    (λ there. is_within names text there) (λ new. is_within (names ++ text ∷ []) text (last_is names text))

longer : (names : List (List ℕ)) (text : List ℕ) → length names ≤ length (interned names text)
longer names text =
    cond_both (list_any (bytes_eq text) names) names (names ++ text ∷ []) (λ ns. length names ≤ length ns)
    (λ there. omega arith) (λ new. omega (arith, length-append names (text ∷ [])))

-- which faults a piece has

abbrev IfFault : Meaning → Type 0
IfFault (Faults fault) = IsTokenFault fault
IfFault _ = Unit {0}

either : (b : Bool) (x y : Meaning) → IfFault x → IfFault y → IfFault (if b then x else y)
either true x y a b = a
either false x y a b = b

word_fault : (len : ℕ) (w : WordMeaning) → IfFault (meaning_of_word len w)
word_fault len (IsKeyword keyword) = tt
word_fault len (IsExcluded feature) = tt
word_fault len IsSkipped = tt
word_fault len IsAttribute = tt
word_fault len IsName = either (nat_le len 1024) GivesName (Faults (Limit NameBytes)) tt tt

sign_fault : (sign : Sign) → IfFault (sign_meaning sign)
sign_fault (Read punctuator) = tt
sign_fault LessColon = tt
sign_fault ColonGreater = tt
sign_fault LessPercent = tt
sign_fault PercentGreater = tt
sign_fault Hash = tt
sign_fault TwoHashes = tt
sign_fault PercentColon = tt
sign_fault TwoPercentColons = tt

text_fault : (text : List ℕ) → IfFault (meaning_of_text text)
unfolding meaning_of_text
text_fault text = either (list_any (λ b. b == 92) text) (Faults (Excluded Universal)) (meaning_of_word (length text) (word_meaning text)) tt (word_fault (length text) (word_meaning text))

number_fault : (text : List ℕ) → IfFault (number_meaning text)
unfolding number_meaning
number_fault text = either (is_integer text) (Gives Integer) _ tt (either (is_floating text) (Faults (Excluded Floating)) (Faults Lexical) tt tt)

character_fault : (text : List ℕ) → IfFault (character_meaning text)
unfolding character_meaning
character_fault text =
    either (characters text == 0) (Faults Lexical) _ tt
    (either (not (first_byte text == 39)) (Faults (Excluded Prefixed)) _ tt
    (either (not (characters text == 1)) (Faults (Excluded MultiChar)) _ tt
    (either (has_universal false text) (Faults (Excluded Universal)) (Gives CharacterToken) tt tt)))

literal_fault : (text : List ℕ) → IfFault (literal_meaning text)
unfolding literal_meaning
literal_fault text = either (not (first_byte text == 34)) (Faults (Excluded Prefixed)) _ tt (either (has_universal false text) (Faults (Excluded Universal)) (Gives Literal) tt tt)

fault_of : (kind : Kind) (text : List ℕ) → IfFault (meaning kind text)
fault_of Blank text = tt
fault_of LineEnd text = tt
fault_of Comment text = tt
fault_of Directive text = tt
fault_of Word text = text_fault text
fault_of Number text = number_fault text
fault_of Character text = character_fault text
fault_of Text text = literal_fault text
fault_of (IsSign sign) text = sign_fault sign
fault_of Broken text = tt

-- the place of an attribute stays

abbrev Keeps : Attribute → Advance × List Bracket → Type 0
Keeps a (On next, brackets) = next.file ≡ a.file
Keeps a _ = Unit {0}

keeps_closed : (a : Attribute) (b : Bracket) (brackets : List Bracket) → Keeps a (closed a b brackets)
keeps_closed a b [] = tt
keeps_closed a b (c ∷ []) = by (same_bracket b c)
  where
    by : (t : Bool) → Keeps a (if t then bracket_closed a [] else (Wrong, []))
    by true = refl
    by false = tt
keeps_closed a b (c ∷ d ∷ cs) = by (same_bracket b c)
  where
    by : (t : Bool) → Keeps a (if t then bracket_closed a (d ∷ cs) else (Wrong, d ∷ cs))
    by true = refl
    by false = tt

keeps : (shape : Shape) (a : Attribute) (p : Part) (text : List ℕ) (brackets : List Bracket) → Keeps a (advanced shape a p text brackets)
keeps First a (Opens Paren) text brackets = refl
keeps First a _ text brackets = tt
keeps Second a (Opens Paren) text brackets = refl
keeps Second a _ text brackets = tt
keeps AtName a AWord text brackets = refl
keeps AtName a _ text brackets = tt
keeps Behind a Comma text brackets = refl
keeps Behind a (Closes Paren) text brackets = refl
keeps Behind a (Opens Paren) text brackets = refl
keeps Behind a _ text brackets = tt
keeps Inside a (Opens b) text brackets = refl
keeps Inside a (Closes b) text brackets = keeps_closed a b brackets
keeps Inside a NoToken text brackets = tt
keeps Inside a AWord text brackets = refl
keeps Inside a Comma text brackets = refl
keeps Inside a Other text brackets = refl
keeps Closed a Comma text brackets = refl
keeps Closed a (Closes Paren) text brackets = refl
keeps Closed a _ text brackets = tt
keeps Last a (Closes Paren) text brackets = tt
keeps Last a _ text brackets = tt

-- the reading

abbrev HasFile : ℕ → Option Attribute → Type 0
HasFile count None = Unit {0}
HasFile count (Some a) = a.file.0 < count

-- the file of each token is one of so many names
abbrev HaveFiles : ℕ → List Entry → Type 0
HaveFiles count [] = Unit {0}
HaveFiles count (e ∷ es) = (e.file.0 < count) × HaveFiles count es

record IsFit (u : UnitNo) (r : Reading) : Type 0 where
  unit : r.unit ≡ u
  file : r.spot.file.0 < length r.names
  attribute : HasFile (length r.names) r.attribute
  entries : HaveFiles (length r.names) r.entries
  apart : bytes_in r.entries ≤ r.spot.start

-- an outcome that goes on stands so many bytes from the beginning
abbrev FitOutcome : UnitNo → ℕ → Outcome → Type 0
FitOutcome unit start (Goes r) = IsFit unit r × (r.spot.start ≡ start)
FitOutcome unit start (Stops refusal names) = IsTokenRefusal unit (length names) refusal

more_files : (fewer more : ℕ) (a : Option Attribute) → fewer ≤ more → HasFile fewer a → HasFile more a
more_files fewer more None less has = tt
more_files fewer more (Some a) less has = omega (arith, has, less)

more_have : (fewer more : ℕ) (es : List Entry) → fewer ≤ more → HaveFiles fewer es → HaveFiles more es
more_have fewer more [] less have = tt
more_have fewer more (e ∷ es) less have = (omega (arith, have.0, less), more_have fewer more es less have.1)

last_has : (count : ℕ) (es : List Entry) (e : Entry) → HaveFiles count es → e.file.0 < count → HaveFiles count (es ++ e ∷ [])
last_has count [] e have has = (has, tt)
last_has count (x ∷ xs) e have has = (have.0, last_has count xs e have.1 has)

bytes_in-last : (es : List Entry) (e : Entry) → bytes_in (es ++ e ∷ []) ≡ bytes_in es + (e.token.end - e.token.start)
bytes_in-last [] e = omega arith
bytes_in-last (x ∷ xs) e = omega (arith, bytes_in-last xs e)

refuse : (unit : UnitNo) (start : ℕ) (fault : Fault) (r : Reading) → IsTokenFault fault → IsFit unit r → FitOutcome unit start (refused fault r)
refuse unit start fault r is fit = record { fault = is; unit = fit.unit; file = fit.file; other = refl }

refuse_attribute : (unit : UnitNo) (start : ℕ) (fault : Fault) (a : Attribute) (r : Reading) → IsTokenFault fault → a.file.0 < length r.names → IsFit unit r → FitOutcome unit start (refused_attribute fault a r)
refuse_attribute unit start fault a r is has fit = record { fault = is; unit = fit.unit; file = has; other = refl }

pass : (unit : UnitNo) (text : List ℕ) (r : Reading) → IsFit unit r → FitOutcome unit (r.spot.start + length text) (Goes (passed text r))
pass unit text r fit = (record { unit = fit.unit; file = fit.file; attribute = fit.attribute; entries = fit.entries; apart = omega (arith, fit.apart) }, refl)

mark : (unit : UnitNo) (text : List ℕ) (line : ℕ) (file : List ℕ) (r : Reading) → IsFit unit r → FitOutcome unit (r.spot.start + length text) (Goes (marked text line file r))
mark unit text line file r fit =
    (record { unit = fit.unit; file = id_within r.names file; attribute = more_files _ _ r.attribute (longer r.names file) fit.attribute; entries = more_have _ _ r.entries (longer r.names file) fit.entries; apart = omega (arith, fit.apart) }, refl)

refuse_line : (unit : UnitNo) (start : ℕ) (fault : Fault) (r : Reading) (a : Option Attribute) → IsTokenFault fault → r.attribute ≡ a → IsFit unit r → FitOutcome unit start (line_refused fault a r)
refuse_line unit start fault r None is same fit = refuse unit start fault r is fit
refuse_line unit start fault r (Some a) is same fit = refuse_attribute unit start Lexical a r tt (subst (HasFile (length r.names)) same fit.attribute) fit

line_fit : (unit : UnitNo) (text : List ℕ) (l : Line) (r : Reading) → IsFit unit r → FitOutcome unit (r.spot.start + length text) (line_read text l r)
line_fit unit text (Marker line file) r fit = by (has_line_feed text)
  where
    by : (b : Bool) → FitOutcome unit (r.spot.start + length text) (if b then Goes (marked text line file r) else Goes (passed text r))
    by true = mark unit text line file r fit
    by false = pass unit text r fit
line_fit unit text Pragma r fit = pass unit text r fit
line_fit unit text Pack r fit = refuse_line unit (r.spot.start + length text) (Excluded PragmaPack) r r.attribute tt refl fit
line_fit unit text Bad r fit = refuse_line unit (r.spot.start + length text) Lexical r r.attribute tt refl fit

token_fit : (unit : UnitNo) (kind : TokenKind) (text : List ℕ) (r : Reading) → IsFit unit r → FitOutcome unit (r.spot.start + length text) (Goes (with_token kind text r))
token_fit unit kind text r fit =
    let e : Entry = record { token = record { kind = kind; start = r.spot.start; end = r.spot.start + length text }; file = r.spot.file; line = r.spot.line } in
    (record { unit = fit.unit; file = fit.file; attribute = fit.attribute; entries = last_has _ r.entries e fit.entries fit.file; apart = omega (arith, bytes_in-last r.entries e, fit.apart) }, refl)

name_fit : (unit : UnitNo) (text : List ℕ) (r : Reading) → IsFit unit r → FitOutcome unit (r.spot.start + length text) (Goes (with_name text r))
name_fit unit text r fit =
    let e : Entry = record { token = record { kind = Name (id_of (interned r.names text) text); start = r.spot.start; end = r.spot.start + length text }; file = r.spot.file; line = r.spot.line } in
    let more : length r.names ≤ length (interned r.names text) = longer r.names text in
    let has : r.spot.file.0 < length (interned r.names text) = omega (arith, fit.file, more) in
    (record { unit = fit.unit; file = has; attribute = more_files _ _ r.attribute more fit.attribute; entries = last_has _ r.entries e (more_have _ _ r.entries more fit.entries) has; apart = omega (arith, bytes_in-last r.entries e, fit.apart) }, refl)

outside_fit : (unit : UnitNo) (text : List ℕ) (m : Meaning) (r : Reading) → IfFault m → IsFit unit r → FitOutcome unit (r.spot.start + length text) (outside_read text m r)
outside_fit unit text (Gives kind) r is fit = token_fit unit kind text r fit
outside_fit unit text GivesName r is fit = name_fit unit text r fit
outside_fit unit text GivesNothing r is fit = pass unit text r fit
outside_fit unit text Begins r is fit = (record { unit = fit.unit; file = fit.file; attribute = fit.file; entries = fit.entries; apart = omega (arith, fit.apart) }, refl)
outside_fit unit text (Faults fault) r is fit = refuse unit (r.spot.start + length text) fault r is fit

inside_fit : (unit : UnitNo) (text : List ℕ) (a : Attribute) (o : Advance × List Bracket) (r : Reading) → Keeps a o → a.file.0 < length r.names → IsFit unit r → FitOutcome unit (r.spot.start + length text) (attribute_read text a o r)
inside_fit unit text a (Wrong, brackets) r same has fit = refuse_attribute unit (r.spot.start + length text) Lexical a r tt has fit
inside_fit unit text a (Done true, brackets) r same has fit = (record { unit = fit.unit; file = fit.file; attribute = tt; entries = fit.entries; apart = omega (arith, fit.apart) }, refl)
inside_fit unit text a (Done false, brackets) r same has fit = refuse_attribute unit (r.spot.start + length text) (Excluded OtherAttribute) a r tt has fit
inside_fit unit text a (On next, brackets) r same has fit =
    (record { unit = fit.unit; file = fit.file; attribute = subst (λ (f : NameId). f.0 < length r.names) (sym same) has; entries = fit.entries; apart = omega (arith, fit.apart) }, refl)

any_token_fit : (unit : UnitNo) (kind : Kind) (text : List ℕ) (a : Option Attribute) (r : Reading) → r.attribute ≡ a → IsFit unit r → FitOutcome unit (r.spot.start + length text) (token_read kind text a r)
any_token_fit unit kind text None r same fit = outside_fit unit text (meaning kind text) r (fault_of kind text) fit
any_token_fit unit kind text (Some a) r same fit =
    inside_fit unit text a (advanced a.shape a (part kind text) text r.brackets) r (keeps a.shape a (part kind text) text r.brackets) (subst (HasFile (length r.names)) same fit.attribute) fit

piece_fit : (unit : UnitNo) (kind : Kind) (text : List ℕ) (r : Reading) → IsFit unit r → FitOutcome unit (r.spot.start + length text) (piece_read kind text r)
piece_fit unit Blank text r fit = pass unit text r fit
piece_fit unit LineEnd text r fit = pass unit text r fit
piece_fit unit Comment text r fit = pass unit text r fit
piece_fit unit Directive text r fit = line_fit unit text (line_of text) r fit
piece_fit unit Word text r fit = any_token_fit unit Word text r.attribute r refl fit
piece_fit unit Number text r fit = any_token_fit unit Number text r.attribute r refl fit
piece_fit unit Character text r fit = any_token_fit unit Character text r.attribute r refl fit
piece_fit unit Text text r fit = any_token_fit unit Text text r.attribute r refl fit
piece_fit unit (IsSign sign) text r fit = any_token_fit unit (IsSign sign) text r.attribute r refl fit
piece_fit unit Broken text r fit = any_token_fit unit Broken text r.attribute r refl fit

-- the answer

total : List Piece → ℕ
total [] = 0
total (p ∷ ps) = length p.text + total ps

-- tokens stand in so many bytes, and the files of their places and of the unit's end are in the pool
pub record FitTokens (end : ℕ) (entries : List Entry) (spot : Spot) (count : ℕ) : Type 0 where
  pub apart : bytes_in entries ≤ end
  pub files : HaveFiles count entries
  pub file : spot.file.0 < count

abbrev FitAnswer : UnitNo → ℕ → Answer → Type 0
FitAnswer unit end (Whole entries spot names) = FitTokens end entries spot (length names)
FitAnswer unit end (Refused refusal names) = IsTokenRefusal unit (length names) refusal

end_fit : (unit : UnitNo) (a : Option Attribute) (r : Reading) → r.attribute ≡ a → IsFit unit r → FitAnswer unit r.spot.start (ended a r)
end_fit unit None r same fit = record { apart = fit.apart; files = fit.entries; file = fit.file }
end_fit unit (Some a) r same fit = record { fault = tt; unit = fit.unit; file = subst (HasFile (length r.names)) same fit.attribute; other = refl }

answer_fit : (unit : UnitNo) (ps : List Piece) (r : Reading) → IsFit unit r → FitAnswer unit (r.spot.start + total ps) (read ps r)
unfolding total
answer_fit unit [] r fit = subst (λ n. FitAnswer unit n (ended r.attribute r)) (let same : r.spot.start ≡ r.spot.start + 0 = omega arith in same) (end_fit unit r.attribute r refl fit)
answer_fit unit (p ∷ ps) r fit = by (λ s f. answer_fit unit ps s f) (piece_read p.kind p.text r) (piece_fit unit p.kind p.text r fit)
  where
    by : ((s : Reading) → IsFit unit s → FitAnswer unit (s.spot.start + total ps) (read ps s)) → (o : Outcome) → FitOutcome unit (r.spot.start + length p.text) o → FitAnswer unit (r.spot.start + (length p.text + total ps)) (on_outcome o (λ s. read ps s))
    by on (Goes s) fits = subst (λ n. FitAnswer unit n (read ps s)) (let same : s.spot.start + total ps ≡ r.spot.start + (length p.text + total ps) = omega (arith, fits.1) in same) (on s fits.0)
    by on (Stops refusal names) fits = fits

cut_total : (fresh : Bool) (bytes : List ℕ) (ps : List Piece) → Cut fresh bytes ps → total ps ≡ length bytes
unfolding total
cut_total _ _ _ (End fresh) = refl
cut_total _ _ _ (Next fresh bytes text rest kind ps longest more) = omega (arith, cut_total _ rest ps more, ap length longest.parts, length-append text rest)

pub begun_fit : (unit : UnitNo) (file : NameId) (names : List (List ℕ)) (bytes : List ℕ) (answer : Answer) → file.0 < length names → IsAnswer unit file names bytes answer → FitAnswer unit (length bytes) answer
begun_fit unit file names bytes answer named is =
    subst (λ a. FitAnswer unit (length bytes) a) (sym is.2)
    (subst (λ n. FitAnswer unit n (read is.0 (begun unit file names))) (let same : 0 + total is.0 ≡ length bytes = omega (arith, cut_total true bytes is.0 is.1) in same)
    (answer_fit unit is.0 (begun unit file names) (record { unit = refl; file = named; attribute = tt; entries = tt; apart = omega arith })))

pub refused_fit : (t : Result Lexed Stop) (unit : UnitNo) (names : List (List ℕ)) (bytes : List ℕ) (answer : Answer) → FitAnswer unit (length bytes) answer → IsGiven t bytes unit names answer → IfRefused t (IsTokenRefusal unit (length names))
refused_fit (Ok t) unit names bytes answer fit gives = tt
refused_fit (Err (IsRefused refusal)) unit names bytes answer fit gives = subst (FitAnswer unit (length bytes)) gives fit
refused_fit (Err IsMemory) unit names bytes answer fit gives = tt

pub stand_apart : (unit : UnitNo) (file : NameId) (names after : List (List ℕ)) (bytes : List ℕ) (entries : List Entry) (end : Spot) → file.0 < length names → IsAnswer unit file names bytes (Whole entries end after) → bytes_in entries ≤ length bytes
stand_apart unit file names after bytes entries end named is = (begun_fit unit file names bytes (Whole entries end after) named is).apart

-- the file of a place
file_at : (count : ℕ) (es : List Entry) (i : ℕ) (e : Entry) → HaveFiles count es → slice_get es i ≡ Some e → e.file.0 < count
file_at count [] i e have is = let none : None ≡ Some e = is in cc
file_at count (x ∷ xs) zero e have is = let same : Some x ≡ Some e = is in let equal : x ≡ e = cc in subst (λ (y : Entry). y.file.0 < count) equal have.0
file_at count (x ∷ xs) (suc i) e have is = file_at count xs i e have.1 is

token_file : (unit : UnitNo) (count i : ℕ) (o : Option Entry) (place : Place) → ((e : Entry) → o ≡ Some e → e.file.0 < count)
    → option_map (λ (e : Entry). place_of unit i e.file e.line) o ≡ Some place → place.file.0 < count
token_file unit count i None place has is = let none : None ≡ Some place = is in cc
token_file unit count i (Some e) place has is =
    let same : Some (place_of unit i e.file e.line) ≡ Some place = is in
    let equal : place_of unit i e.file e.line ≡ place = cc in
    subst (λ (p : Place). p.file.0 < count) equal (has e refl)

tokens_files : (t : Lexed) (count : ℕ) → HaveFiles count t.entries → t.end.file.0 < count → PlacesWithin count t
tokens_files t count have has = λ i place is. by i place (i == length t.entries) is
  where
    by : (i : ℕ) (place : Place) (b : Bool) → (if b then Some (place_of t.unit i t.end.file t.end.line) else option_map (λ (e : Entry). place_of t.unit i e.file e.line) (slice_get t.entries i)) ≡ Some place
        → place.file.0 < count
    by i place true is =
        let same : Some (place_of t.unit i t.end.file t.end.line) ≡ Some place = is in
        let equal : place_of t.unit i t.end.file t.end.line ≡ place = cc in
        subst (λ (p : Place). p.file.0 < count) equal has
    by i place false is = token_file t.unit count i (slice_get t.entries i) place (λ e at. file_at count t.entries i e have at) is

pub tokens_fit : (r : Result Lexed Stop) (unit : UnitNo) (names : List (List ℕ)) (bytes : List ℕ) (answer : Answer) → FitAnswer unit (length bytes) answer → IsGiven r bytes unit names answer → IfOk r (PlacesWithin (length names))
tokens_fit (Ok t) unit names bytes answer fit gives =
    let fits : FitTokens (length bytes) t.entries t.end (length names) = subst (FitAnswer unit (length bytes)) gives.0 fit in
    tokens_files t (length names) fits.files fits.file
tokens_fit (Err stop) unit names bytes answer fit gives = tt
