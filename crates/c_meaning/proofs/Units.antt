-- The reading against the definition of a unit: it finds the expression of each unit of the form, and of no other.
use Rattle.std.proofs.Common.{◌≡◌, sym, ap, subst, ◌∙◌, ℕ, ◌≤◌, ◌↔◌, List, [], ◌∷◌, length, map, Some, arith}
use Rattle.c_lexer.specs.declared.entries.Entry.{Entry}
use Rattle.c_lexer.specs.declared.entries.Spot.{Spot}
use Rattle.c_lexer.specs.Tokens.{Answer, Whole, Refused}
use Rattle.c_lexer.proofs.Answered.{same_answer}
use Rattle.c_meaning.specs.SourceFile.{SourceFile, IsLexed, HasTokens, Spelled, spelled_in}
use Rattle.c_meaning.specs.Grammar.{Expression, IsAt, Additive, height, IsUnit, spell_unit}
use Rattle.c_meaning.specs.Reading.{Front, AtType, token_of, run, read_on, reading}
use Rattle.c_meaning.proofs.Parsed.{unit_tokens, small_unit, spelled_unit, unit_run, run_unit}
use Rattle.c_meaning.proofs.Terminals.{IsRun, on_run, run_on}

-- the tokens of a unit are read as its expression
reads_tokens : (e : Expression) → IsAt Additive e → height e ≤ 509 → reading (spell_unit e) ≡ Some e
reads_tokens e is low =
    subst (λ ts. reading ts ≡ Some e) (spelled_unit e is)
    (run_on 509 (unit_tokens e) (Front AtType) [] (small_unit e is) ∙ unit_run 509 e is low)

-- and tokens that are read as an expression are those of its unit
record IsSpelled (tokens : List Spelled) (e : Expression) : Type 0 where
  grammatical : IsAt Additive e
  low : height e ≤ 509
  are : tokens ≡ spell_unit e

spelled_as : (tokens : List Spelled) (e : Expression) → reading tokens ≡ Some e → IsSpelled tokens e
spelled_as tokens e is =
    let on : IsRun 509 tokens (Front AtType) [] e = on_run 509 tokens (Front AtType) [] e is in
    let parsed : (IsAt Additive e × (height e ≤ 509)) × (on.terminals ≡ unit_tokens e) = run_unit 509 on.terminals e (omega arith) on.small on.runs in
    record { grammatical = parsed.0.0; low = parsed.0.1; are = sym on.are ∙ (ap (map token_of) parsed.1 ∙ spelled_unit e parsed.0.0) }

-- a file has one list of tokens
entries_of : Answer → List Entry
entries_of (Whole entries end names) = entries
entries_of (Refused refusal names) = []

same_entries : (file : SourceFile) (es fs : List Entry) (end stop : Spot) (names others : List (List ℕ)) → IsLexed file (Whole es end names) → IsLexed file (Whole fs stop others) → es ≡ fs
unfolding entries_of
same_entries file es fs end stop names others one two = ap entries_of (same_answer (record { 0 = 0 }) (record { 0 = 0 }) (file.name ∷ []) file.bytes (Whole es end names) (Whole fs stop others) one two)

same_tokens : (file : SourceFile) (ts us : List Spelled) → HasTokens file ts → HasTokens file us → ts ≡ us
same_tokens file ts us one two =
    sym one.are ∙ (ap (spelled_in file.bytes) (same_entries file one.entries two.entries one.end two.end one.names two.names one.lexed two.lexed) ∙ two.are)

-- the law of the reading
pub unit_reads : (file : SourceFile) (tokens : List Spelled) (e : Expression) → HasTokens file tokens → IsUnit file e ↔ (reading tokens ≡ Some e)
unit_reads file tokens e has = (
  (λ is. let low : height e ≤ 509 = omega (arith, is.low) in ap reading (same_tokens file tokens (spell_unit e) has is.tokens) ∙ reads_tokens e is.grammatical low),
  (λ is. let found : IsSpelled tokens e = spelled_as tokens e is in record { grammatical = found.grammatical; low = omega (arith, found.low); tokens = subst (HasTokens file) found.are has }),
)

-- a file is the unit of one expression at most
pub same_expression : (file : SourceFile) (e f : Expression) → IsUnit file e → IsUnit file f → e ≡ f
same_expression file e f is also =
    let one : reading (spell_unit e) ≡ Some e = (unit_reads file (spell_unit e) e is.tokens).0 is in
    let two : reading (spell_unit e) ≡ Some f = (unit_reads file (spell_unit e) f is.tokens).0 also in
    cc
