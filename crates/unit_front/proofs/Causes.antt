-- Device: what the lexer answers for a unit, and what is found behind its tokens, put together.
use Rattle.std.proofs.Common.{◌≡◌, ℕ, ◌<◌, ◌≤◌, List, length, Result, Ok, Err, IfOk, sym, subst}
use Rattle.cil_base.specs.NamePool.{Stays}
use Rattle.cil_base.specs.declared.numbers.UnitNo.{UnitNo}
use Rattle.cil_base.specs.declared.numbers.NameId.{NameId}
use Rattle.cil_base.specs.declared.faults.Refusal.{Refusal}
use Rattle.cil_base.specs.declared.faults.Stop.{Stop}
use Rattle.cil_base.specs.declared.faults.Stop.TheVariants as stops
use Rattle.c_lexer.specs.Tokens.{IsAnswer}
use Rattle.c_lexer.specs.Lexed.{Lexed, Gives, IfAnswered, IfRefused, PlacesWithin, IsTokenRefusal}
use Rattle.cast_insert.specs.Refusals.{IsCheckedRefusal}
use Rattle.c_cursor.specs.Lexemes.{lexemes}
use Rattle.c_tree.specs.Units.{UnitTree}
use Rattle.c_parser.specs.UnitAnswers.{ReadsUnit, IsSyntaxFault}
use Rattle.link_names.specs.declared.units.Fronted.{Fronted}
use Rattle.unit_front.specs.Refusals.{HasTokens, AreGrammatical, IsGrammatical, IsTokensRefusal, OfGrammar, OfCheck, IsFrontRefusal, Large, OfToken, OfTokens, too_large}
use Rattle.unit_front.specs.Identifiers.{AreDeclared, DeclaresIn}
use Rattle.unit_front.proofs.Files.{too_large_kept, token_kept, tokens_kept}

-- the lexer gave tokens for these bytes
abbrev pub Cut : Lexed → List ℕ → UnitNo → NameId → List (List ℕ) → List (List ℕ) → Type 0
Cut t bytes u file old new = IfAnswered (λ answer. Gives (Ok t) bytes u new answer) (IsAnswer u file old bytes)

abbrev pub has_tokens : (t : Lexed) (bytes : List ℕ) (u : UnitNo) (file : NameId) (old new : List (List ℕ)) → length bytes ≤ 4194304 → Cut t bytes u file old new → HasTokens (record { bytes = bytes; unit = u; file = file; names = old }) t
has_tokens t bytes u file old new small (answer, is, gives) = record { small = small; source = gives.1; unit = gives.2; names = new; lexed = subst (IsAnswer u file old bytes) gives.0 is }

pub whole : {A : Type 0} (r : Result A Stop) (t : Lexed) (bytes : List ℕ) (u : UnitNo) (file : NameId) (old new : List (List ℕ)) → length bytes ≤ 4194304 → Cut t bytes u file old new → IfOk r (λ _. AreGrammatical t)
    → IfOk r (λ _. IsGrammatical (record { bytes = bytes; unit = u; file = file; names = old }))
whole (Ok a) t bytes u file old new small cut spelled = record { tokens = t; are = has_tokens t bytes u file old new small cut; spelled = spelled }
whole (Err stop) t bytes u file old new small cut spelled = tt

pub declares : (r : Result Fronted Stop) (t : Lexed) (bytes : List ℕ) (u : UnitNo) (file : NameId) (old new pool : List (List ℕ)) → length bytes ≤ 4194304 → Cut t bytes u file old new → PlacesWithin (length new) t → Stays new pool → IfOk r (AreDeclared t)
    → IfOk r (DeclaresIn (record { bytes = bytes; unit = u; file = file; names = old }) pool)
declares (Ok f) t bytes u file old new pool small cut within stays declared = record { tokens = t; are = has_tokens t bytes u file old new small cut; within = within; stays = stays; declared = declared }
declares (Err stop) t bytes u file old new pool small cut within stays declared = tt

pub behind : {A : Type 0} (r : Result A Stop) (t : Lexed) (bytes : List ℕ) (u : UnitNo) (file : NameId) (old new pool : List (List ℕ)) → length bytes ≤ 4194304 → Cut t bytes u file old new → PlacesWithin (length new) t → Stays new pool → IfRefused r (IsTokensRefusal t)
    → IfRefused r (IsFrontRefusal (record { bytes = bytes; unit = u; file = file; names = old }) pool)
behind (Ok a) t bytes u file old new pool small cut files stays is = tt
behind (Err (stops.Refused refusal)) t bytes u file old new pool small cut files stays is = OfTokens refusal t (has_tokens t bytes u file old new small cut) is (tokens_kept t new pool refusal files stays is)
behind (Err stops.Memory) t bytes u file old new pool small cut files stays is = tt

pub refused : (r : Result Lexed Stop) (bytes : List ℕ) (u : UnitNo) (file : NameId) (old new : List (List ℕ)) → length bytes ≤ 4194304 → IfAnswered (λ answer. Gives r bytes u new answer) (IsAnswer u file old bytes) → IfRefused r (IsTokenRefusal u (length new))
    → IfRefused r (IsFrontRefusal (record { bytes = bytes; unit = u; file = file; names = old }) new)
refused (Ok t) bytes u file old new small cut at = tt
refused (Err (stops.Refused refusal)) bytes u file old new small (answer, is, same) at = OfToken refusal new small (subst (IsAnswer u file old bytes) same is) (token_kept u new refusal at)
refused (Err stops.Memory) bytes u file old new small cut at = tt

pub large : (bytes : List ℕ) (u : UnitNo) (file : NameId) (old : List (List ℕ)) (refusal : Refusal) → 4194304 < length bytes → file.0 < length old → refusal ≡ too_large u file → IsFrontRefusal (record { bytes = bytes; unit = u; file = file; names = old }) old refusal
large bytes u file old refusal over within same = subst (IsFrontRefusal (record { bytes = bytes; unit = u; file = file; names = old }) old) (sym same) (Large over (too_large_kept u file old within))

pub of_grammar : (t : Lexed) (refusal : Refusal) → IsSyntaxFault t refusal → IsTokensRefusal t refusal
of_grammar t refusal is = OfGrammar refusal is

pub of_check : (t : Lexed) (u : UnitTree) (refusal : Refusal) → ReadsUnit (lexemes t) u → IsCheckedRefusal t refusal → IsTokensRefusal t refusal
of_check t u refusal reads is = OfCheck refusal (u, reads) is
