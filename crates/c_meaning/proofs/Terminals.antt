-- The tokens of the form among the tokens of a unit.
use Rattle.std.proofs.Common.{◌≡◌, refl, sym, ap, ◌∙◌, ℕ, ◌^◌, ◌<◌, ◌&&◌, true, nat_lt, List, [], ◌∷◌, map, codes, decimal, bytes_eq, Option, Some, None, option_and_then, arith}
use Rattle.std.specs.Str.Parse.{digits_value, AllDigits}
use Rattle.std.proofs.lemmas.Bool.{cond-true, cond_both, and_parts, ltb-true, lt-ltb}
use Rattle.std.proofs.lemmas.Fmt.{digits_value-decimal}
use Rattle.std.proofs.lemmas.Slice.Eq.{bytes_eq-Decides}
use Rattle.std.proofs.lemmas.Str.Parse.{IsNumeralModel}
use Rattle.cil_base.specs.declared.tokens.Keyword.{Keyword}
use Rattle.cil_base.specs.declared.tokens.Keyword.TheVariants.{Int, Void, Return}
use Rattle.cil_base.specs.declared.tokens.Punctuator.{Punctuator}
use Rattle.cil_base.specs.declared.tokens.Punctuator.TheVariants.{LeftParen, RightParen, LeftBrace, RightBrace, Semicolon as SemicolonSign, Plus as PlusSign, Minus as MinusSign}
use Rattle.c_meaning.specs.SourceFile.{Spelled, Word, Sign, Identifier, Constant as Digits, CharacterConstant, StringLiteral}
use Rattle.c_meaning.specs.Grammar.{Expression}
use Rattle.c_meaning.specs.Reading.{Terminal, IntWord, MainWord, VoidWord, ReturnWord, Number, OpenParen, CloseParen, OpenBrace, CloseBrace, Semicolon, Plus, Minus, token_of, word_terminal, sign_terminal, number_terminal, name_terminal, terminal_of, Context, State, fed, result_of, run, read_on}
use Rattle.c_meaning.proofs.Parsed.{IsSmall, AreSmall}

own : IsNumeralModel (AllDigits 10) (digits_value 10)
own = record { to = λ ds h. h; from = λ ds h. h; same = λ ds h. refl }

pub number_terminal-decimal : (value : ℕ) → value < 2 ^ 31 → number_terminal (decimal value) ≡ Some (Number value)
unfolding number_terminal
number_terminal-decimal value small =
    rw (digits_value-decimal own value (omega arith))
    (cond-true (nat_lt value (2 ^ 31) && bytes_eq (decimal value) (decimal value)) _ _ (rw (lt-ltb value _ small, (bytes_eq-Decides (decimal value) (decimal value)).1 refl) refl))

known : (t : Terminal) → IsSmall t → terminal_of (token_of t) ≡ Some t
unfolding name_terminal
known (Number value) small = number_terminal-decimal value small
known MainWord small = refl
known IntWord small = refl
known VoidWord small = refl
known ReturnWord small = refl
known OpenParen small = refl
known CloseParen small = refl
known OpenBrace small = refl
known CloseBrace small = refl
known Semicolon small = refl
known Plus small = refl
known Minus small = refl

onward : (limit : ℕ) (ts : List Terminal) (o : Option (State × List Context)) → ((next : State × List Context) → read_on limit (map token_of ts) next.0 next.1 ≡ run limit ts next.0 next.1)
    → option_and_then (λ (next : State × List Context). read_on limit (map token_of ts) next.0 next.1) o ≡ option_and_then (λ (next : State × List Context). run limit ts next.0 next.1) o
onward limit ts None on = refl
onward limit ts (Some next) on = on next

pub run_on : (limit : ℕ) (ts : List Terminal) (state : State) (below : List Context) → AreSmall ts → read_on limit (map token_of ts) state below ≡ run limit ts state below
run_on limit [] state below small = refl
run_on limit (t ∷ ts) state below small =
    ap (λ o. option_and_then (λ (next : State × List Context). read_on limit (map token_of ts) next.0 next.1) (option_and_then (λ token. fed limit token state below) o)) (known t small.0)
    ∙ onward limit ts (fed limit t state below) (λ next. run_on limit ts next.0 next.1 small.1)

-- and a token of the form is one

abbrev IsOf : Spelled → Option Terminal → Type 0
IsOf token None = Unit {0}
IsOf token (Some t) = (token_of t ≡ token) × IsSmall t

word_is : (keyword : Keyword) → IsOf (Word keyword) (word_terminal keyword)
word_is Int = (refl, tt)
word_is Void = (refl, tt)
word_is Return = (refl, tt)
word_is _ = tt

sign_is : (punctuator : Punctuator) → IsOf (Sign punctuator) (sign_terminal punctuator)
sign_is LeftParen = (refl, tt)
sign_is RightParen = (refl, tt)
sign_is LeftBrace = (refl, tt)
sign_is RightBrace = (refl, tt)
sign_is SemicolonSign = (refl, tt)
sign_is PlusSign = (refl, tt)
sign_is MinusSign = (refl, tt)
sign_is _ = tt

name_is : (text : List ℕ) → IsOf (Identifier text) (name_terminal text)
unfolding name_terminal
name_is text = cond_both (bytes_eq text (codes "main")) _ _ (IsOf (Identifier text)) (λ is. (ap Identifier (sym ((bytes_eq-Decides text _).0 is)), tt)) (λ _. tt)

number_is : (text : List ℕ) → IsOf (Digits text) (number_terminal text)
unfolding number_terminal
number_is text =
    cond_both (nat_lt (digits_value 10 text) (2 ^ 31) && bytes_eq text (decimal (digits_value 10 text))) _ _ (IsOf (Digits text))
    (λ both. let parts : (nat_lt (digits_value 10 text) (2 ^ 31) ≡ true) × (bytes_eq text (decimal (digits_value 10 text)) ≡ true) = and_parts _ _ both in
    (ap Digits (sym ((bytes_eq-Decides text _).0 parts.1)), ltb-true _ _ parts.0))
    (λ _. tt)

token_is : (token : Spelled) → IsOf token (terminal_of token)
token_is (Word keyword) = word_is keyword
token_is (Sign punctuator) = sign_is punctuator
token_is (Identifier text) = name_is text
token_is (Digits text) = number_is text
token_is (CharacterConstant text) = tt
token_is (StringLiteral text) = tt

-- what is read are tokens of the form
pub record IsRun (limit : ℕ) (tokens : List Spelled) (state : State) (below : List Context) (e : Expression) : Type 0 where
  pub terminals : List Terminal
  pub are : map token_of terminals ≡ tokens
  pub small : AreSmall terminals
  pub runs : run limit terminals state below ≡ Some e

abbrev Later : ℕ → List Spelled → Expression → Type 0
Later limit tokens e = (next : State) (under : List Context) → read_on limit tokens next under ≡ Some e → IsRun limit tokens next under e

fed_on : (limit : ℕ) (token : Spelled) (tokens : List Spelled) (state : State) (below : List Context) (e : Expression) (t : Terminal) → IsOf token (Some t) → Later limit tokens e
    → (o : Option (State × List Context)) → fed limit t state below ≡ o
    → option_and_then (λ (next : State × List Context). read_on limit tokens next.0 next.1) o ≡ Some e → IsRun limit (token ∷ tokens) state below e
fed_on limit token tokens state below e t one later None fits is = absurd (cc is)
fed_on limit token tokens state below e t one later (Some next) fits is =
    let tail : IsRun limit tokens next.0 next.1 e = later next.0 next.1 is in
    record {
      terminals = t ∷ tail.terminals;
      are = ap (λ x. x ∷ map token_of tail.terminals) one.0 ∙ ap (λ xs. token ∷ xs) tail.are;
      small = (one.1, tail.small);
      runs = ap (option_and_then (λ (next : State × List Context). run limit tail.terminals next.0 next.1)) fits ∙ tail.runs;
    }

token_on : (limit : ℕ) (token : Spelled) (tokens : List Spelled) (state : State) (below : List Context) (e : Expression) → Later limit tokens e → (o : Option Terminal) → IsOf token o
    → option_and_then (λ (next : State × List Context). read_on limit tokens next.0 next.1) (option_and_then (λ t. fed limit t state below) o) ≡ Some e → IsRun limit (token ∷ tokens) state below e
token_on limit token tokens state below e later None one is = absurd (cc is)
token_on limit token tokens state below e later (Some t) one is = fed_on limit token tokens state below e t one later (fed limit t state below) refl is

pub on_run : (limit : ℕ) (tokens : List Spelled) (state : State) (below : List Context) (e : Expression) → read_on limit tokens state below ≡ Some e → IsRun limit tokens state below e
on_run limit [] state below e is = record { terminals = []; are = refl; small = tt; runs = is }
on_run limit (token ∷ tokens) state below e is = token_on limit token tokens state below e (λ next under more. on_run limit tokens next under e more) (terminal_of token) (token_is token) is
