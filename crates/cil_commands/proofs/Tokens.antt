-- Device: the tokens from one on, over lists alone.
use Rattle.std.proofs.Common.{◌≡◌, sym, ap, subst, ◌∙◌, ℕ, zero, suc, ◌+◌, ◌≤◌, List, [], ◌∷◌, length, drop, slice_get, Option, Some, None, option_map, option_and_then, arith}
use Rattle.cil_base.specs.declared.tokens.Token.{Token}
use Rattle.c_lexer.specs.declared.entries.Entry.{Entry}
use Rattle.c_lexer.specs.Lexed.{Lexed, token_at, text_at, text_of}
use Rattle.c_meaning.specs.SourceFile.{spelled, spelled_in}
use Rattle.c_meaning.specs.Grammar.{Expression}
use Rattle.c_meaning.specs.Reading.{State, Context, fed, result_of, read_on, terminal_of}
use Rattle.std.proofs.lemmas.List.{length-map, drop_all}

next_in : (source : List ℕ) (entries : List Entry) (i : ℕ) (token : Token) (text : List ℕ) → option_map (λ (e : Entry). e.token) (slice_get entries i) ≡ Some token → option_map (text_of source) (slice_get entries i) ≡ Some text
    → drop i (spelled_in source entries) ≡ spelled token.kind text ∷ drop (suc i) (spelled_in source entries)
next_in source [] i token text one two = absurd (cc one)
next_in source (e ∷ es) zero token text one two = let same : e.token ≡ token = cc one in let is : text_of source e ≡ text = cc two in ap (λ (t : Token). spelled t.kind (text_of source e) ∷ spelled_in source es) same ∙ ap (λ t. spelled token.kind t ∷ spelled_in source es) is
next_in source (e ∷ es) (suc i) token text one two = next_in source es i token text one two

pub next_token : (t : Lexed) (i : ℕ) (token : Token) (text : List ℕ) → token_at t i ≡ Some token → text_at t i ≡ Some text
    → drop i (spelled_in t.source t.entries) ≡ spelled token.kind text ∷ drop (i + 1) (spelled_in t.source t.entries)
next_token t i token text one two =
    subst (λ n. drop i (spelled_in t.source t.entries) ≡ spelled token.kind text ∷ drop n (spelled_in t.source t.entries)) (let same : suc i ≡ i + 1 = omega arith in same) (next_in t.source t.entries i token text one two)

-- the reading's step at a token
pub token_on : (t : Lexed) (i : ℕ) (token : Token) (text : List ℕ) (state : State) (below : List Context) → token_at t i ≡ Some token → text_at t i ≡ Some text
    → read_on 509 (drop i (spelled_in t.source t.entries)) state below
    ≡ option_and_then (λ (next : State × List Context). read_on 509 (drop (i + 1) (spelled_in t.source t.entries)) next.0 next.1) (option_and_then (λ x. fed 509 x state below) (terminal_of (spelled token.kind text)))
token_on t i token text state below one two = ap (λ ts. read_on 509 ts state below) (next_token t i token text one two)

pub tokens_end : (t : Lexed) (i : ℕ) (state : State) (below : List Context) → length t.entries ≤ i → read_on 509 (drop i (spelled_in t.source t.entries)) state below ≡ result_of state
tokens_end t i state below all = ap (λ ts. read_on 509 ts state below) (drop_all i (spelled_in t.source t.entries) (omega (arith, all, length-map t.entries (λ (e : Entry). spelled e.token.kind (text_of t.source e)))))

pub none_behind : (t : Lexed) (i : ℕ) (token : Token) (text : List ℕ) (state : State) (below : List Context) (whole : Option Expression) (next : Option (State × List Context)) → token_at t i ≡ Some token → text_at t i ≡ Some text
    → read_on 509 (drop i (spelled_in t.source t.entries)) state below ≡ whole → next ≡ option_and_then (λ x. fed 509 x state below) (terminal_of (spelled token.kind text)) → next ≡ None → None ≡ whole
none_behind t i token text state below whole next one two now is none =
    ap (option_and_then (λ (n : State × List Context). read_on 509 (drop (i + 1) (spelled_in t.source t.entries)) n.0 n.1)) (sym none ∙ is) ∙ (sym (token_on t i token text state below one two) ∙ now)

pub some_behind : (t : Lexed) (i : ℕ) (token : Token) (text : List ℕ) (state : State) (below : List Context) (whole : Option Expression) (next : Option (State × List Context)) (after : State) (under : List Context) → token_at t i ≡ Some token → text_at t i ≡ Some text
    → read_on 509 (drop i (spelled_in t.source t.entries)) state below ≡ whole → next ≡ option_and_then (λ x. fed 509 x state below) (terminal_of (spelled token.kind text)) → next ≡ Some (after, under)
    → read_on 509 (drop (i + 1) (spelled_in t.source t.entries)) after under ≡ whole
some_behind t i token text state below whole next after under one two now is some =
    ap (option_and_then (λ (n : State × List Context). read_on 509 (drop (i + 1) (spelled_in t.source t.entries)) n.0 n.1)) (sym some ∙ is) ∙ (sym (token_on t i token text state below one two) ∙ now)
