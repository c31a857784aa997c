-- Device: the reading of statements gives back those of a body from its lines.
use Rattle.std.proofs.Common.{◌≡◌, ℕ, suc, zero, ◌+◌, ◌<◌, ◌≤◌, Bool, true, false, cond, List, [], ◌∷◌, ◌++◌, codes, Some, None, refl, ap, ◌∙◌, arith}
use Rattle.std.specs.Prelude.{ℤ}
use Rattle.std.specs.Option.{option_map, option_and_then}
use Rattle.cil_base.specs.declared.kinds.IntKind.{IntKind}
use Rattle.cil_base.specs.Integer.{kind_in}
use Rattle.cil_base.specs.Arithmetic.{fits}
use Rattle.cil_tree.specs.Tree.{Exp, Const, Value, Un, Bin, Cast, AddrOf, StartOf, Global, Var, At, Lval, Place, Instr, Set, Call, Zero, Direct, Through, Stmt, Do, If, Switch, Loop, Block, Label, Case, Default, Goto, Break, Return, Stmts, Done, Seq, Program}
use Rattle.cil_tree.specs.Typing.{Scope}
use Rattle.cil_tree.specs.Lines.{Token, Line}
use Rattle.cil_tree.specs.Declarators.{number}
use Rattle.cil_tree.specs.Names.{is_name}
use Rattle.cil_tree.specs.Text.{label_name, exp_tokens, instr_tokens, closed, heading, closing, return_tokens, stmt_lines, lines_of}
use Rattle.cil_text.specs.Words.{Word, LeftParen, RightParen, LeftBrace, RightBrace, Semicolon, Colon, ElseWord, CaseWord, DefaultWord, GotoWord, BreakWord, ReturnWord, word_of, onto}
use Rattle.cil_text.specs.ReadTypes.{find}
use Rattle.cil_text.specs.ReadExps.{Env, enclosed, read_exp}
use Rattle.cil_text.specs.Known.{env_of}
use Rattle.cil_text.specs.ReadStmts.{Head, Whole, Tested, Turned, Looped, Opened, Otherwise, Closed, is_end_of_line, returned, opened_by, read_tested, read_return, case_of, label_text, read_simple, read_instr, read_head, read_heads, read_number, seq_first, closed_block, otherwise, read_nested}
use Rattle.cil_text.proofs.WordsBack.{onto_append, name_word, suffix_kind}
use Rattle.cil_text.proofs.ExpsBack.{weight, exp_spelled, place_spelled, exp_back}
use Rattle.cil_text.proofs.Told.{Told, enclosed_words}
use Rattle.cil_text.proofs.NumbersBack.{number_back}
use Rattle.cil_text.proofs.InstrsBack.{InstrTold, instr_weight, instr_spelled, instr_words, instr_is_no_label, instr_back}

-- lines as words, in front of others
abbrev pub lines_onto : List Line → List (List Word) → List (List Word)
lines_onto [] more = more
lines_onto (line ∷ lines) more = onto line [] ∷ lines_onto lines more

pub lines_append : (a b : List Line) (more : List (List Word)) → lines_onto (a ++ b) more ≡ lines_onto a (lines_onto b more)
lines_append [] b more = refl
lines_append (line ∷ a) b more = ap (λ (ls : List (List Word)). onto line [] ∷ ls) (lines_append a b more)

abbrev mutual
  pub stmt_heads : Stmt → List Head → List Head
  stmt_heads (If test holds fails) hs = Tested test ∷ heads_of holds (Otherwise ∷ heads_of fails (Closed ∷ hs))
  stmt_heads (Switch value body) hs = Turned value ∷ heads_of body (Closed ∷ hs)
  stmt_heads (Loop body) hs = Looped ∷ heads_of body (Closed ∷ hs)
  stmt_heads (Block body) hs = Opened ∷ heads_of body (Closed ∷ hs)
  stmt_heads s hs = Whole s ∷ hs

  pub heads_of : Stmts → List Head → List Head
  heads_of Done hs = hs
  heads_of (Seq first rest) hs = stmt_heads first (heads_of rest hs)

abbrev mutual
  pub stmt_weight : Stmt → ℕ
  stmt_weight (Do instr) = 1 + instr_weight instr
  stmt_weight (If test holds fails) = 3 + weight test + stmts_weight holds + stmts_weight fails
  stmt_weight (Switch value body) = 2 + weight value + stmts_weight body
  stmt_weight (Loop body) = 2 + stmts_weight body
  stmt_weight (Block body) = 2 + stmts_weight body
  stmt_weight (Return (Some e)) = 1 + weight e
  stmt_weight _ = 1

  pub stmts_weight : Stmts → ℕ
  stmts_weight Done = 0
  stmts_weight (Seq first rest) = 1 + stmt_weight first + stmts_weight rest

-- a label that is found by its name
abbrev pub IsLabelOf : Scope → ℕ → Type 0
IsLabelOf c n = (is_name (label_name c n) ≡ true) × (find (label_name c n) c.labels ≡ Some n)

abbrev mutual
  -- statements whose tokens are read back
  pub StmtTold : Scope → Stmt → Type 0
  StmtTold c (Do instr) = InstrTold c instr
  StmtTold c (If test holds fails) = Told c test × StmtsTold c holds × StmtsTold c fails
  StmtTold c (Switch value body) = Told c value × StmtsTold c body
  StmtTold c (Loop body) = StmtsTold c body
  StmtTold c (Block body) = StmtsTold c body
  StmtTold c (Label n) = IsLabelOf c n
  StmtTold c (Case k v) = (kind_in c.program.graph.abi (suffix_kind k) ≡ k) × (fits k v ≡ true)
  StmtTold c Default = Unit {0}
  StmtTold c (Goto n) = IsLabelOf c n
  StmtTold c Break = Unit {0}
  StmtTold c (Return None) = Unit {0}
  StmtTold c (Return (Some e)) = Told c e

  pub StmtsTold : Scope → Stmts → Type 0
  StmtsTold c Done = Unit {0}
  StmtsTold c (Seq first rest) = StmtTold c first × StmtsTold c rest

-- heads nest as the statements do

abbrev is_ending : List Head → Bool
is_ending [] = true
is_ending (Otherwise ∷ hs) = true
is_ending (Closed ∷ hs) = true
is_ending _ = false

end_back : (n : ℕ) (hs : List Head) → is_ending hs ≡ true → read_nested (suc n) hs ≡ Some (Done, hs)
end_back n [] e = refl
end_back n (Otherwise ∷ hs) e = refl
end_back n (Closed ∷ hs) e = refl
end_back n (h ∷ hs) e = absurd (cc e)

pub nested_back : (n : ℕ) (ss : Stmts) (hs : List Head) → stmts_weight ss < n → is_ending hs ≡ true → read_nested n (heads_of ss hs) ≡ Some (ss, hs)
nested_back zero ss hs low e = absurd (omega arith)
nested_back (suc n) Done hs low e = end_back n hs e
nested_back (suc n) (Seq (If test holds fails) rest) hs low e =
    let more = heads_of rest hs in
    ap (option_and_then (otherwise (read_nested n) test)) (nested_back n holds (Otherwise ∷ heads_of fails (Closed ∷ more)) (omega arith) refl)
    ∙ ap (option_and_then (closed_block (read_nested n) (If test holds))) (nested_back n fails (Closed ∷ more) (omega arith) refl)
    ∙ ap (option_map (seq_first (If test holds fails))) (nested_back n rest hs (omega arith) e)
nested_back (suc n) (Seq (Switch value body) rest) hs low e =
    ap (option_and_then (closed_block (read_nested n) (Switch value))) (nested_back n body (Closed ∷ heads_of rest hs) (omega arith) refl)
    ∙ ap (option_map (seq_first (Switch value body))) (nested_back n rest hs (omega arith) e)
nested_back (suc n) (Seq (Loop body) rest) hs low e =
    ap (option_and_then (closed_block (read_nested n) Loop)) (nested_back n body (Closed ∷ heads_of rest hs) (omega arith) refl)
    ∙ ap (option_map (seq_first (Loop body))) (nested_back n rest hs (omega arith) e)
nested_back (suc n) (Seq (Block body) rest) hs low e =
    ap (option_and_then (closed_block (read_nested n) Block)) (nested_back n body (Closed ∷ heads_of rest hs) (omega arith) refl)
    ∙ ap (option_map (seq_first (Block body))) (nested_back n rest hs (omega arith) e)
nested_back (suc n) (Seq (Do instr) rest) hs low e = ap (option_map (seq_first (Do instr))) (nested_back n rest hs (omega arith) e)
nested_back (suc n) (Seq (Label l) rest) hs low e = ap (option_map (seq_first (Label l))) (nested_back n rest hs (omega arith) e)
nested_back (suc n) (Seq (Case k v) rest) hs low e = ap (option_map (seq_first (Case k v))) (nested_back n rest hs (omega arith) e)
nested_back (suc n) (Seq Default rest) hs low e = ap (option_map (seq_first Default)) (nested_back n rest hs (omega arith) e)
nested_back (suc n) (Seq (Goto l) rest) hs low e = ap (option_map (seq_first (Goto l))) (nested_back n rest hs (omega arith) e)
nested_back (suc n) (Seq Break rest) hs low e = ap (option_map (seq_first Break)) (nested_back n rest hs (omega arith) e)
nested_back (suc n) (Seq (Return None) rest) hs low e = ap (option_map (seq_first (Return None))) (nested_back n rest hs (omega arith) e)
nested_back (suc n) (Seq (Return (Some v)) rest) hs low e = ap (option_map (seq_first (Return (Some v)))) (nested_back n rest hs (omega arith) e)

-- each line gives its head

pub closed_words : (ts : List Token) → onto (closed ts) [] ≡ onto ts (Semicolon ∷ [])
unfolding word_of
closed_words ts = onto_append ts (codes ";" ∷ []) []

place_head : (c : Scope) (n : ℕ) (place : Lval) (rest : List Word) → read_head (env_of c) c.labels n (place_spelled c.program (env_of c) place rest) ≡ read_simple (env_of c) c.labels n (place_spelled c.program (env_of c) place rest)
place_head c n (Place (Global m) o) rest = refl
place_head c n (Place (Var m) o) rest = refl
place_head c n (Place (At q) o) rest = refl

instr_simple : (c : Scope) (n : ℕ) (i : Instr) → read_head (env_of c) c.labels n (instr_spelled c i) ≡ read_simple (env_of c) c.labels n (instr_spelled c i)
instr_simple c n (Set place value) = place_head c n place _
instr_simple c n (Call None (Direct m) arguments) = refl
instr_simple c n (Call None (Through q) arguments) = refl
instr_simple c n (Call (Some place) callee arguments) = place_head c n place _
instr_simple c n (Zero place) = refl

instr_head : (c : Scope) (n : ℕ) (i : Instr) → instr_weight i ≤ n → InstrTold c i → read_head (env_of c) c.labels n (onto (closed (instr_tokens c i)) []) ≡ Some (Whole (Do i))
instr_head c n i low told =
    ap (read_head (env_of c) c.labels n) (closed_words (instr_tokens c i) ∙ instr_words c i told)
    ∙ instr_simple c n i
    ∙ ap (λ b. cond b (option_map (λ (l : ℕ). Whole (Label l)) (find (label_text (instr_spelled c i)) c.labels)) (option_map (λ (x : Instr). Whole (Do x)) (read_instr (env_of c) n (instr_spelled c i)))) (instr_is_no_label c i told)
    ∙ ap (option_map (λ (x : Instr). Whole (Do x))) (instr_back c n i low told)

heading_words : (c : Scope) (e : Exp) → Told c e → onto ((exp_tokens c e ++ codes ")" ∷ []) ++ codes "{" ∷ []) [] ≡ exp_spelled c.program (env_of c) e (RightParen ∷ LeftBrace ∷ [])
unfolding word_of
heading_words c e told = onto_append (exp_tokens c e ++ codes ")" ∷ []) (codes "{" ∷ []) [] ∙ enclosed_words (exp_tokens c e) (LeftBrace ∷ []) ∙ told.0 (RightParen ∷ LeftBrace ∷ [])

tested_back : (c : Scope) (n : ℕ) (f : Exp → Head) (e : Exp) → weight e < n → Told c e → read_tested (env_of c) n f (LeftParen ∷ onto ((exp_tokens c e ++ codes ")" ∷ []) ++ codes "{" ∷ []) []) ≡ Some (f e)
tested_back c n f e low told =
    ap (λ (ws : List Word). read_tested (env_of c) n f (LeftParen ∷ ws)) (heading_words c e told)
    ∙ ap (λ o. option_and_then (opened_by f) (enclosed (λ (x : Exp). x) o)) (exp_back c.program (env_of c) refl n e (RightParen ∷ LeftBrace ∷ []) low told.1 refl)

no_end : (p : Program) (env : Env) (e : Exp) (rest : List Word) → is_end_of_line (exp_spelled p env e rest) ≡ false
no_end p env (Const k v) rest = refl
no_end p env (Value (Place (Global n) o)) rest = refl
no_end p env (Value (Place (Var n) o)) rest = refl
no_end p env (Value (Place (At q) o)) rest = refl
no_end p env (Un op e) rest = refl
no_end p env (Bin op l r) rest = refl
no_end p env (Cast to e) rest = refl
no_end p env (AddrOf place) rest = refl
no_end p env (StartOf (Place (Global n) o)) rest = refl
no_end p env (StartOf (Place (Var n) o)) rest = refl
no_end p env (StartOf (Place (At q) o)) rest = refl

return_head : (c : Scope) (n : ℕ) (e : Exp) → weight e < n → Told c e → read_return (env_of c) n (onto (exp_tokens c e ++ codes ";" ∷ []) []) ≡ Some (Whole (Return (Some e)))
return_head c n e low told =
    ap (read_return (env_of c) n) (closed_words (exp_tokens c e) ∙ told.0 (Semicolon ∷ []))
    ∙ ap (λ b. cond b (Some (Whole (Return None))) (option_map Whole (option_and_then returned (read_exp (env_of c) n (exp_spelled c.program (env_of c) e (Semicolon ∷ [])))))) (no_end c.program (env_of c) e (Semicolon ∷ []))
    ∙ ap (λ o. option_map Whole (option_and_then returned o)) (exp_back c.program (env_of c) refl n e (Semicolon ∷ []) low told.1 refl)

label_head : (c : Scope) (n l : ℕ) → IsLabelOf c l → read_head (env_of c) c.labels n (word_of (label_name c l) ∷ Colon ∷ Semicolon ∷ []) ≡ Some (Whole (Label l))
label_head c n l is =
    ap (λ (w : Word). read_head (env_of c) c.labels n (w ∷ Colon ∷ Semicolon ∷ [])) (name_word (label_name c l) is.0)
    ∙ ap (option_map (λ (m : ℕ). Whole (Label m))) is.1

goto_head : (c : Scope) (n l : ℕ) → IsLabelOf c l → read_head (env_of c) c.labels n (GotoWord ∷ word_of (label_name c l) ∷ Semicolon ∷ []) ≡ Some (Whole (Goto l))
goto_head c n l is =
    ap (λ (w : Word). read_head (env_of c) c.labels n (GotoWord ∷ w ∷ Semicolon ∷ [])) (name_word (label_name c l) is.0)
    ∙ ap (option_map (λ (m : ℕ). Whole (Goto m))) is.1

case_head : (c : Scope) (n : ℕ) (k : IntKind) (v : ℤ) → kind_in c.program.graph.abi (suffix_kind k) ≡ k → fits k v ≡ true → read_head (env_of c) c.labels n (CaseWord ∷ onto (number k v ++ codes ":" ∷ codes ";" ∷ []) []) ≡ Some (Whole (Case k v))
unfolding word_of
case_head c n k v same small =
    ap (λ (ws : List Word). option_and_then (case_of c.program.graph.abi) (read_number ws)) (onto_append (number k v) (codes ":" ∷ codes ";" ∷ []) [])
    ∙ ap (option_and_then (case_of c.program.graph.abi)) (number_back k v (Colon ∷ Semicolon ∷ []) small refl)
    ∙ ap (λ (x : IntKind). Some (Whole (Case x v))) same

line_step : (c : Scope) (n : ℕ) (line : List Word) (more : List (List Word)) (h : Head) (hs : List Head) → read_head (env_of c) c.labels n line ≡ Some h → read_heads (env_of c) c.labels n more ≡ Some hs → read_heads (env_of c) c.labels n (line ∷ more) ≡ Some (h ∷ hs)
line_step c n line more h hs e f = rw (e, f) refl

-- statements, and the brace that closes them
closed_lines : (c : Scope) (n : ℕ) (ss : Stmts) (more : List (List Word)) (hs : List Head) →
    ((others : List (List Word)) (gs : List Head) → read_heads (env_of c) c.labels n others ≡ Some gs → read_heads (env_of c) c.labels n (lines_onto (lines_of c ss) others) ≡ Some (heads_of ss gs)) →
    read_heads (env_of c) c.labels n more ≡ Some hs → read_heads (env_of c) c.labels n (lines_onto (lines_of c ss ++ closing ∷ []) more) ≡ Some (heads_of ss (Closed ∷ hs))
unfolding word_of
closed_lines c n ss more hs back e =
    ap (read_heads (env_of c) c.labels n) (lines_append (lines_of c ss) (closing ∷ []) more)
    ∙ back ((RightBrace ∷ []) ∷ more) (Closed ∷ hs) (line_step c n (RightBrace ∷ []) more Closed hs refl e)

mutual
  unfolding word_of

  stmt_back : (c : Scope) (n : ℕ) (s : Stmt) (more : List (List Word)) (hs : List Head) → stmt_weight s ≤ n → StmtTold c s → read_heads (env_of c) c.labels n more ≡ Some hs → read_heads (env_of c) c.labels n (lines_onto (stmt_lines c s) more) ≡ Some (stmt_heads s hs)
  stmt_back c n (Do instr) more hs low told e = line_step c n (onto (closed (instr_tokens c instr)) []) more (Whole (Do instr)) hs (instr_head c n instr (omega arith) told) e
  stmt_back c n (If test holds fails) more hs low told e =
      line_step c n (onto (heading (codes "if") (exp_tokens c test)) []) (lines_onto (lines_of c holds ++ (codes "}" ∷ codes "else" ∷ codes "{" ∷ []) ∷ (lines_of c fails ++ closing ∷ [])) more) (Tested test) (heads_of holds (Otherwise ∷ heads_of fails (Closed ∷ hs))) (tested_back c n Tested test (omega arith) told.0)
      (ap (read_heads (env_of c) c.labels n) (lines_append (lines_of c holds) ((codes "}" ∷ codes "else" ∷ codes "{" ∷ []) ∷ (lines_of c fails ++ closing ∷ [])) more)
      ∙ stmts_back c n holds (lines_onto ((codes "}" ∷ codes "else" ∷ codes "{" ∷ []) ∷ (lines_of c fails ++ closing ∷ [])) more) (Otherwise ∷ heads_of fails (Closed ∷ hs)) (omega arith) told.1
      (line_step c n (RightBrace ∷ ElseWord ∷ LeftBrace ∷ []) (lines_onto (lines_of c fails ++ closing ∷ []) more) Otherwise (heads_of fails (Closed ∷ hs)) refl (closed_lines c n fails more hs (λ others gs d. stmts_back c n fails others gs (omega arith) told.2 d) e)))
  stmt_back c n (Switch value body) more hs low told e =
      line_step c n (onto (heading (codes "switch") (exp_tokens c value)) []) (lines_onto (lines_of c body ++ closing ∷ []) more) (Turned value) (heads_of body (Closed ∷ hs)) (tested_back c n Turned value (omega arith) told.0) (closed_lines c n body more hs (λ others gs d. stmts_back c n body others gs (omega arith) told.1 d) e)
  stmt_back c n (Loop body) more hs low told e = line_step c n (onto (heading (codes "while") (codes "1" ∷ [])) []) (lines_onto (lines_of c body ++ closing ∷ []) more) Looped (heads_of body (Closed ∷ hs)) refl (closed_lines c n body more hs (λ others gs d. stmts_back c n body others gs (omega arith) told d) e)
  stmt_back c n (Block body) more hs low told e = line_step c n (onto (codes "{" ∷ []) []) (lines_onto (lines_of c body ++ closing ∷ []) more) Opened (heads_of body (Closed ∷ hs)) refl (closed_lines c n body more hs (λ others gs d. stmts_back c n body others gs (omega arith) told d) e)
  stmt_back c n (Label l) more hs low told e = line_step c n (word_of (label_name c l) ∷ Colon ∷ Semicolon ∷ []) more (Whole (Label l)) hs (label_head c n l told) e
  stmt_back c n (Case k v) more hs low told e = line_step c n (CaseWord ∷ onto (number k v ++ codes ":" ∷ codes ";" ∷ []) []) more (Whole (Case k v)) hs (case_head c n k v told.0 told.1) e
  stmt_back c n Default more hs low told e = line_step c n (DefaultWord ∷ Colon ∷ Semicolon ∷ []) more (Whole Default) hs refl e
  stmt_back c n (Goto l) more hs low told e = line_step c n (GotoWord ∷ word_of (label_name c l) ∷ Semicolon ∷ []) more (Whole (Goto l)) hs (goto_head c n l told) e
  stmt_back c n Break more hs low told e = line_step c n (BreakWord ∷ Semicolon ∷ []) more (Whole Break) hs refl e
  stmt_back c n (Return None) more hs low told e = line_step c n (ReturnWord ∷ Semicolon ∷ []) more (Whole (Return None)) hs refl e
  stmt_back c n (Return (Some v)) more hs low told e = line_step c n (onto (closed (return_tokens c (Some v))) []) more (Whole (Return (Some v))) hs (return_head c n v (omega arith) told) e

  pub stmts_back : (c : Scope) (n : ℕ) (ss : Stmts) (more : List (List Word)) (hs : List Head) → stmts_weight ss ≤ n → StmtsTold c ss → read_heads (env_of c) c.labels n more ≡ Some hs → read_heads (env_of c) c.labels n (lines_onto (lines_of c ss) more) ≡ Some (heads_of ss hs)
  stmts_back c n Done more hs low told e = e
  stmts_back c n (Seq first rest) more hs low told e =
      ap (read_heads (env_of c) c.labels n) (lines_append (stmt_lines c first) (lines_of c rest) more)
      ∙ stmt_back c n first (lines_onto (lines_of c rest) more) (heads_of rest hs) (omega arith) told.0 (stmts_back c n rest more hs (omega arith) told.1 e)
