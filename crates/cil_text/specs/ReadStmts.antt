-- Device: the executable reading of CIL's statements (C11 6.8) from lines of words: each line is a head, and heads nest as their braces do.
use Rattle.std.specs.Prelude.{ℕ, suc, zero, ◌&&◌, Bool, true, false, if◌then◌else◌, List, [], ◌∷◌, Option, Some, None, codes, ℤ, pos, negsuc}
use Rattle.std.specs.Option.{option_map, option_and_then}
use Rattle.std.specs.Str.{bytes_eq}
use Rattle.cil_base.specs.declared.kinds.Abi.{Abi}
use Rattle.cil_base.specs.declared.kinds.IntKind.{IntKind}
use Rattle.cil_base.specs.Integer.{kind_in}
use Rattle.cil_base.specs.declared.operators.BinOp.TheVariants.{Sub, And}
use Rattle.cil_tree.specs.Tree.{Exp, Value, Global, At, Here, Lval, Place, Callee, Direct, Through, Instr, Set, Call, Zero, Stmt, Do, If, Switch, Loop, Block, Label, Case, Default, Goto, Break, Return, Stmts, Done, Seq}
use Rattle.cil_text.specs.Words.{Word, LeftParen, RightParen, LeftBrace, RightBrace, Comma, Semicolon, Colon, Assign, Operator, IfWord, ElseWord, SwitchWord, WhileWord, CaseWord, DefaultWord, GotoWord, BreakWord, ReturnWord, Number, Name}
use Rattle.cil_text.specs.ReadTypes.{Reading, find, skip_one, is_closing}
use Rattle.cil_text.specs.ReadExps.{Env, enclosed, read_place, read_exp}

-- arguments

abbrev pub argument_first : Exp → List Exp × List Word → List Exp × List Word
argument_first e r = (e ∷ r.0, r.1)

abbrev pub read_next : (List Word → Reading (List Exp)) → Exp → List Word → Reading (List Exp)
read_next again e (RightParen ∷ ws) = Some (e ∷ [], ws)
read_next again e (Comma ∷ ws) = option_map (argument_first e) (again ws)
read_next again e _ = None

abbrev pub read_list : (List Word → Reading Exp) → ℕ → List Word → Reading (List Exp)
read_list exp zero ws = None
read_list exp (suc k) ws = option_and_then (λ (r : Exp × List Word). read_next (read_list exp k) r.0 r.1) (exp ws)

-- behind the `(` of a call
abbrev pub read_args : (List Word → Reading Exp) → ℕ → List Word → Reading (List Exp)
read_args exp k ws = if is_closing ws then Some ([], skip_one ws) else read_list exp k ws

-- instructions

abbrev pub memset : List ℕ
memset = codes "__builtin_memset"

abbrev pub opens_address : List Word → Bool
opens_address (LeftParen ∷ Operator And ∷ ws) = true
opens_address _ = false

-- a zero fill: no call of that function has an address first, since it takes a pointer to void
abbrev pub is_zero : List Word → Bool
is_zero (Name name ∷ LeftParen ∷ ws) = bytes_eq name memset && opens_address ws
is_zero _ = false

abbrev pub behind_address : List Word → List Word
behind_address (name ∷ open_ ∷ paren ∷ address ∷ ws) = ws
behind_address _ = []

abbrev pub zero_from : Lval × List Word → Option Instr
zero_from r = Some (Zero r.0)

-- the end of a line
abbrev pub line_end : {A : Type 0} → A → List Word → Option A
line_end x (Semicolon ∷ []) = Some x
line_end x _ = None

-- what is called where a place stands before `(`
abbrev pub callee_of : Lval → Option Callee
callee_of (Place (Global n) Here) = Some (Direct n)
callee_of (Place (At pointer) Here) = Some (Through pointer)
callee_of _ = None

abbrev pub called_place : Exp → Option Callee
called_place (Value place) = callee_of place
called_place _ = None

abbrev pub read_call : (List Word → Reading Exp) → ℕ → Option Lval → Callee → List Word → Option Instr
read_call exp k result callee ws = option_and_then (λ (r : List Exp × List Word). line_end (Call result callee r.0) r.1) (read_args exp k ws)

abbrev pub read_assigned : (List Word → Reading Exp) → ℕ → Lval → Exp → List Word → Option Instr
read_assigned exp k place e (LeftParen ∷ ws) = option_and_then (λ (f : Callee). read_call exp k (Some place) f ws) (called_place e)
read_assigned exp k place e ws = line_end (Set place e) ws

abbrev pub read_effect : (List Word → Reading Exp) → ℕ → Lval → List Word → Option Instr
read_effect exp k place (Assign ∷ ws) = option_and_then (λ (r : Exp × List Word). read_assigned exp k place r.0 r.1) (exp ws)
read_effect exp k place (LeftParen ∷ ws) = option_and_then (λ (f : Callee). read_call exp k None f ws) (callee_of place)
read_effect exp k place _ = None

abbrev pub read_instr : Env → ℕ → List Word → Option Instr
read_instr env n ws =
    if is_zero ws then option_and_then zero_from (read_place env (read_exp env n) n (behind_address ws))
    else option_and_then (λ (r : Lval × List Word). read_effect (read_exp env n) n r.0 r.1) (read_place env (read_exp env n) n ws)

-- numbers with signs

abbrev pub is_minus : List Word → Bool
is_minus (Operator Sub ∷ ws) = true
is_minus _ = false

abbrev pub negated : ℕ → ℤ
negated zero = pos zero
negated (suc n) = negsuc n

abbrev pub Numbered : Type 0
Numbered = IntKind × ℤ

-- `- n`, or `- M - 1`, which is the least value of a kind
abbrev pub read_number : List Word → Reading Numbered
read_number (Number kind n ∷ ws) = Some ((kind, pos n), ws)
read_number (Operator Sub ∷ Number kind n ∷ ws) = if is_minus ws then Some ((kind, negsuc n), skip_one (skip_one ws)) else Some ((kind, negated n), ws)
read_number _ = None

-- lines

pub data Head : Type 0 where
  Whole : (stmt : Stmt) → Head
  Tested : (test : Exp) → Head
  Turned : (value : Exp) → Head
  Looped : Head
  Opened : Head
  Otherwise : Head
  Closed : Head

-- behind `if` or `switch`
abbrev pub opened_by : (Exp → Head) → Exp × List Word → Option Head
opened_by f (e, LeftBrace ∷ []) = Some (f e)
opened_by f _ = None

abbrev pub read_tested : Env → ℕ → (Exp → Head) → List Word → Option Head
read_tested env n f (LeftParen ∷ ws) = option_and_then (opened_by f) (enclosed (λ (e : Exp). e) (read_exp env n ws))
read_tested env n f _ = None

abbrev pub is_end_of_line : List Word → Bool
is_end_of_line (Semicolon ∷ ws) = true
is_end_of_line _ = false

abbrev pub returned : Exp × List Word → Option Stmt
returned r = line_end (Return (Some r.0)) r.1

abbrev pub read_return : Env → ℕ → List Word → Option Head
read_return env n ws = if is_end_of_line ws then Some (Whole (Return None)) else option_map Whole (option_and_then returned (read_exp env n ws))

abbrev pub case_of : Abi → Numbered × List Word → Option Head
case_of abi (x, Colon ∷ Semicolon ∷ []) = Some (Whole (Case (kind_in abi x.0) x.1))
case_of abi _ = None

abbrev pub is_label : List Word → Bool
is_label (Name name ∷ Colon ∷ ws) = true
is_label _ = false

abbrev pub label_text : List Word → List ℕ
label_text (Name name ∷ ws) = name
label_text _ = []

abbrev pub read_simple : Env → List (List ℕ) → ℕ → List Word → Option Head
read_simple env labels n ws = if is_label ws then option_map (λ (l : ℕ). Whole (Label l)) (find (label_text ws) labels) else option_map (λ (i : Instr). Whole (Do i)) (read_instr env n ws)

-- a line of a function with these labels
abbrev pub read_head : Env → List (List ℕ) → ℕ → List Word → Option Head
read_head env labels n (IfWord ∷ ws) = read_tested env n Tested ws
read_head env labels n (SwitchWord ∷ ws) = read_tested env n Turned ws
read_head env labels n (WhileWord ∷ ws) = Some Looped
read_head env labels n (LeftBrace ∷ ws) = Some Opened
read_head env labels n (RightBrace ∷ ElseWord ∷ ws) = Some Otherwise
read_head env labels n (RightBrace ∷ ws) = Some Closed
read_head env labels n (CaseWord ∷ ws) = option_and_then (case_of env.abi) (read_number ws)
read_head env labels n (DefaultWord ∷ ws) = Some (Whole Default)
read_head env labels n (GotoWord ∷ ws) = option_map (λ (l : ℕ). Whole (Goto l)) (find (label_text ws) labels)
read_head env labels n (BreakWord ∷ ws) = Some (Whole Break)
read_head env labels n (ReturnWord ∷ ws) = read_return env n ws
read_head env labels n ws = read_simple env labels n ws

abbrev pub head_first : Head → List Head → List Head
head_first h hs = h ∷ hs

abbrev pub read_heads : Env → List (List ℕ) → ℕ → List (List Word) → Option (List Head)
read_heads env labels n [] = Some []
read_heads env labels n (line ∷ lines) = option_and_then (λ (h : Head). option_map (head_first h) (read_heads env labels n lines)) (read_head env labels n line)

-- nesting

abbrev pub Nested : Type 0
Nested = Option (Stmts × List Head)

abbrev pub seq_first : Stmt → Stmts × List Head → Stmts × List Head
seq_first s r = (Seq s r.0, r.1)

-- statements, what closes them, and what follows
abbrev pub closed_block : (List Head → Nested) → (Stmts → Stmt) → Stmts × List Head → Nested
closed_block again f (body, Closed ∷ hs) = option_map (seq_first (f body)) (again hs)
closed_block again f _ = None

abbrev pub otherwise : (List Head → Nested) → Exp → Stmts × List Head → Nested
otherwise again test (holds, Otherwise ∷ hs) = option_and_then (closed_block again (If test holds)) (again hs)
otherwise again test _ = None

abbrev pub nested_from : (List Head → Nested) → Head → List Head → Nested
nested_from again (Whole s) hs = option_map (seq_first s) (again hs)
nested_from again (Tested e) hs = option_and_then (otherwise again e) (again hs)
nested_from again (Turned e) hs = option_and_then (closed_block again (Switch e)) (again hs)
nested_from again Looped hs = option_and_then (closed_block again Loop) (again hs)
nested_from again Opened hs = option_and_then (closed_block again Block) (again hs)
nested_from again Otherwise hs = Some (Done, Otherwise ∷ hs)
nested_from again Closed hs = Some (Done, Closed ∷ hs)

abbrev pub read_nested : ℕ → List Head → Nested
read_nested zero hs = None
read_nested (suc n) [] = Some (Done, [])
read_nested (suc n) (h ∷ hs) = nested_from (read_nested n) h hs
