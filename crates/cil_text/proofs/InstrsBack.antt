-- Device: the reading of instructions gives back each from its tokens.
use Rattle.std.proofs.Common.{◌≡◌, ℕ, suc, zero, ◌+◌, ◌≤◌, ◌&&◌, Bool, true, false, List, [], ◌∷◌, ◌++◌, codes, Option, Some, None, refl, ap, ◌∙◌, arith}
use Rattle.std.specs.Option.{option_map, option_and_then}
use Rattle.std.specs.Str.{bytes_eq}
use Rattle.cil_base.specs.declared.operators.UnOp.TheVariants.{Neg, Compl, Not}
use Rattle.cil_base.specs.declared.operators.BinOp.TheVariants.{And}
use Rattle.cil_tree.specs.Tree.{Exp, Const, Value, Un, Bin, Cast, AddrOf, StartOf, Global, Var, At, Here, Field, Index, Lval, Place, Callee, Direct, Through, Instr, Set, Call, Zero, Program}
use Rattle.cil_tree.specs.Typing.{Scope, place_type}
use Rattle.cil_tree.specs.Lines.{Token}
use Rattle.cil_tree.specs.Declarators.{separated, in_parentheses}
use Rattle.cil_tree.specs.Text.{exp_tokens, place_tokens, argument_tokens, callee_tokens, size_tokens, instr_tokens}
use Rattle.cil_text.specs.Words.{Word, LeftParen, RightParen, Comma, Semicolon, Assign, Operator, Name, word_of, onto}
use Rattle.cil_text.specs.ReadTypes.{is_closing}
use Rattle.cil_text.specs.ReadExps.{Env, name_at, is_array_type, type_at_place, read_exp, bases}
use Rattle.cil_text.specs.Known.{env_of, bases_of}
use Rattle.cil_text.specs.ReadStmts.{argument_first, read_next, read_list, read_args, memset, opens_address, is_zero, zero_from, line_end, callee_of, read_call, read_assigned, read_effect, read_instr, is_label}
use Rattle.cil_text.proofs.WordsBack.{onto_append}
use Rattle.cil_text.proofs.TypesBack.{nonempty, append_nonempty, separated_some}
use Rattle.cil_text.proofs.Clean.{AllClean}
use Rattle.cil_text.proofs.ExpsBack.{weight, place_weight, exp_spelled, place_spelled, IsExp, IsPlace, exp_back, place_back}
use Rattle.cil_text.proofs.Told.{Told, PlaceTold, enclosed_words}

-- arguments

abbrev pub more_args : Program → Env → List Exp → List Word → List Word
more_args p env [] rest = RightParen ∷ rest
more_args p env (e ∷ es) rest = Comma ∷ exp_spelled p env e (more_args p env es rest)

abbrev pub args_spelled : Program → Env → List Exp → List Word → List Word
args_spelled p env [] rest = RightParen ∷ rest
args_spelled p env (e ∷ es) rest = exp_spelled p env e (more_args p env es rest)

abbrev pub ArgsTold : Scope → List Exp → Type 0
ArgsTold c [] = Unit {0}
ArgsTold c (e ∷ es) = Told c e × ArgsTold c es

abbrev pub args_weight : List Exp → ℕ
args_weight [] = 0
args_weight (e ∷ es) = 1 + weight e + args_weight es

exp_nonempty : (c : Scope) (e : Exp) → nonempty (exp_tokens c e) ≡ true
exp_nonempty c (Const k v) = refl
exp_nonempty c (Value (Place (Global n) o)) = refl
exp_nonempty c (Value (Place (Var n) o)) = refl
exp_nonempty c (Value (Place (At q) o)) = refl
exp_nonempty c (Un op e) = refl
exp_nonempty c (Bin op l r) = refl
exp_nonempty c (Cast to e) = refl
exp_nonempty c (AddrOf place) = refl
exp_nonempty c (StartOf (Place (Global n) o)) = refl
exp_nonempty c (StartOf (Place (Var n) o)) = refl
exp_nonempty c (StartOf (Place (At q) o)) = refl

some_nonempty : (first more : List Token) → nonempty first ≡ true → nonempty (separated first more) ≡ true
some_nonempty first [] e = e
some_nonempty first (t ∷ ts) e = append_nonempty first (codes "," ∷ t ∷ ts) e

more_words : (c : Scope) (first : List Token) (es : List Exp) (rest : List Word) → ArgsTold c es → onto (separated first (argument_tokens c es)) (RightParen ∷ rest) ≡ onto first (more_args c.program (env_of c) es rest)
unfolding word_of
more_words c first [] rest told = refl
more_words c first (e ∷ es) rest told =
    ap (λ (ts : List Token). onto ts (RightParen ∷ rest)) (separated_some first (argument_tokens c (e ∷ es)) (some_nonempty (exp_tokens c e) (argument_tokens c es) (exp_nonempty c e)))
    ∙ onto_append first (codes "," ∷ argument_tokens c (e ∷ es)) (RightParen ∷ rest)
    ∙ ap (λ (ws : List Word). onto first (Comma ∷ ws)) (more_words c (exp_tokens c e) es rest told.1 ∙ told.0.0 (more_args c.program (env_of c) es rest))

args_words : (c : Scope) (es : List Exp) (rest : List Word) → ArgsTold c es → onto (in_parentheses (argument_tokens c es)) rest ≡ LeftParen ∷ args_spelled c.program (env_of c) es rest
unfolding word_of
args_words c [] rest told = refl
args_words c (e ∷ es) rest told = ap (λ (ws : List Word). LeftParen ∷ ws) (enclosed_words (argument_tokens c (e ∷ es)) rest ∙ more_words c (exp_tokens c e) es rest told.1 ∙ told.0.0 (more_args c.program (env_of c) es rest))

exp_open : (p : Program) (env : Env) (e : Exp) (rest : List Word) → is_closing (exp_spelled p env e rest) ≡ false
exp_open p env (Const k v) rest = refl
exp_open p env (Value (Place (Global n) o)) rest = refl
exp_open p env (Value (Place (Var n) o)) rest = refl
exp_open p env (Value (Place (At q) o)) rest = refl
exp_open p env (Un op e) rest = refl
exp_open p env (Bin op l r) rest = refl
exp_open p env (Cast to e) rest = refl
exp_open p env (AddrOf place) rest = refl
exp_open p env (StartOf (Place (Global n) o)) rest = refl
exp_open p env (StartOf (Place (Var n) o)) rest = refl
exp_open p env (StartOf (Place (At q) o)) rest = refl

abbrev pub AreExps : Program → Env → List Exp → Type 0
AreExps p env [] = Unit {0}
AreExps p env (e ∷ es) = IsExp p env e × AreExps p env es

args_are : (c : Scope) (es : List Exp) → ArgsTold c es → AreExps c.program (env_of c) es
args_are c [] told = tt
args_are c (e ∷ es) told = (told.0.1, args_are c es told.1)

list_back : (p : Program) (env : Env) → bases env ≡ bases_of p → (n k : ℕ) (e : Exp) (es : List Exp) (rest : List Word) → args_weight (e ∷ es) ≤ n → args_weight (e ∷ es) ≤ k → IsExp p env e → AreExps p env es →
    read_list (read_exp env n) k (exp_spelled p env e (more_args p env es rest)) ≡ Some (e ∷ es, rest)
list_back p env same n zero e es rest low small is are = absurd (omega arith)
list_back p env same n (suc k) e [] rest low small is are =
    ap (option_and_then (λ (r : Exp × List Word). read_next (read_list (read_exp env n) k) r.0 r.1)) (exp_back p env same n e (RightParen ∷ rest) (omega arith) is refl)
list_back p env same n (suc k) e (f ∷ es) rest low small is are =
    ap (option_and_then (λ (r : Exp × List Word). read_next (read_list (read_exp env n) k) r.0 r.1)) (exp_back p env same n e (more_args p env (f ∷ es) rest) (omega arith) is refl)
    ∙ ap (option_map (argument_first e)) (list_back p env same n k f es rest (omega arith) (omega arith) are.0 are.1)

args_back : (p : Program) (env : Env) → bases env ≡ bases_of p → (n : ℕ) (es : List Exp) (rest : List Word) → args_weight es ≤ n → AreExps p env es → read_args (read_exp env n) n (args_spelled p env es rest) ≡ Some (es, rest)
args_back p env same n [] rest low are = refl
args_back p env same n (e ∷ es) rest low are = rw (exp_open p env e (more_args p env es rest)) (list_back p env same n n e es rest low low are.0 are.1)

-- callees

abbrev pub called_at : Callee → Lval
called_at (Direct n) = Place (Global n) Here
called_at (Through pointer) = Place (At pointer) Here

callee_back : (f : Callee) → callee_of (called_at f) ≡ Some f
callee_back (Direct n) = refl
callee_back (Through pointer) = refl

abbrev pub CalleeTold : Scope → Callee → Type 0
CalleeTold c f =
    ((rest : List Word) → onto (callee_tokens c f) rest ≡ place_spelled c.program (env_of c) (called_at f) rest)
    × IsPlace c.program (env_of c) (called_at f)
    × (is_array_type (type_at_place (env_of c) (called_at f)) ≡ false)
    × AllClean (callee_tokens c f)

abbrev pub ResultTold : Scope → Option Lval → Type 0
ResultTold c None = Unit {0}
ResultTold c (Some place) = PlaceTold c place

-- a call of the function that zero fills use has no address first
abbrev pub ZeroApart : Scope → Option Lval → Callee → List Exp → Type 0
ZeroApart c None (Direct n) (AddrOf place ∷ es) = bytes_eq (name_at (env_of c).globals n) memset ≡ false
ZeroApart c _ _ _ = Unit {0}

abbrev pub InstrTold : Scope → Instr → Type 0
InstrTold c (Set place value) = PlaceTold c place × Told c value
InstrTold c (Call result callee arguments) = ResultTold c result × CalleeTold c callee × ArgsTold c arguments × ZeroApart c result callee arguments
InstrTold c (Zero place) = PlaceTold c place

abbrev pub callee_weight : Callee → ℕ
callee_weight (Direct n) = 0
callee_weight (Through pointer) = weight pointer

abbrev pub result_weight : Option Lval → ℕ
result_weight None = 0
result_weight (Some place) = place_weight place

abbrev pub instr_weight : Instr → ℕ
instr_weight (Set place value) = 1 + place_weight place + weight value
instr_weight (Call result callee arguments) = 2 + result_weight result + callee_weight callee + args_weight arguments
instr_weight (Zero place) = 1 + place_weight place

called_weight : (f : Callee) → place_weight (called_at f) ≤ callee_weight f
called_weight (Direct n) = omega arith
called_weight (Through pointer) = omega arith

-- neither a zero fill nor a label begins so

abbrev Effect : List Word → Type 0
Effect ws = (is_zero ws ≡ false) × (is_label ws ≡ false)

set_begins : (p : Program) (env : Env) (place : Lval) (rest : List Word) → Effect (place_spelled p env place (Assign ∷ rest))
set_begins p env (Place (Global n) Here) rest = (refl, refl)
set_begins p env (Place (Global n) (Field m o)) rest = (refl, refl)
set_begins p env (Place (Global n) (Index e o)) rest = (refl, refl)
set_begins p env (Place (Var n) Here) rest = (refl, refl)
set_begins p env (Place (Var n) (Field m o)) rest = (refl, refl)
set_begins p env (Place (Var n) (Index e o)) rest = (refl, refl)
set_begins p env (Place (At q) o) rest = (refl, refl)

opened_apart : (p : Program) (env : Env) (e : Exp) (rest : List Word) → opens_address (LeftParen ∷ exp_spelled p env e rest) ≡ false
opened_apart p env (Const k v) rest = refl
opened_apart p env (Value (Place (Global n) o)) rest = refl
opened_apart p env (Value (Place (Var n) o)) rest = refl
opened_apart p env (Value (Place (At q) o)) rest = refl
opened_apart p env (Un op e) rest = refl
opened_apart p env (Bin op l r) rest = refl
opened_apart p env (Cast to e) rest = refl
opened_apart p env (AddrOf place) rest = refl
opened_apart p env (StartOf (Place (Global n) o)) rest = refl
opened_apart p env (StartOf (Place (Var n) o)) rest = refl
opened_apart p env (StartOf (Place (At q) o)) rest = refl

and_false : (b d : Bool) → d ≡ false → b && d ≡ false
and_false true d e = e
and_false false d e = refl

direct_apart : (c : Scope) (n : ℕ) (es : List Exp) (rest : List Word) → ZeroApart c None (Direct n) es → bytes_eq (name_at (env_of c).globals n) memset && opens_address (args_spelled c.program (env_of c) es rest) ≡ false
direct_apart c n [] rest apart = and_false (bytes_eq (name_at (env_of c).globals n) memset) false refl
direct_apart c n (AddrOf place ∷ es) rest apart = ap (λ b. b && true) apart
direct_apart c n (Const k v ∷ es) rest apart = and_false (bytes_eq (name_at (env_of c).globals n) memset) false refl
direct_apart c n (Value (Place (Global m) o) ∷ es) rest apart = and_false (bytes_eq (name_at (env_of c).globals n) memset) false refl
direct_apart c n (Value (Place (Var m) o) ∷ es) rest apart = and_false (bytes_eq (name_at (env_of c).globals n) memset) false refl
direct_apart c n (Value (Place (At q) o) ∷ es) rest apart = and_false (bytes_eq (name_at (env_of c).globals n) memset) false refl
direct_apart c n (StartOf (Place (Global m) o) ∷ es) rest apart = and_false (bytes_eq (name_at (env_of c).globals n) memset) false refl
direct_apart c n (StartOf (Place (Var m) o) ∷ es) rest apart = and_false (bytes_eq (name_at (env_of c).globals n) memset) false refl
direct_apart c n (StartOf (Place (At q) o) ∷ es) rest apart = and_false (bytes_eq (name_at (env_of c).globals n) memset) false refl
direct_apart c n (Un Neg e ∷ es) rest apart = and_false (bytes_eq (name_at (env_of c).globals n) memset) false refl
direct_apart c n (Un Compl e ∷ es) rest apart = and_false (bytes_eq (name_at (env_of c).globals n) memset) false refl
direct_apart c n (Un Not e ∷ es) rest apart = and_false (bytes_eq (name_at (env_of c).globals n) memset) false refl
direct_apart c n (Cast to e ∷ es) rest apart = and_false (bytes_eq (name_at (env_of c).globals n) memset) false refl
direct_apart c n (Bin op l r ∷ es) rest apart =
    and_false (bytes_eq (name_at (env_of c).globals n) memset) (opens_address (args_spelled c.program (env_of c) (Bin op l r ∷ es) rest))
    (opened_apart c.program (env_of c) l (Operator op ∷ exp_spelled c.program (env_of c) r (RightParen ∷ more_args c.program (env_of c) es rest)))

call_begins : (c : Scope) (f : Callee) (es : List Exp) (rest : List Word) → ZeroApart c None f es → Effect (place_spelled c.program (env_of c) (called_at f) (LeftParen ∷ args_spelled c.program (env_of c) es rest))
call_begins c (Direct n) es rest apart = (direct_apart c n es rest apart, refl)
call_begins c (Through q) es rest apart = (refl, refl)

-- lines

abbrev pub line_end_words : List Word
line_end_words = Semicolon ∷ []

abbrev pub call_spelled : Scope → Callee → List Exp → List Word
call_spelled c f es = place_spelled c.program (env_of c) (called_at f) (LeftParen ∷ args_spelled c.program (env_of c) es (Semicolon ∷ []))

call_words : (c : Scope) (f : Callee) (es : List Exp) → CalleeTold c f → ArgsTold c es → onto (callee_tokens c f ++ in_parentheses (argument_tokens c es)) (Semicolon ∷ []) ≡ call_spelled c f es
call_words c f es callee args =
    onto_append (callee_tokens c f) (in_parentheses (argument_tokens c es)) (Semicolon ∷ [])
    ∙ ap (onto (callee_tokens c f)) (args_words c es (Semicolon ∷ []) args)
    ∙ callee.0 (LeftParen ∷ args_spelled c.program (env_of c) es (Semicolon ∷ []))

-- what is called with these arguments
call_back : (c : Scope) (n : ℕ) (result : Option Lval) (f : Callee) (es : List Exp) → args_weight es ≤ n → ArgsTold c es →
    read_call (read_exp (env_of c) n) n result f (args_spelled c.program (env_of c) es (Semicolon ∷ [])) ≡ Some (Call result f es)
call_back c n result f es low args =
    ap (option_and_then (λ (r : List Exp × List Word). line_end (Call result f r.0) r.1)) (args_back c.program (env_of c) refl n es (Semicolon ∷ []) low (args_are c es args))

semicolon : word_of (codes ";") ≡ Semicolon
unfolding word_of
semicolon = refl

-- the words of an instruction's line
abbrev pub instr_spelled : Scope → Instr → List Word
instr_spelled c (Set place value) = place_spelled c.program (env_of c) place (Assign ∷ exp_spelled c.program (env_of c) value (Semicolon ∷ []))
instr_spelled c (Call None callee arguments) = call_spelled c callee arguments
instr_spelled c (Call (Some place) callee arguments) = place_spelled c.program (env_of c) place (Assign ∷ call_spelled c callee arguments)
instr_spelled c (Zero place) =
    Name memset ∷ LeftParen ∷ LeftParen ∷ Operator And ∷ place_spelled c.program (env_of c) place (RightParen ∷ Comma ∷ onto (codes "0" ∷ codes "," ∷ size_tokens c (place_type c place)) (RightParen ∷ Semicolon ∷ []))

pub instr_words : (c : Scope) (i : Instr) → InstrTold c i → onto (instr_tokens c i) (Semicolon ∷ []) ≡ instr_spelled c i
unfolding word_of
instr_words c (Set place value) told =
    onto_append (place_tokens c place) (codes "=" ∷ exp_tokens c value) (Semicolon ∷ [])
    ∙ ap (λ (ws : List Word). onto (place_tokens c place) (Assign ∷ ws)) (told.1.0 (Semicolon ∷ []))
    ∙ told.0.0 (Assign ∷ exp_spelled c.program (env_of c) value (Semicolon ∷ []))
instr_words c (Call None callee arguments) told = call_words c callee arguments told.1 told.2
instr_words c (Call (Some place) callee arguments) told =
    onto_append (place_tokens c place ++ codes "=" ∷ []) (callee_tokens c callee ++ in_parentheses (argument_tokens c arguments)) (Semicolon ∷ [])
    ∙ onto_append (place_tokens c place) (codes "=" ∷ []) (onto (callee_tokens c callee ++ in_parentheses (argument_tokens c arguments)) (Semicolon ∷ []))
    ∙ ap (λ (ws : List Word). onto (place_tokens c place) (Assign ∷ ws)) (call_words c callee arguments told.1 told.2)
    ∙ told.0.0 (Assign ∷ call_spelled c callee arguments)
instr_words c (Zero place) told =
    ap (λ (ws : List Word). Name memset ∷ LeftParen ∷ ws) (
    enclosed_words (in_parentheses (codes "&" ∷ place_tokens c place) ++ codes "," ∷ codes "0" ∷ codes "," ∷ size_tokens c (place_type c place)) (Semicolon ∷ [])
    ∙ onto_append (in_parentheses (codes "&" ∷ place_tokens c place)) (codes "," ∷ codes "0" ∷ codes "," ∷ size_tokens c (place_type c place)) (RightParen ∷ Semicolon ∷ [])
    ∙ ap (λ (ws : List Word). LeftParen ∷ Operator And ∷ ws) (
    enclosed_words (place_tokens c place) (onto (codes "," ∷ codes "0" ∷ codes "," ∷ size_tokens c (place_type c place)) (RightParen ∷ Semicolon ∷ []))
    ∙ told.0 (RightParen ∷ onto (codes "," ∷ codes "0" ∷ codes "," ∷ size_tokens c (place_type c place)) (RightParen ∷ Semicolon ∷ []))))

pub instr_is_no_label : (c : Scope) (i : Instr) → InstrTold c i → is_label (instr_spelled c i) ≡ false
instr_is_no_label c (Set place value) told = (set_begins c.program (env_of c) place (exp_spelled c.program (env_of c) value (Semicolon ∷ []))).1
instr_is_no_label c (Call None callee arguments) told = (call_begins c callee arguments (Semicolon ∷ []) told.3).1
instr_is_no_label c (Call (Some place) callee arguments) told = (set_begins c.program (env_of c) place (call_spelled c callee arguments)).1
instr_is_no_label c (Zero place) told = refl

pub instr_back : (c : Scope) (n : ℕ) (i : Instr) → instr_weight i ≤ n → InstrTold c i → read_instr (env_of c) n (instr_spelled c i) ≡ Some i
instr_back c n (Set place value) low told =
    let env = env_of c in
    let line = exp_spelled c.program env value (Semicolon ∷ []) in
    rw ((set_begins c.program env place line).0) (
    ap (option_and_then (λ (r : Lval × List Word). read_effect (read_exp env n) n r.0 r.1)) (place_back c.program env refl n n place (Assign ∷ line) (omega arith) (omega arith) told.0.1 refl)
    ∙ ap (option_and_then (λ (r : Exp × List Word). read_assigned (read_exp env n) n place r.0 r.1)) (exp_back c.program env refl n value (Semicolon ∷ []) (omega arith) told.1.1 refl))
instr_back c n (Call None callee arguments) low told =
    let env = env_of c in
    let line = LeftParen ∷ args_spelled c.program env arguments (Semicolon ∷ []) in
    rw ((call_begins c callee arguments (Semicolon ∷ []) told.3).0) (
    ap (option_and_then (λ (r : Lval × List Word). read_effect (read_exp env n) n r.0 r.1)) (place_back c.program env refl n n (called_at callee) line (omega (arith, called_weight callee)) (omega (arith, called_weight callee)) told.1.1 refl)
    ∙ ap (option_and_then (λ (f : Callee). read_call (read_exp env n) n None f (args_spelled c.program env arguments (Semicolon ∷ [])))) (callee_back callee)
    ∙ call_back c n None callee arguments (omega arith) told.2)
instr_back c n (Call (Some place) callee arguments) low told =
    let env = env_of c in
    let line = args_spelled c.program env arguments (Semicolon ∷ []) in
    rw ((set_begins c.program env place (call_spelled c callee arguments)).0) (
    ap (option_and_then (λ (r : Lval × List Word). read_effect (read_exp env n) n r.0 r.1)) (place_back c.program env refl n n place (Assign ∷ call_spelled c callee arguments) (omega arith) (omega arith) told.0.1 refl)
    ∙ ap (option_and_then (λ (r : Exp × List Word). read_assigned (read_exp env n) n place r.0 r.1)) (exp_back c.program env refl n (Value (called_at callee)) (LeftParen ∷ line) (omega (arith, called_weight callee)) (told.1.1, told.1.2) refl)
    ∙ ap (option_and_then (λ (f : Callee). read_call (read_exp env n) n (Some place) f line)) (callee_back callee)
    ∙ call_back c n (Some place) callee arguments (omega arith) told.2)
instr_back c n (Zero place) low told =
    ap (option_and_then zero_from) (place_back c.program (env_of c) refl n n place (RightParen ∷ Comma ∷ onto (codes "0" ∷ codes "," ∷ size_tokens c (place_type c place)) (RightParen ∷ Semicolon ∷ [])) (omega arith) (omega arith) told.1 refl)
