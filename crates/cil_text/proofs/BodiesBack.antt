-- Device: the reading of functions gives back their bodies from their lines.
use Rattle.std.proofs.Common.{◌≡◌, ℕ, suc, zero, ◌+◌, ◌-◌, ◌<◌, ◌≤◌, ◌&&◌, ◌||◌, not, nat_eq, Bool, true, false, cond, List, [], ◌∷◌, ◌++◌, map, length, codes, Option, Some, None, refl, sym, ap, ◌∙◌, subst, arith, append_assoc}
use Rattle.std.specs.Prelude.{slice_index_or}
use Rattle.std.specs.List.{list_all, list_any}
use Rattle.std.specs.Option.{option_map, option_and_then}
use Rattle.std.specs.Str.{bytes_eq}
use Rattle.std.proofs.lemmas.Slice.Eq.{bytes_eq-Decides}
use Rattle.cil_base.specs.declared.kinds.IntKind.{IntKind}
use Rattle.type_graph.specs.Shapes.{Shape, Shapes, FuncType, NoTypes, MoreTypes}
use Rattle.cil_tree.specs.Tree.{Exp, Instr, Set, Call, Zero, Host, Global, Var, At, Offsets, Here, Field, Index, Lval, Place, Callee, Direct, Through, Stmt, Do, If, Switch, Loop, Block, Label, Case, Default, Goto, Break, Return, Stmts, Done, Seq, Local, Body, Definition, Function, GlobalDecl, Program}
use Rattle.cil_tree.specs.Typing.{Scope, scope_of}
use Rattle.cil_tree.specs.WellFormedTypes.{prototype_fits}
use Rattle.cil_tree.specs.Bodies.{labels_of, labels_in}
use Rattle.cil_tree.specs.Lines.{Token, Line}
use Rattle.cil_tree.specs.Names.{is_name, is_among, are_different}
use Rattle.cil_tree.specs.Declarators.{declared, type_tokens, listed, in_parentheses, separated, number}
use Rattle.cil_tree.specs.Text.{label_name, exp_tokens, instr_tokens, return_tokens, closed, heading, closing, stmt_lines, lines_of, linkage, parameter_tokens, function_tokens, local_line, body_lines, function_lines}
use Rattle.cil_tree.specs.Text as text
use Rattle.cil_text.specs.Words.{Word, LeftParen, RightParen, LeftBrace, RightBrace, Semicolon, Colon, Comma, Operator, ElseWord, StaticWord, TagWord, Name, Number, word_of, onto}
use Rattle.cil_text.specs.ReadTypes.{read_decl, Bases}
use Rattle.cil_text.specs.ReadExps.{Env, is_base}
use Rattle.cil_text.specs.Known.{known_of, env_of, bases_of}
use Rattle.cil_text.specs.ReadStmts.{is_label, label_text, read_heads, read_nested}
use Rattle.cil_text.specs.ReadAggregates.{Lines, is_close}
use Rattle.cil_text.specs.ReadGlobals as reading
use Rattle.cil_text.specs.ReadGlobals.{Declaration, is_open_brace, ends_open, plain_names, header_names, begins_with, behind_first, moved, line_first, split_block, local_first, read_locals, params_of, param_locals, are_apart, body_with, read_stmts, read_body, Bodies, body_first, read_bodies}
use Rattle.cil_text.proofs.WordsBack.{onto_append, both, denied, name_word}
use Rattle.cil_text.proofs.TypesBack.{nonempty, append_nonempty, separated_some, declared_nonempty, base_spelled, before, behind, IsShape, declared_words}
use Rattle.cil_text.proofs.DeclsBack.{size, named_back}
use Rattle.cil_text.proofs.ExpsBack.{exp_spelled, place_spelled, type_base}
use Rattle.cil_text.proofs.StmtsBack.{lines_onto, lines_append, closed_words, stmts_weight, StmtTold, StmtsTold, nested_back, stmts_back}
use Rattle.cil_text.proofs.InstrsBack.{instr_spelled, instr_words, InstrTold, instr_is_no_label}
use Rattle.cil_text.proofs.AggregatesBack.{declared_line, base_closes_nothing, other_way, neither}
use Rattle.cil_text.proofs.TypesSkipped.{base_skipped, before_skipped, behind_skipped, names_skip}
use Rattle.cil_text.proofs.ObjectsBack.{shape_of, declaration_of, EachGlobal, not_opened, opened, name_of, declared_first, object_first}

-- names in a header: types have none

-- what is declared has the names of the inner tokens
declared_names : (p : Program) (s : Shape) (inner : List Token) (rest : List Word) → IsShape p s → plain_names (onto (declared p s inner) rest) ≡ plain_names (onto inner (behind p s rest))
declared_names p s inner rest is = ap plain_names (declared_words p s inner rest is) ∙ base_skipped plain_names names_skip p s (before s (onto inner (behind p s rest))) is ∙ before_skipped plain_names names_skip s (onto inner (behind p s rest))

-- names of parameters
abbrev pub AreParams : Program → Shapes → List (List ℕ) → Type 0
AreParams p NoTypes [] = Unit {0}
AreParams p NoTypes (name ∷ names) = ⊥
AreParams p (MoreTypes s more) [] = ⊥
AreParams p (MoreTypes s more) (name ∷ names) = IsShape p s × (is_name name ≡ true) × AreParams p more names

param_names : (p : Program) (s : Shape) (name : List ℕ) (rest : List Word) → IsShape p s → is_name name ≡ true → plain_names (onto (declared p s (name ∷ [])) rest) ≡ name ∷ plain_names rest
param_names p s name rest is named =
    declared_names p s (name ∷ []) rest is ∙ ap (λ (w : Word). plain_names (w ∷ behind p s rest)) (name_word name named) ∙ ap (λ ns. name ∷ ns) (behind_skipped plain_names names_skip p s rest is)

params_nonempty : (p : Program) (s : Shape) (more : Shapes) (name : List ℕ) (names : List (List ℕ)) → IsShape p s → nonempty (parameter_tokens p (MoreTypes s more) (name ∷ names)) ≡ true
params_nonempty p s more name names is = by (parameter_tokens p more names)
  where
    by : (ts : List Token) → nonempty (separated (declared p s (name ∷ [])) ts) ≡ true
    by [] = declared_nonempty p s (name ∷ []) is
    by (t ∷ ts) = append_nonempty (declared p s (name ∷ [])) (codes "," ∷ t ∷ ts) (declared_nonempty p s (name ∷ []) is)

params_names : (p : Program) (params : Shapes) (names : List (List ℕ)) (rest : List Word) → AreParams p params names → plain_names (onto (parameter_tokens p params names) rest) ≡ names ++ plain_names rest
unfolding word_of
params_names p NoTypes [] rest are = refl
params_names p NoTypes (name ∷ names) rest are = absurd are
params_names p (MoreTypes s more) [] rest are = absurd are
params_names p (MoreTypes s NoTypes) (name ∷ []) rest are = param_names p s name rest are.0 are.1
params_names p (MoreTypes s NoTypes) (name ∷ other ∷ names) rest are = absurd are.2
params_names p (MoreTypes s (MoreTypes t more)) (name ∷ []) rest are = absurd are.2
params_names p (MoreTypes s (MoreTypes t more)) (name ∷ other ∷ names) rest are =
    let tokens = parameter_tokens p (MoreTypes t more) (other ∷ names) in
    ap (λ (ts : List Token). plain_names (onto ts rest)) (separated_some (declared p s (name ∷ [])) tokens (params_nonempty p t more other names are.2.0))
    ∙ ap plain_names (onto_append (declared p s (name ∷ [])) (codes "," ∷ tokens) rest)
    ∙ param_names p s name (Comma ∷ onto tokens rest) are.0 are.1
    ∙ ap (λ ns. name ∷ ns) (params_names p (MoreTypes t more) (other ∷ names) rest are.2)

listed_names : (p : Program) (proto : Bool) (params : Shapes) (names : List (List ℕ)) (rest : List Word) → AreParams p params names → proto || (not (Rattle.cil_tree.specs.WellFormedTypes.has_parameter params)) ≡ true →
    plain_names (onto (listed proto false (parameter_tokens p params names) ++ codes ")" ∷ []) rest) ≡ names ++ plain_names rest
unfolding word_of
listed_names p false NoTypes [] rest are e = refl
listed_names p false NoTypes (name ∷ names) rest are e = absurd are
listed_names p false (MoreTypes s more) names rest are e = absurd (cc e)
listed_names p true NoTypes [] rest are e = refl
listed_names p true NoTypes (name ∷ names) rest are e = absurd are
listed_names p true (MoreTypes s more) [] rest are e = absurd are
listed_names p true (MoreTypes s more) (name ∷ names) rest are e =
    ap (λ (ts : List Token). plain_names (onto (ts ++ codes ")" ∷ []) rest)) (by (parameter_tokens p (MoreTypes s more) (name ∷ names)) (params_nonempty p s more name names are.0))
    ∙ ap plain_names (onto_append (parameter_tokens p (MoreTypes s more) (name ∷ names)) (codes ")" ∷ []) rest)
    ∙ params_names p (MoreTypes s more) (name ∷ names) (RightParen ∷ rest) are
  where
    by : (ts : List Token) → nonempty ts ≡ true → listed true false ts ≡ ts
    by [] e = absurd (cc e)
    by (t ∷ ts) e = refl

-- the line that opens a body

header : Program → GlobalDecl → Shape → List Token → Line
header p x ret params = linkage x ++ (declared p ret (x.name ∷ in_parentheses params) ++ codes "{" ∷ [])

static_names : (b : Bool) (ws : List Word) → plain_names (onto (cond b (codes "static" ∷ []) []) ws) ≡ plain_names ws
unfolding word_of
static_names true ws = refl
static_names false ws = refl

header_back : (p : Program) (x : GlobalDecl) (ret : Shape) (params : Shapes) (proto : Bool) (names : List (List ℕ)) → is_name x.name ≡ true → IsShape p ret → AreParams p params names → proto || (not (Rattle.cil_tree.specs.WellFormedTypes.has_parameter params)) ≡ true →
    header_names (onto (header p x ret (listed proto false (parameter_tokens p params names))) []) ≡ x.name ∷ names
unfolding word_of header
header_back p x ret params proto names named is are fits =
    let listed_ = listed proto false (parameter_tokens p params names) in
    let inner = x.name ∷ in_parentheses listed_ in
    let line = onto (header p x ret listed_) [] in
    ap (λ b. cond b (plain_names line) []) (ap (λ (ts : List Token). ends_open (onto ts [])) (sym (append_assoc (linkage x) (declared p ret inner) (codes "{" ∷ []))) ∙ opened (linkage x ++ declared p ret inner))
    ∙ ap plain_names (onto_append (linkage x) (declared p ret inner ++ codes "{" ∷ []) [])
    ∙ static_names x.internal (onto (declared p ret inner ++ codes "{" ∷ []) [])
    ∙ ap plain_names (onto_append (declared p ret inner) (codes "{" ∷ []) [])
    ∙ declared_names p ret inner (LeftBrace ∷ []) is
    ∙ ap (λ (w : Word). plain_names (w ∷ LeftParen ∷ onto (listed_ ++ codes ")" ∷ []) (behind p ret (LeftBrace ∷ [])))) (name_word x.name named)
    ∙ ap (λ ns. x.name ∷ ns) (listed_names p proto params names (behind p ret (LeftBrace ∷ [])) are fits ∙ ap (λ ns. names ++ ns) (behind_skipped plain_names names_skip p ret (LeftBrace ∷ []) is) ∙ Rattle.std.proofs.Common.append-nil names)

header_opens : (p : Program) (x : GlobalDecl) (ret : Shape) (params : List Token) → ends_open (onto (header p x ret params) []) ≡ true
unfolding header
header_opens p x ret params = ap (λ (ts : List Token). ends_open (onto ts [])) (sym (append_assoc (linkage x) (declared p ret (x.name ∷ in_parentheses params)) (codes "{" ∷ []))) ∙ opened (linkage x ++ declared p ret (x.name ∷ in_parentheses params))

-- where a body ends

abbrev in_front : List Line → Lines × Lines → Lines × Lines
in_front ls r = (lines_onto ls r.0, r.1)

in_front_joined : (a b : List Line) (r : Lines × Lines) → in_front (a ++ b) r ≡ in_front a (in_front b r)
in_front_joined a b r = ap (λ ls. (ls, r.1)) (lines_append a b r.0)

abbrev Flat : Line → Type 0
Flat line = (is_close (onto line []) ≡ false) × (ends_open (onto line []) ≡ false)

flat_step : (line : Line) (d : ℕ) (more : Lines) → Flat line → split_block d (onto line [] ∷ more) ≡ line_first (onto line []) (split_block d more)
flat_step line d more flat = rw (flat.0, flat.1) refl

open_step : (line : Line) (d : ℕ) (more : Lines) → is_close (onto line []) ≡ false → ends_open (onto line []) ≡ true → split_block d (onto line [] ∷ more) ≡ line_first (onto line []) (split_block (suc d) more)
open_step line d more e f = rw (e, f) refl

close_step : (d : ℕ) (more : Lines) → split_block (suc d) ((RightBrace ∷ []) ∷ more) ≡ line_first (RightBrace ∷ []) (split_block d more)
close_step d more = refl

else_step : (d : ℕ) (more : Lines) → split_block (suc d) ((RightBrace ∷ ElseWord ∷ LeftBrace ∷ []) ∷ more) ≡ line_first (RightBrace ∷ ElseWord ∷ LeftBrace ∷ []) (split_block (suc d) more)
else_step d more = refl

place_closes_nothing : (p : Program) (env : Env) (place : Lval) (rest : List Word) → is_close (place_spelled p env place rest) ≡ false
place_closes_nothing p env (Place (Global n) o) rest = refl
place_closes_nothing p env (Place (Var n) o) rest = refl
place_closes_nothing p env (Place (At q) o) rest = refl

instr_closes_nothing : (c : Scope) (i : Instr) → is_close (instr_spelled c i) ≡ false
instr_closes_nothing c (Set place value) = place_closes_nothing c.program (env_of c) place (Rattle.cil_text.specs.Words.Assign ∷ exp_spelled c.program (env_of c) value (Semicolon ∷ []))
instr_closes_nothing c (Call None (Direct n) arguments) = refl
instr_closes_nothing c (Call None (Through q) arguments) = refl
instr_closes_nothing c (Call (Some place) callee arguments) = place_closes_nothing c.program (env_of c) place _
instr_closes_nothing c (Zero place) = refl

instr_flat : (c : Scope) (i : Instr) → InstrTold c i → Flat (closed (instr_tokens c i))
instr_flat c i told = (ap is_close (closed_words (instr_tokens c i) ∙ instr_words c i told) ∙ instr_closes_nothing c i, not_opened (instr_tokens c i))

case_flat : (k : IntKind) (v : Rattle.std.specs.Prelude.ℤ) → Flat (codes "case" ∷ (number k v ++ codes ":" ∷ codes ";" ∷ []))
unfolding word_of
case_flat k v = (refl, ap (λ (ts : List Token). ends_open (onto (codes "case" ∷ ts) [])) (sym (append_assoc (number k v) (codes ":" ∷ []) (codes ";" ∷ []))) ∙ not_opened (codes "case" ∷ (number k v ++ codes ":" ∷ [])))

-- statements, and the brace that closes them
closed_split : (c : Scope) (ss : Stmts) (d : ℕ) (more : Lines) → ((others : Lines) → split_block (suc d) (lines_onto (lines_of c ss) others) ≡ in_front (lines_of c ss) (split_block (suc d) others)) →
    split_block (suc d) (lines_onto (lines_of c ss ++ closing ∷ []) more) ≡ in_front (lines_of c ss ++ closing ∷ []) (split_block d more)
unfolding word_of
closed_split c ss d more back =
    ap (split_block (suc d)) (lines_append (lines_of c ss) (closing ∷ []) more)
    ∙ back ((RightBrace ∷ []) ∷ more)
    ∙ ap (in_front (lines_of c ss)) (close_step d more)
    ∙ sym (in_front_joined (lines_of c ss) (closing ∷ []) (split_block d more))

-- a heading, statements, and the brace that closes them
block_split : (c : Scope) (head : Line) (ss : Stmts) (d : ℕ) (more : Lines) → is_close (onto head []) ≡ false → ends_open (onto head []) ≡ true →
    ((others : Lines) → split_block (suc d) (lines_onto (lines_of c ss) others) ≡ in_front (lines_of c ss) (split_block (suc d) others)) →
    split_block d (lines_onto (head ∷ (lines_of c ss ++ closing ∷ [])) more) ≡ in_front (head ∷ (lines_of c ss ++ closing ∷ [])) (split_block d more)
block_split c head ss d more e f back =
    open_step head d (lines_onto (lines_of c ss ++ closing ∷ []) more) e f ∙ ap (line_first (onto head [])) (closed_split c ss d more back)

mutual
  unfolding word_of

  stmt_split : (c : Scope) (s : Stmt) (d : ℕ) (more : Lines) → StmtTold c s → split_block d (lines_onto (stmt_lines c s) more) ≡ in_front (stmt_lines c s) (split_block d more)
  stmt_split c (Do instr) d more told = flat_step (closed (instr_tokens c instr)) d more (instr_flat c instr told)
  stmt_split c (If test holds fails) d more told =
      let head = heading (codes "if") (exp_tokens c test) in
      let middle = codes "}" ∷ codes "else" ∷ codes "{" ∷ [] in
      let last = lines_of c fails ++ closing ∷ [] in
      open_step head d (lines_onto (lines_of c holds ++ middle ∷ last) more) refl (opened (codes "if" ∷ in_parentheses (exp_tokens c test)))
      ∙ ap (λ ls. line_first (onto head []) (split_block (suc d) ls)) (lines_append (lines_of c holds) (middle ∷ last) more)
      ∙ ap (line_first (onto head [])) (
      stmts_split c holds (suc d) (lines_onto (middle ∷ last) more) told.1
      ∙ ap (in_front (lines_of c holds)) (else_step d (lines_onto last more) ∙ ap (line_first (onto middle [])) (closed_split c fails d more (λ others. stmts_split c fails (suc d) others told.2)))
      ∙ sym (in_front_joined (lines_of c holds) (middle ∷ last) (split_block d more)))
  stmt_split c (Switch value body) d more told = block_split c (heading (codes "switch") (exp_tokens c value)) body d more refl (opened (codes "switch" ∷ in_parentheses (exp_tokens c value))) (λ others. stmts_split c body (suc d) others told.1)
  stmt_split c (Loop body) d more told = block_split c (heading (codes "while") (codes "1" ∷ [])) body d more refl refl (λ others. stmts_split c body (suc d) others told)
  stmt_split c (Block body) d more told = block_split c (codes "{" ∷ []) body d more refl refl (λ others. stmts_split c body (suc d) others told)
  stmt_split c (Label l) d more told = flat_step (label_name c l ∷ codes ":" ∷ codes ";" ∷ []) d more (ap (λ (w : Word). is_close (w ∷ Colon ∷ Semicolon ∷ [])) (name_word (label_name c l) told.0), refl)
  stmt_split c (Case k v) d more told = flat_step (codes "case" ∷ (number k v ++ codes ":" ∷ codes ";" ∷ [])) d more (case_flat k v)
  stmt_split c Default d more told = flat_step (codes "default" ∷ codes ":" ∷ codes ";" ∷ []) d more (refl, refl)
  stmt_split c (Goto l) d more told = flat_step (closed (codes "goto" ∷ label_name c l ∷ [])) d more (refl, refl)
  stmt_split c Break d more told = flat_step (closed (codes "break" ∷ [])) d more (refl, refl)
  stmt_split c (Return None) d more told = flat_step (closed (return_tokens c None)) d more (refl, refl)
  stmt_split c (Return (Some e)) d more told = flat_step (closed (return_tokens c (Some e))) d more (refl, not_opened (return_tokens c (Some e)))

  stmts_split : (c : Scope) (ss : Stmts) (d : ℕ) (more : Lines) → StmtsTold c ss → split_block d (lines_onto (lines_of c ss) more) ≡ in_front (lines_of c ss) (split_block d more)
  stmts_split c Done d more told = refl
  stmts_split c (Seq first rest) d more told =
      ap (split_block d) (lines_append (stmt_lines c first) (lines_of c rest) more)
      ∙ stmt_split c first d (lines_onto (lines_of c rest) more) told.0
      ∙ ap (in_front (stmt_lines c first)) (stmts_split c rest d more told.1)
      ∙ sym (in_front_joined (stmt_lines c first) (lines_of c rest) (split_block d more))

-- locals

abbrev pub IsLocal : Program → Local → Type 0
IsLocal p x = (is_name x.name ≡ true) × (x.type ≡ Some (shape_of x.type)) × IsShape p (shape_of x.type)

abbrev pub EachLocal : (Local → Type 0) → List Local → Type 0
EachLocal P [] = Unit {0}
EachLocal P (x ∷ xs) = P x × EachLocal P xs

abbrev pub locals_size : List Local → ℕ
locals_size [] = 0
locals_size (x ∷ xs) = 2 + size (shape_of x.type) + locals_size xs

local_spelled : Program → Local → List Word
local_spelled p x = base_spelled p (shape_of x.type) (before (shape_of x.type) (Name x.name ∷ behind p (shape_of x.type) (Semicolon ∷ [])))

local_words : (p : Program) (x : Local) → IsLocal p x → onto (local_line p x) [] ≡ local_spelled p x
unfolding local_spelled
local_words p x is = ap (λ (o : Option Shape). onto (closed (type_tokens p o (x.name ∷ []))) []) is.1 ∙ declared_line p (shape_of x.type) x.name is.2 is.0

local_base : (p : Program) (x : Local) → IsLocal p x → is_base (onto (local_line p x) []) ≡ true
unfolding local_spelled
local_base p x is = ap is_base (local_words p x is) ∙ type_base p (shape_of x.type) (before (shape_of x.type) (Name x.name ∷ behind p (shape_of x.type) (Semicolon ∷ []))) is.2

local_back : (p : Program) (n : ℕ) (x : Local) → size (shape_of x.type) + 2 ≤ n → IsLocal p x → option_and_then reading.local_of (read_decl (bases_of p) n (onto (local_line p x) [])) ≡ Some x
unfolding local_spelled
local_back p n x low is =
    ap (λ (ws : List Word). option_and_then reading.local_of (read_decl (bases_of p) n ws)) (local_words p x is)
    ∙ ap (option_and_then reading.local_of) (named_back p n (shape_of x.type) x.name (Semicolon ∷ []) low is.2 refl)
    ∙ ap (λ (o : Option Shape). Some (record x { type = o })) (sym is.1)

abbrev base_first : Lines → Bool
base_first [] = false
base_first (line ∷ lines) = is_base line

locals_end : (bases : Bases) (n : ℕ) (more : Lines) → base_first more ≡ false → read_locals bases n more ≡ Some ([], more)
locals_end bases n [] e = refl
locals_end bases n (line ∷ lines) e = rw (e, read_locals) refl

locals_back : (p : Program) (n : ℕ) (xs : List Local) (more : Lines) → locals_size xs ≤ n → EachLocal (IsLocal p) xs → base_first more ≡ false → read_locals (bases_of p) n (lines_onto (map (local_line p) xs) more) ≡ Some (xs, more)
locals_back p n [] more low is e = locals_end (bases_of p) n more e
locals_back p n (x ∷ xs) more low is e =
    let rest = lines_onto (map (local_line p) xs) more in
    ap (λ b. cond b (option_and_then (λ (y : Local). option_map (local_first y) (read_locals (bases_of p) n rest)) (option_and_then reading.local_of (read_decl (bases_of p) n (onto (local_line p x) [])))) (Some ([], onto (local_line p x) [] ∷ rest))) (local_base p x is.0)
    ∙ ap (option_and_then (λ (y : Local). option_map (local_first y) (read_locals (bases_of p) n rest))) (local_back p n x (omega arith) is.0)
    ∙ ap (option_map (local_first x)) (locals_back p n xs more (omega arith) is.1 e)

-- a body's lines end where its own brace closes it

local_flat : (p : Program) (x : Local) → IsLocal p x → Flat (local_line p x)
local_flat p x is = (base_closes_nothing (onto (local_line p x) []) (local_base p x is), not_opened (type_tokens p x.type (x.name ∷ [])))

locals_split : (p : Program) (xs : List Local) (d : ℕ) (more : Lines) → EachLocal (IsLocal p) xs → split_block d (lines_onto (map (local_line p) xs) more) ≡ in_front (map (local_line p) xs) (split_block d more)
locals_split p [] d more is = refl
locals_split p (x ∷ xs) d more is = flat_step (local_line p x) d (lines_onto (map (local_line p) xs) more) (local_flat p x is.0) ∙ ap (line_first (onto (local_line p x) [])) (locals_split p xs d more is.1)

body_split : (p : Program) (b : Body) (more : Lines) → EachLocal (IsLocal p) (text.behind b.params b.locals) → StmtsTold (scope_of p b) b.stmts → split_block 0 (lines_onto (body_lines p b ++ closing ∷ []) more) ≡ (lines_onto (body_lines p b) [], more)
unfolding word_of
body_split p b more locals stmts =
    let a = map (local_line p) (text.behind b.params b.locals) in
    let c = lines_of (scope_of p b) b.stmts in
    ap (split_block 0) (lines_append (a ++ c) (closing ∷ []) more ∙ lines_append a c ((RightBrace ∷ []) ∷ more))
    ∙ locals_split p (text.behind b.params b.locals) 0 (lines_onto c ((RightBrace ∷ []) ∷ more)) locals
    ∙ ap (in_front a) (stmts_split (scope_of p b) b.stmts 0 ((RightBrace ∷ []) ∷ more) stmts)
    ∙ ap (λ ls. (ls, more)) (sym (lines_append a c []))

-- no statement begins with base words

place_unbased : (p : Program) (env : Env) (place : Lval) (rest : List Word) → is_base (place_spelled p env place rest) ≡ false
place_unbased p env (Place (Global n) o) rest = refl
place_unbased p env (Place (Var n) o) rest = refl
place_unbased p env (Place (At q) o) rest = refl

instr_unbased : (c : Scope) (i : Instr) → is_base (instr_spelled c i) ≡ false
instr_unbased c (Set place value) = place_unbased c.program (env_of c) place (Rattle.cil_text.specs.Words.Assign ∷ exp_spelled c.program (env_of c) value (Semicolon ∷ []))
instr_unbased c (Call None (Direct n) arguments) = refl
instr_unbased c (Call None (Through q) arguments) = refl
instr_unbased c (Call (Some place) callee arguments) = place_unbased c.program (env_of c) place _
instr_unbased c (Zero place) = refl

stmts_unbased : (c : Scope) (ss : Stmts) → StmtsTold c ss → base_first (lines_onto (lines_of c ss) []) ≡ false
unfolding word_of
stmts_unbased c Done told = refl
stmts_unbased c (Seq (Do instr) rest) told = ap is_base (closed_words (instr_tokens c instr) ∙ instr_words c instr told.0) ∙ instr_unbased c instr
stmts_unbased c (Seq (If test holds fails) rest) told = refl
stmts_unbased c (Seq (Switch value body) rest) told = refl
stmts_unbased c (Seq (Loop body) rest) told = refl
stmts_unbased c (Seq (Block body) rest) told = refl
stmts_unbased c (Seq (Label l) rest) told = ap (λ (w : Word). is_base (w ∷ Colon ∷ Semicolon ∷ [])) (name_word (label_name c l) told.0.0)
stmts_unbased c (Seq (Case k v) rest) told = refl
stmts_unbased c (Seq Default rest) told = refl
stmts_unbased c (Seq (Goto l) rest) told = refl
stmts_unbased c (Seq Break rest) told = refl
stmts_unbased c (Seq (Return None) rest) told = refl
stmts_unbased c (Seq (Return (Some e)) rest) told = refl

-- labels are those that the statements set

names_joined : (c : Scope) (ms ns : List ℕ) (more : List (List ℕ)) → map (label_name c) (ms ++ ns) ++ more ≡ map (label_name c) ms ++ (map (label_name c) ns ++ more)
names_joined c [] ns more = refl
names_joined c (m ∷ ms) ns more = ap (λ xs. label_name c m ∷ xs) (names_joined c ms ns more)

closed_labels : (c : Scope) (ss : Stmts) (more : Lines) → ((others : Lines) → reading.labels_in (lines_onto (lines_of c ss) others) ≡ map (label_name c) (labels_of ss) ++ reading.labels_in others) →
    reading.labels_in (lines_onto (lines_of c ss ++ closing ∷ []) more) ≡ map (label_name c) (labels_of ss) ++ reading.labels_in more
unfolding word_of
closed_labels c ss more back = ap reading.labels_in (lines_append (lines_of c ss) (closing ∷ []) more) ∙ back ((RightBrace ∷ []) ∷ more)

mutual
  unfolding word_of

  stmt_labels : (c : Scope) (s : Stmt) (more : Lines) → StmtTold c s → reading.labels_in (lines_onto (stmt_lines c s) more) ≡ map (label_name c) (labels_in s) ++ reading.labels_in more
  stmt_labels c (Do instr) more told =
      ap (λ b. cond b (label_text (onto (closed (instr_tokens c instr)) []) ∷ reading.labels_in more) (reading.labels_in more)) (ap is_label (closed_words (instr_tokens c instr) ∙ instr_words c instr told) ∙ instr_is_no_label c instr told)
  stmt_labels c (If test holds fails) more told =
      let middle = codes "}" ∷ codes "else" ∷ codes "{" ∷ [] in
      let last = lines_of c fails ++ closing ∷ [] in
      ap reading.labels_in (lines_append (lines_of c holds) (middle ∷ last) more)
      ∙ stmts_labels c holds (lines_onto (middle ∷ last) more) told.1
      ∙ ap (λ xs. map (label_name c) (labels_of holds) ++ xs) (closed_labels c fails more (λ others. stmts_labels c fails others told.2))
      ∙ sym (names_joined c (labels_of holds) (labels_of fails) (reading.labels_in more))
  stmt_labels c (Switch value body) more told = closed_labels c body more (λ others. stmts_labels c body others told.1)
  stmt_labels c (Loop body) more told = closed_labels c body more (λ others. stmts_labels c body others told)
  stmt_labels c (Block body) more told = closed_labels c body more (λ others. stmts_labels c body others told)
  stmt_labels c (Label l) more told = ap (λ (w : Word). reading.labels_in ((w ∷ Colon ∷ Semicolon ∷ []) ∷ more)) (name_word (label_name c l) told.0)
  stmt_labels c (Case k v) more told = refl
  stmt_labels c Default more told = refl
  stmt_labels c (Goto l) more told = refl
  stmt_labels c Break more told = refl
  stmt_labels c (Return None) more told = refl
  stmt_labels c (Return (Some e)) more told = refl

  stmts_labels : (c : Scope) (ss : Stmts) (more : Lines) → StmtsTold c ss → reading.labels_in (lines_onto (lines_of c ss) more) ≡ map (label_name c) (labels_of ss) ++ reading.labels_in more
  stmts_labels c Done more told = refl
  stmts_labels c (Seq first rest) more told =
      ap reading.labels_in (lines_append (stmt_lines c first) (lines_of c rest) more)
      ∙ stmt_labels c first (lines_onto (lines_of c rest) more) told.0
      ∙ ap (λ xs. map (label_name c) (labels_in first) ++ xs) (stmts_labels c rest more told.1)
      ∙ sym (names_joined c (labels_in first) (labels_of rest) (reading.labels_in more))

-- bodies

-- what the rules say of a function's body
pub record BodyTold (p : Program) (n : ℕ) (x : GlobalDecl) (b : Body) : Type 0 where
  pub ret : Shape
  pub params : Shapes
  pub proto : Bool
  pub type : x.type ≡ Some (FuncType ret params proto false)
  pub result : IsShape p ret
  pub names : AreParams p params b.params
  pub prototype : proto || (not (Rattle.cil_tree.specs.WellFormedTypes.has_parameter params)) ≡ true
  pub locals : EachLocal (IsLocal p) (text.behind b.params b.locals)
  pub joined : param_locals params b.params ++ text.behind b.params b.locals ≡ b.locals
  pub stmts : StmtsTold (scope_of p b) b.stmts
  pub labels : map (label_name (scope_of p b)) (labels_of b.stmts) ≡ b.labels
  pub apart : are_apart b.locals b.labels ≡ true
  pub few : locals_size (text.behind b.params b.locals) ≤ n
  pub low : stmts_weight b.stmts < n

stmts_read : (p : Program) (n : ℕ) (b : Body) → StmtsTold (scope_of p b) b.stmts → map (label_name (scope_of p b)) (labels_of b.stmts) ≡ b.labels → are_apart b.locals b.labels ≡ true → stmts_weight b.stmts < n →
    read_stmts (known_of p []) n b.params b.locals (lines_onto (lines_of (scope_of p b) b.stmts) []) ≡ Some b
stmts_read p n b told labels apart low =
    let c = scope_of p b in
    let lines = lines_onto (lines_of c b.stmts) [] in
    ap (λ ls. option_and_then (body_with b.params b.locals ls) (option_and_then (read_nested n) (read_heads (env_of c) ls n lines))) (stmts_labels c b.stmts [] told ∙ Rattle.std.proofs.Common.append-nil (map (label_name c) (labels_of b.stmts)) ∙ labels)
    ∙ ap (λ o. option_and_then (body_with b.params b.locals b.labels) (option_and_then (read_nested n) o)) (stmts_back c n b.stmts [] [] (omega arith) told refl)
    ∙ ap (option_and_then (body_with b.params b.locals b.labels)) (nested_back n b.stmts [] low refl)
    ∙ ap (λ v. cond v (Some b) None) apart

body_back : (p : Program) (n : ℕ) (x : GlobalDecl) (b : Body) → BodyTold p n x b → read_body (known_of p []) n (shape_of x.type) b.params (lines_onto (body_lines p b) []) ≡ Some b
body_back p n x b told =
    let c = scope_of p b in
    let others = text.behind b.params b.locals in
    let lines = lines_onto (lines_of c b.stmts) [] in
    ap (λ (o : Option Shape). read_body (known_of p []) n (shape_of o) b.params (lines_onto (body_lines p b) [])) told.type
    ∙ ap (λ ls. option_and_then (λ (l : List Local × Lines). read_stmts (known_of p []) n b.params (param_locals told.params b.params ++ l.0) l.1) (read_locals (bases_of p) n ls)) (lines_append (map (local_line p) others) (lines_of c b.stmts) [])
    ∙ ap (option_and_then (λ (l : List Local × Lines). read_stmts (known_of p []) n b.params (param_locals told.params b.params ++ l.0) l.1)) (locals_back p n others lines told.few told.locals (stmts_unbased c b.stmts told.stmts))
    ∙ ap (λ ls. read_stmts (known_of p []) n b.params ls lines) told.joined
    ∙ stmts_read p n b told.stmts told.labels told.apart told.low

-- a global has no body, or one that is read back
pub data FunctionTold (p : Program) (n : ℕ) (x : GlobalDecl) : Type 0 where
  NoBody : function_lines p x x.definition ≡ [] → ((b : Body) → x.definition ≡ Function b → ⊥) → FunctionTold p n x
  OneBody : (b : Body) → x.definition ≡ Function b → is_name x.name ≡ true → BodyTold p n x b → FunctionTold p n x

abbrev pub body_of : Definition → Option Body
body_of (Function b) = Some b
body_of _ = None

abbrev pub bodies_told : List GlobalDecl → Bodies
bodies_told [] = []
bodies_told (x ∷ xs) = body_of x.definition ∷ bodies_told xs

abbrev pub functions_of : Program → List GlobalDecl → List Line
functions_of p xs = text.concat_each (λ (x : GlobalDecl). function_lines p x x.definition) xs

function_of : (p : Program) (n : ℕ) (x : GlobalDecl) (b : Body) → x.definition ≡ Function b → (told : BodyTold p n x b) →
    function_lines p x x.definition ≡ header p x told.ret (listed told.proto false (parameter_tokens p told.params b.params)) ∷ (body_lines p b ++ closing ∷ [])
unfolding header
function_of p n x b e told =
    ap (function_lines p x) e
    ∙ ap (λ (o : Option Shape). (linkage x ++ (function_tokens p x b o ++ codes "{" ∷ [])) ∷ (body_lines p b ++ closing ∷ [])) told.type

abbrev header_first : Lines → List (List ℕ)
header_first [] = []
header_first (line ∷ lines) = header_names line

not_next_body : (p : Program) (n : ℕ) (name : List ℕ) (xs : List GlobalDecl) → EachGlobal (FunctionTold p n) xs → is_among (map name_of xs) name ≡ false → begins_with (header_first (lines_onto (functions_of p xs) [])) name ≡ false
not_next_body p n name [] told apart = refl
not_next_body p n name (x ∷ xs) told apart =
    let h = neither (bytes_eq name x.name) (list_any (bytes_eq name) (map name_of xs)) apart in
    ap (λ ls. begins_with (header_first ls) name) (lines_append (function_lines p x x.definition) (functions_of p xs) [])
    ∙ by told.0 h.0 (not_next_body p n name xs told.1 h.1)
  where
    by : FunctionTold p n x → bytes_eq name x.name ≡ false → begins_with (header_first (lines_onto (functions_of p xs) [])) name ≡ false →
        begins_with (header_first (lines_onto (function_lines p x x.definition) (lines_onto (functions_of p xs) []))) name ≡ false
    by (NoBody f d) q later = ap (λ ls. begins_with (header_first (lines_onto ls (lines_onto (functions_of p xs) []))) name) f ∙ later
    by (OneBody b f named told) q later =
        ap (λ ls. begins_with (header_first (lines_onto ls (lines_onto (functions_of p xs) []))) name) (function_of p n x b f told)
        ∙ ap (λ ns. begins_with ns name) (header_back p x told.ret told.params told.proto b.params named told.result told.names told.prototype)
        ∙ other_way name x.name q

skipped_body : (env : Env) (n : ℕ) (d : Declaration) (ds : List Declaration) (lines : Lines) → begins_with (header_first lines) d.name ≡ false → read_bodies env n (d ∷ ds) lines ≡ option_map (body_first None) (read_bodies env n ds lines)
skipped_body env n d ds [] e = refl
skipped_body env n d ds (line ∷ lines) e = rw e refl

taken_body : (env : Env) (n : ℕ) (d : Declaration) (ds : List Declaration) (line : List Word) (lines inner rest : Lines) (names : List (List ℕ)) (b : Body) → header_names line ≡ d.name ∷ names → split_block 0 lines ≡ (inner, rest) → read_body env n d.type names inner ≡ Some b →
    read_bodies env n (d ∷ ds) (line ∷ lines) ≡ option_map (body_first (Some b)) (read_bodies env n ds rest)
taken_body env n d ds line lines inner rest names b e f g =
    ap (λ ns. cond (begins_with ns d.name)
    (option_and_then (λ (y : Body). option_map (body_first (Some y)) (read_bodies env n ds (split_block 0 lines).1)) (read_body env n d.type (behind_first ns) (split_block 0 lines).0))
    (option_map (body_first None) (read_bodies env n ds (line ∷ lines)))) e
    ∙ ap (λ c. cond c
    (option_and_then (λ (y : Body). option_map (body_first (Some y)) (read_bodies env n ds (split_block 0 lines).1)) (read_body env n d.type names (split_block 0 lines).0))
    (option_map (body_first None) (read_bodies env n ds (line ∷ lines)))) ((bytes_eq-Decides d.name d.name).1 refl)
    ∙ ap (λ (r : Lines × Lines). option_and_then (λ (y : Body). option_map (body_first (Some y)) (read_bodies env n ds r.1)) (read_body env n d.type names r.0)) f
    ∙ ap (option_and_then (λ (y : Body). option_map (body_first (Some y)) (read_bodies env n ds rest))) g

no_body : (d : Definition) → ((b : Body) → d ≡ Function b → ⊥) → body_of d ≡ None
no_body (Function b) no_ = absurd (no_ b refl)
no_body Rattle.cil_tree.specs.Tree.Declared no_ = refl
no_body Rattle.cil_tree.specs.Tree.Zeros no_ = refl
no_body (Rattle.cil_tree.specs.Tree.Image items) no_ = refl

pub bodies_back : (p : Program) (n : ℕ) (xs : List GlobalDecl) → EachGlobal (FunctionTold p n) xs → are_different (map name_of xs) ≡ true → read_bodies (known_of p []) n (map declaration_of xs) (lines_onto (functions_of p xs) []) ≡ Some (bodies_told xs, [])
bodies_back p n [] told apart = refl
bodies_back p n (x ∷ xs) told apart =
    let h = both (not (is_among (map name_of xs) x.name)) (are_different (map name_of xs)) apart in
    ap (read_bodies (known_of p []) n (declaration_of x ∷ map declaration_of xs)) (lines_append (function_lines p x x.definition) (functions_of p xs) [])
    ∙ by told.0 (not_next_body p n x.name xs told.1 (denied (is_among (map name_of xs) x.name) h.0))
    ∙ ap (option_map (body_first (body_of x.definition))) (bodies_back p n xs told.1 h.1)
  where
    by : FunctionTold p n x → begins_with (header_first (lines_onto (functions_of p xs) [])) x.name ≡ false →
        read_bodies (known_of p []) n (declaration_of x ∷ map declaration_of xs) (lines_onto (function_lines p x x.definition) (lines_onto (functions_of p xs) []))
        ≡ option_map (body_first (body_of x.definition)) (read_bodies (known_of p []) n (map declaration_of xs) (lines_onto (functions_of p xs) []))
    by (NoBody f d) q =
        ap (λ ls. read_bodies (known_of p []) n (declaration_of x ∷ map declaration_of xs) (lines_onto ls (lines_onto (functions_of p xs) []))) f
        ∙ skipped_body (known_of p []) n (declaration_of x) (map declaration_of xs) (lines_onto (functions_of p xs) []) q
        ∙ ap (λ (o : Option Body). option_map (body_first o) (read_bodies (known_of p []) n (map declaration_of xs) (lines_onto (functions_of p xs) []))) (sym (no_body x.definition d))
    by (OneBody b f named told) q =
        ap (λ ls. read_bodies (known_of p []) n (declaration_of x ∷ map declaration_of xs) (lines_onto ls (lines_onto (functions_of p xs) []))) (function_of p n x b f told)
        ∙ taken_body (known_of p []) n (declaration_of x) (map declaration_of xs) (onto (header p x told.ret (listed told.proto false (parameter_tokens p told.params b.params))) []) (lines_onto (body_lines p b ++ closing ∷ []) (lines_onto (functions_of p xs) []))
        (lines_onto (body_lines p b) []) (lines_onto (functions_of p xs) []) b.params b
        (header_back p x told.ret told.params told.proto b.params named told.result told.names told.prototype)
        (body_split p b (lines_onto (functions_of p xs) []) told.locals told.stmts)
        (body_back p n x b told)
        ∙ ap (λ (d : Definition). option_map (body_first (body_of d)) (read_bodies (known_of p []) n (map declaration_of xs) (lines_onto (functions_of p xs) []))) (sym f)

-- a function's first line neither declares nor defines an object
abbrev headed : Lines → Bool
headed [] = true
headed (line ∷ lines) = ends_open line

pub functions_headed : (p : Program) (n : ℕ) (xs : List GlobalDecl) → EachGlobal (FunctionTold p n) xs → headed (lines_onto (functions_of p xs) []) ≡ true
functions_headed p n [] told = refl
functions_headed p n (x ∷ xs) told = ap headed (lines_append (function_lines p x x.definition) (functions_of p xs) []) ∙ by told.0 (functions_headed p n xs told.1)
  where
    by : FunctionTold p n x → headed (lines_onto (functions_of p xs) []) ≡ true → headed (lines_onto (function_lines p x x.definition) (lines_onto (functions_of p xs) [])) ≡ true
    by (NoBody f d) later = ap (λ ls. headed (lines_onto ls (lines_onto (functions_of p xs) []))) f ∙ later
    by (OneBody b f named told) later = ap (λ ls. headed (lines_onto ls (lines_onto (functions_of p xs) []))) (function_of p n x b f told) ∙ header_opens p x told.ret (listed told.proto false (parameter_tokens p told.params b.params))

pub headed_declares_nothing : (lines : Lines) → headed lines ≡ true → (declared_first lines ≡ false) × (object_first lines ≡ None)
headed_declares_nothing [] e = (refl, refl)
headed_declares_nothing (line ∷ lines) e = (ap (λ b. cond b false (reading.declares_alone line)) e, ap (λ b. cond b None (reading.first_name line)) e)
