-- Device: no token of a program's text has a blank, and no line is empty.
use Rattle.std.proofs.Common.{◌≡◌, ℕ, Bool, true, false, cond, List, [], ◌∷◌, ◌++◌, map, codes, Option, Some, None, refl, sym, subst}
use Rattle.std.specs.Option.{option_map, option_and_then}
use Rattle.cil_base.specs.Integer.{ulong_of}
use Rattle.cil_base.specs.declared.kinds.IntKind.TheVariants as kind
use Rattle.type_graph.specs.declared.aggregates.Aggregate.{Aggregate}
use Rattle.type_graph.specs.declared.aggregates.Member.{Member}
use Rattle.type_graph.specs.declared.layout.Layout.{Layout}
use Rattle.type_graph.specs.Shapes.{Shape, Shapes, NoTypes, MoreTypes, shape}
use Rattle.cil_tree.specs.Tree.{Exp, Lval, Instr, Set, Call, Zero, Stmt, Do, If, Switch, Loop, Block, Label, Case, Default, Goto, Break, Return, Stmts, Done, Seq, Item, Local, Body, Function, GlobalDecl, Program}
use Rattle.cil_tree.specs.Typing.{Scope, scope_of, is_enum, place_type}
use Rattle.cil_tree.specs.Lines.{Token, Line}
use Rattle.cil_tree.specs.Declarators.{tag_text, tagged, declared, type_tokens, listed, in_parentheses, number}
use Rattle.cil_tree.specs.Text.{shape_layout, label_name, member_name, exp_tokens, place_tokens, argument_tokens, callee_tokens, result_tokens, size_tokens, instr_tokens, closed, heading, closing, return_tokens, stmt_lines, lines_of, image_tokens, is_function_type, declarator, linkage, storage, declaration_line, object_lines, parameter_tokens, function_tokens, local_line, body_lines, function_lines, enumerator_line, member_line, complete_lines, enum_lines, tag_lines, struct_lines, concat_each, program_lines}
use Rattle.cil_tree.specs.Text as text
use Rattle.cil_text.proofs.Clean.{is_clean, AllClean, clean_append, parens_clean, name_clean, number_clean, keyword_clean, declared_clean, separated_clean, listed_clean}
use Rattle.cil_text.proofs.InstrsBack.{ArgsTold, ResultTold, InstrTold}
use Rattle.cil_text.proofs.StmtsBack.{StmtTold, StmtsTold}
use Rattle.cil_text.proofs.AggregatesBack.{EachMember, IsEnumerator, IsField, EachAggregate, IsTag, IsEnum, IsStruct, fields_told}
use Rattle.cil_text.proofs.ObjectsBack.{shape_of, IsDeclared, EachGlobal}
use Rattle.cil_text.proofs.BodiesBack.{AreParams, IsLocal, EachLocal, BodyTold}

-- a line has a token, and its tokens have no blank
abbrev pub IsLine : Line → Type 0
IsLine [] = ⊥
IsLine (t ∷ ts) = AllClean (t ∷ ts)

abbrev pub AreLines : List Line → Type 0
AreLines [] = Unit {0}
AreLines (line ∷ lines) = IsLine line × AreLines lines

pub lines_joined : (a b : List Line) → AreLines a → AreLines b → AreLines (a ++ b)
lines_joined [] b x y = y
lines_joined (line ∷ a) b x y = (x.0, lines_joined a b x.1 y)

closed_line : (ts : List Token) → AllClean ts → IsLine (closed ts)
closed_line [] x = (refl, tt)
closed_line (t ∷ ts) x = clean_append (t ∷ ts) (codes ";" ∷ []) x (refl, tt)

-- statements

args_clean : (c : Scope) (es : List Exp) → ArgsTold c es → AllClean (argument_tokens c es)
args_clean c [] told = tt
args_clean c (e ∷ es) told = separated_clean (exp_tokens c e) (argument_tokens c es) told.0.2 (args_clean c es told.1)

size_clean : (c : Scope) (s : Option Shape) → AllClean (size_tokens c s)
size_clean c s = by (option_and_then (shape_layout c.program.graph) s)
  where
    by : (o : Option Layout) → AllClean (elim o as (λ _. List Token) [ None ↦ [] | Some l ↦ number (ulong_of c.program.graph.abi) (Rattle.std.specs.Prelude.pos l.size) ])
    by None = tt
    by (Some l) = number_clean (ulong_of c.program.graph.abi) (Rattle.std.specs.Prelude.pos l.size)

result_clean : (c : Scope) (o : Option Lval) → ResultTold c o → AllClean (result_tokens c o)
result_clean c None told = tt
result_clean c (Some place) told = clean_append (place_tokens c place) (codes "=" ∷ []) told.2 (refl, tt)

instr_clean : (c : Scope) (i : Instr) → InstrTold c i → AllClean (instr_tokens c i)
instr_clean c (Set place value) told = clean_append (place_tokens c place) (codes "=" ∷ exp_tokens c value) told.0.2 (refl, told.1.2)
instr_clean c (Call result callee arguments) told =
    clean_append (result_tokens c result) (callee_tokens c callee ++ in_parentheses (argument_tokens c arguments)) (result_clean c result told.0)
    (clean_append (callee_tokens c callee) (in_parentheses (argument_tokens c arguments)) told.1.3 (parens_clean (argument_tokens c arguments) (args_clean c arguments told.2)))
instr_clean c (Zero place) told = (
  refl,
  parens_clean (in_parentheses (codes "&" ∷ place_tokens c place) ++ codes "," ∷ codes "0" ∷ codes "," ∷ size_tokens c (place_type c place))
      (clean_append (in_parentheses (codes "&" ∷ place_tokens c place)) (codes "," ∷ codes "0" ∷ codes "," ∷ size_tokens c (place_type c place)) (parens_clean (codes "&" ∷ place_tokens c place) (refl, told.2)) (refl, (refl, (refl, size_clean c (place_type c place))))),
)

heading_clean : (word : Token) (ts : List Token) → is_clean word ≡ true → AllClean ts → IsLine (heading word ts)
heading_clean word ts w x = (w, clean_append (in_parentheses ts) (codes "{" ∷ []) (parens_clean ts x) (refl, tt))

closing_line : IsLine closing
closing_line = (refl, tt)

mutual
  stmt_clean : (c : Scope) (s : Stmt) → StmtTold c s → AreLines (stmt_lines c s)
  stmt_clean c (Do instr) told = (closed_line (instr_tokens c instr) (instr_clean c instr told), tt)
  stmt_clean c (If test holds fails) told = (
    heading_clean (codes "if") (exp_tokens c test) refl told.0.2,
    lines_joined (lines_of c holds) ((codes "}" ∷ codes "else" ∷ codes "{" ∷ []) ∷ (lines_of c fails ++ closing ∷ [])) (stmts_clean c holds told.1)
        ((refl, (refl, (refl, tt))), lines_joined (lines_of c fails) (closing ∷ []) (stmts_clean c fails told.2) (closing_line, tt)),
  )
  stmt_clean c (Switch value body) told = (heading_clean (codes "switch") (exp_tokens c value) refl told.0.2, lines_joined (lines_of c body) (closing ∷ []) (stmts_clean c body told.1) (closing_line, tt))
  stmt_clean c (Loop body) told = (heading_clean (codes "while") (codes "1" ∷ []) refl (refl, tt), lines_joined (lines_of c body) (closing ∷ []) (stmts_clean c body told) (closing_line, tt))
  stmt_clean c (Block body) told = ((refl, tt), lines_joined (lines_of c body) (closing ∷ []) (stmts_clean c body told) (closing_line, tt))
  stmt_clean c (Label l) told = ((name_clean (label_name c l) told.0, (refl, (refl, tt))), tt)
  stmt_clean c (Case k v) told = ((refl, clean_append (number k v) (codes ":" ∷ codes ";" ∷ []) (number_clean k v) (refl, (refl, tt))), tt)
  stmt_clean c Default told = ((refl, (refl, (refl, tt))), tt)
  stmt_clean c (Goto l) told = ((refl, (name_clean (label_name c l) told.0, (refl, tt))), tt)
  stmt_clean c Break told = ((refl, (refl, tt)), tt)
  stmt_clean c (Return None) told = ((refl, (refl, tt)), tt)
  stmt_clean c (Return (Some e)) told = ((refl, clean_append (exp_tokens c e) (codes ";" ∷ []) told.2 (refl, tt)), tt)

  stmts_clean : (c : Scope) (ss : Stmts) → StmtsTold c ss → AreLines (lines_of c ss)
  stmts_clean c Done told = tt
  stmts_clean c (Seq first rest) told = lines_joined (stmt_lines c first) (lines_of c rest) (stmt_clean c first told.0) (stmts_clean c rest told.1)

-- declarations and bodies

static_clean : (b : Bool) → AllClean (cond b (codes "static" ∷ []) [])
static_clean true = (refl, tt)
static_clean false = tt

declarator_clean : (p : Program) (x : GlobalDecl) → IsDeclared p x → AllClean (declarator p x)
declarator_clean p x is = subst (λ (o : Option Shape). AllClean (type_tokens p o (x.name ∷ []))) (sym is.1) (declared_clean p (shape_of x.type) (x.name ∷ []) is.2 (name_clean x.name is.0, tt))

declaration_clean : (p : Program) (x : GlobalDecl) → IsDeclared p x → IsLine (declaration_line p x)
declaration_clean p x is = closed_line (storage x ++ declarator p x) (clean_append (storage x) (declarator p x) (by x.internal (is_function_type x.type)) (declarator_clean p x is))
  where
    by : (a b : Bool) → AllClean (cond a (codes "static" ∷ []) (cond b [] (codes "extern" ∷ [])))
    by true b = (refl, tt)
    by false true = tt
    by false false = (refl, tt)

pub zero_clean : (p : Program) (x : GlobalDecl) → IsDeclared p x → IsLine (closed (declarator p x))
zero_clean p x is = closed_line (declarator p x) (declarator_clean p x is)

pub image_line_clean : (p : Program) (x : GlobalDecl) (items : List Item) → IsDeclared p x → AllClean (image_tokens p (Some (shape_of x.type)) items) → IsLine (closed (linkage x ++ (declarator p x ++ codes "=" ∷ image_tokens p x.type items)))
image_line_clean p x items is image =
    closed_line (linkage x ++ (declarator p x ++ codes "=" ∷ image_tokens p x.type items))
    (clean_append (linkage x) (declarator p x ++ codes "=" ∷ image_tokens p x.type items) (static_clean x.internal)
    (clean_append (declarator p x) (codes "=" ∷ image_tokens p x.type items) (declarator_clean p x is) (refl, subst (λ (o : Option Shape). AllClean (image_tokens p o items)) (sym is.1) image)))

params_clean : (p : Program) (params : Shapes) (names : List (List ℕ)) → AreParams p params names → AllClean (parameter_tokens p params names)
params_clean p NoTypes names are = tt
params_clean p (MoreTypes s more) [] are = tt
params_clean p (MoreTypes s more) (name ∷ names) are = separated_clean (declared p s (name ∷ [])) (parameter_tokens p more names) (declared_clean p s (name ∷ []) are.0 (name_clean name are.1, tt)) (params_clean p more names are.2)

locals_clean : (p : Program) (xs : List Local) → EachLocal (IsLocal p) xs → AreLines (map (local_line p) xs)
locals_clean p [] is = tt
locals_clean p (x ∷ xs) is = (
  closed_line (type_tokens p x.type (x.name ∷ [])) (subst (λ (o : Option Shape). AllClean (type_tokens p o (x.name ∷ []))) (sym is.0.1) (declared_clean p (shape_of x.type) (x.name ∷ []) is.0.2 (name_clean x.name is.0.0, tt))),
  locals_clean p xs is.1,
)

opened_line : (ts : List Token) → AllClean ts → IsLine (ts ++ codes "{" ∷ [])
opened_line [] x = (refl, tt)
opened_line (t ∷ ts) x = clean_append (t ∷ ts) (codes "{" ∷ []) x (refl, tt)

head_line : (a b : List Token) → AllClean a → IsLine b → IsLine (a ++ b)
head_line [] b x y = y
head_line (t ∷ a) [] x y = absurd y
head_line (t ∷ a) (u ∷ b) x y = clean_append (t ∷ a) (u ∷ b) x y

pub function_clean : (p : Program) (n : ℕ) (x : GlobalDecl) (b : Body) → Rattle.cil_tree.specs.Names.is_name x.name ≡ true → (told : BodyTold p n x b) → AreLines (function_lines p x (Function b))
function_clean p n x b named told = (
  head_line (linkage x) (function_tokens p x b x.type ++ codes "{" ∷ []) (static_clean x.internal)
      (opened_line (function_tokens p x b x.type) (subst (λ (o : Option Shape). AllClean (function_tokens p x b o)) (sym told.type)
      (declared_clean p told.ret (x.name ∷ in_parentheses (listed told.proto false (parameter_tokens p told.params b.params))) told.result
      (name_clean x.name named, parens_clean (listed told.proto false (parameter_tokens p told.params b.params)) (listed_clean told.proto false (parameter_tokens p told.params b.params) (params_clean p told.params b.params told.names)))))),
  lines_joined (body_lines p b) (closing ∷ [])
      (lines_joined (map (local_line p) (text.behind b.params b.locals)) (lines_of (scope_of p b) b.stmts) (locals_clean p (text.behind b.params b.locals) told.locals) (stmts_clean (scope_of p b) b.stmts told.stmts))
      (closing_line, tt),
)

-- aggregates

tagged_clean : (p : Program) (x : Aggregate) → IsTag p x → AllClean (tagged p x)
tagged_clean p x is = (keyword_clean x.kind, (name_clean (tag_text p x) is.0, tt))

enumerators_clean : (p : Program) (ms : List Member) → EachMember (IsEnumerator p) ms → AreLines (map (enumerator_line p) ms)
enumerators_clean p [] is = tt
enumerators_clean p (m ∷ ms) is = ((name_clean (member_name p m) is.0.0, (refl, clean_append (number kind.Int m.value) (codes "," ∷ []) (number_clean kind.Int m.value) (refl, tt))), enumerators_clean p ms is.1)

fields_clean : (p : Program) (ms : List Member) → EachMember (IsField p) ms → AreLines (map (member_line p) ms)
fields_clean p [] is = tt
fields_clean p (m ∷ ms) is =
    (closed_line (declared p (shape p.graph.nodes m.ty.of.0) (member_name p m ∷ [])) (declared_clean p (shape p.graph.nodes m.ty.of.0) (member_name p m ∷ []) is.0.1 (name_clean (member_name p m) is.0.0, tt)), fields_clean p ms is.1)

complete_clean : (p : Program) (of : Member → Line) (x : Aggregate) → IsTag p x → (o : Option (List Member)) → ((ms : List Member) → o ≡ Some ms → AreLines (map of ms)) →
    AreLines (elim o as (λ _. List Line) [ None ↦ [] | Some ms ↦ (tagged p x ++ codes "{" ∷ []) ∷ (map of ms ++ (codes "}" ∷ codes ";" ∷ []) ∷ []) ])
complete_clean p of x tag None members = tt
complete_clean p of x tag (Some ms) members =
    (clean_append (tagged p x) (codes "{" ∷ []) (tagged_clean p x tag) (refl, tt), lines_joined (map of ms) ((codes "}" ∷ codes ";" ∷ []) ∷ []) (members ms refl) ((refl, (refl, tt)), tt))

cond_clean : (b : Bool) (a d : List Line) → AreLines a → AreLines d → AreLines (cond b a d)
cond_clean true a d x y = x
cond_clean false a d x y = y

pub enums_clean : (p : Program) (xs : List Aggregate) → EachAggregate (IsEnum p) xs → AreLines (concat_each (enum_lines p) xs)
enums_clean p [] is = tt
enums_clean p (x ∷ xs) is =
    lines_joined (enum_lines p x) (concat_each (enum_lines p) xs)
    (cond_clean (is_enum x.kind) (complete_lines p (enumerator_line p) x) []
    (subst (λ (o : Option (List Member)). AreLines (elim o as (λ _. List Line) [ None ↦ [] | Some ms ↦ (tagged p x ++ codes "{" ∷ []) ∷ (map (enumerator_line p) ms ++ (codes "}" ∷ codes ";" ∷ []) ∷ []) ])) (sym is.0.2.1)
    (complete_clean p (enumerator_line p) x is.0.0 (Some is.0.2.0) (λ ms e. let same : is.0.2.0 ≡ ms = cc in subst (λ ys. AreLines (map (enumerator_line p) ys)) same (enumerators_clean p is.0.2.0 is.0.2.2)))) tt)
    (enums_clean p xs is.1)

pub tags_clean : (p : Program) (xs : List Aggregate) → EachAggregate (IsStruct p) xs → AreLines (concat_each (tag_lines p) xs)
tags_clean p [] is = tt
tags_clean p (x ∷ xs) is = lines_joined (tag_lines p x) (concat_each (tag_lines p) xs) (cond_clean (is_enum x.kind) [] (closed (tagged p x) ∷ []) tt (closed_line (tagged p x) (tagged_clean p x is.0.0), tt)) (tags_clean p xs is.1)

pub structs_clean : (p : Program) (xs : List Aggregate) → EachAggregate (IsStruct p) xs → AreLines (concat_each (struct_lines p) xs)
structs_clean p [] is = tt
structs_clean p (x ∷ xs) is =
    lines_joined (struct_lines p x) (concat_each (struct_lines p) xs)
    (cond_clean (is_enum x.kind) [] (complete_lines p (member_line p) x) tt
    (complete_clean p (member_line p) x is.0.0 x.members (λ ms e. fields_clean p ms (subst (fields_told p) e is.0.2))))
    (structs_clean p xs is.1)

pub declarations_clean : (p : Program) (xs : List GlobalDecl) → EachGlobal (IsDeclared p) xs → AreLines (map (declaration_line p) xs)
declarations_clean p [] is = tt
declarations_clean p (x ∷ xs) is = (declaration_clean p x is.0, declarations_clean p xs is.1)
