-- Device: what is printed of functions with bodies.
use Rattle.std.proofs.Common.{◌≡◌, ℕ, zero, suc, ◌<◌, ◌≤◌, Bool, true, false, List, [], ◌∷◌, ◌++◌, Option, Some, None, length, get_or, drop, map, codes, refl, sym, ap, ◌∙◌, append_assoc, subst, arith}
use Rattle.cil_base.specs.declared.numbers.NameId.{NameId}
use Rattle.cil_base.specs.declared.numbers.TypeId.{TypeId}
use Rattle.type_graph.specs.declared.nodes.Node.{Node}
use Rattle.type_graph.specs.declared.nodes.Node.TheVariants.{Func}
use Rattle.type_graph.specs.Arena.{EachType, NamesBelow}
use Rattle.type_graph.specs.Shapes.{Shape, Shapes, VoidType, IntType, PtrType, ArrayType, FuncType, AggType, NoTypes, MoreTypes}
use Rattle.cil_tree.specs.declared.globals.Local.{Local as Variable}
use Rattle.cil_tree.specs.Tree.{Local, GlobalDecl, Body, Function, Program}
use Rattle.cil_tree.specs.View.{text_at, local_of}
use Rattle.cil_tree.specs.Typing.{scope_of, is_function}
use Rattle.cil_tree.specs.Lines.{Token, Line, open_behind}
use Rattle.cil_tree.specs.Declarators.{in_parentheses, declared, type_tokens, listed}
use Rattle.cil_tree.specs.Text.{closing, linkage, parameter_tokens, function_tokens, local_line, local_name, behind, body_lines, lines_of, function_lines}
use Rattle.cil_printer.specs.Output.{Output, put, puts}
use Rattle.cil_printer.specs.Sides.{before, after}
use Rattle.cil_printer.specs.Plain.{is_plain, are_plain, IsPlainProgram, IsPlain, prints, open_past}
use Rattle.cil_printer.proofs.Puts.{puts-puts, nothing_pushed, two_pushed}
use Rattle.cil_printer.proofs.Declared.{declared_is}
use Rattle.cil_printer.proofs.Calls.{both_left, both_right}
use Rattle.cil_printer.proofs.PlainTokens.{plain_append, plain_cons, plain_in_parentheses, plain_listed, plain_separated, declared_plain, type_plain}
use Rattle.cil_printer.proofs.Printed.{opening_printed, prints-prints, nothing_printed, nested_printed, body_printed, open_plain, open_closed, past_append, stmts_past}
use Rattle.cil_printer.proofs.GlobalTokens.{unindented, linkage_plain}

pub prototype_pushed : (o a b c d : Output) (p : Program) (s : Shape) (name : Token) (ts : List Token) → a ≡ puts o (before p s) → b ≡ puts a (name ∷ []) → c ≡ puts b ts → d ≡ puts c (after p s) → d ≡ puts o (declared p s (name ∷ ts))
prototype_pushed o a b c d p s name ts ea eb ec ed = simp (ed, ec, eb, ea, puts-puts, append_assoc) (ap (puts o) (sym (declared_is p s (name ∷ ts))))

parameters_plain : (p : Program) → IsPlainProgram p → (ss : Shapes) (names : List Token) → are_plain names ≡ true → are_plain (parameter_tokens p ss names) ≡ true
parameters_plain p is NoTypes names e = refl
parameters_plain p is (MoreTypes s more) [] e = refl
parameters_plain p is (MoreTypes s more) (n ∷ names) e =
    plain_separated (declared p s (n ∷ [])) (parameter_tokens p more names) (declared_plain p is s (n ∷ []) (plain_cons n [] (both_left (is_plain n) (are_plain names) e) refl)) (parameters_plain p is more names (both_right (is_plain n) (are_plain names) e))

function_plain : (p : Program) → IsPlainProgram p → (x : GlobalDecl) (b : Body) (s : Option Shape) → is_plain x.name ≡ true → are_plain b.params ≡ true → are_plain (function_tokens p x b s) ≡ true
function_plain p is x b None n e = refl
function_plain p is x b (Some VoidType) n e = refl
function_plain p is x b (Some (IntType kind)) n e = refl
function_plain p is x b (Some (PtrType q s)) n e = refl
function_plain p is x b (Some (ArrayType q s bound)) n e = refl
function_plain p is x b (Some (AggType a)) n e = refl
function_plain p is x b (Some (FuncType ret params proto variadic)) n e =
    declared_plain p is ret (x.name ∷ in_parentheses (listed proto variadic (parameter_tokens p params b.params))) (plain_cons x.name (in_parentheses (listed proto variadic (parameter_tokens p params b.params))) n (plain_in_parentheses (listed proto variadic (parameter_tokens p params b.params)) (plain_listed proto variadic (parameter_tokens p params b.params) (parameters_plain p is params b.params e))))

pub head_printed : (o a b c : Output) (p : Program) (x : GlobalDecl) (body : Body) (s : Option Shape) → IsPlainProgram p → is_plain x.name ≡ true → are_plain body.params ≡ true → a ≡ puts o (linkage x) → b ≡ puts a (function_tokens p x body s) → c ≡ put b (codes "{" ++ 10 ∷ []) →
    c ≡ prints o 0 ((linkage x ++ (function_tokens p x body s ++ codes "{" ∷ [])) ∷ [])
head_printed o a b c p x body s is named e ea eb ec =
    opening_printed o o b c 0 (linkage x ++ function_tokens p x body s) (plain_append (linkage x) (function_tokens p x body s) (linkage_plain x) (function_plain p is x body s named e)) (unindented o) (two_pushed o a b (linkage x) (function_tokens p x body s) ea eb) ec
    ∙ ap (λ l. prints o 0 (l ∷ [])) (append_assoc (linkage x) (function_tokens p x body s) (codes "{" ∷ []))

behind_is : (names : List Token) (xs : List Local) → behind names xs ≡ drop (length names) xs
behind_is [] xs = refl
behind_is (n ∷ names) [] = refl
behind_is (n ∷ names) (x ∷ xs) = behind_is names xs

-- locals from one on
pub local_plain : (nodes : List Node) (names : List Token) (xs : List Variable) (i : ℕ) (d : Variable) → i < length xs → is_plain (local_name (map (local_of nodes names) xs) i) ≡ true → is_plain (text_at names (get_or xs i d).name) ≡ true
local_plain nodes names [] i d h e = absurd (omega arith)
local_plain nodes names (x ∷ xs) zero d h e = e
local_plain nodes names (x ∷ xs) (suc i) d h e = local_plain nodes names xs i d (omega arith) e

locals_next : (nodes : List Node) (names : List Token) (xs : List Variable) (i : ℕ) (d : Variable) → i < length xs → drop i (map (local_of nodes names) xs) ≡ local_of nodes names (get_or xs i d) ∷ drop (suc i) (map (local_of nodes names) xs)
locals_next nodes names [] i d h = absurd (omega arith)
locals_next nodes names (x ∷ xs) zero d h = refl
locals_next nodes names (x ∷ xs) (suc i) d h = locals_next nodes names xs i d (omega arith)

local_past : (d : ℕ) (p : Program) → IsPlainProgram p → (x : Local) → is_plain x.name ≡ true → open_past d (local_line p x ∷ []) ≡ d
local_past d p is x e = open_closed d (type_tokens p x.type (x.name ∷ [])) (type_plain p is x.type (x.name ∷ []) (plain_cons x.name [] e refl))

pub locals_from : (o a : Output) (p : Program) → IsPlainProgram p → (nodes : List Node) (names : List Token) (xs : List Variable) (i j : ℕ) (d : Variable) → j ≡ suc i → i < length xs → is_plain (local_name (map (local_of nodes names) xs) i) ≡ true →
    a ≡ prints o 1 (local_line p (local_of nodes names (get_or xs i d)) ∷ []) → prints a 1 (map (local_line p) (drop j (map (local_of nodes names) xs))) ≡ prints o 1 (map (local_line p) (drop i (map (local_of nodes names) xs)))
locals_from o a p is nodes names xs i j d k h e ea =
    ap (λ l. prints a 1 (map (local_line p) (drop l (map (local_of nodes names) xs)))) k ∙ ap (λ y. prints y 1 (map (local_line p) (drop (suc i) (map (local_of nodes names) xs)))) ea
    ∙ prints-prints o 1 1 (local_line p (local_of nodes names (get_or xs i d)) ∷ []) (map (local_line p) (drop (suc i) (map (local_of nodes names) xs))) (local_past 1 p is (local_of nodes names (get_or xs i d)) (local_plain nodes names xs i d h e))
    ∙ ap (λ ys. prints o 1 (map (local_line p) ys)) (sym (locals_next nodes names xs i d h))

pub locals_end : (o x : Output) (p : Program) (nodes : List Node) (names : List Token) (xs : List Variable) (i : ℕ) → length xs ≤ i → prints o 1 (map (local_line p) (drop i (map (local_of nodes names) xs))) ≡ x → o ≡ x
locals_end o x p nodes names xs i h e = nothing_printed o 1 ∙ ap (λ ys. prints o 1 (map (local_line p) ys)) (sym (past xs i h)) ∙ e
  where
    past : (xs : List Variable) (i : ℕ) → length xs ≤ i → drop i (map (local_of nodes names) xs) ≡ []
    past [] zero h = refl
    past [] (suc i) h = refl
    past (t ∷ xs) zero h = absurd (omega arith)
    past (t ∷ xs) (suc i) h = past xs i (omega arith)

-- the locals of a function leave as many braces open
lines_past : (d : ℕ) (p : Program) → IsPlainProgram p → (xs : List Local) → ((n : ℕ) → is_plain (local_name xs n) ≡ true) → open_past d (map (local_line p) xs) ≡ d
lines_past d p is [] e = refl
lines_past d p is (x ∷ xs) e = ap (λ k. open_past k (map (local_line p) xs)) (local_past d p is x (e 0)) ∙ lines_past d p is xs (λ n. e (suc n))

rest_plain : (k : ℕ) (xs : List Local) → ((n : ℕ) → is_plain (local_name xs n) ≡ true) → (n : ℕ) → is_plain (local_name (drop k xs) n) ≡ true
rest_plain zero xs e n = e n
rest_plain (suc k) [] e n = e n
rest_plain (suc k) (x ∷ xs) e n = rest_plain k xs (λ m. e (suc m)) n

-- the lines of a definition open and close their braces
abbrev definition_head : Program → GlobalDecl → Body → Line
definition_head p x body = linkage x ++ (function_tokens p x body x.type ++ codes "{" ∷ [])

head_opens : (p : Program) → IsPlainProgram p → (x : GlobalDecl) (body : Body) → is_plain x.name ≡ true → are_plain body.params ≡ true → open_behind 0 (definition_head p x body) ≡ 1
head_opens p is x body named e =
    ap (open_behind 0) (sym (append_assoc (linkage x) (function_tokens p x body x.type) (codes "{" ∷ [])))
    ∙ open_plain 0 (linkage x ++ function_tokens p x body x.type) (codes "{" ∷ []) (plain_append (linkage x) (function_tokens p x body x.type) (linkage_plain x) (function_plain p is x body x.type named e))

dropped_past : (p : Program) (body : Body) → IsPlain (scope_of p body) → (n : ℕ) → open_past 1 (map (local_line p) (drop n body.locals)) ≡ 1
dropped_past p body is n = lines_past 1 p is.program (drop n body.locals) (rest_plain n body.locals is.locals)

body_past : (p : Program) (body : Body) → IsPlain (scope_of p body) → open_past 1 (body_lines p body) ≡ 1
body_past p body is =
    past_append 1 (map (local_line p) (behind body.params body.locals)) (lines_of (scope_of p body) body.stmts)
    ∙ ap (λ m. open_past m (lines_of (scope_of p body) body.stmts)) (ap (λ ls. open_past 1 (map (local_line p) ls)) (behind_is body.params body.locals) ∙ dropped_past p body is (length body.params))
    ∙ stmts_past (scope_of p body) is 1 body.stmts

pub definition_past : (p : Program) (x : GlobalDecl) (body : Body) → IsPlain (scope_of p body) → is_plain x.name ≡ true → are_plain body.params ≡ true → open_past 0 (function_lines p x (Function body)) ≡ 0
definition_past p x body is named e =
    ap (λ k. open_past k (body_lines p body ++ closing ∷ [])) (head_opens p is.program x body named e) ∙ past_append 1 (body_lines p body) (closing ∷ []) ∙ ap (λ k. open_past k (closing ∷ [])) (body_past p body is)

-- what is printed of a definition
pub definition_printed : (o a b c d : Output) (p : Program) (x : GlobalDecl) (body : Body) (n : ℕ) → IsPlain (scope_of p body) → is_plain x.name ≡ true → are_plain body.params ≡ true → n ≡ length body.params →
    a ≡ prints o 0 (definition_head p x body ∷ []) → b ≡ prints a 1 (map (local_line p) (drop n body.locals)) → c ≡ prints b 1 (lines_of (scope_of p body) body.stmts) → d ≡ prints c 1 (closing ∷ []) →
    d ≡ prints o 0 (function_lines p x (Function body))
definition_printed o a b c d p x body n is named e k ea eb ec ed =
    nested_printed o a d 0 (definition_head p x body) (body_lines p body ++ closing ∷ []) (head_opens p is.program x body named e) ea
    (body_printed a c d 0 (body_lines p body) (body_past p body is) (ec ∙ ap (λ y. prints y 1 (lines_of (scope_of p body) body.stmts)) eb ∙ prints-prints a 1 1 (map (local_line p) (drop n body.locals)) (lines_of (scope_of p body) body.stmts) (dropped_past p body is n)
    ∙ ap (λ ls. prints a 1 (map (local_line p) ls ++ lines_of (scope_of p body) body.stmts)) (ap (λ m. drop m body.locals) k ∙ sym (behind_is body.params body.locals))) ed)

pub not_function : (o : Output) (p : Program) (x : GlobalDecl) (b : Body) (s : Shape) → is_function s ≡ false → o ≡ puts o (function_tokens p x b (Some s))
not_function o p x b VoidType e = nothing_pushed o
not_function o p x b (IntType kind) e = nothing_pushed o
not_function o p x b (PtrType q s) e = nothing_pushed o
not_function o p x b (ArrayType q s bound) e = nothing_pushed o
not_function o p x b (AggType a) e = nothing_pushed o
not_function o p x b (FuncType ret params proto variadic) e = cc

pub no_function : (o : Output) (p : Program) (x : GlobalDecl) (b : Body) (s : Option Shape) → s ≡ None → o ≡ puts o (function_tokens p x b s)
no_function o p x b s e = nothing_pushed o ∙ ap (λ t. puts o (function_tokens p x b t)) (sym e)

pub params_length : (names : List Token) (xs : List NameId) (n : ℕ) → n ≡ length xs → n ≡ length (map (text_at names) xs)
params_length names xs n e = e ∙ sym (same xs)
  where
    same : (xs : List NameId) → length (map (text_at names) xs) ≡ length xs
    same [] = refl
    same (x ∷ xs) = ap suc (same xs)

pub each_below : (k n m : ℕ) (node : Node) (ret : TypeId) (params : List TypeId) (proto variadic : Bool) (ts : List TypeId) → node ≡ Func proto variadic ret params → k < n → ts ≡ params → NamesBelow k m node → EachType n ts
each_below k n m node ret params proto variadic ts is h same names = subst (EachType n) (sym same) (wider params (subst (NamesBelow k m) is names).1)
  where
    wider : (us : List TypeId) → EachType k us → EachType n us
    wider [] e = e
    wider (u ∷ us) e = (omega (arith, h, e.0), wider us e.1)
