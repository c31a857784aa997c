-- Device: the text of a program of the form is the text of a program of the whole language.
use Rattle.std.proofs.Common.{◌≡◌, ℕ, zero, suc, ◌<◌, ◌^◌, true, false, List, [], ◌∷◌, ◌++◌, length, codes, decimal, slice_get, Option, Some, refl, sym, ap, ◌∙◌, append_assoc, append-nil, arith, le-leb, ◌==◌, pos}
use Rattle.std.specs.Option.{option_and_then}
use Rattle.std.specs.List.{list_all}
use Rattle.cil_base.specs.declared.kinds.Abi.TheVariants.{Lp64}
use Rattle.cil_base.specs.declared.kinds.IntKind.TheVariants.{Int as int}
use Rattle.cil_base.specs.declared.operators.BinOp.{BinOp}
use Rattle.cil_base.specs.declared.operators.BinOp.TheVariants.{Mul, Div, Rem, Add, Sub, Shl, Shr, Lt, Gt, Le, Ge, Eq, Ne, And, Xor, Or}
use Rattle.cil_base.specs.Arithmetic.{fits}
use Rattle.cil_base.specs.Operators.{operator_spelling, IsAdditive}
use Rattle.type_graph.specs.declared.nodes.Node.TheVariants.{Int, Func}
use Rattle.type_graph.specs.Shapes.{Shape, IntType, shape}
use Rattle.type_graph.specs.Arena.{Graph, IsArena, empty_graph}
use Rattle.type_graph.proofs.ArenaLaws.{IsArena-empty, IsArena-node}
use Rattle.type_graph.proofs.LayoutLaws.{agg_layout_is}
use Rattle.cil_tree.specs.Typing.{Scope, scope_of, type_of, binary_type}
use Rattle.cil_tree.specs.WellFormedTypes.{AreTypes, TypesFit, TypesAreSmall, AggregatesAreSmall, each_shape, function_fits, prototype_fits}
use Rattle.cil_tree.specs.Names.{AreNames}
use Rattle.cil_tree.specs.Globals.{global_fits}
use Rattle.cil_tree.specs.Programs.{IsProgram}
use Rattle.cil_tree.specs.Programs as whole
use Rattle.cil_tree.specs.Lines.{Token, Line, opens, closes, open_behind, line_bytes, lines_bytes}
use Rattle.cil_tree.specs.Text as text
use Rattle.cil_meaning.specs.Program.{Exp, Const, Bin, IsExp}
use Rattle.cil_meaning.specs.Text.{exp_tokens, Text, IsTextOf}
use Rattle.std.specs.Int.{IsInRange}
use Rattle.std.specs.Str.Parse.{digits_value, AllDigits}
use Rattle.std.proofs.lemmas.Bool.Decides.{nat_tests}
use Rattle.std.proofs.lemmas.Fmt.{digits_decimal, decimal_nonempty}
use Rattle.std.proofs.lemmas.Str.Parse.{IsNumeralModel, digit_at}
use Rattle.cil_commands.specs.Lowering.{main_graph, returning_body, returning_main}
use Rattle.cil_commands.specs.Small.{whole_exp, whole_program}
use Rattle.cil_commands.proofs.SmallPrograms.{code_unit, unit_seen}

-- the types

int_graph : Graph
int_graph = record { abi = Lp64; nodes = Int int ∷ []; aggs = []; completed = [] }

int_arena : IsArena int_graph
unfolding int_graph
int_arena = IsArena-node (empty_graph Lp64) (Int int) (IsArena-empty (empty_graph Lp64) refl refl refl) tt refl (λ s e. cc) (omega arith)

func_new : (s : ℕ) → slice_get (Int int ∷ []) s ≡ Some (Func true false (record { 0 = 0 }) []) → ⊥
func_new zero e = cc
func_new (suc s) e = cc

main_arena : IsArena main_graph
unfolding int_graph
main_arena = IsArena-node int_graph (Func true false (record { 0 = 0 }) []) int_arena (omega arith, tt) tt func_new (omega arith)

main_functions : each_shape function_fits main_graph
unfolding shape
main_functions zero l = refl
main_functions (suc zero) l = refl
main_functions (suc (suc t)) l = absurd (omega (arith, l))

main_prototypes : each_shape prototype_fits main_graph
unfolding shape
main_prototypes zero l = refl
main_prototypes (suc zero) l = refl
main_prototypes (suc (suc t)) l = absurd (omega (arith, l))

main_small : TypesAreSmall main_graph
unfolding shape
main_small zero l e = let size : 4 ≡ l.size = cc in omega (arith, size)
main_small (suc zero) l e = absurd (cc e)
main_small (suc (suc t)) l e = absurd (cc e)

no_aggregates : AggregatesAreSmall main_graph
no_aggregates a l e = absurd (cc (sym (agg_layout_is main_graph main_arena a) ∙ e))

main_fit : TypesFit main_graph
unfolding shape
main_fit = record { unqualified = refl; members_unqualified = refl; enums_complete = refl; members_kind = refl; members = refl; flexible = refl; arrays = refl; functions = main_functions; prototypes = main_prototypes; small = main_small; small_aggregates = no_aggregates }

are_types : AreTypes main_graph
are_types = record { fit = main_fit; tagged = refl; enums_first = refl; ordered = refl }

-- the names

are_names : (e : Exp) → AreNames (whole_program e)
are_names e = record { globals = refl; enumerators = refl; internals = refl; file = refl; tags = refl; members = refl; bodies = refl }

-- the expression has type int

scope : Exp → Scope
scope e = scope_of (whole_program e) (returning_body (whole_exp e))

int_fits : (v : ℕ) → v < 2 ^ 31 → fits int (pos v) ≡ true
int_fits v small = le-leb v 2147483647 (omega arith)

additive_type : (c : Scope) (op : BinOp) → IsAdditive op → binary_type c op (IntType int) (IntType int) ≡ Some (IntType int)
additive_type c Add is = refl
additive_type c Sub is = refl
additive_type c Mul is = absurd is
additive_type c Div is = absurd is
additive_type c Rem is = absurd is
additive_type c Shl is = absurd is
additive_type c Shr is = absurd is
additive_type c Lt is = absurd is
additive_type c Gt is = absurd is
additive_type c Le is = absurd is
additive_type c Ge is = absurd is
additive_type c Eq is = absurd is
additive_type c Ne is = absurd is
additive_type c And is = absurd is
additive_type c Xor is = absurd is
additive_type c Or is = absurd is

pub typed : (p e : Exp) → IsExp e → type_of (scope_of (whole_program p) (returning_body (whole_exp p))) (whole_exp e) ≡ Some (IntType int)
typed p (Const v) small = rw (int_fits v small) refl
typed p (Bin op left right) is =
    ap (λ (o : Option Shape). option_and_then (λ s. option_and_then (binary_type (scope_of (whole_program p) (returning_body (whole_exp p))) op s) (type_of (scope_of (whole_program p) (returning_body (whole_exp p))) (whole_exp right))) o) (typed p left is.1.0)
    ∙ ap (λ (o : Option Shape). option_and_then (binary_type (scope_of (whole_program p) (returning_body (whole_exp p))) op (IntType int)) o) (typed p right is.1.1)
    ∙ additive_type (scope_of (whole_program p) (returning_body (whole_exp p))) op is.0

main_fits : (e : Exp) → IsExp e → list_all (global_fits (whole_program e)) (returning_main (whole_exp e) ∷ []) ≡ true
main_fits e is = rw (typed e e is) refl

whole_is_program : (e : Exp) → IsExp e → IsProgram (whole_program e)
whole_is_program e is = record { arena = main_arena; unit = code_unit e; seen = unit_seen e; types = are_types; names = are_names e; globals = main_fits e is }

-- the text

-- no brace
abbrev IsPlain : Token → Type 0
IsPlain token = (opens token ≡ false) × (closes token ≡ false)

own : IsNumeralModel (AllDigits 10) (digits_value 10)
own = record { to = λ ds h. h; from = λ ds h. h; same = λ ds h. refl }

plain_digit : (c : ℕ) (cs : List ℕ) → IsInRange 48 57 c → IsPlain (c ∷ cs)
plain_digit c cs within =
    let open_one : (c == 123) ≡ false = grind (arith, nat_tests) in
    let close_one : (c == 125) ≡ false = grind (arith, nat_tests) in
    (rw open_one refl, rw close_one refl)

plain_digits : (ds : List ℕ) → AllDigits 10 ds → 0 < length ds → IsPlain ds
plain_digits [] digits some = absurd (omega (arith, some))
plain_digits (c ∷ cs) digits some = plain_digit c cs (digit_at (c ∷ cs) 0 digits (omega arith))

plain_constant : (v : ℕ) → v < 2 ^ 31 → IsPlain (decimal v)
plain_constant v small = plain_digits (decimal v) (digits_decimal own v (omega arith)) (decimal_nonempty v (omega arith))

plain_operator : (op : BinOp) → IsPlain (operator_spelling op)
plain_operator Mul = (refl, refl)
plain_operator Div = (refl, refl)
plain_operator Rem = (refl, refl)
plain_operator Add = (refl, refl)
plain_operator Sub = (refl, refl)
plain_operator Shl = (refl, refl)
plain_operator Shr = (refl, refl)
plain_operator Lt = (refl, refl)
plain_operator Gt = (refl, refl)
plain_operator Le = (refl, refl)
plain_operator Ge = (refl, refl)
plain_operator Eq = (refl, refl)
plain_operator Ne = (refl, refl)
plain_operator And = (refl, refl)
plain_operator Xor = (refl, refl)
plain_operator Or = (refl, refl)

one_token : (braces : ℕ) (token : Token) (rest : List Token) → IsPlain token → open_behind braces (token ∷ rest) ≡ open_behind braces rest
one_token braces token rest plain = rw (plain.0, plain.1) refl

-- an expression opens and closes no brace
no_brace : (braces : ℕ) (e : Exp) (rest : List Token) → IsExp e → open_behind braces (exp_tokens e ++ rest) ≡ open_behind braces rest
no_brace braces (Const v) rest small = one_token braces (decimal v) rest (plain_constant v small)
no_brace braces (Bin op left right) rest is =
    ap (open_behind braces) (append_assoc (exp_tokens left) (operator_spelling op ∷ (exp_tokens right ++ codes ")" ∷ [])) rest)
    ∙ no_brace braces left (operator_spelling op ∷ ((exp_tokens right ++ codes ")" ∷ []) ++ rest)) is.1.0
    ∙ one_token braces (operator_spelling op) ((exp_tokens right ++ codes ")" ∷ []) ++ rest) (plain_operator op)
    ∙ ap (open_behind braces) (append_assoc (exp_tokens right) (codes ")" ∷ []) rest)
    ∙ no_brace braces right (codes ")" ∷ rest) is.1.1

same_tokens : (c : Scope) (e : Exp) → text.exp_tokens c (whole_exp e) ≡ exp_tokens e
same_tokens c (Const v) = ap (λ (t : Token). t ∷ []) (append-nil (decimal v))
same_tokens c (Bin op left right) =
    ap (λ ts. codes "(" ∷ ((ts ++ operator_spelling op ∷ text.exp_tokens c (whole_exp right)) ++ codes ")" ∷ [])) (same_tokens c left)
    ∙ ap (λ ts. codes "(" ∷ ((exp_tokens left ++ operator_spelling op ∷ ts) ++ codes ")" ∷ [])) (same_tokens c right)
    ∙ ap (λ (ts : List Token). codes "(" ∷ ts) (append_assoc (exp_tokens left) (operator_spelling op ∷ exp_tokens right) (codes ")" ∷ []))

abbrev main_line : Token → Line
main_line last = codes "int" ∷ codes "main" ∷ codes "(" ∷ codes "void" ∷ codes ")" ∷ last ∷ []

-- the bytes of the lines that return tokens
abbrev returned_bytes : List Token → List ℕ
returned_bytes ts = lines_bytes 0 (main_line (codes ";") ∷ main_line (codes "{") ∷ (codes "return" ∷ (ts ++ codes ";" ∷ [])) ∷ (codes "}" ∷ []) ∷ [])

-- the last line, where so many braces are open before it
abbrev ending : List Token → ℕ → List ℕ
ending ts braces = line_bytes 0 (main_line (codes ";")) ++ (line_bytes 0 (main_line (codes "{")) ++ (line_bytes 1 (codes "return" ∷ (ts ++ codes ";" ∷ [])) ++ lines_bytes braces ((codes "}" ∷ []) ∷ [])))

pub same_text : (e : Exp) → IsExp e → text.Text (whole_program e) ≡ Text e
same_text e is = ap returned_bytes (same_tokens (scope_of (whole_program e) (returning_body (whole_exp e))) e) ∙ ap (ending (exp_tokens e)) (no_brace 1 e (codes ";" ∷ []) is)

-- bytes that are the text of a program of the form are a text of the whole language
pub is_whole_text : (bytes : List ℕ) (e : Exp) → IsTextOf bytes e → whole.IsTextOf bytes (whole_program e)
is_whole_text bytes e is = record { program = whole_is_program e is.program.well_formed; text = is.text ∙ sym (same_text e is.program.well_formed); short = is.short }
