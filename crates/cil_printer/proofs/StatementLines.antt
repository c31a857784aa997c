-- Device: what is printed of statements.
use Rattle.std.proofs.Common.{◌≡◌, ℕ, zero, suc, ◌*◌, ◌<◌, ◌≤◌, Bool, true, ◌&&◌, List, [], ◌∷◌, ◌++◌, Option, Some, None, length, get_or, drop, codes, replicate, refl, sym, ap, ◌∙◌, append_assoc, arith}
use Rattle.std.specs.Prelude.{ℤ}
use Rattle.cil_base.specs.declared.kinds.IntKind.{IntKind}
use Rattle.type_graph.specs.declared.nodes.Node.{Node}
use Rattle.cil_tree.specs.declared.statements.Stmt.{Stmt as Tree}
use Rattle.cil_tree.specs.Tree.{Exp, Instr, Stmt, Do, If, Switch, Loop, Block, Label, Case, Goto, Return, Stmts}
use Rattle.cil_tree.specs.View.{stmt_of, stmts_of}
use Rattle.cil_tree.specs.Typing.{Scope}
use Rattle.cil_tree.specs.Bodies.{each_stmt, each_within}
use Rattle.cil_tree.specs.Lines.{Token}
use Rattle.cil_tree.specs.Declarators.{number, in_parentheses}
use Rattle.cil_tree.specs.Text.{heading, closing, label_name, exp_tokens, instr_tokens, stmt_lines, lines_of}
use Rattle.cil_printer.specs.Output.{Output, put, puts, capped}
use Rattle.cil_printer.specs.Plain.{is_plain, IsPlain, prints}
use Rattle.cil_printer.specs.Seen.{returned_tokens}
use Rattle.cil_printer.proofs.Puts.{nothing_pushed, two_pushed, pair_pushed, cons_pushed}
use Rattle.cil_printer.proofs.Calls.{both_left, both_right}
use Rattle.cil_printer.proofs.PlainTokens.{plain_cons, plain_append, plain_in_parentheses, exp_plain, instr_plain, number_plain}
use Rattle.cil_printer.proofs.Printed.{deeper_printed, closing_printed, closed_printed, opening_printed, prints-prints, nothing_printed, body_printed, nested_printed, both_printed, open_heading, stmt_past, stmts_past}

pub brace_closed : (o a b : Output) (d : ℕ) → a ≡ put o (replicate (2 * d) 32) → b ≡ put a (codes "}" ++ 10 ∷ []) → b ≡ prints o (suc d) (closing ∷ [])
brace_closed o a b d ea eb = closing_printed o a a b d [] (codes "}") (omega arith) ea (nothing_pushed a) eb

pub else_opened : (o a b c e : Output) (d : ℕ) → a ≡ put o (replicate (2 * d) 32) → b ≡ puts a (codes "}" ∷ []) → c ≡ puts b (codes "else" ∷ []) → e ≡ put c (codes "{" ++ 10 ∷ []) → e ≡ prints o (suc d) ((codes "}" ∷ codes "else" ∷ codes "{" ∷ []) ∷ [])
else_opened o a b c e d ea eb ec ee = closing_printed o a c e d (codes "}" ∷ codes "else" ∷ []) (codes "{") (omega arith) ea (pair_pushed a b c (codes "}") (codes "else") eb ec) ee

pub block_opened : (o a b : Output) (d : ℕ) → a ≡ put o (replicate (2 * d) 32) → b ≡ put a (codes "{" ++ 10 ∷ []) → b ≡ prints o d ((codes "{" ∷ []) ∷ [])
block_opened o a b d ea eb = opening_printed o a a b d [] refl ea (nothing_pushed a) eb

pub loop_opened : (o a b c e f g : Output) (d : ℕ) → a ≡ put o (replicate (2 * d) 32) → b ≡ puts a (codes "while" ∷ []) → c ≡ puts b (codes "(" ∷ []) → e ≡ puts c (codes "1" ∷ []) → f ≡ puts e (codes ")" ∷ []) → g ≡ put f (codes "{" ++ 10 ∷ []) → g ≡ prints o d (heading (codes "while") (codes "1" ∷ []) ∷ [])
loop_opened o a b c e f g d ea eb ec ee ef eg =
    opening_printed o a f g d (codes "while" ∷ codes "(" ∷ codes "1" ∷ codes ")" ∷ []) refl ea (cons_pushed a b f (codes "while") (codes "(" ∷ codes "1" ∷ codes ")" ∷ []) eb (cons_pushed b c f (codes "(") (codes "1" ∷ codes ")" ∷ []) ec (pair_pushed c e f (codes "1") (codes ")") ee ef))) eg

pub word_printed : (o a b c : Output) (d : ℕ) → a ≡ put o (replicate (2 * d) 32) → b ≡ puts a (codes "break" ∷ []) → c ≡ put b (codes ";" ++ 10 ∷ []) → c ≡ prints o d ((codes "break" ∷ codes ";" ∷ []) ∷ [])
word_printed o a b c d ea eb ec = closed_printed o a b c d (codes "break" ∷ []) refl ea eb ec

pub default_printed : (o a b c e : Output) (d : ℕ) → a ≡ put o (replicate (2 * d) 32) → b ≡ puts a (codes "default" ∷ []) → c ≡ puts b (codes ":" ∷ []) → e ≡ put c (codes ";" ++ 10 ∷ []) → e ≡ prints o d ((codes "default" ∷ codes ":" ∷ codes ";" ∷ []) ∷ [])
default_printed o a b c e d ea eb ec ee = closed_printed o a c e d (codes "default" ∷ codes ":" ∷ []) refl ea (pair_pushed a b c (codes "default") (codes ":") eb ec) ee

pub instr_printed : (o a b e : Output) (d : ℕ) (c : Scope) (i : Instr) → IsPlain c → a ≡ put o (replicate (2 * d) 32) → b ≡ puts a (instr_tokens c i) → e ≡ put b (codes ";" ++ 10 ∷ []) → e ≡ prints o d (stmt_lines c (Do i))
instr_printed o a b e d c i is ea eb ee = closed_printed o a b e d (instr_tokens c i) (instr_plain c is i) ea eb ee

pub label_printed : (o a b f e : Output) (d : ℕ) (c : Scope) (n : ℕ) → IsPlain c → a ≡ put o (replicate (2 * d) 32) → b ≡ puts a (label_name c n ∷ []) → f ≡ puts b (codes ":" ∷ []) → e ≡ put f (codes ";" ++ 10 ∷ []) → e ≡ prints o d (stmt_lines c (Label n))
label_printed o a b f e d c n is ea eb ef ee = closed_printed o a f e d (label_name c n ∷ codes ":" ∷ []) (plain_cons (label_name c n) (codes ":" ∷ []) (is.labels n) refl) ea (pair_pushed a b f (label_name c n) (codes ":") eb ef) ee

pub case_printed : (o a b f g e : Output) (d : ℕ) (c : Scope) (kind : IntKind) (v : ℤ) → a ≡ put o (replicate (2 * d) 32) → b ≡ puts a (codes "case" ∷ []) → f ≡ puts b (number kind v) → g ≡ puts f (codes ":" ∷ []) → e ≡ put g (codes ";" ++ 10 ∷ []) → e ≡ prints o d (stmt_lines c (Case kind v))
case_printed o a b f g e d c kind v ea eb ef eg ee =
    closed_printed o a g e d (codes "case" ∷ (number kind v ++ codes ":" ∷ [])) (plain_append (number kind v) (codes ":" ∷ []) (number_plain kind v) refl) ea
    (cons_pushed a b g (codes "case") (number kind v ++ codes ":" ∷ []) eb (two_pushed b f g (number kind v) (codes ":" ∷ []) ef eg)) ee
    ∙ ap (λ l. prints o d ((codes "case" ∷ l) ∷ [])) (append_assoc (number kind v) (codes ":" ∷ []) (codes ";" ∷ []))

pub goto_printed : (o a b f e : Output) (d : ℕ) (c : Scope) (n : ℕ) → IsPlain c → a ≡ put o (replicate (2 * d) 32) → b ≡ puts a (codes "goto" ∷ []) → f ≡ puts b (label_name c n ∷ []) → e ≡ put f (codes ";" ++ 10 ∷ []) → e ≡ prints o d (stmt_lines c (Goto n))
goto_printed o a b f e d c n is ea eb ef ee = closed_printed o a f e d (codes "goto" ∷ label_name c n ∷ []) (plain_cons (label_name c n) [] (is.labels n) refl) ea (pair_pushed a b f (codes "goto") (label_name c n) eb ef) ee

pub return_printed : (o a b f e : Output) (d : ℕ) (c : Scope) (v : Option Exp) → IsPlain c → a ≡ put o (replicate (2 * d) 32) → b ≡ puts a (codes "return" ∷ []) → f ≡ puts b (returned_tokens c v) → e ≡ put f (codes ";" ++ 10 ∷ []) → e ≡ prints o d (stmt_lines c (Return v))
return_printed o a b f e d c None is ea eb ef ee = closed_printed o a f e d (codes "return" ∷ []) refl ea (ef ∙ sym (nothing_pushed b) ∙ eb) ee
return_printed o a b f e d c (Some v) is ea eb ef ee = closed_printed o a f e d (codes "return" ∷ exp_tokens c v) (exp_plain c is v) ea (cons_pushed a b f (codes "return") (exp_tokens c v) eb ef) ee

pub heading_printed : (o a b f e : Output) (d : ℕ) (word : Token) (c : Scope) (x : Exp) → IsPlain c → is_plain word ≡ true → a ≡ put o (replicate (2 * d) 32) → b ≡ puts a (word ∷ []) → f ≡ puts b (in_parentheses (exp_tokens c x)) → e ≡ put f (codes "{" ++ 10 ∷ []) → e ≡ prints o d (heading word (exp_tokens c x) ∷ [])
heading_printed o a b f e d word c x is w ea eb ef ee =
    opening_printed o a f e d (word ∷ in_parentheses (exp_tokens c x)) (plain_cons word (in_parentheses (exp_tokens c x)) w (plain_in_parentheses (exp_tokens c x) (exp_plain c is x))) ea (cons_pushed a b f word (in_parentheses (exp_tokens c x)) eb ef) ee

pub whole_printed : (o a b : Output) (d e : ℕ) (c : Scope) (ss : Stmts) → IsPlain c → e ≡ capped (suc d) → a ≡ prints o e (lines_of c ss) → b ≡ prints a (suc d) (closing ∷ []) → b ≡ prints o (suc d) (lines_of c ss ++ closing ∷ [])
whole_printed o a b d e c ss is k ea eb = body_printed o a b d (lines_of c ss) (stmts_past c is (suc d) ss) (deeper_printed o a d e (lines_of c ss) k ea) eb

pub holding_printed : (o a b : Output) (d e : ℕ) (c : Scope) (ss : Stmts) → IsPlain c → e ≡ capped (suc d) → a ≡ prints o e (lines_of c ss) → b ≡ prints a (suc d) ((codes "}" ∷ codes "else" ∷ codes "{" ∷ []) ∷ []) → b ≡ prints o (suc d) (lines_of c ss ++ (codes "}" ∷ codes "else" ∷ codes "{" ∷ []) ∷ [])
holding_printed o a b d e c ss is k ea eb = eb ∙ ap (λ x. prints x (suc d) ((codes "}" ∷ codes "else" ∷ codes "{" ∷ []) ∷ [])) (deeper_printed o a d e (lines_of c ss) k ea) ∙ prints-prints o (suc d) (suc d) (lines_of c ss) ((codes "}" ∷ codes "else" ∷ codes "{" ∷ []) ∷ []) (stmts_past c is (suc d) ss)

-- statements from one on
next_is : (xs : List Tree) (i : ℕ) (x : Tree) → i < length xs → x ≡ get_or xs i x → drop i xs ≡ x ∷ drop (suc i) xs
next_is [] i x h e = absurd (omega arith)
next_is (y ∷ xs) zero x h e = ap (λ z. z ∷ xs) (sym e)
next_is (y ∷ xs) (suc i) x h e = next_is xs i x (omega arith) e

pub statements_from : (o a : Output) (d : ℕ) (c : Scope) (nodes : List Node) (ss : List Tree) (i j : ℕ) (s : Tree) → IsPlain c → j ≡ suc i → i < length ss → s ≡ get_or ss i s → a ≡ prints o d (stmt_lines c (stmt_of nodes s)) →
    prints a d (lines_of c (stmts_of nodes (drop j ss))) ≡ prints o d (lines_of c (stmts_of nodes (drop i ss)))
statements_from o a d c nodes ss i j s is k h e ea =
    ap (λ l. prints a d (lines_of c (stmts_of nodes (drop l ss)))) k ∙ ap (λ x. prints x d (lines_of c (stmts_of nodes (drop (suc i) ss)))) ea
    ∙ prints-prints o d d (stmt_lines c (stmt_of nodes s)) (lines_of c (stmts_of nodes (drop (suc i) ss))) (stmt_past c is d (stmt_of nodes s))
    ∙ ap (λ xs. prints o d (lines_of c (stmts_of nodes xs))) (sym (next_is ss i s h e))

pub statements_end : (o x : Output) (d : ℕ) (c : Scope) (nodes : List Node) (ss : List Tree) (i : ℕ) → length ss ≤ i → prints o d (lines_of c (stmts_of nodes (drop i ss))) ≡ x → o ≡ x
statements_end o x d c nodes ss i h e = nothing_printed o d ∙ ap (λ xs. prints o d (lines_of c (stmts_of nodes xs))) (sym (past ss i h)) ∙ e
  where
    past : (ss : List Tree) (i : ℕ) → length ss ≤ i → drop i ss ≡ []
    past [] zero h = refl
    past [] (suc i) h = refl
    past (t ∷ ss) zero h = absurd (omega arith)
    past (t ∷ ss) (suc i) h = past ss i (omega arith)

-- each statement at whatever depth
pub first_at : (of : Stmt → Bool) (nodes : List Node) (ss : List Tree) (i : ℕ) (s : Tree) → i < length ss → s ≡ get_or ss i s → each_stmt of (stmts_of nodes ss) ≡ true → of (stmt_of nodes s) ≡ true
first_at of nodes [] i s h e f = absurd (omega arith)
first_at of nodes (t ∷ ss) zero s h e f = ap (λ x. of (stmt_of nodes x)) e ∙ both_left (of (stmt_of nodes t)) (each_within of (stmt_of nodes t) && each_stmt of (stmts_of nodes ss)) f
first_at of nodes (t ∷ ss) (suc i) s h e f = first_at of nodes ss i s (omega arith) e (both_right (each_within of (stmt_of nodes t)) (each_stmt of (stmts_of nodes ss)) (both_right (of (stmt_of nodes t)) (each_within of (stmt_of nodes t) && each_stmt of (stmts_of nodes ss)) f))

pub within_at : (of : Stmt → Bool) (nodes : List Node) (ss : List Tree) (i : ℕ) (s : Tree) → i < length ss → s ≡ get_or ss i s → each_stmt of (stmts_of nodes ss) ≡ true → each_within of (stmt_of nodes s) ≡ true
within_at of nodes [] i s h e f = absurd (omega arith)
within_at of nodes (t ∷ ss) zero s h e f = ap (λ x. each_within of (stmt_of nodes x)) e ∙ both_left (each_within of (stmt_of nodes t)) (each_stmt of (stmts_of nodes ss)) (both_right (of (stmt_of nodes t)) (each_within of (stmt_of nodes t) && each_stmt of (stmts_of nodes ss)) f)
within_at of nodes (t ∷ ss) (suc i) s h e f = within_at of nodes ss i s (omega arith) e (both_right (each_within of (stmt_of nodes t)) (each_stmt of (stmts_of nodes ss)) (both_right (of (stmt_of nodes t)) (each_within of (stmt_of nodes t) && each_stmt of (stmts_of nodes ss)) f))

-- compound statements
pub if_printed : (o a b e : Output) (d : ℕ) (c : Scope) (s : Stmt) (x : Exp) (ss ts : Stmts) → IsPlain c → s ≡ If x ss ts → a ≡ prints o d (heading (codes "if") (exp_tokens c x) ∷ []) → b ≡ prints a (suc d) (lines_of c ss ++ (codes "}" ∷ codes "else" ∷ codes "{" ∷ []) ∷ []) → e ≡ prints b (suc d) (lines_of c ts ++ closing ∷ []) → e ≡ prints o d (stmt_lines c s)
if_printed o a b e d c s x ss ts plain is ea eb ee =
    nested_printed o a e d (heading (codes "if") (exp_tokens c x)) (lines_of c ss ++ (codes "}" ∷ codes "else" ∷ codes "{" ∷ []) ∷ (lines_of c ts ++ closing ∷ [])) (open_heading d (codes "if") (exp_tokens c x) refl (exp_plain c plain x)) ea
    (both_printed a b e d (lines_of c ss) (lines_of c ts ++ closing ∷ []) (stmts_past c plain (suc d) ss) eb ee)
    ∙ ap (λ r. prints o d (stmt_lines c r)) (sym is)

pub switch_printed : (o a b : Output) (d : ℕ) (c : Scope) (s : Stmt) (x : Exp) (ss : Stmts) → IsPlain c → s ≡ Switch x ss → a ≡ prints o d (heading (codes "switch") (exp_tokens c x) ∷ []) → b ≡ prints a (suc d) (lines_of c ss ++ closing ∷ []) → b ≡ prints o d (stmt_lines c s)
switch_printed o a b d c s x ss plain is ea eb =
    nested_printed o a b d (heading (codes "switch") (exp_tokens c x)) (lines_of c ss ++ closing ∷ []) (open_heading d (codes "switch") (exp_tokens c x) refl (exp_plain c plain x)) ea eb ∙ ap (λ r. prints o d (stmt_lines c r)) (sym is)

pub loop_printed : (o a b : Output) (d : ℕ) (c : Scope) (s : Stmt) (ss : Stmts) → s ≡ Loop ss → a ≡ prints o d (heading (codes "while") (codes "1" ∷ []) ∷ []) → b ≡ prints a (suc d) (lines_of c ss ++ closing ∷ []) → b ≡ prints o d (stmt_lines c s)
loop_printed o a b d c s ss is ea eb = nested_printed o a b d (heading (codes "while") (codes "1" ∷ [])) (lines_of c ss ++ closing ∷ []) refl ea eb ∙ ap (λ r. prints o d (stmt_lines c r)) (sym is)

pub block_printed : (o a b : Output) (d : ℕ) (c : Scope) (s : Stmt) (ss : Stmts) → s ≡ Block ss → a ≡ prints o d ((codes "{" ∷ []) ∷ []) → b ≡ prints a (suc d) (lines_of c ss ++ closing ∷ []) → b ≡ prints o d (stmt_lines c s)
block_printed o a b d c s ss is ea eb = nested_printed o a b d (codes "{" ∷ []) (lines_of c ss ++ closing ∷ []) refl ea eb ∙ ap (λ r. prints o d (stmt_lines c r)) (sym is)
