-- Device: lines that are printed one behind the other.
use Rattle.std.proofs.Common.{◌≡◌, ◌⊎◌, inl, inr, ℕ, suc, ◌-◌, ◌*◌, ◌^◌, ◌<◌, ◌≤◌, Bool, true, false, ◌&&◌, not, cond, List, [], ◌∷◌, ◌++◌, codes, replicate, refl, sym, ap, ◌∙◌, append_assoc, append-nil, arith}
use Rattle.std.specs.List.{join_with_byte}
use Rattle.std.proofs.lemmas.Bool.{cases_lt}
use Rattle.cil_tree.specs.Tree.{Stmt, Do, If, Switch, Loop, Block, Label, Case, Default, Goto, Break, Return, Stmts, Done, Seq}
use Rattle.cil_tree.specs.Typing.{Scope}
use Rattle.cil_tree.specs.Lines.{Token, Line, opens, closes, open_behind, depth_of, line_bytes, lines_bytes}
use Rattle.cil_tree.specs.Declarators.{number, in_parentheses}
use Rattle.cil_tree.specs.Text.{closed, heading, closing, label_name, exp_tokens, instr_tokens, return_tokens, stmt_lines, lines_of}
use Rattle.cil_printer.specs.Output.{Output, put, puts, capped}
use Rattle.cil_printer.specs.Spaced.{spaced}
use Rattle.cil_printer.specs.Plain.{is_plain, are_plain, IsPlain, prints, open_past}
use Rattle.cil_printer.proofs.Puts.{put-put, put_blanks, nothing_pushed}
use Rattle.cil_printer.proofs.Calls.{both_left, both_right}
use Rattle.cil_printer.proofs.PlainTokens.{plain_cons, plain_in_parentheses, exp_plain, instr_plain, return_plain, number_plain}

-- a line's tokens with a blank behind each but the last
line_joined : (front : List Token) (last : Token) → join_with_byte 32 (front ++ last ∷ []) ≡ spaced front ++ last
line_joined [] last = refl
line_joined (x ∷ []) last = sym (append_assoc x (32 ∷ []) last)
line_joined (x ∷ y ∷ front) last = ap (λ t. x ++ 32 ∷ t) (line_joined (y ∷ front) last) ∙ sym (append_assoc x (32 ∷ spaced (y ∷ front)) last)

-- a line is printed: its indentation, the tokens before the last, the last, and a line feed
pub line_printed : (o a b e : Output) (d : ℕ) (front : List Token) (last : Token) → depth_of d (front ++ last ∷ []) ≡ d → a ≡ put o (replicate (2 * d) 32) → b ≡ puts a front → e ≡ put b (last ++ 10 ∷ []) → e ≡ prints o d ((front ++ last ∷ []) ∷ [])
unfolding prints puts
line_printed o a b e d front last depth ea eb ee =
    ee ∙ ap (λ x. put x (last ++ 10 ∷ [])) (eb ∙ ap (λ x. put x (spaced front)) ea ∙ put-put o (replicate (2 * d) 32) (spaced front)) ∙ put-put o (replicate (2 * d) 32 ++ spaced front) (last ++ 10 ∷ [])
    ∙ ap (put o) (append_assoc (replicate (2 * d) 32) (spaced front) (last ++ 10 ∷ []) ∙ ap (λ t. replicate (2 * d) 32 ++ t) (sym (append_assoc (spaced front) last (10 ∷ [])) ∙ ap (λ t. t ++ 10 ∷ []) (sym (line_joined front last)))
    ∙ ap (λ k. replicate (2 * k) 32 ++ (join_with_byte 32 (front ++ last ∷ []) ++ 10 ∷ [])) (sym depth) ∙ sym (append-nil (line_bytes d (front ++ last ∷ []))))

-- a line that begins with `}` stands where that brace was opened
pub closing_printed : (o a b e : Output) (d : ℕ) (front : List Token) (last : Token) → depth_of (suc d) (front ++ last ∷ []) ≡ d → a ≡ put o (replicate (2 * d) 32) → b ≡ puts a front → e ≡ put b (last ++ 10 ∷ []) → e ≡ prints o (suc d) ((front ++ last ∷ []) ∷ [])
unfolding prints puts
closing_printed o a b e d front last depth ea eb ee =
    ee ∙ ap (λ x. put x (last ++ 10 ∷ [])) (eb ∙ ap (λ x. put x (spaced front)) ea ∙ put-put o (replicate (2 * d) 32) (spaced front)) ∙ put-put o (replicate (2 * d) 32 ++ spaced front) (last ++ 10 ∷ [])
    ∙ ap (put o) (append_assoc (replicate (2 * d) 32) (spaced front) (last ++ 10 ∷ []) ∙ ap (λ t. replicate (2 * d) 32 ++ t) (sym (append_assoc (spaced front) last (10 ∷ [])) ∙ ap (λ t. t ++ 10 ∷ []) (sym (line_joined front last)))
    ∙ ap (λ k. replicate (2 * k) 32 ++ (join_with_byte 32 (front ++ last ∷ []) ++ 10 ∷ [])) (sym depth) ∙ sym (append-nil (line_bytes (suc d) (front ++ last ∷ []))))

-- lines behind lines
lines_append : (d : ℕ) (xs ys : List Line) → lines_bytes d (xs ++ ys) ≡ lines_bytes d xs ++ lines_bytes (open_past d xs) ys
lines_append d [] ys = refl
lines_append d (x ∷ xs) ys = ap (λ t. line_bytes d x ++ t) (lines_append (open_behind d x) xs ys) ∙ sym (append_assoc (line_bytes d x) (lines_bytes (open_behind d x) xs) (lines_bytes (open_past (open_behind d x) xs) ys))

pub prints-prints : (o : Output) (d e : ℕ) (xs ys : List Line) → open_past d xs ≡ e → prints (prints o d xs) e ys ≡ prints o d (xs ++ ys)
unfolding prints
prints-prints o d e xs ys h = ap (λ k. put (put o (lines_bytes d xs)) (lines_bytes k ys)) (sym h) ∙ put-put o (lines_bytes d xs) (lines_bytes (open_past d xs) ys) ∙ ap (put o) (sym (lines_append d xs ys))

pub nothing_printed : (o : Output) (d : ℕ) → o ≡ prints o d []
unfolding prints puts
nothing_printed o d = nothing_pushed o

-- so deep that the blanks before the first line are more than any text has, it is the same how deep
blanks : (d : ℕ) (line : Line) → 2 ^ 64 ≤ suc d → 2 ^ 64 ≤ suc (2 * depth_of d line)
blanks d [] h = omega (arith, h)
blanks d (token ∷ tokens) h = by (closes token)
  where
    by : (b : Bool) → 2 ^ 64 ≤ suc (2 * cond b (d - 1) d)
    by true = omega (arith, h)
    by false = omega (arith, h)

deep_printed : (o : Output) (d e : ℕ) (lines : List Line) → 2 ^ 64 ≤ suc d → 2 ^ 64 ≤ suc e → prints o d lines ≡ prints o e lines
unfolding prints
deep_printed o d e [] h g = refl
deep_printed o d e (line ∷ lines) h g =
    let words : List ℕ = join_with_byte 32 line ++ 10 ∷ [] in
    ap (put o) (append_assoc (replicate (2 * depth_of d line) 32) words (lines_bytes (open_behind d line) lines))
    ∙ put_blanks o (2 * depth_of d line) (2 * depth_of e line) (words ++ lines_bytes (open_behind d line) lines) (words ++ lines_bytes (open_behind e line) lines) (blanks d line h) (blanks e line g)
    ∙ ap (put o) (sym (append_assoc (replicate (2 * depth_of e line) 32) words (lines_bytes (open_behind e line) lines)))

pub deeper_printed : (o a : Output) (d e : ℕ) (lines : List Line) → e ≡ capped (suc d) → a ≡ prints o e lines → a ≡ prints o (suc d) lines
deeper_printed o a d e lines k ea = ea ∙ by (cases_lt (suc d) (2 ^ 64))
  where
    by : (suc d < 2 ^ 64) ⊎ (2 ^ 64 ≤ suc d) → prints o e lines ≡ prints o (suc d) lines
    by (inl lt) = ap (λ n. prints o n lines) (omega (arith, k, lt))
    by (inr ge) = deep_printed o e (suc d) lines (omega (arith, k, ge)) (omega (arith, ge))

-- braces
pub open_plain : (d : ℕ) (xs ys : List Token) → are_plain xs ≡ true → open_behind d (xs ++ ys) ≡ open_behind d ys
open_plain d [] ys e = refl
open_plain d (x ∷ xs) ys e = by (opens x) (closes x) (both_left (is_plain x) (are_plain xs) e) ∙ open_plain d xs ys (both_right (is_plain x) (are_plain xs) e)
  where
    by : (a b : Bool) → not a && not b ≡ true → cond a (open_behind (suc d) (xs ++ ys)) (cond b (open_behind (d - 1) (xs ++ ys)) (open_behind d (xs ++ ys))) ≡ open_behind d (xs ++ ys)
    by true b h = cc
    by false true h = cc
    by false false h = refl

pub open_closed : (d : ℕ) (xs : List Token) → are_plain xs ≡ true → open_behind d (closed xs) ≡ d
open_closed d xs e = open_plain d xs (codes ";" ∷ []) e

pub depth_plain : (d : ℕ) (x : Token) (xs : List Token) → is_plain x ≡ true → depth_of d (x ∷ xs) ≡ d
depth_plain d x xs e = by (opens x) (closes x) e
  where
    by : (a b : Bool) → not a && not b ≡ true → cond b (d - 1) d ≡ d
    by true b h = cc
    by false true h = cc
    by false false h = refl

-- a line of plain tokens before the last
pub depth_front : (d : ℕ) (front : List Token) (last : Token) → are_plain front ≡ true → closes last ≡ false → depth_of d (front ++ last ∷ []) ≡ d
depth_front d [] last e f = ap (λ b. cond b (d - 1) d) f
depth_front d (x ∷ front) last e f = depth_plain d x (front ++ last ∷ []) (both_left (is_plain x) (are_plain front) e)

pub closed_printed : (o a b e : Output) (d : ℕ) (front : List Token) → are_plain front ≡ true → a ≡ put o (replicate (2 * d) 32) → b ≡ puts a front → e ≡ put b (codes ";" ++ 10 ∷ []) → e ≡ prints o d (closed front ∷ [])
closed_printed o a b e d front plain ea eb ee = line_printed o a b e d front (codes ";") (depth_front d front (codes ";") plain refl) ea eb ee

pub opening_printed : (o a b e : Output) (d : ℕ) (front : List Token) → are_plain front ≡ true → a ≡ put o (replicate (2 * d) 32) → b ≡ puts a front → e ≡ put b (codes "{" ++ 10 ∷ []) → e ≡ prints o d ((front ++ codes "{" ∷ []) ∷ [])
opening_printed o a b e d front plain ea eb ee = line_printed o a b e d front (codes "{") (depth_front d front (codes "{") plain refl) ea eb ee

pub open_heading : (d : ℕ) (word : Token) (xs : List Token) → is_plain word ≡ true → are_plain xs ≡ true → open_behind d (heading word xs) ≡ suc d
open_heading d word xs w e = open_plain d (word ∷ in_parentheses xs) (codes "{" ∷ []) (plain_cons word (in_parentheses xs) w (plain_in_parentheses xs e))

-- statements leave as many braces open as there were
pub past_append : (d : ℕ) (xs ys : List Line) → open_past d (xs ++ ys) ≡ open_past (open_past d xs) ys
past_append d [] ys = refl
past_append d (x ∷ xs) ys = past_append (open_behind d x) xs ys

less : (d : ℕ) → suc d - 1 ≡ d
less d = omega arith

past_body : (d : ℕ) (xs : List Line) → open_past (suc d) xs ≡ suc d → open_past (suc d) (xs ++ closing ∷ []) ≡ d
past_body d xs e = past_append (suc d) xs (closing ∷ []) ∙ ap (λ k. open_past k (closing ∷ [])) e ∙ less d

-- a line that closes a brace and opens one
past_else : (d : ℕ) (lines : List Line) → open_past (suc d) ((codes "}" ∷ codes "else" ∷ codes "{" ∷ []) ∷ lines) ≡ open_past (suc d) lines
past_else d lines = ap (λ k. open_past (suc k) lines) (less d)

mutual
  pub stmt_past : (c : Scope) → IsPlain c → (d : ℕ) (s : Stmt) → open_past d (stmt_lines c s) ≡ d
  stmt_past c is d (Do instr) = open_closed d (instr_tokens c instr) (instr_plain c is instr)
  stmt_past c is d (If test holds fails) =
      ap (λ k. open_past k (lines_of c holds ++ (codes "}" ∷ codes "else" ∷ codes "{" ∷ []) ∷ (lines_of c fails ++ closing ∷ []))) (open_heading d (codes "if") (exp_tokens c test) refl (exp_plain c is test))
      ∙ past_append (suc d) (lines_of c holds) ((codes "}" ∷ codes "else" ∷ codes "{" ∷ []) ∷ (lines_of c fails ++ closing ∷ []))
      ∙ ap (λ k. open_past k ((codes "}" ∷ codes "else" ∷ codes "{" ∷ []) ∷ (lines_of c fails ++ closing ∷ []))) (stmts_past c is (suc d) holds) ∙ past_else d (lines_of c fails ++ closing ∷ []) ∙ past_body d (lines_of c fails) (stmts_past c is (suc d) fails)
  stmt_past c is d (Switch value body) = ap (λ k. open_past k (lines_of c body ++ closing ∷ [])) (open_heading d (codes "switch") (exp_tokens c value) refl (exp_plain c is value)) ∙ past_body d (lines_of c body) (stmts_past c is (suc d) body)
  stmt_past c is d (Loop body) = past_body d (lines_of c body) (stmts_past c is (suc d) body)
  stmt_past c is d (Block body) = past_body d (lines_of c body) (stmts_past c is (suc d) body)
  stmt_past c is d (Label number) = open_closed d (label_name c number ∷ codes ":" ∷ []) (plain_cons (label_name c number) (codes ":" ∷ []) (is.labels number) refl)
  stmt_past c is d (Case kind value) = open_plain d (number kind value) (codes ":" ∷ codes ";" ∷ []) (number_plain kind value)
  stmt_past c is d Default = refl
  stmt_past c is d (Goto number) = open_closed d (codes "goto" ∷ label_name c number ∷ []) (plain_cons (label_name c number) [] (is.labels number) refl)
  stmt_past c is d Break = refl
  stmt_past c is d (Return value) = open_closed d (return_tokens c value) (return_plain c is value)

  pub stmts_past : (c : Scope) → IsPlain c → (d : ℕ) (ss : Stmts) → open_past d (lines_of c ss) ≡ d
  stmts_past c is d Done = refl
  stmts_past c is d (Seq first rest) = past_append d (stmt_lines c first) (lines_of c rest) ∙ ap (λ k. open_past k (lines_of c rest)) (stmt_past c is d first) ∙ stmts_past c is d rest

-- what is printed of compound statements
pub body_printed : (o a b : Output) (d : ℕ) (xs : List Line) → open_past (suc d) xs ≡ suc d → a ≡ prints o (suc d) xs → b ≡ prints a (suc d) (closing ∷ []) → b ≡ prints o (suc d) (xs ++ closing ∷ [])
body_printed o a b d xs e ea eb = eb ∙ ap (λ x. prints x (suc d) (closing ∷ [])) ea ∙ prints-prints o (suc d) (suc d) xs (closing ∷ []) e

pub nested_printed : (o a b : Output) (d : ℕ) (line : Line) (xs : List Line) → open_behind d line ≡ suc d → a ≡ prints o d (line ∷ []) → b ≡ prints a (suc d) xs → b ≡ prints o d (line ∷ xs)
nested_printed o a b d line xs e ea eb = eb ∙ ap (λ x. prints x (suc d) xs) ea ∙ prints-prints o d (suc d) (line ∷ []) xs e

abbrev pub else_line : Line
else_line = codes "}" ∷ codes "else" ∷ codes "{" ∷ []

-- the two parts of an `if`
pub both_printed : (o b e : Output) (d : ℕ) (xs ys : List Line) → open_past (suc d) xs ≡ suc d → b ≡ prints o (suc d) (xs ++ else_line ∷ []) → e ≡ prints b (suc d) ys → e ≡ prints o (suc d) (xs ++ else_line ∷ ys)
both_printed o b e d xs ys h eb ee =
    ee ∙ ap (λ x. prints x (suc d) ys) eb
    ∙ prints-prints o (suc d) (suc d) (xs ++ else_line ∷ []) ys (past_append (suc d) xs (else_line ∷ []) ∙ ap (λ k. open_past k (else_line ∷ [])) h ∙ past_else d [])
    ∙ ap (prints o (suc d)) (append_assoc xs (else_line ∷ []) ys)
