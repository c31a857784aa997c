-- Device: steps of the readings of a function's lines.
use Rattle.std.proofs.Common.{◌≡◌, ℕ, zero, suc, true, false, cond, List, [], ◌∷◌, ◌++◌, length, drop, get_or, append_assoc, append-nil, ◌+◌, ◌<◌, ◌≤◌, Vec, Box, Option, Some, None, refl, sym, ap, ◌∙◌, subst, arith, ℤ}
use Rattle.std.specs.Option.{option_map, option_and_then}
use Rattle.std.specs.Global.{Global}
use Rattle.cil_base.specs.declared.kinds.Abi.{Abi}
use Rattle.cil_base.specs.declared.kinds.IntKind.{IntKind}
use Rattle.cil_base.specs.Integer.{kind_in}
use Rattle.cil_base.specs.declared.numbers.LabelId.{LabelId}
use Rattle.type_graph.specs.declared.nodes.Node.{Node}
use Rattle.type_graph.specs.Arena.{Graph}
use Rattle.type_graph.specs.Growth.{Grows}
use Rattle.type_graph.proofs.GrowthLaws.{grows_twice}
use Rattle.cil_base.specs.declared.numbers.TypeId.{TypeId}
use Rattle.cil_tree.specs.declared.expressions.Exp.{Exp as SeenExp}
use Rattle.cil_tree.specs.declared.statements.Instr.{Instr as SeenInstr}
use Rattle.cil_tree.specs.declared.statements.Stmt.{Stmt as SeenStmt}
use Rattle.cil_tree.specs.declared.statements.Stmt.TheVariants as stmt
use Rattle.cil_tree.specs.Tree.{Exp, Instr, Do, Label, Return}
use Rattle.cil_tree.specs.Tree as plain
use Rattle.cil_tree.specs.View.{stmt_of}
use Rattle.cil_text.specs.Words.{Word, LeftParen, RightParen, LeftBrace, Colon, Semicolon}
use Rattle.cil_text.specs.ReadTypes.{Reading, closed}
use Rattle.cil_text.specs.ReadExps.{Env, enclosed, read_exp}
use Rattle.cil_text.specs.ReadStmts.{Numbered, Head, Whole, Tested, Turned, opened_by, read_tested, is_end_of_line, returned, read_return, case_of, is_label, label_text, read_simple, read_instr, read_head, read_heads, head_first}
use Rattle.cil_reader.specs.declared.heads.Head.{Head as SeenHead}
use Rattle.cil_reader.specs.declared.heads.Head.TheVariants as seen
use Rattle.cil_reader.specs.Parts.{ExpKnown}
use Rattle.cil_reader.specs.Instructions.{InstrKnown}
use Rattle.cil_forms.specs.Forms.{is_end, ends_opening, ends_case}
use Rattle.cil_scan.specs.declared.words.Word.{Word as Seen}
use Rattle.cil_scan.specs.Said.{all_said, all_lines}
use Rattle.cil_reader.specs.Heads.{head_of, heads_of, heads_behind, StmtKnown, HeadKnown, HeadsKnown, opens, opening, labelled}
use Rattle.cil_reader.proofs.InstructionLaws.{ended, unended}

-- lines that open blocks

opens_by : (e : Exp) (ws : List Word) → option_and_then opens (closed e ws) ≡ cond (ends_opening ws) (Some e) None
opens_by e (RightParen ∷ LeftBrace ∷ []) = refl
opens_by e (RightParen ∷ LeftBrace ∷ w ∷ ws) = refl
opens_by e (RightParen ∷ _) = refl
opens_by e _ = refl

opened_by_read : (o : Reading Exp) (e : Exp) (ws : List Word) → o ≡ Some (e, ws) → option_and_then opens (enclosed (λ (x : Exp). x) o) ≡ cond (ends_opening ws) (Some e) None
opened_by_read o e ws h = ap (λ p. option_and_then opens (enclosed (λ (x : Exp). x) p)) h ∙ opens_by e ws

pub opened_gives : (o : Reading Exp) (e : Exp) (ws : List Word) → o ≡ Some (e, ws) → ends_opening ws ≡ true → option_and_then opens (enclosed (λ (x : Exp). x) o) ≡ Some e
opened_gives o e ws h end = opened_by_read o e ws h ∙ ap (λ v. cond v (Some e) None) end

pub opened_open : (o : Reading Exp) (e : Exp) (ws : List Word) → o ≡ Some (e, ws) → ends_opening ws ≡ false → option_and_then opens (enclosed (λ (x : Exp). x) o) ≡ None
opened_open o e ws h end = opened_by_read o e ws h ∙ ap (λ v. cond v (Some e) None) end

pub opened_fails : (o : Reading Exp) → o ≡ None → option_and_then opens (enclosed (λ (x : Exp). x) o) ≡ None
opened_fails o h = ap (λ p. option_and_then opens (enclosed (λ (x : Exp). x) p)) h

same_line : (f : Exp → Head) (e : Exp) (ws : List Word) → opened_by f (e, ws) ≡ option_map f (opens (e, ws))
same_line f e (LeftBrace ∷ []) = refl
same_line f e (LeftBrace ∷ w ∷ ws) = refl
same_line f e _ = refl

tested_by : (env : Env) (n : ℕ) (f : Exp → Head) (ws : List Word) → read_tested env n f ws ≡ option_map f (opening env n ws)
tested_by env n f (LeftParen ∷ ws) = by (enclosed (λ (x : Exp). x) (read_exp env n ws))
  where
    by : (o : Reading Exp) → option_and_then (opened_by f) o ≡ option_map f (option_and_then opens o)
    by None = refl
    by (Some r) = same_line f r.0 r.1
tested_by env n f _ = refl

pub tested_gives : (env : Env) (n : ℕ) (f : Exp → Head) (ws : List Word) (e : Exp) → opening env n ws ≡ Some e → read_tested env n f ws ≡ Some (f e)
tested_gives env n f ws e h = tested_by env n f ws ∙ ap (option_map f) h

pub tested_fails : (env : Env) (n : ℕ) (f : Exp → Head) (ws : List Word) → opening env n ws ≡ None → read_tested env n f ws ≡ None
tested_fails env n f ws h = tested_by env n f ws ∙ ap (option_map f) h

-- `return`

return_by : (env : Env) (n : ℕ) (ws : List Word) → is_end_of_line ws ≡ false → read_return env n ws ≡ option_map Whole (option_and_then returned (read_exp env n ws))
return_by env n ws e = ap (λ v. cond v (Some (Whole (Return None))) (option_map Whole (option_and_then returned (read_exp env n ws)))) e

pub return_nothing : (env : Env) (n : ℕ) (ws : List Word) → is_end_of_line ws ≡ true → read_return env n ws ≡ Some (Whole (Return None))
return_nothing env n ws e = ap (λ v. cond v (Some (Whole (Return None))) (option_map Whole (option_and_then returned (read_exp env n ws)))) e

pub return_gives : (env : Env) (n : ℕ) (ws vs : List Word) (e : Exp) → is_end_of_line ws ≡ false → read_exp env n ws ≡ Some (e, vs) → is_end vs ≡ true → read_return env n ws ≡ Some (Whole (Return (Some e)))
return_gives env n ws vs e more h end = return_by env n ws more ∙ ap (λ o. option_map Whole (option_and_then returned o)) h ∙ ap (option_map Whole) (ended (Return (Some e)) vs end)

pub return_open : (env : Env) (n : ℕ) (ws vs : List Word) (e : Exp) → is_end_of_line ws ≡ false → read_exp env n ws ≡ Some (e, vs) → is_end vs ≡ false → read_return env n ws ≡ None
return_open env n ws vs e more h end = return_by env n ws more ∙ ap (λ o. option_map Whole (option_and_then returned o)) h ∙ ap (option_map Whole) (unended (Return (Some e)) vs end)

pub return_fails : (env : Env) (n : ℕ) (ws : List Word) → is_end_of_line ws ≡ false → read_exp env n ws ≡ None → read_return env n ws ≡ None
return_fails env n ws more h = return_by env n ws more ∙ ap (λ o. option_map Whole (option_and_then returned o)) h

-- `case`

case_by : (abi : Abi) (x : Numbered) (ws : List Word) → case_of abi (x, ws) ≡ cond (ends_case ws) (Some (Whole (plain.Case (kind_in abi x.0) x.1))) None
case_by abi x (Colon ∷ Semicolon ∷ []) = refl
case_by abi x (Colon ∷ Semicolon ∷ w ∷ ws) = refl
case_by abi x (Colon ∷ _) = refl
case_by abi x _ = refl

pub case_gives : (abi : Abi) (o : Reading Numbered) (kind own : IntKind) (v : ℤ) (ws : List Word) → Some ((kind, v), ws) ≡ o → ends_case ws ≡ true → own ≡ kind_in abi kind → Some (Whole (plain.Case own v)) ≡ option_and_then (case_of abi) o
case_gives abi o kind own v ws h end is =
    ap (λ (k : IntKind). Some (Whole (plain.Case k v))) is
    ∙ sym (ap (option_and_then (case_of abi)) (sym h) ∙ case_by abi (kind, v) ws ∙ ap (λ b. cond b (Some (Whole (plain.Case (kind_in abi kind) v))) None) end)

pub case_open : (abi : Abi) (o : Reading Numbered) (x : Numbered) (ws : List Word) → Some (x, ws) ≡ o → ends_case ws ≡ false → None ≡ option_and_then (case_of abi) o
case_open abi o x ws h end = sym (ap (option_and_then (case_of abi)) (sym h) ∙ case_by abi x ws ∙ ap (λ b. cond b (Some (Whole (plain.Case (kind_in abi x.0) x.1))) None) end)

pub case_fails : (abi : Abi) (o : Reading Numbered) → None ≡ o → None ≡ option_and_then (case_of abi) o
case_fails abi o h = sym (ap (option_and_then (case_of abi)) (sym h))

-- labels and instructions

pub simple_label : (env : Env) (labels : List (List ℕ)) (n : ℕ) (ws : List Word) → is_label ws ≡ true → read_simple env labels n ws ≡ labelled labels Label (label_text ws)
simple_label env labels n ws e = ap (λ v. cond v (labelled labels Label (label_text ws)) (option_map (λ (i : Instr). Whole (Do i)) (read_instr env n ws))) e

pub simple_instr : (env : Env) (labels : List (List ℕ)) (n : ℕ) (ws : List Word) → is_label ws ≡ false → read_simple env labels n ws ≡ option_map (λ (i : Instr). Whole (Do i)) (read_instr env n ws)
simple_instr env labels n ws e = ap (λ v. cond v (labelled labels Label (label_text ws)) (option_map (λ (i : Instr). Whole (Do i)) (read_instr env n ws))) e

-- what is known of lines

pub known_tested : (g : Graph) (env : Env) (x : Box SeenExp Global) (t : Option TypeId) → ExpKnown g env x.value t → HeadKnown g (seen.Tested x)
known_tested g env x t k = record { steady = λ h r. ap Tested (k.steady h r) }

pub known_turned : (g : Graph) (env : Env) (x : Box SeenExp Global) (t : Option TypeId) → ExpKnown g env x.value t → HeadKnown g (seen.Turned x)
known_turned g env x t k = record { steady = λ h r. ap Turned (k.steady h r) }

pub known_whole : (g : Graph) (s : SeenStmt) (b : Box SeenStmt Global) → StmtKnown g s → b.value ≡ s → HeadKnown g (seen.Whole b)
known_whole g s b k is = record { steady = λ h r. ap (λ x. Whole (stmt_of h.nodes x)) is ∙ ap Whole (k.steady h r) ∙ sym (ap (λ x. Whole (stmt_of g.nodes x)) is) }

pub known_return : (g : Graph) (env : Env) (x : SeenExp) (t : Option TypeId) (s : SeenStmt) → ExpKnown g env x t → s ≡ stmt.Return (Some x) → StmtKnown g s
known_return g env x t s k is = subst (StmtKnown g) (sym is) (record { steady = λ h r. ap (λ e. Return (Some e)) (k.steady h r) })

pub known_instr : (g : Graph) (i : SeenInstr) → InstrKnown g i → StmtKnown g (stmt.Instr i)
known_instr g i k = record { steady = λ h r. ap Do (k.steady h r) }

pub known_case : (g : Graph) (kind : IntKind) (v : ℤ) (s : SeenStmt) → s ≡ stmt.Case kind v → StmtKnown g s
known_case g kind v s is = subst (StmtKnown g) (sym is) (record { steady = λ h r. refl })

pub known_goto : (g : Graph) (l : LabelId) (s : SeenStmt) → s ≡ stmt.Goto l → StmtKnown g s
known_goto g l s is = subst (StmtKnown g) (sym is) (record { steady = λ h r. refl })

pub known_label : (g : Graph) (l : LabelId) (s : SeenStmt) → s ≡ stmt.Label l → StmtKnown g s
known_label g l s is = subst (StmtKnown g) (sym is) (record { steady = λ h r. refl })

pub known_nothing : (g : Graph) → StmtKnown g (stmt.Return None)
known_nothing g = record { steady = λ h r. refl }

pub known_default : (g : Graph) → StmtKnown g stmt.Default
known_default g = record { steady = λ h r. refl }

pub known_break : (g : Graph) → StmtKnown g stmt.Break
known_break g = record { steady = λ h r. refl }

pub known_looped : (g : Graph) → HeadKnown g seen.Looped
known_looped g = record { steady = λ h r. refl }

pub known_opened : (g : Graph) → HeadKnown g seen.Opened
known_opened g = record { steady = λ h r. refl }

pub known_otherwise : (g : Graph) → HeadKnown g seen.Otherwise
known_otherwise g = record { steady = λ h r. refl }

pub known_closed : (g : Graph) → HeadKnown g seen.Closed
known_closed g = record { steady = λ h r. refl }

-- the lines of a body

pub mapped_more : (nodes : List Node) (hs : List SeenHead) (h : SeenHead) → heads_of nodes (hs ++ h ∷ []) ≡ heads_of nodes hs ++ head_of nodes h ∷ []
mapped_more nodes [] h = refl
mapped_more nodes (x ∷ hs) h = ap (λ ys. head_of nodes x ∷ ys) (mapped_more nodes hs h)

pub no_heads : (g : Graph) → HeadsKnown g []
no_heads g = record { steady = λ h r. refl }

pub heads_more : (g h : Graph) (hs : List SeenHead) (x : SeenHead) → HeadsKnown g hs → Grows g h → HeadKnown h x → HeadsKnown h (hs ++ x ∷ [])
heads_more g h hs x k r e = record {
  steady = λ i q.
      mapped_more i.nodes hs x
      ∙ ap (λ ys. ys ++ head_of i.nodes x ∷ []) (k.steady i (grows_twice g h i r q) ∙ sym (k.steady h r))
      ∙ ap (λ y. heads_of h.nodes hs ++ y ∷ []) (e.steady i q)
      ∙ sym (mapped_more h.nodes hs x);
}

behind_first : (hs : List Head) (x : Head) (o : Option (List Head)) → option_map (heads_behind hs) (option_map (head_first x) o) ≡ option_map (heads_behind (hs ++ x ∷ [])) o
behind_first hs x None = refl
behind_first hs x (Some more) = ap Some (sym (append_assoc hs (x ∷ []) more))

line_at : (env : Env) (labels : List (List ℕ)) (n : ℕ) (lines : List (Vec Seen Global)) (i : ℕ) (d : Vec Seen Global) → i < length lines →
    read_heads env labels n (all_lines (drop i lines)) ≡ option_and_then (λ (h : Head). option_map (head_first h) (read_heads env labels n (all_lines (drop (suc i) lines)))) (read_head env labels n (all_said (get_or lines i d).items))
line_at env labels n [] i d h = absurd (omega arith)
line_at env labels n (line ∷ lines) zero d h = refl
line_at env labels n (line ∷ lines) (suc i) d h = line_at env labels n lines i d (omega arith)

one_more : (k : ℕ) → suc k ≡ k + 1
one_more k = omega arith

heads_next : (g h : Graph) (env : Env) (labels : List (List ℕ)) (n : ℕ) (lines : List (Vec Seen Global)) (hs : List SeenHead) (x : SeenHead) (i : ℕ) (d : Vec Seen Global) → i < length lines → HeadsKnown g hs → Grows g h →
    read_head env labels n (all_said (get_or lines i d).items) ≡ Some (head_of h.nodes x) →
    option_map (heads_behind (heads_of h.nodes (hs ++ x ∷ []))) (read_heads env labels n (all_lines (drop (i + 1) lines))) ≡ option_map (heads_behind (heads_of g.nodes hs)) (read_heads env labels n (all_lines (drop i lines)))
heads_next g h env labels n lines hs x i d less k r e =
    let rest = read_heads env labels n (all_lines (drop (suc i) lines)) in
    ap (λ j. option_map (heads_behind (heads_of h.nodes (hs ++ x ∷ []))) (read_heads env labels n (all_lines (drop j lines)))) (sym (one_more i))
    ∙ ap (λ ys. option_map (heads_behind ys) rest) (mapped_more h.nodes hs x ∙ ap (λ ys. ys ++ head_of h.nodes x ∷ []) (k.steady h r))
    ∙ sym (behind_first (heads_of g.nodes hs) (head_of h.nodes x) rest)
    ∙ sym (ap (option_map (heads_behind (heads_of g.nodes hs))) (line_at env labels n lines i d less ∙ ap (option_and_then (λ (y : Head). option_map (head_first y) rest)) e))

pub heads_step : (g h : Graph) (env : Env) (labels : List (List ℕ)) (n : ℕ) (lines : List (Vec Seen Global)) (hs ys : List SeenHead) (x : SeenHead) (i : ℕ) (d : Vec Seen Global) (whole : Option (List Head)) → i < length lines → HeadsKnown g hs → Grows g h →
    ys ≡ hs ++ x ∷ [] → read_head env labels n (all_said (get_or lines i d).items) ≡ Some (head_of h.nodes x) →
    option_map (heads_behind (heads_of g.nodes hs)) (read_heads env labels n (all_lines (drop i lines))) ≡ whole →
    option_map (heads_behind (heads_of h.nodes ys)) (read_heads env labels n (all_lines (drop (i + 1) lines))) ≡ whole
heads_step g h env labels n lines hs ys x i d whole less k r is e inv =
    ap (λ zs. option_map (heads_behind (heads_of h.nodes zs)) (read_heads env labels n (all_lines (drop (i + 1) lines)))) is
    ∙ heads_next g h env labels n lines hs x i d less k r e ∙ inv

pub heads_fail : (env : Env) (labels : List (List ℕ)) (n : ℕ) (lines : List (Vec Seen Global)) (hs : List Head) (whole : Option (List Head)) (i : ℕ) (d : Vec Seen Global) → i < length lines →
    read_head env labels n (all_said (get_or lines i d).items) ≡ None → option_map (heads_behind hs) (read_heads env labels n (all_lines (drop i lines))) ≡ whole → whole ≡ None
heads_fail env labels n lines hs whole i d less e inv =
    sym inv ∙ ap (option_map (heads_behind hs)) (line_at env labels n lines i d less ∙ ap (option_and_then (λ (y : Head). option_map (head_first y) (read_heads env labels n (all_lines (drop (suc i) lines))))) e)

past : {A : Type 0} (xs : List A) (i : ℕ) → length xs ≤ i → drop i xs ≡ []
past [] zero h = refl
past [] (suc i) h = refl
past (x ∷ xs) zero h = absurd (omega arith)
past (x ∷ xs) (suc i) h = past xs i (omega arith)

pub heads_end : (env : Env) (labels : List (List ℕ)) (n : ℕ) (lines : List (Vec Seen Global)) (hs : List Head) (whole : Option (List Head)) (i : ℕ) → length lines ≤ i →
    option_map (heads_behind hs) (read_heads env labels n (all_lines (drop i lines))) ≡ whole → whole ≡ Some hs
heads_end env labels n lines hs whole i h inv =
    sym inv ∙ ap (λ ls. option_map (heads_behind hs) (read_heads env labels n (all_lines ls))) (past lines i h) ∙ ap Some (append-nil hs)
