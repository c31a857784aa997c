-- Device: a tree whose types stand in a graph is seen the same in a graph that grew from it.
use Rattle.std.proofs.Common.{◌≡◌, ℕ, suc, ◌<◌, ◌≤◌, max, true, cond, List, [], ◌∷◌, Option, Some, None, length, map, nat_lt, refl, sym, ap, ◌∙◌, arith, length-append}
use Rattle.std.proofs.Math.Nat.{le-max_left, le-max_right, le_trans}
use Rattle.std.specs.Option.{option_map}
use Rattle.cil_base.specs.declared.numbers.TypeId.{TypeId}
use Rattle.type_graph.specs.Arena.{Graph}
use Rattle.type_graph.specs.Growth.{Grows}
use Rattle.type_graph.proofs.ShapeLaws.{kept as shape_kept}
use Rattle.cil_tree.specs.declared.expressions.Exp.{Exp, Const, Lval', Un', Bin', Cast', AddrOf', StartOf', Row_of-Offset, end_of-Offset, more_of-Offset}
use Rattle.cil_tree.specs.declared.expressions.Host.{Host, Global, Var, At'}
use Rattle.cil_tree.specs.declared.expressions.Offset.{Offset, Field, Index'}
use Rattle.cil_tree.specs.declared.expressions.Lval.{Lval}
use Rattle.cil_tree.specs.declared.statements.Callee.{Callee}
use Rattle.cil_tree.specs.declared.statements.Callee.TheVariants.{Direct, Through}
use Rattle.cil_tree.specs.declared.statements.Instr.{Instr}
use Rattle.cil_tree.specs.declared.statements.Instr.TheVariants.{Set, Call, Zero}
use Rattle.cil_tree.specs.declared.statements.Stmt.{Stmt, Instr as Do, If', Switch', Loop', Block', Label, Case, Default, Goto, Break, Return, Row_of-Stmt, end_of-Stmt, more_of-Stmt}
use Rattle.cil_tree.specs.declared.globals.Body.{Body}
use Rattle.cil_tree.specs.declared.globals.Local.{Local}
use Rattle.cil_tree.specs.Tree as plain
use Rattle.cil_tree.specs.View.{type_at, text_at, exp_of, host_of, row_of, offsets_of, lval_of, callee_of, instr_of, stmt_of, block_of, stmts_of, local_of, body_of}
use Rattle.cil_bodies.specs.Top.{top_exp, top_host, top_row, top_offsets, top_lval, top_exps, top_callee, top_result, top_value, top_instr, top_stmt, top_block, top_stmts, top_locals, top_body}

in_left : (m n k : ℕ) → max m n ≤ k → m ≤ k
in_left m n k below = le_trans (le-max_left m n) below

in_right : (m n k : ℕ) → max m n ≤ k → n ≤ k
in_right m n k below = le_trans (le-max_right m n) below

two : {X Y Z : Type 0} (f : X → Y → Z) {x x' : X} {y y' : Y} → x ≡ x' → y ≡ y' → f x y ≡ f x' y'
two f {x} {x'} {y} {y'} p q = ap (λ z. f z y) p ∙ ap (f x') q

type_kept : (g h : Graph) → Grows g h → (t : TypeId) → suc t.0 ≤ length g.nodes → type_at h.nodes t ≡ type_at g.nodes t
type_kept g h grows t there =
    two (λ b s. cond b (Some s) None) (less t.0 (length h.nodes) longer ∙ sym (less t.0 (length g.nodes) there)) (shape_kept g h t.0 grows there)
  where
    less : (m n : ℕ) → m < n → nat_lt m n ≡ true
    less m n h = grind (arith, h)

    longer : t.0 < length h.nodes
    longer = omega (arith, there, ap length grows.nodes.1, length-append g.nodes grows.nodes.0)

mutual
  pub exp_kept : (g h : Graph) → Grows g h → (e : Exp) → top_exp e ≤ length g.nodes → exp_of h.nodes e ≡ exp_of g.nodes e
  exp_kept g h grows (Const kind value) below = refl
  exp_kept g h grows (Lval' host n offsets) below = two (λ x y. plain.Value (plain.Place x y)) (host_kept g h grows host (in_left (top_host host) (top_row offsets) _ below)) (row_kept g h grows offsets (in_right (top_host host) (top_row offsets) _ below))
  exp_kept g h grows (Un' op p operand) below = ap (plain.Un op) (exp_kept g h grows operand below)
  exp_kept g h grows (Bin' op p left q right) below = two (plain.Bin op) (exp_kept g h grows left (in_left (top_exp left) (top_exp right) _ below)) (exp_kept g h grows right (in_right (top_exp left) (top_exp right) _ below))
  exp_kept g h grows (Cast' to p operand) below = two plain.Cast (type_kept g h grows to (in_left (suc to.0) (top_exp operand) _ below)) (exp_kept g h grows operand (in_right (suc to.0) (top_exp operand) _ below))
  exp_kept g h grows (AddrOf' host n offsets) below = two (λ x y. plain.AddrOf (plain.Place x y)) (host_kept g h grows host (in_left (top_host host) (top_row offsets) _ below)) (row_kept g h grows offsets (in_right (top_host host) (top_row offsets) _ below))
  exp_kept g h grows (StartOf' host n offsets) below = two (λ x y. plain.StartOf (plain.Place x y)) (host_kept g h grows host (in_left (top_host host) (top_row offsets) _ below)) (row_kept g h grows offsets (in_right (top_host host) (top_row offsets) _ below))

  pub host_kept : (g h : Graph) → Grows g h → (x : Host) → top_host x ≤ length g.nodes → host_of h.nodes x ≡ host_of g.nodes x
  host_kept g h grows (Global e) below = refl
  host_kept g h grows (Var l) below = refl
  host_kept g h grows (At' p pointer) below = ap plain.At (exp_kept g h grows pointer below)

  row_kept : {m : _} (g h : Graph) → Grows g h → (k : Row_of-Offset m) → top_row k ≤ length g.nodes → row_of h.nodes k ≡ row_of g.nodes k
  row_kept g h grows end_of-Offset below = refl
  row_kept g h grows (more_of-Offset (Field number) more) below = ap (plain.Field number) (row_kept g h grows more below)
  row_kept g h grows (more_of-Offset (Index' p index) more) below = two plain.Index (exp_kept g h grows index (in_left (top_exp index) (top_row more) _ below)) (row_kept g h grows more (in_right (top_exp index) (top_row more) _ below))

offsets_kept : (g h : Graph) → Grows g h → (os : List Offset) → top_offsets os ≤ length g.nodes → offsets_of h.nodes os ≡ offsets_of g.nodes os
offsets_kept g h grows [] below = refl
offsets_kept g h grows (Field number ∷ more) below = ap (plain.Field number) (offsets_kept g h grows more below)
offsets_kept g h grows (Index' p index ∷ more) below = two plain.Index (exp_kept g h grows index (in_left (top_exp index) (top_offsets more) _ below)) (offsets_kept g h grows more (in_right (top_exp index) (top_offsets more) _ below))

pub lval_kept : (g h : Graph) → Grows g h → (l : Lval) → top_lval l ≤ length g.nodes → lval_of h.nodes l ≡ lval_of g.nodes l
lval_kept g h grows l below = two plain.Place (host_kept g h grows l.host (in_left (top_host l.host) (top_offsets l.offsets.items) _ below)) (offsets_kept g h grows l.offsets.items (in_right (top_host l.host) (top_offsets l.offsets.items) _ below))

exps_kept : (g h : Graph) → Grows g h → (es : List Exp) → top_exps es ≤ length g.nodes → map (exp_of h.nodes) es ≡ map (exp_of g.nodes) es
exps_kept g h grows [] below = refl
exps_kept g h grows (e ∷ es) below = two ◌∷◌ (exp_kept g h grows e (in_left (top_exp e) (top_exps es) _ below)) (exps_kept g h grows es (in_right (top_exp e) (top_exps es) _ below))

callee_kept : (g h : Graph) → Grows g h → (c : Callee) → top_callee c ≤ length g.nodes → callee_of h.nodes c ≡ callee_of g.nodes c
callee_kept g h grows (Direct e) below = refl
callee_kept g h grows (Through pointer) below = ap plain.Through (exp_kept g h grows pointer below)

result_kept : (g h : Graph) → Grows g h → (o : Option Lval) → top_result o ≤ length g.nodes → option_map (lval_of h.nodes) o ≡ option_map (lval_of g.nodes) o
result_kept g h grows None below = refl
result_kept g h grows (Some l) below = ap Some (lval_kept g h grows l below)

value_kept : (g h : Graph) → Grows g h → (o : Option Exp) → top_value o ≤ length g.nodes → option_map (exp_of h.nodes) o ≡ option_map (exp_of g.nodes) o
value_kept g h grows None below = refl
value_kept g h grows (Some e) below = ap Some (exp_kept g h grows e below)

pub instr_kept : (g h : Graph) → Grows g h → (i : Instr) → top_instr i ≤ length g.nodes → instr_of h.nodes i ≡ instr_of g.nodes i
instr_kept g h grows (Set place value) below = two plain.Set (lval_kept g h grows place (in_left (top_lval place) (top_exp value) _ below)) (exp_kept g h grows value (in_right (top_lval place) (top_exp value) _ below))
instr_kept g h grows (Call result callee arguments) below =
    let rest : max (top_callee callee) (top_exps arguments.items) ≤ length g.nodes = in_right (top_result result) (max (top_callee callee) (top_exps arguments.items)) _ below in
    ap (λ r. plain.Call r (callee_of h.nodes callee) (map (exp_of h.nodes) arguments.items)) (result_kept g h grows result (in_left (top_result result) (max (top_callee callee) (top_exps arguments.items)) _ below))
    ∙ two (plain.Call (option_map (lval_of g.nodes) result)) (callee_kept g h grows callee (in_left (top_callee callee) (top_exps arguments.items) _ rest)) (exps_kept g h grows arguments.items (in_right (top_callee callee) (top_exps arguments.items) _ rest))
instr_kept g h grows (Zero place) below = ap plain.Zero (lval_kept g h grows place below)

mutual
  pub stmt_kept : (g h : Graph) → Grows g h → (s : Stmt) → top_stmt s ≤ length g.nodes → stmt_of h.nodes s ≡ stmt_of g.nodes s
  stmt_kept g h grows (Do instr) below = ap plain.Do (instr_kept g h grows instr below)
  stmt_kept g h grows (If' test m holds n fails) below =
      let rest : max (top_block holds) (top_block fails) ≤ length g.nodes = in_right (top_exp test) (max (top_block holds) (top_block fails)) _ below in
      ap (λ x. plain.If x (block_of h.nodes holds) (block_of h.nodes fails)) (exp_kept g h grows test (in_left (top_exp test) (max (top_block holds) (top_block fails)) _ below))
      ∙ two (plain.If (exp_of g.nodes test)) (block_kept g h grows holds (in_left (top_block holds) (top_block fails) _ rest)) (block_kept g h grows fails (in_right (top_block holds) (top_block fails) _ rest))
  stmt_kept g h grows (Switch' value n body) below = two plain.Switch (exp_kept g h grows value (in_left (top_exp value) (top_block body) _ below)) (block_kept g h grows body (in_right (top_exp value) (top_block body) _ below))
  stmt_kept g h grows (Loop' n body) below = ap plain.Loop (block_kept g h grows body below)
  stmt_kept g h grows (Block' n body) below = ap plain.Block (block_kept g h grows body below)
  stmt_kept g h grows (Label l) below = refl
  stmt_kept g h grows (Case kind value) below = refl
  stmt_kept g h grows Default below = refl
  stmt_kept g h grows (Goto l) below = refl
  stmt_kept g h grows Break below = refl
  stmt_kept g h grows (Return value) below = ap plain.Return (value_kept g h grows value below)

  block_kept : {m : _} (g h : Graph) → Grows g h → (k : Row_of-Stmt m) → top_block k ≤ length g.nodes → block_of h.nodes k ≡ block_of g.nodes k
  block_kept g h grows end_of-Stmt below = refl
  block_kept g h grows (more_of-Stmt first rest) below = two plain.Seq (stmt_kept g h grows first (in_left (top_stmt first) (top_block rest) _ below)) (block_kept g h grows rest (in_right (top_stmt first) (top_block rest) _ below))

pub stmts_kept : (g h : Graph) → Grows g h → (ss : List Stmt) → top_stmts ss ≤ length g.nodes → stmts_of h.nodes ss ≡ stmts_of g.nodes ss
stmts_kept g h grows [] below = refl
stmts_kept g h grows (first ∷ rest) below = two plain.Seq (stmt_kept g h grows first (in_left (top_stmt first) (top_stmts rest) _ below)) (stmts_kept g h grows rest (in_right (top_stmt first) (top_stmts rest) _ below))

locals_kept : (g h : Graph) (names : List (List ℕ)) → Grows g h → (ls : List Local) → top_locals ls ≤ length g.nodes → map (local_of h.nodes names) ls ≡ map (local_of g.nodes names) ls
locals_kept g h names grows [] below = refl
locals_kept g h names grows (l ∷ ls) below =
    two (λ t (xs : List plain.Local). (record { name = text_at names l.name; type = t }) ∷ xs) (type_kept g h grows l.ty (in_left (suc l.ty.0) (top_locals ls) _ below)) (locals_kept g h names grows ls (in_right (suc l.ty.0) (top_locals ls) _ below))

pub body_kept : (g h : Graph) (names : List (List ℕ)) → Grows g h → (b : Body) → top_body b ≤ length g.nodes → body_of h.nodes names b ≡ body_of g.nodes names b
body_kept g h names grows b below =
    two (λ ls ss. record { params = map (text_at names) b.params.items; locals = ls; labels = map (text_at names) b.labels.items; stmts = ss })
    (locals_kept g h names grows b.locals.items (in_left (top_locals b.locals.items) (top_stmts b.stmts.items) _ below)) (stmts_kept g h grows b.stmts.items (in_right (top_locals b.locals.items) (top_stmts b.stmts.items) _ below))
