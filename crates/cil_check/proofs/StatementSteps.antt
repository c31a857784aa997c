-- Device: steps of the walks over statements.
use Rattle.std.proofs.Common.{◌≡◌, ℕ, zero, suc, ◌+◌, ◌<◌, Bool, true, false, ◌&&◌, Option, List, [], ◌∷◌, ◌++◌, length, drop, get_or, ℤ, refl, sym, ap, ◌∙◌, subst, arith, append_assoc, Result, Ok, Err, OnOk, IfOk}
use Rattle.type_graph.specs.declared.nodes.Node.{Node}
use Rattle.cil_tree.specs.declared.statements.Stmt.{Stmt}
use Rattle.cil_base.specs.declared.kinds.IntKind.{IntKind}
use Rattle.type_graph.specs.Shapes.{Shape}
use Rattle.cil_tree.specs.Typing.{Scope}
use Rattle.cil_tree.specs.View.{stmt_of, stmts_of}
use Rattle.cil_tree.specs.Bodies.{labels_of, labels_in}
use Rattle.cil_check.specs.Statements.{keeps_rules, keep_rules, marks_of, marks_in, once, is_first, seen_with, default_with}

-- the marks from one statement on are its own and those behind it
pub marks_from : (nodes : List Node) (ss : List Stmt) (i : ℕ) (d : Stmt) → i < length ss → marks_of (stmts_of nodes (drop i ss)) ≡ marks_in (stmt_of nodes (get_or ss i d)) ++ marks_of (stmts_of nodes (drop (suc i) ss))
marks_from nodes [] i d h = absurd (omega arith)
marks_from nodes (s ∷ ss) zero d h = refl
marks_from nodes (s ∷ ss) (suc i) d h = marks_from nodes ss i d (omega arith)

-- the marks from one on are once where it is the first and those behind it are
pub once_from : (seen : List ℤ) (default : Bool) (ms : List (Option ℤ)) (i : ℕ) (d : Option ℤ) → i < length ms →
    once seen default (drop i ms) ≡ is_first seen default (get_or ms i d) && once (seen_with seen (get_or ms i d)) (default_with default (get_or ms i d)) (drop (suc i) ms)
once_from seen default [] i d h = absurd (omega arith)
once_from seen default (m ∷ ms) zero d h = refl
once_from seen default (m ∷ ms) (suc i) d h = once_from seen default ms i d (omega arith)

-- where this mark is not the first, and where it is
pub once_fails : (seen : List ℤ) (default w r : Bool) (ms : List (Option ℤ)) (i : ℕ) (d : Option ℤ) → i < length ms → once seen default (drop i ms) ≡ w → r ≡ is_first seen default (get_or ms i d) → r ≡ false → false ≡ w
once_fails seen default w r ms i d here h first fails =
    sym (sym h ∙ once_from seen default ms i d here ∙ ap (λ b. b && once (seen_with seen (get_or ms i d)) (default_with default (get_or ms i d)) (drop (suc i) ms)) (sym first ∙ fails))

pub once_passes : (seen new : List ℤ) (default also w r : Bool) (ms : List (Option ℤ)) (i : ℕ) (d : Option ℤ) → i < length ms → once seen default (drop i ms) ≡ w → r ≡ is_first seen default (get_or ms i d) → r ≡ true →
    new ≡ seen_with seen (get_or ms i d) → also ≡ default_with default (get_or ms i d) → once new also (drop (i + 1) ms) ≡ w
once_passes seen new default also w r ms i d here h first holds values noted =
    let next : suc i ≡ i + 1 = omega arith in
    subst (λ (k : ℕ). once new also (drop k ms) ≡ w) next
    (ap (λ s. once s also (drop (suc i) ms)) values ∙ ap (λ b. once (seen_with seen (get_or ms i d)) b (drop (suc i) ms)) noted
    ∙ sym (once_from seen default ms i d here ∙ ap (λ b. b && once (seen_with seen (get_or ms i d)) (default_with default (get_or ms i d)) (drop (suc i) ms)) (sym first ∙ holds)) ∙ h)

-- what two parts have, added one after the other
pub both_added : {A T E : Type 0} (r : Result T E) (old mid new hs fs all : List A) → mid ≡ old ++ hs → all ≡ hs ++ fs → OnOk r (new ≡ mid ++ fs) → OnOk r (new ≡ old ++ all)
both_added (Ok t) old mid new hs fs all d w e = e ∙ ap (λ m. m ++ fs) d ∙ append_assoc old hs fs ∙ ap (λ z. old ++ z) (sym w)
both_added (Err x) old mid new hs fs all d w e = tt

-- statements from one on keep their rules where it does and those behind it do
pub keep_from : (c : Scope) (ret : Shape) (kind : Option IntKind) (inside : Bool) (nodes : List Node) (ss : List Stmt) (i : ℕ) (d : Stmt) → i < length ss →
    keep_rules c ret kind inside (stmts_of nodes (drop i ss)) ≡ keeps_rules c ret kind inside (stmt_of nodes (get_or ss i d)) && keep_rules c ret kind inside (stmts_of nodes (drop (suc i) ss))
keep_from c ret kind inside nodes [] i d h = absurd (omega arith)
keep_from c ret kind inside nodes (s ∷ ss) zero d h = refl
keep_from c ret kind inside nodes (s ∷ ss) (suc i) d h = keep_from c ret kind inside nodes ss i d (omega arith)

-- what an `if` and a `switch` answer at each return
pub if_fails : (t h f r : Bool) → h ≡ false → r ≡ t && (h && f) → false ≡ r
if_fails true h f r e w = sym (w ∙ ap (λ b. b && f) e)
if_fails false h f r e w = sym w

pub if_rest : {E : Type 0} (a : Result Bool E) (t h f r : Bool) → t ≡ true → h ≡ true → IfOk a (λ b. b ≡ f) → r ≡ t && (h && f) → IfOk a (λ b. b ≡ r)
if_rest (Ok b) t h f r d e i w = i ∙ sym (w ∙ ap (λ z. z && (h && f)) d ∙ ap (λ z. z && f) e)
if_rest (Err x) t h f r d e i w = tt

-- the labels from one statement on
pub labels_from : (nodes : List Node) (ss : List Stmt) (i : ℕ) (d : Stmt) → i < length ss → labels_of (stmts_of nodes (drop i ss)) ≡ labels_in (stmt_of nodes (get_or ss i d)) ++ labels_of (stmts_of nodes (drop (suc i) ss))
labels_from nodes [] i d h = absurd (omega arith)
labels_from nodes (s ∷ ss) zero d h = refl
labels_from nodes (s ∷ ss) (suc i) d h = labels_from nodes ss i d (omega arith)
