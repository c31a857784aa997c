-- Device: steps of the walks over statements.
use Rattle.std.proofs.Common.{◌≡◌, ℕ, zero, suc, ◌+◌, ◌<◌, List, [], ◌∷◌, ◌++◌, length, drop, get_or, Option, Some, None, refl, sym, ap, ◌∙◌, arith, append_assoc, Result, Ok, Err, OnOk}
use Rattle.type_graph.specs.declared.nodes.Node.{Node}
use Rattle.cil_tree.specs.declared.statements.Stmt.{Stmt}
use Rattle.cil_tree.specs.View.{stmt_of, stmts_of}
use Rattle.cil_control.specs.Remains.{steps, steps_in}
use Rattle.cil_control.specs.Flat.{labels_at, labels_from, cases_at, cases_from, default_at, default_from, or_else}

-- the steps of statements from one on are its own and those behind it
pub steps_next : (nodes : List Node) (ss : List Stmt) (i : ℕ) (d : Stmt) → i < length ss → steps_in (stmts_of nodes (drop i ss)) ≡ steps (stmt_of nodes (get_or ss i d)) + steps_in (stmts_of nodes (drop (suc i) ss))
steps_next nodes [] i d h = absurd (omega arith)
steps_next nodes (s ∷ ss) zero d h = refl
steps_next nodes (s ∷ ss) (suc i) d h = steps_next nodes ss i d (omega arith)

-- their labels' places
pub labels_next : (nodes : List Node) (ss : List Stmt) (i p : ℕ) (d : Stmt) → i < length ss
    → labels_from p (stmts_of nodes (drop i ss)) ≡ labels_at p (stmt_of nodes (get_or ss i d)) ++ labels_from (p + steps (stmt_of nodes (get_or ss i d))) (stmts_of nodes (drop (suc i) ss))
labels_next nodes [] i p d h = absurd (omega arith)
labels_next nodes (s ∷ ss) zero p d h = refl
labels_next nodes (s ∷ ss) (suc i) p d h = labels_next nodes ss i p d (omega arith)

-- their cases
pub cases_next : (nodes : List Node) (ss : List Stmt) (i p : ℕ) (d : Stmt) → i < length ss
    → cases_from p (stmts_of nodes (drop i ss)) ≡ cases_at p (stmt_of nodes (get_or ss i d)) ++ cases_from (p + steps (stmt_of nodes (get_or ss i d))) (stmts_of nodes (drop (suc i) ss))
cases_next nodes [] i p d h = absurd (omega arith)
cases_next nodes (s ∷ ss) zero p d h = refl
cases_next nodes (s ∷ ss) (suc i) p d h = cases_next nodes ss i p d (omega arith)

-- their default
pub default_next : (nodes : List Node) (ss : List Stmt) (i p : ℕ) (d : Stmt) → i < length ss
    → default_from p (stmts_of nodes (drop i ss)) ≡ or_else (default_at p (stmt_of nodes (get_or ss i d))) (default_from (p + steps (stmt_of nodes (get_or ss i d))) (stmts_of nodes (drop (suc i) ss)))
default_next nodes [] i p d h = absurd (omega arith)
default_next nodes (s ∷ ss) zero p d h = refl
default_next nodes (s ∷ ss) (suc i) p d h = default_next nodes ss i p d (omega arith)

-- what the two sides of an if have, added one after the other
pub both_listed : {A T E : Type 0} (r : Result T E) (old mid new all : List A) (f g : ℕ → List A) (p a m b h : ℕ) → a ≡ p + 1 → m ≡ a + h → b ≡ m + 1 → mid ≡ old ++ f a → all ≡ f (suc p) ++ g (suc (suc p + h)) → OnOk r (new ≡ mid ++ g b) → OnOk r (new ≡ old ++ all)
both_listed (Ok t) old mid new all f g p a m b h at_a at_m at_b first both second =
    let one : a ≡ suc p = omega arith in
    let other : b ≡ suc (suc p + h) = omega arith in
    second ∙ (ap (λ z. z ++ g b) first ∙ (append_assoc old (f a) (g b) ∙ ap (λ z. old ++ z) (ap (λ i. f i ++ g b) one ∙ (ap (λ i. f (suc p) ++ g i) other ∙ sym both))))
both_listed (Err x) old mid new all f g p a m b h at_a at_m at_b first both second = tt

or_else_each : (a b c : Option ℕ) → or_else (or_else a b) c ≡ or_else a (or_else b c)
or_else_each None b c = refl
or_else_each (Some p) b c = refl

pub both_found : {T E : Type 0} (r : Result T E) (old mid new all : Option ℕ) (f g : ℕ → Option ℕ) (p a m b h : ℕ) → a ≡ p + 1 → m ≡ a + h → b ≡ m + 1 → mid ≡ or_else old (f a) → all ≡ or_else (f (suc p)) (g (suc (suc p + h)))
    → OnOk r (new ≡ or_else mid (g b)) → OnOk r (new ≡ or_else old all)
both_found (Ok t) old mid new all f g p a m b h at_a at_m at_b first both second =
    let one : a ≡ suc p = omega arith in
    let other : b ≡ suc (suc p + h) = omega arith in
    second ∙ (ap (λ z. or_else z (g b)) first ∙ (or_else_each old (f a) (g b) ∙ ap (or_else old) (ap (λ i. or_else (f i) (g b)) one ∙ (ap (λ i. or_else (f (suc p)) (g i)) other ∙ sym both))))
both_found (Err x) old mid new all f g p a m b h at_a at_m at_b first both second = tt

pub inner_found : {T E : Type 0} (r : Result T E) (old new all : Option ℕ) (f : ℕ → Option ℕ) (p a : ℕ) → a ≡ p + 1 → all ≡ f (suc p) → new ≡ or_else old (f a) → OnOk r (new ≡ or_else old all)
inner_found (Ok t) old new all f p a at_a whole inner =
    let one : a ≡ suc p = omega arith in
    inner ∙ ap (or_else old) (ap f one ∙ sym whole)
inner_found (Err x) old new all f p a at_a whole inner = tt
