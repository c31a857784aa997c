-- Device: statements that are taken from lines are seen as the same in each graph in which the lines are.
use Rattle.std.proofs.Common.{◌≡◌, List, [], ◌∷◌, ◌++◌, Box, Global, refl, sym, ap, ◌∙◌, subst}
use Rattle.std.specs.Prelude.{reverse}
use Rattle.indexmap.proofs.ReorderLemmas.{map-reverse}
use Rattle.type_graph.specs.declared.nodes.Node.{Node}
use Rattle.type_graph.specs.Arena.{Graph}
use Rattle.type_graph.specs.Growth.{Grows}
use Rattle.cil_tree.specs.declared.expressions.Exp.{Exp as SeenExp}
use Rattle.cil_tree.specs.declared.statements.Stmt.{Stmt as SeenStmt}
use Rattle.cil_nodes.specs.Built.{IsIf, IsSwitch, IsLoop, IsBlock}
use Rattle.cil_tree.specs.Tree.{Stmt, If, Switch, Loop, Block, Stmts, Done, Seq}
use Rattle.cil_tree.specs.View.{exp_of, stmt_of, stmts_of}
use Rattle.cil_text.specs.ReadStmts.{Whole, Tested, Turned}
use Rattle.cil_reader.specs.declared.heads.Head.{Head as SeenHead}
use Rattle.cil_reader.specs.declared.heads.Head.TheVariants as seen
use Rattle.cil_reader.specs.Heads.{head_of, heads_of, HeadKnown, HeadsKnown}
use Rattle.cil_reader.specs.Nesting.{StmtsKnown, Carries}

-- lines

last_apart : (g h : Graph) (hs : List SeenHead) (x : SeenHead) → heads_of h.nodes (hs ++ x ∷ []) ≡ heads_of g.nodes (hs ++ x ∷ []) → (heads_of h.nodes hs ≡ heads_of g.nodes hs) × (head_of h.nodes x ≡ head_of g.nodes x)
last_apart g h [] x e = let same : head_of h.nodes x ≡ head_of g.nodes x = cc in (refl, same)
last_apart g h (y ∷ hs) x e =
    let first : head_of h.nodes y ≡ head_of g.nodes y = cc in
    let more : heads_of h.nodes (hs ++ x ∷ []) ≡ heads_of g.nodes (hs ++ x ∷ []) = cc in
    let r = last_apart g h hs x more in
    (ap (λ z. z ∷ heads_of h.nodes hs) first ∙ ap (λ zs. head_of g.nodes y ∷ zs) r.0, r.1)

front_known : (g : Graph) (hs : List SeenHead) (x : SeenHead) → HeadsKnown g (hs ++ x ∷ []) → HeadsKnown g hs
front_known g hs x k = record { steady = λ h r. (last_apart g h hs x (k.steady h r)).0 }

last_known : (g : Graph) (hs : List SeenHead) (x : SeenHead) → HeadsKnown g (hs ++ x ∷ []) → HeadKnown g x
last_known g hs x k = record { steady = λ h r. (last_apart g h hs x (k.steady h r)).1 }

-- statements

pub no_stmts : (g : Graph) → StmtsKnown g []
no_stmts g = record { steady = λ h r. refl }

stmts_last : (g h : Graph) (ss : List SeenStmt) (s : SeenStmt) → stmts_of h.nodes ss ≡ stmts_of g.nodes ss → stmt_of h.nodes s ≡ stmt_of g.nodes s → stmts_of h.nodes (ss ++ s ∷ []) ≡ stmts_of g.nodes (ss ++ s ∷ [])
stmts_last g h [] s e f = ap (λ z. Seq z Done) f
stmts_last g h (x ∷ ss) s e f =
    let first : stmt_of h.nodes x ≡ stmt_of g.nodes x = cc in
    let more : stmts_of h.nodes ss ≡ stmts_of g.nodes ss = cc in
    ap (λ z. Seq z (stmts_of h.nodes (ss ++ s ∷ []))) first ∙ ap (Seq (stmt_of g.nodes x)) (stmts_last g h ss s more f)

one_of : (g h : Graph) (s : SeenStmt) → stmts_of h.nodes (s ∷ []) ≡ stmts_of g.nodes (s ∷ []) → stmt_of h.nodes s ≡ stmt_of g.nodes s
one_of g h s e = cc

alone : (g : Graph) (s : SeenStmt) → ((h : Graph) → Grows g h → stmt_of h.nodes s ≡ stmt_of g.nodes s) → StmtsKnown g (s ∷ [])
alone g s k = record { steady = λ h r. ap (λ z. Seq z Done) (k h r) }

-- what is taken

pub carries_same : (g : Graph) (old new : List SeenHead) → new ≡ old → Carries g old new []
carries_same g old new e = record { on = λ k. (subst (HeadsKnown g) (sym e) k, no_stmts g) }

pub carries_last : (g : Graph) (old new : List SeenHead) (x : SeenHead) → old ≡ new ++ x ∷ [] → Carries g old new []
carries_last g old new x e = record { on = λ k. (front_known g new x (subst (HeadsKnown g) e k), no_stmts g) }

pub carries_first : (g : Graph) (old mid new : List SeenHead) (xs ys : List SeenStmt) → Carries g old mid xs → Carries g mid new ys → Carries g old new xs
carries_first g old mid new xs ys a b = record { on = λ k. let x = a.on k in let y = b.on x.0 in (y.0, x.1) }

pub carries_second : (g : Graph) (old mid new : List SeenHead) (xs ys : List SeenStmt) → Carries g old mid xs → Carries g mid new ys → Carries g old new ys
carries_second g old mid new xs ys a b = record { on = λ k. b.on (a.on k).0 }

pub carries_more : (g : Graph) (old mid new : List SeenHead) (ss : List SeenStmt) (s : SeenStmt) → Carries g old mid ss → Carries g mid new (s ∷ []) → Carries g old new (ss ++ s ∷ [])
carries_more g old mid new ss s a b = record {
  on = λ k. let x = a.on k in let y = b.on x.0 in (y.0, record { steady = λ h r. stmts_last g h ss s (x.1.steady h r) (one_of g h s (y.1.steady h r)) });
}

pub carries_whole : (g : Graph) (old new : List SeenHead) (s : Box SeenStmt Global) → old ≡ new ++ seen.Whole s ∷ [] → Carries g old new (s.value ∷ [])
carries_whole g old new s e = record {
  on = λ k.
      let all = subst (HeadsKnown g) e k in
      (front_known g new (seen.Whole s) all, alone g s.value (λ h r. same h ((last_known g new (seen.Whole s) all).steady h r)));
}
  where
    same : (h : Graph) → head_of h.nodes (seen.Whole s) ≡ head_of g.nodes (seen.Whole s) → stmt_of h.nodes s.value ≡ stmt_of g.nodes s.value
    same h q = let p : Whole (stmt_of h.nodes s.value) ≡ Whole (stmt_of g.nodes s.value) = q in cc

tested_same : (g h : Graph) (e : Box SeenExp Global) → head_of h.nodes (seen.Tested e) ≡ head_of g.nodes (seen.Tested e) → exp_of h.nodes e.value ≡ exp_of g.nodes e.value
tested_same g h e q = let p : Tested (exp_of h.nodes e.value) ≡ Tested (exp_of g.nodes e.value) = q in cc

turned_same : (g h : Graph) (e : Box SeenExp Global) → head_of h.nodes (seen.Turned e) ≡ head_of g.nodes (seen.Turned e) → exp_of h.nodes e.value ≡ exp_of g.nodes e.value
turned_same g h e q = let p : Turned (exp_of h.nodes e.value) ≡ Turned (exp_of g.nodes e.value) = q in cc

pub carries_if : (g : Graph) (mid new : List SeenHead) (test : Box SeenExp Global) (xs ys : List SeenStmt) (s b : SeenStmt) → Carries g mid new xs → Carries g mid new ys → IsIf test.value xs ys s → b ≡ s → Carries g (mid ++ seen.Tested test ∷ []) new (b ∷ [])
carries_if g mid new test xs ys s b first second is same = subst (λ (z : SeenStmt). Carries g (mid ++ seen.Tested test ∷ []) new (z ∷ [])) (sym same) (record {
  on = λ all.
      let p = first.on (front_known g mid (seen.Tested test) all) in
      let q = second.on (front_known g mid (seen.Tested test) all) in (
        p.0,
        alone g s (λ h r.
            is.at h.nodes
            ∙ ap (λ t. If t (stmts_of h.nodes xs) (stmts_of h.nodes ys)) (tested_same g h test ((last_known g mid (seen.Tested test) all).steady h r))
            ∙ ap (λ ss. If (exp_of g.nodes test.value) ss (stmts_of h.nodes ys)) (p.1.steady h r)
            ∙ ap (If (exp_of g.nodes test.value) (stmts_of g.nodes xs)) (q.1.steady h r)
            ∙ sym (is.at g.nodes)),
      );
})

carries_made : (g : Graph) (mid new : List SeenHead) (x : SeenHead) (f : List Node → Stmts → Stmt) (xs : List SeenStmt) (s b : SeenStmt) → ((h : Graph) → Grows g h → HeadKnown g x → (ss : Stmts) → f h.nodes ss ≡ f g.nodes ss) →
    ((nodes : List Node) → stmt_of nodes s ≡ f nodes (stmts_of nodes xs)) → Carries g mid new xs → b ≡ s → Carries g (mid ++ x ∷ []) new (b ∷ [])
carries_made g mid new x f xs s b steady is carried same = subst (λ (z : SeenStmt). Carries g (mid ++ x ∷ []) new (z ∷ [])) (sym same) (record {
  on = λ all.
      let p = carried.on (front_known g mid x all) in (
        p.0,
        alone g s (λ h r. is h.nodes ∙ steady h r (last_known g mid x all) (stmts_of h.nodes xs) ∙ ap (f g.nodes) (p.1.steady h r) ∙ sym (is g.nodes)),
      );
})

pub carries_switch : (g : Graph) (mid new : List SeenHead) (value : Box SeenExp Global) (xs : List SeenStmt) (s b : SeenStmt) → Carries g mid new xs → IsSwitch value.value xs s → b ≡ s → Carries g (mid ++ seen.Turned value ∷ []) new (b ∷ [])
carries_switch g mid new value xs s b carried is same =
    carries_made g mid new (seen.Turned value) (λ nodes ss. Switch (exp_of nodes value.value) ss) xs s b (λ h r k ss. ap (λ t. Switch t ss) (turned_same g h value (k.steady h r))) is.at carried same

pub carries_loop : (g : Graph) (mid new : List SeenHead) (xs : List SeenStmt) (s b : SeenStmt) → Carries g mid new xs → IsLoop xs s → b ≡ s → Carries g (mid ++ seen.Looped ∷ []) new (b ∷ [])
carries_loop g mid new xs s b carried is same = carries_made g mid new seen.Looped (λ nodes ss. Loop ss) xs s b (λ h r k ss. refl) is.at carried same

pub carries_block : (g : Graph) (mid new : List SeenHead) (xs : List SeenStmt) (s b : SeenStmt) → Carries g mid new xs → IsBlock xs s → b ≡ s → Carries g (mid ++ seen.Opened ∷ []) new (b ∷ [])
carries_block g mid new xs s b carried is same = carries_made g mid new seen.Opened (λ nodes ss. Block ss) xs s b (λ h r k ss. refl) is.at carried same

-- all lines, the first one last

reversed_known : (g h : Graph) (hs : List SeenHead) → heads_of h.nodes hs ≡ heads_of g.nodes hs → heads_of h.nodes (reverse hs) ≡ heads_of g.nodes (reverse hs)
reversed_known g h hs e = map-reverse (head_of h.nodes) hs ∙ ap reverse e ∙ sym (map-reverse (head_of g.nodes) hs)

pub turned_known : (g : Graph) (hs : List SeenHead) → HeadsKnown g hs → HeadsKnown g (reverse hs)
turned_known g hs k = record { steady = λ h r. reversed_known g h hs (k.steady h r) }
