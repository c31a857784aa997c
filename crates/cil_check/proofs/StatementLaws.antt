-- Device: statements keep their rules where each rule holds of all of them.
use Rattle.std.proofs.Common.{◌≡◌, Bool, true, false, ◌&&◌, Option, None, is_some, refl, sym, ap, ◌∙◌}
use Rattle.cil_base.specs.declared.kinds.IntKind.{IntKind}
use Rattle.type_graph.specs.Shapes.{Shape}
use Rattle.cil_tree.specs.Tree.{Exp, Stmt, Do, If, Switch, Loop, Block, Label, Case, Default, Goto, Break, Return, Stmts, Done, Seq}
use Rattle.cil_tree.specs.Typing.{Scope}
use Rattle.cil_tree.specs.Bodies.{parts_fit, goto_fits, cases_fit, cases_fit_in, cases_are_once, breaks_fit, breaks_fit_in, returns_fit, each_stmt, each_within, labels_fit, stmts_fit, test_fits, switch_kind}
use Rattle.cil_check.specs.Statements.{keeps_rules, keep_rules}

both : (p q : Bool) → p && q ≡ true → (p ≡ true) × (q ≡ true)
both true q e = (refl, e)
both false q e = cc

joined : (p q : Bool) → p ≡ true → q ≡ true → p && q ≡ true
joined p q e f = ap (λ b. b && q) e ∙ f

-- each rule of statements, but for the numbers of labels
record Kept (c : Scope) (ret : Shape) (kind : Option IntKind) (inside : Bool) (ss : Stmts) : Type 0 where
  parts : each_stmt (parts_fit c) ss ≡ true
  gotos : each_stmt (goto_fits c) ss ≡ true
  cases : cases_fit c kind ss ≡ true
  onces : each_stmt cases_are_once ss ≡ true
  breaks : breaks_fit inside ss ≡ true
  returns : each_stmt (returns_fit c ret) ss ≡ true

-- the same for one statement and those within it
record KeptIn (c : Scope) (ret : Shape) (kind : Option IntKind) (inside : Bool) (s : Stmt) : Type 0 where
  own_parts : parts_fit c s ≡ true
  own_goto : goto_fits c s ≡ true
  own_once : cases_are_once s ≡ true
  own_return : returns_fit c ret s ≡ true
  parts : each_within (parts_fit c) s ≡ true
  gotos : each_within (goto_fits c) s ≡ true
  cases : cases_fit_in c kind s ≡ true
  onces : each_within cases_are_once s ≡ true
  breaks : breaks_fit_in inside s ≡ true
  returns : each_within (returns_fit c ret) s ≡ true

-- a rule of a statement, of those within it, and of those behind it
three : (of : Stmt → Bool) (first : Stmt) (rest : Stmts) → of first ≡ true → each_within of first ≡ true → each_stmt of rest ≡ true → each_stmt of (Seq first rest) ≡ true
three of first rest e f g = joined (of first) (each_within of first && each_stmt of rest) e (joined (each_within of first) (each_stmt of rest) f g)

three_of : (of : Stmt → Bool) (first : Stmt) (rest : Stmts) → each_stmt of (Seq first rest) ≡ true → (of first ≡ true) × (each_within of first ≡ true) × (each_stmt of rest ≡ true)
three_of of first rest e =
    let h = both (of first) (each_within of first && each_stmt of rest) e in
    let k = both (each_within of first) (each_stmt of rest) h.1 in
    (h.0, k.0, k.1)

two_parts : (c : Scope) (ret : Shape) (kind : Option IntKind) (inside : Bool) (test : Exp) (holds fails : Stmts) → test_fits c test ≡ true → Kept c ret kind inside holds → Kept c ret kind inside fails → KeptIn c ret kind inside (If test holds fails)
two_parts c ret kind inside test holds fails e a b = record {
  own_parts = e;
  own_goto = refl;
  own_once = refl;
  own_return = refl;
  parts = joined (each_stmt (parts_fit c) holds) (each_stmt (parts_fit c) fails) a.parts b.parts;
  gotos = joined (each_stmt (goto_fits c) holds) (each_stmt (goto_fits c) fails) a.gotos b.gotos;
  cases = joined (cases_fit c kind holds) (cases_fit c kind fails) a.cases b.cases;
  onces = joined (each_stmt cases_are_once holds) (each_stmt cases_are_once fails) a.onces b.onces;
  breaks = joined (breaks_fit inside holds) (breaks_fit inside fails) a.breaks b.breaks;
  returns = joined (each_stmt (returns_fit c ret) holds) (each_stmt (returns_fit c ret) fails) a.returns b.returns;
}

parts_of_two : (c : Scope) (ret : Shape) (kind : Option IntKind) (inside : Bool) (test : Exp) (holds fails : Stmts) → KeptIn c ret kind inside (If test holds fails) → Kept c ret kind inside holds × Kept c ret kind inside fails
parts_of_two c ret kind inside test holds fails r =
    let p = both (each_stmt (parts_fit c) holds) (each_stmt (parts_fit c) fails) r.parts in
    let g = both (each_stmt (goto_fits c) holds) (each_stmt (goto_fits c) fails) r.gotos in
    let k = both (cases_fit c kind holds) (cases_fit c kind fails) r.cases in
    let o = both (each_stmt cases_are_once holds) (each_stmt cases_are_once fails) r.onces in
    let b = both (breaks_fit inside holds) (breaks_fit inside fails) r.breaks in
    let q = both (each_stmt (returns_fit c ret) holds) (each_stmt (returns_fit c ret) fails) r.returns in
    (record { parts = p.0; gotos = g.0; cases = k.0; onces = o.0; breaks = b.0; returns = q.0 }, record { parts = p.1; gotos = g.1; cases = k.1; onces = o.1; breaks = b.1; returns = q.1 })

mutual
  kept : (c : Scope) (ret : Shape) (kind : Option IntKind) (inside : Bool) (ss : Stmts) → keep_rules c ret kind inside ss ≡ true → Kept c ret kind inside ss
  kept c ret kind inside Done e = record { parts = refl; gotos = refl; cases = refl; onces = refl; breaks = refl; returns = refl }
  kept c ret kind inside (Seq first rest) e =
      let h = both (keeps_rules c ret kind inside first) (keep_rules c ret kind inside rest) e in
      let a = kept_in c ret kind inside first h.0 in
      let b = kept c ret kind inside rest h.1 in
      record {
        parts = three (parts_fit c) first rest a.own_parts a.parts b.parts;
        gotos = three (goto_fits c) first rest a.own_goto a.gotos b.gotos;
        cases = joined (cases_fit_in c kind first) (cases_fit c kind rest) a.cases b.cases;
        onces = three cases_are_once first rest a.own_once a.onces b.onces;
        breaks = joined (breaks_fit_in inside first) (breaks_fit inside rest) a.breaks b.breaks;
        returns = three (returns_fit c ret) first rest a.own_return a.returns b.returns;
      }

  kept_in : (c : Scope) (ret : Shape) (kind : Option IntKind) (inside : Bool) (s : Stmt) → keeps_rules c ret kind inside s ≡ true → KeptIn c ret kind inside s
  kept_in c ret kind inside (Do instr) e = record { own_parts = e; own_goto = refl; own_once = refl; own_return = refl; parts = refl; gotos = refl; cases = refl; onces = refl; breaks = refl; returns = refl }
  kept_in c ret kind inside (If test holds fails) e =
      let h = both (test_fits c test) (keep_rules c ret kind inside holds && keep_rules c ret kind inside fails) e in
      let k = both (keep_rules c ret kind inside holds) (keep_rules c ret kind inside fails) h.1 in
      two_parts c ret kind inside test holds fails h.0 (kept c ret kind inside holds k.0) (kept c ret kind inside fails k.1)
  kept_in c ret kind inside (Switch value body) e =
      let h = both (is_some (switch_kind c value)) (cases_are_once (Switch value body) && keep_rules c ret (switch_kind c value) true body) e in
      let k = both (cases_are_once (Switch value body)) (keep_rules c ret (switch_kind c value) true body) h.1 in
      let a = kept c ret (switch_kind c value) true body k.1 in
      record { own_parts = h.0; own_goto = refl; own_once = k.0; own_return = refl; parts = a.parts; gotos = a.gotos; cases = a.cases; onces = a.onces; breaks = a.breaks; returns = a.returns }
  kept_in c ret kind inside (Loop body) e =
      let a = kept c ret kind true body e in
      record { own_parts = refl; own_goto = refl; own_once = refl; own_return = refl; parts = a.parts; gotos = a.gotos; cases = a.cases; onces = a.onces; breaks = a.breaks; returns = a.returns }
  kept_in c ret kind inside (Block body) e =
      let a = kept c ret kind inside body e in
      record { own_parts = refl; own_goto = refl; own_once = refl; own_return = refl; parts = a.parts; gotos = a.gotos; cases = a.cases; onces = a.onces; breaks = a.breaks; returns = a.returns }
  kept_in c ret kind inside (Label number) e = record { own_parts = refl; own_goto = refl; own_once = refl; own_return = refl; parts = refl; gotos = refl; cases = refl; onces = refl; breaks = refl; returns = refl }
  kept_in c ret kind inside (Case k value) e = record { own_parts = refl; own_goto = refl; own_once = refl; own_return = refl; parts = refl; gotos = refl; cases = e; onces = refl; breaks = refl; returns = refl }
  kept_in c ret kind inside Default e = record { own_parts = refl; own_goto = refl; own_once = refl; own_return = refl; parts = refl; gotos = refl; cases = e; onces = refl; breaks = refl; returns = refl }
  kept_in c ret kind inside (Goto number) e = record { own_parts = refl; own_goto = e; own_once = refl; own_return = refl; parts = refl; gotos = refl; cases = refl; onces = refl; breaks = refl; returns = refl }
  kept_in c ret kind inside Break e = record { own_parts = refl; own_goto = refl; own_once = refl; own_return = refl; parts = refl; gotos = refl; cases = refl; onces = refl; breaks = e; returns = refl }
  kept_in c ret kind inside (Return value) e = record { own_parts = refl; own_goto = refl; own_once = refl; own_return = e; parts = refl; gotos = refl; cases = refl; onces = refl; breaks = refl; returns = refl }

mutual
  keep : (c : Scope) (ret : Shape) (kind : Option IntKind) (inside : Bool) (ss : Stmts) → Kept c ret kind inside ss → keep_rules c ret kind inside ss ≡ true
  keep c ret kind inside Done r = refl
  keep c ret kind inside (Seq first rest) r =
      let p = three_of (parts_fit c) first rest r.parts in
      let g = three_of (goto_fits c) first rest r.gotos in
      let k = both (cases_fit_in c kind first) (cases_fit c kind rest) r.cases in
      let o = three_of cases_are_once first rest r.onces in
      let b = both (breaks_fit_in inside first) (breaks_fit inside rest) r.breaks in
      let q = three_of (returns_fit c ret) first rest r.returns in
      joined (keeps_rules c ret kind inside first) (keep_rules c ret kind inside rest)
      (keep_in c ret kind inside first (record { own_parts = p.0; own_goto = g.0; own_once = o.0; own_return = q.0; parts = p.1; gotos = g.1; cases = k.0; onces = o.1; breaks = b.0; returns = q.1 }))
      (keep c ret kind inside rest (record { parts = p.2; gotos = g.2; cases = k.1; onces = o.2; breaks = b.1; returns = q.2 }))

  keep_in : (c : Scope) (ret : Shape) (kind : Option IntKind) (inside : Bool) (s : Stmt) → KeptIn c ret kind inside s → keeps_rules c ret kind inside s ≡ true
  keep_in c ret kind inside (Do instr) r = r.own_parts
  keep_in c ret kind inside (If test holds fails) r =
      let a = parts_of_two c ret kind inside test holds fails r in
      joined (test_fits c test) (keep_rules c ret kind inside holds && keep_rules c ret kind inside fails) r.own_parts
      (joined (keep_rules c ret kind inside holds) (keep_rules c ret kind inside fails) (keep c ret kind inside holds a.0) (keep c ret kind inside fails a.1))
  keep_in c ret kind inside (Switch value body) r =
      joined (is_some (switch_kind c value)) (cases_are_once (Switch value body) && keep_rules c ret (switch_kind c value) true body) r.own_parts
      (joined (cases_are_once (Switch value body)) (keep_rules c ret (switch_kind c value) true body) r.own_once
      (keep c ret (switch_kind c value) true body (record { parts = r.parts; gotos = r.gotos; cases = r.cases; onces = r.onces; breaks = r.breaks; returns = r.returns })))
  keep_in c ret kind inside (Loop body) r = keep c ret kind true body (record { parts = r.parts; gotos = r.gotos; cases = r.cases; onces = r.onces; breaks = r.breaks; returns = r.returns })
  keep_in c ret kind inside (Block body) r = keep c ret kind inside body (record { parts = r.parts; gotos = r.gotos; cases = r.cases; onces = r.onces; breaks = r.breaks; returns = r.returns })
  keep_in c ret kind inside (Label number) r = refl
  keep_in c ret kind inside (Case k value) r = r.cases
  keep_in c ret kind inside Default r = r.cases
  keep_in c ret kind inside (Goto number) r = r.own_goto
  keep_in c ret kind inside Break r = r.breaks
  keep_in c ret kind inside (Return value) r = r.own_return

told_alike : (p q : Bool) → (p ≡ true → q ≡ true) → (q ≡ true → p ≡ true) → p ≡ q
told_alike true q f g = sym (f refl)
told_alike false true f g = g refl
told_alike false false f g = refl

-- statements fit where they keep their rules and their labels are numbered
pub stmts_are : (c : Scope) (ret : Shape) (body : Stmts) → keep_rules c ret None false body && labels_fit c body ≡ stmts_fit c ret body
stmts_are c ret body = told_alike (keep_rules c ret None false body && labels_fit c body) (stmts_fit c ret body) to from
  where
    to : keep_rules c ret None false body && labels_fit c body ≡ true → stmts_fit c ret body ≡ true
    to e =
        let h = both (keep_rules c ret None false body) (labels_fit c body) e in
        let r = kept c ret None false body h.0 in
        joined (each_stmt (parts_fit c) body) (labels_fit c body && (each_stmt (goto_fits c) body && (cases_fit c None body && (each_stmt cases_are_once body && (breaks_fit false body && each_stmt (returns_fit c ret) body))))) r.parts
        (joined (labels_fit c body) (each_stmt (goto_fits c) body && (cases_fit c None body && (each_stmt cases_are_once body && (breaks_fit false body && each_stmt (returns_fit c ret) body)))) h.1
        (joined (each_stmt (goto_fits c) body) (cases_fit c None body && (each_stmt cases_are_once body && (breaks_fit false body && each_stmt (returns_fit c ret) body))) r.gotos
        (joined (cases_fit c None body) (each_stmt cases_are_once body && (breaks_fit false body && each_stmt (returns_fit c ret) body)) r.cases
        (joined (each_stmt cases_are_once body) (breaks_fit false body && each_stmt (returns_fit c ret) body) r.onces
        (joined (breaks_fit false body) (each_stmt (returns_fit c ret) body) r.breaks r.returns)))))

    from : stmts_fit c ret body ≡ true → keep_rules c ret None false body && labels_fit c body ≡ true
    from e =
        let p = both (each_stmt (parts_fit c) body) (labels_fit c body && (each_stmt (goto_fits c) body && (cases_fit c None body && (each_stmt cases_are_once body && (breaks_fit false body && each_stmt (returns_fit c ret) body))))) e in
        let l = both (labels_fit c body) (each_stmt (goto_fits c) body && (cases_fit c None body && (each_stmt cases_are_once body && (breaks_fit false body && each_stmt (returns_fit c ret) body)))) p.1 in
        let g = both (each_stmt (goto_fits c) body) (cases_fit c None body && (each_stmt cases_are_once body && (breaks_fit false body && each_stmt (returns_fit c ret) body))) l.1 in
        let k = both (cases_fit c None body) (each_stmt cases_are_once body && (breaks_fit false body && each_stmt (returns_fit c ret) body)) g.1 in
        let o = both (each_stmt cases_are_once body) (breaks_fit false body && each_stmt (returns_fit c ret) body) k.1 in
        let b = both (breaks_fit false body) (each_stmt (returns_fit c ret) body) o.1 in
        joined (keep_rules c ret None false body) (labels_fit c body) (keep c ret None false body (record { parts = p.0; gotos = g.0; cases = k.0; onces = o.0; breaks = b.0; returns = b.1 })) l.0

-- nor where they do not keep them
pub stmts_fail : (c : Scope) (ret : Shape) (body : Stmts) → keep_rules c ret None false body ≡ false → false ≡ stmts_fit c ret body
stmts_fail c ret body e = sym (sym (stmts_are c ret body) ∙ ap (λ b. b && labels_fit c body) e)
