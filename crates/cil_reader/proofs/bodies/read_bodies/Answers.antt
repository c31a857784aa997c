use Rattle.std.proofs.Common.{◌≡◌, ◌<◌, ◌≤◌, ℕ, Vec, Bor, List, Option, Some, Err, length, drop, ap, ◌∙◌, sym, subst, rules, arith}
use Rattle.std.specs.Prelude.{IfSome}
use Rattle.std.specs.Global.{Global}
use Rattle.std.proofs.Math.ListN.{set}
use Rattle.cil_tree.specs.declared.globals.Body.{Body as SeenBody}
use Rattle.cil_tree.specs.declared.globals.GlobalDecl.{GlobalDecl as SeenGlobal}
use Rattle.cil_scan.specs.declared.words.Word.{Word}
use Rattle.cil_scan.specs.Said.{all_lines}
use Rattle.cil_reader.specs.Settings.{env_in, outside}
use Rattle.cil_reader.specs.Globals.{globals_of, behind_line}
use Rattle.cil_reader.specs.Bodies.{texts_of, next_names, BodyKnown}
use Rattle.cil_reader.proofs.FunctionLaws.{globals_later, none_all, some_all, some_known, fail_all, bodies_end, bodied_global, given_back}
use Rattle.cil_reader.proofs.AddedBodies.{none_adds, some_adds}
use Rattle.cil_reader.proofs.OutsideLaws.{outside_twice}
use Rattle.cil_reader.proofs.bodies.read_bodies.Goals.{in-None, in-Some+in_ok-header-in-Some}
use Rattle.cil_reader.proofs.bodies.read_bodies.Goals as goal

pub loop-i-preserved : goal.loop-i-preserved
loop-i-preserved c =
    let inv = c.loop-i.invariant in
    let e = c.args.r.now.graph in
    let g = c.loop-i.r.graph in
    let h = c.own_body.new.r.graph in
    let p = c.loop-i.pool in
    let q = c.own_body.new.pool in
    let less : c.loop-i.i < length c.args.declarations.now = omega arith in
    let on = outside_twice c.args.r.now c.loop-i.r c.own_body.new.r c.args.pool.now p q inv.0 c.own_body.ensures.on in
    let lent : c.deref.result.now ≡ c.loop-i.header.items = search rules in
    let names = ap texts_of lent ∙ inv.3 in
    elim c.match-branch-3.branch [
      | in-None w ↦
          rw (w.globals-is, w.rest-is, w.header-is) (
            on,
            inv.1,
            globals_later g h p q c.loop-i.globals c.own_body.ensures.on.grows c.own_body.ensures.on.pool inv.2,
            inv.3,
            none_all e g h p q (outside (env_in c.args.r.now)) (outside (env_in c.loop-i.r)) c.args.left c.args.declarations.now c.loop-i.i _ c.loop-i.globals (all_lines c.loop-i.rest.now) (texts_of c.deref.result.now) _ _ c.in_ok-own_body.field-0 less inv.1 inv.0.grows c.requires.there
                c.own_body.ensures.on.grows c.own_body.ensures.on.pool inv.2 names inv.0.env w.in-None.is c.in_ok-own_body.ensures.gives inv.4,
            none_adds e g h p q c.loop-i.globals c.loop-i.i c.in_ok-own_body.field-0 c.own_body.ensures.on.grows c.own_body.ensures.on.pool inv.2 w.in-None.is inv.5 c.in_ok-own_body.ensures.adds,
          )
      | in-Some+in_ok-header-in-Some w ↦
          let y = w.index-globals-i.result in
          let b = w.in-Some.body in
          let count = w.in-Some.count in
          let is : c.in_ok-own_body.field-0 ≡ Some (b, count) = w.in-Some.is in
          let known : BodyKnown h q b = subst (λ (o : Option (SeenBody × ℕ)). IfSome o (λ (x : SeenBody × ℕ). BodyKnown h q x.0)) is c.in_ok-own_body.ensures.known in
          let changed : c.match-branch-3.globals ≡ set c.loop-i.globals c.loop-i.i (bodied_global y b) = search rules in
          let globals = changed ∙ ap (λ (v : SeenGlobal). set c.loop-i.globals c.loop-i.i (bodied_global v b)) w.index-globals-i.is in
          let later : all_lines w.behind_line-rest.result.now ≡ behind_line (all_lines (drop count (drop 1 c.loop-i.rest.now))) =
          w.behind_line-rest.ensures.is ∙ ap (λ (ls : List (Vec Word Global)). behind_line (all_lines ls)) (w.behind_lines.ensures ∙ ap (drop count) w.behind_line.ensures.list) in (
            on,
            c.match-branch-3.auto.globals ∙ inv.1,
            some_known g h p q c.loop-i.globals c.match-branch-3.globals c.loop-i.i y b c.own_body.ensures.on.grows c.own_body.ensures.on.pool inv.2 known globals,
            ap (λ (v : Vec (Bor (List ℕ)) Global). texts_of v.items) w.header-is ∙ given_back (next_names (all_lines w.behind_line-rest.result.now)) (texts_of w.in_ok-header-in-Some.header.items) w.in_ok-header-in-Some.ensures
                ∙ ap (λ (v : Bor (List (Vec Word Global))). next_names (all_lines v.now)) (sym w.rest-is),
            some_all e g h p q (outside (env_in c.args.r.now)) (outside (env_in c.loop-i.r)) c.args.left c.args.declarations.now c.loop-i.i _ c.loop-i.globals c.match-branch-3.globals y b count (all_lines c.loop-i.rest.now) (all_lines c.match-branch-3.rest.now) (texts_of c.deref.result.now) _
                (λ k. behind_line (all_lines (drop k (drop 1 c.loop-i.rest.now)))) c.in_ok-own_body.field-0 less inv.1 inv.0.grows c.requires.there c.own_body.ensures.on.grows c.own_body.ensures.on.pool inv.2 names inv.0.env is c.in_ok-own_body.ensures.gives globals
                (ap (λ (v : Bor (List (Vec Word Global))). all_lines v.now) w.rest-is ∙ later) inv.4,
            some_adds e g h p q c.loop-i.globals c.match-branch-3.globals c.loop-i.i y b count c.in_ok-own_body.field-0 (omega (arith, less, inv.1)) c.own_body.ensures.on.grows c.own_body.ensures.on.pool inv.2 is globals inv.5 c.in_ok-own_body.ensures.adds,
          )
    ]

pub returns-in_err-own_body-clause-gives : goal.returns-in_err-own_body-clause-gives
returns-in_err-own_body-clause-gives c =
    let inv = c.loop-i.invariant in
    let less : c.loop-i.i < length c.args.declarations.now = omega arith in
    let lent : c.deref.result.now ≡ c.loop-i.header.items = search rules in
    let names = ap texts_of lent ∙ inv.3 in
    let stops = fail_all c.args.r.now.graph c.loop-i.r.graph (outside (env_in c.args.r.now)) (outside (env_in c.loop-i.r)) c.args.left c.args.declarations.now c.loop-i.i _ (globals_of c.loop-i.r.graph.nodes c.loop-i.pool c.loop-i.globals) (all_lines c.loop-i.rest.now)
    (texts_of c.deref.result.now) _ c.in_err-own_body.field-0.0 less inv.0.grows c.requires.there names inv.0.env c.in_err-own_body.ensures.gives inv.4 in
    let err : c.from_residual-in_err-own_body.result ≡ Err c.in_err-own_body.field-0.0 = search rules in
    rw err stops

pub returns-clause-gives : goal.returns-clause-gives
returns-clause-gives c =
    let end : length c.args.declarations.now ≤ c.loop-i.i = omega arith in
    bodies_end (outside (env_in c.args.r.now)) c.args.left c.args.r.now.graph.nodes c.args.declarations.now c.loop-i.i (globals_of c.loop-i.r.graph.nodes c.loop-i.pool c.loop-i.globals) (all_lines c.loop-i.rest.now) _ end c.loop-i.invariant.4
