use Rattle.std.proofs.Common.{◌≡◌, Err, refl, sym, ap, ◌∙◌, subst, rules}
use Rattle.std.specs.Option.{option_and_then}
use Rattle.type_graph.specs.Shapes.{shape}
use Rattle.type_graph.specs.Arena.{Graph}
use Rattle.type_graph.specs.Growth.{Grows}
use Rattle.cil_tree.specs.View.{stmts_of}
use Rattle.cil_tree.specs.Names.{are_different}
use Rattle.cil_text.specs.Allowed.{allowed}
use Rattle.cil_text.specs.ReadExps.{Env}
use Rattle.cil_text.specs.ReadStmts.{read_heads, read_nested}
use Rattle.cil_text.specs.ReadGlobals.{labels_in, read_body}
use Rattle.cil_text.specs.TypesOf.{AddsParts, types_in_stmts}
use Rattle.cil_scan.specs.Said.{all_lines}
use Rattle.cil_reader.specs.Settings.{env_in, locals_of, with_locals, outside}
use Rattle.cil_reader.specs.Bodies.{texts_of, whole_stmts}
use Rattle.cil_reader.proofs.BodyLaws.{texts_later}
use Rattle.cil_reader.proofs.FunctionLaws.{body_gives, body_labels_fail, body_seen, body_known, fails_by}
use Rattle.cil_reader.proofs.AddedBodies.{body_adds}
use Rattle.cil_reader.proofs.OutsideLaws.{outside_names, outside_from, outside_locals, outside_body}
use Rattle.cil_reader.proofs.PoolLaws.{pool_twice}
use Rattle.cil_reader.proofs.bodies.read_body.Goals as goal

pub returns-clause-gives : goal.returns-clause-gives
returns-clause-gives c =
    let ls = locals_of c.read_locals.new.r.graph.nodes c.in_ok-locals.locals.names in
    let same : env_in c.set_locals.new.self ≡ with_locals (env_in c.args.r.now) ls = c.set_locals.ensures.env ∙ ap (λ (v : Env). with_locals v ls) c.read_locals.ensures.on.env in
    let stmts = ap (λ (v : Env). option_and_then whole_stmts (option_and_then (read_nested c.args.left) (read_heads v c.in_ok-labels.labels.texts c.args.left (all_lines c.in_ok-locals.rest.now)))) (sym same) ∙ c.in_ok-stmts.ensures.gives in
    body_gives (env_in c.args.r.now) c.args.left (shape c.args.r.now.graph.nodes c.args.ty.0) (texts_of c.args.params.now) c.in_ok-labels.labels.texts (all_lines c.args.lines.now) (all_lines c.in_ok-locals.rest.now)
    (locals_of c.args.r.now.graph.nodes c.in_ok-first.first.names) ls (stmts_of c.read_stmts.new.r.graph.nodes c.in_ok-stmts.stmts.items) c.in_ok-first.ensures.gives c.in_ok-locals.ensures.gives c.in_ok-labels.ensures.gives stmts
    ∙ body_seen c.read_locals.new.r.graph c.read_stmts.new.r.graph c.read_locals.new.pool c.numbers_of.new.pool (record { params = c.in_ok-params.params; locals = c.in_ok-locals.locals.all; labels = c.in_ok-labels.labels.names; stmts = c.in_ok-stmts.stmts }) c.in_ok-locals.locals (texts_of c.args.params.now) c.in_ok-labels.labels.texts ls (stmts_of c.read_stmts.new.r.graph.nodes c.in_ok-stmts.stmts.items)
    (subst (λ (k : Graph). Grows k c.read_stmts.new.r.graph) c.set_locals.ensures.graph c.read_stmts.ensures.on.grows) (pool_twice c.read_locals.new.pool c.labels_in.new.pool c.numbers_of.new.pool c.labels_in.ensures.pool c.numbers_of.ensures.pool)
    c.in_ok-locals.ensures.known refl refl c.in_ok-params.ensures.known (texts_later c.labels_in.new.pool c.numbers_of.new.pool c.in_ok-labels.labels.names.items c.in_ok-labels.labels.texts c.in_ok-labels.ensures.known c.numbers_of.ensures.pool) refl

pub returns-clause-known : goal.returns-clause-known
returns-clause-known c =
    body_known c.read_locals.new.r.graph c.read_stmts.new.r.graph c.read_locals.new.pool c.numbers_of.new.pool (record { params = c.in_ok-params.params; locals = c.in_ok-locals.locals.all; labels = c.in_ok-labels.labels.names; stmts = c.in_ok-stmts.stmts }) c.in_ok-locals.locals (texts_of c.args.params.now) c.in_ok-labels.labels.texts
    (subst (λ (k : Graph). Grows k c.read_stmts.new.r.graph) c.set_locals.ensures.graph c.read_stmts.ensures.on.grows) (pool_twice c.read_locals.new.pool c.labels_in.new.pool c.numbers_of.new.pool c.labels_in.ensures.pool c.numbers_of.ensures.pool)
    c.in_ok-locals.ensures.known refl c.in_ok-params.ensures.known (texts_later c.labels_in.new.pool c.numbers_of.new.pool c.in_ok-labels.labels.names.items c.in_ok-labels.labels.texts c.in_ok-labels.ensures.known c.numbers_of.ensures.pool)
    c.in_ok-stmts.ensures.known

pub returns-in_err-first-clause-on : goal.returns-in_err-first-clause-on
returns-in_err-first-clause-on c = outside_names c.args.r.now c.args.pool.now c.param_locals.new.pool c.param_locals.ensures.pool

pub returns-in_err-locals-clause-on : goal.returns-in_err-locals-clause-on
returns-in_err-locals-clause-on c =
    let pool = pool_twice c.args.pool.now c.param_locals.new.pool c.read_locals.new.pool c.param_locals.ensures.pool c.read_locals.ensures.pool in
    outside_from c.args.r.now c.read_locals.new.r c.args.pool.now c.read_locals.new.pool c.read_locals.ensures.on pool

pub returns-in_err-labels-clause-on : goal.returns-in_err-labels-clause-on
returns-in_err-labels-clause-on c =
    let p = c.args.pool.now in
    let q = c.read_locals.new.pool in
    let pool = pool_twice p q c.labels_in.new.pool (pool_twice p c.param_locals.new.pool q c.param_locals.ensures.pool c.read_locals.ensures.pool) c.labels_in.ensures.pool in
    outside_locals c.args.r.now c.read_locals.new.r c.set_locals.new.self _ p c.labels_in.new.pool c.read_locals.ensures.on c.set_locals.ensures.graph c.set_locals.ensures.env pool

pub returns-in_err-stmts-clause-on : goal.returns-in_err-stmts-clause-on
returns-in_err-stmts-clause-on c =
    let p = c.args.pool.now in
    let q = c.read_locals.new.pool in
    let pool = pool_twice p c.param_locals.new.pool q c.param_locals.ensures.pool c.read_locals.ensures.pool in
    outside_body c.args.r.now c.read_locals.new.r c.set_locals.new.self c.read_stmts.new.r _ p q c.labels_in.new.pool c.read_locals.ensures.on c.set_locals.ensures.graph c.set_locals.ensures.env pool c.read_stmts.ensures.on c.labels_in.ensures.pool

pub returns-in_err-params-clause-on : goal.returns-in_err-params-clause-on
returns-in_err-params-clause-on c =
    let p = c.args.pool.now in
    let q = c.read_locals.new.pool in
    let first = pool_twice p c.param_locals.new.pool q c.param_locals.ensures.pool c.read_locals.ensures.pool in
    let behind = pool_twice q c.labels_in.new.pool c.numbers_of.new.pool c.labels_in.ensures.pool c.numbers_of.ensures.pool in
    outside_body c.args.r.now c.read_locals.new.r c.set_locals.new.self c.read_stmts.new.r _ p q c.numbers_of.new.pool c.read_locals.ensures.on c.set_locals.ensures.graph c.set_locals.ensures.env first c.read_stmts.ensures.on behind

pub returns-clause-on : goal.returns-clause-on
returns-clause-on c =
    let p = c.args.pool.now in
    let q = c.read_locals.new.pool in
    let first = pool_twice p c.param_locals.new.pool q c.param_locals.ensures.pool c.read_locals.ensures.pool in
    let behind = pool_twice q c.labels_in.new.pool c.numbers_of.new.pool c.labels_in.ensures.pool c.numbers_of.ensures.pool in
    outside_body c.args.r.now c.read_locals.new.r c.set_locals.new.self c.read_stmts.new.r _ p q c.numbers_of.new.pool c.read_locals.ensures.on c.set_locals.ensures.graph c.set_locals.ensures.env first c.read_stmts.ensures.on behind

pub returns-in_err-labels-clause-gives : goal.returns-in_err-labels-clause-gives
returns-in_err-labels-clause-gives c =
    let type = shape c.args.r.now.graph.nodes c.args.ty.0 in
    let params = texts_of c.args.params.now in
    let lines = all_lines c.args.lines.now in
    let rest = all_lines c.in_ok-locals.rest.now in
    let stops = fails_by c.in_err-labels.field-0.0 (allowed are_different (labels_in rest)) (read_body (outside (env_in c.args.r.now)) c.args.left type params lines)
    (λ none. body_labels_fail (env_in c.args.r.now) c.args.left type params lines rest (locals_of c.args.r.now.graph.nodes c.in_ok-first.first.names) (locals_of c.read_locals.new.r.graph.nodes c.in_ok-locals.locals.names) c.in_ok-first.ensures.gives c.in_ok-locals.ensures.gives none)
    c.in_err-labels.ensures.gives in
    let err : c.from_residual-in_err-labels.result ≡ Err c.in_err-labels.field-0.0 = search rules in
    rw err stops

pub returns-clause-adds : goal.returns-clause-adds
returns-clause-adds c =
    let e = c.read_locals.new.r.graph in
    let g = c.read_stmts.new.r.graph in
    body_adds c.args.r.now.graph e g c.read_locals.new.pool c.numbers_of.new.pool (record { params = c.in_ok-params.params; locals = c.in_ok-locals.locals.all; labels = c.in_ok-labels.labels.names; stmts = c.in_ok-stmts.stmts }) c.in_ok-locals.locals
    (subst (λ (k : Graph). Grows k g) c.set_locals.ensures.graph c.read_stmts.ensures.on.grows) (pool_twice c.read_locals.new.pool c.labels_in.new.pool c.numbers_of.new.pool c.labels_in.ensures.pool c.numbers_of.ensures.pool) c.in_ok-locals.ensures.known refl
    c.in_ok-locals.ensures.adds (subst (λ (k : Graph). AddsParts k g (types_in_stmts (stmts_of g.nodes c.in_ok-stmts.stmts.items))) c.set_locals.ensures.graph c.in_ok-stmts.ensures.adds)
