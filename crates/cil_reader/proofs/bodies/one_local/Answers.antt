use Rattle.std.proofs.Common.{◌≡◌, true, List, ℕ, Bor, Option, ap, rules}
use Rattle.std.specs.Option.{option_map}
use Rattle.type_graph.specs.Shapes.{shape}
use Rattle.cil_text.specs.ReadExps.{bases}
use Rattle.cil_text.specs.ReadTypes.{read_decl}
use Rattle.cil_scan.specs.Said.{all_said}
use Rattle.cil_forms.specs.Forms.{is_end}
use Rattle.cil_reader.specs.Settings.{env_in, locals_of}
use Rattle.cil_reader.proofs.BodyLaws.{locals_same, locals_later}
use Rattle.cil_reader.proofs.FunctionLaws.{one_taken}
use Rattle.cil_reader.proofs.AddedBodies.{local_adds}
use Rattle.cil_reader.proofs.PoolLaws.{pool_same}
use Rattle.cil_reader.proofs.bodies.one_local.Goals as goal

pub with_local-requires-clause-known : goal.with_local-requires-clause-known
with_local-requires-clause-known c = locals_later c.args.r.now.graph c.read_decl.new.self.graph c.args.pool.now c.args.pool.now c.args.locals c.read_decl.ensures.on.grows (pool_same c.args.pool.now) c.requires

pub returns-in-Some-clause-gives : goal.returns-in-Some-clause-gives
returns-in-Some-clause-gives c =
    let end : is_end (all_said c.in_ok-named.rest.now) ≡ true = search rules in
    let named = ap (λ (n : Option (Bor (List ℕ))). option_map (λ (t : Bor (List ℕ)). t.now) n) c.in-Some.is in
    let e = one_taken (read_decl (bases (env_in c.args.r.now)) c.args.left (all_said c.args.words.now)) (locals_of c.args.r.now.graph.nodes c.args.locals.names) (locals_of c.read_decl.new.self.graph.nodes c.args.locals.names)
    (shape c.read_decl.new.self.graph.nodes c.in_ok-named.named.ty.0) (option_map (λ (t : Bor (List ℕ)). t.now) c.in_ok-named.named.name) c.in-Some.text.now (all_said c.in_ok-named.rest.now) c.in_ok-named.ensures.gives end named
    (locals_same c.args.r.now.graph c.read_decl.new.self.graph c.args.pool.now c.args.locals c.read_decl.ensures.on.grows c.requires) in
    rw e c.with_local.ensures.gives

pub returns-in-Some-clause-adds : goal.returns-in-Some-clause-adds
returns-in-Some-clause-adds c =
    local_adds c.args.r.now.graph c.read_decl.new.self.graph c.with_local.result (locals_of c.read_decl.new.self.graph.nodes c.args.locals.names) c.in-Some.text.now (shape c.read_decl.new.self.graph.nodes c.in_ok-named.named.ty.0)
    c.with_local.ensures.gives c.in_ok-named.ensures.adds
