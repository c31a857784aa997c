use Rattle.std.proofs.Common.{◌≡◌, ◌≢◌, List, Some, Err, length, ap, ◌∙◌, sym, subst, rules}
use Rattle.std.specs.Option.{option_map}
use Rattle.cil_tree.specs.declared.globals.GlobalDecl.{GlobalDecl}
use Rattle.cil_text.specs.ReadGlobals.{read_bodies}
use Rattle.cil_text.specs.TypesOf.{AddsParts, defined_types}
use Rattle.cil_scan.specs.Said.{all_lines}
use Rattle.cil_reader.specs.Settings.{env_in, outside}
use Rattle.cil_reader.specs.Globals.{declarations_of, globals_of}
use Rattle.cil_reader.specs.Bodies.{bodied}
use Rattle.cil_reader.specs.Defined.{defined_read}
use Rattle.cil_reader.proofs.FunctionLaws.{declared_all, written_back, fails_by}
use Rattle.cil_reader.proofs.ProgramLaws.{defined_whole, defined_more, defined_bodies_fail}
use Rattle.cil_reader.proofs.NeededLaws.{adds_from}
use Rattle.cil_reader.proofs.OutsideLaws.{outside_from, outside_after}
use Rattle.cil_reader.proofs.program.define_globals.Goals as goal

pub returns-in_err-rest-clause-gives : goal.returns-in_err-rest-clause-gives
returns-in_err-rest-clause-gives c =
    let r = c.args.r.now in
    let s = c.read_objects.new.r in
    let ds = declarations_of r.graph.nodes c.args.declarations.now in
    let xs = globals_of s.graph.nodes c.read_objects.new.pool c.in_ok-globals.globals.items in
    let bodies = option_map (bodied 0 xs) (read_bodies (outside (env_in s)) c.args.left (declarations_of s.graph.nodes c.args.declarations.now) (all_lines c.in_ok-globals.rest.now)) in
    let stops = fails_by c.in_err-rest.field-0.0 bodies (defined_read (env_in r) c.args.left ds (all_lines c.args.lines.now))
    (λ none. defined_bodies_fail (env_in r) (env_in s) c.args.left ds (declarations_of s.graph.nodes c.args.declarations.now) (all_lines c.args.lines.now) (all_lines c.in_ok-globals.rest.now) xs c.read_objects.ensures.on.env
    (declared_all r.graph s.graph c.args.declarations.now c.read_objects.ensures.on.grows c.requires) c.in_ok-globals.ensures.gives none)
    (rw (sym c.deref_mut.ensures.value) c.in_err-rest.ensures.gives) in
    let err : c.from_residual-in_err-rest.result ≡ Err c.in_err-rest.field-0.0 = search rules in
    rw err stops

pub returns-then-not-is_empty-clause-gives : goal.returns-then-not-is_empty-clause-gives
returns-then-not-is_empty-clause-gives c =
    let r = c.args.r.now in
    let s = c.read_objects.new.r in
    let some : length c.in_ok-rest.rest.now ≢ 0 = search rules in
    let bodies : option_map (bodied 0 (globals_of s.graph.nodes c.read_objects.new.pool c.in_ok-globals.globals.items)) (read_bodies (outside (env_in s)) c.args.left (declarations_of s.graph.nodes c.args.declarations.now) (all_lines c.in_ok-globals.rest.now))
    ≡ Some (globals_of c.read_bodies.new.r.graph.nodes c.read_bodies.new.pool c.read_bodies.new.globals, all_lines c.in_ok-rest.rest.now) = search rules in
    defined_more (env_in r) (env_in s) c.args.left (declarations_of r.graph.nodes c.args.declarations.now) (declarations_of s.graph.nodes c.args.declarations.now) (all_lines c.args.lines.now) (all_lines c.in_ok-globals.rest.now) c.in_ok-rest.rest.now
    (globals_of s.graph.nodes c.read_objects.new.pool c.in_ok-globals.globals.items) (globals_of c.read_bodies.new.r.graph.nodes c.read_bodies.new.pool c.read_bodies.new.globals) c.read_objects.ensures.on.env
    (declared_all r.graph s.graph c.args.declarations.now c.read_objects.ensures.on.grows c.requires) c.in_ok-globals.ensures.gives bodies some

pub returns-clause-gives : goal.returns-clause-gives
returns-clause-gives c =
    let r = c.args.r.now in
    let s = c.read_objects.new.r in
    let none : length c.in_ok-rest.rest.now ≡ 0 = search rules in
    let size : length c.read_bodies.new.globals ≡ length c.in_ok-globals.globals.items = search rules in
    let len : c.in_ok-globals.globals.len ≡ length c.in_ok-globals.globals.items = search rules in
    let bodies : option_map (bodied 0 (globals_of s.graph.nodes c.read_objects.new.pool c.in_ok-globals.globals.items)) (read_bodies (outside (env_in s)) c.args.left (declarations_of s.graph.nodes c.args.declarations.now) (all_lines c.in_ok-globals.rest.now))
    ≡ Some (globals_of c.read_bodies.new.r.graph.nodes c.read_bodies.new.pool c.read_bodies.new.globals, all_lines c.in_ok-rest.rest.now) = search rules in
    defined_whole (env_in r) (env_in s) c.args.left (declarations_of r.graph.nodes c.args.declarations.now) (declarations_of s.graph.nodes c.args.declarations.now) (all_lines c.args.lines.now) (all_lines c.in_ok-globals.rest.now) c.in_ok-rest.rest.now
    (globals_of s.graph.nodes c.read_objects.new.pool c.in_ok-globals.globals.items) (globals_of c.read_bodies.new.r.graph.nodes c.read_bodies.new.pool c.read_bodies.new.globals) c.read_objects.ensures.on.env
    (declared_all r.graph s.graph c.args.declarations.now c.read_objects.ensures.on.grows c.requires) c.in_ok-globals.ensures.gives bodies none
    ∙ ap (λ (xs : List GlobalDecl). Some (globals_of c.read_bodies.new.r.graph.nodes c.read_bodies.new.pool xs)) (sym (written_back c.in_ok-globals.globals.len c.read_bodies.new.globals c.in_ok-globals.globals.items size len))

pub returns-clause-adds : goal.returns-clause-adds
returns-clause-adds c =
    let r = c.args.r.now in
    let s = c.read_objects.new.r in
    let h = c.read_bodies.new.r.graph in
    let p = c.read_bodies.new.pool in
    let size : length c.read_bodies.new.globals ≡ length c.in_ok-globals.globals.items = search rules in
    let len : c.in_ok-globals.globals.len ≡ length c.in_ok-globals.globals.items = search rules in
    subst (λ (xs : List GlobalDecl). AddsParts r.graph h (defined_types (globals_of h.nodes p xs))) (sym (written_back c.in_ok-globals.globals.len c.read_bodies.new.globals c.in_ok-globals.globals.items size len))
    (adds_from r.graph s.graph h (defined_types (globals_of h.nodes p c.read_bodies.new.globals)) c.in_ok-globals.ensures.same c.in_ok-rest.ensures.adds)

pub returns-in_err-globals-clause-on : goal.returns-in_err-globals-clause-on
returns-in_err-globals-clause-on c = outside_from c.args.r.now c.read_objects.new.r c.args.pool.now c.read_objects.new.pool c.read_objects.ensures.on c.read_objects.ensures.pool

pub returns-in_err-rest-clause-on : goal.returns-in_err-rest-clause-on
returns-in_err-rest-clause-on c = outside_after c.args.r.now c.read_objects.new.r c.read_bodies.new.r c.args.pool.now c.read_objects.new.pool c.read_bodies.new.pool c.read_objects.ensures.on c.read_objects.ensures.pool c.read_bodies.ensures.on

pub returns-then-not-is_empty-clause-on : goal.returns-then-not-is_empty-clause-on
returns-then-not-is_empty-clause-on c = outside_after c.args.r.now c.read_objects.new.r c.read_bodies.new.r c.args.pool.now c.read_objects.new.pool c.read_bodies.new.pool c.read_objects.ensures.on c.read_objects.ensures.pool c.read_bodies.ensures.on

pub returns-clause-on : goal.returns-clause-on
returns-clause-on c = outside_after c.args.r.now c.read_objects.new.r c.read_bodies.new.r c.args.pool.now c.read_objects.new.pool c.read_bodies.new.pool c.read_objects.ensures.on c.read_objects.ensures.pool c.read_bodies.ensures.on
