use Rattle.std.proofs.Common.{◌≡◌, List, Err, sym, subst, rules}
use Rattle.cil_text.specs.TypesOf.{AddsParts}
use Rattle.cil_scan.specs.Said.{all_lines}
use Rattle.cil_reader.specs.Settings.{env_in}
use Rattle.cil_reader.specs.declared.globals.Declaration.{Declaration}
use Rattle.cil_reader.specs.Globals.{declarations_of, named_apart, types_declared}
use Rattle.cil_reader.specs.Defined.{globals_read}
use Rattle.cil_reader.proofs.FunctionLaws.{fails_by}
use Rattle.cil_reader.proofs.ProgramLaws.{globals_alike}
use Rattle.cil_reader.proofs.NeededLaws.{globals_added}
use Rattle.cil_reader.proofs.OutsideLaws.{extends_over}
use Rattle.cil_reader.proofs.program.read_globals.Goals as goal

pub returns-in_err-names-clause-gives : goal.returns-in_err-names-clause-gives
returns-in_err-names-clause-gives c =
    let s = c.read_declarations.new.r in
    let ds = declarations_of s.graph.nodes c.in_ok-declarations.declarations.items in
    let stops = fails_by c.in_err-names.field-0.0 (named_apart ds) (globals_read (env_in c.args.r.now) c.args.left (all_lines c.args.lines.now))
    (λ none. globals_alike (env_in c.args.r.now) c.args.left (all_lines c.args.lines.now) (all_lines c.in_ok-declarations.rest.now) ds c.in_ok-declarations.ensures.gives none)
    (rw (sym c.deref.ensures.value) c.in_err-names.ensures.gives) in
    let err : c.from_residual-in_err-names.result ≡ Err c.in_err-names.field-0.0 = search rules in
    rw err stops

pub returns-clause-adds : goal.returns-clause-adds
returns-clause-adds c =
    let f = c.args.r.now.graph in
    let g = c.read_declarations.new.r.graph in
    let first : AddsParts f g (types_declared g.nodes c.deref-2.result.now) = subst (λ (ds : List Declaration). AddsParts f g (types_declared g.nodes ds)) (sym c.deref-2.ensures.value) c.in_ok-declarations.ensures.adds in
    globals_added f g c.set_globals.new.self.graph c.define_globals.new.r.graph c.define_globals.new.pool (env_in c.set_globals.new.self) c.args.left c.deref-2.result.now (all_lines c.in_ok-declarations.rest.now) c.define_globals.result c.set_globals.ensures.graph
    c.define_globals.ensures.on.grows first c.define_globals.ensures.gives c.define_globals.ensures.adds

pub returns-clause-graph : goal.returns-clause-graph
returns-clause-graph c =
    extends_over c.args.r.now c.read_declarations.new.r c.set_globals.new.self c.define_globals.new.r c.args.pool.now c.define_globals.new.pool c.read_declarations.ensures.on c.set_globals.ensures.graph c.define_globals.ensures.on

pub returns-clause-pool : goal.returns-clause-pool
returns-clause-pool c = c.define_globals.ensures.on.pool
