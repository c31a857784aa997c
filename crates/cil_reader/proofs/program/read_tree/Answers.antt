use Rattle.std.proofs.Common.{◌≡◌, [], Some, Err, sym, ap, ◌∙◌, rules}
use Rattle.std.specs.List.{list_all}
use Rattle.cil_base.specs.declared.kinds.Abi.{Abi}
use Rattle.type_graph.specs.Arena.{Graph}
use Rattle.cil_tree.specs.WellFormedTypes.{members_are_unqualified}
use Rattle.cil_text.specs.ReadAggregates.{read_aggregates}
use Rattle.cil_text.specs.ReadGlobals.{read_lines}
use Rattle.cil_text.specs.ReadText.{words_in}
use Rattle.cil_scan.specs.Said.{all_lines}
use Rattle.cil_reader.specs.Settings.{env_in}
use Rattle.cil_reader.specs.Aggregates.{aggregates_in}
use Rattle.cil_reader.specs.Globals.{globals_of}
use Rattle.cil_reader.specs.Defined.{globals_read}
use Rattle.cil_reader.proofs.FunctionLaws.{fails_by}
use Rattle.cil_reader.proofs.SettingsLaws.{setting_model}
use Rattle.cil_reader.proofs.ProgramLaws.{text_gives, text_globals_fail, text_fails, aggregates_stay}
use Rattle.cil_reader.proofs.NeededLaws.{tree_needed, members_stay}
use Rattle.cil_reader.proofs.program.read_tree.Goals as goal

pub returns-in_err-rest-clause-gives : goal.returns-in_err-rest-clause-gives
returns-in_err-rest-clause-gives c =
    let f = c.new-r.result.graph in
    let words = words_in c.args.bytes.now in
    let lines = ap all_lines c.deref.ensures.value ∙ c.in_ok-lines.ensures in
    let own : f.abi ≡ c.args.abi = search rules in
    let stops = fails_by c.in_err-rest.field-0.0 (read_aggregates f.abi 4294967295 (all_lines c.deref.result.now)) (read_lines c.args.abi 4294967295 words)
    (λ none. ap (λ (abi : Abi). read_lines abi 4294967295 words) (sym own) ∙ text_fails f.abi 4294967295 words (all_lines c.deref.result.now) lines none) c.in_err-rest.ensures.gives in
    let err : c.from_residual-in_err-rest.result ≡ Err c.in_err-rest.field-0.0 = search rules in
    rw err stops

pub returns-in_err-globals-clause-gives : goal.returns-in_err-globals-clause-gives
returns-in_err-globals-clause-gives c =
    let f = c.new-r.result.graph in
    let r = c.read_aggregates.new.r in
    let words = words_in c.args.bytes.now in
    let rest = all_lines c.in_ok-rest.rest.now in
    let lines = ap all_lines c.deref.ensures.value ∙ c.in_ok-lines.ensures in
    let own : f.abi ≡ c.args.abi = search rules in
    let model = setting_model r ∙ c.in_ok-rest.ensures.model in
    let stops = fails_by c.in_err-globals.field-0.0 (globals_read (env_in r) 4294967295 rest) (read_lines c.args.abi 4294967295 words)
    (λ none. ap (λ (abi : Abi). read_lines abi 4294967295 words) (sym own)
    ∙ text_globals_fail (env_in r) f.abi 4294967295 words (all_lines c.deref.result.now) rest (aggregates_in r.graph c.read_aggregates.new.pool) lines c.in_ok-rest.ensures.gives model c.in_ok-rest.ensures.tags c.in_ok-rest.ensures.members none)
    c.in_err-globals.ensures.gives in
    let err : c.from_residual-in_err-globals.result ≡ Err c.in_err-globals.field-0.0 = search rules in
    rw err stops

pub returns-clause-gives : goal.returns-clause-gives
returns-clause-gives c =
    let f = c.new-r.result.graph in
    let r = c.read_aggregates.new.r in
    let s = c.read_globals.new.r in
    let p = c.read_aggregates.new.pool in
    let q = c.read_globals.new.pool in
    let xs = c.in_ok-globals.globals.items in
    let words = words_in c.args.bytes.now in
    let graph : c.into_graph-graph.result ≡ s.graph = search rules in
    let lines = ap all_lines c.deref.ensures.value ∙ c.in_ok-lines.ensures in
    let own : f.abi ≡ c.args.abi = search rules in
    let model = setting_model r ∙ c.in_ok-rest.ensures.model in
    let told = text_gives (env_in r) f.abi 4294967295 words (all_lines c.deref.result.now) (all_lines c.in_ok-rest.rest.now) (aggregates_in r.graph p) (aggregates_in s.graph q) (globals_of s.graph.nodes q xs) lines
    c.in_ok-rest.ensures.gives model c.in_ok-rest.ensures.tags c.in_ok-rest.ensures.members c.in_ok-globals.ensures.gives (aggregates_stay r.graph s.graph p q c.in_ok-rest.ensures.known c.read_globals.ensures.graph.grows c.read_globals.ensures.graph.keeps c.read_globals.ensures.pool) in
    ap (λ (abi : Abi). read_lines abi 4294967295 words) (sym own) ∙ told ∙ ap (λ (g : Graph). Some (aggregates_in g q, globals_of g.nodes q xs)) (sym graph)

pub returns-clause-model : goal.returns-clause-model
returns-clause-model c =
    let s = c.read_globals.new.r in
    let graph : c.into_graph-graph.result ≡ s.graph = search rules in
    let own : c.new-r.result.graph.abi ≡ c.args.abi = search rules in
    ap (λ (g : Graph). g.abi) graph ∙ c.read_globals.ensures.graph.grows.abi ∙ c.in_ok-rest.ensures.model ∙ own

pub returns-clause-needed : goal.returns-clause-needed
returns-clause-needed c =
    let f = c.new-r.result.graph in
    let r = c.read_aggregates.new.r in
    let s = c.read_globals.new.r in
    let p = c.read_aggregates.new.pool in
    let q = c.read_globals.new.pool in
    let graph : c.into_graph-graph.result ≡ s.graph = search rules in
    let none : f.nodes ≡ [] = search rules in
    tree_needed f r.graph s.graph p q (record { graph = c.into_graph-graph.result; globals = c.in_ok-globals.globals }) none c.in_ok-rest.ensures.adds c.read_globals.ensures.graph.grows
    (aggregates_stay r.graph s.graph p q c.in_ok-rest.ensures.known c.read_globals.ensures.graph.grows c.read_globals.ensures.graph.keeps c.read_globals.ensures.pool) c.in_ok-globals.ensures.adds graph

pub returns-clause-unqualified : goal.returns-clause-unqualified
returns-clause-unqualified c =
    let s = c.read_globals.new.r in
    let graph : c.into_graph-graph.result ≡ s.graph = search rules in
    ap (λ (g : Graph). list_all members_are_unqualified g.aggs) graph ∙ members_stay c.read_aggregates.new.r.graph s.graph c.read_globals.ensures.graph.keeps c.in_ok-rest.ensures.unqualified
