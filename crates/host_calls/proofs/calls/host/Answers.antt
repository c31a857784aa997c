use Rattle.std.proofs.Common.{◌≡◌, true, rules}
use Rattle.byte_mem.specs.Store.{memory}
use Rattle.host_calls.specs.Host.{same_result, result_of, have_kinds, parameters_of, values_of}
use Rattle.host_calls.specs.Counted.{state}
use Rattle.host_calls.proofs.CountLemmas.{answers_along, host_fits, call_counted}
use Rattle.host_calls.proofs.calls.host.Goals as goal

pub returns-then-is_fit-clause-answers : goal.returns-then-is_fit-clause-answers
returns-then-is_fit-clause-answers c =
    let kind : same_result (result_of c.args.mem.now.abi c.args.name) c.args.wanted ≡ true = search rules in
    let kinds : have_kinds (parameters_of c.args.mem.now.abi c.args.name) c.args.args.now ≡ true = search rules in
    answers_along c.call.result _ _ _ _ (host_fits c.args.mem.now.abi c.args.name c.args.wanted c.args.args.now (state (memory c.args.mem.now) c.args.io.now) kind kinds) c.call.ensures.answers

pub returns-then-is_fit-clause-counted : goal.returns-then-is_fit-clause-counted
returns-then-is_fit-clause-counted c = call_counted c.call.result (state (memory c.args.mem.now) c.args.io.now) _ c.args.name (values_of c.args.args.now) c.requires c.call.ensures.answers
