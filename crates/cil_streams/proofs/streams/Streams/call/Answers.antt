use Rattle.std.proofs.Common.{ap, ◌∙◌}
use Rattle.host_calls.specs.declared.calls.Io.{Io}
use Rattle.byte_mem.specs.Store.{memory}
use Rattle.cil_streams.proofs.Arms.{value_ready, value_back, input_back, value_arm, fault_arm, exit_same, exit_arm, undefined_same, undefined_arm, memory_arm, input_same, input_arm, input_asks, still_holds}
use Rattle.cil_streams.proofs.streams.Streams.call.Goals.{in-Ok, in-Err}
use Rattle.cil_streams.proofs.streams.Streams.call.Goals as goal

pub invariant_of-self : goal.invariant_of-self
invariant_of-self g c = (
  ap (λ (i : Io). i.ready) c.write_many.ensures.io
      ∙ value_ready c.args.mem.now.abi c.args.name c.args.wanted c.args.args.now (memory c.args.mem.now) (memory c.host.new.mem) c.self.inside.io c.host.new.io c.self.inside.ahead c.self.invariant.0 c.in-Value.v c.in-Value.ensures.answers,
  c.write_many.ensures.few,
)

pub invariant_of-self-in-Exit : goal.invariant_of-self-in-Exit
invariant_of-self-in-Exit g c =
    still_holds (memory c.args.mem.now) (memory c.host.new.mem) c.self.inside.io c.host.new.io c.self.inside.ahead 4096
    (exit_same c.args.mem.now.abi c.args.name c.args.wanted c.args.args.now (memory c.args.mem.now) (memory c.host.new.mem) c.self.inside.io c.host.new.io c.self.inside.ahead c.self.invariant.0 c.in-Exit.status c.in-Exit.ensures.answers) c.self.invariant.1

pub invariant_of-self-in-Undefined : goal.invariant_of-self-in-Undefined
invariant_of-self-in-Undefined g c =
    still_holds (memory c.args.mem.now) (memory c.host.new.mem) c.self.inside.io c.host.new.io c.self.inside.ahead 4096
    (undefined_same c.args.mem.now.abi c.args.name c.args.wanted c.args.args.now (memory c.args.mem.now) (memory c.host.new.mem) c.self.inside.io c.host.new.io c.self.inside.ahead c.self.invariant.0 c.in-Undefined.ensures.answers) c.self.invariant.1

pub invariant_of-self-in-NeedsInput : goal.invariant_of-self-in-NeedsInput
invariant_of-self-in-NeedsInput g c =
    still_holds (memory c.args.mem.now) (memory c.host.new.mem) c.self.inside.io c.host.new.io c.self.inside.ahead 4096
    (input_same c.args.mem.now.abi c.args.name c.args.wanted c.args.args.now (memory c.args.mem.now) (memory c.host.new.mem) c.self.inside.io c.host.new.io c.self.inside.ahead c.self.invariant.0 c.in-NeedsInput.ensures.answers) c.self.invariant.1

pub returns-after-write_many-clause-answers : goal.returns-after-write_many-clause-answers
returns-after-write_many-clause-answers g c =
    rw (← c.self.view_is) (elim c.match-write_many.branch [
      | in-Ok w ↦ rw w.result-is (value_arm c.args.mem.now.abi c.args.name c.args.wanted c.args.args.now (memory c.args.mem.now) (memory c.host.new.mem) c.self.inside.io c.host.new.io c.self.inside.ahead c.self.invariant.0 c.in-Value.v _ c.write_many.new.io _ _ _ c.in-Value.ensures.answers c.write_many.ensures.io w.in-Ok.ensures.spills)
      | in-Err w ↦ rw w.result-is (fault_arm c.args.mem.now.abi c.args.name c.args.wanted c.args.args.now (memory c.args.mem.now) (memory c.host.new.mem) c.self.inside.io c.host.new.io c.self.inside.ahead c.self.invariant.0 c.in-Value.v _ c.write_many.new.io _ _ _ c.in-Value.ensures.answers c.write_many.ensures.io w.in-Err.ensures.spills)
    ])

pub returns-in-Exit-clause-answers : goal.returns-in-Exit-clause-answers
returns-in-Exit-clause-answers g c =
    rw (← c.self.view_is) (exit_arm c.args.mem.now.abi c.args.name c.args.wanted c.args.args.now (memory c.args.mem.now) (memory c.host.new.mem) c.self.inside.io c.host.new.io c.self.inside.ahead c.self.invariant.0 c.in-Exit.status _ _ c.in-Exit.ensures.answers)

pub returns-in-Undefined-clause-answers : goal.returns-in-Undefined-clause-answers
returns-in-Undefined-clause-answers g c =
    rw (← c.self.view_is) (undefined_arm c.args.mem.now.abi c.args.name c.args.wanted c.args.args.now (memory c.args.mem.now) (memory c.host.new.mem) c.self.inside.io c.host.new.io c.self.inside.ahead c.self.invariant.0 _ _ c.in-Undefined.ensures.answers)

pub returns-in-NeedsInput-clause-answers : goal.returns-in-NeedsInput-clause-answers
returns-in-NeedsInput-clause-answers g c =
    rw (← c.self.view_is) (input_arm c.args.mem.now.abi c.args.name c.args.wanted c.args.args.now (memory c.args.mem.now) (memory c.host.new.mem) c.self.inside.io c.host.new.io c.self.inside.ahead c.self.invariant.0 c.getchar.result _ _ _ _ _ c.in-NeedsInput.ensures.answers c.getchar.ensures.fetches)

pub returns-in-NeedsInput-clause-asked : goal.returns-in-NeedsInput-clause-asked
returns-in-NeedsInput-clause-asked g c =
    rw (← c.self.view_is) (input_asks c.args.mem.now.abi c.args.name c.args.wanted c.args.args.now (memory c.args.mem.now) (memory c.host.new.mem) c.self.inside.io c.host.new.io c.self.inside.ahead c.self.invariant.0 _ _ c.in-NeedsInput.ensures.answers c.getchar.ensures.asked)

pub returns-in-Memory-clause-answers : goal.returns-in-Memory-clause-answers
returns-in-Memory-clause-answers g c =
    rw (← c.self.view_is) (memory_arm c.args.mem.now.abi c.args.name c.args.wanted c.args.args.now (memory c.args.mem.now) (memory c.host.new.mem) c.self.inside.io c.host.new.io c.self.inside.ahead c.self.invariant.0 _ _ c.in-Memory.ensures.answers)

pub returns-after-write_many-clause-held_back : goal.returns-after-write_many-clause-held_back
returns-after-write_many-clause-held_back g c =
    rw (← c.self.view_is) (value_back c.args.mem.now.abi c.args.name c.args.wanted c.args.args.now (memory c.args.mem.now) (memory c.host.new.mem) c.self.inside.io c.host.new.io c.self.inside.ahead c.self.invariant.0 _ _ c.in-Value.v c.in-Value.ensures.answers c.write_many.ensures.idle)

pub returns-in-NeedsInput-clause-held_back : goal.returns-in-NeedsInput-clause-held_back
returns-in-NeedsInput-clause-held_back g c =
    rw (← c.self.view_is) (input_back c.args.mem.now.abi c.args.name c.args.wanted c.args.args.now (memory c.args.mem.now) (memory c.host.new.mem) c.self.inside.io c.host.new.io c.self.inside.ahead c.self.invariant.0 _ _ c.in-NeedsInput.ensures.answers c.getchar.ensures.held_back)
