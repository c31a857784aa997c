use Rattle.std.proofs.Common.{map, subst, ◌∙◌}
use Rattle.std.specs.String.{string_bytes}
use Rattle.outside.specs.Moves.{Began, Wrote}
use Rattle.cil_commands.proofs.Several.{units_sent, units_written}
use Rattle.cil_commands.proofs.Units.{keeps_first}
use Rattle.cil_commands.proofs.merge.merge_sources.Goals as goal

pub returns-in-Ok-clause-pool : goal.returns-in-Ok-clause-pool
returns-in-Ok-clause-pool g c = λ known. keeps_first c.args.names.now c.units_text.new.names c.units_text.ensures.stays

pub returns-in-Err-Refused-clause-pool : goal.returns-in-Err-Refused-clause-pool
returns-in-Err-Refused-clause-pool g c = λ known. keeps_first c.args.names.now c.units_text.new.names c.units_text.ensures.stays

pub returns-in-Ok-clause-links : goal.returns-in-Ok-clause-links
returns-in-Ok-clause-links g c =
    units_sent c.args.common c.args.sources.now.units.items (map string_bytes c.args.asked.now) c.units_text.new.names c.in-Ok.text c.send.result (g.O.Sink.taken c.args.out.now) (g.O.Sink.taken c.send.new.out) c.in-Ok.ensures.text
    (λ done. subst (Wrote (g.O.Sink.taken c.args.out.now) (g.O.Sink.taken c.send.new.out)) c.as_slice.ensures (c.send.ensures.done done)) (subst (Began (g.O.Sink.taken c.args.out.now) (g.O.Sink.taken c.send.new.out)) c.as_slice.ensures c.send.ensures.began) c.send.ensures.two

pub returns-in-Ok-clause-written : goal.returns-in-Ok-clause-written
returns-in-Ok-clause-written g c =
    let w = units_written c.args.common c.args.sources.now.units.items (map string_bytes c.args.asked.now) c.units_text.new.names c.in-Ok.text c.in-Ok.ensures.text in
    record {
      done = λ done. (w.0, w.1, subst (Wrote (g.O.Sink.taken c.args.out.now) (g.O.Sink.taken c.send.new.out)) (c.as_slice.ensures ∙ w.2) (c.send.ensures.done done), tt);
      part = λ failed. (w.0, w.1, subst (Began (g.O.Sink.taken c.args.out.now) (g.O.Sink.taken c.send.new.out)) (c.as_slice.ensures ∙ w.2) c.send.ensures.began, tt);
    }
