use Rattle.std.proofs.Common.{[], Some, sym, ap, ◌∙◌, refl}
use Rattle.cil_reader.specs.Settings.{Setting, env_in}
use Rattle.cil_reader.specs.Aggregates.{with_fields}
use Rattle.cil_reader.proofs.AggregateLaws.{setting, nothing_env}
use Rattle.cil_reader.proofs.MemberLaws.{nothing_known}
use Rattle.cil_reader.proofs.reader.Reader.leave_incomplete.Goals as goal

pub invariant_of-self-2 : goal.invariant_of-self-2
invariant_of-self-2 c = nothing_known c.self.inside.graph c.self.inside.known c.push.new.self c.new-names.result c.self.invariant c.new-names.ensures.types c.in_ok-push.ensures.items

pub returns-clause-gives : goal.returns-clause-gives
returns-clause-gives c =
    let env = nothing_env (setting c.self.inside.graph c.self.inside.known) (setting c.self.inside.graph (record c.self.inside.known { members = c.push.new.self })) c.push.new.self c.new-names.result refl c.new-names.ensures.numbering c.in_ok-push.ensures.items refl in
    ap Some (sym (env ∙ ap (λ (s : Setting). with_fields (env_in s) []) c.self.view_is))
