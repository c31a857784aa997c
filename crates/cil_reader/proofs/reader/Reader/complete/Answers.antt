use Rattle.std.proofs.Common.{length, sym, subst, ap, ◌∙◌, refl}
use Rattle.type_graph.specs.Arena.{EachType}
use Rattle.cil_reader.specs.Settings.{Setting, env_in, locals_of}
use Rattle.cil_reader.specs.Aggregates.{with_fields}
use Rattle.cil_reader.proofs.AggregateLaws.{setting, fields_env}
use Rattle.cil_reader.proofs.MemberLaws.{members_known}
use Rattle.cil_reader.proofs.reader.Reader.complete.Goals as goal

pub invariant_of-self-2 : goal.invariant_of-self-2
invariant_of-self-2 c =
    members_known c.self.inside.graph c.complete.new.self c.self.inside.known c.push.new.self c.args.fields c.in_ok-complete.ensures.grows c.self.invariant
    (subst (λ (s : Setting). EachType (length s.graph.nodes) c.args.fields.types.items) (sym c.self.view_is) c.requires.fields) c.in_ok-push.ensures.items

pub returns-clause-env : goal.returns-clause-env
returns-clause-env c =
    fields_env (setting c.self.inside.graph c.self.inside.known) (setting c.complete.new.self (record c.self.inside.known { members = c.push.new.self })) c.push.new.self c.args.fields c.in_ok-complete.ensures.grows c.self.invariant
    (subst (λ (s : Setting). EachType (length s.graph.nodes) c.args.fields.types.items) (sym c.self.view_is) c.requires.fields) c.in_ok-push.ensures.items refl
    ∙ ap (λ (s : Setting). with_fields (env_in s) (locals_of s.graph.nodes c.args.fields)) c.self.view_is
