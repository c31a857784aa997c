use Rattle.std.proofs.Common.{[], ◌∷◌, ◌+◌, arith, ◌++◌, ◌∙◌, append_assoc, map, refl, ap}
use Rattle.type_things.specs.Units.{plain}
use Rattle.type_things.proofs.WeaveLaws.{closes_adds}
use Rattle.type_things.proofs.web.add_function.Goals as goal

pub returns : goal.returns
returns c = closes_adds c.add_thing.result c.args.web.now _ c.add_thing.new.web c.args.head c.in_ok-first.first ((plain, c.args.base + c.args.ret.0) ∷ map (λ p. (plain, c.args.base + p.0)) c.args.params.now) c.requires (omega (arith, c.in_ok-first.ensures, c.len.ensures))
    (c.in_ok-push_types.ensures ∙ ap (λ l. l ++ map (λ p. (plain, c.args.base + p.0)) c.args.params.now) c.in_ok-push_part.ensures ∙ append_assoc c.args.web.now.parts.items ((plain, c.args.base + c.args.ret.0) ∷ []) (map (λ p. (plain, c.args.base + p.0)) c.args.params.now)) refl refl refl c.add_thing.ensures
