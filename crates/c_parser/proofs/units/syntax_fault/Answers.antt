use Rattle.c_parser.proofs.UnitWhole.{start_within, stop_within}
use Rattle.c_parser.proofs.units.syntax_fault.Goals as goal

pub place-at-requires : goal.place-at-requires
place-at-requires g c = start_within (g.L.TokenList.lexed c.args.tokens.now) c.args.start c.args.stop c.requires

pub place-other-requires : goal.place-other-requires
place-other-requires g c = stop_within (g.L.TokenList.lexed c.args.tokens.now) c.args.start c.args.stop c.requires
