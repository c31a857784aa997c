use Rattle.std.proofs.Common.{Option, Some, None, IfSome}
use Rattle.c_cursor.specs.Lexemes.{ahead}
use Rattle.c_cursor.specs.Readers.{head}
use Rattle.c_exprs.specs.Classes.{start_of}
use Rattle.c_exprs.proofs.NextLemmas.{start_found, nothing_next}
use Rattle.c_exprs.proofs.texts.next_start.Goals as goal

held : {A : Type 0} {P : Type 0} (o : Option A) → P → IfSome o (λ _. P)
held None p = tt
held (Some a) p = p

pub returns-in-Some-clause-found : goal.returns-in-Some-clause-found
returns-in-Some-clause-found g c = start_found c.args.height c.args.level c.args.s.now c.in-Some.kind (head (ahead c.args.c.now).rest) c.start_of.result c.in-Some.ensures.kind c.start_of.ensures.is

pub returns-in-Some-clause-room : goal.returns-in-Some-clause-room
returns-in-Some-clause-room g c = held c.start_of.result c.in-Some.ensures.room

pub returns-in-Some-clause-fits : goal.returns-in-Some-clause-fits
returns-in-Some-clause-fits g c = held c.start_of.result c.in-Some.ensures.fits

pub returns-in-None-clause-found : goal.returns-in-None-clause-found
returns-in-None-clause-found g c = nothing_next (start_of c.args.height c.args.level c.args.s.now) (head (ahead c.args.c.now).rest) c.in-None.ensures.kind
