-- Device: loops from their parts.
use Rattle.std.proofs.Common.{◌≡◌, List, [], ◌∷◌, ◌++◌, Option}
use Rattle.cil_base.specs.declared.numbers.LabelId.{LabelId}
use Rattle.cil_tree.specs.declared.expressions.Exp.{Exp}
use Rattle.cil_tree.specs.declared.statements.Stmt.{Stmt}
use Rattle.cil_nodes.specs.Built.{IsLoop}
use Rattle.lower_parts.specs.Code.{Extends}
use Rattle.stmt_lower.specs.Loops.{Leaves, IsTest, Loops, EndsBody, EndsWhile, EndsDo, EndsFor}

pub tests : (test : Exp) (old code new : List Stmt) → Extends old code → Leaves test code new → IsTest old new
tests test old code new extends leaves = record { code = code; extends = extends; test = test; leaves = leaves }

pub loops_in : (body old new : List Stmt) (s : Stmt) → IsLoop body s → new ≡ old ++ s ∷ [] → Loops body old new
loops_in body old new s made is = record { loop = s; made = made; is = is }

pub while_ends : (again : Option LabelId) (body code old new : List Stmt) → EndsBody again body code → Loops code old new → EndsWhile again body old new
while_ends again body code old new ended loops = record { code = code; ended = ended; loops = loops }

pub do_ends : (again : Option LabelId) (body labelled code old new : List Stmt) → EndsBody again body labelled → IsTest labelled code → Loops code old new → EndsDo again body old new
do_ends again body labelled code old new ended tested loops = record { labelled = labelled; ended = ended; code = code; tested = tested; loops = loops }

pub for_ends : (again : Option LabelId) (body labelled code old new : List Stmt) → EndsBody again body labelled → Extends labelled code → Loops code old new → EndsFor again body old new
for_ends again body labelled code old new ended stepped loops = record { labelled = labelled; ended = ended; code = code; stepped = stepped; loops = loops }
