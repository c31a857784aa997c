-- Definition: a body that has its parameters, and no other local, no label and no statement (C11 6.9.1). The parameters are the first locals, under their names.
use Rattle.std.specs.Prelude.{◌≡◌, List, [], ◌∷◌}
use Rattle.cil_base.specs.declared.numbers.NameId.{NameId}
use Rattle.cil_tree.specs.declared.globals.Body.{Body as SeenBody}
use Rattle.cil_tree.specs.declared.globals.Local.{Local as SeenLocal}

abbrev pub names_of : List SeenLocal → List NameId
names_of [] = []
names_of (l ∷ ls) = l.name ∷ names_of ls

pub record IsNewBody (params : List SeenLocal) (b : SeenBody) : Type 0 where
  pub names : b.params.items ≡ names_of params
  pub locals : b.locals.items ≡ params
  pub labels : b.labels.items ≡ []
  pub stmts : b.stmts.items ≡ []
