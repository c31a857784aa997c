-- Device: suffixed names that are new at file scope, as they are remembered.
use Rattle.std.specs.Prelude.{◌≡◌, ℕ, List, [], ◌∷◌}
use Rattle.cil_base.specs.declared.numbers.NameId.{NameId}
use Rattle.cil_tree.specs.declared.globals.Body.{Body as SeenBody}
use Rattle.static_rename.specs.declared.locals.Start.{Start}
use Rattle.static_rename.specs.declared.locals.FileNames.{FileNames}
use Rattle.fresh_names.specs.Naming.{AreNamed}
use Rattle.fresh_names.specs.Giving.{IsLeastFrom}
use Rattle.static_rename.specs.Within.{local_wishes, named_locals, named_params}

-- what is remembered is true
abbrev pub AreFree : List NameId → List (List ℕ) → List (Start × (NameId × ℕ)) → Type 0
AreFree file pool [] = Unit {0}
AreFree file pool (e ∷ es) = IsLeastFrom file pool e.0.base e.0.from e.1.0 e.1.1 × AreFree file pool es

abbrev pub IsTable : FileNames → List (List ℕ) → Type 0
IsTable f pool = AreFree f.names.taken.keys pool f.free.entries

-- the locals and parameters of a body have their names
pub record AreNamedLocals (file : List NameId) (pool : List (List ℕ)) (base : NameId) (old new : SeenBody) : Type 0 where
  pub names : List NameId
  pub given : AreNamed file pool (local_wishes base old.locals.items) names
  pub locals_are : new.locals.items ≡ named_locals old.locals.items names
  pub params_are : new.params.items ≡ named_params old.params.items names
  pub labels_stay : new.labels ≡ old.labels
  pub stmts_stay : new.stmts ≡ old.stmts
