-- Definition: the function that the run of linked programs begins with (C11 5.1.2.2.1p1).
use Rattle.std.specs.Prelude.{◌≡◌, ℕ, Bool, true, false, List, map, Option, Some, None, slice_get}
use Rattle.execution.specs.Calls.{Start, WithoutWords, WithWords, Function, Code}
use Rattle.execution.specs.Linking.{main_entity}
use Rattle.execution.specs.Runs.{main_in}
use Rattle.cil_tree.specs.Tree.{Program}
use Rattle.cil_semantics.specs.Runs.{linkables}
use Rattle.cil_link.specs.declared.mains.Main.{Main}
use Rattle.cil_link.specs.Entities.{linked_in}

-- how a run begins with a function that takes the words, and with one that takes nothing
abbrev pub start_in : Bool → Start
start_in true = WithWords
start_in false = WithoutWords

-- the entity is that of main, and means a function with the type of such a main
pub record IsMain (programs : List Program) (m : Main) : Type 0 where
  pub entity : main_entity (map linkables programs) ≡ m.entity
  pub function : Function
  pub means : slice_get (linked_in programs) m.entity ≡ Some (Some (Code function))
  pub start : function.start ≡ start_in m.words

-- the run of programs begins with that function, or with none
abbrev pub BeginsWith : List Program → Option Main → Type 0
BeginsWith programs None = (words : List (List ℕ)) → main_in (linked_in programs) (main_entity (map linkables programs)) words ≡ None
BeginsWith programs (Some m) = IsMain programs m
