-- Device: what the code answers is what the reading gives; want of memory says nothing of it.
use Rattle.std.specs.Prelude.{◌≡◌, Option, Some, None, Result, Ok, Err}
use Rattle.cil_declarators.specs.declared.stop.Stop.{Stop}
use Rattle.cil_declarators.specs.declared.stop.Stop.TheVariants.{NotCil, WantOfMemory}

abbrev pub Fails : {B : Type 0} → Stop → Option B → Type 0
Fails NotCil o = o ≡ None
Fails WantOfMemory o = Unit {0}

abbrev pub Gives : {A B : Type 0} → (A → B) → Result A Stop → Option B → Type 0
Gives seen (Ok x) o = o ≡ Some (seen x)
Gives seen (Err e) o = Fails e o
