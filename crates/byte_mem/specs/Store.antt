-- Definition: the memory that a store stands for, and what its calls leave.
use Rattle.std.specs.Prelude.{◌≡◌, Option, Some, None, Result, Ok, Err}
use Rattle.byte_mem.specs.declared.pointers.ObjName.TheVariants.{Entity, Local, Literal, Heap, Argument}
use Rattle.byte_mem.specs.declared.stores.Store.{Store}
use Rattle.byte_mem.specs.Memory.{Memory}
use Rattle.byte_mem.specs.Layers.{paged, local}

-- what is live under each name
abbrev pub memory : Store → Memory
memory s (Entity e) = paged s.entities e.0
memory s (Local act l) = local s.locals act l.0
memory s (Literal i) = paged s.literals i
memory s (Heap i) = paged s.heap i
memory s (Argument i) = paged s.arguments i

-- None: the change is undefined, and nothing has changed
abbrev pub Stored : Option (Unit {0}) → Store → Store → Option Memory → Type 0
Stored None old new m = (m ≡ None) × (new ≡ old)
Stored (Some u) old new m = (m ≡ Some (memory new)) × (new.abi ≡ old.abi)

-- the store has that memory now
abbrev pub Becomes : Store → Store → Memory → Type 0
Becomes old new m = (memory new ≡ m) × (new.abi ≡ old.abi)

-- Err: nothing has changed
abbrev pub Put : {E : Type 0} → Result (Unit {0}) E → Store → Store → Memory → Type 0
Put (Ok u) old new m = Becomes old new m
Put (Err e) old new m = Becomes old new (memory old)
