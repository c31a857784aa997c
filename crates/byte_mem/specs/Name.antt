-- Definition: names of objects and functions are the same where their kinds and their numbers are (own).
use Rattle.std.specs.Prelude.{Bool, false, ◌&&◌, nat_eq}
use Rattle.std.specs.Ordering.{int_eq}
use Rattle.byte_mem.specs.declared.pointers.ObjName.{ObjName}
use Rattle.byte_mem.specs.declared.pointers.ObjName.TheVariants.{Entity, Local, Literal, Heap, Argument}
use Rattle.byte_mem.specs.declared.pointers.Pointer.{Pointer}

abbrev pub same_name : ObjName → ObjName → Bool
same_name (Entity a) (Entity b) = nat_eq a.0 b.0
same_name (Local act a) (Local other b) = nat_eq act other && nat_eq a.0 b.0
same_name (Literal a) (Literal b) = nat_eq a b
same_name (Heap a) (Heap b) = nat_eq a b
same_name (Argument a) (Argument b) = nat_eq a b
same_name a b = false

abbrev pub same_pointer : Pointer → Pointer → Bool
same_pointer p q = same_name p.name q.name && int_eq p.offset q.offset
