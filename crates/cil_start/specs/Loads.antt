-- Device: how the objects of a program get their bytes: an object of zeros is made, and what an image lists is written into it, one item after another.
use Rattle.std.specs.Prelude.{◌≡◌, ℕ, List, [], ◌∷◌, length, Option, Some, None, pos}
use Rattle.cil_base.specs.declared.numbers.EntityId.{EntityId}
use Rattle.byte_mem.specs.declared.pointers.ObjName.TheVariants.{Entity}
use Rattle.byte_mem.specs.declared.pointers.Pointer.{Pointer}
use Rattle.byte_mem.specs.declared.values.Byte.{Byte}
use Rattle.byte_mem.specs.declared.stores.Store.{Store}
use Rattle.byte_mem.specs.Steps.{◌>>=◌}
use Rattle.byte_mem.specs.Object.{Held}
use Rattle.byte_mem.specs.Memory.{Memory, with_held}
use Rattle.byte_mem.specs.Store.{memory, Becomes}
use Rattle.type_graph.specs.Shapes.{Shape}
use Rattle.type_graph.specs.Arena.{Graph}
use Rattle.layout_lp64.specs.Tables.{InStep}
use Rattle.execution.specs.Runs.{writable, entity_held}
use Rattle.cil_tree.specs.Tree.{Item, GlobalDecl, Program}
use Rattle.cil_tree.specs.Globals.{path_part}
use Rattle.cil_tree.specs.View.{program_of}
use Rattle.cil_semantics.specs.Units.{IsUnit}
use Rattle.cil_semantics.specs.Values.{size_in, scalar_in}
use Rattle.typed_values.specs.Units.{constant_value}
use Rattle.cil_semantics.specs.Runs.{with_item, with_items, zeros, object, global_meaning}
use Rattle.cil_start.specs.declared.images.Written.{Written}
use Rattle.cil_start.specs.declared.loaded.Loaded.{Loaded}
use Rattle.cil_link.specs.declared.entities.Definer.{Definer}
use Rattle.cil_link.specs.Entities.{InRun, meant}

-- the program that is loaded
abbrev pub program_in : Loaded → Program
program_in l = program_of l.names.now l.unit.now

-- it is a unit that can be linked, the layouts are those of its types, and each of its globals has a number in the run
pub record IsReady (l : Loaded) : Type 0 where
  pub program : IsUnit (program_of l.names.now l.unit.now)
  pub step : InStep l.layouts.now l.unit.now.graph
  pub numbers : length l.entities.now ≡ length (program_of l.names.now l.unit.now).globals

-- that program in its run
abbrev pub loaded_in : Loaded → InRun
loaded_in l = record { program = program_in l; entities = l.entities.now }

-- what an item writes: the value of a scalar, at an offset
abbrev pub written_of : Graph → List ℕ → Shape → Item → Option Written
written_of g entities s x = path_part g x.path (s, 0) >>= λ part. scalar_in g part.0 >>= λ t. constant_value entities x.value >>= λ v. Some (record { at = part.1; scalar = t; value = v })

-- where that is written
abbrev pub place_of : EntityId → Written → Pointer
place_of e w = record { name = Entity e; offset = pos w.at }

-- the memory is that one, or nothing has changed where there is none
abbrev pub Changed : Store → Store → Option Memory → Type 0
Changed old new None = new ≡ old
Changed old new (Some m) = Becomes old new m

-- an object of the type is there
pub record IsObject (g : Graph) (s : Shape) (o : Option Held) : Type 0 where
  pub bytes : List Byte
  pub is : o ≡ Some (writable bytes)
  pub size : size_in g s ≡ Some (length bytes)

-- what is live, once an item is written
abbrev pub item_held : Graph → List ℕ → Shape → Item → Option Held → Option Held
item_held g entities s x o = o >>= λ h. with_item g entities s x h.bytes >>= λ bytes. Some (writable bytes)

abbrev pub items_held : Graph → List ℕ → Shape → List Item → Option Held → Option Held
items_held g entities s [] o = o
items_held g entities s (x ∷ xs) o = items_held g entities s xs (item_held g entities s x o)

-- so many items are still to be written, from which the store gets to what all items make of the first one
pub record Writing (g : Graph) (entities : List ℕ) (s : Shape) (e : EntityId) (first : Store) (all : List Item) (now : Store) (rest : List Item) : Type 0 where
  pub object : IsObject g s (memory now (Entity e))
  pub abi : now.abi ≡ first.abi
  pub whole : with_held (memory now) (Entity e) (items_held g entities s rest (memory now (Entity e))) ≡ with_held (memory first) (Entity e) (items_held g entities s all (memory first (Entity e)))

-- what is live of an object with an image; zeros alone have an image without items
abbrev pub image_held : Graph → List ℕ → Shape → List Item → Option Held
image_held g entities s items = entity_held (object (zeros g s >>= with_items g entities s items))

-- what is live of the entity of a global
abbrev pub global_held : Program → List ℕ → GlobalDecl → Option Held
global_held p entities x = entity_held (global_meaning p x entities)

-- what is live of an entity
abbrev pub definer_held : List InRun → Definer → Option Held
definer_held units d = entity_held (meant units d)
