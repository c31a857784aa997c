-- Device: a change of one layer of a store is the change of its memory.
use Rattle.std.proofs.Common.{◌≡◌, ℕ, Bool, true, false, cond, List, [], Option, Some, None, Result, Ok, Err, IsSome, refl, sym, ap, ◌∙◌, subst, Bor}
use Rattle.std.specs.declared.alloc.AllocError.{AllocError}
use Rattle.cil_base.specs.declared.numbers.EntityId.{EntityId}
use Rattle.cil_base.specs.declared.numbers.LocalId.{LocalId}
use Rattle.byte_mem.specs.declared.pointers.ObjName.{ObjName}
use Rattle.byte_mem.specs.declared.pointers.ObjName.TheVariants.{Entity, Local, Literal, Heap, Argument}
use Rattle.std.specs.Option.{option_map}
use Rattle.std.proofs.lemmas.Bool.{false≢true}
use Rattle.std.proofs.lemmas.Option.{none-some}
use Rattle.byte_mem.specs.declared.pointers.Pointer.{Pointer}
use Rattle.byte_mem.specs.declared.values.Byte.{Byte}
use Rattle.byte_mem.specs.declared.frames.Frame.{Frame}
use Rattle.byte_mem.specs.declared.stores.Store.{Store}
use Rattle.byte_mem.specs.Steps.{◌>>=◌}
use Rattle.byte_mem.specs.Object.{Held, protect_held, store_part}
use Rattle.byte_mem.specs.Memory.{Memory, no_memory, with_held, changed, protect, store_bytes}
use Rattle.byte_mem.specs.Layers.{paged, local, IsPagedPut, PagedChanges, PagedPut, IsLocalPut, LocalChanges, LocalPut}
use Rattle.byte_mem.specs.Name.{same_name}
use Rattle.byte_mem.proofs.NameLemmas.{name_same}
use Rattle.byte_mem.specs.Store.{memory, Stored, Becomes, Put}

-- memories that give each name the same are equal
pub same_memory : (m n : Memory) → ((x : ObjName) → m x ≡ n x) → m ≡ n
same_memory m n h = λ i x. h x i

-- a change of what is live under a name
stored : (old new : Store) (n : ObjName) (change : Held → Option Held) (o : Option Held) → (memory old n >>= change) ≡ o → IsSome o → memory new ≡ with_held (memory old) n o → changed (memory old) n change ≡ Some (memory new)
stored old new n change None e s h = absurd (false≢true s)
stored old new n change (Some k) e s h = ap (λ (x : Option Held). x >>= λ g. Some (with_held (memory old) n (Some g))) e ∙ ap Some (sym h)

undefined : (old : Store) (n : ObjName) (change : Held → Option Held) → (memory old n >>= change) ≡ None → changed (memory old) n change ≡ None
undefined old n change e = ap (λ (x : Option Held). x >>= λ g. Some (with_held (memory old) n (Some g))) e

entity_memory : (s : Store) (e : EntityId) (new : List (List (Option Held))) (o : Option Held) → IsPagedPut s.entities new (e.0) o → memory (record s { entities = new }) ≡ with_held (memory s) (Entity e) o
entity_memory s e new o h = same_memory (memory (record s { entities = new })) (with_held (memory s) (Entity e) o) at
  where
    at : (x : ObjName) → memory (record s { entities = new }) x ≡ with_held (memory s) (Entity e) o x
    at (Entity y) = h y.0
    at (Local act l) = refl
    at (Literal y) = refl
    at (Heap y) = refl
    at (Argument y) = refl

pub entity_changed : (r : Option (Unit {0})) (s : Store) (e : EntityId) (new : List (List (Option Held))) (change : Held → Option Held) → PagedChanges r s.entities new (e.0) (paged s.entities (e.0) >>= change) → Stored r s (record s { entities = new }) (changed (memory s) (Entity e) change)
entity_changed None s e new change h = (undefined s (Entity e) change h.0, ap (λ (xs : List (List (Option Held))). record s { entities = xs }) h.1)
entity_changed (Some u) s e new change h = (stored s (record s { entities = new }) (Entity e) change (paged s.entities (e.0) >>= change) refl h.0 (entity_memory s e new (paged s.entities (e.0) >>= change) h.1), refl)

pub entity_put : (r : Result (Unit {0}) AllocError) (s : Store) (e : EntityId) (new : List (List (Option Held))) (o : Option Held) → PagedPut r s.entities new (e.0) o → Put r s (record s { entities = new }) (with_held (memory s) (Entity e) o)
entity_put (Ok u) s e new o h = (entity_memory s e new o h, refl)
entity_put (Err failed) s e new o h = (same_memory (memory (record s { entities = new })) (memory s) at, refl)
  where
    at : (x : ObjName) → memory (record s { entities = new }) x ≡ memory s x
    at (Entity y) = h y.0
    at (Local act l) = refl
    at (Literal y) = refl
    at (Heap y) = refl
    at (Argument y) = refl

pub entity_ended : (s : Store) (e : EntityId) (new : List (List (Option Held))) → IsPagedPut s.entities new (e.0) None → Becomes s (record s { entities = new }) (with_held (memory s) (Entity e) None)
entity_ended s e new h = (entity_memory s e new None h, refl)

literal_memory : (s : Store) (i : ℕ) (new : List (List (Option Held))) (o : Option Held) → IsPagedPut s.literals new (i) o → memory (record s { literals = new }) ≡ with_held (memory s) (Literal i) o
literal_memory s i new o h = same_memory (memory (record s { literals = new })) (with_held (memory s) (Literal i) o) at
  where
    at : (x : ObjName) → memory (record s { literals = new }) x ≡ with_held (memory s) (Literal i) o x
    at (Entity y) = refl
    at (Local act l) = refl
    at (Literal y) = h y
    at (Heap y) = refl
    at (Argument y) = refl

pub literal_changed : (r : Option (Unit {0})) (s : Store) (i : ℕ) (new : List (List (Option Held))) (change : Held → Option Held) → PagedChanges r s.literals new (i) (paged s.literals (i) >>= change) → Stored r s (record s { literals = new }) (changed (memory s) (Literal i) change)
literal_changed None s i new change h = (undefined s (Literal i) change h.0, ap (λ (xs : List (List (Option Held))). record s { literals = xs }) h.1)
literal_changed (Some u) s i new change h = (stored s (record s { literals = new }) (Literal i) change (paged s.literals (i) >>= change) refl h.0 (literal_memory s i new (paged s.literals (i) >>= change) h.1), refl)

pub literal_put : (r : Result (Unit {0}) AllocError) (s : Store) (i : ℕ) (new : List (List (Option Held))) (o : Option Held) → PagedPut r s.literals new (i) o → Put r s (record s { literals = new }) (with_held (memory s) (Literal i) o)
literal_put (Ok u) s i new o h = (literal_memory s i new o h, refl)
literal_put (Err failed) s i new o h = (same_memory (memory (record s { literals = new })) (memory s) at, refl)
  where
    at : (x : ObjName) → memory (record s { literals = new }) x ≡ memory s x
    at (Entity y) = refl
    at (Local act l) = refl
    at (Literal y) = h y
    at (Heap y) = refl
    at (Argument y) = refl

pub literal_ended : (s : Store) (i : ℕ) (new : List (List (Option Held))) → IsPagedPut s.literals new (i) None → Becomes s (record s { literals = new }) (with_held (memory s) (Literal i) None)
literal_ended s i new h = (literal_memory s i new None h, refl)

heap_memory : (s : Store) (i : ℕ) (new : List (List (Option Held))) (o : Option Held) → IsPagedPut s.heap new (i) o → memory (record s { heap = new }) ≡ with_held (memory s) (Heap i) o
heap_memory s i new o h = same_memory (memory (record s { heap = new })) (with_held (memory s) (Heap i) o) at
  where
    at : (x : ObjName) → memory (record s { heap = new }) x ≡ with_held (memory s) (Heap i) o x
    at (Entity y) = refl
    at (Local act l) = refl
    at (Literal y) = refl
    at (Heap y) = h y
    at (Argument y) = refl

pub heap_changed : (r : Option (Unit {0})) (s : Store) (i : ℕ) (new : List (List (Option Held))) (change : Held → Option Held) → PagedChanges r s.heap new (i) (paged s.heap (i) >>= change) → Stored r s (record s { heap = new }) (changed (memory s) (Heap i) change)
heap_changed None s i new change h = (undefined s (Heap i) change h.0, ap (λ (xs : List (List (Option Held))). record s { heap = xs }) h.1)
heap_changed (Some u) s i new change h = (stored s (record s { heap = new }) (Heap i) change (paged s.heap (i) >>= change) refl h.0 (heap_memory s i new (paged s.heap (i) >>= change) h.1), refl)

pub heap_put : (r : Result (Unit {0}) AllocError) (s : Store) (i : ℕ) (new : List (List (Option Held))) (o : Option Held) → PagedPut r s.heap new (i) o → Put r s (record s { heap = new }) (with_held (memory s) (Heap i) o)
heap_put (Ok u) s i new o h = (heap_memory s i new o h, refl)
heap_put (Err failed) s i new o h = (same_memory (memory (record s { heap = new })) (memory s) at, refl)
  where
    at : (x : ObjName) → memory (record s { heap = new }) x ≡ memory s x
    at (Entity y) = refl
    at (Local act l) = refl
    at (Literal y) = refl
    at (Heap y) = h y
    at (Argument y) = refl

pub heap_ended : (s : Store) (i : ℕ) (new : List (List (Option Held))) → IsPagedPut s.heap new (i) None → Becomes s (record s { heap = new }) (with_held (memory s) (Heap i) None)
heap_ended s i new h = (heap_memory s i new None h, refl)

argument_memory : (s : Store) (i : ℕ) (new : List (List (Option Held))) (o : Option Held) → IsPagedPut s.arguments new (i) o → memory (record s { arguments = new }) ≡ with_held (memory s) (Argument i) o
argument_memory s i new o h = same_memory (memory (record s { arguments = new })) (with_held (memory s) (Argument i) o) at
  where
    at : (x : ObjName) → memory (record s { arguments = new }) x ≡ with_held (memory s) (Argument i) o x
    at (Entity y) = refl
    at (Local act l) = refl
    at (Literal y) = refl
    at (Heap y) = refl
    at (Argument y) = h y

pub argument_changed : (r : Option (Unit {0})) (s : Store) (i : ℕ) (new : List (List (Option Held))) (change : Held → Option Held) → PagedChanges r s.arguments new (i) (paged s.arguments (i) >>= change) → Stored r s (record s { arguments = new }) (changed (memory s) (Argument i) change)
argument_changed None s i new change h = (undefined s (Argument i) change h.0, ap (λ (xs : List (List (Option Held))). record s { arguments = xs }) h.1)
argument_changed (Some u) s i new change h = (stored s (record s { arguments = new }) (Argument i) change (paged s.arguments (i) >>= change) refl h.0 (argument_memory s i new (paged s.arguments (i) >>= change) h.1), refl)

pub argument_put : (r : Result (Unit {0}) AllocError) (s : Store) (i : ℕ) (new : List (List (Option Held))) (o : Option Held) → PagedPut r s.arguments new (i) o → Put r s (record s { arguments = new }) (with_held (memory s) (Argument i) o)
argument_put (Ok u) s i new o h = (argument_memory s i new o h, refl)
argument_put (Err failed) s i new o h = (same_memory (memory (record s { arguments = new })) (memory s) at, refl)
  where
    at : (x : ObjName) → memory (record s { arguments = new }) x ≡ memory s x
    at (Entity y) = refl
    at (Local act l) = refl
    at (Literal y) = refl
    at (Heap y) = refl
    at (Argument y) = h y

pub argument_ended : (s : Store) (i : ℕ) (new : List (List (Option Held))) → IsPagedPut s.arguments new (i) None → Becomes s (record s { arguments = new }) (with_held (memory s) (Argument i) None)
argument_ended s i new h = (argument_memory s i new None h, refl)

local_memory : (s : Store) (act : ℕ) (l : LocalId) (new : List Frame) (o : Option Held) → IsLocalPut s.locals new act l.0 o → memory (record s { locals = new }) ≡ with_held (memory s) (Local act l) o
local_memory s act l new o h = same_memory (memory (record s { locals = new })) (with_held (memory s) (Local act l) o) at
  where
    at : (x : ObjName) → memory (record s { locals = new }) x ≡ with_held (memory s) (Local act l) o x
    at (Entity y) = refl
    at (Local a y) = h a y.0
    at (Literal y) = refl
    at (Heap y) = refl
    at (Argument y) = refl

pub local_changed : (r : Option (Unit {0})) (s : Store) (act : ℕ) (l : LocalId) (new : List Frame) (change : Held → Option Held) → LocalChanges r s.locals new act l.0 (local s.locals act l.0 >>= change) → Stored r s (record s { locals = new }) (changed (memory s) (Local act l) change)
local_changed None s act l new change h = (undefined s (Local act l) change h.0, ap (λ (xs : List Frame). record s { locals = xs }) h.1)
local_changed (Some u) s act l new change h = (stored s (record s { locals = new }) (Local act l) change (local s.locals act l.0 >>= change) refl h.0 (local_memory s act l new (local s.locals act l.0 >>= change) h.1), refl)

pub local_put : (r : Result (Unit {0}) AllocError) (s : Store) (act : ℕ) (l : LocalId) (new : List Frame) (o : Option Held) → LocalPut r s.locals new act l.0 o → Put r s (record s { locals = new }) (with_held (memory s) (Local act l) o)
local_put (Ok u) s act l new o h = (local_memory s act l new o h, refl)
local_put (Err failed) s act l new o h = (same_memory (memory (record s { locals = new })) (memory s) at, refl)
  where
    at : (x : ObjName) → memory (record s { locals = new }) x ≡ memory s x
    at (Entity y) = refl
    at (Local a y) = h a y.0
    at (Literal y) = refl
    at (Heap y) = refl
    at (Argument y) = refl

pub local_ended : (s : Store) (act : ℕ) (l : LocalId) (new : List Frame) → IsLocalPut s.locals new act l.0 None → Becomes s (record s { locals = new }) (with_held (memory s) (Local act l) None)
local_ended s act l new h = (local_memory s act l new None h, refl)

-- a store without objects
pub memory_empty : (s : Store) → s.entities ≡ [] → s.literals ≡ [] → s.arguments ≡ [] → s.heap ≡ [] → s.locals ≡ [] → memory s ≡ no_memory
memory_empty s a b c d e = same_memory (memory s) no_memory at
  where
    at : (x : ObjName) → memory s x ≡ None
    at (Entity y) = ap (λ (xs : List (List (Option Held))). paged xs y.0) a
    at (Local act l) = ap (λ (xs : List Frame). local xs act l.0) e
    at (Literal y) = ap (λ (xs : List (List (Option Held))). paged xs y) b
    at (Heap y) = ap (λ (xs : List (List (Option Held))). paged xs y) d
    at (Argument y) = ap (λ (xs : List (List (Option Held))). paged xs y) c

-- what changes no name changes nothing
held_itself : (m : Memory) (n x : ObjName) → with_held m n (m n) x ≡ m x
held_itself m n x = by (same_name n x) refl
  where
    by : (t : Bool) → same_name n x ≡ t → cond t (m n) (m x) ≡ m x
    by true e = ap m (name_same n x e)
    by false e = refl

live_or_none : {A B : Type 0} (o : Option A) (f : A → B) → (o >>= λ h. Some (f h)) ≡ None → o ≡ None
live_or_none None f e = refl
live_or_none (Some h) f e = absurd (none-some (f h) (sym e))

protected : (old new : Store) (n : ObjName) (read_only : Bool) (o : Option Held) → memory old n ≡ o
    → ((o >>= λ h. Some (protect_held h read_only)) >>= λ h. Some (with_held (memory old) n (Some h))) ≡ Some (memory new) → memory new ≡ protect (memory old) n read_only
protected old new n read_only None e d = absurd (none-some (memory new) d)
protected old new n read_only (Some h) e d =
    let same : with_held (memory old) n (Some (protect_held h read_only)) ≡ memory new = cc in
    sym same ∙ ap (λ (x : Option Held). with_held (memory old) n (option_map (λ h. protect_held h read_only) x)) (sym e)

pub protected_is : (r : Option (Unit {0})) (old new : Store) (n : ObjName) (read_only : Bool) → Stored r old new (changed (memory old) n (λ h. Some (protect_held h read_only))) → Becomes old new (protect (memory old) n read_only)
protected_is None old new n read_only h =
    let none : memory old n ≡ None = live_or_none (memory old n) (λ h. protect_held h read_only) (live_or_none (memory old n >>= λ h. Some (protect_held h read_only)) (λ h. with_held (memory old) n (Some h)) h.0) in (
      ap memory h.1
          ∙ sym (ap (λ (x : Option Held). with_held (memory old) n (option_map (λ h. protect_held h read_only) x)) none ∙ ap (with_held (memory old) n) (sym none) ∙ same_memory (with_held (memory old) n (memory old n)) (memory old) (held_itself (memory old) n)),
      ap (λ (s : Store). s.abi) h.1,
    )
protected_is (Some u) old new n read_only h = (protected old new n read_only (memory old n) refl h.0, h.1)

-- bytes behind a reference
pub copied : (r : Option (Unit {0})) (old new : Store) (at : Pointer) (b : Bor (List Byte)) (bytes : List Byte) → b.now ≡ bytes → Stored r old new (changed (memory old) at.name (λ h. store_part h at.offset b.now)) → Stored r old new (store_bytes (memory old) at bytes)
copied r old new at b bytes e h = subst (λ (bs : List Byte). Stored r old new (store_bytes (memory old) at bs)) e h
