-- Device: names that the test calls the same are equal.
use Rattle.std.proofs.Common.{◌≡◌, ℕ, Bool, true, false, ◌&&◌, ℤ, refl, ap, ◌∙◌, arith}
use Rattle.std.specs.Prelude.{nat_eq}
use Rattle.std.specs.Ordering.{int_eq}
use Rattle.std.proofs.lemmas.Bool.{false≢true}
use Rattle.std.proofs.lemmas.Bool.Decides.{nat_tests, Decides-int_eq}
use Rattle.cil_base.specs.declared.numbers.EntityId.{EntityId}
use Rattle.cil_base.specs.declared.numbers.LocalId.{LocalId}
use Rattle.byte_mem.specs.declared.pointers.ObjName.{ObjName}
use Rattle.byte_mem.specs.declared.pointers.ObjName.TheVariants.{Entity, Local, Literal, Heap, Argument}
use Rattle.byte_mem.specs.declared.pointers.Pointer.{Pointer}
use Rattle.byte_mem.specs.Name.{same_name, same_pointer}

numbers_same : (a b : ℕ) → nat_eq a b ≡ true → a ≡ b
numbers_same a b e = grind (arith, nat_tests)

number_same : (a : ℕ) → nat_eq a a ≡ true
number_same a = grind (arith, nat_tests)

both_left : (t u : Bool) → (t && u) ≡ true → t ≡ true
both_left true u e = refl
both_left false u e = e

both_right : (t u : Bool) → (t && u) ≡ true → u ≡ true
both_right true u e = e
both_right false u e = absurd (false≢true e)

both : (t u : Bool) → t ≡ true → u ≡ true → (t && u) ≡ true
both true u e d = d
both false u e d = e

entity_same : (a b : EntityId) → a.0 ≡ b.0 → Entity a ≡ Entity b
entity_same a b e = ap (λ n. Entity (record { 0 = n })) e

local_same : (act other : ℕ) (a b : LocalId) → act ≡ other → a.0 ≡ b.0 → Local act a ≡ Local other b
local_same act other a b d e = ap (λ n. Local n a) d ∙ ap (λ n. Local other (record { 0 = n })) e

pub name_same : (a b : ObjName) → same_name a b ≡ true → a ≡ b
name_same (Entity a) (Entity b) e = entity_same a b (numbers_same a.0 b.0 e)
name_same (Entity a) (Local m b) e = absurd (false≢true e)
name_same (Entity a) (Literal b) e = absurd (false≢true e)
name_same (Entity a) (Heap b) e = absurd (false≢true e)
name_same (Entity a) (Argument b) e = absurd (false≢true e)
name_same (Local m a) (Entity b) e = absurd (false≢true e)
name_same (Local m a) (Local n b) e =
    local_same m n a b (numbers_same m n (both_left (nat_eq m n) (nat_eq a.0 b.0) e)) (numbers_same a.0 b.0 (both_right (nat_eq m n) (nat_eq a.0 b.0) e))
name_same (Local m a) (Literal b) e = absurd (false≢true e)
name_same (Local m a) (Heap b) e = absurd (false≢true e)
name_same (Local m a) (Argument b) e = absurd (false≢true e)
name_same (Literal a) (Entity b) e = absurd (false≢true e)
name_same (Literal a) (Local n b) e = absurd (false≢true e)
name_same (Literal a) (Literal b) e = ap Literal (numbers_same a b e)
name_same (Literal a) (Heap b) e = absurd (false≢true e)
name_same (Literal a) (Argument b) e = absurd (false≢true e)
name_same (Heap a) (Entity b) e = absurd (false≢true e)
name_same (Heap a) (Local n b) e = absurd (false≢true e)
name_same (Heap a) (Literal b) e = absurd (false≢true e)
name_same (Heap a) (Heap b) e = ap Heap (numbers_same a b e)
name_same (Heap a) (Argument b) e = absurd (false≢true e)
name_same (Argument a) (Entity b) e = absurd (false≢true e)
name_same (Argument a) (Local n b) e = absurd (false≢true e)
name_same (Argument a) (Literal b) e = absurd (false≢true e)
name_same (Argument a) (Heap b) e = absurd (false≢true e)
name_same (Argument a) (Argument b) e = ap Argument (numbers_same a b e)

pub name_itself : (a : ObjName) → same_name a a ≡ true
name_itself (Entity a) = number_same a.0
name_itself (Local m a) = both (nat_eq m m) (nat_eq a.0 a.0) (number_same m) (number_same a.0)
name_itself (Literal a) = number_same a
name_itself (Heap a) = number_same a
name_itself (Argument a) = number_same a

pub pointer_same : (p q : Pointer) → same_pointer p q ≡ true → p ≡ q
pointer_same p q e =
    let n : p.name ≡ q.name = name_same p.name q.name (both_left (same_name p.name q.name) (int_eq p.offset q.offset) e) in
    let o : p.offset ≡ q.offset = (Decides-int_eq p.offset q.offset).0 (both_right (same_name p.name q.name) (int_eq p.offset q.offset) e) in
    ap (λ (x : ObjName). let r : Pointer = record { name = x; offset = p.offset } in r) n ∙ ap (λ (x : ℤ). let r : Pointer = record { name = q.name; offset = x } in r) o

pub pointer_itself : (p : Pointer) → same_pointer p p ≡ true
pointer_itself p = both (same_name p.name p.name) (int_eq p.offset p.offset) (name_itself p.name) ((Decides-int_eq p.offset p.offset).1 refl)
