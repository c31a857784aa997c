-- Device: the objects of an activation begin and end one by one.
use Rattle.std.proofs.Common.{false, ◌≡◌, ℕ, zero, suc, ◌<◌, ◌≤◌, List, [], ◌∷◌, length, map, drop, get_or, Some, Result, Ok, Err, OnOk, refl, sym, ap, ◌∙◌, arith}
use Rattle.cil_base.specs.declared.kinds.Abi.{Abi}
use Rattle.cil_base.specs.declared.numbers.LocalId.{LocalId}
use Rattle.byte_mem.specs.declared.pointers.ObjName.TheVariants.{Local}
use Rattle.byte_mem.specs.declared.stores.Store.{Store}
use Rattle.byte_mem.specs.declared.values.Byte.TheVariants.{Unknown as Blank}
use Rattle.byte_mem.specs.Memory.{Memory, with_held, make, end_object}
use Rattle.byte_mem.specs.Store.{memory, Becomes}
use Rattle.execution.specs.Data as passed
use Rattle.execution.specs.Data.{local_name, argument_held, with_arguments, with_objects, without_objects}
use Rattle.execution.specs.Calls.{number_of, numbers}
use Rattle.cil_frames.specs.declared.activations.Argument.{Argument}
use Rattle.cil_frames.specs.declared.activations.Automatic.{Automatic}
use Rattle.cil_frames.specs.Entering.{argument_of, arguments_of, objects_of, Remaining, ArgumentsRemain, ObjectsRemain, EndsRemain, NumbersRemain}

first_there : {A : Type 0} (xs : List A) (i : ℕ) (x d : A) → i < length xs → x ≡ get_or xs i d → drop i xs ≡ x ∷ drop (suc i) xs
first_there [] i x d h e = absurd (omega arith)
first_there (y ∷ ys) zero x d h e = ap (λ z. z ∷ ys) (sym e)
first_there (y ∷ ys) (suc i) x d h e = first_there ys i x d (omega arith) e

none_there : {A : Type 0} (xs : List A) (i : ℕ) → length xs ≤ i → drop i xs ≡ []
none_there [] zero h = refl
none_there [] (suc i) h = refl
none_there (y ∷ ys) zero h = absurd (omega arith)
none_there (y ∷ ys) (suc i) h = none_there ys i (omega arith)

-- what a read past the end of a list of objects gives
abbrev pub no_object : Automatic
no_object = record { number = record { 0 = 0 }; size = 0 }

-- one is done
step : (old mid new : Store) (rest more whole : Memory) → Remaining old mid rest whole → more ≡ rest → new.abi ≡ mid.abi → Remaining old new more whole
step old mid new rest more whole r e abi = record { same = e ∙ r.same; abi = abi ∙ r.abi }

-- all are done
all_done : (old new : Store) (rest whole : Memory) → Remaining old new rest whole → rest ≡ memory new → Becomes old new whole
all_done old new rest whole r e = (sym e ∙ r.same, r.abi)

pub arguments_next : (old mid new : Store) (act i j : ℕ) (xs : List Argument) (x : Argument) (l : LocalId) → i < length xs → x ≡ get_or xs i x → j ≡ suc i → l.0 ≡ i → ArgumentsRemain old mid act xs i
    → Becomes mid new (with_held (memory mid) (Local act l) (Some (argument_held mid.abi (argument_of x)))) → ArgumentsRemain old new act xs j
arguments_next old mid new act i j xs x l h is next number r b =
    step old mid new (with_arguments old.abi act i (arguments_of (drop i xs)) (memory mid)) (with_arguments old.abi act j (arguments_of (drop j xs)) (memory new)) (with_arguments old.abi act 0 (arguments_of xs) (memory old)) r
    (ap (λ j. with_arguments old.abi act j (arguments_of (drop j xs)) (memory new)) next
    ∙ (ap (λ (m : Memory). with_arguments old.abi act (suc i) (arguments_of (drop (suc i) xs)) m) b.0
    ∙ (ap (λ (a : Abi). with_arguments old.abi act (suc i) (arguments_of (drop (suc i) xs)) (with_held (memory mid) (Local act l) (Some (argument_held a (argument_of x))))) r.abi
    ∙ (ap (λ n. with_arguments old.abi act (suc i) (arguments_of (drop (suc i) xs)) (with_held (memory mid) (local_name act n) (Some (argument_held old.abi (argument_of x))))) number
    ∙ ap (λ ys. with_arguments old.abi act i (arguments_of ys) (memory mid)) (sym (first_there xs i x x h is))))))
    b.1

pub arguments_end : (old new : Store) (act i : ℕ) (xs : List Argument) → length xs ≤ i → ArgumentsRemain old new act xs i → Becomes old new (with_arguments old.abi act 0 (arguments_of xs) (memory old))
arguments_end old new act i xs h r =
    all_done old new (with_arguments old.abi act i (arguments_of (drop i xs)) (memory new)) (with_arguments old.abi act 0 (arguments_of xs) (memory old)) r
    (ap (λ ys. with_arguments old.abi act i (arguments_of ys) (memory new)) (none_there xs i h))

pub objects_next : (old mid new : Store) (act i j : ℕ) (xs : List Automatic) → i < length xs → j ≡ suc i → ObjectsRemain old mid act xs i
    → Becomes mid new (make (memory mid) (Local act (get_or xs i no_object).number) (get_or xs i no_object).size Blank false) → ObjectsRemain old new act xs j
objects_next old mid new act i j xs h next r b =
    step old mid new (with_objects act (objects_of (drop i xs)) (memory mid)) (with_objects act (objects_of (drop j xs)) (memory new)) (with_objects act (objects_of xs) (memory old)) r
    (ap (λ j. with_objects act (objects_of (drop j xs)) (memory new)) next
    ∙ (ap (λ (m : Memory). with_objects act (objects_of (drop (suc i) xs)) m) b.0 ∙ ap (λ ys. with_objects act (objects_of ys) (memory mid)) (sym (first_there xs i (get_or xs i no_object) no_object h refl))))
    b.1

pub objects_end : (old new : Store) (act i : ℕ) (xs : List Automatic) → length xs ≤ i → ObjectsRemain old new act xs i → Becomes old new (with_objects act (objects_of xs) (memory old))
objects_end old new act i xs h r =
    all_done old new (with_objects act (objects_of (drop i xs)) (memory new)) (with_objects act (objects_of xs) (memory old)) r (ap (λ ys. with_objects act (objects_of ys) (memory new)) (none_there xs i h))

pub without_next : (old mid new : Store) (act i j : ℕ) (xs : List Automatic) → i < length xs → j ≡ suc i → EndsRemain old mid act xs i
    → Becomes mid new (end_object (memory mid) (Local act (get_or xs i no_object).number)) → EndsRemain old new act xs j
without_next old mid new act i j xs h next r b =
    step old mid new (without_objects act (map number_of (objects_of (drop i xs))) (memory mid)) (without_objects act (map number_of (objects_of (drop j xs))) (memory new)) (without_objects act (map number_of (objects_of xs)) (memory old)) r
    (ap (λ j. without_objects act (map number_of (objects_of (drop j xs))) (memory new)) next
    ∙ (ap (λ (m : Memory). without_objects act (map number_of (objects_of (drop (suc i) xs))) m) b.0 ∙ ap (λ ys. without_objects act (map number_of (objects_of ys)) (memory mid)) (sym (first_there xs i (get_or xs i no_object) no_object h refl))))
    b.1

pub without_end : (old new : Store) (act i : ℕ) (xs : List Automatic) → length xs ≤ i → EndsRemain old new act xs i → Becomes old new (without_objects act (map number_of (objects_of xs)) (memory old))
without_end old new act i xs h r =
    all_done old new (without_objects act (map number_of (objects_of (drop i xs))) (memory new)) (without_objects act (map number_of (objects_of xs)) (memory old)) r
    (ap (λ ys. without_objects act (map number_of (objects_of ys)) (memory new)) (none_there xs i h))

numbers_there : (xs : List passed.Argument) (i k : ℕ) → i < length xs → numbers k (drop i xs) ≡ k ∷ numbers (suc k) (drop (suc i) xs)
numbers_there [] i k h = absurd (omega arith)
numbers_there (y ∷ ys) zero k h = refl
numbers_there (y ∷ ys) (suc i) k h = numbers_there ys i k (omega arith)

pub numbers_next : (old mid new : Store) (act n i j : ℕ) → i < n → j ≡ suc i → NumbersRemain old mid act n i → Becomes mid new (end_object (memory mid) (local_name act i)) → NumbersRemain old new act n j
numbers_next old mid new act n i j h next r b xs long =
    step old mid new (without_objects act (numbers i (drop i xs)) (memory mid)) (without_objects act (numbers j (drop j xs)) (memory new)) (without_objects act (numbers 0 xs) (memory old)) (r xs long)
    (ap (λ j. without_objects act (numbers j (drop j xs)) (memory new)) next
    ∙ (ap (λ (m : Memory). without_objects act (numbers (suc i) (drop (suc i) xs)) m) b.0 ∙ ap (λ ys. without_objects act ys (memory mid)) (sym (numbers_there xs i i (omega arith)))))
    b.1

pub numbers_end : (old new : Store) (act n i : ℕ) → n ≤ i → NumbersRemain old new act n i → (xs : List passed.Argument) → length xs ≡ n → Becomes old new (without_objects act (numbers 0 xs) (memory old))
numbers_end old new act n i h r xs long =
    all_done old new (without_objects act (numbers i (drop i xs)) (memory new)) (without_objects act (numbers 0 xs) (memory old)) (r xs long)
    (ap (λ ys. without_objects act (numbers i ys) (memory new)) (none_there xs i (omega arith)))

-- one change behind another
pub then_becomes : (old mid new : Store) (f : Memory → Memory) (m : Memory) → Becomes old mid m → Becomes mid new (f (memory mid)) → Becomes old new (f m)
then_becomes old mid new f m b c = (c.0 ∙ ap f b.0, c.1 ∙ b.1)

pub then_on_ok : {E : Type 0} (r : Result (Unit {0}) E) (old mid new : Store) (f : Memory → Memory) (m : Memory) → Becomes old mid m → OnOk r (Becomes mid new (f (memory mid))) → OnOk r (Becomes old new (f m))
then_on_ok (Ok u) old mid new f m b c = then_becomes old mid new f m b c
then_on_ok (Err e) old mid new f m b c = tt
