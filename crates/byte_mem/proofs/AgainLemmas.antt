-- Device: what is stored is loaded again, and nothing else changes.
use Rattle.std.proofs.Common.{◌≡◌, ℕ, zero, suc, ◌+◌, ◌*◌, ◌/◌, ◌%◌, ◌^◌, ◌<◌, ◌≤◌, Bool, true, false, cond, ◌&&◌, not, List, [], ◌∷◌, ◌++◌, length, take, drop, replicate, Option, Some, None, IfSome, ℤ, pos, negsuc, ◌-ℤ◌, int_lt, unsigned_abs, refl, sym, ap, ◌∙◌, subst, arith, lit<}
use Rattle.std.specs.Prelude.{nat_eq, nat_lt, nat_le}
use Rattle.std.specs.Option.{option_map}
use Rattle.std.proofs.lemmas.Int.{ints}
use Rattle.std.proofs.lemmas.Nat.{mod_below}
use Rattle.std.proofs.Math.Nat.{mod-eq_of_lt, pow-suc}
use Rattle.std.proofs.lemmas.Bool.Decides.{nat_tests}
use Rattle.std.proofs.lemmas.Option.{none-some}
use Rattle.std.proofs.lemmas.List.{length-append, length-take, length-drop, take_at, drop_at}
use Rattle.cil_base.specs.declared.kinds.Abi.{Abi}
use Rattle.cil_base.specs.declared.kinds.Abi.TheVariants.{Lp64, Ilp32}
use Rattle.cil_base.specs.declared.kinds.IntKind.{IntKind}
use Rattle.cil_base.specs.declared.kinds.IntKind.TheVariants.{Bool as Boolean, Char, SChar, UChar, Short, UShort, Int as Int', UInt, Long, ULong, LLong, ULLong, Long4, ULong4}
use Rattle.cil_base.specs.Integer.{IsOf, size_of, wrapped, reduced, balanced, pointer_size_of}
use Rattle.cil_base.specs.Arithmetic.{bits_of}
use Rattle.cil_base.proofs.IntegerLaws.{wrapped_value, wrapped-IsOf}
use Rattle.byte_mem.specs.declared.pointers.ObjName.{ObjName}
use Rattle.byte_mem.specs.declared.pointers.Pointer.{Pointer}
use Rattle.byte_mem.specs.declared.values.Byte.{Byte}
use Rattle.byte_mem.specs.declared.values.Byte.TheVariants.{Known, Unknown as Blank, Part as Fragment}
use Rattle.byte_mem.specs.declared.values.Scalar.{Scalar}
use Rattle.byte_mem.specs.declared.values.Scalar.TheVariants.{Int as OfKind, Ptr as OfPointer}
use Rattle.byte_mem.specs.declared.values.Value.{Value}
use Rattle.byte_mem.specs.declared.values.Value.TheVariants.{Int, Ptr, Unknown, Part}
use Rattle.byte_mem.specs.Steps.{◌>>=◌, only_if}
use Rattle.byte_mem.specs.Name.{same_name}
use Rattle.byte_mem.specs.Scalar.{kind_of, scalar_size, IsValue, is_boolean, number_of, low_bytes, parts_of, number_value, goes_on, whole_pointer, lone_part, parts_value, value_with, value_of, bytes_of}
use Rattle.byte_mem.specs.Object.{Held, part_at, with_part, inside, aligned, load_held, load_part, write_at, store_held, store_part}
use Rattle.byte_mem.specs.Memory.{Memory, with_held, load, load_bytes, changed, store, store_bytes}
use Rattle.byte_mem.proofs.NameLemmas.{name_itself, pointer_itself}
use Rattle.byte_mem.proofs.BelowLemmas.{length_bytes}

-- numbers

reduced_natural : (m : ℕ) (v : ℤ) → pos (unsigned_abs (reduced m v)) ≡ reduced m v
reduced_natural m (pos a) = refl
reduced_natural m (negsuc a) = refl

pub reduced_below : (m : ℕ) (v : ℤ) → 0 < m → unsigned_abs (reduced m v) < m
reduced_below m (pos a) h = mod_below a m h
reduced_below m (negsuc a) h = let below : a % m < m = mod_below a m h in omega (arith, ints)

reduced_small : (m n : ℕ) → n < m → reduced m (pos n) ≡ pos n
reduced_small m n h = ap pos (mod-eq_of_lt h)

reduced_twice : (m : ℕ) (v : ℤ) → 0 < m → reduced m (pos (unsigned_abs (reduced m v))) ≡ reduced m v
reduced_twice m v h = reduced_small m (unsigned_abs (reduced m v)) (reduced_below m v h) ∙ reduced_natural m v

balanced_twice : (half : ℕ) (v : ℤ) → 0 < half → balanced half (pos (unsigned_abs (reduced (2 * half) v))) ≡ balanced half v
balanced_twice half v h = ap (λ r. cond (int_lt r (pos half)) r (r -ℤ pos (2 * half))) (reduced_twice (2 * half) v (omega arith))

digits_low : (k n : ℕ) → n < 256 ^ k → number_of (low_bytes k n) ≡ Some n
digits_low zero n h = ap Some (omega arith)
digits_low (suc k) n h =
    let e : 256 ^ suc k ≡ 256 ^ k * 256 = pow-suc 256 k in
    let low : n / 256 < 256 ^ k = omega arith in
    ap (option_map (λ m. n % 256 + 256 * m)) (digits_low k (n / 256) low) ∙ ap Some (omega arith)

digits : (kind : IntKind) (v : ℤ) → number_of (low_bytes (size_of kind) (bits_of kind v)) ≡ Some (bits_of kind v)
digits Boolean v = digits_low 1 (bits_of Boolean v) (reduced_below (2 ^ 8) v (lit< tt))
digits Char v = digits_low 1 (bits_of Char v) (reduced_below (2 ^ 8) v (lit< tt))
digits SChar v = digits_low 1 (bits_of SChar v) (reduced_below (2 ^ 8) v (lit< tt))
digits UChar v = digits_low 1 (bits_of UChar v) (reduced_below (2 ^ 8) v (lit< tt))
digits Short v = digits_low 2 (bits_of Short v) (reduced_below (2 ^ 16) v (lit< tt))
digits UShort v = digits_low 2 (bits_of UShort v) (reduced_below (2 ^ 16) v (lit< tt))
digits Int' v = digits_low 4 (bits_of Int' v) (reduced_below (2 ^ 32) v (lit< tt))
digits UInt v = digits_low 4 (bits_of UInt v) (reduced_below (2 ^ 32) v (lit< tt))
digits Long v = digits_low 8 (bits_of Long v) (reduced_below (2 ^ 64) v (lit< tt))
digits ULong v = digits_low 8 (bits_of ULong v) (reduced_below (2 ^ 64) v (lit< tt))
digits LLong v = digits_low 8 (bits_of LLong v) (reduced_below (2 ^ 64) v (lit< tt))
digits ULLong v = digits_low 8 (bits_of ULLong v) (reduced_below (2 ^ 64) v (lit< tt))
digits Long4 v = digits_low 4 (bits_of Long4 v) (reduced_below (2 ^ 32) v (lit< tt))
digits ULong4 v = digits_low 4 (bits_of ULong4 v) (reduced_below (2 ^ 32) v (lit< tt))

boolean_kept : (v : ℤ) → IsOf Boolean v → number_value Boolean (bits_of Boolean v) ≡ Int v
boolean_kept (pos zero) h = refl
boolean_kept (pos (suc zero)) h = refl
boolean_kept (pos (suc (suc n))) h = absurd (omega (arith, ints, h.1))
boolean_kept (negsuc n) h = absurd (omega (arith, ints, h.0))

number_kept : (kind : IntKind) (v : ℤ) → IsOf kind v → number_value kind (bits_of kind v) ≡ Int v
number_kept Boolean v h = boolean_kept v h
number_kept Char v h = ap Int (balanced_twice (2 ^ 7) v (lit< tt) ∙ wrapped-IsOf Char v h)
number_kept SChar v h = ap Int (balanced_twice (2 ^ 7) v (lit< tt) ∙ wrapped-IsOf SChar v h)
number_kept UChar v h = ap Int (reduced_twice (2 ^ 8) v (lit< tt) ∙ wrapped-IsOf UChar v h)
number_kept Short v h = ap Int (balanced_twice (2 ^ 15) v (lit< tt) ∙ wrapped-IsOf Short v h)
number_kept UShort v h = ap Int (reduced_twice (2 ^ 16) v (lit< tt) ∙ wrapped-IsOf UShort v h)
number_kept Int' v h = ap Int (balanced_twice (2 ^ 31) v (lit< tt) ∙ wrapped-IsOf Int' v h)
number_kept UInt v h = ap Int (reduced_twice (2 ^ 32) v (lit< tt) ∙ wrapped-IsOf UInt v h)
number_kept Long v h = ap Int (balanced_twice (2 ^ 63) v (lit< tt) ∙ wrapped-IsOf Long v h)
number_kept ULong v h = ap Int (reduced_twice (2 ^ 64) v (lit< tt) ∙ wrapped-IsOf ULong v h)
number_kept LLong v h = ap Int (balanced_twice (2 ^ 63) v (lit< tt) ∙ wrapped-IsOf LLong v h)
number_kept ULLong v h = ap Int (reduced_twice (2 ^ 64) v (lit< tt) ∙ wrapped-IsOf ULLong v h)
number_kept Long4 v h = ap Int (balanced_twice (2 ^ 31) v (lit< tt) ∙ wrapped-IsOf Long4 v h)
number_kept ULong4 v h = ap Int (reduced_twice (2 ^ 32) v (lit< tt) ∙ wrapped-IsOf ULong4 v h)

kept_int : (abi : Abi) (s : Scalar) (v : ℤ) (bytes : List Byte) → IsOf (kind_of abi s) v → number_of bytes ≡ Some (bits_of (kind_of abi s) v) → value_of abi s bytes ≡ Int v
kept_int abi s v bytes h e = ap (value_with abi s bytes) e ∙ number_kept (kind_of abi s) v h

-- pointers

number_same : (a : ℕ) → nat_eq a a ≡ true
number_same a = grind (arith, nat_tests)

goes_on_parts : (p : Pointer) (k n : ℕ) → goes_on p k (parts_of p k n) ≡ true
goes_on_parts p k zero = refl
goes_on_parts p k (suc n) = rw (pointer_itself p, number_same k) (goes_on_parts p (suc k) n)

whole_again : (p : Pointer) (n : ℕ) → whole_pointer (parts_of p 0 (suc n)) ≡ Ptr p
whole_again p n = ap (λ t. cond t (Ptr p) Unknown) (goes_on_parts p 1 n)

kept_pointer : (abi : Abi) (s : Scalar) (p : Pointer) → scalar_size abi s ≡ pointer_size_of abi → value_of abi s (parts_of p 0 (scalar_size abi s)) ≡ Ptr p
kept_pointer Lp64 OfPointer p e = whole_again p 7
kept_pointer Lp64 (OfKind Boolean) p e = absurd (omega arith)
kept_pointer Lp64 (OfKind Char) p e = absurd (omega arith)
kept_pointer Lp64 (OfKind SChar) p e = absurd (omega arith)
kept_pointer Lp64 (OfKind UChar) p e = absurd (omega arith)
kept_pointer Lp64 (OfKind Short) p e = absurd (omega arith)
kept_pointer Lp64 (OfKind UShort) p e = absurd (omega arith)
kept_pointer Lp64 (OfKind Int') p e = absurd (omega arith)
kept_pointer Lp64 (OfKind UInt) p e = absurd (omega arith)
kept_pointer Lp64 (OfKind Long) p e = whole_again p 7
kept_pointer Lp64 (OfKind ULong) p e = whole_again p 7
kept_pointer Lp64 (OfKind LLong) p e = whole_again p 7
kept_pointer Lp64 (OfKind ULLong) p e = whole_again p 7
kept_pointer Lp64 (OfKind Long4) p e = absurd (omega arith)
kept_pointer Lp64 (OfKind ULong4) p e = absurd (omega arith)
kept_pointer Ilp32 OfPointer p e = whole_again p 3
kept_pointer Ilp32 (OfKind Boolean) p e = absurd (omega arith)
kept_pointer Ilp32 (OfKind Char) p e = absurd (omega arith)
kept_pointer Ilp32 (OfKind SChar) p e = absurd (omega arith)
kept_pointer Ilp32 (OfKind UChar) p e = absurd (omega arith)
kept_pointer Ilp32 (OfKind Short) p e = absurd (omega arith)
kept_pointer Ilp32 (OfKind UShort) p e = absurd (omega arith)
kept_pointer Ilp32 (OfKind Int') p e = whole_again p 3
kept_pointer Ilp32 (OfKind UInt) p e = whole_again p 3
kept_pointer Ilp32 (OfKind Long) p e = absurd (omega arith)
kept_pointer Ilp32 (OfKind ULong) p e = absurd (omega arith)
kept_pointer Ilp32 (OfKind LLong) p e = absurd (omega arith)
kept_pointer Ilp32 (OfKind ULLong) p e = absurd (omega arith)
kept_pointer Ilp32 (OfKind Long4) p e = whole_again p 3
kept_pointer Ilp32 (OfKind ULong4) p e = whole_again p 3

kept_part : (abi : Abi) (s : Scalar) (p : Pointer) (k : ℕ) → scalar_size abi s ≡ 1 → value_of abi s (replicate (scalar_size abi s) (Fragment p k)) ≡ Part p k
kept_part Lp64 OfPointer p k e = absurd (omega arith)
kept_part Lp64 (OfKind Boolean) p k e = refl
kept_part Lp64 (OfKind Char) p k e = refl
kept_part Lp64 (OfKind SChar) p k e = refl
kept_part Lp64 (OfKind UChar) p k e = refl
kept_part Lp64 (OfKind Short) p k e = absurd (omega arith)
kept_part Lp64 (OfKind UShort) p k e = absurd (omega arith)
kept_part Lp64 (OfKind Int') p k e = absurd (omega arith)
kept_part Lp64 (OfKind UInt) p k e = absurd (omega arith)
kept_part Lp64 (OfKind Long) p k e = absurd (omega arith)
kept_part Lp64 (OfKind ULong) p k e = absurd (omega arith)
kept_part Lp64 (OfKind LLong) p k e = absurd (omega arith)
kept_part Lp64 (OfKind ULLong) p k e = absurd (omega arith)
kept_part Lp64 (OfKind Long4) p k e = absurd (omega arith)
kept_part Lp64 (OfKind ULong4) p k e = absurd (omega arith)
kept_part Ilp32 OfPointer p k e = absurd (omega arith)
kept_part Ilp32 (OfKind Boolean) p k e = refl
kept_part Ilp32 (OfKind Char) p k e = refl
kept_part Ilp32 (OfKind SChar) p k e = refl
kept_part Ilp32 (OfKind UChar) p k e = refl
kept_part Ilp32 (OfKind Short) p k e = absurd (omega arith)
kept_part Ilp32 (OfKind UShort) p k e = absurd (omega arith)
kept_part Ilp32 (OfKind Int') p k e = absurd (omega arith)
kept_part Ilp32 (OfKind UInt) p k e = absurd (omega arith)
kept_part Ilp32 (OfKind Long) p k e = absurd (omega arith)
kept_part Ilp32 (OfKind ULong) p k e = absurd (omega arith)
kept_part Ilp32 (OfKind LLong) p k e = absurd (omega arith)
kept_part Ilp32 (OfKind ULLong) p k e = absurd (omega arith)
kept_part Ilp32 (OfKind Long4) p k e = absurd (omega arith)
kept_part Ilp32 (OfKind ULong4) p k e = absurd (omega arith)

kept_unknown : (abi : Abi) (s : Scalar) → value_of abi s (replicate (scalar_size abi s) Blank) ≡ Unknown
kept_unknown Lp64 OfPointer = refl
kept_unknown Lp64 (OfKind Boolean) = refl
kept_unknown Lp64 (OfKind Char) = refl
kept_unknown Lp64 (OfKind SChar) = refl
kept_unknown Lp64 (OfKind UChar) = refl
kept_unknown Lp64 (OfKind Short) = refl
kept_unknown Lp64 (OfKind UShort) = refl
kept_unknown Lp64 (OfKind Int') = refl
kept_unknown Lp64 (OfKind UInt) = refl
kept_unknown Lp64 (OfKind Long) = refl
kept_unknown Lp64 (OfKind ULong) = refl
kept_unknown Lp64 (OfKind LLong) = refl
kept_unknown Lp64 (OfKind ULLong) = refl
kept_unknown Lp64 (OfKind Long4) = refl
kept_unknown Lp64 (OfKind ULong4) = refl
kept_unknown Ilp32 OfPointer = refl
kept_unknown Ilp32 (OfKind Boolean) = refl
kept_unknown Ilp32 (OfKind Char) = refl
kept_unknown Ilp32 (OfKind SChar) = refl
kept_unknown Ilp32 (OfKind UChar) = refl
kept_unknown Ilp32 (OfKind Short) = refl
kept_unknown Ilp32 (OfKind UShort) = refl
kept_unknown Ilp32 (OfKind Int') = refl
kept_unknown Ilp32 (OfKind UInt) = refl
kept_unknown Ilp32 (OfKind Long) = refl
kept_unknown Ilp32 (OfKind ULong) = refl
kept_unknown Ilp32 (OfKind LLong) = refl
kept_unknown Ilp32 (OfKind ULLong) = refl
kept_unknown Ilp32 (OfKind Long4) = refl
kept_unknown Ilp32 (OfKind ULong4) = refl

scalar_digits : (abi : Abi) (s : Scalar) (v : ℤ) → number_of (low_bytes (scalar_size abi s) (bits_of (kind_of abi s) v)) ≡ Some (bits_of (kind_of abi s) v)
scalar_digits abi (OfKind kind) v = digits kind v
scalar_digits Lp64 OfPointer v = digits ULong v
scalar_digits Ilp32 OfPointer v = digits ULong4 v

-- the bytes of a value represent it
pub kept : (abi : Abi) (s : Scalar) (v : Value) → IsValue abi s v → value_of abi s (bytes_of abi s v) ≡ v
kept abi s (Int v) h = kept_int abi s v (bytes_of abi s (Int v)) h (scalar_digits abi s v)
kept abi s (Ptr p) h = kept_pointer abi s p h
kept abi s Unknown h = kept_unknown abi s
kept abi s (Part p k) h = kept_part abi s p k h

-- a value that is read is one of the scalar

number_is_value : (abi : Abi) (s : Scalar) (n : ℕ) → IsValue abi s (number_value (kind_of abi s) n)
number_is_value abi s n = by (is_boolean (kind_of abi s) && nat_lt 1 n)
  where
    by : (t : Bool) → IsValue abi s (cond t Unknown (Int (wrapped (kind_of abi s) (pos n))))
    by true = tt
    by false = wrapped_value (kind_of abi s) (pos n)

lone_is_value : (abi : Abi) (s : Scalar) (bytes : List Byte) → scalar_size abi s ≡ 1 → IsValue abi s (lone_part bytes)
lone_is_value abi s [] h = tt
lone_is_value abi s (Known b ∷ bytes) h = tt
lone_is_value abi s (Blank ∷ bytes) h = tt
lone_is_value abi s (Fragment p k ∷ []) h = h
lone_is_value abi s (Fragment p k ∷ b ∷ bytes) h = tt

whole_is_value : (abi : Abi) (s : Scalar) (bytes : List Byte) → scalar_size abi s ≡ pointer_size_of abi → IsValue abi s (whole_pointer bytes)
whole_is_value abi s [] h = tt
whole_is_value abi s (Known b ∷ bytes) h = tt
whole_is_value abi s (Blank ∷ bytes) h = tt
whole_is_value abi s (Fragment p k ∷ bytes) h = by (nat_eq k 0 && goes_on p 1 bytes)
  where
    by : (t : Bool) → IsValue abi s (cond t (Ptr p) Unknown)
    by true = h
    by false = tt

numbers_same : (a b : ℕ) → nat_eq a b ≡ true → a ≡ b
numbers_same a b e = grind (arith, nat_tests)

parts_is_value : (abi : Abi) (s : Scalar) (bytes : List Byte) → IsValue abi s (parts_value (pointer_size_of abi) (scalar_size abi s) bytes)
parts_is_value abi s bytes = by (nat_eq (scalar_size abi s) 1) (nat_eq (scalar_size abi s) (pointer_size_of abi)) refl refl
  where
    by : (t u : Bool) → nat_eq (scalar_size abi s) 1 ≡ t → nat_eq (scalar_size abi s) (pointer_size_of abi) ≡ u → IsValue abi s (cond t (lone_part bytes) (cond u (whole_pointer bytes) Unknown))
    by true u e d = lone_is_value abi s bytes (numbers_same (scalar_size abi s) 1 e)
    by false true e d = whole_is_value abi s bytes (numbers_same (scalar_size abi s) (pointer_size_of abi) d)
    by false false e d = tt

pub read_is_value : (abi : Abi) (s : Scalar) (bytes : List Byte) → IsValue abi s (value_of abi s bytes)
read_is_value abi s bytes = by (number_of bytes)
  where
    by : (o : Option ℕ) → IsValue abi s (value_with abi s bytes o)
    by (Some n) = number_is_value abi s n
    by None = parts_is_value abi s bytes

if_bound : {A B : Type 0} (P : B → Type 0) (o : Option A) (g : A → Option B) → ((a : A) → IfSome (g a) P) → IfSome (o >>= g) P
if_bound P None g h = tt
if_bound P (Some a) g h = h a

pub load_held_is_value : (abi : Abi) (h : Held) (offset : ℤ) (s : Scalar) → IfSome (load_held abi h offset s) (IsValue abi s)
load_held_is_value abi h offset s =
    if_bound (IsValue abi s) (aligned offset (scalar_size abi s) (length h.bytes)) (λ i. Some (value_of abi s (part_at i (scalar_size abi s) h.bytes)))
    (λ i. read_is_value abi s (part_at i (scalar_size abi s) h.bytes))

-- parts of bytes

pub part_again : (i : ℕ) (new xs : List Byte) → i ≤ length xs → part_at i (length new) (with_part i new xs) ≡ new
part_again i new xs h =
    let len : length (take i xs) ≡ i = omega (arith, length-take i xs) in
    ap (take (length new)) (drop_at (take i xs) (new ++ drop (i + length new) xs) i len) ∙ take_at new (drop (i + length new) xs) (length new) refl

pub length_with : (i : ℕ) (new xs : List Byte) → i + length new ≤ length xs → length (with_part i new xs) ≡ length xs
length_with i new xs h =
    omega (arith, length-append (take i xs) (new ++ drop (i + length new) xs), length-append new (drop (i + length new) xs), length-take i xs, length-drop (i + length new) xs)

-- a step that gave something

pub bind_some : {A B : Type 0} (o : Option A) (f : A → Option B) (b : B) → (o >>= f) ≡ Some b → (a : A) × (o ≡ Some a) × (f a ≡ Some b)
bind_some None f b e = absurd (none-some b e)
bind_some (Some a) f b e = (a, refl, e)

only_some : {A : Type 0} (t : Bool) (a b : A) → only_if t a ≡ Some b → (t ≡ true) × (a ≡ b)
only_some true a b e = (refl, cc)
only_some false a b e = absurd (none-some b e)

some_same : {A : Type 0} (a b : A) → Some a ≡ Some b → a ≡ b
some_same a b e = cc

at_most : (a b : ℕ) → nat_le a b ≡ true → a ≤ b
at_most a b e = grind (arith, nat_tests)

pub inside_room : (offset : ℤ) (n size i : ℕ) → inside offset n size ≡ Some i → i + n ≤ size
inside_room (pos a) n size i e =
    let both = only_some (nat_le (a + n) size) a i e in
    subst (λ (x : ℕ). x + n ≤ size) both.1 (at_most (a + n) size both.0)
inside_room (negsuc a) n size i e = absurd (none-some i e)

pub aligned_room : (offset : ℤ) (n size i : ℕ) → aligned offset n size ≡ Some i → i + n ≤ size
aligned_room offset n size i e =
    let found = bind_some (inside offset n size) (λ i. only_if (nat_eq (i % n) 0) i) i e in
    subst (λ (x : ℕ). x + n ≤ size) (only_some (nat_eq (found.0 % n) 0) found.0 i found.2).1 (inside_room offset n size found.0 found.1)

-- what a write leaves
abbrev pub written : Held → ℕ → List Byte → Held
written h i new = record { function = h.function; read_only = h.read_only; bytes = with_part i new h.bytes }

pub write_some : (h : Held) (place : Option ℕ) (new : List Byte) (k : Held) → write_at h place new ≡ Some k → (i : ℕ) × (place ≡ Some i) × (written h i new ≡ k)
write_some h place new k e =
    let found = bind_some place (λ i. only_if (not h.read_only) (written h i new)) k e in
    (found.0, found.1, (only_some (not h.read_only) (written h found.0 new) k found.2).1)

pub changed_some : (m : Memory) (n : ObjName) (g : Held → Option Held) (k : Memory) → changed m n g ≡ Some k → (h : Held) × (j : Held) × (m n ≡ Some h) × (g h ≡ Some j) × (with_held m n (Some j) ≡ k)
changed_some m n g k e =
    let whole = bind_some (m n >>= g) (λ h. Some (with_held m n (Some h))) k e in
    let part = bind_some (m n) g whole.0 whole.1 in
    (part.0, whole.0, part.1, part.2, some_same (with_held m n (Some whole.0)) k whole.2)

pub held_here : (m : Memory) (n : ObjName) (h : Option Held) → with_held m n h n ≡ h
held_here m n h = ap (λ t. cond t h (m n)) (name_itself n)

pub held_there : (m : Memory) (n x : ObjName) (h : Option Held) → same_name n x ≡ false → with_held m n h x ≡ m x
held_there m n x h e = ap (λ t. cond t h (m x)) e

loads_again : (abi : Abi) (h j : Held) (offset : ℤ) (s : Scalar) (v : Value) → IsValue abi s v → store_held abi h offset s v ≡ Some j → load_held abi j offset s ≡ Some v
loads_again abi h j offset s v is e =
    let found = write_some h (aligned offset (scalar_size abi s) (length h.bytes)) (bytes_of abi s v) j e in
    at found.0 found.1 found.2
  where
    at : (i : ℕ) → aligned offset (scalar_size abi s) (length h.bytes) ≡ Some i → written h i (bytes_of abi s v) ≡ j → load_held abi j offset s ≡ Some v
    at i place same =
        let size : length (bytes_of abi s v) ≡ scalar_size abi s = length_bytes abi s v in
        let room : i + scalar_size abi s ≤ length h.bytes = aligned_room offset (scalar_size abi s) (length h.bytes) i place in
        let long : length (with_part i (bytes_of abi s v) h.bytes) ≡ length h.bytes = length_with i (bytes_of abi s v) h.bytes (omega arith) in
        ap (λ (x : Held). load_held abi x offset s) (sym same)
        ∙ ap (λ len. aligned offset (scalar_size abi s) len >>= λ k. Some (value_of abi s (part_at k (scalar_size abi s) (with_part i (bytes_of abi s v) h.bytes)))) long
        ∙ ap (λ o. o >>= λ k. Some (value_of abi s (part_at k (scalar_size abi s) (with_part i (bytes_of abi s v) h.bytes)))) place
        ∙ ap (λ n. Some (value_of abi s (part_at i n (with_part i (bytes_of abi s v) h.bytes)))) (sym size)
        ∙ ap (λ bs. Some (value_of abi s bs)) (part_again i (bytes_of abi s v) h.bytes (omega arith))
        ∙ ap Some (kept abi s v is)

-- a value that is stored is loaded again
pub load_again : (abi : Abi) (m k : Memory) (p : Pointer) (s : Scalar) (v : Value) → IsValue abi s v → store abi m p s v ≡ Some k → load abi k p s ≡ Some v
load_again abi m k p s v is e =
    let found = changed_some m p.name (λ h. store_held abi h p.offset s v) k e in
    ap (λ (x : Memory). load abi x p s) (sym found.4)
    ∙ ap (λ o. o >>= λ h. load_held abi h p.offset s) (held_here m p.name (Some found.1))
    ∙ loads_again abi found.0 found.1 p.offset s v is found.3

-- a store under one name leaves what has another
pub load_other : (abi : Abi) (m k : Memory) (p q : Pointer) (s t : Scalar) (v : Value) → same_name p.name q.name ≡ false → store abi m p s v ≡ Some k → load abi k q t ≡ load abi m q t
load_other abi m k p q s t v ne e =
    let found = changed_some m p.name (λ h. store_held abi h p.offset s v) k e in
    ap (λ (x : Memory). load abi x q t) (sym found.4) ∙ ap (λ o. o >>= λ h. load_held abi h q.offset t) (held_there m p.name q.name (Some found.1) ne)

bytes_again : (h j : Held) (offset : ℤ) (new : List Byte) → store_part h offset new ≡ Some j → load_part j offset (length new) ≡ Some new
bytes_again h j offset new e =
    let found = write_some h (inside offset (length new) (length h.bytes)) new j e in
    at found.0 found.1 found.2
  where
    at : (i : ℕ) → inside offset (length new) (length h.bytes) ≡ Some i → written h i new ≡ j → load_part j offset (length new) ≡ Some new
    at i place same =
        let room : i + length new ≤ length h.bytes = inside_room offset (length new) (length h.bytes) i place in
        ap (λ (x : Held). load_part x offset (length new)) (sym same)
        ∙ ap (λ len. inside offset (length new) len >>= λ k. Some (part_at k (length new) (with_part i new h.bytes))) (length_with i new h.bytes room)
        ∙ ap (λ o. o >>= λ k. Some (part_at k (length new) (with_part i new h.bytes))) place
        ∙ ap Some (part_again i new h.bytes (omega arith))

-- bytes that are stored are loaded again
pub load_bytes_again : (m k : Memory) (p : Pointer) (new : List Byte) → store_bytes m p new ≡ Some k → load_bytes k p (length new) ≡ Some new
load_bytes_again m k p new e =
    let found = changed_some m p.name (λ h. store_part h p.offset new) k e in
    ap (λ (x : Memory). load_bytes x p (length new)) (sym found.4)
    ∙ ap (λ o. o >>= λ h. load_part h p.offset (length new)) (held_here m p.name (Some found.1))
    ∙ bytes_again found.0 found.1 p.offset new found.3
