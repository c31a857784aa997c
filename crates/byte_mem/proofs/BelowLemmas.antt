-- Device: each load, store and operator keeps the order of memories under a one-to-one map of names.
use Rattle.std.proofs.Common.{◌≡◌, ◌≢◌, ℕ, zero, suc, ◌+◌, ◌*◌, ◌/◌, Bool, true, false, cond, ◌&&◌, ◌||◌, not, List, [], ◌∷◌, ◌++◌, length, take, drop, replicate, Option, Some, None, ℤ, pos, ◌+ℤ◌, ◌*ℤ◌, ◌-ℤ◌, neg_ℤ, int_div, int_rem, int_lt, int_le, refl, sym, ap, ◌∙◌, subst, arith}
use Rattle.std.specs.Prelude.{nat_eq, nat_lt}
use Rattle.std.specs.Option.{option_map}
use Rattle.std.specs.Ordering.{int_eq}
use Rattle.std.proofs.lemmas.Bool.{false≢true}
use Rattle.std.proofs.lemmas.Option.{none-some}
use Rattle.std.proofs.lemmas.List.{length-replicate}
use Rattle.cil_base.specs.declared.kinds.Abi.{Abi}
use Rattle.cil_base.specs.declared.kinds.IntKind.{IntKind}
use Rattle.cil_base.specs.declared.operators.BinOp.{BinOp}
use Rattle.cil_base.specs.declared.operators.BinOp.TheVariants.{Mul, Div, Rem, Add, Sub, Shl, Shr, Lt, Gt, Le, Ge, Eq, Ne, And, Xor, Or}
use Rattle.cil_base.specs.declared.operators.UnOp.{UnOp}
use Rattle.cil_base.specs.Integer.{wrapped, long_of, pointer_size_of}
use Rattle.cil_base.specs.Arithmetic.{arith_of, fits, unary_of, bits_of}
use Rattle.byte_mem.specs.declared.pointers.ObjName.{ObjName}
use Rattle.byte_mem.specs.declared.pointers.Pointer.{Pointer}
use Rattle.byte_mem.specs.declared.values.Byte.{Byte}
use Rattle.byte_mem.specs.declared.values.Byte.TheVariants.{Known, Unknown as Blank, Part as Fragment}
use Rattle.byte_mem.specs.declared.values.Scalar.{Scalar}
use Rattle.byte_mem.specs.declared.values.Scalar.TheVariants.{Int as OfKind, Ptr as OfPointer}
use Rattle.byte_mem.specs.declared.values.Value.{Value}
use Rattle.byte_mem.specs.declared.values.Value.TheVariants.{Int, Ptr, Unknown, Part}
use Rattle.byte_mem.specs.Steps.{◌>>=◌, only_if}
use Rattle.byte_mem.specs.Name.{same_name, same_pointer}
use Rattle.byte_mem.specs.Scalar.{kind_of, scalar_size, is_boolean, number_of, low_bytes, parts_of, number_value, goes_on, whole_pointer, lone_part, parts_value, value_with, value_of, bytes_of}
use Rattle.byte_mem.specs.Object.{Held, part_at, with_part, inside, aligned, load_held, load_part, write_at, store_held, store_part, fill_part, new_held, function_held, protect_held}
use Rattle.byte_mem.specs.Memory.{Memory, with_held, make, make_function, end_object, protect, load, load_bytes, changed, store, store_bytes, fill}
use Rattle.byte_mem.specs.Operator.{is_boolean_scalar, converted, converted_pointer, converted_part, number_in, pointer_in, place_of, in_reach, reached, truth, is_past_end, equal_pointers, equal_null, equal, offsets_in, offsets, ordered, compared, further_pointer, further, pointer_sum, pointer_less, distance, pointer_difference, member_place, computed, unary}
use Rattle.byte_mem.specs.Below.{Names, IsOneToOne, moved, BelowByte, BelowBytes, BelowValue, Lift, Same, BelowHeld, BelowMemory}
use Rattle.byte_mem.proofs.NameLemmas.{name_same, name_itself}

-- steps

pub lift_bind : {A B C D : Type 0} (R : A → B → Type 0) (S : C → D → Type 0) (o : Option A) (u : Option B) (g : A → Option C) (h : B → Option D) → Lift R o u → ((a : A) (b : B) → R a b → Lift S (g a) (h b)) → Lift S (o >>= g) (u >>= h)
lift_bind R S None u g h r k = tt
lift_bind R S (Some a) None g h r k = absurd r
lift_bind R S (Some a) (Some b) g h r k = k a b r

pub at_bind : {A C D : Type 0} (S : C → D → Type 0) (o : Option A) (g : A → Option C) (h : A → Option D) → ((a : A) → Lift S (g a) (h a)) → Lift S (o >>= g) (o >>= h)
at_bind S None g h k = tt
at_bind S (Some a) g h k = k a

pub lift_only : {A B : Type 0} (R : A → B → Type 0) (t : Bool) (a : A) (b : B) → R a b → Lift R (only_if t a) (only_if t b)
lift_only R true a b r = r
lift_only R false a b r = tt

pub lift_map : {A B C D : Type 0} (R : A → B → Type 0) (S : C → D → Type 0) (o : Option A) (u : Option B) (g : A → C) (h : B → D) → Lift R o u → ((a : A) (b : B) → R a b → S (g a) (h b)) → Lift S (option_map g o) (option_map h u)
lift_map R S None u g h r k = tt
lift_map R S (Some a) None g h r k = absurd r
lift_map R S (Some a) (Some b) g h r k = k a b r

pub lift_same : {A : Type 0} (o : Option A) → Lift Same o o
lift_same None = tt
lift_same (Some a) = refl

-- names

pub name_moved : (f : Names) → IsOneToOne f → (a b : ObjName) → same_name (f a) (f b) ≡ same_name a b
name_moved f h a b = by (same_name a b) (same_name (f a) (f b)) refl refl
  where
    by : (t u : Bool) → same_name a b ≡ t → same_name (f a) (f b) ≡ u → u ≡ t
    by true true e d = refl
    by true false e d = sym d ∙ ap (λ x. same_name (f a) x) (ap f (sym (name_same a b e))) ∙ name_itself (f a)
    by false true e d = sym (sym e ∙ ap (same_name a) (sym (h a b (name_same (f a) (f b) d))) ∙ name_itself a)
    by false false e d = refl

pointer_moved : (f : Names) → IsOneToOne f → (p q : Pointer) → same_pointer (moved f p) (moved f q) ≡ same_pointer p q
pointer_moved f h p q = ap (λ t. t && int_eq p.offset q.offset) (name_moved f h p.name q.name)

-- bytes

pub length_below : (f : Names) (xs ys : List Byte) → BelowBytes f xs ys → length ys ≡ length xs
length_below f [] [] r = refl
length_below f [] (y ∷ ys) r = absurd r
length_below f (x ∷ xs) [] r = absurd r
length_below f (x ∷ xs) (y ∷ ys) r = ap suc (length_below f xs ys r.1)

take_below : (f : Names) (n : ℕ) (xs ys : List Byte) → BelowBytes f xs ys → BelowBytes f (take n xs) (take n ys)
take_below f zero [] [] r = tt
take_below f zero [] (y ∷ ys) r = absurd r
take_below f zero (x ∷ xs) [] r = absurd r
take_below f zero (x ∷ xs) (y ∷ ys) r = tt
take_below f (suc n) [] [] r = tt
take_below f (suc n) [] (y ∷ ys) r = absurd r
take_below f (suc n) (x ∷ xs) [] r = absurd r
take_below f (suc n) (x ∷ xs) (y ∷ ys) r = (r.0, take_below f n xs ys r.1)

drop_below : (f : Names) (n : ℕ) (xs ys : List Byte) → BelowBytes f xs ys → BelowBytes f (drop n xs) (drop n ys)
drop_below f zero xs ys r = r
drop_below f (suc n) [] [] r = tt
drop_below f (suc n) [] (y ∷ ys) r = absurd r
drop_below f (suc n) (x ∷ xs) [] r = absurd r
drop_below f (suc n) (x ∷ xs) (y ∷ ys) r = drop_below f n xs ys r.1

append_below : (f : Names) (xs ys bs cs : List Byte) → BelowBytes f xs ys → BelowBytes f bs cs → BelowBytes f (xs ++ bs) (ys ++ cs)
append_below f [] [] bs cs r s = s
append_below f [] (y ∷ ys) bs cs r s = absurd r
append_below f (x ∷ xs) [] bs cs r s = absurd r
append_below f (x ∷ xs) (y ∷ ys) bs cs r s = (r.0, append_below f xs ys bs cs r.1 s)

pub part_below : (f : Names) (i n : ℕ) (xs ys : List Byte) → BelowBytes f xs ys → BelowBytes f (part_at i n xs) (part_at i n ys)
part_below f i n xs ys r = take_below f n (drop i xs) (drop i ys) (drop_below f i xs ys r)

pub with_part_below : (f : Names) (i : ℕ) (new more xs ys : List Byte) → BelowBytes f new more → BelowBytes f xs ys → BelowBytes f (with_part i new xs) (with_part i more ys)
with_part_below f i new more xs ys s r =
    subst (λ (n : ℕ). BelowBytes f (with_part i new xs) (take i ys ++ (more ++ drop (i + n) ys))) (sym (length_below f new more s))
    (append_below f (take i xs) (take i ys) (new ++ drop (i + length new) xs) (more ++ drop (i + length new) ys) (take_below f i xs ys r)
    (append_below f new more (drop (i + length new) xs) (drop (i + length new) ys) s (drop_below f (i + length new) xs ys r)))

pub equal_below : (f : Names) (n : ℕ) (b c : Byte) → BelowByte f b c → BelowBytes f (replicate n b) (replicate n c)
equal_below f zero b c r = tt
equal_below f (suc n) b c r = (r, equal_below f n b c r)

known_below : (f : Names) (n m : ℕ) → BelowBytes f (low_bytes n m) (low_bytes n m)
known_below f zero m = tt
known_below f (suc n) m = (refl, known_below f n (m / 256))

fragments_below : (f : Names) (p : Pointer) (k n : ℕ) → BelowBytes f (parts_of p k n) (parts_of (moved f p) k n)
fragments_below f p k zero = tt
fragments_below f p k (suc n) = (refl, fragments_below f p (suc k) n)

blank_below : (f : Names) (n : ℕ) (ys : List Byte) → length ys ≡ n → BelowBytes f (replicate n Blank) ys
blank_below f zero [] e = tt
blank_below f zero (y ∷ ys) e = absurd (omega arith)
blank_below f (suc n) [] e = absurd (omega arith)
blank_below f (suc n) (y ∷ ys) e = (tt, blank_below f n ys (omega arith))

length_low : (n m : ℕ) → length (low_bytes n m) ≡ n
length_low zero m = refl
length_low (suc n) m = ap suc (length_low n (m / 256))

length_parts : (p : Pointer) (k n : ℕ) → length (parts_of p k n) ≡ n
length_parts p k zero = refl
length_parts p k (suc n) = ap suc (length_parts p (suc k) n)

pub length_bytes : (abi : Abi) (s : Scalar) (v : Value) → length (bytes_of abi s v) ≡ scalar_size abi s
length_bytes abi s (Int v) = length_low (scalar_size abi s) (bits_of (kind_of abi s) v)
length_bytes abi s (Ptr p) = length_parts p 0 (scalar_size abi s)
length_bytes abi s Unknown = length-replicate (scalar_size abi s) Blank
length_bytes abi s (Part p k) = length-replicate (scalar_size abi s) (Fragment p k)

-- values

pub bytes_below : (f : Names) (abi : Abi) (s : Scalar) (v w : Value) → BelowValue f v w → BelowBytes f (bytes_of abi s v) (bytes_of abi s w)
bytes_below f abi s (Int v) w r = subst (λ (x : Value). BelowBytes f (bytes_of abi s (Int v)) (bytes_of abi s x)) (sym r) (known_below f (scalar_size abi s) (bits_of (kind_of abi s) v))
bytes_below f abi s (Ptr p) w r = subst (λ (x : Value). BelowBytes f (bytes_of abi s (Ptr p)) (bytes_of abi s x)) (sym r) (fragments_below f p 0 (scalar_size abi s))
bytes_below f abi s Unknown w r = blank_below f (scalar_size abi s) (bytes_of abi s w) (length_bytes abi s w)
bytes_below f abi s (Part p k) w r = subst (λ (x : Value). BelowBytes f (bytes_of abi s (Part p k)) (bytes_of abi s x)) (sym r) (equal_below f (scalar_size abi s) (Fragment p k) (Fragment (moved f p) k) refl)

number_below : (f : Names) (xs ys : List Byte) (n : ℕ) → BelowBytes f xs ys → number_of xs ≡ Some n → number_of ys ≡ Some n
number_below f [] [] n r e = e
number_below f [] (y ∷ ys) n r e = absurd r
number_below f (x ∷ xs) [] n r e = absurd r
number_below f (Known b ∷ xs) (y ∷ ys) n r e =
    ap (λ (x : Byte). number_of (x ∷ ys)) r.0 ∙ by (number_of xs) (λ m. number_below f xs ys m r.1) refl ∙ e
  where
    by : (o : Option ℕ) → ((m : ℕ) → number_of xs ≡ Some m → number_of ys ≡ Some m) → number_of xs ≡ o → option_map (λ m. b + 256 * m) (number_of ys) ≡ option_map (λ m. b + 256 * m) (number_of xs)
    by (Some m) rest d = ap (option_map (λ m. b + 256 * m)) (rest m d ∙ sym d)
    by None rest d = absurd (none-some n (sym (ap (option_map (λ m. b + 256 * m)) d) ∙ e))
number_below f (Blank ∷ xs) (y ∷ ys) n r e = absurd (none-some n e)
number_below f (Fragment p k ∷ xs) (y ∷ ys) n r e = absurd (none-some n e)

plain_below : (f : Names) (kind : IntKind) (n : ℕ) → BelowValue f (number_value kind n) (number_value kind n)
plain_below f kind n = by (is_boolean kind && nat_lt 1 n)
  where
    by : (t : Bool) → BelowValue f (cond t Unknown (Int (wrapped kind (pos n)))) (cond t Unknown (Int (wrapped kind (pos n))))
    by true = tt
    by false = refl

unknown_below : (f : Names) (t u : Bool) (w : Value) → BelowValue f (cond t Unknown (cond u Unknown Unknown)) w
unknown_below f true u w = tt
unknown_below f false true w = tt
unknown_below f false false w = tt

goes_on_moved : (f : Names) → IsOneToOne f → (p : Pointer) (k : ℕ) (xs ys : List Byte) → BelowBytes f xs ys → goes_on p k xs ≡ true → goes_on (moved f p) k ys ≡ true
goes_on_moved f h p k [] [] r e = refl
goes_on_moved f h p k [] (y ∷ ys) r e = absurd r
goes_on_moved f h p k (x ∷ xs) [] r e = absurd r
goes_on_moved f h p k (Known b ∷ xs) (y ∷ ys) r e = absurd (false≢true e)
goes_on_moved f h p k (Blank ∷ xs) (y ∷ ys) r e = absurd (false≢true e)
goes_on_moved f h p k (Fragment q j ∷ xs) (y ∷ ys) r e =
    ap (λ (x : Byte). goes_on (moved f p) k (x ∷ ys)) r.0
    ∙ ap (λ t. t && (nat_eq k j && goes_on (moved f p) (suc k) ys)) (pointer_moved f h p q)
    ∙ by (same_pointer p q) (nat_eq k j) (goes_on_moved f h p (suc k) xs ys r.1) e
  where
    by : (t u : Bool) → (goes_on p (suc k) xs ≡ true → goes_on (moved f p) (suc k) ys ≡ true) → (t && (u && goes_on p (suc k) xs)) ≡ true → (t && (u && goes_on (moved f p) (suc k) ys)) ≡ true
    by true true rest d = rest d
    by true false rest d = d
    by false u rest d = d

lone_below : (f : Names) (p : Pointer) (k : ℕ) (xs ys : List Byte) → BelowBytes f xs ys → BelowValue f (lone_part (Fragment p k ∷ xs)) (lone_part (Fragment (moved f p) k ∷ ys))
lone_below f p k [] [] r = refl
lone_below f p k [] (y ∷ ys) r = absurd r
lone_below f p k (x ∷ xs) [] r = absurd r
lone_below f p k (x ∷ xs) (y ∷ ys) r = tt

whole_below : (f : Names) → IsOneToOne f → (p : Pointer) (k : ℕ) (xs ys : List Byte) → BelowBytes f xs ys → BelowValue f (whole_pointer (Fragment p k ∷ xs)) (whole_pointer (Fragment (moved f p) k ∷ ys))
whole_below f h p k xs ys r = by (nat_eq k 0) (goes_on p 1 xs) refl
  where
    by : (t u : Bool) → goes_on p 1 xs ≡ u → BelowValue f (cond (t && u) (Ptr p) Unknown) (cond (t && goes_on (moved f p) 1 ys) (Ptr (moved f p)) Unknown)
    by true true e = ap (λ g. cond g (Ptr (moved f p)) Unknown) (goes_on_moved f h p 1 xs ys r e)
    by true false e = tt
    by false u e = tt

choice_below : (f : Names) (t u : Bool) (a b c d : Value) → BelowValue f a b → BelowValue f c d → BelowValue f (cond t a (cond u c Unknown)) (cond t b (cond u d Unknown))
choice_below f true u a b c d r s = r
choice_below f false true a b c d r s = s
choice_below f false false a b c d r s = tt

fragment_below : (f : Names) → IsOneToOne f → (abi : Abi) (s : Scalar) (xs ys : List Byte) → BelowBytes f xs ys → number_of xs ≡ None → BelowValue f (parts_value (pointer_size_of abi) (scalar_size abi s) xs) (value_of abi s ys)
fragment_below f h abi s [] ys r e = absurd (none-some 0 (sym e))
fragment_below f h abi s (x ∷ xs) [] r e = absurd r
fragment_below f h abi s (Known b ∷ xs) (y ∷ ys) r e = unknown_below f (nat_eq (scalar_size abi s) 1) (nat_eq (scalar_size abi s) (pointer_size_of abi)) (value_of abi s (y ∷ ys))
fragment_below f h abi s (Blank ∷ xs) (y ∷ ys) r e = unknown_below f (nat_eq (scalar_size abi s) 1) (nat_eq (scalar_size abi s) (pointer_size_of abi)) (value_of abi s (y ∷ ys))
fragment_below f h abi s (Fragment p k ∷ xs) (y ∷ ys) r e =
    subst (λ (b : Byte). BelowValue f (parts_value (pointer_size_of abi) (scalar_size abi s) (Fragment p k ∷ xs)) (value_of abi s (b ∷ ys))) (sym r.0)
    (choice_below f (nat_eq (scalar_size abi s) 1) (nat_eq (scalar_size abi s) (pointer_size_of abi)) (lone_part (Fragment p k ∷ xs)) (lone_part (Fragment (moved f p) k ∷ ys)) (whole_pointer (Fragment p k ∷ xs)) (whole_pointer (Fragment (moved f p) k ∷ ys))
    (lone_below f p k xs ys r.1) (whole_below f h p k xs ys r.1))

pub value_below : (f : Names) → IsOneToOne f → (abi : Abi) (s : Scalar) (xs ys : List Byte) → BelowBytes f xs ys → BelowValue f (value_of abi s xs) (value_of abi s ys)
value_below f h abi s xs ys r = by (number_of xs) refl
  where
    by : (o : Option ℕ) → number_of xs ≡ o → BelowValue f (value_with abi s xs o) (value_of abi s ys)
    by (Some n) e = subst (λ (o : Option ℕ). BelowValue f (number_value (kind_of abi s) n) (value_with abi s ys o)) (sym (number_below f xs ys n r e)) (plain_below f (kind_of abi s) n)
    by None e = fragment_below f h abi s xs ys r e

-- objects and memories

pub load_held_below : (f : Names) → IsOneToOne f → (abi : Abi) (h k : Held) (offset : ℤ) (s : Scalar) → BelowHeld f h k → Lift (BelowValue f) (load_held abi h offset s) (load_held abi k offset s)
load_held_below f o abi h k offset s r =
    subst (λ (n : ℕ). Lift (BelowValue f) (load_held abi h offset s) (aligned offset (scalar_size abi s) n >>= λ i. Some (value_of abi s (part_at i (scalar_size abi s) k.bytes)))) (sym (length_below f h.bytes k.bytes r.bytes))
    (at_bind (BelowValue f) (aligned offset (scalar_size abi s) (length h.bytes)) (λ i. Some (value_of abi s (part_at i (scalar_size abi s) h.bytes))) (λ i. Some (value_of abi s (part_at i (scalar_size abi s) k.bytes)))
    (λ i. value_below f o abi s (part_at i (scalar_size abi s) h.bytes) (part_at i (scalar_size abi s) k.bytes) (part_below f i (scalar_size abi s) h.bytes k.bytes r.bytes)))

pub load_part_below : (f : Names) (h k : Held) (offset : ℤ) (n : ℕ) → BelowHeld f h k → Lift (BelowBytes f) (load_part h offset n) (load_part k offset n)
load_part_below f h k offset n r =
    subst (λ (m : ℕ). Lift (BelowBytes f) (load_part h offset n) (inside offset n m >>= λ i. Some (part_at i n k.bytes))) (sym (length_below f h.bytes k.bytes r.bytes))
    (at_bind (BelowBytes f) (inside offset n (length h.bytes)) (λ i. Some (part_at i n h.bytes)) (λ i. Some (part_at i n k.bytes)) (λ i. part_below f i n h.bytes k.bytes r.bytes))

allowed_below : {A B : Type 0} (R : A → B → Type 0) (t u : Bool) (a : A) (b : B) → (t ≡ false → u ≡ false) → R a b → Lift R (only_if (not t) a) (only_if (not u) b)
allowed_below R true u a b w r = tt
allowed_below R false true a b w r = absurd (false≢true (sym (w refl)))
allowed_below R false false a b w r = r

write_below : (f : Names) (h k : Held) (place : Option ℕ) (new more : List Byte) → BelowHeld f h k → BelowBytes f new more → Lift (BelowHeld f) (write_at h place new) (write_at k place more)
write_below f h k place new more r s =
    at_bind (BelowHeld f) place
    (λ i. only_if (not h.read_only) (record { function = h.function; read_only = h.read_only; bytes = with_part i new h.bytes }))
    (λ i. only_if (not k.read_only) (record { function = k.function; read_only = k.read_only; bytes = with_part i more k.bytes }))
    (λ i. allowed_below (BelowHeld f) h.read_only k.read_only
    (record { function = h.function; read_only = h.read_only; bytes = with_part i new h.bytes })
    (record { function = k.function; read_only = k.read_only; bytes = with_part i more k.bytes }) r.writable
    (record { function = r.function; writable = r.writable; bytes = with_part_below f i new more h.bytes k.bytes s r.bytes }))

pub store_held_below : (f : Names) (abi : Abi) (h k : Held) (offset : ℤ) (s : Scalar) (v w : Value) → BelowHeld f h k → BelowValue f v w → Lift (BelowHeld f) (store_held abi h offset s v) (store_held abi k offset s w)
store_held_below f abi h k offset s v w r q =
    subst (λ (n : ℕ). Lift (BelowHeld f) (store_held abi h offset s v) (write_at k (aligned offset (scalar_size abi s) n) (bytes_of abi s w))) (sym (length_below f h.bytes k.bytes r.bytes))
    (write_below f h k (aligned offset (scalar_size abi s) (length h.bytes)) (bytes_of abi s v) (bytes_of abi s w) r (bytes_below f abi s v w q))

pub store_part_below : (f : Names) (h k : Held) (offset : ℤ) (new more : List Byte) → BelowHeld f h k → BelowBytes f new more → Lift (BelowHeld f) (store_part h offset new) (store_part k offset more)
store_part_below f h k offset new more r s =
    subst (λ (n : ℕ). Lift (BelowHeld f) (store_part h offset new) (write_at k (inside offset n (length k.bytes)) more)) (sym (length_below f new more s))
    (subst (λ (n : ℕ). Lift (BelowHeld f) (store_part h offset new) (write_at k (inside offset (length new) n) more)) (sym (length_below f h.bytes k.bytes r.bytes))
    (write_below f h k (inside offset (length new) (length h.bytes)) new more r s))

pub with_below : (f : Names) → IsOneToOne f → (m n : Memory) (x : ObjName) (h k : Option Held) → BelowMemory f m n → Lift (BelowHeld f) h k → BelowMemory f (with_held m x h) (with_held n (f x) k)
with_below f o m n x h k r s y = subst (λ (t : Bool). Lift (BelowHeld f) (with_held m x h y) (cond t k (n (f y)))) (sym (name_moved f o x y)) (by (same_name x y))
  where
    by : (t : Bool) → Lift (BelowHeld f) (cond t h (m y)) (cond t k (n (f y)))
    by true = s
    by false = r y

pub changed_below : (f : Names) → IsOneToOne f → (m n : Memory) (x : ObjName) (g k : Held → Option Held) → BelowMemory f m n → ((h : Held) (j : Held) → BelowHeld f h j → Lift (BelowHeld f) (g h) (k j)) → Lift (BelowMemory f) (changed m x g) (changed n (f x) k)
changed_below f o m n x g k r s =
    lift_bind (BelowHeld f) (BelowMemory f) (m x >>= g) (n (f x) >>= k) (λ h. Some (with_held m x (Some h))) (λ h. Some (with_held n (f x) (Some h)))
    (lift_bind (BelowHeld f) (BelowHeld f) (m x) (n (f x)) g k (r x) s)
    (λ h j q. with_below f o m n x (Some h) (Some j) r q)

pub load_below : (f : Names) → IsOneToOne f → (abi : Abi) (m n : Memory) (p : Pointer) (s : Scalar) → BelowMemory f m n → Lift (BelowValue f) (load abi m p s) (load abi n (moved f p) s)
load_below f o abi m n p s r =
    lift_bind (BelowHeld f) (BelowValue f) (m p.name) (n (f p.name)) (λ h. load_held abi h p.offset s) (λ h. load_held abi h p.offset s) (r p.name) (λ h k q. load_held_below f o abi h k p.offset s q)

pub load_bytes_below : (f : Names) (m n : Memory) (p : Pointer) (len : ℕ) → BelowMemory f m n → Lift (BelowBytes f) (load_bytes m p len) (load_bytes n (moved f p) len)
load_bytes_below f m n p len r =
    lift_bind (BelowHeld f) (BelowBytes f) (m p.name) (n (f p.name)) (λ h. load_part h p.offset len) (λ h. load_part h p.offset len) (r p.name) (λ h k q. load_part_below f h k p.offset len q)

pub store_below : (f : Names) → IsOneToOne f → (abi : Abi) (m n : Memory) (p : Pointer) (s : Scalar) (v w : Value) → BelowMemory f m n → BelowValue f v w → Lift (BelowMemory f) (store abi m p s v) (store abi n (moved f p) s w)
store_below f o abi m n p s v w r q =
    changed_below f o m n p.name (λ h. store_held abi h p.offset s v) (λ h. store_held abi h p.offset s w) r (λ h k e. store_held_below f abi h k p.offset s v w e q)

pub store_bytes_below : (f : Names) → IsOneToOne f → (m n : Memory) (p : Pointer) (bs cs : List Byte) → BelowMemory f m n → BelowBytes f bs cs → Lift (BelowMemory f) (store_bytes m p bs) (store_bytes n (moved f p) cs)
store_bytes_below f o m n p bs cs r q =
    changed_below f o m n p.name (λ h. store_part h p.offset bs) (λ h. store_part h p.offset cs) r (λ h k e. store_part_below f h k p.offset bs cs e q)

pub fill_below : (f : Names) → IsOneToOne f → (m n : Memory) (p : Pointer) (len b : ℕ) → BelowMemory f m n → Lift (BelowMemory f) (fill m p len b) (fill n (moved f p) len b)
fill_below f o m n p len b r =
    changed_below f o m n p.name (λ h. fill_part h p.offset len b) (λ h. fill_part h p.offset len b) r
    (λ h k e. store_part_below f h k p.offset (replicate len (Known b)) (replicate len (Known b)) e (equal_below f len (Known b) (Known b) refl))

pub make_below : (f : Names) → IsOneToOne f → (m n : Memory) (x : ObjName) (size : ℕ) (b c : Byte) (t u : Bool) → BelowMemory f m n → BelowByte f b c → (t ≡ false → u ≡ false) → BelowMemory f (make m x size b t) (make n (f x) size c u)
make_below f o m n x size b c t u r q w =
    with_below f o m n x (Some (new_held size b t)) (Some (new_held size c u)) r (record { function = refl; writable = w; bytes = equal_below f size b c q })

pub make_function_below : (f : Names) → IsOneToOne f → (m n : Memory) (x : ObjName) → BelowMemory f m n → BelowMemory f (make_function m x) (make_function n (f x))
make_function_below f o m n x r =
    with_below f o m n x (Some function_held) (Some function_held) r (record { function = refl; writable = λ e. e; bytes = tt })

pub end_below : (f : Names) → IsOneToOne f → (m n : Memory) (x : ObjName) → BelowMemory f m n → BelowMemory f (end_object m x) (end_object n (f x))
end_below f o m n x r = with_below f o m n x None None r tt

-- an object may end in the first memory alone
pub end_first_below : (f : Names) (m n : Memory) (x : ObjName) → BelowMemory f m n → BelowMemory f (end_object m x) n
end_first_below f m n x r y = by (same_name x y)
  where
    by : (t : Bool) → Lift (BelowHeld f) (cond t None (m y)) (n (f y))
    by true = tt
    by false = r y

lift_protected : (f : Names) (h k : Option Held) (t u : Bool) → (t ≡ false → u ≡ false) → Lift (BelowHeld f) h k → Lift (BelowHeld f) (option_map (λ a. protect_held a t) h) (option_map (λ a. protect_held a u) k)
lift_protected f h k t u w r =
    lift_map (BelowHeld f) (BelowHeld f) h k (λ a. protect_held a t) (λ a. protect_held a u) r (λ a b q. record { function = q.function; writable = w; bytes = q.bytes })

pub protect_below : (f : Names) → IsOneToOne f → (m n : Memory) (x : ObjName) (t u : Bool) → BelowMemory f m n → (t ≡ false → u ≡ false) → BelowMemory f (protect m x t) (protect n (f x) u)
protect_below f o m n x t u r w =
    with_below f o m n x (option_map (λ h. protect_held h t) (m x)) (option_map (λ h. protect_held h u) (n (f x))) r (lift_protected f (m x) (n (f x)) t u w (r x))

-- an object may become read-only in the first memory alone
read_only_first : (f : Names) (h k : Option Held) → Lift (BelowHeld f) h k → Lift (BelowHeld f) (option_map (λ a. protect_held a true) h) k
read_only_first f None k r = tt
read_only_first f (Some a) None r = absurd r
read_only_first f (Some a) (Some b) r = record { function = r.function; writable = λ e. absurd (false≢true (sym e)); bytes = r.bytes }

pub protect_first_below : (f : Names) (m n : Memory) (x : ObjName) → BelowMemory f m n → BelowMemory f (protect m x true) n
protect_first_below f m n x r y = by (same_name x y) refl
  where
    by : (t : Bool) → same_name x y ≡ t → Lift (BelowHeld f) (cond t (option_map (λ a. protect_held a true) (m x)) (m y)) (n (f y))
    by true e = subst (λ (z : ObjName). Lift (BelowHeld f) (option_map (λ a. protect_held a true) (m x)) (n (f z))) (name_same x y e) (read_only_first f (m x) (n (f x)) (r x))
    by false e = r y

-- a name that the map gives to nothing may change in the second memory alone
pub second_alone_below : (f : Names) (m n : Memory) (y : ObjName) (o : Option Held) → ((x : ObjName) → f x ≢ y) → BelowMemory f m n → BelowMemory f m (with_held n y o)
second_alone_below f m n y o away r x = by (same_name y (f x)) refl
  where
    by : (t : Bool) → same_name y (f x) ≡ t → Lift (BelowHeld f) (m x) (cond t o (n (f x)))
    by true e = absurd (away x (sym (name_same y (f x) e)))
    by false e = r x

-- operators

abbrev pub IsMoved : Names → Pointer → Pointer → Type 0
IsMoved f p q = q ≡ moved f p

pub number_in_below : (f : Names) (v w : Value) → BelowValue f v w → Lift Same (number_in v) (number_in w)
number_in_below f (Int v) w r = subst (λ (x : Value). Lift Same (Some v) (number_in x)) (sym r) refl
number_in_below f (Ptr p) w r = tt
number_in_below f Unknown w r = tt
number_in_below f (Part p k) w r = tt

pub pointer_in_below : (f : Names) (v w : Value) → BelowValue f v w → Lift (IsMoved f) (pointer_in v) (pointer_in w)
pointer_in_below f (Int v) w r = tt
pointer_in_below f (Ptr p) w r = subst (λ (x : Value). Lift (IsMoved f) (Some p) (pointer_in x)) (sym r) refl
pointer_in_below f Unknown w r = tt
pointer_in_below f (Part p k) w r = tt

pub place_below : (f : Names) (v w : Value) → BelowValue f v w → Lift (BelowValue f) (place_of v) (place_of w)
place_below f (Int v) w r = subst (λ (x : Value). Lift (BelowValue f) (Some (Int v)) (place_of x)) (sym r) refl
place_below f (Ptr p) w r = subst (λ (x : Value). Lift (BelowValue f) (Some (Ptr p)) (place_of x)) (sym r) refl
place_below f Unknown w r = tt
place_below f (Part p k) w r = tt

-- a value is below itself where it holds no pointer, and a choice is below the choice of what is above
if_below : (f : Names) (t : Bool) (a b c d : Value) → BelowValue f a b → BelowValue f c d → BelowValue f (cond t a c) (cond t b d)
if_below f true a b c d r s = r
if_below f false a b c d r s = s

pub converted_below : (f : Names) (abi : Abi) (s : Scalar) (v w : Value) → BelowValue f v w → BelowValue f (converted abi s v) (converted abi s w)
converted_below f abi s (Int v) w r = ap (converted abi s) r
converted_below f abi s (Ptr p) w r =
    subst (λ (x : Value). BelowValue f (converted_pointer abi s p) (converted abi s x)) (sym r)
    (choice_below f (is_boolean_scalar s) (nat_eq (scalar_size abi s) (pointer_size_of abi)) (Int (pos 1)) (Int (pos 1)) (Ptr p) (Ptr (moved f p)) refl refl)
converted_below f abi s Unknown w r = tt
converted_below f abi s (Part p k) w r =
    subst (λ (x : Value). BelowValue f (converted_part abi s p k) (converted abi s x)) (sym r)
    (choice_below f (is_boolean_scalar s) (nat_eq (scalar_size abi s) 1) Unknown Unknown (Part p k) (Part (moved f p) k) tt refl)

pub reached_below : (f : Names) (m n : Memory) (p : Pointer) → BelowMemory f m n → Lift (BelowHeld f) (reached m p) (reached n (moved f p))
reached_below f m n p r =
    lift_bind (BelowHeld f) (BelowHeld f) (m p.name) (n (f p.name)) (λ h. only_if (in_reach p.offset (length h.bytes)) h) (λ h. only_if (in_reach p.offset (length h.bytes)) h) (r p.name)
    (λ h k q. subst (λ (len : ℕ). Lift (BelowHeld f) (only_if (in_reach p.offset (length h.bytes)) h) (only_if (in_reach p.offset len) k)) (sym (length_below f h.bytes k.bytes q.bytes))
    (lift_only (BelowHeld f) (in_reach p.offset (length h.bytes)) h k q))

tested_below : (f : Names) (m n : Memory) (p : Pointer) → BelowMemory f m n → Lift Same (reached m p >>= λ h. Some true) (reached n (moved f p) >>= λ h. Some true)
tested_below f m n p r = lift_bind (BelowHeld f) Same (reached m p) (reached n (moved f p)) (λ h. Some true) (λ h. Some true) (reached_below f m n p r) (λ h k q. refl)

pub truth_below : (f : Names) (m n : Memory) (s : Scalar) (v w : Value) → BelowMemory f m n → BelowValue f v w → Lift Same (truth m s v) (truth n s w)
truth_below f m n s (Int v) w r q = subst (λ (x : Value). Lift Same (truth m s (Int v)) (truth n s x)) (sym q) refl
truth_below f m n OfPointer (Ptr p) w r q = subst (λ (x : Value). Lift Same (truth m OfPointer (Ptr p)) (truth n OfPointer x)) (sym q) (tested_below f m n p r)
truth_below f m n (OfKind kind) (Ptr p) w r q = tt
truth_below f m n s Unknown w r q = tt
truth_below f m n s (Part p k) w r q = tt

past_end_below : (f : Names) (h k : Held) (offset : ℤ) → BelowHeld f h k → is_past_end k offset ≡ is_past_end h offset
past_end_below f h k offset r = ap (λ t. not t && int_eq offset (pos (length k.bytes))) r.function ∙ ap (λ len. not h.function && int_eq offset (pos len)) (length_below f h.bytes k.bytes r.bytes)

-- the comparison of two pointers that both lead to something
abbrev told : Bool → Bool → Bool → Pointer → Pointer → Option Bool
told same past over p q = cond same (Some (int_eq p.offset q.offset)) (only_if (not (past || over)) false)

abbrev told_at : Bool → Pointer → Pointer → Held → Held → Option Bool
told_at same p q h k = told same (is_past_end h p.offset) (is_past_end k q.offset) p q

told_below : (f : Names) → IsOneToOne f → (p q : Pointer) (h j k l : Held) → BelowHeld f h j → BelowHeld f k l → told_at (same_name (f p.name) (f q.name)) p q j l ≡ told_at (same_name p.name q.name) p q h k
told_below f o p q h j k l r s =
    ap (λ t. told_at t p q j l) (name_moved f o p.name q.name)
    ∙ ap (λ t. told (same_name p.name q.name) t (is_past_end l q.offset) p q) (past_end_below f h j p.offset r)
    ∙ ap (λ t. told (same_name p.name q.name) (is_past_end h p.offset) t p q) (past_end_below f k l q.offset s)

same_lift : {A : Type 0} (o u : Option A) → u ≡ o → Lift Same o u
same_lift o u e = subst (λ x. Lift Same o x) (sym e) (lift_same o)

pointers_below : (f : Names) → IsOneToOne f → (m n : Memory) (p q : Pointer) → BelowMemory f m n → Lift Same (equal_pointers m p q) (equal_pointers n (moved f p) (moved f q))
pointers_below f o m n p q r =
    lift_bind (BelowHeld f) Same (reached m p) (reached n (moved f p)) (λ h. reached m q >>= λ k. told_at (same_name p.name q.name) p q h k) (λ h. reached n (moved f q) >>= λ k. told_at (same_name (f p.name) (f q.name)) p q h k) (reached_below f m n p r)
    (λ h j e. lift_bind (BelowHeld f) Same (reached m q) (reached n (moved f q)) (λ k. told_at (same_name p.name q.name) p q h k) (λ k. told_at (same_name (f p.name) (f q.name)) p q j k) (reached_below f m n q r)
    (λ k l d. same_lift (told_at (same_name p.name q.name) p q h k) (told_at (same_name (f p.name) (f q.name)) p q j l) (told_below f o p q h j k l e d)))

null_below : (f : Names) (m n : Memory) (v : ℤ) (p : Pointer) → BelowMemory f m n → Lift Same (equal_null m v p) (equal_null n v (moved f p))
null_below f m n v p r =
    at_bind Same (only_if (int_eq v (pos 0)) false) (λ t. reached m p >>= λ h. Some t) (λ t. reached n (moved f p) >>= λ h. Some t)
    (λ t. lift_bind (BelowHeld f) Same (reached m p) (reached n (moved f p)) (λ h. Some t) (λ h. Some t) (reached_below f m n p r) (λ h k q. refl))

pub equal_values_below : (f : Names) → IsOneToOne f → (m n : Memory) (v w a b : Value) → BelowMemory f m n → BelowValue f v a → BelowValue f w b → Lift Same (equal m v w) (equal n a b)
equal_values_below f o m n (Int v) (Int w) a b r s t = same_lift (equal m (Int v) (Int w)) (equal n a b) (ap (λ (x : Value). equal n x b) s ∙ ap (λ (y : Value). equal n (Int v) y) t)
equal_values_below f o m n (Int v) (Ptr q) a b r s t =
    subst (λ (x : Value). Lift Same (equal_null m v q) (equal n x b)) (sym s) (subst (λ (y : Value). Lift Same (equal_null m v q) (equal n (Int v) y)) (sym t) (null_below f m n v q r))
equal_values_below f o m n (Int v) Unknown a b r s t = tt
equal_values_below f o m n (Int v) (Part q k) a b r s t = tt
equal_values_below f o m n (Ptr p) (Int w) a b r s t =
    subst (λ (x : Value). Lift Same (equal_null m w p) (equal n x b)) (sym s) (subst (λ (y : Value). Lift Same (equal_null m w p) (equal n (Ptr (moved f p)) y)) (sym t) (null_below f m n w p r))
equal_values_below f o m n (Ptr p) (Ptr q) a b r s t =
    subst (λ (x : Value). Lift Same (equal_pointers m p q) (equal n x b)) (sym s) (subst (λ (y : Value). Lift Same (equal_pointers m p q) (equal n (Ptr (moved f p)) y)) (sym t) (pointers_below f o m n p q r))
equal_values_below f o m n (Ptr p) Unknown a b r s t = tt
equal_values_below f o m n (Ptr p) (Part q k) a b r s t = tt
equal_values_below f o m n Unknown w a b r s t = tt
equal_values_below f o m n (Part p k) w a b r s t = tt

offsets_in_below : (f : Names) → IsOneToOne f → (m n : Memory) (p q : Pointer) → BelowMemory f m n → Lift Same (offsets_in m p q) (offsets_in n (moved f p) (moved f q))
offsets_in_below f o m n p q r =
    lift_bind (BelowHeld f) Same (reached m p) (reached n (moved f p)) (λ h. reached m q >>= λ k. only_if (same_name p.name q.name) (p.offset, q.offset)) (λ h. reached n (moved f q) >>= λ k. only_if (same_name (f p.name) (f q.name)) (p.offset, q.offset)) (reached_below f m n p r)
    (λ h j e. lift_bind (BelowHeld f) Same (reached m q) (reached n (moved f q)) (λ k. only_if (same_name p.name q.name) (p.offset, q.offset)) (λ k. only_if (same_name (f p.name) (f q.name)) (p.offset, q.offset)) (reached_below f m n q r)
    (λ k l d. same_lift (only_if (same_name p.name q.name) (p.offset, q.offset)) (only_if (same_name (f p.name) (f q.name)) (p.offset, q.offset)) (ap (λ t. only_if t (p.offset, q.offset)) (name_moved f o p.name q.name))))

pub offsets_below : (f : Names) → IsOneToOne f → (m n : Memory) (v w a b : Value) → BelowMemory f m n → BelowValue f v a → BelowValue f w b → Lift Same (offsets m v w) (offsets n a b)
offsets_below f o m n v w a b r s t =
    lift_bind (IsMoved f) Same (pointer_in v) (pointer_in a) (λ p. pointer_in w >>= λ q. offsets_in m p q) (λ p. pointer_in b >>= λ q. offsets_in n p q) (pointer_in_below f v a s)
    (λ p x e. lift_bind (IsMoved f) Same (pointer_in w) (pointer_in b) (λ q. offsets_in m p q) (λ q. offsets_in n x q) (pointer_in_below f w b t)
    (λ q y d. subst (λ (z : Pointer). Lift Same (offsets_in m p q) (offsets_in n z y)) (sym e) (subst (λ (z : Pointer). Lift Same (offsets_in m p q) (offsets_in n (moved f p) z)) (sym d) (offsets_in_below f o m n p q r))))

ordered_below : (f : Names) → IsOneToOne f → (m n : Memory) (holds : ℤ → ℤ → Bool) (v w a b : Value) → BelowMemory f m n → BelowValue f v a → BelowValue f w b → Lift Same (ordered m holds v w) (ordered n holds a b)
ordered_below f o m n holds v w a b r s t =
    lift_map Same Same (offsets m v w) (offsets n a b) (λ x. holds x.0 x.1) (λ x. holds x.0 x.1) (offsets_below f o m n v w a b r s t) (λ x y e. ap (λ z. holds z.0 z.1) e)

pub compared_below : (f : Names) → IsOneToOne f → (m n : Memory) (op : BinOp) (v w a b : Value) → BelowMemory f m n → BelowValue f v a → BelowValue f w b → Lift Same (compared m op v w) (compared n op a b)
compared_below f o m n Eq v w a b r s t = equal_values_below f o m n v w a b r s t
compared_below f o m n Ne v w a b r s t = lift_map Same Same (equal m v w) (equal n a b) not not (equal_values_below f o m n v w a b r s t) (λ x y e. ap not e)
compared_below f o m n Lt v w a b r s t = ordered_below f o m n int_lt v w a b r s t
compared_below f o m n Gt v w a b r s t = ordered_below f o m n (λ a b. int_lt b a) v w a b r s t
compared_below f o m n Le v w a b r s t = ordered_below f o m n int_le v w a b r s t
compared_below f o m n Ge v w a b r s t = ordered_below f o m n (λ a b. int_le b a) v w a b r s t
compared_below f o m n Mul v w a b r s t = tt
compared_below f o m n Div v w a b r s t = tt
compared_below f o m n Rem v w a b r s t = tt
compared_below f o m n Add v w a b r s t = tt
compared_below f o m n Sub v w a b r s t = tt
compared_below f o m n Shl v w a b r s t = tt
compared_below f o m n Shr v w a b r s t = tt
compared_below f o m n And v w a b r s t = tt
compared_below f o m n Xor v w a b r s t = tt
compared_below f o m n Or v w a b r s t = tt

further_pointer_below : (f : Names) (m n : Memory) (p : Pointer) (count : ℤ) → BelowMemory f m n → Lift (BelowValue f) (further_pointer m p count) (further_pointer n (moved f p) count)
further_pointer_below f m n p count r =
    lift_bind (BelowHeld f) (BelowValue f) (reached m p) (reached n (moved f p))
    (λ h. only_if (in_reach (p.offset +ℤ count) (length h.bytes)) (Ptr (record { name = p.name; offset = p.offset +ℤ count })))
    (λ h. only_if (in_reach (p.offset +ℤ count) (length h.bytes)) (Ptr (record { name = f p.name; offset = p.offset +ℤ count }))) (reached_below f m n p r)
    (λ h k q. subst (λ (len : ℕ). Lift (BelowValue f) (only_if (in_reach (p.offset +ℤ count) (length h.bytes)) (Ptr (record { name = p.name; offset = p.offset +ℤ count }))) (only_if (in_reach (p.offset +ℤ count) len) (Ptr (record { name = f p.name; offset = p.offset +ℤ count })))) (sym (length_below f h.bytes k.bytes q.bytes))
    (lift_only (BelowValue f) (in_reach (p.offset +ℤ count) (length h.bytes)) (Ptr (record { name = p.name; offset = p.offset +ℤ count })) (Ptr (record { name = f p.name; offset = p.offset +ℤ count })) refl))

pub further_below : (f : Names) (m n : Memory) (v w : Value) (count : ℤ) → BelowMemory f m n → BelowValue f v w → Lift (BelowValue f) (further m v count) (further n w count)
further_below f m n v w count r s =
    lift_bind (IsMoved f) (BelowValue f) (pointer_in v) (pointer_in w) (λ p. further_pointer m p count) (λ p. further_pointer n p count) (pointer_in_below f v w s)
    (λ p q e. subst (λ (x : Pointer). Lift (BelowValue f) (further_pointer m p count) (further_pointer n x count)) (sym e) (further_pointer_below f m n p count r))

moved_by_below : (f : Names) (m n : Memory) (by : ℤ → ℤ) (v w i j : Value) → BelowMemory f m n → BelowValue f v w → BelowValue f i j → Lift (BelowValue f) (number_in i >>= λ c. further m v (by c)) (number_in j >>= λ c. further n w (by c))
moved_by_below f m n by v w i j r s t =
    lift_bind Same (BelowValue f) (number_in i) (number_in j) (λ c. further m v (by c)) (λ c. further n w (by c)) (number_in_below f i j t)
    (λ c d e. subst (λ (x : ℤ). Lift (BelowValue f) (further m v (by c)) (further n w (by x))) (sym e) (further_below f m n v w (by c) r s))

pub pointer_sum_below : (f : Names) (m n : Memory) (v w i j : Value) (size : ℕ) → BelowMemory f m n → BelowValue f v w → BelowValue f i j → Lift (BelowValue f) (pointer_sum m v i size) (pointer_sum n w j size)
pointer_sum_below f m n v w i j size r s t = moved_by_below f m n (λ c. c *ℤ pos size) v w i j r s t

pub pointer_less_below : (f : Names) (m n : Memory) (v w i j : Value) (size : ℕ) → BelowMemory f m n → BelowValue f v w → BelowValue f i j → Lift (BelowValue f) (pointer_less m v i size) (pointer_less n w j size)
pointer_less_below f m n v w i j size r s t = moved_by_below f m n (λ c. neg_ℤ (c *ℤ pos size)) v w i j r s t

pub pointer_difference_below : (f : Names) → IsOneToOne f → (abi : Abi) (m n : Memory) (v w a b : Value) (size : ℕ) → BelowMemory f m n → BelowValue f v a → BelowValue f w b → Lift (BelowValue f) (pointer_difference abi m v w size) (pointer_difference abi n a b size)
pointer_difference_below f o abi m n v w a b size r s t =
    lift_bind Same (BelowValue f) (offsets m v w) (offsets n a b) (distance abi size) (distance abi size) (offsets_below f o m n v w a b r s t)
    (λ x y e. subst (λ z. Lift (BelowValue f) (distance abi size x) (distance abi size z)) (sym e) (whole size x))
  where
    whole : (size : ℕ) (x : ℤ × ℤ) → Lift (BelowValue f) (distance abi size x) (distance abi size x)
    whole size x = lift_only (BelowValue f) (int_eq (int_rem (x.0 -ℤ x.1) (pos size)) (pos 0) && fits (long_of abi) (int_div (x.0 -ℤ x.1) (pos size))) (Int (int_div (x.0 -ℤ x.1) (pos size))) (Int (int_div (x.0 -ℤ x.1) (pos size))) refl

pub member_below : (f : Names) (m n : Memory) (v w : Value) (offset : ℕ) → BelowMemory f m n → BelowValue f v w → Lift (BelowValue f) (member_place m v offset) (member_place n w offset)
member_below f m n v w offset r s = further_below f m n v w (pos offset) r s

numbers_below : (f : Names) (o : Option ℤ) → Lift (BelowValue f) (option_map Int o) (option_map Int o)
numbers_below f None = tt
numbers_below f (Some n) = refl

pub computed_below : (f : Names) (op : BinOp) (kind : IntKind) (v w a b : Value) → BelowValue f v a → BelowValue f w b → Lift (BelowValue f) (computed op kind v w) (computed op kind a b)
computed_below f op kind v w a b s t =
    lift_bind Same (BelowValue f) (number_in v) (number_in a) (λ x. number_in w >>= λ y. option_map Int (arith_of op kind x y)) (λ x. number_in b >>= λ y. option_map Int (arith_of op kind x y)) (number_in_below f v a s)
    (λ x c e. lift_bind Same (BelowValue f) (number_in w) (number_in b) (λ y. option_map Int (arith_of op kind x y)) (λ y. option_map Int (arith_of op kind c y)) (number_in_below f w b t)
    (λ y d g. subst (λ (z : ℤ). Lift (BelowValue f) (option_map Int (arith_of op kind x y)) (option_map Int (arith_of op kind z d))) (sym e)
    (subst (λ (z : ℤ). Lift (BelowValue f) (option_map Int (arith_of op kind x y)) (option_map Int (arith_of op kind x z))) (sym g) (numbers_below f (arith_of op kind x y)))))

pub unary_below : (f : Names) (op : UnOp) (kind : IntKind) (v w : Value) → BelowValue f v w → Lift (BelowValue f) (unary op kind v) (unary op kind w)
unary_below f op kind v w s =
    lift_bind Same (BelowValue f) (number_in v) (number_in w) (λ x. option_map Int (unary_of op kind x)) (λ x. option_map Int (unary_of op kind x)) (number_in_below f v w s)
    (λ x y e. subst (λ (z : ℤ). Lift (BelowValue f) (option_map Int (unary_of op kind x)) (option_map Int (unary_of op kind z))) (sym e) (numbers_below f (unary_of op kind x)))
