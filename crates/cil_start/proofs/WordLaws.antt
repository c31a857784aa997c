-- Device: the arguments of a program are filled one after another.
use Rattle.std.proofs.Common.{◌≡◌, ℕ, zero, suc, ◌+◌, ◌-◌, ◌<◌, ◌≤◌, true, false, cond, nat_eq, nat_le, List, [], ◌∷◌, ◌++◌, length, map, drop, take, get_or, replicate, Option, Some, None, refl, sym, ap, ◌∙◌, subst, arith, append_assoc, append-nil}
use Rattle.std.specs.Prelude.{pos}
use Rattle.cil_base.specs.declared.kinds.Abi.{Abi}
use Rattle.cil_base.specs.declared.kinds.Abi.TheVariants.{Lp64, Ilp32}
use Rattle.cil_base.specs.Integer.{pointer_size_of}
use Rattle.byte_mem.specs.declared.pointers.ObjName.{ObjName}
use Rattle.byte_mem.specs.declared.pointers.ObjName.TheVariants.{Entity, Local, Literal, Heap, Argument}
use Rattle.byte_mem.specs.declared.pointers.Pointer.{Pointer}
use Rattle.byte_mem.specs.declared.values.Byte.{Byte}
use Rattle.byte_mem.specs.declared.values.Byte.TheVariants.{Known, Part}
use Rattle.byte_mem.specs.declared.values.Scalar.TheVariants.{Ptr as OfPointer}
use Rattle.byte_mem.specs.declared.values.Value.TheVariants.{Int}
use Rattle.byte_mem.specs.declared.stores.Store.{Store}
use Rattle.byte_mem.specs.Steps.{◌>>=◌, only_if}
use Rattle.byte_mem.specs.Scalar.{bytes_of, parts_of}
use Rattle.byte_mem.specs.Object.{Held, new_held, with_part, store_part}
use Rattle.byte_mem.specs.Memory.{Memory, with_held, make, store_bytes}
use Rattle.byte_mem.specs.Store.{memory, Stored, Becomes}
use Rattle.byte_mem.specs.Layers.{slot}
use Rattle.byte_mem.proofs.StoreLemmas.{same_memory}
use Rattle.byte_mem.proofs.AgainLemmas.{held_here}
use Rattle.byte_mem.proofs.ObjectLemmas.{replicate_long}
use Rattle.execution.specs.Runs.{memory_of, words_held, word_held, word_pointers, writable}
use Rattle.cil_start.proofs.Writings.{held_twice}

-- what is put at the end of a list of slots
slot_push : (xs : List (Option Held)) (o : Option Held) (i : ℕ) → slot (xs ++ o ∷ []) i ≡ cond (nat_eq (length xs) i) o (slot xs i)
slot_push [] o zero = refl
slot_push [] o (suc i) = ap (λ b. cond b o None) (let e : false ≡ nat_eq 0 (suc i) = grind arith in e)
slot_push (x ∷ xs) o zero = ap (λ b. cond b o x) (let e : false ≡ nat_eq (suc (length xs)) 0 = grind arith in e)
slot_push (x ∷ xs) o (suc i) = slot_push xs o i ∙ ap (λ b. cond b o (slot xs i)) (let e : nat_eq (length xs) i ≡ nat_eq (suc (length xs)) (suc i) = grind arith in e)

pub entities_push : (es : List (Option Held)) (o : Option Held) (i : ℕ) → i ≡ length es → memory_of (es ++ o ∷ []) [] ≡ with_held (memory_of es []) (Entity (record { 0 = i })) o
entities_push es o i e = same_memory (memory_of (es ++ o ∷ []) []) (with_held (memory_of es []) (Entity (record { 0 = i })) o) by
  where
    by : (x : ObjName) → memory_of (es ++ o ∷ []) [] x ≡ with_held (memory_of es []) (Entity (record { 0 = i })) o x
    by (Entity n) = slot_push es o n.0 ∙ ap (λ k. cond (nat_eq k n.0) o (slot es n.0)) (sym e)
    by (Local act n) = refl
    by (Literal n) = refl
    by (Heap n) = refl
    by (Argument n) = refl

words_push : (es ws : List (Option Held)) (o : Option Held) (i : ℕ) → i ≡ length ws → memory_of es (ws ++ o ∷ []) ≡ with_held (memory_of es ws) (Argument i) o
words_push es ws o i e = same_memory (memory_of es (ws ++ o ∷ [])) (with_held (memory_of es ws) (Argument i) o) by
  where
    by : (x : ObjName) → memory_of es (ws ++ o ∷ []) x ≡ with_held (memory_of es ws) (Argument i) o x
    by (Entity n) = refl
    by (Local act n) = refl
    by (Literal n) = refl
    by (Heap n) = refl
    by (Argument n) = slot_push ws o n ∙ ap (λ k. cond (nat_eq k n) o (slot ws n)) (sym e)

-- a pointer's parts, one after another
pub parts_begin : (bytes : List Byte) (p : Pointer) (size : ℕ) → bytes ++ parts_of p 0 (size - 0) ≡ bytes ++ parts_of p 0 size
parts_begin bytes p size = ap (λ n. bytes ++ parts_of p 0 n) (let e : size - 0 ≡ size = omega arith in e)

pub parts_next : (old new all : List Byte) (p : Pointer) (size k : ℕ) → k < size → new ≡ old ++ Part p k ∷ [] → old ++ parts_of p k (size - k) ≡ all → new ++ parts_of p (k + 1) (size - (k + 1)) ≡ all
parts_next old new all p size k h e is =
    ap (λ (bs : List Byte). bs ++ parts_of p (k + 1) (size - (k + 1))) e
    ∙ append_assoc old (Part p k ∷ []) (parts_of p (k + 1) (size - (k + 1)))
    ∙ ap (λ (j : ℕ). old ++ Part p k ∷ parts_of p j (size - (k + 1))) (let d : k + 1 ≡ suc k = omega arith in d)
    ∙ ap (λ (n : ℕ). old ++ parts_of p k n) (let d : suc (size - (k + 1)) ≡ size - k = omega arith in d)
    ∙ is

pub parts_end : (bytes all : List Byte) (p : Pointer) (size k : ℕ) → size ≤ k → bytes ++ parts_of p k (size - k) ≡ all → bytes ≡ all
parts_end bytes all p size k h is = sym (append-nil bytes) ∙ ap (λ (n : ℕ). bytes ++ parts_of p k n) (let d : 0 ≡ size - k = omega arith in d) ∙ is

-- zero bytes, one after another
pub zeros_begin : (bytes : List Byte) (size : ℕ) → bytes ++ replicate (size - 0) (Known 0) ≡ bytes ++ replicate size (Known 0)
zeros_begin bytes size = ap (λ n. bytes ++ replicate n (Known 0)) (let e : size - 0 ≡ size = omega arith in e)

pub zeros_next : (old new all : List Byte) (size k : ℕ) → k < size → new ≡ old ++ Known 0 ∷ [] → old ++ replicate (size - k) (Known 0) ≡ all → new ++ replicate (size - (k + 1)) (Known 0) ≡ all
zeros_next old new all size k h e is =
    ap (λ (bs : List Byte). bs ++ replicate (size - (k + 1)) (Known 0)) e
    ∙ append_assoc old (Known 0 ∷ []) (replicate (size - (k + 1)) (Known 0))
    ∙ ap (λ (n : ℕ). old ++ replicate n (Known 0)) (let d : suc (size - (k + 1)) ≡ size - k = omega arith in d)
    ∙ is

pub zeros_end : (bytes all : List Byte) (size k : ℕ) → size ≤ k → bytes ++ replicate (size - k) (Known 0) ≡ all → bytes ≡ all
zeros_end bytes all size k h is = sym (append-nil bytes) ∙ ap (λ (n : ℕ). bytes ++ replicate n (Known 0)) (let d : 0 ≡ size - k = omega arith in d) ∙ is

-- pointers to words, one after another
word_after : (xs : List (List ℕ)) (i : ℕ) → i < length xs → (w : List ℕ) × (drop i xs ≡ w ∷ drop (suc i) xs)
word_after [] i h = absurd (omega arith)
word_after (x ∷ xs) zero h = (x, refl)
word_after (x ∷ xs) (suc i) h = word_after xs i (omega arith)

next_word : (xs : List (List ℕ)) (i : ℕ) → i < length xs → (w : List ℕ) × (drop i xs ≡ w ∷ drop (i + 1) xs)
next_word xs i h =
    let w = word_after xs i h in
    (w.0, w.1 ∙ ap (λ (k : ℕ). w.0 ∷ drop k xs) (let one : suc i ≡ i + 1 = omega arith in one))

pub no_words : (xs : List (List ℕ)) (i : ℕ) → length xs ≤ i → drop i xs ≡ []
no_words [] zero h = refl
no_words [] (suc i) h = refl
no_words (x ∷ xs) zero h = absurd (omega arith)
no_words (x ∷ xs) (suc i) h = no_words xs i (omega arith)

pub pointers_next : (xs : List (List ℕ)) (abi : Abi) (old new all : List Byte) (i size : ℕ) → i < length xs → size ≡ pointer_size_of abi
    → new ≡ old ++ parts_of (record { name = Argument (i + 1); offset = pos 0 }) 0 size → old ++ word_pointers abi i (drop i xs) ≡ all → new ++ word_pointers abi (i + 1) (drop (i + 1) xs) ≡ all
pointers_next xs abi old new all i size h s e is =
    let w = next_word xs i h in
    let one : i + 1 ≡ suc i = omega arith in
    let p : Pointer = record { name = Argument (suc i); offset = pos 0 } in
    let rest = drop (i + 1) xs in
    let is_new : new ≡ old ++ parts_of p 0 (pointer_size_of abi) = e ∙ ap (λ (k : ℕ). old ++ parts_of (record { name = Argument k; offset = pos 0 }) 0 size) one ∙ ap (λ (k : ℕ). old ++ parts_of p 0 k) s in
    ap (λ (bs : List Byte). bs ++ word_pointers abi (i + 1) rest) is_new
    ∙ append_assoc old (parts_of p 0 (pointer_size_of abi)) (word_pointers abi (i + 1) rest)
    ∙ ap (λ (k : ℕ). old ++ (parts_of p 0 (pointer_size_of abi) ++ word_pointers abi k rest)) one
    ∙ sym (ap (λ (ws : List (List ℕ)). old ++ word_pointers abi i ws) w.1)
    ∙ is

null_is : (abi : Abi) → replicate (pointer_size_of abi) (Known 0) ≡ bytes_of abi OfPointer (Int (pos 0))
null_is Lp64 = refl
null_is Ilp32 = refl

pub pointers_end : (xs : List (List ℕ)) (abi : Abi) (old new all : List Byte) (i size : ℕ) → length xs ≤ i → size ≡ pointer_size_of abi → new ≡ old ++ replicate size (Known 0)
    → old ++ word_pointers abi i (drop i xs) ≡ all → new ≡ all
pointers_end xs abi old new all i size h s e is =
    e ∙ ap (λ (k : ℕ). old ++ replicate k (Known 0)) s ∙ ap (λ (bs : List Byte). old ++ bs) (null_is abi) ∙ sym (ap (λ (ws : List (List ℕ)). old ++ word_pointers abi i ws) (no_words xs i h)) ∙ is

all_written : (bytes : List Byte) (n : ℕ) → n ≡ length bytes → with_part 0 bytes (replicate n (Known 0)) ≡ bytes
all_written bytes n e = ap (λ (bs : List Byte). bytes ++ bs) (dropped (0 + length bytes) n (omega (arith, e))) ∙ append-nil bytes
  where
    dropped : (k n : ℕ) → n ≤ k → drop k (replicate n (Known 0)) ≡ []
    dropped zero zero h = refl
    dropped (suc k) zero h = refl
    dropped zero (suc n) h = absurd (omega arith)
    dropped (suc k) (suc n) h = dropped k n (omega arith)

le_is : (a b : ℕ) → a ≤ b → nat_le a b ≡ true
le_is a b h = grind arith

-- an argument that is made, and filled whole
pub filled : (r : Option (Unit {0})) (old mid new : Store) (i n : ℕ) (bytes : List Byte) → n ≡ length bytes → Becomes old mid (make (memory old) (Argument i) n (Known 0) false)
    → Stored r mid new (store_bytes (memory mid) (record { name = Argument i; offset = pos 0 }) bytes) → Becomes old new (with_held (memory old) (Argument i) (Some (writable bytes)))
filled r old mid new i n bytes e b s = by r s
  where
    held : memory mid (Argument i) ≡ Some (writable (replicate n (Known 0)))
    held = ap (λ (m : Memory). m (Argument i)) b.0 ∙ held_here (memory old) (Argument i) (Some (new_held n (Known 0) false))

    room : nat_le (0 + length bytes) (length (replicate n (Known 0))) ≡ true
    room = let h : 0 + length bytes ≤ length (replicate n (Known 0)) = omega (arith, replicate_long n (Known 0), e) in le_is (0 + length bytes) (length (replicate n (Known 0))) h

    done : store_bytes (memory mid) (record { name = Argument i; offset = pos 0 }) bytes ≡ Some (with_held (memory mid) (Argument i) (Some (writable bytes)))
    done =
        ap (λ (o : Option Held). (o >>= λ h. store_part h (pos 0) bytes) >>= λ h. Some (with_held (memory mid) (Argument i) (Some h))) held
        ∙ ap (λ t. (only_if t 0 >>= λ k. Some (writable (with_part k bytes (replicate n (Known 0))))) >>= λ h. Some (with_held (memory mid) (Argument i) (Some h))) room
        ∙ ap (λ (bs : List Byte). Some (with_held (memory mid) (Argument i) (Some (writable bs)))) (all_written bytes n e)

    by : (r : Option (Unit {0})) → Stored r mid new (store_bytes (memory mid) (record { name = Argument i; offset = pos 0 }) bytes) → Becomes old new (with_held (memory old) (Argument i) (Some (writable bytes)))
    by None s = let wrong : None ≡ Some (with_held (memory mid) (Argument i) (Some (writable bytes))) = sym s.0 ∙ done in cc
    by (Some u) s =
        let both : Some (memory new) ≡ Some (with_held (memory mid) (Argument i) (Some (writable bytes))) = sym s.0 ∙ done in
        let same : memory new ≡ with_held (memory mid) (Argument i) (Some (writable bytes)) = ap (λ (o : Option Memory). elim o [ None ↦ memory new | Some m ↦ m ]) both in
        (same ∙ ap (λ (m : Memory). with_held m (Argument i) (Some (writable bytes))) b.0 ∙ held_twice (memory old) (Argument i) (Some (new_held n (Known 0) false)) (Some (writable bytes)), s.1 ∙ b.1)

pub filled_by : (r : Option (Unit {0})) (old mid new : Store) (i n : ℕ) (b bytes : List Byte) → b ≡ bytes → n ≡ length bytes → Becomes old mid (make (memory old) (Argument i) n (Known 0) false)
    → Stored r mid new (store_bytes (memory mid) (record { name = Argument i; offset = pos 0 }) b) → Becomes old new (with_held (memory old) (Argument i) (Some (writable bytes)))
filled_by r old mid new i n b bytes same e made s =
    filled r old mid new i n bytes e made (subst (λ (bs : List Byte). Stored r mid new (store_bytes (memory mid) (record { name = Argument i; offset = pos 0 }) bs)) same s)

-- a word, and a zero byte behind it
pub word_filled : (w : List ℕ) (bytes new : List Byte) → bytes ≡ map (λ b. Known b) w → new ≡ bytes ++ replicate 1 (Known 0) → Some (writable new) ≡ word_held w
word_filled w bytes new e is = ap (λ (bs : List Byte). Some (writable bs)) (is ∙ ap (λ (bs : List Byte). bs ++ Known 0 ∷ []) e)

-- the arguments, one after another
pub arguments_begin : (es : List (Option Held)) (abi : Abi) (words : List (List ℕ)) (old new : Memory) (bytes : List Byte) → old ≡ memory_of es [] → bytes ≡ word_pointers abi 0 words
    → new ≡ with_held old (Argument 0) (Some (writable bytes)) → new ≡ memory_of es (take (0 + 1) (words_held abi words))
arguments_begin es abi words old new bytes e b is =
    is ∙ ap (λ (m : Memory). with_held m (Argument 0) (Some (writable bytes))) e ∙ ap (λ (bs : List Byte). with_held (memory_of es []) (Argument 0) (Some (writable bs))) b ∙ sym (words_push es [] (Some (writable (word_pointers abi 0 words))) 0 refl)

taken : (xs : List (Option Held)) (i : ℕ) (d : Option Held) → i < length xs → (take (suc i) xs ≡ take i xs ++ get_or xs i d ∷ []) × (length (take i xs) ≡ i)
taken [] i d h = absurd (omega arith)
taken (x ∷ xs) zero d h = (refl, refl)
taken (x ∷ xs) (suc i) d h = let t = taken xs i d (omega arith) in (ap (λ (ys : List (Option Held)). x ∷ ys) t.0, ap suc t.1)

word_there : (xs : List (List ℕ)) (i : ℕ) (r : List ℕ) → i < length xs → r ≡ get_or xs i r → (get_or (map word_held xs) i None ≡ word_held r) × (i < length (map word_held xs))
word_there [] i r h e = absurd (omega arith)
word_there (x ∷ xs) zero r h e = (ap word_held (sym e), omega arith)
word_there (x ∷ xs) (suc i) r h e = let t = word_there xs i r (omega arith) e in (t.0, omega (arith, t.1))

pub arguments_next : (xs : List (List ℕ)) (es : List (Option Held)) (abi : Abi) (old new : Memory) (i : ℕ) (r : List ℕ) (bytes : List Byte) → i < length xs → r ≡ get_or xs i r → Some (writable bytes) ≡ word_held r
    → old ≡ memory_of es (take (i + 1) (words_held abi xs)) → new ≡ with_held old (Argument (i + 1)) (Some (writable bytes)) → new ≡ memory_of es (take (i + 1 + 1) (words_held abi xs))
arguments_next xs es abi old new i r bytes h e w is step =
    let all = words_held abi xs in
    let there = word_there xs i r h e in
    let one : i + 1 ≡ suc i = omega arith in
    let two : i + 1 + 1 ≡ suc (suc i) = omega arith in
    let t = taken (map word_held xs) i None there.1 in
    let longer : take (suc (suc i)) all ≡ take (suc i) all ++ word_held r ∷ [] = ap (λ (ys : List (Option Held)). Some (writable (word_pointers abi 0 xs)) ∷ ys) (t.0 ∙ ap (λ (o : Option Held). take i (map word_held xs) ++ o ∷ []) there.0) in
    let count : suc i ≡ length (take (suc i) all) = ap suc (sym t.1) in
    step ∙ ap (λ (m : Memory). with_held m (Argument (i + 1)) (Some (writable bytes))) (is ∙ ap (λ (k : ℕ). memory_of es (take k all)) one)
    ∙ ap (λ (k : ℕ). with_held (memory_of es (take (suc i) all)) (Argument k) (Some (writable bytes))) one
    ∙ ap (with_held (memory_of es (take (suc i) all)) (Argument (suc i))) w
    ∙ sym (words_push es (take (suc i) all) (word_held r) (suc i) count)
    ∙ ap (memory_of es) (sym longer)
    ∙ ap (λ (k : ℕ). memory_of es (take k all)) (sym two)

take_all : (xs : List (Option Held)) (n : ℕ) → length xs ≤ n → take n xs ≡ xs
take_all [] zero h = refl
take_all [] (suc n) h = refl
take_all (x ∷ xs) zero h = absurd (omega arith)
take_all (x ∷ xs) (suc n) h = ap (λ (ys : List (Option Held)). x ∷ ys) (take_all xs n (omega arith))

words_count : (xs : List (List ℕ)) → length (map word_held xs) ≡ length xs
words_count [] = refl
words_count (x ∷ xs) = ap suc (words_count xs)

pub arguments_end : (xs : List (List ℕ)) (es : List (Option Held)) (abi : Abi) (m : Memory) (i : ℕ) → length xs ≤ i → m ≡ memory_of es (take (i + 1) (words_held abi xs)) → m ≡ memory_of es (words_held abi xs)
arguments_end xs es abi m i h is = is ∙ ap (memory_of es) (take_all (words_held abi xs) (i + 1) (omega (arith, words_count xs)))
