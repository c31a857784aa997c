-- Device: worked rows of memory and of the operators on values.
use Rattle.std.proofs.Common.{◌≡◌, true, false, [], ◌∷◌, Option, Some, None, ℤ, pos, negsuc, refl}
use Rattle.cil_base.specs.declared.kinds.Abi.TheVariants.{Lp64}
use Rattle.cil_base.specs.declared.kinds.IntKind.TheVariants.{Bool as Boolean, Char, UChar, Short, Int as IntKind', UInt, Long, ULong}
use Rattle.cil_base.specs.declared.operators.BinOp.TheVariants.{Add, Lt, Le, Eq, Ne}
use Rattle.cil_base.specs.declared.operators.UnOp.TheVariants.{Neg}
use Rattle.byte_mem.specs.declared.pointers.ObjName.{ObjName}
use Rattle.byte_mem.specs.declared.pointers.ObjName.TheVariants.{Entity, Local, Heap}
use Rattle.byte_mem.specs.declared.pointers.Pointer.{Pointer}
use Rattle.byte_mem.specs.declared.values.Byte.TheVariants.{Known, Unknown as Blank}
use Rattle.byte_mem.specs.declared.values.Scalar.TheVariants.{Int as OfKind, Ptr as OfPointer}
use Rattle.byte_mem.specs.declared.values.Value.TheVariants.{Int, Ptr, Unknown, Part}
use Rattle.byte_mem.specs.Steps.{◌>>=◌}
use Rattle.byte_mem.specs.Scalar.{value_of, bytes_of}
use Rattle.byte_mem.specs.Memory.{Memory, no_memory, make, make_function, end_object, protect, live_size, load, load_bytes, store, store_bytes, zero}
use Rattle.byte_mem.specs.Operator.{converted, truth, compared, pointer_sum, pointer_less, pointer_difference, member_place, element_place, computed, unary}

-- an object of 8 bytes, one of 16, and a function
abbrev a : ObjName
a = Entity (record { 0 = 0 })

abbrev b : ObjName
b = Local 3 (record { 0 = 1 })

abbrev f : ObjName
f = Entity (record { 0 = 2 })

abbrev at : ObjName → ℤ → Pointer
at n offset = record { name = n; offset = offset }

abbrev start : Memory
start = make_function (make (make no_memory a 8 (Known 0) false) b 16 Blank false) f

-- a memory after a store, or an empty one
abbrev then : Option Memory → Memory
then None = no_memory
then (Some m) = m

-- numbers are little-endian
int_bytes : bytes_of Lp64 (OfKind IntKind') (Int (negsuc 1)) ≡ Known 254 ∷ Known 255 ∷ Known 255 ∷ Known 255 ∷ []
int_bytes = refl

int_loaded : (store Lp64 start (at a (pos 4)) (OfKind IntKind') (Int (negsuc 1)) >>= λ m. load Lp64 m (at a (pos 4)) (OfKind IntKind')) ≡ Some (Int (negsuc 1))
int_loaded = refl

high_byte_loaded : (store Lp64 start (at a (pos 4)) (OfKind IntKind') (Int (pos 258)) >>= λ m. load Lp64 m (at a (pos 5)) (OfKind Char)) ≡ Some (Int (pos 1))
high_byte_loaded = refl

-- C11 6.2.6.1p5: what is not known has no value
unknown_loaded : load Lp64 start (at b (pos 0)) (OfKind IntKind') ≡ Some Unknown
unknown_loaded = refl

-- a scalar has to lie in the object, at a multiple of its size
past_the_end : load Lp64 start (at a (pos 6)) (OfKind IntKind') ≡ None
past_the_end = refl

not_aligned : load Lp64 start (at a (pos 2)) (OfKind IntKind') ≡ None
not_aligned = refl

before_the_beginning : load Lp64 start (at a (negsuc 0)) (OfKind Char) ≡ None
before_the_beginning = refl

missing : load Lp64 start (at (Heap 0) (pos 0)) (OfKind Char) ≡ None
missing = refl

dead : load Lp64 (end_object start a) (at a (pos 0)) (OfKind Char) ≡ None
dead = refl

read_only : (store Lp64 (protect start a true) (at a (pos 0)) (OfKind Char) (Int (pos 1)) >>= λ m. live_size m a) ≡ None
read_only = refl

function_has_no_bytes : load Lp64 start (at f (pos 0)) (OfKind Char) ≡ None
function_has_no_bytes = refl

-- _Bool has the values 0 and 1
boolean_of_2 : value_of Lp64 (OfKind Boolean) (Known 2 ∷ []) ≡ Unknown
boolean_of_2 = refl

boolean_of_1 : value_of Lp64 (OfKind Boolean) (Known 1 ∷ []) ≡ Int (pos 1)
boolean_of_1 = refl

-- a pointer is whole where its parts are
abbrev held : Memory
held = then (store Lp64 start (at b (pos 8)) OfPointer (Ptr (at a (pos 4))))

pointer_loaded : load Lp64 held (at b (pos 8)) OfPointer ≡ Some (Ptr (at a (pos 4)))
pointer_loaded = refl

pointer_as_long : load Lp64 held (at b (pos 8)) (OfKind Long) ≡ Some (Ptr (at a (pos 4)))
pointer_as_long = refl

pointer_as_int : load Lp64 held (at b (pos 8)) (OfKind IntKind') ≡ Some Unknown
pointer_as_int = refl

pointer_as_char : load Lp64 held (at b (pos 11)) (OfKind Char) ≡ Some (Part (at a (pos 4)) 3)
pointer_as_char = refl

-- its bytes copied to another place make it whole there
pointer_copied : (load_bytes held (at b (pos 8)) 8 >>= λ bs. store_bytes held (at b (pos 0)) bs >>= λ m. load Lp64 m (at b (pos 0)) OfPointer) ≡ Some (Ptr (at a (pos 4)))
pointer_copied = refl

-- known bytes read as a pointer are a number
number_as_pointer : load Lp64 start (at a (pos 0)) OfPointer ≡ Some (Int (pos 0))
number_as_pointer = refl

zeroed : (zero held (at b (pos 8)) 8 >>= λ m. load Lp64 m (at b (pos 8)) (OfKind ULong)) ≡ Some (Int (pos 0))
zeroed = refl

-- conversions
pointer_to_bool : converted Lp64 (OfKind Boolean) (Ptr (at a (pos 0))) ≡ Int (pos 1)
pointer_to_bool = refl

pointer_to_int : converted Lp64 (OfKind UInt) (Ptr (at a (pos 0))) ≡ Unknown
pointer_to_int = refl

pointer_to_long : converted Lp64 (OfKind ULong) (Ptr (at a (pos 0))) ≡ Ptr (at a (pos 0))
pointer_to_long = refl

minus_one_to_pointer : converted Lp64 OfPointer (Int (negsuc 0)) ≡ Int (pos 18446744073709551615)
minus_one_to_pointer = refl

part_to_char : converted Lp64 (OfKind UChar) (Part (at a (pos 0)) 2) ≡ Part (at a (pos 0)) 2
part_to_char = refl

part_to_bool : converted Lp64 (OfKind Boolean) (Part (at a (pos 0)) 2) ≡ Unknown
part_to_bool = refl

part_to_short : converted Lp64 (OfKind Short) (Part (at a (pos 0)) 2) ≡ Unknown
part_to_short = refl

-- tests
null_is_false : truth start OfPointer (Int (pos 0)) ≡ Some false
null_is_false = refl

function_is_true : truth start OfPointer (Ptr (at f (pos 0))) ≡ Some true
function_is_true = refl

dead_is_not_tested : truth (end_object start a) OfPointer (Ptr (at a (pos 0))) ≡ None
dead_is_not_tested = refl

beyond_is_not_tested : truth start OfPointer (Ptr (at a (pos 9))) ≡ None
beyond_is_not_tested = refl

pointer_in_a_long_is_not_tested : truth start (OfKind Long) (Ptr (at a (pos 0))) ≡ None
pointer_in_a_long_is_not_tested = refl

-- comparisons
two_objects_differ : compared start Ne (Ptr (at a (pos 0))) (Ptr (at b (pos 0))) ≡ Some true
two_objects_differ = refl

past_the_end_of_another : compared start Eq (Ptr (at a (pos 8))) (Ptr (at b (pos 0))) ≡ None
past_the_end_of_another = refl

past_the_end_of_one : compared start Eq (Ptr (at a (pos 8))) (Ptr (at a (pos 8))) ≡ Some true
past_the_end_of_one = refl

function_and_object_differ : compared start Eq (Ptr (at f (pos 0))) (Ptr (at b (pos 0))) ≡ Some false
function_and_object_differ = refl

null_and_past_the_end : compared start Eq (Int (pos 0)) (Ptr (at a (pos 8))) ≡ Some false
null_and_past_the_end = refl

number_and_pointer : compared start Eq (Int (pos 1)) (Ptr (at a (pos 0))) ≡ None
number_and_pointer = refl

two_numbers : compared start Ne (Int (pos 1)) (Int (pos 2)) ≡ Some true
two_numbers = refl

order_in_one : compared start Lt (Ptr (at a (pos 0))) (Ptr (at a (pos 8))) ≡ Some true
order_in_one = refl

no_order_of_two : compared start Le (Ptr (at a (pos 0))) (Ptr (at b (pos 0))) ≡ None
no_order_of_two = refl

-- sums and differences
sum_to_the_end : pointer_sum start (Ptr (at a (pos 0))) (Int (pos 2)) 4 ≡ Some (Ptr (at a (pos 8)))
sum_to_the_end = refl

sum_beyond : pointer_sum start (Ptr (at a (pos 0))) (Int (pos 3)) 4 ≡ None
sum_beyond = refl

sum_backwards : pointer_less start (Ptr (at a (pos 8))) (Int (pos 1)) 4 ≡ Some (Ptr (at a (pos 4)))
sum_backwards = refl

null_plus_0 : pointer_sum start (Int (pos 0)) (Int (pos 0)) 1 ≡ None
null_plus_0 = refl

difference : pointer_difference Lp64 start (Ptr (at a (pos 0))) (Ptr (at a (pos 8))) 4 ≡ Some (Int (negsuc 1))
difference = refl

no_whole_difference : pointer_difference Lp64 start (Ptr (at a (pos 6))) (Ptr (at a (pos 0))) 4 ≡ None
no_whole_difference = refl

difference_of_two : pointer_difference Lp64 start (Ptr (at a (pos 0))) (Ptr (at b (pos 0))) 4 ≡ None
difference_of_two = refl

member : member_place start (Ptr (at b (pos 0))) 12 ≡ Some (Ptr (at b (pos 12)))
member = refl

element : element_place start (Ptr (at b (pos 4))) (Int (negsuc 0)) 4 ≡ Some (Ptr (at b (pos 0)))
element = refl

-- operators on numbers
sum_of_numbers : computed Add IntKind' (Int (pos 2)) (Int (pos 3)) ≡ Some (Int (pos 5))
sum_of_numbers = refl

overflow : computed Add IntKind' (Int (pos 2147483647)) (Int (pos 1)) ≡ None
overflow = refl

sum_with_a_pointer : computed Add Long (Ptr (at a (pos 0))) (Int (pos 3)) ≡ None
sum_with_a_pointer = refl

negated : unary Neg IntKind' (Int (pos 3)) ≡ Some (Int (negsuc 2))
negated = refl
