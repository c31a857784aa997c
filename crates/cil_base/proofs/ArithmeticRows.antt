-- Device: worked rows of integer arithmetic, at int and wider kinds the same as gcc gives for LP64 and, with -m32, for ILP32 where C11 defines a result.
use Rattle.std.proofs.Common.{◌≡◌, Some, None, pos, negsuc, refl}
use Rattle.cil_base.specs.declared.kinds.IntKind.TheVariants.{Char, UChar, Int, UInt, Long, ULong, LLong, Long4, ULong4}
use Rattle.cil_base.specs.declared.operators.BinOp.TheVariants.{Mul, Div, Rem, Add, Sub, Shl, Shr, Lt, Ge, Eq, Ne, And, Xor, Or}
use Rattle.cil_base.specs.declared.operators.UnOp.TheVariants.{Neg, Compl, Not}
use Rattle.cil_base.specs.Arithmetic.{arith_of, unary_of}

int_min_div_minus_1 : arith_of Div Int (negsuc 2147483647) (negsuc 0) ≡ None
int_min_div_minus_1 = refl

int_min_rem_minus_1 : arith_of Rem Int (negsuc 2147483647) (negsuc 0) ≡ None
int_min_rem_minus_1 = refl

long_int_min_div_minus_1 : arith_of Div Long (negsuc 2147483647) (negsuc 0) ≡ Some (pos 2147483648)
long_int_min_div_minus_1 = refl

one_shl_31 : arith_of Shl Int (pos 1) (pos 31) ≡ None
one_shl_31 = refl

one_shl_30 : arith_of Shl Int (pos 1) (pos 30) ≡ Some (pos 1073741824)
one_shl_30 = refl

minus_1_shl_0 : arith_of Shl Int (negsuc 0) (pos 0) ≡ None
minus_1_shl_0 = refl

one_u_shl_31 : arith_of Shl UInt (pos 1) (pos 31) ≡ Some (pos 2147483648)
one_u_shl_31 = refl

three_u_shl_31 : arith_of Shl UInt (pos 3) (pos 31) ≡ Some (pos 2147483648)
three_u_shl_31 = refl

one_u_shl_32 : arith_of Shl UInt (pos 1) (pos 32) ≡ None
one_u_shl_32 = refl

one_shl_minus_1 : arith_of Shl Int (pos 1) (negsuc 0) ≡ None
one_shl_minus_1 = refl

one_shl_ulong_max : arith_of Shl ULong (pos 1) (pos 18446744073709551615) ≡ None
one_shl_ulong_max = refl

one_ul_shl_63 : arith_of Shl ULong (pos 1) (pos 63) ≡ Some (pos 9223372036854775808)
one_ul_shl_63 = refl

minus_8_shr_1 : arith_of Shr Int (negsuc 7) (pos 1) ≡ Some (negsuc 3)
minus_8_shr_1 = refl

minus_1_shr_31 : arith_of Shr Int (negsuc 0) (pos 31) ≡ Some (negsuc 0)
minus_1_shr_31 = refl

eight_shr_32 : arith_of Shr Int (pos 8) (pos 32) ≡ None
eight_shr_32 = refl

uint_max_plus_1 : arith_of Add UInt (pos 4294967295) (pos 1) ≡ Some (pos 0)
uint_max_plus_1 = refl

int_max_plus_1 : arith_of Add Int (pos 2147483647) (pos 1) ≡ None
int_max_plus_1 = refl

int_min_minus_1 : arith_of Sub Int (negsuc 2147483647) (pos 1) ≡ None
int_min_minus_1 = refl

zero_u_minus_1 : arith_of Sub ULong (pos 0) (pos 1) ≡ Some (pos 18446744073709551615)
zero_u_minus_1 = refl

ulong_max_squared : arith_of Mul ULong (pos 18446744073709551615) (pos 18446744073709551615) ≡ Some (pos 1)
ulong_max_squared = refl

long_min_times_minus_1 : arith_of Mul Long (negsuc 9223372036854775807) (negsuc 0) ≡ None
long_min_times_minus_1 = refl

minus_7_div_2 : arith_of Div Int (negsuc 6) (pos 2) ≡ Some (negsuc 2)
minus_7_div_2 = refl

minus_7_rem_2 : arith_of Rem Int (negsuc 6) (pos 2) ≡ Some (negsuc 0)
minus_7_rem_2 = refl

seven_div_0 : arith_of Div Int (pos 7) (pos 0) ≡ None
seven_div_0 = refl

seven_u_rem_0 : arith_of Rem UInt (pos 7) (pos 0) ≡ None
seven_u_rem_0 = refl

long4_max_plus_1 : arith_of Add Long4 (pos 2147483647) (pos 1) ≡ None
long4_max_plus_1 = refl

ulong4_max_plus_1 : arith_of Add ULong4 (pos 4294967295) (pos 1) ≡ Some (pos 0)
ulong4_max_plus_1 = refl

ulong4_max_squared : arith_of Mul ULong4 (pos 4294967295) (pos 4294967295) ≡ Some (pos 1)
ulong4_max_squared = refl

one_ul4_shl_32 : arith_of Shl ULong4 (pos 1) (pos 32) ≡ None
one_ul4_shl_32 = refl

minus_1_less_0 : arith_of Lt Int (negsuc 0) (pos 0) ≡ Some (pos 1)
minus_1_less_0 = refl

one_not_less_1 : arith_of Lt LLong (pos 1) (pos 1) ≡ Some (pos 0)
one_not_less_1 = refl

one_at_least_1 : arith_of Ge LLong (pos 1) (pos 1) ≡ Some (pos 1)
one_at_least_1 = refl

two_equal_2 : arith_of Eq Int (pos 2) (pos 2) ≡ Some (pos 1)
two_equal_2 = refl

two_differ_3 : arith_of Ne Int (pos 2) (pos 3) ≡ Some (pos 1)
two_differ_3 = refl

minus_1_and_255 : arith_of And Int (negsuc 0) (pos 255) ≡ Some (pos 255)
minus_1_and_255 = refl

minus_2_or_1 : arith_of Or Int (negsuc 1) (pos 1) ≡ Some (negsuc 0)
minus_2_or_1 = refl

minus_1_xor_5 : arith_of Xor Long (negsuc 0) (pos 5) ≡ Some (negsuc 5)
minus_1_xor_5 = refl

uint_xor : arith_of Xor UInt (pos 4294967295) (pos 5) ≡ Some (pos 4294967290)
uint_xor = refl

char_plus : arith_of Add Char (pos 100) (pos 100) ≡ None
char_plus = refl

uchar_plus : arith_of Add UChar (pos 200) (pos 100) ≡ Some (pos 44)
uchar_plus = refl

minus_int_min : unary_of Neg Int (negsuc 2147483647) ≡ None
minus_int_min = refl

minus_1_u : unary_of Neg UInt (pos 1) ≡ Some (pos 4294967295)
minus_1_u = refl

complement_0 : unary_of Compl Int (pos 0) ≡ Some (negsuc 0)
complement_0 = refl

complement_5_u : unary_of Compl UInt (pos 5) ≡ Some (pos 4294967290)
complement_5_u = refl

not_0 : unary_of Not Long (pos 0) ≡ Some (pos 1)
not_0 = refl

not_minus_3 : unary_of Not Long (negsuc 2) ≡ Some (pos 0)
not_minus_3 = refl
