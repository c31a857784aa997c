-- Device: worked rows and laws of the integer types and their conversions.
use Rattle.std.proofs.Common.{◌≡◌, pos, negsuc, refl}
use Rattle.cil_base.specs.declared.kinds.IntKind.TheVariants.{Bool as Boolean, Char, UChar, Short, Int, UInt, Long, ULong, LLong, Long4, ULong4}
use Rattle.cil_base.specs.Integer.{least, greatest, wrapped}

int_min : least Int ≡ negsuc 2147483647
int_min = refl

ulong_max : greatest ULong ≡ pos 18446744073709551615
ulong_max = refl

long_min : least Long ≡ negsuc 9223372036854775807
long_min = refl

uchar_256 : wrapped UChar (pos 256) ≡ pos 0
uchar_256 = refl

uchar_minus_1 : wrapped UChar (negsuc 0) ≡ pos 255
uchar_minus_1 = refl

char_255 : wrapped Char (pos 255) ≡ negsuc 0
char_255 = refl

char_128 : wrapped Char (pos 128) ≡ negsuc 127
char_128 = refl

char_minus_129 : wrapped Char (negsuc 128) ≡ pos 127
char_minus_129 = refl

short_40000 : wrapped Short (pos 40000) ≡ negsuc 25535
short_40000 = refl

int_min_stays : wrapped Int (negsuc 2147483647) ≡ negsuc 2147483647
int_min_stays = refl

int_2_31 : wrapped Int (pos 2147483648) ≡ negsuc 2147483647
int_2_31 = refl

uint_minus_1 : wrapped UInt (negsuc 0) ≡ pos 4294967295
uint_minus_1 = refl

ulong_minus_1 : wrapped ULong (negsuc 0) ≡ pos 18446744073709551615
ulong_minus_1 = refl

llong_2_63 : wrapped LLong (pos 9223372036854775808) ≡ negsuc 9223372036854775807
llong_2_63 = refl

ulong4_minus_1 : wrapped ULong4 (negsuc 0) ≡ pos 4294967295
ulong4_minus_1 = refl

long4_2_31 : wrapped Long4 (pos 2147483648) ≡ negsuc 2147483647
long4_2_31 = refl

long4_min : least Long4 ≡ negsuc 2147483647
long4_min = refl

ulong4_max : greatest ULong4 ≡ pos 4294967295
ulong4_max = refl

bool_256 : wrapped Boolean (pos 256) ≡ pos 1
bool_256 = refl

bool_minus_2 : wrapped Boolean (negsuc 1) ≡ pos 1
bool_minus_2 = refl

bool_0 : wrapped Boolean (pos 0) ≡ pos 0
bool_0 = refl
