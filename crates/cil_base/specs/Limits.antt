-- Definition: the limits of the product (C11 5.2.4.1; own where it asks for none), each once.
use Rattle.std.specs.Prelude.{ℕ}

-- bytes of a translation unit
abbrev pub unit_bytes : ℕ
unit_bytes = 4194304

-- bytes of all translation units of a merge together
abbrev pub total_bytes : ℕ
total_bytes = 16777216

-- bytes of a CIL text
abbrev pub text_bytes : ℕ
text_bytes = 268435456

-- steps of a run where no other bound is given
abbrev pub run_steps : ℕ
run_steps = 10000000

-- bytes of an object or type
abbrev pub object_bytes : ℕ
object_bytes = 2147483647

-- objects that a function declares, its parameters among them
abbrev pub function_locals : ℕ
function_locals = 65535

-- scalars that an initialiser for an object of automatic storage duration sets
abbrev pub initialised_scalars : ℕ
initialised_scalars = 65536
