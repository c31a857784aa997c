-- Device: what a kind is the kind of.
use Rattle.std.specs.Prelude.{ℕ, Option, Some, None}
use Rattle.byte_mem.specs.declared.values.Scalar.{Scalar}
use Rattle.cil_code.specs.declared.calls.Kind.{Kind}
use Rattle.cil_code.specs.declared.calls.Kind.TheVariants.{Void as NoValue, Single as OneScalar, Bytes as OneSize}

-- the scalar that a kind is
abbrev pub single_in : Option Kind → Option Scalar
single_in None = None
single_in (Some NoValue) = None
single_in (Some (OneScalar s)) = Some s
single_in (Some (OneSize size)) = None

-- the size of a struct or union that a kind is
abbrev pub size_in : Option Kind → Option ℕ
size_in None = None
size_in (Some NoValue) = None
size_in (Some (OneScalar s)) = None
size_in (Some (OneSize size)) = Some size
