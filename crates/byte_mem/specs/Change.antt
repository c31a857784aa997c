-- Definition: a change of an object, and a call that changes something or answers None and leaves it as it was.
use Rattle.std.specs.Prelude.{◌≡◌, Option, Some, None, ℤ}
use Rattle.cil_base.specs.declared.kinds.Abi.{Abi}
use Rattle.byte_mem.specs.declared.objects.Change.{Change}
use Rattle.byte_mem.specs.declared.objects.Change.TheVariants.{Copy, Fill, Protect}
use Rattle.byte_mem.specs.declared.values.Scalar.{Scalar}
use Rattle.byte_mem.specs.declared.values.Value.{Value}
use Rattle.byte_mem.specs.Steps.{◌>>=◌}
use Rattle.byte_mem.specs.Object.{Held, store_held, store_part, fill_part, protect_held}

abbrev pub changed_held : ℤ → Change → Held → Option Held
changed_held offset (Copy bytes) h = store_part h offset bytes.now
changed_held offset (Fill n b) h = fill_part h offset n b
changed_held offset (Protect read_only) h = Some (protect_held h read_only)

-- what is live under a name, after a change
abbrev pub changed_live : ℤ → Change → Option Held → Option Held
changed_live offset change o = o >>= changed_held offset change

-- the same after a store of a scalar
abbrev pub stored_live : Abi → ℤ → Scalar → Value → Option Held → Option Held
stored_live abi offset s v o = o >>= λ h. store_held abi h offset s v

-- None: the change is undefined, and nothing has changed
abbrev pub Changes : {A : Type 0} → Option (Unit {0}) → A → A → Option A → Type 0
Changes None old new o = (o ≡ None) × (new ≡ old)
Changes (Some u) old new o = o ≡ Some new
