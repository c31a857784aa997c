-- Device: a step that was taken did what it does.
use Rattle.std.proofs.Common.{◌≡◌, ℕ, suc, ◌+◌, Bool, List, Option, Some, None, option_map, refl, sym, ap, ◌∙◌, subst, arith, ℤ, Result, Ok, Err, IfOk}
use Rattle.cil_base.specs.declared.kinds.Abi.{Abi}
use Rattle.cil_base.specs.declared.kinds.IntKind.{IntKind}
use Rattle.byte_mem.specs.declared.pointers.Pointer.{Pointer}
use Rattle.byte_mem.specs.declared.stores.Store.{Store}
use Rattle.byte_mem.specs.declared.values.Byte.{Byte}
use Rattle.byte_mem.specs.declared.values.Scalar.{Scalar}
use Rattle.byte_mem.specs.declared.values.Scalar.TheVariants.{Int as OfKind}
use Rattle.byte_mem.specs.declared.values.Value.{Value}
use Rattle.byte_mem.specs.Steps.{◌>>=◌}
use Rattle.byte_mem.specs.Memory.{Memory, store_bytes}
use Rattle.byte_mem.specs.Operator.{pointer_in, truth, number_in}
use Rattle.byte_mem.specs.Store.{memory, Stored}
use Rattle.execution.specs.States.{State, Goes, Undefined, with_memory, given, spend}
use Rattle.execution.specs.Data.{OfScalar, OfAggregate, Single, Bytes, store_datum, store_to}
use Rattle.cil_control.specs.Remains.{Remains}
use Rattle.cil_control.specs.Flat.{place_by, place_for}
use Rattle.cil_machine.specs.declared.terms.Term.{Term}
use Rattle.cil_machine.specs.declared.terms.Spot.{Spot}
use Rattle.cil_machine.specs.Terms.{term_value, spot_place}
use Rattle.cil_machine.specs.Instructions.{scalar_set, zeroed, copied, bytes_from}
use Rattle.cil_code.specs.declared.operands.Operand.{Operand}
use Rattle.cil_code.specs.declared.operands.Operand.TheVariants.{Single as OfTerm, Bytes as OfPlace}
use Rattle.cil_code.specs.declared.steps.Step.TheVariants.{Set, Zero, Test, Choose, Forward, Back, Leave, Stuck}
use Rattle.cil_code.specs.declared.taking.Datum.{Datum as CodeDatum}
use Rattle.cil_code.specs.declared.taking.Onward.TheVariants.{At, Back as GoBack, Ended, Undefined as Broken}
use Rattle.cil_code.specs.Passing.{operand_datum}
use Rattle.cil_code.specs.Doing.{assigned, changed}
use Rattle.cil_code.specs.Taking.{datum_of, Took}

single_is : (abi : Abi) (m : Memory) (s : Scalar) (o : Option Value) (u : Option Value) → (o >>= λ at. u >>= λ v. store_datum abi m (OfScalar s) at (Single v)) ≡ (o >>= λ at. option_map Single u >>= store_datum abi m (OfScalar s) at)
single_is abi m s None u = refl
single_is abi m s (Some at) None = refl
single_is abi m s (Some at) (Some v) = refl

pub set_single : (u : Option (Unit {0})) (old new : Store) (act : ℕ) (place : Spot) (o : Operand) (of : Scalar) (e : Term) → o ≡ OfTerm of e → Stored u old new (scalar_set old.abi (memory old) act of place e) → Stored u old new (assigned old.abi (memory old) act place o)
set_single u old new act place o of e is h =
    subst (λ m. Stored u old new m) (single_is old.abi (memory old) of (spot_place old.abi (memory old) act place) (term_value old.abi (memory old) act of e) ∙ ap (assigned old.abi (memory old) act place) (sym is)) h

bytes_are : (abi : Abi) (m : Memory) (n : ℕ) (o : Option Value) (u : Option (List Byte)) → ((o >>= pointer_in) >>= λ p. u >>= store_bytes m p) ≡ (o >>= λ at. option_map Bytes u >>= store_datum abi m (OfAggregate n) at)
bytes_are abi m n None u = refl
bytes_are abi m n (Some at) u = by (pointer_in at) u
  where
    by : (p : Option Pointer) (u : Option (List Byte)) → (p >>= λ p. u >>= store_bytes m p) ≡ (option_map Bytes u >>= λ d. p >>= λ p. store_to abi m (OfAggregate n) p d)
    by None None = refl
    by None (Some b) = refl
    by (Some p) None = refl
    by (Some p) (Some b) = refl

pub set_bytes : (u : Option (Unit {0})) (old new : Store) (act : ℕ) (place : Spot) (o : Operand) (size : ℕ) (from : Spot) → o ≡ OfPlace size from → Stored u old new (copied old.abi (memory old) act size place from) → Stored u old new (assigned old.abi (memory old) act place o)
set_bytes u old new act place o size from is h =
    subst (λ m. Stored u old new m) (bytes_are old.abi (memory old) size (spot_place old.abi (memory old) act place) (bytes_from old.abi (memory old) act size from) ∙ ap (assigned old.abi (memory old) act place) (sym is)) h

pub set_all_bytes : {E : Type 0} (r : Result (Option (Unit {0})) E) (old new : Store) (act : ℕ) (place : Spot) (o : Operand) (size : ℕ) (from : Spot) → o ≡ OfPlace size from → IfOk r (λ u. Stored u old new (copied old.abi (memory old) act size place from))
    → IfOk r (λ u. Stored u old new (assigned old.abi (memory old) act place o))
set_all_bytes (Ok u) old new act place o size from is h = set_bytes u old new act place o size from is h
set_all_bytes (Err e) old new act place o size from is h = tt

-- what a change of memory leads to
changed_took : (old new : Store) (p q : ℕ) (f : Memory → Option Memory) (u : Option (Unit {0})) (x : Unit {0}) → u ≡ Some x → q ≡ p + 1 → Stored u old new (f (memory old)) → (s : State) → s.memory ≡ memory old → (at : ℕ → Remains) → changed s (f s.memory) (at (suc p)) ≡ at q (with_memory s (memory new))
changed_took old new p q f u x is place h s same at =
    let stored : Stored (Some x) old new (f (memory old)) = subst (λ u. Stored u old new (f (memory old))) is h in
    let next : suc p ≡ q = omega arith in
    ap (λ m. changed s (f m) (at (suc p))) same ∙ (ap (λ o. changed s o (at (suc p))) stored.0 ∙ ap (λ i. at i (with_memory s (memory new))) next)

changed_broken : (old new : Store) (p : ℕ) (f : Memory → Option Memory) (u : Option (Unit {0})) → u ≡ None → Stored u old new (f (memory old)) → (s : State) → s.memory ≡ memory old → (at : ℕ → Remains) → changed s (f s.memory) (at (suc p)) ≡ Undefined (with_memory s (memory new))
changed_broken old new p f u is h s same at =
    let stored : Stored None old new (f (memory old)) = subst (λ u. Stored u old new (f (memory old))) is h in
    ap (λ m. changed s (f m) (at (suc p))) same ∙ (ap (λ o. changed s o (at (suc p))) stored.0 ∙ ap (λ m. Undefined (with_memory s m)) (same ∙ ap (λ z. memory z) (sym stored.1)))

-- a change leaves the data model
same_model : (u : Option (Unit {0})) (old new : Store) (m : Option Memory) → Stored u old new m → new.abi ≡ old.abi
same_model None old new m h = ap (λ z. z.abi) h.1
same_model (Some x) old new m h = h.1

pub set_took : (old new : Store) (act p q : ℕ) (place : Spot) (o : Operand) (u : Option (Unit {0})) (x : Unit {0}) → u ≡ Some x → q ≡ p + 1 → Stored u old new (assigned old.abi (memory old) act place o) → Took old new act p (Set place o) (At q)
set_took old new act p q place o u x is next h = record { does = λ s same enter end at. changed_took old new p q (λ m. assigned old.abi m act place o) u x is next h s same at; model = same_model u old new (assigned old.abi (memory old) act place o) h }

pub set_broken : (old new : Store) (act p : ℕ) (place : Spot) (o : Operand) (u : Option (Unit {0})) → u ≡ None → Stored u old new (assigned old.abi (memory old) act place o) → Took old new act p (Set place o) Broken
set_broken old new act p place o u is h = record { does = λ s same enter end at. changed_broken old new p (λ m. assigned old.abi m act place o) u is h s same at; model = same_model u old new (assigned old.abi (memory old) act place o) h }

pub zero_took : (old new : Store) (act p q size : ℕ) (place : Spot) (u : Option (Unit {0})) (x : Unit {0}) → u ≡ Some x → q ≡ p + 1 → Stored u old new (zeroed old.abi (memory old) act size place) → Took old new act p (Zero size place) (At q)
zero_took old new act p q size place u x is next h = record { does = λ s same enter end at. changed_took old new p q (λ m. zeroed old.abi m act size place) u x is next h s same at; model = same_model u old new (zeroed old.abi (memory old) act size place) h }

pub zero_broken : (old new : Store) (act p size : ℕ) (place : Spot) (u : Option (Unit {0})) → u ≡ None → Stored u old new (zeroed old.abi (memory old) act size place) → Took old new act p (Zero size place) Broken
zero_broken old new act p size place u is h = record { does = λ s same enter end at. changed_broken old new p (λ m. zeroed old.abi m act size place) u is h s same at; model = same_model u old new (zeroed old.abi (memory old) act size place) h }

-- a state with the memory that it has
unmoved : (mem : Store) (s : State) (r : Remains) → s.memory ≡ memory mem → r s ≡ r (with_memory s (memory mem))
unmoved mem s r same = ap (λ m. r (with_memory s m)) same

pub test_took : (mem : Store) (act p q i : ℕ) (of : Scalar) (e : Term) (h : Bool) → Some h ≡ (term_value mem.abi (memory mem) act of e >>= truth (memory mem) of) → i ≡ place_by h (suc p) q → Took mem mem act p (Test of e q) (At i)
test_took mem act p q i of e h is place = record {
  does = λ s same enter end at.
      ap (λ m. given s (term_value mem.abi m act of e >>= truth m of) (λ h. at (place_by h (suc p) q) s)) same
      ∙ (ap (λ o. given s o (λ h. at (place_by h (suc p) q) s)) (sym is) ∙ (ap (λ j. at j s) (sym place) ∙ unmoved mem s (at i) same));
  model = refl;
}

pub test_broken : (mem : Store) (act p q : ℕ) (of : Scalar) (e : Term) → None ≡ (term_value mem.abi (memory mem) act of e >>= truth (memory mem) of) → Took mem mem act p (Test of e q) Broken
test_broken mem act p q of e is = record {
  does = λ s same enter end at.
      ap (λ m. given s (term_value mem.abi m act of e >>= truth m of) (λ h. at (place_by h (suc p) q) s)) same
      ∙ (ap (λ o. given s o (λ h. at (place_by h (suc p) q) s)) (sym is) ∙ unmoved mem s (λ s. Undefined s) same);
  model = refl;
}

pub choice_took : (mem : Store) (act p i other : ℕ) (kind : IntKind) (e : Term) (cases : List (ℤ × ℕ)) (v : ℤ) → Some v ≡ (term_value mem.abi (memory mem) act (OfKind kind) e >>= number_in) → i ≡ place_for v cases other → Took mem mem act p (Choose kind e cases other) (At i)
choice_took mem act p i other kind e cases v is place = record {
  does = λ s same enter end at.
      ap (λ m. given s (term_value mem.abi m act (OfKind kind) e >>= number_in) (λ v. at (place_for v cases other) s)) same
      ∙ (ap (λ o. given s o (λ v. at (place_for v cases other) s)) (sym is) ∙ (ap (λ j. at j s) (sym place) ∙ unmoved mem s (at i) same));
  model = refl;
}

pub choice_broken : (mem : Store) (act p other : ℕ) (kind : IntKind) (e : Term) (cases : List (ℤ × ℕ)) → None ≡ (term_value mem.abi (memory mem) act (OfKind kind) e >>= number_in) → Took mem mem act p (Choose kind e cases other) Broken
choice_broken mem act p other kind e cases is = record {
  does = λ s same enter end at.
      ap (λ m. given s (term_value mem.abi m act (OfKind kind) e >>= number_in) (λ v. at (place_for v cases other) s)) same
      ∙ (ap (λ o. given s o (λ v. at (place_for v cases other) s)) (sym is) ∙ unmoved mem s (λ s. Undefined s) same);
  model = refl;
}

pub forward_took : (mem : Store) (act p q : ℕ) → Took mem mem act p (Forward q) (At q)
forward_took mem act p q = record { does = λ s same enter end at. unmoved mem s (at q) same; model = refl }

pub back_took : (mem : Store) (act p q : ℕ) → Took mem mem act p (Back q) (GoBack q)
back_took mem act p q = record { does = λ s same enter end at. unmoved mem s (λ s. spend s (at q)) same; model = refl }

pub stuck_took : (mem : Store) (act p : ℕ) → Took mem mem act p Stuck Broken
stuck_took mem act p = record { does = λ s same enter end at. unmoved mem s (λ s. Undefined s) same; model = refl }

pub leave_took : (mem : Store) (act p : ℕ) → Took mem mem act p (Leave None) (Ended None)
leave_took mem act p = record { does = λ s same enter end at. unmoved mem s (λ s. Goes end s) same; model = refl }

pub leave_with : (mem : Store) (act p : ℕ) (o : Operand) (d : CodeDatum) → option_map datum_of (Some d) ≡ operand_datum mem.abi (memory mem) act o → Took mem mem act p (Leave (Some o)) (Ended (Some d))
leave_with mem act p o d is = record {
  does = λ s same enter end at.
      ap (λ m. given s (operand_datum mem.abi m act o) (λ d. Goes d s)) same ∙ (ap (λ u. given s u (λ d. Goes d s)) (sym is) ∙ unmoved mem s (λ s. Goes (datum_of d) s) same);
  model = refl;
}

pub leave_broken : (mem : Store) (act p : ℕ) (o : Operand) → None ≡ operand_datum mem.abi (memory mem) act o → Took mem mem act p (Leave (Some o)) Broken
leave_broken mem act p o is = record {
  does = λ s same enter end at.
      ap (λ m. given s (operand_datum mem.abi m act o) (λ d. Goes d s)) same ∙ (ap (λ u. given s u (λ d. Goes d s)) (sym is) ∙ unmoved mem s (λ s. Undefined s) same);
  model = refl;
}
