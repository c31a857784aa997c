-- Device: what resolved instructions change is what the instructions mean.
use Rattle.std.proofs.Common.{◌≡◌, ℕ, List, Option, Some, None, option_map, refl, sym, ap, ◌∙◌}
use Rattle.cil_base.specs.declared.kinds.Abi.{Abi}
use Rattle.byte_mem.specs.declared.pointers.Pointer.{Pointer}
use Rattle.byte_mem.specs.declared.values.Byte.{Byte}
use Rattle.byte_mem.specs.declared.values.Scalar.{Scalar}
use Rattle.byte_mem.specs.declared.values.Value.{Value}
use Rattle.byte_mem.specs.Steps.{◌>>=◌}
use Rattle.byte_mem.specs.Memory.{Memory, load_bytes, store_bytes, zero}
use Rattle.byte_mem.specs.Operator.{pointer_in}
use Rattle.type_graph.specs.Shapes.{Shape}
use Rattle.execution.specs.Data.{Kind, OfScalar, OfAggregate, Datum, Single, Bytes, store_datum, store_to, load_datum, zero_from}
use Rattle.cil_tree.specs.Tree.{Value as ValueOf, Lval}
use Rattle.cil_tree.specs.Typing.{Scope, place_type}
use Rattle.typed_values.specs.Values.{single_in}
use Rattle.cil_semantics.specs.Values.{kind_in, scalar_in, size_in, value, scalar_value, place}
use Rattle.cil_machine.specs.Terms.{term_value, spot_place}
use Rattle.cil_machine.specs.Resolution.{activation}
use Rattle.cil_machine.specs.Instructions.{bytes_from}
use Rattle.cil_machine.specs.Meant.{SetsAreMeant, ZerosAreMeant, CopiesAreMeant}
use Rattle.cil_machine.proofs.Meanings.{both, kind_of_scalar}

same_bind : {A B : Type 0} (o : Option A) (f g : A → Option B) → ((a : A) → f a ≡ g a) → (o >>= f) ≡ (o >>= g)
same_bind None f g e = refl
same_bind (Some a) f g e = e a

-- a scalar's value is stored, and bytes are not
scalar_stored : (abi : Abi) (m : Memory) (s : Scalar) (at : Value) (o : Option Datum) → ((o >>= single_in) >>= λ v. store_datum abi m (OfScalar s) at (Single v)) ≡ (o >>= store_datum abi m (OfScalar s) at)
scalar_stored abi m s at None = refl
scalar_stored abi m s at (Some (Single v)) = refl
scalar_stored abi m s at (Some (Bytes bytes)) = by (pointer_in at)
  where
    by : (o : Option Pointer) → None ≡ (o >>= λ p. store_to abi m (OfScalar s) p (Bytes bytes))
    by None = refl
    by (Some p) = refl

pub sets_are_meant : SetsAreMeant
sets_are_meant c es p e x u t s is also scalar means means_too m act =
    both (λ at v. store_datum c.program.graph.abi m (OfScalar s) at (Single v)) (spot_place c.program.graph.abi m act x) (place (activation c es act) m p) (term_value c.program.graph.abi m act s u) (scalar_value (activation c es act) m e)
    (means.at t is m act) (means_too.at s (ap (λ o. o >>= scalar_in c.program.graph) also ∙ scalar) m act)
    ∙ (same_bind (place (activation c es act) m p) (λ at. scalar_value (activation c es act) m e >>= λ v. store_datum c.program.graph.abi m (OfScalar s) at (Single v)) (λ at. value (activation c es act) m e >>= store_datum c.program.graph.abi m (OfScalar s) at)
    (λ at. scalar_stored c.program.graph.abi m s at (value (activation c es act) m e))
    ∙ ap (λ o. o >>= λ k. place (activation c es act) m p >>= λ at. value (activation c es act) m e >>= store_datum c.program.graph.abi m k at)
    (sym (ap (λ o. o >>= kind_in c.program.graph) is ∙ kind_of_scalar (kind_in c.program.graph t) s scalar)))

then_zero : (m : Memory) (n : ℕ) (o : Option Value) → ((o >>= pointer_in) >>= λ p. zero m p n) ≡ (o >>= zero_from m n)
then_zero m n None = refl
then_zero m n (Some v) = refl

pub zeros_are_meant : ZerosAreMeant
zeros_are_meant c es p x t n is room means m act =
    ap (λ o. (o >>= pointer_in) >>= λ p. zero m p n) (means.at t is m act)
    ∙ (then_zero m n (place (activation c es act) m p)
    ∙ ap (λ o. o >>= λ n. place (activation c es act) m p >>= zero_from m n) (sym (ap (λ o. o >>= size_in c.program.graph) is ∙ room)))

abbrev no_pointer : Option Pointer
no_pointer = None

abbrev no_bytes : Option (List Byte)
no_bytes = None

bytes_stored : (abi : Abi) (m : Memory) (n : ℕ) (o u : Option Value)
    → ((o >>= pointer_in) >>= λ p. ((u >>= pointer_in) >>= λ q. load_bytes m q n) >>= store_bytes m p) ≡ (o >>= λ at. (u >>= load_datum abi m (OfAggregate n)) >>= store_datum abi m (OfAggregate n) at)
bytes_stored abi m n None u = refl
bytes_stored abi m n (Some v) None = nowhere (pointer_in v)
  where
    nowhere : (o : Option Pointer) → (o >>= λ p. (no_bytes >>= store_bytes m p)) ≡ None
    nowhere None = refl
    nowhere (Some p) = refl
bytes_stored abi m n (Some v) (Some w) = by (pointer_in v) (pointer_in w)
  where
    loaded : (p : Pointer) (o : Option (List Byte)) → (o >>= store_bytes m p) ≡ (option_map Bytes o >>= λ d. Some p >>= λ p. store_to abi m (OfAggregate n) p d)
    loaded p None = refl
    loaded p (Some bytes) = refl

    absent : (o : Option (List Byte)) → None ≡ (option_map Bytes o >>= λ d. no_pointer >>= λ p. store_to abi m (OfAggregate n) p d)
    absent None = refl
    absent (Some bytes) = refl

    by : (o u : Option Pointer) → (o >>= λ p. (u >>= λ q. load_bytes m q n) >>= store_bytes m p) ≡ ((u >>= λ q. option_map Bytes (load_bytes m q n)) >>= λ d. o >>= λ p. store_to abi m (OfAggregate n) p d)
    by None None = refl
    by None (Some q) = absent (load_bytes m q n)
    by (Some p) None = refl
    by (Some p) (Some q) = loaded p (load_bytes m q n)

value_of_place : (c : Scope) (es : List ℕ) (q : Lval) (t : Shape) (k : Kind) (m : Memory) (act : ℕ) → place_type c q ≡ Some t → kind_in c.program.graph t ≡ Some k → value (activation c es act) m (ValueOf q) ≡ (place (activation c es act) m q >>= load_datum c.program.graph.abi m k)
value_of_place c es q t k m act is kind = ap (λ o. o >>= λ k. place (activation c es act) m q >>= load_datum c.program.graph.abi m k) (ap (λ o. o >>= kind_in c.program.graph) is ∙ kind)

pub copies_are_meant : CopiesAreMeant
copies_are_meant c es p q x y t n is also kind means means_too m act =
    ap (λ o. (o >>= pointer_in) >>= λ p. bytes_from c.program.graph.abi m act n y >>= store_bytes m p) (means.at t is m act)
    ∙ (ap (λ u. (place (activation c es act) m p >>= pointer_in) >>= λ p. ((u >>= pointer_in) >>= λ q. load_bytes m q n) >>= store_bytes m p) (means_too.at t also m act)
    ∙ (bytes_stored c.program.graph.abi m n (place (activation c es act) m p) (place (activation c es act) m q)
    ∙ (ap (λ u. place (activation c es act) m p >>= λ at. u >>= store_datum c.program.graph.abi m (OfAggregate n) at) (sym (value_of_place c es q t (OfAggregate n) m act also kind))
    ∙ ap (λ o. o >>= λ k. place (activation c es act) m p >>= λ at. value (activation c es act) m (ValueOf q) >>= store_datum c.program.graph.abi m k at) (sym (ap (λ o. o >>= kind_in c.program.graph) is ∙ kind)))))
