-- Device: kinds and operators do not look at the qualifiers of what is pointed to.
use Rattle.std.proofs.Common.{◌≡◌, Option, refl, ap, ◌∙◌}
use Rattle.std.proofs.Math.Path.{fun_ext}
use Rattle.cil_base.specs.declared.operators.BinOp.{BinOp}
use Rattle.cil_base.specs.declared.operators.UnOp.{UnOp}
use Rattle.cil_base.specs.declared.operators.UnOp.TheVariants.{Neg, Compl, Not}
use Rattle.byte_mem.specs.declared.values.Value.{Value}
use Rattle.byte_mem.specs.Memory.{Memory}
use Rattle.type_graph.specs.declared.nodes.Quals.{Quals}
use Rattle.type_graph.specs.Shapes.{Shape, VoidType, IntType, PtrType, ArrayType, FuncType, AggType}
use Rattle.execution.specs.Data.{Datum, Single}
use Rattle.c_rules.specs.Types.{Types}
use Rattle.typed_values.specs.Values.{single_in}
use Rattle.c_semantics.specs.Values.{kind_of, binary_value}
use Rattle.c_semantics.specs.Places.{Activation}
use Rattle.c_semantics.specs.Operations.{Action, ◌>>=◌, gives, known, seen, operated, computed}
use Rattle.c_elaboration.proofs.Shapes.{Near, near_same}

pub kind_near : (t : Types) (s r : Shape) → Near s r → kind_of t s ≡ kind_of t r
kind_near t s r n = near_same (kind_of t) (λ p q u. refl) s r n

operated_two : (a : Activation) (op : UnOp) (d : Datum) (p q : Quals) (u : Shape) → operated a op (PtrType p u) d ≡ operated a op (PtrType q u) d
operated_two a Neg d p q u = refl
operated_two a Compl d p q u = refl
operated_two a Not d p q u = refl

pub operated_near : (a : Activation) (op : UnOp) (d : Datum) (s r : Shape) → Near s r → operated a op s d ≡ operated a op r d
operated_near a op d s r n = near_same (λ x. operated a op x d) (operated_two a op d) s r n

left_two : (t : Types) (m : Memory) (op : BinOp) (v w : Value) (p q : Quals) (u r : Shape) → binary_value t m op (PtrType p u) r v w ≡ binary_value t m op (PtrType q u) r v w
left_two t m op v w p q u VoidType = refl
left_two t m op v w p q u (IntType k) = refl
left_two t m op v w p q u (PtrType o s) = refl
left_two t m op v w p q u (ArrayType o s n) = refl
left_two t m op v w p q u (FuncType s ss o b) = refl
left_two t m op v w p q u (AggType i) = refl

right_two : (t : Types) (m : Memory) (op : BinOp) (v w : Value) (p q : Quals) (u s : Shape) → binary_value t m op s (PtrType p u) v w ≡ binary_value t m op s (PtrType q u) v w
right_two t m op v w p q u VoidType = refl
right_two t m op v w p q u (IntType k) = refl
right_two t m op v w p q u (PtrType o s) = refl
right_two t m op v w p q u (ArrayType o s n) = refl
right_two t m op v w p q u (FuncType s ss o b) = refl
right_two t m op v w p q u (AggType i) = refl

by_values : (Memory → Value → Value → Option Value) → Datum → Datum → Action Datum
by_values f d e = known (single_in d) >>= (λ v. known (single_in e) >>= (λ w. seen (λ m. f m v w) >>= (λ x. gives (Single x))))

pub computed_near : (a : Activation) (op : BinOp) (s s' r r' : Shape) → Near s s' → Near r r' → (d e : Datum) → computed a op s r d e ≡ computed a op s' r' d e
unfolding by_values
computed_near a op s s' r r' n k d e =
    near_same (λ x. computed a op x r d e) (λ p q u. ap (λ f. by_values f d e) (fun_ext (λ m. fun_ext (λ v. fun_ext (λ w. left_two a.types m op v w p q u r))))) s s' n
    ∙ near_same (λ x. computed a op s' x d e) (λ p q u. ap (λ f. by_values f d e) (fun_ext (λ m. fun_ext (λ v. fun_ext (λ w. right_two a.types m op v w p q u s'))))) r r' k
