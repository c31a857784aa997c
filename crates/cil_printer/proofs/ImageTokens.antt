-- Device: what is printed of images.
use Rattle.std.proofs.Common.{◌≡◌, ℕ, zero, suc, ◌<◌, ◌≤◌, true, false, List, [], ◌∷◌, ◌++◌, Option, Some, None, length, get_or, drop, map, codes, decimal, refl, sym, ap, ◌∙◌, append_assoc, append-nil, arith}
use Rattle.std.specs.Prelude.{ℤ}
use Rattle.std.specs.Option.{option_and_then}
use Rattle.cil_base.specs.Integer.{long_of}
use Rattle.type_graph.specs.declared.aggregates.Member.{Member}
use Rattle.type_graph.specs.Shapes.{Shape, VoidType, IntType, PtrType, ArrayType, FuncType, AggType}
use Rattle.cil_tree.specs.declared.globals.Step.{Step as Move}
use Rattle.cil_tree.specs.declared.globals.Step.TheVariants as code
use Rattle.cil_tree.specs.Tree.{ToField, Item, Program}
use Rattle.cil_tree.specs.View.{step_of}
use Rattle.cil_tree.specs.Typing.{member_at, element_of}
use Rattle.cil_tree.specs.Declarators.{declared, in_parentheses, number}
use Rattle.cil_tree.specs.Text.{in_brackets, name_in, global_name, path_tokens, path_type, address_tokens, cast_tokens, constant_tokens, item_tokens}
use Rattle.cil_printer.specs.Output.{Output, puts}
use Rattle.cil_printer.specs.Seen.{name_of_member, is_pointer_shape}
use Rattle.cil_printer.proofs.Puts.{puts-puts, nothing_pushed, two_pushed, pair_pushed}

pub char_pointer : (o a b c d : Output) → a ≡ puts o (codes "(" ∷ []) → b ≡ puts a (codes "char" ∷ []) → c ≡ puts b (codes "*" ∷ []) → d ≡ puts c (codes ")" ∷ []) → d ≡ puts o (in_parentheses (codes "char" ∷ codes "*" ∷ []))
char_pointer o a b c d ea eb ec ed = simp (ed, ec, eb, ea, puts-puts)

pub address_pushed : (o a b c d e f : Output) (p : Program) (n : ℕ) (v : ℤ) → a ≡ puts o (codes "(" ∷ []) → b ≡ puts a (in_parentheses (codes "char" ∷ codes "*" ∷ [])) → c ≡ puts b (codes "&" ∷ global_name p n ∷ []) → d ≡ puts c (codes "+" ∷ []) → e ≡ puts d (number (long_of p.graph.abi) v) → f ≡ puts e (codes ")" ∷ []) →
    f ≡ puts o (address_tokens p n v)
address_pushed o a b c d e f p n v ea eb ec ed ee ef = simp (ef, ee, ed, ec, eb, ea, puts-puts, append_assoc)

pub pointer_cast : (p : Program) (s : Shape) → is_pointer_shape s ≡ true → cast_tokens p (Some s) ≡ in_parentheses (declared p s [])
pointer_cast p (PtrType q s) e = refl
pointer_cast p VoidType e = cc
pointer_cast p (IntType kind) e = cc
pointer_cast p (ArrayType q s bound) e = cc
pointer_cast p (FuncType ret params proto variadic) e = cc
pointer_cast p (AggType a) e = cc

pub no_cast : (o : Output) (p : Program) (s : Shape) → is_pointer_shape s ≡ false → puts o (cast_tokens p (Some s)) ≡ o
no_cast o p (PtrType q s) e = cc
no_cast o p VoidType e = sym (nothing_pushed o)
no_cast o p (IntType kind) e = sym (nothing_pushed o)
no_cast o p (ArrayType q s bound) e = sym (nothing_pushed o)
no_cast o p (FuncType ret params proto variadic) e = sym (nothing_pushed o)
no_cast o p (AggType a) e = sym (nothing_pushed o)

pub member_step : (o a b : Output) (p : Program) (n : ℕ) (s : Option Shape) (m : Option Member) → m ≡ option_and_then (λ t. member_at p.graph t n) s → a ≡ puts o (codes "." ∷ []) → b ≡ puts a (name_of_member p m ∷ []) → b ≡ puts o (path_tokens p (ToField n ∷ []) s)
member_step o a b p n s m e ea eb = pair_pushed o a b (codes ".") (name_of_member p m) ea eb ∙ ap (λ x. puts o (codes "." ∷ x ∷ [])) (ap (name_of_member p) e ∙ named s)
  where
    named : (s : Option Shape) → name_of_member p (option_and_then (λ t. member_at p.graph t n) s) ≡ elim s [ None ↦ [] | Some t ↦ name_in p t n ]
    named None = refl
    named (Some t) = refl

-- the steps of a path from one on, as they are printed
pub record PathFrom (p : Program) (o start : Output) (rest all : List Move) (s of : Option Shape) : Type 0 where
  pub text : puts o (path_tokens p (map step_of rest) s) ≡ puts start (path_tokens p (map step_of all) of)
  pub leads : path_type p (map step_of rest) s ≡ path_type p (map step_of all) of

next_is : (xs : List Move) (i : ℕ) (d : Move) → i < length xs → drop i xs ≡ get_or xs i d ∷ drop (suc i) xs
next_is [] i d h = absurd (omega arith)
next_is (y ∷ xs) zero d h = refl
next_is (y ∷ xs) (suc i) d h = next_is xs i d (omega arith)

steps_printed : (p : Program) (x : Move) (xs : List Move) (s : Option Shape) → path_tokens p (map step_of (x ∷ xs)) s ≡ path_tokens p (step_of x ∷ []) s ++ path_tokens p (map step_of xs) (path_type p (step_of x ∷ []) s)
steps_printed p (code.Field n) xs s = refl
steps_printed p (code.Index n) xs s = ap (λ t. t ++ path_tokens p (map step_of xs) (option_and_then element_of s)) (sym (append-nil (in_brackets (decimal n ∷ []))))

steps_lead : (p : Program) (x : Move) (xs : List Move) (s : Option Shape) → path_type p (map step_of (x ∷ xs)) s ≡ path_type p (map step_of xs) (path_type p (step_of x ∷ []) s)
steps_lead p (code.Field n) xs s = refl
steps_lead p (code.Index n) xs s = refl

pub path_done : (p : Program) (o a start : Output) (xs : List Move) (i j : ℕ) (d : Move) (s t of : Option Shape) → j ≡ suc i → i < length xs → PathFrom p o start (drop i xs) xs s of →
    a ≡ puts o (path_tokens p (step_of (get_or xs i d) ∷ []) s) → t ≡ path_type p (step_of (get_or xs i d) ∷ []) s → PathFrom p a start (drop j xs) xs t of
path_done p o a start xs i j d s t of k h steps ea et = record {
  text =
      ap (λ l. puts a (path_tokens p (map step_of (drop l xs)) t)) k ∙ ap (λ u. puts a (path_tokens p (map step_of (drop (suc i) xs)) u)) et
      ∙ two_pushed o a (puts a (path_tokens p (map step_of (drop (suc i) xs)) (path_type p (step_of (get_or xs i d) ∷ []) s))) (path_tokens p (step_of (get_or xs i d) ∷ []) s) (path_tokens p (map step_of (drop (suc i) xs)) (path_type p (step_of (get_or xs i d) ∷ []) s)) ea refl
      ∙ ap (puts o) (sym (steps_printed p (get_or xs i d) (drop (suc i) xs) s)) ∙ ap (λ ys. puts o (path_tokens p (map step_of ys) s)) (sym (next_is xs i d h)) ∙ steps.text;
  leads =
      ap (λ l. path_type p (map step_of (drop l xs)) t) k ∙ ap (path_type p (map step_of (drop (suc i) xs))) et
      ∙ sym (steps_lead p (get_or xs i d) (drop (suc i) xs) s) ∙ ap (λ ys. path_type p (map step_of ys) s) (sym (next_is xs i d h)) ∙ steps.leads;
}

past_end : (xs : List Move) (i : ℕ) → length xs ≤ i → drop i xs ≡ []
past_end [] zero h = refl
past_end [] (suc i) h = refl
past_end (x ∷ xs) zero h = absurd (omega arith)
past_end (x ∷ xs) (suc i) h = past_end xs i (omega arith)

pub path_text : (p : Program) (o start : Output) (xs : List Move) (i : ℕ) (s of : Option Shape) → length xs ≤ i → PathFrom p o start (drop i xs) xs s of → o ≡ puts start (path_tokens p (map step_of xs) of)
path_text p o start xs i s of h steps = nothing_pushed o ∙ ap (λ ys. puts o (path_tokens p (map step_of ys) s)) (sym (past_end xs i h)) ∙ steps.text

pub item_pushed : (o a b c : Output) (p : Program) (s t : Option Shape) (x : Item) → t ≡ path_type p x.path s → a ≡ puts o (path_tokens p x.path s) → b ≡ puts a (codes "=" ∷ []) → c ≡ puts b (constant_tokens p t x.value) → c ≡ puts o (item_tokens p s x)
item_pushed o a b c p s t x e ea eb ec = simp (ec, eb, ea, puts-puts, append_assoc) (ap (λ u. puts o (path_tokens p x.path s ++ codes "=" ∷ constant_tokens p u x.value)) e)
