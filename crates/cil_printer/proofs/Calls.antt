-- Device: what is printed of instructions.
use Rattle.std.proofs.Common.{◌≡◌, ℕ, zero, suc, ◌<◌, ◌≤◌, Bool, true, false, ◌&&◌, is_some, List, [], ◌∷◌, ◌++◌, Option, Some, None, length, get_or, drop, map, codes, refl, sym, ap, ◌∙◌, append_assoc, append-nil, arith}
use Rattle.std.specs.Option.{option_map, option_and_then}
use Rattle.cil_base.specs.Integer.{ulong_of}
use Rattle.type_graph.specs.declared.nodes.Node.{Node}
use Rattle.type_graph.specs.declared.layout.Layout.{Layout}
use Rattle.type_graph.specs.Shapes.{Shape}
use Rattle.cil_tree.specs.declared.expressions.Exp.{Exp as Tree}
use Rattle.cil_tree.specs.Tree.{Exp, Lval, Place, Host, Global, Var, At, Const, Value, Un, Bin, Cast, AddrOf, StartOf, Set, Zero}
use Rattle.cil_tree.specs.View.{exp_of}
use Rattle.cil_tree.specs.Typing.{Scope, type_of, place_type, host_type}
use Rattle.cil_tree.specs.Lines.{Token}
use Rattle.cil_tree.specs.Declarators.{in_parentheses, separated, digits}
use Rattle.cil_tree.specs.Text.{shape_layout, exp_tokens, host_tokens, offset_tokens, place_tokens, argument_tokens, size_tokens, instr_tokens}
use Rattle.cil_printer.specs.Output.{Output, puts}
use Rattle.cil_printer.specs.Sides.{following}
use Rattle.cil_printer.specs.Seen.{exp_parts}
use Rattle.cil_printer.specs.Typed.{are_typed}
use Rattle.cil_printer.proofs.Puts.{puts-puts, nothing_pushed, two_pushed}

pub both_left : (a b : Bool) → a && b ≡ true → a ≡ true
both_left true b e = refl
both_left false b e = cc

pub both_right : (a b : Bool) → a && b ≡ true → b ≡ true
both_right true b e = e
both_right false b e = cc

abbrev is_started : List Token → Bool
is_started [] = false
is_started (x ∷ xs) = true

started_append : (xs ys : List Token) → is_started xs ≡ true → is_started (xs ++ ys) ≡ true
started_append [] ys e = cc
started_append (x ∷ xs) ys e = refl

host_started : (c : Scope) (h : Host) → is_started (host_tokens c h) ≡ true
host_started c (Global number) = refl
host_started c (Var number) = refl
host_started c (At pointer) = refl

place_started : (c : Scope) (l : Lval) → is_started (place_tokens c l) ≡ true
place_started c (Place host offsets) = started_append (host_tokens c host) (offset_tokens c offsets (host_type c host)) (host_started c host)

exp_started : (c : Scope) (e : Exp) → is_started (exp_tokens c e) ≡ true
exp_started c (Const kind value) = refl
exp_started c (Value place) = place_started c place
exp_started c (Un op operand) = refl
exp_started c (Bin op left right) = refl
exp_started c (Cast to operand) = refl
exp_started c (AddrOf place) = refl
exp_started c (StartOf place) = place_started c place

separated_more : (xs ys zs : List Token) → is_started ys ≡ true → separated xs (ys ++ zs) ≡ xs ++ codes "," ∷ (ys ++ zs)
separated_more xs [] zs e = cc
separated_more xs (y ∷ ys) zs e = refl

-- arguments are the first and those that follow it
arguments_are : (c : Scope) (nodes : List Node) (e : Tree) (es : List Tree) → argument_tokens c (map (exp_of nodes) (e ∷ es)) ≡ exp_tokens c (exp_of nodes e) ++ following (exp_parts c nodes es)
arguments_are c nodes e [] = sym (append-nil (exp_tokens c (exp_of nodes e)))
arguments_are c nodes e (f ∷ es) =
    ap (separated (exp_tokens c (exp_of nodes e))) (arguments_are c nodes f es)
    ∙ separated_more (exp_tokens c (exp_of nodes e)) (exp_tokens c (exp_of nodes f)) (following (exp_parts c nodes es)) (exp_started c (exp_of nodes f))

pub arguments_pushed : (o a b : Output) (c : Scope) (nodes : List Node) (e : Tree) (es : List Tree) → a ≡ puts o (exp_tokens c (exp_of nodes e)) → b ≡ puts a (following (exp_parts c nodes es)) → b ≡ puts o (argument_tokens c (map (exp_of nodes) (e ∷ es)))
arguments_pushed o a b c nodes e es ea eb = two_pushed o a b (exp_tokens c (exp_of nodes e)) (following (exp_parts c nodes es)) ea eb ∙ ap (puts o) (sym (arguments_are c nodes e es))

pub no_arguments : (o : Output) (c : Scope) (nodes : List Node) (es : List Tree) → length es < 1 → puts o (argument_tokens c (map (exp_of nodes) es)) ≡ o
no_arguments o c nodes [] h = sym (nothing_pushed o)
no_arguments o c nodes (e ∷ es) h = absurd (omega (arith, h))

pub first_typed : (c : Scope) (nodes : List Node) (es fs : List Tree) (e : Tree) → es ≡ e ∷ fs → are_typed c (map (exp_of nodes) es) ≡ true → is_some (type_of c (exp_of nodes e)) ≡ true
first_typed c nodes es fs e is h = both_left (is_some (type_of c (exp_of nodes e))) (are_typed c (map (exp_of nodes) fs)) (ap (λ gs. are_typed c (map (exp_of nodes) gs)) (sym is) ∙ h)

pub rest_typed : (c : Scope) (nodes : List Node) (es fs : List Tree) (e : Tree) → es ≡ e ∷ fs → are_typed c (map (exp_of nodes) es) ≡ true → are_typed c (map (exp_of nodes) fs) ≡ true
rest_typed c nodes es fs e is h = both_right (is_some (type_of c (exp_of nodes e))) (are_typed c (map (exp_of nodes) fs)) (ap (λ gs. are_typed c (map (exp_of nodes) gs)) (sym is) ∙ h)

pub typed_at : (c : Scope) (nodes : List Node) (es : List Tree) (i : ℕ) (e : Tree) → i < length es → e ≡ get_or es i e → are_typed c (map (exp_of nodes) es) ≡ true → is_some (type_of c (exp_of nodes e)) ≡ true
typed_at c nodes [] i e h is typed = absurd (omega arith)
typed_at c nodes (f ∷ es) zero e h is typed = ap (λ x. is_some (type_of c (exp_of nodes x))) is ∙ both_left (is_some (type_of c (exp_of nodes f))) (are_typed c (map (exp_of nodes) es)) typed
typed_at c nodes (f ∷ es) (suc i) e h is typed = typed_at c nodes es i e (omega arith) is (both_right (is_some (type_of c (exp_of nodes f))) (are_typed c (map (exp_of nodes) es)) typed)

pub arguments_from : (o a b : Output) (c : Scope) (nodes : List Node) (es : List Tree) (i j : ℕ) (e : Tree) → j ≡ suc i → i < length es → e ≡ get_or es i e → a ≡ puts o (codes "," ∷ []) → b ≡ puts a (exp_tokens c (exp_of nodes e)) →
    puts b (following (exp_parts c nodes (drop j es))) ≡ puts o (following (exp_parts c nodes (drop i es)))
arguments_from o a b c nodes es i j e k h is ea eb =
    ap (λ l. puts b (following (exp_parts c nodes (drop l es)))) k ∙ ap (λ x. puts x (following (exp_parts c nodes (drop (suc i) es)))) (two_pushed o a b (codes "," ∷ []) (exp_tokens c (exp_of nodes e)) ea eb)
    ∙ puts-puts o (codes "," ∷ exp_tokens c (exp_of nodes e)) (following (exp_parts c nodes (drop (suc i) es))) ∙ ap (puts o) (sym (parts_from c nodes es i e h is))
  where
    parts_from : (c : Scope) (nodes : List Node) (es : List Tree) (i : ℕ) (e : Tree) → i < length es → e ≡ get_or es i e → following (exp_parts c nodes (drop i es)) ≡ codes "," ∷ (exp_tokens c (exp_of nodes e) ++ following (exp_parts c nodes (drop (suc i) es)))
    parts_from c nodes [] i e h is = absurd (omega arith)
    parts_from c nodes (f ∷ es) zero e h is = ap (λ x. codes "," ∷ (exp_tokens c (exp_of nodes x) ++ following (exp_parts c nodes es))) (sym is)
    parts_from c nodes (f ∷ es) (suc i) e h is = parts_from c nodes es i e (omega arith) is

pub arguments_end : (o x : Output) (c : Scope) (nodes : List Node) (es : List Tree) (i : ℕ) → length es ≤ i → puts o (following (exp_parts c nodes (drop i es))) ≡ x → o ≡ x
arguments_end o x c nodes es i h e = nothing_pushed o ∙ ap (λ fs. puts o (following (exp_parts c nodes fs))) (sym (past es i h)) ∙ e
  where
    past : (es : List Tree) (i : ℕ) → length es ≤ i → drop i es ≡ []
    past [] zero h = refl
    past [] (suc i) h = refl
    past (t ∷ es) zero h = absurd (omega arith)
    past (t ∷ es) (suc i) h = past es i (omega arith)

pub set_pushed : (o a b : Output) (c : Scope) (l : Lval) (e : Exp) → a ≡ puts o (place_tokens c l ++ codes "=" ∷ []) → b ≡ puts a (exp_tokens c e) → b ≡ puts o (instr_tokens c (Set l e))
set_pushed o a b c l e ea eb = two_pushed o a b (place_tokens c l ++ codes "=" ∷ []) (exp_tokens c e) ea eb ∙ ap (puts o) (append_assoc (place_tokens c l) (codes "=" ∷ []) (exp_tokens c e))

pub size_pushed : (c : Scope) (s : Option Shape) (n : ℕ) → Some n ≡ option_map (λ (l : Layout). l.size) (option_and_then (shape_layout c.program.graph) s) → size_tokens c s ≡ digits (ulong_of c.program.graph.abi) n ∷ []
size_pushed c s n e = by (option_and_then (shape_layout c.program.graph) s) e
  where
    by : (o : Option Layout) → Some n ≡ option_map (λ (l : Layout). l.size) o → elim o [ None ↦ [] | Some l ↦ digits (ulong_of c.program.graph.abi) l.size ∷ [] ] ≡ digits (ulong_of c.program.graph.abi) n ∷ []
    by None e = cc
    by (Some l) e = let same : n ≡ l.size = cc in ap (λ k. digits (ulong_of c.program.graph.abi) k ∷ []) (sym same)

pub no_size : (o : Output) (c : Scope) (s : Option Shape) → None ≡ option_map (λ (l : Layout). l.size) (option_and_then (shape_layout c.program.graph) s) → puts o (size_tokens c s) ≡ o
no_size o c s e = by (option_and_then (shape_layout c.program.graph) s) e
  where
    by : (p : Option Layout) → None ≡ option_map (λ (l : Layout). l.size) p → puts o (elim p [ None ↦ [] | Some l ↦ digits (ulong_of c.program.graph.abi) l.size ∷ [] ]) ≡ o
    by None e = sym (nothing_pushed o)
    by (Some l) e = cc

pub zero_size_pushed : (o a b d f : Output) (xs : List Token) → a ≡ puts o (codes "," ∷ []) → b ≡ puts a (codes "0" ∷ []) → d ≡ puts b (codes "," ∷ []) → f ≡ puts d xs → f ≡ puts o (codes "," ∷ codes "0" ∷ codes "," ∷ xs)
zero_size_pushed o a b d f xs ea eb ed ef = simp (ef, ed, eb, ea, puts-puts)

pub zero_pushed : (o a b d f g : Output) (c : Scope) (l : Lval) → a ≡ puts o (codes "__builtin_memset" ∷ []) → b ≡ puts a (codes "(" ∷ []) → d ≡ puts b (in_parentheses (codes "&" ∷ place_tokens c l)) →
    f ≡ puts d (codes "," ∷ codes "0" ∷ codes "," ∷ size_tokens c (place_type c l)) → g ≡ puts f (codes ")" ∷ []) → g ≡ puts o (instr_tokens c (Zero l))
zero_pushed o a b d f g c l ea eb ed ef eg = simp (eg, ef, ed, eb, ea, puts-puts, append_assoc)
