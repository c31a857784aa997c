-- Device: the reading of initialised objects gives back their scalars from their tokens.
use Rattle.std.proofs.Common.{◌≡◌, ℕ, suc, zero, ◌+◌, ◌-◌, ◌*◌, ◌^◌, ◌<◌, ◌≤◌, ◌&&◌, not, map, nat_lt, Bool, true, false, cond, List, [], ◌∷◌, ◌++◌, codes, decimal, Option, Some, None, slice_get, refl, sym, ap, ◌∙◌, subst, arith, ltb-true, le-leb}
use Rattle.std.specs.Prelude.{ℤ, pos, negsuc, int_le, int_lt, unsigned_abs}
use Rattle.std.specs.Option.{option_map, option_and_then}
use Rattle.std.specs.List.{list_all}
use Rattle.std.specs.Ordering.{int_eq}
use Rattle.cil_base.specs.declared.constants.Constant.{Constant}
use Rattle.cil_base.specs.declared.constants.Constant.TheVariants.{Int as Integer, Address, Function as Code}
use Rattle.cil_base.specs.declared.kinds.Abi.{Abi}
use Rattle.cil_base.specs.declared.kinds.Abi.TheVariants.{Lp64, Ilp32}
use Rattle.cil_base.specs.declared.kinds.IntKind.{IntKind}
use Rattle.cil_base.specs.declared.kinds.IntKind.TheVariants as kind
use Rattle.cil_base.specs.declared.operators.BinOp.TheVariants.{Mul, Add, And}
use Rattle.cil_base.specs.Integer.{ulong_of, long_of, least, greatest, kind_in}
use Rattle.cil_base.specs.Arithmetic.{fits}
use Rattle.type_graph.specs.declared.aggregates.Aggregate.{Aggregate}
use Rattle.type_graph.specs.declared.aggregates.Member.{Member}
use Rattle.type_graph.specs.declared.layout.Layout.{Layout}
use Rattle.type_graph.specs.declared.nodes.Quals.{Quals}
use Rattle.type_graph.specs.Shapes.{Shape, VoidType, IntType, PtrType, ArrayType, FuncType, AggType, shape}
use Rattle.type_graph.specs.Layouts.{offset}
use Rattle.cil_tree.specs.Tree.{Step, ToField, ToIndex, Item, Program}
use Rattle.cil_base.specs.Kinds.{same_kind}
use Rattle.cil_tree.specs.Typing.{Scope, is_function, is_scalar, global_type, is_enum, member_of, member_type, element_of, names_enum}
use Rattle.cil_tree.specs.Lines.{Token}
use Rattle.cil_tree.specs.Declarators.{digits, separated, in_parentheses, number, declared}
use Rattle.cil_tree.specs.Text.{shape_layout, name_in, global_name, is_function_type, path_tokens, path_type, address_tokens, constant_tokens, item_tokens, items_tokens, in_braces, image_tokens}
use Rattle.cil_tree.specs.Globals.{Part, aggregate_of, member_part, element_part, path_part, number_fits, is_object, address_fits, constant_fits, item_fits, item_offset, is_below, are_rising, unions_agree, image_fits}
use Rattle.cil_base.proofs.KindLaws.{kind_told}
use Rattle.cil_tree.proofs.ShapeEquality.{shape_itself}
use Rattle.cil_text.specs.Words.{Word, LeftParen, RightParen, LeftBracket, RightBracket, RightBrace, Dot, Comma, Assign, Operator, CharWord, Name, word_of, onto}
use Rattle.cil_text.specs.ReadTypes.{Named, skip_one}
use Rattle.cil_text.specs.ReadExps.{find_named, type_of_named, fields, host_named, enclosed}
use Rattle.cil_text.specs.Known.{known_of}
use Rattle.cil_text.specs.ReadStmts.{is_minus, read_number}
use Rattle.cil_text.specs.ReadImages.{Path, step_first, read_path, integer_of, only_global, offset_at, read_pointer, converted_to, read_converted, read_constant, item_at, read_item, item_first, next_item, read_items, only_item, is_brace, read_image}
use Rattle.cil_text.proofs.WordsBack.{onto_append, both, name_word, digits_word, decimal_word, suffix_kind}
use Rattle.cil_text.proofs.TypesBack.{nonempty, append_nonempty, separated_some, IsShape, declared_words}
use Rattle.cil_text.proofs.DeclsBack.{size, abstract_back}
use Rattle.cil_text.proofs.Clean.{AllClean, clean_append, parens_clean, name_clean, decimal_clean, number_clean, declared_clean, separated_clean}
use Rattle.cil_text.proofs.Typed.{bound_some, field_type_known, field_name_known, global_name_known}
use Rattle.cil_text.proofs.Told.{IsScope, enclosed_words, fits_small}
use Rattle.cil_text.proofs.NumbersBack.{number_back}

-- the scope of a file
abbrev pub file_scope : Program → Scope
file_scope p = record { program = p; locals = []; labels = [] }

mapped : {A B : Type 0} (f : A → B) (o : Option A) (y : B) → option_map f o ≡ Some y → (x : A) × (o ≡ Some x) × (f x ≡ y)
mapped f None y e = absurd (cc e)
mapped f (Some x) y e = (x, refl, cc)

-- names of members and globals are told, and types of members can be spelled
pub record IsFile (p : Program) : Type 0 where
  pub scope : IsScope (file_scope p)
  pub member_shape : (s t : Shape) (n : ℕ) → member_type p.graph s n ≡ Some t → IsShape p t

-- paths

abbrev pub path_weight : List Step → ℕ
path_weight [] = 0
path_weight (x ∷ xs) = 1 + path_weight xs

member_part_is : (p : Program) (n : ℕ) (a b : Part) → member_part p.graph n a ≡ Some b → member_type p.graph a.0 n ≡ Some b.0
member_part_is p n a b e =
    let h = bound_some (λ x. option_and_then (λ s. option_map (λ at. (s, a.1 + at)) (offset p.graph x n)) (member_type p.graph a.0 n)) (aggregate_of a.0) b e in
    let k = bound_some (λ s. option_map (λ at. (s, a.1 + at)) (offset p.graph h.0 n)) (member_type p.graph a.0 n) b h.2 in
    let m = mapped (λ (at : ℕ). (k.0, a.1 + at)) (offset p.graph h.0 n) b k.2 in
    k.1 ∙ ap (λ (x : Part). Some x.0) m.2

less : (m n : ℕ) → nat_lt m n ≡ true → m < n
less m n h = ltb-true m n h

element_part_is : (p : Program) (i : ℕ) (s : Shape) (at : ℕ) (b : Part) → IsShape p s → element_part p.graph i (s, at) ≡ Some b → (element_of s ≡ Some b.0) × (i < 2 ^ 64) × IsShape p b.0
element_part_is p i (ArrayType q s (Some n)) at b is e = by (nat_lt i n) refl e
  where
    by : (v : Bool) → nat_lt i n ≡ v → cond v (option_map (λ (l : Layout). (s, at + i * l.size)) (shape_layout p.graph s)) None ≡ Some b → (Some s ≡ Some b.0) × (i < 2 ^ 64) × IsShape p b.0
    by true h f =
        let m = mapped (λ (l : Layout). (s, at + i * l.size)) (shape_layout p.graph s) b f in
        let same : s ≡ b.0 = ap (λ (x : Part). x.0) m.2 in
        (ap Some same, omega (arith, less i n h, is.1), subst (IsShape p) same is.2)
    by false h f = absurd (cc f)
element_part_is p i (ArrayType q s None) at b is e = absurd (cc e)
element_part_is p i VoidType at b is e = absurd (cc e)
element_part_is p i (IntType k) at b is e = absurd (cc e)
element_part_is p i (PtrType q s) at b is e = absurd (cc e)
element_part_is p i (FuncType r ps pr v) at b is e = absurd (cc e)
element_part_is p i (AggType a) at b is e = absurd (cc e)

abbrev PathBack : Program → ℕ → List Step → Shape → Part → Type 0
PathBack p k path s b =
    ((rest : List Word) → read_path (known_of p []) k (Some s) (onto (path_tokens p path (Some s)) (Assign ∷ rest)) ≡ Some ((path, Some b.0), rest))
    × (path_type p path (Some s) ≡ Some b.0) × IsShape p b.0 × AllClean (path_tokens p path (Some s))

field_path : (p : Program) → IsFile p → (k n : ℕ) (path : List Step) (s t : Shape) (b : Part) → member_type p.graph s n ≡ Some t → PathBack p k path t b → PathBack p (suc k) (ToField n ∷ path) s b
unfolding word_of
field_path p is k n path s t b e back =
    let env = known_of p [] in
    let found : find_named (name_in p s n) (fields env (Some s)) ≡ Some n = ap (λ name. find_named name (fields env (Some s))) (sym (field_name_known (file_scope p) s n)) ∙ is.scope.member_found s t n e in
    let type : type_of_named (fields env (Some s)) n ≡ Some t = field_type_known (file_scope p) s n ∙ e in (
      (λ rest.
          ap (λ (o : Option Shape). read_path env (suc k) (Some s) (Dot ∷ word_of (name_in p s n) ∷ onto (path_tokens p path o) (Assign ∷ rest))) e
          ∙ ap (λ (w : Word). read_path env (suc k) (Some s) (Dot ∷ w ∷ onto (path_tokens p path (Some t)) (Assign ∷ rest))) (name_word (name_in p s n) (is.scope.member_name s t n e))
          ∙ ap (option_and_then (λ (m : ℕ). option_map (step_first (ToField m)) (read_path env k (type_of_named (fields env (Some s)) m) (onto (path_tokens p path (Some t)) (Assign ∷ rest))))) found
          ∙ ap (λ (o : Option Shape). option_map (step_first (ToField n)) (read_path env k o (onto (path_tokens p path (Some t)) (Assign ∷ rest)))) type
          ∙ ap (option_map (step_first (ToField n))) (back.0 rest)),
      ap (path_type p path) e ∙ back.1,
      back.2,
      (refl, (name_clean (name_in p s n) (is.scope.member_name s t n e), subst (λ (o : Option Shape). AllClean (path_tokens p path o)) (sym e) back.3)),
    )

index_path : (p : Program) (k i : ℕ) (path : List Step) (s t : Shape) (b : Part) → element_of s ≡ Some t → i < 2 ^ 64 → PathBack p k path t b → PathBack p (suc k) (ToIndex i ∷ path) s b
unfolding word_of
index_path p k i path s t b e small back =
    let env = known_of p [] in (
      (λ rest.
          ap (λ (o : Option Shape). read_path env (suc k) (Some s) (LeftBracket ∷ word_of (decimal i) ∷ RightBracket ∷ onto (path_tokens p path o) (Assign ∷ rest))) e
          ∙ ap (λ (w : Word). read_path env (suc k) (Some s) (LeftBracket ∷ w ∷ RightBracket ∷ onto (path_tokens p path (Some t)) (Assign ∷ rest))) (decimal_word i small)
          ∙ ap (λ (o : Option Shape). option_map (step_first (ToIndex i)) (read_path env k o (onto (path_tokens p path (Some t)) (Assign ∷ rest)))) e
          ∙ ap (option_map (step_first (ToIndex i))) (back.0 rest)),
      ap (path_type p path) e ∙ back.1,
      back.2,
      (refl, (decimal_clean i small, (refl, subst (λ (o : Option Shape). AllClean (path_tokens p path o)) (sym e) back.3))),
    )

pub path_back : (p : Program) → IsFile p → (k : ℕ) (path : List Step) (a b : Part) → path_weight path < k → IsShape p a.0 → path_part p.graph path a ≡ Some b → PathBack p k path a.0 b
path_back p is zero path a b low shaped e = absurd (omega arith)
path_back p is (suc k) [] a b low shaped e =
    let same : a ≡ b = cc in
    ((λ rest. ap (λ (x : Part). Some (([], Some x.0), rest)) same), ap (λ (x : Part). Some x.0) same, subst (λ (x : Part). IsShape p x.0) same shaped, tt)
path_back p is (suc k) (ToField n ∷ path) a b low shaped e =
    let h = bound_some (path_part p.graph path) (member_part p.graph n a) b e in
    let m = member_part_is p n a h.0 h.1 in
    field_path p is k n path a.0 h.0.0 b m (path_back p is k path h.0 b (omega arith) (is.member_shape a.0 h.0.0 n m) h.2)
path_back p is (suc k) (ToIndex i ∷ path) a b low shaped e =
    let h = bound_some (path_part p.graph path) (element_part p.graph i a) b e in
    let m = element_part_is p i a.0 a.1 h.0 shaped h.1 in
    index_path p k i path a.0 h.0.0 b m.0 m.1 (path_back p is k path h.0 b (omega arith) m.2 h.2)

-- constants

-- the suffix of a pointer's constant names the data model's unsigned long, which has no negative value
ulong_word : (abi : Abi) → kind_in abi (suffix_kind (ulong_of abi)) ≡ ulong_of abi
ulong_word Lp64 = refl
ulong_word Ilp32 = refl

ulong_natural : (abi : Abi) (n : ℕ) → fits (ulong_of abi) (negsuc n) ≡ true → ⊥
ulong_natural Lp64 n e = cc e
ulong_natural Ilp32 n e = cc e

-- an offset is a value of long
offset_fits : (abi : Abi) (m : ℕ) → m < 2 ^ 31 → fits (long_of abi) (pos m) ≡ true
offset_fits Lp64 m small = le-leb m (2 ^ 63 - 1) (omega (arith, small))
offset_fits Ilp32 m small = le-leb m (2 ^ 31 - 1) (omega (arith, small))

number_told : (place k : IntKind) (v : ℤ) → number_fits place k v ≡ true → (k ≡ place) × (fits k v ≡ true)
number_told place k v e =
    let h = both (same_kind k place) (fits k v && not (int_eq v (pos 0))) e in
    (kind_told k place h.0, (both (fits k v) (not (int_eq v (pos 0))) h.1).0)

global_there : (p : Program) → IsFile p → (n : ℕ) (s : Shape) → global_type p n ≡ Some s → (word_of (global_name p n) ≡ Name (global_name p n)) × (only_global (host_named (known_of p []) (global_name p n)) ≡ Some n)
global_there p is n s e = (
  name_word (global_name p n) (is.scope.global_name n s e),
  ap only_global (ap (host_named (known_of p [])) (sym (global_name_known (file_scope p) n)) ∙ is.scope.global_found n s e),
)

object_there : (p : Program) (n : ℕ) → is_object p n ≡ true → (s : Shape) × (global_type p n ≡ Some s)
object_there p n e = by (global_type p n) refl e
  where
    by : (o : Option Shape) → global_type p n ≡ o → elim o as (λ _. Bool) [ None ↦ false | Some s ↦ not (is_function s) ] ≡ true → (s : Shape) × (global_type p n ≡ Some s)
    by None h f = absurd (cc f)
    by (Some s) h f = (s, h)

function_there : (p : Program) (n : ℕ) → is_function_type (global_type p n) ≡ true → (s : Shape) × (global_type p n ≡ Some s)
function_there p n e = by (global_type p n) refl e
  where
    by : (o : Option Shape) → global_type p n ≡ o → is_function_type o ≡ true → (s : Shape) × (global_type p n ≡ Some s)
    by None h f = absurd (cc f)
    by (Some s) h f = (s, h)

-- behind a cast
converted_back : (p : Program) (n : ℕ) (q : Quals) (s : Shape) (value : List Token) (x : Constant) (rest : List Word) → size (PtrType q s) + 2 ≤ n → IsShape p (PtrType q s) → read_pointer (known_of p []) (onto value rest) ≡ Some (x, rest) →
    read_constant (known_of p []) n (Some (PtrType q s)) (onto (in_parentheses (declared p (PtrType q s) []) ++ value) rest) ≡ Some (x, rest)
unfolding word_of
converted_back p n q s value x rest low shaped e =
    let env = known_of p [] in
    ap (λ (ws : List Word). read_converted env n (PtrType q s) (LeftParen ∷ ws)) (
    onto_append (declared p (PtrType q s) [] ++ codes ")" ∷ []) value rest
    ∙ enclosed_words (declared p (PtrType q s) []) (onto value rest)
    ∙ declared_words p (PtrType q s) [] (RightParen ∷ onto value rest) shaped)
    ∙ ap (λ o. option_and_then (converted_to env (PtrType q s)) (enclosed (λ (y : Named). y.0) o)) (abstract_back p n (PtrType q s) (RightParen ∷ onto value rest) low shaped refl)
    ∙ ap (λ b. cond b (read_pointer env (onto value rest)) None) (shape_itself (PtrType q s))
    ∙ e

ulong_back : (p : Program) (v : ℤ) (rest : List Word) → fits (ulong_of p.graph.abi) v ≡ true → is_minus rest ≡ false → read_pointer (known_of p []) (onto (number (ulong_of p.graph.abi) v) rest) ≡ Some (Integer (ulong_of p.graph.abi) v, rest)
ulong_back p (pos v) rest small stops =
    ap (λ (w : Word). read_pointer (known_of p []) (w ∷ rest)) (digits_word (ulong_of p.graph.abi) v (fits_small (ulong_of p.graph.abi) v small))
    ∙ ap (λ (k : IntKind). Some (Integer k (pos v), rest)) (ulong_word p.graph.abi)
ulong_back p (negsuc v) rest small stops = absurd (ulong_natural p.graph.abi v small)

address_back : (p : Program) → IsFile p → (n : ℕ) (v : ℤ) (rest : List Word) → address_fits p n v ≡ true → read_pointer (known_of p []) (onto (address_tokens p n v) rest) ≡ Some (Address (record { 0 = n }) v, rest)
unfolding word_of
address_back p is n (pos m) rest e =
    let env = known_of p [] in
    let a = both (is_object p n) (int_le (pos 0) (pos m) && int_lt (pos m) (pos (2 ^ 31))) e in
    let b = both (int_le (pos 0) (pos m)) (int_lt (pos m) (pos (2 ^ 31))) a.1 in
    let o = object_there p n a.0 in
    let g = global_there p is n o.0 o.1 in
    let small : m < 2 ^ 64 = omega (arith, ltb-true m (2 ^ 31) b.1) in
    ap (λ (ws : List Word). read_pointer env (LeftParen ∷ LeftParen ∷ CharWord ∷ Operator Mul ∷ RightParen ∷ Operator And ∷ word_of (global_name p n) ∷ Operator Add ∷ ws)) (enclosed_words (number (long_of p.graph.abi) (pos m)) rest)
    ∙ ap (λ (w : Word). read_pointer env (LeftParen ∷ LeftParen ∷ CharWord ∷ Operator Mul ∷ RightParen ∷ Operator And ∷ w ∷ Operator Add ∷ word_of (digits (long_of p.graph.abi) m) ∷ RightParen ∷ rest)) g.0
    ∙ ap (option_and_then (λ (k : ℕ). option_and_then (offset_at p.graph.abi k) (read_number (word_of (digits (long_of p.graph.abi) m) ∷ RightParen ∷ rest)))) g.1
    ∙ ap (λ (w : Word). option_and_then (offset_at p.graph.abi n) (read_number (w ∷ RightParen ∷ rest))) (digits_word (long_of p.graph.abi) m small)
    ∙ ap (λ b. cond b (Some (Address (record { 0 = n }) (pos m), rest)) None) (offset_fits p.graph.abi m (ltb-true m (2 ^ 31) b.1))
address_back p is n (negsuc m) rest e = absurd (cc (both (is_object p n) false e).1)

code_back : (p : Program) → IsFile p → (n : ℕ) (rest : List Word) → is_function_type (global_type p n) ≡ true → read_pointer (known_of p []) (onto (codes "&" ∷ global_name p n ∷ []) rest) ≡ Some (Code (record { 0 = n }), rest)
unfolding word_of
code_back p is n rest e =
    let f = function_there p n e in
    let g = global_there p is n f.0 f.1 in
    ap (λ (w : Word). read_pointer (known_of p []) (Operator And ∷ w ∷ rest)) g.0 ∙ ap (option_map (λ (m : ℕ). (Code (record { 0 = m }), rest))) g.1

pub constant_back : (p : Program) → IsFile p → (n : ℕ) (s : Shape) (x : Constant) (rest : List Word) → size s + 2 ≤ n → IsShape p s → constant_fits p s x ≡ true → is_minus rest ≡ false →
    read_constant (known_of p []) n (Some s) (onto (constant_tokens p (Some s) x) rest) ≡ Some (x, rest)
constant_back p is n (IntType k) (Integer j v) rest low shaped e stops =
    let h = number_told k j v e in
    ap (option_map (integer_of k)) (number_back j v rest h.1 stops) ∙ ap (λ (y : IntKind). Some (Integer y v, rest)) (sym h.0)
constant_back p is n (AggType a) (Integer j v) rest low shaped e stops =
    let h = number_told kind.Int j v (both (names_enum p.graph a) (number_fits kind.Int j v) e).1 in
    ap (option_map (integer_of kind.Int)) (number_back j v rest h.1 stops) ∙ ap (λ (y : IntKind). Some (Integer y v, rest)) (sym h.0)
constant_back p is n (PtrType q s) (Integer j v) rest low shaped e stops =
    let h = number_told (ulong_of p.graph.abi) j v e in
    converted_back p n q s (number j v) (Integer j v) rest low shaped
    (subst (λ (y : IntKind). read_pointer (known_of p []) (onto (number y v) rest) ≡ Some (Integer y v, rest)) (sym h.0) (ulong_back p v rest (subst (λ (y : IntKind). fits y v ≡ true) h.0 h.1) stops))
constant_back p is n (PtrType q s) (Address object at) rest low shaped e stops = converted_back p n q s (address_tokens p object.0 at) (Address object at) rest low shaped (address_back p is object.0 at rest e)
constant_back p is n (PtrType q s) (Code function) rest low shaped e stops = converted_back p n q s (codes "&" ∷ global_name p function.0 ∷ []) (Code function) rest low shaped (code_back p is function.0 rest e)
constant_back p is n s x rest low shaped e stops = absurd (cc e)

-- items

-- the part that an item initialises
pub item_part : (p : Program) (s : Shape) (x : Item) → item_fits p s x ≡ true → (part : Part) × (path_part p.graph x.path (s, 0) ≡ Some part) × (constant_fits p part.0 x.value ≡ true)
item_part p s x e = by (path_part p.graph x.path (s, 0)) refl e
  where
    by : (o : Option Part) → path_part p.graph x.path (s, 0) ≡ o → elim o as (λ _. Bool) [ None ↦ false | Some part ↦ is_scalar p.graph part.0 && constant_fits p part.0 x.value ] ≡ true →
        (part : Part) × (path_part p.graph x.path (s, 0) ≡ Some part) × (constant_fits p part.0 x.value ≡ true)
    by None h f = absurd (cc f)
    by (Some part) h f = (part, h, (both (is_scalar p.graph part.0) (constant_fits p part.0 x.value) f).1)

abbrev pub part_size : Option Part → ℕ
part_size None = 0
part_size (Some part) = size part.0

abbrev pub item_weight : Program → Shape → Item → ℕ
item_weight p s x = 3 + path_weight x.path + part_size (path_part p.graph x.path (s, 0))

abbrev pub items_weight : Program → Shape → List Item → ℕ
items_weight p s [] = 0
items_weight p s (x ∷ xs) = item_weight p s x + items_weight p s xs

pub item_back : (p : Program) → IsFile p → (n : ℕ) (s : Shape) (x : Item) (rest : List Word) → item_weight p s x ≤ n → IsShape p s → item_fits p s x ≡ true → is_minus rest ≡ false →
    read_item (known_of p []) n (Some s) (onto (item_tokens p (Some s) x) rest) ≡ Some (x, rest)
unfolding word_of
item_back p is n s x rest low shaped e stops =
    let env = known_of p [] in
    let h = item_part p s x e in
    let same : part_size (path_part p.graph x.path (s, 0)) ≡ size h.0.0 = ap part_size h.1 in
    let back = path_back p is n x.path (s, 0) h.0 (omega arith) shaped h.1 in
    ap (read_item env n (Some s)) (
    onto_append (path_tokens p x.path (Some s)) (codes "=" ∷ constant_tokens p (path_type p x.path (Some s)) x.value) rest
    ∙ ap (λ (o : Option Shape). onto (path_tokens p x.path (Some s)) (Assign ∷ onto (constant_tokens p o x.value) rest)) back.1)
    ∙ ap (option_and_then (λ (r : Path × List Word). option_map (item_at r.0.0) (read_constant env n r.0.1 r.1))) (back.0 (onto (constant_tokens p (Some h.0.0) x.value) rest))
    ∙ ap (option_map (item_at x.path)) (constant_back p is n h.0.0 x.value rest (omega (arith, same)) back.2 h.2 stops)

-- an element behind others leaves a list nonempty
ends_nonempty : (a b : List Token) (t : Token) → nonempty (a ++ t ∷ b) ≡ true
ends_nonempty [] b t = refl
ends_nonempty (u ∷ a) b t = refl

item_nonempty : (p : Program) (s : Shape) (x : Item) (more : List Token) → nonempty (separated (item_tokens p (Some s) x) more) ≡ true
item_nonempty p s x [] = ends_nonempty (path_tokens p x.path (Some s)) (constant_tokens p (path_type p x.path (Some s)) x.value) (codes "=")
item_nonempty p s x (t ∷ ts) = append_nonempty (item_tokens p (Some s) x) (codes "," ∷ t ∷ ts) (ends_nonempty (path_tokens p x.path (Some s)) (constant_tokens p (path_type p x.path (Some s)) x.value) (codes "="))

abbrev items_rest : Program → Shape → List Item → List Word → List Word
items_rest p s [] rest = RightBrace ∷ rest
items_rest p s (x ∷ xs) rest = Comma ∷ onto (item_tokens p (Some s) x) (items_rest p s xs rest)

items_words : (p : Program) (s : Shape) (first : List Token) (xs : List Item) (rest : List Word) → onto (separated first (items_tokens p (Some s) xs)) (RightBrace ∷ rest) ≡ onto first (items_rest p s xs rest)
unfolding word_of
items_words p s first [] rest = refl
items_words p s first (x ∷ xs) rest =
    ap (λ (ts : List Token). onto ts (RightBrace ∷ rest)) (separated_some first (items_tokens p (Some s) (x ∷ xs)) (item_nonempty p s x (items_tokens p (Some s) xs)))
    ∙ onto_append first (codes "," ∷ items_tokens p (Some s) (x ∷ xs)) (RightBrace ∷ rest)
    ∙ ap (λ (ws : List Word). onto first (Comma ∷ ws)) (items_words p s (item_tokens p (Some s) x) xs rest)

items_back : (p : Program) → IsFile p → (n k : ℕ) (s : Shape) (x : Item) (xs : List Item) (rest : List Word) → items_weight p s (x ∷ xs) ≤ n → items_weight p s (x ∷ xs) ≤ k → IsShape p s →
    list_all (item_fits p s) (x ∷ xs) ≡ true → read_items (known_of p []) n k (Some s) (onto (item_tokens p (Some s) x) (items_rest p s xs rest)) ≡ Some (x ∷ xs, rest)
items_back p is n zero s x xs rest low small shaped e = absurd (omega arith)
items_back p is n (suc k) s x [] rest low small shaped e =
    ap (option_and_then (λ (r : Item × List Word). next_item (read_items (known_of p []) n k (Some s)) r.0 r.1)) (item_back p is n s x (RightBrace ∷ rest) (omega arith) shaped (both (item_fits p s x) true e).0 refl)
items_back p is n (suc k) s x (y ∷ ys) rest low small shaped e =
    let h = both (item_fits p s x) (list_all (item_fits p s) (y ∷ ys)) e in
    ap (option_and_then (λ (r : Item × List Word). next_item (read_items (known_of p []) n k (Some s)) r.0 r.1)) (item_back p is n s x (items_rest p s (y ∷ ys) rest) (omega arith) shaped h.0 refl)
    ∙ ap (option_map (item_first x)) (items_back p is n k s y ys rest (omega arith) (omega arith) shaped h.1)

-- a scalar has one item, without steps

number_flat : (k : IntKind) (v : ℤ) (rest : List Word) → fits k v ≡ true → is_brace (onto (number k v) rest) ≡ false
unfolding word_of
number_flat k (pos v) rest small = ap (λ (w : Word). is_brace (w ∷ rest)) (digits_word k v (fits_small k v small))
number_flat k (negsuc v) rest small = by (int_eq (negsuc v) (least k))
  where
    by : (b : Bool) → is_brace (onto (cond b (codes "-" ∷ digits k (unsigned_abs (greatest k)) ∷ codes "-" ∷ codes "1" ∷ []) (codes "-" ∷ digits k (suc v) ∷ [])) rest) ≡ false
    by true = refl
    by false = refl

constant_flat : (p : Program) (s : Shape) (x : Constant) (rest : List Word) → constant_fits p s x ≡ true → is_brace (onto (constant_tokens p (Some s) x) rest) ≡ false
unfolding word_of
constant_flat p (IntType k) (Integer j v) rest e = number_flat j v rest (number_told k j v e).1
constant_flat p (AggType a) (Integer j v) rest e = number_flat j v rest (number_told kind.Int j v (both (names_enum p.graph a) (number_fits kind.Int j v) e).1).1
constant_flat p (PtrType q s) x rest e = refl
constant_flat p s x rest e = absurd (cc e)

enum_has_no_member : (p : Program) (a n : ℕ) (t : Shape) → names_enum p.graph a ≡ true → member_type p.graph (AggType a) n ≡ Some t → ⊥
enum_has_no_member p a n t e f = by (slice_get p.graph.aggs a) e f
  where
    by : (o : Option Aggregate) → elim o as (λ _. Bool) [ None ↦ false | Some x ↦ is_enum x.kind ] ≡ true → option_map (λ (m : Member). shape p.graph.nodes m.ty.of.0) (option_and_then (λ (x : Aggregate). member_of p.graph x n) o) ≡ Some t → ⊥
    by None h g = absurd (cc h)
    by (Some x) h g = absurd (cc (sym (ap (λ b. option_map (λ (m : Member). shape p.graph.nodes m.ty.of.0) (cond b None (option_and_then (λ (ms : List Member). slice_get ms n) x.members))) h) ∙ g))

scalar_path : (p : Program) (s : Shape) (path : List Step) (part : Part) → is_scalar p.graph s ≡ true → path_part p.graph path (s, 0) ≡ Some part → path ≡ []
scalar_path p s [] part e f = refl
scalar_path p s (ToField n ∷ path) part e f =
    let h = bound_some (path_part p.graph path) (member_part p.graph n (s, 0)) part f in
    absurd (by s e (member_part_is p n (s, 0) h.0 h.1))
  where
    by : (t : Shape) → is_scalar p.graph t ≡ true → member_type p.graph t n ≡ Some (bound_some (path_part p.graph path) (member_part p.graph n (s, 0)) part f).0.0 → ⊥
    by (AggType a) g m = enum_has_no_member p a n _ g m
    by t g m = absurd (cc m)
scalar_path p s (ToIndex i ∷ path) part e f =
    let h = bound_some (path_part p.graph path) (element_part p.graph i (s, 0)) part f in
    absurd (by s e h.1)
  where
    by : (t : Shape) → is_scalar p.graph t ≡ true → element_part p.graph i (t, 0) ≡ Some (bound_some (path_part p.graph path) (element_part p.graph i (s, 0)) part f).0 → ⊥
    by (ArrayType q u bound) g m = absurd (cc g)
    by t g m = absurd (cc m)

-- the one item of a scalar
pub scalar_item : (p : Program) (s : Shape) (x : Item) → is_scalar p.graph s ≡ true → item_fits p s x ≡ true → (x.path ≡ []) × (constant_fits p s x.value ≡ true)
scalar_item p s x scalar e =
    let h = item_part p s x e in
    let empty = scalar_path p s x.path h.0 scalar h.1 in
    let part : Some (s, 0) ≡ Some h.0 = sym (ap (λ path. path_part p.graph path (s, 0)) empty) ∙ h.1 in
    let same : (s, 0) ≡ h.0 = cc in
    (empty, ap (λ (y : Part). constant_fits p y.0 x.value) same ∙ h.2)

pub one_scalar : (p : Program) (s : Shape) (x y : Item) (ys : List Item) → is_scalar p.graph s ≡ true → item_fits p s x ≡ true → item_fits p s y ≡ true → are_rising (map (item_offset p.graph s) (x ∷ y ∷ ys)) ≡ true → ⊥
one_scalar p s x y ys scalar e f rising =
    let a : item_offset p.graph s x ≡ Some 0 = ap (λ path. option_map (λ (part : Part). part.1) (path_part p.graph path (s, 0))) (scalar_item p s x scalar e).0 in
    let b : item_offset p.graph s y ≡ Some 0 = ap (λ path. option_map (λ (part : Part). part.1) (path_part p.graph path (s, 0))) (scalar_item p s y scalar f).0 in
    let low = (both (is_below (item_offset p.graph s x) (item_offset p.graph s y)) (are_rising (map (item_offset p.graph s) (y ∷ ys))) rising).0 in
    let equal : is_below (Some 0) (Some 0) ≡ true = ap (λ o. is_below (Some 0) o) (sym b) ∙ ap (λ o. is_below o (item_offset p.graph s y)) (sym a) ∙ low in
    absurd (cc equal)

scalar_back : (p : Program) → IsFile p → (n : ℕ) (s : Shape) (x : Item) (xs : List Item) (rest : List Word) → items_weight p s (x ∷ xs) ≤ n → IsShape p s → is_scalar p.graph s ≡ true → list_all (item_fits p s) (x ∷ xs) ≡ true → are_rising (map (item_offset p.graph s) (x ∷ xs)) ≡ true →
    is_minus rest ≡ false → read_image (known_of p []) n (Some s) (onto (constant_tokens p (Some s) x.value) rest) ≡ Some (x ∷ xs, rest)
scalar_back p is n s x (y ∷ ys) rest low shaped scalar fit rising stops =
    let h = both (item_fits p s x) (list_all (item_fits p s) (y ∷ ys)) fit in
    absurd (one_scalar p s x y ys scalar h.0 (both (item_fits p s y) (list_all (item_fits p s) ys) h.1).0 rising)
scalar_back p is n s x [] rest low shaped scalar fit rising stops =
    let h = scalar_item p s x scalar (both (item_fits p s x) true fit).0 in
    let size_is : part_size (path_part p.graph x.path (s, 0)) ≡ size s = ap (λ path. part_size (path_part p.graph path (s, 0))) h.0 in
    let words = onto (constant_tokens p (Some s) x.value) rest in
    ap (λ b. cond b (read_items (known_of p []) n n (Some s) (skip_one words)) (option_map only_item (read_constant (known_of p []) n (Some s) words))) (constant_flat p s x.value rest h.1)
    ∙ ap (option_map only_item) (constant_back p is n s x.value rest (omega (arith, size_is)) shaped h.1 stops)
    ∙ ap (λ (path : List Step). Some (record x { path = path } ∷ [], rest)) (sym h.0)

braces_back : (p : Program) → IsFile p → (n : ℕ) (s : Shape) (x : Item) (xs : List Item) (rest : List Word) → items_weight p s (x ∷ xs) ≤ n → IsShape p s → list_all (item_fits p s) (x ∷ xs) ≡ true →
    read_image (known_of p []) n (Some s) (onto (in_braces (items_tokens p (Some s) (x ∷ xs))) rest) ≡ Some (x ∷ xs, rest)
unfolding word_of
braces_back p is n s x xs rest low shaped fit =
    ap (read_items (known_of p []) n n (Some s)) (onto_append (items_tokens p (Some s) (x ∷ xs)) (codes "}" ∷ []) rest ∙ items_words p s (item_tokens p (Some s) x) xs rest)
    ∙ items_back p is n n s x xs rest low low shaped fit

pub image_back : (p : Program) → IsFile p → (n : ℕ) (s : Shape) (items : List Item) (rest : List Word) → items_weight p s items ≤ n → IsShape p s → image_fits p s items ≡ true → is_minus rest ≡ false →
    read_image (known_of p []) n (Some s) (onto (image_tokens p (Some s) items) rest) ≡ Some (items, rest)
image_back p is n s [] rest low shaped e stops = absurd (cc e)
image_back p is n s (x ∷ xs) rest low shaped e stops =
    let h = both (list_all (item_fits p s) (x ∷ xs)) (are_rising (map (item_offset p.graph s) (x ∷ xs)) && unions_agree p.graph s (x ∷ xs)) e in
    by (is_scalar p.graph s) refl h.0 (both (are_rising (map (item_offset p.graph s) (x ∷ xs))) (unions_agree p.graph s (x ∷ xs)) h.1).0
  where
    by : (b : Bool) → is_scalar p.graph s ≡ b → list_all (item_fits p s) (x ∷ xs) ≡ true → are_rising (map (item_offset p.graph s) (x ∷ xs)) ≡ true →
        read_image (known_of p []) n (Some s) (onto (cond b (constant_tokens p (Some s) x.value) (in_braces (items_tokens p (Some s) (x ∷ xs)))) rest) ≡ Some (x ∷ xs, rest)
    by true scalar fit rising = scalar_back p is n s x xs rest low shaped scalar fit rising stops
    by false other fit rising = braces_back p is n s x xs rest low shaped fit

-- an image's tokens have no blank

constant_clean : (p : Program) → IsFile p → (s : Shape) (x : Constant) → IsShape p s → constant_fits p s x ≡ true → AllClean (constant_tokens p (Some s) x)
constant_clean p is (IntType k) (Integer j v) shaped e = number_clean j v
constant_clean p is (AggType a) (Integer j v) shaped e = number_clean j v
constant_clean p is (PtrType q s) (Integer j v) shaped e = clean_append (in_parentheses (declared p (PtrType q s) [])) (number j v) (parens_clean (declared p (PtrType q s) []) (declared_clean p (PtrType q s) [] shaped tt)) (number_clean j v)
constant_clean p is (PtrType q s) (Address object at) shaped e =
    let o = object_there p object.0 (both (is_object p object.0) (int_le (pos 0) at && int_lt at (pos (2 ^ 31))) e).0 in
    let name = name_clean (global_name p object.0) (is.scope.global_name object.0 o.0 o.1) in
    clean_append (in_parentheses (declared p (PtrType q s) [])) (address_tokens p object.0 at) (parens_clean (declared p (PtrType q s) []) (declared_clean p (PtrType q s) [] shaped tt))
    (parens_clean (in_parentheses (codes "char" ∷ codes "*" ∷ []) ++ codes "&" ∷ global_name p object.0 ∷ codes "+" ∷ number (long_of p.graph.abi) at) (refl, (refl, (refl, (refl, (refl, (name, (refl, number_clean (long_of p.graph.abi) at))))))))
constant_clean p is (PtrType q s) (Code function) shaped e =
    let f = function_there p function.0 e in
    clean_append (in_parentheses (declared p (PtrType q s) [])) (codes "&" ∷ global_name p function.0 ∷ []) (parens_clean (declared p (PtrType q s) []) (declared_clean p (PtrType q s) [] shaped tt))
    (refl, (name_clean (global_name p function.0) (is.scope.global_name function.0 f.0 f.1), tt))
constant_clean p is s x shaped e = absurd (cc e)

item_clean : (p : Program) → IsFile p → (s : Shape) (x : Item) → IsShape p s → item_fits p s x ≡ true → AllClean (item_tokens p (Some s) x)
item_clean p is s x shaped e =
    let h = item_part p s x e in
    let back = path_back p is (suc (path_weight x.path)) x.path (s, 0) h.0 (omega arith) shaped h.1 in
    clean_append (path_tokens p x.path (Some s)) (codes "=" ∷ constant_tokens p (path_type p x.path (Some s)) x.value) back.3
    (refl, subst (λ (o : Option Shape). AllClean (constant_tokens p o x.value)) (sym back.1) (constant_clean p is h.0.0 x.value back.2 h.2))

items_clean : (p : Program) → IsFile p → (s : Shape) (xs : List Item) → IsShape p s → list_all (item_fits p s) xs ≡ true → AllClean (items_tokens p (Some s) xs)
items_clean p is s [] shaped e = tt
items_clean p is s (x ∷ xs) shaped e =
    let h = both (item_fits p s x) (list_all (item_fits p s) xs) e in
    separated_clean (item_tokens p (Some s) x) (items_tokens p (Some s) xs) (item_clean p is s x shaped h.0) (items_clean p is s xs shaped h.1)

pub image_clean : (p : Program) → IsFile p → (s : Shape) (items : List Item) → IsShape p s → image_fits p s items ≡ true → AllClean (image_tokens p (Some s) items)
image_clean p is s [] shaped e = absurd (cc e)
image_clean p is s (x ∷ xs) shaped e =
    let h = both (list_all (item_fits p s) (x ∷ xs)) (are_rising (map (item_offset p.graph s) (x ∷ xs)) && unions_agree p.graph s (x ∷ xs)) e in
    by (is_scalar p.graph s) refl h.0
  where
    by : (b : Bool) → is_scalar p.graph s ≡ b → list_all (item_fits p s) (x ∷ xs) ≡ true → AllClean (cond b (constant_tokens p (Some s) x.value) (in_braces (items_tokens p (Some s) (x ∷ xs))))
    by true scalar fit = constant_clean p is s x.value shaped (scalar_item p s x scalar (both (item_fits p s x) (list_all (item_fits p s) xs) fit).0).1
    by false other fit = (refl, clean_append (items_tokens p (Some s) (x ∷ xs)) (codes "}" ∷ []) (items_clean p is s (x ∷ xs) shaped fit) (refl, tt))
