-- Device: the tokens of well-typed expressions are the words that the reading gives back.
use Rattle.std.proofs.Common.{◌≡◌, ℕ, ◌<◌, ◌^◌, ◌-◌, ◌&&◌, not, true, false, List, [], ◌∷◌, ◌++◌, codes, Option, Some, None, refl, sym, ap, ◌∙◌, subst, arith, leb-true}
use Rattle.std.specs.Prelude.{pos, int_le}
use Rattle.std.specs.Option.{option_and_then}
use Rattle.cil_base.specs.declared.kinds.Abi.{Abi}
use Rattle.cil_base.specs.declared.kinds.IntKind.{IntKind}
use Rattle.cil_base.specs.declared.kinds.IntKind.TheVariants as kind
use Rattle.cil_base.specs.declared.operators.UnOp.{UnOp}
use Rattle.cil_base.specs.declared.operators.UnOp.TheVariants.{Neg, Compl, Not}
use Rattle.cil_base.specs.declared.operators.BinOp.TheVariants.{Mul, And}
use Rattle.cil_base.specs.Integer.{has_kind, least, greatest, kind_in}
use Rattle.cil_base.specs.Arithmetic.{fits}
use Rattle.cil_base.specs.Operators.{operator_spelling}
use Rattle.type_graph.specs.Shapes.{Shape, IntType}
use Rattle.type_graph.specs.Arena.{complete_shape}
use Rattle.cil_tree.specs.Tree.{Exp, Const, Value, Un, Bin, Cast, AddrOf, StartOf, Host, Global, Var, At, Offsets, Here, Field, Index, Lval, Place, Program}
use Rattle.cil_tree.specs.Typing.{Scope, is_array, is_wide, global_type, local_type, member_type, element_of, element_type, pointed, is_readable, read_type, address_type, start_type, unary_type, binary_type, cast_type, type_of, host_type, part_type, place_type}
use Rattle.cil_tree.specs.Lines.{Token}
use Rattle.cil_tree.specs.Declarators.{in_parentheses, type_tokens}
use Rattle.cil_tree.specs.Names.{is_name}
use Rattle.cil_tree.specs.Text.{name_in, global_name, local_name, unary_spelling, exp_tokens, host_tokens, offset_tokens, place_tokens}
use Rattle.cil_base.proofs.KindLaws.{long_is, ulong_is, long4_is, ulong4_is}
use Rattle.cil_text.specs.Words.{Word, LeftParen, RightParen, LeftBracket, RightBracket, Dot, Operator, Name, word_of, onto}
use Rattle.cil_text.specs.ReadExps.{find_named, name_at, type_of_named, fields, host_named, is_array_type, type_at_host}
use Rattle.cil_text.specs.Known.{env_of}
use Rattle.cil_text.proofs.WordsBack.{onto_append, both, denied, name_word, digits_word, suffix_kind, operator_word}
use Rattle.cil_text.proofs.TypesBack.{type_spelled, IsShape, declared_words}
use Rattle.cil_text.proofs.Clean.{AllClean, clean_append, parens_clean, name_clean, digits_clean, operator_clean, unary_clean, declared_clean}
use Rattle.cil_text.proofs.ExpsBack.{unary_word, exp_spelled, host_spelled, offsets_spelled, place_spelled, IsExp, IsHost, AreOffsets, IsPlace}
use Rattle.cil_text.proofs.Typed.{bound_some, test_some, field_type_known, field_name_known, global_name_known, start_is, index_is, host_is, place_is}

-- numbers of constants

below_greatest : (v g : ℕ) → int_le (pos v) (pos g) ≡ true → g < 2 ^ 64 → v < 2 ^ 64
below_greatest v g e small = omega (arith, leb-true v g e, small)

value_is_small : (k : IntKind) (v : ℕ) → int_le (pos v) (greatest k) ≡ true → v < 2 ^ 64
value_is_small k v = elim k as (λ x. int_le (pos v) (greatest x) ≡ true → v < 2 ^ 64) [
  | kind.Bool ↦ (λ e. below_greatest v 1 e (omega arith))
  | kind.Char ↦ (λ e. below_greatest v (2 ^ 7 - 1) e (omega arith))
  | kind.SChar ↦ (λ e. below_greatest v (2 ^ 7 - 1) e (omega arith))
  | kind.UChar ↦ (λ e. below_greatest v (2 ^ 8 - 1) e (omega arith))
  | kind.Short ↦ (λ e. below_greatest v (2 ^ 15 - 1) e (omega arith))
  | kind.UShort ↦ (λ e. below_greatest v (2 ^ 16 - 1) e (omega arith))
  | kind.Int ↦ (λ e. below_greatest v (2 ^ 31 - 1) e (omega arith))
  | kind.UInt ↦ (λ e. below_greatest v (2 ^ 32 - 1) e (omega arith))
  | kind.Long ↦ (λ e. below_greatest v (2 ^ 63 - 1) e (omega arith))
  | kind.ULong ↦ (λ e. below_greatest v (2 ^ 64 - 1) e (omega arith))
  | kind.LLong ↦ (λ e. below_greatest v (2 ^ 63 - 1) e (omega arith))
  | kind.ULLong ↦ (λ e. below_greatest v (2 ^ 64 - 1) e (omega arith))
  | kind.Long4 ↦ (λ e. below_greatest v (2 ^ 31 - 1) e (omega arith))
  | kind.ULong4 ↦ (λ e. below_greatest v (2 ^ 32 - 1) e (omega arith))
]

pub fits_small : (k : IntKind) (v : ℕ) → fits k (pos v) ≡ true → v < 2 ^ 64
fits_small k v e = value_is_small k v (both (int_le (least k) (pos v)) (int_le (pos v) (greatest k)) e).1

pub wide_suffix : (abi : Abi) (k : IntKind) → is_wide k ≡ true → has_kind abi k ≡ true → kind_in abi (suffix_kind k) ≡ k
wide_suffix abi k = elim k as (λ x. is_wide x ≡ true → has_kind abi x ≡ true → kind_in abi (suffix_kind x) ≡ x) [
  | kind.Bool ↦ (λ e h. absurd (cc e))
  | kind.Char ↦ (λ e h. absurd (cc e))
  | kind.SChar ↦ (λ e h. absurd (cc e))
  | kind.UChar ↦ (λ e h. absurd (cc e))
  | kind.Short ↦ (λ e h. absurd (cc e))
  | kind.UShort ↦ (λ e h. absurd (cc e))
  | kind.Int ↦ (λ e h. refl)
  | kind.UInt ↦ (λ e h. refl)
  | kind.Long ↦ (λ e h. long_is abi h)
  | kind.ULong ↦ (λ e h. ulong_is abi h)
  | kind.LLong ↦ (λ e h. refl)
  | kind.ULLong ↦ (λ e h. refl)
  | kind.Long4 ↦ (λ e h. long4_is abi h)
  | kind.ULong4 ↦ (λ e h. ulong4_is abi h)
]

-- names are found, and are told apart from other words

pub record IsScope (c : Scope) : Type 0 where
  pub global_name : (n : ℕ) (s : Shape) → global_type c.program n ≡ Some s → is_name (global_name c.program n) ≡ true
  pub global_found : (n : ℕ) (s : Shape) → global_type c.program n ≡ Some s → host_named (env_of c) (name_at (env_of c).globals n) ≡ Some (Global n)
  pub local_name : (n : ℕ) (s : Shape) → local_type c.locals n ≡ Some s → is_name (local_name c.locals n) ≡ true
  pub local_found : (n : ℕ) (s : Shape) → local_type c.locals n ≡ Some s → host_named (env_of c) (name_at (env_of c).locals n) ≡ Some (Var n)
  pub member_name : (s t : Shape) (n : ℕ) → member_type c.program.graph s n ≡ Some t → is_name (name_in c.program s n) ≡ true
  pub member_found : (s t : Shape) (n : ℕ) → member_type c.program.graph s n ≡ Some t → find_named (name_at (fields (env_of c) (Some s)) n) (fields (env_of c) (Some s)) ≡ Some n

-- the types of casts can be spelled

abbrev pub CastFits : Program → Option Shape → Type 0
CastFits p None = Unit {0}
CastFits p (Some s) = IsShape p s

abbrev mutual
  pub CanCast : Program → Exp → Type 0
  CanCast p (Const k v) = Unit {0}
  CanCast p (Value place) = CanCastIn p place
  CanCast p (Un op operand) = CanCast p operand
  CanCast p (Bin op left right) = CanCast p left × CanCast p right
  CanCast p (Cast to operand) = CastFits p to × CanCast p operand
  CanCast p (AddrOf place) = CanCastIn p place
  CanCast p (StartOf place) = CanCastIn p place

  pub HostCast : Program → Host → Type 0
  HostCast p (Global n) = Unit {0}
  HostCast p (Var n) = Unit {0}
  HostCast p (At pointer) = CanCast p pointer

  pub OffsetsCast : Program → Offsets → Type 0
  OffsetsCast p Here = Unit {0}
  OffsetsCast p (Field n more) = OffsetsCast p more
  OffsetsCast p (Index index more) = CanCast p index × OffsetsCast p more

  pub CanCastIn : Program → Lval → Type 0
  CanCastIn p (Place host offsets) = HostCast p host × OffsetsCast p offsets

-- the tokens are these words, and these are read back

abbrev pub Told : Scope → Exp → Type 0
Told c e = ((rest : List Word) → onto (exp_tokens c e) rest ≡ exp_spelled c.program (env_of c) e rest) × IsExp c.program (env_of c) e × AllClean (exp_tokens c e)

abbrev pub PlaceTold : Scope → Lval → Type 0
PlaceTold c place = ((rest : List Word) → onto (place_tokens c place) rest ≡ place_spelled c.program (env_of c) place rest) × IsPlace c.program (env_of c) place × AllClean (place_tokens c place)

pub enclosed_words : (inner : List Token) (rest : List Word) → onto (inner ++ codes ")" ∷ []) rest ≡ onto inner (RightParen ∷ rest)
unfolding word_of
enclosed_words inner rest = onto_append inner (codes ")" ∷ []) rest

unary_token : (op : UnOp) → word_of (unary_spelling op) ≡ unary_word op
unfolding word_of
unary_token Neg = refl
unary_token Compl = refl
unary_token Not = refl

readable_is_no_array : (c : Scope) (s t : Shape) → read_type c s ≡ Some t → is_array s ≡ false
readable_is_no_array c s t e = denied (is_array s) (both (complete_shape c.program.graph.aggs s) (not (is_array s)) (test_some (is_readable c.program.graph s) s t e).0).1

mutual
  unfolding word_of

  pub exp_told : (c : Scope) → IsScope c → (e : Exp) (t : Shape) → CanCast c.program e → type_of c e ≡ Some t → Told c e
  exp_told c scope (Const k v) t cast e =
      let h = test_some (is_wide k && (has_kind c.program.graph.abi k && fits k (pos v))) (IntType k) t e in
      let w = both (is_wide k) (has_kind c.program.graph.abi k && fits k (pos v)) h.0 in
      let f = both (has_kind c.program.graph.abi k) (fits k (pos v)) w.1 in
      ((λ rest. ap (λ (x : Word). x ∷ rest) (digits_word k v (fits_small k v f.1))), wide_suffix c.program.graph.abi k w.0 f.0, (digits_clean k v (fits_small k v f.1), tt))
  exp_told c scope (Value place) t cast e =
      let h = bound_some (read_type c) (place_type c place) t e in
      let told = place_told c scope place h.0 cast h.1 in
      (told.0, (told.1, ap is_array_type (place_is c place h.0 h.1) ∙ readable_is_no_array c h.0 t h.2), told.2)
  exp_told c scope (StartOf place) t cast e =
      let h = bound_some start_type (place_type c place) t e in
      let told = place_told c scope place h.0 cast h.1 in
      (told.0, (told.1, ap is_array_type (place_is c place h.0 h.1) ∙ (start_is h.0 t h.2).0), told.2)
  exp_told c scope (AddrOf place) t cast e =
      let h = bound_some address_type (place_type c place) t e in
      let told = place_told c scope place h.0 cast h.1 in
      ((λ rest. ap (λ (ws : List Word). LeftParen ∷ Operator And ∷ ws) (enclosed_words (place_tokens c place) rest ∙ told.0 (RightParen ∷ rest))), told.1, parens_clean (codes "&" ∷ place_tokens c place) (refl, told.2))
  exp_told c scope (Un op operand) t cast e =
      let h = bound_some (unary_type c op) (type_of c operand) t e in
      let told = exp_told c scope operand h.0 cast h.1 in
      ((λ rest. ap (λ (w : Word). LeftParen ∷ w ∷ onto (exp_tokens c operand ++ codes ")" ∷ []) rest) (unary_token op) ∙ ap (λ (ws : List Word). LeftParen ∷ unary_word op ∷ ws) (enclosed_words (exp_tokens c operand) rest ∙ told.0 (RightParen ∷ rest))), told.1, parens_clean (unary_spelling op ∷ exp_tokens c operand) (unary_clean op, told.2))
  exp_told c scope (Bin op left right) t cast e =
      let h = bound_some (λ s. option_and_then (binary_type c op s) (type_of c right)) (type_of c left) t e in
      let k = bound_some (binary_type c op h.0) (type_of c right) t h.2 in
      let l = exp_told c scope left h.0 cast.0 h.1 in
      let r = exp_told c scope right k.0 cast.1 k.1 in (
        (λ rest. ap (λ (ws : List Word). LeftParen ∷ ws) (
            enclosed_words (exp_tokens c left ++ operator_spelling op ∷ exp_tokens c right) rest
            ∙ onto_append (exp_tokens c left) (operator_spelling op ∷ exp_tokens c right) (RightParen ∷ rest)
            ∙ ap (λ (w : Word). onto (exp_tokens c left) (w ∷ onto (exp_tokens c right) (RightParen ∷ rest))) (operator_word op)
            ∙ ap (λ (ws : List Word). onto (exp_tokens c left) (Operator op ∷ ws)) (r.0 (RightParen ∷ rest))
            ∙ l.0 (Operator op ∷ exp_spelled c.program (env_of c) right (RightParen ∷ rest)))),
        (l.1, r.1),
        parens_clean (exp_tokens c left ++ operator_spelling op ∷ exp_tokens c right) (clean_append (exp_tokens c left) (operator_spelling op ∷ exp_tokens c right) l.2 (operator_clean op, r.2)),
      )
  exp_told c scope (Cast None operand) t cast e = absurd (cc e)
  exp_told c scope (Cast (Some s) operand) t cast e =
      let k = bound_some (cast_type c s) (type_of c operand) t e in
      let told = exp_told c scope operand k.0 cast.1 k.1 in (
        (λ rest. ap (λ (ws : List Word). LeftParen ∷ ws) (
            enclosed_words (in_parentheses (type_tokens c.program (Some s) []) ++ exp_tokens c operand) rest
            ∙ onto_append (in_parentheses (type_tokens c.program (Some s) [])) (exp_tokens c operand) (RightParen ∷ rest)
            ∙ ap (λ (ws : List Word). LeftParen ∷ ws) (
            enclosed_words (type_tokens c.program (Some s) []) (onto (exp_tokens c operand) (RightParen ∷ rest))
            ∙ declared_words c.program s [] (RightParen ∷ onto (exp_tokens c operand) (RightParen ∷ rest)) cast.0
            ∙ ap (λ (ws : List Word). type_spelled c.program s (RightParen ∷ ws)) (told.0 (RightParen ∷ rest))))),
        (cast.0, told.1),
        parens_clean (in_parentheses (type_tokens c.program (Some s) []) ++ exp_tokens c operand) (clean_append (in_parentheses (type_tokens c.program (Some s) [])) (exp_tokens c operand) (parens_clean (type_tokens c.program (Some s) []) (declared_clean c.program s [] cast.0 tt)) told.2),
      )

  host_told : (c : Scope) → IsScope c → (h : Host) (s : Shape) → HostCast c.program h → host_type c h ≡ Some s → ((rest : List Word) → onto (host_tokens c h) rest ≡ host_spelled c.program (env_of c) h rest) × IsHost c.program (env_of c) h × AllClean (host_tokens c h)
  host_told c scope (Global n) s cast e = ((λ rest. ap (λ (w : Word). w ∷ rest) (name_word (global_name c.program n) (scope.global_name n s e) ∙ ap Name (sym (global_name_known c n)))), scope.global_found n s e, (name_clean (global_name c.program n) (scope.global_name n s e), tt))
  host_told c scope (Var n) s cast e = ((λ rest. ap (λ (w : Word). w ∷ rest) (name_word (local_name c.locals n) (scope.local_name n s e))), scope.local_found n s e, (name_clean (local_name c.locals n) (scope.local_name n s e), tt))
  host_told c scope (At pointer) s cast e =
      let h = bound_some pointed (type_of c pointer) s e in
      let told = exp_told c scope pointer h.0 cast h.1 in
      ((λ rest. ap (λ (ws : List Word). LeftParen ∷ Operator Mul ∷ ws) (enclosed_words (exp_tokens c pointer) rest ∙ told.0 (RightParen ∷ rest))), told.1, parens_clean (codes "*" ∷ exp_tokens c pointer) (refl, told.2))

  offsets_told : (c : Scope) → IsScope c → (o : Offsets) (s t : Shape) → OffsetsCast c.program o → part_type c o s ≡ Some t →
      ((rest : List Word) → onto (offset_tokens c o (Some s)) rest ≡ offsets_spelled c.program (env_of c) o (Some s) rest) × AreOffsets c.program (env_of c) o (Some s) × AllClean (offset_tokens c o (Some s))
  offsets_told c scope Here s t cast e = ((λ rest. refl), tt, tt)
  offsets_told c scope (Field n more) s t cast e =
      let h = bound_some (part_type c more) (member_type c.program.graph s n) t e in
      let told = offsets_told c scope more h.0 t cast h.2 in
      let known : type_of_named (fields (env_of c) (Some s)) n ≡ Some h.0 = field_type_known c s n ∙ h.1 in (
        (λ rest.
            ap (λ (o : Option Shape). Dot ∷ word_of (name_in c.program s n) ∷ onto (offset_tokens c more o) rest) h.1
            ∙ ap (λ (w : Word). Dot ∷ w ∷ onto (offset_tokens c more (Some h.0)) rest) (name_word (name_in c.program s n) (scope.member_name s h.0 n h.1) ∙ ap Name (sym (field_name_known c s n)))
            ∙ ap (λ (ws : List Word). Dot ∷ Name (name_at (fields (env_of c) (Some s)) n) ∷ ws) (told.0 rest ∙ ap (λ (o : Option Shape). offsets_spelled c.program (env_of c) more o rest) (sym known))),
        (scope.member_found s h.0 n h.1, subst (λ (o : Option Shape). AreOffsets c.program (env_of c) more o) (sym known) told.1),
        (refl, (name_clean (name_in c.program s n) (scope.member_name s h.0 n h.1), subst (λ (o : Option Shape). AllClean (offset_tokens c more o)) (sym h.1) told.2)),
      )
  offsets_told c scope (Index index more) s t cast e =
      let h = bound_some (λ i. option_and_then (part_type c more) (element_type s i)) (type_of c index) t e in
      let k = bound_some (part_type c more) (element_type s h.0) t h.2 in
      let i = exp_told c scope index h.0 cast.0 h.1 in
      let told = offsets_told c scope more k.0 t cast.1 k.2 in
      let known = index_is s h.0 k.0 k.1 in (
        (λ rest.
            ap (λ (ws : List Word). LeftBracket ∷ ws) (
            onto_append (exp_tokens c index ++ codes "]" ∷ []) (offset_tokens c more (element_of s)) rest
            ∙ onto_append (exp_tokens c index) (codes "]" ∷ []) (onto (offset_tokens c more (element_of s)) rest)
            ∙ ap (λ (o : Option Shape). onto (exp_tokens c index) (RightBracket ∷ onto (offset_tokens c more o) rest)) known
            ∙ ap (λ (ws : List Word). onto (exp_tokens c index) (RightBracket ∷ ws)) (told.0 rest ∙ ap (λ (o : Option Shape). offsets_spelled c.program (env_of c) more o rest) (sym known))
            ∙ i.0 (RightBracket ∷ offsets_spelled c.program (env_of c) more (element_of s) rest))),
        (i.1, subst (λ (o : Option Shape). AreOffsets c.program (env_of c) more o) (sym known) told.1),
        (refl, clean_append (exp_tokens c index ++ codes "]" ∷ []) (offset_tokens c more (element_of s)) (clean_append (exp_tokens c index) (codes "]" ∷ []) i.2 (refl, tt)) (subst (λ (o : Option Shape). AllClean (offset_tokens c more o)) (sym (index_is s h.0 k.0 k.1)) told.2)),
      )

  pub place_told : (c : Scope) → IsScope c → (place : Lval) (s : Shape) → CanCastIn c.program place → place_type c place ≡ Some s → PlaceTold c place
  place_told c scope (Place host offsets) s cast e =
      let h = bound_some (part_type c offsets) (host_type c host) s e in
      let a = host_told c scope host h.0 cast.0 h.1 in
      let b = offsets_told c scope offsets h.0 s cast.1 h.2 in
      let known = host_is c host h.0 h.1 in (
        (λ rest.
            onto_append (host_tokens c host) (offset_tokens c offsets (host_type c host)) rest
            ∙ ap (λ (o : Option Shape). onto (host_tokens c host) (onto (offset_tokens c offsets o) rest)) h.1
            ∙ ap (onto (host_tokens c host)) (b.0 rest ∙ ap (λ (o : Option Shape). offsets_spelled c.program (env_of c) offsets o rest) (sym known))
            ∙ a.0 (offsets_spelled c.program (env_of c) offsets (type_at_host (env_of c) host) rest)),
        (a.1, subst (λ (o : Option Shape). AreOffsets c.program (env_of c) offsets o) (sym known) b.1),
        clean_append (host_tokens c host) (offset_tokens c offsets (host_type c host)) a.2 (subst (λ (o : Option Shape). AllClean (offset_tokens c offsets o)) (sym h.1) b.2),
      )
