-- Device: the reading of expressions gives back each expression and place from its words.
use Rattle.std.proofs.Common.{◌≡◌, ℕ, suc, zero, ◌+◌, ◌<◌, true, false, cond, List, ◌∷◌, Option, Some, None, slice_get, refl, ap, ◌∙◌, arith}
use Rattle.std.specs.Option.{option_map, option_and_then}
use Rattle.cil_base.specs.declared.kinds.IntKind.{IntKind}
use Rattle.cil_base.specs.declared.kinds.IntKind.TheVariants as kind
use Rattle.cil_base.specs.Integer.{kind_in}
use Rattle.cil_base.specs.declared.operators.BinOp.TheVariants.{Mul, Sub, And}
use Rattle.cil_base.specs.declared.operators.UnOp.{UnOp}
use Rattle.cil_base.specs.declared.operators.UnOp.TheVariants.{Neg, Compl, Not}
use Rattle.type_graph.specs.declared.aggregates.Aggregate.{Aggregate}
use Rattle.type_graph.specs.Shapes.{Shape, VoidType, IntType, PtrType, ArrayType, FuncType, AggType}
use Rattle.cil_tree.specs.Tree.{Exp, Const, Value, Un, Bin, Cast, AddrOf, StartOf, Host, Global, Var, At, Offsets, Here, Field, Index, Lval, Place, Program}
use Rattle.cil_tree.specs.Typing.{element_of}
use Rattle.cil_text.specs.Words.{Word, LeftParen, RightParen, LeftBracket, RightBracket, Dot, Tilde, Bang, Operator, Number, Name}
use Rattle.cil_text.specs.ReadTypes.{Reading, Named, read_decl, Bases}
use Rattle.cil_text.specs.ReadExps.{Env, find_named, name_at, type_of_named, fields, host_named, type_at_host, type_at_place, is_array_type, Form, Converted, Combined, is_base, form_of, enclosed, in_brackets, is_offset, field_first, index_first, read_offsets, read_host, place_from, read_place, chosen_from, read_chosen, read_right, read_cast, read_formed, exp_from, read_exp, bases}
use Rattle.cil_text.proofs.TypesBack.{kind_spelled, tag_spelled, base_spelled, before, behind, type_spelled, IsShape}
use Rattle.cil_text.proofs.DeclsBack.{size, abstract_back}
use Rattle.cil_text.proofs.WordsBack.{suffix_kind}
use Rattle.cil_text.specs.Known.{bases_of}

-- the words of an expression, in front of others

abbrev pub unary_word : UnOp → Word
unary_word Neg = Operator Sub
unary_word Compl = Tilde
unary_word Not = Bang

abbrev pub cast_spelled : Program → Option Shape → List Word → List Word
cast_spelled p None rest = rest
cast_spelled p (Some s) rest = type_spelled p s rest

abbrev mutual
  pub exp_spelled : Program → Env → Exp → List Word → List Word
  exp_spelled p env (Const kind value) rest = Number (suffix_kind kind) value ∷ rest
  exp_spelled p env (Value place) rest = place_spelled p env place rest
  exp_spelled p env (Un op operand) rest = LeftParen ∷ unary_word op ∷ exp_spelled p env operand (RightParen ∷ rest)
  exp_spelled p env (Bin op left right) rest = LeftParen ∷ exp_spelled p env left (Operator op ∷ exp_spelled p env right (RightParen ∷ rest))
  exp_spelled p env (Cast to operand) rest = LeftParen ∷ LeftParen ∷ cast_spelled p to (RightParen ∷ exp_spelled p env operand (RightParen ∷ rest))
  exp_spelled p env (AddrOf place) rest = LeftParen ∷ Operator And ∷ place_spelled p env place (RightParen ∷ rest)
  exp_spelled p env (StartOf place) rest = place_spelled p env place rest

  pub host_spelled : Program → Env → Host → List Word → List Word
  host_spelled p env (Global n) rest = Name (name_at env.globals n) ∷ rest
  host_spelled p env (Var n) rest = Name (name_at env.locals n) ∷ rest
  host_spelled p env (At pointer) rest = LeftParen ∷ Operator Mul ∷ exp_spelled p env pointer (RightParen ∷ rest)

  pub offsets_spelled : Program → Env → Offsets → Option Shape → List Word → List Word
  offsets_spelled p env Here s rest = rest
  offsets_spelled p env (Field n more) s rest = Dot ∷ Name (name_at (fields env s) n) ∷ offsets_spelled p env more (type_of_named (fields env s) n) rest
  offsets_spelled p env (Index index more) s rest = LeftBracket ∷ exp_spelled p env index (RightBracket ∷ offsets_spelled p env more (option_and_then element_of s) rest)

  pub place_spelled : Program → Env → Lval → List Word → List Word
  place_spelled p env (Place host offsets) rest = host_spelled p env host (offsets_spelled p env offsets (type_at_host env host) rest)

-- expressions that can be read back: a constant's kind is that of its suffix in the data model, each name is found, types can be spelled, and a place is an array's start exactly where it has array type

abbrev pub IsCast : Program → Option Shape → Type 0
IsCast p None = ⊥
IsCast p (Some s) = IsShape p s

abbrev mutual
  pub IsExp : Program → Env → Exp → Type 0
  IsExp p env (Const kind value) = kind_in p.graph.abi (suffix_kind kind) ≡ kind
  IsExp p env (Value place) = IsPlace p env place × (is_array_type (type_at_place env place) ≡ false)
  IsExp p env (Un op operand) = IsExp p env operand
  IsExp p env (Bin op left right) = IsExp p env left × IsExp p env right
  IsExp p env (Cast to operand) = IsCast p to × IsExp p env operand
  IsExp p env (AddrOf place) = IsPlace p env place
  IsExp p env (StartOf place) = IsPlace p env place × (is_array_type (type_at_place env place) ≡ true)

  pub IsHost : Program → Env → Host → Type 0
  IsHost p env (Global n) = host_named env (name_at env.globals n) ≡ Some (Global n)
  IsHost p env (Var n) = host_named env (name_at env.locals n) ≡ Some (Var n)
  IsHost p env (At pointer) = IsExp p env pointer

  pub AreOffsets : Program → Env → Offsets → Option Shape → Type 0
  AreOffsets p env Here s = Unit {0}
  AreOffsets p env (Field n more) s = (find_named (name_at (fields env s) n) (fields env s) ≡ Some n) × AreOffsets p env more (type_of_named (fields env s) n)
  AreOffsets p env (Index index more) s = IsExp p env index × AreOffsets p env more (option_and_then element_of s)

  pub IsPlace : Program → Env → Lval → Type 0
  IsPlace p env (Place host offsets) = IsHost p env host × AreOffsets p env offsets (type_at_host env host)

-- the fuel that the reading takes

abbrev pub cast_size : Option Shape → ℕ
cast_size None = 0
cast_size (Some s) = size s

abbrev mutual
  pub weight : Exp → ℕ
  weight (Const kind value) = 0
  weight (Value place) = 1 + place_weight place
  weight (Un op operand) = 1 + weight operand
  weight (Bin op left right) = 1 + weight left + weight right
  weight (Cast to operand) = 2 + cast_size to + weight operand
  weight (AddrOf place) = 1 + place_weight place
  weight (StartOf place) = 1 + place_weight place

  pub host_weight : Host → ℕ
  host_weight (Global n) = 0
  host_weight (Var n) = 0
  host_weight (At pointer) = weight pointer

  pub offsets_weight : Offsets → ℕ
  offsets_weight Here = 0
  offsets_weight (Field n more) = 1 + offsets_weight more
  offsets_weight (Index index more) = 1 + weight index + offsets_weight more

  pub place_weight : Lval → ℕ
  place_weight (Place host offsets) = host_weight host + offsets_weight offsets

-- forms

tag_base : (p : Program) (o : Option Aggregate) (x : Aggregate) (rest : List Word) → o ≡ Some x → is_base (tag_spelled p o rest) ≡ true
tag_base p None x rest e = absurd (cc e)
tag_base p (Some y) x rest e = refl

kind_base : (k : IntKind) (rest : List Word) → is_base (kind_spelled k rest) ≡ true
kind_base k rest = elim k as (λ v. is_base (kind_spelled v rest) ≡ true) [ kind.Bool ↦ refl | kind.Char ↦ refl | kind.SChar ↦ refl | kind.UChar ↦ refl | kind.Short ↦ refl | kind.UShort ↦ refl | kind.Int ↦ refl | kind.UInt ↦ refl | kind.Long ↦ refl | kind.ULong ↦ refl | kind.LLong ↦ refl | kind.ULLong ↦ refl | kind.Long4 ↦ refl | kind.ULong4 ↦ refl ]

pub type_base : (p : Program) (s : Shape) (rest : List Word) → IsShape p s → is_base (base_spelled p s rest) ≡ true
type_base p VoidType rest is = refl
type_base p (IntType k) rest is = kind_base k rest
type_base p (PtrType q s) rest is = type_base p s rest is.1
type_base p (ArrayType q s bound) rest is = type_base p s rest is.2
type_base p (FuncType ret params proto variadic) rest is = type_base p ret rest is.0
type_base p (AggType a) rest is = tag_base p (slice_get p.graph.aggs a) is.0 rest is.1

pub not_base : (p : Program) (env : Env) (e : Exp) (rest : List Word) → is_base (exp_spelled p env e rest) ≡ false
not_base p env (Const kind value) rest = refl
not_base p env (Value (Place (Global n) o)) rest = refl
not_base p env (Value (Place (Var n) o)) rest = refl
not_base p env (Value (Place (At q) o)) rest = refl
not_base p env (Un op operand) rest = refl
not_base p env (Bin op left right) rest = refl
not_base p env (Cast to operand) rest = refl
not_base p env (AddrOf place) rest = refl
not_base p env (StartOf (Place (Global n) o)) rest = refl
not_base p env (StartOf (Place (Var n) o)) rest = refl
not_base p env (StartOf (Place (At q) o)) rest = refl

operand_form : (p : Program) (env : Env) (e : Exp) (rest : List Word) → form_of (exp_spelled p env e rest) ≡ Combined
operand_form p env (Const kind value) rest = refl
operand_form p env (Value (Place (Global n) o)) rest = refl
operand_form p env (Value (Place (Var n) o)) rest = refl
operand_form p env (Value (Place (At q) o)) rest = refl
operand_form p env (Un Neg operand) rest = refl
operand_form p env (Un Compl operand) rest = refl
operand_form p env (Un Not operand) rest = refl
operand_form p env (Bin op left right) rest = rw (not_base p env left (Operator op ∷ exp_spelled p env right (RightParen ∷ rest))) refl
operand_form p env (Cast to operand) rest = refl
operand_form p env (AddrOf place) rest = refl
operand_form p env (StartOf (Place (Global n) o)) rest = refl
operand_form p env (StartOf (Place (Var n) o)) rest = refl
operand_form p env (StartOf (Place (At q) o)) rest = refl

place_form : (p : Program) (env : Env) (exp : List Word → Reading Exp) (decl : List Word → Reading Named) (k : ℕ) (place : Lval) (rest : List Word) →
    exp_from env exp decl k (place_spelled p env place rest) ≡ read_chosen env exp k (place_spelled p env place rest)
place_form p env exp decl k (Place (Global n) o) rest = refl
place_form p env exp decl k (Place (Var n) o) rest = refl
place_form p env exp decl k (Place (At q) o) rest = refl

-- an operand and the `)` behind it
operand_back : {A B : Type 0} (f : A → B) (o : Reading A) (x : A) (rest : List Word) → o ≡ Some (x, RightParen ∷ rest) → enclosed f o ≡ Some (f x, rest)
operand_back f o x rest e = ap (enclosed f) e

mutual
  pub exp_back : (p : Program) (env : Env) → bases env ≡ bases_of p → (n : ℕ) (e : Exp) (rest : List Word) → weight e < n → IsExp p env e → is_offset rest ≡ false → read_exp env n (exp_spelled p env e rest) ≡ Some (e, rest)
  exp_back p env same zero e rest low is stops = absurd (omega arith)
  exp_back p env same (suc n) (Const kind value) rest low is stops =
      ap (λ (b : Bases). Some (Const (kind_in b.abi (suffix_kind kind)) value, rest)) same ∙ ap (λ (k : IntKind). Some (Const k value, rest)) is
  exp_back p env same (suc n) (Value place) rest low is stops =
      place_form p env (read_exp env n) (read_decl (bases env) n) n place rest
      ∙ ap (option_map (chosen_from env)) (place_back p env same n n place rest (omega arith) (omega arith) is.0 stops)
      ∙ ap (λ b. Some (cond b (StartOf place) (Value place), rest)) is.1
  exp_back p env same (suc n) (StartOf place) rest low is stops =
      place_form p env (read_exp env n) (read_decl (bases env) n) n place rest
      ∙ ap (option_map (chosen_from env)) (place_back p env same n n place rest (omega arith) (omega arith) is.0 stops)
      ∙ ap (λ b. Some (cond b (StartOf place) (Value place), rest)) is.1
  exp_back p env same (suc n) (AddrOf place) rest low is stops = operand_back AddrOf (read_place env (read_exp env n) n (place_spelled p env place (RightParen ∷ rest))) place rest (place_back p env same n n place (RightParen ∷ rest) (omega arith) (omega arith) is refl)
  exp_back p env same (suc n) (Un Neg operand) rest low is stops = operand_back (Un Neg) (read_exp env n (exp_spelled p env operand (RightParen ∷ rest))) operand rest (exp_back p env same n operand (RightParen ∷ rest) (omega arith) is refl)
  exp_back p env same (suc n) (Un Compl operand) rest low is stops = operand_back (Un Compl) (read_exp env n (exp_spelled p env operand (RightParen ∷ rest))) operand rest (exp_back p env same n operand (RightParen ∷ rest) (omega arith) is refl)
  exp_back p env same (suc n) (Un Not operand) rest low is stops = operand_back (Un Not) (read_exp env n (exp_spelled p env operand (RightParen ∷ rest))) operand rest (exp_back p env same n operand (RightParen ∷ rest) (omega arith) is refl)
  exp_back p env same (suc n) (Bin op left right) rest low is stops =
      let words = exp_spelled p env right (RightParen ∷ rest) in
      ap (λ (f : Form). read_formed env (read_exp env n) (read_decl (bases env) n) n f (exp_spelled p env left (Operator op ∷ words))) (operand_form p env left (Operator op ∷ words))
      ∙ ap (option_and_then (λ (r : Exp × List Word). read_right (read_exp env n) r.0 r.1)) (exp_back p env same n left (Operator op ∷ words) (omega arith) is.0 refl)
      ∙ operand_back (Bin op left) (read_exp env n words) right rest (exp_back p env same n right (RightParen ∷ rest) (omega arith) is.1 refl)
  exp_back p env same (suc n) (Cast None operand) rest low is stops = absurd is.0
  exp_back p env same (suc n) (Cast (Some s) operand) rest low is stops =
      let words = exp_spelled p env operand (RightParen ∷ rest) in
      ap (λ b. read_formed env (read_exp env n) (read_decl (bases env) n) n (cond b Converted Combined) (LeftParen ∷ type_spelled p s (RightParen ∷ words))) (type_base p s (before s (behind p s (RightParen ∷ words))) is.0)
      ∙ ap (λ ts. read_cast (read_exp env n) (read_decl ts n) (type_spelled p s (RightParen ∷ words))) same
      ∙ ap (λ o. option_and_then (λ (r : Shape × List Word). enclosed (Cast (Some r.0)) (read_exp env n r.1)) (enclosed (λ (x : Named). x.0) o)) (abstract_back p n s (RightParen ∷ words) (omega arith) is.0 refl)
      ∙ operand_back (Cast (Some s)) (read_exp env n words) operand rest (exp_back p env same n operand (RightParen ∷ rest) (omega arith) is.1 refl)

  offsets_back : (p : Program) (env : Env) → bases env ≡ bases_of p → (n k : ℕ) (o : Offsets) (s : Option Shape) (rest : List Word) → offsets_weight o < n → offsets_weight o < k → AreOffsets p env o s → is_offset rest ≡ false →
      read_offsets env (read_exp env n) k s (offsets_spelled p env o s rest) ≡ Some (o, rest)
  offsets_back p env same n zero o s rest low small are stops = absurd (omega arith)
  offsets_back p env same n (suc k) Here s rest low small are stops = rw stops refl
  offsets_back p env same n (suc k) (Field m more) s rest low small are stops =
      ap (λ o. option_and_then (λ (i : ℕ). option_map (field_first i) (read_offsets env (read_exp env n) k (type_of_named (fields env s) i) (offsets_spelled p env more (type_of_named (fields env s) m) rest))) o) are.0
      ∙ ap (option_map (field_first m)) (offsets_back p env same n k more (type_of_named (fields env s) m) rest (omega arith) (omega arith) are.1 stops)
  offsets_back p env same n (suc k) (Index index more) s rest low small are stops =
      let words = offsets_spelled p env more (option_and_then element_of s) rest in
      ap (λ o. option_and_then (λ (r : Exp × List Word). option_map (index_first r.0) (read_offsets env (read_exp env n) k (option_and_then element_of s) r.1)) (option_and_then (λ (r : Exp × List Word). in_brackets r.0 r.1) o)) (exp_back p env same n index (RightBracket ∷ words) (omega arith) are.0 refl)
      ∙ ap (option_map (index_first index)) (offsets_back p env same n k more (option_and_then element_of s) rest (omega arith) (omega arith) are.1 stops)

  host_back : (p : Program) (env : Env) → bases env ≡ bases_of p → (n : ℕ) (h : Host) (rest : List Word) → host_weight h < n → IsHost p env h → read_host env (read_exp env n) (host_spelled p env h rest) ≡ Some (h, rest)
  host_back p env same n (Global m) rest low is = ap (option_map (λ (h : Host). (h, rest))) is
  host_back p env same n (Var m) rest low is = ap (option_map (λ (h : Host). (h, rest))) is
  host_back p env same n (At pointer) rest low is = operand_back At (read_exp env n (exp_spelled p env pointer (RightParen ∷ rest))) pointer rest (exp_back p env same n pointer (RightParen ∷ rest) low is refl)

  pub place_back : (p : Program) (env : Env) → bases env ≡ bases_of p → (n k : ℕ) (place : Lval) (rest : List Word) → place_weight place < n → place_weight place < k → IsPlace p env place → is_offset rest ≡ false →
      read_place env (read_exp env n) k (place_spelled p env place rest) ≡ Some (place, rest)
  place_back p env same n k (Place host offsets) rest low small is stops =
      ap (option_and_then (λ (h : Host × List Word). option_map (place_from h.0) (read_offsets env (read_exp env n) k (type_at_host env h.0) h.1))) (host_back p env same n host (offsets_spelled p env offsets (type_at_host env host) rest) (omega arith) is.0)
      ∙ ap (option_map (place_from host)) (offsets_back p env same n k offsets (type_at_host env host) rest (omega arith) (omega arith) is.1 stops)
