-- Device: the executable reading of CIL's expressions and lvalues (C11 6.5) from words. Types of places are known while it reads: a place of array type is an array's start, and a member is found in the type of the place before it.
use Rattle.std.specs.Prelude.{ℕ, suc, zero, Bool, true, false, if◌then◌else◌, List, [], ◌∷◌, Option, Some, None, map, slice_get}
use Rattle.std.specs.Option.{option_map, option_and_then}
use Rattle.cil_base.specs.declared.kinds.Abi.{Abi}
use Rattle.cil_base.specs.Integer.{kind_in}
use Rattle.cil_base.specs.declared.operators.BinOp.{BinOp}
use Rattle.cil_base.specs.declared.operators.BinOp.TheVariants.{Mul, Add, Sub, And}
use Rattle.cil_base.specs.declared.operators.UnOp.TheVariants.{Neg, Compl, Not}
use Rattle.type_graph.specs.Shapes.{Shape, AggType}
use Rattle.cil_tree.specs.Tree.{Exp, Const, Value, Un, Bin, Cast, AddrOf, StartOf, Host, Global, Var, At, Offsets, Here, Field, Index, Lval, Place, Local}
use Rattle.cil_tree.specs.Typing.{is_array, pointed, element_of}
use Rattle.cil_tree.specs.Names.{local_name_of}
use Rattle.cil_text.specs.Words.{Word, LeftParen, LeftBracket, RightBracket, Dot, Tilde, Bang, Operator, VoidWord, BoolWord, CharWord, ShortWord, IntWord, LongWord, SignedWord, UnsignedWord, TagWord, Number, Name}
use Rattle.cil_text.specs.ReadTypes.{Reading, Bases, find, skip_one, closed, Named, read_decl}

-- what is known while a function is read: the data model, tags and members of aggregates by their numbers, globals and locals with their types
pub record Env : Type 0 where
  pub abi : Abi
  pub tags : List (List ℕ)
  pub members : List (List Local)
  pub globals : List Local
  pub locals : List Local

-- what base words are read by
abbrev pub bases : Env → Bases
bases env = record { abi = env.abi; tags = env.tags }

-- the place of the first that has the name
abbrev pub find_named : List ℕ → List Local → Option ℕ
find_named name xs = find name (map local_name_of xs)

abbrev pub name_at : List Local → ℕ → List ℕ
name_at xs n = elim (slice_get xs n) [ None ↦ [] | Some x ↦ x.name ]

abbrev pub type_of_named : List Local → ℕ → Option Shape
type_of_named xs n = option_and_then (λ (x : Local). x.type) (slice_get xs n)

abbrev pub members_at : Option (List Local) → List Local
members_at None = []
members_at (Some ms) = ms

-- the members of a struct or union
abbrev pub fields_of : Env → Shape → List Local
fields_of env (AggType a) = members_at (slice_get env.members a)
fields_of env _ = []

abbrev pub fields : Env → Option Shape → List Local
fields env None = []
fields env (Some s) = fields_of env s

-- a local, or else a global
abbrev pub host_or_global : Option ℕ → Option ℕ → Option Host
host_or_global (Some n) _ = Some (Var n)
host_or_global None o = option_map Global o

abbrev pub host_named : Env → List ℕ → Option Host
host_named env name = host_or_global (find_named name env.locals) (find_named name env.globals)

abbrev pub first_some : Option Shape → Option Shape → Option Shape
first_some (Some s) _ = Some s
first_some None o = o

-- what a sum or a difference points to (C11 6.5.6)
abbrev pub moved_pointee : BinOp → Option Shape → Option Shape → Option Shape
moved_pointee Add a b = first_some a b
moved_pointee Sub a None = a
moved_pointee Sub a (Some s) = None
moved_pointee _ a b = None

abbrev mutual
  -- what an expression points to whose type is a pointer
  pub pointee : Env → Exp → Option Shape
  pointee env (Const kind value) = None
  pointee env (Value place) = option_and_then pointed (type_at_place env place)
  pointee env (Un op operand) = None
  pointee env (Bin op left right) = moved_pointee op (pointee env left) (pointee env right)
  pointee env (Cast to operand) = option_and_then pointed to
  pointee env (AddrOf place) = type_at_place env place
  pointee env (StartOf place) = option_and_then element_of (type_at_place env place)

  pub type_at_host : Env → Host → Option Shape
  type_at_host env (Global n) = type_of_named env.globals n
  type_at_host env (Var n) = type_of_named env.locals n
  type_at_host env (At pointer) = pointee env pointer

  -- the type of the part that the offsets lead to from a place of that type
  pub type_at_part : Env → Offsets → Option Shape → Option Shape
  type_at_part env Here s = s
  type_at_part env (Field n more) s = type_at_part env more (type_of_named (fields env s) n)
  type_at_part env (Index index more) s = type_at_part env more (option_and_then element_of s)

  pub type_at_place : Env → Lval → Option Shape
  type_at_place env (Place host offsets) = type_at_part env offsets (type_at_host env host)

abbrev pub is_array_type : Option Shape → Bool
is_array_type None = false
is_array_type (Some s) = is_array s

-- a place of array type in an expression is the array's start (C11 6.3.2.1p3)
abbrev pub chosen : Env → Lval → Exp
chosen env place = if is_array_type (type_at_place env place) then StartOf place else Value place

-- what stands behind a `(`
pub data Form : Type 0 where
  Negated : Form
  Complemented : Form
  Denied : Form
  Addressed : Form
  Pointed : Form
  Converted : Form
  Combined : Form

-- a type's base words begin so
abbrev pub is_base : List Word → Bool
is_base (VoidWord ∷ ws) = true
is_base (BoolWord ∷ ws) = true
is_base (CharWord ∷ ws) = true
is_base (ShortWord ∷ ws) = true
is_base (IntWord ∷ ws) = true
is_base (LongWord ∷ ws) = true
is_base (SignedWord ∷ ws) = true
is_base (UnsignedWord ∷ ws) = true
is_base (TagWord kind ∷ ws) = true
is_base _ = false

abbrev pub form_of : List Word → Form
form_of (Operator Sub ∷ ws) = Negated
form_of (Tilde ∷ ws) = Complemented
form_of (Bang ∷ ws) = Denied
form_of (Operator And ∷ ws) = Addressed
form_of (Operator Mul ∷ ws) = Pointed
form_of (LeftParen ∷ ws) = if is_base ws then Converted else Combined
form_of _ = Combined

-- a part, and the `)` behind it
abbrev pub enclosed : {A B : Type 0} → (A → B) → Reading A → Reading B
enclosed {A} f o = option_and_then (λ (r : A × List Word). closed (f r.0) r.1) o

abbrev pub in_brackets : {A : Type 0} → A → List Word → Reading A
in_brackets x (RightBracket ∷ ws) = Some (x, ws)
in_brackets x _ = None

abbrev pub is_offset : List Word → Bool
is_offset (Dot ∷ ws) = true
is_offset (LeftBracket ∷ ws) = true
is_offset _ = false

abbrev pub field_first : ℕ → Offsets × List Word → Offsets × List Word
field_first n r = (Field n r.0, r.1)

abbrev pub index_first : Exp → Offsets × List Word → Offsets × List Word
index_first e r = (Index e r.0, r.1)

-- one step from a place of that type, and what follows it
abbrev pub read_step : Env → (List Word → Reading Exp) → (Option Shape → List Word → Reading Offsets) → Option Shape → List Word → Reading Offsets
read_step env exp again s (Dot ∷ Name name ∷ ws) = option_and_then (λ (n : ℕ). option_map (field_first n) (again (type_of_named (fields env s) n) ws)) (find_named name (fields env s))
read_step env exp again s (LeftBracket ∷ ws) =
    option_and_then (λ (r : Exp × List Word). option_map (index_first r.0) (again (option_and_then element_of s) r.1))
    (option_and_then (λ (r : Exp × List Word). in_brackets r.0 r.1) (exp ws))
read_step env exp again s _ = None

abbrev pub read_offsets : Env → (List Word → Reading Exp) → ℕ → Option Shape → List Word → Reading Offsets
read_offsets env exp zero s ws = None
read_offsets env exp (suc k) s ws = if is_offset ws then read_step env exp (read_offsets env exp k) s ws else Some (Here, ws)

abbrev pub read_host : Env → (List Word → Reading Exp) → List Word → Reading Host
read_host env exp (Name name ∷ ws) = option_map (λ (h : Host). (h, ws)) (host_named env name)
read_host env exp (LeftParen ∷ Operator Mul ∷ ws) = enclosed At (exp ws)
read_host env exp _ = None

abbrev pub place_from : Host → Offsets × List Word → Lval × List Word
place_from host r = (Place host r.0, r.1)

abbrev pub read_place : Env → (List Word → Reading Exp) → ℕ → List Word → Reading Lval
read_place env exp k ws = option_and_then (λ (h : Host × List Word). option_map (place_from h.0) (read_offsets env exp k (type_at_host env h.0) h.1)) (read_host env exp ws)

abbrev pub chosen_from : Env → Lval × List Word → Exp × List Word
chosen_from env r = (chosen env r.0, r.1)

abbrev pub read_chosen : Env → (List Word → Reading Exp) → ℕ → List Word → Reading Exp
read_chosen env exp k ws = option_map (chosen_from env) (read_place env exp k ws)

abbrev pub read_right : (List Word → Reading Exp) → Exp → List Word → Reading Exp
read_right exp left (Operator op ∷ ws) = enclosed (Bin op left) (exp ws)
read_right exp left _ = None

abbrev pub read_binary : (List Word → Reading Exp) → List Word → Reading Exp
read_binary exp ws = option_and_then (λ (r : Exp × List Word). read_right exp r.0 r.1) (exp ws)

abbrev pub read_cast : (List Word → Reading Exp) → (List Word → Reading Named) → List Word → Reading Exp
read_cast exp decl ws = option_and_then (λ (r : Shape × List Word). enclosed (Cast (Some r.0)) (exp r.1)) (enclosed (λ (x : Named). x.0) (decl ws))

-- behind a `(`, by the form
abbrev pub read_formed : Env → (List Word → Reading Exp) → (List Word → Reading Named) → ℕ → Form → List Word → Reading Exp
read_formed env exp decl k Negated ws = enclosed (Un Neg) (exp (skip_one ws))
read_formed env exp decl k Complemented ws = enclosed (Un Compl) (exp (skip_one ws))
read_formed env exp decl k Denied ws = enclosed (Un Not) (exp (skip_one ws))
read_formed env exp decl k Addressed ws = enclosed AddrOf (read_place env exp k (skip_one ws))
read_formed env exp decl k Pointed ws = read_chosen env exp k (LeftParen ∷ ws)
read_formed env exp decl k Converted ws = read_cast exp decl (skip_one ws)
read_formed env exp decl k Combined ws = read_binary exp ws

abbrev pub exp_from : Env → (List Word → Reading Exp) → (List Word → Reading Named) → ℕ → List Word → Reading Exp
exp_from env exp decl k (Number kind n ∷ ws) = Some (Const (kind_in env.abi kind) n, ws)
exp_from env exp decl k (Name name ∷ ws) = read_chosen env exp k (Name name ∷ ws)
exp_from env exp decl k (LeftParen ∷ ws) = read_formed env exp decl k (form_of ws) ws
exp_from env exp decl k _ = None

-- an expression; what stands within it is read with one unit of fuel less
abbrev pub read_exp : Env → ℕ → List Word → Reading Exp
read_exp env zero ws = None
read_exp env (suc n) ws = exp_from env (read_exp env n) (read_decl (bases env) n) n ws
