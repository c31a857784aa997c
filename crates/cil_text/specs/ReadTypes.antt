-- Device: the executable reading of declarations (C11 6.7.6, 6.7.7) from words: base words, then declarators from the outside in, whose layers are found from the name outwards.
use Rattle.std.specs.Prelude.{ℕ, suc, zero, Bool, true, false, if◌then◌else◌, List, [], ◌∷◌, Option, Some, None}
use Rattle.std.specs.Option.{option_map, option_and_then}
use Rattle.std.specs.Str.{bytes_eq}
use Rattle.cil_base.specs.declared.kinds.Abi.{Abi}
use Rattle.cil_base.specs.declared.kinds.IntKind.{IntKind}
use Rattle.cil_base.specs.declared.kinds.IntKind.TheVariants as kind
use Rattle.cil_base.specs.declared.operators.BinOp.TheVariants.{Mul}
use Rattle.cil_base.specs.Integer.{long_of, ulong_of}
use Rattle.type_graph.specs.Shapes.{Shape, Shapes, VoidType, IntType, PtrType, ArrayType, FuncType, AggType, NoTypes, MoreTypes}
use Rattle.cil_tree.specs.Typing.{unqualified}
use Rattle.cil_text.specs.Words.{Word, LeftParen, RightParen, LeftBracket, RightBracket, Comma, Ellipsis, Operator, VoidWord, BoolWord, CharWord, ShortWord, IntWord, LongWord, SignedWord, UnsignedWord, TagWord, Number, Name}

-- what is read, and the words behind it
abbrev pub Reading : Type 0 → Type 0
Reading A = Option (A × List Word)

-- the place at which a text stands first
abbrev pub find : List ℕ → List (List ℕ) → Option ℕ
find text [] = None
find text (t ∷ ts) = if bytes_eq text t then Some 0 else option_map suc (find text ts)

abbrev pub is_long : List Word → Bool
is_long (LongWord ∷ ws) = true
is_long _ = false

abbrev pub skip_one : List Word → List Word
skip_one [] = []
skip_one (w ∷ ws) = ws

-- behind one `long`: the one kind or, behind another, the other
abbrev pub long_base : IntKind → IntKind → List Word → Shape × List Word
long_base one two ws = if is_long ws then (IntType two, skip_one ws) else (IntType one, ws)

abbrev pub unsigned_base : Abi → List Word → Reading Shape
unsigned_base abi (CharWord ∷ ws) = Some (IntType kind.UChar, ws)
unsigned_base abi (ShortWord ∷ ws) = Some (IntType kind.UShort, ws)
unsigned_base abi (IntWord ∷ ws) = Some (IntType kind.UInt, ws)
unsigned_base abi (LongWord ∷ ws) = Some (long_base (ulong_of abi) kind.ULLong ws)
unsigned_base abi _ = None

abbrev pub signed_base : List Word → Reading Shape
signed_base (CharWord ∷ ws) = Some (IntType kind.SChar, ws)
signed_base _ = None

abbrev pub tag_base : List (List ℕ) → List Word → Reading Shape
tag_base tags (Name tag ∷ ws) = option_map (λ (a : ℕ). (AggType a, ws)) (find tag tags)
tag_base tags _ = None

-- what base words are read by: the data model, of which long and unsigned long are kinds, and the tags of the aggregates by their numbers
pub record Bases : Type 0 where
  pub abi : Abi
  pub tags : List (List ℕ)

-- type specifiers (C11 6.7.2)
abbrev pub read_base : Bases → List Word → Reading Shape
read_base bases (VoidWord ∷ ws) = Some (VoidType, ws)
read_base bases (BoolWord ∷ ws) = Some (IntType kind.Bool, ws)
read_base bases (CharWord ∷ ws) = Some (IntType kind.Char, ws)
read_base bases (ShortWord ∷ ws) = Some (IntType kind.Short, ws)
read_base bases (IntWord ∷ ws) = Some (IntType kind.Int, ws)
read_base bases (LongWord ∷ ws) = Some (long_base (long_of bases.abi) kind.LLong ws)
read_base bases (SignedWord ∷ ws) = signed_base ws
read_base bases (UnsignedWord ∷ ws) = unsigned_base bases.abi ws
read_base bases (TagWord kind ∷ ws) = tag_base bases.tags ws
read_base bases _ = None

-- what stands before the name: a pointer's `*`, or a parenthesis
pub data Mark : Type 0 where
  Points : Mark
  Group : Mark

abbrev pub is_star : List Word → Bool
is_star (Operator Mul ∷ ws) = true
is_star _ = false

-- the marks, the nearest to the name first; a parenthesis counts only before `*`
abbrev pub heads : List Mark → List Word → List Mark × List Word
heads marks (Operator Mul ∷ ws) = heads (Points ∷ marks) ws
heads marks (LeftParen ∷ ws) = if is_star ws then heads (Group ∷ marks) ws else (marks, LeftParen ∷ ws)
heads marks ws = (marks, ws)

-- a name, or none in an abstract declarator
abbrev pub read_name : List Word → Option (List ℕ) × List Word
read_name (Name text ∷ ws) = (Some text, ws)
read_name ws = (None, ws)

-- what a declarator adds to a type
pub data Layer : Type 0 where
  Pointer : Layer
  Elements : (bound : Option ℕ) → Layer
  Called : (params : Shapes) (proto variadic : Bool) → Layer

-- the layers around a type, the nearest to the name first
abbrev pub built : List Layer → Shape → Shape
built [] s = s
built (Pointer ∷ more) s = PtrType unqualified (built more s)
built (Elements bound ∷ more) s = ArrayType unqualified (built more s) bound
built (Called params proto variadic ∷ more) s = FuncType (built more s) params proto variadic

abbrev pub is_ellipsis : List Word → Bool
is_ellipsis (Ellipsis ∷ ws) = true
is_ellipsis _ = false

abbrev pub closed : {A : Type 0} → A → List Word → Reading A
closed x (RightParen ∷ ws) = Some (x, ws)
closed x _ = None

-- types and whether more arguments may follow
abbrev pub Listed : Type 0
Listed = Shapes × Bool

abbrev pub listed_first : Shape → Listed × List Word → Listed × List Word
listed_first s r = ((MoreTypes s r.0.0, r.0.1), r.1)

-- behind a parameter: the end, `, ...` and the end, or another one
abbrev pub read_more : (List Word → Reading Listed) → Shape → List Word → Reading Listed
read_more again s (RightParen ∷ ws) = Some ((MoreTypes s NoTypes, false), ws)
read_more again s (Comma ∷ ws) = if is_ellipsis ws then closed (MoreTypes s NoTypes, true) (skip_one ws) else option_map (listed_first s) (again ws)
read_more again s _ = None

abbrev pub read_params : (List Word → Reading Shape) → ℕ → List Word → Reading Listed
read_params sub zero ws = None
read_params sub (suc k) ws = option_and_then (λ (r : Shape × List Word). read_more (read_params sub k) r.0 r.1) (sub ws)

abbrev pub is_closing : List Word → Bool
is_closing (RightParen ∷ ws) = true
is_closing _ = false

abbrev pub called : Listed × List Word → Layer × List Word
called r = (Called r.0.0 true r.0.1, r.1)

abbrev pub is_void_alone : List Word → Bool
is_void_alone (VoidWord ∷ RightParen ∷ ws) = true
is_void_alone _ = false

-- behind the `(` of a function's parameters: `)`, `void )`, or parameters
abbrev pub read_called : (List Word → Reading Shape) → ℕ → List Word → Reading Layer
read_called sub k ws =
    if is_closing ws then Some (Called NoTypes false false, skip_one ws)
    else (if is_void_alone ws then Some (Called NoTypes true false, skip_one (skip_one ws))
    else option_map called (read_params sub k ws))

abbrev pub is_suffix : List Word → Bool
is_suffix (LeftBracket ∷ ws) = true
is_suffix (LeftParen ∷ ws) = true
is_suffix _ = false

-- the bound of an array, or the parameters of a function
abbrev pub read_suffix : (List Word → Reading Shape) → ℕ → List Word → Reading Layer
read_suffix sub k (LeftBracket ∷ RightBracket ∷ ws) = Some (Elements None, ws)
read_suffix sub k (LeftBracket ∷ Number kind n ∷ RightBracket ∷ ws) = Some (Elements (Some n), ws)
read_suffix sub k (LeftParen ∷ ws) = read_called sub k ws
read_suffix sub k _ = None

abbrev pub layer_first : Layer → List Layer × List Word → List Layer × List Word
layer_first l r = (l ∷ r.0, r.1)

-- where no suffix stands: the nearest mark counts
abbrev pub popped : (List Mark → List Word → Reading (List Layer)) → List Mark → List Word → Reading (List Layer)
popped again [] ws = Some ([], ws)
popped again (Points ∷ marks) ws = option_map (layer_first Pointer) (again marks ws)
popped again (Group ∷ marks) (RightParen ∷ ws) = again marks ws
popped again (Group ∷ marks) _ = None

-- what stands behind the name
abbrev pub tails : (List Word → Reading Shape) → ℕ → List Mark → List Word → Reading (List Layer)
tails sub zero marks ws = None
tails sub (suc k) marks ws =
    if is_suffix ws
    then option_and_then (λ (r : Layer × List Word). option_map (layer_first r.0) (tails sub k marks r.1)) (read_suffix sub k ws)
    else popped (tails sub k) marks ws

-- a type, and the name of what has it
abbrev pub Named : Type 0
Named = Shape × Option (List ℕ)

abbrev pub named_as : Shape → Option (List ℕ) → List Layer × List Word → Named × List Word
named_as base name r = ((built r.0 base, name), r.1)

abbrev pub declared_as : (List Word → Reading Shape) → ℕ → Shape × List Word → Reading Named
declared_as sub k b =
    let h = heads [] b.1 in
    let x = read_name h.1 in
    option_map (named_as b.0 x.0) (tails sub k h.0 x.1)

abbrev pub without_name : Named × List Word → Shape × List Word
without_name r = (r.0.0, r.1)

-- a declaration without storage class, or a type's name; each parameter is read with one unit of fuel less
abbrev pub read_decl : Bases → ℕ → List Word → Reading Named
read_decl bases zero ws = None
read_decl bases (suc n) ws = option_and_then (declared_as (λ vs. option_map without_name (read_decl bases n vs)) n) (read_base bases ws)
