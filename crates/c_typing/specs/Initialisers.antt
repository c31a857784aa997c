-- Definition: initialisers (C11 6.7.9) as a list of steps in the order of the text: which part of an object an item initialises, and what the item does to it.
use Rattle.std.specs.Prelude.{ℕ, zero, suc, ◌+◌, Bool, true, false, not, ◌&&◌, ◌||◌, nat_eq, nat_lt, nat_le, max, List, [], ◌∷◌, ◌++◌, Option, Some, None, length, take, slice_get, if◌then◌else◌}
use Rattle.std.specs.Option.{option_map, option_and_then}
use Rattle.cil_base.specs.declared.kinds.IntKind.TheVariants.{Char}
use Rattle.cil_base.specs.Integer.{rank_of}
use Rattle.type_graph.specs.declared.aggregates.AggKind.TheVariants as aggregate
use Rattle.type_graph.specs.Shapes.{Shape, ArrayType, AggType}
use Rattle.typed_tree.specs.declared.initialisers.Step.{Step as PathStep}
use Rattle.typed_tree.specs.declared.initialisers.Step.TheVariants.{Field, Index}
use Rattle.typed_tree.specs.Tree.{Init, Zero, Bytes, Inits, NoInits, MoreInits}
use Rattle.c_rules.specs.Types.{CType, Member, Types, Hop, members_of, aggregate_kind, kind_in, is_record, is_scalar}
use Rattle.c_rules.specs.Conversions.{Operand, shape_of, compatible}

abbrev pub Path : Type 0
Path = List PathStep

-- a part of the object, by its path and its type
pub record Part : Type 0 where
  pub path : Path
  pub type : CType

-- subobjects (6.7.9p17, p20, p21): elements by their indices, members by their places

abbrev pub is_below : ℕ → Option ℕ → Bool
is_below i None = true
is_below i (Some n) = nat_lt i n

abbrev pub member_part : ℕ → Option Member → Option (PathStep × CType)
member_part i m = option_map (λ (x : Member). (Field i, x.type)) m

abbrev pub part_of : Types → Shape → ℕ → Option (PathStep × CType)
part_of t (ArrayType q s bound) i = if is_below i bound then Some (Index i, record { quals = q; shape = s }) else None
part_of t (AggType a) i = if is_record t (AggType a) then member_part i (option_and_then (λ ms. slice_get ms i) (members_of t a)) else None
part_of t s i = None

-- a union has its first member alone, if no designator says another (p17)
abbrev pub is_union : Types → Shape → Bool
is_union t (AggType a) = elim (aggregate_kind t a) [ None ↦ false | Some k ↦ elim k [ aggregate.Struct ↦ false | aggregate.Union ↦ true | aggregate.Enum ↦ false ] ]
is_union t s = false

abbrev pub behind_part : Types → Shape → ℕ → Option ℕ
behind_part t s i = if is_union t s then None else Some (suc i)

-- an aggregate whose parts are being initialised, and the part that is next
pub record Frame : Type 0 where
  pub part : Part
  pub next : Option ℕ

-- a part of a part
abbrev pub inner_part : Part → PathStep × CType → Part
inner_part p x = record { path = p.path ++ x.0 ∷ []; type = x.1 }

abbrev pub part_at : Types → Part → ℕ → Option Part
part_at t p i = option_map (inner_part p) (part_of t p.type.shape i)

-- what an initialiser has done so far: its steps in order; the aggregates that are being initialised, the innermost first; the number of elements that an array of unknown bound needs; the members of unions that were initialised last; how many explicit scalars there were
pub record Filling : Type 0 where
  pub root : Shape
  pub steps : List Init
  pub frames : List Frame
  pub reach : ℕ
  pub members : List (Path × ℕ)
  pub scalars : ℕ

-- the next part of the innermost aggregate that has one (p17, p20)

-- a scalar in braces is its own one part (p11)
abbrev pub frame_next : Types → Frame → Option (Part × Frame)
frame_next t f = if is_scalar t f.part.type.shape then option_map (λ i. (f.part, record f { next = None })) f.next else option_and_then (λ i. option_map (λ p. (p, record f { next = behind_part t f.part.type.shape i })) (part_at t f.part i)) f.next

abbrev pub next_part : Types → List Frame → Option (Part × List Frame)
next_part t [] = None
next_part t (f ∷ fs) = elim (frame_next t f) [ Some x ↦ Some (x.0, x.1 ∷ fs) | None ↦ next_part t fs ]

-- the part that a designator names (p6, p7, p18): the parts around it are being initialised from there on

abbrev pub designated : Types → Part → ℕ → List Frame → Option (Part × List Frame)
designated t p i fs = option_map (λ q. (q, record { part = p; next = behind_part t p.type.shape i } ∷ fs)) (part_at t p i)

-- a member by its name, through the anonymous structures and unions around it
abbrev pub designated_along : Types → Part → List Hop → List Frame → Option (Part × List Frame)
designated_along t p [] fs = Some (p, fs)
designated_along t p (h ∷ hs) fs = elim (designated t p h.index fs) [ None ↦ None | Some x ↦ designated_along t x.0 hs x.1 ]

-- what is given: a literal's bytes, or a value

pub data Given : Type 0 where
  ALiteral : Given
  AValue : (operand : Operand) → Given

-- an array of a character type (p14)
abbrev pub is_character_array : Types → Shape → Bool
is_character_array t (ArrayType q s bound) = elim (kind_in t s) [ None ↦ false | Some k ↦ nat_eq (rank_of k) (rank_of Char) ]
is_character_array t s = false

-- an aggregate that is initialised as a whole: an array of characters by a literal (p14), a structure or union by a value of its type (p13)
abbrev pub takes_whole : Types → Shape → Given → Bool
takes_whole t s ALiteral = is_character_array t s
takes_whole t s (AValue x) = is_record t s && (is_record t (shape_of x) && compatible t s (shape_of x))

-- the part that an item without braces initialises: where the next one is an aggregate that it does not initialise as a whole, the first part of that (p20); `depth` bounds the nesting
abbrev pub down_to : ℕ → Types → Given → Part × List Frame → Option (Part × List Frame)
down_to zero t g x = Some x
down_to (suc depth) t g x = elim (is_scalar t x.0.type.shape || takes_whole t x.0.type.shape g) [ true ↦ Some x | false ↦ elim (designated t x.0 0 x.1) [ None ↦ None | Some y ↦ down_to depth t g y ] ]

-- how deep arrays, structures and unions are nested in a type
abbrev pub nesting : (ℕ → ℕ) → Shape → ℕ
nesting of (ArrayType q s bound) = suc (nesting of s)
nesting of (AggType a) = suc (of a)
nesting of s = 0

abbrev pub deepest : (ℕ → ℕ) → List Member → ℕ
deepest of [] = 0
deepest of (m ∷ ms) = max (nesting of m.type.shape) (deepest of ms)

abbrev pub nesting_within : ℕ → Types → ℕ → ℕ
nesting_within zero t a = 0
nesting_within (suc depth) t a = elim (members_of t a) [ None ↦ 0 | Some ms ↦ deepest (nesting_within depth t) ms ]

abbrev pub nesting_of : Types → Shape → ℕ
nesting_of t s = nesting (nesting_within (length t.aggs) t) s

-- unions: an initialiser of another member than the one before it makes the union zero first (own)

abbrev pub same_step : PathStep → PathStep → Bool
same_step (Field i) (Field j) = nat_eq i j
same_step (Index i) (Index j) = nat_eq i j
same_step _ _ = false

abbrev pub same_path : Path → Path → Bool
same_path [] [] = true
same_path (x ∷ xs) (y ∷ ys) = same_step x y && same_path xs ys
same_path _ _ = false

-- the second path begins with the first
abbrev pub begins : Path → Path → Bool
begins [] q = true
begins (x ∷ xs) [] = false
begins (x ∷ xs) (y ∷ ys) = same_step x y && begins xs ys

abbrev pub index_of : PathStep → ℕ
index_of (Field i) = i
index_of (Index i) = i

-- the unions on the way to a part, each with its member there
abbrev pub unions_along : Types → Path → Shape → Path → List (Path × ℕ)
unions_along t before s [] = []
unions_along t before s (x ∷ xs) = elim (part_of t s (index_of x)) [ None ↦ [] | Some p ↦ elim (is_union t s) [ true ↦ (before, index_of x) ∷ unions_along t (before ++ x ∷ []) p.1.shape xs | false ↦ unions_along t (before ++ x ∷ []) p.1.shape xs ] ]

abbrev pub member_of : Path → List (Path × ℕ) → Option ℕ
member_of p [] = None
member_of p (x ∷ xs) = elim (same_path p x.0) [ true ↦ Some x.1 | false ↦ member_of p xs ]

abbrev pub is_other : ℕ → Option ℕ → Bool
is_other i None = false
is_other i (Some j) = not (nat_eq i j)

-- of a part and of what is in it nothing is known any more
abbrev pub forgotten : Path → List (Path × ℕ) → List (Path × ℕ)
forgotten p [] = []
forgotten p (x ∷ xs) = elim (begins p x.0) [ true ↦ forgotten p xs | false ↦ x ∷ forgotten p xs ]

abbrev pub with_step : Init → Filling → Filling
with_step s f = record f { steps = f.steps ++ s ∷ [] }

-- one union on the way
abbrev pub at_union : Path × ℕ → Filling → Filling
at_union u f = elim (is_other u.1 (member_of u.0 f.members)) [ true ↦ with_step (Zero u.0) (record f { members = u ∷ forgotten u.0 f.members }) | false ↦ record f { members = u ∷ f.members } ]

abbrev pub at_unions : List (Path × ℕ) → Filling → Filling
at_unions [] f = f
at_unions (u ∷ us) f = at_unions us (at_union u f)

-- an array of unknown bound needs an element for each index that is reached (p22)
abbrev pub reached : Path → ℕ
reached (Index i ∷ xs) = suc i
reached _ = 0

-- before a part is initialised
abbrev pub towards : Types → Part → Filling → Filling
towards t p f = at_unions (unions_along t [] f.root p.path) (record f { reach = max f.reach (reached p.path) })

-- a part is initialised as a whole
abbrev pub with_whole : Types → Part → Init → ℕ → Filling → Filling
with_whole t p s scalars f = with_step s (forgetting p (counted scalars (towards t p f)))
  where
    forgetting : Part → Filling → Filling
    forgetting p f = record f { members = forgotten p.path f.members }

    counted : ℕ → Filling → Filling
    counted n f = record f { scalars = f.scalars + n }

-- a brace list or a literal first makes the bytes of its aggregate zero (p19, p21)
abbrev pub with_zero : Types → Part → Filling → Filling
with_zero t p f = with_whole t p (Zero p.path) 0 f

-- the bytes of a literal that fit: its zero byte may lack room (p14)
abbrev pub fitting : Option ℕ → List ℕ → List ℕ
fitting None bytes = bytes
fitting (Some n) bytes = take n bytes

abbrev pub has_room : Option ℕ → List ℕ → Bool
has_room None bytes = true
has_room (Some n) bytes = nat_le (length bytes) (suc n)

abbrev pub bound_of_array : Shape → Option ℕ
bound_of_array (ArrayType q s bound) = bound
bound_of_array s = None

-- a literal counts all bytes of its own array (6.4.5p6), those without room too
abbrev pub with_bytes : Types → Part → ℕ → List ℕ → Filling → Filling
with_bytes t p count bytes f = with_step (Bytes p.path bytes) (with_zero t p (record f { scalars = f.scalars + count }))

-- the steps, in order
abbrev pub inits : List Init → Inits
inits [] = NoInits
inits (s ∷ ss) = MoreInits s (inits ss)

-- an initialiser's beginning: the whole object is the next part
abbrev pub beginning : CType → Filling
beginning c = record { root = c.shape; steps = []; frames = []; reach = 0; members = []; scalars = 0 }

abbrev pub whole_part : CType → Part
whole_part c = record { path = []; type = c }

-- an array of unknown bound is completed (p22)
abbrev pub completed : ℕ → CType → CType
completed n c = record c { shape = completed_shape n c.shape }
  where
    completed_shape : ℕ → Shape → Shape
    completed_shape n (ArrayType q s None) = ArrayType q s (Some n)
    completed_shape n s = s
