-- Device: the executable reading of initialised objects (C11 6.7.9) from words: the type of each scalar is known from its path.
use Rattle.std.specs.Prelude.{ℕ, suc, zero, Bool, true, false, if◌then◌else◌, List, [], ◌∷◌, Option, Some, None}
use Rattle.std.specs.Option.{option_map, option_and_then}
use Rattle.cil_base.specs.declared.constants.Constant.{Constant}
use Rattle.cil_base.specs.declared.constants.Constant.TheVariants.{Int as Integer, Address, Function as Code}
use Rattle.cil_base.specs.declared.kinds.Abi.{Abi}
use Rattle.cil_base.specs.declared.kinds.IntKind.{IntKind}
use Rattle.cil_base.specs.declared.kinds.IntKind.TheVariants.{Int as int}
use Rattle.cil_base.specs.Integer.{long_of, kind_in}
use Rattle.cil_base.specs.Arithmetic.{fits}
use Rattle.cil_base.specs.declared.operators.BinOp.TheVariants.{Mul, Add, And}
use Rattle.type_graph.specs.Shapes.{Shape, IntType, PtrType, AggType}
use Rattle.cil_tree.specs.Tree.{Host, Global, Step, ToField, ToIndex, Item}
use Rattle.cil_tree.specs.Typing.{same_shape, element_of}
use Rattle.cil_text.specs.Words.{Word, LeftParen, RightParen, LeftBracket, RightBracket, LeftBrace, RightBrace, Dot, Comma, Assign, Operator, CharWord, Number, Name}
use Rattle.cil_text.specs.ReadTypes.{Reading, Named, skip_one, closed, read_decl}
use Rattle.cil_text.specs.ReadExps.{Env, bases, find_named, type_of_named, fields, host_named, enclosed}
use Rattle.cil_text.specs.ReadStmts.{Numbered, read_number}

-- a path, and the type of the place that it leads to
abbrev pub Path : Type 0
Path = List Step × Option Shape

abbrev pub step_first : Step → Path × List Word → Path × List Word
step_first x r = ((x ∷ r.0.0, r.0.1), r.1)

-- the steps up to `=`
abbrev pub read_path : Env → ℕ → Option Shape → List Word → Reading Path
read_path env zero s ws = None
read_path env (suc k) s (Dot ∷ Name name ∷ ws) = option_and_then (λ (n : ℕ). option_map (step_first (ToField n)) (read_path env k (type_of_named (fields env s) n) ws)) (find_named name (fields env s))
read_path env (suc k) s (LeftBracket ∷ Number kind i ∷ RightBracket ∷ ws) = option_map (step_first (ToIndex i)) (read_path env k (option_and_then element_of s) ws)
read_path env (suc k) s (Assign ∷ ws) = Some (([], s), ws)
read_path env (suc k) s _ = None

abbrev pub integer_of : IntKind → Numbered × List Word → Constant × List Word
integer_of kind r = (Integer kind r.0.1, r.1)

abbrev pub integer_as : Abi → Numbered × List Word → Constant × List Word
integer_as abi r = (Integer (kind_in abi r.0.0) r.0.1, r.1)

abbrev pub only_global : Option Host → Option ℕ
only_global (Some (Global n)) = Some n
only_global _ = None

abbrev pub function_named : Env → List Word → Reading Constant
function_named env (Name name ∷ ws) = option_map (λ (n : ℕ). (Code (record { 0 = n }), ws)) (only_global (host_named env name))
function_named env _ = None

abbrev pub address_at : ℕ → Numbered → Constant
address_at n x = Address (record { 0 = n }) x.1

-- an offset from the beginning of an object, and `)`; the offset is one of long
abbrev pub offset_at : Abi → ℕ → Numbered × List Word → Reading Constant
offset_at abi n r = if fits (long_of abi) r.0.1 then closed (address_at n r.0) r.1 else None

-- `( char * ) & x + n )` behind a `(`
abbrev pub read_address : Env → List Word → Reading Constant
read_address env (LeftParen ∷ CharWord ∷ Operator Mul ∷ RightParen ∷ Operator And ∷ Name name ∷ Operator Add ∷ ws) =
    option_and_then (λ (n : ℕ). option_and_then (offset_at env.abi n) (read_number ws)) (only_global (host_named env name))
read_address env _ = None

-- behind the cast of a pointer
abbrev pub read_pointer : Env → List Word → Reading Constant
read_pointer env (LeftParen ∷ ws) = read_address env ws
read_pointer env (Operator And ∷ ws) = function_named env ws
read_pointer env ws = option_map (integer_as env.abi) (read_number ws)

-- behind a cast to a type, which is that of the place
abbrev pub converted_to : Env → Shape → Shape × List Word → Reading Constant
converted_to env s r = if same_shape r.0 s then read_pointer env r.1 else None

abbrev pub read_converted : Env → ℕ → Shape → List Word → Reading Constant
read_converted env n s (LeftParen ∷ ws) = option_and_then (converted_to env s) (enclosed (λ (x : Named). x.0) (read_decl (bases env) n ws))
read_converted env n s _ = None

-- the value of a scalar of that type
abbrev pub read_constant : Env → ℕ → Option Shape → List Word → Reading Constant
read_constant env n (Some (IntType kind)) ws = option_map (integer_of kind) (read_number ws)
read_constant env n (Some (AggType a)) ws = option_map (integer_of int) (read_number ws)
read_constant env n (Some (PtrType q s)) ws = read_converted env n (PtrType q s) ws
read_constant env n _ ws = None

abbrev pub item_at : List Step → Constant × List Word → Item × List Word
item_at path r = (record { path = path; value = r.0 }, r.1)

abbrev pub read_item : Env → ℕ → Option Shape → List Word → Reading Item
read_item env n s ws = option_and_then (λ (r : Path × List Word). option_map (item_at r.0.0) (read_constant env n r.0.1 r.1)) (read_path env n s ws)

abbrev pub item_first : Item → List Item × List Word → List Item × List Word
item_first x r = (x ∷ r.0, r.1)

abbrev pub next_item : (List Word → Reading (List Item)) → Item → List Word → Reading (List Item)
next_item again x (RightBrace ∷ ws) = Some (x ∷ [], ws)
next_item again x (Comma ∷ ws) = option_map (item_first x) (again ws)
next_item again x _ = None

abbrev pub read_items : Env → ℕ → ℕ → Option Shape → List Word → Reading (List Item)
read_items env n zero s ws = None
read_items env n (suc k) s ws = option_and_then (λ (r : Item × List Word). next_item (read_items env n k s) r.0 r.1) (read_item env n s ws)

abbrev pub only_item : Constant × List Word → List Item × List Word
only_item r = (record { path = []; value = r.0 } ∷ [], r.1)

abbrev pub is_brace : List Word → Bool
is_brace (LeftBrace ∷ ws) = true
is_brace _ = false

-- an object's scalars: a list in braces, or the one value of a scalar
abbrev pub read_image : Env → ℕ → Option Shape → List Word → Reading (List Item)
read_image env n s ws = if is_brace ws then read_items env n n s (skip_one ws) else option_map only_item (read_constant env n s ws)
