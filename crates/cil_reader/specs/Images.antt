-- Device: parts of initialised objects, by the code's steps.
use Rattle.std.specs.Prelude.{ℕ, Bool, true, false, if◌then◌else◌, List, [], ◌∷◌, ◌++◌, Option, Some, None, map, ℤ}
use Rattle.std.specs.Option.{option_map, option_and_then}
use denote.Ref.{Bor}
use Rattle.cil_base.specs.declared.constants.Constant.{Constant}
use Rattle.cil_base.specs.declared.kinds.Abi.{Abi}
use Rattle.cil_base.specs.declared.kinds.IntKind.TheVariants.{Int as int}
use Rattle.cil_base.specs.Integer.{long_of}
use Rattle.cil_base.specs.Arithmetic.{fits}
use Rattle.type_graph.specs.declared.nodes.Node.{Node}
use Rattle.type_graph.specs.Shapes.{Shape, IntType, AggType, PtrType}
use Rattle.cil_tree.specs.Tree.{Step, ToField, ToIndex, Item}
use Rattle.cil_tree.specs.Typing.{element_of}
use Rattle.cil_tree.specs.View.{item_of, step_of}
use Rattle.cil_text.specs.Words.{Word, LeftBracket, RightBracket, Dot, Number, Name}
use Rattle.cil_text.specs.ReadTypes.{Reading, Named, read_decl}
use Rattle.cil_text.specs.ReadExps.{Env, bases, find_named, type_of_named, fields, enclosed}
use Rattle.cil_text.specs.ReadImages.{Path, read_path, converted_to}
use Rattle.cil_scan.specs.declared.words.Word.{Word as Seen}
use Rattle.cil_scan.specs.Said.{all_said}
use Rattle.cil_forms.specs.Forms.{assigned, behind_item}
use Rattle.cil_reader.specs.declared.images.Items.{Items}
use Rattle.cil_reader.specs.declared.images.Path.{Path as SeenPath}
use Rattle.cil_reader.specs.Settings.{type_in}
use Rattle.cil_reader.specs.declared.reader.Scalar.{Scalar}
use Rattle.cil_reader.specs.declared.reader.Scalar.TheVariants.{Int, Pointer, Other}

-- a step, and the type of the place that it leads to
abbrev pub Stepped : Type 0
Stepped = Step × Option Shape

abbrev pub to_member : Env → Option Shape → List Word → ℕ → Stepped × List Word
to_member env s ws n = ((ToField n, type_of_named (fields env s) n), ws)

abbrev pub path_step : Env → Option Shape → List Word → Reading Stepped
path_step env s (Dot ∷ Name name ∷ ws) = option_map (to_member env s ws) (find_named name (fields env s))
path_step env s (LeftBracket ∷ Number kind i ∷ RightBracket ∷ ws) = Some ((ToIndex i, option_and_then element_of s), ws)
path_step env s _ = None

-- what a path goes on with behind steps
abbrev pub path_behind : List Step → Path × List Word → Path × List Word
path_behind xs r = ((xs ++ r.0.0, r.0.1), r.1)

-- steps and one more, or the same steps where `=` stands behind them: whether it does, the path, and the words behind
abbrev pub PathRead : Type 0
PathRead = Bool × (Path × List Word)

abbrev pub path_moved : List Step → Stepped × List Word → PathRead
path_moved xs r = (false, ((xs ++ r.0.0 ∷ [], r.0.1), r.1))

abbrev pub path_by : List Step → Option Shape → Option (List Word) → Reading Stepped → Option PathRead
path_by xs s (Some ws) o = Some (true, ((xs, s), ws))
path_by xs s None o = option_map (path_moved xs) o

abbrev pub path_more : Env → List Step → Option Shape → List Word → Option PathRead
path_more env xs s ws = path_by xs s (assigned ws) (path_step env s ws)

abbrev pub path_of : List Node → SeenPath → PathRead
path_of nodes x = (x.ended, ((map step_of x.steps.items, type_in nodes x.ty), all_said x.rest.now))

-- a path behind steps, of which so many may be left, where `=` was read or not
abbrev pub path_left : Env → ℕ → Bool → List Step → Option Shape → List Word → Reading Path
path_left env k true xs s ws = Some ((xs, s), ws)
path_left env k false xs s ws = option_map (path_behind xs) (read_path env k s ws)

-- what a place is that may have a value of its own
abbrev pub scalar_of : Shape → Scalar
scalar_of (IntType kind) = Int kind
scalar_of (AggType a) = Int int
scalar_of (PtrType q s) = Pointer
scalar_of _ = Other

-- items behind others
abbrev pub items_behind : List Item → List Item × List Word → List Item × List Word
items_behind xs r = (xs ++ r.0, r.1)

-- items, whether their list ended, and the words behind them
abbrev pub Listed : Type 0
Listed = List Item × Bool

abbrev pub listed_as : List Item → Bool × List Word → Listed × List Word
listed_as xs r = ((xs, r.0), r.1)

abbrev pub item_end : List Item → Item × List Word → Reading Listed
item_end xs r = option_map (listed_as (xs ++ r.0 ∷ [])) (behind_item r.1)

abbrev pub item_more : List Item → Reading Item → Reading Listed
item_more xs o = option_and_then (item_end xs) o

abbrev pub items_of : Items → Listed × List Word
items_of x = ((map item_of x.all.items, x.closed), all_said x.rest.now)

-- an offset that an address may have in a data model
abbrev pub offset_in : Abi → ℤ → Option ℤ
offset_in abi v = if fits (long_of abi) v then Some v else None

-- behind the `(` of a conversion
abbrev pub converted_from : Env → ℕ → Shape → List Word → Reading Constant
converted_from env n s ws = option_and_then (converted_to env s) (enclosed (λ (x : Named). x.0) (read_decl (bases env) n ws))

abbrev pub constant_of : Constant × Bor (List Seen) → Constant × List Word
constant_of x = (x.0, all_said x.1.now)
