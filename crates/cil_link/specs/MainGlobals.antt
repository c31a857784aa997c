-- Device: the global that is a main, and how a run begins with what it means.
use Rattle.std.specs.Prelude.{◌≡◌, ℕ, Bool, true, false, ◌&&◌, if◌then◌else◌, List, [], ◌∷◌, Option, Some, None}
use Rattle.cil_base.specs.declared.kinds.IntKind.{IntKind}
use Rattle.cil_base.specs.declared.kinds.IntKind.TheVariants.{Int as int, Char as char}
use Rattle.cil_base.specs.Kinds.{same_kind}
use Rattle.type_graph.specs.Shapes.{Shape, Shapes, IntType, PtrType, NoTypes, MoreTypes}
use Rattle.byte_mem.specs.Steps.{◌>>=◌}
use Rattle.execution.specs.Data.{Argument}
use Rattle.execution.specs.Calls.{Start, NotMain, Function, Meaning, Code}
use Rattle.execution.specs.Linking.{first_of}
use Rattle.execution.specs.Runs.{code_in, main_arguments}
use Rattle.cil_tree.specs.Tree.{GlobalDecl}
use Rattle.typed_values.specs.Units.{start_of}
use Rattle.cil_semantics.specs.Runs.{is_main}
use Rattle.cil_link.specs.declared.mains.Main.{Main}
use Rattle.cil_link.specs.Entities.{InRun}
use Rattle.cil_link.specs.Mains.{start_in}

-- the number of the first global that is external and named main
abbrev pub main_number : List ℕ → List GlobalDecl → Option ℕ
main_number [] xs = None
main_number (e ∷ entities) [] = None
main_number (e ∷ entities) (x ∷ xs) = if is_main x then Some e else main_number entities xs

-- the same in the first unit that has one
abbrev pub main_among : List InRun → Option ℕ
main_among [] = None
main_among (u ∷ units) = first_of (main_number u.entities u.program.globals) (main_among units)

abbrev pub is_kind : IntKind → Shape → Bool
is_kind kind (IntType k) = same_kind k kind
is_kind kind _ = false

abbrev pub is_int : Shape → Bool
is_int s = is_kind int s

abbrev pub is_char : Shape → Bool
is_char s = is_kind char s

abbrev pub points_to_char : Shape → Bool
points_to_char (PtrType q s) = is_char s
points_to_char _ = false

abbrev pub is_argv : Shape → Bool
is_argv (PtrType q s) = points_to_char s
is_argv _ = false

-- the parameters of a main that takes the words
abbrev pub are_words : Shapes → Bool
are_words NoTypes = false
are_words (MoreTypes s NoTypes) = false
are_words (MoreTypes s (MoreTypes t NoTypes)) = is_int s && is_argv t
are_words (MoreTypes s (MoreTypes t (MoreTypes u more))) = false

-- whether a function takes the words, if it has the type of a main
abbrev pub start_for : Option Bool → Start
start_for None = NotMain
start_for (Some words) = start_in words

abbrev pub start_at : Option Shape → Start
start_at None = NotMain
start_at (Some s) = start_of s

abbrev pub main_with : ℕ → Bool → Main
main_with entity words = record { entity = entity; words = words }

-- the function with the arguments that a run calls it with
abbrev pub called_with : List (List ℕ) → Function → Option (Function × List Argument)
called_with words f = main_arguments f.start words >>= λ arguments. Some (f, arguments)

-- a run begins so with what the entity means
abbrev pub Begun : Option Meaning → ℕ → Option Main → Type 0
Begun meaning entity None = (words : List (List ℕ)) → (code_in meaning >>= called_with words) ≡ None
Begun meaning entity (Some m) = (f : Function) × (meaning ≡ Some (Code f)) × (f.start ≡ start_in m.words) × (m.entity ≡ entity)
