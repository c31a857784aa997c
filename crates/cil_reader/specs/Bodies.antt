-- Device: parts of functions as the code has them, and their readings by the code's steps.
use Rattle.std.specs.Prelude.{◌≡◌, ℕ, zero, suc, ◌&&◌, not, Bool, true, false, if◌then◌else◌, List, [], ◌∷◌, ◌++◌, Option, Some, None, map, length}
use Rattle.std.specs.Option.{option_map}
use denote.Ref.{Bor}
use Rattle.cil_base.specs.declared.numbers.NameId.{NameId}
use Rattle.type_graph.specs.declared.nodes.Node.{Node}
use Rattle.type_graph.specs.Shapes.{Shape}
use Rattle.type_graph.specs.Arena.{Graph, EachType}
use Rattle.type_graph.specs.Growth.{Grows}
use Rattle.cil_tree.specs.declared.globals.Body.{Body as SeenBody}
use Rattle.cil_tree.specs.Tree.{Stmts, Local, Body, Function, GlobalDecl}
use Rattle.cil_tree.specs.Names.{is_among, are_different, local_name_of}
use Rattle.cil_tree.specs.View.{text_at, local_of, body_of}
use Rattle.cil_text.specs.Words.{Word, TagWord, Name}
use Rattle.cil_text.specs.ReadExps.{Env}
use Rattle.cil_text.specs.ReadStmts.{Head, is_label, label_text}
use Rattle.cil_text.specs.ReadAggregates.{Lines, is_close}
use Rattle.cil_text.specs.TypesOf.{types_in_body}
use Rattle.cil_text.specs.ReadGlobals.{Declaration, Bodies, plain_names, header_names, is_outermost, one_less, begins_with, behind_first, split_block, read_body}
use Rattle.cil_reader.specs.declared.bodies.Locals.{Locals}
use Rattle.cil_declarators.specs.Fresh.{with_new}
use Rattle.cil_reader.specs.Settings.{locals_of}
use Rattle.cil_reader.specs.Pools.{KeepsNames}
use Rattle.cil_reader.specs.Globals.{behind_line}

-- texts that are borrowed
abbrev pub texts_of : List (Bor (List ℕ)) → List (List ℕ)
texts_of xs = map (λ (t : Bor (List ℕ)). t.now) xs

-- numbers of names that have these texts in this pool and in each later one
pub record TextsKnown (pool : List (List ℕ)) (names : List NameId) (texts : List (List ℕ)) : Type 0 where
  pub steady : (later : List (List ℕ)) → KeepsNames pool later → map (text_at later) names ≡ texts

-- the names in words, where the first stands behind `struct`, `union` or `enum`, or does not
abbrev pub names_from : Bool → List Word → List (List ℕ)
names_from false ws = plain_names ws
names_from true [] = []
names_from true (w ∷ ws) = plain_names ws

abbrev pub is_tag_word : Word → Bool
is_tag_word (TagWord kind) = true
is_tag_word _ = false

-- such a word stands there, and is no tag itself
abbrev pub tag_behind : Bool → Word → Bool
tag_behind tagged w = not tagged && is_tag_word w

abbrev pub name_in : Word → Option (List ℕ)
name_in (Name text) = Some text
name_in _ = None

-- a word's name, where no such word stands before it
abbrev pub names_here : Bool → Option (List ℕ) → List (List ℕ)
names_here true o = []
names_here false None = []
names_here false (Some text) = text ∷ []

-- the names in the line that stands next, if it opens a body
abbrev pub next_names : Lines → List (List ℕ)
next_names [] = []
next_names (line ∷ lines) = header_names line

abbrev pub lines_before : Lines → Lines × Lines → Lines × Lines
lines_before xs r = (xs ++ r.0, r.1)

-- the braces that are left open where a line begins with `}`
abbrev pub still_open : List Word → ℕ → ℕ
still_open ws d = if is_close ws then one_less d else d

-- the line closes the block that is read
abbrev pub closes : List Word → ℕ → Bool
closes ws depth = is_close ws && is_outermost depth

-- the label of a line behind others, if it sets one
abbrev pub label_behind : List (List ℕ) → List Word → Option (List (List ℕ))
label_behind texts ws = if is_label ws then with_new texts (label_text ws) else Some texts

-- locals

abbrev pub named_local : List ℕ → Shape → Local
named_local name s = record { name = name; type = Some s }

-- names of locals differ
abbrev pub apart : List Local → Bool
apart ls = are_different (map local_name_of ls)

abbrev pub first_apart : List Local × Lines → Bool
first_apart r = apart r.0

-- a local behind others, if none of them has its name
abbrev pub local_behind : List Local → Local → Option (List Local)
local_behind ls x = if is_among (map local_name_of ls) x.name then None else Some (ls ++ x ∷ [])

abbrev pub locals_behind : List Local → List Local × Lines → List Local × Lines
locals_behind ls r = (ls ++ r.0, r.1)

-- locals with their types in this graph; as trees they are seen so in it and in each later graph and pool
pub record LocalsKnown (g : Graph) (pool : List (List ℕ)) (x : Locals) : Type 0 where
  pub each : EachType (length g.nodes) x.names.types.items
  pub steady : (h : Graph) (later : List (List ℕ)) → Grows g h → KeepsNames pool later → map (local_of h.nodes later) x.all.items ≡ locals_of g.nodes x.names

-- statements

-- all lines were taken
abbrev pub whole_stmts : Stmts × List Head → Option Stmts
whole_stmts (ss, []) = Some ss
whole_stmts _ = None

-- bodies

abbrev pub body_made : List (List ℕ) → List Local → List (List ℕ) → Stmts → Body
body_made params ls labels ss = record { params = params; locals = ls; labels = labels; stmts = ss }

-- a body that is seen as one tree in each later graph and pool
pub record BodyKnown (g : Graph) (pool : List (List ℕ)) (b : SeenBody) : Type 0 where
  pub steady : (h : Graph) (later : List (List ℕ)) → Grows g h → KeepsNames pool later → body_of h.nodes later b ≡ body_of g.nodes pool b

-- the body of a declared function and the lines behind it, if its line stands next with these names
abbrev pub Own : Type 0
Own = Option (Body × Lines)

abbrev pub with_lines : Lines → Body → Own
with_lines lines b = Some (b, lines)

abbrev pub own_body : Env → ℕ → Declaration → List (List ℕ) → Lines → Option Own
own_body env n d header lines =
    if begins_with header d.name
    then option_map (with_lines (split_block 0 (behind_line lines)).1) (read_body env n d.type (behind_first header) (split_block 0 (behind_line lines)).0)
    else Some None

-- the types in such a body
abbrev pub own_types : List Node → List (List ℕ) → Option (SeenBody × ℕ) → List Shape
own_types nodes pool None = []
own_types nodes pool (Some x) = types_in_body (body_of nodes pool x.0)

-- globals with bodies, from one of them on
abbrev pub with_body : GlobalDecl → Option Body → GlobalDecl
with_body x None = x
with_body x (Some b) = record x { definition = Function b }

abbrev pub with_bodies : List GlobalDecl → Bodies → List GlobalDecl
with_bodies (x ∷ xs) (b ∷ bs) = with_body x b ∷ with_bodies xs bs
with_bodies xs [] = xs
with_bodies [] (b ∷ bs) = []

abbrev pub bodies_from : ℕ → List GlobalDecl → Bodies → List GlobalDecl
bodies_from zero xs bs = with_bodies xs bs
bodies_from (suc i) [] bs = []
bodies_from (suc i) (x ∷ xs) bs = x ∷ bodies_from i xs bs

abbrev pub bodied : ℕ → List GlobalDecl → Bodies × Lines → List GlobalDecl × Lines
bodied i xs r = (bodies_from i xs r.0, r.1)
