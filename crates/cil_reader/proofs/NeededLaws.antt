-- Device: the types that a whole text adds are parts of those that occur in it.
use Rattle.std.proofs.Common.{◌≡◌, ℕ, true, List, [], ◌∷◌, ◌++◌, length, map, Option, Some, None, Result, Ok, Err, IfOk, Vec, refl, sym, ap, ◌∙◌, subst, arith}
use Rattle.std.specs.Global.{Global}
use Rattle.std.specs.List.{list_all}
use Rattle.std.specs.Option.{option_map, option_and_then}
use Rattle.type_graph.specs.declared.nodes.Node.{Node}
use Rattle.type_graph.specs.Shapes.{Shape}
use Rattle.type_graph.specs.Arena.{Graph, empty_graph}
use Rattle.type_graph.specs.Growth.{Grows, KeepsAggregates}
use Rattle.cil_tree.specs.declared.globals.CilUnit.{CilUnit}
use Rattle.cil_tree.specs.declared.globals.GlobalDecl.{GlobalDecl as SeenGlobal}
use Rattle.cil_tree.specs.Tree.{Body, Definition, GlobalDecl}
use Rattle.cil_tree.specs.View.{program_of}
use Rattle.cil_tree.specs.Programs.{SeenAggregate}
use Rattle.cil_tree.specs.WellFormedTypes.{members_are_unqualified}
use Rattle.cil_text.specs.ReadExps.{Env}
use Rattle.cil_text.specs.ReadAggregates.{Lines, LinesReading}
use Rattle.cil_text.specs.ReadGlobals.{Declaration, Definitions, Bodies, own_name, is_called, own_definition, default_of, definition_first, read_objects, read_bodies}
use Rattle.cil_text.specs.TypesOf.{type_of_one, declared_types, defined_types, member_types, AddsParts, HasNeeded}
use Rattle.cil_text.proofs.PartsAdded.{adds_twice}
use Rattle.cil_reader.specs.declared.globals.Declaration.{Declaration as SeenDeclaration}
use Rattle.cil_declarators.specs.declared.stop.Stop.{Stop}
use Rattle.cil_declarators.specs.Gives.{Gives}
use Rattle.cil_reader.specs.Settings.{outside}
use Rattle.cil_reader.specs.Aggregates.{aggregates_in}
use Rattle.cil_reader.specs.Globals.{types_declared, declaration_of, declarations_of, globals_of, globals_from, globals_with}
use Rattle.cil_reader.specs.Bodies.{with_body, with_bodies, bodied}
use Rattle.cil_reader.specs.Defined.{whole_globals, bodies_read, defined_read}
use Rattle.cil_reader.proofs.ProgramLaws.{Counted, count_first, count_behind, count_either}

-- where no types were added before
pub adds_from : (f g h : Graph) (ss : List Shape) → g.nodes ≡ f.nodes → AddsParts g h ss → AddsParts f h ss
adds_from f g h ss same adds = record { part = λ t old new. adds.part t (omega (arith, ap length same, old)) new }

-- each declaration has a definition

as_many : (env : Env) (n : ℕ) (ds : List Declaration) (lines : Lines) → Counted ds (read_objects env n ds lines)
as_many env n [] lines = refl
as_many env n (d ∷ ds) [] = count_first d ds (definition_first (default_of d)) (read_objects env n ds []) (λ r. refl) (as_many env n ds [])
as_many env n (d ∷ ds) (line ∷ lines) =
    count_either (d ∷ ds) (is_called (own_name line) d.name)
    (option_and_then (λ (x : Definition). option_map (definition_first x) (read_objects env n ds lines)) (own_definition env n d line))
    (option_map (definition_first (default_of d)) (read_objects env n ds (line ∷ lines)))
    (count_behind (d ∷ ds) (λ (x : Definition). option_map (definition_first x) (read_objects env n ds lines)) (own_definition env n d line)
    (λ x. count_first d ds (definition_first x) (read_objects env n ds lines) (λ r. refl) (as_many env n ds lines)))
    (count_first d ds (definition_first (default_of d)) (read_objects env n ds (line ∷ lines)) (λ r. refl) (as_many env n ds (line ∷ lines)))

-- globals have the types of their declarations

abbrev declared_type : Declaration → Shape
declared_type d = d.type

types_kept : (ds : List Declaration) (xs : Definitions) → length xs ≡ length ds → declared_types (globals_from ds xs) ≡ map declared_type ds
types_kept [] xs e = refl
types_kept (d ∷ ds) [] e = absurd (omega (arith, e))
types_kept (d ∷ ds) (x ∷ xs) e = ap (λ (ss : List Shape). d.type ∷ ss) (types_kept ds xs (omega (arith, e)))

body_typed : (x : GlobalDecl) (b : Option Body) → (with_body x b).type ≡ x.type
body_typed x None = refl
body_typed x (Some b) = refl

with_bodies_typed : (gs : List GlobalDecl) (bs : Bodies) → declared_types (with_bodies gs bs) ≡ declared_types gs
with_bodies_typed [] [] = refl
with_bodies_typed [] (b ∷ bs) = refl
with_bodies_typed (x ∷ gs) [] = refl
with_bodies_typed (x ∷ gs) (b ∷ bs) =
    ap (λ (s : Option Shape). type_of_one s ++ declared_types (with_bodies gs bs)) (body_typed x b)
    ∙ ap (λ (ss : List Shape). type_of_one x.type ++ ss) (with_bodies_typed gs bs)

whole_typed : (gs ys : List GlobalDecl) (bs : Bodies) (lines : Lines) → whole_globals (with_bodies gs bs, lines) ≡ Some ys → declared_types ys ≡ declared_types gs
whole_typed gs ys bs [] e = let same : ys ≡ with_bodies gs bs = cc in ap declared_types same ∙ with_bodies_typed gs bs
whole_typed gs ys bs (line ∷ lines) e = absurd (cc e)

bodies_typed : (gs ys : List GlobalDecl) (o : LinesReading Bodies) → option_and_then whole_globals (option_map (bodied 0 gs) o) ≡ Some ys → declared_types ys ≡ declared_types gs
bodies_typed gs ys None e = absurd (cc e)
bodies_typed gs ys (Some r) e = whole_typed gs ys r.0 r.1 e

objects_typed : (env : Env) (n : ℕ) (ds : List Declaration) (ys : List GlobalDecl) (o : LinesReading Definitions) → Counted ds o → option_and_then (bodies_read env n ds) (option_map (globals_with ds) o) ≡ Some ys → declared_types ys ≡ map declared_type ds
objects_typed env n ds ys None c e = absurd (cc e)
objects_typed env n ds ys (Some r) c e = bodies_typed (globals_from ds r.0) ys (read_bodies (outside env) n ds r.1) e ∙ types_kept ds r.0 c

defined_typed : (env : Env) (n : ℕ) (ds : List Declaration) (lines : Lines) (ys : List GlobalDecl) → defined_read env n ds lines ≡ Some ys → declared_types ys ≡ map declared_type ds
unfolding defined_read
defined_typed env n ds lines ys e = objects_typed env n ds ys (read_objects env n ds lines) (as_many env n ds lines) e

types_told : (nodes : List Node) (ds : List SeenDeclaration) → map declared_type (declarations_of nodes ds) ≡ types_declared nodes ds
types_told nodes [] = refl
types_told nodes (d ∷ ds) = ap (λ (ss : List Shape). declared_type (declaration_of nodes d) ∷ ss) (types_told nodes ds)

-- what declarations and definitions add

all_added : (f g k h : Graph) (env : Env) (n : ℕ) (ds : List SeenDeclaration) (lines : Lines) (ys : List GlobalDecl) → k ≡ g → Grows k h → AddsParts f g (types_declared g.nodes ds) → defined_read env n (declarations_of k.nodes ds) lines ≡ Some ys →
    AddsParts k h (defined_types ys) → AddsParts f h (declared_types ys ++ defined_types ys)
all_added f g k h env n ds lines ys same grows first read second =
    let before : AddsParts f k (types_declared k.nodes ds) = subst (λ (x : Graph). AddsParts f x (types_declared x.nodes ds)) (sym same) first in
    adds_twice f k h (declared_types ys) (defined_types ys) grows
    (subst (λ (ss : List Shape). AddsParts f k ss) (sym (defined_typed env n (declarations_of k.nodes ds) lines ys read ∙ types_told k.nodes ds)) before)
    second

pub globals_added : (f g k h : Graph) (pool : List (List ℕ)) (env : Env) (n : ℕ) (ds : List SeenDeclaration) (lines : Lines) (result : Result (Vec SeenGlobal Global) Stop) → k ≡ g → Grows k h → AddsParts f g (types_declared g.nodes ds) →
    Gives (λ (xs : Vec SeenGlobal Global). globals_of h.nodes pool xs.items) result (defined_read env n (declarations_of k.nodes ds) lines) → IfOk result (λ (xs : Vec SeenGlobal Global). AddsParts k h (defined_types (globals_of h.nodes pool xs.items))) →
    IfOk result (λ (xs : Vec SeenGlobal Global). AddsParts f h (declared_types (globals_of h.nodes pool xs.items) ++ defined_types (globals_of h.nodes pool xs.items)))
globals_added f g k h pool env n ds lines (Ok xs) same grows first gives second = all_added f g k h env n ds lines (globals_of h.nodes pool xs.items) same grows first gives second
globals_added f g k h pool env n ds lines (Err e) same grows first gives second = tt

-- what a whole text adds

pub tree_needed : (f g h : Graph) (p q : List (List ℕ)) (u : CilUnit) → f.nodes ≡ [] → AddsParts f g (member_types (aggregates_in g p)) → Grows g h → aggregates_in h q ≡ aggregates_in g p →
    AddsParts g h (declared_types (globals_of h.nodes q u.globals.items) ++ defined_types (globals_of h.nodes q u.globals.items)) → u.graph ≡ h → HasNeeded (program_of q u)
unfolding aggregates_in
tree_needed f g h p q u none first grows same second is =
    let gs = globals_of h.nodes q u.globals.items in
    let before : AddsParts (empty_graph h.abi) g (member_types (aggregates_in h q)) =
    adds_from (empty_graph h.abi) f g (member_types (aggregates_in h q)) none (subst (λ (xs : List SeenAggregate). AddsParts f g (member_types xs)) (sym same) first) in
    let all : HasNeeded (program_of q (record { graph = h; globals = u.globals })) =
    adds_twice (empty_graph h.abi) g h (member_types (aggregates_in h q)) (declared_types gs ++ defined_types gs) grows before second in
    subst (λ (k : Graph). HasNeeded (program_of q (record { graph = k; globals = u.globals }))) (sym is) all

pub members_stay : (g h : Graph) → KeepsAggregates g h → list_all members_are_unqualified g.aggs ≡ true → list_all members_are_unqualified h.aggs ≡ true
members_stay g h keeps all = ap (list_all members_are_unqualified) keeps.0 ∙ all
