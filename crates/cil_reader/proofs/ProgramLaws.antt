-- Device: steps of the reading of a whole text.
use Rattle.std.proofs.Common.{◌≡◌, ◌≢◌, ℕ, suc, Bool, true, false, cond, List, [], ◌∷◌, length, map, Option, Some, None, refl, sym, ap, ◌∙◌, arith, Vec}
use Rattle.std.specs.Global.{Global}
use Rattle.std.specs.Option.{option_map, option_and_then}
use Rattle.cil_base.specs.declared.kinds.Abi.{Abi}
use Rattle.type_graph.specs.Arena.{Graph}
use Rattle.type_graph.specs.Growth.{Grows, KeepsAggregates}
use Rattle.type_graph.specs.declared.aggregates.Aggregate.{Aggregate}
use Rattle.cil_tree.specs.Tree.{Local, Body, Definition, GlobalDecl}
use Rattle.cil_tree.specs.Names.{are_different}
use Rattle.cil_tree.specs.Programs.{SeenAggregate, seen_aggregate}
use Rattle.cil_text.specs.ReadExps.{Env, bases}
use Rattle.cil_text.specs.ReadAggregates.{Lines, LinesReading, tag_of, read_aggregates}
use Rattle.cil_text.specs.ReadGlobals.{Declaration, Definitions, Bodies, body_first, begins_with, header_names, behind_first, split_block, read_body, read_declarations, read_objects, read_bodies, declared_name, declared_local, seen_fields, bases_from, env_from, definition_with, assembled, Seen, seen_end, read_defined, read_lines}
use Rattle.cil_declarators.specs.Bases.{bases_in}
use Rattle.cil_scan.specs.declared.words.Word.{Word as SeenWord}
use Rattle.cil_scan.specs.Said.{all_lines}
use Rattle.cil_reader.specs.Settings.{Setting, with_globals, outside}
use Rattle.cil_reader.specs.Pools.{KeepsNames}
use Rattle.cil_reader.specs.Aggregates.{program_with, aggregates_in, AggregatesKnown, IsBlank}
use Rattle.cil_reader.specs.Globals.{named_apart, global_with, globals_from, globals_with}
use Rattle.cil_reader.specs.Bodies.{with_body, with_bodies, bodied}
use Rattle.cil_reader.specs.Defined.{whole_globals, bodies_read, defined_read, declared_read, globals_read, with_aggregates}

-- objects, and bodies behind them

pub defined_gives : (env f : Env) (n : ℕ) (ds es : List Declaration) (lines rest behind : Lines) (xs ys : List GlobalDecl) → f ≡ env → es ≡ ds → option_map (globals_with ds) (read_objects env n ds lines) ≡ Some (xs, rest) →
    option_map (bodied 0 xs) (read_bodies (outside f) n es rest) ≡ Some (ys, behind) → behind ≡ [] → defined_read env n ds lines ≡ Some ys
unfolding defined_read
defined_gives env f n ds es lines rest behind xs ys same kept o b none =
    ap (option_and_then (bodies_read env n ds)) o
    ∙ ap (λ (e : Env). option_and_then whole_globals (option_map (bodied 0 xs) (read_bodies (outside e) n ds rest))) (sym same)
    ∙ ap (λ (zs : List Declaration). option_and_then whole_globals (option_map (bodied 0 xs) (read_bodies (outside f) n zs rest))) (sym kept)
    ∙ ap (option_and_then whole_globals) b
    ∙ ap (λ (ls : Lines). whole_globals (ys, ls)) none

more_lines : (ys : List GlobalDecl) (lines : Lines) → lines ≢ [] → whole_globals (ys, lines) ≡ None
more_lines ys [] h = absurd (h refl)
more_lines ys (line ∷ lines) h = refl

pub defined_open : (env f : Env) (n : ℕ) (ds es : List Declaration) (lines rest behind : Lines) (xs ys : List GlobalDecl) → f ≡ env → es ≡ ds → option_map (globals_with ds) (read_objects env n ds lines) ≡ Some (xs, rest) →
    option_map (bodied 0 xs) (read_bodies (outside f) n es rest) ≡ Some (ys, behind) → behind ≢ [] → defined_read env n ds lines ≡ None
unfolding defined_read
defined_open env f n ds es lines rest behind xs ys same kept o b some =
    ap (option_and_then (bodies_read env n ds)) o
    ∙ ap (λ (e : Env). option_and_then whole_globals (option_map (bodied 0 xs) (read_bodies (outside e) n ds rest))) (sym same)
    ∙ ap (λ (zs : List Declaration). option_and_then whole_globals (option_map (bodied 0 xs) (read_bodies (outside f) n zs rest))) (sym kept)
    ∙ ap (option_and_then whole_globals) b
    ∙ more_lines ys behind some

pub defined_bodies_fail : (env f : Env) (n : ℕ) (ds es : List Declaration) (lines rest : Lines) (xs : List GlobalDecl) → f ≡ env → es ≡ ds → option_map (globals_with ds) (read_objects env n ds lines) ≡ Some (xs, rest) →
    option_map (bodied 0 xs) (read_bodies (outside f) n es rest) ≡ None → defined_read env n ds lines ≡ None
unfolding defined_read
defined_bodies_fail env f n ds es lines rest xs same kept o b =
    ap (option_and_then (bodies_read env n ds)) o
    ∙ ap (λ (e : Env). option_and_then whole_globals (option_map (bodied 0 xs) (read_bodies (outside e) n ds rest))) (sym same)
    ∙ ap (λ (zs : List Declaration). option_and_then whole_globals (option_map (bodied 0 xs) (read_bodies (outside f) n zs rest))) (sym kept)
    ∙ ap (option_and_then whole_globals) b

pub defined_fails : (env : Env) (n : ℕ) (ds : List Declaration) (lines : Lines) → option_map (globals_with ds) (read_objects env n ds lines) ≡ None → defined_read env n ds lines ≡ None
unfolding defined_read
defined_fails env n ds lines o = ap (option_and_then (bodies_read env n ds)) o

no_lines : (ls : List (Vec SeenWord Global)) → length ls ≡ 0 → all_lines ls ≡ []
no_lines [] e = refl
no_lines (l ∷ ls) e = absurd (omega (arith, e))

some_lines : (ls : List (Vec SeenWord Global)) → length ls ≢ 0 → all_lines ls ≢ []
some_lines [] h = absurd (h refl)
some_lines (l ∷ ls) h = λ e. cc

pub defined_whole : (env f : Env) (n : ℕ) (ds es : List Declaration) (lines rest : Lines) (behind : List (Vec SeenWord Global)) (xs ys : List GlobalDecl) → f ≡ env → es ≡ ds → option_map (globals_with ds) (read_objects env n ds lines) ≡ Some (xs, rest) →
    option_map (bodied 0 xs) (read_bodies (outside f) n es rest) ≡ Some (ys, all_lines behind) → length behind ≡ 0 → defined_read env n ds lines ≡ Some ys
defined_whole env f n ds es lines rest behind xs ys same kept o b none = defined_gives env f n ds es lines rest (all_lines behind) xs ys same kept o b (no_lines behind none)

pub defined_more : (env f : Env) (n : ℕ) (ds es : List Declaration) (lines rest : Lines) (behind : List (Vec SeenWord Global)) (xs ys : List GlobalDecl) → f ≡ env → es ≡ ds → option_map (globals_with ds) (read_objects env n ds lines) ≡ Some (xs, rest) →
    option_map (bodied 0 xs) (read_bodies (outside f) n es rest) ≡ Some (ys, all_lines behind) → length behind ≢ 0 → defined_read env n ds lines ≡ None
defined_more env f n ds es lines rest behind xs ys same kept o b some = defined_open env f n ds es lines rest (all_lines behind) xs ys same kept o b (some_lines behind some)

-- declarations before them

pub globals_give : (env e f : Env) (n : ℕ) (lines rest : Lines) (ds : List Declaration) (ls : List Local) → read_declarations (bases env) n lines ≡ Some (ds, rest) → named_apart ds ≡ Some ls → e ≡ env → f ≡ outside (with_globals e ls) →
    globals_read env n lines ≡ defined_read f n ds rest
unfolding globals_read
globals_give env e f n lines rest ds ls d named same is =
    ap (option_and_then (declared_read env n)) d
    ∙ ap (option_and_then (λ (ms : List Local). defined_read (outside (with_globals env ms)) n ds rest)) named
    ∙ ap (λ (v : Env). defined_read v n ds rest) (ap (λ (v : Env). outside (with_globals v ls)) (sym same) ∙ sym is)

pub globals_alike : (env : Env) (n : ℕ) (lines rest : Lines) (ds : List Declaration) → read_declarations (bases env) n lines ≡ Some (ds, rest) → named_apart ds ≡ None → globals_read env n lines ≡ None
unfolding globals_read
globals_alike env n lines rest ds d named = ap (option_and_then (declared_read env n)) d ∙ ap (option_and_then (λ (ms : List Local). defined_read (outside (with_globals env ms)) n ds rest)) named

pub globals_fail : (env : Env) (n : ℕ) (lines : Lines) → read_declarations (bases env) n lines ≡ None → globals_read env n lines ≡ None
unfolding globals_read
globals_fail env n lines d = ap (option_and_then (declared_read env n)) d

-- each declaration has a body or none

abbrev pub Counted : {A : Type 0} → List Declaration → LinesReading (List A) → Type 0
Counted ds None = Unit {0}
Counted ds (Some r) = length r.0 ≡ length ds

pub count_first : {A : Type 0} (d : Declaration) (ds : List Declaration) (f : List A × Lines → List A × Lines) (o : LinesReading (List A)) → ((r : List A × Lines) → length (f r).0 ≡ suc (length r.0)) → Counted ds o → Counted (d ∷ ds) (option_map f o)
count_first d ds f None one c = tt
count_first d ds f (Some r) one c = one r ∙ ap suc c

pub count_behind : {A B : Type 0} (ds : List Declaration) (f : B → LinesReading (List A)) (o : Option B) → ((b : B) → Counted ds (f b)) → Counted ds (option_and_then f o)
count_behind ds f None c = tt
count_behind ds f (Some b) c = c b

pub count_either : {A : Type 0} (ds : List Declaration) (v : Bool) (o p : LinesReading (List A)) → Counted ds o → Counted ds p → Counted ds (cond v o p)
count_either ds true o p a b = a
count_either ds false o p a b = b

as_many : (env : Env) (n : ℕ) (ds : List Declaration) (lines : Lines) → Counted ds (read_bodies env n ds lines)
as_many env n [] lines = refl
as_many env n (d ∷ ds) [] = count_first d ds (body_first None) (read_bodies env n ds []) (λ r. refl) (as_many env n ds [])
as_many env n (d ∷ ds) (line ∷ lines) =
    count_either (d ∷ ds) (begins_with (header_names line) d.name)
    (option_and_then (λ (b : Body). option_map (body_first (Some b)) (read_bodies env n ds (split_block 0 lines).1)) (read_body env n d.type (behind_first (header_names line)) (split_block 0 lines).0))
    (option_map (body_first None) (read_bodies env n ds (line ∷ lines)))
    (count_behind (d ∷ ds) (λ (b : Body). option_map (body_first (Some b)) (read_bodies env n ds (split_block 0 lines).1)) (read_body env n d.type (behind_first (header_names line)) (split_block 0 lines).0)
    (λ b. count_first d ds (body_first (Some b)) (read_bodies env n ds (split_block 0 lines).1) (λ r. refl) (as_many env n ds (split_block 0 lines).1)))
    (count_first d ds (body_first None) (read_bodies env n ds (line ∷ lines)) (λ r. refl) (as_many env n ds (line ∷ lines)))

body_given : (d : Declaration) (x : Definition) (b : Option Body) (gs : List GlobalDecl) → with_body (global_with d x) b ∷ gs ≡ record { name = d.name; type = Some d.type; internal = d.internal; definition = definition_with x b } ∷ gs
body_given d x None gs = refl
body_given d x (Some b) gs = refl

assembled_is : (ds : List Declaration) (xs : Definitions) (bs : Bodies) → length bs ≡ length ds → with_bodies (globals_from ds xs) bs ≡ assembled ds xs bs
assembled_is [] xs [] e = refl
assembled_is [] xs (b ∷ bs) e = absurd (omega (arith, e))
assembled_is (d ∷ ds) xs [] e = absurd (omega (arith, e))
assembled_is (d ∷ ds) [] (b ∷ bs) e = refl
assembled_is (d ∷ ds) (x ∷ xs) (b ∷ bs) e = ap (λ (gs : List GlobalDecl). with_body (global_with d x) b ∷ gs) (assembled_is ds xs bs (omega (arith, e))) ∙ body_given d x b (assembled ds xs bs)

-- a whole text

abbrev env_with : Abi → List (List ℕ) → List (List Local) → List Local → Env
env_with abi ts ms gs = record { abi = abi; tags = ts; members = ms; globals = gs; locals = [] }

bodies_seen : (aggs : List SeenAggregate) (ds : List Declaration) (xs : Definitions) (o : LinesReading Bodies) → Counted ds o →
    option_and_then (seen_end aggs ds xs) o ≡ option_map (with_aggregates aggs) (option_and_then whole_globals (option_map (bodied 0 (globals_from ds xs)) o))
bodies_seen aggs ds xs None c = refl
bodies_seen aggs ds xs (Some (bs, [])) c = ap (λ (gs : List GlobalDecl). Some (aggs, gs)) (sym (assembled_is ds xs bs c))
bodies_seen aggs ds xs (Some (bs, line ∷ lines)) c = refl

objects_seen : (aggs : List SeenAggregate) (env : Env) (n : ℕ) (ds : List Declaration) (o : LinesReading Definitions) → outside env ≡ env →
    option_and_then (λ (r : Definitions × Lines). option_and_then (seen_end aggs ds r.0) (read_bodies env n ds r.1)) o ≡ option_map (with_aggregates aggs) (option_and_then (bodies_read env n ds) (option_map (globals_with ds) o))
objects_seen aggs env n ds None e = refl
objects_seen aggs env n ds (Some r) e =
    bodies_seen aggs ds r.0 (read_bodies env n ds r.1) (as_many env n ds r.1)
    ∙ ap (λ (v : Env). option_map (with_aggregates aggs) (option_and_then whole_globals (option_map (bodied 0 (globals_from ds r.0)) (read_bodies v n ds r.1)))) (sym e)

env_is : (env : Env) (abi : Abi) (aggs : List SeenAggregate) (ds : List Declaration) → env.abi ≡ abi → env.tags ≡ map tag_of aggs → env.members ≡ map seen_fields aggs → outside (with_globals env (map declared_local ds)) ≡ env_from abi aggs ds
env_is env abi aggs ds model tags members =
    ap (λ (v : Abi). env_with v env.tags env.members (map declared_local ds)) model
    ∙ ap (λ (ts : List (List ℕ)). env_with abi ts env.members (map declared_local ds)) tags
    ∙ ap (λ (ms : List (List Local)). env_with abi (map tag_of aggs) ms (map declared_local ds)) members

abbrev seen_from : ℕ → List SeenAggregate → List Declaration × Lines → Env → Option Seen
seen_from n aggs r e = option_and_then (λ (o : Definitions × Lines). option_and_then (seen_end aggs r.0 o.0) (read_bodies e n r.0 o.1)) (read_objects e n r.0 r.1)

defined_by : (env : Env) (abi : Abi) (n : ℕ) (aggs : List SeenAggregate) (r : List Declaration × Lines) (b : Bool) → env.abi ≡ abi → env.tags ≡ map tag_of aggs → env.members ≡ map seen_fields aggs →
    cond b (seen_from n aggs r (env_from abi aggs r.0)) None ≡ option_map (with_aggregates aggs) (option_and_then (λ (ms : List Local). defined_read (outside (with_globals env ms)) n r.0 r.1) (cond b (Some (map declared_local r.0)) None))
unfolding defined_read
defined_by env abi n aggs r true model tags members =
    let e = outside (with_globals env (map declared_local r.0)) in
    ap (seen_from n aggs r) (sym (env_is env abi aggs r.0 model tags members)) ∙ objects_seen aggs e n r.0 (read_objects e n r.0 r.1) refl
defined_by env abi n aggs r false model tags members = refl

defined_seen : (env : Env) (abi : Abi) (n : ℕ) (aggs : List SeenAggregate) (r : List Declaration × Lines) → env.abi ≡ abi → env.tags ≡ map tag_of aggs → env.members ≡ map seen_fields aggs → read_defined abi n aggs r ≡ option_map (with_aggregates aggs) (declared_read env n r)
defined_seen env abi n aggs r model tags members = defined_by env abi n aggs r (are_different (map declared_name r.0)) model tags members

all_seen : (env : Env) (abi : Abi) (n : ℕ) (aggs : List SeenAggregate) (o : LinesReading (List Declaration)) → env.abi ≡ abi → env.tags ≡ map tag_of aggs → env.members ≡ map seen_fields aggs →
    option_and_then (read_defined abi n aggs) o ≡ option_map (with_aggregates aggs) (option_and_then (declared_read env n) o)
all_seen env abi n aggs None model tags members = refl
all_seen env abi n aggs (Some r) model tags members = defined_seen env abi n aggs r model tags members

abbrev text_behind : Abi → ℕ → List SeenAggregate × Lines → Option Seen
text_behind abi n r = option_and_then (read_defined abi n r.0) (read_declarations (bases_from abi r.0) n r.1)

-- behind the aggregates, where what is known is of the data model and of these aggregates
behind_seen : (env : Env) (abi : Abi) (n : ℕ) (rest : Lines) (aggs : List SeenAggregate) → env.abi ≡ abi → env.tags ≡ map tag_of aggs → env.members ≡ map seen_fields aggs → text_behind abi n (aggs, rest) ≡ option_map (with_aggregates aggs) (globals_read env n rest)
unfolding globals_read
behind_seen env abi n rest aggs model tags members =
    ap (λ (ts : List (List ℕ)). option_and_then (read_defined abi n aggs) (read_declarations (bases_in abi ts) n rest)) (sym tags)
    ∙ ap (λ (v : Abi). option_and_then (read_defined abi n aggs) (read_declarations (bases_in v env.tags) n rest)) (sym model)
    ∙ all_seen env abi n aggs (read_declarations (bases env) n rest) model tags members

pub text_gives : (env : Env) (abi : Abi) (n : ℕ) (words lines rest : Lines) (aggs seen : List SeenAggregate) (gs : List GlobalDecl) → lines ≡ words → read_aggregates abi n lines ≡ Some (aggs, rest) → env.abi ≡ abi → env.tags ≡ map tag_of aggs → env.members ≡ map seen_fields aggs →
    globals_read env n rest ≡ Some gs → seen ≡ aggs → read_lines abi n words ≡ Some (seen, gs)
text_gives env abi n words lines rest aggs seen gs told a model tags members g same =
    ap (read_lines abi n) (sym told)
    ∙ ap (option_and_then (text_behind abi n)) a
    ∙ behind_seen env abi n rest aggs model tags members
    ∙ ap (option_map (with_aggregates aggs)) g
    ∙ ap (λ (xs : List SeenAggregate). Some (xs, gs)) (sym same)

pub text_globals_fail : (env : Env) (abi : Abi) (n : ℕ) (words lines rest : Lines) (aggs : List SeenAggregate) → lines ≡ words → read_aggregates abi n lines ≡ Some (aggs, rest) → env.abi ≡ abi → env.tags ≡ map tag_of aggs → env.members ≡ map seen_fields aggs →
    globals_read env n rest ≡ None → read_lines abi n words ≡ None
text_globals_fail env abi n words lines rest aggs told a model tags members g =
    ap (read_lines abi n) (sym told)
    ∙ ap (option_and_then (text_behind abi n)) a
    ∙ behind_seen env abi n rest aggs model tags members
    ∙ ap (option_map (with_aggregates aggs)) g

pub text_fails : (abi : Abi) (n : ℕ) (words lines : Lines) → lines ≡ words → read_aggregates abi n lines ≡ None → read_lines abi n words ≡ None
text_fails abi n words lines told a = ap (read_lines abi n) (sym told) ∙ ap (option_and_then (text_behind abi n)) a

-- aggregates stay while globals are read

pub aggregates_stay : (g h : Graph) (p q : List (List ℕ)) → AggregatesKnown g p → Grows g h → KeepsAggregates g h → KeepsNames p q → aggregates_in h q ≡ aggregates_in g p
unfolding aggregates_in
aggregates_stay g h p q k r same l = ap (λ (xs : List Aggregate). map (seen_aggregate (program_with h q)) xs) same.0 ∙ k.steady h q r l

pub blank : (s : Setting) → s.graph.aggs ≡ [] → s.known.tags ≡ [] → s.known.members.items ≡ [] → IsBlank s
blank s a t m = record { aggs = a; tags = t; members = m }
