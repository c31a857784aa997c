-- Device: steps of the reading of globals.
use Rattle.std.proofs.Common.{◌≡◌, ℕ, zero, suc, ◌+◌, ◌-◌, ◌<◌, ◌≤◌, Bool, true, false, not, ◌&&◌, ◌||◌, true≢false, if◌then◌else◌, cond, List, [], ◌∷◌, ◌++◌, length, length-drop, take, drop, map, get_or, Option, Some, None, refl, sym, ap, ◌∙◌, subst, append_assoc, append-nil, arith, lt-ltb, Vec, Result, Ok, Err, IfOk}
use Rattle.std.specs.Option.{option_map, option_and_then}
use Rattle.std.specs.Str.{bytes_eq}
use Rattle.std.specs.List.{list_any}
use Rattle.std.specs.Global.{Global}
use Rattle.std.proofs.lemmas.List.{take_all}
use Rattle.std.proofs.lemmas.List.Folds.{list_any-append}
use Rattle.std.proofs.lemmas.Slice.Eq.{bytes_eq-Decides}
use Rattle.cil_base.specs.declared.numbers.TypeId.{TypeId}
use Rattle.type_graph.specs.declared.nodes.Node.{Node}
use Rattle.type_graph.specs.Shapes.{Shape, shape}
use Rattle.type_graph.specs.Arena.{Graph}
use Rattle.type_graph.specs.Growth.{Grows}
use Rattle.type_graph.proofs.ShapeLaws.{kept}
use Rattle.type_graph.proofs.GrowthLaws.{grows_twice, grows_none}
use Rattle.cil_tree.specs.declared.globals.GlobalDecl.{GlobalDecl as SeenGlobal}
use Rattle.cil_tree.specs.declared.globals.GlobalDef.{GlobalDef}
use Rattle.cil_tree.specs.declared.globals.GlobalDef.TheVariants as def
use Rattle.cil_tree.specs.declared.globals.ImageItem.{ImageItem}
use Rattle.cil_tree.specs.Tree.{Local, Item, Definition, Declared, Zeros, Image, GlobalDecl}
use Rattle.cil_tree.specs.Typing.{same_shape, is_function}
use Rattle.cil_tree.specs.Names.{is_among, are_different, local_name_of}
use Rattle.cil_tree.specs.View.{type_at, definition_of, global_of}
use Rattle.cil_text.specs.TypesOf.{AddsParts}
use Rattle.cil_text.proofs.PartsAdded.{adds_none, adds_twice}
use Rattle.cil_text.specs.Words.{Word, Semicolon, ExternWord, StaticWord}
use Rattle.cil_text.specs.ReadTypes.{Reading, Bases, Named, read_decl}
use Rattle.cil_text.specs.ReadExps.{Env, bases}
use Rattle.cil_text.specs.ReadAggregates.{Lines, LinesReading}
use Rattle.cil_text.specs.ReadGlobals.{Declaration, declares, declared_with, only_function, declaration_from, declaration_first, read_declarations, without_static, own_name, is_called, object_defined, own_definition, image_end, defined_by, default_of, Definitions, definition_first, read_objects, declared_name, declared_local}
use Rattle.cil_reader.specs.declared.globals.Declaration.{Declaration as SeenDeclaration}
use Rattle.cil_scan.specs.declared.words.Word.{Word as Seen}
use Rattle.cil_reader.specs.declared.names.Names.{Names}
use Rattle.cil_scan.specs.Said.{all_said, all_lines}
use Rattle.cil_declarators.specs.declared.stop.Stop.{Stop}
use Rattle.cil_declarators.specs.declared.stop.Stop.TheVariants.{NotCil, WantOfMemory}
use Rattle.cil_declarators.specs.Gives.{Gives, Fails}
use Rattle.cil_reader.specs.Settings.{zipped, locals_of}
use Rattle.cil_forms.specs.Forms.{is_end}
use Rattle.cil_reader.specs.Pools.{KeepsNames}
use Rattle.cil_reader.specs.Globals.{EachDeclared, declaration_of, declarations_of, types_declared, declaration_behind, declarations_behind, named_apart, next_definition, behind_line, global_with, defined_line, global_from, one_global, globals_with, globals_behind, DefinitionFlat, IsGlobal, GlobalKnown, globals_of, GlobalsKnown, WaitingKnown, names_on, objects_left}
use Rattle.cil_declarators.specs.Fresh.{with_new}
use Rattle.cil_forms.specs.LineKinds.{storage, next_name}
use Rattle.cil_reader.specs.declared.globals.Waiting.{Waiting}
use denote.Ref.{Bor}
use Rattle.cil_declarators.proofs.LayersLaws.{no_fewer}
use Rattle.cil_reader.proofs.PoolLaws.{pool_same, pool_twice}
use Rattle.cil_reader.specs.Typed.{typed_as, typed}

or_true : (b : Bool) → b || true ≡ true
or_true true = refl
or_true false = refl

and_false : (b : Bool) → b && false ≡ false
and_false true = refl
and_false false = refl

or_first : (a b : Bool) → a || b ≡ false → a ≡ false
or_first true b e = absurd (true≢false e)
or_first false b e = refl

or_second : (a b : Bool) → a || b ≡ false → b ≡ false
or_second true b e = absurd (true≢false e)
or_second false b e = e

some_same : {A : Type 0} {x y : A} → Some x ≡ Some y → x ≡ y
some_same e = cc

-- types of declarations

pub no_declared : (n : ℕ) → EachDeclared n []
no_declared n = tt

declared_upto : (n m : ℕ) (ds : List SeenDeclaration) → n ≤ m → EachDeclared n ds → EachDeclared m ds
declared_upto n m [] h e = tt
declared_upto n m (d ∷ ds) h e = (omega (arith, e.0), declared_upto n m ds h e.1)

pub declared_later : (g h : Graph) (ds : List SeenDeclaration) → Grows g h → EachDeclared (length g.nodes) ds → EachDeclared (length h.nodes) ds
declared_later g h ds r e = declared_upto (length g.nodes) (length h.nodes) ds (no_fewer g h r) e

declared_pushed : (n : ℕ) (ds : List SeenDeclaration) (d : SeenDeclaration) → EachDeclared n ds → d.ty.0 < n → EachDeclared n (ds ++ d ∷ [])
declared_pushed n [] d e h = (h, tt)
declared_pushed n (x ∷ ds) d e h = (e.0, declared_pushed n ds d e.1 h)

pub declared_more : (g h : Graph) (ds : List SeenDeclaration) (d : SeenDeclaration) → Grows g h → EachDeclared (length g.nodes) ds → d.ty.0 < length h.nodes → EachDeclared (length h.nodes) (ds ++ d ∷ [])
declared_more g h ds d r e less = declared_pushed (length h.nodes) ds d (declared_later g h ds r e) less

pub declared_there : (n : ℕ) (ds : List SeenDeclaration) (i : ℕ) (d : SeenDeclaration) → EachDeclared n ds → i < length ds → (get_or ds i d).ty.0 < n
declared_there n [] i d e h = absurd (omega arith)
declared_there n (x ∷ ds) zero d e h = e.0
declared_there n (x ∷ ds) (suc i) d e h = declared_there n ds i d e.1 (omega arith)

pub declaration_kept : (g h : Graph) (d : SeenDeclaration) → Grows g h → d.ty.0 < length g.nodes → declaration_of h.nodes d ≡ declaration_of g.nodes d
declaration_kept g h d r less = ap (λ (s : Shape). record { name = d.name.now; type = s; internal = d.internal }) (kept g h d.ty.0 r less)

pub declarations_kept : (g h : Graph) (ds : List SeenDeclaration) → Grows g h → EachDeclared (length g.nodes) ds → declarations_of h.nodes ds ≡ declarations_of g.nodes ds
declarations_kept g h [] r e = refl
declarations_kept g h (d ∷ ds) r e = ap (λ (x : Declaration). x ∷ declarations_of h.nodes ds) (declaration_kept g h d r e.0) ∙ ap (λ (xs : List Declaration). declaration_of g.nodes d ∷ xs) (declarations_kept g h ds r e.1)

-- lines

abbrev ended_with : Bool → Named × List Word → Option Declaration
ended_with internal ((s, None), ws) = None
ended_with internal ((s, Some name), ws) = cond (is_end ws) (Some (record { name = name; type = s; internal = internal })) None

ended_is : (internal : Bool) (s : Shape) (n : Option (List ℕ)) (ws : List Word) → declared_with internal ((s, n), ws) ≡ ended_with internal ((s, n), ws)
ended_is internal s (Some name) (Semicolon ∷ []) = refl
ended_is internal s (Some name) (Semicolon ∷ w ∷ ws) = refl
ended_is internal s (Some name) _ = refl
ended_is internal s None _ = refl

pub declared_gives : (internal : Bool) (o : Reading Named) (s : Shape) (n : Option (List ℕ)) (name : List ℕ) (ws : List Word) → o ≡ Some ((s, n), ws) → is_end ws ≡ true → n ≡ Some name → option_and_then (declared_with internal) o ≡ Some (record { name = name; type = s; internal = internal })
declared_gives internal o s n name ws e end is =
    ap (option_and_then (declared_with internal)) e ∙ ended_is internal s n ws ∙ ap (λ m. ended_with internal ((s, m), ws)) is ∙ ap (λ b. cond b (Some (record { name = name; type = s; internal = internal })) None) end

never_named : (internal : Bool) (s : Shape) (n : Option (List ℕ)) (ws : List Word) → is_end ws ≡ false → ended_with internal ((s, n), ws) ≡ None
never_named internal s None ws end = refl
never_named internal s (Some name) ws end = ap (λ b. cond b (Some (record { name = name; type = s; internal = internal })) None) end

pub declared_open : (internal : Bool) (o : Reading Named) (s : Shape) (n : Option (List ℕ)) (ws : List Word) → o ≡ Some ((s, n), ws) → is_end ws ≡ false → option_and_then (declared_with internal) o ≡ None
declared_open internal o s n ws e end = ap (option_and_then (declared_with internal)) e ∙ ended_is internal s n ws ∙ never_named internal s n ws end

pub declared_nameless : (internal : Bool) (o : Reading Named) (s : Shape) (n : Option (List ℕ)) (ws : List Word) → o ≡ Some ((s, n), ws) → n ≡ None → option_and_then (declared_with internal) o ≡ None
declared_nameless internal o s n ws e is = ap (option_and_then (declared_with internal)) e ∙ ended_is internal s n ws ∙ ap (λ m. ended_with internal ((s, m), ws)) is

pub declared_fails : (internal : Bool) (o : Reading Named) → o ≡ None → option_and_then (declared_with internal) o ≡ None
declared_fails internal o e = ap (option_and_then (declared_with internal)) e

pub function_gives : (o : Option Declaration) (d : Declaration) → o ≡ Some d → is_function d.type ≡ true → option_and_then only_function o ≡ Some d
function_gives o d e f = ap (option_and_then only_function) e ∙ ap (λ b. cond b (Some d) None) f

pub function_not : (o : Option Declaration) (d : Declaration) → o ≡ Some d → is_function d.type ≡ false → option_and_then only_function o ≡ None
function_not o d e f = ap (option_and_then only_function) e ∙ ap (λ b. cond b (Some d) None) f

pub function_fails : (o : Option Declaration) → o ≡ None → option_and_then only_function o ≡ None
function_fails o e = ap (option_and_then only_function) e

abbrev stored_by : Bases → ℕ → List Word → Option (Bool × List Word) → Option Declaration
stored_by bases n ws (Some x) = option_and_then (declared_with x.0) (read_decl bases n x.1)
stored_by bases n ws None = option_and_then only_function (option_and_then (declared_with false) (read_decl bases n ws))

storage_is : (bases : Bases) (n : ℕ) (ws : List Word) → declaration_from bases n ws ≡ stored_by bases n ws (storage ws)
storage_is bases n (ExternWord ∷ ws) = refl
storage_is bases n (StaticWord ∷ ws) = refl
storage_is bases n _ = refl

pub stored_next : (bases : Bases) (n : ℕ) (b : Bool) (ws vs : List Word) → Some (b, vs) ≡ storage ws → declaration_from bases n ws ≡ option_and_then (declared_with b) (read_decl bases n vs)
stored_next bases n b ws vs e = storage_is bases n ws ∙ ap (stored_by bases n ws) (sym e)

pub alone_next : (bases : Bases) (n : ℕ) (ws : List Word) → None ≡ storage ws → declaration_from bases n ws ≡ option_and_then only_function (option_and_then (declared_with false) (read_decl bases n ws))
alone_next bases n ws e = storage_is bases n ws ∙ ap (stored_by bases n ws) (sym e)

-- declarations

declarations_more : (nodes : List Node) (ds : List SeenDeclaration) (d : SeenDeclaration) → declarations_of nodes (ds ++ d ∷ []) ≡ declarations_of nodes ds ++ declaration_of nodes d ∷ []
declarations_more nodes [] d = refl
declarations_more nodes (x ∷ ds) d = ap (λ ys. declaration_of nodes x ∷ ys) (declarations_more nodes ds d)

abbrev declarations_from : Bases → ℕ → Lines → Option Declaration → LinesReading (List Declaration)
declarations_from bases n lines o = option_and_then (λ (d : Declaration). option_map (declaration_first d) (read_declarations bases n lines)) o

declarations_is : (bases : Bases) (n : ℕ) (line : List Word) (lines : Lines) (b : Bool) → declares line ≡ b → read_declarations bases n (line ∷ lines) ≡ cond b (declarations_from bases n lines (declaration_from bases n line)) (Some ([], line ∷ lines))
declarations_is bases n line lines b e = ap (λ v. cond v (declarations_from bases n lines (declaration_from bases n line)) (Some ([], line ∷ lines))) e

all_behind : (o : LinesReading (List Declaration)) → option_map (declarations_behind []) o ≡ o
all_behind None = refl
all_behind (Some r) = refl

pub declarations_start : (nodes : List Node) (ds : List SeenDeclaration) (o : LinesReading (List Declaration)) → ds ≡ [] → option_map (declarations_behind (declarations_of nodes ds)) o ≡ o
declarations_start nodes ds o e = ap (λ ys. option_map (declarations_behind (declarations_of nodes ys)) o) e ∙ all_behind o

past : {A : Type 0} (xs : List A) (i : ℕ) → length xs ≤ i → drop i xs ≡ []
past [] zero h = refl
past [] (suc i) h = refl
past (x ∷ xs) zero h = absurd (omega arith)
past (x ∷ xs) (suc i) h = past xs i (omega arith)

tail_of : {A : Type 0} (xs : List A) (at : ℕ) → take (length xs - at) (drop at xs) ≡ drop at xs
tail_of xs at = take_all (length xs - at) (drop at xs) (omega (arith, length-drop at xs))

lines_from : (lines : List (Vec Seen Global)) (i : ℕ) (d : Vec Seen Global) → i < length lines → all_lines (drop i lines) ≡ all_said (get_or lines i d).items ∷ all_lines (drop (suc i) lines)
lines_from [] i d h = absurd (omega arith)
lines_from (line ∷ lines) zero d h = refl
lines_from (line ∷ lines) (suc i) d h = lines_from lines i d (omega arith)

lines_at : (lines : List (Vec Seen Global)) (i : ℕ) (d : Vec Seen Global) → i < length lines → all_lines (drop i lines) ≡ all_said (get_or lines i d).items ∷ all_lines (drop (i + 1) lines)
lines_at lines i d h = let e : suc i ≡ i + 1 = omega arith in lines_from lines i d h ∙ ap (λ j. all_said (get_or lines i d).items ∷ all_lines (drop j lines)) e

pub declarations_end : (bases : Bases) (n : ℕ) (ds : List Declaration) (lines : List (Vec Seen Global)) (i : ℕ) (whole : LinesReading (List Declaration)) → length lines ≤ i → option_map (declarations_behind ds) (read_declarations bases n (all_lines (drop i lines))) ≡ whole →
    whole ≡ Some (ds, all_lines (take (length lines - length lines) (drop (length lines) lines)))
declarations_end bases n ds lines i whole h inv =
    sym inv
    ∙ ap (λ ls. option_map (declarations_behind ds) (read_declarations bases n (all_lines ls))) (past lines i h)
    ∙ ap (λ (xs : List Declaration). Some (xs, [])) (append-nil ds)
    ∙ ap (λ (ls : List (Vec Seen Global)). Some (ds, all_lines ls)) (sym (tail_of lines (length lines) ∙ past lines (length lines) (omega arith)))

pub declarations_stop : (bases : Bases) (n : ℕ) (ds : List Declaration) (lines : List (Vec Seen Global)) (i : ℕ) (d : Vec Seen Global) (whole : LinesReading (List Declaration)) → i < length lines → declares (all_said (get_or lines i d).items) ≡ false →
    option_map (declarations_behind ds) (read_declarations bases n (all_lines (drop i lines))) ≡ whole → whole ≡ Some (ds, all_lines (take (length lines - i) (drop i lines)))
declarations_stop bases n ds lines i d whole less e inv =
    let line = all_said (get_or lines i d).items in
    let rest = all_lines (drop (i + 1) lines) in
    sym inv
    ∙ ap (option_map (declarations_behind ds)) (ap (read_declarations bases n) (lines_at lines i d less) ∙ declarations_is bases n line rest false e)
    ∙ ap (λ (xs : List Declaration). Some (xs, line ∷ rest)) (append-nil ds)
    ∙ ap (λ (ls : Lines). Some (ds, ls)) (sym (ap all_lines (tail_of lines i) ∙ lines_at lines i d less))

abbrev declarations_on : Bases → ℕ → Lines → List Declaration → LinesReading (List Declaration)
declarations_on bases n lines es = option_map (declarations_behind es) (read_declarations bases n lines)

declarations_by : (bases : Bases) (n : ℕ) (ds : List Declaration) (line : List Word) (lines : Lines) → declares line ≡ true →
    option_map (declarations_behind ds) (read_declarations bases n (line ∷ lines)) ≡ option_and_then (declarations_on bases n lines) (option_map (declaration_behind ds) (declaration_from bases n line))
declarations_by bases n ds line lines e = ap (option_map (declarations_behind ds)) (declarations_is bases n line lines true e) ∙ by (declaration_from bases n line)
  where
    one : (d : Declaration) (o : LinesReading (List Declaration)) → option_map (declarations_behind ds) (option_map (declaration_first d) o) ≡ option_map (declarations_behind (ds ++ d ∷ [])) o
    one d None = refl
    one d (Some r) = ap (λ (ys : List Declaration). Some (ys, r.1)) (sym (append_assoc ds (d ∷ []) r.0))

    by : (o : Option Declaration) → option_map (declarations_behind ds) (declarations_from bases n lines o) ≡ option_and_then (declarations_on bases n lines) (option_map (declaration_behind ds) o)
    by None = refl
    by (Some d) = one d (read_declarations bases n lines)

declarations_at : (bases : Bases) (n : ℕ) (ds : List Declaration) (lines : List (Vec Seen Global)) (i : ℕ) (d : Vec Seen Global) → i < length lines → declares (all_said (get_or lines i d).items) ≡ true →
    option_map (declarations_behind ds) (read_declarations bases n (all_lines (drop i lines))) ≡ option_and_then (declarations_on bases n (all_lines (drop (i + 1) lines))) (option_map (declaration_behind ds) (declaration_from bases n (all_said (get_or lines i d).items)))
declarations_at bases n ds lines i d less e =
    ap (λ ls. option_map (declarations_behind ds) (read_declarations bases n ls)) (lines_at lines i d less) ∙ declarations_by bases n ds (all_said (get_or lines i d).items) (all_lines (drop (i + 1) lines)) e

pub declarations_fail : (env now : Env) (n : ℕ) (ds : List Declaration) (lines : List (Vec Seen Global)) (i : ℕ) (d : Vec Seen Global) (whole : LinesReading (List Declaration)) → i < length lines → now ≡ env → option_map (declaration_behind ds) (declaration_from (bases now) n (all_said (get_or lines i d).items)) ≡ None →
    declares (all_said (get_or lines i d).items) ≡ true → option_map (declarations_behind ds) (read_declarations (bases env) n (all_lines (drop i lines))) ≡ whole → whole ≡ None
declarations_fail env now n ds lines i d whole less same told e inv =
    sym inv ∙ declarations_at (bases env) n ds lines i d less e
    ∙ ap (option_and_then (declarations_on (bases env) n (all_lines (drop (i + 1) lines)))) (ap (λ v. option_map (declaration_behind ds) (declaration_from (bases v) n (all_said (get_or lines i d).items))) (sym same) ∙ told)

pub declarations_next : (env now : Env) (n : ℕ) (ds es : List Declaration) (lines : List (Vec Seen Global)) (i : ℕ) (d : Vec Seen Global) (whole : LinesReading (List Declaration)) → i < length lines → now ≡ env → option_map (declaration_behind ds) (declaration_from (bases now) n (all_said (get_or lines i d).items)) ≡ Some es →
    declares (all_said (get_or lines i d).items) ≡ true → option_map (declarations_behind ds) (read_declarations (bases env) n (all_lines (drop i lines))) ≡ whole → option_map (declarations_behind es) (read_declarations (bases env) n (all_lines (drop (i + 1) lines))) ≡ whole
declarations_next env now n ds es lines i d whole less same told e inv =
    sym (declarations_at (bases env) n ds lines i d less e
    ∙ ap (option_and_then (declarations_on (bases env) n (all_lines (drop (i + 1) lines)))) (ap (λ v. option_map (declaration_behind ds) (declaration_from (bases v) n (all_said (get_or lines i d).items))) (sym same) ∙ told))
    ∙ inv

-- one declaration more

pub with_gives : (g h : Graph) (ds : List SeenDeclaration) (d : SeenDeclaration) (o : Option Declaration) → o ≡ Some (declaration_of h.nodes d) → Grows g h → EachDeclared (length g.nodes) ds → option_map (declaration_behind (declarations_of g.nodes ds)) o ≡ Some (declarations_of h.nodes (ds ++ d ∷ []))
with_gives g h ds d o e r each =
    ap (option_map (declaration_behind (declarations_of g.nodes ds))) e
    ∙ ap (λ (xs : List Declaration). Some (xs ++ declaration_of h.nodes d ∷ [])) (sym (declarations_kept g h ds r each))
    ∙ ap Some (sym (declarations_more h.nodes ds d))

pub with_fails : (ds : List Declaration) (o : Option Declaration) → o ≡ None → option_map (declaration_behind ds) o ≡ None
with_fails ds o e = ap (option_map (declaration_behind ds)) e

-- types that declarations add

pub no_added : (g : Graph) (ds : List SeenDeclaration) → AddsParts g g (types_declared g.nodes ds)
no_added g ds = adds_none g (types_declared g.nodes ds)

types_more : (g h : Graph) (ds : List SeenDeclaration) (d : SeenDeclaration) → Grows g h → EachDeclared (length g.nodes) ds → types_declared h.nodes (ds ++ d ∷ []) ≡ types_declared g.nodes ds ++ shape h.nodes d.ty.0 ∷ []
types_more g h [] d r each = refl
types_more g h (x ∷ ds) d r each = ap (λ (s : Shape). s ∷ types_declared h.nodes (ds ++ d ∷ [])) (kept g h x.ty.0 r each.0) ∙ ap (λ ss. shape g.nodes x.ty.0 ∷ ss) (types_more g h ds d r each.1)

pub declared_added : (f g h : Graph) (ds : List SeenDeclaration) (d : SeenDeclaration) → Grows g h → EachDeclared (length g.nodes) ds → AddsParts f g (types_declared g.nodes ds) → AddsParts g h (shape h.nodes d.ty.0 ∷ []) → AddsParts f h (types_declared h.nodes (ds ++ d ∷ []))
declared_added f g h ds d r each first second = subst (AddsParts f h) (sym (types_more g h ds d r each)) (adds_twice f g h (types_declared g.nodes ds) (shape h.nodes d.ty.0 ∷ []) r first second)

-- names of globals

bytes_same : (a b : List ℕ) → bytes_eq a b ≡ true → bytes_eq b a ≡ true
bytes_same a b e = (bytes_eq-Decides b a).1 (sym ((bytes_eq-Decides a b).0 e))

found_behind : (p : List ℕ → Bool) (xs : List (List ℕ)) (t : List ℕ) (ys : List (List ℕ)) → p t ≡ true → list_any p (xs ++ t ∷ ys) ≡ true
found_behind p [] t ys e = ap (λ b. b || list_any p ys) e
found_behind p (x ∷ xs) t ys e = ap (λ b. p x || b) (found_behind p xs t ys e) ∙ or_true (p x)

twice_by : (x : List ℕ) (done : List (List ℕ)) (t : List ℕ) (ts : List (List ℕ)) → (is_among done t ≡ true → are_different (done ++ t ∷ ts) ≡ false) → is_among (x ∷ done) t ≡ true → are_different (x ∷ (done ++ t ∷ ts)) ≡ false
twice_by x done t ts more e = by (bytes_eq t x) refl
  where
    by : (b : Bool) → bytes_eq t x ≡ b → are_different (x ∷ (done ++ t ∷ ts)) ≡ false
    by true same = ap (λ b. not b && are_different (done ++ t ∷ ts)) (found_behind (bytes_eq x) done t ts (bytes_same t x same))
    by false other = ap (λ b. not (is_among (done ++ t ∷ ts) x) && b) (more (sym (ap (λ b. b || is_among done t) other) ∙ e)) ∙ and_false (not (is_among (done ++ t ∷ ts) x))

-- a text that stands twice
twice : (done : List (List ℕ)) (t : List ℕ) (ts : List (List ℕ)) → is_among done t ≡ true → are_different (done ++ t ∷ ts) ≡ false
twice [] t ts e = absurd (cc e)
twice (x ∷ done) t ts e = twice_by x done t ts (twice done t ts) e

once_by : (x : List ℕ) (done : List (List ℕ)) (t : List ℕ) → (are_different done ≡ true → is_among done t ≡ false → are_different (done ++ t ∷ []) ≡ true) → are_different (x ∷ done) ≡ true → is_among (x ∷ done) t ≡ false → are_different (x ∷ (done ++ t ∷ [])) ≡ true
once_by x done t more e h = by (bytes_eq x t) refl (is_among done x) refl (are_different done) refl
  where
    others : is_among done t ≡ false
    others = or_second (bytes_eq t x) (is_among done t) h

    apart : bytes_eq t x ≡ false
    apart = or_first (bytes_eq t x) (is_among done t) h

    by : (b : Bool) → bytes_eq x t ≡ b → (c : Bool) → is_among done x ≡ c → (d : Bool) → are_different done ≡ d → are_different (x ∷ (done ++ t ∷ [])) ≡ true
    by true p c q d r = absurd (true≢false (sym (bytes_same x t p) ∙ apart))
    by false p true q d r = absurd (true≢false (sym e ∙ ap (λ b. not b && are_different done) q))
    by false p false q false r = absurd (true≢false (sym e ∙ ap (λ b. not b && are_different done) q ∙ r))
    by false p false q true r =
        ap (λ b. not b && are_different (done ++ t ∷ [])) (list_any-append (bytes_eq x) done (t ∷ []) ∙ ap (λ b. b || (bytes_eq x t || false)) q ∙ ap (λ b. b || false) p)
        ∙ more r others

-- one text more that is none of them
once : (done : List (List ℕ)) (t : List ℕ) → are_different done ≡ true → is_among done t ≡ false → are_different (done ++ t ∷ []) ≡ true
once [] t e h = refl
once (x ∷ done) t e h = once_by x done t (once done t) e h

abbrev apart_on : List (List ℕ) → List (List ℕ) → Bool
apart_on done [] = true
apart_on done (t ∷ ts) = if is_among done t then false else apart_on (done ++ t ∷ []) ts

apart_next : (done : List (List ℕ)) (t : List ℕ) (ts : List (List ℕ)) → (is_among done t ≡ false → are_different ((done ++ t ∷ []) ++ ts) ≡ apart_on (done ++ t ∷ []) ts) → are_different (done ++ t ∷ ts) ≡ apart_on done (t ∷ ts)
apart_next done t ts more = by (is_among done t) refl
  where
    by : (b : Bool) → is_among done t ≡ b → are_different (done ++ t ∷ ts) ≡ apart_on done (t ∷ ts)
    by true h = twice done t ts h ∙ sym (ap (λ b. cond b false (apart_on (done ++ t ∷ []) ts)) h)
    by false h = ap are_different (sym (append_assoc done (t ∷ []) ts)) ∙ more h ∙ sym (ap (λ b. cond b false (apart_on (done ++ t ∷ []) ts)) h)

apart_by : (done ts : List (List ℕ)) → are_different done ≡ true → are_different (done ++ ts) ≡ apart_on done ts
apart_by done [] e = ap are_different (append-nil done) ∙ e
apart_by done (t ∷ ts) e = apart_next done t ts (λ h. apart_by (done ++ t ∷ []) ts (once done t e h))

local_names_more : (xs : List Local) (x : Local) → map local_name_of (xs ++ x ∷ []) ≡ map local_name_of xs ++ local_name_of x ∷ []
local_names_more [] x = refl
local_names_more (y ∷ xs) x = ap (λ zs. local_name_of y ∷ zs) (local_names_more xs x)

abbrev if_apart : Bool → List Local → Option (List Local)
if_apart b xs = cond b (Some xs) None

on_next : (done : List Local) (d : Declaration) (ds : List Declaration) → names_on (done ++ declared_local d ∷ []) ds ≡ if_apart (apart_on (map local_name_of (done ++ declared_local d ∷ [])) (map declared_name ds)) ((done ++ declared_local d ∷ []) ++ map declared_local ds) →
    names_on done (d ∷ ds) ≡ if_apart (apart_on (map local_name_of done) (map declared_name (d ∷ ds))) (done ++ map declared_local (d ∷ ds))
on_next done d ds e = by (is_among (map local_name_of done) d.name)
  where
    more : names_on (done ++ declared_local d ∷ []) ds ≡ if_apart (apart_on (map local_name_of done ++ d.name ∷ []) (map declared_name ds)) (done ++ declared_local d ∷ map declared_local ds)
    more =
        e
        ∙ ap (λ ns. if_apart (apart_on ns (map declared_name ds)) ((done ++ declared_local d ∷ []) ++ map declared_local ds)) (local_names_more done (declared_local d))
        ∙ ap (if_apart (apart_on (map local_name_of done ++ d.name ∷ []) (map declared_name ds))) (append_assoc done (declared_local d ∷ []) (map declared_local ds))

    by : (b : Bool) → cond {A = Option (List Local)} b None (names_on (done ++ declared_local d ∷ []) ds)
        ≡ if_apart (cond {A = Bool} b false (apart_on (map local_name_of done ++ d.name ∷ []) (map declared_name ds))) (done ++ declared_local d ∷ map declared_local ds)
    by true = refl
    by false = more

on_by : (done : List Local) (ds : List Declaration) → names_on done ds ≡ if_apart (apart_on (map local_name_of done) (map declared_name ds)) (done ++ map declared_local ds)
on_by done [] = ap Some (sym (append-nil done))
on_by done (d ∷ ds) = on_next done d ds (on_by (done ++ declared_local d ∷ []) ds)

named_is : (ds : List Declaration) → names_on [] ds ≡ named_apart ds
named_is ds = on_by [] ds ∙ ap (λ b. if_apart b (map declared_local ds)) (sym (apart_by [] (map declared_name ds) refl))

zipped_more : (nodes : List Node) (ns : List (List ℕ)) (ts : List TypeId) (name : List ℕ) (t : TypeId) → length ns ≡ length ts → zipped nodes (ns ++ name ∷ []) (ts ++ t ∷ []) ≡ zipped nodes ns ts ++ record { name = name; type = Some (shape nodes t.0) } ∷ []
zipped_more nodes [] [] name t e = refl
zipped_more nodes [] (u ∷ ts) name t e = absurd (omega (arith, e))
zipped_more nodes (n ∷ ns) [] name t e = absurd (omega (arith, e))
zipped_more nodes (n ∷ ns) (u ∷ ts) name t e = ap (λ (xs : List Local). record { name = n; type = Some (shape nodes u.0) } ∷ xs) (zipped_more nodes ns ts name t (omega (arith, e)))

zipped_names : (nodes : List Node) (ns : List (List ℕ)) (ts : List TypeId) → length ns ≡ length ts → map local_name_of (zipped nodes ns ts) ≡ ns
zipped_names nodes [] ts e = refl
zipped_names nodes (n ∷ ns) [] e = absurd (omega (arith, e))
zipped_names nodes (n ∷ ns) (t ∷ ts) e = ap (λ xs. n ∷ xs) (zipped_names nodes ns ts (omega (arith, e)))

pub names_start : (nodes : List Node) (x : Names) (ds : List SeenDeclaration) → x.numbering ≡ [] → names_on (locals_of nodes x) (declarations_of nodes ds) ≡ named_apart (declarations_of nodes ds)
names_start nodes x ds e = ap (λ ns. names_on (zipped nodes ns x.types.items) (declarations_of nodes ds)) e ∙ named_is (declarations_of nodes ds)

declared_from : (nodes : List Node) (ds : List SeenDeclaration) (i : ℕ) (d : SeenDeclaration) → i < length ds → declarations_of nodes (drop i ds) ≡ declaration_of nodes (get_or ds i d) ∷ declarations_of nodes (drop (suc i) ds)
declared_from nodes [] i d h = absurd (omega arith)
declared_from nodes (x ∷ ds) zero d h = refl
declared_from nodes (x ∷ ds) (suc i) d h = declared_from nodes ds i d (omega arith)

declared_at : (nodes : List Node) (ds : List SeenDeclaration) (i : ℕ) (d : SeenDeclaration) → i < length ds → declarations_of nodes (drop i ds) ≡ declaration_of nodes (get_or ds i d) ∷ declarations_of nodes (drop (i + 1) ds)
declared_at nodes ds i d h = let e : suc i ≡ i + 1 = omega arith in declared_from nodes ds i d h ∙ ap (λ j. declaration_of nodes (get_or ds i d) ∷ declarations_of nodes (drop j ds)) e

names_by : (nodes : List Node) (x : Names) (ds : List SeenDeclaration) (i : ℕ) (d : SeenDeclaration) → length x.numbering ≡ length x.types.items → i < length ds →
    names_on (locals_of nodes x) (declarations_of nodes (drop i ds)) ≡ cond (is_among x.numbering (get_or ds i d).name.now) None (names_on (locals_of nodes x ++ declared_local (declaration_of nodes (get_or ds i d)) ∷ []) (declarations_of nodes (drop (i + 1) ds)))
names_by nodes x ds i d paired less =
    ap (names_on (locals_of nodes x)) (declared_at nodes ds i d less)
    ∙ ap (λ ns. cond {A = Option (List Local)} (is_among ns (get_or ds i d).name.now) None (names_on (locals_of nodes x ++ declared_local (declaration_of nodes (get_or ds i d)) ∷ []) (declarations_of nodes (drop (i + 1) ds))))
    (zipped_names nodes x.numbering x.types.items paired)

is_behind : (texts more : List (List ℕ)) (text : List ℕ) → with_new texts text ≡ Some more → (is_among texts text ≡ false) × (more ≡ texts ++ text ∷ [])
is_behind texts more text e = by (is_among texts text) refl e
  where
    by : (b : Bool) → is_among texts text ≡ b → cond b None (Some (texts ++ text ∷ [])) ≡ Some more → (is_among texts text ≡ false) × (more ≡ texts ++ text ∷ [])
    by true h f = absurd (cc f)
    by false h f = (h, cc)

not_behind : (texts : List (List ℕ)) (text : List ℕ) → with_new texts text ≡ None → is_among texts text ≡ true
not_behind texts text e = by (is_among texts text) refl e
  where
    by : (b : Bool) → is_among texts text ≡ b → cond b None (Some (texts ++ text ∷ [])) ≡ None → is_among texts text ≡ true
    by true h f = h
    by false h f = absurd (cc f)

pub names_next : (nodes : List Node) (x y : Names) (ds : List SeenDeclaration) (i : ℕ) (d : SeenDeclaration) (whole : Option (List Local)) → length x.numbering ≡ length x.types.items → i < length ds →
    with_new x.numbering (get_or ds i d).name.now ≡ Some y.numbering → y.types.items ≡ x.types.items ++ (get_or ds i d).ty ∷ [] →
    names_on (locals_of nodes x) (declarations_of nodes (drop i ds)) ≡ whole → names_on (locals_of nodes y) (declarations_of nodes (drop (i + 1) ds)) ≡ whole
names_next nodes x y ds i d whole paired less e f inv =
    let facts = is_behind x.numbering y.numbering (get_or ds i d).name.now e in
    ap (λ ns. names_on (zipped nodes ns y.types.items) (declarations_of nodes (drop (i + 1) ds))) facts.1
    ∙ ap (λ ts. names_on (zipped nodes (x.numbering ++ (get_or ds i d).name.now ∷ []) ts) (declarations_of nodes (drop (i + 1) ds))) f
    ∙ ap (λ ls. names_on ls (declarations_of nodes (drop (i + 1) ds))) (zipped_more nodes x.numbering x.types.items (get_or ds i d).name.now (get_or ds i d).ty paired)
    ∙ sym (names_by nodes x ds i d paired less ∙ ap (λ b. cond b None (names_on (locals_of nodes x ++ declared_local (declaration_of nodes (get_or ds i d)) ∷ []) (declarations_of nodes (drop (i + 1) ds)))) facts.0)
    ∙ inv

pub names_alike : (nodes : List Node) (x : Names) (ds : List SeenDeclaration) (i : ℕ) (d : SeenDeclaration) (whole : Option (List Local)) → length x.numbering ≡ length x.types.items → i < length ds →
    with_new x.numbering (get_or ds i d).name.now ≡ None → names_on (locals_of nodes x) (declarations_of nodes (drop i ds)) ≡ whole → whole ≡ None
names_alike nodes x ds i d whole paired less e inv =
    sym inv ∙ names_by nodes x ds i d paired less
    ∙ ap (λ b. cond b None (names_on (locals_of nodes x ++ declared_local (declaration_of nodes (get_or ds i d)) ∷ []) (declarations_of nodes (drop (i + 1) ds)))) (not_behind x.numbering (get_or ds i d).name.now e)

pub names_end : (nodes : List Node) (x : Names) (ds : List SeenDeclaration) (i : ℕ) (whole : Option (List Local)) → length ds ≤ i → names_on (locals_of nodes x) (declarations_of nodes (drop i ds)) ≡ whole → whole ≡ Some (locals_of nodes x)
names_end nodes x ds i whole h inv = sym inv ∙ ap (λ es. names_on (locals_of nodes x) (declarations_of nodes es)) (past ds i h)

-- lines of objects

-- an object by its own line

own_is : (env : Env) (n : ℕ) (d : Declaration) (ws : List Word) → own_definition env n d ws ≡ option_and_then (defined_by env n d.type) (typed (bases env) n d.type (without_static ws))
own_is env n d ws = by (read_decl (bases env) n (without_static ws))
  where
    called : (b : Bool) (vs : List Word) → cond {A = Option Definition} b (defined_by env n d.type vs) None ≡ option_and_then (defined_by env n d.type) (cond b (Some vs) None)
    called true vs = refl
    called false vs = refl

    by : (o : Reading Named) → option_and_then (object_defined env n d) o ≡ option_and_then (defined_by env n d.type) (option_and_then (typed_as d.type) o)
    by None = refl
    by (Some r) = called (same_shape r.0.0 d.type) r.1

pub own_gives : (g h : Graph) (env : Env) (n : ℕ) (d : SeenDeclaration) (ws vs : List Word) → Grows g h → d.ty.0 < length g.nodes → typed (bases env) n (shape g.nodes d.ty.0) (without_static ws) ≡ Some vs →
    own_definition env n (declaration_of g.nodes d) ws ≡ defined_by env n (shape h.nodes d.ty.0) vs
own_gives g h env n d ws vs grows low e =
    own_is env n (declaration_of g.nodes d) ws
    ∙ ap (option_and_then (defined_by env n (shape g.nodes d.ty.0))) e
    ∙ ap (λ s. defined_by env n s vs) (sym (kept g h d.ty.0 grows low))

pub own_fails : (env : Env) (n : ℕ) (d : Declaration) (ws : List Word) → typed (bases env) n d.type (without_static ws) ≡ None → own_definition env n d ws ≡ None
own_fails env n d ws e = own_is env n d ws ∙ ap (option_and_then (defined_by env n d.type)) e

image_by : (items : List Item) (ws : List Word) → image_end (items, ws) ≡ cond (is_end ws) (Some (Image items)) None
image_by items (Semicolon ∷ []) = refl
image_by items (Semicolon ∷ w ∷ ws) = refl
image_by items _ = refl

pub image_gives : (o : Reading (List Item)) (items : List Item) (ws : List Word) → o ≡ Some (items, ws) → is_end ws ≡ true → option_and_then image_end o ≡ Some (Image items)
image_gives o items ws e end = ap (option_and_then image_end) e ∙ image_by items ws ∙ ap (λ b. cond b (Some (Image items)) None) end

pub image_open : (o : Reading (List Item)) (items : List Item) (ws : List Word) → o ≡ Some (items, ws) → is_end ws ≡ false → option_and_then image_end o ≡ None
image_open o items ws e end = ap (option_and_then image_end) e ∙ image_by items ws ∙ ap (λ b. cond b (Some (Image items)) None) end

pub image_fails : (o : Reading (List Item)) → o ≡ None → option_and_then image_end o ≡ None
image_fails o e = ap (option_and_then image_end) e

pub flat_image : (v : Vec ImageItem Global) → DefinitionFlat (def.Image v)
flat_image v = record { steady = λ nodes names. refl }

pub flat_zero : DefinitionFlat def.Zero
flat_zero = record { steady = λ nodes names. refl }

pub flat_declared : DefinitionFlat def.Declared
flat_declared = record { steady = λ nodes names. refl }

pub default_function : (d : Declaration) → is_function d.type ≡ true → Declared ≡ default_of d
default_function d e = sym (ap (λ b. cond b Declared (cond d.internal Zeros Declared)) e)

pub default_external : (d : Declaration) → d.internal ≡ false → Declared ≡ default_of d
default_external d e = sym (ap (λ b. cond (is_function d.type) Declared (cond b Zeros Declared)) e ∙ by (is_function d.type))
  where
    by : (b : Bool) → cond {A = Definition} b Declared Declared ≡ Declared
    by true = refl
    by false = refl

pub default_internal : (d : Declaration) → is_function d.type ≡ false → d.internal ≡ true → Zeros ≡ default_of d
default_internal d e f = sym (ap (λ b. cond b Declared (cond d.internal Zeros Declared)) e ∙ ap (λ b. cond b Zeros Declared) f)

-- globals

type_there : (nodes : List Node) (t : TypeId) → t.0 < length nodes → type_at nodes t ≡ Some (shape nodes t.0)
type_there nodes t less = ap (λ v. cond v (Some (shape nodes t.0)) None) (lt-ltb t.0 (length nodes) less)

global_at : (g h : Graph) (p later : List (List ℕ)) (d : SeenDeclaration) (x : GlobalDef) (y : SeenGlobal) → IsGlobal p d x y → DefinitionFlat x → d.ty.0 < length g.nodes → Grows g h → KeepsNames p later →
    global_of h.nodes later y ≡ global_with (declaration_of g.nodes d) (definition_of [] [] x)
global_at g h p later d x y is flat less r q =
    let low : d.ty.0 < length h.nodes = omega (arith, less, no_fewer g h r) in
    ap (λ (n : List ℕ). record { name = n; type = type_at h.nodes y.ty; internal = y.internal; definition = definition_of h.nodes later y.def }) (is.name later q)
    ∙ ap (λ (t : TypeId). record { name = d.name.now; type = type_at h.nodes t; internal = y.internal; definition = definition_of h.nodes later y.def }) is.type
    ∙ ap (λ (s : Option Shape). record { name = d.name.now; type = s; internal = y.internal; definition = definition_of h.nodes later y.def }) (type_there h.nodes d.ty low ∙ ap Some (kept g h d.ty.0 r less))
    ∙ ap (λ (b : Bool). record { name = d.name.now; type = Some (shape g.nodes d.ty.0); internal = b; definition = definition_of h.nodes later y.def }) is.internal
    ∙ ap (λ (v : Definition). record { name = d.name.now; type = Some (shape g.nodes d.ty.0); internal = d.internal; definition = v }) (ap (definition_of h.nodes later) is.definition ∙ flat.steady h.nodes later)

pub global_seen : (g : Graph) (p : List (List ℕ)) (d : SeenDeclaration) (x : GlobalDef) (y : SeenGlobal) → IsGlobal p d x y → DefinitionFlat x → d.ty.0 < length g.nodes → global_of g.nodes p y ≡ global_with (declaration_of g.nodes d) (definition_of [] [] x)
global_seen g p d x y is flat less = global_at g g p p d x y is flat less (grows_none g) (pool_same p)

pub global_known : (g : Graph) (p : List (List ℕ)) (d : SeenDeclaration) (x : GlobalDef) (y : SeenGlobal) → IsGlobal p d x y → DefinitionFlat x → d.ty.0 < length g.nodes → GlobalKnown g p y
global_known g p d x y is flat less = record { steady = λ h later r q. global_at g h p later d x y is flat less r q ∙ sym (global_seen g p d x y is flat less) }

pub plain_gives : (g : Graph) (p : List (List ℕ)) (d : SeenDeclaration) (x : GlobalDef) (v : Definition) (r : Result SeenGlobal Stop) → Gives (λ (y : SeenGlobal). y.ty) r (Some d.ty) → IfOk r (IsGlobal p d x) → DefinitionFlat x → definition_of [] [] x ≡ v → d.ty.0 < length g.nodes →
    Gives (λ (y : SeenGlobal). global_of g.nodes p y) r (Some (global_with (declaration_of g.nodes d) v))
plain_gives g p d x v (Ok y) gives is flat same less = ap Some (sym (global_seen g p d x y is flat less ∙ ap (global_with (declaration_of g.nodes d)) same))
plain_gives g p d x v (Err NotCil) gives is flat same less = absurd (cc gives)
plain_gives g p d x v (Err WantOfMemory) gives is flat same less = tt

pub plain_known : (g : Graph) (p : List (List ℕ)) (d : SeenDeclaration) (x : GlobalDef) (r : Result SeenGlobal Stop) → IfOk r (IsGlobal p d x) → DefinitionFlat x → d.ty.0 < length g.nodes → IfOk r (GlobalKnown g p)
plain_known g p d x (Ok y) is flat less = global_known g p d x y is flat less
plain_known g p d x (Err e) is flat less = tt

pub defined_seen : (g h : Graph) (p : List (List ℕ)) (d : SeenDeclaration) (x : GlobalDef) (y : SeenGlobal) (o : Option Definition) → IsGlobal p d x y → DefinitionFlat x → o ≡ Some (definition_of [] [] x) → Grows g h → d.ty.0 < length g.nodes →
    option_map (global_with (declaration_of g.nodes d)) o ≡ Some (global_of h.nodes p y)
defined_seen g h p d x y o is flat same grows less =
    ap (option_map (global_with (declaration_of g.nodes d))) same ∙ ap Some (sym (global_at g h p p d x y is flat less grows (pool_same p)))

pub defined_known : (g h : Graph) (p : List (List ℕ)) (d : SeenDeclaration) (x : GlobalDef) (y : SeenGlobal) → IsGlobal p d x y → DefinitionFlat x → Grows g h → d.ty.0 < length g.nodes → GlobalKnown h p y
defined_known g h p d x y is flat grows less = global_known h p d x y is flat (omega (arith, less, no_fewer g h grows))

pub own_seen : (g : Graph) (p : List (List ℕ)) (d : Declaration) (y : SeenGlobal) (o : Option Definition) (lines behind : Lines) → option_map (global_with d) o ≡ Some (global_of g.nodes p y) → behind ≡ behind_line lines →
    option_map (defined_line d lines) o ≡ Some (global_of g.nodes p y, behind)
own_seen g p d y None lines behind e same = absurd (cc e)
own_seen g p d y (Some v) lines behind e same = ap (λ (z : GlobalDecl). Some (z, behind_line lines)) (some_same e) ∙ ap (λ (ls : Lines). Some (global_of g.nodes p y, ls)) (sym same)

pub line_fails : (d : Declaration) (lines : Lines) (o : Option Definition) → option_map (global_with d) o ≡ None → option_map (defined_line d lines) o ≡ None
line_fails d lines None e = refl
line_fails d lines (Some v) e = absurd (cc e)

pub waiting_known : (w : Waiting) → option_map (λ (n : Bor (List ℕ)). n.now) w.next ≡ next_name (all_lines w.lines.now) → WaitingKnown w
waiting_known w e = record { line = e }

pub plain_line : (env : Env) (n : ℕ) (d : Declaration) (w : Waiting) (z : GlobalDecl) → WaitingKnown w → is_called (option_map (λ (m : Bor (List ℕ)). m.now) w.next) d.name ≡ false → Some (global_with d (default_of d)) ≡ Some z →
    one_global env n d (all_lines w.lines.now) ≡ Some (z, all_lines w.lines.now)
plain_line env n d w z k other same =
    ap (global_from env n d (all_lines w.lines.now)) (ap (λ o. is_called o d.name) (sym k.line) ∙ other)
    ∙ ap (λ (y : GlobalDecl). Some (y, all_lines w.lines.now)) (some_same same)

pub own_line_next : (env : Env) (n : ℕ) (d : Declaration) (w : Waiting) → WaitingKnown w → is_called (option_map (λ (m : Bor (List ℕ)). m.now) w.next) d.name ≡ true →
    one_global env n d (all_lines w.lines.now) ≡ option_map (defined_line d (all_lines w.lines.now)) (next_definition env n d (all_lines w.lines.now))
own_line_next env n d w k own = ap (global_from env n d (all_lines w.lines.now)) (ap (λ o. is_called o d.name) (sym k.line) ∙ own)

pub defined_fails : (d : Declaration) (o : Option Definition) → o ≡ None → option_map (global_with d) o ≡ None
defined_fails d o e = ap (option_map (global_with d)) e

pub no_globals : (g : Graph) (p : List (List ℕ)) → GlobalsKnown g p []
no_globals g p = record { steady = λ h later r q. refl }

globals_more : (nodes : List Node) (p : List (List ℕ)) (xs : List SeenGlobal) (x : SeenGlobal) → globals_of nodes p (xs ++ x ∷ []) ≡ globals_of nodes p xs ++ global_of nodes p x ∷ []
globals_more nodes p [] x = refl
globals_more nodes p (y ∷ xs) x = ap (λ zs. global_of nodes p y ∷ zs) (globals_more nodes p xs x)

pub globals_pushed : (g h : Graph) (p q : List (List ℕ)) (xs : List SeenGlobal) (x : SeenGlobal) → GlobalsKnown g p xs → Grows g h → KeepsNames p q → GlobalKnown h q x → GlobalsKnown h q (xs ++ x ∷ [])
globals_pushed g h p q xs x k r s e = record {
  steady = λ i later t u.
      globals_more i.nodes later xs x
      ∙ ap (λ ys. ys ++ global_of i.nodes later x ∷ []) (k.steady i later (grows_twice g h i r t) (pool_twice p q later s u) ∙ sym (k.steady h q r s))
      ∙ ap (λ y. globals_of h.nodes q xs ++ y ∷ []) (e.steady i later t u)
      ∙ sym (globals_more h.nodes q xs x);
}

pub globals_later : (g h : Graph) (p q : List (List ℕ)) (xs : List SeenGlobal) → GlobalsKnown g p xs → Grows g h → KeepsNames p q → GlobalsKnown h q xs
globals_later g h p q xs k r s = record { steady = λ i later t u. k.steady i later (grows_twice g h i r t) (pool_twice p q later s u) ∙ sym (k.steady h q r s) }

-- objects

abbrev global_first : GlobalDecl → List GlobalDecl × Lines → List GlobalDecl × Lines
global_first x r = (x ∷ r.0, r.1)

abbrev objects_on : Env → ℕ → List Declaration → GlobalDecl × Lines → LinesReading (List GlobalDecl)
objects_on env n ds r = option_map (global_first r.0) (objects_left env n ds r.1)

first_with : (d : Declaration) (ds : List Declaration) (x : Definition) (o : LinesReading Definitions) → option_map (globals_with (d ∷ ds)) (option_map (definition_first x) o) ≡ option_map (global_first (global_with d x)) (option_map (globals_with ds) o)
first_with d ds x None = refl
first_with d ds x (Some r) = refl

first_defined : (env : Env) (n : ℕ) (d : Declaration) (ds : List Declaration) (line : List Word) (lines : Lines) (p : Option Definition) →
    option_map (globals_with (d ∷ ds)) (option_and_then (λ (x : Definition). option_map (definition_first x) (read_objects env n ds lines)) p) ≡ option_and_then (objects_on env n ds) (option_map (defined_line d (line ∷ lines)) p)
first_defined env n d ds line lines None = refl
first_defined env n d ds line lines (Some x) = first_with d ds x (read_objects env n ds lines)

objects_is : (env : Env) (n : ℕ) (d : Declaration) (ds : List Declaration) (lines : Lines) → objects_left env n (d ∷ ds) lines ≡ option_and_then (objects_on env n ds) (one_global env n d lines)
objects_is env n d ds [] = first_with d ds (default_of d) (read_objects env n ds [])
objects_is env n d ds (line ∷ lines) = by (is_called (own_name line) d.name)
  where
    by : (b : Bool) →
        option_map (globals_with (d ∷ ds)) (cond {A = LinesReading Definitions} b (option_and_then (λ (x : Definition). option_map (definition_first x) (read_objects env n ds lines)) (own_definition env n d line)) (option_map (definition_first (default_of d)) (read_objects env n ds (line ∷ lines))))
        ≡ option_and_then (objects_on env n ds) (global_from env n d (line ∷ lines) b)
    by true = first_defined env n d ds line lines (own_definition env n d line)
    by false = first_with d ds (default_of d) (read_objects env n ds (line ∷ lines))

one_behind : (xs : List GlobalDecl) (x : GlobalDecl) (o : LinesReading (List GlobalDecl)) → option_map (globals_behind xs) (option_map (global_first x) o) ≡ option_map (globals_behind (xs ++ x ∷ [])) o
one_behind xs x None = refl
one_behind xs x (Some r) = ap (λ (ys : List GlobalDecl). Some (ys, r.1)) (sym (append_assoc xs (x ∷ []) r.0))

objects_at : (f g : Graph) (env : Env) (n : ℕ) (ds : List SeenDeclaration) (i : ℕ) (d : SeenDeclaration) (lines : Lines) → i < length ds → EachDeclared (length f.nodes) ds → Grows f g →
    objects_left env n (declarations_of f.nodes (drop i ds)) lines ≡ option_and_then (objects_on env n (declarations_of f.nodes (drop (i + 1) ds))) (one_global env n (declaration_of g.nodes (get_or ds i d)) lines)
objects_at f g env n ds i d lines less each r =
    ap (λ es. objects_left env n es lines) (declared_at f.nodes ds i d less)
    ∙ objects_is env n (declaration_of f.nodes (get_or ds i d)) (declarations_of f.nodes (drop (i + 1) ds)) lines
    ∙ ap (λ e. option_and_then (objects_on env n (declarations_of f.nodes (drop (i + 1) ds))) (one_global env n e lines)) (sym (declaration_kept f g (get_or ds i d) r (declared_there (length f.nodes) ds i d each less)))

pub objects_next : (f g h : Graph) (p q : List (List ℕ)) (env now : Env) (n : ℕ) (ds : List SeenDeclaration) (xs : List SeenGlobal) (x : SeenGlobal) (i : ℕ) (d : SeenDeclaration) (lines behind : Lines) (whole : LinesReading (List GlobalDecl)) →
    i < length ds → EachDeclared (length f.nodes) ds → Grows f g → Grows g h → GlobalsKnown g p xs → KeepsNames p q → now ≡ env → one_global now n (declaration_of g.nodes (get_or ds i d)) lines ≡ Some (global_of h.nodes q x, behind) →
    option_map (globals_behind (globals_of g.nodes p xs)) (objects_left env n (declarations_of f.nodes (drop i ds)) lines) ≡ whole →
    option_map (globals_behind (globals_of h.nodes q (xs ++ x ∷ []))) (objects_left env n (declarations_of f.nodes (drop (i + 1) ds)) behind) ≡ whole
objects_next f g h p q env now n ds xs x i d lines behind whole less each r s k u same told inv =
    let seen = ap (λ v. one_global v n (declaration_of g.nodes (get_or ds i d)) lines) (sym same) ∙ told in
    let rest = objects_left env n (declarations_of f.nodes (drop (i + 1) ds)) behind in
    ap (λ ys. option_map (globals_behind ys) rest) (globals_more h.nodes q xs x ∙ ap (λ ys. ys ++ global_of h.nodes q x ∷ []) (k.steady h q s u))
    ∙ sym (one_behind (globals_of g.nodes p xs) (global_of h.nodes q x) rest)
    ∙ sym (ap (option_map (globals_behind (globals_of g.nodes p xs))) (objects_at f g env n ds i d lines less each r ∙ ap (option_and_then (objects_on env n (declarations_of f.nodes (drop (i + 1) ds)))) seen))
    ∙ inv

pub objects_fail : (f g : Graph) (env now : Env) (n : ℕ) (ds : List SeenDeclaration) (xs : List GlobalDecl) (i : ℕ) (d : SeenDeclaration) (lines : Lines) (whole : LinesReading (List GlobalDecl)) → i < length ds → EachDeclared (length f.nodes) ds → Grows f g →
    now ≡ env → one_global now n (declaration_of g.nodes (get_or ds i d)) lines ≡ None → option_map (globals_behind xs) (objects_left env n (declarations_of f.nodes (drop i ds)) lines) ≡ whole → whole ≡ None
objects_fail f g env now n ds xs i d lines whole less each r same told inv =
    let seen = ap (λ v. one_global v n (declaration_of g.nodes (get_or ds i d)) lines) (sym same) ∙ told in
    sym inv ∙ ap (option_map (globals_behind xs)) (objects_at f g env n ds i d lines less each r ∙ ap (option_and_then (objects_on env n (declarations_of f.nodes (drop (i + 1) ds)))) seen)

pub objects_stop : (f g : Graph) (env now : Env) (n : ℕ) (ds : List SeenDeclaration) (xs : List GlobalDecl) (i : ℕ) (d : SeenDeclaration) (lines : Lines) (whole : LinesReading (List GlobalDecl)) (e : Stop) → i < length ds → EachDeclared (length f.nodes) ds → Grows f g →
    now ≡ env → Fails e (one_global now n (declaration_of g.nodes (get_or ds i d)) lines) → option_map (globals_behind xs) (objects_left env n (declarations_of f.nodes (drop i ds)) lines) ≡ whole → Fails e whole
objects_stop f g env now n ds xs i d lines whole NotCil less each r same told inv = objects_fail f g env now n ds xs i d lines whole less each r same told inv
objects_stop f g env now n ds xs i d lines whole WantOfMemory less each r same told inv = tt

pub objects_end : (nodes : List Node) (env : Env) (n : ℕ) (ds : List SeenDeclaration) (xs : List GlobalDecl) (i : ℕ) (lines : Lines) (whole : LinesReading (List GlobalDecl)) → length ds ≤ i →
    option_map (globals_behind xs) (objects_left env n (declarations_of nodes (drop i ds)) lines) ≡ whole → whole ≡ Some (xs, lines)
objects_end nodes env n ds xs i lines whole h inv =
    sym inv ∙ ap (λ es. option_map (globals_behind xs) (objects_left env n (declarations_of nodes es) lines)) (past ds i h) ∙ ap (λ (ys : List GlobalDecl). Some (ys, lines)) (append-nil xs)

pub objects_start : (nodes : List Node) (p : List (List ℕ)) (env : Env) (n : ℕ) (xs : List SeenGlobal) (ds : List Declaration) (lines behind : Lines) → xs ≡ [] → behind ≡ lines → option_map (globals_behind (globals_of nodes p xs)) (objects_left env n ds behind) ≡ objects_left env n ds lines
objects_start nodes p env n xs ds lines behind e same =
    ap (λ ys. option_map (globals_behind (globals_of nodes p ys)) (objects_left env n ds behind)) e
    ∙ by (objects_left env n ds behind)
    ∙ ap (objects_left env n ds) same
  where
    by : (q : LinesReading (List GlobalDecl)) → option_map (globals_behind []) q ≡ q
    by None = refl
    by (Some r) = refl
