-- Device: what the readings of locals and of bodies add to the graph are parts of the types in them.
use Rattle.std.proofs.Common.{◌≡◌, ◌⊎◌, inl, inr, ℕ, zero, suc, ◌+◌, ◌<◌, ◌≤◌, List, [], ◌∷◌, ◌++◌, length, take, map, get_or, Option, Some, None, Result, Ok, Err, IfOk, refl, sym, ap, ◌∙◌, subst, append_assoc, append-nil, arith}
use Rattle.std.specs.Prelude.{reverse}
use Rattle.std.specs.Option.{option_and_then}
use Rattle.std.proofs.lemmas.List.{take_all, reverse-reverse, length-map}
use Rattle.std.proofs.Math.ListN.{set}
use Rattle.type_graph.specs.Shapes.{Shape}
use Rattle.type_graph.specs.Arena.{Graph}
use Rattle.type_graph.specs.Growth.{Grows}
use Rattle.cil_tree.specs.declared.globals.Body.{Body as SeenBody}
use Rattle.cil_tree.specs.declared.globals.GlobalDecl.{GlobalDecl as SeenGlobal}
use Rattle.cil_tree.specs.declared.globals.GlobalDef.TheVariants as def
use Rattle.cil_tree.specs.Tree.{Stmts, Local, Body, GlobalDecl}
use Rattle.cil_tree.specs.View.{local_of, stmts_of, body_of, global_of}
use Rattle.cil_text.specs.ReadStmts.{read_nested}
use Rattle.cil_text.specs.TypesOf.{Among, AddsParts, type_of_one, types_in_locals, types_in_stmts, types_in_body, types_in_definition, defined_types}
use Rattle.cil_text.proofs.PartsAdded.{among_first, among_last, among_either, adds_last, adds_twice, adds_wider}
use Rattle.cil_reader.specs.declared.heads.Head.{Head as SeenHead}
use Rattle.cil_reader.specs.declared.bodies.Locals.{Locals}
use Rattle.cil_declarators.specs.declared.stop.Stop.{Stop}
use Rattle.cil_declarators.specs.Gives.{Gives}
use Rattle.cil_reader.specs.Settings.{locals_of}
use Rattle.cil_reader.specs.Heads.{heads_of}
use Rattle.cil_reader.specs.Nesting.{waiting}
use Rattle.cil_reader.specs.Added.{types_in_heads}
use Rattle.cil_reader.specs.Pools.{KeepsNames}
use Rattle.cil_reader.specs.Globals.{globals_of, GlobalsKnown}
use Rattle.cil_reader.specs.Bodies.{named_local, local_behind, LocalsKnown, with_body, own_types}
use Rattle.cil_reader.proofs.BodyLaws.{one_more, behind_cases}
use Rattle.cil_reader.proofs.FunctionLaws.{globals_same, globals_set}
use Rattle.cil_reader.proofs.AddedLines.{nested_adds}

among_wider : (f g : Graph) (ss ts : List Shape) → ((s : Shape) → Among s ss → Among s ts) → AddsParts f g ss → AddsParts f g ts
among_wider f g ss ts inner adds = adds_wider f g ss ts (λ s u a b. (s, inner s a, b)) adds

-- locals

locals_types : (xs ys : List Local) → types_in_locals (xs ++ ys) ≡ types_in_locals xs ++ types_in_locals ys
locals_types [] ys = refl
locals_types (x ∷ xs) ys = ap (λ (ss : List Shape). type_of_one x.type ++ ss) (locals_types xs ys) ∙ sym (append_assoc (type_of_one x.type) (types_in_locals xs) (types_in_locals ys))

one_behind : (f g : Graph) (ls ms : List Local) (name : List ℕ) (s : Shape) → local_behind ls (named_local name s) ≡ Some ms → AddsParts f g (s ∷ []) → AddsParts f g (types_in_locals ms)
one_behind f g ls ms name s e adds =
    subst (AddsParts f g) (sym (ap types_in_locals (behind_cases ls ms (named_local name s) e).1 ∙ locals_types ls (named_local name s ∷ []))) (adds_last f g (types_in_locals ls) (s ∷ []) adds)

-- a local whose type was read
pub local_adds : (f g : Graph) (r : Result Locals Stop) (ls : List Local) (name : List ℕ) (s : Shape) → Gives (λ (x : Locals). locals_of g.nodes x.names) r (local_behind ls (named_local name s)) → AddsParts f g (s ∷ []) →
    IfOk r (λ (x : Locals). AddsParts f g (types_in_locals (locals_of g.nodes x.names)))
local_adds f g (Ok x) ls name s e adds = one_behind f g ls (locals_of g.nodes x.names) name s e adds
local_adds f g (Err stop) ls name s e adds = tt

-- a local behind others
pub locals_add : (f g h : Graph) (ls ms : List Local) (o : Option Local) → option_and_then (local_behind ls) o ≡ Some ms → Grows g h → AddsParts f g (types_in_locals ls) → AddsParts g h (types_in_locals ms) → AddsParts f h (types_in_locals ms)
locals_add f g h ls ms None e grows first second = absurd (cc e)
locals_add f g h ls ms (Some x) e grows first second =
    among_wider f h (types_in_locals ls ++ types_in_locals ms) (types_in_locals ms) (λ s a. by s (among_either (types_in_locals ls) (types_in_locals ms) s a)) (adds_twice f g h (types_in_locals ls) (types_in_locals ms) grows first second)
  where
    same : types_in_locals ms ≡ types_in_locals ls ++ types_in_locals (x ∷ [])
    same = ap types_in_locals (behind_cases ls ms x e).1 ∙ locals_types ls (x ∷ [])

    by : (s : Shape) → Among s (types_in_locals ls) ⊎ Among s (types_in_locals ms) → Among s (types_in_locals ms)
    by s (inl a) = subst (Among s) (sym same) (among_first (types_in_locals ls) (types_in_locals (x ∷ [])) s a)
    by s (inr a) = a

-- statements

all_taken : (js : List SeenHead) → length js ≡ 0 → js ≡ []
all_taken [] e = refl
all_taken (j ∷ js) e = absurd (omega (arith, e))

-- the lines stand with the first one last while they are taken
pub stmts_add : (f g : Graph) (n : ℕ) (hs ks js : List SeenHead) (ss : Stmts) → ks ≡ reverse hs → read_nested n (waiting g.nodes ks) ≡ Some (ss, waiting g.nodes js) → length js ≡ 0 →
    AddsParts f g (types_in_heads (heads_of g.nodes hs)) → AddsParts f g (types_in_stmts ss)
stmts_add f g n hs ks js ss turned is none adds =
    nested_adds f g n (heads_of g.nodes hs) ss
    (ap (λ (xs : List SeenHead). read_nested n (heads_of g.nodes xs)) (sym (reverse-reverse hs))
    ∙ ap (λ (xs : List SeenHead). read_nested n (waiting g.nodes xs)) (sym turned)
    ∙ is
    ∙ ap (λ (xs : List SeenHead). Some (ss, waiting g.nodes xs)) (all_taken js none))
    adds

-- bodies

pub body_adds : (f e g : Graph) (p q : List (List ℕ)) (b : SeenBody) (x : Locals) → Grows e g → KeepsNames p q → LocalsKnown e p x → b.locals ≡ x.all →
    AddsParts f e (types_in_locals (locals_of e.nodes x.names)) → AddsParts e g (types_in_stmts (stmts_of g.nodes b.stmts.items)) → AddsParts f g (types_in_body (body_of g.nodes q b))
body_adds f e g p q b x grows pool known same first second =
    subst (λ (ls : List Local). AddsParts f g (types_in_locals ls ++ types_in_stmts (stmts_of g.nodes b.stmts.items))) (sym (ap (λ v. map (local_of g.nodes q) v.items) same ∙ known.steady g q grows pool))
    (adds_twice f e g (types_in_locals (locals_of e.nodes x.names)) (types_in_stmts (stmts_of g.nodes b.stmts.items)) grows first second)

-- globals while bodies are read: what was added is in the bodies of those that were passed

beside : (xs ys zs : List Shape) (s : Shape) → (Among s ys → Among s zs) → Among s (xs ++ ys) → Among s (xs ++ zs)
beside xs ys zs s more a = by (among_either xs ys s a)
  where
    by : Among s xs ⊎ Among s ys → Among s (xs ++ zs)
    by (inl h) = among_first xs zs s h
    by (inr h) = among_last xs zs s (more h)

next_among : (s : Shape) (ys : List GlobalDecl) (i : ℕ) → Among s (defined_types (take i ys)) → Among s (defined_types (take (suc i) ys))
next_among s [] zero a = absurd a
next_among s [] (suc i) a = absurd a
next_among s (y ∷ ys) zero a = absurd a
next_among s (y ∷ ys) (suc i) a = beside (types_in_definition y.definition) (defined_types (take i ys)) (defined_types (take (suc i) ys)) s (λ h. next_among s ys i h) a

set_among : (s : Shape) (ys : List GlobalDecl) (i : ℕ) (b : Body) (d : GlobalDecl) → i < length ys → Among s (defined_types (take i ys) ++ types_in_body b) →
    Among s (defined_types (take (suc i) (set ys i (with_body (get_or ys i d) (Some b)))))
set_among s [] i b d less a = absurd (omega (arith, less))
set_among s (y ∷ ys) zero b d less a = among_first (types_in_body b) [] s a
set_among s (y ∷ ys) (suc i) b d less a =
    beside (types_in_definition y.definition) (defined_types (take i ys) ++ types_in_body b) (defined_types (take (suc i) (set ys i (with_body (get_or ys i d) (Some b))))) s (λ h. set_among s ys i b d (omega (arith, less)) h)
    (subst (Among s) (append_assoc (types_in_definition y.definition) (defined_types (take i ys)) (types_in_body b)) a)

passed_more : (f h : Graph) (ys : List GlobalDecl) (i : ℕ) → AddsParts f h (defined_types (take (suc i) ys)) → AddsParts f h (defined_types (take (i + 1) ys))
passed_more f h ys i adds = subst (λ (k : ℕ). AddsParts f h (defined_types (take k ys))) (one_more i) adds

pub none_adds : (f g h : Graph) (p q : List (List ℕ)) (xs : List SeenGlobal) (i : ℕ) (o : Option (SeenBody × ℕ)) → Grows g h → KeepsNames p q → GlobalsKnown g p xs → o ≡ None → AddsParts f g (defined_types (take i (globals_of g.nodes p xs))) → AddsParts g h (own_types h.nodes q o) →
    AddsParts f h (defined_types (take (i + 1) (globals_of h.nodes q xs)))
none_adds f g h p q xs i o grows pool known none first second =
    let ys = globals_of g.nodes p xs in
    subst (λ (zs : List GlobalDecl). AddsParts f h (defined_types (take (i + 1) zs))) (sym (globals_same g h p q xs grows pool known))
    (passed_more f h ys i
    (among_wider f h (defined_types (take i ys) ++ []) (defined_types (take (suc i) ys)) (λ s a. next_among s ys i (subst (Among s) (append-nil (defined_types (take i ys))) a))
    (adds_twice f g h (defined_types (take i ys)) [] grows first (subst (λ (v : Option (SeenBody × ℕ)). AddsParts g h (own_types h.nodes q v)) none second))))

pub some_adds : (f g h : Graph) (p q : List (List ℕ)) (xs zs : List SeenGlobal) (i : ℕ) (y : SeenGlobal) (b : SeenBody) (m : ℕ) (o : Option (SeenBody × ℕ)) → i < length xs → Grows g h → KeepsNames p q → GlobalsKnown g p xs → o ≡ Some (b, m) → zs ≡ set xs i (record (get_or xs i y) { def = def.Body b }) →
    AddsParts f g (defined_types (take i (globals_of g.nodes p xs))) → AddsParts g h (own_types h.nodes q o) → AddsParts f h (defined_types (take (i + 1) (globals_of h.nodes q zs)))
some_adds f g h p q xs zs i y b m o less grows pool known some is first second =
    let ys = globals_of g.nodes p xs in
    let d : GlobalDecl = global_of g.nodes p y in
    let body = body_of h.nodes q b in
    let ws = set ys i (with_body (get_or ys i d) (Some body)) in
    let same : globals_of h.nodes q zs ≡ ws =
    ap (globals_of h.nodes q) is
    ∙ globals_set h.nodes q xs i y d b less
    ∙ ap (λ (vs : List GlobalDecl). set vs i (with_body (get_or vs i d) (Some body))) (globals_same g h p q xs grows pool known) in
    subst (λ (vs : List GlobalDecl). AddsParts f h (defined_types (take (i + 1) vs))) (sym same)
    (passed_more f h ws i
    (among_wider f h (defined_types (take i ys) ++ types_in_body body) (defined_types (take (suc i) ws)) (λ s a. set_among s ys i body d (omega (arith, less, length-map xs (global_of g.nodes p))) a)
    (adds_twice f g h (defined_types (take i ys)) (types_in_body body) grows first (subst (λ (v : Option (SeenBody × ℕ)). AddsParts g h (own_types h.nodes q v)) some second))))

pub all_add : (f g : Graph) (p : List (List ℕ)) (xs : List SeenGlobal) (i : ℕ) → length xs ≤ i → AddsParts f g (defined_types (take i (globals_of g.nodes p xs))) → AddsParts f g (defined_types (globals_of g.nodes p xs))
all_add f g p xs i end adds =
    subst (λ (ys : List GlobalDecl). AddsParts f g (defined_types ys)) (take_all i (globals_of g.nodes p xs) (omega (arith, end, length-map xs (global_of g.nodes p)))) adds
