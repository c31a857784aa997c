-- Device: each type in a well-formed program is one of its graph's types; programs that this refuses.
use Rattle.std.proofs.Common.{◌≡◌, ℕ, ◌<◌, Bool, true, false, List, [], ◌∷◌, Option, Some, None, length, map, slice_get, nat_lt, cond, refl, sym, ap, ◌∙◌, subst, arith}
use Rattle.std.specs.Prelude.{codes}
use Rattle.std.specs.Option.{option_map}
use Rattle.std.proofs.lemmas.Option.{slice_get-map}
use Rattle.cil_base.specs.declared.numbers.TypeId.{TypeId}
use Rattle.type_graph.specs.declared.nodes.Node.{Node}
use Rattle.type_graph.specs.Shapes.{Shape, AggType, shape}
use Rattle.cil_tree.specs.declared.globals.GlobalDecl.{GlobalDecl as Declaration}
use Rattle.cil_tree.specs.Tree.{GlobalDecl, Declared, Program}
use Rattle.cil_tree.specs.View.{type_at, global_of}
use Rattle.cil_tree.specs.Programs.{IsProgram}
use Rattle.cil_tree.proofs.Rows.{pointer, object, program}

less : (m n : ℕ) → nat_lt m n ≡ true → m < n
less m n h = grind arith

-- a type that is there has a number below the graph's length
there : (nodes : List Node) (t : TypeId) (s : Shape) → type_at nodes t ≡ Some s → (n : ℕ) × (n < length nodes) × (shape nodes n ≡ s)
there nodes t s e = by (nat_lt t.0 (length nodes)) refl e
  where
    by : (b : Bool) → nat_lt t.0 (length nodes) ≡ b → cond b (Some (shape nodes t.0)) None ≡ Some s → (n : ℕ) × (n < length nodes) × (shape nodes n ≡ s)
    by true h q = let same : shape nodes t.0 ≡ s = cc in (t.0, less t.0 (length nodes) h, same)
    by false h q = cc

mapped : {A B : Type 0} (f : A → B) (o : Option A) (y : B) → option_map f o ≡ Some y → (x : A) × (f x ≡ y)
mapped f None y e = cc
mapped f (Some x) y e = let same : f x ≡ y = cc in (x, same)

-- the type of a global of a well-formed program is one of its graph's
pub global_type_is_there : (p : Program) → IsProgram p → (i : ℕ) (x : GlobalDecl) (s : Shape) → slice_get p.globals i ≡ Some x → x.type ≡ Some s → (n : ℕ) × (n < length p.graph.nodes) × (shape p.graph.nodes n ≡ s)
global_type_is_there p is i x s e q =
    let whole : map (global_of is.unit.graph.nodes p.names) is.unit.globals.items ≡ p.globals = ap (λ (r : Program). r.globals) is.seen in
    let same : is.unit.graph ≡ p.graph = ap (λ (r : Program). r.graph) is.seen in
    let found : option_map (global_of is.unit.graph.nodes p.names) (slice_get is.unit.globals.items i) ≡ Some x =
    sym (slice_get-map (global_of is.unit.graph.nodes p.names) is.unit.globals.items i) ∙ ap (λ (xs : List GlobalDecl). slice_get xs i) whole ∙ e in
    let y = mapped (global_of is.unit.graph.nodes p.names) (slice_get is.unit.globals.items i) x found in
    subst (λ g. (n : ℕ) × (n < length g.nodes) × (shape g.nodes n ≡ s)) same
    (there is.unit.graph.nodes y.0.ty s (ap (λ (z : GlobalDecl). z.type) y.1 ∙ q))

-- a pointer to an aggregate that no graph of the program has
forged : IsProgram (program (object (codes "p") (pointer (AggType 99)) false Declared ∷ [])) → ⊥
forged is =
    let t = global_type_is_there (program (object (codes "p") (pointer (AggType 99)) false Declared ∷ [])) is 0 (object (codes "p") (pointer (AggType 99)) false Declared) (pointer (AggType 99)) refl refl in
    absurd (omega (arith, t.1))
