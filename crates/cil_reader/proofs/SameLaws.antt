-- Device: the test of equal types, and that a type that was there added nothing when it was read again.
use Rattle.std.proofs.Common.{◌≡◌, ℕ, ◌<◌, Bool, true, false, cond, IsTrue, List, [], ◌∷◌, Option, Some, None, length, refl, sym, ap, ◌∙◌}
use Rattle.std.specs.Option.{option_and_then}
use Rattle.type_graph.specs.Shapes.{Shape, shape}
use Rattle.type_graph.specs.Arena.{Graph, IsArena}
use Rattle.type_graph.specs.Growth.{Grows}
use Rattle.type_graph.proofs.ShapeLaws.{kept}
use Rattle.cil_tree.specs.Typing.{same_shape}
use Rattle.cil_tree.proofs.ShapeEquality.{shape_told, same_is_equal}
use Rattle.cil_text.specs.Words.{Word}
use Rattle.cil_text.specs.ReadTypes.{Bases, read_decl}
use Rattle.cil_text.specs.TypesOf.{AddsParts}
use Rattle.cil_text.proofs.PartsAdded.{adds_nothing}
use Rattle.cil_reader.specs.Typed.{typed_as, typed}

pub same_tested : (r : Bool) (s t : Shape) → (IsTrue r → s ≡ t) → (s ≡ t → IsTrue r) → r ≡ same_shape s t
same_tested true s t f g = sym ((same_is_equal s t).1 (f refl))
same_tested false s t f g = by (same_shape s t) refl
  where
    by : (b : Bool) → same_shape s t ≡ b → false ≡ b
    by false e = refl
    by true e = absurd (cc (g (shape_told s t e)))

pub same_type : (g h : Graph) (a t : ℕ) → Grows g h → IsArena h → AddsParts g h (shape h.nodes a ∷ []) → t < length g.nodes → same_shape (shape h.nodes a) (shape h.nodes t) ≡ true → h.nodes ≡ g.nodes
same_type g h a t grows arena adds low e = adds_nothing g h (shape h.nodes a) t grows arena adds low (sym (shape_told (shape h.nodes a) (shape h.nodes t) e))

-- a declarator that gives a type which is known

kept_test : (g h : Graph) (a t : ℕ) (b : Bool) → Grows g h → t < length g.nodes → same_shape (shape h.nodes a) (shape h.nodes t) ≡ b → same_shape (shape h.nodes a) (shape g.nodes t) ≡ b
kept_test g h a t b grows low e = ap (same_shape (shape h.nodes a)) (sym (kept g h t grows low)) ∙ e

typed_by : (g h : Graph) (bases : Bases) (n a t : ℕ) (name : Option (List ℕ)) (ws vs : List Word) (b : Bool) → Grows g h → t < length g.nodes → read_decl bases n ws ≡ Some ((shape h.nodes a, name), vs) → same_shape (shape h.nodes a) (shape h.nodes t) ≡ b →
    typed bases n (shape g.nodes t) ws ≡ cond b (Some vs) None
typed_by g h bases n a t name ws vs b grows low e same = ap (option_and_then (typed_as (shape g.nodes t))) e ∙ ap (λ v. cond v (Some vs) None) (kept_test g h a t b grows low same)

pub typed_gives : (g h : Graph) (bases : Bases) (n a t : ℕ) (name : Option (List ℕ)) (ws vs : List Word) → Grows g h → t < length g.nodes → read_decl bases n ws ≡ Some ((shape h.nodes a, name), vs) → same_shape (shape h.nodes a) (shape h.nodes t) ≡ true →
    typed bases n (shape g.nodes t) ws ≡ Some vs
typed_gives g h bases n a t name ws vs grows low e same = typed_by g h bases n a t name ws vs true grows low e same

pub typed_other : (g h : Graph) (bases : Bases) (n a t : ℕ) (name : Option (List ℕ)) (ws vs : List Word) → Grows g h → t < length g.nodes → read_decl bases n ws ≡ Some ((shape h.nodes a, name), vs) → same_shape (shape h.nodes a) (shape h.nodes t) ≡ false →
    typed bases n (shape g.nodes t) ws ≡ None
typed_other g h bases n a t name ws vs grows low e same = typed_by g h bases n a t name ws vs false grows low e same

pub typed_fails : (bases : Bases) (n : ℕ) (s : Shape) (ws : List Word) → read_decl bases n ws ≡ None → typed bases n s ws ≡ None
typed_fails bases n s ws e = ap (option_and_then (typed_as s)) e
