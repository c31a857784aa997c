-- Device: a function, and an entity, is seen the same in a graph that grew.
use Rattle.std.proofs.Common.{◌≡◌, ℕ, suc, ◌≤◌, max, List, [], ◌∷◌, length, map, refl, ap, ◌∙◌}
use Rattle.type_graph.specs.Arena.{Graph}
use Rattle.type_graph.specs.Growth.{Grows}
use Rattle.type_graph.specs.Shapes.{shape}
use Rattle.type_graph.proofs.ShapeLaws.{kept as shape_kept}
use Rattle.typed_tree.specs.declared.units.Definition.{Definition}
use Rattle.typed_tree.specs.declared.units.Definition.TheVariants.{Declared, Zero, Initialised, Body}
use Rattle.typed_tree.specs.declared.units.Entity.{Entity}
use Rattle.typed_tree.specs.declared.units.TypedFunction.{TypedFunction}
use Rattle.typed_tree.specs.declared.units.TypedLiteral.{TypedLiteral}
use Rattle.typed_tree.specs.declared.units.TypedLocal.{TypedLocal}
use Rattle.typed_tree.specs.StatementView.{top_stmts}
use Rattle.typed_tree.specs.Units as plain
use Rattle.typed_tree.specs.UnitView.{local_of, literal_of, function_of, definition_of, entity_of, top_locals, top_literals, top_function, top_definition, top_entity, top_entities}
use Rattle.typed_tree.proofs.Kept.{in_left, in_right, two, inits_are_kept}
use Rattle.typed_tree.proofs.StatementLaws.{stmts_kept}

locals_kept : (g h : Graph) → Grows g h → (ls : List TypedLocal) → top_locals ls ≤ length g.nodes → map (local_of h.nodes) ls ≡ map (local_of g.nodes) ls
locals_kept g h grows [] below = refl
locals_kept g h grows (l ∷ ls) below =
    two (λ s (xs : List plain.Local). (record { name = l.name; quals = l.ty.quals; shape = s }) ∷ xs)
    (shape_kept g h l.ty.of.0 grows (in_left (suc l.ty.of.0) (top_locals ls) _ below)) (locals_kept g h grows ls (in_right (suc l.ty.of.0) (top_locals ls) _ below))

literals_kept : (g h : Graph) → Grows g h → (ls : List TypedLiteral) → top_literals ls ≤ length g.nodes → map (literal_of h.nodes) ls ≡ map (literal_of g.nodes) ls
literals_kept g h grows [] below = refl
literals_kept g h grows (l ∷ ls) below =
    two (λ s (xs : List plain.Literal). (record { quals = l.ty.quals; shape = s }) ∷ xs)
    (shape_kept g h l.ty.of.0 grows (in_left (suc l.ty.of.0) (top_literals ls) _ below)) (literals_kept g h grows ls (in_right (suc l.ty.of.0) (top_literals ls) _ below))

pub function_kept : (g h : Graph) → Grows g h → (f : TypedFunction) → top_function f ≤ length g.nodes → function_of h.nodes f ≡ function_of g.nodes f
function_kept g h grows f below =
    let heads : max (top_locals f.locals.items) (top_literals f.literals.items) ≤ length g.nodes = in_left (max (top_locals f.locals.items) (top_literals f.literals.items)) (top_stmts f.body.items) _ below in
    ap (λ s. record { params = f.params; locals = map (local_of h.nodes) f.locals.items; literals = map (literal_of h.nodes) f.literals.items; labels = f.labels.items; body = s })
    (stmts_kept g h grows f.body.items (in_right (max (top_locals f.locals.items) (top_literals f.literals.items)) (top_stmts f.body.items) _ below))
    ∙ two (λ ls ms. record { params = f.params; locals = ls; literals = ms; labels = f.labels.items; body = (function_of g.nodes f).body })
    (locals_kept g h grows f.locals.items (in_left (top_locals f.locals.items) (top_literals f.literals.items) _ heads)) (literals_kept g h grows f.literals.items (in_right (top_locals f.locals.items) (top_literals f.literals.items) _ heads))

definition_kept : (g h : Graph) → Grows g h → (d : Definition) → top_definition d ≤ length g.nodes → definition_of h.nodes d ≡ definition_of g.nodes d
definition_kept g h grows Declared below = refl
definition_kept g h grows Zero below = refl
definition_kept g h grows (Initialised init) below = ap plain.Initialised (inits_are_kept g h grows init.steps.items below)
definition_kept g h grows (Body f) below = ap plain.Body (function_kept g h grows f below)

pub entity_kept : (g h : Graph) → Grows g h → (e : Entity) → top_entity e ≤ length g.nodes → entity_of h.nodes e ≡ entity_of g.nodes e
entity_kept g h grows e below =
    two (λ s d. record { name = e.name; shape = s; constant = e.constant; kind = e.kind; first = e.first; defined = e.defined; bare = e.bare; kept = e.kept; definition = d })
    (shape_kept g h e.ty.0 grows (in_left (suc e.ty.0) (top_definition e.definition) _ below)) (definition_kept g h grows e.definition (in_right (suc e.ty.0) (top_definition e.definition) _ below))

pub entities_kept : (g h : Graph) → Grows g h → (es : List Entity) → top_entities es ≤ length g.nodes → map (entity_of h.nodes) es ≡ map (entity_of g.nodes) es
entities_kept g h grows [] below = refl
entities_kept g h grows (e ∷ es) below = two ◌∷◌ (entity_kept g h grows e (in_left (top_entity e) (top_entities es) _ below)) (entities_kept g h grows es (in_right (top_entity e) (top_entities es) _ below))
