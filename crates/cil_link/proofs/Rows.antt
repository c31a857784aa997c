-- Device: a worked row of linking: the numbers of two units, and what their entities are.
use Rattle.std.proofs.Common.{◌≡◌, List, [], ◌∷◌, map, Some, None, true, false, refl}
use Rattle.std.specs.Prelude.{ℕ, pos, codes}
use Rattle.cil_base.specs.declared.constants.Constant.TheVariants.{Int as Number}
use Rattle.cil_base.specs.declared.kinds.IntKind.TheVariants.{Int as int_kind}
use Rattle.type_graph.specs.Shapes.{NoTypes}
use Rattle.execution.specs.Linking.{main_entity}
use Rattle.cil_tree.specs.Tree.{GlobalDecl, Program, Image}
use Rattle.cil_semantics.specs.Runs.{linkables}
use Rattle.cil_semantics.proofs.Samples.{int, program, function, int_from, main_of, declared, number, return, call_to, local, var, stmts_of}
use Rattle.cil_link.specs.Entities.{in_run, entities_in}
use Rattle.cil_link.specs.MainGlobals.{main_among}

-- static int n = 1; int f(void) { return n; }
abbrev first_unit : Program
first_unit = program (
    record { name = codes "n"; type = Some int; internal = true; definition = Image (record { path = []; value = Number int_kind (pos 1) } ∷ []) }
    ∷ function (int_from NoTypes) [] (codes "f") [] [] (stmts_of (return (number 1) ∷ []))
    ∷ [])

-- int n; int f(void); int main(void) { int t; t = f(); return t; }
abbrev second_unit : Program
second_unit = program (
    record { name = codes "n"; type = Some int; internal = false; definition = Image (record { path = []; value = Number int_kind (pos 2) } ∷ []) }
    ∷ declared (codes "f") (int_from NoTypes)
    ∷ main_of (local (codes "t") int ∷ []) [] (stmts_of (call_to 0 1 [] ∷ return (var 0) ∷ []))
    ∷ [])

-- entity 0 is __builtin_memset; the internal n is one of its own, and f is one in both
numbers_row : map entities_in (in_run (first_unit ∷ second_unit ∷ [])) ≡ (1 ∷ 2 ∷ []) ∷ (3 ∷ 2 ∷ 4 ∷ []) ∷ []
numbers_row = refl

main_row : main_among (in_run (first_unit ∷ second_unit ∷ [])) ≡ Some 4
main_row = refl

main_is : main_entity (map linkables (first_unit ∷ second_unit ∷ [])) ≡ 4
main_is = refl
