-- Declarations that others complete, lists of parameters, tags and literals: units with their first fault, or without one; and which operators have an effect whatever their operands are.
use Rattle.std.specs.Prelude.{◌≡◌, refl, codes, ℕ, true, [], ◌∷◌, ◌++◌, Option, Some, None}
use Rattle.cil_base.specs.declared.kinds.Abi.TheVariants.{Lp64}
use Rattle.cil_base.specs.declared.kinds.IntKind.TheVariants.{Char}
use Rattle.cil_base.specs.declared.faults.Fault.TheVariants.{Constraint}
use Rattle.cil_base.specs.declared.faults.Code.TheVariants as code
use Rattle.type_graph.specs.Shapes.{Shape, IntType, ArrayType}
use Rattle.typed_tree.specs.declared.expressions.Logic.{Logic}
use Rattle.typed_tree.specs.Tree.{acts}
use Rattle.c_rules.specs.Types.{CType, Types, plain, unqualified}
use Rattle.c_rules.specs.Conversions.{Operand}
use Rattle.c_typing.specs.Scopes.{Env, Found, Good, Bad}
use Rattle.c_rules.specs.Nodes.{of_logical, of_conditional, of_comma}
use Rattle.c_typing.specs.Initialisers.{Filling, beginning, whole_part}
use Rattle.c_typing.specs.Steps.{with_literal}
use Rattle.c_typing.specs.Faults.{start_env}
use Rattle.c_typing_rows.specs.Text.{first, outcome}

-- an array has the bound of the declaration that is visible
too_many : first (codes "int a[3]; int a[] = { 1, 2, 3, 4 };") ≡ Some (Constraint code.Initialiser, 18)
unfolding first outcome
too_many = refl

too_long : first (codes "extern char s[3]; char s[] = \"abcd\";") ≡ Some (Constraint code.Initialiser, 12)
unfolding first outcome
too_long = refl

bounded : outcome (codes "extern int a[3]; int a[] = { 1 }; _Static_assert(sizeof a == 12, \"\");") ≡ Some None
unfolding outcome
bounded = refl

bounded_text : outcome (codes "extern char s[3]; char s[] = \"abc\"; _Static_assert(sizeof s == 3, \"\");") ≡ Some None
unfolding outcome
bounded_text = refl

-- one that is not visible agrees with the bound that the initialiser gives
other_bound : first (codes "void f(void) { extern int a[3]; } int a[] = { 1, 2 };") ≡ Some (Constraint code.Conflict, 15)
unfolding first outcome
other_bound = refl

same_bound : outcome (codes "void f(void) { extern int a[2]; } int a[] = { 1, 2 };") ≡ Some None
unfolding outcome
same_bound = refl

-- `void` is not alone in a list that ends in `...`
not_alone : first (codes "int f(void, ...);") ≡ Some (Constraint code.Incomplete, 3)
unfolding first outcome
not_alone = refl

-- an enumerated type in its own list
within_list : first (codes "enum e { A = sizeof(enum e *) };") ≡ Some (Constraint code.Tag, 8)
unfolding first outcome
within_list = refl

cast_within_list : first (codes "enum e { A = (enum e)0 };") ≡ Some (Constraint code.Tag, 7)
unfolding first outcome
cast_within_list = refl

behind_list : outcome (codes "enum e { A = 2 }; enum e x = A; int a[sizeof(enum e)];") ≡ Some None
unfolding outcome
behind_list = refl

-- a literal counts its zero byte, for which there is no room here
abbrev three : CType
three = unqualified (ArrayType plain (IntType Char) (Some 3))

abbrev scalars_in : Found (Filling × Env) → Option ℕ
scalars_in (Good x) = Some x.0.scalars
scalars_in (Bad fault at) = None

counted : scalars_in (with_literal 1 2 (whole_part three) (Some (codes "abc" ++ 0 ∷ [])) (beginning three) (start_env [] Lp64)) ≡ Some 4
counted = refl

-- `&&`, `||`, `? :` and `,` are effects
logical_acts : (t : Types) (op : Logic) (a b : Operand) → acts (of_logical t op a b).typed ≡ true
logical_acts t op a b = refl

conditional_acts : (t : Types) (c a b : Operand) (s : Shape) → acts (of_conditional t c a b s).typed ≡ true
conditional_acts t c a b s = refl

comma_acts : (a b : Operand) → acts (of_comma a b).typed ≡ true
comma_acts a b = refl
