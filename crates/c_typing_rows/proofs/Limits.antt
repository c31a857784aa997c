-- The limits on the objects of a function and on the scalars of an initialiser, at the definitions that tell them: a unit that passes one has too many tokens for a row.
use Rattle.std.specs.Prelude.{◌≡◌, refl, ℕ, zero, suc, false, List, [], ◌∷◌, Option, Some, None}
use Rattle.cil_base.specs.declared.kinds.Abi.TheVariants.{Lp64}
use Rattle.cil_base.specs.declared.kinds.IntKind.TheVariants.{Int as int}
use Rattle.cil_base.specs.declared.faults.Fault.{Fault}
use Rattle.cil_base.specs.declared.faults.Fault.TheVariants.{Limit}
use Rattle.cil_base.specs.declared.faults.What.TheVariants as limit
use Rattle.type_graph.specs.Shapes.{IntType}
use Rattle.c_tree.specs.Syntax.{ParameterTrees, NoParameters, MoreParameters, Parameter, NoSpecifiers, Declared}
use Rattle.c_rules.specs.Types.{CType, Types, plain, unqualified}
use Rattle.c_typing.specs.Scopes.{Env}
use Rattle.c_typing.specs.Initialisers.{beginning}
use Rattle.c_typing.specs.Steps.{declares_local}
use Rattle.c_typing.specs.Walk.{numbered, filled}
use Rattle.c_typing.specs.Faults.{start_env, refuses_parameters, fault_in}

abbrev an_int : CType
an_int = unqualified (IntType int)

abbrev so_many : {A : Type 0} → ℕ → A → List A
so_many zero x = []
so_many (suc n) x = x ∷ so_many n x

-- a function with so many objects and compound literals
abbrev with_objects : ℕ → ℕ → Env
with_objects objects literals = record (start_env [] Lp64) { locals = so_many objects (record { name = record { 0 = 0 }; quals = plain; shape = IntType int }); literals = so_many literals (record { quals = plain; shape = IntType int }) }

abbrev declaring : ℕ → ℕ → Option (Fault × ℕ)
declaring objects literals = fault_in (declares_local (record { 0 = 0 }) 7 an_int false (with_objects objects literals))

abbrev making : ℕ → ℕ → Option (Fault × ℕ)
making objects literals = fault_in (numbered 7 an_int (with_objects objects literals))

-- one more parameter of a function definition behind so many
abbrev one_parameter : ParameterTrees
one_parameter = MoreParameters (Parameter NoSpecifiers (Declared 7 (record { 0 = 0 }))) NoParameters

abbrev no_types : Types
no_types = record { abi = Lp64; aggs = [] }

abbrev taking : ℕ → Option (Fault × ℕ)
taking parameters = fault_in (refuses_parameters no_types parameters one_parameter (so_many 1 (record { name = record { 0 = 0 }; quals = plain; shape = IntType int })) (start_env [] Lp64))

abbrev filling : ℕ → Option (Fault × ℕ)
filling scalars = fault_in (filled 1 3 an_int (record (beginning an_int) { scalars = scalars }) (start_env [] Lp64))

locals_0 : declaring 65534 0 ≡ None
locals_0 = refl

locals_1 : declaring 65535 0 ≡ Some (Limit limit.Locals, 7)
locals_1 = refl

locals_2 : declaring 5 65530 ≡ Some (Limit limit.Locals, 7)
locals_2 = refl

locals_3 : making 65534 0 ≡ None
locals_3 = refl

locals_4 : making 65534 1 ≡ Some (Limit limit.Locals, 7)
locals_4 = refl

parameters_0 : taking 65534 ≡ None
parameters_0 = refl

parameters_1 : taking 65535 ≡ Some (Limit limit.Locals, 7)
parameters_1 = refl

scalars_0 : filling 65536 ≡ None
scalars_0 = refl

scalars_1 : filling 65537 ≡ Some (Limit limit.Scalars, 3)
scalars_1 = refl
