-- Device: a program of the form as a program of the whole language, and as a tree of the code that it is what is seen of.
use Rattle.std.proofs.Common.{◌≡◌, false, [], ◌∷◌, codes, Some, Vec, Box, refl, ap, ◌∙◌, arith}
use Rattle.std.specs.Global.{Global}
use denote.RawPtr.{null_ptr}
use Rattle.cil_base.specs.declared.kinds.IntKind.TheVariants.{Int as int}
use Rattle.type_graph.specs.Shapes.{shape}
use Rattle.cil_tree.specs.declared.expressions.Exp.{Exp as CodeExp, Const as CodeConst, Bin' as CodeBin}
use Rattle.cil_tree.specs.declared.statements.Stmt.{Return as CodeReturn}
use Rattle.cil_tree.specs.declared.globals.Body.{Body as CodeBody}
use Rattle.cil_tree.specs.declared.globals.GlobalDef.TheVariants.{Body as HasBody}
use Rattle.cil_tree.specs.declared.globals.GlobalDecl.{GlobalDecl as CodeGlobal}
use Rattle.cil_tree.specs.declared.globals.CilUnit.{CilUnit}
use Rattle.cil_tree.specs.Tree.{Bin}
use Rattle.cil_tree.specs.View.{exp_of, program_of}
use Rattle.cil_meaning.specs.Program.{Exp as Small, Const as SmallConst, Bin as SmallBin}
use Rattle.cil_commands.specs.Lowering.{main_types, main_graph}
use Rattle.cil_commands.specs.Small.{whole_exp, whole_program}

-- the tree, in memory that nobody looks at

abbrev anywhere : Global
anywhere = record { memory = record { seal = tt } }

abbrev none_of : {T : Type 0} → Vec T Global
none_of = record { ptr = null_ptr; len = 0; cap = 0; alloc = anywhere; items = []; ok = (refl, omega arith); small = omega arith }

abbrev one_of : {T : Type 0} → T → Vec T Global
one_of x = record { ptr = null_ptr; len = 1; cap = 1; alloc = anywhere; items = x ∷ []; ok = (refl, omega arith); small = omega arith }

abbrev boxed : Box (Unit {0}) Global
boxed = record { ptr = null_ptr; alloc = anywhere; value = tt }

abbrev code_exp : Small → CodeExp
code_exp (SmallConst value) = CodeConst int value
code_exp (SmallBin op left right) = CodeBin op boxed (code_exp left) boxed (code_exp right)

abbrev code_body : Small → CodeBody
code_body e = record { params = none_of; locals = none_of; labels = none_of; stmts = one_of (CodeReturn (Some (code_exp e))) }

abbrev code_global : Small → CodeGlobal
code_global e = record { name = record { 0 = 0 }; ty = record { 0 = 1 }; internal = false; def = HasBody (code_body e) }

abbrev pub code_unit : Small → CilUnit
code_unit e = record { graph = main_graph; globals = one_of (code_global e) }

exp_seen : (e : Small) → exp_of main_types (code_exp e) ≡ whole_exp e
exp_seen (SmallConst value) = refl
exp_seen (SmallBin op left right) = ap (λ a. Bin op a (exp_of main_types (code_exp right))) (exp_seen left) ∙ ap (λ b. Bin op (whole_exp left) b) (exp_seen right)

pub unit_seen : (e : Small) → program_of (codes "main" ∷ []) (code_unit e) ≡ whole_program e
unfolding shape
unit_seen e = rw (exp_seen e) refl
