-- Definition: the parts of declarations and expressions whose names and types RunC looks up while a unit runs (C11 6.2.1, 6.7).
use Rattle.std.specs.Prelude.{ℕ, false, List, Option, Some, None}
use Rattle.cil_base.specs.declared.numbers.NameId.{NameId}
use Rattle.type_graph.specs.Shapes.{Shape}
use Rattle.typed_tree.specs.Statements.{Stmt}
use Rattle.c_tree.specs.Syntax.{ExprTree, SpecifierTrees, DeclaratorTree, DesignatorTrees, NoDesignators, MoreDesignators, AtIndex, AtMember}
use Rattle.c_tree.specs.Units.{StmtTree, BlockItem, Declaring, Doing}
use Rattle.c_tree.specs.Places.{first_expr}
use Rattle.c_rules.specs.Types.{CType}
use Rattle.c_typing.specs.Specifiers.{InBlock, Defining, class_of, is_inline}
use Rattle.c_typing.specs.Scopes.{Env, Walk, ◌>>=◌, pure, asks, scoped}
use Rattle.c_typing.specs.Declarators.{Derivation, declared_in, place_in, built, last_of}
use Rattle.c_typing.specs.Steps.{Base, base_with, declares_local}
use Rattle.c_typing.specs.Walk.{expr, named, derived}
use Rattle.c_typing.specs.Declare.{AFunction, head_of, links, inherited, function_linkage}
use Rattle.c_typing.specs.Faults.{enters_function, result_of}
use Rattle.c_typing.specs.Statements.{Place, declaration, statement, case_value}

-- the constant expressions of designators (6.7.9p6)
abbrev pub designators : DesignatorTrees → Walk (Unit {0})
designators NoDesignators = pure tt
designators (MoreDesignators (AtIndex at e) ds) = do
  _ ← expr e
  designators ds
designators (MoreDesignators (AtMember at m) ds) = designators ds

-- a declarator of an automatic object before its initialiser, in which its identifier is visible already (6.2.1p7)
abbrev pub declared : SpecifierTrees → Base → DeclaratorTree → Walk ℕ
declared ss b d = do
  ds ← derived false d
  c ← built (place_in ss d) ds b.type
  object (declared_in d) c
  where
    object : Option (NameId × ℕ) → CType → Walk ℕ
    object None c = pure 0
    object (Some x) c = declares_local x.0 x.1 c false

-- an item of a block
abbrev pub item : Place → BlockItem → Walk (List Stmt)
item p (Declaring d) = declaration InBlock d
item p (Doing s) = statement p s

-- a statement in a scope of its own
abbrev pub substatement : Place → StmtTree → Walk (List Stmt)
substatement p s = scoped (statement p s)

-- the label of a case (6.8.4.2p3)
abbrev pub case_label : ℕ → ExprTree → Walk Stmt
case_label at e = do
  x ← expr e
  case_value at (first_expr e) x

-- the beginning of a function's body (6.9.1): which of the unit's functions it is, and the type that it returns
abbrev pub opens_function : SpecifierTrees → DeclaratorTree → Walk (Option (ℕ × Shape))
opens_function ss d = do
  b ← base_with Defining ss (named false ss)
  ds ← derived false d
  c ← built (place_in ss d) ds b.type
  opens ds c (declared_in d)
  where
    opens : List Derivation → CType → Option (NameId × ℕ) → Walk (Option (ℕ × Shape))
    opens ds c None = pure None
    opens ds c (Some x) = do
      extern ← asks (λ (env : Env). inherited env x.0)
      n ← links x.0 x.1 (function_linkage (class_of ss) extern) c (AFunction (head_of (last_of ds))) (is_inline ss)
      _ ← enters_function (last_of ds)
      pure (Some (n, result_of c.shape))
