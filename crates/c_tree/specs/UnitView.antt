-- Definition: the plain tree that a declaration, a statement or a unit of the code stands for.
use Rattle.std.specs.Prelude.{List, [], ◌∷◌, map, Option}
use Rattle.std.specs.Option.{option_map}
use Rattle.c_tree.specs.declared.statement.InitDeclarator.{InitDeclarator}
use Rattle.c_tree.specs.declared.statement.Declaration.{Declaration}
use Rattle.c_tree.specs.declared.statement.Declaration.TheVariants.{Declares as RDeclares, StaticAssert as RStaticAssert}
use Rattle.c_tree.specs.declared.statement.ForStart.{ForStart as RForStart}
use Rattle.c_tree.specs.declared.statement.ForStart.TheVariants.{Expr as RStartExpr, Declaration as RStartDeclaration}
use Rattle.c_tree.specs.declared.statement.Stmt.{Stmt}
use Rattle.c_tree.specs.declared.statement.Stmt.TheVariants.{Labelled' as RLabelled, Case' as RCase, Default' as RDefault, Compound' as RCompound, Expr as RExpr, If' as RIf, IfElse' as RIfElse, Switch' as RSwitch, While' as RWhile, Do' as RDo, For' as RFor, Goto as RGoto, Continue as RContinue, Break as RBreak, Return as RReturn}
use Rattle.c_tree.specs.declared.statement.BlockItem.{BlockItem as RBlockItem}
use Rattle.c_tree.specs.declared.statement.BlockItem.TheVariants.{Declaration as RDeclaration, Statement as RStatement}
use Rattle.c_tree.specs.declared.statement.BlockItem.TheBlock.{Row_of-BlockItem, end_of-BlockItem, more_of-BlockItem}
use Rattle.c_tree.specs.declared.statement.ExtDecl.{ExtDecl}
use Rattle.c_tree.specs.declared.statement.ExtDecl.TheVariants.{Definition as RDefinition, Declaration as RExternal}
use Rattle.c_tree.specs.declared.statement.Unit.{Unit as CUnit}
use Rattle.c_tree.specs.Syntax.{DeclaratorTree, InitTree}
use Rattle.c_tree.specs.Units.{DeclarationTree, Declares, Asserts, ForStart, StartExpr, StartDeclaration, StmtTree, Labelled, Case, Default, Compound, Expression, If, IfElse, Switch, While, Do, For, Goto, Continue, Break, Return, BlockItem, Declaring, Doing, BlockItems, NoItems, MoreItems, ExternalTree, Definition, External, UnitTree}
use Rattle.c_tree.specs.View.{expr_of, specifiers_of, declarator_of, init_of}

abbrev pub init_declarator_of : InitDeclarator → DeclaratorTree × Option InitTree
init_declarator_of d = (declarator_of d.declarator, option_map init_of d.init)

abbrev pub declaration_of : Declaration → DeclarationTree
declaration_of (RDeclares at ss ds) = Declares at (specifiers_of ss.items) (map init_declarator_of ds.items)
declaration_of (RStaticAssert a) = Asserts a.at (expr_of a.condition.value) a.message_at a.message.items

abbrev pub start_of : RForStart → ForStart
start_of (RStartExpr e) = StartExpr (option_map expr_of e)
start_of (RStartDeclaration d) = StartDeclaration (declaration_of d)

abbrev mutual
  pub stmt_of : Stmt → StmtTree
  stmt_of (RLabelled at n p s) = Labelled at n (stmt_of s)
  stmt_of (RCase at e p s) = Case at (expr_of e) (stmt_of s)
  stmt_of (RDefault at p s) = Default at (stmt_of s)
  stmt_of (RCompound at n items) = Compound at (block_row items)
  stmt_of (RExpr at e) = Expression at (option_map expr_of e)
  stmt_of (RIf at e p s) = If at (expr_of e) (stmt_of s)
  stmt_of (RIfElse at e p s q u) = IfElse at (expr_of e) (stmt_of s) (stmt_of u)
  stmt_of (RSwitch at e p s) = Switch at (expr_of e) (stmt_of s)
  stmt_of (RWhile at e p s) = While at (expr_of e) (stmt_of s)
  stmt_of (RDo at p s e) = Do at (stmt_of s) (expr_of e)
  stmt_of (RFor at start c step p s) = For at (start_of start) (option_map expr_of c) (option_map expr_of step) (stmt_of s)
  stmt_of (RGoto at n) = Goto at n
  stmt_of (RContinue at) = Continue at
  stmt_of (RBreak at) = Break at
  stmt_of (RReturn at e) = Return at (option_map expr_of e)

  pub block_item_of : RBlockItem → BlockItem
  block_item_of (RDeclaration d) = Declaring (declaration_of d)
  block_item_of (RStatement s) = Doing (stmt_of s)

  pub block_row : {m : _} → Row_of-BlockItem m → BlockItems
  block_row end_of-BlockItem = NoItems
  block_row (more_of-BlockItem i rest) = MoreItems (block_item_of i) (block_row rest)

-- a list of items as a tree
abbrev pub block_of : List RBlockItem → BlockItems
block_of [] = NoItems
block_of (i ∷ is) = MoreItems (block_item_of i) (block_of is)

abbrev pub external_of : ExtDecl → ExternalTree
external_of (RDefinition d) = Definition d.at (specifiers_of d.specifiers.items) (declarator_of d.declarator) (map declaration_of d.declarations.items) d.body_at (block_of d.body.items)
external_of (RExternal d) = External (declaration_of d)

abbrev pub unit_of : CUnit → UnitTree
unit_of u = map external_of u.declarations.items
