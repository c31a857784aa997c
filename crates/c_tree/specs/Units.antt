-- Definition: declarations (A.2.2), statements (A.2.3) and external definitions (A.2.4) of C11 Annex A as plain data.
-- `at` is the number of a node's first token; `StartExpr`, `StartDeclaration`, `Declaring`, `Doing` and `External` have none and begin with their part.
use Rattle.std.specs.Prelude.{ℕ, List, Option}
use Rattle.cil_base.specs.declared.numbers.NameId.{NameId}
use Rattle.c_tree.specs.Syntax.{ExprTree, SpecifierTrees, DeclaratorTree, InitTree}

-- a declaration: specifiers, and declarators with their initialisers; or a static assertion
pub data DeclarationTree : Type 0 where
  Declares : (at : ℕ) (specifiers : SpecifierTrees) (declarators : List (DeclaratorTree × Option InitTree)) → DeclarationTree
  Asserts : (at : ℕ) (condition : ExprTree) (message_at : ℕ) (message : List (List ℕ)) → DeclarationTree

-- what stands before the first semicolon of a for statement, with that semicolon
pub data ForStart : Type 0 where
  StartExpr : (e : Option ExprTree) → ForStart
  StartDeclaration : (declaration : DeclarationTree) → ForStart

mutual
  pub data StmtTree : Type 0 where
    Labelled : (at : ℕ) (label : NameId) (body : StmtTree) → StmtTree
    Case : (at : ℕ) (value : ExprTree) (body : StmtTree) → StmtTree
    Default : (at : ℕ) (body : StmtTree) → StmtTree
    Compound : (at : ℕ) (items : BlockItems) → StmtTree
    Expression : (at : ℕ) (e : Option ExprTree) → StmtTree
    If : (at : ℕ) (condition : ExprTree) (yes : StmtTree) → StmtTree
    IfElse : (at : ℕ) (condition : ExprTree) (yes no : StmtTree) → StmtTree
    Switch : (at : ℕ) (value : ExprTree) (body : StmtTree) → StmtTree
    While : (at : ℕ) (condition : ExprTree) (body : StmtTree) → StmtTree
    Do : (at : ℕ) (body : StmtTree) (condition : ExprTree) → StmtTree
    For : (at : ℕ) (start : ForStart) (condition step : Option ExprTree) (body : StmtTree) → StmtTree
    Goto : (at : ℕ) (label : NameId) → StmtTree
    Continue : (at : ℕ) → StmtTree
    Break : (at : ℕ) → StmtTree
    Return : (at : ℕ) (e : Option ExprTree) → StmtTree

  pub data BlockItem : Type 0 where
    Declaring : (declaration : DeclarationTree) → BlockItem
    Doing : (statement : StmtTree) → BlockItem

  pub data BlockItems : Type 0 where
    NoItems : BlockItems
    MoreItems : (first : BlockItem) (rest : BlockItems) → BlockItems

-- a function definition, with the number of its body's brace, or a declaration
pub data ExternalTree : Type 0 where
  Definition : (at : ℕ) (specifiers : SpecifierTrees) (declarator : DeclaratorTree) (declarations : List DeclarationTree) (body_at : ℕ) (body : BlockItems) → ExternalTree
  External : (declaration : DeclarationTree) → ExternalTree

-- a translation unit
abbrev pub UnitTree : Type 0
UnitTree = List ExternalTree
