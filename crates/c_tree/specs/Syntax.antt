-- Definition: the syntax trees of C11 Annex A as plain data: each production has its constructor, and parentheses are nodes.
-- `at` is the number of a node's first token; of an absent identifier, which has no token, the number of the one behind its place; of what stands in brackets, that of the bracket.
-- `TypeName`, `MemberLine`, `Plain`, `BitField`, `Parameter`, `Single` and `Item` have no `at`: each begins where its first part begins.
-- Left out are the productions that the project's profile leaves out. What a production asks of its parts beyond their kinds is said by `Levels`.
use Rattle.std.specs.Prelude.{ℕ, Bool, List, Option}
use Rattle.cil_base.specs.declared.numbers.NameId.{NameId}
use Rattle.cil_base.specs.declared.operators.BinOp.{BinOp}
use Rattle.c_tree.specs.declared.words.StorageClass.{StorageClass}
use Rattle.c_tree.specs.declared.words.BasicType.{BasicType}
use Rattle.c_tree.specs.declared.words.Qualifier.{Qualifier}
use Rattle.c_tree.specs.declared.words.FunctionSpecifier.{FunctionSpecifier}
use Rattle.c_tree.specs.declared.words.StructKind.{StructKind}
use Rattle.c_tree.specs.declared.words.TagKind.{TagKind}
use Rattle.c_tree.specs.declared.words.StepOp.{StepOp}
use Rattle.c_tree.specs.declared.words.UnaryOp.{UnaryOp}
use Rattle.c_tree.specs.declared.words.LogicalOp.{LogicalOp}

mutual
  -- expressions (A.2.1)
  pub data ExprTree : Type 0 where
    Name : (at : ℕ) (name : NameId) → ExprTree
    Integer : (at : ℕ) (text : List ℕ) → ExprTree
    Character : (at : ℕ) (text : List ℕ) → ExprTree
    Literals : (at : ℕ) (texts : List (List ℕ)) → ExprTree
    Parentheses : (at : ℕ) (e : ExprTree) → ExprTree
    Index : (at : ℕ) (e index : ExprTree) → ExprTree
    Call : (at : ℕ) (e : ExprTree) (arguments : ExprTrees) → ExprTree
    Member : (at : ℕ) (e : ExprTree) (name : NameId) → ExprTree
    Arrow : (at : ℕ) (e : ExprTree) (name : NameId) → ExprTree
    Postfix : (at : ℕ) (e : ExprTree) (op : StepOp) → ExprTree
    CompoundLiteral : (at : ℕ) (type : TypeNameTree) (items : ItemTrees) (comma : Bool) → ExprTree
    Prefix : (at : ℕ) (op : StepOp) (e : ExprTree) → ExprTree
    Unary : (at : ℕ) (op : UnaryOp) (e : ExprTree) → ExprTree
    SizeofExpr : (at : ℕ) (e : ExprTree) → ExprTree
    SizeofType : (at : ℕ) (type : TypeNameTree) → ExprTree
    AlignofType : (at : ℕ) (type : TypeNameTree) → ExprTree
    Cast : (at : ℕ) (type : TypeNameTree) (e : ExprTree) → ExprTree
    Binary : (at : ℕ) (op : BinOp) (left right : ExprTree) → ExprTree
    Logical : (at : ℕ) (op : LogicalOp) (left right : ExprTree) → ExprTree
    Conditional : (at : ℕ) (condition yes no : ExprTree) → ExprTree
    Assign : (at : ℕ) (op : Option BinOp) (left right : ExprTree) → ExprTree
    Comma : (at : ℕ) (left right : ExprTree) → ExprTree

  pub data ExprTrees : Type 0 where
    NoExprs : ExprTrees
    MoreExprs : (first : ExprTree) (rest : ExprTrees) → ExprTrees

  -- a type name: specifiers and qualifiers, and an abstract declarator (A.2.2)
  pub data TypeNameTree : Type 0 where
    TypeName : (specifiers : SpecifierTrees) (declarator : DeclaratorTree) → TypeNameTree

  -- specifiers and qualifiers (A.2.2)
  pub data SpecifierTree : Type 0 where
    Storage : (at : ℕ) (word : StorageClass) → SpecifierTree
    Basic : (at : ℕ) (word : BasicType) → SpecifierTree
    Qualified : (at : ℕ) (word : Qualifier) → SpecifierTree
    Functional : (at : ℕ) (word : FunctionSpecifier) → SpecifierTree
    TypedefName : (at : ℕ) (name : NameId) → SpecifierTree
    Tag : (at : ℕ) (kind : TagKind) (tag : NameId) → SpecifierTree
    StructBody : (at : ℕ) (kind : StructKind) (tag : Option NameId) (members : MemberTrees) → SpecifierTree
    EnumBody : (at : ℕ) (tag : Option NameId) (enumerators : EnumeratorTrees) (comma : Bool) → SpecifierTree

  pub data SpecifierTrees : Type 0 where
    NoSpecifiers : SpecifierTrees
    MoreSpecifiers : (first : SpecifierTree) (rest : SpecifierTrees) → SpecifierTrees

  -- a declaration among members
  pub data MemberTree : Type 0 where
    MemberLine : (specifiers : SpecifierTrees) (declarators : MemberDeclaratorTrees) → MemberTree
    MemberAssert : (at : ℕ) (condition : ExprTree) (message_at : ℕ) (message : List (List ℕ)) → MemberTree

  pub data MemberTrees : Type 0 where
    NoMembers : MemberTrees
    MoreMembers : (first : MemberTree) (rest : MemberTrees) → MemberTrees

  -- a member's declarator, and for a bit-field its width; a bit-field without declarator has an absent one
  pub data MemberDeclaratorTree : Type 0 where
    Plain : (declarator : DeclaratorTree) → MemberDeclaratorTree
    BitField : (declarator : DeclaratorTree) (width : ExprTree) → MemberDeclaratorTree

  pub data MemberDeclaratorTrees : Type 0 where
    NoMemberDeclarators : MemberDeclaratorTrees
    MoreMemberDeclarators : (first : MemberDeclaratorTree) (rest : MemberDeclaratorTrees) → MemberDeclaratorTrees

  pub data EnumeratorTree : Type 0 where
    Enumerates : (at : ℕ) (name : NameId) (value : MaybeExpr) → EnumeratorTree

  pub data EnumeratorTrees : Type 0 where
    NoEnumerators : EnumeratorTrees
    MoreEnumerators : (first : EnumeratorTree) (rest : EnumeratorTrees) → EnumeratorTrees

  pub data MaybeExpr : Type 0 where
    NoExpr : MaybeExpr
    SomeExpr : (e : ExprTree) → MaybeExpr

  -- declarators and abstract declarators, from the outermost derivation to the identifier or its place
  pub data DeclaratorTree : Type 0 where
    Declared : (at : ℕ) (name : NameId) → DeclaratorTree
    Absent : (at : ℕ) → DeclaratorTree
    Grouped : (at : ℕ) (inner : DeclaratorTree) → DeclaratorTree
    Pointer : (at : ℕ) (qualifiers : List Qualifier) (inner : DeclaratorTree) → DeclaratorTree
    Array : (at : ℕ) (inner : DeclaratorTree) (bound : BoundTree) → DeclaratorTree
    Function : (at : ℕ) (inner : DeclaratorTree) (parameters : ParameterTrees) (variadic : Bool) → DeclaratorTree
    Unprototyped : (at : ℕ) (inner : DeclaratorTree) (names : List NameId) → DeclaratorTree

  -- what stands in the brackets of an array declarator; `at` is the number of the opening bracket
  pub data BoundTree : Type 0 where
    Unspecified : (at : ℕ) (qualifiers : List Qualifier) → BoundTree
    Star : (at : ℕ) (qualifiers : List Qualifier) → BoundTree
    Size : (at : ℕ) (qualifiers : List Qualifier) (size : ExprTree) → BoundTree
    StaticSize : (at : ℕ) (qualifiers : List Qualifier) (size : ExprTree) → BoundTree
    SizeStatic : (at : ℕ) (qualifiers : List Qualifier) (size : ExprTree) → BoundTree

  pub data ParameterTree : Type 0 where
    Parameter : (specifiers : SpecifierTrees) (declarator : DeclaratorTree) → ParameterTree

  pub data ParameterTrees : Type 0 where
    NoParameters : ParameterTrees
    MoreParameters : (first : ParameterTree) (rest : ParameterTrees) → ParameterTrees

  -- initialisers
  pub data InitTree : Type 0 where
    Single : (e : ExprTree) → InitTree
    Braces : (at : ℕ) (items : ItemTrees) (comma : Bool) → InitTree

  pub data ItemTree : Type 0 where
    Item : (designators : DesignatorTrees) (init : InitTree) → ItemTree

  pub data ItemTrees : Type 0 where
    NoItems : ItemTrees
    MoreItems : (first : ItemTree) (rest : ItemTrees) → ItemTrees

  pub data DesignatorTree : Type 0 where
    AtIndex : (at : ℕ) (index : ExprTree) → DesignatorTree
    AtMember : (at : ℕ) (name : NameId) → DesignatorTree

  pub data DesignatorTrees : Type 0 where
    NoDesignators : DesignatorTrees
    MoreDesignators : (first : DesignatorTree) (rest : DesignatorTrees) → DesignatorTrees
