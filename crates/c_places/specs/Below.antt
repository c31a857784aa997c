-- Definition: each number of a token in a syntax tree is below a number: where that is how many tokens there are, each token is there.
use Rattle.std.specs.Prelude.{ℕ, ◌<◌, List, [], ◌∷◌, Option, Some, None}
use Rattle.c_tree.specs.Syntax.{ExprTree, Name, Integer, Character, Literals, Parentheses, Index, Call, Member, Arrow, Postfix, CompoundLiteral, Prefix, Unary, SizeofExpr, SizeofType, AlignofType, Cast, Binary, Logical, Conditional, Assign, Comma, ExprTrees, NoExprs, MoreExprs, TypeNameTree, TypeName, SpecifierTree, Storage, Basic, Qualified, Functional, TypedefName, Tag, StructBody, EnumBody, SpecifierTrees, NoSpecifiers, MoreSpecifiers, MemberTree, MemberLine, MemberAssert, MemberTrees, NoMembers, MoreMembers, MemberDeclaratorTree, Plain, BitField, MemberDeclaratorTrees, NoMemberDeclarators, MoreMemberDeclarators, EnumeratorTree, Enumerates, EnumeratorTrees, NoEnumerators, MoreEnumerators, MaybeExpr, NoExpr, SomeExpr, DeclaratorTree, Declared, Absent, Grouped, Pointer, Array, Function, Unprototyped, BoundTree, Unspecified, Star, Size, StaticSize, SizeStatic, ParameterTree, Parameter, ParameterTrees, NoParameters, MoreParameters, InitTree, Single, Braces, ItemTree, Item, ItemTrees, NoItems, MoreItems, DesignatorTree, AtIndex, AtMember, DesignatorTrees, NoDesignators, MoreDesignators}
use Rattle.c_tree.specs.Units.{DeclarationTree, Declares, Asserts, ForStart, StartExpr, StartDeclaration, StmtTree, Labelled, Case, Default, Compound, Expression, If, IfElse, Switch, While, Do, For, Goto, Continue, Break, Return, BlockItem, Declaring, Doing, BlockItems, NoItems as NoStatements, MoreItems as MoreStatements, ExternalTree, Definition, External, UnitTree}

abbrev mutual
  pub ExprBelow : ℕ → ExprTree → Type 0
  ExprBelow count (Name at x) = at < count
  ExprBelow count (Integer at text) = at < count
  ExprBelow count (Character at text) = at < count
  ExprBelow count (Literals at texts) = at < count
  ExprBelow count (Parentheses at e) = (at < count) × ExprBelow count e
  ExprBelow count (Index at e i) = (at < count) × ExprBelow count e × ExprBelow count i
  ExprBelow count (Call at e es) = (at < count) × ExprBelow count e × ExprsBelow count es
  ExprBelow count (Member at e x) = (at < count) × ExprBelow count e
  ExprBelow count (Arrow at e x) = (at < count) × ExprBelow count e
  ExprBelow count (Postfix at e op) = (at < count) × ExprBelow count e
  ExprBelow count (CompoundLiteral at t items comma) = (at < count) × TypeNameBelow count t × ItemsBelow count items
  ExprBelow count (Prefix at op e) = (at < count) × ExprBelow count e
  ExprBelow count (Unary at op e) = (at < count) × ExprBelow count e
  ExprBelow count (SizeofExpr at e) = (at < count) × ExprBelow count e
  ExprBelow count (SizeofType at t) = (at < count) × TypeNameBelow count t
  ExprBelow count (AlignofType at t) = (at < count) × TypeNameBelow count t
  ExprBelow count (Cast at t e) = (at < count) × TypeNameBelow count t × ExprBelow count e
  ExprBelow count (Binary at op l r) = (at < count) × ExprBelow count l × ExprBelow count r
  ExprBelow count (Logical at op l r) = (at < count) × ExprBelow count l × ExprBelow count r
  ExprBelow count (Conditional at c a b) = (at < count) × ExprBelow count c × ExprBelow count a × ExprBelow count b
  ExprBelow count (Assign at op l r) = (at < count) × ExprBelow count l × ExprBelow count r
  ExprBelow count (Comma at l r) = (at < count) × ExprBelow count l × ExprBelow count r

  pub ExprsBelow : ℕ → ExprTrees → Type 0
  ExprsBelow count NoExprs = Unit {0}
  ExprsBelow count (MoreExprs e es) = ExprBelow count e × ExprsBelow count es

  pub TypeNameBelow : ℕ → TypeNameTree → Type 0
  TypeNameBelow count (TypeName ss d) = SpecifiersBelow count ss × DeclaratorBelow count d

  pub SpecifierBelow : ℕ → SpecifierTree → Type 0
  SpecifierBelow count (Storage at w) = at < count
  SpecifierBelow count (Basic at w) = at < count
  SpecifierBelow count (Qualified at w) = at < count
  SpecifierBelow count (Functional at w) = at < count
  SpecifierBelow count (TypedefName at x) = at < count
  SpecifierBelow count (Tag at kind tag) = at < count
  SpecifierBelow count (StructBody at kind tag members) = (at < count) × MembersBelow count members
  SpecifierBelow count (EnumBody at tag es comma) = (at < count) × EnumeratorsBelow count es

  pub SpecifiersBelow : ℕ → SpecifierTrees → Type 0
  SpecifiersBelow count NoSpecifiers = Unit {0}
  SpecifiersBelow count (MoreSpecifiers s ss) = SpecifierBelow count s × SpecifiersBelow count ss

  pub MemberBelow : ℕ → MemberTree → Type 0
  MemberBelow count (MemberLine ss ds) = SpecifiersBelow count ss × MemberDeclaratorsBelow count ds
  MemberBelow count (MemberAssert at e message_at message) = (at < count) × ExprBelow count e × (message_at < count)

  pub MembersBelow : ℕ → MemberTrees → Type 0
  MembersBelow count NoMembers = Unit {0}
  MembersBelow count (MoreMembers m ms) = MemberBelow count m × MembersBelow count ms

  pub MemberDeclaratorBelow : ℕ → MemberDeclaratorTree → Type 0
  MemberDeclaratorBelow count (Plain d) = DeclaratorBelow count d
  MemberDeclaratorBelow count (BitField d width) = DeclaratorBelow count d × ExprBelow count width

  pub MemberDeclaratorsBelow : ℕ → MemberDeclaratorTrees → Type 0
  MemberDeclaratorsBelow count NoMemberDeclarators = Unit {0}
  MemberDeclaratorsBelow count (MoreMemberDeclarators d ds) = MemberDeclaratorBelow count d × MemberDeclaratorsBelow count ds

  pub EnumeratorBelow : ℕ → EnumeratorTree → Type 0
  EnumeratorBelow count (Enumerates at x value) = (at < count) × ValueBelow count value

  pub EnumeratorsBelow : ℕ → EnumeratorTrees → Type 0
  EnumeratorsBelow count NoEnumerators = Unit {0}
  EnumeratorsBelow count (MoreEnumerators e es) = EnumeratorBelow count e × EnumeratorsBelow count es

  pub ValueBelow : ℕ → MaybeExpr → Type 0
  ValueBelow count NoExpr = Unit {0}
  ValueBelow count (SomeExpr e) = ExprBelow count e

  pub DeclaratorBelow : ℕ → DeclaratorTree → Type 0
  DeclaratorBelow count (Declared at x) = at < count
  DeclaratorBelow count (Absent at) = at < count
  DeclaratorBelow count (Grouped at d) = (at < count) × DeclaratorBelow count d
  DeclaratorBelow count (Pointer at qs d) = (at < count) × DeclaratorBelow count d
  DeclaratorBelow count (Array at d b) = (at < count) × DeclaratorBelow count d × BoundBelow count b
  DeclaratorBelow count (Function at d ps variadic) = (at < count) × DeclaratorBelow count d × ParametersBelow count ps
  DeclaratorBelow count (Unprototyped at d names) = (at < count) × DeclaratorBelow count d

  pub BoundBelow : ℕ → BoundTree → Type 0
  BoundBelow count (Unspecified at qs) = at < count
  BoundBelow count (Star at qs) = at < count
  BoundBelow count (Size at qs e) = (at < count) × ExprBelow count e
  BoundBelow count (StaticSize at qs e) = (at < count) × ExprBelow count e
  BoundBelow count (SizeStatic at qs e) = (at < count) × ExprBelow count e

  pub ParameterBelow : ℕ → ParameterTree → Type 0
  ParameterBelow count (Parameter ss d) = SpecifiersBelow count ss × DeclaratorBelow count d

  pub ParametersBelow : ℕ → ParameterTrees → Type 0
  ParametersBelow count NoParameters = Unit {0}
  ParametersBelow count (MoreParameters p ps) = ParameterBelow count p × ParametersBelow count ps

  pub InitBelow : ℕ → InitTree → Type 0
  InitBelow count (Single e) = ExprBelow count e
  InitBelow count (Braces at items comma) = (at < count) × ItemsBelow count items

  pub ItemBelow : ℕ → ItemTree → Type 0
  ItemBelow count (Item ds i) = DesignatorsBelow count ds × InitBelow count i

  pub ItemsBelow : ℕ → ItemTrees → Type 0
  ItemsBelow count NoItems = Unit {0}
  ItemsBelow count (MoreItems i is) = ItemBelow count i × ItemsBelow count is

  pub DesignatorBelow : ℕ → DesignatorTree → Type 0
  DesignatorBelow count (AtIndex at e) = (at < count) × ExprBelow count e
  DesignatorBelow count (AtMember at x) = at < count

  pub DesignatorsBelow : ℕ → DesignatorTrees → Type 0
  DesignatorsBelow count NoDesignators = Unit {0}
  DesignatorsBelow count (MoreDesignators d ds) = DesignatorBelow count d × DesignatorsBelow count ds

abbrev pub MaybeBelow : ℕ → Option ExprTree → Type 0
MaybeBelow count None = Unit {0}
MaybeBelow count (Some e) = ExprBelow count e

abbrev pub MaybeInitBelow : ℕ → Option InitTree → Type 0
MaybeInitBelow count None = Unit {0}
MaybeInitBelow count (Some i) = InitBelow count i

abbrev pub InitDeclaratorsBelow : ℕ → List (DeclaratorTree × Option InitTree) → Type 0
InitDeclaratorsBelow count [] = Unit {0}
InitDeclaratorsBelow count (d ∷ ds) = DeclaratorBelow count d.0 × MaybeInitBelow count d.1 × InitDeclaratorsBelow count ds

abbrev pub DeclarationBelow : ℕ → DeclarationTree → Type 0
DeclarationBelow count (Declares at ss ds) = (at < count) × SpecifiersBelow count ss × InitDeclaratorsBelow count ds
DeclarationBelow count (Asserts at e message_at message) = (at < count) × ExprBelow count e × (message_at < count)

abbrev pub DeclarationsBelow : ℕ → List DeclarationTree → Type 0
DeclarationsBelow count [] = Unit {0}
DeclarationsBelow count (d ∷ ds) = DeclarationBelow count d × DeclarationsBelow count ds

abbrev pub StartBelow : ℕ → ForStart → Type 0
StartBelow count (StartExpr e) = MaybeBelow count e
StartBelow count (StartDeclaration d) = DeclarationBelow count d

abbrev mutual
  pub StmtBelow : ℕ → StmtTree → Type 0
  StmtBelow count (Labelled at x s) = (at < count) × StmtBelow count s
  StmtBelow count (Case at e s) = (at < count) × ExprBelow count e × StmtBelow count s
  StmtBelow count (Default at s) = (at < count) × StmtBelow count s
  StmtBelow count (Compound at items) = (at < count) × BlockBelow count items
  StmtBelow count (Expression at e) = (at < count) × MaybeBelow count e
  StmtBelow count (If at e s) = (at < count) × ExprBelow count e × StmtBelow count s
  StmtBelow count (IfElse at e s u) = (at < count) × ExprBelow count e × StmtBelow count s × StmtBelow count u
  StmtBelow count (Switch at e s) = (at < count) × ExprBelow count e × StmtBelow count s
  StmtBelow count (While at e s) = (at < count) × ExprBelow count e × StmtBelow count s
  StmtBelow count (Do at s e) = (at < count) × StmtBelow count s × ExprBelow count e
  StmtBelow count (For at start c step s) = (at < count) × StartBelow count start × MaybeBelow count c × MaybeBelow count step × StmtBelow count s
  StmtBelow count (Goto at x) = at < count
  StmtBelow count (Continue at) = at < count
  StmtBelow count (Break at) = at < count
  StmtBelow count (Return at e) = (at < count) × MaybeBelow count e

  pub BlockItemBelow : ℕ → BlockItem → Type 0
  BlockItemBelow count (Declaring d) = DeclarationBelow count d
  BlockItemBelow count (Doing s) = StmtBelow count s

  pub BlockBelow : ℕ → BlockItems → Type 0
  BlockBelow count NoStatements = Unit {0}
  BlockBelow count (MoreStatements i is) = BlockItemBelow count i × BlockBelow count is

abbrev pub ExternalBelow : ℕ → ExternalTree → Type 0
ExternalBelow count (Definition at ss d ds body_at body) = (at < count) × SpecifiersBelow count ss × DeclaratorBelow count d × DeclarationsBelow count ds × (body_at < count) × BlockBelow count body
ExternalBelow count (External d) = DeclarationBelow count d

abbrev pub UnitBelow : ℕ → UnitTree → Type 0
UnitBelow count [] = Unit {0}
UnitBelow count (d ∷ ds) = ExternalBelow count d × UnitBelow count ds
