-- Definition: the compound literals outside functions (C11 6.5.2.5p5), by their first tokens: among the objects of a unit without names they are those that are no string literals (6.4.5p6).
use Rattle.std.specs.Prelude.{ℕ, List, [], ◌∷◌, ◌++◌, Option, Some, None}
use Rattle.c_tree.specs.Syntax.{ExprTree, Name, Integer, Character, Literals, Parentheses, Index, Call, Member, Arrow, Postfix, CompoundLiteral, Prefix, Unary, SizeofExpr, SizeofType, AlignofType, Cast, Binary, Logical, Conditional, Assign, Comma, ExprTrees, NoExprs, MoreExprs, InitTree, Single, Braces, Item, ItemTrees, NoItems, MoreItems, DeclaratorTree}
use Rattle.c_tree.specs.Units.{DeclarationTree, Declares, Asserts, ExternalTree, Definition, External, UnitTree}

-- those of operands that are not evaluated make no object (own)
abbrev mutual
  pub literals_in : ExprTree → List ℕ
  literals_in (Name at x) = []
  literals_in (Integer at text) = []
  literals_in (Character at text) = []
  literals_in (Literals at texts) = []
  literals_in (Parentheses at e) = literals_in e
  literals_in (Index at l r) = literals_in l ++ literals_in r
  literals_in (Call at f es) = literals_in f ++ literals_in_arguments es
  literals_in (Member at e m) = literals_in e
  literals_in (Arrow at e m) = literals_in e
  literals_in (Postfix at e op) = literals_in e
  literals_in (CompoundLiteral at t is comma) = at ∷ literals_in_items is
  literals_in (Prefix at op e) = literals_in e
  literals_in (Unary at op e) = literals_in e
  literals_in (SizeofExpr at e) = []
  literals_in (SizeofType at t) = []
  literals_in (AlignofType at t) = []
  literals_in (Cast at t e) = literals_in e
  literals_in (Binary at op l r) = literals_in l ++ literals_in r
  literals_in (Logical at op l r) = literals_in l ++ literals_in r
  literals_in (Conditional at c y n) = literals_in c ++ (literals_in y ++ literals_in n)
  literals_in (Assign at op l r) = literals_in l ++ literals_in r
  literals_in (Comma at l r) = literals_in l ++ literals_in r

  literals_in_arguments : ExprTrees → List ℕ
  literals_in_arguments NoExprs = []
  literals_in_arguments (MoreExprs e es) = literals_in e ++ literals_in_arguments es

  pub literals_in_init : InitTree → List ℕ
  literals_in_init (Single e) = literals_in e
  literals_in_init (Braces at is comma) = literals_in_items is

  literals_in_items : ItemTrees → List ℕ
  literals_in_items NoItems = []
  literals_in_items (MoreItems (Item ds i) is) = literals_in_init i ++ literals_in_items is

abbrev pub literals_in_declarators : List (DeclaratorTree × Option InitTree) → List ℕ
literals_in_declarators [] = []
literals_in_declarators (x ∷ xs) = of x.1 ++ literals_in_declarators xs
  where
    of : Option InitTree → List ℕ
    of None = []
    of (Some i) = literals_in_init i

abbrev pub literals_in_declaration : DeclarationTree → List ℕ
literals_in_declaration (Declares at ss xs) = literals_in_declarators xs
literals_in_declaration (Asserts at c message_at message) = []

abbrev pub literals_in_external : ExternalTree → List ℕ
literals_in_external (Definition at ss d declarations body_at body) = []
literals_in_external (External d) = literals_in_declaration d

abbrev pub literals_in_unit : UnitTree → List ℕ
literals_in_unit [] = []
literals_in_unit (x ∷ xs) = literals_in_external x ++ literals_in_unit xs
