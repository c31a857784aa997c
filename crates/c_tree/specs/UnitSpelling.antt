-- Definition: the tokens of declarations, statements and translation units (C11 Annex A.2.2 to A.2.4), one case for each constructor.
use Rattle.std.specs.Prelude.{List, [], ◌∷◌, ◌++◌, map, Option, Some, None}
use Rattle.cil_base.specs.declared.tokens.Keyword.TheVariants.{Break as BreakWord, Case as CaseWord, Continue as ContinueWord, Default as DefaultWord, Do as DoWord, Else as ElseWord, For as ForWord, Goto as GotoWord, If as IfWord, Return as ReturnWord, Switch as SwitchWord, While as WhileWord}
use Rattle.cil_base.specs.declared.tokens.Punctuator.TheVariants.{Colon, Semicolon, Equal}
use Rattle.c_tree.specs.Syntax.{ExprTree, DeclaratorTree, InitTree}
use Rattle.c_tree.specs.Units.{DeclarationTree, Declares, Asserts, ForStart, StartExpr, StartDeclaration, StmtTree, Labelled, Case, Default, Compound, Expression, If, IfElse, Switch, While, Do, For, Goto, Continue, Break, Return, BlockItem, Declaring, Doing, BlockItems, NoItems, MoreItems, ExternalTree, Definition, External, UnitTree}
use Rattle.c_tree.specs.Spelling.{Lexeme, word, sign, named, in_parens, in_braces, with_commas, spell_expr, spell_specifiers, spell_declarator, spell_init, spell_assert}

abbrev pub spell_maybe : Option ExprTree → List Lexeme
spell_maybe None = []
spell_maybe (Some e) = spell_expr e

abbrev pub spell_maybe_init : Option InitTree → List Lexeme
spell_maybe_init None = []
spell_maybe_init (Some i) = sign Equal ∷ spell_init i

abbrev pub spell_init_declarator : DeclaratorTree × Option InitTree → List Lexeme
spell_init_declarator d = spell_declarator d.0 ++ spell_maybe_init d.1

abbrev pub spell_declaration : DeclarationTree → List Lexeme
spell_declaration (Declares at ss ds) = spell_specifiers ss ++ (with_commas (map spell_init_declarator ds) ++ sign Semicolon ∷ [])
spell_declaration (Asserts at e message_at message) = spell_assert (spell_expr e) message

abbrev pub spell_declarations : List DeclarationTree → List Lexeme
spell_declarations [] = []
spell_declarations (d ∷ ds) = spell_declaration d ++ spell_declarations ds

-- with the first semicolon
abbrev pub spell_start : ForStart → List Lexeme
spell_start (StartExpr e) = spell_maybe e ++ sign Semicolon ∷ []
spell_start (StartDeclaration d) = spell_declaration d

abbrev mutual
  pub spell_stmt : StmtTree → List Lexeme
  spell_stmt (Labelled at n s) = named n ∷ sign Colon ∷ spell_stmt s
  spell_stmt (Case at e s) = word CaseWord ∷ (spell_expr e ++ (sign Colon ∷ spell_stmt s))
  spell_stmt (Default at s) = word DefaultWord ∷ sign Colon ∷ spell_stmt s
  spell_stmt (Compound at items) = in_braces (spell_block items)
  spell_stmt (Expression at e) = spell_maybe e ++ sign Semicolon ∷ []
  spell_stmt (If at e s) = word IfWord ∷ (in_parens (spell_expr e) ++ spell_stmt s)
  spell_stmt (IfElse at e s u) = word IfWord ∷ (in_parens (spell_expr e) ++ (spell_stmt s ++ (word ElseWord ∷ spell_stmt u)))
  spell_stmt (Switch at e s) = word SwitchWord ∷ (in_parens (spell_expr e) ++ spell_stmt s)
  spell_stmt (While at e s) = word WhileWord ∷ (in_parens (spell_expr e) ++ spell_stmt s)
  spell_stmt (Do at s e) = word DoWord ∷ (spell_stmt s ++ (word WhileWord ∷ (in_parens (spell_expr e) ++ sign Semicolon ∷ [])))
  spell_stmt (For at start c step s) = word ForWord ∷ (in_parens (spell_start start ++ (spell_maybe c ++ (sign Semicolon ∷ spell_maybe step))) ++ spell_stmt s)
  spell_stmt (Goto at n) = word GotoWord ∷ named n ∷ sign Semicolon ∷ []
  spell_stmt (Continue at) = word ContinueWord ∷ sign Semicolon ∷ []
  spell_stmt (Break at) = word BreakWord ∷ sign Semicolon ∷ []
  spell_stmt (Return at e) = word ReturnWord ∷ (spell_maybe e ++ sign Semicolon ∷ [])

  pub spell_block_item : BlockItem → List Lexeme
  spell_block_item (Declaring d) = spell_declaration d
  spell_block_item (Doing s) = spell_stmt s

  pub spell_block : BlockItems → List Lexeme
  spell_block NoItems = []
  spell_block (MoreItems i is) = spell_block_item i ++ spell_block is

abbrev pub spell_external : ExternalTree → List Lexeme
spell_external (Definition at ss d ds body_at body) = spell_specifiers ss ++ (spell_declarator d ++ (spell_declarations ds ++ in_braces (spell_block body)))
spell_external (External d) = spell_declaration d

abbrev pub spell_unit : UnitTree → List Lexeme
spell_unit [] = []
spell_unit (d ∷ ds) = spell_external d ++ spell_unit ds
