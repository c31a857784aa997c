-- Device: the reading of specifiers and of the bodies of structures, unions and enumerations (6.7.1 to 6.7.4).
use Rattle.std.specs.Prelude.{ℕ, Bool, false, nat_le, nat_lt, ◌||◌, List, [], ◌∷◌, Option, Some, None}
use Rattle.cil_base.specs.declared.numbers.NameId.{NameId}
use Rattle.cil_base.specs.declared.tokens.Punctuator.TheVariants.{LeftParen, RightParen, LeftBrace, RightBrace, Colon, Semicolon, Comma as CommaSign, Equal}
use Rattle.typedef_scopes.specs.Scopes.{Scope, declared}
use Rattle.c_tree.specs.declared.words.StructKind.{StructKind}
use Rattle.c_tree.specs.declared.words.StructKind.TheVariants.{Struct, Union}
use Rattle.c_tree.specs.declared.words.TagKind.{TagKind}
use Rattle.c_tree.specs.declared.words.TagKind.TheVariants.{Struct as StructTag, Union as UnionTag, Enum as EnumTag}
use Rattle.c_tree.specs.declared.level.Level.TheVariants.{Conditional as ConditionalLevel}
use Rattle.c_tree.specs.Syntax.{ExprTree, SpecifierTree, Storage, Basic, Qualified, Functional, TypedefName, Tag, StructBody, EnumBody, SpecifierTrees, NoSpecifiers, MoreSpecifiers, MemberTree, MemberLine, MemberAssert, MemberTrees, NoMembers, MoreMembers, MemberDeclaratorTree, Plain, BitField, MemberDeclaratorTrees, NoMemberDeclarators, MoreMemberDeclarators, EnumeratorTree, Enumerates, EnumeratorTrees, NoEnumerators, MoreEnumerators, NoExpr, SomeExpr, DeclaratorTree, Absent}
use Rattle.c_tree.specs.Height.{tag_height}
use Rattle.c_tree.specs.Scoped.{names_type}
use Rattle.c_exprs.specs.declared.words.Piece.{Piece}
use Rattle.c_exprs.specs.declared.words.Piece.TheVariants.{Storage as StoragePiece, Basic as BasicPiece, Qualifier as QualifierPiece, Function as FunctionPiece, Name as NamePiece, Struct as StructPiece, Enum as EnumPiece}
use Rattle.c_exprs.specs.declared.words.SpecifierForm.{SpecifierForm}
use Rattle.c_exprs.specs.declared.words.SpecifierForm.TheVariants.{TypeName as InTypeName}
use Rattle.c_exprs.specs.declared.words.DeclaratorForm.TheVariants.{Member as InMember}
use Rattle.c_cursor.specs.Readers.{Reader, pure, here, one, bind, when, guard, many}
use Rattle.c_cursor.specs.Classes.{is_sign, is_name, is_assert_word, next_is, next_is_not, take, a_name}
use Rattle.c_exprs.specs.Classes.{piece_for}
use Rattle.c_exprs.specs.GoesOn.{goes_on_specifiers}
use Rattle.c_cursor.specs.Literals.{some_literals}
use Rattle.c_exprs.specs.Subs.{In, Subs, grow, listed, listed_to}

-- members (6.7.2.1)

-- `: width`
abbrev pub bit_field : Subs → DeclaratorTree → List Scope → Reader (In MemberDeclaratorTree)
bit_field sub d ds = bind (take (is_sign Colon)) (λ c. bind (sub.expr ConditionalLevel ds) (λ e. pure (BitField d e.0, e.1)))

abbrev pub unnamed_field : Subs → List Scope → Reader (In MemberDeclaratorTree)
unnamed_field sub ds = bind here (λ at. bit_field sub (Absent at) ds)

abbrev pub named_field : Subs → In DeclaratorTree → Reader (In MemberDeclaratorTree)
named_field sub d = when (next_is (is_sign Colon)) (bit_field sub d.0 d.1) (pure (Plain d.0, d.1))

abbrev pub member_declarator : Subs → List Scope → Reader (In MemberDeclaratorTree)
member_declarator sub ds = when (next_is (is_sign Colon)) (unnamed_field sub ds) (bind (sub.declarator InMember ds) (λ d. named_field sub d))

abbrev pub member_declarator_trees : List MemberDeclaratorTree → MemberDeclaratorTrees
member_declarator_trees [] = NoMemberDeclarators
member_declarator_trees (d ∷ ds) = MoreMemberDeclarators d (member_declarator_trees ds)

abbrev pub member_declarators : Subs → List Scope → Reader (In (List MemberDeclaratorTree))
member_declarators sub ds = when (next_is (is_sign Semicolon)) (pure ([], ds)) (listed (member_declarator sub) ds)

abbrev pub member_line_behind : Subs → In SpecifierTrees → Reader (In MemberTree)
member_line_behind sub ss = bind (member_declarators sub ss.1) (λ x. bind (take (is_sign Semicolon)) (λ c. pure (MemberLine ss.0 (member_declarator_trees x.0), x.1)))

abbrev pub member_line : Subs → List Scope → Reader (In MemberTree)
member_line sub ds = bind (sub.specifiers InTypeName ds) (λ ss. member_line_behind sub ss)

-- `, message ) ;`
abbrev pub assert_end : ℕ → In ExprTree → Reader (In MemberTree)
assert_end at e = bind (take (is_sign CommaSign)) (λ c. bind here (λ m. bind some_literals (λ texts. bind (take (is_sign RightParen)) (λ c. bind (take (is_sign Semicolon)) (λ c. pure (MemberAssert at e.0 m texts, e.1))))))

abbrev pub assert_behind : Subs → ℕ → List Scope → Reader (In MemberTree)
assert_behind sub at ds = bind (take is_assert_word) (λ c. bind (take (is_sign LeftParen)) (λ c. bind (sub.expr ConditionalLevel ds) (λ e. assert_end at e)))

abbrev pub member_assert : Subs → List Scope → Reader (In MemberTree)
member_assert sub ds = bind here (λ at. assert_behind sub at ds)

abbrev pub member : Subs → List Scope → Reader (In MemberTree)
member sub ds = when (next_is is_assert_word) (member_assert sub ds) (member_line sub ds)

abbrev pub member_trees : List MemberTree → MemberTrees
member_trees [] = NoMembers
member_trees (m ∷ ms) = MoreMembers m (member_trees ms)

abbrev pub more_members : Subs → In (List MemberTree) → Reader (In (List MemberTree))
more_members sub x = many (λ y. next_is_not RightBrace) (grow (member sub)) x

abbrev pub members : Subs → List Scope → Reader (In (List MemberTree))
members sub ds = bind (member sub ds) (λ m. more_members sub (m.0 ∷ [], m.1))

-- `{ members }`
abbrev pub struct_body : ℕ → Subs → ℕ → StructKind → Option NameId → List Scope → Reader (In SpecifierTree)
struct_body h sub at kind tag ds =
    guard (nat_lt (tag_height tag) h) (bind (take (is_sign LeftBrace)) (λ c. bind (members sub ds) (λ ms. bind (take (is_sign RightBrace)) (λ c. pure (StructBody at kind tag (member_trees ms.0), ms.1)))))

abbrev pub struct_tag : StructKind → TagKind
struct_tag Struct = StructTag
struct_tag Union = UnionTag

abbrev pub behind_struct_tag : ℕ → Subs → ℕ → StructKind → NameId → List Scope → Reader (In SpecifierTree)
behind_struct_tag h sub at kind tag ds = when (next_is (is_sign LeftBrace)) (struct_body h sub at kind (Some tag) ds) (pure (Tag at (struct_tag kind) tag, ds))

abbrev pub behind_struct : ℕ → Subs → ℕ → StructKind → List Scope → Reader (In SpecifierTree)
behind_struct h sub at kind ds = when (next_is is_name) (bind (one a_name) (λ tag. behind_struct_tag h sub at kind tag ds)) (struct_body h sub at kind None ds)

-- enumerations (6.7.2.2); an enumerator is declared behind its value

-- `= value`
abbrev pub enumerator_value : Subs → ℕ → NameId → List Scope → Reader (In EnumeratorTree)
enumerator_value sub at n ds = bind (take (is_sign Equal)) (λ c. bind (sub.expr ConditionalLevel ds) (λ e. pure (Enumerates at n (SomeExpr e.0), declared n false e.1)))

abbrev pub enumerator_behind : Subs → ℕ → NameId → List Scope → Reader (In EnumeratorTree)
enumerator_behind sub at n ds = when (next_is (is_sign Equal)) (enumerator_value sub at n ds) (pure (Enumerates at n NoExpr, declared n false ds))

abbrev pub enumerator : Subs → List Scope → Reader (In EnumeratorTree)
enumerator sub ds = bind here (λ at. bind (one a_name) (λ n. enumerator_behind sub at n ds))

abbrev pub enumerator_trees : List EnumeratorTree → EnumeratorTrees
enumerator_trees [] = NoEnumerators
enumerator_trees (e ∷ es) = MoreEnumerators e (enumerator_trees es)

abbrev pub enumerators : Subs → List Scope → Reader (In (List EnumeratorTree × Bool))
enumerators sub ds = listed_to (next_is (is_sign RightBrace)) (pure tt) (enumerator sub) ds

-- `{ enumerators }`
abbrev pub enum_body : ℕ → Subs → ℕ → Option NameId → List Scope → Reader (In SpecifierTree)
enum_body h sub at tag ds =
    guard (nat_le 2 h) (bind (take (is_sign LeftBrace)) (λ c. bind (enumerators sub ds) (λ es. bind (take (is_sign RightBrace)) (λ c. pure (EnumBody at tag (enumerator_trees es.0.0) es.0.1, es.1)))))

abbrev pub behind_enum_tag : ℕ → Subs → ℕ → NameId → List Scope → Reader (In SpecifierTree)
behind_enum_tag h sub at tag ds = when (next_is (is_sign LeftBrace)) (enum_body h sub at (Some tag) ds) (pure (Tag at EnumTag tag, ds))

abbrev pub behind_enum : ℕ → Subs → ℕ → List Scope → Reader (In SpecifierTree)
behind_enum h sub at ds = when (next_is is_name) (bind (one a_name) (λ tag. behind_enum_tag h sub at tag ds)) (enum_body h sub at None ds)

-- a specifier behind its first token
abbrev pub behind_piece : ℕ → Subs → ℕ → List Scope → Piece → Reader (In SpecifierTree)
behind_piece h sub at ds (StoragePiece w) = pure (Storage at w, ds)
behind_piece h sub at ds (BasicPiece w) = pure (Basic at w, ds)
behind_piece h sub at ds (QualifierPiece w) = pure (Qualified at w, ds)
behind_piece h sub at ds (FunctionPiece w) = pure (Functional at w, ds)
behind_piece h sub at ds (NamePiece n) = pure (TypedefName at n, ds)
behind_piece h sub at ds (StructPiece kind) = behind_struct h sub at kind ds
behind_piece h sub at ds EnumPiece = behind_enum h sub at ds

abbrev pub specifier : ℕ → Subs → SpecifierForm → Bool → List Scope → Reader (In SpecifierTree)
specifier h sub form typed ds = bind here (λ at. bind (one (piece_for h form typed ds)) (λ p. behind_piece h sub at ds p))

-- a type specifier was read among them
abbrev pub some_typed : List SpecifierTree → Bool
some_typed [] = false
some_typed (s ∷ ss) = names_type s || some_typed ss

abbrev pub specifier_trees : List SpecifierTree → SpecifierTrees
specifier_trees [] = NoSpecifiers
specifier_trees (s ∷ ss) = MoreSpecifiers s (specifier_trees ss)

abbrev pub next_specifier : ℕ → Subs → SpecifierForm → In (List SpecifierTree) → Reader (In (List SpecifierTree))
next_specifier h sub form x = grow (specifier h sub form (some_typed x.0)) x

abbrev pub more_specifiers : ℕ → Subs → SpecifierForm → In (List SpecifierTree) → Reader (In (List SpecifierTree))
more_specifiers h sub form x = many (λ y. goes_on_specifiers (some_typed y.0) y.1) (next_specifier h sub form) x

abbrev pub some_specifiers : ℕ → Subs → SpecifierForm → List Scope → Reader (In (List SpecifierTree))
some_specifiers h sub form ds = bind (specifier h sub form false ds) (λ s. more_specifiers h sub form (s.0 ∷ [], s.1))

abbrev pub specifiers : ℕ → Subs → SpecifierForm → List Scope → Reader (In SpecifierTrees)
specifiers h sub form ds = bind (some_specifiers h sub form ds) (λ x. pure (specifier_trees x.0, x.1))
