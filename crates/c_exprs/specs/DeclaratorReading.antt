-- Device: the reading of declarators (6.7.6, 6.7.7).
use Rattle.std.specs.Prelude.{ℕ, Bool, not, ◌&&◌, ◌||◌, nat_le, List, [], ◌∷◌, ◌++◌, Option}
use Rattle.cil_base.specs.declared.numbers.NameId.{NameId}
use Rattle.cil_base.specs.declared.tokens.Punctuator.TheVariants.{LeftParen, RightParen, RightBracket, Star as StarSign, Ellipsis, Comma as CommaSign}
use Rattle.typedef_scopes.specs.Scopes.{Scope}
use Rattle.c_tree.specs.declared.words.Qualifier.{Qualifier}
use Rattle.c_tree.specs.declared.level.Level.TheVariants.{Assignment}
use Rattle.c_tree.specs.Syntax.{ExprTree, SpecifierTrees, DeclaratorTree, Declared, Absent, Grouped, Pointer, Array, Function, Unprototyped, BoundTree, Unspecified, Star, Size, StaticSize, SizeStatic, ParameterTree, Parameter, ParameterTrees, NoParameters, MoreParameters}
use Rattle.c_tree.specs.Levels.{has_some, is_absent, is_underived, declares}
use Rattle.c_tree.specs.Scoped.{entered, name_of, has_typedef, declared_if}
use Rattle.c_tree.specs.Spelling.{Lexeme}
use Rattle.c_exprs.specs.declared.words.SpecifierForm.TheVariants.{Declaration as InDeclaration}
use Rattle.c_exprs.specs.declared.words.DeclaratorForm.{DeclaratorForm}
use Rattle.c_exprs.specs.declared.words.DeclaratorForm.TheVariants.{Parameter as InParameter}
use Rattle.c_exprs.specs.declared.words.Derivation.{Derivation}
use Rattle.c_exprs.specs.declared.words.Derivation.TheVariants.{Array as ArrayOf, Function as FunctionOf}
use Rattle.c_cursor.specs.Readers.{Reader, pure, here, one, bind, when, guard, many}
use Rattle.c_cursor.specs.Classes.{is_sign, is_name, is_static_word, next_is, take, name_kind, a_name}
use Rattle.c_exprs.specs.Classes.{is_qualifier, an_identifier, a_qualifier, is_some_of, begins_parameter, derivation_for, may_be_absent, may_be_named, may_have_identifiers}
use Rattle.c_exprs.specs.GoesOn.{goes_on_declarator}
use Rattle.c_exprs.specs.Subs.{In, Subs, comma_ahead, listed_to}

abbrev pub one_qualifier : List Qualifier → Reader (List Qualifier)
one_qualifier qs = bind (one a_qualifier) (λ q. pure (qs ++ q ∷ []))

-- any number of qualifiers
abbrev pub qualifiers : Reader (List Qualifier)
qualifiers = many (λ qs. next_is is_qualifier) one_qualifier []

-- what stands in the brackets of an array (6.7.6.2), behind the `[` of that number; `named`: the declarator declares a name

abbrev pub sized : Subs → (ExprTree → BoundTree) → List Scope → Reader (In BoundTree)
sized sub bound ds = bind (sub.expr Assignment ds) (λ e. pure (bound e.0, e.1))

-- behind `static`, the first token
abbrev pub static_bound : Subs → ℕ → List Scope → Reader (In BoundTree)
static_bound sub b ds = bind (take is_static_word) (λ c. bind qualifiers (λ qs. sized sub (StaticSize b qs) ds))

abbrev pub bound_static : Subs → ℕ → List Qualifier → List Scope → Reader (In BoundTree)
bound_static sub b qs ds = guard (has_some qs) (bind (take is_static_word) (λ c. sized sub (SizeStatic b qs) ds))

abbrev pub starred_size : Subs → ℕ → ℕ → List Qualifier → List Scope → Reader (In BoundTree)
starred_size sub b at qs ds = bind (sub.starred at ds) (λ e. pure (Size b qs e.0, e.1))

-- behind `*`, which is the bound or begins an expression
abbrev pub behind_star : Subs → Bool → ℕ → ℕ → List Qualifier → List Scope → Reader (In BoundTree)
behind_star sub named b at qs ds = when (next_is (is_sign RightBracket)) (guard (named || not (has_some qs)) (pure (Star b qs, ds))) (starred_size sub b at qs ds)

abbrev pub star_bound : Subs → Bool → ℕ → List Qualifier → List Scope → Reader (In BoundTree)
star_bound sub named b qs ds = bind here (λ at. bind (take (is_sign StarSign)) (λ c. behind_star sub named b at qs ds))

-- behind qualifiers
abbrev pub open_bound : Subs → Bool → ℕ → List Qualifier → List Scope → Reader (In BoundTree)
open_bound sub named b qs ds = when (next_is (is_sign StarSign)) (star_bound sub named b qs ds) (sized sub (Size b qs) ds)

abbrev pub given_bound : Subs → Bool → ℕ → List Qualifier → List Scope → Reader (In BoundTree)
given_bound sub named b qs ds = when (next_is is_static_word) (bound_static sub b qs ds) (open_bound sub named b qs ds)

abbrev pub qualified_bound : Subs → Bool → ℕ → List Qualifier → List Scope → Reader (In BoundTree)
qualified_bound sub named b qs ds = when (next_is (is_sign RightBracket)) (pure (Unspecified b qs, ds)) (given_bound sub named b qs ds)

abbrev pub bound : Subs → Bool → ℕ → List Scope → Reader (In BoundTree)
bound sub named b ds = when (next_is is_static_word) (static_bound sub b ds) (bind qualifiers (λ qs. qualified_bound sub named b qs ds))

-- `bound ]`
abbrev pub array_of : Subs → ℕ → ℕ → In DeclaratorTree → Reader (In DeclaratorTree)
array_of sub at b x = bind (bound sub (declares x.0) b x.1) (λ r. bind (take (is_sign RightBracket)) (λ c. pure (Array at x.0 r.0, r.1)))

-- parameters (6.7.6.3), each in the scope of those before it

abbrev pub parameter_behind : Subs → In SpecifierTrees → Reader (In ParameterTree)
parameter_behind sub ss = bind (sub.declarator InParameter ss.1) (λ d. pure (Parameter ss.0 d.0, declared_if (name_of d.0) (has_typedef ss.0) d.1))

abbrev pub parameter : Subs → List Scope → Reader (In ParameterTree)
parameter sub ds = bind (sub.specifiers InDeclaration ds) (λ ss. parameter_behind sub ss)

abbrev pub parameter_trees : List ParameterTree → ParameterTrees
parameter_trees [] = NoParameters
parameter_trees (p ∷ ps) = MoreParameters p (parameter_trees ps)

abbrev pub parameters : Subs → List Scope → Reader (In (List ParameterTree × Bool))
parameters sub ds = listed_to (next_is (is_sign Ellipsis)) (take (is_sign Ellipsis)) (parameter sub) ds

-- the scopes without the innermost
abbrev pub outer_of : List Scope → List Scope
outer_of [] = []
outer_of (s ∷ []) = []
outer_of (s ∷ t ∷ ss) = s ∷ outer_of (t ∷ ss)

-- `parameters )`
abbrev pub prototyped : Subs → ℕ → In DeclaratorTree → Reader (In DeclaratorTree)
prototyped sub at x = bind (parameters sub (entered x.1)) (λ ps. bind (take (is_sign RightParen)) (λ c. pure (Function at x.0 (parameter_trees ps.0.0) ps.0.1, outer_of ps.1)))

-- `names )`

abbrev pub next_identifier : List Scope → List NameId → Reader (List NameId)
next_identifier ds ns = bind (take (is_sign CommaSign)) (λ c. bind (one (an_identifier ds)) (λ n. pure (ns ++ n ∷ [])))

abbrev pub more_identifiers : List Scope → List NameId → Reader (List NameId)
more_identifiers ds ns = many (λ ns. comma_ahead) (next_identifier ds) ns

abbrev pub identifiers : List Scope → Reader (List NameId)
identifiers ds = bind (one (an_identifier ds)) (λ n. more_identifiers ds (n ∷ []))

abbrev pub unprototyped : ℕ → In DeclaratorTree → Reader (In DeclaratorTree)
unprototyped at x = bind (identifiers x.1) (λ ns. bind (take (is_sign RightParen)) (λ c. pure (Unprototyped at x.0 ns, x.1)))

-- `)`
abbrev pub without_parameters : ℕ → In DeclaratorTree → Reader (In DeclaratorTree)
without_parameters at x = bind (take (is_sign RightParen)) (λ c. pure (Unprototyped at x.0 [], x.1))

-- identifiers stand here: the declarator may be that of a definition, and nothing was derived yet
abbrev pub begins_identifiers : DeclaratorForm → In DeclaratorTree → Option Lexeme → Bool
begins_identifiers form x o = may_have_identifiers form && (is_underived x.0 && next_is (λ k. is_some_of (name_kind k) && not (begins_parameter x.1 k)) o)

abbrev pub with_list : Subs → DeclaratorForm → ℕ → In DeclaratorTree → Reader (In DeclaratorTree)
with_list sub form at x = when (begins_identifiers form x) (unprototyped at x) (prototyped sub at x)

-- behind the `(` of a function's declarator
abbrev pub function_of : Subs → DeclaratorForm → ℕ → In DeclaratorTree → Reader (In DeclaratorTree)
function_of sub form at x = when (next_is (is_sign RightParen)) (without_parameters at x) (with_list sub form at x)

-- behind its first token, which has the number b
abbrev pub behind_derivation : Subs → DeclaratorForm → ℕ → ℕ → In DeclaratorTree → Derivation → Reader (In DeclaratorTree)
behind_derivation sub form at b x ArrayOf = array_of sub at b x
behind_derivation sub form at b x FunctionOf = function_of sub form at x

abbrev pub derivation : ℕ → Subs → DeclaratorForm → ℕ → In DeclaratorTree → Reader (In DeclaratorTree)
derivation h sub form at x = bind here (λ b. bind (one (derivation_for h x.0)) (λ k. behind_derivation sub form at b x k))

-- all derivations behind
abbrev pub derivations : ℕ → Subs → DeclaratorForm → ℕ → In DeclaratorTree → Reader (In DeclaratorTree)
derivations h sub form at x = many (λ y. goes_on_declarator form) (derivation h sub form at) x

-- `declarator )`
abbrev pub group_closed : ℕ → In DeclaratorTree → Reader (In DeclaratorTree)
group_closed at d = guard (not (is_absent d.0)) (bind (take (is_sign RightParen)) (λ c. pure (Grouped at d.0, d.1)))

abbrev pub grouped : Subs → DeclaratorForm → ℕ → List Scope → Reader (In DeclaratorTree)
grouped sub form at ds = bind (sub.declarator form ds) (λ d. group_closed at d)

-- where a name may be absent, a parenthesis in front of `)`, of a typedef name or of a word that begins a parameter is that of a function (6.7.6.3p11)
abbrev pub begins_function : DeclaratorForm → List Scope → Option Lexeme → Bool
begins_function form ds o = may_be_absent form && next_is (λ k. is_sign RightParen k || begins_parameter ds k) o

abbrev pub absent_function : ℕ → Subs → DeclaratorForm → ℕ → List Scope → Reader (In DeclaratorTree)
absent_function h sub form at ds = guard (nat_le 2 h) (function_of sub form at (Absent at, ds))

abbrev pub behind_group : ℕ → Subs → DeclaratorForm → ℕ → List Scope → Reader (In DeclaratorTree)
behind_group h sub form at ds = when (begins_function form ds) (absent_function h sub form at ds) (grouped sub form at ds)

abbrev pub parenthesis : ℕ → Subs → DeclaratorForm → ℕ → List Scope → Reader (In DeclaratorTree)
parenthesis h sub form at ds = bind (take (is_sign LeftParen)) (λ c. behind_group h sub form at ds)

abbrev pub name_or_none : DeclaratorForm → ℕ → List Scope → Reader (In DeclaratorTree)
name_or_none form at ds =
    when (λ o. may_be_named form && next_is is_name o) (bind (one a_name) (λ n. pure (Declared at n, ds))) (guard (may_be_absent form) (pure (Absent at, ds)))

-- what derivations stand behind
abbrev pub inner : ℕ → Subs → DeclaratorForm → ℕ → List Scope → Reader (In DeclaratorTree)
inner h sub form at ds = when (next_is (is_sign LeftParen)) (parenthesis h sub form at ds) (name_or_none form at ds)

abbrev pub direct : ℕ → Subs → DeclaratorForm → ℕ → List Scope → Reader (In DeclaratorTree)
direct h sub form at ds = bind (inner h sub form at ds) (λ x. derivations h sub form at x)

-- `* qualifiers declarator`

abbrev pub pointer_to : Subs → DeclaratorForm → ℕ → List Qualifier → List Scope → Reader (In DeclaratorTree)
pointer_to sub form at qs ds = bind (sub.declarator form ds) (λ d. pure (Pointer at qs d.0, d.1))

abbrev pub pointer : Subs → DeclaratorForm → ℕ → List Scope → Reader (In DeclaratorTree)
pointer sub form at ds = bind (take (is_sign StarSign)) (λ c. bind qualifiers (λ qs. pointer_to sub form at qs ds))

abbrev pub declarator_at : ℕ → Subs → DeclaratorForm → List Scope → ℕ → Reader (In DeclaratorTree)
declarator_at h sub form ds at = when (next_is (is_sign StarSign)) (pointer sub form at ds) (direct h sub form at ds)

abbrev pub declarator : ℕ → Subs → DeclaratorForm → List Scope → Reader (In DeclaratorTree)
declarator h sub form ds = guard (nat_le 1 h) (bind here (λ at. declarator_at h sub form ds at))
