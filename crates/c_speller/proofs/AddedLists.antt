-- The tokens of each list of the code's trees, as its loop puts them.
use Rattle.std.proofs.Common.{◌≡◌, refl, ◌∙◌, ap, subst, ℕ, ◌≤◌, Bool, true, false, nat_eq, List, [], ◌∷◌, ◌++◌, map, length, append_assoc}
use Rattle.cil_base.specs.declared.numbers.NameId.{NameId}
use Rattle.cil_base.specs.declared.tokens.Punctuator.TheVariants.{Equal}
use Rattle.c_tree.specs.declared.words.Qualifier.{Qualifier}
use Rattle.c_speller.specs.declared.spelled.TokenSink.{TokenSink}
use Rattle.c_tree.specs.declared.expression.Expr.{Expr}
use Rattle.c_tree.specs.declared.expression.Specifier.{Specifier}
use Rattle.c_tree.specs.declared.expression.MemberDeclaration.{MemberDeclaration}
use Rattle.c_tree.specs.declared.expression.MemberDeclarator.{MemberDeclarator}
use Rattle.c_tree.specs.declared.expression.Designator.{Designator}
use Rattle.c_tree.specs.declared.expression.Enumerator.{Enumerator}
use Rattle.c_tree.specs.declared.expression.InitItem.{InitItem}
use Rattle.c_tree.specs.declared.expression.Parameter.{Parameter}
use Rattle.c_tree.specs.View.{expr_of, exprs_of, specifier_of, specifiers_of, member_of, members_of, member_declarator_of, member_declarators_of, designator_of, designators_of, enumerator_of, enumerators_of, item_of, items_of, parameter_of, parameters_of}
use Rattle.c_tree.specs.Spelling.{word, sign, named, literal, qualifier_word, with_commas, spell_qualifiers, spell_literals, spell_names, spell_expr, spell_exprs, spell_specifier, spell_specifiers, spell_member, spell_members, spell_member_declarator, spell_member_declarators, spell_enumerator, spell_enumerators, spell_parameter, spell_parameters, spell_item, spell_items, spell_designator, spell_designators, spell_designation}
use Rattle.c_speller.specs.Added.{Adds, flat_of, commas_of, AddedSoFar, CommasSoFar}
use Rattle.c_tree.proofs.ToldLemmas.{some_is}
use Rattle.c_speller.proofs.AddedLemmas.{adds_none, adds_more, added_end, commas_end, between_all}

flat_qualifiers : (xs : List Qualifier) → flat_of (λ q. word (qualifier_word q) ∷ []) xs ≡ spell_qualifiers xs
flat_qualifiers [] = refl
flat_qualifiers (x ∷ xs) = ap (λ z. word (qualifier_word x) ∷ z) (flat_qualifiers xs)

pub qualifiers_end : (names : List (List ℕ)) (old new : TokenSink) (xs : List Qualifier) (i : ℕ) → length xs ≤ i → AddedSoFar names old new (λ q. word (qualifier_word q) ∷ []) xs i → Adds names old new (spell_qualifiers xs)
qualifiers_end names old new xs i le w = subst (λ ts. Adds names old new ts) (flat_qualifiers xs) (added_end names old new (λ q. word (qualifier_word q) ∷ []) xs i le w)

flat_literals : (xs : List (List ℕ)) → flat_of (λ t. literal t ∷ []) xs ≡ spell_literals xs
flat_literals [] = refl
flat_literals (x ∷ xs) = ap (λ z. literal x ∷ z) (flat_literals xs)

pub literals_end : (names : List (List ℕ)) (old new : TokenSink) (xs : List (List ℕ)) (i : ℕ) → length xs ≤ i → AddedSoFar names old new (λ t. literal t ∷ []) xs i → Adds names old new (spell_literals xs)
literals_end names old new xs i le w = subst (λ ts. Adds names old new ts) (flat_literals xs) (added_end names old new (λ t. literal t ∷ []) xs i le w)

between_names : (xs : List NameId) → commas_of (λ n. named n ∷ []) false xs ≡ spell_names xs
between_names xs = between_all (λ n. named n ∷ []) xs

pub names_end : (names : List (List ℕ)) (old new : TokenSink) (xs : List NameId) (i : ℕ) (is_more : Bool) → length xs ≤ i → CommasSoFar names old new (λ n. named n ∷ []) xs i is_more → Adds names old new (spell_names xs)
names_end names old new xs i is_more le w = subst (λ ts. Adds names old new ts) (between_names xs) (commas_end names old new (λ n. named n ∷ []) xs i is_more le w)

flat_specifiers : (xs : List Specifier) → flat_of (λ x. spell_specifier (specifier_of x)) xs ≡ spell_specifiers (specifiers_of xs)
flat_specifiers [] = refl
flat_specifiers (x ∷ xs) = ap (λ z. spell_specifier (specifier_of x) ++ z) (flat_specifiers xs)

pub specifiers_end : (names : List (List ℕ)) (old new : TokenSink) (xs : List Specifier) (i : ℕ) → length xs ≤ i → AddedSoFar names old new (λ x. spell_specifier (specifier_of x)) xs i → Adds names old new (spell_specifiers (specifiers_of xs))
specifiers_end names old new xs i le w = subst (λ ts. Adds names old new ts) (flat_specifiers xs) (added_end names old new (λ x. spell_specifier (specifier_of x)) xs i le w)

flat_members : (xs : List MemberDeclaration) → flat_of (λ x. spell_member (member_of x)) xs ≡ spell_members (members_of xs)
flat_members [] = refl
flat_members (x ∷ xs) = ap (λ z. spell_member (member_of x) ++ z) (flat_members xs)

pub members_end : (names : List (List ℕ)) (old new : TokenSink) (xs : List MemberDeclaration) (i : ℕ) → length xs ≤ i → AddedSoFar names old new (λ x. spell_member (member_of x)) xs i → Adds names old new (spell_members (members_of xs))
members_end names old new xs i le w = subst (λ ts. Adds names old new ts) (flat_members xs) (added_end names old new (λ x. spell_member (member_of x)) xs i le w)

each_exprs : (xs : List Expr) → map (λ x. spell_expr (expr_of x)) xs ≡ spell_exprs (exprs_of xs)
each_exprs [] = refl
each_exprs (x ∷ xs) = ap (λ z. spell_expr (expr_of x) ∷ z) (each_exprs xs)

between_exprs : (xs : List Expr) → commas_of (λ x. spell_expr (expr_of x)) false xs ≡ with_commas (spell_exprs (exprs_of xs))
between_exprs xs = between_all (λ x. spell_expr (expr_of x)) xs ∙ ap with_commas (each_exprs xs)

pub exprs_end : (names : List (List ℕ)) (old new : TokenSink) (xs : List Expr) (i : ℕ) (is_more : Bool) → length xs ≤ i → CommasSoFar names old new (λ x. spell_expr (expr_of x)) xs i is_more → Adds names old new (with_commas (spell_exprs (exprs_of xs)))
exprs_end names old new xs i is_more le w = subst (λ ts. Adds names old new ts) (between_exprs xs) (commas_end names old new (λ x. spell_expr (expr_of x)) xs i is_more le w)

each_member_declarators : (xs : List MemberDeclarator) → map (λ x. spell_member_declarator (member_declarator_of x)) xs ≡ spell_member_declarators (member_declarators_of xs)
each_member_declarators [] = refl
each_member_declarators (x ∷ xs) = ap (λ z. spell_member_declarator (member_declarator_of x) ∷ z) (each_member_declarators xs)

between_member_declarators : (xs : List MemberDeclarator) → commas_of (λ x. spell_member_declarator (member_declarator_of x)) false xs ≡ with_commas (spell_member_declarators (member_declarators_of xs))
between_member_declarators xs = between_all (λ x. spell_member_declarator (member_declarator_of x)) xs ∙ ap with_commas (each_member_declarators xs)

pub member_declarators_end : (names : List (List ℕ)) (old new : TokenSink) (xs : List MemberDeclarator) (i : ℕ) (is_more : Bool) → length xs ≤ i → CommasSoFar names old new (λ x. spell_member_declarator (member_declarator_of x)) xs i is_more → Adds names old new (with_commas (spell_member_declarators (member_declarators_of xs)))
member_declarators_end names old new xs i is_more le w = subst (λ ts. Adds names old new ts) (between_member_declarators xs) (commas_end names old new (λ x. spell_member_declarator (member_declarator_of x)) xs i is_more le w)

each_enumerators : (xs : List Enumerator) → map (λ x. spell_enumerator (enumerator_of x)) xs ≡ spell_enumerators (enumerators_of xs)
each_enumerators [] = refl
each_enumerators (x ∷ xs) = ap (λ z. spell_enumerator (enumerator_of x) ∷ z) (each_enumerators xs)

between_enumerators : (xs : List Enumerator) → commas_of (λ x. spell_enumerator (enumerator_of x)) false xs ≡ with_commas (spell_enumerators (enumerators_of xs))
between_enumerators xs = between_all (λ x. spell_enumerator (enumerator_of x)) xs ∙ ap with_commas (each_enumerators xs)

pub enumerators_end : (names : List (List ℕ)) (old new : TokenSink) (xs : List Enumerator) (i : ℕ) (is_more : Bool) → length xs ≤ i → CommasSoFar names old new (λ x. spell_enumerator (enumerator_of x)) xs i is_more → Adds names old new (with_commas (spell_enumerators (enumerators_of xs)))
enumerators_end names old new xs i is_more le w = subst (λ ts. Adds names old new ts) (between_enumerators xs) (commas_end names old new (λ x. spell_enumerator (enumerator_of x)) xs i is_more le w)

each_parameters : (xs : List Parameter) → map (λ x. spell_parameter (parameter_of x)) xs ≡ spell_parameters (parameters_of xs)
each_parameters [] = refl
each_parameters (x ∷ xs) = ap (λ z. spell_parameter (parameter_of x) ∷ z) (each_parameters xs)

between_parameters : (xs : List Parameter) → commas_of (λ x. spell_parameter (parameter_of x)) false xs ≡ with_commas (spell_parameters (parameters_of xs))
between_parameters xs = between_all (λ x. spell_parameter (parameter_of x)) xs ∙ ap with_commas (each_parameters xs)

pub parameters_end : (names : List (List ℕ)) (old new : TokenSink) (xs : List Parameter) (i : ℕ) (is_more : Bool) → length xs ≤ i → CommasSoFar names old new (λ x. spell_parameter (parameter_of x)) xs i is_more → Adds names old new (with_commas (spell_parameters (parameters_of xs)))
parameters_end names old new xs i is_more le w = subst (λ ts. Adds names old new ts) (between_parameters xs) (commas_end names old new (λ x. spell_parameter (parameter_of x)) xs i is_more le w)

each_items : (xs : List InitItem) → map (λ x. spell_item (item_of x)) xs ≡ spell_items (items_of xs)
each_items [] = refl
each_items (x ∷ xs) = ap (λ z. spell_item (item_of x) ∷ z) (each_items xs)

between_items : (xs : List InitItem) → commas_of (λ x. spell_item (item_of x)) false xs ≡ with_commas (spell_items (items_of xs))
between_items xs = between_all (λ x. spell_item (item_of x)) xs ∙ ap with_commas (each_items xs)

pub items_end : (names : List (List ℕ)) (old new : TokenSink) (xs : List InitItem) (i : ℕ) (is_more : Bool) → length xs ≤ i → CommasSoFar names old new (λ x. spell_item (item_of x)) xs i is_more → Adds names old new (with_commas (spell_items (items_of xs)))
items_end names old new xs i is_more le w = subst (λ ts. Adds names old new ts) (between_items xs) (commas_end names old new (λ x. spell_item (item_of x)) xs i is_more le w)

-- designators and `=`, where there are any
flat_designators : (xs : List Designator) → flat_of (λ d. spell_designator (designator_of d)) xs ++ sign Equal ∷ [] ≡ spell_designators (designators_of xs)
flat_designators [] = refl
flat_designators (x ∷ xs) = append_assoc (spell_designator (designator_of x)) (flat_of (λ d. spell_designator (designator_of d)) xs) (sign Equal ∷ []) ∙ ap (λ z. spell_designator (designator_of x) ++ z) (flat_designators xs)

pub no_designation : (names : List (List ℕ)) (old : TokenSink) (xs : List Designator) (e : Bool) → e ≡ nat_eq (length xs) 0 → e ≡ true → Adds names old old (spell_designation (designators_of xs))
no_designation names old [] e is so = adds_none names old
no_designation names old (x ∷ xs) e is so = absurd (cc (some_is (length xs), is, so))

pub some_designation : (names : List (List ℕ)) (old between new : TokenSink) (xs : List Designator) (e : Bool) → e ≡ nat_eq (length xs) 0 → e ≡ false
    → Adds names old between (flat_of (λ d. spell_designator (designator_of d)) xs) → Adds names between new (sign Equal ∷ []) → Adds names old new (spell_designation (designators_of xs))
some_designation names old between new [] e is no_one a b = absurd (cc (is, no_one))
some_designation names old between new (x ∷ xs) e is no_one a b = subst (λ ts. Adds names old new ts) (flat_designators (x ∷ xs)) (adds_more names old between new (flat_of (λ d. spell_designator (designator_of d)) (x ∷ xs)) (sign Equal ∷ []) a b)
