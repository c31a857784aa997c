-- The declarators of an external declaration, where the code has its specifiers behind a reference.
use Rattle.std.proofs.Common.{◌≡◌, sym, ap, ◌∙◌, subst, List, [], ◌∷◌, ℕ, Bool, Option, Result, Ok}
use Rattle.cil_base.specs.declared.tokens.Punctuator.TheVariants.{Semicolon}
use Rattle.typedef_scopes.specs.Scopes.{Scope}
use Rattle.c_tree.specs.declared.expression.Specifier.{Specifier}
use Rattle.c_tree.specs.Syntax.{DeclaratorTree, InitTree}
use Rattle.c_tree.specs.Units.{Declares, ExternalTree, External}
use Rattle.c_tree.specs.View.{specifiers_of}
use Rattle.c_tree.specs.Scoped.{name_of, has_typedef, declared_if}
use Rattle.c_cursor.specs.declared.stops.ParseStop.{ParseStop}
use Rattle.c_exprs.specs.declared.words.DeclaratorForm.TheVariants.{Definition as InDefinition}
use Rattle.c_cursor.specs.Readers.{Input, and_then, bind, pure}
use Rattle.c_cursor.specs.Classes.{is_sign, take}
use Rattle.c_cursor.specs.Given.{Gives}
use Rattle.c_exprs.specs.Subs.{In, more_listed}
use Rattle.c_parser.specs.Parts.{Parts}
use Rattle.c_parser.specs.DeclarationReading.{init_declarator, naming}
use Rattle.c_parser.specs.ExternalReading.{more_declarators, defined_or_declared, first_declarator}

pub more_then : {A : Type 0} (seen : A → In ExternalTree) (r : Result A ParseStop) (p : Parts) (at : ℕ) (xs ys : List Specifier) (x : DeclaratorTree × Option InitTree) (zs : List (DeclaratorTree × Option InitTree)) (ds es : List Scope) (i j k : Input) → xs ≡ ys →
    more_listed (init_declarator p (has_typedef (specifiers_of xs))) (x ∷ [], ds) i ≡ Ok ((zs, es), j) →
    Gives seen r (bind (take (is_sign Semicolon)) (λ c. pure (External (Declares at (specifiers_of ys) zs), es)) j) k → Gives seen r (more_declarators p at (specifiers_of ys) (x, ds) i) k
more_then seen r p at xs ys x zs ds es i j k same read g =
    let listed : more_listed (init_declarator p (has_typedef (specifiers_of ys))) (x ∷ [], ds) i ≡ Ok ((zs, es), j) = subst (λ us. more_listed (init_declarator p (has_typedef (specifiers_of us))) (x ∷ [], ds) i ≡ Ok ((zs, es), j)) same read in
    subst (λ q. Gives seen r q k) (sym (ap (and_then (λ us. bind (take (is_sign Semicolon)) (λ c. pure (External (Declares at (specifiers_of ys) us.0), us.1)))) listed)) g

pub first_then : {A : Type 0} (seen : A → In ExternalTree) (r : Result A ParseStop) (p : Parts) (at : ℕ) (xs ys : List Specifier) (typedef : Bool) (d : DeclaratorTree) (ds es fs : List Scope) (i j k : Input) → typedef ≡ has_typedef (specifiers_of xs) → xs ≡ ys →
    p.trees.declarator InDefinition ds i ≡ Ok ((d, es), j) → fs ≡ declared_if (name_of d) typedef es →
    Gives seen r (defined_or_declared p at (specifiers_of ys) (d, fs) j) k → Gives seen r (first_declarator p at (specifiers_of ys, ds) i) k
first_then seen r p at xs ys typedef d ds es fs i j k is same read named g =
    let there : fs ≡ declared_if (name_of d) (has_typedef (specifiers_of ys)) es = named ∙ ap (λ b. declared_if (name_of d) b es) (is ∙ ap (λ us. has_typedef (specifiers_of us)) same) in
    subst (λ q. Gives seen r q k) (sym (ap (and_then (λ z. defined_or_declared p at (specifiers_of ys) (naming (has_typedef (specifiers_of ys)) z))) read)) (subst (λ ss. Gives seen r (defined_or_declared p at (specifiers_of ys) (d, ss) j) k) there g)
