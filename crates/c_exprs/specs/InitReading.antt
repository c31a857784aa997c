-- Device: the reading of initialisers (6.7.9).
use Rattle.std.specs.Prelude.{ℕ, Bool, nat_le, List, [], ◌∷◌}
use Rattle.cil_base.specs.declared.tokens.Punctuator.TheVariants.{LeftBrace, RightBrace, RightBracket, Equal}
use Rattle.typedef_scopes.specs.Scopes.{Scope}
use Rattle.c_tree.specs.declared.level.Level.TheVariants.{Conditional as ConditionalLevel, Assignment}
use Rattle.c_tree.specs.Syntax.{InitTree, Single, Braces, ItemTree, Item, ItemTrees, NoItems, MoreItems, DesignatorTree, AtIndex, AtMember, DesignatorTrees, NoDesignators, MoreDesignators}
use Rattle.c_exprs.specs.declared.words.Designation.{Designation}
use Rattle.c_exprs.specs.declared.words.Designation.TheVariants.{Index as ByIndex, Member as ByMember}
use Rattle.c_cursor.specs.Readers.{Reader, pure, here, one, bind, when, guard, many}
use Rattle.c_cursor.specs.Classes.{is_sign, next_is, take, a_name}
use Rattle.c_exprs.specs.Classes.{is_designation, a_designation}
use Rattle.c_exprs.specs.GoesOn.{goes_on_expr}
use Rattle.c_exprs.specs.Subs.{In, Subs, stopped, grow, listed_to}
use Rattle.c_exprs.specs.ExprReading.{expression, braced}

-- designators

abbrev pub designator_index : ℕ → Subs → ℕ → List Scope → Reader (In DesignatorTree)
designator_index h sub at ds = bind (expression h sub ConditionalLevel ds) (λ e. bind (take (is_sign RightBracket)) (λ c. pure (AtIndex at e.0, e.1)))

abbrev pub designator_member : ℕ → List Scope → Reader (In DesignatorTree)
designator_member at ds = bind (one a_name) (λ n. pure (AtMember at n, ds))

abbrev pub behind_designation : ℕ → Subs → ℕ → List Scope → Designation → Reader (In DesignatorTree)
behind_designation h sub at ds ByIndex = designator_index h sub at ds
behind_designation h sub at ds ByMember = designator_member at ds

abbrev pub designator : ℕ → Subs → List Scope → Reader (In DesignatorTree)
designator h sub ds = bind here (λ at. bind (one a_designation) (λ k. behind_designation h sub at ds k))

abbrev pub designator_trees : List DesignatorTree → DesignatorTrees
designator_trees [] = NoDesignators
designator_trees (d ∷ ds) = MoreDesignators d (designator_trees ds)

abbrev pub more_designators : ℕ → Subs → In (List DesignatorTree) → Reader (In (List DesignatorTree))
more_designators h sub x = many (λ y. next_is is_designation) (grow (designator h sub)) x

abbrev pub some_designators : ℕ → Subs → List Scope → Reader (In (List DesignatorTree))
some_designators h sub ds = bind (designator h sub ds) (λ d. more_designators h sub (d.0 ∷ [], d.1))

-- `{ items }`
abbrev pub braces : Subs → List Scope → Reader (In InitTree)
braces sub ds = bind here (λ at. bind (braced sub ds) (λ x. stopped (goes_on_expr Assignment) (Braces at x.0.0 x.0.1, x.1)))

abbrev pub single : ℕ → Subs → List Scope → Reader (In InitTree)
single h sub ds = bind (expression h sub Assignment ds) (λ e. pure (Single e.0, e.1))

abbrev pub initialiser : ℕ → Subs → List Scope → Reader (In InitTree)
initialiser h sub ds = when (next_is (is_sign LeftBrace)) (braces sub ds) (single h sub ds)

-- items

abbrev pub behind_designators : ℕ → Subs → In DesignatorTrees → Reader (In ItemTree)
behind_designators h sub d = bind (take (is_sign Equal)) (λ c. bind (initialiser h sub d.1) (λ i. pure (Item d.0 i.0, i.1)))

abbrev pub designated : ℕ → Subs → List Scope → Reader (In ItemTree)
designated h sub ds = bind (some_designators h sub ds) (λ d. behind_designators h sub (designator_trees d.0, d.1))

abbrev pub undesignated : ℕ → Subs → List Scope → Reader (In ItemTree)
undesignated h sub ds = bind (initialiser h sub ds) (λ i. pure (Item NoDesignators i.0, i.1))

abbrev pub item : ℕ → Subs → List Scope → Reader (In ItemTree)
item h sub ds = when (next_is is_designation) (designated h sub ds) (undesignated h sub ds)

abbrev pub item_trees : List ItemTree → ItemTrees
item_trees [] = NoItems
item_trees (i ∷ is) = MoreItems i (item_trees is)

abbrev pub some_items : ℕ → Subs → List Scope → Reader (In (List ItemTree × Bool))
some_items h sub ds = listed_to (next_is (is_sign RightBrace)) (pure tt) (item h sub) ds

abbrev pub items : ℕ → Subs → List Scope → Reader (In (ItemTrees × Bool))
items h sub ds = guard (nat_le 1 h) (bind (some_items h sub ds) (λ x. pure ((item_trees x.0.0, x.0.1), x.1)))
