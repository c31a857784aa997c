-- Device: the reading of the items of a block gives exactly the grammatical ones.
use Rattle.std.proofs.Common.{◌≡◌, refl, sym, ap, ◌∙◌, subst, ℕ, suc, ◌+◌, ◌-◌, ◌<◌, ◌≤◌, max, length, Bool, true, false, not, ◌&&◌, nat_eq, nat_le, List, [], ◌∷◌, ◌++◌, Option, Some, None, append_assoc, append-nil, arith, length-append, true≢false}
use Rattle.cil_base.specs.declared.numbers.NameId.{NameId}
use Rattle.cil_base.specs.declared.tokens.TokenKind.TheVariants.{Name as IsName, Punctuator as IsPunctuator}
use Rattle.cil_base.specs.declared.tokens.Punctuator.TheVariants.{LeftBrace, RightBrace, Colon, Semicolon}
use Rattle.typedef_scopes.specs.Scopes.{Scope, is_type}
use Rattle.c_tree.specs.Syntax.{TypedefName, NoSpecifiers, MoreSpecifiers}
use Rattle.c_tree.specs.Units.{DeclarationTree, Declares, StmtTree, Labelled, Compound, Expression, BlockItem, Declaring, Doing, BlockItems, NoItems, MoreItems}
use Rattle.c_tree.specs.Spelling.{Lexeme, sign, named, in_braces}
use Rattle.c_tree.specs.UnitSpelling.{spell_declaration, spell_stmt, spell_block_item, spell_block}
use Rattle.c_tree.specs.Height.{declaration_height, stmt_height, item_of_block_height, block_height}
use Rattle.c_tree.specs.Levels.{takes_else, levelled_declaration, levelled_stmt, levelled_block_item, levelled_block}
use Rattle.c_tree.specs.Placed.{placed_block_item, placed_block}
use Rattle.c_tree.specs.Scoped.{entered, scoped_declaration, scoped_stmt, scoped_block_item, scoped_block, after_block_item}
use Rattle.c_cursor.specs.Readers.{Input, head}
use Rattle.c_cursor.specs.Classes.{is_sign, next_is, next_is_not, if_so}
use Rattle.c_exprs.specs.Classes.{is_some_of}
use Rattle.c_exprs.specs.Subs.{In, grow}
use Rattle.c_exprs.proofs.Laws.{Lawful, Faults, Any, Anywhere, And, At, Steps, Mapped, Behind, Before, Both, Either, Met, Unmet, Under, There, Opens, bare, mapped_lawful, behind_lawful, before_lawful, when_lawful, guard_lawful, guard_known, many_lawful, opens_lawful, there_lawful, said, known}
use Rattle.c_cursor.proofs.Tokens.{eq_true, true_eq}
use Rattle.c_exprs.proofs.Tokens.{both, le_true, true_le, sign_tells}
use Rattle.c_exprs.proofs.Relations.{Below}
use Rattle.c_exprs.proofs.Lists.{grown, Grows, Over, Rest, rest_of_steps, steps_of_rest, Last, last_of, of_last, all_last}
use Rattle.c_parser.specs.declared.words.StatementWord.TheVariants.{Block as BlockStart}
use Rattle.c_parser.specs.StatementWords.{type_ahead, begins_declaration, label_ahead, when_label}
use Rattle.c_parser.specs.UnitForms.{is_else_word}
use Rattle.c_parser.specs.Parts.{Parts}
use Rattle.c_parser.specs.StatementReading.{declaring, doing, typed_item, untyped_item, item, block_items, items, items_closed, block_behind, body}
use Rattle.c_parser.proofs.Looking.{type_is, moves, label_lawful}
use Rattle.c_parser.proofs.UnitRelations.{DeclarationIs, StatementIs, ItemIs, EndsItem, BodyIs, LawfulParts}
use Rattle.c_parser.proofs.StatementHeads.{else_tells, word_lexeme, word_of, behind_first, declaration_begins, declaration_off, declaration_no_label, statement_off, else_off, brace_off, declarations_off, tall_statement, statement_some, declaration_some, typed_tall, typed_label, typed_statement_tall, first_kept}
use Rattle.c_parser.proofs.ControlLaws.{BehindWord, EndsS}

and_none : (a b : Bool) → b ≡ false → (a && b) ≡ false
and_none true b e = e
and_none false b e = refl

not_brace : (t rest : List Lexeme) → 0 < length t → next_is (is_sign RightBrace) (head (t ++ rest)) ≡ false → next_is_not RightBrace (head (t ++ rest)) ≡ true
not_brace [] rest some e = absurd (omega arith)
not_brace (u ∷ us) rest some e = ap not e

-- behind an item, where no else stands
item_free : (x : BlockItem) (o : Option Lexeme) → next_is is_else_word o ≡ false → EndsItem x o
item_free (Declaring d) o e = tt
item_free (Doing s) o e = and_none (takes_else s) (next_is is_else_word o) e

untyped_name : (ds : List Scope) (n : NameId) → type_ahead ds (Some (named n)) ≡ false → begins_declaration ds (IsName n) ≡ false
untyped_name ds n e = by (is_type ds n) refl e
  where
    by : (b : Bool) → is_type ds n ≡ b → is_some_of (if_so b n) ≡ false → begins_declaration ds (IsName n) ≡ false
    by true t s = absurd (true≢false s)
    by false t s = rw t refl

-- the scopes behind the items of a block
abbrev after_items : List Scope → List BlockItem → List Scope
after_items ds [] = ds
after_items ds (x ∷ xs) = after_items (after_block_item ds x) xs

item_list : BlockItems → List BlockItem
item_list NoItems = []
item_list (MoreItems i is) = i ∷ item_list is

item_list_back : (b : BlockItems) → block_items (item_list b) ≡ b
unfolding item_list
item_list_back NoItems = refl
item_list_back (MoreItems i is) = ap (MoreItems i) (item_list_back is)

-- the items of a block and its closing brace
pub record ClosedItemsIs (h : ℕ) (ds : List Scope) (b : BlockItems) (n : ℕ) (text : List Lexeme) : Type 0 where
  pub levelled : levelled_block b ≡ true
  pub placed : placed_block n b ≡ true
  pub scoped : scoped_block ds b ≡ true
  pub low : block_height b ≤ h - 1
  pub spelled : text ≡ spell_block b ++ sign RightBrace ∷ []

module _ (h : ℕ) (p : Parts) (parts : LawfulParts h p) where
  abbrev EndsI : In BlockItem → Option Lexeme → Type 0
  EndsI x = EndsItem x.0

  abbrev DoingIs : List Scope → In BlockItem → ℕ → List Lexeme → Type 0
  DoingIs ds = Mapped (λ (s : In StmtTree). (Doing s.0, s.1)) (StatementIs (Below h) ds)

  abbrev DeclaringIs : List Scope → In BlockItem → ℕ → List Lexeme → Type 0
  DeclaringIs ds = Mapped (λ (d : In DeclarationTree). (Declaring d.0, d.1)) (DeclarationIs (Below h) ds)

  doing_lawful : (ds : List Scope) → Lawful Any (doing p ds) (DoingIs ds) EndsI
  doing_lawful ds = mapped_lawful (λ s. (Doing s.0, s.1)) (λ s o k. k) (λ s o k. k) (parts.statement ds)

  declaring_lawful : (ds : List Scope) → Lawful Any (declaring p ds) (DeclaringIs ds) EndsI
  declaring_lawful ds = mapped_lawful (λ d. (Declaring d.0, d.1)) (λ d o k. tt) (λ d o k. tt) (parts.declaration ds)

  doing_some : (ds : List Scope) (x : In BlockItem) (n : ℕ) (t : List Lexeme) → DoingIs ds x n t → 0 < length t
  doing_some ds x n t m = rw m.holds.spelled (statement_some m.value.0)

  declaring_some : (ds : List Scope) (x : In BlockItem) (n : ℕ) (t : List Lexeme) → DeclaringIs ds x n t → 0 < length t
  declaring_some ds x n t m = rw m.holds.spelled (declaration_some m.value.0)

  -- a label or a declaration, where a typedef name stands next

  abbrev TypedIs : List Scope → In BlockItem → ℕ → List Lexeme → Type 0
  TypedIs ds = Under (nat_le 3 h) (Either (Opens (type_ahead ds) true (DoingIs ds)) (Opens (type_ahead ds) true (DeclaringIs ds)))

  module _ (three : 3 ≤ h) where
    doing_label : (ds : List Scope) (x : In BlockItem) (n : ℕ) (t rest : List Lexeme) → Opens (type_ahead ds) true (DoingIs ds) x n t → label_ahead (t ++ rest) ≡ true
    doing_label ds x n t rest o =
        let m = o.holds in
        let first : type_ahead ds (head (spell_stmt m.value.0)) ≡ true = ap (λ u. type_ahead ds (head u)) (sym m.holds.spelled) ∙ o.first (doing_some ds x n t m) in
        rw m.holds.spelled (typed_label ds m.value.0 rest first m.holds.levelled m.holds.scoped)

    declaring_no_label : (ds : List Scope) (x : In BlockItem) (n : ℕ) (t rest : List Lexeme) → Opens (type_ahead ds) true (DeclaringIs ds) x n t → label_ahead (t ++ rest) ≡ false
    declaring_no_label ds x n t rest o = let m = o.holds in rw m.holds.spelled (declaration_no_label ds m.value.0 rest m.holds.levelled m.holds.scoped)

    doing_moves : (ds : List Scope) (n : ℕ) (ts : List Lexeme) (i : Input) → And Any (type_ahead ds) true n (head ts) → (f : Faults (doing p ds) n ts i) → 0 < length f.front
    doing_moves ds n ts i q f =
        let r = type_is ds (head ts) q.1 in
        moves (doing_lawful ds) n ts i (named r.0) r.1 (Doing (Labelled n r.0 (Expression (n + 2) None)), ds) (sign Colon ∷ sign Semicolon ∷ [])
        (record { value = (Labelled n r.0 (Expression (n + 2) None), ds); is = refl; holds = record { levelled = refl; placed = rw (true_eq n, true_eq (n + 2)) refl; scoped = refl; low = omega (arith, three); after = refl; spelled = refl } }) refl f

    declaring_moves : (ds : List Scope) (n : ℕ) (ts : List Lexeme) (i : Input) → And Any (type_ahead ds) true n (head ts) → (f : Faults (declaring p ds) n ts i) → 0 < length f.front
    declaring_moves ds n ts i q f =
        let r = type_is ds (head ts) q.1 in
        moves (declaring_lawful ds) n ts i (named r.0) r.1 (Declaring (Declares n (MoreSpecifiers (TypedefName n r.0) NoSpecifiers) []), ds) (sign Semicolon ∷ [])
        (record { value = (Declares n (MoreSpecifiers (TypedefName n r.0) NoSpecifiers) [], ds); is = refl; holds = record { levelled = refl; placed = rw (true_eq n) refl; scoped = rw r.2 refl; low = omega (arith, three); after = refl; spelled = refl } }) tt f

    typed_by_label : (ds : List Scope) → Lawful (And Any (type_ahead ds) true) (when_label (doing p ds) (declaring p ds)) (Either (Opens (type_ahead ds) true (DoingIs ds)) (Opens (type_ahead ds) true (DeclaringIs ds))) EndsI
    typed_by_label ds = label_lawful
        (opens_lawful (type_ahead ds) true (λ n o q. q.1) (known (λ n o q. tt) (doing_lawful ds)))
        (opens_lawful (type_ahead ds) true (λ n o q. q.1) (known (λ n o q. tt) (declaring_lawful ds)))
        (λ x n t rest o s. doing_label ds x n t rest o) (λ x n t rest o s. declaring_no_label ds x n t rest o) (doing_moves ds) (declaring_moves ds)

  typed_lawful : (ds : List Scope) → Lawful (And Any (type_ahead ds) true) (typed_item h p ds) (TypedIs ds) EndsI
  typed_lawful ds = guard_known (nat_le 3 h) (λ e. typed_by_label (le_true 3 h e) ds)

  -- where none stands next

  abbrev UntypedIs : List Scope → In BlockItem → ℕ → List Lexeme → Type 0
  UntypedIs ds = Either (Opens (type_ahead ds) false (DeclaringIs ds)) (Opens (type_ahead ds) false (DoingIs ds))

  doing_no_declaration : (ds : List Scope) (x : In BlockItem) (n : ℕ) (t rest : List Lexeme) → Opens (type_ahead ds) false (DoingIs ds) x n t → next_is (begins_declaration ds) (head (t ++ rest)) ≡ false
  doing_no_declaration ds x n t rest o =
      let m = o.holds in let s : StmtTree = m.value.0 in
      let first : type_ahead ds (head (spell_stmt s ++ rest)) ≡ false =
      first_kept (type_ahead ds) (spell_stmt s) rest (statement_some s) ∙ (ap (λ u. type_ahead ds (head u)) (sym m.holds.spelled) ∙ o.first (doing_some ds x n t m)) in
      rw m.holds.spelled (statement_off ds (begins_declaration ds) (declarations_off ds) s rest (λ k e. untyped_name ds k (ap (type_ahead ds) (sym e) ∙ first)) m.holds.levelled m.holds.scoped)

  untyped_lawful : (ds : List Scope) → Lawful (And Any (type_ahead ds) false) (untyped_item p ds) (UntypedIs ds) EndsI
  untyped_lawful ds = when_lawful (next_is (begins_declaration ds))
      (opens_lawful (type_ahead ds) false (λ n o q. q.0.1) (known (λ n o q. tt) (declaring_lawful ds)))
      (opens_lawful (type_ahead ds) false (λ n o q. q.0.1) (known (λ n o q. tt) (doing_lawful ds)))
      (λ x n t rest o s. rw o.holds.holds.spelled (declaration_begins ds o.holds.value.0 rest o.holds.holds.levelled o.holds.holds.scoped))
      (λ x n t rest o s. doing_no_declaration ds x n t rest o)

  -- an item

  typed_begins : (ds : List Scope) (x : In BlockItem) (n : ℕ) (t rest : List Lexeme) → TypedIs ds x n t → type_ahead ds (head (t ++ rest)) ≡ true
  typed_begins ds x n t rest u = by u.holds
    where
      by : Either (Opens (type_ahead ds) true (DoingIs ds)) (Opens (type_ahead ds) true (DeclaringIs ds)) x n t → type_ahead ds (head (t ++ rest)) ≡ true
      by (Met o) = let some : 0 < length t = doing_some ds x n t o.holds in first_kept (type_ahead ds) t rest some ∙ o.first some
      by (Unmet o) = let some : 0 < length t = declaring_some ds x n t o.holds in first_kept (type_ahead ds) t rest some ∙ o.first some

  untyped_begins : (ds : List Scope) (x : In BlockItem) (n : ℕ) (t rest : List Lexeme) → UntypedIs ds x n t → type_ahead ds (head (t ++ rest)) ≡ false
  untyped_begins ds x n t rest (Met o) = let some : 0 < length t = declaring_some ds x n t o.holds in first_kept (type_ahead ds) t rest some ∙ o.first some
  untyped_begins ds x n t rest (Unmet o) = let some : 0 < length t = doing_some ds x n t o.holds in first_kept (type_ahead ds) t rest some ∙ o.first some

  doing_from : (ds : List Scope) (x : In BlockItem) (n : ℕ) (t : List Lexeme) → DoingIs ds x n t → ItemIs (Below h) ds x n t
  doing_from ds x n t m = let s = m.holds in subst (λ w. ItemIs (Below h) ds w n t) (sym m.is) (record { levelled = s.levelled; placed = s.placed; scoped = s.scoped; low = s.low; after = s.after; spelled = s.spelled })

  declaring_from : (ds : List Scope) (x : In BlockItem) (n : ℕ) (t : List Lexeme) → DeclaringIs ds x n t → ItemIs (Below h) ds x n t
  declaring_from ds x n t m = let s = m.holds in subst (λ w. ItemIs (Below h) ds w n t) (sym m.is) (record { levelled = s.levelled; placed = s.placed; scoped = s.scoped; low = s.low; after = s.after; spelled = s.spelled })

  item_from : (ds : List Scope) (x : In BlockItem) (n : ℕ) (t : List Lexeme) → Either (TypedIs ds) (UntypedIs ds) x n t → ItemIs (Below h) ds x n t
  item_from ds x n t (Met u) = by u.holds
    where
      by : Either (Opens (type_ahead ds) true (DoingIs ds)) (Opens (type_ahead ds) true (DeclaringIs ds)) x n t → ItemIs (Below h) ds x n t
      by (Met o) = doing_from ds x n t o.holds
      by (Unmet o) = declaring_from ds x n t o.holds
  item_from ds x n t (Unmet (Met o)) = declaring_from ds x n t o.holds
  item_from ds x n t (Unmet (Unmet o)) = doing_from ds x n t o.holds

  doing_to : (ds : List Scope) (s : StmtTree) (after : List Scope) (n : ℕ) (t : List Lexeme) → ItemIs (Below h) ds (Doing s, after) n t → DoingIs ds (Doing s, after) n t
  doing_to ds s after n t i = record { value = (s, after); is = refl; holds = record { levelled = i.levelled; placed = i.placed; scoped = i.scoped; low = i.low; after = i.after; spelled = i.spelled } }

  declaring_to : (ds : List Scope) (d : DeclarationTree) (after : List Scope) (n : ℕ) (t : List Lexeme) → ItemIs (Below h) ds (Declaring d, after) n t → DeclaringIs ds (Declaring d, after) n t
  declaring_to ds d after n t i = record { value = (d, after); is = refl; holds = record { levelled = i.levelled; placed = i.placed; scoped = i.scoped; low = i.low; after = i.after; spelled = i.spelled } }

  doing_by : (ds : List Scope) (s : StmtTree) (after : List Scope) (n : ℕ) (t : List Lexeme) → ItemIs (Below h) ds (Doing s, after) n t → (b : Bool) → type_ahead ds (head t) ≡ b → Either (TypedIs ds) (UntypedIs ds) (Doing s, after) n t
  doing_by ds s after n t i true e =
      let first : type_ahead ds (head (spell_stmt s)) ≡ true = ap (λ u. type_ahead ds (head u)) (sym i.spelled) ∙ e in
      Met (record { met = true_le 3 h (omega (arith, i.low, typed_statement_tall ds s first i.levelled i.scoped)); holds = Met (record { holds = doing_to ds s after n t i; first = λ some. e }) })
  doing_by ds s after n t i false e = Unmet (Unmet (record { holds = doing_to ds s after n t i; first = λ some. e }))

  declaring_by : (ds : List Scope) (d : DeclarationTree) (after : List Scope) (n : ℕ) (t : List Lexeme) → ItemIs (Below h) ds (Declaring d, after) n t → (b : Bool) → type_ahead ds (head t) ≡ b → Either (TypedIs ds) (UntypedIs ds) (Declaring d, after) n t
  declaring_by ds d after n t i true e =
      let first : type_ahead ds (head (spell_declaration d)) ≡ true = ap (λ u. type_ahead ds (head u)) (sym i.spelled) ∙ e in
      Met (record { met = true_le 3 h (omega (arith, i.low, typed_tall ds d i.levelled first)); holds = Unmet (record { holds = declaring_to ds d after n t i; first = λ some. e }) })
  declaring_by ds d after n t i false e = Unmet (Met (record { holds = declaring_to ds d after n t i; first = λ some. e }))

  item_to : (ds : List Scope) (x : BlockItem) (after : List Scope) (n : ℕ) (t : List Lexeme) → ItemIs (Below h) ds (x, after) n t → Either (TypedIs ds) (UntypedIs ds) (x, after) n t
  item_to ds (Doing s) after n t i = doing_by ds s after n t i (type_ahead ds (head t)) refl
  item_to ds (Declaring d) after n t i = declaring_by ds d after n t i (type_ahead ds (head t)) refl

  pub item_lawful : (ds : List Scope) → Lawful Any (item h p ds) (ItemIs (Below h) ds) EndsI
  item_lawful ds = said (when_lawful (type_ahead ds) (typed_lawful ds) (untyped_lawful ds) (λ x n t rest k s. typed_begins ds x n t rest k) (λ x n t rest k s. untyped_begins ds x n t rest k))
      (λ x n t i. item_to ds x.0 x.1 n t i) (item_from ds)

  -- the items of a block

  item_some : (x : BlockItem) → 0 < length (spell_block_item x)
  item_some (Doing s) = statement_some s
  item_some (Declaring d) = declaration_some d

  item_no_brace : (ds : List Scope) (x : BlockItem) (rest : List Lexeme) → levelled_block_item x ≡ true → scoped_block_item ds x ≡ true → next_is_not RightBrace (head (spell_block_item x ++ rest)) ≡ true
  item_no_brace ds (Doing s) rest l c = not_brace (spell_stmt s) rest (statement_some s) (statement_off ds (is_sign RightBrace) (brace_off ds) s rest (λ k e. refl) l c)
  item_no_brace ds (Declaring d) rest l c = not_brace (spell_declaration d) rest (declaration_some d) (declaration_off ds d rest (is_sign RightBrace) l c (λ k e. ap (begins_declaration ds) ((sign_tells RightBrace).is k e)))

  item_no_else : (ds : List Scope) (x : BlockItem) (rest : List Lexeme) → levelled_block_item x ≡ true → scoped_block_item ds x ≡ true → next_is is_else_word (head (spell_block_item x ++ rest)) ≡ false
  item_no_else ds (Doing s) rest l c = statement_off ds is_else_word (else_off ds) s rest (λ k e. refl) l c
  item_no_else ds (Declaring d) rest l c = declaration_off ds d rest is_else_word l c (λ k e. ap (begins_declaration ds) (else_tells.is k e))

  abbrev NextItem : In (List BlockItem) → In BlockItem → ℕ → List Lexeme → Type 0
  NextItem x = ItemIs (Below h) x.1

  next_lawful : (x : In (List BlockItem)) → Lawful (And (λ n. Last EndsItem x.0) (next_is_not RightBrace) true) (grow (item h p) x) (Grows NextItem x) (λ z. Last EndsItem z.0)
  next_lawful x = mapped_lawful (grown x) (λ y o k. last_of EndsItem x.0 y.0 o k) (λ y o k. of_last EndsItem x.0 y.0 o k) (known (λ n o q. tt) (item_lawful x.1))

  items_lawful : (ds : List Scope) → Lawful Any (items h p ds) (λ z. Steps (Grows NextItem) z ([], ds)) (λ z o. Last EndsItem z.0 o × (next_is_not RightBrace o ≡ false))
  items_lawful ds = known (λ n o q. tt) (many_lawful {G = λ z o. Last EndsItem z.0 o} next_lawful
      (λ x y n t more g. rw g.holds.spelled (item_no_brace x.1 g.value.0 more g.holds.levelled g.holds.scoped))
      (λ y z m u more g. all_last EndsItem y.0 (head (u ++ more)) (λ x. item_free x (head (u ++ more)) (rw g.holds.spelled (item_no_else y.1 g.value.0 more g.holds.levelled g.holds.scoped))))
      (λ x y n t g. rw g.holds.spelled (item_some g.value.0)) (λ x. refl) ([], ds))

  record ItemsAre (ds : List Scope) (xs : List BlockItem) (after : List Scope) (n : ℕ) (text : List Lexeme) : Type 0 where
    levelled : levelled_block (block_items xs) ≡ true
    placed : placed_block n (block_items xs) ≡ true
    scoped : scoped_block ds (block_items xs) ≡ true
    low : block_height (block_items xs) ≤ h - 1
    behind : after ≡ after_items ds xs
    spelled : text ≡ spell_block (block_items xs)

  are_from : (xs before : List BlockItem) (ds after : List Scope) (n : ℕ) (text : List Lexeme) → Rest Over NextItem before ds after n text xs → ItemsAre ds xs after n text
  are_from [] before ds after n text r = record { levelled = refl; placed = refl; scoped = refl; low = omega arith; behind = r.0; spelled = r.1 }
  are_from (x ∷ xs) before ds after n text r =
      let i = r.3 in
      let next : n + length r.1 ≡ n + length (spell_block_item x) = ap (λ u. n + length u) i.spelled in
      let m = are_from xs (before ++ x ∷ []) r.0 after (n + length r.1) r.2 r.4 in
      record { levelled = rw (i.levelled, m.levelled) refl; placed = rw (i.placed, ← next, m.placed) refl; scoped = rw (i.scoped, ← i.after, m.scoped) refl; low = omega (arith, i.low, m.low); behind = rw (← i.after) m.behind; spelled = rw (r.5, i.spelled, m.spelled) refl }

  tall_item : (x : BlockItem) → 1 ≤ item_of_block_height x
  tall_item (Doing s) = tall_statement s
  tall_item (Declaring (Declares at ss xs)) = omega arith
  tall_item (Declaring _) = omega arith

  are_to : (xs before : List BlockItem) (ds after : List Scope) (n : ℕ) (text : List Lexeme) → ItemsAre ds xs after n text → Rest Over NextItem before ds after n text xs
  are_to [] before ds after n text m = (m.behind, m.spelled)
  are_to (x ∷ xs) before ds after n text m =
      let l = both (levelled_block_item x) (levelled_block (block_items xs)) m.levelled in let q = both (placed_block_item n x) (placed_block (n + length (spell_block_item x)) (block_items xs)) m.placed in
      let s = both (scoped_block_item ds x) (scoped_block (after_block_item ds x) (block_items xs)) m.scoped in
      let back : List Lexeme = spell_block (block_items xs) in
      let low : block_height (block_items xs) ≤ h - 1 = omega (arith, m.low) in (
        after_block_item ds x,
        spell_block_item x,
        back,
        record { levelled = l.0; placed = q.0; scoped = s.0; low = omega (arith, m.low, tall_item x); after = refl; spelled = refl },
        are_to xs (before ++ x ∷ []) (after_block_item ds x) after (n + length (spell_block_item x)) back (record { levelled = l.1; placed = q.1; scoped = s.1; low = low; behind = m.behind; spelled = refl }),
        m.spelled,
      )

  abbrev ClosedParts : List Scope → BlockItems → ℕ → List Lexeme → Type 0
  ClosedParts ds = Before (IsPunctuator RightBrace) (λ (x : In (List BlockItem)). block_items x.0) (λ z. Steps (Grows NextItem) z ([], ds))

  closed_from : (ds : List Scope) (b : BlockItems) (n : ℕ) (t : List Lexeme) → ClosedParts ds b n t → ClosedItemsIs h ds b n t
  closed_from ds b n t k =
      let r = rest_of_steps NextItem k.value ([], ds) n k.front k.holds in
      let m = are_from r.items [] ds k.value.1 n k.front r.rest in
      let value : b ≡ block_items r.items = k.is ∙ ap block_items r.list in
      subst (λ c. ClosedItemsIs h ds c n t) (sym value) (record { levelled = m.levelled; placed = m.placed; scoped = m.scoped; low = m.low; spelled = k.parts ∙ ap (λ u. u ++ sign RightBrace ∷ []) m.spelled })

  closed_to : (ds : List Scope) (xs : List BlockItem) (n : ℕ) (t : List Lexeme) → ClosedItemsIs h ds (block_items xs) n t → ClosedParts ds (block_items xs) n t
  closed_to ds xs n t i =
      let m : ItemsAre ds xs (after_items ds xs) n (spell_block (block_items xs)) = record { levelled = i.levelled; placed = i.placed; scoped = i.scoped; low = i.low; behind = refl; spelled = refl } in
      record { value = (xs, after_items ds xs); front = spell_block (block_items xs); is = refl; parts = i.spelled; holds = steps_of_rest NextItem xs [] ds (after_items ds xs) n (spell_block (block_items xs)) (are_to xs [] ds (after_items ds xs) n (spell_block (block_items xs)) m) }

  closed_of : (ds : List Scope) (b : BlockItems) (n : ℕ) (t : List Lexeme) → ClosedItemsIs h ds b n t → ClosedParts ds b n t
  closed_of ds b n t i = subst (λ c. ClosedParts ds c n t) (item_list_back b) (closed_to ds (item_list b) n t (subst (λ c. ClosedItemsIs h ds c n t) (sym (item_list_back b)) i))

  pub closed_items_lawful : {P : ℕ → Option Lexeme → Type 0} (ds : List Scope) → Lawful P (items_closed h p ds) (ClosedItemsIs h ds) Anywhere
  closed_items_lawful ds = known (λ n o q. tt) (said
      (before_lawful (λ x. block_items x.0) (sign_tells RightBrace) (λ z n t k. (all_last EndsItem z.0 (Some (sign RightBrace)) (λ x. item_free x (Some (sign RightBrace)) refl), refl)) (items_lawful ds))
      (closed_of ds) (closed_from ds))

  -- a block, and the body of a function

  abbrev BlockParts : List Scope → ℕ → In StmtTree → ℕ → List Lexeme → Type 0
  BlockParts ds at = Mapped (λ (b : BlockItems). (Compound at b, ds)) (ClosedItemsIs h (entered ds))

  block_from : 1 ≤ h → (ds : List Scope) (at : ℕ) (x : In StmtTree) (n : ℕ) (t : List Lexeme) → n ≡ at + 1 → BlockParts ds at x n t → BehindWord h ds at BlockStart x n t
  block_from one ds at x n t number m =
      let b = m.holds in
      let placed : placed_block (at + 1) m.value ≡ true = subst (λ j. placed_block j m.value ≡ true) number b.placed in
      subst (λ y. BehindWord h ds at BlockStart y n t) (sym m.is)
      (record { number = number; word = refl; whole = record { levelled = b.levelled; placed = rw (true_eq at, placed) refl; scoped = b.scoped; low = omega (arith, b.low, one); after = refl; spelled = ap (λ u. sign LeftBrace ∷ u) b.spelled } })

  block_to : (ds : List Scope) (at : ℕ) (s : StmtTree) (after : List Scope) (n : ℕ) (t : List Lexeme) → BehindWord h ds at BlockStart (s, after) n t → BlockParts ds at (s, after) n t
  block_to ds at (Compound a b) after n t i =
      let w = i.whole in let q = both (nat_eq a at) (placed_block (at + 1) b) w.placed in
      record {
        value = b;
        is = ap (λ j. (Compound j b, after)) (eq_true a at q.0) ∙ ap (λ j. (Compound at b, j)) w.after;
        holds = record { levelled = w.levelled; placed = subst (λ j. placed_block j b ≡ true) (sym i.number) q.1; scoped = w.scoped; low = omega (arith, w.low); spelled = ap behind_first w.spelled };
      }
  block_to ds at _ after n t i = let e = i.word in absurd cc

  pub block_lawful : 1 ≤ h → (ds : List Scope) (at : ℕ) → Lawful (At (at + 1)) (block_behind h p ds at) (BehindWord h ds at BlockStart) EndsS
  block_lawful one ds at = said (there_lawful (at + 1) (λ n o q. q) (mapped_lawful (λ b. (Compound at b, ds)) (λ b o k. tt) (λ b o k. refl) (closed_items_lawful (entered ds))))
      (λ x n t i. record { number = i.number; holds = block_to ds at x.0 x.1 n t i }) (λ x n t i. block_from one ds at x n t i.number i.holds)

  pub body_lawful : (ds : List Scope) → Lawful Any (body h p ds) (BodyIs (Below (suc h)) ds) Anywhere
  body_lawful ds = said (guard_lawful (nat_le 1 h) (behind_lawful (sign_tells LeftBrace) (closed_items_lawful ds)))
      (λ b n t i. record { met = true_le 1 h (omega (arith, i.low)); holds = record { back = spell_block b ++ sign RightBrace ∷ []; parts = i.spelled; holds = record { levelled = i.levelled; placed = i.placed; scoped = i.scoped; low = omega (arith, i.low); spelled = refl } } })
      (λ b n t u. let k = u.holds.holds in record { levelled = k.levelled; placed = k.placed; scoped = k.scoped; low = omega (arith, k.low, le_true 1 h u.met); spelled = u.holds.parts ∙ ap (λ v. sign LeftBrace ∷ v) k.spelled })
