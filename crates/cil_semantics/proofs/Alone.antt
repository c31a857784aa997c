-- Device: a well-formed program alone defines each name at most once, so that it does not count there whether tentative definitions are common.
use Rattle.std.proofs.Common.{◌≡◌, ℕ, suc, ◌<◌, ◌≤◌, Bool, true, false, not, ◌&&◌, ◌||◌, nat_eq, List, [], ◌∷◌, ◌++◌, map, Option, Some, None, refl, sym, ap, ◌∙◌, subst, arith, append-nil, eqb-true}
use Rattle.std.specs.Prelude.{is_some, if◌then◌else◌}
use Rattle.std.specs.Str.{bytes_eq}
use Rattle.std.proofs.lemmas.Slice.Eq.{bytes_eq-Decides}
use Rattle.byte_mem.specs.Steps.{◌>>=◌, only_if}
use Rattle.execution.specs.Calls.{Meaning}
use Rattle.execution.specs.Linking.{Linkable, Symbol, External, Internal, same_symbol, symbol_of, rank_after, memset_symbol, table_of, entities_of, rows_of, linked, definitions, AreDefinedOnce}
use Rattle.execution.proofs.Modes.{linked_once}
use Rattle.cil_base.specs.declared.kinds.Mode.{Mode}
use Rattle.cil_tree.specs.Tree.{GlobalDecl, Program}
use Rattle.cil_tree.specs.Names.{is_among, are_different, global_name_of, enumerators}
use Rattle.cil_tree.specs.Programs.{IsProgram}
use Rattle.cil_semantics.specs.Runs.{linkable, linkables}
use Rattle.cil_semantics.specs.Modes.{LinksApart}

neither : (a b : Bool) → a || b ≡ false → (a ≡ false) × (b ≡ false)
neither true b e = cc
neither false b e = (refl, e)

apart : (a b : Bool) → not a && b ≡ true → (a ≡ false) × (b ≡ true)
apart true b e = cc
apart false b e = (refl, e)

abbrev name_of : Linkable → List ℕ
name_of x = x.name

-- a row of another symbol counts nothing
passed : (b : Bool) (m : Option Meaning) (n : ℕ) → b ≡ false → (if is_some (only_if b m >>= λ m. m) then suc n else n) ≡ n
passed b m n e = ap (λ c. if is_some (only_if c m >>= λ m. m) then suc n else n) e

module _ (entities : List ℕ) where
  -- definitions of a name that the unit has not
  no_name : (rank : ℕ) (xs : List Linkable) (name : List ℕ) → is_among (map name_of xs) name ≡ false → definitions (rows_of entities rank xs) (External name) ≡ 0
  no_name rank [] name e = refl
  no_name rank (x ∷ xs) name e =
      let h = neither (bytes_eq name x.name) (is_among (map name_of xs) name) e in
      passed (same_symbol (External name) (symbol_of x.internal x.name rank)) (x.means entities) (definitions (rows_of entities (rank_after x.internal rank) xs) (External name)) (other x.internal h.0)
      ∙ no_name (rank_after x.internal rank) xs name h.1
    where
      other : (internal : Bool) → bytes_eq name x.name ≡ false → same_symbol (External name) (symbol_of internal x.name rank) ≡ false
      other true e = refl
      other false e = e

  -- and of an internal symbol that is behind
  no_rank : (rank r : ℕ) (xs : List Linkable) → r < rank → definitions (rows_of entities rank xs) (Internal r) ≡ 0
  no_rank rank r [] h = refl
  no_rank rank r (x ∷ xs) h =
      passed (same_symbol (Internal r) (symbol_of x.internal x.name rank)) (x.means entities) (definitions (rows_of entities (rank_after x.internal rank) xs) (Internal r)) (other x.internal)
      ∙ no_rank (rank_after x.internal rank) r xs (more x.internal)
    where
      differ : (b : Bool) → nat_eq r rank ≡ b → b ≡ false
      differ true e = let same : r ≡ rank = eqb-true r rank e in absurd (omega (arith, h, same))
      differ false e = refl

      other : (internal : Bool) → same_symbol (Internal r) (symbol_of internal x.name rank) ≡ false
      other true = differ (nat_eq r rank) refl
      other false = refl

      more : (internal : Bool) → r < rank_after internal rank
      more true = omega (arith, h)
      more false = h

  -- a symbol that a global of the unit has is defined by none of the globals behind it
  none_behind : (rank : ℕ) (internal : Bool) (name : List ℕ) (xs : List Linkable) (y : Symbol) → is_among (map name_of xs) name ≡ false → same_symbol y (symbol_of internal name rank) ≡ true → definitions (rows_of entities (rank_after internal rank) xs) y ≡ 0
  none_behind rank true name xs (External other) e s = cc
  none_behind rank true name xs (Internal r) e s = let same : r ≡ rank = eqb-true r rank s in no_rank (suc rank) r xs (omega (arith, same))
  none_behind rank false name xs (External other) e s = no_name rank xs other (subst (λ n. is_among (map name_of xs) n ≡ false) (sym ((bytes_eq-Decides other name).0 s)) e)
  none_behind rank false name xs (Internal r) e s = cc

  one_each : (rank : ℕ) (xs : List Linkable) (y : Symbol) → are_different (map name_of xs) ≡ true → definitions (rows_of entities rank xs) y ≤ 1
  one_each rank [] y e = omega arith
  one_each rank (x ∷ xs) y e =
      let h = apart (is_among (map name_of xs) x.name) (are_different (map name_of xs)) e in
      by (same_symbol y (symbol_of x.internal x.name rank)) (x.means entities) (none_behind rank x.internal x.name xs y h.0) (one_each (rank_after x.internal rank) xs y h.1)
    where
      by : (b : Bool) (m : Option Meaning) → (b ≡ true → definitions (rows_of entities (rank_after x.internal rank) xs) y ≡ 0) → definitions (rows_of entities (rank_after x.internal rank) xs) y ≤ 1
          → (if is_some (only_if b m >>= λ m. m) then suc (definitions (rows_of entities (rank_after x.internal rank) xs) y) else definitions (rows_of entities (rank_after x.internal rank) xs) y) ≤ 1
      by false m none few = few
      by true None none few = few
      by true (Some m) none few = let no = none refl in omega (arith, no)

-- the row of `__builtin_memset` defines nothing
passed_memset : (b : Bool) (n : ℕ) → (if is_some (only_if b None >>= λ (m : Option Meaning). m) then suc n else n) ≡ n
passed_memset true n = refl
passed_memset false n = refl

abbrev own_entities : List Linkable → List ℕ
own_entities u = entities_of (table_of (u ∷ [])) 0 u

unit_once : (u : List Linkable) → are_different (map name_of u) ≡ true → AreDefinedOnce (u ∷ [])
unit_once u e x =
    subst (λ n. n ≤ 1) (sym (passed_memset (same_symbol x memset_symbol) (definitions (rows_of (own_entities u) 0 u ++ []) x)))
    (subst (λ rows. definitions rows x ≤ 1) (sym (append-nil (rows_of (own_entities u) 0 u))) (one_each (own_entities u) 0 u x e))

-- the names of globals differ, as they are among those of file scope
different_behind : (xs ys : List (List ℕ)) → are_different (xs ++ ys) ≡ true → are_different ys ≡ true
different_behind [] ys e = e
different_behind (x ∷ xs) ys e = different_behind xs ys (apart (is_among (xs ++ ys) x) (are_different (xs ++ ys)) e).1

names_are : (p : Program) (globals : List GlobalDecl) → map name_of (map (linkable p) globals) ≡ map global_name_of globals
names_are p [] = refl
names_are p (x ∷ xs) = ap (λ names. x.name ∷ names) (names_are p xs)

pub program_once : (p : Program) → IsProgram p → AreDefinedOnce (linkables p ∷ [])
program_once p is = unit_once (linkables p) (ap are_different (names_are p p.globals) ∙ different_behind (enumerators p) (map global_name_of p.globals) is.names.file)

-- so it is linked in each mode
pub alone_apart : (p : Program) (mode : Mode) → IsProgram p → LinksApart mode (p ∷ [])
alone_apart p mode is common = program_once p is

pub links_apart : (mode : Mode) (programs : List Program) → LinksApart mode programs → linked mode.common (map linkables programs) ≡ linked false (map linkables programs)
links_apart mode programs h = by mode.common h
  where
    by : (common : Bool) → (common ≡ true → AreDefinedOnce (map linkables programs)) → linked common (map linkables programs) ≡ linked false (map linkables programs)
    by true h = linked_once true (map linkables programs) (h refl)
    by false h = refl
