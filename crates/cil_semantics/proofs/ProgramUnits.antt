-- Device: a well-formed program is a unit that can be linked.
use Rattle.std.proofs.Common.{◌≡◌, ℕ, Bool, true, false, ◌&&◌, ◌||◌, not, List, [], ◌∷◌, refl}
use Rattle.std.specs.List.{list_all}
use Rattle.cil_tree.specs.Tree.{GlobalDecl, Program}
use Rattle.cil_tree.specs.Names.{is_name, is_builtin, is_memset, global_is_named}
use Rattle.cil_tree.specs.Programs.{IsProgram}
use Rattle.cil_semantics.specs.Units.{is_nonempty, has_name, IsUnit}

both : (a b : Bool) → (a && b) ≡ true → (a ≡ true) × (b ≡ true)
both true b e = (refl, e)
both false b e = cc

named_nonempty : (text : List ℕ) → is_name text ≡ true → is_nonempty text ≡ true
named_nonempty [] e = cc
named_nonempty (b ∷ bytes) e = refl

named_has_name : (p : Program) (x : GlobalDecl) → global_is_named p x ≡ true → has_name x ≡ true
named_has_name p x e = named_nonempty x.name (both (is_name x.name) (not (is_builtin x.name) || is_memset p x) e).0

also : (a b c d : Bool) → (a ≡ true → c ≡ true) → (b ≡ true → d ≡ true) → (a && b) ≡ true → (c && d) ≡ true
also a b c d f g e = let h = both a b e in joined (f h.0) (g h.1)
  where
    joined : c ≡ true → d ≡ true → (c && d) ≡ true
    joined h k = cc

all_have_names : (p : Program) (xs : List GlobalDecl) → list_all (global_is_named p) xs ≡ true → list_all has_name xs ≡ true
all_have_names p [] e = refl
all_have_names p (x ∷ xs) e = also (global_is_named p x) (list_all (global_is_named p) xs) (has_name x) (list_all has_name xs) (named_has_name p x) (all_have_names p xs) e

pub program_is_unit : (p : Program) → IsProgram p → IsUnit p
program_is_unit p is = record { arena = is.arena; unit = is.unit; seen = is.seen; types = is.types.fit; named = all_have_names p p.globals is.names.globals; globals = is.globals }
