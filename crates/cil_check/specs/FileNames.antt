-- Device: the names of file scope by number.
use Rattle.std.specs.Prelude.{◌≡◌, ◌&&◌, ℕ, Bool, List, map, length}
use Rattle.std.specs.List.{list_all}
use Rattle.cil_base.specs.declared.numbers.NameId.{NameId}
use Rattle.cil_tree.specs.Tree.{GlobalDecl, Program}
use Rattle.cil_tree.specs.View.{text_at}
use Rattle.cil_tree.specs.Names.{is_plain_name, are_different, are_apart, file_names, host_names, tags, enumerators, global_is_named, internal_is_apart, members_are_named, definition_is_named}
use Rattle.cil_check.specs.NameLists.{number, AllIn}

-- these are the numbers of the names of file scope
pub record KnowsFile (keys : List ℕ) (p : Program) : Type 0 where
  pub names : List NameId
  pub numbers : keys ≡ map number names
  pub within : AllIn (length p.names) names
  pub texts : map (text_at p.names) names ≡ file_names p

-- the names of locals are plain, different, and neither of file scope nor the host's
abbrev pub locals_named : Program → List (List ℕ) → Bool
locals_named p texts = list_all is_plain_name texts && (are_different texts && (are_apart texts (file_names p) && are_apart texts host_names))

-- the names within a global
abbrev pub within_is_named : Program → GlobalDecl → Bool
within_is_named p x = definition_is_named p x.definition

-- the rules of names at once
abbrev pub names_rules : Program → Bool
names_rules p =
    list_all (global_is_named p) p.globals
    && (list_all internal_is_apart p.globals
    && (list_all (members_are_named p) p.graph.aggs
    && (are_different (tags p)
    && ((are_apart (enumerators p) host_names && are_different (file_names p))
    && list_all (within_is_named p) p.globals))))
