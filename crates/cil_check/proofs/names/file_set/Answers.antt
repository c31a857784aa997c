use Rattle.std.proofs.Common.{rules, ◌≡◌, Bool, true, false, ◌&&◌, ◌++◌, [], nat_eq, map, List, ℕ, sym, ap, ◌∙◌}
use Rattle.cil_tree.specs.View.{text_at, program_of}
use Rattle.cil_tree.specs.Names.{are_apart, are_different, enumerators, file_names, host_names}
use Rattle.cil_check.specs.NameLists.{number, enumerator_ids, global_id}
use Rattle.cil_check.specs.Sets.{fresh}
use Rattle.cil_check.proofs.FileLaws.{enumerators_are, file_differs}
use Rattle.cil_check.proofs.names.file_set.Goals as goal

pub returns-then-not-are_apart_from_host-clause-exact : goal.returns-then-not-are_apart_from_host-clause-exact
returns-then-not-are_apart_from_host-clause-exact c =
    let p = program_of c.args.names.now c.args.u.now in
    let ids : c.deref.result.now ≡ enumerator_ids c.args.u.now.graph.aggs = search rules in
    let no : are_apart (map (text_at c.args.names.now) c.deref.result.now) host_names ≡ false = search rules in
    let texts : map (text_at c.args.names.now) c.deref.result.now ≡ enumerators p = ap (map (text_at c.args.names.now)) ids ∙ enumerators_are p in
    sym (ap (λ (b : Bool). b && are_different (file_names p)) (sym (ap (λ (ts : List (List ℕ)). are_apart ts host_names) texts) ∙ no))

pub returns-clause-exact : goal.returns-clause-exact
returns-clause-exact c =
    let p = program_of c.args.names.now c.args.u.now in
    let ids : c.deref.result.now ≡ enumerator_ids c.args.u.now.graph.aggs = search rules in
    let yes : are_apart (map (text_at c.args.names.now) c.deref.result.now) host_names ≡ true = search rules in
    let texts : map (text_at c.args.names.now) c.deref.result.now ≡ enumerators p = ap (map (text_at c.args.names.now)) ids ∙ enumerators_are p in
    let all : c.deref-3.result.now ≡ enumerator_ids c.args.u.now.graph.aggs ++ map global_id c.args.u.now.globals.items = search rules in
    let none : c.new-file.result.keys ≡ [] = search rules in
    let first : fresh nat_eq c.new-file.result.keys (map number c.deref-3.result.now) ≡ true = search rules in
    let differ : are_different (file_names p) ≡ true =
    sym (file_differs c.args.names.now c.args.u.now c.len-count.ensures.once c.requires.globals c.requires.members) ∙ sym (ap (λ (ks : List ℕ). fresh nat_eq ks (map number c.deref-3.result.now)) none ∙ ap (λ ns. fresh nat_eq [] (map number ns)) all) ∙ first in
    sym (ap (λ (b : Bool). b && are_different (file_names p)) (sym (ap (λ (ts : List (List ℕ)). are_apart ts host_names) texts) ∙ yes) ∙ differ)
