use Rattle.std.proofs.Common.{rules, ◌≡◌, Bool, true, false, ◌&&◌, map, List, IfOk, subst}
use Rattle.std.specs.List.{list_all}
use Rattle.cil_base.specs.declared.numbers.NameId.{NameId}
use Rattle.cil_tree.specs.View.{text_at, program_of}
use Rattle.cil_tree.specs.Names.{is_plain_name, are_different}
use Rattle.cil_check.specs.NameLists.{local_id}
use Rattle.cil_check.specs.FileNames.{locals_named}
use Rattle.cil_check.proofs.FileLaws.{body_fails, body_passes}
use Rattle.cil_check.proofs.names.body_is_named.Goals as goal

pub returns-then-not-branch : goal.returns-then-not-branch
returns-then-not-branch c =
    let p = program_of c.args.names.now c.args.u.now in
    let ids : c.deref-2.result.now ≡ map local_id c.args.b.now.locals.items = search rules in
    let no : locals_named p (map (text_at c.args.names.now) c.deref-2.result.now) ≡ false = search rules in
    body_fails p c.args.u.now.graph.nodes c.args.names.now c.args.b.now c.deref-2.result.now ids no

pub returns : goal.returns
returns c =
    let p = program_of c.args.names.now c.args.u.now in
    let ids : c.deref-2.result.now ≡ map local_id c.args.b.now.locals.items = search rules in
    let yes : locals_named p (map (text_at c.args.names.now) c.deref-2.result.now) ≡ true = search rules in
    let all = body_passes p c.args.u.now.graph.nodes c.args.names.now c.args.b.now c.deref-2.result.now ids yes in
    subst (λ (z : Bool). IfOk c.are_named_apart.result (λ r. r ≡ z)) all
    (subst (λ (ns : List NameId). IfOk c.are_named_apart.result (λ r. r ≡ list_all is_plain_name (map (text_at c.args.names.now) ns) && are_different (map (text_at c.args.names.now) ns))) c.deref-3.ensures.value c.are_named_apart.ensures)
