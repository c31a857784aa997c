use Rattle.std.proofs.Common.{rules, ◌≡◌, length, map, List, ℕ, IfOk, sym, ap, ◌∙◌, subst}
use Rattle.cil_tree.specs.View.{text_at, program_of}
use Rattle.cil_tree.specs.Names.{are_different, tags}
use Rattle.cil_check.specs.NameLists.{tag_ids, AllIn}
use Rattle.cil_check.proofs.FileLaws.{tags_in, tags_are}
use Rattle.cil_check.proofs.names.tags_differ.Goals as goal

pub are_different-requires : goal.are_different-requires
are_different-requires c =
    let p = program_of c.args.names.now c.args.u.now in
    let ids : c.deref.result.now ≡ tag_ids c.args.u.now.graph.aggs = search rules in
    subst (AllIn (length c.args.names.now)) (sym ids) (tags_in p c.requires)

pub returns : goal.returns
returns c =
    let p = program_of c.args.names.now c.args.u.now in
    let ids : c.deref.result.now ≡ tag_ids c.args.u.now.graph.aggs = search rules in
    let texts : map (text_at c.args.names.now) c.deref.result.now ≡ tags p = ap (map (text_at c.args.names.now)) ids ∙ tags_are p c.requires in
    subst (λ (ts : List (List ℕ)). IfOk c.are_different.result (λ b. b ≡ are_different ts)) texts c.are_different.ensures
