use Rattle.std.proofs.Common.{rules, ◌≡◌, ◌&&◌, map, ap, ◌∙◌, subst, IfOk, List, ℕ}
use Rattle.std.specs.List.{list_all}
use Rattle.cil_tree.specs.View.{text_at, program_of}
use Rattle.cil_tree.specs.Names.{is_plain_name, are_different, member_names}
use Rattle.cil_check.specs.NameLists.{member_ids}
use Rattle.cil_check.proofs.NameSteps.{member_names_are}
use Rattle.cil_check.proofs.names.members_named_apart.Goals as goal

pub returns : goal.returns
returns c =
    let p = program_of c.args.names.now c.args.u.now in
    let ids : c.deref.result.now ≡ member_ids c.args.x.now = search rules in
    let names : map (text_at c.args.names.now) c.deref.result.now ≡ member_names p c.args.x.now = ap (map (text_at c.args.names.now)) ids ∙ member_names_are p c.args.x.now in
    subst (λ (zs : List (List ℕ)). IfOk c.are_named_apart.result (λ b. b ≡ list_all is_plain_name zs && are_different zs)) names c.are_named_apart.ensures
