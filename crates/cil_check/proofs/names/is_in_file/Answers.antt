use Rattle.std.proofs.Common.{rules, ◌≡◌, nat_eq, ◌∙◌}
use Rattle.std.specs.List.{list_any}
use Rattle.cil_tree.specs.View.{program_of}
use Rattle.cil_check.proofs.FileLaws.{in_file}
use Rattle.cil_check.proofs.names.is_in_file.Goals as goal

pub returns : goal.returns
returns c =
    let e : c.contains.result ≡ list_any (nat_eq c.args.name.0) c.args.file.now.keys = search rules in
    e ∙ in_file (program_of c.args.names.now c.args.u.now) c.args.file.now.keys c.args.name c.requires.knows c.len-count.ensures.once c.requires.there
