use Rattle.std.proofs.Common.{◌<◌, length, rules}
use Rattle.cil_merge.proofs.MergingLaws.{sites_of}
use Rattle.cil_merge.proofs.refusals.sites.Goals as goal

pub returns : goal.returns
returns c =
    let h : c.args.group < length c.args.names.now = search rules in
    sites_of c.args.names.now c.args.group c.index-names-group.result c.deref.result.now h c.deref.ensures.value
