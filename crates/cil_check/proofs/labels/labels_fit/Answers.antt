use Rattle.std.proofs.Common.{rules, ◌≡◌, length, sym, ◌∙◌}
use Rattle.std.proofs.lemmas.List.{length-map}
use Rattle.cil_tree.specs.View.{stmts_of, text_at}
use Rattle.cil_tree.specs.Bodies.{labels_of}
use Rattle.cil_check.specs.Seen.{seen_scope}
use Rattle.cil_check.specs.Statements.{numbered}
use Rattle.cil_check.proofs.LabelLaws.{labels_are}
use Rattle.cil_check.proofs.labels.labels_fit.Goals as goal

pub returns : goal.returns
returns c =
    let body = stmts_of c.args.s.now.unit.now.graph.nodes c.args.s.now.body.now.stmts.items in
    let got : c.are_numbered.result ≡ numbered 0 c.len.result (labels_of body) = search rules in
    let counted : c.len.result ≡ length c.args.s.now.body.now.labels.items = search rules in
    got ∙ labels_are (seen_scope c.args.s.now) body c.len.result (counted ∙ sym (length-map c.args.s.now.body.now.labels.items (text_at c.args.s.now.names.now)))
