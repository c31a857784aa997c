use Rattle.std.proofs.Common.{rules, ◌≡◌, Some, None, ℕ, List, Vec, Global, refl, sym, subst, ◌∙◌}
use Rattle.c_lexer.specs.Lexed.{IfRefused as IfStopped}
use Rattle.c_meaning.specs.View.{expression_of}
use Rattle.c_meaning.specs.Reading.{reading}
use Rattle.c_meaning.specs.SourceFile.{spelled_in}
use Rattle.c_parser.specs.UnitAnswers.{IsSyntaxFault}
use Rattle.cil_tree.specs.Tree.{Program}
use Rattle.cil_tree.specs.View.{program_of}
use Rattle.cil_tree.specs.Programs.{IsTextOf}
use Rattle.unit_merger.specs.Programs.{IsTextOfUnit}
use Rattle.cil_commands.specs.Small.{small, whole_program}
use Rattle.cil_commands.proofs.Merging.{small-Merges, small-well_formed}
use Rattle.cil_commands.proofs.SmallTexts.{same_text}
use Rattle.cil_commands.proofs.Units.{refused_by_grammar, found_unit, found_none, found_tree, unit_refused}
use Rattle.cil_commands.proofs.merge.tokens_text.Goals as goal

pub returns-in_err-tree-clause-refused : goal.returns-in_err-tree-clause-refused
returns-in_err-tree-clause-refused c =
    let says : IfStopped c.from_residual.result (IsSyntaxFault c.args.tokens.now) = search rules in
    λ file are within. refused_by_grammar c.from_residual.result file c.args.tokens.now c.args.names.now are says

pub returns-in-Some-clause-merged : goal.returns-in-Some-clause-merged
returns-in-Some-clause-merged c =
    let some : Some (expression_of c.in-Some.e) ≡ reading (spelled_in c.args.tokens.now.source c.args.tokens.now.entries) = rw c.in-Some.is at c.in_ok-e.ensures in
    λ file are.
    (let is = found_unit file c.args.tokens.now c.args.names.now (expression_of c.in-Some.e) are (sym some) in
    let merges = small-Merges file (expression_of c.in-Some.e) is in (
      whole_program (small (expression_of c.in-Some.e)),
      record { grammatical = found_tree file c.args.tokens.now c.args.names.now _ are c.in_ok-tree.ensures.reads; model = refl; text = merges.text; form = λ e also. merges; alone = λ none. absurd (none (expression_of c.in-Some.e) is) },
      c.in_ok-form_text-in-Some.ensures ∙ sym (same_text (small (expression_of c.in-Some.e)) (small-well_formed file _ is)),
    ))

pub returns-in-Ok-clause-merged : goal.returns-in-Ok-clause-merged
returns-in-Ok-clause-merged c =
    let none : None ≡ reading (spelled_in c.args.tokens.now.source c.args.tokens.now.entries) = rw c.in-None.is at c.in_ok-e.ensures in
    λ file are.
    (let made = c.in-Ok.ensures.text in
    let p : Program = program_of made.pool made.program in (
      p,
      record {
        grammatical = record { tokens = c.args.tokens.now; names = c.args.names.now; are = are; tree = _; reads = c.in_ok-tree.ensures.reads };
        model = made.of.model;
        text = subst (λ bytes. IsTextOf bytes p) made.text.text made.text;
        form = λ e also. absurd (found_none file c.args.tokens.now c.args.names.now are (sym none) e also);
        alone = λ other. subst (IsTextOfUnit c.args.tokens.now c.args.names.now) made.text.text made;
      },
      c.into_vec.ensures ∙ made.text.text,
    ))

pub returns-clause-refused : goal.returns-clause-refused
returns-clause-refused c =
    let none : None ≡ reading (spelled_in c.args.tokens.now.source c.args.tokens.now.entries) = rw c.in-None.is at c.in_ok-e.ensures in
    λ file are within. unit_refused (List ℕ) (Vec ℕ Global) c.in-Err.stop file c.unit_text.new.names (record { tokens = c.args.tokens.now; names = c.args.names.now; are = are; tree = _; reads = c.in_ok-tree.ensures.reads }) within c.unit_text.ensures.stays (found_none file c.args.tokens.now c.args.names.now are (sym none)) c.in-Err.ensures.cause
