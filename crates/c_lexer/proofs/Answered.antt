-- Device: a text has one answer.
use Rattle.std.proofs.Common.{◌≡◌, ℕ, List, true, ap, sym, ◌∙◌}
use Rattle.cil_base.specs.declared.numbers.UnitNo.{UnitNo}
use Rattle.cil_base.specs.declared.numbers.NameId.{NameId}
use Rattle.c_lexer.specs.Automaton.{pieces}
use Rattle.c_lexer.specs.Tokens.{Answer, IsAnswer, read, begun}
use Rattle.c_lexer.proofs.Longest.{only_cut}

pub one_answer : (unit : UnitNo) (file : NameId) (names : List (List ℕ)) (bytes : List ℕ) (answer : Answer) → IsAnswer unit file names bytes answer → answer ≡ read (pieces 0 true bytes) (begun unit file names)
one_answer unit file names bytes answer is = is.2 ∙ ap (λ ps. read ps (begun unit file names)) (only_cut true bytes is.0 is.1)

pub same_answer : (unit : UnitNo) (file : NameId) (names : List (List ℕ)) (bytes : List ℕ) (answer other : Answer) → IsAnswer unit file names bytes answer → IsAnswer unit file names bytes other → answer ≡ other
same_answer unit file names bytes answer other is also = one_answer unit file names bytes answer is ∙ sym (one_answer unit file names bytes other also)
