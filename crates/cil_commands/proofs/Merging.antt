-- Device: the small program of a unit is a program of the form and keeps the unit's meaning.
use Rattle.std.proofs.Common.{◌≡◌, ℕ, zero, suc, ◌≤◌, [], ◌∷◌, refl, sym, ap, subst, ◌∙◌, inl, arith}
use Rattle.std.specs.Option.{option_and_then}
use Rattle.cil_base.specs.declared.kinds.IntKind.TheVariants.{Int}
use Rattle.cil_base.specs.declared.runs.Env.{Env}
use Rattle.cil_base.specs.Arithmetic.{arith_of}
use Rattle.cil_base.specs.Ends.{returned}
use Rattle.cil_base.specs.Outcome.{Allows}
use Rattle.c_meaning.specs.SourceFile.{SourceFile}
use Rattle.c_meaning.specs.Grammar.{Expression, Constant, Parentheses, Binary, Level, Primary, Additive, IsAt, IsUnit, height}
use Rattle.c_meaning.specs.Meaning.{value_of as c_value, RunC}
use Rattle.c_meaning.proofs.Units.{same_expression}
use Rattle.cil_meaning.specs.Program.{IsExp, IsProgram, depth}
use Rattle.cil_meaning.specs.Meaning.{value_of, RunCil}
use Rattle.cil_meaning.specs.Text.{Text}
use Rattle.cil_semantics.specs.Runs.{RunCil as WholeRun}
use Rattle.cil_semantics.specs.Modes.{mode_of}
use Rattle.cil_text.proofs.OneText.{same_text as same_program}
use Rattle.cil_tree.specs.Programs.{IsTextOf as WholeText}
use Rattle.cil_tree.specs.Text as text
use Rattle.cil_commands.specs.Lowering.{lowered, returning, Merges}
use Rattle.cil_commands.specs.Small.{small, whole_exp, whole_program}
use Rattle.cil_commands.proofs.Lengths.{length-lowered}
use Rattle.cil_commands.proofs.SmallRuns.{runs_alike}
use Rattle.cil_commands.proofs.SmallTexts.{same_text, is_whole_text}
use Rattle.cil_commands.proofs.SmallUnits.{small_is_grammatical}

small-IsExp : (level : Level) (e : Expression) → IsAt level e → IsExp (small e)
small-IsExp level (Constant value) at = at
small-IsExp level (Parentheses inner) at = small-IsExp Additive inner at
small-IsExp Primary (Binary op left right) at = absurd at
small-IsExp Additive (Binary op left right) at = (at.0, (small-IsExp Additive left at.1.0, small-IsExp Primary right at.1.1))

depth-small : (e : Expression) → depth (small e) ≤ height e
depth-small (Constant value) = omega arith
depth-small (Parentheses inner) = omega (arith, depth-small inner)
depth-small (Binary op left right) = omega (arith, depth-small left, depth-small right)

pub small-well_formed : (unit : SourceFile) (e : Expression) → IsUnit unit e → IsExp (small e)
small-well_formed unit e is = small-IsExp Additive e is.grammatical

small-IsProgram : (unit : SourceFile) (e : Expression) → IsUnit unit e → IsProgram (small e)
small-IsProgram unit e is = record { well_formed = small-well_formed unit e is; low = omega (arith, depth-small e, is.low) }

value_of-small : (e : Expression) → c_value e ≡ value_of (small e)
value_of-small (Constant value) = refl
value_of-small (Parentheses inner) = value_of-small inner
value_of-small (Binary op left right) =
    subst (λ l. c_value (Binary op left right) ≡ option_and_then (λ a. option_and_then (λ b. arith_of op Int a b) (value_of (small right))) l) (value_of-small left)
    (ap (λ r. option_and_then (λ a. option_and_then (λ b. arith_of op Int a b) r) (c_value left)) (value_of-small right))

same_run : (e : Expression) (env : Env) (steps : ℕ) → RunC e env steps ≡ RunCil (small e) env steps
same_run e env zero = refl
same_run e env (suc steps) = ap (λ v. returned v []) (value_of-small e)

whole-lowered : (e : Expression) → whole_exp (small e) ≡ lowered e
whole-lowered (Constant value) = refl
whole-lowered (Parentheses inner) = whole-lowered inner
whole-lowered (Binary op left right) = rw (whole-lowered left, whole-lowered right) refl

whole-run : (e : Expression) → IsExp (small e) → (env : Env) (steps : ℕ) → RunC e env steps ≡ WholeRun (whole_program (small e) ∷ []) (mode_of (whole_program (small e))) env.args.items env.input steps
whole-run e is env steps = same_run e env steps ∙ sym (runs_alike (small e) is (mode_of (whole_program (small e))) env.args.items env.input env steps)

-- its text
whole-text : (unit : SourceFile) (e : Expression) → IsUnit unit e → WholeText (text.Text (whole_program (small e))) (whole_program (small e))
whole-text unit e is =
    subst (λ bytes. WholeText bytes (whole_program (small e))) (sym (same_text (small e) (small-well_formed unit e is)))
    (is_whole_text (Text (small e)) (small e) (record { program = small-IsProgram unit e is; text = refl; short = length-lowered unit e is }))

pub small-Merges : (unit : SourceFile) (e : Expression) → IsUnit unit e → Merges unit (whole_program (small e))
small-Merges unit e is = record {
  made = record { grammatical = small_is_grammatical unit e is; tree = e; unit_of = is; made_is = ap returning (whole-lowered e) };
  text = whole-text unit e is;
  one = λ q own also. same_program (text.Text (whole_program (small e))) (whole_program (small e)) q (whole-text unit e is) also (sym own);
  allowed = λ f also env steps. subst (λ g. Allows (RunC g env steps) (WholeRun (whole_program (small e) ∷ []) (mode_of (whole_program (small e))) env.args.items env.input steps)) (same_expression unit e f is also) (inl (whole-run e (small-well_formed unit e is) env steps));
}
