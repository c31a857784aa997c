use Rattle.std.proofs.Common.{◌≡◌, ◌∷◌, ◌<◌, List, length, None, refl, arith}
use Rattle.std.proofs.lemmas.Grind.{common_steps}
use Rattle.std.proofs.lemmas.List.{length-map}
use Rattle.cil_base.specs.declared.operators.BinOp.TheVariants.{Mul, Add, And}
use Rattle.cil_text.specs.Words.{Word, LeftParen, RightParen, Operator, CharWord, Name}
use Rattle.cil_text.specs.ReadExps.{Env}
use Rattle.cil_text.specs.ReadImages.{read_address}
use Rattle.cil_scan.specs.declared.words.Word.{Word as Seen}
use Rattle.cil_scan.specs.Said.{said, all_said}
use Rattle.cil_reader.proofs.images.read_address.Goals as goal

short : (env : Env) (ws : List Word) → length ws < 7 → read_address env ws ≡ None
short env (LeftParen ∷ CharWord ∷ Operator Mul ∷ RightParen ∷ Operator And ∷ Name name ∷ Operator Add ∷ ws) less =
    absurd (omega (arith, less))
short env (LeftParen ∷ CharWord ∷ Operator Mul ∷ RightParen ∷ Operator And ∷ Name name ∷ Operator _ ∷ _) less = refl
short env (LeftParen ∷ CharWord ∷ Operator Mul ∷ RightParen ∷ Operator And ∷ Name name ∷ _) less = refl
short env (LeftParen ∷ CharWord ∷ Operator Mul ∷ RightParen ∷ Operator And ∷ _) less = refl
short env (LeftParen ∷ CharWord ∷ Operator Mul ∷ RightParen ∷ Operator _ ∷ _) less = refl
short env (LeftParen ∷ CharWord ∷ Operator Mul ∷ RightParen ∷ _) less = refl
short env (LeftParen ∷ CharWord ∷ Operator Mul ∷ _) less = refl
short env (LeftParen ∷ CharWord ∷ Operator _ ∷ _) less = refl
short env (LeftParen ∷ CharWord ∷ _) less = refl
short env (LeftParen ∷ _) less = refl
short env _ less = refl

said_short : (env : Env) (ws : List Seen) → length ws < 7 → read_address env (all_said ws) ≡ None
said_short env ws less = short env (all_said ws) (omega (arith, less, length-map ws said))

pub returns-in_err-global_named-in-LeftParen : goal.returns-in_err-global_named-in-LeftParen
returns-in_err-global_named-in-LeftParen c = grind (arith, common_steps)

pub returns-in_ok-global_named-in-LeftParen : goal.returns-in_ok-global_named-in-LeftParen
returns-in_ok-global_named-in-LeftParen c = grind (arith, common_steps)

pub returns-in_default : goal.returns-in_default
returns-in_default c = grind (arith, common_steps, said_short)
