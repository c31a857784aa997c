-- Device: the text of a program by the blanks behind its tokens.
use Rattle.std.proofs.Common.{◌≡◌, ℕ, List, [], ◌∷◌, ◌++◌, codes, refl, ap, sym, ◌∙◌, append_assoc}
use Rattle.std.specs.List.{join_with_byte}
use Rattle.cil_base.specs.declared.operators.BinOp.{BinOp}
use Rattle.cil_base.specs.Operators.{operator_spelling}
use Rattle.cil_meaning.specs.Program.{Exp, Bin}
use Rattle.cil_meaning.specs.Text.{exp_tokens, Text}
use Rattle.cil_meaning.specs.Spaced.{spaced, text_front, text_back}

pub spaced-append : (xs ys : List (List ℕ)) → spaced (xs ++ ys) ≡ spaced xs ++ spaced ys
spaced-append [] ys = refl
spaced-append (x ∷ xs) ys = ap (λ t. x ++ 32 ∷ t) (spaced-append xs ys) ∙ sym (append_assoc x (32 ∷ spaced xs) (spaced ys))

-- a list of tokens with one blank between two
pub join-last : (tokens : List (List ℕ)) (last : List ℕ) → join_with_byte 32 (tokens ++ last ∷ []) ≡ spaced tokens ++ last
join-last [] last = refl
join-last (x ∷ []) last = sym (append_assoc x (32 ∷ []) last)
join-last (x ∷ y ∷ ys) last = ap (λ t. x ++ 32 ∷ t) (join-last (y ∷ ys) last) ∙ sym (append_assoc x (32 ∷ spaced (y ∷ ys)) last)

pub text_spaced : (p : Exp) → Text p ≡ text_front ++ (spaced (exp_tokens p) ++ text_back)
text_spaced p =
    ap (λ t. codes "int main ( void ) ;\nint main ( void ) {\n  " ++ ((t ++ 10 ∷ []) ++ codes "}\n")) (join-last (codes "return" ∷ exp_tokens p) (codes ";"))
    ∙ ap (λ t. text_front ++ t) (ap (λ t. t ++ codes "}\n") (append_assoc (spaced (exp_tokens p)) (codes ";") (10 ∷ [])) ∙ append_assoc (spaced (exp_tokens p)) (codes ";\n") (codes "}\n"))

-- the tokens of an operator over its operands
pub spaced_binary : (op : BinOp) (left right : Exp) →
    spaced (exp_tokens (Bin op left right))
    ≡ codes "( " ++ (spaced (exp_tokens left) ++ (operator_spelling op ++ 32 ∷ (spaced (exp_tokens right) ++ codes ") ")))
spaced_binary op left right =
    ap (λ t. codes "( " ++ t) (spaced-append (exp_tokens left) (operator_spelling op ∷ (exp_tokens right ++ codes ")" ∷ []))
    ∙ ap (λ t. spaced (exp_tokens left) ++ (operator_spelling op ++ 32 ∷ t)) (spaced-append (exp_tokens right) (codes ")" ∷ [])))
