-- Device: tokens that are appended one after the other.
use Rattle.std.proofs.Common.{◌≡◌, ℕ, List, [], ◌∷◌, ◌++◌, codes, Result, Ok, Err, OnOk, ap, ◌∙◌, sym, append_assoc}
use Rattle.cil_base.specs.declared.operators.BinOp.{BinOp}
use Rattle.cil_base.specs.Operators.{operator_spelling}
use Rattle.cil_meaning.specs.Program.{Exp, Bin}
use Rattle.cil_meaning.specs.Text.{exp_tokens, Text}
use Rattle.cil_meaning.specs.Spaced.{spaced, text_front, text_back}
use Rattle.cil_meaning.proofs.SpacedText.{spaced-append, text_spaced}

pub pushed_more : (tokens more : List (List ℕ)) (start between end : List ℕ) → between ≡ start ++ spaced tokens → end ≡ between ++ spaced more → end ≡ start ++ spaced (tokens ++ more)
pushed_more tokens more start between end first second =
    second ∙ (ap (λ b. b ++ spaced more) first ∙ (append_assoc start (spaced tokens) (spaced more) ∙ ap (λ t. start ++ t) (sym (spaced-append tokens more))))

-- what five calls append, the last of which may fail
pub five_pushed : {A E : Type 0} (left right : Exp) (op : BinOp) (start a b c d end : List ℕ) (r : Result A E) →
    a ≡ start ++ spaced (codes "(" ∷ []) → b ≡ a ++ spaced (exp_tokens left) → c ≡ b ++ spaced (operator_spelling op ∷ []) →
    d ≡ c ++ spaced (exp_tokens right) → OnOk r (end ≡ d ++ spaced (codes ")" ∷ [])) →
    OnOk r (end ≡ start ++ spaced (exp_tokens (Bin op left right)))
five_pushed left right op start a b c d end (Err e) ea eb ec ed last = last
five_pushed left right op start a b c d end (Ok v) ea eb ec ed last =
    pushed_more (codes "(" ∷ []) (exp_tokens left ++ operator_spelling op ∷ (exp_tokens right ++ codes ")" ∷ [])) start a end ea
    (pushed_more (exp_tokens left) (operator_spelling op ∷ (exp_tokens right ++ codes ")" ∷ [])) a b end eb
    (pushed_more (operator_spelling op ∷ []) (exp_tokens right ++ codes ")" ∷ []) b c end ec
    (pushed_more (exp_tokens right) (codes ")" ∷ []) c d end ed last)))

-- the three parts of a text
pub text_pushed : (p : Exp) (a b c d : List ℕ) → a ≡ [] → b ≡ a ++ text_front → c ≡ b ++ spaced (exp_tokens p) → d ≡ c ++ text_back → d ≡ Text p
text_pushed p a b c d ea eb ec ed =
    ed ∙ (ap (λ t. t ++ text_back) (ec ∙ ap (λ t. t ++ spaced (exp_tokens p)) (eb ∙ ap (λ t. t ++ text_front) ea))
    ∙ sym (text_spaced p))
