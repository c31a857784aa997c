-- Device: an executable reading of texts, byte by byte with an explicit stack. It gives back each program from its text; what it makes of other bytes is nobody's claim.
use Rattle.std.specs.Prelude.{ℕ, ◌+◌, ◌-◌, ◌*◌, ◌^◌, ◌==◌, nat_lt, if◌then◌else◌, List, [], ◌∷◌, length, drop, Option, Some, None, option_and_then}
use Rattle.std.specs.Option.{option_map}
use Rattle.std.specs.Char.{is_ascii_digit}
use Rattle.cil_base.specs.declared.operators.BinOp.{BinOp}
use Rattle.cil_base.specs.declared.operators.BinOp.TheVariants.{Add, Sub}
use Rattle.cil_meaning.specs.Program.{Exp, Const, Bin}
use Rattle.cil_meaning.specs.Spaced.{text_front}

-- the operand that is being read: none of it yet, or the expression so far
pub data Operand : Type 0 where
  Missing : Operand
  Found : (e : Exp) → Operand

-- a parenthesis that is still open: its left operand is being read, or its right one
pub data Open : Type 0 where
  InLeft : Open
  InRight : (left : Exp) (op : BinOp) → Open

-- one more digit
abbrev pub digit_read : ℕ → Operand → Option Operand
digit_read digit Missing = Some (Found (Const digit))
digit_read digit (Found (Const value)) = if nat_lt (value * 10 + digit) (2 ^ 31) then Some (Found (Const (value * 10 + digit))) else None
digit_read digit (Found (Bin op left right)) = None

-- `(`, of which at most 508 are open at once
abbrev pub parenthesis_opened : Operand → List Open → Option (Operand × List Open)
parenthesis_opened Missing open_ones = if nat_lt (length open_ones) 508 then Some (Missing, InLeft ∷ open_ones) else None
parenthesis_opened (Found e) open_ones = None

-- an operator
abbrev pub operator_read : BinOp → Operand → List Open → Option (Operand × List Open)
operator_read op (Found left) (InLeft ∷ open_ones) = Some (Missing, InRight left op ∷ open_ones)
operator_read op _ _ = None

-- `)`
abbrev pub parenthesis_closed : Operand → List Open → Option (Operand × List Open)
parenthesis_closed (Found right) (InRight left op ∷ open_ones) = Some (Found (Bin op left right), open_ones)
parenthesis_closed _ _ = None

-- a byte that is no digit
abbrev pub mark_read : ℕ → Operand → List Open → Option (Operand × List Open)
mark_read byte operand open_ones =
    if byte == 32 then Some (operand, open_ones)
    else (if byte == 40 then parenthesis_opened operand open_ones
    else (if byte == 41 then parenthesis_closed operand open_ones
    else (if byte == 43 then operator_read Add operand open_ones
    else (if byte == 45 then operator_read Sub operand open_ones
    else None))))

-- one byte of an expression
abbrev pub byte_read : ℕ → Operand → List Open → Option (Operand × List Open)
byte_read byte operand open_ones =
    if is_ascii_digit byte then option_map (λ o. (o, open_ones)) (digit_read (byte - 48) operand)
    else mark_read byte operand open_ones

-- the expression, where it is whole
abbrev pub whole : Operand → List Open → Option Exp
whole (Found e) [] = Some e
whole _ _ = None

-- the expression that ends at the first `;`
abbrev pub read_expression : List ℕ → Operand → List Open → Option Exp
read_expression [] operand open_ones = None
read_expression (byte ∷ bytes) operand open_ones =
    if byte == 59 then whole operand open_ones
    else option_and_then (λ next. read_expression bytes next.0 next.1) (byte_read byte operand open_ones)

abbrev pub read_text : List ℕ → Option Exp
read_text bytes = read_expression (drop (length text_front) bytes) Missing []
