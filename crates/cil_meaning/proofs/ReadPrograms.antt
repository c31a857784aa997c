-- Device: what the reading makes of bytes is a program, whatever the bytes are.
use Rattle.std.proofs.Common.{◌≡◌, ℕ, suc, ◌+◌, ◌-◌, ◌*◌, ◌^◌, ◌<◌, ◌≤◌, ◌==◌, nat_lt, nat_le, Bool, true, false, ◌&&◌, if◌then◌else◌, List, [], ◌∷◌, length, drop, Option, Some, None, IfSome, refl, arith, ltb-true, leb-true}
use Rattle.std.specs.Option.{option_map, option_and_then}
use Rattle.std.specs.Char.{is_ascii_digit}
use Rattle.cil_base.specs.declared.operators.BinOp.{BinOp}
use Rattle.cil_base.specs.declared.operators.BinOp.TheVariants.{Add, Sub}
use Rattle.cil_base.specs.Operators.{IsAdditive}
use Rattle.cil_meaning.specs.Program.{Const, Bin, IsExp, IsProgram, depth}
use Rattle.cil_meaning.specs.Spaced.{text_front}
use Rattle.cil_meaning.specs.Reading.{Operand, Missing, Found, Open, InLeft, InRight, digit_read, parenthesis_opened, operator_read, parenthesis_closed, mark_read, byte_read, whole, read_expression, read_text}

-- the operand is well-formed and low enough under that many open parentheses
abbrev IsLow : Operand → ℕ → Type 0
IsLow Missing count = Unit {0}
IsLow (Found e) count = IsExp e × (depth e + count ≤ 509)

abbrev AreLow : List Open → Type 0
AreLow [] = Unit {0}
AreLow (InLeft ∷ open_ones) = (length open_ones < 508) × AreLow open_ones
AreLow (InRight left op ∷ open_ones) = (length open_ones < 508) × (IsAdditive op × (IsLow (Found left) (suc (length open_ones)) × AreLow open_ones))

abbrev Stands : Operand × List Open → Type 0
Stands s = IsLow s.0 (length s.1) × AreLow s.1

few : (open_ones : List Open) → AreLow open_ones → length open_ones ≤ 508
few [] low = omega arith
few (InLeft ∷ open_ones) low = omega (arith, low.0)
few (InRight left op ∷ open_ones) low = omega (arith, low.0)

-- a fact of both branches of a test
chosen : {X : Type 0} (P : X → Type 0) (test : Bool) (x y : Option X) → (test ≡ true → IfSome x P) → (test ≡ false → IfSome y P) → IfSome (if test then x else y) P
chosen P true x y then_ else_ = then_ refl
chosen P false x y then_ else_ = else_ refl

-- a fact of a step, and of what follows it
followed : {X Y : Type 0} (P : X → Type 0) (Q : Y → Type 0) (f : X → Option Y) (x : Option X) → IfSome x P → ((v : X) → P v → IfSome (f v) Q) → IfSome (option_and_then f x) Q
followed P Q f None h more = h
followed P Q f (Some v) h more = more v h

beside : (open_ones : List Open) (x : Option Operand) → IfSome x (λ o. IsLow o (length open_ones)) → AreLow open_ones → IfSome (option_map (λ o. (o, open_ones)) x) Stands
beside open_ones None h low = h
beside open_ones (Some o) h low = (h, low)

digit-Stands : (digit : ℕ) (operand : Operand) (count : ℕ) → digit < 10 → count ≤ 508 → IsLow operand count → IfSome (digit_read digit operand) (λ o. IsLow o count)
digit-Stands digit Missing count small few is = (omega arith, omega arith)
digit-Stands digit (Found (Const value)) count small few is =
    chosen (λ o. IsLow o count) (nat_lt (value * 10 + digit) (2 ^ 31)) (Some (Found (Const (value * 10 + digit)))) None
    (λ t. (ltb-true (value * 10 + digit) (2 ^ 31) t, is.1)) (λ f. tt)
digit-Stands digit (Found (Bin op left right)) count small few is = tt

opened-Stands : (operand : Operand) (open_ones : List Open) → Stands (operand, open_ones) → IfSome (parenthesis_opened operand open_ones) Stands
opened-Stands Missing open_ones is =
    chosen Stands (nat_lt (length open_ones) 508) (Some (Missing, InLeft ∷ open_ones)) None (λ t. (tt, (ltb-true (length open_ones) 508 t, is.1))) (λ f. tt)
opened-Stands (Found e) open_ones is = tt

operator-Stands : (op : BinOp) (operand : Operand) (open_ones : List Open) → IsAdditive op → Stands (operand, open_ones) → IfSome (operator_read op operand open_ones) Stands
operator-Stands op Missing open_ones additive is = tt
operator-Stands op (Found left) [] additive is = tt
operator-Stands op (Found left) (InLeft ∷ open_ones) additive is = (tt, (is.1.0, (additive, (is.0, is.1.1))))
operator-Stands op (Found left) (InRight l o ∷ open_ones) additive is = tt

closed-Stands : (operand : Operand) (open_ones : List Open) → Stands (operand, open_ones) → IfSome (parenthesis_closed operand open_ones) Stands
closed-Stands Missing open_ones is = tt
closed-Stands (Found right) [] is = tt
closed-Stands (Found right) (InLeft ∷ open_ones) is = tt
closed-Stands (Found right) (InRight left op ∷ open_ones) is =
    (((is.1.1.0, (is.1.1.1.0.0, is.0.0)), omega (arith, is.1.1.1.0.1, is.0.1)), is.1.1.1.1)

mark-Stands : (byte : ℕ) (operand : Operand) (open_ones : List Open) → Stands (operand, open_ones) → IfSome (mark_read byte operand open_ones) Stands
mark-Stands byte operand open_ones is =
    chosen Stands (byte == 32) _ _ (λ _. is)
    (λ _. chosen Stands (byte == 40) _ _ (λ _. opened-Stands operand open_ones is)
    (λ _. chosen Stands (byte == 41) _ _ (λ _. closed-Stands operand open_ones is)
    (λ _. chosen Stands (byte == 43) _ _ (λ _. operator-Stands Add operand open_ones tt is)
    (λ _. chosen Stands (byte == 45) _ _ (λ _. operator-Stands Sub operand open_ones tt is)
    (λ _. tt)))))

both : (a b : Bool) → (a && b) ≡ true → (a ≡ true) × (b ≡ true)
both true b h = (refl, h)
both false b h = (h, absurd (cc h))

byte-Stands : (byte : ℕ) (operand : Operand) (open_ones : List Open) → Stands (operand, open_ones) → IfSome (byte_read byte operand open_ones) Stands
byte-Stands byte operand open_ones is =
    chosen Stands (is_ascii_digit byte) _ _
    (λ digit. let low = leb-true byte 57 (both (nat_le 48 byte) (nat_le byte 57) digit).1 in
    beside open_ones (digit_read (byte - 48) operand) (digit-Stands (byte - 48) operand (length open_ones) (omega (arith, low)) (few open_ones is.1) is.0) is.1)
    (λ _. mark-Stands byte operand open_ones is)

whole-IsProgram : (operand : Operand) (open_ones : List Open) → Stands (operand, open_ones) → IfSome (whole operand open_ones) IsProgram
whole-IsProgram Missing open_ones is = tt
whole-IsProgram (Found e) [] is = record { well_formed = is.0.0; low = omega (arith, is.0.1) }
whole-IsProgram (Found e) (o ∷ open_ones) is = tt

read_expression-IsProgram : (bytes : List ℕ) (operand : Operand) (open_ones : List Open) → Stands (operand, open_ones) → IfSome (read_expression bytes operand open_ones) IsProgram
read_expression-IsProgram [] operand open_ones is = tt
read_expression-IsProgram (byte ∷ bytes) operand open_ones is =
    chosen IsProgram (byte == 59) _ _ (λ _. whole-IsProgram operand open_ones is)
    (λ _. followed Stands IsProgram (λ next. read_expression bytes next.0 next.1) (byte_read byte operand open_ones) (byte-Stands byte operand open_ones is)
    (λ next h. read_expression-IsProgram bytes next.0 next.1 h))

pub read_text-IsProgram : (bytes : List ℕ) → IfSome (read_text bytes) IsProgram
read_text-IsProgram bytes = read_expression-IsProgram (drop (length text_front) bytes) Missing [] (tt, tt)
