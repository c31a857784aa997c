-- The automaton against the grammar, on lists of tokens alone.
use Rattle.std.proofs.Common.{◌≡◌, refl, sym, ap, subst, ◌∙◌, ℕ, ◌+◌, ◌^◌, ◌<◌, ◌≤◌, max, nat_lt, List, [], ◌∷◌, ◌++◌, length, map, codes, Option, Some, None, option_map, option_and_then, arith, append_assoc, append-nil}
use Rattle.std.proofs.lemmas.Bool.{cond-true, cond_both, lt-ltb, ltb-true}
use Rattle.std.proofs.lemmas.List.{map-append}
use Rattle.cil_base.specs.declared.operators.BinOp.{BinOp}
use Rattle.cil_base.specs.declared.operators.BinOp.TheVariants.{Add, Sub}
use Rattle.cil_base.specs.Operators.{IsAdditive}
use Rattle.cil_base.specs.declared.tokens.Punctuator.TheVariants.{LeftParen, RightParen, RightBrace, Semicolon as SemicolonSign}
use Rattle.c_meaning.specs.SourceFile.{Sign}
use Rattle.c_meaning.specs.Grammar.{Expression, Constant, Parentheses, Binary, Primary, Additive, IsAt, sign_of, spell, height, spell_unit}
use Rattle.c_meaning.specs.Reading.{Terminal, IntWord, MainWord, VoidWord, ReturnWord, Number, OpenParen, CloseParen, OpenBrace, CloseBrace, Semicolon, Plus, Minus, token_of, Place, AtType, AtName, AtList, AtVoid, AtListEnd, AtBody, AtReturn, Context, Beginning, Behind, State, Front, Operand, Whole, Returned, Done, passed, placed, opened, closed, ended, fed, result_of, run}

abbrev pub op_token : BinOp → Terminal
op_token Sub = Minus
op_token _ = Plus

abbrev pub tokens_of : Expression → List Terminal
tokens_of (Constant value) = Number value ∷ []
tokens_of (Parentheses e) = OpenParen ∷ (tokens_of e ++ CloseParen ∷ [])
tokens_of (Binary op l r) = tokens_of l ++ op_token op ∷ tokens_of r

abbrev pub unit_front : List Terminal
unit_front = IntWord ∷ MainWord ∷ OpenParen ∷ VoidWord ∷ CloseParen ∷ OpenBrace ∷ ReturnWord ∷ []

abbrev pub unit_tokens : Expression → List Terminal
unit_tokens e = unit_front ++ (tokens_of e ++ Semicolon ∷ CloseBrace ∷ [])

-- a constant of the grammar
abbrev pub IsSmall : Terminal → Type 0
IsSmall (Number value) = value < 2 ^ 31
IsSmall _ = Unit {0}

abbrev pub AreSmall : List Terminal → Type 0
AreSmall [] = Unit {0}
AreSmall (t ∷ ts) = IsSmall t × AreSmall ts

additive : (e : Expression) → IsAt Primary e → IsAt Additive e
additive (Constant value) is = is
additive (Parentheses e) is = is
additive (Binary op l r) is = absurd is

op_sign : (op : BinOp) → token_of (op_token op) ≡ Sign (sign_of op)
op_sign Sub = refl
op_sign _ = refl

op_small : (op : BinOp) → IsSmall (op_token op)
op_small Sub = tt
op_small _ = tt

small_of : (e : Expression) (rest : List Terminal) → IsAt Additive e → AreSmall rest → AreSmall (tokens_of e ++ rest)
small_of (Constant value) rest is small = (is, small)
small_of (Parentheses e) rest is small = (tt, subst_small e rest (small_of e (CloseParen ∷ rest) is (tt, small)))
  where
    subst_small : (e : Expression) (rest : List Terminal) → AreSmall (tokens_of e ++ CloseParen ∷ rest) → AreSmall ((tokens_of e ++ CloseParen ∷ []) ++ rest)
    subst_small e rest s = rw append_assoc s
small_of (Binary op l r) rest is small =
    rw append_assoc (small_of l (op_token op ∷ (tokens_of r ++ rest)) is.1.0 (op_small op, small_of r rest (additive r is.1.1) small))

pub small_unit : (e : Expression) → IsAt Additive e → AreSmall (unit_tokens e)
small_unit e is = (tt, (tt, (tt, (tt, (tt, (tt, (tt, small_of e (Semicolon ∷ CloseBrace ∷ []) is (tt, (tt, tt)))))))))

spelled : (e : Expression) → IsAt Additive e → map token_of (tokens_of e) ≡ spell e
spelled (Constant value) is = refl
spelled (Parentheses e) is = ap (λ ts. Sign LeftParen ∷ ts) (map-append token_of (tokens_of e) (CloseParen ∷ []) ∙ ap (λ ts. ts ++ Sign RightParen ∷ []) (spelled e is))
spelled (Binary op l r) is =
    map-append token_of (tokens_of l) (op_token op ∷ tokens_of r) ∙ rw (spelled l is.1.0, spelled r (additive r is.1.1), op_sign op) refl

pub spelled_unit : (e : Expression) → IsAt Additive e → map token_of (unit_tokens e) ≡ spell_unit e
spelled_unit e is =
    ap (λ ts. map token_of unit_front ++ ts) (map-append token_of (tokens_of e) (Semicolon ∷ CloseBrace ∷ []) ∙ ap (λ ts. ts ++ Sign SemicolonSign ∷ Sign RightBrace ∷ []) (spelled e is))

-- the automaton reads what the grammar has

height_least : (e : Expression) → 1 ≤ height e
height_least (Constant value) = omega arith
height_least (Parentheses e) = omega arith
height_least (Binary op l r) = omega arith

kept : (limit : ℕ) (rest : List Terminal) (below : List Context) (o : Option State) → option_and_then (λ (next : State × List Context). run limit rest next.0 next.1) (option_map (λ state. (state, below)) o) ≡ option_and_then (λ state. run limit rest state below) o
kept limit rest below None = refl
kept limit rest below (Some state) = refl

opens : (limit : ℕ) (context : Context) (below : List Context) → 1 + length below < limit → opened limit context below ≡ Some (Operand Beginning, context ∷ below)
opens limit context below less = cond-true _ _ _ (lt-ltb _ _ less)

closes : (limit : ℕ) (e : Expression) (h : ℕ) (context : Context) (below : List Context) → h < limit → closed limit e h (context ∷ below) ≡ option_map (λ state. (state, below)) (placed limit context (Parentheses e) (1 + h))
closes limit e h context below less = cond-true _ _ _ (lt-ltb _ _ less)

joins : (limit : ℕ) (op : BinOp) (l e : Expression) (k h : ℕ) → max k h < limit → placed limit (Behind op l k) e h ≡ Some (Whole (Binary op l e) (1 + max k h))
joins limit op l e k h less = cond-true _ _ _ (lt-ltb _ _ less)

-- what the automaton does with the tokens of an expression, whatever stands behind them
pub record IsRead (limit : ℕ) (e : Expression) : Type 0 where
  pub whole : IsAt Additive e → (below : List Context) (rest : List Terminal) → length below + height e ≤ limit → run limit (tokens_of e ++ rest) (Operand Beginning) below ≡ run limit rest (Whole e (height e)) below
  pub operand : IsAt Primary e → (context : Context) (below : List Context) (rest : List Terminal) → length below + height e ≤ limit
      → run limit (tokens_of e ++ rest) (Operand context) below ≡ option_and_then (λ state. run limit rest state below) (placed limit context e (height e))

group : (limit : ℕ) (e : Expression) → IsRead limit e → IsAt Additive e → (context : Context) (below : List Context) (rest : List Terminal) → length below + (1 + height e) ≤ limit
    → run limit (tokens_of (Parentheses e) ++ rest) (Operand context) below ≡ option_and_then (λ state. run limit rest state below) (placed limit context (Parentheses e) (1 + height e))
group limit e read is context below rest low =
    let least : 1 ≤ height e = height_least e in
    ap (λ o. option_and_then (λ (next : State × List Context). run limit ((tokens_of e ++ CloseParen ∷ []) ++ rest) next.0 next.1) o) (opens limit context below (omega arith))
    ∙ ap (λ ts. run limit ts (Operand Beginning) (context ∷ below)) (append_assoc (tokens_of e) (CloseParen ∷ []) rest)
    ∙ read.whole is (context ∷ below) (CloseParen ∷ rest) (omega arith)
    ∙ ap (λ o. option_and_then (λ (next : State × List Context). run limit rest next.0 next.1) o) (closes limit e (height e) context below (omega arith))
    ∙ kept limit rest below (placed limit context (Parentheses e) (1 + height e))

signs : (limit : ℕ) (op : BinOp) (e : Expression) (h : ℕ) (below : List Context) (rest : List Terminal) → IsAdditive op → run limit (op_token op ∷ rest) (Whole e h) below ≡ run limit rest (Operand (Behind op e h)) below
signs limit Add e h below rest is = refl
signs limit Sub e h below rest is = refl
signs limit _ e h below rest is = absurd is

pub reads : (limit : ℕ) (e : Expression) → IsRead limit e
reads limit (Constant value) = record {
  whole = λ is below rest low. refl;
  operand = λ is context below rest low. kept limit rest below (placed limit context (Constant value) 1);
}
reads limit (Parentheses e) = record {
  whole = λ is below rest low. group limit e (reads limit e) is Beginning below rest low;
  operand = λ is context below rest low. group limit e (reads limit e) is context below rest low;
}
reads limit (Binary op l r) = record {
  whole = λ is below rest low.
      ap (λ ts. run limit ts (Operand Beginning) below) (append_assoc (tokens_of l) (op_token op ∷ tokens_of r) rest)
      ∙ (reads limit l).whole is.1.0 below (op_token op ∷ (tokens_of r ++ rest)) (omega arith)
      ∙ signs limit op l (height l) below (tokens_of r ++ rest) is.0
      ∙ (reads limit r).operand is.1.1 (Behind op l (height l)) below rest (omega arith)
      ∙ ap (λ o. option_and_then (λ state. run limit rest state below) o) (joins limit op l r (height l) (height r) (omega arith));
  operand = λ is. absurd is;
}

pub unit_run : (limit : ℕ) (e : Expression) → IsAt Additive e → height e ≤ limit → run limit (unit_tokens e) (Front AtType) [] ≡ Some e
unit_run limit e is low = (reads limit e).whole is [] (Semicolon ∷ CloseBrace ∷ []) (omega arith)

-- and nothing else

abbrev before : Place → List Terminal
before AtType = []
before AtName = IntWord ∷ []
before AtList = IntWord ∷ MainWord ∷ []
before AtVoid = IntWord ∷ MainWord ∷ OpenParen ∷ []
before AtListEnd = IntWord ∷ MainWord ∷ OpenParen ∷ VoidWord ∷ []
before AtBody = IntWord ∷ MainWord ∷ OpenParen ∷ VoidWord ∷ CloseParen ∷ []
before AtReturn = IntWord ∷ MainWord ∷ OpenParen ∷ VoidWord ∷ CloseParen ∷ OpenBrace ∷ []

abbrev context_tokens : Context → List Terminal
context_tokens Beginning = []
context_tokens (Behind op l h) = tokens_of l ++ op_token op ∷ []

abbrev below_tokens : List Context → List Terminal
below_tokens [] = []
below_tokens (context ∷ below) = below_tokens below ++ (context_tokens context ++ OpenParen ∷ [])

-- the tokens that led to a state
abbrev told : State → List Context → List Terminal
told (Front place) below = before place
told (Operand context) below = unit_front ++ (below_tokens below ++ context_tokens context)
told (Whole e h) below = unit_front ++ (below_tokens below ++ tokens_of e)
told (Returned e) below = unit_front ++ (tokens_of e ++ Semicolon ∷ [])
told (Done e) below = unit_tokens e

abbrev IsLow : ℕ → Expression → Type 0
IsLow limit e = IsAt Additive e × (height e ≤ limit)

abbrev IsGoodContext : ℕ → Context → Type 0
IsGoodContext limit Beginning = Unit {0}
IsGoodContext limit (Behind op l h) = IsAdditive op × (IsLow limit l × (h ≡ height l))

abbrev AreGood : ℕ → List Context → Type 0
AreGood limit [] = Unit {0}
AreGood limit (context ∷ below) = IsGoodContext limit context × AreGood limit below

abbrev IsGood : ℕ → State → List Context → Type 0
IsGood limit (Front place) below = below ≡ []
IsGood limit (Operand context) below = IsGoodContext limit context × AreGood limit below
IsGood limit (Whole e h) below = IsLow limit e × ((h ≡ height e) × AreGood limit below)
IsGood limit (Returned e) below = IsLow limit e
IsGood limit (Done e) below = IsLow limit e

-- the next state, if there is one, is good, and those tokens led to it
abbrev Fits : ℕ → List Terminal → Option (State × List Context) → Type 0
Fits limit ts None = Unit {0}
Fits limit ts (Some next) = IsGood limit next.0 next.1 × (told next.0 next.1 ≡ ts)

passes : (limit : ℕ) (place : Place) (t : Terminal) (below : List Context) → below ≡ [] → Fits limit (before place ++ t ∷ []) (option_map (λ state. (state, below)) (passed place t))
passes limit AtType IntWord below none = (none, refl)
passes limit AtName MainWord below none = (none, refl)
passes limit AtList OpenParen below none = (none, refl)
passes limit AtVoid VoidWord below none = (none, refl)
passes limit AtListEnd CloseParen below none = (none, refl)
passes limit AtBody OpenBrace below none = (none, refl)
passes limit AtReturn ReturnWord below none = (subst (λ xs. IsGood limit (Operand Beginning) xs) (sym none) (tt, tt), subst (λ xs. told (Operand Beginning) xs ≡ unit_front) (sym none) refl)
passes limit _ _ below none = tt

places : (limit : ℕ) (context : Context) (below : List Context) (e : Expression) (h : ℕ) → IsGoodContext limit context → AreGood limit below → IsAt Primary e → height e ≤ limit → h ≡ height e
    → Fits limit (unit_front ++ (below_tokens below ++ (context_tokens context ++ tokens_of e))) (option_map (λ state. (state, below)) (placed limit context e h))
places limit Beginning below e h good goods is low same = (((additive e is, low), (same, goods)), refl)
places limit (Behind op l k) below e h good goods is low same =
    cond_both (nat_lt (max k h) limit) _ _
    (λ o. Fits limit (unit_front ++ (below_tokens below ++ ((tokens_of l ++ op_token op ∷ []) ++ tokens_of e))) (option_map (λ state. (state, below)) o))
    (λ less. let room : max k h < limit = ltb-true _ _ less in
    let tall : height l ≡ k = sym good.1.1 in
    let low : 1 + max (height l) (height e) ≤ limit = omega arith in
    let high : 1 + max k h ≡ 1 + max (height l) (height e) = omega arith in
    ((((good.0, (good.1.0.0, is)), low), (high, goods)), ap (λ ts. unit_front ++ (below_tokens below ++ ts)) (sym (append_assoc (tokens_of l) (op_token op ∷ []) (tokens_of e)))))
    (λ more. tt)

-- four lists joined to the left and to the right
regroup : (a b c d : List Terminal) → (a ++ (b ++ c)) ++ d ≡ a ++ (b ++ (c ++ d))
regroup a b c d = simp append_assoc

at_open : (limit : ℕ) (context : Context) (below : List Context) → IsGoodContext limit context → AreGood limit below → Fits limit (told (Operand context) below ++ OpenParen ∷ []) (opened limit context below)
at_open limit context below good goods =
    cond_both (nat_lt (1 + length below) limit) _ _ (Fits limit (told (Operand context) below ++ OpenParen ∷ []))
    (λ less. ((tt, (good, goods)), ap (λ ts. unit_front ++ ts) (append-nil _) ∙ sym (regroup unit_front (below_tokens below) (context_tokens context) (OpenParen ∷ []))))
    (λ more. tt)

around : (a c e : List Terminal) → (a ++ (c ++ OpenParen ∷ [])) ++ (e ++ CloseParen ∷ []) ≡ a ++ (c ++ OpenParen ∷ (e ++ CloseParen ∷ []))
around a c e = simp append_assoc

at_close : (limit : ℕ) (e : Expression) (h : ℕ) (below : List Context) → IsGood limit (Whole e h) below → Fits limit (told (Whole e h) below ++ CloseParen ∷ []) (closed limit e h below)
at_close limit e h [] good = tt
at_close limit e h (context ∷ below) good =
    cond_both (nat_lt h limit) _ _ (Fits limit (told (Whole e h) (context ∷ below) ++ CloseParen ∷ []))
    (λ less. let room : h < limit = ltb-true _ _ less in
    let low : 1 + height e ≤ limit = omega (arith, good.1.0) in
    subst (λ ts. Fits limit ts (option_map (λ state. (state, below)) (placed limit context (Parentheses e) (1 + h))))
    (ap (λ ts. unit_front ++ ts) (sym (around (below_tokens below) (context_tokens context) (tokens_of e))) ∙ sym (append_assoc unit_front (below_tokens (context ∷ below) ++ tokens_of e) (CloseParen ∷ []) ∙ ap (λ ts. unit_front ++ ts) (append_assoc (below_tokens (context ∷ below)) (tokens_of e) (CloseParen ∷ []))))
    (places limit context below (Parentheses e) (1 + h) good.1.1.0 good.1.1.1 good.0.0 low (ap (λ k. 1 + k) good.1.0)))
    (λ more. tt)

at_end : (limit : ℕ) (e : Expression) (h : ℕ) (below : List Context) → IsGood limit (Whole e h) below → Fits limit (told (Whole e h) below ++ Semicolon ∷ []) (ended e below)
at_end limit e h [] good = (good.0, refl)
at_end limit e h (context ∷ below) good = tt

at_sign : (limit : ℕ) (op : BinOp) (e : Expression) (h : ℕ) (below : List Context) → IsAdditive op → IsGood limit (Whole e h) below
    → Fits limit (told (Whole e h) below ++ op_token op ∷ []) (Some (Operand (Behind op e h), below))
at_sign limit op e h below is good = (((is, (good.0, good.1.0)), good.1.1), sym (regroup unit_front (below_tokens below) (tokens_of e) (op_token op ∷ [])))

at_number : (limit : ℕ) (value : ℕ) (context : Context) (below : List Context) → 1 ≤ limit → value < 2 ^ 31 → IsGoodContext limit context → AreGood limit below
    → Fits limit (told (Operand context) below ++ Number value ∷ []) (option_map (λ state. (state, below)) (placed limit context (Constant value) 1))
at_number limit value context below room small good goods =
    subst (λ ts. Fits limit ts (option_map (λ state. (state, below)) (placed limit context (Constant value) 1)))
    (sym (regroup unit_front (below_tokens below) (context_tokens context) (Number value ∷ [])))
    (places limit context below (Constant value) 1 good goods small room refl)

step : (limit : ℕ) (t : Terminal) (state : State) (below : List Context) → 1 ≤ limit → IsSmall t → IsGood limit state below → Fits limit (told state below ++ t ∷ []) (fed limit t state below)
step limit t (Front place) below room small good = passes limit place t below good
step limit (Number value) (Operand context) below room small good = at_number limit value context below room small good.0 good.1
step limit OpenParen (Operand context) below room small good = at_open limit context below good.0 good.1
step limit Plus (Whole e h) below room small good = at_sign limit Add e h below tt good
step limit Minus (Whole e h) below room small good = at_sign limit Sub e h below tt good
step limit CloseParen (Whole e h) below room small good = at_close limit e h below good
step limit Semicolon (Whole e h) below room small good = at_end limit e h below good
step limit CloseBrace (Returned e) below room small good = (good, sym (append_assoc unit_front (tokens_of e ++ Semicolon ∷ []) (CloseBrace ∷ []) ∙ ap (λ ts. unit_front ++ ts) (append_assoc (tokens_of e) (Semicolon ∷ []) (CloseBrace ∷ []))))
step limit _ _ below room small good = tt

onward : (limit : ℕ) (t : Terminal) (ts old : List Terminal) (e : Expression) (o : Option (State × List Context)) → Fits limit (old ++ t ∷ []) o
    → ((next : State × List Context) → IsGood limit next.0 next.1 → run limit ts next.0 next.1 ≡ Some e → IsLow limit e × (told next.0 next.1 ++ ts ≡ unit_tokens e))
    → option_and_then (λ (next : State × List Context). run limit ts next.0 next.1) o ≡ Some e → IsLow limit e × (old ++ t ∷ ts ≡ unit_tokens e)
onward limit t ts old e None fits later is = absurd (cc is)
onward limit t ts old e (Some next) fits later is =
    let tail = later next fits.0 is in
    (tail.0, sym (append_assoc old (t ∷ []) ts) ∙ ap (λ xs. xs ++ ts) (sym fits.1) ∙ tail.1)

finishes : (limit : ℕ) (state : State) (below : List Context) (e : Expression) → IsGood limit state below → result_of state ≡ Some e → IsLow limit e × (told state below ++ [] ≡ unit_tokens e)
finishes limit (Done d) below e good is = let same : d ≡ e = cc in subst (λ x. IsLow limit x × (told (Done d) below ++ [] ≡ unit_tokens x)) same (good, append-nil _)
finishes limit _ below e good is = absurd (cc is)

runs : (limit : ℕ) (ts : List Terminal) (state : State) (below : List Context) (e : Expression) → 1 ≤ limit → AreSmall ts → IsGood limit state below → run limit ts state below ≡ Some e
    → IsLow limit e × (told state below ++ ts ≡ unit_tokens e)
runs limit [] state below e room small good is = finishes limit state below e good is
runs limit (t ∷ ts) state below e room small good is =
    onward limit t ts (told state below) e (fed limit t state below) (step limit t state below room small.0 good) (λ next fits. runs limit ts next.0 next.1 e room small.1 fits) is

pub run_unit : (limit : ℕ) (ts : List Terminal) (e : Expression) → 1 ≤ limit → AreSmall ts → run limit ts (Front AtType) [] ≡ Some e → (IsAt Additive e × (height e ≤ limit)) × (ts ≡ unit_tokens e)
run_unit limit ts e room small is = runs limit ts (Front AtType) [] e room small refl is
