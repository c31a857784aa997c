-- Device: units that are accepted have no fault: what is read of a unit is one, and nothing that is refused.
use Rattle.std.proofs.Common.{◌≡◌, ℕ, ◌+◌, true, List, [], ◌∷◌, ◌++◌, length, Some, None, refl, sym, ap, ◌∙◌, subst, arith}
use Rattle.cil_base.specs.declared.faults.Refusal.{Refusal}
use Rattle.cil_base.specs.declared.kinds.Abi.{Abi}
use Rattle.cil_base.specs.declared.kinds.Mode.{Mode}
use Rattle.cil_base.specs.declared.numbers.UnitNo.{UnitNo}
use Rattle.c_lexer.specs.declared.entries.Entry.{Entry}
use Rattle.c_lexer.specs.declared.entries.Spot.{Spot}
use Rattle.c_lexer.specs.Lexed.{Lexed}
use Rattle.c_lexer.specs.Tokens.{Answer, Whole, Refused, IsAnswer, read, begun}
use Rattle.c_lexer.proofs.Longest.{only_cut}
use Rattle.c_tree.specs.Units.{UnitTree}
use Rattle.c_cursor.specs.Lexemes.{lexemes}
use Rattle.c_parser.specs.UnitAnswers.{ReadsUnit}
use Rattle.c_parser.proofs.UnitLaws.{one_unit}
use Rattle.c_typing.specs.Scopes.{Env, Found, Good, Bad}
use Rattle.c_typing.specs.Faults.{walked, first_fault, fault_in}
use Rattle.c_faults.specs.Reading.{Source, Read, HasTokens, IsRead, IsUnitFault, TooLarge, TooMuch, OfToken, OfGrammar, OfWalk}
use Rattle.c_faults.specs.Definitions.{first_twice}
use Rattle.c_faults.specs.Acceptance.{AreRead, total_of, names_behind, Clashes, FaultAt, InUnit, Twice, Apart, Accepted}

-- tokens and trees are one

pub same_answer : (u : Source) (names : List (List ℕ)) (answer other : Answer) → IsAnswer u.unit u.file names u.bytes answer → IsAnswer u.unit u.file names u.bytes other → answer ≡ other
same_answer u names answer other is also = is.2 ∙ (ap (λ ps. read ps (begun u.unit u.file names)) (only_cut true u.bytes is.0 is.1 ∙ sym (only_cut true u.bytes also.0 also.1)) ∙ sym also.2)

pub record OneLexed (t w : Lexed) (behind also : List (List ℕ)) : Type 0 where
  pub tokens : t ≡ w
  pub texts : behind ≡ also

abbrev lexed_of : List ℕ → UnitNo → List Entry → Spot → Lexed
lexed_of source unit entries end = record { source = source; unit = unit; entries = entries; end = end }

whole_entries : (a b : List Entry) (c d : Spot) (e f : List (List ℕ)) → Whole a c e ≡ Whole b d f → a ≡ b
whole_entries a b c d e f h = cc

whole_end : (a b : List Entry) (c d : Spot) (e f : List (List ℕ)) → Whole a c e ≡ Whole b d f → c ≡ d
whole_end a b c d e f h = cc

whole_names : (a b : List Entry) (c d : Spot) (e f : List (List ℕ)) → Whole a c e ≡ Whole b d f → e ≡ f
whole_names a b c d e f h = cc

same_lexed : (t w : Lexed) → t.source ≡ w.source → t.unit ≡ w.unit → t.entries ≡ w.entries → t.end ≡ w.end → t ≡ w
same_lexed t w a b c d =
    ap (λ x. lexed_of x t.unit t.entries t.end) a ∙ (ap (λ x. lexed_of w.source x t.entries t.end) b ∙ (ap (λ x. lexed_of w.source w.unit x t.end) c ∙ ap (λ x. lexed_of w.source w.unit w.entries x) d))

pub one_lexed : (u : Source) (before : List (List ℕ)) (t w : Lexed) (behind names : List (List ℕ)) → HasTokens u before t behind → HasTokens u before w names → OneLexed t w behind names
one_lexed u before t w behind names h k = let e = same_answer u before (Whole t.entries t.end behind) (Whole w.entries w.end names) h.lexed k.lexed in record {
  tokens = same_lexed t w (h.source ∙ sym k.source) (h.unit ∙ sym k.unit) (whole_entries t.entries w.entries t.end w.end behind names e) (whole_end t.entries w.entries t.end w.end behind names e);
  texts = whole_names t.entries w.entries t.end w.end behind names e;
}

abbrev read_of : Lexed → UnitTree → List (List ℕ) → Env → Read
read_of t tree names env = record { tokens = t; tree = tree; names = names; env = env }

same_read : (r q : Read) → r.tokens ≡ q.tokens → r.tree ≡ q.tree → r.names ≡ q.names → r.env ≡ q.env → r ≡ q
same_read r q a b c d =
    ap (λ x. read_of x r.tree r.names r.env) a ∙ (ap (λ x. read_of q.tokens x r.names r.env) b ∙ (ap (λ x. read_of q.tokens q.tree x r.env) c ∙ ap (λ x. read_of q.tokens q.tree q.names x) d))

abbrev env_in : Env → Found ((Unit {0}) × Env) → Env
env_in env (Good x) = x.1
env_in env (Bad fault at) = env

-- what is read of a unit is one
pub one_read : (abi : Abi) (total other : ℕ) (names : List (List ℕ)) (u : Source) (r q : Read) → IsRead abi total names u r → IsRead abi other names u q → r ≡ q
one_read abi total other names u r q h k =
    let o = one_lexed u names r.tokens q.tokens r.names q.names h.tokens k.tokens in
    let trees : r.tree ≡ q.tree = one_unit (lexemes q.tokens) r.tree q.tree (subst (λ t. ReadsUnit (lexemes t) r.tree) o.tokens h.grammatical) k.grammatical in
    let walks : walked r.names abi r.tree ≡ walked q.names abi q.tree = ap (λ ns. walked ns abi r.tree) o.texts ∙ ap (λ x. walked q.names abi x) trees in
    same_read r q o.tokens trees o.texts (ap (env_in r.env) (sym h.walked ∙ (walks ∙ k.walked)))

-- it is not refused
pub no_fault : (abi : Abi) (total : ℕ) (names : List (List ℕ)) (u : Source) (r : Read) (refusal : Refusal) → IsRead abi total names u r → IsUnitFault abi total names u refusal → ⊥
no_fault abi total names u r refusal h (TooLarge l) = let m = h.within.alone in omega (arith, l, m)
no_fault abi total names u r refusal h (TooMuch s l) = let m = h.within.together in omega (arith, l, m)
no_fault abi total names u r refusal h (OfToken other behind w a) = by (same_answer u names (Whole r.tokens.entries r.tokens.end r.names) (Refused other behind) h.tokens.lexed a)
  where
    by : Whole r.tokens.entries r.tokens.end r.names ≡ Refused other behind → ⊥
    by e = cc
no_fault abi total names u r refusal h (OfGrammar other t behind w k f) =
    let o = one_lexed u names r.tokens t r.names behind h.tokens k in
    f.fault.refuses.no_unit r.tree (subst (λ x. ReadsUnit (lexemes x) r.tree) o.tokens h.grammatical)
no_fault abi total names u r refusal h (OfWalk other t behind tree x w k g f p) =
    let o = one_lexed u names r.tokens t r.names behind h.tokens k in
    let trees : r.tree ≡ tree = one_unit (lexemes t) r.tree tree (subst (λ y. ReadsUnit (lexemes y) r.tree) o.tokens h.grammatical) g in
    by (ap fault_in (sym (ap (λ ns. walked ns abi r.tree) o.texts ∙ ap (λ y. walked behind abi y) trees) ∙ h.walked)) f
  where
    by : first_fault behind abi tree ≡ None → first_fault behind abi tree ≡ Some x → ⊥
    by a b = cc

-- of units in order

pub same_reads : (abi : Abi) (total : ℕ) (names : List (List ℕ)) (us : List Source) (rs qs : List Read) → AreRead abi total names us rs → AreRead abi total names us qs → rs ≡ qs
same_reads abi total names [] [] [] h k = refl
same_reads abi total names [] [] (q ∷ qs) h k = absurd k
same_reads abi total names [] (r ∷ rs) qs h k = absurd h
same_reads abi total names (u ∷ us) [] qs h k = absurd h
same_reads abi total names (u ∷ us) (r ∷ rs) [] h k = absurd k
same_reads abi total names (u ∷ us) (r ∷ rs) (q ∷ qs) h k =
    let one : r ≡ q = one_read abi total total names u r q h.0 k.0 in
    ap (λ x. x ∷ rs) one ∙ ap (λ xs. q ∷ xs) (same_reads abi (total + length u.bytes) q.names us rs qs (subst (λ x. AreRead abi (total + length u.bytes) x.names us rs) one h.1) k.1)

pub none_in_order : (abi : Abi) (total : ℕ) (names : List (List ℕ)) (before behind : List Source) (u : Source) (rs qs : List Read) (refusal : Refusal)
    → AreRead abi total names (before ++ (u ∷ behind)) rs → AreRead abi total names before qs → IsUnitFault abi (total + total_of before) (names_behind names qs) u refusal → ⊥
none_in_order abi total names [] behind u [] qs refusal h k f = absurd h
none_in_order abi total names [] behind u (r ∷ rs) [] refusal h k f = no_fault abi total names u r refusal h.0 (subst (λ i. IsUnitFault abi i names u refusal) (sum total) f)
  where
    sum : (a : ℕ) → a + 0 ≡ a
    sum a = omega arith
none_in_order abi total names [] behind u (r ∷ rs) (q ∷ qs) refusal h k f = absurd k
none_in_order abi total names (b ∷ bs) behind u [] qs refusal h k f = absurd h
none_in_order abi total names (b ∷ bs) behind u (r ∷ rs) [] refusal h k f = absurd k
none_in_order abi total names (b ∷ bs) behind u (r ∷ rs) (q ∷ qs) refusal h k f =
    let one : r ≡ q = one_read abi total total names b r q h.0 k.0 in
    none_in_order abi (total + length b.bytes) q.names bs behind u rs qs refusal (subst (λ x. AreRead abi (total + length b.bytes) x.names (bs ++ (u ∷ behind)) rs) one h.1) k.1
    (subst (λ i. IsUnitFault abi i (names_behind q.names qs) u refusal) (sum total (length b.bytes) (total_of bs)) f)
  where
    sum : (a b c : ℕ) → a + (b + c) ≡ (a + b) + c
    sum a b c = omega arith

-- units that are accepted have no fault
pub accepted_has_no_fault : (Clash : Clashes) (mode : Mode) (names : List (List ℕ)) (units : List Source) → Accepted Clash mode names units → (refusal : Refusal) → FaultAt Clash mode names units refusal → ⊥
accepted_has_no_fault Clash mode names units a refusal (InUnit other before behind u reads parts read fault) =
    none_in_order mode.abi 0 names before behind u a.reads reads other (subst (λ us. AreRead mode.abi 0 names us a.reads) parts a.read) read (subst (λ i. IsUnitFault mode.abi i (names_behind names reads) u other) (zero_more (total_of before)) fault)
  where
    zero_more : (k : ℕ) → k ≡ 0 + k
    zero_more k = omega arith
accepted_has_no_fault Clash mode names units a refusal (Twice places reads read two) = by (ap (first_twice mode.common) (same_reads mode.abi 0 names units a.reads reads a.read read)) a.once two
  where
    by : first_twice mode.common a.reads ≡ first_twice mode.common reads → first_twice mode.common a.reads ≡ None → first_twice mode.common reads ≡ Some places → ⊥
    by e f g = cc
accepted_has_no_fault Clash mode names units a refusal (Apart other reads read once clash) = a.together other (subst (λ rs. Clash rs other) (sym (same_reads mode.abi 0 names units a.reads reads a.read read)) clash)
