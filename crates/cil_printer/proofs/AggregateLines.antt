-- Device: what is printed of structs, unions and enums.
use Rattle.std.proofs.Common.{◌≡◌, ℕ, zero, suc, ◌<◌, ◌≤◌, ◌*◌, Bool, true, false, cond, List, [], ◌∷◌, ◌++◌, Option, Some, None, length, get_or, drop, map, slice_get, codes, replicate, refl, sym, ap, ◌∙◌, arith}
use Rattle.cil_base.specs.declared.kinds.IntKind.TheVariants.{Int as int}
use Rattle.type_graph.specs.declared.aggregates.Aggregate.{Aggregate}
use Rattle.type_graph.specs.declared.aggregates.Member.{Member}
use Rattle.type_graph.specs.Shapes.{shape}
use Rattle.cil_tree.specs.Tree.{Program}
use Rattle.cil_tree.specs.Typing.{is_enum}
use Rattle.cil_tree.specs.Lines.{Line, open_behind}
use Rattle.cil_tree.specs.Declarators.{tagged, number, declared}
use Rattle.cil_tree.specs.Text.{closed, member_name, enumerator_line, member_line, complete_lines, enum_lines, tag_lines, struct_lines}
use Rattle.cil_printer.specs.Output.{Output, put, puts}
use Rattle.cil_printer.specs.Plain.{is_plain, are_plain, IsPlainProgram, IsPlainAggregate, prints, open_past}
use Rattle.cil_printer.proofs.Puts.{cons_pushed}
use Rattle.cil_printer.proofs.PlainTokens.{plain_cons, number_plain, declared_plain}
use Rattle.cil_printer.proofs.Printed.{line_printed, closing_printed, closed_printed, opening_printed, nested_printed, prints-prints, nothing_printed, past_append, depth_front, open_plain, open_closed}
use Rattle.cil_printer.proofs.GlobalTokens.{unindented}

pub ending_printed : (o a b : Output) → a ≡ puts o (codes "}" ∷ []) → b ≡ put a (codes ";" ++ 10 ∷ []) → b ≡ prints o 1 ((codes "}" ∷ codes ";" ∷ []) ∷ [])
ending_printed o a b ea eb = closing_printed o o a b 0 (codes "}" ∷ []) (codes ";") refl (unindented o) ea eb

pub no_tag : (o : Output) (p : Program) (x : Aggregate) → is_enum x.kind ≡ true → o ≡ prints o 0 (tag_lines p x)
no_tag o p x e = nothing_printed o 0 ∙ ap (λ b. prints o 0 (cond b [] (closed (tagged p x) ∷ []))) (sym e)

pub tag_printed : (o a b : Output) (p : Program) (x : Aggregate) → are_plain (tagged p x) ≡ true → is_enum x.kind ≡ false → a ≡ puts o (tagged p x) → b ≡ put a (codes ";" ++ 10 ∷ []) → b ≡ prints o 0 (tag_lines p x)
tag_printed o a b p x plain e ea eb = closed_printed o o a b 0 (tagged p x) plain (unindented o) ea eb ∙ ap (λ k. prints o 0 (cond k [] (closed (tagged p x) ∷ []))) (sym e)

pub opening_of : (o a b : Output) (p : Program) (x : Aggregate) → are_plain (tagged p x) ≡ true → a ≡ puts o (tagged p x) → b ≡ put a (codes "{" ++ 10 ∷ []) → b ≡ prints o 0 ((tagged p x ++ codes "{" ∷ []) ∷ [])
opening_of o a b p x plain ea eb = opening_printed o o a b 0 (tagged p x) plain (unindented o) ea eb

pub enumerator_printed : (o a b c d e : Output) (p : Program) (m : Member) → is_plain (member_name p m) ≡ true → a ≡ put o (replicate (2 * 1) 32) → b ≡ puts a (member_name p m ∷ []) → c ≡ puts b (codes "=" ∷ []) → d ≡ puts c (number int m.value) → e ≡ put d (codes "," ++ 10 ∷ []) → e ≡ prints o 1 (enumerator_line p m ∷ [])
enumerator_printed o a b c d e p m named ea eb ec ed ee =
    line_printed o a d e 1 (member_name p m ∷ codes "=" ∷ number int m.value) (codes ",") (depth_front 1 (member_name p m ∷ codes "=" ∷ number int m.value) (codes ",") (plain_cons (member_name p m) (codes "=" ∷ number int m.value) named (number_plain int m.value)) refl) ea
    (cons_pushed a b d (member_name p m) (codes "=" ∷ number int m.value) eb (cons_pushed b c d (codes "=") (number int m.value) ec ed)) ee

pub member_printed : (o a b c : Output) (p : Program) (m : Member) → IsPlainProgram p → is_plain (member_name p m) ≡ true → a ≡ put o (replicate (2 * 1) 32) → b ≡ puts a (declared p (shape p.graph.nodes m.ty.of.0) (member_name p m ∷ [])) → c ≡ put b (codes ";" ++ 10 ∷ []) → c ≡ prints o 1 (member_line p m ∷ [])
member_printed o a b c p m is named ea eb ec = closed_printed o a b c 1 (declared p (shape p.graph.nodes m.ty.of.0) (member_name p m ∷ [])) (declared_plain p is (shape p.graph.nodes m.ty.of.0) (member_name p m ∷ []) (plain_cons (member_name p m) [] named refl)) ea eb ec

-- members at an index
pub at_index : (ms : List Member) (i : ℕ) (d : Member) → i < length ms → slice_get ms i ≡ Some (get_or ms i d)
at_index [] i d h = absurd (omega arith)
at_index (m ∷ ms) zero d h = refl
at_index (m ∷ ms) (suc i) d h = at_index ms i d (omega arith)

next_is : (ms : List Member) (i : ℕ) (d : Member) → i < length ms → drop i ms ≡ get_or ms i d ∷ drop (suc i) ms
next_is [] i d h = absurd (omega arith)
next_is (m ∷ ms) zero d h = refl
next_is (m ∷ ms) (suc i) d h = next_is ms i d (omega arith)

-- lines of members from one on, each of which leaves one brace open
pub each_from : (o a : Output) (of : Member → Line) (ms : List Member) (i j : ℕ) (d : Member) → j ≡ suc i → i < length ms → open_past 1 (of (get_or ms i d) ∷ []) ≡ 1 → a ≡ prints o 1 (of (get_or ms i d) ∷ []) → prints a 1 (map of (drop j ms)) ≡ prints o 1 (map of (drop i ms))
each_from o a of ms i j d k h e ea =
    ap (λ l. prints a 1 (map of (drop l ms))) k ∙ ap (λ y. prints y 1 (map of (drop (suc i) ms))) ea ∙ prints-prints o 1 1 (of (get_or ms i d) ∷ []) (map of (drop (suc i) ms)) e ∙ ap (λ ys. prints o 1 (map of ys)) (sym (next_is ms i d h))

pub each_end : (o x : Output) (of : Member → Line) (ms : List Member) (i : ℕ) → length ms ≤ i → prints o 1 (map of (drop i ms)) ≡ x → o ≡ x
each_end o x of ms i h e = nothing_printed o 1 ∙ ap (λ ys. prints o 1 (map of ys)) (sym (past ms i h)) ∙ e
  where
    past : (ms : List Member) (i : ℕ) → length ms ≤ i → drop i ms ≡ []
    past [] zero h = refl
    past [] (suc i) h = refl
    past (t ∷ ms) zero h = absurd (omega arith)
    past (t ∷ ms) (suc i) h = past ms i (omega arith)

pub enumerator_past : (p : Program) (m : Member) → is_plain (member_name p m) ≡ true → open_past 1 (enumerator_line p m ∷ []) ≡ 1
enumerator_past p m e = open_plain 1 (member_name p m ∷ codes "=" ∷ number int m.value) (codes "," ∷ []) (plain_cons (member_name p m) (codes "=" ∷ number int m.value) e (number_plain int m.value))

pub member_past : (p : Program) (m : Member) → IsPlainProgram p → is_plain (member_name p m) ≡ true → open_past 1 (member_line p m ∷ []) ≡ 1
member_past p m is e = open_closed 1 (declared p (shape p.graph.nodes m.ty.of.0) (member_name p m ∷ [])) (declared_plain p is (shape p.graph.nodes m.ty.of.0) (member_name p m ∷ []) (plain_cons (member_name p m) [] e refl))

-- an aggregate with its members
abbrev EachNamed : Program → List Member → Type 0
EachNamed p ms = (n : ℕ) (m : Member) → slice_get ms n ≡ Some m → is_plain (member_name p m) ≡ true

abbrev head_of : Program → Aggregate → Line
head_of p x = tagged p x ++ codes "{" ∷ []

abbrev ending : Line
ending = codes "}" ∷ codes ";" ∷ []

enumerators_past : (p : Program) (ms : List Member) → EachNamed p ms → open_past 1 (map (enumerator_line p) ms) ≡ 1
enumerators_past p [] e = refl
enumerators_past p (m ∷ ms) e = ap (λ k. open_past k (map (enumerator_line p) ms)) (enumerator_past p m (e 0 m refl)) ∙ enumerators_past p ms (λ n y h. e (suc n) y h)

members_past : (p : Program) (ms : List Member) → IsPlainProgram p → EachNamed p ms → open_past 1 (map (member_line p) ms) ≡ 1
members_past p [] is e = refl
members_past p (m ∷ ms) is e = ap (λ k. open_past k (map (member_line p) ms)) (member_past p m is (e 0 m refl)) ∙ members_past p ms is (λ n y h. e (suc n) y h)

head_opens : (p : Program) (x : Aggregate) → are_plain (tagged p x) ≡ true → open_behind 0 (head_of p x) ≡ 1
head_opens p x e = open_plain 0 (tagged p x) (codes "{" ∷ []) e

whole_printed : (o a b c : Output) (p : Program) (x : Aggregate) (lines : List Line) → are_plain (tagged p x) ≡ true → open_past 1 lines ≡ 1 → a ≡ prints o 0 (head_of p x ∷ []) → b ≡ prints a 1 lines → c ≡ prints b 1 (ending ∷ []) → c ≡ prints o 0 (head_of p x ∷ (lines ++ ending ∷ []))
whole_printed o a b c p x lines tag el ea eb ec =
    nested_printed o a c 0 (head_of p x) (lines ++ ending ∷ []) (head_opens p x tag) ea (ec ∙ ap (λ y. prints y 1 (ending ∷ [])) eb ∙ prints-prints a 1 1 lines (ending ∷ []) el)

pub enumerators_whole : (o a b c : Output) (p : Program) (x : Aggregate) (ms : List Member) → are_plain (tagged p x) ≡ true → EachNamed p ms → a ≡ prints o 0 (head_of p x ∷ []) → b ≡ prints a 1 (map (enumerator_line p) ms) → c ≡ prints b 1 (ending ∷ []) →
    c ≡ prints o 0 (head_of p x ∷ (map (enumerator_line p) ms ++ ending ∷ []))
enumerators_whole o a b c p x ms tag named ea eb ec = whole_printed o a b c p x (map (enumerator_line p) ms) tag (enumerators_past p ms named) ea eb ec

pub members_whole : (o a b c : Output) (p : Program) (x : Aggregate) (ms : List Member) → IsPlainProgram p → are_plain (tagged p x) ≡ true → EachNamed p ms → a ≡ prints o 0 (head_of p x ∷ []) → b ≡ prints a 1 (map (member_line p) ms) → c ≡ prints b 1 (ending ∷ []) →
    c ≡ prints o 0 (head_of p x ∷ (map (member_line p) ms ++ ending ∷ []))
members_whole o a b c p x ms is tag named ea eb ec = whole_printed o a b c p x (map (member_line p) ms) tag (members_past p ms is named) ea eb ec

complete_some : (p : Program) (of : Member → Line) (x : Aggregate) (ms : List Member) → x.members ≡ Some ms → complete_lines p of x ≡ head_of p x ∷ (map of ms ++ ending ∷ [])
complete_some p of x ms e = ap (λ (o : Option (List Member)). elim o as (λ _. List Line) [ None ↦ [] | Some ys ↦ head_of p x ∷ (map of ys ++ ending ∷ []) ]) e

complete_none : (p : Program) (of : Member → Line) (x : Aggregate) → x.members ≡ None → complete_lines p of x ≡ []
complete_none p of x e = ap (λ (o : Option (List Member)). elim o as (λ _. List Line) [ None ↦ [] | Some ys ↦ head_of p x ∷ (map of ys ++ ending ∷ []) ]) e

enum_is : (p : Program) (x : Aggregate) → is_enum x.kind ≡ true → enum_lines p x ≡ complete_lines p (enumerator_line p) x
enum_is p x e = ap (λ b. cond b (complete_lines p (enumerator_line p) x) []) e

struct_is : (p : Program) (x : Aggregate) → is_enum x.kind ≡ false → struct_lines p x ≡ complete_lines p (member_line p) x
struct_is p x e = ap (λ b. cond b [] (complete_lines p (member_line p) x)) e

pub no_enum : (o : Output) (p : Program) (x : Aggregate) → is_enum x.kind ≡ false → o ≡ prints o 0 (enum_lines p x)
no_enum o p x e = nothing_printed o 0 ∙ ap (λ b. prints o 0 (cond b (complete_lines p (enumerator_line p) x) [])) (sym e)

pub no_struct : (o : Output) (p : Program) (x : Aggregate) → is_enum x.kind ≡ true → o ≡ prints o 0 (struct_lines p x)
no_struct o p x e = nothing_printed o 0 ∙ ap (λ b. prints o 0 (cond b [] (complete_lines p (member_line p) x))) (sym e)

pub enum_alone : (o : Output) (p : Program) (x : Aggregate) → is_enum x.kind ≡ true → x.members ≡ None → o ≡ prints o 0 (enum_lines p x)
enum_alone o p x e f = nothing_printed o 0 ∙ ap (prints o 0) (sym (enum_is p x e ∙ complete_none p (enumerator_line p) x f))

pub struct_alone : (o : Output) (p : Program) (x : Aggregate) → is_enum x.kind ≡ false → x.members ≡ None → o ≡ prints o 0 (struct_lines p x)
struct_alone o p x e f = nothing_printed o 0 ∙ ap (prints o 0) (sym (struct_is p x e ∙ complete_none p (member_line p) x f))

pub enum_whole : (o a : Output) (p : Program) (x : Aggregate) (ms : List Member) → is_enum x.kind ≡ true → x.members ≡ Some ms → a ≡ prints o 0 (head_of p x ∷ (map (enumerator_line p) ms ++ ending ∷ [])) → a ≡ prints o 0 (enum_lines p x)
enum_whole o a p x ms e f h = h ∙ ap (prints o 0) (sym (enum_is p x e ∙ complete_some p (enumerator_line p) x ms f))

pub struct_whole : (o a : Output) (p : Program) (x : Aggregate) (ms : List Member) → is_enum x.kind ≡ false → x.members ≡ Some ms → a ≡ prints o 0 (head_of p x ∷ (map (member_line p) ms ++ ending ∷ [])) → a ≡ prints o 0 (struct_lines p x)
struct_whole o a p x ms e f h = h ∙ ap (prints o 0) (sym (struct_is p x e ∙ complete_some p (member_line p) x ms f))

-- an aggregate's lines leave no brace open
complete_past : (p : Program) (of : Member → Line) (x : Aggregate) → are_plain (tagged p x) ≡ true → ((ms : List Member) → x.members ≡ Some ms → open_past 1 (map of ms) ≡ 1) → open_past 0 (complete_lines p of x) ≡ 0
complete_past p of x tag each = by x.members refl
  where
    by : (o : Option (List Member)) → x.members ≡ o → open_past 0 (elim o as (λ _. List Line) [ None ↦ [] | Some ys ↦ head_of p x ∷ (map of ys ++ ending ∷ []) ]) ≡ 0
    by None e = refl
    by (Some ms) e =
        ap (λ k. open_past k (map of ms ++ ending ∷ [])) (head_opens p x tag) ∙ past_append 1 (map of ms) (ending ∷ []) ∙ ap (λ k. open_past k (ending ∷ [])) (each ms e)

pub enum_past : (p : Program) (x : Aggregate) → IsPlainAggregate p x → open_past 0 (enum_lines p x) ≡ 0
enum_past p x is = by (is_enum x.kind) (complete_past p (enumerator_line p) x is.tag (λ ms e. enumerators_past p ms (is.named ms e)))
  where
    by : (b : Bool) → open_past 0 (complete_lines p (enumerator_line p) x) ≡ 0 → open_past 0 (cond b (complete_lines p (enumerator_line p) x) []) ≡ 0
    by true h = h
    by false h = refl

pub struct_past : (p : Program) (x : Aggregate) → IsPlainProgram p → IsPlainAggregate p x → open_past 0 (struct_lines p x) ≡ 0
struct_past p x plain is = by (is_enum x.kind) (complete_past p (member_line p) x is.tag (λ ms e. members_past p ms plain (is.named ms e)))
  where
    by : (b : Bool) → open_past 0 (complete_lines p (member_line p) x) ≡ 0 → open_past 0 (cond b [] (complete_lines p (member_line p) x)) ≡ 0
    by true h = refl
    by false h = h

pub tag_past : (p : Program) (x : Aggregate) → IsPlainAggregate p x → open_past 0 (tag_lines p x) ≡ 0
tag_past p x is = by (is_enum x.kind)
  where
    by : (b : Bool) → open_past 0 (cond b [] (closed (tagged p x) ∷ [])) ≡ 0
    by true = refl
    by false = open_closed 0 (tagged p x) is.tag
