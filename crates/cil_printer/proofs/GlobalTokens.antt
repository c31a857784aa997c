-- Device: what is printed of globals.
use Rattle.std.proofs.Common.{◌≡◌, ℕ, ◌*◌, Bool, true, false, cond, List, [], ◌∷◌, ◌++◌, Option, Some, None, codes, replicate, refl, sym, ap, ◌∙◌, append_assoc}
use Rattle.type_graph.specs.Shapes.{Shape}
use Rattle.cil_tree.specs.Tree.{Item, Local, GlobalDecl, Zeros, Image, Program}
use Rattle.cil_tree.specs.Lines.{Token, depth_of}
use Rattle.cil_tree.specs.Declarators.{declared, type_tokens}
use Rattle.cil_tree.specs.Text.{is_function_type, closed, declarator, linkage, storage, declaration_line, local_line, image_tokens, object_lines}
use Rattle.cil_printer.specs.Output.{Output, put, puts}
use Rattle.cil_printer.specs.Sides.{before, after}
use Rattle.cil_printer.specs.Plain.{is_plain, are_plain, IsPlainProgram, prints}
use Rattle.cil_printer.proofs.Puts.{puts-puts, nothing_pushed, two_pushed}
use Rattle.cil_printer.proofs.Declared.{declared_is}
use Rattle.cil_printer.proofs.Calls.{both_left}
use Rattle.cil_printer.proofs.PlainTokens.{plain_cons, plain_append, type_plain}
use Rattle.cil_printer.proofs.Printed.{line_printed, closed_printed, nothing_printed, depth_plain}

pub declared_pushed : (o a b c : Output) (p : Program) (s : Shape) (name : Token) → a ≡ puts o (before p s) → b ≡ puts a (name ∷ []) → c ≡ puts b (after p s) → c ≡ puts o (declared p s (name ∷ []))
declared_pushed o a b c p s name ea eb ec = simp (ec, eb, ea, puts-puts, append_assoc) (ap (puts o) (sym (declared_is p s (name ∷ []))))

pub untyped_pushed : (p : Program) (s : Option Shape) (name : Token) → s ≡ None → type_tokens p s (name ∷ []) ≡ name ∷ []
untyped_pushed p s name e = ap (λ t. type_tokens p t (name ∷ [])) e

pub typed_pushed : (p : Program) (s : Option Shape) (t : Shape) (name : Token) → s ≡ Some t → type_tokens p s (name ∷ []) ≡ declared p t (name ∷ [])
typed_pushed p s t name e = ap (λ t. type_tokens p t (name ∷ [])) e

abbrev is_started : List Token → Bool
is_started [] = false
is_started (x ∷ xs) = true

pub unindented : (o : Output) → o ≡ put o (replicate (2 * 0) 32)
unfolding put
unindented o = refl

pub storage_plain : (x : GlobalDecl) → are_plain (storage x) ≡ true
storage_plain x = by x.internal (is_function_type x.type)
  where
    by : (a b : Bool) → are_plain (cond a (codes "static" ∷ []) (cond b [] (codes "extern" ∷ []))) ≡ true
    by true b = refl
    by false true = refl
    by false false = refl

pub declaration_printed : (o a b c : Output) (p : Program) (x : GlobalDecl) → IsPlainProgram p → is_plain x.name ≡ true → a ≡ puts o (storage x) → b ≡ puts a (type_tokens p x.type (x.name ∷ [])) → c ≡ put b (codes ";" ++ 10 ∷ []) → c ≡ prints o 0 (declaration_line p x ∷ [])
declaration_printed o a b c p x is named ea eb ec =
    closed_printed o o b c 0 (storage x ++ declarator p x) (plain_append (storage x) (declarator p x) (storage_plain x) (type_plain p is x.type (x.name ∷ []) (plain_cons x.name [] named refl))) (unindented o) (two_pushed o a b (storage x) (declarator p x) ea eb) ec

pub local_printed : (o a b c : Output) (p : Program) (x : Local) → IsPlainProgram p → is_plain x.name ≡ true → a ≡ put o (replicate (2 * 1) 32) → b ≡ puts a (type_tokens p x.type (x.name ∷ [])) → c ≡ put b (codes ";" ++ 10 ∷ []) → c ≡ prints o 1 (local_line p x ∷ [])
local_printed o a b c p x is named ea eb ec = closed_printed o a b c 1 (type_tokens p x.type (x.name ∷ [])) (type_plain p is x.type (x.name ∷ []) (plain_cons x.name [] named refl)) ea eb ec

pub function_storage : (o : Output) (x : GlobalDecl) → x.internal ≡ false → is_function_type x.type ≡ true → o ≡ puts o (storage x)
function_storage o x e f = nothing_pushed o ∙ sym (ap (λ b. puts o (cond b (codes "static" ∷ []) (cond (is_function_type x.type) [] (codes "extern" ∷ [])))) e ∙ ap (λ b. puts o (cond b [] (codes "extern" ∷ []))) f)

pub linkage_plain : (x : GlobalDecl) → are_plain (linkage x) ≡ true
linkage_plain x = by x.internal
  where
    by : (b : Bool) → are_plain (cond b (codes "static" ∷ []) []) ≡ true
    by true = refl
    by false = refl

pub no_zero : (o : Output) (p : Program) (x : GlobalDecl) → x.internal ≡ true → o ≡ prints o 0 (object_lines p x Zeros)
no_zero o p x e = nothing_printed o 0 ∙ ap (λ b. prints o 0 (cond b [] (closed (declarator p x) ∷ []))) (sym e)

pub zero_printed : (o a b : Output) (p : Program) (x : GlobalDecl) → IsPlainProgram p → is_plain x.name ≡ true → x.internal ≡ false → a ≡ puts o (type_tokens p x.type (x.name ∷ [])) → b ≡ put a (codes ";" ++ 10 ∷ []) → b ≡ prints o 0 (object_lines p x Zeros)
zero_printed o a b p x is named e ea eb =
    closed_printed o o a b 0 (declarator p x) (type_plain p is x.type (x.name ∷ []) (plain_cons x.name [] named refl)) (unindented o) ea eb ∙ ap (λ k. prints o 0 (cond k [] (closed (declarator p x) ∷ []))) (sym e)

depth_before : (d : ℕ) (xs ys : List Token) → are_plain xs ≡ true → is_started xs ≡ true → depth_of d (xs ++ ys) ≡ d
depth_before d [] ys e f = cc
depth_before d (y ∷ xs) ys e f = depth_plain d y (xs ++ ys) (both_left (is_plain y) (are_plain xs) e)

around_started : (xs ys : List Token) (t : Token) → is_started (xs ++ (ys ++ t ∷ [])) ≡ true
around_started [] [] t = refl
around_started [] (y ∷ ys) t = refl
around_started (y ∷ xs) ys t = refl

-- a line that begins with a plain token or with `;`
pub image_printed : (o a b c d e : Output) (p : Program) (x : GlobalDecl) (items : List Item) → IsPlainProgram p → is_plain x.name ≡ true → a ≡ puts o (linkage x) → b ≡ puts a (type_tokens p x.type (x.name ∷ [])) → c ≡ puts b (codes "=" ∷ []) → d ≡ puts c (image_tokens p x.type items) → e ≡ put d (codes ";" ++ 10 ∷ []) →
    e ≡ prints o 0 (object_lines p x (Image items))
image_printed o a b c d e p x items is named ea eb ec ed ee =
    line_printed o o d e 0 (linkage x ++ (declarator p x ++ codes "=" ∷ image_tokens p x.type items)) (codes ";") depth (unindented o) (simp (ed, ec, eb, ea, puts-puts, append_assoc)) ee
  where
    front : are_plain (linkage x ++ (declarator p x ++ codes "=" ∷ [])) ≡ true
    front = plain_append (linkage x) (declarator p x ++ codes "=" ∷ []) (linkage_plain x) (plain_append (declarator p x) (codes "=" ∷ []) (type_plain p is x.type (x.name ∷ []) (plain_cons x.name [] named refl)) refl)

    longer : (linkage x ++ (declarator p x ++ codes "=" ∷ image_tokens p x.type items)) ++ codes ";" ∷ [] ≡ (linkage x ++ (declarator p x ++ codes "=" ∷ [])) ++ (image_tokens p x.type items ++ codes ";" ∷ [])
    longer = simp append_assoc

    depth : depth_of 0 ((linkage x ++ (declarator p x ++ codes "=" ∷ image_tokens p x.type items)) ++ codes ";" ∷ []) ≡ 0
    depth = ap (depth_of 0) longer ∙ depth_before 0 (linkage x ++ (declarator p x ++ codes "=" ∷ [])) (image_tokens p x.type items ++ codes ";" ∷ []) front (around_started (linkage x) (declarator p x) (codes "="))
