-- Device: the locals, parameters and labels of a function are named one by one.
use Rattle.std.proofs.Common.{◌≡◌, ℕ, suc, ◌+◌, ◌<◌, Bool, true, false, cond, List, [], ◌∷◌, ◌++◌, length, drop, get_or, slice_set, refl, sym, ap, ◌∙◌, add-one, subst, Global, Result, Ok, Err, OnOk}
use Rattle.std.specs.declared.vec.Vec.{Vec}
use Rattle.std.proofs.lemmas.List.{append_assoc}
use Rattle.cil_base.specs.declared.names.Bases.{Bases}
use Rattle.cil_base.specs.declared.numbers.NameId.{NameId}
use Rattle.cil_tree.specs.declared.globals.Body.{Body as SeenBody}
use Rattle.cil_tree.specs.declared.globals.Local.{Local}
use Rattle.cil_tree.specs.declared.globals.GlobalDecl.{GlobalDecl}
use Rattle.cil_tree.specs.declared.globals.GlobalDef.{GlobalDef}
use Rattle.cil_tree.specs.declared.globals.GlobalDef.TheVariants.{Declared, Zero, Image, Body}
use Rattle.cil_base.specs.NamePool.{Stays}
use Rattle.static_rename.specs.Within.{is_sought, labels_from, with_labels, AreNamedLabels, IsNamedBody, IsNamedDefinition, IsNamedWithin}
use Rattle.static_rename.specs.Local.{AreNamedLocals}
use Rattle.fresh_names.proofs.NamingLaws.{are_named_stay}
use Rattle.static_rename.proofs.FilingLaws.{drop_at}
use Rattle.static_rename.proofs.EachLaws.{UpTo, each_next}

-- labels

pub label_found : (made : Bool) (base : NameId) (ls : List NameId) (i : ℕ) (l : NameId) (before after start : List ℕ) → i < length ls → l ≡ get_or ls i l → is_sought made base l ≡ true → after ≡ before ++ i ∷ []
    → before ++ labels_from made base i (drop i ls) ≡ start → after ++ labels_from made base (i + 1) (drop (i + 1) ls) ≡ start
label_found made base ls i l before after start less is sought step inv =
    ap (λ k. after ++ labels_from made base k (drop k ls)) (add-one i)
    ∙ ap (λ xs. xs ++ labels_from made base (suc i) (drop (suc i) ls)) step
    ∙ append_assoc before (i ∷ []) (labels_from made base (suc i) (drop (suc i) ls))
    ∙ ap (λ b. before ++ cond b (i ∷ labels_from made base (suc i) (drop (suc i) ls)) (labels_from made base (suc i) (drop (suc i) ls))) (sym sought)
    ∙ ap (λ m. before ++ labels_from made base i (m ∷ drop (suc i) ls)) is
    ∙ ap (λ ms. before ++ labels_from made base i ms) (sym (drop_at ls i l less)) ∙ inv

pub label_passed : (made : Bool) (base : NameId) (ls : List NameId) (i : ℕ) (l : NameId) (before start : List ℕ) → i < length ls → l ≡ get_or ls i l → is_sought made base l ≡ false
    → before ++ labels_from made base i (drop i ls) ≡ start → before ++ labels_from made base (i + 1) (drop (i + 1) ls) ≡ start
label_passed made base ls i l before start less is sought inv =
    ap (λ k. before ++ labels_from made base k (drop k ls)) (add-one i)
    ∙ ap (λ b. before ++ cond b (i ∷ labels_from made base (suc i) (drop (suc i) ls)) (labels_from made base (suc i) (drop (suc i) ls))) (sym sought)
    ∙ ap (λ m. before ++ labels_from made base i (m ∷ drop (suc i) ls)) is
    ∙ ap (λ ms. before ++ labels_from made base i ms) (sym (drop_at ls i l less)) ∙ inv

pub labels_next : (order : List ℕ) (ns : List NameId) (i p : ℕ) (n : NameId) (before after start : List NameId) → i < length order → i < length ns → p ≡ get_or order i p → n ≡ get_or ns i n
    → after ≡ slice_set before p n → with_labels (drop i order) (drop i ns) before ≡ start → with_labels (drop (i + 1) order) (drop (i + 1) ns) after ≡ start
labels_next order ns i p n before after start few less is name step inv =
    ap (λ k. with_labels (drop k order) (drop k ns) after) (add-one i)
    ∙ ap (with_labels (drop (suc i) order) (drop (suc i) ns)) step
    ∙ ap (λ q. with_labels (q ∷ drop (suc i) order) (n ∷ drop (suc i) ns) before) is
    ∙ ap (λ m. with_labels (get_or order i p ∷ drop (suc i) order) (m ∷ drop (suc i) ns) before) name
    ∙ ap (λ ps. with_labels ps (get_or ns i n ∷ drop (suc i) ns) before) (sym (drop_at order i p few))
    ∙ ap (λ ms. with_labels (drop i order) ms before) (sym (drop_at ns i n less)) ∙ inv

-- what is named stays so in a pool with more names

labels_stay : (p q : List (List ℕ)) (base : NameId) (old new : List NameId) → Stays p q → AreNamedLabels p base old new → AreNamedLabels q base old new
labels_stay p q base old new h l = record { names = l.names; given = are_named_stay [] p q _ l.names h l.given; labels_are = l.labels_are }

body_stays : (file : List NameId) (p q : List (List ℕ)) (bases : Bases) (old new : SeenBody) → Stays p q → IsNamedBody file p bases old new → IsNamedBody file q bases old new
body_stays file p q bases old new h b = record {
  names = b.names;
  given = are_named_stay file p q _ b.names h b.given;
  locals_are = b.locals_are;
  params_are = b.params_are;
  labels_are = labels_stay p q bases.label old.labels.items new.labels.items h b.labels_are;
  stmts_stay = b.stmts_stay;
}

definition_stays : (file : List NameId) (p q : List (List ℕ)) (bases : Bases) (old new : GlobalDef) → Stays p q → IsNamedDefinition file p bases old new → IsNamedDefinition file q bases old new
definition_stays file p q bases Declared new h is = is
definition_stays file p q bases Zero new h is = is
definition_stays file p q bases (Image items) new h is = is
definition_stays file p q bases (Body old) d h (new, is, b) = (new, is, body_stays file p q bases old new h b)

pub within_stays : (file : List NameId) (p q : List (List ℕ)) (bases : Bases) → Stays p q → (old new : GlobalDecl) → IsNamedWithin file p bases old new → IsNamedWithin file q bases old new
within_stays file p q bases h old new is = record {
  name_stays = is.name_stays;
  type_stays = is.type_stays;
  linkage_stays = is.linkage_stays;
  definition = definition_stays file p q bases old.def new.def h is.definition;
}

-- the labels after the locals
pub body_named : (file : List NameId) (p q : List (List ℕ)) (bases : Bases) (old mid new : SeenBody) → AreNamedLocals file p bases.temporary old mid → Stays p q → AreNamedLabels q bases.label mid.labels.items new.labels.items → new.locals ≡ mid.locals → new.params ≡ mid.params → new.stmts ≡ mid.stmts
    → IsNamedBody file q bases old new
body_named file p q bases old mid new first h second locals params stmts = record {
  names = first.names;
  given = are_named_stay file p q _ first.names h first.given;
  locals_are = ap (λ (v : Vec Local Global). v.items) locals ∙ first.locals_are;
  params_are = ap (λ (v : Vec NameId Global). v.items) params ∙ first.params_are;
  labels_are = subst (λ (v : Vec NameId Global). AreNamedLabels q bases.label v.items new.labels.items) first.labels_stay second;
  stmts_stay = stmts ∙ first.stmts_stay;
}

pub within_next : (file now : List NameId) (p q : List (List ℕ)) (bases : Bases) (i : ℕ) (xs ys : List GlobalDecl) (d y : GlobalDecl) → i < length xs → now ≡ file → Stays p q → UpTo (λ k. IsNamedWithin file p bases) i xs ys
    → IsNamedWithin now q bases (get_or ys i d) y → UpTo (λ k. IsNamedWithin file q bases) (i + 1) xs (slice_set ys i y)
within_next file now p q bases i xs ys d y less same h before is =
    each_next (λ k. IsNamedWithin file p bases) (λ k. IsNamedWithin file q bases) i xs ys d y (λ k. within_stays file p q bases h) less before (subst (λ f. IsNamedWithin f q bases (get_or ys i d) y) same is)

on_ok : {T E P Q : Type 0} (r : Result T E) → (P → Q) → OnOk r P → OnOk r Q
on_ok (Ok x) f h = f h
on_ok (Err e) f h = h

-- a global that has a body
pub within_body : {T E : Type 0} (r : Result T E) (file : List NameId) (pool : List (List ℕ)) (bases : Bases) (g : GlobalDecl) (old new : SeenBody) → g.def ≡ Body old → OnOk r (IsNamedBody file pool bases old new) → OnOk r (IsNamedWithin file pool bases g (record g { def = Body new }))
within_body r file pool bases g old new is = on_ok r (λ b. record {
  name_stays = refl;
  type_stays = refl;
  linkage_stays = refl;
  definition = subst (λ d. IsNamedDefinition file pool bases d (Body new)) (sym is) (new, refl, b);
})
