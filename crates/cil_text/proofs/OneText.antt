-- Device: no text is that of two programs of one data model.
use Rattle.std.proofs.Common.{◌≡◌, ℕ, ◌+◌, ◌≤◌, ◌&&◌, Bool, true, false, cond, List, [], ◌∷◌, ◌++◌, map, Some, refl, sym, ap, ◌∙◌, subst, arith}
use Rattle.cil_base.specs.declared.kinds.Abi.{Abi}
use Rattle.type_graph.specs.declared.aggregates.Aggregate.{Aggregate}
use Rattle.cil_tree.specs.Tree.{Definition, Declared, Zeros, Image, Function, GlobalDecl, Program}
use Rattle.cil_tree.specs.Lines.{Line}
use Rattle.cil_tree.specs.Text.{closed, declarator, declaration_line, object_lines, function_lines, enum_lines, tag_lines, struct_lines, concat_each, program_lines, Text}
use Rattle.cil_tree.specs.Globals.{has_definition, internal_is_defined, object_is_complete, definition_fits}
use Rattle.cil_tree.specs.Programs.{IsProgram, IsTextOf, seen_aggregate, SameProgram}
use Rattle.cil_text.specs.ReadGlobals.{Seen, read_lines}
use Rattle.cil_text.specs.ReadText.{read_text}
use Rattle.cil_text.proofs.WordsBack.{both}
use Rattle.cil_text.proofs.ImagesBack.{IsFile, image_clean}
use Rattle.cil_text.proofs.AggregatesBack.{each_joined, no_tags, no_structs, no_enums}
use Rattle.cil_text.proofs.ObjectsBack.{shape_of, IsDeclared, EachGlobal, objects_of}
use Rattle.cil_text.proofs.BodiesBack.{FunctionTold, NoBody, OneBody, functions_of}
use Rattle.cil_text.proofs.ProgramThere.{GlobalRules, rules_there, typed_there, declared_there, file_there, program_weight, told_there, program_back}
use Rattle.cil_text.proofs.LinesClean.{AreLines, lines_joined, zero_clean, image_line_clean, function_clean, enums_clean, tags_clean, structs_clean, declarations_clean}
use Rattle.cil_text.proofs.Cut.{lines_cut}

object_clean : (p : Program) → IsFile p → (x : GlobalDecl) → IsDeclared p x → (d : Definition) → definition_fits p (shape_of x.type) d ≡ true → AreLines (object_lines p x d)
object_clean p file x is Declared fit = tt
object_clean p file x is Zeros fit = by x.internal
  where
    by : (b : Bool) → AreLines (cond b [] (closed (declarator p x) ∷ []))
    by true = tt
    by false = (zero_clean p x is, tt)
object_clean p file x is (Image items) fit = (image_line_clean p x items is (image_clean p file (shape_of x.type) items is.2 fit), tt)
object_clean p file x is (Function b) fit = tt

objects_clean : (p : Program) → IsFile p → (xs : List GlobalDecl) → EachGlobal (GlobalRules p) xs → AreLines (objects_of p xs)
objects_clean p file [] rules = tt
objects_clean p file (x ∷ xs) rules =
    let s = shape_of x.type in
    let t = (typed_there p x rules.0).1 in
    let a = both (has_definition s x.definition) (internal_is_defined x && (object_is_complete p.graph s x.definition && definition_fits p s x.definition)) t in
    let b = both (internal_is_defined x) (object_is_complete p.graph s x.definition && definition_fits p s x.definition) a.1 in
    let fit = (both (object_is_complete p.graph s x.definition) (definition_fits p s x.definition) b.1).1 in
    lines_joined (object_lines p x x.definition) (objects_of p xs) (object_clean p file x (declared_there p x rules.0) x.definition fit) (objects_clean p file xs rules.1)

functions_clean : (p : Program) (n : ℕ) (xs : List GlobalDecl) → EachGlobal (FunctionTold p n) xs → AreLines (functions_of p xs)
functions_clean p n [] told = tt
functions_clean p n (x ∷ xs) told = lines_joined (function_lines p x x.definition) (functions_of p xs) (by told.0) (functions_clean p n xs told.1)
  where
    by : FunctionTold p n x → AreLines (function_lines p x x.definition)
    by (NoBody e d) = subst AreLines (sym e) tt
    by (OneBody b e named t) = subst (λ (d : Definition). AreLines (function_lines p x d)) (sym e) (function_clean p n x b named t)

program_clean : (p : Program) → IsProgram p → AreLines (program_lines p)
program_clean p is =
    let told = told_there p (program_weight p) is (omega arith) in
    let es = told.enums in
    let ss = told.structs in
    let xs = p.globals in
    let both_lines = λ (f : Aggregate → List Line) (a : AreLines (concat_each f es)) (b : AreLines (concat_each f ss)).
    subst AreLines (sym (ap (concat_each f) told.both_are ∙ each_joined f es ss)) (lines_joined (concat_each f es) (concat_each f ss) a b) in
    let enums = both_lines (enum_lines p) (enums_clean p es told.are_enums) (subst AreLines (sym (no_enums p ss told.are_structs)) tt) in
    let tags = both_lines (tag_lines p) (subst AreLines (sym (no_tags p es told.are_enums)) tt) (tags_clean p ss told.are_structs) in
    let structs = both_lines (struct_lines p) (subst AreLines (sym (no_structs p es told.are_enums)) tt) (structs_clean p ss told.are_structs) in
    let d = map (declaration_line p) xs in
    let o = objects_of p xs in
    let f = functions_of p xs in
    lines_joined (concat_each (enum_lines p) p.graph.aggs) (concat_each (tag_lines p) p.graph.aggs ++ (concat_each (struct_lines p) p.graph.aggs ++ (d ++ (o ++ f)))) enums
    (lines_joined (concat_each (tag_lines p) p.graph.aggs) (concat_each (struct_lines p) p.graph.aggs ++ (d ++ (o ++ f))) tags
    (lines_joined (concat_each (struct_lines p) p.graph.aggs) (d ++ (o ++ f)) structs
    (lines_joined d (o ++ f) (declarations_clean p xs told.declared)
    (lines_joined o f (objects_clean p (file_there p is) xs (rules_there p is)) (functions_clean p (program_weight p) xs told.functions)))))

-- the reading of a well-formed program's text gives its aggregates and globals
pub text_back : (p : Program) (n : ℕ) → IsProgram p → program_weight p ≤ n → read_text p.graph.abi n (Text p) ≡ Some (map (seen_aggregate p) p.graph.aggs, p.globals)
text_back p n is low = ap (read_lines p.graph.abi n) (lines_cut 0 (program_lines p) (program_clean p is)) ∙ program_back p n is low

pub same_seen : {s t : Seen} → Some s ≡ Some t → s ≡ t
same_seen e = cc

pub same_text : (bytes : List ℕ) (p q : Program) → IsTextOf bytes p → IsTextOf bytes q → p.graph.abi ≡ q.graph.abi → SameProgram p q
same_text bytes p q is also model =
    let n = program_weight p + program_weight q in
    let seen : (map (seen_aggregate p) p.graph.aggs, p.globals) ≡ (map (seen_aggregate q) q.graph.aggs, q.globals) =
    same_seen (sym (text_back p n is.program (omega arith)) ∙ ap (read_text p.graph.abi n) (sym is.text ∙ also.text) ∙ ap (λ (a : Abi). read_text a n (Text q)) model ∙ text_back q n also.program (omega arith)) in
    record { abi = model; aggregates = ap (λ (s : Seen). s.0) seen; globals = ap (λ (s : Seen). s.1) seen }
