-- Device: which types are those of a main, and how a run begins with a global, by its definition.
use Rattle.std.proofs.Common.{◌≡◌, ◌<◌, ◌≤◌, ℕ, Bool, true, false, ◌&&◌, cond, nat_eq, List, [], ◌∷◌, map, length, Option, Some, None, option_map, refl, sym, ap, ◌∙◌, subst, arith, eqb-true}
use Rattle.std.specs.declared.vec.Vec.{Vec}
use Rattle.std.proofs.Common.{Global}
use Rattle.cil_base.specs.declared.kinds.IntKind.{IntKind}
use Rattle.cil_base.specs.declared.kinds.IntKind.TheVariants.{Bool as Truth, Char, SChar, UChar, Short, UShort, Int, UInt, Long, ULong, LLong, ULLong, Long4, ULong4}
use Rattle.cil_base.specs.declared.numbers.TypeId.{TypeId}
use Rattle.byte_mem.specs.declared.values.Byte.{Byte}
use Rattle.byte_mem.specs.Steps.{◌>>=◌}
use Rattle.type_graph.specs.declared.nodes.Quals.{Quals}
use Rattle.type_graph.specs.declared.nodes.Node.{Node}
use Rattle.type_graph.specs.Shapes.{Shape, Shapes, VoidType, IntType, PtrType, ArrayType, FuncType, AggType, NoTypes, MoreTypes, shapes_of}
use Rattle.type_graph.specs.Arena.{EachType}
use Rattle.execution.specs.Calls.{Start, NotMain, WithoutWords, WithWords, Function, Meaning, Code}
use Rattle.execution.specs.Runs.{code_in, main_arguments}
use Rattle.cil_tree.specs.declared.globals.Body.{Body}
use Rattle.cil_tree.specs.declared.globals.ImageItem.{ImageItem}
use Rattle.cil_tree.specs.declared.globals.GlobalDecl.{GlobalDecl}
use Rattle.cil_tree.specs.declared.globals.GlobalDef.{GlobalDef}
use Rattle.cil_tree.specs.declared.globals.GlobalDef.TheVariants as code
use Rattle.cil_tree.specs.Tree as plain
use Rattle.cil_tree.specs.View.{type_at, item_of, body_of, definition_of, global_of}
use Rattle.typed_values.specs.Units.{words_start, start_by, start_of}
use Rattle.cil_semantics.specs.Runs.{zeros, with_items, object, is_main, function_meaning, definition_meaning, global_meaning}
use Rattle.cil_link.specs.declared.mains.Main.{Main}
use Rattle.cil_link.specs.Mains.{start_in}
use Rattle.cil_link.specs.MainGlobals.{is_int, is_char, is_argv, are_words, start_for, start_at, main_with, called_with, Begun}

abbrev is_end : Shapes → Bool
is_end NoTypes = true
is_end (MoreTypes s more) = false

-- two parameters, and more behind them, tell how a run begins
abbrev start_with : Bool → Start
start_with b = start_for (cond b (Some true) None)

char_more : (p q : Quals) (more : Shapes) → words_start (MoreTypes (IntType Int) (MoreTypes (PtrType p (PtrType q (IntType Char))) more)) ≡ start_with (is_end more)
char_more p q NoTypes = refl
char_more p q (MoreTypes s more) = refl

one_char : (p q : Quals) (kind : IntKind) (more : Shapes) → words_start (MoreTypes (IntType Int) (MoreTypes (PtrType p (PtrType q (IntType kind))) more)) ≡ start_with (is_char (IntType kind) && is_end more)
one_char p q kind more = elim kind as (λ k. words_start (MoreTypes (IntType Int) (MoreTypes (PtrType p (PtrType q (IntType k))) more)) ≡ start_with (is_char (IntType k) && is_end more)) [
  | Truth ↦ refl
  | Char ↦ char_more p q more
  | SChar ↦ refl
  | UChar ↦ refl
  | Short ↦ refl
  | UShort ↦ refl
  | Int ↦ refl
  | UInt ↦ refl
  | Long ↦ refl
  | ULong ↦ refl
  | LLong ↦ refl
  | ULLong ↦ refl
  | Long4 ↦ refl
  | ULong4 ↦ refl
]

one_argv : (t : Shape) (more : Shapes) → words_start (MoreTypes (IntType Int) (MoreTypes t more)) ≡ start_with (is_argv t && is_end more)
one_argv VoidType more = refl
one_argv (IntType kind) more = refl
one_argv (PtrType p VoidType) more = refl
one_argv (PtrType p (IntType kind)) more = refl
one_argv (PtrType p (PtrType q VoidType)) more = refl
one_argv (PtrType p (PtrType q (IntType kind))) more = one_char p q kind more
one_argv (PtrType p (PtrType q (PtrType r s))) more = refl
one_argv (PtrType p (PtrType q (ArrayType r s bound))) more = refl
one_argv (PtrType p (PtrType q (FuncType ret params proto variadic))) more = refl
one_argv (PtrType p (PtrType q (AggType a))) more = refl
one_argv (PtrType p (ArrayType q s bound)) more = refl
one_argv (PtrType p (FuncType ret params proto variadic)) more = refl
one_argv (PtrType p (AggType a)) more = refl
one_argv (ArrayType q s bound) more = refl
one_argv (FuncType ret params proto variadic) more = refl
one_argv (AggType a) more = refl

int_argv : (kind : IntKind) (t : Shape) (more : Shapes) → words_start (MoreTypes (IntType kind) (MoreTypes t more)) ≡ start_with (is_int (IntType kind) && (is_argv t && is_end more))
int_argv kind t more = elim kind as (λ k. words_start (MoreTypes (IntType k) (MoreTypes t more)) ≡ start_with (is_int (IntType k) && (is_argv t && is_end more))) [
  | Truth ↦ refl
  | Char ↦ refl
  | SChar ↦ refl
  | UChar ↦ refl
  | Short ↦ refl
  | UShort ↦ refl
  | Int ↦ one_argv t more
  | UInt ↦ refl
  | Long ↦ refl
  | ULong ↦ refl
  | LLong ↦ refl
  | ULLong ↦ refl
  | Long4 ↦ refl
  | ULong4 ↦ refl
]

two_argv : (s t : Shape) (more : Shapes) → words_start (MoreTypes s (MoreTypes t more)) ≡ start_with (is_int s && (is_argv t && is_end more))
two_argv VoidType t more = refl
two_argv (IntType kind) t more = int_argv kind t more
two_argv (PtrType q s) t more = refl
two_argv (ArrayType q s bound) t more = refl
two_argv (FuncType ret params proto variadic) t more = refl
two_argv (AggType a) t more = refl

int_alone : (kind : IntKind) → words_start (MoreTypes (IntType kind) NoTypes) ≡ NotMain
int_alone kind = elim kind as (λ k. words_start (MoreTypes (IntType k) NoTypes) ≡ NotMain) [
  | Truth ↦ refl
  | Char ↦ refl
  | SChar ↦ refl
  | UChar ↦ refl
  | Short ↦ refl
  | UShort ↦ refl
  | Int ↦ refl
  | UInt ↦ refl
  | Long ↦ refl
  | ULong ↦ refl
  | LLong ↦ refl
  | ULLong ↦ refl
  | Long4 ↦ refl
  | ULong4 ↦ refl
]

one_alone : (s : Shape) → words_start (MoreTypes s NoTypes) ≡ NotMain
one_alone VoidType = refl
one_alone (IntType kind) = int_alone kind
one_alone (PtrType q s) = refl
one_alone (ArrayType q s bound) = refl
one_alone (FuncType ret params proto variadic) = refl
one_alone (AggType a) = refl

and_true : (a b : Bool) → a && (b && true) ≡ a && b
and_true true true = refl
and_true true false = refl
and_true false b = refl

and_false : (a b : Bool) → a && (b && false) ≡ false
and_false true true = refl
and_false true false = refl
and_false false b = refl

-- a function with parameters begins a run if they are the words
words_by : (s : Shape) (more : Shapes) → words_start (MoreTypes s more) ≡ start_with (are_words (MoreTypes s more))
words_by s NoTypes = one_alone s
words_by s (MoreTypes t NoTypes) = two_argv s t NoTypes ∙ ap start_with (and_true (is_int s) (is_argv t))
words_by s (MoreTypes t (MoreTypes u more)) = two_argv s t (MoreTypes u more) ∙ ap start_with (and_false (is_int s) (is_argv t))

-- fewer or more parameters than two are not the words
pub few_words : (at : ℕ → Shape) (ts : List TypeId) → length ts < 2 → false ≡ are_words (shapes_of at ts)
few_words at [] h = refl
few_words at (t ∷ []) h = refl
few_words at (t ∷ u ∷ ts) h = absurd (omega arith)

pub many_words : (at : ℕ → Shape) (ts : List TypeId) → 3 ≤ length ts → false ≡ are_words (shapes_of at ts)
many_words at [] h = absurd (omega arith)
many_words at (t ∷ []) h = absurd (omega arith)
many_words at (t ∷ u ∷ []) h = absurd (omega arith)
many_words at (t ∷ u ∷ v ∷ ts) h = refl

-- the types that a type names are there
pub each_there : (m n : ℕ) (ts : List TypeId) → m < n → EachType m ts → EachType n ts
each_there m n [] h e = tt
each_there m n (t ∷ ts) h e = (omega (arith, e.0), each_there m n ts h e.1)

-- how a run begins with a function, by its parameters
pub none_are : (at : ℕ → Shape) (ts : List TypeId) → nat_eq (length ts) 0 ≡ true → WithoutWords ≡ words_start (shapes_of at ts)
none_are at [] e = refl
none_are at (t ∷ ts) e =
    let none : length (t ∷ ts) ≡ 0 = eqb-true (length (t ∷ ts)) 0 e in
    absurd (omega (arith, none))

pub words_are : (at : ℕ → Shape) (ts : List TypeId) → are_words (shapes_of at ts) ≡ true → WithWords ≡ words_start (shapes_of at ts)
words_are at [] e = cc
words_are at (t ∷ ts) e = sym (words_by (at t.0) (shapes_of at ts) ∙ ap start_with e)

pub others_are : (at : ℕ → Shape) (ts : List TypeId) → nat_eq (length ts) 0 ≡ false → are_words (shapes_of at ts) ≡ false → NotMain ≡ words_start (shapes_of at ts)
others_are at [] h e = cc
others_are at (t ∷ ts) h e = sym (words_by (at t.0) (shapes_of at ts) ∙ ap start_with e)

int_start : (kind : IntKind) (params : Shapes) (proto variadic : Bool) → start_of (FuncType (IntType kind) params proto variadic) ≡ cond (is_int (IntType kind)) (start_by variadic params) NotMain
int_start kind params proto variadic = elim kind as (λ k. start_of (FuncType (IntType k) params proto variadic) ≡ cond (is_int (IntType k)) (start_by variadic params) NotMain) [
  | Truth ↦ refl
  | Char ↦ refl
  | SChar ↦ refl
  | UChar ↦ refl
  | Short ↦ refl
  | UShort ↦ refl
  | Int ↦ refl
  | UInt ↦ refl
  | Long ↦ refl
  | ULong ↦ refl
  | LLong ↦ refl
  | ULLong ↦ refl
  | Long4 ↦ refl
  | ULong4 ↦ refl
]

-- how a run begins with a function, by its result
pub start_is : (ret : Shape) (params : Shapes) (proto variadic : Bool) → start_of (FuncType ret params proto variadic) ≡ cond (is_int ret) (start_by variadic params) NotMain
start_is VoidType params proto variadic = refl
start_is (IntType kind) params proto variadic = int_start kind params proto variadic
start_is (PtrType q s) params proto variadic = refl
start_is (ArrayType q s bound) params proto variadic = refl
start_is (FuncType r ps p v) params proto variadic = refl
start_is (AggType a) params proto variadic = refl

-- a run begins with nothing where no function is meant
nothing_begins : (m : Option Meaning) (entity : ℕ) → code_in m ≡ None → Begun m entity None
nothing_begins m entity e words = ap (λ (o : Option Function). o >>= called_with words) e

code_begins : (m : Option Meaning) (entity : ℕ) (f : Function) (o : Option Bool) → m ≡ Some (Code f) → f.start ≡ start_for o → Begun m entity (option_map (main_with entity) o)
code_begins m entity f None e at = λ words.
    ap (λ (n : Option Meaning). code_in n >>= called_with words) e
    ∙ ap (λ (t : Start). main_arguments t words >>= λ arguments. Some (f, arguments)) at
code_begins m entity f (Some w) e at = (f, e, at, refl)

not_started : (w : Bool) → ¬ (start_in w ≡ NotMain)
not_started true e = cc
not_started false e = cc

no_code : (m : Option Meaning) (entity : ℕ) (o : Option Bool) → m ≡ None → start_for o ≡ NotMain → Begun m entity (option_map (main_with entity) o)
no_code m entity None e at = nothing_begins m entity (ap code_in e)
no_code m entity (Some w) e at = absurd (not_started w at)

module _ (p : plain.Program) (es : List ℕ) (entity : ℕ) where
  of_shape : (main : Bool) (b : plain.Body) (s : Shape) (o : Option Bool) → start_for o ≡ start_of s → Begun (function_meaning p es main b s) entity (option_map (main_with entity) o)
  of_shape main b VoidType o e = no_code None entity o refl e
  of_shape main b (IntType kind) o e = no_code None entity o refl e
  of_shape main b (PtrType q s) o e = no_code None entity o refl e
  of_shape main b (ArrayType q s bound) o e = no_code None entity o refl e
  of_shape main b (FuncType ret params proto variadic) o e = code_begins (function_meaning p es main b (FuncType ret params proto variadic)) entity _ o refl (sym e)
  of_shape main b (AggType a) o e = no_code None entity o refl e

  of_type : (main : Bool) (b : plain.Body) (t : Option Shape) (o : Option Bool) → start_for o ≡ start_at t → Begun (t >>= λ s. function_meaning p es main b s) entity (option_map (main_with entity) o)
  of_type main b None o e = no_code None entity o refl e
  of_type main b (Some s) o e = of_shape main b s o e

  of_object : (o : Option (List Byte)) → code_in (object o) ≡ None
  of_object None = refl
  of_object (Some bytes) = refl

  -- a run begins with a function, by its type
  pub function_begins : (nodes : List Node) (names : List (List ℕ)) (x : GlobalDecl) (b : Body) (o : Option Bool) (r : Option Main) → x.def ≡ code.Body b → start_for o ≡ start_at (type_at nodes x.ty) → r ≡ option_map (main_with entity) o
      → Begun (global_meaning p (global_of nodes names x) es) entity r
  function_begins nodes names x b o r d e is =
      subst (λ (r : Option Main). Begun (global_meaning p (global_of nodes names x) es) entity r) (sym is)
      (subst (λ (d : GlobalDef). Begun (type_at nodes x.ty >>= λ s. definition_meaning p es (is_main (global_of nodes names x)) s (definition_of nodes names d)) entity (option_map (main_with entity) o)) (sym d)
      (of_type (is_main (global_of nodes names x)) (body_of nodes names b) (type_at nodes x.ty) o e))

  object_begins : (main : Bool) (t : Option Shape) (d : plain.Definition) → ((s : Shape) → code_in (definition_meaning p es main s d) ≡ None) → Begun (t >>= λ s. definition_meaning p es main s d) entity None
  object_begins main None d e = nothing_begins None entity refl
  object_begins main (Some s) d e = nothing_begins (definition_meaning p es main s d) entity (e s)

  other_begins : (nodes : List Node) (names : List (List ℕ)) (x : GlobalDecl) (d : GlobalDef) → x.def ≡ d → ((s : Shape) → code_in (definition_meaning p es (is_main (global_of nodes names x)) s (definition_of nodes names d)) ≡ None)
      → Begun (global_meaning p (global_of nodes names x) es) entity None
  other_begins nodes names x d e h =
      subst (λ (d : GlobalDef). Begun (type_at nodes x.ty >>= λ s. definition_meaning p es (is_main (global_of nodes names x)) s (definition_of nodes names d)) entity None) (sym e)
      (object_begins (is_main (global_of nodes names x)) (type_at nodes x.ty) (definition_of nodes names d) h)

  -- and with nothing else
  pub declared_begins : (nodes : List Node) (names : List (List ℕ)) (x : GlobalDecl) → x.def ≡ code.Declared → Begun (global_meaning p (global_of nodes names x) es) entity None
  declared_begins nodes names x e = other_begins nodes names x code.Declared e (λ s. refl)

  pub zeros_begin : (nodes : List Node) (names : List (List ℕ)) (x : GlobalDecl) → x.def ≡ code.Zero → Begun (global_meaning p (global_of nodes names x) es) entity None
  zeros_begin nodes names x e = other_begins nodes names x code.Zero e (λ s. of_object (zeros p.graph s))

  pub image_begins : (nodes : List Node) (names : List (List ℕ)) (x : GlobalDecl) (v : Vec ImageItem Global) → x.def ≡ code.Image v → Begun (global_meaning p (global_of nodes names x) es) entity None
  image_begins nodes names x v e = other_begins nodes names x (code.Image v) e (λ s. of_object (zeros p.graph s >>= with_items p.graph es s (map item_of v.items)))
