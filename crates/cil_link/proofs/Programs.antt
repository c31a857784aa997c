-- Device: what is known of the globals of a unit.
use Rattle.std.proofs.Common.{◌≡◌, ℕ, zero, suc, ◌+◌, ◌<◌, ◌≤◌, Bool, true, false, ◌&&◌, not, cond, nat_lt, List, [], ◌∷◌, map, drop, get_or, slice_get, length, is_some, Option, Some, None, option_map, refl, sym, ap, ◌∙◌, arith}
use Rattle.std.specs.Prelude.{slice_index_or}
use Rattle.std.specs.List.{list_all}
use Rattle.std.proofs.lemmas.Option.{slice_get-map, slice_get_read}
use Rattle.byte_mem.specs.Steps.{◌>>=◌, only_if}
use Rattle.host_calls.specs.declared.names.HostName.{HostName}
use Rattle.type_graph.specs.Shapes.{Shape, shape}
use Rattle.type_graph.specs.Arena.{IsArena}
use Rattle.execution.specs.Calls.{Meaning, Host}
use Rattle.execution.specs.Linking.{symbol_of, host_names, named_among, host_meaning}
use Rattle.cil_tree.specs.declared.globals.CilUnit.{CilUnit}
use Rattle.cil_tree.specs.declared.globals.GlobalDecl.{GlobalDecl}
use Rattle.cil_tree.specs.Tree as plain
use Rattle.cil_tree.specs.Names.{is_declared}
use Rattle.cil_tree.specs.View.{global_of, program_of}
use Rattle.cil_semantics.specs.Units.{is_nonempty, has_name, IsUnit}
use Rattle.cil_tree.specs.Globals.{global_fits, typed_fits, has_definition, internal_is_defined, object_is_complete, definition_fits}
use Rattle.cil_semantics.specs.Runs.{definition_meaning, global_meaning, has_function_type, is_main}
use Rattle.cil_link.specs.declared.entities.Definer.TheVariants.{Global as OfGlobal}
use Rattle.cil_link.specs.declared.entities.Site.{Site}
use Rattle.cil_link.specs.Entities.{InRun, global_meant, meant}
use Rattle.cil_link.specs.Definers.{host_of, undefined_is, definer_by, definer_of}
use Rattle.cil_link.specs.Meeting.{IsSo, IsGlobalOf}
use Rattle.cil_link.proofs.Definitions.{both, definition_there}

-- what fits of a global that has a type
pub record Fits (p : plain.Program) (t : ℕ) (x : plain.GlobalDecl) : Type 0 where
  pub there : t < length p.graph.nodes
  pub type : x.type ≡ Some (shape p.graph.nodes t)
  pub has : has_definition (shape p.graph.nodes t) x.definition ≡ true
  pub complete : object_is_complete p.graph (shape p.graph.nodes t) x.definition ≡ true
  pub definition : definition_fits p (shape p.graph.nodes t) x.definition ≡ true

less : (m n : ℕ) → nat_lt m n ≡ true → m < n
less m n h = grind arith

pub global_is : (u : CilUnit) (names : List (List ℕ)) (x : GlobalDecl) → global_fits (program_of names u) (global_of u.graph.nodes names x) ≡ true → Fits (program_of names u) x.ty.0 (global_of u.graph.nodes names x)
global_is u names x e = by (nat_lt x.ty.0 (length u.graph.nodes)) refl e
  where
    by : (b : Bool) → nat_lt x.ty.0 (length u.graph.nodes) ≡ b → elim (cond b (Some (shape u.graph.nodes x.ty.0)) None) [ None ↦ false | Some s ↦ typed_fits (program_of names u) s (global_of u.graph.nodes names x) ] ≡ true
        → Fits (program_of names u) x.ty.0 (global_of u.graph.nodes names x)
    by false lt h = cc
    by true lt h =
        let s = shape u.graph.nodes x.ty.0 in
        let p = program_of names u in
        let g = global_of u.graph.nodes names x in
        let a = both (has_definition s g.definition) (internal_is_defined g && (object_is_complete p.graph s g.definition && definition_fits p s g.definition)) h in
        let b = both (internal_is_defined g) (object_is_complete p.graph s g.definition && definition_fits p s g.definition) a.1 in
        let c = both (object_is_complete p.graph s g.definition) (definition_fits p s g.definition) b.1 in
        record { there = less x.ty.0 (length u.graph.nodes) lt; type = ap (λ b. cond b (Some (shape u.graph.nodes x.ty.0)) None) lt; has = a.0; complete = c.0; definition = c.1 }

pub global_defined : (p : plain.Program) (es : List ℕ) (t : ℕ) (x : plain.GlobalDecl) → IsArena p.graph → length es ≡ length p.globals → Fits p t x → is_declared x.definition ≡ false → is_some (global_meaning p x es) ≡ true
global_defined p es t x arena all f d =
    ap (λ (o : Option Shape). is_some (o >>= λ s. definition_meaning p es (is_main x) s x.definition)) f.type ∙ definition_there p es all t (is_main x) x.definition arena f.has f.complete f.definition d

-- a global that is declared alone means nothing
pub declared_none : (p : plain.Program) (x : plain.GlobalDecl) (es : List ℕ) → is_declared x.definition ≡ true → global_meaning p x es ≡ None
declared_none p x es e = by x.type x.definition e
  where
    by : (o : Option Shape) (d : plain.Definition) → is_declared d ≡ true → (o >>= λ s. definition_meaning p es (is_main x) s d) ≡ None
    by None d e = refl
    by (Some s) plain.Declared e = refl
    by (Some s) plain.Zeros e = cc
    by (Some s) (plain.Image items) e = cc
    by (Some s) (plain.Function body) e = cc

-- each element of a list on which a test holds
pub each_at : {A : Type 0} (of : A → Bool) (xs : List A) (n : ℕ) (x : A) → list_all of xs ≡ true → slice_get xs n ≡ Some x → of x ≡ true
each_at of [] zero x all e = absurd (cc)
each_at of [] (suc n) x all e = absurd (cc)
each_at of (y ∷ ys) zero x all e = let same : y ≡ x = cc in ap of (sym same) ∙ (both (of y) (list_all of ys) all).0
each_at of (y ∷ ys) (suc n) x all e = each_at of ys n x (both (of y) (list_all of ys) all).1 e

-- a global by its number
pub global_there : (u : CilUnit) (names : List (List ℕ)) (n : ℕ) (r : GlobalDecl) → n < length u.globals.items → r ≡ get_or u.globals.items n r → slice_get (program_of names u).globals n ≡ Some (global_of u.graph.nodes names r)
global_there u names n r h is = slice_get-map (global_of u.graph.nodes names) u.globals.items n ∙ ap (option_map (global_of u.graph.nodes names)) (slice_get_read u.globals.items (length u.globals.items) n r refl h is)

pub globals_count : (see : GlobalDecl → plain.GlobalDecl) (xs : List GlobalDecl) → length (map see xs) ≡ length xs
globals_count see [] = refl
globals_count see (x ∷ xs) = ap suc (globals_count see xs)

-- the globals from one on
after_global : {A : Type 0} (see : GlobalDecl → A) (xs : List GlobalDecl) (i : ℕ) (r : GlobalDecl) → i < length xs → r ≡ get_or xs i r → see r ∷ map see (drop (suc i) xs) ≡ map see (drop i xs)
after_global see [] i r h e = absurd (omega arith)
after_global see (x ∷ xs) zero r h e = ap (λ y. see y ∷ map see xs) e
after_global see (x ∷ xs) (suc i) r h e = after_global see xs i r (omega arith) e

pub next_global : {A : Type 0} (see : GlobalDecl → A) (xs : List GlobalDecl) (i : ℕ) (r : GlobalDecl) → i < length xs → r ≡ get_or xs i r → see r ∷ map see (drop (i + 1) xs) ≡ map see (drop i xs)
next_global see xs i r h e = ap (λ (k : ℕ). see r ∷ map see (drop k xs)) (let one : i + 1 ≡ suc i = omega arith in one) ∙ after_global see xs i r h e

pub no_global : {A : Type 0} (see : GlobalDecl → A) (xs : List GlobalDecl) (i : ℕ) → length xs ≤ i → map see (drop i xs) ≡ []
no_global see [] zero h = refl
no_global see [] (suc i) h = refl
no_global see (x ∷ xs) zero h = absurd (omega arith)
no_global see (x ∷ xs) (suc i) h = no_global see xs i (omega arith)

-- the name of a global is one of the pool
pub name_there : (u : CilUnit) (names : List (List ℕ)) (i : ℕ) (r : GlobalDecl) → IsUnit (program_of names u) → i < length u.globals.items → r ≡ get_or u.globals.items i r → r.name.0 < length names
name_there u names i r is h at =
    let p = program_of names u in
    let x = global_of u.graph.nodes names r in
    there names r.name.0 (each_at has_name p.globals i x is.named (global_there u names i r h at))
  where
    there : (names : List (List ℕ)) (n : ℕ) → is_nonempty (slice_index_or names n []) ≡ true → n < length names
    there [] zero e = cc
    there [] (suc n) e = cc
    there (y ∷ names) zero e = omega arith
    there (y ∷ names) (suc n) e = let h : n < length names = there names n e in omega (arith, h)

module _ (units : List InRun) (u : CilUnit) (names : List (List ℕ)) (entities : List ℕ) (at : Site) (r : GlobalDecl) (rank : ℕ) (is : IsGlobalOf units u names entities at r) where
  abbrev p : plain.Program
  p = program_of names u

  abbrev x : plain.GlobalDecl
  x = global_of u.graph.nodes names r

  abbrev host : Option Meaning
  host = only_if (has_function_type x.type) (symbol_of x.internal x.name rank) >>= host_meaning

  host_is : (internal function : Bool) (name : List ℕ) → (only_if function (symbol_of internal name rank) >>= host_meaning) ≡ (cond (not internal && function) (named_among host_names name) None >>= λ h. Some (Host h))
  host_is true true name = refl
  host_is true false name = refl
  host_is false true name = refl
  host_is false false name = refl

  undefined : (o : Option HostName) → is_declared x.definition ≡ true → host ≡ (o >>= λ h. Some (Host h)) → IsSo units (global_meaning p x entities) host (undefined_is o)
  undefined None e h = (declared_none p x entities e, h)
  undefined (Some name) e h = (declared_none p x entities e, h)

  means : meant units (OfGlobal at.unit at.global) ≡ global_meaning p x entities
  means = ap (λ (o : Option InRun). o >>= λ v. global_meant v at.global.0) is.unit ∙ ap (λ (o : Option plain.GlobalDecl). o >>= λ y. global_meaning p y entities) is.global

  defined : is_declared x.definition ≡ false → IsSo units (global_meaning p x entities) host (OfGlobal at.unit at.global)
  defined e =
      let f = global_is u names r (each_at (global_fits p) p.globals at.global.0 x is.program.globals is.global) in (
        record { program = record { program = p; entities = entities }; unit_is = is.unit; global = x; global_is = is.global },
        sym means,
        global_defined p entities r.ty.0 x is.program.arena is.numbers f e,
      )

  by : (d : plain.Definition) → x.definition ≡ d → IsSo units (global_meaning p x entities) host (definer_by at.unit at.global d (host_of x))
  by plain.Declared e = undefined (host_of x) (ap is_declared e) (host_is x.internal (has_function_type x.type) x.name)
  by plain.Zeros e = defined (ap is_declared e)
  by (plain.Image items) e = defined (ap is_declared e)
  by (plain.Function body) e = defined (ap is_declared e)

  -- what the entity of a global is by that global alone
  pub global_so : IsSo units (global_meaning p x entities) host (definer_of at.unit at.global x)
  global_so = by x.definition refl
