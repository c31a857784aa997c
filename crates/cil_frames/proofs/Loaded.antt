-- Device: a loaded function means what the program's does.
use Rattle.std.proofs.Common.{◌≡◌, ℕ, Bool, List, map, Some, None, refl, sym, ap, ◌∙◌, subst}
use Rattle.type_graph.specs.Shapes.{Shape, Shapes}
use Rattle.execution.specs.States.{State, with_memory}
use Rattle.execution.specs.Data.{with_objects}
use Rattle.execution.specs.Calls as meaning
use Rattle.execution.specs.Calls.{Object, Code, Host, scoped, leaves, number_of, value_at_end}
use Rattle.cil_tree.specs.Tree.{Program, Body}
use Rattle.cil_tree.specs.Typing.{scope_of}
use Rattle.cil_semantics.specs.Values.{kind_in}
use Rattle.cil_semantics.specs.Runs.{body_objects, body_meaning}
use Rattle.cil_semantics.specs.Laws.{calls_in}
use Rattle.cil_code.specs.Taking.{datum_of}
use Rattle.cil_code.specs.Running.{remains_at}
use Rattle.cil_frames.specs.declared.frames.Function.{Function}
use Rattle.cil_frames.specs.Entering.{objects_of}
use Rattle.cil_frames.specs.Frames.{IsFunction}
use Rattle.cil_frames.specs.Loaded.{IsLoaded, LoadedFunctionsAreMeant}

-- the body, around what remains at its first place
body_same : (programs : List Program) (p : Program) (entities : List ℕ) (main : Bool) (b : Body) (ret : Shape) (params : Shapes) (g : Function) → IsLoaded programs p entities main b ret params g → (act : ℕ) (s : State)
    → body_meaning p entities b (value_at_end main (kind_in p.graph ret)) (calls_in programs) act s ≡ scoped act (objects_of g.objects.items) (remains_at programs (scope_of p b) entities act (datum_of g.end) b.stmts 0) s
body_same programs p entities main b ret params g is act s =
    ap (λ end. body_meaning p entities b end (calls_in programs) act s) (sym is.end)
    ∙ (ap (leaves act (map number_of (body_objects p.graph b))) (sym (is.runs.begins act (with_memory s (with_objects act (body_objects p.graph b) s.memory))))
    ∙ ap (λ objects. scoped act objects (remains_at programs (scope_of p b) entities act (datum_of g.end) b.stmts 0) s) (sym is.objects))

code_same : (a b : meaning.Function) → Some (Code a) ≡ Some (Code b) → a ≡ b
code_same a b e = ap (λ o. elim o [ None ↦ a | Some m ↦ elim m [ Object r bytes ↦ a | Code f ↦ f | Host n ↦ a ] ]) e

pub loaded_functions_are_meant : LoadedFunctionsAreMeant
loaded_functions_are_meant programs p entities main b ret params proto variadic f g means is =
    subst (λ f. IsFunction p.graph.abi (calls_in programs) (λ act. remains_at programs (scope_of p b) entities act (datum_of g.end) b.stmts) f g) (code_same _ f means)
    (record {
      model = refl;
      parameters = sym is.parameters;
      result = sym is.result;
      body = body_same programs p entities main b ret params g is;
      goes = λ act q y there s. is.runs.goes act q y there s;
      leads = is.leads;
      there = is.there;
    })
