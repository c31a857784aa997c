-- Device: what a form stands for that holds a list, and its greatest number of a type, over the list.
use Rattle.std.proofs.Common.{◌≡◌, ℕ, true, max, List, Result, IfOk, refl, ap, ◌∙◌, Global}
use Rattle.std.proofs.lemmas.Result.{IfOk-weaker}
use Rattle.std.specs.declared.vec.Vec.{Vec}
use Rattle.type_graph.specs.declared.nodes.Node.{Node}
use Rattle.typed_tree.specs.declared.expressions.TypedExp.{TypedExp}
use Rattle.typed_tree.specs.declared.expressions.TypedNode.{TypedNode}
use Rattle.typed_tree.specs.declared.expressions.TypedNode.TheBlock.{Row_of-TypedExp, end_of-TypedExp, more_of-TypedExp, Row_of-InitStep, end_of-InitStep, more_of-InitStep, items-the_row-TypedExp, items-the_row-InitStep, hidden-the_row-InitStep-0, items_hidden-the_row-InitStep-0, hidden-the_row-TypedExp-1, items_hidden-the_row-TypedExp-1}
use Rattle.typed_tree.specs.declared.expressions.TypedNode.TheViews.{Literal, Call}
use Rattle.typed_tree.specs.declared.initialisers.TypedInit.{TypedInit}
use Rattle.type_graph.specs.declared.nodes.QualType.{QualType}
use Rattle.typed_tree.specs.Built.{IsBuilt}
use Rattle.typed_tree.specs.Tree as plain
use Rattle.typed_tree.specs.View.{having, form_of, typed_of, init_of, arguments_row, arguments_of, inits_row, inits_of, typed_init_of}
use Rattle.typed_tree.specs.Top.{over, top_in, top_of, top_row, top_list, top_step, top_steps, top_inits, top_init}

arguments_are : {m : _} (nodes : List Node) (k : Row_of-TypedExp m) → arguments_row nodes k ≡ arguments_of nodes (items-the_row-TypedExp m k)
arguments_are nodes end_of-TypedExp = refl
arguments_are nodes (more_of-TypedExp t a p e k) = ap (plain.MoreArguments (having nodes t a (form_of nodes e))) (arguments_are nodes k)

inits_are : {m : _} (nodes : List Node) (k : Row_of-InitStep m) → inits_row nodes k ≡ inits_of nodes (items-the_row-InitStep m k)
inits_are nodes end_of-InitStep = refl
inits_are nodes (more_of-InitStep s k) = ap (plain.MoreInits (init_of nodes s)) (inits_are nodes k)

top_row_is : {m : _} (k : Row_of-TypedExp m) → top_row k ≡ top_list (items-the_row-TypedExp m k)
top_row_is end_of-TypedExp = refl
top_row_is (more_of-TypedExp t a p e k) = ap (max (over t (top_in e))) (top_row_is k)

top_steps_is : {m : _} (k : Row_of-InitStep m) → top_steps k ≡ top_inits (items-the_row-InitStep m k)
top_steps_is end_of-InitStep = refl
top_steps_is (more_of-InitStep s k) = ap (max (top_step s)) (top_steps_is k)

pub at_call : (nodes : List Node) (n : TypedNode) (f : TypedExp) (v : Vec TypedExp Global) → n ≡ Call f v → form_of nodes n ≡ plain.Call (typed_of nodes f) (arguments_of nodes v.items)
at_call nodes n f v is = ap (form_of nodes) is ∙ ap (plain.Call (typed_of nodes f)) (arguments_are nodes (hidden-the_row-TypedExp-1 v) ∙ ap (arguments_of nodes) (items_hidden-the_row-TypedExp-1 v))

pub at_literal : (nodes : List Node) (n : TypedNode) (i : ℕ) (init : TypedInit) → n ≡ Literal i init → form_of nodes n ≡ plain.Literal i (typed_init_of nodes init)
at_literal nodes n i init is = ap (form_of nodes) is ∙ ap (plain.Literal i) (inits_are nodes (hidden-the_row-InitStep-0 init.steps) ∙ ap (inits_of nodes) (items_hidden-the_row-InitStep-0 init.steps))

pub top_call : (n : TypedNode) (f : TypedExp) (v : Vec TypedExp Global) → n ≡ Call f v → top_in n ≡ max (top_of f) (top_list v.items)
top_call n f v is = ap top_in is ∙ ap (max (top_of f)) (top_row_is (hidden-the_row-TypedExp-1 v) ∙ ap top_list (items_hidden-the_row-TypedExp-1 v))

pub top_literal : (n : TypedNode) (i : ℕ) (init : TypedInit) → n ≡ Literal i init → top_in n ≡ top_init init
top_literal n i init is = ap top_in is ∙ top_steps_is (hidden-the_row-InitStep-0 init.steps) ∙ ap top_inits (items_hidden-the_row-InitStep-0 init.steps)

-- what was built of a node was built of what the node stands for
pub built_call : {E : Type 0} (r : Result TypedExp E) (t ty : QualType) (n : TypedNode) (f : TypedExp) (v : Vec TypedExp Global) → t ≡ ty → n ≡ Call f v → IfOk r (IsBuilt t true (λ nodes. form_of nodes n) (top_in n)) → IfOk r (IsBuilt ty true (λ nodes. plain.Call (typed_of nodes f) (arguments_of nodes v.items)) (max (top_of f) (top_list v.items)))
built_call r t ty n f v same is b = IfOk-weaker r _ _ (λ e x. record { made = λ nodes. x.made nodes ∙ ap (λ q. having nodes q true (form_of nodes n)) same ∙ ap (having nodes ty true) (at_call nodes n f v is); greatest = x.greatest ∙ ap (λ q. over q (top_in n)) same ∙ ap (over ty) (top_call n f v is) }) b

pub built_literal : {E : Type 0} (r : Result TypedExp E) (ty : QualType) (n : TypedNode) (i : ℕ) (init : TypedInit) → n ≡ Literal i init → IfOk r (IsBuilt ty true (λ nodes. form_of nodes n) (top_in n)) → IfOk r (IsBuilt ty true (λ nodes. plain.Literal i (typed_init_of nodes init)) (top_init init))
built_literal r ty n i init is b = IfOk-weaker r _ _ (λ e x. record { made = λ nodes. x.made nodes ∙ ap (having nodes ty true) (at_literal nodes n i init is); greatest = x.greatest ∙ ap (over ty) (top_literal n i init is) }) b
