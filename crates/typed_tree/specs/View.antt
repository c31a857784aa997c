-- Definition: the plain tree that a typed tree of the code stands for: numbers of types are followed to shapes.
use Rattle.std.specs.Prelude.{Bool, List, [], ◌∷◌}
use Rattle.type_graph.specs.declared.nodes.Node.{Node}
use Rattle.type_graph.specs.declared.nodes.QualType.{QualType}
use Rattle.type_graph.specs.Shapes.{shape}
use Rattle.typed_tree.specs.declared.expressions.TypedExp.{TypedExp}
use Rattle.typed_tree.specs.declared.expressions.TypedNode.{TypedNode}
use Rattle.typed_tree.specs.declared.expressions.TypedNode.TheVariants.{Integer, Local, Literal', Entity, Load', Decay', Address', Indirect', Subscript', Member', Convert', Unary', Binary', Logical', Conditional', Comma', Assign', Compute', Step', Call'}
use Rattle.typed_tree.specs.declared.expressions.TypedNode.TheBlock.{Row_of-TypedExp, end_of-TypedExp, more_of-TypedExp, Row_of-InitStep, end_of-InitStep, more_of-InitStep}
use Rattle.typed_tree.specs.declared.initialisers.InitStep.{InitStep}
use Rattle.typed_tree.specs.declared.initialisers.InitStep.TheVariants.{Zero, Scalar', Constant, Aggregate', Bytes}
use Rattle.typed_tree.specs.declared.initialisers.TypedInit.{TypedInit}
use Rattle.typed_tree.specs.Tree as plain

-- a form at a type
abbrev pub having : List Node → QualType → Bool → plain.Form → plain.Typed
having nodes ty effect form = plain.Has ty.quals (shape nodes ty.of.0) effect form

abbrev mutual
  pub form_of : List Node → TypedNode → plain.Form
  form_of nodes (Integer n) = plain.Integer n
  form_of nodes (Local n) = plain.Local n.0
  form_of nodes (Literal' n ns steps) = plain.Literal n (inits_row nodes steps)
  form_of nodes (Entity n) = plain.Entity n.0
  form_of nodes (Load' t a p e) = plain.Load (having nodes t a (form_of nodes e))
  form_of nodes (Decay' t a p e) = plain.Decay (having nodes t a (form_of nodes e))
  form_of nodes (Address' t a p e) = plain.Address (having nodes t a (form_of nodes e))
  form_of nodes (Indirect' t a p e) = plain.Indirect (having nodes t a (form_of nodes e))
  form_of nodes (Subscript' t a p e u b q f) = plain.Subscript (having nodes t a (form_of nodes e)) (having nodes u b (form_of nodes f))
  form_of nodes (Member' t a p e g i) = plain.Member (having nodes t a (form_of nodes e)) g.0 i
  form_of nodes (Convert' t a p e) = plain.Convert (having nodes t a (form_of nodes e))
  form_of nodes (Unary' op t a p e) = plain.Unary op (having nodes t a (form_of nodes e))
  form_of nodes (Binary' op t a p e u b q f) = plain.Binary op (having nodes t a (form_of nodes e)) (having nodes u b (form_of nodes f))
  form_of nodes (Logical' op t a p e u b q f) = plain.Logical op (having nodes t a (form_of nodes e)) (having nodes u b (form_of nodes f))
  form_of nodes (Conditional' t a p e s u b q f v c r g) = plain.Conditional (having nodes t a (form_of nodes e)) (having nodes u b (form_of nodes f)) (having nodes v c (form_of nodes g))
  form_of nodes (Comma' t a p e u b q f) = plain.Comma (having nodes t a (form_of nodes e)) (having nodes u b (form_of nodes f))
  form_of nodes (Assign' t a p e u b q f) = plain.Assign (having nodes t a (form_of nodes e)) (having nodes u b (form_of nodes f))
  form_of nodes (Compute' op at t a p e u b q f) = plain.Compute op (shape nodes at.0) (having nodes t a (form_of nodes e)) (having nodes u b (form_of nodes f))
  form_of nodes (Step' form at t a p e) = plain.Step form (shape nodes at.0) (having nodes t a (form_of nodes e))
  form_of nodes (Call' t a p e ns es) = plain.Call (having nodes t a (form_of nodes e)) (arguments_row nodes es)

  pub arguments_row : {m : _} → List Node → Row_of-TypedExp m → plain.Arguments
  arguments_row nodes end_of-TypedExp = plain.NoArguments
  arguments_row nodes (more_of-TypedExp t a p e rest) = plain.MoreArguments (having nodes t a (form_of nodes e)) (arguments_row nodes rest)

  pub init_of : List Node → InitStep → plain.Init
  init_of nodes (Zero path) = plain.Zero path.items
  init_of nodes (Scalar' path t a p e) = plain.Scalar path.items (having nodes t a (form_of nodes e))
  init_of nodes (Constant path value) = plain.Constant' path.items value
  init_of nodes (Aggregate' path t a p e) = plain.Aggregate path.items (having nodes t a (form_of nodes e))
  init_of nodes (Bytes path bytes) = plain.Bytes path.items bytes

  pub inits_row : {m : _} → List Node → Row_of-InitStep m → plain.Inits
  inits_row nodes end_of-InitStep = plain.NoInits
  inits_row nodes (more_of-InitStep s rest) = plain.MoreInits (init_of nodes s) (inits_row nodes rest)

abbrev pub typed_of : List Node → TypedExp → plain.Typed
typed_of nodes e = having nodes e.ty e.effect (form_of nodes e.node.value)

abbrev pub arguments_of : List Node → List TypedExp → plain.Arguments
arguments_of nodes [] = plain.NoArguments
arguments_of nodes (e ∷ es) = plain.MoreArguments (typed_of nodes e) (arguments_of nodes es)

abbrev pub inits_of : List Node → List InitStep → plain.Inits
inits_of nodes [] = plain.NoInits
inits_of nodes (s ∷ ss) = plain.MoreInits (init_of nodes s) (inits_of nodes ss)

abbrev pub typed_init_of : List Node → TypedInit → plain.Inits
typed_init_of nodes init = inits_of nodes init.steps.items
