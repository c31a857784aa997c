-- Device: parts of expressions as the code has them: each is seen as one tree in the graph and in each graph that this one grows to.
use Rattle.std.specs.Prelude.{◌≡◌, ℕ, List, ◌∷◌, Option, Some, None, length}
use Rattle.std.specs.Option.{option_map, option_and_then}
use Rattle.cil_base.specs.declared.kinds.Abi.{Abi}
use Rattle.cil_base.specs.declared.kinds.IntKind.{IntKind}
use Rattle.cil_base.specs.Integer.{kind_in}
use Rattle.cil_base.specs.declared.numbers.TypeId.{TypeId}
use Rattle.cil_base.specs.declared.operators.BinOp.{BinOp}
use Rattle.type_graph.specs.declared.nodes.Node.{Node}
use Rattle.type_graph.specs.Arena.{Graph}
use Rattle.type_graph.specs.Growth.{Grows}
use Rattle.type_graph.specs.Shapes.{Shape}
use Rattle.cil_tree.specs.declared.expressions.Exp.{Exp as SeenExp}
use Rattle.cil_tree.specs.declared.expressions.Host.{Host as SeenHost}
use Rattle.cil_tree.specs.declared.expressions.Lval.{Lval as SeenLval}
use Rattle.cil_tree.specs.Tree.{Local, Exp, Const, Host, Offsets, Here, Field, Index, Lval}
use Rattle.cil_tree.specs.Typing.{element_of}
use Rattle.cil_tree.specs.View.{exp_of, host_of, lval_of}
use Rattle.cil_nodes.specs.Built.{part_of}
use Rattle.cil_text.specs.Words.{Word, LeftBracket, Dot, Name}
use Rattle.cil_text.specs.ReadTypes.{Reading, read_decl}
use Rattle.cil_text.specs.ReadExps.{Env, bases, pointee, moved_pointee, type_at_host, type_at_place, find_named, fields, type_of_named, in_brackets, exp_from, read_exp, read_offsets}
use Rattle.cil_reader.specs.declared.operands.Walk.{Walk}
use Rattle.cil_scan.specs.Said.{all_said}
use Rattle.cil_reader.specs.Settings.{type_in, TypeBelow}

-- an expression with what it points to
pub record ExpKnown (g : Graph) (env : Env) (e : SeenExp) (to : Option TypeId) : Type 0 where
  pub steady : (h : Graph) → Grows g h → exp_of h.nodes e ≡ exp_of g.nodes e
  pub typed : type_in g.nodes to ≡ pointee env (exp_of g.nodes e)
  pub below : TypeBelow (length g.nodes) to

-- what a place begins with, and its type
pub record HostKnown (g : Graph) (env : Env) (x : SeenHost) (t : Option TypeId) : Type 0 where
  pub steady : (h : Graph) → Grows g h → host_of h.nodes x ≡ host_of g.nodes x
  pub typed : type_in g.nodes t ≡ type_at_host env (host_of g.nodes x)
  pub below : TypeBelow (length g.nodes) t

-- a place with its type
pub record PlaceKnown (g : Graph) (env : Env) (l : SeenLval) (t : Option TypeId) : Type 0 where
  pub steady : (h : Graph) → Grows g h → lval_of h.nodes l ≡ lval_of g.nodes l
  pub typed : type_in g.nodes t ≡ type_at_place env (lval_of g.nodes l)
  pub below : TypeBelow (length g.nodes) t

-- what a sum or a difference points to
pub record IsMoved (op : BinOp) (s t u : Option TypeId) : Type 0 where
  pub at : (nodes : List Node) → type_in nodes u ≡ moved_pointee op (type_in nodes s) (type_in nodes t)
  pub below : (n : ℕ) → TypeBelow n s → TypeBelow n t → TypeBelow n u

-- readings by the code's steps

-- a constant of a word with this kind, and what stands behind it
abbrev pub constant_read : Abi → IntKind → ℕ → List Word → Reading Exp
constant_read abi kind n ws = Some (Const (kind_in abi kind) n, ws)

-- what a name means, and what stands behind it
abbrev pub host_read : List Word → Option Host → Reading Host
host_read ws o = option_map (λ (h : Host). (h, ws)) o

-- an expression within which others are read with so many steps
abbrev pub exp_within : Env → ℕ → List Word → Reading Exp
exp_within env n ws = exp_from env (read_exp env n) (read_decl (bases env) n) n ws

abbrev pub part_behind : Lval → Offsets × List Word → Lval × List Word
part_behind l r = (part_of l r.0, r.1)

-- a place and the part of it that the offsets lead to, of which so many may be left
abbrev pub offsets_left : Env → (List Word → Reading Exp) → ℕ → Lval → Option Shape → List Word → Reading Lval
offsets_left env exp k l s ws = option_map (part_behind l) (read_offsets env exp k s ws)

-- one step further from a place of that type, and the type of the part
abbrev pub Part : Type 0
Part = Lval × Option Shape

abbrev pub walked : List Node → Walk → Part × List Word
walked nodes x = ((lval_of nodes x.located.place, type_in nodes x.located.ty), all_said x.rest.now)

abbrev pub to_field : Lval → List Local → List Word → ℕ → Part × List Word
to_field l ms ws n = ((part_of l (Field n Here), type_of_named ms n), ws)

abbrev pub to_element : Lval → Option Shape → Exp × List Word → Part × List Word
to_element l s r = ((part_of l (Index r.0 Here), option_and_then element_of s), r.1)

abbrev pub one_step : Env → (List Word → Reading Exp) → Lval → Option Shape → List Word → Reading Part
one_step env exp l s (Dot ∷ Name name ∷ ws) = option_map (to_field l (fields env s) ws) (find_named name (fields env s))
one_step env exp l s (LeftBracket ∷ ws) = option_map (to_element l s) (option_and_then (λ (r : Exp × List Word). in_brackets r.0 r.1) (exp ws))
one_step env exp l s _ = None
