-- Device: what the readings of expressions, instructions and lines add to the graph are parts of the types in them.
use Rattle.std.proofs.Common.{◌≡◌, ℕ, ◌<◌, Bool, true, false, cond, List, [], ◌∷◌, ◌++◌, length, Option, Some, None, refl, sym, ap, ◌∙◌, subst, append_assoc, append-nil}
use Rattle.cil_base.specs.declared.numbers.TypeId.{TypeId}
use Rattle.cil_base.specs.declared.operators.BinOp.{BinOp}
use Rattle.cil_base.specs.declared.operators.UnOp.{UnOp}
use Rattle.type_graph.specs.Shapes.{Shape, shape}
use Rattle.type_graph.specs.Arena.{Graph}
use Rattle.type_graph.specs.Growth.{Grows}
use Rattle.type_graph.proofs.ShapeLaws.{kept}
use Rattle.cil_tree.specs.declared.expressions.Exp.{Exp as SeenExp}
use Rattle.cil_tree.specs.declared.expressions.Host.{Host as SeenHost}
use Rattle.cil_tree.specs.declared.expressions.Lval.{Lval as SeenLval}
use Rattle.cil_tree.specs.declared.statements.Instr.{Instr as SeenInstr}
use Rattle.type_graph.specs.declared.nodes.Node.{Node}
use Rattle.cil_tree.specs.Tree.{Exp, Const, Value, Un, Bin, Cast, AddrOf, StartOf, At, Var, Offsets, Here, Field, Index, Lval, Place, Callee}
use Rattle.cil_tree.specs.Tree as plain
use Rattle.cil_tree.specs.View.{exp_of, host_of, lval_of, instr_of}
use Rattle.cil_text.specs.ReadExps.{Env, chosen, is_array_type, type_at_place}
use Rattle.cil_text.specs.ReadStmts.{Head, callee_of, called_place}
use Rattle.cil_text.specs.TypesOf.{AddsParts, types_in_exp, types_in_host, types_in_offsets, types_in_place, types_in_args, types_in_result, types_in_callee, types_in_instr}
use Rattle.cil_text.proofs.PartsAdded.{adds_twice}
use Rattle.cil_reader.specs.declared.heads.Head.{Head as SeenHead}
use Rattle.cil_nodes.specs.Built.{joined, part_of}
use Rattle.cil_reader.specs.Parts.{ExpKnown, PlaceKnown}
use Rattle.cil_reader.specs.declared.instructions.Called.{Called}
use Rattle.cil_reader.specs.Instructions.{args_of, called_seen, result_of, ArgsKnown, ResultKnown, CalleeKnown, IsCallee, IsCalled}
use Rattle.cil_reader.specs.Heads.{head_of, heads_of, HeadsKnown}
use Rattle.cil_reader.specs.Added.{types_in_head, types_in_heads}
use Rattle.cil_reader.proofs.InstructionLaws.{map_more}
use Rattle.cil_reader.proofs.HeadsLaws.{mapped_more}

same_types : (f g : Graph) (ss ts : List Shape) → ss ≡ ts → AddsParts f g ss → AddsParts f g ts
same_types f g ss ts e adds = subst (AddsParts f g) e adds

-- what was read before, seen in the graph that has grown, and what was read behind it
then_adds : (f g h : Graph) (ss ts us : List Shape) → ss ≡ us → Grows g h → AddsParts f g ss → AddsParts g h ts → AddsParts f h (us ++ ts)
then_adds f g h ss ts us e grows first second = same_types f h (ss ++ ts) (us ++ ts) (ap (λ (xs : List Shape). xs ++ ts) e) (adds_twice f g h ss ts grows first second)

-- expressions

pub un_adds : (f g : Graph) (op : UnOp) (x y : SeenExp) → exp_of g.nodes y ≡ Un op (exp_of g.nodes x) → AddsParts f g (types_in_exp (exp_of g.nodes x)) → AddsParts f g (types_in_exp (exp_of g.nodes y))
un_adds f g op x y is adds = same_types f g (types_in_exp (exp_of g.nodes x)) (types_in_exp (exp_of g.nodes y)) (sym (ap types_in_exp is)) adds

pub bin_adds : (f g h : Graph) (env : Env) (op : BinOp) (x y z : SeenExp) (t : Option TypeId) → Grows g h → ExpKnown g env x t → exp_of h.nodes z ≡ Bin op (exp_of h.nodes x) (exp_of h.nodes y) →
    AddsParts f g (types_in_exp (exp_of g.nodes x)) → AddsParts g h (types_in_exp (exp_of h.nodes y)) → AddsParts f h (types_in_exp (exp_of h.nodes z))
bin_adds f g h env op x y z t grows known is first second =
    same_types f h (types_in_exp (exp_of h.nodes x) ++ types_in_exp (exp_of h.nodes y)) (types_in_exp (exp_of h.nodes z)) (sym (ap types_in_exp is))
    (then_adds f g h (types_in_exp (exp_of g.nodes x)) (types_in_exp (exp_of h.nodes y)) (types_in_exp (exp_of h.nodes x)) (sym (ap types_in_exp (known.steady h grows))) grows first second)

pub cast_adds : (f g h : Graph) (to : TypeId) (x y : SeenExp) → Grows g h → to.0 < length g.nodes → exp_of h.nodes y ≡ Cast (Some (shape h.nodes to.0)) (exp_of h.nodes x) →
    AddsParts f g (shape g.nodes to.0 ∷ []) → AddsParts g h (types_in_exp (exp_of h.nodes x)) → AddsParts f h (types_in_exp (exp_of h.nodes y))
cast_adds f g h to x y grows less is first second =
    same_types f h (shape h.nodes to.0 ∷ types_in_exp (exp_of h.nodes x)) (types_in_exp (exp_of h.nodes y)) (sym (ap types_in_exp is))
    (then_adds f g h (shape g.nodes to.0 ∷ []) (types_in_exp (exp_of h.nodes x)) (shape h.nodes to.0 ∷ []) (ap (λ (s : Shape). s ∷ []) (sym (kept g h to.0 grows less))) grows first second)

pub address_adds : (f g : Graph) (l : SeenLval) (y : SeenExp) → exp_of g.nodes y ≡ AddrOf (lval_of g.nodes l) → AddsParts f g (types_in_place (lval_of g.nodes l)) → AddsParts f g (types_in_exp (exp_of g.nodes y))
address_adds f g l y is adds = same_types f g (types_in_place (lval_of g.nodes l)) (types_in_exp (exp_of g.nodes y)) (sym (ap types_in_exp is)) adds

chosen_types : (env : Env) (l : Lval) → types_in_exp (chosen env l) ≡ types_in_place l
chosen_types env l = by (is_array_type (type_at_place env l))
  where
    by : (v : Bool) → types_in_exp (cond v (StartOf l) (Value l)) ≡ types_in_place l
    by true = refl
    by false = refl

pub chosen_adds : (f g : Graph) (env : Env) (l : SeenLval) (y : SeenExp) → exp_of g.nodes y ≡ chosen env (lval_of g.nodes l) → AddsParts f g (types_in_place (lval_of g.nodes l)) → AddsParts f g (types_in_exp (exp_of g.nodes y))
chosen_adds f g env l y is adds = same_types f g (types_in_place (lval_of g.nodes l)) (types_in_exp (exp_of g.nodes y)) (sym (ap types_in_exp is ∙ chosen_types env (lval_of g.nodes l))) adds

-- places

pub at_adds : (f g : Graph) (x : SeenExp) (y : SeenHost) → host_of g.nodes y ≡ At (exp_of g.nodes x) → AddsParts f g (types_in_exp (exp_of g.nodes x)) → AddsParts f g (types_in_host (host_of g.nodes y))
at_adds f g x y is adds = same_types f g (types_in_exp (exp_of g.nodes x)) (types_in_host (host_of g.nodes y)) (sym (ap types_in_host is)) adds

pub base_adds : (f g : Graph) (x : SeenHost) (l : SeenLval) → lval_of g.nodes l ≡ Place (host_of g.nodes x) Here → AddsParts f g (types_in_host (host_of g.nodes x)) → AddsParts f g (types_in_place (lval_of g.nodes l))
base_adds f g x l is adds =
    same_types f g (types_in_host (host_of g.nodes x)) (types_in_place (lval_of g.nodes l)) (sym (ap types_in_place is ∙ append-nil (types_in_host (host_of g.nodes x)))) adds

offsets_types : (os more : Offsets) → types_in_offsets (joined os more) ≡ types_in_offsets os ++ types_in_offsets more
offsets_types Here more = refl
offsets_types (Field n os) more = offsets_types os more
offsets_types (Index e os) more = ap (λ (xs : List Shape). types_in_exp e ++ xs) (offsets_types os more) ∙ sym (append_assoc (types_in_exp e) (types_in_offsets os) (types_in_offsets more))

place_types : (l : Lval) (more : Offsets) → types_in_place (part_of l more) ≡ types_in_place l ++ types_in_offsets more
place_types (Place h os) more = ap (λ (xs : List Shape). types_in_host h ++ xs) (offsets_types os more) ∙ sym (append_assoc (types_in_host h) (types_in_offsets os) (types_in_offsets more))

pub field_adds : (f g : Graph) (l m : SeenLval) (n : ℕ) → lval_of g.nodes m ≡ part_of (lval_of g.nodes l) (Field n Here) → AddsParts f g (types_in_place (lval_of g.nodes l)) → AddsParts f g (types_in_place (lval_of g.nodes m))
field_adds f g l m n is adds =
    same_types f g (types_in_place (lval_of g.nodes l)) (types_in_place (lval_of g.nodes m))
    (sym (ap types_in_place is ∙ place_types (lval_of g.nodes l) (Field n Here) ∙ append-nil (types_in_place (lval_of g.nodes l)))) adds

pub element_adds : (f g h : Graph) (env : Env) (l m : SeenLval) (t : Option TypeId) (e : SeenExp) → Grows g h → PlaceKnown g env l t → lval_of h.nodes m ≡ part_of (lval_of h.nodes l) (Index (exp_of h.nodes e) Here) →
    AddsParts f g (types_in_place (lval_of g.nodes l)) → AddsParts g h (types_in_exp (exp_of h.nodes e)) → AddsParts f h (types_in_place (lval_of h.nodes m))
element_adds f g h env l m t e grows known is first second =
    same_types f h (types_in_place (lval_of h.nodes l) ++ types_in_exp (exp_of h.nodes e)) (types_in_place (lval_of h.nodes m))
    (sym (ap types_in_place is ∙ place_types (lval_of h.nodes l) (Index (exp_of h.nodes e) Here) ∙ ap (λ (xs : List Shape). types_in_place (lval_of h.nodes l) ++ xs) (append-nil (types_in_exp (exp_of h.nodes e)))))
    (then_adds f g h (types_in_place (lval_of g.nodes l)) (types_in_exp (exp_of h.nodes e)) (types_in_place (lval_of h.nodes l)) (sym (ap types_in_place (known.steady h grows))) grows first second)

-- arguments

args_types : (xs ys : List Exp) → types_in_args (xs ++ ys) ≡ types_in_args xs ++ types_in_args ys
args_types [] ys = refl
args_types (x ∷ xs) ys = ap (λ (ss : List Shape). types_in_exp x ++ ss) (args_types xs ys) ∙ sym (append_assoc (types_in_exp x) (types_in_args xs) (types_in_args ys))

pub argument_adds : (f g h : Graph) (xs : List SeenExp) (x : SeenExp) → ArgsKnown g xs → Grows g h → AddsParts f g (types_in_args (args_of g.nodes xs)) → AddsParts g h (types_in_exp (exp_of h.nodes x)) →
    AddsParts f h (types_in_args (args_of h.nodes (xs ++ x ∷ [])))
argument_adds f g h xs x known grows first second =
    same_types f h (types_in_args (args_of h.nodes xs) ++ types_in_exp (exp_of h.nodes x)) (types_in_args (args_of h.nodes (xs ++ x ∷ [])))
    (sym (ap types_in_args (map_more h.nodes xs x) ∙ args_types (args_of h.nodes xs) (exp_of h.nodes x ∷ []) ∙ ap (λ (ss : List Shape). types_in_args (args_of h.nodes xs) ++ ss) (append-nil (types_in_exp (exp_of h.nodes x)))))
    (then_adds f g h (types_in_args (args_of g.nodes xs)) (types_in_exp (exp_of h.nodes x)) (types_in_args (args_of h.nodes xs)) (sym (ap types_in_args (known.steady h grows))) grows first second)

-- instructions

abbrev types_in_called : Option Callee → List Shape
types_in_called None = []
types_in_called (Some c) = types_in_callee c

callee_types : (l : Lval) (c : Callee) → Some c ≡ callee_of l → types_in_place l ≡ types_in_callee c
callee_types (Place (plain.Global n) Here) c e = ap types_in_called (sym e)
callee_types (Place (At p) Here) c e = append-nil (types_in_exp p) ∙ ap types_in_called (sym e)
callee_types (Place (Var n) Here) c e = cc
callee_types (Place (plain.Global n) (Field k os)) c e = cc
callee_types (Place (At p) (Field k os)) c e = cc
callee_types (Place (Var n) (Field k os)) c e = cc
callee_types (Place (plain.Global n) (Index x os)) c e = cc
callee_types (Place (At p) (Index x os)) c e = cc
callee_types (Place (Var n) (Index x os)) c e = cc

called_types : (x : Exp) (c : Callee) → Some c ≡ called_place x → types_in_exp x ≡ types_in_callee c
called_types (Const kind n) c e = cc
called_types (Value l) c e = callee_types l c e
called_types (Un op x) c e = cc
called_types (Bin op x y) c e = cc
called_types (Cast to x) c e = cc
called_types (AddrOf l) c e = cc
called_types (StartOf l) c e = cc

pub callee_adds : (f g : Graph) (l : SeenLval) (c : Called) → IsCallee l (Some c) → AddsParts f g (types_in_place (lval_of g.nodes l)) → AddsParts f g (types_in_result (result_of g.nodes None) ++ types_in_callee (called_seen g.nodes c))
callee_adds f g l c is adds = same_types f g (types_in_place (lval_of g.nodes l)) (types_in_callee (called_seen g.nodes c)) (callee_types (lval_of g.nodes l) (called_seen g.nodes c) (is.at g.nodes)) adds

pub called_adds : (f g : Graph) (l : SeenLval) (x : SeenExp) (c : Called) → IsCalled x (Some c) → AddsParts f g (types_in_place (lval_of g.nodes l) ++ types_in_exp (exp_of g.nodes x)) →
    AddsParts f g (types_in_result (result_of g.nodes (Some l)) ++ types_in_callee (called_seen g.nodes c))
called_adds f g l x c is adds =
    same_types f g (types_in_place (lval_of g.nodes l) ++ types_in_exp (exp_of g.nodes x)) (types_in_place (lval_of g.nodes l) ++ types_in_callee (called_seen g.nodes c))
    (ap (λ (ss : List Shape). types_in_place (lval_of g.nodes l) ++ ss) (called_types (exp_of g.nodes x) (called_seen g.nodes c) (is.at g.nodes))) adds

pub call_adds : (f g h : Graph) (o : Option SeenLval) (c : Called) (xs : List SeenExp) (i : SeenInstr) → ResultKnown g o → CalleeKnown g c → Grows g h → ((nodes : List Node) → instr_of nodes i ≡ plain.Call (result_of nodes o) (called_seen nodes c) (args_of nodes xs)) →
    AddsParts f g (types_in_result (result_of g.nodes o) ++ types_in_callee (called_seen g.nodes c)) → AddsParts g h (types_in_args (args_of h.nodes xs)) → AddsParts f h (types_in_instr (instr_of h.nodes i))
call_adds f g h o c xs i p q grows is first second =
    same_types f h ((types_in_result (result_of h.nodes o) ++ types_in_callee (called_seen h.nodes c)) ++ types_in_args (args_of h.nodes xs)) (types_in_instr (instr_of h.nodes i))
    (append_assoc (types_in_result (result_of h.nodes o)) (types_in_callee (called_seen h.nodes c)) (types_in_args (args_of h.nodes xs)) ∙ sym (ap types_in_instr (is h.nodes)))
    (then_adds f g h (types_in_result (result_of g.nodes o) ++ types_in_callee (called_seen g.nodes c)) (types_in_args (args_of h.nodes xs)) (types_in_result (result_of h.nodes o) ++ types_in_callee (called_seen h.nodes c)) both grows first second)
  where
    both : types_in_result (result_of g.nodes o) ++ types_in_callee (called_seen g.nodes c) ≡ types_in_result (result_of h.nodes o) ++ types_in_callee (called_seen h.nodes c)
    both =
        ap (λ (y : Option Lval). types_in_result y ++ types_in_callee (called_seen g.nodes c)) (sym (p.steady h grows))
        ∙ ap (λ (y : Callee). types_in_result (result_of h.nodes o) ++ types_in_callee y) (sym (q.steady h grows))

pub assigned_adds : (f g h : Graph) (env : Env) (l : SeenLval) (t : Option TypeId) (x : SeenExp) → Grows g h → PlaceKnown g env l t → AddsParts f g (types_in_place (lval_of g.nodes l)) → AddsParts g h (types_in_exp (exp_of h.nodes x)) →
    AddsParts f h (types_in_place (lval_of h.nodes l) ++ types_in_exp (exp_of h.nodes x))
assigned_adds f g h env l t x grows known first second =
    then_adds f g h (types_in_place (lval_of g.nodes l)) (types_in_exp (exp_of h.nodes x)) (types_in_place (lval_of h.nodes l)) (sym (ap types_in_place (known.steady h grows))) grows first second

-- lines

heads_types : (xs ys : List Head) → types_in_heads (xs ++ ys) ≡ types_in_heads xs ++ types_in_heads ys
heads_types [] ys = refl
heads_types (x ∷ xs) ys = ap (λ (ss : List Shape). types_in_head x ++ ss) (heads_types xs ys) ∙ sym (append_assoc (types_in_head x) (types_in_heads xs) (types_in_heads ys))

pub heads_add : (f g h : Graph) (hs : List SeenHead) (x : SeenHead) → HeadsKnown g hs → Grows g h → AddsParts f g (types_in_heads (heads_of g.nodes hs)) → AddsParts g h (types_in_head (head_of h.nodes x)) →
    AddsParts f h (types_in_heads (heads_of h.nodes (hs ++ x ∷ [])))
heads_add f g h hs x known grows first second =
    same_types f h (types_in_heads (heads_of h.nodes hs) ++ types_in_head (head_of h.nodes x)) (types_in_heads (heads_of h.nodes (hs ++ x ∷ [])))
    (sym (ap types_in_heads (mapped_more h.nodes hs x) ∙ heads_types (heads_of h.nodes hs) (head_of h.nodes x ∷ []) ∙ ap (λ (ss : List Shape). types_in_heads (heads_of h.nodes hs) ++ ss) (append-nil (types_in_head (head_of h.nodes x)))))
    (then_adds f g h (types_in_heads (heads_of g.nodes hs)) (types_in_head (head_of h.nodes x)) (types_in_heads (heads_of h.nodes hs)) (sym (ap types_in_heads (known.steady h grows))) grows first second)
