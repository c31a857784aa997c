-- Definition: typed expressions of C as plain trees (C11 6.5): types are shapes with qualifiers, in which an aggregate stands by its number. A lvalue conversion (6.3.2.1p2), a decay (6.3.2.1p3, p4) and each conversion (6.3) is a node.
use Rattle.std.specs.Prelude.{ℕ, ℤ, Bool, List}
use Rattle.cil_base.specs.declared.constants.Constant.{Constant}
use Rattle.cil_base.specs.declared.operators.BinOp.{BinOp}
use Rattle.cil_base.specs.declared.operators.UnOp.{UnOp}
use Rattle.type_graph.specs.declared.nodes.Quals.{Quals}
use Rattle.type_graph.specs.Shapes.{Shape}
use Rattle.typed_tree.specs.declared.expressions.Logic.{Logic}
use Rattle.typed_tree.specs.declared.expressions.StepForm.{StepForm}
use Rattle.typed_tree.specs.declared.initialisers.Step.{Step as PathStep}

mutual
  -- an expression: its type, whether an effect stands in it, and its form
  pub data Typed : Type 0 where
    Has : (quals : Quals) (shape : Shape) (effect : Bool) (form : Form) → Typed

  pub data Form : Type 0 where
    Integer : (value : ℤ) → Form
    Local : (number : ℕ) → Form
    Literal : (number : ℕ) (init : Inits) → Form
    Entity : (number : ℕ) → Form
    Load : (place : Typed) → Form
    Decay : (of : Typed) → Form
    Address : (of : Typed) → Form
    Indirect : (pointer : Typed) → Form
    Subscript : (left right : Typed) → Form
    Member : (of : Typed) (aggregate number : ℕ) → Form
    Convert : (from : Typed) → Form
    Unary : (op : UnOp) (operand : Typed) → Form
    Binary : (op : BinOp) (left right : Typed) → Form
    Logical : (op : Logic) (left right : Typed) → Form
    Conditional : (test holds fails : Typed) → Form
    Comma : (left right : Typed) → Form
    Assign : (place value : Typed) → Form
    -- the type in which it computes
    Compute : (op : BinOp) (at : Shape) (place value : Typed) → Form
    Step : (form : StepForm) (at : Shape) (place : Typed) → Form
    Call : (callee : Typed) (arguments : Arguments) → Form

  pub data Arguments : Type 0 where
    NoArguments : Arguments
    MoreArguments : (first : Typed) (rest : Arguments) → Arguments

  -- what an initialiser does to a part of its object (C11 6.7.9)
  pub data Init : Type 0 where
    Zero : (path : List PathStep) → Init
    Scalar : (path : List PathStep) (value : Typed) → Init
    Constant' : (path : List PathStep) (value : Constant) → Init
    Aggregate : (path : List PathStep) (value : Typed) → Init
    Bytes : (path : List PathStep) (bytes : List ℕ) → Init

  -- in the order of the text
  pub data Inits : Type 0 where
    NoInits : Inits
    MoreInits : (first : Init) (rest : Inits) → Inits

-- the parts of an expression
abbrev pub quals_in : Typed → Quals
quals_in (Has quals shape effect form) = quals

abbrev pub shape_in : Typed → Shape
shape_in (Has quals shape effect form) = shape

abbrev pub acts : Typed → Bool
acts (Has quals shape effect form) = effect

abbrev pub form_in : Typed → Form
form_in (Has quals shape effect form) = form
