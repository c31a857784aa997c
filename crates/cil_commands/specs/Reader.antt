-- Device: what the types of the reader stand for in the executable reading.
use Rattle.std.specs.Prelude.{List, reverse, map}
use Rattle.cil_commands.specs.declared.reader.token.Tok.{Tok}
use Rattle.cil_commands.specs.declared.reader.token.Tok.TheVariants.{IntWord, MainWord, VoidWord, ReturnWord, Number, OpenParen, CloseParen, OpenBrace, CloseBrace, Semicolon, Plus, Minus}
use Rattle.cil_commands.specs.declared.reader.automaton.Place.{Place}
use Rattle.cil_commands.specs.declared.reader.automaton.Place.TheVariants as places
use Rattle.cil_commands.specs.declared.reader.automaton.Context.{Context}
use Rattle.cil_commands.specs.declared.reader.automaton.Context.TheVariants as contexts
use Rattle.cil_commands.specs.declared.reader.automaton.State.{State}
use Rattle.cil_commands.specs.declared.reader.automaton.State.TheVariants as states
use Rattle.c_meaning.specs.Reading.{Terminal}
use Rattle.c_meaning.specs.Reading as reading
use Rattle.c_meaning.specs.View.{expression_of}

abbrev pub terminal_of : Tok → Terminal
terminal_of IntWord = reading.IntWord
terminal_of MainWord = reading.MainWord
terminal_of VoidWord = reading.VoidWord
terminal_of ReturnWord = reading.ReturnWord
terminal_of (Number value) = reading.Number value
terminal_of OpenParen = reading.OpenParen
terminal_of CloseParen = reading.CloseParen
terminal_of OpenBrace = reading.OpenBrace
terminal_of CloseBrace = reading.CloseBrace
terminal_of Semicolon = reading.Semicolon
terminal_of Plus = reading.Plus
terminal_of Minus = reading.Minus

abbrev pub place_of : Place → reading.Place
place_of places.Specifier = reading.AtType
place_of places.Name = reading.AtName
place_of places.List = reading.AtList
place_of places.Parameter = reading.AtVoid
place_of places.ListEnd = reading.AtListEnd
place_of places.Body = reading.AtBody
place_of places.Statement = reading.AtReturn

abbrev pub context_of : Context → reading.Context
context_of contexts.Beginning = reading.Beginning
context_of (contexts.Behind op left height) = reading.Behind op (expression_of left) height

abbrev pub state_of : State → reading.State
state_of (states.Front place) = reading.Front (place_of place)
state_of (states.Operand context) = reading.Operand (context_of context)
state_of (states.Whole e height) = reading.Whole (expression_of e) height
state_of (states.Returned e) = reading.Returned (expression_of e)
state_of (states.Done e) = reading.Done (expression_of e)

-- the vector's last element is the innermost
abbrev pub stack_of : List Context → List reading.Context
stack_of below = reverse (map context_of below)
