-- Device: what a line of the code says.
use Rattle.std.specs.Prelude.{◌<◌, ◌^◌}
use Rattle.c_lexer.specs.declared.lines.Directive.{Directive}
use Rattle.c_lexer.specs.declared.lines.Directive.TheVariants.{Marker as AMarker, Pragma as APragma, Pack as APack, Bad as ABad}
use Rattle.c_lexer.specs.Lines.{Line, Marker, Pragma, Pack, Bad}

abbrev pub line_view : Directive → Line
line_view (AMarker line file) = Marker line file.items
line_view APragma = Pragma
line_view APack = Pack
line_view ABad = Bad

-- a marker's line fits an int
abbrev pub HasLine : Directive → Type 0
HasLine (AMarker line file) = line < 2 ^ 31
HasLine APragma = Unit {0}
HasLine APack = Unit {0}
HasLine ABad = Unit {0}
