-- Definition: why a well-formed program is not printed (own).
use Rattle.std.specs.Prelude.{◌<◌, length}
use Rattle.cil_base.specs.Limits.{text_bytes}
use Rattle.cil_tree.specs.Tree.{Program}
use Rattle.cil_tree.specs.Text.{Text}
use Rattle.cil_printer.specs.declared.printing.PrintStop.{PrintStop}
use Rattle.cil_printer.specs.declared.printing.PrintStop.TheVariants.{TooLong, Memory}

-- its text has more bytes than a CIL text has; want of memory asks nothing
abbrev pub StopsAt : Program → PrintStop → Type 0
StopsAt p TooLong = text_bytes < length (Text p)
StopsAt p Memory = Unit {0}
