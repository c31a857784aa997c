-- Device: the refusal of a link, by the places of the name and of its two declarations.
use Rattle.std.specs.Prelude.{◌≡◌, List}
use Rattle.cil_base.specs.declared.faults.Stop.{Stop}
use Rattle.cil_base.specs.declared.faults.Stop.TheVariants as cause
use Rattle.type_iso.specs.declared.merging.ClassStop.{ClassStop}
use Rattle.type_iso.specs.declared.merging.ClassStop.TheVariants as stop
use Rattle.link_names.specs.Linking.{Linked}
use Rattle.cil_merge.specs.Merging.{IsLinkRefusal, IfRefused}

-- why there are no classes is why the units are refused
abbrev pub IsLinkStop : List Linked → ClassStop → Stop → Type 0
IsLinkStop ls (stop.Clash group earlier later left right) s = IfRefused s (IsLinkRefusal ls group earlier later)
IsLinkStop ls stop.Memory s = s ≡ cause.Memory
