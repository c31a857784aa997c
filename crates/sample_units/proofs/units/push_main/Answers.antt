use Rattle.std.proofs.Common.{◌≡◌, ◌++◌, ◌∙◌, ap, map}
use Rattle.std.specs.List.{concat, range_with_len}
use Rattle.sample_units.specs.Units.{declaration_line, call_line, main_begin, main_end}
use Rattle.sample_units.proofs.Lines.{four_behind}
use Rattle.sample_units.proofs.units.push_main.Goals as goal

pub returns : goal.returns
returns c =
    four_behind c.args.out.now.items _ _ _ c.extend_from_slice-2.new.self.items (concat (map declaration_line (range_with_len 0 c.args.units))) main_begin (concat (map call_line (range_with_len 0 c.args.units))) main_end
    c.in_ok-push_declarations.ensures (c.in_ok-extend_from_slice.ensures.items ∙ ap (λ t. c.push_declarations.new.out.items ++ t) c.main_begin.ensures) c.in_ok-push_calls.ensures (c.in_ok-extend_from_slice-2.ensures.items ∙ ap (λ t. c.push_calls.new.out.items ++ t) c.main_end.ensures)
