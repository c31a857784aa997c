use Rattle.std.proofs.Common.{refl, sym, ap, ◌∙◌}
use Rattle.c_tree.specs.View.{specifiers_of}
use Rattle.c_tree.proofs.Views.{at_member}
use Rattle.c_tree.specs.Places.{first_specifiers, first_member}
use Rattle.c_places.proofs.expressions.member_at.Goals as goal

pub returns-in-Members : goal.returns-in-Members
returns-in-Members c =
    c.specifiers_at.ensures ∙ ap (λ xs. first_specifiers (specifiers_of xs)) c.deref.ensures.value
    ∙ sym (ap first_member (at_member c.args.m.now c.in-Members.ss c.in-Members.field-1 c.in-Members.ss.items c.in-Members.field-1.items c.in-Members.is refl refl))
