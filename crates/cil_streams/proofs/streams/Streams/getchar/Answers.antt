use Rattle.cil_streams.proofs.Fetched.{taken_at_hand}
use Rattle.cil_streams.proofs.streams.Streams.getchar.Goals as goal

pub returns-then-not-is_used_up-clause-fetches : goal.returns-then-not-is_used_up-clause-fetches
returns-then-not-is_used_up-clause-fetches g c =
    rw (← c.self.view_is) (taken_at_hand c.self.inside.io c.self.inside.ahead c.next_character.result c.next_character.new.self _ _ (λ both. let no = c.if-not-is_used_up.ensures.1 both in cc) c.next_character.ensures.value c.next_character.ensures.unread c.next_character.ensures.ended)
