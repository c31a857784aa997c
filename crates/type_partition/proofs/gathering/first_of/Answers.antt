use Rattle.type_partition.proofs.FoundLaws.{new_keys, each_new, there_new, count_new, there_old, once_new, grown_new}
use Rattle.type_partition.proofs.gathering.first_of.Goals as goal

pub returns-then-new-clause-there : goal.returns-then-new-clause-there
returns-then-new-clause-there c = there_new c.args.found.now.numbers.keys c.insert_full.new.self.keys c.args.found.now.things.items c.push.new.self.items c.args.number c.args.x c.requires.count (new_keys c.args.found.now.numbers.keys c.insert_full.new.self.keys c.args.number c.in_ok-index.new c.in_ok-index.ensures.keys c.in_ok-index.ensures.added c.if-new.true) (c.in_ok-push.ensures.items)

pub returns-then-new-clause-each : goal.returns-then-new-clause-each
returns-then-new-clause-each c = each_new c.args.found.now.numbers.keys c.insert_full.new.self.keys c.args.found.now.things.items c.push.new.self.items c.args.number c.args.x c.requires.count (new_keys c.args.found.now.numbers.keys c.insert_full.new.self.keys c.args.number c.in_ok-index.new c.in_ok-index.ensures.keys c.in_ok-index.ensures.added c.if-new.true) (c.in_ok-push.ensures.items)

pub returns-clause-there : goal.returns-clause-there
returns-clause-there c = there_old c.at.result c.insert_full.new.self.keys c.deref.result.now c.args.found.now.things.items c.args.number c.in_ok-index.index c.in_ok-narrow.field-0 c.deref.ensures.value c.in_ok-narrow.ensures.is c.in_ok-index.ensures.stored c.at.ensures.within c.at.ensures.is

pub returns-then-new-clause-found : goal.returns-then-new-clause-found
returns-then-new-clause-found c = record {
  once = once_new c.args.found.now.numbers.keys c.insert_full.new.self.keys c.args.number c.in_ok-index.ensures.keys c.requires.once;
  count = count_new c.args.found.now.numbers.keys c.insert_full.new.self.keys c.args.found.now.things.items c.push.new.self.items c.args.number c.args.x c.requires.count (new_keys c.args.found.now.numbers.keys c.insert_full.new.self.keys c.args.number c.in_ok-index.new c.in_ok-index.ensures.keys c.in_ok-index.ensures.added c.if-new.true) c.in_ok-push.ensures.items;
}

pub returns-then-new-clause-grown : goal.returns-then-new-clause-grown
returns-then-new-clause-grown c = (grown_new c.args.found.now.numbers.keys c.insert_full.new.self.keys c.args.number (new_keys c.args.found.now.numbers.keys c.insert_full.new.self.keys c.args.number c.in_ok-index.new c.in_ok-index.ensures.keys c.in_ok-index.ensures.added c.if-new.true), grown_new c.args.found.now.things.items c.push.new.self.items c.args.x c.in_ok-push.ensures.items)
