use Rattle.std.proofs.Common.{refl, arith}
use Rattle.std.proofs.lemmas.Option.{slice_get_within}
use Rattle.std.specs.Option.{option_map}
use Rattle.layout_lp64.specs.Placements.{seen}
use Rattle.type_graph.proofs.LayoutLaws.{few_completed}
use Rattle.layout_lp64.proofs.TableLaws.{completed_there, are_aligned, layout_added}
use Rattle.layout_lp64.proofs.layouts.Layouts.add_layout.Goals as goal

pub aggregate-requires-clause-there : goal.aggregate-requires-clause-there
aggregate-requires-clause-there c = completed_there c.args.g.now c.requires.arena c.args.self.now.completed c.args.a c.requires.next

pub aggregate-requires-clause-aligned : goal.aggregate-requires-clause-aligned
aggregate-requires-clause-aligned c = are_aligned c.args.self.now c.args.g.now c.requires.tables

pub set-requires : goal.set-requires
set-requires c = omega (arith, completed_there c.args.g.now c.requires.arena c.args.self.now.completed c.args.a c.requires.next, c.requires.tables.aggs_count)

pub overflow_add-self : goal.overflow_add-self
overflow_add-self c = omega (arith, slice_get_within c.args.g.now.completed c.args.self.now.completed c.args.a c.requires.next, few_completed c.args.g.now c.requires.arena)

pub returns : goal.returns
returns c = layout_added c.args.self.now _ c.args.g.now c.args.a (option_map seen c.in_ok-layout.layout) c.requires.arena c.requires.tables c.requires.next (completed_there c.args.g.now c.requires.arena c.args.self.now.completed c.args.a c.requires.next) c.in_ok-layout.ensures refl c.in_ok-set.ensures.ok refl refl
