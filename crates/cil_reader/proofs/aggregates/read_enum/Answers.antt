use Rattle.std.proofs.Common.{◌≡◌, [], Some, Err, length, rules}
use Rattle.cil_base.specs.declared.kinds.IntKind.TheVariants.{Int as int}
use Rattle.type_graph.specs.Shapes.{IntType}
use Rattle.cil_scan.specs.Said.{all_lines}
use Rattle.cil_declarators.specs.Fresh.{with_new}
use Rattle.cil_reader.specs.Settings.{env_in}
use Rattle.cil_reader.specs.Members.{members_in, enumerators_from}
use Rattle.cil_reader.specs.Aggregates.{aggregates_in, completed, one_enum}
use Rattle.cil_reader.proofs.FunctionLaws.{fails_by}
use Rattle.cil_reader.proofs.AggregateLaws.{never, enum_fails, enum_twice, enum_refused, enum_gives, enum_holds}
use Rattle.cil_reader.proofs.AddedMembers.{enum_added}
use Rattle.cil_reader.proofs.ReadLaws.{read_both}
use Rattle.cil_reader.proofs.aggregates.read_enum.Goals as goal

pub returns-in_err-int-clause-gives : goal.returns-in_err-int-clause-gives
returns-in_err-int-clause-gives c =
    let whole = one_enum (aggregates_in c.args.r.now.graph c.args.pool.now) c.args.tag.now (all_lines c.args.lines.now) in
    let e = c.in_err-int.field-0.0 in
    let stops = fails_by e (Some (IntType int)) whole (λ none. never (IntType int) whole none) c.in_err-int.ensures.gives in
    let err : c.from_residual.result ≡ Err e = search rules in
    rw err stops

pub returns-in_err-members-clause-gives : goal.returns-in_err-members-clause-gives
returns-in_err-members-clause-gives c =
    let xs = aggregates_in c.args.r.now.graph c.args.pool.now in
    let lines = all_lines c.args.lines.now in
    let tag = c.args.tag.now in
    let e = c.in_err-members.field-0.0 in
    let fails = c.in_err-members.ensures.gives in
    let stops = fails_by e (enumerators_from [] lines) (one_enum xs tag lines) (λ none. enum_fails xs tag lines none) fails in
    let err : c.from_residual-in_err-members.result ≡ Err e = search rules in
    rw err stops

pub returns-in_err-a-clause-gives : goal.returns-in_err-a-clause-gives
returns-in_err-a-clause-gives c =
    let s = c.args.r.now in
    let t = c.int_type.new.self in
    let names = c.args.pool.now in
    let tag = c.args.tag.now in
    let lines = all_lines c.args.lines.now in
    let ms = members_in t.graph.nodes c.read_enumerators.new.pool c.in_ok-members.members.items in
    let e = c.in_err-a.field-0.0 in
    let refused = enum_twice s t names (length s.graph.aggs) tag ms lines (all_lines c.in_ok-members.rest.now) c.requires.holds
    c.int_type.ensures.on.env c.in_ok-members.ensures.gives in
    let whole = one_enum (aggregates_in s.graph names) tag lines in
    let stops = fails_by e (with_new (env_in t).tags tag) whole refused c.in_err-a.ensures.gives in
    let err : c.from_residual-in_err-a.result ≡ Err e = search rules in
    rw err stops

pub returns-in_err-complete-clause-gives : goal.returns-in_err-complete-clause-gives
returns-in_err-complete-clause-gives c =
    let s = c.args.r.now in
    let u = c.add_aggregate.new.self in
    let names = c.args.pool.now in
    let tag = c.args.tag.now in
    let lines = all_lines c.args.lines.now in
    let on = c.int_type.ensures.on in
    let read = c.in_ok-members.ensures in
    let added = c.in_ok-a.ensures in
    let a = c.in_ok-a.a in
    let ms = c.in_ok-members.members.items in
    let e = c.in_err-complete.field-0.0 in
    let whole = one_enum (aggregates_in s.graph names) tag lines in
    let refused = enum_refused s c.int_type.new.self u names c.read_enumerators.new.pool c.add_aggregate.new.pool (length s.graph.aggs)
    a ms tag lines (all_lines c.in_ok-members.rest.now) c.requires.holds on.grows on.keeps
    c.read_enumerators.ensures.pool read.gives read.known c.add_aggregate.ensures.pool added.adds added.number in
    let stops = fails_by e (completed u.graph a ms) whole refused c.in_err-complete.ensures.gives in
    let err : c.from_residual-in_err-complete.result ≡ Err e = search rules in
    rw err stops

pub returns-clause-gives : goal.returns-clause-gives
returns-clause-gives c =
    let s = c.args.r.now in
    let on = c.int_type.ensures.on in
    let read = c.in_ok-members.ensures in
    let added = c.in_ok-a.ensures in
    enum_gives s c.int_type.new.self c.add_aggregate.new.self c.complete.new.self
    c.args.pool.now c.read_enumerators.new.pool c.add_aggregate.new.pool (length s.graph.aggs)
    c.in_ok-a.a c.in_ok-members.members.items c.args.tag.now (all_lines c.args.lines.now) (all_lines c.in_ok-members.rest.now)
    c.requires.holds on.grows on.keeps on.env c.read_enumerators.ensures.pool read.gives read.known
    c.add_aggregate.ensures.pool added.adds added.gives added.number c.in_ok-complete.ensures.gives

pub returns-clause-read : goal.returns-clause-read
returns-clause-read c =
    let s = c.args.r.now in
    let t = c.int_type.new.self in
    let u = c.add_aggregate.new.self in
    let v = c.complete.new.self in
    let names = c.args.pool.now in
    let later = c.read_enumerators.new.pool in
    let last = c.add_aggregate.new.pool in
    let on = c.int_type.ensures.on in
    let read = c.in_ok-members.ensures in
    let added = c.in_ok-a.ensures in
    let whole = c.in_ok-complete.ensures in
    let a = c.in_ok-a.a in
    let ms = c.in_ok-members.members.items in
    let tag = c.args.tag.now in
    let holds = enum_holds s t u v names later last a ms c.new-names.result tag c.requires.holds on.grows on.keeps on.env
    c.read_enumerators.ensures.pool read.known c.add_aggregate.ensures.pool added.adds added.gives added.members added.number
    c.new-names.ensures.numbering whole.gives c.complete.ensures.grows whole.env in
    let adds = enum_added s t u v names later last (length s.graph.aggs) c.in_ok-int.int a ms tag
    (all_lines c.args.lines.now) (all_lines c.in_ok-members.rest.now) c.requires.holds on.grows on.keeps
    c.read_enumerators.ensures.pool read.gives read.known c.add_aggregate.ensures.pool added.adds added.number whole.gives
    c.in_ok-int.ensures.gives c.in_ok-int.ensures.adds in
    read_both s v names last _ holds adds
