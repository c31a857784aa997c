use Rattle.std.proofs.Common.{◌≡◌, [], Err, take, rules}
use Rattle.cil_text.specs.ReadExps.{bases}
use Rattle.cil_text.specs.ReadAggregates.{read_member}
use Rattle.cil_scan.specs.Said.{all_lines}
use Rattle.cil_reader.specs.Settings.{env_in}
use Rattle.cil_reader.specs.Members.{members_from}
use Rattle.cil_reader.specs.Aggregates.{aggregates_in, completed, tag_at, one_complete}
use Rattle.cil_reader.proofs.FunctionLaws.{fails_by}
use Rattle.cil_reader.proofs.AggregateLaws.{complete_gives, complete_refused, complete_fails, complete_holds, complete_rest, complete_tags, complete_count}
use Rattle.cil_reader.proofs.AddedMembers.{complete_added}
use Rattle.cil_reader.proofs.ReadLaws.{read_both, others_by}
use Rattle.cil_reader.proofs.aggregates.read_complete.Goals as goal

pub returns-in_err-fields-clause-gives : goal.returns-in_err-fields-clause-gives
returns-in_err-fields-clause-gives c =
    let of = read_member (bases (env_in c.args.r.now)) c.args.left in
    let xs = aggregates_in c.args.r.now.graph c.args.pool.now in
    let lines = all_lines c.args.lines.now in
    let a = c.args.a in
    let whole = one_complete of (take a.0 xs) (tag_at a.0 xs) lines in
    let e = c.in_err-fields.field-0.0 in
    let fails = complete_fails c.args.r.now c.args.pool.now a c.args.left lines c.requires.there c.requires.plain in
    let stops = fails_by e (members_from of [] lines) whole fails c.in_err-fields.ensures.gives in
    let err : c.from_residual.result ≡ Err e = search rules in
    rw err stops

pub returns-in_err-complete-clause-gives : goal.returns-in_err-complete-clause-gives
returns-in_err-complete-clause-gives c =
    let s = c.args.r.now in
    let t = c.read_members.new.r in
    let names = c.args.pool.now in
    let a = c.args.a in
    let of = read_member (bases (env_in s)) c.args.left in
    let xs = aggregates_in s.graph names in
    let lines = all_lines c.args.lines.now in
    let ms = c.in_ok-fields.fields.members.items in
    let on = c.read_members.ensures.on in
    let e = c.in_err-complete.field-0.0 in
    let refused = complete_refused s t names c.read_members.new.pool a ms c.args.left lines (all_lines c.in_ok-fields.rest.now)
    c.requires.holds c.requires.there c.requires.bare c.requires.plain on.grows on.keeps
    c.read_members.ensures.pool c.in_ok-fields.ensures.gives in
    let whole = one_complete of (take a.0 xs) (tag_at a.0 xs) lines in
    let stops = fails_by e (completed t.graph a ms) whole refused c.in_err-complete.ensures.gives in
    let err : c.from_residual-in_err-complete.result ≡ Err e = search rules in
    rw err stops

pub returns-clause-gives : goal.returns-clause-gives
returns-clause-gives c =
    let on = c.read_members.ensures.on in
    complete_gives c.args.r.now c.read_members.new.r c.complete.new.self c.args.pool.now c.read_members.new.pool c.args.a
    c.in_ok-fields.fields.members.items c.args.left (all_lines c.args.lines.now) (all_lines c.in_ok-fields.rest.now)
    c.requires.holds c.requires.there c.requires.bare c.requires.plain on.grows on.keeps c.read_members.ensures.pool
    c.in_ok-fields.ensures.gives c.in_ok-complete.ensures.gives

pub returns-clause-read : goal.returns-clause-read
returns-clause-read c =
    let s = c.args.r.now in
    let t = c.read_members.new.r in
    let u = c.complete.new.self in
    let names = c.args.pool.now in
    let later = c.read_members.new.pool in
    let a = c.args.a in
    let all = c.in_ok-fields.fields in
    let on = c.read_members.ensures.on in
    let pool = c.read_members.ensures.pool in
    let read = c.in_ok-fields.ensures in
    let whole = c.in_ok-complete.ensures in
    let holds = complete_holds s t u names later a all.members.items all.names
    c.requires.holds c.requires.there c.requires.bare c.requires.plain on.grows on.keeps on.env
    pool read.known whole.gives c.complete.ensures.grows whole.env in
    let adds = complete_added s t u names later a all.members.items all.names c.requires.holds c.requires.bare
    on.grows on.keeps pool read.known read.adds whole.gives in
    read_both s u names later _ holds adds

pub returns-clause-others : goal.returns-clause-others
returns-clause-others c =
    let s = c.args.r.now in
    let t = c.read_members.new.r in
    let u = c.complete.new.self in
    let names = c.args.pool.now in
    let later = c.read_members.new.pool in
    let a = c.args.a in
    let ms = c.in_ok-fields.fields.members.items in
    let on = c.read_members.ensures.on in
    let whole = c.in_ok-complete.ensures in
    let pool = c.read_members.ensures.pool in
    let rest = complete_rest s t u names later a ms c.requires.holds c.requires.bare on.grows on.keeps pool whole.gives in
    let tags = complete_tags s t u _ on.env whole.env in
    let count = complete_count s.graph t.graph u.graph a ms on.keeps whole.gives in
    others_by s u names later a.0 rest tags count
