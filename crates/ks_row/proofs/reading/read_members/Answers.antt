use Rattle.std.proofs.Common.{sym}
use Rattle.ks_row.specs.Reading.{members_at}
use Rattle.ks_row.proofs.Loop.{goes_on, ends, is_done}
use Rattle.ks_row.proofs.reading.read_members.Goals as goal

pub returns-in_default : goal.returns-in_default
returns-in_default c =
    let e = rw c.in_default.is at c.in_ok-member.ensures in
    ends c.loop.members.items c.args.count c.loop.counter c.loop.rest.now (members_at c.args.count c.args.bytes.now) c.loop-test.true (sym e) c.loop.invariant

pub loop-preserved : goal.loop-preserved
loop-preserved c =
    let e = rw c.in-Some.is at c.in_ok-member.ensures in
    rw c.in_ok-push.ensures.items (goes_on c.loop.members.items c.args.count c.loop.counter c.loop.rest.now c.in-Some.member c.in-Some.after.now (members_at c.args.count c.args.bytes.now) c.loop-test.true (sym e) c.loop.invariant)

pub returns : goal.returns
returns c = is_done c.loop.members.items c.args.count c.loop.counter c.loop.rest.now (members_at c.args.count c.args.bytes.now) c.loop-test.false c.loop.invariant
