use Rattle.std.proofs.Common.{◌≡◌, Some, None, map, refl}
use Rattle.ks_row.specs.Fields.{member_seen}
use Rattle.ks_job_record.specs.PlainRows.{TakesMember}
use Rattle.ks_job_record.specs.PlainGrammar.{one_at}
use Rattle.ks_job_record.proofs.PlainRows.{none_taken, one_more_taken, last_taken}
use Rattle.ks_job_record.proofs.PlainGrammar.{no_member, last_put, no_comma, next_put, too_many}
use Rattle.ks_job_record.proofs.plain.take_members.Goals as goal

pub loop-init : goal.loop-init
loop-init c = record { members = none_taken (map member_seen c.args.fields.now.items) c.args.bytes.now; left = refl }

pub loop-preserved : goal.loop-preserved
loop-preserved c =
    let one : TakesMember (map member_seen c.loop.fields.items) c.loop.rest.now (map member_seen c.take_member.new.fields.items) c.in-Some.more.now = rw c.in-Some.is at c.in_ok-more.ensures.sound in
    let put : Some (map member_seen c.take_member.new.fields.items, c.in-Some.more.now) ≡ one_at (map member_seen c.loop.fields.items) c.loop.rest.now = rw c.in-Some.is at c.in_ok-more.ensures.exact in
    record {
      members = one_more_taken (map member_seen c.args.fields.now.items) c.args.bytes.now (map member_seen c.loop.fields.items) c.loop.rest.now (map member_seen c.take_member.new.fields.items) c.in-Some.more.now c.in-Some-behind-2.next.now c.loop.invariant.members one c.in-Some-behind-2.ensures.sound;
      left = next_put c.loop.counter (map member_seen c.loop.fields.items) (map member_seen c.take_member.new.fields.items) c.loop.rest.now c.in-Some.more.now c.in-Some-behind-2.next.now _ c.loop-test.true put c.in_default-behind.ensures.exact c.in-Some-behind-2.ensures.exact c.loop.invariant.left;
    }

pub returns-in_default-clause-exact : goal.returns-in_default-clause-exact
returns-in_default-clause-exact c =
    let none : None ≡ one_at (map member_seen c.loop.fields.items) c.loop.rest.now = rw c.in_default.is at c.in_ok-more.ensures.exact in
    no_member c.loop.counter (map member_seen c.loop.fields.items) c.loop.rest.now _ c.loop-test.true none c.loop.invariant.left

pub returns-in-Some-behind-clause-sound : goal.returns-in-Some-behind-clause-sound
returns-in-Some-behind-clause-sound c =
    let one : TakesMember (map member_seen c.loop.fields.items) c.loop.rest.now (map member_seen c.take_member.new.fields.items) c.in-Some.more.now = rw c.in-Some.is at c.in_ok-more.ensures.sound in
    last_taken (map member_seen c.args.fields.now.items) c.args.bytes.now (map member_seen c.loop.fields.items) c.loop.rest.now (map member_seen c.take_member.new.fields.items) c.in-Some.more.now c.in-Some-behind.end.now c.loop.invariant.members one c.in-Some-behind.ensures.sound

pub returns-in-Some-behind-clause-exact : goal.returns-in-Some-behind-clause-exact
returns-in-Some-behind-clause-exact c =
    let put : Some (map member_seen c.take_member.new.fields.items, c.in-Some.more.now) ≡ one_at (map member_seen c.loop.fields.items) c.loop.rest.now = rw c.in-Some.is at c.in_ok-more.ensures.exact in
    last_put c.loop.counter (map member_seen c.loop.fields.items) (map member_seen c.take_member.new.fields.items) c.loop.rest.now c.in-Some.more.now c.in-Some-behind.end.now _ c.loop-test.true put c.in-Some-behind.ensures.exact c.loop.invariant.left

pub returns-in_default-behind-2-clause-exact : goal.returns-in_default-behind-2-clause-exact
returns-in_default-behind-2-clause-exact c =
    let put : Some (map member_seen c.take_member.new.fields.items, c.in-Some.more.now) ≡ one_at (map member_seen c.loop.fields.items) c.loop.rest.now = rw c.in-Some.is at c.in_ok-more.ensures.exact in
    no_comma c.loop.counter (map member_seen c.loop.fields.items) (map member_seen c.take_member.new.fields.items) c.loop.rest.now c.in-Some.more.now _ c.loop-test.true put c.in_default-behind.ensures.exact c.in_default-behind-2.ensures.exact c.loop.invariant.left

pub returns-clause-exact : goal.returns-clause-exact
returns-clause-exact c = too_many c.loop.counter (map member_seen c.loop.fields.items) c.loop.rest.now _ c.loop-test.false c.loop.invariant.left
