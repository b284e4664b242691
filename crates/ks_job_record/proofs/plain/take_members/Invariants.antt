use Rattle.std.proofs.Common.{◌≡◌, ◌-◌, map}
use Rattle.ks_row.specs.Fields.{member_seen}
use Rattle.ks_job_record.specs.PlainRows.{TakesMembers}
use Rattle.ks_job_record.specs.PlainGrammar.{members_at}
use Rattle.ks_job_record.proofs.plain.take_members.Given as goal

abbrev pub invariant-loop : goal.invariant-loop
invariant-loop l = record {
  members : TakesMembers (map member_seen l.fn.fields.items) l.bytes (map member_seen l.fields.items) l.rest;
  left : members_at (16 - l.counter) (map member_seen l.fields.items) l.rest ≡ members_at 16 (map member_seen l.fn.fields.items) l.bytes;
}
