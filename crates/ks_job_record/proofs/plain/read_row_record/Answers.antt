use Rattle.std.proofs.Common.{◌≡◌, [], Some, map, sym, subst, rules}
use Rattle.std.specs.List.{All}
use Rattle.std.proofs.lemmas.Option.{IfSome_then}
use Rattle.std.proofs.lemmas.Result.{IfOk-weaker}
use Rattle.ks_row.specs.Rows.{row_of}
use Rattle.ks_row.specs.Fields.{member_seen}
use Rattle.ks_row.specs.Spelling.{FitsMember}
use Rattle.ks_job_record.specs.PlainRows.{ClosesRow}
use Rattle.ks_job_record.proofs.PlainRecords.{row_fits, row_says}
use Rattle.ks_job_record.proofs.plain.read_row_record.Goals as goal

pub from_refs-requires : goal.from_refs-requires
from_refs-requires c =
    let closes : ClosesRow [] c.in-Some.members.now (map member_seen c.take_members.new.fields.items) c.in-Some-2.rest.now = search rules in
    subst (λ fs. All FitsMember (map member_seen fs)) (sym c.as_slice.ensures.value) (row_fits c.in-Some.members.now (map member_seen c.take_members.new.fields.items) c.in-Some-2.rest.now closes)

pub returns-clause-sound : goal.returns-clause-sound
returns-clause-sound c =
    let closes : ClosesRow [] c.in-Some.members.now (map member_seen c.take_members.new.fields.items) c.in-Some-2.rest.now = search rules in
    let is : Some c.in-Some-3.row ≡ row_of (map member_seen c.take_members.new.fields.items) = search rules in
    IfOk-weaker c.end_record.result _ _
    (λ o h. IfSome_then o h (λ i ends. row_says c.args.topics.now c.args.line.now c.args.front.topic c.args.front.key.now c.args.front.rest.now c.in-Some.members.now (map member_seen c.take_members.new.fields.items) c.in-Some-3.row
    c.into_bytes.result c.in-Some-2.rest.now i c.requires c.in-Some.ensures.sound closes is c.into_bytes.ensures.bytes ends))
    c.end_record.ensures.sound
