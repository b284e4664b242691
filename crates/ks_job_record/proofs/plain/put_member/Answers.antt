use Rattle.std.proofs.Common.{◌≡◌, Some, map, length, sym, ap, ◌∙◌}
use Rattle.ks_row.specs.Fields.{field_seen, member_seen}
use Rattle.ks_job_record.specs.Plain.{field_of}
use Rattle.ks_job_record.specs.PlainRows.{place_among}
use Rattle.ks_job_record.proofs.PlainRows.{place_within, put_whole}
use Rattle.ks_job_record.proofs.PlainGrammar.{put_found}
use Rattle.ks_job_record.proofs.PlainPlaces.{put_seen, put_within}
use Rattle.ks_job_record.proofs.plain.put_member.Goals as goal

pub insert-requires : goal.insert-requires
insert-requires c =
    let found : Some c.in-Some-find_place.place ≡ place_among 0 c.args.name.now (map member_seen c.args.fields.now.items) =
    sym c.in-Some-find_place.is ∙ rw c.as_slice.ensures.value at c.find_place.ensures in
    put_within c.args.fields.now.items c.in-Some-find_place.place _ (place_within c.args.name.now (map member_seen c.args.fields.now.items) c.in-Some-find_place.place found)
    (sym (ap length c.as_slice.ensures.value) ∙ c.as_slice.ensures.len)

pub returns-clause-sound : goal.returns-clause-sound
returns-clause-sound c t =
    let found : Some c.in-Some-find_place.place ≡ place_among 0 c.args.name.now (map member_seen c.args.fields.now.items) =
    sym c.in-Some-find_place.is ∙ rw c.as_slice.ensures.value at c.find_place.ensures in
    put_whole c.args.name.now (field_of c.args.plain) (field_seen c.in-Some.field) (map member_seen c.args.fields.now.items) (map member_seen c.insert.new.self.items) c.in-Some-find_place.place
    (sym c.is_name.ensures ∙ c.if-not-is_name.false) c.in-Some.ensures.sound found
    (ap (map member_seen) c.in_ok-insert.ensures.items ∙ put_seen c.args.fields.now.items c.in-Some-find_place.place (c.args.name, c.in-Some.field))

pub returns-clause-exact : goal.returns-clause-exact
returns-clause-exact c =
    let found : Some c.in-Some-find_place.place ≡ place_among 0 c.args.name.now (map member_seen c.args.fields.now.items) =
    sym c.in-Some-find_place.is ∙ rw c.as_slice.ensures.value at c.find_place.ensures in
    put_found c.args.name.now (field_of c.args.plain) (field_seen c.in-Some.field) (map member_seen c.args.fields.now.items) (map member_seen c.insert.new.self.items) c.in-Some-find_place.place
    (sym c.is_name.ensures ∙ c.if-not-is_name.false) c.in-Some.ensures.exact found
    (ap (map member_seen) c.in_ok-insert.ensures.items ∙ put_seen c.args.fields.now.items c.in-Some-find_place.place (c.args.name, c.in-Some.field))
