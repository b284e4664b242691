use Rattle.std.proofs.Common.{◌≡◌, []}
use Rattle.serde_json.specs.View.{members_view}
use Rattle.ks_job_record.specs.Record.{fields_from}
use Rattle.ks_job_record.proofs.record.read_fields.Given as goal

abbrev pub invariant-loop-name : goal.invariant-loop-name
invariant-loop-name l = fields_from l.fields.items (members_view l.name-iterator) ≡ fields_from [] (members_view l.map.entries)
