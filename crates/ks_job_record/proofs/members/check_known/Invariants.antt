use Rattle.std.proofs.Common.{◌≡◌}
use Rattle.serde_json.specs.View.{members_view}
use Rattle.ks_job_record.specs.Members.{all_known}
use Rattle.ks_job_record.proofs.members.check_known.Given as goal

abbrev pub invariant-loop-name : goal.invariant-loop-name
invariant-loop-name l = all_known l.form (members_view l.name-iterator) ≡ all_known l.form (members_view l.map.entries)
