-- The zombie of `ks_law_exactly_once`: worker 0 has built a transaction when worker 1 comes, is fenced, and can't commit it.
use Rattle.std.specs.Prelude.{List, [], ◌∷◌, take}
use Rattle.ks_record.specs.Records.{Record as Rec}
use Rattle.ks_history.specs.declared.journal.Entry.{Entry}
use Rattle.ks_law_exactly_once.specs.Example.{the_task, changelog, zombie}
use Rattle.ks_law_restore.specs.Views.{pending_work}
use Rattle.ks_law_restore.specs.Example.{work}
use Rattle.ks_law_commit.specs.Building.{Contents, no_contents, with_part, with_records, with_pending_offsets}

-- the record is produced, and the task is active at worker 0
abbrev pub assigned : Rec → List Entry
assigned rec = take 4 (zombie rec)

-- it has sent the task's work, and worker 1 has begun an epoch of its own
abbrev pub built : Rec → List Entry
built rec = take 8 (zombie rec)

-- worker 1 has joined, and worker 0 is expired
abbrev pub expired : Rec → List Entry
expired rec = take 11 (zombie rec)

abbrev pub contents : Rec → Contents
contents rec = with_pending_offsets (pending_work (work rec)) (with_records the_task changelog (rec ∷ []) (with_part changelog no_contents))
