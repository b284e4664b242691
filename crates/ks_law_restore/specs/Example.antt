-- One record is taken, and its work committed: the history of `ks_law_exactly_once`, with the task that makes it.
use Rattle.std.specs.Prelude.{ℕ, List, [], ◌∷◌, take, drop}
use Rattle.ks_record.specs.Records.{Record as Rec}
use Rattle.ks_history.specs.declared.journal.Entry.{Entry}
use Rattle.ks_history.specs.Follows.{TaskView}
use Rattle.ks_law_exactly_once.specs.Example.{setup, the_task, changelog, one_commit}
use Rattle.ks_law_restore.specs.Views.{fresh_view, take_view, WorkView}

-- the record is produced, and then all else comes
abbrev pub produced : Rec → List Entry
produced rec = take 1 (one_commit rec)

abbrev pub rest : Rec → List Entry
rest rec = drop 1 (one_commit rec)

-- the task takes the record of topic 0
abbrev pub taker : Rec → TaskView
taker rec = take_view setup.plan (fresh_view the_task) 0 0 rec

-- its work: the record for its changelog, topic 1
abbrev pub work : Rec → WorkView
work rec = record { task = the_task; outputs = (changelog, rec ∷ []) ∷ []; offsets = (0, 1) ∷ []; order = (0, 1) ∷ []; late = 0 }

-- one past the record in the changelog
abbrev pub ends : List (ℕ × ℕ)
ends = (1, 1) ∷ []
