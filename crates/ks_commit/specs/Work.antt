-- A task's work, as its laws speak of it.
use Rattle.ks_law_restore.specs.Views.{WorkView}
use Rattle.ks_commit.specs.declared.work.Frozen.{Frozen}

abbrev pub work_view : Frozen → WorkView
work_view f = record { task = f.task; outputs = f.outputs; offsets = f.offsets; order = f.order; late = f.late }
