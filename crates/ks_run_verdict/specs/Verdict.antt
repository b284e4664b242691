-- The status and the text of what a settled cluster has come to.
use Rattle.std.specs.Prelude.{ℕ, List}
use Rattle.ks_run_output.specs.Texts.{settled_text, late_text}
use Rattle.ks_settle_report.specs.Joins.{join_pair}
use Rattle.ks_run_verdict.specs.declared.verdict.Verdict.{Verdict}
use Rattle.ks_run_verdict.specs.declared.verdict.Verdict.TheVariants.{Settled, Late, Collided}
use Rattle.ks_run_verdict.specs.Told.{pair_text}

abbrev pub told_as : Verdict → ℕ × List ℕ
told_as (Settled tables) = (0, settled_text tables.items)
told_as (Late late tables) = (3, late_text late tables.items)
told_as (Collided collision) = (5, pair_text (join_pair collision))
