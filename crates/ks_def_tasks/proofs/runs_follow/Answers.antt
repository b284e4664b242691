use Rattle.std.specs.Prelude.{Some}
use Rattle.ks_plan.specs.declared.node.Topic.TheVariants.{Changelog}
use Rattle.ks_plan.specs.Layout.{sub_of}
use Rattle.ks_def_runs.proofs.Runs.{Follows-run}
use Rattle.ks_def_tasks.specs.Tasks.{machine}
use Rattle.ks_def_tasks.proofs.Names.{names}
use Rattle.ks_def_tasks.proofs.runs_follow.Goals as goal

pub returns-clause-names : goal.returns-clause-names
returns-clause-names c rules p = names rules p

pub returns-clause-taken : goal.returns-clause-taken
returns-clause-taken c rules p inputs schedule = Follows-run (machine rules p) (names rules p) inputs schedule

pub returns-clause-pasts : goal.returns-clause-pasts
returns-clause-pasts c rules p inputs schedule n part =
    (Follows-run (machine rules p) (names rules p) inputs schedule).given (Some (record { sub = sub_of p n; part = part })) (record { topic = Changelog n; part = part })
