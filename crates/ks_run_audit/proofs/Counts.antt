-- The partition counts of a topology's topics, where each has a partition.
use Rattle.std.proofs.Common.{◌≡◌, arith}
use Rattle.std.specs.Prelude.{None}
use Rattle.ks_plan.specs.Drafts.{DraftView}
use Rattle.ks_plan.specs.Plan.{plan_of}
use Rattle.ks_plan.specs.Faults.{fault_of}
use Rattle.ks_law_inputs.specs.Records.{HavePartitions}
use Rattle.ks_def_tasks.specs.Rules.{HaveParts}
use Rattle.ks_law_settled.proofs.Parts.{have_parts as nodes_have_parts}
use Rattle.ks_job_source.proofs.Counts.{counts_length, plan_count}

-- ---- each node has a partition
pub nodes_ready : (d : DraftView) → fault_of d ≡ None → HavePartitions d.topics → HaveParts (plan_of d)
nodes_ready d fine have = nodes_have_parts d (λ t lt. (plan_count d t fine have (omega (arith, lt, counts_length d))).some) fine
