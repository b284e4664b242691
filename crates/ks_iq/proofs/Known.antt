-- The task that has an ask's key is one of the topology's.
use Rattle.std.proofs.Common.{◌≡◌, ℕ, ◌<◌, ◌≤◌, Bool, true, false, cond, List, None, length, refl, ap, ◌∙◌, arith}
use Rattle.std.specs.Prelude.{◌==◌, bit_and}
use Rattle.std.proofs.Math.Nat.{mod-lt}
use Rattle.std.proofs.lemmas.Bool.{eqb-true}
use Rattle.ks_expr.specs.Keys.{spread_part}
use Rattle.ks_hash.specs.Partition.{part_of_key}
use Rattle.ks_hash.specs.Murmur2.{murmur2_of}
use Rattle.ks_plan.specs.Drafts.{DraftView}
use Rattle.ks_plan.specs.Plan.{plan_of, is_windowed}
use Rattle.ks_plan.specs.Layout.{kind_at, parts_of, before_of_topic}
use Rattle.ks_plan.specs.declared.node.Topic.TheVariants.{Changelog}
use Rattle.ks_plan.specs.Faults.{fault_of}
use Rattle.ks_history.specs.State.{Setup, has_task}
use Rattle.ks_def_tasks.specs.Rules.{HaveParts}
use Rattle.ks_task_processing.specs.Steps.{part_in}
use Rattle.ks_law_topology.proofs.WellFormed.{well_formed_fits}
use Rattle.ks_law_settled.proofs.Tasks.{has_node_task}
use Rattle.ks_settle.proofs.Named.{kinds_all}
use Rattle.ks_iq.specs.declared.ask.Ask.{Ask}
use Rattle.ks_iq.specs.Asks.{node_of, task_of, ask_fault}
use Rattle.ks_iq.specs.Reads.{ReadsTopology}
use Rattle.ks_iq.proofs.Answering.{kept}

-- a key has one of some partitions
part_low : (k : List ℕ) (n : ℕ) → 1 ≤ n → part_in k n < n
part_low k n some = by (n == 0) refl
  where
    by : (b : Bool) → (n == 0) ≡ b → cond b 0 (part_of_key k n) < n
    by true e = let none : n ≡ 0 = eqb-true n 0 e in absurd (omega (arith, none, some))
    by false e = mod-lt (bit_and (murmur2_of k) 0x7fffffff) (omega (arith, some))

pub known_task : (d : DraftView) (setup : Setup) (a : Ask) → fault_of d ≡ None → HaveParts (plan_of d) → ReadsTopology d setup → ask_fault d a ≡ None → has_task (task_of d a) setup.tasks ≡ true
known_task d setup a well have top fine =
    let p = plan_of d in
    let n = node_of d a in
    let k = kept d n (is_windowed (kind_at p n)) a.start fine in
    let within : n < length p.kinds = omega (arith, k.0, kinds_all d) in
    let key = spread_part (before_of_topic p (Changelog n)) a.key in
    ap (has_task (task_of d a)) top.tasks ∙ has_node_task p (well_formed_fits d well) n (part_in key (parts_of p n)) within (part_low key (parts_of p n) (have n within))
