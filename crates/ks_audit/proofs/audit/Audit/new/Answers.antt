use Rattle.std.proofs.Common.{◌≡◌, ap}
use Rattle.ks_topo.specs.Topologies.{plan_in}
use Rattle.ks_law_topology.specs.Work.{work_of}
use Rattle.ks_def_tasks.specs.Rules.{rules_of}
use Rattle.ks_task.specs.Placing.{placed_by}
use Rattle.ks_audit.proofs.Beginning.{first_audit}
use Rattle.ks_audit.proofs.audit.Audit.new.Goals as goal

pub begin-requires-clause-plans : goal.begin-requires-clause-plans
begin-requires-clause-plans g c = ap (λ t. work_of (rules_of g.H.Hash128.hash_of) (plan_in t)) c.new-work.ensures.topology

pub begin-requires-clause-same : goal.begin-requires-clause-same
begin-requires-clause-same g c = ap (λ t. work_of (rules_of g.H.Hash128.hash_of) (plan_in t)) c.new-same.ensures.topology

pub begin-requires-clause-all_good : goal.begin-requires-clause-all_good
begin-requires-clause-all_good g c = λ members held ends a. ap (λ p. placed_by (plan_in c.new-work.result.topology.now) p members held ends a) c.new-work.ensures.placing

pub returns-clause-kept : goal.returns-clause-kept
returns-clause-kept g c = first_audit g.H.Hash128.hash_of _ c.in_ok-played.ensures.played c.in_ok-played.ensures.empty
