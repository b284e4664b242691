-- What an audit keeps of the empty journal, and behind a line.
use Rattle.std.proofs.Common.{◌≡◌, ℕ, zero, suc, ◌+◌, ◌<◌, ◌||◌, Bool, true, List, [], ◌∷◌, ◌++◌, length, map, take, get_or, replicate, Option, None, refl, sym, ap, ap₂, subst, ◌∙◌, arith}
use Rattle.std.proofs.lemmas.Bool.{or_right}
use Rattle.std.proofs.lemmas.List.{take_more}
use Rattle.ks_record.specs.Parts.{same_task}
use Rattle.ks_history.proofs.Names.{same_task-refl}
use Rattle.ks_audit_commit.specs.declared.audited.AuditedTask.{AuditedTask}
use Rattle.ks_audit_commit.specs.Judging.{IsAudited, name_of}
use Rattle.ks_record.specs.declared.record.TaskId.{TaskId}
use Rattle.ks_plan.specs.declared.node.TopicInfo.{TopicInfo}
use Rattle.ks_plan.specs.declared.node.Topic.{Topic}
use Rattle.ks_plan.specs.Drafts.{DraftView}
use Rattle.ks_plan.specs.Faults.{fault_of}
use Rattle.ks_plan.specs.Infos.{topic_infos, info_of}
use Rattle.ks_plan.specs.Layout.{tasks, topics_of, parts_of_topic}
use Rattle.ks_plan.specs.Plan.{plan_of}
use Rattle.ks_topo.specs.Topologies.{draft_of, plan_in}
use Rattle.ks_def_tasks.specs.Rules.{rules_of}
use Rattle.ks_history.specs.declared.journal.Entry.{Entry}
use Rattle.ks_history.specs.Machine.{TaskPlan}
use Rattle.ks_history.specs.State.{Setup, IsSetup, has_task}
use Rattle.ks_law_topology.specs.Work.{work_of, setup_of as topology_setup}
use Rattle.ks_law_topology.proofs.Setups.{setups_are_made}
use Rattle.ks_law_settled.proofs.Once.{inputs_once}
use Rattle.ks_cluster.specs.Placed.{PlacementTest}
use Rattle.ks_cluster.specs.View.{ClusterView, setup_of, setup_from}
use Rattle.ks_audit_entry.specs.Outcomes.{FindsAllGood}
use Rattle.ks_audit_ledger.specs.Accounts.{blank}
use Rattle.ks_audit_ledger.specs.Ledgers.{IsLedger}
use Rattle.ks_audit_ledger.proofs.Keeping.{ledger_starts}
use Rattle.ks_audit.specs.declared.replay.Played.{Played}
use Rattle.ks_audit.specs.declared.audit.Audit.{Audit}
use Rattle.ks_task.specs.declared.work.TaskWork.{TaskWork}
use Rattle.ks_audit.specs.Playing.{IsPlayed, AreAudited, names_in}
use Rattle.ks_audit.specs.Entries.{IsPlayedBy}
use Rattle.ks_audit.specs.Inputs.{AreInputs}
use Rattle.ks_audit.specs.Audits.{IsAudit, PlaysLine, TakesLine, plan_by, good_by}
use Rattle.ks_audit.proofs.Records.{inputs_more}

-- ---- a topology's setup
map_map : {A B C : Type 0} (f : B → C) (g : A → B) (xs : List A) → map f (map g xs) ≡ map (λ x. f (g x)) xs
map_map f g [] = refl
map_map f g (x ∷ xs) = ap (λ l. f (g x) ∷ l) (map_map f g xs)

shown_counts : (d : DraftView) → map (λ (i : TopicInfo). i.parts) (topic_infos d) ≡ map (parts_of_topic (plan_of d)) (topics_of (plan_of d))
shown_counts d = map_map (λ (i : TopicInfo). i.parts) (info_of d) (topics_of (plan_of d))

setup_is : (hash : List ℕ → ℕ) (d : DraftView) (plan : TaskPlan) (counts : List ℕ) (ts : List TaskId) → plan ≡ work_of (rules_of hash) (plan_of d) → counts ≡ map (λ (i : TopicInfo). i.parts) (topic_infos d) → ts ≡ tasks (plan_of d) →
    setup_from plan counts ts ≡ topology_setup (rules_of hash) (plan_of d)
setup_is hash d plan counts ts a b c = let e = b ∙ shown_counts d in λ i. record { plan = a i; counts = e i; tasks = c i }

pub setup_made : (hash : List ℕ → ℕ) (d : DraftView) (plan : TaskPlan) (counts : List ℕ) (ts : List TaskId) → fault_of d ≡ None → plan ≡ work_of (rules_of hash) (plan_of d) → counts ≡ map (λ (i : TopicInfo). i.parts) (topic_infos d) → ts ≡ tasks (plan_of d) →
    IsSetup (setup_from plan counts ts)
setup_made hash d plan counts ts fine a b c = subst IsSetup (sym (setup_is hash d plan counts ts a b c)) (setups_are_made (rules_of hash) d fine)

pub begun : {W : Type 0} (plan : W → TaskPlan) (good : W → PlacementTest) (hash : List ℕ → ℕ) (d : DraftView) (x : Played W) (work : W) (counts : List ℕ) (ts : List TaskId) → fault_of d ≡ None → x.cluster ≡ record { work = work; counts = counts; tasks = ts; journal = [] } →
    plan work ≡ work_of (rules_of hash) (plan_of d) → counts ≡ map (λ (i : TopicInfo). i.parts) (topic_infos d) → ts ≡ tasks (plan_of d) →
    plan x.conditions.work ≡ work_of (rules_of hash) (plan_of d) → x.conditions.counts.items ≡ map (λ (i : TopicInfo). i.parts) (topic_infos d) → x.conditions.tasks.items ≡ tasks (plan_of d) →
    FindsAllGood (good work) → x.ledger.items ≡ replicate 17 blank → names_in x.tasks.items ≡ tasks (plan_of d) → AreAudited d (topology_setup (rules_of hash) (plan_of d)) [] x.tasks.items → IsPlayedBy plan good (rules_of hash) d x
begun {W} plan good hash d x work counts ts fine is planned counts_are ts_are same_planned same_counts same_ts all_good ledger names audited =
    let setup : setup_of plan x.cluster ≡ topology_setup (rules_of hash) (plan_of d) = ap (setup_of plan) is ∙ setup_is hash d (plan work) counts ts planned counts_are ts_are in
    let base : IsPlayed d (topology_setup (rules_of hash) (plan_of d)) [] x.ledger.items x.tasks.items = record {
      made = setups_are_made (rules_of hash) d fine;
      once = inputs_once (plan_of d);
      ledger_is = subst (IsLedger (topology_setup (rules_of hash) (plan_of d)) []) (sym ledger) (ledger_starts (topology_setup (rules_of hash) (plan_of d)));
      names = names;
      audited = audited;
    } in
    record {
      setup = setup;
      conditions = setup ∙ sym (setup_is hash d (plan x.conditions.work) x.conditions.counts.items x.conditions.tasks.items same_planned same_counts same_ts);
      all_good = subst (λ (c : ClusterView W). FindsAllGood (good c.work)) (sym is) all_good;
      kept = subst (λ (s : Setup). IsPlayed d s x.cluster.journal x.ledger.items x.tasks.items) (sym setup)
          (subst (λ (j : List Entry). IsPlayed d (topology_setup (rules_of hash) (plan_of d)) j x.ledger.items x.tasks.items) (sym (ap (λ (c : ClusterView W). c.journal) is)) base);
    }

-- ---- the tasks, one by one
pub has_at : (ts : List TaskId) (i : ℕ) (d : TaskId) → i < length ts → has_task (get_or ts i d) ts ≡ true
has_at [] i d l = absurd (omega (arith, l))
has_at (t ∷ ts) zero d l = ap (λ b. b || has_task t ts) (same_task-refl t)
has_at (t ∷ ts) (suc i) d l = or_right (same_task (get_or ts i d) t) (has_task (get_or ts i d) ts) (has_at ts i d (omega (arith, l)))

names_more : (xs : List AuditedTask) (t : AuditedTask) → names_in (xs ++ t ∷ []) ≡ names_in xs ++ name_of t ∷ []
names_more [] t = refl
names_more (x ∷ xs) t = ap (λ l. name_of x ∷ l) (names_more xs t)

pub tasks_more : (all : List AuditedTask) (new : AuditedTask) (ts whole : List TaskId) (i : ℕ) (d : TaskId) → ts ≡ whole → i < length ts → names_in all ≡ take i whole → name_of new ≡ get_or ts i d → names_in (all ++ new ∷ []) ≡ take (i + 1) whole
tasks_more all new ts whole i d same l names name =
    names_more all new ∙ ap₂ (λ xs x. xs ++ x ∷ []) (names ∙ ap (take i) (sym same)) name ∙ sym (take_more ts i d l) ∙ ap (take (i + 1)) same

pub audited_more : (d : DraftView) (setup : Setup) (journal : List Entry) (xs : List AuditedTask) (t : AuditedTask) → AreAudited d setup journal xs → IsAudited d setup journal t → AreAudited d setup journal (xs ++ t ∷ [])
audited_more d setup journal [] t all one = (one, tt)
audited_more d setup journal (x ∷ xs) t all one = (all.0, audited_more d setup journal xs t all.1 one)

-- ---- a line
pub taken_line : {H : Type 0} (hash : List ℕ → ℕ) (old : Audit H) (played : Played (TaskWork H)) (line : List ℕ) → old.fault ≡ None → IsAudit hash old →
    PlaysLine (plan_by hash) good_by (rules_of hash) (draft_of old.topology.now) old.played played line → TakesLine hash old (record old { played = played }) line
taken_line hash old played line none audit plays = record {
  clean = none;
  entry = plays.entry;
  taken = plays.taken;
  journal = plays.journal;
  fault = none;
  topology = refl;
  kept = record {
    played_is = plays.kept;
    inputs = subst (AreInputs (rules_of hash) (plan_in old.topology.now)) (sym plays.journal)
        (inputs_more (rules_of hash) (plan_in old.topology.now) old.played.cluster.journal plays.entry audit.inputs plays.taken.placed);
  };
}

pub first_audit : {H : Type 0} (hash : List ℕ → ℕ) (a : Audit H) → IsPlayedBy (plan_by hash) good_by (rules_of hash) (draft_of a.topology.now) a.played → a.played.cluster.journal ≡ [] → IsAudit hash a
first_audit hash a played empty = record { played_is = played; inputs = subst (AreInputs (rules_of hash) (plan_in a.topology.now)) (sym empty) tt }
