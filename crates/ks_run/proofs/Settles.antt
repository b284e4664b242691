-- What a settled cluster of a job answers.
use Rattle.std.proofs.Common.{◌≡◌, ℕ, ◌<◌, List, [], ◌++◌, length, map, refl, sym, ap, subst, ◌∙◌}
use Rattle.std.specs.Prelude.{None, Some, Option}
use Rattle.std.specs.List.{All}
use Rattle.std.proofs.lemmas.List.Elements.{All-weaker}
use Rattle.ks_record.specs.Records.{Record as Rec}
use Rattle.ks_record.specs.declared.record.PartId.{PartId}
use Rattle.ks_record.specs.declared.record.TaskId.{TaskId}
use Rattle.ks_plan.specs.Drafts.{DraftView}
use Rattle.ks_plan.specs.Plan.{plan_of}
use Rattle.ks_plan.specs.Layout.{topics_of, parts_of_topic, tasks}
use Rattle.ks_plan.specs.declared.node.TopicInfo.{TopicInfo}
use Rattle.ks_plan.specs.Infos.{changelog_numbers, topic_infos}
use Rattle.ks_plan.specs.Faults.{fault_of}
use Rattle.ks_history.specs.declared.journal.Entry.{Entry}
use Rattle.ks_history.specs.Machine.{TaskPlan}
use Rattle.ks_history.specs.State.{Setup, IsSetup}
use Rattle.ks_history.specs.History.{at, IsHistory}
use Rattle.ks_cluster.specs.View.{ClusterView, setup_from}
use Rattle.ks_cluster.specs.View as kept
use Rattle.ks_cluster.specs.Placed.{PlacementTest, ArePlaced}
use Rattle.ks_assign.specs.declared.clients.Placing.{Placing}
use Rattle.ks_assign_group.specs.Groups.{good_by}
use Rattle.ks_query.specs.Streams.{Input}
use Rattle.ks_def_tasks.specs.Messages.{Rules}
use Rattle.ks_run_feed.specs.declared.feeding.JobInput.{JobInput}
use Rattle.ks_run_feed.specs.Feeding.{FaultsBy}
use Rattle.ks_job_source.specs.declared.rest.JobEnd.{JobEnd}
use Rattle.ks_job_source.specs.declared.rest.JobEnd.TheVariants as end
use Rattle.ks_job_source.specs.declared.rest.JobRest.{JobRest}
use Rattle.ks_job_source.specs.Opening.{IsReadable, StandsPast}
use Rattle.ks_job_source.proofs.Opened.{all_records}
use Rattle.ks_run_workers.specs.Ready.{HasWorked}
use Rattle.ks_law_exactly_once.proofs.Replays.{is_run}
use Rattle.ks_law_topology.specs.Work.{work_of, setup_of}
use Rattle.ks_law_topology.proofs.Networks.{works_are_networks}
use Rattle.ks_law_topology.proofs.Setups.{setups_are_made}
use Rattle.ks_def_tasks.specs.Rules.{rules_of}
use Rattle.ks_law_kinds.specs.Fitting.{FitsPlan}
use Rattle.ks_law_topology.specs.Work.{FitsRules}
use Rattle.ks_law_settled.specs.Jobs.{IsJob, produces}
use Rattle.ks_job.specs.Items.{ItemView, item_views}
use Rattle.ks_law_inputs.specs.Records.{records_of, HavePartitions, AreRecords}
use Rattle.ks_shared.specs.declared.state.Frame.{Frame}
use Rattle.ks_topo.specs.Places.{HasPlaces}
use Rattle.ks_run_feed.specs.Placing.{placed_all}
use Rattle.ks_run_feed.specs.Producing.{IsFilled}
use Rattle.ks_standby.specs.declared.replica.Replica.{Replica}
use Rattle.ks_worker_state.specs.Standbys.{IsStandby}
use Rattle.ks_settle.specs.Restoring.{IsReplicaAt}
use Rattle.ks_settle.specs.Drained.{Extends}
use Rattle.ks_iq.specs.declared.fault.IqFault.{IqFault}
use Rattle.ks_run_verdict.specs.Told.{Wanted, told, refusal_of, wanted_at, IsText}
use Rattle.ks_run_verdict.specs.Journals.{placed_records, IsUndrained}
use Rattle.ks_run_end.specs.Ends.{IsDrained, IsWantedBy, IsEnded, IsLeft, EndsWhole}
use Rattle.ks_run_end.proofs.Drained.{nodes_ready, drained_setup}
use Rattle.ks_run.specs.Begun.{HasBegun}
use Rattle.ks_run.specs.Settling.{SettlesJob, EndsBy, KeepsJob, TellsWhole, TellsEnd, RunsJob}
use Rattle.ks_job_source.proofs.Counts.{counts_length, have_places, shown_counts}
use Rattle.ks_run.proofs.Placed.{keys_have_parts, records_placed, records_fit, records_in_range}

pub setup_is : (hash : List ℕ → ℕ) (d : DraftView) (plan : TaskPlan) (counts : List ℕ) (ts : List TaskId) → plan ≡ work_of (rules_of hash) (plan_of d) → counts ≡ map (parts_of_topic (plan_of d)) (topics_of (plan_of d)) → ts ≡ tasks (plan_of d) →
    setup_from plan counts ts ≡ setup_of (rules_of hash) (plan_of d)
setup_is hash d plan counts ts a b c = rw (a, b, c) refl

pub setup_made : (hash : List ℕ → ℕ) (d : DraftView) (setup : Setup) → setup ≡ setup_of (rules_of hash) (plan_of d) → fault_of d ≡ None → IsSetup setup
setup_made hash d setup e fine = subst IsSetup (sym e) (setups_are_made (rules_of hash) d fine)

pub begun_is : {W : Type 0} (work : W) (c : ClusterView W) (kept counts : List ℕ) (ts all : List TaskId) → kept ≡ counts → ts ≡ all → c ≡ record { work = work; counts = kept; tasks = ts; journal = [] } →
    c ≡ record { work = work; counts = counts; tasks = all; journal = [] }
begun_is work c kept counts ts all a b e =
    subst (λ l. c ≡ record { work = work; counts = counts; tasks = l; journal = [] }) b (subst (λ l. c ≡ record { work = work; counts = l; tasks = ts; journal = [] }) a e)

-- ---- a new cluster of a topology's tasks
pub has_begun : {W : Type 0} (hash : List ℕ → ℕ) (plan : W → TaskPlan) (good : W → PlacementTest) (placing : Placing) (d : DraftView) (work : W) (begun : ClusterView W) →
    begun ≡ record { work = work; counts = map (λ (i : TopicInfo). i.parts) (topic_infos d); tasks = tasks (plan_of d); journal = [] } → plan work ≡ work_of (rules_of hash) (plan_of d) → IsWantedBy good work d placing →
    HasBegun hash plan good placing d begun
has_begun hash plan good placing d work begun is planned wanted = record {
  new = ap (λ k. k.journal) is;
  work = ap (λ k. plan k.work) is ∙ planned;
  start = ap (λ k. kept.setup_of plan k) is ∙ setup_is hash d (plan work) (map (λ (i : TopicInfo). i.parts) (topic_infos d)) (tasks (plan_of d)) planned (shown_counts d) refl;
  wanted = ap (λ k. good k.work) is ∙ wanted;
  counts_are = sym (shown_counts d) ∙ sym (ap (λ k. k.counts) is);
}

-- ---- a topology and its records before they are run
pub record IsRunnable (hash : List ℕ → ℕ) (d : DraftView) (is : List ItemView) : Type 0 where
  pub fine : fault_of d ≡ None
  pub spelled : FitsPlan (plan_of d)
  pub hashes : FitsRules (rules_of hash)
  pub partitions : HavePartitions d.topics
  pub records : AreRecords (length d.topics) is

is_job : (hash : List ℕ → ℕ) (d : DraftView) (is : List ItemView) → IsRunnable hash d is → IsJob (rules_of hash) d (records_of is)
is_job hash d is h = record {
  parts = keys_have_parts hash;
  hashes = h.hashes;
  well = h.fine;
  have = nodes_ready d h.fine h.partitions;
  spelled = h.spelled;
  inputs = records_fit d is h.records;
  range = records_in_range (length d.topics) is h.records;
}

-- ---- the run of a job's tasks
pub places_ready : (hash : List ℕ → ℕ) (d : DraftView) (plan : TaskPlan) → fault_of d ≡ None → HavePartitions d.topics → plan ≡ work_of (rules_of hash) (plan_of d) → (topic : ℕ) → topic < plan.sources → HasPlaces (plan_of d) topic
places_ready hash d plan fine have a topic l =
    let sources : plan.sources ≡ length (plan_of d).counts = ap (λ q. q.sources) a in
    have_places d topic fine have (subst (λ s. topic < s) sources l)

pub records_ready : (hash : List ℕ → ℕ) (d : DraftView) (plan : TaskPlan) (is : List ItemView) → plan ≡ work_of (rules_of hash) (plan_of d) → AreRecords (length d.topics) is → AreRecords plan.sources is
records_ready hash d plan is a h =
    subst (λ s. AreRecords s is) (sym (ap (λ q. q.sources) a)) (subst (λ n. AreRecords n is) (sym (counts_length d)) h)

pub past_ready : (hash : List ℕ → ℕ) (d : DraftView) (plan : TaskPlan) (rest : JobRest) → plan ≡ work_of (rules_of hash) (plan_of d) → StandsPast (length d.topics) rest.taken rest.standing → StandsPast plan.sources rest.taken rest.standing
past_ready hash d plan rest a h =
    subst (λ s. StandsPast s rest.taken rest.standing) (sym (ap (λ q. q.sources) a)) (subst (λ n. StandsPast n rest.taken rest.standing) (sym (counts_length d)) h)

pub filled_setup : {W : Type 0} (plan : W → TaskPlan) (old new : ClusterView W) (records : List (PartId × Rec)) → IsFilled old new records → kept.setup_of plan new ≡ kept.setup_of plan old
filled_setup {W = W} plan old new records h = ap (λ (f : Frame W). setup_from (plan f.work) f.counts f.tasks) h.frame

-- ---- what a drained cluster has come to
answered : (hash : List ℕ → ℕ) (wanted : Wanted) (d : DraftView) (is : List ItemView) (setup : Setup) (status : ℕ) (text : List ℕ) (journal : List Entry) → IsRunnable hash d is →
    setup ≡ setup_of (rules_of hash) (plan_of d) → produces journal ≡ placed_all (plan_of d) is → IsDrained setup journal →
    status ≡ (told (rules_of hash) d (at setup journal)).0 → IsText (rules_of hash) d (wanted_at status wanted) journal (told (rules_of hash) d (at setup journal)).1 text → SettlesJob (rules_of hash) wanted d (records_of is) status text journal
answered hash wanted d is setup status text journal ready e made drained status_is text_is =
    let rules = rules_of hash in
    let right = setup_of rules (plan_of d) in
    let here : IsDrained right journal = subst (λ s. IsDrained s journal) e drained in
    record {
      kept = record {
        job = is_job hash d is ready;
        history = here.history;
        produced = made ∙ records_placed hash d is ready.records;
        settled = here.settled;
        run = is_run right journal (works_are_networks rules (plan_of d)) here.history;
        few = here.few;
      };
      status_is = status_is ∙ ap (λ s. (told rules d (at s journal)).0) e;
      told = subst (λ s. IsText rules d (wanted_at status wanted) journal (told rules d (at s journal)).1 text) e text_is;
    }

pub settled_answers : {W : Type 0} (hash : List ℕ → ℕ) (wanted : Wanted) (d : DraftView) (plan : W → TaskPlan) (is : List ItemView) (begun filled drained : ClusterView W) (status : ℕ) (text : List ℕ) (journal : List Entry) →
    IsRunnable hash d is → kept.setup_of plan begun ≡ setup_of (rules_of hash) (plan_of d) →
    IsFilled begun filled (placed_all (plan_of d) is) → Extends filled drained → IsDrained (kept.setup_of plan drained) drained.journal →
    status ≡ (told (rules_of hash) d (kept.state_of plan drained)).0 → IsText (rules_of hash) d (wanted_at status wanted) drained.journal (told (rules_of hash) d (kept.state_of plan drained)).1 text → journal ≡ drained.journal →
    SettlesJob (rules_of hash) wanted d (records_of is) status text journal
settled_answers hash wanted d plan is begun filled drained status text journal ready start filling draining done status_is text_is handed =
    let setup = drained_setup plan filled drained draining ∙ (filled_setup plan begun filled (placed_all (plan_of d) is) filling ∙ start) in
    let made : produces drained.journal ≡ placed_all (plan_of d) is =
    draining.produces ∙ filling.produced in
    subst (λ j. SettlesJob (rules_of hash) wanted d (records_of is) status text j) (sym handed) (answered hash wanted d is (kept.setup_of plan drained) status text drained.journal ready setup made done status_is text_is)

-- ---- what a run keeps of its job
module _ {W : Type 0} (plan : W → TaskPlan) (good : W → PlacementTest) (rules : Rules) (placing : Placing) (d : DraftView) where
  pub keeps_job : (c : ClusterView W) (records : List Input) (journal : List Entry) → kept.setup_of plan c ≡ setup_of rules (plan_of d) → IsWantedBy good c.work d placing → IsHistory (kept.setup_of plan c) c.journal →
      ArePlaced (good c.work) (kept.setup_of plan c) c.journal → produces c.journal ≡ placed_records rules d records → journal ≡ c.journal → KeepsJob rules placing d records journal
  keeps_job c records journal setup wanted history placed made handed = subst (KeepsJob rules placing d records) (sym handed) (record {
    history = subst (λ s. IsHistory s c.journal) setup history;
    placed = subst (λ s. ArePlaced (good_by (changelog_numbers (plan_of d)) (tasks (plan_of d)) placing) s c.journal) setup (subst (λ t. ArePlaced t (kept.setup_of plan c) c.journal) wanted placed);
    produced = made;
  })

-- ---- the end of a run
module _ {W : Type 0} (hash : List ℕ → ℕ) (plan : W → TaskPlan) (good : W → PlacementTest) (placing : Placing) (wanting : Wanted) (d : DraftView) (begun filled : ClusterView W) (intake : JobInput) (left now : Option (List ℕ)) (e : JobEnd)
    (start : kept.setup_of plan begun ≡ setup_of (rules_of hash) (plan_of d)) (wanted : IsWantedBy good begun.work d placing)
    (job : IsReadable d (item_views intake.records.items) intake.rest) (work : HasWorked d begun filled intake left now e) where
  abbrev its_items : List ItemView
  its_items = item_views intake.records.items ++ work.items

  its_records : AreRecords (length d.topics) its_items
  its_records = all_records (length d.topics) intake.rest.taken intake.rest.standing left now e (item_views intake.records.items) work.items job.past job.records_are work.ends

  pub filled_start : kept.setup_of plan filled ≡ setup_of (rules_of hash) (plan_of d)
  filled_start = filled_setup plan begun filled (placed_all (plan_of d) its_items) work.filled ∙ start

  pub filled_wanted : IsWantedBy good filled.work d placing
  filled_wanted = ap (λ (f : Frame W). good f.work) work.filled.frame ∙ wanted

  filled_made : produces filled.journal ≡ placed_records (rules_of hash) d (records_of its_items)
  filled_made = work.filled.produced ∙ records_placed hash d its_items its_records

  -- a run that was cut short
  cut_short : (before after status : ℕ) (text : List ℕ) (journal : List Entry) → FaultsBy e before after → IsLeft plan good filled journal → (IsUndrained journal → TellsEnd e (rules_of hash) wanting d (records_of its_items) status text journal) →
      RunsJob (rules_of hash) placing wanting d (item_views intake.records.items) intake.rest.standing left now before after status text journal
  cut_short before after status text journal faults h told = record {
    end = e;
    items = work.items;
    reads = work.ends;
    faults = faults;
    kept = keeps_job plan good (rules_of hash) placing d filled (records_of its_items) journal filled_start filled_wanted h.history h.placed filled_made h.handed;
    told = told (subst IsUndrained (sym h.handed) work.filled.undrained);
  }

  -- one that was drained
  module _ (fine : fault_of d ≡ None) (spelled : FitsPlan (plan_of d)) (hashes : FitsRules (rules_of hash)) where
    ready : IsRunnable hash d its_items
    ready = record { fine = fine; spelled = spelled; hashes = hashes; partitions = job.partitions; records = its_records }

    -- the topology has nothing against the question
    ran_whole : (before after status : ℕ) (text : List ℕ) (journal : List Entry) → e ≡ end.Whole → FaultsBy e before after → refusal_of d wanting ≡ None → IsEnded plan good (rules_of hash) wanting d filled status text journal →
        RunsJob (rules_of hash) placing wanting d (item_views intake.records.items) intake.rest.standing left now before after status text journal
    ran_whole before after status text journal whole faults fine_ask h =
        let setup = drained_setup plan filled h.drained h.more ∙ filled_start in
        record {
          end = e;
          items = work.items;
          reads = work.ends;
          faults = faults;
          kept = keeps_job plan good (rules_of hash) placing d h.drained (records_of its_items) journal setup (ap (λ c. good c.work) h.more.same ∙ filled_wanted) h.done.history h.placed (h.more.produces ∙ filled_made) h.handed;
          told = subst (λ x. TellsEnd x (rules_of hash) wanting d (records_of its_items) status text journal) (sym whole)
              (subst (λ o. TellsWhole o (rules_of hash) wanting d (records_of its_items) status text journal) (sym fine_ask)
              (settled_answers hash wanting d plan its_items begun filled h.drained status text journal ready start work.filled h.more h.done h.status_is h.told h.handed));
        }

    -- by what it has against it
    pub ran_asked : (refusal : Option IqFault) (told : Wanted) (before after status : ℕ) (text : List ℕ) (journal : List Entry) → e ≡ end.Whole → FaultsBy e before after → refusal_of d wanting ≡ refusal → (refusal ≡ None → told ≡ wanting) →
        EndsWhole plan good (rules_of hash) told d filled refusal status text journal →
        RunsJob (rules_of hash) placing wanting d (item_views intake.records.items) intake.rest.standing left now before after status text journal
    ran_asked None told before after status text journal whole faults refused same h =
        ran_whole before after status text journal whole faults refused (subst (λ w. IsEnded plan good (rules_of hash) w d filled status text journal) (same refl) h)
    ran_asked (Some fault) told before after status text journal whole faults refused same h =
        cut_short before after status text journal faults h.2
        (λ u. subst (λ x. TellsEnd x (rules_of hash) wanting d (records_of its_items) status text journal) (sym whole)
        (subst (λ o. TellsWhole o (rules_of hash) wanting d (records_of its_items) status text journal) (sym refused) (h.0, h.1, u)))

-- one of any end, by what the topology has against the question and what is wanted then
pub ran_so : {W : Type 0} (hash : List ℕ → ℕ) (plan : W → TaskPlan) (good : W → PlacementTest) (placing : Placing) (wanting : Wanted) (d : DraftView) (begun filled : ClusterView W) (intake : JobInput) (left now : Option (List ℕ)) (e : JobEnd) →
    kept.setup_of plan begun ≡ setup_of (rules_of hash) (plan_of d) → IsWantedBy good begun.work d placing →
    IsReadable d (item_views intake.records.items) intake.rest → HasWorked d begun filled intake left now e → fault_of d ≡ None → FitsPlan (plan_of d) → FitsRules (rules_of hash) →
    (refusal : Option IqFault) (told : Wanted) → refusal_of d wanting ≡ refusal → (refusal ≡ None → told ≡ wanting) →
    (before after status : ℕ) (text : List ℕ) (journal : List Entry) → FaultsBy e before after → EndsBy plan good (rules_of hash) told d filled refusal e status text journal →
    RunsJob (rules_of hash) placing wanting d (item_views intake.records.items) intake.rest.standing left now before after status text journal
ran_so hash plan good placing wanting d begun filled intake left now end.Whole start wanted job work fine spelled hashes refusal told refused same before after status text journal faults h =
    ran_asked hash plan good placing wanting d begun filled intake left now end.Whole start wanted job work fine spelled hashes refusal told before after status text journal refl faults refused same h
ran_so hash plan good placing wanting d begun filled intake left now (end.Stopped stop) start wanted job work fine spelled hashes refusal told refused same before after status text journal faults h =
    cut_short hash plan good placing wanting d begun filled intake left now (end.Stopped stop) start wanted job work before after status text journal faults h.2 (λ u. (h.0, h.1, u))
ran_so hash plan good placing wanting d begun filled intake left now end.Failed start wanted job work fine spelled hashes refusal told refused same before after status text journal faults h =
    cut_short hash plan good placing wanting d begun filled intake left now end.Failed start wanted job work before after status text journal faults h.2 (λ u. (h.0, h.1, u))

-- ---- the replicas that workers leave serve the drain
pub all_given : (setup : Setup) (journal : List Entry) (rs : List Replica) → All (IsStandby setup journal) rs → All (IsReplicaAt setup journal) rs
all_given setup journal rs all = All-weaker (IsStandby setup journal) (IsReplicaAt setup journal) (λ r s. record { known = s.known; changelogs = s.replica.changelogs; follows = s.replica.follows }) rs all
