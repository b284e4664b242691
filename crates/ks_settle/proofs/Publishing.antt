-- What a commit leaves between two topics.
use Rattle.std.proofs.Common.{◌≡◌, ℕ, zero, suc, ◌+◌, ◌<◌, ◌≤◌, Bool, true, false, cond, List, [], ◌∷◌, ◌++◌, length, get_or, refl, sym, ap, subst, ◌∙◌, arith, append-nil, Option, Some, None}
use Rattle.std.specs.Prelude.{◌==◌}
use Rattle.std.proofs.Math.ListN.{set}
use Rattle.std.specs.List.{All}
use Rattle.std.proofs.lemmas.List.{length-set, get_or-set_same, get_or-set_other}
use Rattle.std.proofs.lemmas.Bool.{true≢false, eqb-true, eqb-false, and_parts, and_from}
use Rattle.ks_plan.specs.Drafts.{DraftView}
use Rattle.ks_plan.specs.Plan.{plan_of}
use Rattle.ks_plan.specs.Infos.{changelog_numbers}
use Rattle.ks_history.specs.declared.journal.Entry.{Entry}
use Rattle.ks_history.specs.declared.journal.Reply.{Reply}
use Rattle.ks_history.specs.declared.journal.Request.{Request}
use Rattle.ks_history.specs.declared.journal.Request.TheVariants.{Produce, Init, Add, Append, SendOffsets, Decide, MarkNext, Join, Expire, Hold, Probe, Assign, Park, Unpark}
use Rattle.ks_def_tasks.specs.Messages.{Rules}
use Rattle.ks_history.specs.Machine.{TaskPlan, IsNetwork}
use Rattle.ks_history.specs.State.{Setup}
use Rattle.ks_history.specs.History.{at, IsHistory}
use Rattle.ks_law_restore.specs.Views.{WorkView}
use Rattle.ks_cluster.specs.View.{ClusterView, setup_of, state_of, AddsEntry}
use Rattle.ks_law_settled.specs.Jobs.{produces}
use Rattle.ks_record.specs.declared.record.TaskId.{TaskId}
use Rattle.ks_commit.specs.Committed.{tasks_in, Committed, EachEnds, IsReady}
use Rattle.ks_commit.specs.declared.publisher.Publisher.{Publisher}
use Rattle.ks_history.specs.Reads.{end_of}
use Rattle.ks_commit.specs.Sending.{produce_none, publishes, all_publish, writes_marker, all_markers, decides_commit, IsPublishing, IsLonger, Longer, Marked, is_produce}
use Rattle.ks_commit.proofs.Entries.{later_setup, longer_both, longer_nothing, count_commits-append, markers_publish}
use Rattle.ks_task.specs.declared.task.Task.{Task}
use Rattle.ks_task.specs.Tasks.{task_view}
use Rattle.ks_settle.specs.Drained.{IsDrainedTo, caches_in, Rests, IsFull, told_view, ends_for, AreWorks, ArePublished, AreToldBy, AreToldTo, IsToldTask, AreReading, AreResting, MayDrain, IsOfTopology, drain_worker, is_of_drain, all_of_drain, DrainsOn, Extends}
use Rattle.ks_settle.proofs.Told.{one_told}
use Rattle.ks_settle.proofs.Topics.{quiet_on}
use Rattle.ks_settle.proofs.Works.{set_id, same_default}

-- ---- the journal
quiet_entries : (entries : List Entry) → produce_none entries ≡ true → produces entries ≡ []
quiet_entries [] e = refl
quiet_entries (entry ∷ entries) e = by entry.request e (λ h. quiet_entries entries h)
  where
    by : (request : Request) → cond (is_produce request) false (produce_none entries) ≡ true → (produce_none entries ≡ true → produces entries ≡ []) → produces (record { request = request; reply = entry.reply } ∷ entries) ≡ []
    by (Produce p rec) h more = absurd (true≢false (sym h))
    by (Init w) h more = more h
    by (Add w e p) h more = more h
    by (Append w e number t p rs) h more = more h
    by (SendOffsets w e g t offsets order late) h more = more h
    by (Decide w e commit) h more = more h
    by (MarkNext w) h more = more h
    by (Join w) h more = more h
    by (Expire w) h more = more h
    by (Hold w held) h more = more h
    by (Probe w g) h more = more h
    by (Assign w g a) h more = more h
    by (Park instance t) h more = more h
    by (Unpark instance t) h more = more h

produces-append : (xs ys : List Entry) → produces (xs ++ ys) ≡ produces xs ++ produces ys
produces-append [] ys = refl
produces-append (x ∷ xs) ys = by x.request (produces-append xs ys)
  where
    by : (request : Request) → produces (xs ++ ys) ≡ produces xs ++ produces ys → produces (record { request = request; reply = x.reply } ∷ xs ++ ys) ≡ produces (record { request = request; reply = x.reply } ∷ xs) ++ produces ys
    by (Produce p rec) e = ap (λ l. (p, rec) ∷ l) e
    by (Init w) e = e
    by (Add w d p) e = e
    by (Append w d number t p rs) e = e
    by (SendOffsets w d g t offsets order late) e = e
    by (Decide w d commit) e = e
    by (MarkNext w) e = e
    by (Join w) e = e
    by (Expire w) e = e
    by (Hold w held) e = e
    by (Probe w g) e = e
    by (Assign w g a) e = e
    by (Park instance t) e = e
    by (Unpark instance t) e = e

-- ---- entries of a drain
of_publishing : (request : Request) → publishes drain_worker request ≡ true → is_of_drain request ≡ true
of_publishing (Produce p rec) h = h
of_publishing (Init v) h = h
of_publishing (Add v d p) h = h
of_publishing (Append v d number t p rs) h = h
of_publishing (SendOffsets v d g t offsets order late) h = h
of_publishing (Decide v d commit) h = h
of_publishing (MarkNext v) h = refl
of_publishing (Join v) h = h
of_publishing (Expire v) h = refl
of_publishing (Hold v held) h = h
of_publishing (Probe v g) h = h
of_publishing (Assign v g a) h = h
of_publishing (Park instance t) h = h
of_publishing (Unpark instance t) h = h

publishing_drains : (entries : List Entry) → all_publish drain_worker entries ≡ true → all_of_drain entries ≡ true
publishing_drains [] h = refl
publishing_drains (x ∷ xs) h =
    let both = and_parts (publishes drain_worker x.request) (all_publish drain_worker xs) h in
    and_from (is_of_drain x.request) (all_of_drain xs) (of_publishing x.request both.0) (publishing_drains xs both.1)

of_marker : (w : ℕ) (request : Request) → writes_marker w request ≡ true → is_of_drain request ≡ true
of_marker w (Produce p rec) h = absurd cc
of_marker w (Init v) h = absurd cc
of_marker w (Add v d p) h = absurd cc
of_marker w (Append v d number t p rs) h = absurd cc
of_marker w (SendOffsets v d g t offsets order late) h = absurd cc
of_marker w (Decide v d commit) h = absurd cc
of_marker w (MarkNext v) h = refl
of_marker w (Join v) h = absurd cc
of_marker w (Expire v) h = refl
of_marker w (Hold v held) h = absurd cc
of_marker w (Probe v g) h = absurd cc
of_marker w (Assign v g a) h = absurd cc
of_marker w (Park instance t) h = absurd cc
of_marker w (Unpark instance t) h = absurd cc

markers_drain : (w : ℕ) (entries : List Entry) → all_markers w entries ≡ true → all_of_drain entries ≡ true
markers_drain w [] h = refl
markers_drain w (x ∷ xs) h =
    let both = and_parts (writes_marker w x.request) (all_markers w xs) h in
    and_from (is_of_drain x.request) (all_of_drain xs) (of_marker w x.request both.0) (markers_drain w xs both.1)

drain_quiet : (entries : List Entry) → all_of_drain entries ≡ true → produce_none entries ≡ true
drain_quiet [] h = refl
drain_quiet (x ∷ xs) h = let both = and_parts (is_of_drain x.request) (all_of_drain xs) h in by x.request both.0 (drain_quiet xs both.1)
  where
    by : (request : Request) → is_of_drain request ≡ true → produce_none xs ≡ true → cond (is_produce request) false (produce_none xs) ≡ true
    by (Produce p rec) own e = absurd cc
    by (Init v) own e = e
    by (Add v d p) own e = e
    by (Append v d number t p rs) own e = e
    by (SendOffsets v d g t offsets order late) own e = e
    by (Decide v d commit) own e = e
    by (MarkNext v) own e = e
    by (Join v) own e = e
    by (Expire v) own e = e
    by (Hold v held) own e = e
    by (Probe v g) own e = e
    by (Assign v g a) own e = e
    by (Park instance t) own e = e
    by (Unpark instance t) own e = e

of_drain-append : (xs ys : List Entry) → all_of_drain xs ≡ true → all_of_drain ys ≡ true → all_of_drain (xs ++ ys) ≡ true
of_drain-append [] ys h g = g
of_drain-append (x ∷ xs) ys h g =
    let both = and_parts (is_of_drain x.request) (all_of_drain xs) h in
    and_from (is_of_drain x.request) (all_of_drain (xs ++ ys)) both.0 (of_drain-append xs ys both.1 g)

-- ---- a drain goes on
pub drains_none : {W : Type 0} (n : ℕ) (c : ClusterView W) → DrainsOn n c c
drains_none n c = record { more = []; is = longer_nothing c; requests = refl; commits = omega arith }

pub drains_same : {W : Type 0} (n : ℕ) (old new : ClusterView W) → new ≡ old → DrainsOn n old new
drains_same n old new same = subst (λ (c : ClusterView _). DrainsOn n old c) (sym same) (drains_none n old)

pub drains_one : {W : Type 0} (plan : W → TaskPlan) (old new : ClusterView W) (request : Request) (reply : Reply) → AddsEntry plan old new request reply → is_of_drain request ≡ true → decides_commit request ≡ false → DrainsOn 0 old new
drains_one plan old new request reply a own undecided = record {
  more = record { request = request; reply = reply } ∷ [];
  is = a.journal;
  requests = and_from (is_of_drain request) true own refl;
  commits = subst (λ b. cond b 1 0 ≤ 0) (sym undecided) (omega arith);
}

pub drains_both : {W : Type 0} (m n : ℕ) (a b c : ClusterView W) → DrainsOn m a b → DrainsOn n b c → DrainsOn (m + n) a c
drains_both m n a b c x y = record {
  more = x.more ++ y.more;
  is = longer_both a b c x.more y.more x.is y.is;
  requests = of_drain-append x.more y.more x.requests y.requests;
  commits = omega (arith, count_commits-append x.more y.more, x.commits, y.commits);
}

pub drains_most : {W : Type 0} (m n : ℕ) (old new : ClusterView W) → m ≤ n → DrainsOn m old new → DrainsOn n old new
drains_most m n old new le x = record { more = x.more; is = x.is; requests = x.requests; commits = omega (arith, le, x.commits) }

-- the worker that drains has published
pub drains_by : {W : Type 0} (w n : ℕ) (old new : ClusterView W) (more : List Entry) → w ≡ drain_worker → IsLonger old new more → IsPublishing w n more → DrainsOn n old new
drains_by w n old new more same is publishing = record {
  more = more;
  is = is;
  requests = publishing_drains more (ap (λ v. all_publish v more) (sym same) ∙ publishing.own);
  commits = publishing.commits;
}

pub drains_longer : {W : Type 0} (w n : ℕ) (old new : ClusterView W) → w ≡ drain_worker → Longer w n old new → DrainsOn n old new
drains_longer w n old new same l = drains_by w n old new l.more same l.is l.publishing

pub drains_markers : {W : Type 0} (plan : W → TaskPlan) (w : ℕ) (old new : ClusterView W) → Marked plan old new w → DrainsOn 0 old new
drains_markers plan w old new m = record { more = m.more; is = m.is; requests = markers_drain w m.more m.own; commits = (markers_publish w m.more m.own).commits }

-- with no further input
pub drains_extend : {W : Type 0} (n : ℕ) (old new : ClusterView W) → DrainsOn n old new → Extends old new
drains_extend n old new x =
    let journal : new.journal ≡ old.journal ++ x.more = ap (λ (c : ClusterView _). c.journal) x.is in
    record {
      same = x.is ∙ ap (λ (j : List Entry). record old { journal = j }) (sym journal);
      prefix = (x.more, journal);
      produces = ap produces journal ∙ produces-append old.journal x.more ∙ ap (λ l. produces old.journal ++ l) (quiet_entries x.more (drain_quiet x.more x.requests)) ∙ append-nil (produces old.journal);
    }

pub same_setup : {W : Type 0} (plan : W → TaskPlan) (n : ℕ) (old new : ClusterView W) → DrainsOn n old new → setup_of plan new ≡ setup_of plan old
same_setup plan n old new x = later_setup plan old new x.more x.is

pub still_of_topology : {W : Type 0} (plan : W → TaskPlan) (rules : Rules) (d : DraftView) (n : ℕ) (old new : ClusterView W) → IsOfTopology plan rules d old → DrainsOn n old new → IsOfTopology plan rules d new
still_of_topology plan rules d n old new o x =
    let same = same_setup plan n old new x in
    record {
      well_formed = o.well_formed;
      work = ap (λ (s : Setup). s.plan) same ∙ o.work;
      may = subst MayDrain (sym same) o.may;
    }

-- ---- the commit
pub published : {W : Type 0} (plan : W → TaskPlan) (old new : ClusterView W) (w topic : ℕ) (fs : List WorkView) (told : List (List (ℕ × ℕ))) → Committed plan old new w fs told → AreWorks (setup_of plan old) old.journal topic fs →
    IsHistory (setup_of plan new) new.journal → ArePublished (setup_of plan old) old.journal new.journal topic fs told
published plan old new w topic fs told c works hist =
    let setup : setup_of plan new ≡ setup_of plan old = later_setup plan old new c.more c.is in
    let states : state_of plan new ≡ at (setup_of plan old) new.journal = ap (λ s. at s new.journal) setup in
    record {
      more = c.more;
      worker = w;
      is = ap (λ (k : ClusterView _). k.journal) c.is;
      history = subst (λ s. IsHistory s new.journal) setup hist;
      commits = c.commits;
      ends = subst (λ s. EachEnds (setup_of plan old) s fs told) states c.ends;
      same = λ q h. ap (λ s. end_of s q) (sym states) ∙ ap length (c.others q (works.later q h));
    }

-- ---- all tasks are told
told_task : (draft : DraftView) (v : _) (o : Option (List (ℕ × ℕ))) → (told_view draft v o).task ≡ v.task
told_task draft v None = refl
told_task draft v (Some ends) = refl

pub one_more_told : (draft : DraftView) (worked : List TaskId) (es : List (List (ℕ × ℕ))) (i : ℕ) (all ts : List Task) (o w : Task) → AreToldTo draft worked es i all ts → i < length ts → o ≡ get_or ts i o → IsToldTask draft worked es o w → AreToldTo draft worked es (i + 1) all (set ts i w)
one_more_told draft worked es i all ts o w t lt at told = record {
  names = set_id ts i w o lt (ap (λ (v : _). v.task) told.view ∙ told_task draft (task_view o) (ends_for (task_view o).task worked es) ∙ ap (λ (x : Task). (task_view x).task) at) ∙ t.names;
  count = length-set ts i w ∙ t.count;
  told = λ k d high. by k d high (k == i) refl;
  rest = λ k d low. get_or-set_other ts i k w d (λ e. omega (arith, e, low)) ∙ t.rest k d (omega (arith, low));
}
  where
    by : (k : ℕ) (d : Task) → k < i + 1 → (b : Bool) → (k == i) ≡ b → IsToldTask draft worked es (get_or all k d) (get_or (set ts i w) k d)
    by k d high true e =
        let is : k ≡ i = eqb-true k i e in
        let inside : k < length ts = omega (arith, is, lt) in
        let here : get_or (set ts i w) k d ≡ w = ap (λ j. get_or (set ts i w) j d) is ∙ get_or-set_same ts i w d lt in
        let own : get_or all k d ≡ o = sym (t.rest k d (omega (arith, is))) ∙ same_default ts k d o inside ∙ ap (λ j. get_or ts j o) is ∙ sym at in
        subst (λ x. IsToldTask draft worked es x (get_or (set ts i w) k d)) (sym own) (subst (IsToldTask draft worked es o) (sym here) told)
    by k d high false e =
        let ne : (k ≡ i → ⊥) = eqb-false k i e in
        subst (IsToldTask draft worked es (get_or all k d)) (sym (get_or-set_other ts i k w d ne)) (t.told k d (omega (arith, ne, high)))

pub none_told : (draft : DraftView) (worked : List TaskId) (es : List (List (ℕ × ℕ))) (ts : List Task) → AreToldTo draft worked es 0 ts ts
none_told draft worked es ts = record { names = refl; count = refl; told = λ k d high. absurd (omega (arith, high)); rest = λ k d low. refl }

-- their stores hold back what they did
same_caches : (old new : List Task) → length new ≡ length old → ((k : ℕ) (t : Task) → k < length old → (get_or new k t).cache ≡ (get_or old k t).cache) → caches_in new ≡ caches_in old
same_caches [] [] count each = refl
same_caches [] (y ∷ ys) count each = absurd (omega (arith, count))
same_caches (x ∷ xs) [] count each = absurd (omega (arith, count))
same_caches (x ∷ xs) (y ∷ ys) count each =
    ap (λ c. c ∷ caches_in ys) (each 0 x (omega arith)) ∙ ap (λ l. x.cache ∷ l) (same_caches xs ys (omega (arith, count)) (λ k t lt. each (suc k) t (omega (arith, lt))))

pub told_cached : (draft : DraftView) (worked : List TaskId) (es : List (List (ℕ × ℕ))) (all ts : List Task) → AreToldBy draft worked es all ts → caches_in ts ≡ caches_in all
told_cached draft worked es all ts t = same_caches all ts t.count (λ k x lt. (t.told k x lt).cache)

pub all_told : (draft : DraftView) (worked : List TaskId) (es : List (List (ℕ × ℕ))) (all ts : List Task) → AreToldTo draft worked es (length ts) all ts → AreToldBy draft worked es all ts
all_told draft worked es all ts t = record { names = t.names; count = t.count; told = λ k d high. t.told k d (omega (arith, high, t.count)) }

rest_told : (draft : DraftView) (setup : Setup) (journal new : List Entry) (topic : ℕ) (fs : List WorkView) (es : List (List (ℕ × ℕ))) (old now : List Task) → IsNetwork setup.plan →
    ((sub : ℕ) → setup.plan.changelogs sub ≡ changelog_numbers (plan_of draft) sub) → ArePublished setup journal new topic fs es → All (IsFull draft setup journal topic fs) old → AreToldBy draft (tasks_in fs) es old now → All (Rests draft setup new (topic + 1)) now
rest_told draft setup journal new topic fs es old now net logs done full told k d lt =
    let was : IsFull draft setup journal topic fs (get_or old k d) = full k d (omega (arith, lt, told.count)) in
    let one : IsToldTask draft (tasks_in fs) es (get_or old k d) (get_or now k d) = told.told k d (omega (arith, lt, told.count)) in (
      one.of,
      subst (IsDrainedTo setup new (topic + 1)) (sym one.view)
          (one_told draft setup journal new topic fs es (task_view (get_or old k d)) net logs done was.1 was.2),
    )

-- ---- the cluster between two topics
pub rests_on : {W : Type 0} (plan : W → TaskPlan) (old new : ClusterView W) (publisher : Publisher) (draft : DraftView) (w topic : ℕ) (fs : List WorkView) (es : List (List (ℕ × ℕ))) (before after : List Task) → MayDrain (setup_of plan old) →
    ((sub : ℕ) → (setup_of plan old).plan.changelogs sub ≡ changelog_numbers (plan_of draft) sub) → AreReading draft (setup_of plan old) old.journal topic (length before) before fs → Committed plan old new w fs es →
    IsHistory (setup_of plan new) new.journal → publisher.worker ≡ drain_worker → IsReady (setup_of plan new) (state_of plan new) publisher → AreToldBy draft (tasks_in fs) es before after → AreResting plan new publisher draft (topic + 1) after
rests_on plan old new publisher draft w topic fs es before after may logs r c hist worker ready told =
    let setup : setup_of plan new ≡ setup_of plan old = later_setup plan old new c.more c.is in
    let done : ArePublished (setup_of plan old) old.journal new.journal topic fs es = published plan old new w topic fs es c r.works hist in
    let full : All (IsFull draft (setup_of plan old) old.journal topic fs) before = λ k d lt. r.full k d (omega arith) lt in
    let rest : All (Rests draft (setup_of plan old) new.journal (topic + 1)) after = rest_told draft (setup_of plan old) old.journal new.journal topic fs es before after may.network logs done full told in
    record {
      worker = worker;
      ready = ready;
      names = told.names ∙ r.names ∙ sym (ap (λ (s : Setup). s.tasks) setup);
      rest = subst (λ s. All (Rests draft s new.journal (topic + 1)) after) (sym setup) rest;
    }

-- where nothing was to be committed
pub rests_still : {W : Type 0} (plan : W → TaskPlan) (c : ClusterView W) (publisher : Publisher) (draft : DraftView) (topic : ℕ) (ts : List Task) → AreReading draft (setup_of plan c) c.journal topic (length ts) ts [] → publisher.worker ≡ drain_worker → IsReady (setup_of plan c) (state_of plan c) publisher →
    AreResting plan c publisher draft (topic + 1) ts
rests_still plan c publisher draft topic ts r worker ready = record {
  worker = worker;
  ready = ready;
  names = r.names;
  rest = λ k d lt. let f : IsFull draft (setup_of plan c) c.journal topic [] (get_or ts k d) = r.full k d (omega arith) lt in (f.0, quiet_on (setup_of plan c) c.journal topic (task_view (get_or ts k d)) f.1 f.2);
}
