-- A journal that goes on, and what its new entries add, commit and write.
use Rattle.std.proofs.Common.{◌≡◌, ℕ, ◌+◌, ◌≤◌, ◌&&◌, Bool, true, false, cond, arith, List, [], ◌∷◌, ◌++◌, None, refl, sym, ap, ap₂, subst, ◌∙◌, append-nil, append_assoc}
use Rattle.std.specs.Prelude.{◌==◌, Result, Ok, Err, OnErr}
use Rattle.std.proofs.lemmas.Bool.{and_parts, and_from, eq-eqb}
use Rattle.ks_record.specs.declared.record.PartId.{PartId}
use Rattle.ks_record.specs.declared.record.TaskId.{TaskId}
use Rattle.ks_history.specs.declared.journal.Entry.{Entry}
use Rattle.ks_history.specs.declared.journal.Request.{Request}
use Rattle.ks_history.specs.declared.journal.Request.TheVariants.{Produce, Init, Add, Append, SendOffsets, Decide, MarkNext, Join, Expire, Hold, Probe, Assign, Park, Unpark}
use Rattle.ks_history.specs.declared.journal.Reply.{Reply}
use Rattle.ks_history.specs.declared.transaction.Pending.{Pending}
use Rattle.ks_history.specs.Machine.{TaskPlan}
use Rattle.ks_history.specs.State.{State, Setup, start}
use Rattle.ks_history.specs.Step.{refusal, effect, state_by, after}
use Rattle.ks_history.specs.History.{state_after}
use Rattle.ks_history.proofs.Histories.{state_after-append}
use Rattle.ks_cluster.specs.View.{ClusterView, setup_of, state_of, AddsEntry}
use Rattle.ks_cluster.proofs.Entries.{answered_state}
use Rattle.ks_law_restore.specs.Commits.{commits_by, commits_for}
use Rattle.ks_commit.specs.Sending.{Put, Gains, is_produce, produce_none, publishes, all_publish, decides_commit, count_commits, IsPublishing, writes_marker, all_markers, IsLonger, Longer, Sends, Marked}
use Rattle.ks_commit.proofs.Gaining.{gains_both, gains_nothing}
use Rattle.ks_commit.proofs.Marking.{marks_both, marks_nothing}

pub commits_for-append : (setup : Setup) (s : State) (xs ys : List Entry) (t : TaskId) → commits_for setup s (xs ++ ys) t ≡ commits_for setup s xs t ++ commits_for setup (state_after setup s xs) ys t
commits_for-append setup s [] ys t = refl
commits_for-append setup s (x ∷ xs) ys t =
    ap (λ l. commits_by s x.request (refusal setup s x.request) t ++ l) (commits_for-append setup (after setup s x.request) xs ys t)
    ∙ sym (append_assoc (commits_by s x.request (refusal setup s x.request) t) (commits_for setup (after setup s x.request) xs t) (commits_for setup (state_after setup (after setup s x.request) xs) ys t))

-- ---- entries by which a worker publishes
all_publish-append : (w : ℕ) (xs ys : List Entry) → all_publish w xs ≡ true → all_publish w ys ≡ true → all_publish w (xs ++ ys) ≡ true
all_publish-append w [] ys h g = g
all_publish-append w (x ∷ xs) ys h g =
    let both = and_parts (publishes w x.request) (all_publish w xs) h in
    and_from (publishes w x.request) (all_publish w (xs ++ ys)) both.0 (all_publish-append w xs ys both.1 g)

pub count_commits-append : (xs ys : List Entry) → count_commits (xs ++ ys) ≡ count_commits xs + count_commits ys
count_commits-append [] ys = omega arith
count_commits-append (x ∷ xs) ys = by (decides_commit x.request) (count_commits-append xs ys)
  where
    by : (b : Bool) → count_commits (xs ++ ys) ≡ count_commits xs + count_commits ys → cond b (count_commits (xs ++ ys) + 1) (count_commits (xs ++ ys)) ≡ cond b (count_commits xs + 1) (count_commits xs) + count_commits ys
    by true e = omega (arith, e)
    by false e = e

pub publishing_both : (w m n : ℕ) (xs ys : List Entry) → IsPublishing w m xs → IsPublishing w n ys → IsPublishing w (m + n) (xs ++ ys)
publishing_both w m n xs ys a b = record {
  own = all_publish-append w xs ys a.own b.own;
  commits = omega (arith, count_commits-append xs ys, a.commits, b.commits);
}

pub publishing_none : (w n : ℕ) → IsPublishing w n []
publishing_none w n = record { own = refl; commits = omega arith }

-- one that doesn't commit
pub publishing_one : (w : ℕ) (request : Request) (reply : Reply) → publishes w request ≡ true → decides_commit request ≡ false → IsPublishing w 0 (record { request = request; reply = reply } ∷ [])
publishing_one w request reply own none = record { own = and_from (publishes w request) true own refl; commits = subst (λ b. cond b 1 0 ≤ 0) (sym none) (omega arith) }

pub publishing_commit : (w v e : ℕ) (reply : Reply) → v ≡ w → IsPublishing w 1 (record { request = Decide v e true; reply = reply } ∷ [])
publishing_commit w v e reply same = record { own = and_from ((v == w) && true) true (and_from (v == w) true (eq-eqb v w same) refl) refl; commits = omega arith }

-- markers
all_markers-append : (w : ℕ) (xs ys : List Entry) → all_markers w xs ≡ true → all_markers w ys ≡ true → all_markers w (xs ++ ys) ≡ true
all_markers-append w [] ys h g = g
all_markers-append w (x ∷ xs) ys h g =
    let both = and_parts (writes_marker w x.request) (all_markers w xs) h in
    and_from (writes_marker w x.request) (all_markers w (xs ++ ys)) both.0 (all_markers-append w xs ys both.1 g)

marker_is : (w : ℕ) (request : Request) → writes_marker w request ≡ true → (publishes w request ≡ true) × (decides_commit request ≡ false)
marker_is w (MarkNext v) h = (h, refl)
marker_is w (Produce p rec) h = absurd cc
marker_is w (Init v) h = absurd cc
marker_is w (Add v d p) h = absurd cc
marker_is w (Append v d number t p rs) h = absurd cc
marker_is w (SendOffsets v d g t offsets order late) h = absurd cc
marker_is w (Decide v d commit) h = absurd cc
marker_is w (Join v) h = absurd cc
marker_is w (Expire v) h = absurd cc
marker_is w (Hold v held) h = absurd cc
marker_is w (Probe v g) h = absurd cc
marker_is w (Assign v g a) h = absurd cc
marker_is w (Park instance t) h = absurd cc
marker_is w (Unpark instance t) h = absurd cc

pub markers_publish : (w : ℕ) (entries : List Entry) → all_markers w entries ≡ true → IsPublishing w 0 entries
markers_publish w [] h = publishing_none w 0
markers_publish w (x ∷ xs) h =
    let both = and_parts (writes_marker w x.request) (all_markers w xs) h in
    let is = marker_is w x.request both.0 in
    let more = markers_publish w xs both.1 in
    record { own = and_from (publishes w x.request) (all_publish w xs) is.0 more.own; commits = subst (λ b. cond b (count_commits xs + 1) (count_commits xs) ≤ 0) (sym is.1) more.commits }

-- they produce nothing
pub publishing_quiet : (w : ℕ) (entries : List Entry) → all_publish w entries ≡ true → produce_none entries ≡ true
publishing_quiet w [] h = refl
publishing_quiet w (x ∷ xs) h = let both = and_parts (publishes w x.request) (all_publish w xs) h in by x.request both.0 (publishing_quiet w xs both.1)
  where
    by : (request : Request) → publishes w request ≡ true → produce_none xs ≡ true → cond (is_produce request) false (produce_none xs) ≡ true
    by (Produce p rec) own e = absurd cc
    by (Init v) own e = e
    by (Add v d p) own e = e
    by (Append v d number t p rs) own e = e
    by (SendOffsets v d g t offsets order late) own e = e
    by (Decide v d commit) own e = e
    by (MarkNext v) own e = e
    by (Join v) own e = e
    by (Expire v) own e = e
    by (Hold v held) own e = e
    by (Probe v g) own e = e
    by (Assign v g a) own e = e
    by (Park instance t) own e = e
    by (Unpark instance t) own e = e

-- ---- a cluster that goes on
pub later_setup : {W : Type 0} (plan : W → TaskPlan) (old new : ClusterView W) (more : List Entry) → IsLonger old new more → setup_of plan new ≡ setup_of plan old
later_setup plan old new more is = ap (setup_of plan) is

pub later_state : {W : Type 0} (plan : W → TaskPlan) (old new : ClusterView W) (more : List Entry) → IsLonger old new more → state_of plan new ≡ state_after (setup_of plan old) (state_of plan old) more
later_state plan old new more is = ap (state_of plan) is ∙ state_after-append (setup_of plan old) start old.journal more

pub longer_both : {W : Type 0} (old mid new : ClusterView W) (xs ys : List Entry) → IsLonger old mid xs → IsLonger mid new ys → IsLonger old new (xs ++ ys)
longer_both {W} old mid new xs ys a b = b ∙ ap (λ (c : ClusterView W). record { work = c.work; counts = c.counts; tasks = c.tasks; journal = c.journal ++ ys }) a
    ∙ ap (λ (j : List Entry). record { work = old.work; counts = old.counts; tasks = old.tasks; journal = j }) (append_assoc old.journal xs ys)

pub commits_both : {W : Type 0} (plan : W → TaskPlan) (old mid : ClusterView W) (xs ys : List Entry) (t : TaskId) → IsLonger old mid xs →
    commits_for (setup_of plan old) (state_of plan old) (xs ++ ys) t ≡ commits_for (setup_of plan old) (state_of plan old) xs t ++ commits_for (setup_of plan mid) (state_of plan mid) ys t
commits_both plan old mid xs ys t is =
    commits_for-append (setup_of plan old) (state_of plan old) xs ys t
    ∙ ap (λ l. commits_for (setup_of plan old) (state_of plan old) xs t ++ l)
    (ap₂ (λ (setup : Setup) (s : State). commits_for setup s ys t) (sym (later_setup plan old mid xs is)) (sym (later_state plan old mid xs is)))

-- after some entries, whatever more there are
pub longer_more : {W : Type 0} (w m n : ℕ) (old mid new : ClusterView W) (xs : List Entry) → IsLonger old mid xs → IsPublishing w m xs → Longer w n mid new → Longer w (m + n) old new
longer_more w m n old mid new xs is a b = record { more = xs ++ b.more; is = longer_both old mid new xs b.more is b.is; publishing = publishing_both w m n xs b.more a b.publishing }

pub on_err : {T E P : Type 0} (r : Result T E) → P → OnErr r P
on_err (Ok x) p = tt
on_err (Err e) p = p

pub longer_nothing : {W : Type 0} (c : ClusterView W) → IsLonger c c []
longer_nothing {W} c = ap (λ (j : List Entry). record { work = c.work; counts = c.counts; tasks = c.tasks; journal = j }) (sym (append-nil c.journal))

-- ---- one request that isn't refused
pub new_state : {W : Type 0} (plan : W → TaskPlan) (old new : ClusterView W) (request : Request) (reply : Reply) → AddsEntry plan old new request reply → refusal (setup_of plan old) (state_of plan old) request ≡ None
    → state_of plan new ≡ effect (state_of plan old) request
new_state plan old new request reply a free = answered_state plan old new request reply a ∙ ap (state_by (state_of plan old) request) free

pub one_commits : {W : Type 0} (plan : W → TaskPlan) (old : ClusterView W) (request : Request) (reply : Reply) (t : TaskId) → refusal (setup_of plan old) (state_of plan old) request ≡ None
    → commits_for (setup_of plan old) (state_of plan old) (record { request = request; reply = reply } ∷ []) t ≡ commits_by (state_of plan old) request None t
one_commits plan old request reply t free = append-nil (commits_by (state_of plan old) request (refusal (setup_of plan old) (state_of plan old) request) t) ∙ ap (λ r. commits_by (state_of plan old) request r t) free

-- one entry more, or none
pub longer_one : {W : Type 0} (plan : W → TaskPlan) (w : ℕ) (old new : ClusterView W) (request : Request) (reply : Reply) → AddsEntry plan old new request reply → publishes w request ≡ true → decides_commit request ≡ false → Longer w 0 old new
longer_one plan w old new request reply a own undecided = record { more = record { request = request; reply = reply } ∷ []; is = a.journal; publishing = publishing_one w request reply own undecided }

pub longer_same : {W : Type 0} (w n : ℕ) (old new : ClusterView W) → new ≡ old → Longer w n old new
longer_same w n old new same = record { more = []; is = same ∙ longer_nothing old; publishing = publishing_none w n }

-- ---- what is sent
pub sends_one : {W : Type 0} (plan : W → TaskPlan) (old new : ClusterView W) (w : ℕ) (adds : List PartId) (puts : List Put) (ps : List Pending) (request : Request) (reply : Reply) → AddsEntry plan old new request reply
    → refusal (setup_of plan old) (state_of plan old) request ≡ None → publishes w request ≡ true → decides_commit request ≡ false → ((t : TaskId) → commits_by (state_of plan old) request None t ≡ [])
    → Gains (state_of plan old) (effect (state_of plan old) request) w adds puts ps → Sends plan old new w adds puts ps
sends_one plan old new w adds puts ps request reply a free own undecided none gains = record {
  more = record { request = request; reply = reply } ∷ [];
  is = a.journal;
  publishing = publishing_one w request reply own undecided;
  commits = λ t. one_commits plan old request reply t free ∙ none t;
  gains = subst (λ (s : State). Gains (state_of plan old) s w adds puts ps) (sym (new_state plan old new request reply a free)) gains;
}

pub sends_both : {W : Type 0} (plan : W → TaskPlan) (old mid new : ClusterView W) (w : ℕ) (adds adds' : List PartId) (puts puts' : List Put) (ps ps' : List Pending) → Sends plan old mid w adds puts ps → Sends plan mid new w adds' puts' ps'
    → Sends plan old new w (adds ++ adds') (puts ++ puts') (ps ++ ps')
sends_both plan old mid new w adds adds' puts puts' ps ps' a b = record {
  more = a.more ++ b.more;
  is = longer_both old mid new a.more b.more a.is b.is;
  publishing = publishing_both w 0 0 a.more b.more a.publishing b.publishing;
  commits = λ t. commits_both plan old mid a.more b.more t a.is ∙ ap₂ (λ x y. x ++ y) (a.commits t) (b.commits t);
  gains = gains_both (state_of plan old) (state_of plan mid) (state_of plan new) w adds adds' puts puts' ps ps' a.gains b.gains;
}

pub sends_nothing : {W : Type 0} (plan : W → TaskPlan) (c : ClusterView W) (w : ℕ) → Sends plan c c w [] [] []
sends_nothing {W} plan c w = record {
  more = [];
  is = longer_nothing c;
  publishing = publishing_none w 0;
  commits = λ t. refl;
  gains = gains_nothing (state_of plan c) w;
}

-- ---- what is marked
pub marked_both : {W : Type 0} (plan : W → TaskPlan) (old mid new : ClusterView W) (w : ℕ) → Marked plan old mid w → Marked plan mid new w → Marked plan old new w
marked_both plan old mid new w a b = record {
  more = a.more ++ b.more;
  is = longer_both old mid new a.more b.more a.is b.is;
  own = all_markers-append w a.more b.more a.own b.own;
  commits = λ t. commits_both plan old mid a.more b.more t a.is ∙ ap₂ (λ x y. x ++ y) (a.commits t) (b.commits t);
  marks = marks_both (state_of plan old) (state_of plan mid) (state_of plan new) w a.marks b.marks;
}

pub marked_nothing : {W : Type 0} (plan : W → TaskPlan) (c : ClusterView W) (w : ℕ) → Marked plan c c w
marked_nothing {W} plan c w = record {
  more = [];
  is = longer_nothing c;
  own = refl;
  commits = λ t. refl;
  marks = marks_nothing (state_of plan c) w;
}

-- the entries of another name of the worker
pub marked_longer : {W : Type 0} (plan : W → TaskPlan) (w v : ℕ) (old new : ClusterView W) → v ≡ w → Marked plan old new v → Longer w 0 old new
marked_longer plan w v old new same marked = record { more = marked.more; is = marked.is; publishing = subst (λ (u : ℕ). IsPublishing u 0 marked.more) same (markers_publish v marked.more marked.own) }
