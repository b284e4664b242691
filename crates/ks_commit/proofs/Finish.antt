-- A commit of several works, from begin to end.
use Rattle.std.proofs.Common.{◌≡◌, ◌≢◌, ℕ, zero, suc, ◌+◌, ◌<◌, Bool, true, false, cond, ◌||◌, List, [], ◌∷◌, ◌++◌, length, get_or, Option, Some, None, refl, sym, ap, ap₂, subst, ◌∙◌, arith, append-nil}
use Rattle.std.specs.Prelude.{◌==◌}
use Rattle.std.specs.List.{All}
use Rattle.std.proofs.lemmas.Bool.{eqb-true, true≢false}
use Rattle.ks_record.specs.Records.{Record as Rec}
use Rattle.ks_record.specs.declared.record.PartId.{PartId}
use Rattle.ks_record.specs.declared.record.TaskId.{TaskId}
use Rattle.ks_record.specs.Parts.{same_part}
use Rattle.ks_history.specs.declared.partition.Slot.{Slot}
use Rattle.ks_history.specs.declared.journal.Entry.{Entry}
use Rattle.ks_history.specs.declared.journal.Request.TheVariants.{Decide}
use Rattle.ks_history.specs.declared.journal.Reply.{Reply}
use Rattle.ks_history.specs.declared.transaction.Pending.{Pending}
use Rattle.ks_history.specs.declared.transaction.Producer.{Producer}
use Rattle.ks_history.specs.declared.transaction.Transaction.{Transaction}
use Rattle.ks_history.specs.Partition.{count_sent}
use Rattle.ks_history.specs.Machine.{TaskPlan, IsNetwork}
use Rattle.ks_history.specs.State.{State, Setup, IsPart, has_part, has_task, pending_of, offset_in, committed_with}
use Rattle.ks_history.specs.Step.{refusal, effect, fenced, none_undecided, tx_of, no_tx, pending_at, owner}
use Rattle.ks_history.specs.Faithful.{IsFaithful}
use Rattle.ks_history.specs.History.{IsHistory, CommitsFaithfully}
use Rattle.ks_history.proofs.Names.{same_task-refl}
use Rattle.ks_law_exactly_once.proofs.Quiet.{tx_is}
use Rattle.ks_law_exactly_once.proofs.Replays.{whole}
use Rattle.ks_cluster.specs.View.{ClusterView, setup_of, state_of, AddsEntry}
use Rattle.ks_law_restore.specs.Views.{WorkView, names_part, pending_work}
use Rattle.ks_law_restore.specs.Commits.{commit_by}
use Rattle.ks_commit.specs.declared.publisher.Publisher.{Publisher}
use Rattle.ks_commit.specs.Alone.{IsIdle}
use Rattle.ks_commit.specs.Sending.{put_count, IsPublishing, Sends, Marked, adds_in, puts_in, adds_of, puts_of, pendings_of}
use Rattle.ks_commit.specs.Committed.{IsReady, IsSame, IsSending, EachMay, EachOf, EachPlaced, AreApart, names_in, own_in, own_of_each, ends_of_each, EachEnds, Committed}
use Rattle.ks_commit.proofs.Slots.{is_stable}
use Rattle.ks_commit.proofs.Gaining.{has_part-append, put_count-append}
use Rattle.ks_commit.proofs.Free.{none_then, not_fenced, has_tx, can_decide}
use Rattle.ks_commit.proofs.Faith.{or_false, is_faithful, pending_now}
use Rattle.ks_commit.proofs.Marking.{Decides, decide_decides}
use Rattle.ks_commit.proofs.Entries.{later_setup, longer_both, commits_both, publishing_both, publishing_commit, markers_publish, new_state, one_commits}
use Rattle.ks_commit.proofs.Ends.{each_ends}

-- ---- works
pub each_of : (setup : Setup) (s : State) (fs : List WorkView) → EachMay setup s fs → EachOf setup s fs
each_of setup s [] may = tt
each_of setup s (f ∷ fs) may = (record { task = may.0.work.task; offsets = may.0.work.offsets; parts = may.0.parts }, each_of setup s fs may.1)

adds_named : (q : PartId) (outs : List (PartId × List Rec)) → has_part q (adds_in outs) ≡ names_part q outs
adds_named q [] = refl
adds_named q (out ∷ outs) = by (same_part q out.0) (adds_named q outs)
  where
    by : (b : Bool) → has_part q (adds_in outs) ≡ names_part q outs → b || has_part q (adds_in outs) ≡ cond b true (names_part q outs)
    by true h = refl
    by false h = h

names_adds : (q : PartId) (fs : List WorkView) → has_part q (adds_of fs) ≡ names_in q fs
names_adds q [] = refl
names_adds q (f ∷ fs) = has_part-append q (adds_in f.outputs) (adds_of fs) ∙ ap₂ (λ a b. a || b) (adds_named q f.outputs) (names_adds q fs)

none_counted : (q : PartId) (t : TaskId) (outs : List (PartId × List Rec)) → names_part q outs ≡ false → put_count q (puts_in t outs) ≡ 0
none_counted q t [] h = refl
none_counted q t (out ∷ outs) h = by (same_part q out.0) h (λ g. none_counted q t outs g)
  where
    by : (b : Bool) → cond b true (names_part q outs) ≡ false → (names_part q outs ≡ false → put_count q (puts_in t outs) ≡ 0) → cond b (length out.1 + put_count q (puts_in t outs)) (put_count q (puts_in t outs)) ≡ 0
    by true g more = absurd (true≢false g)
    by false g more = more g

none_put : (q : PartId) (fs : List WorkView) → names_in q fs ≡ false → put_count q (puts_of fs) ≡ 0
none_put q [] h = refl
none_put q (f ∷ fs) h =
    let both : (names_part q f.outputs ≡ false) × (names_in q fs ≡ false) = or_false (names_part q f.outputs) (names_in q fs) h in
    omega (arith, put_count-append q (puts_in f.task f.outputs) (puts_of fs), none_counted q f.task f.outputs both.0, none_put q fs both.1)

no_slots : (xs : List Slot) → length xs ≡ 0 → xs ≡ []
no_slots [] h = refl
no_slots (x ∷ xs) h = absurd (omega (arith, h))

-- a task's own partitions are the cluster's, if those of its outputs are
own_placed : (setup : Setup) (t : TaskId) (outs : List (PartId × List Rec)) → All (λ (out : PartId × List Rec). IsPart setup out.0) outs → All (IsPart setup) (own_in t outs)
own_placed setup t [] each = λ k d lt. absurd (omega (arith, lt))
own_placed setup t (out ∷ outs) each = by (out.0.part == t.part) (own_placed setup t outs (λ k d lt. each (suc k) d (omega (arith, lt))))
  where
    by : (b : Bool) → All (IsPart setup) (own_in t outs) → All (IsPart setup) (cond b (out.0 ∷ own_in t outs) (own_in t outs))
    by true more zero d lt = each 0 out (omega arith)
    by true more (suc k) d lt = more k d (omega (arith, lt))
    by false more k d lt = more k d lt

pub each_placed : (setup : Setup) (s : State) (fs : List WorkView) → EachMay setup s fs → EachPlaced setup (own_of_each fs)
each_placed setup s [] may = tt
each_placed setup s (f ∷ fs) may = (own_placed setup f.task f.outputs may.0.parts, each_placed setup s fs may.1)

pub placed_at : (setup : Setup) (all : List (List PartId)) (i : ℕ) (own parts : List PartId) → EachPlaced setup all → i < length all → own ≡ get_or all i own → parts ≡ own → All (IsPart setup) parts
placed_at setup [] i own parts each lt is same = absurd (omega (arith, lt))
placed_at setup (x ∷ xs) zero own parts each lt is same = subst (All (IsPart setup)) (sym (same ∙ is)) each.0
placed_at setup (x ∷ xs) (suc i) own parts each lt is same = placed_at setup xs i own parts each.1 (omega (arith, lt)) is same

-- ---- the decision
module _ {W : Type 0} (plan : W → TaskPlan) (old sent : ClusterView W) (p q : Publisher) (fs : List WorkView) (net : IsNetwork (plan old.work)) (history : IsHistory (setup_of plan old) old.journal) (ready : IsReady (setup_of plan old) (state_of plan old) p)
    (apart : AreApart fs) (may : EachMay (setup_of plan old) (state_of plan old) fs) (same : IsSame p q) (sends : Sends plan old sent p.worker (adds_of fs) (puts_of fs) (pendings_of fs)) where
  pub commits_faithfully : CommitsFaithfully (setup_of plan sent) (state_of plan sent) (Decide q.worker q.epoch true)
  commits_faithfully free =
      subst (λ w. (tx : Transaction) → ((state_of plan sent).producer w).undecided ≡ Some tx → IsFaithful (setup_of plan sent) (state_of plan sent) w tx) (sym same.0)
      (subst (λ (setup : Setup). (tx : Transaction) → ((state_of plan sent).producer p.worker).undecided ≡ Some tx → IsFaithful setup (state_of plan sent) p.worker tx) (sym (later_setup plan old sent sends.more sends.is))
      (is_faithful (setup_of plan old) (state_of plan old) (state_of plan sent) p.worker fs (whole (setup_of plan old) net old.journal history).sound ready.alone.idle sends.gains apart may))

  pending_is : (t : TaskId) → pending_of t (pending_at ((state_of plan sent).producer p.worker)) ≡ pending_of t (pendings_of fs)
  pending_is = pending_now (setup_of plan old) (state_of plan old) (state_of plan sent) p.worker fs (whole (setup_of plan old) net old.journal history).sound ready.alone.idle sends.gains apart

  is_open : fs ≢ [] → (tx : Transaction) × (((state_of plan sent).producer p.worker).undecided ≡ Some tx)
  is_open some = by fs refl
    where
      by : (gs : List WorkView) → fs ≡ gs → (tx : Transaction) × (((state_of plan sent).producer p.worker).undecided ≡ Some tx)
      by [] e = absurd (some e)
      by (f ∷ gs) e =
          has_tx ((state_of plan sent).producer p.worker) f.task (pending_work f)
          (pending_is f.task ∙ ap (λ l. pending_of f.task (pendings_of l)) e ∙ ap (λ b. cond b (Some (pending_work f)) (pending_of f.task (pendings_of gs))) (same_task-refl f.task))

  pub decide_free : fs ≢ [] → IsSending (setup_of plan sent) (state_of plan sent) q → refusal (setup_of plan sent) (state_of plan sent) (Decide q.worker q.epoch true) ≡ None
  decide_free some sending =
      none_then (fenced ((state_of plan sent).producer q.worker) q.epoch) (none_undecided ((state_of plan sent).producer q.worker))
      (not_fenced ((state_of plan sent).producer q.worker) q.epoch sending.epoch)
      (can_decide ((state_of plan sent).producer q.worker) (is_open some).0 (ap (λ w. ((state_of plan sent).producer w).undecided) same.0 ∙ (is_open some).1))

  module _ (decided new : ClusterView W) (reply : Reply) (some : fs ≢ []) (sending : IsSending (setup_of plan sent) (state_of plan sent) q) (free : refusal (setup_of plan sent) (state_of plan sent) (Decide q.worker q.epoch true) ≡ None) (decides : AddsEntry plan sent decided (Decide q.worker q.epoch true) reply) (marked : Marked plan decided new q.worker)
      (done : ((state_of plan new).producer q.worker).waiting ≡ []) (after : IsHistory (setup_of plan new) new.journal) where
    abbrev tx : Transaction
    tx = (is_open some).0

    undecided : ((state_of plan sent).producer q.worker).undecided ≡ Some tx
    undecided = ap (λ w. ((state_of plan sent).producer w).undecided) same.0 ∙ (is_open some).1

    decided_is : state_of plan decided ≡ effect (state_of plan sent) (Decide q.worker q.epoch true)
    decided_is = new_state plan sent decided (Decide q.worker q.epoch true) reply decides free

    d : Decides (state_of plan sent) (state_of plan decided) q.worker tx
    d = subst (λ (s : State). Decides (state_of plan sent) s q.worker tx) (sym decided_is) (decide_decides (state_of plan sent) q.worker q.epoch tx undecided sending.waiting)

    away : (v : ℕ) → (v == q.worker) ≡ false → (state_of plan new).producer v ≡ (state_of plan old).producer v
    away v h = marked.marks.others v h ∙ d.others v h ∙ sends.gains.others v (ap (λ w. v == w) (sym same.0) ∙ h)

    now_idle : IsIdle (state_of plan new)
    now_idle v = by (v == q.worker) refl
      where
        by : (b : Bool) → (v == q.worker) ≡ b → (((state_of plan new).producer v).undecided ≡ None) × (((state_of plan new).producer v).waiting ≡ [])
        by true is = (
          ap (λ k. ((state_of plan new).producer k).undecided) (eqb-true v q.worker is) ∙ marked.marks.undecided ∙ d.undecided,
          ap (λ k. ((state_of plan new).producer k).waiting) (eqb-true v q.worker is) ∙ done,
        )
        by false is = (ap (λ (x : Producer). x.undecided) (away v is) ∙ (ready.alone.idle v).0, ap (λ (x : Producer). x.waiting) (away v is) ∙ (ready.alone.idle v).1)

    pub new_setup : setup_of plan new ≡ setup_of plan sent
    new_setup = later_setup plan decided new marked.more marked.is ∙ later_setup plan sent decided (record { request = Decide q.worker q.epoch true; reply = reply } ∷ []) decides.journal

    pub now_ready : IsReady (setup_of plan new) (state_of plan new) q
    now_ready = record {
      alone = record {
        idle = now_idle;
        worker = sending.worker;
        epoch = marked.marks.epoch ∙ d.epoch ∙ sending.epoch;
        generation = marked.marks.generation ∙ ap (λ (s : State). s.generation) decided_is ∙ sending.generation;
        owns = λ t h. marked.marks.owners t ∙ ap (λ (s : State). owner s t) decided_is ∙ sending.owns t (ap (λ (setup : Setup). has_task t setup.tasks) (sym new_setup) ∙ h);
      };
      numbers = λ r. sending.numbers r ∙ sym (marked.marks.count q.worker q.epoch r ∙ ap (λ (s : State). count_sent q.worker q.epoch (s.partition r)) decided_is);
    }

    none_added : (r : PartId) → has_part r (tx_of ((state_of plan old).producer p.worker)).parts ≡ false
    none_added r = ap (λ (u : Option Transaction). has_part r (elim u as (λ _. Transaction) [ None ↦ no_tx | Some tx ↦ tx ]).parts) (ready.alone.idle p.worker).0

    tx_parts : (r : PartId) → has_part r tx.parts ≡ names_in r fs
    tx_parts r =
        ap (λ (x : Transaction). has_part r x.parts) (sym (tx_is ((state_of plan sent).producer p.worker) tx (is_open some).1))
        ∙ sends.gains.parts r
        ∙ ap (λ b. b || has_part r (adds_of fs)) (none_added r)
        ∙ names_adds r fs

    unmoved : (r : PartId) → names_in r fs ≡ false → (state_of plan new).partition r ≡ (state_of plan old).partition r
    unmoved r h =
        marked.marks.partition r (d.waiting r ∙ tx_parts r ∙ h)
        ∙ ap (λ (s : State). s.partition r) decided_is
        ∙ sends.gains.partition r
        ∙ ap (λ l. (state_of plan old).partition r ++ l) (no_slots (sends.gains.slots r) (sends.gains.count r ∙ none_put r fs h))
        ∙ append-nil ((state_of plan old).partition r)

    now_committed : (t : TaskId) (topic : ℕ) → (state_of plan new).committed t topic ≡ committed_with (state_of plan old).committed (pendings_of fs) t topic
    now_committed t topic =
        ap (λ (c : TaskId → ℕ → ℕ). c t topic) marked.marks.committed
        ∙ ap (λ (s : State). s.committed t topic) decided_is
        ∙ ap₂ (λ (o : Option Pending) (c : TaskId → ℕ → ℕ). elim o as (λ _. ℕ) [ None ↦ c t topic | Some x ↦ offset_in (c t topic) topic x.offsets ])
        (ap (λ w. pending_of t (pending_at ((state_of plan sent).producer w))) same.0 ∙ pending_is t) sends.gains.committed

    pub all_committed : (told : List (List (ℕ × ℕ))) → told ≡ ends_of_each (state_of plan new) (own_of_each fs) → Committed plan old new p.worker fs told
    all_committed told is =
        let entry : List Entry = record { request = Decide q.worker q.epoch true; reply = reply } ∷ [] in
        record {
          more = (sends.more ++ entry) ++ marked.more;
          is = longer_both old decided new (sends.more ++ entry) marked.more (longer_both old sent decided sends.more entry sends.is decides.journal) marked.is;
          publishing = publishing_both p.worker 1 0 (sends.more ++ entry) marked.more (publishing_both p.worker 0 1 sends.more entry sends.publishing (publishing_commit p.worker q.worker q.epoch reply same.0)) (subst (λ (w : ℕ). IsPublishing w 0 marked.more) same.0 (markers_publish q.worker marked.more marked.own));
          commits = λ t.
              commits_both plan old decided (sends.more ++ entry) marked.more t (longer_both old sent decided sends.more entry sends.is decides.journal)
              ∙ ap₂ (λ x y. x ++ y)
              (commits_both plan old sent sends.more entry t sends.is
              ∙ ap₂ (λ x y. x ++ y) (sends.commits t)
              (one_commits plan sent (Decide q.worker q.epoch true) reply t free
              ∙ ap₂ commit_by same.0 (ap (λ w. pending_of t (pending_at ((state_of plan sent).producer w))) same.0 ∙ pending_is t)))
              (marked.commits t)
              ∙ append-nil (commit_by p.worker (pending_of t (pendings_of fs)));
          others = unmoved;
          committed = now_committed;
          ends = subst (EachEnds (setup_of plan old) (state_of plan new) fs) (sym is)
              (each_ends (setup_of plan old) (state_of plan old) (state_of plan new) fs (is_stable (setup_of plan new) new.journal new_net after now_idle) may);
        }
      where
        new_net : IsNetwork (plan new.work)
        new_net = subst (λ (setup : Setup). IsNetwork setup.plan) (sym (new_setup ∙ later_setup plan old sent sends.more sends.is)) net
