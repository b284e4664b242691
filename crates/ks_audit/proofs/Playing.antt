-- An entry that is played.
use Rattle.std.proofs.Common.{◌≡◌, ℕ, ◌<◌, ◌≤◌, Bool, true, false, List, [], ◌∷◌, ◌++◌, length, get_or, Option, Some, None, IfSome, is_some, refl, sym, ap, ap₂, subst, ◌∙◌, arith}
use Rattle.std.specs.Global.{Vec}
use Rattle.std.specs.Prelude.{◌↔◌}
use Rattle.std.proofs.lemmas.Bool.{true≢false}
use Rattle.ks_record.specs.declared.record.TaskId.{TaskId}
use Rattle.ks_plan.specs.Drafts.{DraftView}
use Rattle.ks_plan.specs.Plan.{Plan, plan_of}
use Rattle.ks_def_tasks.specs.Messages.{Rules}
use Rattle.ks_history.specs.declared.journal.Request.{Request}
use Rattle.ks_history.specs.declared.journal.Request.TheVariants.{Decide}
use Rattle.ks_history.specs.declared.journal.Reply.{Reply}
use Rattle.ks_history.specs.declared.journal.Reply.TheVariants.{Done}
use Rattle.ks_history.specs.declared.journal.Entry.{Entry}
use Rattle.ks_history.specs.declared.transaction.Transaction.{Transaction}
use Rattle.ks_history.specs.Machine.{TaskPlan, IsNetwork}
use Rattle.ks_history.specs.State.{State, Setup, IsSetup}
use Rattle.ks_history.specs.Step.{refusal, reply_by}
use Rattle.ks_history.specs.History.{at, IsHistory, IsStep, Meets, CommitsFaithfully, IsFaithfulEntry}
use Rattle.ks_cluster.specs.Placed.{PlacementTest}
use Rattle.ks_cluster.specs.View.{ClusterView, setup_of, state_of, setup_from}
use Rattle.ks_audit_entry.specs.declared.conditions.Conditions.{Conditions}
use Rattle.ks_audit_entry.specs.Outcomes.{FindsAllGood, Replayed}
use Rattle.ks_audit_ledger.specs.declared.account.Account.{Account}
use Rattle.ks_audit_ledger.specs.Accounts.{blank, owner_of}
use Rattle.ks_audit_ledger.specs.Ledgers.{IsLedger}
use Rattle.ks_audit_ledger.proofs.Keeping.{owner_small}
use Rattle.ks_audit_commit.specs.declared.audited.AuditedTask.{AuditedTask}
use Rattle.ks_audit.specs.declared.replay.Played.{Played}
use Rattle.ks_audit.specs.Audited.{IsFirstUnfaithful}
use Rattle.ks_audit.specs.Playing.{IsPlayed, IsFirstOf, commit_at, names_in}
use Rattle.ks_audit.specs.Entries.{IsOpenAt, IsReady, MayKeep, IsPlayedBy, IsReadyBy, MakesEntry, GoesOn}
use Rattle.ks_audit.proofs.Keeping.{faithful_ready, accepted_at, Accepted, open_at}

-- ---- whose account an entry is of
pub owner_few : (setup : Setup) (s : State) (request : Request) → Meets setup s request → IfSome (owner_of request) (λ w. w ≤ 16)
owner_few setup s request m = by (owner_of request) refl
  where
    by : (o : Option ℕ) → owner_of request ≡ o → IfSome o (λ w. w ≤ 16)
    by None h = tt
    by (Some v) h = owner_small setup s request v m h

pub owner_within : (setup : Setup) (s : State) (request : Request) (n : ℕ) → n ≡ 17 → Meets setup s request → IfSome (owner_of request) (λ w. w < n)
owner_within setup s request n is m = by (owner_of request) refl
  where
    by : (o : Option ℕ) → owner_of request ≡ o → IfSome o (λ w. w < n)
    by None h = tt
    by (Some v) h = let few = owner_small setup s request v m h in omega (arith, few, is)

-- ---- a commit that is accepted
pub commit_few : (setup : Setup) (journal : List Entry) (ledger : List Account) (request : Request) (commit : Option ℕ) → IsLedger setup journal ledger → Meets setup (at setup journal) request → commit ≡ commit_at ledger request → IfSome commit (λ w. w ≤ 16)
commit_few setup journal ledger request None is m found = tt
commit_few setup journal ledger request (Some w) is m found = (accepted_at setup journal ledger w request is m (sym found)).few

pub commit_open : (setup : Setup) (journal : List Entry) (ledger : List Account) (request : Request) (commit : Option ℕ) → IsLedger setup journal ledger → Meets setup (at setup journal) request → commit ≡ commit_at ledger request → IsOpenAt ledger commit
commit_open setup journal ledger request None is m found = tt
commit_open setup journal ledger request (Some w) is m found =
    let few = (accepted_at setup journal ledger w request is m (sym found)).few in
    (omega (arith, few, is.count), open_at ledger setup (at setup journal) w request (sym found))

-- its reply is that of the step only if it is so answered
pub must_answer : (setup : Setup) (journal : List Entry) (ledger : List Account) (entry : Entry) (commit : Option ℕ) → IsLedger setup journal ledger → Meets setup (at setup journal) entry.request → commit ≡ commit_at ledger entry.request → IsStep setup (at setup journal) entry →
    IfSome commit (λ w. entry.reply ≡ Done)
must_answer setup journal ledger entry None is m found step = tt
must_answer setup journal ledger entry (Some w) is m found step =
    let a = accepted_at setup journal ledger w entry.request is m (sym found) in
    step.reply ∙ ap (λ (r : Request). reply_by (at setup journal) r (refusal setup (at setup journal) r)) a.is ∙ ap (reply_by (at setup journal) (Decide w a.epoch true)) a.accepted

-- and where it is, it is a step
pub answered_step : (setup : Setup) (journal : List Entry) (ledger : List Account) (entry : Entry) (w : ℕ) → IsLedger setup journal ledger → Meets setup (at setup journal) entry.request → Some w ≡ commit_at ledger entry.request → entry.reply ≡ Done → IsStep setup (at setup journal) entry
answered_step setup journal ledger entry w is m found done =
    let a = accepted_at setup journal ledger w entry.request is m (sym found) in
    record {
      meets = m;
      reply = done ∙ sym (ap (λ (r : Request). reply_by (at setup journal) r (refusal setup (at setup journal) r)) a.is ∙ ap (reply_by (at setup journal) (Decide w a.epoch true)) a.accepted);
    }

pub first_unfaithful : (setup : Setup) (journal : List Entry) (ledger : List Account) (request : Request) (w : ℕ) (tx : Transaction) (t : TaskId) → IsLedger setup journal ledger → Meets setup (at setup journal) request → Some w ≡ commit_at ledger request →
    ((at setup journal).producer w).undecided ≡ Some tx → IsFirstOf setup (at setup journal) w tx t → IsFirstUnfaithful setup (at setup journal) request t
first_unfaithful setup journal ledger request w tx t is m found undecided first =
    let a = accepted_at setup journal ledger w request is m (sym found) in
    record {
      w = w;
      epoch = a.epoch;
      commits = a.is;
      accepted = ap (refusal setup (at setup journal)) a.is ∙ a.accepted;
      tx = tx;
      undecided = undecided;
      this = first.this;
      front = first.front;
      rest = first.rest;
      order = first.order;
      first = first.first;
    }

-- ---- an entry that is made
module _ {W : Type 0} (plan : W → TaskPlan) (good : W → PlacementTest) (rules : Rules) (d : DraftView) (x : Played W) (commit : Option ℕ) (entry : Entry) (ready : IsReadyBy plan good rules d x commit entry) where
  pub ready_faithful : CommitsFaithfully (setup_of plan x.cluster) (state_of plan x.cluster) entry.request
  ready_faithful = faithful_ready d (setup_of plan x.cluster) x.cluster.journal x.ledger.items commit entry.request x.tasks.items ready.ledger_is ready.meets ready.commit_is ready.names ready.ready

  pub may_keep : IsHistory (setup_of plan x.cluster) x.cluster.journal → IsHistory (setup_of plan x.cluster) (x.cluster.journal ++ entry ∷ []) → IsStep (setup_of plan x.cluster) (state_of plan x.cluster) entry →
      MayKeep d (setup_of plan x.cluster) x.cluster.journal commit entry x.ledger.items x.tasks.items
  may_keep before history step = record {
    network = ready.network;
    before = before;
    history = history;
    step = step;
    made = ready.made;
    once = ready.once;
    ledger_is = ready.ledger_is;
    commit_is = ready.commit_is;
    names = ready.names;
    ready = ready.ready;
  }

  pub made_on : (told : Bool) (mid : ClusterView W) (new : Played W) → told ≡ true → Replayed plan x.cluster mid entry told → IsHistory (setup_of plan x.cluster) x.cluster.journal → IsHistory (setup_of plan mid) mid.journal → new.cluster ≡ mid → new.conditions ≡ x.conditions →
      ((d : DraftView) (setup : Setup) (journal : List Entry) → MayKeep d setup journal commit entry x.ledger.items x.tasks.items → IsPlayed d setup (journal ++ entry ∷ []) new.ledger.items new.tasks.items) → MakesEntry plan good rules d true x new entry
  made_on told mid new did replayed before behind same conditions keeps =
      let now : new.cluster ≡ record x.cluster { journal = x.cluster.journal ++ entry ∷ [] } = same ∙ replayed.same did in
      let step = replayed.step did in
      let history : IsHistory (setup_of plan x.cluster) (x.cluster.journal ++ entry ∷ []) = subst (λ (k : ClusterView W). IsHistory (setup_of plan k) k.journal) (replayed.same did) behind in
      let kept = keeps d (setup_of plan x.cluster) x.cluster.journal (may_keep before history step) in
      record {
        step = λ _. step;
        journal = λ _. ap (λ (k : ClusterView W). k.journal) now;
        kept = λ _. record {
          setup = ap (setup_of plan) now ∙ ready.setup;
          conditions = ap (setup_of plan) now ∙ ready.conditions ∙ ap (λ (k : Conditions W). setup_from (plan k.work) k.counts.items k.tasks.items) (sym conditions);
          all_good = subst (λ (k : ClusterView W). FindsAllGood (good k.work)) (sym now) ready.all_good;
          kept = subst (λ (k : ClusterView W). IsPlayed d (setup_of plan k) k.journal new.ledger.items new.tasks.items) (sym now) kept;
        };
        no = λ e. absurd cc;
      }

  pub not_made : (told : Bool) (mid : ClusterView W) (new : Played W) → told ≡ false → Replayed plan x.cluster mid entry told → MakesEntry plan good rules d false x new entry
  not_made told mid new not_told replayed = record {
    step = λ e. absurd cc;
    journal = λ e. absurd cc;
    kept = λ e. absurd cc;
    no = λ _ step. true≢false (sym (replayed.other step) ∙ not_told);
  }

-- ---- from what is kept to what may be made
pub ready_to_make : {W : Type 0} (plan : W → TaskPlan) (good : W → PlacementTest) (rules : Rules) (d : DraftView) (x : Played W) (tasks : Vec AuditedTask) (commit : Option ℕ) (entry : Entry) → IsNetwork (plan x.cluster.work) → IsPlayedBy plan good rules d x →
    Meets (setup_of plan x.cluster) (state_of plan x.cluster) entry.request → commit ≡ commit_at x.ledger.items entry.request → names_in tasks.items ≡ x.cluster.tasks → IsReady d (setup_of plan x.cluster) x.cluster.journal commit tasks.items →
    IsReadyBy plan good rules d (record x { tasks = tasks }) commit entry
ready_to_make plan good rules d x tasks commit entry net played meets commit_is names ready = record {
  setup = played.setup;
  conditions = played.conditions;
  all_good = played.all_good;
  network = net;
  made = played.kept.made;
  once = played.kept.once;
  ledger_is = played.kept.ledger_is;
  names = names;
  ready = ready;
  commit_is = commit_is;
  meets = meets;
}
