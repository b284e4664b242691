-- What an entry has to meet, and what it comes to.
use Rattle.std.proofs.Common.{◌≡◌, ℕ, ◌<◌, ◌≤◌, Bool, true, false, List, [], ◌∷◌, ◌++◌, length, get_or, Option, Some, None, IfSome, refl, sym, ap, ap₂, subst, ◌∙◌, arith}
use Rattle.std.specs.Prelude.{◌↔◌, ⊤, Result, Ok, IfOk}
use Rattle.std.proofs.lemmas.Bool.{true≢false}
use Rattle.ks_record.specs.declared.record.TaskId.{TaskId}
use Rattle.ks_plan.specs.Drafts.{DraftView}
use Rattle.ks_plan.specs.Plan.{Plan, plan_of}
use Rattle.ks_def_tasks.specs.Messages.{Rules}
use Rattle.ks_history.specs.declared.journal.Request.{Request}
use Rattle.ks_history.specs.declared.journal.Request.TheVariants.{Produce, Init, Add, Append, SendOffsets, Decide, MarkNext, Join, Expire, Hold, Probe, Assign, Park, Unpark}
use Rattle.ks_history.specs.declared.journal.Reply.TheVariants.{Done}
use Rattle.ks_history.specs.declared.journal.Entry.{Entry}
use Rattle.ks_history.specs.declared.transaction.Transaction.{Transaction}
use Rattle.ks_history.specs.Machine.{TaskPlan}
use Rattle.ks_history.specs.State.{State, Setup}
use Rattle.ks_history.specs.History.{at, IsStep, IsFaithfulEntry, Meets}
use Rattle.ks_law_topology.specs.Work.{work_of, setup_of as topology_setup}
use Rattle.ks_cluster.specs.Placed.{PlacementTest}
use Rattle.ks_cluster.specs.View.{ClusterView, setup_of, state_of}
use Rattle.ks_journal.specs.Lines.{entry_text}
use Rattle.ks_journal.specs.Fits.{FitsEntry}
use Rattle.ks_audit_entry.specs.Conditions.{meets}
use Rattle.ks_audit_entry.proofs.Tested.{meets_is_tested}
use Rattle.ks_audit_ledger.specs.declared.account.Account.{Account}
use Rattle.ks_audit_ledger.specs.declared.account.Open.{Open}
use Rattle.ks_audit_ledger.specs.Accounts.{blank}
use Rattle.ks_audit_ledger.specs.Ledgers.{IsLedger}
use Rattle.ks_audit_commit.specs.declared.audited.AuditedTask.{AuditedTask}
use Rattle.ks_audit.specs.declared.fault.AuditFault.{AuditFault}
use Rattle.ks_audit.specs.declared.fault.AuditFault.TheVariants.{NotJournal, NotLegal, NotFaithful}
use Rattle.ks_audit.specs.declared.fault.LineStop.{LineStop}
use Rattle.ks_audit.specs.declared.fault.LineStop.TheVariants.{Fault, Memory}
use Rattle.ks_audit.specs.declared.replay.Played.{Played}
use Rattle.ks_audit.specs.Audited.{IsPlaced, IsLineOf, IsTaken, IsFirstUnfaithful, IsRefused}
use Rattle.ks_audit.specs.Playing.{MayJudge, HasOpen, JudgesAll, AreJudged, IsFirstOf, commit_at, names_in}
use Rattle.ks_audit.specs.Entries.{IsSource, IsReady, IsCommitStop, IsPlayedBy, IsReadyBy, MakesEntry, GoesOn, IsHeldUp, PlaysEntry, IsWrong, IsStopped}
use Rattle.ks_audit.specs.Audits.{PlaysLine, IsLineStop}
use Rattle.ks_audit.proofs.Judged.{its}
use Rattle.ks_audit.proofs.Playing.{must_answer, answered_step, first_unfaithful, ready_faithful}

-- ---- conditions
pub allowed : (setup : Setup) (s : State) (request : Request) (b : Bool) → b ≡ meets setup s request → b ≡ true → Meets setup s request
allowed setup s request b is h = (meets_is_tested setup s request).0 (sym is ∙ h)

pub not_allowed : (setup : Setup) (s : State) (request : Request) (b : Bool) → b ≡ meets setup s request → b ≡ false → Meets setup s request → ⊥
not_allowed setup s request b is h m = true≢false (sym ((meets_is_tested setup s request).1 m) ∙ sym is ∙ h)

pub source_of : (setup : Setup) (s : State) (p : Plan) (request : Request) → setup.plan.sources ≡ length p.counts → Meets setup s request → IsSource p request
source_of setup s p (Produce part rec) is m = subst (λ n. part.topic < n) is m.0
source_of setup s p (Init w) is m = tt
source_of setup s p (Add w e q) is m = tt
source_of setup s p (Append w e number t q recs) is m = tt
source_of setup s p (SendOffsets w e g t offsets order late) is m = tt
source_of setup s p (Decide w e commit) is m = tt
source_of setup s p (MarkNext w) is m = tt
source_of setup s p (Join w) is m = tt
source_of setup s p (Expire w) is m = tt
source_of setup s p (Hold w held) is m = tt
source_of setup s p (Probe w g) is m = tt
source_of setup s p (Assign w g a) is m = tt
source_of setup s p (Park instance t) is m = tt
source_of setup s p (Unpark instance t) is m = tt

-- ---- a commit that is accepted
pub may_judge : {W : Type 0} (plan : W → TaskPlan) (good : W → PlacementTest) (rules : Rules) (d : DraftView) (x : Played W) → IsPlayedBy plan good rules d x → MayJudge plan rules d x.cluster
may_judge plan good rules d x played = record {
  work = ap (λ (s : Setup). s.plan) played.setup;
  made = played.kept.made;
  once = played.kept.once;
}

-- the first task for which it isn't faithful
pub commit_stops : (d : DraftView) (setup : Setup) (journal : List Entry) (w : ℕ) (o : Open) (t : TaskId) (found : Option TaskId) (tasks : List AuditedTask) → HasOpen setup journal w o → found ≡ Some t → JudgesAll d setup journal w found tasks →
    IsCommitStop setup (at setup journal) (Some w) (Fault (NotFaithful t))
commit_stops d setup journal w o t found tasks has is judges =
    let tx = its setup journal w o has in
    (w, tx.0, refl, tx.1, judges.first t is tx.0 tx.1)

-- why an entry isn't played, where it is for its commit
pub held_up : (setup : Setup) (journal : List Entry) (ledger : List Account) (entry : Entry) (commit : Option ℕ) → IsLedger setup journal ledger → Meets setup (at setup journal) entry.request → commit ≡ commit_at ledger entry.request →
    IfSome commit (λ w. entry.reply ≡ Done) → (stop : LineStop) → IsCommitStop setup (at setup journal) commit stop → IsHeldUp setup (at setup journal) entry stop
held_up setup journal ledger entry commit is m found done Memory h = tt
held_up setup journal ledger entry commit is m found done (Fault NotJournal) h = absurd h
held_up setup journal ledger entry commit is m found done (Fault NotLegal) h = absurd h
held_up setup journal ledger entry commit is m found done (Fault (NotFaithful t)) h =
    let of : Some h.0 ≡ commit_at ledger entry.request = sym h.2 ∙ found in (
      answered_step setup journal ledger entry h.0 is m of (subst (λ c. IfSome c (λ w. entry.reply ≡ Done)) h.2 done),
      first_unfaithful setup journal ledger entry.request h.0 h.1 t is m of h.3 h.4,
    )

-- it isn't answered as an accepted commit is
pub not_answered : (setup : Setup) (journal : List Entry) (ledger : List Account) (entry : Entry) (commit : Option ℕ) (b : Bool) → IsLedger setup journal ledger → Meets setup (at setup journal) entry.request → commit ≡ commit_at ledger entry.request →
    ((b ≡ true) ↔ IfSome commit (λ w. entry.reply ≡ Done)) → b ≡ false → IsStep setup (at setup journal) entry → ⊥
not_answered setup journal ledger entry commit b is m found same none step = true≢false (sym (same.1 (must_answer setup journal ledger entry commit is m found step)) ∙ none)

-- ---- an entry that was made
pub made_goes_on : {W : Type 0} (plan : W → TaskPlan) (good : W → PlacementTest) (rules : Rules) (d : DraftView) (old ready new : Played W) (commit : Option ℕ) (entry : Entry) (told : Bool) → told ≡ true → ready.cluster ≡ old.cluster →
    IsReadyBy plan good rules d ready commit entry → MakesEntry plan good rules d told ready new entry → GoesOn plan good rules d old new entry
made_goes_on {W} plan good rules d old ready new commit entry told did same is makes = record {
  step = subst (λ (c : ClusterView W). IsStep (setup_of plan c) (state_of plan c) entry) same (makes.step did);
  faithful = subst (λ (c : ClusterView W). IsFaithfulEntry (setup_of plan c) (state_of plan c) entry) same (ready_faithful plan good rules d ready commit entry is);
  journal = makes.journal did ∙ ap (λ (c : ClusterView W). c.journal ++ entry ∷ []) same;
  kept = makes.kept did;
}

-- ---- an entry that is played
pub entry_played : {W : Type 0} (plan : W → TaskPlan) (good : W → PlacementTest) (rules : Rules) (d : DraftView) (old new : Played W) (entry : Entry) → IsPlaced rules (plan_of d) entry.request → GoesOn plan good rules d old new entry → PlaysEntry plan good rules d old new entry
entry_played plan good rules d old new entry placed on = record { at_place = placed; step = on.step; faithful = on.faithful; journal = on.journal; kept = on.kept }

pub entry_stopped : (rules : Rules) (p : Plan) (setup : Setup) (s : State) (entry : Entry) → IsPlaced rules p entry.request → (stop : LineStop) → IsHeldUp setup s entry stop → IsStopped rules p setup s entry stop
entry_stopped rules p setup s entry placed Memory h = tt
entry_stopped rules p setup s entry placed (Fault NotJournal) h = h
entry_stopped rules p setup s entry placed (Fault NotLegal) h = λ _. h
entry_stopped rules p setup s entry placed (Fault (NotFaithful t)) h = (placed, h.0, h.1)

-- ---- its line
pub entry_found : (o : Option Entry) (line : List ℕ) → IfSome o FitsEntry → IfSome o (λ e. line ≡ entry_text e) → IfSome o (λ e. IsLineOf e line)
entry_found None line fits is = tt
entry_found (Some e) line fits is = (fits, is)

pub no_entry : {E : Type 0} (r : Result (Option Entry) E) (o : Option Entry) (line : List ℕ) → r ≡ Ok o → ((e : Entry) → FitsEntry e → line ≡ entry_text e → IfOk r (λ x. x ≡ Some e)) → o ≡ None → (e : Entry) → IsLineOf e line → ⊥
no_entry {E} r o line is only none e of =
    absurd (let g : None ≡ Some e = sym none ∙ subst (λ (x : Result (Option Entry) E). IfOk x (λ y. y ≡ Some e)) is (only e of.0 of.1) in cc)

pub line_played : {W : Type 0} (plan : W → TaskPlan) (good : W → PlacementTest) (rules : Rules) (d : DraftView) (old new : Played W) (line : List ℕ) (entry : Entry) → IsPlayedBy plan good rules d old → IsLineOf entry line → PlaysEntry plan good rules d old new entry →
    PlaysLine plan good rules d old new line
line_played plan good rules d old new line entry played is plays = record {
  entry = entry;
  taken = record {
    entry = is;
    placed = plays.at_place;
    step = subst (λ (s : Setup). IsStep s (at s old.cluster.journal) entry) played.setup plays.step;
    faithful = subst (λ (s : Setup). IsFaithfulEntry s (at s old.cluster.journal) entry) played.setup plays.faithful;
  };
  journal = plays.journal;
  kept = plays.kept;
}

pub line_stopped : (rules : Rules) (p : Plan) (setup : Setup) (journal : List Entry) (line : List ℕ) (entry : Entry) → setup ≡ topology_setup rules p → IsLineOf entry line → (stop : LineStop) → IsStopped rules p setup (at setup journal) entry stop →
    IsLineStop rules p (at (topology_setup rules p) journal) line stop
line_stopped rules p setup journal line entry same is Memory h = tt
line_stopped rules p setup journal line entry same is (Fault NotJournal) h = absurd h
line_stopped rules p setup journal line entry same is (Fault NotLegal) h = (entry, is, λ placed step. h placed (subst (λ (s : Setup). IsStep s (at s journal) entry) (sym same) step))
line_stopped rules p setup journal line entry same is (Fault (NotFaithful t)) h =
    (entry, is, h.0, subst (λ (s : Setup). IsStep s (at s journal) entry) same h.1, subst (λ (s : Setup). IsFirstUnfaithful s (at s journal) entry.request t) same h.2)
