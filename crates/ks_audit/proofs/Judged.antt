-- A commit, task by task.
use Rattle.std.proofs.Common.{◌≡◌, ℕ, suc, ◌+◌, ◌<◌, ◌≤◌, Bool, true, false, cond, not, ◌||◌, List, [], ◌∷◌, ◌++◌, length, map, set, get_or, Option, Some, None, option_map, inl, inr, refl, sym, ap, ap₂, subst, ◌∙◌, arith, ⊎_elim, append_assoc, append-nil}
use Rattle.std.specs.Global.{Vec}
use Rattle.std.specs.Prelude.{◌⊎◌}
use Rattle.std.proofs.lemmas.Bool.{true≢false}
use Rattle.std.proofs.lemmas.List.{set_at, get_or_at, length-append, length-set}
use Rattle.ks_record.specs.declared.record.PartId.{PartId}
use Rattle.ks_record.specs.declared.record.TaskId.{TaskId}
use Rattle.ks_record.specs.Parts.{same_task}
use Rattle.ks_plan.specs.Drafts.{DraftView}
use Rattle.ks_history.specs.declared.journal.Request.TheVariants.{Decide}
use Rattle.ks_history.specs.declared.journal.Entry.{Entry}
use Rattle.ks_history.specs.declared.transaction.Pending.{Pending}
use Rattle.ks_history.specs.declared.transaction.Transaction.{Transaction}
use Rattle.ks_history.specs.State.{State, Setup, has_task, pending_of}
use Rattle.ks_history.specs.Step.{pending_at}
use Rattle.ks_history.specs.Faithful.{IsFaithfulTask, IsFaithful}
use Rattle.ks_history.specs.History.{at}
use Rattle.ks_history.proofs.Names.{same_task-is}
use Rattle.ks_law_audit.specs.Rested.{HasTaken}
use Rattle.ks_law_audit.specs.Laws.{last_end}
use Rattle.ks_audit_ledger.specs.declared.account.Account.{Account}
use Rattle.ks_audit_ledger.specs.declared.account.Open.{Open}
use Rattle.ks_audit_ledger.specs.Accounts.{opened, last_of, IsOpen}
use Rattle.ks_audit_commit.specs.declared.audited.AuditedTask.{AuditedTask}
use Rattle.ks_audit_commit.specs.Ends.{end_in}
use Rattle.ks_audit_commit.specs.Judging.{IsAudited, IsCommit, Judges, name_of}
use Rattle.ks_audit.specs.Audited.{IsUnfaithful}
use Rattle.ks_audit.specs.Playing.{names_in, AreAudited, HasJudged, HasNoPart, IsJudged, AreJudged, HasOpen, JudgesTask, AreSplit, IsFirstOf, JudgesAll}

-- ---- what is open is the producer's transaction
module _ (setup : Setup) (journal : List Entry) (w : ℕ) (o : Open) (has : HasOpen setup journal w o) where
  open_is : IsOpen (Some o) ((at setup journal).producer w).undecided
  open_is = subst (λ x. IsOpen x ((at setup journal).producer w).undecided) has.is has.kept.account.undecided

  told : (u : Option Transaction) → IsOpen (Some o) u → (tx : Transaction) × (u ≡ Some tx) × (o.tasks ≡ tx.tasks) × ((t : TaskId) → last_of t o.pending ≡ pending_of t tx.pending)
  told None h = absurd h
  told (Some tx) h = (tx, refl, h.0, h.1)

  pub its : (tx : Transaction) × (((at setup journal).producer w).undecided ≡ Some tx) × (o.tasks ≡ tx.tasks) × ((t : TaskId) → last_of t o.pending ≡ pending_of t tx.pending)
  its = told ((at setup journal).producer w).undecided open_is

  pub pending_is : (t : TaskId) → last_of t o.pending ≡ pending_of t (pending_at ((at setup journal).producer w))
  pending_is t = its.3 t ∙ ap (pending_of t) (sym (ap (λ (x : Option Transaction). elim x as (λ _. List Pending) [ None ↦ [] | Some y ↦ y.pending ]) its.1))

  some_same : (a b : Transaction) → Some a ≡ Some b → a ≡ b
  some_same a b e = cc

  same_tx : (tx : Transaction) → ((at setup journal).producer w).undecided ≡ Some tx → its.0 ≡ tx
  same_tx tx is = some_same its.0 tx (sym its.1 ∙ is)

  pub tasks_are : (tx : Transaction) → ((at setup journal).producer w).undecided ≡ Some tx → o.tasks ≡ tx.tasks
  tasks_are tx is = its.2 ∙ ap (λ (x : Transaction). x.tasks) (same_tx tx is)

  pub pendings_are : (tx : Transaction) → ((at setup journal).producer w).undecided ≡ Some tx → (t : TaskId) → last_of t o.pending ≡ pending_of t tx.pending
  pendings_are tx is t = its.3 t ∙ ap (λ (x : Transaction). pending_of t x.pending) (same_tx tx is)

  -- the tasks that it names are the cluster's
  pub task_known : (tx : Transaction) → ((at setup journal).producer w).undecided ≡ Some tx → (t : TaskId) → has_task t tx.tasks ≡ true → has_task t setup.tasks ≡ true
  task_known tx is t h = has.kept.known.tasks t (ap (λ (x : Option Open). has_task t (opened x).tasks) has.is ∙ ap (has_task t) (tasks_are tx is) ∙ h)

  pub pending_known : (tx : Transaction) → ((at setup journal).producer w).undecided ≡ Some tx → (t : TaskId) (p : Pending) → pending_of t tx.pending ≡ Some p → has_task t setup.tasks ≡ true
  pending_known tx is t p h = has.kept.known.pending t p (ap (λ (x : Option Open). last_of t (opened x).pending) has.is ∙ pendings_are tx is t ∙ h)

-- ---- one task
flip : (b : Bool) → not b ≡ true → b ≡ false
flip true h = absurd cc
flip false h = refl

flop : (b : Bool) → not b ≡ false → b ≡ true
flop true h = refl
flop false h = absurd cc

module _ (d : DraftView) (setup : Setup) (journal : List Entry) (o : Open) where
  commit_is : (w : ℕ) (has : HasOpen setup journal w o) (t : TaskId) (p : Pending) → last_of t o.pending ≡ Some p → p.task ≡ t → IsCommit setup journal w has.account p
  commit_is w has t p is own = record {
    account = has.kept.account;
    offsets = has.kept.offsets;
    pending = ap (λ (u : TaskId). pending_of u (pending_at ((at setup journal).producer w))) own ∙ sym (pending_is setup journal w o has t) ∙ is;
  }

  pub task_judged : (t : TaskId) (p : Pending) (told : Bool) (old new : AuditedTask) → t ≡ name_of old → last_of t o.pending ≡ Some p → p.task ≡ name_of old → IsAudited d setup journal old →
      ((w : ℕ) (a : Account) → a.undecided ≡ Some o → IsCommit setup journal w a p → Judges d setup journal w p told old new) → (w : ℕ) → HasOpen setup journal w o → JudgesTask d setup journal w told old new
  task_judged t p told old new named is own audited judges w has =
      let j : Judges d setup journal w p told old new = judges w has.account has.is (commit_is w has t p is (own ∙ sym named)) in
      let pending : pending_of (name_of old) (pending_at ((at setup journal).producer w)) ≡ Some p = ap (λ (u : TaskId). pending_of u (pending_at ((at setup journal).producer w))) (sym named) ∙ sym (pending_is setup journal w o has t) ∙ is in
      let name : told ≡ true → name_of new ≡ name_of old = λ h. (j.took h).task ∙ own in
      record {
        name = name;
        yes = λ h. inl (record {
          p = p;
          pending = ap (λ (u : TaskId). pending_of u (pending_at ((at setup journal).producer w))) (name h) ∙ pending;
          own = own ∙ sym (name h);
          faithful = j.verdict.0 h;
          of = j.of h;
          known = ap (λ (u : TaskId). has_task u setup.tasks) (name h) ∙ audited.known;
          took = j.took h;
          ends = λ q. ap (λ (e : Vec (PartId × ℕ)). end_in q e.items) j.ends ∙ audited.ends q ∙ ap (λ (u : TaskId). last_end (at setup journal) u q) (sym (name h));
        });
        no = λ h tx u. inr (
          p,
          sym (pendings_are setup journal w o has tx u (name_of old)) ∙ ap (λ (k : TaskId). last_of k o.pending) (sym named) ∙ is,
          λ f. true≢false (sym (j.verdict.1 f) ∙ h),
        );
      }

  pub task_apart : (t : TaskId) (named : Bool) (task : AuditedTask) → t ≡ name_of task → last_of t o.pending ≡ None → named ≡ has_task t o.tasks → IsAudited d setup journal task → (w : ℕ) → HasOpen setup journal w o →
      JudgesTask d setup journal w (not named) task task
  task_apart t named task same none is audited w has = record {
    name = λ h. refl;
    yes = λ h. inr (record {
      none = ap (λ (u : TaskId). pending_of u (pending_at ((at setup journal).producer w))) (sym same) ∙ sym (pending_is setup journal w o has t) ∙ none;
      unnamed = λ tx u. ap₂ has_task (sym same) (sym (tasks_are setup journal w o has tx u)) ∙ sym is ∙ flip named h;
      audited = audited;
    });
    no = λ h tx u. inl (
      ap₂ has_task (sym same) (sym (tasks_are setup journal w o has tx u)) ∙ sym is ∙ flop named h,
      sym (pendings_are setup journal w o has tx u (name_of task)) ∙ ap (λ (k : TaskId). last_of k o.pending) (sym same) ∙ none,
    );
  }

-- ---- all tasks
module _ (d : DraftView) (setup : Setup) (journal : List Entry) (w : ℕ) where
  -- the task of a name
  pub find_judged : (ts : List AuditedTask) → AreJudged d setup journal w ts → (u : TaskId) → has_task u (names_in ts) ≡ true → (t : AuditedTask) × (u ≡ name_of t) × IsJudged d setup journal w t
  find_judged [] all u h = absurd (true≢false (sym h))
  find_judged (t ∷ ts) all u h = by (same_task u (name_of t)) refl h (find_judged ts all.1 u)
    where
      by : (b : Bool) → same_task u (name_of t) ≡ b → (b || has_task u (names_in ts)) ≡ true → (has_task u (names_in ts) ≡ true → (t : AuditedTask) × (u ≡ name_of t) × IsJudged d setup journal w t) →
          (t : AuditedTask) × (u ≡ name_of t) × IsJudged d setup journal w t
      by true same g more = (t, same_task-is u (name_of t) same, all.0)
      by false same g more = more g

  module _ (tx : Transaction) (is : ((at setup journal).producer w).undecided ≡ Some tx) where
    pendings : (t : TaskId) → pending_of t (pending_at ((at setup journal).producer w)) ≡ pending_of t tx.pending
    pendings t = ap (λ (x : Option Transaction). pending_of t (elim x as (λ _. List Pending) [ None ↦ [] | Some y ↦ y.pending ])) is

    some_task : (u : TaskId) (t : AuditedTask) → u ≡ name_of t → has_task u tx.tasks ≡ true → IsJudged d setup journal w t → (p : Pending) × (pending_of u tx.pending ≡ Some p)
    some_task u t same named = ⊎_elim
        (λ (j : HasJudged d setup journal w t). (j.p, ap (λ (k : TaskId). pending_of k tx.pending) same ∙ sym (pendings (name_of t)) ∙ j.pending))
        (λ (n : HasNoPart d setup journal w t). absurd (true≢false (sym named ∙ ap (λ (k : TaskId). has_task k tx.tasks) same ∙ n.unnamed tx is)))

    same_pending : (a b : Pending) → Some a ≡ Some b → a ≡ b
    same_pending a b e = cc

    its_faithful : (u : TaskId) (p : Pending) (t : AuditedTask) → u ≡ name_of t → pending_of u tx.pending ≡ Some p → IsJudged d setup journal w t → IsFaithfulTask setup (at setup journal) w p
    its_faithful u p t same pending = ⊎_elim
        (λ (j : HasJudged d setup journal w t).
        subst (λ (k : Pending). IsFaithfulTask setup (at setup journal) w k) (same_pending j.p p (sym j.pending ∙ pendings (name_of t) ∙ ap (λ (k : TaskId). pending_of k tx.pending) (sym same) ∙ pending)) j.faithful)
        (λ (n : HasNoPart d setup journal w t). absurd (let g : None ≡ Some p = sym n.none ∙ pendings (name_of t) ∙ ap (λ (k : TaskId). pending_of k tx.pending) (sym same) ∙ pending in cc))

    pub none_unfaithful : (ts : List AuditedTask) → AreJudged d setup journal w ts → (u : TaskId) → has_task u (names_in ts) ≡ true → IsUnfaithful setup (at setup journal) w tx u → ⊥
    none_unfaithful ts all u h bad =
        let f = find_judged ts all u h in
        ⊎_elim
        (λ (a : (has_task u tx.tasks ≡ true) × (pending_of u tx.pending ≡ None)). let s = some_task u f.0 f.1 a.0 f.2 in absurd (let g : None ≡ Some s.0 = sym a.1 ∙ s.1 in cc))
        (λ (b : (p : Pending) × (pending_of u tx.pending ≡ Some p) × (IsFaithfulTask setup (at setup journal) w p → ⊥)). b.2 (its_faithful u b.0 f.0 f.1 b.1 f.2))
        bad

    -- the whole commit is faithful, as its transaction names tasks of the cluster alone
    pub all_faithful : (o : Open) (ts : List AuditedTask) → HasOpen setup journal w o → names_in ts ≡ setup.tasks → AreJudged d setup journal w ts → IsFaithful setup (at setup journal) w tx
    all_faithful o ts has names all = record {
      named = λ t h.
          let f = find_judged ts all t (ap (has_task t) names ∙ task_known setup journal w o has tx is t h) in
          some_task t f.0 f.1 h f.2;
      each = λ t p h.
          let f = find_judged ts all t (ap (has_task t) names ∙ pending_known setup journal w o has tx is t p h) in
          its_faithful t p f.0 f.1 h f.2;
    }

-- ---- in a loop
judged_both : (d : DraftView) (setup : Setup) (journal : List Entry) (w : ℕ) (xs : List AuditedTask) (t : AuditedTask) → AreJudged d setup journal w xs → IsJudged d setup journal w t → AreJudged d setup journal w (xs ++ t ∷ [])
judged_both d setup journal w [] t all one = (one, tt)
judged_both d setup journal w (x ∷ xs) t all one = (all.0, judged_both d setup journal w xs t all.1 one)

pub names_set : (xs : List AuditedTask) (old new : AuditedTask) (ys : List AuditedTask) → name_of new ≡ name_of old → names_in (xs ++ new ∷ ys) ≡ names_in (xs ++ old ∷ ys)
names_set [] old new ys same = ap (λ (n : TaskId). n ∷ names_in ys) same
names_set (x ∷ xs) old new ys same = ap (λ l. name_of x ∷ l) (names_set xs old new ys same)

pub next_of : (xs rest : List AuditedTask) (i : ℕ) → length xs ≡ i → i < length (xs ++ rest) → (x : AuditedTask) × (more : List AuditedTask) × (rest ≡ x ∷ more)
next_of xs [] i at lt = absurd (omega (arith, lt, at, length-append {A = AuditedTask} xs []))
next_of xs (x ∷ more) i at lt = (x, more, refl)

module _ (d : DraftView) (setup : Setup) (journal : List Entry) (o : Open) where
  pub split_begins : (ts : List AuditedTask) → names_in ts ≡ setup.tasks → AreAudited d setup journal ts → AreSplit d setup journal o (length ts) 0 ts
  split_begins ts names audited = record { done = []; rest = ts; both = refl; count = refl; long = refl; names = λ w has. names; judged = λ w has. tt; audited = audited }

  -- the task of a place
  pub split_here : (total i : ℕ) (ts : List AuditedTask) (x : AuditedTask) → AreSplit d setup journal o total i ts → i < length ts → x ≡ get_or ts i x → IsAudited d setup journal x
  split_here total i ts x split lt read =
      let n = next_of split.done split.rest i split.count (subst (λ l. i < length l) split.both lt) in
      let there : ts ≡ split.done ++ n.0 ∷ n.1 = split.both ∙ ap (λ l. split.done ++ l) n.2 in
      let it : x ≡ n.0 = read ∙ ap (λ l. get_or l i x) there ∙ get_or_at split.done n.0 n.1 x i split.count in
      subst (IsAudited d setup journal) (sym it) (subst (AreAudited d setup journal) n.2 split.audited).0

  pub split_more : (total i : ℕ) (ts : List AuditedTask) (x y : AuditedTask) (told : Bool) → AreSplit d setup journal o total i ts → i < length ts → x ≡ get_or ts i x → ((w : ℕ) → HasOpen setup journal w o → JudgesTask d setup journal w told x y) → told ≡ true →
      AreSplit d setup journal o total (i + 1) (set ts i y)
  split_more total i ts x y told split lt read judges yes_told =
      let n = next_of split.done split.rest i split.count (subst (λ l. i < length l) split.both lt) in
      let there : ts ≡ split.done ++ n.0 ∷ n.1 = split.both ∙ ap (λ l. split.done ++ l) n.2 in
      let it : x ≡ n.0 = read ∙ ap (λ l. get_or l i x) there ∙ get_or_at split.done n.0 n.1 x i split.count in
      let now : set ts i y ≡ split.done ++ y ∷ n.1 = ap (λ l. set l i y) there ∙ set_at split.done n.0 n.1 y i split.count in
      record {
        done = split.done ++ y ∷ [];
        rest = n.1;
        both = now ∙ sym (append_assoc split.done (y ∷ []) n.1);
        count = length-append split.done (y ∷ []) ∙ ap (λ k. k + 1) split.count;
        long = length-set ts i y ∙ split.long;
        names = λ w has. ap names_in now ∙ names_set split.done n.0 y n.1 ((judges w has).name yes_told ∙ ap name_of it) ∙ ap names_in (sym there) ∙ split.names w has;
        judged = λ w has. judged_both d setup journal w split.done y (split.judged w has) ((judges w has).yes yes_told);
        audited = (subst (AreAudited d setup journal) n.2 split.audited).1;
      }

  pub split_ends : (total i : ℕ) (ts : List AuditedTask) → AreSplit d setup journal o total i ts → length ts ≤ i → (w : ℕ) → HasOpen setup journal w o → JudgesAll d setup journal w None ts
  split_ends total i ts split le w has = record {
    names = λ _. split.names w has;
    all = λ _. subst (AreJudged d setup journal w) (sym (whole split.rest split.both)) (split.judged w has);
    first = λ t e. absurd cc;
  }
    where
      whole : (rest : List AuditedTask) → ts ≡ split.done ++ rest → ts ≡ split.done
      whole [] both = both ∙ append-nil split.done
      whole (x ∷ xs) both = absurd (let long : length ts ≡ length split.done + suc (length xs) = ap length both ∙ length-append split.done (x ∷ xs) in omega (arith, le, split.count, long))

  map_both : (xs ys : List AuditedTask) → names_in (xs ++ ys) ≡ names_in xs ++ names_in ys
  map_both [] ys = refl
  map_both (x ∷ xs) ys = ap (λ l. name_of x ∷ l) (map_both xs ys)

  pub split_stops : (total i : ℕ) (ts new : List AuditedTask) (x y : AuditedTask) (id : TaskId) (told : Bool) → AreSplit d setup journal o total i ts → i < length ts → x ≡ get_or ts i x → id ≡ name_of x → ((w : ℕ) → HasOpen setup journal w o → JudgesTask d setup journal w told x y) → told ≡ false →
      (w : ℕ) → HasOpen setup journal w o → JudgesAll d setup journal w (Some id) new
  split_stops total i ts new x y id told split lt read named judges not_told w has =
      let n = next_of split.done split.rest i split.count (subst (λ l. i < length l) split.both lt) in
      let there : ts ≡ split.done ++ n.0 ∷ n.1 = split.both ∙ ap (λ l. split.done ++ l) n.2 in
      let it : x ≡ n.0 = read ∙ ap (λ l. get_or l i x) there ∙ get_or_at split.done n.0 n.1 x i split.count in
      record {
        names = λ e. absurd cc;
        all = λ e. absurd cc;
        first = λ t e tx is.
            let same : id ≡ t = cc in
            record {
              front = names_in split.done;
              rest = names_in n.1;
              order = sym (split.names w has) ∙ ap names_in there ∙ map_both split.done (n.0 ∷ n.1) ∙ ap (λ (k : TaskId). names_in split.done ++ k ∷ names_in n.1) (sym (ap name_of it) ∙ sym named ∙ same);
              this = subst (IsUnfaithful setup (at setup journal) w tx) (sym named ∙ same) ((judges w has).no not_told tx is);
              first = λ u h bad. none_unfaithful d setup journal w tx is split.done (split.judged w has) u h bad;
            };
      }
