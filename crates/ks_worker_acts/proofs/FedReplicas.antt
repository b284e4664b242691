-- A worker's replicas, fed one after another.
use Rattle.std.proofs.Common.{◌≡◌, ◌≢◌, ℕ, zero, suc, ◌+◌, ◌<◌, ◌≤◌, List, [], ◌∷◌, ◌++◌, length, get_or, set, refl, sym, ap, ap₂, subst, ◌∙◌, arith, add-one}
use Rattle.std.specs.List.{All}
use Rattle.std.proofs.lemmas.List.Elements.{All-set, All-get_or}
use Rattle.ks_record.specs.declared.record.PartId.{PartId}
use Rattle.ks_record.specs.declared.record.TaskId.{TaskId}
use Rattle.ks_plan.specs.Drafts.{DraftView}
use Rattle.ks_history.specs.declared.journal.Entry.{Entry}
use Rattle.ks_history.specs.Machine.{TaskPlan, IsNetwork}
use Rattle.ks_history.specs.State.{Setup}
use Rattle.ks_history.specs.History.{IsHistory}
use Rattle.ks_law_commit.specs.Moves.{IsFed}
use Rattle.ks_law_commit.proofs.Moving.{fed_twice}
use Rattle.ks_growing.specs.Passes.{PassView}
use Rattle.ks_shared.specs.declared.state.Frame.{Frame}
use Rattle.ks_shared.specs.Calls.{setup_in}
use Rattle.ks_standby.specs.declared.replica.Replica.{Replica}
use Rattle.ks_standby.specs.Replicas.{replica_view, changelogs_of}
use Rattle.ks_task.specs.declared.task.Task.{Task}
use Rattle.ks_worker_client.specs.Calls.{Later}
use Rattle.ks_worker_client.specs.declared.member.Member.{Member}
use Rattle.ks_worker_client.proofs.Moments.{same_frame}
use Rattle.ks_worker_state.specs.Standbys.{IsStandby, IsFedStandby}
use Rattle.ks_worker_state.specs.Gained.{HasMade}
use Rattle.ks_worker_state.specs.Names.{task_names, replica_names, times}
use Rattle.ks_worker_state.specs.Worker.{IsWorker}
use Rattle.ks_worker_state.proofs.Workers.{worker_later}
use Rattle.ks_worker_acts.specs.Feeds.{IsFedOn, AreFed, IsFedAt, marks_to, marks_of}

-- the first so many were fed, the others are the same
abbrev pub AreFedTo : Setup → List Entry → ℕ → List Replica → List Replica → Type 0
AreFedTo setup h zero olds news = news ≡ olds
AreFedTo setup h (suc n) [] news = news ≡ []
AreFedTo setup h (suc n) (a ∷ olds) [] = ⊥
AreFedTo setup h (suc n) (a ∷ olds) (b ∷ news) = IsFedOn setup h a b × AreFedTo setup h n olds news

module _ (setup : Setup) (h : List Entry) where
  unfed : (r : Replica) → IsFed setup h [] (replica_view r) (replica_view r)
  unfed r = record { task = refl; later = λ u. omega arith; moved = λ u none. absurd cc }

  pub fed_at : (rs : List Replica) (i : ℕ) (r now : Replica) → i < length rs → r ≡ get_or rs i r → IsFedOn setup h r now → IsFedAt setup h i rs (set rs i now)
  fed_at [] i r now lt is f = absurd (omega (arith, lt))
  fed_at (x ∷ rs) zero r now lt is f = (subst (λ (o : Replica). IsFedOn setup h o now) is f, refl)
  fed_at (x ∷ rs) (suc i) r now lt is f = (refl, fed_at rs i r now (omega (arith, lt)) is f)

  pub fed_length : (n : ℕ) (olds news : List Replica) → AreFedTo setup h n olds news → length news ≡ length olds
  fed_length zero olds news f = ap length f
  fed_length (suc n) [] news f = ap length f
  fed_length (suc n) (a ∷ olds) [] f = absurd f
  fed_length (suc n) (a ∷ olds) (b ∷ news) f = ap suc (fed_length n olds news f.1)

  pub all_fed : (n : ℕ) (olds news : List Replica) → length olds ≤ n → AreFedTo setup h n olds news → AreFed setup h olds news
  all_fed zero [] news most f = subst (AreFed setup h []) (sym f) tt
  all_fed zero (a ∷ olds) news most f = absurd (omega (arith, most))
  all_fed (suc n) [] news most f = subst (AreFed setup h []) (sym f) tt
  all_fed (suc n) (a ∷ olds) [] most f = absurd f
  all_fed (suc n) (a ∷ olds) (b ∷ news) most f = (f.0, all_fed n olds news (omega (arith, most)) f.1)

  pub fed_names : (olds news : List Replica) → AreFed setup h olds news → replica_names news ≡ replica_names olds
  fed_names [] [] f = refl
  fed_names [] (b ∷ news) f = absurd f
  fed_names (a ∷ olds) [] f = absurd f
  fed_names (a ∷ olds) (b ∷ news) f = ap₂ (λ (t : TaskId) ts. t ∷ ts) f.0.task (fed_names olds news f.1)

  module _ (more : List Entry) (net : IsNetwork setup.plan) (history : IsHistory setup (h ++ more)) where
    fed_since : (a b : Replica) → IsFedOn setup (h ++ more) a b → IsFedOn setup h a b
    fed_since a b f = fed_twice setup h more [] (changelogs_of a) (replica_view a) (replica_view a) (replica_view b) net history (unfed a) f

    pub one_more_fed : (n : ℕ) (xs ys zs : List Replica) → AreFedTo setup h n xs ys → IsFedAt setup (h ++ more) n ys zs → AreFedTo setup h (suc n) xs zs
    one_more_fed zero xs ys zs f g = first xs zs (subst (λ l. IsFedAt setup (h ++ more) 0 l zs) f g)
      where
        first : (xs zs : List Replica) → IsFedAt setup (h ++ more) 0 xs zs → AreFedTo setup h 1 xs zs
        first [] zs g = absurd g
        first (x ∷ xs) [] g = absurd g
        first (x ∷ xs) (z ∷ zs) g = (fed_since x z g.0, g.1)
    one_more_fed (suc n) [] ys zs f g = absurd (subst (λ l. IsFedAt setup (h ++ more) (suc n) l zs) f g)
    one_more_fed (suc n) (x ∷ xs) [] zs f g = absurd f
    one_more_fed (suc n) (x ∷ xs) (y ∷ ys) [] f g = absurd g
    one_more_fed (suc n) (x ∷ xs) (y ∷ ys) (z ∷ zs) f g = (subst (IsFedOn setup h x) (sym g.0) f.0, one_more_fed n xs ys zs f.1 g.1)

-- its name is the same
set_id : (rs : List Replica) (i : ℕ) (was now : Replica) → i < length rs → was ≡ get_or rs i was → now.id ≡ was.id → replica_names (set rs i now) ≡ replica_names rs
set_id [] i was now lt is named = absurd (omega (arith, lt))
set_id (r ∷ rs) zero was now lt is named = ap (λ (t : TaskId). t ∷ replica_names rs) (named ∙ ap (λ (x : Replica). x.id) is)
set_id (r ∷ rs) (suc i) was now lt is named = ap (λ (l : List TaskId). r.id ∷ l) (set_id rs i was now (omega (arith, lt)) is named)

-- ---- a worker one of whose replicas was fed
module _ {W : Type 0} (plan : W → TaskPlan) (old new : PassView Entry (Frame W)) (l : Later plan old new) (net : IsNetwork (setup_in plan old.frame).plan) (d : DraftView) (m : Member) where
  pub fed_worker : (last : ℕ) (numbers : List (PartId × ℕ)) (ts : List Task) (rs : List Replica) (i : ℕ) (was r : Replica) → i < length rs → was ≡ get_or rs i was → r.id ≡ was.id → IsStandby (setup_in plan old.frame) new.seen r →
      IsWorker plan d old m last numbers ts rs → IsWorker plan d new m last numbers ts (set rs i r)
  fed_worker last numbers ts rs i was r lt is named standby worker =
      let w : IsWorker plan d new m last numbers ts rs = worker_later plan old new l net d m last numbers ts rs worker in
      record {
        number = w.number;
        instance = w.instance;
        seen = w.seen;
        producer = w.producer;
        alone = w.alone;
        names = w.names;
        once = subst (λ (l : List TaskId). (u : TaskId) → times u (task_names ts) + times u l ≤ 1) (sym (set_id rs i was r lt is named)) w.once;
        tasks_are = w.tasks_are;
        replicas_are = All-set (IsStandby (setup_in plan new.frame) new.seen) rs i r (subst (λ f. IsStandby (setup_in plan f) new.seen r) (sym (same_frame plan old new l)) standby) w.replicas_are;
      }

pub standby_in : (setup : Setup) (journal : List Entry) (rs : List Replica) (i : ℕ) (r : Replica) → i < length rs → r ≡ get_or rs i r → All (IsStandby setup journal) rs → IsStandby setup journal r
standby_in setup journal rs i r lt is all = subst (IsStandby setup journal) (sym is) (All-get_or (IsStandby setup journal) rs i r lt all)

pub fed_own : (setup : Setup) (h now : List Entry) (topics : List ℕ) (old new : Replica) → topics ≡ changelogs_of old → IsFedStandby setup h now topics old new → IsFedOn setup h old new
fed_own setup h now topics old new is f = subst (λ l. IsFed setup h l (replica_view old) (replica_view new)) is f.fed

module _ {W : Type 0} (plan : W → TaskPlan) (old mid : PassView Entry (Frame W)) (l : Later plan old mid) (net : IsNetwork (setup_in plan old.frame).plan) where
  -- one more was fed, at a later moment
  pub fed_further : (n : ℕ) (xs ys zs : List Replica) → AreFedTo (setup_in plan old.frame) old.seen n xs ys → IsFedAt (setup_in plan mid.frame) mid.seen n ys zs → AreFedTo (setup_in plan old.frame) old.seen (n + 1) xs zs
  fed_further n xs ys zs f g =
      subst (λ k. AreFedTo (setup_in plan old.frame) old.seen k xs zs) (sym (add-one n))
      (one_more_fed (setup_in plan old.frame) old.seen l.more net l.history n xs ys zs f
      (subst (λ j. IsFedAt (setup_in plan old.frame) j n ys zs) l.seen (subst (λ k. IsFedAt (setup_in plan k) mid.seen n ys zs) (same_frame plan old mid l) g)))

-- ---- markers, where some wait
module _ {W : Type 0} (n : ℕ) (old new : PassView Entry (Frame W)) where
  pub marks_none : n ≡ 0 → HasMade old new [] → HasMade old new (marks_of n)
  marks_none none h = subst (λ k. HasMade old new (marks_of k)) (sym none) h

  pub marks_all : n ≢ 0 → HasMade old new (marks_to 17) → HasMade old new (marks_of n)
  marks_all some h = by n some
    where
      by : (k : ℕ) → k ≢ 0 → HasMade old new (marks_of k)
      by zero some = absurd (some refl)
      by (suc k) some = h
