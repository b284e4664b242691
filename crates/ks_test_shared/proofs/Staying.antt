-- Calls through a pass of a lock of ours.
use Rattle.std.proofs.Common.{◌≡◌, ℕ, ◌≤◌, ◌<◌, zero, suc, false, List, [], ◌∷◌, ◌++◌, length, Some, refl, sym, ap, subst, ◌∙◌, arith}
use Rattle.std.specs.Prelude.{Result, Ok, Err, IfOk, slice_index_or, remove}
use lib.ListN.{get_elem?}
use mathlib.Core.Option.{some}
use Rattle.atomic_table.specs.Seated.{TableId}
use Rattle.ks_record.specs.Records.{Record as Rec}
use Rattle.ks_record.specs.declared.record.PartId.{PartId}
use Rattle.ks_record.specs.declared.record.TaskId.{TaskId}
use Rattle.ks_history.specs.declared.journal.Entry.{Entry}
use Rattle.ks_history.specs.declared.journal.Request.{Request}
use Rattle.ks_history.specs.State.{Setup, IsPart}
use Rattle.ks_history.specs.History.{at, Meets}
use Rattle.ks_history.specs.Reads.{MayFetch, fetched}
use Rattle.ks_history.specs.Follows.{ReplicaView, ReplicaFollows}
use Rattle.ks_law_exactly_once.specs.Example.{setup, changelog, the_task}
use Rattle.ks_law_restore.specs.Replicas.{fresh_replica, fed_replica}
use Rattle.ks_law_restore.proofs.Replicas.{replica_starts}
use Rattle.ks_cluster.specs.View.{ClusterView, setup_of, state_of}
use Rattle.ks_growing.specs.Passes.{PassView, Each, IsFresh, IsPass}
use Rattle.ks_standby.specs.declared.replica.Replica.{Replica}
use Rattle.ks_standby.specs.Replicas.{replica_view, changelogs_of, GivesFetched, FollowsOn}
use Rattle.ks_shared.specs.declared.state.Frame.{Frame}
use Rattle.ks_shared.specs.Calls.{setup_in, frame_of, Called}
use Rattle.ks_shared.specs.Shelf.{IsReplicaOf}
use Rattle.ks_test_cluster.specs.Ours.{IsOurs as IsCopying}
use Rattle.ks_test_shared.specs.Ours.{IsOurs}

pub part_is : (topic : ℕ) → topic < 2 → IsPart setup (record { topic = topic; part = 0 })
part_is zero h = record { topic = omega arith; part = omega arith }
part_is (suc zero) h = record { topic = omega arith; part = omega arith }
part_is (suc (suc n)) h = absurd (omega (arith, h))

module _ {W : Type 0} (lock : TableId) (old : PassView Entry (Frame W)) (ours : IsOurs lock old) where
  -- what is asked of the setup that the pass knows
  pub meets : (request : Request) → Meets setup (at setup old.seen) request → Meets (setup_in (λ (work : W). setup.plan) old.frame) (at (setup_in (λ (work : W). setup.plan) old.frame) old.seen) request
  meets request m = subst (λ (s : Setup). Meets s (at s old.seen) request) (sym ours.setup_is) m

  pub may_fetch : (topic : ℕ) → topic < 2 → MayFetch (setup_in (λ (work : W). setup.plan) old.frame) (at (setup_in (λ (work : W). setup.plan) old.frame) old.seen) (record { topic = topic; part = 0 }) 0 1000
  may_fetch topic h = record { part = subst (λ (s : Setup). IsPart s (record { topic = topic; part = 0 })) (sym ours.setup_is) (part_is topic h); within = omega arith; some = omega arith }

  pub replica_in : (r : Replica) {t : _} → IsReplicaOf setup old.seen t r → IsReplicaOf (setup_in (λ (work : W). setup.plan) old.frame) old.seen r.id r
  replica_in r {t} f = subst (λ (s : Setup). IsReplicaOf s old.seen r.id r) (sym ours.setup_is) (record { task = refl; changelogs = f.changelogs; follows = f.follows })

  module _ (new : PassView Entry (Frame W)) (Does : ClusterView W → ClusterView W → Type 0) (called : Called (λ (work : W). setup.plan) old new Does) where
    pub stays : IsOurs lock new
    stays = record {
      own = ap (λ (p : PassView Entry (Frame W)). p.lock) called.same ∙ ours.own;
      free = ap (λ (p : PassView Entry (Frame W)). p.holds) called.same ∙ ours.free;
      setup_is = ap (λ (p : PassView Entry (Frame W)). setup_in (λ (work : W). setup.plan) p.frame) called.same ∙ ours.setup_is;
    }

    pub number_stays : new.number ≡ old.number
    number_stays = ap (λ (p : PassView Entry (Frame W)). p.number) called.same

    -- the state that a call leaves
    pub state_is : state_of (λ (work : W). setup.plan) called.after ≡ at setup new.seen
    state_is =
        let setup_there : setup_of (λ (work : W). setup.plan) called.after ≡ setup =
        ap (setup_of (λ (work : W). setup.plan)) called.grew.is ∙ sym (ap (setup_in (λ (work : W). setup.plan)) called.frame) ∙ ours.setup_is in
        ap (λ (s : Setup). at s called.after.journal) setup_there ∙ ap (at setup) (sym (ap (λ (p : PassView Entry (Frame W)). p.seen) called.same))

-- ---- the passes of a new lock
module _ {W : Type 0} (lock : TableId) (cluster : ClusterView W) (copying : IsCopying cluster) where
  pub fresh_is_ours : (k : ℕ) (p : PassView Entry (Frame W)) → IsFresh lock cluster.journal (frame_of cluster) k p → IsOurs lock p × (p.number ≡ k)
  fresh_is_ours k p fresh = (
    record {
      own = ap (λ (q : PassView Entry (Frame W)). q.lock) fresh;
      free = ap (λ (q : PassView Entry (Frame W)). q.holds) fresh;
      setup_is = ap (λ (q : PassView Entry (Frame W)). setup_in (λ (work : W). setup.plan) q.frame) fresh ∙ (λ i. record { plan = setup.plan; counts = copying.0 i; tasks = copying.1 i });
    },
    ap (λ (q : PassView Entry (Frame W)). q.number) fresh,
  )

is_pass : {W : Type 0} (lock : TableId) (k : ℕ) (p : PassView Entry (Frame W)) → IsOurs lock p × (p.number ≡ k) → IsPass lock k p
is_pass lock k p o = (o.0.own, o.0.free, o.1)

pub all_passes : {W : Type 0} (lock : TableId) (a b c : PassView Entry (Frame W)) → IsOurs lock a × (a.number ≡ 0) → IsOurs lock b × (b.number ≡ 1) → IsOurs lock c × (c.number ≡ 2) → Each (IsPass lock) (a ∷ b ∷ c ∷ [])
all_passes lock a b c x y z zero p e = subst (IsPass lock 0) (some_is e) (is_pass lock 0 a x)
  where
    some_is : some a ≡ some p → a ≡ p
    some_is h = cc
all_passes lock a b c x y z (suc zero) p e = subst (IsPass lock 1) (some_is e) (is_pass lock 1 b y)
  where
    some_is : some b ≡ some p → b ≡ p
    some_is h = cc
all_passes lock a b c x y z (suc (suc zero)) p e = subst (IsPass lock 2) (some_is e) (is_pass lock 2 c z)
  where
    some_is : some c ≡ some p → c ≡ p
    some_is h = cc
all_passes lock a b c x y z (suc (suc (suc k))) p e = absurd cc

pub on_ok : {A E : Type 0} (r : Result A E) (P Q : A → Type 0) → ((a : A) → P a → Q a) → IfOk r P → IfOk r Q
on_ok (Ok a) P Q f p = f a p
on_ok (Err e) P Q f p = tt

-- a replica that was fed what a fetch from the changelog's beginning gave
pub fed_follows : (seen : List Entry) (made fed : Replica) (recs : List (ℕ × Rec)) (next : ℕ) → replica_view made ≡ fresh_replica the_task → changelogs_of made ≡ 1 ∷ [] → changelogs_of fed ≡ changelogs_of made →
    replica_view fed ≡ fed_replica (replica_view made) 1 recs next → recs ≡ (fetched (at setup seen) changelog 0 1000).0 → next ≡ (fetched (at setup seen) changelog 0 1000).1 →
    ((s : Setup) (journal : List Entry) → GivesFetched s journal (replica_view made) 1 recs next → FollowsOn s journal (replica_view made) (replica_view fed)) → IsReplicaOf setup seen the_task fed
fed_follows seen made fed recs next new logs same view recs_are next_is follows = record {
  task = task_is;
  changelogs = rw task_is (same ∙ logs);
  follows = follows setup seen gives (subst (ReplicaFollows setup seen) (sym new) (replica_starts setup seen the_task));
}
  where
    task_is : fed.id ≡ the_task
    task_is = ap (λ (r : ReplicaView). r.task) view ∙ ap (λ (r : ReplicaView). r.task) new

    gives : GivesFetched setup seen (replica_view made) 1 recs next
    gives = subst (λ (r : ReplicaView). GivesFetched setup seen r 1 recs next) (sym new)
        (record { limit = 1000; some = omega arith; changelog = refl; gives = λ i. (recs_are i, next_is i) })

-- the three elements of a list, taken off its front one after another
pub three : {X : Type 0} (P : ℕ → X → Type 0) (items : List X) (a b c : X) → length items ≡ 3 → Each P items → a ≡ slice_index_or items 0 a → b ≡ slice_index_or (remove items 0) 0 b → c ≡ slice_index_or (remove (remove items 0) 0) 0 c → P 0 a × P 1 b × P 2 c
three P [] a b c is each x y z = absurd (omega (arith, is))
three P (p ∷ []) a b c is each x y z = absurd (omega (arith, is))
three P (p ∷ q ∷ []) a b c is each x y z = absurd (omega (arith, is))
three P (p ∷ q ∷ r ∷ []) a b c is each x y z = (subst (P 0) (sym x) (each 0 p refl), subst (P 1) (sym y) (each 1 q refl), subst (P 2) (sym z) (each 2 r refl))
three P (p ∷ q ∷ r ∷ s ∷ ss) a b c is each x y z = absurd (omega (arith, is))

pub nothing_parked : {W : Type 0} (cluster : ClusterView W) → cluster.journal ≡ [] → (i : ℕ) (t : TaskId) → (state_of (λ (work : W). setup.plan) cluster).parked i t ≡ false
nothing_parked cluster none i t = ap (λ l. (at (setup_of (λ work. setup.plan) cluster) l).parked i t) none
