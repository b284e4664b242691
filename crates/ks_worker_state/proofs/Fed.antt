-- A replica that is fed.
use Rattle.std.proofs.Common.{◌≡◌, ◌⊎◌, inl, inr, ℕ, zero, suc, ◌+◌, ◌<◌, ◌≤◌, ◌||◌, Bool, true, false, cond, add-one, List, [], ◌∷◌, ◌++◌, length, take, get_or, map, refl, sym, ap, ap₂, subst, ◌∙◌, arith}
use Rattle.std.specs.Prelude.{◌==◌, nat_lt}
use Rattle.std.proofs.Math.Seq.{take-suc}
use Rattle.std.proofs.lemmas.Bool.{true≢false, eq-eqb, eqb-true, ltb-true, ltb-false}
use Rattle.ks_record.specs.Records.{Record as Rec}
use Rattle.ks_record.specs.declared.record.TaskId.{TaskId}
use Rattle.ks_history.specs.declared.journal.Entry.{Entry}
use Rattle.ks_history.specs.Machine.{IsNetwork, TaskPlan, has_topic, part_of}
use Rattle.ks_history.specs.State.{Setup, State, IsSetup, has_task}
use Rattle.ks_history.specs.Reads.{MayFetch, fetched, ends_of}
use Rattle.ks_history.proofs.Histories.{stable-le}
use Rattle.ks_history.specs.Follows.{ReplicaView, ReplicaFollows}
use Rattle.ks_history.specs.History.{at, IsHistory}
use Rattle.ks_law_restore.specs.Replicas.{fed_replica}
use Rattle.ks_law_restore.proofs.Lasting.{replica_stands}
use Rattle.ks_law_restore.proofs.Replicas.{feeding_follows}
use Rattle.ks_law_commit.specs.Bounds.{stable_of}
use Rattle.ks_law_commit.specs.Moves.{IsMoved, IsFed}
use Rattle.ks_law_commit.proofs.Bounds.{replica_is_within, stable_rises}
use Rattle.ks_law_commit.proofs.Moving.{feeding_moves, fed_twice}
use Rattle.ks_growing.specs.Passes.{PassView}
use Rattle.ks_shared.specs.declared.state.Frame.{Frame}
use Rattle.ks_shared.specs.Calls.{setup_in}
use Rattle.ks_worker_client.specs.Calls.{Later, state_seen}
use Rattle.ks_worker_client.proofs.Moments.{same_frame}
use Rattle.ks_standby.specs.declared.replica.Replica.{Replica}
use Rattle.ks_standby.specs.Replicas.{replica_view, changelogs_of}
use Rattle.ks_worker_state.specs.Standbys.{IsStandby, IsFedStandby, HasMoved, HasReadStable}

module _ (setup : Setup) where
  -- it may be fed where it stands
  pub may_feed : (journal : List Entry) (r : Replica) (topic part from : ℕ) → IsSetup setup → IsStandby setup journal r → has_topic topic (changelogs_of r) ≡ true → part ≡ r.id.part → from ≡ (replica_view r).position topic →
      MayFetch setup (at setup journal) (record { topic = topic; part = part }) from 4096
  may_feed journal r topic part from made s there is at_it =
      let own : has_topic topic (setup.plan.changelogs r.id.sub) ≡ true = sym (ap (has_topic topic) s.replica.changelogs) ∙ there in
      let may : MayFetch setup (at setup journal) (part_of topic r.id) ((replica_view r).position topic) 4096 = record {
        part = made.changelogs r.id topic s.known own;
        within = replica_is_within setup journal (replica_view r) topic own s.replica.follows;
        some = omega arith;
      } in
      subst (λ n. MayFetch setup (at setup journal) (record { topic = topic; part = part }) n 4096) (sym at_it)
      (subst (λ n. MayFetch setup (at setup journal) (record { topic = topic; part = n }) ((replica_view r).position topic) 4096) (sym is) may)

  -- whatever others write
  pub standby_stays : (journal more : List Entry) (r : Replica) → IsNetwork setup.plan → IsHistory setup (journal ++ more) → IsStandby setup journal r → IsStandby setup (journal ++ more) r
  standby_stays journal more r net history s = record {
    known = s.known;
    replica = record { task = refl; changelogs = s.replica.changelogs; follows = replica_stands setup journal more (replica_view r) net history s.replica.follows };
  }

  -- it takes what a fetch gives
  pub standby_fed : (journal more : List Entry) (old new : Replica) (topic part from next : ℕ) (recs : List (ℕ × Rec)) → IsNetwork setup.plan → IsHistory setup (journal ++ more) → IsStandby setup journal old →
      has_topic topic (changelogs_of old) ≡ true → part ≡ old.id.part → from ≡ (replica_view old).position topic →
      (recs, next) ≡ fetched (at setup (journal ++ more)) (record { topic = topic; part = part }) from 4096 →
      replica_view new ≡ fed_replica (replica_view old) topic recs next → changelogs_of new ≡ changelogs_of old → IsFedStandby setup journal (journal ++ more) (topic ∷ []) old new
  standby_fed journal more old new topic part from next recs net history s there is at_it got view logs =
      let now : List Entry = journal ++ more in
      let t : IsStandby setup now old = standby_stays journal more old net history s in
      let own : has_topic topic (setup.plan.changelogs old.id.sub) ≡ true = sym (ap (has_topic topic) t.replica.changelogs) ∙ there in
      let gave : (recs, next) ≡ fetched (at setup now) (part_of topic old.id) ((replica_view old).position topic) 4096 =
      got ∙ ap₂ (λ (p n : ℕ). fetched (at setup now) (record { topic = topic; part = p }) n 4096) is at_it in
      let fed : replica_view new ≡ fed_replica (replica_view old) topic (fetched (at setup now) (part_of topic old.id) ((replica_view old).position topic) 4096).0 (fetched (at setup now) (part_of topic old.id) ((replica_view old).position topic) 4096).1 =
      view ∙ ap (λ (g : List (ℕ × Rec) × ℕ). fed_replica (replica_view old) topic g.0 g.1) gave in
      let same : old.id ≡ new.id = sym (ap (λ (v : ReplicaView). v.task) view) in
      let moved : IsFed setup now (topic ∷ []) (replica_view old) (replica_view new) = subst (IsFed setup now (topic ∷ []) (replica_view old)) (sym fed)
      (feeding_moves setup now (replica_view old) topic 4096 (replica_is_within setup now (replica_view old) topic own t.replica.follows) (omega arith)) in
      record {
        standby = record {
          known = subst (λ u. has_task u setup.tasks ≡ true) same t.known;
          replica = record {
            task = refl;
            changelogs = logs ∙ t.replica.changelogs ∙ ap (λ (u : TaskId). setup.plan.changelogs u.sub) same;
            follows = subst (ReplicaFollows setup now) (sym fed) (feeding_follows setup now (replica_view old) topic 4096 own (omega arith) t.replica.follows);
          };
        };
        changelogs = logs;
        fed = fed_twice setup journal more [] (topic ∷ []) (replica_view old) (replica_view old) (replica_view new) net history (unfed setup journal (replica_view old)) moved;
      }
    where
      unfed : (setup : Setup) (h : List Entry) (r : ReplicaView) → IsFed setup h [] r r
      unfed setup h r = record { task = refl; later = λ u. omega arith; moved = λ u none. absurd cc }

-- ---- one feeding after another
front_topic : (u : ℕ) (xs ys : List ℕ) → has_topic u xs ≡ true → has_topic u (xs ++ ys) ≡ true
front_topic u [] ys h = absurd (true≢false (sym h))
front_topic u (x ∷ xs) ys h = by (u == x) h (λ g. front_topic u xs ys g)
  where
    by : (b : Bool) → b || has_topic u xs ≡ true → (has_topic u xs ≡ true → has_topic u (xs ++ ys) ≡ true) → b || has_topic u (xs ++ ys) ≡ true
    by true g more = refl
    by false g more = more g

one_topic : (xs : List ℕ) (i d : ℕ) → i < length xs → has_topic (get_or xs i d) xs ≡ true
one_topic [] i d h = absurd (omega (arith, h))
one_topic (x ∷ xs) zero d h = ap (λ b. b || has_topic x xs) (eq-eqb x x refl)
one_topic (x ∷ xs) (suc i) d h = by (get_or xs i d == x) (one_topic xs i d (omega (arith, h)))
  where
    by : (b : Bool) → has_topic (get_or xs i d) xs ≡ true → b || has_topic (get_or xs i d) xs ≡ true
    by true more = refl
    by false more = more

-- the i-th of the task's changelogs
pub own_topic : (r now : Replica) (xs : List ℕ) (i : ℕ) → i < length xs → xs ≡ changelogs_of r → changelogs_of now ≡ changelogs_of r → has_topic (get_or xs i 0) (changelogs_of now) ≡ true
own_topic r now xs i h is same = subst (λ l. has_topic (get_or xs i 0) l ≡ true) (is ∙ sym same) (one_topic xs i 0 h)

module _ {W : Type 0} (plan : W → TaskPlan) (old mid new : PassView Entry (Frame W)) (l : Later plan old mid) where
  pub standby_at : (r : Replica) → IsStandby (setup_in plan old.frame) mid.seen r → IsStandby (setup_in plan mid.frame) mid.seen r
  standby_at r s = subst (λ f. IsStandby (setup_in plan f) mid.seen r) (sym (same_frame plan old mid l)) s

  pub standby_later : (r : Replica) → IsNetwork (setup_in plan old.frame).plan → IsStandby (setup_in plan old.frame) old.seen r → IsStandby (setup_in plan old.frame) mid.seen r
  standby_later r net s = subst (λ j. IsStandby (setup_in plan old.frame) j r) (sym l.seen) (standby_stays (setup_in plan old.frame) old.seen l.more r net l.history s)

  pub not_fed : (r : Replica) → IsNetwork (setup_in plan old.frame).plan → IsStandby (setup_in plan old.frame) old.seen r → IsFedStandby (setup_in plan old.frame) old.seen mid.seen [] r r
  not_fed r net s = record {
    standby = standby_later r net s;
    changelogs = refl;
    fed = record { task = refl; later = λ u. omega arith; moved = λ u none. absurd cc };
  }

  module _ (k : Later plan mid new) (net : IsNetwork (setup_in plan old.frame).plan) (a b c : Replica) (xs ys : List ℕ) where
    pub fed_more : IsFedStandby (setup_in plan old.frame) old.seen mid.seen xs a b → IsFedStandby (setup_in plan mid.frame) mid.seen new.seen ys b c → IsFedStandby (setup_in plan old.frame) old.seen new.seen (xs ++ ys) a c
    fed_more f g =
        let h : IsFedStandby (setup_in plan old.frame) mid.seen new.seen ys b c = subst (λ n. IsFedStandby (setup_in plan n) mid.seen new.seen ys b c) (same_frame plan old mid l) g in
        record {
          standby = h.standby;
          changelogs = h.changelogs ∙ f.changelogs;
          fed = fed_twice (setup_in plan old.frame) old.seen l.more xs ys (replica_view a) (replica_view b) (replica_view c) net l.history f.fed
              (subst (λ j. IsFed (setup_in plan old.frame) j ys (replica_view b) (replica_view c)) l.seen h.fed);
        }

    pub fed_on : IsFedStandby (setup_in plan old.frame) old.seen mid.seen xs a b → IsFedStandby (setup_in plan mid.frame) mid.seen new.seen ys b c → IsFedStandby (setup_in plan old.frame) old.seen new.seen xs a c
    fed_on f g =
        let all : IsFedStandby (setup_in plan old.frame) old.seen new.seen (xs ++ ys) a c = fed_more f g in
        record {
          standby = all.standby;
          changelogs = all.changelogs;
          fed = record { task = all.fed.task; later = all.fed.later; moved = λ u there. all.fed.moved u (front_topic u xs ys there) };
        }

-- one more of the changelogs
pub one_more_topic : (xs : List ℕ) (i : ℕ) → i < length xs → take i xs ++ get_or xs i 0 ∷ [] ≡ take (i + 1) xs
one_more_topic xs i h = sym (take-suc xs i 0 h) ∙ ap (λ k. take k xs) (sym (add-one i))

-- a call on what is fed
module _ {W : Type 0} (plan : W → TaskPlan) (pass new : PassView Entry (Frame W)) (l : Later plan pass new) where
  pub fed_by : (old fed : Replica) (topic part from next : ℕ) (recs : List (ℕ × Rec)) → IsNetwork (setup_in plan pass.frame).plan → IsStandby (setup_in plan pass.frame) pass.seen old →
      has_topic topic (changelogs_of old) ≡ true → part ≡ old.id.part → from ≡ (replica_view old).position topic →
      recs ≡ (fetched (state_seen plan new) (record { topic = topic; part = part }) from 4096).0 → next ≡ (fetched (state_seen plan new) (record { topic = topic; part = part }) from 4096).1 →
      replica_view fed ≡ fed_replica (replica_view old) topic recs next → changelogs_of fed ≡ changelogs_of old → IsFedStandby (setup_in plan pass.frame) pass.seen new.seen (topic ∷ []) old fed
  fed_by old fed topic part from next recs net s there is at_it records goes view logs =
      let setup : Setup = setup_in plan pass.frame in
      let here : (recs, next) ≡ fetched (at setup (pass.seen ++ l.more)) (record { topic = topic; part = part }) from 4096 =
      (λ i. (records i, goes i)) ∙ ap₂ (λ f j. fetched (at (setup_in plan f) j) (record { topic = topic; part = part }) from 4096) (same_frame plan pass new l) l.seen in
      subst (λ j. IsFedStandby setup pass.seen j (topic ∷ []) old fed) (sym l.seen)
      (standby_fed setup pass.seen l.more old fed topic part from next recs net l.history s there is at_it here view logs)

-- ---- what moves nothing
neither : (a b : Bool) → a || b ≡ false → (a ≡ false) × (b ≡ false)
neither true b e = absurd (true≢false e)
neither false b e = (refl, e)

only_one : (u topic : ℕ) → has_topic u (topic ∷ []) ≡ true → u ≡ topic
only_one u topic h = by (u == topic) refl h
  where
    by : (b : Bool) → (u == topic) ≡ b → b || false ≡ true → u ≡ topic
    by true e h = eqb-true u topic e
    by false e h = absurd (true≢false (sym h))

some_topic : (u : ℕ) (xs ys : List ℕ) → has_topic u (xs ++ ys) ≡ true → (has_topic u xs ≡ true) ⊎ (has_topic u ys ≡ true)
some_topic u [] ys h = inr h
some_topic u (x ∷ xs) ys h = by (u == x) h (some_topic u xs ys)
  where
    by : (b : Bool) → b || has_topic u (xs ++ ys) ≡ true → (has_topic u (xs ++ ys) ≡ true → (has_topic u xs ≡ true) ⊎ (has_topic u ys ≡ true)) → (b || has_topic u xs ≡ true) ⊎ (has_topic u ys ≡ true)
    by true g more = inl refl
    by false g more = more g

-- ---- what moves it
-- it goes on where the fetch does
placed : (old fed : ReplicaView) (topic next : ℕ) (recs : List (ℕ × Rec)) → fed ≡ fed_replica old topic recs next → fed.position topic ≡ next
placed old fed topic next recs view = ap (λ (v : ReplicaView). v.position topic) view ∙ ap (λ b. cond b next (old.position topic)) (eq-eqb topic topic refl)

pub moves_by : (old fed : ReplicaView) (topic from next : ℕ) (recs : List (ℕ × Rec)) → from ≡ old.position topic → fed ≡ fed_replica old topic recs next → nat_lt from next ≡ true → old.position topic < fed.position topic
moves_by old fed topic from next recs at_it view moves = omega (arith, at_it, placed old fed topic next recs view, ltb-true from next moves)

last_topic : (u : ℕ) (xs : List ℕ) → has_topic u (xs ++ u ∷ []) ≡ true
last_topic u [] = ap (λ b. b || false) (eq-eqb u u refl)
last_topic u (x ∷ xs) = by (u == x) (last_topic u xs)
  where
    by : (b : Bool) → has_topic u (xs ++ u ∷ []) ≡ true → b || has_topic u (xs ++ u ∷ []) ≡ true
    by true more = refl
    by false more = more

-- one of the changelogs so far moved it, or the next one does
pub moves_more : (a b c : ReplicaView) (xs : List ℕ) (topic : ℕ) (moved moves : Bool) → moved || moves ≡ true → (moved ≡ true → HasMoved xs a b) → (moves ≡ true → b.position topic < c.position topic) →
    ((u : ℕ) → a.position u ≤ b.position u) → ((u : ℕ) → b.position u ≤ c.position u) → HasMoved (xs ++ topic ∷ []) a c
moves_more a b c xs topic true moves either before now early late =
    let m : HasMoved xs a b = before refl in
    record { topic = m.topic; own = front_topic m.topic xs (topic ∷ []) m.own; rose = omega (arith, m.rose, late m.topic) }
moves_more a b c xs topic false moves either before now early late =
    record { topic = topic; own = last_topic topic xs; rose = omega (arith, early topic, now either) }

module _ (setup : Setup) (h : List Entry) where
  -- a fetch that doesn't move it leaves nothing stable
  still : (stable old new next : ℕ) → IsMoved stable old new → new ≡ next → next ≤ old → stable ≤ new
  still stable old new next (inl rose) is most = absurd (omega (arith, rose, is, most))
  still stable old new next (inr past) is most = past

  pub stops_by : (old fed : Replica) (topic from next : ℕ) (recs : List (ℕ × Rec)) → IsFed setup h (topic ∷ []) (replica_view old) (replica_view fed) → from ≡ (replica_view old).position topic →
      replica_view fed ≡ fed_replica (replica_view old) topic recs next → nat_lt from next ≡ false → HasReadStable setup h (topic ∷ []) (replica_view fed)
  stops_by old fed topic from next recs f at_it view stays u there =
      subst (λ n. stable_of (at setup h) (part_of n (replica_view fed).task) ≤ (replica_view fed).position n) (sym (only_one u topic there)) here
    where
      here : stable_of (at setup h) (part_of topic (replica_view fed).task) ≤ (replica_view fed).position topic
      here = subst (λ (t : TaskId). stable_of (at setup h) (part_of topic t) ≤ (replica_view fed).position topic) (sym f.task)
          (still (stable_of (at setup h) (part_of topic (replica_view old).task)) ((replica_view old).position topic) ((replica_view fed).position topic) next
          (f.moved topic (ap (λ b. b || false) (eq-eqb topic topic refl))) (placed (replica_view old) (replica_view fed) topic next recs view) (omega (arith, at_it, ltb-false from next stays)))

module _ {W : Type 0} (plan : W → TaskPlan) (old mid : PassView Entry (Frame W)) (l : Later plan old mid) (net : IsNetwork (setup_in plan old.frame).plan) where
  pub read_since : (topics : List ℕ) (r : ReplicaView) → HasReadStable (setup_in plan mid.frame) mid.seen topics r → HasReadStable (setup_in plan old.frame) old.seen topics r
  read_since topics r h u there =
      let setup : Setup = setup_in plan old.frame in
      let then_read : stable_of (at setup (old.seen ++ l.more)) (part_of u r.task) ≤ r.position u =
      subst (λ j. stable_of (at setup j) (part_of u r.task) ≤ r.position u) l.seen (subst (λ f. stable_of (at (setup_in plan f) mid.seen) (part_of u r.task) ≤ r.position u) (same_frame plan old mid l) (h u there)) in
      omega (arith, then_read, stable_rises setup old.seen l.more (part_of u r.task) net l.history)

  -- nothing moved it so far, nor does the next changelog
  pub read_more : (b c : Replica) (xs : List ℕ) (topic : ℕ) (moved moves : Bool) → moved || moves ≡ false → (moved ≡ false → HasReadStable (setup_in plan old.frame) old.seen xs (replica_view b)) →
      IsFed (setup_in plan mid.frame) mid.seen (topic ∷ []) (replica_view b) (replica_view c) → (moves ≡ false → HasReadStable (setup_in plan mid.frame) mid.seen (topic ∷ []) (replica_view c)) →
      HasReadStable (setup_in plan old.frame) old.seen (xs ++ topic ∷ []) (replica_view c)
  read_more b c xs topic moved moves none before f after u there = by (some_topic u xs (topic ∷ []) there)
    where
      by : (has_topic u xs ≡ true) ⊎ (has_topic u (topic ∷ []) ≡ true) → stable_of (at (setup_in plan old.frame) old.seen) (part_of u (replica_view c).task) ≤ (replica_view c).position u
      by (inl early) =
          subst (λ (t : TaskId). stable_of (at (setup_in plan old.frame) old.seen) (part_of u t) ≤ (replica_view c).position u) (sym f.task)
          (let past = before (neither moved moves none).0 u early in omega (arith, past, f.later u))
      by (inr late) = read_since (topic ∷ []) (replica_view c) (after (neither moved moves none).1) u late

  -- it has reached the next end, which is past what was stable then, or nothing stable was left there
  pub read_to : (b c : Replica) (xs : List ℕ) (topic end : ℕ) → HasReadStable (setup_in plan old.frame) old.seen xs (replica_view b) → IsFed (setup_in plan mid.frame) mid.seen [] (replica_view b) (replica_view c) →
      stable_of (at (setup_in plan old.frame) old.seen) (part_of topic (replica_view c).task) ≤ end →
      (end ≤ (replica_view c).position topic) ⊎ HasReadStable (setup_in plan mid.frame) mid.seen (topic ∷ []) (replica_view c) →
      HasReadStable (setup_in plan old.frame) old.seen (xs ++ topic ∷ []) (replica_view c)
  read_to b c xs topic end before f told stop u there = by (some_topic u xs (topic ∷ []) there)
    where
      last : u ≡ topic → has_topic u (topic ∷ []) ≡ true → (end ≤ (replica_view c).position topic) ⊎ HasReadStable (setup_in plan mid.frame) mid.seen (topic ∷ []) (replica_view c) →
          stable_of (at (setup_in plan old.frame) old.seen) (part_of u (replica_view c).task) ≤ (replica_view c).position u
      last is own (inl reached) =
          subst (λ n. stable_of (at (setup_in plan old.frame) old.seen) (part_of n (replica_view c).task) ≤ (replica_view c).position n) (sym is) (omega (arith, told, reached))
      last is own (inr read) = read_since (topic ∷ []) (replica_view c) read u own

      by : (has_topic u xs ≡ true) ⊎ (has_topic u (topic ∷ []) ≡ true) → stable_of (at (setup_in plan old.frame) old.seen) (part_of u (replica_view c).task) ≤ (replica_view c).position u
      by (inl early) =
          subst (λ (t : TaskId). stable_of (at (setup_in plan old.frame) old.seen) (part_of u t) ≤ (replica_view c).position u) (sym f.task)
          (let past = before u early in omega (arith, past, f.later u))
      by (inr late) = last (only_one u topic late) late stop

-- what was stable stood below the ends
pub told_end : (s : State) (t : TaskId) (topics ends : List ℕ) (i : ℕ) → ends ≡ ends_of s (map (λ n. part_of n t) topics) → i < length topics → stable_of s (part_of (get_or topics i 0) t) ≤ get_or ends i 0
told_end s t topics ends i is h = subst (λ l. stable_of s (part_of (get_or topics i 0) t) ≤ get_or l i 0) (sym is) (by topics i h)
  where
    by : (xs : List ℕ) (k : ℕ) → k < length xs → stable_of s (part_of (get_or xs k 0) t) ≤ get_or (ends_of s (map (λ n. part_of n t) xs)) k 0
    by [] k h = absurd (omega (arith, h))
    by (x ∷ xs) zero h = stable-le (s.partition (part_of x t))
    by (x ∷ xs) (suc k) h = by xs k (omega (arith, h))

-- what has read all that was stable was fed from there
pub fed_of : (setup : Setup) (h now : List Entry) (xs : List ℕ) (a c : Replica) → IsFedStandby setup h now [] a c → HasReadStable setup h xs (replica_view c) → IsFedStandby setup h now xs a c
fed_of setup h now xs a c f read = record {
  standby = f.standby;
  changelogs = f.changelogs;
  fed = record {
    task = f.fed.task;
    later = f.fed.later;
    moved = λ u there. inr (subst (λ (t : TaskId). stable_of (at setup h) (part_of u t) ≤ (replica_view c).position u) f.fed.task (read u there));
  };
}
