-- What feeding makes of the view that some changelogs are.
use Rattle.std.proofs.Common.{◌≡◌, ℕ, zero, suc, ◌+◌, ◌<◌, ◌≤◌, ◌==◌, Bool, true, false, cond, ◌||◌, List, [], ◌∷◌, map, length, set, get_or, refl, sym, ap, ap₂, subst, ◌∙◌, arith}
use Rattle.std.specs.Prelude.{if◌then◌else◌}
use Rattle.std.proofs.Math.Path.{fun_ext}
use Rattle.std.proofs.lemmas.Bool.{eqb-true, true≢false}
use Rattle.ks_def_runs.specs.Bytes.{Store, empty_store}
use Rattle.ks_record.specs.Records.{Record as Rec}
use Rattle.ks_record.specs.declared.record.TaskId.{TaskId}
use Rattle.ks_history.specs.declared.journal.Entry.{Entry}
use Rattle.ks_history.specs.Machine.{TaskPlan, has_topic, latest_from}
use Rattle.ks_history.specs.State.{Setup}
use Rattle.ks_history.specs.Follows.{ReplicaView, ReplicaFollows}
use Rattle.ks_law_restore.specs.Replicas.{fresh_replica, fed_replica}
use Rattle.ks_law_restore.proofs.Replicas.{feeding_follows}
use Rattle.ks_store.specs.Restored.{records_of}
use Rattle.ks_cache.specs.Kept.{empty_kept, kept_after}
use Rattle.ks_cache.specs.declared.changelogs.Changelog.{Changelog}
use Rattle.ks_standby.specs.declared.replica.Replica.{Replica}
use Rattle.ks_cache.specs.Changelogs.{stores_in}
use Rattle.ks_standby.specs.Replicas.{positions_in, numbers_of, changelog_place, fed, fed_in, view_in, replica_view, IsReplicaIn, GivesFetched, FollowsOn}

both : {A : Type 0} (b : Bool) (x : A) → cond b x x ≡ x
both true x = refl
both false x = refl

-- ---- new changelogs
pub new_numbers : (numbers : List ℕ) → numbers_of (map (λ number. record { topic = number; position = 0; store = empty_kept }) numbers) ≡ numbers
new_numbers [] = refl
new_numbers (n ∷ ns) = ap (λ l. n ∷ l) (new_numbers ns)

pub new_view : (t : TaskId) (numbers : List ℕ) → view_in t (map (λ number. record { topic = number; position = 0; store = empty_kept }) numbers) ≡ fresh_replica t
new_view t numbers = ap₂ (λ (s : ℕ → Store) (p : ℕ → ℕ). record { task = t; stores = s; position = p }) (fun_ext (λ q. none_stored numbers q)) (fun_ext (λ q. none_moved numbers q))
  where
    none_moved : (ns : List ℕ) (q : ℕ) → positions_in (map (λ number. record { topic = number; position = 0; store = empty_kept }) ns) q ≡ 0
    none_moved [] q = refl
    none_moved (n ∷ ns) q = ap (λ (r : ℕ). if q == n then 0 else r) (none_moved ns q) ∙ both (q == n) 0

    none_stored : (ns : List ℕ) (q : ℕ) → stores_in (map (λ number. record { topic = number; position = 0; store = empty_kept }) ns) q ≡ empty_store
    none_stored [] q = refl
    none_stored (n ∷ ns) q = ap (λ (r : Store). if q == n then empty_store else r) (none_stored ns q) ∙ both (q == n) empty_store

-- ---- feeding
module _ (topic : ℕ) (recs : List (ℕ × Rec)) (next : ℕ) where
  abbrev fed_ones : List Changelog → List Changelog
  fed_ones ls = fed_in topic recs next ls

  pub there_fed : (ls : List Changelog) (x y : Changelog) (i : ℕ) → i ≡ changelog_place ls topic → i < length ls → x ≡ get_or ls i x → y ≡ fed recs next x → set ls i y ≡ fed_ones ls
  there_fed [] x y i e lt read made = absurd (omega (arith, lt))
  there_fed (l ∷ ls) x y i e lt read made = by (topic == l.topic) i e lt read (λ j f h r. there_fed ls x y j f h r made)
    where
      by : (b : Bool) (i : ℕ) → i ≡ cond b 0 (changelog_place ls topic + 1) → i < length (l ∷ ls) → x ≡ get_or (l ∷ ls) i x → ((j : ℕ) → j ≡ changelog_place ls topic → j < length ls → x ≡ get_or ls j x → set ls j y ≡ fed_ones ls)
          → set (l ∷ ls) i y ≡ cond b (fed recs next l ∷ ls) (l ∷ fed_ones ls)
      by true zero e lt read on = ap (λ (v : Changelog). v ∷ ls) (made ∙ ap (fed recs next) read)
      by true (suc i) e lt read on = absurd (omega (arith, e))
      by false zero e lt read on = absurd (omega (arith, e))
      by false (suc i) e lt read on = ap (λ more. l ∷ more) (on i (omega (arith, e)) (omega (arith, lt)) read)

  pub none_fed : (ls : List Changelog) → length ls ≤ changelog_place ls topic → ls ≡ fed_ones ls
  none_fed [] h = refl
  none_fed (l ∷ ls) h = by (topic == l.topic) h (λ k. none_fed ls k)
    where
      by : (b : Bool) → length (l ∷ ls) ≤ cond b 0 (changelog_place ls topic + 1) → (length ls ≤ changelog_place ls topic → ls ≡ fed_ones ls) → l ∷ ls ≡ cond b (fed recs next l ∷ ls) (l ∷ fed_ones ls)
      by true h on = absurd (omega (arith, h))
      by false h on = ap (λ more. l ∷ more) (on (omega (arith, h)))

  pub numbers_fed : (ls : List Changelog) → numbers_of (fed_ones ls) ≡ numbers_of ls
  numbers_fed [] = refl
  numbers_fed (l ∷ ls) = by (topic == l.topic) (numbers_fed ls)
    where
      by : (b : Bool) → numbers_of (fed_ones ls) ≡ numbers_of ls → numbers_of (cond b (fed recs next l ∷ ls) (l ∷ fed_ones ls)) ≡ l.topic ∷ numbers_of ls
      by true e = refl
      by false e = ap (λ ns. l.topic ∷ ns) e

  store_here : (ls : List Changelog) → has_topic topic (numbers_of ls) ≡ true → stores_in (fed_ones ls) topic ≡ latest_from (stores_in ls topic) (records_of recs)
  store_here [] there = absurd (true≢false (sym there))
  store_here (l ∷ ls) there = by (topic == l.topic) refl there (λ h. store_here ls h)
    where
      by : (b : Bool) → (topic == l.topic) ≡ b → b || has_topic topic (numbers_of ls) ≡ true → (has_topic topic (numbers_of ls) ≡ true → stores_in (fed_ones ls) topic ≡ latest_from (stores_in ls topic) (records_of recs)) →
          stores_in (cond b (fed recs next l ∷ ls) (l ∷ fed_ones ls)) topic ≡ latest_from (cond b l.store.whole (stores_in ls topic)) (records_of recs)
      by true e h on = ap (λ c. cond c (latest_from l.store.whole (records_of recs)) (stores_in ls topic)) e
      by false e h on = ap (λ c. cond c l.store.whole (stores_in (fed_ones ls) topic)) e ∙ on h

  position_here : (ls : List Changelog) → has_topic topic (numbers_of ls) ≡ true → positions_in (fed_ones ls) topic ≡ next
  position_here [] there = absurd (true≢false (sym there))
  position_here (l ∷ ls) there = by (topic == l.topic) refl there (λ h. position_here ls h)
    where
      by : (b : Bool) → (topic == l.topic) ≡ b → b || has_topic topic (numbers_of ls) ≡ true → (has_topic topic (numbers_of ls) ≡ true → positions_in (fed_ones ls) topic ≡ next) → positions_in (cond b (fed recs next l ∷ ls) (l ∷ fed_ones ls)) topic ≡ next
      by true e h on = ap (λ c. cond c next (positions_in ls topic)) e
      by false e h on = ap (λ c. cond c l.position (positions_in (fed_ones ls) topic)) e ∙ on h

  store_other : (ls : List Changelog) (q : ℕ) → (q == topic) ≡ false → stores_in (fed_ones ls) q ≡ stores_in ls q
  store_other [] q ne = refl
  store_other (l ∷ ls) q ne = by (topic == l.topic) refl (store_other ls q ne)
    where
      by : (b : Bool) → (topic == l.topic) ≡ b → stores_in (fed_ones ls) q ≡ stores_in ls q → stores_in (cond b (fed recs next l ∷ ls) (l ∷ fed_ones ls)) q ≡ cond (q == l.topic) l.store.whole (stores_in ls q)
      by true e on =
          let no : (q == l.topic) ≡ false = subst (λ n. (q == n) ≡ false) (eqb-true topic l.topic e) ne in
          ap (λ c. cond c (latest_from l.store.whole (records_of recs)) (stores_in ls q)) no ∙ sym (ap (λ c. cond c l.store.whole (stores_in ls q)) no)
      by false e on = ap (λ s. cond (q == l.topic) l.store.whole s) on

  position_other : (ls : List Changelog) (q : ℕ) → (q == topic) ≡ false → positions_in (fed_ones ls) q ≡ positions_in ls q
  position_other [] q ne = refl
  position_other (l ∷ ls) q ne = by (topic == l.topic) refl (position_other ls q ne)
    where
      by : (b : Bool) → (topic == l.topic) ≡ b → positions_in (fed_ones ls) q ≡ positions_in ls q → positions_in (cond b (fed recs next l ∷ ls) (l ∷ fed_ones ls)) q ≡ cond (q == l.topic) l.position (positions_in ls q)
      by true e on =
          let no : (q == l.topic) ≡ false = subst (λ n. (q == n) ≡ false) (eqb-true topic l.topic e) ne in
          ap (λ c. cond c next (positions_in ls q)) no ∙ sym (ap (λ c. cond c l.position (positions_in ls q)) no)
      by false e on = ap (λ s. cond (q == l.topic) l.position s) on

  pub view_fed : (t : TaskId) (ls : List Changelog) → has_topic topic (numbers_of ls) ≡ true → view_in t (fed_ones ls) ≡ fed_replica (view_in t ls) topic recs next
  view_fed t ls there = ap₂ (λ (s : ℕ → Store) (p : ℕ → ℕ). record { task = t; stores = s; position = p })
      (fun_ext (λ q. elim (q == topic) as (λ b. (q == topic) ≡ b → stores_in (fed_ones ls) q ≡ cond b (latest_from (stores_in ls topic) (records_of recs)) (stores_in ls q)) [
        | true ↦ λ e. ap (stores_in (fed_ones ls)) (eqb-true q topic e) ∙ store_here ls there
        | false ↦ λ e. store_other ls q e
      ] refl))
      (fun_ext (λ q. elim (q == topic) as (λ b. (q == topic) ≡ b → positions_in (fed_ones ls) q ≡ cond b next (positions_in ls q)) [
        | true ↦ λ e. ap (positions_in (fed_ones ls)) (eqb-true q topic e) ∙ position_here ls there
        | false ↦ λ e. position_other ls q e
      ] refl))

-- a replica that was fed what a fetch gave follows as before
pub feeds : (setup : Setup) (journal : List Entry) (old new : ReplicaView) (topic : ℕ) (recs : List (ℕ × Rec)) (next : ℕ) → new ≡ fed_replica old topic recs next → GivesFetched setup journal old topic recs next → FollowsOn setup journal old new
feeds setup journal old new topic recs next is got follows =
    subst (ReplicaFollows setup journal) (sym (is ∙ ap (λ (g : List (ℕ × Rec) × ℕ). fed_replica old topic g.0 g.1) got.gives))
    (feeding_follows setup journal old topic got.limit got.changelog got.some follows)

absent : (topic : ℕ) (ls : List Changelog) → has_topic topic (numbers_of ls) ≡ false → stores_in ls topic ≡ empty_store
absent topic [] none = refl
absent topic (l ∷ ls) none = elim (topic == l.topic) as (λ b. b || has_topic topic (numbers_of ls) ≡ false → cond b l.store.whole (stores_in ls topic) ≡ empty_store) [
  | true ↦ λ e. absurd (true≢false e)
  | false ↦ λ e. absent topic ls e
] none

-- a replica that has its task's changelogs has no other store
pub no_other : (plan : TaskPlan) (r : Replica) → IsReplicaIn plan r → (topic : ℕ) → has_topic topic (plan.changelogs r.id.sub) ≡ false → (replica_view r).stores topic ≡ empty_store
no_other plan r is topic h = absent topic r.changelogs.items (ap (has_topic topic) is ∙ h)
