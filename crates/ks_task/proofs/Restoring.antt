-- The task of a replica that has reached the ends is the worker's own.
use Rattle.std.proofs.Common.{◌≡◌, ℕ, ◌≤◌, ◌||◌, true, false, cond, List, [], ◌∷◌, ◌++◌, map, refl, sym, ap, subst, ◌∙◌, arith, append_assoc}
use Rattle.std.specs.Prelude.{◌==◌}
use Rattle.std.proofs.lemmas.Bool.{eqb-true, true≢false}
use Rattle.ks_history.specs.declared.journal.Entry.{Entry}
use Rattle.ks_history.specs.Machine.{part_of, has_topic}
use Rattle.ks_history.specs.State.{Setup, offset_in}
use Rattle.ks_history.specs.Reads.{end_of}
use Rattle.ks_history.specs.History.{at, IsHistory}
use Rattle.ks_history.proofs.Histories.{history_front, stable-le}
use Rattle.ks_law_exactly_once.proofs.Replays.{whole}
use Rattle.ks_law_restore.specs.Replicas.{restored_view}
use Rattle.ks_law_sharing.proofs.Restoring.{restored_is_active}
use Rattle.ks_law_sharing.proofs.Rising.{ends_rise}
use Rattle.ks_standby.specs.declared.replica.Replica.{Replica}
use Rattle.ks_standby.specs.Replicas.{replica_view}
use Rattle.ks_standby.proofs.Feeding.{no_other}
use Rattle.ks_task.specs.Restored.{MayRestore, IsRestored, MadeIsRestored}

-- an offset that is listed
pub listed : (f : ℕ → ℕ) (topics : List ℕ) (topic : ℕ) → has_topic topic topics ≡ true → offset_in 0 topic (map (λ n. (n, f n)) topics) ≡ f topic
listed f [] topic h = absurd (true≢false (sym h))
listed f (n ∷ ns) topic h = elim (topic == n) as (λ b. (topic == n) ≡ b → b || has_topic topic ns ≡ true → cond b (f n) (offset_in 0 topic (map (λ k. (k, f k)) ns)) ≡ f topic) [
  | true ↦ λ e g. ap f (sym (eqb-true topic n e))
  | false ↦ λ e g. listed f ns topic g
] refl h

pub listed_topics : (f : ℕ → ℕ) (topics : List ℕ) → map (λ (o : ℕ × ℕ). o.0) (map (λ n. (n, f n)) topics) ≡ topics
listed_topics f [] = refl
listed_topics f (n ∷ ns) = ap (λ l. n ∷ l) (listed_topics f ns)

restored : (setup : Setup) (journal one two : List Entry) (w g last : ℕ) (r : Replica) (offsets : List (ℕ × ℕ)) → MayRestore setup journal one two w g last r offsets →
    IsRestored setup (journal ++ one ++ two) w g last (restored_view (replica_view r) (λ topic. offset_in 0 topic offsets))
restored setup journal one two w g last r offsets m = record {
  active = restored_is_active setup journal one two w g last (replica_view r) (λ topic. offset_in 0 topic offsets) m.network m.history m.seen m.answered committed m.reached (no_other setup.plan r m.changelogs) m.follows;
  clean = λ topic. refl;
  rests = m.follows;
  within = λ topic h.
      let sound = (whole setup m.network journal early).sound.committed r.id topic in
      let rise = ends_rise setup journal (one ++ two) (part_of topic r.id) in
      subst (λ l. offset_in 0 topic offsets ≤ end_of (at setup l) (part_of topic r.id)) (sym (append_assoc journal one two))
      (omega (arith, committed topic h, sound, stable-le ((at setup journal).partition (part_of topic r.id)), rise));
}
  where
    early : IsHistory setup journal
    early = history_front setup journal (journal ++ one ++ two) (one ++ two, append_assoc journal one two) m.history

    committed : (topic : ℕ) → has_topic topic (setup.plan.inputs r.id.sub) ≡ true → offset_in 0 topic offsets ≡ (at setup journal).committed r.id topic
    committed topic h = ap (offset_in 0 topic) m.offsets_are ∙ listed ((at setup journal).committed r.id) (setup.plan.inputs r.id.sub) topic h

pub made_is_restored : MadeIsRestored
made_is_restored setup journal one two w g last r offsets t m is = subst (IsRestored setup (journal ++ one ++ two) w g last) (sym is) (restored setup journal one two w g last r offsets m)
