-- A read lasts: what it reads is the store of a replica that follows the journal.
use Rattle.std.proofs.Common.{◌≡◌, ℕ, Bool, true, false, cond, List, [], ◌∷◌, ◌++◌, refl, sym, ap, subst, ◌∙◌, arith, eq-eqb, eqb-true, le-ltb, inl}
use Rattle.std.specs.Prelude.{◌==◌}
use Rattle.ks_record.specs.declared.record.TaskId.{TaskId}
use Rattle.ks_def_runs.specs.Bytes.{Store, empty_store}
use Rattle.ks_def_runs.specs.FinMap as fin
use Rattle.ks_history.specs.declared.journal.Entry.{Entry}
use Rattle.ks_history.specs.Partition.{Logged, recs, below}
use Rattle.ks_history.specs.Machine.{latest, part_of}
use Rattle.ks_history.specs.State.{State, Setup}
use Rattle.ks_history.specs.Faithful.{decided}
use Rattle.ks_history.specs.Follows.{ReplicaView, ReplicaFollows, IsReached}
use Rattle.ks_history.specs.History.{at}
use Rattle.ks_law_restore.proofs.Lasting.{replica_stands}
use Rattle.ks_law_reads.specs.Reads.{store_at}
use Rattle.ks_law_reads.specs.Laws.{ReadsLast, ReplicaReads}

below_none : (xs : List Logged) → below 0 xs ≡ []
below_none [] = refl
below_none (x ∷ xs) = ap (λ b. cond b (x ∷ below 0 xs) (below 0 xs)) (le-ltb x.offset 0 (omega arith)) ∙ below_none xs

-- a replica with this store and this position at one changelog, and nothing elsewhere
abbrev pub one_log : TaskId → ℕ → ℕ → Store → ReplicaView
one_log t log q m = record { task = t; stores = λ u. cond (u == log) m empty_store; position = λ u. cond (u == log) q 0 }

module _ (setup : Setup) (journal : List Entry) (t : TaskId) (log q : ℕ) (m : Store)
    (is : m ≡ store_at (at setup journal) (part_of log t) q) (reached : IsReached (at setup journal) (part_of log t) q) where
  abbrev s : State
  s = at setup journal

  stores_at : (u : ℕ) (b : Bool) → u == log ≡ b → cond b m empty_store ≡ latest (recs (below (cond b q 0) (decided s (part_of u t))))
  stores_at u true e = is ∙ ap (λ n. latest (recs (below q (decided s (part_of n t))))) (sym (eqb-true u log e))
  stores_at u false e = sym (ap (λ (l : List Logged). latest (recs l)) (below_none (decided s (part_of u t))))

  reached_at : (u : ℕ) (b : Bool) → u == log ≡ b → IsReached s (part_of u t) (cond b q 0)
  reached_at u true e = subst (λ n. IsReached s (part_of n t) q) (sym (eqb-true u log e)) reached
  reached_at u false e = inl (omega arith)

  pub one_follows : ReplicaFollows setup journal (one_log t log q m)
  one_follows = record {
    stores = λ u own. stores_at u (u == log) refl;
    reached = λ u own. reached_at u (u == log) refl;
  }

pub reads_last : ReadsLast
reads_last setup journal more t log key value q net history own read =
    let m : Store = store_at (at setup journal) (part_of log t) q in
    let follows : ReplicaFollows setup (journal ++ more) (one_log t log q m) = replica_stands setup journal more (one_log t log q m) net history (one_follows setup journal t log q m refl read.reached) in
    let here : (log == log) ≡ true = eq-eqb log log refl in
    record {
      reached = subst (λ b. IsReached (at setup (journal ++ more)) (part_of log t) (cond b q 0)) here (follows.reached log own);
      value = read.value ∙ ap (λ (n : Store). fin.get n key) (sym (ap (λ b. cond b m empty_store) here) ∙ (follows.stores log own
          ∙ ap (λ b. latest (recs (below (cond b q 0) (decided (at setup (journal ++ more)) (part_of log t))))) here));
    }

pub replica_reads : ReplicaReads
replica_reads setup journal r log key own follows = record {
  reached = follows.reached log own;
  value = ap (λ (n : Store). fin.get n key) (follows.stores log own);
}
