-- What readers are given is what the state says.
use Rattle.std.proofs.Common.{◌≡◌, ℕ, zero, suc, ◌+◌, cond, List, [], ◌∷◌, length, Option, Some, None, Result, Ok, Err, refl, sym, ap, ◌∙◌}
use Rattle.std.specs.Prelude.{map, ◌||◌}
use Rattle.ks_record.specs.declared.record.PartId.{PartId}
use Rattle.ks_record.specs.declared.record.TaskId.{TaskId}
use Rattle.ks_record.specs.declared.assignment.Refused.{Refused}
use Rattle.ks_history.specs.declared.transaction.Producer.{Producer}
use Rattle.ks_history.specs.State.{State, Setup}
use Rattle.ks_history.specs.Step.{or_else, old_generation, not_assigned, unstable, is_undecided}
use Rattle.ks_history.specs.Faithful.{marker_among, waiting_at, markers_of}
use Rattle.ks_history.specs.Reads.{committed_refusal, end_of, ends_of, decided_records, is_some_waiting, pending_from, waiting_from, pending_producers}
use Rattle.ks_log.specs.Written.{slots_in}
use Rattle.ks_log.specs.Reading.{waiting_in, decided_pairs, end_at}
use Rattle.ks_log.proofs.Pairs.{decided-is}
use Rattle.ks_group.specs.Pending.{unstable_in, counts_for}
use Rattle.ks_group.specs.Group.{committed_fault}
use Rattle.ks_group.specs.New.{Refuses as GroupRefuses}
use Rattle.ks_cluster.specs.declared.broker.Broker.{Broker}
use Rattle.ks_cluster.specs.Moves.{IsAt, plain}
use Rattle.ks_cluster.specs.Statuses.{with_producers}
use Rattle.ks_cluster.specs.View.{Refuses}
use Rattle.ks_cluster.proofs.Plain.{open_plain}
use Rattle.ks_cluster.proofs.Steps.{speak_is, unstable_all}

-- ---- committed
or_else-assoc : (a b c : Option Refused) → or_else (or_else a b) c ≡ or_else a (or_else b c)
or_else-assoc None b c = refl
or_else-assoc (Some r) b c = refl

pub committed_refused : (setup : Setup) (s : State) (b : Broker) (w g : ℕ) (t : TaskId) → IsAt setup s b → committed_fault b.group w g t ≡ committed_refusal s w g t
committed_refused setup s b w g t k =
    ap (λ o. or_else o (unstable_in t (counts_for None) 0 b.group.pending)) (speak_is setup s b.group w g t k.group_is)
    ∙ ap (or_else (or_else (old_generation s g) (not_assigned s w t))) (unstable_all setup s b.group t (counts_for None) k.group_is)
    ∙ or_else-assoc (old_generation s g) (not_assigned s w t) (unstable s t)

-- the group's answer is refused as the cluster's
pub refuses_so : {A : Type 0} (o p : Option Refused) (r : Result A Refused) → o ≡ p → GroupRefuses o r → Refuses p r
refuses_so o p (Ok x) same none = sym same ∙ none
refuses_so o p (Err refused) same some = sym same ∙ some

map-same : {A B : Type 0} (f g : A → B) (xs : List A) → ((x : A) → f x ≡ g x) → map f xs ≡ map g xs
map-same f g [] same = refl
map-same f g (x ∷ xs) same = ap (λ y. y ∷ map f xs) (same x) ∙ ap (λ ys. g x ∷ ys) (map-same f g xs same)

-- ---- ends, decided records, pending producers
pub ends-are : (setup : Setup) (s : State) (b : Broker) (parts : List PartId) → IsAt setup s b → map (end_at b.log) parts ≡ ends_of s parts
ends-are setup s b parts k = map-same (end_at b.log) (end_of s) parts (λ p. ap length (k.log_is p))

pub decided-are : (setup : Setup) (s : State) (b : Broker) (p : PartId) → IsAt setup s b → decided_pairs (waiting_in b.txns p) 0 (slots_in p b.log) ≡ decided_records s p
decided-are setup s b p k =
    ap (decided_pairs (waiting_in b.txns p) 0) (k.log_is p)
    ∙ decided-is (waiting_in b.txns p) (waiting_at (markers_of s) p) (λ w e. ap (λ (q : Producer). marker_among p e q.waiting) (k.producers_are w)) 0 (s.partition p)

-- what counts of producers is the same of the state's
pending-same : (a s : State) (v left : ℕ) → ((w : ℕ) → a.producer w ≡ plain (s.producer w)) → pending_from a v left ≡ pending_from s v left
pending-same a s v zero is = refl
pending-same a s v (suc left) is =
    ap (λ b. cond b (suc (pending_from a (v + 1) left)) (pending_from a (v + 1) left))
    (ap (λ (q : Producer). is_undecided q || is_some_waiting q.waiting) (is v) ∙ ap (λ b. b || is_some_waiting (s.producer v).waiting) (open_plain (s.producer v)))
    ∙ ap (λ n. cond (is_undecided (s.producer v) || is_some_waiting (s.producer v).waiting) (suc n) n) (pending-same a s (v + 1) left is)

pub pending-are : (setup : Setup) (s : State) (b : Broker) → IsAt setup s b → pending_from (with_producers b.txns) 0 17 ≡ pending_producers s
pending-are setup s b k = pending-same (with_producers b.txns) s 0 17 k.producers_are

waiting-same : (a s : State) (v left : ℕ) → ((w : ℕ) → a.producer w ≡ plain (s.producer w)) → waiting_from a v left ≡ waiting_from s v left
waiting-same a s v zero is = refl
waiting-same a s v (suc left) is =
    ap (λ (q : Producer). length q.waiting + waiting_from a (v + 1) left) (is v) ∙ ap (λ n. length (s.producer v).waiting + n) (waiting-same a s (v + 1) left is)

pub waiting-are : (setup : Setup) (s : State) (b : Broker) → IsAt setup s b → waiting_from (with_producers b.txns) 0 17 ≡ waiting_from s 0 17
waiting-are setup s b k = waiting-same (with_producers b.txns) s 0 17 k.producers_are
