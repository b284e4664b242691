-- A replay takes from the inputs of its tasks alone.
use Rattle.std.proofs.Common.{◌≡◌, ℕ, Bool, true, false, cond, ◌⊎◌, inl, inr, List, [], ◌∷◌, ◌++◌, take, drop, map, Option, Some, None, refl, sym, ap, subst, ◌∙◌}
use Rattle.std.specs.Prelude.{◌==◌}
use Rattle.ks_record.specs.Records.{Record as Rec}
use Rattle.ks_record.specs.declared.record.PartId.{PartId}
use Rattle.ks_record.specs.declared.record.TaskId.{TaskId}
use Rattle.ks_record.specs.declared.assignment.Refused.{Refused}
use Rattle.ks_history.specs.declared.journal.Entry.{Entry}
use Rattle.ks_history.specs.declared.transaction.Pending.{Pending}
use Rattle.ks_history.specs.declared.journal.Request.{Request}
use Rattle.ks_history.specs.declared.journal.Request.TheVariants.{Produce, Init, Add, Append, SendOffsets, Decide, MarkNext, Join, Expire, Hold, Probe, Assign, Park, Unpark}
use Rattle.ks_def_runs.specs.Run.{Taken, channel}
use Rattle.ks_history.specs.Faithful.{pending_offsets, taken}
use Rattle.ks_history.specs.Machine.{TaskPlan, network, part_of, taken_from, batch, has_topic, IsNetwork}
use Rattle.ks_history.specs.Partition.{Logged, past_from, below, readable_from}
use Rattle.ks_history.specs.Replay.{takes, takes_of, takes_by, replayed}
use Rattle.ks_history.specs.State.{State, Setup}
use Rattle.ks_history.specs.Step.{refusal, after, pending_at}
use Rattle.ks_law_exactly_once.specs.Law.{OnInputs}
use Rattle.ks_law_exactly_once.proofs.Batches.{still, take_nothing}

module _ (plan : TaskPlan) where
  abbrev Topics : List (Taken TaskId PartId Rec) → Type 0
  Topics ts = OnInputs plan (map (channel (network plan)) ts)

  Topics-append : (xs ys : List (Taken TaskId PartId Rec)) → Topics xs → Topics ys → Topics (xs ++ ys)
  Topics-append [] ys a b = b
  Topics-append (x ∷ xs) ys a b = (a.0, Topics-append xs ys a.1 b)

  abbrev IsInput : ℕ → Type 0
  IsInput topic = has_topic topic (plan.inputs (plan.reader topic)) ≡ true

  taken_from-topics : (t : TaskId) (topic : ℕ) (xs : List Logged) → IsInput topic → Topics (taken_from t topic xs)
  taken_from-topics t topic [] h = tt
  taken_from-topics t topic (x ∷ xs) h = (h, taken_from-topics t topic xs h)

  part-topics : (t : TaskId) (topic n : ℕ) (xs : List Logged) → (xs ≡ []) ⊎ IsInput topic → Topics (taken_from t topic (take n xs))
  part-topics t topic n xs (inl e) = subst (λ l. Topics (taken_from t topic l)) (sym (ap (take n) e ∙ take_nothing n)) tt
  part-topics t topic n xs (inr h) = taken_from-topics t topic (take n xs) h

  batch-topics : (t : TaskId) (inputs : ℕ → List Logged) → ((topic : ℕ) → (inputs topic ≡ []) ⊎ IsInput topic) → (order : List (ℕ × ℕ)) → Topics (batch t inputs order)
  batch-topics t inputs own [] = tt
  batch-topics t inputs own (run ∷ runs) =
      Topics-append (taken_from t run.0 (take run.1 (inputs run.0))) _ (part-topics t run.0 run.1 (inputs run.0) (own run.0))
      (batch-topics t (λ topic. cond (topic == run.0) (drop run.1 (inputs topic)) (inputs topic)) (λ topic. still (topic == run.0) run.1 (inputs topic) (own topic)) runs)

module _ (setup : Setup) (net : IsNetwork setup.plan) where
  takes-topics : (s : State) (p : Pending) → Topics setup.plan (takes setup s p)
  takes-topics s p = batch-topics setup.plan p.task (taken setup s p.task (pending_offsets s p)) (λ topic. by topic (has_topic topic (setup.plan.inputs p.task.sub)) refl) p.order
    where
      by : (topic : ℕ) (b : Bool) → has_topic topic (setup.plan.inputs p.task.sub) ≡ b →
          (cond b (past_from (s.committed p.task topic) (below (pending_offsets s p topic) (readable_from 0 (s.partition (part_of topic p.task))))) [] ≡ [])
          ⊎ (has_topic topic (setup.plan.inputs (setup.plan.reader topic)) ≡ true)
      by topic true h = inr (ap (λ sub. has_topic topic (setup.plan.inputs sub)) (net.one_reader p.task.sub topic h) ∙ h)
      by topic false h = inl refl

  takes_of-topics : (s : State) (ps : List Pending) → Topics setup.plan (takes_of setup s ps)
  takes_of-topics s [] = tt
  takes_of-topics s (p ∷ ps) = Topics-append setup.plan (takes setup s p) _ (takes-topics s p) (takes_of-topics s ps)

  takes_by-topics : (s : State) (request : Request) (r : Option Refused) → Topics setup.plan (takes_by setup s request r)
  takes_by-topics s (Decide w e true) None = takes_of-topics s (pending_at (s.producer w))
  takes_by-topics s (Decide w e true) (Some refused) = tt
  takes_by-topics s (Decide w e false) r = tt
  takes_by-topics s (Produce p rec) r = tt
  takes_by-topics s (Init w) r = tt
  takes_by-topics s (Add w e p) r = tt
  takes_by-topics s (Append w e number t p rs) r = tt
  takes_by-topics s (SendOffsets w e g t offsets order late) r = tt
  takes_by-topics s (MarkNext w) r = tt
  takes_by-topics s (Join w) r = tt
  takes_by-topics s (Expire w) r = tt
  takes_by-topics s (Hold w held) r = tt
  takes_by-topics s (Probe w g) r = tt
  takes_by-topics s (Assign w g a) r = tt
  takes_by-topics s (Park instance t) r = tt
  takes_by-topics s (Unpark instance t) r = tt

  pub replayed-topics : (s : State) (entries : List Entry) → OnInputs setup.plan (map (channel (network setup.plan)) (replayed setup s entries))
  replayed-topics s [] = tt
  replayed-topics s (entry ∷ entries) =
      Topics-append setup.plan (takes_by setup s entry.request (refusal setup s entry.request)) _ (takes_by-topics s entry.request (refusal setup s entry.request)) (replayed-topics (after setup s entry.request) entries)
