-- The states of a journal's replay, over bytes and decoded.
use Rattle.std.proofs.Common.{◌≡◌, ℕ, zero, suc, List, [], ◌∷◌, map, take, slice_get, Option, Some, refl, ap, ap₂, subst, ◌∙◌}
use Rattle.std.specs.Prelude.{option_map}
use Rattle.ks_record.specs.Records.{Record as Rec}
use Rattle.ks_record.specs.declared.record.PartId.{PartId}
use Rattle.ks_record.specs.declared.record.TaskId.{TaskId}
use Rattle.ks_plan.specs.Drafts.{DraftView}
use Rattle.ks_plan.specs.Plan.{Plan, plan_of}
use Rattle.ks_plan.specs.Layout.{drain_order}
use Rattle.ks_def_runs.specs.Run.{RunState, run}
use Rattle.ks_query.specs.Streams.{Input, Key}
use Rattle.ks_history.specs.declared.journal.Entry.{Entry}
use Rattle.ks_history.specs.Machine.{network}
use Rattle.ks_history.specs.Machine as history
use Rattle.ks_history.specs.State.{Setup, start}
use Rattle.ks_history.specs.History.{IsHistory}
use Rattle.ks_history.specs.Replay.{replay, produced, run_of}
use Rattle.ks_law_exactly_once.specs.Law.{OnInputs}
use Rattle.ks_law_exactly_once.proofs.Replays.{is_run}
use Rattle.ks_def_tasks.specs.Messages.{Place, Message, Item, Rules, Subscription}
use Rattle.ks_def_tasks.specs.Messages.Message.{Asked}
use Rattle.ks_def_tasks.specs.Tasks.{taker, step, inputs_of}
use Rattle.ks_def_tasks.specs.Bytes.{ByteStores, is_sent, store_from, rec_of}
use Rattle.ks_def_tasks.proofs.Each.{AllOf}
use Rattle.ks_law_quiescence.specs.States.{State, state_of}
use Rattle.ks_law_topology.proofs.Fits.{Fits}
use Rattle.ks_law_topology.proofs.WellFormed.{well_formed_fits}
use Rattle.ks_law_topology.specs.Work.{setup_of, IsOfJoin}
use Rattle.ks_law_topology.proofs.Networks.{works_are_networks}
use Rattle.ks_law_topology.proofs.Kept.{nothing_is_held_back}
use Rattle.ks_law_settled.specs.Jobs.{produces, produced_of, IsJob}
use Rattle.ks_law_settled.specs.Replayed.{bytes_after, decoded_after, decoded_run, decoded_choices, item_in, IsDecoded, StatesAgree}
use Rattle.ks_law_settled.proofs.Topics.{IsTopic, drawn_topics}
use Rattle.ks_law_settled.proofs.Inputs.{inputs_are}
use Rattle.ks_law_settled.proofs.Spelled.{message_again, FitsMessage}
use Rattle.ks_law_settled.proofs.WholeNodes.{Whole}
use Rattle.ks_law_settled.proofs.Agreeing.{Agrees}
use Rattle.ks_law_settled.proofs.Steps.{FitsItem, IsKept, Held}
use Rattle.ks_law_settled.proofs.Agreement.{all_agree}
use Rattle.ks_law_settled.proofs.Runs.{Same, same_start, same_choices}
use Rattle.ks_law_settled.proofs.Entering.{inputs_fit, none_at_logs, none_produced}
use Rattle.ks_law_topology.proofs.Few.{have_few}
use Rattle.ks_plan.specs.declared.node.Topic.TheVariants.{Subscriptions}
use Rattle.std.specs.List.{filter}

-- ---- lists
first_on : (plan : history.TaskPlan) (n : ℕ) (cs : List (Option TaskId × PartId)) → OnInputs plan cs → OnInputs plan (take n cs)
first_on plan zero cs h = tt
first_on plan (suc n) [] h = tt
first_on plan (suc n) (c ∷ cs) h = (h.0, first_on plan n cs h.1)

at_index : {A : Type 0} (P : A → Type 0) (xs : List A) (i : ℕ) (x : A) → AllOf P xs → slice_get xs i ≡ Some x → P x
at_index P [] i x h e = absurd cc
at_index P (y ∷ ys) zero x h e = subst P (some_same e) h.0
  where
    some_same : Some y ≡ Some x → y ≡ x
    some_same e = cc
at_index P (y ∷ ys) (suc i) x h e = at_index P ys i x h.1 e

-- ---- of a job's journal
module _ (rules : Rules) (d : DraftView) (records : List Input) (journal : List Entry) (job : IsJob rules d records) (legal : IsHistory (setup_of rules (plan_of d)) journal)
    (made : produces journal ≡ map (produced_of rules (plan_of d)) records) where
  abbrev p : Plan
  p = plan_of d

  abbrev setup : Setup
  setup = setup_of rules p

  abbrev fits : Fits p
  fits = well_formed_fits d job.well

  whole : Whole p
  whole = record { spelled = job.spelled; fits = fits; few = have_few d job.well }

  abbrev Alike : RunState TaskId PartId ByteStores Rec → State → Type 0
  Alike b st = Same rules p (FitsItem rules p) (IsKept rules p) (Held rules p) b st

  agrees : Agrees rules p (FitsItem rules p) (IsKept rules p) (Held rules p)
  agrees = all_agree rules p whole job.parts job.have job.hashes

  on_inputs : OnInputs setup.plan (replay setup journal)
  on_inputs = (is_run setup journal (works_are_networks rules p) legal).0

  -- nothing that a task makes is held back
  none_back : (t : TaskId) (stores : ByteStores) (q : Place) (x : Item) → taker p q.topic ≡ t.sub → Held rules p t stores → FitsItem rules p q x →
      filter (is_sent p t) (step rules p t (store_from p t.sub stores) q x).made ≡ (step rules p t (store_from p t.sub stores) q x).made
  none_back t stores q x takes held fit = nothing_is_held_back rules d job.well (record { keys = job.parts; nodes = job.have }) t (store_from p t.sub stores) q x takes
      (record { asked = asked; kept = held.2 })
    where
      asked : (n : ℕ) (b k : Key) (s : Subscription) → q.topic ≡ Subscriptions n → x.message ≡ Asked b k s → IsOfJoin p n s.part
      asked n b k s e f = (subst (FitsMessage p (Subscriptions n)) f (subst (λ u. FitsMessage p u x.message) e fit.1)).5

  from_start : (cs : List (Option TaskId × PartId)) → OnInputs setup.plan cs → Alike (run (network setup.plan) (produced journal) cs) (state_of rules p records (decoded_choices p cs))
  from_start cs on = same_choices rules p (FitsItem rules p) (IsKept rules p) (Held rules p) agrees none_back _ _
      (same_start rules p (FitsItem rules p) (IsKept rules p) (Held rules p) agrees none_back (produced journal) (inputs_of rules p records)
      (inputs_are rules p journal records made job.inputs)
      (inputs_fit rules p fits journal start records legal.legal made job.inputs job.range)
      (λ q there log. none_produced rules p q there log journal records made job.inputs)
      (λ q log. none_at_logs rules p q log records))
      cs on

  -- the decoded run of the first n steps has what their run over bytes has
  same_after : (n : ℕ) → Alike (bytes_after rules p journal n) (decoded_after rules p records journal n)
  same_after n = from_start (take n (replay setup journal)) (first_on setup.plan n (replay setup journal) on_inputs)

  -- and so has that of all
  pub same_run : Alike (run_of setup journal) (decoded_run rules p records journal)
  same_run = from_start (replay setup journal) on_inputs

  read_all : (q : Place) (xs : List Item) → AllOf (FitsItem rules p q) xs → map (item_in p q.topic) (map rec_of xs) ≡ map (λ (x : Item). Some x) xs
  read_all q [] h = refl
  read_all q (x ∷ xs) h = ap₂ (λ (y : Option Item) ys. y ∷ ys)
      (ap (option_map (λ (m : Message). record { message = m; time = x.time })) (message_again p q.topic x.message x.time h.0.1)) (read_all q xs h.1)

  decoded_of : (b : RunState TaskId PartId ByteStores Rec) (st : State) → Alike b st → IsDecoded p b st
  decoded_of b st h = record {
    stores = h.stores;
    waiting = λ sender q i e. let topic : IsTopic p q.topic = at_index (IsTopic p) (drain_order p) i q.topic (drawn_topics p) e in
        ap (map (item_in p q.topic)) (h.waits sender q topic) ∙ read_all q (st.waiting sender q) (h.fit sender q topic.log);
    pasts = λ sender q there log. h.logged sender q there log;
    late = h.late;
  }

  pub after_decoded : (n : ℕ) → IsDecoded p (bytes_after rules p journal n) (decoded_after rules p records journal n)
  after_decoded n = decoded_of (bytes_after rules p journal n) (decoded_after rules p records journal n) (same_after n)

pub states_agree : StatesAgree
states_agree rules d records journal job legal made n = after_decoded rules d records journal job legal made n
