-- What the tasks keep of their records holds of every decided record.
use Rattle.std.proofs.Common.{◌≡◌, Bool, true, false, cond, List, [], ◌∷◌, ◌++◌, Option, Some, None, fold, refl, sym, subst}
use Rattle.std.proofs.lemmas.Bool.{and_parts}
use Rattle.ks_record.specs.Records.{Record as Rec}
use Rattle.ks_record.specs.declared.record.PartId.{PartId}
use Rattle.ks_record.specs.declared.record.TaskId.{TaskId}
use Rattle.ks_def_runs.specs.Bytes.{Store}
use Rattle.ks_record.specs.Parts.{same_part, same_task}
use Rattle.ks_def_runs.specs.Run.{Outcome, RunState, is_from, same_sender, same_channel, take_first, advance, initial, sent_to}
use Rattle.ks_def_runs.proofs.Runs.{same_sender_refl}
use Rattle.ks_history.specs.Partition.{Logged, recs, by_sender}
use Rattle.ks_history.specs.Machine.{TaskPlan, Stores, network, reader_of, part_of, has_topic}
use Rattle.ks_history.specs.Faithful.{decided}
use Rattle.ks_history.specs.History.{at}
use Rattle.ks_history.specs.Replay.{produced, replay}
use Rattle.ks_history.proofs.Names.{same_task-is, same_part-is, has_names}
use Rattle.ks_law_exactly_once.specs.Law.{OfHistories, OnInputs}
use Rattle.ks_law_exactly_once.specs.Keeping.{AreHeld, AllFit, FitIn, Keeps, AllKept}
use Rattle.ks_law_exactly_once.proofs.Replays.{is_run, tells_all, tells_stores}

pub FitIn-append : (fits : PartId → Rec → Bool) (q : PartId) (xs ys : List Rec) → FitIn fits q xs → FitIn fits q ys → FitIn fits q (xs ++ ys)
FitIn-append fits q [] ys a b = b
FitIn-append fits q (x ∷ xs) ys a b = (a.0, FitIn-append fits q xs ys a.1 b)

module _ (plan : TaskPlan) (fits : PartId → Rec → Bool) (holds : PartId → Store → Bool) (keeps : Keeps plan fits holds) where
  record Fine (st : RunState TaskId PartId Stores Rec) : Type 0 where
    waiting : (r : Option TaskId) (q : PartId) → FitIn fits q (st.waiting r q)
    given : (r : Option TaskId) (q : PartId) → FitIn fits q (st.given r q)
    stores : (t : TaskId) → AreHeld holds t (st.stores t)

  sent_fits : (q : PartId) (made : List (PartId × Rec)) → AllFit fits made → FitIn fits q (sent_to (network plan) q made)
  sent_fits q [] h = tt
  sent_fits q (e ∷ es) h = by (same_part q e.0) refl (sent_fits q es h.1)
    where
      by : (b : Bool) → same_part q e.0 ≡ b → FitIn fits q (sent_to (network plan) q es) → FitIn fits q (cond b (e.1 ∷ sent_to (network plan) q es) (sent_to (network plan) q es))
      by true is more = (subst (λ p. fits p e.1 ≡ true) (sym (same_part-is q e.0 is)) h.0, more)
      by false is more = more

  module _ (st : RunState TaskId PartId Stores Rec) (s : Option TaskId) (p : PartId) (x : Rec) (rest : List Rec) (reads : has_topic p.topic (plan.inputs (reader_of plan p).sub) ≡ true) (head : fits p x ≡ true) (tail : FitIn fits p rest) (fine : Fine st) where
    abbrev out : Outcome PartId Stores Rec
    out = plan.step (reader_of plan p) (st.stores (reader_of plan p)) p x

    sends : (r : Option TaskId) (q : PartId) (b : Bool) → FitIn fits q (cond b (sent_to (network plan) q out.made) [])
    sends r q true = sent_fits q out.made (keeps.made (st.stores (reader_of plan p)) p x reads (fine.stores (reader_of plan p)) head)
    sends r q false = tt

    left : (r : Option TaskId) (q : PartId) (b : Bool) → same_channel (network plan) r q s p ≡ b → FitIn fits q (cond b rest (st.waiting r q))
    left r q true is = subst (λ k. FitIn fits k rest) (sym (same_part-is q p (and_parts _ _ is).1)) tail
    left r q false is = fine.waiting r q

    kept : (u : TaskId) (b : Bool) → same_task u (reader_of plan p) ≡ b → AreHeld holds u (cond b out.store (st.stores u))
    kept u true is = subst (λ t. AreHeld holds t out.store) (sym (same_task-is u (reader_of plan p) is)) (keeps.stores (st.stores (reader_of plan p)) p x reads (fine.stores (reader_of plan p)) head)
    kept u false is = fine.stores u

    fine_taken : Fine (take_first (network plan) st s p (x ∷ rest))
    fine_taken = record {
      waiting = λ r q. FitIn-append fits q _ _ (left r q (same_channel (network plan) r q s p) refl) (sends r q (is_from same_task r (reader_of plan p)));
      given = λ r q. FitIn-append fits q _ _ (fine.given r q) (sends r q (is_from same_task r (reader_of plan p)));
      stores = λ u. kept u (same_task u (reader_of plan p)) refl;
    }

  fine_step : (st : RunState TaskId PartId Stores Rec) (s : Option TaskId) (p : PartId) (xs : List Rec) → has_topic p.topic (plan.inputs (reader_of plan p).sub) ≡ true → FitIn fits p xs → Fine st → Fine (take_first (network plan) st s p xs)
  fine_step st s p [] reads h fine = fine
  fine_step st s p (x ∷ rest) reads h fine = fine_taken st s p x rest reads h.0 h.1 fine

  fine_run : (st : RunState TaskId PartId Stores Rec) (schedule : List (Option TaskId × PartId)) → OnInputs plan schedule → Fine st → Fine (fold (advance (network plan)) st schedule)
  fine_run st [] on fine = fine
  fine_run st (c ∷ cs) on fine = fine_run (advance (network plan) st c) cs on.1 (fine_step st c.0 c.1 (st.waiting c.0 c.1) on.0 (fine.waiting c.0 c.1) fine)

  fine_start : (inputs : PartId → List Rec) → ((q : PartId) → FitIn fits q (inputs q)) → Fine (initial (network plan) inputs)
  fine_start inputs h = record { waiting = by; given = by; stores = λ t topic. keeps.start (part_of topic t) }
    where
      by : (r : Option TaskId) (q : PartId) → FitIn fits q ((initial (network plan) inputs).given r q)
      by None q = h q
      by (Some t) q = tt

-- what holds of each sender's records holds of all
by_each : (plan : TaskPlan) (fits : PartId → Rec → Bool) (q : PartId) (xs : List Logged) → ((r : Option TaskId) → FitIn fits q (recs (by_sender r xs))) → FitIn fits q (recs xs)
by_each plan fits q [] f = tt
by_each plan fits q (x ∷ xs) f = (
  head (subst (λ b. FitIn fits q (recs (cond b (x ∷ by_sender x.sender xs) (by_sender x.sender xs)))) (same_sender_refl (network plan) (has_names plan) x.sender) (f x.sender)),
  by_each plan fits q xs (λ r. tail (same_sender same_task r x.sender) r (f r)),
)
  where
    head : (fits q x.rec ≡ true) × FitIn fits q (recs (by_sender x.sender xs)) → fits q x.rec ≡ true
    head h = h.0

    tail : (b : Bool) (r : Option TaskId) → FitIn fits q (recs (cond b (x ∷ by_sender r xs) (by_sender r xs))) → FitIn fits q (recs (by_sender r xs))
    tail true r h = h.1
    tail false r h = h

pub all_kept : OfHistories AllKept
all_kept setup journal net history fits holds keeps inputs =
    let fine = fine_run setup.plan fits holds keeps (initial (network setup.plan) (produced journal)) (replay setup journal) (is_run setup journal net history).0 (fine_start setup.plan fits holds keeps (produced journal) inputs) in (
      λ q. by_each setup.plan fits q (decided (at setup journal) q) (λ r. subst (FitIn fits q) (tells_all setup journal net history r q) (fine.given r q)),
      λ t. subst (AreHeld holds t) (tells_stores setup journal net history t) (fine.stores t),
    )
