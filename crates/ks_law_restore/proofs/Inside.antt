-- Where tasks send to partitions of the cluster alone, so does what they hand to transactions.
use Rattle.std.proofs.Common.{◌≡◌, ◌≢◌, ℕ, zero, suc, ◌+◌, Bool, true, false, not, cond, ◌&&◌, ◌⊎◌, inl, inr, List, [], ◌∷◌, ◌++◌, take, drop, refl, sym, ap, ap₂, subst, ◌∙◌, arith}
use Rattle.std.specs.Prelude.{◌==◌}
use Rattle.std.specs.List.{All}
use Rattle.std.proofs.lemmas.Bool.{and_parts, true≢false}
use Rattle.ks_record.specs.Records.{Record as Rec}
use Rattle.ks_record.specs.declared.record.PartId.{PartId}
use Rattle.ks_record.specs.declared.record.TaskId.{TaskId}
use Rattle.ks_record.specs.Parts.{same_part, same_task}
use Rattle.ks_def_runs.specs.Run.{Taken, sent_to, local}
use Rattle.ks_def_runs.proofs.Runs.{sent_to-append}
use Rattle.ks_history.specs.Partition.{Logged, readable, past_from, below}
use Rattle.ks_history.specs.Machine.{Stores, network, reader_of, part_of, has_topic, taken_from, batch}
use Rattle.ks_history.specs.State.{State, Setup, IsPart, has_task}
use Rattle.ks_history.specs.Faithful.{folds, taken}
use Rattle.ks_history.specs.History.{at}
use Rattle.ks_history.proofs.Names.{same_part-refl}
use Rattle.ks_law_exactly_once.proofs.Batches.{take_nothing, still}
use Rattle.ks_law_restore.specs.Laws.{FrozenIsInside}
use Rattle.ks_law_restore.specs.Views.{SendsInside, recs_at, names_part, is_empty, are_outputs}

-- ---- a task takes records of its inputs alone
-- the record stands in the task's partition of one of these topics
record IsOn (topics : List ℕ) (t : TaskId) (x : Taken TaskId PartId Rec) : Type 0 where
  topic : ℕ
  place : x.place ≡ part_of topic t
  there : has_topic topic topics ≡ true

abbrev AllOn : List ℕ → TaskId → List (Taken TaskId PartId Rec) → Type 0
AllOn topics t [] = Unit {0}
AllOn topics t (x ∷ xs) = IsOn topics t x × AllOn topics t xs

on-append : (topics : List ℕ) (t : TaskId) (xs ys : List (Taken TaskId PartId Rec)) → AllOn topics t xs → AllOn topics t ys → AllOn topics t (xs ++ ys)
on-append topics t [] ys a b = b
on-append topics t (x ∷ xs) ys a b = (a.0, on-append topics t xs ys a.1 b)

run_on : (topics : List ℕ) (t : TaskId) (topic : ℕ) (xs : List Logged) → has_topic topic topics ≡ true → AllOn topics t (taken_from t topic xs)
run_on topics t topic [] h = tt
run_on topics t topic (x ∷ xs) h = (record { topic = topic; place = refl; there = h }, run_on topics t topic xs h)

batch_on : (topics : List ℕ) (t : TaskId) (order : List (ℕ × ℕ)) (inputs : ℕ → List Logged) → ((topic : ℕ) → (inputs topic ≡ []) ⊎ (has_topic topic topics ≡ true)) → AllOn topics t (batch t inputs order)
batch_on topics t [] inputs own = tt
batch_on topics t (run ∷ runs) inputs own =
    on-append topics t (taken_from t run.0 (take run.1 (inputs run.0))) _ (first (own run.0))
    (batch_on topics t runs (λ topic. cond (topic == run.0) (drop run.1 (inputs topic)) (inputs topic)) (λ topic. still (topic == run.0) run.1 (inputs topic) (own topic)))
  where
    first : (inputs run.0 ≡ []) ⊎ (has_topic run.0 topics ≡ true) → AllOn topics t (taken_from t run.0 (take run.1 (inputs run.0)))
    first (inl e) = subst (λ l. AllOn topics t (taken_from t run.0 l)) (sym (ap (take run.1) e ∙ take_nothing run.1)) tt
    first (inr h) = run_on topics t run.0 (take run.1 (inputs run.0)) h

-- ---- what it makes of them
module _ (setup : Setup) (inside : SendsInside setup) (t : TaskId) (task : has_task t setup.tasks ≡ true) where
  abbrev Inside : List (PartId × Rec) → Type 0
  Inside made = (q : PartId) → sent_to (network setup.plan) q made ≢ [] → IsPart setup q

  both_inside : (xs ys : List (PartId × Rec)) → Inside xs → Inside ys → Inside (xs ++ ys)
  both_inside xs ys a b q some = by (sent_to (network setup.plan) q xs) refl
    where
      filled : (x : Rec) (rest : List Rec) → x ∷ rest ≡ [] → ⊥
      filled x rest e = absurd cc

      by : (l : List Rec) → sent_to (network setup.plan) q xs ≡ l → IsPart setup q
      by [] e = b q (λ none. some (sent_to-append (network setup.plan) q xs ys ∙ ap₂ (λ l m. l ++ m) e none))
      by (x ∷ rest) e = a q (λ none. filled x rest (sym e ∙ none))

  local_inside : (ts : List (Taken TaskId PartId Rec)) (stores : Stores) → AllOn (setup.plan.inputs t.sub) t ts → Inside (local (network setup.plan) t stores ts).made
  local_inside [] stores on = λ q some. absurd (some refl)
  local_inside (x ∷ xs) stores on = by (same_task t (reader_of setup.plan x.place)) (local_inside xs (setup.plan.step t stores x.place x.item).store on.1) (local_inside xs stores on.1)
    where
      here : Inside (setup.plan.step t stores x.place x.item).made
      here q some = inside t stores on.0.topic x.item q task on.0.there (subst (λ p. sent_to (network setup.plan) q (setup.plan.step t stores p x.item).made ≢ []) on.0.place some)

      by : (b : Bool) → Inside (local (network setup.plan) t (setup.plan.step t stores x.place x.item).store xs).made → Inside (local (network setup.plan) t stores xs).made →
          Inside (cond b
          (let o = setup.plan.step t stores x.place x.item in
          let more = local (network setup.plan) t o.store xs in
          record { store = more.store; made = o.made ++ more.made; late = o.late + more.late })
          (local (network setup.plan) t stores xs)).made
      by true more skip = both_inside (setup.plan.step t stores x.place x.item).made (local (network setup.plan) t (setup.plan.step t stores x.place x.item).store xs).made here more
      by false more skip = skip

-- ---- outputs
module _ (P : PartId → Type 0) where
  abbrev EachOf : List (PartId × List Rec) → Type 0
  EachOf [] = Unit {0}
  EachOf (out ∷ outs) = P out.0 × EachOf outs

  all_of : (outs : List (PartId × List Rec)) → EachOf outs → All (λ (out : PartId × List Rec). P out.0) outs
  all_of [] h k d lt = absurd (omega (arith, lt))
  all_of (out ∷ outs) h zero d lt = h.0
  all_of (out ∷ outs) h (suc k) d lt = all_of outs h.1 k d (omega (arith, lt))

  parts_named : (outs : List (PartId × List Rec)) → are_outputs outs ≡ true → ((q : PartId) → recs_at q outs ≢ [] → P q) → EachOf outs
  parts_named [] once some = tt
  parts_named (out ∷ outs) once some = (some out.0 (here out.1 (filled (names_part out.0 outs) once)), parts_named outs (later (names_part out.0 outs) once) (λ q more. some q (there q more)))
    where
      filled : (b : Bool) → cond b false (not (is_empty out.1) && are_outputs outs) ≡ true → not (is_empty out.1) ≡ true
      filled true e = absurd (true≢false (sym e))
      filled false e = (and_parts (not (is_empty out.1)) (are_outputs outs) e).0

      later : (b : Bool) → cond b false (not (is_empty out.1) && are_outputs outs) ≡ true → are_outputs outs ≡ true
      later true e = absurd (true≢false (sym e))
      later false e = (and_parts (not (is_empty out.1)) (are_outputs outs) e).1

      here : (l : List Rec) → not (is_empty l) ≡ true → cond (same_part out.0 out.0) (l ++ recs_at out.0 outs) (recs_at out.0 outs) ≢ []
      here [] e = absurd (true≢false (sym e))
      here (x ∷ xs) e = λ (none : cond (same_part out.0 out.0) ((x ∷ xs) ++ recs_at out.0 outs) (recs_at out.0 outs) ≡ []).
          let g : x ∷ (xs ++ recs_at out.0 outs) ≡ [] = ap (λ b. cond b ((x ∷ xs) ++ recs_at out.0 outs) (recs_at out.0 outs)) (sym (same_part-refl out.0)) ∙ none in
          absurd cc

      rest_nothing : (xs ys : List Rec) → xs ++ ys ≡ [] → ys ≡ []
      rest_nothing [] ys e = e
      rest_nothing (x ∷ xs) ys e = absurd cc

      there : (q : PartId) → recs_at q outs ≢ [] → recs_at q (out ∷ outs) ≢ []
      there q more = by (same_part q out.0)
        where
          by : (b : Bool) → cond b (out.1 ++ recs_at q outs) (recs_at q outs) ≢ []
          by true none = more (rest_nothing out.1 (recs_at q outs) none)
          by false none = more none

pub frozen_is_inside : FrozenIsInside
frozen_is_inside setup journal v f inside stands frozen task =
    let s : State = at setup journal in
    all_of (IsPart setup) f.outputs (parts_named (IsPart setup) f.outputs frozen.once (λ q some.
    local_inside setup inside v.task task (batch v.task (taken setup s v.task v.inputs) v.order) (folds setup s v.task)
    (batch_on (setup.plan.inputs v.task.sub) v.task v.order (taken setup s v.task v.inputs) own)
    q (λ none. some (frozen.outputs q ∙ stands.0.made q ∙ none))))
  where
    by : (topic : ℕ) (b : Bool) → has_topic topic (setup.plan.inputs v.task.sub) ≡ b → (taken setup (at setup journal) v.task v.inputs topic ≡ []) ⊎ (has_topic topic (setup.plan.inputs v.task.sub) ≡ true)
    by topic true h = inr h
    by topic false h = inl (ap (λ b. cond b (past_from ((at setup journal).committed v.task topic) (below (v.inputs topic) (readable ((at setup journal).partition (part_of topic v.task))))) []) h)

    own : (topic : ℕ) → (taken setup (at setup journal) v.task v.inputs topic ≡ []) ⊎ (has_topic topic (setup.plan.inputs v.task.sub) ≡ true)
    own topic = by topic (has_topic topic (setup.plan.inputs v.task.sub)) refl
