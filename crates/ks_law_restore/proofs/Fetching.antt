-- A task that takes all that a fetch gives follows as before.
use Rattle.std.proofs.Common.{◌≡◌, ◌≢◌, ℕ, zero, suc, ◌+◌, ◌≤◌, Bool, true, false, cond, List, [], ◌∷◌, length, take, refl, sym, ap, subst, ◌∙◌, arith}
use Rattle.std.specs.Prelude.{◌==◌, max}
use Rattle.std.proofs.lemmas.Bool.{eqb-true, eq-eqb, true≢false}
use Rattle.ks_record.specs.Records.{Record as Rec}
use Rattle.ks_record.specs.declared.record.TaskId.{TaskId}
use Rattle.ks_history.specs.Partition.{Logged, stable, readable, past_from, below, with_offsets, past_last, read, read_next}
use Rattle.ks_history.specs.Machine.{part_of, has_topic, IsNetwork}
use Rattle.ks_history.specs.State.{State, Setup}
use Rattle.ks_history.specs.Follows.{TaskView}
use Rattle.ks_history.specs.History.{at}
use Rattle.ks_law_exactly_once.proofs.Slots.{below_none}
use Rattle.ks_law_restore.specs.Laws.{FetchingStands}
use Rattle.ks_law_restore.specs.Views.{take_view, take_all, skip_view, IsNext, MaySkip}
use Rattle.ks_law_restore.proofs.Offsets.{readable_rises, past_rises}
use Rattle.ks_law_restore.proofs.Standing.{Standing, Passed, standing, passed, stands_of}
use Rattle.ks_law_restore.proofs.Taking.{taking, rest_follows, skipping}

-- what is readable of an input from the position on
abbrev ahead : State → TaskView → ℕ → List (ℕ × Rec)
ahead s v topic = with_offsets (past_from (v.inputs topic) (readable (s.partition (part_of topic v.task))))

nothing_ahead : (xs : List Logged) → with_offsets xs ≡ [] → xs ≡ []
nothing_ahead [] e = refl
nothing_ahead (x ∷ xs) e = absurd cc

last_of_more : (x : ℕ × Rec) (n : ℕ) (xs : List (ℕ × Rec)) → length xs ≡ suc n → past_last (x ∷ xs) ≡ past_last xs
last_of_more x n [] e = absurd (omega (arith, e))
last_of_more x n (y ∷ ys) e = refl

-- after these records, of at most so many, were taken
record Fed (setup : Setup) (s : State) (v : TaskView) (topic n : ℕ) (got : List (ℕ × Rec)) (now : TaskView) : Type 0 where
  stands : Standing setup s now
  passes : Passed setup s now
  task : now.task ≡ v.task
  -- where there were so many, it stands behind the last; else nothing is left
  full : (m : ℕ) → n ≡ suc m → length got ≡ n → now.inputs topic ≡ past_last got
  short : length got ≢ n → ahead s now topic ≡ []

module _ (setup : Setup) (net : IsNetwork setup.plan) (s : State) (topic : ℕ) where
  abbrev AllFed : ℕ → TaskView → List (ℕ × Rec) → Type 0
  AllFed n v got = Fed setup s v topic n got (take_all setup.plan v topic got)

  nothing_fed : (v : TaskView) (n : ℕ) → Standing setup s v → Passed setup s v → ahead s v topic ≡ [] → AllFed n v []
  nothing_fed v n stands passes none = record { stands = stands; passes = passes; task = refl; full = λ m is e. absurd (omega (arith, is, e)); short = λ ne. none }

  one_more : (n : ℕ) (v : TaskView) (r : ℕ × Rec) (rest : List (ℕ × Rec)) → AllFed n (take_view setup.plan v topic r.0 r.1) (take n rest) → AllFed (suc n) v (r ∷ take n rest)
  one_more zero v r rest more = record {
    stands = more.stands;
    passes = more.passes;
    task = more.task;
    full = λ m is e. ap (λ b. cond b (r.0 + 1) (v.inputs topic)) (eq-eqb topic topic refl);
    short = λ ne. absurd (ne refl);
  }
  one_more (suc k) v r rest more = record {
    stands = more.stands;
    passes = more.passes;
    task = more.task;
    full = λ m is e.
        let shorter : length (take (suc k) rest) ≡ suc k = omega (arith, e) in
        more.full k refl shorter ∙ sym (last_of_more r k (take (suc k) rest) shorter);
    short = λ ne. more.short (λ (e : length (take (suc k) rest) ≡ suc k). ne (ap (λ j. suc j) e));
  }

  fed : (n : ℕ) (v : TaskView) → has_topic topic (setup.plan.inputs v.task.sub) ≡ true → Standing setup s v → Passed setup s v → AllFed n v (take n (ahead s v topic))
  fed zero v h stands passes = record { stands = stands; passes = passes; task = refl; full = λ m is e. absurd (omega (arith, is)); short = λ ne. absurd (ne refl) }
  fed (suc n) v h stands passes = by (ahead s v topic) refl (λ w. fed n w)
    where
      by : (l : List (ℕ × Rec)) → ahead s v topic ≡ l →
          ((w : TaskView) → has_topic topic (setup.plan.inputs w.task.sub) ≡ true → Standing setup s w → Passed setup s w → AllFed n w (take n (ahead s w topic))) →
          AllFed (suc n) v (take (suc n) (ahead s v topic))
      by [] e more = subst (λ l. AllFed (suc n) v (take (suc n) l)) (sym e) (nothing_fed v (suc n) stands passes e)
      by (r ∷ rest) e more =
          let next : IsNext setup s v topic r.0 r.1 = record { input = h; rest = rest; first = e } in
          let behind : ahead s (take_view setup.plan v topic r.0 r.1) topic ≡ rest = rest_follows setup net s v topic r.0 r.1 next in
          subst (λ l. AllFed (suc n) v (take (suc n) l)) (sym e)
          (one_more n v r rest
          (subst (λ l. AllFed n (take_view setup.plan v topic r.0 r.1) (take n l)) behind
          (more (take_view setup.plan v topic r.0 r.1) h (taking setup net s v topic r.0 r.1 next stands) passes)))

  -- ---- and on to where the next fetch goes on
  module _ (v : TaskView) (limit : ℕ) (input : has_topic topic (setup.plan.inputs v.task.sub) ≡ true) (some : 1 ≤ limit) (before : Standing setup s v) where
    may : (got : List (ℕ × Rec)) (now : TaskView) → Fed setup s v topic limit got now → MaySkip setup s now topic
        (cond (length got == limit) (past_last got) (max (v.inputs topic) (stable (s.partition (part_of topic v.task)))))
    may got now f = by (length got == limit) refl
      where
        read_by : has_topic topic (setup.plan.inputs now.task.sub) ≡ true
        read_by = ap (λ (t : TaskId). has_topic topic (setup.plan.inputs t.sub)) f.task ∙ input

        same_end : stable (s.partition (part_of topic now.task)) ≡ stable (s.partition (part_of topic v.task))
        same_end = ap (λ (t : TaskId). stable (s.partition (part_of topic t))) f.task

        suc_of : (n : ℕ) → 1 ≤ n → (m : ℕ) × (n ≡ suc m)
        suc_of zero h = absurd (omega (arith, h))
        suc_of (suc m) h = (m, refl)

        by : (b : Bool) → (length got == limit) ≡ b → MaySkip setup s now topic (cond b (past_last got) (max (v.inputs topic) (stable (s.partition (part_of topic v.task)))))
        by true is =
            let some_more = suc_of limit some in
            let there : now.inputs topic ≡ past_last got = f.full some_more.0 some_more.1 (eqb-true (length got) limit is) in
            record {
              input = read_by;
              later = omega (arith, there);
              stable = omega (arith, there, f.stands.stable topic read_by);
              nothing = below_none (past_last got) (now.inputs topic) (past_from (now.inputs topic) (readable (s.partition (part_of topic now.task)))) (omega (arith, there))
                  (past_rises (now.inputs topic) 0 (readable (s.partition (part_of topic now.task))) (readable_rises (s.partition (part_of topic now.task))));
            }
        by false is =
            let next : ℕ = max (v.inputs topic) (stable (s.partition (part_of topic v.task))) in
            let none = nothing_ahead (past_from (now.inputs topic) (readable (s.partition (part_of topic now.task)))) (f.short (λ (e : length got ≡ limit). true≢false (sym (eq-eqb (length got) limit e) ∙ is))) in
            record {
              input = read_by;
              later = omega (arith, f.stands.stable topic read_by, same_end);
              stable = omega (arith, before.stable topic input, same_end);
              nothing = ap (below next) none;
            }

pub fetching_stands : FetchingStands
fetching_stands setup journal v topic limit net input some stands =
    let s : State = at setup journal in
    let before : Standing setup s v = standing setup net journal v stands in
    let slots = s.partition (part_of topic v.task) in
    let got : List (ℕ × Rec) = read (v.inputs topic) limit slots in
    let now : TaskView = take_all setup.plan v topic got in
    let f : Fed setup s v topic limit got now = fed setup net s topic limit v input before (passed setup net journal v stands) in
    let next : ℕ = read_next (v.inputs topic) limit slots in
    stands_of setup net journal (skip_view now topic next) (skipping setup s now topic next (may setup net s topic v limit input some before got now f) f.stands) f.passes
