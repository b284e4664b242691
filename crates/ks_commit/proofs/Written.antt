-- One marker that is written, if one waits.
use Rattle.std.proofs.Common.{◌≡◌, ℕ, ◌+◌, Bool, true, false, cond, List, [], ◌∷◌, length, Option, Some, None, refl, sym, ap, subst, ◌∙◌, arith}
use Rattle.std.specs.Option.{is_some}
use Rattle.std.specs.Prelude.{◌==◌}
use Rattle.std.proofs.lemmas.Bool.{and_from, eq-eqb}
use Rattle.ks_record.specs.declared.record.PartId.{PartId}
use Rattle.ks_record.specs.declared.assignment.Marker.{Marker}
use Rattle.ks_history.specs.declared.partition.Slot.TheVariants.{Mark}
use Rattle.ks_history.specs.declared.journal.Request.TheVariants.{MarkNext}
use Rattle.ks_history.specs.declared.journal.Reply.{Reply}
use Rattle.ks_history.specs.declared.journal.Reply.TheVariants.{Mark as Told}
use Rattle.ks_history.specs.declared.transaction.Producer.{Producer}
use Rattle.ks_history.specs.Machine.{TaskPlan}
use Rattle.ks_history.specs.State.{State, with_number, grown}
use Rattle.ks_history.specs.Step.{effect, answer}
use Rattle.ks_cluster.specs.View.{ClusterView, state_of, AddsEntry}
use Rattle.ks_commit.specs.Sending.{Marks, Marked}
use Rattle.ks_commit.proofs.Gaining.{at_it}
use Rattle.ks_commit.proofs.Marking.{mark_marks, marks_nothing}
use Rattle.ks_commit.proofs.Entries.{new_state, one_commits}

record Moves (s new : State) (w : ℕ) (m : Option (PartId × Bool)) : Type 0 where
  marks : Marks s new w
  fewer : length (new.producer w).waiting + cond (is_some m) 1 0 ≡ length (s.producer w).waiting
  done : is_some m ≡ false → (new.producer w).waiting ≡ []

mark_moves : (s new : State) (w : ℕ) (m : Option (PartId × Bool)) → new ≡ effect s (MarkNext w) → Told m ≡ answer s (MarkNext w) → Moves s new w m
mark_moves s new w m is told = by (s.producer w).waiting refl is told
  where
    by : (ms : List Marker) → (s.producer w).waiting ≡ ms
        → new ≡ (elim ms as (λ _. State) [
          | [] ↦ s
          | m ∷ ms ↦ record s {
            partition = grown s.partition m.part (Mark w m.epoch m.commit ∷ []);
            producer = with_number s.producer w (record (s.producer w) { waiting = ms });
          }
        ])
        → Told m ≡ (elim ms as (λ _. Reply) [ [] ↦ Told None | m ∷ ms ↦ Told (Some (m.part, m.commit)) ]) → Moves s new w m
    by [] h e f =
        let none : m ≡ None = cc in
        subst (λ (n : State). Moves s n w m) (sym e) (record {
          marks = marks_nothing s w;
          fewer = ap (λ (o : Option (PartId × Bool)). length (s.producer w).waiting + cond (is_some o) 1 0) none ∙ omega arith;
          done = λ _. h;
        })
    by (x ∷ xs) h e f =
        let some : m ≡ Some (x.part, x.commit) = cc in
        let y : Producer = record (s.producer w) { waiting = xs } in
        let here : with_number s.producer w y w ≡ y = at_it s.producer w y in
        subst (λ (n : State). Moves s n w m) (sym e) (record {
          marks = mark_marks s w x xs h;
          fewer = ap (λ (z : Producer). length z.waiting + cond (is_some m) 1 0) here ∙ ap (λ (o : Option (PartId × Bool)). length xs + cond (is_some o) 1 0) some ∙ omega arith ∙ ap length (sym h);
          done = λ (no : is_some m ≡ false). absurd (let bad : true ≡ false = sym (ap is_some some) ∙ no in cc);
        })

pub record MarkStep {W : Type 0} (plan : W → TaskPlan) (old new : ClusterView W) (w : ℕ) (m : Option (PartId × Bool)) : Type 0 where
  pub marked : Marked plan old new w
  pub fewer : length ((state_of plan new).producer w).waiting + cond (is_some m) 1 0 ≡ length ((state_of plan old).producer w).waiting
  pub done : is_some m ≡ false → ((state_of plan new).producer w).waiting ≡ []

pub mark_step : {W : Type 0} (plan : W → TaskPlan) (old new : ClusterView W) (w : ℕ) (m : Option (PartId × Bool)) → AddsEntry plan old new (MarkNext w) (Told m) → MarkStep plan old new w m
mark_step plan old new w m a =
    let moves : Moves (state_of plan old) (state_of plan new) w m = mark_moves (state_of plan old) (state_of plan new) w m (new_state plan old new (MarkNext w) (Told m) a refl) a.step in
    record {
      marked = record {
        more = record { request = MarkNext w; reply = Told m } ∷ [];
        is = a.journal;
        own = and_from (w == w) true (eq-eqb w w refl) refl;
        commits = λ t. one_commits plan old (MarkNext w) (Told m) t refl;
        marks = moves.marks;
      };
      fewer = moves.fewer;
      done = moves.done;
    }
