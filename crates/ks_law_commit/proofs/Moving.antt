-- Feeding and reading move positions.
use Rattle.std.proofs.Common.{◌≡◌, ◌⊎◌, inl, inr, ℕ, ◌≤◌, ◌<◌, ◌||◌, Bool, true, false, cond, List, [], ◌∷◌, ◌++◌, refl, sym, ap, subst, ◌∙◌, arith, ⊎_elim}
use Rattle.std.specs.Prelude.{◌==◌}
use Rattle.std.proofs.lemmas.Bool.{eqb-true, eq-eqb, true≢false, cases_lt}
use Rattle.ks_record.specs.Records.{Record as Rec}
use Rattle.ks_record.specs.declared.record.TaskId.{TaskId}
use Rattle.ks_history.specs.Machine.{TaskPlan, part_of, has_topic}
use Rattle.ks_history.specs.Reads.{fetched}
use Rattle.ks_history.specs.Follows.{TaskView}
use Rattle.ks_history.specs.History.{at}
use Rattle.ks_law_restore.specs.Views.{take_view, take_all}
use Rattle.ks_law_commit.specs.Bounds.{stable_of, FetchGoesOn}
use Rattle.ks_law_commit.specs.Moves.{IsMoved, FeedingMoves, FedTwice, ReadingMoves}
use Rattle.ks_law_commit.proofs.Bounds.{fetches_go_on, stable_rises}
use Rattle.ks_law_commit.proofs.Held.{IsKin, kin_all, here}

only_topic : (topic u : ℕ) → has_topic u (topic ∷ []) ≡ true → u ≡ topic
only_topic topic u h = by (u == topic) refl h
  where
    by : (b : Bool) → (u == topic) ≡ b → b || false ≡ true → u ≡ topic
    by true is g = eqb-true u topic is
    by false is g = absurd (true≢false (sym g))

pub feeding_moves : FeedingMoves
feeding_moves setup journal r topic limit within some = record {
  task = refl;
  later = λ u. later u (u == topic) refl;
  moved = λ u there. subst (λ k. IsMoved (stable_of (at setup journal) (part_of k r.task)) (r.position k) (cond (k == topic) next (r.position k))) (sym (only_topic topic u there))
      (subst (λ b. IsMoved (stable_of (at setup journal) (part_of topic r.task)) (r.position topic) (cond b next (r.position topic))) (sym (eq-eqb topic topic refl)) moved);
}
  where
    next : ℕ
    next = (fetched (at setup journal) (part_of topic r.task) (r.position topic) limit).1

    bounds : FetchGoesOn (at setup journal) (part_of topic r.task) (r.position topic) next
    bounds = fetches_go_on (at setup journal) (part_of topic r.task) (r.position topic) limit within some

    later : (u : ℕ) (b : Bool) → (u == topic) ≡ b → r.position u ≤ cond b next (r.position u)
    later u true is = omega (arith, bounds.later, ap r.position (eqb-true u topic is))
    later u false is = omega arith

    moved : IsMoved (stable_of (at setup journal) (part_of topic r.task)) (r.position topic) next
    moved = ⊎_elim (λ (more : r.position topic < next). inl more) (λ (not : next ≤ r.position topic). inr (omega (arith, bounds.stops (omega (arith, not, bounds.later)), bounds.later))) (cases_lt (r.position topic) next)

either_topic : (u : ℕ) (xs ys : List ℕ) → has_topic u (xs ++ ys) ≡ true → (has_topic u xs ≡ true) ⊎ (has_topic u ys ≡ true)
either_topic u [] ys h = inr h
either_topic u (x ∷ xs) ys h = by (u == x) h (λ g. either_topic u xs ys g)
  where
    by : (b : Bool) → b || has_topic u (xs ++ ys) ≡ true → (has_topic u (xs ++ ys) ≡ true → (has_topic u xs ≡ true) ⊎ (has_topic u ys ≡ true)) → (b || has_topic u xs ≡ true) ⊎ (has_topic u ys ≡ true)
    by true g more = inl refl
    by false g more = more g

then_later : (stable a b c : ℕ) → b ≤ c → IsMoved stable a b → IsMoved stable a c
then_later stable a b c h (inl rose) = inl (omega (arith, rose, h))
then_later stable a b c h (inr past) = inr (omega (arith, past, h))

was_before : (low stable a b c : ℕ) → low ≤ stable → a ≤ b → IsMoved stable b c → IsMoved low a c
was_before low stable a b c h g (inl rose) = inl (omega (arith, rose, g))
was_before low stable a b c h g (inr past) = inr (omega (arith, past, h))

pub fed_twice : FedTwice
fed_twice setup h more first then_fed a b c net history one two = record {
  task = two.task ∙ one.task;
  later = λ u. omega (arith, one.later u, two.later u);
  moved = λ u there. ⊎_elim
      (λ (early : has_topic u first ≡ true). then_later _ (a.position u) (b.position u) (c.position u) (two.later u) (one.moved u early))
      (λ (late : has_topic u then_fed ≡ true).
      was_before (stable_of (at setup h) (part_of u a.task)) (stable_of (at setup (h ++ more)) (part_of u a.task)) (a.position u) (b.position u) (c.position u)
      (stable_rises setup h more (part_of u a.task) net history) (one.later u)
      (subst (λ (t : TaskId). IsMoved (stable_of (at setup (h ++ more)) (part_of u t)) (b.position u) (c.position u)) one.task (two.moved u late)))
      (either_topic u first then_fed there);
}

-- ---- reading
same_positions : (plan : TaskPlan) (topic : ℕ) (v : TaskView) (recs : List (ℕ × Rec)) (u : ℕ) → (take_all plan v topic recs).position u ≡ v.position u
same_positions plan topic v [] u = refl
same_positions plan topic v (r ∷ rs) u = same_positions plan topic (take_view plan v topic r.0 r.1) rs u

pub reading_moves : ReadingMoves
reading_moves setup journal v topic limit moved = (
  record {
    task = kin.task;
    kept = kin.kept;
    position = λ u. same_positions setup.plan topic v got.0 u;
    later = λ u. later u (u == topic) refl;
  },
  omega (arith, moved, here after.inputs topic got.1),
)
  where
    got : List (ℕ × Rec) × ℕ
    got = fetched (at setup journal) (part_of topic v.task) (v.inputs topic) limit

    after : TaskView
    after = take_all setup.plan v topic got.0

    kin : IsKin topic v after
    kin = kin_all setup.plan topic v got.0

    later : (u : ℕ) (b : Bool) → (u == topic) ≡ b → v.inputs u ≤ cond b got.1 (after.inputs u)
    later u true is = omega (arith, moved, ap v.inputs (eqb-true u topic is))
    later u false is = omega (arith, kin.others u is)
