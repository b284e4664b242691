-- What looks at inputs make of the tasks, one after another.
use Rattle.std.proofs.Common.{◌≡◌, inl, inr, ℕ, zero, suc, ◌<◌, ◌≤◌, Bool, true, false, List, [], ◌∷◌, ◌++◌, length, take, drop, get_or, set, refl, sym, ap, ap₂, subst, ◌∙◌, arith}
use Rattle.std.specs.List.{All}
use Rattle.std.proofs.lemmas.Bool.{true≢false}
use Rattle.std.proofs.lemmas.List.{take-append-drop, set-get_or}
use Rattle.std.proofs.lemmas.List.Elements.{All-nil, All-cons, All-head, All-tail, All-append, All-weaker, All-take, All-drop}
use Rattle.std.proofs.Math.Seq.{take-append_seam, drop-append_seam}
use Rattle.ks_record.specs.declared.record.TaskId.{TaskId}
use Rattle.ks_history.specs.declared.journal.Entry.{Entry}
use Rattle.ks_history.specs.Machine.{IsNetwork, part_of}
use Rattle.ks_history.specs.State.{Setup}
use Rattle.ks_history.specs.History.{at, IsHistory}
use Rattle.ks_law_commit.specs.Bounds.{stable_of}
use Rattle.ks_law_commit.proofs.Bounds.{stable_rises}
use Rattle.ks_task.specs.declared.task.Task.{Task}
use Rattle.ks_task.specs.Tasks.{task_view}
use Rattle.ks_worker_state.specs.Tasks.{IsReadOnce}
use Rattle.ks_worker_state.specs.State.{task_names}
use Rattle.ks_worker_acts.specs.declared.places.InputPlace.{InputPlace}
use Rattle.ks_worker_acts.specs.Inputs.{AtPlace, ReadsOn, HaveReadOn, HasMoved, HasReadTo, HasReadAt, IsMovedAt, MovesFirst, HasLooked}
use Rattle.ks_worker_acts.proofs.InputPlaces.{is_place, place_on}

-- ---- reading on
same_reads : (t : Task) → ReadsOn (task_view t) (task_view t)
same_reads t = record { task = refl; kept = λ u. refl; position = λ u. refl; later = λ u. omega arith }

pub reads_same : (ts : List Task) → HaveReadOn ts ts
reads_same [] = tt
reads_same (t ∷ ts) = (same_reads t, reads_same ts)

reads_both : (a b c : Task) → ReadsOn (task_view a) (task_view b) → ReadsOn (task_view b) (task_view c) → ReadsOn (task_view a) (task_view c)
reads_both a b c f g = record {
  task = g.task ∙ f.task;
  kept = λ u. g.kept u ∙ f.kept u;
  position = λ u. g.position u ∙ f.position u;
  later = λ u. omega (arith, f.later u, g.later u);
}

pub reads_twice : (xs ys zs : List Task) → HaveReadOn xs ys → HaveReadOn ys zs → HaveReadOn xs zs
reads_twice [] [] [] f g = tt
reads_twice [] [] (z ∷ zs) f g = absurd g
reads_twice [] (y ∷ ys) zs f g = absurd f
reads_twice (x ∷ xs) [] zs f g = absurd f
reads_twice (x ∷ xs) (y ∷ ys) [] f g = absurd g
reads_twice (x ∷ xs) (y ∷ ys) (z ∷ zs) f g = (reads_both x y z f.0 g.0, reads_twice xs ys zs f.1 g.1)

pub read_names : (xs ys : List Task) → HaveReadOn xs ys → task_names ys ≡ task_names xs
read_names [] [] f = refl
read_names [] (y ∷ ys) f = absurd f
read_names (x ∷ xs) [] f = absurd f
read_names (x ∷ xs) (y ∷ ys) f = ap₂ (λ (t : TaskId) ts. t ∷ ts) f.0.task (read_names xs ys f.1)

-- one of the tasks read
read_set : (ts : List Task) (i : ℕ) (old new : Task) → i < length ts → old ≡ get_or ts i old → ReadsOn (task_view old) (task_view new) → HaveReadOn ts (set ts i new)
read_set [] i old new lt is r = absurd (omega (arith, lt))
read_set (t ∷ ts) zero old new lt is r = (subst (λ (o : Task). ReadsOn (task_view o) (task_view new)) is r, reads_same ts)
read_set (t ∷ ts) (suc i) old new lt is r = (same_reads t, read_set ts i old new (omega (arith, lt)) is r)

moved_set : (ts : List Task) (i topic : ℕ) (old new : Task) → i < length ts → old ≡ get_or ts i old → (task_view old).inputs topic < (task_view new).inputs topic → HasMoved ts (set ts i new)
moved_set [] i topic old new lt is r = absurd (omega (arith, lt))
moved_set (t ∷ ts) zero topic old new lt is r = inl (topic, subst (λ (o : Task). (task_view o).inputs topic < (task_view new).inputs topic) is r)
moved_set (t ∷ ts) (suc i) topic old new lt is r = inr (moved_set ts i topic old new (omega (arith, lt)) is r)

-- its others are the same
set_at : (ts : List Task) (i topic : ℕ) (old new : Task) → i < length ts → old ≡ get_or ts i old → HasReadAt topic (task_view old) (task_view new) → IsMovedAt topic i ts (set ts i new)
set_at [] i topic old new lt is r = absurd (omega (arith, lt))
set_at (t ∷ ts) zero topic old new lt is r = (subst (λ (o : Task). HasReadAt topic (task_view o) (task_view new)) is r, refl)
set_at (t ∷ ts) (suc i) topic old new lt is r = (refl, set_at ts i topic old new (omega (arith, lt)) is r)

-- ---- looks
module _ (setup : Setup) (h : List Entry) where
  pub looked_place : (i topic : ℕ) (moved : Bool) (ts : List Task) (old new : Task) → i < length ts → old ≡ get_or ts i old → IsReadOnce setup h topic moved old new → (moved ≡ false → new ≡ old) →
      HasLooked setup h moved (record { index = i; topic = topic } ∷ []) ts (set ts i new)
  looked_place i topic moved ts old new lt is r same = record {
    read = read_set ts i old new lt is (record { task = r.read.task; kept = r.read.kept; position = r.read.position; later = r.read.later });
    moves = λ e. moved_set ts i topic old new lt is (r.moves e);
    first = λ e. inl (set_at ts i topic old new lt is (record { read = r.read; rose = r.moves e; others = r.others }));
    stays = λ e. ap (λ t. set ts i t) (same e ∙ is) ∙ set-get_or ts i old;
    stops = λ e. All-cons (λ (p : InputPlace). AtPlace (HasReadTo setup h p.topic) p.index ts) (record { index = i; topic = topic }) []
        (is_place (HasReadTo setup h topic) i ts old lt (subst (HasReadTo setup h topic) is (subst (λ (t : Task). stable_of (at setup h) (part_of topic (task_view old).task) ≤ (task_view t).inputs topic) (same e) (r.stops e))))
        (All-nil (λ (p : InputPlace). AtPlace (HasReadTo setup h p.topic) p.index ts));
  }

  pub looked_none : (ts : List Task) → HasLooked setup h false [] ts ts
  looked_none ts = record {
    read = reads_same ts;
    moves = λ e. absurd (true≢false (sym e));
    first = λ e. absurd (true≢false (sym e));
    stays = λ e. refl;
    stops = λ e. All-nil (λ (p : InputPlace). AtPlace (HasReadTo setup h p.topic) p.index ts);
  }

  first_front : (xs ys : List InputPlace) (a b : List Task) → MovesFirst setup h xs a b → MovesFirst setup h (xs ++ ys) a b
  first_front [] ys a b m = absurd m
  first_front (x ∷ xs) ys a b (inl m) = inl m
  first_front (x ∷ xs) ys a b (inr m) = inr (m.0, first_front xs ys a b m.1)

  first_behind : (xs ys : List InputPlace) (a b : List Task) → All (λ p. AtPlace (HasReadTo setup h p.topic) p.index a) xs → MovesFirst setup h ys a b → MovesFirst setup h (xs ++ ys) a b
  first_behind [] ys a b stopped m = m
  first_behind (x ∷ xs) ys a b stopped m =
      inr (All-head (λ (p : InputPlace). AtPlace (HasReadTo setup h p.topic) p.index a) x xs stopped, first_behind xs ys a b (All-tail (λ (p : InputPlace). AtPlace (HasReadTo setup h p.topic) p.index a) x xs stopped) m)

  -- once a task moved, it doesn't matter what comes behind
  pub looked_moved : (xs ys : List InputPlace) (a b : List Task) → HasLooked setup h true xs a b → HasLooked setup h true (xs ++ ys) a b
  looked_moved xs ys a b l = record {
    read = l.read;
    moves = l.moves;
    first = λ e. first_front xs ys a b (l.first e);
    stays = λ e. absurd (true≢false e);
    stops = λ e. absurd (true≢false e);
  }

  module _ (more : List Entry) (net : IsNetwork setup.plan) (history : IsHistory setup (h ++ more)) where
    first_since : (ys : List InputPlace) (b c : List Task) → MovesFirst setup (h ++ more) ys b c → MovesFirst setup h ys b c
    first_since [] b c m = absurd m
    first_since (y ∷ ys) b c (inl m) = inl m
    first_since (y ∷ ys) b c (inr m) = inr (
      place_on (HasReadTo setup (h ++ more) y.topic) (HasReadTo setup h y.topic) y.index b (λ t s. omega (arith, s, stable_rises setup h more (part_of y.topic (task_view t).task) net history)) m.0,
      first_since ys b c m.1,
    )

    -- what stood still, and was looked at later
    pub looked_then : (moved : Bool) (xs ys : List InputPlace) (a b c : List Task) → HasLooked setup h false xs a b → HasLooked setup (h ++ more) moved ys b c → HasLooked setup h moved (xs ++ ys) a c
    looked_then moved xs ys a b c f g = record {
      read = reads_twice a b c f.read g.read;
      moves = λ e. subst (λ l. HasMoved l c) (f.stays refl) (g.moves e);
      first = λ e. first_behind xs ys a c (f.stops refl) (subst (λ l. MovesFirst setup h ys l c) (f.stays refl) (first_since ys b c (g.first e)));
      stays = λ e. g.stays e ∙ f.stays refl;
      stops = λ e. All-append (λ (p : InputPlace). AtPlace (HasReadTo setup h p.topic) p.index a) xs ys (f.stops refl)
          (All-weaker (λ (p : InputPlace). AtPlace (HasReadTo setup (h ++ more) p.topic) p.index b) (λ (p : InputPlace). AtPlace (HasReadTo setup h p.topic) p.index a)
          (λ p r. subst (AtPlace (HasReadTo setup h p.topic) p.index) (f.stays refl) (place_on (HasReadTo setup (h ++ more) p.topic) (HasReadTo setup h p.topic) p.index b
          (λ t s. omega (arith, s, stable_rises setup h more (part_of p.topic (task_view t).task) net history)) r)) ys (g.stops e));
    }

  -- what was looked at round once, from one on, is all
  pub stops_round : (ps : List InputPlace) (k : ℕ) (a : List Task) → All (λ p. AtPlace (HasReadTo setup h p.topic) p.index a) (drop k ps ++ take k ps) → All (λ p. AtPlace (HasReadTo setup h p.topic) p.index a) ps
  stops_round ps k a all =
      let P : InputPlace → Type 0 = λ p. AtPlace (HasReadTo setup h p.topic) p.index a in
      subst (All P) (take-append-drop k ps)
      (All-append P (take k ps) (drop k ps)
      (subst (All P) (drop-append_seam (drop k ps) (take k ps)) (All-drop P (length (drop k ps)) (drop k ps ++ take k ps) all))
      (subst (All P) (take-append_seam (drop k ps) (take k ps)) (All-take P (length (drop k ps)) (drop k ps ++ take k ps) all)))
