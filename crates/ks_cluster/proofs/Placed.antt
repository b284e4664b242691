-- One entry more in a journal whose assignments are good.
use Rattle.std.proofs.Common.{◌≡◌, ℕ, ◌≤◌, Bool, true, false, cond, List, [], ◌∷◌, ◌++◌, ◌⊎◌, ⊎_elim, inl, inr, Option, Some, None, refl, sym, ap, ◌∙◌, subst}
use Rattle.std.specs.Prelude.{◌==◌}
use Rattle.std.proofs.lemmas.Bool.{eqb-true}
use Rattle.ks_record.specs.declared.record.TaskId.{TaskId}
use Rattle.ks_record.specs.declared.assignment.Assignment.{Assignment}
use Rattle.ks_record.specs.declared.assignment.Refused.{Refused}
use Rattle.ks_record.specs.declared.assignment.Refused.TheVariants.{OldGeneration}
use Rattle.ks_history.specs.declared.journal.Entry.{Entry}
use Rattle.ks_history.specs.declared.journal.Request.{Request}
use Rattle.ks_history.specs.declared.journal.Request.TheVariants.{Assign}
use Rattle.ks_history.specs.declared.journal.Reply.{Reply}
use Rattle.ks_history.specs.declared.journal.Reply.TheVariants.{Truth}
use Rattle.ks_history.specs.Machine.{TaskPlan}
use Rattle.ks_history.specs.Partition.{is_none}
use Rattle.ks_history.specs.State.{State, Setup}
use Rattle.ks_history.specs.Step.{or_else, old_generation, bad_assignment, refusal, reply_by, reply_to}
use Rattle.ks_history.specs.History.{at, Meets, CommitsFaithfully}
use Rattle.ks_cluster.specs.declared.broker.Broker.{Broker}
use Rattle.ks_cluster.specs.Moves.{Moves, IsNew}
use Rattle.ks_cluster.specs.Placed.{PlacementTest, IsGoodAt, ArePlaced}
use Rattle.ks_cluster.specs.View.{setup_at, IsCluster}
use Rattle.ks_cluster.proofs.Entries.{moved_tasks, moved_kept, new_kept}

-- ---- lists with one element more
module _ {A : Type 0} where
  not_empty : (xs : List A) (y : A) (ys : List A) → [] ≡ xs ++ y ∷ ys → ⊥
  not_empty [] y ys e = absurd cc
  not_empty (x ∷ xs) y ys e = absurd cc

  -- an element of a list with one more at its end is that one, or stands in the list
  pub last_or_before : (xs front rest : List A) (x y : A) → xs ++ x ∷ [] ≡ front ++ y ∷ rest
      → ((xs ≡ front) × (x ≡ y)) ⊎ ((more : List A) × (xs ≡ front ++ y ∷ more))
  last_or_before [] [] rest x y e = let h : x ≡ y = cc in inl (refl, h)
  last_or_before [] (f ∷ front) rest x y e = let t : [] ≡ front ++ y ∷ rest = cc in absurd (not_empty front y rest t)
  last_or_before (z ∷ xs) [] rest x y e = let h : z ≡ y = cc in inr (xs, ap (λ a. a ∷ xs) h)
  last_or_before (z ∷ xs) (f ∷ front) rest x y e =
      let h : z ≡ f = cc in
      let t : xs ++ x ∷ [] ≡ front ++ y ∷ rest = cc in
      ⊎_elim
      (λ (p : (xs ≡ front) × (x ≡ y)). inl ((λ i. h i ∷ p.0 i), p.1))
      (λ (p : (more : List A) × (xs ≡ front ++ y ∷ more)). inr (p.0, λ i. h i ∷ p.1 i))
      (last_or_before xs front rest x y t)

-- ---- journals with one entry more
-- if the entry gives an assignment, it is good by the journal before it
abbrev AddsGood : PlacementTest → Setup → List Entry → Entry → Type 0
AddsGood test setup journal entry =
    (w g : ℕ) (a : Assignment) → entry ≡ record { request = Assign w g a; reply = Truth true } → IsGoodAt test setup journal g a

placed_more : (test : PlacementTest) (setup : Setup) (journal : List Entry) (entry : Entry) → AddsGood test setup journal entry
    → ArePlaced test setup journal → ArePlaced test setup (journal ++ entry ∷ [])
placed_more test setup journal entry new old front w g a rest is =
    let given : Entry = record { request = Assign w g a; reply = Truth true } in
    ⊎_elim
    (λ (t : (journal ≡ front) × (entry ≡ given)). subst (λ l. IsGoodAt test setup l g a) t.0 (new w g a t.1))
    (λ (t : (more : List Entry) × (journal ≡ front ++ given ∷ more)). old front w g a t.0 t.1)
    (last_or_before journal front rest entry given is)

abbrev is_assign : Request → Bool
is_assign (Assign w g a) = true
is_assign _ = false

-- any other request
no_assignment : (test : PlacementTest) (setup : Setup) (journal : List Entry) (request : Request) (reply : Reply) → is_assign request ≡ false → AddsGood test setup journal (record { request = request; reply = reply })
no_assignment test setup journal request reply other w g a is =
    let e : false ≡ true = sym other ∙ ap (λ (x : Entry). is_assign x.request) is in absurd cc

-- ---- an assignment that was taken
not_refused : (s : State) (w g : ℕ) (a : Assignment) (o : Option Refused) → Truth true ≡ reply_by s (Assign w g a) o → (o ≡ None) × (is_none s.assignment ≡ true)
not_refused s w g a None e = let same : true ≡ is_none s.assignment = cc in (refl, sym same)
not_refused s w g a (Some r) e = absurd cc

own_generation : (s : State) (g : ℕ) (rest : Option Refused) → or_else (old_generation s g) rest ≡ None → s.generation ≡ g
own_generation s g rest free = by (g == s.generation) refl free
  where
    by : (b : Bool) → (g == s.generation) ≡ b → or_else (cond b None (Some (OldGeneration s.generation))) rest ≡ None → s.generation ≡ g
    by true e h = sym (eqb-true g s.generation e)
    by false e h = absurd cc

no_assignment_yet : (o : Option Assignment) → is_none o ≡ true → o ≡ None
no_assignment_yet None e = refl
no_assignment_yet (Some a) e = absurd cc

good_assignment : (test : PlacementTest) (setup : Setup) (journal : List Entry) (w g : ℕ) (a : Assignment) (reply : Reply) → reply ≡ reply_to setup (at setup journal) (Assign w g a)
    → ((at setup journal).generation ≡ g → (at setup journal).assignment ≡ None → IsGoodAt test setup journal g a)
    → AddsGood test setup journal (record { request = Assign w g a; reply = reply })
good_assignment test setup journal w g a reply step good v h b is =
    let s : State = at setup journal in
    let asked : Assign w g a ≡ Assign v h b = ap (λ (x : Entry). x.request) is in
    let told : reply ≡ Truth true = ap (λ (x : Entry). x.reply) is in
    let taken : (refusal setup s (Assign w g a) ≡ None) × (is_none s.assignment ≡ true) = not_refused s w g a (refusal setup s (Assign w g a)) (sym told ∙ step) in
    let number : g ≡ h = cc in
    let same : a ≡ b = cc in
    subst (λ n. IsGoodAt test setup journal n b) number (subst (λ c. IsGoodAt test setup journal g c) same
    (good (own_generation s g (bad_assignment setup.tasks s.members a.active) taken.0) (no_assignment_yet s.assignment taken.1)))

-- ---- what the cluster's type keeps
module _ (plan : TaskPlan) (test : PlacementTest) (counts : List ℕ) (journal : List Entry) (old new : Broker) (k : IsCluster plan test counts journal old) where
  kept_by : (request : Request) (reply : Reply) → AddsGood test (setup_at plan counts old) journal (record { request = request; reply = reply })
      → Meets (setup_at plan counts old) (at (setup_at plan counts old) journal) request
      → CommitsFaithfully (setup_at plan counts old) (at (setup_at plan counts old) journal) request
      → Moves old new request reply
      → IsCluster plan test counts (journal ++ record { request = request; reply = reply } ∷ []) new
  kept_by request reply good meets faithful m = record {
    follows = moved_kept plan counts journal old new request reply k.follows meets faithful m;
    placed = subst (λ (ts : List TaskId). ArePlaced test (record { plan = plan; counts = counts; tasks = ts }) (journal ++ record { request = request; reply = reply } ∷ []))
        (moved_tasks (setup_at plan counts old) (at (setup_at plan counts old) journal) old new request reply refl k.follows.stands m)
        (placed_more test (setup_at plan counts old) journal (record { request = request; reply = reply }) good k.placed);
  }

  pub kept_on : (request : Request) (reply : Reply) → is_assign request ≡ false
      → Meets (setup_at plan counts old) (at (setup_at plan counts old) journal) request
      → CommitsFaithfully (setup_at plan counts old) (at (setup_at plan counts old) journal) request
      → Moves old new request reply
      → IsCluster plan test counts (journal ++ record { request = request; reply = reply } ∷ []) new
  kept_on request reply other = kept_by request reply (no_assignment test (setup_at plan counts old) journal request reply other)

  pub kept_assign : (w g : ℕ) (a : Assignment) (reply : Reply)
      → Meets (setup_at plan counts old) (at (setup_at plan counts old) journal) (Assign w g a)
      → ((at (setup_at plan counts old) journal).generation ≡ g → (at (setup_at plan counts old) journal).assignment ≡ None → IsGoodAt test (setup_at plan counts old) journal g a)
      → Moves old new (Assign w g a) reply
      → IsCluster plan test counts (journal ++ record { request = Assign w g a; reply = reply } ∷ []) new
  kept_assign w g a reply meets good m =
      kept_by (Assign w g a) reply (good_assignment test (setup_at plan counts old) journal w g a reply (m.step (setup_at plan counts old) (at (setup_at plan counts old) journal) k.follows.stands).0 good) meets tt m

pub new_cluster : (plan : TaskPlan) (test : PlacementTest) (counts : List ℕ) (tasks : List TaskId) (b : Broker) → IsNew plan tasks b → IsCluster plan test counts [] b
new_cluster plan test counts tasks b new = record {
  follows = new_kept plan counts tasks b new;
  placed = λ front w g a rest is. absurd (not_empty front _ rest is);
}
