-- The shelf goes on beside its cluster.
use Rattle.std.proofs.Common.{◌≡◌, ℕ, ◌+◌, ◌&&◌, Bool, true, false, cond, List, [], ◌∷◌, ◌++◌, Option, Some, None, refl, sym, ap, subst, ◌∙◌}
use Rattle.std.specs.Prelude.{Result, Ok, Err, IfOk, IfSome, OnErr, is_some, ◌==◌}
use Rattle.std.proofs.lemmas.Bool.{and_parts, true≢false}
use Rattle.ks_record.specs.declared.record.TaskId.{TaskId}
use Rattle.ks_record.specs.declared.assignment.Refused.{Refused}
use Rattle.ks_record.specs.declared.assignment.Marker.{Marker}
use Rattle.ks_record.specs.declared.assignment.Assignment.{Assignment}
use Rattle.ks_record.specs.Parts.{same_task}
use Rattle.ks_history.specs.declared.partition.Slot.TheVariants.{Mark}
use Rattle.ks_history.specs.declared.journal.Entry.{Entry}
use Rattle.ks_history.specs.declared.journal.Request.{Request}
use Rattle.ks_history.specs.declared.journal.Request.TheVariants.{Produce, Init, Add, Append, SendOffsets, Decide, MarkNext, Join, Expire, Hold, Probe, Assign, Park, Unpark}
use Rattle.ks_history.specs.declared.journal.Reply.{Reply}
use Rattle.ks_history.specs.declared.journal.Reply.TheVariants.{Done, Truth}
use Rattle.ks_history.specs.Machine.{TaskPlan, IsNetwork}
use Rattle.ks_history.specs.State.{State, Setup, start, with_number, grown, with_parked, without_number}
use Rattle.ks_history.specs.Step.{refusal, state_by, renewed, can_expire}
use Rattle.ks_history.specs.History.{state_after, at, IsHistory}
use Rattle.ks_history.proofs.Histories.{state_after-append}
use Rattle.ks_history.proofs.Names.{same_task-is}
use Rattle.ks_law_restore.proofs.Lasting.{replica_stands}
use Rattle.ks_cluster.specs.View.{ClusterView, setup_of, state_of, AddsEntry}
use Rattle.ks_standby.specs.declared.replica.Replica.{Replica}
use Rattle.ks_standby.specs.declared.parked.Parked.{Parked}
use Rattle.ks_standby.specs.Shelf.{parked, with_replica}
use Rattle.ks_standby.specs.Replicas.{replica_view}
use Rattle.ks_shared.specs.declared.barred.Barred.{Barred}
use Rattle.ks_shared.specs.declared.barred.Barred.TheVariants.{Refused as Refusal, Touched}
use Rattle.ks_shared.specs.Own.{IsOwn}
use Rattle.ks_shared.specs.Shelf.{IsReplicaOf, IsShelf}

-- the requests that change what is parked
abbrev pub parks : Request → Bool
parks (Park instance t) = true
parks (Unpark instance t) = true
parks _ = false

same_parked : (s : State) (request : Request) (r : Option Refused) → parks request ≡ false → (state_by s request r).parked ≡ s.parked
same_parked s request (Some refused) h = refl
same_parked s (Produce p rec) None h = refl
same_parked s (Init v) None h = refl
same_parked s (Add v e p) None h = refl
same_parked s (Append v e number u p rs) None h = refl
same_parked s (SendOffsets v e g u offsets order late) None h = refl
same_parked s (Decide v e commit) None h = refl
same_parked s (MarkNext v) None h = by (s.producer v).waiting
  where
    by : (ms : List Marker) → (elim ms as (λ _. State) [ [] ↦ s | m ∷ rest ↦ record s { partition = grown s.partition m.part (Mark v m.epoch m.commit ∷ []); producer = with_number s.producer v (record (s.producer v) { waiting = rest }) } ]).parked ≡ s.parked
    by [] = refl
    by (m ∷ rest) = refl
same_parked s (Join v) None h = refl
same_parked s (Expire v) None h = by (can_expire s v)
  where
    by : (b : Bool) → (cond b (record s { producer = with_number s.producer v (renewed (s.producer v)); members = without_number v s.members; held = with_number s.held v []; generation = s.generation + 1; assignment = None }) s).parked ≡ s.parked
    by true = refl
    by false = refl
same_parked s (Hold v held) None h = refl
same_parked s (Probe v g) None h = refl
same_parked s (Assign v g a) None h = by s.assignment
  where
    by : (o : Option Assignment) → (elim o as (λ _. State) [ None ↦ record s { assignment = Some a } | Some b ↦ s ]).parked ≡ s.parked
    by None = refl
    by (Some b) = refl
same_parked s (Park instance u) None h = absurd (true≢false h)
same_parked s (Unpark instance u) None h = absurd (true≢false h)

-- a replica that follows goes on following
pub replica_on : (setup : Setup) (journal more : List Entry) (t : TaskId) (r : Replica) → IsNetwork setup.plan → IsHistory setup (journal ++ more) → IsReplicaOf setup journal t r → IsReplicaOf setup (journal ++ more) t r
replica_on setup journal more t r network history p = record {
  task = p.task;
  changelogs = p.changelogs;
  follows = replica_stands setup journal more (replica_view r) network history p.follows;
}

abbrev truth_in : Reply → Bool
truth_in (Truth c) = c
truth_in _ = false

module _ {W : Type 0} (plan : W → TaskPlan) where
  -- in a cluster whose journal has grown
  on : (old new : ClusterView W) (own : List Entry) (t : TaskId) (r : Replica) → new ≡ record old { journal = old.journal ++ own } → IsNetwork (plan old.work) → IsHistory (setup_of plan new) new.journal →
      IsReplicaOf (setup_of plan old) old.journal t r → IsReplicaOf (setup_of plan new) new.journal t r
  on old new own t r is network history p =
      subst (λ (c : ClusterView W). IsReplicaOf (setup_of plan c) c.journal t r) (sym is)
      (replica_on (setup_of plan old) old.journal own t r network (subst (λ (c : ClusterView W). IsHistory (setup_of plan c) c.journal) is history) p)

  -- the state that one entry more leaves
  stepped : {A : Type 0} (pick : State → A) (old new : ClusterView W) (request : Request) (reply : Reply) → AddsEntry plan old new request reply → pick (state_of plan new) ≡ pick (state_by (state_of plan old) request (refusal (setup_of plan old) (state_of plan old) request))
  stepped pick old new request reply a =
      ap (λ (c : ClusterView W). pick (state_of plan c)) a.journal
      ∙ ap pick (state_after-append (setup_of plan old) start old.journal (record { request = request; reply = reply } ∷ []))

  shelf_on : (old new : ClusterView W) (request : Request) (reply : Reply) (p : Parked) → parks request ≡ false → AddsEntry plan old new request reply → IsNetwork (plan old.work) → IsHistory (setup_of plan new) new.journal → IsShelf plan old p → IsShelf plan new p
  shelf_on old new request reply p no_park a network history shelf = record {
    each = λ i t r h. on old new (record { request = request; reply = reply } ∷ []) t r a.journal network history (shelf.each i t r h);
    pairs = λ i t. shelf.pairs i t
        ∙ sym (stepped (λ s. s.parked i t) old new request reply a ∙ ap (λ f. f i t) (same_parked (state_of plan old) request (refusal (setup_of plan old) (state_of plan old) request) no_park));
  }

  -- a call that adds its entry, or gets no memory
  pub shelf_by : {A Z : Type 0} (old new : ClusterView W) (request : Request) (reply : A → Reply) (p : Parked) (r : Result A Z) → parks request ≡ false → IfOk r (λ n. AddsEntry plan old new request (reply n)) → OnErr r (new ≡ old) →
      IsNetwork (plan old.work) → IsHistory (setup_of plan new) new.journal → IsShelf plan old p → IsShelf plan new p
  shelf_by old new request reply p (Ok n) no_park a e network history shelf = shelf_on old new request (reply n) p no_park a network history shelf
  shelf_by old new request reply p (Err x) no_park a e network history shelf = subst (λ c. IsShelf plan c p) (sym e) shelf

  own_shelf : {A : Type 0} (old new : ClusterView W) (w last last' : ℕ) (request : Request) (reply : A → Reply) (p : Parked) (x : Result A Barred) → parks request ≡ false → IsOwn plan old new w last last' request reply x →
      IsNetwork (plan old.work) → IsHistory (setup_of plan new) new.journal → IsShelf plan old p → IsShelf plan new p
  own_shelf old new w last last' request reply p (Ok u) no_park a network history shelf = shelf_on old new request _ p no_park a.adds network history shelf
  own_shelf old new w last last' request reply p (Err (Refusal refused)) no_park a network history shelf = shelf_on old new request _ p no_park a.adds network history shelf
  own_shelf old new w last last' request reply p (Err (Touched at)) no_park a network history shelf = subst (λ c. IsShelf plan c p) (sym a.same) shelf

  -- a worker's own request, or no memory
  pub shelf_own : {A Z : Type 0} (old new : ClusterView W) (w last last' : ℕ) (request : Request) (reply : A → Reply) (p : Parked) (r : Result (Result A Barred) Z) → parks request ≡ false → IfOk r (λ x. IsOwn plan old new w last last' request reply x) → OnErr r (new ≡ old) →
      IsNetwork (plan old.work) → IsHistory (setup_of plan new) new.journal → IsShelf plan old p → IsShelf plan new p
  shelf_own old new w last last' request reply p (Ok x) no_park a e network history shelf = own_shelf old new w last last' request reply p x no_park a network history shelf
  shelf_own old new w last last' request reply p (Err x) no_park a e network history shelf = subst (λ c. IsShelf plan c p) (sym e) shelf

  -- ---- parking and taking
  pub same_shelf : (c : ClusterView W) (p q : Parked) → ((i : ℕ) (t : TaskId) → parked q i t ≡ parked p i t) → IsShelf plan c p → IsShelf plan c q
  same_shelf c p q same shelf = record {
    each = λ i t r h. shelf.each i t r (sym (same i t) ∙ h);
    pairs = λ i t. ap is_some (same i t) ∙ shelf.pairs i t;
  }

  pub shelf_parked : (old new : ClusterView W) (instance : ℕ) (replica : Replica) (p q : Parked) → AddsEntry plan old new (Park instance replica.id) Done → IsReplicaOf (setup_of plan old) old.journal replica.id replica →
      ((i : ℕ) (t : TaskId) → parked q i t ≡ with_replica instance replica.id (Some replica) (parked p) i t) → IsNetwork (plan old.work) → IsHistory (setup_of plan new) new.journal → IsShelf plan old p → IsShelf plan new q
  shelf_parked old new instance replica p q a follows is network history shelf = record {
    each = λ i t r h. stands i t r ((i == instance) && same_task t replica.id) refl (sym (is i t) ∙ h);
    pairs = λ i t. ap is_some (is i t) ∙ pair i t ((i == instance) && same_task t replica.id) ∙ sym (stepped (λ s. s.parked i t) old new (Park instance replica.id) Done a);
  }
    where
      then : (t : TaskId) (r : Replica) → IsReplicaOf (setup_of plan old) old.journal t r → IsReplicaOf (setup_of plan new) new.journal t r
      then t r f = on old new (record { request = Park instance replica.id; reply = Done } ∷ []) t r a.journal network history f

      stands : (i : ℕ) (t : TaskId) (r : Replica) (b : Bool) → (i == instance) && same_task t replica.id ≡ b → cond b (Some replica) (parked p i t) ≡ Some r → IsReplicaOf (setup_of plan new) new.journal t r
      stands i t r true h e =
          let same : replica ≡ r = cc in
          let named : t ≡ replica.id = same_task-is t replica.id (and_parts (i == instance) (same_task t replica.id) h).1 in
          subst (λ (k : Replica). IsReplicaOf (setup_of plan new) new.journal t k) same (subst (λ u. IsReplicaOf (setup_of plan new) new.journal u replica) (sym named) (then replica.id replica follows))
      stands i t r false h e = then t r (shelf.each i t r e)

      pair : (i : ℕ) (t : TaskId) (b : Bool) → is_some (cond b (Some replica) (parked p i t)) ≡ cond b true ((state_of plan old).parked i t)
      pair i t true = refl
      pair i t false = shelf.pairs i t

  pub shelf_unparked : (old new : ClusterView W) (instance : ℕ) (u : TaskId) (b : Bool) (p q : Parked) → AddsEntry plan old new (Unpark instance u) (Truth b) →
      ((i : ℕ) (t : TaskId) → parked q i t ≡ with_replica instance u None (parked p) i t) → IsNetwork (plan old.work) → IsHistory (setup_of plan new) new.journal → IsShelf plan old p → IsShelf plan new q
  shelf_unparked old new instance u b p q a is network history shelf = record {
    each = λ i t r h. stands i t r ((i == instance) && same_task t u) (sym (is i t) ∙ h);
    pairs = λ i t. ap is_some (is i t) ∙ pair i t ((i == instance) && same_task t u) ∙ sym (stepped (λ s. s.parked i t) old new (Unpark instance u) (Truth b) a);
  }
    where
      stands : (i : ℕ) (t : TaskId) (r : Replica) (c : Bool) → cond c None (parked p i t) ≡ Some r → IsReplicaOf (setup_of plan new) new.journal t r
      stands i t r true e = absurd cc
      stands i t r false e = on old new (record { request = Unpark instance u; reply = Truth b } ∷ []) t r a.journal network history (shelf.each i t r e)

      pair : (i : ℕ) (t : TaskId) (c : Bool) → is_some (cond {A = Option Replica} c None (parked p i t)) ≡ cond c false ((state_of plan old).parked i t)
      pair i t true = refl
      pair i t false = shelf.pairs i t

  -- what is taken is what the cluster answers, and follows
  module _ (old new : ClusterView W) (instance : ℕ) (u : TaskId) (b : Bool) (p : Parked) (o : Option Replica) (a : AddsEntry plan old new (Unpark instance u) (Truth b)) (is : o ≡ parked p instance u) (shelf : IsShelf plan old p) where
    pub taken_adds : AddsEntry plan old new (Unpark instance u) (Truth (is_some o))
    taken_adds = subst (λ c. AddsEntry plan old new (Unpark instance u) (Truth c)) (ap truth_in a.step ∙ sym (shelf.pairs instance u) ∙ ap is_some (sym is)) a

    pub taken_follows : IsNetwork (plan old.work) → IsHistory (setup_of plan new) new.journal → IfSome o (IsReplicaOf (setup_of plan new) new.journal u)
    taken_follows network history = given o refl
      where
        given : (x : Option Replica) → o ≡ x → IfSome x (IsReplicaOf (setup_of plan new) new.journal u)
        given None h = tt
        given (Some r) h = on old new (record { request = Unpark instance u; reply = Truth b } ∷ []) u r a.journal network history (shelf.each instance u r (sym is ∙ h))
