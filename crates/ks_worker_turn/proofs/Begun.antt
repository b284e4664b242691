-- What a worker makes of the status that it is told.
use Rattle.std.proofs.Common.{◌≡◌, ◌≢◌, ℕ, true, List, [], Option, Some, None, ◌⊎◌, ⊎_elim, inl, inr, refl, sym, ap, subst, ◌∙◌}
use Rattle.std.specs.Prelude.{IfSome}
use Rattle.ks_record.specs.declared.assignment.Assignment.{Assignment}
use Rattle.ks_record.specs.declared.record.TaskId.{TaskId}
use Rattle.ks_history.specs.declared.journal.Entry.{Entry}
use Rattle.ks_history.specs.declared.journal.Status.{Status}
use Rattle.ks_history.specs.declared.journal.Reply.{Reply}
use Rattle.ks_history.specs.declared.journal.Reply.TheVariants.{Truth}
use Rattle.ks_history.specs.declared.journal.Request.TheVariants.{Assign}
use Rattle.ks_history.specs.Machine.{TaskPlan}
use Rattle.ks_history.specs.State.{has_number}
use Rattle.ks_history.specs.Reads.{status}
use Rattle.ks_growing.specs.Passes.{PassView}
use Rattle.ks_shared.specs.declared.state.Frame.{Frame}
use Rattle.ks_shared.specs.Calls.{setup_in}
use Rattle.ks_standby.specs.declared.replica.Replica.{Replica}
use Rattle.ks_task.specs.declared.task.Task.{Task}
use Rattle.ks_assign_group.specs.Groups.{clients_of}
use Rattle.ks_worker_client.specs.declared.member.Member.{Member}
use Rattle.ks_worker_client.specs.Calls.{Later, Wrote, state_seen}
use Rattle.ks_worker_client.proofs.Moments.{later_twice}
use Rattle.ks_worker_state.specs.declared.state.WorkerState.{WorkerState}
use Rattle.ks_worker_state.specs.State.{LaterState}
use Rattle.ks_worker_turn.specs.Beginning.{HasOffered, HasPlaced, HasBegun, IsAsBefore, at_moment, seen_by}
use Rattle.ks_worker_turn.specs.Requests.{HasJoined}
use Rattle.ks_worker_turn.specs.Resting.{is_generation_over, HaveRested}
use Rattle.ks_worker_turn.specs.Restored.{HasTakenAll}

module _ {W G : Type 0} (plan : W → TaskPlan) (threads : ℕ) (tasks : List TaskId) (old new : WorkerState W G) (s : Status) (is : s ≡ status (setup_in plan old.session.client.pass.frame) (state_seen plan old.session.client.pass))
    (offer answer : Option Assignment) (mid : PassView Entry (Frame W)) (l : Later plan mid new.session.client.pass)
    (same : new.member ≡ record old.member { generation = new.member.generation })
    (free : offer ≡ None → (s.assignment ≢ None) ⊎ (clients_of threads s.members ≡ []))
    (given : s.assignment ≢ None → answer ≡ s.assignment)
    (some : offer ≢ None → clients_of threads s.members ≢ [])
    (idle : s.assignment ≡ None → offer ≡ None → answer ≡ None)
    (offered : s.assignment ≡ None → IfSome offer (λ a. HasOffered plan old.session.client.pass mid old.member.number s.generation a (λ moment. answer ≡ Some a) (answer ≡ None)))
    (took : (a : Assignment) → answer ≡ Some a → HasTakenAll plan tasks s.generation a old new)
    (took_at : (moment : PassView Entry (Frame W)) → Later plan moment mid → (a : Assignment) → answer ≡ Some a → HasTakenAll plan tasks s.generation a (at_moment old moment) new)
    (stays : answer ≡ None → IsAsBefore old new) where
  generation_is : s.generation ≡ (seen_by plan old).generation
  generation_is = ap (λ (x : Status). x.generation) is

  assignment_is : s.assignment ≡ (seen_by plan old).assignment
  assignment_is = ap (λ (x : Status). x.assignment) is

  members_are : s.members ≡ (seen_by plan old).members
  members_are = ap (λ (x : Status). x.members) is

  some_apart : (o : Option Assignment) (a : Assignment) → o ≡ Some a → o ≢ None
  some_apart o a e none = absurd cc

  took_there : (a : Assignment) → answer ≡ Some a → HasTakenAll plan tasks (seen_by plan old).generation a old new
  took_there a e = subst (λ (g : ℕ). HasTakenAll plan tasks g a old new) generation_is (took a e)

  took_since : (moment : PassView Entry (Frame W)) → Later plan moment mid → (a : Assignment) → answer ≡ Some a → HasTakenAll plan tasks (seen_by plan old).generation a (at_moment old moment) new
  took_since moment k a e = subst (λ (g : ℕ). HasTakenAll plan tasks g a (at_moment old moment) new) generation_is (took_at moment k a e)

  then_offered : (a : Assignment) → HasOffered plan old.session.client.pass mid old.member.number s.generation a (λ moment. answer ≡ Some a) (answer ≡ None) →
      HasOffered plan old.session.client.pass new.session.client.pass old.member.number (seen_by plan old).generation a (λ moment. HasTakenAll plan tasks (seen_by plan old).generation a (at_moment old moment) new) (IsAsBefore old new)
  then_offered a h = record {
    moment = h.moment;
    reply = h.reply;
    wrote = subst (λ (g : ℕ). Wrote plan old.session.client.pass h.moment (Assign old.member.number g a) h.reply) generation_is h.wrote;
    before = later_twice plan h.moment mid new.session.client.pass h.before l;
    taken = λ e. took_since h.moment h.before a (h.taken e);
    refused = λ e. stays (h.refused e);
  }

  pub placed : HasPlaced plan threads tasks old new
  placed = record {
    member = same;
    given = λ a e. took_there a (given (some_apart s.assignment a (assignment_is ∙ e)) ∙ assignment_is ∙ e);
    offered = λ none clients. by none clients offer refl;
    alone = λ none empty. stays (idle (assignment_is ∙ none) (nothing offer refl empty));
  }
    where
      by : (seen_by plan old).assignment ≡ None → clients_of threads (seen_by plan old).members ≢ [] → (o : Option Assignment) → offer ≡ o →
          (a : Assignment) × HasOffered plan old.session.client.pass new.session.client.pass old.member.number (seen_by plan old).generation a (λ moment. HasTakenAll plan tasks (seen_by plan old).generation a (at_moment old moment) new) (IsAsBefore old new)
      by none clients None e =
          absurd (⊎_elim (λ (t : s.assignment ≢ None). t (assignment_is ∙ none)) (λ (c : clients_of threads s.members ≡ []). clients (ap (clients_of threads) (sym members_are) ∙ c)) (free e))
      by none clients (Some a) e =
          (a, then_offered a (subst (λ o. IfSome o (λ a. HasOffered plan old.session.client.pass mid old.member.number s.generation a (λ moment. answer ≡ Some a) (answer ≡ None))) e (offered (assignment_is ∙ none))))

      nothing : (o : Option Assignment) → offer ≡ o → clients_of threads (seen_by plan old).members ≡ [] → offer ≡ None
      nothing None e empty = e
      nothing (Some a) e empty = absurd (some (λ none. some_apart offer a e none) (ap (clients_of threads) members_are ∙ empty))

-- the one that was answered, if one was
pub nothing_took : (answer : Option Assignment) (P : Assignment → Type 0) → answer ≡ None → (a : Assignment) → answer ≡ Some a → P a
nothing_took answer P none a e = absurd cc

pub took_it : (answer : Option Assignment) (b : Assignment) (P : Assignment → Type 0) → answer ≡ Some b → P b → (a : Assignment) → answer ≡ Some a → P a
took_it answer b P is h a e = let same : b ≡ a = cc in subst P same h

-- there was one
pub none_stays : {P : Type 0} (answer : Option Assignment) (b : Assignment) → answer ≡ Some b → answer ≡ None → P
none_stays answer b is none = absurd cc

-- the same member, but for its generation
pub only_newer : (old new : Member) (generation : ℕ) → new ≡ record old { generation = generation } → new ≡ record old { generation = new.generation }
only_newer old new generation is = is ∙ ap (λ (g : ℕ). record old { generation = g }) (sym (ap (λ (m : Member). m.generation) is))

-- a turn up to its act, from its parts
pub begun : {W G : Type 0} (plan : W → TaskPlan) (threads : ℕ) (tasks : List TaskId) (old one two new : WorkerState W G) (s : Status) → LaterState plan old two → LaterState plan two new → one.member.generation ≡ old.member.generation → one.member.number ≡ old.member.number →
    one.tasks.items ≡ old.tasks.items → one.replicas.items ≡ old.replicas.items → s ≡ status (setup_in plan two.session.client.pass.frame) (state_seen plan two.session.client.pass) →
    HaveRested (is_generation_over one.member.generation s.generation (has_number one.member.number s.members)) one.tasks.items one.replicas.items two.tasks.items two.replicas.items →
    two.member ≡ record one.member { is_member = has_number one.member.number s.members } → HasJoined plan old two → HasPlaced plan threads tasks two new → HasBegun plan threads tasks old new s.waiting
begun plan threads tasks old one two new s since before generation number same_tasks same_replicas is rested member joined placed = record {
  told = two;
  since = since;
  before = before;
  joined = joined;
  listed = ap (λ (m : Member). m.is_member) member ∙ ap (λ (w : ℕ). has_number w s.members) number ∙ ap (λ (x : Status). has_number old.member.number x.members) is;
  own = ap (λ (m : Member). m.generation) member ∙ generation;
  said = s;
  said_is = is;
  markers = refl;
  rested =
      subst (λ (g : ℕ). HaveRested (is_generation_over g (seen_by plan two).generation (has_number old.member.number (seen_by plan two).members)) old.tasks.items old.replicas.items two.tasks.items two.replicas.items) generation
      (subst (λ (n : ℕ). HaveRested (is_generation_over one.member.generation (seen_by plan two).generation (has_number n (seen_by plan two).members)) old.tasks.items old.replicas.items two.tasks.items two.replicas.items) number
      (subst (λ (x : Status). HaveRested (is_generation_over one.member.generation x.generation (has_number one.member.number x.members)) old.tasks.items old.replicas.items two.tasks.items two.replicas.items) is
      (subst (λ (ts : List Task). HaveRested (is_generation_over one.member.generation s.generation (has_number one.member.number s.members)) ts old.replicas.items two.tasks.items two.replicas.items) same_tasks
      (subst (λ (rs : List Replica). HaveRested (is_generation_over one.member.generation s.generation (has_number one.member.number s.members)) one.tasks.items rs two.tasks.items two.replicas.items) same_replicas rested))));
  placed = placed;
}
