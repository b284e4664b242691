-- What mark_next, the requests of the group alone, parking and a new broker come to.
use Rattle.std.proofs.Common.{◌≡◌, ℕ, ◌+◌, ◌<◌, ◌≤◌, ◌^◌, Bool, true, false, cond, List, [], ◌∷◌, ◌++◌, length, set, get_or, drop, length-set, Option, Some, None, Result, Ok, Err, IfOk, OnOk, OnErr, refl, sym, ap, ◌∙◌, subst, arith}
use Rattle.std.specs.Prelude.{◌==◌, ◌&&◌, ◌||◌, map}
use Rattle.std.proofs.lemmas.List.{length-replicate}
use Rattle.ks_record.specs.declared.record.PartId.{PartId}
use Rattle.ks_record.specs.declared.record.TaskId.{TaskId}
use Rattle.ks_record.specs.declared.assignment.Refused.{Refused}
use Rattle.ks_record.specs.declared.assignment.Assignment.{Assignment}
use Rattle.ks_record.specs.declared.assignment.Marker.{Marker}
use Rattle.ks_record.specs.Parts.{same_task}
use Rattle.ks_history.specs.declared.partition.Slot.{Slot}
use Rattle.ks_history.specs.declared.partition.Slot.TheVariants.{Mark}
use Rattle.ks_history.specs.declared.journal.Request.TheVariants.{MarkNext, Join, Expire, Hold, Probe, Assign, Park, Unpark}
use Rattle.ks_history.specs.declared.journal.Reply.{Reply}
use Rattle.ks_history.specs.declared.journal.Reply.TheVariants.{Done, Number, Truth, Mark as Marked, Refused as Refuse}
use Rattle.ks_history.specs.declared.transaction.Pending.{Pending}
use Rattle.ks_history.specs.declared.transaction.Producer.{Producer}
use Rattle.ks_history.specs.Partition.{is_none}
use Rattle.ks_history.specs.Machine.{TaskPlan}
use Rattle.ks_history.specs.State.{State, Setup, start, new_producer, with_number, grown, insert_number, without_number, has_number}
use Rattle.ks_history.specs.Step.{or_else, is_undecided, can_expire, refusal, effect, renewed, pending_at, bad_assignment}
use Rattle.ks_log.specs.declared.log.Written.{Written}
use Rattle.ks_log.specs.Written.{slots_in, total, with_slots}
use Rattle.ks_log.proofs.Logs.{all_grown, total-with}
use Rattle.ks_txn.specs.Outcomes.{producer_at, first_marker}
use Rattle.ks_group.specs.New.{Refuses}
use Rattle.ks_group.specs.Held.{held_with, held_without}
use Rattle.ks_group.specs.Group.{GroupView, generation_fault, assign_fault, next_generation, expired, assigned, resolved}
use Rattle.ks_cluster.specs.declared.broker.Broker.{Broker}
use Rattle.ks_cluster.specs.ParkedPairs.{is_parked_in, unparked_in}
use Rattle.ks_cluster.specs.Replies.{number_or, truth_or}
use Rattle.ks_cluster.specs.Moves.{IsGroupAt, IsAt, IsNew, Moves, plain, first_group}
use Rattle.ks_cluster.proofs.ParkedPairs.{either, is_parked-more, unparked, absent}
use Rattle.ks_cluster.proofs.Lists.{get_or-replicate}
use Rattle.ks_cluster.proofs.Holding.{with_from, without_from}
use Rattle.ks_cluster.proofs.Plain.{open_plain, renewed_plain, renewed_pending, changed, unchanged}
use Rattle.ks_cluster.proofs.Steps.{refused_moves, accepted_moves, producer_is, producers_changed, group_stays}

-- ---- mark_next
abbrev first_left : List Marker → Reply
first_left ms = elim ms as (λ _. Reply) [ [] ↦ Marked None | m ∷ rest ↦ Marked (Some (m.part, m.commit)) ]

abbrev first_gone : State → ℕ → List Marker → State
first_gone s w ms = elim ms as (λ _. State) [
  | [] ↦ s
  | m ∷ rest ↦ record s {
    partition = grown s.partition m.part (Mark w m.epoch m.commit ∷ []);
    producer = with_number s.producer w (record (s.producer w) { waiting = rest });
  }
]

waits : (setup : Setup) (s : State) (b : Broker) (w : ℕ) → IsAt setup s b → (producer_at b.txns w).waiting ≡ (s.producer w).waiting
waits setup s b w k = ap (λ (q : Producer). q.waiting) (producer_is setup s b w k)

pub unmarked_moves : (b : Broker) (w : ℕ) → (producer_at b.txns w).waiting ≡ [] → Moves b b (MarkNext w) (Marked None)
unmarked_moves b w none = accepted_moves b b (MarkNext w) (Marked None)
    (λ setup s k. refl)
    (λ setup s k. sym (ap first_left (sym (waits setup s b w k) ∙ none)))
    (λ setup s k. subst (λ (t : State). IsAt setup t b) (sym (ap (first_gone s w) (sym (waits setup s b w k) ∙ none))) k)
    (omega arith)

pub marked_moves : (old new : Broker) (w : ℕ) (m : Marker) (rest : List Marker) → w ≤ 16 → (producer_at old.txns w).waiting ≡ m ∷ rest
    → new.log ≡ with_slots m.part (Mark w m.epoch m.commit ∷ []) old.log → total new.log < 2 ^ 48
    → new.txns ≡ set old.txns w (record (producer_at old.txns w) { waiting = rest })
    → new ≡ record old { log = new.log; txns = new.txns } → Moves old new (MarkNext w) (Marked (Some (m.part, m.commit)))
marked_moves old new w m rest h some log few txns same = subst (λ (b : Broker). Moves old b (MarkNext w) (Marked (Some (m.part, m.commit)))) (sym same)
    (accepted_moves old (record old { log = new.log; txns = new.txns }) (MarkNext w) (Marked (Some (m.part, m.commit)))
    (λ setup s k. refl)
    (λ setup s k. sym (ap first_left (sym (waits setup s old w k) ∙ some)))
    (λ setup s k.
    let p : Producer = record (s.producer w) { waiting = rest } in
    let all : ((v : ℕ) → get_or new.txns v new_producer ≡ plain (with_number s.producer w p v)) × (length new.txns ≡ 17) =
    producers_changed setup s old new.txns w (record (producer_at old.txns w) { waiting = rest }) p h k txns (ap (λ (q : Producer). record q { waiting = rest }) (producer_is setup s old w k)) in
    subst (λ (t : State). IsAt setup t (record old { log = new.log; txns = new.txns })) (sym (ap (first_gone s w) (sym (waits setup s old w k) ∙ some))) (record {
      log_is = λ v. ap (slots_in v) log ∙ all_grown s.partition old.log m.part (Mark w m.epoch m.commit ∷ []) k.log_is v;
      few = few;
      producers_are = all.0;
      count = all.1;
      group_is = group_stays setup s old.group _ _ _ k.group_is (unchanged pending_at s.producer old.group.pending w p [] k.group_is.pending_is refl);
      parked_is = k.parked_is;
    }))
    (omega (arith, ap total log ∙ total-with m.part (Mark w m.epoch m.commit ∷ []) old.log)))

-- ---- requests of the group alone
-- the same broker with another group
with_group : (setup : Setup) (s : State) (b : Broker) (g : GroupView) (generation : ℕ) (members : List ℕ) (assignment : Option Assignment) (held : ℕ → List (TaskId × ℕ)) → IsAt setup s b
    → IsGroupAt setup (record s { generation = generation; members = members; assignment = assignment; held = held }) g
    → IsAt setup (record s { generation = generation; members = members; assignment = assignment; held = held }) (record b { group = g })
with_group setup s b g generation members assignment held k group = record {
  log_is = k.log_is;
  few = k.few;
  producers_are = k.producers_are;
  count = k.count;
  group_is = group;
  parked_is = k.parked_is;
}

-- the next generation, with these members
next_at : (setup : Setup) (s : State) (g : GroupView) (members : List ℕ) → IsGroupAt setup s g
    → IsGroupAt setup (record s { generation = s.generation + 1; members = members; assignment = None }) (record (next_generation g) { members = members })
next_at setup s g members k = record {
  tasks_is = k.tasks_is;
  generation_is = ap (λ n. n + 1) k.generation_is;
  members_is = refl;
  assignment_is = refl;
  offsets_are = k.offsets_are;
  late_is = k.late_is;
  held_is = k.held_is;
  pending_is = k.pending_is;
  pending_count = k.pending_count;
}

pub joined_moves : (old new : Broker) (w n : ℕ) → n ≡ old.group.generation + 1 → new.group ≡ record (next_generation old.group) { members = insert_number w old.group.members }
    → new ≡ record old { group = new.group } → Moves old new (Join w) (Number n)
joined_moves old new w n next group same = subst (λ (b : Broker). Moves old b (Join w) (Number n)) (sym same) (accepted_moves old (record old { group = new.group }) (Join w) (Number n)
    (λ setup s k. refl)
    (λ setup s k. ap Number (next ∙ ap (λ g. g + 1) k.group_is.generation_is))
    (λ setup s k. with_group setup s old new.group _ _ _ _ k (subst (λ (g : GroupView). IsGroupAt setup (effect s (Join w)) g)
    (ap (λ (ms : List ℕ). record (next_generation old.group) { members = insert_number w ms }) (sym k.group_is.members_is) ∙ sym group)
    (next_at setup s old.group (insert_number w s.members) k.group_is)))
    (omega arith))

pub probe_refused : (b : Broker) (w g : ℕ) (r : Refused) → generation_fault b.group.generation g ≡ Some r → Moves b b (Probe w g) (Refuse r)
probe_refused b w g r is = refused_moves b (Probe w g) r (λ setup s k. ap (λ (n : ℕ). generation_fault n g) (sym k.group_is.generation_is) ∙ is) refl

pub probed_moves : (old new : Broker) (w g n : ℕ) → generation_fault old.group.generation g ≡ None → n ≡ old.group.generation + 1 → new.group ≡ next_generation old.group
    → new ≡ record old { group = new.group } → Moves old new (Probe w g) (Number n)
probed_moves old new w g n none next group same = subst (λ (b : Broker). Moves old b (Probe w g) (Number n)) (sym same) (accepted_moves old (record old { group = new.group }) (Probe w g) (Number n)
    (λ setup s k. ap (λ (m : ℕ). generation_fault m g) (sym k.group_is.generation_is) ∙ none)
    (λ setup s k. ap Number (next ∙ ap (λ m. m + 1) k.group_is.generation_is))
    (λ setup s k. with_group setup s old new.group _ _ _ _ k (subst (λ (v : GroupView). IsGroupAt setup (effect s (Probe w g)) v)
    (ap (λ (ms : List ℕ). record (next_generation old.group) { members = ms }) (sym k.group_is.members_is) ∙ sym group)
    (next_at setup s old.group s.members k.group_is)))
    (omega arith))

pub held_moves : (old new : Broker) (w : ℕ) (held : List (TaskId × ℕ)) → w ≤ 16 → new.group ≡ record old.group { held = held_with w held old.group.held } → new ≡ record old { group = new.group }
    → Moves old new (Hold w held) Done
held_moves old new w held h group same = subst (λ (b : Broker). Moves old b (Hold w held) Done) (sym same) (accepted_moves old (record old { group = new.group }) (Hold w held) Done
    (λ setup s k. refl)
    (λ setup s k. refl)
    (λ setup s k. with_group setup s old new.group _ _ _ _ k (subst (λ (v : GroupView). IsGroupAt setup (effect s (Hold w held)) v) (sym group) (record {
      tasks_is = k.group_is.tasks_is;
      generation_is = k.group_is.generation_is;
      members_is = k.group_is.members_is;
      assignment_is = k.group_is.assignment_is;
      offsets_are = k.group_is.offsets_are;
      late_is = k.group_is.late_is;
      held_is = ap (held_with w held) k.group_is.held_is ∙ with_from s w held h;
      pending_is = k.group_is.pending_is;
      pending_count = k.group_is.pending_count;
    })))
    (omega arith))

assign_is : (setup : Setup) (s : State) (b : Broker) (w g : ℕ) (a : Assignment) → IsAt setup s b → refusal setup s (Assign w g a) ≡ assign_fault b.group g a
assign_is setup s b w g a k =
    ap (λ (n : ℕ). or_else (generation_fault n g) (bad_assignment setup.tasks s.members a.active)) (sym k.group_is.generation_is)
    ∙ ap (λ (ts : List TaskId). or_else (generation_fault b.group.generation g) (bad_assignment ts s.members a.active)) (sym k.group_is.tasks_is)
    ∙ ap (λ (ms : List ℕ). or_else (generation_fault b.group.generation g) (bad_assignment b.group.tasks ms a.active)) (sym k.group_is.members_is)

pub assign_refused : (b : Broker) (w g : ℕ) (a : Assignment) (r : Refused) → assign_fault b.group g a ≡ Some r → Moves b b (Assign w g a) (Refuse r)
assign_refused b w g a r is = refused_moves b (Assign w g a) r (λ setup s k. assign_is setup s b w g a k ∙ is) refl

pub assigned_moves : (old new : Broker) (w g : ℕ) (a : Assignment) (truth : Bool) → assign_fault old.group g a ≡ None → truth ≡ is_none old.group.assignment → new.group ≡ assigned old.group a
    → new ≡ record old { group = new.group } → Moves old new (Assign w g a) (Truth truth)
assigned_moves old new w g a truth none is group same = subst (λ (b : Broker). Moves old b (Assign w g a) (Truth truth)) (sym same) (accepted_moves old (record old { group = new.group }) (Assign w g a) (Truth truth)
    (λ setup s k. assign_is setup s old w g a k ∙ none)
    (λ setup s k. ap Truth (is ∙ ap is_none k.group_is.assignment_is))
    (λ setup s k. by setup s k s.assignment refl)
    (omega arith))
  where
    by : (setup : Setup) (s : State) → IsAt setup s old → (o : Option Assignment) → s.assignment ≡ o
        → IsAt setup (elim s.assignment as (λ _. State) [ None ↦ record s { assignment = Some a } | Some b ↦ s ]) (record old { group = new.group })
    by setup s k None is_none' =
        subst (λ (o : Option Assignment). IsAt setup (elim o as (λ _. State) [ None ↦ record s { assignment = Some a } | Some b ↦ s ]) (record old { group = new.group })) (sym is_none')
        (with_group setup s old new.group _ _ _ _ k (subst (λ (v : GroupView). IsGroupAt setup (record s { assignment = Some a }) v)
        (ap (λ (o : Option Assignment). elim o as (λ _. GroupView) [ None ↦ record old.group { assignment = Some a } | Some b ↦ old.group ]) (sym (k.group_is.assignment_is ∙ is_none')) ∙ sym group) (record {
          tasks_is = k.group_is.tasks_is;
          generation_is = k.group_is.generation_is;
          members_is = k.group_is.members_is;
          assignment_is = refl;
          offsets_are = k.group_is.offsets_are;
          late_is = k.group_is.late_is;
          held_is = k.group_is.held_is;
          pending_is = k.group_is.pending_is;
          pending_count = k.group_is.pending_count;
        })))
    by setup s k (Some c) is_some =
        subst (λ (o : Option Assignment). IsAt setup (elim o as (λ _. State) [ None ↦ record s { assignment = Some a } | Some b ↦ s ]) (record old { group = new.group })) (sym is_some)
        (subst (λ (v : GroupView). IsAt setup s (record old { group = v }))
        (ap (λ (o : Option Assignment). elim o as (λ _. GroupView) [ None ↦ record old.group { assignment = Some a } | Some b ↦ old.group ]) (sym (k.group_is.assignment_is ∙ is_some)) ∙ sym group) k)

-- ---- expire
can_is : (setup : Setup) (s : State) (b : Broker) (w : ℕ) → IsAt setup s b → (has_number w b.group.members || is_undecided (producer_at b.txns w)) ≡ can_expire s w
can_is setup s b w k =
    ap (λ (ms : List ℕ). has_number w ms || is_undecided (producer_at b.txns w)) k.group_is.members_is
    ∙ ap (λ c. has_number w s.members || c) (ap is_undecided (producer_is setup s b w k) ∙ open_plain (s.producer w))

abbrev gone : State → ℕ → State
gone s w = record s {
  producer = with_number s.producer w (renewed (s.producer w));
  members = without_number w s.members;
  held = with_number s.held w [];
  generation = s.generation + 1;
  assignment = None;
}

pub unexpired_moves : (b : Broker) (w : ℕ) → (has_number w b.group.members || is_undecided (producer_at b.txns w)) ≡ false → Moves b b (Expire w) (Truth false)
unexpired_moves b w none = accepted_moves b b (Expire w) (Truth false)
    (λ setup s k. refl)
    (λ setup s k. ap Truth (sym (sym (can_is setup s b w k) ∙ none)))
    (λ setup s k. subst (λ (t : State). IsAt setup t b) (sym (ap (λ c. cond c (gone s w) s) (sym (can_is setup s b w k) ∙ none))) k)
    (omega arith)

pub expired_moves : (old new : Broker) (w : ℕ) → w ≤ 16 → (has_number w old.group.members || is_undecided (producer_at old.txns w)) ≡ true
    → new.txns ≡ set old.txns w (renewed (producer_at old.txns w)) → new.group ≡ resolved (expired old.group w) w false → new ≡ record old { txns = new.txns; group = new.group }
    → Moves old new (Expire w) (Truth true)
expired_moves old new w h some txns group same = subst (λ (b : Broker). Moves old b (Expire w) (Truth true)) (sym same) (accepted_moves old (record old { txns = new.txns; group = new.group }) (Expire w) (Truth true)
    (λ setup s k. refl)
    (λ setup s k. ap Truth (sym (sym (can_is setup s old w k) ∙ some)))
    (λ setup s k.
    let p : Producer = renewed (s.producer w) in
    let all : ((v : ℕ) → get_or new.txns v new_producer ≡ plain (with_number s.producer w p v)) × (length new.txns ≡ 17) =
    producers_changed setup s old new.txns w (renewed (producer_at old.txns w)) p h k txns (ap renewed (producer_is setup s old w k) ∙ renewed_plain (s.producer w)) in
    subst (λ (t : State). IsAt setup t (record old { txns = new.txns; group = new.group })) (sym (ap (λ c. cond c (gone s w) s) (sym (can_is setup s old w k) ∙ some))) (record {
      log_is = k.log_is;
      few = k.few;
      producers_are = all.0;
      count = all.1;
      group_is = subst (λ (g : GroupView). IsGroupAt setup (gone s w) g) (sym group) (record {
        tasks_is = k.group_is.tasks_is;
        generation_is = ap (λ n. n + 1) k.group_is.generation_is;
        members_is = ap (without_number w) k.group_is.members_is;
        assignment_is = refl;
        offsets_are = k.group_is.offsets_are;
        late_is = k.group_is.late_is;
        held_is = ap (held_without w) k.group_is.held_is ∙ without_from s w 0 17;
        pending_is = changed pending_at s.producer old.group.pending w p [] [] (omega (arith, k.group_is.pending_count)) k.group_is.pending_is (renewed_pending (s.producer w));
        pending_count = length-set old.group.pending w [] ∙ k.group_is.pending_count;
      });
      parked_is = k.parked_is;
    }))
    (omega arith))

-- ---- park and unpark
-- with another list of parked pairs
parked_at : (setup : Setup) (s : State) (b : Broker) (parked : ℕ → TaskId → Bool) (pairs : List (ℕ × TaskId)) → IsAt setup s b
    → ((i : ℕ) (t : TaskId) → is_parked_in i t pairs ≡ parked i t) → IsAt setup (record s { parked = parked }) (record b { parked = pairs })
parked_at setup s b parked pairs k is = record {
  log_is = k.log_is;
  few = k.few;
  producers_are = k.producers_are;
  count = k.count;
  group_is = group_stays setup s b.group _ _ _ k.group_is k.group_is.pending_is;
  parked_is = is;
}

pub parked_moves : (old new : Broker) (j : ℕ) (u : TaskId) → new ≡ record old { parked = old.parked ++ (j, u) ∷ [] } → Moves old new (Park j u) Done
parked_moves old new j u same = subst (λ (b : Broker). Moves old b (Park j u) Done) (sym same) (accepted_moves old (record old { parked = old.parked ++ (j, u) ∷ [] }) (Park j u) Done
    (λ setup s k. refl)
    (λ setup s k. refl)
    (λ setup s k. parked_at setup s old _ (old.parked ++ (j, u) ∷ []) k
    (λ i t. is_parked-more i t old.parked j u ∙ either (is_parked_in i t old.parked) ((i == j) && same_task t u) ∙ ap (λ b. cond ((i == j) && same_task t u) true b) (k.parked_is i t)))
    (omega arith))

pub unparked_moves : (old new : Broker) (j : ℕ) (u : TaskId) → is_parked_in j u old.parked ≡ true → new ≡ record old { parked = unparked_in j u old.parked } → Moves old new (Unpark j u) (Truth true)
unparked_moves old new j u there same = subst (λ (b : Broker). Moves old b (Unpark j u) (Truth true)) (sym same) (accepted_moves old (record old { parked = unparked_in j u old.parked }) (Unpark j u) (Truth true)
    (λ setup s k. refl)
    (λ setup s k. ap Truth (sym there ∙ k.parked_is j u))
    (λ setup s k. parked_at setup s old _ (unparked_in j u old.parked) k
    (λ i t. unparked i j t u old.parked ∙ ap (λ b. cond ((i == j) && same_task t u) false b) (k.parked_is i t)))
    (omega arith))

pub not_parked_moves : (b : Broker) (j : ℕ) (u : TaskId) → is_parked_in j u b.parked ≡ false → Moves b b (Unpark j u) (Truth false)
not_parked_moves b j u none = accepted_moves b b (Unpark j u) (Truth false)
    (λ setup s k. refl)
    (λ setup s k. ap Truth (sym none ∙ k.parked_is j u))
    (λ setup s k. parked_at setup s b _ b.parked k
    (λ i t. absent i j t u b.parked none ∙ ap (λ c. cond ((i == j) && same_task t u) false c) (k.parked_is i t)))
    (omega arith)

-- ---- a new broker
abbrev nothing_pending : List Pending
nothing_pending = []

pub new_at : (setup : Setup) (b : Broker) → IsNew setup.plan setup.tasks b → IsAt setup start b
new_at setup b new = record {
  log_is = λ p. ap (slots_in p) new.log;
  few = subst (λ (l : List Written). total l < 2 ^ 48) (sym new.log) (omega arith);
  producers_are = λ w. ap (λ l. get_or l w new_producer) new.producers ∙ get_or-replicate 17 w new_producer;
  count = ap length new.producers ∙ length-replicate 17 new_producer;
  group_is = subst (λ (g : GroupView). IsGroupAt setup start g) (sym new.group) (record {
    tasks_is = refl;
    generation_is = refl;
    members_is = refl;
    assignment_is = refl;
    offsets_are = refl;
    late_is = refl;
    held_is = refl;
    pending_is = λ w. get_or-replicate 17 w [];
    pending_count = length-replicate 17 nothing_pending;
  });
  parked_is = λ i t. ap (is_parked_in i t) new.parked;
}

-- ---- requests whose outcome tells whether they were refused
pub assign_step : (old new : Broker) (w g : ℕ) (a : Assignment) (r : Result Bool Refused) → Refuses (assign_fault old.group g a) r → IfOk r (λ b. b ≡ is_none old.group.assignment)
    → IfOk r (λ b. new.group ≡ assigned old.group a) → OnErr r (new.group ≡ old.group) → new ≡ record old { group = new.group } → Moves old new (Assign w g a) (truth_or r)
assign_step old new w g a (Ok truth) none is group stays same = assigned_moves old new w g a truth none is group same
assign_step old new w g a (Err refused) some is group stays same =
    subst (λ (b : Broker). Moves old b (Assign w g a) (Refuse refused)) (sym (same ∙ ap (λ v. record old { group = v }) stays)) (assign_refused old w g a refused some)

pub probe_step : (old new : Broker) (w g : ℕ) (r : Result ℕ Refused) → Refuses (generation_fault old.group.generation g) r → IfOk r (λ n. n ≡ old.group.generation + 1)
    → OnOk r (new.group ≡ next_generation old.group) → OnErr r (new.group ≡ old.group) → new ≡ record old { group = new.group } → Moves old new (Probe w g) (number_or r)
probe_step old new w g (Ok n) none is group stays same = probed_moves old new w g n none is group same
probe_step old new w g (Err refused) some is group stays same =
    subst (λ (b : Broker). Moves old b (Probe w g) (Refuse refused)) (sym (same ∙ ap (λ v. record old { group = v }) stays)) (probe_refused old w g refused some)

first_is : (ms : List Marker) (m : Marker) → Some m ≡ first_marker ms → ms ≡ m ∷ drop 1 ms
first_is [] m is = absurd (cc)
first_is (n ∷ ms) m is = ap (λ x. x ∷ ms) cc

none_is : (ms : List Marker) → None ≡ first_marker ms → ms ≡ []
none_is [] is = refl
none_is (n ∷ ms) is = absurd (cc)

pub mark_none : (b : Broker) (w : ℕ) → None ≡ first_marker (producer_at b.txns w).waiting → Moves b b (MarkNext w) (Marked None)
mark_none b w is = unmarked_moves b w (none_is (producer_at b.txns w).waiting is)

pub mark_waits : (ms : List Marker) (m : Marker) → Some m ≡ first_marker ms → 0 < length ms
mark_waits [] m is = absurd (cc)
mark_waits (n ∷ ms) m is = omega arith

pub mark_done : (old new : Broker) (w : ℕ) (m : Marker) → w ≤ 16 → Some m ≡ first_marker (producer_at old.txns w).waiting
    → new.log ≡ with_slots m.part (Mark w m.epoch m.commit ∷ []) old.log → total new.log < 2 ^ 48
    → new.txns ≡ set old.txns w (record (producer_at old.txns w) { waiting = drop 1 (producer_at old.txns w).waiting })
    → new ≡ record old { log = new.log; txns = new.txns } → Moves old new (MarkNext w) (Marked (Some (m.part, m.commit)))
mark_done old new w m h is log few txns same = marked_moves old new w m (drop 1 (producer_at old.txns w).waiting) h (first_is (producer_at old.txns w).waiting m is) log few txns same
