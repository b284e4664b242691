-- What each request does to a broker: the lemma of each method.
use Rattle.std.proofs.Common.{◌≡◌, ℕ, suc, ◌+◌, ◌<◌, ◌≤◌, ◌^◌, Bool, true, false, cond, List, [], ◌∷◌, length, set, get_or, length-set, Option, Some, None, Result, Ok, Err, OnOk, OnErr, refl, sym, ap, ◌∙◌, subst, arith}
use Rattle.std.specs.Prelude.{◌&&◌, ◌==◌, if◌then◌else◌, map}
use Rattle.std.proofs.lemmas.Bool.{eq-eqb, eqb-true}
use Rattle.ks_record.specs.Records.{Record as Rec}
use Rattle.ks_record.specs.declared.record.PartId.{PartId}
use Rattle.ks_record.specs.declared.record.TaskId.{TaskId}
use Rattle.ks_record.specs.declared.assignment.Refused.{Refused}
use Rattle.ks_record.specs.declared.assignment.Refused.TheVariants.{OutOfSequence, Unstable}
use Rattle.ks_record.specs.declared.assignment.Assignment.{Assignment}
use Rattle.ks_history.specs.declared.partition.Slot.{Slot}
use Rattle.ks_history.specs.declared.partition.Slot.TheVariants.{Plain}
use Rattle.ks_history.specs.declared.journal.Request.{Request}
use Rattle.ks_history.specs.declared.journal.Request.TheVariants.{Produce, Init, Add, Append, SendOffsets, Decide}
use Rattle.ks_history.specs.declared.journal.Reply.{Reply}
use Rattle.ks_history.specs.declared.journal.Reply.TheVariants.{Done, Number, Refused as Refuse}
use Rattle.ks_history.specs.declared.transaction.Pending.{Pending}
use Rattle.ks_history.specs.declared.transaction.Producer.{Producer}
use Rattle.ks_history.specs.Partition.{count_sent, sent_slots}
use Rattle.ks_history.specs.State.{State, Setup, new_producer, with_number, with_pending, committed_with}
use Rattle.ks_history.specs.Step.{or_else, fenced, markers_waiting, without_part, out_of_sequence, old_generation, not_assigned, unstable_beside, unstable_from, has_pending, refusal, answer, effect, reply_by, state_by, closed, renewed, pending_at, with_late}
use Rattle.ks_history.specs.Count.{records_by}
use Rattle.ks_log.specs.declared.log.Written.{Written}
use Rattle.ks_log.specs.Written.{slots_in, total, with_slots}
use Rattle.ks_log.specs.declared.part.OutOfSequence.{OutOfSequence as Missed}
use Rattle.ks_log.specs.Appending.{append_answer}
use Rattle.ks_log.proofs.Logs.{all_grown, total-with}
use Rattle.ks_log.proofs.Counting.{length-sent}
use Rattle.ks_txn.specs.Outcomes.{producer_at, done_by, changed_by, start_fault, has_fault, decide_fault, started, added}
use Rattle.ks_group.specs.Committed.{row_with}
use Rattle.ks_group.specs.New.{Refuses}
use Rattle.ks_group.specs.Pending.{is_pending, unstable_in, counts_for}
use Rattle.ks_group.specs.Group.{GroupView, generation_fault, owner_at, owner_fault, speak_fault, pend_fault, pended, resolved}
use Rattle.ks_cluster.specs.declared.broker.Broker.{Broker}
use Rattle.ks_cluster.specs.Replies.{done_or}
use Rattle.ks_cluster.specs.Moves.{IsGroupAt, IsAt, Moves, plain, rows_at, begin_fault, sending_fault}
use Rattle.ks_cluster.proofs.Plain.{start_plain, has_plain, decide_plain, pending_plain, markers_plain, closed_plain, renewed_plain, added_plain, appended_plain, started_plain, closed_pending, renewed_pending, added_pending, appended_pending, offset_pending, appended, offset, changed, unchanged}
use Rattle.ks_cluster.proofs.Rows.{rows_with}

-- ---- refused and accepted requests
pub refused_moves : (b : Broker) (request : Request) (r : Refused) → ((setup : Setup) (s : State) → IsAt setup s b → refusal setup s request ≡ Some r)
    → records_by request (Some r) ≡ 0 → Moves b b request (Refuse r)
refused_moves b request r is none = record {
  step = λ setup s k. (sym (ap (reply_by s request) (is setup s k)), subst (λ (t : State). IsAt setup t b) (sym (ap (state_by s request) (is setup s k))) k);
  wrote = λ setup s k. omega (arith, none, ap (records_by request) (is setup s k));
}

pub accepted_moves : (old new : Broker) (request : Request) (reply : Reply)
    → ((setup : Setup) (s : State) → IsAt setup s old → refusal setup s request ≡ None)
    → ((setup : Setup) (s : State) → IsAt setup s old → reply ≡ answer s request)
    → ((setup : Setup) (s : State) → IsAt setup s old → IsAt setup (effect s request) new)
    → total old.log + records_by request None ≤ total new.log
    → Moves old new request reply
accepted_moves old new request reply none replied goes wrote = record {
  step = λ setup s k. (replied setup s k ∙ sym (ap (reply_by s request) (none setup s k)), subst (λ (t : State). IsAt setup t new) (sym (ap (state_by s request) (none setup s k))) (goes setup s k));
  wrote = λ setup s k. omega (arith, wrote, ap (records_by request) (none setup s k));
}

-- ---- the parts of a broker
-- what is kept of a producer is what the state has
pub producer_is : (setup : Setup) (s : State) (b : Broker) (w : ℕ) → IsAt setup s b → producer_at b.txns w ≡ plain (s.producer w)
producer_is setup s b w k = k.producers_are w

-- the group stays where other parts of the state change, and producers keep what is pending
pub group_stays : (setup : Setup) (s : State) (g : GroupView) (partition : PartId → List Slot) (producer : ℕ → Producer) (parked : ℕ → TaskId → Bool) → IsGroupAt setup s g
    → ((w : ℕ) → get_or g.pending w [] ≡ pending_at (producer w)) → IsGroupAt setup (record s { partition = partition; producer = producer; parked = parked }) g
group_stays setup s g partition producer parked k pending = record {
  tasks_is = k.tasks_is;
  generation_is = k.generation_is;
  members_is = k.members_is;
  assignment_is = k.assignment_is;
  offsets_are = k.offsets_are;
  late_is = k.late_is;
  held_is = k.held_is;
  pending_is = pending;
  pending_count = k.pending_count;
}

-- with nothing pending of one producer
none_pending : (setup : Setup) (s : State) (g : GroupView) (w : ℕ) (p : Producer) (offsets : List (TaskId × List (ℕ × ℕ))) (late : ℕ) (committed : TaskId → ℕ → ℕ) {total_late : ℕ} → w ≤ 16 → IsGroupAt setup s g
    → [] ≡ pending_at p → offsets ≡ rows_at setup (record s { committed = committed }) → late ≡ total_late
    → IsGroupAt setup (record s { producer = with_number s.producer w p; committed = committed; late = total_late }) (record g { pending = set g.pending w []; offsets = offsets; late = late })
none_pending setup s g w p offsets late committed h k none rows lates = record {
  tasks_is = k.tasks_is;
  generation_is = k.generation_is;
  members_is = k.members_is;
  assignment_is = k.assignment_is;
  offsets_are = rows;
  late_is = lates;
  held_is = k.held_is;
  pending_is = changed pending_at s.producer g.pending w p [] [] (omega (arith, k.pending_count)) k.pending_is none;
  pending_count = length-set g.pending w [] ∙ k.pending_count;
}

-- ---- produce
pub produced : (old new : Broker) (p : PartId) (rec : Rec) (n : ℕ) → new.log ≡ with_slots p (Plain rec ∷ []) old.log → total new.log < 2 ^ 48
    → new ≡ record old { log = new.log } → n ≡ length (slots_in p old.log) → Moves old new (Produce p rec) (Number n)
produced old new p rec n log few same is = subst (λ (b : Broker). Moves old b (Produce p rec) (Number n)) (sym same) (accepted_moves old (record old { log = new.log }) (Produce p rec) (Number n)
    (λ setup s k. refl)
    (λ setup s k. ap Number (is ∙ ap length (k.log_is p)))
    (λ setup s k. record {
      log_is = λ q. ap (slots_in q) log ∙ all_grown s.partition old.log p (Plain rec ∷ []) k.log_is q;
      few = few;
      producers_are = k.producers_are;
      count = k.count;
      group_is = group_stays setup s old.group _ _ _ k.group_is k.group_is.pending_is;
      parked_is = k.parked_is;
    })
    (omega (arith, ap total log ∙ total-with p (Plain rec ∷ []) old.log)))

-- ---- requests that change one producer
-- the producers with one of them changed
pub producers_changed : (setup : Setup) (s : State) (b : Broker) (txns : List Producer) (w : ℕ) (q p : Producer) → w ≤ 16 → IsAt setup s b → txns ≡ set b.txns w q → q ≡ plain p
    → ((v : ℕ) → get_or txns v new_producer ≡ plain (with_number s.producer w p v)) × (length txns ≡ 17)
producers_changed setup s b txns w q p h k is made = (
  λ v. ap (λ l. get_or l v new_producer) is ∙ changed plain s.producer b.txns w p q new_producer (omega (arith, k.count)) k.producers_are made v,
  ap length is ∙ length-set b.txns w q ∙ k.count,
)

pub added_moves : (old new : Broker) (w e : ℕ) (part : PartId) → w ≤ 16 → start_fault (producer_at old.txns w) e ≡ None
    → new.txns ≡ set old.txns w (added (producer_at old.txns w) part) → new ≡ record old { txns = new.txns } → Moves old new (Add w e part) Done
added_moves old new w e part h none txns same = subst (λ (b : Broker). Moves old b (Add w e part) Done) (sym same) (accepted_moves old (record old { txns = new.txns }) (Add w e part) Done
    (λ setup s k. sym (ap (λ q. start_fault q e) (producer_is setup s old w k) ∙ start_plain (s.producer w) e) ∙ none)
    (λ setup s k. refl)
    (λ setup s k.
    let p : Producer = added (s.producer w) part in
    let all : ((v : ℕ) → get_or new.txns v new_producer ≡ plain (with_number s.producer w p v)) × (length new.txns ≡ 17) =
    producers_changed setup s old new.txns w (added (producer_at old.txns w) part) p h k txns (ap (λ q. added q part) (producer_is setup s old w k) ∙ added_plain (s.producer w) part) in
    record {
      log_is = k.log_is;
      few = k.few;
      producers_are = all.0;
      count = all.1;
      group_is = group_stays setup s old.group _ _ _ k.group_is (unchanged pending_at s.producer old.group.pending w p [] k.group_is.pending_is (added_pending (s.producer w) part));
      parked_is = k.parked_is;
    })
    (omega arith))

pub add_refused : (b : Broker) (w e : ℕ) (part : PartId) (r : Refused) → start_fault (producer_at b.txns w) e ≡ Some r → Moves b b (Add w e part) (Refuse r)
add_refused b w e part r is = refused_moves b (Add w e part) r (λ setup s k. sym (ap (λ q. start_fault q e) (producer_is setup s b w k) ∙ start_plain (s.producer w) e) ∙ is) refl

-- ---- init
pub renewed_moves : (old new : Broker) (w n : ℕ) → w ≤ 16 → n ≡ (producer_at old.txns w).epoch + 1 → new.txns ≡ set old.txns w (renewed (producer_at old.txns w)) → new.group ≡ resolved old.group w false
    → new ≡ record old { txns = new.txns; group = new.group } → Moves old new (Init w) (Number n)
renewed_moves old new w n h next txns group same = subst (λ (b : Broker). Moves old b (Init w) (Number n)) (sym same) (accepted_moves old (record old { txns = new.txns; group = new.group }) (Init w) (Number n)
    (λ setup s k. refl)
    (λ setup s k. ap Number (next ∙ ap (λ (q : Producer). q.epoch + 1) (producer_is setup s old w k)))
    (λ setup s k.
    let p : Producer = renewed (s.producer w) in
    let all : ((v : ℕ) → get_or new.txns v new_producer ≡ plain (with_number s.producer w p v)) × (length new.txns ≡ 17) =
    producers_changed setup s old new.txns w (renewed (producer_at old.txns w)) p h k txns (ap renewed (producer_is setup s old w k) ∙ renewed_plain (s.producer w)) in
    record {
      log_is = k.log_is;
      few = k.few;
      producers_are = all.0;
      count = all.1;
      group_is = subst (λ (g : GroupView). IsGroupAt setup (effect s (Init w)) g) (sym group)
          (none_pending setup s old.group w p old.group.offsets old.group.late s.committed h k.group_is (renewed_pending (s.producer w)) k.group_is.offsets_are k.group_is.late_is);
      parked_is = k.parked_is;
    })
    (omega arith))

-- ---- append
abbrev pub append_fault : Broker → ℕ → ℕ → ℕ → PartId → ℕ → Option Refused
append_fault b w e number part count = or_else (has_fault (producer_at b.txns w) e part) (if number == count then None else Some (OutOfSequence count))

or_else-assoc : (a b c : Option Refused) → or_else (or_else a b) c ≡ or_else a (or_else b c)
or_else-assoc None b c = refl
or_else-assoc (Some r) b c = refl

append_is : (setup : Setup) (s : State) (b : Broker) (w e number : ℕ) (t : TaskId) (part : PartId) (recs : List Rec) (n : ℕ) → IsAt setup s b → n ≡ count_sent w e (slots_in part b.log)
    → refusal setup s (Append w e number t part recs) ≡ append_fault b w e number part n
append_is setup s b w e number t part recs n k count =
    sym (or_else-assoc (fenced (s.producer w) e) (without_part (s.producer w) part) (out_of_sequence (s.partition part) w e number))
    ∙ ap (λ o. or_else o (out_of_sequence (s.partition part) w e number)) (sym (ap (λ q. has_fault q e part) (producer_is setup s b w k) ∙ has_plain (s.producer w) e part))
    ∙ ap (λ (m : ℕ). or_else (has_fault (producer_at b.txns w) e part) (if number == m then None else Some (OutOfSequence m))) (ap (count_sent w e) (sym (k.log_is part)) ∙ sym count)

pub append_refused : (b : Broker) (w e number : ℕ) (t : TaskId) (part : PartId) (recs : List Rec) (n : ℕ) (r : Refused) → n ≡ count_sent w e (slots_in part b.log)
    → append_fault b w e number part n ≡ Some r → Moves b b (Append w e number t part recs) (Refuse r)
append_refused b w e number t part recs n r count is = refused_moves b (Append w e number t part recs) r (λ setup s k. append_is setup s b w e number t part recs n k count ∙ is) refl

pub appended_moves : (old new : Broker) (w e number : ℕ) (t : TaskId) (part : PartId) (recs : List Rec) (n first : ℕ) → w ≤ 16
    → n ≡ count_sent w e (slots_in part old.log) → has_fault (producer_at old.txns w) e part ≡ None → number ≡ n → first ≡ length (slots_in part old.log)
    → new.log ≡ with_slots part (sent_slots w e number t recs) old.log → total new.log < 2 ^ 48
    → new ≡ record old { log = new.log } → Moves old new (Append w e number t part recs) (Number first)
appended_moves old new w e number t part recs n first h count has next first_is log few same = subst (λ (b : Broker). Moves old b (Append w e number t part recs) (Number first)) (sym same)
    (accepted_moves old (record old { log = new.log }) (Append w e number t part recs) (Number first)
    (λ setup s k. append_is setup s old w e number t part recs n k count ∙ none)
    (λ setup s k. ap Number (first_is ∙ ap length (k.log_is part)))
    (λ setup s k.
    let p : Producer = appended (s.producer w) t in
    let had : has_fault (s.producer w) e part ≡ None = sym (ap (λ q. has_fault q e part) (producer_is setup s old w k) ∙ has_plain (s.producer w) e part) ∙ has in
    record {
      log_is = λ q. ap (slots_in q) log ∙ all_grown s.partition old.log part (sent_slots w e number t recs) k.log_is q;
      few = few;
      producers_are = unchanged plain s.producer old.txns w p new_producer k.producers_are (appended_plain (s.producer w) t e part had);
      count = k.count;
      group_is = group_stays setup s old.group _ _ _ k.group_is (unchanged pending_at s.producer old.group.pending w p [] k.group_is.pending_is (appended_pending (s.producer w) t));
      parked_is = k.parked_is;
    })
    (omega (arith, ap total log ∙ total-with part (sent_slots w e number t recs) old.log ∙ ap (λ m. total old.log + m) (length-sent w e number t recs))))
  where
    none : append_fault old w e number part n ≡ None
    none = ap (λ o. or_else o (if number == n then None else Some (OutOfSequence n))) has ∙ ap (λ c. cond c None (Some (OutOfSequence n))) (eq-eqb number n next)

-- ---- send_offsets
unstable-is : (s : State) (t : TaskId) (counts : ℕ → Bool) (v : ℕ) (all : List (List Pending)) → ((i : ℕ) → i < length all → get_or all i [] ≡ pending_at (s.producer (v + i)))
    → unstable_in t counts v all ≡ unstable_from s t counts v (length all)
unstable-is s t counts v [] is = refl
unstable-is s t counts v (pending ∷ more) is =
    ap (λ b. cond (counts v && b) (Some (Unstable v)) (unstable_in t counts (v + 1) more)) (ap (is_pending t) (is 0 (omega arith) ∙ ap (λ n. pending_at (s.producer n)) (omega arith)) ∙ pending_plain (s.producer v) t)
    ∙ ap (λ o. cond (counts v && has_pending (s.producer v) t) (Some (Unstable v)) o) (unstable-is s t counts (v + 1) more (λ i h. is (suc i) (omega arith) ∙ ap (λ n. pending_at (s.producer n)) (omega arith)))

pub unstable_all : (setup : Setup) (s : State) (g : GroupView) (t : TaskId) (counts : ℕ → Bool) → IsGroupAt setup s g → unstable_in t counts 0 g.pending ≡ unstable_from s t counts 0 17
unstable_all setup s g t counts k =
    unstable-is s t counts 0 g.pending (λ i h. k.pending_is i ∙ ap (λ n. pending_at (s.producer n)) (omega arith)) ∙ ap (unstable_from s t counts 0) k.pending_count

pub speak_is : (setup : Setup) (s : State) (g : GroupView) (w generation : ℕ) (t : TaskId) → IsGroupAt setup s g → speak_fault g w generation t ≡ or_else (old_generation s generation) (not_assigned s w t)
speak_is setup s g w generation t k =
    ap (λ (n : ℕ). or_else (generation_fault n generation) (owner_fault (owner_at g.assignment g.members t) w)) k.generation_is
    ∙ ap (λ (a : Option Assignment). or_else (old_generation s generation) (owner_fault (owner_at a g.members t) w)) k.assignment_is
    ∙ ap (λ (ms : List ℕ). or_else (old_generation s generation) (owner_fault (owner_at s.assignment ms t) w)) k.members_is

sending_is : (setup : Setup) (s : State) (b : Broker) (w e g : ℕ) (t : TaskId) (offsets order : List (ℕ × ℕ)) (late : ℕ) → IsAt setup s b
    → refusal setup s (SendOffsets w e g t offsets order late) ≡ sending_fault b w e g t
sending_is setup s b w e g t offsets order late k =
    ap (or_else (fenced (s.producer w) e)) (sym (or_else-assoc (old_generation s g) (not_assigned s w t) (or_else (markers_waiting (s.producer w)) (unstable_beside s w t)))
    ∙ ap (λ o. or_else o (or_else (markers_waiting (s.producer w)) (unstable_beside s w t))) (sym (speak_is setup s b.group w g t k.group_is))
    ∙ ap (λ o. or_else (speak_fault b.group w g t) (or_else o (unstable_beside s w t))) (sym (ap markers_waiting (producer_is setup s b w k) ∙ markers_plain (s.producer w)))
    ∙ ap (λ o. or_else (speak_fault b.group w g t) (or_else (markers_waiting (producer_at b.txns w)) o)) (sym (unstable_all setup s b.group t (counts_for (Some w)) k.group_is)))
    ∙ ap (λ (q : Producer). or_else (fenced q e) (or_else (speak_fault b.group w g t) (or_else (markers_waiting (producer_at b.txns w)) (unstable_in t (counts_for (Some w)) 0 b.group.pending)))) (sym (producer_is setup s b w k))

send_refused : (b : Broker) (w e g : ℕ) (t : TaskId) (offsets order : List (ℕ × ℕ)) (late : ℕ) (r : Refused) → sending_fault b w e g t ≡ Some r → Moves b b (SendOffsets w e g t offsets order late) (Refuse r)
send_refused b w e g t offsets order late r is = refused_moves b (SendOffsets w e g t offsets order late) r (λ setup s k. sending_is setup s b w e g t offsets order late k ∙ is) refl

-- what comes before the group's refusals is the first that fits
begin_first : (f s m u : Option Refused) (r : Refused) → or_else f (elim m [ None ↦ None | Some x ↦ or_else s (Some x) ]) ≡ Some r → or_else f (or_else s (or_else m u)) ≡ Some r
begin_first None s None u r is = absurd (cc)
begin_first None s (Some x) u r is = is
begin_first (Some x) s m u r is = is

-- and where nothing comes before, the group's are left
begin_rest : (f s m u : Option Refused) → or_else f (elim m [ None ↦ None | Some x ↦ or_else s (Some x) ]) ≡ None → or_else f (or_else s (or_else m u)) ≡ or_else s u
begin_rest None s None u none = refl
begin_rest None None (Some x) u none = absurd (cc)
begin_rest None (Some y) (Some x) u none = absurd (cc)
begin_rest (Some x) s m u none = absurd (cc)

pend_is : (b : Broker) (w e g : ℕ) (t : TaskId) → None ≡ begin_fault b w e g t → sending_fault b w e g t ≡ pend_fault b.group w g t
pend_is b w e g t none =
    begin_rest (fenced (producer_at b.txns w) e) (speak_fault b.group w g t) (markers_waiting (producer_at b.txns w)) (unstable_in t (counts_for (Some w)) 0 b.group.pending) (sym none)

pub begin_refused : (b : Broker) (w e g : ℕ) (more : Pending) (r : Refused) → Some r ≡ begin_fault b w e g more.task
    → Moves b b (SendOffsets w e g more.task more.offsets more.order more.late) (Refuse r)
begin_refused b w e g more r is = send_refused b w e g more.task more.offsets more.order more.late r
    (begin_first (fenced (producer_at b.txns w) e) (speak_fault b.group w g more.task) (markers_waiting (producer_at b.txns w)) (unstable_in more.task (counts_for (Some w)) 0 b.group.pending) r (sym is))

pub pend_refused : (old new : Broker) (w e g : ℕ) (more : Pending) (told : Result (Unit {0}) Refused) (r : Refused) → told ≡ Err r → None ≡ begin_fault old w e g more.task
    → Refuses (pend_fault old.group w g more.task) told → OnErr told (new.group ≡ old.group) → new ≡ record old { group = new.group }
    → Moves old new (SendOffsets w e g more.task more.offsets more.order more.late) (Refuse r)
pend_refused old new w e g more (Ok u) r is begins stable stays same = absurd (cc)
pend_refused old new w e g more (Err refused) r is begins some stays same =
    subst (λ (b : Broker). Moves old b (SendOffsets w e g more.task more.offsets more.order more.late) (Refuse r)) (sym (same ∙ ap (λ v. record old { group = v }) stays))
    (send_refused old w e g more.task more.offsets more.order more.late r (pend_is old w e g more.task begins ∙ some ∙ cc))

offsets_moves : (old new : Broker) (w e g : ℕ) (more : Pending) → w ≤ 16 → sending_fault old w e g more.task ≡ None
    → new.txns ≡ set old.txns w (started (producer_at old.txns w)) → new.group ≡ pended old.group w more
    → new ≡ record old { txns = new.txns; group = new.group } → Moves old new (SendOffsets w e g more.task more.offsets more.order more.late) Done
offsets_moves old new w e g more h none txns group same = subst (λ (b : Broker). Moves old b (SendOffsets w e g more.task more.offsets more.order more.late) Done) (sym same)
    (accepted_moves old (record old { txns = new.txns; group = new.group }) (SendOffsets w e g more.task more.offsets more.order more.late) Done
    (λ setup s k. sending_is setup s old w e g more.task more.offsets more.order more.late k ∙ none)
    (λ setup s k. refl)
    (λ setup s k.
    let p : Producer = offset (s.producer w) more in
    let all : ((v : ℕ) → get_or new.txns v new_producer ≡ plain (with_number s.producer w p v)) × (length new.txns ≡ 17) =
    producers_changed setup s old new.txns w (started (producer_at old.txns w)) p h k txns (ap started (producer_is setup s old w k) ∙ started_plain (s.producer w) more) in
    record {
      log_is = k.log_is;
      few = k.few;
      producers_are = all.0;
      count = all.1;
      group_is = subst (λ (v : GroupView). IsGroupAt setup (record s { producer = with_number s.producer w p }) v) (sym group) (record {
        tasks_is = k.group_is.tasks_is;
        generation_is = k.group_is.generation_is;
        members_is = k.group_is.members_is;
        assignment_is = k.group_is.assignment_is;
        offsets_are = k.group_is.offsets_are;
        late_is = k.group_is.late_is;
        held_is = k.group_is.held_is;
        pending_is = changed pending_at s.producer old.group.pending w p (with_pending more (get_or old.group.pending w [])) [] (omega (arith, k.group_is.pending_count)) k.group_is.pending_is
            (ap (with_pending more) (k.group_is.pending_is w) ∙ offset_pending (s.producer w) more);
        pending_count = length-set old.group.pending w (with_pending more (get_or old.group.pending w [])) ∙ k.group_is.pending_count;
      });
      parked_is = k.parked_is;
    })
    (omega arith))

-- ---- decide
decide_is : (setup : Setup) (s : State) (b : Broker) (w e : ℕ) (commit : Bool) → IsAt setup s b → refusal setup s (Decide w e commit) ≡ decide_fault (producer_at b.txns w) e
decide_is setup s b w e commit k = sym (ap (λ q. decide_fault q e) (producer_is setup s b w k) ∙ decide_plain (s.producer w) e)

pub decide_refused : (b : Broker) (w e : ℕ) (commit : Bool) (r : Refused) → decide_fault (producer_at b.txns w) e ≡ Some r → Moves b b (Decide w e commit) (Refuse r)
decide_refused b w e commit r is = refused_moves b (Decide w e commit) r (λ setup s k. decide_is setup s b w e commit k ∙ is) refl

pub decided_moves : (old new : Broker) (w e : ℕ) (commit : Bool) → w ≤ 16 → decide_fault (producer_at old.txns w) e ≡ None
    → new.txns ≡ set old.txns w (closed (producer_at old.txns w) commit) → new.group ≡ resolved old.group w commit
    → new ≡ record old { txns = new.txns; group = new.group } → Moves old new (Decide w e commit) Done
decided_moves old new w e commit h none txns group same = subst (λ (b : Broker). Moves old b (Decide w e commit) Done) (sym same)
    (accepted_moves old (record old { txns = new.txns; group = new.group }) (Decide w e commit) Done
    (λ setup s k. decide_is setup s old w e commit k ∙ none)
    (λ setup s k. refl)
    (λ setup s k.
    let p : Producer = closed (s.producer w) commit in
    let all : ((v : ℕ) → get_or new.txns v new_producer ≡ plain (with_number s.producer w p v)) × (length new.txns ≡ 17) =
    producers_changed setup s old new.txns w (closed (producer_at old.txns w) commit) p h k txns (ap (λ q. closed q commit) (producer_is setup s old w k) ∙ closed_plain (s.producer w) commit) in
    record {
      log_is = k.log_is;
      few = k.few;
      producers_are = all.0;
      count = all.1;
      group_is = subst (λ (v : GroupView). IsGroupAt setup (effect s (Decide w e commit)) v) (sym group) (settled setup s k commit);
      parked_is = k.parked_is;
    })
    (omega arith))
  where
    settled : (setup : Setup) (s : State) → IsAt setup s old → (c : Bool) → IsGroupAt setup (effect s (Decide w e c)) (resolved old.group w c)
    settled setup s k false = none_pending setup s old.group w (closed (s.producer w) false) old.group.offsets old.group.late s.committed h k.group_is (closed_pending (s.producer w) false) k.group_is.offsets_are k.group_is.late_is
    settled setup s k true =
        let pending : get_or old.group.pending w [] ≡ pending_at (s.producer w) = k.group_is.pending_is w in
        none_pending setup s old.group w (closed (s.producer w) true) (map (row_with (get_or old.group.pending w [])) old.group.offsets) (with_late old.group.late (get_or old.group.pending w []))
        (committed_with s.committed (pending_at (s.producer w))) h k.group_is (closed_pending (s.producer w) true)
        (ap (λ l. map (row_with l) old.group.offsets) pending ∙ rows_with setup s (pending_at (s.producer w)) old.group.offsets k.group_is.offsets_are)
        (ap (λ n. with_late n (get_or old.group.pending w [])) k.group_is.late_is ∙ ap (with_late s.late) pending)

-- ---- requests whose outcome tells whether they were refused
-- without a refusal of the offsets the transaction may begin
may_start : (f s m u : Option Refused) → or_else f (or_else s (or_else m u)) ≡ None → or_else f m ≡ None
may_start None None None u none = refl
may_start None None (Some r) u none = absurd (cc)
may_start None (Some r) m u none = absurd (cc)
may_start (Some r) s m u none = absurd (cc)

pub add_step : (old new : Broker) (w e : ℕ) (part : PartId) (r : Result (Unit {0}) Refused) → w ≤ 16 → r ≡ done_by (start_fault (producer_at old.txns w) e)
    → new.txns ≡ changed_by (start_fault (producer_at old.txns w) e) old.txns w (added (producer_at old.txns w) part) → new ≡ record old { txns = new.txns } → Moves old new (Add w e part) (done_or r)
add_step old new w e part r h answers txns same = by (start_fault (producer_at old.txns w) e) refl answers txns
  where
    by : (o : Option Refused) → start_fault (producer_at old.txns w) e ≡ o → r ≡ done_by o → new.txns ≡ changed_by o old.txns w (added (producer_at old.txns w) part) → Moves old new (Add w e part) (done_or r)
    by None is told kept = subst (λ x. Moves old new (Add w e part) (done_or x)) (sym told) (added_moves old new w e part h is kept same)
    by (Some refused) is told kept = subst (λ x. Moves old new (Add w e part) (done_or x)) (sym told)
        (subst (λ (b : Broker). Moves old b (Add w e part) (Refuse refused)) (sym (same ∙ ap (λ l. record old { txns = l }) kept)) (add_refused old w e part refused is))

pub offsets_step : (old new : Broker) (w e g : ℕ) (more : Pending) (told r : Result (Unit {0}) Refused) → told ≡ Ok tt → w ≤ 16 → None ≡ begin_fault old w e g more.task
    → Refuses (pend_fault old.group w g more.task) told → OnOk told (new.group ≡ pended old.group w more) → r ≡ done_by (start_fault (producer_at old.txns w) e)
    → new.txns ≡ changed_by (start_fault (producer_at old.txns w) e) old.txns w (started (producer_at old.txns w))
    → new ≡ record old { txns = new.txns; group = new.group } → Moves old new (SendOffsets w e g more.task more.offsets more.order more.late) (done_or r)
offsets_step old new w e g more (Err refused) r is h begins some group answers txns same = absurd (cc)
offsets_step old new w e g more (Ok u) r is h begins stable group answers txns same =
    let none : sending_fault old w e g more.task ≡ None = pend_is old w e g more.task begins ∙ stable in
    let may : start_fault (producer_at old.txns w) e ≡ None = may_start (fenced (producer_at old.txns w) e) (speak_fault old.group w g more.task) (markers_waiting (producer_at old.txns w)) _ none in
    subst (λ x. Moves old new (SendOffsets w e g more.task more.offsets more.order more.late) (done_or x)) (sym (answers ∙ ap done_by may))
    (offsets_moves old new w e g more h none (txns ∙ ap (λ o. changed_by o old.txns w (started (producer_at old.txns w))) may) group same)

-- a decision: the group is settled where nothing is refused
pub decide_done : (old new : Broker) (w e : ℕ) (commit : Bool) → w ≤ 16 → Ok tt ≡ done_by (decide_fault (producer_at old.txns w) e)
    → new.txns ≡ changed_by (decide_fault (producer_at old.txns w) e) old.txns w (closed (producer_at old.txns w) commit) → new.group ≡ resolved old.group w commit
    → new ≡ record old { txns = new.txns; group = new.group } → Moves old new (Decide w e commit) Done
decide_done old new w e commit h answers txns group same = by (decide_fault (producer_at old.txns w) e) refl answers txns
  where
    by : (o : Option Refused) → decide_fault (producer_at old.txns w) e ≡ o → Ok tt ≡ done_by o → new.txns ≡ changed_by o old.txns w (closed (producer_at old.txns w) commit) → Moves old new (Decide w e commit) Done
    by None is told kept = decided_moves old new w e commit h is kept group same
    by (Some refused) is told kept = absurd (cc)

pub decide_stops : (old new : Broker) (w e : ℕ) (commit : Bool) (r : Refused) → Err r ≡ done_by (decide_fault (producer_at old.txns w) e)
    → new.txns ≡ changed_by (decide_fault (producer_at old.txns w) e) old.txns w (closed (producer_at old.txns w) commit) → new ≡ record old { txns = new.txns } → Moves old new (Decide w e commit) (Refuse r)
decide_stops old new w e commit r answers txns same = by (decide_fault (producer_at old.txns w) e) refl answers txns
  where
    by : (o : Option Refused) → decide_fault (producer_at old.txns w) e ≡ o → Err r ≡ done_by o → new.txns ≡ changed_by o old.txns w (closed (producer_at old.txns w) commit) → Moves old new (Decide w e commit) (Refuse r)
    by None is told kept = absurd (cc)
    by (Some refused) is told kept =
        subst (λ (x : Result (Unit {0}) Refused). Moves old new (Decide w e commit) (done_or x)) (sym told)
        (subst (λ (b : Broker). Moves old b (Decide w e commit) (Refuse refused)) (sym (same ∙ ap (λ l. record old { txns = l }) kept)) (decide_refused old w e commit refused is))

has_none : (o : Option Refused) → Ok tt ≡ done_by o → o ≡ None
has_none None is = refl
has_none (Some r) is = absurd (cc)

has_some : (o : Option Refused) (r : Refused) → Err r ≡ done_by o → o ≡ Some r
has_some None r is = absurd (cc)
has_some (Some q) r is = cc

-- an append whose producer may not write, one whose number is wrong, and one that is taken
pub append_barred : (b : Broker) (w e number : ℕ) (t : TaskId) (part : PartId) (recs : List Rec) (r : Refused)
    → Err r ≡ done_by (has_fault (producer_at b.txns w) e part) → Moves b b (Append w e number t part recs) (Refuse r)
append_barred b w e number t part recs r told = append_refused b w e number t part recs n r refl
    (ap (λ o. or_else o (if number == n then None else Some (OutOfSequence n))) (has_some (has_fault (producer_at b.txns w) e part) r told))
  where
    n : ℕ
    n = count_sent w e (slots_in part b.log)

-- with so many slots more where the number is the count
abbrev grown_if : Broker → ℕ → ℕ → ℕ → TaskId → PartId → List Rec → List Written
grown_if b w e number t part recs =
    if number == count_sent w e (slots_in part b.log) then with_slots part (sent_slots w e number t recs) b.log else b.log

pub append_missed : (old new : Broker) (w e number : ℕ) (t : TaskId) (part : PartId) (recs : List Rec) (missed : Missed)
    → Ok tt ≡ done_by (has_fault (producer_at old.txns w) e part) → Err missed ≡ append_answer w e number (slots_in part old.log)
    → new.log ≡ grown_if old w e number t part recs → new ≡ record old { log = new.log } → Moves old new (Append w e number t part recs) (Refuse (OutOfSequence missed.expected))
append_missed old new w e number t part recs missed told answer log same = by (number == n) refl answer log
  where
    n : ℕ
    n = count_sent w e (slots_in part old.log)

    by : (b : Bool) → (number == n) ≡ b → Err missed ≡ cond b (Ok (length (slots_in part old.log))) (Err (record { expected = n })) → new.log ≡ cond b (with_slots part (sent_slots w e number t recs) old.log) old.log
        → Moves old new (Append w e number t part recs) (Refuse (OutOfSequence missed.expected))
    by true is so log = absurd (cc)
    by false is so log =
        let it : n ≡ missed.expected = cc in
        subst (λ (b : Broker). Moves old b (Append w e number t part recs) (Refuse (OutOfSequence missed.expected))) (sym (same ∙ ap (λ l. record old { log = l }) log))
        (subst (λ m. Moves old old (Append w e number t part recs) (Refuse (OutOfSequence m))) it
        (append_refused old w e number t part recs n (OutOfSequence n) refl
        (ap (λ o. or_else o (if number == n then None else Some (OutOfSequence n))) (has_none (has_fault (producer_at old.txns w) e part) told) ∙ ap (λ c. cond c None (Some (OutOfSequence n))) is)))

pub append_done : (old new : Broker) (w e number : ℕ) (t : TaskId) (part : PartId) (recs : List Rec) (first : ℕ) → w ≤ 16
    → Ok tt ≡ done_by (has_fault (producer_at old.txns w) e part) → Ok first ≡ append_answer w e number (slots_in part old.log)
    → new.log ≡ grown_if old w e number t part recs → total new.log < 2 ^ 48 → new ≡ record old { log = new.log } → Moves old new (Append w e number t part recs) (Number first)
append_done old new w e number t part recs first h told answer log few same = by (number == n) refl answer log
  where
    n : ℕ
    n = count_sent w e (slots_in part old.log)

    by : (b : Bool) → (number == n) ≡ b → ◌≡◌ {A = Result ℕ Missed} (Ok first) (cond b (Ok (length (slots_in part old.log))) (Err (record { expected = n }))) → new.log ≡ cond b (with_slots part (sent_slots w e number t recs) old.log) old.log
        → Moves old new (Append w e number t part recs) (Number first)
    by true is so log =
        let first_is : first ≡ length (slots_in part old.log) = cc in
        appended_moves old new w e number t part recs n first h refl (has_none (has_fault (producer_at old.txns w) e part) told) (eqb-true number n is) first_is log few same
    by false is so log = absurd (cc)
