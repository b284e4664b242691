-- The reply of a step is one that its request can have.
use Rattle.std.proofs.Common.{◌≡◌, ℕ, zero, suc, ◌+◌, ◌==◌, ◌&&◌, Bool, true, false, not, if◌then◌else◌, List, [], ◌∷◌, length, Option, Some, None, refl, sym, subst}
use Rattle.std.specs.Prelude.{IfSome}
use Rattle.ks_record.specs.declared.record.TaskId.{TaskId}
use Rattle.ks_record.specs.declared.assignment.Marker.{Marker}
use Rattle.ks_record.specs.declared.assignment.Refused.{Refused as Refusal}
use Rattle.ks_record.specs.declared.assignment.Refused.TheVariants.{OutOfSequence, Fenced, AlreadyDecided, NoTransaction, OldGeneration, NotAssigned, Unstable, MarkersWaiting, BadAssignment}
use Rattle.ks_record.specs.declared.record.PartId.{PartId}
use Rattle.ks_history.specs.declared.journal.Request.{Request}
use Rattle.ks_history.specs.declared.journal.Request.TheVariants.{Produce, Init, Add, Append, SendOffsets, Decide, MarkNext, Join, Expire, Hold, Probe, Assign, Park, Unpark}
use Rattle.ks_history.specs.declared.journal.Reply.{Reply}
use Rattle.ks_history.specs.declared.journal.Reply.TheVariants.{Mark as Marked, Refused}
use Rattle.ks_history.specs.declared.journal.Entry.{Entry}
use Rattle.ks_history.specs.declared.transaction.Transaction.{Transaction}
use Rattle.ks_history.specs.declared.transaction.Producer.{Producer}
use Rattle.ks_history.specs.Partition.{count_sent}
use Rattle.ks_history.specs.State.{State, Setup, has_part}
use Rattle.ks_history.specs.Step.{or_else, fenced, markers_waiting, without_part, out_of_sequence, none_undecided, old_generation, owner, not_assigned, has_pending, unstable_from, unstable_beside, badly_placed, bad_assignment, refusal, answer, reply_by}
use Rattle.ks_history.specs.History.{IsStep}
use Rattle.ks_journal.specs.Replies.{kind_of, refusals_of, refusal_number, is_among, is_reply_of, HasReply}

-- a refusal of one of these numbers, or none
abbrev IsAmong : List ℕ → Option Refusal → Type 0
IsAmong numbers o = IfSome o (λ r. is_among (refusal_number r) numbers ≡ true)

either : (numbers : List ℕ) (a b : Option Refusal) → IsAmong numbers a → IsAmong numbers b → IsAmong numbers (or_else a b)
either numbers None b h k = k
either numbers (Some r) b h k = h

unless : (numbers : List ℕ) (b : Bool) (r : Refusal) → is_among (refusal_number r) numbers ≡ true → IsAmong numbers (if b then None else Some r)
unless numbers true r h = tt
unless numbers false r h = h

fenced_is : (numbers : List ℕ) (p : Producer) (e : ℕ) → is_among 2 numbers ≡ true → IsAmong numbers (fenced p e)
fenced_is numbers p e h = unless numbers (e == p.epoch) (Fenced p.epoch) h

waiting_is : (numbers : List ℕ) (p : Producer) → is_among 8 numbers ≡ true → IsAmong numbers (markers_waiting p)
waiting_is numbers p h = by_tx p.undecided
  where
    by_waiting : (ms : List Marker) → IsAmong numbers (elim ms as (λ _. Option Refusal) [ [] ↦ None | m ∷ rest ↦ Some (MarkersWaiting (length (m ∷ rest))) ])
    by_waiting [] = tt
    by_waiting (m ∷ rest) = h

    by_tx : (u : Option Transaction)
        → IsAmong numbers (elim u as (λ _. Option Refusal) [ Some tx ↦ None | None ↦ elim p.waiting as (λ _. Option Refusal) [ [] ↦ None | m ∷ rest ↦ Some (MarkersWaiting (length (m ∷ rest))) ] ])
    by_tx None = by_waiting p.waiting
    by_tx (Some tx) = tt

part_is : (numbers : List ℕ) (p : Producer) (part : PartId) → is_among 4 numbers ≡ true → IsAmong numbers (without_part p part)
part_is numbers p part h = by_tx p.undecided
  where
    by_tx : (u : Option Transaction)
        → IsAmong numbers (elim u as (λ _. Option Refusal) [ None ↦ Some NoTransaction | Some tx ↦ if has_part part tx.parts then None else Some NoTransaction ])
    by_tx None = h
    by_tx (Some tx) = unless numbers (has_part part tx.parts) NoTransaction h

undecided_is : (numbers : List ℕ) (p : Producer) → is_among 3 numbers ≡ true → is_among 4 numbers ≡ true → IsAmong numbers (none_undecided p)
undecided_is numbers p h k = by_tx p.undecided
  where
    by_last : (l : Option Bool) → IsAmong numbers (elim l as (λ _. Option Refusal) [ None ↦ Some NoTransaction | Some commit ↦ Some (AlreadyDecided commit) ])
    by_last None = k
    by_last (Some commit) = h

    by_tx : (u : Option Transaction)
        → IsAmong numbers (elim u as (λ _. Option Refusal) [ Some tx ↦ None | None ↦ elim p.last as (λ _. Option Refusal) [ None ↦ Some NoTransaction | Some commit ↦ Some (AlreadyDecided commit) ] ])
    by_tx None = by_last p.last
    by_tx (Some tx) = tt

owner_is : (numbers : List ℕ) (s : State) (w : ℕ) (t : TaskId) → is_among 6 numbers ≡ true → IsAmong numbers (not_assigned s w t)
owner_is numbers s w t h = by_owner (owner s t)
  where
    by_owner : (o : Option ℕ)
        → IsAmong numbers (elim o as (λ _. Option Refusal) [ None ↦ Some (NotAssigned None) | Some v ↦ if v == w then None else Some (NotAssigned (Some v)) ])
    by_owner None = h
    by_owner (Some v) = unless numbers (v == w) (NotAssigned (Some v)) h

unstable_is : (numbers : List ℕ) (s : State) (t : TaskId) (counts : ℕ → Bool) (v left : ℕ) → is_among 7 numbers ≡ true → IsAmong numbers (unstable_from s t counts v left)
unstable_is numbers s t counts v zero h = tt
unstable_is numbers s t counts v (suc left) h = by (counts v && has_pending (s.producer v) t) (unstable_is numbers s t counts (v + 1) left h)
  where
    by : (b : Bool) → IsAmong numbers (unstable_from s t counts (v + 1) left) → IsAmong numbers (if b then Some (Unstable v) else unstable_from s t counts (v + 1) left)
    by true k = h
    by false k = k

places_are : (numbers : List ℕ) (tasks : List TaskId) (members : List ℕ) (active : List (TaskId × ℕ)) → is_among 9 numbers ≡ true → IsAmong numbers (bad_assignment tasks members active)
places_are numbers tasks members active h = by (badly_placed tasks members active)
  where
    by : (o : Option TaskId) → IsAmong numbers (elim o as (λ _. Option Refusal) [ None ↦ None | Some t ↦ Some (BadAssignment t) ])
    by None = tt
    by (Some t) = h

generation_is : (numbers : List ℕ) (s : State) (g : ℕ) → is_among 5 numbers ≡ true → IsAmong numbers (old_generation s g)
generation_is numbers s g h = unless numbers (g == s.generation) (OldGeneration s.generation) h

abbrev append_refusals : List ℕ
append_refusals = 2 ∷ 4 ∷ 1 ∷ []

abbrev offsets_refusals : List ℕ
offsets_refusals = 2 ∷ 5 ∷ 6 ∷ 8 ∷ 7 ∷ []

add_is : (s : State) (w e : ℕ) → IsAmong (2 ∷ 8 ∷ []) (or_else (fenced (s.producer w) e) (markers_waiting (s.producer w)))
add_is s w e = either (2 ∷ 8 ∷ []) (fenced (s.producer w) e) (markers_waiting (s.producer w))
    (fenced_is (2 ∷ 8 ∷ []) (s.producer w) e refl) (waiting_is (2 ∷ 8 ∷ []) (s.producer w) refl)

append_is : (s : State) (w e n : ℕ) (p : PartId)
    → IsAmong append_refusals (or_else (fenced (s.producer w) e) (or_else (without_part (s.producer w) p) (out_of_sequence (s.partition p) w e n)))
append_is s w e n p =
    let third = out_of_sequence (s.partition p) w e n in
    either append_refusals (fenced (s.producer w) e) (or_else (without_part (s.producer w) p) third) (fenced_is append_refusals (s.producer w) e refl)
    (either append_refusals (without_part (s.producer w) p) third (part_is append_refusals (s.producer w) p refl)
    (unless append_refusals (n == count_sent w e (s.partition p)) (OutOfSequence (count_sent w e (s.partition p))) refl))

offsets_are : (s : State) (w e g : ℕ) (t : TaskId)
    → IsAmong offsets_refusals (or_else (fenced (s.producer w) e) (or_else (old_generation s g) (or_else (not_assigned s w t) (or_else (markers_waiting (s.producer w)) (unstable_beside s w t)))))
offsets_are s w e g t =
    let fifth = unstable_beside s w t in
    let fourth = or_else (markers_waiting (s.producer w)) fifth in
    let third = or_else (not_assigned s w t) fourth in
    let second = or_else (old_generation s g) third in
    either offsets_refusals (fenced (s.producer w) e) second (fenced_is offsets_refusals (s.producer w) e refl)
    (either offsets_refusals (old_generation s g) third (generation_is offsets_refusals s g refl)
    (either offsets_refusals (not_assigned s w t) fourth (owner_is offsets_refusals s w t refl)
    (either offsets_refusals (markers_waiting (s.producer w)) fifth (waiting_is offsets_refusals (s.producer w) refl)
    (unstable_is offsets_refusals s t (λ v. not (v == w)) 0 17 refl))))

decide_is : (s : State) (w e : ℕ) → IsAmong (2 ∷ 3 ∷ 4 ∷ []) (or_else (fenced (s.producer w) e) (none_undecided (s.producer w)))
decide_is s w e = either (2 ∷ 3 ∷ 4 ∷ []) (fenced (s.producer w) e) (none_undecided (s.producer w))
    (fenced_is (2 ∷ 3 ∷ 4 ∷ []) (s.producer w) e refl) (undecided_is (2 ∷ 3 ∷ 4 ∷ []) (s.producer w) refl refl)

assign_is : (s : State) (g : ℕ) (tasks : List TaskId) (active : List (TaskId × ℕ)) → IsAmong (5 ∷ 9 ∷ []) (or_else (old_generation s g) (bad_assignment tasks s.members active))
assign_is s g tasks active = either (5 ∷ 9 ∷ []) (old_generation s g) (bad_assignment tasks s.members active)
    (generation_is (5 ∷ 9 ∷ []) s g refl) (places_are (5 ∷ 9 ∷ []) tasks s.members active refl)

refusal_is : (setup : Setup) (s : State) (r : Request) → IsAmong (refusals_of r) (refusal setup s r)
refusal_is setup s (Produce p rec) = tt
refusal_is setup s (Init w) = tt
refusal_is setup s (Add w e p) = add_is s w e
refusal_is setup s (Append w e n t p recs) = append_is s w e n p
refusal_is setup s (SendOffsets w e g t offsets order late) = offsets_are s w e g t
refusal_is setup s (Decide w e commit) = decide_is s w e
refusal_is setup s (MarkNext w) = tt
refusal_is setup s (Join w) = tt
refusal_is setup s (Expire w) = tt
refusal_is setup s (Hold w held) = tt
refusal_is setup s (Probe w g) = generation_is (5 ∷ []) s g refl
refusal_is setup s (Assign w g a) = assign_is s g setup.tasks a.active
refusal_is setup s (Park instance t) = tt
refusal_is setup s (Unpark instance t) = tt

abbrev IsReplyTo : Request → Reply → Type 0
IsReplyTo r reply = is_reply_of (kind_of r) (refusals_of r) reply ≡ true

answer_is : (s : State) (r : Request) → IsReplyTo r (answer s r)
answer_is s (Produce p rec) = refl
answer_is s (Init w) = refl
answer_is s (Add w e p) = refl
answer_is s (Append w e n t p recs) = refl
answer_is s (SendOffsets w e g t offsets order late) = refl
answer_is s (Decide w e commit) = refl
answer_is s (MarkNext w) = by (s.producer w).waiting
  where
    by : (ms : List Marker) → IsReplyTo (MarkNext w) (elim ms as (λ _. Reply) [ [] ↦ Marked None | m ∷ rest ↦ Marked (Some (m.part, m.commit)) ])
    by [] = refl
    by (m ∷ rest) = refl
answer_is s (Join w) = refl
answer_is s (Expire w) = refl
answer_is s (Hold w held) = refl
answer_is s (Probe w g) = refl
answer_is s (Assign w g a) = refl
answer_is s (Park instance t) = refl
answer_is s (Unpark instance t) = refl

-- a refusal of the request is a reply to it
refused_is : (r : Request) (refused : Refusal) → is_among (refusal_number refused) (refusals_of r) ≡ true → IsReplyTo r (Refused refused)
refused_is (Produce p rec) refused h = h
refused_is (Init w) refused h = h
refused_is (Add w e p) refused h = h
refused_is (Append w e n t p recs) refused h = h
refused_is (SendOffsets w e g t offsets order late) refused h = h
refused_is (Decide w e commit) refused h = h
refused_is (MarkNext w) refused h = h
refused_is (Join w) refused h = h
refused_is (Expire w) refused h = h
refused_is (Hold w held) refused h = h
refused_is (Probe w g) refused h = h
refused_is (Assign w g a) refused h = h
refused_is (Park instance t) refused h = h
refused_is (Unpark instance t) refused h = h

reply_is : (s : State) (r : Request) (o : Option Refusal) → IsAmong (refusals_of r) o → IsReplyTo r (reply_by s r o)
reply_is s r None h = answer_is s r
reply_is s r (Some refused) h = refused_is r refused h

pub step_replies : (setup : Setup) (s : State) (e : Entry) → IsStep setup s e → HasReply e
step_replies setup s e h = subst (IsReplyTo e.request) (sym h.reply) (reply_is s e.request (refusal setup s e.request) (refusal_is setup s e.request))
