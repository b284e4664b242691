-- What a publisher sends, call by call.
use Rattle.std.proofs.Common.{◌≡◌, ℕ, ◌+◌, ◌≤◌, ◌<◌, Bool, true, false, cond, ◌&&◌, ◌||◌, List, [], ◌∷◌, ◌++◌, length, Option, Some, None, refl, sym, ap, ap₂, subst, ◌∙◌, arith, append-nil, append_assoc, length-append, ⊎_elim, leb}
use Rattle.std.specs.Prelude.{◌==◌, nat_le}
use Rattle.std.proofs.lemmas.Bool.{and_parts, and_from, eq-eqb, le-leb, true≢false}
use Rattle.std.proofs.lemmas.Bool.Decides.{leb_tells}
use Rattle.ks_record.specs.Records.{Record as Rec}
use Rattle.ks_record.specs.declared.record.PartId.{PartId}
use Rattle.ks_record.specs.declared.record.TaskId.{TaskId}
use Rattle.ks_record.specs.declared.assignment.Refused.{Refused}
use Rattle.ks_record.specs.Parts.{same_part}
use Rattle.ks_history.specs.declared.journal.Request.TheVariants.{Add, Append, SendOffsets}
use Rattle.ks_history.specs.declared.journal.Reply.{Reply}
use Rattle.ks_history.specs.declared.transaction.Pending.{Pending}
use Rattle.ks_history.specs.declared.transaction.Producer.{Producer}
use Rattle.ks_history.specs.Partition.{count_sent}
use Rattle.ks_history.specs.Machine.{TaskPlan, has_topic, part_of}
use Rattle.ks_history.specs.State.{State, Setup, has_part, has_task}
use Rattle.ks_history.specs.Step.{refusal, fenced, markers_waiting, without_part, out_of_sequence, old_generation, not_assigned, unstable_beside, or_else, tx_of}
use Rattle.ks_history.specs.History.{are_offsets, names_topic}
use Rattle.ks_history.specs.Reads.{end_of}
use Rattle.ks_history.proofs.Names.{same_part-is, same_part-refl}
use Rattle.ks_cluster.specs.View.{ClusterView, setup_of, state_of, AddsEntry}
use Rattle.ks_law_restore.specs.Views.{WorkView, pending_work}
use Rattle.ks_commit.specs.declared.publisher.Publisher.{Publisher}
use Rattle.ks_commit.specs.Alone.{number_in, IsNumbered}
use Rattle.ks_commit.specs.Numbers.{without, renumber}
use Rattle.ks_commit.specs.Sending.{Put, are_sent, put_count, Gains, Sends, adds_in, puts_in, adds_of, puts_of, pendings_of}
use Rattle.ks_commit.specs.declared.work.Frozen.{Frozen}
use Rattle.ks_commit.specs.Work.{work_view}
use Rattle.ks_commit.specs.Committed.{works_of, IsSending, IsOfCluster}
use Rattle.ks_commit.proofs.Turns.{works_of-append}
use Rattle.ks_commit.proofs.Slots.{sent_count, count_append, count_few}
use Rattle.ks_commit.proofs.Gaining.{add_gains, append_gains, offsets_gains}
use Rattle.ks_commit.proofs.Free.{none_then, not_fenced, none_wait, has_its_part, in_sequence, now_generation, is_assigned, stable_beside}
use Rattle.ks_commit.proofs.Entries.{later_setup, sends_one, sends_both}

-- ---- numbers
pub gains_count : (s new : State) (w : ℕ) (adds : List PartId) (puts : List Put) (ps : List Pending) → Gains s new w adds puts ps → (e : ℕ) → (s.producer w).epoch ≡ e → (q : PartId) →
    count_sent w e (new.partition q) ≡ count_sent w e (s.partition q) + put_count q puts
gains_count s new w adds puts ps g e is q =
    ap (count_sent w e) (g.partition q)
    ∙ count_append w e (s.partition q) (g.slots q)
    ∙ ap (λ n. count_sent w e (s.partition q) + n) (sent_count w e (g.slots q) (subst (λ d. are_sent w d (g.slots q) ≡ true) is (g.sent q)) ∙ g.count q)

number_without : (q p : PartId) (pairs : List (PartId × ℕ)) → same_part q p ≡ false → number_in q (without p pairs) ≡ number_in q pairs
number_without q p [] h = refl
number_without q p (pair ∷ pairs) h = by (same_part p pair.0) refl (number_without q p pairs h)
  where
    by : (b : Bool) → same_part p pair.0 ≡ b → number_in q (without p pairs) ≡ number_in q pairs →
        number_in q (cond b (without p pairs) (pair ∷ without p pairs)) ≡ cond (same_part q pair.0) pair.1 (number_in q pairs)
    by true is e = e ∙ sym (ap (λ b. cond b pair.1 (number_in q pairs)) (subst (λ k. same_part q k ≡ false) (same_part-is p pair.0 is) h))
    by false is e = ap (λ n. cond (same_part q pair.0) pair.1 n) e

-- one partition's number rises
pub numbers_rise : (s new : State) (w e : ℕ) (p : PartId) (t : TaskId) (rs : List Rec) (before now : ℕ) (pairs made : List (PartId × ℕ)) → IsNumbered s w e pairs → before ≡ number_in p pairs → now ≡ before + length rs → made ≡ renumber p now pairs
    → ((q : PartId) → count_sent w e (new.partition q) ≡ count_sent w e (s.partition q) + put_count q ((t, p, rs) ∷ [])) → IsNumbered new w e made
numbers_rise s new w e p t rs before now pairs made old is rises new_is counts q =
    ap (number_in q) new_is ∙ by (same_part q p) refl ∙ sym (counts q)
  where
    by : (b : Bool) → same_part q p ≡ b → cond b now (number_in q (without p pairs)) ≡ count_sent w e (s.partition q) + cond b (length rs + 0) 0
    by true h = omega (arith, rises, is, old p, ap (λ k. count_sent w e (s.partition k)) (same_part-is q p h))
    by false h = omega (arith, number_without q p pairs h, old q)

-- ---- a publisher that goes on
module _ {W : Type 0} (plan : W → TaskPlan) (old new : ClusterView W) (p : Publisher) (sending : IsSending (setup_of plan old) (state_of plan old) p) where
  pub sending_more : (adds : List PartId) (puts : List Put) (ps : List Pending) → Sends plan old new p.worker adds puts ps → (q : Publisher) → q.worker ≡ p.worker → q.epoch ≡ p.epoch → q.generation ≡ p.generation
      → IsNumbered (state_of plan new) p.worker p.epoch q.numbers.items → IsSending (setup_of plan new) (state_of plan new) q
  sending_more adds puts ps s q w e g numbers = record {
    worker = omega (arith, w, sending.worker);
    epoch = ap (λ k. ((state_of plan new).producer k).epoch) w ∙ s.gains.epoch ∙ sending.epoch ∙ sym e;
    waiting = ap (λ k. ((state_of plan new).producer k).waiting) w ∙ s.gains.waiting ∙ sending.waiting;
    generation = s.gains.generation ∙ sending.generation ∙ sym g;
    owns = λ t h. s.gains.owners t ∙ sending.owns t (ap (λ (setup : Setup). has_task t setup.tasks) (sym (later_setup plan old new s.more s.is)) ∙ h) ∙ ap Some (sym w);
    others = λ v h.
        let away : (v == p.worker) ≡ false = ap (λ k. v == k) (sym w) ∙ h in
        ap (λ (x : Producer). x.undecided) (s.gains.others v away) ∙ sending.others v away;
    numbers = λ r. numbers r ∙ ap₂ (λ k d. count_sent k d ((state_of plan new).partition r)) (sym w) (sym e);
  }

  -- numbers stay where nothing is put
  pub numbers_stay : (adds : List PartId) (ps : List Pending) → Sends plan old new p.worker adds [] ps → IsNumbered (state_of plan new) p.worker p.epoch p.numbers.items
  numbers_stay adds ps s q = sending.numbers q ∙ omega (arith, gains_count (state_of plan old) (state_of plan new) p.worker adds [] ps s.gains p.epoch sending.epoch q)

  pub add_free : (part : PartId) → refusal (setup_of plan old) (state_of plan old) (Add p.worker p.epoch part) ≡ None
  add_free part =
      none_then (fenced ((state_of plan old).producer p.worker) p.epoch) (markers_waiting ((state_of plan old).producer p.worker))
      (not_fenced ((state_of plan old).producer p.worker) p.epoch sending.epoch) (none_wait ((state_of plan old).producer p.worker) sending.waiting)

  pub add_sends : (part : PartId) (reply : Reply) → AddsEntry plan old new (Add p.worker p.epoch part) reply → Sends plan old new p.worker (part ∷ []) [] []
  add_sends part reply a =
      sends_one plan old new p.worker (part ∷ []) [] [] (Add p.worker p.epoch part) reply a (add_free part) (eq-eqb p.worker p.worker refl) refl (λ t. refl) (add_gains (state_of plan old) p.worker p.epoch part)

  pub offsets_free : (t : TaskId) (offsets order : List (ℕ × ℕ)) (late : ℕ) → has_task t (setup_of plan old).tasks ≡ true → refusal (setup_of plan old) (state_of plan old) (SendOffsets p.worker p.epoch p.generation t offsets order late) ≡ None
  offsets_free t offsets order late has =
      let s = state_of plan old in
      let x = s.producer p.worker in
      let last : Option Refused = unstable_beside s p.worker t in
      none_then (fenced x p.epoch) (or_else (old_generation s p.generation) (or_else (not_assigned s p.worker t) (or_else (markers_waiting x) last))) (not_fenced x p.epoch sending.epoch)
      (none_then (old_generation s p.generation) (or_else (not_assigned s p.worker t) (or_else (markers_waiting x) last)) (now_generation s p.generation sending.generation)
      (none_then (not_assigned s p.worker t) (or_else (markers_waiting x) last) (is_assigned s p.worker t (sending.owns t has))
      (none_then (markers_waiting x) last (none_wait x sending.waiting) (stable_beside s p.worker t sending.others))))

  pub offsets_sends : (t : TaskId) (offsets order : List (ℕ × ℕ)) (late : ℕ) (reply : Reply) → has_task t (setup_of plan old).tasks ≡ true → AddsEntry plan old new (SendOffsets p.worker p.epoch p.generation t offsets order late) reply
      → Sends plan old new p.worker [] [] (record { task = t; offsets = offsets; order = order; late = late } ∷ [])
  offsets_sends t offsets order late reply has a =
      sends_one plan old new p.worker [] [] (record { task = t; offsets = offsets; order = order; late = late } ∷ []) (SendOffsets p.worker p.epoch p.generation t offsets order late) reply a (offsets_free t offsets order late has)
      (eq-eqb p.worker p.worker refl) refl (λ t. refl) (offsets_gains (state_of plan old) p.worker p.epoch p.generation t offsets order late)

-- ---- records that are put
or_there : (a : Bool) → a || (true || false) ≡ true
or_there true = refl
or_there false = refl

module _ {W : Type 0} (plan : W → TaskPlan) (old mid : ClusterView W) (p : Publisher) (t : TaskId) (part : PartId) (rs : List Rec) (before : ℕ) (first : Reply) (sending : IsSending (setup_of plan old) (state_of plan old) p) (is : before ≡ number_in part p.numbers.items)
    (a : AddsEntry plan old mid (Add p.worker p.epoch part) first) where
  one : Sends plan old mid p.worker (part ∷ []) [] []
  one = add_sends plan old mid p sending part first a

  epoch_is : ((state_of plan mid).producer p.worker).epoch ≡ p.epoch
  epoch_is = one.gains.epoch ∙ sending.epoch

  there : has_part part (tx_of ((state_of plan mid).producer p.worker)).parts ≡ true
  there = one.gains.parts part ∙ ap (λ c. has_part part (tx_of ((state_of plan old).producer p.worker)).parts || (c || false)) (same_part-refl part) ∙ or_there _

  number_is : before ≡ count_sent p.worker p.epoch ((state_of plan mid).partition part)
  number_is = is ∙ sending.numbers part ∙ omega (arith, gains_count (state_of plan old) (state_of plan mid) p.worker (part ∷ []) [] [] one.gains p.epoch sending.epoch part)

  pub append_free : refusal (setup_of plan mid) (state_of plan mid) (Append p.worker p.epoch before t part rs) ≡ None
  append_free =
      let s = state_of plan mid in
      let x = s.producer p.worker in
      none_then (fenced x p.epoch) (or_else (without_part x part) (out_of_sequence (s.partition part) p.worker p.epoch before)) (not_fenced x p.epoch epoch_is)
      (none_then (without_part x part) (out_of_sequence (s.partition part) p.worker p.epoch before) (has_its_part x part there) (in_sequence (s.partition part) p.worker p.epoch before number_is))

  pub put_sends : (new : ClusterView W) (second : Reply) → AddsEntry plan mid new (Append p.worker p.epoch before t part rs) second → Sends plan old new p.worker (part ∷ []) ((t, part, rs) ∷ []) []
  put_sends new second b =
      sends_both plan old mid new p.worker (part ∷ []) [] [] ((t, part, rs) ∷ []) [] [] one
      (sends_one plan mid new p.worker [] ((t, part, rs) ∷ []) [] (Append p.worker p.epoch before t part rs) second b append_free
      (eq-eqb p.worker p.worker refl) refl (λ t. refl) (append_gains (state_of plan mid) p.worker p.epoch before t part rs (sym epoch_is)))

pub put_counts : {W : Type 0} (plan : W → TaskPlan) (old new : ClusterView W) (p : Publisher) (adds : List PartId) (puts : List Put) → IsSending (setup_of plan old) (state_of plan old) p → Sends plan old new p.worker adds puts [] → (q : PartId) →
    count_sent p.worker p.epoch ((state_of plan new).partition q) ≡ count_sent p.worker p.epoch ((state_of plan old).partition q) + put_count q puts
put_counts plan old new p adds puts sending s q = gains_count (state_of plan old) (state_of plan new) p.worker adds puts [] s.gains p.epoch sending.epoch q

pub put_fits : {W : Type 0} (plan : W → TaskPlan) (old new : ClusterView W) (p : Publisher) (t : TaskId) (part : PartId) (rs : List Rec) (before : ℕ) → IsSending (setup_of plan old) (state_of plan old) p → before ≡ number_in part p.numbers.items
    → Sends plan old new p.worker (part ∷ []) ((t, part, rs) ∷ []) [] → before + length rs ≤ end_of (state_of plan new) part
put_fits plan old new p t part rs before sending is s =
    let counts : count_sent p.worker p.epoch ((state_of plan new).partition part) ≡ count_sent p.worker p.epoch ((state_of plan old).partition part) + (length rs + 0) =
    put_counts plan old new p (part ∷ []) ((t, part, rs) ∷ []) sending s part ∙ ap (λ b. count_sent p.worker p.epoch ((state_of plan old).partition part) + cond b (length rs + 0) 0) (same_part-refl part) in
    omega (arith, is, sending.numbers part, counts, count_few p.worker p.epoch ((state_of plan new).partition part))

-- ---- one more of a list
adds_in-append : (xs ys : List (PartId × List Rec)) → adds_in (xs ++ ys) ≡ adds_in xs ++ adds_in ys
adds_in-append [] ys = refl
adds_in-append (x ∷ xs) ys = ap (λ l. x.0 ∷ l) (adds_in-append xs ys)

puts_in-append : (t : TaskId) (xs ys : List (PartId × List Rec)) → puts_in t (xs ++ ys) ≡ puts_in t xs ++ puts_in t ys
puts_in-append t [] ys = refl
puts_in-append t (x ∷ xs) ys = ap (λ l. (t, x.0, x.1) ∷ l) (puts_in-append t xs ys)

pub outs_more : {W : Type 0} (plan : W → TaskPlan) (old mid new : ClusterView W) (w : ℕ) (t : TaskId) (outs : List (PartId × List Rec)) (x : PartId × List Rec)
    → Sends plan old mid w (adds_in outs) (puts_in t outs) [] → Sends plan mid new w (x.0 ∷ []) ((t, x.0, x.1) ∷ []) [] → Sends plan old new w (adds_in (outs ++ x ∷ [])) (puts_in t (outs ++ x ∷ [])) []
outs_more plan old mid new w t outs x a b =
    subst (λ (l : List PartId). Sends plan old new w l (puts_in t (outs ++ x ∷ [])) []) (sym (adds_in-append outs (x ∷ [])))
    (subst (λ (l : List Put). Sends plan old new w (adds_in outs ++ x.0 ∷ []) l []) (sym (puts_in-append t outs (x ∷ [])))
    (sends_both plan old mid new w (adds_in outs) (x.0 ∷ []) (puts_in t outs) ((t, x.0, x.1) ∷ []) [] [] a b))

-- ---- works
adds_of-append : (xs ys : List WorkView) → adds_of (xs ++ ys) ≡ adds_of xs ++ adds_of ys
adds_of-append [] ys = refl
adds_of-append (x ∷ xs) ys = ap (λ l. adds_in x.outputs ++ l) (adds_of-append xs ys) ∙ sym (append_assoc (adds_in x.outputs) (adds_of xs) (adds_of ys))

puts_of-append : (xs ys : List WorkView) → puts_of (xs ++ ys) ≡ puts_of xs ++ puts_of ys
puts_of-append [] ys = refl
puts_of-append (x ∷ xs) ys = ap (λ l. puts_in x.task x.outputs ++ l) (puts_of-append xs ys) ∙ sym (append_assoc (puts_in x.task x.outputs) (puts_of xs) (puts_of ys))

pendings_of-append : (xs ys : List WorkView) → pendings_of (xs ++ ys) ≡ pendings_of xs ++ pendings_of ys
pendings_of-append [] ys = refl
pendings_of-append (x ∷ xs) ys = ap (λ l. pending_work x ∷ l) (pendings_of-append xs ys)

works_added : {W : Type 0} (plan : W → TaskPlan) (old mid new : ClusterView W) (w : ℕ) (fs : List WorkView) (f : WorkView)
    → Sends plan old mid w (adds_of fs) (puts_of fs) (pendings_of fs)
    → Sends plan mid new w (adds_in f.outputs) (puts_in f.task f.outputs) (pending_work f ∷ [])
    → Sends plan old new w (adds_of (fs ++ f ∷ [])) (puts_of (fs ++ f ∷ [])) (pendings_of (fs ++ f ∷ []))
works_added plan old mid new w fs f a b =
    let adds : adds_of fs ++ adds_in f.outputs ≡ adds_of (fs ++ f ∷ []) = sym (adds_of-append fs (f ∷ []) ∙ ap (λ l. adds_of fs ++ l) (append-nil (adds_in f.outputs))) in
    let puts : puts_of fs ++ puts_in f.task f.outputs ≡ puts_of (fs ++ f ∷ []) = sym (puts_of-append fs (f ∷ []) ∙ ap (λ l. puts_of fs ++ l) (append-nil (puts_in f.task f.outputs))) in
    let ps : pendings_of fs ++ pending_work f ∷ [] ≡ pendings_of (fs ++ f ∷ []) = sym (pendings_of-append fs (f ∷ [])) in
    subst (λ (l : List PartId). Sends plan old new w l (puts_of (fs ++ f ∷ [])) (pendings_of (fs ++ f ∷ []))) adds
    (subst (λ (l : List Put). Sends plan old new w (adds_of fs ++ adds_in f.outputs) l (pendings_of (fs ++ f ∷ []))) puts
    (subst (λ (l : List Pending). Sends plan old new w (adds_of fs ++ adds_in f.outputs) (puts_of fs ++ puts_in f.task f.outputs) l) ps
    (sends_both plan old mid new w (adds_of fs) (adds_in f.outputs) (puts_of fs) (puts_in f.task f.outputs) (pendings_of fs) (pending_work f ∷ []) a b)))

pub works_more : {W : Type 0} (plan : W → TaskPlan) (old mid new : ClusterView W) (w : ℕ) (fs : List Frozen) (f : Frozen)
    → Sends plan old mid w (adds_of (works_of fs)) (puts_of (works_of fs)) (pendings_of (works_of fs))
    → Sends plan mid new w (adds_in f.outputs) (puts_in f.task f.outputs) (pending_work (work_view f) ∷ [])
    → Sends plan old new w (adds_of (works_of (fs ++ f ∷ []))) (puts_of (works_of (fs ++ f ∷ []))) (pendings_of (works_of (fs ++ f ∷ [])))
works_more plan old mid new w fs f a b =
    subst (λ (ws : List WorkView). Sends plan old new w (adds_of ws) (puts_of ws) (pendings_of ws)) (sym (works_of-append fs (f ∷ []))) (works_added plan old mid new w (works_of fs) (work_view f) a b)

le_of : (a b : ℕ) → nat_le a b ≡ true → a ≤ b
le_of a b h = ⊎_elim (λ (t : (leb a b ≡ true) × (a ≤ b)). t.1) (λ (t : (leb a b ≡ false) × (b < a)). absurd (true≢false (sym h ∙ t.0))) (leb_tells a b)

offsets_later : (setup : Setup) (s new : State) (t : TaskId) (offsets : List (ℕ × ℕ)) → ((q : PartId) → length (s.partition q) ≤ length (new.partition q)) → are_offsets setup s t offsets ≡ true → are_offsets setup new t offsets ≡ true
offsets_later setup s new t [] grows h = refl
offsets_later setup s new t (pair ∷ pairs) grows h = by (names_topic pair.0 pairs) h (λ g. offsets_later setup s new t pairs grows g)
  where
    by : (b : Bool) → cond b false ((has_topic pair.0 (setup.plan.inputs t.sub) && nat_le pair.1 (length (s.partition (part_of pair.0 t)))) && are_offsets setup s t pairs) ≡ true → (are_offsets setup s t pairs ≡ true → are_offsets setup new t pairs ≡ true)
        → cond b false ((has_topic pair.0 (setup.plan.inputs t.sub) && nat_le pair.1 (length (new.partition (part_of pair.0 t)))) && are_offsets setup new t pairs) ≡ true
    by true h more = absurd (true≢false (sym h))
    by false h more =
        let both : ((has_topic pair.0 (setup.plan.inputs t.sub) && nat_le pair.1 (length (s.partition (part_of pair.0 t)))) ≡ true) × (are_offsets setup s t pairs ≡ true) =
        and_parts (has_topic pair.0 (setup.plan.inputs t.sub) && nat_le pair.1 (length (s.partition (part_of pair.0 t)))) (are_offsets setup s t pairs) h in
        let first : (has_topic pair.0 (setup.plan.inputs t.sub) ≡ true) × (nat_le pair.1 (length (s.partition (part_of pair.0 t))) ≡ true) =
        and_parts (has_topic pair.0 (setup.plan.inputs t.sub)) (nat_le pair.1 (length (s.partition (part_of pair.0 t)))) both.0 in
        and_from _ _ (and_from _ _ first.0 (le-leb pair.1 (length (new.partition (part_of pair.0 t))) (omega (arith, le_of pair.1 (length (s.partition (part_of pair.0 t))) first.1, grows (part_of pair.0 t))))) (more both.1)

gains_longer : (s new : State) (w : ℕ) (adds : List PartId) (puts : List Put) (ps : List Pending) → Gains s new w adds puts ps → (q : PartId) → length (s.partition q) ≤ length (new.partition q)
gains_longer s new w adds puts ps g q = omega (arith, ap length (g.partition q), length-append (s.partition q) (g.slots q))

pub of_cluster_later : {W : Type 0} (plan : W → TaskPlan) (old new : ClusterView W) (w : ℕ) (adds : List PartId) (puts : List Put) (ps : List Pending) (f : WorkView) → Sends plan old new w adds puts ps → IsOfCluster (setup_of plan old) (state_of plan old) f
    → IsOfCluster (setup_of plan new) (state_of plan new) f
of_cluster_later plan old new w adds puts ps f s is =
    subst (λ (setup : Setup). IsOfCluster setup (state_of plan new) f) (sym (later_setup plan old new s.more s.is)) (record {
      task = is.task;
      offsets = offsets_later (setup_of plan old) (state_of plan old) (state_of plan new) f.task f.offsets (gains_longer (state_of plan old) (state_of plan new) w adds puts ps s.gains) is.offsets;
      parts = is.parts;
    })

pub work_sends : {W : Type 0} (plan : W → TaskPlan) (old mid new : ClusterView W) (w : ℕ) (t : TaskId) (outs : List (PartId × List Rec)) (p : Pending) → Sends plan old mid w (adds_in outs) (puts_in t outs) [] → Sends plan mid new w [] [] (p ∷ [])
    → Sends plan old new w (adds_in outs) (puts_in t outs) (p ∷ [])
work_sends plan old mid new w t outs p a b =
    subst (λ (l : List PartId). Sends plan old new w l (puts_in t outs) (p ∷ [])) (append-nil (adds_in outs))
    (subst (λ (l : List Put). Sends plan old new w (adds_in outs ++ []) l (p ∷ [])) (append-nil (puts_in t outs))
    (sends_both plan old mid new w (adds_in outs) [] (puts_in t outs) [] [] (p ∷ []) a b))
