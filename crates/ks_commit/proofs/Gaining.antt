-- What each request adds to a transaction, and two additions one after another.
use Rattle.std.proofs.Common.{◌≡◌, ℕ, ◌+◌, Bool, true, false, cond, ◌&&◌, ◌||◌, List, [], ◌∷◌, ◌++◌, length, Option, Some, refl, sym, ap, ap₂, subst, ◌∙◌, arith, append-nil, append_assoc, length-append}
use Rattle.std.specs.Prelude.{◌==◌}
use Rattle.std.proofs.lemmas.Bool.{eq-eqb, true≢false}
use Rattle.ks_record.specs.Records.{Record as Rec}
use Rattle.ks_record.specs.declared.record.PartId.{PartId}
use Rattle.ks_record.specs.declared.record.TaskId.{TaskId}
use Rattle.ks_record.specs.Parts.{same_part, same_task, part_lt, task_lt}
use Rattle.ks_history.specs.declared.journal.Request.TheVariants.{Add, Append, SendOffsets}
use Rattle.ks_history.specs.declared.transaction.Pending.{Pending}
use Rattle.ks_history.specs.declared.transaction.Producer.{Producer}
use Rattle.ks_history.specs.Partition.{recs, open_from, sent_slots}
use Rattle.ks_history.specs.State.{State, with_number, insert_part, has_part, has_task, pending_of, with_pending}
use Rattle.ks_history.specs.Step.{effect, tx_of, pending_at}
use Rattle.ks_history.proofs.Names.{same_part-is, same_task-is}
use Rattle.ks_law_exactly_once.proofs.Slots.{recs-append}
use Rattle.ks_law_exactly_once.proofs.Quiet.{tx_pending}
use Rattle.ks_commit.specs.Sending.{Put, are_sent, put_for, put_count, puts_task, last_pending, Gains}
use Rattle.ks_commit.proofs.Slots.{sent_next, sent_both, slots_sent, slots_length, open_append, open_sent}

-- ---- one number
pub at_it : {A : Type 0} (f : ℕ → A) (w : ℕ) (x : A) → with_number f w x w ≡ x
at_it f w x = ap (λ b. cond b x (f w)) (eq-eqb w w refl)

pub beside_it : {A : Type 0} (f : ℕ → A) (w : ℕ) (x : A) (v : ℕ) → (v == w) ≡ false → with_number f w x v ≡ f v
beside_it f w x v h = ap (λ b. cond b x (f v)) h

-- ---- tests
pub or_assoc : (a b c : Bool) → (a || b) || c ≡ a || (b || c)
or_assoc true b c = refl
or_assoc false b c = refl

pub or_nothing : (a : Bool) → a || false ≡ a
or_nothing true = refl
or_nothing false = refl

or_again : (a b : Bool) → a || b ≡ (a || b) || (a || false)
or_again true b = refl
or_again false true = refl
or_again false false = refl

or_turned : (a b : Bool) → a || b ≡ b || (a || false)
or_turned true true = refl
or_turned true false = refl
or_turned false true = refl
or_turned false false = refl

-- ---- lists that grow
pub has_part-append : (q : PartId) (xs ys : List PartId) → has_part q (xs ++ ys) ≡ has_part q xs || has_part q ys
has_part-append q [] ys = refl
has_part-append q (x ∷ xs) ys = ap (λ b. same_part q x || b) (has_part-append q xs ys) ∙ sym (or_assoc (same_part q x) (has_part q xs) (has_part q ys))

pub puts_task-append : (t : TaskId) (xs ys : List Put) → puts_task t (xs ++ ys) ≡ puts_task t xs || puts_task t ys
puts_task-append t [] ys = refl
puts_task-append t (x ∷ xs) ys = ap (λ b. same_task t x.0 || b) (puts_task-append t xs ys) ∙ sym (or_assoc (same_task t x.0) (puts_task t xs) (puts_task t ys))

put_one : {A : Type 0} (b : Bool) (x new old more : List A) → new ≡ old ++ more → cond b (x ++ new) new ≡ cond b (x ++ old) old ++ more
put_one true x new old more e = ap (λ l. x ++ l) e ∙ sym (append_assoc x old more)
put_one false x new old more e = e

pub put_for-append : (t : TaskId) (q : PartId) (xs ys : List Put) → put_for t q (xs ++ ys) ≡ put_for t q xs ++ put_for t q ys
put_for-append t q [] ys = refl
put_for-append t q (x ∷ xs) ys = put_one (same_task t x.0 && same_part q x.1) x.2 _ _ _ (put_for-append t q xs ys)

count_one : (b : Bool) (x new old more : ℕ) → new ≡ old + more → cond b (x + new) new ≡ cond b (x + old) old + more
count_one true x new old more e = omega (arith, e)
count_one false x new old more e = e

pub put_count-append : (q : PartId) (xs ys : List Put) → put_count q (xs ++ ys) ≡ put_count q xs + put_count q ys
put_count-append q [] ys = omega arith
put_count-append q (x ∷ xs) ys = count_one (same_part q x.1) (length x.2) _ _ _ (put_count-append q xs ys)

pub last_pending-append : (t : TaskId) (xs ys : List Pending) (old : Option Pending) → last_pending t (xs ++ ys) old ≡ last_pending t ys (last_pending t xs old)
last_pending-append t [] ys old = refl
last_pending-append t (x ∷ xs) ys old = last_pending-append t xs ys (cond (same_task t x.task) (Some x) old)

pub has_part-inserted : (r q : PartId) (ps : List PartId) → has_part r (insert_part q ps) ≡ has_part r ps || has_part r (q ∷ [])
has_part-inserted r q [] = refl
has_part-inserted r q (p ∷ ps) = by (same_part q p) (part_lt q p) refl (has_part-inserted r q ps)
  where
    by : (a b : Bool) → same_part q p ≡ a → has_part r (insert_part q ps) ≡ has_part r ps || (same_part r q || false) →
        has_part r (cond a (p ∷ ps) (cond b (q ∷ p ∷ ps) (p ∷ insert_part q ps))) ≡ (same_part r p || has_part r ps) || (same_part r q || false)
    by true b is e = subst (λ k. same_part r p || has_part r ps ≡ (same_part r p || has_part r ps) || (same_part r k || false)) (sym (same_part-is q p is)) (or_again (same_part r p) (has_part r ps))
    by false true is e = or_turned (same_part r q) (same_part r p || has_part r ps)
    by false false is e = ap (λ b. same_part r p || b) e ∙ sym (or_assoc (same_part r p) (has_part r ps) (same_part r q || false))

has_task-more : (t u : TaskId) (ts : List TaskId) → has_task t (ts ++ u ∷ []) ≡ has_task t ts || (same_task t u || false)
has_task-more t u [] = refl
has_task-more t u (x ∷ xs) = ap (λ b. same_task t x || b) (has_task-more t u xs) ∙ sym (or_assoc (same_task t x) (has_task t xs) (same_task t u || false))

pub pending_of-with : (t : TaskId) (new : Pending) (ps : List Pending) → pending_of t (with_pending new ps) ≡ cond (same_task t new.task) (Some new) (pending_of t ps)
pending_of-with t new [] = refl
pending_of-with t new (p ∷ ps) = by (same_task new.task p.task) (task_lt new.task p.task) refl (pending_of-with t new ps)
  where
    hidden : (b : Bool) (x y : Pending) (o : Option Pending) → cond b (Some x) o ≡ cond b (Some x) (cond b (Some y) o)
    hidden true x y o = refl
    hidden false x y o = refl

    swapped : (a b : Bool) (x y : Pending) (o : Option Pending) → (a ≡ true → b ≡ true → ⊥) → cond a (Some x) (cond b (Some y) o) ≡ cond b (Some y) (cond a (Some x) o)
    swapped true true x y o h = absurd (h refl refl)
    swapped true false x y o h = refl
    swapped false b x y o h = refl

    apart : same_task new.task p.task ≡ false → same_task t p.task ≡ true → same_task t new.task ≡ true → ⊥
    apart is f g = true≢false (sym (subst (λ u. same_task u p.task ≡ true) (same_task-is t new.task g) f) ∙ is)

    by : (a b : Bool) → same_task new.task p.task ≡ a → pending_of t (with_pending new ps) ≡ cond (same_task t new.task) (Some new) (pending_of t ps) →
        pending_of t (cond a (new ∷ ps) (cond b (new ∷ p ∷ ps) (p ∷ with_pending new ps))) ≡ cond (same_task t new.task) (Some new) (cond (same_task t p.task) (Some p) (pending_of t ps))
    by true b is e = subst (λ u. cond (same_task t new.task) (Some new) (pending_of t ps) ≡ cond (same_task t new.task) (Some new) (cond (same_task t u) (Some p) (pending_of t ps))) (same_task-is new.task p.task is)
        (hidden (same_task t new.task) new p (pending_of t ps))
    by false true is e = refl
    by false false is e = ap (λ o. cond (same_task t p.task) (Some p) o) e ∙ swapped (same_task t p.task) (same_task t new.task) p new (pending_of t ps) (apart is)

-- ---- one addition after another
pub gains_both : (s mid new : State) (w : ℕ) (adds adds' : List PartId) (puts puts' : List Put) (ps ps' : List Pending) → Gains s mid w adds puts ps → Gains mid new w adds' puts' ps' → Gains s new w (adds ++ adds') (puts ++ puts') (ps ++ ps')
gains_both s mid new w adds adds' puts puts' ps ps' a b =
    let e = (s.producer w).epoch in
    let later : (q : PartId) → are_sent w e (b.slots q) ≡ true = λ q. subst (λ d. are_sent w d (b.slots q) ≡ true) a.epoch (b.sent q) in
    record {
      others = λ v h. b.others v h ∙ a.others v h;
      epoch = b.epoch ∙ a.epoch;
      waiting = b.waiting ∙ a.waiting;
      generation = b.generation ∙ a.generation;
      owners = λ t. b.owners t ∙ a.owners t;
      committed = b.committed ∙ a.committed;
      slots = λ q. a.slots q ++ b.slots q;
      partition = λ q. b.partition q ∙ ap (λ l. l ++ b.slots q) (a.partition q) ∙ append_assoc (s.partition q) (a.slots q) (b.slots q);
      sent = λ q. sent_both w e (a.slots q) (b.slots q) (a.sent q) (later q);
      count = λ q. length-append (a.slots q) (b.slots q) ∙ ap₂ (λ m n. m + n) (a.count q) (b.count q) ∙ sym (put_count-append q puts puts');
      records = λ t q at.
          ap recs (open_append w e t at (a.slots q) (b.slots q) (sent_next w e (b.slots q) (later q) w e))
          ∙ recs-append (open_from w e t at (a.slots q)) (open_from w e t (at + length (a.slots q)) (b.slots q))
          ∙ ap₂ (λ x y. x ++ y) (a.records t q at) (subst (λ d. recs (open_from w d t (at + length (a.slots q)) (b.slots q)) ≡ put_for t q puts') a.epoch (b.records t q (at + length (a.slots q))))
          ∙ sym (put_for-append t q puts puts');
      parts = λ q. b.parts q ∙ ap (λ x. x || has_part q adds') (a.parts q) ∙ or_assoc (has_part q (tx_of (s.producer w)).parts) (has_part q adds) (has_part q adds')
          ∙ ap (λ x. has_part q (tx_of (s.producer w)).parts || x) (sym (has_part-append q adds adds'));
      tasks = λ t. b.tasks t ∙ ap (λ x. x || puts_task t puts') (a.tasks t) ∙ or_assoc (has_task t (tx_of (s.producer w)).tasks) (puts_task t puts) (puts_task t puts')
          ∙ ap (λ x. has_task t (tx_of (s.producer w)).tasks || x) (sym (puts_task-append t puts puts'));
      pending = λ t. b.pending t ∙ ap (last_pending t ps') (a.pending t) ∙ sym (last_pending-append t ps ps' (pending_of t (pending_at (s.producer w))));
    }

pub gains_nothing : (s : State) (w : ℕ) → Gains s s w [] [] []
gains_nothing s w = record {
  others = λ v h. refl;
  epoch = refl;
  waiting = refl;
  generation = refl;
  owners = λ t. refl;
  committed = refl;
  slots = λ q. [];
  partition = λ q. sym (append-nil (s.partition q));
  sent = λ q. refl;
  count = λ q. refl;
  records = λ t q at. refl;
  parts = λ q. sym (or_nothing (has_part q (tx_of (s.producer w)).parts));
  tasks = λ t. sym (or_nothing (has_task t (tx_of (s.producer w)).tasks));
  pending = λ t. refl;
}

-- ---- the requests
pub add_gains : (s : State) (w e : ℕ) (p : PartId) → Gains s (effect s (Add w e p)) w (p ∷ []) [] []
add_gains s w e p =
    let tx = tx_of (s.producer w) in
    let x : Producer = record (s.producer w) { undecided = Some (record tx { parts = insert_part p tx.parts }) } in
    let here : with_number s.producer w x w ≡ x = at_it s.producer w x in
    record {
      others = beside_it s.producer w x;
      epoch = ap (λ (y : Producer). y.epoch) here;
      waiting = ap (λ (y : Producer). y.waiting) here;
      generation = refl;
      owners = λ t. refl;
      committed = refl;
      slots = λ q. [];
      partition = λ q. sym (append-nil (s.partition q));
      sent = λ q. refl;
      count = λ q. refl;
      records = λ t q at. refl;
      parts = λ q. ap (λ (y : Producer). has_part q (tx_of y).parts) here ∙ has_part-inserted q p tx.parts;
      tasks = λ t. ap (λ (y : Producer). has_task t (tx_of y).tasks) here ∙ sym (or_nothing (has_task t tx.tasks));
      pending = λ t. ap (λ (y : Producer). pending_of t (pending_at y)) here ∙ ap (pending_of t) (sym (tx_pending (s.producer w)));
    }

pub append_gains : (s : State) (w e number : ℕ) (t : TaskId) (p : PartId) (rs : List Rec) → e ≡ (s.producer w).epoch → Gains s (effect s (Append w e number t p rs)) w [] ((t, p, rs) ∷ []) []
append_gains s w e number t p rs is =
    let tx = tx_of (s.producer w) in
    let x : Producer = record (s.producer w) { undecided = Some (record tx { tasks = tx.tasks ++ t ∷ [] }) } in
    let here : with_number s.producer w x w ≡ x = at_it s.producer w x in
    record {
      others = beside_it s.producer w x;
      epoch = ap (λ (y : Producer). y.epoch) here;
      waiting = ap (λ (y : Producer). y.waiting) here;
      generation = refl;
      owners = λ t. refl;
      committed = refl;
      slots = λ q. cond (same_part q p) (sent_slots w e number t rs) [];
      partition = λ q. put_there q (same_part q p);
      sent = λ q. are (same_part q p);
      count = λ q. counted (same_part q p);
      records = λ u q at. opened u at (same_part q p);
      parts = λ q. ap (λ (y : Producer). has_part q (tx_of y).parts) here ∙ sym (or_nothing (has_part q tx.parts));
      tasks = λ u. ap (λ (y : Producer). has_task u (tx_of y).tasks) here ∙ has_task-more u t tx.tasks;
      pending = λ u. ap (λ (y : Producer). pending_of u (pending_at y)) here ∙ ap (pending_of u) (sym (tx_pending (s.producer w)));
    }
  where
    put_there : (q : PartId) (b : Bool) → cond b (s.partition q ++ sent_slots w e number t rs) (s.partition q) ≡ s.partition q ++ cond b (sent_slots w e number t rs) []
    put_there q true = refl
    put_there q false = sym (append-nil (s.partition q))

    are : (b : Bool) → are_sent w (s.producer w).epoch (cond b (sent_slots w e number t rs) []) ≡ true
    are true = subst (λ d. are_sent w d (sent_slots w e number t rs) ≡ true) is (slots_sent w e number t rs)
    are false = refl

    counted : (b : Bool) → length (cond b (sent_slots w e number t rs) []) ≡ cond b (length rs + 0) 0
    counted true = slots_length w e number t rs ∙ omega arith
    counted false = refl

    opened : (u : TaskId) (at : ℕ) (b : Bool) → recs (open_from w (s.producer w).epoch u at (cond b (sent_slots w e number t rs) [])) ≡ cond (same_task u t && b) (rs ++ []) []
    opened u at true =
        open_sent w (s.producer w).epoch u at w e number t rs
        ∙ ap₂ (λ a b. cond ((a && b) && same_task u t) rs []) (eq-eqb w w refl) (eq-eqb (s.producer w).epoch e (sym is))
        ∙ kept (same_task u t)
      where
        kept : (b : Bool) → cond b rs [] ≡ cond (b && true) (rs ++ []) []
        kept true = sym (append-nil rs)
        kept false = refl
    opened u at false = none (same_task u t)
      where
        none : (b : Bool) → [] ≡ cond {A = List Rec} (b && false) (rs ++ []) []
        none true = refl
        none false = refl

pub offsets_gains : (s : State) (w e g : ℕ) (t : TaskId) (offsets order : List (ℕ × ℕ)) (late : ℕ) →
    Gains s (effect s (SendOffsets w e g t offsets order late)) w [] [] (record { task = t; offsets = offsets; order = order; late = late } ∷ [])
offsets_gains s w e g t offsets order late =
    let tx = tx_of (s.producer w) in
    let new : Pending = record { task = t; offsets = offsets; order = order; late = late } in
    let x : Producer = record (s.producer w) { undecided = Some (record tx { pending = with_pending new tx.pending }) } in
    let here : with_number s.producer w x w ≡ x = at_it s.producer w x in
    record {
      others = beside_it s.producer w x;
      epoch = ap (λ (y : Producer). y.epoch) here;
      waiting = ap (λ (y : Producer). y.waiting) here;
      generation = refl;
      owners = λ t. refl;
      committed = refl;
      slots = λ q. [];
      partition = λ q. sym (append-nil (s.partition q));
      sent = λ q. refl;
      count = λ q. refl;
      records = λ t q at. refl;
      parts = λ q. ap (λ (y : Producer). has_part q (tx_of y).parts) here ∙ sym (or_nothing (has_part q tx.parts));
      tasks = λ u. ap (λ (y : Producer). has_task u (tx_of y).tasks) here ∙ sym (or_nothing (has_task u tx.tasks));
      pending = λ u. ap (λ (y : Producer). pending_of u (pending_at y)) here ∙ pending_of-with u new tx.pending
          ∙ ap (λ (l : List Pending). cond (same_task u t) (Some new) (pending_of u l)) (sym (tx_pending (s.producer w)));
    }
