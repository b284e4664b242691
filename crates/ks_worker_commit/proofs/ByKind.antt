-- Each request of a commit, by its kind.
use Rattle.std.proofs.Common.{◌≡◌, ℕ, ◌+◌, ◌&&◌, Bool, true, false, cond, List, [], ◌∷◌, ◌++◌, length, Option, Some, None, Result, Ok, Err, refl, sym, ap, subst, ◌∙◌, arith, append-nil, append_assoc}
use Rattle.std.specs.Prelude.{◌==◌, OnOk, IfOk}
use Rattle.std.proofs.lemmas.Bool.{eqb-true, eq-eqb, and_from, true≢false}
use Rattle.ks_record.specs.Records.{Record as Rec}
use Rattle.ks_record.specs.declared.record.PartId.{PartId}
use Rattle.ks_record.specs.declared.record.TaskId.{TaskId}
use Rattle.ks_record.specs.Parts.{same_part}
use Rattle.ks_record.specs.declared.assignment.Marker.{Marker}
use Rattle.ks_record.specs.declared.assignment.Refused.{Refused}
use Rattle.ks_record.specs.declared.assignment.Refused.TheVariants.{OldGeneration}
use Rattle.ks_history.specs.declared.journal.Entry.{Entry}
use Rattle.ks_history.specs.declared.journal.Request.{Request}
use Rattle.ks_history.specs.declared.journal.Request.TheVariants.{Add, Append, SendOffsets, Decide, MarkNext}
use Rattle.ks_history.specs.declared.journal.Reply.{Reply}
use Rattle.ks_history.specs.declared.journal.Reply.TheVariants.{Done, Number, Mark as Marked, Refused as Refuse}
use Rattle.ks_history.specs.declared.partition.Slot.TheVariants.{Mark}
use Rattle.ks_history.specs.Partition.{count_sent, sent_slots}
use Rattle.ks_history.specs.Machine.{TaskPlan}
use Rattle.ks_history.specs.State.{State, Setup, start, with_number, grown}
use Rattle.ks_history.specs.Step.{refusal, answer, effect, state_by, reply_by, fenced, old_generation, not_assigned, markers_waiting, unstable_beside, or_else}
use Rattle.ks_history.specs.History.{at}
use Rattle.ks_history.specs.Touched.{touched}
use Rattle.ks_history.proofs.Histories.{state_after-append}
use Rattle.ks_law_exactly_once.proofs.Refusals.{both_none}
use Rattle.ks_law_restore.specs.Views.{WorkView}
use Rattle.ks_law_commit.specs.Building.{Contents, with_part, with_records, with_pending_offsets}
use Rattle.ks_law_commit.specs.Committing.{commit_entry}
use Rattle.ks_law_commit.proofs.Stages.{sending_commits}
use Rattle.ks_commit.specs.Alone.{number_in}
use Rattle.ks_commit.specs.Numbers.{renumber}
use Rattle.ks_commit.specs.Sending.{put_count}
use Rattle.ks_commit.proofs.Slots.{sent_count, slots_sent, slots_length, count_append}
use Rattle.ks_commit.proofs.Puts.{numbers_rise}
use Rattle.ks_cluster.specs.View.{ClusterView, setup_of, state_of, AddsEntry}
use Rattle.ks_growing.specs.Passes.{PassView}
use Rattle.ks_shared.specs.declared.state.Frame.{Frame}
use Rattle.ks_shared.specs.declared.barred.Barred.{Barred}
use Rattle.ks_shared.specs.declared.barred.Barred.TheVariants.{Refused as Refusal, Touched}
use Rattle.ks_shared.specs.Calls.{setup_in, Called}
use Rattle.ks_shared.specs.Own.{IsAccepted, IsRefused, IsTouched}
use Rattle.ks_worker_commit.specs.declared.halt.Halt.{Halt}
use Rattle.ks_worker_commit.specs.declared.halt.Halt.TheVariants.{OutOfMemory, Cut, Barred as IsBarred}
use Rattle.ks_worker_client.specs.declared.halt.Halt.{Halt as TurnHalt}
use Rattle.ks_worker_client.specs.declared.halt.Halt.TheVariants.{OutOfMemory as NoMemory, Cut as CutOff}
use Rattle.ks_worker_client.specs.Calls.{Answered}
use Rattle.ks_worker_client.proofs.Called.{wrote, read_made}
use Rattle.ks_worker_commit.specs.Outcomes.{Requests, UndecidedRequests, is_fence, fence_in, halted, written, WroteMarker}
use Rattle.ks_worker_commit.specs.Ends.{NeverBarred}
use Rattle.ks_worker_commit.specs.Underway.{Memory, with_end, HasEnds, IsUnderway, Puts, Halts, Carries, HasDecided, Decides, HasAborted, HasNotAborted, WasNotAsked, Aborts, always, has_added, has_work, has_pending_work}
use Rattle.ks_worker_commit.proofs.Ended.{append_has_ends}
use Rattle.ks_worker_commit.proofs.Requesting.{Asked, history_now, carries_request, requests_request, requests_by, requests_nothing, requests_cut, undecided_nothing, undecided_cut, numbered_reached, assigned_reached, reached_history, requests_now, more_now, before_is, before_setup, is_accepted, one_of_commit, request_refused, request_touched, seen_after, or_none}

-- the answer is what the call's is to a commit
pub carried_as : {W A : Type 0} (plan : W → TaskPlan) (old new : PassView Entry (Frame W)) (w e g : ℕ) (mem next : Memory) (Ready : List WorkView → Contents → Type 0) (puts : Contents → Contents)
    (x y : Result A Halt) → x ≡ y → Carries plan old new w e g mem next Ready puts y → Carries plan old new w e g mem next Ready puts x
carried_as plan old new w e g mem next Ready puts x y is c = subst (λ r. Carries plan old new w e g mem next Ready puts r) (sym is) c

pub decided_as : {W A : Type 0} (plan : W → TaskPlan) (old new : PassView Entry (Frame W)) (w e g : ℕ) (mem next : Memory) (x y : Result A Halt) → x ≡ y → Decides plan old new w e g mem next y → Decides plan old new w e g mem next x
decided_as plan old new w e g mem next x y is c = subst (λ r. Decides plan old new w e g mem next r) (sym is) c

first_of : {A : Type 0} (P Q : Type 0) (y : Result A Halt) → OnOk y (P × Q) → OnOk y P
first_of P Q (Ok a) h = h.0
first_of P Q (Err e) h = tt

second_of : {A : Type 0} (P Q : Type 0) (y : Result A Halt) → OnOk y (P × Q) → OnOk y Q
second_of P Q (Ok a) h = h.1
second_of P Q (Err e) h = tt

pub first_as : {A : Type 0} (P Q : Type 0) (x y : Result A Halt) → x ≡ y → OnOk y (P × Q) → OnOk x P
first_as P Q x y is h = subst (λ r. OnOk r P) (sym is) (first_of P Q y h)

pub second_as : {A : Type 0} (P Q : Type 0) (x y : Result A Halt) → x ≡ y → OnOk y (P × Q) → OnOk x Q
second_as P Q x y is h = subst (λ r. OnOk r Q) (sym is) (second_of P Q y h)

-- what is put where a request is done, and what is known where it isn't
pub done_puts : {W A : Type 0} (plan : W → TaskPlan) (old new : PassView Entry (Frame W)) (w e g : ℕ) (mem next : Memory) (Ready : List WorkView → Contents → Type 0) (puts : Contents → Contents)
    (x : Result A Halt) (a : A) → x ≡ Ok a → Carries plan old new w e g mem next Ready puts x → Puts plan old new w e g mem next puts
done_puts plan old new w e g mem next Ready puts x a is c = subst (λ r. Carries plan old new w e g mem next Ready puts r) is c

err_carried : {W : Type 0} (A B : Type 0) (plan : W → TaskPlan) (old new : PassView Entry (Frame W)) (w e g : ℕ) (mem next : Memory) (Ready : List WorkView → Contents → Type 0) (puts : Contents → Contents)
    (h : Halt) → Carries {A = A} plan old new w e g mem next Ready puts (Err h) → Carries {A = B} plan old new w e g mem next Ready puts (Err h)
err_carried A B plan old new w e g mem next Ready puts OutOfMemory c = tt
err_carried A B plan old new w e g mem next Ready puts Cut c = tt
err_carried A B plan old new w e g mem next Ready puts (IsBarred b) c = c

pub err_carries : {W A : Type 0} (B : Type 0) (plan : W → TaskPlan) (old new : PassView Entry (Frame W)) (w e g : ℕ) (mem next : Memory) (Ready : List WorkView → Contents → Type 0) (puts : Contents → Contents)
    (x : Result A Halt) (h : Halt) → x ≡ Err h → Carries plan old new w e g mem next Ready puts x → Carries {A = B} plan old new w e g mem next Ready puts (Err h)
err_carries {A} B plan old new w e g mem next Ready puts x h is c = err_carried A B plan old new w e g mem next Ready puts h (subst (λ r. Carries plan old new w e g mem next Ready puts r) is c)

-- the answer of a request that was done is one
pub same_answer : {A : Type 0} (x y : Result A Halt) (a b : A) → x ≡ y → x ≡ Ok a → y ≡ Ok b → a ≡ b
same_answer x y a b is h k = cc

-- its end, by another name of the offset
pub end_as : (t : TaskId) (p : PartId) (rs : List Rec) (ends made : List (TaskId × PartId × ℕ)) (a b : ℕ) → made ≡ with_end t p a rs ends → a ≡ b → made ≡ with_end t p b rs ends
end_as t p rs ends made a b h is = h ∙ ap (λ m. with_end t p m rs ends) is

pub no_halt : {A P : Type 0} (x y : Result A Halt) (a : A) (b : Barred) → x ≡ y → x ≡ Ok a → y ≡ Err (IsBarred b) → P
no_halt x y a b is h k = absurd cc

pub no_answer : {A P : Type 0} (x y : Result A Halt) (halt : Halt) (b : A) → x ≡ y → x ≡ Err halt → y ≡ Ok b → P
no_answer x y halt b is h k = absurd cc

pub aborts_as : {W A : Type 0} (plan : W → TaskPlan) (old new : PassView Entry (Frame W)) (w e : ℕ) (mem next : Memory) (x y : Result A Halt) → x ≡ y → Aborts plan old new w e mem next y → Aborts plan old new w e mem next x
aborts_as plan old new w e mem next x y is c = subst (λ r. Aborts plan old new w e mem next r) (sym is) c

is_same : (w : ℕ) → (w == w) ≡ true
is_same w = eq-eqb w w refl

module _ {W : Type 0} (plan : W → TaskPlan) (old new : PassView Entry (Frame W)) (w e g : ℕ) (mem : Memory) (next : ℕ) where
  pub add_carries : (p : PartId) (r : Result (Result (Unit {0}) Barred) TurnHalt) → Asked plan old new w mem.last next (Add w e p) (λ u. Done) r → Carries plan old new w e g mem (record mem { last = next }) always (with_part p) (halted r)
  add_carries p r called =
      carries_request plan old new w e g mem (record mem { last = next }) always (Add w e p) (λ u. Done) (is_same w) (is_same w) refl (and_from (w == w) (e == e) (is_same w) (is_same e)) (is_same w) (λ u. refl) (λ s. refl)
      r (λ u same. record { numbers = λ s n. n; ends = λ s c is h. h }) (λ b same. (refl, refl)) (λ from first fs c refused ready u k mine place. tt) called

  pub add_requests : (p : PartId) (r : Result (Result (Unit {0}) Barred) TurnHalt) → Asked plan old new w mem.last next (Add w e p) (λ u. Done) r → Requests plan old new w
  add_requests p r called =
      requests_request plan old new w e g mem (record mem { last = next }) always (Add w e p) (λ u. Done) (is_same w) (is_same w) refl (and_from (w == w) (e == e) (is_same w) (is_same e)) (is_same w) (λ u. refl) (λ s. refl) r called

  -- ---- append
  append_counts : (s : State) (number : ℕ) (t : TaskId) (p : PartId) (rs : List Rec) (q : PartId) → count_sent w e ((effect s (Append w e number t p rs)).partition q) ≡ count_sent w e (s.partition q) + put_count q ((t, p, rs) ∷ [])
  append_counts s number t p rs q = by (same_part q p)
    where
      by : (b : Bool) → count_sent w e (cond b (s.partition q ++ sent_slots w e number t rs) (s.partition q)) ≡ count_sent w e (s.partition q) + cond b (length rs + 0) 0
      by true = omega (arith, count_append w e (s.partition q) (sent_slots w e number t rs), sent_count w e (sent_slots w e number t rs) (slots_sent w e number t rs), slots_length w e number t rs)
      by false = omega arith

  -- the answer is the end before it
  answered_end : (s : State) (number n : ℕ) (t : TaskId) (p : PartId) (rs : List Rec) → Number n ≡ reply_by s (Append w e number t p rs) None → n ≡ length (s.partition p)
  answered_end s number n t p rs is = same n (length (s.partition p)) is
    where
      same : (a b : ℕ) → Number a ≡ Number b → a ≡ b
      same a b h = cc

  module _ (number now : ℕ) (t : TaskId) (p : PartId) (rs : List Rec) (made : Memory) (is : number ≡ number_in p mem.numbers) (rises : now ≡ number + length rs) (next_is : made.last ≡ next) where
    pub append_carries : (r : Result (Result ℕ Barred) TurnHalt) → ((n : ℕ) → halted r ≡ Ok n → (made.numbers ≡ renumber p now mem.numbers) × (made.ends ≡ with_end t p n rs mem.ends)) →
        ((b : Barred) → halted r ≡ Err (IsBarred b) → (made.numbers ≡ mem.numbers) × (made.ends ≡ mem.ends)) →
        Asked plan old new w mem.last next (Append w e number t p rs) (λ n. Number n) r → Carries plan old new w e g mem made (has_added p) (with_records t p rs) (halted r)
    append_carries r goes stays called =
        carries_request plan old new w e g mem made (has_added p) (Append w e number t p rs) (λ n. Number n) (is_same w) (is_same w) refl (and_from (w == w) (e == e) (is_same w) (is_same e)) (is_same w) (λ n. refl) (λ s. refl)
        r
        (λ n same. record {
          numbers = λ s h. numbers_rise s (effect s (Append w e number t p rs)) w e p t rs number now mem.numbers made.numbers h is rises (goes n same).0 (append_counts s number t p rs);
          ends = λ s c answer has.
              subst (λ l. HasEnds (effect s (Append w e number t p rs)) w e (with_records t p rs c) l) (ap (λ m. with_end t p m rs mem.ends) (sym (answered_end s number n t p rs answer)) ∙ sym (goes n same).1) (append_has_ends s w e number t p c mem.ends has rs);
        })
        stays
        (λ from first fs c refused ready u k mine place.
        (ready, is ∙ numbered_reached plan from old new w e g first mem fs c u (λ b x. IsRefused plan b x w mem.last made.last (Append w e number t p rs) refused) k mine place p))
        (subst (λ l. Asked plan old new w mem.last l (Append w e number t p rs) (λ n. Number n) r) (sym next_is) called)

  -- the same, as another names the records
  pub append_carried : (number now : ℕ) (t : TaskId) (p : PartId) (rs others : List Rec) (made : Memory) → number ≡ number_in p mem.numbers → now ≡ number + length rs → made.last ≡ next → rs ≡ others →
      (r : Result (Result ℕ Barred) TurnHalt) → ((n : ℕ) → halted r ≡ Ok n → (made.numbers ≡ renumber p now mem.numbers) × (made.ends ≡ with_end t p n rs mem.ends)) →
      ((b : Barred) → halted r ≡ Err (IsBarred b) → (made.numbers ≡ mem.numbers) × (made.ends ≡ mem.ends)) →
      Asked plan old new w mem.last next (Append w e number t p rs) (λ n. Number n) r → Carries plan old new w e g mem made (has_added p) (with_records t p others) (halted r)
  append_carried number now t p rs others made is rises next_is same r goes stays called =
      subst (λ x. Carries plan old new w e g mem made (has_added p) (with_records t p x) (halted r)) same (append_carries number now t p rs made is rises next_is r goes stays called)

  -- it is done, and its end taken down
  pub append_done : (r : Result (Result ℕ Barred) TurnHalt) (x : Result ℕ Halt) (number now offset : ℕ) (t : TaskId) (p : PartId) (rs others : List Rec) (made : Memory) →
      Asked plan old new w mem.last next (Append w e number t p rs) (λ n. Number n) r → x ≡ halted r → x ≡ Ok offset → number ≡ number_in p mem.numbers → now ≡ number + length rs → made.last ≡ next → rs ≡ others →
      made.numbers ≡ renumber p now mem.numbers → made.ends ≡ with_end t p offset rs mem.ends → Puts plan old new w e g mem made (with_records t p others)
  append_done r x number now offset t p rs others made called told done is rises next_is same numbers ends =
      subst (λ y. Carries plan old new w e g mem made (has_added p) (with_records t p others) y) (sym told ∙ done)
      (append_carried number now t p rs others made is rises next_is same r
      (λ n k. (numbers, end_as t p rs mem.ends made.ends offset n ends (same_answer x (halted r) offset n told done k))) (λ b k. no_halt x (halted r) offset b told done k) called)

  -- it isn't done, and the producer remembers the same
  pub append_halted : (B : Type 0) (r : Result (Result ℕ Barred) TurnHalt) (x : Result ℕ Halt) (halt : Halt) (number now : ℕ) (t : TaskId) (p : PartId) (rs others : List Rec) →
      Asked plan old new w mem.last next (Append w e number t p rs) (λ n. Number n) r → x ≡ halted r → x ≡ Err halt → number ≡ number_in p mem.numbers → now ≡ number + length rs → rs ≡ others →
      Carries {A = B} plan old new w e g mem (record mem { last = next }) (has_added p) (with_records t p others) (Err halt)
  append_halted B r x halt number now t p rs others called told stops is rises same =
      err_carries B plan old new w e g mem (record mem { last = next }) (has_added p) (with_records t p others) (halted r) halt (sym told ∙ stops)
      (append_carried number now t p rs others (record mem { last = next }) is rises refl same r (λ n k. no_answer x (halted r) halt n told stops k) (λ b k. (refl, refl)) called)

  pub append_requests : (number : ℕ) (t : TaskId) (p : PartId) (rs : List Rec) (r : Result (Result ℕ Barred) TurnHalt) → Asked plan old new w mem.last next (Append w e number t p rs) (λ n. Number n) r → Requests plan old new w
  append_requests number t p rs r called =
      requests_request plan old new w e g mem (record mem { last = next }) (has_added p) (Append w e number t p rs) (λ n. Number n) (is_same w) (is_same w) refl (and_from (w == w) (e == e) (is_same w) (is_same e)) (is_same w) (λ n. refl) (λ s. refl) r called

  -- ---- offsets
  module _ (t : TaskId) (offsets order : List (ℕ × ℕ)) (late : ℕ) where
    abbrev pub sending : Request
    sending = SendOffsets w e g t offsets order late

    carried : (w == w) && ((e == e) && (g == g)) ≡ true
    carried = and_from (w == w) ((e == e) && (g == g)) (is_same w) (and_from (e == e) (g == g) (is_same e) (is_same g))

    pub offsets_carries : (r : Result (Result (Unit {0}) Barred) TurnHalt) → Asked plan old new w mem.last next sending (λ u. Done) r →
        Carries plan old new w e g mem (record mem { last = next }) (has_work t) (with_pending_offsets (record { task = t; offsets = offsets; order = order; late = late })) (halted r)
    offsets_carries r called =
        carries_request plan old new w e g mem (record mem { last = next }) (has_work t) sending (λ u. Done) (is_same w) (is_same w) refl carried (is_same w) (λ u. refl) (λ s. refl) r (λ u same. record { numbers = λ s n. n; ends = λ s c is h. h }) (λ b same. (refl, refl))
        (λ from first fs c refused ready u k mine place same. assigned_reached plan from old new w e g first mem fs c u (λ b x. IsRefused plan b x w mem.last next sending refused) k t ready mine place same)
        called

    pub offsets_requests : (r : Result (Result (Unit {0}) Barred) TurnHalt) → Asked plan old new w mem.last next sending (λ u. Done) r → Requests plan old new w
    offsets_requests r called = requests_request plan old new w e g mem (record mem { last = next }) (has_work t) sending (λ u. Done) (is_same w) (is_same w) refl carried (is_same w) (λ u. refl) (λ s. refl) r called

    -- they are accepted in the worker's generation
    in_generation : (s : State) → old_generation s g ≡ None → s.generation ≡ g
    in_generation s free = by (g == s.generation) refl free
      where
        by : (b : Bool) → (g == s.generation) ≡ b → cond b None (Some (OldGeneration s.generation)) ≡ None → s.generation ≡ g
        by true is h = sym (eqb-true g s.generation is)
        by false is h = absurd cc

    module _ (c : Called plan old new (λ b x. IsAccepted plan b x w mem.last next sending Done)) where
      pub offsets_place : touched w new.seen ≡ next
      offsets_place = ap (touched w) (seen_after plan old new (λ b x. IsAccepted plan b x w mem.last next sending Done) c) ∙ sym c.does.is

      pub offsets_generation : (at (setup_in plan old.frame) new.seen).generation ≡ g
      offsets_generation =
          let s : State = state_of plan c.before in
          let free : refusal (setup_of plan c.before) s sending ≡ None = is_accepted s sending Done (refusal (setup_of plan c.before) s sending) c.does.adds.step refl in
          let one = (both_none (fenced (s.producer w) e) (or_else (old_generation s g) (or_else (not_assigned s w t) (or_else (markers_waiting (s.producer w)) (unstable_beside s w t)))) free).1 in
          let generation : s.generation ≡ g = in_generation s (both_none (old_generation s g) (or_else (not_assigned s w t) (or_else (markers_waiting (s.producer w)) (unstable_beside s w t))) one).0 in
          let journal : new.seen ≡ c.before.journal ++ record { request = sending; reply = Done } ∷ [] =
          seen_after plan old new (λ b x. IsAccepted plan b x w mem.last next sending Done) c ∙ ap (λ (k : ClusterView W). k.journal) c.does.adds.journal in
          let there : at (setup_of plan c.before) (c.before.journal ++ record { request = sending; reply = Done } ∷ []) ≡ effect s sending =
          state_after-append (setup_of plan c.before) start c.before.journal (record { request = sending; reply = Done } ∷ []) ∙ ap (state_by s sending) free in
          ap (λ (k : Setup). (at k new.seen).generation) (ap (setup_in plan) c.frame)
          ∙ ap (λ l. (at (setup_of plan c.before) l).generation) journal
          ∙ ap (λ (k : State). k.generation) there
          ∙ generation

    pub offsets_sent : (r : Result (Result (Unit {0}) Barred) TurnHalt) → Asked plan old new w mem.last next sending (λ u. Done) r → OnOk (halted r) ((touched w new.seen ≡ next) × ((at (setup_in plan old.frame) new.seen).generation ≡ g))
    offsets_sent (Ok (Ok u)) called = (offsets_place called, offsets_generation called)
    offsets_sent (Ok (Err b)) called = tt
    offsets_sent (Err NoMemory) called = tt
    offsets_sent (Err CutOff) called = tt

  -- ---- the decision
  abbrev pub deciding : Request
  deciding = Decide w e true

  -- what the producer remembers then
  abbrev pub decided_memory : Memory
  decided_memory = record mem { last = next }

  is_decided : (k : Called plan old new (λ b y. IsAccepted plan b y w mem.last next deciding Done)) (from : PassView Entry (Frame W)) (first : ℕ) (fs : List WorkView) (c : Contents) →
      IsUnderway plan from old w e g first mem fs c → HasDecided plan from old new w e g first mem decided_memory fs c
  is_decided k from first fs c u =
      let before : List Entry = u.requests.more ++ k.others in
      let free : refusal (setup_in plan from.frame) (at (setup_in plan from.frame) (from.seen ++ before)) deciding ≡ None =
      subst (λ (s : Setup). refusal s (at s (from.seen ++ before)) deciding ≡ None) (before_setup plan from old new w e g first mem fs c u (λ b y. IsAccepted plan b y w mem.last next deciding Done) k)
      (subst (λ l. refusal (setup_of plan k.before) (at (setup_of plan k.before) l) deciding ≡ None) (before_is plan from old new w e g first mem fs c u (λ b y. IsAccepted plan b y w mem.last next deciding Done) k)
      (is_accepted (state_of plan k.before) deciding Done (refusal (setup_of plan k.before) (state_of plan k.before) deciding) k.does.adds.step refl)) in
      let place : touched w (from.seen ++ before) ≡ mem.last = ap (touched w) (sym (before_is plan from old new w e g first mem fs c u (λ b y. IsAccepted plan b y w mem.last next deciding Done) k)) ∙ k.does.was in
      record {
        requests = requests_now plan from old new w e g first mem fs c u (λ b y. IsAccepted plan b y w mem.last next deciding Done) k (commit_entry w e ∷ []) (ap (λ (y : ClusterView W). y.journal) k.does.adds.journal) (one_of_commit w (commit_entry w e) (is_same w));
        under = u;
        others = k.others;
        is = more_now plan from old new w e g first mem fs c u (λ b y. IsAccepted plan b y w mem.last next deciding Done) k (commit_entry w e ∷ []);
        history = history_now plan from old new w e g first mem fs c u (λ b y. IsAccepted plan b y w mem.last next deciding Done) k;
        place = place;
        last = k.does.is ∙ sym (ap (touched w) (seen_after plan old new (λ b y. IsAccepted plan b y w mem.last next deciding Done) k));
        numbers = refl;
        ends = refl;
        pending = λ mine t. sending_commits (setup_in plan from.frame) from.seen u.requests.more k.others w e (length u.requests.own) first mem.last c t u.worker.network
            (reached_history plan from old new w e g first mem fs c u (λ b y. IsAccepted plan b y w mem.last next deciding Done) k) (u.worker.idle mine) place free (u.sending mine);
      }

  not_done : (r : Refused) → Called plan old new (λ b x. IsRefused plan b x w mem.last next deciding r) → Halts plan old new w e g mem decided_memory has_pending_work (Refusal r)
  not_done r k from first fs c ready u =
      request_refused plan from old new w e g first mem decided_memory fs c u deciding r k (is_same w) (and_from (w == w) (e == e) (is_same w) (is_same e)) (λ s. refl) refl refl (λ mine place. ready)

  was_touched : (place : ℕ) → Called plan old new (λ b x. IsTouched b x w mem.last next place) → Halts plan old new w e g mem decided_memory has_pending_work (Touched place)
  was_touched place k from first fs c ready u = request_touched plan from old new w e g first mem decided_memory place fs c u k refl refl

  pub decide_decides : (r : Result (Result (Unit {0}) Barred) TurnHalt) → Asked plan old new w mem.last next deciding (λ u. Done) r → Decides plan old new w e g mem decided_memory (halted r)
  decide_decides (Ok (Ok u)) called = is_decided called
  decide_decides (Ok (Err (Refusal r))) called = not_done r called
  decide_decides (Ok (Err (Touched place))) called = was_touched place called
  decide_decides (Err NoMemory) called = tt
  decide_decides (Err CutOff) called = tt

  -- the abort
  abbrev pub aborting : Request
  aborting = Decide w e false

  is_aborted : Called plan old new (λ b y. IsAccepted plan b y w mem.last next aborting Done) → HasAborted plan old new w e mem decided_memory
  is_aborted k =
      let entry : Entry = record { request = aborting; reply = Done } in
      record {
        others = k.others;
        seen = seen_after plan old new (λ b y. IsAccepted plan b y w mem.last next aborting Done) k ∙ ap (λ (y : ClusterView W). y.journal) k.does.adds.journal ∙ ap (λ l. l ++ entry ∷ []) k.came ∙ append_assoc old.seen k.others (entry ∷ []);
        place = ap (touched w) (sym k.came) ∙ k.does.was;
        last = k.does.is ∙ sym (ap (touched w) (seen_after plan old new (λ b y. IsAccepted plan b y w mem.last next aborting Done) k));
        numbers = refl;
        ends = refl;
      }

  not_aborted : (r : Refused) → Called plan old new (λ b y. IsRefused plan b y w mem.last next aborting r) → HasNotAborted plan old new w e mem decided_memory r
  not_aborted r k =
      let entry : Entry = record { request = aborting; reply = Refuse r } in
      record {
        others = k.others;
        seen = seen_after plan old new (λ b y. IsRefused plan b y w mem.last next aborting r) k ∙ ap (λ (y : ClusterView W). y.journal) k.does.adds.journal ∙ ap (λ l. l ++ entry ∷ []) k.came ∙ append_assoc old.seen k.others (entry ∷ []);
        same = λ i. record mem { last = k.does.same i };
      }

  not_asked : (place : ℕ) → Called plan old new (λ b x. IsTouched b x w mem.last next place) → WasNotAsked old new w mem
  not_asked place k =
      let there : new.seen ≡ k.before.journal = seen_after plan old new (λ b x. IsTouched b x w mem.last next place) k ∙ ap (λ (y : ClusterView W). y.journal) k.does.same in
      record {
        made = read_made plan old new k k.does.same;
        place = λ same. k.does.other (k.does.at_is ∙ ap (touched w) (sym there) ∙ same);
      }

  pub abort_aborts : (r : Result (Result (Unit {0}) Barred) TurnHalt) → Asked plan old new w mem.last next aborting (λ u. Done) r → Aborts plan old new w e mem decided_memory (halted r)
  abort_aborts (Ok (Ok u)) called = is_aborted called
  abort_aborts (Ok (Err (Refusal r))) called = not_aborted r called
  abort_aborts (Ok (Err (Touched place))) called = not_asked place called
  abort_aborts (Err NoMemory) called = tt
  abort_aborts (Err CutOff) called = tt

  pub decide_requests : (commit : Bool) (r : Result (Result (Unit {0}) Barred) TurnHalt) → Asked plan old new w mem.last next (Decide w e commit) (λ u. Done) r → Requests plan old new w
  decide_requests commit (Ok (Ok u)) k =
      requests_by plan old new _ k w (record { request = Decide w e commit; reply = Done } ∷ []) (ap (λ (x : ClusterView W). x.journal) k.does.adds.journal)
      (one_of_commit w (record { request = Decide w e commit; reply = Done }) (is_same w))
  decide_requests commit (Ok (Err (Refusal r))) k =
      requests_by plan old new _ k w (record { request = Decide w e commit; reply = Refuse r } ∷ []) (ap (λ (x : ClusterView W). x.journal) k.does.adds.journal)
      (one_of_commit w (record { request = Decide w e commit; reply = Refuse r }) (is_same w))
  decide_requests commit (Ok (Err (Touched place))) k = requests_by plan old new _ k w [] (ap (λ (x : ClusterView W). x.journal) k.does.same ∙ sym (append-nil k.before.journal)) refl
  decide_requests commit (Err NoMemory) k = requests_nothing plan old new w k
  decide_requests commit (Err CutOff) k = requests_cut plan old new w k

  -- one that isn't to commit decides no commit
  pub abort_requests : (r : Result (Result (Unit {0}) Barred) TurnHalt) → Asked plan old new w mem.last next aborting (λ u. Done) r → UndecidedRequests plan old new w (fence_in (halted r))
  abort_requests (Ok (Ok u)) k = record {
    requests = requests_by plan old new _ k w (record { request = aborting; reply = Done } ∷ []) (ap (λ (x : ClusterView W). x.journal) k.does.adds.journal)
        (one_of_commit w (record { request = aborting; reply = Done }) (is_same w));
    undecided = refl;
    fence = refl;
  }
  abort_requests (Ok (Err (Refusal r))) k = record {
    requests = requests_by plan old new _ k w (record { request = aborting; reply = Refuse r } ∷ []) (ap (λ (x : ClusterView W). x.journal) k.does.adds.journal)
        (one_of_commit w (record { request = aborting; reply = Refuse r }) (is_same w));
    undecided = refl;
    fence = or_none (is_fence r);
  }
  abort_requests (Ok (Err (Touched place))) k = record {
    requests = requests_by plan old new _ k w [] (ap (λ (x : ClusterView W). x.journal) k.does.same ∙ sym (append-nil k.before.journal)) refl;
    undecided = refl;
    fence = refl;
  }
  abort_requests (Err NoMemory) k = undecided_nothing plan old new w k
  abort_requests (Err CutOff) k = undecided_cut plan old new w k

  pub abort_requests_as : (x : Result (Unit {0}) Halt) (r : Result (Result (Unit {0}) Barred) TurnHalt) → x ≡ halted r → Asked plan old new w mem.last next aborting (λ u. Done) r → UndecidedRequests plan old new w (fence_in x)
  abort_requests_as x r is called = subst (λ y. UndecidedRequests plan old new w (fence_in y)) (sym is) (abort_requests r called)

-- ---- markers
-- nothing waits where none was given
none_waits : (s : State) (w : ℕ) → Marked None ≡ answer s (MarkNext w) → (s.producer w).waiting ≡ []
none_waits s w is = by (s.producer w).waiting is
  where
    by : (ms : List Marker) → Marked None ≡ (elim ms as (λ _. Reply) [ [] ↦ Marked None | m ∷ rest ↦ Marked (Some (m.part, m.commit)) ]) → ms ≡ []
    by [] h = refl
    by (m ∷ rest) h = absurd cc

still_none : (s : State) (w : ℕ) → (s.producer w).waiting ≡ [] → ((effect s (MarkNext w)).producer w).waiting ≡ []
still_none s w none = by (s.producer w).waiting none
  where
    by : (ms : List Marker) → ms ≡ [] →
        ((elim ms as (λ _. State) [
          | [] ↦ s
          | m ∷ rest ↦ record s {
            partition = grown s.partition m.part (Mark w m.epoch m.commit ∷ []);
            producer = with_number s.producer w (record (s.producer w) { waiting = rest });
          }
        ]).producer w).waiting ≡ []
    by [] h = none
    by (m ∷ rest) h = absurd cc

none_left : {W : Type 0} (plan : W → TaskPlan) (old new : PassView Entry (Frame W)) (w : ℕ) → Called plan old new (λ b a. AddsEntry plan b a (MarkNext w) (Marked None)) → ((at (setup_in plan old.frame) new.seen).producer w).waiting ≡ []
none_left {W} plan old new w k =
    let s : State = state_of plan k.before in
    let entry : Entry = record { request = MarkNext w; reply = Marked None } in
    let journal : new.seen ≡ k.before.journal ++ entry ∷ [] = seen_after plan old new (λ b a. AddsEntry plan b a (MarkNext w) (Marked None)) k ∙ ap (λ (x : ClusterView W). x.journal) k.does.journal in
    let there : at (setup_of plan k.before) (k.before.journal ++ entry ∷ []) ≡ effect s (MarkNext w) = state_after-append (setup_of plan k.before) start k.before.journal (entry ∷ []) in
    ap (λ (x : Setup). ((at x new.seen).producer w).waiting) (ap (setup_in plan) k.frame)
    ∙ ap (λ l. ((at (setup_of plan k.before) l).producer w).waiting) journal
    ∙ ap (λ (x : State). (x.producer w).waiting) there
    ∙ still_none s w (none_waits s w k.does.step)

module _ {W : Type 0} (plan : W → TaskPlan) (old new : PassView Entry (Frame W)) (w : ℕ) where
  abbrev pub MarkerAsked : Result (Option (PartId × Bool)) TurnHalt → Type 0
  MarkerAsked r = Answered plan old new (λ m before after. AddsEntry plan before after (MarkNext w) (Marked m)) r

  pub marker_requests : (r : Result (Option (PartId × Bool)) TurnHalt) → MarkerAsked r → UndecidedRequests plan old new w false
  marker_requests (Ok m) k = record {
    requests = requests_by plan old new _ k w (record { request = MarkNext w; reply = Marked m } ∷ []) (ap (λ (x : ClusterView W). x.journal) k.does.journal)
        (one_of_commit w (record { request = MarkNext w; reply = Marked m }) (is_same w));
    undecided = refl;
    fence = refl;
  }
  marker_requests (Err NoMemory) k = undecided_nothing plan old new w k
  marker_requests (Err CutOff) k = undecided_cut plan old new w k

  waits_none : (r : Result (Option (PartId × Bool)) TurnHalt) → MarkerAsked r → IfOk (written r) (λ more. more ≡ false → ((at (setup_in plan old.frame) new.seen).producer w).waiting ≡ [])
  waits_none (Ok None) k = λ h. none_left plan old new w k
  waits_none (Ok (Some m)) k = λ h. absurd (true≢false h)
  waits_none (Err NoMemory) k = tt
  waits_none (Err CutOff) k = tt

  pub waits_as : (x : Result Bool Halt) (r : Result (Option (PartId × Bool)) TurnHalt) → x ≡ written r → MarkerAsked r → IfOk x (λ more. more ≡ false → ((at (setup_in plan old.frame) new.seen).producer w).waiting ≡ [])
  waits_as x r is k = subst (λ y. IfOk y (λ more. more ≡ false → ((at (setup_in plan old.frame) new.seen).producer w).waiting ≡ [])) (sym is) (waits_none r k)

  marker_is_written : (r : Result (Option (PartId × Bool)) TurnHalt) → MarkerAsked r → IfOk (written r) (λ more. more ≡ true → WroteMarker plan old new w)
  marker_is_written (Ok None) k = λ h. absurd (true≢false (sym h))
  marker_is_written (Ok (Some m)) k = λ h. record { marker = m; wrote = wrote plan old new k (MarkNext w) (Marked (Some m)) k.does }
  marker_is_written (Err NoMemory) k = tt
  marker_is_written (Err CutOff) k = tt

  pub wrote_as : (x : Result Bool Halt) (r : Result (Option (PartId × Bool)) TurnHalt) → x ≡ written r → MarkerAsked r → IfOk x (λ more. more ≡ true → WroteMarker plan old new w)
  wrote_as x r is k = subst (λ y. IfOk y (λ more. more ≡ true → WroteMarker plan old new w)) (sym is) (marker_is_written r k)

-- a marker's request is never barred
pub marker_never_barred : {A : Type 0} (x : Result Bool Halt) (r : Result (Option A) TurnHalt) → x ≡ written r → NeverBarred x
marker_never_barred {A} x r is = subst (λ y. NeverBarred y) (sym is) (by r)
  where
    by : (r : Result (Option A) TurnHalt) → NeverBarred (written r)
    by (Ok None) = tt
    by (Ok (Some a)) = tt
    by (Err NoMemory) = tt
    by (Err CutOff) = tt
