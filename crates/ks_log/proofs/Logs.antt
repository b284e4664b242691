-- The slots of a partition, in a log that grows.
use Rattle.std.specs.Prelude.{◌==◌, Result, Ok, Err, is_err}
use Rattle.std.proofs.lemmas.List.{set-get_or}
use Rattle.std.proofs.Common.{◌≡◌, ◌≢◌, ℕ, zero, suc, ◌+◌, ◌<◌, ◌≤◌, Bool, true, false, cond, List, [], ◌∷◌, ◌++◌, length, set, get_or, refl, sym, ap, ap₂, ◌∙◌, subst, arith, length-append, append-nil}
use Rattle.ks_record.specs.Records.{Record as Rec}
use Rattle.ks_record.specs.declared.record.PartId.{PartId}
use Rattle.ks_record.specs.declared.record.TaskId.{TaskId}
use Rattle.ks_record.specs.Parts.{same_part}
use Rattle.ks_history.specs.declared.partition.Slot.{Slot}
use Rattle.ks_history.specs.Partition.{count_sent, sent_slots}
use Rattle.ks_history.specs.State.{grown}
use Rattle.ks_history.proofs.Names.{same_part-is, same_part-refl}
use Rattle.ks_log.specs.declared.log.Written.{Written}
use Rattle.ks_log.specs.declared.append.Batch.{Batch}
use Rattle.ks_log.specs.declared.part.OutOfSequence.{OutOfSequence}
use Rattle.ks_log.specs.Appending.{append_answer, appended}
use Rattle.ks_log.proofs.Counting.{length-sent}
use Rattle.ks_log.specs.Places.{seat, seat_on, part_number, AreSeats}
use Rattle.ks_log.specs.Written.{slots_in, total, place, with_slots, log_appended}

split : (b : Bool) (slots more others : List Slot) → cond b (slots ++ more) others ≡ cond b slots others ++ cond b more []
split true slots more others = refl
split false slots more others = sym (append-nil others)

apart : (q p r : PartId) → same_part p r ≡ false → same_part q r ≡ true → (b : Bool) → same_part q p ≡ b → b ≡ false
apart q p r other is true e =
    let same : q ≡ r = same_part-is q r is in
    let both : true ≡ false = sym (subst (λ t. same_part p t ≡ true) (sym (same_part-is q p e) ∙ same) (same_part-refl p)) ∙ other in
    absurd (cc)
apart q p r other is false e = refl

pub slots_in-with : (q p : PartId) (more : List Slot) (log : List Written) → slots_in q (with_slots p more log) ≡ slots_in q log ++ cond (same_part q p) more []
slots_in-with q p more [] = refl
slots_in-with q p more (written ∷ log) =
    elim (same_part p written.part) as (λ b. same_part p written.part ≡ b
    → slots_in q (cond b (record { part = written.part; slots = written.slots ++ more } ∷ log) (written ∷ with_slots p more log)) ≡ cond (same_part q written.part) written.slots (slots_in q log) ++ cond (same_part q p) more []) [
      | true ↦ λ is. here is
      | false ↦ λ is. elim (same_part q written.part) as (λ b. same_part q written.part ≡ b → cond b written.slots (slots_in q (with_slots p more log)) ≡ cond b written.slots (slots_in q log) ++ cond (same_part q p) more []) [
        | true ↦ λ e. sym (ap (λ b. written.slots ++ cond b more []) (other is e) ∙ append-nil written.slots)
        | false ↦ λ e. slots_in-with q p more log
      ] refl
    ] refl
  where
    here : same_part p written.part ≡ true → cond (same_part q written.part) (written.slots ++ more) (slots_in q log) ≡ cond (same_part q written.part) written.slots (slots_in q log) ++ cond (same_part q p) more []
    here is = split (same_part q written.part) written.slots more (slots_in q log) ∙ ap (λ r. cond (same_part q written.part) written.slots (slots_in q log) ++ cond (same_part q r) more []) (sym (same_part-is p written.part is))

    other : same_part p written.part ≡ false → same_part q written.part ≡ true → same_part q p ≡ false
    other is e = apart q p written.part is e (same_part q p) refl

-- more slots at the end of one partition
pub all_grown : (partition : PartId → List Slot) (log : List Written) (p : PartId) (slots : List Slot) → ((q : PartId) → slots_in q log ≡ partition q) → (q : PartId) → slots_in q (with_slots p slots log) ≡ grown partition p slots q
all_grown partition log p slots is q =
    slots_in-with q p slots log ∙ ap (λ l. l ++ cond (same_part q p) slots []) (is q)
    ∙ elim (same_part q p) as (λ b. partition q ++ cond b slots [] ≡ cond b (partition q ++ slots) (partition q)) [ true ↦ refl | false ↦ append-nil (partition q) ]

pub total-with : (p : PartId) (more : List Slot) (log : List Written) → total (with_slots p more log) ≡ total log + length more
total-with p more [] = omega arith
total-with p more (written ∷ log) =
    let h = total-with p more log in
    let one = length-append written.slots more in
    elim (same_part p written.part) as (λ b. total (cond b (record { part = written.part; slots = written.slots ++ more } ∷ log) (written ∷ with_slots p more log)) ≡ length written.slots + total log + length more) [ true ↦ omega (arith, one) | false ↦ omega (arith, h) ]

-- a partition that stands there already, and one that doesn't
pub with_slots-there : (p : PartId) (more : List Slot) (log : List Written) (d : Written) → place p log < length log
    → with_slots p more log ≡ set log (place p log) (record { part = (get_or log (place p log) d).part; slots = (get_or log (place p log) d).slots ++ more })
with_slots-there p more [] d h = absurd (omega arith)
with_slots-there p more (written ∷ log) d h =
    elim (same_part p written.part) as (λ b. cond b 0 (suc (place p log)) < suc (length log) → cond b (record { part = written.part; slots = written.slots ++ more } ∷ log) (written ∷ with_slots p more log)
    ≡ set (written ∷ log) (cond b 0 (suc (place p log))) (record { part = (get_or (written ∷ log) (cond b 0 (suc (place p log))) d).part; slots = (get_or (written ∷ log) (cond b 0 (suc (place p log))) d).slots ++ more })) [
      | true ↦ λ h. refl
      | false ↦ λ h. ap (λ l. written ∷ l) (with_slots-there p more log d (omega (arith, h)))
    ] h

pub with_slots-new : (p : PartId) (more : List Slot) (log : List Written) → length log ≤ place p log → with_slots p more log ≡ log ++ record { part = p; slots = more } ∷ []
with_slots-new p more [] h = refl
with_slots-new p more (written ∷ log) h =
    elim (same_part p written.part) as (λ b. suc (length log) ≤ cond b 0 (suc (place p log)) → cond b (record { part = written.part; slots = written.slots ++ more } ∷ log) (written ∷ with_slots p more log)
    ≡ written ∷ log ++ record { part = p; slots = more } ∷ []) [
      | true ↦ λ h. absurd (omega (arith, h))
      | false ↦ λ h. ap (λ l. written ∷ l) (with_slots-new p more log (omega (arith, h)))
    ] h

-- the slots of a partition that stands there, and of one that doesn't
pub slots_in-there : (p : PartId) (log : List Written) (d : Written) → place p log < length log → slots_in p log ≡ (get_or log (place p log) d).slots
slots_in-there p [] d h = absurd (omega arith)
slots_in-there p (written ∷ log) d h =
    elim (same_part p written.part) as (λ b. cond b 0 (suc (place p log)) < suc (length log) → cond b written.slots (slots_in p log) ≡ (get_or (written ∷ log) (cond b 0 (suc (place p log))) d).slots) [
      | true ↦ λ h. refl
      | false ↦ λ h. slots_in-there p log d (omega (arith, h))
    ] h

pub slots_in-new : (p : PartId) (log : List Written) → length log ≤ place p log → slots_in p log ≡ []
slots_in-new p [] h = refl
slots_in-new p (written ∷ log) h =
    elim (same_part p written.part) as (λ b. suc (length log) ≤ cond b 0 (suc (place p log)) → cond b written.slots (slots_in p log) ≡ []) [
      | true ↦ λ h. absurd (omega (arith, h))
      | false ↦ λ h. slots_in-new p log (omega (arith, h))
    ] h

-- ---- where partitions stand
seat-more : (q p : PartId) (more : List Slot) (log : List Written) → seat q (with_slots p more log) ≡ cond (same_part q p) (suc (place p log)) (seat q log)
seat-more q p more [] = refl
seat-more q p more (written ∷ log) =
    elim (same_part p written.part) as (λ b. same_part p written.part ≡ b
    → seat q (cond b (record { part = written.part; slots = written.slots ++ more } ∷ log) (written ∷ with_slots p more log))
    ≡ cond (same_part q p) (suc (cond b 0 (suc (place p log)))) (cond (same_part q written.part) 1 (seat_on (seat q log)))) [
      | true ↦ λ is. twice (same_part q written.part) (seat_on (seat q log)) ∙ ap (λ r. cond (same_part q r) 1 (cond (same_part q written.part) 1 (seat_on (seat q log)))) (sym (same_part-is p written.part is))
      | false ↦ λ is. elim (same_part q written.part) as (λ b. same_part q written.part ≡ b → cond b 1 (seat_on (seat q (with_slots p more log))) ≡ cond (same_part q p) (suc (suc (place p log))) (cond b 1 (seat_on (seat q log)))) [
        | true ↦ λ e. sym (ap (λ b. cond b (suc (suc (place p log))) 1) (apart q p written.part is e (same_part q p) refl))
        | false ↦ λ e. ap seat_on (seat-more q p more log) ∙ on (same_part q p)
      ] refl
    ] refl
  where
    twice : (b : Bool) (n : ℕ) → cond b 1 n ≡ cond b 1 (cond b 1 n)
    twice true n = refl
    twice false n = refl

    on : (b : Bool) → seat_on (cond b (suc (place p log)) (seat q log)) ≡ cond b (suc (suc (place p log))) (seat_on (seat q log))
    on true = refl
    on false = refl

pub seats-more : (seats seats' : List ℕ) (p : PartId) (more : List Slot) (log log' : List Written) (at : ℕ) → log' ≡ with_slots p more log → at ≡ place p log → AreSeats seats log
    → ((q : PartId) → q.part < 256 → get_or seats' (part_number q) 0 ≡ cond (same_part q p) (at + 1) (get_or seats (part_number q) 0)) → AreSeats seats' log'
seats-more seats seats' p more log log' at grown is k put q h =
    put q h ∙ ap₂ (λ x y. cond (same_part q p) x y) (let next : at + 1 ≡ suc (place p log) = omega (arith, is) in next) (k q h) ∙ sym (ap (seat q) grown ∙ seat-more q p more log)

-- the place from the seat
pub no_seat : (p : PartId) (log : List Written) → seat p log ≡ 0 → length log ≡ place p log
no_seat p [] h = refl
no_seat p (written ∷ log) h = by (same_part p written.part) (seat p log) refl h (no_seat p log)
  where
    by : (b : Bool) (n : ℕ) → seat p log ≡ n → cond b 1 (seat_on n) ≡ 0 → (seat p log ≡ 0 → length log ≡ place p log) → suc (length log) ≡ cond b 0 (suc (place p log))
    by true n is none more = absurd (omega (arith, none))
    by false zero is none more = ap suc (more is)
    by false (suc n) is none more = absurd (omega (arith, none))

pub some_seat : (p : PartId) (log : List Written) → seat p log ≢ 0 → seat p log ≡ place p log + 1
some_seat p [] h = absurd (h refl)
some_seat p (written ∷ log) h = by (same_part p written.part) (seat p log) refl h (some_seat p log)
  where
    by : (b : Bool) (n : ℕ) → seat p log ≡ n → cond b 1 (seat_on n) ≢ 0 → (seat p log ≢ 0 → seat p log ≡ place p log + 1) → cond b 1 (seat_on n) ≡ cond b 0 (suc (place p log)) + 1
    by true n is some more = refl
    by false zero is some more = absurd (some refl)
    by false (suc n) is some more = let e : seat p log ≡ place p log + 1 = more (λ z. absurd (omega (arith, is, z))) in omega (arith, is, e)

-- ---- a batch
pub log_appended-is : (p : PartId) (b : Batch) (log log' : List Written) (d : Written) (slots : List Slot) → place p log < length log
    → slots ≡ appended b.producer b.epoch b.number b.task b.recs (get_or log (place p log) d).slots
    → log' ≡ set log (place p log) (record { part = (get_or log (place p log) d).part; slots = slots }) → log' ≡ log_appended p b log
log_appended-is p b log log' d slots there grew is =
    let here : slots_in p log ≡ (get_or log (place p log) d).slots = slots_in-there p log d there in
    is ∙ ap (λ l. set log (place p log) (record { part = (get_or log (place p log) d).part; slots = l })) grew
    ∙ by (b.number == count_sent b.producer b.epoch (get_or log (place p log) d).slots)
    ∙ ap (λ l. cond (b.number == count_sent b.producer b.epoch l) (with_slots p (sent_slots b.producer b.epoch b.number b.task b.recs) log) log) (sym here)
  where
    by : (t : Bool) → set log (place p log) (record { part = (get_or log (place p log) d).part; slots = cond t ((get_or log (place p log) d).slots ++ sent_slots b.producer b.epoch b.number b.task b.recs) (get_or log (place p log) d).slots })
        ≡ cond t (with_slots p (sent_slots b.producer b.epoch b.number b.task b.recs) log) log
    by true = sym (with_slots-there p (sent_slots b.producer b.epoch b.number b.task b.recs) log d there)
    by false = set-get_or log (place p log) d

-- a partition that isn't there, where the batch is refused and where it isn't
pub log_missed-new : (p : PartId) (b : Batch) (log : List Written) → length log ≤ place p log → (b.number == 0) ≡ false → log ≡ log_appended p b log
log_missed-new p b log beyond other =
    sym (ap (λ t. cond t (with_slots p (sent_slots b.producer b.epoch b.number b.task b.recs) log) log) (ap (λ l. b.number == count_sent b.producer b.epoch l) (slots_in-new p log beyond) ∙ other))

pub log_appended-new : (p : PartId) (b : Batch) (log log' : List Written) (slots : List Slot) → length log ≤ place p log → (b.number == 0) ≡ true
    → slots ≡ appended b.producer b.epoch b.number b.task b.recs [] → log' ≡ log ++ record { part = p; slots = slots } ∷ [] → log' ≡ log_appended p b log
log_appended-new p b log log' slots beyond first grew is =
    is ∙ ap (λ l. log ++ record { part = p; slots = l } ∷ []) (grew ∙ ap (λ t. cond t (sent_slots b.producer b.epoch b.number b.task b.recs) []) first)
    ∙ sym (with_slots-new p (sent_slots b.producer b.epoch b.number b.task b.recs) log beyond)
    ∙ sym (ap (λ t. cond t (with_slots p (sent_slots b.producer b.epoch b.number b.task b.recs) log) log) (ap (λ l. b.number == count_sent b.producer b.epoch l) (slots_in-new p log beyond) ∙ first))

-- ---- answers
pub is_taken : (w e number : ℕ) (slots : List Slot) (r : Result ℕ OutOfSequence) → r ≡ append_answer w e number slots → is_err r ≡ false → (number == count_sent w e slots) ≡ true
is_taken w e number slots r answer taken = by (number == count_sent w e slots) answer
  where
    by : (b : Bool) → r ≡ cond b (Ok (length slots)) (Err (record { expected = count_sent w e slots })) → b ≡ true
    by true is = refl
    by false is = let both : true ≡ false = sym (ap is_err is) ∙ taken in absurd (cc)

pub is_missed : (w e number : ℕ) (slots : List Slot) (r : Result ℕ OutOfSequence) → r ≡ append_answer w e number slots → is_err r ≡ true → (number == count_sent w e slots) ≡ false
is_missed w e number slots r answer missed = by (number == count_sent w e slots) answer
  where
    by : (b : Bool) → r ≡ cond b (Ok (length slots)) (Err (record { expected = count_sent w e slots })) → b ≡ false
    by true is = let both : false ≡ true = sym (ap is_err is) ∙ missed in absurd (cc)
    by false is = refl

pub total-appended : (p : PartId) (b : Batch) (log : List Written) → (b.number == count_sent b.producer b.epoch (slots_in p log)) ≡ true → total (log_appended p b log) ≡ total log + length b.recs
total-appended p b log taken =
    ap (λ t. total (cond t (with_slots p (sent_slots b.producer b.epoch b.number b.task b.recs) log) log)) taken
    ∙ total-with p (sent_slots b.producer b.epoch b.number b.task b.recs) log
    ∙ ap (λ n. total log + n) (length-sent b.producer b.epoch b.number b.task b.recs)
