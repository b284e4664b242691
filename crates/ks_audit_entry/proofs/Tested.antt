-- The test of a request's conditions.
use Rattle.std.proofs.Common.{◌≡◌, Bool, true, false, cond, ◌&&◌, nat_le, nat_lt, refl}
use Rattle.std.specs.Prelude.{length, slice_index}
use Rattle.std.proofs.lemmas.Bool.{and_parts, and_from, leb-true, le-leb, ltb-true, lt-ltb}
use Rattle.ks_record.specs.declared.record.PartId.{PartId}
use Rattle.ks_history.specs.declared.journal.Request.{Request}
use Rattle.ks_history.specs.declared.journal.Request.TheVariants.{Produce, Init, Add, Append, SendOffsets, Decide, MarkNext, Join, Expire, Hold, Probe, Assign, Park, Unpark}
use Rattle.ks_history.specs.State.{State, Setup, IsPart, has_task}
use Rattle.ks_history.specs.History.{Meets, are_offsets, are_tasks, are_places}
use Rattle.ks_audit_entry.specs.Conditions.{is_part, are_assigned, meets}
use Rattle.ks_audit_entry.specs.Outcomes.{MeetsIsTested}

if_both : (a b : Bool) → cond a b false ≡ true → (a ≡ true) × (b ≡ true)
if_both true b h = (refl, h)
if_both false b h = absurd cc

both_if : (a b : Bool) → a ≡ true → b ≡ true → cond a b false ≡ true
both_if true b g h = h
both_if false b g h = absurd cc

part_yes : (setup : Setup) (p : PartId) → is_part setup p ≡ true → IsPart setup p
part_yes setup p h =
    let parts = if_both (nat_lt p.topic (length setup.counts)) (nat_lt p.part (slice_index setup.counts p.topic)) h in
    record { topic = ltb-true p.topic (length setup.counts) parts.0; part = ltb-true p.part (slice_index setup.counts p.topic) parts.1 }

part_true : (setup : Setup) (p : PartId) → IsPart setup p → is_part setup p ≡ true
part_true setup p is = both_if (nat_lt p.topic (length setup.counts)) (nat_lt p.part (slice_index setup.counts p.topic)) (lt-ltb p.topic (length setup.counts) is.topic) (lt-ltb p.part (slice_index setup.counts p.topic) is.part)

yes : (setup : Setup) (s : State) (request : Request) → meets setup s request ≡ true → Meets setup s request
yes setup s (Produce p rec) h = let a = and_parts _ _ h in (ltb-true _ _ a.0, part_yes setup p a.1)
yes setup s (Init w) h = leb-true w 16 h
yes setup s (Add w e p) h = let a = and_parts _ _ h in (leb-true w 16 a.0, part_yes setup p a.1)
yes setup s (Append w e number t p recs) h =
    let a = and_parts (nat_le w 16) (is_part setup p && has_task t setup.tasks) h in
    let b = and_parts (is_part setup p) (has_task t setup.tasks) a.1 in
    (leb-true w 16 a.0, part_yes setup p b.0, b.1)
yes setup s (SendOffsets w e g t offsets order late) h =
    let a = if_both (nat_le w 16 && has_task t setup.tasks) (are_offsets setup s t offsets) h in
    let b = and_parts (nat_le w 16) (has_task t setup.tasks) a.0 in
    (leb-true w 16 b.0, b.1, a.1)
yes setup s (Decide w e commit) h = leb-true w 16 h
yes setup s (MarkNext w) h = leb-true w 16 h
yes setup s (Join w) h = leb-true w 16 h
yes setup s (Expire w) h = leb-true w 16 h
yes setup s (Hold w held) h = let a = and_parts (nat_le w 16) (are_tasks setup held) h in (leb-true w 16 a.0, a.1)
yes setup s (Probe w g) h = leb-true w 16 h
yes setup s (Assign w g a) h =
    let x = and_parts (nat_le w 16) (are_assigned setup a) h in
    let y = and_parts (are_places setup a.active) (are_places setup a.standby && are_places setup a.warmup) x.1 in
    let z = and_parts (are_places setup a.standby) (are_places setup a.warmup) y.1 in
    (leb-true w 16 x.0, y.0, z.0, z.1)
yes setup s (Park instance t) h = let a = and_parts (nat_le instance 3) (has_task t setup.tasks) h in (leb-true instance 3 a.0, a.1)
yes setup s (Unpark instance t) h = let a = and_parts (nat_le instance 3) (has_task t setup.tasks) h in (leb-true instance 3 a.0, a.1)

no : (setup : Setup) (s : State) (request : Request) → Meets setup s request → meets setup s request ≡ true
no setup s (Produce p rec) m = and_from _ _ (lt-ltb _ _ m.0) (part_true setup p m.1)
no setup s (Init w) m = le-leb w 16 m
no setup s (Add w e p) m = and_from _ _ (le-leb w 16 m.0) (part_true setup p m.1)
no setup s (Append w e number t p recs) m = and_from (nat_le w 16) (is_part setup p && has_task t setup.tasks) (le-leb w 16 m.0) (and_from (is_part setup p) (has_task t setup.tasks) (part_true setup p m.1) m.2)
no setup s (SendOffsets w e g t offsets order late) m = both_if (nat_le w 16 && has_task t setup.tasks) (are_offsets setup s t offsets) (and_from (nat_le w 16) (has_task t setup.tasks) (le-leb w 16 m.0) m.1) m.2
no setup s (Decide w e commit) m = le-leb w 16 m
no setup s (MarkNext w) m = le-leb w 16 m
no setup s (Join w) m = le-leb w 16 m
no setup s (Expire w) m = le-leb w 16 m
no setup s (Hold w held) m = and_from (nat_le w 16) (are_tasks setup held) (le-leb w 16 m.0) m.1
no setup s (Probe w g) m = le-leb w 16 m
no setup s (Assign w g a) m =
    and_from (nat_le w 16) (are_assigned setup a) (le-leb w 16 m.0)
    (and_from (are_places setup a.active) (are_places setup a.standby && are_places setup a.warmup) m.1 (and_from (are_places setup a.standby) (are_places setup a.warmup) m.2 m.3))
no setup s (Park instance t) m = and_from (nat_le instance 3) (has_task t setup.tasks) (le-leb instance 3 m.0) m.1
no setup s (Unpark instance t) m = and_from (nat_le instance 3) (has_task t setup.tasks) (le-leb instance 3 m.0) m.1

pub meets_is_tested : MeetsIsTested
meets_is_tested setup s request = (yes setup s request, no setup s request)
