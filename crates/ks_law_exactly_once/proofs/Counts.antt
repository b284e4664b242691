-- A replay has at most as many steps as there are records.
use Rattle.std.proofs.Common.{◌≡◌, ℕ, ◌+◌, ◌≤◌, Bool, true, false, cond, ◌&&◌, ◌||◌, List, [], ◌∷◌, ◌++◌, length, map, Option, Some, None, refl, sym, ap, subst, ◌∙◌, arith}
use Rattle.std.proofs.lemmas.Bool.{and_parts, true≢false, or_left, or_right, or_parts}
use Rattle.std.proofs.lemmas.List.{length-append, length-map}
use Rattle.ks_record.specs.Records.{Record as Rec}
use Rattle.ks_record.specs.declared.record.PartId.{PartId}
use Rattle.ks_record.specs.declared.record.TaskId.{TaskId}
use Rattle.ks_record.specs.declared.assignment.Assignment.{Assignment}
use Rattle.ks_record.specs.declared.assignment.Marker.{Marker}
use Rattle.ks_record.specs.declared.assignment.Refused.{Refused}
use Rattle.ks_record.specs.Parts.{same_part, same_task}
use Rattle.ks_def_runs.specs.Run.{Taken, channel, received, same_sender}
use Rattle.ks_def_runs.proofs.Runs.{same_sender-is, same_channel_refl, Follows-run}
use Rattle.ks_def_runs.proofs.Sums.{sum_map, sum_map-add, sum_map-same, sum_map-zero}
use Rattle.ks_history.specs.declared.partition.Slot.{Slot}
use Rattle.ks_history.specs.declared.partition.Slot.TheVariants.{Plain, Sent, Mark}
use Rattle.ks_history.specs.declared.journal.Entry.{Entry}
use Rattle.ks_history.specs.declared.journal.Request.{Request}
use Rattle.ks_history.specs.declared.journal.Request.TheVariants.{Produce, Init, Add, Append, SendOffsets, Decide, MarkNext, Join, Expire, Hold, Probe, Assign, Park, Unpark}
use Rattle.ks_history.specs.Partition.{recs, by_sender, decided_from, decision, next_mark, is_commit, sent_slots}
use Rattle.ks_history.specs.Machine.{TaskPlan, network}
use Rattle.ks_history.specs.State.{State, Setup, start, grown, with_number, without_number}
use Rattle.ks_history.specs.Step.{effect, state_by, after, refusal, can_expire, renewed}
use Rattle.ks_history.specs.Faithful.{decided, waiting_at, markers_of}
use Rattle.ks_history.specs.History.{at, state_after}
use Rattle.ks_history.specs.Replay.{produced, replay, replayed, run_of}
use Rattle.ks_history.specs.Count.{records_by, records_from}
use Rattle.ks_history.proofs.Names.{same_part-is, has_names}
use Rattle.ks_law_exactly_once.specs.Law.{OfHistories, IsShort}
use Rattle.ks_law_exactly_once.proofs.Slots.{Waiting}
use Rattle.ks_law_exactly_once.proofs.Replays.{is_run, tells_all}

abbrev Channel : Type 0
Channel = Option TaskId × PartId

abbrev same_list : Channel → Channel → Bool
same_list c d = same_sender same_task c.0 d.0 && same_part c.1 d.1

abbrev hit : Channel → Channel → ℕ
hit c d = cond (same_list c d) 1 0

abbrev is_in : Channel → List Channel → Bool
is_in c [] = false
is_in c (d ∷ ds) = same_list d c || is_in c ds

abbrev Apart : List Channel → Type 0
Apart [] = Unit {0}
Apart (c ∷ cs) = (is_in c cs ≡ false) × Apart cs

abbrev once : List Channel → List Channel
once [] = []
once (c ∷ cs) = cond (is_in c (once cs)) (once cs) (c ∷ once cs)

once-apart : (cs : List Channel) → Apart (once cs)
once-apart [] = tt
once-apart (c ∷ cs) = by (is_in c (once cs)) refl (once-apart cs)
  where
    by : (b : Bool) → is_in c (once cs) ≡ b → Apart (once cs) → Apart (cond b (once cs) (c ∷ once cs))
    by true is h = h
    by false is h = (is, h)

module _ (plan : TaskPlan) where
  same_list-is : (c d : Channel) → same_list c d ≡ true → c ≡ d
  same_list-is c d h =
      let both = and_parts (same_sender same_task c.0 d.0) (same_part c.1 d.1) h in
      λ i. (same_sender-is (network plan) (has_names plan) c.0 d.0 both.0 i, same_part-is c.1 d.1 both.1 i)

  same_list-refl : (c : Channel) → same_list c c ≡ true
  same_list-refl c = same_channel_refl (network plan) (has_names plan) c.0 c.1

  -- ---- each list that is named stands once among them
  once-in : (c : Channel) (cs : List Channel) → is_in c cs ≡ true → is_in c (once cs) ≡ true
  once-in c [] h = absurd (true≢false (sym h))
  once-in c (d ∷ ds) h = by (same_list d c) refl (is_in d (once ds)) refl h (once-in c ds)
    where
      by : (a : Bool) → same_list d c ≡ a → (b : Bool) → is_in d (once ds) ≡ b → (a || is_in c ds) ≡ true → (is_in c ds ≡ true → is_in c (once ds) ≡ true) → is_in c (cond b (once ds) (d ∷ once ds)) ≡ true
      by true is true there h f = subst (λ k. is_in k (once ds) ≡ true) (same_list-is d c is) there
      by true is false there h f = or_left (same_list d c) (is_in c (once ds)) is
      by false is true there h f = f h
      by false is false there h f = or_right (same_list d c) (is_in c (once ds)) (f h)

  at_least : (c : Channel) (cs : List Channel) → is_in c cs ≡ true → 1 ≤ sum_map (λ d. hit d c) cs
  at_least c [] h = absurd (true≢false (sym h))
  at_least c (d ∷ ds) h = by (same_list d c) h (at_least c ds)
    where
      by : (a : Bool) → (a || is_in c ds) ≡ true → (is_in c ds ≡ true → 1 ≤ sum_map (λ d. hit d c) ds) → 1 ≤ cond a 1 0 + sum_map (λ d. hit d c) ds
      by true h f = omega arith
      by false h f = omega (arith, f h)

  none_hit : (c : Channel) (cs : List Channel) → is_in c cs ≡ false → sum_map (λ d. hit d c) cs ≡ 0
  none_hit c [] h = refl
  none_hit c (d ∷ ds) h =
      let parts = or_parts (same_list d c) (is_in c ds) h in
      ap (λ b. cond {A = ℕ} b 1 0 + sum_map (λ d. hit d c) ds) parts.0 ∙ omega (arith, none_hit c ds parts.1)

  at_most : (c : Channel) (cs : List Channel) → Apart cs → sum_map (λ d. hit d c) cs ≤ 1
  at_most c [] a = omega arith
  at_most c (d ∷ ds) a = by (same_list d c) refl (at_most c ds a.1)
    where
      by : (b : Bool) → same_list d c ≡ b → sum_map (λ e. hit e c) ds ≤ 1 → cond b 1 0 + sum_map (λ e. hit e c) ds ≤ 1
      by true is h = omega (arith, none_hit c ds (subst (λ k. is_in k ds ≡ false) (same_list-is d c is) a.0))
      by false is h = omega (arith, h)

  -- ---- what is taken, by its lists
  abbrev AllIn : List Channel → List (Taken TaskId PartId Rec) → Type 0
  AllIn cs [] = Unit {0}
  AllIn cs (x ∷ xs) = (is_in (channel (network plan) x) cs ≡ true) × AllIn cs xs

  AllIn-more : (c : Channel) (cs : List Channel) (xs : List (Taken TaskId PartId Rec)) → AllIn cs xs → AllIn (c ∷ cs) xs
  AllIn-more c cs [] h = tt
  AllIn-more c cs (x ∷ xs) h = (or_right (same_list c (channel (network plan) x)) _ h.0, AllIn-more c cs xs h.1)

  all_in : (xs : List (Taken TaskId PartId Rec)) → AllIn (map (channel (network plan)) xs) xs
  all_in [] = tt
  all_in (x ∷ xs) = (or_left (same_list (channel (network plan) x) (channel (network plan) x)) _ (same_list-refl (channel (network plan) x)), AllIn-more (channel (network plan) x) _ xs (all_in xs))

  AllIn-once : (cs : List Channel) (xs : List (Taken TaskId PartId Rec)) → AllIn cs xs → AllIn (once cs) xs
  AllIn-once cs [] h = tt
  AllIn-once cs (x ∷ xs) h = (once-in (channel (network plan) x) cs h.0, AllIn-once cs xs h.1)

  one_more : (b : Bool) (x : Rec) (xs : List Rec) → length (cond b (x ∷ xs) xs) ≡ cond b 1 0 + length xs
  one_more true x xs = omega arith
  one_more false x xs = omega arith

  taken_few : (cs : List Channel) (xs : List (Taken TaskId PartId Rec)) → AllIn cs xs → length xs ≤ sum_map (λ d. length (received (network plan) d.0 d.1 xs)) cs
  taken_few cs [] h = omega arith
  taken_few cs (x ∷ xs) h =
      let c : Channel = channel (network plan) x in
      let split : sum_map (λ d. length (received (network plan) d.0 d.1 (x ∷ xs))) cs ≡ sum_map (λ d. hit d c) cs + sum_map (λ d. length (received (network plan) d.0 d.1 xs)) cs =
      sum_map-same _ _ cs (λ d. one_more (same_list d c) x.item (received (network plan) d.0 d.1 xs)) ∙ sum_map-add (λ d. hit d c) (λ d. length (received (network plan) d.0 d.1 xs)) cs in
      omega (arith, split, at_least c cs h.0, taken_few cs xs h.1)

  sum_map-le : (f g : Channel → ℕ) (cs : List Channel) → ((c : Channel) → f c ≤ g c) → sum_map f cs ≤ sum_map g cs
  sum_map-le f g [] h = omega arith
  sum_map-le f g (c ∷ cs) h = omega (arith, h c, sum_map-le f g cs h)

-- ---- the records of a partition, by sender, decided or not
abbrev sent_count : Option TaskId → List Slot → ℕ
sent_count r [] = 0
sent_count r (Plain rec ∷ slots) = cond (same_sender same_task r None) 1 0 + sent_count r slots
sent_count r (Sent w e number task rec ∷ slots) = cond (same_sender same_task r (Some task)) 1 0 + sent_count r slots
sent_count r (Mark w e commit ∷ slots) = sent_count r slots

sent_count-append : (r : Option TaskId) (xs ys : List Slot) → sent_count r (xs ++ ys) ≡ sent_count r xs + sent_count r ys
sent_count-append r [] ys = omega arith
sent_count-append r (Plain rec ∷ xs) ys = omega (arith, sent_count-append r xs ys)
sent_count-append r (Sent w e number task rec ∷ xs) ys = omega (arith, sent_count-append r xs ys)
sent_count-append r (Mark w e commit ∷ xs) ys = sent_count-append r xs ys

decided_few : (r : Option TaskId) (waiting : Waiting) (at : ℕ) (slots : List Slot) → length (recs (by_sender r (decided_from waiting at slots))) ≤ sent_count r slots
decided_few r waiting at [] = omega arith
decided_few r waiting at (Plain rec ∷ slots) = by (same_sender same_task r None) (decided_few r waiting (at + 1) slots)
  where
    by : (a : Bool) → length (recs (by_sender r (decided_from waiting (at + 1) slots))) ≤ sent_count r slots →
        length (recs (cond a (record { offset = at; sender = None; rec = rec } ∷ by_sender r (decided_from waiting (at + 1) slots)) (by_sender r (decided_from waiting (at + 1) slots)))) ≤ cond a 1 0 + sent_count r slots
    by true h = omega (arith, h)
    by false h = omega (arith, h)
decided_few r waiting at (Sent w e number task rec ∷ slots) =
    by (is_commit (decision (next_mark w e slots) (waiting w e))) (same_sender same_task r (Some task)) refl (decided_few r waiting (at + 1) slots)
  where
    by : (c a : Bool) → same_sender same_task r (Some task) ≡ a → length (recs (by_sender r (decided_from waiting (at + 1) slots))) ≤ sent_count r slots →
        length (recs (by_sender r (cond c (record { offset = at; sender = Some task; rec = rec } ∷ decided_from waiting (at + 1) slots) (decided_from waiting (at + 1) slots)))) ≤ cond a 1 0 + sent_count r slots
    by true true is h = subst (λ b. length (recs (cond b (record { offset = at; sender = Some task; rec = rec } ∷ by_sender r (decided_from waiting (at + 1) slots)) (by_sender r (decided_from waiting (at + 1) slots)))) ≤ 1 + sent_count r slots) (sym is) (omega (arith, h))
    by true false is h = subst (λ b. length (recs (cond b (record { offset = at; sender = Some task; rec = rec } ∷ by_sender r (decided_from waiting (at + 1) slots)) (by_sender r (decided_from waiting (at + 1) slots)))) ≤ 0 + sent_count r slots) (sym is) (omega (arith, h))
    by false true is h = omega (arith, h)
    by false false is h = omega (arith, h)
decided_few r waiting at (Mark w e commit ∷ slots) = decided_few r waiting (at + 1) slots

abbrev rec_count : List Slot → ℕ
rec_count [] = 0
rec_count (Plain rec ∷ slots) = 1 + rec_count slots
rec_count (Sent w e number task rec ∷ slots) = 1 + rec_count slots
rec_count (Mark w e commit ∷ slots) = rec_count slots

rec_count-sent : (w e number : ℕ) (t : TaskId) (rs : List Rec) → rec_count (sent_slots w e number t rs) ≡ length rs
rec_count-sent w e number t [] = refl
rec_count-sent w e number t (r ∷ rs) = omega (arith, rec_count-sent w e (number + 1) t rs)

module _ (plan : TaskPlan) (cs : List Channel) (apart : Apart cs) where
  abbrev weight : (PartId → List Slot) → ℕ
  weight partition = sum_map (λ c. sent_count c.0 (partition c.1)) cs

  -- a slot that is added is a record of at most one list
  one_slot : (r : Option TaskId) (p : PartId) (more : List Slot) → sum_map (λ c. cond (same_part c.1 p) (sent_count c.0 more) 0) cs ≤ rec_count more →
      sum_map (λ c. cond (same_part c.1 p) (cond (same_sender same_task c.0 r) 1 0 + sent_count c.0 more) 0) cs ≤ 1 + rec_count more
  one_slot r p more h =
      let split : sum_map (λ c. cond (same_part c.1 p) (cond (same_sender same_task c.0 r) 1 0 + sent_count c.0 more) 0) cs ≡ sum_map (λ c. hit c (r, p)) cs + sum_map (λ c. cond (same_part c.1 p) (sent_count c.0 more) 0) cs =
      sum_map-same _ _ cs (λ c. parts (same_part c.1 p) (same_sender same_task c.0 r) (sent_count c.0 more)) ∙ sum_map-add (λ c. hit c (r, p)) (λ c. cond (same_part c.1 p) (sent_count c.0 more) 0) cs in
      omega (arith, split, at_most plan (r, p) cs apart, h)
    where
      parts : (a b : Bool) (n : ℕ) → cond a (cond b 1 0 + n) 0 ≡ cond (b && a) 1 0 + cond a n 0
      parts true true n = refl
      parts true false n = refl
      parts false true n = refl
      parts false false n = refl

  added_few : (p : PartId) (more : List Slot) → sum_map (λ c. cond (same_part c.1 p) (sent_count c.0 more) 0) cs ≤ rec_count more
  added_few p [] = omega (arith, sum_map-same (λ c. cond (same_part c.1 p) 0 0) (λ c. 0) cs (λ c. nothing (same_part c.1 p)), sum_map-zero cs)
    where
      nothing : (b : Bool) → cond {A = ℕ} b 0 0 ≡ 0
      nothing true = refl
      nothing false = refl
  added_few p (Plain rec ∷ more) = one_slot None p more (added_few p more)
  added_few p (Sent w e number task rec ∷ more) = one_slot (Some task) p more (added_few p more)
  added_few p (Mark w e commit ∷ more) = added_few p more

  grown_few : (partition : PartId → List Slot) (p : PartId) (more : List Slot) → weight (grown partition p more) ≤ weight partition + rec_count more
  grown_few partition p more =
      let split : weight (grown partition p more) ≡ weight partition + sum_map (λ c. cond (same_part c.1 p) (sent_count c.0 more) 0) cs =
      sum_map-same _ _ cs (λ c. parts c (same_part c.1 p)) ∙ sum_map-add (λ c. sent_count c.0 (partition c.1)) (λ c. cond (same_part c.1 p) (sent_count c.0 more) 0) cs in
      omega (arith, split, added_few p more)
    where
      parts : (c : Channel) (b : Bool) → sent_count c.0 (cond b (partition c.1 ++ more) (partition c.1)) ≡ sent_count c.0 (partition c.1) + cond b (sent_count c.0 more) 0
      parts c true = sent_count-append c.0 (partition c.1) more
      parts c false = omega arith

  effect_few : (s : State) (request : Request) → weight (effect s request).partition ≤ weight s.partition + records_by request None
  effect_few s (Produce p rec) = grown_few s.partition p (Plain rec ∷ [])
  effect_few s (Init w) = omega arith
  effect_few s (Add w e p) = omega arith
  effect_few s (Append w e number t p rs) = omega (arith, grown_few s.partition p (sent_slots w e number t rs), rec_count-sent w e number t rs)
  effect_few s (SendOffsets w e g t offsets order late) = omega arith
  effect_few s (Decide w e commit) = omega arith
  effect_few s (MarkNext w) = by (s.producer w).waiting
    where
      by : (ms : List Marker) → weight (elim ms as (λ _. State) [
        | [] ↦ s
        | m ∷ rest ↦ record s { partition = grown s.partition m.part (Mark w m.epoch m.commit ∷ []); producer = with_number s.producer w (record (s.producer w) { waiting = rest }) }
      ]).partition ≤ weight s.partition + 0
      by [] = omega arith
      by (m ∷ rest) = grown_few s.partition m.part (Mark w m.epoch m.commit ∷ [])
  effect_few s (Join w) = omega arith
  effect_few s (Expire w) = by (can_expire s w)
    where
      by : (b : Bool) → weight (cond b (record s {
        producer = with_number s.producer w (renewed (s.producer w));
        members = without_number w s.members;
        held = with_number s.held w [];
        generation = s.generation + 1;
        assignment = None;
      }) s).partition ≤ weight s.partition + 0
      by true = omega arith
      by false = omega arith
  effect_few s (Hold w held) = omega arith
  effect_few s (Probe w g) = omega arith
  effect_few s (Assign w g a) = by s.assignment
    where
      by : (o : Option Assignment) → weight (elim o as (λ _. State) [ None ↦ record s { assignment = Some a } | Some b ↦ s ]).partition ≤ weight s.partition + 0
      by None = omega arith
      by (Some b) = omega arith
  effect_few s (Park instance t) = omega arith
  effect_few s (Unpark instance t) = omega arith

  after_few : (s : State) (request : Request) (r : Option Refused) → weight (state_by s request r).partition ≤ weight s.partition + records_by request r
  after_few s request None = effect_few s request
  after_few s request (Some refused) = omega arith

  journal_few : (setup : Setup) (s : State) (entries : List Entry) → weight (state_after setup s entries).partition ≤ weight s.partition + records_from setup s entries
  journal_few setup s [] = omega arith
  journal_few setup s (entry ∷ entries) =
      let r = refusal setup s entry.request in
      omega (arith, journal_few setup (after setup s entry.request) entries, after_few s entry.request r)

pub is_short : OfHistories IsShort
is_short setup journal net history =
    let m = network setup.plan in
    let ts : List (Taken TaskId PartId Rec) = replayed setup start journal in
    let cs : List Channel = once (map (channel m) ts) in
    let s : State = at setup journal in
    let follows = Follows-run m (has_names setup.plan) (produced journal) (replay setup journal) in
    let taken : (run_of setup journal).taken ≡ ts = (is_run setup journal net history).2 in
    let each : (c : Channel) → length (received m c.0 c.1 ts) ≤ sent_count c.0 (s.partition c.1) = λ c.
    let all : recs (by_sender c.0 (decided s c.1)) ≡ received m c.0 c.1 ts ++ (run_of setup journal).waiting c.0 c.1 =
    sym (tells_all setup journal net history c.0 c.1) ∙ follows.given c.0 c.1 ∙ follows.flow c.0 c.1 ∙ ap (λ l. received m c.0 c.1 l ++ (run_of setup journal).waiting c.0 c.1) taken in
    omega (arith, ap length all, length-append (received m c.0 c.1 ts) ((run_of setup journal).waiting c.0 c.1), decided_few c.0 (waiting_at (markers_of s) c.1) 0 (s.partition c.1)) in
    let covered : length ts ≤ sum_map (λ d. length (received m d.0 d.1 ts)) cs = taken_few setup.plan cs ts (AllIn-once setup.plan (map (channel m) ts) ts (all_in setup.plan ts)) in
    let bounded : sum_map (λ d. length (received m d.0 d.1 ts)) cs ≤ sum_map (λ c. sent_count c.0 (s.partition c.1)) cs = sum_map-le setup.plan (λ d. length (received m d.0 d.1 ts)) (λ c. sent_count c.0 (s.partition c.1)) cs each in
    let all : sum_map (λ c. sent_count c.0 (s.partition c.1)) cs ≤ sum_map (λ c. 0) cs + records_from setup start journal = journal_few setup.plan cs (once-apart (map (channel m) ts)) setup start journal in
    let none : sum_map {A = Channel} (λ c. 0) cs ≡ 0 = sum_map-zero cs in
    omega (arith, length-map ts (channel m), covered, bounded, all, none)
