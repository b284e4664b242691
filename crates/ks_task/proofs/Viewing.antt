-- What the calls of a task make of the view that it is.
use Rattle.std.proofs.Common.{arith, ◌≡◌, ℕ, ◌+◌, ◌==◌, Bool, true, false, cond, ◌||◌, List, [], ◌∷◌, ◌++◌, map, refl, sym, ap, ap₂, subst, ◌∙◌}
use Rattle.std.specs.Prelude.{if◌then◌else◌}
use Rattle.std.proofs.Math.Path.{fun_ext}
use Rattle.std.proofs.lemmas.Bool.{true≢false}
use Rattle.std.proofs.lemmas.Bool.Decides.{Decides-eqb}
use Rattle.ks_record.specs.Records.{Record as Rec}
use Rattle.ks_record.specs.declared.record.PartId.{PartId}
use Rattle.ks_record.specs.declared.record.TaskId.{TaskId}
use Rattle.ks_record.specs.Parts.{same_part}
use Rattle.ks_def_runs.specs.Bytes.{Store}
use Rattle.ks_def_runs.specs.Run.{Outcome, sent_to}
use Rattle.ks_plan.specs.Drafts.{DraftView}
use Rattle.ks_plan.specs.Plan.{plan_of}
use Rattle.ks_plan.specs.Layout.{topic_at}
use Rattle.ks_plan.specs.Infos.{input_numbers, changelog_numbers}
use Rattle.ks_def_tasks.specs.Bytes.{ByteStores, byte_step, has_number, stores_after, keep_all, records_at}
use Rattle.ks_history.specs.Machine.{TaskPlan as Work, has_topic, network, part_of}
use Rattle.ks_history.specs.State.{with_number, offset_in}
use Rattle.ks_history.specs.Faithful.{capped}
use Rattle.ks_law_topology.specs.Work.{work_of}
use Rattle.ks_law_restore.specs.Replicas.{restored_view}
use Rattle.ks_law_restore.specs.Views.{with_taken, take_view, skip_view, committed_view, WorkView, IsFrozen, recs_at, are_outputs}
use Rattle.ks_task.specs.declared.inputs.Input.{Input}
use Rattle.ks_cache.specs.declared.changelogs.Changelog.{Changelog}
use Rattle.ks_task_nodes.specs.declared.topics.NodeTopics.{NodeTopics}
use Rattle.ks_def_tasks.specs.Rules.{rules_of}
use Rattle.ks_law_step.specs.Whole.{IsRecord, AreStores}
use Rattle.ks_task_nodes.specs.Nodes.{nodes_of}
use Rattle.ks_task_nodes.specs.Records.{arrival_at}
use Rattle.ks_task_processing.specs.Steps.{made_or_none, late_or_none}
use Rattle.ks_cache.specs.Changelogs.{stores_in}
use Rattle.ks_cache.specs.Lists.{cached_after}
use Rattle.ks_cache.proofs.Taking.{cached_after-append}
use Rattle.std.specs.List.{All}
use Rattle.std.proofs.lemmas.List.Elements.{All-nil, All-cons, All-head, All-tail}
use Rattle.ks_standby.specs.Replicas.{positions_in, numbers_of, view_in}
use Rattle.ks_task.specs.Views.{position_in, committed_in, topics_in, moved_to, with_committed, input_at, log_after, ended, own_ends, view_of, IsTask, are_committed, grouped, holding, cached_in, IsCached}
use Rattle.ks_task.proofs.Stepping.{step_is}
use Rattle.ks_task.proofs.Outputs.{grouped_once, grouped_recs}

eq_is : (a b : ℕ) → (a == b) ≡ true → a ≡ b
eq_is a b e = (Decides-eqb a b).0 e

eq_itself : (a : ℕ) → (a == a) ≡ true
eq_itself a = (Decides-eqb a a).1 refl

both : {A : Type 0} (b : Bool) (x : A) → cond b x x ≡ x
both true x = refl
both false x = refl

-- ---- inputs
topics_moved : (topic to : ℕ) (xs : List Input) → topics_in (map (moved_to topic to) xs) ≡ topics_in xs
topics_moved topic to [] = refl
topics_moved topic to (x ∷ xs) = ap₂ (λ n ns. n ∷ ns) (elim (topic == x.topic) as (λ b. (cond b (record { topic = x.topic; committed = x.committed; position = to }) x).topic ≡ x.topic) [ true ↦ refl | false ↦ refl ]) (topics_moved topic to xs)

kept_moved : (topic to : ℕ) (xs : List Input) (q : ℕ) → committed_in (map (moved_to topic to) xs) q ≡ committed_in xs q
kept_moved topic to [] q = refl
kept_moved topic to (x ∷ xs) q = elim (topic == x.topic) as (λ b. (if q == (cond b (record { topic = x.topic; committed = x.committed; position = to }) x).topic then (cond b (record { topic = x.topic; committed = x.committed; position = to }) x).committed else committed_in (map (moved_to topic to) xs) q) ≡ (if q == x.topic then x.committed else committed_in xs q)) [
  | true ↦ ap (λ (r : ℕ). if q == x.topic then x.committed else r) (kept_moved topic to xs q)
  | false ↦ ap (λ (r : ℕ). if q == x.topic then x.committed else r) (kept_moved topic to xs q)
]

position_moved : (topic to : ℕ) (xs : List Input) (q : ℕ) → position_in (map (moved_to topic to) xs) q ≡ cond (q == topic) (cond (has_topic q (topics_in xs)) to 0) (position_in xs q)
position_moved topic to [] q = sym (both (q == topic) 0)
position_moved topic to (x ∷ xs) q =
    let more = position_moved topic to xs q in
    elim (topic == x.topic) as (λ b. (topic == x.topic) ≡ b →
    (if q == (cond b (record { topic = x.topic; committed = x.committed; position = to }) x).topic then (cond b (record { topic = x.topic; committed = x.committed; position = to }) x).position else position_in (map (moved_to topic to) xs) q)
    ≡ cond (q == topic) (cond ((q == x.topic) || has_topic q (topics_in xs)) to 0) (if q == x.topic then x.position else position_in xs q)) [
      | true ↦ λ e. subst (λ n. (if q == n then to else position_in (map (moved_to topic to) xs) q) ≡ cond (q == topic) (cond ((q == n) || has_topic q (topics_in xs)) to 0) (if q == n then x.position else position_in xs q)) (eq_is topic x.topic e)
          (elim (q == topic) as (λ b. position_in (map (moved_to topic to) xs) q ≡ cond b (cond (has_topic q (topics_in xs)) to 0) (position_in xs q) →
          (if b then to else position_in (map (moved_to topic to) xs) q) ≡ cond b (cond (b || has_topic q (topics_in xs)) to 0) (if b then x.position else position_in xs q)) [
            | true ↦ λ h. refl
            | false ↦ λ h. h
          ] more)
      | false ↦ λ e. elim (q == x.topic) as (λ b. (q == x.topic) ≡ b →
          (if b then x.position else position_in (map (moved_to topic to) xs) q) ≡ cond (q == topic) (cond (b || has_topic q (topics_in xs)) to 0) (if b then x.position else position_in xs q)) [
            | true ↦ λ f. elim (q == topic) as (λ b. (q == topic) ≡ b → x.position ≡ cond b to x.position) [
              | true ↦ λ g. absurd (true≢false (sym (subst (λ n. (topic == n) ≡ true) (sym (eq_is q topic g) ∙ eq_is q x.topic f) (eq_itself topic)) ∙ e))
              | false ↦ λ g. refl
            ] refl
            | false ↦ λ f. more
          ] refl
    ] refl

pub moved_positions : (topic to : ℕ) (xs : List Input) → has_topic topic (topics_in xs) ≡ true → position_in (map (moved_to topic to) xs) ≡ with_number (position_in xs) topic to
moved_positions topic to xs there = fun_ext (λ q. position_moved topic to xs q ∙ elim (q == topic) as (λ b. (q == topic) ≡ b → cond b (cond (has_topic q (topics_in xs)) to 0) (position_in xs q) ≡ (if b then to else position_in xs q)) [
  | true ↦ λ e. ap (λ b. cond b to 0) (ap (λ n. has_topic n (topics_in xs)) (eq_is q topic e) ∙ there)
  | false ↦ λ e. refl
] refl)

kept_here : (xs : List Input) (q : ℕ) → committed_in (map with_committed xs) q ≡ position_in xs q
kept_here [] q = refl
kept_here (x ∷ xs) q = ap (λ (r : ℕ). if q == x.topic then x.position else r) (kept_here xs q)

position_kept : (xs : List Input) (q : ℕ) → position_in (map with_committed xs) q ≡ position_in xs q
position_kept [] q = refl
position_kept (x ∷ xs) q = ap (λ (r : ℕ). if q == x.topic then x.position else r) (position_kept xs q)

topics_kept : (xs : List Input) → topics_in (map with_committed xs) ≡ topics_in xs
topics_kept [] = refl
topics_kept (x ∷ xs) = ap (λ ns. x.topic ∷ ns) (topics_kept xs)

clean_in : (all xs : List Input) → are_committed all xs ≡ true → (q : ℕ) → has_topic q (topics_in xs) ≡ true → position_in all q ≡ committed_in all q
clean_in all [] h q there = absurd (true≢false (sym there))
clean_in all (x ∷ xs) h q there = elim (position_in all x.topic == committed_in all x.topic) as (λ b. (position_in all x.topic == committed_in all x.topic) ≡ b → (if b then are_committed all xs else false) ≡ true → position_in all q ≡ committed_in all q) [
  | true ↦ λ e g. elim (q == x.topic) as (λ b. (q == x.topic) ≡ b → (b || has_topic q (topics_in xs)) ≡ true → position_in all q ≡ committed_in all q) [
    | true ↦ λ f t. subst (λ n. position_in all n ≡ committed_in all n) (sym (eq_is q x.topic f)) (eq_is (position_in all x.topic) (committed_in all x.topic) e)
    | false ↦ λ f t. clean_in all xs g q t
  ] refl there
  | false ↦ λ e g. absurd (true≢false (sym g))
] refl h

absent : (xs : List Input) (q : ℕ) → has_topic q (topics_in xs) ≡ false → position_in xs q ≡ committed_in xs q
absent [] q none = refl
absent (x ∷ xs) q none = elim (q == x.topic) as (λ b. (b || has_topic q (topics_in xs)) ≡ false → (if b then x.position else position_in xs q) ≡ (if b then x.committed else committed_in xs q)) [
  | true ↦ λ t. absurd (true≢false t)
  | false ↦ λ t. absent xs q t
] none

pub clean_is : (xs : List Input) → are_committed xs xs ≡ true → (q : ℕ) → position_in xs q ≡ committed_in xs q
clean_is xs h q = elim (has_topic q (topics_in xs)) as (λ b. has_topic q (topics_in xs) ≡ b → position_in xs q ≡ committed_in xs q) [
  | true ↦ λ e. clean_in xs xs h q e
  | false ↦ λ e. absent xs q e
] refl

pub is_clean : (all xs : List Input) → ((q : ℕ) → position_in all q ≡ committed_in all q) → are_committed all xs ≡ true
is_clean all [] h = refl
is_clean all (x ∷ xs) h = ap (λ b. if b then are_committed all xs else false) ((Decides-eqb (position_in all x.topic) (committed_in all x.topic)).1 (h x.topic)) ∙ is_clean all xs h

-- ---- changelogs
numbers_ended : (ends : List (ℕ × ℕ)) (ls : List Changelog) → numbers_of (map (ended ends) ls) ≡ numbers_of ls
numbers_ended ends [] = refl
numbers_ended ends (l ∷ ls) = ap (λ ns. l.topic ∷ ns) (numbers_ended ends ls)

stores_ended : (ends : List (ℕ × ℕ)) (ls : List Changelog) (n : ℕ) → stores_in (map (ended ends) ls) n ≡ stores_in ls n
stores_ended ends [] n = refl
stores_ended ends (l ∷ ls) n = ap (λ (s : Store). if n == l.topic then l.store.whole else s) (stores_ended ends ls n)

pub own_offset : (ns : List ℕ) (topic old : ℕ) (ends : List (ℕ × ℕ)) → offset_in old topic (own_ends ns ends) ≡ cond (has_topic topic ns) (offset_in old topic ends) old
own_offset ns topic old [] = sym (both (has_topic topic ns) old)
own_offset ns topic old (e ∷ es) =
    let more = own_offset ns topic old es in
    elim (has_topic e.0 ns) as (λ b. has_topic e.0 ns ≡ b → offset_in old topic (cond b (e ∷ own_ends ns es) (own_ends ns es)) ≡ cond (has_topic topic ns) (if topic == e.0 then e.1 else offset_in old topic es) old) [
      | true ↦ λ h. elim (topic == e.0) as (λ b. (topic == e.0) ≡ b → (if b then e.1 else offset_in old topic (own_ends ns es)) ≡ cond (has_topic topic ns) (if b then e.1 else offset_in old topic es) old) [
        | true ↦ λ f. sym (ap (λ c. cond c e.1 old) (ap (λ n. has_topic n ns) (eq_is topic e.0 f) ∙ h))
        | false ↦ λ f. more
      ] refl
      | false ↦ λ h. more ∙ elim (topic == e.0) as (λ b. (topic == e.0) ≡ b → cond (has_topic topic ns) (offset_in old topic es) old ≡ cond (has_topic topic ns) (if b then e.1 else offset_in old topic es) old) [
        | true ↦ λ f. let none : has_topic topic ns ≡ false = ap (λ n. has_topic n ns) (eq_is topic e.0 f) ∙ h in ap (λ c. cond c (offset_in old topic es) old) none ∙ sym (ap (λ c. cond c e.1 old) none)
        | false ↦ λ f. refl
      ] refl
    ] refl

position_ended : (ends : List (ℕ × ℕ)) (ls : List Changelog) (topic : ℕ) → positions_in (map (ended ends) ls) topic ≡ cond (has_topic topic (numbers_of ls)) (offset_in (positions_in ls topic) topic ends) (positions_in ls topic)
position_ended ends [] topic = refl
position_ended ends (l ∷ ls) topic =
    elim (topic == l.topic) as (λ b. (topic == l.topic) ≡ b →
    (if b then offset_in l.position l.topic ends else positions_in (map (ended ends) ls) topic) ≡ cond (b || has_topic topic (numbers_of ls)) (offset_in (if b then l.position else positions_in ls topic) topic ends) (if b then l.position else positions_in ls topic)) [
      | true ↦ λ e. ap (λ n. offset_in l.position n ends) (sym (eq_is topic l.topic e))
      | false ↦ λ e. position_ended ends ls topic
    ] refl

same_number : (n : ℕ) (ns : List ℕ) → has_number n ns ≡ has_topic n ns
same_number n [] = refl
same_number n (m ∷ ms) = ap (λ b. (n == m) || b) (same_number n ms)

store_after : (part : ℕ) (made : List (PartId × Rec)) (ls : List Changelog) (n : ℕ) →
    stores_in (map (log_after part made) ls) n ≡ cond (has_number n (numbers_of ls)) (keep_all (stores_in ls n) (records_at (record { topic = n; part = part }) made)) (stores_in ls n)
store_after part made [] n = refl
store_after part made (l ∷ ls) n =
    elim (n == l.topic) as (λ b. (n == l.topic) ≡ b →
    (if b then keep_all l.store.whole (records_at (record { topic = l.topic; part = part }) made) else stores_in (map (log_after part made) ls) n)
    ≡ cond (b || has_number n (numbers_of ls)) (keep_all (if b then l.store.whole else stores_in ls n) (records_at (record { topic = n; part = part }) made)) (if b then l.store.whole else stores_in ls n)) [
      | true ↦ λ e. ap (λ m. keep_all l.store.whole (records_at (record { topic = m; part = part }) made)) (sym (eq_is n l.topic e))
      | false ↦ λ e. store_after part made ls n
    ] refl

position_after : (part : ℕ) (made : List (PartId × Rec)) (ls : List Changelog) (n : ℕ) → positions_in (map (log_after part made) ls) n ≡ positions_in ls n
position_after part made [] n = refl
position_after part made (l ∷ ls) n = ap (λ (r : ℕ). if n == l.topic then l.position else r) (position_after part made ls n)

-- ---- records
records-append : (q : PartId) (xs ys : List (PartId × Rec)) → records_at q (xs ++ ys) ≡ records_at q xs ++ records_at q ys
records-append q [] ys = refl
records-append q (x ∷ xs) ys = elim (same_part q x.0) as (λ b. cond b (x.1 ∷ records_at q (xs ++ ys)) (records_at q (xs ++ ys)) ≡ cond b (x.1 ∷ records_at q xs) (records_at q xs) ++ records_at q ys) [
  | true ↦ ap (λ l. x.1 ∷ l) (records-append q xs ys)
  | false ↦ records-append q xs ys
]

records_is : (plan : Work) (q : PartId) (xs : List (PartId × Rec)) → records_at q xs ≡ sent_to (network plan) q xs
records_is plan q [] = refl
records_is plan q (x ∷ xs) = ap (λ l. cond (same_part q x.0) (x.1 ∷ l) l) (records_is plan q xs)

capped_twice : (a b : ℕ) → capped (a + capped b) ≡ capped (a + b)
capped_twice a b = omega arith

pub capped_late : (a n m late : ℕ) → n ≡ capped m → late ≡ capped (a + n) → late ≡ capped (a + m)
capped_late a n m late e f = f ∙ (ap (λ i. capped (a + i)) e ∙ capped_twice a m)

-- ---- the calls
pub topics_at : (offsets : List (ℕ × ℕ)) → topics_in (map input_at offsets) ≡ map (λ (o : ℕ × ℕ). o.0) offsets
topics_at [] = refl
topics_at (o ∷ os) = ap (λ ns. o.0 ∷ ns) (topics_at os)

committed_at : (offsets : List (ℕ × ℕ)) (q : ℕ) → committed_in (map input_at offsets) q ≡ offset_in 0 q offsets
committed_at [] q = refl
committed_at (o ∷ os) q = ap (λ (r : ℕ). if q == o.0 then o.1 else r) (committed_at os q)

position_at : (offsets : List (ℕ × ℕ)) (q : ℕ) → position_in (map input_at offsets) q ≡ offset_in 0 q offsets
position_at [] q = refl
position_at (o ∷ os) q = ap (λ (r : ℕ). if q == o.0 then o.1 else r) (position_at os q)

pub restored_is : (t : TaskId) (offsets : List (ℕ × ℕ)) (logs : List Changelog) → view_of t (map input_at offsets) logs [] [] 0 ≡ restored_view (view_in t logs) (λ topic. offset_in 0 topic offsets)
restored_is t offsets logs =
    ap₂ (λ (k i : ℕ → ℕ). record { task = t; kept = k; inputs = i; order = []; position = positions_in logs; stores = stores_in logs; made = λ (q : PartId). []; late = 0 })
    (fun_ext (λ q. committed_at offsets q)) (fun_ext (λ q. position_at offsets q))

-- ---- what the stores hold back
-- after more records, of what was made before and of these
cached_more : (part cache : ℕ) (made more : List (PartId × Rec)) (ls : List Changelog) → All (IsCached part cache made) ls → All (IsCached part cache (made ++ more)) (map (log_after part more) ls)
cached_more part cache made more [] h = All-nil (IsCached part cache (made ++ more))
cached_more part cache made more (l ∷ ls) h =
    let q : PartId = record { topic = l.topic; part = part } in
    let own : IsCached part cache made l = All-head (IsCached part cache made) l ls h in
    All-cons (IsCached part cache (made ++ more)) (log_after part more l) (map (log_after part more) ls)
    (record {
      capacity = own.capacity;
      cached = ap₂ (λ c es. cached_after c es (records_at q more)) own.capacity own.cached
          ∙ sym (ap (cached_after cache []) (records-append q made more) ∙ cached_after-append cache [] (records_at q made) (records_at q more));
    })
    (cached_more part cache made more ls (All-tail (IsCached part cache made) l ls h))

-- nothing, after a commit
cached_ended : (part cache : ℕ) (made : List (PartId × Rec)) (ends : List (ℕ × ℕ)) (ls : List Changelog) → All (IsCached part cache made) ls → All (IsCached part cache []) (map (ended ends) ls)
cached_ended part cache made ends [] h = All-nil (IsCached part cache [])
cached_ended part cache made ends (l ∷ ls) h =
    let own : IsCached part cache made l = All-head (IsCached part cache made) l ls h in
    All-cons (IsCached part cache []) (ended ends l) (map (ended ends) ls) (record { capacity = own.capacity; cached = refl }) (cached_ended part cache made ends ls (All-tail (IsCached part cache made) l ls h))

-- nothing, where a task begins
pub cached_first : (part cache : ℕ) (ls : List Changelog) → All (IsCached part cache []) (map (holding cache) ls)
cached_first part cache [] = All-nil (IsCached part cache [])
cached_first part cache (l ∷ ls) = All-cons (IsCached part cache []) (holding cache l) (map (holding cache) ls) (record { capacity = refl; cached = refl }) (cached_first part cache ls)

pub cached_there : (t : TaskId) (cache : ℕ) (made : List (PartId × Rec)) (ls : List Changelog) (topic : ℕ) → All (IsCached t.part cache made) ls → has_topic topic (numbers_of ls) ≡ true →
    cached_in ls topic ≡ cached_after cache [] (records_at (part_of topic t) made)
cached_there t cache made [] topic h there = absurd (true≢false (sym there))
cached_there t cache made (l ∷ ls) topic h there =
    let own : IsCached t.part cache made l = All-head (IsCached t.part cache made) l ls h in
    elim (topic == l.topic) as (λ b. (topic == l.topic) ≡ b → b || has_topic topic (numbers_of ls) ≡ true → (if b then l.store.cached else cached_in ls topic) ≡ cached_after cache [] (records_at (part_of topic t) made)) [
      | true ↦ λ e x. own.cached ∙ ap (λ n. cached_after cache [] (records_at (part_of n t) made)) (sym (eq_is topic l.topic e))
      | false ↦ λ e x. cached_there t cache made ls topic (All-tail (IsCached t.part cache made) l ls h) x
    ] refl there

pub cached_nowhere : (ls : List Changelog) (topic : ℕ) → has_topic topic (numbers_of ls) ≡ false → cached_in ls topic ≡ []
cached_nowhere [] topic none = refl
cached_nowhere (l ∷ ls) topic none = elim (topic == l.topic) as (λ b. b || has_topic topic (numbers_of ls) ≡ false → (if b then l.store.cached else cached_in ls topic) ≡ []) [
  | true ↦ λ x. absurd (true≢false x)
  | false ↦ λ x. cached_nowhere ls topic x
] none

numbers_after : (part : ℕ) (made : List (PartId × Rec)) (ls : List Changelog) → numbers_of (map (log_after part made) ls) ≡ numbers_of ls
numbers_after part made [] = refl
numbers_after part made (l ∷ ls) = ap (λ ns. l.topic ∷ ns) (numbers_after part made ls)

pub numbers_held : (cache : ℕ) (ls : List Changelog) → numbers_of (map (holding cache) ls) ≡ numbers_of ls
numbers_held cache [] = refl
numbers_held cache (l ∷ ls) = ap (λ ns. l.topic ∷ ns) (numbers_held cache ls)

module _ (d : DraftView) (id : TaskId) (nodes : List NodeTopics) (inputs : List Input) (logs : List Changelog) (was : List (PartId × Rec)) (cache : ℕ) (h : IsTask d id nodes inputs logs was cache) where
  pub still : (inputs' : List Input) (logs' : List Changelog) (made' : List (PartId × Rec)) → topics_in inputs' ≡ topics_in inputs → numbers_of logs' ≡ numbers_of logs → All (IsCached id.part cache made') logs' → IsTask d id nodes inputs' logs' made' cache
  still inputs' logs' made' i l c = record { well_formed = h.well_formed; have = h.have; fits = h.fits; there = h.there; nodes_are = h.nodes_are; inputs_are = i ∙ h.inputs_are; logs_are = l ∙ h.logs_are; caches_are = c }

  pub still_skipped : (topic to : ℕ) (inputs' : List Input) → inputs' ≡ map (moved_to topic to) inputs → IsTask d id nodes inputs' logs was cache
  still_skipped topic to inputs' i = still inputs' logs was (ap topics_in i ∙ topics_moved topic to inputs) refl h.caches_are

  pub still_moved : (topic to : ℕ) (inputs' : List Input) (logs' : List Changelog) (more made' : List (PartId × Rec)) → inputs' ≡ map (moved_to topic to) inputs → logs' ≡ map (log_after id.part more) logs → made' ≡ was ++ more → IsTask d id nodes inputs' logs' made' cache
  still_moved topic to inputs' logs' more made' i l o =
      still inputs' logs' made' (ap topics_in i ∙ topics_moved topic to inputs) (ap numbers_of l ∙ numbers_after id.part more logs)
      (subst (λ m. All (IsCached id.part cache m) logs') (sym o) (subst (All (IsCached id.part cache (was ++ more))) (sym l) (cached_more id.part cache was more logs h.caches_are)))

  pub still_kept : (ends : List (ℕ × ℕ)) (inputs' : List Input) (logs' : List Changelog) (made' : List (PartId × Rec)) → inputs' ≡ map with_committed inputs → logs' ≡ map (ended ends) logs → made' ≡ [] → IsTask d id nodes inputs' logs' made' cache
  still_kept ends inputs' logs' made' i l o =
      still inputs' logs' made' (ap topics_in i ∙ topics_kept inputs) (ap numbers_of l ∙ numbers_ended ends logs)
      (subst (λ m. All (IsCached id.part cache m) logs') (sym o) (subst (All (IsCached id.part cache [])) (sym l) (cached_ended id.part cache was ends logs h.caches_are)))

  named : (topic : ℕ) → has_topic topic (input_numbers (plan_of d) id.sub) ≡ true → has_topic topic (topics_in inputs) ≡ true
  named topic there = ap (has_topic topic) h.inputs_are ∙ there

  pub skipped : (topic to : ℕ) (inputs' : List Input) (order : List (ℕ × ℕ)) (made : List (PartId × Rec)) (late : ℕ) → has_topic topic (input_numbers (plan_of d) id.sub) ≡ true → inputs' ≡ map (moved_to topic to) inputs →
      view_of id inputs' logs order made late ≡ skip_view (view_of id inputs logs order made late) topic to
  skipped topic to inputs' order made late there i =
      ap (λ l. view_of id l logs order made late) i
      ∙ ap₂ (λ (k i : ℕ → ℕ). record { task = id; kept = k; inputs = i; order = order; position = positions_in logs; stores = stores_in logs; made = λ q. records_at q made; late = late })
      (fun_ext (λ q. kept_moved topic to inputs q)) (moved_positions topic to inputs (named topic there))

  pub kept_all : (ends : List (ℕ × ℕ)) (inputs' : List Input) (logs' : List Changelog) (order : List (ℕ × ℕ)) (made : List (PartId × Rec)) (late : ℕ) → inputs' ≡ map with_committed inputs → logs' ≡ map (ended ends) logs →
      view_of id inputs' logs' [] [] 0 ≡ committed_view (view_of id inputs logs order made late) (own_ends (changelog_numbers (plan_of d) id.sub) ends)
  kept_all ends inputs' logs' order made late i l =
      ap₂ (λ x y. view_of id x y [] [] 0) i l
      ∙ ap₂ (λ (k i : ℕ → ℕ). record { task = id; kept = k; inputs = i; order = []; position = positions_in (map (ended ends) logs); stores = stores_in (map (ended ends) logs); made = λ (q : PartId). []; late = 0 })
      (fun_ext (λ q. kept_here inputs q)) (fun_ext (λ q. position_kept inputs q))
      ∙ ap₂ (λ (p : ℕ → ℕ) (s : ℕ → Store). record { task = id; kept = position_in inputs; inputs = position_in inputs; order = []; position = p; stores = s; made = λ (q : PartId). []; late = 0 })
      (fun_ext (λ q. position_ended ends logs q ∙ (sym (own_offset (numbers_of logs) q (positions_in logs q) ends) ∙ ap (λ ns. offset_in (positions_in logs q) q (own_ends ns ends)) h.logs_are)))
      (fun_ext (λ q. stores_ended ends logs q))

  pub taken : (hash : List ℕ → ℕ) (topic offset : ℕ) (rec : Rec) (inputs' : List Input) (logs' : List Changelog) (order order' : List (ℕ × ℕ)) (made more made' : List (PartId × Rec)) (late some late' : ℕ) →
      has_topic topic (input_numbers (plan_of d) id.sub) ≡ true →
      inputs' ≡ map (moved_to topic (offset + 1)) inputs →
      more ≡ made_or_none (rules_of hash) (nodes_of (plan_of d) id.sub) (stores_in logs) id.part (arrival_at (plan_of d).kinds (topic_at (plan_of d) topic) rec) →
      AreStores (stores_in logs) → IsRecord rec →
      logs' ≡ map (log_after id.part more) logs → order' ≡ with_taken topic order → made' ≡ made ++ more →
      some ≡ late_or_none (nodes_of (plan_of d) id.sub) (stores_in logs) (arrival_at (plan_of d).kinds (topic_at (plan_of d) topic) rec) → late' ≡ capped (late + some) →
      view_of id inputs' logs' order' made' late' ≡ take_view (work_of (rules_of hash) (plan_of d)) (view_of id inputs logs order made late) topic offset rec
  taken hash topic offset rec inputs' logs' order order' made more made' late some late' there i m held is l o q f g =
      let p = plan_of d in
      let plan = work_of (rules_of hash) p in
      let step = step_is d h.well_formed h.have h.fits hash id (stores_in logs) held topic rec is there in
      let out : byte_step (rules_of hash) p id (stores_in logs) (part_of topic id) rec ≡ record { store = stores_after p id (stores_in logs) more; made = more; late = some } =
      step ∙ ap₂ (λ xs n. record { store = stores_after p id (stores_in logs) xs; made = xs; late = n }) (sym m) (sym f) in
      let stores : stores_in logs' ≡ stores_after p id (stores_in logs) more =
      ap stores_in l ∙ fun_ext (λ n. store_after id.part more logs n ∙ ap (λ ns. cond (has_number n ns) (keep_all (stores_in logs n) (records_at (record { topic = n; part = id.part }) more)) (stores_in logs n)) h.logs_are) in
      ap₂ (λ (k i : ℕ → ℕ). record { task = id; kept = k; inputs = i; order = order'; position = positions_in logs'; stores = stores_in logs'; made = λ q. records_at q made'; late = late' })
      (ap committed_in i ∙ fun_ext (λ q. kept_moved topic (offset + 1) inputs q)) (ap position_in i ∙ moved_positions topic (offset + 1) inputs (named topic there))
      ∙ ap₂ (λ (p : ℕ → ℕ) (s : ℕ → Store). record { task = id; kept = committed_in inputs; inputs = with_number (position_in inputs) topic (offset + 1); order = order'; position = p; stores = s; made = λ q. records_at q made'; late = late' })
      (ap positions_in l ∙ fun_ext (λ q. position_after id.part more logs q)) stores
      ∙ ap₂ (λ (o : List (ℕ × ℕ)) (f : PartId → List Rec). record { task = id; kept = committed_in inputs; inputs = with_number (position_in inputs) topic (offset + 1); order = o; position = positions_in logs; stores = stores_after p id (stores_in logs) more; made = f; late = late' })
      o (fun_ext (λ at. ap (records_at at) q ∙ (records-append at made more ∙ ap (λ rs. records_at at made ++ rs) (records_is plan at more))))
      ∙ ap (λ n. record { task = id; kept = committed_in inputs; inputs = with_number (position_in inputs) topic (offset + 1); order = with_taken topic order; position = positions_in logs; stores = stores_after p id (stores_in logs) more; made = λ at. records_at at made ++ sent_to (network plan) at more; late = n }) g
      ∙ ap (λ (out : Outcome PartId ByteStores Rec). record { task = id; kept = committed_in inputs; inputs = with_number (position_in inputs) topic (offset + 1); order = with_taken topic order; position = positions_in logs; stores = out.store; made = λ at. records_at at made ++ sent_to (network plan) at out.made; late = capped (late + out.late) }) (sym out)

  pub frozen : (hash : List ℕ → ℕ) (order : List (ℕ × ℕ)) (made : List (PartId × Rec)) (late : ℕ) (f : WorkView) → f.task ≡ id → f.offsets ≡ map (λ topic. (topic, position_in inputs topic)) (topics_in inputs) → f.order ≡ order → f.late ≡ late → f.outputs ≡ grouped [] made →
      IsFrozen (work_of (rules_of hash) (plan_of d)) (view_of id inputs logs order made late) f
  frozen hash order made late f t o r l g = record {
    task = t;
    offsets = o ∙ ap (map (λ topic. (topic, position_in inputs topic))) h.inputs_are;
    order = r;
    late = l;
    outputs = λ q. ap (recs_at q) g ∙ grouped_recs q made [] refl;
    once = ap are_outputs g ∙ grouped_once made [] refl;
  }
