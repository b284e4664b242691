-- Replicas that are fed, tasks made of them, and tasks put away.
use Rattle.std.proofs.Common.{◌≡◌, ◌≢◌, ℕ, zero, suc, ◌+◌, ◌≤◌, ◌<◌, Bool, true, false, cond, inl, List, [], ◌∷◌, ◌++◌, length, take, drop, map, refl, sym, ap, ap₂, subst, ◌∙◌, arith, append-nil, ⊎_elim}
use Rattle.std.specs.Prelude.{◌==◌, max}
use Rattle.std.proofs.lemmas.Bool.{eqb-true, eq-eqb, true≢false, cases_lt}
use Rattle.ks_def_runs.specs.Bytes.{empty_store}
use Rattle.ks_record.specs.Records.{Record as Rec}
use Rattle.ks_record.specs.declared.record.TaskId.{TaskId}
use Rattle.ks_record.specs.declared.record.PartId.{PartId}
use Rattle.ks_def_runs.specs.Run.{Taken, local}
use Rattle.ks_history.specs.Partition.{Logged, stable, readable, recs, past_from, below, past_last, with_offsets, read, read_next}
use Rattle.ks_history.specs.Machine.{latest, latest_from, network, part_of, has_topic, taken_from, batch}
use Rattle.ks_history.specs.State.{State}
use Rattle.ks_history.specs.Faithful.{decided, fold as fold_of, folds, taken, waiting_at, markers_of}
use Rattle.ks_history.specs.Follows.{IsReached}
use Rattle.ks_history.specs.History.{at}
use Rattle.ks_law_exactly_once.proofs.Replays.{whole}
use Rattle.ks_law_exactly_once.proofs.Batches.{take_nothing}
use Rattle.ks_law_exactly_once.proofs.Slots.{Rising, below_none, readable_is, recs-append, nothing_between}
use Rattle.ks_law_exactly_once.proofs.Stores.{latest_from-append}
use Rattle.ks_law_restore.specs.Replicas.{ReplicaStarts, FeedingFollows, RestoredStands, RestedFollows}
use Rattle.ks_law_restore.proofs.Lasting.{first_before_last}
use Rattle.ks_law_restore.proofs.Offsets.{below_in, below_out, below-append, below_below, below_least, cut, past_rises, past_nothing, past_out, past_in, readable_rises}

-- ---- a fresh replica
none_below : (xs : List Logged) → below 0 xs ≡ []
none_below [] = refl
none_below (x ∷ xs) = below_out 0 x xs (omega arith) ∙ none_below xs

pub replica_starts : ReplicaStarts
replica_starts setup journal t = record {
  stores = λ topic h. sym (ap (λ l. latest (recs l)) (none_below (decided (at setup journal) (part_of topic t))));
  reached = λ topic h. inl (omega arith);
}

-- ---- the records that a fetch gives
values_of : (xs : List Logged) → map (λ (x : ℕ × Rec). x.1) (with_offsets xs) ≡ recs xs
values_of [] = refl
values_of (x ∷ xs) = ap (λ l. x.rec ∷ l) (values_of xs)

take_offsets : (n : ℕ) (xs : List Logged) → take n (with_offsets xs) ≡ with_offsets (take n xs)
take_offsets zero xs = refl
take_offsets (suc n) [] = refl
take_offsets (suc n) (x ∷ xs) = ap (λ l. (x.offset, x.rec) ∷ l) (take_offsets n xs)

length_offsets : (xs : List Logged) → length (with_offsets xs) ≡ length xs
length_offsets [] = refl
length_offsets (x ∷ xs) = ap (λ n. suc n) (length_offsets xs)

take_short : {A : Type 0} (n : ℕ) (xs : List A) → length (take n xs) ≢ n → take n xs ≡ xs
take_short zero xs ne = absurd (ne refl)
take_short (suc n) [] ne = refl
take_short (suc n) (x ∷ xs) ne = ap (λ l. x ∷ l) (take_short n xs (λ e. ne (ap (λ k. suc k) e)))

still_rising : (n lo : ℕ) (xs : List Logged) → Rising lo xs → Rising lo (take n xs)
still_rising zero lo xs r = tt
still_rising (suc n) lo [] r = tt
still_rising (suc n) lo (x ∷ xs) r = (r.0, still_rising n (x.offset + 1) xs r.1)

-- the first so many of records that rise are those below one past the last of them
first_below_last : (n lo : ℕ) (xs : List Logged) → Rising lo xs → length (take (suc n) xs) ≡ suc n → below (past_last (with_offsets (take (suc n) xs))) xs ≡ take (suc n) xs
first_below_last n lo [] r e = absurd (omega (arith, e))
first_below_last zero lo (x ∷ xs) r e = below_in (x.offset + 1) x xs (omega arith) ∙ ap (λ l. x ∷ l) (below_none (x.offset + 1) (x.offset + 1) xs (omega arith) r.1)
first_below_last (suc n) lo (x ∷ []) r e = absurd (omega (arith, e))
first_below_last (suc n) lo (x ∷ y ∷ xs) r e =
    let high : ℕ = past_last (with_offsets (take (suc n) (y ∷ xs))) in
    let over : x.offset < high = omega (arith, r.1.0, first_before_last (x.offset + 1) y (take n xs) (r.1.0, still_rising n (y.offset + 1) xs r.1.1)) in
    below_in high x (y ∷ xs) over ∙ ap (λ l. x ∷ l) (first_below_last n (x.offset + 1) (y ∷ xs) r.1 (omega (arith, e)))

-- offsets below a bound
abbrev AllUnder : ℕ → List Logged → Type 0
AllUnder high [] = Unit {0}
AllUnder high (x ∷ xs) = (x.offset < high) × AllUnder high xs

under_below : (high : ℕ) (xs : List Logged) → AllUnder high (below high xs)
under_below high [] = tt
under_below high (x ∷ xs) = ⊎_elim
    (λ (less : x.offset < high). subst (AllUnder high) (sym (below_in high x xs less)) (less, under_below high xs))
    (λ (more : high ≤ x.offset). subst (AllUnder high) (sym (below_out high x xs more)) (under_below high xs))
    (cases_lt x.offset high)

under_past : (high low : ℕ) (xs : List Logged) → AllUnder high xs → AllUnder high (past_from low xs)
under_past high low [] h = tt
under_past high low (x ∷ xs) h = ⊎_elim
    (λ (less : x.offset < low). subst (AllUnder high) (sym (past_out low x xs less)) (under_past high low xs h.1))
    (λ (more : low ≤ x.offset). subst (AllUnder high) (sym (past_in low x xs more)) (h.0, under_past high low xs h.1))
    (cases_lt x.offset low)

under_take : (high n : ℕ) (xs : List Logged) → AllUnder high xs → AllUnder high (take n xs)
under_take high zero xs h = tt
under_take high (suc n) [] h = tt
under_take high (suc n) (x ∷ xs) h = (h.0, under_take high n xs h.1)

under_last : (high : ℕ) (xs : List Logged) → AllUnder high xs → past_last (with_offsets xs) ≤ high
under_last high [] h = omega arith
under_last high (x ∷ []) h = omega (arith, h.0)
under_last high (x ∷ y ∷ xs) h = under_last high (y ∷ xs) h.1

-- ---- feeding
module _ (s : State) (q : PartId) (position limit : ℕ) (some : 1 ≤ limit) (at_most : IsReached s q position) where
  abbrev ahead : List Logged
  ahead = past_from position (readable (s.partition q))

  readable_below : readable (s.partition q) ≡ below (stable (s.partition q)) (decided s q)
  readable_below = readable_is (waiting_at (markers_of s) q) (s.partition q)

  ahead_rises : Rising position (past_from position (readable (s.partition q)))
  ahead_rises = past_rises position 0 (readable (s.partition q)) (readable_rises (s.partition q))

  -- up to an offset that isn't past the stable one: what stood below the position, and what is readable between
  up_to : (next : ℕ) → position ≤ next → next ≤ stable (s.partition q) → below next (decided s q) ≡ below position (decided s q) ++ below next (past_from position (readable (s.partition q)))
  up_to next h e =
      sym (below_least next (stable (s.partition q)) (decided s q) e) ∙ ap (below next) (sym readable_below)
      ∙ ap (below next) (cut position 0 (readable (s.partition q)) (readable_rises (s.partition q)))
      ∙ below-append next (below position (readable (s.partition q))) ahead
      ∙ ap (λ l. l ++ below next ahead) (below_below position next (readable (s.partition q)) h ∙ ap (below position) readable_below ∙ below_least position (stable (s.partition q)) (decided s q) (omega (arith, h, e)))

  -- what is read is what is decided between the two positions
  record IsFed (next : ℕ) (got : List Logged) : Type 0 where
    decided_now : below next (decided s q) ≡ below position (decided s q) ++ got
    reached_now : IsReached s q next

  ahead_under : AllUnder (stable (s.partition q)) (past_from position (readable (s.partition q)))
  ahead_under = subst (λ l. AllUnder (stable (s.partition q)) (past_from position l)) (sym readable_below) (under_past (stable (s.partition q)) position _ (under_below (stable (s.partition q)) (decided s q)))

  full_fed : (n : ℕ) → limit ≡ suc n → length (take limit ahead) ≡ limit → IsFed (past_last (with_offsets (take limit ahead))) (take limit ahead)
  full_fed n is e = subst (λ k. length (take k ahead) ≡ k → IsFed (past_last (with_offsets (take k ahead))) (take k ahead)) (sym is) of_more e
    where
      of_more : length (take (suc n) ahead) ≡ suc n → IsFed (past_last (with_offsets (take (suc n) ahead))) (take (suc n) ahead)
      of_more g =
          let next : ℕ = past_last (with_offsets (take (suc n) ahead)) in
          let most : next ≤ stable (s.partition q) = under_last (stable (s.partition q)) (take (suc n) ahead) (under_take (stable (s.partition q)) (suc n) ahead ahead_under) in
          let least : position ≤ next = first_over n ahead ahead_rises g in
          record { decided_now = up_to next least most ∙ ap (λ l. below position (decided s q) ++ l) (first_below_last n position ahead ahead_rises g); reached_now = inl most }
        where
          first_over : (n : ℕ) (xs : List Logged) → Rising position xs → length (take (suc n) xs) ≡ suc n → position ≤ past_last (with_offsets (take (suc n) xs))
          first_over n [] r e = absurd (omega (arith, e))
          first_over n (x ∷ xs) r e = omega (arith, r.0, first_before_last position x (take n xs) (r.0, still_rising n (x.offset + 1) xs r.1))

  short_fed : IsFed (max position (stable (s.partition q))) ahead
  short_fed = ⊎_elim
      (λ (past : stable (s.partition q) < position).
      let next : max position (stable (s.partition q)) ≡ position = omega (arith, past) in
      let none : ahead ≡ [] = ap (past_from position) readable_below ∙ past_nothing position (stable (s.partition q)) (decided s q) (omega (arith, past)) in
      record {
        decided_now = ap (λ k. below k (decided s q)) next ∙ sym (append-nil (below position (decided s q))) ∙ ap (λ l. below position (decided s q) ++ l) (sym none);
        reached_now = subst (IsReached s q) (sym next) at_most;
      })
      (λ (within : position ≤ stable (s.partition q)).
      let next : max position (stable (s.partition q)) ≡ stable (s.partition q) = omega (arith, within) in
      record {
        decided_now = ap (λ k. below k (decided s q)) next ∙ up_to (stable (s.partition q)) within (omega arith) ∙ ap (λ l. below position (decided s q) ++ l) (all_under (stable (s.partition q)) ahead ahead_under);
        reached_now = inl (omega (arith, next));
      })
      (cases_lt (stable (s.partition q)) position)
    where
      all_under : (high : ℕ) (xs : List Logged) → AllUnder high xs → below high xs ≡ xs
      all_under high [] h = refl
      all_under high (x ∷ xs) h = below_in high x xs h.0 ∙ ap (λ l. x ∷ l) (all_under high xs h.1)

  read_is : read position limit (s.partition q) ≡ with_offsets (take limit ahead)
  read_is = take_offsets limit ahead

  read_length : length (read position limit (s.partition q)) ≡ length (take limit ahead)
  read_length = ap length read_is ∙ length_offsets (take limit ahead)

  is_fed : IsFed (read_next position limit (s.partition q)) (take limit ahead)
  is_fed = by (length (read position limit (s.partition q)) == limit) refl
    where
      suc_of : (n : ℕ) → 1 ≤ n → (m : ℕ) × (n ≡ suc m)
      suc_of zero h = absurd (omega (arith, h))
      suc_of (suc m) h = (m, refl)

      by : (b : Bool) → (length (read position limit (s.partition q)) == limit) ≡ b →
          IsFed (cond b (past_last (read position limit (s.partition q))) (max position (stable (s.partition q)))) (take limit ahead)
      by true is =
          let more = suc_of limit some in
          subst (λ l. IsFed (past_last l) (take limit ahead)) (sym read_is) (full_fed more.0 more.1 (sym read_length ∙ eqb-true (length (read position limit (s.partition q))) limit is))
      by false is =
          let short : take limit ahead ≡ ahead = take_short limit ahead (λ e. true≢false (sym (eq-eqb (length (read position limit (s.partition q))) limit (read_length ∙ e)) ∙ is)) in
          subst (IsFed (max position (stable (s.partition q)))) (sym short) short_fed

pub feeding_follows : FeedingFollows
feeding_follows setup journal r topic limit log some follows = record { stores = λ n h. stores n (n == topic) refl h; reached = λ n h. reached n (n == topic) refl h }
  where
    fed : IsFed (at setup journal) (part_of topic r.task) (r.position topic) limit some (follows.reached topic log) (read_next (r.position topic) limit ((at setup journal).partition (part_of topic r.task))) (take limit (past_from (r.position topic) (readable ((at setup journal).partition (part_of topic r.task)))))
    fed = is_fed (at setup journal) (part_of topic r.task) (r.position topic) limit some (follows.reached topic log)

    here : latest_from (r.stores topic) (map (λ (x : ℕ × Rec). x.1) (read (r.position topic) limit ((at setup journal).partition (part_of topic r.task))))
        ≡ latest (recs (below (read_next (r.position topic) limit ((at setup journal).partition (part_of topic r.task))) (decided (at setup journal) (part_of topic r.task))))
    here =
        let q : PartId = part_of topic r.task in
        let ahead : List Logged = past_from (r.position topic) (readable ((at setup journal).partition q)) in
        let old : List Logged = below (r.position topic) (decided (at setup journal) q) in
        ap₂ latest_from (follows.stores topic log) (ap (map (λ (x : ℕ × Rec). x.1)) (take_offsets limit ahead) ∙ values_of (take limit ahead))
        ∙ sym (latest_from-append empty_store (recs old) (recs (take limit ahead)))
        ∙ ap latest (sym (recs-append old (take limit ahead)) ∙ ap recs (sym fed.decided_now))

    stores : (n : ℕ) (b : Bool) → (n == topic) ≡ b → has_topic n (setup.plan.changelogs r.task.sub) ≡ true →
        cond b (latest_from (r.stores topic) (map (λ (x : ℕ × Rec). x.1) (read (r.position topic) limit ((at setup journal).partition (part_of topic r.task))))) (r.stores n)
        ≡ latest (recs (below (cond b (read_next (r.position topic) limit ((at setup journal).partition (part_of topic r.task))) (r.position n)) (decided (at setup journal) (part_of n r.task))))
    stores n true is h = here ∙ ap (λ k. latest (recs (below (read_next (r.position topic) limit ((at setup journal).partition (part_of topic r.task))) (decided (at setup journal) (part_of k r.task))))) (sym (eqb-true n topic is))
    stores n false is h = follows.stores n h

    reached : (n : ℕ) (b : Bool) → (n == topic) ≡ b → has_topic n (setup.plan.changelogs r.task.sub) ≡ true →
        IsReached (at setup journal) (part_of n r.task) (cond b (read_next (r.position topic) limit ((at setup journal).partition (part_of topic r.task))) (r.position n))
    reached n true is h = subst (λ k. IsReached (at setup journal) (part_of k r.task) (read_next (r.position topic) limit ((at setup journal).partition (part_of topic r.task)))) (sym (eqb-true n topic is)) fed.reached_now
    reached n false is h = follows.reached n h

-- ---- tasks made of replicas, and replicas of tasks
pub restored_stands : RestoredStands
restored_stands setup journal r offsets net history follows neat committed all = (
  record {
    kept = λ topic h. committed topic h;
    committed = λ topic h. omega (arith, committed topic h);
    stable = λ topic h. omega (arith, committed topic h, (whole setup net journal history).sound.committed r.task topic);
    order = λ topic. nothing topic (has_topic topic (setup.plan.inputs r.task.sub)) refl;
    past = λ topic h. all topic h;
    reached = follows.reached;
    stores = λ topic h. follows.stores topic h ∙ ap (λ (l : List Logged). latest (recs l)) (all topic h) ∙ ap (λ b. cond b (fold_of (at setup journal) (part_of topic r.task)) empty_store) (sym h);
    made = λ q. refl;
    late = omega arith;
  },
  neat,
)
  where
    nothing : (topic : ℕ) (b : Bool) → has_topic topic (setup.plan.inputs r.task.sub) ≡ b →
        0 ≡ length (cond b (past_from ((at setup journal).committed r.task topic) (below (offsets topic) (readable ((at setup journal).partition (part_of topic r.task))))) [])
    nothing topic true h = ap length (sym (nothing_between ((at setup journal).committed r.task topic) (offsets topic) (readable ((at setup journal).partition (part_of topic r.task))) (committed topic h)))
    nothing topic false h = refl

drop_none : {A : Type 0} (n : ℕ) → drop {A = A} n [] ≡ []
drop_none zero = refl
drop_none (suc n) = refl

nothing_taken : (t : TaskId) (order : List (ℕ × ℕ)) (inputs : ℕ → List Logged) → ((topic : ℕ) → inputs topic ≡ []) → batch t inputs order ≡ []
nothing_taken t [] inputs none = refl
nothing_taken t (run ∷ runs) inputs none =
    ap₂ (λ l m. l ++ m) (ap (λ l. taken_from t run.0 l) (ap (take run.1) (none run.0) ∙ take_nothing run.1))
    (nothing_taken t runs (λ topic. cond (topic == run.0) (drop run.1 (inputs topic)) (inputs topic)) (λ topic. left (topic == run.0) topic))
  where
    left : (b : Bool) (topic : ℕ) → cond b (drop run.1 (inputs topic)) (inputs topic) ≡ []
    left true topic = ap (drop run.1) (none topic) ∙ drop_none run.1
    left false topic = none topic

pub rested_follows : RestedFollows
rested_follows setup journal v stands clean = record {
  stores = λ topic h.
      stands.0.stores topic h
      ∙ ap (λ (ts : List (Taken TaskId PartId Rec)). (local (network setup.plan) v.task (folds setup (at setup journal) v.task) ts).store topic) (nothing_taken v.task v.order (taken setup (at setup journal) v.task v.inputs) (λ n. none n (has_topic n (setup.plan.inputs v.task.sub)) refl))
      ∙ ap (λ b. cond b (fold_of (at setup journal) (part_of topic v.task)) empty_store) h
      ∙ ap (λ (l : List Logged). latest (recs l)) (sym (stands.0.past topic h));
  reached = stands.0.reached;
}
  where
    none : (n : ℕ) (b : Bool) → has_topic n (setup.plan.inputs v.task.sub) ≡ b →
        cond b (past_from ((at setup journal).committed v.task n) (below (v.inputs n) (readable ((at setup journal).partition (part_of n v.task))))) [] ≡ []
    none n true h = nothing_between ((at setup journal).committed v.task n) (v.inputs n) (readable ((at setup journal).partition (part_of n v.task))) (clean n h ∙ stands.0.kept n h)
    none n false h = refl
