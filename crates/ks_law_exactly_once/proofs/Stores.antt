-- A task's stores are told by its changelogs.
use Rattle.std.proofs.Common.{◌≡◌, ◌≢◌, ℕ, ◌+◌, Bool, true, false, cond, List, [], ◌∷◌, ◌++◌, Option, Some, None, refl, sym, ap, ap₂, ◌∙◌}
use Rattle.std.proofs.lemmas.Bool.{true≢false}
use Rattle.ks_record.specs.Records.{Record as Rec}
use Rattle.ks_record.specs.declared.record.PartId.{PartId}
use Rattle.ks_record.specs.declared.record.TaskId.{TaskId}
use Rattle.ks_record.specs.Parts.{same_task}
use Rattle.ks_def_runs.specs.Bytes.{Store}
use Rattle.ks_def_runs.specs.Run.{Taken, sent_to, same_sender, local}
use Rattle.ks_def_runs.proofs.Runs.{sent_to-append}
use Rattle.ks_history.specs.Machine.{TaskPlan, Stores, network, reader_of, part_of, has_topic, applied, latest_from, IsNetwork}
use Rattle.ks_history.specs.Partition.{Logged, recs, by_sender}
use Rattle.ks_history.proofs.Names.{same_task-refl}

pub latest_from-append : (m : Store) (xs ys : List Rec) → latest_from m (xs ++ ys) ≡ latest_from (latest_from m xs) ys
latest_from-append m [] ys = refl
latest_from-append m (x ∷ xs) ys = latest_from-append (applied m x.key x.value) xs ys

tail_nothing : {A : Type 0} (b : Bool) (x : A) (xs : List A) → cond b (x ∷ xs) xs ≡ [] → xs ≡ []
tail_nothing true x xs e = absurd cc
tail_nothing false x xs e = e

pub recs_nothing : (xs : List Logged) → recs xs ≡ [] → xs ≡ []
recs_nothing [] e = refl
recs_nothing (x ∷ xs) e = absurd cc

-- where no other sent anything, all is one sender's
pub only_sender : (u : TaskId) (xs : List Logged) → ((r : Option TaskId) → r ≢ Some u → by_sender r xs ≡ []) → by_sender (Some u) xs ≡ xs
only_sender u [] alone = refl
only_sender u (x ∷ xs) alone =
    ap (λ b. cond b (x ∷ by_sender (Some u) xs) (by_sender (Some u) xs)) (is_here x.sender (λ r ne. alone r ne))
    ∙ ap (λ l. x ∷ l) (only_sender u xs (λ r ne. tail_nothing _ x (by_sender r xs) (alone r ne)))
  where
    is_here : (o : Option TaskId) → ((r : Option TaskId) → r ≢ Some u → cond (same_sender same_task r o) (x ∷ by_sender r xs) (by_sender r xs) ≡ []) → same_sender same_task (Some u) o ≡ true
    is_here None f =
        let e : x ∷ by_sender None xs ≡ [] = f None (λ g. absurd cc) in
        absurd cc
    is_here (Some v) f = elim (same_task u v) as (λ b. same_task u v ≡ b → b ≡ true) [
      | true ↦ λ is. refl
      | false ↦ λ is.
          let e : cond (same_task v v) (x ∷ by_sender (Some v) xs) (by_sender (Some v) xs) ≡ [] = f (Some v) (λ (g : Some v ≡ Some u).
          let h : v ≡ u = cc in
          true≢false (sym (same_task-refl u) ∙ ap (same_task u) (sym h) ∙ is)) in
          let k : x ∷ by_sender (Some v) xs ≡ [] = ap (λ b. cond b (x ∷ by_sender (Some v) xs) (by_sender (Some v) xs)) (sym (same_task-refl v)) ∙ e in
          absurd cc
    ] refl

module _ (plan : TaskPlan) (net : IsNetwork plan) (u : TaskId) (topic : ℕ) where
  pub local-told : has_topic topic (plan.changelogs u.sub) ≡ true → (stores : Stores) (ts : List (Taken TaskId PartId Rec)) →
      (local (network plan) u stores ts).store topic ≡ latest_from (stores topic) (sent_to (network plan) (part_of topic u) (local (network plan) u stores ts).made)
  local-told h stores [] = refl
  local-told h stores (x ∷ xs) = by (same_task u (reader_of plan x.place)) (local-told h (plan.step u stores x.place x.item).store xs) (local-told h stores xs)
    where
      by : (b : Bool) →
          (local (network plan) u (plan.step u stores x.place x.item).store xs).store topic ≡ latest_from ((plan.step u stores x.place x.item).store topic) (sent_to (network plan) (part_of topic u) (local (network plan) u (plan.step u stores x.place x.item).store xs).made) →
          (local (network plan) u stores xs).store topic ≡ latest_from (stores topic) (sent_to (network plan) (part_of topic u) (local (network plan) u stores xs).made) →
          (cond b
          (let o = plan.step u stores x.place x.item in
          let more = local (network plan) u o.store xs in
          record { store = more.store; made = o.made ++ more.made; late = o.late + more.late })
          (local (network plan) u stores xs)).store topic
          ≡ latest_from (stores topic) (sent_to (network plan) (part_of topic u) (cond b
          (let o = plan.step u stores x.place x.item in
          let more = local (network plan) u o.store xs in
          record { store = more.store; made = o.made ++ more.made; late = o.late + more.late })
          (local (network plan) u stores xs)).made)
      by true here there =
          let more = (local (network plan) u (plan.step u stores x.place x.item).store xs).made in
          here
          ∙ ap (λ m. latest_from m (sent_to (network plan) (part_of topic u) more)) (net.told u stores x.place x.item topic h)
          ∙ sym (latest_from-append (stores topic) (sent_to (network plan) (part_of topic u) (plan.step u stores x.place x.item).made) (sent_to (network plan) (part_of topic u) more))
          ∙ ap (latest_from (stores topic)) (sym (sent_to-append (network plan) (part_of topic u) (plan.step u stores x.place x.item).made more))
      by false here there = there

  pub local-other : has_topic topic (plan.changelogs u.sub) ≡ false → (stores : Stores) (ts : List (Taken TaskId PartId Rec)) → (local (network plan) u stores ts).store topic ≡ stores topic
  local-other h stores [] = refl
  local-other h stores (x ∷ xs) = by (same_task u (reader_of plan x.place)) (local-other h (plan.step u stores x.place x.item).store xs) (local-other h stores xs)
    where
      by : (b : Bool) →
          (local (network plan) u (plan.step u stores x.place x.item).store xs).store topic ≡ (plan.step u stores x.place x.item).store topic →
          (local (network plan) u stores xs).store topic ≡ stores topic →
          (cond b
          (let o = plan.step u stores x.place x.item in
          let more = local (network plan) u o.store xs in
          record { store = more.store; made = o.made ++ more.made; late = o.late + more.late })
          (local (network plan) u stores xs)).store topic ≡ stores topic
      by true here there = here ∙ net.no_other u stores x.place x.item topic h
      by false here there = there

  -- nobody else writes a changelog
  pub local-own : has_topic topic (plan.changelogs u.sub) ≡ true → (t : TaskId) → same_task u t ≡ false → (stores : Stores) (ts : List (Taken TaskId PartId Rec)) →
      sent_to (network plan) (part_of topic u) (local (network plan) t stores ts).made ≡ []
  local-own h t ne stores [] = refl
  local-own h t ne stores (x ∷ xs) = by (same_task t (reader_of plan x.place)) (local-own h t ne (plan.step t stores x.place x.item).store xs) (local-own h t ne stores xs)
    where
      by : (b : Bool) →
          sent_to (network plan) (part_of topic u) (local (network plan) t (plan.step t stores x.place x.item).store xs).made ≡ [] →
          sent_to (network plan) (part_of topic u) (local (network plan) t stores xs).made ≡ [] →
          sent_to (network plan) (part_of topic u) (cond b
          (let o = plan.step t stores x.place x.item in
          let more = local (network plan) t o.store xs in
          record { store = more.store; made = o.made ++ more.made; late = o.late + more.late })
          (local (network plan) t stores xs)).made ≡ []
      by true here there =
          sent_to-append (network plan) (part_of topic u) (plan.step t stores x.place x.item).made _
          ∙ ap₂ (λ a b. a ++ b) (net.apart.own t u stores x.place x.item topic ne h) here
      by false here there = there
