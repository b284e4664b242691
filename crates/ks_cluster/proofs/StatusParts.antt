-- What a status tells is what the state says.
use Rattle.std.proofs.Common.{◌≡◌, ℕ, zero, suc, ◌+◌, ◌-◌, ◌<◌, cond, nat_eq, List, [], ◌∷◌, ◌++◌, length, get_or, Option, Some, None, refl, sym, ap, subst, ◌∙◌, arith, eqb-true, drop, drop-cons}
use Rattle.std.specs.Prelude.{map, Bool, true, false, ◌||◌}
use Rattle.ks_record.specs.declared.record.PartId.{PartId}
use Rattle.ks_record.specs.declared.record.TaskId.{TaskId}
use Rattle.ks_record.specs.declared.assignment.Assignment.{Assignment}
use Rattle.ks_history.specs.Machine.{has_topic}
use Rattle.ks_history.specs.Machine.{TaskPlan}
use Rattle.ks_history.specs.State.{State, Setup}
use Rattle.ks_history.specs.Reads.{is_changelog, topic_ends, changelog_ends, waiting_from, status}
use Rattle.ks_cluster.specs.declared.broker.Broker.{Broker}
use Rattle.ks_log.specs.declared.log.Written.{Written}
use Rattle.ks_log.specs.Written.{slots_in}
use Rattle.ks_log.specs.Reading.{end_at}
use Rattle.ks_cluster.specs.Moves.{IsAt}
use Rattle.ks_cluster.specs.View.{setup_from}
use Rattle.ks_cluster.specs.Statuses.{with_producers, ends_on, ends_if, changelogs_on, firsts_from}
use Rattle.ks_cluster.proofs.Readings.{waiting-are}

-- one partition more of a topic
pub one_end : (log : List Written) (topic part count n : ℕ) → part < count → n ≡ end_at log (record { topic = topic; part = part })
    → ends_on log topic part (count - part) ≡ (record { topic = topic; part = part }, n) ∷ ends_on log topic (part + 1) (count - (part + 1))
one_end log topic part count n h is =
    let left : count - part ≡ suc (count - (part + 1)) = omega (arith, h) in
    ap (ends_on log topic part) left ∙ ap (λ m. (record { topic = topic; part = part }, m) ∷ ends_on log topic (part + 1) (count - (part + 1))) (sym is)

one_up : (i : ℕ) → i + 1 ≡ suc i
one_up i = omega arith

-- the changelogs of one topic more
pub next_topic : (setup : Setup) (log : List Written) (counts : List ℕ) (i d : ℕ) → i < length counts
    → changelogs_on setup log i (drop i counts) ≡ ends_if setup log i (get_or counts i d) ++ changelogs_on setup log (i + 1) (drop (i + 1) counts)
next_topic setup log counts i d h =
    ap (changelogs_on setup log i) (drop-cons counts i d h)
    ∙ ap (λ j. ends_if setup log i (get_or counts i d) ++ changelogs_on setup log (i + 1) (drop j counts)) (sym (one_up i))

topic-are : (s : State) (log : List Written) (topic part count : ℕ) → ((p : PartId) → slots_in p log ≡ s.partition p) → ends_on log topic part count ≡ topic_ends s topic part count
topic-are s log topic part zero is = refl
topic-are s log topic part (suc left) is =
    ap (λ n. (record { topic = topic; part = part }, n) ∷ ends_on log topic (part + 1) left) (ap length (is (record { topic = topic; part = part })))
    ∙ ap (λ l. (record { topic = topic; part = part }, length (s.partition (record { topic = topic; part = part }))) ∷ l) (topic-are s log topic (part + 1) left is)

both : {A : Type 0} (c : Bool) (xs ys zs ws : List A) → xs ≡ ys → zs ≡ ws → (cond c xs [] ++ zs) ≡ cond c (ys ++ ws) ws
both true xs ys zs ws is rest = ap (λ l. l ++ zs) is ∙ ap (λ l. ys ++ l) rest
both false xs ys zs ws is rest = rest

-- whether a topic is a changelog depends on the plan alone
changelog-same : (setup : Setup) (all ts : List TaskId) (topic : ℕ) → is_changelog (setup_from setup.plan [] all) ts topic ≡ is_changelog setup ts topic
changelog-same setup all [] topic = refl
changelog-same setup all (t ∷ ts) topic = ap (λ b. has_topic topic (setup.plan.changelogs t.sub) || b) (changelog-same setup all ts topic)

ends-are : (setup : Setup) (s : State) (log : List Written) (topic : ℕ) (counts : List ℕ) → ((p : PartId) → slots_in p log ≡ s.partition p)
    → changelogs_on (setup_from setup.plan [] setup.tasks) log topic counts ≡ changelog_ends setup s topic counts
ends-are setup s log topic [] is = refl
ends-are setup s log topic (count ∷ counts) is =
    ap (λ b. cond b (ends_on log topic 0 count) [] ++ changelogs_on (setup_from setup.plan [] setup.tasks) log (topic + 1) counts) (changelog-same setup setup.tasks setup.tasks topic)
    ∙ both (is_changelog setup setup.tasks topic) (ends_on log topic 0 count) (topic_ends s topic 0 count) _ _ (topic-are s log topic 0 count is) (ends-are setup s log (topic + 1) counts is)

pub status-is : (setup : Setup) (s : State) (b : Broker) (generation : ℕ) (members : List ℕ) (given : Option Assignment) (held : List (ℕ × TaskId × ℕ)) (waiting : ℕ) (ends : List (PartId × ℕ)) → IsAt setup s b
    → generation ≡ b.group.generation → members ≡ b.group.members → given ≡ b.group.assignment → held ≡ b.group.held → waiting ≡ waiting_from (with_producers b.txns) 0 17
    → ends ≡ changelogs_on (setup_from setup.plan [] b.group.tasks) b.log 0 setup.counts
    → record { generation = generation; members = members; assignment = given; held = held; waiting = waiting; ends = ends } ≡ status setup s
status-is setup s b generation members given held waiting ends k generates there gives helds waits ended = λ i. record {
  generation = (generates ∙ k.group_is.generation_is) i;
  members = (there ∙ k.group_is.members_is) i;
  assignment = (gives ∙ k.group_is.assignment_is) i;
  held = (helds ∙ k.group_is.held_is) i;
  waiting = (waits ∙ waiting-are setup s b k) i;
  ends = (ended ∙ ap (λ ts. changelogs_on (setup_from setup.plan [] ts) b.log 0 setup.counts) k.group_is.tasks_is ∙ ends-are setup s b.log 0 setup.counts k.log_is) i;
}

-- ---- of tasks of one subtopology that stand together one is enough
abbrev known : Setup → Option ℕ → ℕ → Bool
known setup None topic = false
known setup (Some sub) topic = has_topic topic (setup.plan.changelogs sub)

said-twice : (b c d : Bool) → (b || c) ≡ (b || d) → (b || c) ≡ (b || (b || d))
said-twice true c d h = refl
said-twice false c d h = h

firsts-kept : (setup : Setup) (last : Option ℕ) (ts : List TaskId) (topic : ℕ)
    → (known setup last topic || is_changelog setup (firsts_from last ts) topic) ≡ (known setup last topic || is_changelog setup ts topic)
firsts-kept setup last [] topic = refl
firsts-kept setup None (t ∷ ts) topic = firsts-kept setup (Some t.sub) ts topic
firsts-kept setup (Some other) (t ∷ ts) topic =
    elim (nat_eq other t.sub) as (λ b. nat_eq other t.sub ≡ b
    → (has_topic topic (setup.plan.changelogs other) || is_changelog setup (cond b (firsts_from (Some t.sub) ts) (t ∷ firsts_from (Some t.sub) ts)) topic)
    ≡ (has_topic topic (setup.plan.changelogs other) || (has_topic topic (setup.plan.changelogs t.sub) || is_changelog setup ts topic))) [
      | true ↦ λ e. subst (λ s. (has_topic topic (setup.plan.changelogs s) || is_changelog setup (firsts_from (Some t.sub) ts) topic)
          ≡ (has_topic topic (setup.plan.changelogs s) || (has_topic topic (setup.plan.changelogs t.sub) || is_changelog setup ts topic)))
          (sym (eqb-true other t.sub e))
          (said-twice (has_topic topic (setup.plan.changelogs t.sub)) _ _ (firsts-kept setup (Some t.sub) ts topic))
      | false ↦ λ e. ap (λ b. has_topic topic (setup.plan.changelogs other) || b) (firsts-kept setup (Some t.sub) ts topic)
    ] refl

firsts-same : (plan : TaskPlan) (ts : List TaskId) (topic : ℕ)
    → is_changelog (setup_from plan [] (firsts_from None ts)) (firsts_from None ts) topic ≡ is_changelog (setup_from plan [] ts) ts topic
firsts-same plan ts topic =
    changelog-same (setup_from plan [] []) (firsts_from None ts) (firsts_from None ts) topic
    ∙ firsts-kept (setup_from plan [] []) None ts topic
    ∙ sym (changelog-same (setup_from plan [] []) ts ts topic)

pub firsts_have_ends : (plan : TaskPlan) (ts : List TaskId) (log : List Written) (topic : ℕ) (counts : List ℕ)
    → changelogs_on (setup_from plan [] (firsts_from None ts)) log topic counts ≡ changelogs_on (setup_from plan [] ts) log topic counts
firsts_have_ends plan ts log topic [] = refl
firsts_have_ends plan ts log topic (count ∷ counts) =
    ap (λ b. cond b (ends_on log topic 0 count) [] ++ changelogs_on (setup_from plan [] (firsts_from None ts)) log (topic + 1) counts) (firsts-same plan ts topic)
    ∙ ap (λ l. ends_if (setup_from plan [] ts) log topic count ++ l) (firsts_have_ends plan ts log (topic + 1) counts)
