-- All that a step over bytes makes goes to partitions of the cluster.
use Rattle.std.proofs.Common.{◌≡◌, ◌≢◌, ℕ, ◌≤◌, Bool, true, false, cond, ◌&&◌, List, [], ◌∷◌, map, Option, Some, None, refl, sym, ap, subst, ◌∙◌, nat_eq}
use Rattle.std.specs.Prelude.{◌==◌, nat_lt}
use Rattle.std.specs.List.{filter}
use Rattle.std.proofs.lemmas.Bool.{and_parts, ltb-true}
use Rattle.ks_record.specs.Records.{Record as Rec}
use Rattle.ks_record.specs.declared.record.PartId.{PartId}
use Rattle.ks_record.specs.declared.record.TaskId.{TaskId}
use Rattle.ks_record.specs.Parts.{same_part}
use Rattle.ks_plan.specs.declared.node.Topic.{Topic}
use Rattle.ks_plan.specs.Plan.{Plan, plan_of}
use Rattle.ks_plan.specs.Layout.{topics_of, topic_at, number_of, parts_of_topic, reads, tasks, by_node, changelogs_of}
use Rattle.ks_plan.specs.Infos.{input_numbers}
use Rattle.ks_def_tasks.specs.Messages.{Place, Item, Message, Rules, Store}
use Rattle.ks_def_tasks.specs.Step.{Arrival, Sent, Written, step_key, items_from, olds_at, news_at}
use Rattle.ks_def_tasks.specs.Tasks.{arrival, step, to_part, sent_item, written_item, is_changelog}
use Rattle.ks_def_tasks.specs.Bytes.{ByteStores, step_at, step_read, nothing_made, message_in, store_from, spelled, part_id, is_sent, is_own}
use Rattle.ks_def_runs.specs.Run.{sent_to}
use Rattle.ks_history.specs.Machine.{network, part_of, has_topic}
use Rattle.ks_history.specs.State.{IsPart, IsSetup, has_task}
use Rattle.ks_history.proofs.Names.{same_part-is}
use Rattle.ks_law_topology.proofs.Each.{Each, each_nothing, each_first, each_parts, Each-append}
use Rattle.ks_law_topology.specs.Work.{work_of, setup_of}
use Rattle.ks_law_topology.proofs.Setups.{setups_are_made}
use Rattle.ks_law_topology.proofs.Writes.{Through, through_all}
use Rattle.ks_law_settled.specs.Routes.{TopologiesSendInside}
use Rattle.ks_law_settled.proofs.Nodes.{Among, among_at, named, is_part}
use Rattle.ks_law_settled.proofs.Sending.{sent_goes, written_kept}

module _ (rules : Rules) (p : Plan) (made : IsSetup (setup_of rules p)) (t : TaskId) (task : has_task t (tasks p) ≡ true) where
  -- what isn't held back stands in a partition of the cluster
  abbrev IsInside : Place × Item → Type 0
  IsInside x = is_sent p t x ≡ true → IsPart (setup_of rules p) (part_id p x.0)

  inside_all : (r : PartId) (xs : List (Place × Item)) → Each IsInside xs → sent_to (network (work_of rules p)) r (spelled p (filter (is_sent p t) xs)) ≢ [] → IsPart (setup_of rules p) r
  inside_all r [] h some = absurd (some refl)
  inside_all r (x ∷ xs) h some =
      let parts = each_parts IsInside x xs h in
      by (is_sent p t x) refl parts.0 (inside_all r xs parts.1) some
    where
      here : (b : Bool) → same_part r (part_id p x.0) ≡ b → IsPart (setup_of rules p) (part_id p x.0) → (rest : List Rec) (item : Rec) → (rest ≢ [] → IsPart (setup_of rules p) r) → cond b (item ∷ rest) rest ≢ [] → IsPart (setup_of rules p) r
      here true is is_there rest item more g = subst (IsPart (setup_of rules p)) (sym (same_part-is r (part_id p x.0) is)) is_there
      here false is is_there rest item more g = more g

      by : (b : Bool) → is_sent p t x ≡ b → IsInside x → (sent_to (network (work_of rules p)) r (spelled p (filter (is_sent p t) xs)) ≢ [] → IsPart (setup_of rules p) r) →
          sent_to (network (work_of rules p)) r (spelled p (cond b (x ∷ filter (is_sent p t) xs) (filter (is_sent p t) xs))) ≢ [] → IsPart (setup_of rules p) r
      by true is one more g = here (same_part r (part_id p x.0)) refl (one is) (sent_to (network (work_of rules p)) r (spelled p (filter (is_sent p t) xs))) _ more g
      by false is one more g = more g

  sent_inside : (time : ℕ) (xs : List Sent) → Each (λ s. Among s.topic (topics_of p)) xs → Through xs → Each IsInside (map (sent_item rules p time) xs)
  sent_inside time [] h through = each_nothing IsInside
  sent_inside time (s ∷ xs) h through =
      let parts = each_parts (λ (s : Sent). Among s.topic (topics_of p)) s xs h in
      let place = to_part rules p s.topic s.key s.to in
      each_first IsInside (sent_item rules p time s) (map (sent_item rules p time) xs)
      (λ e. is_part rules p s.topic place parts.0
      (ltb-true place (parts_of_topic p s.topic) (sym (ap (λ b. cond b (is_own p t.sub s.topic && (place == t.part)) (nat_lt place (parts_of_topic p s.topic))) through.0.0) ∙ e)))
      (sent_inside time xs parts.1 through.1)

  written_inside : (time : ℕ) (xs : List Written) → Each (λ w. Among w.topic (by_node changelogs_of 0 p.kinds) × (is_changelog w.topic ≡ true)) xs → Each IsInside (map (written_item t.part time) xs)
  written_inside time [] h = each_nothing IsInside
  written_inside time (w ∷ xs) h =
      let parts = each_parts (λ (w : Written). Among w.topic (by_node changelogs_of 0 p.kinds) × (is_changelog w.topic ≡ true)) w xs h in
      each_first IsInside (written_item t.part time w) (map (written_item t.part time) xs) (one w parts.0.0 parts.0.1) (written_inside time xs parts.1)
    where
      one : (w : Written) → Among w.topic (by_node changelogs_of 0 p.kinds) → is_changelog w.topic ≡ true → IsInside (written_item t.part time w)
      one w there log e =
          let kept : (is_own p t.sub w.topic && (t.part == t.part)) ≡ true = sym (ap (λ b. cond b (is_own p t.sub w.topic && (t.part == t.part)) (nat_lt t.part (parts_of_topic p w.topic))) log) ∙ e in
          let own : is_own p t.sub w.topic ≡ true = (and_parts (is_own p t.sub w.topic) (t.part == t.part) kept).0 in
          let reader : nat_eq (reads p w.topic) t.sub ≡ true = (and_parts (is_changelog w.topic) (nat_eq (reads p w.topic) t.sub) own).1 in
          made.changelogs t (number_of p w.topic) task (named (number_of p) (λ u. nat_eq (reads p u) t.sub) w.topic (by_node changelogs_of 0 p.kinds) there reader)

  module _ (stores : ByteStores) (n : ℕ) (input : has_topic n (input_numbers p t.sub) ≡ true) (r : PartId) where
    of_message : (topic : Topic) (time : ℕ) (m : Message) → topic_at p n ≡ Some topic →
        sent_to (network (work_of rules p)) r (spelled p (filter (is_sent p t) (step rules p t (store_from p t.sub stores) (record { topic = topic; part = t.part }) (record { message = m; time = time })).made)) ≢ [] → IsPart (setup_of rules p) r
    of_message topic time m at some =
        let x : Item = record { message = m; time = time } in
        let a : Arrival = arrival p (record { topic = topic; part = t.part }) x in
        let st : Store = store_from p t.sub stores in
        let there : Among topic (topics_of p) = among_at topic (topics_of p) n at in
        let key = step_key m in
        let items = items_from a (λ c. None) 0 p.kinds in
        let through = through_all rules a items st (olds_at st key) (news_at rules p a items (olds_at st key) key) 0 p.kinds in
        inside_all r (step rules p t st (record { topic = topic; part = t.part }) x).made
        (Each-append IsInside _ _ (sent_inside time _ (sent_goes rules p a there st) through) (written_inside time _ (written_kept rules p a there st)))
        some

    of_read : (topic : Topic) (rec : Rec) (m : Option Message) → topic_at p n ≡ Some topic → sent_to (network (work_of rules p)) r (step_read rules p t stores (part_of n t) topic rec.ts m).made ≢ [] → IsPart (setup_of rules p) r
    of_read topic rec None at some = absurd (some refl)
    of_read topic rec (Some m) at some = of_message topic rec.ts m at some

    of_topic : (rec : Rec) (o : Option Topic) → topic_at p n ≡ o → sent_to (network (work_of rules p)) r (step_at rules p t stores (part_of n t) rec o).made ≢ [] → IsPart (setup_of rules p) r
    of_topic rec None at some = absurd (some refl)
    of_topic rec (Some topic) at some = by (nat_eq (reads p topic) t.sub) some
      where
        by : (b : Bool) → sent_to (network (work_of rules p)) r (cond b (step_read rules p t stores (part_of n t) topic rec.ts (message_in p topic rec)) (nothing_made stores)).made ≢ [] → IsPart (setup_of rules p) r
        by true g = of_read topic rec (message_in p topic rec) at g
        by false g = absurd (g refl)

pub topologies_send_inside : TopologiesSendInside
topologies_send_inside rules d well t stores topic rec q task input some =
    let p = plan_of d in
    of_topic rules p (setups_are_made rules d well) t task stores topic input q rec (topic_at p topic) refl some
