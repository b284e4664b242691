-- Shapes and topics of plans.
use Rattle.std.proofs.Common.{◌≡◌, ℕ, zero, suc, true, false, cond, Option, Some, None, ◌≤◌, List, [], ◌∷◌, ◌++◌, length, map, refl, sym, ap, ap₂, subst, ◌∙◌, arith, length-append}
use Rattle.std.specs.Prelude.{Result, Ok, Err, IfOk}
use Rattle.std.specs.declared.alloc.AllocError.{AllocError}
use Rattle.std.specs.List.{filter}
use Rattle.ks_plan.specs.declared.node.Topic.{Topic}
use Rattle.ks_plan.specs.declared.node.Topic.TheVariants.{Input, Changelog}
use Rattle.ks_plan.specs.declared.node.Wiring.{Wiring}
use Rattle.ks_plan.specs.declared.node.Wiring.TheVariants as wired
use Rattle.ks_plan.specs.declared.draft.NodeDraft.{NodeDraft}
use Rattle.ks_plan.specs.declared.draft.Draft.{Draft}
use Rattle.ks_plan.specs.declared.node.Node.{Node}
use Rattle.ks_topo_layout.proofs.Resolving.{known_names_from}
use Rattle.ks_topo_layout.specs.declared.resolve.Resolved.{Resolved}
use Rattle.ks_topo_layout.specs.declared.shape.Shape.{Shape}
use Rattle.ks_plan.specs.Drafts.{Name, Topics, NodeView, DraftView, node_view, nodes_view, draft_view}
use Rattle.ks_plan.specs.Plan.{Known, wiring_of, gives_stream, known_from, plan_of}
use Rattle.ks_plan.specs.Layout.{at, sub_of, number_of, kind_at, up_to, wired_through, wired_changelogs, topics_of, drain_order, by_node}
use Rattle.ks_topo_layout.specs.Resolve.{resolved, resolved_from}
use Rattle.ks_topo_layout.specs.Wired.{wired_labels, wired_counts, wired_origins, flowing, kept, flows, wired_topics, wired_drained, numbers_read, numbers_in, all_tasks}
use Rattle.ks_topo.specs.Built.{IsShapeOf, IsBuilt, wired_topic_info, wired_place, kept_draft}
use Rattle.ks_plan.specs.Infos.{NodePlace, node_place, built_view, places_from, place_in, store_of, topic_name, role_of, info_of}
use Rattle.ks_plan.specs.Faults.{fault_of}
use Rattle.ks_record.specs.declared.record.TaskId.{TaskId}
use Rattle.ks_plan.specs.declared.node.TopicInfo.{TopicInfo}
use Rattle.ks_topo.proofs.Layouts.{length_over, few_each, map_same, same_flowing, same_kept, same_drained, same_topic_parts, same_topic_before, same_wiring, same_sub, same_part, same_tasks, same_inputs, same_changelogs}

wirings_known : (ks : List Known) → map (λ (r : Resolved). r.wiring) (map resolved ks) ≡ map wiring_of (map (λ (k : Known). k.kind) ks)
wirings_known [] = refl
wirings_known (k ∷ ks) = ap (λ l. wiring_of k.kind ∷ l) (wirings_known ks)

pub is_shape : (s : Shape) (d : DraftView) (known : List Resolved) → known ≡ resolved_from d.topics d.nodes → s.counts.items ≡ (plan_of d).counts → s.wirings.items ≡ map (λ (r : Resolved). r.wiring) known
    → s.labels.items ≡ wired_labels s.wirings.items → s.parts.items ≡ wired_counts s.counts.items s.wirings.items → s.origins.items ≡ wired_origins s.wirings.items → IsShapeOf s (plan_of d)
is_shape s d known k c w l p o = record { counts = c; wirings = w ∙ (ap (map (λ (r : Resolved). r.wiring)) k ∙ wirings_known (known_from d.topics d.nodes)); labels = l; parts = p; origins = o }

pub few_wirings : (ts : Topics) (ns : List NodeDraft) (known : List Resolved) (ws : List Wiring) → length ns ≤ 64 → known ≡ resolved_from ts (nodes_view ns) → ws ≡ map (λ (r : Resolved). r.wiring) known → length ws ≤ 64
few_wirings ts ns known ws h k w =
    let a = ap length w ∙ length_over (λ (r : Resolved). r.wiring) known in
    let b = ap length k ∙ length_over resolved (known_from ts (nodes_view ns)) in
    let c = sym (length_over (λ (x : Known). x.name) (known_from ts (nodes_view ns))) ∙ (ap length (known_names_from ts (nodes_view ns)) ∙ (length_over (λ (x : NodeView). x.name) (nodes_view ns) ∙ length_over node_view ns)) in
    omega (arith, a, b, c, h)

through_few : (n : ℕ) (w : Wiring) → length (wired_through n w) ≤ 2
through_few n (wired.StreamSource t) = omega arith
through_few n (wired.TableSource t) = omega arith
through_few n (wired.StreamFilter f) = omega arith
through_few n (wired.TableFilter f) = omega arith
through_few n (wired.StreamMap f) = omega arith
through_few n (wired.TableMap f) = omega arith
through_few n (wired.KeySelected f) = omega arith
through_few n (wired.StreamAggregate f true) = omega arith
through_few n (wired.StreamAggregate f false) = omega arith
through_few n (wired.TableAggregate f) = omega arith
through_few n (wired.Windowed f true) = omega arith
through_few n (wired.Windowed f false) = omega arith
through_few n (wired.KeyJoin l r) = omega arith
through_few n (wired.ForeignKeyJoin l r) = omega arith

changelogs_few : (n : ℕ) (w : Wiring) → length (wired_changelogs n w) ≤ 2
changelogs_few n (wired.StreamSource t) = omega arith
changelogs_few n (wired.TableSource t) = omega arith
changelogs_few n (wired.StreamFilter f) = omega arith
changelogs_few n (wired.TableFilter f) = omega arith
changelogs_few n (wired.StreamMap f) = omega arith
changelogs_few n (wired.TableMap f) = omega arith
changelogs_few n (wired.KeySelected f) = omega arith
changelogs_few n (wired.StreamAggregate f t) = omega arith
changelogs_few n (wired.TableAggregate f) = omega arith
changelogs_few n (wired.Windowed f t) = omega arith
changelogs_few n (wired.KeyJoin l r) = omega arith
changelogs_few n (wired.ForeignKeyJoin l r) = omega arith

up_to_length : (n : ℕ) → length (up_to n) ≡ n
up_to_length zero = refl
up_to_length (suc n) = let a = up_to_length n in let b = length-append (up_to n) (n ∷ []) in omega (arith, a, b)

pub few_topics : (s : Shape) (all : List Topic) → all ≡ wired_topics s → length s.wirings.items ≤ 64 → length s.counts.items ≤ 64 → length all ≤ 400
few_topics s all e h k =
    let ws = s.wirings.items in
    let n = length s.counts.items in
    let inputs = length_over Input (up_to n) ∙ up_to_length n in
    let through = few_each wired_through through_few 0 ws in
    let changes = few_each wired_changelogs changelogs_few 0 ws in
    let one = length-append (map Input (up_to n)) (by_node wired_through 0 ws) in
    let two = ap length e ∙ length-append (flowing n ws) (kept ws) in
    omega (arith, inputs, through, changes, one, two, h, k)

pub shape_is : (r : Result Shape AllocError) (d : DraftView) (known : List Resolved) (counts : List ℕ) (ws : List Wiring) → known ≡ resolved_from d.topics d.nodes → counts ≡ (plan_of d).counts → ws ≡ map (λ (r : Resolved). r.wiring) known
    → IfOk r (λ s. s.counts.items ≡ counts) → IfOk r (λ s. s.wirings.items ≡ ws) → IfOk r (λ s. s.labels.items ≡ wired_labels ws) → IfOk r (λ s. s.parts.items ≡ wired_counts counts ws) → IfOk r (λ s. s.origins.items ≡ wired_origins ws) → IfOk r (λ s. IsShapeOf s (plan_of d))
shape_is (Err e) d known counts ws k c w a b l p o = tt
shape_is (Ok s) d known counts ws k c w a b l p o = is_shape s d known k (a ∙ c) (b ∙ w) (l ∙ ap wired_labels (sym b)) (p ∙ ap₂ wired_counts (sym a) (sym b)) (o ∙ ap wired_origins (sym b))

places_over : {A B : Type 0} (g : A → B) (f : ℕ → NodePlace) (n : ℕ) (xs : List A) → places_from f n (map g xs) ≡ places_from f n xs
places_over g f n [] = refl
places_over g f n (x ∷ xs) = ap (λ l. f n ∷ l) (places_over g f (suc n) xs)

places_same : {A : Type 0} (f g : ℕ → NodePlace) (n : ℕ) (xs : List A) → ((n : ℕ) → f n ≡ g n) → places_from f n xs ≡ places_from g n xs
places_same f g n [] e = refl
places_same f g n (x ∷ xs) e = ap₂ (λ y l. y ∷ l) (e n) (places_same f g (suc n) xs e)

abbrev info_with : DraftView → Topic → ℕ → Option Name → TopicInfo
info_with d t n b = record { name = topic_name d t; parts = n; before = b; role = role_of t }

abbrev place_with : Wiring → ℕ → ℕ → Option ℕ → NodePlace
place_with w s p o = record { wiring = w; sub = s; parts = p; store = o }

module _ (s : Shape) (d : DraftView) (h : IsShapeOf s (plan_of d)) where
  the_topics : wired_topics s ≡ topics_of (plan_of d)
  the_topics = ap₂ (λ a b. a ++ b) (same_flowing s (plan_of d) h) (same_kept s (plan_of d) h)

  the_drained : wired_drained s ≡ drain_order (plan_of d)
  the_drained = ap (filter (flows s)) (same_flowing s (plan_of d) h) ∙ same_drained s (plan_of d) h

  info_same : (t : Topic) → wired_topic_info d s t ≡ info_of d t
  info_same t = ap₂ (λ n b. info_with d t n b) (same_topic_parts s (plan_of d) h t) (same_topic_before s (plan_of d) h t)

  place_same : (n : ℕ) → wired_place s (topics_of (plan_of d)) n ≡ place_in (plan_of d) n
  place_same n =
      ap₂ (λ w x. place_with w x (at s.parts.items n) (cond (gives_stream w) None (Some (number_of (plan_of d) (Changelog n))))) (same_wiring s (plan_of d) h n) (same_sub s (plan_of d) h n)
      ∙ ap (λ x. place_with (wiring_of (kind_at (plan_of d) n)) (sub_of (plan_of d) n) x (store_of (plan_of d) n)) (same_part s (plan_of d) h n)

  pub is_built : (places : List NodePlace) (infos : List TopicInfo) (all : List Topic) (tasks : List TaskId) (ins logs : List (List ℕ)) (drained : List ℕ) (drafts : List NodeDraft) (slice : List Topic)
      → fault_of d ≡ None → d.nodes ≡ nodes_view drafts → slice ≡ all → all ≡ wired_topics s → infos ≡ map (wired_topic_info d s) (wired_topics s) → tasks ≡ all_tasks s
      → ins ≡ numbers_read s (wired_topics s) (wired_drained s) → logs ≡ numbers_read s (wired_topics s) (kept s.wirings.items) → drained ≡ numbers_in (wired_topics s) (wired_drained s)
      → places ≡ places_from (wired_place s slice) 0 drafts
      → IsBuilt d places infos all tasks ins logs drained
  is_built places infos all tasks ins logs drained drafts slice f v sl a i t n l r p = record {
    well_formed = f;
    nodes_are = p ∙ (ap (λ x. places_from (wired_place s x) 0 drafts) (sl ∙ (a ∙ the_topics)) ∙ (places_same _ _ 0 drafts place_same ∙ (sym (places_over node_view (place_in (plan_of d)) 0 drafts) ∙ ap (places_from (place_in (plan_of d)) 0) (sym v))));
    topics_are = i ∙ (ap (map (wired_topic_info d s)) the_topics ∙ map_same _ _ (topics_of (plan_of d)) info_same);
    purposes_are = a ∙ the_topics;
    tasks_are = t ∙ same_tasks s (plan_of d) h;
    inputs_are = n ∙ (ap₂ (numbers_read s) the_topics the_drained ∙ same_inputs s (plan_of d) h);
    changelogs_are = l ∙ (ap₂ (numbers_read s) the_topics (same_kept s (plan_of d) h) ∙ same_changelogs s (plan_of d) h);
    drained_are = r ∙ ap₂ numbers_in the_topics the_drained;
  }

pub kept_is : (s : Shape) (draft : Draft) (built : List Node) (drafts : List NodeDraft) (slice : List Topic) (infos : List TopicInfo) (all : List Topic) (tasks : List TaskId) (ins logs : List (List ℕ)) (drained : List ℕ)
    → IsShapeOf s (plan_of (draft_view draft)) → fault_of (draft_view draft) ≡ None → drafts ≡ draft.nodes → slice ≡ all → all ≡ wired_topics s
    → infos ≡ map (wired_topic_info (draft_view draft) s) (wired_topics s) → tasks ≡ all_tasks s
    → ins ≡ numbers_read s (wired_topics s) (wired_drained s) → logs ≡ numbers_read s (wired_topics s) (kept s.wirings.items) → drained ≡ numbers_in (wired_topics s) (wired_drained s)
    → map node_place built ≡ places_from (wired_place s slice) 0 drafts → map built_view built ≡ nodes_view drafts
    → IsBuilt (kept_draft draft.app draft.topics built draft.print) (map node_place built) infos all tasks ins logs drained
kept_is s draft built drafts slice infos all tasks ins logs drained h f e sl a i t n l r p v =
    subst (λ (ns : List NodeView). IsBuilt (record { app = draft.app; topics = draft.topics; nodes = ns; print = draft.print }) (map node_place built) infos all tasks ins logs drained)
    (sym (v ∙ ap nodes_view e))
    (is_built s (draft_view draft) h (map node_place built) infos all tasks ins logs drained drafts slice f (sym (ap nodes_view e)) sl a i t n l r p)
