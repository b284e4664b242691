-- What a built topology keeps, of the draft that it was built from.
use Rattle.std.specs.Prelude.{◌≡◌, ℕ, suc, List, [], ◌∷◌, map, get_or, Option, Some, None, cond, if◌then◌else◌}
use Rattle.std.specs.Ordering.{nat_cmp, is_lt}
use Rattle.std.specs.Cmp.Lexicographic.{slice_cmp}
use Rattle.ks_record.specs.declared.record.TaskId.{TaskId}
use Rattle.ks_plan.specs.declared.node.Topic.{Topic}
use Rattle.ks_plan.specs.declared.node.Topic.TheVariants.{Changelog}
use Rattle.ks_plan.specs.declared.node.TopicInfo.{TopicInfo}
use Rattle.ks_plan.specs.declared.node.Node.{Node}
use Rattle.ks_plan.specs.declared.node.Wiring.TheVariants.{StreamSource}
use Rattle.ks_topo_layout.specs.declared.shape.Shape.{Shape}
use Rattle.ks_plan.specs.declared.draft.TopicDraft.{TopicDraft}
use Rattle.ks_plan.specs.Drafts.{Name, Topics, DraftView}
use Rattle.ks_plan.specs.Plan.{Plan, wiring_of, gives_stream, natural, plan_of}
use Rattle.ks_plan.specs.Layout.{at, place_of, tasks, topics_of, stated_for}
use Rattle.ks_plan.specs.Infos.{NodePlace, built_view, node_places, topic_infos, topic_name, role_of, inputs_by_sub, changelogs_by_sub, drain_numbers}
use Rattle.ks_plan.specs.Faults.{fault_of}
use Rattle.ks_topo_layout.specs.Wired.{wired_labels, wired_counts, wired_origins, sub_at, topic_parts, topic_origin}

-- ---- of the partition counts and wirings of a plan
pub record IsShapeOf (s : Shape) (p : Plan) : Type 0 where
  pub counts : s.counts.items ≡ p.counts
  pub wirings : s.wirings.items ≡ map wiring_of p.kinds
  pub labels : s.labels.items ≡ wired_labels s.wirings.items
  pub parts : s.parts.items ≡ wired_counts s.counts.items s.wirings.items
  pub origins : s.origins.items ≡ wired_origins s.wirings.items

abbrev pub wired_topic_info : DraftView → Shape → Topic → TopicInfo
wired_topic_info d s t = record { name = topic_name d t; parts = topic_parts s t; before = stated_for (plan_of d).befores (topic_origin s t); role = role_of t }

abbrev pub wired_store : Shape → List Topic → ℕ → Option ℕ
wired_store s all n = cond (gives_stream (get_or s.wirings.items n (StreamSource 0))) None (Some (place_of all (Changelog n)))

abbrev pub wired_place : Shape → List Topic → ℕ → NodePlace
wired_place s all n = record { wiring = get_or s.wirings.items n (StreamSource 0); sub = sub_at s n; parts = at s.parts.items n; store = wired_store s all n }

-- the place of a topic among sorted ones
abbrev pub topic_place : Name → Topics → ℕ
topic_place n [] = 0
topic_place n (y ∷ ys) = if is_lt (slice_cmp nat_cmp n y.0) then 0 else suc (topic_place n ys)

abbrev pub naturals : Topics → List ℕ
naturals ts = map (λ (x : Name × TopicDraft). natural x.1.parts) ts

-- ---- the whole
-- the draft that a topology keeps
abbrev pub kept_draft : Name → Topics → List Node → List Name → DraftView
kept_draft app topics nodes print = record { app = app; topics = topics; nodes = map built_view nodes; print = print }

pub record IsBuilt (d : DraftView) (nodes : List NodePlace) (topics : List TopicInfo) (purposes : List Topic) (all : List TaskId) (inputs changelogs : List (List ℕ)) (drained : List ℕ) : Type 0 where
  pub well_formed : fault_of d ≡ None
  pub nodes_are : nodes ≡ node_places d
  pub topics_are : topics ≡ topic_infos d
  pub purposes_are : purposes ≡ topics_of (plan_of d)
  pub tasks_are : all ≡ tasks (plan_of d)
  pub inputs_are : inputs ≡ inputs_by_sub (plan_of d)
  pub changelogs_are : changelogs ≡ changelogs_by_sub (plan_of d)
  pub drained_are : drained ≡ drain_numbers (plan_of d)
