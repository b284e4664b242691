-- What a topology shows of its topics and nodes.
use Rattle.std.specs.Prelude.{ℕ, suc, List, [], ◌∷◌, ◌++◌, map, get_or, Option, Some, None, cond, codes}
use Rattle.ks_plan.specs.declared.node.Role.{Role}
use Rattle.ks_plan.specs.declared.node.Role.TheVariants as role
use Rattle.ks_plan.specs.declared.node.Topic.{Topic}
use Rattle.ks_plan.specs.declared.node.Topic.TheVariants.{Input, Repartition, Subscriptions, Responses, Changelog, HashChangelog}
use Rattle.ks_plan.specs.declared.node.TopicInfo.{TopicInfo}
use Rattle.ks_plan.specs.declared.node.Wiring.{Wiring}
use Rattle.ks_plan.specs.declared.node.Node.{Node}
use Rattle.ks_plan.specs.declared.draft.TopicDraft.{TopicDraft}
use Rattle.ks_plan.specs.Drafts.{Name, op_view, NodeView, DraftView}
use Rattle.ks_plan.specs.Plan.{Plan, wiring_of, is_stream, sorted_topics, plan_of}
use Rattle.ks_plan.specs.Layout.{up_to, sub_count, topics_of, number_of, parts_of_topic, before_of_topic, sub_of, parts_of, kind_at, inputs, changelogs, drain_order, wired_through, wired_changelogs}

-- ---- names and roles of topics
abbrev pub role_of : Topic → Role
role_of (Input t) = role.Input
role_of (Repartition n) = role.Repartition
role_of (Subscriptions n) = role.Subscription
role_of (Responses n) = role.Response
role_of (Changelog n) = role.Changelog
role_of (HashChangelog n) = role.Changelog

abbrev pub suffix_of : Topic → Name
suffix_of (Input t) = []
suffix_of (Repartition n) = codes "repartition"
suffix_of (Subscriptions n) = codes "subscription-registration-topic"
suffix_of (Responses n) = codes "subscription-response-topic"
suffix_of (Changelog n) = codes "changelog"
suffix_of (HashChangelog n) = codes "subscription-store-changelog"

-- of an application, a node and what the topic is for
abbrev pub internal_name : Name → Name → Topic → Name
internal_name app node t = app ++ codes "-" ++ node ++ codes "-" ++ suffix_of t

-- all of a node; a name doesn't tell the node's number
abbrev pub internal_names : Name → Name → Wiring → List Name
internal_names app node w = map (internal_name app node) (wired_through 0 w ++ wired_changelogs 0 w)

abbrev pub name_in : List NodeView → ℕ → Name
name_in ns n = get_or (map (λ x. x.name) ns) n []

abbrev pub name_at : DraftView → ℕ → Name
name_at d n = name_in d.nodes n

abbrev pub topic_name : DraftView → Topic → Name
topic_name d (Input t) = get_or (map (λ (x : Name × TopicDraft). x.0) (sorted_topics d)) t []
topic_name d (Repartition n) = internal_name d.app (name_at d n) (Repartition n)
topic_name d (Subscriptions n) = internal_name d.app (name_at d n) (Subscriptions n)
topic_name d (Responses n) = internal_name d.app (name_at d n) (Responses n)
topic_name d (Changelog n) = internal_name d.app (name_at d n) (Changelog n)
topic_name d (HashChangelog n) = internal_name d.app (name_at d n) (HashChangelog n)

abbrev pub info_of : DraftView → Topic → TopicInfo
info_of d t = record { name = topic_name d t; parts = parts_of_topic (plan_of d) t; before = before_of_topic (plan_of d) t; role = role_of t }

-- by number
abbrev pub topic_infos : DraftView → List TopicInfo
topic_infos d = map (info_of d) (topics_of (plan_of d))

-- ---- nodes
-- what a node is, where it lies, the number of its tasks and of its changelog
pub record NodePlace : Type 0 where
  pub wiring : Wiring
  pub sub : ℕ
  pub parts : ℕ
  pub store : Option ℕ

abbrev pub node_place : Node → NodePlace
node_place n = record { wiring = n.wiring; sub = n.sub; parts = n.parts; store = n.store }

-- a node that was built, as the draft had it
abbrev pub built_view : Node → NodeView
built_view n = record { name = n.name; op = op_view n.op }

-- the number of a node's changelog
abbrev pub store_of : Plan → ℕ → Option ℕ
store_of p n = cond (is_stream (kind_at p n)) None (Some (number_of p (Changelog n)))

abbrev pub place_in : Plan → ℕ → NodePlace
place_in p n = record { wiring = wiring_of (kind_at p n); sub = sub_of p n; parts = parts_of p n; store = store_of p n }

-- one for each of these, which are numbered from this one
abbrev pub places_from : {A : Type 0} → (ℕ → NodePlace) → ℕ → List A → List NodePlace
places_from f n [] = []
places_from f n (x ∷ xs) = f n ∷ places_from f (suc n) xs

abbrev pub node_places : DraftView → List NodePlace
node_places d = places_from (place_in (plan_of d)) 0 d.nodes

-- ---- topics by number
abbrev pub input_numbers : Plan → ℕ → List ℕ
input_numbers p sub = map (number_of p) (inputs p sub)

abbrev pub changelog_numbers : Plan → ℕ → List ℕ
changelog_numbers p sub = map (number_of p) (changelogs p sub)

abbrev pub drain_numbers : Plan → List ℕ
drain_numbers p = map (number_of p) (drain_order p)

-- one list for each subtopology
abbrev pub inputs_by_sub : Plan → List (List ℕ)
inputs_by_sub p = map (input_numbers p) (up_to (sub_count p))

abbrev pub changelogs_by_sub : Plan → List (List ℕ)
changelogs_by_sub p = map (changelog_numbers p) (up_to (sub_count p))
