-- The layout over wirings, partition counts and labels alone, as the code has them.
use Rattle.std.specs.Prelude.{ℕ, suc, List, [], ◌∷◌, ◌++◌, length, map, get_or, Option, Some, Bool, true, false, ◌||◌, fold, cond, nat_eq}
use Rattle.std.specs.List.{filter, flat_map}
use Rattle.ks_record.specs.declared.record.TaskId.{TaskId}
use Rattle.ks_plan.specs.declared.node.Topic.{Topic}
use Rattle.ks_plan.specs.declared.node.Topic.TheVariants.{Input, Repartition, Subscriptions, Responses, Changelog, HashChangelog}
use Rattle.ks_plan.specs.declared.node.Wiring.{Wiring}
use Rattle.ks_plan.specs.declared.node.Wiring.TheVariants.{StreamSource}
use Rattle.ks_topo_layout.specs.declared.shape.Shape.{Shape}
use Rattle.ks_plan.specs.Layout.{at, origin_at, with_origin, up_to, firsts, first_in, wired_label, wired_parts, wired_right, wired_reads, wired_through, wired_changelogs, by_node, place_of}

abbrev pub wired_labels : List Wiring → List ℕ
wired_labels ws = fold wired_label [] ws

abbrev pub wired_counts : List ℕ → List Wiring → List ℕ
wired_counts counts ws = fold (wired_parts counts) [] ws

abbrev pub wired_origins : List Wiring → List (Option ℕ)
wired_origins ws = fold with_origin [] ws

abbrev pub sub_in : List ℕ → ℕ → ℕ
sub_in ls n = firsts ls (at ls n)

abbrev pub any_wired : ℕ → List Wiring → Bool
any_wired t [] = false
any_wired t (w ∷ ws) = wired_reads t w || any_wired t ws

abbrev pub first_wired : ℕ → ℕ → List Wiring → ℕ
first_wired t n [] = n
first_wired t n (w ∷ ws) = cond (wired_reads t w) n (first_wired t (suc n) ws)

abbrev pub right_in : List Wiring → ℕ → ℕ
right_in ws n = wired_right (get_or ws n (StreamSource 0))

abbrev pub flowing : ℕ → List Wiring → List Topic
flowing count ws = map Input (up_to count) ++ by_node wired_through 0 ws

abbrev pub kept : List Wiring → List Topic
kept ws = by_node wired_changelogs 0 ws

abbrev pub topic_parts : Shape → Topic → ℕ
topic_parts s (Input t) = at s.counts.items t
topic_parts s (Repartition n) = at s.parts.items n
topic_parts s (Subscriptions n) = at s.parts.items (right_in s.wirings.items n)
topic_parts s (Responses n) = at s.parts.items n
topic_parts s (Changelog n) = at s.parts.items n
topic_parts s (HashChangelog n) = at s.parts.items (right_in s.wirings.items n)

abbrev pub topic_origin : Shape → Topic → Option ℕ
topic_origin s (Input t) = Some t
topic_origin s (Repartition n) = origin_at s.origins.items n
topic_origin s (Subscriptions n) = origin_at s.origins.items (right_in s.wirings.items n)
topic_origin s (Responses n) = origin_at s.origins.items n
topic_origin s (Changelog n) = origin_at s.origins.items n
topic_origin s (HashChangelog n) = origin_at s.origins.items (right_in s.wirings.items n)

abbrev pub sub_at : Shape → ℕ → ℕ
sub_at s n = sub_in s.labels.items n

abbrev pub subs_in : Shape → ℕ
subs_in s = firsts s.labels.items (length s.wirings.items)

abbrev pub topic_reader : Shape → Topic → ℕ
topic_reader s (Input t) = cond (any_wired t s.wirings.items) (sub_at s (first_wired t 0 s.wirings.items)) (subs_in s)
topic_reader s (Repartition n) = sub_at s n
topic_reader s (Subscriptions n) = sub_at s (right_in s.wirings.items n)
topic_reader s (Responses n) = sub_at s n
topic_reader s (Changelog n) = sub_at s n
topic_reader s (HashChangelog n) = sub_at s (right_in s.wirings.items n)

abbrev pub flows : Shape → Topic → Bool
flows s (Input t) = any_wired t s.wirings.items
flows s _ = true

abbrev pub read_in : Shape → ℕ → List Topic → List Topic
read_in s sub ts = filter (λ t. nat_eq (topic_reader s t) sub) ts

-- the subtopologies of all nodes
abbrev pub subs_of : Shape → List ℕ
subs_of s = map (sub_at s) (up_to (length s.wirings.items))

abbrev pub parts_in_sub : Shape → ℕ → ℕ
parts_in_sub s sub = at s.parts.items (first_in sub (subs_of s))

abbrev pub tasks_to : ℕ → ℕ → List TaskId
tasks_to sub parts = map (λ part. record { sub = sub; part = part }) (up_to parts)

abbrev pub tasks_of_sub : Shape → ℕ → List TaskId
tasks_of_sub s sub = tasks_to sub (parts_in_sub s sub)

abbrev pub all_tasks : Shape → List TaskId
all_tasks s = flat_map (tasks_of_sub s) (up_to (subs_in s))

abbrev pub numbers_in : List Topic → List Topic → List ℕ
numbers_in all ts = map (place_of all) ts

-- by subtopology
abbrev pub numbers_read : Shape → List Topic → List Topic → List (List ℕ)
numbers_read s all ts = map (λ sub. numbers_in all (read_in s sub ts)) (up_to (subs_in s))

abbrev pub wired_topics : Shape → List Topic
wired_topics s = flowing (length s.counts.items) s.wirings.items ++ kept s.wirings.items

abbrev pub wired_drained : Shape → List Topic
wired_drained s = filter (flows s) (flowing (length s.counts.items) s.wirings.items)
