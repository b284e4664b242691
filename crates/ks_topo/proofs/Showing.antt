-- What is shown of nodes and topics.
use Rattle.std.proofs.Common.{◌≡◌, ℕ, zero, suc, ◌<◌, List, [], ◌∷◌, ◌++◌, length, map, get_or, sym, ap, arith}
use Rattle.std.proofs.lemmas.List.{map-append}
use Rattle.ks_plan.specs.declared.draft.NodeDraft.{NodeDraft}
use Rattle.ks_plan.specs.declared.node.Node.{Node}
use Rattle.ks_plan.specs.declared.node.Topic.{Topic}
use Rattle.ks_plan.specs.declared.node.Topic.TheVariants.{Input}
use Rattle.ks_plan.specs.declared.node.TopicInfo.{TopicInfo}
use Rattle.ks_plan.specs.Drafts.{DraftView, nodes_view}
use Rattle.ks_plan.specs.Infos.{name_in, node_place, built_view, info_of}

pub name_there : (ns : List NodeDraft) (i : ℕ) (x : NodeDraft) → i < length ns → x ≡ get_or ns i x → name_in (nodes_view ns) i ≡ x.name
name_there [] i x h e = absurd (omega (arith, h))
name_there (n ∷ ns) zero x h e = ap (λ (y : NodeDraft). y.name) (sym e)
name_there (n ∷ ns) (suc i) x h e = name_there ns i x (omega (arith, h)) e

pub places_push : (ns : List Node) (n : Node) → map node_place (ns ++ n ∷ []) ≡ map node_place ns ++ node_place n ∷ []
places_push ns n = map-append node_place ns (n ∷ [])

pub views_push : (ns : List Node) (n : Node) → map built_view (ns ++ n ∷ []) ≡ map built_view ns ++ built_view n ∷ []
views_push ns n = map-append built_view ns (n ∷ [])

-- what is shown of a numbered topic
pub info_there : (d : DraftView) (ts : List Topic) (i : ℕ) (x : TopicInfo) → i < length ts → x ≡ get_or (map (info_of d) ts) i x → x ≡ info_of d (get_or ts i (Input 0))
info_there d [] i x h e = absurd (omega (arith, h))
info_there d (t ∷ ts) zero x h e = e
info_there d (t ∷ ts) (suc i) x h e = info_there d ts i x (omega (arith, h)) e
