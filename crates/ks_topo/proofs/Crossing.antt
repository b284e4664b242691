-- Threads may share a topology.
use denote.RattleType.{RattleType}
use denote.Param.Send.{IsSync, sendable, view_sync}
use denote.Param.SendFields.{declared_sync}
use denote.Struct.Tuple.{Tuple}
use Rattle.std.specs.Prelude.{[], ◌∷◌}
use Rattle.std.proofs.Crossing.{crosses}
use Rattle.std.proofs.MapsCrossing.{crosses as map_crosses}
use Rattle.ks_record.proofs.lists.Blob.TheSendSync.{the_sync as blob_sync}
use Rattle.ks_record.proofs.texts.Name.TheSendSync.{the_sync as name_sync}
use Rattle.ks_record.specs.contracts.lists.Seq as Seq
use Rattle.ks_record.specs.contracts.lists.Seq.TheInside as Inside
use Rattle.ks_record.specs.contracts.texts.Name as Name
use Rattle.ks_topo.specs.contracts.built.Topology as Topology
use Rattle.ks_plan.specs.contracts.draft.TopicDraft as TopicDraft
use Rattle.ks_plan.specs.contracts.node.Node as Node

ruleset plain = (blob_sync, name_sync, sendable, crosses, map_crosses)

seq_sync : (T : RattleType) → IsSync T → IsSync (Seq.the_row T)
seq_sync T t = view_sync (Inside.the_row T) _ _ _ _ (declared_sync (Inside.the_type T) (search (t, plain) depth 20, tt))

topic_draft_sync : IsSync TopicDraft.the_row
topic_draft_sync = declared_sync TopicDraft.the_type (search plain depth 20, (search plain depth 20, tt))

topic_drafts_sync : IsSync (Seq.the_row (Tuple (Name.the_row ∷ TopicDraft.the_row ∷ [])))
topic_drafts_sync = seq_sync (Tuple (Name.the_row ∷ TopicDraft.the_row ∷ [])) (search (topic_draft_sync, plain) depth 20)

pub topology_sync : IsSync Node.the_row → IsSync Topology.the_row
topology_sync node = declared_sync Topology.the_type (search plain depth 20, (topic_drafts_sync, (search plain depth 20, (search (node, plain) depth 20, (search plain depth 20, (search plain depth 20, (search plain depth 20, (search plain depth 20, (search plain depth 20, (search plain depth 20, (search plain depth 20, tt)))))))))))
