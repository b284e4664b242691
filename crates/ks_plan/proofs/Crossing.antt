-- Which of a topology's types threads may share.
use denote.RattleType.{RattleType}
use denote.Param.Send.{IsSync, sendable, view_sync}
use denote.Param.SendFields.{declared_sync, variants_sync}
use denote.Struct.Tuple.{Tuple}
use Rattle.std.specs.Prelude.{[], ◌∷◌}
use Rattle.std.proofs.Crossing.{crosses}
use Rattle.std.proofs.MapsCrossing.{crosses as map_crosses}
use Rattle.ks_record.proofs.lists.Blob.TheSendSync.{the_sync as blob_sync}
use Rattle.ks_record.proofs.texts.Name.TheSendSync.{the_sync as name_sync}
use Rattle.ks_record.proofs.texts.Text.TheSendSync.{the_sync as text_sync}
use Rattle.ks_record.specs.contracts.lists.Seq as Seq
use Rattle.ks_record.specs.contracts.lists.Seq.TheInside as Inside
use Rattle.ks_record.specs.contracts.texts.Name as Name
use Rattle.ks_expr.proofs.terms.Expr.TheLaws.TheKnot.{crosses as expr_crosses}
use Rattle.ks_expr.proofs.terms.Pred.TheLaws.TheKnot.{crosses as pred_crosses}
use Rattle.ks_expr.specs.contracts.terms.Expr as Expr
use Rattle.ks_expr.specs.contracts.terms.Pred as Pred
use Rattle.ks_expr.specs.contracts.terms.Proj as Proj
use Rattle.ks_plan.specs.contracts.draft.Op as Op
use Rattle.ks_plan.specs.contracts.draft.NodeDraft as NodeDraft
use Rattle.ks_plan.specs.contracts.draft.TopicDraft as TopicDraft
use Rattle.ks_plan.specs.contracts.draft.Draft as Draft
use Rattle.ks_plan.specs.contracts.node.Node as Node

ruleset plain = (blob_sync, name_sync, text_sync, sendable, crosses)

expr_sync : IsSync Expr.the_row
expr_sync = search (expr_crosses, plain) depth 20

pred_sync : IsSync Pred.the_row
pred_sync = search (pred_crosses, expr_crosses, plain) depth 20

proj_sync : IsSync Proj.the_row
proj_sync = search (expr_sync, plain) depth 20

op_sync : IsSync Op.the_row
op_sync = variants_sync Op.enum (
  (search plain depth 20, tt),
  (
    (search plain depth 20, tt),
    (
      (search plain depth 20, (pred_sync, tt)),
      (
        (search plain depth 20, (proj_sync, tt)),
        (
          (search plain depth 20, (search plain depth 20, tt)),
          (
            (search plain depth 20, (search plain depth 20, tt)),
            (
              (search plain depth 20, (search plain depth 20, (search plain depth 20, tt))),
              (
                (search plain depth 20, (search plain depth 20, (search plain depth 20, (search plain depth 20, (search plain depth 20, tt))))),
                (
                  (search plain depth 20, (search plain depth 20, (search plain depth 20, (proj_sync, tt)))),
                  ((search plain depth 20, (search plain depth 20, (search plain depth 20, (search plain depth 20, (proj_sync, tt))))), tt),
                ),
              ),
            ),
          ),
        ),
      ),
    ),
  ),
)

seq_sync : (T : RattleType) → IsSync T → IsSync (Seq.the_row T)
seq_sync T t = view_sync (Inside.the_row T) _ _ _ _ (declared_sync (Inside.the_type T) (search (t, plain, map_crosses) depth 20, tt))

node_draft_sync : IsSync NodeDraft.the_row
node_draft_sync = declared_sync NodeDraft.the_type (search (plain, map_crosses) depth 20, (op_sync, tt))

topic_draft_sync : IsSync TopicDraft.the_row
topic_draft_sync = declared_sync TopicDraft.the_type (search plain depth 20, (search plain depth 20, tt))

topic_drafts_sync : IsSync (Seq.the_row (Tuple (Name.the_row ∷ TopicDraft.the_row ∷ [])))
topic_drafts_sync = seq_sync (Tuple (Name.the_row ∷ TopicDraft.the_row ∷ [])) (search (topic_draft_sync, plain) depth 20)

pub draft_sync : IsSync Draft.the_row
draft_sync = declared_sync Draft.the_type (search (plain, map_crosses) depth 20, (topic_drafts_sync, (seq_sync NodeDraft.the_row node_draft_sync, (search (plain, map_crosses) depth 20, tt))))

pub node_sync : IsSync Node.the_row
node_sync = declared_sync Node.the_type (search (plain, map_crosses) depth 20, (op_sync, (search (plain, map_crosses) depth 20, (search (plain, map_crosses) depth 20, (search (plain, map_crosses) depth 20, (search (plain, map_crosses) depth 20, tt))))))
