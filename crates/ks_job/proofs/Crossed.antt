-- What threads may hand on, type by type up to the part of a job that one of them has read.
use denote.Param.Send.{IsSend, sendable}
use denote.Param.SendFields.{declared_send, variants_send}
use denote.Struct.Tuple.{Tuple}
use Rattle.std.specs.Prelude.{[], ◌∷◌}
use Rattle.std.proofs.Crossing.{crosses}
use Rattle.ks_record.proofs.lists.Blob.TheSendSync.{the_send as blob_send}
use Rattle.ks_record.proofs.texts.Name.TheSendSync.{the_send as name_send}
use Rattle.ks_record.proofs.texts.Text.TheSendSync.{the_send as text_send}
use Rattle.ks_record.proofs.lists.Seq.TheSendSync.{the_send as seq_send}
use Rattle.ks_record.proofs.record.Rec.TheSendSync.{the_send as rec_send}
use Rattle.ks_record.specs.contracts.lists.Seq as Seq
use Rattle.ks_record.specs.contracts.texts.Name as Name
use Rattle.ks_expr.proofs.terms.Expr.TheLaws.TheKnot.{crosses as expr_crosses}
use Rattle.ks_expr.proofs.terms.Pred.TheLaws.TheKnot.{crosses as pred_crosses}
use Rattle.ks_expr.specs.contracts.terms.Expr as Expr
use Rattle.ks_expr.specs.contracts.terms.Pred as Pred
use Rattle.ks_expr.specs.contracts.terms.Proj as Proj
use Rattle.ks_plan.specs.contracts.draft.Op as Op
use Rattle.ks_plan.specs.contracts.draft.NodeDraft as NodeDraft
use Rattle.ks_plan.specs.contracts.draft.TopicDraft as TopicDraft
use Rattle.ks_plan.specs.contracts.draft.Draft as Draft
use Rattle.ks_job.specs.contracts.judge.JobItem as JobItem
use Rattle.ks_job.specs.contracts.wide.Part as Part
use Rattle.ks_job.proofs.reader.Phase.TheSendSync.{the_field_send as phase_send}

ruleset plain = (blob_send, rec_send, name_send, text_send, sendable, crosses)

expr_send : IsSend Expr.the_row
expr_send = search (expr_crosses, plain) depth 20

pred_send : IsSend Pred.the_row
pred_send = search (pred_crosses, expr_crosses, plain) depth 20

proj_send : IsSend Proj.the_row
proj_send = search (expr_send, plain) depth 20

op_send : IsSend Op.the_row
op_send = variants_send Op.enum (
  (search plain depth 20, tt),
  (
    (search plain depth 20, tt),
    (
      (search plain depth 20, (pred_send, tt)),
      (
        (search plain depth 20, (proj_send, tt)),
        (
          (search plain depth 20, (search plain depth 20, tt)),
          (
            (search plain depth 20, (search plain depth 20, tt)),
            (
              (search plain depth 20, (search plain depth 20, (search plain depth 20, tt))),
              (
                (search plain depth 20, (search plain depth 20, (search plain depth 20, (search plain depth 20, (search plain depth 20, tt))))),
                (
                  (search plain depth 20, (search plain depth 20, (search plain depth 20, (proj_send, tt)))),
                  ((search plain depth 20, (search plain depth 20, (search plain depth 20, (search plain depth 20, (proj_send, tt))))), tt),
                ),
              ),
            ),
          ),
        ),
      ),
    ),
  ),
)

node_send : IsSend NodeDraft.the_row
node_send = declared_send NodeDraft.the_type (search plain depth 20, (op_send, tt))

topic_draft_send : IsSend TopicDraft.the_row
topic_draft_send = declared_send TopicDraft.the_type (search plain depth 20, (search plain depth 20, tt))

topic_drafts_send : IsSend (Seq.the_row (Tuple (Name.the_row ∷ TopicDraft.the_row ∷ [])))
topic_drafts_send = seq_send (Tuple (Name.the_row ∷ TopicDraft.the_row ∷ [])) (search (topic_draft_send, plain) depth 20)

draft_send : IsSend Draft.the_row
draft_send = declared_send Draft.the_type (search plain depth 20, (topic_drafts_send, (seq_send NodeDraft.the_row node_send, (search plain depth 20, tt))))

item_send : IsSend JobItem.the_row
item_send = variants_send JobItem.enum ((search plain depth 20, (draft_send, tt)), ((search plain depth 20, (search plain depth 20, tt)), tt))

pub part_send : IsSend Part.the_row
part_send = declared_send Part.the_type (search (phase_send, plain) depth 20, (search (item_send, plain) depth 20, tt))
