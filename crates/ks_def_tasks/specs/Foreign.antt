-- Joins on a foreign key: what the left side asks, what the right side keeps and answers, what an answer sets (KIP-213).
use Rattle.std.specs.Prelude.{ℕ, Bool, List, [], ◌∷◌, ◌++◌, map, Option, Some, None, cond, nat_eq, option_map, option_and_then, is_none}
use Rattle.ks_expr.specs.declared.terms.JoinKind.{JoinKind}
use Rattle.ks_expr.specs.Terms.{Set}
use Rattle.ks_expr.specs.declared.terms.Fk.{Fk}
use Rattle.ks_expr.specs.Keys.{fk_of}
use Rattle.ks_expr.specs.Eval.{Row, same_bytes, joined}
use Rattle.ks_query.specs.Streams.{Key}
use Rattle.ks_wire.specs.declared.values.Response.{Response}
use Rattle.ks_wire.specs.declared.values.Subscriber.{Subscriber}
use Rattle.ks_def_tasks.specs.Messages.{Instruction, Subscription, same_option}
use Rattle.ks_def_tasks.specs.Messages.Instruction.{Delete, DeleteAndAnswer, Answer, AnswerIfThere}

-- the foreign key of a left key and its row, where there is a row
abbrev pub key_of_row : Fk → Key → Option Row → Option Key
key_of_row fk k row = option_and_then (fk_of fk k) row

-- ---- a left row changes
abbrev pub subscribe : Option Key → Subscription → List (Key × Subscription)
subscribe None s = []
subscribe (Some b) s = (b, s) ∷ []

-- to the old foreign key, where it isn't the new one's; then to the new one. A deletion is told to the old one. Each names this partition,
-- if any
abbrev pub subscriptions : (Row → ℕ) → Fk → Key → Option ℕ → Option Row → Option Row → List (Key × Subscription)
subscriptions hash fk k part old None = subscribe (key_of_row fk k old) (record { hash = None; instruction = DeleteAndAnswer; part = part })
subscriptions hash fk k part old (Some v) =
    cond (same_option same_bytes (key_of_row fk k old) (fk_of fk k v)) [] (subscribe (key_of_row fk k old) (record { hash = Some (hash v); instruction = Delete; part = part }))
    ++ subscribe (fk_of fk k v) (record { hash = Some (hash v); instruction = Answer; part = part })

-- no answer will come where the new row has no foreign key, or the deleted one had none: then the result is set at once
abbrev pub is_direct : Fk → Key → Option Row → Option Row → Bool
is_direct fk k old None = is_none (key_of_row fk k old)
is_direct fk k old (Some v) = is_none (fk_of fk k v)

-- the result that is set at once
abbrev pub direct_row : JoinKind → Set → Option Row → Option Row
direct_row kind set None = None
direct_row kind set (Some v) = joined kind set (Some v) None

-- ---- a subscription comes
abbrev pub hash_by : Instruction → Option ℕ → Option ℕ
hash_by Delete hash = None
hash_by DeleteAndAnswer hash = None
hash_by Answer hash = hash
hash_by AnswerIfThere hash = hash

-- what is then kept at the foreign key and the left key: the hash, with the partition that was named
abbrev pub subscribed : Subscription → Option Subscriber
subscribed s = option_map (λ h. record { hash = h; part = s.part }) (hash_by s.instruction s.hash)

abbrev pub answer_by : Instruction → Option ℕ → Option Row → Option Response
answer_by Delete hash right = None
answer_by DeleteAndAnswer hash right = Some (record { hash = None; right = None })
answer_by Answer hash right = Some (record { hash = hash; right = right })
answer_by AnswerIfThere hash right = option_map (λ row. record { hash = hash; right = Some row }) right

-- the answer, with the right row of the moment
abbrev pub answer_to : Subscription → Option Row → Option Response
answer_to s right = answer_by s.instruction s.hash right

-- an answer with the partition that it goes to, where one is named
abbrev pub Sending : Type 0
Sending = Key × Response × Option ℕ

-- ---- a right row changes: an answer to each left key that is kept, in the order of the keys
abbrev pub answer_all : Option Row → List (Key × Subscriber) → List Sending
answer_all right es = map (λ e. (e.0, record { hash = Some e.1.hash; right = right }, e.1.part)) es

-- ---- an answer comes
abbrev pub hash_of : (Row → ℕ) → Option Row → Option ℕ
hash_of hash row = option_map hash row

-- it counts where its hash is that of the present left row, or both are absent
abbrev pub is_present : (Row → ℕ) → Option Row → Response → Bool
is_present hash left r = same_option nat_eq (hash_of hash left) r.hash

-- the new result, where it counts
abbrev pub respond : (Row → ℕ) → JoinKind → Set → Option Row → Response → Option (Option Row)
respond hash kind set left r = cond (is_present hash left r) (Some (joined kind set left r.right)) None
