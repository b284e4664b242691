-- A producer as its parts are kept: each word of a step over a producer is one over these parts.
use Rattle.std.proofs.Common.{◌≡◌, ◌≢◌, ℕ, ◌<◌, Bool, true, false, cond, eqb, List, [], ◌∷◌, ◌++◌, length, set, get_or, Option, Some, None, refl, sym, ap, ◌∙◌, subst, ⊎_elim}
use Rattle.std.proofs.lemmas.Bool.Decides.{eqb_tells}
use Rattle.ks_record.specs.declared.record.PartId.{PartId}
use Rattle.ks_record.specs.declared.record.TaskId.{TaskId}
use Rattle.ks_record.specs.declared.assignment.Marker.{Marker}
use Rattle.ks_record.specs.declared.assignment.Refused.{Refused}
use Rattle.ks_history.specs.declared.transaction.Pending.{Pending}
use Rattle.ks_history.specs.declared.transaction.Transaction.{Transaction}
use Rattle.ks_history.specs.declared.transaction.Producer.{Producer}
use Rattle.ks_history.specs.State.{with_number, insert_part, with_pending}
use Rattle.ks_history.specs.Step.{or_else, fenced, markers_waiting, without_part, none_undecided, is_undecided, has_pending, tx_of, closed, renewed, pending_at}
use Rattle.ks_txn.specs.Outcomes.{start_fault, has_fault, decide_fault, started, added}
use Rattle.ks_group.specs.Pending.{is_pending}
use Rattle.ks_cluster.proofs.Lists.{get_or-set_same, get_or-set_other}
use Rattle.ks_cluster.specs.Moves.{plain}

abbrev made_of : ℕ → Option Transaction → Option Bool → List Marker → Producer
made_of e u l ws = record { epoch = e; undecided = u; last = l; waiting = ws }

-- ---- refusals
waiting_plain : (e : ℕ) (u : Option Transaction) (l : Option Bool) (ws : List Marker) → markers_waiting (plain (made_of e u l ws)) ≡ markers_waiting (made_of e u l ws)
waiting_plain e None l ws = refl
waiting_plain e (Some tx) l ws = refl

pub markers_plain : (p : Producer) → markers_waiting (plain p) ≡ markers_waiting p
markers_plain p = waiting_plain p.epoch p.undecided p.last p.waiting

pub start_plain : (p : Producer) (e : ℕ) → start_fault (plain p) e ≡ start_fault p e
start_plain p e = ap (or_else (fenced p e)) (markers_plain p)

part_plain : (e : ℕ) (u : Option Transaction) (l : Option Bool) (ws : List Marker) (part : PartId) → without_part (plain (made_of e u l ws)) part ≡ without_part (made_of e u l ws) part
part_plain e None l ws part = refl
part_plain e (Some tx) l ws part = refl

pub has_plain : (p : Producer) (e : ℕ) (part : PartId) → has_fault (plain p) e part ≡ has_fault p e part
has_plain p e part = ap (or_else (fenced p e)) (part_plain p.epoch p.undecided p.last p.waiting part)

undecided_plain : (e : ℕ) (u : Option Transaction) (l : Option Bool) (ws : List Marker) → none_undecided (plain (made_of e u l ws)) ≡ none_undecided (made_of e u l ws)
undecided_plain e None l ws = refl
undecided_plain e (Some tx) l ws = refl

pub decide_plain : (p : Producer) (e : ℕ) → decide_fault (plain p) e ≡ decide_fault p e
decide_plain p e = ap (or_else (fenced p e)) (undecided_plain p.epoch p.undecided p.last p.waiting)

is_plain : (e : ℕ) (u : Option Transaction) (l : Option Bool) (ws : List Marker) → is_undecided (plain (made_of e u l ws)) ≡ is_undecided (made_of e u l ws)
is_plain e None l ws = refl
is_plain e (Some tx) l ws = refl

pub open_plain : (p : Producer) → is_undecided (plain p) ≡ is_undecided p
open_plain p = is_plain p.epoch p.undecided p.last p.waiting

has_pending_of : (e : ℕ) (u : Option Transaction) (l : Option Bool) (ws : List Marker) (t : TaskId) → is_pending t (pending_at (made_of e u l ws)) ≡ has_pending (made_of e u l ws) t
has_pending_of e None l ws t = refl
has_pending_of e (Some tx) l ws t = refl

pub pending_plain : (p : Producer) (t : TaskId) → is_pending t (pending_at p) ≡ has_pending p t
pending_plain p t = has_pending_of p.epoch p.undecided p.last p.waiting t

-- ---- changes of the producers' part
close_plain : (e : ℕ) (u : Option Transaction) (l : Option Bool) (ws : List Marker) (c : Bool) → closed (plain (made_of e u l ws)) c ≡ plain (closed (made_of e u l ws) c)
close_plain e None l ws c = refl
close_plain e (Some tx) l ws c = refl

pub closed_plain : (p : Producer) (c : Bool) → closed (plain p) c ≡ plain (closed p c)
closed_plain p c = close_plain p.epoch p.undecided p.last p.waiting c

renew_plain : (e : ℕ) (u : Option Transaction) (l : Option Bool) (ws : List Marker) → renewed (plain (made_of e u l ws)) ≡ plain (renewed (made_of e u l ws))
renew_plain e None l ws = refl
renew_plain e (Some tx) l ws = refl

pub renewed_plain : (p : Producer) → renewed (plain p) ≡ plain (renewed p)
renewed_plain p = renew_plain p.epoch p.undecided p.last p.waiting

add_plain : (e : ℕ) (u : Option Transaction) (l : Option Bool) (ws : List Marker) (part : PartId) → added (plain (made_of e u l ws)) part ≡ plain (added (made_of e u l ws) part)
add_plain e None l ws part = refl
add_plain e (Some tx) l ws part = refl

pub added_plain : (p : Producer) (part : PartId) → added (plain p) part ≡ plain (added p part)
added_plain p part = add_plain p.epoch p.undecided p.last p.waiting part

-- what an append and offsets that are sent leave of a producer
abbrev pub appended : Producer → TaskId → Producer
appended p t = record p { undecided = Some (record (tx_of p) { tasks = (tx_of p).tasks ++ t ∷ [] }) }

abbrev pub offset : Producer → Pending → Producer
offset p new = record p { undecided = Some (record (tx_of p) { pending = with_pending new (tx_of p).pending }) }

start_offset : (e : ℕ) (u : Option Transaction) (l : Option Bool) (ws : List Marker) (new : Pending) → started (plain (made_of e u l ws)) ≡ plain (offset (made_of e u l ws) new)
start_offset e None l ws new = refl
start_offset e (Some tx) l ws new = refl

pub started_plain : (p : Producer) (new : Pending) → started (plain p) ≡ plain (offset p new)
started_plain p new = start_offset p.epoch p.undecided p.last p.waiting new

append_plain : (e : ℕ) (u : Option Transaction) (l : Option Bool) (ws : List Marker) (t : TaskId) (part : PartId) → without_part (made_of e u l ws) part ≡ None → plain (appended (made_of e u l ws) t) ≡ plain (made_of e u l ws)
append_plain e None l ws t part none = absurd (cc)
append_plain e (Some tx) l ws t part none = refl

-- without a refusal there is a transaction
no_second : (a b : Option Refused) → or_else a b ≡ None → b ≡ None
no_second None b none = none
no_second (Some r) b none = absurd (cc)

pub appended_plain : (p : Producer) (t : TaskId) (e : ℕ) (part : PartId) → has_fault p e part ≡ None → plain (appended p t) ≡ plain p
appended_plain p t e part none = append_plain p.epoch p.undecided p.last p.waiting t part (no_second (fenced p e) (without_part p part) none)

-- ---- changes of what is pending
none_closed : (e : ℕ) (u : Option Transaction) (l : Option Bool) (ws : List Marker) (c : Bool) → pending_at (closed (made_of e u l ws) c) ≡ []
none_closed e None l ws c = refl
none_closed e (Some tx) l ws c = refl

pub closed_pending : (p : Producer) (c : Bool) → [] ≡ pending_at (closed p c)
closed_pending p c = sym (none_closed p.epoch p.undecided p.last p.waiting c)

pub renewed_pending : (p : Producer) → [] ≡ pending_at (renewed p)
renewed_pending p = closed_pending p false

add_pending : (e : ℕ) (u : Option Transaction) (l : Option Bool) (ws : List Marker) (part : PartId) → pending_at (added (made_of e u l ws) part) ≡ pending_at (made_of e u l ws)
add_pending e None l ws part = refl
add_pending e (Some tx) l ws part = refl

pub added_pending : (p : Producer) (part : PartId) → pending_at (added p part) ≡ pending_at p
added_pending p part = add_pending p.epoch p.undecided p.last p.waiting part

append_pending : (e : ℕ) (u : Option Transaction) (l : Option Bool) (ws : List Marker) (t : TaskId) → pending_at (appended (made_of e u l ws) t) ≡ pending_at (made_of e u l ws)
append_pending e None l ws t = refl
append_pending e (Some tx) l ws t = refl

pub appended_pending : (p : Producer) (t : TaskId) → pending_at (appended p t) ≡ pending_at p
appended_pending p t = append_pending p.epoch p.undecided p.last p.waiting t

offset_pends : (e : ℕ) (u : Option Transaction) (l : Option Bool) (ws : List Marker) (new : Pending) → with_pending new (pending_at (made_of e u l ws)) ≡ pending_at (offset (made_of e u l ws) new)
offset_pends e None l ws new = refl
offset_pends e (Some tx) l ws new = refl

pub offset_pending : (p : Producer) (new : Pending) → with_pending new (pending_at p) ≡ pending_at (offset p new)
offset_pending p new = offset_pends p.epoch p.undecided p.last p.waiting new

-- ---- a list of what is kept of each producer, where one producer changes
pub changed : {A : Type 0} (kept : Producer → A) (f : ℕ → Producer) (xs : List A) (w : ℕ) (p : Producer) (x d : A) → w < length xs → ((v : ℕ) → get_or xs v d ≡ kept (f v)) → x ≡ kept p
    → (v : ℕ) → get_or (set xs w x) v d ≡ kept (with_number f w p v)
changed kept f xs w p x d h is made v =
    ⊎_elim
    (λ (t : (eqb v w ≡ true) × (v ≡ w)). subst (λ k. get_or (set xs w x) k d ≡ x) (sym t.1) (get_or-set_same xs w x d h) ∙ made ∙ sym (ap (λ b. kept (cond b p (f v))) t.0))
    (λ (t : (eqb v w ≡ false) × (v ≢ w)). get_or-set_other xs w v x d t.1 ∙ is v ∙ sym (ap (λ b. kept (cond b p (f v))) t.0))
    (eqb_tells v w)

pub unchanged : {A : Type 0} (kept : Producer → A) (f : ℕ → Producer) (xs : List A) (w : ℕ) (p : Producer) (d : A) → ((v : ℕ) → get_or xs v d ≡ kept (f v)) → kept p ≡ kept (f w)
    → (v : ℕ) → get_or xs v d ≡ kept (with_number f w p v)
unchanged kept f xs w p d is same v =
    ⊎_elim
    (λ (t : (eqb v w ≡ true) × (v ≡ w)). is v ∙ ap (λ k. kept (f k)) t.1 ∙ sym same ∙ sym (ap (λ b. kept (cond b p (f v))) t.0))
    (λ (t : (eqb v w ≡ false) × (v ≢ w)). is v ∙ sym (ap (λ b. kept (cond b p (f v))) t.0))
    (eqb_tells v w)
