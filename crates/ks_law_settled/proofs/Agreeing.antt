-- What a plan's steps must keep, for its runs over bytes and decoded to agree.
use Rattle.std.specs.Prelude.{◌≡◌, ℕ, true, false, Some}
use Rattle.ks_record.specs.declared.record.TaskId.{TaskId}
use Rattle.ks_plan.specs.Plan.{Plan}
use Rattle.ks_def_runs.specs.Bytes.{empty_store as no_bytes}
use Rattle.ks_def_tasks.specs.Messages.{Place, Item, Rules}
use Rattle.ks_def_tasks.specs.Tasks.{step, taker, is_changelog, empty_store}
use Rattle.ks_def_tasks.specs.Bytes.{ByteStores, byte_step, rec_of, part_id, message_in, store_from, is_own_number}
use Rattle.ks_def_tasks.proofs.Each.{AllOf}
use Rattle.ks_law_settled.proofs.Topics.{IsTopic}

-- no store but those of the own changelogs
abbrev pub IsNeat : Plan → ℕ → ByteStores → Type 0
IsNeat p sub stores = (n : ℕ) → is_own_number p sub n ≡ false → stores n ≡ no_bytes

-- what is made for lists that are taken from, and for changelogs
abbrev pub MadeFits : (Place → Item → Type 0) → (Place → Item → Type 0) → Place × Item → Type 0
MadeFits Fits Kept e = (is_changelog e.0.topic ≡ false → Fits e.0 e.1) × (is_changelog e.0.topic ≡ true → Kept e.0 e.1)

-- Fits: what waits at a place; Kept: what is written there; Held: what a task's bytes are
module _ (rules : Rules) (p : Plan) (Fits Kept : Place → Item → Type 0) (Held : TaskId → ByteStores → Type 0) where
  -- of one record that fits: it is read from its bytes, and the stores that the bytes are are those of the decoded step
  pub record StepAgrees (t : TaskId) (stores : ByteStores) (q : Place) (x : Item) : Type 0 where
    pub read : message_in p q.topic (rec_of x) ≡ Some x.message
    pub store : (step rules p t (store_from p t.sub stores) q x).store ≡ store_from p t.sub (byte_step rules p t stores (part_id p q) (rec_of x)).store
    pub held : Held t (byte_step rules p t stores (part_id p q) (rec_of x)).store
    pub fit : AllOf (MadeFits Fits Kept) (step rules p t (store_from p t.sub stores) q x).made

  pub record Agrees : Type 0 where
    pub start : (t : TaskId) → Held t (λ n. no_bytes)
    pub begin : (sub : ℕ) → empty_store ≡ store_from p sub (λ n. no_bytes)
    pub each : (t : TaskId) (stores : ByteStores) (q : Place) (x : Item) → IsTopic p q.topic → taker p q.topic ≡ t.sub → q.part ≡ t.part → IsNeat p t.sub stores → Held t stores → Fits q x →
        StepAgrees t stores q x
