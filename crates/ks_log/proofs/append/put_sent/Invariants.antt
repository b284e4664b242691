use Rattle.std.proofs.Common.{◌≡◌, ◌+◌, ◌++◌, length, take, drop}
use Rattle.std.specs.Prelude.{vec_capacity}
use Rattle.ks_history.specs.Partition.{sent_slots}
use Rattle.ks_log.proofs.append.put_sent.Given as goal

abbrev pub invariant-loop-place : goal.invariant-loop-place
invariant-loop-place l = record {
  whole : l.slots.items ++ sent_slots l.batch.producer l.batch.epoch l.next l.batch.task (drop l.place l.batch.recs)
      ≡ l.fn.slots.items ++ sent_slots l.batch.producer l.batch.epoch l.batch.number l.batch.task l.batch.recs;
  start : take (length l.fn.slots.items) l.slots.items ≡ l.fn.slots.items;
  long : length l.slots.items ≡ length l.fn.slots.items + l.place;
  room : vec_capacity l.slots ≡ vec_capacity l.fn.slots;
  next : l.next ≡ l.batch.number + l.place;
}
