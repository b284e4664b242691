-- The partition of a key, as Kafka's default partitioner chooses it: MurmurHash2 of the key without the sign bit, modulo the
-- number of partitions (Apache Kafka, `BuiltInPartitioner.partitionForKey`).
use Rattle.std.specs.Prelude.{ℕ, ◌%◌, List, bit_and}
use Rattle.ks_hash.specs.Murmur2.{murmur2_of}

-- of n partitions
abbrev pub part_of_key : List ℕ → ℕ → ℕ
part_of_key key n = bit_and (murmur2_of key) 0x7fffffff % n
