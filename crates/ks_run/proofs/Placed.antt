-- A job's records as the cluster produces them.
use Rattle.std.proofs.Common.{◌≡◌, ℕ, ◌<◌, ◌≤◌, ◌^◌, true, List, [], ◌∷◌, length, map, refl, sym, ap, ap₂, subst, ◌∙◌, arith}
use Rattle.std.specs.Prelude.{Option, Some, None, IfSome, option_map, bit_and}
use Rattle.std.proofs.Math.Nat.{mod-lt}
use Rattle.std.proofs.lemmas.Bool.{le-leb}
use Rattle.ks_record.specs.Texts.{IsKey}
use Rattle.ks_row.specs.Spelling.{spelling, FitsRow}
use Rattle.ks_row.specs.Reading.{row_from}
use Rattle.ks_record.specs.Records.{Record as Rec}
use Rattle.ks_row.proofs.Spelled.{row_again}
use Rattle.ks_hash.specs.Murmur2.{murmur2_of}
use Rattle.ks_expr.specs.Keys.{spread_part}
use Rattle.ks_plan.specs.Drafts.{DraftView}
use Rattle.ks_plan.specs.Plan.{Plan, plan_of}
use Rattle.ks_plan.specs.Layout.{spread_of_topic}
use Rattle.ks_plan.specs.Places.{spread_to}
use Rattle.ks_topo.specs.Places.{spread_in}
use Rattle.ks_law_topology.specs.Spelled.{IfThere}
use Rattle.ks_job.specs.Items.{ItemView, TopologyAt, RecordTo}
use Rattle.ks_law_inputs.specs.Records.{row_in, input_of, records_of, IsRowBytes, IsRecord, AreRecords}
use Rattle.ks_def_tasks.specs.Rules.{rules_of}
use Rattle.ks_law_kinds.specs.OfKind.{is_in_range}
use Rattle.ks_law_settled.specs.Jobs.{produced_of, FitInputs, InRange, HasParts}
use Rattle.ks_run_feed.specs.Placing.{part_at, placed, placed_all}
use Rattle.ks_run_verdict.specs.Journals.{placed_records}
use Rattle.ks_plan.proofs.TopicLists.{topic_is}
use Rattle.ks_job_source.proofs.Counts.{counts_length}

pub keys_have_parts : (hash : List ℕ → ℕ) → HasParts (rules_of hash)
keys_have_parts hash k s l = mod-lt (bit_and (murmur2_of (spread_part s.before k)) 0x7fffffff) (omega arith)

-- ---- one record
value_again : (o : Option (List ℕ)) → IfSome o IsRowBytes → o ≡ option_map spelling (row_in o)
value_again None h = refl
value_again (Some bytes) h = let e : row_from bytes ≡ Some h.0 = ap row_from h.2 ∙ row_again h.0 h.1 in rw e (ap Some h.2)

value_there : (o : Option (List ℕ)) → IfSome o IsRowBytes → IfThere FitsRow (row_in o)
value_there None h = tt
value_there (Some bytes) h = let e : row_from bytes ≡ Some h.0 = ap row_from h.2 ∙ row_again h.0 h.1 in rw e h.1

key_there : (o : Option (List ℕ)) → IfSome o IsKey → IfThere IsKey o
key_there None h = tt
key_there (Some k) h = h

part_is : (hash : List ℕ → ℕ) (p : Plan) (topic : ℕ) (r : Rec) → topic < length p.counts → (k : Option (List ℕ)) →
    part_at k (spread_in p topic) ≡ (produced_of (rules_of hash) p (record { topic = topic; key = k; value = row_in r.value; time = r.ts })).0.part
part_is hash p topic r l None = refl
part_is hash p topic r l (Some k) = ap (λ t. spread_to k (spread_of_topic p t)) (topic_is p topic l)

record_placed : (hash : List ℕ → ℕ) (p : Plan) (topic : ℕ) (r : Rec) → IsRecord (length p.counts) topic r → placed p topic r ≡ produced_of (rules_of hash) p (input_of topic r)
record_placed hash p topic r h =
    ap₂ (λ part value. (record { topic = topic; part = part }, record { key = r.key; value = value; ts = r.ts })) (part_is hash p topic r h.topic r.key) (value_again r.value h.value)

-- ---- all of them
all_placed : (hash : List ℕ → ℕ) (p : Plan) (is : List ItemView) → AreRecords (length p.counts) is → placed_all p is ≡ map (produced_of (rules_of hash) p) (records_of is)
all_placed hash p [] h = refl
all_placed hash p (TopologyAt line d ∷ is) h = absurd h
all_placed hash p (RecordTo topic r ∷ is) h = ap₂ (λ x xs. x ∷ xs) (record_placed hash p topic r h.0) (all_placed hash p is h.1)

pub records_placed : (hash : List ℕ → ℕ) (d : DraftView) (is : List ItemView) → AreRecords (length d.topics) is → placed_all (plan_of d) is ≡ placed_records (rules_of hash) d (records_of is)
records_placed hash d is h = all_placed hash (plan_of d) is (subst (λ n. AreRecords n is) (sym (counts_length d)) h)

all_fit : (p : Plan) (is : List ItemView) → AreRecords (length p.counts) is → FitInputs p (records_of is)
all_fit p [] h = tt
all_fit p (TopologyAt line d ∷ is) h = absurd h
all_fit p (RecordTo topic r ∷ is) h =
    (record { topic = h.0.topic; key = key_there r.key h.0.key; value = value_there r.value h.0.value; time = h.0.time }, all_fit p is h.1)

pub records_fit : (d : DraftView) (is : List ItemView) → AreRecords (length d.topics) is → FitInputs (plan_of d) (records_of is)
records_fit d is h = all_fit (plan_of d) is (subst (λ n. AreRecords n is) (sym (counts_length d)) h)

-- ---- their timestamps
time_in_range : (t : ℕ) → t ≤ 2 ^ 53 → is_in_range t ≡ true
unfolding is_in_range
time_in_range t h = le-leb t (2 ^ 53) h

pub records_in_range : (topics : ℕ) (is : List ItemView) → AreRecords topics is → InRange (records_of is)
records_in_range topics [] h = tt
records_in_range topics (TopologyAt line d ∷ is) h = absurd h
records_in_range topics (RecordTo topic r ∷ is) h = (time_in_range r.ts h.0.range, records_in_range topics is h.1)
