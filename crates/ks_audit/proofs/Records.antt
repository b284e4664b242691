-- Input records at their places are the records of a job.
use Rattle.std.proofs.Common.{◌≡◌, ℕ, ◌<◌, ◌≤◌, ◌^◌, Bool, true, false, ◌&&◌, nat_le, List, [], ◌∷◌, ◌++◌, length, map, Option, Some, None, is_some, option_map, refl, sym, ap, ap₂, subst, ◌∙◌, arith}
use Rattle.std.specs.List.{AllByRecursion}
use Rattle.std.proofs.lemmas.Bool.{and_parts, leb-true}
use Rattle.ks_row.specs.Spelling.{FitsRow, spelling}
use Rattle.ks_record.specs.Texts.{IsKey, key_from}
use Rattle.ks_row.specs.Reading.{row_from}
use Rattle.ks_record.specs.declared.record.PartId.{PartId}
use Rattle.ks_record.specs.Records.{Record as Rec}
use Rattle.ks_row.proofs.Spelled.{key_takes, row_takes}
use Rattle.ks_expr.specs.Eval.{Row}
use Rattle.ks_plan.specs.Plan.{Plan}
use Rattle.ks_plan.specs.declared.node.Topic.TheVariants.{Input as InputTopic}
use Rattle.ks_query.specs.Streams.{Key, Input}
use Rattle.ks_def_tasks.specs.Messages.{Rules}
use Rattle.ks_history.specs.declared.journal.Request.{Request}
use Rattle.ks_history.specs.declared.journal.Request.TheVariants.{Produce, Init, Add, Append, SendOffsets, Decide, MarkNext, Join, Expire, Hold, Probe, Assign, Park, Unpark}
use Rattle.ks_history.specs.declared.journal.Entry.{Entry}
use Rattle.ks_history.specs.State.{State, Setup, start}
use Rattle.ks_history.specs.Step.{after}
use Rattle.ks_history.specs.History.{Each, IsStep, Meets}
use Rattle.ks_law_topology.specs.Spelled.{IfThere}
use Rattle.ks_law_topology.specs.Work.{setup_of}
use Rattle.ks_law_kinds.specs.OfKind.{are_bytes, spells, may_have, is_in_range}
use Rattle.ks_law_kinds.proofs.Spells.{IsBytes-of}
use Rattle.ks_law_settled.specs.Jobs.{produces, produces_by, produced_of, produced_part, produced_rec, FitsInput, FitInputs, InRange}
use Rattle.ks_audit.specs.Audited.{IsInputAt, IsPlaced}
use Rattle.ks_audit.specs.Inputs.{AreInputs, HasRecords, InputsAreRecords}

-- ---- keys and values
key_is : (key : Option (List ℕ)) → may_have (spells key_from) key ≡ true → IfThere IsKey key
key_is None h = tt
key_is (Some bytes) h = by (key_from bytes) refl (and_parts (are_bytes bytes) (is_some (key_from bytes)) h).1
  where
    by : (o : Option (List ℕ)) → key_from bytes ≡ o → is_some o ≡ true → IsKey bytes
    by None is g = absurd cc
    by (Some k) is g = (key_takes bytes k is).1

-- the row of a value, which it spells
pub record HasRow (value : Option (List ℕ)) : Type 0 where
  pub row : Option Row
  pub fits : IfThere FitsRow row
  pub spelled : option_map spelling row ≡ value

row_is : (value : Option (List ℕ)) → may_have (spells row_from) value ≡ true → HasRow value
row_is None h = record { row = None; fits = tt; spelled = refl }
row_is (Some bytes) h = by (row_from bytes) refl (and_parts (are_bytes bytes) (is_some (row_from bytes)) h).1
  where
    by : (o : Option Row) → row_from bytes ≡ o → is_some o ≡ true → HasRow (Some bytes)
    by None is g = absurd cc
    by (Some row) is g =
        let t = row_takes bytes row (IsBytes-of bytes (and_parts (are_bytes bytes) (is_some (row_from bytes)) h).0) is in
        record { row = Some row; fits = t.0; spelled = ap (λ b. Some b) (sym t.1) }

range_fits : (time : ℕ) → is_in_range time ≡ true → time < 2 ^ 64
unfolding is_in_range
range_fits time h = let le : time ≤ 2 ^ 53 = leb-true time (2 ^ 53) h in omega (arith, le)

-- ---- one record
pub record IsRecordOf (rules : Rules) (p : Plan) (part : PartId) (rec : Rec) : Type 0 where
  pub input : Input
  pub produced : produced_of rules p input ≡ (part, rec)
  pub fits : FitsInput p input
  pub range : is_in_range input.time ≡ true

one_record : (rules : Rules) (p : Plan) (part : PartId) (rec : Rec) → part.topic < length p.counts → IsInputAt rules p part rec → IsRecordOf rules p part rec
one_record rules p part rec there is =
    let outer = and_parts (may_have (spells key_from) rec.key && may_have (spells row_from) rec.value) (is_in_range rec.ts) is.given in
    let inner = and_parts (may_have (spells key_from) rec.key) (may_have (spells row_from) rec.value) outer.0 in
    let value : HasRow rec.value = row_is rec.value inner.1 in
    record {
      input = record { topic = part.topic; key = rec.key; value = value.row; time = rec.ts };
      produced = λ i. (record { topic = part.topic; part = sym is.place i }, record { key = rec.key; value = value.spelled i; ts = rec.ts });
      fits = record { topic = there; key = key_is rec.key inner.0; value = value.fits; time = range_fits rec.ts outer.1 };
      range = outer.1;
    }

-- ---- all of a journal
module _ (rules : Rules) (p : Plan) where
  next : (request : Request) (entries : List Entry) (s : State) → Meets (setup_of rules p) s request → IsPlaced rules p request → HasRecords rules p entries → (records : List Input) × (produces_by request (produces entries) ≡ map (produced_of rules p) records) × FitInputs p records × InRange records
  next (Produce part rec) entries s m placed more =
      let one = one_record rules p part rec m.0 placed in
      (one.input ∷ more.records, ap₂ (λ x xs. x ∷ xs) (sym one.produced) more.produced, (one.fits, more.fit), (one.range, more.range))
  next (Init w) entries s m placed more = (more.records, more.produced, more.fit, more.range)
  next (Add w e q) entries s m placed more = (more.records, more.produced, more.fit, more.range)
  next (Append w e number t q recs) entries s m placed more = (more.records, more.produced, more.fit, more.range)
  next (SendOffsets w e g t offsets order late) entries s m placed more = (more.records, more.produced, more.fit, more.range)
  next (Decide w e commit) entries s m placed more = (more.records, more.produced, more.fit, more.range)
  next (MarkNext w) entries s m placed more = (more.records, more.produced, more.fit, more.range)
  next (Join w) entries s m placed more = (more.records, more.produced, more.fit, more.range)
  next (Expire w) entries s m placed more = (more.records, more.produced, more.fit, more.range)
  next (Hold w held) entries s m placed more = (more.records, more.produced, more.fit, more.range)
  next (Probe w g) entries s m placed more = (more.records, more.produced, more.fit, more.range)
  next (Assign w g a) entries s m placed more = (more.records, more.produced, more.fit, more.range)
  next (Park instance t) entries s m placed more = (more.records, more.produced, more.fit, more.range)
  next (Unpark instance t) entries s m placed more = (more.records, more.produced, more.fit, more.range)

  from : (s : State) (journal : List Entry) → Each IsStep (setup_of rules p) s journal → AreInputs rules p journal → HasRecords rules p journal
  from s [] legal inputs = record { records = []; produced = refl; fit = tt; range = tt }
  from s (entry ∷ entries) legal inputs =
      let more = from (after (setup_of rules p) s entry.request) entries legal.1 inputs.1 in
      let all = next entry.request entries s legal.0.meets inputs.0 more in
      record { records = all.0; produced = all.1; fit = all.2; range = all.3 }

pub inputs_are_records : InputsAreRecords
inputs_are_records rules p journal legal inputs = from rules p start journal legal inputs

-- ---- one entry more
pub inputs_more : (rules : Rules) (p : Plan) (journal : List Entry) (entry : Entry) → AreInputs rules p journal → IsPlaced rules p entry.request → AreInputs rules p (journal ++ entry ∷ [])
inputs_more rules p [] entry inputs placed = (placed, tt)
inputs_more rules p (e ∷ es) entry inputs placed = (inputs.0, inputs_more rules p es entry inputs.1 placed)
