-- The entries of a journal that has produced a job's records, each where it stands.
use Rattle.std.proofs.Common.{◌≡◌, ℕ, Bool, true, false, ◌&&◌, cond, List, [], ◌∷◌, ◌++◌, map, Option, Some, None, refl, sym, subst}
use Rattle.std.specs.Prelude.{option_map}
use Rattle.ks_record.specs.Texts.{IsKey, key_from}
use Rattle.ks_row.specs.Reading.{row_from}
use Rattle.ks_row.specs.Spelling.{FitsRow, spelling}
use Rattle.ks_record.specs.Parts.{same_part}
use Rattle.ks_record.specs.Records.{Record as Rec}
use Rattle.ks_record.specs.declared.record.PartId.{PartId}
use Rattle.ks_expr.specs.Eval.{Row}
use Rattle.ks_plan.specs.Plan.{Plan}
use Rattle.ks_query.specs.Streams.{Input}
use Rattle.ks_def_tasks.specs.Messages.{Rules}
use Rattle.ks_history.specs.declared.journal.Request.{Request}
use Rattle.ks_history.specs.declared.journal.Request.TheVariants.{Produce, Init, Add, Append, SendOffsets, Decide, MarkNext, Join, Expire, Hold, Probe, Assign, Park, Unpark}
use Rattle.ks_history.specs.declared.journal.Entry.{Entry}
use Rattle.ks_history.specs.State.{start}
use Rattle.ks_history.specs.History.{IsHistory, IsStep, IsFaithfulEntry}
use Rattle.ks_history.specs.Replay.{produced, produced_by}
use Rattle.ks_law_exactly_once.specs.Keeping.{FitIn}
use Rattle.ks_law_restore.proofs.Lasting.{Each-back}
use Rattle.ks_law_topology.specs.Spelled.{IfThere}
use Rattle.ks_law_topology.specs.Work.{setup_of}
use Rattle.ks_law_kinds.specs.OfKind.{spells, may_have, is_in_range, is_given}
use Rattle.ks_law_kinds.proofs.Spells.{spells_key, spells_row}
use Rattle.ks_law_settled.specs.Jobs.{produces, produces_by, produced_of, produced_part, produced_rec, FitsInput, FitInputs, InRange}
use Rattle.ks_audit.specs.Audited.{IsInputAt, IsPlaced}
use Rattle.ks_plan.specs.Drafts.{DraftView}
use Rattle.ks_plan.specs.Plan.{plan_of}
use Rattle.ks_law_settled.specs.Settled.{IsRunOf}
use Rattle.ks_audit_verdict.proofs.Complete.{StandsAt}

-- ---- a job's record, as it is produced
yes_both : (a b : Bool) → a ≡ true → b ≡ true → (a && b) ≡ true
yes_both true b h g = g
yes_both false b h g = h

key_given : (key : Option (List ℕ)) → IfThere IsKey key → may_have (spells key_from) key ≡ true
key_given None h = refl
key_given (Some k) h = spells_key k h

value_given : (value : Option Row) → IfThere FitsRow value → may_have (spells row_from) (option_map spelling value) ≡ true
value_given None h = refl
value_given (Some row) h = spells_row row h

module _ (rules : Rules) (p : Plan) where
  abbrev pub PlacedPairs : List (PartId × Rec) → Type 0
  PlacedPairs [] = Unit {0}
  PlacedPairs (x ∷ xs) = IsInputAt rules p x.0 x.1 × PlacedPairs xs

  one_placed : (r : Input) → FitsInput p r → is_in_range r.time ≡ true → IsInputAt rules p (produced_part rules p r) (produced_rec r)
  one_placed r fits range = record {
    given = yes_both (may_have (spells key_from) r.key && may_have (spells row_from) (option_map spelling r.value)) (is_in_range r.time)
        (yes_both (may_have (spells key_from) r.key) (may_have (spells row_from) (option_map spelling r.value)) (key_given r.key fits.key) (value_given r.value fits.value)) range;
    place = refl;
  }

  pub all_placed : (records : List Input) → FitInputs p records → InRange records → PlacedPairs (map (produced_of rules p) records)
  all_placed [] fits range = tt
  all_placed (r ∷ rs) fits range = (one_placed r fits.0 range.0, all_placed rs fits.1 range.1)

  -- ---- an entry's request, and those behind it
  behind : (request : Request) (more : List (PartId × Rec)) → PlacedPairs (produces_by request more) → PlacedPairs more
  behind (Produce part rec) more h = h.1
  behind (Init w) more h = h
  behind (Add w e q) more h = h
  behind (Append w e number t q recs) more h = h
  behind (SendOffsets w e g t offsets order late) more h = h
  behind (Decide w e commit) more h = h
  behind (MarkNext w) more h = h
  behind (Join w) more h = h
  behind (Expire w) more h = h
  behind (Hold w held) more h = h
  behind (Probe w g) more h = h
  behind (Assign w g a) more h = h
  behind (Park instance t) more h = h
  behind (Unpark instance t) more h = h

  first : (request : Request) (more : List (PartId × Rec)) → PlacedPairs (produces_by request more) → IsPlaced rules p request
  first (Produce part rec) more h = h.0
  first (Init w) more h = tt
  first (Add w e q) more h = tt
  first (Append w e number t q recs) more h = tt
  first (SendOffsets w e g t offsets order late) more h = tt
  first (Decide w e commit) more h = tt
  first (MarkNext w) more h = tt
  first (Join w) more h = tt
  first (Expire w) more h = tt
  first (Hold w held) more h = tt
  first (Probe w g) more h = tt
  first (Assign w g a) more h = tt
  first (Park instance t) more h = tt
  first (Unpark instance t) more h = tt

  placed_at : (told : List Entry) (e : Entry) (rest : List Entry) → PlacedPairs (produces (told ++ e ∷ rest)) → IsPlaced rules p e.request
  placed_at [] e rest h = first e.request (produces rest) h
  placed_at (x ∷ told) e rest h = placed_at told e rest (behind x.request (produces (told ++ e ∷ rest)) h)

  -- ---- partition by partition
  given_by : (request : Request) (pairs : List (PartId × Rec)) (q : PartId) (more : List Rec) → PlacedPairs (produces_by request pairs) → FitIn is_given q more → FitIn is_given q (produced_by request q more)
  given_by (Produce part rec) pairs q more h g = by (same_part q part)
    where
      by : (b : Bool) → FitIn is_given q (cond b (rec ∷ more) more)
      by true = (h.0.given, g)
      by false = g
  given_by (Init w) pairs q more h g = g
  given_by (Add w e part) pairs q more h g = g
  given_by (Append w e number t part recs) pairs q more h g = g
  given_by (SendOffsets w e n t offsets order late) pairs q more h g = g
  given_by (Decide w e commit) pairs q more h g = g
  given_by (MarkNext w) pairs q more h g = g
  given_by (Join w) pairs q more h g = g
  given_by (Expire w) pairs q more h g = g
  given_by (Hold w held) pairs q more h g = g
  given_by (Probe w n) pairs q more h g = g
  given_by (Assign w n a) pairs q more h g = g
  given_by (Park instance t) pairs q more h g = g
  given_by (Unpark instance t) pairs q more h g = g

  pub given_all : (journal : List Entry) (q : PartId) → PlacedPairs (produces journal) → FitIn is_given q (produced journal q)
  given_all [] q h = tt
  given_all (e ∷ es) q h = given_by e.request (produces es) q (produced es q) h (given_all es q (behind e.request (produces es) h))

-- ---- the journal of a run
module _ (rules : Rules) (d : DraftView) (records : List Input) (journal : List Entry) (run : IsRunOf rules d records journal) where
  placed : PlacedPairs rules (plan_of d) (produces journal)
  placed = subst (PlacedPairs rules (plan_of d)) (sym run.done.produced) (all_placed rules (plan_of d) records run.job.inputs run.job.range)

  pub given : (q : PartId) → FitIn is_given q (produced journal q)
  given q = given_all rules (plan_of d) journal q placed

  pub stands : (told : List Entry) (e : Entry) (rest : List Entry) → journal ≡ told ++ e ∷ rest → StandsAt rules d told e
  stands told e rest is =
      let setup = setup_of rules (plan_of d) in
      let here : IsHistory setup (told ++ e ∷ rest) = subst (IsHistory setup) is run.done.history in
      record {
        placed = placed_at rules (plan_of d) told e rest (subst (λ j. PlacedPairs rules (plan_of d) (produces j)) is placed);
        step = (Each-back IsStep setup start told (e ∷ rest) here.legal).0;
        faithful = (Each-back IsFaithfulEntry setup start told (e ∷ rest) here.faithful).0;
      }
