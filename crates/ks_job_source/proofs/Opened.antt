-- A job that is opened and read on, piece by piece.
use Rattle.std.proofs.Common.{◌≡◌, ℕ, ◌+◌, ◌-◌, ◌^◌, ◌<◌, ◌≤◌, min, List, [], ◌∷◌, ◌++◌, length, refl, sym, ap, subst, ◌∙◌, Bool, true, false, cond, arith, length-append}
use Rattle.std.proofs.lemmas.List.{append-nil}
use Rattle.std.specs.Prelude.{Option, Some, None, Result, Ok, Err, IfSome, ◌==◌}
use Rattle.std.specs.Option.{option_or}
use Rattle.std.specs.Io.KnownBytes.{Consumes, IsAtEnd, Keeps as StayKnown}
use Rattle.ks_job_record.specs.declared.fault.JobKind.{JobKind}
use Rattle.ks_plan.specs.Drafts.{DraftView}
use Rattle.ks_job.specs.Items.{ItemView, TopologyAt, RecordTo, item_views}
use Rattle.ks_job.specs.Phases.{Fed, TellsFault}
use Rattle.ks_job.specs.declared.judge.JobItem.{JobItem}
use Rattle.ks_job.specs.declared.reader.JobFault.{JobFault}
use Rattle.ks_job.specs.Lines.{Spot, judged}
use Rattle.ks_job.specs.Reader.{Reader, Machine, after, closed, at_end, end_of, so_far, whole}
use Rattle.ks_job.specs.Reader as readers
use Rattle.ks_job.proofs.Cuts.{after_both, with_reader}
use Rattle.ks_job.proofs.Joined.{behind, item_behind, after_behind}
use Rattle.ks_law_inputs.specs.Records.{AreRecords, IsJob}
use Rattle.ks_law_inputs.proofs.Items.{job_items}
use Rattle.ks_job_source.specs.declared.stop.JobStop.{JobStop}
use Rattle.ks_job_source.specs.declared.stop.JobStop.TheVariants.{BadLine}
use Rattle.ks_job_source.specs.declared.rest.Standing.{Standing}
use Rattle.ks_job_source.specs.declared.rest.Standing.TheVariants.{Reading, Whole, Stopped, Lost}
use Rattle.ks_job_source.specs.declared.rest.JobEnd.{JobEnd}
use Rattle.ks_job_source.specs.declared.rest.JobEnd.TheVariants as end
use Rattle.ks_job_source.specs.Stops.{topology_stop, line_stop, stop_of}
use Rattle.ks_job_source.specs.Steps.{StepsOn, StepsPast, GoesFurther, GoesPast}
use Rattle.ks_job_source.specs.Opening.{from, ended, ReadsOn, ReadsOut, GoesOn, EndsFrom, IsPast, StandsPast, IsReading, HoldsJob, HoldsFront, EndsJob, OpensAt}
use Rattle.ks_job_source.specs.Splitting.{standing_after, standing_ended}
use Rattle.ks_job_source.proofs.Machines.{few_bytes}
use Rattle.ks_job_source.proofs.Taking.{took_more, lost_as_much}

-- ---- the end of the input adds the same item, whatever stands before it
closing_behind : (n : ℕ) (before items : List ItemView) (r : Result (Spot × Option ItemView) JobKind) → at_end n (before ++ items) r ≡ behind before (at_end n items r)
closing_behind n before items (Ok x) = ap (λ (is : List ItemView). with_reader is (closed n x.0)) (item_behind before items x.1)
closing_behind n before items (Err f) = refl

end_behind_at : (b : Bool) (s : Spot) (before items : List ItemView) (r : Result (Spot × Option ItemView) JobKind) →
    cond b (with_reader (before ++ items) (closed s.line s)) (at_end s.line (before ++ items) r) ≡ behind before (cond b (with_reader items (closed s.line s)) (at_end s.line items r))
end_behind_at true s before items r = refl
end_behind_at false s before items r = closing_behind s.line before items r

end_behind : (r : Reader) (before items : List ItemView) → end_of r (before ++ items) ≡ behind before (end_of r items)
end_behind (readers.Reading s begun) before items = end_behind_at (length begun == 0) s before items (judged s 0 begun)
end_behind (readers.Faulty n f) before items = refl

-- ---- from a reader on, behind the items before it
on_from : (r : Reader) (before : List ItemView) (xs : List ℕ) → after (with_reader before r) xs ≡ behind before (after (from r) xs)
on_from r before xs = ap (λ (is : List ItemView). after (with_reader is r) xs) (sym (append-nil before)) ∙ after_behind before (from r) xs

end_from : (r : Reader) (before : List ItemView) → end_of r before ≡ behind before (end_of r [])
end_from r before = ap (end_of r) (sym (append-nil before)) ∙ end_behind r before []

-- some bytes led a machine here; what they and further bytes come to
module _ (m : Machine) (r : Reader) (before : List ItemView) (taken : List ℕ) (stands : after m taken ≡ with_reader before r) where
  on_more : (piece : List ℕ) → after m (taken ++ piece) ≡ behind before (after (from r) piece)
  on_more piece = after_both m taken piece ∙ (ap (λ n. after n piece) stands ∙ on_from r before piece)

  ended_here : ended (after m taken) ≡ behind before (end_of r [])
  ended_here = ap ended stands ∙ end_from r before

  ended_more : (piece : List ℕ) → ended (after m (taken ++ piece)) ≡ behind before (ended (after (from r) piece))
  ended_more piece = ap ended (on_more piece) ∙ end_behind (after (from r) piece).reader before (after (from r) piece).items

-- ---- a faulty reader stays as it is
pub faulty_on : (n : ℕ) (k : JobKind) (is : List ItemView) (xs : List ℕ) → after (with_reader is (readers.Faulty n k)) xs ≡ with_reader is (readers.Faulty n k)
faulty_on n k is [] = refl
faulty_on n k is (x ∷ xs) = faulty_on n k is xs

-- ---- what is left
abbrev pub rest_of : Option (List ℕ) → List ℕ
rest_of None = []
rest_of (Some xs) = xs

pub known_all : (old now : Option (List ℕ)) (taken : List ℕ) → Consumes old now taken → IfSome old (λ b. b ≡ taken ++ rest_of now)
known_all None now taken h = tt
known_all (Some xs) None taken h = absurd h
known_all (Some xs) (Some ys) taken h = h

no_rest : (now : Option (List ℕ)) → IsAtEnd now → rest_of now ≡ []
no_rest None h = refl
no_rest (Some xs) h = h

-- ---- one piece
module _ (start r : Reader) (old now new : Option (List ℕ)) (items : List ItemView) (h : ReadsOn start old now r items) where
  module _ (piece : List ℕ) (lost : Consumes now new piece) where
    goes : (s : Reader) (is : List ItemView) → after (from r) piece ≡ with_reader is s → GoesOn start old new (standing_after s) (items ++ is)
    goes (readers.Reading s begun) is e = record {
      taken = h.taken ++ piece;
      lost = took_more old now new h.taken piece h.lost lost;
      stands = on_more (from start) r items h.taken h.stands piece ∙ ap (behind items) e;
      unstopped = refl;
    }
    goes (readers.Faulty n k) is e =
        let all = (h.taken ++ piece) ++ rest_of new in
        let here : after (from start) (h.taken ++ piece) ≡ with_reader (items ++ is) (readers.Faulty n k) = on_more (from start) r items h.taken h.stands piece ∙ ap (behind items) e in
        let on : after (from start) all ≡ with_reader (items ++ is) (readers.Faulty n k) =
        after_both (from start) (h.taken ++ piece) (rest_of new) ∙ (ap (λ m. after m (rest_of new)) here ∙ faulty_on n k (items ++ is) (rest_of new)) in
        record {
          bytes = all;
          known = known_all old new (h.taken ++ piece) (took_more old now new h.taken piece h.lost lost);
          items_are = ap (λ m. (ended m).items) on;
          stops = ap (λ m. line_stop (ended m).reader) on;
        }

    pub goes_on : GoesOn start old new (standing_after (after (from r) piece).reader) (items ++ (after (from r) piece).items)
    goes_on = goes (after (from r) piece).reader (after (from r) piece).items refl

  module _ (lost : Consumes now new []) (end : IsAtEnd new) where
    out : (s : Reader) → (end_of r []).reader ≡ s → ReadsOut start old (line_stop s) (items ++ (end_of r []).items)
    out s e = record {
      bytes = h.taken ++ [] ++ rest_of new;
      known = known_all old new (h.taken ++ []) (took_more old now new h.taken [] h.lost lost);
      items_are = ap (λ m. m.items) all;
      stops = ap (λ m. line_stop m.reader) all ∙ ap line_stop e;
    }
      where
        all : ended (after (from start) (h.taken ++ [] ++ rest_of new)) ≡ behind items (end_of r [])
        all = ap (λ l. ended (after (from start) l)) (ap (λ l. h.taken ++ [] ++ l) (no_rest new end) ∙ (append-nil (h.taken ++ []) ∙ append-nil h.taken)) ∙ ended_here (from start) r items h.taken h.stands

    ends : (s : Reader) → (end_of r []).reader ≡ s → GoesOn start old new (standing_ended s) (items ++ (end_of r []).items)
    ends (readers.Reading s begun) e = (out (readers.Reading s begun) e, end)
    ends (readers.Faulty n k) e = out (readers.Faulty n k) e

    pub ends_on : GoesOn start old new (standing_ended (end_of r []).reader) (items ++ (end_of r []).items)
    ends_on = ends (end_of r []).reader refl

-- ---- the records behind a topology
records_front : (n : ℕ) (is js : List ItemView) → AreRecords n (is ++ js) → AreRecords n is
records_front n [] js h = tt
records_front n (TopologyAt line d ∷ is) js h = absurd h
records_front n (RecordTo t r ∷ is) js h = (h.0, records_front n is js h.1)

records_back : (n : ℕ) (is js : List ItemView) → AreRecords n (is ++ js) → AreRecords n js
records_back n [] js h = h
records_back n (TopologyAt line d ∷ is) js h = absurd h
records_back n (RecordTo t r ∷ is) js h = records_back n is js h.1

job_front : (is js : List ItemView) → IsJob (is ++ js) → IsJob is
job_front [] js h = tt
job_front (TopologyAt line d ∷ is) js h = (h.0, records_front (length d.topics) is js h.1)
job_front (RecordTo t r ∷ is) js h = absurd h

pub front_items : (xs : List ℕ) → IsJob (so_far xs).items
front_items xs = job_front (so_far xs).items (end_of (so_far xs).reader []).items (subst IsJob (ap (λ m. m.items) (end_from (so_far xs).reader (so_far xs).items)) (job_items xs).job)

-- ---- past a topology
module _ (topics count : ℕ) (r : Reader) (h : IsPast topics count r) where
  abbrev behind_it : List ItemView
  behind_it = TopologyAt h.line h.draft ∷ h.records

  pub some_left : count < 67174401
  some_left = omega (arith, h.counted, few_bytes h.taken h.unstopped)

  module _ (piece : List ℕ) where
    piece_on : so_far (h.taken ++ piece) ≡ behind behind_it (after (from r) piece)
    piece_on = on_more (so_far []) r behind_it h.taken h.stands piece

    pub piece_records : AreRecords topics (after (from r) piece).items
    piece_records =
        let job : IsJob (behind_it ++ (after (from r) piece).items) = subst IsJob (ap (λ m. m.items) piece_on) (front_items (h.taken ++ piece)) in
        subst (λ n. AreRecords n (after (from r) piece).items) h.many (records_back (length h.draft.topics) h.records (after (from r) piece).items job.1)

    no_topology : topology_stop behind_it ≡ None
    no_topology = by (topology_stop behind_it) (ap stop_of (sym h.stands) ∙ h.unstopped)
      where
        by : (o : Option JobStop) → option_or o (line_stop r) ≡ None → o ≡ None
        by None e = refl
        by (Some s) e = absurd (cc)

    past_at : (s : Reader) → (after (from r) piece).reader ≡ s → (next : ℕ) → next ≤ count + length piece → StandsPast topics next (standing_after s)
    past_at (readers.Faulty n k) e next few = tt
    past_at (readers.Reading s begun) e next few = record {
      taken = h.taken ++ piece;
      line = h.line;
      draft = h.draft;
      records = h.records ++ (after (from r) piece).items;
      stands = piece_on ∙ ap (λ q. with_reader (behind_it ++ (after (from r) piece).items) q) e;
      unstopped = ap stop_of (piece_on ∙ ap (λ q. with_reader (behind_it ++ (after (from r) piece).items) q) e) ∙ ap (λ o. option_or o None) no_topology;
      many = h.many;
      counted = omega (arith, few, h.counted, length-append h.taken piece);
    }

    pub stays_past : (next : ℕ) → next ≤ count + length piece → StandsPast topics next (standing_after (after (from r) piece).reader)
    stays_past next few = past_at (after (from r) piece).reader refl next few

  pub end_records : AreRecords topics (end_of r []).items
  end_records =
      let job : IsJob (behind_it ++ (end_of r []).items) = subst IsJob (ap (λ m. m.items) (ended_here (so_far []) r behind_it h.taken h.stands)) (job_items h.taken).job in
      subst (λ n. AreRecords n (end_of r []).items) h.many (records_back (length h.draft.topics) h.records (end_of r []).items job.1)

pub ended_past : (topics next : ℕ) (s : Reader) → StandsPast topics next (standing_ended s)
ended_past topics next (readers.Reading s begun) = tt
ended_past topics next (readers.Faulty n k) = tt

-- ---- a job that was opened and then read on
take_both : (first mid now : Option (List ℕ)) (taken more : List ℕ) → Consumes first mid taken → IfSome mid (λ b. b ≡ more) → IfSome first (λ b. b ≡ taken ++ more)
take_both None mid now taken more h k = tt
take_both (Some xs) None now taken more h k = absurd h
take_both (Some xs) (Some ys) now taken more h k = h ∙ ap (λ l. taken ++ l) k

module _ (first mid now : Option (List ℕ)) (d : DraftView) (records items : List ItemView) where
  module _ (r : Reader) (h : HoldsFront first mid r d records) where
    abbrev before : List ItemView
    before = TopologyAt h.line d ∷ records

    no_stop : topology_stop before ≡ None
    no_stop = by (topology_stop before) (ap stop_of (sym h.stands) ∙ h.unstopped)
      where
        by : (o : Option JobStop) → option_or o (line_stop r) ≡ None → o ≡ None
        by None e = refl
        by (Some s) e = absurd (cc)

    read_out : (stop : Option JobStop) → ReadsOut r mid stop items → HoldsJob first stop d (records ++ items)
    read_out stop k = record {
      bytes = h.taken ++ k.bytes;
      known = take_both first mid now h.taken k.bytes h.lost k.known;
      line = h.line;
      items_are = ap (λ m. m.items) all ∙ ap (λ l. before ++ l) k.items_are;
      stops = ap stop_of all ∙ (ap (λ o. option_or o (line_stop (ended (after (from r) k.bytes)).reader)) no_stop ∙ k.stops);
    }
      where
        all : whole (h.taken ++ k.bytes) ≡ behind before (ended (after (from r) k.bytes))
        all = ended_more (so_far []) r before h.taken h.stands k.bytes

    read_on : (s : Reader) → ReadsOn r mid now s items → HoldsFront first now s d (records ++ items)
    read_on s k = record {
      taken = h.taken ++ k.taken;
      lost = took_more first mid now h.taken k.taken h.lost k.lost;
      line = h.line;
      stands = all;
      unstopped = ap stop_of all ∙ (ap (λ o. option_or o (line_stop s)) no_stop ∙ k.unstopped);
    }
      where
        all : so_far (h.taken ++ k.taken) ≡ with_reader (before ++ items) s
        all = on_more (so_far []) r before h.taken h.stands k.taken ∙ ap (behind before) k.stands

  same_job : (stop : Option JobStop) → items ≡ [] → HoldsJob first stop d records → HoldsJob first stop d (records ++ items)
  same_job stop e h = subst (HoldsJob first stop d) (sym (ap (λ l. records ++ l) e ∙ append-nil records)) h

  pub opened_and_read : (standing : Standing) (e : JobEnd) → OpensAt first mid d records standing → EndsFrom standing mid now e items → EndsJob first now e d (records ++ items)
  opened_and_read (Reading None) e h k = absurd h
  opened_and_read (Reading (Some r)) end.Whole h k = (read_out r h None k.0, k.1)
  opened_and_read (Reading (Some r)) (end.Stopped stop) h k = read_out r h (Some stop) k
  opened_and_read (Reading (Some r)) end.Failed h k = (k.0, read_on r h k.0 k.1)
  opened_and_read Whole end.Whole h k = (same_job None k.0 h.0, subst IsAtEnd (sym k.1) h.1)
  opened_and_read Whole (end.Stopped stop) h k = absurd k
  opened_and_read Whole end.Failed h k = absurd k
  opened_and_read (Stopped stop) end.Whole h k = absurd k
  opened_and_read (Stopped stop) (end.Stopped other) h k = subst (λ s. HoldsJob first (Some s) d (records ++ items)) (sym k.1) (same_job (Some stop) k.0 h)
  opened_and_read (Stopped stop) end.Failed h k = absurd k
  opened_and_read Lost e h k = absurd h

-- ---- where a reader stands that has come past a topology
nothing_lost : (o : Option (List ℕ)) → Consumes o o []
nothing_lost None = tt
nothing_lost (Some xs) = refl

no_line_at : (o l : Option JobStop) → option_or o l ≡ None → l ≡ None
no_line_at None l e = e
no_line_at (Some s) l e = absurd (cc)

pub starts_on : (topics count : ℕ) (r : Reader) (left : Option (List ℕ)) → IsPast topics count r → ReadsOn r left left r []
starts_on topics count r left h = record {
  taken = [];
  lost = nothing_lost left;
  stands = refl;
  unstopped = no_line_at (topology_stop (TopologyAt h.line h.draft ∷ h.records)) (line_stop r) (ap stop_of (sym h.stands) ∙ h.unstopped);
}

pub lost_no_more : (start r : Reader) (old now new : Option (List ℕ)) (items : List ItemView) → StayKnown now new → ReadsOn start old now r items → ReadsOn start old new r items
lost_no_more start r old now new items k h = record { taken = h.taken; lost = lost_as_much old now new h.taken h.lost k; stands = h.stands; unstopped = h.unstopped }

-- ---- bytes that were taken are a front of the whole
pub record IsFront (first : Option (List ℕ)) (line : ℕ) (d : DraftView) (items : List ItemView) : Type 0 where
  pub bytes : List ℕ
  pub known : IfSome first (λ b. b ≡ bytes)
  pub more : List ItemView
  pub items_are : (whole bytes).items ≡ (TopologyAt line d ∷ items) ++ more

pub front_of_whole : (first now : Option (List ℕ)) (r : Reader) (d : DraftView) (items : List ItemView) (h : HoldsFront first now r d items) → IsFront first h.line d items
front_of_whole first now r d items h = record {
  bytes = h.taken ++ rest_of now;
  known = known_all first now h.taken h.lost;
  more = (ended (after (from r) (rest_of now))).items;
  items_are = ap (λ m. m.items) (ended_more (so_far []) r (TopologyAt h.line d ∷ items) h.taken h.stands (rest_of now));
}

-- ---- what a reader makes of a piece
module _ (xs : List ℕ) (f : JobFault) where
  pub piece_stops : (old new : Option Reader) (old_items new_items : List JobItem) → old_items ≡ [] → Fed old new old_items new_items xs → IfSome new (λ s. TellsFault (Err f) s) →
      IfSome old (λ r. Stopped (BadLine f.line f.kind) ≡ standing_after (after (from r) xs).reader)
  piece_stops None new old_items new_items none fed h = absurd fed
  piece_stops (Some r) None old_items new_items none fed h = absurd fed
  piece_stops (Some r) (Some s) old_items new_items none fed h =
      ap standing_after (sym h) ∙ ap (λ m. standing_after m.reader) (fed ∙ ap (λ is. after (with_reader (item_views is) r) xs) none)

  pub piece_items : (old new : Option Reader) (old_items new_items : List JobItem) → old_items ≡ [] → Fed old new old_items new_items xs → IfSome old (λ r. item_views new_items ≡ (after (from r) xs).items)
  piece_items None new old_items new_items none fed = absurd fed
  piece_items (Some r) None old_items new_items none fed = absurd fed
  piece_items (Some r) (Some s) old_items new_items none fed = ap (λ m. m.items) (fed ∙ ap (λ is. after (with_reader (item_views is) r) xs) none)

-- ---- one step, by what the reader made of it
module _ (left now : Option (List ℕ)) where
  pub steps_end : (o : Option Reader) (s : Standing) (items : List ItemView) → Consumes left now [] → IsAtEnd now → IfSome o (λ r. s ≡ standing_ended (end_of r []).reader) → IfSome o (λ r. items ≡ (end_of r []).items) → StepsOn left now o s items
  steps_end None s items lost end h k = λ start first before g. absurd g
  steps_end (Some r) s items lost end h k = λ start first before g.
      subst (λ is. GoesOn start first now s (before ++ is)) (sym k) (subst (λ x. GoesOn start first now x (before ++ (end_of r []).items)) (sym h) (ends_on start r first left now before g lost end))

  pub steps_piece : (o : Option Reader) (s : Standing) (items : List ItemView) (piece : List ℕ) → Consumes left now piece → IfSome o (λ r. s ≡ standing_after (after (from r) piece).reader) → IfSome o (λ r. items ≡ (after (from r) piece).items) → StepsOn left now o s items
  steps_piece None s items piece lost h k = λ start first before g. absurd g
  steps_piece (Some r) s items piece lost h k = λ start first before g.
      subst (λ is. GoesOn start first now s (before ++ is)) (sym k) (subst (λ x. GoesOn start first now x (before ++ (after (from r) piece).items)) (sym h) (goes_on start r first left now before g piece lost))

not_reading_at_end : (r : Reader) → IsReading (standing_ended r) → ⊥
not_reading_at_end (readers.Reading s begun) h = h
not_reading_at_end (readers.Faulty n k) h = h

pub past_end : (o : Option Reader) (s : Standing) (items : List ItemView) → IfSome o (λ r. s ≡ standing_ended (end_of r []).reader) → IfSome o (λ r. items ≡ (end_of r []).items) → StepsPast o s 0 items
past_end None s items h k = λ topics count next g few. absurd g
past_end (Some r) s items h k = λ topics count next g few. record {
  stands = subst (StandsPast topics next) (sym h) (ended_past topics next (end_of r []).reader);
  records = subst (AreRecords topics) (sym k) (end_records topics count r g);
  some = λ i. absurd (not_reading_at_end (end_of r []).reader (subst IsReading h i));
}

pub past_piece : (o : Option Reader) (s : Standing) (items : List ItemView) (piece : List ℕ) (taken : ℕ) → taken ≡ length piece → 0 < taken → IfSome o (λ r. s ≡ standing_after (after (from r) piece).reader) → IfSome o (λ r. items ≡ (after (from r) piece).items) → StepsPast o s taken items
past_piece None s items piece taken long some h k = λ topics count next g few. absurd g
past_piece (Some r) s items piece taken long some h k = λ topics count next g few. record {
  stands = subst (StandsPast topics next) (sym h) (stays_past topics count r g piece next (omega (arith, few, long)));
  records = subst (AreRecords topics) (sym k) (piece_records topics count r g piece);
  some = λ i. some;
}

-- ---- one step, from where reading stood
pub gone_further : (left now : Option (List ℕ)) (o : Option Reader) (old new : Standing) (items : List ItemView) → old ≡ Reading o → StepsOn left now o new items → GoesFurther left now old new items
gone_further left now o old new items e h = subst (λ s. GoesFurther left now s new items) (sym e) h

counts_up : (count taken next : ℕ) → next ≡ min (count + taken) (2 ^ 64 - 1) → next ≤ count + taken
counts_up count taken next e = omega (arith, e)

pub gone_past : (o : Option Reader) (old new : Standing) (count taken next : ℕ) (items : List ItemView) → old ≡ Reading o → next ≡ min (count + taken) (2 ^ 64 - 1) → StepsPast o new taken items → GoesPast old new count next items
gone_past None old new count taken next items e n h topics g = absurd (subst (StandsPast topics count) e g)
gone_past (Some r) old new count taken next items e n h topics g =
    let before : IsPast topics count r = subst (StandsPast topics count) e g in
    let step = h topics count next before (counts_up count taken next n) in
    let few = some_left topics count r before in
    record {
      stands = step.stands;
      records = step.records;
      more = λ i. let some = step.some i in omega (arith, n, some, few);
    }

-- ---- all that was read on are records
both_records : (n : ℕ) (is js : List ItemView) → AreRecords n is → AreRecords n js → AreRecords n (is ++ js)
both_records n [] js h k = k
both_records n (TopologyAt line d ∷ is) js h k = absurd h
both_records n (RecordTo t r ∷ is) js h k = (h.0, both_records n is js h.1 k)

module _ (topics count : ℕ) (r : Reader) (h : IsPast topics count r) where
  out_records : (bytes : List ℕ) → AreRecords topics (ended (after (from r) bytes)).items
  out_records bytes =
      let all : whole (h.taken ++ bytes) ≡ behind (TopologyAt h.line h.draft ∷ h.records) (ended (after (from r) bytes)) = ended_more (so_far []) r (TopologyAt h.line h.draft ∷ h.records) h.taken h.stands bytes in
      let job : IsJob ((TopologyAt h.line h.draft ∷ h.records) ++ (ended (after (from r) bytes)).items) = subst IsJob (ap (λ m. m.items) all) (job_items (h.taken ++ bytes)).job in
      subst (λ n. AreRecords n (ended (after (from r) bytes)).items) h.many (records_back (length h.draft.topics) h.records (ended (after (from r) bytes)).items job.1)

  read_records : (left now : Option (List ℕ)) (e : JobEnd) (items : List ItemView) → EndsFrom (Reading (Some r)) left now e items → AreRecords topics items
  read_records left now end.Whole items k = subst (AreRecords topics) k.0.items_are (out_records k.0.bytes)
  read_records left now (end.Stopped stop) items k = subst (AreRecords topics) k.items_are (out_records k.bytes)
  read_records left now end.Failed items k = subst (AreRecords topics) (ap (λ m. m.items) k.1.stands) (piece_records topics count r h k.1.taken)

end_records_of : (topics count : ℕ) (standing : Standing) (left now : Option (List ℕ)) (e : JobEnd) (items : List ItemView) → StandsPast topics count standing → EndsFrom standing left now e items → AreRecords topics items
end_records_of topics count (Reading None) left now e items h k = absurd h
end_records_of topics count (Reading (Some r)) left now e items h k = read_records topics count r h left now e items k
end_records_of topics count Whole left now end.Whole items h k = subst (AreRecords topics) (sym k.0) tt
end_records_of topics count Whole left now (end.Stopped stop) items h k = absurd k
end_records_of topics count Whole left now end.Failed items h k = absurd k
end_records_of topics count (Stopped stop) left now end.Whole items h k = absurd k
end_records_of topics count (Stopped stop) left now (end.Stopped other) items h k = subst (AreRecords topics) (sym k.0) tt
end_records_of topics count (Stopped stop) left now end.Failed items h k = absurd k
end_records_of topics count Lost left now e items h k = absurd k

-- those that came with the topology, and those after them
pub all_records : (topics count : ℕ) (standing : Standing) (left now : Option (List ℕ)) (e : JobEnd) (records items : List ItemView) → StandsPast topics count standing → AreRecords topics records → EndsFrom standing left now e items → AreRecords topics (records ++ items)
all_records topics count standing left now e records items h a k = both_records topics records items a (end_records_of topics count standing left now e items h k)
