-- A job that is opened at the first piece that has its topology, or at its end.
use Rattle.std.proofs.Common.{◌≡◌, ℕ, ◌≤◌, List, [], ◌∷◌, ◌++◌, length, take, drop, refl, sym, ap, ap₂, subst, ◌∙◌, Bool, true, false, ◌||◌, not, arith}
use Rattle.std.proofs.Math.Seq.{take-append_seam}
use Rattle.std.proofs.lemmas.Bool.{true≢false}
use Rattle.std.proofs.lemmas.Bool.Decides.{Decides-eqb}
use Rattle.std.proofs.lemmas.List.{append-nil}
use Rattle.std.specs.Prelude.{◌==◌, is_some, Option, Some, None, Result, Ok, Err, IfOk, IfSome, OnOk, option_map}
use Rattle.std.specs.declared.vec.Vec.{Vec}
use Rattle.std.specs.declared.alloc.Global.{Global}
use Rattle.std.specs.Option.{option_or}
use Rattle.std.specs.Io.KnownBytes.{Consumes, IsAtEnd}
use Rattle.ks_job_record.specs.declared.fault.JobKind.{JobKind}
use Rattle.ks_plan.specs.declared.fault.TopoFault.{TopoFault}
use Rattle.ks_plan.specs.Drafts.{DraftView, draft_view}
use Rattle.ks_plan.specs.Faults.{fault_of}
use Rattle.ks_job.specs.Items.{ItemView, TopologyAt, RecordTo, item_views}
use Rattle.ks_job.specs.Reader.{Reader, Machine, after, end_of, so_far, whole}
use Rattle.ks_job.specs.Reader as readers
use Rattle.ks_job.proofs.Cuts.{after_both, with_reader}
use Rattle.ks_law_inputs.specs.Records.{IsJob, Told}
use Rattle.ks_law_inputs.proofs.Items.{job_items}
use Rattle.ks_job_source.specs.declared.stop.JobStop.{JobStop}
use Rattle.ks_job_source.specs.declared.stop.JobStop.TheVariants.{BadLine, BadTopology}
use Rattle.ks_job_source.specs.declared.rest.Standing.TheVariants.{Reading, Whole, Stopped}
use Rattle.ks_job_source.specs.declared.rest.JobRest.{JobRest}
use Rattle.ks_job_source.specs.declared.opening.OpenJob.{OpenJob}
use Rattle.ks_job_source.specs.Reading.{machine_of, Ends, Read}
use Rattle.ks_job_source.specs.Stops.{topology_stop, line_stop, stop_of}
use Rattle.ks_job_source.specs.Opening.{Opens, IsReadable, OpensAt, StandsPast, HoldsJob}
use Rattle.ks_job_source.specs.Splitting.{split, Parts}
use Rattle.ks_job_source.proofs.Opened.{front_items, rest_of, known_all, faulty_on}
use Rattle.ks_job.specs.declared.judge.JobItem.{JobItem}
use Rattle.ks_job_source.proofs.Machines.{unrefused}
use Rattle.ks_job_source.proofs.Taking.{stopped_on, known_end, at_machine}

-- ---- the topology and the records of some items
pub record Splits (is : List ItemView) (d : DraftView) (records : List ItemView) : Type 0 where
  pub line : ℕ
  pub items_are : is ≡ TopologyAt line d ∷ records

splits : (is : List ItemView) (d : DraftView) (records : List ItemView) → split is ≡ Some (d, records) → Splits is d records
splits [] d records e = absurd (cc)
splits (RecordTo t r ∷ is) d records e = absurd (cc)
splits (TopologyAt line f ∷ is) d records e = record { line = line; items_are = ap (λ (p : DraftView × List ItemView). TopologyAt line p.0 ∷ p.1) (of_some e) }
  where
    of_some : {A : Type 0} {x y : A} → Some x ≡ Some y → x ≡ y
    of_some k = cc

-- items of a job that have no topology are none
no_items : (is : List ItemView) → IsJob is → split is ≡ None → is ≡ []
no_items [] j e = refl
no_items (TopologyAt line d ∷ is) j e = absurd (cc)
no_items (RecordTo t r ∷ is) j e = absurd j

-- ---- what is no fault of the topology
no_fault : (line : ℕ) (o : Option TopoFault) → option_map (BadTopology line) o ≡ None → o ≡ None
no_fault line None e = refl
no_fault line (Some f) e = absurd (cc)

a_line : (line n : ℕ) (k : JobKind) (o : Option TopoFault) (l : Option JobStop) → option_or (option_map (BadTopology line) o) l ≡ Some (BadLine n k) → option_map (BadTopology line) o ≡ None
a_line line n k None l e = refl
a_line line n k (Some f) l e = absurd (cc)

not_topology : (is : List ItemView) (l : Option JobStop) (n : ℕ) (k : JobKind) → option_or (topology_stop is) l ≡ Some (BadLine n k) → topology_stop is ≡ None
not_topology [] l n k e = refl
not_topology (TopologyAt line d ∷ is) l n k e = a_line line n k (fault_of d) l e
not_topology (RecordTo t r ∷ is) l n k e = refl

no_stop : (o l : Option JobStop) → option_or o l ≡ None → o ≡ None
no_stop None l e = refl
no_stop (Some s) l e = absurd (cc)

-- ---- what was opened can be read on
readable : (is : List ItemView) (d : DraftView) (records : List ItemView) (rest : JobRest) → IsJob is → topology_stop is ≡ None → Splits is d records → StandsPast (length d.topics) rest.taken rest.standing →
    1 ≤ length rest.buf.items → IsReadable d records rest
readable is d records rest job fine s past room =
    let j : IsJob (TopologyAt s.line d ∷ records) = subst IsJob s.items_are job in
    record {
      fine = no_fault s.line (fault_of d) (ap topology_stop (sym s.items_are) ∙ fine);
      partitions = j.0;
      records_are = j.1;
      past = past;
      room = room;
    }

-- ---- at the end of the input
module _ (first now : Option (List ℕ)) (bytes : List ℕ) (known : IfSome first (λ b. b ≡ bytes)) (end : IsAtEnd now) (is : List ItemView) (items : (whole bytes).items ≡ is) where
  is_job : IsJob is
  is_job = subst IsJob items (job_items bytes).job

  holds : (stop : Option JobStop) (d : DraftView) (records : List ItemView) → stop_of (whole bytes) ≡ stop → Splits is d records → HoldsJob first stop d records
  holds stop d records stops s = record { bytes = bytes; known = known; line = s.line; items_are = items ∙ s.items_are; stops = stops }

  opened_at_end : (stop : Option JobStop) (job : OpenJob) (buf : List ℕ) → stop_of (whole bytes) ≡ stop → 1 ≤ length buf → Parts stop None is buf (Ok job) → Opens first now (Ok job)
  opened_at_end None job buf stops room p =
      let s = splits is (draft_view job.draft) (item_views job.records.items) p.0 in
      let standing : Whole ≡ job.rest.standing = cc (p.1) in
      record {
        readable = readable is (draft_view job.draft) (item_views job.records.items) job.rest is_job
            (ap topology_stop (sym items) ∙ no_stop (topology_stop (whole bytes).items) (line_stop (whole bytes).reader) stops) s
            (subst (StandsPast _ job.rest.taken) standing tt) (subst (λ l. 1 ≤ length l) (sym p.3) room);
        stands = subst (OpensAt first now (draft_view job.draft) (item_views job.records.items)) standing (holds None (draft_view job.draft) (item_views job.records.items) stops s, end);
      }
  opened_at_end (Some (BadLine n k)) job buf stops room p =
      let s = splits is (draft_view job.draft) (item_views job.records.items) p.0 in
      let standing : Stopped (BadLine n k) ≡ job.rest.standing = cc (p.1) in
      record {
        readable = readable is (draft_view job.draft) (item_views job.records.items) job.rest is_job
            (ap topology_stop (sym items) ∙ not_topology (whole bytes).items (line_stop (whole bytes).reader) n k stops) s
            (subst (StandsPast _ job.rest.taken) standing tt) (subst (λ l. 1 ≤ length l) (sym p.3) room);
        stands = subst (OpensAt first now (draft_view job.draft) (item_views job.records.items)) standing (holds (Some (BadLine n k)) (draft_view job.draft) (item_views job.records.items) stops s);
      }
  opened_at_end (Some (BadTopology line f)) job buf stops room p = absurd (cc (p.1))

  pub opens_at_end : (stop : Option JobStop) (result : Result OpenJob JobStop) (buf : List ℕ) → stop_of (whole bytes) ≡ stop → 1 ≤ length buf → Parts stop None is buf result → Opens first now result
  opens_at_end stop (Ok job) buf stops room p = opened_at_end stop job buf stops room p
  opens_at_end stop (Err s) buf stops room p = record { bytes = bytes; known = known; ends = stops ∙ p }

  told_some : (r : Reader) (xs : List ItemView) → Told r xs → line_stop r ≡ None → xs ≡ [] → ⊥
  told_some (readers.Reading s begun) [] t l e = t
  told_some (readers.Reading s begun) (x ∷ xs) t l e = absurd (cc)
  told_some (readers.Faulty n k) xs t l e = absurd (cc)

  no_line : (o l : Option JobStop) → option_or o l ≡ None → l ≡ None
  no_line None l e = e
  no_line (Some s) l e = absurd (cc)

  pub split_at_end : split is ≡ None → stop_of (whole bytes) ≡ None → ⊥
  split_at_end e stops = told_some (whole bytes).reader (whole bytes).items (job_items bytes).told (no_line (topology_stop (whole bytes).items) (line_stop (whole bytes).reader) stops) (items ∙ no_items is is_job e)

-- ---- at a piece
module _ (first now : Option (List ℕ)) (got : List ℕ) (lost : Consumes first now got) (r : Reader) (is : List ItemView) (stands : so_far got ≡ with_reader is r) where
  here_job : IsJob is
  here_job = subst IsJob (ap (λ m. m.items) stands) (front_items got)

  whole_here : (n : ℕ) (k : JobKind) → r ≡ readers.Faulty n k → whole (got ++ rest_of now) ≡ with_reader is (readers.Faulty n k)
  whole_here n k e =
      let on : so_far (got ++ rest_of now) ≡ with_reader is (readers.Faulty n k) =
      after_both _ got (rest_of now) ∙ (ap (λ m. after m (rest_of now)) (stands ∙ ap (with_reader is) e) ∙ faulty_on n k is (rest_of now)) in
      ap (λ m. end_of m.reader m.items) on

  faulty_line : (q : Reader) (n : ℕ) (k : JobKind) → line_stop q ≡ Some (BadLine n k) → q ≡ readers.Faulty n k
  faulty_line (readers.Reading s begun) n k e = absurd (cc)
  faulty_line (readers.Faulty m j) n k e = let a : BadLine m j ≡ BadLine n k = cc in cc

  is_line : (o l : Option JobStop) (n : ℕ) (k : JobKind) → o ≡ None → option_or o l ≡ Some (BadLine n k) → l ≡ Some (BadLine n k)
  is_line None l n k e h = h
  is_line (Some s) l n k e h = absurd (cc)

  opened_here : (stop : Option JobStop) (job : OpenJob) (buf : List ℕ) → stop_of (so_far got) ≡ stop → 1 ≤ length buf → Parts stop (Some (Some r)) is buf (Ok job) → Opens first now (Ok job)
  opened_here None job buf stops room p =
      let d = draft_view job.draft in
      let records = item_views job.records.items in
      let s = splits is d records p.0 in
      let standing : Reading (Some r) ≡ job.rest.standing = cc (p.1) in
      let fine = no_stop (topology_stop is) (line_stop r) (ap stop_of (sym stands) ∙ stops) in
      let at = stands ∙ ap (λ l. with_reader l r) s.items_are in
      record {
        readable = readable is d records job.rest here_job fine s
            (subst (StandsPast (length d.topics) job.rest.taken) standing (record { taken = got; line = s.line; draft = d; records = records; stands = at; unstopped = stops; many = refl; counted = omega (arith, p.2) }))
            (subst (λ l. 1 ≤ length l) (sym p.3) room);
        stands = subst (OpensAt first now d records) standing (record { taken = got; lost = lost; line = s.line; stands = at; unstopped = stops });
      }
  opened_here (Some (BadLine n k)) job buf stops room p =
      let d = draft_view job.draft in
      let records = item_views job.records.items in
      let s = splits is d records p.0 in
      let standing : Stopped (BadLine n k) ≡ job.rest.standing = cc (p.1) in
      let here = ap stop_of (sym stands) ∙ stops in
      let fine = not_topology is (line_stop r) n k here in
      let all = whole_here n k (faulty_line r n k (is_line (topology_stop is) (line_stop r) n k fine here)) in
      record {
        readable = readable is d records job.rest here_job fine s (subst (StandsPast (length d.topics) job.rest.taken) standing tt) (subst (λ l. 1 ≤ length l) (sym p.3) room);
        stands = subst (OpensAt first now d records) standing (record {
          bytes = got ++ rest_of now;
          known = known_all first now got lost;
          line = s.line;
          items_are = ap (λ m. m.items) all ∙ s.items_are;
          stops = ap stop_of all ∙ ap (λ o. option_or o (Some (BadLine n k))) fine;
        });
      }
  opened_here (Some (BadTopology line f)) job buf stops room p = absurd (cc (p.1))

  pub opens_here : (stop : Option JobStop) (result : Result OpenJob JobStop) (buf : List ℕ) → stop_of (so_far got) ≡ stop → 1 ≤ length buf → Parts stop (Some (Some r)) is buf result → Opens first now result
  opens_here stop (Ok job) buf stops room p = opened_here stop job buf stops room p
  opens_here stop (Err s) buf stops room p = record {
    bytes = got ++ rest_of now;
    known = known_all first now got lost;
    ends = stopped_on (got ++ rest_of now) got [] (rest_of now) s (ap (λ l. l ++ rest_of now) (sym (append-nil got))) (stops_at s (stops ∙ p));
  }
    where
      stops_at : (s : JobStop) → stop_of (so_far got) ≡ Some s → stop_of (so_far (got ++ [])) ≡ Some s
      stops_at s e = ap stop_of (after_both _ got []) ∙ e

  pub split_here : split is ≡ None → (is ≡ [] → ⊥) → ⊥
  split_here e some = some (no_items is here_job e)

-- ---- by what the reader and its items are
machine_some : (o : Option Reader) (items : List JobItem) (m : Machine) → machine_of o items ≡ Some m → (r : Reader) × (o ≡ Some r) × (m ≡ with_reader (item_views items) r)
machine_some None items m e = absurd (cc)
machine_some (Some r) items m e = (r, refl, sym (of_some e))
  where
    of_some : {A : Type 0} {x y : A} → Some x ≡ Some y → x ≡ y
    of_some k = cc

module _ (first now : Option (List ℕ)) (got : List ℕ) (lost : Consumes first now got) (o : Option Reader) (items : List JobItem) (machine : machine_of o items ≡ Some (so_far got)) where
  pub piece_opens : (stop : Option JobStop) (result : Result OpenJob JobStop) (buf : List ℕ) → stop ≡ stop_of (so_far got) → 1 ≤ length buf → Parts stop (Some o) (item_views items) buf result → Opens first now result
  piece_opens stop result buf is room parts =
      let p = machine_some o items (so_far got) machine in
      opens_here first now got lost p.0 (item_views items) p.2 stop result buf (sym is) room (subst (λ q. Parts stop (Some q) (item_views items) buf result) p.1 parts)

  no_views : (is : List JobItem) → item_views is ≡ [] → length is ≡ 0
  no_views [] e = refl
  no_views (i ∷ is) e = absurd (cc)

  pub piece_splits : (b c : Bool) (stop : Option JobStop) → b ≡ is_some stop → c ≡ (length items == 0) → b || not c ≡ true → split (item_views items) ≡ None → stop ≡ None → ⊥
  piece_splits b c stop is empty either none none_stop =
      let p = machine_some o items (so_far got) machine in
      split_here first now got lost p.0 (item_views items) p.2 none (λ e. true≢false (sym either ∙ ap₂ (λ x y. x || not y) (is ∙ ap is_some none_stop) (empty ∙ ap (λ n. n == 0) (no_views items e))))

module _ (first mid now : Option (List ℕ)) (got : List ℕ) (front : Consumes first mid got) (last : Consumes mid now []) (end : IsAtEnd now) (o : Option Reader) (old new : List JobItem) (machine : machine_of o old ≡ Some (so_far got)) (unstopped : stop_of (so_far got) ≡ None)
    (ended : IfSome o (λ b. item_views new ≡ (end_of b (item_views old)).items)) (stop : Option JobStop)
    (stops : IfSome (machine_of o old) (λ m. topology_stop m.items ≡ None → stop ≡ stop_of (end_of m.reader m.items))) where
  end_known : IfSome first (λ b. b ≡ got)
  end_known = known_end first mid now got [] front refl last end

  end_items_are : (whole got).items ≡ item_views new
  end_items_are =
      let p = machine_some o old (so_far got) machine in
      ap (λ m. (end_of m.reader m.items).items) p.2 ∙ sym (ended_at p.0 p.1)
    where
      ended_at : (r : Reader) → o ≡ Some r → item_views new ≡ (end_of r (item_views old)).items
      ended_at r e = rw e at ended

  end_stops : stop_of (whole got) ≡ stop
  end_stops = sym (at_machine (λ m. topology_stop m.items ≡ None → stop ≡ stop_of (end_of m.reader m.items)) (machine_of o old) (so_far got) machine stops (unrefused (so_far got) unstopped))

  pub end_opens : (result : Result OpenJob JobStop) (buf : List ℕ) → 1 ≤ length buf → Parts stop None (item_views new) buf result → Opens first now result
  end_opens result buf room parts = opens_at_end first now got end_known end (item_views new) end_items_are stop result buf end_stops room parts

  pub end_splits : split (item_views new) ≡ None → stop ≡ None → ⊥
  end_splits none none_stop = split_at_end first now got end_known end (item_views new) end_items_are none (end_stops ∙ none_stop)

-- ---- a piece that doesn't open the job
pub none_of : (o : Option JobStop) → is_some o ≡ false → o ≡ None
none_of None e = refl
none_of (Some s) e = absurd (true≢false e)

no_items_yet : (b : Bool) (count : ℕ) (items : List JobItem) → not b ≡ false → b ≡ (count == 0) → count ≡ length items → items ≡ []
no_items_yet false count items e f g = absurd (true≢false e)
no_items_yet true count [] e f g = refl
no_items_yet true count (i ∷ is) e f g = let none : count ≡ 0 = (Decides-eqb count 0).0 (sym f) in absurd (omega (arith, none, g))

pub still_open : (b : Bool) (count : ℕ) (stop : Option JobStop) (items : List JobItem) → is_some stop ≡ false → not b ≡ false → b ≡ (count == 0) → count ≡ length items → (stop ≡ None) × (items ≡ [])
still_open b count stop items s e f g = (none_of stop s, no_items_yet b count items e f g)

pub never_open : (b : Bool) (stop : Option JobStop) (items : List JobItem) → b ≡ true → b ≡ false → (stop ≡ None) × (items ≡ [])
never_open b stop items e f = absurd (true≢false (sym e ∙ f))

-- ---- the buffer after a piece was written into it
pub written : (n : ℕ) (new old : List ℕ) → n ≡ length old → length new ≡ length old → take n (new ++ drop (length new) old) ≡ new
written n new old e f = ap (λ k. take k (new ++ drop (length new) old)) (e ∙ sym f) ∙ take-append_seam new (drop (length new) old)

-- ---- a job that was read whole
module _ (first now : Option (List ℕ)) (items : Vec JobItem Global) (r : Result (Vec JobItem Global) JobStop) (h : Read first r) (is : r ≡ Ok items) (end : OnOk r (IsAtEnd now)) where
  all_of_it : Ends (whole h.bytes) (Ok items)
  all_of_it = subst (Ends (whole h.bytes)) is h.ends

  at_its_end : IsAtEnd now
  at_its_end = ended_at r is end
    where
      ended_at : (q : Result (Vec JobItem Global) JobStop) → q ≡ Ok items → OnOk q (IsAtEnd now) → IsAtEnd now
      ended_at (Ok v) e k = k
      ended_at (Err s) e k = absurd (cc)

  pub whole_opens : (result : Result OpenJob JobStop) (buf : List ℕ) → 1 ≤ length buf → Parts None None (item_views items.items) buf result → Opens first now result
  whole_opens result buf room parts = opens_at_end first now h.bytes h.known at_its_end (item_views items.items) (sym all_of_it.1) None result buf all_of_it.0 room parts

  pub whole_splits : split (item_views items.items) ≡ None → ⊥
  whole_splits none = split_at_end first now h.bytes h.known at_its_end (item_views items.items) (sym all_of_it.1) none all_of_it.0

pub whole_stands : (is : List ItemView) (buf : List ℕ) (result : Result OpenJob JobStop) → Parts None None is buf result → IfOk result (λ job. job.rest.standing ≡ Whole)
whole_stands is buf (Ok job) p = let standing : Whole ≡ job.rest.standing = cc (p.1) in sym standing
whole_stands is buf (Err s) p = tt
