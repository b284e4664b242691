-- A topology line, as it is read.
use Rattle.std.proofs.Common.{true, false, ◌≡◌, inl, inr, ℕ, ◌+◌, ◌<◌, List, [], ◌∷◌, ◌++◌, length, refl, sym, ap, ap₂, subst, ◌∙◌, arith, append_assoc, append-nil, length-append}
use Rattle.std.specs.Prelude.{Option, Some, None, Result, Ok, Err, ⊤, IfOk, IfErr, IfSome, is_some, option_map, option_to_list}
use Rattle.std.proofs.lemmas.List.{map-append}
use Rattle.std.specs.Option.{option_or}
use Rattle.std.specs.Io.KnownBytes.{Consumes, IsAtEnd, Keeps}
use Rattle.std.proofs.KnownBytes.{Consumes-kept}
use Rattle.ks_plan.specs.Drafts.{draft_view}
use Rattle.ks_plan.specs.Faults.{fault_of}
use Rattle.ks_plan.specs.declared.fault.TopoFault.{TopoFault}
use Rattle.ks_topo.specs.Topologies.{draft_of}
use Rattle.ks_topo.specs.declared.built.Topology.{Topology}
use Rattle.ks_law_inputs.specs.Records.{IsJob, Told}
use Rattle.ks_law_inputs.proofs.Items.{job_items}
use Rattle.ks_job.specs.declared.judge.JobItem.{JobItem}
use Rattle.ks_job.specs.declared.reader.JobFault.{JobFault}
use Rattle.ks_job.specs.declared.judge.JobItem.TheVariants as kinds
use Rattle.ks_job.specs.Items.{ItemView, TopologyAt, RecordTo, item_view, item_views}
use Rattle.ks_record.specs.Records.{Record as Rec}
use Rattle.ks_plan.specs.declared.draft.Draft.{Draft}
use Rattle.ks_job.specs.Phases.{Fed, TellsFault, IsReading as Reads}
use Rattle.ks_job.specs.Reader.{Reader, Reading, Faulty, Machine, after, end_of, so_far, whole}
use Rattle.ks_job.proofs.Cuts.{after_both}
use Rattle.ks_job_source.specs.declared.stop.JobStop.{JobStop}
use Rattle.ks_job_source.specs.declared.stop.JobStop.TheVariants.{BadTopology}
use Rattle.ks_job_source.specs.Reading.{machine_of, answer_stop}
use Rattle.ks_job_source.specs.Stops.{topology_stop, line_stop, stop_of}
use Rattle.ks_job_source.proofs.Machines.{answered, few_bytes, unrefused}
use Rattle.ks_job_source.proofs.Opened.{front_items}
use Rattle.ks_job_source.specs.Cutting.{HasNoEnd}
use Rattle.ks_job_source.specs.Cutting.{IsLine}
use Rattle.ks_job_source.specs.declared.audit_opening.OpenAudit.{OpenAudit}
use Rattle.ks_job_source.specs.declared.audit_opening.TopologyLine.{TopologyLine}
use Rattle.ks_job_source.specs.TopologyLines.{LacksEnd, StopsAtEnd}
use Rattle.ks_job_source.specs.Opened.{IsReady, HasRead, HasReadOut, HasStopped, HasBegun}
use Rattle.ks_job_source.specs.AuditOpening.{Found, FoundIn, BuildsLine, or_fault, IsBefore, HasTopology, LineFinds, EndFinds, HasLine, StopsIn, StopsNow, PieceFinds, IsWith}
use Rattle.ks_job_source.proofs.Numbers.{few_lines}
use Rattle.ks_job_source.proofs.Cuts.{quiet, HasFew, few_line, HasFewItems, few_end}

abbrev items_in : Option Machine → List ItemView
items_in None = []
items_in (Some m) = m.items

abbrev machine_in : Machine → Option Machine → Machine
machine_in m None = m
machine_in m (Some n) = n

abbrev head_or : ItemView → List ItemView → ItemView
head_or z [] = z
head_or z (w ∷ ws) = w

abbrev tail_of : List ItemView → List ItemView
tail_of [] = []
tail_of (w ∷ ws) = ws

-- ---- where a reader stands
pub reader_before : (got : List ℕ) (o : Option Reader) → IsBefore got o → o ≡ Some (so_far got).reader
reader_before got None h = absurd (let e = h.stands in cc)
reader_before got (Some r) h = by (so_far got) h.stands
  where
    by : (m : Machine) → Some (record { reader = r; items = [] }) ≡ Some m → Some r ≡ Some m.reader
    by m e = ap (option_map (λ (n : Machine). n.reader)) e

pub items_before : (got : List ℕ) (o : Option Reader) → IsBefore got o → (so_far got).items ≡ []
items_before got None h = absurd (let e = h.stands in cc)
items_before got (Some r) h = by (so_far got) h.stands
  where
    by : (m : Machine) → Some (record { reader = r; items = [] }) ≡ Some m → m.items ≡ []
    by m e = sym (ap items_in e)

-- a reader that was fed some bytes more
pub machine_after : (got line : List ℕ) (old new : Option Reader) (items : List JobItem) → IsBefore got old → Fed old new [] items line → machine_of new items ≡ Some (so_far (got ++ line))
machine_after got line None new items h fed = absurd fed
machine_after got line (Some r) None items h fed = absurd fed
machine_after got line (Some r) (Some s) items h fed = by (so_far got) h.stands ∙ ap Some (sym (after_both (so_far []) got line))
  where
    by : (m : Machine) → Some (record { reader = r; items = [] }) ≡ Some m → Some (record { reader = s; items = item_views items }) ≡ Some (after m line)
    by m e = ap Some fed ∙ ap (option_map (λ (n : Machine). after n line)) e

-- ---- what stands last is all there is
not_nil : (front : List ItemView) (x : ItemView) → front ++ x ∷ [] ≡ [] → ⊥
not_nil [] x e = cc
not_nil (z ∷ front) x e = cc

one_in : (front : List ItemView) (x y : ItemView) → y ∷ [] ≡ front ++ x ∷ [] → (front ≡ []) × (y ≡ x)
one_in [] x y e = (refl, ap (λ (l : List ItemView). head_or y l) e)
one_in (z ∷ front) x y e = absurd (not_nil front x (sym (ap tail_of e)))

-- ---- what stands last among some items
views_with : (items rest : List JobItem) (x : JobItem) → items ≡ rest ++ x ∷ [] → item_views items ≡ item_views rest ++ item_view x ∷ []
views_with items rest x e = ap item_views e ∙ map-append item_view rest (x ∷ [])

pub found_built : (items rest : List JobItem) (o : Option JobItem) (line : ℕ) (draft : Draft) (r : Result (ℕ × Topology) JobStop) → items ≡ rest ++ option_to_list o → o ≡ Some (kinds.Topology line draft) → BuildsLine line (draft_view draft) r →
    FoundIn (item_views items) (Some r)
found_built items rest o line draft (Ok p) e is h = (
  item_views rest,
  views_with items rest (kinds.Topology line draft) (e ∙ ap (λ x. rest ++ option_to_list x) is) ∙ ap₂ (λ n d. item_views rest ++ TopologyAt n d ∷ []) (sym h.0) (sym h.2),
  ap fault_of h.2 ∙ h.1,
)
found_built items rest o line draft (Err stop) e is h =
    (item_views rest, line, draft_view draft, views_with items rest (kinds.Topology line draft) (e ∙ ap (λ x. rest ++ option_to_list x) is), h)

pub record_found : (items rest : List JobItem) (o : Option JobItem) (topic : ℕ) (rec : Rec) → items ≡ rest ++ option_to_list o → o ≡ Some (kinds.Input topic rec) → FoundIn (item_views items) None
record_found items rest o topic rec e is = λ line d h.
    let same = views_with items rest (kinds.Input topic rec) (e ∙ ap (λ x. rest ++ option_to_list x) is) in
    let one = one_in (item_views rest) (item_view (kinds.Input topic rec)) (TopologyAt line d) (sym h ∙ same) in
    absurd (let f = one.1 in cc)

pub nothing_found : (items : List JobItem) → length items ≡ 0 → FoundIn (item_views items) None
nothing_found [] e = λ line d h. absurd (cc)
nothing_found (x ∷ xs) e = absurd (cc)

-- the items are none or one, and a record is never the first
only_topology : (is front : List ItemView) (x : ItemView) → HasFewItems is → is ≡ front ++ x ∷ [] → is ≡ x ∷ []
only_topology is front x (inl e) h = absurd (not_nil front x (sym h ∙ e))
only_topology is front x (inr p) h = p.1 ∙ ap (λ i. i ∷ []) (one_in front x p.0 (sym p.1 ∙ h)).1

no_topology : (is : List ItemView) → HasFewItems is → IsJob is → FoundIn is None → is ≡ []
no_topology is (inl e) job none = e
no_topology is (inr p) job none = by p.0 p.1
  where
    by : (i : ItemView) → is ≡ i ∷ [] → is ≡ []
    by (TopologyAt line d) e = absurd (none line d e)
    by (RecordTo t r) e = absurd (subst IsJob e job)

few_items : (m : Machine) → HasFew m → HasFewItems m.items
few_items m (inl e) = inl e
few_items m (inr h) = inr (h.item, h.is)

fine_reader : (m : Machine) (x : ItemView) → HasFew m → m.items ≡ x ∷ [] → line_stop m.reader ≡ None
fine_reader m x (inl e) h = absurd (let f = sym e ∙ h in cc)
fine_reader m x (inr h) e = h.fine

-- ---- a machine by what it pushed and what it answers
module _ (m : Machine) (answer : Result ⊤ JobFault) (tells : TellsFault answer m.reader) (few : HasFewItems m.items) (job : IsJob m.items) where
  stop_with : (is : List ItemView) → m.items ≡ is → stop_of m ≡ option_or (topology_stop is) (answer_stop answer)
  stop_with is e = ap₂ (λ a b. option_or a b) (ap topology_stop e) (sym (answered answer m.reader (answer_stop answer) tells refl))

  pub stops_plain : FoundIn m.items None → stop_of m ≡ answer_stop answer
  stops_plain none = stop_with [] (no_topology m.items few job none)

  pub stops_refused : (stop : JobStop) → FoundIn m.items (Some (Err stop)) → stop_of m ≡ Some stop
  stops_refused stop h =
      stop_with (TopologyAt h.1 h.2 ∷ []) (only_topology m.items h.0 (TopologyAt h.1 h.2) few h.3)
      ∙ ap (λ o. option_or o (answer_stop answer)) h.4

  pub topology_found : (p : ℕ × Topology) → FoundIn m.items (Some (Ok p)) → m.items ≡ TopologyAt p.0 (draft_of p.1) ∷ []
  topology_found p h = only_topology m.items h.0 (TopologyAt p.0 (draft_of p.1)) few h.1

-- ---- it is its end that brings a line's item
items_with : (got line : List ℕ) (old : Option Reader) → IsBefore got old → HasNoEnd line → (so_far (got ++ line)).items ≡ []
items_with got line old before h = ap (λ (m : Machine). m.items) (after_both (so_far []) got line) ∙ quiet (so_far got) line h ∙ items_before got old before

pub record EndsLine (bytes : List ℕ) : Type 0 where
  pub front : List ℕ
  pub ended : bytes ≡ front ++ 10 ∷ []
  pub before : (so_far front).items ≡ []

ends_line : (got line : List ℕ) (old : Option Reader) (x : ItemView) → IsBefore got old → IsLine line → (so_far (got ++ line)).items ≡ x ∷ [] → EndsLine (got ++ line)
ends_line got line old x before (inl h) some = absurd (let e = sym some ∙ items_with got line old before h in cc)
ends_line got line old x before (inr h) some = record {
  front = got ++ h.0;
  ended = ap (λ l. got ++ l) h.2 ∙ sym (append_assoc got h.0 (10 ∷ []));
  before = items_with got h.0 old before h.1;
}

-- ---- what there is to stop at comes with the last byte
record IsPushed (xs : List ℕ) : Type 0 where
  front : List ℕ
  last : ℕ
  is : xs ≡ front ++ last ∷ []
  plain : HasNoEnd front

pushed : (x : ℕ) (xs : List ℕ) → HasNoEnd (x ∷ xs) → IsPushed (x ∷ xs)
pushed x [] h = record { front = []; last = x; is = refl; plain = tt }
pushed x (y ∷ ys) h =
    let p = pushed y ys h.1 in
    record { front = x ∷ p.front; last = p.last; is = ap (λ zs. x ∷ zs) p.is; plain = (h.0, p.plain) }

line_stops : (got line : List ℕ) (old : Option Reader) (stop : JobStop) → IsBefore got old → IsLine line → stop_of (so_far (got ++ line)) ≡ Some stop → StopsNow (got ++ line) stop
line_stops got [] old stop before (inl h) e = absurd (let f = sym (before.unstopped) ∙ (ap (λ l. stop_of (so_far l)) (sym (append-nil got)) ∙ e) in cc)
line_stops got (x ∷ xs) old stop before (inl h) e =
    let p = pushed x xs h in
    record { begun = got ++ p.front; byte = p.last; cut = ap (λ l. got ++ l) p.is ∙ sym (append_assoc got p.front (p.last ∷ [])); unopened = items_with got p.front old before p.plain; stops = e }
line_stops got line old stop before (inr h) e =
    record { begun = got ++ h.0; byte = 10; cut = ap (λ l. got ++ l) h.2 ∙ sym (append_assoc got h.0 (10 ∷ [])); unopened = items_with got h.0 old before h.1; stops = e }

-- ---- one line
module _ (got line : List ℕ) (old new : Option Reader) (items : List JobItem) (before : IsBefore got old) (fed : Fed old new [] items line) (is_line : IsLine line) where
  few : HasFew (so_far (got ++ line))
  few = subst HasFew (sym (after_both (so_far []) got line)) (few_line (so_far got) line (items_before got old before) is_line)

  -- the machine, as a variable
  module _ (s : Reader) (m : Machine) (is : m ≡ so_far (got ++ line)) (some : HasFew m) (job : IsJob m.items) (same : record { reader = s; items = item_views items } ≡ m) where
    finds : (found : Found) → FoundIn m.items found → (answer : Result ⊤ JobFault) → TellsFault answer m.reader → LineFinds (got ++ line) (Some s) (or_fault found answer)
    finds None f (Ok u) told =
        let none = no_topology m.items (few_items m some) job f in
        record {
          stands = ap (λ (l : List ItemView). Some (record { reader = s; items = l })) (sym (ap (λ (x : Machine). x.items) same ∙ none)) ∙ ap Some (same ∙ is);
          unstopped = ap stop_of (sym is) ∙ stops_plain m (Ok u) told (few_items m some) job f;
        }
    finds None f (Err x) told = line_stops got line old _ before is_line (ap stop_of (sym is) ∙ stops_plain m (Err x) told (few_items m some) job f)
    finds (Some (Ok p)) f answer told =
        let items_are = topology_found m answer told (few_items m some) job p f in
        let here = ap (λ (x : Machine). x.items) (sym is) ∙ items_are in
        let end = ends_line got line old (TopologyAt p.0 (draft_of p.1)) before is_line here in
        record {
          front = end.front;
          ended = end.ended;
          before = end.before;
          items = here;
          unstopped = ap stop_of (sym is) ∙ ap₂ (λ y z. option_or y z) (ap topology_stop items_are ∙ ap (option_map (λ e. BadTopology p.0 e)) f.2) (fine_reader m _ some items_are);
        }
    finds (Some (Err stop)) f answer told = line_stops got line old stop before is_line (ap stop_of (sym is) ∙ stops_refused m answer told (few_items m some) job stop f)

  by_reader : (r : Option Reader) → machine_of r items ≡ Some (so_far (got ++ line)) → (answer : Result ⊤ JobFault) → IfSome r (λ s. TellsFault answer s) → (found : Found) → FoundIn (item_views items) found →
      LineFinds (got ++ line) r (or_fault found answer)
  by_reader None e answer tells found h = absurd (cc)
  by_reader (Some s) e answer tells found h =
      let m = so_far (got ++ line) in
      let same : record { reader = s; items = item_views items } ≡ m = ap (machine_in m) e in
      finds s m refl few (front_items (got ++ line)) same found (subst (λ (x : Machine). FoundIn x.items found) same h) answer (subst (λ (x : Machine). TellsFault answer x.reader) same tells)

  pub line_finds : (answer : Result ⊤ JobFault) → IfSome new (λ s. TellsFault answer s) → (found : Found) → FoundIn (item_views items) found → LineFinds (got ++ line) new (or_fault found answer)
  line_finds answer tells found h = by_reader new (machine_after got line old new items before fed) answer tells found h

-- ---- a piece, line by line
-- so far lines of it were fed that have no topology
pub record IsAlong (old now : Option Reader) (piece rest got : List ℕ) : Type 0 where
  pub front : List ℕ
  pub cut : piece ≡ front ++ rest
  pub before : IsBefore (got ++ front) now

pub along_starts : (old : Option Reader) (piece got : List ℕ) → IsBefore got old → IsAlong old old piece piece got
along_starts old piece got h = record { front = []; cut = refl; before = subst (λ g. IsBefore g old) (sym (append-nil got)) h }

module _ (old now : Option Reader) (piece rest got : List ℕ) (h : IsAlong old now piece rest got) where
  cut_on : (line more : List ℕ) → rest ≡ line ++ more → piece ≡ (h.front ++ line) ++ more
  cut_on line more e = h.cut ∙ ap (λ l. h.front ++ l) e ∙ sym (append_assoc h.front line more)

  here : (line : List ℕ) → (got ++ h.front) ++ line ≡ got ++ (h.front ++ line)
  here line = append_assoc got h.front line

  pub along_on : (new : Option Reader) (line more : List ℕ) → rest ≡ line ++ more → IsBefore ((got ++ h.front) ++ line) new → IsAlong old new piece more got
  along_on new line more e b = record { front = h.front ++ line; cut = cut_on line more e; before = subst (λ g. IsBefore g new) (here line) b }

  pub has_line : (line more : List ℕ) (number : ℕ) (topology : Topology) → rest ≡ line ++ more → HasTopology ((got ++ h.front) ++ line) number topology → HasLine got piece more number topology
  has_line line more number topology e t = record { front = h.front ++ line; cut = cut_on line more e; topology_is = subst (λ g. HasTopology g number topology) (here line) t }

  pub stops_in : (line more : List ℕ) (stop : JobStop) → rest ≡ line ++ more → StopsNow ((got ++ h.front) ++ line) stop → StopsIn got piece stop
  stops_in line more stop e t = record { front = h.front ++ line; rest = more; cut = cut_on line more e; stops = subst (λ g. StopsNow g stop) (here line) t }

  pub all_before : (new : Option Reader) → IsBefore ((got ++ h.front) ++ rest) new → IsBefore (got ++ piece) new
  all_before new b = subst (λ g. IsBefore g new) (here rest ∙ ap (λ l. got ++ l) (sym h.cut)) b

-- what a line of it leads to
module _ (got piece more : List ℕ) (reader : Option Reader) where
  with_line : (line : ℕ) (topology : Topology) (t : TopologyLine) → t.line ≡ line → t.topology ≡ topology → t.more.now ≡ more → HasLine got piece more line topology → HasLine got piece t.more.now t.line t.topology
  with_line line topology t a b e h =
      subst (λ m. HasLine got piece m t.line t.topology) (sym e) (subst (λ n. HasLine got piece more n t.topology) (sym a) (subst (λ x. HasLine got piece more line x) (sym b) h))

  pub found_here : (old now : Option Reader) (rest line : List ℕ) (h : IsAlong old now piece rest got) → rest ≡ line ++ more → (found : Found) → is_some found ≡ true → (result : Option (Result TopologyLine JobStop)) → IsWith more found result →
      LineFinds ((got ++ h.front) ++ line) reader found → PieceFinds got piece reader result
  found_here old now rest line h e None some result w f = absurd (cc)
  found_here old now rest line h e (Some (Ok p)) some None w f = absurd w
  found_here old now rest line h e (Some (Ok p)) some (Some (Ok t)) w f = with_line p.0 p.1 t w.0 w.1 w.2 (has_line old now piece rest got h line more p.0 p.1 e f)
  found_here old now rest line h e (Some (Ok p)) some (Some (Err told)) w f = absurd w
  found_here old now rest line h e (Some (Err stop)) some None w f = absurd w
  found_here old now rest line h e (Some (Err stop)) some (Some (Ok t)) w f = absurd w
  found_here old now rest line h e (Some (Err stop)) some (Some (Err told)) w f = subst (λ x. StopsIn got piece x) (sym w) (stops_in old now piece rest got h line more stop e f)

pub still_before : (got : List ℕ) (reader : Option Reader) (found : Found) → is_some found ≡ false → LineFinds got reader found → IsBefore got reader
still_before got reader None none f = f
still_before got reader (Some r) none f = absurd (cc)

pub found_last : (old now new : Option Reader) (piece rest got : List ℕ) (h : IsAlong old now piece rest got) (found : Found) (result : Option (Result TopologyLine JobStop)) → IsWith [] found result →
    LineFinds ((got ++ h.front) ++ rest) new found → PieceFinds got piece new result
found_last old now new piece rest got h None None w f = all_before old now piece rest got h new f
found_last old now new piece rest got h None (Some r) w f = absurd w
found_last old now new piece rest got h (Some r) result w f = found_here got piece [] new old now rest rest h (sym (append-nil rest)) (Some r) refl result w f

-- ---- what was found is ready to be audited
unrefused_draft : (line : ℕ) (o : Option TopoFault) → option_map (λ e. BadTopology line e) o ≡ None → o ≡ None
unrefused_draft line None e = refl
unrefused_draft line (Some f) e = absurd (cc)

pub topology_ready : (got : List ℕ) (line : ℕ) (topology : Topology) → HasTopology got line topology → IsReady (draft_of topology)
topology_ready got line topology h = record {
  fine = unrefused_draft line (fault_of (draft_of topology)) (sym (ap topology_stop h.items) ∙ unrefused (so_far got) h.unstopped);
  partitions = (subst IsJob h.items (front_items got)).0;
}

pub line_ready : (got piece more : List ℕ) (line : ℕ) (topology : Topology) → HasLine got piece more line topology → IsReady (draft_of topology)
line_ready got piece more line topology h = topology_ready (got ++ h.front) line topology h.topology_is

-- so few bytes were taken up to the end of its line
pub line_within : (got piece more : List ℕ) (line : ℕ) (topology : Topology) (taken : ℕ) → HasLine got piece more line topology → taken + length more ≡ length got + length piece → taken < 67174401
line_within got piece more line topology taken h e =
    omega (arith, e, ap (λ (l : List ℕ). length l) h.cut, length-append h.front more, length-append got h.front, few_bytes (got ++ h.front) h.topology_is.unstopped)

-- the source lost it, and what stands behind it in the piece
pub has_read : (old now : Option (List ℕ)) (got piece more : List ℕ) (line taken : ℕ) (topology : Topology) → Consumes old now (got ++ piece) → HasLine got piece more line topology → taken + length more ≡ length got + length piece → HasRead old now (draft_of topology) more line taken
has_read old now got piece more line taken topology lost h e =
    let size : taken ≡ length (got ++ h.front) = omega (arith, e, ap (λ (l : List ℕ). length l) h.cut, length-append h.front more, length-append got h.front) in
    record {
      head = got ++ h.front;
      lost = subst (Consumes old now) (ap (λ l. got ++ l) h.cut ∙ sym (append_assoc got h.front more)) lost;
      topology = h.topology_is;
      size = size;
      few = omega (arith, size, few_lines (got ++ h.front) line (draft_of topology) h.topology_is.items);
    }

-- it failed before
pub has_begun : (old left now : Option (List ℕ)) (got : List ℕ) (reader : Option Reader) → Consumes old left got → Keeps left now → IsBefore got reader → HasBegun old now
has_begun old left now got reader lost kept before = record {
  got = got;
  lost = Consumes-kept old left now got lost kept;
  lacks = record { unopened = items_before got reader before; unstopped = before.unstopped };
}

-- it lost bytes that there is something to stop at among
pub has_stopped : (old now : Option (List ℕ)) (got piece : List ℕ) (stop : JobStop) → Consumes old now (got ++ piece) → StopsIn got piece stop → HasStopped old now stop
has_stopped old now got piece stop lost h = record {
  got = got ++ piece;
  lost = lost;
  stops = inl (record {
    begun = h.stops.begun;
    byte = h.stops.byte;
    rest = h.rest;
    cut = ap (λ l. got ++ l) h.cut ∙ sym (append_assoc got h.front h.rest) ∙ ap (λ l. l ++ h.rest) h.stops.cut ∙ append_assoc h.stops.begun (h.stops.byte ∷ []) h.rest;
    unopened = h.stops.unopened;
    stops = ap (λ l. stop_of (so_far l)) (sym h.stops.cut) ∙ h.stops.stops;
  });
}

-- ---- the end of the input
pub whole_is : (got : List ℕ) (o : Option Reader) → IsBefore got o → whole got ≡ end_of (so_far got).reader []
whole_is got o h = ap (end_of (so_far got).reader) (items_before got o h)

module _ (got : List ℕ) (reader : Option Reader) (items : List JobItem) (answer : Result ⊤ JobFault) (before : IsBefore got reader)
    (finished : IfSome reader (λ b. TellsFault answer (end_of b []).reader × (item_views items ≡ (end_of b []).items))) where
  here_ended : TellsFault answer (end_of (so_far got).reader []).reader × (item_views items ≡ (end_of (so_far got).reader []).items)
  here_ended = subst (λ o. IfSome o (λ b. TellsFault answer (end_of b []).reader × (item_views items ≡ (end_of b []).items))) (reader_before got reader before) finished

  pub ended_with : TellsFault answer (whole got).reader × (item_views items ≡ (whole got).items)
  ended_with = subst (λ (m : Machine). TellsFault answer m.reader × (item_views items ≡ m.items)) (sym (whole_is got reader before)) here_ended

  ended_few : HasFewItems (whole got).items
  ended_few = subst (λ (m : Machine). HasFewItems m.items) (sym (whole_is got reader before)) (few_end (so_far got).reader)

  finds_end : (found : Found) → FoundIn (whole got).items found → (a : Result ⊤ JobFault) → TellsFault a (whole got).reader → EndFinds got (or_fault found a)
  finds_end None f (Ok u) told = untold (whole got) (no_topology (whole got).items ended_few (job_items got).job f) told (job_items got).told
    where
      untold : (m : Machine) → m.items ≡ [] → Reads m.reader → Told m.reader m.items → ⊥
      untold m e r t = by m.reader m.items e r t
        where
          by : (r : Reader) (is : List ItemView) → is ≡ [] → Reads r → Told r is → ⊥
          by (Reading s begun) [] e r t = t
          by (Reading s begun) (i ∷ is) e r t = cc
          by (Faulty n k) is e r t = r
  finds_end None f (Err x) told = stops_plain (whole got) (Err x) told ended_few (job_items got).job f
  finds_end (Some (Ok p)) f a told = (topology_found (whole got) a told ended_few (job_items got).job p f, f.2)
  finds_end (Some (Err stop)) f a told = stops_refused (whole got) a told ended_few (job_items got).job stop f

  pub end_finds : (found : Found) → FoundIn (item_views items) found → EndFinds got (or_fault found answer)
  end_finds found h = finds_end found (subst (λ is. FoundIn is found) ended_with.1 h) answer ended_with.0

pub end_ready : (got : List ℕ) (p : ℕ × Topology) → EndFinds got (Some (Ok p)) → IsReady (draft_of p.1)
end_ready got p h = record { fine = h.1; partitions = (subst IsJob h.0 (job_items got).job).0 }

pub end_lacks : (got : List ℕ) (reader : Option Reader) (p : ℕ × Topology) → IsBefore got reader → EndFinds got (Some (Ok p)) → LacksEnd got p.0
end_lacks got reader p before h = record { draft = draft_of p.1; unopened = items_before got reader before; items = h.0; fine = h.1 }

pub end_stops : (got : List ℕ) (reader : Option Reader) (stop : JobStop) → IsBefore got reader → EndFinds got (Some (Err stop)) → StopsAtEnd got stop
end_stops got reader stop before h = record { unopened = items_before got reader before; stops = h }

-- at the end of the source
module _ (first now : Option (List ℕ)) (got : List ℕ) (reader : Option Reader) (lost : Consumes first now got) (end : IsAtEnd now) (before : IsBefore got reader) where
  pub read_out : (r : Result OpenAudit JobStop) → IfOk r (λ (o : OpenAudit). (g : List ℕ) → IsBefore g reader → LacksEnd g o.line) → IfOk r (λ (o : OpenAudit). o.has_end ≡ false → HasReadOut first now o.line)
  read_out (Ok o) h = λ e. record { got = got; lost = lost; end = end; lacks = h got before }
  read_out (Err stop) h = tt

  pub stopped_out : (r : Result OpenAudit JobStop) → IfErr r (λ stop. (g : List ℕ) → IsBefore g reader → StopsAtEnd g stop) → IfErr r (HasStopped first now)
  stopped_out (Ok o) h = tt
  stopped_out (Err stop) h = record { got = got; lost = lost; stops = inr (end, h got before) }
