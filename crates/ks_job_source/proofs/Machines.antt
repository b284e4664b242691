-- A job's reader along its bytes: what it has come to stays.
use Rattle.std.proofs.Common.{◌≡◌, ℕ, ◌<◌, ◌≤◌, List, [], ◌∷◌, ◌++◌, length, refl, sym, ap, ◌∙◌, Bool, true, false, cond, arith}
use Rattle.std.specs.Prelude.{Option, Some, None, Result, Ok, Err, ◌==◌, ⊤}
use Rattle.std.specs.Option.{option_or}
use Rattle.ks_job_record.specs.declared.fault.JobKind.{JobKind}
use Rattle.ks_job.specs.Items.{ItemView, TopologyAt, RecordTo}
use Rattle.ks_job.specs.Lines.{Spot, judged}
use Rattle.ks_job.specs.Phases.{IsFaulty, TellsFault}
use Rattle.ks_job.specs.Reader.{Reader, Reading, Faulty, Machine, with_item, after_line, is_line_end, longer, after_byte, after, closed, at_end, end_of, so_far}
use Rattle.ks_job.proofs.Ends.{reading_ends}
use Rattle.ks_job.specs.declared.reader.JobFault.{JobFault}
use Rattle.ks_job_source.specs.declared.stop.JobStop.{JobStop}
use Rattle.ks_job_source.specs.Reading.{answer_stop}
use Rattle.ks_job_source.specs.Stops.{topology_stop, line_stop, stop_of}

-- ---- the topology that has come stays
pub record Keeps (old new : List ItemView) : Type 0 where
  pub stop : (old ≡ [] → ⊥) → topology_stop new ≡ topology_stop old
  pub some : (old ≡ [] → ⊥) → (new ≡ [] → ⊥)

keeps_itself : (is : List ItemView) → Keeps is is
keeps_itself is = record { stop = λ h. refl; some = λ h. h }

keeps_on : (a b c : List ItemView) → Keeps a b → Keeps b c → Keeps a c
keeps_on a b c p q = record { stop = λ h. q.stop (p.some h) ∙ p.stop h; some = λ h. q.some (p.some h) }

one_more : (is : List ItemView) (i : ItemView) → Keeps is (is ++ i ∷ [])
one_more [] i = record { stop = λ h. absurd (h refl); some = λ h. absurd (h refl) }
one_more (TopologyAt line d ∷ is) i = record { stop = λ h. refl; some = λ h e. absurd (cc) }
one_more (RecordTo t r ∷ is) i = record { stop = λ h. refl; some = λ h e. absurd (cc) }

keeps_item : (is : List ItemView) (o : Option ItemView) → Keeps is (with_item is o)
keeps_item is None = keeps_itself is
keeps_item is (Some i) = one_more is i

keeps_line : (n : ℕ) (is : List ItemView) (r : Result (Spot × Option ItemView) JobKind) → Keeps is (after_line n is r).items
keeps_line n is (Ok x) = keeps_item is x.1
keeps_line n is (Err f) = keeps_itself is

keeps_byte_at : (b : Bool) (s : Spot) (begun : List ℕ) (is : List ItemView) (x : ℕ) → Keeps is (cond b (after_line s.line is (judged s 1 begun)) (record { reader = longer s begun x; items = is })).items
keeps_byte_at true s begun is x = keeps_line s.line is (judged s 1 begun)
keeps_byte_at false s begun is x = keeps_itself is

keeps_byte : (r : Reader) (is : List ItemView) (x : ℕ) → Keeps is (after_byte r is x).items
keeps_byte (Reading s begun) is x = keeps_byte_at (is_line_end x) s begun is x
keeps_byte (Faulty n k) is x = keeps_itself is

pub keeps_after : (m : Machine) (xs : List ℕ) → Keeps m.items (after m xs).items
keeps_after m [] = keeps_itself m.items
keeps_after m (x ∷ xs) = keeps_on _ _ _ (keeps_byte m.reader m.items x) (keeps_after (after_byte m.reader m.items x) xs)

keeps_closing : (n : ℕ) (is : List ItemView) (r : Result (Spot × Option ItemView) JobKind) → Keeps is (at_end n is r).items
keeps_closing n is (Ok x) = keeps_item is x.1
keeps_closing n is (Err f) = keeps_itself is

keeps_end_at : (b : Bool) (s : Spot) (begun : List ℕ) (is : List ItemView) → Keeps is (cond b (record { reader = closed s.line s; items = is }) (at_end s.line is (judged s 0 begun))).items
keeps_end_at true s begun is = keeps_itself is
keeps_end_at false s begun is = keeps_closing s.line is (judged s 0 begun)

pub keeps_end : (r : Reader) (is : List ItemView) → Keeps is (end_of r is).items
keeps_end (Reading s begun) is = keeps_end_at (length begun == 0) s begun is
keeps_end (Faulty n k) is = keeps_itself is

-- ---- a stop stays
stops : Reader → List ItemView → Option JobStop
stops r is = option_or (topology_stop is) (line_stop r)

not_nil : (is : List ItemView) (s : JobStop) → topology_stop is ≡ Some s → is ≡ [] → ⊥
not_nil [] s h e = absurd (cc)
not_nil (i ∷ is) s h e = absurd (cc)

faulty_from : (r : Reader) (s : JobStop) → line_stop r ≡ Some s → IsFaulty r
faulty_from (Reading p begun) s h = absurd (cc)
faulty_from (Faulty n k) s h = tt

-- a topology that is refused, or a faulty line
stays_at : (m n : Machine) (s : JobStop) (o : Option JobStop) → topology_stop m.items ≡ o → Keeps m.items n.items → (IsFaulty m.reader → n ≡ m) → stop_of m ≡ Some s → stop_of n ≡ Some s
stays_at m n s (Some t) e keeps faulty h =
    let k : topology_stop n.items ≡ Some t = keeps.stop (not_nil m.items t e) ∙ e in
    let a : stop_of m ≡ Some t = ap (λ p. option_or p (line_stop m.reader)) e in
    let b : stop_of n ≡ Some t = ap (λ p. option_or p (line_stop n.reader)) k in
    b ∙ (sym a ∙ h)
stays_at m n s None e keeps faulty h =
    let l : line_stop m.reader ≡ Some s = sym (ap (λ p. option_or p (line_stop m.reader)) e) ∙ h in
    ap stop_of (faulty (faulty_from m.reader s l)) ∙ h

faulty_after : (r : Reader) (is : List ItemView) (xs : List ℕ) → IsFaulty r → after (record { reader = r; items = is }) xs ≡ record { reader = r; items = is }
faulty_after (Reading s begun) is xs h = absurd h
faulty_after (Faulty n k) is [] h = refl
faulty_after (Faulty n k) is (x ∷ xs) h = faulty_after (Faulty n k) is xs h

faulty_end : (r : Reader) (is : List ItemView) → IsFaulty r → end_of r is ≡ record { reader = r; items = is }
faulty_end (Reading s begun) is h = absurd h
faulty_end (Faulty n k) is h = refl

pub stays_after : (m : Machine) (xs : List ℕ) (s : JobStop) → stop_of m ≡ Some s → stop_of (after m xs) ≡ Some s
stays_after m xs s h = stays_at m (after m xs) s (topology_stop m.items) refl (keeps_after m xs) (faulty_after m.reader m.items xs) h

pub stays_at_end : (m : Machine) (s : JobStop) → stop_of m ≡ Some s → stop_of (end_of m.reader m.items) ≡ Some s
stays_at_end m s h = stays_at m (end_of m.reader m.items) s (topology_stop m.items) refl (keeps_end m.reader m.items) (faulty_end m.reader m.items) h

-- ---- a job that has not stopped is short
no_line : (o l : Option JobStop) → option_or o l ≡ None → l ≡ None
no_line None l h = h
no_line (Some s) l h = absurd (cc)

no_topology : (o l : Option JobStop) → option_or o l ≡ None → o ≡ None
no_topology None l h = refl
no_topology (Some s) l h = absurd (cc)

pub unrefused : (m : Machine) → stop_of m ≡ None → topology_stop m.items ≡ None
unrefused m h = no_topology (topology_stop m.items) (line_stop m.reader) h

not_faulty : (r : Reader) → line_stop r ≡ None → IsFaulty r → ⊥
not_faulty (Reading s begun) h f = f
not_faulty (Faulty n k) h f = absurd (cc)

below : (n a : ℕ) → (n ≤ a → ⊥) → a < n
below n a h = omega arith

pub few_bytes : (xs : List ℕ) → stop_of (so_far xs) ≡ None → length xs < 67174401
few_bytes xs h = below 67174401 (length xs) (λ l. not_faulty (so_far xs).reader (no_line (topology_stop (so_far xs).items) (line_stop (so_far xs).reader) h) (reading_ends xs l))

-- ---- what a reader answers
pub answered : (a : Result ⊤ JobFault) (r : Reader) (o : Option JobStop) → TellsFault a r → o ≡ answer_stop a → o ≡ line_stop r
answered (Ok u) (Reading s begun) o h e = e
answered (Ok u) (Faulty n k) o h e = absurd h
answered (Err f) r o h e = e ∙ ap line_stop (sym h)
