-- The bytes that a source gave, as the lines of an output.
use Rattle.std.proofs.Common.{◌≡◌, ◌⊎◌, inl, inr, ℕ, suc, ◌+◌, ◌<◌, ◌≤◌, List, [], ◌∷◌, ◌++◌, length, refl, sym, ap, subst, ◌∙◌, append_assoc, append-nil, arith, length-append}
use Rattle.std.specs.Prelude.{Option, Some, None, Result, Ok, Err, IfOk, IfSome}
use Rattle.std.specs.Io.KnownBytes.{Consumes, IsAtEnd, Keeps}
use Rattle.std.proofs.KnownBytes.{Consumes-kept, Consumes-nil, Consumes-trans, Consumes-whole}
use Rattle.ks_plan.specs.Drafts.{DraftView}
use Rattle.ks_def_tasks.specs.Messages.{Rules}
use Rattle.ks_def_tasks.specs.Rules.{rules_of}
use Rattle.ks_audit_verdict.specs.declared.fault.OutputFault.{OutputFault}
use Rattle.ks_audit_verdict.specs.declared.fault.OutputFault.TheVariants.{NotJournal}
use Rattle.ks_audit_verdict.specs.Lines.{IsPlain, IsWithinMost, lines_text}
use Rattle.ks_audit_verdict.specs.Places.{Place, TakesAt, TakesLines}
use Rattle.ks_audit_verdict.specs.Places.Place.{first_line}
use Rattle.ks_audit_verdict.specs.Audited.{IsAudited, IsAuditedInput, HoldsAudited}
use Rattle.ks_audit_verdict.specs.Faults.{EndsFaulty, IsFirstFault, IsFaultAt}
use Rattle.ks_job_source.specs.TopologyLines.{LacksEnd, StopsAt, StopsAtEnd}
use Rattle.ks_audit_verdict.specs.Answers.{HasBadTopology, IsFaultyInput, HasFault, TookNothingFaulty}
use Rattle.ks_audit_verdict.specs.Texts.{yes_text, no_text}
use Rattle.ks_audit_verdict.proofs.Chains.{leads_both, leads_plain, lines_both}
use Rattle.ks_job_source.specs.declared.stop.JobStop.{JobStop}
use Rattle.ks_run_audit.specs.declared.output.OutputAudit.{OutputAudit}
use Rattle.ks_job_source.specs.Opened.{HasBegun, HasRead, HasReadOut, HasStopped}
use Rattle.ks_run_audit.specs.Outputs.{IsSound, text_of, place_in}
use Rattle.ks_run_audit.specs.Feeding.{IsRefused, Feeds, RefusesBytes, Loses, LosesFault, HasLost, ReadsOut, ReadsAll, ReadsFault}
use Rattle.ks_run_audit.specs.Answering.{EndsOutput, EndsAudited, EndsEarly, EndsRefused, AnswersOutput, left_of}
use Rattle.ks_run_audit.proofs.Feeds.{feeds_none, feeds_on, feeds_size, refuses_behind, refuses_with}

-- ---- along the pieces
module _ {H : Type 0} (hash : List ℕ → ℕ) (d : DraftView) (taken : ℕ) where
  pub lost_none : (first : Option (List ℕ)) (begun : List ℕ) (before : ℕ) (o : OutputAudit H) → IsSound hash o → IsPlain begun → HasLost hash d taken taken first first begun begun before before o o
  lost_none first begun before o sound plain = record { got = []; lost = Consumes-nil first; size = omega arith; feeds = feeds_none hash d begun before o sound plain }

  pub lost_more : (first left now : Option (List ℕ)) (total more count : ℕ) (begun mid begins : List ℕ) (before middle after : ℕ) (old this new : OutputAudit H) → HasLost hash d taken total first left begun mid before middle old this → Loses hash d count left now mid begins middle after this new → more ≡ total + count →
      HasLost hash d taken more first now begun begins before after old new
  lost_more first left now total more count begun mid begins before middle after old this new h l e = record {
    got = h.got ++ l.bytes;
    lost = Consumes-trans first left now h.got l.bytes h.lost l.lost;
    size = omega (arith, e, h.size, l.size, length-append h.got l.bytes);
    feeds = feeds_on hash d h.got l.bytes begun mid begins before middle after old this new h.feeds l.feeds;
  }

  pub lost_fault : (first left now : Option (List ℕ)) (total : ℕ) (begun mid : List ℕ) (before middle after : ℕ) (old this : OutputAudit H) (fault : OutputFault) → HasLost hash d taken total first left begun mid before middle old this → LosesFault hash d total left now mid middle after this fault →
      LosesFault hash d taken first now begun before after old fault
  lost_fault first left now total begun mid before middle after old this fault h l = record {
    bytes = h.got ++ l.bytes;
    lost = Consumes-trans first left now h.got l.bytes h.lost l.lost;
    refuses = λ at e.
        let size = feeds_size hash d h.got begun mid before middle old this h.feeds in
        let here : (at + length (lines_text h.feeds.lines)) + length mid ≡ at + length begun + length h.got = omega (arith, size) in
        refuses_behind hash d fault at (at + length (lines_text h.feeds.lines)) h.got l.bytes begun mid before middle after old this h.feeds here (l.refuses (at + length (lines_text h.feeds.lines)) (omega (arith, here, h.size, e)));
  }

-- ---- with the bytes that were there before
module _ {H : Type 0} (hash : List ℕ → ℕ) (d : DraftView) (taken : ℕ) (rest : List ℕ) where
  pub fault_at_once : (first : Option (List ℕ)) (begun : List ℕ) (before after : ℕ) (old : OutputAudit H) (fault : OutputFault) → begun ≡ [] → ((at : ℕ) → at + length begun ≡ taken → RefusesBytes hash d at rest begun before after old fault) → ReadsFault hash d taken rest first first before after old fault
  fault_at_once first begun before after old fault none h = record {
    got = [];
    lost = Consumes-nil first;
    refuses =
        subst (λ b. RefusesBytes hash d taken b [] before after old fault) (sym (append-nil rest))
        (subst (λ b. RefusesBytes hash d taken rest b before after old fault) none (h taken (let z : length begun ≡ 0 = ap (λ (l : List ℕ). length l) none in omega arith)));
  }

  pub reads_all : (first now : Option (List ℕ)) (mid total : ℕ) (begun middle begins : List ℕ) (before between after : ℕ) (old this new : OutputAudit H) → begun ≡ [] → Feeds hash d rest begun middle before between old this → mid ≡ taken + length rest → ReadsOut hash d mid total first now middle begins between after this new →
      ReadsAll hash d taken total rest first now begins before after old new
  reads_all first now mid total begun middle begins before between after old this new none fed size h = record {
    got = h.has_lost.got;
    lost = h.has_lost.lost;
    end = h.end;
    size = omega (arith, size, h.has_lost.size, length-append rest h.has_lost.got);
    feeds = subst (λ b. Feeds hash d (rest ++ h.has_lost.got) b begins before after old new) none (feeds_on hash d rest h.has_lost.got begun middle begins before between after old this new fed h.has_lost.feeds);
  }

  pub reads_fault : (first now : Option (List ℕ)) (mid : ℕ) (begun middle : List ℕ) (before between after : ℕ) (old this : OutputAudit H) (fault : OutputFault) → begun ≡ [] → Feeds hash d rest begun middle before between old this → mid ≡ taken + length rest → LosesFault hash d mid first now middle between after this fault →
      ReadsFault hash d taken rest first now before after old fault
  reads_fault first now mid begun middle before between after old this fault none fed size l =
      let zero : length begun ≡ 0 = ap (λ (b : List ℕ). length b) none in
      let parts = feeds_size hash d rest begun middle before between old this fed in
      let here : (taken + length (lines_text fed.lines)) + length middle ≡ taken + length begun + length rest = omega (arith, parts) in
      record {
        got = l.bytes;
        lost = l.lost;
        refuses = subst (λ b. RefusesBytes hash d taken (rest ++ l.bytes) b before after old fault) none
            (refuses_behind hash d fault taken (taken + length (lines_text fed.lines)) rest l.bytes begun middle before between after old this fed here (l.refuses (taken + length (lines_text fed.lines)) (omega (arith, here, size, zero))));
      }

-- ---- where the source fails
module _ {H : Type 0} (hash : List ℕ → ℕ) (d : DraftView) (taken : ℕ) where
  pub ends_early : (first left now : Option (List ℕ)) (total : ℕ) (begun begins : List ℕ) (before after : ℕ) (old this : OutputAudit H) → HasLost hash d taken total first left begun begins before after old this → total ≤ 536870912 → Keeps left now →
      EndsEarly (rules_of hash) d (place_in old) taken begun first now
  ends_early first left now total begun begins before after old this h most kept = record {
    got = h.got;
    lost = Consumes-kept first left now h.got h.lost kept;
    most = omega (arith, most, h.size);
    front = record { lines = h.feeds.lines; here = place_in this; taken = h.feeds.passing.along; begun = begins; plain = h.feeds.passing.plain; cut = h.feeds.passing.cut ∙ append-nil (lines_text h.feeds.lines ++ begins) };
  }

  pub early_behind : (rest : List ℕ) (first now : Option (List ℕ)) (mid : ℕ) (begun middle : List ℕ) (before between : ℕ) (old this : OutputAudit H) → begun ≡ [] → Feeds hash d rest begun middle before between old this → mid ≡ taken + length rest → EndsEarly (rules_of hash) d (place_in this) mid middle first now →
      EndsEarly (rules_of hash) d (place_in old) (taken + length rest) rest first now
  early_behind rest first now mid begun middle before between old this none fed size e =
      let lines = lines_text fed.lines in
      let own : rest ≡ lines ++ middle = ap (λ b. b ++ rest) (sym none) ∙ (fed.passing.cut ∙ append-nil (lines ++ middle)) in
      record {
        got = e.got;
        lost = e.lost;
        most = omega (arith, e.most, size);
        front = record {
          lines = fed.lines ++ e.front.lines;
          here = e.front.here;
          taken = leads_both (TakesAt (rules_of hash) d) (place_in old) (place_in this) e.front.here fed.lines e.front.lines fed.passing.along e.front.taken;
          begun = e.front.begun;
          plain = e.front.plain;
          cut =
              ap (λ l. l ++ e.got) own ∙ append_assoc lines middle e.got ∙ ap (λ l. lines ++ l) e.front.cut
              ∙ sym (append_assoc lines (lines_text e.front.lines) e.front.begun) ∙ ap (λ l. l ++ e.front.begun) (sym (lines_both fed.lines e.front.lines));
        };
      }

-- ---- what is answered of it
at_end : (now : Option (List ℕ)) → IsAtEnd now → left_of now ≡ []
at_end None h = refl
at_end (Some b) h = h

module _ {H : Type 0} (hash : List ℕ → ℕ) (d : DraftView) (line taken : ℕ) (rest : List ℕ) (old now : Option (List ℕ)) (first : OutputAudit H) (begins : place_in first ≡ first_line) (empty : text_of first ≡ []) where
  -- a line is refused
  fault_at : (before : ℕ) (place : Place) (text more : List ℕ) (fault : OutputFault) → IsRefused (rules_of hash) d fault before place more → IsFaultAt (rules_of hash) d before place text more fault
  fault_at before place text more fault (inl h) = inl h
  fault_at before place text more fault (inr h) = inr (inl h)

  pub ends_refused : (lines : ℕ) (fault : OutputFault) (text : List ℕ) → ReadsFault hash d taken rest old now line lines first fault → text ≡ no_text (lines + 1) fault → EndsRefused (rules_of hash) d taken rest old now line text
  ends_refused lines fault text h told =
      let all = (rest ++ h.got) ++ left_of now in
      let r : RefusesBytes hash d taken all [] line lines first fault = refuses_with hash d fault taken (rest ++ h.got) (left_of now) [] line lines first h.refuses in
      let number : lines + 1 ≡ line + suc (length r.lines) = omega (arith, r.counted) in
      record {
        got = h.got;
        lost = h.lost;
        count = length r.lines;
        fault = fault;
        first = record {
          lines = r.lines;
          place = r.here;
          taken = subst (λ p. TakesLines (rules_of hash) d p r.lines r.here) begins r.along;
          counted = refl;
          rest = r.rest;
          cut = r.cut;
          is = fault_at (taken + length (lines_text r.lines)) r.here all r.rest fault r.is;
        };
        told = told ∙ ap (λ n. no_text n fault) number;
      }

  -- the input has ended
  module _ (total : ℕ) (begun : List ℕ) (lines : ℕ) (last : OutputAudit H) (h : ReadsAll hash d taken total rest old now begun line lines first last) (within : total ≤ 536870912) where
    its_text : text_of last ≡ lines_text h.feeds.lines
    its_text = h.feeds.text ∙ ap (λ t. t ++ lines_text h.feeds.lines) empty

    bytes_are : rest ++ h.got ≡ lines_text h.feeds.lines ++ begun
    bytes_are = h.feeds.passing.cut ∙ append-nil (lines_text h.feeds.lines ++ begun)

    along : TakesLines (rules_of hash) d first_line h.feeds.lines (place_in last)
    along = subst (λ p. TakesLines (rules_of hash) d p h.feeds.lines (place_in last)) begins h.feeds.passing.along

    pub ends_audited : begun ≡ [] → IsAudited (rules_of hash) d (text_of last) → EndsAudited (rules_of hash) d taken rest old now
    ends_audited none audited =
        let whole : rest ++ h.got ≡ lines_text h.feeds.lines = bytes_are ∙ ap (λ b. lines_text h.feeds.lines ++ b) none ∙ append-nil (lines_text h.feeds.lines) in
        record {
          got = h.got;
          lost = h.lost;
          end = h.end;
          within = record { lines = h.feeds.lines; plain = leads_plain (TakesAt (rules_of hash) d) first_line (place_in last) h.feeds.lines along; cut = whole; most = omega (arith, h.size, within) };
          audited = subst (IsAudited (rules_of hash) d) (its_text ∙ sym whole) audited;
        }

    pub ends_faulty : (fault : OutputFault) (text : List ℕ) → EndsFaulty (rules_of hash) d (place_in last) (text_of last ++ begun) begun fault → text ≡ no_text (lines + 1) fault → EndsRefused (rules_of hash) d taken rest old now line text
    ends_faulty fault text ends told =
        let all = (rest ++ h.got) ++ left_of now in
        let none : all ≡ rest ++ h.got = ap (λ l. (rest ++ h.got) ++ l) (at_end now h.end) ∙ append-nil (rest ++ h.got) in
        let same : text_of last ++ begun ≡ all = ap (λ t. t ++ begun) its_text ∙ sym (none ∙ bytes_are) in
        let number : lines + 1 ≡ line + suc (length h.feeds.lines) = omega (arith, h.feeds.passing.counted) in
        record {
          got = h.got;
          lost = h.lost;
          count = length h.feeds.lines;
          fault = fault;
          first = record {
            lines = h.feeds.lines;
            place = place_in last;
            taken = along;
            counted = refl;
            rest = begun;
            cut = none ∙ bytes_are;
            is = inr (inr (record {
              plain = h.feeds.passing.plain;
              within = omega (arith, within, h.size, ap (λ (l : List ℕ). length l) bytes_are, length-append (lines_text h.feeds.lines) begun);
              ends = subst (λ t. EndsFaulty (rules_of hash) d (place_in last) t begun fault) same ends;
            }));
          };
          told = told ∙ ap (λ n. no_text n fault) number;
        }

    pub answers : (status : ℕ) (text : List ℕ) → EndsOutput (rules_of hash) d (place_in last) (text_of last) begun (lines + 1) status text → AnswersOutput (rules_of hash) d line taken rest old now status text
    answers status text e = record {
      yes = λ is. let y = e.yes is in (y.0, ends_audited y.1 y.2);
      no = λ is. let n = e.no is in ends_faulty n.0 text n.1 n.2;
      only = e.only;
    }

  pub answers_fault : (lines : ℕ) (fault : OutputFault) (status : ℕ) (text : List ℕ) → ReadsFault hash d taken rest old now line lines first fault → (status ≡ 10) × (text ≡ no_text (lines + 1) fault) → AnswersOutput (rules_of hash) d line taken rest old now status text
  answers_fault lines fault status text h told = record {
    yes = λ is. absurd (let e = sym is ∙ told.0 in cc);
    no = λ is. ends_refused lines fault text h told.1;
    only = inr told.0;
  }

-- ---- with the topology line
pub known_left : (a b : Option (List ℕ)) (bytes : List ℕ) → Consumes a b bytes → IfSome a (λ x. x ≡ bytes ++ left_of b)
known_left None b bytes h = tt
known_left (Some x) None bytes h = absurd h
known_left (Some x) (Some y) bytes h = h

known_same : (a : Option (List ℕ)) (x y : List ℕ) → x ≡ y → IfSome a (λ b. b ≡ x) → IfSome a (λ b. b ≡ y)
known_same None x y e h = tt
known_same (Some b) x y e h = h ∙ e

pub holds_audited : (rules : Rules) (d : DraftView) (line taken : ℕ) (first left now : Option (List ℕ)) (rest : List ℕ) → HasRead first left d rest line taken → EndsAudited rules d taken rest left now → HoldsAudited rules first
holds_audited rules d line taken first left now rest h e = record {
  bytes = (h.head ++ rest) ++ e.got;
  known = Consumes-whole first now ((h.head ++ rest) ++ e.got) (λ b. b ≡ (h.head ++ rest) ++ e.got) (Consumes-trans first left now (h.head ++ rest) e.got h.lost e.lost) e.end refl;
  input = record {
    head = h.head;
    text = rest ++ e.got;
    cut = append_assoc h.head rest e.got;
    line = line;
    draft = d;
    topology = h.topology;
    within = subst (λ n. IsWithinMost n (rest ++ e.got)) h.size e.within;
    audited = e.audited;
  };
}

pub none_faulty : (rules : Rules) (d : DraftView) (line taken : ℕ) (first left now : Option (List ℕ)) (rest : List ℕ) → HasRead first left d rest line taken → EndsEarly rules d first_line (taken + length rest) rest left now → TookNothingFaulty rules first now
none_faulty rules d line taken first left now rest h e = record {
  taken = (h.head ++ rest) ++ e.got;
  lost = Consumes-trans first left now (h.head ++ rest) e.got h.lost e.lost;
  is = inr (record {
    head = h.head;
    text = rest ++ e.got;
    cut = append_assoc h.head rest e.got;
    line = line;
    draft = d;
    topology = h.topology;
    front = e.front;
    most = omega (arith, e.most, h.size, length-append (h.head ++ rest) e.got, length-append h.head rest);
  });
}

pub none_begun : (rules : Rules) (first now : Option (List ℕ)) → HasBegun first now → TookNothingFaulty rules first now
none_begun rules first now h = record { taken = h.got; lost = h.lost; is = inl h.lacks }

-- it says no, by this text
abbrev pub SaysNo : Rules → Option (List ℕ) → List ℕ → Type 0
SaysNo rules first text = (line : ℕ) × (fault : OutputFault) × HasFault rules first line fault × (text ≡ no_text line fault)

pub has_fault : (rules : Rules) (d : DraftView) (line taken : ℕ) (first left now : Option (List ℕ)) (rest text : List ℕ) → HasRead first left d rest line taken → EndsRefused rules d taken rest left now line text → SaysNo rules first text
has_fault rules d line taken first left now rest text h e = (
  line + suc e.count,
  e.fault,
  record {
    bytes = h.head ++ ((rest ++ e.got) ++ left_of now);
    known = known_same first (((h.head ++ rest) ++ e.got) ++ left_of now) (h.head ++ ((rest ++ e.got) ++ left_of now)) (ap (λ l. l ++ left_of now) (append_assoc h.head rest e.got) ∙ append_assoc h.head (rest ++ e.got) (left_of now))
        (known_left first now ((h.head ++ rest) ++ e.got) (Consumes-trans first left now (h.head ++ rest) e.got h.lost e.lost));
    is = inl (record {
      head = h.head;
      text = (rest ++ e.got) ++ left_of now;
      cut = refl;
      number = line;
      draft = d;
      topology = h.topology;
      count = e.count;
      first = subst (λ n. IsFirstFault rules d n ((rest ++ e.got) ++ left_of now) e.count e.fault) h.size e.first;
      counted = refl;
    });
  },
  e.told,
)

pub lacks_end : (rules : Rules) (first now : Option (List ℕ)) (line : ℕ) (text : List ℕ) → HasReadOut first now line → text ≡ no_text line NotJournal → SaysNo rules first text
lacks_end rules first now line text h told = (
  line,
  NotJournal,
  record { bytes = h.got; known = Consumes-whole first now h.got (λ b. b ≡ h.got) h.lost h.end refl; is = inr (h.lacks, refl) },
  told,
)

pub bad_topology : (first now : Option (List ℕ)) (stop : JobStop) → HasStopped first now stop → HasBadTopology first stop
bad_topology first now stop h = by h.stops
  where
    by : (StopsAt h.got stop ⊎ (IsAtEnd now × StopsAtEnd h.got stop)) → HasBadTopology first stop
    by (inl s) = record {
      bytes = h.got ++ left_of now;
      known = known_left first now h.got h.lost;
      bad = inl (record { begun = s.begun; byte = s.byte; rest = s.rest ++ left_of now; cut = ap (λ l. l ++ left_of now) s.cut ∙ append_assoc s.begun (s.byte ∷ s.rest) (left_of now); unopened = s.unopened; stops = s.stops });
    }
    by (inr s) = record { bytes = h.got; known = Consumes-whole first now h.got (λ b. b ≡ h.got) h.lost s.0 refl; bad = inr s.1 }

-- two clauses of one result
pub both_ok : {T E : Type 0} (r : Result T E) (P Q R : T → Type 0) → IfOk r P → IfOk r Q → ((x : T) → P x → Q x → R x) → IfOk r R
both_ok (Ok x) P Q R p q f = f x p q
both_ok (Err e) P Q R p q f = tt
