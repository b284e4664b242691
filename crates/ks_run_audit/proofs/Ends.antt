-- The end of an output: what is judged was made for the topology.
use Rattle.std.proofs.Common.{◌≡◌, ℕ, ◌+◌, ◌-◌, ◌<◌, ◌≤◌, ◌^◌, get_or, Bool, true, false, inr, take, drop, append_assoc, Bor, List, [], ◌∷◌, ◌++◌, length, map, refl, sym, ap, ap₂, subst, ◌∙◌, append-nil, arith}
use Rattle.std.specs.Prelude.{◌≢◌, ◌==◌, Option, Some, None, IfSome, MatchOption, option_map, codes}
use Rattle.std.specs.Cmp.Lexicographic.{pointwise}
use Rattle.std.proofs.lemmas.Bool.{true≢false}
use Rattle.std.proofs.lemmas.Bool.Decides.{Decides-eqb}
use Rattle.std.proofs.lemmas.Slice.Eq.{strip_prefix_is}
use Rattle.std.proofs.lemmas.Grind.{flat_map-append}
use Rattle.std.specs.declared.vec.Vec.{Vec}
use Rattle.std.specs.declared.alloc.Global.{Global}
use Rattle.std.proofs.Math.Nat.{mod-lt}
use Rattle.std.proofs.lemmas.List.{length-map}
use Rattle.ks_plan.specs.Drafts.{Name, DraftView}
use Rattle.ks_plan.specs.Infos.{drain_numbers}
use Rattle.ks_plan.specs.Plan.{plan_of}
use Rattle.ks_plan.specs.Layout.{parts_of_topic, topics_of}
use Rattle.ks_topo.specs.declared.built.Topology.{Topology}
use Rattle.ks_topo.specs.Topologies.{draft_of, plan_in}
use Rattle.ks_query.specs.declared.table.Table.{Table}
use Rattle.ks_query.specs.Printed.{table_text, tables_text, job_tables}
use Rattle.ks_history.specs.declared.journal.Entry.{Entry}
use Rattle.ks_history.specs.State.{State, Setup}
use Rattle.ks_history.specs.History.{at, IsHistory}
use Rattle.ks_history.specs.Settled.{IsSettled}
use Rattle.ks_history.specs.Count.{records_in}
use Rattle.ks_history.specs.Reads.{pending_producers}
use Rattle.ks_def_tasks.specs.Messages.{Rules}
use Rattle.ks_def_tasks.specs.Rules.{rules_of}
use Rattle.ks_law_topology.specs.Work.{FitsRules, setup_of}
use Rattle.ks_law_topology.proofs.Setups.{setups_are_made}
use Rattle.ks_law_kinds.specs.Fitting.{FitsPlan}
use Rattle.ks_law_settled.specs.Collision.{NodePair, first_pair}
use Rattle.ks_law_settled.specs.Folded.{folded_table, folded_tables}
use Rattle.ks_law_settled.specs.Jobs.{HasParts}
use Rattle.ks_law_settled.specs.Settled.{IsRunOf}
use Rattle.ks_law_settled.proofs.Tables.{tables_same}
use Rattle.ks_law_settled.proofs.Collisions.{none_in_run, none_found}
use Rattle.ks_journal.specs.Lines.{journal_text}
use Rattle.ks_journal.specs.Fits.{FitsJournal}
use Rattle.ks_run_output.specs.Texts.{settled_text}
use Rattle.ks_task.proofs.Subs.{inputs_there}
use Rattle.ks_settle_report.specs.Report.{IsOf, lags_of}
use Rattle.ks_settle_report.specs.declared.findings.Report.{Report}
use Rattle.ks_settle_report.specs.declared.lags.Lag.{Lag}
use Rattle.ks_settle_report.specs.declared.joins.JoinCollision.{JoinCollision}
use Rattle.ks_settle_report.specs.Joins.{join_pair, named}
use Rattle.ks_audit.specs.declared.audit.Audit.{Audit}
use Rattle.ks_audit.specs.Inputs.{AreInputs, HasRecords}
use Rattle.ks_audit.proofs.Records.{inputs_are_records}
use Rattle.ks_run_audit.specs.declared.output.OutputAudit.{OutputAudit}
use Rattle.ks_job_source.specs.Opened.{IsReady}
use Rattle.ks_audit_verdict.specs.declared.fault.OutputFault.{OutputFault}
use Rattle.ks_audit_verdict.specs.declared.fault.OutputFault.TheVariants.{TooLong, NotJournal, NotLegal, NotFaithful, NotSettled, Collision, Late, WrongTable}
use Rattle.ks_audit_verdict.specs.Audited.{IsAudited}
use Rattle.ks_audit_verdict.specs.Places.{Place}
use Rattle.ks_audit_verdict.specs.Places.Place.{journal_line}
use Rattle.ks_audit_verdict.specs.Faults.{IsWrongTable, ShowsFault}
use Rattle.ks_run_audit.specs.Ending.{HasEndFault, IsFirstWrong, IsReportFault, ShowsTables}
use Rattle.ks_run_audit.proofs.Counts.{nodes_ready}

pub topology_same : {H : Type 0} (t : Topology) (o : OutputAudit H) (a : Audit H) → a ≡ o.audit → o.audit.topology ≡ o.topology → o.topology.now ≡ t → a.topology.now ≡ t
topology_same {H} t o a e f s = subst (λ (x : Audit H). x.topology.now ≡ t) (sym e) (subst (λ r. r.now ≡ t) (sym f) s)

pub setup_same : (hash : List ℕ → ℕ) (t u : Topology) (setup : Setup) → u ≡ t → setup ≡ setup_of (rules_of hash) (plan_in u) → setup ≡ setup_of (rules_of hash) (plan_in t)
setup_same hash t u setup same e = e ∙ ap (λ x. setup_of (rules_of hash) (plan_in x)) same

pub is_of : (hash : List ℕ → ℕ) (t u : Topology) (setup : Setup) → IsReady (draft_of t) → u ≡ t → setup ≡ setup_of (rules_of hash) (plan_in u) → IsOf t setup
is_of hash t u setup ready same e = subst (IsOf t) (sym (setup_same hash t u setup same e)) (record {
  made = setups_are_made (rules_of hash) (draft_of t) ready.fine;
  tasks = refl;
  inputs = λ sub. inputs_there (draft_of t) ready.fine sub;
})

pub counts_are : (hash : List ℕ → ℕ) (t u : Topology) (setup : Setup) → u ≡ t → setup ≡ setup_of (rules_of hash) (plan_in u) → setup.counts ≡ map (parts_of_topic (plan_in t)) (topics_of (plan_in t))
counts_are hash t u setup same e = ap (λ (s : Setup). s.counts) (setup_same hash t u setup same e)

pub as_many : (d : DraftView) (s : State) (tables : List Table) → tables ≡ folded_tables d s → length tables ≡ length d.print
as_many d s tables e = ap (λ (l : List Table). length l) e ∙ length-map d.print (folded_table d s)

-- ---- the lines of tables
-- what stands behind a text, by a call of strip_prefix
pub stripped : (lines text : List ℕ) (r : Option (Bor (List ℕ))) → MatchOption r (pointwise ◌==◌ (take (length text) lines) text ≡ false) (λ x. (pointwise ◌==◌ (take (length text) lines) text ≡ true) × (x.now ≡ drop (length text) lines) × (length x.now + length text ≡ length lines)) →
    IfSome r (λ x. lines ≡ text ++ x.now) × (r ≡ None → (more : List ℕ) → lines ≡ text ++ more → ⊥)
stripped lines text None m = (tt, λ e more is. strip_prefix_is Decides-eqb lines text None m more is)
stripped lines text (Some x) m = (strip_prefix_is Decides-eqb lines text (Some x) m, λ e more is. cc)

-- the tables before these had their lines
pub record IsBehind (tables rest : List Table) (lines left : List ℕ) : Type 0 where
  pub front : List Table
  pub is : tables ≡ front ++ rest
  pub good : lines ≡ tables_text front ++ left
  pub last : rest ≡ [] → left ≡ []

pub behind_none : (tables : List Table) (lines : List ℕ) → (tables ≡ [] → lines ≡ []) → IsBehind tables tables lines lines
behind_none tables lines h = record { front = []; is = refl; good = refl; last = h }

pub behind_one : (tables others : List Table) (table : Table) (lines left more : List ℕ) → IsBehind tables (table ∷ others) lines left → left ≡ tables_text (table ∷ []) ++ more → (others ≡ [] → more ≡ []) → IsBehind tables others lines more
behind_one tables others table lines left more h cut last = record {
  front = h.front ++ table ∷ [];
  is = h.is ∙ sym (append_assoc h.front (table ∷ []) others);
  good = h.good ∙ ap (λ l. tables_text h.front ++ l) cut ∙ sym (append_assoc (tables_text h.front) (tables_text (table ∷ [])) more) ∙ ap (λ l. l ++ more) (sym (flat_map-append table_text h.front (table ∷ [])));
  last = last;
}

take_whole : {A : Type 0} (xs : List A) → take (length xs) xs ≡ xs
take_whole [] = refl
take_whole (x ∷ xs) = ap (λ l. x ∷ l) (take_whole xs)

pub behind_next : (tables rest : List Table) (lines left more : List ℕ) (table : Table) → IsBehind tables rest lines left → 1 ≤ length rest → table ≡ get_or rest 0 table →
    (left ≡ tables_text (table ∷ []) ++ more) × (take (length rest - 1) (drop 1 rest) ≡ [] → more ≡ []) → IsBehind tables (take (length rest - 1) (drop 1 rest)) lines more
behind_next tables [] lines left more table h some is cut = absurd (omega arith)
behind_next tables (x ∷ xs) lines left more table h some is cut =
    let fewer : length (x ∷ xs) - 1 ≡ length xs = omega arith in
    let whole : take (length (x ∷ xs) - 1) (drop 1 (x ∷ xs)) ≡ xs = ap (λ n. take n xs) fewer ∙ take_whole xs in
    subst (λ o. IsBehind tables o lines more) (sym whole) (behind_one tables xs x lines left more h (cut.0 ∙ ap (λ t. tables_text (t ∷ []) ++ more) is) (λ none. cut.1 (whole ∙ none)))

pub behind_all : (tables rest : List Table) (lines left : List ℕ) → IsBehind tables rest lines left → rest ≡ [] → lines ≡ tables_text tables
behind_all tables rest lines left h none =
    h.good ∙ ap (λ l. tables_text h.front ++ l) (h.last none) ∙ append-nil (tables_text h.front)
    ∙ ap tables_text (sym (h.is ∙ ap (λ r. h.front ++ r) none ∙ append-nil h.front))

pub first_is : (tables others : List Table) (table : Table) (lines left : List ℕ) (name : Name) → IsBehind tables (table ∷ others) lines left → ((more : List ℕ) → left ≡ tables_text (table ∷ []) ++ more → (others ≡ [] → more ≡ []) → ⊥) → name ≡ table.name → IsFirstWrong tables lines name
first_is tables others table lines left name h wrong e = record {
  before = h.front;
  table = table;
  after = others;
  is = h.is;
  named = sym e;
  rest = left;
  good = h.good;
  wrong = λ more cut last. wrong more (cut ∙ ap (λ l. l ++ more) (sym (append-nil (table_text table)))) last;
}

-- of the folds of some names
record SplitsAt (f : Name → Table) (names : List Name) (before : List Table) (table : Table) (after : List Table) : Type 0 where
  front : List Name
  name : Name
  rest : List Name
  is : names ≡ front ++ name ∷ rest
  before_is : before ≡ map f front
  table_is : table ≡ f name
  after_is : after ≡ map f rest

abbrev table_or : Table → List Table → Table
table_or d [] = d
table_or d (x ∷ xs) = x

abbrev tables_behind : List Table → List Table
tables_behind [] = []
tables_behind (x ∷ xs) = xs

splits_at : (f : Name → Table) (names : List Name) (before : List Table) (table : Table) (after : List Table) → map f names ≡ before ++ table ∷ after → SplitsAt f names before table after
splits_at f [] [] table after e = absurd (cc)
splits_at f [] (b ∷ bs) table after e = absurd (cc)
splits_at f (n ∷ ns) [] table after e = record { front = []; name = n; rest = ns; is = refl; before_is = refl; table_is = sym (ap (table_or table) e); after_is = sym (ap tables_behind e) }
splits_at f (n ∷ ns) (b ∷ bs) table after e =
    let s = splits_at f ns bs table after (ap tables_behind e) in
    record {
      front = n ∷ s.front;
      name = s.name;
      rest = s.rest;
      is = ap (λ l. n ∷ l) s.is;
      before_is = ap₂ (λ x xs. x ∷ xs) (sym (ap (table_or table) e)) s.before_is;
      table_is = s.table_is;
      after_is = s.after_is;
    }

none_left : (f : Name → Table) (after : List Table) (rest : List Name) → after ≡ map f rest → after ≡ [] → rest ≡ []
none_left f after [] e none = refl
none_left f after (n ∷ ns) e none = absurd (let g = sym e ∙ none in cc)

pub wrong_table : (d : DraftView) (s : State) (tables : List Table) (lines : List ℕ) (name : Name) → tables ≡ folded_tables d s → IsFirstWrong tables lines name → IsWrongTable d s lines name
wrong_table d s tables lines name e h =
    let at = splits_at (folded_table d s) d.print h.before h.table h.after (sym e ∙ h.is) in
    let same : at.name ≡ name = sym (ap (λ (t : Table). t.name) at.table_is) ∙ h.named in
    subst (IsWrongTable d s lines) same (record {
      before = at.front;
      after = at.rest;
      printed = at.is;
      rest = h.rest;
      good = h.good ∙ ap (λ l. tables_text l ++ h.rest) at.before_is;
      wrong = λ more cut last. h.wrong more (cut ∙ ap (λ t. table_text t ++ more) (sym at.table_is)) (λ none. last (none_left (folded_table d s) h.after at.rest at.after_is none));
    })

pub none_printed : (d : DraftView) (s : State) (tables : List Table) → tables ≡ folded_tables d s → tables ≡ [] → d.print ≡ []
none_printed d s tables e none = none_left (folded_table d s) tables d.print e none

-- ---- what a report that shows no fault says
pub none_collides : (d : DraftView) (found : Option JoinCollision) (first : Option NodePair) → option_map join_pair found ≡ option_map (named d) first → found ≡ None → first ≡ None
none_collides d found None told none = refl
none_collides d found (Some pair) told none = absurd (let e = sym (ap (option_map join_pair) none) ∙ told in cc)

some_collides : (d : DraftView) (found : Option JoinCollision) (first : Option NodePair) → option_map join_pair found ≡ option_map (named d) first → found ≢ None → first ≢ None
some_collides d None first told some = absurd (some refl)
some_collides d (Some pair) None told some = λ e. cc
some_collides d (Some pair) (Some p) told some = λ e. cc

-- ---- what a report shows
module _ (rules : Rules) (d : DraftView) (setup : Setup) (s : State) (lines : List ℕ) (r : Report) (settled : r.settled ≡ true → IsSettled setup s) (unsettled : IsSettled setup s → r.settled ≡ true)
    (lags : r.lags.items ≡ lags_of setup s (drain_numbers (plan_of d))) (pending : r.pending ≡ pending_producers s) (late : r.late ≡ s.late) (collision : option_map join_pair r.collision ≡ option_map (named d) (first_pair rules.hash (plan_of d) s)) where
  pub report_fault : (f : OutputFault) → IsReportFault r f → ShowsFault rules d setup s lines f
  report_fault TooLong h = h
  report_fault NotJournal h = h
  report_fault NotLegal h = h
  report_fault (NotFaithful t) h = h
  report_fault (NotSettled l p) h = ((λ g. true≢false (sym (unsettled g) ∙ h.0)), h.1 ∙ ap (λ (ls : List Lag). length ls) lags, h.2 ∙ pending)
  report_fault Collision h = (settled h.0, some_collides d r.collision (first_pair rules.hash (plan_of d) s) collision h.1)
  report_fault (Late l) h = (settled h.0, none_collides d r.collision (first_pair rules.hash (plan_of d) s) collision h.1, h.2 ∙ late, λ e. h.3 (late ∙ e))
  report_fault (WrongTable name) h = absurd h

-- ---- what is audited at the end
pub keys_have_parts : (hash : List ℕ → ℕ) → HasParts (rules_of hash)
keys_have_parts hash k s l = mod-lt _ (omega arith)

settled_is : (tables : List Table) (tail : List ℕ) → codes "settled" ++ 10 ∷ (tables_text tables ++ tail) ≡ settled_text tables ++ tail
unfolding settled_text
settled_is tables tail = refl

module _ (hash : List ℕ → ℕ) (d : DraftView) (setup : Setup) (journal : List Entry) (ready : IsReady d) (spelled : FitsPlan (plan_of d)) (hashes : FitsRules (rules_of hash)) (inputs : AreInputs (rules_of hash) (plan_of d) journal)
    (same : setup ≡ setup_of (rules_of hash) (plan_of d)) (history : IsHistory setup journal) (few : records_in setup journal < 2 ^ 48) where
  here : IsHistory (setup_of (rules_of hash) (plan_of d)) journal
  here = subst (λ s. IsHistory s journal) same history

  has : HasRecords (rules_of hash) (plan_of d) journal
  has = inputs_are_records (rules_of hash) (plan_of d) journal here.legal inputs

  run : IsSettled setup (at setup journal) → IsRunOf (rules_of hash) d has.records journal
  run settled = record {
    job = record {
      parts = keys_have_parts hash;
      hashes = hashes;
      well = ready.fine;
      have = nodes_ready d ready.fine ready.partitions;
      spelled = spelled;
      inputs = has.fit;
      range = has.range;
    };
    done = record {
      history = here;
      produced = has.produced;
      settled = subst (λ s. IsSettled s (at s journal)) same settled;
      few = subst (λ s. records_in s journal < 2 ^ 48) same few;
    };
  }

  pub end_audited : (lines text : List ℕ) → FitsJournal journal → ShowsTables (rules_of hash) d setup (at setup journal) lines → text ≡ codes "settled" ++ 10 ∷ (lines ++ journal_text journal) → IsAudited (rules_of hash) d text
  end_audited lines text fits shows is =
      let ended = run shows.settled in
      let alone = subst (λ s. first_pair (rules_of hash).hash (plan_of d) (at s journal) ≡ None) same shows.alone in
      let in_time = subst (λ s. (at s journal).late ≡ 0) same shows.in_time in
      let folds = tables_same (rules_of hash) d has.records journal ended (none_in_run (rules_of hash) d has.records journal ended (none_found (rules_of hash) d has.records journal ended alone)) in_time in
      record {
        records = has.records;
        journal = journal;
        run = ended;
        fits = fits;
        alone = alone;
        in_time = in_time;
        folds = folds;
        printed =
            is
            ∙ ap (λ l. codes "settled" ++ 10 ∷ (l ++ journal_text journal)) (shows.printed ∙ ap (λ s. tables_text (folded_tables d (at s journal))) same ∙ ap tables_text folds)
            ∙ settled_is (job_tables d has.records) (journal_text journal);
      }

-- ---- what is refused at the end
-- the tables are wrong, where the report shows no fault
pub table_fault : (rules : Rules) (d : DraftView) (setup : Setup) (s : State) (lines : List ℕ) (r : Report) (tables : List Table) (name : Name) → (r.settled ≡ true → IsSettled setup s) → r.settled ≡ true → option_map join_pair r.collision ≡ option_map (named d) (first_pair rules.hash (plan_of d) s) → r.collision ≡ None → r.late ≡ s.late → r.late ≡ 0 →
    tables ≡ folded_tables d s → IsFirstWrong tables lines name → ShowsFault rules d setup s lines (WrongTable name)
table_fault rules d setup s lines r tables name settled is collision none late zero told wrong =
    (settled is, none_collides d r.collision (first_pair rules.hash (plan_of d) s) collision none, sym late ∙ zero, wrong_table d s tables lines name told wrong)

pub end_refused : (rules : Rules) (d : DraftView) (setup : Setup) (journal : List Entry) (place : Place) (lines text : List ℕ) → setup ≡ setup_of rules (plan_of d) → place ≡ journal_line journal → text ≡ codes "settled" ++ 10 ∷ (lines ++ journal_text journal) → (o : Option OutputFault) →
    IfSome o (ShowsFault rules d setup (at setup journal) lines) → IfSome o (HasEndFault rules d place text)
end_refused rules d setup journal place lines text same stands cut None h = tt
end_refused rules d setup journal place lines text same stands cut (Some fault) h = inr (record {
  journal = journal;
  here = stands;
  lines = lines;
  cut = cut;
  shows = subst (λ x. ShowsFault rules d x (at x journal) lines fault) same h;
})
