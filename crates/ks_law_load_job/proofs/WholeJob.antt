-- The whole text of the load job is read as its topology and its records.
use Rattle.std.proofs.Common.{◌≡◌, ℕ, ◌+◌, ◌≤◌, List, [], ◌∷◌, ◌++◌, map, length, Some, Ok, refl, ap, subst, ◌∙◌, sym, arith, append_assoc}
use Rattle.std.specs.List.{flat_map}
use Rattle.ks_plan.specs.Drafts.{DraftView}
use Rattle.ks_job_record.specs.Gives.{◌>>=◌}
use Rattle.ks_words.specs.declared.load.LoadRecord.{LoadRecord}
use Rattle.ks_words.specs.Load.{record_line, topology_text, load_records, load_text}
use Rattle.ks_job_topology.specs.Topology.{names_of}
use Rattle.ks_job.specs.Items.{ItemView, TopologyAt}
use Rattle.ks_job.specs.Lines.{topology_line as judged_topology, judged}
use Rattle.ks_job.specs.Reader.{Machine, end_of, whole}
use Rattle.ks_job.specs.ByLines.{onto_lines, lines_from, and_lines, judge_lines, first_spot, by_lines}
use Rattle.ks_job.proofs.Whole.{by_lines_so_far}
use Rattle.ks_law_load_job.specs.Items.{load_draft, record_item, load_items, HasRead}
use Rattle.ks_law_load_job.proofs.Topology.{topology_data, topology_line, topology_read, topology_said, topology_clean, topology_length}
use Rattle.ks_law_load_job.proofs.Counting.{AllFit, all_fit, few_records}
use Rattle.ks_law_load_job.proofs.Lines.{one_line, Speaks, judged_is, spot_at, text_of, cut_lines, Stands, all_judged}

-- ---- the first line
abbrev topology_item : ItemView
topology_item = TopologyAt 1 load_draft

speaks : Speaks topology_line topology_data
speaks = record { clean = topology_clean; some = refl; read = topology_read }

pub topology_judged : judged first_spot 1 topology_line ≡ Ok (spot_at 2 (length topology_line + 1) 0, Some topology_item)
unfolding judged_topology
topology_judged =
    judged_is first_spot topology_line topology_data speaks (omega (arith, topology_length)) (omega (arith, topology_length))
    ∙ ap (λ r. r >>= λ (draft : DraftView). Ok (record { line = 2; start = length topology_line + 1; topics = Some (names_of draft.topics); records = 0 }, Some (TopologyAt 1 draft))) topology_said

-- ---- all lines
abbrev rest_of : List LoadRecord → List ℕ
rest_of rs = flat_map record_line rs

cut : (rs : List LoadRecord) → AllFit rs → lines_from [] (topology_text ++ rest_of rs) ≡ (topology_line ∷ map text_of rs, [])
unfolding topology_text
cut rs h = ap (lines_from []) (append_assoc topology_line (10 ∷ []) (rest_of rs)) ∙ one_line [] topology_line (rest_of rs) topology_clean ∙ ap (onto_lines topology_line) (cut_lines rs h)

lines_read : (rs : List LoadRecord) → AllFit rs → length rs ≤ 221431 → Stands (topology_item ∷ map record_item rs) (by_lines (topology_text ++ rest_of rs))
lines_read rs h few =
    let start = length topology_line + 1 in
    let all = all_judged rs 2 start 0 (topology_item ∷ []) h (omega arith) (omega (arith, topology_length)) in
    record {
      line = all.line;
      start = all.start;
      records = all.records;
      is = ap (λ p. judge_lines first_spot [] p.0 p.1) (cut rs h) ∙ ap (λ o. and_lines 1 [] o (λ t more. judge_lines t more (map text_of rs) [])) topology_judged ∙ all.is;
    }

ended : (items : List ItemView) (m : Machine) → Stands items m → HasRead items (end_of m.reader m.items)
ended items m h = subst (λ (n : Machine). HasRead items (end_of n.reader n.items)) (sym h.is) (record { reading = tt; given = refl })

pub load_read : (orders : ℕ) → orders ≤ 150000 → HasRead (load_items orders) (whole (load_text orders))
unfolding load_text
load_read orders h =
    let rs = load_records orders in
    let fit = all_fit orders h in
    subst (λ (m : Machine). HasRead (load_items orders) (end_of m.reader m.items)) (sym (by_lines_so_far (topology_text ++ rest_of rs)))
    (ended (load_items orders) (by_lines (topology_text ++ rest_of rs)) (lines_read rs fit (few_records orders h)))
