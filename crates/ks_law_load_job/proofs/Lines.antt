-- The lines of the load job, one after another: each is read as its record.
use Rattle.std.proofs.Common.{◌≡◌, ℕ, ◌+◌, ◌*◌, ◌^◌, ◌<◌, ◌≤◌, min, nat_lt, cond, true, false, List, [], ◌∷◌, ◌++◌, map, length, Some, None, Ok, Err, decimal, codes, refl, ap, ap₂, ◌∙◌, sym, arith, append_assoc, append-nil, length-append, lt-ltb, le-ltb, ltb-true, ne_eqb, eq-eqb}
use Rattle.std.specs.List.{flat_map}
use Rattle.std.specs.Str.Lossy.{utf8_valid_len}
use Rattle.std.proofs.lemmas.Bool.{and_parts}
use Rattle.std.proofs.lemmas.Str.{utf8_valid_len-IsUtf8}
use Rattle.serde_json.specs.Data.{Data, null}
use Rattle.serde_json.specs.Read.{read}
use Rattle.ks_job_record.specs.declared.fault.JobKind.TheVariants.{TooMany, NotJson, LineTooLong}
use Rattle.ks_job_record.specs.declared.record.Input.{Input}
use Rattle.ks_job_record.specs.Gives.{◌>>=◌, some_or}
use Rattle.ks_job_record.specs.Record.{input_from}
use Rattle.ks_words.specs.declared.load.LoadRecord.{LoadRecord}
use Rattle.ks_words.specs.declared.load.LoadRecord.TheVariants.{Order, Deletion, Customer}
use Rattle.ks_words.specs.Load.{record_line, order_front, order_value, customer_line}
use Rattle.ks_job_topology.specs.Topology.{names_of}
use Rattle.ks_job.specs.Items.{ItemView, RecordTo}
use Rattle.ks_job.specs.Lines.{Spot, parsed, passes, is_too_long, is_blank, next_line, record_line as judged_record, value_line, data_line, judged, too_long}
use Rattle.ks_job.specs.Reader.{Reading, Faulty, Machine, is_line_end}
use Rattle.ks_job.specs.ByLines.{onto_lines, lines_from, and_lines, begun_line, judge_lines}
use Rattle.ks_law_load_job.specs.Items.{load_topics, record_item}
use Rattle.ks_law_load_job.proofs.Clean.{is_clean, clean, clean-append, clean_utf8, clean-decimal}
use Rattle.ks_law_load_job.proofs.Trees.{line_data, order_data, customer_data, orders_name, to_order, to_value, to_customer, to_amount, to_customer_key, to_region, value_text, front_text, order_text, deletion_text, customer_text, order_read, deletion_read, customer_read}
use Rattle.ks_law_load_job.proofs.Readings.{short_decimal, order_said, deletion_said, customer_said}
use Rattle.ks_law_load_job.proofs.Counting.{Fits, AllFit}

-- ---- a text is cut at its line ends
not_end : (x : ℕ) → is_clean x ≡ true → is_line_end x ≡ false
not_end x h = let l = ltb-true 10 x (and_parts (nat_lt 10 x) (nat_lt x 128) h).0 in ne_eqb x 10 (λ e. omega (arith, l, e))

pub one_line : (begun line more : List ℕ) → clean line ≡ true → lines_from begun (line ++ 10 ∷ more) ≡ onto_lines (begun ++ line) (lines_from [] more)
one_line begun [] more h = ap (λ l. onto_lines l (lines_from [] more)) (sym (append-nil begun))
one_line begun (x ∷ line) more h =
    let p = and_parts (is_clean x) (clean line) h in
    ap (λ b. cond b (onto_lines begun (lines_from [] (line ++ 10 ∷ more))) (lines_from (begun ++ x ∷ []) (line ++ 10 ∷ more))) (not_end x p.0)
    ∙ one_line (begun ++ x ∷ []) line more p.1
    ∙ ap (λ l. onto_lines l (lines_from [] more)) (append_assoc begun (x ∷ []) line)

-- ---- a line without a fault
not_past : (start size : ℕ) → size ≤ 65537 → start + size ≤ 67108864 → passes start size ≡ false
unfolding passes
not_past start size h k = let e : min 65537 size ≡ size = omega arith in le-ltb 67108864 (start + min 65537 size) (omega (arith, e))

not_long : (line : List ℕ) → length line ≤ 65536 → is_too_long line ≡ false
unfolding is_too_long
not_long line h = le-ltb 65536 (length line) h

pub parsed_is : (line : List ℕ) (d : Data) → clean line ≡ true → read line ≡ Some d → parsed line ≡ Some d
unfolding parsed
parsed_is line d h r = ap (λ b. cond b (read line) None) (eq-eqb (utf8_valid_len line) (length line) (utf8_valid_len-IsUtf8 line (clean_utf8 line h))) ∙ r

data_is : (s : Spot) (size : ℕ) (line : List ℕ) (d : Data) → parsed line ≡ Some d → data_line s size line ≡ value_line s.topics s size d
unfolding data_line
data_is s size line d e = ap (λ o. some_or NotJson o >>= λ d. value_line s.topics s size d) e

-- what a line needs that says something: it fits, it is not blank, and JSON reads it
pub record Speaks (line : List ℕ) (d : Data) : Type 0 where
  pub clean : clean line ≡ true
  pub some : is_blank line ≡ false
  pub read : read line ≡ Some d

pub judged_is : (s : Spot) (line : List ℕ) (d : Data) → Speaks line d → length line ≤ 65536 → s.start + (length line + 1) ≤ 67108864 →
    judged s 1 line ≡ value_line s.topics s (length line + 1) d
unfolding judged
judged_is s line d h short room =
    let size = length line + 1 in
    let said = cond (is_blank line) (Ok (next_line s size, None)) (data_line s size line) in
    ap (λ b. cond b (Err (TooMany (codes "bytes") 67108864)) (cond (is_too_long line) (Err LineTooLong) said)) (not_past s.start size (omega arith) room)
    ∙ ap (λ b. cond b (Err LineTooLong) said) (not_long line short)
    ∙ ap (λ b. cond b (Ok (next_line s size, None)) (data_line s size line)) h.some
    ∙ data_is s size line d (parsed_is line d h.clean h.read)

-- ---- where reading stands, once the topology was read
abbrev pub names : List (List ℕ)
names = names_of load_topics

abbrev pub spot_at : ℕ → ℕ → ℕ → Spot
spot_at line start records = record { line = line; start = start; topics = Some names; records = records }

record_is : (line start records size : ℕ) (d : Data) (i : Input) → records < 250000 → input_from names d ≡ Ok i →
    value_line (Some names) (spot_at line start records) size d ≡ Ok (spot_at (line + 1) (start + size) (records + 1), Some (RecordTo i.topic i.rec))
unfolding judged_record
record_is line start records size d i few e =
    ap (λ r. r >>= λ (i : Input). cond (nat_lt records 250000) (Ok (spot_at (line + 1) (start + size) (records + 1), Some (RecordTo i.topic i.rec))) (Err (TooMany (codes "records") 250000))) e
    ∙ ap (λ b. cond b (Ok (spot_at (line + 1) (start + size) (records + 1), Some (RecordTo i.topic i.rec))) (Err (TooMany (codes "records") 250000))) (lt-ltb records 250000 few)

-- ---- the record lines
abbrev pub text_of : LoadRecord → List ℕ
text_of (Order order customer amount) = order_text (decimal order) (decimal customer) (decimal amount)
text_of (Deletion order) = deletion_text (decimal order)
text_of (Customer customer region) = customer_text (decimal customer) (decimal region)

pub ends_so : (r : LoadRecord) → record_line r ≡ text_of r ++ 10 ∷ []
unfolding order_front order_value customer_line
ends_so (Order order customer amount) = sym (append_assoc (front_text (decimal order)) (value_text (decimal customer) (decimal amount)) (10 ∷ []))
ends_so (Deletion order) = refl
ends_so (Customer customer region) = refl

-- with what it says
pub record Says (r : LoadRecord) : Type 0 where
  pub meant : Data
  pub input : Input
  pub speaks : Speaks (text_of r) meant
  pub says : input_from names meant ≡ Ok input
  pub item : RecordTo input.topic input.rec ≡ record_item r
  pub short : length (text_of r) ≤ 100

-- texts of three and of five pieces
clean_three : (a b c : List ℕ) → clean a ≡ true → clean b ≡ true → clean c ≡ true → clean (a ++ b ++ c) ≡ true
clean_three a b c ha hb hc = clean-append (a ++ b) c (clean-append a b ha hb) hc

clean_five : (a b c d e : List ℕ) → clean a ≡ true → clean b ≡ true → clean c ≡ true → clean d ≡ true → clean e ≡ true → clean (a ++ b ++ c ++ d ++ e) ≡ true
clean_five a b c d e ha hb hc hd he = clean_three (a ++ b ++ c) d e (clean_three a b c ha hb hc) hd he

length_three : (a b c : List ℕ) → length (a ++ b ++ c) ≡ length a + length b + length c
length_three a b c = omega (arith, length-append (a ++ b) c, length-append a b)

length_five : (a b c d e : List ℕ) → length (a ++ b ++ c ++ d ++ e) ≡ length a + length b + length c + length d + length e
length_five a b c d e = omega (arith, length_three (a ++ b ++ c) d e, length_three a b c)

length_eight : (a b c p q r s t : List ℕ) → length ((a ++ b ++ c) ++ (p ++ q ++ r ++ s ++ t)) ≡ (length a + length b + length c) + (length p + length q + length r + length s + length t)
length_eight a b c p q r s t = omega (arith, length-append (a ++ b ++ c) (p ++ q ++ r ++ s ++ t), length_three a b c, length_five p q r s t)

length_four : (a b c d : List ℕ) → length ((a ++ b ++ c) ++ d) ≡ (length a + length b + length c) + length d
length_four a b c d = omega (arith, length-append (a ++ b ++ c) d, length_three a b c)

clean_front : (order : ℕ) → order < 2 ^ 64 → clean (front_text (decimal order)) ≡ true
clean_front order h = clean_three to_order (decimal order) to_value refl (clean-decimal order h) refl

order_clean : (order customer amount : ℕ) → order < 2 ^ 64 → customer < 2 ^ 64 → amount < 2 ^ 64 → clean (order_text (decimal order) (decimal customer) (decimal amount)) ≡ true
order_clean order customer amount ho hc ha =
    clean-append (front_text (decimal order)) (value_text (decimal customer) (decimal amount)) (clean_front order ho)
    (clean_five to_customer (decimal customer) to_amount (decimal amount) (codes "}}") refl (clean-decimal customer hc) refl (clean-decimal amount ha) refl)

deletion_clean : (order : ℕ) → order < 2 ^ 64 → clean (deletion_text (decimal order)) ≡ true
deletion_clean order ho = clean-append (front_text (decimal order)) (codes "null}") (clean_front order ho) refl

customer_clean : (customer region : ℕ) → customer < 2 ^ 64 → region < 2 ^ 64 → clean (customer_text (decimal customer) (decimal region)) ≡ true
customer_clean customer region hc hr = clean_five to_customer_key (decimal customer) to_region (decimal region) (codes "\"}}") refl (clean-decimal customer hc) refl (clean-decimal region hr) refl

wide : (n : ℕ) → n < 10 ^ 6 → n < 2 ^ 64
wide n h = omega arith

pub it_says : (r : LoadRecord) → Fits r → Says r
it_says (Order order customer amount) h = record {
  meant = line_data orders_name (codes "o" ++ decimal order) (order_data (codes "c" ++ decimal customer) amount);
  input = _;
  speaks = record {
    clean = order_clean order customer amount (wide order h.0) (wide customer h.1) (wide amount h.2);
    some = refl;
    read = order_read order customer amount (wide order h.0) (wide customer h.1) (wide amount h.2);
  };
  says = order_said order customer amount h.0 h.1 h.2;
  item = refl;
  short = omega (arith, length_eight to_order (decimal order) to_value to_customer (decimal customer) to_amount (decimal amount) (codes "}}"), short_decimal order h.0, short_decimal customer h.1, short_decimal amount h.2);
}
it_says (Deletion order) h = record {
  meant = line_data orders_name (codes "o" ++ decimal order) null;
  input = _;
  speaks = record { clean = deletion_clean order (wide order h); some = refl; read = deletion_read order (wide order h) };
  says = deletion_said order h;
  item = refl;
  short = omega (arith, length_four to_order (decimal order) to_value (codes "null}"), short_decimal order h);
}
it_says (Customer customer region) h = record {
  meant = line_data (codes "customers") (codes "c" ++ decimal customer) (customer_data (codes "r" ++ decimal region));
  input = _;
  speaks = record { clean = customer_clean customer region (wide customer h.0) (wide region h.1); some = refl; read = customer_read customer region (wide customer h.0) (wide region h.1) };
  says = customer_said customer region h.0 h.1;
  item = refl;
  short = omega (arith, length_five to_customer_key (decimal customer) to_region (decimal region) (codes "\"}}"), short_decimal customer h.0, short_decimal region h.1);
}

pub judged_so : (r : LoadRecord) (line start records : ℕ) → Says r → records < 250000 → start + 101 ≤ 67108864 →
    judged (spot_at line start records) 1 (text_of r) ≡ Ok (spot_at (line + 1) (start + (length (text_of r) + 1)) (records + 1), Some (record_item r))
judged_so r line start records h few room =
    judged_is (spot_at line start records) (text_of r) h.meant h.speaks (omega (arith, h.short)) (omega (arith, h.short))
    ∙ record_is line start records (length (text_of r) + 1) h.meant h.input few h.says
    ∙ ap (λ (i : ItemView). Ok (spot_at (line + 1) (start + (length (text_of r) + 1)) (records + 1), Some i)) h.item

-- ---- all of them
pub cut_lines : (rs : List LoadRecord) → AllFit rs → lines_from [] (flat_map record_line rs) ≡ (map text_of rs, [])
cut_lines [] h = refl
cut_lines (r ∷ rs) h =
    ap (λ l. lines_from [] (l ++ flat_map record_line rs)) (ends_so r)
    ∙ ap (lines_from []) (append_assoc (text_of r) (10 ∷ []) (flat_map record_line rs))
    ∙ one_line [] (text_of r) (flat_map record_line rs) (it_says r h.0).speaks.clean
    ∙ ap (onto_lines (text_of r)) (cut_lines rs h.1)

-- reading goes on behind them, with these items
pub record Stands (items : List ItemView) (m : Machine) : Type 0 where
  pub line : ℕ
  pub start : ℕ
  pub records : ℕ
  pub is : m ≡ record { reader = Reading (spot_at line start records) []; items = items }

nothing_begun : (s : Spot) → begun_line s [] ≡ Reading s []
nothing_begun s = ap (λ b. cond b (Faulty s.line (too_long s.start)) (Reading s [])) (not_long [] (omega arith))

pub all_judged : (rs : List LoadRecord) (line start records : ℕ) (items : List ItemView) → AllFit rs → records + length rs ≤ 250000 → start + 101 * length rs ≤ 67108864 →
    Stands (items ++ map record_item rs) (judge_lines (spot_at line start records) items (map text_of rs) [])
all_judged [] line start records items h few room = record {
  line = line;
  start = start;
  records = records;
  is = ap₂ (λ r (is : List ItemView). record { reader = r; items = is }) (nothing_begun (spot_at line start records)) (sym (append-nil items));
}
all_judged (r ∷ rs) line start records items h few room =
    let says = it_says r h.0 in
    let next = all_judged rs (line + 1) (start + (length (text_of r) + 1)) (records + 1) (items ++ record_item r ∷ []) h.1 (omega arith) (omega (arith, says.short)) in
    let one = ap (λ o. and_lines line items o (λ t more. judge_lines t more (map text_of rs) [])) (judged_so r line start records says (omega arith) (omega arith)) in
    record {
      line = next.line;
      start = next.start;
      records = next.records;
      is = one ∙ next.is ∙ ap (λ (is : List ItemView). record { reader = Reading (spot_at next.line next.start next.records) []; items = is }) (append_assoc items (record_item r ∷ []) (map record_item rs));
    }
