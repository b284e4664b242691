-- The lines of a section, number by number.
use Rattle.std.proofs.Common.{◌≡◌, ◌∙◌, ◌+◌, ◌-◌, ◌<◌, ℕ, suc, sym, ap, ap₂, arith, List, ◌++◌, append_assoc}
use Rattle.std.specs.List.{flat_map}
use Rattle.std.proofs.lemmas.List.Concat.{flat_map-append}
use Rattle.ks_words.specs.declared.load.LoadRecord.{LoadRecord}
use Rattle.ks_words.specs.declared.load.Section.{Section}
use Rattle.ks_words.specs.declared.load.Section.TheVariants.{Orders, Customers, Raises, Deletions, Moves}
use Rattle.ks_words.specs.Load.{in_section, record_line, records_of, records_with, section_records}

-- one more number
pub next_number : (s : Section) (customers i n : ℕ) (before now whole : List ℕ) → i < n
    → before ++ flat_map record_line (section_records s customers i (n - i)) ≡ whole
    → now ≡ before ++ flat_map record_line (records_of (in_section s customers i))
    → now ++ flat_map record_line (section_records s customers (i + 1) (n - (i + 1))) ≡ whole
next_number s customers i n before now whole below all is =
    let left : n - i ≡ suc (n - (i + 1)) = omega arith in
    let next : i + 1 ≡ suc i = omega arith in
    ap₂ (λ (xs : List ℕ) (k : ℕ). xs ++ flat_map record_line (section_records s customers k (n - (i + 1)))) is next
    ∙ append_assoc before _ _
    ∙ ap (λ xs. before ++ xs) (sym (flat_map-append record_line (records_of (in_section s customers i)) (section_records s customers (suc i) (n - (i + 1)))))
    ∙ ap (λ k. before ++ flat_map record_line (section_records s customers i k)) (sym left)
    ∙ all

-- two lists of lines, one after another
joined : (before : List ℕ) (a b : List LoadRecord) → (before ++ flat_map record_line a) ++ flat_map record_line b ≡ before ++ flat_map record_line (a ++ b)
joined before a b = append_assoc before _ _ ∙ ap (λ xs. before ++ xs) (sym (flat_map-append record_line a b))

-- the sections one after another
pub all_sections : (customers orders : ℕ) (before : List ℕ)
    → ((((before ++ flat_map record_line (section_records Orders customers 0 orders))
    ++ flat_map record_line (section_records Customers customers 0 customers))
    ++ flat_map record_line (section_records Raises customers 0 orders))
    ++ flat_map record_line (section_records Deletions customers 0 orders))
    ++ flat_map record_line (section_records Moves customers 0 customers)
    ≡ before ++ flat_map record_line (records_with customers orders)
all_sections customers orders before =
    let five : (a b c d e : List LoadRecord) → ((((before ++ flat_map record_line a) ++ flat_map record_line b) ++ flat_map record_line c) ++ flat_map record_line d) ++ flat_map record_line e
    ≡ before ++ flat_map record_line ((((a ++ b) ++ c) ++ d) ++ e) =
    λ a b c d e. ap (λ (xs : List ℕ). ((xs ++ flat_map record_line c) ++ flat_map record_line d) ++ flat_map record_line e) (joined before a b)
    ∙ ap (λ (xs : List ℕ). (xs ++ flat_map record_line d) ++ flat_map record_line e) (joined before (a ++ b) c)
    ∙ ap (λ (xs : List ℕ). xs ++ flat_map record_line e) (joined before ((a ++ b) ++ c) d)
    ∙ joined before (((a ++ b) ++ c) ++ d) e in
    five (section_records Orders customers 0 orders) (section_records Customers customers 0 customers) (section_records Raises customers 0 orders) (section_records Deletions customers 0 orders) (section_records Moves customers 0 customers)
