use Rattle.std.proofs.Common.{◌≡◌, ◌-◌, ◌++◌, string_bytes}
use Rattle.std.specs.List.{flat_map}
use Rattle.ks_words.specs.Load.{record_line, section_records}
use Rattle.ks_words.proofs.load.push_section.Given as goal

-- what is written, and then the lines of the numbers to come
abbrev pub invariant-loop-i : goal.invariant-loop-i
invariant-loop-i l = string_bytes l.text ++ flat_map record_line (section_records l.section l.customers l.i (l.count - l.i)) ≡ string_bytes l.fn.text ++ flat_map record_line (section_records l.section l.customers 0 l.count)
