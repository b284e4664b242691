use Rattle.std.proofs.Common.{codes, arith, subst, sym}
use Rattle.clap.specs.Matches.{found_of}
use Rattle.ks_words.specs.Grammar.{greatest_seed}
use Rattle.ks_words.specs.Ranges.{HasRanges}
use Rattle.ks_words.proofs.Numbers.{flag_is, ranges, told_or, told_some}
use Rattle.ks_words.proofs.words.settings.Goals as goal

pub returns-clause-told : goal.returns-clause-told
unfolding greatest_seed
returns-clause-told c = λ us told.
    let found = found_of c.args.found.now in
    let instances = told_or found us (codes "instances") 1 4 c.small_or.result 1 told.instances (c.small_or.ensures 1 4 (omega arith)) in
    let threads = told_or found us (codes "threads") 1 4 c.small_or-2.result 1 told.threads (c.small_or-2.ensures 1 4 (omega arith)) in
    let standbys = told_or found us (codes "standbys") 0 3 c.small_or-3.result 0 told.standbys (c.small_or-3.ensures 0 3 (omega arith)) in
    let interval = told_or found us (codes "commit-every") 1 10000 c.number_or.result 100 told.interval (c.number_or.ensures 1 10000 (omega arith)) in
    let chaos = told_some found us (codes "chaos") 0 greatest_seed c.large.result told.chaos (c.large.ensures 0 greatest_seed (omega arith)) in
    let stop = told_some found us (codes "stop-after") 1 1000000 c.large-2.result told.stop (c.large-2.ensures 1 1000000 (omega arith)) in
    let cache = told_or found us (codes "cache") 0 100000 c.number_or-2.result 0 told.cache (c.number_or-2.ensures 0 100000 (omega arith)) in
    let journal = flag_is found us c.get_flag.result told c.get_flag.ensures.none c.get_flag.ensures.value c.get_flag.ensures.other in
    λ i. record { instances = instances i; threads = threads i; standbys = standbys i; interval = interval i; chaos = chaos i; stop = stop i; cache = cache i; journal = journal i }

pub returns-clause-within : goal.returns-clause-within
returns-clause-within c = λ us told. subst HasRanges (sym (returns-clause-told c us told)) (ranges (found_of c.args.found.now) us told)
