use Rattle.std.proofs.Common.{◌≡◌, ◌++◌, ◌+◌, ◌*◌, ◌≤◌, map, length}
use Rattle.std.specs.List.{All}
use Rattle.std.specs.Vec.Iter.{into_iter_items, into_iter_len}
use Rattle.ks_run_workers.specs.Members.{IsEnlisted}
use Rattle.ks_run_feed.specs.Wanted.{placing_of}
use Rattle.ks_run_workers.proofs.enlisting.enlist.Given as goal

-- the workers so far have the passes so far; there are gates for those that are left
abbrev pub invariant-loop-pass : goal.invariant-loop-pass
invariant-loop-pass g l = record {
  passes : map (λ m. m.worker.state.session.client.pass) l.members.items ++ into_iter_items l.rest ≡ l.fn.passes.items;
  gates : length (into_iter_items l.rest) ≤ length (into_iter_items l.gates);
  few : length l.members.items + length (into_iter_items l.rest) ≤ 16;
  instances : length l.members.items + length (into_iter_items l.rest) ≤ 4 * l.settings.threads;
  uncounted : All (λ m. IsEnlisted m.worker.state) l.members.items;
  placing : All (λ m. m.worker.placing ≡ placing_of l.settings) l.members.items;
  cache : All (λ m. m.worker.state.member.cache ≡ l.settings.cache) l.members.items;
}

abbrev pub decreases-loop-pass : goal.decreases-loop-pass
decreases-loop-pass g l = into_iter_len l.rest
