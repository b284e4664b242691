use Rattle.std.proofs.Common.{◌≡◌, ◌+◌, ◌<◌, ◌≤◌, ◌++◌, ℕ, List, length, take, drop, refl, sym, subst, ◌∙◌, arith, length-take, take-append-drop}
use Rattle.ks_audit_verdict.specs.declared.fault.OutputFault.TheVariants.{TooLong}
use Rattle.ks_run_audit.specs.Feeding.{RefusesBytes, draft_in}
use Rattle.ks_run_audit.proofs.Feeds.{refuses_input, refuses_with}
use Rattle.ks_run_audit.proofs.feeding.LineFeed.feed_past.Goals as goal

both : (bytes : List ℕ) (room : ℕ) → bytes ≡ take room bytes ++ drop room bytes
both bytes room = sym (take-append-drop room bytes)

size : (bytes : List ℕ) (room : ℕ) → room < length bytes → length (take room bytes) ≡ room
size bytes room h = omega (arith, length-take {A = ℕ})

pub feed_within-requires-clause-few : goal.feed_within-requires-clause-few
feed_within-requires-clause-few g c = omega (arith, c.requires.feed.few, c.requires.room, size c.args.bytes.now c.args.room c.requires.past)

pub returns-in-Ok-clause-refused : goal.returns-in-Ok-clause-refused
returns-in-Ok-clause-refused g c = λ at same.
    refuses_input g.H.Hash128.hash_of (draft_in c.args.output.now) TooLong at c.args.room c.args.bytes.now c.args.self.now.line.items c.feed_within.new.self.line.items c.args.self.now.lines c.feed_within.new.self.lines c.args.output.now c.feed_within.new.output refl
    (rw c.in-Ok.is at c.in_ok-feed_within.ensures.fed) c.requires.past (omega (arith, same, c.requires.room)) (both c.args.bytes.now c.args.room) (size c.args.bytes.now c.args.room c.requires.past)

pub returns-in-Err-clause-refused : goal.returns-in-Err-clause-refused
returns-in-Err-clause-refused g c = λ at same.
    let hash = g.H.Hash128.hash_of in
    let d = draft_in c.args.output.now in
    let front = take c.args.room c.args.bytes.now in
    let refused = (rw c.in-Err.is at c.in_ok-feed_within.ensures.refused) at (omega (arith, same, c.requires.room, size c.args.bytes.now c.args.room c.requires.past)) in
    subst (λ b. RefusesBytes hash d at b c.args.self.now.line.items c.args.self.now.lines c.feed_within.new.self.lines c.args.output.now c.in-Err.fault) (sym (both c.args.bytes.now c.args.room))
    (refuses_with hash d c.in-Err.fault at front (drop c.args.room c.args.bytes.now) c.args.self.now.line.items c.args.self.now.lines c.feed_within.new.self.lines c.args.output.now refused)
