-- Goodness is a test: the seven points are its seven parts.
use Rattle.std.proofs.Common.{◌≡◌, ◌&&◌, true, List}
use Rattle.ks_record.specs.declared.record.TaskId.{TaskId}
use Rattle.ks_record.specs.declared.assignment.Assignment.{Assignment}
use Rattle.ks_assign.specs.declared.clients.Client.{Client}
use Rattle.ks_assign.specs.declared.clients.Held.{Held}
use Rattle.ks_assign.specs.declared.clients.Wants.{Wants}
use Rattle.ks_assign.specs.Placement.{IsGood, is_good, by_client, places_tasks, runs_warm, is_balanced, has_standbys, warms_up, prepares, all_even}
use Rattle.ks_assign.specs.Rows.{GoodIsATest}
use Rattle.ks_assign.proofs.Homes.{and_left, and_right, and_both}

-- what a good assignment passes
pub is_test : (tasks : List TaskId) (clients : List Client) (held : List Held) (wants : Wants) (a : Assignment) → IsGood tasks clients held wants a → is_good tasks clients held wants a ≡ true
is_test tasks clients held wants a good =
    and_both _ _ good.once (and_both _ _ good.caught_up (and_both _ _ good.balanced
    (and_both _ _ good.standbys (and_both _ _ good.warmups (and_both _ _ good.prepared good.even)))))

-- what passes is good
pub test_is : (tasks : List TaskId) (clients : List Client) (held : List Held) (wants : Wants) (a : Assignment) → is_good tasks clients held wants a ≡ true → IsGood tasks clients held wants a
test_is tasks clients held wants a h =
    let active = by_client clients a.active in
    let standby = by_client clients a.standby in
    let warmup = by_client clients a.warmup in
    let once = places_tasks tasks active standby warmup in
    let warm = runs_warm clients held wants.lag active in
    let balanced = is_balanced clients held wants.lag active in
    let backed = has_standbys tasks clients wants.standbys active standby in
    let warmed = warms_up held wants.lag wants.warmups active standby warmup in
    let prepared = prepares clients wants.warmups active standby warmup in
    let even = all_even clients a.active in
    let h1 = and_right once (warm && (balanced && (backed && (warmed && (prepared && even))))) h in
    let h2 = and_right warm (balanced && (backed && (warmed && (prepared && even)))) h1 in
    let h3 = and_right balanced (backed && (warmed && (prepared && even))) h2 in
    let h4 = and_right backed (warmed && (prepared && even)) h3 in
    let h5 = and_right warmed (prepared && even) h4 in
    record {
      once = and_left once (warm && (balanced && (backed && (warmed && (prepared && even))))) h;
      caught_up = and_left warm (balanced && (backed && (warmed && (prepared && even)))) h1;
      balanced = and_left balanced (backed && (warmed && (prepared && even))) h2;
      standbys = and_left backed (warmed && (prepared && even)) h3;
      warmups = and_left warmed (prepared && even) h4;
      prepared = and_left prepared even h5;
      even = and_right prepared even h5;
    }

pub good_is_a_test : GoodIsATest
good_is_a_test tasks clients held wants a = (test_is tasks clients held wants a, is_test tasks clients held wants a)
