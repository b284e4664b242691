-- The crew of a team, once a `&mut` into it has ended.
use Rattle.std.specs.Borrow.{Lends, MutBor, Fml, RattleType}
use Rattle.ks_cluster.specs.declared.work.Work.{Ghosts as WorkGhosts}
use Rattle.ks_edge.specs.declared.gate.Gate.{Ghosts as GateGhosts}
use Rattle.ks_run_workers.specs.declared.working.Crew.{Crew}
use Rattle.ks_run_workers.specs.declared.working.Team.{Team}
use Rattle.ks_run_workers.specs.contracts.working.Crew as crew
use Rattle.ks_run_workers.specs.contracts.working.Team as team

abbrev pub with_crew : {W G : Type 0} → Team W G → Crew W G → Team W G
with_crew t c = record t { crew = c }

-- once the borrow ends, the crew is what it shows last
abbrev pub LendsCrew : (W G : RattleType) → WorkGhosts W.Denot → GateGhosts G.Denot → MutBor (Team W.Denot G.Denot) → MutBor (Crew W.Denot G.Denot) → Fml
LendsCrew W G w g s r = Lends (team.the_row W G w g) (crew.the_row W G w g) s r (with_crew s.now)
