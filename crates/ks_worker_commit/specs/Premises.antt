-- What each request of a commit asks of its caller.
use Rattle.std.specs.Prelude.{◌≡◌, ◌≤◌, ℕ, false}
use Rattle.atomic_table.specs.Seated.{TableId}
use Rattle.ks_worker_client.specs.Turns.{HasRoomFor}
use Rattle.ks_worker_client.specs.declared.session.Session.{Session}

-- the worker may make requests: its pass is of this lock and doesn't hold it, its gate has room,
-- its number is a producer's, 0 to 16
pub record MayRequest {W G : Type 0} (lock : TableId) (number : ℕ) (session : Session W G) : Type 0 where
  pub own : session.client.pass.lock ≡ lock
  pub free : session.client.pass.holds ≡ false
  pub room : HasRoomFor session.client.gate
  pub worker : number ≤ 16
