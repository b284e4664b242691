use Rattle.std.proofs.Common.{◌/◌, ◌<◌, arith}
use Rattle.std.proofs.Math.Nat.{div-lt_iff_lt-mul}
use Rattle.ks_run_workers.proofs.enlisting.instance_of.Goals as goal

pub returns : goal.returns
returns c =
    let less : c.args.number / c.args.threads < 4 = (div-lt_iff_lt-mul {k = c.args.threads} {x = c.args.number} {y = 4} (omega (arith, c.requires.some))).1 (omega (arith, c.requires.below)) in
    omega (arith, less)
