-- The numbers of the faults of an ask.
use Rattle.std.specs.Prelude.{ℕ}
use Rattle.ks_iq.specs.declared.fault.IqFault.{IqFault}
use Rattle.ks_iq.specs.declared.fault.IqFault.TheVariants.{UnknownStore, WrongStart, WrongTask, NotClean, Behind}

abbrev pub fault_code : IqFault → ℕ
fault_code UnknownStore = 30
fault_code WrongStart = 31
fault_code (WrongTask owner) = 32
fault_code NotClean = 33
fault_code (Behind position) = 34
