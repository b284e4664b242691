-- What the settings of a run want of an assignment.
use Rattle.ks_assign.specs.declared.clients.Placing.{Placing}
use Rattle.ks_words.specs.declared.settings.Settings.{Settings}

-- how the workers of a run form clients, and what is wanted of an assignment (Kafka Streams: `acceptable.recovery.lag` of 10,000,
-- `max.warmup.replicas` of 2)
abbrev pub placing_of : Settings → Placing
placing_of settings = record {
  threads = settings.threads;
  wants = record { standbys = settings.standbys; lag = 10000; warmups = 2 };
}
