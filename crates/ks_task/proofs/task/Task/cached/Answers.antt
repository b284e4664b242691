use Rattle.std.proofs.Common.{List, ap, ◌∙◌, length}
use Rattle.ks_history.specs.Machine.{has_topic}
use Rattle.ks_cache.specs.declared.changelogs.Changelog.{Changelog}
use Rattle.ks_task.specs.Views.{cached_in}
use Rattle.ks_task.proofs.Viewing.{cached_there, cached_nowhere}
use Rattle.ks_task.proofs.task.Task.cached.Goals as goal

pub returns-clause-list : goal.returns-clause-list
returns-clause-list c d h there =
    c.cached_of.ensures ∙ (ap (λ (ls : List Changelog). length (cached_in ls c.args.log)) c.deref.ensures.value
    ∙ ap length (cached_there c.args.self.now.id c.args.self.now.cache c.args.self.now.made c.args.self.now.changelogs.items c.args.log h.caches_are (ap (has_topic c.args.log) h.logs_are ∙ there)))

pub returns-clause-none : goal.returns-clause-none
returns-clause-none c d h none =
    c.cached_of.ensures ∙ (ap (λ (ls : List Changelog). length (cached_in ls c.args.log)) c.deref.ensures.value
    ∙ ap length (cached_nowhere c.args.self.now.changelogs.items c.args.log (ap (has_topic c.args.log) h.logs_are ∙ none)))
