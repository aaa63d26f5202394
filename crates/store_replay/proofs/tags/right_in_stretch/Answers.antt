use Rattle.std.proofs.Common.{rules}
use Rattle.store_replay.specs.Tags.{orgs_kept}
use Rattle.store_replay.proofs.RightTags.{of_taken}
use Rattle.store_replay.proofs.tags.right_in_stretch.Goals as goal

pub returns-in-Ok : goal.returns-in-Ok
returns-in-Ok g c =
    of_taken (orgs_kept c.args.rules.now (g.P.Past.kept c.args.past.now)) c.in-Ok.right.items c.fitting-count.result _ c.args.records.now (search rules) c.in-Ok.ensures
