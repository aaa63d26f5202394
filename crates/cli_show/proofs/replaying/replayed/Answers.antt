use Rattle.std.proofs.Common.{List, ℕ, Option, ap, subst, ◌∙◌}
use Rattle.ledger_setting.specs.Rule.{table_of}
use Rattle.store_replay.specs.Replay.{ReplaysFrom}
use Rattle.cli_show.proofs.replaying.replayed.Goals as goal

pub returns-clause-replayed : goal.returns-clause-replayed
returns-clause-replayed g c =
    let read = c.in_ok-replay_store in
    let same = ap (λ x. g.F.Reader.Read.remaining x) c.new-device.ensures.device ∙ c.in-Some.ensures.read in
    subst (λ (o : Option (List ℕ)). ReplaysFrom (table_of c.args.genesis.now.rules.value) o read.field-0.0) same read.ensures.store

pub returns-clause-kept : goal.returns-clause-kept
returns-clause-kept g c = c.watch-watch.ensures.kept ∙ c.open.ensures.kept
