use Rattle.std.proofs.Common.{◌∙◌, ℕ, List, [], Option, ap, subst}
use Rattle.endorsement_policy.specs.Endorsed.{Listed}
use Rattle.kept_state.specs.Keeping.{chain_of}
use Rattle.log_peer.specs.Storing.{IsOpenRefused, IsOpened}
use Rattle.ledger_setting.specs.Rule.{table_of}
use Rattle.store_replay.specs.Lawful.{AreLawful}
use Rattle.cli_peer.proofs.checkpointing.read_store.Goals as goal

pub returns-in-Ok-clause-read : goal.returns-in-Ok-clause-read
returns-in-Ok-clause-read g c =
    let ok = c.in-Ok in
    let same = ap (λ x. g.F.Reader.Read.remaining x) c.new-device.ensures.device ∙ c.in-Some.ensures.read in
    let opened = subst (λ (o : Option (List ℕ)). IsOpened o (chain_of ok.chain) ok.held) same ok.ensures.opened in
    let lawful = subst (λ (l : Listed). AreLawful (table_of l) [] (chain_of ok.chain)) c.deref.ensures ok.ensures.lawful in
    (ok.ensures.chain, lawful, opened)

pub returns-clause-read : goal.returns-clause-read
returns-clause-read g c =
    let same = ap (λ x. g.F.Reader.Read.remaining x) c.new-device.ensures.device ∙ c.in-Some.ensures.read in
    let rules = c.args.genesis.now.rules.value in
    let cause = c.in-Err.refusal in
    let device = g.F.Reader.Read.remaining c.new-device.result.device in
    let refused = subst (λ (l : Listed). IsOpenRefused (table_of l) device cause) c.deref.ensures c.in-Err.ensures.refused in
    subst (λ (o : Option (List ℕ)). IsOpenRefused (table_of rules) o cause) same refused
