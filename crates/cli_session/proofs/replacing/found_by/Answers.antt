use Rattle.std.proofs.Common.{ap, rules}
use Rattle.cli_session.proofs.Stored.{found_of}
use Rattle.cli_session.proofs.replacing.found_by.Goals as goal

pub returns : goal.returns
returns g c =
    let loaded = c.in_ok-loaded.loaded in
    let known = g.R.Read.remaining in
    found_of _ _ _ (known c.args.reader) loaded.blocks.items _ loaded.end c.in_ok-loaded.ensures.store (ap (λ x. known x) c.new-device.ensures.device)
    (search rules)
