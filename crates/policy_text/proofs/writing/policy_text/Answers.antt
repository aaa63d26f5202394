use Rattle.std.proofs.Common.{◌≡◌, rules, string_bytes}
use Rattle.policy_text.specs.Text.{policy_text}
use Rattle.policy_text.proofs.Shortest.{text_stands}
use Rattle.policy_text.proofs.writing.policy_text.Goals as goal

pub returns-clause-spelled : goal.returns-clause-spelled
returns-clause-spelled c orgs text h =
    let written : string_bytes c.write_policy.new.text ≡ policy_text c.args.policy.now = search rules in
    rw written (text_stands orgs c.args.policy.now text h)
