use Rattle.std.proofs.Common.{◌-◌}
use Rattle.ledger_setting.proofs.Amended.{named_blocks}
use Rattle.json_chain.proofs.Stands.{behind, shown, taken}
use Rattle.json_chain.proofs.laws.who_is_shown_stands.Goals as goal

pub returns-clause-behind : goal.returns-clause-behind
returns-clause-behind c = behind

pub returns-clause-before : goal.returns-clause-before
returns-clause-before c = λ r chain h number. taken r chain h (number - 1)

pub returns-clause-shown : goal.returns-clause-shown
returns-clause-shown c = shown

pub returns-clause-named : goal.returns-clause-named
returns-clause-named c = λ r chain h. named_blocks chain h.blocks
