use Rattle.std.proofs.Common.{ap, sym, ◌∙◌}
use Rattle.json_fields.proofs.Rests.{members_in, rest_of_three}
use Rattle.json_genesis.proofs.Editions.{behind_seats}
use Rattle.json_genesis.proofs.fields.genesis_fields.Goals as goal

pub returns-in_err-absolute : goal.returns-in_err-absolute
returns-in_err-absolute c =
    rw c.from_residual-in_err-absolute.ensures
    (λ p e. c.in_err-absolute.ensures _ _ _ _ (ap members_in (sym c.in_ok-left.ensures ∙ e)))

pub returns-in_err-modules : goal.returns-in_err-modules
returns-in_err-modules c =
    rw c.from_residual-in_err-modules.ensures (λ p e.
    let all = ap members_in (sym c.in_ok-left.ensures ∙ e) in
    c.in_err-modules.ensures _ _ _ _ (ap rest_of_three (sym c.in_ok-absolute.ensures ∙ all)))

pub returns-in_err-preferred : goal.returns-in_err-preferred
returns-in_err-preferred c =
    rw c.from_residual-in_err-preferred.ensures (λ p e.
    let all = ap members_in (sym c.in_ok-left.ensures ∙ e) in
    let later = ap rest_of_three (sym c.in_ok-absolute.ensures ∙ all) in
    c.in_err-preferred.ensures _ _ _ _ (ap rest_of_three (sym c.in_ok-modules.ensures ∙ later)))

pub returns-in_err-rules : goal.returns-in_err-rules
returns-in_err-rules c =
    rw c.from_residual-in_err-rules.ensures (λ p e.
    let all = ap members_in (sym c.in_ok-left.ensures ∙ e) in
    let later = ap rest_of_three (sym c.in_ok-absolute.ensures ∙ all) in
    let last = ap rest_of_three (sym c.in_ok-modules.ensures ∙ later) in
    c.in_err-rules.ensures _ _ _ (ap rest_of_three (sym c.in_ok-preferred.ensures ∙ last)))

pub returns-in_err-upgrade : goal.returns-in_err-upgrade
returns-in_err-upgrade c =
    rw c.from_residual-in_err-upgrade.ensures (λ p e.
    let all = ap members_in (sym c.in_ok-left.ensures ∙ e) in
    let later = ap rest_of_three (sym c.in_ok-absolute.ensures ∙ all) in
    let last = ap rest_of_three (sym c.in_ok-modules.ensures ∙ later) in
    let two = ap rest_of_three (sym c.in_ok-preferred.ensures ∙ last) in
    c.in_err-upgrade.ensures _ _ (behind_seats _ _ _ _ _ _ (sym c.in_ok-rules.ensures ∙ two)))
