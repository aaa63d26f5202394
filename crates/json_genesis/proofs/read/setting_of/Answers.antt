use Rattle.std.proofs.Common.{◌∙◌}
use Rattle.std.proofs.lemmas.Result.{err_from_is_err_and}
use Rattle.json_genesis.specs.Fields.{parts_of}
use Rattle.json_genesis.specs.Lists.{IsListOf}
use Rattle.json_genesis.specs.Spelling.{IsPeer, IsPolicy}
use Rattle.json_genesis.proofs.Whole.{NoneIs-part, organisations_by}
use Rattle.json_genesis.proofs.read.setting_of.Goals as goal

pub returns-in_err-seats-clause-refused : goal.returns-in_err-seats-clause-refused
returns-in_err-seats-clause-refused c =
    let p = err_from_is_err_and c.from_residual.result c.from_residual.ensures.1 in
    let none = c.in_err-seats.ensures.refused in
    rw (p.1, p.2) (λ held. (none.0, λ real g spelled. none.1 real g.seats spelled.seats))

pub returns-in_err-queue-clause-refused : goal.returns-in_err-queue-clause-refused
returns-in_err-queue-clause-refused c =
    let p = err_from_is_err_and c.from_residual-in_err-queue.result c.from_residual-in_err-queue.ensures.1 in
    let none = c.in_err-queue.ensures.refused in
    rw (p.1, p.2) (λ held. (none.0, λ real g spelled. none.1 real g.queue spelled.queue))

pub returns-in_err-count-clause-refused : goal.returns-in_err-count-clause-refused
returns-in_err-count-clause-refused c =
    let p = err_from_is_err_and c.from_residual-in_err-count.result c.from_residual-in_err-count.ensures.1 in
    let none = c.in_err-count.ensures.refused in
    rw (p.1, p.2) (λ held. (none.0, λ real g spelled. none.1 real g.count spelled.count))

pub returns-in_err-preferred-clause-refused : goal.returns-in_err-preferred-clause-refused
returns-in_err-preferred-clause-refused c =
    let p = err_from_is_err_and c.from_residual-in_err-preferred.result c.from_residual-in_err-preferred.ensures.1 in
    let none = c.in_err-preferred.ensures.refused in
    rw (p.1, p.2) (λ held. (none.0, λ real g spelled. none.1 real g.preferred spelled.preferred))

pub returns-in_err-absolute-clause-refused : goal.returns-in_err-absolute-clause-refused
returns-in_err-absolute-clause-refused c =
    let p = err_from_is_err_and c.from_residual-in_err-absolute.result c.from_residual-in_err-absolute.ensures.1 in
    let none = c.in_err-absolute.ensures.refused in
    rw (p.1, p.2) (λ held. (none.0, λ real g spelled. none.1 real g.absolute spelled.absolute))

pub returns-in_err-reorder-clause-refused : goal.returns-in_err-reorder-clause-refused
returns-in_err-reorder-clause-refused c =
    let p = err_from_is_err_and c.from_residual-in_err-reorder.result c.from_residual-in_err-reorder.ensures.1 in
    let none = c.in_err-reorder.ensures.refused in
    rw (p.1, p.2) (λ held. (none.0, λ real g spelled. none.1 real g.reorder spelled.reorder))

pub returns-in_err-edition-clause-refused : goal.returns-in_err-edition-clause-refused
returns-in_err-edition-clause-refused c =
    let p = err_from_is_err_and c.from_residual-in_err-edition.result c.from_residual-in_err-edition.ensures.1 in
    let none = c.in_err-edition.ensures.refused in
    rw (p.1, p.2) (λ held. (none.0, λ real g spelled. none.1 real g.rules.value.edition spelled.edition))

pub returns-in_err-organisations-clause-refused : goal.returns-in_err-organisations-clause-refused
returns-in_err-organisations-clause-refused c =
    let p = err_from_is_err_and c.from_residual-in_err-organisations.result c.from_residual-in_err-organisations.ensures.1 in
    let none = c.in_err-organisations.ensures.refused in
    rw (p.1, p.2) (λ held. (none.0, λ real g spelled. none.1 real _ (organisations_by _ _ _ _ g c.in_ok-edition.ensures.ok spelled)))

pub returns-in_err-peers-clause-refused : goal.returns-in_err-peers-clause-refused
returns-in_err-peers-clause-refused c =
    let p = err_from_is_err_and c.from_residual-in_err-peers.result c.from_residual-in_err-peers.ensures.1 in
    let names = c.deref.ensures.value ∙ c.in_ok-organisations.ensures.ok.1 in
    let d = (parts_of c.args.fields.now).peers in
    rw (p.1, p.2)
    (λ held. NoneIs-part (λ orgs. IsListOf (IsPeer orgs) 1 8 d) (λ g. g.peers.items) _ _ _ _ _ _ _ (λ g h. h.peers) c.in_ok-edition.ensures.ok
    c.in_ok-organisations.ensures.ok.0 names c.in_err-peers.ensures.refused)

pub returns-in_err-upgrade-clause-refused : goal.returns-in_err-upgrade-clause-refused
returns-in_err-upgrade-clause-refused c =
    let p = err_from_is_err_and c.from_residual-in_err-upgrade.result c.from_residual-in_err-upgrade.ensures.1 in
    let names = c.deref-2.ensures.value ∙ c.in_ok-organisations.ensures.ok.1 in
    let d = (parts_of c.args.fields.now).upgrade in
    rw (p.1, p.2)
    (λ held. NoneIs-part (λ orgs. IsPolicy orgs d) (λ g. g.rules.value.upgrade) _ _ _ _ _ _ _ (λ g h. h.upgrade) c.in_ok-edition.ensures.ok
    c.in_ok-organisations.ensures.ok.0 names c.in_err-upgrade.ensures.refused)

pub returns-clause-ok : goal.returns-clause-ok
returns-clause-ok c = record {
  seats = c.in_ok-seats.ensures.ok;
  queue = c.in_ok-queue.ensures.ok;
  count = c.in_ok-count.ensures.ok;
  preferred = c.in_ok-preferred.ensures.ok;
  absolute = c.in_ok-absolute.ensures.ok;
  reorder = c.in_ok-reorder.ensures.ok;
  edition = c.in_ok-edition.ensures.ok;
  organisations = c.in_ok-organisations.ensures.ok.0;
  names = c.in_ok-organisations.ensures.ok.1;
  peers = rw c.deref.ensures.value at c.in_ok-peers.ensures.ok;
  upgrade = rw c.deref-2.ensures.value at c.in_ok-upgrade.ensures.ok;
}
