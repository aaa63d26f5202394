use Rattle.std.proofs.Common.{◌∙◌, ◌++◌, ◌∷◌, [], ap, sym, subst, refl, map, arith}
use Rattle.std.proofs.lemmas.List.{map-append, take_all}
use Rattle.std.specs.List.{AllByRecursion}
use Rattle.ledger_setting.specs.Limits.{limits_of}
use Rattle.ledger_setting.specs.Rule.{table_of}
use Rattle.fabric_core.specs.System.{chain_of_first, fresh, fresh_orderer}
use Rattle.endorsement_policy.specs.Endorsed.{Listed}
use Rattle.orderer.specs.Ordering.{Ordering}
use Rattle.fabric_core.specs.Inside.{peer_of, IsPeerRight, IsRight}
use Rattle.fabric_core.proofs.Steps.{opened_more, all_push}
use Rattle.fabric_core.proofs.system.System.new.Goals as goal

pub loop-org-preserved : goal.loop-org-preserved
loop-org-preserved c =
    let peers = c.loop-org.peers.items in
    let peer = c.in_ok-new.field-0 in
    let orgs = c.as_slice-orgs.result.now in
    let seats = c.args.genesis.now.seats in
    let chain = chain_of_first (table_of c.args.genesis.now.rules.value) [] in
    let right = all_push (IsPeerRight chain) peers peer c.loop-org.invariant.right (c.in_ok-new.ensures.right chain refl) in
    record {
      state =
          opened_more seats orgs c.loop-org.org-index c.in_ok-clone.field-0 c.org-item.result (map peer_of peers) (map peer_of c.push.new.self.items)
          (omega (arith, c.loop-org-test.true)) c.org-item.is c.in_ok-clone.ensures.cases c.loop-org.invariant.state
          (ap (map peer_of) c.in_ok-push.ensures.items ∙ map-append peer_of peers (peer ∷ []) ∙
          ap (λ s. map peer_of peers ++ s ∷ []) c.in_ok-new.ensures.state);
      right = subst (AllByRecursion (IsPeerRight chain)) (sym c.in_ok-push.ensures.items) right;
    }

pub invariant_of-result : goal.invariant_of-result
invariant_of-result c =
    let rules = c.in_ok-clone-3.field-0.value in
    let same = c.in_ok-clone-3.ensures.cases in
    let peers = c.loop-org.peers.items in
    subst (λ (o : Ordering). IsRight rules peers o.chain) (sym c.with_edition.ensures)
    (subst (λ (l : Listed). IsRight l peers []) (sym same) c.loop-org.invariant.right)

pub returns : goal.returns
returns c =
    let genesis = c.args.genesis.now in
    let opened = fresh genesis.seats in
    let orderer =
    c.with_edition.ensures
    ∙ ap (λ e. fresh_orderer e (limits_of genesis) genesis.reorder) (c.edition.ensures ∙ ap (λ (l : Listed). l.edition) c.deref.ensures) in
    let peers =
    c.loop-org.invariant.state
    ∙ ap (map opened) (take_all c.loop-org.org-index c.as_slice-orgs.result.now c.loop-org-test.false ∙ c.as_slice-orgs.ensures.value) in
    λ i. record {
      book = c.in_ok-clone-2.ensures.cases i;
      rules = c.in_ok-clone-3.ensures.cases i;
      seeds = c.in_ok-clone-4.ensures.cases i;
      capacity = genesis.queue;
      world = record { peers = peers i; queue = c.new-2.ensures.items i; orderer = orderer i };
    }
