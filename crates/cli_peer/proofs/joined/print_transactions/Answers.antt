use Rattle.std.proofs.Common.{◌≡◌, ◌+◌, ℕ, [], get_or, arith, subst}
use Rattle.std.specs.List.{flat_map}
use Rattle.fab_types.specs.declared.flag.Flag.TheVariants.{Valid}
use Rattle.ledger_model.specs.Chain.{transactions_from}
use Rattle.cli_lines.specs.Told.{PrintsPart}
use Rattle.cli_lines.proofs.Printing.{on_err, part_left, prints_all, prints_next}
use Rattle.cli_peer.specs.Printed.{tx_text}
use Rattle.cli_peer.proofs.LeftOut.{same_item}
use Rattle.cli_peer.proofs.Transactions.{length-transactions, placed, transaction_at}
use Rattle.cli_peer.proofs.joined.print_transactions.Goals as goal

pub loop-place-preserved : goal.loop-place-preserved
loop-place-preserved g c =
    let n = c.args.number in
    let es = c.args.envelopes.now in
    let fs = c.args.flags.now in
    let i = c.loop-place.place in
    let e = c.index-envelopes-place.result in
    let f = get_or fs i Valid in
    let all = transactions_from n 0 es fs in
    let size = length-transactions n 0 es fs c.requires in
    let front : 0 + i ≡ i = omega arith in
    let item = subst (λ (k : ℕ). placed n k e f ≡ get_or all i (placed n i e f)) front (transaction_at n 0 es fs i e f (placed n i e f) c.requires c.loop-place-test.true c.index-envelopes-place.is
    (same_item fs i Valid (omega (arith, c.requires, c.loop-place-test.true)))) in
    prints_next tx_text [] all i (placed n i e f) c.args.out.now c.loop-place.out c.print_transaction.new.out (omega (arith, size, c.loop-place-test.true)) item
    c.loop-place.invariant c.in_ok-print_transaction.ensures.prints

pub returns-clause-prints : goal.returns-clause-prints
returns-clause-prints g c =
    let all = transactions_from c.args.number 0 c.args.envelopes.now c.args.flags.now in
    let size = length-transactions c.args.number 0 c.args.envelopes.now c.args.flags.now c.requires in
    prints_all tx_text [] all c.loop-place.place c.args.out.now c.loop-place.out (omega (arith, size, c.loop-place-test.false)) c.loop-place.invariant

pub returns-in_err-print_transaction-clause-part : goal.returns-in_err-print_transaction-clause-part
returns-in_err-print_transaction-clause-part g c =
    let all = transactions_from c.args.number 0 c.args.envelopes.now c.args.flags.now in
    let t = c.args.out.now in
    let v = c.print_transaction.new.out in
    on_err c.from_residual.result (PrintsPart t v (flat_map tx_text all))
    (part_left tx_text [] all c.loop-place.place t c.loop-place.out v c.loop-place.invariant c.in_err-print_transaction.ensures.nothing)
