use Rattle.std.proofs.Common.{rules, ◌≡◌, ◌∙◌, List, [], ℕ, Ok, refl, subst, sym}
use Rattle.endorsement_policy.specs.Listed.{Listed}
use Rattle.ledger_model.specs.Chain.{Chain}
use Rattle.ledger_setting.specs.Rule.{table_of}
use Rattle.block_store.specs.Loading.{IsBehind}
use Rattle.kept_state.specs.Keeping.{chain_of}
use Rattle.store_replay.specs.Lawful.{AreLawful, IsRecommitRefused}
use Rattle.log_peer.specs.Opening.{IsChainOf}
use Rattle.log_peer.specs.Storing.{IsOpenRefused, cut_of}
use Rattle.log_peer.specs.declared.refusal.StoreRefusal.TheVariants.{Stored}
use Rattle.log_peer.proofs.Stores.{opened_by, records_of}
use Rattle.log_peer.proofs.opening.recommit_all.Goals as goal

pub returns-in_err-chain-clause-refused : goal.returns-in_err-chain-clause-refused
returns-in_err-chain-clause-refused g c =
    let reads = g.R.CountedRead in
    let known = reads.remaining c.args.reader.now in
    let before = reads.taken c.args.reader.now in
    let moved = reads.taken c.read_into.new.reader in
    let end = c.in_ok-end.end in
    let held = c.in_ok-held.held in
    let cut : cut_of end.end end.held ≡ Ok held = sym c.in_ok-held.ensures.cut in
    let took = c.in_ok-end.ensures.took in
    let cs = took.0 in
    let are = records_of before moved known cs end.end end.held held took.4 cut in
    let refusal = c.in_err-chain.field-0.0 in
    let why = c.in_err-chain.ensures cs are (took.1.0.recommitted, took.1.1) in
    let opened = opened_by known before moved cs cs end.end end.held held c.requires.unread took.4 took.3 cut refl in
    let same = c.in_ok-end.ensures.context ∙ c.new-opening.ensures.rules in
    let refused : IsOpenRefused (table_of c.args.rules.now) known (Stored refusal) =
    (opened.bytes, cs, opened.held, opened.records, subst (λ (l : Listed). IsRecommitRefused (table_of l) cs refusal) same why) in
    search rules

pub returns-clause-lawful : goal.returns-clause-lawful
returns-clause-lawful g c =
    let reads = g.R.CountedRead in
    let known = reads.remaining c.args.reader.now in
    let before = reads.taken c.args.reader.now in
    let moved = reads.taken c.read_into.new.reader in
    let end = c.in_ok-end.end in
    let held = c.in_ok-held.held in
    let cut : cut_of end.end end.held ≡ Ok held = sym c.in_ok-held.ensures.cut in
    let took = c.in_ok-end.ensures.took in
    let cs = took.0 in
    let are = records_of before moved known cs end.end end.held held took.4 cut in
    let done = c.in_ok-chain.ensures cs are (took.1.0.recommitted, took.1.1) in
    let same = c.in_ok-end.ensures.context ∙ c.new-opening.ensures.rules in
    subst (λ (l : Listed). AreLawful (table_of l) [] (chain_of c.in_ok-chain.chain)) same
    (subst (λ (chain : Chain). AreLawful (table_of c.read_into.new.sink.recommit.rules.now) [] chain) (sym done.0.blocks) done.1)

pub returns-clause-chain : goal.returns-clause-chain
returns-clause-chain g c =
    let reads = g.R.CountedRead in
    let known = reads.remaining c.args.reader.now in
    let before = reads.taken c.args.reader.now in
    let moved = reads.taken c.read_into.new.reader in
    let end = c.in_ok-end.end in
    let held = c.in_ok-held.held in
    let cut : cut_of end.end end.held ≡ Ok held = sym c.in_ok-held.ensures.cut in
    let took = c.in_ok-end.ensures.took in
    let cs = took.0 in
    let are = records_of before moved known cs end.end end.held held took.4 cut in
    let done = c.in_ok-chain.ensures cs are (took.1.0.recommitted, took.1.1) in
    subst (IsChainOf c.in_ok-chain.chain c.in_ok-chain.places) (sym done.0.blocks) done.0

pub returns-clause-opened : goal.returns-clause-opened
returns-clause-opened g c =
    let reads = g.R.CountedRead in
    let known = reads.remaining c.args.reader.now in
    let before = reads.taken c.args.reader.now in
    let moved = reads.taken c.read_into.new.reader in
    let end = c.in_ok-end.end in
    let held = c.in_ok-held.held in
    let cut : cut_of end.end end.held ≡ Ok held = sym c.in_ok-held.ensures.cut in
    let took = c.in_ok-end.ensures.took in
    let cs = took.0 in
    let are = records_of before moved known cs end.end end.held held took.4 cut in
    let done = c.in_ok-chain.ensures cs are (took.1.0.recommitted, took.1.1) in
    opened_by known before moved cs (chain_of c.in_ok-chain.chain) end.end end.held held c.requires.unread took.4 took.3 cut done.0.blocks

pub returns-clause-behind : goal.returns-clause-behind
returns-clause-behind g c =
    let reads = g.R.CountedRead in
    let known = reads.remaining c.args.reader.now in
    let before = reads.taken c.args.reader.now in
    let moved = reads.taken c.read_into.new.reader in
    let end = c.in_ok-end.end in
    let held = c.in_ok-held.held in
    let cut : cut_of end.end end.held ≡ Ok held = sym c.in_ok-held.ensures.cut in
    let took = c.in_ok-end.ensures.took in
    let cs = took.0 in
    let are = records_of before moved known cs end.end end.held held took.4 cut in
    let done = c.in_ok-chain.ensures cs are (took.1.0.recommitted, took.1.1) in
    let behind = c.in_ok-held.ensures.behind before moved cs took.3 in
    subst (λ (chain : Chain). IsBehind [] moved chain held) (sym done.0.blocks)
    (subst (λ (b : List ℕ). IsBehind b moved cs held) c.requires.unread behind)
