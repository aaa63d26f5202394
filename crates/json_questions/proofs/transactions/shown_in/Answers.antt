use Rattle.std.proofs.Common.{◌≡◌, ◌∙◌, ℕ, List, sym, ap}
use Rattle.org_keys.specs.declared.organisation.Organisation.{Organisation}
use Rattle.kept_state.specs.Keeping.{chain_of}
use Rattle.json_chain.specs.Standing.{orgs_before}
use Rattle.json_chain.specs.Transactions.{placed_transaction_json}
use Rattle.json_chain.specs.Writes.{placed_at}
use Rattle.json_questions.specs.Answers.{has_id}
use Rattle.json_questions.proofs.FirstBlock.{found_number}
use Rattle.json_questions.proofs.transactions.shown_in.Goals as goal

pub returns-clause-shown : goal.returns-clause-shown
returns-clause-shown c =
    let p = c.in-Some.placed in
    let t = placed_at p.envelope.now p.flag p.block p.place in
    let block = c.args.committed.now in
    let found = sym c.in-Some.ensures in
    let number : t.version.block ≡ c.args.number = found_number (has_id c.args.id.now) c.args.number 0 block.block.envelopes block.flags t found in
    let stood = c.organisations.ensures ∙ c.in_ok-standing.ensures
    ∙ ap (λ (n : ℕ). orgs_before c.args.rules.now n (chain_of c.args.chain.now)) (sym number) in
    (t, found, c.in_ok-shown.ensures ∙ ap (λ (orgs : List Organisation). placed_transaction_json orgs t) stood)
