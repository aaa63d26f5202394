use Rattle.std.proofs.Common.{◌∙◌, Option, Some, None, IfOk, codes, refl, sym, subst}
use Rattle.std.specs.Borrow.{Bor}
use Rattle.std.proofs.lemmas.Result.{IfOk-weaker}
use Rattle.kept_state.specs.Keeping.{chain_of}
use Rattle.ledger_model.specs.Chain.{Bytes}
use Rattle.peer_answers.specs.Answering.{IsSighted}
use Rattle.peer_answers.specs.Setting.{org_of}
use Rattle.peer_answers.specs.Spoken.{answer_text}
use Rattle.peer_answers.proofs.Hashes.{hashed_block, no_block}
use Rattle.peer_answers.proofs.Sighted.{block_of, seen_so}
use Rattle.peer_answers.proofs.answering.Answering.seen.Goals as goal

pub returns-in-Some-hash : goal.returns-in-Some-hash
returns-in-Some-hash c =
    let log = c.args.self.now.log.now in
    let org = c.in-Some.org.now in
    let chain = chain_of c.args.chain.now in
    let words = c.args.words.now in
    let n = c.in-Some-number_in.number in
    let hash = c.in-Some-hash.hash in
    let state = c.map.ensures ∙ c.requires.state.state in
    let h = hashed_block chain n hash c.requires.numbered (sym c.in-Some-hash.ensures) in
    let found = block_of chain words n (Some h.block) c.in-Some-number_in.ensures h.at in
    subst (λ (o : Option (Bor Bytes)). IfOk c.seen_by.result (λ a. IsSighted log (org_of o) chain words (answer_text a))) (sym c.in-Some.is)
    (IfOk-weaker c.seen_by.result _ (λ a. IsSighted log (Some org) chain words (answer_text a))
    (λ a is. (Some h.block, found, is ∙ seen_so log org chain _ n hash state h)) c.seen_by.ensures)

pub returns-in-None : goal.returns-in-None
returns-in-None c =
    let log = c.args.self.now.log.now in
    let chain = chain_of c.args.chain.now in
    let words = c.args.words.now in
    let n = c.in-Some-number_in.number in
    let none = block_of chain words n None c.in-Some-number_in.ensures (no_block chain n (sym c.in-None.ensures)) in
    subst (λ (o : Option (Bor Bytes)). IsSighted log (org_of o) chain words (codes "bad")) (sym c.in-Some.is) (None, none, refl)
