use Rattle.std.proofs.Common.{◌≡◌, ◌∙◌, Bool, sym, ap}
use Rattle.std.specs.FinMap.{get}
use Rattle.serde_json.specs.Data.{Data, array, boolean}
use Rattle.serde_json.specs.View.{items_of}
use Rattle.fab_types.specs.Memberships.{membership_key}
use Rattle.ledger_model.specs.Chain.{Bytes, Chain, Version, history}
use Rattle.ledger_model.specs.Views.{Versioned, first, values_of}
use Rattle.ledger_model.proofs.State.{get-state}
use Rattle.policy_language.specs.GoodSets.{is_satisfied}
use Rattle.endorsement_policy.specs.Endorsed.{policy_in}
use Rattle.endorsement_policy.specs.Membership.{listed_in, usable_membership}
use Rattle.simulator.specs.Answers.{payload_in}
use Rattle.simulator.specs.Execution.{exec_of}
use Rattle.ledger_setting.specs.declared.genesis.Genesis.{Genesis}
use Rattle.json_chain.specs.Entries.{entries_json, entry_json}
use Rattle.json_chain.specs.Memberships.{standing_json}
use Rattle.json_questions.specs.Answers.{GivesBack, answer_from, call_of, names_among, or_null, outcome_json}
use Rattle.json_questions.specs.declared.question.Question.{Question}
use Rattle.json_questions.proofs.Given.{gives_chain}
use Rattle.json_questions.proofs.answer.answer_of.Goals as goal

-- an answer that needs no block
whole : (keeps : Bool) (g : Genesis) (asked q : Question) (chain : Chain) (d : Data) → asked ≡ q → d ≡ answer_from g q chain chain →
    (read : Chain) × GivesBack keeps chain read × (d ≡ answer_from g asked chain read)
whole keeps g asked q chain d is shown = (chain, gives_chain keeps chain, shown ∙ ap (λ (x : Question). answer_from g x chain chain) (sym is))

pub returns-in_ok-genesis_of-in-Setting-clause-answered : goal.returns-in_ok-genesis_of-in-Setting-clause-answered
returns-in_ok-genesis_of-in-Setting-clause-answered g c =
    whole g.B.Blocks.keeps c.args.genesis.now _ _ (g.B.Blocks.chain c.args.blocks.now) _ c.in-Setting.is c.in_ok-genesis_of-in-Setting.ensures

pub returns-in_ok-standing_of_state-in-Members-clause-answered : goal.returns-in_ok-standing_of_state-in-Members-clause-answered
returns-in_ok-standing_of_state-in-Members-clause-answered g c =
    let rules = c.deref-rules.ensures in
    let state = c.state_of-state.ensures in
    whole g.B.Blocks.keeps c.args.genesis.now _ _ (g.B.Blocks.chain c.args.blocks.now) _ c.in-Members.is
    (c.in_ok-standing_of_state-in-Members.ensures
    ∙ (λ i. standing_json (rules i) (usable_membership (rules i).installed.orgs (get (values_of (state i)) membership_key))))

pub returns-in_ok-entry_at-in-Get-clause-answered : goal.returns-in_ok-entry_at-in-Get-clause-answered
returns-in_ok-entry_at-in-Get-clause-answered g c =
    let chain = g.B.Blocks.chain c.args.blocks.now in
    let key = c.in-Get.key in
    let at = ap (λ (m : Versioned). get m key) c.state_of-state.ensures ∙ get-state (history chain) key in
    whole g.B.Blocks.keeps c.args.genesis.now _ _ chain _ c.in-Get.is
    (c.in_ok-entry_at-in-Get.ensures ∙ ap (or_null (λ (e : Bytes × Version). entry_json key e.0 e.1)) at)

pub returns-in_ok-entries_of-in-Range-clause-answered : goal.returns-in_ok-entries_of-in-Range-clause-answered
returns-in_ok-entries_of-in-Range-clause-answered g c =
    let q = c.in-Range in
    whole g.B.Blocks.keeps c.args.genesis.now _ _ (g.B.Blocks.chain c.args.blocks.now) _ q.is
    (c.in_ok-entries_of-in-Range.ensures
    ∙ ap (λ (m : Versioned). array (items_of (entries_json (first m q.start q.end q.limit)))) c.state_of-state.ensures)

pub returns-in_ok-satisfied_of-in-Satisfied-clause-answered : goal.returns-in_ok-satisfied_of-in-Satisfied-clause-answered
returns-in_ok-satisfied_of-in-Satisfied-clause-answered g c =
    let rules = c.deref-rules.ensures in
    let state = c.state_of-state.ensures in
    let q = c.in-Satisfied in
    whole g.B.Blocks.keeps c.args.genesis.now _ _ (g.B.Blocks.chain c.args.blocks.now) _ q.is
    (c.in_ok-satisfied_of-in-Satisfied.ensures
    ∙ (λ i. or_null (λ p. boolean (is_satisfied p (names_among (listed_in (rules i) (values_of (state i))).orgs q.orgs)))
    (policy_in (rules i) (values_of (state i)) q.chaincode)))

pub returns-in_ok-outcome_of-in-Call-clause-answered : goal.returns-in_ok-outcome_of-in-Call-clause-answered
returns-in_ok-outcome_of-in-Call-clause-answered g c =
    let book = c.deref.ensures in
    let state = c.state_of-state.ensures in
    let q = c.in-Call in
    whole g.B.Blocks.keeps c.args.genesis.now _ _ (g.B.Blocks.chain c.args.blocks.now) _ q.is
    (c.in_ok-outcome_of-in-Call.ensures ∙ (λ i. outcome_json (payload_in (exec_of (book i)) (call_of q.chaincode q.argument) (state i))))
