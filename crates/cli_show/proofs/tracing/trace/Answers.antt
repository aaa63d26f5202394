use Rattle.std.proofs.Common.{◌∙◌, option_map, sym, ap}
use Rattle.fab_types.specs.declared.edition.Edition.{Edition}
use Rattle.host_api.specs.Plain.{plain_of}
use Rattle.chaincode_book.specs.Books.{Book, chaincode_at}
use Rattle.simulator.specs.Execution.{given_by}
use Rattle.cli_show.proofs.Traces.{call_begun, call_traced}
use Rattle.cli_show.proofs.tracing.trace.Goals as goal

pub returns-clause-answers : goal.returns-clause-answers
returns-clause-answers g c =
    let genesis = c.args.genesis.now in
    let call = c.args.call.now in
    let name = call.chaincode in
    let found =
    ap (λ (b : Book). chaincode_at b.chaincodes name) (sym c.deref.ensures) ∙ sym c.get.ensures ∙ ap (option_map (λ x. x.now)) c.in-Some.is in
    let opened = c.new-recorder.ensures in
    let edition = c.edition.ensures ∙ ap (λ (b : Book). b.edition) c.deref-2.ensures in
    let given = c.given_by-given.ensures ∙ ap (λ (e : Edition). given_by e call) edition in
    let r = c.trace_on in
    call_traced genesis call c.args.most c.in-Some.chaincode.now (plain_of c.new-recorder.result.opened.view) c.new-recorder.result.opened.given
    c.new-recorder.result.records c.args.out.now r.new.out r.result found (ap (λ q. plain_of q.opened.view) opened ∙ c.empty-state.ensures)
    (ap (λ q. q.opened.given) opened ∙ given) (ap (λ q. q.records) opened) r.ensures.lost r.ensures.traces

pub returns-clause-begins : goal.returns-clause-begins
returns-clause-begins g c =
    let genesis = c.args.genesis.now in
    let call = c.args.call.now in
    let name = call.chaincode in
    let found =
    ap (λ (b : Book). chaincode_at b.chaincodes name) (sym c.deref.ensures) ∙ sym c.get.ensures ∙ ap (option_map (λ x. x.now)) c.in-Some.is in
    let opened = c.new-recorder.ensures in
    let edition = c.edition.ensures ∙ ap (λ (b : Book). b.edition) c.deref-2.ensures in
    let given = c.given_by-given.ensures ∙ ap (λ (e : Edition). given_by e call) edition in
    let r = c.trace_on in
    call_begun genesis call c.args.most c.in-Some.chaincode.now (plain_of c.new-recorder.result.opened.view) c.new-recorder.result.opened.given
    c.new-recorder.result.records c.args.out.now r.new.out r.result found (ap (λ q. plain_of q.opened.view) opened ∙ c.empty-state.ensures)
    (ap (λ q. q.opened.given) opened ∙ given) (ap (λ q. q.records) opened) r.ensures.begins
