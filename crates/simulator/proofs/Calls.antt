-- What a call comes to is what its chaincode comes to, with the read of its definition in front.
use Rattle.std.proofs.Common.{◌≡◌, ◌∷◌, Option, Result, ap, ◌∙◌, subst}
use Rattle.std.specs.FinMap.{get}
use Rattle.fab_types.specs.declared.items.ReadItem.{ReadItem}
use Rattle.fab_types.specs.declared.proposal.Call.{Call}
use Rattle.fab_types.specs.declared.proposal.Proposal.TheVariants as proposal
use Rattle.ledger_model.specs.Chain.{Bytes, Version}
use Rattle.ledger_model.specs.Views.{Versioned, values_of}
use Rattle.ledger_model.specs.Flags.{version_at}
use Rattle.ledger_model.specs.Defined.{definition_key}
use Rattle.host_api.specs.Given.{Given}
use Rattle.host_api.specs.Parts.{parts_of}
use Rattle.host_api.specs.declared.recorder.Parts.{Parts}
use Rattle.chaincode_book.specs.Books.{Book}
use Rattle.simulator.specs.Execution.{Defined, execute, executable_by, exec_of, given_by}
use Rattle.simulator.specs.Answers.{SimRefusal, Answers, done_or_refusal}
use Rattle.simulator.proofs.Endings.{map_ok, answers_made}

-- the parts with a read in front
abbrev pub with_first : ReadItem → Parts → Parts
with_first item p = record { reads = item ∷ p.reads; ranges = p.ranges; result = p.result; writes = p.writes }

-- a call of which a look-up of its definition's key told this value and this version, and the book what it executes, and on what it is given
module _ (book : Book) (call : Call) (m : Versioned) (key : Bytes) (key_is : key ≡ definition_key call.chaincode) (value : Option Bytes)
    (value_is : value ≡ get (values_of m) key) (version : Option Version) (version_is : version ≡ version_at m key) (found : Option Defined)
    (found_is : found ≡ executable_by book call.chaincode value) (given : Given) (given_is : given ≡ given_by book.edition call)
    (result : Result Parts SimRefusal) where
  -- what it answers, where its chaincode answers so
  pub call_answers : let e =
      execute found given (values_of m) in Answers (done_or_refusal e.ending (parts_of m e.seen)) result → let o =
      exec_of book (proposal.Call call) (values_of m) in
      Answers (done_or_refusal o.ending (parts_of m o.seen)) (map_ok (with_first (record { key = key; version = version })) result)
  unfolding exec_of
  call_answers h =
      let name = call.chaincode in
      let e = execute found given (values_of m) in
      let item : ReadItem = record { key = key; version = version } in
      let there : ReadItem = record { key = definition_key name; version = version_at m (definition_key name) } in
      let item_is : item ≡ there = λ i. record { key = key_is i; version = (version_is ∙ ap (version_at m) key_is) i } in
      subst (λ (f : Option Defined). let o = execute f (given_by book.edition call) (values_of m) in
      Answers (done_or_refusal o.ending (with_first there (parts_of m o.seen))) (map_ok (with_first item) result))
      (found_is ∙ ap (executable_by book name) (value_is ∙ ap (get (values_of m)) key_is))
      (subst (λ (g : Given). let o = execute found g (values_of m) in
      Answers (done_or_refusal o.ending (with_first there (parts_of m o.seen))) (map_ok (with_first item) result)) given_is
      (subst (λ (i : ReadItem). Answers (done_or_refusal e.ending (with_first i (parts_of m e.seen))) (map_ok (with_first item) result)) item_is
      (answers_made (with_first item) e.ending (parts_of m e.seen) result h)))
