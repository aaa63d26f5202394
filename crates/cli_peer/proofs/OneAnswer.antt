-- What is answered to a line that asks for something is one.
use Rattle.std.proofs.Common.{◌≡◌, ◌⊎◌, ◌++◌, inl, inr, ℕ, List, Bool, true, false, Option, Some, None, codes, length, arith, refl, sym, ap, subst, ◌∙◌}
use Rattle.std.specs.Fmt.{decimal}
use Rattle.std.proofs.lemmas.Fmt.{decimal_injective}
use Rattle.fab_types.specs.declared.proposal.Proposal.{Proposal}
use Rattle.fab_types.specs.Committed.{Committed}
use Rattle.serde_json.specs.Written.{compact_text}
use Rattle.json_events.specs.Spelling.{SpellsProposal}
use Rattle.json_questions.specs.Answers.{AsksBlocks, GivesBack, answer_from}
use Rattle.json_questions.specs.Spelling.{SpellsQuestion}
use Rattle.json_questions.specs.declared.question.Question.{Question}
use Rattle.json_questions.specs.declared.question.Question.TheVariants as question
use Rattle.ledger_model.specs.Chain.{Bytes, Chain}
use Rattle.ledger_setting.specs.declared.genesis.Genesis.{Genesis}
use Rattle.log_committer.specs.Committing.{block_at}
use Rattle.peer_answers.specs.Answering.{IsAnswered, IsBlockOf, IsReply, IsSighted, Peer, Says, seen_or_bad}
use Rattle.peer_answers.specs.Calls.{IsCalled, called_words}
use Rattle.peer_answers.specs.Numbers.{IsDecimal}
use Rattle.cli_peer.specs.Alike.{AsksForBlocks}
use Rattle.cli_peer.specs.Peering.{DoesAsked}
use Rattle.peer_answers.specs.Lines.{Asks}
use Rattle.peer_answers.specs.declared.line.Request.{Request}
use Rattle.peer_answers.specs.declared.line.Request.TheVariants.{Call, Question as Asked, Seen}
use Rattle.peer_answers.specs.declared.log_genesis.LogGenesis.{LogGenesis}

-- words spell one proposal, and one question
pub record AreSpellings : Type 0 where
  pub proposal : (line : List ℕ) (p q : Proposal) → SpellsProposal line p → SpellsProposal line q → p ≡ q
  pub question : (line : List ℕ) (q r : Question) → SpellsQuestion line q → SpellsQuestion line r → q ≡ r

one_number : (digits : Bytes) (m n : ℕ) → IsDecimal digits m → IsDecimal digits n → m ≡ n
one_number digits m n a b = decimal_injective m n (omega (arith, a.small)) (omega (arith, b.small)) (sym a.spelled ∙ b.spelled)

one_block : (chain : Chain) (digits : Bytes) (a b : Option Committed) → IsBlockOf chain digits a → IsBlockOf chain digits b → a ≡ b
one_block chain digits None None x y = refl
one_block chain digits (Some a) None x y = (let none = y x.0 x.1 in let some = x.2 in absurd cc)
one_block chain digits None (Some b) x y = (let none = x y.0 y.1 in let some = y.2 in absurd cc)
one_block chain digits (Some a) (Some b) x y =
    let number : x.0 ≡ y.0 = one_number digits x.0 y.0 x.1 y.1 in
    sym x.2 ∙ ap (λ (n : ℕ). block_at chain n) number ∙ y.2

one_called : AreSpellings → (g : Genesis) (org : Option Bytes) (agreed : Bool) (chain : Chain) (words text other : Bytes) →
    IsCalled g org agreed chain words text → IsCalled g org agreed chain words other → text ≡ other
one_called laws g org agreed chain words text other (inl x) (inl y) =
    x.2 ∙ ap (λ (p : Proposal). called_words g org agreed p chain) (laws.proposal words x.0 y.0 x.1 y.1) ∙ sym y.2
one_called laws g org agreed chain words text other (inl x) (inr y) = absurd (y.0 x.0 x.1)
one_called laws g org agreed chain words text other (inr x) (inl y) = absurd (x.0 y.0 y.1)
one_called laws g org agreed chain words text other (inr x) (inr y) = x.1 ∙ sym y.1

-- ---- an answer to a question

-- it asks for blocks, and it is not known what the file gives back
abbrev IsRead : Bool → Question → Type 0
IsRead keeps q = (keeps ≡ false) × AsksBlocks q

-- by the chain, or it is read
by_chain : (keeps : Bool) (g : Genesis) (q : Question) (chain read : Chain) → GivesBack keeps chain read →
    (answer_from g q chain read ≡ answer_from g q chain chain) ⊎ IsRead keeps q
by_chain true g q chain read back = inl (ap (λ (c : Chain). answer_from g q chain c) back)
by_chain false g question.Setting chain read back = inl refl
by_chain false g question.Members chain read back = inl refl
by_chain false g (question.Block n) chain read back = inr (refl, tt)
by_chain false g (question.Get key) chain read back = inl refl
by_chain false g (question.Range start end limit) chain read back = inl refl
by_chain false g (question.History key) chain read back = inr (refl, tt)
by_chain false g (question.HistoryPart key from blocks) chain read back = inr (refl, tt)
by_chain false g (question.Transaction id) chain read back = inr (refl, tt)
by_chain false g (question.Satisfied chaincode orgs) chain read back = inl refl
by_chain false g (question.Call chaincode argument) chain read back = inl refl

text_by_chain : (keeps : Bool) (g : Genesis) (q : Question) (chain : Chain) (text : Bytes) → IsReply keeps g q chain text →
    (text ≡ compact_text (answer_from g q chain chain)) ⊎ IsRead keeps q
text_by_chain keeps g q chain text (inl x) =
    elim (by_chain keeps g q chain x.0 x.1) [
      | inl same ↦ inl (x.2.exact ∙ ap compact_text same)
      | inr read ↦ inr read
    ]
text_by_chain keeps g q chain text (inr x) = inr (x.0, x.1)

of_one : {R : Type 0} (text other said : Bytes) → (text ≡ said) ⊎ R → (other ≡ said) ⊎ R → (text ≡ other) ⊎ R
of_one text other said (inl a) (inl b) = inl (a ∙ sym b)
of_one text other said (inl a) (inr read) = inr read
of_one text other said (inr read) b = inr read

one_reply : (keeps : Bool) (g : Genesis) (q : Question) (chain : Chain) (text other : Bytes) → IsReply keeps g q chain text → IsReply keeps g q chain other →
    (text ≡ other) ⊎ IsRead keeps q
one_reply keeps g q chain text other x y =
    of_one text other (compact_text (answer_from g q chain chain)) (text_by_chain keeps g q chain text x) (text_by_chain keeps g q chain other y)

one_answered : AreSpellings → (keeps : Bool) (g : Genesis) (chain : Chain) (tag words text other : Bytes) → IsAnswered keeps g chain words text →
    IsAnswered keeps g chain words other → (text ≡ other) ⊎ ((keeps ≡ false) × AsksForBlocks (Some (Asks Asked tag words)))
one_answered laws keeps g chain tag words text other (inl x) (inl y) =
    elim (one_reply keeps g x.0 chain text other x.2
    (subst (λ (q : Question). IsReply keeps g q chain other) (laws.question words y.0 x.0 y.1 x.1) y.2)) [
      | inl same ↦ inl same
      | inr read ↦ inr (read.0, (x.0, x.1, read.1))
    ]
one_answered laws keeps g chain tag words text other (inl x) (inr y) = absurd (y.0 x.0 x.1)
one_answered laws keeps g chain tag words text other (inr x) (inl y) = absurd (x.0 y.0 y.1)
one_answered laws keeps g chain tag words text other (inr x) (inr y) = inl (x.1 ∙ sym y.1)

-- ---- an answer

one_sighted : (log : LogGenesis) (org : Option Bytes) (chain : Chain) (words text other : Bytes) → IsSighted log org chain words text →
    IsSighted log org chain words other → text ≡ other
one_sighted log None chain words text other x y = x ∙ sym y
one_sighted log (Some org) chain words text other x y =
    x.2 ∙ ap (λ (c : Option Committed). seen_or_bad log org chain c) (one_block chain words x.0 y.0 x.1 y.1) ∙ sym y.2

-- one text is said, unless the line asks for blocks and it is not known what the file gives back
abbrev AreOneText : Peer → Request → (tag words text other : Bytes) → Type 0
AreOneText p request tag words text other = (text ≡ other) ⊎ ((p.keeps ≡ false) × AsksForBlocks (Some (Asks request tag words)))

one_said : AreSpellings → (p : Peer) (chain : Chain) (request : Request) (tag words text other : Bytes) → Says p chain request words text →
    Says p chain request words other → AreOneText p request tag words text other
one_said laws p chain (Call agreed) tag words text other x y = inl (one_called laws p.log.genesis p.org agreed chain words text other x y)
one_said laws p chain Asked tag words text other x y = one_answered laws p.keeps p.log.genesis chain tag words text other x y
one_said laws p chain Seen tag words text other x y = inl (one_sighted p.log p.org chain words text other x y)

pub one_asked : AreSpellings → (p : Peer) (number : ℕ) (chain : Chain) (l : Bytes) (request : Request) (tag words text other : Bytes) →
    DoesAsked p number chain l request tag words text → DoesAsked p number chain l request tag words other → AreOneText p request tag words text other
one_asked laws p number chain l request tag words text other (inl x) (inl y) =
    elim (one_said laws p chain request tag words x.1.0 y.1.0 x.1.1 y.1.1) [
      | inl said ↦ inl (
          x.1.2
          ∙ ap (λ (s : Bytes). codes "answer " ++ (tag ++ (codes " " ++ (decimal (length chain) ++ (codes " " ++ (s ++ codes "\n")))))) said
          ∙ sym y.1.2
          )
      | inr read ↦ inr read
    ]
one_asked laws p number chain l request tag words text other (inl x) (inr y) = absurd (y.0 x.0)
one_asked laws p number chain l request tag words text other (inr x) (inl y) = absurd (x.0 y.0)
one_asked laws p number chain l request tag words text other (inr x) (inr y) = inl (x.1 ∙ sym y.1)
