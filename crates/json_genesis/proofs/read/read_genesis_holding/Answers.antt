use Rattle.std.proofs.Common.{◌∙◌, List, ℕ, ap}
use Rattle.std.proofs.lemmas.Result.{IfErr-weaker, IfOk-weaker}
use Rattle.sha2.specs.Sha256.{sha256}
use Rattle.json_genesis.proofs.OfTexts.{of_text}
use Rattle.json_genesis.proofs.Opens.{spelled_opens}
use Rattle.json_genesis.proofs.read.read_genesis_holding.Goals as goal

pub returns-in-Ok-clause-ok : goal.returns-in-Ok-clause-ok
returns-in-Ok-clause-ok c =
    let digest = c.digest-ledger.ensures ∙ ap (λ (bytes : List ℕ). sha256 bytes) c.as_bytes.ensures.value in
    IfOk-weaker c.genesis_of.result _ _ (λ g spelled. (_, c.in-Ok.ensures.ok, spelled)) (rw digest at c.genesis_of.ensures.ok)

pub returns-in-Ok-clause-refused : goal.returns-in-Ok-clause-refused
returns-in-Ok-clause-refused c =
    let digest = c.digest-ledger.ensures ∙ ap (λ (bytes : List ℕ). sha256 bytes) c.as_bytes.ensures.value in
    IfErr-weaker c.genesis_of.result _ _ (λ r none. of_text _ _ _ r c.in-Ok.ensures.ok none) (rw digest at c.genesis_of.ensures.refused)

pub returns-in-Ok-clause-opening : goal.returns-in-Ok-clause-opening
returns-in-Ok-clause-opening c =
    let digest = c.digest-ledger.ensures ∙ ap (λ (bytes : List ℕ). sha256 bytes) c.as_bytes.ensures.value in
    IfOk-weaker c.genesis_of.result _ _ (λ g spelled. spelled_opens _ _ g (_, c.in-Ok.ensures.ok, spelled)) (rw digest at c.genesis_of.ensures.ok)
