-- What is known of blocks that were seen one after another.
use Rattle.std.proofs.Common.{◌≡◌, ◌∙◌, ◌+◌, ◌++◌, ◌∷◌, [], ℕ, Bool, true, false, cond, Option, Some, None, option_map, refl, sym, ap, subst}
use Rattle.std.specs.List.{find}
use Rattle.std.specs.Option.{option_or}
use Rattle.std.proofs.lemmas.List.Folds.{find-append}
use Rattle.fab_types.specs.Committed.{Committed}
use Rattle.ledger_model.specs.Chain.{Chain}
use Rattle.chaincode_book.specs.Books.{Book}
use Rattle.fabric_core.specs.declared.auditing.Auditing.{Auditing}
use Rattle.cli_lines.specs.Missing.{block_needs_module, first_missing}
use Rattle.cli_show.specs.Reruns.{IsRerun, next_missing}

abbrev number_of : Committed → ℕ
number_of c = c.block.header.number

of_next : (o : Option Committed) (needs : Bool) (c : Committed) →
    option_map number_of (option_or o (cond needs (Some c) None)) ≡ next_missing (option_map number_of o) needs (number_of c)
of_next (Some x) needs c = refl
of_next None true c = refl
of_next None false c = refl

-- the first of one block more
pub missing_more : (book : Book) (chain : Chain) (c : Committed) (found next : Option ℕ) → found ≡ first_missing book chain →
    next ≡ next_missing found (block_needs_module book c) c.block.header.number → next ≡ first_missing book (chain ++ c ∷ [])
missing_more book chain c found next was is =
    let test = block_needs_module book in
    is ∙ ap (λ (o : Option ℕ). next_missing o (test c) (number_of c)) was
    ∙ sym (ap (λ (o : Option Committed). option_map number_of o) (find-append test chain (c ∷ [])) ∙ of_next (find test chain) (test c) c)

-- it is known by a book, which is this one
pub at_book : (audit : Auditing) (missing : Option ℕ) (chain : Chain) {a b : Book} → a ≡ b → IsRerun a audit missing chain → IsRerun b audit missing chain
at_book audit missing chain same is = subst (λ (k : Book). IsRerun k audit missing chain) same is
