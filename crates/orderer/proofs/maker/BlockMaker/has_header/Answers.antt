use Rattle.std.proofs.Common.{◌≡◌, ◌≤◌, ◌-◌, ℕ, List, None, Some, ap, arith, length, refl, slice_get, sym, ◌∙◌}
use Rattle.std.proofs.lemmas.Option.{slice_get_past, slice_get_read}
use Rattle.std.proofs.lemmas.Slice.Eq.{bytes_eq-Decides}
use Rattle.orderer.specs.Headers.{hash_at, hashes_of}
use Rattle.orderer.proofs.Heading.{hash_there}
use Rattle.orderer.proofs.maker.BlockMaker.has_header.Goals as goal

pub returns-in-Some : goal.returns-in-Some
returns-in-Some c =
    let hashes = c.deref.result.now in
    let chain = c.self.inside.chain.blocks in
    let own = c.in-Some.own.now in
    let place = c.args.number - 1 in
    let there = c.in-Some.ensures.lookup.3 in
    let at : slice_get hashes place ≡ Some own = slice_get_read hashes (length hashes) place own refl there.0 (there.1 own) in
    let are : hashes ≡ hashes_of chain = c.deref.ensures.value ∙ c.self.invariant.2 in
    let some : 1 ≤ c.args.number = let f = c.if-number-eq0.false in omega arith in
    let stands : hash_at chain c.args.number ≡ Some own =
    sym (hash_there chain c.args.number some) ∙ ap (λ (hs : List (List ℕ)). slice_get hs place) (sym are) ∙ at in
    let decides = bytes_eq-Decides own c.args.hash.now in
    rw (← c.self.view_is) (
      (λ yes. stands ∙ ap Some (decides.0 (sym c.eq.ensures ∙ yes))),
      (λ is. let both : Some own ≡ Some c.args.hash.now = sym stands ∙ is in let same : own ≡ c.args.hash.now = cc in c.eq.ensures ∙ decides.1 same),
    )

pub returns-in-None : goal.returns-in-None
returns-in-None c =
    let hashes = c.deref.result.now in
    let chain = c.self.inside.chain.blocks in
    let place = c.args.number - 1 in
    let none : slice_get hashes place ≡ None = slice_get_past hashes place c.in-None.ensures.lookup.3 in
    let are : hashes ≡ hashes_of chain = c.deref.ensures.value ∙ c.self.invariant.2 in
    let some : 1 ≤ c.args.number = let f = c.if-number-eq0.false in omega arith in
    let stands : hash_at chain c.args.number ≡ None =
    sym (hash_there chain c.args.number some) ∙ ap (λ (hs : List (List ℕ)). slice_get hs place) (sym are) ∙ none in
    rw (← c.self.view_is) ((λ yes. absurd (cc)), (λ is. let both : None ≡ Some c.args.hash.now = sym stands ∙ is in absurd (cc)))
