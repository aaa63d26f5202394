-- One flag for each transaction.
use Rattle.std.proofs.Common.{◌≡◌, ℕ, suc, Bool, List, [], ◌∷◌, ◌++◌, length, refl, ap, arith}
use Rattle.fab_types.specs.declared.edition.Edition.{Edition}
use Rattle.fab_types.specs.declared.proposal.Proposal.{Proposal}
use Rattle.ledger_model.specs.Chain.{Bytes, Envelope, Flag, Placed}
use Rattle.ledger_model.specs.Flags.{flag_at, flags_told}

pub length-told : (edition : Edition) (id : Proposal → Bytes) (before earlier : List Placed) (block place : ℕ) (es : List Envelope) (endorsed : List Bool) →
    length endorsed ≡ length es → length (flags_told edition id before earlier block place es endorsed) ≡ length es
length-told edition id before earlier block place [] endorsed same = refl
length-told edition id before earlier block place (e ∷ es) [] same = absurd omega (arith, same)
length-told edition id before earlier block place (e ∷ es) (b ∷ bs) same =
    let flag : Flag = flag_at edition id before earlier b e.payload in
    let here : Placed = record { version = record { block = block; place = place }; envelope = e; flag = flag } in
    ap suc (length-told edition id before (earlier ++ here ∷ []) block (suc place) es bs (omega (arith, same)))
