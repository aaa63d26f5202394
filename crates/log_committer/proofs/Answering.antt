-- A block comes to one answer, but for want of memory.
use Rattle.std.proofs.Common.{◌≡◌, ◌≢◌, ◌<◌, ℕ, zero, suc, List, [], ◌∷◌, length, Some, None, Result, Ok, Err, refl, sym, ap, ◌∙◌, arith, option_map}
use Rattle.std.proofs.lemmas.Option.{same_Some, slice_get_past}
use Rattle.fab_types.specs.declared.block.Block.{Block}
use Rattle.ledger_model.specs.Chain.{Bytes, Chain, Committed}
use Rattle.ledger_model.specs.Judged.{BlockRule}
use Rattle.committer.specs.Fits.{Fits, IsRefused, blocks_of}
use Rattle.committer.specs.declared.refusal.CommitRefusal.{CommitRefusal}
use Rattle.committer.specs.declared.refusal.CommitRefusal.TheVariants.{Number, PreviousHash, DataHash, AtEnd, Memory}
use Rattle.committer.proofs.Last.{length_map, only_memory}
use Rattle.log_committer.specs.Committing.{IsKnown, IsForked, Receives, for_memory, header_hash, own_hash}
use Rattle.log_committer.specs.declared.receiving.Received.{Received}
use Rattle.log_committer.specs.declared.receiving.Received.TheVariants as received
use Rattle.log_committer.specs.declared.refusal.ReceiveRefusal.{ReceiveRefusal}
use Rattle.log_committer.specs.declared.refusal.ReceiveRefusal.TheVariants.{Forked, Unfit}
use Rattle.log_committer.proofs.Agreeing.{one_chain}

-- ---- where a block stands

-- none stands above the height
none_above : (chain : Chain) (number : ℕ) → length chain < number → own_hash chain number ≡ None
none_above chain zero above = refl
none_above chain (suc place) above = ap (option_map (λ own. header_hash own.block)) (slice_get_past chain place (omega (arith, above)))

above_has_none : (chain : Chain) (b : Block) (own : Bytes) → length chain < b.header.number → own_hash chain b.header.number ≡ Some own → ⊥
above_has_none chain b own above at = let h = sym (none_above chain b.header.number above) ∙ at in cc

fits_above : (chain : Chain) (b : Block) → Fits (blocks_of chain) b → length chain < b.header.number
fits_above chain b fits = omega (arith, fits.number, length_map (λ (c : Committed). c.block) chain)

known_or_forked : (chain : Chain) (b : Block) → IsKnown chain b → IsForked chain b → ⊥
known_or_forked chain b known forked = forked.2 (same_Some forked.0 (header_hash b) (sym forked.1 ∙ known))

-- ---- causes

one_cause : (c d : CommitRefusal) (blocks : List Block) (b : Block) → c ≢ Memory → d ≢ Memory → IsRefused c blocks b → IsRefused d blocks b → c ≡ d
one_cause Memory d blocks b x y h k = absurd (x refl)
one_cause c Memory blocks b x y h k = absurd (y refl)
one_cause AtEnd AtEnd blocks b x y h k = refl
one_cause AtEnd Number blocks b x y h k = absurd omega (arith, h, k.0)
one_cause AtEnd PreviousHash blocks b x y h k = absurd omega (arith, h, k.0)
one_cause AtEnd DataHash blocks b x y h k = absurd omega (arith, h, k.0)
one_cause Number AtEnd blocks b x y h k = absurd omega (arith, k, h.0)
one_cause Number Number blocks b x y h k = refl
one_cause Number PreviousHash blocks b x y h k = absurd (h.1 k.1)
one_cause Number DataHash blocks b x y h k = absurd (h.1 k.1)
one_cause PreviousHash AtEnd blocks b x y h k = absurd omega (arith, k, h.0)
one_cause PreviousHash Number blocks b x y h k = absurd (k.1 h.1)
one_cause PreviousHash PreviousHash blocks b x y h k = refl
one_cause PreviousHash DataHash blocks b x y h k = absurd (h.2 k.2)
one_cause DataHash AtEnd blocks b x y h k = absurd omega (arith, k, h.0)
one_cause DataHash Number blocks b x y h k = absurd (k.1 h.1)
one_cause DataHash PreviousHash blocks b x y h k = absurd (k.2 h.2)
one_cause DataHash DataHash blocks b x y h k = refl

-- ---- answers

abbrev unfit : CommitRefusal → Result Received ReceiveRefusal
unfit c = Err (Unfit c)

pub one_answer : (rule : BlockRule) (old new other : Chain) (b : Block) (r s : Result Received ReceiveRefusal) → r ≢ for_memory → s ≢ for_memory →
    Receives rule old b r new → Receives rule old b s other → (r ≡ s) × (new ≡ other)
one_answer rule old new other b (Ok received.Committed) (Ok received.Committed) x y h k = (refl, one_chain rule old new other (b ∷ []) h k)
one_answer rule old new other b (Ok received.Committed) (Ok received.Known) x y h k = absurd (above_has_none old b _ (fits_above old b h.0.0) k.0)
one_answer rule old new other b (Ok received.Committed) (Err (Forked n)) x y h k = absurd (above_has_none old b _ (fits_above old b h.0.0) k.1.1)
one_answer rule old new other b (Ok received.Committed) (Err (Unfit c)) x y h k = absurd (y (ap unfit (only_memory c (blocks_of old) b h.0.0 k.1)))
one_answer rule old new other b (Ok received.Known) (Ok received.Committed) x y h k = absurd (above_has_none old b _ (fits_above old b k.0.0) h.0)
one_answer rule old new other b (Ok received.Known) (Ok received.Known) x y h k = (refl, h.1 ∙ sym k.1)
one_answer rule old new other b (Ok received.Known) (Err (Forked n)) x y h k = absurd (known_or_forked old b h.0 k.1)
one_answer rule old new other b (Ok received.Known) (Err (Unfit c)) x y h k = absurd (above_has_none old b _ k.0 h.0)
one_answer rule old new other b (Err (Forked m)) (Ok received.Committed) x y h k = absurd (above_has_none old b _ (fits_above old b k.0.0) h.1.1)
one_answer rule old new other b (Err (Forked m)) (Ok received.Known) x y h k = absurd (known_or_forked old b k.0 h.1)
one_answer rule old new other b (Err (Forked m)) (Err (Forked n)) x y h k =
    (ap (λ (i : ℕ). let r : Result Received ReceiveRefusal = Err (Forked i) in r) (h.0 ∙ sym k.0), h.2 ∙ sym k.2)
one_answer rule old new other b (Err (Forked m)) (Err (Unfit c)) x y h k = absurd (above_has_none old b _ k.0 h.1.1)
one_answer rule old new other b (Err (Unfit c)) (Ok received.Committed) x y h k = absurd (x (ap unfit (only_memory c (blocks_of old) b k.0.0 h.1)))
one_answer rule old new other b (Err (Unfit c)) (Ok received.Known) x y h k = absurd (above_has_none old b _ h.0 k.0)
one_answer rule old new other b (Err (Unfit c)) (Err (Forked n)) x y h k = absurd (above_has_none old b _ h.0 k.1.1)
one_answer rule old new other b (Err (Unfit c)) (Err (Unfit d)) x y h k =
    (ap unfit (one_cause c d (blocks_of old) b (λ e. x (ap unfit e)) (λ e. y (ap unfit e)) h.1 k.1), h.2 ∙ sym k.2)
