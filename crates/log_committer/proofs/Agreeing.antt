-- Who receives the same blocks has the same chain.
use Rattle.std.proofs.Common.{◌≡◌, ℕ, suc, List, [], ◌∷◌, ◌++◌, length, Some, refl, sym, ap, subst, ◌∙◌, append_assoc, append-nil, zero-add, option_map}
use Rattle.std.proofs.Common.{slice_get}
use Rattle.std.proofs.lemmas.List.{map-append}
use Rattle.fab_types.specs.declared.block.Block.{Block}
use Rattle.ledger_model.specs.Chain.{Chain, Committed}
use Rattle.ledger_model.specs.Judged.{BlockRule, judge_onto}
use Rattle.ledger_model.specs.Serial.{IsPrefix}
use Rattle.ledger_model.proofs.Judged.{judged_onto-append, judged_grows, length-judged_onto}
use Rattle.committer.specs.Fits.{Fits, blocks_of}
use Rattle.ledger_setting.specs.Judging.{next_by}
use Rattle.log_committer.specs.Committing.{FitEach, Commits, IsKnown, header_hash, own_hash}

-- a chain with a block more has that block
pub blocks_more : (chain : Chain) (c : Committed) → blocks_of (chain ++ c ∷ []) ≡ blocks_of chain ++ c.block ∷ []
blocks_more chain c = map-append (λ (x : Committed). x.block) chain (c ∷ [])

-- a chain has the blocks that were put on it
pub blocks_onto : (rule : BlockRule) (chain : Chain) (blocks : List Block) → blocks_of (judge_onto rule chain blocks) ≡ blocks_of chain ++ blocks
blocks_onto rule chain [] = sym (append-nil (blocks_of chain))
blocks_onto rule chain (b ∷ bs) =
    blocks_onto rule (chain ++ next_by rule chain b ∷ []) bs ∙ ap (λ (front : List Block). front ++ bs) (blocks_more chain (next_by rule chain b)) ∙
    append_assoc (blocks_of chain) (b ∷ []) bs

-- ---- blocks that fit

fit_append : (before front back : List Block) → FitEach before front → FitEach (before ++ front) back → FitEach before (front ++ back)
fit_append before [] back f b = subst (λ (x : List Block). FitEach x back) (append-nil before) b
fit_append before (x ∷ xs) back f b =
    let behind = subst (λ (y : List Block). FitEach y back) (sym (append_assoc before (x ∷ []) xs)) b in
    (f.0, fit_append (before ++ x ∷ []) xs back f.1 behind)

fit_at : (before front back : List Block) (b : Block) → FitEach before (front ++ b ∷ back) → Fits (before ++ front) b
fit_at before [] back b h = subst (λ (x : List Block). Fits x b) (sym (append-nil before)) h.0
fit_at before (x ∷ xs) back b h = subst (λ (y : List Block). Fits y b) (append_assoc before (x ∷ []) xs) (fit_at (before ++ x ∷ []) xs back b h.1)

-- ---- chains

pub one_chain : (rule : BlockRule) (chain new other : Chain) (blocks : List Block) → Commits rule chain blocks new → Commits rule chain blocks other →
    new ≡ other
one_chain rule chain new other blocks a b = a.1 ∙ sym b.1

pub begins : (rule : BlockRule) (chain new behind : Chain) (front back : List Block) → Commits rule chain (front ++ back) new →
    Commits rule chain front behind →
    IsPrefix behind new
begins rule chain new behind front back all few =
    let more = judged_grows rule behind back in
    (more.0, more.1 ∙ ap (λ (c : Chain). judge_onto rule c back) few.1 ∙ sym (judged_onto-append rule chain front back) ∙ sym all.1)

pub joined : (rule : BlockRule) (chain between new : Chain) (front back : List Block) → Commits rule chain front between → Commits rule between back new →
    Commits rule chain (front ++ back) new
joined rule chain between new front back f b =
    let blocks = ap (λ (c : Chain). blocks_of c) f.1 ∙ blocks_onto rule chain front in (
      fit_append (blocks_of chain) front back f.0 (subst (λ (x : List Block). FitEach x back) blocks b.0),
      b.1 ∙ ap (λ (c : Chain). judge_onto rule c back) f.1 ∙ sym (judged_onto-append rule chain front back),
    )

-- ---- blocks that come again

at_seam : (front back : Chain) (c : Committed) → slice_get (front ++ c ∷ back) (length front) ≡ Some c
at_seam [] back c = refl
at_seam (x ∷ xs) back c = at_seam xs back c

-- behind these blocks the next one stands at the number that comes next
stands : (rule : BlockRule) (front back : List Block) (b : Block) →
    own_hash (judge_onto rule [] (front ++ b ∷ back)) (suc (length front)) ≡ Some (header_hash b)
stands rule front back b =
    let mid = judge_onto rule [] front in
    let own = next_by rule mid b in
    let more = judged_grows rule (mid ++ own ∷ []) back in
    let place : length mid ≡ length front = length-judged_onto rule [] front ∙ zero-add (length front) in
    let all = judged_onto-append rule [] front (b ∷ back) ∙ sym more.1 ∙ append_assoc mid (own ∷ []) more.0 in
    let here : slice_get (judge_onto rule [] (front ++ b ∷ back)) (length front) ≡ Some own =
    ap (λ (c : Chain). slice_get c (length front)) all ∙ ap (λ (n : ℕ). slice_get (mid ++ own ∷ more.0) n) (sym place) ∙ at_seam mid more.0 own
    in
    ap (option_map (λ c. header_hash c.block)) here

pub known_again : (rule : BlockRule) (new : Chain) (front back : List Block) (b : Block) → Commits rule [] (front ++ b ∷ back) new → IsKnown new b
known_again rule new front back b h =
    let number = (fit_at [] front back b h.0).number in
    ap (λ (n : ℕ). own_hash new n) number ∙ ap (λ (c : Chain). own_hash c (suc (length front))) h.1 ∙ stands rule front back b
