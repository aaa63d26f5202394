use Rattle.std.proofs.Common.{◌≡◌, ◌∙◌, ◌-◌, ◌<◌, ℕ, List, Option, Some, length, get_or, suc, slice_get, option_map, min, refl, ap, sym, arith}
use Rattle.std.proofs.lemmas.List.{get_or_read, length-map}
use Rattle.std.specs.declared.sync.Arc.{Arc}
use Rattle.std.specs.declared.alloc.Global.{Global}
use Rattle.std.proofs.lemmas.Option.{slice_get-map, slice_get_read}
use Rattle.ledger_model.specs.Chain.{Committed}
use Rattle.world_state.specs.Amending.{amended_at}
use Rattle.world_state.specs.Shared.{blocks_in}
use Rattle.world_state.proofs.Amended.{last_told, length-amended, number_below, numbered}
use Rattle.world_state.proofs.shared_blocks.SharedBlocks.last_amending.Goals as goal

pub returns-then-number-eq0 : goal.returns-then-number-eq0
returns-then-number-eq0 c =
    let s = c.self.inside in
    let chain = blocks_in s.shared.items in
    let ns = s.amended.items in
    let within = c.min-height.result in
    let len : c.len.result ≡ length ns = omega (arith, c.len.ensures, s.amended.ok.0) in
    let least : within ≡ min c.args.height (length ns) = c.min-height.ensures ∙ ap (λ (k : ℕ). min c.args.height k) len in
    let number : c.index.result.now ≡ get_or ns (within - 1) 0 = get_or_read ns (within - 1) c.index.result.now (omega (arith, s.amended.ok.0)) c.index.ensures 0 in
    let none : 0 ≡ get_or ns (within - 1) 0 = omega (arith, number) in
    ap (λ (n : ℕ). numbered chain n) none ∙ last_told chain c.args.self.now ns c.args.height within c.self.invariant c.self.view_is least (λ e. omega arith)

pub index-requires-2 : goal.index-requires-2
index-requires-2 c =
    let s = c.self.inside in
    let chain = blocks_in s.shared.items in
    let ns = s.amended.items in
    let place = c.min-height.result - 1 in
    let number : c.index.result.now ≡ get_or ns place 0 = get_or_read ns place c.index.result.now (omega (arith, s.amended.ok.0)) c.index.ensures 0 in
    let same : get_or ns place 0 ≡ get_or (amended_at 1 0 chain) place 0 = ap (λ (xs : List ℕ). get_or xs place 0) c.self.invariant in
    let few = ap (λ (xs : List ℕ). length xs) c.self.invariant ∙ length-amended 1 0 chain in
    let low = number_below 1 0 place chain (omega arith) (omega (arith, few, s.amended.ok.0)) in
    omega (arith, number, same, low, length-map s.shared.items (λ (a : Arc Committed Global). a.value), s.shared.ok.0)

pub returns : goal.returns
returns c =
    let s = c.self.inside in
    let chain = blocks_in s.shared.items in
    let ns = s.amended.items in
    let within = c.min-height.result in
    let n = c.index.result.now in
    let len : c.len.result ≡ length ns = omega (arith, c.len.ensures, s.amended.ok.0) in
    let least : within ≡ min c.args.height (length ns) = c.min-height.ensures ∙ ap (λ (k : ℕ). min c.args.height k) len in
    let number : n ≡ get_or ns (within - 1) 0 = get_or_read ns (within - 1) n (omega (arith, s.amended.ok.0)) c.index.ensures 0 in
    let same : get_or ns (within - 1) 0 ≡ get_or (amended_at 1 0 chain) (within - 1) 0 = ap (λ (xs : List ℕ). get_or xs (within - 1) 0) c.self.invariant in
    let few = ap (λ (xs : List ℕ). length xs) c.self.invariant ∙ length-amended 1 0 chain in
    let below = number_below 1 0 (within - 1) chain (omega arith) (omega (arith, few, s.amended.ok.0)) in
    let low : n - 1 < length s.shared.items =
    omega (arith, number, same, below, length-map s.shared.items (λ (a : Arc Committed Global). a.value)) in
    let arc = c.index-2.result.now in
    let there : slice_get s.shared.items (n - 1) ≡ Some arc = slice_get_read s.shared.items (length s.shared.items) (n - 1) arc refl low c.index-2.ensures in
    let behind : n ≡ suc (n - 1) = omega arith in
    let own : numbered chain n ≡ Some c.deref.result.now =
    ap (λ (k : ℕ). numbered chain k) behind ∙ slice_get-map (λ (a : Arc Committed Global). a.value) s.shared.items (n - 1)
    ∙ ap (λ (o : Option (Arc Committed Global)). option_map (λ (a : Arc Committed Global). a.value) o) there ∙ ap (λ (b : Committed). Some b) (sym c.deref.ensures) in
    sym own ∙ ap (λ (k : ℕ). numbered chain k) number
    ∙ last_told chain c.args.self.now ns c.args.height within c.self.invariant c.self.view_is least (λ e. omega arith)
