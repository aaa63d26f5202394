-- Code that is spelled within the limits is read.
use Rattle.std.proofs.Common.{◌≡◌, ℕ, zero, suc, ◌+◌, ◌-◌, ◌<◌, ◌≤◌, true, false, eqb, List, [], ◌∷◌, ◌++◌, inl, inr, Option, Some, refl, sym, ap, ap₂, subst}
use Rattle.std.proofs.Common.{◌∙◌, append_assoc, arith}
use Rattle.wasm_profile.specs.declared.profile.Profile.{Profile}
use Rattle.grammar.specs.Reads.{Reads}
use Rattle.wasm_ast.specs.Code.{BlockType, Code, End, Do, Block, Loop, If, code_size}
use Rattle.wasm_decode.specs.OpReading.{plain_at}
use Rattle.wasm_decode.specs.TypeSpelling.{IsBlockType}
use Rattle.wasm_decode.specs.CodeSpelling.{nesting, IsCode, IsExpression}
use Rattle.wasm_decode.specs.CodeReading.{Instructions, Step, Inner, append, closed_at, block_at, conditional_at, step_at, is_last, code_at, body_at, below}
use Rattle.wasm_decode.specs.CodeReading.{expression_at}
use Rattle.grammar.specs.Laws.Steps.{bind_some}
use Rattle.std.proofs.lemmas.Option.{some_pair_parts}
use Rattle.wasm_decode.proofs.TypeLaws.{block_type_reads}
use Rattle.wasm_decode.proofs.OpLaws.{plain_again}
use Rattle.wasm_decode.proofs.CodeTakes.{IsLast, closed_body}
use Rattle.wasm_decode.proofs.Loop.{differs}
use Rattle.wasm_decode.proofs.Turns.{body_is}

last_is : (op : ℕ) → IsLast op → is_last op ≡ true
last_is op (inl e) = ap is_last e
last_is op (inr e) = ap is_last e

abbrev ended : Code → ℕ → ℕ → Instructions
ended c last left = record { code = c; last = last; left = left }

abbrev stepped : Code → ℕ → Step
stepped c left = record { code = c; left = left }

module _ (one : ℕ → ℕ → List ℕ → Option (Step × List ℕ)) where
  last_turn : (n left last : ℕ) (rest : List ℕ) → 0 < n → IsLast last → code_at one n left (last ∷ rest) ≡ Some (ended End last left, rest)
  unfolding code_at
  last_turn zero left last rest lt h = absurd (omega arith)
  last_turn (suc n) left last rest lt h = rw (last_is last h) refl

  one_turn : (n left op : ℕ) (bytes : List ℕ) (i : Step) (mid : List ℕ) (r : Instructions) (rest : List ℕ) → left < n → 0 < left → is_last op ≡ false →
      one op (left - 1) bytes ≡ Some (i, mid)
      → code_at one (n - 1) i.left mid ≡ Some (r, rest) →
      code_at one n left (op ∷ bytes) ≡ Some (record { code = append i.code r.code; last = r.last; left = r.left }, rest)
  unfolding code_at
  one_turn zero left op bytes i mid r rest lt some goes_on first second = absurd (omega arith)
  one_turn (suc n) left op bytes i mid r rest lt some goes_on first second =
      let k : suc n - 1 ≡ n = omega arith in
      let left_over : eqb left 0 ≡ false = differs left 0 (λ e. absurd (omega arith)) in
      rw (goes_on, left_over, first, subst (λ (m : ℕ). code_at one m i.left mid ≡ Some (r, rest)) k second) refl

closed_again : (inner : Inner) (left : ℕ) (b : Code) (m : ℕ) (bytes rest : List ℕ) → inner left bytes ≡ Some (ended b 0x0b m, rest) →
    closed_at inner left bytes ≡ Some (stepped b m, rest)
unfolding closed_at
closed_again inner left b m bytes rest h = rw h refl

block_again : (inner : Inner) (left : ℕ) (t : BlockType) (b : Code) (m : ℕ) (type bytes rest : List ℕ) → IsBlockType t type →
    inner left bytes ≡ Some (ended b 0x0b m, rest)
    → block_at inner left (type ++ bytes) ≡ Some (record { result = t; body = b; left = m }, rest)
unfolding block_at
block_again inner left t b m type bytes rest h k = rw (block_type_reads.again t type bytes tt h, closed_again inner left b m bytes rest k) refl

if_alone : (inner : Inner) (left : ℕ) (t : BlockType) (a : Code) (m : ℕ) (type bytes rest : List ℕ) → IsBlockType t type →
    inner left bytes ≡ Some (ended a 0x0b m, rest)
    → conditional_at inner left (type ++ bytes) ≡ Some (record { result = t; yes = a; no = End; left = m }, rest)
unfolding conditional_at
if_alone inner left t a m type bytes rest h k = rw (block_type_reads.again t type bytes tt h, k) refl

if_both : (inner : Inner) (left : ℕ) (t : BlockType) (a b : Code) (k m : ℕ) (type bytes middle rest : List ℕ) → IsBlockType t type →
    inner left bytes ≡ Some (ended a 0x05 k, middle) → inner k middle ≡ Some (ended b 0x0b m, rest)
    → conditional_at inner left (type ++ bytes) ≡ Some (record { result = t; yes = a; no = b; left = m }, rest)
unfolding conditional_at
if_both inner left t a b k m type bytes middle rest h first second =
    rw (block_type_reads.again t type bytes tt h, first, closed_again inner k b m middle rest second) refl

module _ (profile : Profile) where
  module _ (inner : Inner) (left : ℕ) (bytes rest : List ℕ) where
    plain_step : (op : ℕ) (c : Code) → eqb op 0x02 ≡ false → eqb op 0x03 ≡ false → eqb op 0x04 ≡ false → plain_at profile op bytes ≡ Some (c, rest) →
        step_at profile inner op left bytes ≡ Some (stepped c left, rest)
    unfolding step_at
    plain_step op c x y z h = rw (x, y, z, h) refl

    block_step : (t : BlockType) (b : Code) (m : ℕ) → block_at inner left bytes ≡ Some (record { result = t; body = b; left = m }, rest) →
        step_at profile inner 0x02 left bytes ≡ Some (stepped (Block t b End) m, rest)
    unfolding step_at
    block_step t b m h = rw h refl

    loop_step : (t : BlockType) (b : Code) (m : ℕ) → block_at inner left bytes ≡ Some (record { result = t; body = b; left = m }, rest) →
        step_at profile inner 0x03 left bytes ≡ Some (stepped (Loop t b End) m, rest)
    unfolding step_at
    loop_step t b m h = rw h refl

    if_step : (t : BlockType) (a b : Code) (m : ℕ) → conditional_at inner left bytes ≡ Some (record { result = t; yes = a; no = b; left = m }, rest) →
        step_at profile inner 0x04 left bytes ≡ Some (stepped (If t a b End) m, rest)
    unfolding step_at
    if_step t a b m h = rw h refl

  -- the text of a block: its opcode, its type, its bodies and what comes after it
  block_split : (op : ℕ) (text f g type k body back rest : List ℕ) → f ≡ op ∷ [] → g ≡ type ++ k → k ≡ body ++ back → text ≡ f ++ g →
      text ++ rest ≡ op ∷ (type ++ (body ++ (back ++ rest)))
  block_split op text f g type k body back rest p q r s =
      ap (λ (x : List ℕ). x ++ rest) (s ∙ ap₂ (λ (x y : List ℕ). x ++ y) p (q ∙ ap (λ (x : List ℕ). type ++ x) r))
      ∙ ap (λ (x : List ℕ). op ∷ x) (append_assoc type (body ++ back) rest ∙ ap (λ (x : List ℕ). type ++ x) (append_assoc body back rest))

  -- The last number is what is left in the end.
  pub code_again : (c : Code) (last d n left more : ℕ) (text rest : List ℕ) → IsLast last → IsCode profile last c text → nesting c ≤ d →
      more + code_size c ≡ left →
      left < n
      → code_at (step_at profile (below profile d)) n left (text ++ rest) ≡ Some (ended c last more, rest)
  code_again End last d n left more text rest il h le size lt =
      let same : left ≡ more = omega arith in
      let one = step_at profile (below profile d) in
      ap (λ (x : List ℕ). code_at one n left (x ++ rest)) h ∙ last_turn one n left last rest (omega arith) il ∙
      ap (λ (m : ℕ). Some (ended End last m, rest)) same
  code_again (Do o c) last d n left more text rest il h le size lt =
      let after = h.1 ++ rest in
      let p = plain_again profile o h.0 after h.2 in
      let one = step_at profile (below profile d) in
      let regrouped : text ++ rest ≡ p.opcode ∷ (p.after ++ after) =
      ap (λ (x : List ℕ). x ++ rest) h.4 ∙ append_assoc h.0 h.1 rest ∙ ap (λ (x : List ℕ). x ++ after) p.split in
      let first = plain_step (below profile d) (left - 1) (p.after ++ after) after p.opcode (Do o End) p.not_block p.not_loop p.not_if p.read in
      let second = code_again c last d (n - 1) (left - 1) more h.1 rest il h.3 le (omega arith) (omega arith) in
      ap (code_at one n left) regrouped ∙
      one_turn one n left p.opcode (p.after ++ after) (stepped (Do o End) (left - 1)) after (ended c last more) rest lt (omega arith) p.goes_on first second
  code_again (Block t b c) last zero n left more text rest il h le size lt = absurd (omega arith)
  code_again (Block t b c) last (suc d) n left more text rest il h le size lt =
      let q = h.3 in
      let r = q.3 in
      let m = more + code_size c in
      let after = r.1 ++ rest in
      let one = step_at profile (below profile (suc d)) in
      let inside : body_at profile d (left - 1) (r.0 ++ after) ≡ Some (ended b 0x0b m, after) =
      body_is profile d (left - 1) (r.0 ++ after) ∙
      code_again b 0x0b d (suc (left - 1)) (left - 1) m r.0 after (inl refl) r.2 (omega arith) (omega arith) (omega arith) in
      let first = block_step (body_at profile d) (left - 1) (q.0 ++ (r.0 ++ after)) after t b m
      (block_again (body_at profile d) (left - 1) t b m q.0 (r.0 ++ after) after q.2 inside) in
      let second = code_again c last (suc d) (n - 1) m more r.1 rest il r.3 (omega arith) refl (omega arith) in
      ap (code_at one n left) (block_split 0x02 text h.0 h.1 q.0 q.1 r.0 r.1 rest h.2 q.4 r.4 h.4)
      ∙ one_turn one n left 0x02 (q.0 ++ (r.0 ++ after)) (stepped (Block t b End) m) after (ended c last more) rest lt (omega arith) refl first second
  code_again (Loop t b c) last zero n left more text rest il h le size lt = absurd (omega arith)
  code_again (Loop t b c) last (suc d) n left more text rest il h le size lt =
      let q = h.3 in
      let r = q.3 in
      let m = more + code_size c in
      let after = r.1 ++ rest in
      let one = step_at profile (below profile (suc d)) in
      let inside : body_at profile d (left - 1) (r.0 ++ after) ≡ Some (ended b 0x0b m, after) =
      body_is profile d (left - 1) (r.0 ++ after) ∙
      code_again b 0x0b d (suc (left - 1)) (left - 1) m r.0 after (inl refl) r.2 (omega arith) (omega arith) (omega arith) in
      let first = loop_step (body_at profile d) (left - 1) (q.0 ++ (r.0 ++ after)) after t b m
      (block_again (body_at profile d) (left - 1) t b m q.0 (r.0 ++ after) after q.2 inside) in
      let second = code_again c last (suc d) (n - 1) m more r.1 rest il r.3 (omega arith) refl (omega arith) in
      ap (code_at one n left) (block_split 0x03 text h.0 h.1 q.0 q.1 r.0 r.1 rest h.2 q.4 r.4 h.4)
      ∙ one_turn one n left 0x03 (q.0 ++ (r.0 ++ after)) (stepped (Loop t b End) m) after (ended c last more) rest lt (omega arith) refl first second
  code_again (If t a b c) last zero n left more text rest il h le size lt = absurd (omega arith)
  code_again (If t a b c) last (suc d) n left more text rest il h le size lt =
      let q = h.3 in
      let r = q.3 in
      let m = more + code_size c in
      let after = r.1 ++ rest in
      let one = step_at profile (below profile (suc d)) in
      let inside : conditional_at (body_at profile d) (left - 1) (q.0 ++ (r.0 ++ after)) ≡ Some (record { result = t; yes = a; no = b; left = m }, after) =
      elim r.2 [
        | inl e ↦
            let none : code_size b ≡ 0 = ap code_size e.0 in
            let first : body_at profile d (left - 1) (r.0 ++ after) ≡ Some (ended a 0x0b m, after) =
            body_is profile d (left - 1) (r.0 ++ after) ∙
            code_again a 0x0b d (suc (left - 1)) (left - 1) m r.0 after (inl refl) e.1 (omega arith) (omega arith) (omega arith) in
            if_alone (body_at profile d) (left - 1) t a m q.0 (r.0 ++ after) after q.2 first ∙
            ap (λ (x : Code). Some (record { result = t; yes = a; no = x; left = m }, after)) (sym e.0)
        | inr p ↦
            let k = m + code_size b in
            let middle = p.1 ++ after in
            let first : body_at profile d (left - 1) (p.0 ++ middle) ≡ Some (ended a 0x05 k, middle) =
            body_is profile d (left - 1) (p.0 ++ middle) ∙
            code_again a 0x05 d (suc (left - 1)) (left - 1) k p.0 middle (inr refl) p.2 (omega arith) (omega arith) (omega arith) in
            let second : body_at profile d k middle ≡ Some (ended b 0x0b m, after) =
            body_is profile d k middle ∙ code_again b 0x0b d (suc k) k m p.1 after (inl refl) p.3 (omega arith) refl (omega arith) in
            let split : r.0 ++ after ≡ p.0 ++ middle = ap (λ (x : List ℕ). x ++ after) p.4 ∙ append_assoc p.0 p.1 after in
            ap (λ (x : List ℕ). conditional_at (body_at profile d) (left - 1) (q.0 ++ x)) split ∙
            if_both (body_at profile d) (left - 1) t a b k m q.0 (p.0 ++ middle) middle after q.2 first second
      ]
      in
      let first = if_step (body_at profile d) (left - 1) (q.0 ++ (r.0 ++ after)) after t a b m inside in
      let second = code_again c last (suc d) (n - 1) m more r.1 rest il r.3 (omega arith) refl (omega arith) in
      ap (code_at one n left) (block_split 0x04 text h.0 h.1 q.0 q.1 r.0 r.1 rest h.2 q.4 r.4 h.4)
      ∙ one_turn one n left 0x04 (q.0 ++ (r.0 ++ after)) (stepped (If t a b End) m) after (ended c last more) rest lt (omega arith) refl first second

  -- ---- an expression

  expression_takes : (bytes : List ℕ) (c : Code) (rest : List ℕ) → expression_at profile bytes ≡ Some (c, rest) →
      (text : List ℕ) × IsExpression profile c text × (bytes ≡ text ++ rest)
  unfolding expression_at
  expression_takes bytes c rest e =
      let s = bind_some (closed_at (body_at profile 64) 8192 bytes) (λ b. Some (b.0.code, b.1)) (c, rest) e in
      let parts = some_pair_parts s.0.0.code c s.0.1 rest s.2 in
      let t = closed_body profile 64 8192 bytes s.0.0 s.0.1 s.1 in (
        t.text,
        subst (λ (x : Code). IsExpression profile x t.text) parts.0 (omega (arith, t.nested), omega (arith, t.used), t.spelled),
        t.split ∙
            ap (λ (x : List ℕ). t.text ++ x) parts.1,
      )

  expression_again : (c : Code) (text rest : List ℕ) → IsExpression profile c text → expression_at profile (text ++ rest) ≡ Some (c, rest)
  unfolding expression_at
  expression_again c text rest h =
      let more = 8192 - code_size c in
      let inside : body_at profile 64 8192 (text ++ rest) ≡ Some (ended c 0x0b more, rest) =
      body_is profile 64 8192 (text ++ rest) ∙ code_again c 0x0b 64 (suc 8192) 8192 more text rest (inl refl) h.2 h.0 (omega (arith, h.1)) (omega arith) in
      rw (closed_again (body_at profile 64) 8192 c more (text ++ rest) rest inside) refl

  pub expression_reads : Reads (IsExpression profile) (expression_at profile)
  expression_reads = record {
    takes = λ bytes c rest e. let t = expression_takes bytes c rest e in (tt, t.0, t.1, t.2);
    again = λ c text rest _ h. expression_again c text rest h;
  }
