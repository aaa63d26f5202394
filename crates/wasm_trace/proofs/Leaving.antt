-- Branches and returns, after some levels are popped.
use Rattle.std.proofs.Common.{◌≡◌, ℕ, Bool, true, false, None, List, [], ◌∷◌, ◌++◌, refl, sym, ap, ◌∙◌, subst}
use Rattle.wasm_ast.specs.Code.{BlockType, Code}
use Rattle.wasm_meaning.specs.Values.{Val, World, top_of}
use Rattle.wasm_trace.specs.declared.parts.Value.{Value}
use Rattle.wasm_trace.specs.declared.parts.Level.{Level}
use Rattle.wasm_trace.specs.declared.configuration.Configuration.{Configuration}
use Rattle.wasm_trace.specs.Reduction.{Seq, plain, values, conf, at, To, Breaks, Leaves, with_found}
use Rattle.wasm_trace.specs.Context.{InLabel, InFrame, plug}
use Rattle.wasm_trace.specs.View.{vals, stack_of, layer_of, layers, out_of, outward, world, Kept}
use Rattle.wasm_trace.specs.Ending.{IsStuck}
use Rattle.wasm_trace.proofs.Stepping.{out_label, out_frame, bad, resumed, not_resumed}

-- a branch out of k labels more is one out of j of these levels
abbrev pub BreaksOn : (R : Type 0) → Configuration → Configuration → ℕ → ℕ → Type 0
BreaksOn R M S k j = (f : ℕ) (s loc : List Val) (w : World R) →
    out_of (layers M.levels.items) f loc w (Breaks k f s) ≡ out_of (layers S.levels.items) f loc w (Breaks j f s)

abbrev pub LeavesOn : (R : Type 0) → Configuration → Configuration → Type 0
LeavesOn R M S = (f : ℕ) (s loc : List Val) (w : World R) →
    out_of (layers M.levels.items) f loc w (Leaves f s) ≡ out_of (layers S.levels.items) f loc w (Leaves f s)

kept_there : (t : BlockType) (vs bs kept : List Value) (b : Bool) → b ≡ true → Kept t vs bs b kept → Kept t vs bs true kept
kept_there t vs bs kept b e h = subst (λ b. Kept t vs bs b kept) e h

module _ {R : Type 0} where
  pub frame_broken : (M S : Configuration) (ls : List Level) (m : Level) (t : BlockType) (l' s : List Val) (i : Seq) (k j : ℕ) (records : R) →
      BreaksOn R M S k j → S.levels.items ≡ ls ++ m ∷ [] → layer_of m ≡ InFrame t l' s i →
      IsStuck (outward M records (Breaks k M.fuel (stack_of M.stack.items)))
  frame_broken M S ls m t l' s i k j records inv e q =
      bad (layers ls) M.fuel l' (world M records) (outward M records (Breaks k M.fuel (stack_of M.stack.items)))
      (inv M.fuel (stack_of M.stack.items) (vals M.locals.items) (world M records) ∙
      out_frame S.levels.items ls m t l' s i (Breaks j M.fuel (stack_of M.stack.items)) M.fuel (vals M.locals.items) (world M records) e q)

  -- at the label that a branch goes to
  at_label : (M S : Configuration) (ls : List Level) (m : Level) (t : BlockType) (c : Code) (s : List Val) (i : Seq) (k j : ℕ) (records : R) →
      BreaksOn R M S k j → j ≡ 0 → S.levels.items ≡ ls ++ m ∷ [] → layer_of m ≡ InLabel t c s i →
      outward M records (Breaks k M.fuel (stack_of M.stack.items)) ≡
      out_of (layers ls) M.fuel (vals M.locals.items) (world M records)
      (with_found (top_of t (stack_of M.stack.items)) (λ r. at M.fuel (vals M.locals.items) (world M records) s (values r (plain c i))))
  at_label M S ls m t c s i k j records inv z e q =
      inv M.fuel (stack_of M.stack.items) (vals M.locals.items) (world M records) ∙
      ap (λ j. out_of (layers S.levels.items) M.fuel (vals M.locals.items) (world M records) (Breaks j M.fuel (stack_of M.stack.items))) z ∙
      out_label S.levels.items ls m t c s i (Breaks 0 M.fuel (stack_of M.stack.items)) M.fuel (vals M.locals.items) (world M records) e q

  pub label_missing : (M S : Configuration) (ls : List Level) (m : Level) (t : BlockType) (c : Code) (s : List Val) (i : Seq) (k j : ℕ) (bs kept : List Value)
      (b : Bool) (records : R) → S ≡ record M { levels = S.levels } → BreaksOn R M S k j → j ≡ 0 → S.levels.items ≡ ls ++ m ∷ [] →
      layer_of m ≡ InLabel t c s i → b ≡ false → Kept t S.stack.items bs b kept → IsStuck (outward M records (Breaks k M.fuel (stack_of M.stack.items)))
  label_missing M S ls m t c s i k j bs kept b records u inv z e q n h =
      bad (layers ls) M.fuel (vals M.locals.items) (world M records) (outward M records (Breaks k M.fuel (stack_of M.stack.items)))
      (at_label M S ls m t c s i k j records inv z e q ∙
      not_resumed (layers ls) M.fuel (vals M.locals.items) (world M records) (top_of t (stack_of M.stack.items)) s (plain c i)
      (ap (λ m. top_of t (stack_of m.stack.items)) (sym u) ∙ subst (λ b. Kept t S.stack.items bs b kept) n h))

  pub label_landed : (M S : Configuration) (ls : List Level) (m : Level) (t : BlockType) (c : Code) (i : Seq) (k j : ℕ) (bs kept : List Value) (b : Bool)
      (records : R) → S ≡ record M { levels = S.levels } → BreaksOn R M S k j → j ≡ 0 → S.levels.items ≡ ls ++ m ∷ [] →
      layer_of m ≡ InLabel t c (stack_of bs) i → b ≡ true → Kept t S.stack.items bs b kept →
      outward M records (Breaks k M.fuel (stack_of M.stack.items)) ≡
      To (plug (layers ls) (conf S.fuel (vals S.locals.items) (world S records) (values (stack_of kept) (plain c i))))
  label_landed M S ls m t c i k j bs kept b records u inv z e q n h =
      let there = kept_there t S.stack.items bs kept b n h in
      at_label M S ls m t c (stack_of bs) i k j records inv z e q ∙
      resumed (layers ls) M.fuel (vals M.locals.items) (world M records) (top_of t (stack_of M.stack.items)) there.0 (stack_of bs) kept (plain c i)
      (ap (λ m. top_of t (stack_of m.stack.items)) (sym u) ∙ there.1) there.2 ∙
      ap (λ m. To (plug (layers ls) (conf m.fuel (vals m.locals.items) (world m records) (values (stack_of kept) (plain c i))))) (sym u)

  pub loop_landed : (M S : Configuration) (ls : List Level) (m : Level) (c : Code) (i : Seq) (k j : ℕ) (bs : List Value) (records : R) →
      S ≡ record M { levels = S.levels } → BreaksOn R M S k j → j ≡ 0 → S.levels.items ≡ ls ++ m ∷ [] → layer_of m ≡ InLabel None c (stack_of bs) i →
      outward M records (Breaks k M.fuel (stack_of M.stack.items)) ≡
      To (plug (layers ls) (conf S.fuel (vals S.locals.items) (world S records) (values (stack_of bs) (plain c i))))
  loop_landed M S ls m c i k j bs records u inv z e q =
      label_landed M S ls m None c i k j bs bs true records u inv z e q refl ([], refl, refl)

  -- at the frame that a return leaves
  at_frame : (M S : Configuration) (ls : List Level) (m : Level) (t : BlockType) (l' s : List Val) (i : Seq) (records : R) → LeavesOn R M S →
      S.levels.items ≡ ls ++ m ∷ [] → layer_of m ≡ InFrame t l' s i →
      outward M records (Leaves M.fuel (stack_of M.stack.items)) ≡
      out_of (layers ls) M.fuel l' (world M records) (with_found (top_of t (stack_of M.stack.items)) (λ r. at M.fuel l' (world M records) s (values r i)))
  at_frame M S ls m t l' s i records inv e q =
      inv M.fuel (stack_of M.stack.items) (vals M.locals.items) (world M records) ∙
      out_frame S.levels.items ls m t l' s i (Leaves M.fuel (stack_of M.stack.items)) M.fuel (vals M.locals.items) (world M records) e q

  pub result_missing : (M S : Configuration) (ls : List Level) (m : Level) (t : BlockType) (l' s : List Val) (i : Seq) (bs kept : List Value) (b : Bool)
      (records : R) → S ≡ record M { levels = S.levels } → LeavesOn R M S → S.levels.items ≡ ls ++ m ∷ [] → layer_of m ≡ InFrame t l' s i → b ≡ false →
      Kept t S.stack.items bs b kept → IsStuck (outward M records (Leaves M.fuel (stack_of M.stack.items)))
  result_missing M S ls m t l' s i bs kept b records u inv e q n h =
      bad (layers ls) M.fuel l' (world M records) (outward M records (Leaves M.fuel (stack_of M.stack.items)))
      (at_frame M S ls m t l' s i records inv e q ∙
      not_resumed (layers ls) M.fuel l' (world M records) (top_of t (stack_of M.stack.items)) s i
      (ap (λ m. top_of t (stack_of m.stack.items)) (sym u) ∙ subst (λ b. Kept t S.stack.items bs b kept) n h))

  pub returned : (M S : Configuration) (ls : List Level) (m : Level) (t : BlockType) (l' : List Val) (i : Seq) (bs kept : List Value) (b : Bool) (records : R) →
      S ≡ record M { levels = S.levels } → LeavesOn R M S → S.levels.items ≡ ls ++ m ∷ [] → layer_of m ≡ InFrame t l' (stack_of bs) i → b ≡ true →
      Kept t S.stack.items bs b kept →
      outward M records (Leaves M.fuel (stack_of M.stack.items)) ≡ To (plug (layers ls) (conf S.fuel l' (world S records) (values (stack_of kept) i)))
  returned M S ls m t l' i bs kept b records u inv e q n h =
      let there = kept_there t S.stack.items bs kept b n h in
      at_frame M S ls m t l' (stack_of bs) i records inv e q ∙
      resumed (layers ls) M.fuel l' (world M records) (top_of t (stack_of M.stack.items)) there.0 (stack_of bs) kept i
      (ap (λ m. top_of t (stack_of m.stack.items)) (sym u) ∙ there.1) there.2 ∙
      ap (λ m. To (plug (layers ls) (conf m.fuel l' (world m records) (values (stack_of kept) i)))) (sym u)
