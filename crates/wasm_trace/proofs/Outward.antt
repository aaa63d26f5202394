-- A return passes a label, and so does a branch to one further out.
use Rattle.std.proofs.Common.{◌≡◌, ℕ, suc, None, List, [], ◌∷◌, ◌++◌, refl, ap, ◌∙◌, Bor}
use Rattle.std.specs.declared.vec.Vec.{Vec}
use Rattle.std.specs.declared.alloc.Global.{Global}
use Rattle.wasm_ast.specs.declared.body.Instr.{Instr}
use Rattle.wasm_ast.specs.Code as tree
use Rattle.wasm_ast.specs.Code.{BlockType, Code}
use Rattle.wasm_meaning.specs.Values.{Val, World}
use Rattle.wasm_trace.specs.declared.parts.Value.{Value}
use Rattle.wasm_trace.specs.declared.parts.Level.{Level}
use Rattle.wasm_trace.specs.declared.parts.Level.TheVariants as level
use Rattle.wasm_trace.specs.Reduction.{Seq, Breaks, Leaves}
use Rattle.wasm_trace.specs.Context.{InLabel}
use Rattle.wasm_trace.specs.View.{stack_of, plain_of, layer_of, layers, out_of}
use Rattle.wasm_trace.proofs.Stepping.{out_label}

abbrev NoFrame : Level → Type 0
NoFrame m = (t : BlockType) (l s : Vec Value Global) (a : Bor (List Instr)) → m ≡ level.Frame t l s a → ⊥

is_label : (m : Level) → NoFrame m → (t : BlockType) × (c : Code) × (s : List Val) × (i : Seq) × (layer_of m ≡ InLabel t c s i)
is_label (level.Block t s a) n = (t, tree.End, stack_of s.items, plain_of a.now, refl)
is_label (level.Loop b s a) n = (None, tree.Loop b.now.result b.now.body tree.End, stack_of s.items, plain_of a.now, refl)
is_label (level.Frame t l s a) n = absurd (n t l s a refl)

module _ {R : Type 0} (ms ls : List Level) (m : Level) (n : NoFrame m) (e : ms ≡ ls ++ m ∷ []) (f : ℕ) (s l : List Val) (w : World R) where
  pub leaves_label : out_of (layers ms) f l w (Leaves f s) ≡ out_of (layers ls) f l w (Leaves f s)
  leaves_label = let x = is_label m n in out_label ms ls m x.0 x.1 x.2 x.3 (Leaves f s) f l w e x.4

  pub breaks_label : (j k : ℕ) → j ≡ suc k → out_of (layers ms) f l w (Breaks j f s) ≡ out_of (layers ls) f l w (Breaks k f s)
  breaks_label j k q =
      let x = is_label m n in
      ap (λ j. out_of (layers ms) f l w (Breaks j f s)) q ∙ out_label ms ls m x.0 x.1 x.2 x.3 (Breaks (suc k) f s) f l w e x.4
