-- Instructions within labels and frames, and that their reduction shows what the meaning answers.
use Rattle.std.specs.Prelude.{◌≡◌, ℕ, ◌+◌, List, [], ◌∷◌}
use Rattle.wasm_ast.specs.Code.{BlockType, Code}
use Rattle.wasm_meaning.specs.Values as meant
use Rattle.wasm_meaning.specs.Values.{Val, World, Program, Answer, Next, Branch, Returns}
use Rattle.wasm_trace.specs.Reduction.{Seq, Nil, Label, Frame, Traps, values, Config, conf, Breaks, Leaves, Spent, reduce_in, Reaches}

-- a label or a frame round instructions, with the values before it and what follows it
pub data Layer : Type 0 where
  InLabel : BlockType → (continuation : Code) → (before : List Val) → (after : Seq) → Layer
  -- with the locals of the frame outside
  InFrame : BlockType → (outer before : List Val) → (after : Seq) → Layer

-- how many frames
abbrev pub frames : List Layer → ℕ
frames [] = 0
frames (InLabel t c s i ∷ ks) = frames ks
frames (InFrame t l s i ∷ ks) = frames ks + 1

module _ {R : Type 0} where
  abbrev pub wrap : Layer → Config R → Config R
  wrap (InLabel t c s i) x = conf x.fuel x.locals x.world (values s (Label t c x.seq i))
  wrap (InFrame t l s i) x = conf x.fuel l x.world (values s (Frame t x.locals x.seq i))

  -- a configuration within layers, the innermost first
  abbrev pub plug : List Layer → Config R → Config R
  plug [] x = x
  plug (k ∷ ks) x = plug ks (wrap k x)

module _ {R : Type 0} (p : Program R) where
  -- within layers, reduction from x on shows this answer of instructions that i follows
  abbrev pub Shows : List Layer → Config R → Seq → Answer R → Type 0
  Shows ks x i (Next f s l w) = Reaches p (plug ks x) (plug ks (conf f l w (values s i)))
  Shows ks x i (Branch k f s l w) =
      (f' : ℕ) × (j : Seq) × Reaches p (plug ks x) (plug ks (conf f' l w j)) × (reduce_in p (frames ks) (conf f' l w j) ≡ Breaks k f s)
  Shows ks x i (Returns f s l w) =
      (f' : ℕ) × (j : Seq) × Reaches p (plug ks x) (plug ks (conf f' l w j)) × (reduce_in p (frames ks) (conf f' l w j) ≡ Leaves f s)
  Shows ks x i (meant.Trapped why f w) =
      (l : List Val) × Reaches p (plug ks x) (plug ks (conf f l w (Traps why Nil)))
  Shows ks x i (meant.Spent w) =
      (f' : ℕ) × (l : List Val) × (j : Seq) × Reaches p (plug ks x) (plug ks (conf f' l w j)) × (reduce_in p (frames ks) (conf f' l w j) ≡ Spent)
  Shows ks x i meant.Stuck = Unit {0}
