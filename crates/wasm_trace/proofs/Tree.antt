-- The meaning of plain instructions, within any labels and frames, is some number of reductions.
use Rattle.std.proofs.Common.{◌≡◌, ℕ, zero, suc, ◌-◌, ◌<◌, ◌≤◌, Bool, true, false, cond, None, List, [], ◌∷◌, refl, sym, subst, arith}
use Rattle.std.specs.Prelude.{◌&&◌, nat_lt, nat_eq}
use Rattle.std.proofs.lemmas.Bool.Decides.{nat_tests}
use Rattle.wasm_ast.specs.declared.types.ValueType.TheVariants.{I32}
use Rattle.wasm_ast.specs.Types.{words, same_type}
use Rattle.wasm_ast.specs.Op.{Op}
use Rattle.wasm_ast.specs.Code as code
use Rattle.wasm_ast.specs.Code.{BlockType, Code}
use Rattle.wasm_meaning.specs.Values as meant
use Rattle.wasm_meaning.specs.Values.{Val, World, Program, Answer, Next, Branch, Returns, Then}
use Rattle.wasm_meaning.specs.Meaning.{then_do, pay, on_top, as_word, block_end, loop_end, leaf, tree, meaning}
use Rattle.wasm_meaning.specs.Fuel.{fuel_left}
use Rattle.wasm_meaning.specs.Laws.Unfold.{Within, weaken, agree_self, block_agree, loop_agree, meaning-is, meaning-within, leaf_left}
use Rattle.wasm_trace.specs.Reduction.{Seq, Nil, Do, Block, Loop, If, Label, plain, values, Config, conf, Step, Spent, Stuck, op_step, block_step, loop_step}
use Rattle.wasm_trace.specs.Reduction.{if_step, reduce_in}
use Rattle.wasm_trace.specs.Context.{Layer, InLabel, frames, Shows}
use Rattle.wasm_trace.proofs.Sim.{step_start, reach_refl, one, shows_from, then_shows, block_shows, loop_shows}
use Rattle.wasm_trace.proofs.Forms.{Sound, leaf_meets}

module _ {R : Type 0} (p : Program R) where
  -- from x the next reduction is this
  abbrev Is : List Layer → Config R → Step R → Type 0
  Is ks x r = reduce_in p (frames ks) x ≡ r

  -- the cost, taken first
  pay_shows : (ks : List Layer) (f : ℕ) (l : List Val) (w : World R) (j i : Seq) (k : ℕ → Step R) (a : ℕ → Answer R) →
      Is ks (conf f l w j) (cond (nat_lt f 1) Spent (k (f - 1))) → (f - 1 < f → Is ks (conf f l w j) (k (f - 1)) → Shows p ks (conf f l w j) i (a (f - 1))) →
      Shows p ks (conf f l w j) i (pay 1 f w a)
  pay_shows ks f l w j i k a e h = go (nat_lt f 1) refl e
    where
      go : (b : Bool) → nat_lt f 1 ≡ b → Is ks (conf f l w j) (cond b Spent (k (f - 1))) → Shows p ks (conf f l w j) i (cond b (meant.Spent w) (a (f - 1)))
      go true q e = (f, l, j, reach_refl p _, e)
      go false q e = let le : 1 ≤ f = grind (arith, nat_tests) in h (omega arith) e

  within_of : (n : ℕ) (a : Answer R) → fuel_left a ≤ n → Within n a
  within_of n (Next f s l w) h = h
  within_of n (Branch k f s l w) h = h
  within_of n (Returns f s l w) h = h
  within_of n (meant.Trapped why f w) h = h
  within_of n (meant.Spent w) h = tt
  within_of n meant.Stuck h = tt

  -- what is left is no more than what there was
  tree_within : (d : ℕ) (c : Code) (f : ℕ) (s l : List Val) (w : World R) → Within f (tree p (meaning p) d c f s l w)
  tree_within d c f s l w = subst (Within f) (meaning-is p d c f s l w) (meaning-within p d c f s l w)

  leaf_within : (d : ℕ) (o : Op) (f : ℕ) (s l : List Val) (w : World R) → Within f (leaf p (meaning p) d o f s l w)
  leaf_within d o f s l w = within_of f (leaf p (meaning p) d o f s l w) (leaf_left p d o f s l w)

  block_within : (n : ℕ) (t : BlockType) (s : List Val) (a : Answer R) → Within n a → Within n (block_end t s a)
  block_within n t s a h = (block_agree n t s a a (agree_self n a h)).within

  loop_within : (n d : ℕ) (c : Code) (t : BlockType) (s : List Val) (a : Answer R) → Within n a → Within n (loop_end t s (meaning p d c) a)
  loop_within n d c t s a h =
      (loop_agree n t s (meaning p d c) (meaning p d c) a a (λ f s l w le. agree_self f _ (meaning-within p d c f s l w)) (agree_self n a h)).within

  -- code shows its meaning, with this much fuel
  abbrev Rest : ℕ → List Layer → Code → Seq → Type 0
  Rest n ks c i = (f : ℕ) (s l : List Val) (w : World R) → f ≤ n → Shows p ks (conf f l w (values s (plain c i))) i (tree p (meaning p) (frames ks) c f s l w)

  -- a block that is entered, and then others
  enters : (n : ℕ) (ks : List Layer) (x : Config R) (t : BlockType) (b c : Code) (f : ℕ) (l : List Val) (w : World R) (s : List Val) (i : Seq) → f ≤ n →
      Rest n (InLabel t code.End s (plain c i) ∷ ks) b Nil → Rest n ks c i → Is ks x (block_step t b f l w s (plain c i)) →
      Shows p ks x i (then_do (block_end t s (tree p (meaning p) (frames ks) b f [] l w)) (tree p (meaning p) (frames ks) c))
  enters n ks x t b c f l w s i le body rest e =
      then_shows p n ks x (plain c i) i (block_end t s (tree p (meaning p) (frames ks) b f [] l w)) (tree p (meaning p) (frames ks) c)
      (weaken f n (block_end t s (tree p (meaning p) (frames ks) b f [] l w)) le
      (block_within f t s (tree p (meaning p) (frames ks) b f [] l w) (tree_within (frames ks) b f [] l w)))
      (shows_from p ks x (conf f l w (values s (Label t code.End (plain b Nil) (plain c i)))) (plain c i)
      (block_end t s (tree p (meaning p) (frames ks) b f [] l w)) (one p ks x (conf f l w (values s (Label t code.End (plain b Nil) (plain c i)))) e)
      (block_shows p ks (conf f l w (plain b Nil)) t s (plain c i) (tree p (meaning p) (frames ks) b f [] l w) (body f [] l w le))) rest

  do_shows : (n : ℕ) → Sound p n → (ks : List Layer) (o : Op) (c : Code) (f : ℕ) (s l : List Val) (w : World R) (i : Seq) → f ≤ n → Rest n ks c i →
      Shows p ks (conf f l w (values s (Do o (plain c i)))) i (tree p (meaning p) (frames ks) (code.Do o c) f s l w)
  do_shows n sound ks o c f s l w i le rest =
      pay_shows ks f l w (values s (Do o (plain c i))) i (λ f. op_step p o f l w s (plain c i))
      (λ f. then_do (leaf p (meaning p) (frames ks) o f s l w) (tree p (meaning p) (frames ks) c)) (step_start p (frames ks) f l w s (Do o (plain c i)))
      (λ lt e. then_shows p (f - 1) ks (conf f l w (values s (Do o (plain c i)))) (plain c i) i (leaf p (meaning p) (frames ks) o (f - 1) s l w)
      (tree p (meaning p) (frames ks) c) (leaf_within (frames ks) o (f - 1) s l w)
      ((leaf_meets p n sound ks f l w (values s (Do o (plain c i))) (plain c i) o (f - 1) s (omega arith)).shows e)
      (λ f' s l w le'. rest f' s l w (omega arith)))

  block_case : (n : ℕ) (ks : List Layer) (t : BlockType) (b c : Code) (f : ℕ) (s l : List Val) (w : World R) (i : Seq) → f ≤ n →
      Rest n (InLabel t code.End s (plain c i) ∷ ks) b Nil → Rest n ks c i →
      Shows p ks (conf f l w (values s (Block t b (plain c i)))) i (tree p (meaning p) (frames ks) (code.Block t b c) f s l w)
  block_case n ks t b c f s l w i le body rest =
      pay_shows ks f l w (values s (Block t b (plain c i))) i (λ f. block_step t b f l w s (plain c i))
      (λ f. then_do (block_end t s (tree p (meaning p) (frames ks) b f [] l w)) (tree p (meaning p) (frames ks) c))
      (step_start p (frames ks) f l w s (Block t b (plain c i)))
      (λ lt e. enters n ks (conf f l w (values s (Block t b (plain c i)))) t b c (f - 1) l w s i (omega arith) body rest e)

  loop_case : (n : ℕ) → Sound p n → (ks : List Layer) (t : BlockType) (b c : Code) (f : ℕ) (s l : List Val) (w : World R) (i : Seq) → f ≤ n →
      Rest n (InLabel None (code.Loop t b code.End) s (plain c i) ∷ ks) b Nil → Rest n ks c i →
      Shows p ks (conf f l w (values s (Loop t b (plain c i)))) i (tree p (meaning p) (frames ks) (code.Loop t b c) f s l w)
  loop_case n sound ks t b c f s l w i le body rest =
      pay_shows ks f l w (values s (Loop t b (plain c i))) i (λ f. loop_step t b f l w s (plain c i))
      (λ f. then_do (loop_end t s (meaning p (frames ks) (code.Loop t b code.End)) (tree p (meaning p) (frames ks) b f [] l w))
      (tree p (meaning p) (frames ks) c)) (step_start p (frames ks) f l w s (Loop t b (plain c i)))
      (λ lt e. then_shows p (f - 1) ks (conf f l w (values s (Loop t b (plain c i)))) (plain c i) i
      (loop_end t s (meaning p (frames ks) (code.Loop t b code.End)) (tree p (meaning p) (frames ks) b (f - 1) [] l w)) (tree p (meaning p) (frames ks) c)
      (loop_within (f - 1) (frames ks) (code.Loop t b code.End) t s (tree p (meaning p) (frames ks) b (f - 1) [] l w)
      (tree_within (frames ks) b (f - 1) [] l w))
      (shows_from p ks (conf f l w (values s (Loop t b (plain c i))))
      (conf (f - 1) l w (values s (Label None (code.Loop t b code.End) (plain b Nil) (plain c i)))) (plain c i)
      (loop_end t s (meaning p (frames ks) (code.Loop t b code.End)) (tree p (meaning p) (frames ks) b (f - 1) [] l w))
      (one p ks (conf f l w (values s (Loop t b (plain c i)))) (conf (f - 1) l w (values s (Label None (code.Loop t b code.End) (plain b Nil) (plain c i))))
      e) (loop_shows p (f - 1) ks (conf (f - 1) l w (plain b Nil)) t b s (plain c i) (tree p (meaning p) (frames ks) b (f - 1) [] l w)
      (meaning p (frames ks) (code.Loop t b code.End)) (tree_within (frames ks) b (f - 1) [] l w)
      (λ f' l w le'. sound ks (code.Loop t b code.End) f' s l w (plain c i) (omega arith)) (body (f - 1) [] l w (omega arith))))
      (λ f' s l w le'. rest f' s l w (omega arith)))

  if_shows : (n : ℕ) (ks : List Layer) (x : Config R) (t : BlockType) (a b c : Code) (f : ℕ) (l : List Val) (w : World R) (s : List Val) (i : Seq) → f ≤ n →
      ((s : List Val) → Rest n (InLabel t code.End s (plain c i) ∷ ks) a Nil) → ((s : List Val) → Rest n (InLabel t code.End s (plain c i) ∷ ks) b Nil) →
      Rest n ks c i → Is ks x (if_step t a b f l w s (plain c i)) →
      Shows p ks x i (on_top s
      (λ v s. as_word I32 v
      (λ m. then_do (block_end t s (cond (nat_eq m 0) (tree p (meaning p) (frames ks) b f [] l w) (tree p (meaning p) (frames ks) a f [] l w)))
      (tree p (meaning p) (frames ks) c))))
  if_shows n ks x t a b c f l w [] i le one' other rest e = tt
  if_shows n ks x t a b c f l w (v ∷ s) i le one' other rest e = go (same_type v.type I32) (nat_lt v.word (words I32)) (nat_eq v.word 0) e
    where
      go : (q r z : Bool) → Is ks x (cond q (block_step t (cond z b a) f l w s (plain c i)) Stuck) →
          Shows p ks x i (cond (q && r)
          (then_do (block_end t s (cond z (tree p (meaning p) (frames ks) b f [] l w) (tree p (meaning p) (frames ks) a f [] l w)))
          (tree p (meaning p) (frames ks) c)) meant.Stuck)
      go false r z e = tt
      go true false z e = tt
      go true true true e = enters n ks x t b c f l w s i le (other s) rest e
      go true true false e = enters n ks x t a c f l w s i le (one' s) rest e

  if_case : (n : ℕ) (ks : List Layer) (t : BlockType) (a b c : Code) (f : ℕ) (s l : List Val) (w : World R) (i : Seq) → f ≤ n →
      ((s : List Val) → Rest n (InLabel t code.End s (plain c i) ∷ ks) a Nil) → ((s : List Val) → Rest n (InLabel t code.End s (plain c i) ∷ ks) b Nil) →
      Rest n ks c i → Shows p ks (conf f l w (values s (If t a b (plain c i)))) i (tree p (meaning p) (frames ks) (code.If t a b c) f s l w)
  if_case n ks t a b c f s l w i le so other rest =
      pay_shows ks f l w (values s (If t a b (plain c i))) i (λ f. if_step t a b f l w s (plain c i))
      (λ f. on_top s (λ v s.
      as_word I32 v (λ m. then_do
      (block_end t s (cond (nat_eq m 0) (tree p (meaning p) (frames ks) b f [] l w) (tree p (meaning p) (frames ks) a f [] l w)))
      (tree p (meaning p) (frames ks) c)))) (step_start p (frames ks) f l w s (If t a b (plain c i)))
      (λ lt e. if_shows n ks (conf f l w (values s (If t a b (plain c i)))) t a b c (f - 1) l w s i (omega arith) so other rest e)

  -- plain instructions show what the meaning answers, within any labels and frames
  tree_shows : (n : ℕ) → Sound p n → (ks : List Layer) (c : Code) (i : Seq) → Rest n ks c i
  tree_shows n sound ks code.End i f s l w le = reach_refl p _
  tree_shows n sound ks (code.Do o c) i f s l w le = do_shows n sound ks o c f s l w i le (tree_shows n sound ks c i)
  tree_shows n sound ks (code.Block t b c) i f s l w le =
      block_case n ks t b c f s l w i le (tree_shows n sound (InLabel t code.End s (plain c i) ∷ ks) b Nil) (tree_shows n sound ks c i)
  tree_shows n sound ks (code.Loop t b c) i f s l w le =
      loop_case n sound ks t b c f s l w i le (tree_shows n sound (InLabel None (code.Loop t b code.End) s (plain c i) ∷ ks) b Nil) (tree_shows n sound ks c i)
  tree_shows n sound ks (code.If t a b c) i f s l w le =
      if_case n ks t a b c f s l w i le (λ s. tree_shows n sound (InLabel t code.End s (plain c i) ∷ ks) a Nil)
      (λ s. tree_shows n sound (InLabel t code.End s (plain c i) ∷ ks) b Nil) (tree_shows n sound ks c i)

  pub sound : (n : ℕ) → Sound p n
  sound zero ks c f s l w i lt = absurd (omega arith)
  sound (suc n) ks c f s l w i lt =
      subst (Shows p ks (conf f l w (values s (plain c i))) i) (sym (meaning-is p (frames ks) c f s l w)) (tree_shows n (sound n) ks c i f s l w (omega arith))

  -- the meaning of plain instructions, within any labels and frames, is some number of reductions
  pub meaning_shows : (ks : List Layer) (c : Code) (f : ℕ) (s l : List Val) (w : World R) (i : Seq) →
      Shows p ks (conf f l w (values s (plain c i))) i (meaning p (frames ks) c f s l w)
  meaning_shows ks c f s l w i = sound (suc f) ks c f s l w i (omega arith)
