-- Reduction goes on within labels and frames, and shows what the meaning answers.
use Rattle.std.proofs.Common.{◌≡◌, ℕ, zero, suc, ◌+◌, ◌≤◌, Option, Some, None, List, [], ◌∷◌, ◌++◌, refl, sym, ap, ◌∙◌, subst}
use Rattle.std.proofs.lemmas.List.{append-nil}
use Rattle.wasm_ast.specs.declared.trap.Trap.{Trap}
use Rattle.wasm_ast.specs.Code as code
use Rattle.wasm_ast.specs.Code.{BlockType, Code}
use Rattle.wasm_meaning.specs.Values as meant
use Rattle.wasm_meaning.specs.Values.{Val, World, Program, Answer, Next, Branch, Returns, Then, all_of, top_of}
use Rattle.wasm_meaning.specs.Meaning.{then_do, block_end, loop_end, call_end, with_some}
use Rattle.wasm_meaning.specs.Laws.Unfold.{Within}
use Rattle.wasm_trace.specs.Reduction.{Seq, Nil, Put, Do, Block, Loop, If, Free, FreeBlock, Invoke, Label, Frame, Traps, plain, values, Config, conf, To}
use Rattle.wasm_trace.specs.Reduction.{Breaks, at, with_found, in_label, in_frame, Steps, Reaches, reduce, reduce_in, step}
use Rattle.wasm_trace.specs.Context.{Layer, InLabel, InFrame, frames, wrap, plug, Shows}

pub values_append : (v s : List Val) (i : Seq) → values (v ++ s) i ≡ values s (values v i)
values_append [] s i = refl
values_append (x ∷ v) s i = values_append v s (Put x i)

module _ {R : Type 0} (p : Program R) where
  step_values : (d f : ℕ) (l : List Val) (w : World R) (s before : List Val) (i : Seq) → step p d f l w before (values s i) ≡ step p d f l w (s ++ before) i
  step_values d f l w [] before i = refl
  step_values d f l w (x ∷ s) before i = step_values d f l w s before (Put x i)

  -- the values before a redex
  pub step_start : (d f : ℕ) (l : List Val) (w : World R) (s : List Val) (i : Seq) → step p d f l w [] (values s i) ≡ step p d f l w s i
  step_start d f l w s i = step_values d f l w s [] i ∙ ap (λ z. step p d f l w z i) (append-nil s)

  pub reach_refl : (x : Config R) → Reaches p x x
  reach_refl x = (0, refl)

  pub reach_step : (x y z : Config R) → reduce p x ≡ To y → Reaches p y z → Reaches p x z
  reach_step x y z e r = (suc r.0, (y, e, r.1))

  pub reach_trans : (x y z : Config R) → Reaches p x y → Reaches p y z → Reaches p x z
  reach_trans x y z r q = go r.0 x r.1
    where
      go : (k : ℕ) (x : Config R) → Steps p k x y → Reaches p x z
      go zero x e = subst (λ x. Reaches p x z) (sym e) q
      go (suc k) x s = reach_step x s.0 z s.1 (go k s.0 s.2)

  wrap_to : (k : Layer) (ks : List Layer) (x y : Config R) → reduce_in p (frames (k ∷ ks)) x ≡ To y → reduce_in p (frames ks) (wrap k x) ≡ To (wrap k y)
  wrap_to (InLabel t c s i) ks x y e =
      step_start (frames ks) x.fuel x.locals x.world s (Label t c x.seq i) ∙ ap (in_label x.fuel x.locals x.world s t c i) e
  wrap_to (InFrame t l s i) ks x y e =
      step_start (frames ks) x.fuel l x.world s (Frame t x.locals x.seq i) ∙ ap (in_frame x.fuel l x.world s t i) e

  pub plug_to : (ks : List Layer) (x y : Config R) → reduce_in p (frames ks) x ≡ To y → reduce p (plug ks x) ≡ To (plug ks y)
  plug_to [] x y e = e
  plug_to (k ∷ ks) x y e = plug_to ks (wrap k x) (wrap k y) (wrap_to k ks x y e)

  -- one reduction within layers
  pub one : (ks : List Layer) (x y : Config R) → reduce_in p (frames ks) x ≡ To y → Reaches p (plug ks x) (plug ks y)
  one ks x y e = reach_step (plug ks x) (plug ks y) (plug ks y) (plug_to ks x y e) (reach_refl (plug ks y))

  -- one reduction where values stand before the redex
  pub one_at : (ks : List Layer) (f : ℕ) (l : List Val) (w : World R) (s : List Val) (i : Seq) (y : Config R) → step p (frames ks) f l w s i ≡ To y →
      Reaches p (plug ks (conf f l w (values s i))) (plug ks y)
  one_at ks f l w s i y e = one ks (conf f l w (values s i)) y (step_start (frames ks) f l w s i ∙ e)

  pub shows_from : (ks : List Layer) (x y : Config R) (i : Seq) (a : Answer R) → Reaches p (plug ks x) (plug ks y) → Shows p ks y i a → Shows p ks x i a
  shows_from ks x y i (Next f s l w) r h = reach_trans (plug ks x) (plug ks y) _ r h
  shows_from ks x y i (Branch k f s l w) r h = (h.0, h.1, reach_trans (plug ks x) (plug ks y) _ r h.2, h.3)
  shows_from ks x y i (Returns f s l w) r h = (h.0, h.1, reach_trans (plug ks x) (plug ks y) _ r h.2, h.3)
  shows_from ks x y i (meant.Trapped k f w) r h = (h.0, reach_trans (plug ks x) (plug ks y) _ r h.1)
  shows_from ks x y i (meant.Spent w) r h = (h.0, h.1, h.2, reach_trans (plug ks x) (plug ks y) _ r h.3, h.4)
  shows_from ks x y i meant.Stuck r h = tt

  -- instructions and then others
  pub then_shows : (n : ℕ) (ks : List Layer) (x : Config R) (i i' : Seq) (a : Answer R) (g : Then R) → Within n a → Shows p ks x i a →
      ((f : ℕ) (s l : List Val) (w : World R) → f ≤ n → Shows p ks (conf f l w (values s i)) i' (g f s l w)) → Shows p ks x i' (then_do a g)
  then_shows n ks x i i' (Next f s l w) g b h k =
      shows_from ks x (conf f l w (values s i)) i' (g f s l w) h (k f s l w b)
  then_shows n ks x i i' (Branch k f s l w) g b h go = h
  then_shows n ks x i i' (Returns f s l w) g b h go = h
  then_shows n ks x i i' (meant.Trapped k f w) g b h go = h
  then_shows n ks x i i' (meant.Spent w) g b h go = h
  then_shows n ks x i i' meant.Stuck g b h go = tt

  -- a trap takes the place of what stands round it
  pub trap_alone : (ks : List Layer) (f : ℕ) (l : List Val) (w : World R) (s : List Val) (k : Trap) (i : Seq) →
      Reaches p (plug ks (conf f l w (values s (Traps k i)))) (plug ks (conf f l w (Traps k Nil)))
  trap_alone ks f l w (x ∷ s) k i = one_at ks f l w (x ∷ s) (Traps k i) (conf f l w (Traps k Nil)) refl
  trap_alone ks f l w [] k Nil = reach_refl (plug ks (conf f l w (Traps k Nil)))
  trap_alone ks f l w [] k (Put x i) = one ks _ (conf f l w (Traps k Nil)) refl
  trap_alone ks f l w [] k (Do x i) = one ks _ (conf f l w (Traps k Nil)) refl
  trap_alone ks f l w [] k (Block t b i) = one ks _ (conf f l w (Traps k Nil)) refl
  trap_alone ks f l w [] k (Loop t b i) = one ks _ (conf f l w (Traps k Nil)) refl
  trap_alone ks f l w [] k (If t a b i) = one ks _ (conf f l w (Traps k Nil)) refl
  trap_alone ks f l w [] k (Free o i) = one ks _ (conf f l w (Traps k Nil)) refl
  trap_alone ks f l w [] k (FreeBlock t b i) = one ks _ (conf f l w (Traps k Nil)) refl
  trap_alone ks f l w [] k (Invoke fn i) = one ks _ (conf f l w (Traps k Nil)) refl
  trap_alone ks f l w [] k (Label t c j i) = one ks _ (conf f l w (Traps k Nil)) refl
  trap_alone ks f l w [] k (Frame t c j i) = one ks _ (conf f l w (Traps k Nil)) refl
  trap_alone ks f l w [] k (Traps j i) = one ks _ (conf f l w (Traps k Nil)) refl

  -- what a label's end, or a frame's, leaves
  left : (ks : List Layer) (f : ℕ) (l : List Val) (w : World R) (x : Config R) (v s : List Val) (i : Seq) →
      Reaches p (plug ks x) (plug ks (conf f l w (values s (values v i)))) → Shows p ks x i (Next f (v ++ s) l w)
  left ks f l w x v s i r = subst (λ z. Reaches p (plug ks x) (plug ks (conf f l w z))) (sym (values_append v s i)) r

  -- a label that a branch leaves
  label_left : (ks : List Layer) (x : Config R) (f' f : ℕ) (l : List Val) (w : World R) (t : BlockType) (c : Code) (s : List Val) (i j : Seq) (v : List Val)
      (r : Option (List Val)) → top_of t v ≡ r → Reaches p (plug ks x) (plug ks (conf f' l w (values s (Label t c j i)))) →
      step p (frames ks) f' l w [] j ≡ Breaks zero f v → Shows p ks x (plain c i) (with_some r (λ r. Next f (r ++ s) l w))
  label_left ks x f' f l w t c s i j v None q r e = tt
  label_left ks x f' f l w t c s i j v (Some z) q r e =
      left ks f l w x z s (plain c i)
      (reach_trans (plug ks x) _ _ r
      (one_at ks f' l w s (Label t c j i) (conf f l w (values s (values z (plain c i))))
      (ap (in_label f' l w s t c i) e ∙ ap (λ o. with_found o (λ r. at f l w s (values r (plain c i)))) q)))

  -- values at the end of a label
  label_ends : (ks : List Layer) (x : Config R) (f : ℕ) (l : List Val) (w : World R) (t : BlockType) (c : Code) (s : List Val) (i : Seq) (v : List Val) →
      Reaches p (plug ks x) (plug ks (conf f l w (values s (Label t c (values v Nil) i)))) →
      Reaches p (plug ks x) (plug ks (conf f l w (values s (values v i))))
  label_ends ks x f l w t c s i v r =
      reach_trans (plug ks x) _ _ r
      (one_at ks f l w s (Label t c (values v Nil) i) (conf f l w (values s (values v i)))
      (ap (in_label f l w s t c i) (step_start (frames ks) f l w v Nil)))

  -- a frame that is left with these results
  frame_left : (ks : List Layer) (x : Config R) (f' f : ℕ) (l l' : List Val) (w : World R) (t : BlockType) (s : List Val) (i j : Seq) (r : Option (List Val)) →
      Reaches p (plug ks x) (plug ks (conf f' l w (values s (Frame t l' j i)))) →
      in_frame f' l w s t i (step p (frames ks + 1) f' l' w [] j) ≡ with_found r (λ r. at f l w s (values r i)) →
      Shows p ks x i (with_some r (λ r. Next f (r ++ s) l w))
  frame_left ks x f' f l l' w t s i j None r e = tt
  frame_left ks x f' f l l' w t s i j (Some z) r e =
      left ks f l w x z s i (reach_trans (plug ks x) _ _ r (one_at ks f' l w s (Frame t l' j i) (conf f l w (values s (values z i))) e))

  -- all that ends a label alike, but the values at its end and a branch to it
  through : (ks : List Layer) (x : Config R) (t : BlockType) (c : Code) (s : List Val) (i i' : Seq) (k : ℕ) (f : ℕ) (v l : List Val) (w : World R) →
      Shows p (InLabel t c s i ∷ ks) x Nil (Branch (suc k) f v l w) → Shows p ks (wrap (InLabel t c s i) x) i' (Branch k f v l w)
  through ks x t c s i i' k f v l w h =
      (h.0, values s (Label t c h.1 i), h.2, step_start (frames ks) h.0 l w s (Label t c h.1 i) ∙ ap (in_label h.0 l w s t c i) h.3)

  through_return : (ks : List Layer) (x : Config R) (t : BlockType) (c : Code) (s : List Val) (i i' : Seq) (f : ℕ) (v l : List Val) (w : World R) →
      Shows p (InLabel t c s i ∷ ks) x Nil (Returns f v l w) → Shows p ks (wrap (InLabel t c s i) x) i' (Returns f v l w)
  through_return ks x t c s i i' f v l w h =
      (h.0, values s (Label t c h.1 i), h.2, step_start (frames ks) h.0 l w s (Label t c h.1 i) ∙ ap (in_label h.0 l w s t c i) h.3)

  through_trap : (ks : List Layer) (x : Config R) (t : BlockType) (c : Code) (s : List Val) (i i' : Seq) (k : Trap) (f : ℕ) (w : World R) →
      Shows p (InLabel t c s i ∷ ks) x Nil (meant.Trapped k f w) → Shows p ks (wrap (InLabel t c s i) x) i' (meant.Trapped k f w)
  through_trap ks x t c s i i' k f w h = (
    h.0,
    reach_trans _ _ _ h.1
        (reach_trans _ _ _ (one_at ks f h.0 w s (Label t c (Traps k Nil) i) (conf f h.0 w (values s (Traps k i))) refl) (trap_alone ks f h.0 w s k i)),
  )

  through_spent : (ks : List Layer) (x : Config R) (t : BlockType) (c : Code) (s : List Val) (i i' : Seq) (w : World R) →
      Shows p (InLabel t c s i ∷ ks) x Nil (meant.Spent w) → Shows p ks (wrap (InLabel t c s i) x) i' (meant.Spent w)
  through_spent ks x t c s i i' w h =
      (h.0, h.1, values s (Label t c h.2 i), h.3, step_start (frames ks) h.0 h.1 w s (Label t c h.2 i) ∙ ap (in_label h.0 h.1 w s t c i) h.4)

  label_next : (ks : List Layer) (x : Config R) (f : ℕ) (l : List Val) (w : World R) (t t' : BlockType) (c : Code) (s : List Val) (i : Seq) (v : List Val) →
      Reaches p (plug ks x) (plug ks (conf f l w (values s (Label t' c (values v Nil) i)))) → Shows p ks x i (with_some (all_of t v) (λ r. Next f (r ++ s) l w))
  label_next ks x f l w None t' c s i [] r = label_ends ks x f l w t' c s i [] r
  label_next ks x f l w None t' c s i (y ∷ v) r = tt
  label_next ks x f l w (Some ty) t' c s i [] r = tt
  label_next ks x f l w (Some ty) t' c s i (y ∷ []) r = left ks f l w x (y ∷ []) s i (label_ends ks x f l w t' c s i (y ∷ []) r)
  label_next ks x f l w (Some ty) t' c s i (y ∷ z ∷ v) r = tt

  -- a block's body within its label
  pub block_shows : (ks : List Layer) (x : Config R) (t : BlockType) (s : List Val) (i : Seq) (a : Answer R) → Shows p (InLabel t code.End s i ∷ ks) x Nil a →
      Shows p ks (wrap (InLabel t code.End s i) x) i (block_end t s a)
  block_shows ks x t s i (Next f v l w) h = label_next ks _ f l w t t code.End s i v h
  block_shows ks x t s i (Branch zero f v l w) h =
      label_left ks _ h.0 f l w t code.End s i h.1 v (top_of t v) refl h.2 h.3
  block_shows ks x t s i (Branch (suc k) f v l w) h = through ks x t code.End s i i k f v l w h
  block_shows ks x t s i (Returns f v l w) h = through_return ks x t code.End s i i f v l w h
  block_shows ks x t s i (meant.Trapped k f w) h = through_trap ks x t code.End s i i k f w h
  block_shows ks x t s i (meant.Spent w) h = through_spent ks x t code.End s i i w h
  block_shows ks x t s i meant.Stuck h = tt

  -- a loop's body within its label, whose continuation is the loop
  pub loop_shows : (n : ℕ) (ks : List Layer) (x : Config R) (t : BlockType) (b : Code) (s : List Val) (i : Seq) (a : Answer R) (g : Then R) → Within n a →
      ((f : ℕ) (l : List Val) (w : World R) → f ≤ n → Shows p ks (conf f l w (values s (Loop t b i))) i (g f s l w)) →
      Shows p (InLabel None (code.Loop t b code.End) s i ∷ ks) x Nil a → Shows p ks (wrap (InLabel None (code.Loop t b code.End) s i) x) i (loop_end t s g a)
  loop_shows n ks x t b s i (Next f v l w) g b' k h = label_next ks _ f l w t None (code.Loop t b code.End) s i v h
  loop_shows n ks x t b s i (Branch zero f v l w) g b' k h =
      shows_from ks _ (conf f l w (values s (Loop t b i))) i (g f s l w)
      (label_left ks _ h.0 f l w None (code.Loop t b code.End) s i h.1 v (Some []) refl h.2 h.3) (k f l w b')
  loop_shows n ks x t b s i (Branch (suc k') f v l w) g b' k h = through ks x None (code.Loop t b code.End) s i i k' f v l w h
  loop_shows n ks x t b s i (Returns f v l w) g b' k h = through_return ks x None (code.Loop t b code.End) s i i f v l w h
  loop_shows n ks x t b s i (meant.Trapped k' f w) g b' k h = through_trap ks x None (code.Loop t b code.End) s i i k' f w h
  loop_shows n ks x t b s i (meant.Spent w) g b' k h = through_spent ks x None (code.Loop t b code.End) s i i w h
  loop_shows n ks x t b s i meant.Stuck g b' k h = tt

  -- what a frame makes of what the block in it answers
  abbrev pub frame_end : BlockType → List Val → List Val → Answer R → Answer R
  frame_end t s l (Next f v _ w) = with_some (all_of t v) (λ r. Next f (r ++ s) l w)
  frame_end t s l (Branch k f v _ w) = meant.Stuck
  frame_end t s l (Returns f v _ w) = with_some (top_of t v) (λ r. Next f (r ++ s) l w)
  frame_end t s l (meant.Trapped k f w) = meant.Trapped k f w
  frame_end t s l (meant.Spent w) = meant.Spent w
  frame_end t s l meant.Stuck = meant.Stuck

  -- a call is a frame round a block
  pub call_is : (t : BlockType) (s l : List Val) (a : Answer R) → frame_end t s l (block_end t [] a) ≡ call_end t s l a
  call_is None s l (Next f [] _ w) = refl
  call_is None s l (Next f (x ∷ v) _ w) = refl
  call_is (Some ty) s l (Next f [] _ w) = refl
  call_is (Some ty) s l (Next f (x ∷ []) _ w) = refl
  call_is (Some ty) s l (Next f (x ∷ y ∷ v) _ w) = refl
  call_is None s l (Branch zero f v _ w) = refl
  call_is (Some ty) s l (Branch zero f [] _ w) = refl
  call_is (Some ty) s l (Branch zero f (x ∷ v) _ w) = refl
  call_is t s l (Branch (suc k) f v _ w) = refl
  call_is t s l (Returns f v _ w) = refl
  call_is t s l (meant.Trapped k f w) = refl
  call_is t s l (meant.Spent w) = refl
  call_is t s l meant.Stuck = refl

  frame_shows : (ks : List Layer) (x : Config R) (t : BlockType) (l s : List Val) (i : Seq) (a : Answer R) → Shows p (InFrame t l s i ∷ ks) x Nil a →
      Shows p ks (wrap (InFrame t l s i) x) i (frame_end t s l a)
  frame_shows ks x t l s i (Next f v l' w) h =
      frame_left ks _ f f l l' w t s i (values v Nil) (all_of t v) h (ap (in_frame f l w s t i) (step_start (frames ks + 1) f l' w v Nil))
  frame_shows ks x t l s i (Branch k f v l' w) h = tt
  frame_shows ks x t l s i (Returns f v l' w) h =
      frame_left ks _ h.0 f l l' w t s i h.1 (top_of t v) h.2 (ap (in_frame h.0 l w s t i) h.3)
  frame_shows ks x t l s i (meant.Trapped k f w) h = (
    l,
    reach_trans _ _ _ h.1
        (reach_trans _ _ _ (one_at ks f l w s (Frame t h.0 (Traps k Nil) i) (conf f l w (values s (Traps k i))) refl) (trap_alone ks f l w s k i)),
  )
  frame_shows ks x t l s i (meant.Spent w) h =
      (h.0, l, values s (Frame t h.1 h.2 i), h.3, step_start (frames ks) h.0 l w s (Frame t h.1 h.2 i) ∙ ap (in_frame h.0 l w s t i) h.4)
  frame_shows ks x t l s i meant.Stuck h = tt

  -- a function's body within the block and the frame that an invocation puts round it
  pub call_shows : (ks : List Layer) (x : Config R) (t : BlockType) (l s : List Val) (i : Seq) (a : Answer R) →
      Shows p (InLabel t code.End [] Nil ∷ InFrame t l s i ∷ ks) x Nil a →
      Shows p ks (wrap (InFrame t l s i) (wrap (InLabel t code.End [] Nil) x)) i (call_end t s l a)
  call_shows ks x t l s i a h =
      subst (Shows p ks (wrap (InFrame t l s i) (wrap (InLabel t code.End [] Nil) x)) i) (call_is t s l a)
      (frame_shows ks (wrap (InLabel t code.End [] Nil) x) t l s i (block_end t [] a) (block_shows (InFrame t l s i ∷ ks) x t [] Nil a h))
