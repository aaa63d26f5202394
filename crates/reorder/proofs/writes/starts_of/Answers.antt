use Rattle.std.proofs.Common.{◌≡◌, ℕ, ◌+◌, ◌≤◌, true, false, is_eq, get_or, length, sym, ap, ◌∙◌, arith, rules}
use Rattle.std.specs.Ordering.{is_ne}
use Rattle.std.proofs.lemmas.List.{length_push}
use Rattle.fab_types.specs.Order.{key_cmp}
use Rattle.reorder.specs.declared.writes.KeyWrite.{KeyWrite}
use Rattle.reorder.specs.KeyWrites.{IsFirstFrom}
use Rattle.reorder.proofs.Edging.{push_item}
use Rattle.reorder.proofs.Starts.{IsRun, run_none, run_goes_on, run_begins, run_first, equal_if_not_ne, apart_if_ne}
use Rattle.reorder.proofs.writes.starts_of.Goals as goal
use Rattle.reorder.proofs.writes.starts_of.Goals.{then-is_ne, else-is_ne}

pub loop-i-init : goal.loop-i-init
loop-i-init c = record {
  long = search rules;
  run = run_none c.args.index.now c.requires;
  upto = λ k h. absurd (omega arith);
  first = λ k h d. absurd (omega arith);
}

pub loop-i-preserved : goal.loop-i-preserved
loop-i-preserved c =
    let index = c.args.index.now in
    let l = c.loop-i in
    let v = l.invariant in
    let start = c.if-is_ne.start in
    let first = c.index-index-start.result in
    let next = c.index-index-i.result in
    let test : is_ne (key_cmp first.key.now next.key.now) ≡ c.is_ne.result =
    ap (λ (w : KeyWrite). is_ne (key_cmp w.key.now next.key.now)) c.index-index-start.is ∙ sym (ap is_ne c.cmp.ensures) ∙ sym c.is_ne.ensures
    in
    let runs : (start ≤ l.i) × IsRun index start (l.i + 1) = elim c.if-is_ne.branch [
      | then-is_ne w ↦
          let other : is_eq (key_cmp first.key.now next.key.now) ≡ false =
          apart_if_ne (key_cmp first.key.now next.key.now) (test ∙ w.if-is_ne.true) in
          rw w.start-is (
            omega arith,
            run_begins index l.start l.i first next c.requires (omega arith) (omega arith) c.index-index-start.is
                c.index-index-i.is other v.run,
          )
      | else-is_ne w ↦
          let equal : is_eq (key_cmp first.key.now next.key.now) ≡ true =
          equal_if_not_ne (key_cmp first.key.now next.key.now) (test ∙ w.if-is_ne.false) in
          rw w.start-is (
            omega arith,
            run_goes_on index l.start l.i first next (omega arith) (omega arith) c.index-index-start.is
                c.index-index-i.is equal v.run,
          )
    ] in
    let starts = l.starts.items in
    let upto = push_item (λ k s. s ≤ k) starts start 0 l.i v.long v.upto runs.0 in
    let firsts = push_item (λ k s. (d : KeyWrite) → IsFirstFrom (get_or index k d).key.now index s) starts start 0 l.i v.long v.first
    (λ d. run_first index start l.i d runs.0 runs.1) in
    record {
      long = ap length c.in_ok-push.ensures.items ∙ length_push starts start ∙ ap (λ (n : ℕ). n + 1) v.long;
      run = runs.1;
      upto = rw c.in_ok-push.ensures.items upto;
      first = rw c.in_ok-push.ensures.items firsts;
    }

pub returns : goal.returns
returns c =
    let v = c.loop-i.invariant in
    record {
      long = omega arith;
      upto = λ i h. v.upto i (omega arith);
      first = λ i d h. v.first i (omega arith) d;
    }
