use Rattle.std.proofs.Common.{◌≡◌, ◌≤◌, min, length, refl, sym, ap, ◌∙◌, subst, arith}
use Rattle.wasm_instance.specs.declared.memory.Memory.TheInside.{Inside}
use Rattle.wasm_instance.specs.Front.{padded}
use Rattle.wasm_instance.proofs.Front.{length-padded}
use Rattle.wasm_instance.proofs.Lent.{beginning, lent}
use Rattle.wasm_instance.proofs.memory.Memory.front.Goals as goal
use Rattle.wasm_instance.proofs.memory.Memory.front.Goals.{then-len-end, else-len-end}

pub returns : goal.returns
returns c =
    let memory : padded c.if-len-end.self-inside.size c.if-len-end.self-inside.front.items ≡ c.args.self.now =
    elim c.if-len-end.branch [
      | then-len-end w ↦ ap (λ (m : Inside). padded m.size m.front.items) w.self-inside-is ∙ w.lay_out.ensures.memory ∙ c.self.view_is
      | else-len-end w ↦ ap (λ (m : Inside). padded m.size m.front.items) w.self-inside-is ∙ c.self.view_is
    ] in
    let size : length c.args.self.now ≡ c.self.inside.size =
    sym (ap length c.self.view_is) ∙ length-padded c.self.inside.size c.self.inside.front.items c.self.invariant.0 in
    let reaches : min c.args.end (length c.args.self.now) ≤ length c.if-len-end.self-inside.front.items =
    elim c.if-len-end.branch [
      | then-len-end w ↦ let e = ap (λ (m : Inside). length m.front.items) w.self-inside-is in omega (arith, e, size, w.lay_out.ensures.reaches)
      | else-len-end w ↦ let e =
          ap (λ (m : Inside). length m.front.items) w.self-inside-is in omega (arith, e, c.self.inside.front.ok.0, c.len.ensures, w.if-len-end.false)
    ] in
    let now = c.as_mut_slice.ensures.value in (
      (
        refl,
        λ w. lent c.if-len-end.self-inside.size c.if-len-end.self-inside.front.len c.if-len-end.self-inside.front.items c.as_mut_slice.result.now
            c.args.self.now w c.if-len-end.self-inside.front.ok.0 c.as_mut_slice.ensures.value memory,
      ),
      record {
        writes_back = tt;
        value = now ∙ sym (beginning c.if-len-end.self-inside.size c.if-len-end.self-inside.front.items c.as_mut_slice.result.now c.args.self.now now memory);
        reaches = subst (λ k. min c.args.end (length c.args.self.now) ≤ k) (sym (ap length now)) reaches;
      },
    )
