use Rattle.std.proofs.Common.{◌≡◌, ◌-◌, [], ◌∷◌, ◌++◌, ap, length, take, drop, slice_index_or, refl, rules}
use Rattle.wasm_bytes.specs.Place.{Place}
use Rattle.grammar.specs.Spelling.{IsByte}
use Rattle.wasm_bytes.proofs.Places.{fits_after, spans, byte_and_rest, byte_here}
use Rattle.wasm_bytes.proofs.cursor.Cursor.byte.Goals as goal

pub invariant_of-self : goal.invariant_of-self
invariant_of-self c =
    let inside = c.self.inside in
    fits_after inside.whole.now inside.end inside.rest.now (slice_index_or inside.rest.now 0 0 ∷ []) _ c.self.invariant
    (byte_and_rest inside.rest.now c.in-len1-up.len_at_least)

pub returns-clause-stands : goal.returns-clause-stands
returns-clause-stands c =
    let inside = c.self.inside in (
      spans IsByte _ inside.whole.now inside.end inside.rest.now (slice_index_or inside.rest.now 0 0 ∷ []) _ c.args.self.now c.self.invariant.1 c.self.view_is
          refl (byte_and_rest inside.rest.now c.in-len1-up.len_at_least),
      ap (λ (p : Place). p.whole) c.self.view_is,
    )

pub returns-clause-here : goal.returns-clause-here
returns-clause-here c =
    let inside = c.self.inside in
    (byte_here inside.whole.now inside.end inside.rest.now (slice_index_or inside.rest.now 0 0) _ c.args.self.now c.self.invariant.1 c.self.view_is
    (byte_and_rest inside.rest.now c.in-len1-up.len_at_least)).0

pub returns-clause-next : goal.returns-clause-next
returns-clause-next c =
    let inside = c.self.inside in
    (byte_here inside.whole.now inside.end inside.rest.now (slice_index_or inside.rest.now 0 0) _ c.args.self.now c.self.invariant.1 c.self.view_is
    (byte_and_rest inside.rest.now c.in-len1-up.len_at_least)).1
