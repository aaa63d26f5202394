use Rattle.std.proofs.Common.{◌≡◌, ◌<◌, ◌+◌, ◌*◌, ◌∙◌, ap, sym, refl, None, length, arith}
use Rattle.wasm_typing.specs.Typing.{at}
use Rattle.wasm_typing.specs.Broken.{DataMemory, DataPlace, DataPasses}
use Rattle.wasm_typing.proofs.Lists.{at_none, item_in}
use Rattle.wasm_typing.proofs.segments.check_data_segment.Goals as goal

pub returns-in_default-clause-broken : goal.returns-in_default-clause-broken
returns-in_default-clause-broken c k h =
    let missing : at c.args.given.now.memories c.args.segment.now.memory ≡ None =
    ap (λ ms. at ms c.args.segment.now.memory) (sym c.as_slice.ensures) ∙
    at_none c.as_slice.result.now c.args.segment.now.memory c.in_default.ensures.lookup.3 in
    DataMemory k c.args.segment.now h missing

pub returns-in_default-constant_of-clause-broken :
    goal.returns-in_default-constant_of-clause-broken
returns-in_default-constant_of-clause-broken c k h =
    DataPlace k c.args.segment.now h c.in_default-constant_of.ensures.constant

pub returns-then-not-is_inside-clause-broken : goal.returns-then-not-is_inside-clause-broken
returns-then-not-is_inside-clause-broken c k h =
    let segment = c.args.segment.now in
    let memory = item_in c.as_slice.result.now c.args.given.now.memories segment.memory c.in-Some.limits.now c.as_slice.ensures c.in-Some.ensures.lookup.3.0
    c.in-Some.ensures.lookup.1 in
    let offset = c.in-Some-constant_of.offset in
    let over : 65536 * c.in-Some.limits.now.least < offset + length segment.bytes = grind (arith, c.if-not-is_inside.ensures.1, c.len.ensures) in
    DataPasses k segment c.in-Some.limits.now offset h memory c.in-Some-constant_of.ensures.constant over

pub returns-clause-inside : goal.returns-clause-inside
returns-clause-inside c =
    let segment = c.args.segment.now in
    record {
      memory = c.in-Some.limits.now;
      exists = item_in c.as_slice.result.now c.args.given.now.memories segment.memory c.in-Some.limits.now c.as_slice.ensures c.in-Some.ensures.lookup.3.0
          c.in-Some.ensures.lookup.1;
      offset = c.in-Some-constant_of.offset;
      constant = c.in-Some-constant_of.ensures.constant;
      within = omega (arith, c.if-not-is_inside.ensures.0 refl, c.len.ensures);
    }
