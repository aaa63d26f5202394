use Rattle.std.proofs.Common.{◌≡◌, ◌<◌, ◌≤◌, ◌+◌, ◌∙◌, ap, sym, refl, None, length, arith}
use Rattle.wasm_typing.specs.Typing.{at}
use Rattle.wasm_typing.specs.ModuleRules.{type_indices}
use Rattle.wasm_typing.specs.Broken.{ElementTable, ElementFunction, ElementPlace, ElementsPass}
use Rattle.wasm_typing.proofs.Lists.{at_none, item_in}
use Rattle.wasm_typing.proofs.segments.check_element.Goals as goal

pub returns-in_default-clause-broken : goal.returns-in_default-clause-broken
returns-in_default-clause-broken c k h =
    let segment = c.args.segment.now in
    let missing : at c.args.given.now.tables segment.table ≡ None =
    ap (λ ts. at ts segment.table) (sym c.as_slice.ensures) ∙ at_none c.as_slice.result.now segment.table c.in_default.ensures.lookup.3 in
    ElementTable k segment h missing

pub returns-then-not-are_below-clause-broken : goal.returns-then-not-are_below-clause-broken
returns-then-not-are_below-clause-broken c k h =
    let segment = c.args.segment.now in
    let found = c.if-not-are_below.ensures.some refl in
    let many : length (type_indices c.args.given.now) ≤ found.1 = omega (arith, found.3, ap length c.requires) in
    ElementFunction k segment found.0 found.1 h (ap (λ fs. at fs found.0) (sym c.as_slice-2.ensures) ∙ found.2) many

pub returns-in_default-constant_of-clause-broken :
    goal.returns-in_default-constant_of-clause-broken
returns-in_default-constant_of-clause-broken c k h =
    ElementPlace k c.args.segment.now h c.in_default-constant_of.ensures.constant

pub returns-then-not-is_inside-clause-broken : goal.returns-then-not-is_inside-clause-broken
returns-then-not-is_inside-clause-broken c k h =
    let segment = c.args.segment.now in
    let table = item_in c.as_slice.result.now c.args.given.now.tables segment.table c.in-Some.limits.now c.as_slice.ensures c.in-Some.ensures.lookup.3.0
    c.in-Some.ensures.lookup.1 in
    let offset = c.in-Some-constant_of.offset in
    let over : c.in-Some.limits.now.least < offset + length segment.functions = grind (arith, c.if-not-is_inside.ensures.1, c.len.ensures) in
    ElementsPass k segment c.in-Some.limits.now offset h table c.in-Some-constant_of.ensures.constant over

pub returns-clause-inside : goal.returns-clause-inside
returns-clause-inside c =
    let segment = c.args.segment.now in
    let below = c.if-not-are_below.ensures.all refl in
    record {
      table = c.in-Some.limits.now;
      exists = item_in c.as_slice.result.now c.args.given.now.tables segment.table c.in-Some.limits.now c.as_slice.ensures c.in-Some.ensures.lookup.3.0
          c.in-Some.ensures.lookup.1;
      functions = λ k f e. let lt = below k f (ap (λ fs. at fs k) c.as_slice-2.ensures ∙ e) in omega (arith, lt, ap length c.requires);
      offset = c.in-Some-constant_of.offset;
      constant = c.in-Some-constant_of.ensures.constant;
      within = omega (arith, c.if-not-is_inside.ensures.0 refl, c.len.ensures);
    }
