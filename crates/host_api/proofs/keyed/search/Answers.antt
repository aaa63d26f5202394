use Rattle.std.proofs.Common.{refl, ap, ◌∙◌, is_eq}
use Rattle.std.proofs.lemmas.Option.{slice_get_read}
use Rattle.fab_types.specs.Order.{key_cmp}
use Rattle.host_api.proofs.Places.{found_there, found_other}
use Rattle.host_api.proofs.keyed.search.Goals as goal

pub returns-in-Some : goal.returns-in-Some
returns-in-Some g c =
    let lookup = c.in-Some.ensures.lookup in
    let there = slice_get_read c.args.items.now _ c.count_before-place.result c.in-Some.item.now refl lookup.3.0 lookup.1 in
    found_there g.T.Keyed.key_of c.args.key.now c.args.items.now c.count_before-place.result c.in-Some.item.now c.count_before-place.ensures there
    (c.if-is_eq.ensures ∙ ap is_eq (c.cmp.ensures ∙ ap (λ ks. key_cmp ks c.args.key.now) (c.as_slice.ensures.value ∙ c.key.ensures)))

pub returns-in_default : goal.returns-in_default
returns-in_default g c =
    let lookup = c.in-Some.ensures.lookup in
    let there = slice_get_read c.args.items.now _ c.count_before-place.result c.in-Some.item.now refl lookup.3.0 lookup.1 in
    found_other g.T.Keyed.key_of c.args.key.now c.args.items.now c.count_before-place.result c.in-Some.item.now c.count_before-place.ensures there
    (c.if-is_eq.ensures ∙ ap is_eq (c.cmp.ensures ∙ ap (λ ks. key_cmp ks c.args.key.now) (c.as_slice.ensures.value ∙ c.key.ensures)))
