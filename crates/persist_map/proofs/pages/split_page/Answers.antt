use Rattle.std.proofs.Common.{arith, ◌≡◌, ◌∙◌, ap, sym, length, take, drop, [], ◌∷◌}
use Rattle.std.proofs.lemmas.List.{take-map, drop-map, length-map}
use Rattle.persist_map.specs.Pages.{shared, pages_of, page_at}
use Rattle.persist_map.specs.Changes.{placed, replaced}
use Rattle.persist_map.proofs.Reading.{on_ok, page_shared}
use Rattle.persist_map.proofs.Changes.{size_placed}
use Rattle.persist_map.proofs.pages.split_page.Goals as goal

pub with_entry-requires : goal.with_entry-requires
with_entry-requires g c =
    let ps = pages_of c.args.pages.now.items in
    let page : shared c.deref.result.now ≡ page_at ps c.args.page =
    page_shared c.args.pages.now.items c.args.page c.index.result.now c.deref-old.result.now c.deref.result.now
    (omega (arith, c.args.pages.now.ok.0, c.requires.page)) c.index.ensures c.deref-old.ensures c.deref.ensures.value in
    let long : length c.deref.result.now ≡ length (page_at ps c.args.page) = sym (length-map c.deref.result.now (λ e. e.value)) ∙ ap length page in
    record { at = omega (arith, long, c.requires.at); next = omega (arith, long, c.requires.next); size = omega (arith, long, c.requires.size) }

pub split_off-requires : goal.split_off-requires
split_off-requires g c =
    let p = page_at (pages_of c.args.pages.now.items) c.args.page in
    let page : shared c.deref.result.now ≡ p =
    page_shared c.args.pages.now.items c.args.page c.index.result.now c.deref-old.result.now c.deref.result.now
    (omega (arith, c.args.pages.now.ok.0, c.requires.page)) c.index.ensures c.deref-old.ensures c.deref.ensures.value in
    let first = c.in_ok-first.first in
    let whole : shared first.items ≡ placed p c.args.place c.args.entry.value =
    c.in_ok-first.ensures ∙ ap (λ q. placed q c.args.place c.args.entry.value) page in
    let size = size_placed p c.args.place c.args.entry.value c.requires.at c.requires.next in
    omega (arith, size, c.requires.full, ap length whole, length-map first.items (λ e. e.value), first.ok.0)

pub returns-clause-ok : goal.returns-clause-ok
returns-clause-ok g c =
    let ps = pages_of c.args.pages.now.items in
    let page : shared c.deref.result.now ≡ page_at ps c.args.page =
    page_shared c.args.pages.now.items c.args.page c.index.result.now c.deref-old.result.now c.deref.result.now
    (omega (arith, c.args.pages.now.ok.0, c.requires.page)) c.index.ensures c.deref-old.ensures c.deref.ensures.value in
    let whole : shared c.in_ok-first.first.items ≡ placed (page_at ps c.args.page) c.args.place c.args.entry.value =
    c.in_ok-first.ensures ∙ ap (λ p. placed p c.args.place c.args.entry.value) page in
    let left = ap shared c.in_ok-rest.ensures.items ∙ sym (take-map (λ e. e.value) 32 c.in_ok-first.first.items) ∙ ap (take 32) whole in
    let right = ap shared c.in_ok-rest.ensures.tail ∙ sym (drop-map (λ e. e.value) 32 c.in_ok-first.first.items) ∙ ap (drop 32) whole in
    on_ok c.set_pages.result _ _ c.set_pages.ensures.ok (λ n. n ∙ (λ i. replaced ps c.args.page (left i ∷ right i ∷ [])))

pub returns-clause-err : goal.returns-clause-err
returns-clause-err g c = c.set_pages.ensures.err
