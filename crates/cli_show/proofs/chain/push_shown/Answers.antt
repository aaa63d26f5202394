use Rattle.std.proofs.Common.{◌≡◌, ◌<◌, ◌+◌, ◌⊎◌, inl, inr, length, option_map, ap, ◌∙◌, string_bytes}
use Rattle.fab_types.specs.declared.block.Block.{Block}
use Rattle.cli_show.proofs.Behind.{on_ok}
use Rattle.cli_show.proofs.ShownLines.{shown_more, shown_same}
use Rattle.cli_show.proofs.chain.push_shown.Goals as goal

pub returns-then-number-span : goal.returns-then-number-span
returns-then-number-span c = λ chain shown is.
    let span = c.args.span in
    let n = c.get-number.result in
    let number : n ≡ length chain + 1 = c.get-number.ensures.value ∙ ap (λ (b : Block). b.header.number) c.block.ensures ∙ is in
    let out : (n < span.from) ⊎ (span.to < n) = elim c.then-number-span.either [ inl low ↦ inl low | inr high ↦ inr high.1 ] in
    shown_same c.args.rules.now span.from span.to n (option_map (λ m. m.now) c.args.membership) (string_bytes c.args.lines.now) chain c.args.committed.now
    number out shown

pub returns : goal.returns
returns c = λ chain shown is.
    let span = c.args.span in
    let n = c.get-number.result in
    let number : n ≡ length chain + 1 = c.get-number.ensures.value ∙ ap (λ (b : Block). b.header.number) c.block.ensures ∙ is in
    on_ok c.push_line.result _ _
    (λ h. shown_more c.args.rules.now span.from span.to n (option_map (λ m. m.now) c.args.membership) (string_bytes c.args.lines.now) chain
    c.args.committed.now (string_bytes c.in_ok-line.line) (string_bytes c.push_line.new.text) number c.if-number-span.false c.if-span-number.false shown
    c.in_ok-line.ensures h) c.push_line.ensures
