use Rattle.std.proofs.Common.{◌≡◌, ◌+◌, ◌++◌, ℕ, List, [], ◌∷◌, Some, take, map, ap, ◌∙◌, subst, arith, string_bytes}
use Rattle.std.proofs.lemmas.List.{map-append}
use Rattle.hex.specs.Hex.{encode_lower}
use Rattle.ledger_model.specs.Chain.{Bytes, Envelope}
use Rattle.log_orderer.specs.Marks.{envelope_mark}
use Rattle.cli_lines.specs.Texts.{line}
use Rattle.cli_show.proofs.Cuts.{one_more}
use Rattle.cli_show.proofs.MarkLines.{text_behind}
use Rattle.cli_show.proofs.marking.push_envelopes.Goals as goal

pub loop-envelope-preserved : goal.loop-envelope-preserved
loop-envelope-preserved c =
    let k = c.loop-envelope.envelope-index in
    let es = c.args.envelopes.now in
    let e = c.envelope-item.result in
    let was = string_bytes c.loop-envelope.text in
    let now = string_bytes c.push_line.new.text in
    let taken = one_more k es e (omega (arith, c.loop-envelope-test.true)) c.envelope-item.is in
    let mark : string_bytes c.in_ok-mark.mark ≡ envelope_mark e =
    c.in_ok-mark.ensures ∙ ap (λ (bs : List ℕ). encode_lower bs) c.in_ok-encode_envelope.ensures.spelled in
    let put = subst (λ (t : Bytes). now ≡ was ++ line t) mark c.in_ok-push_line.ensures in
    text_behind (map envelope_mark (take k es)) (map envelope_mark (take (k + 1) es)) (envelope_mark e) (Some (string_bytes c.args.text.now))
    (Some was) (Some now) (ap (λ (xs : List Envelope). map envelope_mark xs) taken ∙ map-append envelope_mark (take k es) (e ∷ []))
    c.loop-envelope.invariant put
