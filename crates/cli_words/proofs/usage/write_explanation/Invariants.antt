use Rattle.std.proofs.Common.{◌≡◌, [], map}
use denote.Shadow.{shadow}
use denote.Text.{Utf8}
use Rattle.std.specs.Fmt.{HasWritten, IsPlainFormatter}
use Rattle.cli_words.specs.UsageText.{behind, does_text}
use Rattle.cli_words.proofs.Behind.{lead_of}
use Rattle.cli_words.proofs.usage.write_explanation.Given as goal

abbrev pub invariant-loop-line : goal.invariant-loop-line
invariant-loop-line g l =
    shadow (Utf8 l.lead) × (l.lead ≡ lead_of l.fn.form.name.now [] (map (λ x. x.now) l.yielded))
    × (IsPlainFormatter l.fn.f
    → HasWritten g.W.Write.write_str_gives l.fn.f (behind does_text l.fn.form.name.now [] (map (λ x. x.now) l.yielded)) l.f)
