use Rattle.std.proofs.Common.{ℕ, sym, ◌∙◌, arith}
use Rattle.checkpoint.proofs.Spans.{some_size, some_there}
use Rattle.checkpoint.proofs.writing.size_at.Goals as goal

pub returns-in-Some : goal.returns-in-Some
returns-in-Some c = λ chain are inside small.
    let span : ℕ × ℕ = (c.in-Some.begin, c.in-Some.end) in
    c.saturating_sub.ensures
    ∙ some_size chain c.args.places.now c.in-Ok.number c.args.before are (omega (arith, c.in-Ok.ensures)) inside span (sym c.in-Some.is ∙ c.span.ensures.value)

pub returns-in-None : goal.returns-in-None
returns-in-None c = λ chain are inside small.
    some_there chain c.args.places.now c.in-Ok.number c.args.before are (omega (arith, c.in-Ok.ensures)) inside (sym c.in-None.is ∙ c.span.ensures.value)
