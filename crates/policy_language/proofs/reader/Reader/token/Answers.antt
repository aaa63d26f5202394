use Rattle.std.proofs.Common.{sym, ap, ◌∙◌}
use Rattle.policy_language.specs.Reading.{tag_at, token_at}
use Rattle.policy_language.proofs.reader.Reader.token.Goals as goal

pub returns-then-not-tag-clause-missed : goal.returns-then-not-tag-clause-missed
unfolding token_at
returns-then-not-tag-clause-missed c =
    (c.syntax.ensures, ap (tag_at c.args.byte) (sym c.skip_spaces.ensures.rest) ∙ (rw c.if-not-tag.true at c.tag.ensures.passed))
