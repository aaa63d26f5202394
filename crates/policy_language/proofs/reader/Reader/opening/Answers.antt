use Rattle.std.proofs.Common.{◌≡◌, None, inl, inr, refl, sym, ap, subst, ◌∙◌}
use Rattle.std.specs.Prelude.{codes}
use Rattle.policy_language.specs.Parsing.{IsAt}
use Rattle.policy_language.specs.Place.{Place, offset_of}
use Rattle.policy_language.specs.Reading.{word_at}
use Rattle.policy_language.specs.Wrong.{Bracket, CountBracket, Start}
use Rattle.policy_language.specs.declared.fault.PolicyFault.TheVariants.{Syntax}
use Rattle.policy_language.proofs.Places.{is_wrong, no_start, passed_word}
use Rattle.policy_language.proofs.reader.Reader.opening.Goals as goal

pub returns-then-word-clause-place : goal.returns-then-word-clause-place
returns-then-word-clause-place c = λ text n unquoted at.
    c.bracket.ensures.place text n (passed_word text (codes "AND") (Start n) (Bracket n) c.args.self.now c.word.new.self c.word.ensures.total
    (rw c.if-word.true at c.word.ensures.passed) (inr (inl (refl, refl))) at)

pub returns-then-word-2-clause-place : goal.returns-then-word-2-clause-place
returns-then-word-2-clause-place c = λ text n unquoted at.
    (let same = c.word.ensures.same c.if-word.false in
    c.bracket-then-word-2.ensures.place text n (passed_word text (codes "OR") (Start n) (Bracket n) c.word.new.self c.word-2.new.self
    c.word-2.ensures.total (rw c.if-word-2.true at c.word-2.ensures.passed) (inr (inr (inl (refl, refl)))) (subst (IsAt text (Start n)) (sym same) at)))

pub returns-then-word-3-clause-place : goal.returns-then-word-3-clause-place
returns-then-word-3-clause-place c = λ text n unquoted at.
    (let same = c.word-2.ensures.same c.if-word-2.false ∙ c.word.ensures.same c.if-word.false in
    c.out_of.ensures.place text n (passed_word text (codes "OutOf") (Start n) (CountBracket n) c.word-2.new.self c.word-3.new.self
    c.word-3.ensures.total (rw c.if-word-3.true at c.word-3.ensures.passed) (inr (inr (inr (refl, refl)))) (subst (IsAt text (Start n)) (sym same) at)))

pub returns-clause-place : goal.returns-clause-place
returns-clause-place c = λ text n unquoted at.
    (let place = c.args.self.now in
    let first = c.word.ensures.same c.if-word.false in
    let second = c.word-2.ensures.same c.if-word-2.false ∙ first in
    let third = c.word-3.ensures.same c.if-word-3.false ∙ second in
    let no_and = rw c.if-word.false at c.word.ensures.passed in
    let no_or = subst (λ (p : Place). word_at (codes "OR") p.rest ≡ None) first (rw c.if-word-2.false at c.word-2.ensures.passed) in
    let no_out_of = subst (λ (p : Place). word_at (codes "OutOf") p.rest ≡ None) second (rw c.if-word-3.false at c.word-3.ensures.passed) in
    is_wrong text (Start n) place c.syntax.result (no_start n place.rest unquoted no_and no_or no_out_of)
    (c.syntax.ensures ∙ ap (λ (p : Place). Syntax (offset_of p)) third) at)
