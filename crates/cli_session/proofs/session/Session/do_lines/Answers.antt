use Rattle.std.proofs.Common.{ℕ, List, [], ◌∷◌, ◌++◌, ◌∙◌, inl, inr, refl, subst}
use Rattle.std.proofs.lemmas.Result.{err_from_is_err_and}
use Rattle.cli_lines.proofs.Printing.{nothing_same, on_err}
use Rattle.cli_lines.proofs.Silence.{tells_by}
use Rattle.cli_session.specs.Reading.{IsNext}
use Rattle.cli_session.specs.Running.{IsBadLine, IsLine, StopsAt}
use Rattle.cli_session.specs.Stages.{DoesPrint, stage_at}
use Rattle.cli_session.specs.declared.reading.Next.{Next}
use Rattle.cli_session.proofs.Begun.{does_first}
use Rattle.cli_session.proofs.Pieces.{lines_all, lines_more, lines_none}
use Rattle.cli_session.proofs.Several.{no_lines, line_more, meets, meets_or_lost, one_line_more}
use Rattle.cli_session.proofs.session.Session.do_lines.Goals as goal

pub loop-number-init : goal.loop-number-init
loop-number-init g c =
    ([], refl, lines_none (g.B.Read.remaining c.args.lines.now), no_lines (stage_at c.args.self.now.system c.args.self.now.bindings) c.args.out.now, refl)

pub loop-number-preserved : goal.loop-number-preserved
loop-number-preserved g c =
    let before = c.loop-number.invariant in
    let l = c.in-Line.line.items in
    let old = g.B.Read.remaining c.loop-number.lines in
    let new = g.B.Read.remaining c.next_explained.new.lines in
    let next = subst (λ (n : Next). IsNext n old new) c.in-Line.is c.in_ok-line.ensures.next in
    let first = stage_at c.args.self.now.system c.args.self.now.bindings in
    let mid = stage_at c.loop-number.self.system c.loop-number.self.bindings in
    let last = stage_at c.take_explained.new.self.system c.take_explained.new.self.bindings in
    let does = subst (λ (bs : List ℕ). DoesPrint (IsLine bs) mid last c.loop-number.out c.take_explained.new.out) c.deref.ensures.value
    c.in_ok-take_explained-in-Line.ensures.does in (
      before.0 ++ l ∷ [],
      one_line_more c.loop-number.number before.0 l before.1,
      lines_more (g.B.Read.remaining c.args.lines.now) old new before.0 l before.2 next,
      line_more before.0 l first mid last c.args.out.now c.loop-number.out c.take_explained.new.out before.3 does,
      c.take_explained.ensures.kept ∙ c.next_explained.ensures.kept ∙ before.4,
    )

pub returns-in-End-clause-does : goal.returns-in-End-clause-does
returns-in-End-clause-does g c =
    let all = c.loop-number.invariant in
    let old = g.B.Read.remaining c.loop-number.lines in
    let new = g.B.Read.remaining c.next_explained.new.lines in
    let none = subst (λ (n : Next). IsNext n old new) c.in-End.is c.in_ok-line.ensures.next in
    record { lines = all.0; all = lines_all (g.B.Read.remaining c.args.lines.now) old all.0 all.2 none; does = all.3 }

pub returns-in-TooLong-clause-stops : goal.returns-in-TooLong-clause-stops
returns-in-TooLong-clause-stops g c =
    let all = c.loop-number.invariant in
    let old = g.B.Read.remaining c.loop-number.lines in
    let new = g.B.Read.remaining c.next_explained.new.lines in
    let long = subst (λ (n : Next). IsNext n old new) c.in-TooLong.is c.in_ok-line.ensures.next in
    inr (meets (g.B.Read.remaining c.args.lines.now) old all.0 long.0
    (stage_at c.args.self.now.system c.args.self.now.bindings) (stage_at c.loop-number.self.system c.loop-number.self.bindings)
    c.args.out.now c.loop-number.out c.loop-number.out c.loop-number.number _ all.1 all.2 all.3 long.2 refl (inl long.1) refl)

pub returns-in_err-line : goal.returns-in_err-line
returns-in_err-line g c =
    let p = err_from_is_err_and c.from_residual.result c.from_residual.ensures.1 in
    rw (p.1, p.2) (record {
      tells = tells_by c.args.out.now c.loop-number.out _ c.loop-number.invariant.3.3.more c.in_err-line.ensures.silent;
      does = tt;
      stops = inl c.in_err-line.ensures.lost;
      first =
          let all = c.loop-number.invariant in
          does_first (g.B.Read.remaining c.args.lines.now) (g.B.Read.remaining c.loop-number.lines) all.0
          (stage_at c.args.self.now.system c.args.self.now.bindings) (stage_at c.loop-number.self.system c.loop-number.self.bindings)
          c.args.out.now c.loop-number.out c.loop-number.out all.2 all.3 (nothing_same c.loop-number.out);
      kept = c.in_err-line.ensures.kept ∙ c.loop-number.invariant.4;
    })

pub returns-in_err-take_explained-in-Line-clause-stops : goal.returns-in_err-take_explained-in-Line-clause-stops
returns-in_err-take_explained-in-Line-clause-stops g c =
    let r = c.from_residual-in_err-take_explained-in-Line in
    let p = err_from_is_err_and r.result r.ensures.1 in
    let all = c.loop-number.invariant in
    let l = c.in-Line.line.items in
    let number = c.loop-number.number in
    let bindings = c.loop-number.self.bindings in
    let old = g.B.Read.remaining c.loop-number.lines in
    let new = g.B.Read.remaining c.next_explained.new.lines in
    let f = c.in_err-take_explained-in-Line.field-0.0 in
    let u = c.loop-number.out in
    let v = c.take_explained.new.out in
    let next = subst (λ (n : Next). IsNext n old new) c.in-Line.is c.in_ok-line.ensures.next in
    let stop = subst (λ (bs : List ℕ). StopsAt number (IsBadLine bs bindings) u v f) c.deref.ensures.value
    c.in_err-take_explained-in-Line.ensures.stops in
    rw (p.1, p.2) (meets_or_lost (g.B.Read.remaining c.args.lines.now) old new all.0 l
    (stage_at c.args.self.now.system c.args.self.now.bindings) (stage_at c.loop-number.self.system bindings)
    c.args.out.now u v number f all.1 all.2 all.3 next stop)

pub returns-in_err-take_explained-in-Line-clause-first : goal.returns-in_err-take_explained-in-Line-clause-first
returns-in_err-take_explained-in-Line-clause-first g c =
    let all = c.loop-number.invariant in
    on_err c.from_residual-in_err-take_explained-in-Line.result _
    (does_first (g.B.Read.remaining c.args.lines.now) (g.B.Read.remaining c.loop-number.lines) all.0
    (stage_at c.args.self.now.system c.args.self.now.bindings) (stage_at c.loop-number.self.system c.loop-number.self.bindings)
    c.args.out.now c.loop-number.out c.take_explained.new.out all.2 all.3 c.in_err-take_explained-in-Line.ensures.nothing)

pub returns-in-TooLong-clause-first : goal.returns-in-TooLong-clause-first
returns-in-TooLong-clause-first g c =
    let all = c.loop-number.invariant in
    does_first (g.B.Read.remaining c.args.lines.now) (g.B.Read.remaining c.loop-number.lines) all.0
    (stage_at c.args.self.now.system c.args.self.now.bindings) (stage_at c.loop-number.self.system c.loop-number.self.bindings)
    c.args.out.now c.loop-number.out c.loop-number.out all.2 all.3 (nothing_same c.loop-number.out)

pub returns-clause-first : goal.returns-clause-first
returns-clause-first g c =
    let all = c.loop-number.invariant in
    does_first (g.B.Read.remaining c.args.lines.now) (g.B.Read.remaining c.loop-number.lines) all.0
    (stage_at c.args.self.now.system c.args.self.now.bindings) (stage_at c.loop-number.self.system c.loop-number.self.bindings)
    c.args.out.now c.loop-number.out c.loop-number.out all.2 all.3 (nothing_same c.loop-number.out)

pub returns-in-End-clause-kept : goal.returns-in-End-clause-kept
returns-in-End-clause-kept g c = c.next_explained.ensures.kept ∙ c.loop-number.invariant.4

pub returns-in-TooLong-clause-kept : goal.returns-in-TooLong-clause-kept
returns-in-TooLong-clause-kept g c = c.next_explained.ensures.kept ∙ c.loop-number.invariant.4

pub returns-in_err-take_explained-in-Line-clause-kept : goal.returns-in_err-take_explained-in-Line-clause-kept
returns-in_err-take_explained-in-Line-clause-kept g c = c.take_explained.ensures.kept ∙ c.next_explained.ensures.kept ∙ c.loop-number.invariant.4

pub returns-clause-kept : goal.returns-clause-kept
returns-clause-kept g c = c.loop-number.invariant.4
