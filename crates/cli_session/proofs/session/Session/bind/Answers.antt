use Rattle.std.proofs.Common.{◌≡◌, ℕ, List, String, Global, IfOk, subst, string_bytes}
use Rattle.fabric_core.specs.declared.event.Reply.TheVariants.{Endorsed}
use Rattle.cli_session.specs.Replies.{endorsed_text}
use Rattle.cli_session.specs.Stages.{Gets}
use Rattle.cli_session.proofs.Steps.{bound_ok, line_printed}
use Rattle.cli_session.proofs.session.Session.bind.Goals as goal

pub returns-clause-prints : goal.returns-clause-prints
returns-clause-prints g c =
    let p = c.print_bound in
    let line = subst (λ (n : List ℕ). IfOk c.endorsed_line-line.result (λ (s : String Global). string_bytes s ≡ endorsed_text n c.args.payload))
    c.as_str.ensures.value c.endorsed_line-line.ensures in
    line_printed p.result c.endorsed_line-line.result c.args.out.now p.new.out _ line p.ensures.prints

pub returns-clause-names : goal.returns-clause-names
returns-clause-names g c =
    bound_ok c.print_bound.result c.bind-bound.result
    (Gets (string_bytes c.args.name) (Endorsed c.args.payload c.args.endorsement) c.args.self.now.bindings c.bind-bound.new.self)
    c.print_bound.ensures.bound c.bind-bound.ensures.ok
