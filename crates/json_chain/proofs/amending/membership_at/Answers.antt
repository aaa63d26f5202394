use Rattle.std.proofs.Common.{◌∙◌, None, take, sym, ap}
use Rattle.json_chain.proofs.LastAmendment.{by_last, left_by}
use Rattle.json_chain.proofs.amending.membership_at.Goals as goal

pub returns-in-Some : goal.returns-in-Some
returns-in-Some c =
    c.amended_by.ensures ∙ ap left_by c.in-Some.ensures ∙ sym (by_last None (take c.args.height c.args.snapshot.now))

pub returns-in-None : goal.returns-in-None
returns-in-None c = ap left_by c.in-None.ensures ∙ sym (by_last None (take c.args.height c.args.snapshot.now))
