use Rattle.std.proofs.Common.{◌∙◌, ap, not, sym}
use Rattle.std.specs.List.{list_all}
use Rattle.fab_types.specs.declared.edition.Edition.{Edition}
use Rattle.ledger_model.specs.Flags.{reads_settled}
use Rattle.mvcc_validate.proofs.reads.are_reads_settled.Goals as goal

pub returns-in-Second : goal.returns-in-Second
returns-in-Second c so_far h =
    c.are_reads_unwritten.ensures ∙ (λ i. list_all (λ r. not (h r.key i)) c.args.reads.now)
    ∙ ap (λ (e : Edition). reads_settled e so_far c.args.reads.now) (sym c.in-Second.is)
