use Rattle.std.proofs.Common.{inl, refl, sym, append-nil}
use Rattle.log_orderer.proofs.replica.Replica.read.Goals as goal

pub returns-in-Err-Nothing-clause-read : goal.returns-in-Err-Nothing-clause-read
returns-in-Err-Nothing-clause-read c =
    let why = rw c.in-Err-Nothing.field-0-is at c.in-Err-Nothing.ensures.nothing in
    (inl why.0, refl)

pub returns-in-Err-Nothing-clause-blocks : goal.returns-in-Err-Nothing-clause-blocks
returns-in-Err-Nothing-clause-blocks c = record { chain = sym (append-nil c.args.self.now.chain); own = tt }
