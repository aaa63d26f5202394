use Rattle.log_system.proofs.Firsts.{first_of, next_fits, older_machine, same_log}
use Rattle.log_system.proofs.laws.machines_follow_the_log.Goals as goal

pub returns : goal.returns
returns c =
    let behind = c.log_laws.ensures.behind in
    record {
      first = λ s lines told log machines m reads. first_of behind s lines told log reads machines m;
      one = λ s lines told log machines m n reads. same_log behind s lines told log reads machines m n;
      fits = λ s lines told log machines m next reads. next_fits behind s lines told log reads machines m next;
      conflicts = λ s lines told log machines m on reads. older_machine behind s lines told log reads machines m on;
    }
