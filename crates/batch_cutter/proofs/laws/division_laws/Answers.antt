use Rattle.std.proofs.Common.{◌++◌, map}
use Rattle.batch_cutter.specs.Division.{message}
use Rattle.batch_cutter.proofs.Divisions.{IsDivision-some, IsDivision-one, IsDivision-join, IsDivision-messages, no_end_inside, no_end_pending}
use Rattle.batch_cutter.proofs.laws.division_laws.Goals as goal

pub returns : goal.returns
returns g c = record {
  some = λ limits marks h. IsDivision-some g.M.Weigh.weight limits h marks;
  one = λ limits marks batches others pending rest d e. IsDivision-one g.M.Weigh.weight limits marks batches others pending rest d e;
  join =
      λ limits marks next batches more pending rest d e. IsDivision-join g.M.Weigh.weight limits marks next batches more pending rest d e;
  all = λ limits marks batches pending d. IsDivision-messages g.M.Weigh.weight limits marks batches pending d;
  first = λ limits front m back after o e. no_end_inside g.M.Weigh.weight limits front m back (map message back ++ after) o.counted o.together e;
  none = λ limits front back p e. no_end_pending g.M.Weigh.weight limits front back p e;
}
