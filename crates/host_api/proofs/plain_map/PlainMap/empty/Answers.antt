use Rattle.std.proofs.Common.{ap, ◌∙◌}
use Rattle.host_api.specs.Plain.{plain_of}
use Rattle.host_api.proofs.Plain.{plain_none}
use Rattle.host_api.proofs.plain_map.PlainMap.empty.Goals as goal

pub returns : goal.returns
returns c = ap plain_of c.new.ensures.empty ∙ plain_none
