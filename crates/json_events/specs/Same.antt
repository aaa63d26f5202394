-- What it is that two actions ask for the same.
use Rattle.std.specs.Prelude.{◌≡◌, ℕ, map, String, Vec, string_bytes}
use Rattle.std.specs.declared.alloc.Global.{Global}
use Rattle.json_events.specs.declared.action.Action.{Action}
use Rattle.json_events.specs.declared.action.Action.TheVariants.{Begin, Finish, SubmitEndorsed, SubmitBytes, Take, Tick, Commit}

-- Both ask for the same. Where texts and lists lie in memory is not compared.
abbrev pub AsksSame : Action → Action → Type 0
AsksSame a (Begin peer seat p) = a ≡ Begin peer seat p
AsksSame a (Finish peer seat name) = (n : String Global) × (a ≡ Finish peer seat n) × (string_bytes n ≡ string_bytes name)
AsksSame a (SubmitEndorsed names) = (ns : Vec (String Global) Global) × (a ≡ SubmitEndorsed ns) × (map string_bytes ns.items ≡ map string_bytes names.items)
AsksSame a (SubmitBytes bytes) = (bs : Vec ℕ Global) × (a ≡ SubmitBytes bs) × (bs.items ≡ bytes.items)
AsksSame a Take = a ≡ Take
AsksSame a Tick = a ≡ Tick
AsksSame a (Commit peer) = a ≡ Commit peer
