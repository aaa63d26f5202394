-- What a peer does line by line is what a machine does.
use Rattle.std.proofs.Common.{◌≡◌, ◌∙◌, ◌++◌, ◌+◌, ℕ, List, [], ◌∷◌, Option, Some, None, ap, ap₂, refl, subst, sym}
use Rattle.std.proofs.lemmas.List.{append-nil, append_assoc}
use Rattle.std.specs.Str.Lossy.{utf8_lossy}
use Rattle.endorsement_policy.specs.Endorsed.{Listed}
use Rattle.ledger_model.specs.Chain.{Bytes}
use Rattle.ledger_setting.specs.Rule.{table_of}
use Rattle.log_committer.specs.Peering.{Held, ReadsLine}
use Rattle.log_peer.specs.Peering.{told_by}
use Rattle.log_system.specs.Machines.{Setting}
use Rattle.log_system.specs.Peers.{Answers, Deed, DoesDeeds, Takes, lines_of}
use Rattle.peer_answers.specs.Answering.{Peer}
use Rattle.peer_answers.specs.Lines.{Asks, Logs, Said, said_in}
use Rattle.peer_answers.specs.declared.line.Request.TheVariants as request
use Rattle.cli_peer.specs.Alike.{logged_by, logged_in}
use Rattle.cli_peer.specs.Filters.{AreDone}
use Rattle.cli_peer.specs.Logged.{Reached}
use Rattle.cli_peer.specs.Peering.{DoesLine, DoesSaid}
use Rattle.peer_laws.specs.Acting.{ActsLine, AreDeeds, acting}
use Rattle.peer_laws.specs.Together.{GoesBy}
use Rattle.peer_laws.proofs.Calls.{PartsAnswerAlike, call_acts}

-- ---- deeds

deeds_joined : (s : Setting) (org : Bytes) (old mid new : Held) (deeds more : List Deed) → DoesDeeds s org old deeds mid → DoesDeeds s org mid more new →
    DoesDeeds s org old (deeds ++ more) new
deeds_joined s org old mid new [] more a b = subst (λ (h : Held). DoesDeeds s org h more new) a b
deeds_joined s org old mid new (Takes text ∷ deeds) more a b = (a.0, a.1, a.2, a.3, deeds_joined s org a.2 mid new deeds more a.4 b)
deeds_joined s org old mid new (Answers call ∷ deeds) more a b = (a.0, deeds_joined s org old mid new deeds more a.1 b)

lines_joined : (deeds more : List Deed) → lines_of (deeds ++ more) ≡ lines_of deeds ++ lines_of more
lines_joined [] more = refl
lines_joined (Takes text ∷ deeds) more = ap (λ (texts : List Bytes). text ∷ texts) (lines_joined deeds more)
lines_joined (Answers call ∷ deeds) more = lines_joined deeds more

-- ---- a line

-- the deeds of a line, which read what it says of the log
abbrev SaidActs : Setting → (org : Bytes) → (number : ℕ) → Reached → Option Said → (text : Bytes) → Reached → Type 0
SaidActs s org number old said text new =
    (deeds : List Deed) × AreDeeds number old.held.chain said text deeds × DoesDeeds s org old.held deeds new.held × (lines_of deeds ≡ logged_by said)

held_same : (old new : Reached) → new ≡ old → new.held ≡ old.held
held_same old new same = ap (λ (r : Reached). r.held) same

said_acts : PartsAnswerAlike → (s : Setting) (org : Bytes) (p : Peer) → GoesBy s org p → (number : ℕ) (old new : Reached) (l text : Bytes)
    (said : Option Said) → DoesSaid p number old l said text new → SaidActs s org number old said text new
said_acts alike s org p goes number old new l text (Some (Logs index line)) does =
    let reads = subst (λ (r : Listed). ReadsLine (table_of r) old.held line does.report (told_by does.told) new.held) goes.listed does.reads in
    (Takes line ∷ [], refl, (does.report, told_by does.told, new.held, reads, refl), refl)
said_acts alike s org p goes number old new l text (Some (Asks (request.Call agreed) tag words)) does =
    let acts = call_acts alike s org p goes number old.held l agreed tag words text does.0 in
    (acts.0, acts.1, subst (λ (h : Held). DoesDeeds s org old.held acts.0 h) (sym (held_same old new does.1)) acts.2, acts.3)
said_acts alike s org p goes number old new l text (Some (Asks request.Question tag words)) does = ([], refl, held_same old new does.1, refl)
said_acts alike s org p goes number old new l text (Some (Asks request.Seen tag words)) does = ([], refl, held_same old new does.1, refl)
said_acts alike s org p goes number old new l text None does = ([], refl, held_same old new does.1, refl)

-- ---- one line after another

-- the deeds of lines come behind those before, and read what the lines say of the log
pub lines_act : PartsAnswerAlike → (s : Setting) (org : Bytes) (p : Peer) → GoesBy s org p → (lines : List Bytes) (number : ℕ) (old new : Reached)
    (text : Bytes) (before : List Deed) → AreDone (DoesLine p) number old lines text new →
    (deeds : List Deed) × AreDone (ActsLine p) number (acting old before) lines text (acting new (before ++ deeds))
    × DoesDeeds s org old.held deeds new.held × (lines_of deeds ≡ logged_in lines)
lines_act alike s org p goes [] number old new text before done =
    ([], (done.0, λ i. acting (done.1 i) (append-nil before i)), held_same old new done.1, refl)
lines_act alike s org p goes (l ∷ lines) number old new text before done =
    let mid = done.2 in
    let here = said_acts alike s org p goes number old mid l done.0 (said_in (utf8_lossy l)) done.3 in
    let so_far = before ++ here.0 in
    let later = lines_act alike s org p goes lines (number + 1) mid new done.1 so_far done.4 in
    let rest = subst (λ (ds : List Deed). AreDone (ActsLine p) (number + 1) (acting mid so_far) lines done.1 (acting new ds))
    (append_assoc before here.0 later.0) later.1 in (
      here.0 ++ later.0,
      (done.0, done.1, acting mid so_far, (done.3, (here.0, here.1, refl)), rest, done.5),
      deeds_joined s org old.held mid.held new.held here.0 later.0 here.2 later.2,
      lines_joined here.0 later.0 ∙ ap₂ (λ (some more : List Bytes). some ++ more) here.3 later.3,
    )
