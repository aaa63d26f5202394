-- Peers that have read beginnings of one log are machines beside it.
use Rattle.std.proofs.Common.{◌≡◌, ◌≤◌, ◌<◌, ◌++◌, inl, inr, ℕ, List, [], ◌∷◌, Option, Some, None, IfSome, length, ap, ap₂, refl, subst, sym}
use Rattle.std.specs.List.{AllByRecursion, AllZip}
use Rattle.chaincode_book.specs.Books.{Book}
use Rattle.committer.specs.Fits.{blocks_of}
use Rattle.endorsement_policy.specs.Endorsed.{Listed, seal_of}
use Rattle.endorsement_policy.specs.Judge.{plain_after}
use Rattle.ledger_model.specs.Chain.{Bytes, Chain}
use Rattle.ledger_setting.specs.Rule.{table_of}
use Rattle.ledger_setting.specs.declared.genesis.Genesis.{Genesis}
use Rattle.log_committer.specs.Peering.{Held}
use Rattle.log_orderer.specs.Log.{ReadsEach}
use Rattle.log_system.specs.Cuts.{IsCut}
use Rattle.log_system.specs.Machines.{Act, AreMachines, DoesEach, Machine, Setting, unread}
use Rattle.log_system.specs.OneSystem.{IsOneSystem}
use Rattle.log_system.specs.Peers.{Deed, DoesDeeds, IsMachine, begun, calls_of, lines_of}
use Rattle.log_system.specs.Restarts.{AreToldApart}
use Rattle.orderer.specs.Ordering.{AreLimits, Ordering}
use Rattle.orderer.specs.declared.report.BatchReport.{BatchReport}
use Rattle.org_keys.specs.Signers.{Seeds}
use Rattle.store_replay.specs.Lawful.{AreLawful}
use Rattle.peer_answers.specs.Answering.{Peer}
use Rattle.cli_peer.specs.Alike.{logged_in}
use Rattle.cli_peer.specs.Peering.{opened}
use Rattle.peer_laws.specs.Together.{Follower, Follows, GoesBy, HasGenesis, IsMachineOf, IsOneLog, SealsAs, setting_by}
use Rattle.peer_laws.proofs.Calls.{PartsAnswerAlike}
use Rattle.peer_laws.proofs.Lines.{lines_act}

-- what holds of a peer of a log, and of machines beside one
abbrev pub ArePeersMachines : Type 0
ArePeersMachines =
    (s : Setting) (later : List (List ℕ)) (org : Bytes) (stored : Chain) (deeds : List Deed) (new : Held) → AreLawful (table_of s.listed) [] stored →
    DoesDeeds s org (begun s stored) deeds new → AreToldApart (blocks_of stored) new.log.chain → length new.chain ≤ length new.log.chain →
    IsMachine s (lines_of deeds ++ later) org (calls_of deeds) new.chain

abbrev pub AreOneSystem : Type 0
AreOneSystem =
    (s : Setting) (seats capacity : ℕ) (lines : List (List ℕ)) (answers : List (Option (List BatchReport))) (log : Ordering) (machines : List Machine) →
    AreLimits s.limits → 0 < seats → 0 < capacity → ReadsEach (unread s) lines answers log → AreMachines s lines machines →
    IsOneSystem s seats capacity lines answers log machines

abbrev pub IsCutOneLog : Type 0
IsCutOneLog =
    (s : Setting) (lines cut : List (List ℕ)) (org : Bytes) (acts : List Act) (old new : Chain) → IsCut s lines cut → DoesEach s cut org old acts new →
    DoesEach s lines org old acts new

-- ---- by what peers go

seals_so : (g : Genesis) (book : Book) (seeds : Bytes → Seeds) (own : Genesis) (org : Option Bytes) (name : Bytes) → own.rules.value ≡ g.rules.value →
    IfSome org (λ o. own.signers.value ≡ seeds o) → IfSome org (λ o. o ≡ name) →
    IfSome org (λ o. (o ≡ name) × SealsAs (setting_by g book seeds) o own)
seals_so g book seeds own None name rules signers is = tt
seals_so g book seeds own (Some o) name rules signers is = (
  is,
  λ chain payload stands. sym (ap₂ (λ (r : Listed) (ss : Seeds). seal_of r ss (plain_after chain) o payload) rules signers),
)

pub goes_by : (g : Genesis) (book : Book) (seeds : Bytes → Seeds) (p : Peer) (org : Bytes) → HasGenesis g book seeds p → IfSome p.org (λ own. own ≡ org) →
    GoesBy (setting_by g book seeds) org p
goes_by g book seeds p org has is = record {
  listed = has.listed;
  limits = has.limits;
  reorder = has.reorder;
  modules = has.modules;
  seals = seals_so g book seeds p.log.genesis p.org org has.listed has.signers is;
}

-- ---- peers as machines

-- who goes by a setting begins as its peers do
begins_so : (s : Setting) (org : Bytes) (p : Peer) (stored : Chain) → GoesBy s org p → (opened p stored).held ≡ begun s stored
begins_so s org p stored goes =
    λ i.
    let log : Ordering =
    record { edition = (goes.listed i).edition; reorder = goes.reorder i; limits = goes.limits i; pending = []; chain = [] } in
    let held : Held = record { log = log; chain = stored } in
    held

-- who does this beside a log, cut or whole, does it beside the log
beside_one : IsCutOneLog → (s : Setting) (log lines : List Bytes) (org : Bytes) (acts : List Act) (new : Chain) → IsOneLog s log lines →
    DoesEach s lines org [] acts new → DoesEach s log org [] acts new
beside_one cuts s log lines org acts new (inl same) does = subst (λ (texts : List Bytes). DoesEach s texts org [] acts new) same does
beside_one cuts s log lines org acts new (inr cut) does = cuts s log lines org acts [] new cut does

pub follower_is_machine : PartsAnswerAlike → ArePeersMachines → IsCutOneLog → (s : Setting) (lines : List Bytes) (f : Follower) → Follows s lines f →
    (m : Machine) × IsMachineOf f m × DoesEach s lines m.org [] m.acts m.chain
follower_is_machine alike law cuts s lines f is =
    let acts = lines_act alike s f.org f.peer is.goes f.lines 1 (opened f.peer f.stored) f.new f.text [] is.done in
    let does = subst (λ (h : Held). DoesDeeds s f.org h acts.0 f.new.held) (begins_so s f.org f.peer f.stored is.goes) acts.2 in
    let lawful = subst (λ (l : Listed). AreLawful (table_of l) [] f.stored) is.goes.listed is.lawful in
    let made = law s is.later f.org f.stored acts.0 f.new.held lawful does is.apart is.caught_up in
    let does_so = subst (λ (texts : List Bytes). DoesEach s (texts ++ is.later) f.org [] made.acts f.new.held.chain) acts.3 made.does in
    let m : Machine = record { org = f.org; acts = made.acts; chain = f.new.held.chain } in (
      m,
      record { org = refl; chain = refl; deeds = acts.0; done = acts.1; calls = made.answered },
      beside_one cuts s lines (logged_in f.lines ++ is.later) f.org made.acts f.new.held.chain is.begins does_so,
    )

followers_are_machines : PartsAnswerAlike → ArePeersMachines → IsCutOneLog → (s : Setting) (lines : List Bytes) (followers : List Follower) →
    AllByRecursion (Follows s lines) followers →
    (machines : List Machine) × AllZip IsMachineOf followers machines × AreMachines s lines machines
followers_are_machines alike law cuts s lines [] are = ([], tt, tt)
followers_are_machines alike law cuts s lines (f ∷ followers) are =
    let one = follower_is_machine alike law cuts s lines f are.0 in
    let others = followers_are_machines alike law cuts s lines followers are.1 in
    (one.0 ∷ others.0, (one.1, others.1), (one.2, others.2))

pub followers_are_one_system : PartsAnswerAlike → ArePeersMachines → IsCutOneLog → AreOneSystem → (s : Setting) (seats capacity : ℕ) (lines : List Bytes)
    (answers : List (Option (List BatchReport))) (log : Ordering) (followers : List Follower) → AreLimits s.limits → 0 < seats → 0 < capacity →
    ReadsEach (unread s) lines answers log → AllByRecursion (Follows s lines) followers →
    (machines : List Machine) × AllZip IsMachineOf followers machines × AreMachines s lines machines
    × IsOneSystem s seats capacity lines answers log machines
followers_are_one_system alike law cuts system s seats capacity lines answers log followers limits some room reads are =
    let made = followers_are_machines alike law cuts s lines followers are in
    (made.0, made.1, made.2, system s seats capacity lines answers log made.0 limits some room reads made.2)
