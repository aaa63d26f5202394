-- Several peers beside one log.
use Rattle.std.specs.Prelude.{◌≡◌, ◌≤◌, ◌⊎◌, List, [], ◌++◌, IfSome, length}
use Rattle.fab_types.specs.Payloads.{Payload}
use Rattle.chaincode_book.specs.Books.{Book}
use Rattle.committer.specs.Fits.{blocks_of}
use Rattle.endorsement_policy.specs.Endorsed.{seal_of}
use Rattle.endorsement_policy.specs.Judge.{plain_after}
use Rattle.ledger_model.specs.Chain.{Bytes, Chain}
use Rattle.ledger_setting.specs.Limits.{limits_of}
use Rattle.ledger_setting.specs.Rule.{table_of}
use Rattle.ledger_setting.specs.declared.genesis.Genesis.{Genesis}
use Rattle.log_system.specs.Cuts.{IsCut}
use Rattle.log_system.specs.Machines.{Machine, Setting}
use Rattle.log_system.specs.Peers.{Deed, calls_in, calls_of}
use Rattle.log_system.specs.Restarts.{AreToldApart}
use Rattle.org_keys.specs.Signers.{Seeds}
use Rattle.simulator.specs.Execution.{IsPartOf}
use Rattle.store_replay.specs.Lawful.{AreLawful}
use Rattle.peer_answers.specs.Answering.{Peer}
use Rattle.peer_answers.specs.Placing.{place_in}
use Rattle.peer_answers.specs.declared.place.Place.TheVariants.{Stands}
use Rattle.cli_peer.specs.Alike.{logged_in}
use Rattle.cli_peer.specs.Filters.{AreDone}
use Rattle.cli_peer.specs.Logged.{Reached}
use Rattle.cli_peer.specs.Peering.{DoesLine, opened}
use Rattle.peer_laws.specs.Acting.{ActsLine, acting}

-- ---- what they have in common

-- where an organisation stands by the seeds of a genesis, it puts these on a payload by them
abbrev pub SealsAs : Setting → (org : Bytes) → Genesis → Type 0
SealsAs s org g =
    (chain : Chain) (payload : Payload) → place_in g chain org ≡ Stands →
    s.seal (plain_after chain) org payload ≡ seal_of g.rules.value g.signers.value (plain_after chain) org payload

-- A peer, of an organisation if it is of one, goes by what is one on all machines: the genesis is that, its modules at hand are some of those, and its
-- organisation seals as there
pub record GoesBy (s : Setting) (org : Bytes) (p : Peer) : Type 0 where
  pub listed : p.log.genesis.rules.value ≡ s.listed
  pub limits : limits_of p.log.genesis ≡ s.limits
  pub reorder : p.log.genesis.reorder ≡ s.reorder
  pub modules : IsPartOf p.log.genesis.book.value s.book
  pub seals : IfSome p.org (λ own. (own ≡ org) × SealsAs s own p.log.genesis)

-- what is one on all machines by a genesis, with the modules of a book at hand, where each organisation has these seeds
abbrev pub setting_by : Genesis → Book → (seeds : Bytes → Seeds) → Setting
setting_by g book seeds = record {
  book = book;
  listed = g.rules.value;
  seal = λ m org. seal_of g.rules.value (seeds org) m org;
  limits = limits_of g;
  reorder = g.reorder;
}

-- the same genesis, but for the modules and seeds at hand: the modules are some of the book's, and the seeds those of the peer's organisation
pub record HasGenesis (g : Genesis) (book : Book) (seeds : Bytes → Seeds) (p : Peer) : Type 0 where
  pub listed : p.log.genesis.rules.value ≡ g.rules.value
  pub limits : limits_of p.log.genesis ≡ limits_of g
  pub reorder : p.log.genesis.reorder ≡ g.reorder
  pub modules : IsPartOf p.log.genesis.book.value book
  pub signers : IfSome p.org (λ org. p.log.genesis.signers.value ≡ seeds org)

-- ---- one of them

-- A peer that follows a log, for an organisation if it is of one: the chain of its store as it was opened, the lines that it has done since with the text
-- that it printed of them, and what it has then
pub record Follower : Type 0 where
  pub peer : Peer
  pub org : Bytes
  pub stored : Chain
  pub lines : List Bytes
  pub text : Bytes
  pub new : Reached

-- the log itself, or the log as it is cut somewhere
abbrev pub IsOneLog : Setting → (log lines : List Bytes) → Type 0
IsOneLog s log lines = (lines ≡ log) ⊎ IsCut s log lines

-- It goes by the setting and did its lines as `Peers` says. It has read a beginning of this log, cut or whole, and has caught up with its store, and
-- hashes of headers tell the store's blocks from those that the log made
pub record Follows (s : Setting) (log : List Bytes) (f : Follower) : Type 0 where
  pub goes : GoesBy s f.org f.peer
  pub lawful : AreLawful (table_of f.peer.log.genesis.rules.value) [] f.stored
  pub done : AreDone (DoesLine f.peer) 1 (opened f.peer f.stored) f.lines f.text f.new
  pub later : List Bytes
  pub begins : IsOneLog s log (logged_in f.lines ++ later)
  pub caught_up : length f.new.held.chain ≤ length f.new.held.log.chain
  pub apart : AreToldApart (blocks_of f.stored) f.new.held.log.chain

-- the machine that it is: with its chain, and with the answers that it printed to calls, in their order
pub record IsMachineOf (f : Follower) (m : Machine) : Type 0 where
  pub org : m.org ≡ f.org
  pub chain : m.chain ≡ f.new.held.chain
  pub deeds : List Deed
  pub done : AreDone (ActsLine f.peer) 1 (acting (opened f.peer f.stored) []) f.lines f.text (acting f.new deeds)
  pub calls : calls_in m.acts ≡ calls_of deeds
