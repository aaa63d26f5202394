-- A whole run: its lines, and what is printed behind them.
use Rattle.std.specs.Prelude.{◌≡◌, ◌++◌, ◌⊎◌, ℕ, suc, Bool, true, false, List, [], ◌∷◌, length, Option, Some, None, IfSome, Result, Ok, Err}
use Rattle.std.specs.List.{list_any}
use Rattle.json_events.specs.Bound.{bound_as}
use Rattle.chaincode_book.specs.Books.{Book}
use Rattle.ledger_model.specs.Chain.{Chain}
use Rattle.simulator.specs.Execution.{exec_of}
use Rattle.ledger_setting.specs.Limits.{limits_of}
use Rattle.ledger_setting.specs.declared.genesis.Genesis.{Genesis}
use Rattle.fabric_core.specs.System.{Rules, chain_of, opening}
use Rattle.fabric_core.specs.Inside.{rules_of}
use Rattle.fabric_core.specs.Headline.{IsRun}
use Rattle.fabric_core.specs.declared.event.Event.{Event}
use Rattle.fabric_core.specs.declared.event.Reply.{Reply}
use Rattle.cli_lines.specs.Sealing.{lacks_seed}
use Rattle.cli_lines.specs.Told.{Told, Prints}
use Rattle.cli_lines.specs.declared.failure.Failure.{Failure}
use Rattle.cli_lines.specs.declared.failure.Failure.TheVariants as failure
use Rattle.cli_session.specs.Reading.{HasFirst, lines_in}
use Rattle.cli_session.specs.States.{state_text}
use Rattle.cli_session.specs.Stages.{Stage, first_chain}
use Rattle.cli_session.specs.Running.{AreLines, IsBadLine, events_of, replies_of}
use Rattle.cli_session.specs.Verdicts.{IsVerdict, is_good, verdict_text}
use Rattle.cli_session.specs.declared.verdict.Verdict.{Verdict}

-- behind the lines: the state after a chain, and what is said of it; nothing, where there is no peer
abbrev pub EndsWith : Book → Option Chain → Bool → List ℕ → Type 0
EndsWith book None good text = (good ≡ true) × (text ≡ [])
EndsWith book (Some chain) good text =
    (verdict : Verdict) × IsVerdict book chain verdict × (good ≡ is_good verdict) × (text ≡ state_text chain ++ verdict_text verdict)

-- with some answer
abbrev pub IsEnd : Book → Option Chain → List ℕ → Type 0
IsEnd book chain text = (good : Bool) × EndsWith book chain good text

abbrev pub EndsPrinted : Book → Option Chain → Bool → (before after : Told) → Type 0
EndsPrinted book chain good before after = (text : List ℕ) × EndsWith book chain good text × Prints before after text

-- what a genesis fixes for the steps
abbrev pub rules_by : Genesis → Rules
rules_by g = rules_of (exec_of g.book.value) g.rules.value g.signers.value g.queue

-- at the opening no name stands for anything
pub record IsOpening (g : Genesis) (s : Stage) : Type 0 where
  pub system : s.system ≡ record {
    book = g.book.value;
    rules = g.rules.value;
    seeds = g.signers.value;
    capacity = g.queue;
    world = opening g.rules.value.edition g.peers.items g.seats (limits_of g) g.reorder;
  }
  pub names : (name : List ℕ) → bound_as s.names name ≡ None

-- These lines are done from the opening on, and their steps are a run of the system. Behind what they print stands what is printed
-- of the first peer's chain, which is stored
pub record IsWholeRun (g : Genesis) (IsStored : Option Chain → Type 0) (lines : List (List ℕ)) (good : Bool) (text : List ℕ) : Type 0 where
  pub start : Stage
  pub end : Stage
  pub told : List (Event × Reply)
  pub front : List ℕ
  pub rest : List ℕ
  pub opens : IsOpening g start
  pub does : AreLines lines start told front end
  pub run : IsRun (rules_by g) g.peers.items g.seats (limits_of g) g.reorder (events_of told) (replies_of told) end.system.world false
  pub ends : EndsWith g.book.value (chain_of (rules_by g) end.system.world 0) good rest
  pub stored : IsStored (chain_of (rules_by g) end.system.world 0)
  pub whole : text ≡ front ++ rest

-- Behind the lines that are done comes the line of this number, counted from 1, which is a bad one
pub record EndsAtBadLine (g : Genesis) (events : Option (List ℕ)) (number : ℕ) (text : List ℕ) : Type 0 where
  pub lines : List (List ℕ)
  pub next : List ℕ
  pub start : Stage
  pub end : Stage
  pub told : List (Event × Reply)
  pub first : HasFirst events (lines ++ next ∷ [])
  pub opens : IsOpening g start
  pub does : AreLines lines start told text end
  pub bad : IsBadLine next end.names
  pub counted : number ≡ suc (length lines)

-- What the lines of an events file come to, which holds these bytes, as far as that is known: a whole run, or one that ends at a bad line
abbrev pub LinesComeTo : Genesis → Option (List ℕ) → (Option Chain → Type 0) → Result Bool Failure → List ℕ → Type 0
LinesComeTo g events IsStored (Ok good) text =
    (lines : List (List ℕ)) × IfSome events (λ bytes. lines ≡ lines_in bytes) × IsWholeRun g IsStored lines good text
LinesComeTo g events IsStored (Err (failure.BadLine number)) text = EndsAtBadLine g events number text
LinesComeTo g events IsStored (Err f) text = ⊥

-- a peer's organisation lacks its seed
abbrev pub a_peer_lacks_seed : Genesis → Bool
a_peer_lacks_seed g = list_any (lacks_seed g.rules.value g.signers.value) g.peers.items

-- What `run` answers and prints: what its lines come to, or nothing where a seed is missing
abbrev pub ComesTo : Genesis → Option (List ℕ) → (Option Chain → Type 0) → Result Bool Failure → List ℕ → Type 0
ComesTo g events IsStored answer text =
    ((a_peer_lacks_seed g ≡ false) × LinesComeTo g events IsStored answer text)
    ⊎ ((a_peer_lacks_seed g ≡ true) × (answer ≡ Err failure.NoSeed) × (text ≡ []))

-- What is printed of some first lines that are done from a stage on, and, where they are all, of the end
pub record BeginsFrom (book : Book) (events : Option (List ℕ)) (start : Stage) (text : List ℕ) : Type 0 where
  pub lines : List (List ℕ)
  pub end : Stage
  pub told : List (Event × Reply)
  pub front : List ℕ
  pub rest : List ℕ
  pub first : HasFirst events lines
  pub does : AreLines lines start told front end
  pub behind : (rest ≡ []) ⊎ (IfSome events (λ bytes. lines ≡ lines_in bytes) × IsEnd book (first_chain end.system) rest)
  pub whole : text ≡ front ++ rest

-- the same from the opening on
abbrev pub LinesBegin : Genesis → Option (List ℕ) → List ℕ → Type 0
LinesBegin g events text = (start : Stage) × IsOpening g start × BeginsFrom g.book.value events start text

-- What `run` prints, where no seed is missing, of some first lines, and, where they are all, of the end
abbrev pub RunBegins : Genesis → Option (List ℕ) → List ℕ → Type 0
RunBegins g events text = (a_peer_lacks_seed g ≡ false) × LinesBegin g events text
