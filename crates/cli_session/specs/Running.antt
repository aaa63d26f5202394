-- What the lines of a file of events do to a system, and what is printed of it.
use Rattle.std.specs.Prelude.{◌≡◌, ◌≢◌, ◌<◌, ◌⊎◌, ℕ, suc, List, [], ◌∷◌, ◌++◌, Option, Some, None, IfSome, length, map, string_bytes}
use Rattle.std.specs.Str.{IsUtf8}
use Rattle.json_events.specs.Bound.{bound_as, envelope_named}
use Rattle.json_events.specs.Spelling.{Spells}
use Rattle.json_events.specs.declared.bindings.Bindings.{Bindings}
use Rattle.json_events.specs.declared.action.Action.{Action}
use Rattle.json_events.specs.declared.action.Action.TheVariants as action
use Rattle.fab_types.specs.declared.envelope.Envelope.{Envelope}
use Rattle.fab_types.specs.BlockWithin.{IsEnvelope}
use Rattle.fab_types.specs.BlockSpelling.{envelope_bytes}
use Rattle.wire.specs.Faults.{Says}
use Rattle.wire.specs.FaultNumbers.{number_of}
use Rattle.wire.specs.declared.fault.WireFault.{WireFault}
use Rattle.wire.specs.declared.fault.WireFault.TheVariants as wire_fault
use Rattle.fabric_core.specs.declared.event.Event.{Event}
use Rattle.fabric_core.specs.declared.event.Event.TheVariants as event
use Rattle.fabric_core.specs.declared.event.Reply.{Reply}
use Rattle.cli_lines.specs.Texts.{line, refused}
use Rattle.cli_lines.specs.Told.{Told, Prints, PrintsNothing, IsBrokenOff}
use Rattle.cli_lines.specs.declared.failure.Failure.{Failure}
use Rattle.cli_lines.specs.declared.failure.Failure.TheVariants.{BadLine}
use Rattle.cli_session.specs.Reading.{HasFirst, lines_in, longest_line}
use Rattle.cli_session.specs.Replies.{reply_text, begin_text, finish_text}
use Rattle.cli_session.specs.Stages.{Stage, IsStepOf, Stay, Gets, DoesPrint}

-- bytes that spell no envelope are told by the number of their fault, and nothing happens
pub record IsNoEnvelope (bytes : List ℕ) (old : Stage) (told : List (Event × Reply)) (text : List ℕ) (new : Stage) : Type 0 where
  pub fault : WireFault
  pub found : fault ≢ wire_fault.Memory
  pub says : Says fault IsEnvelope envelope_bytes bytes
  pub none : told ≡ []
  pub prints : text ≡ line (refused (number_of fault))
  pub same : new ≡ old

-- bytes that spell an envelope are submitted
pub record IsSubmitted (bytes : List ℕ) (old : Stage) (told : List (Event × Reply)) (text : List ℕ) (new : Stage) : Type 0 where
  pub envelope : Envelope
  pub known : IsEnvelope envelope
  pub spelled : envelope_bytes envelope ≡ bytes
  pub step : IsStepOf (event.Submit envelope) reply_text Stay old told text new

-- the envelope that names stand for is submitted
pub record IsNamed (names : List (List ℕ)) (old : Stage) (told : List (Event × Reply)) (text : List ℕ) (new : Stage) : Type 0 where
  pub envelope : Envelope
  pub named : envelope_named (bound_as old.names) names ≡ Some envelope
  pub step : IsStepOf (event.Submit envelope) reply_text Stay old told text new

abbrev pub IsBytes : List ℕ → Stage → List (Event × Reply) → List ℕ → Stage → Type 0
IsBytes bytes old told text new = IsSubmitted bytes old told text new ⊎ IsNoEnvelope bytes old told text new

-- what an action does: the step that it is, and what is printed of it
abbrev pub Does : Action → Stage → List (Event × Reply) → List ℕ → Stage → Type 0
Does (action.Begin peer seat p) old told text new = IsStepOf (event.Begin peer seat p) (begin_text peer seat) Stay old told text new
Does (action.Finish peer seat name) old told text new =
    IsStepOf (event.Finish peer seat) (finish_text (string_bytes name)) (Gets (string_bytes name)) old told text new
Does (action.SubmitEndorsed names) old told text new = IsNamed (map string_bytes names.items) old told text new
Does (action.SubmitBytes bytes) old told text new = IsBytes bytes.items old told text new
Does action.Take old told text new = IsStepOf event.Take reply_text Stay old told text new
Does action.Tick old told text new = IsStepOf event.Tick reply_text Stay old told text new
Does (action.Commit peer) old told text new = IsStepOf (event.Commit peer) reply_text Stay old told text new

-- what a line does: the action that it spells
abbrev pub IsLine : List ℕ → Stage → List (Event × Reply) → List ℕ → Stage → Type 0
IsLine l old told text new = (a : Action) × Spells l a × Does a old told text new

-- names of an action stand for no envelope
abbrev pub IsUnbound : Action → Bindings → Type 0
IsUnbound (action.SubmitEndorsed names) bindings = envelope_named (bound_as bindings) (map string_bytes names.items) ≡ None
IsUnbound a bindings = ⊥

-- a line stands for nothing that can be done: it is too long, or no text, or spells no action, or one whose names stand for nothing
abbrev pub IsBadLine : List ℕ → Bindings → Type 0
IsBadLine l bindings =
    (longest_line < length l) ⊎ ((¬ IsUtf8 l) ⊎ (((a : Action) → ¬ Spells l a) ⊎ ((a : Action) × Spells l a × IsUnbound a bindings)))

-- what lines do, one after another
abbrev pub AreLines : List (List ℕ) → Stage → List (Event × Reply) → List ℕ → Stage → Type 0
AreLines [] old told text new = (told ≡ []) × (text ≡ []) × (new ≡ old)
AreLines (l ∷ ls) old told text new =
    (first : List (Event × Reply)) × (others : List (Event × Reply)) × (front : List ℕ) × (rest : List ℕ) × (mid : Stage)
    × IsLine l old first front mid × AreLines ls mid others rest new
    × (told ≡ first ++ others) × (text ≡ front ++ rest)

-- all lines of a file are done, where it is known what that holds
pub record DoesAll (held : Option (List ℕ)) (old new : Stage) (before after : Told) : Type 0 where
  pub lines : List (List ℕ)
  pub all : IfSome held (λ bytes. lines ≡ lines_in bytes)
  pub does : DoesPrint (AreLines lines) old new before after

-- each step comes with its event, and with its reply
abbrev pub events_of : List (Event × Reply) → List Event
events_of told = map (λ (t : Event × Reply). t.0) told

abbrev pub replies_of : List (Event × Reply) → List Reply
replies_of told = map (λ (t : Event × Reply). t.1) told

-- an action in the line of this number was broken off, or it cannot be done, for this cause, and nothing was
abbrev pub StopsAt : ℕ → Type 0 → (before after : Told) → Failure → Type 0
StopsAt number Why before after f = IsBrokenOff f ⊎ ((f ≡ BadLine number) × Why × (after ≡ before))

-- behind the lines of a file that are done comes a bad one, at which the task stops
pub record MeetsBadLine (held : Option (List ℕ)) (old : Stage) (before after : Told) (f : Failure) : Type 0 where
  pub lines : List (List ℕ)
  pub next : List ℕ
  pub told : List (Event × Reply)
  pub text : List ℕ
  pub end : Stage
  pub first : HasFirst held (lines ++ next ∷ [])
  pub does : AreLines lines old told text end
  pub bad : IsBadLine next end.names
  pub prints : Prints before after text
  pub is : f ≡ BadLine (suc (length lines))

-- some first lines of a file are done, and no other text was printed, or one could not be
pub record DoesFirst (held : Option (List ℕ)) (old : Stage) (before after : Told) : Type 0 where
  pub lines : List (List ℕ)
  pub end : Stage
  pub mid : Told
  pub first : HasFirst held lines
  pub does : DoesPrint (AreLines lines) old end before mid
  pub nothing : PrintsNothing mid after
