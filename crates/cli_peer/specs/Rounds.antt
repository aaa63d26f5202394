-- Rounds: lines that were at hand at once, and what is known of the answers to them.
use Rattle.std.specs.Prelude.{◌≡◌, ◌<◌, ◌++◌, ℕ, List, [], ◌∷◌, Option, Bool, true, false, All, IfSome, length}
use Rattle.std.specs.Global.{Vec}
use Rattle.std.specs.Io.KnownBytes.{Consumes, prepend_known}
use Rattle.std.specs.List.{flat_map}
use Rattle.ledger_model.specs.Chain.{Bytes, Chain}
use Rattle.cli_lines.specs.Texts.{line}
use Rattle.peer_answers.specs.Answering.{Peer}
use Rattle.cli_peer.specs.Input.{HasNoEnd, Input}
use Rattle.peer_answers.specs.Known.{IsKnown}
use Rattle.peer_answers.specs.declared.answer.Answer.{Answer}
use Rattle.cli_peer.specs.declared.round.Round.{Round}

-- what is known of the answers to the first of these lines, in their order: of none, of some or of all
abbrev pub AreKnown : Peer → Chain → List (Option Answer) → List (Vec ℕ) → Type 0
AreKnown p chain [] lines = Unit {0}
AreKnown p chain (a ∷ answers) [] = ⊥
AreKnown p chain (a ∷ answers) (l ∷ lines) = IsKnown p chain l.items a × AreKnown p chain answers lines

-- ---- a round

-- its lines are whole ones, and what is known of their answers is by this chain
abbrev pub IsRound : Peer → Chain → Round → Type 0
IsRound p chain r = All (λ l. HasNoEnd l.items) r.lines.items × AreKnown p chain r.answers.items r.lines.items

-- what is left of an input, where that is known: lines that were read, and behind them what was not
abbrev pub left_behind : List (Vec ℕ) → Option Bytes → Option Bytes
left_behind lines unread = prepend_known (flat_map (λ l. line l.items) lines) unread

-- the input as it is behind the line of a round that is done: the lines of the round are left
abbrev pub input_of : Round → Input → Input
input_of r input = record { last = r.line.items; left = left_behind r.lines.items input.left; ahead = input.ahead }

-- further lines are read behind those that were
abbrev pub ReadsOn : (old : List (Vec ℕ)) (before : Option Bytes) (new : List (Vec ℕ)) (after : Option Bytes) → Type 0
ReadsOn old before new after =
    (more : List (Vec ℕ)) × (new ≡ old ++ more) × All (λ l. HasNoEnd l.items) more × Consumes before after (flat_map (λ l. line l.items) more)

-- the line that was read last is the first of these, and further ones are read behind it
abbrev pub ReadsBehind : (last : Bytes) (before : Option Bytes) (new : List (Vec ℕ)) (after : Option Bytes) → Type 0
ReadsBehind last before new after = (first : Vec ℕ) × (first.items ≡ last) × ReadsOn (first ∷ []) before new after

-- whether a line is left, of those that were read or are read now
abbrev pub IsFilled : Bool → (old : List (Vec ℕ)) (before : Option Bytes) (new : List (Vec ℕ)) (after : Option Bytes) → Type 0
IsFilled true old before new after = (0 < length new) × ReadsOn old before new after
IsFilled false old before new after = (old ≡ []) × (new ≡ old) × IfSome before HasNoEnd
