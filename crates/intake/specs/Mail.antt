-- The rule of the queue: what each sender put is what was got of it, and then what the queue holds of it.
use Rattle.std.specs.Prelude.{◌≡◌, ℕ, ◌≤◌, ◌<◌, ◌==◌, if◌then◌else◌, true, false, List, [], ◌∷◌, ◌++◌}
use mathlib.Core.Option.{Option, some, none}
use lib.ListN.{get_elem?}
use Rattle.fab_types.specs.declared.envelope.Envelope.{Envelope}
use Rattle.intake.specs.declared.rule.Parcel.{Parcel}
use Rattle.intake.specs.declared.rule.View.{View}

-- the envelopes of sender p, in order
abbrev pub of : ℕ → List Parcel → List Envelope
of p [] = []
of p (x ∷ xs) = if p == x.from then x.envelope ∷ of p xs else of p xs

-- The view of the receiver: how many senders there are, how many of their seats were made, what was got, and what each retired sender put in all
abbrev pub receiver : (senders made : ℕ) → List Parcel → List (ℕ × List Envelope) → View
receiver senders made got known = record { sends = false; gets = true; senders = senders; from = 0; put = []; made = made; got = got; known = known }

-- the view of a sender: how many senders there are, its number, and what it put
abbrev pub sender : (senders from : ℕ) → List Envelope → View
sender senders from put = record { sends = true; gets = false; senders = senders; from = from; put = put; made = 0; got = []; known = [] }

abbrev pub idle : View
idle = record { sends = false; gets = false; senders = 0; from = 0; put = []; made = 0; got = []; known = [] }

-- each sender has one pass, which knows what was sent
abbrev pub FitsSender : ℕ → (ℕ → Option ℕ) → (ℕ → List Envelope) → ℕ → View → Type 0
FitsSender senders seat sent pass v = v.sends ≡ true → (v.senders ≡ senders) × (seat v.from ≡ some pass) × (v.put ≡ sent v.from)

-- the one receiver knows what it got, that senders without a seat have sent nothing, and what the retired ones sent in all
abbrev pub FitsReceiver : (reader senders : ℕ) → (ℕ → Option ℕ) → (ℕ → List Envelope) → List Parcel → ℕ → View → Type 0
FitsReceiver reader senders seat sent got pass v =
    v.gets ≡ true
    → (pass ≡ reader) × (v.senders ≡ senders) × (v.got ≡ got)
    × ((p : ℕ) → v.made ≤ p → (seat p ≡ none) × (sent p ≡ []))
    × ((j p : ℕ) (all : List Envelope) → get_elem? v.known j ≡ some (p, all) → (p < v.made) × (seat p ≡ none) × (all ≡ sent p))

-- what each sender sent is what was got of it, and then what the queue holds of it; and nobody else sends
abbrev pub Delivers : List Parcel → List View → Type 0
Delivers items views =
    (reader : ℕ) × (senders : ℕ) × (seat : ℕ → Option ℕ) × (sent : ℕ → List Envelope) × (got : List Parcel)
    × ((p : ℕ) → of p (got ++ items) ≡ sent p)
    × ((p : ℕ) → senders ≤ p → (seat p ≡ none) × (sent p ≡ []))
    × ((pass : ℕ) (v : View) → get_elem? views pass ≡ some v → FitsSender senders seat sent pass v × FitsReceiver reader senders seat sent got pass v)

-- all that the queue holds is of the senders; and of what this one put, the end is what the queue holds of it
abbrev pub HoldsMine : View → List Parcel → Type 0
HoldsMine v items = ((p : ℕ) → v.senders ≤ p → of p items ≡ []) × ((gone : List Envelope) × (v.put ≡ gone ++ of v.from items))

-- of what each retired sender put, what was not got is in the queue; and nothing was got of others than the senders
abbrev pub HoldsRest : View → List Parcel → Type 0
HoldsRest v items =
    ((j p : ℕ) (all : List Envelope) → get_elem? v.known j ≡ some (p, all) → all ≡ of p v.got ++ of p items)
    × ((p : ℕ) → v.senders ≤ p → of p v.got ≡ [])

-- all that the retired senders put was got, each in its order; and nothing was got of others than the senders
abbrev pub NoneMissing : View → Type 0
NoneMissing v =
    ((j p : ℕ) (all : List Envelope) → get_elem? v.known j ≡ some (p, all) → of p v.got ≡ all)
    × ((p : ℕ) → v.senders ≤ p → of p v.got ≡ [])
