-- What the desk keeps.
use Rattle.std.specs.Prelude.{◌≡◌, List, length, map, false}
use Rattle.std.specs.Arc.{arc_value}
use Rattle.fab_types.specs.declared.envelope.Envelope.{Envelope}
use Rattle.envelope_ordering.specs.Given.{WasGiven, WasCut}
use Rattle.intake.specs.declared.rule.Parcel.{Parcel}
use Rattle.intake.specs.Seats.{intake_of_receiver, knows}
use Rattle.peer_node.specs.Writers.{published_chain, peer_of_writer, rules_of}
use Rattle.seat_threads.specs.declared.desk.Desk.{Desk}
use Rattle.seat_threads.specs.Chains.{IsFirstOf}
use Rattle.seat_threads.specs.Work.{Home}

-- the envelopes that were got, in their order
abbrev pub envelopes_got : List Parcel → List Envelope
envelopes_got got = map (λ parcel. parcel.envelope) got

-- these envelopes were given to the orderer, unless memory was refused
abbrev pub HasOrdered : List Envelope → Desk → Type 0
HasOrdered given d = d.starved ≡ false → WasGiven given d.orderer d.missing

-- and then a timeout
abbrev pub HasCut : List Envelope → Desk → Type 0
HasCut given d = d.starved ≡ false → WasCut given d.orderer d.missing

-- the peer has the first of the orderer's blocks
abbrev pub HasFirst : Desk → Type 0
HasFirst d = IsFirstOf (arc_value (rules_of d.writer)) d.orderer.chain (published_chain d.writer)

-- and all of them, unless memory was refused
abbrev pub HasAll : Desk → Type 0
HasAll d = d.starved ≡ false → length (published_chain d.writer) ≡ length d.orderer.chain

abbrev pub IsInStep : Desk → Type 0
IsInStep d = HasFirst d × HasAll d

-- what was got was given to the orderer, and its blocks are committed
abbrev pub IsAtWork : Desk → Type 0
IsAtWork d = HasFirst d × HasAll d × HasOrdered (envelopes_got (knows d.receiver).got) d

-- where the seats work that submit to it
abbrev pub home_of : Desk → Home
home_of d = record { intake = intake_of_receiver d.receiver; peer = peer_of_writer d.writer }

-- of one intake and one peer, with one set of rules, one way of ordering and one edition
abbrev pub IsSameDesk : Desk → Desk → Type 0
IsSameDesk a b =
    (intake_of_receiver a.receiver ≡ intake_of_receiver b.receiver) × (rules_of a.writer ≡ rules_of b.writer) × (a.orderer.limits ≡ b.orderer.limits)
    × (a.orderer.reorder ≡ b.orderer.reorder) × (peer_of_writer a.writer ≡ peer_of_writer b.writer) × (a.orderer.edition ≡ b.orderer.edition)
