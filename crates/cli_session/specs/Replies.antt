-- What the program prints of a reply.
use Rattle.std.specs.Prelude.{◌++◌, ℕ, List, [], Option, Some, None, codes}
use Rattle.std.specs.Fmt.{decimal}
use Rattle.std.specs.List.{flat_map}
use Rattle.fab_types.specs.Payloads.{Payload}
use Rattle.orderer.specs.Numbers.{abort_number}
use Rattle.orderer.specs.declared.arrangement.AbortCause.{AbortCause}
use Rattle.orderer.specs.declared.report.BatchReport.{BatchReport}
use Rattle.fabric_core.specs.declared.event.Reply.{Reply}
use Rattle.fabric_core.specs.declared.event.Reply.TheVariants as reply
use Rattle.cli_lines.specs.Lines.{committed_text, id_text, simulation_line}
use Rattle.cli_lines.specs.Texts.{refused, line}

-- of a batch: its block, if it made one, and each transaction that is left out
abbrev pub made_text : Option ℕ → ℕ → List ℕ
made_text None count = codes "no block\n"
made_text (Some number) count = codes "block " ++ (decimal number ++ (codes " txs " ++ (decimal count ++ codes "\n")))

abbrev pub aborted_text : ℕ × AbortCause → List ℕ
aborted_text a = codes "aborted " ++ (decimal a.0 ++ (codes " " ++ (decimal (abort_number a.1) ++ codes "\n")))

abbrev pub batch_text : BatchReport → List ℕ
batch_text r = made_text r.block r.count ++ flat_map aborted_text r.aborted

-- of a reply. Of the height of a begin and of a payload nothing: their lines name more than the reply has
abbrev pub reply_text : Reply → List ℕ
reply_text reply.NoSuchPeer = line (refused 452)
reply_text reply.NoSuchSeat = line (refused 452)
reply_text reply.SeatBusy = line (refused 451)
reply_text (reply.Begun height) = []
reply_text reply.NothingBegun = line (refused 453)
reply_text (reply.Refused r) = simulation_line r
reply_text (reply.Endorsed payload endorsement) = []
reply_text reply.Queued = codes "queued\n"
reply_text reply.QueueFull = line (refused 411)
reply_text reply.Nothing = codes "none\n"
reply_text (reply.Ordered reports) = codes "taken\n" ++ flat_map batch_text reports
reply_text (reply.Cut report) = batch_text report
reply_text (reply.TooLarge envelope) = line (refused 421)
reply_text (reply.NoBlockLeft envelope) = line (refused 422)
reply_text (reply.Committed number flags) = committed_text number flags

-- of a reply to a begin at a seat
abbrev pub begin_text : ℕ → ℕ → Reply → List ℕ
begin_text peer seat (reply.Begun height) =
    codes "begun " ++ (decimal peer ++ (codes "." ++ (decimal seat ++ (codes " at " ++ (decimal height ++ codes "\n")))))
begin_text peer seat r = reply_text r

-- of a payload that was endorsed under a name
abbrev pub endorsed_text : List ℕ → Payload → List ℕ
endorsed_text name payload = codes "endorsed " ++ (name ++ (codes " " ++ (id_text payload ++ codes "\n")))

-- of a reply to a finish that is to have a name
abbrev pub finish_text : List ℕ → Reply → List ℕ
finish_text name (reply.Endorsed payload endorsement) = endorsed_text name payload
finish_text name r = reply_text r
