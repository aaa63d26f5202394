-- What is printed of a line of a log.
use Rattle.std.specs.Prelude.{◌++◌, ℕ, List, [], Option, Some, None, length, codes}
use Rattle.std.specs.Fmt.{decimal}
use Rattle.std.specs.List.{flat_map, zip}
use Rattle.hex.specs.Hex.{encode_lower}
use Rattle.fab_types.specs.FlagNumber.{flag_number}
use Rattle.ledger_model.specs.Chain.{Committed, Placed, transactions_from}
use Rattle.orderer.specs.Numbers.{abort_number}
use Rattle.orderer.specs.Ordering.{Ordering}
use Rattle.orderer.specs.declared.arrangement.AbortCause.{AbortCause}
use Rattle.log_orderer.specs.Numbers.{skip_number}
use Rattle.log_orderer.specs.declared.skip.Skip.{Skip}
use Rattle.log_peer.specs.declared.peering.PeerBatch.{PeerBatch}
use Rattle.cli_lines.specs.Lines.{committed_text, hex_text, id_text, version_text}

-- a transaction that a batch leaves out, by its id, and why
abbrev pub left_out_text : List ℕ × (ℕ × AbortCause) → List ℕ
left_out_text left =
    codes "aborted " ++ (encode_lower left.0 ++ (codes " " ++ (decimal (abort_number left.1.1) ++ codes "\n")))

abbrev pub left_text : List ℕ → Option (ℕ × AbortCause) → List ℕ
left_text id None = []
left_text id (Some cause) = left_out_text (id, cause)

abbrev pub skipped_text : List ℕ → Skip → List ℕ
skipped_text index skip = codes "skipped " ++ (index ++ (codes " " ++ (decimal (skip_number skip) ++ codes "\n")))

-- a line that was read: its index, and how many envelopes wait then
abbrev pub read_text : List ℕ → Ordering → List ℕ
read_text index now = codes "read " ++ (index ++ (codes " " ++ (decimal (length now.pending) ++ codes "\n")))

-- what each of these transactions came to: its place in the chain, its id, its flag and its result
abbrev pub tx_text : Placed → List ℕ
tx_text t =
    codes "tx " ++ (version_text t.version ++ (codes " " ++ (id_text t.envelope.payload ++ (codes " " ++ (decimal (flag_number t.flag)
    ++ (codes " " ++ (hex_text t.envelope.payload.result ++ codes "\n")))))))

-- the block of a number that joined the chain: its transactions, and then its flags
abbrev pub joined_text : ℕ → Option Committed → List ℕ
joined_text number None = []
joined_text number (Some c) = flat_map tx_text (transactions_from number 0 c.block.envelopes c.flags) ++ committed_text number c.flags

-- what a batch leaves out, in its order
abbrev pub aborted_text : PeerBatch → List ℕ
aborted_text batch = flat_map left_out_text (zip batch.aborted batch.report.aborted)
