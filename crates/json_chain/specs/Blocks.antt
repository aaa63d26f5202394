-- Blocks as JSON.
use Rattle.std.specs.Prelude.{List, codes}
use Rattle.sha2.specs.Sha256.{sha256}
use Rattle.fab_types.specs.Committed.{Committed}
use Rattle.fab_types.specs.declared.envelope.Envelope.{Envelope}
use Rattle.fab_types.specs.declared.flag.Flag.{Flag}
use Rattle.fab_types.specs.declared.block.Header.{Header}
use Rattle.fab_types.specs.BlockSpelling.{header_bytes}
use Rattle.org_keys.specs.declared.organisation.Organisation.{Organisation}
use Rattle.serde_json.specs.Data.{Data, array, number, unsigned, Members, object, member, no_members, put}
use Rattle.serde_json.specs.View.{items_of}
use Rattle.json_chain.specs.Texts.{hex_json, pairs_json}
use Rattle.json_chain.specs.Transactions.{transaction_json}

-- transactions, each with its flag
abbrev pub transactions_json : List Organisation → List Envelope → List Flag → List Data
transactions_json orgs envelopes flags = pairs_json (transaction_json orgs) envelopes flags

-- a block with its hashes and its transactions
abbrev pub block_json : List Organisation → Committed → Data
block_json orgs c =
    let header = c.block.header in
    object (member (codes "block") (number (unsigned header.number)) (member (codes "data") (hex_json header.data_hash)
    (member (codes "hash") (hex_json (sha256 (header_bytes header))) (member (codes "previous") (hex_json header.previous_hash)
    (member (codes "txs") (array (items_of (transactions_json orgs c.block.envelopes c.flags))) no_members)))))

-- what a header has and its hash, as they are put in
abbrev pub with_header : Header → Members → Members
with_header h ms =
    put (codes "previous") (hex_json h.previous_hash) (put (codes "hash") (hex_json (sha256 (header_bytes h)))
    (put (codes "data") (hex_json h.data_hash) (put (codes "block") (number (unsigned h.number)) ms)))
