-- Blocks that come one after another, and the one at which they are cut short.
use Rattle.std.proofs.Common.{◌≡◌, List, [], ◌∷◌, ◌++◌, refl, sym, ap, subst, ◌∙◌, append_assoc, append-nil, Err}
use Rattle.std.specs.List.{AllZip}
use Rattle.std.specs.Option.{option_to_list}
use Rattle.std.proofs.lemmas.Grind.{flat_map-append}
use Rattle.fab_types.specs.declared.block.Block.{Block}
use Rattle.ledger_model.specs.Chain.{Bytes, Chain}
use Rattle.ledger_model.specs.Judged.{BlockRule}
use Rattle.ledger_setting.specs.Rule.{table_of}
use Rattle.log_orderer.specs.Handed.{blocks_of}
use Rattle.log_orderer.specs.declared.batch.LogBatch.{LogBatch}
use Rattle.orderer.specs.Ordering.{Ordering}
use Rattle.log_orderer.specs.Handed.{HandsOut}
use Rattle.log_orderer.specs.Log.{Reads}
use Rattle.log_orderer.specs.Reported.{answer_of}
use Rattle.log_orderer.specs.declared.replica.LineReport.{LineReport}
use Rattle.log_committer.specs.Committing.{Receives, ReceivesAll}
use Rattle.log_committer.specs.Peering.{HasEach, Held, made_by}
use Rattle.log_committer.proofs.Peering.{line_cut}
use Rattle.log_committer.specs.declared.receiving.Received.{Received}
use Rattle.log_peer.specs.Peering.{AreNotReceived, IsNotRead, told_of}
use Rattle.log_peer.specs.Storing.{IsReceiveRefused, rules_of, stored_chain}
use Rattle.log_peer.specs.declared.peering.PeerBatch.{PeerBatch}
use Rattle.log_peer.specs.declared.refusal.StoreRefusal.{StoreRefusal}
use Rattle.log_peer.specs.declared.refusal.StoreRefusal.TheVariants as refused
use Rattle.log_peer.specs.declared.storing.StoredChain.{StoredChain}
use Rattle.log_peer.proofs.Stores.{refused_same}

-- a block that is refused cuts itself short
pub one_refused : {D : Type 0} (refusal : StoreRefusal) (old : StoredChain D) (block : Block) (new : StoredChain D) → IsReceiveRefused refusal old block new →
    AreNotReceived (table_of (rules_of old)) (stored_chain old) (block ∷ []) refusal
one_refused refused.Memory old block new h = tt
one_refused refused.File old block new h = tt
one_refused (refused.Damaged number) old block new h = h
one_refused (refused.Stored cause) old block new h = h
one_refused (refused.Received cause) old block new h =
    let rule : BlockRule = table_of (rules_of old) in
    record {
      front = [];
      block = block;
      back = [];
      parts = refl;
      told = [];
      between = stored_chain old;
      received = (refl, refl);
      refused = subst (λ (chain : Chain). Receives rule (stored_chain old) block (Err cause) chain)
          (refused_same rule (stored_chain old) (stored_chain new) block cause h.0) h.0;
    }

-- blocks behind others
pub received_on : (rule : BlockRule) (old between new : Chain) (front back : List Block) (told later : List Received) → ReceivesAll rule old front told between →
    ReceivesAll rule between back later new → ReceivesAll rule old (front ++ back) (told ++ later) new
received_on rule old between new [] back told later f b =
    subst (λ (ts : List Received). ReceivesAll rule old back (ts ++ later) new) (sym f.0)
    (subst (λ (chain : Chain). ReceivesAll rule chain back later new) f.1 b)
received_on rule old between new (x ∷ front) back told later f b = (
  f.0,
  f.1 ++ later,
  f.2,
  ap (λ (ts : List Received). ts ++ later) f.3,
  f.4,
  received_on rule f.2 between new front back f.1 later f.5 b,
)

pub cut_behind_others : (rule : BlockRule) (old between : Chain) (front blocks back : List Block) (told : List Received) (refusal : StoreRefusal) →
    ReceivesAll rule old front told between → AreNotReceived rule between blocks refusal → AreNotReceived rule old (front ++ (blocks ++ back)) refusal
cut_behind_others rule old between front blocks back told refused.Memory f h = tt
cut_behind_others rule old between front blocks back told refused.File f h = tt
cut_behind_others rule old between front blocks back told (refused.Damaged number) f h = h
cut_behind_others rule old between front blocks back told (refused.Stored cause) f h = h
cut_behind_others rule old between front blocks back told (refused.Received cause) f h = record {
  front = front ++ h.front;
  block = h.block;
  back = h.back ++ back;
  parts = ap (λ (bs : List Block). front ++ (bs ++ back)) h.parts
      ∙ ap (λ (bs : List Block). front ++ bs) (append_assoc h.front (h.block ∷ h.back) back)
      ∙ sym (append_assoc front h.front (h.block ∷ (h.back ++ back)));
  told = told ++ h.told;
  between = h.between;
  received = received_on rule old between h.between front h.front told h.told f h.received;
  refused = h.refused;
}

-- ---- batches

pub zip_more : {A B : Type 0} (R : A → B → Type 0) (xs : List A) (ys : List B) (x : A) (y : B) → AllZip R xs ys → R x y →
    AllZip R (xs ++ x ∷ []) (ys ++ y ∷ [])
zip_more R [] [] x y h r = (r, tt)
zip_more R [] (b ∷ ys) x y h r = absurd h
zip_more R (a ∷ xs) [] x y h r = absurd h
zip_more R (a ∷ xs) (b ∷ ys) x y h r = (h.0, zip_more R xs ys x y h.1 r)

abbrev block_in : LogBatch → List Block
block_in batch = option_to_list batch.block

abbrev told_in : PeerBatch → List Received
told_in batch = option_to_list batch.received

pub blocks_more : (front : List LogBatch) (batch : LogBatch) → blocks_of (front ++ batch ∷ []) ≡ blocks_of front ++ option_to_list batch.block
blocks_more front batch =
    flat_map-append block_in front (batch ∷ []) ∙ ap (λ (bs : List Block). blocks_of front ++ bs) (append-nil (option_to_list batch.block))

pub told_more : (front : List PeerBatch) (batch : PeerBatch) → told_of (front ++ batch ∷ []) ≡ told_of front ++ option_to_list batch.received
told_more front batch =
    flat_map-append told_in front (batch ∷ []) ∙ ap (λ (ts : List Received). told_of front ++ ts) (append-nil (option_to_list batch.received))

-- a batch more is received
pub batch_more : (rule : BlockRule) (old between new : Chain) (front : List LogBatch) (batch : LogBatch) (told : List PeerBatch) (more : PeerBatch) →
    ReceivesAll rule old (blocks_of front) (told_of told) between →
    ReceivesAll rule between (option_to_list batch.block) (option_to_list more.received) new →
    ReceivesAll rule old (blocks_of (front ++ batch ∷ [])) (told_of (told ++ more ∷ [])) new
batch_more rule old between new front batch told more f b =
    subst (λ (bs : List Block). ReceivesAll rule old bs (told_of (told ++ more ∷ [])) new) (sym (blocks_more front batch))
    (subst (λ (ts : List Received). ReceivesAll rule old (blocks_of front ++ option_to_list batch.block) ts new) (sym (told_more told more))
    (received_on rule old between new (blocks_of front) (option_to_list batch.block) (told_of told) (option_to_list more.received) f b))

-- or is not
pub batch_cut : (rule : BlockRule) (old between : Chain) (all front back : List LogBatch) (batch : LogBatch) (told : List Received) (refusal : StoreRefusal) →
    all ≡ front ++ batch ∷ back → ReceivesAll rule old (blocks_of front) told between → AreNotReceived rule between (option_to_list batch.block) refusal →
    AreNotReceived rule old (blocks_of all) refusal
batch_cut rule old between all front back batch told refusal parts f h =
    subst (λ (bs : List Block). AreNotReceived rule old bs refusal)
    (sym (ap (λ (l : List LogBatch). blocks_of l) parts ∙ flat_map-append block_in front (batch ∷ back)))
    (cut_behind_others rule old between (blocks_of front) (option_to_list batch.block) (blocks_of back) told refusal f h)

-- ---- a line

-- why a line is not read, where its blocks are not received
pub not_read : (rule : BlockRule) (old : Held) (text : Bytes) (report : LineReport) (log : Ordering) (refusal : StoreRefusal) →
    HasEach old.log.chain old.chain → Reads old.log text (answer_of report) log → HandsOut report old.log.chain log.chain →
    AreNotReceived rule old.chain (made_by report) refusal → IsNotRead old text refusal
not_read rule old text report log refused.Memory has reads handed h = tt
not_read rule old text report log refused.File has reads handed h = tt
not_read rule old text report log (refused.Damaged number) has reads handed h = h
not_read rule old text report log (refused.Stored cause) has reads handed h = h
not_read rule old text report log (refused.Received cause) has reads handed h =
    (report, log, reads, line_cut rule old text report log cause has reads handed h)
