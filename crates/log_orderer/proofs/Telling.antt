-- The ids that are told are those of what was cut.
use Rattle.std.proofs.Common.{◌≡◌, ℕ, zero, suc, ◌+◌, ◌<◌, ◌++◌, List, [], ◌∷◌, length, take, drop, map, get_or, Option, Some, refl, sym, ap, ap₂, subst, ◌∙◌}
use Rattle.std.proofs.Common.{◌≤◌, Bool, arith}
use Rattle.std.specs.List.{slice_get, AllZip}
use Rattle.std.proofs.lemmas.List.{append_assoc, drop_at, length-append, length-map, map-append, take_at, take_more}
use Rattle.std.proofs.lemmas.Option.{slice_get-get_or}
use Rattle.fab_types.specs.declared.block.Block.{Block}
use Rattle.fab_types.specs.declared.envelope.Envelope.{Envelope}
use Rattle.batch_cutter.specs.Division.{concatenate}
use Rattle.wire.specs.Ids.{id_of}
use Rattle.orderer.specs.Arranged.{arranges_by}
use Rattle.orderer.specs.Blocks.{Adds, AddsEach}
use Rattle.orderer.specs.declared.arrangement.AbortCause.{AbortCause}
use Rattle.orderer.specs.declared.report.BatchReport.{BatchReport}
use Rattle.log_orderer.specs.Cutting.{AreAt, AreCut, AreFront, ArePlacesBelow, HaveRoom, IsCut, IsFront, size_of}
use Rattle.log_orderer.specs.Ids.{ids_of}
use Rattle.log_orderer.specs.Reported.{reports_of}
use Rattle.log_orderer.specs.Told.{IsNamed}
use Rattle.log_orderer.specs.declared.batch.LogBatch.{LogBatch}
use Rattle.log_orderer.proofs.Parting.{AreFew}
use Rattle.log_orderer.proofs.Sizing.{adds_sized, alone_loses_none}

-- one place more
pub at_more : (members : List (List ℕ)) (aborted : List (ℕ × AbortCause)) (i : ℕ) (d : ℕ × AbortCause) (ids : List (List ℕ)) → i < length aborted →
    (get_or aborted i d).0 < length members → AreAt members (take i aborted) ids →
    AreAt members (take (i + 1) aborted) (ids ++ get_or members (get_or aborted i d).0 [] ∷ [])
at_more members aborted i d ids below within are =
    let f = λ (left : ℕ × AbortCause). slice_get members left.0 in
    let x = get_or aborted i d in
    let here : Some (get_or members x.0 []) ≡ slice_get members x.0 = sym (slice_get-get_or members x.0 [] within) in
    map-append Some ids (get_or members x.0 [] ∷ [])
    ∙ ap₂ (λ (a b : List (Option (List ℕ))). a ++ b) are (ap (λ (o : Option (List ℕ)). o ∷ []) here)
    ∙ sym (ap (map f) (take_more aborted i d below) ∙ map-append f (take i aborted) (x ∷ []))

pub place_below : (count : ℕ) (aborted : List (ℕ × AbortCause)) (i : ℕ) (d : ℕ × AbortCause) → ArePlacesBelow count aborted → i < length aborted →
    (get_or aborted i d).0 < count
place_below count [] i d are below = absurd (omega (arith, below))
place_below count (left ∷ aborted) zero d are below = are.0
place_below count (left ∷ aborted) (suc i) d are below = place_below count aborted i d are.1 (omega (arith, below))

-- one batch more
pub cut_more : (reports : List BatchReport) (report : BatchReport) (ids left : List (List ℕ)) (batches : List LogBatch) (batch : LogBatch) →
    AreCut reports ids batches left → IsCut report left batch → AreCut (reports ++ report ∷ []) ids (batches ++ batch ∷ []) (drop (size_of report) left)
cut_more [] report ids left batches batch are is = (
  batch,
  [],
  ap (λ (l : List LogBatch). l ++ batch ∷ []) are.0,
  subst (λ (l : List (List ℕ)). IsCut report l batch) are.1 is,
  (refl, ap (λ (l : List (List ℕ)). drop (size_of report) l) are.1),
)
cut_more (first ∷ reports) report ids left batches batch are is = (
  are.0,
  are.1 ++ batch ∷ [],
  ap (λ (l : List LogBatch). l ++ batch ∷ []) are.2,
  are.3,
  cut_more reports report (drop (size_of first) ids) left are.1 batch are.4 is,
)

-- the ids of a batch before those of others
split_ids : (batch others pending : List Envelope) → ids_of ((batch ++ others) ++ pending) ≡ ids_of batch ++ ids_of (others ++ pending)
split_ids batch others pending =
    ap ids_of (append_assoc batch others pending) ∙ map-append (λ (e : Envelope). id_of e.payload.proposal) batch (others ++ pending)

ids_counted : (batch : List Envelope) (size : ℕ) → size ≡ length batch → length (ids_of batch) ≡ size
ids_counted batch size same = length-map batch (λ (e : Envelope). id_of e.payload.proposal) ∙ sym same

behind : (batch others pending : List Envelope) (size : ℕ) → size ≡ length batch →
    drop size (ids_of ((batch ++ others) ++ pending)) ≡ ids_of (others ++ pending)
behind batch others pending size same =
    ap (drop size) (split_ids batch others pending) ∙ drop_at (ids_of batch) (ids_of (others ++ pending)) size (ids_counted batch size same)

ahead : (batch others pending : List Envelope) (size : ℕ) → size ≡ length batch → take size (ids_of ((batch ++ others) ++ pending)) ≡ ids_of batch
ahead batch others pending size same =
    ap (take size) (split_ids batch others pending) ∙ take_at (ids_of batch) (ids_of (others ++ pending)) size (ids_counted batch size same)

-- ---- the batches of a line

-- before they are cut their ids stand at the front of those that wait
pub all_front : (reorder : Bool) (old new : List Block) (cut : List (List Envelope)) (pending : List Envelope) (reports : List BatchReport) →
    AddsEach (arranges_by reorder) old cut reports new → AreFront reports (ids_of (concatenate cut ++ pending))
all_front reorder old new [] pending reports adds =
    subst (λ (rs : List BatchReport). AreFront rs (ids_of pending)) (sym adds.0) tt
all_front reorder old new (batch ∷ cut) pending reports adds =
    let report = adds.0 in
    let ids = ids_of ((batch ++ concatenate cut) ++ pending) in
    let is = adds_sized reorder old adds.2 batch report adds.4 in
    let fits : size_of report ≤ length ids =
    omega (
      arith,
      ap length (split_ids batch (concatenate cut) pending),
      length-append (ids_of batch) (ids_of (concatenate cut ++ pending)),
      ids_counted batch (size_of report) is.0,
    ) in
    let first : IsFront report ids = (fits, subst (λ (n : ℕ). ArePlacesBelow n report.aborted) (sym is.0) is.1) in
    let others =
    subst (λ (l : List (List ℕ)). AreFront adds.1 l) (sym (behind batch (concatenate cut) pending (size_of report) is.0))
    (all_front reorder adds.2 new cut pending adds.1 adds.5) in
    subst (λ (rs : List BatchReport). AreFront rs ids) (sym adds.3) (first, others)

-- once they are cut the ids are told of their members, and the others wait on
pub all_told : (reorder : Bool) (old new : List Block) (cut : List (List Envelope)) (pending : List Envelope) (reports : List BatchReport)
    (batches : List LogBatch) (left : List (List ℕ)) → AddsEach (arranges_by reorder) old cut reports new →
    AreCut reports (ids_of (concatenate cut ++ pending)) batches left →
    AllZip IsNamed cut batches × (left ≡ ids_of pending) × (reports_of batches ≡ reports)
all_told reorder old new [] pending reports batches left adds are =
    let is = subst (λ (rs : List BatchReport). AreCut rs (ids_of pending) batches left) adds.0 are in
    (subst (λ (l : List LogBatch). AllZip IsNamed [] l) (sym is.0) tt, is.1, ap reports_of is.0 ∙ sym adds.0)
all_told reorder old new (batch ∷ cut) pending reports batches left adds are =
    let report = adds.0 in
    let ids = ids_of ((batch ++ concatenate cut) ++ pending) in
    let size = (adds_sized reorder old adds.2 batch report adds.4).0 in
    let is = subst (λ (rs : List BatchReport). AreCut rs ids batches left) adds.3 are in
    let told = is.0 in
    let after =
    subst (λ (l : List (List ℕ)). AreCut adds.1 l is.1 left) (behind batch (concatenate cut) pending (size_of report) size) is.4 in
    let rest = all_told reorder adds.2 new cut pending adds.1 is.1 left adds.5 after in
    let members = subst (λ (l : List (List ℕ)). AreAt l report.aborted told.aborted) (ahead batch (concatenate cut) pending (size_of report) size) is.3.1 in
    let named : IsNamed batch told = subst (λ (r : BatchReport). AreAt (ids_of batch) r.aborted told.aborted) (sym is.3.0) members in (
      subst (λ (l : List LogBatch). AllZip IsNamed (batch ∷ cut) l) (sym is.2) (named, rest.0),
      rest.1,
      ap reports_of is.2 ∙ ap₂ (λ (r : BatchReport) (rs : List BatchReport). r ∷ rs) is.3.0 rest.2 ∙ sym adds.3,
    )

room_first : (report : BatchReport) (ids : List (List ℕ)) (room : ℕ) → IsFront report ids → length ids ≤ room → length report.aborted ≤ room
room_first report ids room front fits = omega (arith, front.0, fits)

-- room for as many ids as wait is enough, and there are two reports at most
pub few_fit : (reorder : Bool) (old new : List Block) (cut : List (List Envelope)) (reports : List BatchReport) (ids : List (List ℕ)) (room : ℕ) →
    AreFew cut → AddsEach (arranges_by reorder) old cut reports new → AreFront reports ids → length ids ≤ room →
    (length reports ≤ 2) × HaveRoom reports room
few_fit reorder old new [] reports ids room few adds front fits =
    rw adds.0 (omega arith, tt)
few_fit reorder old new (first ∷ []) reports ids room few adds front fits =
    let are : reports ≡ adds.0 ∷ [] = adds.3 ∙ ap (λ (rs : List BatchReport). adds.0 ∷ rs) adds.5.0 in
    let here = subst (λ (rs : List BatchReport). AreFront rs ids) are front in
    subst (λ (rs : List BatchReport). (length rs ≤ 2) × HaveRoom rs room) (sym are) (omega arith, (room_first adds.0 ids room here.0 fits, tt))
few_fit reorder old new (first ∷ second ∷ []) reports ids room few adds front fits =
    let later = adds.5 in
    let are : reports ≡ adds.0 ∷ later.0 ∷ [] =
    adds.3 ∙ ap (λ (rs : List BatchReport). adds.0 ∷ rs) (later.3 ∙ ap (λ (rs : List BatchReport). later.0 ∷ rs) later.5.0) in
    let here = subst (λ (rs : List BatchReport). AreFront rs ids) are front in
    let none = alone_loses_none reorder adds.2 later.2 few.0 later.0
    (subst (λ (es : List Envelope). Adds (arranges_by reorder) adds.2 es later.0 later.2) few.1 later.4) in
    subst (λ (rs : List BatchReport). (length rs ≤ 2) × HaveRoom rs room) (sym are)
    (omega arith, (room_first adds.0 ids room here.0 fits, (omega (arith, ap length none), tt)))
few_fit reorder old new (first ∷ second ∷ third ∷ others) reports ids room few adds front fits = absurd few

pub more_room : (reports : List BatchReport) (room : ℕ) → HaveRoom reports 0 → HaveRoom reports room
more_room [] room have = tt
more_room (report ∷ reports) room have = (omega (arith, have.0), have.1)
