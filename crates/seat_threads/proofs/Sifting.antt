-- What holds of each envelope that an orderer was given holds of each one in its blocks.
use Rattle.std.proofs.Common.{◌++◌, Bool, ℕ, zero, suc, List, [], ◌∷◌, map, slice_get, sym, subst, ⊎_elim}
use Rattle.std.specs.List.{AllByRecursion}
use Rattle.std.specs.Option.{option_to_list}
use Rattle.std.proofs.lemmas.List.{append-nil}
use Rattle.fab_types.specs.declared.edition.Edition.{Edition}
use Rattle.fab_types.specs.declared.envelope.Envelope.{Envelope}
use Rattle.fab_types.specs.declared.block.Block.{Block}
use Rattle.fab_types.specs.Size.{envelope_size}
use Rattle.batch_cutter.specs.Division.{Limits, Mark, message, timeout, from_message, IsDivision}
use Rattle.orderer.specs.Places.{envelopes_at}
use Rattle.orderer.specs.Blocks.{AddsEach, next_block, with_batch}
use Rattle.orderer.specs.Arranged.{arranges_by}
use Rattle.orderer.specs.declared.report.BatchReport.{BatchReport}
use Rattle.orderer.specs.Ordering.{Ordering, IsOrdered}
use Rattle.envelope_ordering.specs.Given.{AcceptsEach, AreCut, ends, takes, refuses}

all_behind : {X : Type 0} (P : X → Type 0) (xs ys : List X) → AllByRecursion P xs → AllByRecursion P ys → AllByRecursion P (xs ++ ys)
all_behind P [] ys h k = k
all_behind P (x ∷ xs) ys h k = (h.0, all_behind P xs ys h.1 k)

module _ (P : Envelope → Type 0) where
  abbrev pub AllIn : List Envelope → Type 0
  AllIn envelopes = AllByRecursion P envelopes

  abbrev pub AllInBlocks : List Block → Type 0
  AllInBlocks blocks = AllByRecursion (λ (b : Block). AllIn b.envelopes) blocks

  accepted : {a : Edition} {l : Limits} {r : Bool} {taken given ordered refused : List Envelope} → AcceptsEach a l r taken given ordered refused →
      AllIn given → AllIn ordered
  accepted ends all = tt
  accepted (takes size h) all = (all.0, accepted h all.1)
  accepted (refuses why h) all = accepted h all.1

  -- it holds of each message
  abbrev AllSaid : List (Mark Envelope) → Type 0
  AllSaid [] = Unit {0}
  AllSaid (timeout ∷ marks) = AllSaid marks
  AllSaid (message e ∷ marks) = P e × AllSaid marks

  said : (envelopes : List Envelope) (rest : List (Mark Envelope)) → AllIn envelopes → AllSaid rest →
      AllSaid (map {A = Envelope} {B = Mark Envelope} message envelopes ++ rest)
  said [] rest all k = k
  said (e ∷ es) rest all k = (all.0, said es rest all.1 k)

  said_first : (marks : List (Mark Envelope)) → AllSaid marks → AllSaid (from_message marks)
  said_first [] h = tt
  said_first (timeout ∷ marks) h = said_first marks h
  said_first (message e ∷ marks) h = h

  said_parts : (batch : List Envelope) (after : List (Mark Envelope)) → AllSaid (map {A = Envelope} {B = Mark Envelope} message batch ++ after) →
      AllIn batch × AllSaid after
  said_parts [] after h = (tt, h)
  said_parts (e ∷ es) after h = let rest = said_parts es after h.1 in ((h.0, rest.0), rest.1)

  cut : (l : Limits) (marks : List (Mark Envelope)) (batches : List (List Envelope)) (pending : List Envelope) →
      IsDivision envelope_size l marks batches pending → AllSaid marks → AllByRecursion AllIn batches
  cut l marks [] pending h all = tt
  cut l marks (batch ∷ batches) pending h all =
      let both = said_parts batch h.0 (subst AllSaid h.1 (said_first marks all)) in
      (both.0, cut l h.0 batches pending h.3 both.1)

  at_place : (batch : List Envelope) (place : ℕ) → AllIn batch → AllIn (option_to_list (slice_get batch place))
  at_place [] zero all = tt
  at_place [] (suc place) all = tt
  at_place (e ∷ es) zero all = (all.0, tt)
  at_place (e ∷ es) (suc place) all = at_place es place all.1

  arranged : (batch : List Envelope) (order : List ℕ) → AllIn batch → AllIn (envelopes_at batch order)
  arranged batch [] all = tt
  arranged batch (place ∷ order) all =
      all_behind P (option_to_list (slice_get batch place)) (envelopes_at batch order) (at_place batch place all) (arranged batch order all)

  added : (chain : List Block) (envelopes : List Envelope) → AllInBlocks chain → AllIn envelopes → AllInBlocks (with_batch chain envelopes)
  added chain [] h all = h
  added chain (e ∷ es) h all = all_behind (λ (b : Block). AllIn b.envelopes) chain (next_block chain (e ∷ es) ∷ []) h (all, tt)

  made : (reorder : Bool) (old : List Block) (batches : List (List Envelope)) (reports : List BatchReport) (new : List Block) →
      AddsEach (arranges_by reorder) old batches reports new → AllInBlocks old → AllByRecursion AllIn batches → AllInBlocks new
  made reorder old [] reports new h blocks all = subst AllInBlocks (sym h.1) blocks
  made reorder old (batch ∷ batches) reports new h blocks all =
      let next = added old (envelopes_at batch h.4.order) blocks (arranged batch h.4.order all.0) in
      made reorder h.2 batches h.1 new h.5 (subst AllInBlocks (sym h.4.chain) next) all.1

  ordered_from : (marks : List (Mark Envelope)) (now : Ordering) → IsOrdered marks now → AllSaid marks → AllInBlocks now.chain
  ordered_from marks now h all = made now.reorder [] h.batches h.reports now.chain h.made tt (cut now.limits marks h.batches now.pending h.cut all)

  -- by what came of them
  pub sifted : (a : Edition) (l : Limits) (r : Bool) (given ordered refused : List Envelope) (now : Ordering) →
      AcceptsEach a l r [] given ordered refused → AreCut ordered now → AllIn given → AllInBlocks now.chain
  sifted a l r given ordered refused now each are all =
      let put = accepted each all in
      ⊎_elim (λ h. ordered_from (map message ordered ++ timeout ∷ []) now h (said ordered (timeout ∷ []) put tt))
      (λ h. ordered_from (map message ordered) now h.0
      (subst AllSaid (append-nil (map {A = Envelope} {B = Mark Envelope} message ordered)) (said ordered [] put tt)))
      are
