-- How far the reading of a store has come.
use Rattle.std.specs.Prelude.{◌≡◌, ℕ, suc, Bool, true, false, List, [], ◌∷◌, ◌++◌, ◌<◌, ◌≤◌, length}
use Rattle.fab_types.specs.Committed.{Committed}
use Rattle.block_store.specs.Record.{record_bytes, IsRecord}
use Rattle.block_store.specs.Store.{Awaits, IsBeginning, IsDamaged}
use Rattle.block_store.specs.declared.end.End.{End}
use Rattle.block_store.specs.declared.end.End.TheVariants.{Clean, Torn, Damaged}

-- the number of the next record, and the bytes that have come of it, none once it is damaged
pub record Progress : Type 0 where
  pub next : ℕ
  pub held : List ℕ
  pub is_damaged : Bool

-- what a reader knows of its fields
pub record IsReading (next : ℕ) (held : List ℕ) (needed : ℕ) : Type 0 where
  pub number : next ≤ 4000000001
  pub small : length held < 526954
  pub awaits : Awaits next held needed

-- nothing is whole at record n: its bytes are held, unless they show damage
abbrev pub RestsBy : Bool → ℕ → List ℕ → List ℕ → Type 0
RestsBy false n bytes held = IsBeginning n bytes × (held ≡ bytes)
RestsBy true n bytes held = IsDamaged n bytes × (held ≡ [])

-- from record n on the bytes are these records, and leave the reading at q
abbrev pub Reads : ℕ → List ℕ → List Committed → Progress → Type 0
Reads n bytes [] q = (q.next ≡ n) × RestsBy q.is_damaged n bytes q.held
Reads n bytes (c ∷ cs) q = (rest : List ℕ) × IsRecord n c × (bytes ≡ record_bytes c ++ rest) × Reads (suc n) rest cs q

-- with the next piece of the store, the reading goes on from p to q and gives these records; behind damage it gives none
abbrev pub FeedsBy : Bool → Progress → List ℕ → List Committed → Progress → Type 0
FeedsBy false p piece cs q = Reads p.next (p.held ++ piece) cs q
FeedsBy true p piece cs q = (cs ≡ []) × (q ≡ p)

abbrev pub Feeds : Progress → List ℕ → List Committed → Progress → Type 0
Feeds p piece cs q = FeedsBy p.is_damaged p piece cs q

-- before any byte
abbrev pub at_start : Progress
at_start = record { next = 1; held = []; is_damaged = false }

abbrev pub end_by : Bool → ℕ → List ℕ → End
end_by true n held = Damaged n
end_by false n [] = Clean
end_by false n (b ∷ held) = Torn

-- the end of a store that has no more bytes
abbrev pub end_of : Progress → End
end_of p = end_by p.is_damaged p.next p.held

-- the same, piece after piece
abbrev pub FeedsAll : Progress → List (List ℕ) → List Committed → Progress → Type 0
FeedsAll p [] cs q = (cs ≡ []) × (q ≡ p)
FeedsAll p (piece ∷ pieces) cs q = (mid : Progress) × (ds es : List Committed) × Feeds p piece ds mid × FeedsAll mid pieces es q × (cs ≡ ds ++ es)
