-- The organisations whose tags are right: how many they are, where they are known, and of blocks side by side.
use Rattle.std.proofs.Common.{◌≡◌, ℕ, ◌+◌, ◌<◌, ◌≤◌, Bool, List, [], ◌∷◌, ◌++◌, length, map, take, drop, get_or, Option, Some, None, IfSome, sym, ap, ap₂, ◌∙◌}
use Rattle.std.proofs.Common.{Bor, Vec, Global, Result, Ok, Err, IfOk, length-append, append_assoc, subst, arith}
use Rattle.std.specs.Prelude.{filter}
use Rattle.std.specs.Slice.{IsItemAt}
use Rattle.std.proofs.lemmas.List.{append-nil, length-map, map-append, map_push, drop_more, drop_all, get_or-map, get_or-take, take_all}
use Rattle.std.proofs.lemmas.List.Sums.{length-filter, count_by-le-length}
use Rattle.fab_types.specs.declared.envelope.Endorsement.{Endorsement}
use Rattle.fab_types.specs.declared.envelope.Envelope.{Envelope}
use Rattle.policy_language.specs.GoodSets.{Names}
use Rattle.endorsement_policy.specs.Endorsed.{is_right, right_orgs}
use Rattle.org_keys.specs.declared.organisation.Organisation.{Organisation}

-- what was found of a block, and what there is to be found
abbrev pub found_in : Vec Names Global → List Names
found_in v = v.items

abbrev pub right_in : List Organisation → Bor (List Envelope) → List Names
right_in orgs block = map (right_orgs orgs) block.now

-- an envelope's are no more than its endorsements
pub few : (orgs : List Organisation) (e : Envelope) (names rest : Names) → names ++ rest ≡ right_orgs orgs e → length e.endorsements ≤ 32 → length names ≤ 32
few orgs e names rest is limit =
    let right = is_right orgs e.payload in
    let count = length-map (filter right e.endorsements) (λ (x : Endorsement). x.org) ∙ length-filter right e.endorsements in
    omega (arith, count, count_by-le-length right e.endorsements, length-append names rest, ap (λ (l : Names). length l) is)

-- those of all endorsements that were looked at
pub all_seen : {X Y : Type 0} (org : X → Y) (right : X → Bool) (names all : List Y) (xs : List X) (i : ℕ) → names ++ map org (filter right (drop i xs)) ≡ all →
    length xs ≤ i → names ≡ all
all_seen org right names all xs i is over =
    sym (append-nil names) ∙ ap (λ l. names ++ map org (filter right l)) (sym (drop_all i xs over)) ∙ is

-- what is known of all envelopes is known of the first
pub known_first : {N : Type 0} (known all : List N) → known ≡ all → known ≡ take (length known) all
known_first known all is = is ∙ sym (take_all (length known) all (omega (arith, ap (λ l. length l) is)))

-- what is known at a place
pub known_at : {E N : Type 0} (f : E → N) (known : List N) (es : List E) (place : ℕ) (e : E) (found : Option (Bor N)) →
    known ≡ take (length known) (map f es) → place < length es → e ≡ get_or es place e → IsItemAt known place found → IfSome found (λ s. s.now ≡ f e)
known_at f known es place e None first here is at = tt
known_at {E} {N} f known es place e (Some s) first here is at =
    let inside : place < length known = at.3.0 in
    at.1 ∙ ap (λ (l : List N). get_or l place s.now) first ∙ get_or-take (length known) (map f es) place s.now inside
    ∙ get_or-map f es place e s.now here ∙ ap f (sym is)

-- one block more
pub more_blocks : {A B C : Type 0} (g : B → C) (f : A → C) (done : List B) (blocks : List A) (i : ℕ) (block : A) (next : B) → i < length blocks →
    block ≡ get_or blocks i block → g next ≡ f block → map g done ++ map f (drop i blocks) ≡ map f blocks →
    map g (done ++ next ∷ []) ++ map f (drop (i + 1) blocks) ≡ map f blocks
more_blocks {A} {B} {C} g f done blocks i block next here is same so_far =
    let rest = map f (drop (i + 1) blocks) in
    ap (λ (l : List C). l ++ rest) (map_push g done next) ∙ append_assoc (map g done) (g next ∷ []) rest
    ∙ ap (λ (c : C). map g done ++ c ∷ rest) (same ∙ ap f is) ∙ sym (ap (λ (l : List A). map g done ++ map f l) (drop_more blocks i block here)) ∙ so_far

-- the parts of two workers behind one another
pub both_halves : {A C : Type 0} (f : A → C) (low high all : List C) (front back xs : List A) → low ≡ map f front → high ≡ map f back → all ≡ low ++ high →
    xs ≡ front ++ back → all ≡ map f xs
both_halves f low high all front back xs first second made parts =
    made ∙ ap₂ ◌++◌ first second ∙ sym (map-append f front back) ∙ sym (ap (map f) parts)

-- what two workers came to, put together, where neither ran out of memory
pub joined : {X E : Type 0} (P Q R : X → Type 0) (made : X → X → X → Type 0) (low high all : Result X E) →
    ((front back both : X) → P front → Q back → made front back both → R both) → IfOk low P → IfOk high Q →
    IfOk all (λ both. (front : X) × (back : X) × (low ≡ Ok front) × (high ≡ Ok back) × made front back both) → IfOk all R
joined P Q R made low high (Err e) f first second h = tt
joined {X} {E} P Q R made low high (Ok both) f first second h =
    f h.0 h.1 both (subst (λ (r : Result X E). IfOk r P) h.2 first) (subst (λ (r : Result X E). IfOk r Q) h.3 second) h.4

-- and of blocks
pub both_parts : {A B C : Type 0} (g : B → C) (f : A → C) (low high all : List B) (front back blocks : List A) → map g low ≡ map f front →
    map g high ≡ map f back → all ≡ low ++ high → blocks ≡ front ++ back → map g all ≡ map f blocks
both_parts g f low high all front back blocks first second made parts =
    both_halves f (map g low) (map g high) (map g all) front back blocks first second (ap (map g) made ∙ map-append g low high) parts

-- what is known of the block at a place
module _ {A B C : Type 0} (g : B → C) (f : A → C) (all : List B) (blocks : List A) (same : map g all ≡ map f blocks) where
  pub as_many : length all ≡ length blocks
  as_many = sym (length-map all g) ∙ ap (λ (l : List C). length l) same ∙ length-map blocks f

  pub of_block : (i : ℕ) (block : A) (known : B) → i < length blocks → block ≡ get_or blocks i block → known ≡ get_or all i known → g known ≡ f block
  of_block i block known here is found =
      let inside : i < length all = omega (arith, as_many) in
      ap g found ∙ sym (get_or-map g all i known (g known) inside) ∙ ap (λ (l : List C). get_or l i (g known)) same
      ∙ get_or-map f blocks i block (g known) here ∙ ap f (sym is)
