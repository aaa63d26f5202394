-- Which files a run changes.
use Rattle.std.proofs.Common.{◌≡◌, ◌<◌, ℕ, Bool, true, List, [], Option, Some, None, IfOk, IfSome, Result, Ok, Err, OnOk, length, sym, ap, subst, ◌∙◌, arith}
use Rattle.std.specs.Borrow.{Bor}
use Rattle.fab_types.specs.Committed.{Committed}
use Rattle.block_store.specs.Loading.{LoadsFrom, StoreGives}
use Rattle.block_store.specs.Store.{Loads}
use Rattle.block_store.specs.declared.end.End.{End}
use Rattle.block_store.specs.declared.end.End.TheVariants.{Clean, Torn, Damaged, DeviceFailed}
use Rattle.block_store.proofs.OneAnswer.{one_answer}
use Rattle.ledger_model.specs.Chain.{Chain}
use Rattle.cli_lines.specs.Places.{ChangesOnly, FilesHeld, IsFileOf, IsFree}
use Rattle.cli_lines.specs.declared.files.Target.{Target}
use Rattle.cli_lines.specs.declared.files.Target.TheVariants.{File, NewFile, Device}
use Rattle.cli_lines.proofs.Changes.{changes_none, changes_then}
use Rattle.cli_lines.specs.Whole.{ChangesPlaced, PlacesSo, whole_names}
use Rattle.cli_session.specs.Stored.{BeginsNoStore, HasFound, HasStore, Holds, IsStoreBy, WhereNoStore, store_bytes}

-- what was written to a place is a store, by each name that leads there
pub holds_written : {A E : Type 0} (r : Result A E) (known : Bool) (bytes : FilesHeld) (target : Target) (chain : Chain) →
    IfOk r (λ told. PlacesSo known bytes target (λ text. text ≡ store_bytes chain)) →
    OnOk r ((name : List ℕ) → IsFileOf name target → Holds known bytes name chain)
holds_written (Ok x) known bytes target chain placed = λ name leads writes. placed.2 name leads writes ∙ ap Some placed.1
holds_written (Err e) known bytes target chain placed = tt

-- what is there is not none
pub some_none : {A : Type 0} (o : Option A) (x : A) (P : Type 0) → o ≡ Some x → o ≡ None → P
some_none o x P is none = absurd (cc (is, none))

-- files that stay, whatever the place
pub placed_kept : (known : Bool) (place : Option (Bor Target)) (a b : FilesHeld) → b ≡ a → IfSome place (λ t. ChangesPlaced known t.now a b)
placed_kept known None a b same = tt
placed_kept known (Some target) a b same = λ name leads. changes_none known (whole_names name) a b same

-- a store is written behind what leaves the files
pub placed_by : (known : Bool) (place : Option (Bor Target)) (target : Bor Target) (a b c : FilesHeld) → place ≡ Some target → b ≡ a →
    ChangesPlaced known target.now b c → IfSome place (λ t. ChangesPlaced known t.now a c)
placed_by known place target a b c is same change =
    subst (λ (o : Option (Bor Target)). IfSome o (λ t. ChangesPlaced known t.now a c)) (sym is)
    (λ name leads. changes_then known (whole_names name) a b c (changes_none known (whole_names name) a b same) (change name leads))

-- ---- of the store that was asked for

pub asked_kept : (known : Bool) (store : Option (Bor (List ℕ))) (a b : FilesHeld) → b ≡ a →
    IfSome store (λ s. ChangesOnly known (whole_names s.now) a b)
asked_kept known None a b same = tt
asked_kept known (Some name) a b same = changes_none known (whole_names name.now) a b same

pub asked_none : (known : Bool) (store : Option (Bor (List ℕ))) (a b : FilesHeld) → store ≡ None →
    IfSome store (λ s. ChangesOnly known (whole_names s.now) a b)
asked_none known store a b is = subst (λ (o : Option (Bor (List ℕ))). IfSome o (λ s. ChangesOnly known (whole_names s.now) a b)) (sym is) tt

pub asked_behind : (known : Bool) (store : Option (Bor (List ℕ))) (a b c : FilesHeld) → b ≡ a →
    IfSome store (λ s. ChangesOnly known (whole_names s.now) b c) → IfSome store (λ s. ChangesOnly known (whole_names s.now) a c)
asked_behind known store a b c same = subst (λ (h : FilesHeld). IfSome store (λ s. ChangesOnly known (whole_names s.now) h c)) same

-- its name leads to its place
pub asked_by : (known : Bool) (store : Option (Bor (List ℕ))) (name : Bor (List ℕ)) (target : Target) (a b c : FilesHeld) → store ≡ Some name →
    (known ≡ true → IsFileOf name.now target) → b ≡ a → ChangesPlaced known target b c →
    IfSome store (λ s. ChangesOnly known (whole_names s.now) a c)
asked_by known store name target a b c is leads same change =
    let names = whole_names name.now in
    subst (λ (o : Option (Bor (List ℕ))). IfSome o (λ s. ChangesOnly known (whole_names s.now) a c)) (sym is)
    (changes_then known names a b c (changes_none known names a b same) (λ writes. change name.now (leads writes) writes))

-- ---- what stands where a store is to be written

-- what was read of bytes that are known
pub found_of : (before now : List ℕ) (known held : Option (List ℕ)) (cs : List Committed) (count : ℕ) (end : End) → LoadsFrom before now known cs end →
    known ≡ held → count ≡ length cs → IfSome held (λ bytes. HasFound bytes count end)
found_of before now known None cs count end from same is = tt
found_of before now known (Some bytes) cs count end from same is =
    let all : from.bytes ≡ bytes = subst (λ (o : Option (List ℕ)). IfSome o (λ h. from.bytes ≡ h)) same from.held in
    (cs, is, subst (λ (xs : List ℕ). StoreGives xs cs end) all from.gives)

-- with a whole record at its front it begins a store
some_whole : (bytes : List ℕ) (cs : List Committed) (end : End) → 0 < length cs → Loads 1 bytes cs end → ¬ BeginsNoStore bytes
some_whole bytes cs end some loads = λ no.
    let same : length cs ≡ 0 = ap length (one_answer 1 bytes cs [] end no.0 loads no.2).0 in
    absurd (omega (arith, some, same))

pub store_begins : (bytes : List ℕ) (count : ℕ) (end : End) → HasFound bytes count end → IsStoreBy count end → ¬ BeginsNoStore bytes
store_begins bytes count Clean found whole = λ no. no.1 (sym (one_answer 1 bytes found.0 [] Clean no.0 found.2 no.2).1)
store_begins bytes count Torn found whole = some_whole bytes found.0 Torn (subst (λ (n : ℕ). 0 < n) found.1 whole) found.2
store_begins bytes count (Damaged n) found whole = some_whole bytes found.0 (Damaged n) (subst (λ (m : ℕ). 0 < m) found.1 whole) found.2
store_begins bytes count DeviceFailed found whole = absurd whole

pub stores_begin : (held : Option (List ℕ)) (count : ℕ) (end : End) → IfSome held (λ bytes. HasFound bytes count end) → IsStoreBy count end →
    IfSome held (λ bytes. ¬ BeginsNoStore bytes)
stores_begin None count end found whole = tt
stores_begin (Some bytes) count end found whole = store_begins bytes count end found whole

-- the name leads to the place
pub store_at : (bytes : FilesHeld) (name : List ℕ) (place : Target) → IsFileOf name place → IsFree bytes place → HasStore bytes place →
    IfSome (bytes name) (λ held. ¬ BeginsNoStore held)
store_at bytes name (File path) leads free has = subst (λ (n : List ℕ). IfSome (bytes n) (λ held. ¬ BeginsNoStore held)) leads has
store_at bytes name (NewFile path) leads free has =
    let none : bytes name ≡ None = subst (λ (n : List ℕ). bytes n ≡ None) leads free in
    subst (λ (o : Option (List ℕ)). IfSome o (λ held. ¬ BeginsNoStore held)) (sym none) tt
store_at bytes name (Device path) leads free has = absurd leads

-- ---- where no store begins

held_all : (held : Option (List ℕ)) (P : List ℕ → Type 0) → ((bytes : List ℕ) → P bytes) → IfSome held P
held_all None P all = tt
held_all (Some bytes) P all = all bytes

held_not : (held : Option (List ℕ)) (P : Type 0) → IfSome held (λ bytes. ¬ BeginsNoStore bytes) → IfSome held (λ bytes. BeginsNoStore bytes → P)
held_not None P not = tt
held_not (Some bytes) P not = λ none. absurd (not none)

-- what is so anyway
pub where_all : (known : Bool) (bytes : FilesHeld) (name : List ℕ) (P : Type 0) → P → WhereNoStore known bytes name P
where_all known bytes name P is = λ writes. held_all (bytes name) (λ held. BeginsNoStore held → P) (λ held none. is)

pub asked_all : (known : Bool) (store : Option (Bor (List ℕ))) (bytes : FilesHeld) (P : Type 0) → P → IfSome store (λ s. WhereNoStore known bytes s.now P)
asked_all known None bytes P is = tt
asked_all known (Some name) bytes P is = where_all known bytes name.now P is

-- a store begins there
pub asked_store : (known : Bool) (store : Option (Bor (List ℕ))) (name : Bor (List ℕ)) (bytes : FilesHeld) (P : Type 0) → store ≡ Some name →
    (known ≡ true → IfSome (bytes name.now) (λ held. ¬ BeginsNoStore held)) → IfSome store (λ s. WhereNoStore known bytes s.now P)
asked_store known store name bytes P is begins =
    subst (λ (o : Option (Bor (List ℕ))). IfSome o (λ s. WhereNoStore known bytes s.now P)) (sym is) (λ writes. held_not (bytes name.now) P (begins writes))

-- no store is asked for
pub asked_nowhere : (known : Bool) (store : Option (Bor (List ℕ))) (bytes : FilesHeld) (P : Type 0) → store ≡ None →
    IfSome store (λ s. WhereNoStore known bytes s.now P)
asked_nowhere known store bytes P is =
    subst (λ (o : Option (Bor (List ℕ))). IfSome o (λ s. WhereNoStore known bytes s.now P)) (sym is) tt

-- behind what leaves the files
pub spares_behind : (known : Bool) (store : Option (Bor (List ℕ))) (a b c : FilesHeld) → b ≡ a → IfSome store (λ s. WhereNoStore known b s.now (c ≡ b)) →
    IfSome store (λ s. WhereNoStore known a s.now (c ≡ a))
spares_behind known store a b c same = subst (λ (h : FilesHeld). IfSome store (λ s. WhereNoStore known h s.now (c ≡ h))) same

pub refuses_behind : (known : Bool) (store : Option (Bor (List ℕ))) (a b : FilesHeld) (P : Type 0) → b ≡ a →
    IfSome store (λ s. WhereNoStore known b s.now P) → IfSome store (λ s. WhereNoStore known a s.now P)
refuses_behind known store a b P same = subst (λ (h : FilesHeld). IfSome store (λ s. WhereNoStore known h s.now P)) same
