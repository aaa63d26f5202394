-- What a peer leaves in its store.
use Rattle.std.proofs.Common.{◌≡◌, ◌∙◌, ◌++◌, inl, inr, ℕ, Bool, true, false, [], Option, Some, None, IfSome, IsSome, Result, Ok, Err, OnOk}
use Rattle.std.proofs.Common.{ap, refl, subst, sym}
use Rattle.std.specs.List.{flat_map}
use Rattle.block_store.specs.Record.{record_bytes}
use Rattle.ledger_model.specs.Chain.{Bytes, Chain}
use Rattle.ledger_setting.specs.Rule.{table_of}
use Rattle.store_replay.specs.Lawful.{AreLawful}
use Rattle.log_peer.specs.Holding.{Grows, HoldsRecords, KeepsRecords}
use Rattle.log_peer.specs.Peering.{file_of, held_by}
use Rattle.log_peer.specs.Storing.{IsOpened}
use Rattle.log_peer.specs.declared.peering.LogPeer.{LogPeer}
use Rattle.log_peer.proofs.Keeping.{grows_none, grows_on, same_records}
use Rattle.cli_lines.specs.Places.{FilesHeld, opened_bytes}
use Rattle.cli_lines.specs.Told.{Told}
use Rattle.peer_answers.specs.Answering.{Peer}
use Rattle.cli_peer.specs.Input.{Input, IsNext}
use Rattle.cli_peer.specs.Filters.{BeginsSo, ComesTo}
use Rattle.cli_peer.specs.Keeping.{HoldsChain, HoldsReached, KeepsStore, KeepsTold, LeadTo, Reaches, StartsWith, StoresOn, TellsLine, TellsLines, TellsStored}
use Rattle.cli_peer.specs.Logged.{Reached}
use Rattle.cli_peer.specs.Opening.{ComesBehind, TellsUnopened}
use Rattle.cli_peer.specs.Peering.{DoesLine, LinesTo, PeersBegin, opened}
use Rattle.cli_peer.specs.Running.{reached}
use Rattle.cli_peer.specs.declared.peering.Reader.{Reader}
use Rattle.cli_peer.proofs.Filters.{HasDone, next_by, start_by}
use Rattle.cli_peer.proofs.Lines.{all_lines}

-- ---- a peer that reads

module _ {D : Type 0} (contents : D → Option Bytes) where
  -- nothing was read
  pub stores_none : {A E : Type 0} (p : LogPeer D) (answer : Result A E) → StoresOn contents p p answer
  stores_none p (Ok a) = (grows_none (contents (file_of p)), λ holds. holds)
  stores_none p (Err e) = (grows_none (contents (file_of p)), λ holds. tt)

  -- all was read, whatever is answered
  pub stores_read : {A E : Type 0} (old new : LogPeer D) (answer : Result A E) → Grows (contents (file_of old)) (contents (file_of new))
      → (HoldsChain contents old → HoldsChain contents new) → StoresOn contents old new answer
  stores_read old new (Ok a) grows holds = (grows, holds)
  stores_read old new (Err e) grows holds = (grows, λ held. tt)

  -- one behind another
  pub stores_then : {A E : Type 0} (old mid new : LogPeer D) (answer : Result A E) → Grows (contents (file_of old)) (contents (file_of mid))
      → (HoldsChain contents old → HoldsChain contents mid) → StoresOn contents mid new answer → StoresOn contents old new answer
  stores_then old mid new answer grows holds next =
      (grows_on (contents (file_of old)) (contents (file_of mid)) (contents (file_of new)) grows next.0, λ held. next.1 (holds held))

-- ---- what was told

-- records stand first where they stood alone
pub starts_grown : (before after : Option Bytes) (chain : Chain) → HoldsRecords before chain → Grows before after → StartsWith after chain
starts_grown None after chain holds grows = absurd (cc)
starts_grown (Some held) None chain holds grows = absurd grows.1
starts_grown (Some held) (Some all) chain holds grows =
    let bytes : held ≡ flat_map record_bytes chain = cc in
    (grows.0, ap (λ (l : Bytes). Some l) (grows.1 ∙ ap (λ (l : Bytes). l ++ grows.0) bytes))

module _ {D : Type 0} (contents : D → Option Bytes) where
  -- the records of this chain stand first in the file of the new peer, where the old one's held those of its own
  abbrev pub Starts : (old new : LogPeer D) → Chain → Type 0
  Starts old new chain = HoldsChain contents old → StartsWith (contents (file_of new)) chain

  -- of the new chain
  pub starts_same : (old new : LogPeer D) → (HoldsChain contents old → HoldsChain contents new) → Starts old new (held_by new).chain
  starts_same old new holds =
      λ held. starts_grown (contents (file_of new)) (contents (file_of new)) (held_by new).chain (holds held) (grows_none (contents (file_of new)))

  -- of the old chain
  pub starts_old : {A E : Type 0} (old new : LogPeer D) (answer : Result A E) → StoresOn contents old new answer → Starts old new (held_by old).chain
  starts_old old new answer stores = λ held. starts_grown (contents (file_of old)) (contents (file_of new)) (held_by old).chain held stores.0

  -- of the chain behind others
  pub starts_then : {A E : Type 0} (old mid new : LogPeer D) (answer : Result A E) → (HoldsChain contents old → HoldsChain contents mid)
      → StoresOn contents mid new answer → Starts old new (held_by mid).chain
  starts_then old mid new answer holds stores = λ held. starts_old mid new answer stores (holds held)

  module _ (old mid new : LogPeer D) (holds : HoldsChain contents old → HoldsChain contents mid) (Does Ends : Bytes → Type 0) where
    so_starts : (text : Bytes) → ComesTo (λ t. Does t × (HoldsChain contents mid → HoldsChain contents new)) Ends text
        → ComesTo (λ t. Does t × Starts old new (held_by new).chain) Ends text
    so_starts text (inl does) = inl (does.0, starts_same old new (λ held. does.1 (holds held)))
    so_starts text (inr ends) = inr ends

    -- of the chain of a line of which something was told, behind others
    pub line_starts : (t u : Told) → TellsLine contents mid new Does Ends t u
        → BeginsSo (ComesTo (λ text. Does text × Starts old new (held_by new).chain) Ends) t u
    line_starts t u told =
        start_by (ComesTo (λ text. Does text × (HoldsChain contents mid → HoldsChain contents new)) Ends)
        (ComesTo (λ text. Does text × Starts old new (held_by new).chain) Ends) t u so_starts told

  -- a peer that was opened told a beginning of what it comes to
  pub peer_begins : (p : Peer) (input held : Option Bytes) (old new : Reader D) (cut : ℕ) (t u : Told) → IsOpened held (held_by old.peer).chain cut
      → AreLawful (table_of p.log.genesis.rules.value) [] (held_by old.peer).chain → reached old ≡ opened p (held_by old.peer).chain
      → BeginsSo (ComesBehind (held_by old.peer).chain cut (TellsLines contents p old new input)) t u → BeginsSo (PeersBegin p held input) t u
  peer_begins p input held old new cut t u opens lawful is told =
      let chain = (held_by old.peer).chain in
      start_by (ComesBehind chain cut (TellsLines contents p old new input)) (PeersBegin p held input) t u
      (λ text behind. inl (
        chain,
        cut,
        opens,
        lawful,
        (behind.0, (behind.1.0, subst (λ (r : Reached). LinesTo p r input behind.0 behind.1.0) is behind.1.1), behind.2),
      ))
      told

-- all lines were done
pub all_lead : (p : Peer) (input : Option Bytes) (before after : Input) (there : Bool) (old new : Reached) (number : ℕ) (t u : Told)
    → HasDone (DoesLine p) input before.left old number new t u → IsNext there before after → there ≡ false → LeadTo p old input new
all_lead p input before after there old new number t u h next is =
    (h.lines, all_lines input before.left h.lines h.taken (next_by before after there false next is), (h.text, h.done))

-- ---- a file that is closed

reached_by : (p : Peer) (input held left after : Option Bytes) (first : Chain) (cut : ℕ) (from new : Reached) → IsOpened held first cut
    → AreLawful (table_of p.log.genesis.rules.value) [] first → from ≡ opened p first → LeadTo p from input new → HoldsRecords left new.held.chain
    → after ≡ left → (chain : Chain) × Reaches p held input chain × HoldsRecords after chain
reached_by p input held left after first cut from new opens lawful is leads holds closed = (
  new.held.chain,
  (first, cut, opens, lawful, (new, subst (λ (r : Reached). LeadTo p r input new) is leads, refl)),
  closed ∙ holds,
)

told_left : (p : Peer) (input held left after : Option Bytes) (first : Chain) (cut : ℕ) (from : Reached) (Holds : Type 0) (t u : Told)
    → IsOpened held first cut → AreLawful (table_of p.log.genesis.rules.value) [] first → from ≡ opened p first → Holds → after ≡ left
    → BeginsSo (ComesBehind first cut (λ rest. (last : Reached) × LinesTo p from input rest last × (Holds → StartsWith left last.held.chain))) t u
    → BeginsSo (TellsStored p held input after) t u
told_left p input held left after first cut from Holds t u opens lawful is holds closed told =
    start_by (ComesBehind first cut (λ rest. (last : Reached) × LinesTo p from input rest last × (Holds → StartsWith left last.held.chain)))
    (TellsStored p held input after) t u
    (λ text behind. let last = behind.1.0 in inl (
      first,
      cut,
      opens,
      lawful,
      (
        behind.0,
        (
          last,
          subst (λ (r : Reached). LinesTo p r input behind.0 last) is behind.1.1,
          subst (λ (o : Option Bytes). StartsWith o last.held.chain) (sym closed) (behind.1.2 holds),
        ),
        behind.2,
      ),
    ))
    told

pub some_so : {X : Type 0} (o : Option X) (P : Type 0) → IsSome o → IfSome o (λ _. P) → P
some_so None P is so = absurd (cc)
some_so (Some x) P is so = so

opened_some : (held : Option Bytes) → IsSome held → held ≡ opened_bytes true held
opened_some None is = absurd (cc)
opened_some (Some bytes) is = refl

-- the file of a name, which is there and held these bytes, is closed with others left in it
module _ (known : Bool) (name : Bytes) (before closing after : FilesHeld) (file left : Option Bytes) (there : known ≡ true → file ≡ before name)
    (made : known ≡ true → IsSome (before name)) (same : closing ≡ before) (closed : known ≡ true → IfSome (closing name) (λ _. after name ≡ left)) where
  closed_so : known ≡ true → after name ≡ left
  closed_so is =
      some_so (before name) (after name ≡ left) (made is) (subst (λ (held : FilesHeld). IfSome (held name) (λ _. after name ≡ left)) same (closed is))

  opened_so : known ≡ true → file ≡ opened_bytes true (before name)
  opened_so is = there is ∙ opened_some (before name) (made is)

  file_so : (P : Type 0) → known ≡ true → IfSome file (λ _. P) → P
  file_so P is so = some_so file P (subst IsSome (sym (there is)) (made is)) so

  pub closed_keeps : KeepsRecords file left → KeepsStore known name before after
  closed_keeps keeps =
      λ is. subst (λ (o : Option Bytes). KeepsRecords (before name) o) (sym (closed_so is)) (subst (λ (o : Option Bytes). KeepsRecords o left) (there is) keeps)

  pub closed_holds : {A E : Type 0} (p : Peer) (input : Option Bytes) (first : Chain) (cut : ℕ) (from new : Reached) (answer : Result A E)
      → IsOpened file first cut → AreLawful (table_of p.log.genesis.rules.value) [] first → from ≡ opened p first
      → OnOk answer (LeadTo p from input new) → IfSome file (λ _. OnOk answer (HoldsRecords left new.held.chain))
      → OnOk answer (HoldsReached known p name input before after)
  closed_holds p input first cut from new (Ok a) opens lawful is leads holds =
      λ writes.
      reached_by p input (opened_bytes true (before name)) left (after name) first cut from new
      (subst (λ (o : Option Bytes). IsOpened o first cut) (opened_so writes) opens) lawful is leads (file_so (HoldsRecords left new.held.chain) writes holds)
      (closed_so writes)
  closed_holds p input first cut from new (Err e) opens lawful is leads holds = tt

  pub closed_told : (p : Peer) (input : Option Bytes) (first : Chain) (cut : ℕ) (from : Reached) (Holds : Type 0) (t u : Told)
      → IsOpened file first cut → AreLawful (table_of p.log.genesis.rules.value) [] first → from ≡ opened p first → IfSome file (λ _. Holds)
      → BeginsSo (ComesBehind first cut (λ rest. (last : Reached) × LinesTo p from input rest last × (Holds → StartsWith left last.held.chain))) t u
      → KeepsTold known p name input before after t u
  closed_told p input first cut from Holds t u opens lawful is holds told =
      λ writes.
      told_left p input (opened_bytes true (before name)) left (after name) first cut from Holds t u
      (subst (λ (o : Option Bytes). IsOpened o first cut) (opened_so writes) opens) lawful is (file_so Holds writes holds) (closed_so writes) told

  pub unopened_told : (p : Peer) (input : Option Bytes) (t u : Told) → BeginsSo (TellsUnopened p.log.genesis.rules.value file) t u
      → KeepsTold known p name input before after t u
  unopened_told p input t u told =
      λ writes. let held = opened_bytes true (before name) in
      start_by (TellsUnopened p.log.genesis.rules.value held) (TellsStored p held input (after name)) t u (λ text is. inr is)
      (subst (λ (o : Option Bytes). BeginsSo (TellsUnopened p.log.genesis.rules.value o) t u) (opened_so writes) told)

-- what was held, and what was left as that was read on
pub held_then : {X : Type 0} (held : Option X) (P Q : Type 0) → IfSome held (λ _. P) → (P → Q) → IfSome held (λ _. Q)
held_then None P Q first next = tt
held_then (Some x) P Q first next = next first

-- ---- a file that stays, or is made, and then is opened

pub keeps_same : (known : Bool) (name : Bytes) (before after : FilesHeld) → (known ≡ true → after name ≡ before name) → KeepsStore known name before after
keeps_same known name before after same =
    λ is. subst (λ (o : Option Bytes). KeepsRecords (before name) o) (sym (same is)) (same_records (before name))

keeps_opened : (held after : Option Bytes) → KeepsRecords (opened_bytes true held) after → KeepsRecords held after
keeps_opened None after keeps = tt
keeps_opened (Some bytes) after keeps = keeps

pub keeps_made : (known : Bool) (name : Bytes) (before after : FilesHeld) → (known ≡ true → after name ≡ opened_bytes true (before name))
    → KeepsStore known name before after
keeps_made known name before after made =
    λ is. keeps_opened (before name) (after name)
    (subst (λ (o : Option Bytes). KeepsRecords o (after name)) (made is) (same_records (after name)))

pub keeps_from : (known : Bool) (name : Bytes) (before mid after : FilesHeld) → (known ≡ true → mid name ≡ opened_bytes true (before name))
    → KeepsStore known name mid after → KeepsStore known name before after
keeps_from known name before mid after made keeps =
    λ is. keeps_opened (before name) (after name) (subst (λ (o : Option Bytes). KeepsRecords o (after name)) (made is) (keeps is))

pub holds_from : {A E : Type 0} (known : Bool) (p : Peer) (name : Bytes) (input : Option Bytes) (before mid after : FilesHeld) (answer : Result A E)
    → (known ≡ true → mid name ≡ opened_bytes true (before name)) → OnOk answer (HoldsReached known p name input mid after)
    → OnOk answer (HoldsReached known p name input before after)
holds_from known p name input before mid after (Ok a) made holds =
    λ is. subst (λ (o : Option Bytes). (chain : Chain) × Reaches p (opened_bytes true o) input chain × HoldsRecords (after name) chain) (made is) (holds is)
holds_from known p name input before mid after (Err e) made holds = tt

pub told_from : (known : Bool) (p : Peer) (name : Bytes) (input : Option Bytes) (before mid after : FilesHeld) (t u : Told)
    → (known ≡ true → mid name ≡ opened_bytes true (before name)) → KeepsTold known p name input mid after t u
    → KeepsTold known p name input before after t u
told_from known p name input before mid after t u made told =
    λ is. subst (λ (o : Option Bytes). BeginsSo (TellsStored p (opened_bytes true o) input (after name)) t u) (made is) (told is)

-- all files stay
pub keeps_all : (known : Bool) (name : Bytes) (before after : FilesHeld) → after ≡ before → KeepsStore known name before after
keeps_all known name before after same = keeps_same known name before after (λ is. ap (λ (h : FilesHeld). h name) same)
