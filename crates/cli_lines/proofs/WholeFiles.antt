-- Files that are written as a whole.
use Rattle.std.proofs.Common.{◌≡◌, ◌≢◌, ◌∙◌, ◌++◌, ℕ, Bool, true, List, [], ◌∷◌, Option, Some, None, Result, Ok, Err, IfOk, OnErr, codes, length, length-append, ap, arith, subst, sym}
use Rattle.std.specs.Io.KnownBytes.{Appends}
use Rattle.cli_lines.specs.Places.{ChangesOnly, FilesHeld, IsFileOf}
use Rattle.cli_lines.specs.Whole.{AppendsSo, ChangesPlaced, HoldsSo, PlacesSo, Stays, whole_names}
use Rattle.cli_lines.specs.declared.files.Target.{Target}

-- what is written to an empty file is all of it
appended : (text : List ℕ) (new : Option (List ℕ)) → Appends (Some []) new text → new ≡ Some text
appended text None more = absurd more
appended text (Some all) more = ap Some more

pub holds_all : (known : Bool) (old new : Option (List ℕ)) (Is : List ℕ → Type 0) → (known ≡ true → old ≡ Some []) → AppendsSo Is old new →
    HoldsSo known new Is
holds_all known old new Is empty more =
    (more.0, more.1, λ writes. appended more.0 new (subst (λ (o : Option (List ℕ)). Appends o new more.0) (empty writes) more.2))

-- a file that was written has got a name
pub holds_kept : (known : Bool) (written held : Option (List ℕ)) (Is : List ℕ → Type 0) → (known ≡ true → held ≡ written) → HoldsSo known written Is →
    HoldsSo known held Is
holds_kept known written held Is kept holds = (holds.0, holds.1, λ writes. kept writes ∙ holds.2 writes)

-- the file of a name, which is that of each name that leads to a place
pub holds_placed : (known : Bool) (bytes : FilesHeld) (target : Target) (path : List ℕ) (Is : List ℕ → Type 0) →
    ((name : List ℕ) → IsFileOf name target → path ≡ name) → HoldsSo known (bytes path) Is → PlacesSo known bytes target Is
holds_placed known bytes target path Is same holds =
    (holds.0, holds.1, λ name leads writes. ap bytes (sym (same name leads)) ∙ holds.2 writes)

pub placed_ok : {A E : Type 0} (r : Result A E) (known : Bool) (bytes : FilesHeld) (target : Target) (path : List ℕ) (Is : A → List ℕ → Type 0) →
    ((name : List ℕ) → IsFileOf name target → path ≡ name) → IfOk r (λ a. HoldsSo known (bytes path) (Is a)) →
    IfOk r (λ a. PlacesSo known bytes target (Is a))
placed_ok (Ok a) known bytes target path Is same holds = holds_placed known bytes target path (Is a) same holds
placed_ok (Err e) known bytes target path Is same holds = tt

-- to a device no name leads
pub device_ok : {A E : Type 0} (r : Result A E) (known : Bool) (bytes : FilesHeld) (target : Target) (Is : A → List ℕ → Type 0) →
    ((name : List ℕ) → IsFileOf name target → ⊥) → IfOk r (λ a. (text : List ℕ) × Is a text) → IfOk r (λ a. PlacesSo known bytes target (Is a))
device_ok (Ok a) known bytes target Is none text = (text.0, text.1, λ name leads. absurd (none name leads))
device_ok (Err e) known bytes target Is none text = tt

-- the name of the file beside another is another one
pub apart_from_part : (name part : List ℕ) → part ≡ name ++ codes ".part" → name ≢ part
apart_from_part name part is = λ same.
    let longer : length part ≡ length name = ap length (sym same) in
    let parts = ap length is ∙ length-append name (codes ".part") in
    absurd (omega (arith, longer, parts))

-- what was refused changed the file beside alone
pub part_changed : {A E : Type 0} (r : Result A E) (known : Bool) (name part : List ℕ) (a b : FilesHeld) (P : Type 0) → name ≢ part →
    ChangesOnly known (part ∷ []) a b → OnErr r (P → Stays known name a b)
part_changed (Ok x) known name part a b P apart change = tt
part_changed (Err e) known name part a b P apart change = λ free writes. change writes name (apart, tt)

-- the same and behind that what leaves the file
pub part_changed_then : {A E : Type 0} (r : Result A E) (known : Bool) (name part : List ℕ) (a b c : FilesHeld) (P Q : Type 0) → name ≢ part →
    ChangesOnly known (part ∷ []) a b → (P → known ≡ true → b name ≡ a name → Q) → OnErr r (Q → Stays known name b c) → OnErr r (P → Stays known name a c)
part_changed_then (Ok x) known name part a b c P Q apart change step stays = tt
part_changed_then (Err e) known name part a b c P Q apart change step stays = λ free writes.
    let same = change writes name (apart, tt) in
    stays (step free writes same) writes ∙ same

-- ---- which files are changed

-- what changes the file beside one of this name alone
pub changes_part : (known : Bool) (name part : List ℕ) (a b : FilesHeld) → part ≡ name ++ codes ".part" → ChangesOnly known (part ∷ []) a b →
    ChangesOnly known (whole_names name) a b
changes_part known name part a b is change = λ writes n other. change writes n (λ same. other.1.0 (same ∙ is), tt)

-- the same, and that one
pub changes_both : (known : Bool) (name part : List ℕ) (a b : FilesHeld) → part ≡ name ++ codes ".part" → ChangesOnly known (part ∷ name ∷ []) a b →
    ChangesOnly known (whole_names name) a b
changes_both known name part a b is change = λ writes n other. change writes n (λ same. other.1.0 (same ∙ is), (other.0, tt))

-- the files of a name are changed, which is that of each name that leads there
pub placed_at : (known : Bool) (target : Target) (path : List ℕ) (a b : FilesHeld) → ((name : List ℕ) → IsFileOf name target → path ≡ name) →
    ChangesOnly known (whole_names path) a b → ChangesPlaced known target a b
placed_at known target path a b same change = λ name leads. subst (λ (n : List ℕ). ChangesOnly known (whole_names n) a b) (same name leads) change
