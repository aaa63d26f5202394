-- What is left of a store to be read, where its bytes are known.
use Rattle.std.proofs.Common.{◌≡◌, ℕ, suc, Option, Some, None, List, [], ◌∷◌, ◌++◌, refl, sym, ap, subst, ◌∙◌, append_assoc}
use Rattle.std.specs.Io.KnownBytes.{Consumes, IsAtEnd, Keeps}
use Rattle.std.proofs.lemmas.List.{append-nil, append_cancel_left}
use Rattle.fab_types.specs.Committed.{Committed}
use Rattle.block_store.specs.Record.{record_bytes}
use Rattle.block_store.specs.Store.{Loads}
use Rattle.block_store.specs.Loading.{Gives, IsLoaded, LoadsFrom, ReadsAll, StoreGives}
use Rattle.block_store.specs.declared.end.End.{End}
use Rattle.block_store.specs.declared.end.End.TheVariants.{Clean, Torn, Damaged, DeviceFailed}
use Rattle.block_store.proofs.Reading.{damaged_longer}

-- what was read since is what was taken off the known bytes
pub record Took (before now : List ℕ) (known left : Option (List ℕ)) : Type 0 where
  pub bytes : List ℕ
  pub read : now ≡ before ++ bytes
  pub consumed : Consumes known left bytes

consumes_nothing : (known : Option (List ℕ)) → Consumes known known []
consumes_nothing None = tt
consumes_nothing (Some xs) = refl

consumes_more : (known left less : Option (List ℕ)) (front piece : List ℕ) → Consumes known left front → Consumes left less piece →
    Consumes known less (front ++ piece)
consumes_more None left less front piece h k = tt
consumes_more (Some xs) None less front piece h k = absurd h
consumes_more (Some xs) (Some ys) None front piece h k = absurd k
consumes_more (Some xs) (Some ys) (Some zs) front piece h k = h ∙ ap (λ (t : List ℕ). front ++ t) k ∙ sym (append_assoc front piece zs)

consumes_kept : (known left less : Option (List ℕ)) (front : List ℕ) → Consumes known left front → Keeps left less → Consumes known less front
consumes_kept None left less front h k = tt
consumes_kept (Some xs) None less front h k = absurd h
consumes_kept (Some xs) (Some ys) None front h k = absurd k
consumes_kept (Some xs) (Some ys) (Some zs) front h k = h ∙ ap (λ (t : List ℕ). front ++ t) (sym k)

pub took_nothing : (now : List ℕ) (known : Option (List ℕ)) → Took now now known known
took_nothing now known = record { bytes = []; read = sym (append-nil now); consumed = consumes_nothing known }

pub took_more : (before now later piece : List ℕ) (known left less : Option (List ℕ)) → Took before now known left → later ≡ now ++ piece →
    Consumes left less piece → Took before later known less
took_more before now later piece known left less h e more =
    record {
      bytes = h.bytes ++ piece;
      read = e ∙ ap (λ (t : List ℕ). t ++ piece) h.read ∙ append_assoc before h.bytes piece;
      consumed = consumes_more known left less h.bytes piece h.consumed more;
    }

pub took_no_more : (before now later : List ℕ) (known left less : Option (List ℕ)) → Took before now known left → later ≡ now → Keeps left less →
    Took before later known less
took_no_more before now later known left less h e kept =
    record { bytes = h.bytes; read = e ∙ h.read; consumed = consumes_kept known left less h.bytes h.consumed kept }

-- ---- the store that was left to be read

damage_stays : (n : ℕ) (read rest : List ℕ) (cs : List Committed) (m : ℕ) → Loads n read cs (Damaged m) → Loads n (read ++ rest) cs (Damaged m)
damage_stays n read rest [] m h = (h.0, damaged_longer n read rest h.1)
damage_stays n read rest (c ∷ cs) m h =
    (h.0 ++ rest, h.1, ap (λ (t : List ℕ). t ++ rest) h.2 ∙ append_assoc (record_bytes c) h.0 rest, damage_stays (suc n) h.0 rest cs m h.3)

all_there : (bytes read rest : List ℕ) → bytes ≡ read ++ rest → rest ≡ [] → read ≡ bytes
all_there bytes read rest split none = sym (split ∙ ap (λ (t : List ℕ). read ++ t) none ∙ append-nil read)

gives_of : (bytes read rest : List ℕ) (cs : List Committed) (end : End) → bytes ≡ read ++ rest → Gives read cs end → ReadsAll end (rest ≡ []) →
    StoreGives bytes cs end
gives_of bytes read rest cs Clean split gives none = subst (λ (t : List ℕ). Loads 1 t cs Clean) (all_there bytes read rest split none) gives
gives_of bytes read rest cs Torn split gives none = subst (λ (t : List ℕ). Loads 1 t cs Torn) (all_there bytes read rest split none) gives
gives_of bytes read rest cs (Damaged m) split gives none = subst (λ (t : List ℕ). Loads 1 t cs (Damaged m)) (sym split) (damage_stays 1 read rest cs m gives)
gives_of bytes read rest cs DeviceFailed split gives none = (read, rest, split, gives)

none_left : (rest : List ℕ) (end : End) → rest ≡ [] → ReadsAll end (rest ≡ [])
none_left rest Clean e = e
none_left rest Torn e = e
none_left rest (Damaged m) e = tt
none_left rest DeviceFailed e = tt

-- what a load gives of the bytes that it read is what it gives of the store
pub store_of : (before now : List ℕ) (known left : Option (List ℕ)) (cs : List Committed) (end : End) → Took before now known left →
    IsLoaded before now cs end → ReadsAll end (IsAtEnd left) → LoadsFrom before now known cs end
store_of before now None left cs end took loaded all =
    record {
      bytes = loaded.bytes;
      rest = [];
      held = tt;
      read = sym (append-nil now ∙ loaded.read);
      all = none_left [] end refl;
      gives = gives_of loaded.bytes loaded.bytes [] cs end (sym (append-nil loaded.bytes)) loaded.gives (none_left [] end refl);
    }
store_of before now (Some xs) None cs end took loaded all = absurd took.consumed
store_of before now (Some xs) (Some ys) cs end took loaded all =
    let same = append_cancel_left before took.bytes loaded.bytes (sym took.read ∙ loaded.read) in
    let split = took.consumed ∙ ap (λ (t : List ℕ). t ++ ys) same in
    record {
      bytes = xs;
      rest = ys;
      held = refl;
      read = ap (λ (t : List ℕ). before ++ t) split ∙ sym (append_assoc before loaded.bytes ys) ∙ ap (λ (t : List ℕ). t ++ ys) (sym loaded.read);
      all = all;
      gives = gives_of xs loaded.bytes ys cs end split loaded.gives all;
    }
