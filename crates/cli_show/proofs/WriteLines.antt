-- Writes to a key, transaction after transaction.
use Rattle.std.proofs.Common.{◌≡◌, ℕ, zero, suc, ◌+◌, ◌<◌, ◌≤◌, List, [], ◌∷◌, ◌++◌, length, get_or, take, Option, Some, None, map, option_map, option_to_list}
use Rattle.std.proofs.Common.{String, Global, string_bytes, refl, sym, ap, subst, ◌∙◌, arith}
use Rattle.std.proofs.lemmas.List.{append-nil}
use Rattle.std.proofs.lemmas.List.Concat.{flat_map-append}
use Rattle.std.specs.Io.KnownBytes.{Appends}
use Rattle.serde_json.specs.Data.{Data}
use Rattle.ledger_model.specs.Chain.{Bytes, Envelope, Flag, Committed, Chain, Placed, transactions_from, history}
use Rattle.ledger_model.proofs.Histories.{history-push}
use Rattle.ledger_model.specs.State.{write_of}
use Rattle.wire.specs.Ids.{id_of}
use Rattle.json_chain.specs.Entries.{placed_write_json}
use Rattle.json_chain.specs.Writes.{IsLineOf, IsWriteLine, placed_at}
use Rattle.cli_lines.specs.Texts.{line}
use Rattle.cli_show.specs.Lines.{HasLines, write_json, writes_json}
use Rattle.cli_show.proofs.Behind.{more_lines, no_lines, one_line}

-- no line, where there was no write
nothing : {A : Type 0} (json : A → Data) (w : Option A) (b : Option Bytes) → IsLineOf (option_map json w) None →
    HasLines (map json (option_to_list w)) b b
nothing json None b is = no_lines b
nothing json (Some x) b is = absurd is

-- the line of a write
written : {A : Type 0} (json : A → Data) (w : Option A) (text : String Global) (a b : Option Bytes) → IsLineOf (option_map json w) (Some text) →
    Appends a b (line (string_bytes text)) → HasLines (map json (option_to_list w)) a b
written json None text a b is h = absurd is
written json (Some x) text a b is h = one_line (json x) (string_bytes text) a b is h

pub line_of_write : (e : Envelope) (f : Flag) (key : Bytes) (n place : ℕ) (shown : Option (String Global)) (text : String Global) (a b : Option Bytes) →
    IsWriteLine e f key n place shown → shown ≡ Some text → Appends a b (line (string_bytes text)) → HasLines (write_json key (placed_at e f n place)) a b
line_of_write e f key n place shown text a b h is app =
    let there = rw is at h in
    written (λ w. placed_write_json (id_of e.payload.proposal) w.0.block w.0.place key w.1) (write_of (placed_at e f n place) key) text a b there app

pub no_line_of_write : (e : Envelope) (f : Flag) (key : Bytes) (n place : ℕ) (shown : Option (String Global)) (b : Option Bytes) →
    IsWriteLine e f key n place shown → shown ≡ None → HasLines (write_json key (placed_at e f n place)) b b
no_line_of_write e f key n place shown b h is =
    let none = rw is at h in
    nothing (λ w. placed_write_json (id_of e.payload.proposal) w.0.block w.0.place key w.1) (write_of (placed_at e f n place) key) b none

-- the transactions up to a place, and the one there
pub transactions_push : (block place n i : ℕ) (es : List Envelope) (fs : List Flag) (e : Envelope) (d : Flag) → n ≡ place + i → i < length es →
    length es ≤ length fs → e ≡ get_or es i e →
    transactions_from block place (take (i + 1) es) (take (i + 1) fs)
    ≡ transactions_from block place (take i es) (take i fs) ++ placed_at e (get_or fs i d) block n ∷ []
transactions_push block place n i [] fs e d at within each is = absurd (omega arith)
transactions_push block place n i (x ∷ es) [] e d at within each is = absurd (omega arith)
transactions_push block place n zero (x ∷ es) (y ∷ fs) e d at within each is =
    let here : n ≡ place = omega arith in
    rw (is, here) refl
transactions_push block place n (suc i) (x ∷ es) (y ∷ fs) e d at within each is =
    let next : suc i + 1 ≡ suc (i + 1) = omega arith in
    rw next (ap (λ (ts : List Placed). placed_at x y block place ∷ ts)
    (transactions_push block (suc place) n i es fs e d (omega arith) (omega arith) (omega arith) is))

-- the writes of one transaction more
pub writes_push : (key : Bytes) (ts us : List Placed) (t : Placed) (a b c : Option Bytes) → us ≡ ts ++ t ∷ [] → HasLines (writes_json key ts) a b →
    HasLines (write_json key t) b c → HasLines (writes_json key us) a c
writes_push key ts us t a b c longer h k =
    let same : writes_json key us ≡ writes_json key ts ++ write_json key t =
    ap (λ (vs : List Placed). writes_json key vs) longer ∙ flat_map-append (write_json key) ts (t ∷ [])
    ∙ ap (λ (ds : List Data). writes_json key ts ++ ds) (append-nil (write_json key t)) in
    subst (λ (ds : List Data). HasLines ds a c) (sym same) (more_lines (writes_json key ts) (write_json key t) a b c h k)

writes_longer : (key : Bytes) (chain longer : Chain) (x : Committed) (n : ℕ) → longer ≡ chain ++ x ∷ [] → n ≡ length chain + 1 →
    writes_json key (history longer) ≡ writes_json key (history chain) ++ writes_json key (transactions_from n 0 x.block.envelopes x.flags)
writes_longer key chain longer x n is number =
    ap (λ (l : Chain). writes_json key (history l)) is ∙ ap (λ (us : List Placed). writes_json key us) (history-push chain x)
    ∙ ap (λ (m : ℕ). writes_json key (history chain ++ transactions_from m 0 x.block.envelopes x.flags)) (sym number)
    ∙ flat_map-append (write_json key) (history chain) (transactions_from n 0 x.block.envelopes x.flags)

-- the writes of one block more
pub writes_block : (key : Bytes) (chain longer : Chain) (x : Committed) (n : ℕ) (a b c : Option Bytes) → longer ≡ chain ++ x ∷ [] → n ≡ length chain + 1 →
    HasLines (writes_json key (history chain)) a b → HasLines (writes_json key (transactions_from n 0 x.block.envelopes x.flags)) b c →
    HasLines (writes_json key (history longer)) a c
writes_block key chain longer x n a b c is number h k =
    let ts = transactions_from n 0 x.block.envelopes x.flags in
    subst (λ (ds : List Data). HasLines ds a c) (sym (writes_longer key chain longer x n is number))
    (more_lines (writes_json key (history chain)) (writes_json key ts) a b c h k)
