-- Lines of marks behind lines.
use Rattle.std.proofs.Common.{◌≡◌, List, [], ◌∷◌, ◌++◌, Option, None, Result, Ok, Err, IfSome, IfErr, OnErr, OnOk, map, inl, inr, refl, sym, subst, ap, ◌∙◌}
use Rattle.std.proofs.lemmas.List.{append-nil, map-append}
use Rattle.std.proofs.lemmas.List.Concat.{flat_map-append}
use Rattle.std.specs.List.{flat_map}
use Rattle.std.specs.Io.KnownBytes.{Appends}
use Rattle.fab_types.specs.Committed.{Committed}
use Rattle.fab_types.specs.declared.block.Block.{Block}
use Rattle.ledger_model.specs.Chain.{Bytes, Chain}
use Rattle.log_orderer.specs.Marks.{block_marks}
use Rattle.kept_state.specs.Keeping.{chain_of}
use Rattle.ledger_setting.specs.Rule.{table_of}
use Rattle.ledger_setting.specs.declared.genesis.Genesis.{Genesis}
use Rattle.store_replay.specs.Replay.{ReplaysFrom}
use Rattle.store_replay.specs.declared.replaying.Replayed.{Replayed}
use Rattle.cli_lines.specs.Texts.{line}
use Rattle.cli_lines.specs.Told.{Answers, Begins, IsBrokenOff, IsTextOf, PrintsPart, Tells, Told}
use Rattle.cli_lines.specs.declared.failure.Failure.{Failure}
use Rattle.cli_show.specs.Answers.{UnlessFault, fault_of}
use Rattle.cli_show.specs.Marks.{HasTexts, Marks, TellsMarks, chain_marks}
use Rattle.cli_lines.proofs.Answering.{answers_by, begins_part}
use Rattle.cli_show.proofs.Behind.{appends_more, appends_none}
use Rattle.cli_show.proofs.First.{fault_begins}
use Rattle.cli_show.proofs.Replays.{unless_fault}

pub no_texts : (b : Option Bytes) → HasTexts [] b b
no_texts b = appends_none b

pub more_texts : (ts us : List Bytes) (a b c : Option Bytes) → HasTexts ts a b → HasTexts us b c → HasTexts (ts ++ us) a c
more_texts ts us a b c h k =
    subst (λ (s : Bytes). Appends a c s) (sym (flat_map-append line ts us)) (appends_more a b c _ _ h k)

-- one line more
pub text_behind : (before after : List Bytes) (text : Bytes) (a b c : Option Bytes) → after ≡ before ++ text ∷ [] → HasTexts before a b →
    Appends b c (line text) → HasTexts after a c
text_behind before after text a b c longer h k =
    let one : HasTexts (text ∷ []) b c = subst (λ (s : Bytes). Appends b c s) (sym (append-nil (line text))) k in
    subst (λ (ts : List Bytes). HasTexts ts a c) (sym longer) (more_texts before (text ∷ []) a b c h one)

-- the marks of one block more
pub chain_longer : (chain longer : Chain) (c : Committed) → longer ≡ chain ++ c ∷ [] → chain_marks longer ≡ chain_marks chain ++ block_marks c.block
chain_longer chain longer c is =
    let blocks = λ (cs : Chain). map (λ (x : Committed). x.block) cs in
    ap (λ (cs : Chain). chain_marks cs) is
    ∙ ap (λ (bs : List Block). flat_map block_marks bs) (map-append (λ (x : Committed). x.block) chain (c ∷ []))
    ∙ flat_map-append block_marks (blocks chain) (c.block ∷ [])
    ∙ ap (λ (ts : List Bytes). chain_marks chain ++ ts) (append-nil (block_marks c.block))

pub block_behind : (chain longer : Chain) (c : Committed) (a b d : Option Bytes) → longer ≡ chain ++ c ∷ [] → HasTexts (chain_marks chain) a b →
    HasTexts (block_marks c.block) b d → HasTexts (chain_marks longer) a d
block_behind chain longer c a b d is h k =
    subst (λ (ts : List Bytes). HasTexts ts a d) (sym (chain_longer chain longer c is)) (more_texts (chain_marks chain) (block_marks c.block) a b d h k)

marks_told : (chain : Chain) (t u : Told) (r : Result (Unit {0}) Failure) → Tells t u r → OnOk r (HasTexts (chain_marks chain) t.bytes u.bytes) →
    IfErr r IsBrokenOff → Answers (TellsMarks chain) t u r
marks_told chain t u (Ok x) tells marks lost = inr (_, (refl, refl), record { more = tells.0; whole = tells.1; bytes = marks })
marks_told chain t u (Err f) tells marks lost = inl lost

-- what `marks` comes to
pub store_told : (g : Genesis) (held : Option Bytes) (r : Replayed) (t u : Told) (answer : Result (Unit {0}) Failure) →
    ReplaysFrom (table_of g.rules.value) held r → Tells t u answer → IfSome (fault_of r) (λ failure. (answer ≡ Err failure) × (u ≡ t)) →
    OnOk answer (HasTexts (chain_marks (chain_of r.chain)) t.bytes u.bytes) → (fault_of r ≡ None → IfErr answer IsBrokenOff) → Answers (Marks g held) t u answer
store_told g held r t u answer replay tells fault marks lost =
    answers_by (UnlessFault (fault_of r) (TellsMarks (chain_of r.chain))) (Marks g held) t u answer (λ text h. (r, replay, h))
    (unless_fault (fault_of r) (TellsMarks (chain_of r.chain)) t u answer fault (λ none. marks_told (chain_of r.chain) t u answer tells marks (lost none)))

-- what `marks` begins
pub store_begun : (g : Genesis) (held : Option Bytes) (r : Replayed) (t u : Told) (answer : Result (Unit {0}) Failure) →
    ReplaysFrom (table_of g.rules.value) held r → IfSome (fault_of r) (λ failure. (answer ≡ Err failure) × (u ≡ t)) →
    OnErr answer (PrintsPart t u (flat_map line (chain_marks (chain_of r.chain)))) → Begins (IsTextOf (Marks g held)) t u answer
store_begun g held r t u answer replay fault part =
    let text : Bytes = flat_map line (chain_marks (chain_of r.chain)) in
    fault_begins (fault_of r) (IsTextOf (Marks g held)) t u answer fault
    (λ none. begins_part (IsTextOf (Marks g held)) t u answer text
    (Ok tt, (r, replay, subst (λ (o : Option Failure). UnlessFault o (TellsMarks (chain_of r.chain)) (Ok tt) text) (sym none) (refl, refl))) part)
