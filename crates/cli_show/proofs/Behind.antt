-- Lines behind lines.
use Rattle.std.proofs.Common.{◌≡◌, List, [], ◌∷◌, ◌++◌, Option, Some, None, Result, Ok, Err, OnOk, refl, sym, subst, append_assoc}
use Rattle.std.proofs.lemmas.List.{append-nil}
use Rattle.std.proofs.lemmas.List.Concat.{flat_map-append}
use Rattle.std.specs.List.{flat_map}
use Rattle.std.specs.Io.KnownBytes.{Appends}
use Rattle.serde_json.specs.Data.{Data}
use Rattle.ledger_model.specs.Chain.{Bytes}
use Rattle.json_chain.specs.JsonText.{IsJsonText}
use Rattle.cli_lines.specs.Texts.{line}
use Rattle.cli_show.specs.Lines.{AreLines, AreTextsOf, HasLines}

pub appends_none : (b : Option Bytes) → Appends b b []
appends_none None = tt
appends_none (Some xs) = sym (append-nil xs)

pub appends_more : (a b c : Option Bytes) (s t : Bytes) → Appends a b s → Appends b c t → Appends a c (s ++ t)
appends_more None b c s t h k = tt
appends_more (Some xs) None c s t h k = absurd h
appends_more (Some xs) (Some ys) None s t h k = absurd k
appends_more (Some xs) (Some ys) (Some zs) s t h k = rw (k, h) (simp append_assoc)

pub no_lines : (b : Option Bytes) → HasLines [] b b
no_lines b = ([], tt, appends_none b)

pub one_line : (d : Data) (text : Bytes) (a b : Option Bytes) → IsJsonText d text → Appends a b (line text) → HasLines (d ∷ []) a b
one_line d text a b is h =
    (text ∷ [], (is, tt), subst (λ (s : Bytes). Appends a b s) (sym (append-nil (line text))) h)

pub texts_join : (ds es : List Data) (ts us : List Bytes) → AreTextsOf ds ts → AreTextsOf es us → AreTextsOf (ds ++ es) (ts ++ us)
texts_join [] es [] us h k = k
texts_join [] es (t ∷ ts) us h k = absurd h
texts_join (d ∷ ds) es [] us h k = absurd h
texts_join (d ∷ ds) es (t ∷ ts) us h k = (h.0, texts_join ds es ts us h.1 k)

pub more_lines : (ds es : List Data) (a b c : Option Bytes) → HasLines ds a b → HasLines es b c → HasLines (ds ++ es) a c
more_lines ds es a b c h k = (
  h.0 ++ k.0,
  texts_join ds es h.0 k.0 h.1 k.1,
  subst (λ (s : Bytes). Appends a c s) (sym (flat_map-append line h.0 k.0)) (appends_more a b c (flat_map line h.0) (flat_map line k.0) h.2 k.2),
)

-- one line more
pub line_behind : (before after : List Data) (d : Data) (text : Bytes) (a b c : Option Bytes) → after ≡ before ++ d ∷ [] → HasLines before a b →
    IsJsonText d text → Appends b c (line text) → HasLines after a c
line_behind before after d text a b c longer h is k =
    subst (λ (ds : List Data). HasLines ds a c) (sym longer) (more_lines before (d ∷ []) a b c h (one_line d text b c is k))

pub on_ok : {A E : Type 0} (r : Result A E) (P Q : Type 0) → (P → Q) → OnOk r P → OnOk r Q
on_ok (Ok x) P Q f h = f h
on_ok (Err e) P Q f h = tt

-- ---- lines of a text

-- one line more
pub lines_more : (ds : List Data) (d : Data) (text json after : Bytes) → AreLines ds text → IsJsonText d json → after ≡ text ++ line json →
    AreLines (ds ++ d ∷ []) after
lines_more ds d text json after lines is grown =
    line_behind ds (ds ++ d ∷ []) d json (Some []) (Some text) (Some after) refl lines is grown

-- lines that were printed as a text
pub lines_held : (ds : List Data) (text : Bytes) (a b : Option Bytes) → AreLines ds text → Appends a b text → HasLines ds a b
lines_held ds text a b lines h = (lines.0, lines.1, subst (λ (s : Bytes). Appends a b s) lines.2 h)
