-- A store that is opened, and what is printed of that.
use Rattle.std.specs.Prelude.{◌≡◌, ℕ, zero, suc, [], ◌++◌, Option, codes, length}
use Rattle.std.specs.Fmt.{decimal}
use Rattle.endorsement_policy.specs.Endorsed.{Listed}
use Rattle.ledger_model.specs.Chain.{Bytes, Chain}
use Rattle.ledger_setting.specs.Rule.{table_of}
use Rattle.store_replay.specs.Lawful.{AreLawful}
use Rattle.log_peer.specs.Refusals.{store_text}
use Rattle.log_peer.specs.Storing.{IsOpened, IsOpenRefused}
use Rattle.log_peer.specs.declared.refusal.StoreRefusal.{StoreRefusal}
use Rattle.cli_lines.specs.Texts.{line}

-- how many bytes were cut off a store, if any, and how many blocks it has
abbrev pub cut_text : ℕ → Bytes
cut_text zero = []
cut_text (suc n) = codes "cut " ++ (decimal (suc n) ++ codes "\n")

abbrev pub opened_text : (cut height : ℕ) → Bytes
opened_text cut height = cut_text cut ++ (codes "height " ++ (decimal height ++ codes "\n"))

-- a text of which this is so comes behind what is printed of a store that was opened, from which so many bytes were cut off
abbrev pub ComesBehind : Chain → ℕ → (Bytes → Type 0) → Bytes → Type 0
ComesBehind chain cut Rest text = (rest : Bytes) × Rest rest × (text ≡ opened_text cut (length chain) ++ rest)

-- a store, whose bytes are these where they are known, is opened, and this is so of its chain and of the count of bytes that were cut off
abbrev pub Opens : Listed → Option Bytes → (Chain → ℕ → Type 0) → Type 0
Opens rules held Is = (chain : Chain) × (cut : ℕ) × IsOpened held chain cut × AreLawful (table_of rules) [] chain × Is chain cut

-- it is not opened, and that is why
abbrev pub TellsUnopened : Listed → Option Bytes → Bytes → Type 0
TellsUnopened rules held text = (cause : StoreRefusal) × IsOpenRefused (table_of rules) held cause × (text ≡ line (store_text cause))
