-- What is said of data is said of their text.
use Rattle.std.proofs.Common.{◌≡◌, ℕ, List, Some, refl, sym, subst, ◌∙◌}
use Rattle.serde_json.specs.Data.{Data}
use Rattle.serde_json.specs.Read.{read}
use Rattle.chaincode_book.specs.declared.book.Held.{Held}
use Rattle.json_genesis.specs.declared.refusal.GenesisRefusal.{GenesisRefusal}
use Rattle.json_genesis.specs.declared.refusal.GenesisRefusal.TheVariants.{Memory, Json, Field, Range, Module, Policy, Names}
use Rattle.json_genesis.specs.NoGenesis.{SpellsNone}
use Rattle.json_genesis.specs.Refused.{NoneIs}
use Rattle.json_genesis.specs.Spelling.{AreModules, IsInstalled, SpellsModules}
use Rattle.json_genesis.proofs.Items.{IsListOf-same}
use Rattle.json_genesis.proofs.Whole.{one_installed}

-- what is refused of the data is refused of the text
pub of_text : {A : Type 0} (Is : Data → A → Type 0) (text : List ℕ) (d : Data) (r : GenesisRefusal)
    → read text ≡ Some d → NoneIs (Is d) r → SpellsNone Is text r
of_text Is text d Memory is none = tt
of_text Is text d Json is none = absurd (none.0 refl)
of_text Is text d Field is none = (d, is, none.1 (λ e. cc))
of_text Is text d Range is none = (d, is, none.1 (λ e. cc))
of_text Is text d Module is none = (d, is, none.1 (λ e. cc))
of_text Is text d Policy is none = (d, is, none.1 (λ e. cc))
of_text Is text d Names is none = (d, is, none.1 (λ e. cc))

pub one_data : (text : List ℕ) (d e : Data) → read text ≡ Some d → read text ≡ Some e → d ≡ e
one_data text d e h k = let same = sym h ∙ k in cc

-- a text spells one list of modules
pub same_modules : (text : List ℕ) (a b : List Held) → SpellsModules text a → SpellsModules text b → a ≡ b
same_modules text a b h k =
    let also = subst (λ d. AreModules d b) (sym (one_data text h.0 k.0 h.1 k.1)) k.2 in
    IsListOf-same IsInstalled one_installed 0 64 h.0 a b h.2 also
