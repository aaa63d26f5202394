-- What a genesis file spells can open a system.
use Rattle.std.proofs.Common.{◌≡◌, ℕ, suc, true, List, [], ◌∷◌, map, length, refl, sym, ap}
use Rattle.std.specs.List.{list_all}
use Rattle.serde_json.specs.Data.{Data, Items, no_items, item}
use Rattle.json_fields.specs.Lists.{AreItems}
use Rattle.policy_language.specs.GoodSets.{is_among, needs_someone}
use Rattle.endorsement_policy.specs.declared.rules.ChaincodePolicy.{ChaincodePolicy}
use Rattle.chaincode_book.specs.Books.{Book}
use Rattle.chaincode_book.specs.declared.book.Chaincode.{Chaincode}
use Rattle.sha2.specs.Sha256.{sha256}
use Rattle.chaincode_book.specs.declared.book.Held.{Held}
use Rattle.endorsement_policy.specs.Endorsed.{do_need_someone}
use Rattle.policy_language.specs.Limits.{IsText}
use Rattle.policy_language.specs.declared.policy.Policy.{Policy}
use Rattle.policy_language.proofs.Needed.{spelled_needs}
use Rattle.ledger_setting.specs.declared.genesis.Genesis.{Genesis}
use Rattle.json_genesis.specs.declared.definition.Definition.{Definition}
use Rattle.json_genesis.specs.Lists.{IsListOf}
use Rattle.json_genesis.specs.Opening.{CanOpen}
use Rattle.json_genesis.specs.Spelling.{IsDefinition, IsPeer, Parts, IsGenesis, SpellsHolding, chaincodes_of, policies_of}

-- each peer's organisation is one of these
known_peers : (orgs : List (List ℕ)) (ds : Items) (xs : List (List ℕ)) → AreItems (IsPeer orgs) ds xs → list_all (is_among orgs) xs ≡ true
known_peers orgs no_items [] h = refl
known_peers orgs no_items (x ∷ xs) h = absurd h
known_peers orgs (item d ds) [] h = absurd h
known_peers orgs (item d ds) (x ∷ xs) h = rw (h.0.2, known_peers orgs ds xs h.1) refl

-- a policy is that of the chaincode beside it
same_names : (orgs : List (List ℕ)) (ds : Items) (cs : List Definition) → AreItems (IsDefinition orgs) ds cs
    → map (λ (p : ChaincodePolicy). p.chaincode) (policies_of cs) ≡ map (λ (c : Chaincode). c.name) (chaincodes_of cs)
same_names orgs no_items [] h = refl
same_names orgs no_items (c ∷ cs) h = absurd h
same_names orgs (item d ds) [] h = absurd h
same_names orgs (item d ds) (c ∷ cs) h = rw (h.0.10, same_names orgs ds cs h.1) refl

same_count : (cs : List Definition) → length (chaincodes_of cs) ≡ length cs
same_count [] = refl
same_count (c ∷ cs) = ap suc (same_count cs)

-- nobody does not satisfy a policy that a text spells
pub policy_needed : (orgs : List (List ℕ)) (policy : Policy) (text : List ℕ) → IsText orgs policy text → needs_someone policy ≡ true
policy_needed orgs policy text h = spelled_needs policy text h.spelled h.thresholds

needed : (orgs : List (List ℕ)) (ds : Items) (cs : List Definition) → AreItems (IsDefinition orgs) ds cs → do_need_someone (policies_of cs) ≡ true
needed orgs no_items [] h = refl
needed orgs no_items (c ∷ cs) h = absurd h
needed orgs (item d ds) [] h = absurd h
needed orgs (item d ds) (c ∷ cs) h = rw (policy_needed orgs c.policy.policy h.0.2 h.0.9, needed orgs ds cs h.1) refl

pub all_needed : (orgs : List (List ℕ)) (d : Data) (cs : List Definition) → IsListOf (IsDefinition orgs) 1 16 d cs → do_need_someone (policies_of cs) ≡ true
all_needed orgs d cs h = needed orgs h.0 cs h.2

opens : (ledger : List ℕ) (held : List Held) (p : Parts) (g : Genesis) → IsGenesis ledger held p g → CanOpen g
opens ledger held p g h =
    let b = h.book in
    let cs = b.0 in
    let names = same_names _ b.2.0 cs b.2.2 in
    record {
      organisations = h.organisations.0.3;
      different = h.organisations.1;
      keys = h.organisations.2;
      known = known_peers _ h.peers.0 g.peers.items h.peers.2;
      chaincodes = rw (b.5, same_count cs) b.2.3;
      policies = rw (b.5, b.6) names;
      edition = sym (ap (λ (k : Book). k.edition) b.5);
      installed = h.installed;
    }

pub spelled_opens : (text : List ℕ) (held : List Held) (g : Genesis) → SpellsHolding text held g → CanOpen g
spelled_opens text held g h = opens (sha256 text) held h.2.0 g h.2.2
