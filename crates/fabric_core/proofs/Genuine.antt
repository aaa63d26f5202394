-- Block by block, the VALID transactions have tags that were handed out where no right tag was forged, and then all of them were handed out.
use Rattle.std.proofs.Common.{◌≡◌, ℕ, suc, ◌+◌, Bool, true, List, [], ◌∷◌, ◌++◌, length, length-append, subst, arith}
use Rattle.fab_types.specs.declared.envelope.Endorsement.{Endorsement}
use Rattle.fab_types.specs.Payloads.{Payload}
use Rattle.ledger_model.specs.Chain.{Chain, Envelope, Placed, history, placed_from}
use Rattle.ledger_model.specs.Execution.{Exec}
use Rattle.ledger_model.specs.Judged.{AllEndorsed, AreEndorsed, block_of}
use Rattle.ledger_model.specs.Serial.{AllHandedOut, IsHandedOut}
use Rattle.ledger_model.specs.State.{state}
use Rattle.ledger_model.specs.Views.{Versioned, values_of}
use Rattle.org_keys.specs.declared.organisation.Organisation.{Organisation}
use Rattle.endorsement_policy.specs.Endorsed.{CarriesRight, Listed, is_endorsed, is_right}
use Rattle.endorsement_policy.specs.Membership.{listed_in}
use Rattle.ledger_setting.specs.Rule.{RightRule, right_of}
use Rattle.fabric_core.specs.System.{Reply, Endorsed}
use Rattle.fabric_core.specs.Headline.{AreGenuine, AreUnforged, IsAmong, IsGenuine, IsUnforged}

-- whatever the state, an endorsed envelope carries a right tag of who stands there
abbrev pub DoCarry : Listed → Type 0
DoCarry listed = (m : Versioned) (e : Envelope) → is_endorsed listed m e ≡ true → CarriesRight (listed_in listed (values_of m)).orgs e

-- ---- where no tag was forged, those that a policy wants were handed out

block_genuine : (orgs : List Organisation) (endorsed : Envelope → Bool) (replies : List Reply) (ts : List Placed) →
    ((e : Envelope) → endorsed e ≡ true → CarriesRight orgs e) → AllEndorsed endorsed ts → IsUnforged (is_right orgs) replies ts →
    IsGenuine (is_right orgs) replies ts
block_genuine orgs endorsed replies [] carries h unforged = tt
block_genuine orgs endorsed replies (t ∷ ts) carries h unforged = (
  (λ v.
      let c = carries t.envelope (h.0 v) in
      record {
        endorsement = c.endorsement;
        stands = (c.place, c.stands);
        right = c.right;
        given = unforged.0 v c.endorsement (c.place, c.stands) c.right;
      }),
  block_genuine orgs endorsed replies ts carries h.1 unforged.1,
)

pub all_genuine : (listed : Listed) (replies : List Reply) (before cs : Chain) → DoCarry listed →
    AreEndorsed (λ ts. is_endorsed listed (state ts)) before cs → AreUnforged (right_of listed) replies before cs →
    AreGenuine (right_of listed) replies before cs
all_genuine listed replies before [] carries h unforged = tt
all_genuine listed replies before (c ∷ cs) carries h unforged =
    let m = state (history before) in (
      block_genuine (listed_in listed (values_of m)).orgs (is_endorsed listed m) replies (block_of before c) (carries m) h.0 unforged.0,
      all_genuine listed replies (before ++ c ∷ []) cs carries h.1 unforged.1,
    )

-- ---- where each reply with a payload hands it out

handed_behind : (exec : Exec) (whole : Chain) (ts us : List Placed) → AllHandedOut exec whole ts → AllHandedOut exec whole us →
    AllHandedOut exec whole (ts ++ us)
handed_behind exec whole [] us h k = k
handed_behind exec whole (t ∷ ts) us h k = (h.0, handed_behind exec whole ts us h.1 k)

module _ (exec : Exec) (right : RightRule) (replies : List Reply) (whole : Chain)
    (given : (p : Payload) (x : Endorsement) → IsAmong (Endorsed p x) replies → IsHandedOut exec whole p) where
  block_handed : (before ts : List Placed) → IsGenuine (right before) replies ts → AllHandedOut exec whole ts
  block_handed before [] h = tt
  block_handed before (t ∷ ts) h =
      ((λ v. let a = h.0 v in given t.envelope.payload a.endorsement a.given), block_handed before ts h.1)

  pub all_handed : (before cs : Chain) → AreGenuine right replies before cs → AllHandedOut exec whole (placed_from (length before + 1) cs)
  all_handed before [] h = tt
  all_handed before (c ∷ cs) h =
      let longer = length-append before (c ∷ []) in
      let next : length (before ++ c ∷ []) + 1 ≡ suc (length before + 1) = omega (arith, longer) in
      handed_behind exec whole (block_of before c) (placed_from (suc (length before + 1)) cs)
      (block_handed (history before) (block_of before c) h.0)
      (subst (λ (n : ℕ). AllHandedOut exec whole (placed_from n cs)) next (all_handed (before ++ c ∷ []) cs h.1))
