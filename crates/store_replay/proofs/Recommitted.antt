-- A store's blocks as they are committed again, and more of them.
use Rattle.std.proofs.Common.{◌≡◌, ◌≢◌, ◌∙◌, ◌++◌, ◌∷◌, [], List, Option, Some, None, ap, refl, sym, subst, append_assoc}
use Rattle.fab_types.specs.Committed.{Committed}
use Rattle.ledger_model.specs.Chain.{Chain}
use Rattle.ledger_model.specs.Judged.{BlockRule}
use Rattle.kept_state.specs.Keeping.{IsKept, chain_of}
use Rattle.kept_state.specs.declared.chain.KeptChain.{KeptChain}
use Rattle.store_replay.specs.Lawful.{AreLawful, IsRecommitRefused, StopsAt}
use Rattle.store_replay.specs.Recommitting.{IsRecommitted}
use Rattle.store_replay.specs.declared.refusal.RecommitRefusal.{RecommitRefusal}
use Rattle.store_replay.proofs.Lawful.{lawful_joined, refused_behind}

-- none is refused
pub none_refused : (rule : BlockRule) (kept : KeptChain) (refused : Option RecommitRefusal) (cs : Chain) → refused ≡ None →
    IsRecommitted rule kept refused cs → IsKept kept × (chain_of kept ≡ cs) × AreLawful rule [] cs
none_refused rule kept None cs none is = is
none_refused rule kept (Some r) cs none is = cc

pub one_refused : (rule : BlockRule) (kept : KeptChain) (refused : Option RecommitRefusal) (cs : Chain) (r : RecommitRefusal) → refused ≡ Some r →
    IsRecommitted rule kept refused cs → IsRecommitRefused rule cs r
one_refused rule kept None cs r some is = cc
one_refused rule kept (Some s) cs r some is = subst (IsRecommitRefused rule cs) (cc) is

-- more of them are lawful
pub more_lawful : (rule : BlockRule) (old new : KeptChain) (refused : Option RecommitRefusal) (cs more : Chain) → refused ≡ None →
    IsRecommitted rule old refused cs → IsKept new → chain_of new ≡ chain_of old ++ more → AreLawful rule (chain_of old) more →
    IsRecommitted rule new refused (cs ++ more)
more_lawful rule old new None cs more none is kept grown lawful = (
  kept,
  grown ∙ ap (λ (chain : Chain). chain ++ more) is.1,
  lawful_joined rule cs more is.2 (subst (λ (chain : Chain). AreLawful rule chain more) is.1 lawful),
)
more_lawful rule old new (Some r) cs more none is kept grown lawful = cc

-- of more of them one is refused
pub more_refused : (rule : BlockRule) (old : KeptChain) (refused : Option RecommitRefusal) (cs more last : Chain) (r : RecommitRefusal) → refused ≡ None →
    IsRecommitted rule old refused cs → StopsAt rule (chain_of old) more last r → IsRecommitRefused rule (cs ++ more) r
more_refused rule old refused cs more last r none is stops =
    let were = none_refused rule old refused cs none is in
    refused_behind rule cs more last r were.2 (subst (λ (chain : Chain). StopsAt rule chain more last r) were.1 stops)

refused_on : (rule : BlockRule) (cs more : Chain) (r : RecommitRefusal) → IsRecommitRefused rule cs r → IsRecommitRefused rule (cs ++ more) r
refused_on rule cs more r is =
    let stops = is.stops in
    record {
      last = is.last;
      stops = record {
        before = stops.before;
        first = stops.first;
        after = stops.after ++ more;
        all = ap (λ (xs : List Committed). xs ++ more) stops.all ∙ append_assoc stops.before (stops.first ∷ stops.after) more;
        lawful = stops.lawful;
        put = stops.put;
        why = stops.why;
      };
    }

-- one was refused before more of them came
pub refused_before : (rule : BlockRule) (kept : KeptChain) (refused : Option RecommitRefusal) (cs more : Chain) → refused ≢ None →
    IsRecommitted rule kept refused cs → IsRecommitted rule kept refused (cs ++ more)
refused_before rule kept None cs more some is = absurd (some refl)
refused_before rule kept (Some r) cs more some is = refused_on rule cs more r is
