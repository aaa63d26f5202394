-- Lawful blocks and more of them.
use Rattle.std.proofs.Common.{◌≡◌, ◌++◌, ◌∷◌, [], List, true, refl, ap, sym, subst, append_assoc, append-nil, ◌∙◌}
use Rattle.fab_types.specs.Committed.{Committed}
use Rattle.fab_types.specs.declared.flag.Flag.{Flag}
use Rattle.ledger_model.specs.Chain.{Chain}
use Rattle.ledger_model.specs.Judged.{BlockRule}
use Rattle.committer.specs.Fits.{Fits, blocks_of}
use Rattle.ledger_setting.specs.Judging.{next_by}
use Rattle.store_replay.specs.Replay.{HasTheFlags}
use Rattle.store_replay.specs.Lawful.{AreLawful, IsRecommitRefused, StopsAt}
use Rattle.store_replay.specs.declared.refusal.RecommitRefusal.{RecommitRefusal}

pub lawful_more : (rule : BlockRule) (before cs : Chain) (c : Committed) → AreLawful rule before cs → Fits (blocks_of (before ++ cs)) c.block
    → HasTheFlags rule (before ++ cs) c true → AreLawful rule before (cs ++ c ∷ [])
lawful_more rule before [] c done fits flags =
    let same = append-nil before in
    (subst (λ (x : Chain). Fits (blocks_of x) c.block) same fits, subst (λ (x : Chain). HasTheFlags rule x c true) same flags, tt)
lawful_more rule before (d ∷ cs) c done fits flags =
    let same : before ++ d ∷ cs ≡ (before ++ d ∷ []) ++ cs = sym (append_assoc before (d ∷ []) cs) in
    let rest = lawful_more rule (before ++ d ∷ []) cs c done.2 (subst (λ (x : Chain). Fits (blocks_of x) c.block) same fits)
    (subst (λ (x : Chain). HasTheFlags rule x c true) same flags) in
    (done.0, done.1, rest)

-- lawful records behind lawful records
pub lawful_joined : (rule : BlockRule) (chain more : Chain) → AreLawful rule [] chain → AreLawful rule chain more → AreLawful rule [] (chain ++ more)
lawful_joined rule chain [] h k = subst (AreLawful rule []) (sym (append-nil chain)) h
lawful_joined rule chain (c ∷ cs) h k =
    let rest = lawful_joined rule (chain ++ c ∷ []) cs (lawful_more rule [] chain c h k.0 k.1) k.2 in
    subst (AreLawful rule []) (append_assoc chain (c ∷ []) cs) rest

-- records that are refused behind a lawful chain are refused with it
pub refused_behind : (rule : BlockRule) (chain records last : Chain) (r : RecommitRefusal) → AreLawful rule [] chain → StopsAt rule chain records last r
    → IsRecommitRefused rule (chain ++ records) r
refused_behind rule chain records last r lawful stops =
    let onward = stops.first ∷ stops.after in
    let split = ap (λ (cs : List Committed). chain ++ cs) stops.all ∙ sym (append_assoc chain stops.before onward)
    ∙ ap (λ (before : Chain). before ++ onward) (sym stops.put)
    in
    record {
      last = last;
      stops = record {
        before = last;
        first = stops.first;
        after = stops.after;
        all = split;
        lawful = subst (AreLawful rule []) (sym stops.put) (lawful_joined rule chain stops.before lawful stops.lawful);
        put = refl;
        why = stops.why;
      };
    }

-- a record with the rule's flags is the block as the rule commits it
pub is_judged : (rule : BlockRule) (chain : Chain) (c : Committed) → HasTheFlags rule chain c true → c ≡ next_by rule chain c.block
is_judged rule chain c flags = ap (λ (fs : List Flag). record { block = c.block; flags = fs }) flags
