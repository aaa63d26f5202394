use Rattle.std.proofs.Common.{◌≡◌, ◌∙◌, ◌++◌, ◌∷◌, [], ◌+◌, ◌<◌, ℕ, Bool, true, false, List, Option, Some, None, length, get_or, refl, ap, sym, drop}
use Rattle.std.proofs.Common.{append_assoc}
use Rattle.std.proofs.lemmas.List.{append-nil, at_drop_all, at_drop_more}
use Rattle.std.specs.Prelude.{◌&&◌, is_some}
use Rattle.std.specs.List.{list_all}
use Rattle.endorsement_policy.specs.Membership.{has_known_key, orgs_by, with_org}
use Rattle.org_keys.specs.declared.organisation.Organisation.{Organisation}
use Rattle.endorsement_policy.proofs.members.organisations_by.Goals as goal
use Rattle.endorsement_policy.proofs.members.organisations_by.Goals.{in-Some+in_ok-push, in_default}

org_put : (done rest : List Organisation) (o : Option Organisation) (x : Organisation) {new : List Organisation} → o ≡ Some x → new ≡ done ++ x ∷ [] →
    new ++ rest ≡ done ++ with_org o rest
org_put done rest o x is e = ap (λ os. os ++ rest) e ∙ append_assoc done (x ∷ []) rest ∙ ap (λ p. done ++ with_org p rest) (sym is)

org_none : (done rest : List Organisation) (o : Option Organisation) {new : List Organisation} → o ≡ None → new ≡ done → new ++ rest ≡ done ++ with_org o rest
org_none done rest o is e = ap (λ os. os ++ rest) e ∙ ap (λ p. done ++ with_org p rest) (sym is)

and_assoc : (a b c : Bool) → ((a && b) && c) ≡ (a && (b && c))
and_assoc true b c = refl
and_assoc false b c = refl

and_all : (a : Bool) → a ≡ (a && true)
and_all true = refl
and_all false = refl

-- what is left, with its first
later : {X Y : Type 0} (f : List X → Y) (xs : List X) (i : ℕ) (x : X) → i < length xs → x ≡ get_or xs i x → f (x ∷ drop (i + 1) xs) ≡ f (drop i xs)
later f xs i x h is = ap (λ y. f (y ∷ drop (i + 1) xs)) is ∙ sym (at_drop_more f xs i x h)

pub loop-member-init : goal.loop-member-init
loop-member-init c = record {
  organisations = ap (λ os. os ++ orgs_by c.args.organisations.now c.args.members.now) c.in_ok-found.ensures.items;
  known = refl;
}

pub loop-member-preserved : goal.loop-member-preserved
loop-member-preserved c =
    let orgs = c.args.organisations.now in
    let is_known = has_known_key orgs in
    let ms = c.args.members.now in
    let i = c.loop-member.member-index in
    let done = c.loop-member.found.items in
    let rest = drop (i + 1) ms in
    let found = c.in_ok-organisation.organisation in
    let put : c.match-organisation.found.items ++ orgs_by orgs rest ≡ done ++ with_org found (orgs_by orgs rest) =
    elim c.match-organisation.branch [
      | in-Some+in_ok-push w ↦ org_put done (orgs_by orgs rest) found w.in-Some.organisation w.in-Some.is
          (ap (λ v. v.items) w.found-is ∙ w.in_ok-push.ensures.items)
      | in_default w ↦ org_none done (orgs_by orgs rest) found w.in_default.is (ap (λ v. v.items) w.found-is)
    ] in
    let known : c.is_some-is_known.result ≡ is_known c.member-item.result =
    c.is_some-is_known.ensures ∙ ap (λ (o : Option Organisation). is_some o) c.in_ok-organisation.ensures in
    record {
      organisations =
          put ∙ ap (λ o. done ++ with_org o (orgs_by orgs rest)) c.in_ok-organisation.ensures
          ∙ ap (λ os. done ++ os) (later (orgs_by orgs) ms i c.member-item.result c.loop-member-test.true c.member-item.is)
          ∙ c.loop-member.invariant.organisations;
      known =
          and_assoc c.loop-member.are_known c.is_some-is_known.result (list_all is_known rest)
          ∙ ap (λ b. c.loop-member.are_known && (b && list_all is_known rest)) known
          ∙ ap (λ b. c.loop-member.are_known && b) (later (list_all is_known) ms i c.member-item.result c.loop-member-test.true c.member-item.is)
          ∙ c.loop-member.invariant.known;
    }

pub returns-clause-organisations : goal.returns-clause-organisations
returns-clause-organisations c =
    let l = c.loop-member in
    sym (append-nil l.found.items)
    ∙ ap (λ os. l.found.items ++ os) (sym (at_drop_all (orgs_by c.args.organisations.now) c.args.members.now l.member-index c.loop-member-test.false))
    ∙ l.invariant.organisations

pub returns-clause-known : goal.returns-clause-known
returns-clause-known c =
    let l = c.loop-member in
    let is_known = has_known_key c.args.organisations.now in
    and_all l.are_known ∙ ap (λ b. l.are_known && b) (sym (at_drop_all (list_all is_known) c.args.members.now l.member-index c.loop-member-test.false))
    ∙ l.invariant.known
