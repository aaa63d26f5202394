use Rattle.std.proofs.Common.{ap, refl, subst, sym, ◌∙◌, true≢false}
use Rattle.std.proofs.lemmas.Result.{err_from_is_err_and}
use Rattle.chaincode_book.specs.Books.{Book}
use Rattle.endorsement_policy.specs.Installed.{Installed}
use Rattle.json_genesis.specs.Fields.{parts_of}
use Rattle.json_genesis.specs.Spelling.{IsBookOf}
use Rattle.json_genesis.proofs.Editions.{one_edition}
use Rattle.json_genesis.proofs.NamedKeys.{keys_of}
use Rattle.json_genesis.proofs.Opens.{all_needed, policy_needed}
use Rattle.json_genesis.proofs.Whole.{NoneIs-of}
use Rattle.json_genesis.proofs.read.genesis_with.Goals as goal

pub book-requires : goal.book-requires
book-requires c = c.deref.ensures.value ∙ c.requires.spelled.names

pub returns-in_err-book-clause-refused : goal.returns-in_err-book-clause-refused
returns-in_err-book-clause-refused c =
    let p = err_from_is_err_and c.from_residual.result c.from_residual.ensures.1 in
    let parts = parts_of c.args.fields.now in
    rw (p.1, p.2)
    (NoneIs-of (λ orgs b. IsBookOf c.args.setting.edition orgs c.args.held.items parts.chaincodes parts.modules b.0 b.1)
    (λ g. (g.book.value, g.rules.value.policies)) _ _ _ _ _ _
    (λ g h. subst (λ e. IsBookOf e g.rules.value.orgs c.args.held.items parts.chaincodes parts.modules g.book.value g.rules.value.policies)
    (one_edition parts.rules _ _ h.edition c.requires.spelled.edition) h.book)
    c.requires.spelled.edition c.requires.spelled.organisations c.in_err-book.ensures.refused)

pub returns-in_default-clause-refused : goal.returns-in_default-clause-refused
returns-in_default-clause-refused c =
    let book = c.in_ok-book.ensures.ok in
    let needed = all_needed _ _ book.0 book.2 in
    let upgrade = policy_needed _ _ _ c.requires.spelled.upgrade.2 in
    let installed = c.in_ok-installed.ensures.cases ∙ c.installed.ensures in
    let orgs = ap (λ (i : Installed). i.orgs) installed ∙ ap (λ (b : Book). b.installed.orgs) book.5 in
    let keys = keys_of _ _ _ _ c.requires.spelled.organisations.0.2 in
    absurd (true≢false (sym (c.in_default.ensures.accepted.1 (rw book.6 needed, upgrade, rw orgs keys))))

pub returns-clause-ok : goal.returns-clause-ok
returns-clause-ok c =
    let setting = c.requires.spelled in
    let names = sym setting.names in
    let rules = c.in_ok-new-2.ensures.ok ∙ c.in-Some.ensures.value in
    let installed = c.in_ok-installed.ensures.cases ∙ c.installed.ensures in
    let orgs = ap (λ (i : Installed). i.orgs) installed ∙ ap (λ (b : Book). b.installed.orgs) c.in_ok-book.ensures.ok.5 in
    record {
      seats = setting.seats;
      queue = setting.queue;
      count = setting.count;
      preferred = setting.preferred;
      absolute = setting.absolute;
      reorder = setting.reorder;
      edition = rw rules setting.edition;
      digest = rw rules refl;
      organisations = rw (rules, orgs) setting.organisations;
      peers = rw (rules, orgs, names) setting.peers;
      book = rw (c.in_ok-new.ensures.ok, rules, orgs) c.in_ok-book.ensures.ok;
      upgrade = rw (rules, orgs, names) setting.upgrade;
      installed = rw (rules, c.in_ok-new.ensures.ok) installed;
      signers = c.in_ok-new-3.ensures.ok ∙ c.none.ensures;
    }
