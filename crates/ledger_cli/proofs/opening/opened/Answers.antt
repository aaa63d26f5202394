use Rattle.std.proofs.Common.{List, ℕ, IfOk, IfErr, inl, inr, ap, subst, ◌∙◌}
use Rattle.std.specs.Prelude.{option_map}
use Rattle.std.proofs.lemmas.Result.{err_from_is_err_and}
use Rattle.sha2.specs.Sha256.{sha256}
use Rattle.cli_lines.specs.Places.{FilesHeld}
use Rattle.cli_lines.specs.Sealing.{HasSeeds, IsNoKeyFile}
use Rattle.ledger_cli.specs.Opening.{SpellsWith, SpellsNoneWith}
use Rattle.ledger_cli.proofs.Opened.{opened_alone, read_before, signed_opens, signed_refused}
use Rattle.ledger_cli.proofs.opening.opened.Goals as goal

pub returns-in_err-bytes : goal.returns-in_err-bytes
returns-in_err-bytes g c =
    let p = err_from_is_err_and c.from_residual.result c.from_residual.ensures.1 in
    rw p.1 (record { silent = p.2.0; opens = tt; refused = inl p.2.1; kept = c.in_err-bytes.ensures.kept; input = tt })

pub returns-in_err-genesis : goal.returns-in_err-genesis
returns-in_err-genesis g c =
    let p = err_from_is_err_and c.from_residual-in_err-genesis.result c.from_residual-in_err-genesis.ensures.1 in
    let files = g.F.Files.bytes in
    let e = c.in_err-genesis.ensures in
    let read = c.in_ok-bytes.ensures in
    let bytes = c.in_ok-bytes.bytes.items in
    let f = c.in_err-genesis.field-0.0 in
    let none = read_before (files c.args.files.now) (files c.read_all_explained.new.files) c.args.begin.now c.deref.result.now bytes
    (λ xs modules. SpellsNoneWith xs modules f) read.kept c.deref.ensures.value e.refused in
    rw (p.1, p.2) (record { silent = e.silent; opens = tt; refused = inr (inl (bytes, read.bytes, none)); kept = e.kept ∙ read.kept; input = tt })

pub returns-clause-opens : goal.returns-clause-opens
returns-clause-opens g c =
    let files = g.F.Files.bytes in
    let held = files c.args.files.now in
    let b = c.args.begin.now in
    let read = c.in_ok-bytes.ensures in
    let bytes = c.in_ok-bytes.bytes.items in
    let genesis = c.in_ok-genesis.genesis in
    let spelled = read_before held (files c.read_all_explained.new.files) b c.deref.result.now bytes (λ xs modules. SpellsWith xs modules genesis)
    read.kept c.deref.ensures.value c.in_ok-genesis.ensures.spelled in
    let digest = c.digest-digest.ensures ∙ ap (λ (xs : List ℕ). sha256 xs) c.as_slice.ensures.value in
    opened_alone (held b.genesis.now) (option_map (λ name. held name.now) b.modules) (option_map (λ name. held name.now) b.keys) bytes
    (record { genesis = genesis; digest = c.digest-digest.result }) (ap (option_map (λ name. held name.now)) c.in-None.is) read.bytes spelled digest

pub returns-in-Some-clause-opens : goal.returns-in-Some-clause-opens
returns-in-Some-clause-opens g c =
    let files = g.F.Files.bytes in
    let held = files c.args.files.now in
    let b = c.args.begin.now in
    let read = c.in_ok-bytes.ensures in
    let bytes = c.in_ok-bytes.bytes.items in
    let genesis = c.in_ok-genesis.genesis in
    let made = c.in_ok-genesis.ensures in
    let spelled = read_before held (files c.read_all_explained.new.files) b c.deref.result.now bytes (λ xs modules. SpellsWith xs modules genesis)
    read.kept c.deref.ensures.value made.spelled in
    let digest = c.digest-digest.ensures ∙ ap (λ (xs : List ℕ). sha256 xs) c.as_slice.ensures.value in
    let name = c.in-Some.keys.now in
    let seeds = subst (λ (h : FilesHeld). IfOk c.signers.result (λ s. HasSeeds (h name) s.value)) (made.kept ∙ read.kept) c.signers.ensures.spelled in
    signed_opens (held b.genesis.now) (option_map (λ n. held n.now) b.modules) (option_map (λ n. held n.now) b.keys) (held name) bytes
    (record { genesis = genesis; digest = c.digest-digest.result }) c.signers.result c.with_signers.result (ap (option_map (λ n. held n.now)) c.in-Some.is)
    read.bytes spelled digest seeds c.with_signers.ensures.signed

pub returns-in-Some-clause-refused : goal.returns-in-Some-clause-refused
returns-in-Some-clause-refused g c =
    let files = g.F.Files.bytes in
    let held = files c.args.files.now in
    let b = c.args.begin.now in
    let read = c.in_ok-bytes.ensures in
    let bytes = c.in_ok-bytes.bytes.items in
    let genesis = c.in_ok-genesis.genesis in
    let made = c.in_ok-genesis.ensures in
    let spelled = read_before held (files c.read_all_explained.new.files) b c.deref.result.now bytes (λ xs modules. SpellsWith xs modules genesis)
    read.kept c.deref.ensures.value made.spelled in
    let name = c.in-Some.keys.now in
    let refused = subst (λ (h : FilesHeld). IfErr c.signers.result (IsNoKeyFile (h name))) (made.kept ∙ read.kept) c.signers.ensures.refused in
    signed_refused (held b.genesis.now) (option_map (λ n. held n.now) b.modules) (option_map (λ n. held n.now) b.keys) (held name) bytes
    (record { genesis = genesis; digest = c.digest-digest.result }) c.signers.result c.with_signers.result (ap (option_map (λ n. held n.now)) c.in-Some.is)
    read.bytes spelled refused c.with_signers.ensures.signed

pub returns-in-Some-clause-kept : goal.returns-in-Some-clause-kept
returns-in-Some-clause-kept g c = c.signers.ensures.kept ∙ c.in_ok-genesis.ensures.kept ∙ c.in_ok-bytes.ensures.kept

pub returns-clause-kept : goal.returns-clause-kept
returns-clause-kept g c = c.in_ok-genesis.ensures.kept ∙ c.in_ok-bytes.ensures.kept
