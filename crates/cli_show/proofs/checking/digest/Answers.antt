use Rattle.std.proofs.Common.{ℕ, ap, inl, subst, string_bytes, ◌∙◌}
use Rattle.std.proofs.lemmas.Result.{err_from_is_err_and}
use Rattle.hex.specs.Hex.{encode_lower}
use Rattle.sha2.specs.Sha256.{sha256}
use Rattle.ledger_model.specs.Chain.{Bytes}
use Rattle.wasm_file.specs.Modules.{IsDefinedBy, NoModule}
use Rattle.cli_lines.specs.Texts.{line}
use Rattle.cli_lines.proofs.Printing.{nothing_same, on_err}
use Rattle.cli_lines.proofs.Silence.{no_less, tells_by}
use Rattle.cli_show.proofs.Answering.{line_printed}
use Rattle.cli_show.proofs.Read.{module_refused, module_told}
use Rattle.cli_show.proofs.checking.digest.Goals as goal

abbrev said : ℕ → Bytes → Bytes
said functions bytes = line (encode_lower (sha256 bytes))

pub returns-in_err-bytes : goal.returns-in_err-bytes
returns-in_err-bytes g c =
    let p = err_from_is_err_and c.from_residual.result c.from_residual.ensures.1 in
    let t = c.args.out.now in
    rw p.1 (record {
      tells = tells_by t t p.0 (no_less t) p.2.0;
      answers = inl p.2.1;
      nothing = nothing_same t;
      kept = c.in_err-bytes.ensures.kept;
    })

pub returns-in_err-digest : goal.returns-in_err-digest
returns-in_err-digest g c =
    let p = err_from_is_err_and c.from_residual-in_err-digest.result c.from_residual-in_err-digest.ensures.1 in
    let t = c.args.out.now in
    rw p.1 (record {
      tells = tells_by t t p.0 (no_less t) p.2.0;
      answers = inl p.2.1;
      nothing = nothing_same t;
      kept = c.in_ok-functions_explained.ensures.kept ∙ c.in_ok-bytes.ensures.kept;
    })

pub returns-in_err-functions_explained-clause-tells : goal.returns-in_err-functions_explained-clause-tells
returns-in_err-functions_explained-clause-tells g c =
    let p = err_from_is_err_and c.from_residual-in_err-functions_explained.result c.from_residual-in_err-functions_explained.ensures.1 in
    rw p.1 (tells_by c.args.out.now c.args.out.now p.0 (no_less c.args.out.now) p.2.0)

pub returns-in_err-functions_explained-clause-answers : goal.returns-in_err-functions_explained-clause-answers
returns-in_err-functions_explained-clause-answers g c =
    let p = err_from_is_err_and c.from_residual-in_err-functions_explained.result c.from_residual-in_err-functions_explained.ensures.1 in
    let refusal = c.in_err-functions_explained.field-0.0 in
    let why = subst (λ (xs : Bytes). NoModule c.args.profile xs refusal) c.deref.ensures.value c.in_err-functions_explained.ensures.refused in
    rw p.1 (module_refused said c.args.profile (g.F.Files.bytes c.args.files.now c.args.name.now) c.in_ok-bytes.bytes.items refusal
    p.0 c.args.out.now c.in_ok-bytes.ensures.bytes why p.2.1)

pub returns-clause-answers : goal.returns-clause-answers
returns-clause-answers g c =
    let read = c.in_ok-bytes.bytes.items in
    let functions = c.in_ok-functions_explained.field-0 in
    let text = string_bytes c.in_ok-digest.digest in
    let defined = subst (λ (xs : Bytes). IsDefinedBy c.args.profile xs functions) c.deref.ensures.value c.in_ok-functions_explained.ensures.valid in
    let spelled = rw (c.digest.ensures, c.as_slice.ensures.value) at c.in_ok-digest.ensures in
    let r = c.print_line in
    module_told said c.args.profile (g.F.Files.bytes c.args.files.now c.args.name.now) read functions (line text) c.args.out.now
    r.new.out r.result c.in_ok-bytes.ensures.bytes defined (ap (λ (t : Bytes). line t) spelled) r.ensures.lost
    (line_printed r.result c.args.out.now r.new.out (line text) r.ensures.tells r.ensures.line)

pub returns-in_err-functions_explained-clause-nothing : goal.returns-in_err-functions_explained-clause-nothing
returns-in_err-functions_explained-clause-nothing g c = on_err c.from_residual-in_err-functions_explained.result _ (nothing_same c.args.out.now)

pub returns-in_err-functions_explained-clause-kept : goal.returns-in_err-functions_explained-clause-kept
returns-in_err-functions_explained-clause-kept g c = c.in_err-functions_explained.ensures.kept ∙ c.in_ok-bytes.ensures.kept

pub returns-clause-kept : goal.returns-clause-kept
returns-clause-kept g c = c.in_ok-functions_explained.ensures.kept ∙ c.in_ok-bytes.ensures.kept
