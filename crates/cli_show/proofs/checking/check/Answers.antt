use Rattle.std.proofs.Common.{◌≡◌, ℕ, ap, inl, arith, length, subst, ◌∙◌}
use Rattle.std.proofs.lemmas.Result.{err_from_is_err_and}
use Rattle.ledger_model.specs.Chain.{Bytes}
use Rattle.wasm_file.specs.Modules.{IsDefinedBy, NoModule}
use Rattle.cli_lines.proofs.Printing.{nothing_same, on_err}
use Rattle.cli_lines.proofs.Silence.{no_less, tells_by}
use Rattle.cli_show.specs.Modules.{valid_text}
use Rattle.cli_show.proofs.Read.{module_refused, module_told}
use Rattle.cli_show.proofs.checking.check.Goals as goal

abbrev said : ℕ → Bytes → Bytes
said functions bytes = valid_text functions (length bytes)

pub returns-in_err-bytes : goal.returns-in_err-bytes
returns-in_err-bytes g c =
    let p = err_from_is_err_and c.from_residual.result c.from_residual.ensures.1 in
    let t = c.args.out.now in
    rw p.1 (record {
      tells = tells_by t t p.0 (no_less t) p.2.0;
      answers = inl p.2.1;
      nothing = nothing_same t;
      kept = c.in_err-bytes.ensures.kept;
    })

pub returns-in_err-functions-clause-tells : goal.returns-in_err-functions-clause-tells
returns-in_err-functions-clause-tells g c =
    let p = err_from_is_err_and c.from_residual-in_err-functions.result c.from_residual-in_err-functions.ensures.1 in
    rw p.1 (tells_by c.args.out.now c.args.out.now p.0 (no_less c.args.out.now) p.2.0)

pub returns-in_err-functions-clause-answers : goal.returns-in_err-functions-clause-answers
returns-in_err-functions-clause-answers g c =
    let p = err_from_is_err_and c.from_residual-in_err-functions.result c.from_residual-in_err-functions.ensures.1 in
    let why = subst (λ (xs : Bytes). NoModule c.args.profile xs c.in_err-functions.field-0.0) c.deref.ensures.value c.in_err-functions.ensures.refused in
    rw p.1 (module_refused said c.args.profile (g.F.Files.bytes c.args.files.now c.args.name.now) c.in_ok-bytes.bytes.items c.in_err-functions.field-0.0
    p.0 c.args.out.now c.in_ok-bytes.ensures.bytes why p.2.1)

pub returns-clause-answers : goal.returns-clause-answers
returns-clause-answers g c =
    let read = c.in_ok-bytes.bytes.items in
    let functions = c.in_ok-functions.functions in
    let size = c.len-length.result in
    let defined = subst (λ (xs : Bytes). IsDefinedBy c.args.profile xs functions) c.deref.ensures.value c.in_ok-functions.ensures.valid in
    let counted : size ≡ length read = omega (arith, c.in_ok-bytes.bytes.ok.0, c.len-length.ensures) in
    module_told said c.args.profile (g.F.Files.bytes c.args.files.now c.args.name.now) read functions (valid_text functions size) c.args.out.now
    c.writeln.new.self c.writeln.result c.in_ok-bytes.ensures.bytes defined (ap (valid_text functions) counted) c.writeln.ensures.lost
    c.writeln.ensures.prints

pub returns-in_err-functions-clause-nothing : goal.returns-in_err-functions-clause-nothing
returns-in_err-functions-clause-nothing g c = on_err c.from_residual-in_err-functions.result _ (nothing_same c.args.out.now)

pub returns-in_err-functions-clause-kept : goal.returns-in_err-functions-clause-kept
returns-in_err-functions-clause-kept g c = c.in_err-functions.ensures.kept ∙ c.in_ok-bytes.ensures.kept

pub returns-clause-kept : goal.returns-clause-kept
returns-clause-kept g c = c.in_ok-functions.ensures.kept ∙ c.in_ok-bytes.ensures.kept
