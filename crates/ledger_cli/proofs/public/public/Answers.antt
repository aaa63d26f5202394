use Rattle.std.specs.Prelude.{OnErr}
use Rattle.std.proofs.Common.{List, ℕ, Ok, Err, Result, IfErr, OnOk, inl, inr, refl, [], subst}
use Rattle.std.proofs.lemmas.Result.{err_from_is_err_and}
use Rattle.std.specs.List.{flat_map}
use Rattle.cli_lines.specs.Told.{Answers, IsBrokenOff, IsTextOf, Prints, PrintsPart, Told}
use Rattle.cli_lines.specs.declared.failure.Failure.{Failure}
use Rattle.cli_lines.proofs.Answering.{begins_part}
use Rattle.cli_lines.proofs.Printing.{nothing_same, prints_none}
use Rattle.cli_lines.proofs.Silence.{no_less, tells_by}
use Rattle.ledger_cli.specs.Keys.{Publishes, public_text}
use Rattle.ledger_cli.proofs.public.public.Goals as goal

told : (seeds : List (List ℕ)) (t u : Told) (r : Result (Unit {0}) Failure) (Comes : Result (Unit {0}) Failure → List ℕ → Type 0) →
    Comes (Ok tt) (flat_map public_text seeds) → IfErr r IsBrokenOff → OnOk r (Prints t u (flat_map public_text seeds)) → Answers Comes t u r
told seeds t u (Ok x) Comes comes lost prints = inr (flat_map public_text seeds, comes, prints)
told seeds t u (Err f) Comes comes lost prints = inl lost

pub returns-in_err-keys : goal.returns-in_err-keys
returns-in_err-keys g c =
    let p = err_from_is_err_and c.from_residual.result c.from_residual.ensures.1 in
    let t = c.args.out.now in
    let e = c.in_err-keys.ensures in
    rw (p.1, p.2) (record {
      tells = tells_by t t _ (no_less t) e.silent;
      answers = inr ([], (e.refused, refl), prints_none t);
      begins = λ broken. inl (nothing_same t);
      kept = c.in_err-keys.ensures.kept;
    })

pub returns-clause-answers : goal.returns-clause-answers
returns-clause-answers g c =
    let keys = c.in_ok-keys.keys.items in
    let held = g.F.Files.bytes c.args.files.now c.args.name.now in
    let same = c.deref.ensures.value in
    let e = c.print_keys.ensures in
    told keys c.args.out.now c.print_keys.new.out c.print_keys.result (Publishes held) (keys, c.in_ok-keys.ensures.spelled, refl) e.lost
    (subst (λ (ks : List (List ℕ)). OnOk c.print_keys.result (Prints c.args.out.now c.print_keys.new.out (flat_map public_text ks))) same e.prints)

pub returns-clause-begins : goal.returns-clause-begins
returns-clause-begins g c =
    let keys = c.in_ok-keys.keys.items in
    let held = g.F.Files.bytes c.args.files.now c.args.name.now in
    let r = c.print_keys in
    begins_part (IsTextOf (Publishes held)) c.args.out.now r.new.out r.result (flat_map public_text keys)
    (Ok tt, (keys, c.in_ok-keys.ensures.spelled, refl))
    (subst (λ (ks : List (List ℕ)). OnErr r.result (PrintsPart c.args.out.now r.new.out (flat_map public_text ks))) c.deref.ensures.value r.ensures.part)

pub returns-clause-kept : goal.returns-clause-kept
returns-clause-kept g c = c.in_ok-keys.ensures.kept

pub returns-clause-tells : goal.returns-clause-tells
returns-clause-tells g c = c.print_keys.ensures.tells
