use Rattle.std.proofs.Common.{ℕ, List, Err, inr, refl, ap, subst}
use Rattle.key_file.specs.KeyFiles.{IsKeyFile}
use Rattle.cli_lines.proofs.KeyFiles.{no_file, whole_file}
use Rattle.cli_lines.proofs.keys.keys_in.Goals as goal

pub returns-in-Ok-clause-spelled : goal.returns-in-Ok-clause-spelled
returns-in-Ok-clause-spelled g c =
    let seeds = c.in-Ok.keys.items in
    let read = subst (λ bytes. IsKeyFile bytes seeds) c.deref.ensures.value c.in-Ok.ensures.spelled in
    whole_file c.in_ok-bytes.bytes.items seeds (g.F.Files.bytes c.args.files.now c.args.name.now) read c.in_ok-bytes.ensures.bytes

pub returns-clause-refused : goal.returns-clause-refused
returns-clause-refused g c =
    let read = c.in_ok-bytes.bytes.items in
    let other = subst (λ (bytes : List ℕ). (seeds : List (List ℕ)) → ¬ IsKeyFile bytes seeds) c.deref.ensures.value
    (c.in-Err-Malformed.ensures.malformed (ap Err c.in-Err-Malformed.field-0-is)) in
    let none = no_file read (g.F.Files.bytes c.args.files.now c.args.name.now) other c.in_ok-bytes.ensures.bytes in
    inr (refl, none.0, none.1, none.2)
