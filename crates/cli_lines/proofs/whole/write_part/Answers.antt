use Rattle.std.proofs.Common.{ℕ, List, [], ◌∷◌}
use Rattle.cli_lines.proofs.Changes.{changes_kept, changes_then}
use Rattle.cli_lines.proofs.whole.write_part.Goals as goal

pub returns-in_default-clause-others : goal.returns-in_default-clause-others
returns-in_default-clause-others g c =
    let bytes = g.F.Files.bytes in
    changes_kept g.F.Files.is_known (c.args.part.now ∷ []) (bytes c.args.files.now) (bytes c.create.new.self) (bytes c.explain_trouble.new.files)
    c.explain_trouble.ensures.kept c.create.ensures.others

pub returns-in-Ok-clause-others : goal.returns-in-Ok-clause-others
returns-in-Ok-clause-others g c =
    let bytes = g.F.Files.bytes in
    changes_kept g.F.Files.is_known (c.args.part.now ∷ []) (bytes c.args.files.now) (bytes c.create.new.self) (bytes c.explain_written.new.files)
    c.explain_written.ensures.kept c.create.ensures.others

pub returns-in-Err-clause-others : goal.returns-in-Err-clause-others
returns-in-Err-clause-others g c =
    let known = g.F.Files.is_known in
    let names : List (List ℕ) = c.args.part.now ∷ [] in
    let bytes = g.F.Files.bytes in
    let old = bytes c.args.files.now in
    let told = bytes c.explain_written.new.files in
    changes_then known names old told (bytes c.remove.new.self)
    (changes_kept known names old (bytes c.create.new.self) told c.explain_written.ensures.kept c.create.ensures.others) c.remove.ensures.others
