use Rattle.std.proofs.Common.{ℕ, List, [], ◌∷◌, ap, sym, ◌∙◌}
use Rattle.cli_lines.specs.Places.{FilesHeld}
use Rattle.cli_lines.proofs.Changes.{changes_first, changes_kept, changes_next, changes_then}
use Rattle.cli_lines.proofs.whole.place_file.Goals as goal

pub returns-in_default-clause-others : goal.returns-in_default-clause-others
returns-in_default-clause-others g c =
    let known = g.F.Files.is_known in
    let part = c.args.part.now in
    let name = c.args.name.now in
    let names : List (List ℕ) = part ∷ name ∷ [] in
    let bytes = g.F.Files.bytes in
    let old = bytes c.args.files.now in
    let mid = bytes c.lock_new.new.self in
    let told = bytes c.explain_numbered.new.files in
    let new = bytes c.remove.new.self in
    changes_then known names old told new
    (changes_kept known names old mid told c.explain_numbered.ensures.kept (changes_next known part name old mid c.lock_new.ensures.others))
    (changes_first known part name told new c.remove.ensures.others)

pub returns-in-Ok-clause-others : goal.returns-in-Ok-clause-others
returns-in-Ok-clause-others g c =
    let known = g.F.Files.is_known in
    let part = c.args.part.now in
    let name = c.args.name.now in
    let old = g.F.Files.bytes c.args.files.now in
    let mid = g.F.Files.bytes c.lock_new.new.self in
    changes_then known (part ∷ name ∷ []) old mid (g.F.Files.bytes c.replace_file.new.files)
    (changes_next known part name old mid c.lock_new.ensures.others) c.replace_file.ensures.others

pub returns-clause-others : goal.returns-clause-others
returns-clause-others g c =
    let known = g.F.Files.is_known in
    let part = c.args.part.now in
    let name = c.args.name.now in
    let names : List (List ℕ) = part ∷ name ∷ [] in
    let bytes = g.F.Files.bytes in
    let old = bytes c.args.files.now in
    let mid = bytes c.lock_new.new.self in
    let tried = bytes c.replace_file.new.files in
    let new = bytes c.remove-in-Err.new.self in
    changes_then known names old tried new
    (changes_then known names old mid tried (changes_next known part name old mid c.lock_new.ensures.others) c.replace_file.ensures.others)
    (changes_next known part name tried new c.remove-in-Err.ensures.others)

pub returns-in_default-clause-stays : goal.returns-in_default-clause-stays
returns-in_default-clause-stays g c =
    let name = c.args.name.now in
    λ free writes. c.remove.ensures.others writes name (free.0, tt)
    ∙ ap (λ (h : FilesHeld). h name) (c.explain_numbered.ensures.kept ∙ c.in_default.ensures.refused writes)

pub returns-clause-stays : goal.returns-clause-stays
returns-clause-stays g c = λ free writes. c.remove-in-Err.ensures.removed writes ∙ sym free.1
