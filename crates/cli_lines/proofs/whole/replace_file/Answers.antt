use Rattle.std.proofs.Common.{ℕ, List, [], ◌∷◌, ap, rules, ◌∙◌}
use Rattle.cli_lines.specs.Places.{FilesHeld}
use Rattle.cli_lines.proofs.Changes.{changes_first, changes_kept, changes_then}
use Rattle.cli_lines.proofs.whole.replace_file.Goals as goal

pub returns-else-keep-clause-others : goal.returns-else-keep-clause-others
returns-else-keep-clause-others g c =
    let known = g.F.Files.is_known in
    let part = c.args.part.now in
    let name = c.args.name.now in
    let names : List (List ℕ) = part ∷ name ∷ [] in
    let bytes = g.F.Files.bytes in
    let old = bytes c.args.files.now in
    let told = bytes c.explain_numbered.new.files in
    let new = bytes c.remove.new.self in
    changes_then known names old told new
    (changes_kept known names old (bytes c.keep.new.self) told c.explain_numbered.ensures.kept c.keep.ensures.others)
    (changes_first known part name told new c.remove.ensures.others)

pub returns-else-keep-clause-stays : goal.returns-else-keep-clause-stays
returns-else-keep-clause-stays g c =
    let name = c.args.name.now in
    λ apart writes. c.remove.ensures.others writes name (apart, tt) ∙ ap (λ (h : FilesHeld). h name) c.explain_numbered.ensures.kept
    ∙ c.keep.ensures.refused writes (search rules)
