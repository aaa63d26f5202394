use Rattle.std.proofs.Common.{◌∙◌, ℕ, List, [], ◌∷◌, Bool, Option, IsSome, OnOk, ap, inl, refl, subst, sym}
use Rattle.std.proofs.lemmas.Result.{err_from_is_err_and}
use Rattle.cli_lines.specs.Places.{FilesHeld, opened_bytes}
use Rattle.cli_lines.specs.Told.{Answers, Begins}
use Rattle.cli_lines.proofs.Changes.{changes_from, changes_kept, changes_then}
use Rattle.cli_lines.proofs.Printing.{nothing_same}
use Rattle.cli_lines.proofs.Silence.{no_less, tells_by}
use Rattle.cli_peer.specs.Keeping.{HoldsReached, KeepsTold}
use Rattle.cli_peer.specs.Peering.{Peers, PeersBegin}
use Rattle.cli_peer.specs.Setting.{asked_by}
use Rattle.cli_peer.proofs.Keeping.{holds_from, keeps_from, keeps_made, keeps_same, told_from}
use Rattle.cli_peer.proofs.peering.peer.Goals as goal

pub returns-in_default-clause-others : goal.returns-in_default-clause-others
returns-in_default-clause-others g c =
    let bytes = g.F.Files.bytes in
    changes_kept g.F.Files.is_known (c.args.asked.now.store.now ∷ []) (bytes c.args.files.now) (bytes c.open_store.new.self) (bytes c.explain_trouble.new.files)
    c.explain_trouble.ensures.kept c.open_store.ensures.others

pub returns-in_err-lines : goal.returns-in_err-lines
returns-in_err-lines g c =
    let p = err_from_is_err_and c.from_residual.result c.from_residual.ensures.1 in
    let bytes = g.F.Files.bytes in
    let name = c.args.asked.now.store.now in
    rw (p.1, p.2) (record {
      tells = tells_by c.args.out.now c.args.out.now _ (no_less c.args.out.now) c.in_err-lines.ensures.silent;
      answers = inl c.in_err-lines.ensures.lost;
      begins = λ broken. inl (nothing_same c.args.out.now);
      keeps = keeps_made g.F.Files.is_known name (bytes c.args.files.now) (bytes c.input.new.self)
          (λ is. ap (λ (h : FilesHeld). h name) c.input.ensures.kept ∙ c.in-Some.ensures.there is ∙ c.in-Some.ensures.held
          ∙ ap (λ (k : Bool). opened_bytes k (bytes c.args.files.now name)) is);
      holds = tt;
      told = λ is. inl (nothing_same c.args.out.now);
      others = changes_kept g.F.Files.is_known (c.args.asked.now.store.now ∷ []) (bytes c.args.files.now) (bytes c.open_store.new.self) (bytes c.input.new.self)
          c.input.ensures.kept c.open_store.ensures.others;
    })

pub returns-clause-answers : goal.returns-clause-answers
returns-clause-answers g c =
    let p = λ (keeps : Bool). asked_by keeps c.args.log.now c.args.asked.now in
    let known = g.F.Files.is_known in
    let held = g.F.Store.Write.contents c.in-Some.file in
    let t = c.args.out.now in
    let u = c.peer_to.new.out in
    let r = c.peer_to.result in
    let left = c.in_ok-lines.ensures.whole ∙ c.input.ensures.read ∙ c.in-Some.ensures.input in
    subst (λ (held : Option (List ℕ)). Answers (Peers (p known) held (g.F.Files.input_bytes c.args.files.now)) t u r) c.in-Some.ensures.held
    (subst (λ (input : Option (List ℕ)). Answers (Peers (p known) held input) t u r) left
    (subst (λ (k : Bool). Answers (Peers (p k) held c.in_ok-lines.lines.left) t u r) c.open_store.ensures.known c.peer_to.ensures.answers))

pub returns-clause-begins : goal.returns-clause-begins
returns-clause-begins g c =
    let p = λ (keeps : Bool). asked_by keeps c.args.log.now c.args.asked.now in
    let known = g.F.Files.is_known in
    let held = g.F.Store.Write.contents c.in-Some.file in
    let t = c.args.out.now in
    let u = c.peer_to.new.out in
    let r = c.peer_to.result in
    let left = c.in_ok-lines.ensures.whole ∙ c.input.ensures.read ∙ c.in-Some.ensures.input in
    subst (λ (held : Option (List ℕ)). Begins (PeersBegin (p known) held (g.F.Files.input_bytes c.args.files.now)) t u r) c.in-Some.ensures.held
    (subst (λ (input : Option (List ℕ)). Begins (PeersBegin (p known) held input) t u r) left
    (subst (λ (k : Bool). Begins (PeersBegin (p k) held c.in_ok-lines.lines.left) t u r) c.open_store.ensures.known c.peer_to.ensures.begins))

pub returns-clause-others : goal.returns-clause-others
returns-clause-others g c =
    let bytes = g.F.Files.bytes in
    let names = c.args.asked.now.store.now ∷ [] in
    let opened = bytes c.open_store.new.self in
    changes_then g.F.Files.is_known names (bytes c.args.files.now) opened (bytes c.peer_to.new.files) c.open_store.ensures.others
    (changes_from g.F.Files.is_known names opened (bytes c.watch-watch.new.self) (bytes c.peer_to.new.files)
    (c.watch-watch.ensures.kept ∙ c.input.ensures.kept) c.peer_to.ensures.others)

-- ---- its store

-- the file of a store, as it is opened
pub peer_to-requires-clause-there : goal.peer_to-requires-clause-there
peer_to-requires-clause-there g c κs within =
    let name = c.args.asked.now.store.now in
    let same = ap (λ (h : FilesHeld). h name) (c.watch-watch.ensures.kept ∙ c.input.ensures.kept) in
    λ is. sym (same ∙ c.in-Some.ensures.there is)

pub peer_to-requires-clause-made : goal.peer_to-requires-clause-made
peer_to-requires-clause-made g c κs within =
    let bytes = g.F.Files.bytes in
    let name = c.args.asked.now.store.now in
    let same = ap (λ (h : FilesHeld). h name) (c.watch-watch.ensures.kept ∙ c.input.ensures.kept) in
    λ is. subst IsSome (sym (same ∙ c.in-Some.ensures.there is ∙ c.in-Some.ensures.held
    ∙ ap (λ (k : Bool). opened_bytes k (bytes c.args.files.now name)) is)) refl

pub returns-in_default-clause-keeps : goal.returns-in_default-clause-keeps
returns-in_default-clause-keeps g c =
    let bytes = g.F.Files.bytes in
    let name = c.args.asked.now.store.now in
    keeps_same g.F.Files.is_known name (bytes c.args.files.now) (bytes c.explain_trouble.new.files)
    (λ is. ap (λ (h : FilesHeld). h name) (c.explain_trouble.ensures.kept ∙ c.in_default.ensures.refused is))

pub returns-clause-keeps : goal.returns-clause-keeps
returns-clause-keeps g c =
    let bytes = g.F.Files.bytes in
    let name = c.args.asked.now.store.now in
    let same = ap (λ (h : FilesHeld). h name) (c.watch-watch.ensures.kept ∙ c.input.ensures.kept) in
    keeps_from g.F.Files.is_known name (bytes c.args.files.now) (bytes c.watch-watch.new.self) (bytes c.peer_to.new.files)
    (λ is. same ∙ c.in-Some.ensures.there is ∙ c.in-Some.ensures.held ∙ ap (λ (k : Bool). opened_bytes k (bytes c.args.files.now name)) is)
    c.peer_to.ensures.keeps

pub returns-clause-holds : goal.returns-clause-holds
returns-clause-holds g c =
    let bytes = g.F.Files.bytes in
    let by = λ (keeps : Bool). asked_by keeps c.args.log.now c.args.asked.now in
    let name = c.args.asked.now.store.now in
    let before = bytes c.args.files.now in
    let mid = bytes c.watch-watch.new.self in
    let after = bytes c.peer_to.new.files in
    let known = g.F.Files.is_known in
    let p = by known in
    let r = c.peer_to.result in
    let same = ap (λ (h : FilesHeld). h name) (c.watch-watch.ensures.kept ∙ c.input.ensures.kept) in
    let left = c.in_ok-lines.ensures.whole ∙ c.input.ensures.read ∙ c.in-Some.ensures.input in
    holds_from known p name (g.F.Files.input_bytes c.args.files.now) before mid after r
    (λ is. same ∙ c.in-Some.ensures.there is ∙ c.in-Some.ensures.held ∙ ap (λ (k : Bool). opened_bytes k (bytes c.args.files.now name)) is)
    (subst (λ (input : Option (List ℕ)). OnOk r (HoldsReached known p name input mid after)) left
    (subst (λ (k : Bool). OnOk r (HoldsReached known (by k) name c.in_ok-lines.lines.left mid after)) c.open_store.ensures.known c.peer_to.ensures.holds))

pub returns-in_default-clause-told : goal.returns-in_default-clause-told
returns-in_default-clause-told g c = λ is. inl (nothing_same c.args.out.now)

pub returns-clause-told : goal.returns-clause-told
returns-clause-told g c =
    let bytes = g.F.Files.bytes in
    let by = λ (keeps : Bool). asked_by keeps c.args.log.now c.args.asked.now in
    let name = c.args.asked.now.store.now in
    let before = bytes c.args.files.now in
    let mid = bytes c.watch-watch.new.self in
    let after = bytes c.peer_to.new.files in
    let known = g.F.Files.is_known in
    let p = by known in
    let t = c.args.out.now in
    let u = c.peer_to.new.out in
    let same = ap (λ (h : FilesHeld). h name) (c.watch-watch.ensures.kept ∙ c.input.ensures.kept) in
    let left = c.in_ok-lines.ensures.whole ∙ c.input.ensures.read ∙ c.in-Some.ensures.input in
    told_from known p name (g.F.Files.input_bytes c.args.files.now) before mid after t u
    (λ is. same ∙ c.in-Some.ensures.there is ∙ c.in-Some.ensures.held ∙ ap (λ (k : Bool). opened_bytes k (bytes c.args.files.now name)) is)
    (subst (λ (input : Option (List ℕ)). KeepsTold known p name input mid after t u) left
    (subst (λ (k : Bool). KeepsTold known (by k) name c.in_ok-lines.lines.left mid after t u) c.open_store.ensures.known c.peer_to.ensures.told))
