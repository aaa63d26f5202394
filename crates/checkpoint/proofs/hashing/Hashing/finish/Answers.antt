use Rattle.std.proofs.Common.{◌≡◌, ◌++◌, sym, ap, ◌∙◌, subst, append-nil}
use Rattle.std.proofs.KnownBytes.{Appends-trans}
use Rattle.std.specs.Io.KnownBytes.{Appends}
use Rattle.sha2.specs.Sha256.{sha256}
use Rattle.ledger_model.specs.Chain.{Bytes}
use Rattle.checkpoint.proofs.hashing.Hashing.finish.Goals as goal

pub returns : goal.returns
returns g c = λ old text so.
    let contents = g.W.Write.contents in
    let digest = c.finalize-digest.result in
    let passed = c.in_ok-pass_on.ensures.passed old text so in
    let whole : text ≡ passed.front = passed.parts ∙ ap (λ (piece : Bytes). passed.front ++ piece) c.in_ok-pass_on.ensures.empty ∙ append-nil passed.front in (
      c.finalize-digest.ensures passed.front passed.hashed ∙ ap (λ (t : Bytes). sha256 t) (sym whole),
      subst (λ (t : Bytes). Appends old (contents c.write_all.new.self) (t ++ digest)) (sym whole)
          (Appends-trans old (contents c.pass_on.new.out) (contents c.write_all.new.self) passed.front digest passed.written c.in_ok-write_all.ensures.bytes),
    )
