-- A key that fits a block.
use Rattle.std.proofs.Common.{◌≡◌, ◌≤◌, ◌-◌, ℕ, List, ◌++◌, length, drop, replicate, ap, sym, ◌∙◌, cond}
use Rattle.std.proofs.lemmas.Bool.{le-leb}
use Rattle.std.proofs.lemmas.List.{drop-replicate}
use Rattle.sha2.specs.Sha256.{sha256}
use Rattle.hmac_tag.specs.Tag.{padded_key, shorten}

pub padded-short : (key now : List ℕ) → length key ≤ 64 → now ≡ key → now ++ drop (length key) (replicate 64 0) ≡ padded_key key
padded-short key now h e =
    let short : shorten key ≡ key = ap (λ b. cond b key (sha256 key)) (le-leb (length key) 64 h) in
    ap (λ k. k ++ drop (length key) (replicate 64 0)) e
    ∙ ap (λ zs. key ++ zs) (drop-replicate (length key) 64 0)
    ∙ ap (λ k. k ++ replicate (64 - length k) 0) (sym short)
