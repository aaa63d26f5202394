-- Parts of a signature, and the equation that they have to fulfil.
use Rattle.std.proofs.Common.{◌≡◌, ℕ, ◌%◌, ◌^◌, ◌<◌, List, ◌++◌, length, take, drop, Some, sym, ap, ap₂, ◌∙◌, arith}
use Rattle.std.proofs.Math.Seq.{take-append_seam, drop-append_seam}
use Rattle.std.proofs.Math.Nat.{mod-lt}
use Rattle.field25519.specs.Bytes.{number, bytes_of}
use Rattle.edwards_model.specs.Curve.{Affine, IsPoint, base, order, multiple}
use Rattle.edwards_model.specs.Encoding.{encoded, decoded}
use Rattle.edwards_model.proofs.Decoding.{number_bytes, length_bytes, decoded-encoded}
use Rattle.edwards_model.proofs.Group.{base_is, multiple_is}
use Rattle.ed25519.specs.Signing.{challenge, holds, verifies}

pub residue_small : (n : ℕ) → n % order < 2 ^ 256
residue_small n = (let l : n % order < order = mod-lt n (omega arith) in omega (arith, l))

take_first : (xs ys : List ℕ) → length xs ≡ 32 → take 32 (xs ++ ys) ≡ xs
take_first xs ys h = ap (λ k. take k (xs ++ ys)) (sym h) ∙ take-append_seam xs ys

drop_first : (xs ys : List ℕ) → length xs ≡ 32 → drop 32 (xs ++ ys) ≡ ys
drop_first xs ys h = ap (λ k. drop k (xs ++ ys)) (sym h) ∙ drop-append_seam xs ys

-- a signature in two parts
pub parts : (public message r s : List ℕ) → length r ≡ 32 → verifies public message (r ++ s) ≡
    holds (decoded public) (decoded r) (number s) (challenge r public message)
unfolding verifies
parts public message r s h =
    ap₂ (λ f l. holds (decoded public) (decoded f) (number l) (challenge f public message)) (take_first r s h) (drop_first r s h)

-- a signature by a point and a number
pub by_point : (public message : List ℕ) (r : Affine) (s : ℕ) → IsPoint r → s < 2 ^ 256 → verifies public message (encoded r ++ bytes_of 32 s) ≡
    holds (decoded public) (Some r) s (challenge (encoded r) public message)
by_point public message r s h l =
    parts public message (encoded r) (bytes_of 32 s) (length_bytes 32 _)
    ∙ ap₂ (λ q n. holds (decoded public) q n (challenge (encoded r) public message)) (decoded-encoded r h) (number_bytes 32 s l)

pub base_multiple : (n : ℕ) → IsPoint (multiple n base)
base_multiple n = multiple_is base base_is n
