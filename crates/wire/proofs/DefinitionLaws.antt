-- Definitions are read from their spelling alone.
use Rattle.std.proofs.Common.{◌≡◌, ℕ, ◌+◌, ◌-◌, ◌≤◌, ◌<◌, ◌^◌, ◌++◌, ◌∷◌, [], ◌&&◌, Bool, true, false, ltb, leb, leb-true, le-leb, eqb, cond}
use Rattle.std.proofs.Common.{arith, List, length, Some, None, refl, ap, ap₂, ◌∙◌, append_assoc}
use Rattle.std.proofs.lemmas.Bool.{eqb-true, ltb-false}
use Rattle.std.proofs.lemmas.Option.{some_pair_parts, same_Some}
use Rattle.std.specs.List.{list_all}
use Rattle.std.specs.Int.{w16, w32, to_be_bytes}
use Rattle.grammar.specs.Reading.{◌>>=◌, byte_at}
use Rattle.grammar.specs.Laws.Steps.{bind_some, either, chosen, byte_taken}
use Rattle.wasm_profile.specs.Numbers.{number_of, profile_of}
use Rattle.wasm_profile.specs.declared.profile.Profile.{Profile}
use Rattle.wasm_profile.specs.declared.profile.Profile.TheVariants.{Core1, SignExtension}
use Rattle.fab_types.specs.Limits.{IsFuel, IsPolicyText, is_policy_byte}
use Rattle.fab_types.specs.declared.definition.Definition.{Definition}
use Rattle.fab_types.specs.Spelling.{long_bytes, definition_bytes}
use Rattle.fab_types.specs.Within.{IsDefinition}
use Rattle.wire.specs.Reading.{pair_at, front_and_rest, number_at, text_at, between_at, Form, with_openness, form_by, form_at, fuel_at, policy_text_at}
use Rattle.wire.specs.Reading.{definition_at}
use Rattle.wire.proofs.Codec.{Codec, respelled, checked, pair, made}
use Rattle.wire.proofs.Measured.{both, and_both, fixed, number16, number32, text}

numbered : (n : ℕ) (p : Profile) → profile_of n ≡ Some p → n ≡ number_of p
numbered n p e =
    chosen (eqb n 1) Core1 (cond (eqb n 2) (Some SignExtension) None) p (n ≡ number_of p) (λ one same. eqb-true n 1 one ∙ ap number_of same)
    (chosen (eqb n 2) SignExtension None p (n ≡ number_of p) (λ two same. eqb-true n 2 two ∙ ap number_of same) (λ none. absurd (cc none)))
    e

abbrev number_of_form : Form → ℕ
number_of_form f = cond f.0 (16 + number_of f.1) (number_of f.1)

numbered_form : (n : ℕ) (f : Form) → form_by n ≡ Some f → n ≡ number_of_form f
numbered_form n f =
    either (ltb n 17) (with_openness false (profile_of n)) (with_openness true (profile_of (n - 16))) f (n ≡ number_of_form f)
    (λ _ closed.
    let s = bind_some (profile_of n) (λ p. Some (false, p)) f closed in
    numbered n s.0 s.1 ∙ ap number_of_form (same_Some (false, s.0) f s.2))
    (λ past opened.
    let s = bind_some (profile_of (n - 16)) (λ p. Some (true, p)) f opened in
    let least : 17 ≤ n = ltb-false _ _ past in
    let number = numbered (n - 16) s.0 s.1 in
    let is : n ≡ 16 + number_of s.0 = omega (arith, least, number) in
    is ∙ ap number_of_form (same_Some (true, s.0) f s.2))

abbrev AnyForm : Form → Type 0
AnyForm f = Unit {0}

abbrev form_bytes : Form → List ℕ
form_bytes f = number_of_form f ∷ []

form_takes : (bytes : List ℕ) (f : Form) (rest : List ℕ) → form_at bytes ≡ Some (f, rest) → AnyForm f × (bytes ≡ form_bytes f ++ rest)
unfolding form_at
form_takes bytes f rest e =
    let s = bind_some (byte_at bytes) (λ n. form_by n.0 >>= λ f. Some (f, n.1)) (f, rest) e in
    let t = bind_some (form_by s.0.0) (λ f. Some (f, s.0.1)) (f, rest) s.2 in
    let same = some_pair_parts t.0 f s.0.1 rest t.2 in
    let number = numbered_form s.0.0 t.0 t.1 ∙ ap number_of_form same.0 in
    (tt, byte_taken bytes s.0.0 s.0.1 s.1 ∙ ap₂ (λ (n : ℕ) (r : List ℕ). n ∷ r) number same.1)

form_again : (is_open : Bool) (p : Profile) (rest : List ℕ) → form_at (form_bytes (is_open, p) ++ rest) ≡ Some ((is_open, p), rest)
unfolding form_at
form_again false Core1 rest = refl
form_again false SignExtension rest = refl
form_again true Core1 rest = refl
form_again true SignExtension rest = refl

form : Codec AnyForm form_bytes form_at
form = record { takes = form_takes; again = λ f rest _. form_again f.0 f.1 rest }

fuel : Codec IsFuel (to_be_bytes w32) fuel_at
unfolding fuel_at
fuel =
    let test = λ (n : ℕ). leb 1 n && leb n 10000000 in
    respelled (λ n. (n < 2 ^ 32) × (test n ≡ true)) IsFuel (to_be_bytes w32) (to_be_bytes w32) (between_at 1 10000000 (number_at w32))
    (λ n k. let b = both (leb 1 n) (leb n 10000000) k.1 in (leb-true _ _ b.0, leb-true _ _ b.1))
    (λ n k. let most = k.1 in (omega (arith, most), and_both (leb 1 n) (leb n 10000000) (le-leb _ _ k.0) (le-leb _ _ k.1)))
    (λ n. refl)
    (checked test (λ n. n < 2 ^ 32) (to_be_bytes w32) (number_at w32) number32)

abbrev Len : ℕ → Type 0
Len n = (1 ≤ n) × (n ≤ 1024)

len : Codec Len (to_be_bytes w16) (between_at 1 1024 (number_at w16))
len =
    let test = λ (n : ℕ). leb 1 n && leb n 1024 in
    respelled (λ n. (n < 2 ^ 16) × (test n ≡ true)) Len (to_be_bytes w16) (to_be_bytes w16) (between_at 1 1024 (number_at w16))
    (λ n k. let b = both (leb 1 n) (leb n 1024) k.1 in (leb-true _ _ b.0, leb-true _ _ b.1))
    (λ n k. let most = k.1 in (omega (arith, most), and_both (leb 1 n) (leb n 1024) (le-leb _ _ k.0) (le-leb _ _ k.1)))
    (λ n. refl)
    (checked test (λ n. n < 2 ^ 16) (to_be_bytes w16) (number_at w16) number16)

pub policy_text : Codec IsPolicyText long_bytes policy_text_at
unfolding policy_text_at
policy_text =
    respelled (λ t. Len (length t) × (list_all is_policy_byte t ≡ true)) IsPolicyText long_bytes long_bytes policy_text_at (λ t k. (k.0.0, k.0.1, k.1))
    (λ t k. ((k.0, k.1), k.2)) (λ t. refl)
    (checked (list_all is_policy_byte) (λ t. Len (length t)) long_bytes (text_at (between_at 1 1024 (number_at w16)))
    (text Len (to_be_bytes w16) (between_at 1 1024 (number_at w16)) len))

abbrev Digest : List ℕ → Type 0
Digest t = length t ≡ 32

abbrev Parts : Type 0
Parts = Form × (List ℕ × (ℕ × List ℕ))

abbrev parts : Definition → Parts
parts d = ((d.is_open, d.profile), (d.digest, (d.fuel, d.policy)))

abbrev AreParts : Parts → Type 0
AreParts p = AnyForm p.0 × (Digest p.1.0 × (IsFuel p.1.1.0 × IsPolicyText p.1.1.1))

abbrev parts_bytes : Parts → List ℕ
parts_bytes p = form_bytes p.0 ++ (p.1.0 ++ (to_be_bytes w32 p.1.1.0 ++ long_bytes p.1.1.1))

pub four : (a b c d : List ℕ) → a ++ (b ++ (c ++ d)) ≡ a ++ b ++ c ++ d
four a b c d = simp append_assoc

pub definition : Codec IsDefinition definition_bytes definition_at
unfolding definition_at
definition =
    let fuel_and_policy = λ (p : ℕ × List ℕ). IsFuel p.0 × IsPolicyText p.1 in
    let fuel_and_policy_bytes = λ (p : ℕ × List ℕ). to_be_bytes w32 p.0 ++ long_bytes p.1 in
    respelled (λ d. AreParts (parts d)) IsDefinition (λ d. parts_bytes (parts d)) definition_bytes definition_at
    (λ d k. record { digest = k.1.0; fuel = k.1.1.0; policy = k.1.1.1 }) (λ d k. (tt, (k.digest, (k.fuel, k.policy))))
    (λ d. four (form_bytes (d.is_open, d.profile)) d.digest (to_be_bytes w32 d.fuel) (long_bytes d.policy))
    (made (λ p. let made : Definition = record { profile = p.0.1; is_open = p.0.0; digest = p.1.0; fuel = p.1.1.0; policy = p.1.1.1 } in made)
    parts AreParts parts_bytes
    (pair_at form_at (λ _. pair_at (front_and_rest 32) (λ _. pair_at fuel_at (λ _. policy_text_at)))) (λ p. refl) (λ d. refl)
    (pair AnyForm form_bytes form_at (λ _ p. Digest p.0 × fuel_and_policy p.1) (λ p. p.0 ++ fuel_and_policy_bytes p.1)
    (λ _. pair_at (front_and_rest 32) (λ _. pair_at fuel_at (λ _. policy_text_at))) form
    (λ _. pair Digest (λ t. t) (front_and_rest 32) (λ _. fuel_and_policy) fuel_and_policy_bytes (λ _. pair_at fuel_at (λ _. policy_text_at)) (fixed 32)
    (λ _. pair IsFuel (to_be_bytes w32) fuel_at (λ _. IsPolicyText) long_bytes (λ _. policy_text_at) fuel (λ _. policy_text)))))
