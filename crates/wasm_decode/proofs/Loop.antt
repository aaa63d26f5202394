-- Reading items one after another, as a loop does.
use Rattle.std.proofs.Common.{◌≡◌, ℕ, suc, ◌+◌, ◌≤◌, ◌<◌, Bool, true, false, eqb, List, [], ◌∷◌, ◌++◌, length, drop, get_or, Option, Some, None, refl, sym, ap}
use Rattle.std.proofs.Common.{◌∙◌, add-one, drop-cons}
use Rattle.std.proofs.lemmas.List.{append-nil, drop_all}
use Rattle.std.proofs.lemmas.Bool.{eqb-true, eq-eqb}
use Rattle.wasm_profile.specs.declared.profile.Profile.{Profile}
use Rattle.grammar.specs.Reading.{byte_at, text_at}
use Rattle.grammar.specs.Laws.Loops.{with_front, regroup}
use Rattle.wasm_ast.specs.declared.module.Func.{Func}
use Rattle.wasm_decode.specs.declared.fault.DecodeFault.{DecodeFault}
use Rattle.wasm_decode.specs.declared.fault.DecodeFault.TheVariants.{Memory, Malformed}
use Rattle.wasm_decode.specs.Parses.{Fails}
use Rattle.wasm_decode.specs.FunctionReading.{code_at, codes_at}

-- ---- the codes of functions whose types are given

module _ (profile : Profile) (front : List Func) (types : List ℕ) (i : ℕ) (bytes : List ℕ) (total : Option (List Func × List ℕ))
    (so_far : with_front front (codes_at profile (drop i types) bytes) ≡ total) where
  here : i < length types → with_front front (codes_at profile (get_or types i 0 ∷ drop (suc i) types) bytes) ≡ total
  here lt = ap (λ (is : List ℕ). with_front front (codes_at profile is bytes)) (sym (drop-cons types i 0 lt)) ∙ so_far

  pub code_goes_on : (f : Func) (after : List ℕ) → i < length types → code_at profile (get_or types i 0) bytes ≡ Some (f, after) →
      with_front (front ++ f ∷ []) (codes_at profile (drop (i + 1) types) after) ≡ total
  unfolding codes_at
  code_goes_on f after lt h =
      let one : with_front front (codes_at profile (get_or types i 0 ∷ drop (suc i) types) bytes) ≡
      with_front (front ++ f ∷ []) (codes_at profile (drop (suc i) types) after) =
      rw h (regroup front f (codes_at profile (drop (suc i) types) after)) in
      rw add-one (sym one ∙ here lt)

  pub code_refused : i < length types → code_at profile (get_or types i 0) bytes ≡ None → total ≡ None
  unfolding codes_at
  code_refused lt h =
      let one : with_front front (codes_at profile (get_or types i 0 ∷ drop (suc i) types) bytes) ≡ None = rw h refl in
      sym (here lt) ∙ one

  pub codes_done : length types ≤ i → total ≡ Some (front, bytes)
  unfolding codes_at
  codes_done le =
      let none : drop i types ≡ [] = drop_all i types le in
      sym so_far ∙ ap (λ (is : List ℕ). with_front front (codes_at profile is bytes)) none ∙ ap (λ (fs : List Func). Some (fs, bytes)) (append-nil front)

-- ---- a given text

pub differs : (c b : ℕ) → ¬ (c ≡ b) → eqb c b ≡ false
differs c b ne = decided (eqb c b) refl
  where
    decided : (t : Bool) → eqb c b ≡ t → t ≡ false
    decided true e = absurd (ne (eqb-true c b e))
    decided false e = refl

module _ (text : List ℕ) (i : ℕ) (bytes : List ℕ) (total : Option (Unit {0} × List ℕ)) (lt : i < length text) (so_far : text_at (drop i text) bytes ≡ total)
  where
    next : text_at (get_or text i 0 ∷ drop (suc i) text) bytes ≡ total
    next = ap (λ (t : List ℕ). text_at t bytes) (sym (drop-cons text i 0 lt)) ∙ so_far

    pub text_goes_on : (b : ℕ) (after : List ℕ) → byte_at bytes ≡ Some (b, after) → b ≡ get_or text i 0 → text_at (drop (i + 1) text) after ≡ total
    text_goes_on b after h e =
        let one : text_at (get_or text i 0 ∷ drop (suc i) text) bytes ≡ text_at (drop (suc i) text) after = rw (h, eq-eqb b (get_or text i 0) e) refl in
        rw add-one (sym one ∙ next)

    pub text_ended : byte_at bytes ≡ None → total ≡ None
    text_ended h =
        let one : text_at (get_or text i 0 ∷ drop (suc i) text) bytes ≡ None = rw h refl in
        sym next ∙ one

    pub text_differs : (b : ℕ) (after : List ℕ) → byte_at bytes ≡ Some (b, after) → ¬ (b ≡ get_or text i 0) → total ≡ None
    text_differs b after h ne =
        let one : text_at (get_or text i 0 ∷ drop (suc i) text) bytes ≡ None = rw (h, differs b (get_or text i 0) ne) refl in
        sym next ∙ one

pub Fails-weaker : (e : DecodeFault) (P Q : Type 0) → (P → Q) → Fails e P → Fails e Q
Fails-weaker Memory P Q f h = tt
Fails-weaker (Malformed kind offset) P Q f h = f h
