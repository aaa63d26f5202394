-- The name of the next reduction, by what a stepper has.
use Rattle.std.proofs.Common.{◌≡◌, ◌≢◌, ◌<◌, ◌≤◌, ℕ, true, List, [], ◌∷◌, Option, Some, None, option_map, Bor, refl, sym, ap, ◌∙◌, subst, arith, inl, inr}
use Rattle.std.specs.Prelude.{is_some, slice_get}
use Rattle.std.proofs.lemmas.Bool.{cases_lt}
use Rattle.std.proofs.lemmas.Option.{none-some, same_Some}
use Rattle.wasm_ast.specs.declared.body.Block.{Block}
use Rattle.wasm_ast.specs.declared.body.Instr.{Instr}
use Rattle.wasm_ast.specs.View.{code_of}
use Rattle.wasm_meaning.specs.Values.{Val}
use Rattle.interp.specs.declared.outcome.Outcome.{Outcome}
use Rattle.wasm_trace.specs.declared.configuration.Configuration.{Configuration}
use Rattle.wasm_trace.specs.declared.names.Mnemonic.{Mnemonic}
use Rattle.wasm_trace.specs.declared.parts.Front.{Front}
use Rattle.wasm_trace.specs.declared.parts.Front.TheVariants as front
use Rattle.wasm_trace.specs.Reduction.{Seq, Put, Label, Frame, values, Config}
use Rattle.wasm_trace.specs.Context.{Layer, InLabel, InFrame, wrap, plug}
use Rattle.wasm_trace.specs.Names.{IsNameOf, Named, next_name, text_of}
use Rattle.wasm_trace.specs.Standing.{IsShownOf}
use Rattle.wasm_trace.specs.View.{stack_of, plain_of, before, layers, config, seq_of, IsFree}
use Rattle.wasm_trace.proofs.Stepped.{fuel_of}

-- an instruction of a known form
pub name_by : (x y : Instr) (name : List ℕ) → x ≡ y → IsNameOf y name → IsNameOf x name
name_by x y name e h = subst (λ (x : Instr). IsNameOf x name) (sym e) h

-- behind values
name_behind : (s : List Val) (i : Seq) → next_name (values s i) ≡ next_name i
name_behind [] i = refl
name_behind (x ∷ s) i = name_behind s (Put x i)

-- within labels and frames
name_within : {R : Type 0} (ks : List Layer) (x : Config R) → next_name (plug ks x).seq ≡ next_name x.seq
name_within [] x = refl
name_within (InLabel t c s i ∷ ks) x = name_within ks (wrap (InLabel t c s i) x) ∙ name_behind s (Label t c x.seq i)
name_within (InFrame t l s i ∷ ks) x = name_within ks (wrap (InFrame t l s i) x) ∙ name_behind s (Frame t x.locals x.seq i)

-- in a configuration, that of what stands before its instructions
pub name_front : (m : Configuration) (fr : Front) → m.front ≡ fr → next_name (seq_of m) ≡ next_name (before fr (plain_of m.code.now))
name_front m fr e =
    name_within (layers m.levels.items) _ ∙ name_behind (stack_of m.stack.items) (before m.front (plain_of m.code.now)) ∙
    ap (λ (fr : Front). next_name (before fr (plain_of m.code.now))) e

-- or that of the first of them
first_name : (is : List Instr) (x : Instr) (name : List ℕ) → Some x ≡ slice_get is 0 → IsNameOf x name → next_name (plain_of is) ≡ Some name
first_name [] x name e h = absurd (none-some x (sym e))
first_name (y ∷ is) x name e h = name_by y x name (sym (same_Some x y e)) h (code_of is)

pub name_first : (m : Configuration) (x : Instr) (name : List ℕ) → m.front ≡ front.Nothing → Some x ≡ slice_get m.code.now 0 → IsNameOf x name →
    next_name (seq_of m) ≡ Some name
name_first m x name e q h = name_front m front.Nothing e ∙ first_name m.code.now x name q h

no_first : (is : List Instr) → None ≡ slice_get is 0 → is ≡ []
no_first [] e = refl
no_first (x ∷ is) e = absurd (none-some x e)

pub name_none : (m : Configuration) → m.front ≡ front.Nothing → None ≡ slice_get m.code.now 0 → next_name (seq_of m) ≡ None
name_none m e q = name_front m front.Nothing e ∙ ap (λ (is : List Instr). next_name (plain_of is)) (no_first m.code.now q)

pub free_none : (m : Configuration) → m.front ≡ front.Nothing → None ≡ slice_get m.code.now 0 → IsFree m.front m.code.now
free_none m e q = subst (λ (fr : Front). IsFree fr m.code.now) (sym e) (no_first m.code.now q)

-- anything else
pub free_else : (fr : Front) (is : List Instr) → fr ≢ front.Nothing → ((b : Bor Block) → fr ≡ front.Again b → ⊥) → IsFree fr is
free_else front.Nothing is n a = absurd (n refl)
free_else (front.Branch k) is n a = tt
free_else (front.Set k) is n a = tt
free_else (front.Body t b) is n a = tt
free_else (front.Again b) is n a = absurd (a b refl)
free_else (front.Invoke t fn) is n a = tt
free_else (front.Trap why) is n a = tt

free_name : (fr : Front) (i : Seq) → fr ≢ front.Nothing → ((b : Bor Block) → fr ≡ front.Again b → ⊥) → next_name (before fr i) ≡ None
free_name front.Nothing i n a = absurd (n refl)
free_name (front.Branch k) i n a = refl
free_name (front.Set k) i n a = refl
free_name (front.Body t b) i n a = refl
free_name (front.Again b) i n a = absurd (a b refl)
free_name (front.Invoke t fn) i n a = refl
free_name (front.Trap why) i n a = refl

pub name_else : (m : Configuration) → m.front ≢ front.Nothing → ((b : Bor Block) → m.front ≡ front.Again b → ⊥) → next_name (seq_of m) ≡ None
name_else m n a = name_front m m.front refl ∙ free_name m.front (plain_of m.code.now) n a

-- what a step shows, by its name, which is missing only where it costs nothing
shows_name : (i : Seq) (fuel left : ℕ) (name : Option Mnemonic) → option_map text_of name ≡ next_name i → (name ≡ None → left ≡ fuel) → left < fuel →
    Named i fuel left (option_map text_of name)
shows_name i fuel left None e free less = let h : left ≡ fuel = free refl in absurd (omega (arith, less, h))
shows_name i fuel left (Some m) e free less = (less, sym e)

shows_on : (o : Option Outcome) (x : Config (Unit {0})) (left : ℕ) (name shown : Option Mnemonic) → option_map text_of name ≡ next_name x.seq →
    (name ≡ None → left ≡ x.fuel) → (o ≢ None → shown ≡ None) → (o ≡ None → left < x.fuel → shown ≡ name) → (x.fuel ≤ left → shown ≡ None) →
    IsShownOf o x left (option_map text_of shown)
shows_on (Some o) x left name shown e free ends names frees = ap (option_map text_of) (ends (λ h. none-some o (sym h)))
shows_on None x left name shown e free ends names frees = elim (cases_lt left x.fuel) [
  | inl less ↦ subst (λ (s : Option Mnemonic). Named x.seq x.fuel left (option_map text_of s)) (sym (names refl less))
      (shows_name x.seq x.fuel left name e free less)
  | inr past ↦ subst (λ (s : Option Mnemonic). Named x.seq x.fuel left (option_map text_of s)) (sym (frees past)) past
]

pub shows_step : (c c' : Configuration) (o : Option Outcome) (name shown : Option Mnemonic) → option_map text_of name ≡ next_name (seq_of c) →
    (name ≡ None → IsFree c.front c.code.now) → (IsFree c.front c.code.now → c'.fuel ≡ c.fuel) → (o ≢ None → shown ≡ None) →
    (o ≡ None → c'.fuel < c.fuel → shown ≡ name) → (c.fuel ≤ c'.fuel → shown ≡ None) →
    IsShownOf o (config c (tt {0})) (config c' (tt {0})).fuel (option_map text_of shown)
shows_step c c' o name shown e none free ends names frees =
    let f = fuel_of c (tt {0}) in
    let f' = fuel_of c' (tt {0}) in
    shows_on o (config c (tt {0})) (config c' (tt {0})).fuel name shown e (λ h. f' ∙ free (none h) ∙ sym f) ends
    (λ (h : o ≡ None) (less : (config c' (tt {0})).fuel < (config c (tt {0})).fuel). names h (omega (arith, less, f, f')))
    (λ (past : (config c (tt {0})).fuel ≤ (config c' (tt {0})).fuel). frees (omega (arith, past, f, f')))

-- nothing is shown once a run has ended
pub shows_ended : (o : Option Outcome) (x : Config (Unit {0})) (left : ℕ) → is_some o ≡ true → IsShownOf o x left None
shows_ended None x left e = cc
shows_ended (Some o) x left e = refl
