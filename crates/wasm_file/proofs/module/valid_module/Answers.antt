use Rattle.std.proofs.Common.{◌≢◌, List, ℕ, Some, Err, inl, inr, length, sym, subst}
use Rattle.std.proofs.lemmas.Result.{err_from_is_err_and}
use Rattle.wasm_profile.specs.declared.profile.Profile.{Profile}
use Rattle.wasm_ast.specs.declared.module.Module.{Module}
use Rattle.wasm_decode.specs.ModuleSpelling.{IsModule}
use Rattle.wasm_decode.specs.Faults.{Says}
use Rattle.wasm_decode.specs.Parses.{Makes}
use Rattle.wasm_decode.specs.declared.fault.DecodeFault.{DecodeFault}
use Rattle.wasm_decode.specs.declared.fault.DecodeFault.TheVariants as decode
use Rattle.wasm_typing.specs.ModuleRules.{IsValid}
use Rattle.wasm_typing.specs.Broken.{Broken}
use Rattle.wasm_typing.specs.declared.fault.ValidateFault.{ValidateFault}
use Rattle.wasm_typing.specs.declared.fault.ValidateFault.TheVariants as validate
use Rattle.wasm_file.specs.Modules.{IsOfRule, NoModule, decode_refusal}
use Rattle.wasm_file.specs.declared.module.ModuleRefusal.{ModuleRefusal}
use Rattle.wasm_file.proofs.module.valid_module.Goals as goal

unread : (profile : Profile) (bytes : List ℕ) (e : DecodeFault) → ((m : Module) → IsModule profile m bytes → Makes (λ x. x) (Err e) (Some m)) →
    Says profile e (length bytes) bytes → NoModule profile bytes (decode_refusal e)
unread profile bytes decode.Memory only says = tt
unread profile bytes (decode.Malformed kind offset) only says = (λ m spelled. let e = only m spelled in cc, says)

unfit : (profile : Profile) (bytes : List ℕ) (m : Module) (e : ValidateFault) (r : ModuleRefusal) → IsModule profile m bytes → Broken e m →
    (e ≢ validate.Memory → ¬ IsValid m) → IsOfRule e r → NoModule profile bytes r
unfit profile bytes m e r is broken refused (inl (other, same)) = rw same (m, is, broken, refused other)
unfit profile bytes m e r is broken refused (inr (want, same)) = rw same tt

pub returns-in_err-module-clause-refused : goal.returns-in_err-module-clause-refused
returns-in_err-module-clause-refused c =
    let p = err_from_is_err_and c.from_residual.result c.from_residual.ensures.1 in
    let e = c.in_err-module.ensures in
    rw (p.1, p.2) (unread c.args.profile c.args.bytes.now _ e.only e.fault)

pub returns-in_err-validate-clause-refused : goal.returns-in_err-validate-clause-refused
returns-in_err-validate-clause-refused c =
    let p = err_from_is_err_and c.from_residual-in_err-validate.result c.from_residual-in_err-validate.ensures.1 in
    let e = c.in_err-validate.ensures in
    rw p.1 (unfit c.args.profile c.args.bytes.now c.in_ok-module.module _ _ c.in_ok-module.ensures.found e.broken e.refused p.2)

pub returns-clause-ok : goal.returns-clause-ok
returns-clause-ok c =
    let same = sym c.in_ok-validate.ensures.value in
    (subst (λ m. IsModule c.args.profile m c.args.bytes.now) same c.in_ok-module.ensures.found, subst IsValid same c.in_ok-validate.ensures.valid)
