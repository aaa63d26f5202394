-- Instructions with none inside, and those among them that can break no rule with a fault of its own.
use Rattle.std.proofs.Common.{◌≡◌, refl, sym, subst, true≢false, Option, Result, Ok, Err, Box, Global}
use Rattle.std.specs.Prelude.{Bool, true, false, IfErr}
use Rattle.wasm_ast.specs.declared.body.Block.{Block}
use Rattle.wasm_ast.specs.declared.body.Conditional.{Conditional}
use Rattle.wasm_ast.specs.declared.body.Instr.{Instr}
use Rattle.wasm_ast.specs.declared.body.Instr.TheVariants as instr
use Rattle.wasm_ast.specs.Code.{End}
use Rattle.wasm_ast.specs.View.{then_code}
use Rattle.wasm_typing.specs.declared.fault.ValidateFault.{ValidateFault}
use Rattle.wasm_typing.specs.declared.fault.ValidateFault.TheVariants as fault
use Rattle.wasm_typing.specs.Typing.{Context}
use Rattle.wasm_typing.specs.Operands.{Operands}
use Rattle.wasm_typing.specs.Algorithm.{instruction}
use Rattle.wasm_typing.specs.Breaks.{BreaksInstr}
use Rattle.wasm_typing.specs.Refused.{Refused}
use Rattle.wasm_typing.specs.Mistyped.{Mismatch, MistypedFirst}
use Rattle.wasm_typing.specs.Plain.{is_plain}

pub plain_unless : (i : Instr) → ((b : Box Block Global) → i ≡ instr.Block b → ⊥) → ((b : Box Block Global) → i ≡ instr.Loop b → ⊥) →
    ((b : Box Conditional Global) → i ≡ instr.If b → ⊥) → is_plain i ≡ true
plain_unless (instr.Block b) block loop choice = absurd (block b refl)
plain_unless (instr.Loop b) block loop choice = absurd (loop b refl)
plain_unless (instr.If b) block loop choice = absurd (choice b refl)
plain_unless instr.Unreachable block loop choice = refl
plain_unless _ block loop choice = refl

-- whether no rule with a fault of its own is about the instruction, nor another instruction inside it
abbrev pub keeps_all : Instr → Bool
keeps_all (instr.Block b) = false
keeps_all (instr.Loop b) = false
keeps_all (instr.If b) = false
keeps_all (instr.Br n) = false
keeps_all (instr.BrIf n) = false
keeps_all (instr.BrTable t) = false
keeps_all (instr.Call n) = false
keeps_all (instr.CallIndirect n) = false
keeps_all (instr.LocalGet n) = false
keeps_all (instr.LocalSet n) = false
keeps_all (instr.LocalTee n) = false
keeps_all (instr.GlobalGet n) = false
keeps_all (instr.GlobalSet n) = false
keeps_all (instr.Load o a) = false
keeps_all (instr.Store o a) = false
keeps_all instr.MemorySize = false
keeps_all instr.MemoryGrow = false
keeps_all _ = true

keeps_own : (c : Context) (i : Instr) (s : Operands) → keeps_all i ≡ true → MistypedFirst c (then_code i End) s
keeps_own c (instr.Block b) s h = absurd (true≢false (sym h))
keeps_own c (instr.Loop b) s h = absurd (true≢false (sym h))
keeps_own c (instr.If b) s h = absurd (true≢false (sym h))
keeps_own c (instr.Br n) s h = absurd (true≢false (sym h))
keeps_own c (instr.BrIf n) s h = absurd (true≢false (sym h))
keeps_own c (instr.BrTable t) s h = absurd (true≢false (sym h))
keeps_own c (instr.Call n) s h = absurd (true≢false (sym h))
keeps_own c (instr.CallIndirect n) s h = absurd (true≢false (sym h))
keeps_own c (instr.LocalGet n) s h = absurd (true≢false (sym h))
keeps_own c (instr.LocalSet n) s h = absurd (true≢false (sym h))
keeps_own c (instr.LocalTee n) s h = absurd (true≢false (sym h))
keeps_own c (instr.GlobalGet n) s h = absurd (true≢false (sym h))
keeps_own c (instr.GlobalSet n) s h = absurd (true≢false (sym h))
keeps_own c (instr.Load o a) s h = absurd (true≢false (sym h))
keeps_own c (instr.Store o a) s h = absurd (true≢false (sym h))
keeps_own c instr.MemorySize s h = absurd (true≢false (sym h))
keeps_own c instr.MemoryGrow s h = absurd (true≢false (sym h))
keeps_own c _ s h = (λ x. x, λ x. x, λ x. x)

mismatched : (e : ValidateFault) (P : Type 0) → P → Mismatch e P
mismatched fault.TypeMismatch P p = p
mismatched _ P p = tt

-- what such an instruction is refused for is no rule with a fault of its own
pub plain_keeps : {T : Type 0} (c : Context) (i : Instr) (s : Operands) (r : Result T ValidateFault) → keeps_all i ≡ true →
    IfErr r (λ e. Mismatch e (MistypedFirst c (then_code i End) s))
plain_keeps c i s (Ok x) h = tt
plain_keeps c i s (Err e) h = mismatched e (MistypedFirst c (then_code i End) s) (keeps_own c i s h)

wider : (e : ValidateFault) (P : Type 0) (o : Option Operands) → Refused e ⊥ o → Refused e P o
wider fault.Memory P o h = tt
wider fault.TypeMismatch P o h = h
wider _ P o h = absurd h

-- what refuses it for its operands alone refuses it
pub plain_refused : {T : Type 0} (c : Context) (i j : Instr) (s : Operands) (r : Result T ValidateFault) → i ≡ j →
    IfErr r (λ e. Refused e ⊥ (instruction c j s)) → IfErr r (λ e. Refused e (BreaksInstr e c i) (instruction c i s))
plain_refused c i j s (Ok x) is h = tt
plain_refused c i j s (Err e) is h = wider e (BreaksInstr e c i) (instruction c i s) (subst (λ k. Refused e ⊥ (instruction c k s)) (sym is) h)
