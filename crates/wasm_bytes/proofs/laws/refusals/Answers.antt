use Rattle.wasm_bytes.specs.Refusals.{u32_refusal, s32_refusal, s64_refusal}
use Rattle.wasm_bytes.proofs.laws.refusals.Goals as goal

pub returns : goal.returns
returns c = record { u32 = u32_refusal; i32 = s32_refusal; i64 = s64_refusal }
