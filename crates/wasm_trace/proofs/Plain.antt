-- Instructions by what they read and change.
use Rattle.std.proofs.Common.{◌≡◌, ℕ, Box, Global, List, Result, refl, ap, ◌∙◌}
use Rattle.std.specs.Prelude.{IfOk}
use Rattle.std.proofs.lemmas.Result.{IfOk-weaker}
use Rattle.wasm_ast.specs.declared.body.Instr.{Instr}
use Rattle.wasm_ast.specs.declared.body.Instr.TheVariants as instr
use Rattle.wasm_ast.specs.declared.body.Block.{Block}
use Rattle.wasm_ast.specs.declared.body.Conditional.{Conditional}
use Rattle.wasm_ast.specs.declared.body.BranchTable.{BranchTable}
use Rattle.wasm_ast.specs.declared.body.MemoryArgument.{MemoryArgument}
use Rattle.wasm_ast.specs.declared.operators.LoadOp.{LoadOp}
use Rattle.wasm_ast.specs.declared.operators.StoreOp.{StoreOp}
use Rattle.wasm_ast.specs.declared.operators.UnaryOp.{UnaryOp}
use Rattle.wasm_ast.specs.declared.operators.CompareOp.{CompareOp}
use Rattle.wasm_ast.specs.declared.operators.BinaryOp.{BinaryOp}
use Rattle.wasm_ast.specs.declared.operators.ConvertOp.{ConvertOp}
use Rattle.wasm_ast.specs.Op.{Op}
use Rattle.wasm_ast.specs.Code as tree
use Rattle.wasm_ast.specs.Code.{Code}
use Rattle.wasm_ast.specs.View.{then_code}
use Rattle.wasm_trace.specs.declared.parts.Value.{Value}
use Rattle.wasm_trace.specs.declared.parts.Turn.{Turn}
use Rattle.wasm_trace.specs.Reduction.{Nil, plain}
use Rattle.wasm_trace.specs.View.{stack_of, paid_step, OnStack}
use Rattle.wasm_trace.specs.Plain.{OnValues, Becomes, IsOnValues}
use Rattle.wasm_trace.proofs.Executing.{by}

pub becomes : (x : Instr) → ((b : Box Block Global) → x ≡ instr.Block b → ⊥) → ((b : Box Block Global) → x ≡ instr.Loop b → ⊥) →
    ((b : Box Conditional Global) → x ≡ instr.If b → ⊥) → ((k : ℕ) → x ≡ instr.Br k → ⊥) → (x ≡ instr.Return → ⊥) → Becomes x
becomes (instr.Block b) block loop if br ret = block b refl
becomes (instr.Loop b) block loop if br ret = loop b refl
becomes (instr.If b) block loop if br ret = if b refl
becomes (instr.Br k) block loop if br ret = br k refl
becomes instr.Return block loop if br ret = ret refl
becomes _ block loop if br ret = tt

pub is_on_values : (x : Instr) → Becomes x → ((k : ℕ) → x ≡ instr.Call k → ⊥) → ((k : ℕ) → x ≡ instr.CallIndirect k → ⊥) →
    ((k : ℕ) → x ≡ instr.LocalGet k → ⊥) → ((k : ℕ) → x ≡ instr.LocalSet k → ⊥) → ((k : ℕ) → x ≡ instr.GlobalGet k → ⊥) →
    ((k : ℕ) → x ≡ instr.GlobalSet k → ⊥) → ((o : LoadOp) (a : MemoryArgument) → x ≡ instr.Load o a → ⊥) →
    ((o : StoreOp) (a : MemoryArgument) → x ≡ instr.Store o a → ⊥) → (x ≡ instr.MemorySize → ⊥) → (x ≡ instr.MemoryGrow → ⊥) → IsOnValues x
is_on_values (instr.Block b) h _ _ _ _ _ _ _ _ _ _ = h
is_on_values (instr.Loop b) h _ _ _ _ _ _ _ _ _ _ = h
is_on_values (instr.If b) h _ _ _ _ _ _ _ _ _ _ = h
is_on_values (instr.Br k) h _ _ _ _ _ _ _ _ _ _ = h
is_on_values instr.Return h _ _ _ _ _ _ _ _ _ _ = h
is_on_values (instr.Call k) h call _ _ _ _ _ _ _ _ _ = call k refl
is_on_values (instr.CallIndirect k) h _ call _ _ _ _ _ _ _ _ = call k refl
is_on_values (instr.LocalGet k) h _ _ get _ _ _ _ _ _ _ = get k refl
is_on_values (instr.LocalSet k) h _ _ _ set _ _ _ _ _ _ = set k refl
is_on_values (instr.GlobalGet k) h _ _ _ _ get _ _ _ _ _ = get k refl
is_on_values (instr.GlobalSet k) h _ _ _ _ _ set _ _ _ _ = set k refl
is_on_values (instr.Load o a) h _ _ _ _ _ _ load _ _ _ = load o a refl
is_on_values (instr.Store o a) h _ _ _ _ _ _ _ store _ _ = store o a refl
is_on_values instr.MemorySize h _ _ _ _ _ _ _ _ size _ = size refl
is_on_values instr.MemoryGrow h _ _ _ _ _ _ _ _ _ grow = grow refl
is_on_values _ h _ _ _ _ _ _ _ _ _ _ = tt

-- no other instruction is left
pub no_other : (x : Instr) → IsOnValues x → (x ≡ instr.Unreachable → ⊥) → (x ≡ instr.Nop → ⊥) → ((k : ℕ) → x ≡ instr.BrIf k → ⊥) →
    ((t : Box BranchTable Global) → x ≡ instr.BrTable t → ⊥) → (x ≡ instr.Drop → ⊥) → (x ≡ instr.Select → ⊥) → ((k : ℕ) → x ≡ instr.LocalTee k → ⊥) →
    ((n : ℕ) → x ≡ instr.I32Const n → ⊥) → ((n : ℕ) → x ≡ instr.I64Const n → ⊥) → (x ≡ instr.I32Eqz → ⊥) → (x ≡ instr.I64Eqz → ⊥) →
    ((o : CompareOp) → x ≡ instr.I32Compare o → ⊥) → ((o : CompareOp) → x ≡ instr.I64Compare o → ⊥) → ((o : UnaryOp) → x ≡ instr.I32Unary o → ⊥) →
    ((o : UnaryOp) → x ≡ instr.I64Unary o → ⊥) → ((o : BinaryOp) → x ≡ instr.I32Binary o → ⊥) → ((o : BinaryOp) → x ≡ instr.I64Binary o → ⊥) →
    ((o : ConvertOp) → x ≡ instr.Convert o → ⊥) → ⊥
no_other (instr.Block b) h _ _ _ _ _ _ _ _ _ _ _ _ _ _ _ _ _ _ = h
no_other (instr.Loop b) h _ _ _ _ _ _ _ _ _ _ _ _ _ _ _ _ _ _ = h
no_other (instr.If b) h _ _ _ _ _ _ _ _ _ _ _ _ _ _ _ _ _ _ = h
no_other (instr.Br k) h _ _ _ _ _ _ _ _ _ _ _ _ _ _ _ _ _ _ = h
no_other instr.Return h _ _ _ _ _ _ _ _ _ _ _ _ _ _ _ _ _ _ = h
no_other (instr.Call k) h _ _ _ _ _ _ _ _ _ _ _ _ _ _ _ _ _ _ = h
no_other (instr.CallIndirect k) h _ _ _ _ _ _ _ _ _ _ _ _ _ _ _ _ _ _ = h
no_other (instr.LocalGet k) h _ _ _ _ _ _ _ _ _ _ _ _ _ _ _ _ _ _ = h
no_other (instr.LocalSet k) h _ _ _ _ _ _ _ _ _ _ _ _ _ _ _ _ _ _ = h
no_other (instr.GlobalGet k) h _ _ _ _ _ _ _ _ _ _ _ _ _ _ _ _ _ _ = h
no_other (instr.GlobalSet k) h _ _ _ _ _ _ _ _ _ _ _ _ _ _ _ _ _ _ = h
no_other (instr.Load o a) h _ _ _ _ _ _ _ _ _ _ _ _ _ _ _ _ _ _ = h
no_other (instr.Store o a) h _ _ _ _ _ _ _ _ _ _ _ _ _ _ _ _ _ _ = h
no_other instr.MemorySize h _ _ _ _ _ _ _ _ _ _ _ _ _ _ _ _ _ _ = h
no_other instr.MemoryGrow h _ _ _ _ _ _ _ _ _ _ _ _ _ _ _ _ _ _ = h
no_other instr.Unreachable h n _ _ _ _ _ _ _ _ _ _ _ _ _ _ _ _ _ = n refl
no_other instr.Nop h _ n _ _ _ _ _ _ _ _ _ _ _ _ _ _ _ _ = n refl
no_other (instr.BrIf k) h _ _ n _ _ _ _ _ _ _ _ _ _ _ _ _ _ _ = n k refl
no_other (instr.BrTable t) h _ _ _ n _ _ _ _ _ _ _ _ _ _ _ _ _ _ = n t refl
no_other instr.Drop h _ _ _ _ n _ _ _ _ _ _ _ _ _ _ _ _ _ = n refl
no_other instr.Select h _ _ _ _ _ n _ _ _ _ _ _ _ _ _ _ _ _ = n refl
no_other (instr.LocalTee k) h _ _ _ _ _ _ n _ _ _ _ _ _ _ _ _ _ _ = n k refl
no_other (instr.I32Const k) h _ _ _ _ _ _ _ n _ _ _ _ _ _ _ _ _ _ = n k refl
no_other (instr.I64Const k) h _ _ _ _ _ _ _ _ n _ _ _ _ _ _ _ _ _ = n k refl
no_other instr.I32Eqz h _ _ _ _ _ _ _ _ _ n _ _ _ _ _ _ _ _ = n refl
no_other instr.I64Eqz h _ _ _ _ _ _ _ _ _ _ n _ _ _ _ _ _ _ = n refl
no_other (instr.I32Compare o) h _ _ _ _ _ _ _ _ _ _ _ n _ _ _ _ _ _ = n o refl
no_other (instr.I64Compare o) h _ _ _ _ _ _ _ _ _ _ _ _ n _ _ _ _ _ = n o refl
no_other (instr.I32Unary o) h _ _ _ _ _ _ _ _ _ _ _ _ _ n _ _ _ _ = n o refl
no_other (instr.I64Unary o) h _ _ _ _ _ _ _ _ _ _ _ _ _ _ n _ _ _ = n o refl
no_other (instr.I32Binary o) h _ _ _ _ _ _ _ _ _ _ _ _ _ _ _ n _ _ = n o refl
no_other (instr.I64Binary o) h _ _ _ _ _ _ _ _ _ _ _ _ _ _ _ _ n _ = n o refl
no_other (instr.Convert o) h _ _ _ _ _ _ _ _ _ _ _ _ _ _ _ _ _ n = n o refl

-- what an instruction of a known form becomes
module _ (R : Type 0) (x y : Instr) (o : Op) (vs vs' : List Value) (e : x ≡ y) (form : (c : Code) → then_code y c ≡ tree.Do o c) where
  pub turns : (t : Turn) → OnStack R o vs vs' t → OnValues R x vs vs' t
  turns t h = λ p f l w c.
      by p x y f l w (stack_of vs) c _ e (ap (λ d. paid_step p f l w (stack_of vs) (plain d Nil)) (form c) ∙ h p f l w (plain c Nil))

  pub turns_ok : {E : Type 0} (r : Result Turn E) → IfOk r (λ t. OnStack R o vs vs' t) → IfOk r (λ t. OnValues R x vs vs' t)
  turns_ok r h = IfOk-weaker r _ _ turns h
