-- Code that breaks a rule with a fault of its own has no typing.
use Rattle.std.proofs.Common.{◌≡◌, sym, ap, ◌∙◌, true≢false, arith, inl, inr, ℕ, List, [], ◌∷◌, ◌++◌, Option, Some, None}
use Rattle.std.specs.Prelude.{true, false}
use Rattle.wasm_ast.specs.declared.types.ValueType.{ValueType}
use Rattle.wasm_ast.specs.declared.types.GlobalType.{GlobalType}
use Rattle.wasm_ast.specs.Op.{Op, Br, BrIf, BrTable, Call, CallIndirect, LocalGet, LocalSet, LocalTee, GlobalGet, GlobalSet, MemorySize, MemoryGrow, Load}
use Rattle.wasm_ast.specs.Op.{Store}
use Rattle.wasm_ast.specs.Code.{BlockType, Code, End, Do, Block, Loop, If}
use Rattle.wasm_typing.specs.declared.fault.ValidateFault.{ValidateFault}
use Rattle.wasm_typing.specs.declared.fault.ValidateFault.TheVariants as fault
use Rattle.wasm_typing.specs.Typing.{Context, at, under, results, EachLabel, TypingRule, Types}
use Rattle.wasm_typing.specs.Breaks.{AnyMissing, NamesMissing, SetsConstant, OverAligned, Breaks, BreaksIn}

some_same : {A : Type 0} (o : Option A) (a b : A) → o ≡ Some a → o ≡ Some b → a ≡ b
some_same o a b e h = cc

none_some : {A : Type 0} (o : Option A) (a : A) → o ≡ None → o ≡ Some a → ⊥
none_some o a e h = cc

any_each : (c : Context) (ns : List ℕ) (l : BlockType) → AnyMissing c.labels ns → ¬ EachLabel c ns l
any_each c [] l m h = m
any_each c (n ∷ ns) l (inl e) h = none_some (at c.labels n) l e h.0
any_each c (n ∷ ns) l (inr m) h = any_each c ns l m h.1

names_no_rule : (c : Context) (o : Op) (ins outs : List ValueType) → NamesMissing c o → ¬ TypingRule c o ins outs
names_no_rule c (Br n) ins outs m r = none_some (at c.labels n) r.0 m r.1
names_no_rule c (BrIf n) ins outs m r = none_some (at c.labels n) r.0 m r.1
names_no_rule c (BrTable ns n) ins outs (inl m) r = none_some (at c.labels n) r.0 m r.1
names_no_rule c (BrTable ns n) ins outs (inr m) r = any_each c ns r.0 m r.2
names_no_rule c (Call f) ins outs m r = none_some (at c.functions f) r.0 m r.1
names_no_rule c (LocalGet x) ins outs m r = none_some (at c.locals x) r.0 m r.1
names_no_rule c (LocalSet x) ins outs m r = none_some (at c.locals x) r.0 m r.1
names_no_rule c (LocalTee x) ins outs m r = none_some (at c.locals x) r.0 m r.1
names_no_rule c (CallIndirect x) ins outs (inl m) r = none_some (at c.tables 0) r.0 m r.1
names_no_rule c (CallIndirect x) ins outs (inr m) r = none_some (at c.types x) r.2 m r.3
names_no_rule c (GlobalGet x) ins outs m r = none_some (at c.globals x) r.0 m r.1
names_no_rule c (GlobalSet x) ins outs m r = none_some (at c.globals x) r.0 m r.1
names_no_rule c (Load o align offset) ins outs m r = none_some (at c.memories 0) r.0 m r.1
names_no_rule c (Store o align offset) ins outs m r = none_some (at c.memories 0) r.0 m r.1
names_no_rule c MemorySize ins outs m r = none_some (at c.memories 0) r.0 m r.1
names_no_rule c MemoryGrow ins outs m r = none_some (at c.memories 0) r.0 m r.1
names_no_rule c _ ins outs m r = m

-- a global is not constant and variable
constant_variable : (o : Option GlobalType) (g h : GlobalType) → o ≡ Some g → o ≡ Some h → g.is_variable ≡ false → h.is_variable ≡ true → ⊥
constant_variable o g h e e' f t =
    let same : g ≡ h = some_same o g h e e' in true≢false (sym t ∙ sym (ap (λ (g : GlobalType). g.is_variable) same) ∙ f)

sets_no_rule : (c : Context) (o : Op) (ins outs : List ValueType) → SetsConstant c o → ¬ TypingRule c o ins outs
sets_no_rule c (GlobalSet x) ins outs m r = constant_variable (at c.globals x) m.0 r.0 m.1 r.1 m.2 r.2
sets_no_rule c _ ins outs m r = m

aligned_no_rule : (c : Context) (o : Op) (ins outs : List ValueType) → OverAligned c o → ¬ TypingRule c o ins outs
aligned_no_rule c (Load o align offset) ins outs m r = omega (arith, m, r.2)
aligned_no_rule c (Store o align offset) ins outs m r = omega (arith, m, r.2)
aligned_no_rule c _ ins outs m r = m

breaks_no_rule : (e : ValidateFault) (c : Context) (o : Op) (ins outs : List ValueType) → Breaks e c o → ¬ TypingRule c o ins outs
breaks_no_rule fault.Index c o ins outs m r = names_no_rule c o ins outs m r
breaks_no_rule fault.ImmutableGlobal c o ins outs m r = sets_no_rule c o ins outs m r
breaks_no_rule fault.Alignment c o ins outs m r = aligned_no_rule c o ins outs m r
breaks_no_rule _ c o ins outs m r = m

pub broken_is_untyped : (e : ValidateFault) (c : Context) (code : Code) (from to : List ValueType) → BreaksIn e c code → ¬ Types c code from to
broken_is_untyped e c End from to m h = m
broken_is_untyped e c (Do o rest) from to (inl m) h = breaks_no_rule e c o h.0 h.1 m h.3
broken_is_untyped e c (Do o rest) from to (inr m) h = broken_is_untyped e c rest (h.1 ++ h.2) to m h.5
broken_is_untyped e c (Block t b rest) from to (inl m) h = broken_is_untyped e (under t c) b [] (results t) m h.0
broken_is_untyped e c (Block t b rest) from to (inr m) h = broken_is_untyped e c rest (results t ++ from) to m h.1
broken_is_untyped e c (Loop t b rest) from to (inl m) h = broken_is_untyped e (under None c) b [] (results t) m h.0
broken_is_untyped e c (Loop t b rest) from to (inr m) h = broken_is_untyped e c rest (results t ++ from) to m h.1
broken_is_untyped e c (If t a b rest) from to (inl (inl m)) h = broken_is_untyped e (under t c) a [] (results t) m h.2
broken_is_untyped e c (If t a b rest) from to (inl (inr m)) h = broken_is_untyped e (under t c) b [] (results t) m h.3
broken_is_untyped e c (If t a b rest) from to (inr m) h = broken_is_untyped e c rest (results t ++ h.0) to m h.4
