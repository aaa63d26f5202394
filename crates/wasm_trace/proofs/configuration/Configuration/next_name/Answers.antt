use Rattle.std.proofs.Common.{Some, sym, ap, ◌∙◌}
use Rattle.wasm_trace.proofs.Naming.{name_front, name_first, name_none, free_none, free_else, name_else}
use Rattle.wasm_trace.proofs.configuration.Configuration.next_name.Goals as goal

pub returns-in-None-clause-names : goal.returns-in-None-clause-names
returns-in-None-clause-names c = sym (name_none c.args.self.now c.in-Nothing.is c.in-None.ensures.value)

pub returns-in-None-clause-free : goal.returns-in-None-clause-free
returns-in-None-clause-free c = λ _. free_none c.args.self.now c.in-Nothing.is c.in-None.ensures.value

pub returns-in-Some-clause-names : goal.returns-in-Some-clause-names
returns-in-Some-clause-names c = sym (name_first c.args.self.now c.in-Some.instr.now _ c.in-Nothing.is c.in-Some.ensures.value c.of.ensures)

pub returns-in-Again-clause-names : goal.returns-in-Again-clause-names
returns-in-Again-clause-names c = ap Some c.of_loop.ensures ∙ sym (name_front c.args.self.now _ c.in-Again.is)

pub returns-in_default-clause-names : goal.returns-in_default-clause-names
returns-in_default-clause-names c = sym (name_else c.args.self.now c.in_default.not-Nothing c.in_default.not-Again)

pub returns-in_default-clause-free : goal.returns-in_default-clause-free
returns-in_default-clause-free c = λ _. free_else c.args.self.now.front c.args.self.now.code.now c.in_default.not-Nothing c.in_default.not-Again
