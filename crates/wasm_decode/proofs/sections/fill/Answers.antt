use Rattle.wasm_decode.specs.PartsOf.{with_types, with_imports, with_type_indices, with_tables, with_memories, with_globals, with_exports, with_elements}
use Rattle.wasm_decode.specs.PartsOf.{with_data}
use Rattle.wasm_decode.proofs.Made.{made}
use Rattle.wasm_decode.proofs.sections.fill.Goals as goal

pub returns-in-Types-clause-read : goal.returns-in-Types-clause-read
returns-in-Types-clause-read c =
    rw c.in-Types.is (made (with_types c.args.parts.now) (λ _. c.refill.new.items) c.refill.result c.refill.new.cursor _ c.refill.ensures.read)

pub returns-in-Imports-clause-read : goal.returns-in-Imports-clause-read
returns-in-Imports-clause-read c =
    rw c.in-Imports.is (made (with_imports c.args.parts.now) (λ _. c.refill_part.new.items) c.refill_part.result c.refill_part.new.cursor _
    c.refill_part.ensures.read)

pub returns-in-TypeIndices-clause-read : goal.returns-in-TypeIndices-clause-read
returns-in-TypeIndices-clause-read c =
    rw c.in-TypeIndices.is (made (with_type_indices c.args.parts.now) (λ _. c.refill-in-TypeIndices.new.items) c.refill-in-TypeIndices.result
    c.refill-in-TypeIndices.new.cursor _ c.refill-in-TypeIndices.ensures.read)

pub returns-in-Tables-clause-read : goal.returns-in-Tables-clause-read
returns-in-Tables-clause-read c =
    rw c.in-Tables.is (made (with_tables c.args.parts.now) (λ _. c.refill_part-in-Tables.new.items) c.refill_part-in-Tables.result
    c.refill_part-in-Tables.new.cursor _ c.refill_part-in-Tables.ensures.read)

pub returns-in-Memories-clause-read : goal.returns-in-Memories-clause-read
returns-in-Memories-clause-read c =
    rw c.in-Memories.is (made (with_memories c.args.parts.now) (λ _. c.refill_part-in-Memories.new.items) c.refill_part-in-Memories.result
    c.refill_part-in-Memories.new.cursor _ c.refill_part-in-Memories.ensures.read)

pub returns-in-Globals-clause-read : goal.returns-in-Globals-clause-read
returns-in-Globals-clause-read c =
    rw c.in-Globals.is (made (with_globals c.args.parts.now) (λ _. c.refill_part-in-Globals.new.items) c.refill_part-in-Globals.result
    c.refill_part-in-Globals.new.cursor _ c.refill_part-in-Globals.ensures.read)

pub returns-in-Exports-clause-read : goal.returns-in-Exports-clause-read
returns-in-Exports-clause-read c =
    rw c.in-Exports.is (made (with_exports c.args.parts.now) (λ _. c.refill_part-in-Exports.new.items) c.refill_part-in-Exports.result
    c.refill_part-in-Exports.new.cursor _ c.refill_part-in-Exports.ensures.read)

pub returns-in-Elements-clause-read : goal.returns-in-Elements-clause-read
returns-in-Elements-clause-read c =
    rw c.in-Elements.is (made (with_elements c.args.parts.now) (λ _. c.refill_part-in-Elements.new.items) c.refill_part-in-Elements.result
    c.refill_part-in-Elements.new.cursor _ c.refill_part-in-Elements.ensures.read)

pub returns-in-Data-clause-read : goal.returns-in-Data-clause-read
returns-in-Data-clause-read c =
    rw c.in-Data.is (made (with_data c.args.parts.now) (λ _. c.refill_part-in-Data.new.items) c.refill_part-in-Data.result c.refill_part-in-Data.new.cursor _
    c.refill_part-in-Data.ensures.read)

pub returns-in-Functions-clause-read : goal.returns-in-Functions-clause-read
returns-in-Functions-clause-read c = rw c.in-Functions.is c.refill_functions.ensures.read
