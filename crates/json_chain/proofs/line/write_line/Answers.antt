use Rattle.std.proofs.Common.{◌≡◌, ◌∙◌, Option, Some, None, option_map, subst, sym, ap, arith}
use Rattle.serde_json.specs.Data.{Data}
use Rattle.serde_json.specs.View.{view}
use Rattle.serde_json.specs.Written.{has_float}
use Rattle.wire.specs.Ids.{id_of}
use Rattle.ledger_model.specs.State.{write_of}
use Rattle.json_chain.specs.Writes.{IsLineOf, did_json, placed_at}
use Rattle.json_chain.proofs.Depths.{did_low}
use Rattle.json_chain.proofs.Floats.{placed_write_plain}
use Rattle.json_chain.proofs.Written.{of_some}
use Rattle.json_chain.proofs.line.write_line.Goals as goal

pub line_of-requires : goal.line_of-requires
line_of-requires c =
    let placed = c.args.placed.now in
    let t = placed_at placed.envelope.now placed.flag placed.block placed.place in
    let key = c.args.key.now in
    let there : Some (view c.in-Some.value) ≡ option_map (did_json t key) (write_of t key) =
    ap (option_map view) (sym c.in-Some.is) ∙ c.in_ok-value.ensures in
    let found = of_some (did_json t key) (write_of t key) (view c.in-Some.value) there in
    rw found.2 (omega (arith, did_low t key found.0))

pub returns-in_default : goal.returns-in_default
returns-in_default c =
    let placed = c.args.placed.now in
    let t = placed_at placed.envelope.now placed.flag placed.block placed.place in
    let key = c.args.key.now in
    let none : None ≡ option_map (did_json t key) (write_of t key) = ap (option_map view) (sym c.in_default.is) ∙ c.in_ok-value.ensures in
    subst (λ (o : Option Data). IsLineOf o None) none tt

pub returns : goal.returns
returns c =
    let placed = c.args.placed.now in
    let t = placed_at placed.envelope.now placed.flag placed.block placed.place in
    let key = c.args.key.now in
    let there : Some (view c.in-Some.value) ≡ option_map (did_json t key) (write_of t key) =
    ap (option_map view) (sym c.in-Some.is) ∙ c.in_ok-value.ensures in
    let found = of_some (did_json t key) (write_of t key) (view c.in-Some.value) there in
    let plain = ap has_float found.2 ∙ placed_write_plain (id_of t.envelope.payload.proposal) found.0.0.block found.0.0.place key found.0.1 in
    subst (λ (o : Option Data). IsLineOf o (Some c.in_ok-line_of.field-0)) there
    (record { exact = c.in_ok-line_of.ensures.text plain; read = c.in_ok-line_of.ensures.read })
