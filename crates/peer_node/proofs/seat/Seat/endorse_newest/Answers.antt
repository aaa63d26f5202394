use Rattle.std.proofs.Common.{rules, ◌≡◌, ◌∙◌, sym, subst}
use mathlib.Core.List.{IsPrefix}
use Rattle.std.specs.Arc.{arc_value}
use Rattle.ledger_model.specs.Chain.{Chain}
use Rattle.snapshot_cell.specs.Seats.{seen_list}
use Rattle.peer_node.specs.Seats.{seen_chain, endorsing_of}
use Rattle.peer_node.proofs.Refusing.{not_taken, not_endorsed, endorsed}
use Rattle.peer_node.proofs.seat.Seat.endorse_newest.Goals as goal

pub returns-in_err-newest-clause-refused : goal.returns-in_err-newest-clause-refused
returns-in_err-newest-clause-refused c =
    not_taken (seen_chain c.args.self.now) (seen_list c.take.new.self) c.args.payload.now c.in_err-newest.field-0.0 c.from_residual.result
    (search rules) c.in_err-newest.ensures.refused

pub returns-clause-endorsed : goal.returns-clause-endorsed
returns-clause-endorsed c =
    let before = seen_chain c.args.self.now in
    let taken = c.in_ok-newest.ensures.taken in
    let shown : c.deref.result.now ≡ arc_value c.in_ok-newest.newest = search rules in
    let begins = subst (λ (l : Chain). IsPrefix before l) (sym shown) taken.0 in
    endorsed (endorsing_of c.args.self.now) before (seen_list c.take.new.self) c.deref.result.now c.args.payload.now c.endorse_on.result begins (taken.1 ∙ sym shown)
    c.endorse_on.ensures.endorsed

pub returns-clause-refused : goal.returns-clause-refused
returns-clause-refused c =
    let before = seen_chain c.args.self.now in
    let taken = c.in_ok-newest.ensures.taken in
    let shown : c.deref.result.now ≡ arc_value c.in_ok-newest.newest = search rules in
    let begins = subst (λ (l : Chain). IsPrefix before l) (sym shown) taken.0 in
    not_endorsed before (seen_list c.take.new.self) c.deref.result.now c.args.payload.now c.endorse_on.result begins (taken.1 ∙ sym shown)
    c.endorse_on.ensures.refused
