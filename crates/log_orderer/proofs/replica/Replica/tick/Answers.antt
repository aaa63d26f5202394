use Rattle.std.proofs.Common.{◌∷◌, [], ap, arith, refl}
use Rattle.batch_cutter.specs.Division.{timeout}
use Rattle.log_orderer.specs.Cutting.{AreCut}
use Rattle.log_orderer.proofs.Handing.{hands_out}
use Rattle.log_orderer.proofs.Taking.{front_of, named_of, parted_by_tick, told_of, waits_on}
use Rattle.log_orderer.proofs.replica.Replica.tick.Goals as goal

pub invariant_of-self : goal.invariant_of-self
invariant_of-self c =
    let old = c.self.inside.maker in
    let new = c.tick.new.self in
    let waiting = c.self.inside.waiting.items in
    let takes = rw c.in-Ok-None.field-0-is at c.in-Ok-None.ensures.taken in
    let parted = parted_by_tick old new [] takes waiting c.self.invariant.0 in
    ((told_of old new timeout [] takes waiting [] waiting parted (refl, refl)).1, waits_on old new timeout [] takes)

pub cut-batch-requires-clause-front : goal.cut-batch-requires-clause-front
cut-batch-requires-clause-front c =
    let old = c.self.inside.maker in
    let new = c.tick.new.self in
    let waiting = c.self.inside.waiting.items in
    let reports = c.in-Ok-Some.made.report ∷ [] in
    let takes = rw c.in-Ok-Some.field-0-is at c.in-Ok-Some.ensures.taken in
    (front_of old new timeout reports takes waiting (parted_by_tick old new reports takes waiting c.self.invariant.0)).0

pub cut-batch-requires-clause-room : goal.cut-batch-requires-clause-room
cut-batch-requires-clause-room c =
    let old = c.self.inside.maker in
    let new = c.tick.new.self in
    let waiting = c.self.inside.waiting in
    let reports = c.in-Ok-Some.made.report ∷ [] in
    let takes = rw c.in-Ok-Some.field-0-is at c.in-Ok-Some.ensures.taken in
    let front = front_of old new timeout reports takes waiting.items (parted_by_tick old new reports takes waiting.items c.self.invariant.0) in
    omega (arith, front.0.0, waiting.ok.0, c.len.ensures, c.in_ok-room.ensures.exact)

pub invariant_of-self-in-Ok-Some : goal.invariant_of-self-in-Ok-Some
invariant_of-self-in-Ok-Some c =
    let old = c.self.inside.maker in
    let new = c.tick.new.self in
    let waiting = c.self.inside.waiting.items in
    let reports = c.in-Ok-Some.made.report ∷ [] in
    let takes = rw c.in-Ok-Some.field-0-is at c.in-Ok-Some.ensures.taken in
    let left = c.cut-batch.new.waiting.items in
    let told = c.cut-batch.result in
    let cut : AreCut reports waiting (told ∷ []) left = (told, [], refl, c.cut-batch.ensures.batch, (refl, c.cut-batch.ensures.rest)) in
    let parted = parted_by_tick old new reports takes waiting c.self.invariant.0 in
    ((told_of old new timeout reports takes waiting (told ∷ []) left parted cut).1, waits_on old new timeout reports takes)

pub returns-in-Ok-None-clause-ids : goal.returns-in-Ok-None-clause-ids
returns-in-Ok-None-clause-ids c =
    let old = c.self.inside.maker in
    let new = c.tick.new.self in
    let waiting = c.self.inside.waiting.items in
    let takes = rw c.in-Ok-None.field-0-is at c.in-Ok-None.ensures.taken in
    let parted = parted_by_tick old new [] takes waiting c.self.invariant.0 in
    let told = told_of old new timeout [] takes waiting [] waiting parted (refl, refl) in
    rw (← c.self.view_is) (λ line is. (is, named_of old new timeout [] takes [] told.0))

pub returns-in-Ok-Some-clause-ids : goal.returns-in-Ok-Some-clause-ids
returns-in-Ok-Some-clause-ids c =
    let old = c.self.inside.maker in
    let new = c.tick.new.self in
    let waiting = c.self.inside.waiting.items in
    let reports = c.in-Ok-Some.made.report ∷ [] in
    let takes = rw c.in-Ok-Some.field-0-is at c.in-Ok-Some.ensures.taken in
    let left = c.cut-batch.new.waiting.items in
    let told = c.cut-batch.result in
    let cut : AreCut reports waiting (told ∷ []) left = (told, [], refl, c.cut-batch.ensures.batch, (refl, c.cut-batch.ensures.rest)) in
    let parted = parted_by_tick old new reports takes waiting c.self.invariant.0 in
    let named = (told_of old new timeout reports takes waiting (told ∷ []) left parted cut).0 in
    rw (← c.self.view_is) (λ line is. (is, named_of old new timeout reports takes (told ∷ []) named))

pub returns-in-Ok-Some-clause-blocks : goal.returns-in-Ok-Some-clause-blocks
returns-in-Ok-Some-clause-blocks c =
    let old = c.self.inside.maker in
    let new = c.tick.new.self in
    let made = c.in-Ok-Some.made ∷ [] in
    let longer = rw c.in-Ok-Some.field-0-is at c.in-Ok-Some.ensures.blocks in
    let own = rw c.in-Ok-Some.field-0-is at c.in-Ok-Some.ensures.own in
    let reports = ap (λ r. r ∷ []) c.cut-batch.ensures.batch.0 in
    let blocks = ap (λ b. b ∷ []) c.cut-batch.ensures.block in
    let handed = hands_out old.chain new.chain made (c.cut-batch.result ∷ []) longer own reports blocks in
    rw (← c.self.view_is) (record { chain = handed.0; own = handed.1 })
