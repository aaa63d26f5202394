use Rattle.std.proofs.Common.{◌≤◌, ◌∷◌, [], List, length, ap, arith, rules, subst, sym, ◌∙◌}
use Rattle.std.specs.Vec.{vec_capacity}
use Rattle.std.proofs.lemmas.List.{length-append, length-map}
use Rattle.batch_cutter.specs.Division.{message}
use Rattle.orderer.specs.Ordering.{Takes}
use Rattle.orderer.specs.declared.making.Made.{Made}
use Rattle.orderer.specs.declared.report.BatchReport.{BatchReport}
use Rattle.orderer.specs.Headers.{reports_made}
use Rattle.log_orderer.proofs.Handing.{hands_out}
use Rattle.log_orderer.proofs.Taking.{few_of, front_of, named_of, parted_after, told_of, waits_on}
use Rattle.log_orderer.proofs.replica.Replica.accept.Goals as goal

pub cut_each-batches-requires : goal.cut_each-batches-requires
cut_each-batches-requires c =
    let old = c.self.inside.maker in
    let new = c.accept.new.self in
    let e = c.args.envelope in
    let reports = reports_made c.in-Ok-accept.made.items in
    let takes = c.in-Ok-accept.ensures.taken in
    let waiting = c.prepared.new.waiting in
    let more = c.push.new.self.items in
    let id = c.in-Ok.parts.0 in
    let pushed = rw c.unwrap.ensures at c.push.ensures.items in
    let parted = parted_after old new e reports takes waiting.items more id pushed (c.prepared.ensures.same ∙ c.self.invariant.0) c.in-Ok.ensures.id in
    let room = vec_capacity c.in-Ok.parts.1.ids in
    let fits : length more ≤ room =
    omega (
      arith,
      ap length pushed,
      length-append waiting.items (id ∷ []),
      waiting.ok.0,
      c.in-Ok.ensures.place,
      ap length c.prepared.ensures.same,
      c.in-Ok.ensures.ids.1,
    ) in
    let few = few_of old new e reports takes more room c.self.invariant.1 parted fits in
    record {
      front = front_of old new (message e) reports takes more parted;
      two = omega (arith, few.0, length-map c.in-Ok-accept.made.items (λ (m : Made). m.report));
      batches = c.in-Ok.ensures.batches;
      empty = c.in-Ok.ensures.ids.0;
      room = few.1;
    }

pub invariant_of-self-in-Ok-accept : goal.invariant_of-self-in-Ok-accept
invariant_of-self-in-Ok-accept c =
    let old = c.self.inside.maker in
    let new = c.accept.new.self in
    let e = c.args.envelope in
    let reports = reports_made c.in-Ok-accept.made.items in
    let takes = c.in-Ok-accept.ensures.taken in
    let more = c.push.new.self.items in
    let left = c.cut_each-batches.new.waiting.items in
    let pushed = rw c.unwrap.ensures at c.push.ensures.items in
    let parted = parted_after old new e reports takes c.prepared.new.waiting.items more c.in-Ok.parts.0 pushed (c.prepared.ensures.same ∙ c.self.invariant.0)
    c.in-Ok.ensures.id in
    let told = told_of old new (message e) reports takes more c.cut_each-batches.result left parted c.cut_each-batches.ensures.cut in
    (told.1, waits_on old new (message e) reports takes)

pub returns-in-Ok-accept : goal.returns-in-Ok-accept
returns-in-Ok-accept c =
    let old = c.self.inside.maker in
    let new = c.accept.new.self in
    let e = c.args.envelope in
    let reports = reports_made c.in-Ok-accept.made.items in
    let takes = c.in-Ok-accept.ensures.taken in
    let more = c.push.new.self.items in
    let batches = c.cut_each-batches.result in
    let left = c.cut_each-batches.new.waiting.items in
    let pushed = rw c.unwrap.ensures at c.push.ensures.items in
    let parted = parted_after old new e reports takes c.prepared.new.waiting.items more c.in-Ok.parts.0 pushed (c.prepared.ensures.same ∙ c.self.invariant.0)
    c.in-Ok.ensures.id in
    let told = told_of old new (message e) reports takes more batches left parted c.cut_each-batches.ensures.cut in
    let named = named_of old new (message e) reports takes batches told.0 in
    let handed = hands_out old.chain new.chain c.in-Ok-accept.made.items batches c.in-Ok-accept.ensures.blocks c.in-Ok-accept.ensures.own told.2 c.cut_each-batches.ensures.blocks in
    rw (← c.self.view_is) (record {
      answers = (
        subst (λ (rs : List BatchReport). Takes old (message e) rs new) (sym told.2) takes,
        λ large. omega (arith, large, c.in-Ok-accept.ensures.size),
        c.in-Ok-accept.ensures.numbers,
      );
      ids = λ line is. (e, is, c.in-Ok.ensures.id, named);
      blocks = record { chain = handed.0; own = handed.1 };
      unchanged = search rules;
    })
