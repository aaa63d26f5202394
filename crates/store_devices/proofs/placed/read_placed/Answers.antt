use Rattle.std.proofs.Common.{◌≡◌, ◌-◌, ◌<◌, ◌^◌, ◌∙◌, false, true, Some, None, length, rules, subst}
use Rattle.block_store.specs.OneRecord.{IsRecordIn}
use Rattle.store_devices.specs.Places.{span_at}
use Rattle.store_devices.proofs.Lying.{all_there, filled_there, is_there, lies_at, read_there, written}
use Rattle.store_devices.proofs.placed.read_placed.Goals as goal

pub returns-in_err-read_exact_from-clause-stored : goal.returns-in_err-read_exact_from-clause-stored
returns-in_err-read_exact_from-clause-stored g c = λ cs are all held.
    let begin = c.in-Some.begin in
    let end = c.in-Some.end in
    let span : span_at c.args.places.now c.args.number ≡ Some (begin, end) = search rules in
    let size : length c.deref_mut.result.now ≡ end - begin = search rules in
    let room : end < 2 ^ 64 = search rules in
    let lies = lies_at cs c.args.places.now c.args.number begin end are all span in
    let never : g.D.StoreFile.is_known ≡ true → ⊥ = λ known.
    let wrong = all_there (false ≡ true) (g.D.Write.contents c.args.file.now) cs c.args.number begin end (length c.deref_mut.result.now) lies held size
    room (c.in_err-read_exact_from.ensures.known known) in
    cc in
    (search rules, λ known. absurd (never known))

pub returns-in-Some-2-clause-stored : goal.returns-in-Some-2-clause-stored
returns-in-Some-2-clause-stored g c = λ cs are all held.
    let begin = c.in-Some.begin in
    let end = c.in-Some.end in
    let span : span_at c.args.places.now c.args.number ≡ Some (begin, end) = search rules in
    let size : length c.deref_mut.result.now ≡ end - begin = search rules in
    let count : c.in_ok-bytes.bytes.len ≡ length c.read_exact_from.new.buffer = search rules in
    let read : c.deref.result.now ≡ c.read_exact_from.new.buffer =
    c.deref.ensures.value ∙ written c.in_ok-bytes.bytes.len c.read_exact_from.new.buffer c.in_ok-bytes.bytes.items count in
    let filled = filled_there (g.D.Write.contents c.args.file.now) cs begin end (length c.deref_mut.result.now) c.read_exact_from.new.buffer held size
    c.in_ok-read_exact_from.ensures.filled in
    let is : IsRecordIn c.args.number c.deref.result.now (Some c.in-Some-2.record) =
    subst (IsRecordIn c.args.number c.deref.result.now) c.in-Some-2.is c.in_ok-record.ensures in (
      read_there cs c.args.number begin end c.deref.result.now c.in-Some-2.record
          (lies_at cs c.args.places.now c.args.number begin end are all span) (read ∙ filled) is,
      λ known. tt,
    )

pub returns-clause-stored : goal.returns-clause-stored
returns-clause-stored g c = λ cs are all held.
    let begin = c.in-Some.begin in
    let end = c.in-Some.end in
    let span : span_at c.args.places.now c.args.number ≡ Some (begin, end) = search rules in
    let size : length c.deref_mut.result.now ≡ end - begin = search rules in
    let count : c.in_ok-bytes.bytes.len ≡ length c.read_exact_from.new.buffer = search rules in
    let read : c.deref.result.now ≡ c.read_exact_from.new.buffer =
    c.deref.ensures.value ∙ written c.in_ok-bytes.bytes.len c.read_exact_from.new.buffer c.in_ok-bytes.bytes.items count in
    let filled = filled_there (g.D.Write.contents c.args.file.now) cs begin end (length c.deref_mut.result.now) c.read_exact_from.new.buffer held size
    c.in_ok-read_exact_from.ensures.filled in
    let none : IsRecordIn c.args.number c.deref.result.now None =
    subst (IsRecordIn c.args.number c.deref.result.now) c.in-None.is c.in_ok-record.ensures in (
      tt,
      λ known. is_there cs c.args.number begin end c.deref.result.now (lies_at cs c.args.places.now c.args.number begin end are all span)
          (read ∙ filled) none,
    )
