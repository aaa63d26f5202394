use Rattle.block_store.proofs.Fronts.{whole_front, bad_front}
use Rattle.block_store.proofs.front.behind.Goals as goal

pub returns-in-Some : goal.returns-in-Some
returns-in-Some c =
    whole_front c.args.number c.args.block c.args.bytes.now c.args.rest.now c.as_slice-count.result.now c.requires.is_block c.requires.bytes_are
    c.as_slice-count.ensures.value c.if-rest-count.false
    c.split_at.result.0.now c.split_at.result.1.now c.split_at-2.result.0.now c.split_at-2.result.1.now c.split_at.ensures.front c.split_at.ensures.back
    c.split_at-2.ensures.front c.split_at-2.ensures.back
    c.in_ok-record.field-0 c.in-Some.record c.in-Some.is c.in_ok-record.ensures

pub returns-in-None : goal.returns-in-None
returns-in-None c =
    bad_front c.args.number c.args.block c.args.bytes.now c.args.rest.now c.as_slice-count.result.now c.requires.is_block c.requires.bytes_are
    c.as_slice-count.ensures.value c.if-rest-count.false
    c.split_at.result.0.now c.split_at.result.1.now c.split_at-2.result.0.now c.split_at-2.result.1.now c.split_at.ensures.front c.split_at.ensures.back
    c.split_at-2.ensures.front c.split_at-2.ensures.back
    c.in_ok-record.field-0 c.in-None.is c.in_ok-record.ensures
