use Rattle.fab_types.proofs.payload.PayloadPartsClone.clone.Goals as goal

pub returns : goal.returns
returns c = record {
  cases = λ i. record {
    proposal = c.in_ok-clone-5.ensures.cases i;
    result = c.in_ok-clone.ensures.cases i;
    reads = c.in_ok-clone-3.ensures.cases i;
    ranges = c.in_ok-clone-4.ensures.cases i;
    writes = c.in_ok-clone-2.ensures.cases i;
  };
}
