use Rattle.std.proofs.Common.{◌≤◌, length, arith}
use Rattle.policy_language.proofs.Whole.{is_text, is_only, is_caused, is_needed}
use Rattle.policy_language.proofs.reading.parse.Goals as goal

pub returns-clause-spelled : goal.returns-clause-spelled
returns-clause-spelled c =
    let few : length c.args.text.now ≤ 1024 = omega arith in
    is_text c.args.orgs.now c.args.text.now few c.whole.result (rw c.as_bytes-bytes.ensures.value at c.whole.ensures.made)

pub returns-clause-only : goal.returns-clause-only
returns-clause-only c =
    let few : length c.args.text.now ≤ 1024 = omega arith in
    is_only c.args.orgs.now c.args.text.now few c.whole.result (rw c.as_bytes-bytes.ensures.value at c.whole.ensures.made)

pub returns-clause-causes : goal.returns-clause-causes
returns-clause-causes c =
    let few : length c.args.text.now ≤ 1024 = omega arith in
    is_caused c.args.orgs.now c.args.text.now few c.whole.result (rw c.as_bytes-bytes.ensures.value at c.whole.ensures.made)

pub returns-clause-needed : goal.returns-clause-needed
returns-clause-needed c =
    let few : length c.args.text.now ≤ 1024 = omega arith in
    is_needed c.args.orgs.now c.args.text.now few c.whole.result (rw c.as_bytes-bytes.ensures.value at c.whole.ensures.made)

pub returns-clause-place : goal.returns-clause-place
returns-clause-place c = rw c.as_bytes-bytes.ensures.value at c.whole.ensures.place
