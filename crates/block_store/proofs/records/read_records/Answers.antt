use Rattle.std.proofs.Common.{◌≡◌, ◌∙◌, ◌++◌, ◌∷◌, List, [], ℕ, suc, ◌+◌, ◌-◌, take, drop, length, false, true, refl, sym, ap, subst, append_assoc, arith}
use Rattle.std.proofs.lemmas.List.{append-nil, drop-drop, length-drop}
use Rattle.std.proofs.Math.Seq.{drop-length}
use Rattle.fab_types.specs.Committed.{Committed}
use Rattle.block_store.specs.Front.{IsFront, IsWhole}
use Rattle.block_store.specs.Store.{Awaits, IsBeginning, IsDamaged}
use Rattle.block_store.specs.Progress.{Progress, Reads}
use Rattle.block_store.specs.declared.front.Front.{Front}
use Rattle.block_store.specs.declared.front.Front.TheVariants.{Whole}
use Rattle.block_store.proofs.Slices.{slice_to_end}
use Rattle.block_store.proofs.records.read_records.Goals as goal

pub returns-in-Beginning-clause-read : goal.returns-in-Beginning-clause-read
returns-in-Beginning-clause-read c =
    let n = c.loop-records.number in
    let bytes = c.args.bytes.now in
    let rest = drop c.loop-records.at bytes in
    let q : Progress = record { next = n; held = rest; is_damaged = false } in
    let begun : IsBeginning n rest =
    subst (λ (t : List ℕ). IsBeginning n t) (slice_to_end c.loop-records.at bytes)
    (subst (λ (f : Front). IsFront n (take (length bytes - c.loop-records.at) rest) f) c.in-Beginning.is c.in_ok-record.ensures).0 in
    subst (λ (cs : List Committed). Reads c.args.next bytes cs q) (append-nil c.loop-records.records.items)
    (c.loop-records.invariant.reads [] q (refl, (begun, refl)))

pub returns-in-Beginning-clause-awaits : goal.returns-in-Beginning-clause-awaits
returns-in-Beginning-clause-awaits c =
    let n = c.loop-records.number in
    let bytes = c.args.bytes.now in
    let rest = drop c.loop-records.at bytes in
    subst (λ (t : List ℕ). Awaits n t c.in-Beginning.needed) (slice_to_end c.loop-records.at bytes)
    (subst (λ (f : Front). IsFront n (take (length bytes - c.loop-records.at) rest) f) c.in-Beginning.is c.in_ok-record.ensures).1

pub returns-in-Damaged-clause-read : goal.returns-in-Damaged-clause-read
returns-in-Damaged-clause-read c =
    let n = c.loop-records.number in
    let bytes = c.args.bytes.now in
    let rest = drop c.loop-records.at bytes in
    let q : Progress = record { next = n; held = drop (length bytes) bytes; is_damaged = true } in
    let damaged : IsDamaged n rest =
    subst (λ (t : List ℕ). IsDamaged n t) (slice_to_end c.loop-records.at bytes)
    (subst (λ (f : Front). IsFront n (take (length bytes - c.loop-records.at) rest) f) c.in-Damaged.is c.in_ok-record.ensures) in
    subst (λ (cs : List Committed). Reads c.args.next bytes cs q) (append-nil c.loop-records.records.items)
    (c.loop-records.invariant.reads [] q (refl, (damaged, drop-length bytes)))

-- one record more
read_on : (next n at taken : ℕ) (bytes : List ℕ) (before now : List Committed) (r : Committed) → IsWhole n (drop at bytes) r taken → now ≡ before ++ r ∷ [] →
    ((cs : List Committed) (q : Progress) → Reads n (drop at bytes) cs q → Reads next bytes (before ++ cs) q) →
    (cs : List Committed) (q : Progress) → Reads (n + 1) (drop (at + taken) bytes) cs q → Reads next bytes (now ++ cs) q
read_on next n at taken bytes before now r w e reads cs q h =
    let more : n + 1 ≡ suc n = omega arith in
    let rest : Reads (suc n) (drop taken (drop at bytes)) cs q = subst (λ (m : ℕ). Reads m (drop taken (drop at bytes)) cs q) more
    (subst (λ (t : List ℕ). Reads (n + 1) t cs q) (sym (drop-drop taken at bytes)) h) in
    subst (λ (rs : List Committed). Reads next bytes rs q) (sym (ap (λ rs. rs ++ cs) e ∙ append_assoc before (r ∷ []) cs))
    (reads (r ∷ cs) q (drop taken (drop at bytes), w.is_record, w.bytes_are, rest))

whole : (c : goal.In_ok-push-in-Whole) → IsWhole c.loop-records.number (drop c.loop-records.at c.args.bytes.now) c.in-Whole.record c.in-Whole.taken
whole c =
    let n = c.loop-records.number in
    let at = c.loop-records.at in
    let bytes = c.args.bytes.now in
    let front : IsFront n (take (length bytes - at) (drop at bytes)) (Whole c.in-Whole.record c.in-Whole.taken) =
    subst (λ (f : Front). IsFront n (take (length bytes - at) (drop at bytes)) f) c.in-Whole.is c.in_ok-record.ensures in
    subst (λ (t : List ℕ). IsWhole n t c.in-Whole.record c.in-Whole.taken) (slice_to_end at bytes) front

pub loop-records-preserved : goal.loop-records-preserved
loop-records-preserved c =
    let w = whole c in
    let at = c.loop-records.at in
    let bytes = c.args.bytes.now in
    let inv = c.loop-records.invariant in
    record {
      reads = read_on c.args.next c.loop-records.number at c.in-Whole.taken bytes c.loop-records.records.items c.push.new.self.items c.in-Whole.record w
          c.in_ok-push-in-Whole.ensures.items inv.reads;
      at = omega (arith, inv.at, w.within, length-drop at bytes);
      number = omega (arith, w.is_record.block.number, w.is_record.block.block.header.number.1);
    }

pub loop-records-smaller : goal.loop-records-smaller
loop-records-smaller c =
    let w = whole c in
    omega (arith, c.loop-records.invariant.at, w.some, w.within, length-drop c.loop-records.at c.args.bytes.now)

pub overflow_add-number : goal.overflow_add-number
overflow_add-number c = omega (arith, c.loop-records.invariant.number)

pub returns-in-Damaged-clause-awaits : goal.returns-in-Damaged-clause-awaits
returns-in-Damaged-clause-awaits c = λ more short. absurd (omega (arith, short))
