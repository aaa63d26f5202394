-- Machines beside a log that is cut.
use Rattle.std.proofs.Common.{◌≡◌, ◌⊎◌, ◌∙◌, ◌++◌, inl, inr, ℕ, List, [], ◌∷◌, Option, Some, length, ap, ap₂, refl, subst, sym}
use Rattle.std.proofs.lemmas.List.{append-nil, append_assoc}
use Rattle.std.specs.Prelude.{slice_get}
use Rattle.fab_types.specs.declared.block.Block.{Block}
use Rattle.ledger_model.specs.Chain.{Bytes, Chain}
use Rattle.log_orderer.specs.Log.{ReadsEach}
use Rattle.log_orderer.specs.Marks.{marks_of}
use Rattle.orderer.specs.Ordering.{AreLimits, IsOpening, Ordering}
use Rattle.orderer.specs.declared.report.BatchReport.{BatchReport}
use Rattle.log_system.specs.Cuts.{IsCut}
use Rattle.log_system.specs.Machines.{Act, Does, DoesEach, Endorses, IsRead, Joins, Setting, unread}
use Rattle.log_system.proofs.Acting.{IsBehind, get_front}
use Rattle.log_system.proofs.Roles.{OneAnswers, read_front}

-- who has read the front of a log reads on
abbrev pub GoesOn : Type 0
GoesOn =
    (old between new : Ordering) (front back : List (List ℕ)) (first later : List (Option (List BatchReport))) → ReadsEach old front first between →
    ReadsEach between back later new → ReadsEach old (front ++ back) (first ++ later) new

-- the marks of the chain that a front made stand for it
abbrev pub ReadsOn : Type 0
ReadsOn =
    (unread here log : Ordering) (front back : List (List ℕ)) (answers later : List (Option (List BatchReport))) → IsOpening unread →
    AreLimits unread.limits → ReadsEach unread front answers here → here.pending ≡ [] → ReadsEach here back later log →
    (again : List (Option (List BatchReport))) × ReadsEach unread (marks_of here.chain ++ back) (again ++ later) log

-- of two beginnings of one list, one goes on behind the other
two_fronts : {A : Type 0} (xs ys us vs : List A) → xs ++ ys ≡ us ++ vs →
    ((more : List A) × (xs ≡ us ++ more) × (more ++ ys ≡ vs)) ⊎ ((more : List A) × (us ≡ xs ++ more))
two_fronts xs ys [] vs same = inl (xs, refl, same)
two_fronts [] ys (u ∷ us) vs same = inr (u ∷ us, refl)
two_fronts (x ∷ xs) ys (u ∷ us) vs same =
    let head : x ≡ u = cc in
    let tail : xs ++ ys ≡ us ++ vs = cc in
    elim (two_fronts xs ys us vs tail) [
      | inl past ↦ inl (past.0, ap₂ (λ z zs. z ∷ zs) head past.1, past.2)
      | inr within ↦ inr (within.0, ap₂ (λ z zs. z ∷ zs) (sym head) within.1)
    ]

-- who has read the marks is where the front ends
marks_read : ReadsOn → (s : Setting) (log cut : List (List ℕ)) (is : IsCut s log cut) →
    (again : List (Option (List BatchReport))) × ReadsEach (unread s) (marks_of is.here.chain) again is.here
marks_read on s log cut is =
    let marks = marks_of is.here.chain in
    let made = on (unread s) is.here is.here is.front [] is.answers [] (refl, refl) is.limits is.reads is.idle (refl, refl) in
    (made.0 ++ [], subst (λ (lines : List (List ℕ)). ReadsEach (unread s) lines (made.0 ++ []) is.here) (append-nil marks) made.1)

-- a block of the cut log is one of the log
log_has : IsBehind → OneAnswers → GoesOn → ReadsOn → (s : Setting) (log cut : List (List ℕ)) (place : ℕ) (block : Block) → IsCut s log cut →
    IsRead s cut place block → IsRead s log place block
log_has behind one onward on s log cut place block is read =
    let marks = marks_of is.here.chain in
    let again = marks_read on s log cut is in
    elim (two_fronts read.front read.back marks is.back (read.parts ∙ sym is.marks)) [
      | inl past ↦
          let all = subst (λ (lines : List (List ℕ)). ReadsEach (unread s) lines read.answers read.replica) past.1 read.reads in
          let split = read_front (unread s) read.replica marks past.0 read.answers all in
          let same = one (unread s) split.2 is.here marks split.0 again.0 split.4 again.1 in
          let rest = subst (λ (o : Ordering). ReadsEach o past.0 split.1 read.replica) same.1 split.5 in
          record {
            front = is.front ++ past.0;
            back = read.back;
            parts = append_assoc is.front past.0 read.back ∙ ap (λ (lines : List (List ℕ)). is.front ++ lines) past.2 ∙ is.parts;
            answers = is.answers ++ split.1;
            replica = read.replica;
            reads = onward (unread s) is.here read.replica is.front past.0 is.answers split.1 is.reads rest;
            there = read.there;
          }
      | inr within ↦
          let all = subst (λ (lines : List (List ℕ)). ReadsEach (unread s) lines again.0 is.here) within.1 again.1 in
          let begins = behind (unread s) is.here read.replica read.front within.0 again.0 read.answers all read.reads in
          record {
            front = is.front;
            back = is.back;
            parts = is.parts;
            answers = is.answers;
            replica = is.here;
            reads = is.reads;
            there = subst (λ (blocks : List Block). slice_get blocks place ≡ Some block) (sym begins.1)
                (get_front read.replica.chain begins.0 place block read.there);
          }
    ]

does_so : IsBehind → OneAnswers → GoesOn → ReadsOn → (s : Setting) (log cut : List (List ℕ)) (org : Bytes) (act : Act) (old new : Chain) → IsCut s log cut →
    Does s cut org old act new → Does s log org old act new
does_so behind one onward on s log cut org (Joins c) old new is does =
    (log_has behind one onward on s log cut (length old) c.block is does.0, does.1, does.2)
does_so behind one onward on s log cut org (Endorses p answer) old new is does = does

pub beside_log : IsBehind → OneAnswers → GoesOn → ReadsOn → (s : Setting) (log cut : List (List ℕ)) (org : Bytes) (acts : List Act) (old new : Chain) →
    IsCut s log cut → DoesEach s cut org old acts new → DoesEach s log org old acts new
beside_log behind one onward on s log cut org [] old new is does = does
beside_log behind one onward on s log cut org (act ∷ acts) old new is does = (
  does.0,
  does_so behind one onward on s log cut org act old does.0 is does.1,
  beside_log behind one onward on s log cut org acts does.0 new is does.2,
)
