use denote.Param.{param}
use denote.Param.Send.{IsSync}
use Rattle.std.proofs.Common.{◌∙◌, ◌+◌, ℕ, List, [], inl, Ok, Err, refl, subst, sym}
use Rattle.std.proofs.lemmas.Result.{err_from_is_err_and}
use Rattle.std.specs.Global.{Vec}
use Rattle.cli_lines.specs.declared.failure.Failure.{Failure}
use Rattle.cli_lines.specs.declared.failure.Failure.TheVariants as failure
use Rattle.cli_lines.proofs.Printing.{nothing_same, part_none}
use Rattle.cli_peer.specs.Logged.{Reached}
use Rattle.cli_peer.specs.Peering.{DoesLine, EndsLine}
use Rattle.cli_peer.specs.Rounds.{input_of, left_behind}
use Rattle.cli_peer.specs.Running.{reached}
use Rattle.peer_answers.specs.Setting.{peer_of}
use Rattle.cli_peer.proofs.Filters.{HasDone, all_done, done_kept, line_ended, line_told, lines_told, none_done, one_done, tells_then}
use Rattle.cli_peer.proofs.Keeping.{Starts, all_lead, line_starts, starts_same, starts_then, stores_none, stores_read, stores_then}
use Rattle.cli_peer.proofs.Sharing.{sync_stored}
use Rattle.cli_peer.proofs.peering.do_lines.Goals as goal

pub loop-number-init : goal.loop-number-init
loop-number-init g c =
    record {
      reader = c.requires.reader;
      round = c.requires.round;
      kept = refl;
      stores = stores_none g.D.Write.contents {E = Failure} c.args.reader.now.peer (Ok (tt {0}));
      done = none_done (DoesLine (peer_of g.D.StoreFile.is_known c.args.setting.now.answering)) (left_behind c.args.round.now.lines.items c.args.lines.now.left)
          (reached c.args.reader.now) c.args.out.now;
    }

pub loop-number-preserved : goal.loop-number-preserved
loop-number-preserved g c =
    let inv = c.loop-number.invariant in
    let p = peer_of g.D.StoreFile.is_known c.args.setting.now.answering in
    let n = c.loop-number.number in
    let input = left_behind c.args.round.now.lines.items c.args.lines.now.left in
    let after = input_of c.next.new.self c.next.new.lines in
    let lent = c.next.new.self.line.items in
    let first = reached c.args.reader.now in
    let mid = reached c.loop-number.reader in
    let new = reached c.take_line.new.reader in
    let t = c.next.new.out in
    let told = done_kept (DoesLine p) input (left_behind c.loop-number.round.lines.items c.loop-number.lines.left) first n mid c.args.out.now c.loop-number.out t inv.done
    (λ text printed. c.in_ok-there.ensures.told c.args.out.now text printed) in
    record {
      reader = c.in_ok-take_line.ensures.reader;
      round = c.in_ok-take_line.ensures.round;
      kept = c.take_line.ensures.kept ∙ c.next.ensures.kept ∙ inv.kept;
      stores = stores_then g.D.Write.contents {E = Failure} c.args.reader.now.peer c.loop-number.reader.peer c.take_line.new.reader.peer (Ok (tt {0})) inv.stores.0 inv.stores.1
          c.in_ok-take_line.ensures.stores;
      done = subst (λ (ls : List (Vec ℕ)). HasDone (DoesLine p) input (left_behind ls c.next.new.lines.left) first (n + 1) new c.args.out.now c.take_line.new.out)
          (sym c.take_line.ensures.lines)
          (one_done (DoesLine p) (EndsLine p) input (input_of c.loop-number.round c.loop-number.lines) after c.in_ok-there.there lent first mid new n
          c.args.out.now t c.take_line.new.out (tt {0}) told c.in_ok-there.ensures.next c.if-not-there.false refl c.in_ok-take_line.ensures.does);
    }

pub returns-then-not-there-clause-answers : goal.returns-then-not-there-clause-answers
returns-then-not-there-clause-answers g c =
    let p = peer_of g.D.StoreFile.is_known c.args.setting.now.answering in
    let first = reached c.args.reader.now in
    let mid = reached c.loop-number.reader in
    let t = c.next.new.out in
    let told = done_kept (DoesLine p) (left_behind c.args.round.now.lines.items c.args.lines.now.left) (left_behind c.loop-number.round.lines.items c.loop-number.lines.left) first c.loop-number.number mid c.args.out.now c.loop-number.out t
    c.loop-number.invariant.done (λ text printed. c.in_ok-there.ensures.told c.args.out.now text printed) in
    all_done (DoesLine p) (EndsLine p) (left_behind c.args.round.now.lines.items c.args.lines.now.left) (input_of c.loop-number.round c.loop-number.lines) (input_of c.next.new.self c.next.new.lines) c.in_ok-there.there first mid c.loop-number.number
    c.args.out.now t (tt {0}) told c.in_ok-there.ensures.next c.if-not-there.true

pub returns-then-not-there-clause-told : goal.returns-then-not-there-clause-told
returns-then-not-there-clause-told g c =
    let contents = g.D.Write.contents in
    let p = peer_of g.D.StoreFile.is_known c.args.setting.now.answering in
    let input = left_behind c.args.round.now.lines.items c.args.lines.now.left in
    let left = left_behind c.loop-number.round.lines.items c.loop-number.lines.left in
    let first = c.args.reader.now in
    let mid = c.loop-number.reader in
    let t = c.next.new.out in
    let told = done_kept (DoesLine p) input left (reached first) c.loop-number.number (reached mid) c.args.out.now c.loop-number.out t
    c.loop-number.invariant.done (λ text printed. c.in_ok-there.ensures.told c.args.out.now text printed) in
    lines_told (DoesLine p) (EndsLine p) (λ (r : Reached). Starts contents first.peer mid.peer r.held.chain) input left (reached first) c.loop-number.number
    (reached mid) c.args.out.now t t told (part_none t t [] (nothing_same t)) (starts_same contents first.peer mid.peer c.loop-number.invariant.stores.1)

pub returns-then-not-there-clause-tells : goal.returns-then-not-there-clause-tells
returns-then-not-there-clause-tells g c =
    let p = peer_of g.D.StoreFile.is_known c.args.setting.now.answering in
    let told = done_kept (DoesLine p) (left_behind c.args.round.now.lines.items c.args.lines.now.left) (left_behind c.loop-number.round.lines.items c.loop-number.lines.left) (reached c.args.reader.now) c.loop-number.number
    (reached c.loop-number.reader) c.args.out.now c.loop-number.out c.next.new.out c.loop-number.invariant.done
    (λ text printed. c.in_ok-there.ensures.told c.args.out.now text printed) in
    (told.prints.more, told.prints.whole)

pub returns-in_err-take_line : goal.returns-in_err-take_line
returns-in_err-take_line g c =
    let by = err_from_is_err_and c.from_residual-in_err-take_line.result c.from_residual-in_err-take_line.ensures.1 in
    let inv = c.loop-number.invariant in
    let p = peer_of g.D.StoreFile.is_known c.args.setting.now.answering in
    let n = c.loop-number.number in
    let lent = c.next.new.self.line.items in
    let first = reached c.args.reader.now in
    let mid = reached c.loop-number.reader in
    let new = reached c.take_line.new.reader in
    let t = c.next.new.out in
    let told = done_kept (DoesLine p) (left_behind c.args.round.now.lines.items c.args.lines.now.left) (left_behind c.loop-number.round.lines.items c.loop-number.lines.left) first n mid c.args.out.now c.loop-number.out t inv.done
    (λ text printed. c.in_ok-there.ensures.told c.args.out.now text printed) in
    let u = c.take_line.new.out in
    let e = c.in_err-take_line.field-0.0 in
    let took = c.in_err-take_line.ensures in
    let input = left_behind c.args.round.now.lines.items c.args.lines.now.left in
    let before = input_of c.loop-number.round c.loop-number.lines in
    let after = input_of c.next.new.self c.next.new.lines in
    let ended = line_ended (DoesLine p) (EndsLine p) (Unit {0}) input before after c.in_ok-there.there lent first mid new n c.args.out.now t u e told
    c.in_ok-there.ensures.next c.if-not-there.false refl took.tells took.does in
    let contents = g.D.Write.contents in
    let one = c.args.reader.now.peer in
    let two = c.loop-number.reader.peer in
    let three = c.take_line.new.reader.peer in
    let starts = line_starts contents one two three inv.stores.1 (λ text. DoesLine p n mid lent text new) (EndsLine p n mid lent) t u took.told in
    rw (by.1, by.2) (record {
      tells = ended.0;
      answers = ended.1;
      told = line_told (DoesLine p) (EndsLine p) (λ (r : Reached). Starts contents one three r.held.chain) input before after c.in_ok-there.there lent first mid
          new n c.args.out.now t u told c.in_ok-there.ensures.next c.if-not-there.false refl
          (starts_then contents {A = Unit {0}} one two three (Err e) inv.stores.1 took.stores) starts;
      leads = tt;
      stores = stores_then g.D.Write.contents {A = Unit {0}} c.args.reader.now.peer c.loop-number.reader.peer c.take_line.new.reader.peer (Err e) inv.stores.0 inv.stores.1
          took.stores;
      kept = c.take_line.ensures.kept ∙ c.next.ensures.kept ∙ inv.kept;
    })

pub returns-in_err-there : goal.returns-in_err-there
returns-in_err-there g c =
    let by = err_from_is_err_and c.from_residual.result c.from_residual.ensures.1 in
    let p = peer_of g.D.StoreFile.is_known c.args.setting.now.answering in
    rw (by.1, by.2) (record {
      tells = tells_then c.args.out.now c.loop-number.out c.next.new.out c.in_err-there.field-0.0 c.loop-number.invariant.done.prints.more
          c.in_err-there.ensures.tells;
      answers = inl c.in_err-there.ensures.lost;
      told = lines_told (DoesLine p) (EndsLine p) (λ (r : Reached). Starts g.D.Write.contents c.args.reader.now.peer c.loop-number.reader.peer r.held.chain)
          (left_behind c.args.round.now.lines.items c.args.lines.now.left) (left_behind c.loop-number.round.lines.items c.loop-number.lines.left)
          (reached c.args.reader.now) c.loop-number.number (reached c.loop-number.reader) c.args.out.now c.loop-number.out c.next.new.out
          c.loop-number.invariant.done c.in_err-there.ensures.part
          (starts_same g.D.Write.contents c.args.reader.now.peer c.loop-number.reader.peer c.loop-number.invariant.stores.1);
      leads = tt;
      stores = stores_read g.D.Write.contents {A = Unit {0}} c.args.reader.now.peer c.loop-number.reader.peer (Err c.in_err-there.field-0.0) c.loop-number.invariant.stores.0
          c.loop-number.invariant.stores.1;
      kept = c.in_err-there.ensures.kept ∙ c.loop-number.invariant.kept;
    })

pub returns-clause-told : goal.returns-clause-told
returns-clause-told g c =
    let contents = g.D.Write.contents in
    let p = peer_of g.D.StoreFile.is_known c.args.setting.now.answering in
    let first = c.args.reader.now in
    let mid = c.loop-number.reader in
    let t = c.loop-number.out in
    lines_told (DoesLine p) (EndsLine p) (λ (r : Reached). Starts contents first.peer mid.peer r.held.chain)
    (left_behind c.args.round.now.lines.items c.args.lines.now.left) (left_behind c.loop-number.round.lines.items c.loop-number.lines.left) (reached first)
    c.loop-number.number (reached mid) c.args.out.now t t c.loop-number.invariant.done (part_none t t [] (nothing_same t))
    (starts_same contents first.peer mid.peer c.loop-number.invariant.stores.1)

pub returns-then-not-there-clause-kept : goal.returns-then-not-there-clause-kept
returns-then-not-there-clause-kept g c = c.next.ensures.kept ∙ c.loop-number.invariant.kept

pub returns-clause-kept : goal.returns-clause-kept
returns-clause-kept g c = c.loop-number.invariant.kept

pub returns-then-not-there-clause-leads : goal.returns-then-not-there-clause-leads
returns-then-not-there-clause-leads g c =
    let p = peer_of g.D.StoreFile.is_known c.args.setting.now.answering in
    let first = reached c.args.reader.now in
    let mid = reached c.loop-number.reader in
    all_lead p (left_behind c.args.round.now.lines.items c.args.lines.now.left) (input_of c.loop-number.round c.loop-number.lines)
    (input_of c.next.new.self c.next.new.lines) c.in_ok-there.there first mid c.loop-number.number c.args.out.now c.loop-number.out
    c.loop-number.invariant.done c.in_ok-there.ensures.next c.if-not-there.true

pub returns-then-not-there-clause-stores : goal.returns-then-not-there-clause-stores
returns-then-not-there-clause-stores g c = c.loop-number.invariant.stores

pub returns-clause-stores : goal.returns-clause-stores
returns-clause-stores g c =
    stores_read g.D.Write.contents {A = Unit {0}} c.args.reader.now.peer c.loop-number.reader.peer (Err failure.File) c.loop-number.invariant.stores.0
    c.loop-number.invariant.stores.1

-- ---- workers share the chain of its store

pub next-requires-sync-B : goal.next-requires-sync-B
next-requires-sync-B g c κs within =
    let sync_file : IsSync (param 2 g.row.D) = record { shared = c.type_bounds.sync-D.shared } in
    record { shared = (sync_stored (param 2 g.row.D) sync_file).shared }
