use Rattle.std.proofs.Common.{◌≡◌, ◌++◌, [], ◌∷◌, rules}
use Rattle.std.specs.List.{flat_map}
use Rattle.cli_lines.specs.Lines.{head_text, payload_text, range_text, read_text, write_text}
use Rattle.cli_lines.specs.Told.{Prints, PrintsPart}
use Rattle.cli_lines.proofs.Printing.{on_err, part_front, part_then, printed_on_err, prints_then}
use Rattle.cli_lines.proofs.lines.print_payload.Goals as goal

pub returns-in_err-print_head-clause-part : goal.returns-in_err-print_head-clause-part
returns-in_err-print_head-clause-part g c =
    let p = c.args.payload.now in
    on_err c.from_residual.result _
    (part_front c.args.out.now c.print_head.new.out (head_text p)
    (flat_map read_text p.reads ∷ flat_map range_text p.ranges ∷ flat_map write_text p.writes ∷ []) c.in_err-print_head.ensures.part)

pub returns-in_err-print_reads-clause-part : goal.returns-in_err-print_reads-clause-part
returns-in_err-print_reads-clause-part g c =
    let p = c.args.payload.now in
    let t = c.args.out.now in
    let u = c.print_head.new.out in
    let v = c.print_reads.new.out in
    let head = head_text p in
    let part : PrintsPart u v (flat_map read_text p.reads) = search rules in
    on_err c.from_residual-in_err-print_reads.result _
    (part_front t v (head ++ flat_map read_text p.reads) (flat_map range_text p.ranges ∷ flat_map write_text p.writes ∷ [])
    (part_then t u v head (flat_map read_text p.reads) c.in_ok-print_head.ensures.prints part))

pub returns-in_err-print_ranges-clause-part : goal.returns-in_err-print_ranges-clause-part
returns-in_err-print_ranges-clause-part g c =
    let p = c.args.payload.now in
    let t = c.args.out.now in
    let s = c.print_head.new.out in
    let u = c.print_reads.new.out in
    let v = c.print_ranges.new.out in
    let reads = flat_map read_text p.reads in
    let head = head_text p ++ reads in
    let second : Prints s u reads = search rules in
    let before : Prints t u head = prints_then t s u (head_text p) reads c.in_ok-print_head.ensures.prints second in
    let part : PrintsPart u v (flat_map range_text p.ranges) = search rules in
    on_err c.from_residual-in_err-print_ranges.result _
    (part_front t v (head ++ flat_map range_text p.ranges) (flat_map write_text p.writes ∷ [])
    (part_then t u v head (flat_map range_text p.ranges) before part))

pub returns-clause-part : goal.returns-clause-part
returns-clause-part g c =
    let p = c.args.payload.now in
    let t = c.args.out.now in
    let s = c.print_head.new.out in
    let x = c.print_reads.new.out in
    let u = c.print_ranges.new.out in
    let v = c.print_writes.new.out in
    let items = c.as_slice-3.result.now in
    let same : items ≡ p.writes = search rules in
    let reads = flat_map read_text p.reads in
    let ranges = flat_map range_text p.ranges in
    let head = (head_text p ++ reads) ++ ranges in
    let second : Prints s x reads = search rules in
    let third : Prints x u ranges = search rules in
    let before : Prints t u head =
    prints_then t x u (head_text p ++ reads) ranges (prints_then t s x (head_text p) reads c.in_ok-print_head.ensures.prints second) third in
    printed_on_err c.print_writes.result (PrintsPart u v (flat_map write_text items)) (PrintsPart t v (payload_text p))
    (λ part. part_then t u v head (flat_map write_text p.writes) before (rw (← same) part)) c.print_writes.ensures.part
