use Rattle.std.proofs.Common.{length}
use Rattle.chaincode_book.proofs.book.+show_held_valid.Given as goal

abbrev pub decreases-show_held_valid : goal.decreases-show_held_valid
decreases-show_held_valid l = length l.held.now
