use Rattle.std.proofs.Common.{length}
use Rattle.chaincode_book.proofs.book.+show_valid.Given as goal

abbrev pub decreases-show_valid : goal.decreases-show_valid
decreases-show_valid l = length l.modules.now
