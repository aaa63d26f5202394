use Rattle.wasm_num.specs.Laws.Fits.{binary_fits, unary_fits, compare_fits, convert_fits, unsigned-signed}
use Rattle.wasm_num.proofs.laws.results_are_words.Goals as goal

pub returns : goal.returns
returns c = record {
  binary = binary_fits;
  unary = unary_fits;
  compare = compare_fits;
  convert = convert_fits;
  reading = unsigned-signed;
}
