-- `lookup::round_to_half` meets its contract.
use Rattle.lookup.proofs.HalfDegree.{half_by_two}
use Rattle.lookup.proofs.round_to_half.Goals as goal

pub returns : goal.returns
returns c = half_by_two c.args.tenths
