-- `draw::passing::Judged::find_trip` meets its contract: the sum of two rounded volumes is a word.
use Prim.Native.Nat.{◌+◌}
use Rattle.draw.specs.Profile.{out_pass, back_pass, trip_volume}
use Rattle.draw.proofs.passing.Judged.find_trip.Goals as goal

pub returns : goal.returns
unfolding trip_volume out_pass back_pass
returns c = λ i. c.find_pass-out.ensures.0 i + c.find_pass-back.ensures.0 i
