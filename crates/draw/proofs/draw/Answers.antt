-- `draw::draw` meets its contract: refused as its volumes are, and otherwise decided by them.
use mathlib.Core.Path.{◌≡◌, sym}
use native.Mathlib.Omega.{arith}
use lib.ListN.{length, take}
use lib.Seq.{length-take-le}
use Rattle.draw.specs.Answers.{draw_of}
use Rattle.draw.proofs.Judged.{refusal_back}
use Rattle.draw.proofs.Outcome.{Found, volumes_found, draw_refused}
use Rattle.draw.proofs.draw.Goals.{In_ok-found}
use Rattle.draw.proofs.draw.Goals as goal

found : (c : In_ok-found) → Found c.args.profile c.args.prover c.args.records.now c.in_ok-found.found.volumes c.in_ok-found.found.count
found c = volumes_found c.args.profile c.args.prover c.args.records.now c.volumes.ensures.0 c.volumes.ensures.1 c.in_ok-found.was

used-length : (c : In_ok-found) → length (take c.in_ok-found.found.count c.in_ok-found.found.volumes) ≡ c.in_ok-found.found.count
used-length c = let f = found c in length-take-le c.in_ok-found.found.count c.in_ok-found.found.volumes (omega (arith, f.few, f.places))

pub returns-in_err-found : goal.returns-in_err-found
returns-in_err-found c = let a = c.args in
    refusal_back _ _ c.from_residual.ensures.1 (sym (draw_refused a.profile a.prover a.records.now c.volumes.ensures.0 c.in_err-found.was))

pub shared_ref_as_front-decide : goal.shared_ref_as_front-decide
shared_ref_as_front-decide c = (found (goal.at.shared_ref_as_front-decide c).In_ok-found).few

pub decide-requires : goal.decide-requires
decide-requires c = omega (arith, used-length (goal.at.decide-requires c).In_ok-found, (found (goal.at.decide-requires c).In_ok-found).few)

pub returns : goal.returns
unfolding draw_of
returns c = let f = found (goal.at.returns c).In_ok-found in rw (f.nothing, ← f.used) c.decide.ensures
