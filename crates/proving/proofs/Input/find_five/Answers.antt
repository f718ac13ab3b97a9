-- `proving::Input::find_five` meets its contract: the array begins with the runs' factors.
use Rattle.std.proofs.Common.{◌≡◌, ℕ, ◌+◌, ◌<◌, ◌≤◌, length, take, sym, ap, ◌∙◌, arith}
use Rattle.std.proofs.lemmas.Grind.{common_steps}
use lib.ListN.{length-take}
use Rattle.octets.specs.Records.{records_in}
use Rattle.refusals.specs.Answered.{told}
use Rattle.refusals.specs.Told.{done, unless}
use Rattle.group.specs.Repeatability.{first_group, nine_unless}
use Rattle.report.specs.declared.Factors.{Factors}
use Rattle.proving.proofs.Facts.{FoundAt, found_at, room, sought, five_listed, factor_small}
use Rattle.proving.proofs.Laws.{refused_alike}
use Rattle.proving.specs.Judging.{runs_in, input_fault}
use Rattle.proving.specs.Job.{first_five, found_of, five_from, five_of}
use Rattle.proving.proofs.Input.find_five.Goals.{After-count_runs-count, After-seek, In_ok-at}
use Rattle.proving.proofs.Input.find_five.Goals as goal

fits : (c : After-count_runs-count) → c.count_runs-count.result ≤ length c.in_ok-values.values
fits c = omega (arith, c.count_runs-count.ensures, room _ _ _ _ _ _ (sym c.in_ok-values.ensures.fault) c.in_ok-values.ensures.size)

-- the place is the one that is found
found : (c : After-seek) → told c.seek.result ≡ found_of c.args.self.prover c.args.self.k c.args.self.limit c.args.self.form c.args.self.records.now
found c =
    let v = c.in_ok-values in
    c.seek.ensures
    ∙ ap (λ (n : ℕ). nine_unless (first_group c.args.self.limit 5 (take n v.values)) (λ (at : ℕ). at)) c.count_runs-count.ensures
    ∙ sought _ _ _ _ _ _ (sym v.ensures.fault) v.ensures.size v.ensures.factors

pub returns-in_err-values : goal.returns-in_err-values
unfolding five_of
returns-in_err-values c = grind (arith, common_steps)

pub slice_bounds-values-end : goal.slice_bounds-values-end
slice_bounds-values-end c = fits (goal.at.slice_bounds-values-end c).After-count_runs-count

pub slice_bounds-seek-end : goal.slice_bounds-seek-end
slice_bounds-seek-end c = simp length-take (omega (arith, fits (goal.at.slice_bounds-seek-end c).After-count_runs-count))

pub returns-in_err-at : goal.returns-in_err-at
unfolding five_of found_of
returns-in_err-at c = let a = c.args.self in
    let none = sym (found (goal.at.returns-in_err-at c).After-seek) ∙ ap told c.in_err-at.was in
    let gone = refused_alike (input_fault a.prover a.k a.limit a.form a.records.now) (first_five a.prover a.k a.limit a.form a.records.now) (λ (at : ℕ). at) (five_from a.prover a.k a.form a.records.now) none in
    grind (arith, common_steps, gone)

facts : (c : In_ok-at) → told c.seek.result ≡ found_of c.args.self.prover c.args.self.k c.args.self.limit c.args.self.form c.args.self.records.now → FoundAt c.args.self.prover c.args.self.k c.args.self.limit c.args.self.form c.args.self.records.now c.in_ok-at.at
facts c is = found_at _ _ _ _ _ (sym is ∙ ap told c.in_ok-at.was)

pub take_five-requires : goal.take_five-requires
unfolding records_in
take_five-requires c = let at = c.in_ok-at.at in
    let f = facts (goal.at.take_five-requires c).In_ok-at (found (goal.at.take_five-requires c).After-seek) in
    let each = c.in_ok-values.ensures.factors in
    let inside : (i : ℕ) → i < 5 → at + i < runs_in c.args.self.form c.args.self.records.now = λ i h. omega (arith, f.inside) in
    (omega (arith, f.inside, f.settled.most), λ i h. omega (arith, each (at + i) (inside i h), factor_small (f.fit (at + i) (inside i h))))

pub returns : goal.returns
unfolding five_from five_of records_in
returns c = let a = c.args.self in
    let at = c.in_ok-at.at in
    let f = facts (goal.at.returns c).In_ok-at (found (goal.at.returns c).After-seek) in
    let five = c.take_five.ensures ∙ five_listed a.prover a.k a.form a.records.now c.in_ok-values.values at f.inside c.in_ok-values.ensures.factors in
    ap (λ (factors : Factors). done (record { at = at; factors = factors })) five
    ∙ sym (λ i. unless (f.judged i) (nine_unless (f.first i) (five_from a.prover a.k a.form a.records.now)))
