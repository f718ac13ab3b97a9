-- With Pe 0 nothing is taken from P, and P is not below it; what is made of CPL follows.
use mathlib.Core.Path.{◌≡◌, refl, sym, ap, ◌∙◌, subst}
use mathlib.Core.Bool.{Bool, true, false, ◌&&◌, not}
use mathlib.Core.List.{List, [], ◌∷◌}
use mathlib.Core.Logic.{by_cases}
use Prim.Native.Nat.{ℕ, ◌+◌, ◌-◌, ◌*◌, ◌<◌, ◌≤◌}
use native.Mathlib.Decide.{dec_lt}
use native.Mathlib.Omega.{arith}
use borrow.Author.Tests.{le-leb}
use lib.Dec.{leb, eqb}
use lib.ListN.{length, get_or}
use lib.Seq.{ext_get_or}
use Rattle.refusals.specs.Told.{done, Fault, demand, demand_at, or_else, unless, judged}
use Rattle.refusals.proofs.Laws.{or_else_fine_first, or_else_fine_next, demand_at_was, unless_done}
use Rattle.ranges.specs.Table.{temperature_ok, pressure_ok, compressibility_ok, ctl_ok, pulses_ok, reading_ok, meter_factor_ok, sediment_ok}
use Rattle.exact.specs.Rounding.{◌over◌, rounded, rounded_div}
use Rattle.octets.specs.Octets.{byte_at, word_at}
use Rattle.octets.specs.FirstToLast.{scan}
use Rattle.octets.proofs.FirstToLast.{faults, same, empty}
use Rattle.octets.proofs.Laws.{word-is, zero_each, zero_all}
use Rattle.group.specs.Listed.{listed}
use Rattle.group.proofs.Listed.{listed_value, listed_length}
use Rattle.group.specs.Repeatability.{first_group, nine_unless}
use Rattle.factors.specs.Fractions.{cpl}
use Rattle.factors.specs.Liquid.{liquid_ok, cpl_from}
use Rattle.factors.specs.Rounded.{cpl_at, combined_at}
use Rattle.factors.specs.Answers.{cpl_of}
use Rattle.factors.specs.declared.Liquid.{Liquid}
use Rattle.factors.specs.declared.Prover.{Prover}
use Rattle.run.specs.Record.{size_of, fields_from, run_from, run_at, side_ok, run_ok, unnamed_ok}
use Rattle.run.specs.declared.Form.TheVariants.{Short}
use Rattle.run.specs.Figures.{indicated, steel_cts, steel_cps, corrected_by, at_prover, at_meter, figures_from, figures_of}
use Rattle.run.specs.Answers.{record_fault, figures_fault}
use Rattle.run.specs.declared.Side.{Side}
use Rattle.run.specs.declared.Run.{Run}
use Rattle.run.specs.declared.Corrected.{Corrected}
use Rattle.run.specs.declared.Figures.{Figures}
use Rattle.report.specs.Judged.{report_of}
use Rattle.report.specs.declared.Report.{Report}
use Rattle.proving.specs.Judging.{runs_in, lent_fault, run_fault, settings_fault, input_fault}
use Rattle.proving.specs.Job.{factor_at, factors_of, first_five, found_of, five_at, report_at, job_of, accepted_by, accepted_of}
use Rattle.ticket.specs.Ranges.{ticket_ok}
use Rattle.ticket.specs.Formulas.{indicated as measured, factor, gross, net}
use Rattle.ticket.specs.Answers.{volumes, ticket_of}
use Rattle.ticket.specs.declared.Ticket.{Ticket}
use Rattle.promises.specs.Records.{Every}
use Rattle.promises.specs.ZeroGage.{cpl01, liquid_ok01, cpl_at01, side_ok01, run_ok01, unnamed_ok01, at_prover01, at_meter01, figures01}
use Rattle.promises.specs.ZeroGage.{record_fault01, run_fault01, input_fault01, factors01, found01, job01, accepted01, ticket_ok01, factor01, gross01, volumes01, ticket01, HoldsNone, ZeroGage}

-- ---- a liquid

module _ (liquid : Liquid) (none : liquid.equilibrium ≡ 0) where
  pub fraction : cpl_from liquid ≡ cpl01 liquid
  unfolding cpl_from cpl cpl01
  fraction = let whole : liquid.pressure - liquid.equilibrium ≡ liquid.pressure = omega (arith, none) in ap (λ (above : ℕ). 100000000 over 100000000 - liquid.compressibility * above) whole

  pub in-range : liquid_ok liquid ≡ liquid_ok01 liquid
  unfolding liquid_ok liquid_ok01
  in-range = ap (λ (pe : ℕ). pressure_ok liquid.pressure && (leb pe liquid.pressure && compressibility_ok liquid.compressibility)) none
      ∙ ap (λ (ok : Bool). pressure_ok liquid.pressure && (ok && compressibility_ok liquid.compressibility)) (le-leb 0 liquid.pressure (omega arith))

  at_places : (d : ℕ) → cpl_at d liquid ≡ cpl_at01 d liquid
  unfolding cpl_at cpl_at01
  at_places d = ap (rounded d) fraction

  pub cpl_answered : (d : ℕ) → cpl_of d liquid ≡ judged (demand (liquid_ok01 liquid) 5) (cpl_at01 d liquid)
  unfolding cpl_of
  cpl_answered d = λ i. judged (demand (in-range i) 5) (at_places d i)

-- ---- a run and its record

side_in_range : (side : Side) → side.liquid.equilibrium ≡ 0 → side_ok side ≡ side_ok01 side
unfolding side_ok side_ok01
side_in_range side none = ap (λ (ok : Bool). temperature_ok side.temperature && (ctl_ok side.ctl && ok)) (in-range side.liquid none)

module _ (run : Run) (none : HoldsNone run) where
  run_in_range : run_ok run ≡ run_ok01 run
  unfolding run_ok run_ok01
  run_in_range = λ i. pulses_ok run.pulses && (side_in_range run.prover none.prover i && side_in_range run.meter none.meter i)

  -- a run's figures by the two CPL that they are made with
  sheet : Prover → ℕ → ℕ → ℕ → Figures
  sheet prover k here there =
      let proved : Corrected = corrected_by prover.base here (steel_cts prover run ∷ steel_cps prover run ∷ run.prover.ctl ∷ here ∷ []) in
      let metered : Corrected = corrected_by (indicated run.pulses k) there (run.meter.ctl ∷ there ∷ []) in
      record {
        indicated = indicated run.pulses k;
        cts = steel_cts prover run;
        cps = steel_cps prover run;
        prover = proved;
        meter = metered;
        factor = rounded 4 (proved.volume over metered.volume);
      }

  same_figures : (prover : Prover) (k : ℕ) → figures_of prover k run ≡ figures01 prover k run
  unfolding figures_of figures_from at_prover at_meter figures01 at_prover01 at_meter01 sheet
  same_figures prover k = λ i. sheet prover k (at_places run.prover.liquid none.prover 4 i) (at_places run.meter.liquid none.meter 4 i)

-- a word of zero is two bytes of zero
in-word : (s : List ℕ) (at k : ℕ) → word_at s at ≡ 0 → at ≤ k → k < at + 2 → get_or s k 0 ≡ 0
unfolding byte_at
in-word s at k zeros low high =
    by_cases (dec_lt k (at + 1))
    (λ first. let is : at ≡ k = omega arith in subst (λ (j : ℕ). get_or s j 0 ≡ 0) is (omega (arith, word-is s at, zeros)))
    (λ second. let is : at + 1 ≡ k = omega arith in subst (λ (j : ℕ). get_or s j 0 ≡ 0) is (omega (arith, word-is s at, zeros)))

word_zero : (s : List ℕ) (at : ℕ) → get_or s at 0 ≡ 0 → get_or s (at + 1) 0 ≡ 0 → word_at s at ≡ 0
unfolding byte_at
word_zero s at first second = omega (arith, word-is s at, first, second)

-- zeros from byte 20 on are no Pe and zeros from byte 24 on, and the other way round
module _ (s : List ℕ) (i : ℕ) where
  pub none_held : unnamed_ok01 s i ≡ true → HoldsNone (run_at Short s i) × (unnamed_ok Short s i ≡ true)
  unfolding unnamed_ok01 unnamed_ok run_at run_from fields_from
  none_held zeros =
      let byte : (k : ℕ) → 32 * i + 20 ≤ k → k < 32 * i + 32 → get_or s k 0 ≡ 0 = zero_each s (32 * i + 20) (32 * i + 32) zeros in (
        record { prover = word_zero s (32 * i + 0 + 20) (byte _ (omega arith) (omega arith)) (byte _ (omega arith) (omega arith)); meter = word_zero s (32 * i + 0 + 22) (byte _ (omega arith) (omega arith)) (byte _ (omega arith) (omega arith)) },
        zero_all s (32 * i + 0 + 24) (32 * i + 32) (λ k low high. byte k (omega arith) high),
      )

  zeros_from_20 : HoldsNone (run_at Short s i) → unnamed_ok Short s i ≡ true → unnamed_ok01 s i ≡ true
  unfolding unnamed_ok01 unnamed_ok run_at run_from fields_from
  zeros_from_20 none zeros =
      zero_all s (32 * i + 20) (32 * i + 32) (λ k low high.
      by_cases (dec_lt k (32 * i + 22)) (λ first. in-word s (32 * i + 0 + 20) k none.prover (omega arith) (omega arith)) (λ later.
      by_cases (dec_lt k (32 * i + 24)) (λ second. in-word s (32 * i + 0 + 22) k none.meter (omega arith) (omega arith)) (λ last.
      zero_each s (32 * i + 0 + 24) (32 * i + 32) zeros k (omega arith) high)))

  same_record : HoldsNone (run_at Short s i) → lent_fault Short s i ≡ record_fault01 s i
  unfolding record_fault record_fault01
  same_record none =
      let unnamed : unnamed_ok Short s i ≡ unnamed_ok01 s i = alike (unnamed_ok Short s i) (unnamed_ok01 s i) (zeros_from_20 none) (λ zeros. (none_held zeros).1) in
      λ t. or_else (demand_at (run_in_range (run_at Short s i) none t) 5 (i + 1)) (demand_at (unnamed t) 2 (i + 1))
    where
      -- tests that hold together
      alike : (a b : Bool) → (a ≡ true → b ≡ true) → (b ≡ true → a ≡ true) → a ≡ b
      alike true b there back = sym (there refl)
      alike false true there back = back refl
      alike false false there back = refl

-- ---- a job

module _ (prover : Prover) (k limit : ℕ) (s : List ℕ) (none : Every (runs_in Short s) (λ i. HoldsNone (run_at Short s i))) where
  same_input : input_fault prover k limit Short s ≡ input_fault01 prover k limit s
  unfolding input_fault input_fault01 run_fault run_fault01
  same_input =
      let held : (i : ℕ) → i < 0 + runs_in Short s → HoldsNone (run_at Short s i) = λ i h. none i (omega (arith, h)) in
      let records : scan (lent_fault Short s) (runs_in Short s) 0 ≡ scan (record_fault01 s) (runs_in Short s) 0 = same faults (lent_fault Short s) (record_fault01 s) (runs_in Short s) 0 (λ i l h. same_record s i (held i h)) in
      let runs : scan (run_fault prover k Short s) (runs_in Short s) 0 ≡ scan (run_fault01 prover k s) (runs_in Short s) 0 =
      same faults (run_fault prover k Short s) (run_fault01 prover k s) (runs_in Short s) 0 (λ i l h. ap (λ (f : Figures). figures_fault f (i + 1)) (same_figures (run_at Short s i) (held i h) prover k)) in
      λ t. or_else (settings_fault prover k limit Short (length s)) (or_else (records t) (runs t))

  same_factors : factors_of prover k Short s ≡ factors01 prover k s
  unfolding factors_of factors01 factor_at
  same_factors =
      let f = factor_at prover k Short s in
      let g : ℕ → ℕ = λ i. (figures01 prover k (run_at Short s i)).factor in
      let few : (i : ℕ) → i < length (listed f (runs_in Short s) 0) → i < runs_in Short s = λ i h. omega (arith, h, listed_length f (runs_in Short s) 0) in
      ext_get_or 0 (listed f (runs_in Short s) 0) (listed g (runs_in Short s) 0) (listed_length f (runs_in Short s) 0 ∙ sym (listed_length g (runs_in Short s) 0)) (λ i h.
      listed_value f (runs_in Short s) 0 i (few i h) ∙ ap f (omega arith) ∙ ap (λ (x : Figures). x.factor) (same_figures (run_at Short s i) (none i (few i h)) prover k) ∙ sym (listed_value g (runs_in Short s) 0 i (few i h) ∙ ap g (omega arith)))

  pub job_answered : (request size : ℕ) → job_of request prover k limit Short s size ≡ job01 request prover k limit s size
  unfolding job_of job01 found01 first_five report_at
  job_answered request size = λ t.
      unless (or_else (demand (eqb size 32) 14) (demand (not (eqb request 0)) 22))
      (unless (same_input t)
      (nine_unless (first_group limit 5 (same_factors t)) (λ at. report_of request (runs_in Short s) (at + 1) (five_at (same_factors t) at))))

  pub runs_answered : accepted_of prover k limit Short s ≡ accepted01 prover k limit s
  unfolding accepted_of accepted01 found_of found01 first_five
  runs_answered = λ t. accepted_by (size_of Short) (unless (same_input t) (nine_unless (first_group limit 5 (same_factors t)) (λ at. at))) s

-- what 01 accepts holds no Pe in any record
pub accepted_so : (request : ℕ) (prover : Prover) (k limit : ℕ) (s : List ℕ) (size : ℕ) {report : Report} → job01 request prover k limit s size ≡ done report → job_of request prover k limit Short s size ≡ done report
unfolding job01 found01 input_fault01 record_fault01
accepted_so request prover k limit s size is =
    let asked : Fault = or_else (demand (eqb size 32) 14) (demand (not (eqb request 0)) 22) in
    let five = nine_unless (first_group limit 5 (factors01 prover k s)) (λ at. report_of request (runs_in Short s) (at + 1) (five_at (factors01 prover k s) at)) in
    let input = (unless_done (input_fault01 prover k limit s) five (unless_done asked (unless (input_fault01 prover k limit s) five) is).1).0 in
    let records = or_else_fine_first (scan (record_fault01 s) (runs_in Short s) 0) _ (or_else_fine_next (settings_fault prover k limit Short (length s)) _ input) in
    let zeros : (i : ℕ) → i < runs_in Short s → unnamed_ok01 s i ≡ true = λ i h.
    demand_at_was (unnamed_ok01 s i) 2 (i + 1)
    (or_else_fine_next (demand_at (run_ok01 (run_at Short s i)) 5 (i + 1)) _ (empty faults (record_fault01 s) (runs_in Short s) 0 records i (omega arith) (omega (arith, h)))) in
    job_answered prover k limit s (λ i h. (none_held s i (zeros i h)).0) request size ∙ is

-- ---- a ticket

module _ (t : Ticket) (none : t.liquid.equilibrium ≡ 0) where
  same_factor : factor t ≡ factor01 t
  unfolding factor factor01
  same_factor = λ i. combined_at 4 (t.mf ∷ t.ctl ∷ at_places t.liquid none 4 i ∷ [])

  pub ticket_answered : ticket_of t ≡ ticket01 t
  unfolding ticket_of ticket01 ticket_ok ticket_ok01 volumes volumes01 gross net gross01
  ticket_answered = λ i.
      judged
      (or_else (demand (reading_ok t.opening && (reading_ok t.closing && (meter_factor_ok t.mf && (ctl_ok t.ctl && (in-range t.liquid none i && sediment_ok t.sediment))))) 10)
      (demand (leb t.opening t.closing) 11))
      (record {
        factor = same_factor i;
        gross = rounded_div (measured t * same_factor i) 10000;
        net = rounded_div (rounded_div (measured t * same_factor i) 10000 * (100000 - t.sediment)) 100000;
      })

pub zero_gage : ZeroGage
zero_gage =
    record {
      fraction = fraction;
      in-range = in-range;
      cpl_as_before = λ d liquid none. cpl_answered liquid none d;
      holds_none = none_held;
      run_as_before = λ prover k run none. (run_in_range run none, same_figures run none prover k);
      job_as_before = λ request prover k limit s size none. job_answered prover k limit s none request size;
      runs_as_before = runs_answered;
      accepted_as_before = accepted_so;
      ticket_as_before = ticket_answered;
    }
